-- What was good at some moment of a trace.
use Rattle.std.proofs.Common.{◌≡◌, ◌∙◌, ◌+◌, ◌<◌, ◌≤◌, ◌⊎◌, ℕ, List, [], ◌∷◌, Ok, Err, Option, None, Some, true, inl, inr, refl, sym, subst, arith}
use Rattle.std.specs.Prelude.{IsTrue, ⊤}
use Rattle.std.proofs.lemmas.Bool.{cases_lt}
use Rattle.stair_model.specs.Device.{cell_sector}
use Rattle.stair_model.specs.Geometry.{Geometry}
use Rattle.stair_rack.specs.Answers.{Ran, any_call, is_good}
use Rattle.stair_rack.specs.History.{Happening, slot_state}
use Rattle.stair_rack.specs.Sector.{content}
use Rattle.stair_rack.specs.declared.watcher.Event.{Event}
use Rattle.stair_rack.proofs.MomentLemmas.{at_some_wider, ran_join, ran_none}
use Rattle.stair_member.specs.Membership.{Membership}
use Rattle.stair_invariant.specs.Rebuilding.{Rebuild}
use Rattle.stair_invariant.specs.Session.{ArrayState, IsLiveIn}
use Rattle.stair_array.specs.Causes.{First, IsAllowed, IsNextChunk, UnderWay}
use Rattle.stair_array.specs.Machine.{Answer, Chunk, Dropped, EpochsSpent, Promoted, RebuildNext, Recover, ReplaceSlot, ScrubStripe, Step, TooFew}
use Rattle.stair_array.specs.Promise.{Ended, Ends, EndsIn, GoesOn, HasMade, Keeps, KeepsProgress, KeepsRebuild, Opened, Performs, Seen, Phase, Stays}
use Rattle.stair_array.proofs.OpenStepLemmas.{starts_open}
use Rattle.stair_command.specs.Action.{Create, Outcome, Survey}
use Rattle.stair_command.specs.Devices.{DeviceView, Devices, WorksAll, seen_of, session_after}
use Rattle.stair_command.specs.Kept.{HasMember}
use Rattle.stair_command.specs.Rebuilt.{stands_in}
use Rattle.stair_command.specs.Run.{history_of}
use Rattle.stair_command.specs.Sound.{AreSoundChunks, HasItem, IsPromotionOf, IsReplacementOf, IsScrubOf, IsSound, IsSoundChunk, IsSoundStart}
use Rattle.stair_command.specs.Trace.{TraceItem, Did, Stepped, AlongTrace}
use Rattle.stair_command.proofs.PromotedLaws.{geometry_stays, live_or_not, was_promoted}
use Rattle.stair_command.proofs.RebuiltLaws.{opened_fresh}
use Rattle.stair_command.proofs.RunLaws.{one_ran, works_ran}

-- ---- moments

-- what was good in a stretch was so in a longer one
pub sound_wider : (j k : ℕ) {old mid new later : List Happening} → Ran any_call old mid → Ran any_call new later → IsSound j k mid new → IsSound j k old later
sound_wider j k before after some =
    at_some_wider {a = any_call} {b = any_call} {P = λ h. is_good (content ((slot_state h j).sector k)) ≡ true} before after some

pub sound_later : (j k : ℕ) {old new later : List Happening} → Ran any_call new later → IsSound j k old new → IsSound j k old later
sound_later j k {old} after some = sound_wider j k (ran_none old) after some

-- ---- the slot that is under way

-- of an array that wasn't stopped each cell of its chunks so far is sound since `first`
abbrev AreSoundSoFar : List Happening → ArrayState → List Happening → Type 0
AreSoundSoFar first a h = (rebuild : Rebuild) → a.rebuild ≡ Some rebuild → (t i : ℕ) → t < rebuild.stripe → i < a.member.array.geometry.r
    → IsSound rebuild.slot (cell_sector a.member.array.geometry t i) first h

abbrev IsSoundSoFar : List Happening → Phase → List Happening → Type 0
IsSoundSoFar first (Opened a) h = a.stopped ≡ None → AreSoundSoFar first a h
IsSoundSoFar first _ h = ⊤

-- and so are the chunks before the one that comes next
before_next : (first h : List Happening) (was : ArrayState) (j u : ℕ) → AreSoundSoFar first was h → IsNextChunk was j u → (t i : ℕ) → t < u
    → i < was.member.array.geometry.r → IsSound j (cell_sector was.member.array.geometry t i) first h
before_next first h was j u sound (UnderWay rebuild is slot stripe) t i below row =
    subst (λ (k : ℕ). IsSound k (cell_sector was.member.array.geometry t i) first h) slot
    (sound rebuild is t i (subst (λ (k : ℕ). t < k) (sym stripe) below) row)
before_next first h was j u sound (First none lowest begins) t i below row = absurd (let never : t < 0 = subst (λ (k : ℕ). t < k) begins below in omega (arith, never))

-- where none is under way
none_so_far : (first h : List Happening) (session : Phase) → stands_in session ≡ None → IsSoundSoFar first session h
none_so_far first h (Opened a) none = λ going rebuild is. absurd (never a.rebuild none rebuild is)
  where
    never : (found : Option Rebuild) → stands_in (Opened (record a { rebuild = found })) ≡ None → (rebuild : Rebuild) → found ≡ Some rebuild → ⊥
    never None none rebuild is = cc
    never (Some r) none rebuild is = cc
none_so_far first h _ none = tt

-- ---- one step

module _ (first old new : List Happening) (was is : ArrayState) (same : is.member.array.geometry ≡ was.member.array.geometry)
    (since : Ran any_call first old) (ran : Ran any_call old new) where
  abbrev g : Geometry
  g = is.member.array.geometry

  -- the chunks before the one that comes next, in the end
  then_before : AreSoundSoFar first was old → (j u : ℕ) → IsNextChunk was j u → (t i : ℕ) → t < u → i < g.r → IsSound j (cell_sector g t i) first new
  then_before sound j u next t i below row =
      subst (λ (of : Geometry). IsSound j (cell_sector of t i) first new) (sym same)
      (sound_later j (cell_sector was.member.array.geometry t i) ran
      (before_next first old was j u sound next t i below (subst (λ (of : Geometry). i < of.r) same row)))

  progress_so_far : KeepsProgress was is → AreSoundSoFar first was old → AreSoundSoFar first is new
  progress_so_far (Stays kept rebuilt) sound rebuild found t i below row =
      subst (λ (of : Geometry). IsSound rebuild.slot (cell_sector of t i) first new) (sym same)
      (sound_later rebuild.slot (cell_sector was.member.array.geometry t i) ran
      (sound rebuild (sym kept ∙ found) t i below (subst (λ (of : Geometry). i < of.r) same row)))
  progress_so_far (Ended ended before not none) sound rebuild found t i below row = absurd (let never : None ≡ Some rebuild = sym none ∙ found in cc)

  none_then : is.rebuild ≡ None → AreSoundSoFar first is new
  none_then none rebuild found t i below row = absurd (let never : None ≡ Some rebuild = sym none ∙ found in cc)

  -- one chunk more
  chunk_so_far : (j u : ℕ) → IsNextChunk was j u → AreSoundSoFar first was old → ((i : ℕ) → i < g.r → IsSound j (cell_sector g u i) old new)
      → is.rebuild ≡ Some (record { slot = j; stripe = u + 1 }) → AreSoundSoFar first is new
  chunk_so_far j u next sound made next_is rebuild found t i below row =
      let at : Rebuild = record { slot = j; stripe = u + 1 } in
      let both : Some at ≡ Some rebuild = sym next_is ∙ found in
      let one : at ≡ rebuild = cc in
      subst (λ (r : Rebuild). IsSound r.slot (cell_sector g t i) first new) one (cell (subst (λ (r : Rebuild). t < r.stripe) (sym one) below))
    where
      cell : t < u + 1 → IsSound j (cell_sector g t i) first new
      cell upto =
          elim (cases_lt t u) [
            | inl sooner ↦ then_before sound j u next t i sooner row
            | inr past ↦
                let same_stripe : u ≡ t = omega (arith, upto, past) in
                subst (λ (s : ℕ). IsSound j (cell_sector g s i) first new) same_stripe (sound_wider j (cell_sector g u i) since (ran_none new) (made i row))
          ]

  -- and the last one, with the promotion
  all_promoted : (j u : ℕ) → IsNextChunk was j u → was.member.array.geometry.stripes ≤ u + 1 → AreSoundSoFar first was old
      → ((t i : ℕ) → IsNextChunk was j t → t < g.stripes → i < g.r → IsSound j (cell_sector g t i) old new) → AreSoundChunks g j first new
  all_promoted j u next last sound made t below i row =
      elim (cases_lt t u) [
        | inl sooner ↦ then_before sound j u next t i sooner row
        | inr past ↦
            let within : t < was.member.array.geometry.stripes = subst (λ (of : Geometry). t < of.stripes) same below in
            let same_stripe : u ≡ t = omega (arith, last, within, past) in
            sound_wider j (cell_sector g t i) since (ran_none new) (made t i (subst (IsNextChunk was j) same_stripe next) below row)
      ]

-- ---- items

-- after a step that isn't the opening, and after one that was done, the session has the array as it is next_is
open_then : (step : Step) (answer : Answer step) (is : ArrayState) (session : Phase) → (step ≡ Recover → ⊥) → EndsIn step answer is session
    → HasMember session is.member
open_then step answer is session other (Ends recovers err closed) = absurd (other recovers)
open_then step answer is session other (GoesOn ok keeps opened) = subst (λ (s : Phase). HasMember s is.member) (sym opened) refl

module _ {R W : Type 0} (view : DeviceView R W) (honest : IsTrue view.rack.honest) where
  abbrev h_of : Devices R W → List Happening
  h_of x = history_of view x

  moves_so_far : (first : List Happening) (step : Step) (answer : Answer step) (x y : Devices R W) (was is : ArrayState)
      → is.member.array.geometry ≡ was.member.array.geometry → Ran any_call first (h_of x) → Ran any_call (h_of x) (h_of y) → (step ≡ Recover → ⊥)
      → KeepsRebuild step answer was is → IsAllowed step answer was → HasMade step answer was is.member (seen_of view x).told (seen_of view y).told
      → Keeps answer is.stopped → is.stopped ≡ None → AreSoundSoFar first was (h_of x) → AreSoundSoFar first is (h_of y)
  moves_so_far first RebuildNext (Ok (Chunk j t)) x y was is same since ran other kept allowed made keeps going sound =
      chunk_so_far first (h_of x) (h_of y) was is same since ran j t allowed sound made kept.2
  moves_so_far first RebuildNext (Ok (Promoted j)) x y was is same since ran other kept allowed made keeps going sound =
      none_then first (h_of x) (h_of y) was is same since ran kept.0
  moves_so_far first RebuildNext (Ok (Dropped j)) x y was is same since ran other kept allowed made keeps going sound =
      none_then first (h_of x) (h_of y) was is same since ran kept.0
  moves_so_far first RebuildNext (Err (TooFew whys)) x y was is same since ran other kept allowed made keeps going sound =
      absurd (let never = sym going ∙ keeps.1 in cc)
  moves_so_far first RebuildNext (Err EpochsSpent) x y was is same since ran other kept allowed made keeps going sound =
      absurd (let never = sym going ∙ keeps.1 in cc)
  moves_so_far first Recover answer x y was is same since ran other kept allowed made keeps going sound = absurd (other refl)
  moves_so_far first _ _ x y was is same since ran other kept allowed made keeps going sound =
      progress_so_far first (h_of x) (h_of y) was is same since ran kept sound

  step_so_far : (first : List Happening) (step : Step) (answer : Answer step) (events : List Event) (x y : Devices R W) → (step ≡ Recover → ⊥)
      → (does : Performs step answer events (seen_of view x) (seen_of view y)) → Ran any_call first (h_of x) → IsSoundSoFar first x.session (h_of x)
      → IsSoundSoFar first y.session (h_of y)
  step_so_far first step answer events x y other does since so_far =
      let open_at = starts_open step other does.was x.session does.starts in
      let sound : AreSoundSoFar first does.was (h_of x) = (subst (λ (s : Phase). IsSoundSoFar first s (h_of x)) open_at.is_open so_far) open_at.unstopped in
      elim does.ends [
        | Ends is err closed ↦ absurd (other is)
        | GoesOn ok keeps opened ↦
            subst (λ (s : Phase). IsSoundSoFar first s (h_of y)) (sym opened)
            (λ going. moves_so_far first step answer x y does.was does.is does.goes_on.geometry since (does.later.ran honest) other does.rebuild does.allowed
            (does.made honest) keeps going sound)
      ]

  opening_so_far : (first : List Happening) (answer : Answer Recover) (events : List Event) (x y : Devices R W)
      → (does : Performs Recover answer events (seen_of view x) (seen_of view y)) → IsSoundSoFar first y.session (h_of y)
  opening_so_far first answer events x y does =
      elim does.ends [
        | Ends is err closed ↦ subst (λ (s : Phase). IsSoundSoFar first s (h_of y)) (sym closed) tt
        | GoesOn ok keeps opened ↦
            subst (λ (s : Phase). IsSoundSoFar first s (h_of y)) (sym opened)
            (λ going rebuild found.
            absurd (let never : None ≡ Some rebuild = sym (opened_fresh answer does.was does.is does.rebuild (ok refl)) ∙ found in cc))
      ]

  looked : (first : List Happening) (outcome : Outcome Survey) (y : Devices R W) → IsSoundSoFar first (session_after outcome) (h_of y)
  looked first (Ok m) y = tt
  looked first (Err fault) y = tt

  again_so_far : (first : List Happening) (x y : Devices R W) → seen_of view y ≡ seen_of view x → IsSoundSoFar first x.session (h_of x)
      → IsSoundSoFar first y.session (h_of y)
  again_so_far first x y same so_far = subst (λ (z : Seen). IsSoundSoFar first z.session z.told.history) (sym same) so_far

  so_far_on : (first : List Happening) (item : TraceItem) (x y : Devices R W) → Ran any_call first (h_of x) → IsSoundSoFar first x.session (h_of x)
      → WorksAll view item x y → IsSoundSoFar first y.session (h_of y)
  so_far_on first (Stepped Recover answer events left) x y since so_far works =
      elim works.0 [ inl does ↦ opening_so_far first answer events x y does | inr again ↦ again_so_far first x y again.same so_far ]
  so_far_on first (Stepped step answer events left) x y since so_far works =
      elim works.0 [
        | inl does ↦ step_so_far first step answer events x y (λ same. cc) does since so_far
        | inr again ↦ again_so_far first x y again.same so_far
      ]
  so_far_on first (Did (Create g) outcome) x y since so_far works = subst (λ (s : Phase). IsSoundSoFar first s (h_of y)) (sym works.2) tt
  so_far_on first (Did Survey outcome) x y since so_far works =
      subst (λ (s : Phase). IsSoundSoFar first s (h_of y)) (sym works.2) (looked first outcome y)
  so_far_on first item x y since so_far works = subst (λ (z : Devices R W). IsSoundSoFar first z.session (h_of z)) (sym works) so_far

  -- ---- promotions

  promoted_at : (first : List Happening) (item : TraceItem) (x y : Devices R W) (j : ℕ) → IsPromotionOf j item → WorksAll view item x y
      → Ran any_call first (h_of x) → IsSoundSoFar first x.session (h_of x)
      → (m : Membership) × HasMember y.session m × AreSoundChunks m.array.geometry j first (h_of y)
  promoted_at first (Stepped RebuildNext (Ok (Promoted slot)) events left) x y j is works since so_far =
      elim works.0 [
        | inr again ↦ absurd (let never = again.answered in cc)
        | inl does ↦
            let open_at = starts_open RebuildNext (λ same. cc) does.was x.session does.starts in
            let sound : AreSoundSoFar first does.was (h_of x) = (subst (λ (s : Phase). IsSoundSoFar first s (h_of x)) open_at.is_open so_far) open_at.unstopped in (
              does.is.member,
              open_then RebuildNext (Ok (Promoted slot)) does.is y.session (λ same. cc) does.ends,
              subst (λ (k : ℕ). AreSoundChunks does.is.member.array.geometry k first (h_of y)) is
                  (all_promoted first (h_of x) (h_of y) does.was does.is does.goes_on.geometry since (does.later.ran honest) slot does.allowed.0 does.allowed.1
                  (does.rebuild.2 does.allowed.0 does.allowed.1) sound (does.made honest)),
            )
      ]
  promoted_at first _ x y j is works since so_far = absurd is

  promoted_in : (first : List Happening) (trace : List TraceItem) (x y : Devices R W) (works : AlongTrace (WorksAll view) trace x y) → Ran any_call first (h_of x)
      → IsSoundSoFar first x.session (h_of x) → (last : Membership) → HasMember y.session last → (j : ℕ) → HasItem (IsPromotionOf j) trace
      → AreSoundChunks last.array.geometry j first (h_of y)
  promoted_in first [] x y works since so_far last ends j has = absurd has
  promoted_in first (item ∷ trace) x y works since so_far last ends j (inl is) =
      let at = promoted_at first item x works.0 j is works.1 since so_far in
      let same = geometry_stays view trace works.0 y at.0 last works.2 at.1 ends in
      subst (λ (g : Geometry). AreSoundChunks g j first (h_of y)) (sym same)
      (λ t below i row. sound_later j (cell_sector at.0.array.geometry t i) (works_ran view honest trace works.0 y works.2) (at.2 t below i row))
  promoted_in first (item ∷ trace) x y works since so_far last ends j (inr later) =
      promoted_in first trace works.0 y works.2 (ran_join since (one_ran view honest item x works.0 works.1))
      (so_far_on first item x works.0 since so_far works.1) last ends j later

  open_last : (y : Devices R W) (last : ArrayState) → y.session ≡ Opened last → HasMember y.session last.member
  open_last y last opened = subst (λ (s : Phase). HasMember s last.member) (sym opened) refl

  pub promoted_sound : (trace : List TraceItem) (x y : Devices R W) (works : AlongTrace (WorksAll view) trace x y) (last : ArrayState) (j : ℕ)
      → stands_in x.session ≡ None → y.session ≡ Opened last → HasItem (IsPromotionOf j) trace
      → AreSoundChunks last.member.array.geometry j (h_of x) (h_of y)
  promoted_sound trace x y works last j none opened has =
      promoted_in (h_of x) trace x y works (ran_none (h_of x)) (none_so_far (h_of x) (h_of x) x.session none) last.member (open_last y last opened) j has

  -- ---- replacements

  replaced_at : (item : TraceItem) (x y : Devices R W) (j : ℕ) → IsReplacementOf j item → WorksAll view item x y
      → (m : Membership) × HasMember y.session m × IsSoundStart m.array.geometry j (h_of x) (h_of y)
  replaced_at (Stepped (ReplaceSlot slot) (Ok done) events left) x y j is works =
      elim works.0 [
        | inr again ↦ absurd (let never = again.answered in cc)
        | inl does ↦ (
          does.is.member,
          open_then (ReplaceSlot slot) (Ok done) does.is y.session (λ same. cc) does.ends,
          subst (λ (k : ℕ). IsSoundStart does.is.member.array.geometry k (h_of x) (h_of y)) is (does.made honest),
        )
      ]
  replaced_at _ x y j is works = absurd is

  pub replaced_sound : (trace : List TraceItem) (x y : Devices R W) (works : AlongTrace (WorksAll view) trace x y) (last : ArrayState) (j : ℕ) → y.session ≡ Opened last
      → HasItem (IsReplacementOf j) trace → IsSoundStart last.member.array.geometry j (h_of x) (h_of y)
  replaced_sound [] x y works last j opened has = absurd has
  replaced_sound (item ∷ trace) x y works last j opened (inl is) =
      let at = replaced_at item x works.0 j is works.1 in
      let same = geometry_stays view trace works.0 y at.0 last.member works.2 at.1 (open_last y last opened) in
      subst (λ (g : Geometry). IsSoundStart g j (h_of x) (h_of y)) (sym same)
      (λ k below. sound_later j k (works_ran view honest trace works.0 y works.2) (at.2 k below))
  replaced_sound (item ∷ trace) x y works last j opened (inr later) = λ k below.
      sound_wider j k (one_ran view honest item x works.0 works.1) (ran_none (h_of y)) (replaced_sound trace works.0 y works.2 last j opened later k below)

  -- ---- scrubs

  scrubbed_at : (item : TraceItem) (x y : Devices R W) (t : ℕ) → IsScrubOf t item → WorksAll view item x y
      → (m : Membership) × HasMember y.session m × (t < m.array.geometry.stripes)
      × ((j : ℕ) → IsLiveIn m j → IsSoundChunk m.array.geometry j t (h_of x) (h_of y))
  scrubbed_at (Stepped (ScrubStripe stripe) (Ok count) events left) x y t is works =
      elim works.0 [
        | inr again ↦ absurd (let never = again.answered in cc)
        | inl does ↦ (
          does.is.member,
          open_then (ScrubStripe stripe) (Ok count) does.is y.session (λ same. cc) does.ends,
          subst (λ (s : ℕ). s < does.is.member.array.geometry.stripes) is
              (subst (λ (g : Geometry). stripe < g.stripes) (sym does.goes_on.geometry) does.allowed),
          λ j live. subst (λ (s : ℕ). IsSoundChunk does.is.member.array.geometry j s (h_of x) (h_of y)) is (λ i row. does.made honest i j row live),
        )
      ]
  scrubbed_at _ x y t is works = absurd is

  -- a stripe that was scrubbed is one of the array
  scrubbed_below : (trace : List TraceItem) (x y : Devices R W) (works : AlongTrace (WorksAll view) trace x y) (last : ArrayState) (t : ℕ) → y.session ≡ Opened last
      → HasItem (IsScrubOf t) trace → t < last.member.array.geometry.stripes
  scrubbed_below [] x y works last t opened has = absurd has
  scrubbed_below (item ∷ trace) x y works last t opened (inl is) =
      let at = scrubbed_at item x works.0 t is works.1 in
      let same = geometry_stays view trace works.0 y at.0 last.member works.2 at.1 (open_last y last opened) in
      subst (λ (g : Geometry). t < g.stripes) (sym same) at.2
  scrubbed_below (item ∷ trace) x y works last t opened (inr later) = scrubbed_below trace works.0 y works.2 last t opened later

  module _ (last : ArrayState) (t j : ℕ) (none : last.stopped ≡ None) (live : IsLiveIn last.member j) where
    -- the cells were good by the scrub, or the slot was promoted since
    scrubbed_or_promoted : (trace : List TraceItem) (x y : Devices R W) (works : AlongTrace (WorksAll view) trace x y) → y.session ≡ Opened last
        → HasItem (IsScrubOf t) trace
        → IsSoundChunk last.member.array.geometry j t (h_of x) (h_of y) ⊎ HasItem (IsPromotionOf j) trace
    scrubbed_or_promoted [] x y works opened has = absurd has
    scrubbed_or_promoted (item ∷ trace) x y works opened (inl is) =
        let at = scrubbed_at item x works.0 t is works.1 in
        let same = geometry_stays view trace works.0 y at.0 last.member works.2 at.1 (open_last y last opened) in
        elim (live_or_not at.0 j (subst (λ (g : Geometry). j < g.n) same live.below)) [
          | inl up ↦
              inl (subst (λ (g : Geometry). IsSoundChunk g j t (h_of x) (h_of y)) (sym same)
              (λ i row. sound_later j (cell_sector at.0.array.geometry t i) (works_ran view honest trace works.0 y works.2) (at.3 j up i row)))
          | inr dead ↦ inr (inr (was_promoted view j last none live trace works.0 y works.2 at.0 at.1 opened dead))
        ]
    scrubbed_or_promoted (item ∷ trace) x y works opened (inr later) =
        elim (scrubbed_or_promoted trace works.0 y works.2 opened later) [
          | inl sound ↦
              inl (λ i row. sound_wider j (cell_sector last.member.array.geometry t i) (one_ran view honest item x works.0 works.1) (ran_none (h_of y)) (sound i row))
          | inr promoted ↦ inr (inr promoted)
        ]

    pub scrubbed_sound : (trace : List TraceItem) (x y : Devices R W) (works : AlongTrace (WorksAll view) trace x y) → stands_in x.session ≡ None
        → y.session ≡ Opened last → HasItem (IsScrubOf t) trace → IsSoundChunk last.member.array.geometry j t (h_of x) (h_of y)
    scrubbed_sound trace x y works fresh opened has =
        elim (scrubbed_or_promoted trace x y works opened has) [
          | inl sound ↦ sound
          | inr promoted ↦ promoted_sound trace x y works last j fresh opened promoted t (scrubbed_below trace x y works last t opened has)
        ]
