-- Each cell of a scrubbed stripe on a slot that is live in the end was sound at a moment of the scrub, on an honest rack.
use Rattle.std.proofs.Common.{◌≡◌, ℕ, ◌<◌, List, inl, inr, refl, sym, ap, ◌∙◌, subst, None, Option, Some}
use Rattle.std.specs.Prelude.{⊤, IsTrue, Ok, Result, true}
use Rattle.std.proofs.lemmas.Bool.{cases_Bool, false≢true}
use Rattle.stair_model.specs.CellSet.{HasCell, cell_count, has_cell}
use Rattle.stair_model.specs.Device.{cell_sector}
use Rattle.stair_model.specs.Geometry.{Geometry}
use Rattle.stair_model.specs.Slots.{HasSlot, Slots}
use Rattle.stair_model.specs.Stripe.{Stripe, cell}
use Rattle.stair_rack.specs.Answers.{any_call, is_good}
use Rattle.stair_rack.specs.History.{Happening, slot_state}
use Rattle.stair_rack.specs.Moments.{AtSomeMoment}
use Rattle.stair_rack.specs.Passes.{Landed}
use Rattle.stair_rack.specs.Sector.{Cell, Good, content}
use Rattle.stair_rack.proofs.MomentLemmas.{at_some_mapped, at_some_wider, ran_none}
use Rattle.stair_rack.proofs.ReadLemmas.{was_read_found}
use Rattle.stair_member.specs.Membership.{IsMembership}
use Rattle.stair_member.specs.declared.fault.FenceFault.{FenceFault}
use Rattle.stair_journal.specs.Redo.{IsRedo}
use Rattle.stair_journal.specs.declared.redo.Redo.{Redo}
use Rattle.stair_stripes.specs.Gathering.{IsCellOf}
use Rattle.stair_stripes.specs.Placing.{cell_writes}
use Rattle.stair_stripes.specs.declared.gathering.Gathered.{Gathered}
use Rattle.stair_stripes.proofs.PlacingLemmas.{cell_writes_cell}
use Rattle.stair_state.specs.Redoing.{AtRest, Done, InPlace, Placing, Stage, Uncommitted, next}
use Rattle.stair_invariant.specs.Effects.{DoesStage, IsOver, Loads, Snapshot, Redoes, TakePart, snapshot, stage_writes}
use Rattle.stair_invariant.specs.Session.{IsLiveIn}
use Rattle.stair_array.specs.Calls.{answer_of}
use Rattle.stair_array.specs.Machine.{Refusal}
use Rattle.stair_array.specs.Mends.{Scrubs}
use Rattle.stair_array.specs.Promise.{WasSound}
use Rattle.stair_array.proofs.AnsweredLemmas.{honest_before}
use Rattle.stair_array.proofs.CourseLemmas.{load_part, redo_part, redo_stage_part}
use Rattle.stair_array.proofs.GoneToLemmas.{IsAfter, after_none}
use Rattle.stair_array.proofs.OutLemmas.{left_live, left_not}
use Rattle.stair_array.proofs.PartsLemmas.{IsPart, live_back, out_after}
use Rattle.stair_array.proofs.ScrubCourseLemmas.{scrubbed_part}

-- a sector that read as these bytes was sound
pub sound_by : (old new : List Happening) (j k : ℕ) (bytes : List ℕ) → Landed old new j k bytes
    → AtSomeMoment (λ h. is_good (content ((slot_state h j).sector k)) ≡ true) old new
sound_by old new j k bytes landed =
    at_some_mapped {P = λ h. content ((slot_state h j).sector k) ≡ Good bytes} {Q = λ h. is_good (content ((slot_state h j).sector k)) ≡ true}
    (λ h at is. ap is_good is) landed

-- A REDO PLACES ITS CELLS

-- its cells aren't in place yet
abbrev IsToPlace : Stage → Type 0
IsToPlace AtRest = ⊤
IsToPlace Uncommitted = ⊤
IsToPlace Placing = ⊤
IsToPlace InPlace = ⊥
IsToPlace Done = ⊥

-- a cell of it, on a slot that is live in the end
module _ (g : Geometry) (redo : Redo) (stripe : Stripe) (i j : ℕ) (has : HasCell redo.cells i j) where
  abbrev Lands : Snapshot → Snapshot → Type 0
  Lands x y = Landed x.told.history y.told.history j (cell_sector g redo.stripe i) (cell stripe i j)

  lands_wider : (x y z w : Snapshot) → IsAfter x.told y.told → IsAfter z.told w.told → IsTrue w.told.honest → IsTrue y.told.honest → Lands y z
      → Lands x w
  lands_wider x y z w before after honest honest_y landed =
      at_some_wider {a = any_call} {b = any_call} {P = λ h. content ((slot_state h j).sector (cell_sector g redo.stripe i)) ≡ Good (cell stripe i j)}
      (before.later.ran honest_y) (after.later.ran honest) landed

  placing_lands : (to : Slots) (x y : Snapshot) → TakePart x.member to → DoesStage (cell_writes g redo stripe) to None x y → IsTrue y.told.honest
      → IsLiveIn y.member j → Lands x y
  placing_lands to x y over does honest live =
      let after = out_after does.gone None (snapshot x.member does.mid) y does.leaves in
      let honest_mid = honest_before does.mid y.told after honest in
      let live_then = left_live does.gone (snapshot x.member does.mid) y j does.leaves live in
      let on : HasSlot to j = (over.are j).1 (record { below = live_then.below; why = inl live_then.why }) in
      at_some_wider {a = any_call} {b = any_call} {P = λ h. content ((slot_state h j).sector (cell_sector g redo.stripe i)) ≡ Good (cell stripe i j)}
      (ran_none {allowed = any_call} x.told.history) (after.later.ran honest)
      ((does.phase.placed honest_mid).landed j (cell_sector g redo.stripe i) (cell stripe i j) on
      (left_not does.gone (snapshot x.member does.mid) y j does.leaves live) (cell_writes_cell g redo stripe j i has))

  -- in the stage that places it, or after it
  stage_lands : (stage : Stage) (to : Slots) (x y z : Snapshot) → IsToPlace stage → IsOver stage x.member to
      → DoesStage (stage_writes g redo stripe stage) to None x y → IsAfter x.told y.told → IsAfter y.told z.told → IsTrue z.told.honest
      → IsLiveIn y.member j → (IsToPlace (next stage) → Lands y z) → Lands x z
  stage_lands AtRest to x y z to_place over does first second honest live rest =
      lands_wider x y z z first (after_none z.told) honest (honest_before y.told z.told second honest) (rest tt)
  stage_lands Uncommitted to x y z to_place over does first second honest live rest =
      lands_wider x y z z first (after_none z.told) honest (honest_before y.told z.told second honest) (rest tt)
  stage_lands Placing to x y z to_place over does first second honest live rest =
      let honest_y = honest_before y.told z.told second honest in
      lands_wider x x y z (after_none x.told) second honest (honest_before x.told y.told first honest_y)
      (placing_lands to x y over does honest_y live)
  stage_lands InPlace to x y z to_place over does first second honest live rest = absurd to_place
  stage_lands Done to x y z to_place over does first second honest live rest = absurd to_place

  redo_lands : (stage : Stage) (refusal : Option FenceFault) (x z : Snapshot) → Redoes g redo stripe stage refusal x z → refusal ≡ None
      → IsToPlace stage → IsMembership x.member → g ≡ x.member.array.geometry → IsRedo g redo → IsTrue z.told.honest → IsLiveIn z.member j → Lands x z
  redo_lands _ _ _ _ (Redoes.Ends x) fine to_place rules same formed honest live = absurd to_place
  redo_lands _ _ _ _ (Redoes.Stops stage to fault x y not_done over does) fine to_place rules same formed honest live =
      absurd (let never : Some fault ≡ None = fine in cc)
  redo_lands _ _ _ _ (Redoes.Goes stage to refusal x y z not_done over does more) fine to_place rules same formed honest live =
      let first = redo_stage_part g redo stripe stage to None x y over does rules same formed in
      let of_y = same ∙ sym first.geometry in
      let second = redo_part g redo stripe (next stage) refusal y z more first.rules of_y formed in
      stage_lands stage to x y z to_place over does first.after second.after honest (live_back 0 y z second j live)
      (λ still. redo_lands (next stage) refusal y z more fine still first.rules of_y formed honest live)

-- CELLS THAT WERE READ

-- a cell that isn't erased on a slot that is live after the gathering
module _ (t : ℕ) (gathered : Gathered) (was read : Stripe) (x y : Snapshot)
    (loads : Loads t (IsCellOf x.member.array.geometry) gathered was read None x y) (honest : IsTrue y.told.honest) (i j : ℕ)
    (row : i < x.member.array.geometry.r) (slot : j < x.member.array.geometry.n) where
  to_end : IsAfter loads.mid y.told
  to_end = out_after gathered.gone None (snapshot x.member loads.mid) y loads.leaves

  read_sound : ¬ HasCell gathered.erased i j → WasSound j (cell_sector x.member.array.geometry t i) x.told y.told
  read_sound kept =
      let k = cell_sector x.member.array.geometry t i in
      sound_by x.told.history y.told.history j k (cell read i j)
      (at_some_wider {a = any_call} {b = any_call} {P = λ h. content ((slot_state h j).sector k) ≡ Good (cell read i j)}
      (ran_none {allowed = any_call} x.told.history) (to_end.later.ran honest)
      (was_read_found {Q = λ (c : Cell). c ≡ Good (cell read i j)}
      ((loads.gathers.given i j (row, slot) kept).1 (honest_before loads.mid y.told to_end honest))))

-- ALL CELLS

-- by the member at first, which has the array's geometry
scrubbed_sound : (t : ℕ) (answer : Result ℕ Refusal) (x z : Snapshot) → Scrubs t answer x z → IsMembership x.member → (count : ℕ)
    → answer ≡ Ok count → IsTrue z.told.honest → (i j : ℕ) → i < x.member.array.geometry.r → j < x.member.array.geometry.n → IsLiveIn z.member j
    → WasSound j (cell_sector x.member.array.geometry t i) x.told z.told
scrubbed_sound t _ _ _ (Scrubs.OutOf x past) rules count same honest i j row slot live = absurd (cc)
scrubbed_sound t _ _ _ (Scrubs.Stops was read gathered fault x y below loads) rules count same honest i j row slot live = absurd (cc)
scrubbed_sound t _ _ _ (Scrubs.Sound was read gathered x y below loads sound) rules count same honest i j row slot live =
    read_sound t gathered was read x y loads honest i j row slot (λ erased. sound i j erased live)
scrubbed_sound t _ _ _ (Scrubs.Unrestored was read into gathered refusal x y below loads is) rules count same honest i j row slot live = absurd (cc)
scrubbed_sound t _ _ _ (Scrubs.Rewrote was read into gathered redo refusal x y z below loads is of_stripe formed on_live run) rules count same
    honest i j row slot live =
    by refusal run same
  where
    g : Geometry
    g = x.member.array.geometry

    first : IsPart 0 x y
    first = load_part t (IsCellOf g) gathered was read None x y loads rules

    by : (found : Option FenceFault) → Redoes g redo into AtRest found y z → answer_of (cell_count redo.cells) found ≡ Ok count
        → WasSound j (cell_sector g t i) x.told z.told
    by (Some fault) run is = absurd (cc)
    by None run is =
        let second = redo_part g redo into AtRest None y z run first.rules (sym first.geometry) formed in
        let live_y = live_back 0 y z second j live in
        let honest_y = honest_before y.told z.told second.after honest in
        let k = cell_sector g t i in
        elim (cases_Bool (has_cell gathered.erased i j)) [
          | inl erased ↦
              at_some_wider {a = any_call} {b = any_call} {P = λ h. is_good (content ((slot_state h j).sector k)) ≡ true}
              (first.after.later.ran honest_y) (ran_none {allowed = any_call} z.told.history)
              (sound_by y.told.history z.told.history j k (cell into i j)
              (subst (λ (s : ℕ). Landed y.told.history z.told.history j (cell_sector g s i) (cell into i j)) of_stripe
              (redo_lands g redo into i j ((on_live i j).1 (erased, live_y)) AtRest None y z run refl tt first.rules (sym first.geometry) formed honest
              live)))
          | inr kept ↦
              at_some_wider {a = any_call} {b = any_call} {P = λ h. is_good (content ((slot_state h j).sector k)) ≡ true}
              (ran_none {allowed = any_call} x.told.history) (second.after.later.ran honest)
              (read_sound t gathered was read x y loads honest_y i j row slot (λ has. false≢true (sym kept ∙ has)))
        ]

pub scrubbed_made : (t : ℕ) (answer : Result ℕ Refusal) (x z : Snapshot) → Scrubs t answer x z → IsMembership x.member → (count : ℕ)
    → answer ≡ Ok count → IsTrue z.told.honest → (i j : ℕ) → i < z.member.array.geometry.r → IsLiveIn z.member j
    → WasSound j (cell_sector z.member.array.geometry t i) x.told z.told
scrubbed_made t answer x z does rules count same honest i j row live =
    let part = scrubbed_part t answer x z does rules in
    subst (λ (g : Geometry). WasSound j (cell_sector g t i) x.told z.told) (sym part.geometry)
    (scrubbed_sound t answer x z does rules count same honest i j (subst (λ (g : Geometry). i < g.r) part.geometry row)
    (live_back 0 x z part j live).below live)
