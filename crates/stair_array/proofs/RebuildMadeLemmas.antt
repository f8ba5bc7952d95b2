-- What a step of a rebuild tells by its answer, on any rack, and that the chunk that it wrote was sound, on an honest one.
use Rattle.std.proofs.Common.{◌≡◌, ℕ, ◌+◌, ◌<◌, ◌≤◌, refl, sym, ap, ◌∙◌, subst, None, Some, arith}
use Rattle.std.specs.Prelude.{IsTrue, Ok, Result, true}
use Rattle.stair_model.specs.Device.{cell_sector}
use Rattle.stair_model.specs.Geometry.{Geometry}
use Rattle.stair_model.specs.Stripe.{Stripe, cell}
use Rattle.stair_rack.specs.Answers.{any_call, is_good}
use Rattle.stair_rack.specs.Count.{Rose}
use Rattle.stair_rack.specs.History.{slot_state}
use Rattle.stair_rack.specs.Sector.{content}
use Rattle.stair_rack.specs.declared.rack.Reply.TheVariants as reply
use Rattle.stair_rack.proofs.MomentLemmas.{at_some_wider, ran_none}
use Rattle.stair_rack.proofs.RackStateLemmas.{gones_wider, later_none}
use Rattle.stair_member.specs.Membership.{IsHere}
use Rattle.stair_stripes.proofs.PlacingLemmas.{cell_writes_cell}
use Rattle.stair_invariant.specs.Effects.{Snapshot}
use Rattle.stair_invariant.specs.Rebuilding.{Rebuild}
use Rattle.stair_invariant.specs.Session.{ArrayState, IsArray, IsLiveIn, IsRebuiltIn}
use Rattle.stair_array.specs.Calls.{LoadsStripe}
use Rattle.stair_array.specs.Causes.{IsNextChunk}
use Rattle.stair_array.specs.Machine.{Chunk, Dropped, Nothing, Progress, Promoted, Refusal}
use Rattle.stair_array.specs.Mends.{Rebuilds, WritesChunk}
use Rattle.stair_array.specs.Promise.{WasSound, unopened}
use Rattle.stair_array.proofs.AnsweredLemmas.{honest_before}
use Rattle.stair_array.proofs.PartsLemmas.{IsPart, WhyStays, here_not_gone}
use Rattle.stair_array.proofs.PromotionLemmas.{IsBeside, promotes_dropped, promotes_live, promotes_never, promotes_part}
use Rattle.stair_array.proofs.RebuildCourseLemmas.{NextIsRebuilt, fallen_rose, fallen_why, stripe_part, written_array, written_part, written_rebuilt}
use Rattle.stair_array.proofs.RebuildPartLemmas.{chunk_after, gone_rose}
use Rattle.stair_array.proofs.ScrubMadeLemmas.{sound_by}

-- WHICH CHUNK IS NEXT

-- of a slot one stripe is
pub next_once : (was : ArrayState) (j s t : ℕ) → IsNextChunk was j s → IsNextChunk was j t → s ≡ t
next_once was j s t (IsNextChunk.UnderWay a is slot stripe) (IsNextChunk.UnderWay b same again other) =
    let one : a ≡ b = let both : Some a ≡ Some b = sym is ∙ same in cc in sym stripe ∙ ap (λ (r : Rebuild). r.stripe) one ∙ other
next_once was j s t (IsNextChunk.UnderWay a is slot stripe) (IsNextChunk.First none lowest first) =
    absurd (let never : Some a ≡ None = sym is ∙ none in cc)
next_once was j s t (IsNextChunk.First none lowest first) (IsNextChunk.UnderWay b same again other) =
    absurd (let never : Some b ≡ None = sym same ∙ none in cc)
next_once was j s t (IsNextChunk.First none lowest first) (IsNextChunk.First again still other) = first ∙ sym other

-- A CHUNK THAT WAS WRITTEN

-- each of its cells was sound
module _ (j t : ℕ) (into : Stripe) (x y : Snapshot) (wrote : WritesChunk j t into reply.Done x y) (honest : IsTrue y.told.honest) (i : ℕ)
    (row : i < x.member.array.geometry.r) where
  chunk_sound : WasSound j (cell_sector x.member.array.geometry t i) x.told y.told
  chunk_sound =
      let g = x.member.array.geometry in
      subst (λ (s : ℕ). WasSound j (cell_sector g s i) x.told y.told) wrote.of_stripe
      (sound_by x.told.history y.told.history j (cell_sector g wrote.redo.stripe i) (cell into i j)
      ((wrote.wrote honest).landed j (cell_sector g wrote.redo.stripe i) (cell into i j) refl
      (λ gone. let never : reply.Done ≡ reply.Gone = gone.1 in cc)
      (cell_writes_cell g wrote.redo into j i ((wrote.cells i j).1 (row, refl)))))

-- and so it was in a longer stretch
module _ (j t : ℕ) (into : Stripe) (x y z : Snapshot) (loads : LoadsStripe t into (Ok tt) x y) (array : IsArray (unopened x.member))
    (wrote : WritesChunk j t into reply.Done y z) (honest : IsTrue z.told.honest) (i : ℕ) (row : i < x.member.array.geometry.r) where
  loaded : IsPart 0 x y
  loaded = stripe_part j t into x y z loads array

  written_sound : WasSound j (cell_sector x.member.array.geometry t i) x.told z.told
  written_sound =
      let k = cell_sector x.member.array.geometry t i in
      at_some_wider {a = any_call} {b = any_call} {P = λ h. is_good (content ((slot_state h j).sector k)) ≡ true}
      (loaded.after.later.ran (honest_before y.told z.told (chunk_after j t into reply.Done y z wrote) honest))
      (ran_none {allowed = any_call} z.told.history)
      (subst (λ (g : Geometry). WasSound j (cell_sector g t i) y.told z.told) loaded.geometry
      (chunk_sound j t into y z wrote honest i (subst (λ (g : Geometry). i < g.r) (sym loaded.geometry) row)))

-- WHAT AN ANSWER TELLS

pub record WroteChunk (was : ArrayState) (j t : ℕ) (x z : Snapshot) : Type 0 where
  pub next : IsNextChunk was j t
  pub more : t + 1 < x.member.array.geometry.stripes
  pub rebuilt : IsRebuiltIn z.member j
  pub sound : IsTrue z.told.honest → (i : ℕ) → i < x.member.array.geometry.r
      → WasSound j (cell_sector x.member.array.geometry t i) x.told z.told

pub record WasPromoted (was : ArrayState) (j : ℕ) (x z : Snapshot) : Type 0 where
  pub stripe : ℕ
  pub next : IsNextChunk was j stripe
  pub at_end : x.member.array.geometry.stripes ≤ stripe + 1
  pub live : IsLiveIn z.member j
  pub sound : IsTrue z.told.honest → stripe < x.member.array.geometry.stripes → (i : ℕ) → i < x.member.array.geometry.r
      → WasSound j (cell_sector x.member.array.geometry stripe i) x.told z.told

pub record WasDropped (was : ArrayState) (j : ℕ) (x z : Snapshot) : Type 0 where
  pub stripe : ℕ
  pub next : IsNextChunk was j stripe
  pub away : ¬ IsHere z.member j
  pub rose : Rose (x.told.gones j) (z.told.gones j)

-- a slot that isn't rebuilt any more after a stripe was loaded was gone
fell_away : (x y : Snapshot) (j : ℕ) → IsPart 0 x y → IsRebuiltIn x.member j → ¬ IsRebuiltIn y.member j
    → (¬ IsHere y.member j) × Rose (x.told.gones j) (y.told.gones j)
fell_away x y j part rebuilt fell = by (part.whys j rebuilt.below)
  where
    by : WhyStays x y j → (¬ IsHere y.member j) × Rose (x.told.gones j) (y.told.gones j)
    by (WhyStays.Same same) =
        absurd
        (fell (record { below = subst (λ (g : Geometry). j < g.n) (sym part.geometry) rebuilt.below; why = same ∙ rebuilt.why }))
    by (WhyStays.Went gone was) = (λ here. here_not_gone y.member j here gone, gone_rose x.member j x.told y.told was)

module _ (was : ArrayState) where
  pub nothing_told : (answer : Result Progress Refusal) (x z : Snapshot) → Rebuilds was answer x z → answer ≡ Ok Nothing
      → (j : ℕ) → ¬ IsRebuiltIn was.member j
  nothing_told _ _ _ (Rebuilds.NoneIs x none) same = none
  nothing_told _ _ _ (Rebuilds.Unread j t into refusal x y is below loads) same = absurd (cc)
  nothing_told _ _ _ (Rebuilds.FellLoading j t into x y is below loads fell) same = absurd (cc)
  nothing_told _ _ _ (Rebuilds.Fell j t into None x y z w is below loads rebuilt wrote drops) same = absurd (cc)
  nothing_told _ _ _ (Rebuilds.Fell j t into (Some fault) x y z w is below loads rebuilt wrote drops) same = absurd (cc)
  nothing_told _ _ _ (Rebuilds.Wrote j t into x y z is below loads rebuilt wrote) same = absurd (cc)
  nothing_told _ _ _ (Rebuilds.WroteLast j t into answer x y z w is at_end loads rebuilt wrote promotes) same =
      absurd (promotes_never j answer z w promotes (subst IsBeside (sym same) tt))
  nothing_told _ _ _ (Rebuilds.OnlyPromotes j t answer x y is at_end promotes) same =
      absurd (promotes_never j answer x y promotes (subst IsBeside (sym same) tt))

  pub chunk_told : (answer : Result Progress Refusal) (x z : Snapshot) → Rebuilds was answer x z → IsArray (unopened x.member)
      → (j t : ℕ) → answer ≡ Ok (Chunk j t) → WroteChunk was j t x z
  chunk_told _ _ _ (Rebuilds.NoneIs x none) array i s same = absurd (cc)
  chunk_told _ _ _ (Rebuilds.Unread j t into refusal x y is below loads) array i s same = absurd (cc)
  chunk_told _ _ _ (Rebuilds.FellLoading j t into x y is below loads fell) array i s same = absurd (cc)
  chunk_told _ _ _ (Rebuilds.Fell j t into None x y z w is below loads rebuilt wrote drops) array i s same = absurd (cc)
  chunk_told _ _ _ (Rebuilds.Fell j t into (Some fault) x y z w is below loads rebuilt wrote drops) array i s same = absurd (cc)
  chunk_told _ _ _ (Rebuilds.Wrote j t into x y z is below loads rebuilt wrote) array i s same =
      let slot : j ≡ i = cc in
      let stripe : t ≡ s = cc in
      subst (λ (k : ℕ). WroteChunk was k s x z) slot
      (subst (λ (k : ℕ). WroteChunk was j k x z) stripe
      (record {
        next = is;
        more = below;
        rebuilt = written_rebuilt j t into x y z loads array wrote rebuilt;
        sound = written_sound j t into x y z loads array wrote;
      }))
  chunk_told _ _ _ (Rebuilds.WroteLast j t into answer x y z w is at_end loads rebuilt wrote promotes) array i s same =
      absurd (promotes_never j answer z w promotes (subst IsBeside (sym same) tt))
  chunk_told _ _ _ (Rebuilds.OnlyPromotes j t answer x y is at_end promotes) array i s same =
      absurd (promotes_never j answer x y promotes (subst IsBeside (sym same) tt))

  pub promoted_told : (answer : Result Progress Refusal) (x z : Snapshot) → Rebuilds was answer x z → IsArray (unopened x.member)
      → NextIsRebuilt was x → (j : ℕ) → answer ≡ Ok (Promoted j) → WasPromoted was j x z
  promoted_told _ _ _ (Rebuilds.NoneIs x none) array next i same = absurd (cc)
  promoted_told _ _ _ (Rebuilds.Unread j t into refusal x y is below loads) array next i same = absurd (cc)
  promoted_told _ _ _ (Rebuilds.FellLoading j t into x y is below loads fell) array next i same = absurd (cc)
  promoted_told _ _ _ (Rebuilds.Fell j t into None x y z w is below loads rebuilt wrote drops) array next i same = absurd (cc)
  promoted_told _ _ _ (Rebuilds.Fell j t into (Some fault) x y z w is below loads rebuilt wrote drops) array next i same = absurd (cc)
  promoted_told _ _ _ (Rebuilds.Wrote j t into x y z is below loads rebuilt wrote) array next i same = absurd (cc)
  promoted_told _ _ _ (Rebuilds.WroteLast j t into answer x y z w is at_end loads rebuilt wrote promotes) array next i same =
      let array_z = written_array j t into x y z loads array wrote in
      let rebuilt_z = written_rebuilt j t into x y z loads array wrote rebuilt in
      let second = promotes_part j answer z w promotes array_z rebuilt_z in
      let live = promotes_live j answer z w promotes array_z rebuilt_z i same in
      subst (λ (k : ℕ). WasPromoted was k x w) live.0
      (record {
        stripe = t;
        next = is;
        at_end = omega (arith, at_end);
        live = live.1;
        sound = λ honest below row in_row.
            let honest_z = honest_before z.told w.told second.after honest in
            at_some_wider {a = any_call} {b = any_call}
            {P = λ h. is_good (content ((slot_state h j).sector (cell_sector x.member.array.geometry t row))) ≡ true}
            (ran_none {allowed = any_call} x.told.history) (second.after.later.ran honest)
            (written_sound j t into x y z loads array wrote honest_z row in_row);
      })
  promoted_told _ _ _ (Rebuilds.OnlyPromotes j t answer x y is at_end promotes) array next i same =
      let live = promotes_live j answer x y promotes array (next j t is) i same in
      subst (λ (k : ℕ). WasPromoted was k x y) live.0
      (record {
        stripe = t;
        next = is;
        at_end = omega (arith, at_end);
        live = live.1;
        sound = λ honest below row in_row. absurd (omega (arith, at_end, below));
      })

  pub dropped_told : (answer : Result Progress Refusal) (x z : Snapshot) → Rebuilds was answer x z → IsArray (unopened x.member)
      → NextIsRebuilt was x → (j : ℕ) → answer ≡ Ok (Dropped j) → WasDropped was j x z
  dropped_told _ _ _ (Rebuilds.NoneIs x none) array next i same = absurd (cc)
  dropped_told _ _ _ (Rebuilds.Unread j t into refusal x y is below loads) array next i same = absurd (cc)
  dropped_told _ _ _ (Rebuilds.FellLoading j t into x y is below loads fell) array next i same =
      let slot : j ≡ i = cc in
      let away = fell_away x y j (stripe_part j t into x y y loads array) (next j t is) fell in
      subst (λ (k : ℕ). WasDropped was k x y) slot (record { stripe = t; next = is; away = away.0; rose = away.1 })
  dropped_told _ _ _ (Rebuilds.Fell j t into None x y z w is below loads rebuilt wrote drops) array next i same =
      let slot : j ≡ i = cc in
      subst (λ (k : ℕ). WasDropped was k x w) slot
      (record {
        stripe = t;
        next = is;
        away = λ here. here_not_gone w.member j here (fallen_why j t into x y z loads array None w rebuilt wrote drops);
        rose = fallen_rose j t into x y z loads array None w rebuilt wrote drops;
      })
  dropped_told _ _ _ (Rebuilds.Fell j t into (Some fault) x y z w is below loads rebuilt wrote drops) array next i same = absurd (cc)
  dropped_told _ _ _ (Rebuilds.Wrote j t into x y z is below loads rebuilt wrote) array next i same = absurd (cc)
  dropped_told _ _ _ (Rebuilds.WroteLast j t into answer x y z w is at_end loads rebuilt wrote promotes) array next i same =
      let array_z = written_array j t into x y z loads array wrote in
      let rebuilt_z = written_rebuilt j t into x y z loads array wrote rebuilt in
      let first = written_part j t into x y z loads array wrote in
      let second = promotes_part j answer z w promotes array_z rebuilt_z in
      let gone = promotes_dropped j answer z w promotes array_z rebuilt_z i same in
      subst (λ (k : ℕ). WasDropped was k x w) gone.0
      (record {
        stripe = t;
        next = is;
        away = λ here. here_not_gone w.member j here gone.1;
        rose =
            gones_wider x.told z.told w.told w.told first.after.later second.after.later.honest second.after.later.counts (later_none w.told) j
            gone.2;
      })
  dropped_told _ _ _ (Rebuilds.OnlyPromotes j t answer x y is at_end promotes) array next i same =
      let gone = promotes_dropped j answer x y promotes array (next j t is) i same in
      subst (λ (k : ℕ). WasDropped was k x y) gone.0
      (record { stripe = t; next = is; away = λ here. here_not_gone y.member j here gone.1; rose = gone.2 })
