-- An open array where cells of it are read, whether media come back or not.
use Rattle.std.proofs.Common.{◌≡◌, ℕ, ◌<◌, List, inl, inr, refl, sym, ap, ◌∙◌, arith, false, true, []}
use Rattle.std.specs.Prelude.{IsTrue, not}
use Rattle.std.proofs.lemmas.Bool.{true≢false}
use Rattle.stair_model.specs.Device.{cell_sector}
use Rattle.stair_model.specs.Geometry.{Geometry}
use Rattle.stair_model.specs.Stripe.{cell}
use Rattle.stair_rack.specs.Answers.{Ran, any_call, is_good}
use Rattle.stair_rack.specs.History.{Happening, slot_state, stopped}
use Rattle.stair_rack.specs.Offline.{ButForOutside, IsKept}
use Rattle.stair_rack.specs.Reading.{WasRead}
use Rattle.stair_rack.specs.Sector.{Cell, Damaged, Good, Leaves, content}
use Rattle.stair_rack.proofs.CrashLemmas.{Leaves-content}
use Rattle.stair_rack.proofs.MomentLemmas.{moment_between, moment_sooner, ran_after, ran_any, ran_before, ran_join}
use Rattle.stair_rack.proofs.OfflineLemmas.{and-true_left, stopped_on}
use Rattle.stair_rack.proofs.StretchLemmas.{each_before}
use Rattle.stair_journal.specs.Body.{Harmed, Holds, IsOrDamaged}
use Rattle.stair_journal.specs.declared.redo.Redo.{Redo}
use Rattle.stair_state.specs.Blocks.{Codewords}
use Rattle.stair_state.specs.State.{Content}
use Rattle.stair_invariant.specs.Returning.{AnyReturns, NoneReturns, Returning}
use Rattle.stair_invariant.specs.Session.{ArrayState, IsLiveIn, ServesSlot}
use Rattle.stair_invariant.proofs.OpenLaws.{goes_on_within}
use Rattle.stair_invariant.proofs.Serving.{StaysWithinToleranceTo, IsGoing, IsServing, LeadsReads, any_read, tolerated_now}

-- HOW FAR IT GOES ON

pub goes_on : (returning : Returning) (g : Geometry) (before h : List Happening) → Ran any_call before h → StaysWithinToleranceTo returning g before h
    → ¬ IsTrue (stopped h)
goes_on returning g before h ran calm = goes_on_within g before h (tolerated_now returning g before h ran calm)

pub going_on : (returning : Returning) (g : Geometry) (before h : List Happening) → Ran any_call before h → IsGoing returning g before h
    → ¬ IsTrue (stopped h)
going_on NoneReturns g before h ran on = on.1
going_on AnyReturns g before h ran on = goes_on AnyReturns g before h ran on

pub going_sooner : (returning : Returning) (g : Geometry) (before h k : List Happening) → Ran any_call before h → Ran any_call h k
    → IsGoing returning g before k → IsGoing returning g before h
going_sooner NoneReturns g before h k upto ran on =
    (each_before on.0 (moment_between {a = any_call} {b = any_call} upto ran), λ stops. on.1 (stopped_on {allowed = any_call} ran stops))
going_sooner AnyReturns g before h k upto ran on = λ c at. on c (moment_sooner at (moment_between {a = any_call} {b = any_call} upto ran))

module _ (returning : Returning) (laws : LeadsReads returning) (before : List Happening) (a : ArrayState) (words : Codewords) (kept : Content) where
  -- A CELL THAT WAS READ

  no_redo : Redo
  no_redo = record { stripe = 0; cells = record { rows = [] } }

  -- of a live slot is that of its stripe, or damaged
  pub cell_of : (h : List Happening) → IsServing returning before a words kept h → (t i j : ℕ) → IsLiveIn a.member j → (slot_state h j).attached ≡ true
      → t < a.member.array.geometry.stripes → i < a.member.array.geometry.r
      → IsOrDamaged (cell (words t) i j) (content ((slot_state h j).sector (cell_sector a.member.array.geometry t i)))
  cell_of h is t i j on attached stripe row =
      by ((serves.rests no_redo words).chunks j t i refl on.below stripe row)
    where
      serves : ServesSlot a.member.array.geometry words h j
      serves = is.is_open.live j on attached

      by : ButForOutside h h j (cell_sector a.member.array.geometry t i) (Leaves (IsOrDamaged (cell (words t) i j)) (IsOrDamaged (cell (words t) i j)))
          → IsOrDamaged (cell (words t) i j) (content ((slot_state h j).sector (cell_sector a.member.array.geometry t i)))
      by (IsKept.Here at some (inl harmed)) = Harmed (ap content harmed)
      by (IsKept.Here at some (inr leaves)) = Leaves-content leaves
      by (IsKept.Lost less) = absurd (omega (arith, less))

  module _ (old new : List Happening) (is : IsServing returning before a words kept old) (ran : Ran any_read old new)
      (still : IsGoing returning a.member.array.geometry before new) (t i j : ℕ) (on : IsLiveIn a.member j)
      (stripe : t < a.member.array.geometry.stripes)
      (row : i < a.member.array.geometry.r) where
    -- at a moment at which it was read
    pub cell_then : {Q : Cell → Type 0} (was : WasRead Q old new j (cell_sector a.member.array.geometry t i))
        → IsServing returning before a words kept was.moment
        × IsOrDamaged (cell (words t) i j) (content ((slot_state was.moment j).sector (cell_sector a.member.array.geometry t i)))
    cell_then was =
        let so_far : Ran any_read old was.moment = ran_before {allowed = any_read} ran was.is_one in
        let upto = ran_join {allowed = any_call} is.is_open.ran (ran_any {allowed = any_read} so_far) in
        let rest : Ran any_call was.moment new =
        ran_any {allowed = any_read} (ran_after {allowed = any_read} ran was.is_one) in
        let then = laws.reads before a words kept old was.moment is so_far
        (going_sooner returning a.member.array.geometry before was.moment new upto rest still) in (
          then,
          cell_of was.moment then t i j on (and-true_left (slot_state was.moment j).attached (not (stopped was.moment)) was.ready) stripe row,
        )

    -- what reads as these bytes is the stripe's cell
    pub read_good : (bytes : List ℕ) → WasRead (λ c. c ≡ Good bytes) old new j (cell_sector a.member.array.geometry t i) → bytes ≡ cell (words t) i j
    read_good bytes was = by (cell_then was).1
      where
        by : IsOrDamaged (cell (words t) i j) (content ((slot_state was.moment j).sector (cell_sector a.member.array.geometry t i)))
            → bytes ≡ cell (words t) i j
        by (Holds is) = let found = was.found in cc
        by (Harmed is) = let found = was.found in absurd (cc)

    -- and what reads as bad is damaged
    pub read_bad : (was : WasRead (λ c. is_good c ≡ false) old new j (cell_sector a.member.array.geometry t i))
        → content ((slot_state was.moment j).sector (cell_sector a.member.array.geometry t i)) ≡ Damaged
    read_bad was = by (cell_then was).1
      where
        by : IsOrDamaged (cell (words t) i j) (content ((slot_state was.moment j).sector (cell_sector a.member.array.geometry t i)))
            → content ((slot_state was.moment j).sector (cell_sector a.member.array.geometry t i)) ≡ Damaged
        by (Holds is) = absurd (true≢false (sym (ap is_good is) ∙ was.found))
        by (Harmed is) = is
