-- What becomes of the seats of an array in a step of a rebuild, and what the step comes to.
use Rattle.std.proofs.Common.{List, None, Some, ap, inl, inr, refl, subst, sym, ℕ, ◌∙◌, ◌≡◌}
use Rattle.std.specs.Prelude.{Err, Ok, Result, ◌⊎◌}
use Rattle.stair_model.specs.Geometry.{Geometry}
use Rattle.stair_rack.specs.Crash.{CrashMayLeave}
use Rattle.stair_rack.specs.History.{Happening}
use Rattle.stair_rack.specs.Media.{Image}
use Rattle.stair_rack.specs.Moments.{AtEveryMoment}
use Rattle.stair_rack.proofs.MomentLemmas.{at_every_mapped}
use Rattle.stair_super.specs.declared.configuration.Configuration.{Configuration}
use Rattle.stair_super.specs.declared.mark.Mark.{Mark}
use Rattle.stair_super.specs.declared.mark.Mark.TheVariants as mark
use Rattle.stair_member.specs.Membership.{Membership}
use Rattle.stair_member.specs.Seats.{Seat, Seats}
use Rattle.stair_state.specs.Blocks.{Codewords}
use Rattle.stair_state.specs.State.{Content}
use Rattle.stair_invariant.specs.Effects.{Snapshot}
use Rattle.stair_invariant.specs.InSession.{state_with}
use Rattle.stair_invariant.specs.Opening.{StaysArray, opened_with}
use Rattle.stair_invariant.specs.Returning.{Returning, StandsFor, StandsForAlone}
use Rattle.stair_invariant.specs.SeatSteps.{EachMayDrop, MayDrop, SeatGoes}
use Rattle.stair_invariant.specs.Session.{ArrayState, IsOpenWith, seats_in}
use Rattle.stair_invariant.proofs.StaysArrayLemmas.{drops_twice}
use Rattle.stair_invariant.proofs.Serving.{StaysWithinToleranceTo, IsServing}
use Rattle.stair_array.specs.Machine.{Chunk, Dropped, EpochsSpent, Nothing, Progress, Promoted, RebuildNext, Refusal, SeatsRebuilt}
use Rattle.stair_array.specs.Promise.{KeepsRebuild}
use Rattle.stair_array.proofs.OpenStepLemmas.{calm_over}

-- SEATS

-- slots are dropped at most, or it is a step of a rebuild, whichever
abbrev pub MayMove : Seats → Seats → Type 0
MayMove old new = EachMayDrop old new ⊎ ((progress : Progress) × SeatsRebuilt progress old new)

-- a slot that was rebuilt is so still, or was dropped
pub goes_by : (j : ℕ) (to : Mark) (old new : Seats) → EachMayDrop old new → (old j).mark ≡ mark.Rebuilding → (new j).mark ≡ to
    → (to ≡ mark.Rebuilding) ⊎ (to ≡ mark.Down) → SeatGoes j mark.Rebuilding to old new
goes_by j to old new dropped was is which = record {
  was = was;
  is = is;
  joined = λ from up. by_joined (dropped j) up;
  down = λ down. by_down (dropped j) down;
  others = λ i other. dropped i;
}
  where
    by_joined : MayDrop (old j) (new j) → ¬ (to ≡ mark.Down) → (new j).joined ≡ (old j).joined
    by_joined (inl same) up = ap (λ (s : Seat). s.joined) same
    by_joined (inr fell) up = absurd (up (sym is ∙ ap (λ (s : Seat). s.mark) fell.1))

    by_down : MayDrop (old j) (new j) → to ≡ mark.Down → (new j).joined ≡ 0
    by_down (inl same) down =
        let never : mark.Rebuilding ≡ mark.Down = sym was ∙ sym (ap (λ (s : Seat). s.mark) same) ∙ is ∙ down in
        absurd (cc)
    by_down (inr fell) down = ap (λ (s : Seat). s.joined) fell.1

-- After slots were dropped it is so from the seats before that.
module _ (old mid new : Seats) (first : EachMayDrop old mid) where
  goes_sooner : (j : ℕ) (to : Mark) → SeatGoes j mark.Rebuilding to mid new → SeatGoes j mark.Rebuilding to old new
  goes_sooner j to goes = by (first j)
    where
      by : MayDrop (old j) (mid j) → SeatGoes j mark.Rebuilding to old new
      by (inr fell) = absurd (let never : mark.Rebuilding ≡ mark.Down = sym goes.was ∙ ap (λ (s : Seat). s.mark) fell.1 in cc)
      by (inl same) = record {
        was = sym (ap (λ (s : Seat). s.mark) same) ∙ goes.was;
        is = goes.is;
        joined = λ from up. goes.joined from up ∙ ap (λ (s : Seat). s.joined) same;
        down = goes.down;
        others = λ i other. drops_twice (λ k. old i) (λ k. mid i) (λ k. new i) (λ k. first i) (λ k. goes.others i other) i;
      }

  progress_sooner : (progress : Progress) → ¬ (progress ≡ Nothing) → SeatsRebuilt progress mid new → SeatsRebuilt progress old new
  progress_sooner Nothing some moved = absurd (some refl)
  progress_sooner (Chunk j t) some moved = goes_sooner j mark.Rebuilding moved
  progress_sooner (Promoted j) some moved = goes_sooner j mark.Live moved
  progress_sooner (Dropped j) some moved = goes_sooner j mark.Down moved

  pub moves_sooner : MayMove mid new → MayMove old new
  moves_sooner (inl dropped) = inl (drops_twice old mid new first dropped)
  moves_sooner (inr moved) = by moved.0 moved.1
    where
      by : (progress : Progress) → SeatsRebuilt progress mid new → MayMove old new
      by Nothing moved = inl (drops_twice old mid new first moved.1)
      by (Chunk j t) moved = inr (Chunk j t, goes_sooner j mark.Rebuilding moved)
      by (Promoted j) moved = inr (Promoted j, goes_sooner j mark.Live moved)
      by (Dropped j) moved = inr (Dropped j, goes_sooner j mark.Down moved)

-- AT EACH MOMENT an image represents the array, with seats that the step may leave it with.
module _ (returning : Returning) (before : List Happening) (kept : Content) where
  abbrev pub MovesAt : Membership → List Happening → Type 0
  MovesAt m c = StaysWithinToleranceTo returning m.array.geometry before c → (image : Image) → CrashMayLeave c image
      → (array : Configuration) × StandsForAlone returning (state_with m kept None array) image × MayMove (seats_in m.array) (seats_in array)

  pub moments_sooner : (m last : Membership) → StaysArray m last → (old new : List Happening) → AtEveryMoment (MovesAt last) old new
      → AtEveryMoment (MovesAt m) old new
  moments_sooner m last stays old new =
      at_every_mapped {P = MovesAt last} {Q = MovesAt m}
      (λ c moves calm image left.
      let is = moves (calm_over returning last.array.geometry m.array.geometry before c stays.geometry calm) image left in (
        is.0,
        subst (λ (g : Geometry). StandsForAlone returning (record { geometry = g; content = kept; in_doubt = None; seats = Some (seats_in is.0) })
            image)
            stays.geometry is.1,
        moves_sooner (seats_in m.array) (seats_in last.array) (seats_in is.0) stays.seats is.2,
      ))

-- WHAT IT COMES TO: the array serves on, whatever rebuild it has by that; or an epoch was refused since no number is left to draw.
module _ (returning : Returning) (before : List Happening) (was : ArrayState) (words : Codewords) (kept : Content) where
  pub data Outcome (m : Membership) : Result Progress Refusal → Snapshot → Type 0 where
    Goes : (progress : Progress) (y : Snapshot) → IsServing returning before (opened_with y.member) words kept y.told.history
        → y.member.array.geometry ≡ m.array.geometry → SeatsRebuilt progress (seats_in m.array) (seats_in y.member.array)
        → ((b : ArrayState) → b.member ≡ y.member → KeepsRebuild RebuildNext (Ok progress) was b → IsOpenWith before b words y.told.history)
        → Outcome m (Ok progress) y
    Spent : (y : Snapshot) (array : Configuration) → StandsFor returning (state_with m kept None array) y.told.history
        → MayMove (seats_in m.array) (seats_in array) → Outcome m (Err EpochsSpent) y

  pub outcome_sooner : (m last : Membership) → StaysArray m last → (answer : Result Progress Refusal) (y : Snapshot) → ¬ (answer ≡ Ok Nothing)
      → Outcome last answer y → Outcome m answer y
  outcome_sooner m last stays _ _ some (Spent y array stands moved) =
      Spent y array
      (subst (λ (g : Geometry). StandsFor returning (record { geometry = g; content = kept; in_doubt = None; seats = Some (seats_in array) })
      y.told.history)
      stays.geometry stands) (moves_sooner (seats_in m.array) (seats_in last.array) (seats_in array) stays.seats moved)
  outcome_sooner m last stays _ _ some (Goes progress y serves same moved on) =
      Goes progress y serves (same ∙ stays.geometry)
      (progress_sooner (seats_in m.array) (seats_in last.array) (seats_in y.member.array) stays.seats progress
      (λ none. some (ap (λ (p : Progress). Ok p) none)) moved) on
