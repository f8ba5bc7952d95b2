-- A scrub of a stripe keeps what is promised of a step, whether media come back or not: it is done where it can be.
use Rattle.std.proofs.Common.{◌≡◌, ℕ, ◌<◌, List, refl, sym, ap, subst, arith, None, Some, Option}
use Rattle.std.specs.Prelude.{IsOk, IsTrue, Result, Err}
use Rattle.stair_model.specs.CellSet.{cell_count}
use Rattle.stair_model.specs.Geometry.{Geometry}
use Rattle.stair_rack.specs.Answers.{IsHistory}
use Rattle.stair_rack.specs.History.{Happening}
use Rattle.stair_rack.specs.declared.watcher.Event.{Event}
use Rattle.stair_member.specs.declared.fault.FenceFault.{FenceFault}
use Rattle.stair_member.specs.declared.fault.FenceFault.TheVariants as fence
use Rattle.stair_member.specs.declared.why.Why.{Why}
use Rattle.stair_state.specs.Blocks.{Codewords}
use Rattle.stair_state.specs.State.{Content, State}
use Rattle.stair_invariant.specs.Effects.{Snapshot, snapshot}
use Rattle.stair_invariant.specs.Rebuilding.{Rebuild}
use Rattle.stair_invariant.specs.Returning.{StaysWithinTolerance, Returning}
use Rattle.stair_invariant.proofs.Serving.{LeadsReads, LeadsRedos, StaysWithinToleranceTo}
use Rattle.stair_array.specs.Calls.{LoadsStripe, answer_of, refused}
use Rattle.stair_array.specs.Machine.{Answer, Refusal, ScrubStripe}
use Rattle.stair_array.specs.Mends.{Scrubs}
use Rattle.stair_array.specs.Promise.{CanBeDone, IsInState, LeadsStep, Performs, Seen, is_open}
use Rattle.stair_array.proofs.DrawsLemmas.{done_with_room}
use Rattle.stair_array.proofs.LoadingLemmas.{Serves}
use Rattle.stair_array.proofs.ReadDoneLemmas.{stripe_refused}
use Rattle.stair_array.proofs.ReadPartLemmas.{none_asked}
use Rattle.stair_array.proofs.RedoDoubtLemmas as redo_doubt
use Rattle.stair_array.proofs.ScrubPartLemmas as part
use Rattle.stair_array.proofs.ScrubStepLemmas.{begins, calm_begun, cuts, leads, serves}

-- NOTHING IS REFUSED but an epoch of which no number is left to draw

module _ (returning : Returning) (laws : LeadsReads returning) (redos : LeadsRedos returning) (before : List Happening) (rebuild : Option Rebuild)
    (stopped : Option FenceFault) (words : Codewords) (kept : Content) (t : ℕ) where
  pub only_spent : (answer : Result ℕ Refusal) (x z : Snapshot) → Scrubs t answer x z
      → Serves returning before rebuild stopped words kept x x.told.history → IsTrue z.told.honest
      → StaysWithinToleranceTo returning x.member.array.geometry before z.told.history → t < x.member.array.geometry.stripes → (refusal : Refusal)
      → answer ≡ Err refusal → refusal ≡ refused fence.EpochsSpent
  only_spent _ _ _ (Scrubs.OutOf x past) is honest calm inside refusal same = absurd (omega (arith, inside, past))
  only_spent _ _ _ (Scrubs.Stops was read gathered fault x y below loads) is honest calm inside refusal same =
      stripe_refused returning laws before rebuild stopped words kept x is t was x (none_asked x) below (Err (refused fault)) x y
      (LoadsStripe.Stops was read gathered fault x y loads) refl honest calm refusal
      (ap (λ (r : Refusal). Err r) (let one : refused fault ≡ refusal = cc in one))
  only_spent _ _ _ (Scrubs.Sound was read gathered x y below loads none) is honest calm inside refusal same = absurd (cc)
  only_spent _ _ _ (Scrubs.Unrestored was read into gathered lost x y below loads unrestored) is honest calm inside refusal same =
      stripe_refused returning laws before rebuild stopped words kept x is t into x (none_asked x) below (Err lost) x y
      (LoadsStripe.Loaded was read gathered (Err lost) x y loads unrestored) refl honest calm refusal
      (ap (λ (r : Refusal). Err r) (let one : lost ≡ refusal = cc in one))
  only_spent _ _ _ (Scrubs.Rewrote was read into gathered redo given x y z below loads loaded here formed cells run) is honest calm inside refusal
      same =
      by given refl same
    where
      start : redo_doubt.Begins returning before rebuild stopped words words kept None redo into x y
      start =
          part.begins returning laws before rebuild stopped words kept t was read into gathered redo given x y z is below loads loaded here formed run
          honest
          z.told.history
          (part.to_end returning laws before rebuild stopped words kept t was read into gathered redo given x y z is below loads loaded here formed
          run honest)
          (part.going_at returning laws before rebuild stopped words kept t was read into gathered redo given x y z is below loads loaded here formed
          run honest
          z.told.history
          (part.to_end returning laws before rebuild stopped words kept t was read into gathered redo given x y z is below loads loaded here formed
          run honest) calm)

      never : (whys : List Why) → given ≡ Some (fence.TooFew whys) → ⊥
      never whys few =
          redo_doubt.enough returning before rebuild stopped words words kept None redo into redos x y start whys given z run few honest calm

      by : (fault : Option FenceFault) → given ≡ fault → answer_of (cell_count redo.cells) fault ≡ Err refusal → refusal ≡ refused fence.EpochsSpent
      by None is_given same = absurd (cc)
      by (Some (fence.TooFew whys)) is_given same = absurd (never whys is_given)
      by (Some fence.EpochsSpent) is_given same = let one : refused fence.EpochsSpent ≡ refusal = cc in sym one

-- THE STEP

module _ (returning : Returning) (laws : LeadsReads returning) (redos : LeadsRedos returning) (t : ℕ) (answer : Answer (ScrubStripe t))
    (events : List Event) (x y : Seen) (p : Performs (ScrubStripe t) answer events x y)
    (honest : IsTrue y.told.honest) (before : List Happening) (s : State) (history : IsHistory x.told.history)
    (state : IsInState returning before s x)
    (calm : StaysWithinTolerance returning s.geometry (is_open x.session) before y.told.history) where
  pub none_refused : t < s.geometry.stripes → (refusal : Refusal) → answer ≡ Err refusal → refusal ≡ refused fence.EpochsSpent
  none_refused below refusal same =
      only_spent returning laws redos before p.was.rebuild p.was.stopped (begins returning laws redos t answer events x y p honest before s history
      state).words s.content t answer
      (snapshot p.was.member x.told) (snapshot p.is.member y.told) p.does
      (serves returning laws redos t answer events x y p honest before s history state) honest
      (calm_begun returning laws redos t answer events x y p honest before s history state y.told.history calm)
      (subst (λ (g : Geometry). t < g.stripes) (sym (begins returning laws redos t answer events x y p honest before s history state).geometry) below)
      refusal same

  -- so it is done
  complete : CanBeDone (ScrubStripe t) s p.was.member x.told.history y.told.history → IsOk answer
  complete can =
      done_with_room (ScrubStripe t) (λ j same. cc) answer events x y p (serves returning laws redos t answer events x y p honest before s history
      state).is_open.array.member can.draws
      (λ cause. cause.1) (none_refused (can.passes _ (begins returning laws redos t answer events x y p honest before s history state).seats))

-- So it is what is promised of a step.
pub promise : (returning : Returning) → LeadsReads returning → LeadsRedos returning
    → (t : ℕ) (answer : Answer (ScrubStripe t)) (events : List Event) (x y : Seen) → (p : Performs (ScrubStripe t) answer events x y)
    → LeadsStep returning p.was.member (ScrubStripe t) answer x y
promise returning laws redos t answer events x y p = record {
  leads = λ honest before s history state calm. leads returning laws redos t answer events x y p honest before s history state calm;
  cuts = λ honest before s history state c at calm. cuts returning laws redos t answer events x y p honest before s history state c at calm;
  complete = λ honest before s history state calm unread can. complete returning laws redos t answer events x y p honest before s history state calm can;
}
