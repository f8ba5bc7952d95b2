-- A write of blocks keeps what is promised of a step, whether media come back or not: it is done where it can be.
use Rattle.std.proofs.Common.{◌≡◌, ℕ, ◌<◌, List, refl, sym, ◌∙◌, subst, arith, None, Some, Option, false, length}
use Rattle.std.specs.Prelude.{IsOk, IsTrue, Result, Err}
use Rattle.std.proofs.lemmas.Bool.{true≢false}
use Rattle.stair_model.specs.Geometry.{Geometry, block_count}
use Rattle.stair_rack.specs.Answers.{IsHistory}
use Rattle.stair_rack.specs.History.{Happening}
use Rattle.stair_rack.specs.declared.watcher.Event.{Event}
use Rattle.stair_member.specs.declared.fault.FenceFault.{FenceFault}
use Rattle.stair_member.specs.declared.fault.FenceFault.TheVariants as fence
use Rattle.stair_member.specs.declared.why.Why.{Why}
use Rattle.stair_state.specs.Blocks.{Codewords}
use Rattle.stair_state.specs.State.{Content, State}
use Rattle.stair_invariant.specs.Effects.{Snapshot, snapshot}
use Rattle.stair_invariant.specs.Rebuilding.{Rebuild}
use Rattle.stair_invariant.specs.Returning.{StaysWithinTolerance, Returning}
use Rattle.stair_invariant.proofs.Serving.{LeadsReads, LeadsRedos, StaysWithinToleranceTo}
use Rattle.stair_invariant.proofs.Mending.{calm_going}
use Rattle.stair_array.specs.Calls.{WritesBlocks, answer_of, refused}
use Rattle.stair_array.specs.Machine.{Answer, Refusal, WriteBlocks}
use Rattle.stair_array.specs.Promise.{CanBeDone, IsInState, LeadsStep, Performs, Seen, is_open}
use Rattle.stair_array.proofs.DrawsLemmas.{done_with_room}
use Rattle.stair_array.proofs.LoadingLemmas.{Serves}
use Rattle.stair_array.proofs.WriteDoubtLemmas.{IsReady, enough, inside, stripe_in}
use Rattle.stair_array.proofs.WriteOutcomeLemmas.{all_ran, is_ready, to_end}
use Rattle.stair_array.proofs.WritePartLemmas.{prepares_refused}
use Rattle.stair_array.proofs.WriteStepLemmas.{begins, calm_begun, cuts, leads, serves}

-- NOTHING IS REFUSED but an epoch of which no number is left to draw

module _ (returning : Returning) (laws : LeadsReads returning) (redos : LeadsRedos returning) (before : List Happening) (rebuild : Option Rebuild)
    (stopped : Option FenceFault) (words : Codewords) (kept : Content) where
  pub only_spent : (first : ℕ) (contents : List (List ℕ)) (answer : Result (Unit {0}) Refusal) (x z : Snapshot) → WritesBlocks first contents answer x z
      → Serves returning before rebuild stopped words kept x x.told.history → IsTrue z.told.honest
      → StaysWithinToleranceTo returning x.member.array.geometry before z.told.history → first < block_count x.member.array.geometry → x.member.array.frozen ≡ false
      → (refusal : Refusal) → answer ≡ Err refusal → refusal ≡ refused fence.EpochsSpent
  only_spent first contents _ _ _ (WritesBlocks.OutOf x past) is honest calm below thawed refusal same = absurd (omega (arith, below, past))
  only_spent first contents _ _ _ (WritesBlocks.IsFrozen x low frozen) is honest calm below thawed refusal same =
      absurd (true≢false (sym frozen ∙ thawed))
  only_spent first contents _ _ _ (WritesBlocks.Unready t cells loaded lost x y place prepares) is honest calm below thawed refusal same =
      prepares_refused returning laws before rebuild stopped words kept t (length contents) cells loaded (Err lost) x y prepares is
      (inside first contents x.member t cells place)
      (stripe_in first contents x.member t cells place is.is_open.array.member.array.limits) honest calm refusal same
  only_spent first contents _ _ _ (WritesBlocks.Wrote redo loaded stripe given x y z place formed prepares set run) is honest calm below thawed refusal
      same =
      by given refl same
    where
      ready : IsReady returning before rebuild stopped words kept first contents x redo.stripe redo.cells loaded y
      ready =
          is_ready returning laws before rebuild stopped words kept first contents redo loaded stripe given x y z is place prepares run honest
          z.told.history
          (to_end returning laws before rebuild stopped words kept first contents redo loaded stripe given x y z is place prepares run honest)
          (calm_going returning x.member.array.geometry before z.told.history
          (all_ran returning laws before rebuild stopped words kept first contents redo loaded stripe given x y z is place prepares run honest) calm)

      never : (whys : List Why) → given ≡ Some (fence.TooFew whys) → ⊥
      never whys few =
          enough returning before rebuild stopped words kept first contents redo loaded stripe x y is place formed set ready redos whys given z run
          few honest calm

      by : (fault : Option FenceFault) → given ≡ fault → answer_of {T = Unit {0}} tt fault ≡ Err refusal → refusal ≡ refused fence.EpochsSpent
      by None is_given same = absurd (cc)
      by (Some (fence.TooFew whys)) is_given same = absurd (never whys is_given)
      by (Some fence.EpochsSpent) is_given same = let one : refused fence.EpochsSpent ≡ refusal = cc in sym one

-- THE STEP

module _ (returning : Returning) (laws : LeadsReads returning) (redos : LeadsRedos returning) (first : ℕ) (contents : List (List ℕ))
    (answer : Answer (WriteBlocks first contents)) (events : List Event) (x y : Seen)
    (p : Performs (WriteBlocks first contents) answer events x y) (honest : IsTrue y.told.honest) (before : List Happening) (s : State)
    (history : IsHistory x.told.history) (state : IsInState returning before s x)
    (calm : StaysWithinTolerance returning s.geometry (is_open x.session) before y.told.history) where
  pub none_refused : first < block_count s.geometry → s.content.frozen ≡ false → (refusal : Refusal) → answer ≡ Err refusal
      → refusal ≡ refused fence.EpochsSpent
  none_refused below thawed refusal same =
      only_spent returning laws redos before p.was.rebuild p.was.stopped (begins returning laws redos first contents answer events x y p honest before
      s history state).words s.content first contents answer
      (snapshot p.was.member x.told) (snapshot p.is.member y.told) p.does
      (serves returning laws redos first contents answer events x y p honest before s history state) honest
      (calm_begun returning laws redos first contents answer events x y p honest before s history state y.told.history calm)
      (subst (λ (g : Geometry). first < block_count g) (sym (begins returning laws redos first contents answer events x y p honest before s history
      state).geometry) below)
      ((begins returning laws redos first contents answer events x y p honest before s history state).frozen ∙ thawed) refusal same

  -- so it is done
  complete : CanBeDone (WriteBlocks first contents) s p.was.member x.told.history y.told.history → IsOk answer
  complete can =
      let tests = can.passes _ (begins returning laws redos first contents answer events x y p honest before s history state).seats in
      done_with_room (WriteBlocks first contents) (λ j same. cc) answer events x y p
      (serves returning laws redos first contents answer events x y p honest before s history state).is_open.array.member can.draws (λ cause. cause.1)
      (none_refused tests.0 tests.2)

-- So it is what is promised of a step.
pub promise : (returning : Returning) → LeadsReads returning → LeadsRedos returning
    → (first : ℕ) (contents : List (List ℕ)) (answer : Answer (WriteBlocks first contents)) (events : List Event) (x y : Seen)
    → (p : Performs (WriteBlocks first contents) answer events x y) → LeadsStep returning p.was.member (WriteBlocks first contents) answer x y
promise returning laws redos first contents answer events x y p = record {
  leads = λ honest before s history state calm. leads returning laws redos first contents answer events x y p honest before s history state calm;
  cuts =
      λ honest before s history state c at calm. cuts returning laws redos first contents answer events x y p honest before s history state c at calm;
  complete =
      λ honest before s history state calm unread can. complete returning laws redos first contents answer events x y p honest before s history state calm can;
}
