-- What holds for every session: its array is opened, what holds for it then, its geometry is within its limits, and one
-- block may be written at once.
use Rattle.std.proofs.Common.{◌≡◌, ◌∙◌, ◌+◌, ◌*◌, ◌%◌, ◌<◌, ◌≤◌, inl, inr, ℕ, zero, suc, List, [], ◌∷◌, Option, ap, arith, false, refl, subst, sym}
use Rattle.stair_model.specs.Geometry.{Geometry, IsWithinLimits, block_count, data_cells}
use Rattle.stair_rack.specs.Crash.{image_now}
use Rattle.stair_rack.specs.History.{Happening}
use Rattle.stair_rack.proofs.MomentLemmas.{moment_first}
use Rattle.stair_rack.proofs.CrashLemmas.{CrashMayLeave-now}
use Rattle.stair_member.proofs.SuperLemmas.{counts_limits}
use Rattle.stair_state.specs.Blocks.{AreOfOneStripe}
use Rattle.stair_state.specs.State.{Content, State}
use Rattle.stair_state.specs.Tolerance.{ToleratedSince}
use Rattle.stair_invariant.specs.Returning.{AnyReturns, StaysWithinTolerance, NoneReturns, Returning}
use Rattle.stair_array.specs.Machine.{IsDecided}
use Rattle.stair_array.specs.Promise.{Begun, Phase, is_open}
use Rattle.stair_command.specs.Program.{Program, Allocate, Over, opens_array}
use Rattle.stair_status.specs.declared.status.Status.{Status}
use Rattle.stair_command.specs.Devices.{DeviceView, Devices, WorksAll}
use Rattle.stair_command.specs.Run.{history_of}
use Rattle.stair_command.specs.Trace.{TraceItem, AlongTrace, StepsProgram}
use Rattle.stair_command.specs.Sure.{Completes, ServesAlong}
use Rattle.stair_command.proofs.RunLaws.{one_ran, works_ran}
use Rattle.stair_engine.specs.Complete.{IsThawed}

-- a session whose command is sure is sure
pub opens_sure : (k : Geometry → Program) (s : State) (left : Option (List ℕ))
    → ((later : State) → IsDecided s later → later.geometry ≡ s.geometry → Completes [] (k s.geometry) later left)
    → Completes [] (opens_array k) s left
opens_sure k s left sure = λ member same. (
  λ seats is free. tt,
  λ g gone later done.
      subst (λ (h : Geometry). Completes [] (k h) later left) (sym done.row.holds.0) (sure later done.row.holds.1 done.row.geometry),
)

-- one that isn't frozen isn't once it is open
pub still_thawed : (s later : State) → IsDecided s later → IsThawed s → later.content.frozen ≡ false
still_thawed s later (inl kept) is = ap (λ (c : Content). c.frozen) kept.content ∙ is.0
still_thawed s later (inr made) is = ap (λ (c : Content). c.frozen) made.content ∙ is.1

-- a block is all of one stripe
pub one_block : (g : Geometry) (block : ℕ) → block < block_count g → AreOfOneStripe g block 1
one_block g block below = record { some = omega arith; within = by (data_cells g) below }
  where
    by : (cells : ℕ) → block < cells * g.stripes → block % cells + 1 ≤ cells
    by zero below = absurd (omega (arith, below))
    by (suc cells) below = omega arith

-- an array that is within tolerance has a current superblock, which counts
calm_limits : (returning : Returning) (g : Geometry) (before : List Happening) → StaysWithinTolerance returning g false before before → IsWithinLimits g
calm_limits returning g before calm =
    let is = tolerated returning calm before (moment_first [] refl) (image_now before) (CrashMayLeave-now before) in
    counts_limits g (image_now before) is.current.slot is.current is.is_current.counts
  where
    tolerated : (returning : Returning) → StaysWithinTolerance returning g false before before → ToleratedSince g before before
    tolerated NoneReturns calm = calm.0
    tolerated AnyReturns calm = calm.0

-- so has one that serves along the trace of a command, which does something at least
pub serves_limits : {R W : Type 0} (returning : Returning) (view : DeviceView R W) (s : State) (trace : List TraceItem) (program : Program)
    (status : Status) (x y : Devices R W) (works : AlongTrace (WorksAll view) trace x y) → x.session ≡ Begun
    → AlongTrace StepsProgram trace (Allocate program) (Over status) → ServesAlong returning view s trace x y works → IsWithinLimits s.geometry
serves_limits returning view s [] program status x y works begun follows serves = absurd (never follows)
  where
    never : Over status ≡ Allocate program → ⊥
    never same = cc
serves_limits returning view s (item ∷ trace) program status x y works begun follows serves =
    let ran = one_ran view serves.honest item x works.0 works.1 in
    let all = works_ran view serves.honest (item ∷ trace) x y works in
    calm_limits returning s.geometry (history_of view x)
    (subst (λ (session : Phase). StaysWithinTolerance returning s.geometry (is_open session) (history_of view x) (history_of view x)) begun
    (serves.calm.0.0 (history_of view x) (moment_first ran.more ran.is) (moment_first all.more all.is)))
