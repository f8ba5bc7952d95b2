-- The loop of `rebuild`: what is so before each step.
use Rattle.std.proofs.Common.{◌≡◌, ◌∙◌, ◌+◌, ◌*◌, ◌^◌, ◌<◌, ◌≤◌, ℕ, List, Ok, Err, Result, arith, refl, subst, sym}
use Rattle.std.proofs.Math.Nat.{mul-le-mul}
use Rattle.stair_model.specs.Geometry.{Geometry, IsWithinLimits}
use Rattle.stair_invariant.specs.Session.{ArrayState}
use Rattle.stair_array.specs.Arrays.{progress_for, rebuilt_as}
use Rattle.stair_array.specs.Draws.{weights}
use Rattle.stair_array.specs.Faults.{rebuild_refusal}
use Rattle.stair_array.specs.Machine.{Nothing, RebuildNext}
use Rattle.stair_array.specs.Promise.{Opened}
use Rattle.stair_array.specs.declared.fault.Progress.{Progress}
use Rattle.stair_array.specs.declared.fault.Progress.TheVariants as progress
use Rattle.stair_array.specs.declared.fault.RebuildFault.{RebuildFault}
use Rattle.stair_command.specs.Comes.{ExecutesOnDevices}
use Rattle.stair_command.specs.Devices.{DeviceView, Devices, devices}
use Rattle.stair_command.specs.Program.{Program, Over, RebuildAll}
use Rattle.stair_command.specs.Rebuilt.{steps_left}
use Rattle.stair_command.specs.Refused.{status_of_refusal}
use Rattle.stair_command.specs.Steps.{Takes}
use Rattle.stair_command.specs.Trace.{Stepped}
use Rattle.stair_command.proofs.ComesLaws.{comes_by, comes_none, comes_then}
use Rattle.stair_command.proofs.DrawnLaws.{weights_small}
use Rattle.stair_command.proofs.TakenLaws.{taken_geometry}
use Rattle.stair_watch.specs.WatcherList.{AllStay}

-- few steps are left
pub few_left : (a : ArrayState) → IsWithinLimits a.member.array.geometry → steps_left a ≤ 2 ^ 38
few_left a limits =
    let g = a.member.array.geometry in
    let heavy : weights a.member ≤ 64 = weights_small a.member (omega (arith, limits.devices.1)) in
    let size : g.stripes + 1 ≤ 2 ^ 32 = omega (arith, limits.size.1) in
    let product : weights a.member * (g.stripes + 1) ≤ 64 * 2 ^ 32 = mul-le-mul heavy size in
    omega (arith, product)

module _ {R W : Type 0} (view : DeviceView R W) where
  -- So many steps were made, and fewer are left than at first.
  pub record RebuiltSoFar (g : Geometry) (steps : ℕ) (first now : Devices R W) (was is : ArrayState) : Type 0 where
    pub geometry : is.member.array.geometry ≡ g
    pub stay : AllStay view.watcher now.watchers
    pub few : steps + steps_left is ≤ steps_left was
    pub comes : (k : ℕ → Program) → ExecutesOnDevices view (RebuildAll g.n 0 k) (RebuildAll g.n steps k) first now

  pub none_rebuilt : (g : Geometry) (x : Devices R W) (was : ArrayState) → was.member.array.geometry ≡ g → AllStay view.watcher x.watchers
      → RebuiltSoFar g 0 x x was was
  none_rebuilt g x was same stay =
      record { geometry = same; stay = stay; few = omega arith; comes = λ k. comes_none view (RebuildAll g.n 0 k) x }

  module _ (g : Geometry) (steps : ℕ) (first : Devices R W) (now next : R) (was is after : ArrayState) (left rest : List W)
      (so_far : RebuiltSoFar g steps first (devices now (Opened is) left) was is) where
    -- one more
    step_comes : (came : Progress) (k : ℕ → Program) → (came ≡ progress.Nothing → ⊥)
        → Takes view RebuildNext (Ok (progress_for came)) (devices now (Opened is) left) (devices next (Opened after) rest)
        → ExecutesOnDevices view (RebuildAll g.n steps k) (RebuildAll g.n (steps + 1) k) (devices now (Opened is) left) (devices next (Opened after) rest)
    step_comes progress.Nothing k other takes = absurd (other refl)
    step_comes (progress.Chunk j t) k other takes =
        comes_by view (Stepped RebuildNext _ takes.events takes.left) (RebuildAll g.n steps k) (RebuildAll g.n (steps + 1) k) _ _ tt (_, refl, refl) takes.works
    step_comes (progress.Promoted j) k other takes =
        comes_by view (Stepped RebuildNext _ takes.events takes.left) (RebuildAll g.n steps k) (RebuildAll g.n (steps + 1) k) _ _ tt (_, refl, refl) takes.works
    step_comes (progress.Dropped j) k other takes =
        comes_by view (Stepped RebuildNext _ takes.events takes.left) (RebuildAll g.n steps k) (RebuildAll g.n (steps + 1) k) _ _ tt (_, refl, refl) takes.works

    pub one_rebuilt : (came : Progress) → (came ≡ progress.Nothing → ⊥) → AllStay view.watcher rest → steps_left after < steps_left is
        → Takes view RebuildNext (Ok (progress_for came)) (devices now (Opened is) left) (devices next (Opened after) rest)
        → RebuiltSoFar g (steps + 1) first (devices next (Opened after) rest) was after
    one_rebuilt came other stay sooner takes = record {
      geometry = taken_geometry view RebuildNext (Ok (progress_for came)) _ _ is.member after.member takes refl refl ∙ so_far.geometry;
      stay = stay;
      few = omega (arith, so_far.few, sooner);
      comes = λ k. comes_then view (so_far.comes k) (step_comes came k other takes);
    }

    -- nothing is left to rebuild
    pub all_rebuilt : Takes view RebuildNext (Ok Nothing) (devices now (Opened is) left) (devices next (Opened after) rest)
        → (k : ℕ → Program) → ExecutesOnDevices view (RebuildAll g.n 0 k) (k steps) first (devices next (Opened after) rest)
    all_rebuilt takes k =
        comes_then view (so_far.comes k)
        (comes_by view (Stepped RebuildNext (Ok Nothing) takes.events takes.left) (RebuildAll g.n steps k) (k steps) _ _ tt (Ok Nothing, refl, refl) takes.works)

    -- or a step was refused
    pub rebuild_refused : (fault : RebuildFault) (slots : ℕ) → slots ≡ g.n
        → Takes view RebuildNext (Err (rebuild_refusal fault)) (devices now (Opened is) left) (devices next (Opened after) rest)
        → (k : ℕ → Program) → ExecutesOnDevices view (RebuildAll g.n 0 k) (Over (status_of_refusal slots (rebuild_refusal fault))) first (devices next (Opened after) rest)
    rebuild_refused fault slots same takes k =
        subst (λ (n : ℕ). ExecutesOnDevices view (RebuildAll g.n 0 k) (Over (status_of_refusal n (rebuild_refusal fault))) first (devices next (Opened after) rest)) (sym same)
        (comes_then view (so_far.comes k)
        (comes_by view (Stepped RebuildNext (Err (rebuild_refusal fault)) takes.events takes.left) (RebuildAll g.n steps k)
        (Over (status_of_refusal g.n (rebuild_refusal fault))) _ _ tt (Err (rebuild_refusal fault), refl, refl) takes.works))

    pub still_geometry : (answer : Result Progress RebuildFault)
        → Takes view RebuildNext (rebuilt_as answer) (devices now (Opened is) left) (devices next (Opened after) rest)
        → after.member.array.geometry ≡ g
    still_geometry answer takes = taken_geometry view RebuildNext (rebuilt_as answer) _ _ is.member after.member takes refl refl ∙ so_far.geometry
