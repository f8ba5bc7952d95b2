-- What a replacement does: a device is admitted, what is rebuilt is rebuilt to its end, and the mark is looked at.
use Rattle.std.proofs.Common.{◌≡◌, ◌∙◌, ◌<◌, ◌≤◌, ℕ, Bool, List, None, Ok, Err, Some, ap, nat_lt, refl, subst, sym}
use Rattle.std.proofs.lemmas.Bool.{le-ltb, lt-ltb}
use Rattle.stair_model.specs.Geometry.{Geometry}
use Rattle.stair_member.specs.declared.fault.FenceFault.{FenceFault}
use Rattle.stair_member.specs.declared.fault.FenceFault.TheVariants as fence
use Rattle.stair_invariant.specs.Session.{ArrayState, IsArray, seats_in}
use Rattle.stair_array.specs.Calls.{refused}
use Rattle.stair_array.specs.Faults.{array_fault, refusal_for}
use Rattle.stair_array.specs.Machine.{LookAtSeats, Refusal, ReplaceSlot}
use Rattle.stair_array.specs.Promise.{Opened}
use Rattle.stair_array.specs.declared.fault.ArrayFault.{ArrayFault}
use Rattle.stair_super.specs.declared.mark.Mark.{Mark}
use Rattle.stair_super.specs.declared.mark.Mark.TheVariants.{Down, Live, Rebuilding}
use Rattle.stair_command.specs.Comes.{ExecutesOnDevices}
use Rattle.stair_command.specs.Devices.{DeviceView, Devices, devices}
use Rattle.stair_command.specs.Program.{Program, Over, RebuildAll, take_step}
use Rattle.stair_command.specs.Refused.{status_of_refusal}
use Rattle.stair_command.specs.Steps.{Takes}
use Rattle.stair_command.proofs.ComesLaws.{comes_none, comes_refusal, comes_step, comes_then}
use Rattle.stair_command.proofs.LookTaken.{look_refused, look_taken}
use Rattle.stair_command.proofs.TakenLaws.{taken_geometry}
use Rattle.stair_status.specs.declared.status.Status.TheVariants.{Gone, OutOfRange}
use Rattle.stair_engine.specs.Mending.{if_live, if_slot, replaced, replaces}

-- after the rebuild
abbrev pub look_on : Geometry → ℕ → ℕ → Program
look_on g slot steps = take_step g.n LookAtSeats (λ seats. if_live slot (seats slot).mark)

fault_is : (by : FenceFault) → refusal_for (array_fault by) ≡ refused by
fault_is (fence.TooFew whys) = refl
fault_is fence.EpochsSpent = refl

pub live_program : (slot : ℕ) (mark : Mark) → mark ≡ Live → if_live slot mark ≡ replaced slot
live_program slot mark is = ap (if_live slot) is

pub gone_program : (slot : ℕ) (mark : Mark) → (mark ≡ Live → ⊥) → if_live slot mark ≡ Over (Gone slot)
gone_program slot Live other = absurd (other refl)
gone_program slot Rebuilding other = refl
gone_program slot Down other = refl

module _ {R W : Type 0} (view : DeviceView R W) (g : Geometry) (slot : ℕ) (x y : R) (was is : ArrayState) (watchers mid : List W) where
  -- the device isn't admitted
  pub not_admitted : (refusal : Refusal) (slots : ℕ) → slots ≡ g.n
      → Takes view (ReplaceSlot slot) (Err refusal) (devices x (Opened was) watchers) (devices y (Opened is) mid)
      → ExecutesOnDevices view (replaces g slot) (Over (status_of_refusal slots refusal)) (devices x (Opened was) watchers) (devices y (Opened is) mid)
  not_admitted refusal slots same takes =
      subst (λ (n : ℕ). ExecutesOnDevices view (replaces g slot) (Over (status_of_refusal n refusal)) (devices x (Opened was) watchers) (devices y (Opened is) mid)) (sym same)
      (comes_refusal view g.n (ReplaceSlot slot) refusal (λ done. RebuildAll g.n 0 (look_on g slot)) _ _ takes)

  -- or it is, and then it is rebuilt
  pub admitted : was.member.array.geometry ≡ g
      → Takes view (ReplaceSlot slot) (Ok tt) (devices x (Opened was) watchers) (devices y (Opened is) mid) → (rest : Program) (z : Devices R W)
      → ExecutesOnDevices view (RebuildAll is.member.array.geometry.n 0 (look_on g slot)) rest (devices y (Opened is) mid) z
      → ExecutesOnDevices view (replaces g slot) rest (devices x (Opened was) watchers) z
  admitted same takes rest z rebuilt =
      let geometry : is.member.array.geometry ≡ g = taken_geometry view (ReplaceSlot slot) (Ok tt) _ _ was.member is.member takes refl refl ∙ same in
      comes_then view (comes_step view g.n (ReplaceSlot slot) tt (λ done. RebuildAll g.n 0 (look_on g slot)) _ _ takes)
      (subst (λ (of : Geometry). ExecutesOnDevices view (RebuildAll of.n 0 (look_on g slot)) rest (devices y (Opened is) mid) z) geometry rebuilt)

module _ {R W : Type 0} (view : DeviceView R W) (g : Geometry) (slot steps : ℕ) (first : Devices R W) (z : R) (last : ArrayState) (left : List W)
    (comes : ExecutesOnDevices view (replaces g slot) (look_on g slot steps) first (devices z (Opened last) left)) where
  -- the mark in the end
  pub looked : IsArray last → last.stopped ≡ None → (mark : Mark) → mark ≡ (seats_in last.member.array slot).mark
      → ExecutesOnDevices view (replaces g slot) (if_live slot mark) first (devices z (Opened last) left)
  looked array none mark same =
      subst (λ (m : Mark). ExecutesOnDevices view (replaces g slot) (if_live slot m) first (devices z (Opened last) left)) (sym same)
      (comes_then view comes
      (comes_step view g.n LookAtSeats (seats_in last.member.array) (λ seats. if_live slot (seats slot).mark) _ _ (look_taken view z last left array none)))

  -- or the array was stopped
  pub not_looked : (by : FenceFault) → last.stopped ≡ Some by → (fault : ArrayFault) → fault ≡ array_fault by → (slots : ℕ) → slots ≡ g.n
      → ExecutesOnDevices view (replaces g slot) (Over (status_of_refusal slots (refusal_for fault))) first (devices z (Opened last) left)
  not_looked by stopped fault is slots same =
      let refusal : refused by ≡ refusal_for fault = sym (ap refusal_for is ∙ fault_is by) in
      subst (λ (n : ℕ). ExecutesOnDevices view (replaces g slot) (Over (status_of_refusal n (refusal_for fault))) first (devices z (Opened last) left)) (sym same)
      (subst (λ (r : Refusal). ExecutesOnDevices view (replaces g slot) (Over (status_of_refusal g.n r)) first (devices z (Opened last) left)) refusal
      (comes_then view comes
      (comes_refusal view g.n LookAtSeats (refused by) (λ seats. if_live slot (seats slot).mark) _ _ (look_refused view z last left by stopped))))

-- ---- the number of the slot

module _ {R W : Type 0} (view : DeviceView R W) (g : Geometry) (slot : ℕ) (x : Devices R W) where
  abbrev from : Program
  from = if_slot g slot (nat_lt slot g.n) (replaces g slot)

  pub past_slot : (limit : ℕ) → g.n ≤ slot → limit ≡ g.n → ExecutesOnDevices view from (Over (OutOfRange slot limit)) x x
  past_slot limit past same =
      subst (λ (n : ℕ). ExecutesOnDevices view from (Over (OutOfRange slot n)) x x) (sym same)
      (subst (λ (has : Bool). ExecutesOnDevices view (if_slot g slot has (replaces g slot)) (Over (OutOfRange slot g.n)) x x) (sym (le-ltb slot g.n past))
      (comes_none view (Over (OutOfRange slot g.n)) x))

  pub has_slot : (number : ℕ) → number ≡ slot → slot < g.n → (rest : Program) (y : Devices R W) → ExecutesOnDevices view (replaces g number) rest x y
      → ExecutesOnDevices view from rest x y
  has_slot number same below rest y comes =
      subst (λ (has : Bool). ExecutesOnDevices view (if_slot g slot has (replaces g slot)) rest x y) (sym (lt-ltb slot g.n below))
      (subst (λ (j : ℕ). ExecutesOnDevices view (replaces g j) rest x y) same comes)

  pub was_replaced : (number : ℕ) → number ≡ slot → slot < g.n → (y : Devices R W) → ExecutesOnDevices view (replaces g number) (replaced number) x y
      → ExecutesOnDevices view from (replaced slot) x y
  was_replaced number same below y comes =
      has_slot slot refl below (replaced slot) y (subst (λ (j : ℕ). ExecutesOnDevices view (replaces g j) (replaced j) x y) same comes)
