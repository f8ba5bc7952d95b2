-- A session of one step, after which a line is put out.
use Rattle.std.proofs.Common.{◌≡◌, ℕ, List, Ok, Err, Result, refl, subst, sym}
use Rattle.stair_invariant.specs.Session.{ArrayState}
use Rattle.stair_array.specs.Machine.{GivenBy, Refusal, Step}
use Rattle.stair_array.specs.Promise.{Opened}
use Rattle.stair_command.specs.Devices.{DeviceView, ExecutesWhole, devices}
use Rattle.stair_command.specs.Fault.{status_of}
use Rattle.stair_command.specs.Executes.{Executes}
use Rattle.stair_command.specs.Outside.{Views, outside}
use Rattle.stair_command.specs.Program.{Over, Put, take_step}
use Rattle.stair_command.specs.Refused.{status_of_refusal}
use Rattle.stair_command.specs.Steps.{Takes}
use Rattle.stair_command.specs.declared.fault.Fault.{Fault}
use Rattle.stair_status.specs.declared.status.Status.{Status}
use Rattle.stair_status.specs.declared.status.Status.TheVariants.{Done}
use Rattle.stair_command.proofs.ComesLaws.{comes_refusal, comes_step}
use Rattle.stair_engine.specs.Blocks.{BeginsSession}
use Rattle.stair_engine.specs.Mending.{stamps}
use Rattle.stair_engine.proofs.SessionLaws.{ends_with, ends_with_line}

module _ {R W K : Type 0} (view : DeviceView R W) (streams : Views (Unit {0}) K) (step : Step) (line : List ℕ) (x y z : R) (watchers mid left : List W)
    (array last : ArrayState) (begins : BeginsSession view array x y watchers mid) where
  pub stamp_refused : (refusal : Refusal) (slots : ℕ) → slots ≡ array.member.array.geometry.n
      → Takes view step (Err refusal) (devices y (Opened array) mid) (devices z (Opened last) left) → (sink : K) (counter : ℕ)
      → ExecutesWhole view streams (stamps step line) (Over (status_of_refusal slots refusal)) (outside tt sink counter) (outside tt sink counter) x z watchers left
  stamp_refused refusal slots same takes sink counter =
      subst (λ (n : ℕ). ExecutesWhole view streams (stamps step line) (Over (status_of_refusal n refusal)) (outside tt sink counter) (outside tt sink counter) x z watchers left)
      (sym same)
      (ends_with view streams (λ g. take_step g.n step (λ done. Put line (Over Done))) x y z watchers mid left array last begins
      (status_of_refusal array.member.array.geometry.n refusal) sink counter
      (comes_refusal view array.member.array.geometry.n step refusal (λ done. Put line (Over Done)) (devices y (Opened array) mid)
      (devices z (Opened last) left) takes))

  pub stamped : (given : GivenBy step) → Takes view step (Ok given) (devices y (Opened array) mid) (devices z (Opened last) left)
      → (result : Result Status Fault) (sink later : K)
      → ((counter : ℕ) → Executes streams (Put line (Over Done)) (Over (status_of result)) (outside tt sink counter) (outside tt later counter))
      → (counter : ℕ)
      → ExecutesWhole view streams (stamps step line) (Over (status_of result)) (outside tt sink counter) (outside tt later counter) x z watchers left
  stamped given takes result sink later means counter =
      ends_with_line view streams (λ g. take_step g.n step (λ done. Put line (Over Done))) x y z watchers mid left array last begins line line refl result sink later
      (comes_step view array.member.array.geometry.n step given (λ done. Put line (Over Done)) (devices y (Opened array) mid)
      (devices z (Opened last) left) takes) means counter
