-- A command on volumes, one part after the other.
use Rattle.std.proofs.Common.{◌≡◌, ℕ, Ok, Err, Result, subst, sym}
use Rattle.std.specs.Result.{IsErrAnd}
use Rattle.stair_command.specs.Comes.{ExecutesOnDevices}
use Rattle.stair_command.specs.Devices.{DeviceView, Devices, ExecutesWith}
use Rattle.stair_command.specs.Outside.{Views, outside}
use Rattle.stair_command.specs.Program.{Program, Over}
use Rattle.stair_command.specs.Talks.{PutsTo}
use Rattle.stair_status.specs.declared.status.Status.TheVariants.{Done}
use Rattle.stair_command.proofs.ComesLaws.{with_comes}
use Rattle.stair_command.proofs.DeviceLaws.{with_none, with_then}
use Rattle.stair_command.proofs.TalkLaws.{talks_put, with_talk}
use Rattle.stair_volume.specs.declared.fault.VolumeFault.{VolumeFault}
use Rattle.stair_volume.specs.Commands.{status_of, status_of_volume}
use Rattle.stair_volume.specs.Parts.{after_done}

-- from here on to this program
abbrev pub Did : {R W S K : Type 0} → DeviceView R W → Views S K → Program → S → K → Devices R W → Program → S → K → Devices R W → Type 0
Did view streams program from empty start rest a k x = (counter : ℕ) → ExecutesWith view streams program rest (outside from empty counter) (outside a k counter) start x

module _ {R W S K : Type 0} (view : DeviceView R W) (streams : Views S K) where
  pub did_none : (program : Program) (from : S) (empty : K) (start : Devices R W) → Did view streams program from empty start program from empty start
  did_none program from empty start counter = with_none view streams program (outside from empty counter) start

  module _ (program : Program) (from : S) (empty : K) (start : Devices R W) where
    abbrev DidTo : Program → S → K → Devices R W → Type 0
    DidTo = Did view streams program from empty start

    pub did_put : {mid rest : Program} {k l : K} (a : S) (x : Devices R W) → DidTo mid a k x → PutsTo streams.sink mid rest k l → DidTo rest a l x
    did_put a x did puts counter = with_then view streams (did counter) (with_talk streams view (talks_put streams puts a) counter x)

    pub did_come : {mid rest : Program} {x y : Devices R W} (a : S) (k : K) → DidTo mid a k x → ExecutesOnDevices view mid rest x y → DidTo rest a k y
    did_come {mid} {rest} {x} {y} a k did comes counter =
        with_then view streams (did counter) (with_comes view streams mid rest (outside a k counter) x y comes)

    pub did_so : {rest other : Program} (a : S) (k : K) (x : Devices R W) → rest ≡ other → DidTo rest a k x → DidTo other a k x
    did_so a k x same did = subst (λ (p : Program). DidTo p a k x) same did

    -- a fault that was handed on
    pub did_fail : (slots : ℕ) (a : S) (k : K) (x : Devices R W) (result : Result (Unit {0}) VolumeFault) (why : VolumeFault) → IsErrAnd result (λ f. f ≡ why)
        → DidTo (Over (status_of_volume slots why)) a k x → DidTo (Over (status_of slots result)) a k x
    did_fail slots a k x (Ok done) why is did = absurd is
    did_fail slots a k x (Err f) why is did = subst (λ (f : VolumeFault). DidTo (Over (status_of_volume slots f)) a k x) (sym is) did

    -- after the last thing that was done, or wasn't
    pub did_end : (slots : ℕ) (a : S) (k : K) (x : Devices R W) (result : Result (Unit {0}) VolumeFault) → DidTo (after_done slots result (Over Done)) a k x
        → DidTo (Over (status_of slots result)) a k x
    did_end slots a k x (Ok done) did = did
    did_end slots a k x (Err f) did = did
