-- A look at the seats is a step of which nothing is told.
use Rattle.std.proofs.Common.{◌≡◌, ◌∙◌, ◌+◌, ℕ, zero, suc, Bool, true, false, List, [], None, Some, Ok, Err, inl, inr, refl, sym, ap, subst, length, ◌++◌}
use Rattle.std.proofs.lemmas.Bool.{cond-false}
use Rattle.std.specs.Prelude.{◌&&◌, nat_le, not}
use Rattle.stair_rack.specs.declared.watcher.Event.{Event}
use Rattle.stair_super.specs.Superblock.{mark_in}
use Rattle.stair_super.specs.declared.configuration.Configuration.{Configuration}
use Rattle.stair_member.specs.declared.fault.FenceFault.{FenceFault}
use Rattle.stair_invariant.specs.Session.{ArrayState, IsArray, seats_in}
use Rattle.stair_array.specs.Calls.{refused}
use Rattle.stair_array.specs.Events.{fenced_from, is_down}
use Rattle.stair_array.specs.Machine.{LookAtSeats}
use Rattle.stair_array.specs.Promise.{Opened, Performs, running}
use Rattle.stair_array.proofs.SeatsLookLemmas.{look_performs}
use Rattle.stair_command.specs.Devices.{DeviceView, Devices, devices, seen_of}
use Rattle.stair_command.specs.Rack.{told_of}
use Rattle.stair_command.specs.Steps.{Takes}

and_not : (b : Bool) → (b && not b) ≡ false
and_not true = refl
and_not false = refl

-- no slot is Down that wasn't
none_fenced : (first n : ℕ) (array : Configuration) → fenced_from first n array array ≡ []
none_fenced first zero array = refl
none_fenced first (suc n) array =
    cond-false _ _ _ (and_not (is_down (mark_in array first))) ∙ none_fenced (first + 1) n array

module _ {R W : Type 0} (view : DeviceView R W) (rack : R) (array : ArrayState) (watchers : List W) where
  abbrev here : Devices R W
  here = devices rack (Opened array) watchers

  pub look_taken : IsArray array → array.stopped ≡ None → Takes view LookAtSeats (Ok (seats_in array.member.array)) here here
  look_taken is none = record { events = []; left = not (nat_le (length watchers) (length watchers)); works = (inl performs, refl, refl, tt) }
    where
      runs : array ≡ running array.member array.rebuild array.remembered
      runs i = record { member = array.member; rebuild = array.rebuild; stopped = none i; remembered = array.remembered }

      silent : fenced_from 0 32 array.member.array array.member.array ++ [] ≡ []
      silent = ap (λ (events : List Event). events ++ []) (none_fenced 0 32 array.member.array)

      performs : Performs LookAtSeats (Ok (seats_in array.member.array)) [] (seen_of view here) (seen_of view here)
      performs =
          subst (λ (a : ArrayState). Performs LookAtSeats (Ok (seats_in array.member.array)) [] (seen_of view (devices rack (Opened a) watchers)) (seen_of view (devices rack (Opened a) watchers)))
          (sym runs)
          (subst (λ (events : List Event). Performs LookAtSeats (Ok (seats_in array.member.array)) events
          (seen_of view (devices rack (Opened (running array.member array.rebuild array.remembered)) watchers)) (seen_of view (devices rack (Opened (running array.member array.rebuild array.remembered)) watchers))) silent
          (look_performs array.member array.rebuild array.remembered (told_of view.rack rack) (subst IsArray runs is)))

  -- an array that was stopped answers by what it was stopped
  pub look_refused : (by : FenceFault) → array.stopped ≡ Some by → Takes view LookAtSeats (Err (refused by)) here here
  look_refused by stopped = record {
    events = [];
    left = not (nat_le (length watchers) (length watchers));
    works = (
      inr (record { array = array; is_open = refl; fault = by; stopped = stopped; answered = refl; silent = refl; same = refl }),
      refl,
      refl,
      tt,
    );
  }
