-- What a frozen mark or a label did is what is promised of a step, on any rack.
use Rattle.std.proofs.Common.{◌≡◌, Bool, List, ℕ, refl, sym, subst, Option}
use Rattle.std.specs.Prelude.{Err, IfErr, IsTrue, Ok, Result}
use Rattle.stair_rack.specs.RackState.{RackState}
use Rattle.stair_member.specs.Epochs.{IsRefusedBy}
use Rattle.stair_member.specs.Establishing.{refusal_of}
use Rattle.stair_member.specs.Membership.{IsMembership, Membership}
use Rattle.stair_member.specs.declared.aim.EpochChange.TheVariants.{Stamp}
use Rattle.stair_member.specs.declared.fault.FenceFault.{FenceFault}
use Rattle.stair_member.specs.declared.fault.FenceFault.TheVariants as fence
use Rattle.stair_invariant.specs.Effects.{Snapshot, snapshot}
use Rattle.stair_invariant.specs.Rebuilding.{Rebuild}
use Rattle.stair_invariant.specs.Session.{IsArray, Remembered}
use Rattle.stair_array.specs.Calls.{refused}
use Rattle.stair_array.specs.Causes.{HasCause, IsAllowed}
use Rattle.stair_array.specs.Events.{events_of}
use Rattle.stair_array.specs.Machine.{Answer, Refusal, SetFrozen, SetLabel}
use Rattle.stair_array.specs.Mends.{Stamped, StampsAs}
use Rattle.stair_array.specs.Promise.{AreAllLeftOut, EndsIn, Keeps, Opened, Performs, Stops, left_of, running, unopened}
use Rattle.stair_array.proofs.AnsweredLemmas.{epoch_left_out}
use Rattle.stair_array.proofs.CauseLemmas.{epoch_array}
use Rattle.stair_array.proofs.GoesOnLemmas.{draws_few, keeps_progress, member_goes_on, stands}
use Rattle.stair_array.proofs.PartsLemmas.{IsPart, stamp_part}
use Rattle.stair_array.proofs.PerformsLemmas.{answered_err, goes_on}

module _ (frozen : Bool) (label : List ℕ) where
  stamped_part : (answer : Result (Unit {0}) Refusal) (x y : Snapshot) → StampsAs frozen label answer x y → IsMembership x.member → IsPart 1 x y
  stamped_part _ _ _ (Stamped answer x y does) rules = stamp_part frozen label x.member y.member answer x.told y.told does rules

  stamped_left_out : (answer : Result (Unit {0}) Refusal) (x y : Snapshot) → StampsAs frozen label answer x y → IsTrue y.told.honest
      → AreAllLeftOut x.member y.member x.told y.told
  stamped_left_out _ _ _ (Stamped answer x y does) =
      epoch_left_out (Stamp frozen label) x.member x.member y.member (refusal_of answer) x.told y.told does.establishes

  stamped_array : (answer : Result (Unit {0}) Refusal) (x y : Snapshot) → StampsAs frozen label answer x y → ¬ Stops answer
      → IsArray (unopened y.member)
  stamped_array _ _ _ (Stamped answer x y does) going =
      epoch_array (Stamp frozen label) x.member y.member (refusal_of answer) x.told y.told does.establishes (goes_on tt (refusal_of answer) going)

  stamped_refused : (answer : Result (Unit {0}) Refusal) (x y : Snapshot) → StampsAs frozen label answer x y → (why : Refusal) → answer ≡ Err why
      → (fault : FenceFault) × (why ≡ refused fault) × IsRefusedBy y.member fault
  stamped_refused _ _ _ (Stamped answer x y does) why is =
      let by = answered_err tt (refusal_of answer) why is in
      (by.0, by.2, (does.establishes.refused by.0 by.1).0)

-- THE FROZEN MARK
module _ (frozen : Bool) (answer : Answer (SetFrozen frozen)) (m last : Membership) (rebuild : Option Rebuild) (known : Option Remembered) (stopped : Option FenceFault)
    (old new : RackState) (array : IsArray (running m rebuild known)) (does : StampsAs frozen m.array.label answer (snapshot m old) (snapshot last new))
    (kept : Keeps answer stopped) where
  frozen_part : IsPart 1 (snapshot m old) (snapshot last new)
  frozen_part = stamped_part frozen m.array.label answer (snapshot m old) (snapshot last new) does array.member

  frozen_caused : (given : Answer (SetFrozen frozen)) → answer ≡ given
      → IfErr given (λ why. HasCause (SetFrozen frozen) why (running m rebuild known) last old new)
  frozen_caused (Ok done) same = tt
  frozen_caused (Err why) same =
      let by = stamped_refused frozen m.array.label answer (snapshot m old) (snapshot last new) does why same in
      subst (λ (r : Refusal). HasCause (SetFrozen frozen) r (running m rebuild known) last old new) (sym by.1) (cause by.0 by.2)
    where
      cause : (fault : FenceFault) → IsRefusedBy last fault → HasCause (SetFrozen frozen) (refused fault) (running m rebuild known) last old new
      cause (fence.TooFew whys) is = (tt, record { whys_are = is.0; many = is.1 })
      cause fence.EpochsSpent is = (tt, record { spent = is.0; enough = is.1 })

  pub frozen_performs : Performs (SetFrozen frozen) answer (events_of (SetFrozen frozen) answer m.array last.array)
      (record { told = old; session = Opened (running m rebuild known) })
      (record { told = new; session = Opened (left_of last rebuild stopped) })
  frozen_performs = record {
    was = running m rebuild known;
    is = left_of last rebuild stopped;
    starts = (refl, refl);
    ends = EndsIn.GoesOn (λ never. absurd (cc)) kept refl;
    later = frozen_part.after.later;
    goes_on = member_goes_on m last rebuild known stopped old new array frozen_part (SetFrozen frozen);
    rebuild = keeps_progress m last rebuild known stopped old new array frozen_part;
    draws_few = draws_few (SetFrozen frozen) (snapshot m old) (snapshot last new) frozen_part;
    events_are = refl;
    caused = frozen_caused answer refl;
    allowed = frozen_allowed answer;
    array = λ going.
        stands m last rebuild known stopped old new array frozen_part (stamped_array frozen m.array.label answer (snapshot m old) (snapshot last new) does going);
    counted = tt;
    remembers = refl;
    does = does;
    left_out = stamped_left_out frozen m.array.label answer (snapshot m old) (snapshot last new) does;
    made = λ honest. tt;
    repaired = λ honest. tt;
    looked = λ honest. tt;
  }
    where
      frozen_allowed : (given : Answer (SetFrozen frozen)) → IsAllowed (SetFrozen frozen) given (running m rebuild known)
      frozen_allowed (Ok done) = tt
      frozen_allowed (Err why) = tt

-- THE LABEL
module _ (label : List ℕ) (answer : Answer (SetLabel label)) (m last : Membership) (rebuild : Option Rebuild) (known : Option Remembered) (stopped : Option FenceFault)
    (old new : RackState) (array : IsArray (running m rebuild known)) (does : StampsAs m.array.frozen label answer (snapshot m old) (snapshot last new))
    (kept : Keeps answer stopped) where
  label_part : IsPart 1 (snapshot m old) (snapshot last new)
  label_part = stamped_part m.array.frozen label answer (snapshot m old) (snapshot last new) does array.member

  label_caused : (given : Answer (SetLabel label)) → answer ≡ given
      → IfErr given (λ why. HasCause (SetLabel label) why (running m rebuild known) last old new)
  label_caused (Ok done) same = tt
  label_caused (Err why) same =
      let by = stamped_refused m.array.frozen label answer (snapshot m old) (snapshot last new) does why same in
      subst (λ (r : Refusal). HasCause (SetLabel label) r (running m rebuild known) last old new) (sym by.1) (cause by.0 by.2)
    where
      cause : (fault : FenceFault) → IsRefusedBy last fault → HasCause (SetLabel label) (refused fault) (running m rebuild known) last old new
      cause (fence.TooFew whys) is = (tt, record { whys_are = is.0; many = is.1 })
      cause fence.EpochsSpent is = (tt, record { spent = is.0; enough = is.1 })

  pub label_performs : Performs (SetLabel label) answer (events_of (SetLabel label) answer m.array last.array)
      (record { told = old; session = Opened (running m rebuild known) })
      (record { told = new; session = Opened (left_of last rebuild stopped) })
  label_performs = record {
    was = running m rebuild known;
    is = left_of last rebuild stopped;
    starts = (refl, refl);
    ends = EndsIn.GoesOn (λ never. absurd (cc)) kept refl;
    later = label_part.after.later;
    goes_on = member_goes_on m last rebuild known stopped old new array label_part (SetLabel label);
    rebuild = keeps_progress m last rebuild known stopped old new array label_part;
    draws_few = draws_few (SetLabel label) (snapshot m old) (snapshot last new) label_part;
    events_are = refl;
    caused = label_caused answer refl;
    allowed = label_allowed answer;
    array = λ going.
        stands m last rebuild known stopped old new array label_part (stamped_array m.array.frozen label answer (snapshot m old) (snapshot last new) does going);
    counted = tt;
    remembers = refl;
    does = does;
    left_out = stamped_left_out m.array.frozen label answer (snapshot m old) (snapshot last new) does;
    made = λ honest. tt;
    repaired = λ honest. tt;
    looked = λ honest. tt;
  }
    where
      label_allowed : (given : Answer (SetLabel label)) → IsAllowed (SetLabel label) given (running m rebuild known)
      label_allowed (Ok done) = tt
      label_allowed (Err why) = tt
