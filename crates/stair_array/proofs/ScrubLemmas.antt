-- What a scrub of a stripe did is what is promised of a step, on any rack.
use Rattle.std.proofs.Common.{◌≡◌, ℕ, refl, Option}
use Rattle.std.specs.Prelude.{Err, IfErr, IsTrue, Ok}
use Rattle.stair_rack.specs.RackState.{RackState}
use Rattle.stair_member.specs.Membership.{Membership}
use Rattle.stair_member.specs.declared.fault.FenceFault.{FenceFault}
use Rattle.stair_invariant.specs.Effects.{snapshot}
use Rattle.stair_invariant.specs.Rebuilding.{Rebuild}
use Rattle.stair_invariant.specs.Session.{IsArray, Remembered}
use Rattle.stair_array.specs.Causes.{HasCause, HasCounted, IsAllowed}
use Rattle.stair_array.specs.Events.{events_of}
use Rattle.stair_array.specs.Machine.{Answer, ScrubStripe}
use Rattle.stair_array.specs.Mends.{Scrubs}
use Rattle.stair_array.specs.Promise.{EndsIn, HasMade, HasRepaired, Keeps, Opened, Performs, left_of, running}
use Rattle.stair_array.proofs.GoesOnLemmas.{bare, draws_few, keeps_progress, member_goes_on, stands}
use Rattle.stair_array.proofs.PartsLemmas.{IsPart}
use Rattle.stair_array.proofs.RepairedLemmas.{scrubbed_repaired}
use Rattle.stair_array.proofs.ScrubCourseLemmas.{scrubbed_array, scrubbed_below, scrubbed_caused, scrubbed_counted, scrubbed_left_out, scrubbed_part}
use Rattle.stair_array.proofs.ScrubMadeLemmas.{scrubbed_made}

module _ (t : ℕ) (answer : Answer (ScrubStripe t)) (m last : Membership) (rebuild : Option Rebuild) (known : Option Remembered) (stopped : Option FenceFault) (old new : RackState)
    (array : IsArray (running m rebuild known)) (does : Scrubs t answer (snapshot m old) (snapshot last new)) (kept : Keeps answer stopped) where
  part : IsPart 0 (snapshot m old) (snapshot last new)
  part = scrubbed_part t answer (snapshot m old) (snapshot last new) does array.member

  caused : (given : Answer (ScrubStripe t)) → answer ≡ given → IfErr given (λ why. HasCause (ScrubStripe t) why (running m rebuild known) last old new)
  caused (Ok count) same = tt
  caused (Err why) same = scrubbed_caused rebuild known t answer (snapshot m old) (snapshot last new) does array.member why same

  allowed : (given : Answer (ScrubStripe t)) → answer ≡ given → IsAllowed (ScrubStripe t) given (running m rebuild known)
  allowed (Ok count) same = scrubbed_below t answer (snapshot m old) (snapshot last new) does count same
  allowed (Err why) same = tt

  counted : (given : Answer (ScrubStripe t)) → answer ≡ given → HasCounted (ScrubStripe t) given old new
  counted (Ok count) same = scrubbed_counted t answer (snapshot m old) (snapshot last new) does array.member count same
  counted (Err why) same = tt

  made : (given : Answer (ScrubStripe t)) → answer ≡ given → IsTrue new.honest → HasMade (ScrubStripe t) given (running m rebuild known) last old new
  made (Ok count) same honest = scrubbed_made t answer (snapshot m old) (snapshot last new) does array.member count same honest
  made (Err why) same honest = tt

  repaired : (given : Answer (ScrubStripe t)) → answer ≡ given → IsTrue new.honest → HasRepaired (ScrubStripe t) given m old new
  repaired (Ok count) same honest = scrubbed_repaired t answer (snapshot m old) (snapshot last new) does array.member count same honest
  repaired (Err why) same honest = tt

  pub scrub_performs : Performs (ScrubStripe t) answer (events_of (ScrubStripe t) answer m.array last.array)
      (record { told = old; session = Opened (running m rebuild known) })
      (record { told = new; session = Opened (left_of last rebuild stopped) })
  scrub_performs = record {
    was = running m rebuild known;
    is = left_of last rebuild stopped;
    starts = (refl, refl);
    ends = EndsIn.GoesOn (λ never. absurd (cc)) kept refl;
    later = part.after.later;
    goes_on = member_goes_on m last rebuild known stopped old new array part (ScrubStripe t);
    rebuild = keeps_progress m last rebuild known stopped old new array part;
    draws_few = draws_few (ScrubStripe t) (snapshot m old) (snapshot last new) part;
    events_are = refl;
    caused = caused answer refl;
    allowed = allowed answer refl;
    array = λ going.
        stands m last rebuild known stopped old new array part
        (scrubbed_array t answer (snapshot m old) (snapshot last new) does going (bare m last rebuild known stopped old new array part));
    counted = counted answer refl;
    remembers = refl;
    does = does;
    left_out = scrubbed_left_out t answer (snapshot m old) (snapshot last new) does array.member;
    made = made answer refl;
    repaired = repaired answer refl;
    looked = λ honest. tt;
  }
