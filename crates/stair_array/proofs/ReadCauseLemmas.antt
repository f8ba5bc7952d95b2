-- What a read of a block did is what is promised of a step, on any rack: why it is refused, what stands, and all of it.
use Rattle.std.proofs.Common.{◌≡◌, ℕ, ◌<◌, List, refl, sym, ap, subst, None, Option}
use Rattle.std.specs.Prelude.{◌/◌, Err, IfErr, Ok, Result}
use Rattle.stair_model.specs.Geometry.{block_count, data_cells}
use Rattle.stair_model.specs.Stripe.{Stripe}
use Rattle.stair_rack.specs.RackState.{RackState}
use Rattle.stair_member.specs.Membership.{IsMembership, Membership}
use Rattle.stair_member.specs.declared.fault.FenceFault.{FenceFault}
use Rattle.stair_member.specs.declared.fault.FenceFault.TheVariants as fence
use Rattle.stair_invariant.specs.Effects.{Snapshot, snapshot}
use Rattle.stair_invariant.specs.Rebuilding.{Rebuild}
use Rattle.stair_invariant.specs.Session.{IsArray, Remembered}
use Rattle.stair_array.specs.Calls.{LoadsStripe, Reads, refused}
use Rattle.stair_array.specs.Causes.{HasCause, IsAllowed}
use Rattle.stair_array.specs.Events.{events_of}
use Rattle.stair_array.specs.Machine.{Answer, OutOfRange, ReadBlock, Refusal}
use Rattle.stair_array.specs.Promise.{EndsIn, Keeps, Opened, Performs, Stops, left_of, running, unopened}
use Rattle.stair_array.proofs.CauseLemmas.{left_array}
use Rattle.stair_array.proofs.GoesOnLemmas.{array_then, bare, draws_few, keeps_progress, member_goes_on, progress_then, stands}
use Rattle.stair_array.proofs.LoadCauseLemmas.{StopsBy, Unloaded, loaded_refused, unloaded_sooner}
use Rattle.stair_array.proofs.PartsLemmas.{IsPart}
use Rattle.stair_array.proofs.PerformsLemmas.{final_refused}
use Rattle.stair_array.proofs.ReadCourseLemmas.{cannot_part, loaded_part, cannot_member, read_left_out, read_part}

-- WHY IT IS REFUSED

unloaded_caused : (rebuild : Option Rebuild) (known : Option Remembered) (b t : ℕ) (why : Refusal) (x z : Snapshot) → t ≡ b / data_cells x.member.array.geometry
    → Unloaded t why x z → HasCause (ReadBlock b) why (running x.member rebuild known) z.member x.told z.told
unloaded_caused rebuild known b t why x z at (Unloaded.ByEpoch fault same stops) =
    subst (λ (r : Refusal). HasCause (ReadBlock b) r (running x.member rebuild known) z.member x.told z.told) (sym same) (by fault stops)
  where
    by : (f : FenceFault) → StopsBy f x z → HasCause (ReadBlock b) (refused f) (running x.member rebuild known) z.member x.told z.told
    by (fence.TooFew whys) is = (is.one, record { whys_are = is.by.0; many = is.by.1 })
    by fence.EpochsSpent is = (is.one, record { spent = is.by.0; enough = is.by.1 })
unloaded_caused rebuild known b t why x z at (Unloaded.ByPattern counts same is) =
    subst (λ (r : Refusal). HasCause (ReadBlock b) r (running x.member rebuild known) z.member x.told z.told) (sym same) (at, is)

read_caused : (rebuild : Option Rebuild) (known : Option Remembered) (b : ℕ) (after : Option Remembered) (answer : Result (List ℕ) Refusal) (x z : Snapshot) → Reads b known after answer x z
    → IsMembership x.member → (why : Refusal) → answer ≡ Err why → HasCause (ReadBlock b) why (running x.member rebuild known) z.member x.told z.told
read_caused rebuild known b _ _ _ _ (Reads.OutOf x past) rules why same =
    let by : OutOfRange b (block_count x.member.array.geometry) ≡ why = cc in
    subst (λ (r : Refusal). HasCause (ReadBlock b) r (running x.member rebuild known) x.member x.told x.told) by
    (record { asked_is = refl; limit_is = refl; above = past; nothing = refl })
read_caused rebuild known b _ _ _ _ (Reads.Recalled one i j x is place) rules why same = absurd (cc)
read_caused rebuild known b _ _ _ _ (Reads.Own t i j bytes x y place asks reading) rules why same = absurd (cc)
read_caused rebuild known b _ _ _ _ (Reads.Restored t i j into x y z place cannot loads) rules why same = absurd (cc)
read_caused rebuild known b _ _ _ _ (Reads.Refused t i j into refusal x y z place cannot loads) rules why same =
    let first = cannot_part t i j x y cannot rules in
    unloaded_caused rebuild known b t why x z place.place.in_stripe
    (unloaded_sooner x y z first (loaded_part t into (Err refusal) y z loads first.rules) t why
    (loaded_refused t into (Err refusal) y z loads why (ap (λ (r : Refusal). Err r) (let one : refusal ≡ why = cc in one))))

-- WHAT IT ANSWERS

read_below : (b : ℕ) (known after : Option Remembered) (answer : Result (List ℕ) Refusal) (x z : Snapshot) → Reads b known after answer x z → (bytes : List ℕ) → answer ≡ Ok bytes
    → b < block_count x.member.array.geometry
read_below b known _ _ _ _ (Reads.OutOf x past) bytes same = absurd (cc)
read_below b known _ _ _ _ (Reads.Recalled one i j x is place) bytes same = place.below
read_below b known _ _ _ _ (Reads.Own t i j given x y place asks reading) bytes same = place.below
read_below b known _ _ _ _ (Reads.Restored t i j into x y z place cannot loads) bytes same = place.below
read_below b known _ _ _ _ (Reads.Refused t i j into refusal x y z place cannot loads) bytes same = absurd (cc)

-- WHAT STANDS

pub loaded_array : (t : ℕ) (into : Stripe) (answer : Result (Unit {0}) Refusal) (y z : Snapshot) → LoadsStripe t into answer y z → ¬ Stops answer
    → IsArray (unopened y.member) → IsArray (unopened z.member)
loaded_array t into _ _ _ (LoadsStripe.Loaded was read gathered answer y z loads is) going array =
    left_array gathered.gone None (snapshot y.member loads.mid) z loads.leaves refl array
loaded_array t into _ _ _ (LoadsStripe.Stops was read gathered fault y z loads) going array = absurd (going (final_refused fault))

same_array : (m last : Membership) → last ≡ m → IsArray (unopened m) → IsArray (unopened last)
same_array m last same = subst (λ (k : Membership). IsArray (unopened k)) (sym same)

read_array : (b : ℕ) (known after : Option Remembered) (answer : Result (List ℕ) Refusal) (x z : Snapshot) → Reads b known after answer x z → ¬ Stops answer → IsArray (unopened x.member)
    → IsArray (unopened z.member)
read_array b known _ _ _ _ (Reads.OutOf x past) going array = array
read_array b known _ _ _ _ (Reads.Recalled one i j x is place) going array = array
read_array b known _ _ _ _ (Reads.Own t i j bytes x y place asks reading) going array = same_array x.member y.member asks.member array
read_array b known _ _ _ _ (Reads.Restored t i j into x y z place cannot loads) going array =
    loaded_array t into (Ok tt) y z loads (λ never. never) (same_array x.member y.member (cannot_member t i j x y cannot) array)
read_array b known _ _ _ _ (Reads.Refused t i j into refusal x y z place cannot loads) going array =
    loaded_array t into (Err refusal) y z loads going (same_array x.member y.member (cannot_member t i j x y cannot) array)

-- ALL OF IT

module _ (b : ℕ) (answer : Answer (ReadBlock b)) (m last : Membership) (rebuild : Option Rebuild) (known after : Option Remembered) (stopped : Option FenceFault) (old new : RackState)
    (array : IsArray (running m rebuild known)) (does : Reads b known after answer (snapshot m old) (snapshot last new)) (kept : Keeps answer stopped) where
  part : IsPart 0 (snapshot m old) (snapshot last new)
  part = read_part b known after answer (snapshot m old) (snapshot last new) does array.member

  caused : (given : Answer (ReadBlock b)) → answer ≡ given → IfErr given (λ why. HasCause (ReadBlock b) why (running m rebuild known) last old new)
  caused (Ok bytes) same = tt
  caused (Err why) same = read_caused rebuild known b after answer (snapshot m old) (snapshot last new) does array.member why same

  allowed : (given : Answer (ReadBlock b)) → answer ≡ given → IsAllowed (ReadBlock b) given (running m rebuild known)
  allowed (Ok bytes) same = read_below b known after answer (snapshot m old) (snapshot last new) does bytes same
  allowed (Err why) same = tt

  pub read_performs : Performs (ReadBlock b) answer (events_of (ReadBlock b) answer m.array last.array)
      (record { told = old; session = Opened (running m rebuild known) })
      (record { told = new; session = Opened (record (left_of last rebuild stopped) { remembered = after }) })
  read_performs = record {
    was = running m rebuild known;
    is = record (left_of last rebuild stopped) { remembered = after };
    starts = (refl, refl);
    ends = EndsIn.GoesOn (λ never. absurd (cc)) kept refl;
    later = part.after.later;
    goes_on = member_goes_on m last rebuild known stopped old new array part (ReadBlock b);
    rebuild = progress_then after (keeps_progress m last rebuild known stopped old new array part);
    draws_few = draws_few (ReadBlock b) (snapshot m old) (snapshot last new) part;
    events_are = refl;
    caused = caused answer refl;
    allowed = allowed answer refl;
    array = λ going.
        array_then after
        (stands m last rebuild known stopped old new array part
        (read_array b known after answer (snapshot m old) (snapshot last new) does going (bare m last rebuild known stopped old new array part)));
    counted = tt;
    remembers = tt;
    does = does;
    left_out = read_left_out b known after answer (snapshot m old) (snapshot last new) does;
    made = λ honest. tt;
    repaired = λ honest. tt;
    looked = λ honest. tt;
  }
