-- What a step of a rebuild did is what is promised of a step, on any rack.
use Rattle.std.proofs.Common.{◌≡◌, ℕ, ◌+◌, ◌<◌, ◌≤◌, inl, inr, refl, sym, subst, None, Option, Some, arith}
use Rattle.std.specs.Prelude.{Err, IfErr, IsTrue, Ok}
use Rattle.stair_model.specs.Device.{cell_sector}
use Rattle.stair_model.specs.Geometry.{Geometry}
use Rattle.stair_rack.specs.RackState.{RackState}
use Rattle.stair_member.specs.Epochs.{IsRefusedBy}
use Rattle.stair_member.specs.Membership.{Membership}
use Rattle.stair_member.specs.declared.fault.FenceFault.{FenceFault}
use Rattle.stair_member.specs.declared.fault.FenceFault.TheVariants as fence
use Rattle.stair_invariant.specs.Effects.{snapshot}
use Rattle.stair_invariant.specs.Rebuilding.{Rebuild}
use Rattle.stair_invariant.specs.Session.{ArrayState, IsArray, IsRebuiltIn, Remembered}
use Rattle.stair_array.specs.Calls.{refused}
use Rattle.stair_array.specs.Causes.{HasCause, HasCounted, IsAllowed, IsEpochDue}
use Rattle.stair_array.specs.Draws.{Before}
use Rattle.stair_array.specs.Events.{events_of}
use Rattle.stair_array.specs.Machine.{Answer, Chunk, Dropped, EpochsSpent, Nothing, Promoted, RebuildNext, Refusal, TooFew}
use Rattle.stair_array.specs.Mends.{Rebuilds}
use Rattle.stair_array.specs.Promise.{EndsIn, HasMade, Keeps, KeepsRebuild, Opened, Performs, Stops, WasSound, rebuild_then, running, unopened}
use Rattle.stair_array.proofs.GoesOnLemmas.{keeps_progress, stands}
use Rattle.stair_array.proofs.LoadCauseLemmas.{Unloaded}
use Rattle.stair_array.proofs.PartsLemmas.{IsPart}
use Rattle.stair_array.proofs.PromotePartLemmas.{IsRebuildPart}
use Rattle.stair_array.proofs.PromotionLemmas.{IsBeside}
use Rattle.stair_array.proofs.RebuildCourseLemmas.{Falling, IsStopped, Loading, NextIsRebuilt, Promoting, beside_part, next_rebuilt, rebuilt_array, rebuilt_left_out, rebuilt_part, rebuilt_stopped}
use Rattle.stair_array.proofs.RebuildMadeLemmas.{WroteChunk, chunk_told, dropped_told, next_once, nothing_told, promoted_told}

module _ (answer : Answer RebuildNext) (m last : Membership) (rebuild : Option Rebuild) (known : Option Remembered) (stopped : Option FenceFault) (old new : RackState)
    (array : IsArray (running m rebuild known)) (does : Rebuilds (running m rebuild known) answer (snapshot m old) (snapshot last new)) (kept : Keeps answer stopped) where
  abbrev was : ArrayState
  was = running m rebuild known

  abbrev ends_as : Answer RebuildNext → ArrayState
  ends_as given = record { member = last; rebuild = rebuild_then given last rebuild; stopped = stopped; remembered = None }

  unstopped : IsArray (unopened m)
  unstopped = record { member = array.member; marks = array.marks; enough = array.enough; rebuilds = λ r is. absurd (cc) }

  next : NextIsRebuilt was (snapshot m old)
  next = next_rebuilt was old array

  part : IsRebuildPart (snapshot m old) (snapshot last new)
  part = rebuilt_part was answer (snapshot m old) (snapshot last new) does unstopped next

  drops_at_most : (given : Answer RebuildNext) → answer ≡ given → IsBeside given → IsPart 0 (snapshot m old) (snapshot last new)
  drops_at_most given same beside =
      beside_part was answer (snapshot m old) (snapshot last new) does unstopped (subst IsBeside (sym same) beside)

  -- how far it has come
  rebuild_kept : (given : Answer RebuildNext) → answer ≡ given → KeepsRebuild RebuildNext given was (ends_as given)
  rebuild_kept (Ok Nothing) same = keeps_progress m last rebuild known stopped old new array (drops_at_most (Ok Nothing) same tt)
  rebuild_kept (Ok (Chunk j t)) same =
      let told = chunk_told was answer (snapshot m old) (snapshot last new) does unstopped j t same in (told.more, told.rebuilt, refl)
  rebuild_kept (Ok (Promoted j)) same =
      let told = promoted_told was answer (snapshot m old) (snapshot last new) does unstopped next j same in (
        refl,
        told.live,
        λ t is. subst (λ (s : ℕ). m.array.geometry.stripes ≤ s + 1) (next_once was j told.stripe t told.next is) told.at_end,
      )
  rebuild_kept (Ok (Dropped j)) same =
      let told = dropped_told was answer (snapshot m old) (snapshot last new) does unstopped next j same in (refl, told.away)
  rebuild_kept (Err (TooFew whys)) same = tt
  rebuild_kept (Err EpochsSpent) same = tt
  rebuild_kept (Err why) same = keeps_progress m last rebuild known stopped old new array (drops_at_most (Err why) same (λ is. is))

  -- what stands
  array_kept : (given : Answer RebuildNext) → answer ≡ given → ¬ Stops given → IsArray (unopened last) → IsArray (ends_as given)
  array_kept (Ok Nothing) same going is = stands m last rebuild known stopped old new array (drops_at_most (Ok Nothing) same tt) is
  array_kept (Ok (Chunk j t)) same going is = record { member = is.member; marks = is.marks; enough = is.enough; rebuilds = rebuilds }
    where
      told : WroteChunk was j t (snapshot m old) (snapshot last new)
      told = chunk_told was answer (snapshot m old) (snapshot last new) does unstopped j t same

      rebuilds : (r : Rebuild) → Some (record { slot = j; stripe = t + 1 }) ≡ Some r
          → IsRebuiltIn last r.slot × (r.stripe ≤ last.array.geometry.stripes)
      rebuilds r at =
          let one : ◌≡◌ {A = Rebuild} (record { slot = j; stripe = t + 1 }) r = cc in
          let more = told.more in
          subst (λ (k : Rebuild). IsRebuiltIn last k.slot × (k.stripe ≤ last.array.geometry.stripes)) one
          (told.rebuilt, subst (λ (g : Geometry). t + 1 ≤ g.stripes) (sym part.goes_on.geometry) (omega (arith, more)))
  array_kept (Ok (Promoted j)) same going is =
      record { member = is.member; marks = is.marks; enough = is.enough; rebuilds = λ r at. absurd (cc) }
  array_kept (Ok (Dropped j)) same going is =
      record { member = is.member; marks = is.marks; enough = is.enough; rebuilds = λ r at. absurd (cc) }
  array_kept (Err (TooFew whys)) same going is = absurd (going tt)
  array_kept (Err EpochsSpent) same going is = absurd (going tt)
  array_kept (Err why) same going is = stands m last rebuild known stopped old new array (drops_at_most (Err why) same (λ final. final)) is

  -- why it is refused
  abbrev Caused : Refusal → Type 0
  Caused why = HasCause RebuildNext why was last old new

  epoch_caused : IsEpochDue RebuildNext was old new → (fault : FenceFault) → IsRefusedBy last fault → Caused (refused fault)
  epoch_caused due (fence.TooFew whys) is = (due, record { whys_are = is.0; many = is.1 })
  epoch_caused due fence.EpochsSpent is = (due, record { spent = is.0; enough = is.1 })

  stopped_caused : (why : Refusal) → IsStopped was why (snapshot m old) (snapshot last new) → Caused why
  stopped_caused why (Loading j t is (Unloaded.ByEpoch fault same stops)) =
      subst Caused (sym same) (epoch_caused (inl stops.one) fault stops.by)
  stopped_caused why (Loading j t is (Unloaded.ByPattern counts same lost)) = subst Caused (sym same) (j, is, lost)
  stopped_caused why (Falling fault same stops) = subst Caused (sym same) (epoch_caused (inl stops.one) fault stops.by)
  stopped_caused why (Promoting j t is at_end fault same by) = subst Caused (sym same) (epoch_caused (inr (j, t, is, at_end)) fault by)

  caused : (given : Answer RebuildNext) → answer ≡ given → IfErr given Caused
  caused (Ok progress) same = tt
  caused (Err why) same = stopped_caused why (rebuilt_stopped was answer (snapshot m old) (snapshot last new) does unstopped next why same)

  -- what it answers
  allowed : (given : Answer RebuildNext) → answer ≡ given → IsAllowed RebuildNext given was
  allowed (Ok Nothing) same = nothing_told was answer (snapshot m old) (snapshot last new) does same
  allowed (Ok (Chunk j t)) same = (chunk_told was answer (snapshot m old) (snapshot last new) does unstopped j t same).next
  allowed (Ok (Promoted j)) same =
      let told = promoted_told was answer (snapshot m old) (snapshot last new) does unstopped next j same in (told.stripe, told.next)
  allowed (Ok (Dropped j)) same =
      let told = dropped_told was answer (snapshot m old) (snapshot last new) does unstopped next j same in (told.stripe, told.next)
  allowed (Err why) same = tt

  counted : (given : Answer RebuildNext) → answer ≡ given → HasCounted RebuildNext given old new
  counted (Ok Nothing) same = tt
  counted (Ok (Chunk j t)) same = tt
  counted (Ok (Promoted j)) same = tt
  counted (Ok (Dropped j)) same = (dropped_told was answer (snapshot m old) (snapshot last new) does unstopped next j same).rose
  counted (Err why) same = tt

  -- the cells of a chunk
  sound_in : (j t i : ℕ) → WasSound j (cell_sector m.array.geometry t i) old new → WasSound j (cell_sector last.array.geometry t i) old new
  sound_in j t i = subst (λ (g : Geometry). WasSound j (cell_sector g t i) old new) (sym part.goes_on.geometry)

  row_first : (i : ℕ) → i < last.array.geometry.r → i < m.array.geometry.r
  row_first i = subst (λ (g : Geometry). i < g.r) part.goes_on.geometry

  made : (given : Answer RebuildNext) → answer ≡ given → IsTrue new.honest → HasMade RebuildNext given was last old new
  made (Ok Nothing) same honest = tt
  made (Ok (Chunk j t)) same honest =
      λ i row.
      sound_in j t i ((chunk_told was answer (snapshot m old) (snapshot last new) does unstopped j t same).sound honest i (row_first i row))
  made (Ok (Promoted j)) same honest =
      λ t i is below row.
      let told = promoted_told was answer (snapshot m old) (snapshot last new) does unstopped next j same in
      let one = next_once was j told.stripe t told.next is in
      let below_first = subst (λ (g : Geometry). t < g.stripes) part.goes_on.geometry below in
      subst (λ (s : ℕ). WasSound j (cell_sector last.array.geometry s i) old new) one
      (sound_in j told.stripe i (told.sound honest (omega (arith, one, below_first)) i (row_first i row)))
  made (Ok (Dropped j)) same honest = tt
  made (Err why) same honest = tt

  pub rebuild_performs : Performs RebuildNext answer (events_of RebuildNext answer m.array last.array)
      (record { told = old; session = Opened (running m rebuild known) })
      (record {
        told = new;
        session = Opened (record { member = last; rebuild = rebuild_then answer last rebuild; stopped = stopped; remembered = None });
      })
  rebuild_performs = record {
    was = was;
    is = ends_as answer;
    starts = (refl, refl);
    ends = EndsIn.GoesOn (λ never. absurd (cc)) kept refl;
    later = part.after.later;
    goes_on = part.goes_on;
    rebuild = rebuild_kept answer refl;
    draws_few = record { draw = m.drawn; had_seen = Before refl; few = let at = part.draws in omega (arith, at) };
    events_are = refl;
    caused = caused answer refl;
    allowed = allowed answer refl;
    array = λ going.
        array_kept answer refl going (rebuilt_array was answer (snapshot m old) (snapshot last new) does unstopped next going);
    counted = counted answer refl;
    remembers = refl;
    does = does;
    left_out = rebuilt_left_out was answer (snapshot m old) (snapshot last new) does unstopped next;
    made = made answer refl;
    repaired = λ honest. tt;
    looked = λ honest. tt;
  }
