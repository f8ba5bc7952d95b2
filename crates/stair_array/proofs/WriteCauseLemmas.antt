-- What a write of blocks did is what is promised of a step, on any rack: why it is refused, what stands, and all of it.
use Rattle.std.proofs.Common.{◌≡◌, ℕ, ◌/◌, ◌<◌, List, false, refl, sym, ap, ◌∙◌, subst, None, Option, Some}
use Rattle.std.specs.Prelude.{Err, IfErr, Ok, Result}
use Rattle.stair_model.specs.CellSet.{CellSet, HasCell}
use Rattle.stair_model.specs.Geometry.{Geometry, block_count, data_cells}
use Rattle.stair_model.specs.Slots.{HasSlot, Slots}
use Rattle.stair_model.specs.Stripe.{Stripe}
use Rattle.stair_rack.specs.RackState.{RackState}
use Rattle.stair_member.specs.Membership.{IsHere, IsMembership, Membership}
use Rattle.stair_member.specs.declared.fault.FenceFault.{FenceFault}
use Rattle.stair_member.specs.declared.fault.FenceFault.TheVariants as fence
use Rattle.stair_journal.specs.Redo.{IsRedo}
use Rattle.stair_journal.specs.declared.redo.Redo.{Redo}
use Rattle.stair_state.specs.Redoing.{AtRest, Stage, next}
use Rattle.stair_invariant.specs.Effects.{DoesStage, Fenced, IsOver, FencesGone, NoneWas, Snapshot, Redoes, snapshot, stage_writes}
use Rattle.stair_invariant.specs.Rebuilding.{Rebuild}
use Rattle.stair_invariant.specs.Session.{IsArray, Remembered}
use Rattle.stair_invariant.proofs.RedoingLemmas.{over_here}
use Rattle.stair_array.specs.Calls.{Prepares, WritesBlocks, answer_of, refused}
use Rattle.stair_array.specs.Causes.{HasCause, IsAllowed, LostOne}
use Rattle.stair_array.specs.Events.{events_of}
use Rattle.stair_array.specs.Machine.{Answer, Frozen, OutOfRange, Refusal, WriteBlocks}
use Rattle.stair_array.specs.Promise.{EndsIn, Keeps, Opened, Performs, Stops, left_of, running, unopened}
use Rattle.stair_array.proofs.CauseLemmas.{left_array, left_refused, redo_array}
use Rattle.stair_array.proofs.CourseLemmas.{load_part, phase_after, phase_gone, redo_part, redo_range, redo_stage_part}
use Rattle.stair_array.proofs.GoesOnLemmas.{bare, draws_few, keeps_progress, member_goes_on, stands}
use Rattle.stair_array.proofs.GoneToLemmas.{gone_to_wider}
use Rattle.stair_array.proofs.LoadCauseLemmas.{StopsBy, Unloaded, cells_stopped, loaded_refused, stops_sooner, unloaded_sooner}
use Rattle.stair_array.proofs.PartsLemmas.{IsPart, out_after}
use Rattle.stair_array.proofs.PerformsLemmas.{final_refused, goes_on}
use Rattle.stair_array.proofs.ReadCauseLemmas.{loaded_array}
use Rattle.stair_array.proofs.ReadCourseLemmas.{loaded_part}
use Rattle.stair_array.proofs.WriteCourseLemmas.{prepared_part, written_left_out, written_part}
use Rattle.stair_rack.proofs.RackStateLemmas.{later_none}

-- WHY IT IS REFUSED

-- a stage of a redo was stopped by a slot that was gone to its phase
stage_stops : (g : Geometry) (redo : Redo) (stripe : Stripe) (stage : Stage) (to : Slots) (fault : FenceFault) (x y : Snapshot)
    → IsOver stage x.member to → DoesStage (stage_writes g redo stripe stage) to (Some fault) x y → IsMembership x.member
    → g ≡ x.member.array.geometry → IsRedo g redo → StopsBy fault x y
stage_stops g redo stripe stage to fault x y over does rules same formed = record {
  by = left_refused does.gone (Some fault) (snapshot x.member does.mid) y does.leaves fault refl;
  one = by (Some fault) refl does.leaves;
}
  where
    here : (j : ℕ) → HasSlot to j → IsHere x.member j
    here = over_here stage x.member to over

    by : (refusal : Option FenceFault) → refusal ≡ Some fault → FencesGone does.gone refusal (snapshot x.member does.mid) y
        → LostOne x.member x.told y.told
    by refusal is (NoneWas none at fine) = absurd (let never : None ≡ Some fault = sym fine ∙ is in cc)
    by refusal is (Fenced j has answer fine e) = record {
      slot = j;
      here = here j (does.phase.among j has);
      gone =
          gone_to_wider x.member j x.told x.told does.mid y.told (later_none x.told)
          (phase_after (stage_writes g redo stripe stage) to does.gone x.told does.mid does.phase).later
          (out_after does.gone refusal (snapshot x.member does.mid) y (Fenced j has answer fine e))
          (phase_gone (stage_writes g redo stripe stage) to x.member does.gone x.told does.mid does.phase here
          (redo_range g redo stripe stage x same rules formed) j has);
    }

pub redo_stops : (g : Geometry) (redo : Redo) (stripe : Stripe) (stage : Stage) (refusal : Option FenceFault) (x z : Snapshot)
    → Redoes g redo stripe stage refusal x z → IsMembership x.member → g ≡ x.member.array.geometry → IsRedo g redo → (fault : FenceFault)
    → refusal ≡ Some fault → StopsBy fault x z
redo_stops g redo stripe _ _ _ _ (Redoes.Ends x) rules same formed fault is = absurd (let never : None ≡ Some fault = is in cc)
redo_stops g redo stripe _ _ _ _ (Redoes.Stops stage to by x y not_done over does) rules same formed fault is =
    let one : by ≡ fault = cc in
    subst (λ (f : FenceFault). StopsBy f x y) one (stage_stops g redo stripe stage to by x y over does rules same formed)
redo_stops g redo stripe _ _ _ _ (Redoes.Goes stage to refusal x y z not_done over does more) rules same formed fault is =
    let first = redo_stage_part g redo stripe stage to None x y over does rules same formed in
    let of_y = same ∙ sym first.geometry in
    stops_sooner x y z first (redo_part g redo stripe (next stage) refusal y z more first.rules of_y formed) fault
    (redo_stops g redo stripe (next stage) refusal y z more first.rules of_y formed fault is)

-- the cells weren't made ready
unprepared : (t count : ℕ) (cells : CellSet) (loaded : Stripe) (answer : Result (Unit {0}) Refusal) (x z : Snapshot)
    → Prepares t count cells loaded answer x z → IsMembership x.member → (why : Refusal) → answer ≡ Err why → Unloaded t why x z
unprepared t count cells loaded _ _ _ (Prepares.Filled x full) rules why same = absurd (cc)
unprepared t count cells loaded _ _ _ (Prepares.ByCells gathered was x y few loads all) rules why same = absurd (cc)
unprepared t count cells loaded _ _ _ (Prepares.Stops gathered was fault x y few loads) rules why same =
    Unloaded.ByEpoch fault (let one : refused fault ≡ why = cc in sym one)
    (cells_stopped t (HasCell cells) gathered was loaded (Some fault) x y loads fault refl)
unprepared t count cells loaded _ _ _ (Prepares.AfterCells gathered was into i j answer x y z few loads erased whole) rules why same =
    let first = load_part t (HasCell cells) gathered was into None x y loads rules in
    unloaded_sooner x y z first (loaded_part t loaded answer y z whole first.rules) t why (loaded_refused t loaded answer y z whole why same)
unprepared t count cells loaded _ _ _ (Prepares.ByStripe i j answer x y few has away whole) rules why same =
    loaded_refused t loaded answer x y whole why same

module _ (rebuild : Option Rebuild) (known : Option Remembered) (first : ℕ) (contents : List (List ℕ)) (x z : Snapshot) (thawed : x.member.array.frozen ≡ false) where
  abbrev Caused : Refusal → Type 0
  Caused why = HasCause (WriteBlocks first contents) why (running x.member rebuild known) z.member x.told z.told

  stops_caused : (fault : FenceFault) → StopsBy fault x z → Caused (refused fault)
  stops_caused (fence.TooFew whys) is = ((thawed, is.one), record { whys_are = is.by.0; many = is.by.1 })
  stops_caused fence.EpochsSpent is = ((thawed, is.one), record { spent = is.by.0; enough = is.by.1 })

  unloaded_caused : (t : ℕ) (why : Refusal) → t ≡ first / data_cells x.member.array.geometry → Unloaded t why x z → Caused why
  unloaded_caused t why at (Unloaded.ByEpoch fault same stops) = subst Caused (sym same) (stops_caused fault stops)
  unloaded_caused t why at (Unloaded.ByPattern counts same is) = subst Caused (sym same) (at, thawed, is)

written_caused : (rebuild : Option Rebuild) (known : Option Remembered) (first : ℕ) (contents : List (List ℕ)) (answer : Result (Unit {0}) Refusal) (x z : Snapshot)
    → WritesBlocks first contents answer x z → IsMembership x.member → (why : Refusal) → answer ≡ Err why
    → HasCause (WriteBlocks first contents) why (running x.member rebuild known) z.member x.told z.told
written_caused rebuild known first contents _ _ _ (WritesBlocks.OutOf x past) rules why same =
    let by : OutOfRange first (block_count x.member.array.geometry) ≡ why = cc in
    subst (λ (r : Refusal). HasCause (WriteBlocks first contents) r (running x.member rebuild known) x.member x.told x.told) by
    (record { asked_is = refl; limit_is = refl; above = past; nothing = refl })
written_caused rebuild known first contents _ _ _ (WritesBlocks.IsFrozen x below frozen) rules why same =
    let by : Frozen ≡ why = cc in
    subst (λ (r : Refusal). HasCause (WriteBlocks first contents) r (running x.member rebuild known) x.member x.told x.told) by (below, frozen, refl)
written_caused rebuild known first contents _ _ _ (WritesBlocks.Unready t cells loaded refusal x y place ready) rules why same =
    unloaded_caused rebuild known first contents x y place.thawed t why place.stripe
    (unprepared t _ cells loaded (Err refusal) x y ready rules why (ap (λ (r : Refusal). Err r) (let one : refusal ≡ why = cc in one)))
written_caused rebuild known first contents _ _ _ (WritesBlocks.Wrote redo loaded stripe refusal x y z place formed ready set run) rules why same =
    by refusal run same
  where
    sooner : IsPart 0 x y
    sooner = prepared_part redo.stripe _ redo.cells loaded (Ok (tt {0})) x y ready rules

    by : (found : Option FenceFault) → Redoes x.member.array.geometry redo stripe AtRest found y z → answer_of (tt {0}) found ≡ Err why
        → HasCause (WriteBlocks first contents) why (running x.member rebuild known) z.member x.told z.told
    by None run is = absurd (cc)
    by (Some fault) run is =
        let one : refused fault ≡ why = cc in
        subst (λ (r : Refusal). HasCause (WriteBlocks first contents) r (running x.member rebuild known) z.member x.told z.told) one
        (stops_caused rebuild known first contents x z place.thawed fault
        (stops_sooner x y z sooner (redo_part x.member.array.geometry redo stripe AtRest (Some fault) y z run sooner.rules (sym sooner.geometry) formed)
        fault (redo_stops x.member.array.geometry redo stripe AtRest (Some fault) y z run sooner.rules (sym sooner.geometry) formed fault refl)))

-- WHAT IT ANSWERS

written_allowed : (first : ℕ) (contents : List (List ℕ)) (answer : Result (Unit {0}) Refusal) (x z : Snapshot) → WritesBlocks first contents answer x z
    → answer ≡ Ok tt → (first < block_count x.member.array.geometry) × (x.member.array.frozen ≡ false)
written_allowed first contents _ _ _ (WritesBlocks.OutOf x past) same = absurd (cc)
written_allowed first contents _ _ _ (WritesBlocks.IsFrozen x below frozen) same = absurd (cc)
written_allowed first contents _ _ _ (WritesBlocks.Unready t cells loaded refusal x y place ready) same = absurd (cc)
written_allowed first contents _ _ _ (WritesBlocks.Wrote redo loaded stripe refusal x y z place formed ready set run) same = (place.below, place.thawed)

-- WHAT STANDS

prepared_array : (t count : ℕ) (cells : CellSet) (loaded : Stripe) (answer : Result (Unit {0}) Refusal) (x z : Snapshot)
    → Prepares t count cells loaded answer x z → ¬ Stops answer → IsArray (unopened x.member) → IsArray (unopened z.member)
prepared_array t count cells loaded _ _ _ (Prepares.Filled x full) going array = array
prepared_array t count cells loaded _ _ _ (Prepares.ByCells gathered was x y few loads all) going array =
    left_array gathered.gone None (snapshot x.member loads.mid) y loads.leaves refl array
prepared_array t count cells loaded _ _ _ (Prepares.Stops gathered was fault x y few loads) going array = absurd (going (final_refused fault))
prepared_array t count cells loaded _ _ _ (Prepares.AfterCells gathered was into i j answer x y z few loads erased whole) going array =
    loaded_array t loaded answer y z whole going (left_array gathered.gone None (snapshot x.member loads.mid) y loads.leaves refl array)
prepared_array t count cells loaded _ _ _ (Prepares.ByStripe i j answer x y few has away whole) going array =
    loaded_array t loaded answer x y whole going array

written_array : (first : ℕ) (contents : List (List ℕ)) (answer : Result (Unit {0}) Refusal) (x z : Snapshot) → WritesBlocks first contents answer x z
    → ¬ Stops answer → IsArray (unopened x.member) → IsArray (unopened z.member)
written_array first contents _ _ _ (WritesBlocks.OutOf x past) going array = array
written_array first contents _ _ _ (WritesBlocks.IsFrozen x below frozen) going array = array
written_array first contents _ _ _ (WritesBlocks.Unready t cells loaded refusal x y place ready) going array =
    prepared_array t _ cells loaded (Err refusal) x y ready going array
written_array first contents _ _ _ (WritesBlocks.Wrote redo loaded stripe refusal x y z place formed ready set run) going array =
    redo_array x.member.array.geometry redo stripe AtRest refusal y z run (goes_on tt refusal going)
    (prepared_array redo.stripe _ redo.cells loaded (Ok tt) x y ready (λ never. never) array)

-- ALL OF IT

module _ (first : ℕ) (contents : List (List ℕ)) (answer : Answer (WriteBlocks first contents)) (m last : Membership) (rebuild : Option Rebuild) (known : Option Remembered)
    (stopped : Option FenceFault) (old new : RackState) (array : IsArray (running m rebuild known))
    (does : WritesBlocks first contents answer (snapshot m old) (snapshot last new)) (kept : Keeps answer stopped) where
  part : IsPart 0 (snapshot m old) (snapshot last new)
  part = written_part first contents answer (snapshot m old) (snapshot last new) does array.member

  caused : (given : Answer (WriteBlocks first contents)) → answer ≡ given
      → IfErr given (λ why. HasCause (WriteBlocks first contents) why (running m rebuild known) last old new)
  caused (Ok done) same = tt
  caused (Err why) same = written_caused rebuild known first contents answer (snapshot m old) (snapshot last new) does array.member why same

  allowed : (given : Answer (WriteBlocks first contents)) → answer ≡ given → IsAllowed (WriteBlocks first contents) given (running m rebuild known)
  allowed (Ok done) same = written_allowed first contents answer (snapshot m old) (snapshot last new) does same
  allowed (Err why) same = tt

  pub write_performs : Performs (WriteBlocks first contents) answer (events_of (WriteBlocks first contents) answer m.array last.array)
      (record { told = old; session = Opened (running m rebuild known) })
      (record { told = new; session = Opened (left_of last rebuild stopped) })
  write_performs = record {
    was = running m rebuild known;
    is = left_of last rebuild stopped;
    starts = (refl, refl);
    ends = EndsIn.GoesOn (λ never. absurd (cc)) kept refl;
    later = part.after.later;
    goes_on = member_goes_on m last rebuild known stopped old new array part (WriteBlocks first contents);
    rebuild = keeps_progress m last rebuild known stopped old new array part;
    draws_few = draws_few (WriteBlocks first contents) (snapshot m old) (snapshot last new) part;
    events_are = refl;
    caused = caused answer refl;
    allowed = allowed answer refl;
    array = λ going.
        stands m last rebuild known stopped old new array part
        (written_array first contents answer (snapshot m old) (snapshot last new) does going (bare m last rebuild known stopped old new array part));
    counted = tt;
    remembers = refl;
    does = does;
    left_out = written_left_out first contents answer (snapshot m old) (snapshot last new) does array.member;
    made = λ honest. tt;
    repaired = λ honest. tt;
    looked = λ honest. tt;
  }
