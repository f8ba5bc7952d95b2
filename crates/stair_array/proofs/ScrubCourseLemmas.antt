-- What a scrub of a stripe does to what a session knows of its slots, who is left out in it, why it is refused, and what stands, on any rack.
use Rattle.std.proofs.Common.{◌≡◌, ℕ, ◌<◌, refl, sym, subst, None, Option, Some, arith}
use Rattle.std.specs.Prelude.{Err, IsTrue, Ok, Result}
use Rattle.stair_model.specs.CellSet.{HasCell, cell_count}
use Rattle.stair_model.specs.Device.{cell_sector}
use Rattle.stair_model.specs.Stripe.{Stripe}
use Rattle.stair_model.proofs.SetLaws.{cell_count_member}
use Rattle.stair_rack.specs.Count.{Rose, Rose-kept}
use Rattle.stair_rack.specs.Sector.{Damaged}
use Rattle.stair_rack.specs.RackState.{IsReading}
use Rattle.stair_member.specs.Membership.{IsMembership}
use Rattle.stair_member.specs.declared.fault.FenceFault.{FenceFault}
use Rattle.stair_member.specs.declared.fault.FenceFault.TheVariants as fence
use Rattle.stair_stripes.specs.Gathering.{IsCellOf}
use Rattle.stair_stripes.specs.declared.gathering.Gathered.{Gathered}
use Rattle.stair_state.specs.Redoing.{AtRest}
use Rattle.stair_invariant.specs.Effects.{Loads, Snapshot, Redoes, snapshot}
use Rattle.stair_invariant.specs.Rebuilding.{Rebuild}
use Rattle.stair_invariant.specs.Session.{IsArray, IsLiveIn, Remembered}
use Rattle.stair_array.specs.Calls.{LoadsStripe, answer_of, refused}
use Rattle.stair_array.specs.Causes.{HasCause, IsErasedFor}
use Rattle.stair_array.specs.Machine.{OutOfRange, Refusal, ScrubStripe}
use Rattle.stair_array.specs.Mends.{Scrubs}
use Rattle.stair_array.specs.Promise.{Stops, running, unopened}
use Rattle.stair_array.proofs.AnsweredLemmas.{IsLeftOut, honest_before, left_out_join, never_answered, redo_left_out}
use Rattle.stair_array.proofs.CauseLemmas.{left_array, redo_array}
use Rattle.stair_array.proofs.CourseLemmas.{load_part, redo_part}
use Rattle.stair_array.proofs.LoadCauseLemmas.{StopsBy, Unloaded, erased_for, loaded_refused, stops_sooner}
use Rattle.stair_array.proofs.PartsLemmas.{IsPart, live_back, part_join, part_none}
use Rattle.stair_array.proofs.PerformsLemmas.{final_refused, goes_on}
use Rattle.stair_array.proofs.ReadCourseLemmas.{load_left_out}
use Rattle.stair_array.proofs.RedoLemmas.{redo_after}
use Rattle.stair_array.proofs.WriteCauseLemmas.{redo_stops}

-- ITS PARTS

pub scrubbed_part : (t : ℕ) (answer : Result ℕ Refusal) (x z : Snapshot) → Scrubs t answer x z → IsMembership x.member → IsPart 0 x z
scrubbed_part t _ _ _ (Scrubs.OutOf x past) rules = part_none x rules
scrubbed_part t _ _ _ (Scrubs.Stops was read gathered fault x y below loads) rules =
    load_part t (IsCellOf x.member.array.geometry) gathered was read (Some fault) x y loads rules
scrubbed_part t _ _ _ (Scrubs.Sound was read gathered x y below loads sound) rules =
    load_part t (IsCellOf x.member.array.geometry) gathered was read None x y loads rules
scrubbed_part t _ _ _ (Scrubs.Unrestored was read into gathered refusal x y below loads is) rules =
    load_part t (IsCellOf x.member.array.geometry) gathered was read None x y loads rules
scrubbed_part t _ _ _ (Scrubs.Rewrote was read into gathered redo refusal x y z below loads is of_stripe formed on_live run) rules =
    let sooner = load_part t (IsCellOf x.member.array.geometry) gathered was read None x y loads rules in
    part_join 0 0 x y z sooner (redo_part x.member.array.geometry redo into AtRest refusal y z run sooner.rules (sym sooner.geometry) formed)

-- WHO IS LEFT OUT

pub scrubbed_left_out : (t : ℕ) (answer : Result ℕ Refusal) (x z : Snapshot) → Scrubs t answer x z → IsMembership x.member → IsTrue z.told.honest
    → IsLeftOut x z
scrubbed_left_out t _ _ _ (Scrubs.OutOf x past) rules honest = λ j call here was gone. absurd (never_answered j call x.told.history was)
scrubbed_left_out t _ _ _ (Scrubs.Stops was read gathered fault x y below loads) rules honest =
    load_left_out t (IsCellOf x.member.array.geometry) gathered was read (Some fault) x y loads honest
scrubbed_left_out t _ _ _ (Scrubs.Sound was read gathered x y below loads sound) rules honest =
    load_left_out t (IsCellOf x.member.array.geometry) gathered was read None x y loads honest
scrubbed_left_out t _ _ _ (Scrubs.Unrestored was read into gathered refusal x y below loads is) rules honest =
    load_left_out t (IsCellOf x.member.array.geometry) gathered was read None x y loads honest
scrubbed_left_out t _ _ _ (Scrubs.Rewrote was read into gathered redo refusal x y z below loads is of_stripe formed on_live run) rules honest =
    let sooner = load_part t (IsCellOf x.member.array.geometry) gathered was read None x y loads rules in
    let of_y = sym sooner.geometry in
    let second = redo_part x.member.array.geometry redo into AtRest refusal y z run sooner.rules of_y formed in
    left_out_join 0 0 x y z sooner second honest
    (load_left_out t (IsCellOf x.member.array.geometry) gathered was read None x y loads (honest_before y.told z.told second.after honest))
    (redo_left_out x.member.array.geometry redo into AtRest refusal y z run sooner.rules of_y formed honest)

-- WHY IT IS REFUSED

module _ (rebuild : Option Rebuild) (known : Option Remembered) (t : ℕ) (x z : Snapshot) where
  abbrev Caused : Refusal → Type 0
  Caused why = HasCause (ScrubStripe t) why (running x.member rebuild known) z.member x.told z.told

  stops_caused : (fault : FenceFault) → StopsBy fault x z → Caused (refused fault)
  stops_caused (fence.TooFew whys) is = (is.one, record { whys_are = is.by.0; many = is.by.1 })
  stops_caused fence.EpochsSpent is = (is.one, record { spent = is.by.0; enough = is.by.1 })

  unloaded_caused : (why : Refusal) → Unloaded t why x z → Caused why
  unloaded_caused why (Unloaded.ByEpoch fault same stops) = subst Caused (sym same) (stops_caused fault stops)
  unloaded_caused why (Unloaded.ByPattern counts same is) = subst Caused (sym same) (refl, is)

pub scrubbed_caused : (rebuild : Option Rebuild) (known : Option Remembered) (t : ℕ) (answer : Result ℕ Refusal) (x z : Snapshot) → Scrubs t answer x z → IsMembership x.member
    → (why : Refusal) → answer ≡ Err why → HasCause (ScrubStripe t) why (running x.member rebuild known) z.member x.told z.told
scrubbed_caused rebuild known t _ _ _ (Scrubs.OutOf x past) rules why same =
    let by : OutOfRange t x.member.array.geometry.stripes ≡ why = cc in
    subst (λ (r : Refusal). HasCause (ScrubStripe t) r (running x.member rebuild known) x.member x.told x.told) by
    (record { asked_is = refl; limit_is = refl; above = past; nothing = refl })
scrubbed_caused rebuild known t _ _ _ (Scrubs.Stops was read gathered fault x y below loads) rules why same =
    let one : ◌≡◌ {A = Result (Unit {0}) Refusal} (Err (refused fault)) (Err why) = cc in
    unloaded_caused rebuild known t x y why
    (loaded_refused t read (Err (refused fault)) x y (LoadsStripe.Stops was read gathered fault x y loads) why one)
scrubbed_caused rebuild known t _ _ _ (Scrubs.Sound was read gathered x y below loads sound) rules why same = absurd (cc)
scrubbed_caused rebuild known t _ _ _ (Scrubs.Unrestored was read into gathered refusal x y below loads is) rules why same =
    let one : ◌≡◌ {A = Result (Unit {0}) Refusal} (Err refusal) (Err why) = cc in
    unloaded_caused rebuild known t x y why
    (loaded_refused t into (Err refusal) x y (LoadsStripe.Loaded was read gathered (Err refusal) x y loads is) why one)
scrubbed_caused rebuild known t _ _ _ (Scrubs.Rewrote was read into gathered redo refusal x y z below loads is of_stripe formed on_live run) rules why
    same =
    by refusal run same
  where
    sooner : IsPart 0 x y
    sooner = load_part t (IsCellOf x.member.array.geometry) gathered was read None x y loads rules

    by : (found : Option FenceFault) → Redoes x.member.array.geometry redo into AtRest found y z → answer_of (cell_count redo.cells) found ≡ Err why
        → HasCause (ScrubStripe t) why (running x.member rebuild known) z.member x.told z.told
    by None run is = absurd (cc)
    by (Some fault) run is =
        let one : refused fault ≡ why = cc in
        subst (λ (r : Refusal). HasCause (ScrubStripe t) r (running x.member rebuild known) z.member x.told z.told) one
        (stops_caused rebuild known t x z fault
        (stops_sooner x y z sooner (redo_part x.member.array.geometry redo into AtRest (Some fault) y z run sooner.rules (sym sooner.geometry) formed)
        fault (redo_stops x.member.array.geometry redo into AtRest (Some fault) y z run sooner.rules (sym sooner.geometry) formed fault refl)))

-- WHAT IT ANSWERS

pub scrubbed_below : (t : ℕ) (answer : Result ℕ Refusal) (x z : Snapshot) → Scrubs t answer x z → (count : ℕ) → answer ≡ Ok count
    → t < x.member.array.geometry.stripes
scrubbed_below t _ _ _ (Scrubs.OutOf x past) count same = absurd (cc)
scrubbed_below t _ _ _ (Scrubs.Stops was read gathered fault x y below loads) count same = below
scrubbed_below t _ _ _ (Scrubs.Sound was read gathered x y below loads sound) count same = below
scrubbed_below t _ _ _ (Scrubs.Unrestored was read into gathered refusal x y below loads is) count same = below
scrubbed_below t _ _ _ (Scrubs.Rewrote was read into gathered redo refusal x y z below loads is of_stripe formed on_live run) count same = below

-- a cell that is erased on a slot that is live after the gathering read as bad
module _ (t : ℕ) (gathered : Gathered) (was read : Stripe) (x y : Snapshot)
    (loads : Loads t (IsCellOf x.member.array.geometry) gathered was read None x y) (rules : IsMembership x.member) where
  pub read_bad : (i j : ℕ) → HasCell gathered.erased i j → IsLiveIn y.member j
      → IsReading j (cell_sector x.member.array.geometry t i) x.told y.told Damaged
  read_bad i j has live =
      by
      (erased_for t (IsCellOf x.member.array.geometry) gathered was read None x y loads refl i j has
      (live_back 0 x y (load_part t (IsCellOf x.member.array.geometry) gathered was read None x y loads rules) j live))
    where
      by : IsErasedFor x.member y.member x.told y.told t i j → IsReading j (cell_sector x.member.array.geometry t i) x.told y.told Damaged
      by (IsErasedFor.SlotGone was_gone dead) = absurd (dead live)
      by (IsErasedFor.ReadBad bad) = bad

pub scrubbed_counted : (t : ℕ) (answer : Result ℕ Refusal) (x z : Snapshot) → Scrubs t answer x z → IsMembership x.member → (count : ℕ)
    → answer ≡ Ok count → 0 < count → Rose x.told.bads z.told.bads
scrubbed_counted t _ _ _ (Scrubs.OutOf x past) rules count same some = absurd (cc)
scrubbed_counted t _ _ _ (Scrubs.Stops was read gathered fault x y below loads) rules count same some = absurd (cc)
scrubbed_counted t _ _ _ (Scrubs.Sound was read gathered x y below loads sound) rules count same some =
    let none : 0 ≡ count = cc in absurd (omega (arith, none, some))
scrubbed_counted t _ _ _ (Scrubs.Unrestored was read into gathered refusal x y below loads is) rules count same some = absurd (cc)
scrubbed_counted t _ _ _ (Scrubs.Rewrote was read into gathered redo refusal x y z below loads is of_stripe formed on_live run) rules count
    same some =
    by refusal same
  where
    by : (found : Option FenceFault) → answer_of (cell_count redo.cells) found ≡ Ok count → Rose x.told.bads z.told.bads
    by None is =
        let number : cell_count redo.cells ≡ count = cc in
        let one = cell_count_member redo.cells (omega (arith, number, some)) in
        let both = (on_live one.0 one.1).0 one.4 in
        Rose-kept x.told.bads y.told.bads z.told.bads (read_bad t gathered was read x y loads rules one.0 one.1 both.0 both.1).0
        (redo_after x.member.array.geometry redo into AtRest refusal y z run).later.counts.bad.not_less
    by (Some fault) is = absurd (cc)

-- WHAT STANDS

pub scrubbed_array : (t : ℕ) (answer : Result ℕ Refusal) (x z : Snapshot) → Scrubs t answer x z → ¬ Stops answer → IsArray (unopened x.member)
    → IsArray (unopened z.member)
scrubbed_array t _ _ _ (Scrubs.OutOf x past) going array = array
scrubbed_array t _ _ _ (Scrubs.Stops was read gathered fault x y below loads) going array = absurd (going (final_refused fault))
scrubbed_array t _ _ _ (Scrubs.Sound was read gathered x y below loads sound) going array =
    left_array gathered.gone None (snapshot x.member loads.mid) y loads.leaves refl array
scrubbed_array t _ _ _ (Scrubs.Unrestored was read into gathered refusal x y below loads is) going array =
    left_array gathered.gone None (snapshot x.member loads.mid) y loads.leaves refl array
scrubbed_array t _ _ _ (Scrubs.Rewrote was read into gathered redo refusal x y z below loads is of_stripe formed on_live run) going array =
    redo_array x.member.array.geometry redo into AtRest refusal y z run (goes_on (cell_count redo.cells) refusal going)
    (left_array gathered.gone None (snapshot x.member loads.mid) y loads.leaves refl array)
