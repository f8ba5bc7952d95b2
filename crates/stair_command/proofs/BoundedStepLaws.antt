-- What a step writes to superblock places.
use Rattle.std.proofs.Common.{◌≡◌, ◌∙◌, ◌<◌, ◌≤◌, ℕ, List, Option, None, Some, Result, refl, sym, ap, subst, arith}
use Rattle.std.proofs.lemmas.Bool.{cond-true, cond-false, lt-ltb, ne_eqb}
use Rattle.std.proofs.Math.Nat.{le-max_left}
use Rattle.std.specs.Prelude.{IsTrue, ◌==◌, if◌then◌else◌, max, nat_lt}
use Rattle.stair_model.specs.CellSet.{CellSet}
use Rattle.stair_model.specs.Geometry.{Geometry}
use Rattle.stair_model.specs.Slots.{Slots}
use Rattle.stair_model.specs.Stripe.{Stripe}
use Rattle.stair_rack.specs.Answers.{Calls, Ran}
use Rattle.stair_rack.specs.History.{Attach, Happening, Read, Sectors, SlotCall, Sync, Write}
use Rattle.stair_rack.specs.Placed.{IsSyncOf, IsWriteOf, Placed, Writes}
use Rattle.stair_rack.specs.Reading.{IsReadOf}
use Rattle.stair_rack.specs.Stretch.{IsNoWrite}
use Rattle.stair_rack.specs.RackState.{RackState}
use Rattle.stair_rack.specs.declared.rack.Reply.{Reply}
use Rattle.stair_rack.proofs.MomentLemmas.{IsThis, calls_ran, ran_join, ran_none, ran_weakened}
use Rattle.stair_member.specs.Establishing.{Establishes, Fences}
use Rattle.stair_member.specs.Membership.{Membership}
use Rattle.stair_member.specs.Seeing.{draw_in}
use Rattle.stair_member.specs.declared.aim.EpochChange.{EpochChange}
use Rattle.stair_member.specs.declared.fault.FenceFault.{FenceFault}
use Rattle.stair_state.specs.Redoing as stage
use Rattle.stair_state.specs.Redoing.{Stage}
use Rattle.stair_invariant.specs.Effects as course
use Rattle.stair_invariant.specs.Effects.{DoesStage, FindsBody, FindsRedo, FencesGone, Loads, Snapshot, Redoes, Replays, snapshot, stage_writes}
use Rattle.stair_invariant.specs.Session.{ArrayState, Remembered}
use Rattle.stair_invariant.proofs.HonestLemmas.{found_honest, left_honest, load_honest, redo_honest, replay_honest}
use Rattle.stair_array.specs.Calls as calls
use Rattle.stair_array.specs.Mends as mends
use Rattle.stair_array.specs.Openings as opening
use Rattle.stair_array.specs.Calls.{AsksFor, CannotHave, LoadsStripe, Prepares, Reads, WritesBlocks}
use Rattle.stair_array.specs.Machine.{Answer, LookAtSeats, Progress, ReadBlock, RebuildNext, Recover, Refusal, ReplaceSlot, ScrubStripe, SetFrozen, SetLabel, Step, WriteBlocks}
use Rattle.stair_array.specs.Mends.{FencesSlot, IsPreparing, Looks, OnlyPrepared, PreparesSlot, Promotes, Rebuilds, Replaces, Scrubs, SyncsSlot, WritesChunk}
use Rattle.stair_array.specs.Openings.{ClearsJournal, Recovers}
use Rattle.stair_array.specs.Promise.{Does}
use Rattle.stair_array.proofs.ReadPartLemmas.{asked_ran}
use Rattle.stair_array.proofs.RecoveredLemmas.{cleared_honest}
use Rattle.stair_command.specs.Bounded.{StepsAreBounded}
use Rattle.stair_command.proofs.BoundedLaws.{IsFine, fine_issued, stays_bounded}

-- ---- draws never fall

drawn_established : {aim : EpochChange} {m last : Membership} {refusal : Option FenceFault} {old new : RackState} → Establishes aim m last refusal old new
    → m.drawn ≤ last.drawn
drawn_established {refusal = None} does = omega (arith, (does.done refl).drawn)
drawn_established {refusal = Some fault} does = omega (arith, (does.refused fault refl).1)

drawn_fenced : {leaving : Slots} {m last : Membership} {answer : Result Slots FenceFault} {old new : RackState} → Fences leaving m last answer old new
    → m.drawn ≤ last.drawn
drawn_fenced fences = omega (arith, fences.leaves.drawn, drawn_established fences.establishes)

abbrev pub Rises : Snapshot → Snapshot → Type 0
Rises x y = x.member.drawn ≤ y.member.drawn

rises_same : {x y : Snapshot} → y ≡ x → Rises x y
rises_same {x} {y} same = let e : y.member.drawn ≡ x.member.drawn = ap (λ (p : Snapshot). p.member.drawn) same in omega arith

rises_kept : (x y : Snapshot) → y.member ≡ x.member → Rises x y
rises_kept x y same = let e : y.member.drawn ≡ x.member.drawn = ap (λ (m : Membership). m.drawn) same in omega arith

-- ---- writes after the superblock places

-- none of these writes is to a superblock place
abbrev AreBehind : Writes → Type 0
AreBehind what = (j k : ℕ) → k < 2 → what j k ≡ None

below_none : (k n : ℕ) (some : Option (List ℕ)) → k < 2 → 2 ≤ n → (if nat_lt k n then None else some) ≡ None
below_none k n some place above = cond-true _ _ _ (lt-ltb k n (omega arith))

gate_behind : (k : ℕ) (gate : List ℕ) → k < 2 → (if k == 2 then Some gate else None) ≡ None
gate_behind k gate place = cond-false _ _ _ (ne_eqb k 2 (λ is. omega arith))

stage_behind : (g : Geometry) (redo : _) (stripe : Stripe) (s : Stage) → AreBehind (stage_writes g redo stripe s)
stage_behind g redo stripe stage.AtRest j k place = below_none k 3 _ place (omega arith)
stage_behind g redo stripe stage.Uncommitted j k place = gate_behind k _ place
stage_behind g redo stripe stage.Placing j k place = below_none k _ _ place (omega arith)
stage_behind g redo stripe stage.InPlace j k place = gate_behind k _ place
stage_behind g redo stripe stage.Done j k place = refl

module _ (g : Geometry) (most : ℕ) where
  abbrev pub Fine : List Happening → List Happening → Type 0
  Fine old new = Ran (IsFine g most) old new

  fine_no_write : (j : ℕ) (call : SlotCall) → IsNoWrite call → IsFine g most j call
  fine_no_write j (Write k bytes answer) none = absurd none
  fine_no_write j (Attach answer) none = tt
  fine_no_write j (Sectors size) none = tt
  fine_no_write j (Read k answer) none = tt
  fine_no_write j (Sync answer) none = tt

  fine_write : (what : Writes) (to : ℕ → Type 0) → AreBehind what → (j : ℕ) (call : SlotCall) → IsWriteOf what to j call → IsFine g most j call
  fine_write what to behind j call is =
      subst (IsFine g most j) (sym is.is) (λ place. absurd (let none = behind j is.sector place in let some = is.is_one in cc))

  fine_sync : (to : ℕ → Type 0) (j : ℕ) (call : SlotCall) → IsSyncOf to j call → IsFine g most j call
  fine_sync to j call is = subst (IsFine g most j) (sym is.is) tt

  fine_placed : {what : Writes} {to gone : ℕ → Type 0} {old new : List Happening} → AreBehind what → Placed what to gone old new → Fine old new
  fine_placed {what} {to} behind placed =
      ran_join (ran_weakened (fine_write what to behind) placed.writes) (ran_weakened (fine_sync to) placed.syncs)

  fine_read : (slots sectors : ℕ → Type 0) (j : ℕ) (call : SlotCall) → IsReadOf slots sectors j call → IsFine g most j call
  fine_read slots sectors j (Read k answer) is = tt
  fine_read slots sectors j (Attach answer) is = absurd is
  fine_read slots sectors j (Sectors size) is = absurd is
  fine_read slots sectors j (Write k bytes answer) is = absurd is
  fine_read slots sectors j (Sync answer) is = absurd is

  fine_prepared : (slot : ℕ) (array : Geometry) (j : ℕ) (call : SlotCall) → IsPreparing array slot j call → IsFine g most j call
  fine_prepared slot array j (Read k answer) is = tt
  fine_prepared slot array j (Attach answer) is = tt
  fine_prepared slot array j (Sectors size) is = tt
  fine_prepared slot array j (Write k bytes answer) is = λ place. absurd (let above = is.1 in omega arith)
  fine_prepared slot array j (Sync answer) is = tt

  fine_this : (slot : ℕ) (made : SlotCall) → IsNoWrite made → (j : ℕ) (call : SlotCall) → IsThis slot made j call → IsFine g most j call
  fine_this slot made none j call is = subst (IsFine g most j) (sym is.1) (fine_no_write j made none)

  fine_called : {old new : List Happening} {j : ℕ} {call : SlotCall} → IsNoWrite call → Calls old new j call → Fine old new
  fine_called {j = j} {call = call} none called = ran_weakened (fine_this j call none) (calls_ran called)

  -- ---- parts of a step

  -- What a part of a step did: it forgets no draw, and where none is greater than `most` in the end its calls were fine.
  pub record Goes (x y : Snapshot) : Type 0 where
    pub rises : Rises x y
    pub fine : y.member.drawn ≤ most → IsTrue y.told.honest → Fine x.told.history y.told.history

  goes_same : {x y : Snapshot} → y ≡ x → Goes x y
  goes_same {x} {y} same =
      record { rises = rises_same same; fine = λ few honest. subst (λ (p : Snapshot). Fine x.told.history p.told.history) (sym same) (ran_none x.told.history) }

  goes_kept : (x y : Snapshot) → y.member ≡ x.member → (IsTrue y.told.honest → Fine x.told.history y.told.history) → Goes x y
  goes_kept x y same fine = record { rises = rises_kept x y same; fine = λ few honest. fine honest }

  -- one part after the other: the rack was honest between, since it is in the end
  goes_on : {x y z : Snapshot} → Goes x y → y.told.honest ≡ z.told.honest → Goes y z → Goes x z
  goes_on first same second = record {
    rises = omega (arith, first.rises, second.rises);
    fine = λ few honest.
        ran_join (first.fine (omega (arith, second.rises, few)) (subst IsTrue (sym same) honest)) (second.fine few honest);
  }

  goes_established : {aim : EpochChange} {x y : Snapshot} {refusal : Option FenceFault} → Establishes aim x.member y.member refusal x.told y.told → Goes x y
  goes_established does =
      record { rises = drawn_established does; fine = λ few honest. fine_issued g most (does.issued honest) few }

  goes_fenced : {leaving : Slots} {x y : Snapshot} {answer : Result Slots FenceFault} → Fences leaving x.member y.member answer x.told y.told → Goes x y
  goes_fenced fences =
      record { rises = drawn_fenced fences; fine = λ few honest. fine_issued g most (fences.establishes.issued honest) few }

  goes_left : {gone : Slots} {refusal : Option FenceFault} {x y : Snapshot} → FencesGone gone refusal x y → Goes x y
  goes_left (course.NoneWas none same quiet) = goes_same same
  goes_left (course.Fenced j has answer is fences) = goes_fenced fences

  goes_stage : {what : Writes} {to : Slots} {refusal : Option FenceFault} {x y : Snapshot} → AreBehind what → (does : DoesStage what to refusal x y) → Goes x y
  goes_stage {x = x} behind does =
      goes_on (goes_kept x (snapshot x.member does.mid) refl (λ honest. fine_placed behind (does.phase.placed honest)))
      (left_honest _ _ _ _ does.leaves) (goes_left does.leaves)

  goes_loaded : {t : ℕ} {wanted : ℕ → ℕ → Type 0} {gathered : _} {was into : Stripe} {refusal : Option FenceFault} {x y : Snapshot}
      → (loads : Loads t wanted gathered was into refusal x y) → Goes x y
  goes_loaded {x = x} loads =
      goes_on
      (goes_kept x (snapshot x.member loads.mid) refl
      (λ honest. ran_weakened (λ j call is. subst (IsFine g most j) (sym is.is) tt) (loads.gathers.ran honest)))
      (left_honest _ _ _ _ loads.leaves) (goes_left loads.leaves)

  goes_body : {redo : _} {body : _} {was into : Stripe} {refusal : Option FenceFault} {x y : Snapshot}
      → (finds : FindsBody redo body was into refusal x y) → Goes x y
  goes_body {x = x} finds =
      goes_on (goes_kept x (snapshot x.member finds.mid) refl (λ honest. ran_weakened (fine_read _ _) (finds.reads.ran honest)))
      (left_honest _ _ _ _ finds.leaves) (goes_left finds.leaves)

  goes_redo : {array : Geometry} {redo : _} {stripe : Stripe} {s : Stage} {refusal : Option FenceFault} {x y : Snapshot}
      → (does : Redoes array redo stripe s refusal x y) → Goes x y
  goes_redo (course.Ends x) = goes_same refl
  goes_redo {array} {redo} {stripe} (course.Goes s to refusal x y z apart over does rest) =
      goes_on (goes_stage (stage_behind array redo stripe s) does) (redo_honest _ _ _ _ _ _ _ rest) (goes_redo rest)
  goes_redo {array} {redo} {stripe} (course.Stops s to fault x y apart over does) =
      goes_stage (stage_behind array redo stripe s) does

  goes_found : {redo : Option _} {opened : Slots} {refusal : Option FenceFault} {x y : Snapshot}
      → (finds : FindsRedo redo opened refusal x y) → Goes x y
  goes_found (course.Found gates live mid x are reads none) =
      goes_kept x (snapshot x.member mid) refl (λ honest. ran_weakened (fine_read _ _) (reads.ran honest))
  goes_found (course.Again gates live mid redo opened refusal j x y z are reads gone leaves rest) =
      goes_on
      (goes_on (goes_kept x (snapshot x.member mid) refl (λ honest. ran_weakened (fine_read _ _) (reads.ran honest)))
      (left_honest _ _ _ _ leaves) (goes_left leaves))
      (found_honest _ _ _ _ _ rest) (goes_found rest)
  goes_found (course.Stops gates live mid redo opened fault x y are reads leaves) =
      goes_on (goes_kept x (snapshot x.member mid) refl (λ honest. ran_weakened (fine_read _ _) (reads.ran honest)))
      (left_honest _ _ _ _ leaves) (goes_left leaves)

  goes_replayed : {redo : _} {stripe : Stripe} {opened : Slots} {refusal : Option FenceFault} {x y : Snapshot}
      → (does : Replays redo stripe opened refusal x y) → Goes x y
  goes_replayed (course.Goes to refusal x y z are does rest) =
      goes_on (goes_stage (λ j k place. gate_behind k _ place) does) (redo_honest _ _ _ _ _ _ _ rest) (goes_redo rest)
  goes_replayed (course.Stops to fault x y are does) = goes_stage (λ j k place. gate_behind k _ place) does

  goes_cleared : {redo : Option _} {opened : Slots} {answer : Result Geometry Refusal} {x y : Snapshot}
      → (clears : ClearsJournal redo opened answer x y) → Goes x y
  goes_cleared (opening.Closes opened live refusal x y are does) = goes_stage (λ j k place. gate_behind k _ place) does
  goes_cleared (opening.Stops redo opened body was stripe fault x y finds) = goes_body finds
  goes_cleared (opening.BodyLost redo opened body was stripe sector x y finds lost) = goes_body finds
  goes_cleared (opening.Replayed redo opened body was stripe refusal x y z finds found again) =
      goes_on (goes_body finds) (replay_honest _ _ _ _ _ _ again) (goes_replayed again)

  goes_opened : {answer : Result Geometry Refusal} {x y : Snapshot} → (does : Recovers answer x y) → Goes x y
  goes_opened (opening.NoEpoch fault x y fences) = goes_fenced fences
  goes_opened (opening.Stops fallen opened redo fault x y z fences found) = goes_on (goes_fenced fences) (found_honest _ _ _ _ _ found) (goes_found found)
  goes_opened (opening.Goes fallen opened redo answer x y z w fences found cleared) =
      goes_on (goes_on (goes_fenced fences) (found_honest _ _ _ _ _ found) (goes_found found)) (cleared_honest _ _ _ _ _ cleared) (goes_cleared cleared)

  goes_stripe : {t : ℕ} {into : Stripe} {answer : Result (Unit {0}) Refusal} {x y : Snapshot} → (does : LoadsStripe t into answer x y) → Goes x y
  goes_stripe (calls.Loaded was read gathered answer x y loads restored) = goes_loaded loads
  goes_stripe (calls.Stops was read gathered fault x y loads) = goes_loaded loads

  stripe_honest : {t : ℕ} {into : Stripe} {answer : Result (Unit {0}) Refusal} {x y : Snapshot} → LoadsStripe t into answer x y
      → x.told.honest ≡ y.told.honest
  stripe_honest (calls.Loaded was read gathered answer x y loads restored) = load_honest _ _ _ _ _ _ _ _ loads
  stripe_honest (calls.Stops was read gathered fault x y loads) = load_honest _ _ _ _ _ _ _ _ loads

  goes_asked : {t i j : ℕ} {answer : _} {x y : Snapshot} → AsksFor t i j answer x y → Goes x y
  goes_asked asks = goes_kept _ _ asks.member (λ honest. ran_weakened (fine_read _ _) (asked_ran _ _ _ _ _ asks honest))

  goes_without : {t i j : ℕ} {x y : Snapshot} → CannotHave t i j x y → Goes x y
  goes_without (calls.NotLive away same) = goes_same same
  goes_without (calls.WasBad asks reading) = goes_asked asks
  goes_without (calls.WasGone asks gone) = goes_asked asks

  goes_read : {b : ℕ} {old after : Option Remembered} {answer : Result (List ℕ) Refusal} {x y : Snapshot} → (does : Reads b old after answer x y) → Goes x y
  goes_read (calls.OutOf x past) = goes_same refl
  goes_read (calls.Recalled one i j x known place) = goes_same refl
  goes_read (calls.Own t i j bytes x y place asks reading) = goes_asked asks
  goes_read (calls.Restored t i j into x y z place cannot loads) = goes_on (goes_without cannot) (stripe_honest loads) (goes_stripe loads)
  goes_read (calls.Refused t i j into refusal x y z place cannot loads) = goes_on (goes_without cannot) (stripe_honest loads) (goes_stripe loads)

  goes_ready : {t count : ℕ} {cells : CellSet} {loaded : Stripe} {answer : Result (Unit {0}) Refusal} {x y : Snapshot}
      → (does : Prepares t count cells loaded answer x y) → Goes x y
  goes_ready (calls.Filled x full) = goes_same refl
  goes_ready (calls.ByCells gathered was x y few loads none) = goes_loaded loads
  goes_ready (calls.Stops gathered was fault x y few loads) = goes_loaded loads
  goes_ready (calls.AfterCells gathered was into i j answer x y z few loads erased whole) =
      goes_on (goes_loaded loads) (stripe_honest whole) (goes_stripe whole)
  goes_ready (calls.ByStripe i j answer x y few has away loads) = goes_stripe loads

  goes_written : {first : ℕ} {contents : List (List ℕ)} {answer : Result (Unit {0}) Refusal} {x y : Snapshot}
      → (does : WritesBlocks first contents answer x y) → Goes x y
  goes_written (calls.OutOf x past) = goes_same refl
  goes_written (calls.IsFrozen x within frozen) = goes_same refl
  goes_written (calls.Unready t cells loaded refusal x y place ready) = goes_ready ready
  goes_written (calls.Wrote redo loaded stripe refusal x y z place formed ready set done) =
      goes_on (goes_ready ready) (redo_honest _ _ _ _ _ _ _ done) (goes_redo done)

  goes_scrubbed : {t : ℕ} {answer : Result ℕ Refusal} {x y : Snapshot} → (does : Scrubs t answer x y) → Goes x y
  goes_scrubbed (mends.OutOf x past) = goes_same refl
  goes_scrubbed (mends.Stops was read gathered fault x y within loads) = goes_loaded loads
  goes_scrubbed (mends.Sound was read gathered x y within loads none) = goes_loaded loads
  goes_scrubbed (mends.Unrestored was read into gathered refusal x y within loads lost) = goes_loaded loads
  goes_scrubbed (mends.Rewrote was read into gathered redo refusal x y z within loads whole of_stripe formed on done) =
      goes_on (goes_loaded loads) (redo_honest _ _ _ _ _ _ _ done) (goes_redo done)

  -- a slot that is looked at, and prepared
  goes_looked : {slot : ℕ} {mid : RackState} {x y : Snapshot} → Looks slot mid x y → Goes x y
  goes_looked {slot} looks =
      goes_kept _ _ looks.member
      (λ honest.
      ran_join (fine_called tt (looks.attached (subst IsTrue (sym looks.later.honest) honest)))
      (ran_weakened (λ j call is. fine_no_write j call is.0.1) (looks.ran honest)))

  goes_prepared : {slot : ℕ} {x y : Snapshot} → OnlyPrepared slot x y → Goes x y
  goes_prepared {slot} {x = x} only = goes_kept _ _ only.member (λ honest. ran_weakened (fine_prepared slot x.member.array.geometry) (only.ran honest))

  goes_fit : {slot : ℕ} {answer : Result (Unit {0}) Refusal} {x y : Snapshot} → PreparesSlot slot answer x y → Goes x y
  goes_fit (mends.WasGone x y only gone) = goes_prepared only
  goes_fit (mends.WasSmall has needs mid x y looks small) = goes_looked looks
  goes_fit (mends.WasOther mid x y looks bears) = goes_looked looks
  goes_fit (mends.Prepared first second mid x y z looks fit later placed sees rules) =
      goes_on (goes_looked looks) later.honest (record {
        rises =
            let e = sees.drawn in
            omega (arith, e, le-max_left y.member.drawn (draw_in first), le-max_left (max y.member.drawn (draw_in first)) (draw_in second));
        fine = λ few honest. fine_placed (λ j k place. below_none k 2 _ place (omega arith)) (placed honest);
      })

  goes_replaced : {slot : ℕ} {answer : Result (Unit {0}) Refusal} {x y : Snapshot} → (does : Replaces slot answer x y) → Goes x y
  goes_replaced (mends.OutOf x past) = goes_same refl
  goes_replaced (mends.Busy x within busy) = goes_same refl
  goes_replaced (mends.Unprepared refusal x y free fit) = goes_fit fit
  goes_replaced (mends.Admitted answer x y z free fit joins) = goes_on (goes_fit fit) joins.establishes.honest (goes_established joins.establishes)

  goes_dropped : {j : ℕ} {refusal : Option FenceFault} {x y : Snapshot} → FencesSlot j refusal x y → Goes x y
  goes_dropped drops = goes_left drops.leaves

  goes_synced : {j : ℕ} {answer : Reply} {x y : Snapshot} → SyncsSlot j answer x y → Goes x y
  goes_synced syncs = goes_kept _ _ syncs.member (λ honest. fine_called tt (syncs.synced honest))

  goes_promoted : {j : ℕ} {answer : Result Progress Refusal} {x y : Snapshot} → (does : Promotes j answer x y) → Goes x y
  goes_promoted (mends.Unsynced refusal x y z syncs drops) = goes_on (goes_synced syncs) (left_honest _ _ _ _ drops.leaves) (goes_dropped drops)
  goes_promoted (mends.Joined answer x y z syncs joins) = goes_on (goes_synced syncs) joins.establishes.honest (goes_established joins.establishes)

  promoted_honest : {j : ℕ} {answer : Result Progress Refusal} {x y : Snapshot} → Promotes j answer x y → x.told.honest ≡ y.told.honest
  promoted_honest (mends.Unsynced refusal x y z syncs drops) = syncs.later.honest ∙ left_honest _ _ _ _ drops.leaves
  promoted_honest (mends.Joined answer x y z syncs joins) = syncs.later.honest ∙ joins.establishes.honest

  goes_chunk : {j t : ℕ} {into : Stripe} {answer : Reply} {x y : Snapshot} → WritesChunk j t into answer x y → Goes x y
  goes_chunk {into = into} {x = x} wrote =
      goes_kept _ _ wrote.member
      (λ honest. ran_weakened (fine_write _ _ (stage_behind x.member.array.geometry wrote.redo into stage.Placing)) (wrote.wrote honest).ran)

  goes_rebuilt : {was : ArrayState} {answer : Result Progress Refusal} {x y : Snapshot} → (does : Rebuilds was answer x y) → Goes x y
  goes_rebuilt (mends.NoneIs x none) = goes_same refl
  goes_rebuilt (mends.Unread j t into refusal x y next within loads) = goes_stripe loads
  goes_rebuilt (mends.FellLoading j t into x y next within loads fell) = goes_stripe loads
  goes_rebuilt (mends.Fell j t into refusal x y z w next within loads rebuilt wrote drops) =
      goes_on (goes_on (goes_stripe loads) wrote.later.honest (goes_chunk wrote)) (left_honest _ _ _ _ drops.leaves) (goes_dropped drops)
  goes_rebuilt (mends.Wrote j t into x y z next within loads rebuilt wrote) =
      goes_on (goes_stripe loads) wrote.later.honest (goes_chunk wrote)
  goes_rebuilt (mends.WroteLast j t into answer x y z w next within loads rebuilt wrote promotes) =
      goes_on (goes_on (goes_stripe loads) wrote.later.honest (goes_chunk wrote)) (promoted_honest promotes) (goes_promoted promotes)
  goes_rebuilt (mends.OnlyPromotes j t answer x y next at_end promotes) = goes_promoted promotes

  -- ---- a step

  pub goes_step : (step : Step) (was : ArrayState) (after : Option Remembered) (answer : Answer step) (x y : Snapshot) (does : Does step was after answer x y) → Goes x y
  goes_step Recover was after answer x y does = goes_opened does
  goes_step (ReadBlock b) was after answer x y does = goes_read does
  goes_step (WriteBlocks first contents) was after answer x y does = goes_written does
  goes_step (ScrubStripe t) was after answer x y does = goes_scrubbed does
  goes_step (ReplaceSlot j) was after answer x y does = goes_replaced does
  goes_step RebuildNext was after answer x y does = goes_rebuilt does
  goes_step (SetFrozen frozen) was after answer x y (mends.Stamped given a b stamps) = goes_established stamps.establishes
  goes_step (SetLabel label) was after answer x y (mends.Stamped given a b stamps) = goes_established stamps.establishes
  goes_step LookAtSeats was after answer x y does = goes_same does

pub stays_in_step : StepsAreBounded
stays_in_step step was after answer x y g most does honest few bounded =
    stays_bounded g most ((goes_step g most step was after answer x y does).fine few honest) bounded
