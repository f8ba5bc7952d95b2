-- The loop of `write`: what is so before each piece.
use Rattle.std.proofs.Common.{◌≡◌, ◌∙◌, ◌+◌, ◌-◌, ◌*◌, ◌/◌, ◌<◌, ◌≤◌, ℕ, zero, suc, List, [], ◌++◌, length, length-append, Ok, Err, Result, ap, ap₂, arith, refl, subst, sym}
use Rattle.std.specs.Prelude.{Bool}
use Rattle.std.proofs.lemmas.Bool.{le-ltb, lt-ltb}
use Rattle.stair_model.specs.Geometry.{Geometry, data_cells}
use Rattle.stair_model.specs.Stripe.{SECTOR}
use Rattle.stair_invariant.specs.Session.{ArrayState}
use Rattle.stair_array.specs.Arrays.{blocks_of, outcome}
use Rattle.stair_array.specs.Faults.{refusal_for}
use Rattle.stair_array.specs.Machine.{WriteBlocks}
use Rattle.stair_array.specs.Promise.{Opened}
use Rattle.stair_array.specs.declared.fault.ArrayFault.{ArrayFault}
use Rattle.stair_command.specs.declared.intake.Intake.{Intake}
use Rattle.stair_command.specs.declared.fault.Fault.{Fault}
use Rattle.stair_command.specs.declared.fault.Fault.TheVariants as fault
use Rattle.stair_status.specs.declared.status.Status.TheVariants.{Done, Input, InputFault, OutputFault}
use Rattle.stair_command.specs.Devices.{DeviceView, ExecutesWith, devices}
use Rattle.stair_command.specs.Fault.{status_of_fault}
use Rattle.stair_command.specs.Executes.{Gives, Holds}
use Rattle.stair_command.specs.Outside.{Views, outside}
use Rattle.stair_command.specs.Program.{Program, Over, Put, Take, take_step, if_so}
use Rattle.stair_command.specs.Refused.{status_of_refusal}
use Rattle.stair_command.specs.Steps.{Takes}
use Rattle.stair_command.specs.Trace.{AreEnough, HasPut, IsPart, PutFailed, Took, TookLast, TakeFailed}
use Rattle.stair_command.specs.Taking.{GoesOn, PieceIsCut}
use Rattle.stair_command.proofs.DeviceLaws.{with_none, with_one, with_part, with_put, with_refusal, with_step, with_then}
use Rattle.stair_command.proofs.IntakeLaws.{are_all}
use Rattle.stair_command.proofs.TakenLaws.{taken_geometry}
use Rattle.stair_watch.specs.WatcherList.{AllStay}
use Rattle.stair_command.specs.Pieces.{Held, TakesPiece, part_of, piece_blocks, whole_of}
use Rattle.stair_command.specs.Transfers.{writes, wrote, wrote_line}
use Rattle.stair_command.proofs.TurnLaws.{all_within, few_whole, part_long, part_short, some_whole, whole_long}

-- after the bytes of a piece
abbrev pub write_on : Geometry → (first all turns done : ℕ) → (have : List ℕ) → Program
write_on g first all turns done have =
    take_step g.n (WriteBlocks (first + done) (blocks_of (whole_of have))) (λ ok. writes g first all turns (done + length have / SECTOR) (part_of have))

-- one turn more
abbrev pub turn : Geometry → (first all turns done : ℕ) → (held : List ℕ) → Program
turn g first all turns done held =
    Take (SECTOR - length held) (SECTOR * piece_blocks g (first + done) (all - done) - length held)
    (λ bytes. write_on g first all turns done (held ++ bytes)) (λ bytes. Over (Input (SECTOR * all) (SECTOR * done + length (held ++ bytes))))

pub writes_next : (g : Geometry) (first all turns done : ℕ) (held : List ℕ) → done < all
    → writes g first all (suc turns) done held ≡ turn g first all turns done held
writes_next g first all turns done held left =
    ap (λ (is : Bool). if_so is (turn g first all turns done held) (wrote all)) (lt-ltb done all left)

pub writes_done : (g : Geometry) (first all turns done : ℕ) (held : List ℕ) → all ≤ done → writes g first all turns done held ≡ wrote all
writes_done g first all zero done held past = refl
writes_done g first all (suc turns) done held past =
    ap (λ (is : Bool). if_so is (turn g first all turns done held) (wrote all)) (le-ltb done all past)

-- the bytes that were counted
abbrev counted : (all done : ℕ) → List ℕ → Intake
counted all done held = record { needed = SECTOR * all; took = SECTOR * done + length held }

module _ {R W S K : Type 0} (view : DeviceView R W) (streams : Views S K) (g : Geometry) (first all : ℕ) (rack : R) (array : ArrayState)
    (watchers : List W) (source : S) (sink : K) where
  abbrev Comes : R → ArrayState → List W → S → K → Program → Type 0
  Comes r last ws s k program = (counter : ℕ) → ExecutesWith view streams (writes g first all all 0 []) program (outside source sink counter)
      (outside s k counter) (devices rack (Opened array) watchers) (devices r (Opened last) ws)

  -- So many blocks were written.
  pub record WroteSoFar (done : ℕ) (now : R) (is : ArrayState) (left : List W) (rest : S) (held : Held) (intake : Intake) : Type 0 where
    pub below : done ≤ all
    pub geometry : is.member.array.geometry ≡ g
    pub room : data_cells g * SECTOR ≤ held.room
    pub part : length held.bytes < SECTOR
    pub within : SECTOR * done + length held.bytes ≤ SECTOR * all
    pub count : intake ≡ counted all done held.bytes
    pub stay : AllStay view.watcher left
    pub turns : ℕ
    pub enough : all ≤ done + turns
    pub means : Comes now is left rest sink (writes g first all turns done held.bytes)

  pub none_written : (held : Held) (intake : Intake) → array.member.array.geometry ≡ g → data_cells g * SECTOR ≤ held.room → held.bytes ≡ []
      → intake ≡ record { needed = SECTOR * all; took = 0 } → AllStay view.watcher watchers → WroteSoFar 0 rack array watchers source held intake
  none_written held intake same room empty fresh stay = record {
    below = omega arith;
    geometry = same;
    room = room;
    part = omega (arith, ap length empty);
    within = omega (arith, ap length empty);
    count = fresh ∙ ap (λ (n : ℕ). let i : Intake = record { needed = SECTOR * all; took = n } in i) (omega (arith, ap length empty));
    stay = stay;
    turns = all;
    enough = omega arith;
    means = λ counter.
        subst (λ (bytes : List ℕ). ExecutesWith view streams (writes g first all all 0 []) (writes g first all all 0 bytes) (outside source sink counter)
        (outside source sink counter) (devices rack (Opened array) watchers) (devices rack (Opened array) watchers)) (sym empty)
        (with_none view streams (writes g first all all 0 []) (outside source sink counter) (devices rack (Opened array) watchers));
  }

  module _ (done : ℕ) (now : R) (is : ArrayState) (left : List W) (rest : S) (held : Held) (intake : Intake)
      (so_far : WroteSoFar done now is left rest held intake) (below : done < all) where
    fuel : (turns : ℕ) → all ≤ done + turns → (less : ℕ) × (turns ≡ suc less)
    fuel zero enough = absurd (omega (arith, enough, below))
    fuel (suc less) enough = (less, refl)

    abbrev less : ℕ
    less = (fuel so_far.turns so_far.enough).0

    -- before the piece
    at_turn : Comes now is left rest sink (turn g first all less done held.bytes)
    at_turn counter =
        subst (λ (program : Program). ExecutesWith view streams (writes g first all all 0 []) program (outside source sink counter) (outside rest sink counter)
        (devices rack (Opened array) watchers) (devices now (Opened is) left))
        (ap (λ (turns : ℕ). writes g first all turns done held.bytes) (fuel so_far.turns so_far.enough).1 ∙ writes_next g first all less done held.bytes below)
        (so_far.means counter)

    -- it came in part, or not
    pub piece_cut : (why : Fault) (later : S) → PieceIsCut streams.source (SECTOR - length held.bytes) intake rest later why
        → Comes now is left later sink (Over (status_of_fault why))
    piece_cut (fault.Length needed took) later cut counter =
        let bytes = cut.1.0 in
        let needs : needed ≡ SECTOR * all = cut.0 ∙ ap (λ (i : Intake). i.needed) so_far.count in
        let takes : took ≡ SECTOR * done + length (held.bytes ++ bytes) =
        omega (arith, cut.1.1, ap (λ (i : Intake). i.took) so_far.count, length-append held.bytes bytes) in
        subst (λ (program : Program). ExecutesWith view streams (writes g first all all 0 []) program (outside source sink counter) (outside later sink counter)
        (devices rack (Opened array) watchers) (devices now (Opened is) left)) (λ i. Over (Input (sym needs i) (sym takes i)))
        (with_then view streams (at_turn counter)
        (with_one view streams (TookLast bytes) (turn g first all less done held.bytes) (Over (Input (SECTOR * all) (SECTOR * done + length (held.bytes ++ bytes))))
        (outside rest sink counter) (outside later sink counter) (devices now (Opened is) left) (devices now (Opened is) left) (cut.1.2, refl) cut.1.3 refl refl
        refl))
    piece_cut fault.Input later cut counter =
        with_then view streams (at_turn counter)
        (with_one view streams (TakeFailed cut.0) (turn g first all less done held.bytes) (Over InputFault) (outside rest sink counter)
        (outside later sink counter) (devices now (Opened is) left) (devices now (Opened is) left) (cut.1, refl) cut.2 refl refl refl)
    piece_cut _ later cut counter = absurd cut

    module _ (later : S) (came : Held) (counts : Intake) (blocks : ℕ) (same_blocks : blocks ≡ piece_blocks g (first + done) (all - done))
        (takes : TakesPiece streams.source blocks held came intake counts rest later) where
      -- it came
      at_step : Comes now is left later sink (write_on g first all less done came.bytes)
      at_step counter =
          let bytes_are : came.bytes ≡ held.bytes ++ takes.bytes = ap (λ (h : Held). h.bytes) takes.held in
          subst (λ (bytes : List ℕ). ExecutesWith view streams (writes g first all all 0 []) (write_on g first all less done bytes) (outside source sink counter)
          (outside later sink counter) (devices rack (Opened array) watchers) (devices now (Opened is) left)) (sym bytes_are)
          (with_then view streams (at_turn counter)
          (with_one view streams (Took takes.bytes) (turn g first all less done held.bytes) (write_on g first all less done (held.bytes ++ takes.bytes))
          (outside rest sink counter) (outside later sink counter) (devices now (Opened is) left) (devices now (Opened is) left)
          (subst (λ (most : ℕ). AreEnough (SECTOR - length held.bytes) (SECTOR * most - length held.bytes) takes.bytes) same_blocks takes.enough, refl) takes.gives
          refl refl refl))

      module _ (next : R) (after : ArrayState) (ends : List W) (whole : List ℕ) (same_whole : whole ≡ whole_of came.bytes)
          (result : Result (Unit {0}) ArrayFault)
          (took : Takes view (WriteBlocks (first + done) (blocks_of whole)) (outcome result) (devices now (Opened is) left) (devices next (Opened after) ends))
        where
          took_whole : Takes view (WriteBlocks (first + done) (blocks_of (whole_of came.bytes))) (outcome result) (devices now (Opened is) left)
              (devices next (Opened after) ends)
          took_whole =
              subst (λ (bytes : List ℕ). Takes view (WriteBlocks (first + done) (blocks_of bytes)) (outcome result) (devices now (Opened is) left)
              (devices next (Opened after) ends)) same_whole took

          -- its blocks were refused
          pub write_refused : (why : ArrayFault) (slots : ℕ) → result ≡ Err why → slots ≡ g.n
              → Comes next after ends later sink (Over (status_of_refusal slots (refusal_for why)))
          write_refused why slots err same counter =
              with_then view streams (at_step counter)
              (subst (λ (n : ℕ). ExecutesWith view streams (write_on g first all less done came.bytes) (Over (status_of_refusal n (refusal_for why)))
              (outside later sink counter) (outside later sink counter) (devices now (Opened is) left) (devices next (Opened after) ends)) (sym same)
              (with_refusal view streams g.n (WriteBlocks (first + done) (blocks_of (whole_of came.bytes))) (refusal_for why)
              (λ ok. writes g first all less (done + length came.bytes / SECTOR) (part_of came.bytes)) (outside later sink counter) _ _
              (subst (λ (r : Result (Unit {0}) ArrayFault). Takes view (WriteBlocks (first + done) (blocks_of (whole_of came.bytes))) (outcome r)
              (devices now (Opened is) left) (devices next (Opened after) ends)) err took_whole)))

          -- or written
          pub one_written : (more : ℕ) (part : Held) → result ≡ Ok tt → more ≡ length whole / SECTOR → part ≡ record came { bytes = part_of came.bytes }
              → AllStay view.watcher ends → 0 < blocks → blocks ≤ all - done → WroteSoFar (done + more) next after ends later part counts
          one_written more part ok is_more is_part stay some few =
              let bytes_are : came.bytes ≡ held.bytes ++ takes.bytes = ap (λ (h : Held). h.bytes) takes.held in
              let some_came = some_whole blocks held.bytes takes.bytes so_far.part some takes.enough in
              let few_came = few_whole blocks held.bytes takes.bytes so_far.part some takes.enough in
              let count : more ≡ length came.bytes / SECTOR = omega (arith, is_more, ap length same_whole, whole_long came.bytes) in
              let left_over : part.bytes ≡ part_of came.bytes = ap (λ (h : Held). h.bytes) is_part in
              record {
                below = omega (arith, below, few, few_came, count, ap (λ (b : List ℕ). length b / SECTOR) bytes_are);
                geometry = taken_geometry view (WriteBlocks (first + done) (blocks_of whole)) (outcome result) _ _ is.member after.member took refl refl ∙ so_far.geometry;
                room = omega (arith, so_far.room, ap (λ (h : Held). h.room) is_part, ap (λ (h : Held). h.room) takes.held);
                part = omega (arith, ap length left_over, part_short came.bytes);
                within = omega (
                  arith,
                  ap length left_over,
                  part_long came.bytes,
                  count,
                  ap length bytes_are,
                  all_within blocks held.bytes takes.bytes so_far.part some takes.enough,
                  few,
                );
                count = takes.counted
                    ∙ ap₂ (λ (needed took : ℕ). let i : Intake = record { needed = needed; took = took } in i) (ap (λ (i : Intake). i.needed) so_far.count)
                    (omega (
                      arith,
                      ap (λ (i : Intake). i.took) so_far.count,
                      ap length bytes_are,
                      length-append held.bytes takes.bytes,
                      part_long came.bytes,
                      count,
                      ap length left_over,
                    ));
                stay = stay;
                turns = less;
                enough = omega (arith, so_far.enough, (fuel so_far.turns so_far.enough).1, some_came, count, ap (λ (b : List ℕ). length b / SECTOR) bytes_are);
                means = λ counter.
                    subst (λ (n : ℕ). ExecutesWith view streams (writes g first all all 0 []) (writes g first all less (done + n) part.bytes) (outside source sink counter)
                    (outside later sink counter) (devices rack (Opened array) watchers) (devices next (Opened after) ends)) (sym count)
                    (subst (λ (bytes : List ℕ). ExecutesWith view streams (writes g first all all 0 []) (writes g first all less (done + length came.bytes / SECTOR) bytes)
                    (outside source sink counter) (outside later sink counter) (devices rack (Opened array) watchers) (devices next (Opened after) ends)) (sym left_over)
                    (with_then view streams (at_step counter)
                    (with_step view streams g.n (WriteBlocks (first + done) (blocks_of (whole_of came.bytes))) tt
                    (λ ok. writes g first all less (done + length came.bytes / SECTOR) (part_of came.bytes)) (outside later sink counter) _ _
                    (subst (λ (r : Result (Unit {0}) ArrayFault). Takes view (WriteBlocks (first + done) (blocks_of (whole_of came.bytes))) (outcome r)
                    (devices now (Opened is) left) (devices next (Opened after) ends)) ok took_whole))));
              }

  module _ (done : ℕ) (now : R) (is : ArrayState) (left : List W) (rest : S) (held : Held) (intake : Intake)
      (so_far : WroteSoFar done now is left rest held intake) (past : all ≤ done) where
    at_end : Comes now is left rest sink (wrote all)
    at_end counter =
        subst (λ (program : Program). ExecutesWith view streams (writes g first all all 0 []) program (outside source sink counter) (outside rest sink counter)
        (devices rack (Opened array) watchers) (devices now (Opened is) left)) (writes_done g first all so_far.turns done held.bytes past) (so_far.means counter)

    -- the end wasn't seen after the last block
    pub no_end : (why : Fault) (looked : ℕ) (later : S) → looked ≡ SECTOR * all → GoesOn streams.source looked rest later why
        → Comes now is left later sink (Over (status_of_fault why))
    no_end (fault.Length needed took) looked later same more counter =
        subst (λ (program : Program). ExecutesWith view streams (writes g first all all 0 []) program (outside source sink counter) (outside later sink counter)
        (devices rack (Opened array) watchers) (devices now (Opened is) left))
        (ap₂ (λ (n t : ℕ). Over (Input n t)) (sym (more.0 ∙ same)) (sym (more.1 ∙ ap (λ (n : ℕ). n + 1) same)))
        (with_then view streams (at_end counter)
        (with_one view streams (Took more.2.0) (wrote all) (Over (Input (SECTOR * all) (SECTOR * all + 1))) (outside rest sink counter)
        (outside later sink counter) (devices now (Opened is) left) (devices now (Opened is) left) (are_all 1 more.2.0 more.2.1, refl) more.2.2 refl refl refl))
    no_end fault.Input looked later same more counter =
        with_then view streams (at_end counter)
        (with_one view streams (TakeFailed []) (wrote all) (Over InputFault) (outside rest sink counter) (outside later sink counter)
        (devices now (Opened is) left) (devices now (Opened is) left) (omega arith, refl) more refl refl refl)
    no_end _ looked later same more counter = absurd more

    module _ (later : S) (ended : Gives streams.source (TookLast []) rest later) where
      at_line : Comes now is left later sink (Put (wrote_line all) (Over Done))
      at_line counter =
          with_then view streams (at_end counter)
          (with_one view streams (TookLast []) (wrote all) (Put (wrote_line all) (Over Done)) (outside rest sink counter) (outside later sink counter)
          (devices now (Opened is) left) (devices now (Opened is) left) (omega arith, refl) ended refl refl refl)

      -- the line was put out
      pub line_put : (put : K) (line : List ℕ) → line ≡ wrote_line all → Holds streams.sink (HasPut line) sink put
          → Comes now is left later put (Over Done)
      line_put put line same holds counter =
          with_then view streams (at_line counter)
          (with_put view streams (wrote_line all) (Over Done) later sink put counter (devices now (Opened is) left)
          (subst (λ (bytes : List ℕ). Holds streams.sink (HasPut bytes) sink put) same holds))

      -- or in part
      pub line_cut : (put : K) (line part : List ℕ) → line ≡ wrote_line all → IsPart part line → Holds streams.sink (PutFailed part) sink put
          → Comes now is left later put (Over OutputFault)
      line_cut put line part same of holds counter =
          with_then view streams (at_line counter)
          (with_part view streams (wrote_line all) part (Over Done) later sink put counter (devices now (Opened is) left)
          (subst (λ (bytes : List ℕ). IsPart part bytes) same of) holds)
