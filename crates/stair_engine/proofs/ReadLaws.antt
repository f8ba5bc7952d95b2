-- The loop of `read`: what is so before each block.
use Rattle.std.proofs.Common.{◌≡◌, ◌∙◌, ◌+◌, ◌-◌, ◌<◌, ◌≤◌, ℕ, suc, List, Ok, Err, Result, ap, arith, refl, subst, sym}
use Rattle.stair_model.specs.Geometry.{Geometry}
use Rattle.stair_invariant.specs.Session.{ArrayState}
use Rattle.stair_array.specs.Arrays.{answer_as}
use Rattle.stair_array.specs.Faults.{refusal_for}
use Rattle.stair_array.specs.Machine.{ReadBlock}
use Rattle.stair_array.specs.Promise.{Opened}
use Rattle.stair_array.specs.declared.fault.ArrayFault.{ArrayFault}
use Rattle.stair_command.specs.Devices.{DeviceView, ExecutesWith, devices}
use Rattle.stair_command.specs.Executes.{Holds}
use Rattle.stair_command.specs.Outside.{Views, outside}
use Rattle.stair_command.specs.Program.{Program, Over, Put, take_step}
use Rattle.stair_command.specs.Refused.{status_of_refusal}
use Rattle.stair_command.specs.Steps.{Takes}
use Rattle.stair_command.specs.Trace.{HasPut, IsPart, PutFailed}
use Rattle.stair_status.specs.declared.status.Status.TheVariants.{Done, OutputFault}
use Rattle.stair_command.proofs.DeviceLaws.{with_none, with_part, with_put, with_refusal, with_step, with_then}
use Rattle.stair_command.proofs.TakenLaws.{taken_geometry}
use Rattle.stair_watch.specs.WatcherList.{AllStay}
use Rattle.stair_command.specs.Transfers.{reads}

-- after the bytes of a block
abbrev read_on : Geometry → ℕ → ℕ → List ℕ → Program
read_on g first count bytes = Put bytes (reads g first count)

-- one block more
reads_next : (g : Geometry) (first blocks done : ℕ) → done < blocks
    → reads g (first + done) (blocks - done) ≡ take_step g.n (ReadBlock (first + done)) (read_on g (first + (done + 1)) (blocks - (done + 1)))
reads_next g first blocks done below =
    let more : blocks - done ≡ suc (blocks - (done + 1)) = omega (arith, below) in
    let later : first + done + 1 ≡ first + (done + 1) = omega arith in
    ap (reads g (first + done)) more ∙ ap (λ (b : ℕ). take_step g.n (ReadBlock (first + done)) (read_on g b (blocks - (done + 1)))) later

module _ {R W K : Type 0} (view : DeviceView R W) (streams : Views (Unit {0}) K) where
  -- So many blocks were put out.
  pub record ReadSoFar (g : Geometry) (first blocks done : ℕ) (rack : R) (array : ArrayState) (watchers : List W) (sink : K)
      (now : R) (open_now : ArrayState) (left : List W) (held : K) : Type 0 where
    pub geometry : open_now.member.array.geometry ≡ g
    pub stay : AllStay view.watcher left
    pub means : (counter : ℕ) → ExecutesWith view streams (reads g first blocks) (reads g (first + done) (blocks - done)) (outside tt sink counter)
        (outside tt held counter) (devices rack (Opened array) watchers) (devices now (Opened open_now) left)

  pub none_read : (g : Geometry) (first blocks : ℕ) (rack : R) (array : ArrayState) (watchers : List W) (sink : K) → array.member.array.geometry ≡ g
      → AllStay view.watcher watchers → ReadSoFar g first blocks 0 rack array watchers sink rack array watchers sink
  none_read g first blocks rack array watchers sink same stay = record {
    geometry = same;
    stay = stay;
    means = λ counter.
        let from : first ≡ first + 0 = omega arith in
        let many : blocks ≡ blocks - 0 = omega arith in
        subst (λ (rest : Program). ExecutesWith view streams (reads g first blocks) rest (outside tt sink counter) (outside tt sink counter) (devices rack (Opened array) watchers) (devices rack (Opened array) watchers))
        (λ i. reads g (from i) (many i)) (with_none view streams (reads g first blocks) (outside tt sink counter) (devices rack (Opened array) watchers));
  }

  module _ (g : Geometry) (first blocks done : ℕ) (rack now next : R) (array is after : ArrayState) (watchers left rest : List W) (sink held later : K)
      (so_far : ReadSoFar g first blocks done rack array watchers sink now is left held) (below : done < blocks) where
    abbrev Comes : ArrayState → R → List W → K → Program → Type 0
    Comes last r ws k program = (counter : ℕ) → ExecutesWith view streams (reads g first blocks) program (outside tt sink counter) (outside tt k counter)
        (devices rack (Opened array) watchers) (devices r (Opened last) ws)

    done_of : (bytes : List ℕ) (result : Result (Unit {0}) ArrayFault) → result ≡ Ok tt
        → Takes view (ReadBlock (first + done)) (answer_as bytes result) (devices now (Opened is) left) (devices next (Opened after) rest)
        → Takes view (ReadBlock (first + done)) (Ok bytes) (devices now (Opened is) left) (devices next (Opened after) rest)
    done_of bytes result ok =
        subst (λ (r : Result (Unit {0}) ArrayFault). Takes view (ReadBlock (first + done)) (answer_as bytes r) (devices now (Opened is) left) (devices next (Opened after) rest)) ok

    -- the next block was read
    was_read : (bytes : List ℕ) → Takes view (ReadBlock (first + done)) (Ok bytes) (devices now (Opened is) left) (devices next (Opened after) rest)
        → Comes after next rest held (read_on g (first + (done + 1)) (blocks - (done + 1)) bytes)
    was_read bytes takes counter =
        with_then view streams (so_far.means counter)
        (subst (λ (program : Program). ExecutesWith view streams program (read_on g (first + (done + 1)) (blocks - (done + 1)) bytes) (outside tt held counter) (outside tt held counter)
        (devices now (Opened is) left) (devices next (Opened after) rest)) (sym (reads_next g first blocks done below))
        (with_step view streams g.n (ReadBlock (first + done)) bytes (read_on g (first + (done + 1)) (blocks - (done + 1))) (outside tt held counter) _ _ takes))

    -- and put out
    pub one_read : (bytes : List ℕ) (result : Result (Unit {0}) ArrayFault) → result ≡ Ok tt
        → Takes view (ReadBlock (first + done)) (answer_as bytes result) (devices now (Opened is) left) (devices next (Opened after) rest)
        → Holds streams.sink (HasPut bytes) held later → AllStay view.watcher rest
        → ReadSoFar g first blocks (done + 1) rack array watchers sink next after rest later
    one_read bytes result ok takes holds stay = record {
      geometry = taken_geometry view (ReadBlock (first + done)) (answer_as bytes result) _ _ is.member after.member takes refl refl ∙ so_far.geometry;
      stay = stay;
      means = λ counter. with_then view streams (was_read bytes (done_of bytes result ok takes) counter)
          (with_put view streams bytes (reads g (first + (done + 1)) (blocks - (done + 1))) tt held later counter _ holds);
    }

    -- or in part
    pub read_cut : (bytes part : List ℕ) (result : Result (Unit {0}) ArrayFault) → result ≡ Ok tt
        → Takes view (ReadBlock (first + done)) (answer_as bytes result) (devices now (Opened is) left) (devices next (Opened after) rest)
        → IsPart part bytes → Holds streams.sink (PutFailed part) held later → Comes after next rest later (Over OutputFault)
    read_cut bytes part result ok takes of holds counter =
        with_then view streams (was_read bytes (done_of bytes result ok takes) counter)
        (with_part view streams bytes part (reads g (first + (done + 1)) (blocks - (done + 1))) tt held later counter _ of holds)

    -- or refused
    pub read_refused : (bytes : List ℕ) (result : Result (Unit {0}) ArrayFault) (fault : ArrayFault) (slots : ℕ) → result ≡ Err fault → slots ≡ g.n
        → Takes view (ReadBlock (first + done)) (answer_as bytes result) (devices now (Opened is) left) (devices next (Opened after) rest)
        → Comes after next rest held (Over (status_of_refusal slots (refusal_for fault)))
    read_refused bytes result fault slots err same takes counter =
        with_then view streams (so_far.means counter)
        (subst (λ (program : Program). ExecutesWith view streams program (Over (status_of_refusal slots (refusal_for fault))) (outside tt held counter) (outside tt held counter)
        (devices now (Opened is) left) (devices next (Opened after) rest)) (sym (reads_next g first blocks done below))
        (subst (λ (n : ℕ). ExecutesWith view streams (take_step g.n (ReadBlock (first + done)) (read_on g (first + (done + 1)) (blocks - (done + 1))))
        (Over (status_of_refusal n (refusal_for fault))) (outside tt held counter) (outside tt held counter) (devices now (Opened is) left) (devices next (Opened after) rest))
        (sym same)
        (with_refusal view streams g.n (ReadBlock (first + done)) (refusal_for fault) (read_on g (first + (done + 1)) (blocks - (done + 1))) (outside tt held counter) _ _
        (subst (λ (r : Result (Unit {0}) ArrayFault). Takes view (ReadBlock (first + done)) (answer_as bytes r) (devices now (Opened is) left) (devices next (Opened after) rest)) err takes))))

  -- all were
  pub all_read : (g : Geometry) (first blocks done : ℕ) (rack now : R) (array is : ArrayState) (watchers left : List W) (sink held : K)
      → ReadSoFar g first blocks done rack array watchers sink now is left held → blocks ≤ done
      → (counter : ℕ) → ExecutesWith view streams (reads g first blocks) (Over Done) (outside tt sink counter) (outside tt held counter)
      (devices rack (Opened array) watchers) (devices now (Opened is) left)
  all_read g first blocks done rack now array is watchers left sink held so_far past counter =
      let none : blocks - done ≡ 0 = omega (arith, past) in
      subst (λ (count : ℕ). ExecutesWith view streams (reads g first blocks) (reads g (first + done) count) (outside tt sink counter) (outside tt held counter)
      (devices rack (Opened array) watchers) (devices now (Opened is) left)) none (so_far.means counter)
