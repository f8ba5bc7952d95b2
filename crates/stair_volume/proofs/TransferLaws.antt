-- The loop of `put_blocks`: what is so before each block.
use Rattle.std.proofs.Common.{◌≡◌, ◌∙◌, ◌+◌, ◌-◌, ◌<◌, ◌≤◌, ℕ, suc, List, Ok, Result, ap, ap₂, arith}
use Rattle.stair_model.specs.Geometry.{Geometry}
use Rattle.stair_array.specs.Arrays.{answer_as}
use Rattle.stair_array.specs.Machine.{ReadBlock}
use Rattle.stair_array.specs.declared.fault.ArrayFault.{ArrayFault}
use Rattle.stair_command.specs.Devices.{DeviceView, Devices}
use Rattle.stair_command.specs.Outside.{Views}
use Rattle.stair_command.specs.Program.{Program, Over, Put, take_step}
use Rattle.stair_command.specs.Steps.{Takes}
use Rattle.stair_command.specs.Talks.{PutsTo}
use Rattle.stair_command.specs.Transfers.{reads}
use Rattle.stair_status.specs.declared.status.Status.TheVariants.{Done}
use Rattle.stair_watch.specs.WatcherList.{AllStay}
use Rattle.stair_volume.specs.Parts.{after_steps}
use Rattle.stair_volume.proofs.CommandLaws.{Did, did_come, did_none, did_put, did_so}
use Rattle.stair_volume.proofs.StepLaws.{HasGeometry, IsOpen, comes_read, geometry_stays}

-- ---- blocks are put out

-- after the bytes of a block
abbrev pub read_on : Geometry → (first count : ℕ) → List ℕ → Program
read_on g first count bytes = Put bytes (reads g first count)

-- one block more
reads_next : (g : Geometry) (first all done : ℕ) → done < all
    → reads g (first + done) (all - done) ≡ take_step g.n (ReadBlock (first + done)) (read_on g (first + (done + 1)) (all - (done + 1)))
reads_next g first all done below =
    let more : all - done ≡ suc (all - (done + 1)) = omega (arith, below) in
    let later : first + done + 1 ≡ first + (done + 1) = omega arith in
    ap (reads g (first + done)) more ∙ ap (λ (b : ℕ). take_step g.n (ReadBlock (first + done)) (read_on g b (all - (done + 1)))) later

-- So many were.
pub record PutSoFar {R W S K : Type 0} (view : DeviceView R W) (streams : Views S K) (g : Geometry) (first all : ℕ) (from : S) (empty : K) (start : Devices R W)
    (done : ℕ) (sink : K) (x : Devices R W) : Type 0 where
  pub geometry : HasGeometry g x.session
  pub stay : AllStay view.watcher x.watchers
  pub did : Did view streams (reads g first all) from empty start (reads g (first + done) (all - done)) from sink x

-- none was yet
pub none_put : {R W S K : Type 0} (view : DeviceView R W) (streams : Views S K) (g : Geometry) (first all : ℕ) (from : S) (empty : K) (start : Devices R W)
    → HasGeometry g start.session → AllStay view.watcher start.watchers → PutSoFar view streams g first all from empty start 0 empty start
none_put view streams g first all from empty start same stay = record {
  geometry = same;
  stay = stay;
  did = let block : first ≡ first + 0 = omega arith in
      let left : all ≡ all - 0 = omega arith in
      did_so view streams (reads g first all) from empty start from empty start (ap₂ (λ (b n : ℕ). reads g b n) block left)
      (did_none view streams (reads g first all) from empty start);
}

module _ {R W S K : Type 0} {view : DeviceView R W} {streams : Views S K} {g : Geometry} {first all : ℕ} {from : S} {empty : K} {start : Devices R W}
    {done : ℕ} {sink : K} {x : Devices R W} (so_far : PutSoFar view streams g first all from empty start done sink x) where
  -- all were
  pub all_put : all ≤ done → Did view streams (reads g first all) from empty start (Over Done) from sink x
  all_put past =
      let none : all - done ≡ 0 = omega (arith, past) in
      did_so view streams (reads g first all) from empty start from sink x (ap (reads g (first + done)) none) so_far.did

  module _ (below : done < all) (bytes : List ℕ) (result : Result (Unit {0}) ArrayFault) {y : Devices R W}
      (takes : Takes view (ReadBlock (first + done)) (answer_as bytes result) x y) where
    -- the next one was read, or not
    pub next_read : Did view streams (reads g first all) from empty start (after_steps g.n result (read_on g (first + (done + 1)) (all - (done + 1)) bytes)) from sink y
    next_read =
        did_come view streams (reads g first all) from empty start from sink
        (did_so view streams (reads g first all) from empty start from sink x (reads_next g first all done below) so_far.did)
        (comes_read view g.n (first + done) bytes result (read_on g (first + (done + 1)) (all - (done + 1))) takes)

    module _ {ok : Unit {0}} (read : result ≡ Ok ok) {l : K} (rest : Program → Program)
        (puts : (later : Program) → PutsTo streams.sink (Put bytes later) (rest later) sink l) where
      -- and put out, or not
      pub next_put : Did view streams (reads g first all) from empty start (rest (reads g (first + (done + 1)) (all - (done + 1)))) from l y
      next_put =
          did_put view streams (reads g first all) from empty start from y
          (did_so view streams (reads g first all) from empty start from sink y
          (ap (λ (r : Result (Unit {0}) ArrayFault). after_steps g.n r (read_on g (first + (done + 1)) (all - (done + 1)) bytes)) read) next_read)
          (puts (reads g (first + (done + 1)) (all - (done + 1))))

    pub one_put : {ok : Unit {0}} → result ≡ Ok ok → {l : K} → ((later : Program) → PutsTo streams.sink (Put bytes later) later sink l)
        → IsOpen y.session → AllStay view.watcher y.watchers → PutSoFar view streams g first all from empty start (done + 1) l y
    one_put read puts opened stay = record {
      geometry = geometry_stays view (ReadBlock (first + done)) (answer_as bytes result) takes opened g so_far.geometry;
      stay = stay;
      did = next_put read (λ later. later) puts;
    }
