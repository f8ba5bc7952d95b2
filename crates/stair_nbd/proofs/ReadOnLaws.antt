-- The loop of `read_blocks`: what holds before each block.
use Rattle.std.proofs.Common.{◌≡◌, ◌∙◌, ◌+◌, ◌-◌, ◌*◌, ◌<◌, ◌≤◌, ℕ, suc, List, [], ◌++◌, length, take, Ok, Err, Result, ap, arith, subst, sym}
use Rattle.std.proofs.lemmas.List.{take_all}
use Rattle.std.proofs.lemmas.Slice.{take-put_mid}
use borrow.Rule.Slice.PartMut.{put_mid}
use Rattle.stair_model.specs.Geometry.{Geometry}
use Rattle.stair_model.specs.Stripe.{SECTOR}
use Rattle.stair_array.specs.Arrays.{answer_as}
use Rattle.stair_array.specs.Machine.{ReadBlock}
use Rattle.stair_array.specs.declared.fault.ArrayFault.{ArrayFault}
use Rattle.stair_command.specs.Comes.{ExecutesOnDevices}
use Rattle.stair_command.specs.Devices.{DeviceView, Devices}
use Rattle.stair_command.specs.Program.{Program}
use Rattle.stair_command.specs.Steps.{Takes}
use Rattle.stair_command.proofs.ComesLaws.{comes_none, comes_then}
use Rattle.stair_watch.specs.WatcherList.{AllStay}
use Rattle.stair_nbd.specs.Client.{reads_on, tries}
use Rattle.stair_nbd.proofs.TriedLaws.{HasGeometry, IsOpen, comes_read, comes_unread, geometry_stays}

-- one block more
reads_next : (first count done : ℕ) (so_far : List ℕ) (refused : Program) (k : List ℕ → Program) → done < count
    → reads_on (first + done) (count - done) so_far refused k
    ≡ tries (ReadBlock (first + done)) refused (λ bytes. reads_on (first + (done + 1)) (count - (done + 1)) (so_far ++ bytes) refused k)
reads_next first count done so_far refused k below =
    let more : count - done ≡ suc (count - (done + 1)) = omega (arith, below) in
    let later : first + done + 1 ≡ first + (done + 1) = omega arith in
    ap (λ (n : ℕ). reads_on (first + done) n so_far refused k) more
    ∙ ap (λ (b : ℕ). tries (ReadBlock (first + done)) refused (λ bytes. reads_on b (count - (done + 1)) (so_far ++ bytes) refused k)) later

module _ {R W : Type 0} (view : DeviceView R W) (first count : ℕ) (x : Devices R W) where
  -- from the first block on to this program
  abbrev Comes : Devices R W → (Program → (List ℕ → Program) → Program) → Type 0
  Comes y rest = (refused : Program) (k : List ℕ → Program) → ExecutesOnDevices view (reads_on first count [] refused k) (rest refused k) x y

  -- So many blocks were read.
  pub record ReadSoFar (done : ℕ) (into : List ℕ) (y : Devices R W) : Type 0 where
    pub geometry : (g : Geometry) → HasGeometry g x.session → HasGeometry g y.session
    pub stay : AllStay view.watcher y.watchers
    pub comes : Comes y (reads_on (first + done) (count - done) (take (SECTOR * done) into))

  -- none was yet
  pub none_read : (into : List ℕ) → AllStay view.watcher x.watchers → ReadSoFar 0 into x
  none_read into stay = record {
    geometry = λ g has. has;
    stay = stay;
    comes = λ refused k.
        let from : first ≡ first + 0 = omega arith in
        let many : count ≡ count - 0 = omega arith in
        subst (λ (rest : Program). ExecutesOnDevices view (reads_on first count [] refused k) rest x x) (λ i. reads_on (from i) (many i) [] refused k)
        (comes_none view (reads_on first count [] refused k) x);
  }

  module _ (done : ℕ) (into : List ℕ) (y z : Devices R W) (so_far : ReadSoFar done into y) (below : done < count) (bytes : List ℕ)
      (result : Result (Unit {0}) ArrayFault) (takes : Takes view (ReadBlock (first + done)) (answer_as bytes result) y z) (opened : IsOpen z.session) where
    -- the geometry stays over the next
    pub read_geometry : (g : Geometry) → HasGeometry g x.session → HasGeometry g z.session
    read_geometry g has = geometry_stays view y z (ReadBlock (first + done)) (answer_as bytes result) takes opened g (so_far.geometry g has)

    -- the program after the next block
    abbrev behind : Program → (List ℕ → Program) → List ℕ → Program
    behind refused k bytes = reads_on (first + (done + 1)) (count - (done + 1)) (take (SECTOR * done) into ++ bytes) refused k

    -- before it
    at_next : Comes y (λ refused k. tries (ReadBlock (first + done)) refused (behind refused k))
    at_next refused k =
        subst (λ (program : Program). ExecutesOnDevices view (reads_on first count [] refused k) program x y)
        (reads_next first count done (take (SECTOR * done) into) refused k below) (so_far.comes refused k)

    -- it was read
    pub one_read : {ok : Unit {0}} (piece : List ℕ) → result ≡ Ok ok → piece ≡ bytes → length bytes ≡ SECTOR → SECTOR * done ≤ length into
        → AllStay view.watcher z.watchers → ReadSoFar (done + 1) (put_mid (SECTOR * done) (SECTOR * (done + 1) - SECTOR * done) into piece) z
    one_read piece ok same sector long stay =
        let up : take (SECTOR * (done + 1)) (put_mid (SECTOR * done) (SECTOR * (done + 1) - SECTOR * done) into piece) ≡ take (SECTOR * done) into ++ bytes =
        take-put_mid (SECTOR * done) (SECTOR * (done + 1) - SECTOR * done) into piece (SECTOR * (done + 1)) (omega (arith, ap length same, sector)) long
        ∙ ap (λ (b : List ℕ). take (SECTOR * done) into ++ b) same in
        record {
          geometry = read_geometry;
          stay = stay;
          comes = λ refused k.
              subst (λ (got : List ℕ). ExecutesOnDevices view (reads_on first count [] refused k) (reads_on (first + (done + 1)) (count - (done + 1)) got refused k) x z)
              (sym up)
              (comes_then view (at_next refused k) (comes_read view y z refused result (first + done) bytes (behind refused k) ok takes));
        }

    -- or refused
    pub read_refused : {why : ArrayFault} → result ≡ Err why → Comes z (λ refused k. refused)
    read_refused err refused k =
        comes_then view (at_next refused k) (comes_unread view y z refused result (first + done) bytes (behind refused k) err takes)

  -- all were
  pub all_read : (done : ℕ) (into : List ℕ) (y : Devices R W) → ReadSoFar done into y → count ≤ done → length into ≤ SECTOR * done
      → Comes y (λ refused k. k into)
  all_read done into y so_far past long refused k =
      let none : count - done ≡ 0 = omega (arith, past) in
      subst (λ (rest : Program). ExecutesOnDevices view (reads_on first count [] refused k) rest x y)
      (ap (λ (n : ℕ). reads_on (first + done) n (take (SECTOR * done) into) refused k) none ∙ ap k (take_all (SECTOR * done) into long))
      (so_far.comes refused k)
