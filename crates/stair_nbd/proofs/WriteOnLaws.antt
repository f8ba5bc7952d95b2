-- The loop of `write_blocks`: what holds before each piece.
use Rattle.std.proofs.Common.{◌≡◌, ◌∙◌, ◌+◌, ◌-◌, ◌*◌, ◌/◌, ◌<◌, ◌≤◌, ℕ, zero, suc, List, length, take, drop, Ok, Err, Result, ap, arith, refl, subst, sym}
use Rattle.std.specs.Prelude.{Bool}
use Rattle.std.proofs.lemmas.Bool.{eq-eqb, ne_eqb}
use Rattle.std.proofs.lemmas.List.{drop-drop}
use Rattle.stair_model.specs.Geometry.{Geometry, block_count}
use Rattle.stair_model.specs.Stripe.{SECTOR}
use Rattle.stair_array.specs.Arrays.{blocks_of, outcome}
use Rattle.stair_array.specs.Machine.{WriteBlocks}
use Rattle.stair_array.specs.declared.fault.ArrayFault.{ArrayFault}
use Rattle.stair_command.specs.Comes.{ExecutesOnDevices}
use Rattle.stair_command.specs.Devices.{DeviceView, Devices}
use Rattle.stair_command.specs.Pieces.{piece_blocks}
use Rattle.stair_command.specs.Program.{Program, if_so}
use Rattle.stair_command.specs.Steps.{Takes}
use Rattle.stair_command.proofs.ComesLaws.{comes_none, comes_then}
use Rattle.stair_command.proofs.PieceLaws.{piece_left, piece_some}
use Rattle.stair_watch.specs.WatcherList.{AllStay}
use Rattle.stair_nbd.specs.Client.{tries, writes_on}
use Rattle.stair_nbd.proofs.TriedLaws.{HasGeometry, IsOpen, comes_unwritten, comes_written, geometry_stays}

-- a turn that writes so many of the blocks that are left
abbrev turn : Geometry → (count turns block left : ℕ) → List ℕ → (refused done : Program) → Program
turn g count turns block left bytes refused done =
    tries (WriteBlocks block (blocks_of (take (SECTOR * count) bytes))) refused
    (λ ok. writes_on g turns (block + count) (left - count) (drop (SECTOR * count) bytes) refused done)

-- one turn more
writes_next : (g : Geometry) (turns block left : ℕ) (bytes : List ℕ) (refused done : Program) → 0 < left
    → writes_on g (suc turns) block left bytes refused done ≡ turn g (piece_blocks g block left) turns block left bytes refused done
writes_next g turns block left bytes refused done some =
    ap (λ (is : Bool). if_so is done (turn g (piece_blocks g block left) turns block left bytes refused done))
    (ne_eqb left 0 (λ none. omega (arith, some, none)))

-- none is left
writes_done : (g : Geometry) (turns block left : ℕ) (bytes : List ℕ) (refused done : Program) → left ≡ 0
    → writes_on g turns block left bytes refused done ≡ done
writes_done g zero block left bytes refused done none = refl
writes_done g (suc turns) block left bytes refused done none =
    ap (λ (is : Bool). if_so is done (turn g (piece_blocks g block left) turns block left bytes refused done)) (eq-eqb left 0 none)

-- where so many bytes are written, of so many, the blocks of the next piece
abbrev pub piece_at : Geometry → (first long done : ℕ) → ℕ
piece_at g first long done = piece_blocks g (first + done / SECTOR) ((long - done) / SECTOR)

module _ (g : Geometry) (first long done : ℕ) (whole : SECTOR * (long / SECTOR) ≡ long) (within : first + long / SECTOR ≤ block_count g)
    (whole_done : SECTOR * (done / SECTOR) ≡ done) (below : done < long) where
  -- there is one
  pub some_left : 0 < (long - done) / SECTOR
  some_left = omega (arith, whole, whole_done, below)

  -- and those that are left are of the array
  pub left_within : (first + done / SECTOR) + (long - done) / SECTOR ≤ block_count g
  left_within = omega (arith, whole, whole_done, below, within)

  -- it has one block at least, and no more than are left
  pub piece_more : 0 < piece_at g first long done
  piece_more = piece_some g (first + done / SECTOR) ((long - done) / SECTOR) some_left left_within

  pub piece_fits : done + SECTOR * piece_at g first long done ≤ long
  piece_fits = omega (arith, piece_left g (first + done / SECTOR) ((long - done) / SECTOR) some_left left_within, whole, whole_done, below)

module _ {R W : Type 0} (view : DeviceView R W) (g : Geometry) (first : ℕ) (blocks : List ℕ) (x : Devices R W) where
  -- from the first block on to this program
  abbrev Comes : Devices R W → (Program → Program → Program) → Type 0
  Comes y rest = (refused over : Program)
      → ExecutesOnDevices view (writes_on g (length blocks / SECTOR) first (length blocks / SECTOR) blocks refused over) (rest refused over) x y

  -- So many bytes were written, which are whole blocks.
  pub record WroteSoFar (done : ℕ) (y : Devices R W) : Type 0 where
    pub within : done ≤ length blocks
    pub whole : SECTOR * (done / SECTOR) ≡ done
    pub geometry : HasGeometry g y.session
    pub stay : AllStay view.watcher y.watchers
    pub turns : ℕ
    pub enough : length blocks ≤ done + SECTOR * turns
    pub comes : Comes y (writes_on g turns (first + done / SECTOR) ((length blocks - done) / SECTOR) (drop done blocks))

  -- none was yet
  pub none_written : SECTOR * (length blocks / SECTOR) ≡ length blocks → HasGeometry g x.session → AllStay view.watcher x.watchers → WroteSoFar 0 x
  none_written whole same stay = record {
    within = omega arith;
    whole = refl;
    geometry = same;
    stay = stay;
    turns = length blocks / SECTOR;
    enough = omega (arith, whole);
    comes = λ refused over.
        let from : first ≡ first + 0 / SECTOR = omega arith in
        let left : length blocks / SECTOR ≡ (length blocks - 0) / SECTOR = omega arith in
        subst (λ (program : Program). ExecutesOnDevices view (writes_on g (length blocks / SECTOR) first (length blocks / SECTOR) blocks refused over) program x x)
        (λ i. writes_on g (length blocks / SECTOR) (from i) (left i) blocks refused over)
        (comes_none view (writes_on g (length blocks / SECTOR) first (length blocks / SECTOR) blocks refused over) x);
  }

  -- a turn is left where bytes are
  fuel : (done turns : ℕ) → done < length blocks → length blocks ≤ done + SECTOR * turns → (less : ℕ) × (turns ≡ suc less)
  fuel done zero below enough = absurd (omega (arith, enough, below))
  fuel done (suc less) below enough = (less, refl)

  module _ (done : ℕ) (y z : Devices R W) (so_far : WroteSoFar done y) (below : done < length blocks) (whole : SECTOR * (length blocks / SECTOR) ≡ length blocks)
      (within : first + length blocks / SECTOR ≤ block_count g) (count : ℕ) (same_count : count ≡ piece_at g first (length blocks) done) (piece : List ℕ)
      (same_piece : piece ≡ take (SECTOR * count) (drop done blocks)) (result : Result (Unit {0}) ArrayFault)
      (takes : Takes view (WriteBlocks (first + done / SECTOR) (blocks_of piece)) (outcome result) y z) (opened : IsOpen z.session) where
    -- the turns after it, and the blocks that were left before
    abbrev less : ℕ
    less = (fuel done so_far.turns below so_far.enough).0

    abbrev left : ℕ
    left = (length blocks - done) / SECTOR

    -- the geometry stays over the piece
    pub write_geometry : HasGeometry g z.session
    write_geometry = geometry_stays view y z (WriteBlocks (first + done / SECTOR) (blocks_of piece)) (outcome result) takes opened g so_far.geometry

    -- before the piece
    at_turn : Comes y (turn g count less (first + done / SECTOR) left (drop done blocks))
    at_turn refused over =
        subst (λ (program : Program). ExecutesOnDevices view (writes_on g (length blocks / SECTOR) first (length blocks / SECTOR) blocks refused over) program x y)
        (ap (λ (turns : ℕ). writes_on g turns (first + done / SECTOR) left (drop done blocks) refused over) (fuel done so_far.turns below so_far.enough).1
        ∙ writes_next g less (first + done / SECTOR) left (drop done blocks) refused over
        (some_left g first (length blocks) done whole within so_far.whole below)
        ∙ ap (λ (n : ℕ). turn g n less (first + done / SECTOR) left (drop done blocks) refused over) (sym same_count))
        (so_far.comes refused over)

    -- its bytes
    took : Takes view (WriteBlocks (first + done / SECTOR) (blocks_of (take (SECTOR * count) (drop done blocks)))) (outcome result) y z
    took = subst (λ (bytes : List ℕ). Takes view (WriteBlocks (first + done / SECTOR) (blocks_of bytes)) (outcome result) y z) same_piece takes

    -- the program after it
    abbrev behind : Program → Program → Unit {0} → Program
    behind refused over ok = writes_on g less (first + done / SECTOR + count) (left - count) (drop (SECTOR * count) (drop done blocks)) refused over

    -- its blocks were refused
    pub write_refused : {why : ArrayFault} → result ≡ Err why → Comes z (λ refused over. refused)
    write_refused err refused over =
        comes_then view (at_turn refused over)
        (comes_unwritten view y z refused result (first + done / SECTOR) (take (SECTOR * count) (drop done blocks)) (behind refused over) err took)

    -- or written
    pub one_written : {ok : Unit {0}} → result ≡ Ok ok → AllStay view.watcher z.watchers → WroteSoFar (done + SECTOR * count) z
    one_written ok stay =
        let more = piece_more g first (length blocks) done whole within so_far.whole below in
        let fits = piece_fits g first (length blocks) done whole within so_far.whole below in
        let block : first + done / SECTOR + count ≡ first + (done + SECTOR * count) / SECTOR = omega (arith, so_far.whole) in
        let rest : (length blocks - done) / SECTOR - count ≡ (length blocks - (done + SECTOR * count)) / SECTOR =
        omega (arith, so_far.whole, whole, fits, same_count) in
        record {
          within = omega (arith, fits, same_count);
          whole = omega (arith, so_far.whole);
          geometry = write_geometry;
          stay = stay;
          turns = less;
          enough = omega (arith, so_far.enough, (fuel done so_far.turns below so_far.enough).1, more, same_count);
          comes = λ refused over.
              subst (λ (program : Program). ExecutesOnDevices view (writes_on g (length blocks / SECTOR) first (length blocks / SECTOR) blocks refused over) program x z)
              (λ i. writes_on g less (block i) (rest i) (drop-drop (SECTOR * count) done blocks i) refused over)
              (comes_then view (at_turn refused over)
              (comes_written view y z refused result (first + done / SECTOR) (take (SECTOR * count) (drop done blocks)) (behind refused over) ok took));
        }

  -- all were
  pub all_written : (done : ℕ) (y : Devices R W) → WroteSoFar done y → length blocks ≤ done → Comes y (λ refused over. over)
  all_written done y so_far past refused over =
      subst (λ (program : Program). ExecutesOnDevices view (writes_on g (length blocks / SECTOR) first (length blocks / SECTOR) blocks refused over) program x y)
      (writes_done g so_far.turns (first + done / SECTOR) ((length blocks - done) / SECTOR) (drop done blocks) refused over (omega (arith, past)))
      (so_far.comes refused over)
