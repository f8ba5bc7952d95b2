-- The loop of `clear`: what is so before each piece.
use Rattle.std.proofs.Common.{◌≡◌, ◌∙◌, ◌+◌, ◌-◌, ◌*◌, ◌/◌, ◌<◌, ◌≤◌, ℕ, zero, suc, List, ◌∷◌, length, take, Ok, Result, ap, ap₂, arith, refl, subst, sym}
use Rattle.std.specs.Prelude.{Bool, replicate}
use Rattle.std.specs.Simd.{first_chunks}
use Rattle.std.proofs.lemmas.Bool.{eq-eqb, ne_eqb}
use Rattle.std.proofs.lemmas.List.{drop-replicate, length-replicate, take-replicate}
use Rattle.stair_model.specs.Geometry.{Geometry, block_count, data_cells}
use Rattle.stair_model.specs.Stripe.{SECTOR}
use Rattle.stair_state.specs.Blocks.{zero_block}
use Rattle.stair_array.specs.Arrays.{blocks_of, outcome}
use Rattle.stair_array.specs.Machine.{WriteBlocks}
use Rattle.stair_array.specs.declared.fault.ArrayFault.{ArrayFault}
use Rattle.stair_command.specs.Comes.{ExecutesOnDevices}
use Rattle.stair_command.specs.Devices.{DeviceView, Devices}
use Rattle.stair_command.specs.Pieces.{piece_blocks}
use Rattle.stair_command.specs.Program.{Program, if_so, take_step}
use Rattle.stair_command.specs.Steps.{Takes}
use Rattle.stair_command.proofs.ComesLaws.{comes_none, comes_then}
use Rattle.stair_command.proofs.PieceLaws.{piece_left, piece_some}
use Rattle.stair_watch.specs.WatcherList.{AllStay}
use Rattle.stair_volume.specs.Commands.{clears}
use Rattle.stair_volume.specs.Parts.{after_steps}
use Rattle.stair_volume.proofs.StepLaws.{HasGeometry, IsOpen, comes_write, geometry_stays}

-- ---- the zeros

zero_chunks : (count room : ℕ) → SECTOR * count ≤ room → first_chunks SECTOR count (replicate room 0) ≡ replicate count zero_block
zero_chunks zero room fits = refl
zero_chunks (suc count) room fits =
    ap₂ (λ (block : List ℕ) (later : List (List ℕ)). block ∷ later) (take-replicate SECTOR room 0 (omega (arith, fits)))
    (ap (first_chunks SECTOR count) (drop-replicate SECTOR room 0) ∙ zero_chunks count (room - SECTOR) (omega (arith, fits)))

-- the first of them, as blocks
pub zeros_are_blocks : (count cells : ℕ) (zeros piece : List ℕ) → zeros ≡ replicate (SECTOR * cells) 0 → count ≤ cells → piece ≡ take (SECTOR * count) zeros
    → blocks_of piece ≡ replicate count zero_block
zeros_are_blocks count cells zeros piece all few is =
    let these : piece ≡ replicate (SECTOR * count) 0 =
    is ∙ ap (take (SECTOR * count)) all ∙ take-replicate (SECTOR * count) (SECTOR * cells) 0 (omega (arith, few)) in
    let many : length piece / SECTOR ≡ count = omega (arith, ap length these ∙ length-replicate (SECTOR * count) 0) in
    ap₂ (λ (n : ℕ) (bytes : List ℕ). first_chunks SECTOR n bytes) many these ∙ zero_chunks count (SECTOR * count) (omega arith)

-- ---- the program

-- how many blocks the next piece has
pub piece_is : (g h : Geometry) (block end start piece : ℕ) → piece ≡ piece_blocks h block (end - block) → h ≡ g → end ≡ start
    → piece ≡ piece_blocks g block (start - block)
piece_is g h block end start piece is same ends = is ∙ ap₂ (λ (of : Geometry) (n : ℕ). piece_blocks of block (n - block)) same ends

-- it ends where the blocks do
pub piece_inside : (g : Geometry) (block end piece : ℕ) → block < end → end ≤ block_count g → piece ≡ piece_blocks g block (end - block) → block + piece ≤ end
piece_inside g block end piece below within is = omega (arith, is, below, piece_left g block (end - block) (omega (arith, below)) (omega (arith, within, below)))

-- one turn more
clears_next : (g : Geometry) (turns first left : ℕ) (rest : Program) → 0 < left
    → clears g (suc turns) first left rest
    ≡ take_step g.n (WriteBlocks first (replicate (piece_blocks g first left) zero_block))
    (λ ok. clears g turns (first + piece_blocks g first left) (left - piece_blocks g first left) rest)
clears_next g turns first left rest some =
    ap (λ (is : Bool). if_so is rest (take_step g.n (WriteBlocks first (replicate (piece_blocks g first left) zero_block))
    (λ ok. clears g turns (first + piece_blocks g first left) (left - piece_blocks g first left) rest)))
    (ne_eqb left 0 (λ none. omega (arith, some, none)))

-- none is left
clears_done : (g : Geometry) (turns first left : ℕ) (rest : Program) → left ≡ 0 → clears g turns first left rest ≡ rest
clears_done g zero first left rest none = refl
clears_done g (suc turns) first left rest none =
    ap (λ (is : Bool). if_so is rest (take_step g.n (WriteBlocks first (replicate (piece_blocks g first left) zero_block))
    (λ ok. clears g turns (first + piece_blocks g first left) (left - piece_blocks g first left) rest)))
    (eq-eqb left 0 none)

-- ---- so many blocks are zeros

module _ {R W : Type 0} (view : DeviceView R W) (g : Geometry) (first count : ℕ) (x : Devices R W) where
  -- All blocks before this one are.
  pub record ClearedSoFar (block : ℕ) (y : Devices R W) : Type 0 where
    pub from : first ≤ block
    pub within : block ≤ first + count
    pub geometry : HasGeometry g y.session
    pub stay : AllStay view.watcher y.watchers
    pub turns : ℕ
    pub enough : first + count ≤ block + turns
    pub comes : (rest : Program) → ExecutesOnDevices view (clears g count first count rest) (clears g turns block (first + count - block) rest) x y

  -- none is yet
  pub none_cleared : HasGeometry g x.session → AllStay view.watcher x.watchers → ClearedSoFar first x
  none_cleared same stay = record {
    from = omega arith;
    within = omega arith;
    geometry = same;
    stay = stay;
    turns = count;
    enough = omega arith;
    comes = λ rest.
        let left : count ≡ first + count - first = omega arith in
        subst (λ (n : ℕ). ExecutesOnDevices view (clears g count first count rest) (clears g count first n rest) x x) left
        (comes_none view (clears g count first count rest) x);
  }

  -- a turn is left where blocks are
  pub fuel : (block turns : ℕ) → block < first + count → first + count ≤ block + turns → (less : ℕ) × (turns ≡ suc less)
  fuel block zero below enough = absurd (omega (arith, enough, below))
  fuel block (suc less) below enough = (less, refl)

  module _ {block : ℕ} {y z : Devices R W} (so_far : ClearedSoFar block y) (below : block < first + count) (within : first + count ≤ block_count g)
      (piece : ℕ) (is : piece ≡ piece_blocks g block (first + count - block)) (zeros bytes : List ℕ) (all : zeros ≡ replicate (SECTOR * data_cells g) 0)
      (taken : bytes ≡ take (SECTOR * piece) zeros) (result : Result (Unit {0}) ArrayFault)
      (takes : Takes view (WriteBlocks block (blocks_of bytes)) (outcome result) y z) (opened : IsOpen z.session) where
    abbrev less : ℕ
    less = (fuel block so_far.turns below so_far.enough).0

    abbrev left : ℕ
    left = first + count - block

    -- the geometry stays over the piece
    pub clear_geometry : HasGeometry g z.session
    clear_geometry = geometry_stays view (WriteBlocks block (blocks_of bytes)) (outcome result) takes opened g so_far.geometry

    -- the piece was written, or not
    pub piece_comes : (rest : Program)
        → ExecutesOnDevices view (clears g count first count rest) (after_steps g.n result (clears g less (block + piece) (left - piece) rest)) x z
    piece_comes rest =
        comes_then view
        (subst (λ (program : Program). ExecutesOnDevices view (clears g count first count rest) program x y)
        (ap (λ (turns : ℕ). clears g turns block left rest) (fuel block so_far.turns below so_far.enough).1
        ∙ clears_next g less block left rest (omega (arith, below))
        ∙ ap (λ (n : ℕ). take_step g.n (WriteBlocks block (replicate n zero_block)) (λ ok. clears g less (block + n) (left - n) rest)) (sym is))
        (so_far.comes rest))
        (subst (λ (written : List (List ℕ)). ExecutesOnDevices view (take_step g.n (WriteBlocks block written) (λ ok. clears g less (block + piece) (left - piece) rest))
        (after_steps g.n result (clears g less (block + piece) (left - piece) rest)) y z)
        (zeros_are_blocks piece (data_cells g) zeros bytes all (omega (arith, is)) taken)
        (comes_write view g.n block (blocks_of bytes) result (clears g less (block + piece) (left - piece) rest) takes))

    -- it was
    pub one_cleared : {ok : Unit {0}} → result ≡ Ok ok → AllStay view.watcher z.watchers → (next : ℕ) → next ≡ block + piece → ClearedSoFar next z
    one_cleared done stay next goes =
        let some : 0 < piece = omega (arith, is, piece_some g block left (omega (arith, below)) (omega (arith, within, below))) in
        let fits : piece ≤ left = omega (arith, is, piece_left g block left (omega (arith, below)) (omega (arith, within, below))) in
        let later : left - piece ≡ first + count - next = omega (arith, goes) in
        record {
          from = omega (arith, so_far.from, goes);
          within = omega (arith, fits, below, goes);
          geometry = clear_geometry;
          stay = stay;
          turns = less;
          enough = omega (arith, so_far.enough, (fuel block so_far.turns below so_far.enough).1, some, goes);
          comes = λ rest.
              subst (λ (program : Program). ExecutesOnDevices view (clears g count first count rest) program x z)
              (ap (λ (r : Result (Unit {0}) ArrayFault). after_steps g.n r (clears g less (block + piece) (left - piece) rest)) done
              ∙ ap₂ (λ (b n : ℕ). clears g less b n rest) (sym goes) later)
              (piece_comes rest);
        }

  -- all are
  pub all_cleared : {block : ℕ} {y : Devices R W} → ClearedSoFar block y → first + count ≤ block → (rest : Program)
      → ExecutesOnDevices view (clears g count first count rest) rest x y
  all_cleared {block} {y} so_far past rest =
      subst (λ (program : Program). ExecutesOnDevices view (clears g count first count rest) program x y)
      (clears_done g so_far.turns block (first + count - block) rest (omega (arith, past))) (so_far.comes rest)
