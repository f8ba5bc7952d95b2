-- The one byte that is set, or none.
use Rattle.std.proofs.Common.{ℕ, ap, ◌∙◌, slice_index, slice_set, replicate, arith}
use Rattle.stair_std.proofs.UnitStripes.{unit_block-set, unit_block-zero}
use Rattle.stair_std.proofs.units.unit_block.Goals as goal
use Rattle.stair_std.proofs.units.unit_block.Goals.{else-first-block-via-then-first-block+else-from-lt-SECTOR as late, else-first-block-via-else-first-block as early}

pub returns-then-from-lt-SECTOR-clause-bytes : goal.returns-then-from-lt-SECTOR-clause-bytes
returns-then-from-lt-SECTOR-clause-bytes c = λ p p_in.
    ap (λ (k : ℕ). slice_index (slice_set (replicate 512 0) k 1) p) c.from-then-from-lt-SECTOR.ensures
    ∙ unit_block-set c.args.first c.args.block p (omega arith) (omega (arith, c.from.ensures)) p_in

pub returns-else-first-block-clause-bytes : goal.returns-else-first-block-clause-bytes
returns-else-first-block-clause-bytes c = λ p p_in.
    elim c.else-first-block.branch [
      | late w ↦ unit_block-zero c.args.first c.args.block p (λ e. omega (arith, w.if-from-lt-SECTOR.false, w.from.ensures)) p_in
      | early w ↦ unit_block-zero c.args.first c.args.block p (λ e. omega (arith, w.if-first-block.false)) p_in
    ]
