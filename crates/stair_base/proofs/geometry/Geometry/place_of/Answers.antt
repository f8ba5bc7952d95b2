-- Row by row, until the block's row.
use Rattle.std.proofs.Common.{ℕ, ◌/◌, ◌%◌, ap, ◌∙◌, arith}
use Rattle.std.proofs.lemmas.Nat.{mod_below}
use Rattle.stair_model.specs.Geometry.{data_cells}
use Rattle.stair_base.proofs.RowScan.{IsLeft-none, IsLeft-more, IsLeft-found, IsLeft-all}
use Rattle.stair_base.proofs.geometry.Geometry.place_of.Goals as goal

pub loop-row-init : goal.loop-row-init
loop-row-init c = IsLeft-none _ _ _ (ap (λ (u : ℕ). c.args.block % u) (c.from-u.ensures ∙ c.u.ensures.value))

pub loop-row-preserved : goal.loop-row-preserved
loop-row-preserved c =
    IsLeft-more c.args.self.now _ _ _ _ _ c.loop-row.invariant c.blocks_in_row.ensures c.from-blocks.ensures c.if-left-blocks.false

pub returns-then-left-blocks-clause-place : goal.returns-then-left-blocks-clause-place
returns-then-left-blocks-clause-place c =
    let found = IsLeft-found c.args.self.now _ _ _ _ c.loop-row.invariant c.blocks_in_row.ensures (omega arith) in
    record {
      in_stripe = ap (λ (u : ℕ). c.args.block / u) (c.from-u.ensures ∙ c.u.ensures.value);
      row_in = omega arith;
      chunk_in = omega (arith, found.0);
      at = found.1;
    }

pub unreachable-requires : goal.unreachable-requires
unreachable-requires c =
    IsLeft-all c.args.self.now _ _ _ c.u.ensures.limits
    (mod_below c.args.block (data_cells c.args.self.now) c.u.ensures.limits.blocks)
    (omega arith)
    c.loop-row.invariant
