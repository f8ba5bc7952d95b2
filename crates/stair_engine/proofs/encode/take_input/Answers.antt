-- All blocks were taken, and then the end was looked for.
use Rattle.std.proofs.Common.{◌≤◌, arith}
use Rattle.std.specs.List.{concat}
use Rattle.stair_model.specs.Geometry.{data_cells}
use Rattle.stair_command.specs.Answer.{block_bytes}
use Rattle.stair_command.specs.Outside.{source_view}
use Rattle.stair_engine.proofs.BlockLaws.{HoldsInput-all, length-blocks}
use Rattle.stair_engine.proofs.CellLaws.{has_room}
use Rattle.stair_command.proofs.IntakeLaws.{all_counted, whole_cut, whole_end, whole_handed_on}
use Rattle.stair_engine.proofs.encode.take_input.Goals as goal

pub returns-in_err-take_blocks-clause-takes : goal.returns-in_err-take_blocks-clause-takes
returns-in_err-take_blocks-clause-takes g c =
    whole_handed_on (source_view g.S.Source) _ _ _ _ _ _ c.from_residual.ensures.1
    (whole_cut (source_view g.S.Source) _ _ _ _ _ (rw (rw c.block_bytes.ensures.value at c.new-intake.ensures) at c.in_err-take_blocks.ensures.cut))

pub end-requires-clause-all : goal.end-requires-clause-all
end-requires-clause-all g c =
    let took = c.in_ok-take_blocks.ensures.ok in
    (all_counted (source_view g.S.Source) _ _ _ (block_bytes c.args.geometry.now) _ _ (rw c.block_bytes.ensures.value at c.new-intake.ensures)
    (length-blocks (source_view g.S.Source) _ _ _ _ _ _ took) took.taken).0

pub returns-clause-takes : goal.returns-clause-takes
returns-clause-takes g c =
    let of = c.args.geometry.now in
    let took = c.in_ok-take_blocks.ensures.ok in
    let long = length-blocks (source_view g.S.Source) of _ _ _ _ _ took in
    let counted = all_counted (source_view g.S.Source) _ _ _ (block_bytes of) _ _ (rw c.block_bytes.ensures.value at c.new-intake.ensures) long took.taken in
    let blocks : 1 ≤ data_cells of = c.block_bytes.ensures.limits.blocks in
    whole_end (source_view g.S.Source) _ _ (concat took.blocks) _ _ _ _ _ counted.1 (omega (arith, blocks)) long
    took.taken.taken c.end.ensures.ok c.end.ensures.more (λ done. HoldsInput-all (source_view g.S.Source) _ _ _ _ _ _ took)

pub take_blocks-requires-clause-room : goal.take_blocks-requires-clause-room
take_blocks-requires-clause-room g c =
    has_room c.new-intake.result (block_bytes c.args.geometry.now) (rw c.block_bytes.ensures.value at c.new-intake.ensures)
