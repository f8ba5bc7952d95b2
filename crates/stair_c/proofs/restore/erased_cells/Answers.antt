-- Each turn adds the erased cells of the next chunk.
use Rattle.std.proofs.Common.{◌≡◌, arith}
use Rattle.stair_c.proofs.ErasedLemmas.{chunks_all, chunks_more, chunks_none}
use Rattle.stair_c.proofs.restore.erased_cells.Goals as goal

pub loop-slot-init : goal.loop-slot-init
loop-slot-init c = chunks_none c.args.geometry.now c.args.count c.args.erased.now c.args.stripe c.empty-cells.result c.empty-cells.ensures.none c.empty-cells.ensures.well_formed

pub loop-slot-preserved : goal.loop-slot-preserved
loop-slot-preserved c =
    chunks_more c.args.geometry.now c.args.count c.args.erased.now c.args.stripe c.loop-slot.slot c.loop-slot.cells c.add_chunk.new.cells c.loop-slot.invariant
    (record { members = c.add_chunk.ensures.members; formed = c.add_chunk.ensures.formed })

pub returns : goal.returns
returns c =
    let all : c.loop-slot.slot ≡ c.args.geometry.now.n = omega arith in
    chunks_all c.args.geometry.now c.args.count c.args.erased.now c.args.stripe c.loop-slot.slot c.loop-slot.cells all c.loop-slot.invariant
