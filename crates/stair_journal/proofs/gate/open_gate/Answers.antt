-- The byte that opens the gate, the stripe and the bitmap are put into a closed one.
use Rattle.std.proofs.Common.{◌∙◌}
use Rattle.stair_journal.proofs.ReadGateLemmas.{gate_put}
use Rattle.stair_journal.proofs.gate.open_gate.Goals as goal

pub returns : goal.returns
returns c =
    gate_put c.args.geometry.now c.args.redo.now c.closed_gate-gate.result c.write_u32.new.buf c.copy_from_slice.new.self
    c.closed_gate-gate.ensures c.write_u32.ensures (c.copy_from_slice.ensures.after ∙ c.bitmap.ensures)
