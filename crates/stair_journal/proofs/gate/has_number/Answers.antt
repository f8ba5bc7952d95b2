-- A number past the last row is that of no cell.
use Rattle.std.proofs.Common.{sym, ◌∙◌}
use Rattle.std.proofs.lemmas.Bool.{le-ltb}
use Rattle.stair_journal.proofs.ReadGateLemmas.{no_number}
use Rattle.stair_journal.proofs.gate.has_number.Goals as goal

pub returns-else-row-lt32 : goal.returns-else-row-lt32
returns-else-row-lt32 c =
    le-ltb _ 32 c.if-row-lt32.false
    ∙ sym (no_number c.args.geometry.now c.args.cells.now c.args.number c.from-n.result c.requires (c.from-n.ensures ∙ c.n.ensures.value) c.if-row-lt32.false)
