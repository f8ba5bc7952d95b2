use Rattle.stair_journal.proofs.ReadGateLemmas.{named}
use Rattle.stair_journal.proofs.gate.marked_redo.Goals as goal

pub returns-clause-only : goal.returns-clause-only
returns-clause-only c = λ redo opened.
    named c.args.geometry.now c.args.bytes.now _ redo c.marked_cells.ensures.limits opened c.stripe_in.ensures c.marked_cells.ensures.formed c.marked_cells.ensures.members
