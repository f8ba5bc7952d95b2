-- A redo is noted, and the slot where it is the first one.
use Rattle.std.proofs.Common.{sym, ◌∙◌}
use Rattle.std.proofs.lemmas.Bool.{false≢true}
use Rattle.stair_journal.proofs.GatesLemmas.{noted_opened, noted_other}
use Rattle.stair_journal.proofs.RedoLemmas.{redo_eq-Decides}
use Rattle.stair_journal.proofs.gates.note.Goals as goal

pub returns-then-eq : goal.returns-then-eq
returns-then-eq c =
    let told = redo_eq-Decides c.unwrap_or-first.result c.in-Open.redo c.eq.result c.eq.ensures in
    rw c.in-Open.is
    (noted_opened c.args.slot c.in-Open.redo c.unwrap_or-first.result c.args.gates.now c.unwrap_or-first.ensures c.add.new.self
    (told.0 c.if-eq.true) c.add.ensures.well_formed c.add.ensures.members)

pub returns-else-eq : goal.returns-else-eq
returns-else-eq c =
    let told = redo_eq-Decides c.unwrap_or-first.result c.in-Open.redo c.eq.result c.eq.ensures in
    rw c.in-Open.is
    (noted_other c.args.slot c.in-Open.redo c.unwrap_or-first.result c.args.gates.now c.unwrap_or-first.ensures
    (λ same. false≢true (sym c.if-eq.false ∙ told.1 same)))
