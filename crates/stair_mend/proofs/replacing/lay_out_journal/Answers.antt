-- The journal was written, and the slot was synced.
use Rattle.std.proofs.Common.{◌∙◌, sym}
use Rattle.stair_rack.proofs.PassCounts.{Done-compared, Gone-compared}
use Rattle.stair_array.proofs.NewJournalLemmas.{journal_cut, journal_placed}
use Rattle.stair_mend.proofs.replacing.lay_out_journal.Goals as goal

pub returns-then-eq-clause-does : goal.returns-then-eq-clause-does
returns-then-eq-clause-does g c honest =
    let gone = Gone-compared c.write_journal.result (sym c.eq.ensures ∙ c.if-eq.true) in
    journal_cut c.args.geometry.now c.args.slot _ _ (rw gone at (c.write_journal.ensures.does honest))

pub returns-clause-does : goal.returns-clause-does
returns-clause-does g c honest =
    let done = Done-compared c.write_journal.result (sym c.eq.ensures ∙ c.if-eq.false) in
    journal_placed c.args.geometry.now c.args.slot _ _ _ c.sync.result (rw done at (c.write_journal.ensures.does honest)) (c.sync.ensures.does honest)
