-- The laws are lemmas.
use Rattle.stair_rack.proofs.CrashLemmas.{CrashMayLeave-now, CrashMayLeave-with_cell, with_cell, with_cell_at, settled_cell, synced_cell, written_now}
use Rattle.stair_rack.proofs.TidyLemmas.{history_tidy, left_past_end, made_of_left}
use Rattle.stair_rack.proofs.laws.crash_laws.Goals as goal

pub returns-clause-now : goal.returns-clause-now
returns-clause-now c = CrashMayLeave-now

pub returns-clause-each_alone : goal.returns-clause-each_alone
returns-clause-each_alone c = λ h image j k cell left may.
    (with_cell image j k cell, CrashMayLeave-with_cell h image j k cell left may, with_cell_at image j k cell)

pub returns-clause-settled : goal.returns-clause-settled
returns-clause-settled c = settled_cell

pub returns-clause-synced : goal.returns-clause-synced
returns-clause-synced c = synced_cell

pub returns-clause-written : goal.returns-clause-written
returns-clause-written c = written_now

pub returns-clause-past_end : goal.returns-clause-past_end
returns-clause-past_end c = λ h image j k is left past. left_past_end h (history_tidy is) image left j k past

pub returns-clause-made_again : goal.returns-clause-made_again
returns-clause-made_again c = λ h image j k is left. made_of_left h (history_tidy is) image left j k
