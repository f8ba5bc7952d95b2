-- The ledger is the blank's.
use Rattle.stair_calls.proofs.call_watched.Given as goal

abbrev pub ghosts-call_on : goal.ghosts-call_on
ghosts-call_on a b = record { name = b.blank.name; parts = b.blank.parts }
