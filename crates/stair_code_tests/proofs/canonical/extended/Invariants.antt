-- The ledger is the blank's.
use Rattle.stair_code_tests.proofs.canonical.extended.Given as goal

abbrev pub ghosts-extend : goal.ghosts-extend
ghosts-extend g a = record { name = a.blank.name; parts = a.blank.parts }
