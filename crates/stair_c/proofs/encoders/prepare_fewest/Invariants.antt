-- The ledger is the blank's.
use Rattle.stair_c.proofs.encoders.prepare_fewest.Given as goal

abbrev pub ghosts-standard_steps : goal.ghosts-standard_steps
ghosts-standard_steps a = record { name = a.blank.name; parts = a.blank.parts }
