-- The ledger is the blank's.
use Rattle.stair_up.proofs.decode.decode_upstairs.Given as goal

abbrev pub ghosts-solve_uncounted : goal.ghosts-solve_uncounted
ghosts-solve_uncounted a = record { name = a.blank.name; parts = a.blank.parts }
