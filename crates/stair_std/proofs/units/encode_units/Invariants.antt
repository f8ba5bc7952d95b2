-- The ledger is the blank's.
use Rattle.stair_std.proofs.units.encode_units.Given as goal

abbrev pub ghosts-encode_uncounted : goal.ghosts-encode_uncounted
ghosts-encode_uncounted a = record { name = a.blank.name; parts = a.blank.parts }
