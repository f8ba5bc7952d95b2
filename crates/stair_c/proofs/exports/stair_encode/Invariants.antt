-- The ledger is the blank's.
use Rattle.stair_c.proofs.exports.stair_encode.Given as goal

abbrev pub ghosts-encode_each : goal.ghosts-encode_each
ghosts-encode_each a = record { name = a.blank.name; parts = a.blank.parts }
