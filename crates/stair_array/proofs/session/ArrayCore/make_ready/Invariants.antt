-- The counts of steps are on ledgers of their own.
use Rattle.stair_array.proofs.session.ArrayCore.make_ready.Given as goal

abbrev pub ghosts-fill : goal.ghosts-fill
ghosts-fill g a = record { name = a.blank.name; parts = a.blank.parts }

abbrev pub ghosts-set : goal.ghosts-set
ghosts-set g a = record { name = a.blank.name; parts = a.blank.parts }
