use Rattle.stair_bench.proofs.rounds.check_of_stripe_work.Given as goal

abbrev pub ghosts-check_of_encoding : goal.ghosts-check_of_encoding
ghosts-check_of_encoding a = record { name = a.blank.name; parts = a.blank.parts }

abbrev pub ghosts-check_of_updating : goal.ghosts-check_of_updating
ghosts-check_of_updating a = record { name = a.blank.name; parts = a.blank.parts }

abbrev pub ghosts-check_of_restoring : goal.ghosts-check_of_restoring
ghosts-check_of_restoring a = record { name = a.blank.name; parts = a.blank.parts }

abbrev pub ghosts-check_of_encoding_many : goal.ghosts-check_of_encoding_many
ghosts-check_of_encoding_many a = record { name = a.blank.name; parts = a.blank.parts }

abbrev pub ghosts-check_of_restoring_many : goal.ghosts-check_of_restoring_many
ghosts-check_of_restoring_many a = record { name = a.blank.name; parts = a.blank.parts }
