use Rattle.stair_bench.proofs.rounds.make_on_files.Given as goal

abbrev pub ghosts-check_of_redoing : goal.ghosts-check_of_redoing
ghosts-check_of_redoing g a = record { name = a.blank.name; parts = a.blank.parts }
