use Rattle.stair_bench.proofs.rounds.make_rounds.Given as goal

abbrev pub ghosts-check_of_solving : goal.ghosts-check_of_solving
ghosts-check_of_solving g a = record { name = a.blank.name; parts = a.blank.parts }
