-- The ledger is the blank's.
use Rattle.stair_code_tests.proofs.encoders.each_encoder_gives_the_known_stripe.Given as goal

abbrev pub ghosts-compare : goal.ghosts-compare
ghosts-compare g a = record { name = a.blank.name; parts = a.blank.parts }
