-- Each value computes.
use Rattle.std.proofs.Common.{refl, lit<}
use Rattle.stair_model.specs.Sum.{sum_below}
use Rattle.stair_model.proofs.layout.known_cells.Goals as goal

pub returns-clause-four_row_0 : goal.returns-clause-four_row_0
unfolding sum_below
returns-clause-four_row_0 c = (refl, refl, refl, refl)

pub returns-clause-four_row_1 : goal.returns-clause-four_row_1
unfolding sum_below
returns-clause-four_row_1 c = (refl, refl, refl, refl)

pub returns-clause-eight_row_2 : goal.returns-clause-eight_row_2
unfolding sum_below
returns-clause-eight_row_2 c = (refl, refl, refl)

pub returns-clause-eight_row_3 : goal.returns-clause-eight_row_3
unfolding sum_below
returns-clause-eight_row_3 c = (refl, refl, refl, refl, refl)

pub returns-clause-eight_block : goal.returns-clause-eight_block
unfolding sum_below
returns-clause-eight_block c = record { in_stripe = refl; row_in = lit< tt; chunk_in = lit< tt; at = refl }
