-- The laws are lemmas.
use Rattle.stair_model.proofs.StripeLaws.{cell-with_cell_same, cell-with_cell_other, cell-zero_stripe}
use Rattle.stair_model.proofs.stripe.stripe_laws.Goals as goal

pub returns-clause-changed : goal.returns-clause-changed
returns-clause-changed c = cell-with_cell_same

pub returns-clause-others_stay : goal.returns-clause-others_stay
returns-clause-others_stay c = cell-with_cell_other

pub returns-clause-zero : goal.returns-clause-zero
returns-clause-zero c = cell-zero_stripe
