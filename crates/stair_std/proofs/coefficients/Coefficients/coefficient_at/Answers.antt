-- A data cell, and a parity.
use Rattle.std.proofs.Common.{ℕ, ◌∙◌, ap, sym}
use Rattle.std.proofs.lemmas.Bool.{true≢false}
use Rattle.stair_model.specs.Cell.{is_parity}
use Rattle.stair_std.specs.Coefficients.{coefficient_of}
use Rattle.stair_std.proofs.Encoding.{parity_below}
use Rattle.stair_std.proofs.coefficients.Coefficients.coefficient_at.Goals as goal

pub coefficient-requires-clause-parity_in : goal.coefficient-requires-clause-parity_in
coefficient-requires-clause-parity_in c =
    parity_below _ _ _ _ c.part.ensures.well_formed.limits c.requires.row_in c.requires.slot_in c.in-Parity.ensures.part.0
    c.in-Parity.ensures.part.1

pub returns-in-Block-clause-parity : goal.returns-in-Block-clause-parity
returns-in-Block-clause-parity c = λ parity.
    absurd (true≢false (sym parity ∙ ap is_parity c.in-Block.ensures.part))

pub returns-in-Parity-clause-parity : goal.returns-in-Parity-clause-parity
returns-in-Parity-clause-parity c = λ parity encoded p p_in encoding.
    c.part.ensures.well_formed.factors c.args.block c.args.row c.args.slot c.requires.block_in c.requires.row_in c.requires.slot_in
    c.in-Parity.ensures.part.0 encoded p p_in encoding
    ∙ sym (c.coefficient.ensures ∙ ap (λ (a : ℕ). coefficient_of c.args.self.now a c.args.block) c.in-Parity.ensures.part.1)

pub returns-in-Parity-clause-block : goal.returns-in-Parity-clause-block
returns-in-Parity-clause-block c = λ d is. absurd (true≢false (sym c.in-Parity.ensures.part.0 ∙ ap is_parity is))
