-- A data cell, and a parity.
use Rattle.std.proofs.Common.{◌≡◌, ℕ, ◌==◌, inl, inr, ◌∙◌, ap, sym}
use Rattle.std.proofs.lemmas.Bool.{cases_Bool, cond-true, cond-false}
use Rattle.stair_std.specs.Coefficients.{coefficient_of}
use Rattle.stair_std.proofs.Columns.{IsFactor-data}
use Rattle.stair_std.proofs.Encoding.{parity_below}
use Rattle.stair_std.proofs.coefficients.Coefficients.factor.Goals as goal

pub coefficient-requires-clause-parity_in : goal.coefficient-requires-clause-parity_in
coefficient-requires-clause-parity_in c =
    parity_below _ _ _ _ c.part.ensures.well_formed.limits c.requires.row_in c.requires.slot_in c.in-Parity.ensures.part.0
    c.in-Parity.ensures.part.1

pub returns-in-Block : goal.returns-in-Block
returns-in-Block c =
    IsFactor-data _ _ _ _ c.in-Block.other _ c.part.ensures.well_formed.limits c.requires.row_in c.requires.slot_in
    c.in-Block.ensures.part
    (elim (cases_Bool (c.args.block == c.in-Block.other)) [
      | inl same ↦
          let one : c.from.result ≡ 1 = rw same at c.from.ensures in
          one ∙ sym (cond-true (c.args.block == c.in-Block.other) 1 0 same)
      | inr other ↦
          let zero : c.from.result ≡ 0 = rw other at c.from.ensures in
          zero ∙ sym (cond-false (c.args.block == c.in-Block.other) 1 0 other)
    ])

pub returns-in-Parity : goal.returns-in-Parity
returns-in-Parity c = λ encoded p p_in encoding.
    c.part.ensures.well_formed.factors c.args.block c.args.row c.args.slot c.requires.block_in c.requires.row_in c.requires.slot_in
    c.in-Parity.ensures.part.0 encoded p p_in encoding
    ∙ sym (c.coefficient.ensures ∙ ap (λ (a : ℕ). coefficient_of c.args.self.now a c.args.block) c.in-Parity.ensures.part.1)
