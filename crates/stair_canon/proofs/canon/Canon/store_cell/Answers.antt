-- A symbol that isn't known is zero.
use Rattle.std.proofs.Common.{ℕ, ap, sym, subst, ◌∙◌, arith}
use Rattle.std.proofs.lemmas.Bool.{false≢true}
use Rattle.stair_model.specs.Stripe.{with_cell}
use Rattle.stair_canon.specs.Canonical.{IsKnown}
use Rattle.stair_canon.proofs.Grid.{symbol-unknown}
use Rattle.stair_canon.proofs.canon.Canon.store_cell.Goals as goal

pub returns-in-None-clause-cell : goal.returns-in-None-clause-cell
returns-in-None-clause-cell c =
    let unknown : ¬ IsKnown c.args.self.now c.args.row c.args.slot =
    λ known. false≢true (c.in-None.ensures.known.1
    (subst (λ (j : ℕ). IsKnown c.args.self.now c.from.result j) (sym c.from-2.ensures)
    (subst (λ (i : ℕ). IsKnown c.args.self.now i c.args.slot) (sym c.from.ensures) known))) in
    c.put-in-None.ensures.value
    ∙ ap (with_cell c.args.stripe.now c.args.row c.args.slot)
    (sym (symbol-unknown c.args.self.now c.args.row c.args.slot (omega (arith, c.requires.slot_in)) unknown))
