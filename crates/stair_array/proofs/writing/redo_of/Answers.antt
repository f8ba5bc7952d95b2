-- All cells of the stripe, or those that change with its blocks.
use Rattle.std.proofs.Common.{◌∙◌, sym}
use Rattle.stair_array.proofs.ChangingLemmas.{all_change, redo_of_all, redo_of_some, some_change}
use Rattle.stair_array.proofs.writing.redo_of.Goals as goal
use Rattle.stair_array.proofs.writing.redo_of.Goals.{then-count-from, else-count-from}

pub returns-clause-redo : goal.returns-clause-redo
returns-clause-redo g c =
    elim c.if-count-from.branch [
      | then-count-from w ↦
          rw w.cells-is
          (redo_of_all c.args.geometry.now c.args.first c.args.count _ _ _ w.cells-cells.result c.u.ensures.limits c.place_of-stripe.ensures.stripe
          c.place_of-stripe.ensures.place c.requires.together.some w.cells-cells.ensures.well_formed w.cells-cells.ensures.members)
      | else-count-from w ↦
          rw w.cells-is
          (redo_of_some c.args.geometry.now c.args.first c.args.count _ _ _ w.dependents-cells.result c.u.ensures.limits c.place_of-stripe.ensures.stripe
          c.place_of-stripe.ensures.place c.requires.together.some w.dependents-cells.ensures.formed w.dependents-cells.ensures.members)
    ]

pub returns-clause-change : goal.returns-clause-change
returns-clause-change g c =
    elim c.if-count-from.branch [
      | then-count-from w ↦
          rw w.cells-is
          (all_change c.args.geometry.now c.args.first c.args.count _ _ _ w.cells-cells.result c.u.ensures.limits c.place_of-stripe.ensures.stripe
          c.place_of-stripe.ensures.place c.requires.together.some w.cells-cells.ensures.well_formed w.cells-cells.ensures.members
          (w.if-count-from.true ∙ c.from.ensures ∙ c.u.ensures.value))
      | else-count-from w ↦
          rw w.cells-is
          (some_change c.args.geometry.now c.args.first c.args.count _ _ _ w.dependents-cells.result c.u.ensures.limits c.place_of-stripe.ensures.stripe
          c.place_of-stripe.ensures.place c.requires.together.some w.dependents-cells.ensures.formed w.dependents-cells.ensures.members
          (λ same. w.if-count-from.false (same ∙ sym (c.from.ensures ∙ c.u.ensures.value))))
    ]
