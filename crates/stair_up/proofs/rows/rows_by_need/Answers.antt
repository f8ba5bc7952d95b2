-- A row more, which is erased or held, and all of them.
use Rattle.std.proofs.Common.{ℕ, swap, subst, sym, ap, ◌∙◌, arith}
use Rattle.std.proofs.lemmas.Bool.{false≢true}
use Rattle.stair_up.proofs.Exchanging.{HasExchanged, HasExchanged-none, HasExchanged-held, HasExchanged-more, AreRowsByNeed-all}
use Rattle.stair_up.proofs.rows.rows_by_need.Goals as goal
use Rattle.stair_up.proofs.rows.rows_by_need.Goals.{then-has, else-has}

pub loop-row-init : goal.loop-row-init
loop-row-init c =
    subst (λ (next : ℕ). HasExchanged c.args.erased.now c.args.slot c.args.r 0 next c.numbers_from-rows.result) (sym c.from-virtual_row.ensures)
    (HasExchanged-none c.args.erased.now c.args.slot c.args.r c.numbers_from-rows.result c.requires.rows
    c.numbers_from-rows.ensures.count (λ i below. omega (arith, c.numbers_from-rows.ensures.each i below)))

pub loop-row-preserved : goal.loop-row-preserved
loop-row-preserved c =
    elim c.if-has.branch [
      | then-has w ↦
          rw (w.virtual_row-is, w.rows-is)
          (HasExchanged-more c.args.erased.now c.args.slot c.args.r c.loop-row.row c.loop-row.virtual_row c.loop-row.rows w.swap.new.self
          c.requires.rows c.loop-row-test.true (c.has.ensures.member.0 w.if-has.true)
          (w.swap.ensures.after ∙ ap (λ (i : ℕ). swap c.loop-row.rows i c.loop-row.virtual_row) w.from.ensures) c.loop-row.invariant)
      | else-has w ↦
          rw (w.virtual_row-is, w.rows-is)
          (HasExchanged-held c.args.erased.now c.args.slot c.args.r c.loop-row.row c.loop-row.virtual_row c.loop-row.rows
          c.loop-row-test.true (λ has. false≢true (sym w.if-has.false ∙ c.has.ensures.member.1 has)) c.loop-row.invariant)
    ]

pub returns : goal.returns
returns c =
    AreRowsByNeed-all c.args.erased.now c.args.slot c.args.r c.loop-row.row c.loop-row.virtual_row c.loop-row.rows c.requires.rows
    (omega (arith, c.loop-row-test.false, c.loop-row.auto.row-end)) c.requires.inside c.loop-row.invariant
