-- The next slot counts for an array that stands, or doesn't.
use Rattle.std.proofs.Common.{◌≡◌, arith, ap, sym, ◌∙◌}
use Rattle.std.specs.Prelude.{is_some}
use Rattle.std.proofs.lemmas.Bool.{false≢true}
use Rattle.stair_member.proofs.JudgeLemmas.{first_none, first_some, none_below_more, none_if}
use Rattle.stair_member.proofs.judge.first_standing.Goals as goal

pub returns-then-is_some : goal.returns-then-is_some
returns-then-is_some c image shows =
    first_some c.args.but image c.loop-slot.slot c.standing_at-standing.result (c.loop-slot.invariant image shows)
    (c.standing_at-standing.ensures image shows)
    (λ none. false≢true (sym (ap is_some none) ∙ sym c.is_some.ensures ∙ c.if-is_some.true))

pub loop-slot-preserved : goal.loop-slot-preserved
loop-slot-preserved c image shows =
    none_below_more c.args.but image c.loop-slot.slot c.standing_at-standing.result (c.loop-slot.invariant image shows)
    (c.standing_at-standing.ensures image shows)
    (none_if c.standing_at-standing.result (sym c.is_some.ensures ∙ c.if-is_some.false))

pub returns : goal.returns
returns c image shows =
    let all : c.loop-slot.slot ≡ 32 = omega arith in
    first_none c.args.but image (λ j below. c.loop-slot.invariant image shows j (omega (arith, all, below)))
