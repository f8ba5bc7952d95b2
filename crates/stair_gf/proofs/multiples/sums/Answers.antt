-- Four sums more, and the last ones.
use Rattle.std.proofs.Common.{◌≡◌, ◌+◌, ◌*◌, arith}
use Rattle.stair_gf.proofs.MultipleLaws.{SetsSums-last, SetsSumsWithin-more}
use Rattle.stair_gf.proofs.multiples.sums.Goals as goal

pub loop-four-preserved : goal.loop-four-preserved
loop-four-preserved c =
    let next : 4 * c.loop-four.four + 4 ≡ 4 * (c.loop-four.four + 1) = omega arith in
    rw (← next)
    (SetsSumsWithin-more c.args.symbols.now c.loop-four.symbols c.sums_of.new.symbols c.args.into.now c.args.from.now c.args.by.now c.args.width
    0 (4 * c.loop-four.four) (4 * c.loop-four.four + 4) c.requires.apart (omega arith) (omega arith) (omega (arith, c.loop-four-test.true))
    c.loop-four.invariant c.sums_of.ensures)

pub returns-in-3 : goal.returns-in-3
returns-in-3 c =
    SetsSums-last c.args.symbols.now c.loop-four.symbols c.sums_of-in-3.new.symbols c.args.into.now c.args.from.now c.args.by.now c.args.width
    (4 * c.loop-four.four) _ _ c.requires.apart (omega (arith, c.loop-four-test.false, c.loop-four.auto.four-end)) (omega (arith, c.in-3.is)) (omega arith)
    c.loop-four.invariant c.sums_of-in-3.ensures

pub returns-in-2 : goal.returns-in-2
returns-in-2 c =
    SetsSums-last c.args.symbols.now c.loop-four.symbols c.sums_of-in-2.new.symbols c.args.into.now c.args.from.now c.args.by.now c.args.width
    (4 * c.loop-four.four) _ _ c.requires.apart (omega (arith, c.loop-four-test.false, c.loop-four.auto.four-end)) (omega (arith, c.in-2.is)) (omega arith)
    c.loop-four.invariant c.sums_of-in-2.ensures

pub returns-in-1 : goal.returns-in-1
returns-in-1 c =
    SetsSums-last c.args.symbols.now c.loop-four.symbols c.one_sum.new.symbols c.args.into.now c.args.from.now c.args.by.now c.args.width
    (4 * c.loop-four.four) _ _ c.requires.apart (omega (arith, c.loop-four-test.false, c.loop-four.auto.four-end)) (omega (arith, c.in-1.is)) (omega arith)
    c.loop-four.invariant c.one_sum.ensures
