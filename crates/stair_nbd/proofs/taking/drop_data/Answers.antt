-- Some more came; the input ended within the bytes, or failed; or these were all.
use Rattle.std.proofs.Common.{◌≡◌, ◌+◌, ◌<◌, ◌≤◌, [], arith, length}
use Rattle.std.proofs.lemmas.List.{length-take-le}
use Rattle.stair_command.specs.Outside.{source_view}
use Rattle.stair_nbd.proofs.TakeLaws.{dropped_all, dropped_failed, dropped_more, dropped_none, dropped_short}
use Rattle.stair_nbd.proofs.taking.drop_data.Goals as goal

pub loop-dropped-init : goal.loop-dropped-init
loop-dropped-init g c = record {
  within = omega arith;
  so_far = dropped_none (source_view g.S.Source) c.args.input.now;
}

pub loop-dropped-preserved : goal.loop-dropped-preserved
loop-dropped-preserved g c =
    let most = c.min-most.result in
    let room : most ≤ length c.loop-dropped.buffer = omega (arith, c.min-most.ensures) in
    let left : c.loop-dropped.dropped + most ≤ c.args.count = omega (arith, c.min-most.ensures, c.loop-dropped.invariant.within) in
    let some : 0 < most = omega (arith, c.min-most.ensures, c.loop-dropped-test.true, c.loop-dropped.auto.buffer, c.requires.room) in
    let few : c.in-Enough.more ≤ most = omega (arith, c.in-Enough.ensures.1, c.take_at_least.auto.into, length-take-le most c.loop-dropped.buffer room) in
    record {
      within = omega (arith, few, left);
      so_far =
          dropped_more (source_view g.S.Source) c.args.input.now c.args.header c.args.count c.loop-dropped.dropped c.loop-dropped.input
          c.loop-dropped.invariant.so_far most c.take_at_least.new.input c.take_at_least.new.into c.in-Enough.more some c.in-Enough.ensures;
    }

pub returns-in-Short : goal.returns-in-Short
returns-in-Short g c =
    let most = c.min-most.result in
    let room : most ≤ length c.loop-dropped.buffer = omega (arith, c.min-most.ensures) in
    let left : c.loop-dropped.dropped + most ≤ c.args.count = omega (arith, c.min-most.ensures, c.loop-dropped.invariant.within) in
    let long : length c.take_at_least.new.into ≡ most = omega (arith, c.take_at_least.auto.into, length-take-le most c.loop-dropped.buffer room) in (
      [],
      λ k.
          dropped_short (source_view g.S.Source) c.args.input.now c.args.header c.args.count c.loop-dropped.dropped c.loop-dropped.input
          c.loop-dropped.invariant.so_far most c.take_at_least.new.input c.take_at_least.new.into k c.in-Short.more left long c.in-Short.ensures,
    )

pub returns-in-Failed : goal.returns-in-Failed
returns-in-Failed g c =
    let most = c.min-most.result in
    let left : c.loop-dropped.dropped + most ≤ c.args.count = omega (arith, c.min-most.ensures, c.loop-dropped.invariant.within) in (
      [],
      λ k.
          dropped_failed (source_view g.S.Source) c.args.input.now c.args.header c.args.count c.loop-dropped.dropped c.loop-dropped.input
          c.loop-dropped.invariant.so_far most c.take_at_least.new.input c.take_at_least.new.into k left c.in-Failed.ensures,
    )

pub returns : goal.returns
returns g c =
    dropped_all (source_view g.S.Source) c.args.input.now c.args.header c.args.count c.loop-dropped.dropped c.loop-dropped.input
    c.loop-dropped.invariant.so_far (omega (arith, c.loop-dropped-test.false, c.loop-dropped.invariant.within))
