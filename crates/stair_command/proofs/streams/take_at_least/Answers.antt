-- One take more; an end or a fault within the piece; and a piece that is long enough.
use Rattle.std.proofs.Common.{◌≡◌, ◌-◌, ◌<◌, ◌≤◌, rules, arith, le_refl, length, refl, take}
use Rattle.std.proofs.lemmas.List.{length-take-le}
use Rattle.std.proofs.lemmas.Slice.{take-put_mid_below}
use Rattle.stair_rack.specs.declared.source.Taken.TheVariants.{Bytes, End, Failed}
use Rattle.stair_command.specs.Outside.{source_view}
use Rattle.stair_command.specs.Taking.{TookSoFar}
use Rattle.stair_command.proofs.IntakeLaws.{Gives-ended, Gives-take, Gives-took, Gives-unfinished, TookSoFar-more, TookSoFar-none, TookSoFar-took}
use Rattle.stair_command.proofs.StreamLaws.{take-put_mid_more}
use Rattle.stair_command.proofs.streams.take_at_least.Goals as goal

pub loop-filled-preserved : goal.loop-filled-preserved
loop-filled-preserved g c =
    let view = source_view g.S.Source in
    let into = c.loop-filled.into in
    let filled = c.loop-filled.filled in
    let few : c.in-Bytes.count ≤ length c.take.new.into = omega (arith, c.in-Bytes.ensures.within.1, c.take.auto.into) in
    let more : Bytes c.in-Bytes.count ≡ End → ⊥ = λ same. cc in
    let piece : TookSoFar view (take c.in-Bytes.count c.take.new.into) c.loop-filled.input c.take.new.self =
    TookSoFar-took view _ _ _
    (Gives-take view (take c.in-Bytes.count c.take.new.into) c.loop-filled.input c.take.new.self c.in-Bytes.ensures.bytes c.take.ensures.count
    (λ ended. more (c.in-Bytes.ensures.stays_ended ended)) (λ ended. more (c.in-Bytes.ensures.ends.0 ended)))
    in
    record {
      within = search rules;
      taken =
          rw (take-put_mid_more filled c.in-Bytes.count (length into - filled) into c.take.new.into c.loop-filled.invariant.within few)
          (TookSoFar-more view _ _ _ _ _ c.loop-filled.invariant.taken piece);
    }

pub loop-filled-init : goal.loop-filled-init
loop-filled-init g c = record {
  within = omega arith;
  taken = TookSoFar-none (source_view g.S.Source) c.args.input.now;
}

pub returns-in-End : goal.returns-in-End
returns-in-End g c =
    let view = source_view g.S.Source in
    let into = c.loop-filled.into in
    let filled = c.loop-filled.filled in (
      c.loop-filled-test.true,
      rw (take-put_mid_below filled (length into - filled) into c.take.new.into filled (le_refl filled) c.loop-filled.invariant.within)
          (Gives-ended view (take filled into) _ _ _ c.loop-filled.invariant.taken c.in-End.ensures.bytes.0 c.in-End.ensures.bytes.1 c.take.ensures.count
          (c.in-End.ensures.ends.1 refl)),
    )

pub returns-in-Failed : goal.returns-in-Failed
returns-in-Failed g c =
    let view = source_view g.S.Source in
    let into = c.loop-filled.into in
    let filled = c.loop-filled.filled in
    let other : Failed ≡ End → ⊥ = λ same. cc in
    let few : length (take filled into) < c.args.least =
    omega (arith, length-take-le filled into c.loop-filled.invariant.within, c.loop-filled-test.true) in (
      take filled into,
      few,
      Gives-unfinished view (take filled into) _ _ _ c.loop-filled.invariant.taken c.in-Failed.ensures.bytes c.take.ensures.count
          (λ ended. other (c.in-Failed.ensures.stays_ended ended)) (λ ended. other (c.in-Failed.ensures.ends.0 ended)) (c.in-Failed.ensures.failed refl),
    )

pub returns : goal.returns
returns g c =
    let view = source_view g.S.Source in
    let into = c.loop-filled.into in
    let filled = c.loop-filled.filled in
    let some : 0 < length (take filled into) =
    omega (arith, length-take-le filled into c.loop-filled.invariant.within, c.loop-filled-test.false, c.requires.some) in
    (c.loop-filled-test.false, c.loop-filled.invariant.within, Gives-took view (take filled into) _ _ some c.loop-filled.invariant.taken)
