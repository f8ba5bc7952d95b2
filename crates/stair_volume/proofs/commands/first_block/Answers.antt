-- The range ends within the array, so the sum is not cut off.
use Rattle.std.proofs.Common.{◌∙◌, ◌≡◌, ◌+◌, ◌≤◌, ◌<◌, Some, arith, sym}
use Rattle.std.proofs.lemmas.Bool.{ltb-false}
use Rattle.stair_volume.specs.Table.{find_in}
use Rattle.stair_volume.proofs.ChangingLaws.{found_ok}
use Rattle.stair_volume.proofs.VolumeLaws.{range_fits, range_within}
use Rattle.stair_volume.proofs.commands.first_block.Goals.{else-count-gt0-via-then-count-gt0+else-count-limit, then-block-limit, else-block-limit, else-count-gt0-via-else-count-gt0}
use Rattle.stair_volume.proofs.commands.first_block.Goals as goal

-- the blocks of the volume
found : (c : goal.After-saturating_add) → find_in c.args.table.now.entries c.args.name ≡ Some c.in_ok-extent.extent
found c = sym c.find.ensures ∙ found_ok c.find.result c.ok_or.result c.in_ok-extent.extent c.ok_or.ensures.value c.in_ok-extent.was

-- which has the range
inside : (c : goal.After-saturating_add) → 0 < c.args.count → c.args.block + c.args.count ≤ c.in_ok-extent.extent.blocks
inside c some =
    elim c.else-count-gt0.branch [
      | else-count-gt0-via-then-count-gt0+else-count-limit w ↦ elim w.if-block-limit.branch [
        | then-block-limit past ↦ absurd (omega (arith, ltb-false _ _ (sym past.value-is ∙ w.if-count-limit.false), past.if-block-limit.true))
        | else-block-limit within ↦ omega (arith, ltb-false _ _ (sym within.value-is ∙ w.if-count-limit.false), within.if-block-limit.false)
      ]
      | else-count-gt0-via-else-count-gt0 w ↦ absurd (omega (arith, some, w.if-count-gt0.false))
    ]

pub returns-clause-ok : goal.returns-clause-ok
returns-clause-ok c = record {
  extent = c.in_ok-extent.extent;
  found = found c;
  within = inside c;
  is = λ some. omega (arith, c.saturating_add.ensures, range_fits c.args.table.now c.args.name c.in_ok-extent.extent c.args.block c.args.count c.entries.ensures.rules (found c) (inside c some));
}

pub returns-clause-fits : goal.returns-clause-fits
returns-clause-fits c some =
    omega (arith, c.saturating_add.ensures, range_fits c.args.table.now c.args.name c.in_ok-extent.extent c.args.block c.args.count c.entries.ensures.rules (found c) (inside c some))

pub returns-clause-within : goal.returns-clause-within
returns-clause-within c some =
    omega (
      arith,
      c.saturating_add.ensures,
      range_fits c.args.table.now c.args.name c.in_ok-extent.extent c.args.block c.args.count c.entries.ensures.rules (found c) (inside c some),
      range_within c.args.table.now c.args.name c.in_ok-extent.extent c.args.block c.args.count c.entries.ensures.rules (found c) (inside c some),
    )
