-- The encoded stripe keeps the blocks.
use Rattle.std.proofs.Common.{subst}
use Rattle.stair_model.specs.Geometry.{IsWithinLimits}
use Rattle.stair_std.specs.UnitsSteps.{AreUnitBlocks}
use Rattle.stair_std.proofs.UnitStripes.{AreUnits-encoded}
use Rattle.stair_std.proofs.units.encode_units.Goals as goal

pub returns-clause-units : goal.returns-clause-units
returns-clause-units c =
    AreUnits-encoded _ _ _ _ (subst IsWithinLimits c.geometry.ensures c.put_unit_blocks.ensures.limits)
    (subst (λ g. AreUnitBlocks g c.args.first c.put_unit_blocks.new.stripe) c.geometry.ensures c.put_unit_blocks.ensures.units)
    c.encode_uncounted.ensures.encoded
