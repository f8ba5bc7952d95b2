use Rattle.std.proofs.Common.{◌+◌, ◌*◌, slice_index, ap}
use Rattle.stair_model.specs.Field.{product}
use Rattle.stair_gf.proofs.LaneLaws.{AreLanes-itself, AreLanes-same, places_ok, products_by_halves}
use Rattle.stair_gf.proofs.lanes.Factor.times_halves.Goals as goal

pub swizzle-products : goal.swizzle-products
swizzle-products c = places_ok (AreLanes-itself c.args.low c.fits-low.0) c.requires.low

pub swizzle : goal.swizzle
swizzle c = places_ok (AreLanes-itself c.args.high c.fits-high.0) c.requires.high

pub returns : goal.returns
returns c =
    AreLanes-same (products_by_halves _ c.args.low c.args.high c.self.invariant c.four_times.ensures c.four_times-2.ensures c.fits-low.0 c.fits-high.0 c.requires.low c.requires.high)
    (λ k h. ap (λ by. product by (slice_index c.args.high k * 16 + slice_index c.args.low k)) c.self.view_is)
