-- Each answer by its status.
use Rattle.std.proofs.Common.{◌≡◌, ℕ, ◌+◌, ◌*◌, ◌<◌, ◌≤◌, refl, subst, sym, ap₂, ◌∙◌, arith}
use Rattle.stair_model.specs.Cell.{IsPlaceOf}
use Rattle.stair_model.specs.Geometry.{Geometry, IsFirstBrokenLimit, block_count}
use Rattle.stair_c.specs.Statuses.{Places, IsSectorOf}
use Rattle.stair_c.specs.Statuses.Places.{done, limit, size}
use Rattle.stair_c.proofs.exports.stair_place.Goals as goal

pub returns-in-Err : goal.returns-in-Err
returns-in-Err c =
    limit c.from.result (subst (IsFirstBrokenLimit _) (sym c.from.ensures) c.in-Err.ensures.err) refl refl

pub returns-then-block-blocks : goal.returns-then-block-blocks
returns-then-block-blocks c =
    let past : block_count c.in-Ok.geometry ≤ c.args.block = omega (arith, c.blocks-2.ensures.value, c.if-block-blocks.true) in
    subst (λ (g : Geometry). Places g c.args.block c.args.slot.now c.args.slot.now c.args.sector.now c.args.sector.now 9)
    c.in-Ok.ensures.ok (size c.blocks-2.ensures.limits past refl refl)

pub returns : goal.returns
returns c =
    let below : c.args.block < block_count c.in-Ok.geometry = omega (arith, c.blocks-2.ensures.value, c.if-block-blocks.false) in
    let place : IsPlaceOf c.in-Ok.geometry c.args.block c.place_of-place.result.stripe c.place_of-place.result.row c.from-2.result =
    subst (λ (j : ℕ). IsPlaceOf c.in-Ok.geometry c.args.block c.place_of-place.result.stripe c.place_of-place.result.row j)
    (sym c.from-2.ensures) c.place_of-place.ensures.place in
    let sector : c.from-3.result * c.from-4.result + c.from-5.result ≡ c.place_of-place.result.stripe * c.in-Ok.geometry.r + c.place_of-place.result.row =
    ap₂ (λ (a b : ℕ). a + b) (ap₂ (λ (a b : ℕ). a * b) c.from-3.ensures (c.from-4.ensures ∙ c.r.ensures.value)) c.from-5.ensures in
    let at : IsSectorOf c.in-Ok.geometry c.args.block c.from-2.result (c.from-3.result * c.from-4.result + c.from-5.result) = record {
      stripe = c.place_of-place.result.stripe;
      row = c.place_of-place.result.row;
      within = c.place_of-place.ensures.stripe;
      place = place;
      sector_is = sector;
    } in
    subst (λ (g : Geometry). Places g c.args.block c.args.slot.now c.from-2.result c.args.sector.now (c.from-3.result * c.from-4.result + c.from-5.result) 0)
    c.in-Ok.ensures.ok (done c.blocks-2.ensures.limits below at)
