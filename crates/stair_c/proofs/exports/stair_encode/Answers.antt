-- Each answer by its status.
use Rattle.std.proofs.Common.{ℕ, ◌<◌, refl, subst}
use Rattle.stair_model.specs.Geometry.{Geometry, IsWithinLimits}
use Rattle.stair_c.specs.Chunks.{HasStripes, IsEncodedAt}
use Rattle.stair_c.specs.Statuses.Encodes.{done, limit, unknown, size, memory}
use Rattle.stair_c.proofs.exports.stair_encode.Goals as goal

pub returns-in-Err : goal.returns-in-Err
returns-in-Err c =
    limit c.in-Err.limit c.in-Err.ensures.err refl

pub returns-in_default : goal.returns-in_default
returns-in_default c = unknown (subst IsWithinLimits c.in-Ok.ensures.ok c.in-Ok.ensures.within) c.in_default.ensures.none refl

pub returns-in_default-stripe_count : goal.returns-in_default-stripe_count
returns-in_default-stripe_count c =
    size (subst IsWithinLimits c.in-Ok.ensures.ok c.in-Ok.ensures.within) c.in-Some.ensures.some
    (subst (λ (g : Geometry). (k : ℕ) → ¬ HasStripes g k c.args.sectors.now) c.in-Ok.ensures.ok c.in_default-stripe_count.ensures.none) refl

pub returns-in_default-new : goal.returns-in_default-new
returns-in_default-new c =
    memory (subst IsWithinLimits c.in-Ok.ensures.ok c.in-Ok.ensures.within) c.in-Some.ensures.some refl

pub returns-in_default-prepare : goal.returns-in_default-prepare
returns-in_default-prepare c =
    memory (subst IsWithinLimits c.in-Ok.ensures.ok c.in-Ok.ensures.within) c.in-Some.ensures.some refl

pub returns : goal.returns
returns c =
    let k = c.in-Some-stripe_count.count in
    done (subst IsWithinLimits c.in-Ok.ensures.ok c.in-Ok.ensures.within) c.in-Some.ensures.some k
    (subst (λ (g : Geometry). HasStripes g k c.args.sectors.now) c.in-Ok.ensures.ok c.in-Some-stripe_count.ensures.some)
    (subst (λ (g : Geometry). HasStripes g k c.encode_each.new.sectors) c.in-Ok.ensures.ok c.encode_each.ensures.whole)
    (subst (λ (g : Geometry). (s : ℕ) → s < k → IsEncodedAt g k c.args.sectors.now c.encode_each.new.sectors s) c.in-Ok.ensures.ok
    c.encode_each.ensures.encoded)
