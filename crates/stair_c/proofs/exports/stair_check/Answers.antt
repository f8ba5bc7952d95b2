-- Each answer by its status.
use Rattle.std.proofs.Common.{ℕ, ◌<◌, refl, subst}
use Rattle.stair_model.specs.Geometry.{Geometry, IsWithinLimits}
use Rattle.stair_c.specs.Chunks.{HasStripes, IsCodewordAt}
use Rattle.stair_c.specs.Statuses.Checks.{sound, broken, limit, size, memory}
use Rattle.stair_c.proofs.exports.stair_check.Goals as goal

pub returns-in-Err : goal.returns-in-Err
returns-in-Err c =
    limit c.in-Err.limit c.in-Err.ensures.err refl

pub returns-in_default : goal.returns-in_default
returns-in_default c =
    size (subst IsWithinLimits c.in-Ok.ensures.ok c.in-Ok.ensures.within)
    (subst (λ (g : Geometry). (k : ℕ) → ¬ HasStripes g k c.args.sectors.now) c.in-Ok.ensures.ok c.in_default.ensures.none) refl

pub returns-in_default-new : goal.returns-in_default-new
returns-in_default-new c = memory (subst IsWithinLimits c.in-Ok.ensures.ok c.in-Ok.ensures.within) refl

pub returns-in-None : goal.returns-in-None
returns-in-None c =
    sound (subst IsWithinLimits c.in-Ok.ensures.ok c.in-Ok.ensures.within) c.in-Some.count
    (subst (λ (g : Geometry). HasStripes g c.in-Some.count c.args.sectors.now) c.in-Ok.ensures.ok c.in-Some.ensures.some)
    (subst (λ (g : Geometry). (s : ℕ) → s < c.in-Some.count → IsCodewordAt g c.in-Some.count c.args.sectors.now s) c.in-Ok.ensures.ok
    c.in-None.ensures.none)
    refl

pub returns : goal.returns
returns c =
    let k = c.in-Some.count in
    let first = c.in-Some-first_broken_stripe in
    broken (subst IsWithinLimits c.in-Ok.ensures.ok c.in-Ok.ensures.within) k
    (subst (λ (g : Geometry). HasStripes g k c.args.sectors.now) c.in-Ok.ensures.ok c.in-Some.ensures.some) first.ensures.below
    (subst (λ (g : Geometry). (s : ℕ) → s < first.number → IsCodewordAt g k c.args.sectors.now s) c.in-Ok.ensures.ok first.ensures.earlier)
    (subst (λ (g : Geometry). ¬ IsCodewordAt g k c.args.sectors.now first.number) c.in-Ok.ensures.ok first.ensures.broken)
