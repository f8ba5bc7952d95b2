-- Each answer by its status.
use Rattle.std.proofs.Common.{◌≡◌, ℕ, List, inl, inr, refl, subst, sym}
use Rattle.stair_model.specs.Geometry.{Geometry, IsFirstBrokenLimit, IsWithinLimits}
use Rattle.stair_c.specs.Restores.{Restores}
use Rattle.stair_c.specs.Restores.Restores.{done, limit, lost, memory, size}
use Rattle.stair_c.proofs.restore.stair_restore.Goals as goal

-- what holds by the geometry that was made holds by the numbers that were handed in
by_numbers : {g h : Geometry} {erased : List ℕ} {old new : List (List ℕ)} {status : ℕ} → g ≡ h → IsWithinLimits h
    → (IsWithinLimits g → Restores g erased old new status) → Restores h erased old new status
by_numbers {erased = erased} {old = old} {new = new} {status = status} same limits so =
    subst (λ (x : Geometry). Restores x erased old new status) same (so (subst IsWithinLimits (sym same) limits))

pub returns-in-Err : goal.returns-in-Err
returns-in-Err c =
    limit c.from.result (subst (IsFirstBrokenLimit _) (sym c.from.ensures) c.in-Err.ensures.err) refl

pub returns-in_default : goal.returns-in_default
returns-in_default c =
    by_numbers c.in-Ok.ensures.ok (c.in-Ok.ensures.within.0 refl) (λ limits. size limits (inl c.in_default.ensures.none) refl)

pub returns-then-erased-sectors : goal.returns-then-erased-sectors
returns-then-erased-sectors c =
    by_numbers c.in-Ok.ensures.ok (c.in-Ok.ensures.within.0 refl) (λ limits. size limits (inr c.if-erased-sectors.true) refl)

pub returns-in-Some-first_lost : goal.returns-in-Some-first_lost
returns-in-Some-first_lost c =
    by_numbers c.in-Ok.ensures.ok (c.in-Ok.ensures.within.0 refl)
    (λ limits. lost limits c.in-Some.count c.in-Some-first_lost._stripe c.in-Some.ensures.some c.if-erased-sectors.false
    c.in-Some-first_lost.ensures.below c.in-Some-first_lost.ensures.lost refl)

pub returns-in_default-new : goal.returns-in_default-new
returns-in_default-new c = memory (c.in-Ok.ensures.within.0 refl) refl

pub returns-in_default-new-2 : goal.returns-in_default-new-2
returns-in_default-new-2 c = memory (c.in-Ok.ensures.within.0 refl) refl

pub returns : goal.returns
returns c =
    by_numbers c.in-Ok.ensures.ok (c.in-Ok.ensures.within.0 refl)
    (λ limits. done limits c.in-Some.count c.in-Some.ensures.some c.restore_each.ensures.whole c.if-erased-sectors.false
    c.restore_each.ensures.restored)
