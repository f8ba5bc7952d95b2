-- A medium that is noted, and a slot that is admitted.
use Rattle.std.proofs.Common.{◌≡◌, ◌<◌, ◌≤◌, ℕ, List, Option, ap, subst, sym, ◌∙◌, refl}
use Rattle.std.specs.Prelude.{Err, Ok, Result, slice_index_or}
use Rattle.std.specs.Result.{IsErrAnd}
use Rattle.stair_super.specs.Superblock.{Superblock}
use Rattle.stair_super.specs.declared.configuration.Configuration.{Configuration}
use Rattle.stair_member.specs.Establishing.{Joins}
use Rattle.stair_member.specs.Membership.{Membership}
use Rattle.stair_member.specs.Seeing.{Sees}
use Rattle.stair_member.specs.declared.aim.EpochChange.TheVariants.{Admit}
use Rattle.stair_member.specs.declared.fault.AdmitFault.{AdmitFault}
use Rattle.stair_member.specs.declared.fault.AdmitFault.TheVariants as admit
use Rattle.stair_member.specs.declared.why.Why.{Why}
use Rattle.stair_member.specs.declared.why.Why.TheVariants as why
use Rattle.stair_invariant.specs.Effects.{Snapshot}
use Rattle.stair_invariant.specs.Rebuilding.{Rebuild}
use Rattle.stair_array.specs.Arrays.{IsUnderWay}
use Rattle.stair_array.specs.MendingCalls.{AdmitsSlot, admitted_as}
use Rattle.stair_array.specs.Mends.{joined_as}

-- a rebuild goes on as it was
pub under_seen : (j : ℕ) (first second : Option Superblock) (m seen : Membership) → Sees j first second m seen → (rebuild : Option Rebuild)
    → IsUnderWay m rebuild → IsUnderWay seen rebuild
under_seen j first second m seen sees rebuild under one is =
    let at = under one is in (
      record {
        below = subst (λ (c : Configuration). one.slot < c.geometry.n) (sym sees.array) at.0.below;
        why = ap (λ (whys : List Why). slice_index_or whys one.slot why.Here) sees.whys ∙ at.0.why;
      },
      subst (λ (c : Configuration). one.stripe ≤ c.geometry.stripes) (sym sees.array) at.1,
    )

-- an admission that was refused
pub admits_refused : (slot : ℕ) (x y : Snapshot) (result : Result (Unit {0}) AdmitFault) (fault : AdmitFault) → IsErrAnd result (λ e. e ≡ fault)
    → Joins (Admit slot) slot x.member y.member (Err fault) x.told y.told → AdmitsSlot slot (admitted_as result) x y
admits_refused slot x y (Ok done) fault is joins = absurd is
admits_refused slot x y (Err e) fault same joins =
    rw (ap (λ (f : AdmitFault). admitted_as (Err f)) same ∙ alike fault) (AdmitsSlot.Joined (Err fault) x y joins)
  where
    alike : (f : AdmitFault) → admitted_as (Err f) ≡ joined_as (Err f)
    alike (admit.TooFew whys) = refl
    alike admit.EpochsSpent = refl
    alike (admit.Gone at) = refl
