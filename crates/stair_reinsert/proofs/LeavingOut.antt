-- Slots that were gone are left out, if there are any: what is so before that, and throughout a fence, is so at each moment of it.
use Rattle.std.proofs.Common.{List, Option, Result, subst, sym}
use Rattle.stair_model.specs.Slots.{Slots}
use Rattle.stair_rack.specs.History.{Happening}
use Rattle.stair_rack.specs.Moments.{IsMoment}
use Rattle.stair_rack.specs.RackState.{RackState}
use Rattle.stair_rack.proofs.MomentLemmas.{at_every_none, at_moment}
use Rattle.stair_member.specs.Establishing.{Fences}
use Rattle.stair_member.specs.Membership.{Membership}
use Rattle.stair_member.specs.declared.fault.FenceFault.{FenceFault}
use Rattle.stair_invariant.specs.Effects.{Fenced, FencesGone, NoneWas, Snapshot, snapshot}

module _ {gone : Slots} {refusal : Option FenceFault} {m : Membership} {old : RackState} {y : Snapshot} (leaves : FencesGone gone refusal (snapshot m old) y)
    (P : List Happening → Type 0) (first : P old.history) where
  pub throughout : ((answer : Result Slots FenceFault) → Fences gone m y.member answer old y.told → (c : List Happening)
      → IsMoment old.history c y.told.history → P c) → (c : List Happening) → IsMoment old.history c y.told.history → P c
  throughout fenced c at = by leaves
    where
      by : FencesGone gone refusal (snapshot m old) y → P c
      by (NoneWas out same fine) =
          at_moment {P = P} (at_every_none {P = P} old.history first) (subst (λ (z : Snapshot). IsMoment old.history c z.told.history) same at)
      by (Fenced j has answer fine fences) = fenced answer fences c at

  -- and in the end
  pub ended : ((answer : Result Slots FenceFault) → Fences gone m y.member answer old y.told → P y.told.history) → P y.told.history
  ended fenced = by leaves
    where
      by : FencesGone gone refusal (snapshot m old) y → P y.told.history
      by (NoneWas out same fine) = subst (λ (z : Snapshot). P z.told.history) (sym same) first
      by (Fenced j has answer fine fences) = fenced answer fences
