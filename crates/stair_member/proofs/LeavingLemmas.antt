-- A call begins likewise with the member of which some slots leave.
use Rattle.std.proofs.Common.{◌≡◌, ◌⊎◌, ◌<◌, ℕ, List, inl, inr, ap, subst, arith, Option}
use Rattle.std.specs.Prelude.{slice_index}
use Rattle.stair_model.specs.Slots.{Slots}
use Rattle.stair_rack.specs.History.{Happening}
use Rattle.stair_super.specs.declared.configuration.Configuration.{Configuration}
use Rattle.stair_member.specs.Establishing.{Leaves}
use Rattle.stair_member.specs.Fencing.{IsBegun}
use Rattle.stair_member.specs.Membership.{Membership, IsHere, IsMembership, why_of}
use Rattle.stair_member.specs.declared.why.Why.{Why}
use Rattle.stair_member.specs.declared.why.Why.TheVariants as why
use Rattle.stair_member.proofs.AttemptLemmas.{gone_down}
use Rattle.stair_member.proofs.LikewiseLemmas.{begun_likewise}
use Rattle.stair_member.proofs.CountingLemmas.{has_or_not}

module _ (joining : Option ℕ) (leaving : Slots) (m start : Membership) (leaves : Leaves leaving m start) where
  -- no slot comes to be here
  here_before : (j : ℕ) → IsHere start j → IsHere m j
  here_before j here =
      elim (has_or_not leaving j) [
        | inl has ↦ absurd (gone_down (why_of start j) (leaves.left j has) here.why)
        | inr stays ↦
            record {
              below = subst (λ (a : Configuration). j < a.geometry.n) leaves.array here.below;
              why = subst (λ (w : Why). (w ≡ why.Here) ⊎ (w ≡ why.Rebuilding)) (leaves.others j stays) here.why;
            }
      ]

  pub left : (h : List Happening) → IsMembership start → IsBegun joining m h → IsBegun joining start h
  left =
      begun_likewise joining m start leaves.array here_before (λ j here. ap (λ (l : List ℕ). slice_index l j) leaves.places)
      (let drawn = leaves.drawn in omega arith)
