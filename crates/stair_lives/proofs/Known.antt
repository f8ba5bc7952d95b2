-- Members whose marks say what is known of their slots.
use Rattle.std.proofs.Common.{◌≡◌, ◌∙◌, ◌⊎◌, ◌<◌, ℕ, inl, inr, refl, sym, ap, subst}
use Rattle.std.proofs.lemmas.Bool.{cases_lt}
use Rattle.std.specs.Prelude.{◌≢◌}
use Rattle.stair_super.specs.Superblock.{mark_in}
use Rattle.stair_super.specs.declared.mark.Mark.{Mark}
use Rattle.stair_super.specs.declared.mark.Mark.TheVariants as mark
use Rattle.stair_member.specs.Aims.{mark_for}
use Rattle.stair_member.specs.Membership.{IsHere, IsMembership, Membership, why_of}
use Rattle.stair_member.specs.declared.why.Why.{Why}
use Rattle.stair_member.specs.declared.why.Why.TheVariants as why
use Rattle.stair_invariant.proofs.SeatLemmas.{listed_member, past_down}

pub record IsKnown (m : Membership) : Type 0 where
  pub rules : IsMembership m
  pub marks : (j : ℕ) → j < m.array.geometry.n → mark_in m.array j ≡ mark_for (why_of m j)

taking : (w : Why) → mark_for w ≢ mark.Down → (w ≡ why.Here) ⊎ (w ≡ why.Rebuilding)
taking why.Here up = inl refl
taking why.Rebuilding up = inr refl
taking _ up = absurd (up refl)

pub here_up : (m : Membership) → IsKnown m → (j : ℕ) → mark_in m.array j ≢ mark.Down → IsHere m j
here_up m known j up =
    elim (cases_lt j m.array.geometry.n) [
      | inl below ↦ record {
        below = below;
        why = taking (why_of m j) (subst (λ (x : Mark). x ≢ mark.Down) (known.marks j below) up);
      }
      | inr past ↦ absurd (up (past_down m.array j (listed_member m known.rules) past))
    ]

pub up_here : (m : Membership) → IsKnown m → (j : ℕ) → IsHere m j → mark_in m.array j ≢ mark.Down
up_here m known j here down =
    let is : mark_for (why_of m j) ≡ mark.Down = sym (known.marks j here.below) ∙ down in
    elim here.why [
      | inl live ↦ let never : ◌≡◌ {A = Mark} mark.Live mark.Down = sym (ap mark_for live) ∙ is in absurd (cc)
      | inr rebuilt ↦ let never : ◌≡◌ {A = Mark} mark.Rebuilding mark.Down = sym (ap mark_for rebuilt) ∙ is in absurd (cc)
    ]
