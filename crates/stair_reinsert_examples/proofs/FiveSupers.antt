-- Superblocks of the five devices of an example, and what an epoch names of them.
use Rattle.std.proofs.Common.{◌≡◌, ◌≢◌, ℕ, zero, suc, ◌<◌, ◌≤◌, ◌^◌, List, [], ◌∷◌, refl, sym, subst₂, arith, replicate, slice_index_or, true, false}
use Rattle.std.proofs.lemmas.List.{get_or-replicate}
use Rattle.std.proofs.lemmas.List.Elements.{All-nil}
use Rattle.stair_rack.specs.History.{Attach, Called, Happening, Read}
use Rattle.stair_rack.specs.declared.rack.Got.TheVariants as got
use Rattle.stair_rack.specs.declared.rack.Reply.TheVariants.{Done, Gone}
use Rattle.stair_super.specs.Label.{IsPrintable}
use Rattle.stair_super.specs.Superblock.{IsConfiguration, IsJoined, IsSuperblock, joined_in, mark_in}
use Rattle.stair_super.specs.declared.mark.Mark.{Mark}
use Rattle.stair_super.specs.declared.mark.Mark.TheVariants.{Down}
use Rattle.stair_member.specs.Editions.{copy_of}
use Rattle.stair_reinsert.specs.Misled.{looked_at, naming}
use Rattle.stair_reinsert.specs.Still.{IsStill}
use Rattle.stair_reinsert_examples.proofs.FiveDevices.{five_limits}
use Rattle.stair_reinsert_examples.proofs.FiveSurvey.{five_cases, past_five}

-- a slot past the five that a set has
pub past_has : (a b c d e : _) (j : ℕ) → 5 ≤ j → j < 32 → slice_index_or (a ∷ b ∷ c ∷ d ∷ e ∷ replicate 27 true) j false ≡ true
past_has a b c d e zero past small = absurd (omega (arith, past))
past_has a b c d e (suc zero) past small = absurd (omega (arith, past))
past_has a b c d e (suc (suc zero)) past small = absurd (omega (arith, past))
past_has a b c d e (suc (suc (suc zero))) past small = absurd (omega (arith, past))
past_has a b c d e (suc (suc (suc (suc zero)))) past small = absurd (omega (arith, past))
past_has a b c d e (suc (suc (suc (suc (suc i))))) past small = get_or-replicate 27 i true false (omega (arith, small))

-- and one that it doesn't
pub past_none : (a b c d e : _) (j : ℕ) → 5 ≤ j → slice_index_or (a ∷ b ∷ c ∷ d ∷ e ∷ replicate 27 false) j false ≡ false
past_none a b c d e j past = past_five a b c d e false j past

-- two looks
pub call_still : (h : List Happening) (j : ℕ) → IsStill h (Called j (Attach Gone) ∷ h)
call_still h j = record { more = Called j (Attach Gone) ∷ []; is = refl; each = (tt, tt) }

pub look_still : (h : List Happening) (j : ℕ) → IsStill h (looked_at j h)
look_still h j = record {
  more = Called j (Read 1 got.Good) ∷ Called j (Read 0 got.Good) ∷ Called j (Attach Done) ∷ [];
  is = refl;
  each = (((tt, tt), tt), tt);
}

module _ (epoch : ℕ) (a b c d e : Mark) (p q r s t : ℕ) (begun : 1 ≤ epoch) (first : IsJoined a p epoch) (second : IsJoined b q epoch)
    (third : IsJoined c r epoch) (fourth : IsJoined d s epoch) (fifth : IsJoined e t epoch) where
  pub named : IsConfiguration (naming epoch (a ∷ b ∷ c ∷ d ∷ e ∷ []) (p ∷ q ∷ r ∷ s ∷ t ∷ []))
  named = record {
    limits = five_limits;
    begun = begun;
    entries = λ j small. entries j;
    absent = λ j past small. past_five a b c d e Down j past;
  }
    where
      entries : (j : ℕ) → IsJoined (mark_in (naming epoch (a ∷ b ∷ c ∷ d ∷ e ∷ []) (p ∷ q ∷ r ∷ s ∷ t ∷ [])) j)
          (joined_in (naming epoch (a ∷ b ∷ c ∷ d ∷ e ∷ []) (p ∷ q ∷ r ∷ s ∷ t ∷ [])) j) epoch
      entries =
          five_cases
          (λ j. IsJoined (mark_in (naming epoch (a ∷ b ∷ c ∷ d ∷ e ∷ []) (p ∷ q ∷ r ∷ s ∷ t ∷ [])) j)
          (joined_in (naming epoch (a ∷ b ∷ c ∷ d ∷ e ∷ []) (p ∷ q ∷ r ∷ s ∷ t ∷ [])) j) epoch) first second third fourth fifth
          (λ j past.
          subst₂ (λ (mark : Mark) (joined : ℕ). IsJoined mark joined epoch) (sym (past_five a b c d e Down j past)) (sym (past_five p q r s t 0 j past))
          refl)

  pub named_super : (draw j : ℕ) → draw < 2 ^ 64 → epoch ≤ draw → j < 5
      → mark_in (naming epoch (a ∷ b ∷ c ∷ d ∷ e ∷ []) (p ∷ q ∷ r ∷ s ∷ t ∷ [])) j ≢ Down
      → IsSuperblock (copy_of (record { array = naming epoch (a ∷ b ∷ c ∷ d ∷ e ∷ []) (p ∷ q ∷ r ∷ s ∷ t ∷ []); draw = draw }) j)
  named_super draw j fits drawn below up = record {
    sizes = record {
      id = refl;
      draw = fits;
      marks = refl;
      joins = refl;
      label = record { short = omega arith; printable = All-nil IsPrintable };
    };
    rules = record { array = named; slot_in = below; drawn = drawn; here = up; own = refl };
  }
