-- The first broken equation, from the first byte that isn't zero.
use Rattle.std.proofs.Common.{◌≡◌, ℕ, ◌+◌, ◌<◌, ◌↔◌, List, Option, Some, None, replicate, slice_index, subst, sym, ap, ◌∙◌, inl, inr, rules}
use Rattle.std.specs.Prelude.{IsNone, IfNone, IfSome}
use Rattle.std.proofs.lemmas.List.{get_or-replicate}
use Rattle.stair_model.specs.Geometry.{Geometry, classes, coverage}
use Rattle.stair_model.specs.Stripe.{Stripe, symbol_byte, byte_of}
use Rattle.stair_model.specs.Field.{product}
use Rattle.stair_model.specs.Matrix.{column_coefficient}
use Rattle.stair_model.specs.Codeword.{IsCodeword, IsGlobalEquation, column_sum, global_sum, row_sum}
use Rattle.stair_model.proofs.SumLaws.{field_sum_same}
use Rattle.stair_model.specs.Equation.{Equation, RowEquation, GlobalEquation, ComesBefore, IsEquationOf, Precedes, HoldsIn, IsFirstBroken}
use Rattle.stair_base.specs.declared.equations.Broken.{Broken}
use Rattle.stair_base.specs.Equations.{equation_of, RowEquationsHold, GlobalEquationsHold, FirstDifference, IsIntermediateChunk}

-- each equation of a codeword holds
codeword-HoldsIn : (g : Geometry) (stripe : Stripe) (equation : Equation) → IsCodeword g stripe → IsEquationOf g equation
    → HoldsIn g stripe equation
codeword-HoldsIn g stripe (RowEquation i k p) codeword of = (codeword.words p of.2).rows i k of.0 of.1
codeword-HoldsIn g stripe (GlobalEquation l h p) codeword of = (codeword.words p of.2).globals l h of.0 of.1

-- a stripe that breaks an equation is no codeword
pub not_codeword : (g : Geometry) (stripe : Stripe) (equation : Equation) → IsFirstBroken g stripe equation → ¬ IsCodeword g stripe
not_codeword g stripe equation first codeword = first.broken (codeword-HoldsIn g stripe equation codeword first.of)

-- where the row equations hold, the search among the global ones tells whether the stripe is a codeword
pub codeword_is_found : (g : Geometry) (stripe : Stripe) (found : Option Broken) → RowEquationsHold g stripe
    → IfNone found (GlobalEquationsHold g stripe) → IfSome found (λ b. IsFirstBroken g stripe (equation_of b))
    → (IsNone found ↔ IsCodeword g stripe)
codeword_is_found g stripe None rows globals broken = (
  λ none. record { words = λ p p_in. record { rows = rows p p_in; globals = globals p p_in } },
  λ codeword. search rules,
)
codeword_is_found g stripe (Some b) rows globals broken = (λ none. absurd (search rules), λ codeword. absurd (not_codeword g stripe (equation_of b) broken codeword))

-- a sum that is zero at this byte
pub zero_at : (sum : List ℕ) (p : ℕ) → p < 512 → slice_index sum p ≡ slice_index (replicate 512 0) p → slice_index sum p ≡ 0
zero_at sum p h same = same ∙ get_or-replicate 512 p 0 0 h

-- the sum over the symbols of an intermediate chunk
pub column_sum-intermediate : (g : Geometry) (stripe : Stripe) (l h q : ℕ) (symbols : List (List ℕ)) → IsIntermediateChunk g stripe l symbols
    → q < 512 → column_sum g (symbol_byte symbols q) h ≡ global_sum g (byte_of stripe q) l h
column_sum-intermediate g stripe l h q symbols is in_sector =
    field_sum_same g.r (λ i. product (column_coefficient g h i) (symbol_byte symbols q i))
    (λ i. product (column_coefficient g h i) (row_sum g (byte_of stripe q) i (g.m + l)))
    (λ i in_rows. ap (product (column_coefficient g h i)) (is i q in_rows in_sector))

module _ (g : Geometry) (stripe : Stripe) (l h p : ℕ) (sum : List ℕ)
    (rows : RowEquationsHold g stripe)
    (earlier_classes : (q : ℕ) → q < 512 → (c k : ℕ) → c < l → k < coverage g c → IsGlobalEquation g (byte_of stripe q) c k)
    (earlier_numbers : (q k : ℕ) → q < 512 → k < h → IsGlobalEquation g (byte_of stripe q) l k)
    (is_sum : (q : ℕ) → q < 512 → slice_index sum q ≡ global_sum g (byte_of stripe q) l h)
    (found : FirstDifference sum (replicate 512 0) (Some p)) where
  earlier_global : (c k q : ℕ) → q < 512 → k < coverage g c → ComesBefore c k q l h p → IsGlobalEquation g (byte_of stripe q) c k
  earlier_global c k q in_sector in_class before =
      elim before [
        | inl class ↦ earlier_classes q in_sector c k class in_class
        | inr (inl number) ↦
            subst (λ (x : ℕ). IsGlobalEquation g (byte_of stripe q) x k) (sym number.0) (earlier_numbers q k in_sector number.1)
        | inr (inr byte) ↦
            subst (λ (x : ℕ). IsGlobalEquation g (byte_of stripe q) x k) (sym byte.0)
            (subst (λ (x : ℕ). IsGlobalEquation g (byte_of stripe q) l x) (sym byte.1)
            (sym (is_sum q in_sector) ∙ zero_at sum q in_sector (found.2 q byte.2)))
      ]

  earlier_holds : (earlier : Equation) → IsEquationOf g earlier → Precedes earlier (GlobalEquation l h p) → HoldsIn g stripe earlier
  earlier_holds (RowEquation i k q) of before = rows q of.2 i k of.0 of.1
  earlier_holds (GlobalEquation c k q) of before = earlier_global c k q of.2 of.1 before

  pub IsFirstBroken-global : l < classes g → h < coverage g l → IsFirstBroken g stripe (GlobalEquation l h p)
  IsFirstBroken-global in_classes in_class = record {
    of = (in_classes, in_class, found.0);
    broken = λ holds. found.1 (is_sum p found.0 ∙ holds ∙ sym (get_or-replicate 512 p 0 0 found.0));
    first = earlier_holds;
  }
