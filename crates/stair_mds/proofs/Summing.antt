-- Symbols of which some are set to sums of others.
use Rattle.std.proofs.Common.{◌≡◌, ◌≢◌, ℕ, zero, suc, ◌+◌, ◌*◌, ◌<◌, ◌⊎◌, List, [], ◌++◌, length, take, slice_index, inl, inr, sym, subst, ap, ◌∙◌, arith}
use Rattle.std.specs.Prelude.{slice_index_or}
use Rattle.std.proofs.Math.Seq.{take-append_seam}
use Rattle.std.proofs.lemmas.Bool.{cases_eq}
use Rattle.std.proofs.lemmas.List.Elements.{All-from_get_or, All-get_or}
use Rattle.stair_model.specs.Field.{product}
use Rattle.stair_model.specs.Stripe.{IsSector, symbol_byte}
use Rattle.stair_model.proofs.FieldLaws.{product-lt}
use Rattle.stair_model.proofs.SumLaws.{field_sum-lt}
use Rattle.stair_gf.specs.SetsSums.{SetsSums}
use Rattle.stair_mds.specs.Kept.{AreSymbols}

-- a place is one of the first n of a list, or none of them
place_among : (places : List ℕ) (p n : ℕ) → ((d : ℕ) × (d < n) × (slice_index places d ≡ p)) ⊎ ((d : ℕ) → d < n → slice_index places d ≢ p)
place_among places p zero = inr (λ d none same. absurd (omega arith))
place_among places p (suc n) =
    elim (cases_eq (slice_index places n) p) [
      | inl this ↦ inl (n, omega arith, this)
      | inr other ↦
          elim (place_among places p n) [
            | inl one ↦ inl (one.0, omega (arith, one.1), one.2)
            | inr none ↦
                inr (λ d below same.
                elim (cases_eq d n) [
                  | inl last ↦ other (ap (slice_index places) (sym last) ∙ same)
                  | inr earlier ↦ none d (omega (arith, earlier)) same
                ])
          ]
    ]

-- a sum is made of bytes
sector_at : (old new : List (List ℕ)) (into from by : List ℕ) (width d : ℕ) → SetsSums old new into from by width → d < length into
    → IsSector (slice_index_or new (slice_index into d) [])
sector_at old new into from by width d sets below =
    let symbol = slice_index_or new (slice_index into d) [] in
    let long : length symbol ≡ 512 = sets.long d (omega arith) below in (
      long,
      All-from_get_or (λ b. b < 256) symbol 0
          (λ q in_symbol.
          subst (λ (b : ℕ). b < 256) (sym (sets.bytes d q (omega arith) below (omega (arith, long))))
          (field_sum-lt (length from) (λ i. product (slice_index by (d * width + i)) (symbol_byte old q (slice_index from i)))
          (λ i in_from. product-lt (slice_index by (d * width + i)) (symbol_byte old q (slice_index from i))))),
    )

pub AreSymbols-sums : (old new : List (List ℕ)) (into from by : List ℕ) (width : ℕ) → SetsSums old new into from by width → AreSymbols old → AreSymbols new
AreSymbols-sums old new into from by width sets before = record {
  sectors =
      All-from_get_or IsSector new []
      (λ p in_new.
      elim (place_among into p (length into)) [
        | inl one ↦ subst (λ (x : ℕ). IsSector (slice_index_or new x [])) one.2 (sector_at old new into from by width one.0 sets one.1)
        | inr none ↦
            subst IsSector (sym (sets.others p (λ d above below. none d below)))
            (All-get_or IsSector old p [] (omega (arith, sets.count)) before.sectors)
      ]);
  few = omega (arith, sets.count, before.few);
}

-- a list of whole length that is written back into a longer one
pub written_back : {X : Type 0} (new rest : List X) (count : ℕ) → length new ≡ count → take count (new ++ rest) ≡ new
written_back new rest count same = ap (λ n. take n (new ++ rest)) (sym same) ∙ take-append_seam new rest
