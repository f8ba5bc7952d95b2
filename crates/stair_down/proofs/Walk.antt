-- The walk down a canonical stripe: what is solved at each place of it, compared with the codeword that is to come.
use Rattle.std.proofs.Common.{◌≡◌, ℕ, ◌+◌, ◌-◌, ◌<◌, ◌⊎◌, false, slice_index, inl, inr, sym, subst, ap, ◌∙◌, arith}
use Rattle.std.proofs.lemmas.Bool.{cases_eq, cases_lt}
use Rattle.std.proofs.lemmas.List.{get_or-replicate}
use Rattle.stair_model.specs.Canonical.{canonical_chunks, IsCanonicalCodeword}
use Rattle.stair_model.specs.Cell.{is_global}
use Rattle.stair_model.specs.Codeword.{Word}
use Rattle.stair_model.specs.Geometry.{Geometry, IsWithinLimits, classes, coverage, data_chunks}
use Rattle.stair_model.specs.Stripe.{Stripe, SECTOR, byte_of}
use Rattle.stair_model.proofs.CanonicalLaws.{coverage_le_greatest}
use Rattle.stair_canon.specs.Canonical.{CanonicalStripe, byte_at}
use Rattle.stair_canon.specs.Solving.{Loads}
use Rattle.stair_down.specs.DownstairsSteps.{CompletesRow, CompletesChunk}

-- at each byte position, a canonical codeword that has the data cells of the stripe
pub record IsTarget (g : Geometry) (stripe : Stripe) (x : ℕ → Word) : Type 0 where
  pub codeword : (q : ℕ) → q < SECTOR → IsCanonicalCodeword g (x q)
  pub cells : (q i j : ℕ) → q < SECTOR → i < g.r → j < data_chunks g → is_global g i j ≡ false → x q i j ≡ byte_of stripe q i j

-- intermediate chunk l is solved before this class is looked at in this row: its global parities begin above, or in this row
abbrev pub IsSolved : Geometry → ℕ → ℕ → ℕ → Type 0
IsSolved g row class l = (g.r - coverage g l < row) ⊎ ((g.r - coverage g l ≡ row) × (l < class))

-- Before this class is looked at in this row, these symbols are those of x: the rows above, the data cells, the global zeros,
-- and the intermediate chunks that are solved.
pub record HasReached (g : Geometry) (x : ℕ → Word) (c : CanonicalStripe) (row class : ℕ) : Type 0 where
  pub rows : (q i j : ℕ) → q < SECTOR → i < row → j < canonical_chunks g → x q i j ≡ byte_at c q i j
  pub cells : (q i j : ℕ) → q < SECTOR → i < g.r → j < data_chunks g → is_global g i j ≡ false → x q i j ≡ byte_at c q i j
  pub zeros :
      (q l h : ℕ) → q < SECTOR → l < classes g → h < coverage g l → x q (g.r + h) (g.n + l) ≡ byte_at c q (g.r + h) (g.n + l)
  pub intermediate :
      (q i l : ℕ) → q < SECTOR → i < g.r → l < classes g → IsSolved g row class l → x q i (g.n + l) ≡ byte_at c q i (g.n + l)

-- the symbols of a stripe that was loaded
pub HasReached-load : (stripe : Stripe) (x : ℕ → Word) (old new : CanonicalStripe) → IsWithinLimits old.geometry
    → Loads stripe old new → IsTarget old.geometry stripe x → HasReached old.geometry x new 0 0
HasReached-load stripe x old new limits loads target = record {
  rows = λ q i j q_in above j_in. absurd (omega arith);
  cells = λ q i j q_in i_in j_in test.
      target.cells q i j q_in i_in j_in test
      ∙ sym (ap (λ bytes. slice_index bytes q) (loads.cells i j (i_in, omega arith)));
  zeros = λ q l h q_in l_in h_in.
      (target.codeword q q_in).zeros l h l_in h_in
      ∙ sym (ap (λ bytes. slice_index bytes q)
      (loads.others (g.r + h) (g.n + l) (omega (arith, coverage_le_greatest g limits l l_in)) (omega arith)
      (λ is_cell. omega (arith, is_cell.0)))
      ∙ get_or-replicate SECTOR q 0 0 q_in);
  intermediate = λ q i l q_in i_in l_in solved.
      elim solved [ inl above ↦ absurd (omega (arith, above)) | inr both ↦ absurd (omega (arith, both.1)) ];
}
  where
    g : Geometry
    g = old.geometry

module _ (g : Geometry) (stripe : Stripe) (x : ℕ → Word) (limits : IsWithinLimits g) (target : IsTarget g stripe x) where
  -- a class whose global parities don't begin in this row
  pub HasReached-skip : (c : CanonicalStripe) (row class : ℕ) → (row ≡ g.r - coverage g class → ⊥) → HasReached g x c row class
      → HasReached g x c row (class + 1)
  HasReached-skip c row class other reached = record {
    rows = reached.rows;
    cells = reached.cells;
    zeros = reached.zeros;
    intermediate = λ q i l q_in i_in l_in solved.
        reached.intermediate q i l q_in i_in l_in (elim solved [
          | inl above ↦ inl above
          | inr both ↦
              elim (cases_eq l class) [
                | inl last ↦ absurd (other (sym both.0 ∙ ap (λ k. g.r - coverage g k) last))
                | inr earlier ↦ inr (both.0, omega (arith, both.1, earlier))
              ]
        ]);
  }

  -- an intermediate chunk is completed
  module _ (old new : CanonicalStripe) (row class : ℕ) (within : class < classes g) (begins : row ≡ g.r - coverage g class)
      (completes : CompletesChunk g class old new) (reached : HasReached g x old row class) where
    in_chunk : (q i : ℕ) → q < SECTOR → i < g.r + coverage g class → x q i (g.n + class) ≡ byte_at new q i (g.n + class)
    in_chunk q i q_in i_in =
        completes.chunk q (λ t. x q t (g.n + class)) q_in ((target.codeword q q_in).chunks (g.n + class) (omega arith))
        (λ t above. reached.rows q t (g.n + class) q_in (omega arith) (omega arith))
        (λ h h_in. reached.zeros q class h q_in within h_in) i i_in

    beside : (q i j : ℕ) → ¬ (j ≡ g.n + class) → x q i j ≡ byte_at old q i j → x q i j ≡ byte_at new q i j
    beside q i j other is = is ∙ sym (ap (λ bytes. slice_index bytes q) (completes.others i j other))

    pub HasReached-chunk : HasReached g x new row (class + 1)
    HasReached-chunk = record {
      rows = λ q i j q_in above j_in.
          elim (cases_eq j (g.n + class)) [
            | inl here ↦ subst (λ (k : ℕ). x q i k ≡ byte_at new q i k) (sym here) (in_chunk q i q_in (omega arith))
            | inr other ↦ beside q i j other (reached.rows q i j q_in above j_in)
          ];
      cells = λ q i j q_in i_in j_in test. beside q i j (λ here. omega (arith, here)) (reached.cells q i j q_in i_in j_in test);
      zeros = λ q l h q_in l_in h_in.
          elim (cases_eq l class) [
            | inl here ↦
                let covers : h < coverage g class = subst (λ (k : ℕ). h < coverage g k) here h_in in
                subst (λ (k : ℕ). x q (g.r + h) (g.n + k) ≡ byte_at new q (g.r + h) (g.n + k)) (sym here)
                (in_chunk q (g.r + h) q_in (omega (arith, covers)))
            | inr other ↦ beside q (g.r + h) (g.n + l) (λ here. other (omega (arith, here))) (reached.zeros q l h q_in l_in h_in)
          ];
      intermediate = λ q i l q_in i_in l_in solved.
          elim (cases_eq l class) [
            | inl here ↦
                subst (λ (k : ℕ). x q i (g.n + k) ≡ byte_at new q i (g.n + k)) (sym here) (in_chunk q i q_in (omega arith))
            | inr other ↦
                beside q i (g.n + l) (λ here. other (omega (arith, here)))
                (reached.intermediate q i l q_in i_in l_in (elim solved [
                  | inl above ↦ inl above
                  | inr both ↦ inr (both.0, omega (arith, both.1, other))
                ]))
          ];
    }

  -- a row is completed, after all classes were looked at
  module _ (old new : CanonicalStripe) (row class : ℕ) (within : row < g.r) (all : classes g ≡ class)
      (completes : CompletesRow g row old new) (reached : HasReached g x old row class) where
    in_row : (q j : ℕ) → q < SECTOR → j < canonical_chunks g → x q row j ≡ byte_at new q row j
    in_row q j q_in j_in =
        completes.row q (λ k. x q row k) q_in ((target.codeword q q_in).rows row (omega arith))
        (λ k k_in test. reached.cells q row k q_in within k_in test)
        (λ l l_in below.
        reached.intermediate q row l q_in within l_in (elim (cases_lt (g.r - coverage g l) row) [
          | inl above ↦ inl above
          | inr from ↦ inr (omega (arith, below, from), omega (arith, l_in, all))
        ]))
        j j_in

    above_or_below : (q i j : ℕ) → ¬ (i ≡ row) → x q i j ≡ byte_at old q i j → x q i j ≡ byte_at new q i j
    above_or_below q i j other is = is ∙ sym (ap (λ bytes. slice_index bytes q) (completes.others i j other))

    -- in this row or in another
    in_rows : (q i j : ℕ) → q < SECTOR → j < canonical_chunks g → (¬ (i ≡ row) → x q i j ≡ byte_at old q i j)
        → x q i j ≡ byte_at new q i j
    in_rows q i j q_in j_in is =
        elim (cases_eq i row) [
          | inl here ↦ subst (λ (t : ℕ). x q t j ≡ byte_at new q t j) (sym here) (in_row q j q_in j_in)
          | inr other ↦ above_or_below q i j other (is other)
        ]

    pub HasReached-row : HasReached g x new (row + 1) 0
    HasReached-row = record {
      rows = λ q i j q_in below j_in. in_rows q i j q_in j_in (λ other. reached.rows q i j q_in (omega (arith, below, other)) j_in);
      cells = λ q i j q_in i_in j_in test. in_rows q i j q_in (omega arith) (λ other. reached.cells q i j q_in i_in j_in test);
      zeros = λ q l h q_in l_in h_in.
          above_or_below q (g.r + h) (g.n + l) (λ here. omega (arith, here)) (reached.zeros q l h q_in l_in h_in);
      intermediate = λ q i l q_in i_in l_in solved.
          in_rows q i (g.n + l) q_in (omega arith)
          (λ other.
          reached.intermediate q i l q_in i_in l_in (elim solved [
            | inl above ↦
                elim (cases_lt (g.r - coverage g l) row) [
                  | inl earlier ↦ inl earlier
                  | inr from ↦ inr (omega (arith, above, from), omega (arith, l_in, all))
                ]
            | inr both ↦ absurd (omega (arith, both.1))
          ]));
    }
