-- The chunks from place m on of the order, from the last down.
use Rattle.std.proofs.Common.{◌≡◌, ℕ, ◌+◌, ◌<◌, ◌≤◌, List, slice_index, inl, inr, sym, subst, ap, ◌∙◌, arith}
use Rattle.std.proofs.lemmas.Bool.{cases_lt, cases_eq}
use Rattle.stair_model.specs.Geometry.{Geometry}
use Rattle.stair_model.specs.CellSet.{CellSet, count_in_slot}
use Rattle.stair_model.specs.Codeword.{Word}
use Rattle.stair_canon.specs.Canonical.{CanonicalStripe}
use Rattle.stair_up.specs.SolveSteps.{AreCanonical, IsFound, HasGiven, StaysFound, FindsChunk, FindsVirtualRows, FindsLastChunks}
use Rattle.stair_up.proofs.Finds.{HasGiven-stays}

-- so many chunks from the end are found, and so many virtual symbols of each chunk from place m on
pub record IsFoundFrom (g : Geometry) (columns : List ℕ) (height passed solved : ℕ) (x : ℕ → Word) (old new : CanonicalStripe) : Type 0 where
  pub stays : StaysFound x old new
  pub complete : (p i : ℕ) → g.n ≤ p + passed → p < g.n → i < g.r + height → IsFound x new i (slice_index columns p)
  pub virtual : (p h : ℕ) → g.m ≤ p → p < g.n → h < solved → IsFound x new (g.r + h) (slice_index columns p)

abbrev pub FindsFrom : CellSet → List ℕ → ℕ → ℕ → ℕ → CanonicalStripe → CanonicalStripe → Type 0
FindsFrom erased columns height passed solved old new =
    (x : ℕ → Word) → AreCanonical old.geometry x → HasGiven old.geometry erased x old →
    IsFoundFrom old.geometry columns height passed solved x old new

pub FindsFrom-none : (erased : CellSet) (columns : List ℕ) (height : ℕ) (c : CanonicalStripe) → FindsFrom erased columns height 0 0 c c
FindsFrom-none erased columns height c x canonical given = record {
  stays = λ i j found. found;
  complete = λ p i from below row. absurd (omega arith);
  virtual = λ p h from below none. absurd (omega arith);
}

-- virtual symbols, and then the chunk
pub FindsFrom-more : (erased : CellSet) (columns : List ℕ) (height passed solved place slot count : ℕ) (old a b c : CanonicalStripe)
    → a.geometry ≡ old.geometry → b.geometry ≡ old.geometry → place + passed + 1 ≡ old.geometry.n → old.geometry.m ≤ place
    → slot ≡ slice_index columns place → count ≡ count_in_slot erased slot → count ≤ height
    → FindsFrom erased columns height passed solved old a
    → FindsVirtualRows erased columns place solved count a b → FindsChunk erased slot height b c
    → FindsFrom erased columns height (passed + 1) count old c
FindsFrom-more erased columns height passed solved place slot count old a b c same_a same_b at from is_slot is_count small before rows chunk x canonical given =
    record {
      stays = λ i j found. solved_chunk.0 i j (solved_rows.0 i j (earlier.stays i j found));
      complete = λ p i low high row_in.
          elim (cases_eq p place) [
            | inl here ↦
                subst (λ (j : ℕ). IsFound x c i j) (is_slot ∙ ap (slice_index columns) (sym here))
                (chunk_here i row_in)
            | inr apart ↦ solved_chunk.0 _ _ (solved_rows.0 _ _ (earlier.complete p i (omega arith) high row_in))
          ];
      virtual = λ p h low high below. solved_chunk.0 _ _ (virtual_b p h low high below);
    }
  where
    earlier : IsFoundFrom old.geometry columns height passed solved x old a
    earlier = before x canonical given

    given_a : HasGiven a.geometry erased x a
    given_a = subst (λ (g : Geometry). HasGiven g erased x a) (sym same_a) (HasGiven-stays old.geometry erased x old a earlier.stays given)

    solved_rows : StaysFound x a b × ((p h : ℕ) → a.geometry.m ≤ p → p < a.geometry.n → solved ≤ h → h < count → IsFound x b (a.geometry.r + h) (slice_index columns p))
    solved_rows =
        rows x (subst (λ (g : Geometry). AreCanonical g x) (sym same_a) canonical) given_a
        (subst (λ (g : Geometry). (p h : ℕ) → place < p → p < g.n → h < count → IsFound x a (g.r + h) (slice_index columns p)) (sym same_a)
        (λ p h low high below. earlier.complete p (old.geometry.r + h) (omega arith) high (omega arith)))

    rows_here : (p h : ℕ) → old.geometry.m ≤ p → p < old.geometry.n → solved ≤ h → h < count → IsFound x b (old.geometry.r + h) (slice_index columns p)
    rows_here =
        subst (λ (g : Geometry). (p h : ℕ) → g.m ≤ p → p < g.n → solved ≤ h → h < count → IsFound x b (g.r + h) (slice_index columns p)) same_a
        solved_rows.1

    virtual_b : (p h : ℕ) → old.geometry.m ≤ p → p < old.geometry.n → h < count → IsFound x b (old.geometry.r + h) (slice_index columns p)
    virtual_b p h low high below =
        elim (cases_lt h solved) [
          | inl known ↦ solved_rows.0 _ _ (earlier.virtual p h low high known)
          | inr new ↦ rows_here p h low high new below
        ]

    given_b : HasGiven b.geometry erased x b
    given_b =
        subst (λ (g : Geometry). HasGiven g erased x b) (sym same_b)
        (HasGiven-stays old.geometry erased x old b (λ i j found. solved_rows.0 i j (earlier.stays i j found)) given)

    solved_chunk : StaysFound x b c × ((i : ℕ) → i < b.geometry.r + height → IsFound x c i slot)
    solved_chunk =
        chunk x (subst (λ (g : Geometry). AreCanonical g x) (sym same_b) canonical) given_b
        (subst (λ (g : Geometry). (h : ℕ) → h < count_in_slot erased slot → IsFound x b (g.r + h) slot) (sym same_b)
        (λ h below.
        subst (λ (j : ℕ). IsFound x b (old.geometry.r + h) j) (sym is_slot) (virtual_b place h from (omega arith) (omega (arith, is_count)))))

    chunk_here : (i : ℕ) → i < old.geometry.r + height → IsFound x c i slot
    chunk_here = subst (λ (g : Geometry). (i : ℕ) → i < g.r + height → IsFound x c i slot) same_b solved_chunk.1

pub FindsLastChunks-all : (erased : CellSet) (columns : List ℕ) (height passed solved : ℕ) (old new : CanonicalStripe)
    → old.geometry.n ≤ old.geometry.m + passed → FindsFrom erased columns height passed solved old new → FindsLastChunks erased columns old new
FindsLastChunks-all erased columns height passed solved old new all before x canonical given =
    let earlier = before x canonical given in
    (earlier.stays, λ p i low high row_in. earlier.complete p i (omega arith) high (omega arith))
