-- A canonical stripe of which so many rows are solved.
use Rattle.std.proofs.Common.{◌≡◌, ◌≢◌, ℕ, ◌+◌, ◌<◌, ◌⊎◌, ◌↔◌, List, length, slice_index, inl, inr, refl, sym, subst, ap, ◌∙◌, arith}
use Rattle.std.specs.Prelude.{Contains}
use Rattle.std.proofs.lemmas.Bool.{cases_eq}
use Rattle.std.proofs.lemmas.List.Elements.{All-from_get_or}
use borrow.Author.Count.{below_more}
use Rattle.stair_model.specs.Canonical.{IsRowCodeword}
use Rattle.stair_model.specs.CauchyCode.{AreDistinct, AreSolved}
use Rattle.stair_model.specs.Geometry.{Geometry}
use Rattle.stair_canon.specs.Canonical.{CanonicalStripe, symbol, byte_at, IsKnown}
use Rattle.stair_canon.specs.Solving.{SolvesRow, SolvesRows}
use Rattle.stair_canon.proofs.Marks.{IsAmong, IsAmong-Contains}

-- the first k of these rows are solved, and nothing else has changed
pub record HasSolvedRows (rows known wanted : List ℕ) (old now : CanonicalStripe) (k : ℕ) : Type 0 where
  pub geometry : now.geometry ≡ old.geometry
  pub symbols :
      (t : ℕ) → t < k →
      AreSolved (IsRowCodeword old.geometry) known wanted
      (λ q j. byte_at old q (slice_index rows t) j) (λ q j. byte_at now q (slice_index rows t) j)
  pub others : (i j : ℕ) → ¬ (IsAmong rows k i × Contains wanted j) → symbol now i j ≡ symbol old i j
  pub marks : (i j : ℕ) → IsKnown now i j ↔ (IsKnown old i j ⊎ (IsAmong rows k i × Contains wanted j))

pub HasSolvedRows-none : (rows known wanted : List ℕ) (c : CanonicalStripe) → HasSolvedRows rows known wanted c c 0
HasSolvedRows-none rows known wanted c = record {
  geometry = refl;
  symbols = λ t none. absurd (omega arith);
  others = λ i j other. refl;
  marks = λ i j. (
    λ before. inl before,
    λ either. elim either [ inl before ↦ before | inr both ↦ absurd (none both.0) ],
  );
}
  where
    none : {i : ℕ} → IsAmong rows 0 i → ⊥
    none among = omega (arith, among.1)

-- rows with the same symbols have the same bytes
same_bytes : (a b : CanonicalStripe) (i : ℕ) → ((j : ℕ) → symbol a i j ≡ symbol b i j)
    → ◌≡◌ {A = ℕ → ℕ → ℕ} (λ q j. byte_at a q i j) (λ q j. byte_at b q i j)
same_bytes a b i same = λ t. λ q j. slice_index (same j t) q

module _ (rows known wanted : List ℕ) (old now new : CanonicalStripe) (k : ℕ) (distinct : AreDistinct (length rows) (slice_index rows))
    (below : k < length rows) (before : HasSolvedRows rows known wanted old now k)
    (solves : SolvesRow (slice_index rows k) known wanted now new) where
  apart : (t : ℕ) → t < k → slice_index rows t ≢ slice_index rows k
  apart t earlier same = let equal : t ≡ k = distinct t k (omega arith) below same in omega arith

  later : (i : ℕ) → IsAmong rows k i → IsAmong rows (k + 1) i
  later i among = (among.0, omega (arith, among.1), among.2)

  last : (i : ℕ) → i ≡ slice_index rows k → IsAmong rows (k + 1) i
  last i is = (k, omega arith, sym is)

  IsSolvedAt : ℕ → Type 0
  IsSolvedAt t =
      AreSolved (IsRowCodeword old.geometry) known wanted
      (λ q j. byte_at old q (slice_index rows t) j) (λ q j. byte_at new q (slice_index rows t) j)

  -- a row before this one is left as it was
  earlier_solved : (t : ℕ) → t < k → IsSolvedAt t
  unfolding IsSolvedAt
  earlier_solved t earlier =
      let row = slice_index rows t in
      subst
      (λ (after : ℕ → ℕ → ℕ). AreSolved (IsRowCodeword old.geometry) known wanted (λ q j. byte_at old q row j) after)
      (same_bytes now new row (λ j. sym (solves.changes.others row j (λ both. apart t earlier both.0))))
      (before.symbols t earlier)

  -- and this one was as at first
  now_solved : IsSolvedAt k
  unfolding IsSolvedAt
  now_solved =
      let row = slice_index rows k in
      subst
      (λ (was : ℕ → ℕ → ℕ). AreSolved (IsRowCodeword old.geometry) known wanted was (λ q j. byte_at new q row j))
      (same_bytes now old row (λ j. before.others row j (λ both. apart both.0.0 both.0.1 both.0.2)))
      (subst
      (λ (g : Geometry). AreSolved (IsRowCodeword g) known wanted (λ q j. byte_at now q row j) (λ q j. byte_at new q row j))
      before.geometry solves.symbols)

  pub HasSolvedRows-more : HasSolvedRows rows known wanted old new (k + 1)
  unfolding IsSolvedAt
  HasSolvedRows-more = record {
    geometry = solves.changes.geometry ∙ before.geometry;
    symbols = below_more IsSolvedAt k earlier_solved now_solved;
    others = λ i j other.
        solves.changes.others i j (λ both. other (last i both.0, both.1))
        ∙ before.others i j (λ both. other (later i both.0, both.1));
    marks = λ i j. (
      λ is_known. elim ((solves.changes.known i j).0 is_known) [
        | inl was ↦
            elim ((before.marks i j).0 was) [
              | inl first ↦ inl first
              | inr both ↦ inr (later i both.0, both.1)
            ]
        | inr both ↦ inr (last i both.0, both.1)
      ],
      λ either. (solves.changes.known i j).1 (elim either [
        | inl first ↦ inl ((before.marks i j).1 (inl first))
        | inr both ↦
            elim (cases_eq both.0.0 k) [
              | inl here ↦ inr (sym both.0.2 ∙ ap (slice_index rows) here, both.1)
              | inr other ↦ inl ((before.marks i j).1 (inr ((both.0.0, omega (arith, both.0.1), both.0.2), both.1)))
            ]
      ]),
    );
  }

-- all rows are solved
pub SolvesRows-all : (rows known wanted : List ℕ) (old new : CanonicalStripe) → HasSolvedRows rows known wanted old new (length rows)
    → SolvesRows rows known wanted old new
SolvesRows-all rows known wanted old new all = record {
  symbols =
      All-from_get_or
      (λ row. AreSolved (IsRowCodeword old.geometry) known wanted (λ q j. byte_at old q row j) (λ q j. byte_at new q row j))
      rows 0 all.symbols;
  changes = record {
    geometry = all.geometry;
    others = λ i j other. all.others i j (λ both. other ((IsAmong-Contains rows i).0 both.0, both.1));
    known = λ i j. (
      λ is_known. elim ((all.marks i j).0 is_known) [
        | inl was ↦ inl was
        | inr both ↦ inr ((IsAmong-Contains rows i).0 both.0, both.1)
      ],
      λ either. (all.marks i j).1 (elim either [
        | inl was ↦ inl was
        | inr both ↦ inr ((IsAmong-Contains rows i).1 both.0, both.1)
      ]),
    );
  };
}
