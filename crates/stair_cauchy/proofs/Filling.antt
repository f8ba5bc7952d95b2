-- A matrix whose entries are pushed row by row.
use Rattle.std.proofs.Common.{◌≡◌, ℕ, ◌+◌, ◌*◌, ◌<◌, ◌≤◌, List, [], ◌∷◌, ◌++◌, length, slice_index, sym, ap, ◌∙◌, arith, length-append}
use Rattle.std.specs.Prelude.{bit_xor}
use Rattle.std.proofs.lemmas.List.{get_or_append_left, get_or-append-add}
use Rattle.std.proofs.Math.Seq.{get_or-append_seam}
use Rattle.std.proofs.Math.Nat.{mul_comm}
use borrow.Author.Count.{below_more}
use Rattle.std.proofs.lemmas.Nat.{mul-add-lt}
use Rattle.stair_model.specs.Field.{inverse}
use Rattle.stair_model.proofs.FieldLaws.{xor-pos}
use Rattle.stair_cauchy.specs.Entries.{IsCauchy, IsDistinct}

-- the entry of two points
abbrev pub entry_of : List ℕ → List ℕ → ℕ → ℕ → ℕ
entry_of xs ys i j = inverse (bit_xor (slice_index xs i) (slice_index ys j))

-- the rows before i and the first j entries of row i were pushed
pub record HasPushed (xs ys entries : List ℕ) (i j : ℕ) : Type 0 where
  pub count : length entries ≡ i * length ys + j
  pub above : (a b : ℕ) → a < i → b < length ys → slice_index entries (a * length ys + b) ≡ entry_of xs ys a b
  pub here : (b : ℕ) → b < j → slice_index entries (i * length ys + b) ≡ entry_of xs ys i b

-- a point of a row and a point of a column differ
pub points_apart : (xs ys : List ℕ) (i j : ℕ) → IsDistinct (xs ++ ys) → i < length xs → j < length ys
    → 0 < bit_xor (slice_index xs i) (slice_index ys j)
points_apart xs ys i j distinct in_xs in_ys = xor-pos (slice_index xs i) (slice_index ys j) (λ same.
    let one : i ≡ length xs + j =
    distinct i (length xs + j) (omega (arith, length-append xs ys)) (omega (arith, length-append xs ys))
    (get_or_append_left xs ys 0 i in_xs ∙ same ∙ sym (get_or-append-add xs ys j 0))
    in
    omega arith)

pub HasPushed-more : (xs ys entries : List ℕ) (i j x : ℕ) → j < length ys → x ≡ entry_of xs ys i j → HasPushed xs ys entries i j
    → HasPushed xs ys (entries ++ x ∷ []) i (j + 1)
HasPushed-more xs ys entries i j x in_row is before = record {
  count = omega (arith, length-append entries (x ∷ []), before.count);
  above = λ a b a_in b_in.
      get_or_append_left entries (x ∷ []) 0 (a * length ys + b)
      (omega (arith, before.count, mul-add-lt a (length ys) b i a_in b_in, mul_comm (length ys) i))
      ∙ before.above a b a_in b_in;
  here =
      below_more (λ b. slice_index (entries ++ x ∷ []) (i * length ys + b) ≡ entry_of xs ys i b) j
      (λ b b_in. get_or_append_left entries (x ∷ []) 0 (i * length ys + b) (omega (arith, before.count)) ∙ before.here b b_in)
      (ap (λ k. slice_index (entries ++ x ∷ []) k) (sym before.count) ∙ get_or-append_seam entries x [] 0 ∙ is);
}

pub HasPushed-row : (xs ys entries : List ℕ) (i : ℕ) → HasPushed xs ys entries i (length ys) → HasPushed xs ys entries (i + 1) 0
HasPushed-row xs ys entries i row = record {
  count = omega (arith, row.count);
  above = λ a b a_in b_in.
      below_more (λ k. slice_index entries (k * length ys + b) ≡ entry_of xs ys k b) i
      (λ k earlier. row.above k b earlier b_in) (row.here b b_in) a a_in;
  here = λ b none. absurd (omega arith);
}

pub HasPushed-all : (xs ys entries : List ℕ) (i : ℕ) → length xs ≤ i → HasPushed xs ys entries i 0
    → IsCauchy (record { rows = length xs; columns = length ys; entries = entries }) xs ys
HasPushed-all xs ys entries i end pushed = record {
  rows = λ k. length xs;
  columns = λ k. length ys;
  entries = λ a b in_row in_column. pushed.above a b (omega (arith, end)) in_column;
}
