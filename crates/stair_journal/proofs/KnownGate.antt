-- The gate of the format's example.
use Rattle.std.proofs.Common.{◌≡◌, ℕ, ◌+◌, ◌*◌, ◌/◌, ◌%◌, ◌^◌, ◌-◌, ◌<◌, Bool, cond, List, [], ◌∷◌, ◌++◌, length, get_or, take, drop, replicate, ap, ◌∙◌, rules, arith, length-append}
use Rattle.std.specs.Prelude.{◌⊎◌, ◌↔◌, ◌==◌, ◌&&◌, ◌||◌, IsTrue}
use Rattle.std.specs.Int.{w32, to_be_bytes}
use Rattle.std.proofs.lemmas.List.{take_more, get_or_append_left}
use Rattle.stair_model.specs.CellSet.{CellSet, has_cell, HasCell}
use Rattle.stair_model.specs.Geometry.{Geometry}
use Rattle.stair_model.specs.Sum.{sum_below}
use Rattle.stair_model.proofs.CountLaws.{sum_below_same}
use Rattle.stair_model.proofs.SetLaws.{same_test}
use Rattle.stair_journal.specs.Gate.{bitmap, bitmap_byte, open_gate}
use Rattle.stair_journal.specs.declared.redo.Redo.{Redo}
use Rattle.stair_journal.proofs.GateLemmas.{length-bitmap, bitmap_at}

-- the cells of the example
abbrev IsOne : ℕ → ℕ → Type 0
IsOne i j = ((i ≡ 0) × ((j ≡ 0) ⊎ (j ≡ 3))) ⊎ ((i ≡ 1) × ((j ≡ 2) ⊎ (j ≡ 3)))

-- the same as a test
abbrev is_one : ℕ → ℕ → Bool
is_one i j = (i == 0 && (j == 0 || j == 3)) || (i == 1 && (j == 2 || j == 3))

one_is : (i j : ℕ) → IsTrue (is_one i j) ↔ IsOne i j
one_is i j = search rules

abbrev HasThese : CellSet → Type 0
HasThese cells = (i j : ℕ) → HasCell cells i j ↔ IsOne i j

tested : (cells : CellSet) → HasThese cells → (i j : ℕ) → has_cell cells i j ≡ is_one i j
tested cells alike i j =
    same_test (has_cell cells i j) (is_one i j) (λ has. (one_is i j).1 ((alike i j).0 has), λ passes. (alike i j).1 ((one_is i j).0 passes))

first_byte : (g : Geometry) (cells : CellSet) → g.n ≡ 4 → HasThese cells → bitmap_byte g cells 0 ≡ 147
unfolding bitmap_byte sum_below
first_byte g cells four alike =
    sum_below_same 8 (λ p. cond (has_cell cells ((8 * 0 + p) / g.n) ((8 * 0 + p) % g.n)) (2 ^ (7 - p)) 0)
    (λ p. cond (is_one ((8 * 0 + p) / 4) ((8 * 0 + p) % 4)) (2 ^ (7 - p)) 0)
    (λ p below.
    ap (λ (b : Bool). cond b (2 ^ (7 - p)) 0)
    (ap (λ (n : ℕ). has_cell cells ((8 * 0 + p) / n) ((8 * 0 + p) % n)) four ∙ tested cells alike ((8 * 0 + p) / 4) ((8 * 0 + p) % 4)))

-- the stripe, and the first byte of the bitmap
first_five : (g : Geometry) (redo : Redo) → take 5 (drop 12 (open_gate g redo)) ≡ to_be_bytes w32 redo.stripe ++ bitmap_byte g redo.cells 0 ∷ []
unfolding open_gate
first_five g redo =
    let rest = bitmap g redo.cells ++ replicate 368 0 in
    let long : length rest ≡ length (bitmap g redo.cells) + length (replicate {A = ℕ} 368 0) = length-append (bitmap g redo.cells) (replicate 368 0) in
    let has : 0 < length (bitmap g redo.cells) = omega (arith, length-bitmap g redo.cells) in
    let first : get_or rest 0 0 ≡ bitmap_byte g redo.cells 0 =
    get_or_append_left (bitmap g redo.cells) (replicate 368 0) 0 0 has ∙ bitmap_at g redo.cells 0 (omega arith) in
    ap (λ (l : List ℕ). to_be_bytes w32 redo.stripe ++ l) (take_more rest 0 0 (omega arith) ∙ ap (λ (n : ℕ). n ∷ []) first)

pub known_bytes : (g : Geometry) (redo : Redo) → g.n ≡ 4 → redo.stripe ≡ 2 → HasThese redo.cells
    → take 5 (drop 12 (open_gate g redo)) ≡ 0 ∷ 0 ∷ 0 ∷ 2 ∷ 147 ∷ []
known_bytes g redo four stripe alike =
    first_five g redo
    ∙ ap (λ (n : ℕ). to_be_bytes w32 n ++ bitmap_byte g redo.cells 0 ∷ []) stripe
    ∙ ap (λ (n : ℕ). to_be_bytes w32 2 ++ n ∷ []) (first_byte g redo.cells four alike)
