-- What the bytes of gates tell.
use Rattle.std.proofs.Common.{◌≡◌, ℕ, ◌+◌, ◌*◌, ◌/◌, ◌%◌, ◌^◌, ◌<◌, ◌≤◌, List, length, get_or, take, drop, replicate, refl, sym, ap, subst, ◌∙◌, arith}
use Rattle.std.specs.Int.{w32, to_be_bytes, from_be_bytes}
use Rattle.std.proofs.lemmas.List.{length-append, length-replicate, take_at}
use Rattle.std.proofs.lemmas.List.FromFn.{length-map-range_with_len, get_or-map-range_with_len}
use Rattle.std.proofs.lemmas.Nat.{from_be_bytes-to_be_bytes_4, div-mul-add, mod-mul-add, mul-le}
use Rattle.stair_model.specs.CellSet.{CellSet, has_cell, HasCell}
use Rattle.stair_model.specs.Geometry.{Geometry, IsWithinLimits}
use Rattle.stair_model.specs.Stripe.{SECTOR}
use Rattle.stair_model.proofs.SetLaws.{same_cells}
use Rattle.stair_rack.specs.Sector.{Cell, Good}
use Rattle.stair_journal.specs.Gate.{MAGIC, has_number, bitmap_byte, bitmap, open_gate, closed_gate, IsOpenWith, ReadsClosed}
use Rattle.stair_journal.specs.Redo.{IsRedo}
use Rattle.stair_journal.specs.declared.redo.Redo.{Redo}
use Rattle.stair_journal.proofs.BitLemmas.{bits_once}

pub length-bitmap : (g : Geometry) (cells : CellSet) → length (bitmap g cells) ≡ 128
unfolding bitmap
length-bitmap g cells = length-map-range_with_len (bitmap_byte g cells) 0 128

pub bitmap_at : (g : Geometry) (cells : CellSet) (q : ℕ) → q < 128 → get_or (bitmap g cells) q 0 ≡ bitmap_byte g cells q
unfolding bitmap
bitmap_at g cells q below = get_or-map-range_with_len (bitmap_byte g cells) 0 128 q q 0 below (omega arith)

-- ---- lengths

pub closed_sector : length closed_gate ≡ SECTOR
unfolding closed_gate
closed_sector = omega (arith, length-append MAGIC (replicate 504 0), length-replicate {A = ℕ} 504 0)

pub open_sector : (g : Geometry) (redo : Redo) → length (open_gate g redo) ≡ SECTOR
unfolding open_gate
open_sector g redo =
    omega (arith, length-append (bitmap g redo.cells) (replicate 368 0), length-bitmap g redo.cells, length-replicate {A = ℕ} 368 0)

-- ---- byte 8 tells whether a gate is open

open_byte : (g : Geometry) (redo : Redo) → get_or (open_gate g redo) 8 0 ≡ 1
unfolding open_gate
open_byte g redo = refl

closed_byte : get_or closed_gate 8 0 ≡ 0
unfolding closed_gate
closed_byte = refl

pub closed : (g : Geometry) → ReadsClosed g (Good closed_gate)
closed g redo opened =
    let good = opened.good in
    let same : closed_gate ≡ open_gate g redo = cc in
    let one : ◌≡◌ {A = ℕ} 0 1 = sym closed_byte ∙ ap (λ (l : List ℕ). get_or l 8 0) same ∙ open_byte g redo in
    absurd (omega arith)

-- ---- one redo

stripe_bytes : (g : Geometry) (redo : Redo) → take 4 (drop 12 (open_gate g redo)) ≡ to_be_bytes w32 redo.stripe
unfolding open_gate
stripe_bytes g redo = refl

pub bitmap_bytes : (g : Geometry) (redo : Redo) → take 128 (drop 16 (open_gate g redo)) ≡ bitmap g redo.cells
unfolding open_gate
bitmap_bytes g redo = take_at (bitmap g redo.cells) (replicate 368 0) 128 (length-bitmap g redo.cells)

stripe_fits : (g : Geometry) (redo : Redo) → IsWithinLimits g → IsRedo g redo → redo.stripe < 2 ^ 32
stripe_fits g redo limits of =
    let below : redo.stripe < g.stripes = of.stripe_in in
    let few : g.stripes < 4294967295 = limits.size.1 in
    omega arith

pub stripe_is : (g : Geometry) (redo : Redo) → IsWithinLimits g → IsRedo g redo → from_be_bytes w32 (take 4 (drop 12 (open_gate g redo))) ≡ redo.stripe
stripe_is g redo limits of = ap (from_be_bytes w32) (stripe_bytes g redo) ∙ from_be_bytes-to_be_bytes_4 redo.stripe (stripe_fits g redo limits of)

-- the same bitmap says the same of each cell number
same_number : (g : Geometry) (a b : CellSet) → bitmap g a ≡ bitmap g b → (c : ℕ) → c < 1024 → has_number g a c ≡ has_number g b c
unfolding bitmap_byte
same_number g a b same c below =
    let q = c / 8 in
    let q_in : q < 128 = omega arith in
    let bytes : bitmap_byte g a q ≡ bitmap_byte g b q =
    sym (bitmap_at g a q q_in) ∙ ap (λ (l : List ℕ). get_or l q 0) same ∙ bitmap_at g b q q_in in
    let number : 8 * q + c % 8 ≡ c = omega arith in
    subst (λ (k : ℕ). has_number g a k ≡ has_number g b k) number
    (bits_once (λ p. has_number g a (8 * q + p)) (λ p. has_number g b (8 * q + p)) bytes (c % 8) (omega arith))

-- a cell of the stripe by its number
pub number_is : (g : Geometry) (cells : CellSet) (i j : ℕ) → j < g.n → has_number g cells (i * g.n + j) ≡ has_cell cells i j
number_is g cells i j below =
    ap (λ (k : ℕ). has_cell cells k ((i * g.n + j) % g.n)) (div-mul-add i g.n j below) ∙ ap (has_cell cells i) (mod-mul-add i g.n j below)

pub number_small : (g : Geometry) (i j : ℕ) → IsWithinLimits g → i < g.r → j < g.n → i * g.n + j < 1024
number_small g i j limits row slot =
    let rows : g.r ≤ 32 = limits.rows.1 in
    let devices : g.n ≤ 32 = limits.devices.1 in
    let product : i * g.n ≤ 31 * 32 = mul-le i g.n 31 32 (omega arith) devices in
    omega arith

within : (g : Geometry) (a b : Redo) → IsWithinLimits g → IsRedo g a → bitmap g a.cells ≡ bitmap g b.cells → (i j : ℕ) → HasCell a.cells i j → HasCell b.cells i j
within g a b limits of same i j has =
    let inside = of.inside i j has in
    sym (number_is g b.cells i j inside.1)
    ∙ sym (same_number g a.cells b.cells same (i * g.n + j) (number_small g i j limits inside.0 inside.1))
    ∙ number_is g a.cells i j inside.1
    ∙ has

pub once : (g : Geometry) (cell : Cell) (a b : Redo) → IsWithinLimits g → IsOpenWith g cell a → IsOpenWith g cell b → a ≡ b
once g cell a b limits of_a of_b =
    let good_a = of_a.good in
    let good_b = of_b.good in
    let same : open_gate g a ≡ open_gate g b = cc in
    let stripe : a.stripe ≡ b.stripe =
    sym (stripe_is g a limits of_a.formed) ∙ ap (λ (l : List ℕ). from_be_bytes w32 (take 4 (drop 12 l))) same ∙ stripe_is g b limits of_b.formed in
    let bits : bitmap g a.cells ≡ bitmap g b.cells =
    sym (bitmap_bytes g a) ∙ ap (λ (l : List ℕ). take 128 (drop 16 l)) same ∙ bitmap_bytes g b in
    let cells : a.cells ≡ b.cells =
    same_cells a.cells b.cells of_a.formed.formed of_b.formed.formed
    (λ i j. (within g a b limits of_a.formed bits i j, within g b a limits of_b.formed (sym bits) i j)) in
    λ i. record { stripe = stripe i; cells = cells i }
