-- A gate is written and read: its bitmap, and the redo that its bytes name.
use Rattle.std.proofs.Common.{◌≡◌, ℕ, suc, ◌+◌, ◌-◌, ◌*◌, ◌/◌, ◌%◌, ◌<◌, ◌≤◌, Bool, false, cond, List, ◌++◌, length, get_or, take, drop, sym, ap, subst, ◌∙◌, arith}
use Rattle.std.specs.Prelude.{◌↔◌, IsTrue, slice_set}
use Rattle.std.specs.Int.{w32, to_be_bytes, from_be_bytes, bit_at}
use Rattle.std.proofs.lemmas.Grind.{same_number_lists}
use Rattle.std.proofs.lemmas.List.{get_or-drop, get_or-take, get_or_past}
use borrow.Rule.Slice.PartMut.{put_mid}
use Rattle.stair_model.specs.CellSet.{CellSet, has_cell, HasCell, count_in_row, cell_count, IsCellSet}
use Rattle.stair_model.specs.Geometry.{Geometry, IsWithinLimits}
use Rattle.stair_model.specs.Slots.{Slots, has_slot, HasSlot, slot_count, no_slots}
use Rattle.stair_model.specs.Sum.{sum_below}
use Rattle.stair_model.proofs.CountLaws.{sum_below_longer, sum_below_more}
use Rattle.stair_model.proofs.SetLaws.{has_slot-none, same_cells}
use Rattle.stair_rack.specs.Sector.{Good}
use Rattle.stair_journal.specs.Gate.{has_number, bitmap_byte, bitmap, open_gate, closed_gate, IsOpenWith}
use Rattle.stair_journal.specs.GateSteps.{IsMarked, IsMarkedCell}
use Rattle.stair_journal.specs.Redo.{IsRedo}
use Rattle.stair_journal.specs.declared.redo.Redo.{Redo}
use Rattle.stair_journal.proofs.BitLemmas.{bit_marks}
use Rattle.stair_journal.proofs.GateLemmas.{length-bitmap, bitmap_at, bitmap_bytes, stripe_is, number_is, number_small}

-- no cell lies past the last row of a set
pub has_cell-past : (cells : CellSet) (i j : ℕ) → IsCellSet cells → 32 ≤ i → has_cell cells i j ≡ false
has_cell-past cells i j of past =
    ap (λ (s : Slots). has_slot s j) (get_or_past cells.rows i no_slots (omega (arith, of.count))) ∙ has_slot-none j

pub no_number : (g : Geometry) (cells : CellSet) (number n : ℕ) → IsCellSet cells → n ≡ g.n → 32 ≤ number / n
    → has_number g cells number ≡ false
no_number g cells number n of same past =
    let above : 32 ≤ number / g.n = subst (λ (k : ℕ). 32 ≤ number / k) same past in
    has_cell-past cells (number / g.n) (number % g.n) of above

-- a list of these bytes is the bitmap
pub bitmap_whole : (g : Geometry) (cells : CellSet) (xs : List ℕ) → length xs ≡ 128
    → ((k : ℕ) → k < 128 → get_or xs k 0 ≡ bitmap_byte g cells k) → xs ≡ bitmap g cells
bitmap_whole g cells xs sized each =
    same_number_lists xs (bitmap g cells) (sized ∙ sym (length-bitmap g cells))
    (λ k within.
    let below : k < 128 = omega arith in
    each k below ∙ sym (bitmap_at g cells k below))

-- ---- a set with a cell is counted

counted : (n k : ℕ) (f : ℕ → ℕ) → k < n → 0 < f k → 0 < sum_below n f
counted n k f within above = omega (arith, sum_below_longer f (suc k) n (omega arith), sum_below_more k f)

slot_counted : (set : Slots) (j : ℕ) → j < 32 → HasSlot set j → 0 < slot_count set
slot_counted set j below has =
    let one : ◌≡◌ {A = ℕ} (cond (has_slot set j) 1 0) 1 = ap (λ (b : Bool). cond b 1 0) has in
    counted 32 j (λ k. cond (has_slot set k) 1 0) below (omega arith)

pub cell_counted : (cells : CellSet) (i j : ℕ) → i < 32 → j < 32 → HasCell cells i j → 0 < cell_count cells
cell_counted cells i j row slot has = counted 32 i (count_in_row cells) row (slot_counted (get_or cells.rows i no_slots) j slot has)

-- ---- the marks of an open gate

marked_byte : (g : Geometry) (redo : Redo) (q : ℕ) → q < 128 → get_or (open_gate g redo) (16 + q) 0 ≡ bitmap_byte g redo.cells q
marked_byte g redo q below =
    sym (get_or-drop 16 (open_gate g redo) q 0)
    ∙ sym (get_or-take 128 (drop 16 (open_gate g redo)) q 0 below)
    ∙ ap (λ (l : List ℕ). get_or l q 0) (bitmap_bytes g redo)
    ∙ bitmap_at g redo.cells q below

marks_number : (g : Geometry) (redo : Redo) (c : ℕ) → c < 1024 → IsMarked (open_gate g redo) c ↔ IsTrue (has_number g redo.cells c)
unfolding bitmap_byte
marks_number g redo c below =
    let q = c / 8 in
    let number : 8 * q + c % 8 ≡ c = omega arith in
    let byte = marked_byte g redo q (omega arith) in
    let bits = bit_marks (λ p. has_number g redo.cells (8 * q + p)) (c % 8) (omega arith) in (
      λ marked. sym (ap (has_number g redo.cells) number) ∙ bits.0 (sym (ap (λ (b : ℕ). bit_at b (7 - c % 8)) byte) ∙ marked),
      λ has. ap (λ (b : ℕ). bit_at b (7 - c % 8)) byte ∙ bits.1 (ap (has_number g redo.cells) number ∙ has),
    )

-- the marked cells of the stripe are those of the redo
marks_cells : (g : Geometry) (redo : Redo) (i j : ℕ) → IsWithinLimits g → IsRedo g redo
    → IsMarkedCell g (open_gate g redo) i j ↔ HasCell redo.cells i j
marks_cells g redo i j limits of = (
  λ marked.
      let small = number_small g i j limits marked.0 marked.1.0 in
      sym (number_is g redo.cells i j marked.1.0) ∙ (marks_number g redo (i * g.n + j) small).0 marked.1.1,
  λ has.
      let inside = of.inside i j has in
      let small = number_small g i j limits inside.0 inside.1 in
      (inside.0, (inside.1, (marks_number g redo (i * g.n + j) small).1 (number_is g redo.cells i j inside.1 ∙ has))),
)

-- ---- what is read is the redo of the gate

pub named : (g : Geometry) (bytes : List ℕ) (read redo : Redo) → IsWithinLimits g → IsOpenWith g (Good bytes) redo
    → read.stripe ≡ from_be_bytes w32 (take 4 (drop 12 bytes)) → IsCellSet read.cells
    → ((i j : ℕ) → HasCell read.cells i j ↔ IsMarkedCell g bytes i j) → read ≡ redo
named g bytes read redo limits opened stripe_read of members =
    let good = opened.good in
    let same : bytes ≡ open_gate g redo = cc in
    let stripe : read.stripe ≡ redo.stripe =
    stripe_read ∙ ap (λ (l : List ℕ). from_be_bytes w32 (take 4 (drop 12 l))) same ∙ stripe_is g redo limits opened.formed in
    let cells : read.cells ≡ redo.cells =
    same_cells read.cells redo.cells of opened.formed.formed
    (λ i j. (
      λ has. (marks_cells g redo i j limits opened.formed).0 (subst (λ (l : List ℕ). IsMarkedCell g l i j) same ((members i j).0 has)),
      λ has. (members i j).1 (subst (λ (l : List ℕ). IsMarkedCell g l i j) (sym same) ((marks_cells g redo i j limits opened.formed).1 has)),
    )) in
    λ i. record { stripe = stripe i; cells = cells i }

-- ---- what is written is the gate of the redo

pub gate_put : (g : Geometry) (redo : Redo) (gate number bits : List ℕ) → gate ≡ closed_gate
    → number ≡ to_be_bytes w32 redo.stripe ++ drop 4 (take 4 (drop 12 (slice_set gate 8 1))) → bits ≡ bitmap g redo.cells
    → put_mid 16 128 (put_mid 12 4 (slice_set gate 8 1) number) bits ≡ open_gate g redo
unfolding open_gate closed_gate
gate_put g redo gate number bits closed put cells =
    let stripe : number ≡ to_be_bytes w32 redo.stripe =
    put ∙ ap (λ (l : List ℕ). to_be_bytes w32 redo.stripe ++ drop 4 (take 4 (drop 12 (slice_set l 8 1)))) closed in
    λ i. put_mid 16 128 (put_mid 12 4 (slice_set (closed i) 8 1) (stripe i)) (cells i)
