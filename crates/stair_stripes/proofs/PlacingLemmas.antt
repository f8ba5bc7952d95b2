-- What placing writes, sector by sector.
use Rattle.std.proofs.Common.{◌≡◌, ℕ, ◌+◌, ◌-◌, ◌<◌, Bool, List, ◌⊎◌, inl, inr, sym, ap, ◌∙◌, arith, None, Some, if◌then◌else◌}
use Rattle.std.specs.Prelude.{IsTrue}
use Rattle.std.proofs.lemmas.Bool.{cases_eq, cases_lt, cond-true, cond-false, false_from_ne_true, lt-ltb, le-ltb}
use Rattle.stair_model.specs.CellSet.{HasCell, has_cell}
use Rattle.stair_model.specs.Device.{cell_sector}
use Rattle.stair_model.specs.Geometry.{Geometry}
use Rattle.stair_model.specs.Stripe.{Stripe, cell}
use Rattle.stair_rack.specs.Answers.{Calls}
use Rattle.stair_rack.specs.Count.{Rose}
use Rattle.stair_rack.specs.History.{Write}
use Rattle.stair_rack.specs.Placed.{Writes, IsGoneSlot}
use Rattle.stair_rack.specs.RackCounts.{NoneFalls}
use Rattle.stair_rack.specs.Writing.{IsOnSlot}
use Rattle.stair_rack.specs.declared.rack.Reply.{Reply}
use Rattle.stair_rack.specs.declared.rack.Reply.TheVariants as reply
use Rattle.stair_rack.proofs.PassCounts.{Seen}
use Rattle.stair_rack.proofs.PhaseCounts.{WritesSlot, slot_none, slot_one, slot_asked, slot_then}
use Rattle.stair_journal.specs.Redo.{IsRedo}
use Rattle.stair_journal.specs.declared.redo.Redo.{Redo}
use Rattle.stair_journal.proofs.WritesLemmas.{some_then}
use Rattle.stair_stripes.specs.Placing.{cell_writes, placed_cell}

-- THE CELLS

module _ (g : Geometry) (redo : Redo) (stripe : Stripe) where
  -- a row of the slot's chunk is written exactly where its cell is one of the redo's
  cell_writes_at : (j i : ℕ)
      → cell_writes g redo stripe j (cell_sector g redo.stripe i) ≡ (if has_cell redo.cells i j then Some (cell stripe i j) else None)
  cell_writes_at j i =
      let first = cell_sector g redo.stripe 0 in
      let here = cell_sector g redo.stripe i in
      let number : here - first ≡ i = omega arith in
      cond-false _ _ _ (le-ltb here first (omega arith)) ∙ ap (placed_cell redo stripe j) number

  pub cell_writes_cell : (j i : ℕ) → HasCell redo.cells i j → cell_writes g redo stripe j (cell_sector g redo.stripe i) ≡ Some (cell stripe i j)
  cell_writes_cell j i has = cell_writes_at j i ∙ cond-true _ _ _ has

  pub cell_writes_none : (j i : ℕ) → (¬ HasCell redo.cells i j) → cell_writes g redo stripe j (cell_sector g redo.stripe i) ≡ None
  cell_writes_none j i none = cell_writes_at j i ∙ cond-false _ _ _ (false_from_ne_true _ none)

  -- a sector that is written is that of one of the redo's cells
  pub record IsCellWrite (j k : ℕ) (bytes : List ℕ) : Type 0 where
    pub row : ℕ
    pub has : HasCell redo.cells row j
    pub at : k ≡ cell_sector g redo.stripe row
    pub is : bytes ≡ cell stripe row j

  pub cell_writes_is : (j k : ℕ) (bytes : List ℕ) → cell_writes g redo stripe j k ≡ Some bytes → IsCellWrite j k bytes
  cell_writes_is j k bytes is =
      let first = cell_sector g redo.stripe 0 in
      elim (cases_lt k first) [
        | inl before ↦
            let none : None ≡ Some bytes = sym (cond-true _ _ _ (lt-ltb k first before)) ∙ is in
            absurd (cc)
        | inr past ↦
            let here : placed_cell redo stripe j (k - first) ≡ Some bytes = sym (cond-false _ _ _ (le-ltb k first past)) ∙ is in
            let both = some_then (has_cell redo.cells (k - first) j) (cell stripe (k - first) j) bytes here in
            record { row = k - first; has = both.0; at = omega (arith, past); is = sym both.1 }
      ]

-- they lie on slots of the array
pub cell_writes_on : (g : Geometry) (redo : Redo) (stripe : Stripe) (j k : ℕ) (bytes : List ℕ) → IsRedo g redo
    → cell_writes g redo stripe j k ≡ Some bytes → j < g.n
cell_writes_on g redo stripe j k bytes formed is =
    let w = cell_writes_is g redo stripe j k bytes is in (formed.inside w.row j w.has).1

-- ONE CHUNK

-- the sectors for the chunk's cells in the rows before this one
abbrev pub IsInChunkTo : Geometry → Redo → ℕ → ℕ → ℕ → ℕ → Type 0
IsInChunkTo g redo slot row j k = (j ≡ slot) × (k < cell_sector g redo.stripe row)

module _ (g : Geometry) (redo : Redo) (stripe : Stripe) (slot : ℕ) (honest : Bool) where
  abbrev chunk_writes : Writes
  chunk_writes = cell_writes g redo stripe

  pub chunk_start : (s : Seen) → WritesSlot chunk_writes slot reply.Done (IsInChunkTo g redo slot 0) honest s s
  chunk_start s =
      slot_none chunk_writes slot (IsInChunkTo g redo slot 0) honest s
      (λ j k bytes made is. let w = cell_writes_is g redo stripe j k bytes is in absurd (omega (arith, made.1, w.at)))

  module _ (row : ℕ) (answer : Reply) (old mid new : Seen) (so_far : WritesSlot chunk_writes slot reply.Done (IsInChunkTo g redo slot row) honest old mid) where
    pub chunk_more : HasCell redo.cells row slot
        → (IsTrue honest → Calls mid.history new.history slot (Write (cell_sector g redo.stripe row) (cell stripe row slot) answer))
        → (answer ≡ reply.Gone → Rose (mid.gones slot) (new.gones slot)) → NoneFalls mid.bads new.bads mid.gones new.gones
        → new.reads ≡ mid.reads → WritesSlot chunk_writes slot answer (IsInChunkTo g redo slot (row + 1)) honest old new
    chunk_more has called gone counts reads =
        slot_then one_more so_far
        (slot_one chunk_writes slot (cell_sector g redo.stripe row) (cell stripe row slot) answer honest mid new called
        (cell_writes_cell g redo stripe slot row has) gone counts reads)
      where
        one_more : (j k : ℕ) (bytes : List ℕ) → IsInChunkTo g redo slot (row + 1) j k → (¬ IsGoneSlot slot answer j) → chunk_writes j k ≡ Some bytes
            → IsInChunkTo g redo slot row j k ⊎ ((j ≡ slot) × (k ≡ cell_sector g redo.stripe row))
        one_more j k bytes made fine is =
            elim (cases_eq k (cell_sector g redo.stripe row)) [
              | inl at ↦ inr (made.0, at)
              | inr other ↦ inl (made.0, omega (arith, made.1, other))
            ]

  -- a cell that isn't one of the redo's
  pub chunk_skipped : (row : ℕ) (old new : Seen) → (¬ HasCell redo.cells row slot)
      → WritesSlot chunk_writes slot reply.Done (IsInChunkTo g redo slot row) honest old new
      → WritesSlot chunk_writes slot reply.Done (IsInChunkTo g redo slot (row + 1)) honest old new
  chunk_skipped row old new none so_far = slot_asked asked so_far
    where
      not_here : (j k : ℕ) (bytes : List ℕ) → j ≡ slot → chunk_writes j k ≡ Some bytes → ¬ (k ≡ cell_sector g redo.stripe row)
      not_here j k bytes on is at =
          let nothing : None ≡ Some bytes =
          sym (cell_writes_none g redo stripe slot row none) ∙ ap (λ i. chunk_writes i (cell_sector g redo.stripe row)) (sym on) ∙ ap (chunk_writes j) (sym at) ∙ is in
          absurd (cc)

      asked : (j k : ℕ) (bytes : List ℕ) → IsInChunkTo g redo slot (row + 1) j k → chunk_writes j k ≡ Some bytes → IsInChunkTo g redo slot row j k
      asked j k bytes made is = let other = not_here j k bytes made.0 is in (made.0, omega (arith, made.1, other))

  -- the whole chunk
  pub chunk_end : (j k : ℕ) (bytes : List ℕ) → IsRedo g redo → IsOnSlot slot j k → chunk_writes j k ≡ Some bytes → IsInChunkTo g redo slot g.r j k
  chunk_end j k bytes formed on is =
      let w = cell_writes_is g redo stripe j k bytes is in
      let within = (formed.inside w.row j w.has).0 in
      (on, omega (arith, within, w.at))
