-- What the journal's phases write, sector by sector.
use Rattle.std.proofs.Common.{◌≡◌, ℕ, ◌+◌, ◌-◌, ◌*◌, ◌/◌, ◌%◌, ◌<◌, ◌≤◌, Bool, true, false, List, ◌⊎◌, inl, inr, refl, sym, ap, ap₂, ◌∙◌, arith, None, Some, if◌then◌else◌, div-add-mod'}
use Rattle.std.specs.Prelude.{◌==◌, IsTrue}
use Rattle.std.proofs.lemmas.Bool.{cases_eq, cases_lt, cond-true, cond-false, eq-eqb, false_from_ne_true, ne_eqb, lt-ltb, le-ltb}
use Rattle.std.proofs.lemmas.Nat.{div-mul-add, mod-mul-add, mul-add-lt}
use Rattle.std.proofs.lemmas.Option.{same_Some}
use Rattle.stair_model.specs.CellSet.{HasCell, has_cell}
use Rattle.stair_model.specs.Device.{body_sector, body_start, gate_sector}
use Rattle.stair_model.specs.Geometry.{Geometry}
use Rattle.stair_model.specs.Stripe.{Stripe, cell}
use Rattle.stair_rack.specs.Answers.{Calls}
use Rattle.stair_rack.specs.Count.{Rose}
use Rattle.stair_rack.specs.History.{Write}
use Rattle.stair_rack.specs.Placed.{Writes, IsGoneSlot}
use Rattle.stair_rack.specs.RackCounts.{NoneFalls}
use Rattle.stair_rack.specs.Writing.{IsOnSlot}
use Rattle.stair_rack.specs.declared.rack.Reply.{Reply}
use Rattle.stair_rack.specs.declared.rack.Reply.TheVariants as reply
use Rattle.stair_rack.proofs.PassCounts.{Seen}
use Rattle.stair_rack.proofs.PhaseCounts.{WritesSlot, slot_none, slot_one, slot_asked, slot_then}
use Rattle.stair_journal.specs.Gate.{has_number}
use Rattle.stair_journal.specs.Redo.{IsRedo}
use Rattle.stair_journal.specs.Journalling.{body_cell, body_writes, gate_writes}
use Rattle.stair_journal.specs.PhaseSteps.{IsInRow}
use Rattle.stair_journal.specs.declared.redo.Redo.{Redo}

-- some value is what a choice gave
pub some_then : {A : Type 0} (b : Bool) (x y : A) → (if b then Some x else None) ≡ Some y → IsTrue b × (x ≡ y)
some_then true x y is = (refl, cc)
some_then false x y is = absurd (cc)

-- THE BODY

module _ (g : Geometry) (redo : Redo) (stripe : Stripe) where
  -- on each slot, the sector for a cell is written with it exactly where it is one of the redo's
  body_writes_at : (j i c : ℕ) → c < g.n
      → body_writes g redo stripe j (body_sector g i c) ≡ (if has_cell redo.cells i c then Some (cell stripe i c) else None)
  body_writes_at j i c below =
      let number : body_sector g i c - body_start ≡ i * g.n + c = omega arith in
      cond-false _ _ _ (le-ltb (body_sector g i c) body_start (omega arith))
      ∙ ap (body_cell g redo stripe) number
      ∙ ap₂ (λ a b. if has_cell redo.cells a b then Some (cell stripe a b) else None) (div-mul-add i g.n c below) (mod-mul-add i g.n c below)

  pub body_writes_cell : (j i c : ℕ) → c < g.n → HasCell redo.cells i c → body_writes g redo stripe j (body_sector g i c) ≡ Some (cell stripe i c)
  body_writes_cell j i c below has = body_writes_at j i c below ∙ cond-true _ _ _ has

  pub body_writes_none : (j i c : ℕ) → c < g.n → (¬ HasCell redo.cells i c) → body_writes g redo stripe j (body_sector g i c) ≡ None
  body_writes_none j i c below none = body_writes_at j i c below ∙ cond-false _ _ _ (false_from_ne_true _ none)

  -- a sector that is written is for one of the redo's cells
  pub record IsBodyWrite (k : ℕ) (bytes : List ℕ) : Type 0 where
    pub row : ℕ
    pub chunk : ℕ
    pub has : HasCell redo.cells row chunk
    pub at : k ≡ body_sector g row chunk
    pub is : bytes ≡ cell stripe row chunk

  pub body_writes_is : (j k : ℕ) (bytes : List ℕ) → body_writes g redo stripe j k ≡ Some bytes → IsBodyWrite k bytes
  body_writes_is j k bytes is =
      elim (cases_lt k body_start) [
        | inl before ↦
            let none : None ≡ Some bytes = sym (cond-true _ _ _ (lt-ltb k body_start before)) ∙ is in
            absurd (cc)
        | inr past ↦
            let number = k - body_start in
            let here : body_cell g redo stripe number ≡ Some bytes = sym (cond-false _ _ _ (le-ltb k body_start past)) ∙ is in
            let both = some_then (has_number g redo.cells number) (cell stripe (number / g.n) (number % g.n)) bytes here in
            record {
              row = number / g.n;
              chunk = number % g.n;
              has = both.0;
              at = omega (arith, div-add-mod' number g.n, past);
              is = sym both.1;
            }
      ]

-- THE GATE

pub gate_writes_there : (gate : List ℕ) (j : ℕ) → gate_writes gate j gate_sector ≡ Some gate
gate_writes_there gate j = refl

-- a sector that is written is the gate's, and these bytes are the gate
pub record IsGateWrite (gate : List ℕ) (k : ℕ) (bytes : List ℕ) : Type 0 where
  pub at : k ≡ gate_sector
  pub is : bytes ≡ gate

pub gate_writes_is : (gate : List ℕ) (j k : ℕ) (bytes : List ℕ) → gate_writes gate j k ≡ Some bytes → IsGateWrite gate k bytes
gate_writes_is gate j k bytes is =
    elim (cases_eq k gate_sector) [
      | inl at ↦ record { at = at; is = same_Some bytes gate (sym is ∙ cond-true (k == gate_sector) (Some gate) None (eq-eqb k gate_sector at)) }
      | inr other ↦
          let none : None ≡ Some bytes = sym (cond-false _ _ _ (ne_eqb k gate_sector other)) ∙ is in
          absurd (cc)
    ]

-- ONE ROW OF THE BODY, ON ONE SLOT

-- the sectors for the row's cells before this chunk
abbrev pub IsInRowTo : Geometry → ℕ → ℕ → ℕ → ℕ → ℕ → Type 0
IsInRowTo g slot row chunk j k = (j ≡ slot) × (body_sector g row 0 ≤ k) × (k < body_sector g row chunk)

module _ (g : Geometry) (redo : Redo) (stripe : Stripe) (slot row : ℕ) (honest : Bool) where
  abbrev row_writes : Writes
  row_writes = body_writes g redo stripe

  pub row_start : (s : Seen) → WritesSlot row_writes slot reply.Done (IsInRowTo g slot row 0) honest s s
  row_start s = slot_none row_writes slot (IsInRowTo g slot row 0) honest s (λ j k bytes made is. absurd (omega (arith, made.1, made.2)))

  module _ (chunk : ℕ) (answer : Reply) (old mid new : Seen) (below : chunk < g.n)
      (so_far : WritesSlot row_writes slot reply.Done (IsInRowTo g slot row chunk) honest old mid) where
    pub row_more : HasCell redo.cells row chunk
        → (IsTrue honest → Calls mid.history new.history slot (Write (body_sector g row chunk) (cell stripe row chunk) answer))
        → (answer ≡ reply.Gone → Rose (mid.gones slot) (new.gones slot)) → NoneFalls mid.bads new.bads mid.gones new.gones
        → new.reads ≡ mid.reads → WritesSlot row_writes slot answer (IsInRowTo g slot row (chunk + 1)) honest old new
    row_more has called gone counts reads =
        slot_then one_more so_far
        (slot_one row_writes slot (body_sector g row chunk) (cell stripe row chunk) answer honest mid new called
        (body_writes_cell g redo stripe slot row chunk below has) gone counts reads)
      where
        one_more : (j k : ℕ) (bytes : List ℕ) → IsInRowTo g slot row (chunk + 1) j k → (¬ IsGoneSlot slot answer j) → row_writes j k ≡ Some bytes
            → IsInRowTo g slot row chunk j k ⊎ ((j ≡ slot) × (k ≡ body_sector g row chunk))
        one_more j k bytes made fine is =
            elim (cases_eq k (body_sector g row chunk)) [
              | inl at ↦ inr (made.0, at)
              | inr other ↦ inl (made.0, made.1, omega (arith, made.2, other))
            ]

  -- a cell that isn't one of the redo's
  pub row_skipped : (chunk : ℕ) (old new : Seen) → chunk < g.n → (¬ HasCell redo.cells row chunk)
      → WritesSlot row_writes slot reply.Done (IsInRowTo g slot row chunk) honest old new
      → WritesSlot row_writes slot reply.Done (IsInRowTo g slot row (chunk + 1)) honest old new
  row_skipped chunk old new below none so_far = slot_asked asked so_far
    where
      not_here : (j k : ℕ) (bytes : List ℕ) → row_writes j k ≡ Some bytes → ¬ (k ≡ body_sector g row chunk)
      not_here j k bytes is at =
          let nothing : None ≡ Some bytes = sym (body_writes_none g redo stripe j row chunk below none) ∙ ap (row_writes j) (sym at) ∙ is in
          absurd (cc)

      asked : (j k : ℕ) (bytes : List ℕ) → IsInRowTo g slot row (chunk + 1) j k → row_writes j k ≡ Some bytes → IsInRowTo g slot row chunk j k
      asked j k bytes made is = let other = not_here j k bytes is in (made.0, made.1, omega (arith, made.2, other))

-- the whole row
pub row_end : (g : Geometry) (slot row j k : ℕ) → IsInRow g slot row j k → IsInRowTo g slot row g.n j k
row_end g slot row j k made =
    let next : (row + 1) * g.n ≡ row * g.n + g.n = grind arith in
    (made.0, made.1, omega (arith, made.2, next))

-- ALL ROWS, ON ONE SLOT

-- the sectors for the cells of the rows before this one
abbrev pub IsInRowsTo : Geometry → ℕ → ℕ → ℕ → ℕ → Type 0
IsInRowsTo g slot row j k = (j ≡ slot) × (k < body_sector g row 0)

module _ (g : Geometry) (redo : Redo) (stripe : Stripe) (slot : ℕ) (honest : Bool) where
  pub rows_start : (s : Seen) → WritesSlot (body_writes g redo stripe) slot reply.Done (IsInRowsTo g slot 0) honest s s
  rows_start s =
      slot_none (body_writes g redo stripe) slot (IsInRowsTo g slot 0) honest s
      (λ j k bytes made is. let w = body_writes_is g redo stripe j k bytes is in absurd (omega (arith, made.1, w.at)))

  pub rows_more : (row : ℕ) (answer : Reply) (old mid new : Seen)
      → WritesSlot (body_writes g redo stripe) slot reply.Done (IsInRowsTo g slot row) honest old mid
      → WritesSlot (body_writes g redo stripe) slot answer (IsInRow g slot row) honest mid new
      → WritesSlot (body_writes g redo stripe) slot answer (IsInRowsTo g slot (row + 1)) honest old new
  rows_more row answer old mid new so_far one = slot_then one_more so_far one
    where
      one_more : (j k : ℕ) (bytes : List ℕ) → IsInRowsTo g slot (row + 1) j k → (¬ IsGoneSlot slot answer j) → body_writes g redo stripe j k ≡ Some bytes
          → IsInRowsTo g slot row j k ⊎ IsInRow g slot row j k
      one_more j k bytes made fine is =
          elim (cases_lt k (body_sector g row 0)) [ inl before ↦ inl (made.0, before) | inr past ↦ inr (made.0, past, made.1) ]

  -- the whole body
  pub rows_end : (j k : ℕ) (bytes : List ℕ) → IsRedo g redo → IsOnSlot slot j k → body_writes g redo stripe j k ≡ Some bytes → IsInRowsTo g slot g.r j k
  rows_end j k bytes formed on is =
      let w = body_writes_is g redo stripe j k bytes is in
      let within = formed.inside w.row w.chunk w.has in
      let below : w.row * g.n + w.chunk < g.n * g.r = mul-add-lt w.row g.n w.chunk g.r within.0 within.1 in
      let turned : g.r * g.n ≡ g.n * g.r = grind arith in
      (on, omega (arith, below, turned, w.at))
