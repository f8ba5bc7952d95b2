-- The journal of a device that is to be admitted: what is written, sector by sector, and what stands once it was synced.
use Rattle.std.proofs.Common.{◌≡◌, ◌+◌, ◌<◌, ◌≤◌, ◌⊎◌, ℕ, Bool, false, List, None, Some, ap, arith, inl, inr, refl, sym, ◌∙◌}
use Rattle.std.specs.Prelude.{◌==◌, IsTrue}
use Rattle.std.proofs.lemmas.Bool.{cases_eq, cases_lt, cond-true, cond-false, eqb-true, false_from_ne_true, le-ltb, lt-ltb}
use Rattle.stair_model.specs.Device.{chunks_start, gate_sector}
use Rattle.stair_model.specs.Geometry.{Geometry}
use Rattle.stair_rack.specs.Answers.{Calls}
use Rattle.stair_rack.specs.Count.{Rose}
use Rattle.stair_rack.specs.History.{Happening, Sync, Write}
use Rattle.stair_rack.specs.Placed.{IsGoneSlot, IsSlot, Placed}
use Rattle.stair_rack.specs.RackCounts.{NoneFalls}
use Rattle.stair_rack.specs.Writing.{IsOnSlot, Writing}
use Rattle.stair_rack.specs.declared.rack.Reply.{Reply}
use Rattle.stair_rack.specs.declared.rack.Reply.TheVariants as reply
use Rattle.stair_rack.proofs.PassCounts.{Seen}
use Rattle.stair_rack.proofs.PhaseCounts.{WritesSlot, done_not_gone, slot_asked, slot_none, slot_one, slot_stopped, slot_then}
use Rattle.stair_rack.proofs.PlacedLemmas.{Placed-from, Placed-same}
use Rattle.stair_rack.proofs.WritingLemmas.{SyncStep-call, SyncStep-none}
use Rattle.stair_journal.specs.Gate.{closed_gate}
use Rattle.stair_state.specs.Blocks.{zero_block}
use Rattle.stair_array.specs.Created.{created_sector}
use Rattle.stair_array.specs.Mends.{new_journal}
use Rattle.stair_array.specs.MendingSteps.{IsBodyOf}

-- WHAT IS WRITTEN

-- a sector that is written lies in the journal
pub journal_is : (g : Geometry) (j k : ℕ) (bytes : List ℕ) → new_journal g j k ≡ Some bytes → (gate_sector ≤ k) × (k < chunks_start g)
journal_is g j k bytes is =
    elim (cases_lt k gate_sector) [
      | inl before ↦
          let none : None ≡ Some bytes = sym (cond-true _ _ _ (lt-ltb k gate_sector before)) ∙ is in
          absurd (cc)
      | inr past ↦
          elim (cases_lt k (chunks_start g)) [
            | inl below ↦ (past, below)
            | inr after ↦
                let none : None ≡ Some bytes =
                sym (cond-false _ _ _ (le-ltb k gate_sector past) ∙ cond-false _ _ _ (le-ltb k (chunks_start g) after)) ∙ is in
                absurd (cc)
          ]
    ]

journal_there : (g : Geometry) (j k : ℕ) → gate_sector ≤ k → k < chunks_start g → new_journal g j k ≡ Some (created_sector g j k)
journal_there g j k past below = cond-false _ _ _ (le-ltb k gate_sector past) ∙ cond-true _ _ _ (lt-ltb k (chunks_start g) below)

pub journal_gate : (g : Geometry) (j : ℕ) → new_journal g j gate_sector ≡ Some closed_gate
journal_gate g j = journal_there g j gate_sector (omega arith) (omega arith)

pub journal_body : (g : Geometry) (j k : ℕ) → gate_sector < k → k < chunks_start g → new_journal g j k ≡ Some zero_block
journal_body g j k past below =
    journal_there g j k (omega (arith, past)) below
    ∙ ap Some (cond-false _ _ _ (le-ltb k gate_sector (omega (arith, past))) ∙ cond-false _ _ _ (other k past))
  where
    other : (n : ℕ) → gate_sector < n → (n == gate_sector) ≡ false
    other n more = false_from_ne_true _ (λ is. let same = eqb-true n gate_sector is in absurd (omega (arith, same, more)))

-- ONE SECTOR AFTER THE OTHER

-- the sectors after the gate, up to this one
abbrev pub IsUpTo : ℕ → ℕ → ℕ → ℕ → Type 0
IsUpTo slot sector j k = (j ≡ slot) × (gate_sector < k) × (k < sector)

module _ (g : Geometry) (slot : ℕ) (honest : Bool) where
  pub body_start : (s : Seen) → WritesSlot (new_journal g) slot reply.Done (IsUpTo slot (gate_sector + 1)) honest s s
  body_start s =
      slot_none (new_journal g) slot (IsUpTo slot (gate_sector + 1)) honest s
      (λ j k bytes made is. let past = made.1 in let below = made.2 in absurd (omega (arith, past, below)))

  pub body_more : (sector : ℕ) (answer : Reply) (old mid new : Seen) → WritesSlot (new_journal g) slot reply.Done (IsUpTo slot sector) honest old mid
      → gate_sector < sector → sector < chunks_start g
      → (IsTrue honest → Calls mid.history new.history slot (Write sector zero_block answer))
      → (answer ≡ reply.Gone → Rose (mid.gones slot) (new.gones slot)) → NoneFalls mid.bads new.bads mid.gones new.gones
      → new.reads ≡ mid.reads → WritesSlot (new_journal g) slot answer (IsUpTo slot (sector + 1)) honest old new
  body_more sector answer old mid new so_far past below called gone counts reads =
      slot_then one_more so_far
      (slot_one (new_journal g) slot sector zero_block answer honest mid new called (journal_body g slot sector past below) gone counts reads)
    where
      one_more : (j k : ℕ) (bytes : List ℕ) → IsUpTo slot (sector + 1) j k → (¬ IsGoneSlot slot answer j) → new_journal g j k ≡ Some bytes
          → IsUpTo slot sector j k ⊎ ((j ≡ slot) × (k ≡ sector))
      one_more j k bytes made fine is =
          let less = made.2 in
          elim (cases_eq k sector) [
            | inl at ↦ inr (made.0, at)
            | inr other ↦ inl (made.0, made.1, omega (arith, less, other))
          ]

  -- all of them
  pub body_end : (sector : ℕ) (old new : Seen) → chunks_start g ≤ sector → WritesSlot (new_journal g) slot reply.Done (IsUpTo slot sector) honest old new
      → WritesSlot (new_journal g) slot reply.Done (IsBodyOf slot) honest old new
  body_end sector old new past so_far =
      slot_asked
      (λ j k bytes made is. let below = (journal_is g j k bytes is).1 in (made.0, made.1, omega (arith, below, past))) so_far

  pub body_stopped : (sector : ℕ) (old new : Seen) → WritesSlot (new_journal g) slot reply.Gone (IsUpTo slot sector) honest old new
      → WritesSlot (new_journal g) slot reply.Gone (IsBodyOf slot) honest old new
  body_stopped sector old new so_far = slot_stopped (λ j k made. made.0) so_far

  -- the gate first
  gate_one : (answer : Reply) (old new : Seen) → (IsTrue honest → Calls old.history new.history slot (Write gate_sector closed_gate answer))
      → (answer ≡ reply.Gone → Rose (old.gones slot) (new.gones slot)) → NoneFalls old.bads new.bads old.gones new.gones
      → new.reads ≡ old.reads → WritesSlot (new_journal g) slot answer (λ j k. (j ≡ slot) × (k ≡ gate_sector)) honest old new
  gate_one answer old new called gone counts reads =
      slot_one (new_journal g) slot gate_sector closed_gate answer honest old new called (journal_gate g slot) gone counts reads

  pub gate_gone : (old new : Seen) → (IsTrue honest → Calls old.history new.history slot (Write gate_sector closed_gate reply.Gone))
      → (reply.Gone ≡ reply.Gone → Rose (old.gones slot) (new.gones slot)) → NoneFalls old.bads new.bads old.gones new.gones
      → new.reads ≡ old.reads → WritesSlot (new_journal g) slot reply.Gone (IsOnSlot slot) honest old new
  gate_gone old new called gone counts reads = slot_stopped (λ j k on. on) (gate_one reply.Gone old new called gone counts reads)

  pub gate_then : (answer : Reply) (old mid new : Seen) → (IsTrue honest → Calls old.history mid.history slot (Write gate_sector closed_gate reply.Done))
      → NoneFalls old.bads mid.bads old.gones mid.gones → mid.reads ≡ old.reads
      → WritesSlot (new_journal g) slot answer (IsBodyOf slot) honest mid new → WritesSlot (new_journal g) slot answer (IsOnSlot slot) honest old new
  gate_then answer old mid new called counts reads body =
      slot_then each (gate_one reply.Done old mid called (λ gone. let never : reply.Done ≡ reply.Gone = gone in absurd (cc)) counts reads) body
    where
      each : (j k : ℕ) (bytes : List ℕ) → IsOnSlot slot j k → (¬ IsGoneSlot slot answer j) → new_journal g j k ≡ Some bytes
          → ((j ≡ slot) × (k ≡ gate_sector)) ⊎ IsBodyOf slot j k
      each j k bytes on fine is =
          let past = (journal_is g j k bytes is).0 in
          elim (cases_eq k gate_sector) [ inl at ↦ inl (on, at) | inr other ↦ inr (on, omega (arith, past, other)) ]

-- AND A SYNC

module _ (g : Geometry) (slot : ℕ) (old mid : List Happening) where
  pub journal_placed : (new : List Happening) (answer : Reply)
      → Writing (new_journal g) (IsSlot slot) (IsGoneSlot slot reply.Done) (IsOnSlot slot) old mid → Calls mid new slot (Sync answer)
      → Placed (new_journal g) (IsSlot slot) (IsGoneSlot slot answer) old new
  journal_placed new answer written synced =
      Placed-same (λ j. (λ either. elim either [ inl was ↦ absurd (done_not_gone j was) | inr now ↦ now ], λ now. inr now))
      (Placed-from (new_journal g) (IsSlot slot) (IsGoneSlot slot reply.Done) (IsSlot slot) (IsGoneSlot slot answer) (IsOnSlot slot) old mid new written
      (λ j k bytes on is. on) (SyncStep-call slot answer mid new synced) (λ j on. on) (λ j on fine. on))

  -- gone to a write: nothing is synced
  pub journal_cut : Writing (new_journal g) (IsSlot slot) (IsGoneSlot slot reply.Gone) (IsOnSlot slot) old mid
      → Placed (new_journal g) (IsSlot slot) (IsGoneSlot slot reply.Gone) old mid
  journal_cut written =
      Placed-same (λ j. (λ either. elim either [ inl was ↦ was | inr never ↦ absurd never ], λ was. inl was))
      (Placed-from (new_journal g) (IsSlot slot) (IsGoneSlot slot reply.Gone) (λ j. ⊥) (λ j. ⊥) (IsOnSlot slot) old mid mid written
      (λ j k bytes on is. on) (SyncStep-none mid) (λ j never. absurd never) (λ j on fine. absurd (fine (on, refl))))
