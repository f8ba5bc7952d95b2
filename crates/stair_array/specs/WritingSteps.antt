-- How the cells of a redo come to be in memory.
use Rattle.std.specs.Prelude.{ℕ, List, length, Result, Ok, Err}
use Rattle.stair_model.specs.Stripe.{Stripe}
use Rattle.stair_journal.specs.declared.redo.Redo.{Redo}
use Rattle.stair_invariant.specs.Effects.{Snapshot}
use Rattle.stair_array.specs.Calls.{AreSet, Prepares}
use Rattle.stair_array.specs.Machine.{Refusal}

-- the stripe in memory has the cells of a redo of these blocks, or why it hasn't
abbrev pub Readies : Redo → ℕ → List (List ℕ) → Stripe → Result (Unit {0}) Refusal → Snapshot → Snapshot
    → Type 0
Readies redo first contents stripe (Ok done) x y = (loaded : Stripe)
    × Prepares redo.stripe (length contents) redo.cells loaded (Ok tt) x y
    × AreSet x.member.array.geometry redo.stripe first contents redo.cells loaded stripe
Readies redo first contents stripe (Err refusal) x y = (loaded : Stripe)
    × Prepares redo.stripe (length contents) redo.cells loaded (Err refusal) x y
