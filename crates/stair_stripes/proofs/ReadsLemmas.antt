-- The reads of gathering in turn: a row more, a chunk more, and all of them.
use Rattle.std.proofs.Common.{◌≡◌, ℕ, ◌+◌, ◌<◌, List, refl, sym, subst}
use Rattle.std.specs.Prelude.{◌↔◌, ◌≢◌}
use Rattle.stair_model.specs.CellSet.{CellSet, HasCell}
use Rattle.stair_model.specs.Device.{cell_sector}
use Rattle.stair_model.specs.Geometry.{Geometry}
use Rattle.stair_model.specs.Slots.{Slots, HasSlot}
use Rattle.stair_rack.specs.Answers.{Calls}
use Rattle.stair_rack.specs.History.{Happening, Read}
use Rattle.stair_rack.specs.declared.rack.Got.{Got}
use Rattle.stair_rack.specs.declared.rack.Got.TheVariants as got
use Rattle.stair_rack.specs.Reading.{EachBelow}
use Rattle.stair_journal.proofs.TurnLemmas.{each_mapped, each_more}
use Rattle.stair_stripes.specs.Reads.{ReadsCell, Unwanted, There, ReadsChunk, NotLive, Whole, UpTo, ReadsInTurn}
use Rattle.stair_stripes.specs.GatheringSteps.{ReadsBefore}

-- THE SAME CELLS, AND THE SAME GONE SLOTS

module _ (g : Geometry) (live : Slots) (t : ℕ) (W V : ℕ → ℕ → Type 0) (same : (i j : ℕ) → W i j ↔ V i j) where
  cell_same : (j i : ℕ) (old new : List Happening) → ReadsCell g t W j i old new → ReadsCell g t V j i old new
  cell_same j i old new (Unwanted unwanted none) = Unwanted (λ in_v. unwanted ((same i j).1 in_v)) none
  cell_same j i old new (There in_w answer there called) = There ((same i j).0 in_w) answer there called

  rows_same : (j row : ℕ) (old new : List Happening) → EachBelow (ReadsCell g t W j) row old new → EachBelow (ReadsCell g t V j) row old new
  rows_same j row old new = each_mapped (ReadsCell g t W j) (ReadsCell g t V j) row old new (λ i from to less. cell_same j i from to)

  chunk_same : (gone after : Slots) (j : ℕ) (old new : List Happening) → (HasSlot gone j ↔ HasSlot after j) → ReadsChunk g live t W gone j old new
      → ReadsChunk g live t V after j old new
  chunk_same gone after j old new agree (NotLive dead none) = NotLive dead none
  chunk_same gone after j old new agree (Whole on there rows) = Whole on (λ has. there (agree.1 has)) (rows_same j g.r old new rows)
  chunk_same gone after j old new agree (UpTo on lost row mid in_w rows called) =
      UpTo on (agree.0 lost) row mid ((same row j).0 in_w) (rows_same j row old mid rows) called

  pub chunks_same : (gone after : Slots) (n : ℕ) (old new : List Happening) → ((j : ℕ) → j < n → HasSlot gone j ↔ HasSlot after j)
      → EachBelow (ReadsChunk g live t W gone) n old new → EachBelow (ReadsChunk g live t V after) n old new
  chunks_same gone after n old new agree =
      each_mapped (ReadsChunk g live t W gone) (ReadsChunk g live t V after) n old new
      (λ j from to less. chunk_same gone after j from to (agree j less))

-- SO FAR

pub reads_none : (g : Geometry) (live : Slots) (t : ℕ) (wanted : CellSet) (gone : Slots) (now : List Happening)
    → ReadsBefore g live t wanted 0 0 gone now now
reads_none g live t wanted gone now = record { mid = now; chunks = refl; rows = refl }

module _ (g : Geometry) (live : Slots) (t : ℕ) (wanted : CellSet) (slot row : ℕ) (gone : Slots) (old now : List Happening)
    (before : ReadsBefore g live t wanted slot row gone old now) where
  pub reads_skipped : ¬ HasCell wanted row slot → ReadsBefore g live t wanted slot (row + 1) gone old now
  reads_skipped unwanted = record {
    mid = before.mid;
    chunks = before.chunks;
    rows = each_more (ReadsCell g t (HasCell wanted) slot) row before.mid now now before.rows (Unwanted unwanted refl);
  }

  pub reads_cell : (answer : Got) (new : List Happening) → HasCell wanted row slot → answer ≢ got.Gone
      → Calls now new slot (Read (cell_sector g t row) answer) → ReadsBefore g live t wanted slot (row + 1) gone old new
  reads_cell answer new is_wanted there called = record {
    mid = before.mid;
    chunks = before.chunks;
    rows = each_more (ReadsCell g t (HasCell wanted) slot) row before.mid now new before.rows (There is_wanted answer there called);
  }

  -- the chunk was read to its end
  pub reads_ended : row ≡ g.r → HasSlot live slot → ¬ HasSlot gone slot → ReadsBefore g live t wanted (slot + 1) 0 gone old now
  reads_ended all on there = record {
    mid = now;
    chunks =
        each_more (ReadsChunk g live t (HasCell wanted) gone) slot old before.mid now before.chunks
        (Whole on there (subst (λ (i : ℕ). EachBelow (ReadsCell g t (HasCell wanted) slot) i before.mid now) all before.rows));
    rows = refl;
  }

  -- or its slot was gone
  pub reads_lost : (after : Slots) (new : List Happening) → HasSlot live slot → HasSlot after slot
      → ((j : ℕ) → j < slot → HasSlot gone j ↔ HasSlot after j) → HasCell wanted row slot → Calls now new slot (Read (cell_sector g t row) got.Gone)
      → ReadsBefore g live t wanted (slot + 1) 0 after old new
  reads_lost after new on lost agree is_wanted called = record {
    mid = new;
    chunks =
        each_more (ReadsChunk g live t (HasCell wanted) after) slot old before.mid new
        (chunks_same g live t (HasCell wanted) (HasCell wanted) (λ i j. (λ has. has, λ has. has)) gone after slot old before.mid agree before.chunks)
        (UpTo on lost row now is_wanted before.rows called);
    rows = refl;
  }

-- the slot isn't live
pub reads_dead : (g : Geometry) (live : Slots) (t : ℕ) (wanted : CellSet) (slot : ℕ) (gone : Slots) (old now : List Happening)
    → ReadsBefore g live t wanted slot 0 gone old now → ¬ HasSlot live slot → ReadsBefore g live t wanted (slot + 1) 0 gone old now
reads_dead g live t wanted slot gone old now before dead = record {
  mid = now;
  chunks = each_more (ReadsChunk g live t (HasCell wanted) gone) slot old before.mid now before.chunks (NotLive dead before.rows);
  rows = refl;
}

pub reads_all : (g : Geometry) (live : Slots) (t : ℕ) (wanted : CellSet) (gone : Slots) (old now : List Happening)
    → ReadsBefore g live t wanted g.n 0 gone old now → ReadsInTurn g live t (HasCell wanted) gone old now
reads_all g live t wanted gone old now before =
    subst (λ h. EachBelow (ReadsChunk g live t (HasCell wanted) gone) g.n old h) (sym before.rows) before.chunks
