-- How many cells a scrub rewrites, if the outside does nothing meanwhile.
use Rattle.std.specs.Prelude.{◌≡◌, ◌↔◌, ◌+◌, ◌<◌, ℕ, false, IsSome, List, [], ◌∷◌, length, ⊤}
use Rattle.std.specs.Io.KnownBytes.{Appends}
use Rattle.stair_model.specs.CellSet.{CellSet, HasCell, IsCellSet, cell_count}
use Rattle.stair_model.specs.Device.{cell_sector, gate_sector}
use Rattle.stair_model.specs.Geometry.{Geometry}
use Rattle.stair_rack.specs.Answers.{IsHistory, is_good}
use Rattle.stair_rack.specs.History.{Happening, slot_state}
use Rattle.stair_rack.specs.Offline.{WasPulled}
use Rattle.stair_rack.specs.Sector.{Good, content}
use Rattle.stair_rack.specs.Stretch.{NothingDamaged, NothingReturned}
use Rattle.stair_journal.specs.Gate.{open_gate}
use Rattle.stair_journal.specs.declared.redo.Redo.{Redo}
use Rattle.stair_state.specs.Represents.{Represents}
use Rattle.stair_state.specs.State.{State}
use Rattle.stair_state.specs.Tolerance.{ToleratedSince}
use Rattle.stair_array.specs.Looking.{cells_at}
use Rattle.stair_command.specs.Living.{IsLiveAt}
use Rattle.stair_command.specs.Outside.{SinkView}
use Rattle.stair_command.specs.Trace.{TraceItem, HasPut, PutFailed}
use Rattle.stair_status.specs.declared.status.Status.{Status}
use Rattle.stair_status.specs.declared.status.Status.TheVariants.{Done}
use Rattle.stair_engine.specs.Mending.{scrubbed_line}

-- the gate of no slot that is live at h is open
abbrev pub NoGateIsOpen : Geometry → List Happening → Type 0
NoGateIsOpen g h = (j : ℕ) (redo : Redo) → IsLiveAt g h j
    → ¬ (cells_at h j gate_sector ≡ Good (open_gate g redo))

-- the cells of stripe t that can't be read at h, on slots that are live then
pub record AreBad (g : Geometry) (h : List Happening) (t : ℕ) (cells : CellSet) : Type 0 where
  pub formed : IsCellSet cells
  pub each : (i j : ℕ) → HasCell cells i j ↔ ((i < g.r) × IsLiveAt g h j
      × (is_good (content ((slot_state h j).sector (cell_sector g t i))) ≡ false))

-- those of so many stripes, from stripe t on
abbrev pub AreBadFrom : Geometry → List Happening → ℕ → List CellSet → Type 0
AreBadFrom g h t [] = ⊤
AreBadFrom g h t (cells ∷ more) = AreBad g h t cells × AreBadFrom g h (t + 1) more

abbrev pub cells_in : List CellSet → ℕ
cells_in [] = 0
cells_in (cells ∷ more) = cell_count cells + cells_in more

-- Exactly `count` stripe cells of live slots cannot be read at h.
pub record IsExact (g : Geometry) (h : List Happening) (count : ℕ) : Type 0 where
  pub bad : List CellSet
  pub stripes : length bad ≡ g.stripes
  pub are : AreBadFrom g h 0 bad
  pub sum : count ≡ cells_in bad

-- the outside damaged no sector, and pulled no medium of a slot that held one at first
pub record IsQuiet (first last : List Happening) : Type 0 where
  pub undamaged : NothingDamaged first last
  pub unpulled : (j : ℕ) → IsSome (slot_state first j).size → ¬ WasPulled first last j

-- The rack was an array in a state and stayed within tolerance to the end. No medium was reinserted, the outside left
-- the media that were there alone, and no redo was to be done again.
pub record IsUndisturbed (s : State) (first last : List Happening) : Type 0 where
  pub history : IsHistory first
  pub represents : Represents s first
  pub tolerated : ToleratedSince s.geometry first last
  pub returned : NothingReturned first last
  pub quiet : IsQuiet first last
  pub gates : NoGateIsOpen s.geometry first

-- The line is all that was put out, and the last item of the trace.
abbrev pub PutsAlone : List ℕ → List TraceItem → Type 0
PutsAlone line [] = ⊥
PutsAlone line (HasPut bytes ∷ trace) = (bytes ≡ line) × (trace ≡ [])
PutsAlone line (PutFailed part ∷ trace) = ⊥
PutsAlone line (item ∷ trace) = PutsAlone line trace

-- On such a rack, a `scrub` that is done reports how many cells of live slots could not be read at first.
abbrev pub TellsCount : {K : Type 0} → SinkView K → Status → K → K → List Happening → List Happening
    → Type 0
TellsCount sink status old new first last = status ≡ Done → (s : State) → IsUndisturbed s first last
    → (count : ℕ) × IsExact s.geometry first count
    × Appends (sink.held old) (sink.held new) (scrubbed_line s.geometry.stripes count)
