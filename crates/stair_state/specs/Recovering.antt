-- What a recovery knows of the gates that a crash left.
use Rattle.std.specs.Prelude.{◌≡◌, ℕ, false, List, []}
use Rattle.stair_model.specs.Device.{gate_sector}
use Rattle.stair_model.specs.Geometry.{Geometry}
use Rattle.stair_rack.specs.Answers.{is_good}
use Rattle.stair_rack.specs.History.{Happening}
use Rattle.stair_rack.specs.Offline.{ButForOutside}
use Rattle.stair_rack.specs.Sector.{Good, Leaves, Sector, content, settled}
use Rattle.stair_journal.specs.Gate.{ReadsClosed, open_gate}
use Rattle.stair_journal.specs.declared.redo.Redo.{Redo}

-- A SECTOR, READ AS A GATE

-- it is open with this redo, on the disk
abbrev pub IsOpenSector : Geometry → Redo → Sector → Type 0
IsOpenSector g redo s = s ≡ settled (Good (open_gate g redo))

-- nothing of it is unsynced, and it reads as closed
pub record IsClosedSector (g : Geometry) (s : Sector) : Type 0 where
  pub on_disk : s.since ≡ []
  pub closed : ReadsClosed g s.base

-- no bytes can be read of it
abbrev pub IsUnreadable : Sector → Type 0
IsUnreadable s = is_good (content s) ≡ false

-- THE GATE OF SLOT j, BUT FOR WHAT THE OUTSIDE DID SINCE `start`

abbrev pub IsKnownOpen : Geometry → Redo → List Happening → List Happening → ℕ → Type 0
IsKnownOpen g redo start h j = ButForOutside start h j gate_sector (IsOpenSector g redo)

abbrev pub IsKnownClosed : Geometry → List Happening → List Happening → ℕ → Type 0
IsKnownClosed g start h j = ButForOutside start h j gate_sector (IsClosedSector g)

abbrev pub IsKnownBad : List Happening → List Happening → ℕ → Type 0
IsKnownBad start h j = ButForOutside start h j gate_sector IsUnreadable

-- whatever a crash leaves of it reads as closed, and so does what lies under its unsynced writes
abbrev pub IsShut : Geometry → List Happening → List Happening → ℕ → Type 0
IsShut g start h j = ButForOutside start h j gate_sector (Leaves (ReadsClosed g) (ReadsClosed g))
