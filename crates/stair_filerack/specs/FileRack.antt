-- A rack over files, as contracts see it.
use Rattle.std.specs.Prelude.{◌≡◌, ◌<◌, ℕ, List, [], slice_index_or, slice_set}
use Rattle.stair_rack.specs.Count.{one_more}
use Rattle.stair_rack.specs.declared.rack.Got.{Got}
use Rattle.stair_rack.specs.declared.rack.Got.TheVariants as got
use Rattle.stair_filerack.specs.declared.access.Access.{Access}
use Rattle.stair_filerack.specs.Slot.{FileSlot, untouched, detached}

pub record FileRackState (File : Type 0) : Type 0 where
  -- what its files are opened for
  pub access : Access
  -- how often a sector read as bad
  pub bads : ℕ
  -- the 32 slots
  pub slots : List (FileSlot File)

-- a slot of the rack
abbrev pub slot_at : {File : Type 0} → FileRackState File → ℕ → FileSlot File
slot_at rack j = slice_index_or rack.slots j (untouched [])

-- how often a slot was gone
abbrev pub gones_of : {File : Type 0} → FileRackState File → ℕ → ℕ
gones_of rack j = (slot_at rack j).gones

-- the rack after a call that left this of the slot, and changed nothing else
abbrev pub with_slot : {File : Type 0} → ℕ → FileSlot File → FileRackState File → FileRackState File
with_slot j slot rack = record rack { slots = slice_set rack.slots j slot }

-- the count of bad sectors after a read with this answer
abbrev pub bads_after : Got → ℕ → ℕ
bads_after got.Good bads = bads
bads_after got.Bad bads = one_more bads
bads_after got.Gone bads = bads

-- the rack after a call that left no slot attached, and changed nothing else
pub record IsDetached {File : Type 0} (old new : FileRackState File) : Type 0 where
  pub access : new.access ≡ old.access
  pub bads : new.bads ≡ old.bads
  pub slots : (j : ℕ) → j < 32 → slot_at new j ≡ detached (slot_at old j)
