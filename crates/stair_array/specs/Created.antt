-- A new array, as `create` leaves it but for the outside.
use Rattle.std.specs.Prelude.{◌≡◌, ◌-◌, ◌<◌, ◌==◌, ◌++◌, ◌⊎◌, ℕ, false, List, [], Some, nat_lt, replicate, slice_get, if◌then◌else◌, ⊤}
use Rattle.stair_model.specs.Device.{gate_sector}
use Rattle.stair_model.specs.Geometry.{Geometry, sectors_needed}
use Rattle.stair_rack.specs.History.{Happening, Made, Stopped, Acted, Called, Pulled, InsertedBlank, InsertedOld, SectorDamaged, slot_state}
use Rattle.stair_rack.specs.Media.{Image, Medium, SlotImage}
use Rattle.stair_rack.specs.Sector.{Good, Damaged}
use Rattle.stair_rack.specs.Stretch.{EachHappening}
use Rattle.stair_super.specs.Spelling.{spelled}
use Rattle.stair_super.specs.Superblock.{Superblock, superblock_of}
use Rattle.stair_super.specs.declared.configuration.Configuration.{Configuration}
use Rattle.stair_super.specs.declared.mark.Mark.{Mark}
use Rattle.stair_super.specs.declared.mark.Mark.TheVariants.{Live, Down}
use Rattle.stair_member.specs.Reserve.{Bears}
use Rattle.stair_journal.specs.Gate.{closed_gate}
use Rattle.stair_state.specs.Blocks.{zero_block}
use Rattle.stair_state.specs.Reassembly.{Location, IsMediumOf}
use Rattle.stair_state.specs.Represents.{IsLargeEnough}

-- the first n of 32, and the others
abbrev pub first_marks : Geometry → List Mark
first_marks g = replicate g.n Live ++ replicate (32 - g.n) Down

abbrev pub first_joins : Geometry → List ℕ
first_joins g = replicate g.n 1 ++ replicate (32 - g.n) 0

-- what epoch 1 names: all slots of the array are live since then, and it is neither frozen nor labelled
abbrev pub first_configuration : Geometry → Configuration
first_configuration g = record {
  geometry = g;
  epoch = 1;
  marks = first_marks g;
  joins = first_joins g;
  frozen = false;
  label = [];
}

-- the superblock of slot j, whose joined number and draw are 1
abbrev pub first_super : Geometry → ℕ → Superblock
first_super g j = superblock_of (first_configuration g) j 1 1

-- what sector k of slot j holds: the superblock in both places, a closed gate, and zeros after it
abbrev pub created_sector : Geometry → ℕ → ℕ → List ℕ
created_sector g j k = if nat_lt k gate_sector then spelled (first_super g j)
    else (if k == gate_sector then closed_gate else zero_block)

-- a device as `create` left it, but for damage
pub record IsNewDevice (g : Geometry) (j : ℕ) (slot : SlotImage) : Type 0 where
  pub full : IsLargeEnough g slot.size
  pub sectors : (k : ℕ) → k < sectors_needed g
      → (slot.cell k ≡ Good (created_sector g j k)) ⊎ (slot.cell k ≡ Damaged)

-- the slot holds its new device, or since then another medium or none, which bears no superblock of the array for the slot
pub data IsNewSlot (g : Geometry) (j : ℕ) (slot : SlotImage) : Type 0 where
  Kept : IsNewDevice g j slot → IsNewSlot g j slot
  Other : ((s : Superblock) → ¬ Bears g j slot.cell s) → IsNewSlot g j slot

-- each slot of the array does
abbrev pub IsNewArray : Geometry → Image → Type 0
IsNewArray g image = (j : ℕ) → j < g.n → IsNewSlot g j (image j)

-- no medium that was pulled and isn't back bears a superblock of the array for its slot
pub record BearNoneOutside (g : Geometry) (image : Image) : Type 0 where
  pub none : (j i : ℕ) (medium : Medium) (s : Superblock)
      → slice_get (image j).removed i ≡ Some medium → ¬ Bears g j medium.cell s

-- a medium as one that lies in a slot
abbrev pub in_slot : Medium → SlotImage
in_slot medium = record { size = Some medium.size; cell = medium.cell; removed = [] }

-- However the media of the array's slots lie: each is a new device or bears no superblock of the array for its slot, and of
-- no slot two do.
pub record AreNewMedia (g : Geometry) (image : Image) : Type 0 where
  pub each : (j : ℕ) (place : Location) (medium : Medium) → j < g.n
      → IsMediumOf (image j) place medium → IsNewSlot g j (in_slot medium)
  pub once : (j : ℕ) (p q : Location) (a b : Medium) (s t : Superblock)
      → IsMediumOf (image j) p a → IsMediumOf (image j) q b
      → Bears g j a.cell s → Bears g j b.cell t → p ≡ q

-- no act that puts back a medium which bears a superblock of the array for its slot
abbrev pub ReturnsNoneOf : Geometry → List Happening → Happening → Type 0
ReturnsNoneOf g h (Made image) = ⊤
ReturnsNoneOf g h Stopped = ⊤
ReturnsNoneOf g h (Acted j (Pulled m)) = ⊤
ReturnsNoneOf g h (Acted j (InsertedBlank size)) = ⊤
ReturnsNoneOf g h (Acted j (InsertedOld i)) = (medium : Medium) (s : Superblock)
    → slice_get (slot_state h j).removed i ≡ Some medium → ¬ Bears g j medium.cell s
ReturnsNoneOf g h (Acted j (SectorDamaged k)) = ⊤
ReturnsNoneOf g h (Called j call) = ⊤

-- no medium that bears a superblock of the array for its slot came back from old to new
abbrev pub NoneComesBack : Geometry → List Happening → List Happening → Type 0
NoneComesBack g old new = EachHappening (ReturnsNoneOf g) old new
