-- What happened to a rack, and how its slots stand after it.
use Rattle.std.specs.Prelude.{◌≡◌, ℕ, ◌+◌, Bool, true, false, List, [], ◌∷◌, ◌++◌, Option, None, Some, IsSome, ◌==◌, if◌then◌else◌, slice_get, remove, unwrap_or}
use Rattle.stair_rack.specs.Sector.{Damaged, Sector, damaged, wrote, synced}
use Rattle.stair_rack.specs.Media.{Medium, SlotImage, Image, has_sector, sectors_of}
use Rattle.stair_rack.specs.declared.rack.Reply.{Reply}
use Rattle.stair_rack.specs.declared.rack.Reply.TheVariants as reply
use Rattle.stair_rack.specs.declared.rack.Got.{Got}

-- what the outside does to a slot
pub data SlotAct : Type 0 where
  -- it pulls the slot's medium, which settles as this one
  Pulled : Medium → SlotAct
  -- it puts in a medium of so many sectors that was never written
  InsertedBlank : ℕ → SlotAct
  -- it puts one of the slot's removed media back, counted from 0
  InsertedOld : ℕ → SlotAct
  -- it damages a sector of the slot's medium
  SectorDamaged : ℕ → SlotAct

-- a call on a slot, with its answer
pub data SlotCall : Type 0 where
  Attach : Reply → SlotCall
  Sectors : ℕ → SlotCall
  Read : ℕ → Got → SlotCall
  Write : ℕ → List ℕ → Reply → SlotCall
  Sync : Reply → SlotCall

pub data Happening : Type 0 where
  -- the rack is made over these media, nothing of which is unsynced, and no slot is attached
  Made : Image → Happening
  -- the outside stops the rack for good
  Stopped : Happening
  -- the outside acts on this slot
  Acted : ℕ → SlotAct → Happening
  -- a call on this slot
  Called : ℕ → SlotCall → Happening

-- a slot as it stands
pub record SlotState : Type 0 where
  -- the number of sectors of its medium, None where it holds none
  pub size : Option ℕ
  pub sector : ℕ → Sector
  -- the media that were pulled from the slot and aren't back in it, the first of them first
  pub removed : List Medium
  -- the last attach found the medium that the slot holds
  pub attached : Bool
  -- the number of sectors that the last attach found, 0 where it found none
  pub found : ℕ
  -- how often a medium was pulled
  pub pulls : ℕ

abbrev pub with_sector : ℕ → Sector → SlotState → SlotState
with_sector k s b = record b { sector = λ i. if i == k then s else b.sector i }

abbrev pub made : SlotImage → SlotState
made image = record {
  size = image.size;
  sector = sectors_of image.size image.cell;
  removed = image.removed;
  attached = false;
  found = 0;
  pulls = 0;
}

abbrev pub empty_slot : SlotImage
empty_slot = record { size = None; cell = λ k. Damaged; removed = [] }

abbrev pub with_old : ℕ → Option Medium → SlotState → SlotState
with_old i None b = b
with_old i (Some m) b = record b {
  size = Some m.size;
  sector = sectors_of (Some m.size) m.cell;
  removed = remove b.removed i;
}

abbrev pub after_act : SlotAct → SlotState → SlotState
after_act (Pulled m) b =
    record b {
      size = None;
      sector = λ k. damaged;
      removed = b.removed ++ m ∷ [];
      attached = false;
      pulls = b.pulls + 1;
    }
after_act (InsertedBlank size) b = record b { size = Some size; sector = λ k. damaged }
after_act (InsertedOld i) b = with_old i (slice_get b.removed i) b
after_act (SectorDamaged k) b = with_sector k damaged b

abbrev pub after_attach : Reply → SlotState → SlotState
after_attach reply.Done b = record b { attached = true; found = unwrap_or b.size 0 }
after_attach reply.Gone b = record b { attached = false; found = 0 }

abbrev pub after_write : ℕ → List ℕ → Reply → SlotState → SlotState
after_write k bytes reply.Done b = with_sector k (wrote bytes (b.sector k)) b
after_write k bytes reply.Gone b = b

abbrev pub after_sync : Reply → SlotState → SlotState
after_sync reply.Done b = record b { sector = λ k. synced (b.sector k) }
after_sync reply.Gone b = b

abbrev pub after_call : SlotCall → SlotState → SlotState
after_call (Attach answer) b = after_attach answer b
after_call (Sectors size) b = b
after_call (Read k answer) b = b
after_call (Write k bytes answer) b = after_write k bytes answer b
after_call (Sync answer) b = after_sync answer b

-- slot j after these happenings, of which the newest comes first
abbrev pub slot_state : List Happening → ℕ → SlotState
slot_state [] j = made empty_slot
slot_state (Made image ∷ h) j = made (image j)
slot_state (Stopped ∷ h) j = slot_state h j
slot_state (Acted i act ∷ h) j = if i == j then after_act act (slot_state h j) else slot_state h j
slot_state (Called i call ∷ h) j = if i == j then after_call call (slot_state h j)
    else slot_state h j

-- the outside stopped the rack
abbrev pub stopped : List Happening → Bool
stopped [] = false
stopped (Made image ∷ h) = false
stopped (Stopped ∷ h) = true
stopped (Acted i act ∷ h) = stopped h
stopped (Called i call ∷ h) = stopped h

-- nothing can be read past the end of a medium or in an empty slot, and an attached slot holds the medium that was found
pub record IsTidy (h : List Happening) : Type 0 where
  pub past_end : (j k : ℕ) → has_sector (slot_state h j).size k ≡ false →
      (slot_state h j).sector k ≡ damaged
  pub attached : (j : ℕ) → (slot_state h j).attached ≡ true → IsSome (slot_state h j).size
  pub found : (j : ℕ) → (slot_state h j).attached ≡ true →
      (slot_state h j).size ≡ Some (slot_state h j).found
