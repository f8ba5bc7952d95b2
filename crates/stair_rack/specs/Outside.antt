-- What the outside may do to a rack. It acts at the beginning of a call, and at no other time.
use Rattle.std.specs.Prelude.{◌≡◌, ◌<◌, List, length, None, IsTrue, ⊤}
use Rattle.stair_rack.specs.Media.{has_sector}
use Rattle.stair_rack.specs.Crash.{Settles}
use Rattle.stair_rack.specs.History.{SlotAct, Pulled, InsertedBlank, InsertedOld, SectorDamaged, SlotState, Happening, Made, Stopped, Acted, Called, slot_state}

-- a medium is pulled from a slot that holds one and put into one that holds none, and a sector is damaged that is there
abbrev pub MayHappen : SlotState → SlotAct → Type 0
MayHappen b (Pulled m) = Settles b m
MayHappen b (InsertedBlank size) = b.size ≡ None
MayHappen b (InsertedOld i) = (b.size ≡ None) × (i < length b.removed)
MayHappen b (SectorDamaged k) = IsTrue (has_sector b.size k)

-- the outside may do this next, to one of the 32 slots or to the rack
abbrev pub IsAct : List Happening → Happening → Type 0
IsAct h (Made image) = ⊥
IsAct h Stopped = ⊤
IsAct h (Acted j act) = (j < 32) × MayHappen (slot_state h j) act
IsAct h (Called j call) = ⊥
