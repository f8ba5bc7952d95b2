-- What a script of acts of the outside does to a rack.
use Rattle.std.specs.Prelude.{ℕ, Bool, not, ◌&&◌, List, [], ◌∷◌, length, Option, None, Some, is_some, if◌then◌else◌, nat_lt, ◌==◌, unwrap_or}
use Rattle.stair_rack.specs.Sector.{Cell, Sector, content}
use Rattle.stair_rack.specs.Media.{Medium, has_sector}
use Rattle.stair_rack.specs.History.{SlotAct, Pulled, InsertedBlank, InsertedOld, SectorDamaged, SlotState, Happening, Stopped, Acted, slot_state}
use Rattle.stair_memrack.specs.declared.act.Act.{Act}
use Rattle.stair_memrack.specs.declared.act.What.{What}
use Rattle.stair_memrack.specs.declared.act.What.TheVariants.{Pull, PullLosing, InsertBlank, InsertOld, Damage, Stop}
use Rattle.stair_memrack.specs.declared.disk.Settling.{Settling}
use Rattle.stair_memrack.specs.declared.disk.Settling.TheVariants.{AsRead, AsSynced}

-- what stays of a sector where its medium settles so
abbrev pub kept_of : Settling → Sector → Cell
kept_of AsRead s = content s
kept_of AsSynced s = s.base

-- the slot's medium, settled so
abbrev pub medium_kept : Settling → SlotState → Medium
medium_kept how b = record { size = unwrap_or b.size 0; cell = λ k. kept_of how (b.sector k) }

-- this act on slot j, where that is one of the 32 slots and the act applies
abbrev pub act_where : Bool → ℕ → SlotAct → Option Happening
act_where applies j act = if nat_lt j 32 && applies then Some (Acted j act) else None

-- the medium of slot j is pulled, and settles so
abbrev pub pull_of : Settling → ℕ → List Happening → Option Happening
pull_of how j h = act_where (is_some (slot_state h j).size) j
    (Pulled (medium_kept how (slot_state h j)))

-- What happens, None where the act doesn't apply. A medium that is pulled settles as reads find it, or, where it loses
-- what wasn't synced, as at its last sync.
abbrev pub event_of : What → List Happening → Option Happening
event_of (Pull j) h = pull_of AsRead j h
event_of (PullLosing j) h = pull_of AsSynced j h
event_of (InsertBlank j size) h = act_where (not (is_some (slot_state h j).size)) j
    (InsertedBlank size)
event_of (InsertOld j i) h =
    act_where (not (is_some (slot_state h j).size) && nat_lt i (length (slot_state h j).removed)) j
    (InsertedOld i)
event_of (Damage j k) h = act_where (has_sector (slot_state h j).size k) j (SectorDamaged k)
event_of Stop h = Some Stopped

abbrev pub followed_by : Option Happening → List Happening → List Happening
followed_by None h = h
followed_by (Some e) h = e ∷ h

-- the history after an act, which does nothing where it doesn't apply
abbrev pub after_what : What → List Happening → List Happening
after_what what h = followed_by (event_of what h) h

-- the history after those of these acts that stand before call n, in the order of the list
abbrev pub after_acts : ℕ → List Act → List Happening → List Happening
after_acts n [] h = h
after_acts n (act ∷ acts) h = after_acts n acts (if act.at == n then after_what act.what h else h)
