-- A stretch in which the outside does nothing, and calls look.
use Rattle.std.specs.Prelude.{List}
use Rattle.stair_rack.specs.History.{Acted, Called, Happening, Made, Stopped}
use Rattle.stair_rack.specs.Stretch.{EachHappening}
use Rattle.stair_member.specs.Asked.{LeavesSectors}

-- a call that neither writes nor syncs
abbrev pub IsLook : List Happening → Happening → Type 0
IsLook h (Made image) = ⊥
IsLook h Stopped = ⊥
IsLook h (Acted j act) = ⊥
IsLook h (Called j call) = LeavesSectors j call

-- from old to new came such calls alone, and no act of the outside
abbrev pub IsStill : List Happening → List Happening → Type 0
IsStill old new = EachHappening IsLook old new
