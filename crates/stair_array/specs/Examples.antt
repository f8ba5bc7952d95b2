-- Small states of an array, for rows of the machine.
use Rattle.std.specs.Prelude.{◌==◌, ℕ, List, [], ◌∷◌, None, Some, if◌then◌else◌}
use Rattle.stair_model.specs.Geometry.{Geometry}
use Rattle.stair_super.specs.declared.mark.Mark.{Mark}
use Rattle.stair_member.specs.Seats.{Seats}
use Rattle.stair_state.specs.State.{BlocksAre, Content, State, created_state, first_seats}

-- a new array whose first block is to be set, and nobody knows whether it was; its seats aren't known
abbrev pub doubtful : Geometry → List ℕ → State
doubtful g bytes = record (created_state g) {
  in_doubt = Some (BlocksAre 0 (bytes ∷ []));
  seats = None;
}

-- a new array, with these seats
abbrev pub new_with : Geometry → Seats → State
new_with g seats = record (created_state g) { seats = Some seats }

-- and with this content
abbrev pub holding : Geometry → Content → State
holding g content = record (created_state g) { content = content }

-- all slots of a new array, but this one, which has this mark since this epoch
abbrev pub all_but : Geometry → ℕ → Mark → ℕ → Seats
all_but g slot mark joined j = if j == slot then record { mark = mark; joined = joined } else first_seats g j
