-- What a rack tells contracts, by its ghost members.
use Rattle.stair_rack.specs.RackState.{RackState, rack_state}
use Rattle.stair_rack.specs.declared.rack.Rack.{Ghosts}

abbrev pub told : {R : Type 0} → Ghosts R → R → RackState
told members rack = rack_state members.is_honest (members.history rack) (members.bads rack) (members.gones rack)
