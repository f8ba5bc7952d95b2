use Rattle.stair_model.proofs.SetLaws.{same_slots, same_cells}
use Rattle.stair_model.proofs.coverage.set_laws.Goals as goal

pub returns : goal.returns
returns c = record { slots = same_slots; cells = same_cells }
