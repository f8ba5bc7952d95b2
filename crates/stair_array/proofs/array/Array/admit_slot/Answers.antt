-- The slot was admitted, or that was refused. A rebuild goes on where its slot is still rebuilt.
use Rattle.std.proofs.Common.{◌∙◌, sym}
use Rattle.std.specs.Prelude.{Ok}
use Rattle.stair_rack.specs.Told.{told}
use Rattle.stair_invariant.specs.Effects.{snapshot}
use Rattle.stair_array.specs.MendingCalls.{AdmitsSlot}
use Rattle.stair_array.proofs.AdmittingLemmas.{admits_refused}
use Rattle.stair_array.proofs.RebuildingLemmas.{under_after}
use Rattle.stair_array.proofs.array.Array.admit_slot.Goals as goal

pub returns-in_err-admitted-clause-does : goal.returns-in_err-admitted-clause-does
returns-in_err-admitted-clause-does g c none =
    rw (← c.self.view_is)
    (admits_refused c.args.slot (snapshot c.self.inside.session.member (told g.R.Rack c.args.rack.now))
    (snapshot c.admit_slot-admitted.new.self.member (told g.R.Rack c.admit_slot-admitted.new.rack)) _ _ c.from_residual.ensures.1
    (rw c.in_err-admitted.was at c.admit_slot-admitted.ensures.does))

pub returns-clause-does : goal.returns-clause-does
returns-clause-does g c none =
    rw (← c.self.view_is)
    (AdmitsSlot.Joined (Ok c.in_ok-admitted.field-0) (snapshot c.self.inside.session.member (told g.R.Rack c.args.rack.now))
    (snapshot c.admit_slot-admitted.new.self.member (told g.R.Rack c.admit_slot-admitted.new.rack))
    (rw c.in_ok-admitted.was at c.admit_slot-admitted.ensures.does))

pub invariant_of-self-2 : goal.invariant_of-self-2
invariant_of-self-2 g c = (
  c.self.invariant.0 ∙ sym c.admit_slot-admitted.ensures.geometry,
  rw c.left_of-self-inside.ensures (under_after _ _ c.admit_slot-admitted.ensures.geometry _ c.self.invariant.1),
)
