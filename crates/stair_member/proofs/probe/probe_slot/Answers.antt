-- The second read follows the first.
use Rattle.stair_rack.specs.Told.{told}
use Rattle.stair_member.proofs.probe.probe_slot.Goals as goal

pub returns-clause-does : goal.returns-clause-does
returns-clause-does g c =
    record { between = told g.R.Rack c.read_place-first.new.rack; first = c.read_place-first.ensures.does; second = c.read_place-second.ensures.does }
