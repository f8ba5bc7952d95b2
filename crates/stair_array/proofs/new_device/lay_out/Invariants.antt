-- the sectors from the gate up to this one were written
use Rattle.stair_rack.specs.Told.{told}
use Rattle.stair_array.proofs.DeviceLemmas.{LaidSoFar}
use Rattle.stair_array.proofs.new_device.lay_out.Given as goal

abbrev pub invariant-loop-sector : goal.invariant-loop-sector
invariant-loop-sector g l =
    LaidSoFar l.fn.geometry l.slots l.sector
    (told g.R.Rack l.fn.rack)
    (told g.R.Rack l.rack)
