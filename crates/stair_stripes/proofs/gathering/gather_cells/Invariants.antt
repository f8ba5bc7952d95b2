-- the wanted cells of the slots before this one were gathered
use Rattle.stair_model.specs.CellSet.{count_in_slot}
use Rattle.stair_model.specs.Sum.{sum_below}
use Rattle.stair_rack.specs.RackCounts.{RisesAtMost}
use Rattle.stair_rack.specs.Told.{told}
use Rattle.stair_stripes.specs.GatheringSteps.{GathersBefore}
use Rattle.stair_stripes.proofs.gathering.gather_cells.Given as goal

abbrev pub invariant-loop-slot : goal.invariant-loop-slot
invariant-loop-slot g l = record {
  before : GathersBefore l.geometry l.live l.stripe l.wanted l.slot 0 l.gathered l.fn.into l.into
      (told g.R.Rack l.fn.rack)
      (told g.R.Rack l.rack);
  reads : RisesAtMost (sum_below l.slot (count_in_slot l.wanted)) (g.R.Rack.reads l.fn.rack) (g.R.Rack.reads l.rack);
}
