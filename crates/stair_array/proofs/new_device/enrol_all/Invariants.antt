-- the slots below this one have their superblocks
use Rattle.std.proofs.Common.{◌≡◌, ◌<◌, length}
use Rattle.stair_rack.specs.Told.{told}
use Rattle.stair_array.proofs.EnrolLemmas.{EnrolledSoFar}
use Rattle.stair_array.proofs.new_device.enrol_all.Given as goal

abbrev pub invariant-loop-slot : goal.invariant-loop-slot
invariant-loop-slot g l = record {
  made :
      EnrolledSoFar l.fn.geometry l.slot
      (told g.R.Rack l.initial.rack)
      (told g.R.Rack l.rack);
  id : 0 < l.slot → length l.fn.geometry.id ≡ 16;
}
