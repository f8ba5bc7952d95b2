-- how far it has come, and the slots that may still be gone
use Rattle.std.proofs.Common.{◌≡◌, ◌-◌}
use Rattle.stair_model.specs.Slots.{slot_count}
use Rattle.stair_rack.specs.Told.{told}
use Rattle.stair_member.proofs.EstablishLemmas.{Attempt}
use Rattle.stair_member.proofs.establish.establish.Given as goal

abbrev pub invariant-loop-fault : goal.invariant-loop-fault
invariant-loop-fault g l = record {
  far : Attempt l.fn.aim l.left l.initial.member l.member l.gone
      (told g.R.Rack l.initial.rack)
      (told g.R.Rack l.rack);
  reads : g.R.Rack.reads l.rack ≡ g.R.Rack.reads l.initial.rack;
}

abbrev pub decreases-loop-fault : goal.decreases-loop-fault
decreases-loop-fault g l = 32 - slot_count l.gone
