-- what comes of the gates from here on comes of them from the beginning on; the live slots fall in number
use Rattle.std.proofs.Common.{◌≡◌, Option}
use Rattle.stair_model.specs.Slots.{Slots, slot_count}
use Rattle.stair_rack.specs.Told.{told}
use Rattle.stair_member.specs.declared.fault.FenceFault.{FenceFault}
use Rattle.stair_journal.specs.declared.redo.Redo.{Redo}
use Rattle.stair_invariant.specs.Effects.{AreLive, FindsRedo, Snapshot, snapshot}
use Rattle.stair_array.proofs.session.ArrayCore.find_redo.Given as goal

abbrev pub invariant-loop-geometry : goal.invariant-loop-geometry
invariant-loop-geometry g l = record {
  geometry : l.geometry ≡ l.self.member.array.geometry;
  as_before : l.self.member.array.geometry ≡ l.fn.self.member.array.geometry;
  live : AreLive l.self.member l.live;
  stopped : l.self.stopped ≡ l.fn.self.stopped;
  so_far : (redo : Option Redo) (opened : Slots) (refusal : Option FenceFault) (z : Snapshot)
      → FindsRedo redo opened refusal (snapshot l.self.member (told g.R.Rack l.rack)) z
      → FindsRedo redo opened refusal (snapshot l.fn.self.member (told g.R.Rack l.fn.rack)) z;
}

abbrev pub decreases-loop-geometry : goal.decreases-loop-geometry
decreases-loop-geometry g l = slot_count l.live
