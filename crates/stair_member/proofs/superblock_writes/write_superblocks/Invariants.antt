-- the slots so far were handed their superblocks
use Rattle.std.proofs.Common.{◌≡◌}
use Rattle.stair_rack.specs.RackCounts.{NoneFalls}
use Rattle.stair_member.proofs.SpreadLemmas.{SpreadSoFar}
use Rattle.stair_member.proofs.superblock_writes.write_superblocks.Given as goal

abbrev pub invariant-loop-slot : goal.invariant-loop-slot
invariant-loop-slot g l = record {
  far : SpreadSoFar l.initial.member l.member l.to l.twice l.slot g.R.Rack.is_honest (g.R.Rack.history l.initial.rack) (g.R.Rack.history l.rack);
  counts : NoneFalls (g.R.Rack.bads l.initial.rack) (g.R.Rack.bads l.rack) (g.R.Rack.gones l.initial.rack) (g.R.Rack.gones l.rack);
  reads : g.R.Rack.reads l.rack ≡ g.R.Rack.reads l.initial.rack;
}
