-- No count changes.
use Rattle.stair_memrack.proofs.wild.WildRackRack.sectors.Goals as goal

pub invariant_of-self : goal.invariant_of-self
invariant_of-self c = record {
  next_within = c.self.invariant.next_within;
  count = c.self.invariant.count;
  bads_fit = c.self.invariant.bads_fit;
  gones_fit = c.self.invariant.gones_fit;
}
