-- No count is greater than the number of events, which are few.
use Rattle.std.proofs.Common.{arith, subst, ◌<◌}
use Rattle.stair_script.specs.Events.{IsEvent}
use Rattle.stair_monitor.proofs.SeenLemmas.{few_counts, few_fences}
use Rattle.stair_monitor.proofs.reporting.Seen.add.Goals as goal

pub overflow_add-self : goal.overflow_add-self
overflow_add-self c = let few = few_counts c.args.self.now c.requires.few in omega (arith, few.0, few.1, few.2, few.3)

pub overflow_add-self-in-Fenced : goal.overflow_add-self-in-Fenced
overflow_add-self-in-Fenced c =
    let slot = subst IsEvent c.in-Fenced.is c.requires.slot in
    let same = c.from.ensures in
    let within : c.from.result < 32 = omega (arith, slot, same) in
    let few = few_fences c.args.self.now c.from.result within c.requires.few in
    omega arith

pub overflow_add-self-in-Repaired : goal.overflow_add-self-in-Repaired
overflow_add-self-in-Repaired c = let few = few_counts c.args.self.now c.requires.few in omega (arith, few.0, few.1, few.2, few.3)

pub overflow_add-self-in-Admitted : goal.overflow_add-self-in-Admitted
overflow_add-self-in-Admitted c = let few = few_counts c.args.self.now c.requires.few in omega (arith, few.0, few.1, few.2, few.3)

pub overflow_add-self-in-Promoted : goal.overflow_add-self-in-Promoted
overflow_add-self-in-Promoted c = let few = few_counts c.args.self.now c.requires.few in omega (arith, few.0, few.1, few.2, few.3)
