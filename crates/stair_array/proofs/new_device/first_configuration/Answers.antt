-- One slot more.
use Rattle.std.proofs.Common.{◌≡◌, ℕ, ◌<◌, ◌≤◌, List, set, ap, ◌∙◌, arith}
use Rattle.stair_super.specs.declared.mark.Mark.{Mark}
use Rattle.stair_super.specs.declared.mark.Mark.TheVariants.{Live, Down}
use Rattle.stair_array.proofs.EnrolLemmas.{fill_more, first_from}
use Rattle.stair_array.proofs.new_device.first_configuration.Goals as goal

pub loop-slot-preserved : goal.loop-slot-preserved
loop-slot-preserved c =
    let below : c.loop-slot.slot < c.args.geometry.now.n = omega (arith, c.from-slot-end.ensures, c.n.ensures.value) in
    let most : c.args.geometry.now.n ≤ 32 = omega (arith, c.n.ensures.limits.devices) in
    record {
      marked =
          ap (λ (marks : List Mark). set marks c.loop-slot.slot Live) c.loop-slot.invariant.marked
          ∙ fill_more c.loop-slot.slot c.args.geometry.now.n Live Down below most;
      joined =
          ap (λ (joins : List ℕ). set joins c.loop-slot.slot 1) c.loop-slot.invariant.joined
          ∙ fill_more c.loop-slot.slot c.args.geometry.now.n 1 0 below most;
    }

pub returns-clause-value : goal.returns-clause-value
returns-clause-value c =
    let all : c.loop-slot.slot ≡ c.args.geometry.now.n = omega (arith, c.from-slot-end.ensures, c.n.ensures.value) in
    first_from c.args.geometry.now c.loop-slot.marks c.loop-slot.joins c.empty.result (rw all at c.loop-slot.invariant.marked)
    (rw all at c.loop-slot.invariant.joined) c.empty.ensures
