-- By the count.
use Rattle.std.proofs.Common.{◌<◌, arith}
use Rattle.std.proofs.lemmas.Bool.{lt-ltb, ltb-true}
use Rattle.stair_model.specs.Slots.{slot_count}
use Rattle.stair_member.proofs.JudgeLemmas.{stands_if, stands_only}
use Rattle.stair_member.proofs.judge.stands.Goals as goal

pub returns : goal.returns
returns c image shows =
    let g = c.args.geometry.now in
    let members = c.slots_of.ensures.members image shows in (
      λ is.
          let many = ltb-true c.m.result c.count.result is in
          let more : g.m < slot_count c.slots_of.result = omega (arith, c.count.ensures.value, c.m.ensures.value, many) in
          stands_if g image c.slots_of.result c.slots_of.ensures.formed members more,
      λ stands.
          let more = stands_only g image c.slots_of.result members stands in
          lt-ltb c.m.result c.count.result (omega (arith, c.count.ensures.value, c.m.ensures.value, more)),
    )
