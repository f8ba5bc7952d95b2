-- A write as a step that was told.
use Rattle.std.proofs.Common.{ap, ◌∙◌}
use Rattle.stair_array.specs.Arrays.{blocks_of, state_of}
use Rattle.stair_command.proofs.TakenLaws.{cleared_array, fault_answered, left_by, stays_array, step_taken, write_promises}
use Rattle.stair_command.proofs.steps.ObservedArray.write_blocks.Goals as goal

pub invariant_of-self : goal.invariant_of-self
invariant_of-self g c =
    let before = c.self.inside.array in
    let was = c.clear_news.new.self in
    let is = c.write_blocks-written.new.self in
    let did = c.write_blocks-written.ensures in
    stays_array _ _ was is _ _ c.args.rack.now c.write_blocks-written.new.rack
    (write_promises was is (cleared_array was before c.clear_news.ensures c.self.invariant) _ _ c.args.first (blocks_of c.args.from.now) _ did.does did.kept
    (left_by _ _ before was is c.clear_news.ensures (λ none. did.rebuild) did.remembers did.news))
    did.kept (λ fault some. let same = did.stopped fault some in (fault_answered _ c.write_blocks-written.result fault same.0, same.1, same.2))

pub returns-clause-taken : goal.returns-clause-taken
returns-clause-taken g c =
    let before = c.self.inside.array in
    let was = c.clear_news.new.self in
    let is = c.write_blocks-written.new.self in
    let did = c.write_blocks-written.ensures in
    let left = left_by _ _ before was is c.clear_news.ensures (λ none. did.rebuild) did.remembers did.news in
    step_taken _ _ _ _ _ _ _ was is c.args.self.now (ap state_of c.clear_news.ensures ∙ c.self.view_is) (λ never. absurd (cc)) left
    (write_promises was is (cleared_array was before c.clear_news.ensures c.self.invariant) _ _ c.args.first (blocks_of c.args.from.now) _ did.does did.kept left)
    (λ fault some. let same = did.stopped fault some in (fault_answered _ c.write_blocks-written.result fault same.0, same.1, same.2))
    c.news.result c.news.ensures c.tell_all.ensures.does
