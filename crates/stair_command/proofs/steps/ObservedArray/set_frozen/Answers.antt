-- A frozen mark as a step that was told.
use Rattle.std.proofs.Common.{ap, ◌∙◌}
use Rattle.stair_array.specs.Arrays.{state_of}
use Rattle.stair_command.proofs.TakenLaws.{cleared_array, frozen_promises, left_by, outcome_answered, stays_array, step_taken}
use Rattle.stair_command.proofs.steps.ObservedArray.set_frozen.Goals as goal

pub invariant_of-self : goal.invariant_of-self
invariant_of-self g c =
    let before = c.self.inside.array in
    let was = c.clear_news.new.self in
    let is = c.set_frozen-stamped.new.self in
    let did = c.set_frozen-stamped.ensures in
    stays_array _ _ was is _ _ c.args.rack.now c.set_frozen-stamped.new.rack
    (frozen_promises was is (cleared_array was before c.clear_news.ensures c.self.invariant) _ _ c.args.frozen _ did.does did.kept
    (left_by _ _ before was is c.clear_news.ensures (λ none. did.rebuild) did.remembers did.news))
    did.kept (λ fault some. let same = did.stopped fault some in (outcome_answered c.set_frozen-stamped.result fault same.0, same.1, same.2))

pub returns-clause-taken : goal.returns-clause-taken
returns-clause-taken g c =
    let before = c.self.inside.array in
    let was = c.clear_news.new.self in
    let is = c.set_frozen-stamped.new.self in
    let did = c.set_frozen-stamped.ensures in
    let left = left_by _ _ before was is c.clear_news.ensures (λ none. did.rebuild) did.remembers did.news in
    step_taken _ _ _ _ _ _ _ was is c.args.self.now (ap state_of c.clear_news.ensures ∙ c.self.view_is) (λ never. absurd (cc)) left
    (frozen_promises was is (cleared_array was before c.clear_news.ensures c.self.invariant) _ _ c.args.frozen _ did.does did.kept left)
    (λ fault some. let same = did.stopped fault some in (outcome_answered c.set_frozen-stamped.result fault same.0, same.1, same.2))
    c.news.result c.news.ensures c.tell_all.ensures.does
