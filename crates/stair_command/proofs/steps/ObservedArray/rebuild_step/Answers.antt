-- A step of a rebuild as a step that was told.
use Rattle.std.proofs.Common.{ap, ◌∙◌}
use Rattle.stair_array.specs.Arrays.{state_of}
use Rattle.stair_command.proofs.SoonerLaws.{sooner_promised}
use Rattle.stair_command.proofs.TakenLaws.{cleared_array, left_by, rebuild_answered, rebuild_promises, stays_array, step_taken}
use Rattle.stair_command.proofs.steps.ObservedArray.rebuild_step.Goals as goal

pub invariant_of-self : goal.invariant_of-self
invariant_of-self g c =
    let before = c.self.inside.array in
    let was = c.clear_news.new.self in
    let is = c.rebuild_step-came.new.array in
    let did = c.rebuild_step-came.ensures in
    stays_array _ _ was is _ _ c.args.rack.now c.rebuild_step-came.new.rack
    (rebuild_promises was is (cleared_array was before c.clear_news.ensures c.self.invariant) _ _ _ did.does did.kept
    (left_by _ _ before was is c.clear_news.ensures did.rebuild did.remembers did.news))
    did.kept (λ fault some. let same = did.stopped fault some in (rebuild_answered c.rebuild_step-came.result fault same.0, same.1, same.2))

pub returns-clause-taken : goal.returns-clause-taken
returns-clause-taken g c =
    let before = c.self.inside.array in
    let was = c.clear_news.new.self in
    let is = c.rebuild_step-came.new.array in
    let did = c.rebuild_step-came.ensures in
    let left = left_by _ _ before was is c.clear_news.ensures did.rebuild did.remembers did.news in
    step_taken _ _ _ _ _ _ _ was is c.args.self.now (ap state_of c.clear_news.ensures ∙ c.self.view_is) (λ never. absurd (cc)) left
    (rebuild_promises was is (cleared_array was before c.clear_news.ensures c.self.invariant) _ _ _ did.does did.kept left)
    (λ fault some. let same = did.stopped fault some in (rebuild_answered c.rebuild_step-came.result fault same.0, same.1, same.2))
    c.news.result c.news.ensures c.tell_all.ensures.does

pub returns-clause-sooner : goal.returns-clause-sooner
returns-clause-sooner g c =
    let before = c.self.inside.array in
    let was = c.clear_news.new.self in
    let is = c.rebuild_step-came.new.array in
    let did = c.rebuild_step-came.ensures in
    let array = cleared_array was before c.clear_news.ensures c.self.invariant in
    sooner_promised c.rebuild_step-came.result was is c.args.self.now _ _ (ap state_of c.clear_news.ensures ∙ c.self.view_is)
    (rebuild_promises was is array _ _ _ did.does did.kept (left_by _ _ before was is c.clear_news.ensures did.rebuild did.remembers did.news)) array
    (λ fault some. rebuild_answered c.rebuild_step-came.result fault (did.stopped fault some).0)
