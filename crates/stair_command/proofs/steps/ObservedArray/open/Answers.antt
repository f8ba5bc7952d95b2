-- An opening as a step that was told; where it was refused nothing was.
use Rattle.std.proofs.Common.{refl}
use Rattle.stair_command.proofs.TakenLaws.{opening_array, opening_refused, opening_taken, refusal_taken}
use Rattle.stair_command.proofs.steps.ObservedArray.open.Goals as goal

pub returns-in_err-array-clause-refused : goal.returns-in_err-array-clause-refused
returns-in_err-array-clause-refused g c =
    opening_refused c.from_residual.result _ _ c.from_residual.ensures.1
    (λ refusal is. let told = c.in_err-array.ensures.does refusal is in
    refusal_taken _ _ _ _ _ c.args.member told.0 refusal c.geometry.ensures.rules told.1 refl)

pub invariant_of-result : goal.invariant_of-result
invariant_of-result g c = λ none.
    opening_array _ c.in_ok-array.array _ _ c.geometry.ensures.rules (c.in_ok-array.ensures.does) (c.in_ok-array.ensures.goes) c.in_ok-array.ensures.rebuilds
    c.in_ok-array.ensures.remembers

pub returns-clause-taken : goal.returns-clause-taken
returns-clause-taken g c =
    opening_taken _ _ _ _ _ c.args.member c.in_ok-array.array c.geometry.ensures.rules c.in_ok-array.ensures.does c.in_ok-array.ensures.goes
    c.in_ok-array.ensures.rebuilds c.in_ok-array.ensures.remembers c.in_ok-array.ensures.news c.news.result c.news.ensures c.tell_all.ensures.does
