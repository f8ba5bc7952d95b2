-- Event after event is told, until there is none.
use Rattle.std.proofs.Common.{◌∙◌, arith, sym}
use Rattle.stair_command.proofs.TellingLaws.{events_few, none_past, told_all, told_none, told_one_more}
use Rattle.stair_command.proofs.steps.tell_all.Goals as goal

pub loop-at-init : goal.loop-at-init
loop-at-init g c = told_none _ _ _ c.requires.stay

pub tell-requires : goal.tell-requires
tell-requires g c = c.loop-at.invariant.stay

pub returns-in-None-clause-does : goal.returns-in-None-clause-does
returns-in-None-clause-does g c = told_all _ _ _ _ _ c.loop-at.invariant (none_past _ _ (sym c.event.ensures ∙ c.in-None.is))

pub returns-in-None-clause-stay : goal.returns-in-None-clause-stay
returns-in-None-clause-stay g c = c.loop-at.invariant.stay

pub loop-at-preserved : goal.loop-at-preserved
loop-at-preserved g c =
    told_one_more _ _ _ c.in-Some.event _ _ _ c.loop-at.invariant (sym c.event.ensures ∙ c.in-Some.is) c.tell.ensures.does

pub returns-clause-does : goal.returns-clause-does
returns-clause-does g c =
    told_all _ _ _ _ _ c.loop-at.invariant (omega (arith, events_few c.args.news, c.loop-at-test.false))

pub returns-clause-stay : goal.returns-clause-stay
returns-clause-stay g c = c.loop-at.invariant.stay
