-- Both places were read, the second after the first.
use Rattle.std.proofs.Common.{refl}
use Rattle.std.proofs.lemmas.Bool.{false≢true}
use Rattle.stair_array.proofs.LookLemmas.{judged_bare, judged_super, probe_ran}
use Rattle.stair_array.proofs.look.find_super.Goals as goal

pub returns-then-is_gone-clause-does : goal.returns-then-is_gone-clause-does
returns-then-is_gone-clause-does g c = (c.probe_slot-probe.result, c.probe_slot-probe.ensures.does, c.if-is_gone.ensures.0 refl)

pub returns-then-is_gone-clause-ran : goal.returns-then-is_gone-clause-ran
returns-then-is_gone-clause-ran g c = probe_ran c.probe_slot-probe.ensures.does

pub returns-then-is_bare-clause-does : goal.returns-then-is_bare-clause-does
returns-then-is_bare-clause-does g c = judged_bare c.probe_slot-probe.ensures.does (c.if-is_bare.ensures.0 refl)

pub returns-then-is_bare-clause-ran : goal.returns-then-is_bare-clause-ran
returns-then-is_bare-clause-ran g c = probe_ran c.probe_slot-probe.ensures.does

pub returns-else-is_bare-clause-does : goal.returns-else-is_bare-clause-does
returns-else-is_bare-clause-does g c =
    judged_super c.probe_slot-probe.ensures.does (λ lost. false≢true (c.if-is_gone.ensures.1 lost))
    (λ none. false≢true (c.if-is_bare.ensures.1 none))

pub returns-else-is_bare-clause-ran : goal.returns-else-is_bare-clause-ran
returns-else-is_bare-clause-ran g c = probe_ran c.probe_slot-probe.ensures.does
