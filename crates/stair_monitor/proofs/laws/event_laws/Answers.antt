-- The laws are lemmas.
use Rattle.stair_monitor.proofs.EventLemmas.{event_known, event_once, spells-length, spells-text, text-spells}
use Rattle.stair_monitor.proofs.laws.event_laws.Goals as goal

pub returns-clause-one_event : goal.returns-clause-one_event
returns-clause-one_event c = event_once

pub returns-clause-decided : goal.returns-clause-decided
returns-clause-decided c = event_known

pub returns-clause-printing : goal.returns-clause-printing
returns-clause-printing c = text-spells

pub returns-clause-text : goal.returns-clause-text
returns-clause-text c = spells-text

pub returns-clause-longest : goal.returns-clause-longest
returns-clause-longest c = spells-length
