-- The laws are lemmas.
use Rattle.stair_memrack.proofs.LawLemmas.{none_placed, next_placed, stops_placed, whole_placed, on_disk, alone, both_written}
use Rattle.stair_memrack.proofs.laws.phase_laws.Goals as goal

pub returns-clause-none : goal.returns-clause-none
returns-clause-none c = none_placed

pub returns-clause-next : goal.returns-clause-next
returns-clause-next c = next_placed

pub returns-clause-stops : goal.returns-clause-stops
returns-clause-stops c = stops_placed

pub returns-clause-whole : goal.returns-clause-whole
returns-clause-whole c = whole_placed

pub returns-clause-on_disk : goal.returns-clause-on_disk
returns-clause-on_disk c = on_disk

pub returns-clause-alone : goal.returns-clause-alone
returns-clause-alone c = alone

pub returns-clause-both : goal.returns-clause-both
returns-clause-both c = both_written
