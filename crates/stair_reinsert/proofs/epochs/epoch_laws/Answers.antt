-- The laws are lemmas.
use Rattle.stair_reinsert.proofs.EpochLaws.{covers, established, goes_on, keeps, knows, own, stands}
use Rattle.stair_reinsert.proofs.epochs.epoch_laws.Goals as goal

pub returns-clause-keeps : goal.returns-clause-keeps
returns-clause-keeps c = keeps

pub returns-clause-stands : goal.returns-clause-stands
returns-clause-stands c = stands

pub returns-clause-covers : goal.returns-clause-covers
returns-clause-covers c = covers

pub returns-clause-knows : goal.returns-clause-knows
returns-clause-knows c = knows

pub returns-clause-goes_on : goal.returns-clause-goes_on
returns-clause-goes_on c = goes_on

pub returns-clause-own : goal.returns-clause-own
returns-clause-own c = own

pub returns-clause-established : goal.returns-clause-established
returns-clause-established c = established
