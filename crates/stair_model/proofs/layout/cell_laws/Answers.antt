use Rattle.stair_model.proofs.CellLaws.{parity_law, global_law, data_in_all}
use Rattle.stair_model.proofs.DataLaws.{data_in_range, data_reached, data_once, data_order}
use Rattle.stair_model.proofs.layout.cell_laws.Goals as goal

pub returns-clause-parity : goal.returns-clause-parity
returns-clause-parity c = parity_law

pub returns-clause-global : goal.returns-clause-global
returns-clause-global c = global_law

pub returns-clause-data_in_range : goal.returns-clause-data_in_range
returns-clause-data_in_range c g i j d limits row chunk = data_in_range g i j d limits row

pub returns-clause-data_reached : goal.returns-clause-data_reached
returns-clause-data_reached c = data_reached

pub returns-clause-data_once : goal.returns-clause-data_once
returns-clause-data_once c g i j i' j' d limits row chunk row' chunk' = data_once g i j i' j' d

pub returns-clause-data_order : goal.returns-clause-data_order
returns-clause-data_order c g i j i' j' d d' limits row chunk row' chunk' = data_order g i j i' j' d d'

pub returns-clause-data_count : goal.returns-clause-data_count
returns-clause-data_count c = data_in_all
