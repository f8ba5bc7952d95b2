-- A data cell is no parity, and its number is below u.
use Rattle.std.proofs.Common.{true, ap, sym, ◌∙◌}
use Rattle.std.proofs.lemmas.Bool.{true≢false}
use Rattle.stair_model.specs.Cell.{is_parity}
use Rattle.stair_model.proofs.DataLaws.{data_in_range}
use Rattle.stair_std.proofs.generator.number_of.Goals as goal

pub unreachable-requires : goal.unreachable-requires
unreachable-requires c = true≢false (sym c.in-Parity.ensures.part.0 ∙ ap is_parity c.requires.data.1)

pub returns-clause-below : goal.returns-clause-below
returns-clause-below c =
    (data_in_range _ _ _ _ c.part.ensures.well_formed.limits c.requires.row_in c.in-Block.ensures.part).0
