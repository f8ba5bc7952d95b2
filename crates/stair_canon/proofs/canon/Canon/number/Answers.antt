-- The number of a symbol of the geometry is one that has a memory and a mark.
use Rattle.stair_canon.proofs.Grid.{number_in}
use Rattle.stair_canon.proofs.canon.Canon.number.Goals as goal

pub returns-clause-symbol : goal.returns-clause-symbol
returns-clause-symbol c =
    let formed = c.columns.ensures.well_formed in
    rw (c.columns.ensures.value, formed.count)
    (number_in c.args.self.now.geometry c.args.row c.args.column c.requires.row_in c.requires.column_in)

pub returns-clause-mark : goal.returns-clause-mark
returns-clause-mark c =
    let formed = c.columns.ensures.well_formed in
    rw (c.columns.ensures.value, formed.marks)
    (number_in c.args.self.now.geometry c.args.row c.args.column c.requires.row_in c.requires.column_in)
