-- The kinds of cells as the code has them, and as the words of the code have them.
use Rattle.stair_model.specs.Cell.{Cell}
use Rattle.stair_base.specs.declared.kind.Kind.{Kind}
use Rattle.stair_base.specs.declared.kind.Kind.TheVariants.{Block, Global, Parity}

abbrev pub cell_of : Kind → Cell
cell_of (Block d) = Cell.Data d
cell_of (Global l h) = Cell.Global l h
cell_of (Parity k) = Cell.Parity k
