-- the wanted cells of the rows before this one were erased
use Rattle.stair_stripes.proofs.CellLemmas.{ErasesRows}
use Rattle.stair_stripes.proofs.gathering.erase_chunk.Given as goal

abbrev pub invariant-loop-row : goal.invariant-loop-row
invariant-loop-row l = ErasesRows l.wanted l.slot l.row l.initial.erased l.erased
