-- Each cell has a sector of its own.
use Rattle.stair_c.proofs.SectorLemmas.{has_cell, in_chunks, number_below, one_cell}
use Rattle.stair_c.proofs.laws.sector_laws.Goals as goal

pub returns : goal.returns
returns c = record {
  within = number_below;
  apart = one_cell;
  has_cell = has_cell;
  in_chunks = in_chunks;
}
