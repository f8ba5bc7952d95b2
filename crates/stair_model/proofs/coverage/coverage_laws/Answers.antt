use Rattle.stair_model.specs.Coverage.{rest}
use Rattle.stair_model.proofs.CoverageLaws.{covered_none, covered_chunks_lost, covered_order, covered_from_order}
use Rattle.stair_model.proofs.RestLaws.{covered_by_chunks, rows_covered, subset_covered, each_list_tells}
use Rattle.stair_model.proofs.OrderLaws.{HasEachOnce-permutation}
use Rattle.stair_model.proofs.coverage.coverage_laws.Goals as goal

pub returns : goal.returns
returns c = record {
  none = λ g erased none. covered_by_chunks g erased (covered_none g erased none);
  whole_chunks = λ g erased lost limits few within. covered_by_chunks g erased (covered_chunks_lost g erased lost limits few within);
  further_chunks = covered_by_chunks;
  rows = rows_covered;
  subset = subset_covered;
  each = each_list_tells;
  order = λ g erased. (covered_order g (rest g erased), λ found. covered_from_order g (rest g erased) found.0 found.1);
  places = HasEachOnce-permutation;
}
