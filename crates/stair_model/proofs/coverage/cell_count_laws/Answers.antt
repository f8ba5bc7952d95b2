use Rattle.stair_model.proofs.SetLaws.{cell_count_none, cell_count_most, cell_count_same, cell_count_more, cell_count_again, cell_count_member}
use Rattle.stair_model.proofs.coverage.cell_count_laws.Goals as goal

pub returns : goal.returns
returns c = record { none = cell_count_none; most = cell_count_most; same = cell_count_same; one_more = cell_count_more; again = cell_count_again; member = cell_count_member }
