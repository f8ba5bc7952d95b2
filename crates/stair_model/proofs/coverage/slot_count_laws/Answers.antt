use Rattle.stair_model.proofs.SetLaws.{slot_count_none, slot_count_most, slot_count_same, slot_count_more, slot_count_again, slot_count_member, slot_count-subset}
use Rattle.stair_model.proofs.coverage.slot_count_laws.Goals as goal

pub returns : goal.returns
returns c = record { none = slot_count_none; most = slot_count_most; same = slot_count_same; one_more = slot_count_more; again = slot_count_again; member = slot_count_member; subset = slot_count-subset }
