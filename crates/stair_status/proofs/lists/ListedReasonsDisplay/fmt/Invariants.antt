-- The reasons of the slots so far were written.
use Rattle.std.proofs.Common.{◌≡◌}
use Rattle.std.specs.Fmt.{HasWritten, IsPlainFormatter}
use Rattle.stair_status.specs.Status.{reasons_text}
use Rattle.stair_status.proofs.Texts.{is_empty}
use Rattle.stair_status.proofs.lists.ListedReasonsDisplay.fmt.Given as goal

abbrev pub invariant-loop-slot : goal.invariant-loop-slot
invariant-loop-slot g l = record {
  none : l.is_first ≡ is_empty (reasons_text l.self.whys l.slot-counter);
  text : IsPlainFormatter l.initial.f → HasWritten g.W.Write.write_str_gives l.initial.f (reasons_text l.self.whys l.slot-counter) l.f;
}
