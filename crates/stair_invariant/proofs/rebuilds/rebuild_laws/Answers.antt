-- The laws are lemmas.
use Rattle.stair_model.specs.Slots.{HasSlot}
use Rattle.stair_invariant.proofs.ReadyLemmas.{promotable}
use Rattle.stair_invariant.proofs.RebuildingLemmas.{rebuilt_beside, rebuilt_more, rebuilt_none, rebuilt_placed, rebuilt_serves, rebuilt_whole}
use Rattle.stair_invariant.proofs.rebuilds.rebuild_laws.Goals as goal

pub returns : goal.returns
returns c = record {
  none = rebuilt_none;
  beside = rebuilt_beside;
  placed = λ a j next to gone start old new redoing below phase on fine is.
      rebuilt_placed a redoing j next below start old new (HasSlot to) (HasSlot gone) phase on fine is;
  more = λ g words redo stripe j next gone start old new of_chunk at small right writing fine since history is.
      rebuilt_more g words redo stripe j next start old new (HasSlot gone) of_chunk at small right writing fine since history is;
  whole = rebuilt_whole;
  serves = rebuilt_serves;
  promotable = promotable;
}
