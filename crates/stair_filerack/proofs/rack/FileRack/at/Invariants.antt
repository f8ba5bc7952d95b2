use Rattle.std.proofs.Common.{◌≡◌, ◌<◌, ℕ, [], vec_len, slice_index_or}
use Rattle.stair_filerack.specs.Slot.{untouched, path_of}
use Rattle.stair_filerack.proofs.rack.FileRack.at.Given as goal

abbrev pub invariant-loop-slot : goal.invariant-loop-slot
invariant-loop-slot g l = record {
  made : vec_len l.slots ≡ l.slot;
  each : (j : ℕ) → j < l.slot → slice_index_or l.slots.items j (untouched []) ≡ untouched (path_of l.folder j);
}
