-- The walk has come to this row, and in it to this class.
use Rattle.std.proofs.Common.{◌≡◌, ℕ, ◌+◌}
use Rattle.stair_model.specs.Codeword.{Word}
use Rattle.stair_down.proofs.Counting.{steps_to}
use Rattle.stair_down.proofs.Walk.{IsTarget, HasReached}
use Rattle.stair_down.proofs.downstairs.encode_downstairs.Given as goal

abbrev pub invariant-loop-row : goal.invariant-loop-row
invariant-loop-row g l = record {
  geometry : l.canon.geometry ≡ l.fn.canon.geometry;
  reached : (x : ℕ → Word) → IsTarget l.fn.canon.geometry l.fn.stripe x → HasReached l.fn.canon.geometry x l.canon l.row 0;
  cost : l.steps ≡ l.fn.steps + steps_to l.fn.canon.geometry l.row 0;
}

abbrev pub invariant-loop-class : goal.invariant-loop-class
invariant-loop-class g l = record {
  geometry : l.canon.geometry ≡ l.fn.canon.geometry;
  reached : (x : ℕ → Word) → IsTarget l.fn.canon.geometry l.fn.stripe x → HasReached l.fn.canon.geometry x l.canon l.row l.class;
  cost : l.steps ≡ l.fn.steps + steps_to l.fn.canon.geometry l.row l.class;
}
