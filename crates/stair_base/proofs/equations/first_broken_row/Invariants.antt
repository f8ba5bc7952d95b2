-- The row equations so far hold.
use Rattle.std.proofs.Common.{ℕ, ◌<◌}
use Rattle.stair_model.specs.Codeword.{IsRowEquation}
use Rattle.stair_model.specs.Stripe.{byte_of}
use Rattle.stair_base.proofs.equations.first_broken_row.Given as goal

abbrev pub invariant-loop-row : goal.invariant-loop-row
invariant-loop-row l =
    (p : ℕ) → p < 512 → (i k : ℕ) → i < l.row → k < l.geometry.m → IsRowEquation l.geometry (byte_of l.stripe p) i k

abbrev pub invariant-loop-parity : goal.invariant-loop-parity
invariant-loop-parity l = record {
  rows : (p : ℕ) → p < 512 → (i k : ℕ) → i < l.row → k < l.geometry.m → IsRowEquation l.geometry (byte_of l.stripe p) i k;
  parities : (p k : ℕ) → p < 512 → k < l.parity → IsRowEquation l.geometry (byte_of l.stripe p) l.row k;
}
