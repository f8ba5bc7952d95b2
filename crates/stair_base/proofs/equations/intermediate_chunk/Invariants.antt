-- The symbols of the rows so far.
use Rattle.std.proofs.Common.{◌≡◌, ℕ, ◌+◌, ◌<◌, length}
use Rattle.stair_model.specs.Codeword.{row_sum}
use Rattle.stair_model.specs.Stripe.{byte_of}
use Rattle.stair_model.specs.Stripe.{symbol_byte}
use Rattle.stair_base.proofs.equations.intermediate_chunk.Given as goal

abbrev pub invariant-loop-row : goal.invariant-loop-row
invariant-loop-row l = record {
  long : length l.symbols ≡ 32;
  so_far :
      (i p : ℕ) → i < l.row → p < 512 →
      symbol_byte l.symbols p i ≡ row_sum l.geometry (byte_of l.stripe p) i (l.geometry.m + l.l);
}
