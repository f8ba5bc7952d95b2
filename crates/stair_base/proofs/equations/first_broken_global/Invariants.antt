-- The global equations so far hold.
use Rattle.std.proofs.Common.{ℕ, ◌<◌}
use Rattle.stair_model.specs.Codeword.{IsGlobalEquation}
use Rattle.stair_model.specs.Geometry.{coverage}
use Rattle.stair_model.specs.Stripe.{byte_of}
use Rattle.stair_base.proofs.equations.first_broken_global.Given as goal

abbrev pub invariant-loop-l : goal.invariant-loop-l
invariant-loop-l l =
    (p : ℕ) → p < 512 → (c h : ℕ) → c < l.l → h < coverage l.geometry c → IsGlobalEquation l.geometry (byte_of l.stripe p) c h

abbrev pub invariant-loop-h : goal.invariant-loop-h
invariant-loop-h l = record {
  classes :
      (p : ℕ) → p < 512 → (c h : ℕ) → c < l.l → h < coverage l.geometry c → IsGlobalEquation l.geometry (byte_of l.stripe p) c h;
  numbers : (p h : ℕ) → p < 512 → h < l.h → IsGlobalEquation l.geometry (byte_of l.stripe p) l.l h;
}
