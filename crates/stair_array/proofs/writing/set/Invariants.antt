-- the blocks before this one are set
use Rattle.std.proofs.Common.{◌≡◌, ℕ, length, take}
use Rattle.stair_model.specs.CellSet.{CellSet}
use Rattle.stair_model.specs.Stripe.{IsStripeOf}
use Rattle.stair_array.specs.Calls.{AreOfBlocks}
use Rattle.stair_array.proofs.SettingLemmas.{HasSet}
use Rattle.stair_array.proofs.writing.set.Given as goal

abbrev pub invariant-loop-at : goal.invariant-loop-at
invariant-loop-at g l = record {
  fits : g.C.StripeCode.shape l.code ≡ l.geometry;
  of : IsStripeOf l.geometry l.stripe;
  set : (t : ℕ) (cells : CellSet) → AreOfBlocks l.geometry l.first (length l.from) cells
      → HasSet l.geometry t l.first cells l.initial.stripe (take l.at l.from) l.stripe;
}
