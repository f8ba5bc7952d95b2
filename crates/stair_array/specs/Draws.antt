-- How many draws a step may take.
use Rattle.std.specs.Prelude.{IsTrue, ◌≡◌, ◌+◌, ◌-◌, ◌^◌, ◌<◌, ◌≤◌, ℕ, List}
use Rattle.stair_model.specs.Sum.{sum_below}
use Rattle.stair_rack.specs.History.{Happening}
use Rattle.stair_rack.specs.Moments.{IsMoment}
use Rattle.stair_rack.specs.Stretch.{NoneWritten}
use Rattle.stair_rack.specs.RackState.{RackState}
use Rattle.stair_super.specs.Superblock.{Superblock}
use Rattle.stair_member.specs.Membership.{Membership, why_of}
use Rattle.stair_member.specs.declared.why.Why.{Why}
use Rattle.stair_member.specs.declared.why.Why.TheVariants as why
use Rattle.stair_member.specs.Superblocks.{HoldsSuper}
use Rattle.stair_array.specs.Looking.{cells_at}
use Rattle.stair_array.specs.Machine.{Recover, ReplaceSlot, SetFrozen, SetLabel, Step}

-- By the reasons, since an epoch that is refused leaves the marks. A slot that is rebuilt counts twice, as its promotion is to
-- draw once.
abbrev pub weight : Why → ℕ
weight why.Here = 1
weight why.Rebuilding = 2
weight _ = 0

abbrev pub weights : Membership → ℕ
weights m = sum_below m.array.geometry.n (λ j. weight (why_of m j))

-- by how much a step may raise the draws and the weights together
abbrev pub allowance : Step → ℕ
allowance Recover = 1
allowance (SetFrozen frozen) = 1
allowance (SetLabel label) = 1
allowance (ReplaceSlot j) = 3
allowance _ = 0

-- The greatest draw that the member had seen, or a greater one that the medium of a slot which is to be admitted bore before
-- anything of it was written.
pub data HadSeen (step : Step) (m : Membership) (old new : RackState) (draw : ℕ) : Type 0 where
  Before : draw ≡ m.drawn → HadSeen step m old new draw
  OnMedium : (j k : ℕ) (super : Superblock) → step ≡ ReplaceSlot j → k < 2
      → (IsTrue new.honest → (moment : List Happening) × IsMoment old.history moment new.history
      × NoneWritten (λ i. i ≡ j) old.history moment × HoldsSuper (cells_at moment j k) super)
      → super.array.geometry ≡ m.array.geometry → draw ≡ super.draw → m.drawn ≤ draw
      → HadSeen step m old new draw

pub record DrawsFew (step : Step) (m last : Membership) (old new : RackState) : Type 0 where
  pub draw : ℕ
  pub had_seen : HadSeen step m old new draw
  pub few : last.drawn + weights last ≤ draw + weights m + allowance step

-- a draw up to this one leaves room for all that a session draws
abbrev pub most_drawn : ℕ
most_drawn = 2 ^ 64 - 2 ^ 39

abbrev pub HasDraws : Membership → Type 0
HasDraws m = m.drawn ≤ most_drawn
