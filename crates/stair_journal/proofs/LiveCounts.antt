-- How many of the slots below one are live.
use Rattle.std.proofs.Common.{◌≡◌, ℕ, ◌+◌, ◌≤◌, false, refl, arith}
use Rattle.std.specs.Prelude.{if◌then◌else◌}
use Rattle.stair_model.specs.Slots.{Slots, HasSlot, has_slot, slot_count}
use Rattle.stair_model.specs.Sum.{sum_below}
use Rattle.stair_model.proofs.CountLaws.{sum_below_longer, sum_below_next, sum_below_none}

abbrev pub live_below : Slots → ℕ → ℕ
live_below live i = sum_below i (λ j. if has_slot live j then 1 else 0)

pub live_none : (live : Slots) → live_below live 0 ≡ 0
live_none live = sum_below_none (λ j. if has_slot live j then 1 else 0)

pub live_next : (live : Slots) (i : ℕ) → live_below live i + (if has_slot live i then 1 else 0) ≡ live_below live (i + 1)
live_next live i = sum_below_next i (live_below live i) (if has_slot live i then 1 else 0) (λ j. if has_slot live j then 1 else 0) refl refl

pub live_more : (live : Slots) (i : ℕ) → HasSlot live i → live_below live i + 1 ≡ live_below live (i + 1)
live_more live i on = rw on at (live_next live i)

pub live_skipped : (live : Slots) (i : ℕ) → has_slot live i ≡ false → live_below live (i + 1) ≡ live_below live i
live_skipped live i off = let next = rw off at (live_next live i) in omega (arith, next)

pub live_within : (live : Slots) (i : ℕ) → i ≤ 32 → live_below live i ≤ slot_count live
live_within live i le = sum_below_longer (λ j. if has_slot live j then 1 else 0) i 32 le
