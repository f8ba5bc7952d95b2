-- The body of a new journal, and one chunk of a rebuild.
use Rattle.std.specs.Prelude.{◌≡◌, ◌<◌, ℕ, Option, Result, Ok, Err}
use Rattle.stair_model.specs.Device.{gate_sector}
use Rattle.stair_model.specs.Stripe.{Stripe}
use Rattle.stair_rack.specs.declared.rack.Reply.{Reply}
use Rattle.stair_rack.specs.declared.rack.Reply.TheVariants as reply
use Rattle.stair_member.specs.declared.fault.FenceFault.{FenceFault}
use Rattle.stair_invariant.specs.Effects.{Snapshot}
use Rattle.stair_invariant.specs.Session.{IsRebuiltIn}
use Rattle.stair_array.specs.Calls.{LoadsStripe, answer_of}
use Rattle.stair_array.specs.Machine.{Refusal}
use Rattle.stair_array.specs.Mends.{FencesSlot, WritesChunk}

-- the sectors of this slot that come after the gate
abbrev pub IsBodyOf : ℕ → ℕ → ℕ → Type 0
IsBodyOf slot j k = (j ≡ slot) × (gate_sector < k)

-- Stripe t was loaded and slot j's chunk of it written, Done; or the slot was gone in this, and is left out.
pub data WritesNext (j t : ℕ) : Result Reply Refusal → Snapshot → Snapshot → Type 0 where
  Unread : (into : Stripe) (refusal : Refusal) (x y : Snapshot) → LoadsStripe t into (Err refusal) x y
      → WritesNext j t (Err refusal) x y
  FellLoading : (into : Stripe) (x y : Snapshot) → LoadsStripe t into (Ok tt) x y
      → ¬ IsRebuiltIn y.member j → WritesNext j t (Ok reply.Gone) x y
  Fell : (into : Stripe) (refusal : Option FenceFault) (x y z w : Snapshot)
      → LoadsStripe t into (Ok tt) x y → IsRebuiltIn y.member j
      → WritesChunk j t into reply.Gone y z → FencesSlot j refusal z w
      → WritesNext j t (answer_of reply.Gone refusal) x w
  Wrote : (into : Stripe) (x y z : Snapshot) → LoadsStripe t into (Ok tt) x y
      → IsRebuiltIn y.member j → WritesChunk j t into reply.Done y z
      → WritesNext j t (Ok reply.Done) x z
