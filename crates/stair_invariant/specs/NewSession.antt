-- A session over a new array, all of whose slots are live: on whatever rack, and on one that was just made.
use Rattle.std.specs.Prelude.{◌≡◌, ◌-◌, ◌<◌, ◌==◌, ◌++◌, ℕ, zero, suc, false, List, [], ◌∷◌, None, Some, nat_lt, replicate, if◌then◌else◌}
use Rattle.stair_model.specs.Device.{cell_sector, gate_sector}
use Rattle.stair_model.specs.Geometry.{Geometry, sectors_needed}
use Rattle.stair_model.specs.Stripe.{zero_stripe}
use Rattle.stair_rack.specs.History.{Happening, Attach, Called, Made, empty_slot, slot_state}
use Rattle.stair_rack.specs.Media.{Image, SlotImage}
use Rattle.stair_rack.specs.Offline.{IsHeld}
use Rattle.stair_rack.specs.Sector.{Good, settled}
use Rattle.stair_rack.specs.declared.rack.Reply.TheVariants as reply
use Rattle.stair_super.specs.Spelling.{spelled}
use Rattle.stair_super.specs.Superblock.{Superblock, mark_in, superblock_of}
use Rattle.stair_super.specs.declared.configuration.Configuration.{Configuration}
use Rattle.stair_super.specs.declared.mark.Mark.TheVariants.{Down, Live}
use Rattle.stair_member.specs.Membership.{IsMembership, Membership, why_of}
use Rattle.stair_member.specs.declared.why.Why.TheVariants.{Here}
use Rattle.stair_journal.specs.Gate.{closed_gate}
use Rattle.stair_state.specs.Blocks.{Codewords, zero_block}
use Rattle.stair_state.specs.Represents.{IsLargeEnough}
use Rattle.stair_invariant.specs.Session.{ArrayState, HasOwn}

-- an array that rebuilds no slot and wasn't stopped
abbrev pub array_of : Membership → ArrayState
array_of m = record { member = m; rebuild = None; stopped = None; remembered = None }

-- the stripes of a new array
abbrev pub new_words : Geometry → Codewords
new_words g t = zero_stripe g

-- ON WHATEVER RACK

-- each slot of the member's array is live
pub record IsWhole (m : Membership) : Type 0 where
  pub member : IsMembership m
  pub live : (j : ℕ) → j < m.array.geometry.n → why_of m j ≡ Here
  pub marks : (j : ℕ) → j < m.array.geometry.n → mark_in m.array j ≡ Live

-- Slot j is held, and large enough. It has the member's superblock, and its gate and chunks are on the disk as a new array has
-- them.
pub record IsNewIn (m : Membership) (before h : List Happening) (j : ℕ) : Type 0 where
  pub held : IsHeld before h j
  pub large : IsLargeEnough m.array.geometry (slot_state h j).size
  pub own : HasOwn m h j
  pub gate : (slot_state h j).sector gate_sector ≡ settled (Good closed_gate)
  pub chunks : (t i : ℕ) → t < m.array.geometry.stripes → i < m.array.geometry.r
      → (slot_state h j).sector (cell_sector m.array.geometry t i) ≡ settled (Good zero_block)

-- ON ONE THAT WAS JUST MADE

-- what an epoch of a new array names, of which no slot was dropped: all slots of the array are live since epoch 1, and it is
-- neither frozen nor labelled
abbrev pub new_array : Geometry → ℕ → Configuration
new_array g epoch = record {
  geometry = g;
  epoch = epoch;
  marks = replicate g.n Live ++ replicate (32 - g.n) Down;
  joins = replicate g.n 1 ++ replicate (32 - g.n) 0;
  frozen = false;
  label = [];
}

-- the superblock of slot j that names it, whose draw is its number
abbrev pub new_super : Geometry → ℕ → ℕ → Superblock
new_super g epoch j = superblock_of (new_array g epoch) j 1 epoch

-- a member of it, whose next superblocks go to the first places
abbrev pub new_member : Geometry → ℕ → Membership
new_member g epoch = record {
  array = new_array g epoch;
  drawn = epoch;
  whys = replicate 32 Here;
  places = replicate 32 0;
}

-- what sector k of slot j holds: the superblock of epoch 1 in the first place, that of this epoch in the second one, a closed
-- gate, and zeros after it
abbrev pub new_sector : Geometry → ℕ → ℕ → ℕ → List ℕ
new_sector g epoch j k =
    if nat_lt k gate_sector then spelled (new_super g (if k == 0 then 1 else epoch) j)
    else (if k == gate_sector then closed_gate else zero_block)

-- a device of as many sectors as are needed, and a rack of such devices
abbrev pub new_device : Geometry → ℕ → ℕ → SlotImage
new_device g epoch j =
    record { size = Some (sectors_needed g); cell = λ k. Good (new_sector g epoch j k); removed = [] }

abbrev pub new_image : Geometry → ℕ → Image
new_image g epoch j = if nat_lt j g.n then new_device g epoch j else empty_slot

abbrev pub new_rack : Geometry → ℕ → List Happening
new_rack g epoch = Made (new_image g epoch) ∷ []

-- the first slots are attached, one after the other
abbrev pub attaches : ℕ → List Happening
attaches zero = []
attaches (suc j) = Called j (Attach reply.Done) ∷ attaches j

-- that rack, once the slots of the array are attached
abbrev pub opened_rack : Geometry → ℕ → List Happening
opened_rack g epoch = attaches g.n ++ new_rack g epoch
