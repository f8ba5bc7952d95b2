-- What three wrong bodies of an array leave behind of five devices, some of which were pulled and lie outside; and what right
-- bodies leave in the same histories. A rack of the first kind is of no state.
use Rattle.std.specs.Prelude.{true, false, replicate, ◌-◌, ◌≡◌, ◌≢◌, ◌==◌, ℕ, List, [], ◌∷◌, None, Some, if◌then◌else◌, nat_lt}
use Rattle.stair_model.specs.Device.{body_start, chunks_start, gate_sector}
use Rattle.stair_model.specs.Geometry.{Geometry, sectors_needed}
use Rattle.stair_model.specs.Slots.{no_slots}
use Rattle.stair_model.specs.Stripe.{cell}
use Rattle.stair_rack.specs.History.{Made, empty_slot}
use Rattle.stair_rack.specs.Media.{Image, Medium, SlotImage}
use Rattle.stair_rack.specs.Sector.{Cell, Damaged, Good}
use Rattle.stair_super.specs.Spelling.{spelled}
use Rattle.stair_super.specs.Superblock.{Superblock}
use Rattle.stair_super.specs.declared.mark.Mark.TheVariants.{Down, Live}
use Rattle.stair_member.specs.Editions.{Edition, copy_of}
use Rattle.stair_journal.specs.Gate.{closed_gate, open_gate}
use Rattle.stair_journal.specs.declared.redo.Redo.{Redo}
use Rattle.stair_state.specs.Blocks.{Codewords}
use Rattle.stair_state.specs.Holding.{IsConsistentUnderReassembly}
use Rattle.stair_state.specs.Reassembly.{IsBorne, Location}
use Rattle.stair_state.specs.State.{BlocksAre, State, created_state, without_seats}
use Rattle.stair_reinsert.specs.Misled.{device_of, five, naming, rack_of}

-- THE RACKS

-- a slot with this medium in it, and these outside
abbrev pub slot_with : Medium → List Medium → SlotImage
slot_with m outside = record { size = Some m.size; cell = m.cell; removed = outside }

-- a slot whose medium was pulled
abbrev pub slot_without : Medium → SlotImage
slot_without m = record { size = None; cell = λ k. Damaged; removed = m ∷ [] }

-- the device of slot 0 lies outside, and those of the others in their slots
abbrev pub first_pulled : (ℕ → Medium) → Image
first_pulled devices j = if nat_lt j 1
    then slot_without (devices 0)
    else (if nat_lt j 5 then slot_with (devices j) [] else empty_slot)

-- all five are live in epoch 4
abbrev pub all_live : Edition
all_live = record {
  array = naming 4 (Live ∷ Live ∷ Live ∷ Live ∷ Live ∷ []) (1 ∷ 1 ∷ 1 ∷ 1 ∷ 1 ∷ []);
  draw = 4;
}

-- AN EPOCH IS RAISED WITHOUT A DRAW

-- a fence that drops slot 4 was cut, with its epoch, 5, on slot 0 alone
abbrev pub fence_on_first : Edition
fence_on_first = record {
  array = naming 5 (Live ∷ Live ∷ Live ∷ Live ∷ Down ∷ []) (1 ∷ 1 ∷ 1 ∷ 1 ∷ 0 ∷ []);
  draw = 5;
}

-- and then, as the device of slot 0 was pulled, a fence that drops slot 0 was done, with this epoch
abbrev pub fenced_twice : ℕ → ℕ → Edition
fenced_twice epoch j = if nat_lt j 1
    then fence_on_first
    else record {
      array = naming epoch (Down ∷ Live ∷ Live ∷ Live ∷ Live ∷ []) (0 ∷ 1 ∷ 1 ∷ 1 ∷ 1 ∷ []);
      draw = epoch;
    }

-- Wrong: no slot drew 5 before it was written to slot 0. So the others name epoch 4 and know of no later one, which is raised to 5
-- once more.
abbrev pub undrawn : ℕ → Edition
undrawn = fenced_twice 5

-- right: the others drew it, so the next one is 6
abbrev pub drawn : ℕ → Edition
drawn = fenced_twice 6

-- two media bear one epoch, by which they name two configurations
pub record NamesTwo (g : Geometry) (image : Image) : Type 0 where
  pub first : ℕ
  pub first_place : Location
  pub is : Superblock
  pub borne : IsBorne g image first first_place is
  pub second : ℕ
  pub second_place : Location
  pub also : Superblock
  pub borne_too : IsBorne g image second second_place also
  pub one_epoch : is.array.epoch ≡ also.array.epoch
  pub two_lists : is.array ≢ also.array

-- A MEDIUM IS TAKEN FOR LIVE BY ITS SLOT NUMBER, WITHOUT ITS JOINED NUMBER

-- The device in slot 3, live by epoch 4 with the joined number 1, was replaced. The one that came in its place was admitted in
-- epoch 6, and is live by epoch 7.
abbrev pub replaced : Edition
replaced = record {
  array = naming 7 (Live ∷ Live ∷ Live ∷ Live ∷ Live ∷ []) (1 ∷ 1 ∷ 1 ∷ 6 ∷ 1 ∷ []);
  draw = 7;
}

-- Then that was pulled, the one before it was put back, whose chunk is still of the stripes of then, and another epoch was
-- established.
abbrev pub put_back : Codewords → Codewords → (ℕ → Edition) → Image
put_back before now editions j = if j == 3
    then slot_with (device_of before editions 3) (device_of now (λ k. replaced) 3 ∷ [])
    else rack_of now editions j

-- Wrong: it is taken for live, as its superblock names slot 3. So the epoch is written to it as to all others, as the medium
-- that was admitted in epoch 6.
abbrev pub misjoined : ℕ → Edition
misjoined j = record {
  array = naming 8 (Live ∷ Live ∷ Live ∷ Live ∷ Live ∷ []) (1 ∷ 1 ∷ 1 ∷ 6 ∷ 1 ∷ []);
  draw = 8;
}

-- right: its superblock stays as it is, and the epoch drops slot 3
abbrev pub dropped : ℕ → Edition
dropped j = if j == 3
    then all_live
    else record {
      array = naming 8 (Live ∷ Live ∷ Live ∷ Down ∷ Live ∷ []) (1 ∷ 1 ∷ 1 ∷ 0 ∷ 1 ∷ []);
      draw = 8;
    }

-- two media of a slot bear one joined number
pub record JoinsTwo (g : Geometry) (image : Image) : Type 0 where
  pub slot : ℕ
  pub first : Location
  pub is : Superblock
  pub borne : IsBorne g image slot first is
  pub second : Location
  pub also : Superblock
  pub borne_too : IsBorne g image slot second also
  pub one_joined : is.joined ≡ also.joined
  pub two_media : first ≢ second

-- GATES ARE READ BEFORE THE NEW EPOCH STANDS

-- both blocks of the one stripe are written: the redo has all of its cells
abbrev pub whole_redo : Redo
whole_redo = record {
  stripe = 0;
  cells = record {
    rows = record { marks = true ∷ true ∷ true ∷ true ∷ true ∷ replicate 27 false }
        ∷ replicate 31 no_slots;
  };
}

-- Slot j's device in the midst of that: its superblock of an edition in both places, this gate, the redo's body with the cells of
-- the new stripe, and the cell of its chunk of the old one.
abbrev pub writing_cell : Codewords → Codewords → Edition → List ℕ → ℕ → ℕ → Cell
writing_cell old new edition gate j k = if nat_lt k (sectors_needed five)
    then (if nat_lt k gate_sector then Good (spelled (copy_of edition j))
    else (if k == gate_sector then Good gate
    else (if nat_lt k (chunks_start five) then Good (cell (new 0) 0 (k - body_start))
    else Good (cell (old 0) 0 j))))
    else Damaged

abbrev pub writing_device : Codewords → Codewords → Edition → List ℕ → ℕ → Medium
writing_device old new edition gate j = record {
  size = sectors_needed five;
  cell = writing_cell old new edition gate j;
}

-- The write was cut when the gate of slot 0 alone was open, whose device is pulled. A recovery reads the gates of the others,
-- which are closed: so it takes the write for not done.
abbrev pub writing : Codewords → Codewords → Edition → ℕ → Medium
writing old new others j = if nat_lt j 1
    then writing_device old new all_live (open_gate five whole_redo) 0
    else writing_device old new others closed_gate j

-- Wrong: it says so while no epoch without slot 0 stands, so that all are as all_live has them. Right: this one does.
abbrev pub without_first : Edition
without_first = record {
  array = naming 5 (Down ∷ Live ∷ Live ∷ Live ∷ Live ∷ []) (0 ∷ 1 ∷ 1 ∷ 1 ∷ 1 ∷ []);
  draw = 5;
}

-- the array of zeros, of which it is in doubt whether these two blocks were written
abbrev pub doubted : List ℕ → List ℕ → State
doubted first second = record (without_seats (created_state five)) {
  in_doubt = Some (BlocksAre 0 (first ∷ second ∷ []));
}

-- WHAT BECOMES OF IT

-- no state of an array of this geometry is consistent under reassembly on a rack that is made so
abbrev pub IsRefused : Geometry → Image → Type 0
IsRefused g image = (s : State) → s.geometry ≡ g → ¬ IsConsistentUnderReassembly s (Made image ∷ [])

-- nor is one without a doubt, whatever it holds
abbrev pub IsRefusedSettled : Geometry → Image → Type 0
IsRefusedSettled g image = (s : State) → s.geometry ≡ g → s.in_doubt ≡ None
    → ¬ IsConsistentUnderReassembly s (Made image ∷ [])

-- the array of zeros is consistent so, without a word on marks
abbrev pub IsAllowed : Image → Type 0
IsAllowed image = IsConsistentUnderReassembly (without_seats (created_state five)) (Made image ∷ [])
