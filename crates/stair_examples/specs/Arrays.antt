-- A new array of five devices, of which two may be lost, and what is done to its devices.
use Rattle.std.specs.Prelude.{◌<◌, ◌==◌, ℕ, true, List, [], ◌∷◌, if◌then◌else◌, nat_lt, replicate}
use Rattle.stair_model.specs.Device.{cell_sector}
use Rattle.stair_model.specs.Stripe.{SECTOR, zero_stripe}
use Rattle.stair_rack.specs.History.{Acted, Happening, InsertedOld, Made, Pulled, empty_slot}
use Rattle.stair_rack.specs.Media.{Image}
use Rattle.stair_rack.specs.Sector.{Cell, Damaged, Good, Torn}
use Rattle.stair_member.specs.Editions.{Edition}
use Rattle.stair_state.specs.Blocks.{Codewords}
use Rattle.stair_state.specs.Forms.{Encodes}
use Rattle.stair_state.specs.Holding.{IsConsistentUnderReassembly}
use Rattle.stair_state.specs.Represents.{Represents}
use Rattle.stair_state.specs.State.{created_state, without_seats}
use Rattle.stair_state.specs.Tolerance.{IsToleratedAlone}
use Rattle.stair_invariant.specs.Returning.{AnyReturns, StaysWithinTolerance, NoneReturns}
use Rattle.stair_array.specs.Created.{first_configuration}
use Rattle.stair_reinsert.specs.Misled.{device_of, five, rack_of}
use Rattle.stair_reinsert_examples.specs.Refused.{drawn, first_pulled, undrawn}

-- THE RACK

-- the one stripe, whose blocks are zeros
abbrev pub zero_words : Codewords
zero_words t = zero_stripe five

-- epoch 1, in which all five are live
abbrev pub first_edition : ℕ → Edition
first_edition j = record { array = first_configuration five; draw = 1 }

abbrev pub new_rack : Image
new_rack = rack_of zero_words first_edition

-- the sector that holds the cell of a device's one chunk
abbrev pub chunk_sector : ℕ
chunk_sector = cell_sector five 0 0

-- the same devices, except that this one holds another cell there
abbrev pub with_cell_of : ℕ → Cell → Image
with_cell_of device cell j = if j == device
    then record (new_rack j) { cell = λ k. if k == chunk_sector then cell else (new_rack j).cell k }
    else new_rack j

-- bytes that no cell of the stripe has
abbrev pub other_bytes : List ℕ
other_bytes = replicate SECTOR 1

-- ENCODING

abbrev pub all_slots : ℕ → Type 0
all_slots j = j < 5

-- A cell of an encoded stripe may be damaged. It is never torn, and never has other bytes.
pub record ExamplesOfEncodes : Type 0 where
  pub holds : Encodes five zero_words all_slots (with_cell_of 1 Damaged)
  pub fails : ¬ Encodes five zero_words all_slots (with_cell_of 1 (Good other_bytes))
  pub torn : ¬ Encodes five zero_words all_slots (with_cell_of 1 Torn)

-- TOLERANCE

-- the slots below this one are empty
abbrev pub devices_from : ℕ → Image
devices_from first j = if nat_lt j first then empty_slot else new_rack j

-- Two of the devices may be absent, and no third one. `IsToleratedAlone` is `IsWithinTolerance` if the empty slots are
-- offline.
pub record ExamplesOfIsWithinTolerance : Type 0 where
  pub holds : IsToleratedAlone five (devices_from 2)
  pub fails : ¬ IsToleratedAlone five (devices_from 3)

-- when the rack was made
abbrev pub made_new : List Happening
made_new = Made new_rack ∷ []

-- then the devices of these slots are pulled, in order
abbrev pub pulled_of : List ℕ → List Happening
pulled_of [] = made_new
pulled_of (j ∷ slots) = Acted j (Pulled (device_of zero_words first_edition j)) ∷ pulled_of slots

-- the device of slot 0 is pulled and reinserted
abbrev pub returned : List Happening
returned = Acted 0 (InsertedOld 0) ∷ pulled_of (0 ∷ [])

-- A device of an open array may be pulled and reinserted if media may be reinserted, and not otherwise. No three may be
-- pulled.
pub record ExamplesOfStaysWithinTolerance : Type 0 where
  pub holds : StaysWithinTolerance AnyReturns five true made_new returned
  pub fails : ¬ StaysWithinTolerance NoneReturns five true made_new returned
  pub third : ¬ StaysWithinTolerance AnyReturns five true made_new (pulled_of (2 ∷ 1 ∷ 0 ∷ []))

-- REPRESENTING

-- A new rack is an array of zeros. It is not if one cell of a live device has other bytes.
pub record ExamplesOfRepresents : Type 0 where
  pub holds : Represents (created_state five) (Made new_rack ∷ [])
  pub fails : ¬ Represents (created_state five) (Made (with_cell_of 0 (Good other_bytes)) ∷ [])

-- A fence of slot 4 was cut, with its epoch, 5, only on slot 0. That device is pulled, and a fence by the others drops
-- slot 0. Its epoch is 6 if they drew 5 before, and otherwise 5 again.
pub record ExamplesOfIsConsistentUnderReassembly : Type 0 where
  pub holds : IsConsistentUnderReassembly (without_seats (created_state five))
      (Made (first_pulled (device_of zero_words drawn)) ∷ [])
  pub fails : ¬ IsConsistentUnderReassembly (without_seats (created_state five))
      (Made (first_pulled (device_of zero_words undrawn)) ∷ [])
