-- Racks on which what is asked of an opening isn't met, though the outside keeps to less: a survey of them answers that too few
-- devices are left.
use Rattle.std.specs.Prelude.{◌≡◌, ◌==◌, ◌++◌, ◌+◌, ◌⊎◌, ℕ, true, false, Err, List, [], ◌∷◌, None, Some, zero, suc, if◌then◌else◌, nat_lt, replicate}
use Rattle.stair_model.specs.Device.{gate_sector}
use Rattle.stair_model.specs.Geometry.{Geometry, geometry_of, sectors_needed}
use Rattle.stair_model.specs.Stripe.{cell}
use Rattle.stair_rack.specs.Crash.{SlotMayLeave}
use Rattle.stair_rack.specs.History.{Acted, Attach, Called, Happening, InsertedOld, Made, Pulled, Read, empty_slot, slot_state}
use Rattle.stair_rack.specs.Media.{Image, Medium, SlotImage}
use Rattle.stair_rack.specs.Moments.{IsMoment}
use Rattle.stair_rack.specs.Sector.{Cell, Damaged, Good}
use Rattle.stair_rack.specs.RackState.{rack_state}
use Rattle.stair_rack.specs.declared.rack.Got.TheVariants.{Good as was_good}
use Rattle.stair_rack.specs.declared.rack.Reply.TheVariants.{Done, Gone}
use Rattle.stair_super.specs.Spelling.{spelled}
use Rattle.stair_super.specs.declared.configuration.Configuration.{Configuration}
use Rattle.stair_super.specs.declared.mark.Mark.{Mark}
use Rattle.stair_super.specs.declared.mark.Mark.TheVariants.{Down, Live, Rebuilding}
use Rattle.stair_member.specs.Editions.{Edition, copy_of}
use Rattle.stair_member.specs.Survey.{Surveys}
use Rattle.stair_member.specs.declared.fault.SurveyFault.TheVariants.{TooFew}
use Rattle.stair_member.specs.declared.why.Why.{Why}
use Rattle.stair_journal.specs.Gate.{closed_gate}
use Rattle.stair_state.specs.Blocks.{Codewords}
use Rattle.stair_state.specs.Degraded.{AreAllDamaged}
use Rattle.stair_state.specs.Holding.{IsConsistentUnderReassembly}
use Rattle.stair_state.specs.State.{created_state, without_seats}
use Rattle.stair_state.specs.Tolerance.{IsTolerated, IsToleratedAlone, ToleratedSince}
use Rattle.stair_invariant.specs.Mixed.{WasDamaged, WasOffline}

-- THE DEVICES

-- five of them, of which two may be lost, with one stripe of one row
abbrev pub five : Geometry
five = geometry_of 5 2 1 (1 ∷ []) 1 (replicate 16 5)

-- what an epoch names that gives the five slots these marks and joined numbers
abbrev pub naming : ℕ → List Mark → List ℕ → Configuration
naming epoch marks joins = record {
  geometry = five;
  epoch = epoch;
  marks = marks ++ replicate 27 Down;
  joins = joins ++ replicate 27 0;
  frozen = false;
  label = [];
}

-- Slot j's device: its superblock of an edition in both places, a closed gate, and after it the cell of its chunk.
abbrev pub device_cell : Codewords → (ℕ → Edition) → ℕ → ℕ → Cell
device_cell words editions j k = if nat_lt k (sectors_needed five)
    then (if nat_lt k gate_sector then Good (spelled (copy_of (editions j) j))
    else (if k == gate_sector then Good closed_gate else Good (cell (words 0) 0 j)))
    else Damaged

abbrev pub device_of : Codewords → (ℕ → Edition) → ℕ → Medium
device_of words editions j =
    record { size = sectors_needed five; cell = device_cell words editions j }

abbrev pub rack_of : Codewords → (ℕ → Edition) → Image
rack_of words editions j = if nat_lt j 5
    then record {
      size = Some (sectors_needed five);
      cell = device_cell words editions j;
      removed = [];
    }
    else empty_slot

abbrev pub made_of : Codewords → (ℕ → Edition) → List Happening
made_of words editions = Made (rack_of words editions) ∷ []

-- WHAT IS DONE

-- slot j is attached, and both its superblock places are read
abbrev pub looked_at : ℕ → List Happening → List Happening
looked_at j h = Called j (Read 1 was_good) ∷ Called j (Read 0 was_good) ∷ Called j (Attach Done) ∷ h

-- its device is pulled before it is attached
abbrev pub pulled_at : Codewords → (ℕ → Edition) → ℕ → List Happening → List Happening
pulled_at words editions j h =
    Called j (Attach Gone) ∷ Acted j (Pulled (device_of words editions j)) ∷ h

-- so many slots from 5 on are attached, which hold nothing
unfoldable pub empty_after : ℕ → List Happening → List Happening
empty_after zero h = h
empty_after (suc count) h = Called (count + 5) (Attach Gone) ∷ empty_after count h

-- THE FIRST HISTORY

-- A promotion of slot 3 was cut: epoch 5, which marks it Live, is on slots 0 and 1 alone, and all have drawn it.
abbrev pub cut_promotion : ℕ → Edition
cut_promotion j = if nat_lt j 2
    then record {
      array = naming 5 (Live ∷ Live ∷ Live ∷ Live ∷ Live ∷ []) (1 ∷ 1 ∷ 1 ∷ 2 ∷ 1 ∷ []);
      draw = 5;
    }
    else record {
      array = naming 4 (Live ∷ Live ∷ Live ∷ Rebuilding ∷ Live ∷ []) (1 ∷ 1 ∷ 1 ∷ 2 ∷ 1 ∷ []);
      draw = 5;
    }

-- A survey of it. The device of slot 0 is pulled before the slot is attached and put back after it, and so is that of slot 1.
abbrev pub one_after_the_other : Codewords → List Happening
one_after_the_other words =
    let first = pulled_at words cut_promotion 0 (made_of words cut_promotion) in
    let second = pulled_at words cut_promotion 1 (Acted 0 (InsertedOld 0) ∷ first) in
    empty_after 27 (looked_at 4 (looked_at 3 (looked_at 2 (Acted 1 (InsertedOld 0) ∷ second))))

-- THE SECOND HISTORY

-- A fence that drops slots 1 and 2 was cut: epoch 5, which marks them Down, is on slot 0 alone, and drawn on all but these.
abbrev pub cut_fence : ℕ → Edition
cut_fence j = if nat_lt j 1
    then record {
      array = naming 5 (Live ∷ Down ∷ Down ∷ Live ∷ Live ∷ []) (1 ∷ 0 ∷ 0 ∷ 1 ∷ 1 ∷ []);
      draw = 5;
    }
    else record {
      array = naming 4 (Live ∷ Live ∷ Live ∷ Live ∷ Live ∷ []) (1 ∷ 1 ∷ 1 ∷ 1 ∷ 1 ∷ []);
      draw = if nat_lt j 3 then 4 else 5;
    }

-- A survey of it. The device of slot 0 is pulled once it was read, and that of slot 4 before it is attached.
abbrev pub read_and_pulled : Codewords → List Happening
read_and_pulled words =
    let read = looked_at 0 (made_of words cut_fence) in
    let others = looked_at 3 (looked_at 2 (looked_at 1
    (Acted 0 (Pulled (device_of words cut_fence 0)) ∷ read))) in
    empty_after 27 (pulled_at words cut_fence 4 others)

-- THE THIRD HISTORY

-- Two fences were cut. Epoch 5, which marks slots 2 and 3 Down, is on slot 0 alone; and epoch 6, which marks slot 0 Down, is on
-- slot 1 alone, and drawn on all but slot 0.
abbrev pub two_fences : ℕ → Edition
two_fences j = if nat_lt j 1
    then record {
      array = naming 5 (Live ∷ Live ∷ Down ∷ Down ∷ Live ∷ []) (1 ∷ 1 ∷ 0 ∷ 0 ∷ 1 ∷ []);
      draw = 5;
    }
    else (if nat_lt j 2
    then record {
      array = naming 6 (Down ∷ Live ∷ Live ∷ Live ∷ Live ∷ []) (0 ∷ 1 ∷ 1 ∷ 1 ∷ 1 ∷ []);
      draw = 6;
    }
    else record {
      array = naming 4 (Live ∷ Live ∷ Live ∷ Live ∷ Live ∷ []) (1 ∷ 1 ∷ 1 ∷ 1 ∷ 1 ∷ []);
      draw = 6;
    })

-- A survey of it. The device of slot 0 is pulled once it was read, and that of slot 1 before it is attached; neither comes back.
abbrev pub only_pulled : Codewords → List Happening
only_pulled words =
    let read = looked_at 0 (made_of words two_fences) in
    let second = pulled_at words two_fences 1
    (Acted 0 (Pulled (device_of words two_fences 0)) ∷ read) in
    empty_after 27 (looked_at 4 (looked_at 3 (looked_at 2 second)))

-- WHAT THE OUTSIDE KEEPS TO

-- The slot at the end: empty where it was offline at some moment, and each sector damaged that was so at some moment.
pub data IsWorstSlot (before old new : List Happening) (j : ℕ) (to : SlotImage) : Type 0 where
  Emptied : WasOffline before old new j → to.size ≡ None → AreAllDamaged to.cell
      → IsWorstSlot before old new j to
  Left : (¬ WasOffline before old new j) → (was : SlotImage)
      → SlotMayLeave (slot_state new j) was → to.size ≡ was.size
      → ((k : ℕ) → WasDamaged old new j k → to.cell k ≡ Damaged)
      → ((k : ℕ) → (to.cell k ≡ was.cell k) ⊎ WasDamaged old new j k)
      → IsWorstSlot before old new j to

-- each moment is within tolerance, and so is alone what is worst at the end
pub record IsToleratedAtWorst (g : Geometry) (before old new : List Happening) : Type 0 where
  pub moments : (h : List Happening) → IsMoment old h new → IsTolerated g before h
  pub worst : Image
  pub is : (j : ℕ) → IsWorstSlot before old new j (worst j)
  pub alone : IsToleratedAlone g worst

-- WHAT BECOMES OF IT

-- A rack that is consistent under reassembly and holds zeros; each moment is within tolerance, since it was made; and a survey of
-- it, from then on, answers that too few devices are left.
pub record IsMisled (image : Image) (new : List Happening) : Type 0 where
  pub consistent :
      IsConsistentUnderReassembly (without_seats (created_state five)) (Made image ∷ [])
  pub tolerated : ToleratedSince five (Made image ∷ []) new
  pub whys : List Why
  pub gones : ℕ → ℕ
  pub surveys : Surveys (Err (TooFew whys)) (rack_state true (Made image ∷ []) 0 (λ j. 0))
      (rack_state true new 0 gones)
