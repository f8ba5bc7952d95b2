-- What a new array holds.
use Rattle.std.proofs.Common.{◌≡◌, ◌≢◌, ℕ, ◌*◌, ◌<◌, ◌≤◌, List, length, replicate, get_or, slice_index, inl, inr, refl, sym, ◌∙◌, ap, subst₂, arith}
use Rattle.std.proofs.lemmas.Bool.{cases_lt, cond-true, cond-false, lt-ltb, le-ltb, ne_eqb}
use Rattle.std.proofs.lemmas.List.{get_or-replicate, length-replicate}
use Rattle.std.proofs.lemmas.List.Elements.{All-nil, All-replicate}
use Rattle.stair_model.specs.Codeword.{IsCodeword}
use Rattle.stair_model.specs.Device.{gate_sector}
use Rattle.stair_model.specs.Geometry.{Geometry, IsWithinLimits, sectors_needed}
use Rattle.stair_model.specs.Stripe.{SECTOR, IsSector, IsWellFormed as IsWellFormedStripe, byte_of, zero_stripe}
use Rattle.stair_model.proofs.LinearLaws.{MeetsEquations-zero, MeetsEquations-same}
use Rattle.stair_model.proofs.StripeLaws.{cell-zero_stripe, filled-IsSector}
use Rattle.stair_rack.specs.Media.{SlotImage}
use Rattle.stair_rack.specs.Sector.{Cell, Good, Damaged}
use Rattle.stair_super.specs.Label.{IsPrintable}
use Rattle.stair_super.specs.Superblock.{Superblock, IsJoined, IsSuperblock, IsWellFormed, joined_in, mark_in}
use Rattle.stair_super.specs.Spelling.{SpellsSuperblock, spelled}
use Rattle.stair_super.specs.declared.configuration.Configuration.{Configuration}
use Rattle.stair_super.specs.declared.mark.Mark.{Mark}
use Rattle.stair_super.specs.declared.mark.Mark.TheVariants.{Live, Down}
use Rattle.stair_super.proofs.SpellsLaws.{spells}
use Rattle.stair_member.specs.Reserve.{Bears}
use Rattle.stair_member.specs.Seats.{Seat, seats_of}
use Rattle.stair_member.specs.Superblocks.{HoldsSuper}
use Rattle.stair_member.proofs.SuperLemmas.{holds_once}
use Rattle.stair_journal.specs.Gate.{closed_gate, open_gate}
use Rattle.stair_journal.specs.declared.redo.Redo.{Redo}
use Rattle.stair_member.proofs.EditionLemmas.{bears_below}
use Rattle.stair_state.specs.Blocks.{AreEncodingsOf, zero_block, zero_blocks}
use Rattle.stair_array.specs.Created.{IsNewDevice, IsNewSlot, Kept, Other, created_sector, first_configuration, first_super}
use Rattle.stair_state.specs.State.{first_seats}
use Rattle.stair_state.proofs.BlockLemmas.{encodes_blocks}
use Rattle.stair_invariant.proofs.NewSessionLemmas.{among_first, length_first, past_first}

-- ZEROS

zero_bytes : (g : Geometry) (p i j : ℕ) → p < SECTOR → i < g.r → j < g.n → byte_of (zero_stripe g) p i j ≡ 0
zero_bytes g p i j p_in row chunk =
    ap (λ (bytes : List ℕ). slice_index bytes p) (cell-zero_stripe g i j row chunk) ∙ get_or-replicate SECTOR p 0 0 p_in

zero_codeword : (g : Geometry) → IsWithinLimits g → IsCodeword g (zero_stripe g)
zero_codeword g limits = record {
  words = λ p p_in.
      MeetsEquations-same g (byte_of (zero_stripe g) p) (λ i j. 0) limits (λ i j row chunk. zero_bytes g p i j p_in row chunk)
      (MeetsEquations-zero g);
}

zero_formed : (g : Geometry) → IsWellFormedStripe (zero_stripe g)
zero_formed g = record {
  count = length-replicate {A = List ℕ} (g.r * g.n) (replicate SECTOR 0);
  sectors = All-replicate IsSector (g.r * g.n) (replicate SECTOR 0) (filled-IsSector 0 (omega arith));
}

-- the stripe of zeros encodes blocks of zeros
pub zero : (g : Geometry) → IsWithinLimits g → AreEncodingsOf g zero_blocks (λ t. zero_stripe g)
zero g limits = record {
  each = λ t t_in.
      encodes_blocks g zero_blocks t (zero_stripe g) limits (record { rows = refl; chunks = refl }) (zero_formed g)
      (zero_codeword g limits) (λ i j d row chunk is. cell-zero_stripe g i j row chunk);
}

-- MARKS AND JOINED NUMBERS

pub mark_first : (g : Geometry) (j : ℕ) → j < g.n → mark_in (first_configuration g) j ≡ Live
mark_first g j below = among_first g.n j Live Down below

pub mark_past : (g : Geometry) (j : ℕ) → g.n ≤ j → mark_in (first_configuration g) j ≡ Down
mark_past g j past = past_first g.n j Live Down past

pub joined_first : (g : Geometry) (j : ℕ) → j < g.n → joined_in (first_configuration g) j ≡ 1
joined_first g j below = among_first g.n j 1 0 below

pub joined_past : (g : Geometry) (j : ℕ) → g.n ≤ j → joined_in (first_configuration g) j ≡ 0
joined_past g j past = past_first g.n j 1 0 past

-- every slot of the array has its first seat
seat_in : Configuration → ℕ → Seat
seat_in array j = record { mark = mark_in array j; joined = joined_in array j }

seat_first : (g : Geometry) (j : ℕ) → seat_in (first_configuration g) j ≡ first_seats g j
unfolding seat_in
seat_first g j =
    elim (cases_lt j g.n) [
      | inl below ↦
          (λ i. record { mark = mark_first g j below i; joined = joined_first g j below i })
          ∙ sym (cond-true _ _ _ (lt-ltb j g.n below))
      | inr past ↦
          (λ i. record { mark = mark_past g j past i; joined = joined_past g j past i })
          ∙ sym (cond-false _ _ _ (le-ltb j g.n past))
    ]

pub seats_first : (g : Geometry) (s : Superblock) (j : ℕ) → s.array ≡ first_configuration g → seats_of s j ≡ first_seats g j
unfolding seat_in
seats_first g s j is = ap (λ (array : Configuration). seat_in array j) is ∙ seat_first g j

-- THE SUPERBLOCK OF EACH SLOT

entry_first : (g : Geometry) (j : ℕ) → IsJoined (mark_in (first_configuration g) j) (joined_in (first_configuration g) j) 1
entry_first g j =
    elim (cases_lt j g.n) [
      | inl below ↦
          subst₂ (λ (mark : Mark) (joined : ℕ). IsJoined mark joined 1) (sym (mark_first g j below)) (sym (joined_first g j below))
          (omega arith, omega arith)
      | inr past ↦
          subst₂ (λ (mark : Mark) (joined : ℕ). IsJoined mark joined 1) (sym (mark_past g j past)) (sym (joined_past g j past)) refl
    ]

live_not_down : (mark : Mark) → mark ≡ Live → mark ≢ Down
live_not_down mark live down = cc

pub first_formed : (g : Geometry) (j : ℕ) → IsWithinLimits g → j < g.n → IsWellFormed (first_super g j)
first_formed g j limits below = record {
  array = record {
    limits = limits;
    begun = omega arith;
    entries = λ k k_in. entry_first g k;
    absent = λ k past k_in. mark_past g k past;
  };
  slot_in = below;
  drawn = omega arith;
  here = live_not_down (mark_in (first_configuration g) j) (mark_first g j below);
  own = sym (joined_first g j below);
}

pub first_is_super : (g : Geometry) (j : ℕ) → IsWithinLimits g → length g.id ≡ 16 → j < g.n → IsSuperblock (first_super g j)
first_is_super g j limits id below = record {
  sizes = record {
    id = id;
    draw = omega arith;
    marks = length_first g.n Live Down (omega (arith, limits.devices));
    joins = length_first g.n 1 0 (omega (arith, limits.devices));
    label = record { short = omega arith; printable = All-nil IsPrintable };
  };
  rules = first_formed g j limits below;
}

pub first_spelled : (g : Geometry) (j : ℕ) → IsWithinLimits g → length g.id ≡ 16 → j < g.n
    → SpellsSuperblock (spelled (first_super g j)) (first_super g j)
first_spelled g j limits id below = spells (first_super g j) (first_is_super g j limits id below)

-- WHAT EACH SECTOR HOLDS

pub created_place : (g : Geometry) (j k : ℕ) → k < 2 → created_sector g j k ≡ spelled (first_super g j)
created_place g j k place = cond-true _ _ _ (lt-ltb k gate_sector place)

pub created_gate : (g : Geometry) (j : ℕ) → created_sector g j gate_sector ≡ closed_gate
created_gate g j = refl

pub created_behind : (g : Geometry) (j k : ℕ) → gate_sector < k → created_sector g j k ≡ zero_block
created_behind g j k behind =
    cond-false _ _ _ (le-ltb k gate_sector (omega arith)) ∙ cond-false _ _ _ (ne_eqb k gate_sector (λ same. omega arith))

-- a closed gate is no open one
pub closed_not_open : (g : Geometry) (redo : Redo) → ¬ (closed_gate ≡ open_gate g redo)
unfolding closed_gate open_gate
closed_not_open g redo same =
    let byte : ◌≡◌ {A = ℕ} 0 1 = ap (λ (bytes : List ℕ). get_or bytes 8 0) same in
    omega arith

-- WHAT A NEW SLOT BEARS

-- these bytes are the first superblock's
pub first_held : (g : Geometry) (j : ℕ) (cell : Cell) → IsWithinLimits g → length g.id ≡ 16 → j < g.n
    → cell ≡ Good (spelled (first_super g j)) → HoldsSuper cell (first_super g j)
first_held g j cell limits id below is =
    record { bytes = spelled (first_super g j); good = is; spells = first_spelled g j limits id below }

pub place_needed : (g : Geometry) (k : ℕ) → k < 2 → k < sectors_needed g
place_needed g k place = omega arith

-- each superblock in a place of a new device, whatever it says, is the first one
pub held_first : (g : Geometry) (j k : ℕ) (slot : SlotImage) (s : Superblock) → IsWithinLimits g → length g.id ≡ 16 → j < g.n
    → IsNewDevice g j slot → k < 2 → HoldsSuper (slot.cell k) s → s ≡ first_super g j
held_first g j k slot s limits id below new place holds =
    elim (new.sectors k (place_needed g k place)) [
      | inl is ↦
          holds_once (slot.cell k) s (first_super g j) holds
          (first_held g j (slot.cell k) limits id below (is ∙ ap Good (created_place g j k place)))
      | inr damaged ↦ let none : Good holds.bytes ≡ Damaged = sym holds.good ∙ damaged in absurd (cc)
    ]

-- a new slot that bears a superblock of the array holds its new device
pub kept_device : (g : Geometry) (j : ℕ) (slot : SlotImage) (s : Superblock) → IsNewSlot g j slot → Bears g j slot.cell s → IsNewDevice g j slot
kept_device g j slot s (Kept device) bears = device
kept_device g j slot s (Other none) bears = absurd (none s bears)

pub borne_first : (g : Geometry) (j : ℕ) (slot : SlotImage) (s : Superblock) → IsWithinLimits g → length g.id ≡ 16
    → IsNewSlot g j slot → Bears g j slot.cell s → s ≡ first_super g j
borne_first g j slot s limits id new bears =
    held_first g j bears.place slot s limits id (bears_below g j slot.cell s bears) (kept_device g j slot s new bears)
    bears.place_in bears.holds
