-- There are sessions: over each new array.
use Rattle.std.proofs.Common.{◌≡◌, ℕ, zero, suc, ◌-◌, ◌*◌, ◌^◌, ◌<◌, ◌≤◌, ◌++◌, List, Option, None, Some, Bool, true, false, not, ◌&&◌, length, replicate, slice_index, slice_index_or, inl, inr, refl, sym, ◌∙◌, ap, subst, subst₂, arith}
use Rattle.std.specs.Prelude.{IsSome, IsTrue}
use Rattle.std.proofs.lemmas.Bool.{cases_eq, cases_lt, cond-true, cond-false, eq-eqb, false≢true, lt-ltb, le-ltb, ne_eqb}
use Rattle.std.proofs.lemmas.List.{get_or-replicate, get_or_append_left, get_or-append_right, get_or_past, length-append, length-replicate}
use Rattle.std.proofs.lemmas.List.Elements.{All-nil, All-replicate}
use Rattle.stair_model.specs.Device.{Chunk, body_sector, cell_sector, gate_sector}
use Rattle.stair_model.specs.Geometry.{Geometry, IsWithinLimits, sectors_needed}
use Rattle.stair_model.specs.Slots.{no_slots, slot_count}
use Rattle.stair_model.specs.Stripe.{SECTOR, IsSector, byte_of, cell, zero_stripe}
use Rattle.stair_model.proofs.DeviceLaws.{sector_in_range}
use Rattle.stair_model.proofs.SetLaws.{has_slot-none, slot_count_none}
use Rattle.stair_model.proofs.LinearLaws.{MeetsEquations-same, MeetsEquations-zero}
use Rattle.stair_model.proofs.StripeLaws.{cell-zero_stripe, filled-IsSector}
use Rattle.stair_rack.specs.Answers.{IsAnswered, Ran, Runs, any_call, reply_if}
use Rattle.stair_rack.specs.History.{Happening, SlotState, Attach, after_call, made, slot_state, stopped}
use Rattle.stair_rack.specs.Media.{SlotImage, has_sector}
use Rattle.stair_rack.specs.Offline.{ButForOutside, Here, InUse, IsAttached, IsHeld}
use Rattle.stair_rack.specs.Sector.{Good, Leaves, Sector, content, damaged, settled}
use Rattle.stair_rack.specs.declared.rack.Reply.TheVariants as reply
use Rattle.stair_rack.proofs.CrashLemmas.{Leaves-settled}
use Rattle.stair_super.specs.Label.{IsPrintable}
use Rattle.stair_super.specs.Newer.{IsOlder}
use Rattle.stair_super.specs.Spelling.{SpellsSuperblock, spelled}
use Rattle.stair_super.specs.Superblock.{IsConfiguration, IsJoined, IsSuperblock, Superblock, joined_in, mark_in, superblock_of}
use Rattle.stair_super.specs.declared.mark.Mark.{Mark}
use Rattle.stair_super.specs.declared.mark.Mark.TheVariants.{Down, Live}
use Rattle.stair_super.specs.declared.version.Version.TheVariants.{Two}
use Rattle.stair_super.proofs.SpellsLaws.{spells}
use Rattle.stair_member.specs.Aims.{mark_for}
use Rattle.stair_member.specs.Membership.{IsMarkedFor, IsMembership, Membership, place_of, why_of}
use Rattle.stair_member.specs.Superblocks.{HoldsSuper}
use Rattle.stair_member.specs.declared.why.Why.{Why}
use Rattle.stair_member.specs.declared.why.Why.TheVariants as why
use Rattle.stair_member.proofs.SuperLemmas.{holds_once}
use Rattle.stair_journal.specs.Body.{Holds, IsOrDamaged}
use Rattle.stair_journal.specs.Gate.{ReadsClosed, closed_gate}
use Rattle.stair_journal.proofs.GateLemmas.{closed}
use Rattle.stair_state.specs.Blocks.{AreEncodingsOf, zero_block, zero_blocks}
use Rattle.stair_state.specs.Represents.{IsLargeEnough}
use Rattle.stair_state.specs.State.{created_state, first_content, first_seats}
use Rattle.stair_state.proofs.BlockLemmas.{encodes_blocks}
use Rattle.stair_invariant.specs.NewSession.{IsNewIn, IsWhole, array_of, attaches, new_array, new_device, new_image, new_member, new_rack, new_sector, new_super, new_words, opened_rack}
use Rattle.stair_invariant.specs.InSession.{IsOfContent, state_with}
use Rattle.stair_invariant.specs.Session.{IsLiveIn, seats_in, HasOwn, IsArray, IsOpenWith, ServesSlot, own_super}
use Rattle.stair_invariant.proofs.SeatLemmas.{same_seat}

-- ON WHATEVER RACK

pub none_is_few : (m : ℕ) → slot_count no_slots ≤ m
none_is_few m =
    omega (arith, slot_count_none no_slots (λ j below has. false≢true (sym (has_slot-none j) ∙ has)))

-- a medium with a sector is one
some_size : (size : Option ℕ) (k : ℕ) → IsTrue (has_sector size k) → IsSome size
some_size None k has = absurd (false≢true has)
some_size (Some n) k has = refl

whole_array : (m : Membership) → IsWhole m → IsArray (array_of m)
whole_array m whole = record {
  member = whole.member;
  marks = λ j below. whole.marks j below ∙ sym (ap mark_for (whole.live j below));
  enough = record {
    slots = no_slots;
    formed = refl;
    few = none_is_few m.array.geometry.m;
    within = λ j missing. absurd (missing.why (whole.live j missing.below));
  };
  rebuilds = λ rebuild is. absurd (cc);
}

module _ (m : Membership) (before h : List Happening) (j : ℕ) (below : j < m.array.geometry.n) (new : IsNewIn m before h j) where
  some : IsSome (slot_state h j).size
  some = some_size (slot_state h j).size 0 (new.large 0 (omega arith))

  -- what is so of a sector now
  now_so : (k : ℕ) (P : Sector → Type 0) → P ((slot_state h j).sector k) → ButForOutside h h j k P
  now_so k P is = Here refl some (inr is)

  gate_so : ButForOutside h h j gate_sector (Leaves (ReadsClosed m.array.geometry) (ReadsClosed m.array.geometry))
  gate_so =
      now_so gate_sector (Leaves (ReadsClosed m.array.geometry) (ReadsClosed m.array.geometry))
      (subst (Leaves (ReadsClosed m.array.geometry) (ReadsClosed m.array.geometry)) (sym new.gate)
      (Leaves-settled (Good closed_gate) (closed m.array.geometry) (closed m.array.geometry)))

  chunk_so : (t i : ℕ) → t < m.array.geometry.stripes → i < m.array.geometry.r
      → ButForOutside h h j (cell_sector m.array.geometry t i)
      (Leaves (IsOrDamaged (cell (zero_stripe m.array.geometry) i j)) (IsOrDamaged (cell (zero_stripe m.array.geometry) i j)))
  chunk_so t i t_in i_in =
      let zeros : IsOrDamaged (cell (zero_stripe m.array.geometry) i j) (Good zero_block) =
      Holds (ap Good (sym (cell-zero_stripe m.array.geometry i j i_in below))) in
      now_so (cell_sector m.array.geometry t i)
      (Leaves (IsOrDamaged (cell (zero_stripe m.array.geometry) i j)) (IsOrDamaged (cell (zero_stripe m.array.geometry) i j)))
      (subst (Leaves (IsOrDamaged (cell (zero_stripe m.array.geometry) i j)) (IsOrDamaged (cell (zero_stripe m.array.geometry) i j)))
      (sym (new.chunks t i t_in i_in)) (Leaves-settled (Good zero_block) zeros zeros))

  pub new_serves : ServesSlot m.array.geometry (new_words m.array.geometry) h j
  new_serves = record {
    rests = λ redo words.
        record {
          gates = λ i at.
              subst (λ (x : ℕ). ButForOutside h h x gate_sector (Leaves (ReadsClosed m.array.geometry) (ReadsClosed m.array.geometry))) (sym at)
              gate_so;
          bodies = λ i row c at has.
              subst (λ (x : ℕ). ButForOutside h h x (body_sector m.array.geometry row c) (Leaves (λ sector. Unit {0}) (λ sector. Unit {0})))
              (sym at)
              (now_so (body_sector m.array.geometry row c) (Leaves (λ sector. Unit {0}) (λ sector. Unit {0}))
              (record { each = λ left may. tt; base = tt }));
          chunks = λ x t i at x_in t_in i_in.
              subst
              (λ (x : ℕ). ButForOutside h h x (cell_sector m.array.geometry t i)
              (Leaves (IsOrDamaged (cell (zero_stripe m.array.geometry) i x)) (IsOrDamaged (cell (zero_stripe m.array.geometry) i x))))
              (sym at) (chunk_so t i t_in i_in);
        };
    large = new.large;
  }

pub opens_new : (m : Membership) (before h : List Happening) → IsWhole m → Ran any_call before h
    → ((j : ℕ) → j < m.array.geometry.n → IsNewIn m before h j) → IsOpenWith before (array_of m) (new_words m.array.geometry) h
opens_new m before h whole ran new = record {
  array = whole_array m whole;
  ran = ran;
  held = λ j here. (new j here.below).held;
  own = λ j here attached. (new j here.below).own;
  live = λ j live attached. new_serves m before h j live.below (new j live.below);
  shut = λ j rebuilt attached.
      let never : why.Here ≡ why.Rebuilding = sym (whole.live j rebuilt.below) ∙ rebuilt.why in
      absurd (cc);
  rebuilt = λ rebuild is attached. absurd (cc);
}

-- WHAT A NEW ARRAY NAMES

pub among_first : {A : Type 0} → (n j : ℕ) (a b : A) → j < n → slice_index_or (replicate n a ++ replicate (32 - n) b) j b ≡ a
among_first n j a b below =
    get_or_append_left (replicate n a) (replicate (32 - n) b) b j (omega (arith, length-replicate n a)) ∙ get_or-replicate n j a b below

pub any_entry : {A : Type 0} → (n j : ℕ) (b : A) → slice_index_or (replicate n b) j b ≡ b
any_entry n j b =
    elim (cases_lt j n) [
      | inl below ↦ get_or-replicate n j b b below
      | inr past ↦ get_or_past (replicate n b) j b (omega (arith, length-replicate n b))
    ]

pub past_first : {A : Type 0} → (n j : ℕ) (a b : A) → n ≤ j → slice_index_or (replicate n a ++ replicate (32 - n) b) j b ≡ b
past_first n j a b past =
    get_or-append_right (replicate n a) (replicate (32 - n) b) n j b (length-replicate n a) past ∙ any_entry (32 - n) (j - n) b

pub length_first : {A : Type 0} → (n : ℕ) (a b : A) → n ≤ 32 → length (replicate n a ++ replicate (32 - n) b) ≡ 32
length_first n a b small =
    omega (arith, length-append (replicate n a) (replicate (32 - n) b), length-replicate n a, length-replicate (32 - n) b)

module _ (g : Geometry) (epoch : ℕ) where
  pub mark_new : (j : ℕ) → j < g.n → mark_in (new_array g epoch) j ≡ Live
  mark_new j below = among_first g.n j Live Down below

  pub mark_past : (j : ℕ) → g.n ≤ j → mark_in (new_array g epoch) j ≡ Down
  mark_past j past = past_first g.n j Live Down past

  pub joined_new : (j : ℕ) → j < g.n → joined_in (new_array g epoch) j ≡ 1
  joined_new j below = among_first g.n j 1 0 below

  pub joined_past : (j : ℕ) → g.n ≤ j → joined_in (new_array g epoch) j ≡ 0
  joined_past j past = past_first g.n j 1 0 past

  pub own_new : (j : ℕ) → j < g.n → own_super (new_member g epoch) epoch j ≡ new_super g epoch j
  own_new j below = ap (λ (joined : ℕ). superblock_of (new_array g epoch) j joined epoch) (joined_new j below)

  pub why_new : (j : ℕ) → why_of (new_member g epoch) j ≡ why.Here
  why_new j = any_entry 32 j why.Here

  pub place_new : (j : ℕ) → place_of (new_member g epoch) j ≡ 0
  place_new j = any_entry 32 j 0

  module _ (limits : IsWithinLimits g) (id : length g.id ≡ 16) (first : 1 ≤ epoch) (short : epoch < 2 ^ 64) where
    entry_new : (j : ℕ) → IsJoined (mark_in (new_array g epoch) j) (joined_in (new_array g epoch) j) epoch
    entry_new j =
        elim (cases_lt j g.n) [
          | inl below ↦
              subst₂ (λ (mark : Mark) (joined : ℕ). IsJoined mark joined epoch) (sym (mark_new j below)) (sym (joined_new j below))
              (omega arith, first)
          | inr past ↦
              subst₂ (λ (mark : Mark) (joined : ℕ). IsJoined mark joined epoch) (sym (mark_past j past)) (sym (joined_past j past)) refl
        ]

    array_formed : IsConfiguration (new_array g epoch)
    array_formed = record {
      limits = limits;
      begun = first;
      entries = λ k k_in. entry_new k;
      absent = λ k past k_in. mark_past k past;
    }

    pub super_formed_new : (j : ℕ) → j < g.n → IsSuperblock (new_super g epoch j)
    super_formed_new j below = record {
      sizes = record {
        id = id;
        draw = short;
        marks = length_first g.n Live Down (omega (arith, limits.devices));
        joins = length_first g.n 1 0 (omega (arith, limits.devices));
        label = record { short = omega arith; printable = All-nil IsPrintable };
      };
      rules = record {
        array = array_formed;
        slot_in = below;
        drawn = omega arith;
        here = λ down. let never : Live ≡ Down = sym (mark_new j below) ∙ down in cc;
        own = sym (joined_new j below);
      };
    }

    pub super_spelled : (j : ℕ) → j < g.n → SpellsSuperblock (spelled (new_super g epoch j)) (new_super g epoch j)
    super_spelled j below = spells (new_super g epoch j) (super_formed_new j below)

    pub member_new : IsMembership (new_member g epoch)
    member_new = record {
      sizes = record {
        id = id;
        drawn = short;
        marks = length_first g.n Live Down (omega (arith, limits.devices));
        joins = length_first g.n 1 0 (omega (arith, limits.devices));
        label = record { short = omega arith; printable = All-nil IsPrintable };
        whys = length-replicate 32 why.Here;
        places = length-replicate {A = ℕ} 32 0;
      };
      array = array_formed;
      known = omega arith;
      absent = λ j past within. why_new j;
      marked = λ j below. subst (λ (w : Why). IsMarkedFor w (mark_in (new_array g epoch) j)) (sym (why_new j)) (mark_new j below);
      places = λ j within. let place : place_of (new_member g epoch) j ≡ 0 = place_new j in omega (arith, place);
    }

    pub whole_new : IsWhole (new_member g epoch)
    whole_new = record { member = member_new; live = λ j below. why_new j; marks = mark_new }

-- A RACK THAT WAS JUST MADE

-- attaching the first slots leaves the others as they were
apart_from : (h : List Happening) (n j : ℕ) → n ≤ j → slot_state (attaches n ++ h) j ≡ slot_state h j
apart_from h zero j past = refl
apart_from h (suc n) j past =
    cond-false _ _ _ (ne_eqb n j (λ same. omega (arith, past, same))) ∙ apart_from h n j (omega (arith, past))

pub stopped_as : (h : List Happening) (n : ℕ) → stopped (attaches n ++ h) ≡ stopped h
stopped_as h zero = refl
stopped_as h (suc n) = stopped_as h n

attached_then : (h : List Happening) (n j : ℕ) → j < n → slot_state (attaches n ++ h) j ≡ after_call (Attach reply.Done) (slot_state h j)
attached_then h zero j below = absurd (omega (arith, below))
attached_then h (suc n) j below =
    elim (cases_eq n j) [
      | inl same ↦
          cond-true _ _ _ (eq-eqb n j same)
          ∙ ap (λ (b : SlotState). after_call (Attach reply.Done) b) (apart_from h n j (omega (arith, same)))
      | inr other ↦ cond-false _ _ _ (ne_eqb n j other) ∙ attached_then h n j (omega (arith, below, other))
    ]

-- an attach is answered so by a slot that holds a medium
answered_done : (h : List Happening) (j : ℕ) → IsSome (slot_state h j).size → stopped h ≡ false → IsAnswered h j (Attach reply.Done)
answered_done h j some off =
    sym
    (ap (λ (there : Bool). reply_if (there && not (stopped h))) some
    ∙ ap (λ (stop : Bool). reply_if (true && not stop)) off)

-- attaching slots with media is honest
attaches_run : (h : List Happening) (n : ℕ) → ((j : ℕ) → j < n → IsSome (slot_state h j).size) → stopped h ≡ false → Runs any_call (attaches n) h
attaches_run h zero media off = tt
attaches_run h (suc n) media off = (
  attaches_run h n (λ j below. media j (omega (arith, below))) off,
  inr (
    tt,
    answered_done (attaches n ++ h) n
        (subst (λ (b : SlotState). IsSome b.size) (sym (apart_from h n n (omega arith))) (media n (omega arith))) (stopped_as h n ∙ off),
  ),
)

module _ (g : Geometry) (epoch : ℕ) where
  device_at : (j : ℕ) → j < g.n → new_image g epoch j ≡ new_device g epoch j
  device_at j below = cond-true _ _ _ (lt-ltb j g.n below)

  pub new_run : Ran any_call (new_rack g epoch) (opened_rack g epoch)
  new_run = record {
    more = attaches g.n;
    is = refl;
    runs = attaches_run (new_rack g epoch) g.n (λ j below. subst (λ (slot : SlotImage). IsSome slot.size) (sym (device_at j below)) refl) refl;
  }

  abbrev opened_slot : ℕ → SlotState
  opened_slot j = after_call (Attach reply.Done) (made (new_device g epoch j))

  pub slot_at : (j : ℕ) → j < g.n → slot_state (opened_rack g epoch) j ≡ opened_slot j
  slot_at j below =
      attached_then (new_rack g epoch) g.n j below
      ∙ ap (λ (slot : SlotImage). after_call (Attach reply.Done) (made slot)) (device_at j below)

  pub sector_at : (j k : ℕ) → j < g.n → k < sectors_needed g
      → (slot_state (opened_rack g epoch) j).sector k ≡ settled (Good (new_sector g epoch j k))
  sector_at j k below needed =
      ap (λ (b : SlotState). b.sector k) (slot_at j below) ∙ cond-true _ _ _ (lt-ltb k (sectors_needed g) needed)

  pub sector_past : (j k : ℕ) → g.n ≤ j → (slot_state (opened_rack g epoch) j).sector k ≡ damaged
  sector_past j k past =
      ap (λ (b : SlotState). b.sector k) (apart_from (new_rack g epoch) g.n j past)
      ∙ ap (λ (slot : SlotImage). (made slot).sector k) (cond-false _ _ _ (le-ltb j g.n past))

  pub attached_at : (j : ℕ) → j < g.n → IsAttached (opened_rack g epoch) j
  attached_at j below = ap (λ (b : SlotState). b.attached) (slot_at j below)

  pub size_at : (j : ℕ) → j < g.n → (slot_state (opened_rack g epoch) j).size ≡ Some (sectors_needed g)
  size_at j below = ap (λ (b : SlotState). b.size) (slot_at j below)

  held_at : (j : ℕ) → j < g.n → IsHeld (new_rack g epoch) (opened_rack g epoch) j
  held_at j below =
      InUse (attached_at j below) (subst (λ (size : Option ℕ). IsSome size) (sym (size_at j below)) refl) (omega arith)

  large_at : (j : ℕ) → j < g.n → IsLargeEnough g (slot_state (opened_rack g epoch) j).size
  large_at j below k needed =
      subst (λ (size : Option ℕ). IsTrue (has_sector size k)) (sym (size_at j below)) (lt-ltb k (sectors_needed g) needed)

  -- what lies where
  first_at : (j : ℕ) → new_sector g epoch j 0 ≡ spelled (new_super g 1 j)
  first_at j = refl

  second_at : (j : ℕ) → new_sector g epoch j 1 ≡ spelled (new_super g epoch j)
  second_at j = refl

  gate_at : (j : ℕ) → new_sector g epoch j gate_sector ≡ closed_gate
  gate_at j = refl

  behind_at : (j k : ℕ) → gate_sector < k → new_sector g epoch j k ≡ zero_block
  behind_at j k behind =
      cond-false _ _ _ (le-ltb k gate_sector (omega arith)) ∙ cond-false _ _ _ (ne_eqb k gate_sector (λ same. omega arith))

  module _ (limits : IsWithinLimits g) (id : length g.id ≡ 16) (first : 1 ≤ epoch) (short : epoch < 2 ^ 64) where
    own_at : (j : ℕ) → j < g.n → HasOwn (new_member g epoch) (opened_rack g epoch) j
    own_at j below = record {
      draw = epoch;
      reached = omega arith;
      seen = omega arith;
      own =
          inr
          (ap (λ (place : ℕ). (slot_state (opened_rack g epoch) j).sector (1 - place)) (place_new g epoch j)
          ∙ sector_at j 1 below (omega arith)
          ∙ ap (λ (s : Superblock). settled (Good (spelled s))) (sym (own_new g epoch j below)));
      newest = λ other holds older.
          not_newer other
          (subst (λ (place : ℕ). HoldsSuper (content ((slot_state (opened_rack g epoch) j).sector place)) other) (place_new g epoch j) holds)
          older;
      settled_both = λ k place. ap (λ (s : Sector). s.since) (sector_at j k below (omega (arith, place)));
    }
      where
        not_newer : (other : Superblock) → HoldsSuper (content ((slot_state (opened_rack g epoch) j).sector 0)) other
            → ¬ IsOlder (own_super (new_member g epoch) epoch j) other
        not_newer other holds older =
            let holds_it : HoldsSuper (Good (spelled (new_super g 1 j))) other =
            subst (λ (s : Sector). HoldsSuper (content s) other) (sector_at j 0 below (omega arith)) holds in
            let is : other ≡ new_super g 1 j =
            holds_once (Good (spelled (new_super g 1 j))) other (new_super g 1 j) holds_it
            (record { bytes = spelled (new_super g 1 j); good = refl; spells = super_spelled g 1 limits id (omega arith) (omega arith) j below }) in
            by (subst (λ (s : Superblock). IsOlder (own_super (new_member g epoch) epoch j) s) is older)
          where
            by : IsOlder (own_super (new_member g epoch) epoch j) (new_super g 1 j) → ⊥
            by (inl less) = omega (arith, less, first)
            by (inr both) = omega (arith, both.1, first)

    pub new_at : (j : ℕ) → j < g.n → IsNewIn (new_member g epoch) (new_rack g epoch) (opened_rack g epoch) j
    new_at j below = record {
      held = held_at j below;
      large = large_at j below;
      own = own_at j below;
      gate = sector_at j gate_sector below (omega arith);
      chunks = λ t i t_in i_in.
          sector_at j (cell_sector g t i) below (sector_in_range g (Chunk t i) limits (t_in, i_in))
          ∙ ap (λ (bytes : List ℕ). settled (Good bytes)) (behind_at j (cell_sector g t i) (omega arith));
    }

    pub not_empty : IsOpenWith (new_rack g epoch) (array_of (new_member g epoch)) (new_words g) (opened_rack g epoch)
    not_empty =
        opens_new (new_member g epoch) (new_rack g epoch) (opened_rack g epoch) (whole_new g epoch limits id first short) new_run new_at

-- ITS STATE

zero_bytes : (g : Geometry) (p i j : ℕ) → p < SECTOR → i < g.r → j < g.n → byte_of (zero_stripe g) p i j ≡ 0
zero_bytes g p i j p_in row chunk =
    ap (λ (bytes : List ℕ). slice_index bytes p) (cell-zero_stripe g i j row chunk) ∙ get_or-replicate SECTOR p 0 0 p_in

-- the stripe of zeros encodes blocks of zeros
zeros_encode : (g : Geometry) → IsWithinLimits g → AreEncodingsOf g zero_blocks (new_words g)
zeros_encode g limits = record {
  each = λ t t_in.
      encodes_blocks g zero_blocks t (zero_stripe g) limits (record { rows = refl; chunks = refl })
      (record {
        count = length-replicate {A = List ℕ} (g.r * g.n) (replicate SECTOR 0);
        sectors = All-replicate IsSector (g.r * g.n) (replicate SECTOR 0) (filled-IsSector 0 (omega arith));
      })
      (record {
        words = λ p p_in.
            MeetsEquations-same g (byte_of (zero_stripe g) p) (λ i j. 0) limits (λ i j row chunk. zero_bytes g p i j p_in row chunk)
            (MeetsEquations-zero g);
      })
      (λ i j d row chunk is. cell-zero_stripe g i j row chunk);
}

seat_new : (g : Geometry) (epoch j : ℕ) → seats_in (new_array g epoch) j ≡ first_seats g j
seat_new g epoch j =
    elim (cases_lt j g.n) [
      | inl below ↦
          same_seat (mark_in (new_array g epoch) j) Live (joined_in (new_array g epoch) j) 1 (mark_new g epoch j below) (joined_new g epoch j below)
          ∙ sym (cond-true _ _ _ (lt-ltb j g.n below))
      | inr past ↦
          same_seat (mark_in (new_array g epoch) j) Down (joined_in (new_array g epoch) j) 0 (mark_past g epoch j past) (joined_past g epoch j past)
          ∙ sym (cond-false _ _ _ (le-ltb j g.n past))
    ]

pub new_content : (g : Geometry) (epoch : ℕ) → IsWithinLimits g → IsOfContent (new_member g epoch) (new_words g) first_content
new_content g epoch limits = record { encodings = zeros_encode g limits; frozen = refl; label = refl }

pub new_state : (g : Geometry) (epoch : ℕ) → state_with (new_member g epoch) first_content None (new_array g epoch) ≡ created_state g
new_state g epoch i = record (created_state g) { seats = Some (λ j. seat_new g epoch j i) }

pub all_here : (g : Geometry) (epoch j : ℕ) → j < g.n → IsLiveIn (new_member g epoch) j × IsAttached (opened_rack g epoch) j
all_here g epoch j below = (record { below = below; why = why_new g epoch j }, attached_at g epoch j below)
