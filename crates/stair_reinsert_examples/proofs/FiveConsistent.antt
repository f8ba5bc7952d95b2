-- A rack of five devices whose superblocks a cut epoch left is consistent under reassembly, and holds zeros.
use Rattle.std.proofs.Common.{◌≡◌, ◌≢◌, ℕ, ◌<◌, ◌≤◌, List, [], ◌∷◌, inl, inr, refl, sym, ap, ◌∙◌, subst, subst₂, arith, Option, Some, None, slice_get, false}
use Rattle.std.proofs.lemmas.Bool.{cases_lt, cond-true, cond-false, false≢true, lt-ltb, le-ltb}
use Rattle.stair_model.specs.Device.{cell_sector, gate_sector}
use Rattle.stair_model.specs.Stripe.{cell}
use Rattle.stair_rack.specs.History.{Made}
use Rattle.stair_rack.specs.Media.{Image, Medium, SlotImage, has_sector}
use Rattle.stair_rack.specs.Sector.{Cell}
use Rattle.stair_super.specs.Superblock.{Superblock, joined_in, mark_in, joined_at, mark_at}
use Rattle.stair_super.specs.declared.configuration.Configuration.{Configuration}
use Rattle.stair_super.specs.declared.mark.Mark.TheVariants.{Down, Live, Rebuilding}
use Rattle.stair_member.specs.Counting.{AllBut}
use Rattle.stair_member.specs.Editions.{Edition, copy_of}
use Rattle.stair_member.specs.Reserve.{Bears}
use Rattle.stair_member.specs.Superblocks.{First, IsSuperOf, Second}
use Rattle.stair_member.proofs.CountingLemmas.{all_but_mapped}
use Rattle.stair_journal.specs.Body.{Harmed, Holds, IsOrDamaged}
use Rattle.stair_journal.specs.Gate.{ReadsClosed}
use Rattle.stair_journal.proofs.GateLemmas.{closed}
use Rattle.stair_state.specs.Blocks.{AreEncodingsOf, Codewords, zero_blocks}
use Rattle.stair_state.specs.Degraded.{AreDamagedCopies}
use Rattle.stair_state.specs.Forms.{IdleOld}
use Rattle.stair_state.specs.Holding.{CurrentMediumReserved, CurrentMedia, IsBorneSince, IsConsistentBy, IsConsistentUnderReassembly}
use Rattle.stair_state.specs.Reassembly.{InSlot, IsBorne, IsMediumOf, IsReassembly, Location, Outside}
use Rattle.stair_state.specs.Represents.{Encodings}
use Rattle.stair_state.specs.State.{State, created_state, without_seats}
use Rattle.stair_state.proofs.AloneLemmas.{IsImageTidy, each_left, steady_made}
use Rattle.stair_state.proofs.FormLemmas.{good_whole}
use Rattle.stair_state.proofs.ReassembledLemmas.{IsBorneFrom, from_slot}
use Rattle.stair_reinsert.specs.Misled.{device_cell, five, rack_of}
use Rattle.stair_reinsert_examples.proofs.FiveDevices.{AreEditions, Bare, InPlace, IsDevice, Shows, borne_own, chunk_cell, gate_cell, past_cell}

-- the array
abbrev pub zeros : State
zeros = without_seats (created_state five)

module _ (words : Codewords) (editions : ℕ → Edition) where
  abbrev pub image : Image
  image = rack_of words editions

  abbrev pub device_slot : ℕ → SlotImage
  device_slot j = record { size = Some 9; cell = device_cell words editions j; removed = [] }

  pub inside : (j : ℕ) → j < 5 → image j ≡ device_slot j
  inside j below = cond-true _ _ _ (lt-ltb j 5 below)

  pub in_place : (j : ℕ) → j < 5 → IsDevice words editions image j
  in_place j below = record { below = below; cells = λ k. ap (λ (slot : SlotImage). slot.cell k) (inside j below) }

  pub made_shows : (j : ℕ) → Shows words editions image j
  made_shows j =
      elim (cases_lt j 5) [
        | inl below ↦ InPlace (in_place j below)
        | inr past ↦ Bare (λ k. ap (λ (slot : SlotImage). slot.cell k) (cond-false _ _ _ (le-ltb j 5 past)))
      ]

  none_outside : (j : ℕ) → (image j).removed ≡ []
  none_outside j =
      elim (cases_lt j 5) [
        | inl below ↦ ap (λ (slot : SlotImage). slot.removed) (inside j below)
        | inr past ↦ ap (λ (slot : SlotImage). slot.removed) (cond-false _ _ _ (le-ltb j 5 past))
      ]

  pub made_tidy : IsImageTidy image
  made_tidy j k beyond =
      elim (cases_lt j 5) [
        | inl below ↦
            elim (cases_lt k 9) [
              | inl small ↦
                  absurd
                  (false≢true
                  (sym (sym (ap (λ (slot : SlotImage). has_sector slot.size k) (inside j below)) ∙ beyond) ∙ lt-ltb k 9 small))
              | inr past ↦ ap (λ (slot : SlotImage). slot.cell k) (inside j below) ∙ past_cell words editions j k past
            ]
        | inr past ↦ ap (λ (slot : SlotImage). slot.cell k) (cond-false _ _ _ (le-ltb j 5 past))
      ]

  -- What an epoch leaves that was cut: `since` still stands, and a later one may be on some.
  pub record IsCut (current_media : CurrentMedia) (since : ℕ) : Type 0 where
    pub least : (j : ℕ) → j < 5 → since ≤ (editions j).array.epoch
    pub drawn : AllBut 5 2 (λ j. (i : ℕ) → i < 5 → (editions i).array.epoch ≤ (editions j).draw)
    pub held : (i j : ℕ) → i < 5 → mark_in (editions i).array j ≢ Down → current_media j ≡ Some (joined_in (editions i).array j)
    pub frozen : (j : ℕ) → j < 5 → (editions j).array.frozen ≡ false
    pub label : (j : ℕ) → j < 5 → (editions j).array.label ≡ []
    pub one : (i j : ℕ) → i < 5 → j < 5 → (editions i).array.epoch ≡ (editions j).array.epoch → (editions i).array ≡ (editions j).array

  module _ (are : AreEditions words editions) (encoded : AreEncodingsOf five zero_blocks words) (current_media : CurrentMedia) (since : ℕ)
      (cut : IsCut current_media since) where
    -- WHAT IS BORNE

    record IsOwn (i : ℕ) (p : Location) (a : Superblock) : Type 0 where
      below : i < 5
      place : p ≡ InSlot
      is : a ≡ copy_of (editions i) i

    medium_own : (i : ℕ) (p : Location) (medium : Medium) (a : Superblock) → IsMediumOf (image i) p medium → Bears five i medium.cell a → IsOwn i p a
    medium_own i InSlot medium a is bears =
        let own = borne_own words editions are image five i a (made_shows i) (subst (λ (cells : ℕ → Cell). Bears five i cells a) (sym is.1) bears) in
        record { below = own.device.below; place = refl; is = own.is }
    medium_own i (Outside l) medium a is bears =
        let none : ◌≡◌ {A = Option Medium} None (Some medium) = sym (ap (λ (xs : List Medium). slice_get xs l) (none_outside i)) ∙ is in absurd (cc)

    own : (i : ℕ) (p : Location) (a : Superblock) → IsBorne five image i p a → IsOwn i p a
    own i p a borne = medium_own i p borne.medium a borne.is_one borne.bears

    array_of : (i : ℕ) (p : Location) (a : Superblock) → IsBorne five image i p a → a.array ≡ (editions i).array
    array_of i p a borne = ap (λ (t : Superblock). t.array) (own i p a borne).is

    -- REASSEMBLED DEVICES

    copies_of : (to : Image) (j : ℕ) (a : Superblock) → IsReassembly image to → Bears five j ((to j).cell) a
        → AreDamagedCopies (device_cell words editions j) ((to j).cell) × ((to j).size ≡ Some 9)
    copies_of to j a reassembly bears = by (from_slot five image to j a (reassembly j) bears)
      where
        by : IsBorneFrom five image to j a → AreDamagedCopies (device_cell words editions j) ((to j).cell) × ((to j).size ≡ Some 9)
        by from = lying from.place from.is_one (medium_own j from.place from.medium a from.is_one from.bears)
          where
            lying : (p : Location) → IsMediumOf (image j) p from.medium → IsOwn j p a
                → AreDamagedCopies (device_cell words editions j) ((to j).cell) × ((to j).size ≡ Some 9)
            lying InSlot is of = (
              λ k. elim (from.copies k) [
                | inl same ↦ inl (same ∙ ap (λ (cells : ℕ → Cell). cells k) (sym is.1) ∙ (in_place j of.below).cells k)
                | inr harmed ↦ inr harmed
              ],
              from.size ∙ sym is.0 ∙ size_there of.below,
            )
              where
                size_there : j < 5 → (image j).size ≡ Some 9
                size_there below = ap (λ (slot : SlotImage). slot.size) (cond-true _ _ _ (lt-ltb j 5 below))
            lying (Outside l) is of = let none : Outside l ≡ InSlot = of.place in absurd (cc)

    shut : (to : Image) (j : ℕ) (a : Superblock) → IsReassembly image to → Bears five j ((to j).cell) a → ReadsClosed five ((to j).cell gate_sector)
    shut to j a reassembly bears =
        elim ((copies_of to j a reassembly bears).0 gate_sector) [
          | inl same ↦ subst (ReadsClosed five) (sym (same ∙ gate_cell words editions j)) (closed five)
          | inr harmed ↦ λ redo opened. good_whole opened.good harmed
        ]

    encodes : (to : Image) (t i j : ℕ) (a : Superblock) → IsReassembly image to → Bears five j ((to j).cell) a → t < 1 → i < 1
        → IsOrDamaged (cell (words t) i j) ((to j).cell (cell_sector five t i))
    encodes to t i j a reassembly bears t_in i_in =
        subst₂ (λ (x y : ℕ). IsOrDamaged (cell (words x) y j) ((to j).cell (cell_sector five x y))) (omega (arith, t_in)) (omega (arith, i_in)) at_zero
      where
        at_zero : IsOrDamaged (cell (words 0) 0 j) ((to j).cell (cell_sector five 0 0))
        at_zero =
            elim ((copies_of to j a reassembly bears).0 8) [
              | inl same ↦ Holds (same ∙ chunk_cell words editions j)
              | inr harmed ↦ Harmed harmed
            ]

    super_bears : {cells : ℕ → Cell} {j : ℕ} (x : Superblock) → IsSuperOf cells x → x.slot ≡ j → x.array.geometry ≡ five → Bears five j cells x
    super_bears x (First holds rest) slot geometry =
        record { place = 0; place_in = omega arith; holds = holds; slot = slot; identity = geometry }
    super_bears x (Second holds rest) slot geometry =
        record { place = 1; place_in = omega arith; holds = holds; slot = slot; identity = geometry }

    abbrev encodings : Encodings zeros
    encodings = record { old = words; new = words; old_are = encoded; new_are = encoded }

    since_own : (a : Superblock) → IsBorneSince five since image a → (i : ℕ) × (i < 5) × (a.array ≡ (editions i).array)
    since_own a borne = (borne.slot, (own borne.slot borne.place a borne.borne).below, array_of borne.slot borne.place a borne.borne)

    -- a slot that isn't marked Down has the holder that is meant
    held_since : (a : Superblock) → IsBorneSince five since image a → (j : ℕ) → mark_at a j ≢ Down → current_media j ≡ Some (joined_at a j)
    held_since a borne j up =
        let it = since_own a borne in
        cut.held it.0 j it.1 (λ down. up (ap (λ (c : Configuration). mark_in c j) it.2 ∙ down))
        ∙ ap (λ (c : Configuration). Some (joined_in c j)) (sym it.2)

    by_current_media : IsConsistentBy zeros encodings current_media since image
    by_current_media = record {
      overtaken = λ i p a borne earlier.
          let least = cut.least i (own i p a borne).below in
          let epoch : a.array.epoch ≡ (editions i).array.epoch = ap (λ (c : Configuration). c.epoch) (array_of i p a borne) in
          absurd (omega (arith, least, epoch, earlier));
      reserved =
          all_but_mapped {P = λ j. (i : ℕ) → i < 5 → (editions i).array.epoch ≤ (editions j).draw} {Q = CurrentMediumReserved five current_media image}
          (λ j below drawn joined current_medium p medium x is super slot geometry same first second i q t borne.
          let draw : x.draw ≡ (editions j).draw =
          ap (λ (y : Superblock). y.draw) (medium_own j p medium x is (super_bears x super slot geometry)).is in
          let epoch : t.array.epoch ≡ (editions i).array.epoch = ap (λ (c : Configuration). c.epoch) (array_of i q t borne) in
          let upto : (editions i).array.epoch ≤ (editions j).draw = drawn i (own i q t borne).below in
          omega (arith, draw, epoch, upto)) cut.drawn;
      live = λ j a borne marked.
          held_since a borne j (λ down. let never : Live ≡ Down = sym marked ∙ down in cc);
      rebuilt = λ j joined a borne marked current_medium.
          let same : Some joined ≡ Some (joined_at a j) =
          sym current_medium ∙ held_since a borne j (λ down. let never : Rebuilding ≡ Down = sym marked ∙ down in cc) in
          cc;
      frozen = λ a borne. let it = since_own a borne in inl (ap (λ (c : Configuration). c.frozen) it.2 ∙ cut.frozen it.0 it.1);
      label = λ a borne. let it = since_own a borne in inl (ap (λ (c : Configuration). c.label) it.2 ∙ cut.label it.0 it.1);
      forms = λ to some reassembly have gate. record {
        one_redo = λ i j a b on also open_i open_j. absurd (shut to i (have i on).super reassembly (have i on).bears a open_i);
        form = IdleOld (record {
          encodes = λ t i j t_in i_in j_in on. encodes to t i j (have j on).super reassembly (have j on).bears t_in i_in;
          body = λ j redo on opened. absurd (shut to j (have j on).super reassembly (have j on).bears redo opened);
        });
      };
      full = λ to j reassembly current_medium k small.
          ap (λ (o : Option ℕ). has_sector o k) (copies_of to j current_medium.super reassembly current_medium.bears).1 ∙ lt-ltb k 9 small;
      rebuilding = λ to j a b redo reassembly borne marked bears same. shut to j b reassembly bears redo;
      one_list = λ i j p q a b first second same.
          array_of i p a first
          ∙ cut.one i j (own i p a first).below (own j q b second).below
          (sym (ap (λ (c : Configuration). c.epoch) (array_of i p a first)) ∙ same ∙ ap (λ (c : Configuration). c.epoch) (array_of j q b second))
          ∙ sym (array_of j q b second);
      own_joined = λ j p q a b first second same. (own j p a first).place ∙ sym (own j q b second).place;
    }

    pub made_consistent : IsConsistentUnderReassembly zeros (Made image ∷ [])
    made_consistent = record {
      current_media = current_media;
      since = since;
      is = record {
        encodings = encodings;
        each = each_left image made_tidy (IsConsistentBy zeros encodings current_media since) by_current_media;
        seats = tt;
        steady = steady_made five image;
      };
    }
