-- A rack of five devices on which an epoch stands that leaves one slot out is consistent under reassembly, whatever lies in that
-- slot and outside of it.
use Rattle.std.proofs.Common.{◌≡◌, ◌≢◌, ℕ, ◌<◌, ◌≤◌, [], ◌∷◌, inl, inr, refl, sym, ap, ◌∙◌, subst, subst₂, arith, Option, Some, None, false}
use Rattle.std.specs.Prelude.{if◌then◌else◌, ◌==◌}
use Rattle.std.proofs.lemmas.Bool.{cases_eq, cond-true, cond-false, eq-eqb, lt-ltb, ne_eqb}
use Rattle.stair_model.specs.Device.{cell_sector, gate_sector}
use Rattle.stair_model.specs.Slots.{HasSlot, IsSlotSet, Slots, slot_count}
use Rattle.stair_model.specs.Stripe.{cell}
use Rattle.stair_rack.specs.History.{Made}
use Rattle.stair_rack.specs.Media.{Image, Medium, has_sector}
use Rattle.stair_rack.specs.Sector.{Cell, Good}
use Rattle.stair_super.specs.Spelling.{spelled}
use Rattle.stair_super.specs.Superblock.{IsSuperblock, Superblock, joined_at, joined_in, mark_at, mark_in}
use Rattle.stair_super.specs.declared.configuration.Configuration.{Configuration}
use Rattle.stair_super.specs.declared.mark.Mark.TheVariants.{Down, Live, Rebuilding}
use Rattle.stair_member.specs.Counting.{AllBut}
use Rattle.stair_member.specs.Editions.{Edition, copy_of}
use Rattle.stair_member.specs.Reserve.{Bears}
use Rattle.stair_member.specs.Superblocks.{First, IsSuperOf, Second}
use Rattle.stair_member.proofs.EditionLemmas.{holds_copy}
use Rattle.stair_member.proofs.SuperLemmas.{holds_once}
use Rattle.stair_journal.specs.Body.{Harmed, Holds, IsOrDamaged}
use Rattle.stair_journal.specs.Gate.{ReadsClosed, closed_gate}
use Rattle.stair_journal.proofs.GateLemmas.{closed}
use Rattle.stair_state.specs.Blocks.{AreEncodingsOf, Codewords, zero_blocks}
use Rattle.stair_state.specs.Degraded.{AreDamagedCopies}
use Rattle.stair_state.specs.Forms.{IdleOld}
use Rattle.stair_state.specs.Holding.{CurrentMediumReserved, HasOvertaken, CurrentMedia, IsBorneSince, IsConsistentBy, IsConsistentUnderReassembly, IsCurrentMedium}
use Rattle.stair_state.specs.Reassembly.{InSlot, IsBorne, IsMediumOf, IsReassembly, Location}
use Rattle.stair_state.specs.Represents.{Encodings}
use Rattle.stair_state.proofs.AloneLemmas.{IsImageTidy, each_left, steady_made}
use Rattle.stair_state.proofs.FormLemmas.{good_whole}
use Rattle.stair_state.proofs.ReassembledLemmas.{IsBorneFrom, from_slot}
use Rattle.stair_reinsert.specs.Misled.{five}
use Rattle.stair_reinsert_examples.proofs.FiveConsistent.{zeros}

-- a medium of slot j has its superblock of the edition in both places
pub record HasBoth (m : Medium) (e : Edition) (j : ℕ) : Type 0 where
  pub below : j < 5
  pub formed : IsSuperblock (copy_of e j)
  pub of_five : e.array.geometry ≡ five
  pub places : (k : ℕ) → k < 2 → m.cell k ≡ Good (spelled (copy_of e j))

pub bears_own : (m : Medium) (e : Edition) (j : ℕ) (a : Superblock) → HasBoth m e j → Bears five j m.cell a → a ≡ copy_of e j
bears_own m e j a both bears =
    holds_once (m.cell bears.place) a (copy_of e j) bears.holds (holds_copy (m.cell bears.place) e j both.formed (both.places bears.place bears.place_in))

pub super_bears : {cells : ℕ → Cell} {j : ℕ} (x : Superblock) → IsSuperOf cells x → x.slot ≡ j → x.array.geometry ≡ five → Bears five j cells x
super_bears x (First holds rest) slot geometry =
    record { place = 0; place_in = omega arith; holds = holds; slot = slot; identity = geometry }
super_bears x (Second holds rest) slot geometry =
    record { place = 1; place_in = omega arith; holds = holds; slot = slot; identity = geometry }

-- a device of an array that holds these stripes, at rest
pub record IsAtRest (words : Codewords) (e : Edition) (j : ℕ) (p : Location) (m : Medium) : Type 0 where
  pub place : p ≡ InSlot
  pub both : HasBoth m e j
  pub size : m.size ≡ 9
  pub gate : m.cell gate_sector ≡ Good closed_gate
  pub chunk : m.cell 8 ≡ Good (cell (words 0) 0 j)

module _ (words : Codewords) (image : Image) (e : Edition) (away : ℕ) (stale : Location → Edition) where
  -- The epoch of e stands on all slots but this one, whose media have superblocks of earlier ones.
  pub record HasStood : Type 0 where
    pub tidy : IsImageTidy image
    pub kept : (j : ℕ) (p : Location) (m : Medium) → j ≢ away → IsMediumOf (image j) p m → IsAtRest words e j p m
    pub old : (p : Location) (m : Medium) → IsMediumOf (image away) p m → HasBoth m (stale p) away
    pub earlier : (p : Location) (m : Medium) → IsMediumOf (image away) p m → (stale p).array.epoch < e.array.epoch
    pub one : (p q : Location) (m n : Medium) → IsMediumOf (image away) p m → IsMediumOf (image away) q n
        → (stale p).array.epoch ≡ (stale q).array.epoch → (stale p).array ≡ (stale q).array
    pub apart : (p q : Location) (m n : Medium) → IsMediumOf (image away) p m → IsMediumOf (image away) q n
        → joined_in (stale p).array away ≡ joined_in (stale q).array away → p ≡ q
    pub drawn : e.array.epoch ≤ e.draw
    pub down : mark_in e.array away ≡ Down
    pub none_rebuilt : (j : ℕ) → mark_in e.array j ≢ Rebuilding
    pub frozen : e.array.frozen ≡ false
    pub label : e.array.label ≡ []

  module _ (encoded : AreEncodingsOf five zero_blocks words) (stood : HasStood) (alone : Slots) (formed : IsSlotSet alone)
      (few : slot_count alone ≤ 2) (has : HasSlot alone away) where
    -- WHAT IS BORNE

    data IsOwn (i : ℕ) (p : Location) (a : Superblock) : Type 0 where
      Stale : i ≡ away → (m : Medium) → IsMediumOf (image away) p m → a ≡ copy_of (stale p) away → IsOwn i p a
      Kept : i ≢ away → p ≡ InSlot → a ≡ copy_of e i → IsOwn i p a

    own : (i : ℕ) (p : Location) (a : Superblock) → IsBorne five image i p a → IsOwn i p a
    own i p a borne =
        elim (cases_eq i away) [
          | inl same ↦
              let is : IsMediumOf (image away) p borne.medium = subst (λ (x : ℕ). IsMediumOf (image x) p borne.medium) same borne.is_one in
              Stale same borne.medium is
              (bears_own borne.medium (stale p) away a (stood.old p borne.medium is) (subst (λ (x : ℕ). Bears five x borne.medium.cell a) same borne.bears))
          | inr other ↦
              let rest = stood.kept i p borne.medium other borne.is_one in
              Kept other rest.place (bears_own borne.medium e i a rest.both borne.bears)
        ]

    of_kept : (a : Superblock) (i : ℕ) → a ≡ copy_of e i → a.array ≡ e.array
    of_kept a i is = ap (λ (t : Superblock). t.array) is

    of_stale : (a : Superblock) (p : Location) → a ≡ copy_of (stale p) away → a.array ≡ (stale p).array
    of_stale a p is = ap (λ (t : Superblock). t.array) is

    upto : (i : ℕ) (p : Location) (a : Superblock) → IsBorne five image i p a → a.array.epoch ≤ e.array.epoch
    upto i p a borne = by (own i p a borne)
      where
        by : IsOwn i p a → a.array.epoch ≤ e.array.epoch
        by (Stale same m is it) =
            omega (arith, ap (λ (c : Configuration). c.epoch) (of_stale a p it), stood.earlier p m is)
        by (Kept other place it) = omega (arith, ap (λ (c : Configuration). c.epoch) (of_kept a i it))

    since_own : (a : Superblock) → IsBorneSince five e.array.epoch image a → a.array ≡ e.array
    since_own a borne = by (own borne.slot borne.place a borne.borne)
      where
        by : IsOwn borne.slot borne.place a → a.array ≡ e.array
        by (Stale same m is it) =
            absurd (omega (arith, ap (λ (c : Configuration). c.epoch) (of_stale a borne.place it), stood.earlier borne.place m is, borne.since_then))
        by (Kept other place it) = of_kept a borne.slot it

    not_away : (j : ℕ) → ¬ HasSlot alone j → j ≢ away
    not_away j out same = out (subst (HasSlot alone) (sym same) has)

    -- the superblock of a medium of another slot
    super_own : (j : ℕ) (p : Location) (m : Medium) (x : Superblock) → j ≢ away → IsMediumOf (image j) p m → IsSuperOf m.cell x → x.slot ≡ j
        → x.array.geometry ≡ five → x ≡ copy_of e j
    super_own j p m x other is super slot geometry = bears_own m e j x (stood.kept j p m other is).both (super_bears x super slot geometry)

    -- HOLDERS

    abbrev current_media : CurrentMedia
    current_media j = if j == away then None else Some (joined_in e.array j)

    held : (j : ℕ) → j ≢ away → current_media j ≡ Some (joined_in e.array j)
    held j other = cond-false _ _ _ (ne_eqb j away other)

    current_medium_kept : (j joined : ℕ) → current_media j ≡ Some joined → j ≢ away
    current_medium_kept j joined is same =
        let none : current_media away ≡ Some joined = subst (λ (x : ℕ). current_media x ≡ Some joined) same is in
        let nothing : current_media away ≡ None = cond-true _ _ _ (eq-eqb away away refl) in
        let both : ◌≡◌ {A = Option ℕ} None (Some joined) = sym nothing ∙ none in
        absurd (cc)

    record IsKept (to : Image) (j : ℕ) : Type 0 where
      copies : Medium
      rest : IsAtRest words e j InSlot copies
      each : AreDamagedCopies copies.cell ((to j).cell)
      size : (to j).size ≡ Some 9

    current_medium_rest : (to : Image) (j : ℕ) → IsReassembly image to → IsCurrentMedium five current_media j ((to j).cell) → IsKept to j
    current_medium_rest to j reassembly current_medium = by (from_slot five image to j current_medium.super (reassembly j) current_medium.bears)
      where
        by : IsBorneFrom five image to j current_medium.super → IsKept to j
        by from =
            let rest = stood.kept j from.place from.medium (current_medium_kept j current_medium.super.joined current_medium.joined) from.is_one in
            record {
              copies = from.medium;
              rest = record { place = refl; both = rest.both; size = rest.size; gate = rest.gate; chunk = rest.chunk };
              each = from.copies;
              size = from.size ∙ ap Some rest.size;
            }

    shut : (to : Image) (j : ℕ) → IsKept to j → ReadsClosed five ((to j).cell gate_sector)
    shut to j is =
        elim (is.each gate_sector) [
          | inl same ↦ subst (ReadsClosed five) (sym (same ∙ is.rest.gate)) (closed five)
          | inr harmed ↦ λ redo opened. good_whole opened.good harmed
        ]

    encodes : (to : Image) (t i j : ℕ) → IsKept to j → t < 1 → i < 1 → IsOrDamaged (cell (words t) i j) ((to j).cell (cell_sector five t i))
    encodes to t i j is t_in i_in =
        subst₂ (λ (x y : ℕ). IsOrDamaged (cell (words x) y j) ((to j).cell (cell_sector five x y))) (omega (arith, t_in)) (omega (arith, i_in)) at_zero
      where
        at_zero : IsOrDamaged (cell (words 0) 0 j) ((to j).cell (cell_sector five 0 0))
        at_zero =
            elim (is.each 8) [
              | inl same ↦ Holds (same ∙ is.rest.chunk)
              | inr harmed ↦ Harmed harmed
            ]

    -- CONSISTENCY

    never_rebuilt : (j : ℕ) (a : Superblock) → IsBorneSince five e.array.epoch image a → ¬ (mark_at a j ≡ Rebuilding)
    never_rebuilt j a borne marked = stood.none_rebuilt j (sym (ap (λ (c : Configuration). mark_in c j) (since_own a borne)) ∙ marked)

    abbrev encodings : Encodings zeros
    encodings = record { old = words; new = words; old_are = encoded; new_are = encoded }

    overtaken : (i : ℕ) (p : Location) (a : Superblock) → IsBorne five image i p a → a.array.epoch < e.array.epoch → AllBut 5 2 (HasOvertaken five image a)
    overtaken i p a borne before = record {
      exceptions = alone;
      formed = formed;
      few = few;
      others = λ j below out live q m x is super slot geometry joined first second.
          omega (
            arith,
            before,
            ap (λ (t : Superblock). t.array.epoch) (super_own j q m x (not_away j out) is super slot geometry),
          );
    }

    reserved : AllBut 5 2 (CurrentMediumReserved five current_media image)
    reserved = record {
      exceptions = alone;
      formed = formed;
      few = few;
      others = λ j below out joined current_medium q m x is super slot geometry same first second i p t borne.
          omega (
            arith,
            upto i p t borne,
            stood.drawn,
            ap (λ (y : Superblock). y.draw) (super_own j q m x (not_away j out) is super slot geometry),
          );
    }

    live : (j : ℕ) (a : Superblock) → IsBorneSince five e.array.epoch image a → mark_at a j ≡ Live → current_media j ≡ Some (joined_at a j)
    live j a borne marked =
        let same = since_own a borne in
        let up : mark_in e.array j ≡ Live = sym (ap (λ (c : Configuration). mark_in c j) same) ∙ marked in
        let other : j ≢ away = λ is.
        let never : Live ≡ Down = sym up ∙ ap (λ (x : ℕ). mark_in e.array x) is ∙ stood.down in cc in
        held j other ∙ ap (λ (c : Configuration). Some (joined_in c j)) (sym same)

    one_list : (i j : ℕ) (p q : Location) (a b : Superblock) → IsOwn i p a → IsOwn j q b → a.array.epoch ≡ b.array.epoch → a.array ≡ b.array
    one_list i j p q a b (Stale i_is m is it) (Stale j_is n also too) same =
        of_stale a p it
        ∙ stood.one p q m n is also
        (sym (ap (λ (c : Configuration). c.epoch) (of_stale a p it)) ∙ same ∙ ap (λ (c : Configuration). c.epoch) (of_stale b q too))
        ∙ sym (of_stale b q too)
    one_list i j p q a b (Stale i_is m is it) (Kept other place too) same =
        absurd
        (omega (
          arith,
          stood.earlier p m is,
          ap (λ (c : Configuration). c.epoch) (of_stale a p it),
          ap (λ (c : Configuration). c.epoch) (of_kept b j too),
          same,
        ))
    one_list i j p q a b (Kept other place it) (Stale j_is n also too) same =
        absurd
        (omega (
          arith,
          stood.earlier q n also,
          ap (λ (c : Configuration). c.epoch) (of_kept a i it),
          ap (λ (c : Configuration). c.epoch) (of_stale b q too),
          same,
        ))
    one_list i j p q a b (Kept other place it) (Kept others places too) same = of_kept a i it ∙ sym (of_kept b j too)

    own_joined : (j : ℕ) (p q : Location) (a b : Superblock) → IsOwn j p a → IsOwn j q b → a.joined ≡ b.joined → p ≡ q
    own_joined j p q a b (Stale j_is m is it) (Stale again n also too) same =
        stood.apart p q m n is also (sym (ap (λ (t : Superblock). t.joined) it) ∙ same ∙ ap (λ (t : Superblock). t.joined) too)
    own_joined j p q a b (Stale j_is m is it) (Kept other place too) same = absurd (other j_is)
    own_joined j p q a b (Kept other place it) (Stale j_is n also too) same = absurd (other j_is)
    own_joined j p q a b (Kept other place it) (Kept others places too) same = place ∙ sym places

    by_current_media : IsConsistentBy zeros encodings current_media e.array.epoch image
    by_current_media = record {
      overtaken = overtaken;
      reserved = reserved;
      live = live;
      rebuilt = λ j joined a borne marked current_medium. absurd (never_rebuilt j a borne marked);
      frozen = λ a borne. inl (ap (λ (c : Configuration). c.frozen) (since_own a borne) ∙ stood.frozen);
      label = λ a borne. inl (ap (λ (c : Configuration). c.label) (since_own a borne) ∙ stood.label);
      forms = λ to some reassembly have gate. record {
        one_redo = λ i j a b on also open_i open_j. absurd (shut to i (current_medium_rest to i reassembly (have i on)) a open_i);
        form = IdleOld (record {
          encodes = λ t i j t_in i_in j_in on. encodes to t i j (current_medium_rest to j reassembly (have j on)) t_in i_in;
          body = λ j redo on opened. absurd (shut to j (current_medium_rest to j reassembly (have j on)) redo opened);
        });
      };
      full = λ to j reassembly current_medium k small.
          ap (λ (o : Option ℕ). has_sector o k) (current_medium_rest to j reassembly current_medium).size ∙ lt-ltb k 9 small;
      rebuilding = λ to j a b redo reassembly borne marked bears same. absurd (never_rebuilt j a borne marked);
      one_list = λ i j p q a b first second same. one_list i j p q a b (own i p a first) (own j q b second) same;
      own_joined = λ j p q a b first second same. own_joined j p q a b (own j p a first) (own j q b second) same;
    }

    pub stood_consistent : IsConsistentUnderReassembly zeros (Made image ∷ [])
    stood_consistent = record {
      current_media = current_media;
      since = e.array.epoch;
      is = record {
        encodings = encodings;
        each = each_left image stood.tidy (IsConsistentBy zeros encodings current_media e.array.epoch) by_current_media;
        seats = tt;
        steady = steady_made five image;
      };
    }
