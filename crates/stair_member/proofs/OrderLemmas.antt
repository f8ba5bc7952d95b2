-- The superblocks that a crash may leave while an epoch is established are in order.
use Rattle.std.proofs.Common.{◌≡◌, ◌≢◌, ℕ, suc, ◌+◌, ◌-◌, ◌<◌, ◌≤◌, List, [], ◌∷◌, ◌⊎◌, inl, inr, refl, sym, ap, ◌∙◌, subst, arith, Option, None, Some, false}
use Rattle.std.specs.Prelude.{All, Contains, IsSome}
use Rattle.std.proofs.lemmas.Bool.{cases_eq, cases_lt}
use Rattle.std.proofs.lemmas.List.Elements.{All-cons, All-contains, All-nil, All-weaker}
use Rattle.stair_model.specs.Slots.{Slots, HasSlot}
use Rattle.stair_rack.specs.Answers.{is_good}
use Rattle.stair_rack.specs.Crash.{CrashMayLeave, image_now}
use Rattle.stair_rack.specs.History.{Happening, IsTidy, SlotState, slot_state}
use Rattle.stair_rack.specs.Media.{Image, has_sector}
use Rattle.stair_rack.specs.Offline.{IsKept, Here, Lost}
use Rattle.stair_rack.specs.Sector.{Cell, Good, Damaged, Sector, LeftOf, MayLeave, content, settled, torn}
use Rattle.stair_rack.proofs.CrashLemmas.{nothing_unsynced, settled_left}
use Rattle.stair_rack.proofs.KeptLemmas.{IsKept-mapped}
use Rattle.stair_rack.proofs.MomentLemmas.{at_moment}
use Rattle.stair_rack.proofs.TidyLemmas.{history_tidy}
use Rattle.stair_super.specs.Newer.{IsOlder}
use Rattle.stair_super.specs.Superblock.{Superblock, joined_at, joined_in, mark_at, mark_in}
use Rattle.stair_super.specs.declared.configuration.Configuration.{Configuration}
use Rattle.stair_super.specs.declared.mark.Mark.TheVariants.{Down}
use Rattle.stair_member.specs.Aims.{admitted}
use Rattle.stair_member.specs.Counting.{AllBut}
use Rattle.stair_member.specs.Current.{IsLost, ByOutside, Worn}
use Rattle.stair_member.specs.Editions.{Edition, copy_of}
use Rattle.stair_member.specs.Epochs.{AreReserved, HasDraw, WasGiven, IsStanding, AsWas, Given}
use Rattle.stair_member.specs.Fencing.{IsFencing, HasDrawn}
use Rattle.stair_member.specs.Membership.{Membership, IsHere, place_of}
use Rattle.stair_member.specs.Reserve.{Bears, HasReached, HasReserved, IsOrderly, NoEpochAbove}
use Rattle.stair_member.specs.Superblocks.{HoldsSuper, IsSuperOf, First, Second, Counts}
use Rattle.stair_member.specs.declared.aim.EpochChange.{EpochChange}
use Rattle.stair_member.proofs.CountingLemmas.{all_but_mapped}
use Rattle.stair_member.proofs.DecisionLemmas.{no_super, super_decided}
use Rattle.stair_member.proofs.EditionLemmas.{Comes, Stayed, Harmed, Cut, Wrote, IsOf, Entry, Issue, IsWritable, SlotComes, SameMedium, NothingThere, bears_below, held_of, holds_copy, none_held_there, writable_or_not}
use Rattle.stair_member.proofs.FencingLemmas.{IsThere, IsWhole, Reaches, comes, from, known, on_disk, reaches, stayed, there}
use Rattle.stair_member.proofs.HidesLemmas.{hides_kept}
use Rattle.stair_member.proofs.NewestLemmas.{IsNoOlder, places_whole, super_no_older}
use Rattle.stair_member.proofs.NumberLemmas.{block_named, joined_most, number_from, number_rises}
use Rattle.stair_member.proofs.SuperLemmas.{counts_bears, hidden_same, holds_once, slot_below, super_cells}

-- ---- cells

settled_content : (s : Sector) → s.since ≡ [] → s ≡ settled (content s)
settled_content s none =
    let is : s ≡ settled s.base = nothing_unsynced s none in
    let same : content s ≡ s.base = ap content is in
    is ∙ ap settled (sym same)

base_content : (s : Sector) → s.since ≡ [] → s.base ≡ content s
base_content s none = sym (ap content (nothing_unsynced s none))

-- what a crash leaves, if not one of the contents that were written
left_bad : (base : Cell) (since : List (List ℕ)) (cell : Cell) → LeftOf base since cell → is_good cell ≡ false
    → (cell ≡ base) ⊎ (cell ≡ torn base)
left_bad base [] cell left bad = inl left
left_bad base (bytes ∷ since) cell (inl is) bad = absurd (let e : false ≡ is_good (Good bytes) = sym bad ∙ ap is_good is in cc)
left_bad base (bytes ∷ since) cell (inr (inl is)) bad = inr is
left_bad base (bytes ∷ since) cell (inr (inr left)) bad = left_bad base since cell left bad

torn_lost : (cell : Cell) → IsLost cell → IsLost (torn cell)
torn_lost cell (ByOutside is) = Worn (ap torn is)
torn_lost cell (Worn is) = Worn (ap torn is)

-- over a lost cell that wasn't synced since nothing is left but a lost cell, or what was written
still_lost : (pulls k : ℕ) (was cell : Cell) (b : SlotState) → b.pulls ≡ pulls → MayLeave (b.sector k) cell → is_good cell ≡ false
    → IsKept pulls k (λ s. (s.base ≡ was) ⊎ (s.base ≡ Damaged)) b → IsLost was → IsLost cell
still_lost pulls k was cell b same left bad (Here _ some (inl is)) lost =
    ByOutside (settled_left Damaged cell (subst (λ s. MayLeave s cell) is left))
still_lost pulls k was cell b same left bad (Here _ some (inr base)) lost =
    let of_base : IsLost (b.sector k).base =
    elim base [ inl is ↦ subst IsLost (sym is) lost | inr is ↦ ByOutside is ] in
    elim (left_bad (b.sector k).base (b.sector k).since cell left bad) [
      | inl is ↦ subst IsLost (sym is) of_base
      | inr is ↦ subst IsLost (sym is) (torn_lost (b.sector k).base of_base)
    ]
still_lost pulls k was cell b same left bad (Lost less) lost = absurd (omega arith)

-- a slot of which a superblock can be read has a medium
medium_there : (h : List Happening) (j k : ℕ) (s : Superblock) → IsTidy h → HoldsSuper ((image_now h j).cell k) s → IsSome (slot_state h j).size
medium_there h j k s tidy holds = at_size (slot_state h j).size refl
  where
    at_size : (size : Option ℕ) → (slot_state h j).size ≡ size → IsSome (slot_state h j).size
    at_size None is =
        absurd
        (none_held_there ((image_now h j).cell k) s (ap content (tidy.past_end j k (ap (λ size. has_sector size k) is))) holds)
    at_size (Some size) is = subst IsSome (sym is) refl

-- ---- lists of editions

-- none is of a later epoch than this, or one is, and none of a later one
latest_of : (editions : List Edition) (bound : ℕ)
    → All (λ e. e.array.epoch ≤ bound) editions
    ⊎ ((e : Edition) × Contains editions e × (bound < e.array.epoch) × All (λ b. b.array.epoch ≤ e.array.epoch) editions)
latest_of [] bound = inl (All-nil (λ (e : Edition). e.array.epoch ≤ bound))
latest_of (x ∷ xs) bound =
    elim (latest_of xs bound) [
      | inl none ↦
          elim (cases_lt bound x.array.epoch) [
            | inl above ↦ inr (
              x,
              (0, omega arith, refl),
              above,
              All-cons (λ (b : Edition). b.array.epoch ≤ x.array.epoch) x xs (omega arith)
                  (All-weaker (λ (b : Edition). b.array.epoch ≤ bound) (λ b. b.array.epoch ≤ x.array.epoch) (λ b le. omega arith) xs none),
            )
            | inr within ↦ inl (All-cons (λ (e : Edition). e.array.epoch ≤ bound) x xs within none)
          ]
      | inr found ↦
          let e : Edition = found.0 in
          let at = found.1 in
          let above : bound < e.array.epoch = found.2 in
          elim (cases_lt e.array.epoch x.array.epoch) [
            | inl more ↦ inr (
              x,
              (0, omega arith, refl),
              omega arith,
              All-cons (λ (b : Edition). b.array.epoch ≤ x.array.epoch) x xs (omega arith)
                  (All-weaker (λ (b : Edition). b.array.epoch ≤ e.array.epoch) (λ b. b.array.epoch ≤ x.array.epoch) (λ b le. omega arith) xs found.3),
            )
            | inr within ↦ inr (
              e,
              (suc at.0, omega arith, at.2),
              above,
              All-cons (λ (b : Edition). b.array.epoch ≤ e.array.epoch) x xs within found.3,
            )
          ]
    ]

module _ (aim : EpochChange) (gone : Slots) (m last : Membership) (old h new : List Happening) (f : IsFencing aim gone m last old h new)
    (image : Image) (left : CrashMayLeave h image)
    (r : AreReserved (admitted aim) f.issued.slots f.issued.editions m old h) where
  -- of a superblock that stood there when the call began
  entry_bears : (j k : ℕ) (s : Superblock) → k < 2 → HoldsSuper ((image_now old j).cell k) s → s.slot ≡ j → s.array.geometry ≡ m.array.geometry
      → Bears m.array.geometry j ((image_now old j).cell) s
  entry_bears j k s lt holds slot identity = record { place = k; place_in = lt; holds = holds; slot = slot; identity = identity }

  was_borne : (j : ℕ) (s : Superblock) → (bears : Bears m.array.geometry j ((image j).cell) s) → HoldsSuper ((image_now old j).cell bears.place) s
      → Bears m.array.geometry j ((image_now old j).cell) s
  was_borne j s bears was = entry_bears j bears.place s bears.place_in was bears.slot bears.identity

  entry_epoch : (j : ℕ) (s : Superblock) → Bears m.array.geometry j ((image_now old j).cell) s → s.array.epoch ≤ m.array.epoch
  entry_epoch j s bears = (known f).latest j s bears

  -- an edition of the call is of the member's epoch, and names what it has, or of a new one
  edition_epoch : (e : Edition) → Contains f.issued.editions e → m.array.epoch ≤ e.array.epoch
  edition_epoch e among =
      let within : m.array.epoch ≤ m.drawn = f.begun.member.known in
      elim (f.issued.each e among).epoch [
        | inl same ↦ let epoch : e.array.epoch ≡ m.array.epoch = ap (λ (c : Configuration). c.epoch) same in omega arith
        | inr later ↦ let above : m.drawn < e.array.epoch = later.0 in omega arith
      ]

  edition_new : (e : Edition) → Contains f.issued.editions e → m.array.epoch < e.array.epoch → m.drawn < e.array.epoch
  edition_new e among later =
      elim (f.issued.each e among).epoch [
        | inl same ↦ let epoch : e.array.epoch ≡ m.array.epoch = ap (λ (c : Configuration). c.epoch) same in absurd (omega arith)
        | inr new ↦ new.0
      ]

  edition_old : (e : Edition) → Contains f.issued.editions e → e.array.epoch ≤ m.array.epoch → e.array ≡ m.array
  edition_old e among most =
      let within : m.array.epoch ≤ m.drawn = f.begun.member.known in
      elim (f.issued.each e among).epoch [
        | inl same ↦ same
        | inr later ↦ let above : m.drawn < e.array.epoch = later.0 in absurd (omega arith)
      ]

  -- ONE LIST

  one_list_of : (i j p q : ℕ) (a b : Superblock) → Bears m.array.geometry i ((image i).cell) a → Bears m.array.geometry j ((image j).cell) b
      → p < 2 → q < 2 → IsOf (IsWritable f.issued.slots old) r.editions i ((image_now old i).cell p) a
      → IsOf (IsWritable f.issued.slots old) r.editions j ((image_now old j).cell q) b → a.array.epoch ≡ b.array.epoch → a.array ≡ b.array
  one_list_of i j p q a b of_a of_b p_in q_in (Entry was) (Entry was') same =
      (known f).orderly.one_list i j a b (entry_bears i p a p_in was of_a.slot of_a.identity)
      (entry_bears j q b q_in was' of_b.slot of_b.identity) same
  one_list_of i j p q a b of_a of_b p_in q_in (Entry was) (Issue e has among formed is) same =
      let borne = entry_bears i p a p_in was of_a.slot of_a.identity in
      let most : a.array.epoch ≤ m.array.epoch = entry_epoch i a borne in
      let array : b.array ≡ e.array = ap (λ (s : Superblock). s.array) is in
      let epoch : b.array.epoch ≡ e.array.epoch = ap (λ (c : Configuration). c.epoch) array in
      let least : m.array.epoch ≤ e.array.epoch = edition_epoch e (r.within e among) in
      (known f).named i a borne (omega arith)
      ∙ sym (edition_old e (r.within e among) (omega arith))
      ∙ sym array
  one_list_of i j p q a b of_a of_b p_in q_in (Issue e has among formed is) (Entry was) same =
      let borne = entry_bears j q b q_in was of_b.slot of_b.identity in
      let most : b.array.epoch ≤ m.array.epoch = entry_epoch j b borne in
      let array : a.array ≡ e.array = ap (λ (s : Superblock). s.array) is in
      let epoch : a.array.epoch ≡ e.array.epoch = ap (λ (c : Configuration). c.epoch) array in
      let least : m.array.epoch ≤ e.array.epoch = edition_epoch e (r.within e among) in
      array
      ∙ edition_old e (r.within e among) (omega arith)
      ∙ sym ((known f).named j b borne (omega arith))
  one_list_of i j p q a b of_a of_b p_in q_in (Issue d has among formed is) (Issue e has' among' formed' is') same =
      let of_d : a.array ≡ d.array = ap (λ (s : Superblock). s.array) is in
      let of_e : b.array ≡ e.array = ap (λ (s : Superblock). s.array) is' in
      of_d
      ∙ f.issued.one_list d e (r.within d among) (r.within e among')
      (sym (ap (λ (c : Configuration). c.epoch) of_d) ∙ same ∙ ap (λ (c : Configuration). c.epoch) of_e)
      ∙ sym of_e

  -- HIDDEN SUPERBLOCKS

  -- what is newest at place p, and what it may hide at place q
  module _ (j : ℕ) (s newest : Superblock) (bears : Bears m.array.geometry j ((image j).cell) s) (super : IsSuperOf ((image j).cell) newest)
      (p : ℕ) (p_in : p < 2) (holds : HoldsSuper ((image j).cell p) newest) where
    newer : IsNoOlder newest s
    newer = super_no_older ((image j).cell) newest s bears.place bears.place_in super bears.holds

    of_edition : (e : Edition) → Contains f.issued.editions e → newest ≡ copy_of e j
        → IsOf (IsWritable f.issued.slots old) r.editions j ((image_now old j).cell bears.place) s
        → s.array.epoch ≤ newest.array.epoch
    of_edition e among is (Entry was) =
        let most : s.array.epoch ≤ m.array.epoch = entry_epoch j s (was_borne j s bears was) in
        let least : m.array.epoch ≤ e.array.epoch = edition_epoch e among in
        let epoch : newest.array.epoch ≡ e.array.epoch = ap (λ (t : Superblock). t.array.epoch) is in
        omega arith
    of_edition e among is (Issue d has among' formed is') =
        elim (cases_lt s.draw newest.draw) [
          | inl less ↦
              let draw : newest.draw ≡ e.draw = ap (λ (t : Superblock). t.draw) is in
              let draw' : s.draw ≡ d.draw = ap (λ (t : Superblock). t.draw) is' in
              let epoch : newest.array.epoch ≡ e.array.epoch = ap (λ (t : Superblock). t.array.epoch) is in
              let epoch' : s.array.epoch ≡ d.array.epoch = ap (λ (t : Superblock). t.array.epoch) is' in
              let rises : d.array.epoch ≤ e.array.epoch = f.issued.rising d e (r.within d among') among (omega arith) in
              omega arith
          | inr most ↦
              let least : s.draw ≤ newest.draw = newer.draws in
              newer.epochs (omega arith)
        ]

    -- Where it and the other one stood there when the call began, it was the newest then, or they are the same.
    abbrev Stood : Type 0
    Stood = HoldsSuper ((image_now old j).cell p) newest → HoldsSuper ((image_now old j).cell bears.place) s
        → IsSuperOf ((image_now old j).cell) newest ⊎ (newest ≡ s)

    hides : Stood → IsOf (IsWritable f.issued.slots old) r.editions j ((image_now old j).cell p) newest
        → IsOf (IsWritable f.issued.slots old) r.editions j ((image_now old j).cell bears.place) s
        → Counts m.array.geometry image j newest × (s.array.epoch ≤ newest.array.epoch)
    hides stood (Entry was) (Entry was') =
        elim (stood was was') [
          | inl before ↦
              let hidden = (known f).orderly.hidden j s newest (was_borne j s bears was') before in
              (record { super = super; slot = hidden.0.slot; identity = hidden.0.identity }, hidden.1)
          | inr same ↦ hidden_same m.array.geometry image j s newest bears super same
        ]
    hides stood (Entry was) (Issue d has among formed is) =
        let most : newest.draw ≤ m.drawn =
        (known f).drawn j p newest (f.issued.taking j has.0) has.1 p_in was in
        let above : m.drawn < d.draw = (f.issued.each d (r.within d among)).above in
        let draw : s.draw ≡ d.draw = ap (λ (t : Superblock). t.draw) is in
        let least : s.draw ≤ newest.draw = newer.draws in
        absurd (omega arith)
    hides stood (Issue e has among formed is) other = (
      record {
        super = super;
        slot = ap (λ (t : Superblock). t.slot) is;
        identity = ap (λ (t : Superblock). t.array.geometry) is ∙ (f.issued.each e (r.within e among)).geometry;
      },
      of_edition e (r.within e among) is other,
    )

  module _ (j : ℕ) (s newest : Superblock) (bears : Bears m.array.geometry j ((image j).cell) s) where
    stood_first : HoldsSuper ((image j).cell 0) newest
        → ((other : Superblock) → HoldsSuper ((image j).cell 1) other → ¬ IsOlder newest other)
        → HoldsSuper ((image_now old j).cell 0) newest → HoldsSuper ((image_now old j).cell bears.place) s
        → IsSuperOf ((image_now old j).cell) newest ⊎ (newest ≡ s)
    stood_first here rest was was' =
        let within : bears.place < 2 = bears.place_in in
        elim (cases_lt bears.place 1) [
          | inl below ↦
              inr (holds_once ((image j).cell 0) newest s here (subst (λ k. HoldsSuper ((image j).cell k) s) (omega arith) bears.holds))
          | inr above ↦
              let at_one : bears.place ≡ 1 = omega arith in
              inl
              (First was
              (λ t of_t.
              let same : t ≡ s =
              holds_once ((image_now old j).cell 1) t s of_t (subst (λ k. HoldsSuper ((image_now old j).cell k) s) at_one was') in
              subst (λ (u : Superblock). ¬ IsOlder newest u) (sym same)
              (rest s (subst (λ k. HoldsSuper ((image j).cell k) s) at_one bears.holds))))
        ]

    stood_second : HoldsSuper ((image j).cell 1) newest
        → ((other : Superblock) → HoldsSuper ((image j).cell 0) other → IsOlder other newest)
        → HoldsSuper ((image_now old j).cell 1) newest → HoldsSuper ((image_now old j).cell bears.place) s
        → IsSuperOf ((image_now old j).cell) newest ⊎ (newest ≡ s)
    stood_second here rest was was' =
        let within : bears.place < 2 = bears.place_in in
        elim (cases_lt bears.place 1) [
          | inl below ↦
              let at_zero : bears.place ≡ 0 = omega arith in
              inl
              (Second was
              (λ t of_t.
              let same : t ≡ s =
              holds_once ((image_now old j).cell 0) t s of_t (subst (λ k. HoldsSuper ((image_now old j).cell k) s) at_zero was') in
              subst (λ (u : Superblock). IsOlder u newest) (sym same)
              (rest s (subst (λ k. HoldsSuper ((image j).cell k) s) at_zero bears.holds))))
          | inr above ↦
              inr (holds_once ((image j).cell 1) newest s here (subst (λ k. HoldsSuper ((image j).cell k) s) (omega arith) bears.holds))
        ]

    hidden_by : IsSuperOf ((image j).cell) newest
        → SlotComes (IsWritable f.issued.slots old) r.editions j (slot_state old j).pulls (slot_state h j) ((image_now old j).cell) ((image j).cell)
        → Counts m.array.geometry image j newest × (s.array.epoch ≤ newest.array.epoch)
    hidden_by super (NothingThere none) = absurd (none_held_there ((image j).cell bears.place) s (none bears.place) bears.holds)
    hidden_by (First here rest) (SameMedium same each) =
        hides j s newest bears (First here rest) 0 (omega arith) here (stood_first here rest)
        (held_of (IsWritable f.issued.slots old) r.editions j ((image_now old j).cell 0) ((image j).cell 0) newest (each 0 (omega arith)) here)
        (from aim gone m last old h new f image left r j s bears)
    hidden_by (Second here rest) (SameMedium same each) =
        hides j s newest bears (Second here rest) 1 (omega arith) here (stood_second here rest)
        (held_of (IsWritable f.issued.slots old) r.editions j ((image_now old j).cell 1) ((image j).cell 1) newest (each 1 (omega arith)) here)
        (from aim gone m last old h new f image left r j s bears)

  hidden : (j : ℕ) (s newest : Superblock) → Bears m.array.geometry j ((image j).cell) s → IsSuperOf ((image j).cell) newest
      → Counts m.array.geometry image j newest × (s.array.epoch ≤ newest.array.epoch)
  hidden j s newest bears super =
      hidden_by j s newest bears super
      (comes aim gone m last old h new f image left r j (bears_below m.array.geometry j ((image j).cell) s bears))

  -- THE SUPERBLOCK OF A SLOT

  -- it is one of the editions; or it was the slot's when the call began, and no place was lost
  data IsStill (j : ℕ) (s : Superblock) : Type 0 where
    Written : (e : Edition) → Contains f.issued.editions e → s ≡ copy_of e j → IsStill j s
    Kept : Counts m.array.geometry (image_now old) j s → IsWhole ((image_now old j).cell) → IsStill j s

  module _ (j : ℕ) (s : Superblock) (counts : Counts m.array.geometry image j s) (whole : IsWhole ((image j).cell))
      (other : admitted aim ≢ Some j) where
    below : j < m.array.geometry.n
    below = slot_below m.array.geometry image j s counts

    borne : Bears m.array.geometry j ((image j).cell) s
    borne = counts_bears m.array.geometry image j s counts

    here : IsThere aim gone m last old h new f image left r j
    here = there aim gone m last old h new f image left r j below whole

    cells_stayed : ((k : ℕ) → k < 2 → (image j).cell k ≡ (image_now old j).cell k) → IsStill j s
    cells_stayed same =
        Kept
        (record {
          super = super_cells ((image j).cell) ((image_now old j).cell) s (same 0 (omega arith)) (same 1 (omega arith)) counts.super;
          slot = counts.slot;
          identity = counts.identity;
        })
        (λ k lt. subst (λ c. ¬ IsLost c) (same k lt) (whole k lt))

    -- it is of a slot that the call writes
    module _ (has : IsWritable f.issued.slots old j) (was : HoldsSuper ((image_now old j).cell borne.place) s) where
      most : s.draw ≤ m.drawn
      most =
          (known f).drawn j borne.place s (f.issued.taking j has.0) has.1 borne.place_in was

      is_here : IsHere m j
      is_here = elim (f.issued.taking j has.0) [ inl is ↦ is | inr joins ↦ absurd (other joins.0) ]

      settled_place : (k : ℕ) → k < 2 → ((slot_state old j).sector k).since ≡ []
      settled_place k lt = f.begun.settled j k below lt

      next_in : place_of m j < 2
      next_in =
          let devices : m.array.geometry.n ≤ 32 = f.begun.member.array.limits.devices.1 in
          let lt : j < m.array.geometry.n = below in
          f.begun.member.places j (omega arith)

      aside_in : 1 - place_of m j < 2
      aside_in = omega arith

      -- the place that isn't next stayed
      aside_stayed : IsKept (slot_state old j).pulls (1 - place_of m j) (λ x. x ≡ (slot_state old j).sector (1 - place_of m j)) (slot_state h j)
          → (image j).cell (1 - place_of m j) ≡ (image_now old j).cell (1 - place_of m j)
      aside_stayed kept =
          let q : ℕ = 1 - place_of m j in
          on_disk (slot_state old j).pulls q ((image_now old j).cell q) ((image j).cell q) (slot_state h j) here.same
          ((left j).each q) (whole q aside_in)
          (IsKept-mapped {P = λ x. x ≡ (slot_state old j).sector q} {Q = λ x. x ≡ settled ((image_now old j).cell q)}
          (λ x is. is ∙ settled_content ((slot_state old j).sector q) (settled_place q aside_in)) kept)

      -- each place, where both stayed
      both_stayed : (image j).cell (1 - place_of m j) ≡ (image_now old j).cell (1 - place_of m j)
          → (image j).cell (place_of m j) ≡ (image_now old j).cell (place_of m j)
          → (k : ℕ) → k < 2 → (image j).cell k ≡ (image_now old j).cell k
      both_stayed aside next k lt =
          elim (cases_eq k (place_of m j)) [
            | inl same ↦ subst (λ i. (image j).cell i ≡ (image_now old j).cell i) (sym same) next
            | inr other ↦
                subst (λ i. (image j).cell i ≡ (image_now old j).cell i) (let p = next_in in let e : 1 - place_of m j ≡ k = omega arith in e) aside
          ]

      -- a write to the next place was cut
      next_cut : (image j).cell (1 - place_of m j) ≡ (image_now old j).cell (1 - place_of m j) → is_good ((image j).cell (place_of m j)) ≡ false
          → (¬ IsLost ((image_now old j).cell (place_of m j))) → IsStill j s
      next_cut aside bad next_whole =
          let q : ℕ = 1 - place_of m j in
          let p_in = next_in in
          let at_aside : borne.place ≡ q =
          elim (cases_eq borne.place (place_of m j)) [
            | inl same ↦
                absurd
                (no_super ((image j).cell (place_of m j)) s bad (subst (λ k. HoldsSuper ((image j).cell k) s) same borne.holds))
            | inr other ↦ let lt = borne.place_in in omega arith
          ] in
          let was_whole : IsWhole ((image_now old j).cell) =
          (λ k lt.
          elim (cases_eq k (place_of m j)) [
            | inl same ↦ subst (λ i. ¬ IsLost ((image_now old j).cell i)) (sym same) next_whole
            | inr other ↦
                let e : q ≡ k = omega arith in
                subst (λ i. ¬ IsLost ((image_now old j).cell i)) e (subst (λ c. ¬ IsLost c) aside (whole q aside_in))
          ]) in
          let bore = entry_bears j borne.place s borne.place_in was borne.slot borne.identity in
          elim (super_decided ((image_now old j).cell)) [
            | inl some ↦
                let t : Superblock = some.0 in
                let k = known f in
                let of_t : Counts m.array.geometry (image_now old) j t =
                let c = (k.orderly.hidden j s t bore some.1).0 in
                record { super = some.1; slot = c.slot; identity = c.identity } in
                let holds_t : HoldsSuper ((image_now old j).cell q) t =
                k.aside j t is_here of_t (was_whole 0 (omega arith)) (was_whole 1 (omega arith)) in
                let same : t ≡ s =
                holds_once ((image_now old j).cell q) t s holds_t (subst (λ i. HoldsSuper ((image_now old j).cell i) s) at_aside was) in
                Kept (subst (λ (u : Superblock). Counts m.array.geometry (image_now old) j u) same of_t) was_whole
            | inr none ↦ absurd (none (record { place = borne.place; place_in = borne.place_in; super = s; holds = was }))
          ]

      next_is : (image j).cell (1 - place_of m j) ≡ (image_now old j).cell (1 - place_of m j)
          → IsKept (slot_state old j).pulls (place_of m j)
          (λ x. (x.base ≡ ((slot_state old j).sector (place_of m j)).base) ⊎ (x.base ≡ Damaged)) (slot_state h j)
          → Comes (IsWritable f.issued.slots old) r.editions j ((image_now old j).cell (place_of m j)) ((image j).cell (place_of m j)) → IsStill j s
      next_is aside kept (Stayed is) = cells_stayed (both_stayed aside is)
      next_is aside kept (Harmed is) = absurd (whole (place_of m j) next_in (ByOutside is))
      next_is aside kept (Cut has' bad) =
          next_cut aside bad
          (λ lost.
          whole (place_of m j) next_in
          (still_lost (slot_state old j).pulls (place_of m j) ((slot_state old j).sector (place_of m j)).base ((image j).cell (place_of m j))
          (slot_state h j) here.same ((left j).each (place_of m j)) bad kept
          (subst IsLost (sym (base_content ((slot_state old j).sector (place_of m j)) (settled_place (place_of m j) next_in))) lost)))
      next_is aside kept (Wrote e has' among formed is) =
          let above : m.drawn < e.draw = (f.issued.each e (r.within e among)).above in
          let within : s.draw ≤ m.drawn = most in
          let newer : IsNoOlder s (copy_of e j) =
          super_no_older ((image j).cell) s (copy_of e j) (place_of m j) next_in counts.super
          (holds_copy ((image j).cell (place_of m j)) e j formed is) in
          let least : e.draw ≤ s.draw = newer.draws in
          absurd (omega arith)

      standing_is : IsStanding m f.issued.editions old h j → IsStill j s
      standing_is (AsWas aside next) = next_is (aside_stayed aside) next (here.each (place_of m j) next_in)
      standing_is (Given d) =
          let reached : Reaches m (m.drawn + 1) m.array.epoch s =
          reaches aim gone m last old h new f image left r j s (m.drawn + 1) m.array.epoch counts whole d in
          let least : m.drawn + 1 ≤ s.draw = reached.draws in
          let within : s.draw ≤ m.drawn = most in
          absurd (omega arith)

    still_of : IsOf (IsWritable f.issued.slots old) r.editions j ((image_now old j).cell borne.place) s → IsStill j s
    still_of (Issue e has among formed is) = Written e (r.within e among) is
    still_of (Entry was) =
        elim (writable_or_not f.issued.slots old j) [
          | inl has ↦
              standing_is has was
              (at_moment
              {P = λ x.
              (i : ℕ) → HasSlot f.issued.slots i → IsSome (slot_state old i).size
              → IsStanding m f.issued.editions old x i}
              f.issued.standing f.moment j has.0 (medium_there old j borne.place s (history_tidy f.begun.history) was))
          | inr not_in ↦
              cells_stayed
              (λ k lt. stayed aim gone m last old h new f image left r j k lt whole not_in (here.each k lt))
        ]

    still : IsStill j s
    still = still_of (from aim gone m last old h new f image left r j s borne)

  -- DRAWS

  has_drawn : (j : ℕ) → admitted aim ≢ Some j → HasDrawn m.array.geometry (image_now old) m.array.epoch j
      → HasDrawn m.array.geometry image m.array.epoch j
  has_drawn j other before s counts first second =
      elim (still j s counts (places_whole ((image j).cell) first second) other) [
        | Written e among is ↦
            let above : m.drawn < e.draw = (f.issued.each e among).above in
            let within : m.array.epoch ≤ m.drawn = f.begun.member.known in
            let draw : s.draw ≡ e.draw = ap (λ (t : Superblock). t.draw) is in
            omega arith
        | Kept was whole ↦ before s was (whole 0 (omega arith)) (whole 1 (omega arith))
      ]

  has_reached : (j epoch : ℕ) → epoch ≤ m.array.epoch → admitted aim ≢ Some j → HasReached m.array.geometry (image_now old) epoch j
      → HasReached m.array.geometry image epoch j
  has_reached j epoch most other before s counts first second =
      elim (still j s counts (places_whole ((image j).cell) first second) other) [
        | Written e among is ↦
            let least : m.array.epoch ≤ e.array.epoch = edition_epoch e among in
            let same : s.array.epoch ≡ e.array.epoch = ap (λ (t : Superblock). t.array.epoch) is in
            omega arith
        | Kept was whole ↦ before s was (whole 0 (omega arith)) (whole 1 (omega arith))
      ]

  -- each superblock that a medium bears is of an epoch up to this one, where each edition written is
  no_later : (bound : ℕ) → m.array.epoch ≤ bound → All (λ (e : Edition). e.array.epoch ≤ bound) r.editions
      → NoEpochAbove m.array.geometry image bound
  no_later bound least all j s bears =
      elim (from aim gone m last old h new f image left r j s bears) [
        | Entry was ↦ let most : s.array.epoch ≤ m.array.epoch = entry_epoch j s (was_borne j s bears was) in omega arith
        | Issue e has among formed is ↦
            let most : e.array.epoch ≤ bound = All-contains (λ (e : Edition). e.array.epoch ≤ bound) r.editions e all among in
            let same : s.array.epoch ≡ e.array.epoch = ap (λ (t : Superblock). t.array.epoch) is in
            omega arith
      ]

  above_from : (bound draw : ℕ) → bound ≤ draw → NoEpochAbove m.array.geometry image bound → NoEpochAbove m.array.geometry image draw
  above_from bound draw le none j s bears = let most : s.array.epoch ≤ bound = none j s bears in omega arith

  draw_of_call : (draw epoch j : ℕ) → HasDraw r.editions draw epoch old h j → HasDraw f.issued.editions draw epoch old h j
  draw_of_call draw epoch j d = record {
    edition = d.edition;
    among = r.within d.edition d.among;
    formed = d.formed;
    draws = d.draws;
    reaches = d.reaches;
    place = d.place;
    place_in = d.place_in;
    on_disk = d.on_disk;
  }

  reserved : AllBut m.array.geometry.n m.array.geometry.m (HasReserved m.array.geometry image)
  reserved =
      elim (latest_of r.editions m.array.epoch) [
        | inl none ↦
            all_but_mapped {P = λ j. (admitted aim ≢ Some j) × HasDrawn m.array.geometry (image_now old) m.array.epoch j}
            {Q = HasReserved m.array.geometry image}
            (λ j below before s counts first second.
            above_from m.array.epoch s.draw (has_drawn j before.0 before.1 s counts first second) (no_later m.array.epoch (omega arith) none))
            (known f).reserved
        | inr found ↦
            let e : Edition = found.0 in
            let above : m.array.epoch < e.array.epoch = found.2 in
            all_but_mapped {P = WasGiven f.issued.slots r.editions e.array.epoch m.array.epoch old h} {Q = HasReserved m.array.geometry image}
            (λ j below d s counts first second.
            let reached : Reaches m e.array.epoch m.array.epoch s =
            reaches aim gone m last old h new f image left r j s e.array.epoch m.array.epoch counts (places_whole ((image j).cell) first second)
            (draw_of_call e.array.epoch m.array.epoch j d.has) in
            above_from e.array.epoch s.draw reached.draws (no_later e.array.epoch (omega arith) found.3))
            (r.reserved e found.1 above)
      ]

  -- EPOCHS

  -- all but m have a new draw with this epoch
  reached_by : (draw epoch : ℕ) → m.drawn < draw → (bound : ℕ) → bound ≤ epoch
      → AllBut m.array.geometry.n m.array.geometry.m (WasGiven f.issued.slots r.editions draw epoch old h)
      → AllBut m.array.geometry.n m.array.geometry.m (HasReached m.array.geometry image bound)
  reached_by draw epoch above bound le all =
      all_but_mapped {P = WasGiven f.issued.slots r.editions draw epoch old h} {Q = HasReached m.array.geometry image bound}
      (λ j below d s counts first second.
      let reached : Reaches m draw epoch s =
      reaches aim gone m last old h new f image left r j s draw epoch counts (places_whole ((image j).cell) first second)
      (draw_of_call draw epoch j d.has) in
      let least : epoch ≤ s.array.epoch = reached.epochs above in
      omega arith)
      all

  -- as when the call began
  reached_before : (i : ℕ) (a : Superblock) → Bears m.array.geometry i ((image_now old i).cell) a → a.array.epoch < m.array.epoch
      → AllBut m.array.geometry.n m.array.geometry.m (HasReached m.array.geometry image a.array.epoch)
  reached_before i a bears less =
      all_but_mapped {P = λ j. (admitted aim ≢ Some j) × HasReached m.array.geometry (image_now old) a.array.epoch j}
      {Q = HasReached m.array.geometry image a.array.epoch}
      (λ j below before. has_reached j a.array.epoch (omega arith) before.0 before.1)
      ((known f).reached i a bears less)

  reached_of : (i j p q : ℕ) (a b : Superblock) → Bears m.array.geometry i ((image i).cell) a → Bears m.array.geometry j ((image j).cell) b
      → p < 2 → q < 2 → IsOf (IsWritable f.issued.slots old) r.editions i ((image_now old i).cell p) a
      → IsOf (IsWritable f.issued.slots old) r.editions j ((image_now old j).cell q) b → a.array.epoch < b.array.epoch
      → AllBut m.array.geometry.n m.array.geometry.m (HasReached m.array.geometry image a.array.epoch)
  reached_of i j p q a b of_a of_b p_in q_in (Entry was) (Entry was') less =
      let most : b.array.epoch ≤ m.array.epoch = entry_epoch j b (entry_bears j q b q_in was' of_b.slot of_b.identity) in
      reached_before i a (entry_bears i p a p_in was of_a.slot of_a.identity) (omega arith)
  reached_of i j p q a b of_a of_b p_in q_in (Entry was) (Issue e has among formed is) less =
      let borne = entry_bears i p a p_in was of_a.slot of_a.identity in
      let epoch : b.array.epoch ≡ e.array.epoch = ap (λ (t : Superblock). t.array.epoch) is in
      let most : a.array.epoch ≤ m.array.epoch = entry_epoch i a borne in
      elim (cases_lt m.array.epoch e.array.epoch) [
        | inl later ↦
            reached_by e.array.epoch m.array.epoch (edition_new e (r.within e among) later) a.array.epoch most (r.reserved e among later)
        | inr within ↦ reached_before i a borne (omega arith)
      ]
  reached_of i j p q a b of_a of_b p_in q_in (Issue d has among formed is) (Entry was) less =
      let most : b.array.epoch ≤ m.array.epoch = entry_epoch j b (entry_bears j q b q_in was of_b.slot of_b.identity) in
      let least : m.array.epoch ≤ d.array.epoch = edition_epoch d (r.within d among) in
      let epoch : a.array.epoch ≡ d.array.epoch = ap (λ (t : Superblock). t.array.epoch) is in
      absurd (omega arith)
  reached_of i j p q a b of_a of_b p_in q_in (Issue d has among formed is) (Issue e has' among' formed' is') less =
      let epoch : a.array.epoch ≡ d.array.epoch = ap (λ (t : Superblock). t.array.epoch) is in
      let epoch' : b.array.epoch ≡ e.array.epoch = ap (λ (t : Superblock). t.array.epoch) is' in
      let least : m.array.epoch ≤ d.array.epoch = edition_epoch d (r.within d among) in
      reached_by e.array.epoch d.array.epoch (edition_new e (r.within e among') (omega arith)) a.array.epoch (omega arith)
      (r.reached d e among among' (omega arith))

  -- JOINED NUMBERS

  joined_of : (i k j p q : ℕ) (a b : Superblock) → Bears m.array.geometry i ((image i).cell) a → Bears m.array.geometry k ((image k).cell) b
      → p < 2 → q < 2 → IsOf (IsWritable f.issued.slots old) r.editions i ((image_now old i).cell p) a
      → IsOf (IsWritable f.issued.slots old) r.editions k ((image_now old k).cell q) b → a.array.epoch ≤ b.array.epoch
      → mark_at a j ≢ Down → mark_at b j ≢ Down → joined_at a j ≤ joined_at b j
  joined_of i k j p q a b of_a of_b p_in q_in (Entry was) (Entry was') le up up' =
      (known f).orderly.joined i k j a b (entry_bears i p a p_in was of_a.slot of_a.identity)
      (entry_bears k q b q_in was' of_b.slot of_b.identity) le up up'
  joined_of i k j p q a b of_a of_b p_in q_in (Entry was) (Issue e has among formed is) le up up' =
      let borne = entry_bears i p a p_in was of_a.slot of_a.identity in
      let array : b.array ≡ e.array = ap (λ (t : Superblock). t.array) is in
      let joins : joined_at b j ≡ joined_in e.array j = ap (λ (c : Configuration). joined_in c j) array in
      let up_e : mark_in e.array j ≢ Down = subst (λ (c : Configuration). mark_in c j ≢ Down) array up' in
      elim
      (number_from aim gone m last old new f.begun.member f.issued e (r.within e among) (block_named (copy_of e k) formed) j up_e) [
        | inl before ↦
            let first : joined_at a j ≤ joined_in m.array j =
            (known f).joined i j a borne up before.0 in
            let second : joined_in m.array j ≤ joined_in e.array j = before.1 in
            omega arith
        | inr above ↦
            let first : joined_at a j ≤ a.array.epoch = joined_most a.array j (block_named a of_a.holds.spells.block) up in
            let most : a.array.epoch ≤ m.array.epoch = entry_epoch i a borne in
            let within : m.array.epoch ≤ m.drawn = f.begun.member.known in
            omega arith
      ]
  joined_of i k j p q a b of_a of_b p_in q_in (Issue d has among formed is) (Entry was) le up up' =
      let borne = entry_bears k q b q_in was of_b.slot of_b.identity in
      let most : b.array.epoch ≤ m.array.epoch = entry_epoch k b borne in
      let least : m.array.epoch ≤ d.array.epoch = edition_epoch d (r.within d among) in
      let array : a.array ≡ d.array = ap (λ (t : Superblock). t.array) is in
      let epoch : a.array.epoch ≡ d.array.epoch = ap (λ (c : Configuration). c.epoch) array in
      let same : a.array ≡ b.array =
      array
      ∙ edition_old d (r.within d among) (omega arith)
      ∙ sym ((known f).named k b borne (omega arith)) in
      let joins : joined_at a j ≡ joined_at b j = ap (λ (c : Configuration). joined_in c j) same in
      omega arith
  joined_of i k j p q a b of_a of_b p_in q_in (Issue d has among formed is) (Issue e has' among' formed' is') le up up' =
      let of_d : a.array ≡ d.array = ap (λ (t : Superblock). t.array) is in
      let of_e : b.array ≡ e.array = ap (λ (t : Superblock). t.array) is' in
      let epoch : a.array.epoch ≡ d.array.epoch = ap (λ (c : Configuration). c.epoch) of_d in
      let epoch' : b.array.epoch ≡ e.array.epoch = ap (λ (c : Configuration). c.epoch) of_e in
      let joins : joined_at a j ≡ joined_in d.array j = ap (λ (c : Configuration). joined_in c j) of_d in
      let joins' : joined_at b j ≡ joined_in e.array j = ap (λ (c : Configuration). joined_in c j) of_e in
      let rises : joined_in d.array j ≤ joined_in e.array j =
      number_rises aim gone m last old new f.begun.member f.issued d e (r.within d among) (r.within e among') (block_named (copy_of d i) formed)
      (block_named (copy_of e k) formed') (omega arith) j
      (subst (λ (c : Configuration). mark_in c j ≢ Down) of_d up) (subst (λ (c : Configuration). mark_in c j ≢ Down) of_e up') in
      omega arith

  pub orderly_then : IsOrderly m.array.geometry image
  orderly_then = record {
    reserved = reserved;
    one_list = λ i j a b of_a of_b same.
        one_list_of i j of_a.place of_b.place a b of_a of_b of_a.place_in of_b.place_in
        (from aim gone m last old h new f image left r i a of_a) (from aim gone m last old h new f image left r j b of_b) same;
    hidden = hidden;
    hides = hides_kept aim gone m last old h new f image left r hidden;
    reached = λ i j a b of_a of_b less.
        reached_of i j of_a.place of_b.place a b of_a of_b of_a.place_in of_b.place_in
        (from aim gone m last old h new f image left r i a of_a) (from aim gone m last old h new f image left r j b of_b) less;
    joined = λ i k j a b of_a of_b le up up'.
        joined_of i k j of_a.place of_b.place a b of_a of_b of_a.place_in of_b.place_in
        (from aim gone m last old h new f image left r i a of_a) (from aim gone m last old h new f image left r k b of_b) le up up';
  }

pub orderly : (aim : EpochChange) (gone : Slots) (m last : Membership) (old h new : List Happening) (image : Image) → IsFencing aim gone m last old h new
    → CrashMayLeave h image → IsOrderly m.array.geometry image
orderly aim gone m last old h new image f left =
    orderly_then aim gone m last old h new f image left
    (at_moment {P = AreReserved (admitted aim) f.issued.slots f.issued.editions m old} f.issued.reserved f.moment)

-- each slot has still reached what it had reached, but the one that joins
pub each_reached : (aim : EpochChange) (gone : Slots) (m last : Membership) (old h new : List Happening) (image : Image) (j epoch : ℕ)
    → IsFencing aim gone m last old h new → CrashMayLeave h image → epoch ≤ m.array.epoch → admitted aim ≢ Some j
    → HasReached m.array.geometry (image_now old) epoch j → HasReached m.array.geometry image epoch j
each_reached aim gone m last old h new image j epoch f left =
    has_reached aim gone m last old h new f image left
    (at_moment {P = AreReserved (admitted aim) f.issued.slots f.issued.editions m old} f.issued.reserved f.moment) j epoch

-- so that all slots but m have
pub reached_on : (aim : EpochChange) (gone : Slots) (m last : Membership) (old h new : List Happening) (image : Image) → IsFencing aim gone m last old h new
    → CrashMayLeave h image
    → AllBut m.array.geometry.n m.array.geometry.m
    (λ j. (admitted aim ≢ Some j) × HasReached m.array.geometry (image_now old) m.array.epoch j)
    → AllBut m.array.geometry.n m.array.geometry.m (HasReached m.array.geometry image m.array.epoch)
reached_on aim gone m last old h new image f left before =
    all_but_mapped {P = λ j. (admitted aim ≢ Some j) × HasReached m.array.geometry (image_now old) m.array.epoch j}
    {Q = HasReached m.array.geometry image m.array.epoch}
    (λ j below reached. each_reached aim gone m last old h new image j m.array.epoch f left (omega arith) reached.0 reached.1) before
