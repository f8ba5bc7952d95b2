-- How the promotion of a slot that is rebuilt whole begins: its medium counts among those that hold chunks.
use Rattle.std.proofs.Common.{◌≡◌, ◌≢◌, ℕ, ◌<◌, ◌≤◌, List, ◌⊎◌, inl, inr, refl, sym, ap, ◌∙◌, subst, arith, None, Option, Some, ◌==◌, ◌-◌}
use Rattle.std.specs.Prelude.{if◌then◌else◌}
use Rattle.std.proofs.lemmas.Bool.{cases_eq, cond-false, cond-true, eq-eqb, ne_eqb}
use Rattle.stair_model.specs.Geometry.{Geometry}
use Rattle.stair_model.specs.Slots.{HasSlot, Slots}
use Rattle.stair_rack.specs.Crash.{CrashMayLeave, image_now}
use Rattle.stair_rack.specs.History.{Happening}
use Rattle.stair_rack.specs.Media.{Image, Medium}
use Rattle.stair_rack.specs.Sector.{Cell, Damaged, Good, MayLeave}
use Rattle.stair_rack.proofs.CrashLemmas.{CrashMayLeave-now, settled_left}
use Rattle.stair_super.specs.Superblock.{Superblock, joined_at, joined_in, mark_at, mark_in}
use Rattle.stair_super.specs.declared.configuration.Configuration.{Configuration}
use Rattle.stair_super.specs.declared.mark.Mark.TheVariants as mark
use Rattle.stair_member.specs.Aims.{mark_for}
use Rattle.stair_member.specs.Current.{ByOutside, IsLost}
use Rattle.stair_member.specs.Membership.{IsHere, Membership, place_of}
use Rattle.stair_member.specs.Superblocks.{HoldsSuper, IsSuperOf}
use Rattle.stair_member.specs.declared.aim.EpochChange.TheVariants.{Promote, Fence}
use Rattle.stair_member.proofs.CountingLemmas.{all_but_mapped}
use Rattle.stair_member.proofs.EditionLemmas.{holds_copy}
use Rattle.stair_member.proofs.NewestLemmas.{super_no_older}
use Rattle.stair_invariant.proofs.OwnLaws.{own_formed}
use Rattle.stair_super.specs.Spelling.{spelled}
use Rattle.stair_state.specs.Blocks.{Codewords}
use Rattle.stair_state.specs.Degraded.{AreDamagedCopies}
use Rattle.stair_state.specs.Forms.{RepresentsBy}
use Rattle.stair_state.specs.Holding.{CurrentMediumReserved, CurrentMedia, IsConsistentBy, IsCurrentMedium, IsBorneSince}
use Rattle.stair_state.specs.Reassembly.{InSlot, IsBorne, IsMediumOf, IsReassembly, Location}
use Rattle.stair_state.specs.Represents.{IsLargeEnough}
use Rattle.stair_state.specs.State.{Content, State}
use Rattle.stair_state.specs.Tolerance.{IsTolerated}
use Rattle.stair_state.proofs.ReassembledLemmas.{IsBorneFrom, borne_of, from_slot}
use Rattle.stair_invariant.specs.InSession.{state_with}
use Rattle.stair_invariant.specs.Returning.{AnyReturns, current_media_of}
use Rattle.stair_invariant.specs.Session.{ArrayState, HasOwn, seats_in, own_super}
use Rattle.stair_invariant.proofs.Mending.{IsRebuiltWhole}
use Rattle.stair_invariant.proofs.Serving.{IsServing}
use Rattle.stair_reinsert.specs.Beginning.{AreCurrentMediaClosed, BeginsWherever, HasDrawnAll}
use Rattle.stair_reinsert.specs.Behind.{Bearing, HasCurrentMedium, HasNumber, InUse}
use Rattle.stair_reinsert.proofs.OrderSince.{super_bears}
use Rattle.stair_reinsert.proofs.ServingEpochs.{names_own, serving_begins}
use Rattle.stair_reinsert.proofs.SessionBehind.{IsAtRest, full_now, has_rest, old_words, rest_still, rests_represent, serving_rests}

-- the media that hold chunks, with that of this slot
abbrev pub joined_by : Membership → ℕ → CurrentMedia
joined_by m j i = if i == j then Some (joined_in m.array j) else current_media_of m i

module _ (before : List Happening) (a : ArrayState) (words : Codewords) (kept : Content) (h : List Happening)
    (is : IsServing AnyReturns before a words kept h) (j : ℕ) (whole : IsRebuiltWhole a words h j) (tolerated : IsTolerated a.member.array.geometry before h)
  where
    abbrev m : Membership
    m = a.member

    abbrev g : Geometry
    g = a.member.array.geometry

    abbrev s : State
    s = state_with a.member kept None a.member.array

    here : IsHere m j
    here = record { below = whole.rebuilt.below; why = inr whole.rebuilt.why }

    marked : mark_in m.array j ≡ mark.Rebuilding
    marked = is.is_open.array.marks j whole.rebuilt.below ∙ ap mark_for whole.rebuilt.why

    -- as the plain epoch begins
    fence : BeginsWherever s (current_media_of m) m.array.epoch Fence m h
    fence =
        serving_begins before a words kept None refl h is Fence refl (λ i never. cc)
        (record { frozen = inl is.of.frozen; label = inl is.of.label; frozen_new = inl is.of.frozen; label_new = inl is.of.label }) tolerated

    -- WHO HOLDS

    own_number : joined_by m j j ≡ Some (joined_in m.array j)
    own_number = cond-true (j == j) (Some (joined_in m.array j)) (current_media_of m j) (eq-eqb j j refl)

    other_number : (i : ℕ) → i ≢ j → joined_by m j i ≡ current_media_of m i
    other_number i other = cond-false (i == j) (Some (joined_in m.array j)) (current_media_of m i) (ne_eqb i j other)

    -- a slot has its holder by these numbers where it has it, or is the one that is promoted
    number_cases : (i n : ℕ) → joined_by m j i ≡ Some n → ((i ≡ j) × (n ≡ joined_in m.array j)) ⊎ ((i ≢ j) × (current_media_of m i ≡ Some n))
    number_cases i n current_medium =
        elim (cases_eq i j) [
          | inl same ↦
              let its : Some n ≡ Some (joined_in m.array j) = sym current_medium ∙ ap (joined_by m j) same ∙ own_number in
              inl (same, cc)
          | inr other ↦ inr (other, sym (other_number i other) ∙ current_medium)
        ]

    module _ (image : Image) (left : CrashMayLeave h image) where
      -- THE SLOT'S MEDIUM is the one in use

      inside : (p : Location) (b : Superblock) → IsBorne g image j p b → b.joined ≡ joined_in m.array j → p ≡ InSlot
      inside p b there joined = (is.knows.known image left).sole j p b here whole.attached there joined

      copies_own : (to : Image) → IsReassembly image to → (n : ℕ) → n ≡ joined_in m.array j → HasNumber g m h (image j) (to j) j n
          → AreDamagedCopies ((image j).cell) ((to j).cell) × ((to j).size ≡ (image j).size)
      copies_own to reassembly n meant (InUse there on same size copies) = (copies, size)
      copies_own to reassembly n meant (Bearing b bears joined) =
          by came.place came.medium came.is_one (inside came.place b (borne_of came) (joined ∙ meant)) came.copies came.size
        where
          came : IsBorneFrom g image to j b
          came = from_slot g image to j b (reassembly j) bears

          by : (p : Location) (medium : Medium) → IsMediumOf (image j) p medium → p ≡ InSlot → AreDamagedCopies medium.cell ((to j).cell)
              → (to j).size ≡ Some medium.size → AreDamagedCopies ((image j).cell) ((to j).cell) × ((to j).size ≡ (image j).size)
          by p medium at in_slot copies size =
              let own : IsMediumOf (image j) InSlot medium = subst (λ (q : Location). IsMediumOf (image j) q medium) in_slot at in
              (subst (λ (c : ℕ → Cell). AreDamagedCopies c ((to j).cell)) (sym own.1) copies, size ∙ sym own.0)

      rests_own : (to : Image) → IsReassembly image to → (n : ℕ) → n ≡ joined_in m.array j → HasNumber g m h (image j) (to j) j n
          → IsAtRest g words j ((to j).cell)
      rests_own to reassembly n meant number =
          rest_still g words j ((image j).cell) ((to j).cell) (copies_own to reassembly n meant number).0
          (serving_rests g words h j whole.rebuilt.below whole.serves (image j) (left j))

      -- WHO HAS A HOLDER'S NUMBER is at rest, and large enough

      rests : (to : Image) → IsReassembly image to → (i : ℕ) → HasCurrentMedium g (joined_by m j) m h (image i) (to i) i → IsAtRest g words i ((to i).cell)
      rests to reassembly i has =
          elim (number_cases i has.joined has.current_medium) [
            | inl own ↦
                subst (λ (n : ℕ). IsAtRest g words n ((to n).cell)) (sym own.0)
                (rests_own to reassembly has.joined own.1
                (subst (λ (n : ℕ). HasNumber g m h (image n) (to n) n has.joined) own.0 has.number))
            | inr other ↦
                has_rest kept None (Some (seats_in m.array)) before a words h is.history is.is_open is.knows tolerated is.of.encodings refl image left to
                reassembly i (record { joined = has.joined; current_medium = other.1; number = has.number })
          ]

      large : (to : Image) (i : ℕ) → IsReassembly image to → HasCurrentMedium g (joined_by m j) m h (image i) (to i) i → IsLargeEnough g (to i).size
      large to i reassembly has =
          elim (number_cases i has.joined has.current_medium) [
            | inl own ↦
                subst (λ (n : ℕ). IsLargeEnough g (to n).size) (sym own.0)
                (subst (λ (o : Option ℕ). IsLargeEnough g o)
                (sym
                ((copies_own to reassembly has.joined own.1
                (subst (λ (n : ℕ). HasNumber g m h (image n) (to n) n has.joined) own.0 has.number)).1
                ∙ (left j).size)) whole.serves.large)
            | inr other ↦
                full_now kept None (Some (seats_in m.array)) before a words h is.history is.is_open is.knows tolerated is.of.encodings refl image left to i
                reassembly (record { joined = has.joined; current_medium = other.1; number = has.number })
          ]

      forms : (to : Image) (some : Slots) → IsReassembly image to
          → ((i : ℕ) → HasSlot some i → HasCurrentMedium g (joined_by m j) m h (image i) (to i) i)
          → RepresentsBy g is.knows.is.encodings.old is.knows.is.encodings.new (HasSlot some) to
      forms to some reassembly have =
          rests_represent g words is.knows.is.encodings.old is.knows.is.encodings.new (HasSlot some) to
          (old_words kept None (Some (seats_in m.array)) before a words h is.history is.is_open is.knows tolerated is.of.encodings refl)
          (λ i has. rests to reassembly i (have i has))

      held : (to : Image) (i : ℕ) → IsCurrentMedium g (joined_by m j) i ((to i).cell) → HasCurrentMedium g (joined_by m j) m h (image i) (to i) i
      held to i current_medium = record { joined = current_medium.super.joined; current_medium = current_medium.joined; number = Bearing current_medium.super current_medium.bears refl }

      -- WHAT IT HAS DRAWN

      drew : (x : Superblock) (p : Location) (medium : Medium) → IsMediumOf (image j) p medium → IsSuperOf medium.cell x → x.slot ≡ j
          → x.array.geometry ≡ g → x.joined ≡ joined_in m.array j → ¬ IsLost (medium.cell 0) → ¬ IsLost (medium.cell 1) → m.array.epoch ≤ x.draw
      drew x p medium at super slot geometry joined first second =
          by (inside p x (record { medium = medium; is_one = at; bears = super_bears x super slot geometry }) joined)
        where
          own : HasOwn m h j
          own = (is.knows.own j here whole.attached).own

          by : p ≡ InSlot → m.array.epoch ≤ x.draw
          by in_slot =
              elim own.own [
                | inl harmed ↦ absurd (whole_cell (settled_left Damaged (image_cell) (subst (λ s. MayLeave s image_cell) harmed ((left j).each place))))
                | inr stands ↦
                    let holds : HoldsSuper image_cell (own_super m own.draw j) =
                    holds_copy image_cell (record { array = m.array; draw = own.draw }) j
                    (own_formed m own.draw j is.is_open.array.member here own.reached own.seen)
                    (settled_left (Good (spelled (own_super m own.draw j))) image_cell (subst (λ s. MayLeave s image_cell) stands ((left j).each place))) in
                    let no_older =
                    super_no_older ((image j).cell) x (own_super m own.draw j) place (omega arith)
                    (subst (λ (c : ℕ → Cell). IsSuperOf c x) (sym mine.1) super) holds in
                    let draws : own.draw ≤ x.draw = no_older.draws in
                    let reached : m.array.epoch ≤ own.draw = own.reached in
                    omega (arith, draws, reached)
              ]
            where
              place : ℕ
              place = 1 - place_of m j

              mine : IsMediumOf (image j) InSlot medium
              mine = subst (λ (q : Location). IsMediumOf (image j) q medium) in_slot at

              image_cell : Cell
              image_cell = (image j).cell (1 - place_of m j)

              kept_cell : (k : ℕ) → k < 2 → ¬ IsLost ((image j).cell k)
              kept_cell k small =
                  subst (λ (c : ℕ → Cell). ¬ IsLost (c k)) (sym mine.1)
                  (elim (cases_eq k 0) [
                    | inl zero ↦ subst (λ (l : ℕ). ¬ IsLost (medium.cell l)) (sym zero) first
                    | inr other ↦ subst (λ (l : ℕ). ¬ IsLost (medium.cell l)) (sym (let one : k ≡ 1 = omega (arith, small, other) in one)) second
                  ])

              whole_cell : ¬ (image_cell ≡ Damaged)
              whole_cell harmed = kept_cell (1 - place_of m j) (omega arith) (ByOutside harmed)

      reserved_own : CurrentMediumReserved g (joined_by m j) image j
      reserved_own joined current_medium p medium x at super slot geometry number first second i q t there =
          let its : joined ≡ joined_in m.array j = (let same : Some joined ≡ Some (joined_in m.array j) = sym current_medium ∙ own_number in cc) in
          let least : m.array.epoch ≤ x.draw = drew x p medium at super slot geometry (number ∙ its) first second in
          let most : t.array.epoch ≤ m.array.epoch = is.knows.latest image left i q t there in
          omega (arith, least, most)

      reserved_by : (i : ℕ) → CurrentMediumReserved g (current_media_of m) image i → CurrentMediumReserved g (joined_by m j) image i
      reserved_by i was =
          elim (cases_eq i j) [
            | inl same ↦ subst (λ (n : ℕ). CurrentMediumReserved g (joined_by m j) image n) (sym same) reserved_own
            | inr other ↦ λ joined current_medium. was joined (sym (other_number i other) ∙ current_medium)
          ]

      -- CONSISTENT by these holders

      names : (x : Superblock) → IsBorneSince g m.array.epoch image x → x.array ≡ m.array
      names = names_own s m h is.knows refl image left

      joined_consistent : IsConsistentBy s is.knows.is.encodings (joined_by m j) m.array.epoch image
      joined_consistent = record {
        overtaken = it.overtaken;
        reserved =
            all_but_mapped {P = CurrentMediumReserved g (current_media_of m) image} {Q = CurrentMediumReserved g (joined_by m j) image} (λ i below was. reserved_by i was)
            it.reserved;
        live = λ i x there lives.
            elim (cases_eq i j) [
              | inl same ↦
                  let never : mark.Rebuilding ≡ mark.Live =
                  sym marked ∙ sym (ap (λ (c : Configuration). mark_in c j) (names x there)) ∙ ap (mark_at x) (sym same) ∙ lives in
                  absurd (cc)
              | inr other ↦ other_number i other ∙ it.live i x there lives
            ];
        rebuilt = λ i joined x there rebuilds current_medium.
            elim (number_cases i joined current_medium) [
              | inl own ↦ own.1 ∙ sym (ap (λ (c : Configuration). joined_in c j) (names x there)) ∙ ap (joined_at x) (sym own.0)
              | inr other ↦ it.rebuilt i joined x there rebuilds other.1
            ];
        frozen = it.frozen;
        label = it.label;
        forms = λ to some reassembly current_media gate. forms to some reassembly (λ i has. held to i (current_media i has));
        full = λ to i reassembly current_medium. large to i reassembly (held to i current_medium);
        rebuilding = it.rebuilding;
        one_list = it.one_list;
        own_joined = it.own_joined;
      }
        where
          it : IsConsistentBy s is.knows.is.encodings (current_media_of m) m.array.epoch image
          it = is.knows.is.each image left

    -- IT BEGINS

    drawn_by : (i : ℕ) → HasDrawnAll m (current_media_of m) (image_now h) i → HasDrawnAll m (joined_by m j) (image_now h) i
    drawn_by i was = (
      reserved_by (image_now h) now i was.0,
      λ joined current_medium p medium x at super slot geometry number first second.
          elim (number_cases i joined current_medium) [
            | inr other ↦ was.1 joined other.1 p medium x at super slot geometry number first second
            | inl own ↦
                drew (image_now h) now x p medium (subst (λ (n : ℕ). IsMediumOf (image_now h n) p medium) own.0 at) super (slot ∙ own.0) geometry
                (number ∙ own.1) first second
          ],
    )
      where
        now : CrashMayLeave h (image_now h)
        now = CrashMayLeave-now h

    pub promotion_begins : BeginsWherever s (joined_by m j) m.array.epoch (Promote j) m h
    promotion_begins = record {
      history = is.history;
      member = is.is_open.array.member;
      geometry = refl;
      is = record {
        encodings = is.knows.is.encodings;
        each = λ image left. joined_consistent image left;
        seats = is.knows.is.seats;
        steady = is.knows.is.steady;
      };
      recent = omega arith;
      known = is.knows.known;
      supers = λ i taken on.
          elim taken [
            | inl there ↦ fence.supers i (inl there) on
            | inr joins ↦ absurd (let never : None ≡ Some i = joins.0 in cc)
          ];
      behind = record {
        forms = λ image left to some reassembly have gate. forms image left to some reassembly have;
        full = λ image left to i reassembly has. large image left to i reassembly has;
        rebuilding = fence.behind.rebuilding;
        laid = λ image left i redo joins on. let never : None ≡ Some i = joins in absurd (cc);
      };
      drawn =
          all_but_mapped {P = HasDrawnAll m (current_media_of m) (image_now h)} {Q = HasDrawnAll m (joined_by m j) (image_now h)}
          (λ i below was. drawn_by i was) fence.drawn;
      meant = record {
        taken = λ i n taken current_medium.
            elim (number_cases i n current_medium) [
              | inl own ↦ (subst (IsHere m) (sym own.0) here, own.1 ∙ ap (λ (k : ℕ). joined_in m.array k) (sym own.0))
              | inr other ↦
                  elim taken [
                    | inl there ↦ fence.meant.taken i n (inl there) other.1
                    | inr joins ↦ absurd (let never : None ≡ Some i = joins.0 in cc)
                  ]
            ];
        live = λ i lives.
            elim (cases_eq i j) [
              | inl same ↦
                  let never : mark.Rebuilding ≡ mark.Live = sym marked ∙ ap (λ (k : ℕ). mark_in m.array k) (sym same) ∙ lives in absurd (cc)
              | inr other ↦ other_number i other ∙ fence.meant.live i lives
            ];
        rebuilt = λ i n rebuilds current_medium.
            elim (number_cases i n current_medium) [
              | inl own ↦ own.1 ∙ ap (λ (k : ℕ). joined_in m.array k) (sym own.0)
              | inr other ↦ fence.meant.rebuilt i n rebuilds other.1
            ];
        promoted = λ i promotes.
            let at : j ≡ i = cc in subst (λ (n : ℕ). joined_by m j n ≡ Some (joined_in m.array n)) at own_number;
      };
      says = record { frozen = inl is.of.frozen; label = inl is.of.label; frozen_new = inl is.of.frozen; label_new = inl is.of.label };
    }

    pub promotion_closed : AreCurrentMediaClosed g (joined_by m j) m h
    promotion_closed image left to i reassembly has = (rests image left to reassembly i has).gate
