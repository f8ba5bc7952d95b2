-- What is known after the superblock places is known still once a fence's epoch stands, of the slots that take part in it, and after calls
-- that write nothing.
use Rattle.std.proofs.Common.{List, None, Option, Some, ap, inl, inr, refl, subst, sym, ◌<◌, ◌∙◌, ◌≡◌, ◌≤◌, ◌⊎◌, ℕ, arith, false}
use Rattle.stair_model.specs.Device.{gate_sector}
use Rattle.stair_model.specs.Geometry.{Geometry}
use Rattle.stair_model.specs.Slots.{HasSlot, Slots}
use Rattle.stair_rack.specs.Answers.{IsHistory, IsNoAttach, Ran}
use Rattle.stair_rack.specs.Crash.{CrashMayLeave, SlotMayLeave, image_now}
use Rattle.stair_rack.specs.History.{Happening, SlotCall, slot_state}
use Rattle.stair_rack.specs.Media.{Image, Medium, SlotImage, has_sector}
use Rattle.stair_rack.specs.Offline.{IsAttached}
use Rattle.stair_rack.specs.Sector.{Damaged}
use Rattle.stair_rack.proofs.CrashLemmas.{CrashMayLeave-now}
use Rattle.stair_rack.proofs.KeptLemmas.{not_none}
use Rattle.stair_rack.proofs.MomentLemmas.{ran_weakened}
use Rattle.stair_rack.proofs.TidyLemmas.{HasSize, history_tidy, size_on}
use Rattle.stair_super.specs.Superblock.{joined_in, mark_in}
use Rattle.stair_super.specs.declared.configuration.Configuration.{Configuration}
use Rattle.stair_member.specs.Epochs.{IsIssuing}
use Rattle.stair_member.specs.Membership.{IsHere, IsMarkedFor, Membership, why_of}
use Rattle.stair_member.specs.Seats.{Seats}
use Rattle.stair_member.specs.declared.aim.EpochChange.TheVariants.{Fence}
use Rattle.stair_super.specs.declared.mark.Mark.TheVariants as mark
use Rattle.stair_member.specs.declared.why.Why.{Why}
use Rattle.stair_member.specs.declared.why.Why.TheVariants as why
use Rattle.stair_member.proofs.CountingLemmas.{has_or_not}
use Rattle.stair_journal.specs.declared.redo.Redo.{Redo}
use Rattle.stair_state.specs.Degraded.{AreAllDamaged}
use Rattle.stair_state.specs.Forms.{HasGate, IsOpen, RepresentsBy}
use Rattle.stair_state.specs.Holding.{CurrentMedia}
use Rattle.stair_state.specs.Reassembly.{InSlot, IsMediumOf, IsReassembly, Location}
use Rattle.stair_state.specs.Represents.{AreSteady, Encodings, IsLargeEnough, no_write}
use Rattle.stair_state.specs.State.{Change, Content, State}
use Rattle.stair_state.proofs.DegradedLemmas.{copies_again, copies_damaged}
use Rattle.stair_invariant.specs.Returning.{current_media_of}
use Rattle.stair_invariant.proofs.MidwayLemmas.{rebuilding_why, rebuilt_before}
use Rattle.stair_reinsert.specs.Beginning.{BeginsWherever, IsBesideMember, StandsWherever}
use Rattle.stair_reinsert.specs.Behind.{Bearing, ByMedium, ByMember, HasCurrentMedium, HasNumber, IsKnownBehind, IsRebuiltAs}
use Rattle.stair_reinsert.specs.Following.{AreOfNamed, Kept, name_of, Blank}
use Rattle.stair_reinsert.proofs.BehindSince.{BoreThen, IsStillSlot, bore_then, forms_still, reassembled_past, shut_still, still_at, WasInUse, Bore, large_still, number_of}
use Rattle.stair_reinsert.proofs.GivenLemmas.{issuing_ran}
use Rattle.stair_reinsert.proofs.KeptSince.{here_up, up_below}
use Rattle.stair_reinsert.proofs.KnownLemmas.{borne_before, borne_steady}
use Rattle.stair_reinsert.proofs.MediaSince.{IsCellSince, IsMediumSince, in_use}
use Rattle.stair_reinsert.proofs.NameLemmas.{attached_name, name_apart, still_attached}
use Rattle.stair_reinsert.proofs.StoodSince.{held_here, names_it, taken_up, less}
use Rattle.stair_reinsert.proofs.WhereverLemmas.{looked_wherever}

-- A SLOT IN USE

-- it holds, from the gate on, a copy of the medium that lay in it, or nothing that can be read
module _ (g : Geometry) (m : Membership) (old : List Happening) (j n : ℕ) (to : SlotImage) (here : IsHere m j) (used : IsAttached old j)
    (same : n ≡ joined_in m.array j) where
  blank_still : (size : ℕ) → (slot_state old j).size ≡ Some size → to.size ≡ Some size → AreAllDamaged to.cell → IsStillSlot g m old j n to
  blank_still size first now all = record {
    was = image_now old j;
    left = CrashMayLeave-now old j;
    place = InSlot;
    medium = record { size = size; cell = (image_now old j).cell };
    is_one = (first, refl);
    number = WasInUse refl here used same;
    size = now;
    past = λ k none. all k;
    copies = λ k behind. inr (all k);
  }

  copy_still : (was : SlotImage) → SlotMayLeave (slot_state old j) was → (place : Location) → place ≡ InSlot → (medium : Medium)
      → IsMediumOf was place medium → to.size ≡ Some medium.size → ((k : ℕ) → has_sector (Some medium.size) k ≡ false → to.cell k ≡ Damaged)
      → ((k : ℕ) → gate_sector ≤ k → (to.cell k ≡ medium.cell k) ⊎ (to.cell k ≡ Damaged)) → IsStillSlot g m old j n to
  copy_still was left place inside medium is_one size past copies = record {
    was = was;
    left = left;
    place = place;
    medium = medium;
    is_one = is_one;
    number = WasInUse inside here used same;
    size = size;
    past = past;
    copies = copies;
  }

-- as large as it was
size_still : {allowed : ℕ → SlotCall → Type 0} (old new : List Happening) (j : ℕ) → IsHistory old → Ran allowed old new → Ran (IsNoAttach j) old new
    → IsAttached new j → (slot_state new j).size ≡ (slot_state old j).size
size_still {allowed} old new j history ran alone on =
    let still = still_attached j alone on in
    by still.1
    (size_on {allowed = allowed} (slot_state old j).pulls (slot_state old j).size j ((history_tidy history).attached j still.0) ran
    (HasSize.Same refl refl))
  where
    by : (slot_state new j).pulls ≡ (slot_state old j).pulls → HasSize (slot_state old j).pulls (slot_state old j).size (slot_state new j)
        → (slot_state new j).size ≡ (slot_state old j).size
    by same (HasSize.Same pulls is) = is
    by same (HasSize.Other less) = absurd (omega (arith, less, same))

-- ONCE AN EPOCH STANDS

module _ (current_media : CurrentMedia) (since : ℕ) (m : Membership) (content : Content) (in_doubt : Option Change) (seats : Option Seats)
    (old : List Happening) where
  abbrev s : State
  s = record { geometry = m.array.geometry; content = content; in_doubt = in_doubt; seats = seats }

  module _ (begins : BeginsWherever s current_media since Fence m old) (gone : Slots) (last : Membership) (new : List Happening)
      (stands : StandsWherever Fence gone m last old new) where
    abbrev g : Geometry
    g = m.array.geometry

    alone : (j : ℕ) → Ran (IsNoAttach j) old new
    alone j = issuing_ran stands.issued.slots stands.issued.editions j stands.issued.ran

    -- who takes part did so before, by the same medium
    pub was_here : (j : ℕ) → IsHere last j → IsHere m j × (joined_in last.array j ≡ joined_in m.array j)
    was_here j here =
        elim (taken_up current_media since Fence m content in_doubt seats old begins gone last new stands (image_now new) (CrashMayLeave-now new) j here) [
          | inr joins ↦ let never : None ≡ Some j = joins in absurd (cc)
          | inl was ↦ (
            was.0,
            stands.established.aimed_at.joined j (subst (λ (y : Geometry). j < y.n) stands.established.stands.geometry here.below)
                (here_up last stands.member j here) was.1,
          )
        ]

    module _ (image : Image) (left : CrashMayLeave new image) (to : Image) (reassembly : IsReassembly image to) where
      still_of : (j n : ℕ) → IsHere last j → n ≡ joined_in last.array j → HasNumber g last new (image j) (to j) j n → IsStillSlot g m old j n (to j)
      still_of j n here means (Bearing b bears joined) =
          let was = was_here j here in
          subst (λ (i : ℕ). IsStillSlot g m old j i (to j)) joined
          (still_at s begins.is.encodings current_media since Fence m stands.issued.slots stands.issued.editions old new begins.history stands.issued.ran begins.behind image left
          to reassembly j b bears (λ copy. (was.0, joined ∙ means ∙ was.1)))
      still_of j n here means (HasNumber.InUse is on joined size copies) = sized (slot_state old j).size refl
        where
          used : IsAttached old j
          used = (still_attached j (alone j) on).0

          mine : n ≡ joined_in m.array j
          mine = means ∙ (was_here j here).1

          sized : (o : Option ℕ) → (slot_state old j).size ≡ o → IsStillSlot g m old j n (to j)
          sized None none = absurd (not_none (slot_state old j).size none ((history_tidy begins.history).attached j used))
          sized (Some l) first =
              by
              (in_use stands.issued.slots stands.issued.editions old j new begins.history stands.issued.ran on (image j) (left j) l sized_now)
            where
              sized_now : (image j).size ≡ Some l
              sized_now =
                  (left j).size ∙ size_still {allowed = IsIssuing stands.issued.slots stands.issued.editions} old new j begins.history stands.issued.ran (alone j) on ∙ first

              by : IsMediumSince stands.issued.slots stands.issued.editions old j (name_of old j InSlot) l ((image j).cell) → IsStillSlot g m old j n (to j)
              by (IsMediumSince.New all) =
                  blank_still g m old j n (to j) (was_here j here).0 used mine l first (size ∙ sized_now) (copies_damaged all copies)
              by (IsMediumSince.Same was place medium may at named same cells) =
                  copy_still g m old j n (to j) (was_here j here).0 used mine was may place (name_apart old j place InSlot named) medium at
                  (size ∙ sized_now ∙ ap Some (sym same))
                  (λ k none.
                  reassembled_past (image j) (to j) (reassembly j) k
                  (ap (λ (o : Option ℕ). has_sector o k) (size ∙ sized_now ∙ ap Some (sym same)) ∙ none))
                  (λ k behind. copied k behind (copies k) (cells k))
                where
                  copied : (k : ℕ) → gate_sector ≤ k → ((to j).cell k ≡ (image j).cell k) ⊎ ((to j).cell k ≡ Damaged)
                      → IsCellSince stands.issued.slots stands.issued.editions old j place k (medium.cell k) ((image j).cell k)
                      → ((to j).cell k ≡ medium.cell k) ⊎ ((to j).cell k ≡ Damaged)
                  copied k behind (inr harmed) since = inr harmed
                  copied k behind (inl copy) (IsCellSince.IsStill still) = inl (copy ∙ still)
                  copied k behind (inl copy) (IsCellSince.IsHarmed harmed) = inr (copy ∙ harmed)
                  copied k behind (inl copy) (IsCellSince.IsWritten inside was_used wrote) = let small : k < 2 = wrote.0 in absurd (omega (arith, small, behind))

      -- a slot that has the number of one of the new holders
      has_still : (j : ℕ) (has : HasCurrentMedium g (current_media_of last) last new (image j) (to j) j) → IsStillSlot g m old j has.joined (to j)
      has_still j has =
          let held = held_here last j has.joined has.current_medium in
          still_of j has.joined (record { below = held.below; why = inl held.here }) held.number has.number

      held_first : (j : ℕ) (has : HasCurrentMedium g (current_media_of last) last new (image j) (to j) j) → current_media j ≡ Some has.joined
      held_first j has =
          less current_media since Fence m content in_doubt seats old begins gone last new stands image left j has.joined has.current_medium

      abbrev number : ℕ → ℕ
      number j = number_of (current_media_of last j)

      forms_stood : (some : Slots) → ((j : ℕ) → HasSlot some j → HasCurrentMedium g (current_media_of last) last new (image j) (to j) j) → HasGate (HasSlot some) to
          → RepresentsBy g begins.is.encodings.old begins.is.encodings.new (HasSlot some) to
      forms_stood some have gate =
          forms_still s begins.is.encodings current_media since Fence m old begins.behind to some number
          (λ j on. subst (λ (i : ℕ). IsStillSlot g m old j i (to j)) (sym (ap number_of (have j on).current_medium)) (has_still j (have j on)))
          (λ j on. held_first j (have j on) ∙ ap Some (sym (ap number_of (have j on).current_medium))) gate

      full_stood : (j : ℕ) → HasCurrentMedium g (current_media_of last) last new (image j) (to j) j → IsLargeEnough g (to j).size
      full_stood j has =
          large_still s begins.is.encodings current_media since Fence m old begins.behind to j has.joined (has_still j has) (held_first j has)

      -- a slot that an epoch since this one marks so is rebuilt to its member
      rebuilt_by : (j n : ℕ) → IsRebuiltAs g last.array.epoch last new j n → (mark_in last.array j ≡ mark.Rebuilding) × (joined_in last.array j ≡ n)
      rebuilt_by j n (ByMember marked joined) = (marked, joined)
      rebuilt_by j n (ByMedium x there marked joined) =
          let names =
          names_it current_media since Fence m content in_doubt seats old begins gone last new stands (image_now new) (CrashMayLeave-now new) x there in
          (sym (ap (λ (c : Configuration). mark_in c j) names) ∙ marked, sym (ap (λ (c : Configuration). joined_in c j) names) ∙ joined)

      shut_stood : (j n : ℕ) (redo : Redo) → IsRebuiltAs g last.array.epoch last new j n → HasNumber g last new (image j) (to j) j n → ¬ IsOpen g to j redo
      shut_stood j n redo rebuilt number =
          shut_still s begins.is.encodings current_media since Fence m old begins.behind to j n (still_of j n here (sym is.1) number)
          (ByMember marked_then (sym (was_here j here).1 ∙ is.1)) redo
        where
          is : (mark_in last.array j ≡ mark.Rebuilding) × (joined_in last.array j ≡ n)
          is = rebuilt_by j n rebuilt

          below : j < g.n
          below =
              subst (λ (y : Geometry). j < y.n) stands.established.stands.geometry
              (up_below last.array j (record { rules = stands.member.array; marks = stands.member.sizes.marks })
              (λ down. let never : mark.Rebuilding ≡ mark.Down = sym is.0 ∙ down in cc))

          why_then : why_of last j ≡ why.Rebuilding
          why_then = rebuilding_why (why_of last j) (sym (stands.established.stands.marks j below) ∙ is.0)

          here : IsHere last j
          here = record { below = subst (λ (y : Geometry). j < y.n) (sym stands.established.stands.geometry) below; why = inr why_then }

          gone_no_more : ¬ (why.Gone ≡ why.Rebuilding)
          gone_no_more same = cc

          why_first : why_of m j ≡ why.Rebuilding
          why_first =
              elim (has_or_not gone j) [
                | inl out ↦ absurd (gone_no_more (sym (stands.dropped j out) ∙ why_then))
                | inr stays ↦
                    elim (rebuilt_before Fence j (why_of m j) (sym (stands.established.whys j below stays) ∙ why_then)) [
                      | inl was ↦ was
                      | inr joins ↦ let never : None ≡ Some j = joins in absurd (cc)
                    ]
              ]

          marked_then : mark_in m.array j ≡ mark.Rebuilding
          marked_then = subst (λ (w : Why). IsMarkedFor w (mark_in m.array j)) why_first (begins.member.marked j below)

    pub stands_behind : IsKnownBehind s begins.is.encodings (current_media_of last) last.array.epoch Fence last new
    stands_behind = record {
      forms = λ image left to some reassembly have gate. forms_stood image left to reassembly some have gate;
      full = λ image left to j reassembly has. full_stood image left to reassembly j has;
      rebuilding = λ image left to j n redo reassembly rebuilt number. shut_stood image left to reassembly j n redo rebuilt number;
      laid = λ image left j redo joins on. absurd (cc);
    }

-- AFTER CALLS THAT WRITE NOTHING

module _ (m : Membership) (old new : List Happening) (history : IsHistory old) (ran : Ran (IsBesideMember m) old new) where
  looked : Ran no_write old new
  looked = ran_weakened {allowed = IsBesideMember m} {more = no_write} (λ j c is. is.writes) ran

  spared : (j : ℕ) → IsHere m j → Ran (IsNoAttach j) old new
  spared j here =
      ran_weakened {allowed = IsBesideMember m} {more = IsNoAttach j} (λ i c is same. is.attaches (subst (λ (n : ℕ). IsHere m n) (sym same) here)) ran

  module _ (g : Geometry) (image : Image) (left : CrashMayLeave new image) (to : Image) (reassembly : IsReassembly image to) where
    still_looked : (j n : ℕ) → HasNumber g m new (image j) (to j) j n → IsStillSlot g m old j n (to j)
    still_looked j n (Bearing b bears joined) = record {
      was = then.was;
      left = then.left;
      place = then.place;
      medium = then.medium;
      is_one = then.is_one;
      number = Bore b then.bears joined then.within;
      size = then.size;
      past = λ k none. reassembled_past (image j) (to j) (reassembly j) k (ap (λ (o : Option ℕ). has_sector o k) then.size ∙ none);
      copies = λ k behind. then.copies k;
    }
      where
        then : BoreThen g old j (to j) b
        then = bore_then g old new looked image left to j (reassembly j) b bears
    still_looked j n (HasNumber.InUse here on joined size copies) = sized (slot_state old j).size refl
      where
        used : IsAttached old j
        used = (still_attached j (spared j here) on).0

        sized : (o : Option ℕ) → (slot_state old j).size ≡ o → IsStillSlot g m old j n (to j)
        sized None none = absurd (not_none (slot_state old j).size none ((history_tidy history).attached j used))
        sized (Some l) first =
            by
            (looked_wherever old new j (name_of old j InSlot) history looked image left InSlot (record { size = l; cell = (image j).cell })
            (sized_now, refl) (attached_name j history (spared j here) on))
          where
            sized_now : (image j).size ≡ Some l
            sized_now = (left j).size ∙ size_still {allowed = IsBesideMember m} old new j history ran (spared j here) on ∙ first

            by : AreOfNamed old j (name_of old j InSlot) ((image j).cell) → IsStillSlot g m old j n (to j)
            by (Blank all) = blank_still g m old j n (to j) here used joined l first (size ∙ sized_now) (copies_damaged all copies)
            by (Kept was place medium may at named copied) =
                copy_still g m old j n (to j) here used joined was may place inside medium at (to_size)
                (λ k none. reassembled_past (image j) (to j) (reassembly j) k (ap (λ (o : Option ℕ). has_sector o k) to_size ∙ none))
                (λ k behind. copies_again copied copies k)
              where
                inside : place ≡ InSlot
                inside = name_apart old j place InSlot named

                there : IsMediumOf was InSlot medium
                there = subst (λ (p : Location). IsMediumOf was p medium) inside at

                to_size : (to j).size ≡ Some medium.size
                to_size = size ∙ sized_now ∙ sym first ∙ sym may.size ∙ there.0

  module _ (s : State) (encodings : Encodings s) (current_media : CurrentMedia) (since : ℕ) (steady : AreSteady s.geometry old)
      (behind : IsKnownBehind s encodings current_media since Fence m old) where
    rebuilt_before_looks : (j n : ℕ) → IsRebuiltAs s.geometry since m new j n → IsRebuiltAs s.geometry since m old j n
    rebuilt_before_looks j n (ByMember marked joined) = ByMember marked joined
    rebuilt_before_looks j n (ByMedium a now marked joined) =
        let earlier = borne_before s.geometry old new (image_now new) now.slot now.place a history looked (CrashMayLeave-now new) now.borne in
        ByMedium a
        (record {
          slot = now.slot;
          place = earlier.place;
          borne = borne_steady s.geometry old earlier.was (image_now old) steady earlier.left (CrashMayLeave-now old) now.slot earlier.place a earlier.borne;
          since_then = now.since_then;
        }) marked joined

    pub looked_behind : IsKnownBehind s encodings current_media since Fence m new
    looked_behind = record {
      forms = λ image left to some reassembly have gate.
          forms_still s encodings current_media since Fence m old behind to some (λ j. number_of (current_media j))
          (λ j on.
          subst (λ (i : ℕ). IsStillSlot s.geometry m old j i (to j)) (sym (ap number_of (have j on).current_medium))
          (still_looked s.geometry image left to reassembly j (have j on).joined (have j on).number))
          (λ j on. (have j on).current_medium ∙ ap Some (sym (ap number_of (have j on).current_medium))) gate;
      full = λ image left to j reassembly has.
          large_still s encodings current_media since Fence m old behind to j has.joined
          (still_looked s.geometry image left to reassembly j has.joined has.number) has.current_medium;
      rebuilding = λ image left to j n redo reassembly rebuilt number.
          shut_still s encodings current_media since Fence m old behind to j n (still_looked s.geometry image left to reassembly j n number)
          (rebuilt_before_looks j n rebuilt) redo;
      laid = λ image left j redo joins on. absurd (cc);
    }
