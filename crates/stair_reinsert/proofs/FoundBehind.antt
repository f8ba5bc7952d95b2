-- After the superblock places of media there lies at the end of a survey what lay there when it began, though media came back
-- meanwhile: of those that hold chunks or are rebuilt, and of those in use, whether their superblocks can be read still or not.
use Rattle.std.specs.Prelude.{Ok, IsSome}
use Rattle.std.proofs.Common.{◌≡◌, ℕ, ◌<◌, ◌≤◌, List, [], ◌⊎◌, inl, inr, refl, sym, ap, ◌∙◌, subst, arith, true, false, Option, None, Some, if◌then◌else◌, ◌==◌}
use Rattle.std.proofs.lemmas.Bool.{cases_Bool, cases_eq, cond-true, cond-false, eq-eqb, ne_eqb, false≢true}
use Rattle.stair_model.specs.Slots.{HasSlot, Slots}
use Rattle.stair_model.specs.Device.{gate_sector}
use Rattle.stair_model.specs.Geometry.{Geometry}
use Rattle.stair_rack.specs.Answers.{Ran, IsHistory}
use Rattle.stair_rack.specs.Media.{Image, Medium, SlotImage, has_sector}
use Rattle.stair_rack.specs.Crash.{CrashMayLeave, SlotMayLeave, image_now}
use Rattle.stair_rack.specs.Sector.{Cell, Damaged, MayLeave, Sector, content}
use Rattle.stair_rack.specs.Offline.{IsAttached}
use Rattle.stair_rack.specs.History.{Happening, slot_state}
use Rattle.stair_rack.specs.RackState.{RackState}
use Rattle.stair_rack.proofs.MomentLemmas.{ran_after, ran_before}
use Rattle.stair_rack.proofs.TidyLemmas.{HasSize, history_on, history_tidy, size_on}
use Rattle.stair_rack.proofs.KeptLemmas.{not_none}
use Rattle.stair_rack.proofs.CrashLemmas.{CrashMayLeave-now, nothing_unsynced, settled_left}
use Rattle.stair_super.specs.Superblock.{Superblock, joined_at, joined_in, mark_at, mark_in}
use Rattle.stair_super.specs.declared.mark.Mark.TheVariants.{Rebuilding}
use Rattle.stair_super.specs.declared.configuration.Configuration.{Configuration}
use Rattle.stair_member.specs.Membership.{IsHere, Membership}
use Rattle.stair_member.specs.Superblocks.{HoldsSuper}
use Rattle.stair_member.specs.Current.{HasMark, IsLost}
use Rattle.stair_member.specs.Survey.{IsSurveyed}
use Rattle.stair_member.specs.Reserve.{Bears}
use Rattle.stair_member.specs.declared.aim.EpochChange.TheVariants.{Fence}
use Rattle.stair_member.proofs.SuperLemmas.{counts_bears}
use Rattle.stair_member.proofs.CountingLemmas.{has_or_not}
use Rattle.stair_journal.specs.declared.redo.Redo.{Redo}
use Rattle.stair_state.specs.Reassembly.{Empty, InSlot, IsMediumOf, IsReassembledSlot, IsReassembly, Location, OneOf}
use Rattle.stair_state.specs.Holding.{CurrentMedia, IsBorneSince}
use Rattle.stair_state.specs.State.{State}
use Rattle.stair_state.specs.Represents.{IsLargeEnough, no_write}
use Rattle.stair_state.specs.Forms.{HasGate, IsOpen, RepresentsBy}
use Rattle.stair_state.specs.Degraded.{AreDamagedCopies}
use Rattle.stair_state.proofs.ReturnLemmas.{IsFrom, MediaCameFrom, New, Same, at_image, came_looking}
use Rattle.stair_state.proofs.FormLemmas.{good_whole, represents_still}
use Rattle.stair_state.proofs.OutsideLemmas.{slot_now, slot_now_left, steady_looks}
use Rattle.stair_state.proofs.DegradedLemmas.{holds_before, copies_again}
use Rattle.stair_journal.specs.Gate.{IsOpenWith}
use Rattle.stair_reinsert.specs.Following.{AreOfNamed, Blank, Kept, name_of}
use Rattle.stair_reinsert.specs.Behind.{Bearing, ByMedium, ByMember, HasCurrentMedium, HasNumber, InUse, IsKnownBehind, IsRebuiltAs}
use Rattle.stair_reinsert.proofs.BehindSince.{BoreThen, bore_then, reassembled_past}
use Rattle.stair_reinsert.proofs.KnownLemmas.{WasSurveyed, borne_before, borne_steady, is_history, looked, mine, surveyed}
use Rattle.stair_reinsert.proofs.OpeningBeginsMember.{named_since}
use Rattle.stair_reinsert.proofs.OpeningBeginsReads.{WasReadAt, found_marked, found_small, found_there, read_at}
use Rattle.stair_reinsert.proofs.NameLemmas.{name_apart, still_attached, attached_name}
use Rattle.stair_reinsert.proofs.WhereverLemmas.{looked_wherever}

-- SLOTS THAT HOLD MEDIA OF BEFORE

-- The slot holds a medium of before, of whose cells some may be damaged, and that bore a superblock then of whose joined number
-- this is so.
record IsOfThen (g : Geometry) (old : List Happening) (j : ℕ) (Means : ℕ → Type 0) (to : SlotImage) : Type 0 where
  was : SlotImage
  left : SlotMayLeave (slot_state old j) was
  place : Location
  medium : Medium
  is_one : IsMediumOf was place medium
  size : to.size ≡ Some medium.size
  copies : AreDamagedCopies medium.cell to.cell
  past : (k : ℕ) → has_sector to.size k ≡ false → to.cell k ≡ Damaged
  super : Superblock
  bears : Bears g j medium.cell super
  within : has_sector (Some medium.size) bears.place ≡ true
  means : Means super.joined

-- that superblock where it was, and else what there is now
with_super : (medium : Medium) → ℕ → SlotImage → SlotImage
with_super medium place to =
    record { size = to.size; cell = λ k. if k == place then medium.cell k else to.cell k; removed = to.removed }

module _ (medium : Medium) (place : ℕ) (to : SlotImage) where
  at_super : (with_super medium place to).cell place ≡ medium.cell place
  unfolding with_super
  at_super = cond-true _ _ _ (eq-eqb place place refl)

  beside_super : (k : ℕ) → ¬ (k ≡ place) → (with_super medium place to).cell k ≡ to.cell k
  unfolding with_super
  beside_super k other = cond-false _ _ _ (ne_eqb k place other)

  size_super : (with_super medium place to).size ≡ to.size
  unfolding with_super
  size_super = refl

  copies_super : AreDamagedCopies medium.cell to.cell → AreDamagedCopies medium.cell ((with_super medium place to).cell)
  copies_super copies k =
      elim (cases_eq k place) [
        | inl same ↦
            subst (λ (i : ℕ). ((with_super medium place to).cell i ≡ medium.cell i) ⊎ ((with_super medium place to).cell i ≡ Damaged)) (sym same)
            (inl at_super)
        | inr other ↦
            elim (copies k) [ inl is ↦ inl (beside_super k other ∙ is) | inr harmed ↦ inr (beside_super k other ∙ harmed) ]
      ]

  past_super : has_sector to.size place ≡ true → ((k : ℕ) → has_sector to.size k ≡ false → to.cell k ≡ Damaged) → (k : ℕ)
      → has_sector ((with_super medium place to).size) k ≡ false → (with_super medium place to).cell k ≡ Damaged
  past_super within past k none =
      let beyond : has_sector to.size k ≡ false = ap (λ (o : Option ℕ). has_sector o k) (sym size_super) ∙ none in
      elim (cases_eq k place) [
        | inl same ↦ absurd (false≢true (sym beyond ∙ ap (has_sector to.size) same ∙ within))
        | inr other ↦ beside_super k other ∙ past k beyond
      ]

module _ (g : Geometry) (old : List Happening) (to : Image) (some : ℕ → Type 0) (decided : (j : ℕ) → some j ⊎ (¬ some j))
    (Means : ℕ → ℕ → Type 0) (held : (j : ℕ) → some j → IsOfThen g old j (Means j) (to j)) where
  was_of : (j : ℕ) → some j ⊎ (¬ some j) → SlotImage
  was_of j (inl on) = (held j on).was
  was_of j (inr out) = image_now old j

  slot_of : (j : ℕ) → some j ⊎ (¬ some j) → SlotImage
  slot_of j (inl on) = with_super (held j on).medium (held j on).bears.place (to j)
  slot_of j (inr out) = record { size = None; cell = λ k. Damaged; removed = (to j).removed }

  abbrev first : Image
  first j = was_of j (decided j)

  abbrev back : Image
  back j = slot_of j (decided j)

  left_of : (j : ℕ) (which : some j ⊎ (¬ some j)) → SlotMayLeave (slot_state old j) (was_of j which)
  unfolding was_of
  left_of j (inl on) = (held j on).left
  left_of j (inr out) = CrashMayLeave-now old j

  first_left : CrashMayLeave old first
  first_left j = left_of j (decided j)

  reassembled_of : (j : ℕ) (which : some j ⊎ (¬ some j)) → IsReassembledSlot (was_of j which) (slot_of j which)
  unfolding was_of slot_of
  reassembled_of j (inl on) =
      let h = held j on in
      OneOf h.place h.medium h.is_one (size_super h.medium h.bears.place (to j) ∙ h.size) (copies_super h.medium h.bears.place (to j) h.copies)
      (past_super h.medium h.bears.place (to j) (ap (λ (o : Option ℕ). has_sector o h.bears.place) h.size ∙ h.within) h.past)
  reassembled_of j (inr out) = Empty refl (λ k. refl)

  back_reassembled : IsReassembly first back
  back_reassembled j = reassembled_of j (decided j)

  bears_of : (j : ℕ) (which : some j ⊎ (¬ some j)) → some j
      → (b : Superblock) × Bears g j ((slot_of j which).cell) b × Means j b.joined
  unfolding slot_of
  bears_of j (inr out) on = absurd (out on)
  bears_of j (inl at) on =
      let h = held j at in (
        h.super,
        record {
          place = h.bears.place;
          place_in = h.bears.place_in;
          holds = subst (λ (c : Cell). HoldsSuper c h.super) (sym (at_super h.medium h.bears.place (to j))) h.bears.holds;
          slot = h.bears.slot;
          identity = h.bears.identity;
        },
        h.means,
      )

  back_bears : (j : ℕ) → some j → (b : Superblock) × Bears g j ((back j).cell) b × Means j b.joined
  back_bears j on = bears_of j (decided j) on

  behind_of : (j k : ℕ) (which : some j ⊎ (¬ some j)) → some j → gate_sector ≤ k → (slot_of j which).cell k ≡ (to j).cell k
  unfolding slot_of
  behind_of j k (inr out) on behind = absurd (out on)
  behind_of j k (inl at) on behind =
      let h = held j at in
      let place_in : h.bears.place < 2 = h.bears.place_in in
      beside_super h.medium h.bears.place (to j) k (λ same. omega (arith, same, place_in, behind))

  back_behind : (j k : ℕ) → some j → gate_sector ≤ k → (back j).cell k ≡ (to j).cell k
  back_behind j k on behind = behind_of j k (decided j) on behind

  sized_of : (j : ℕ) (which : some j ⊎ (¬ some j)) → some j → (slot_of j which).size ≡ (to j).size
  unfolding slot_of
  sized_of j (inr out) on = absurd (out on)
  sized_of j (inl at) on = size_super (held j at).medium (held j at).bears.place (to j)

  back_size : (j : ℕ) → some j → (back j).size ≡ (to j).size
  back_size j on = sized_of j (decided j) on

-- what may be left of a sector of which nothing is unsynced
steady_left : (t : Sector) (cell : Cell) → t.since ≡ [] → MayLeave t cell → cell ≡ content t
steady_left t cell none may =
    let settled_so = nothing_unsynced t none in
    settled_left t.base cell (subst (λ s. MayLeave s cell) settled_so may) ∙ sym (ap content settled_so)

-- AFTER A SURVEY

module _ {s : State} {current_media : CurrentMedia} {since : ℕ} {before : List Happening} {old new : RackState} {m : Membership}
    (survey : WasSurveyed s current_media since before old new m) where
  open survey use {began, consistent, honest, surveys}

  abbrev g : Geometry
  g = s.geometry

  abbrev found : IsSurveyed surveys.findings m
  found = surveyed survey

  abbrev looks : Ran no_write old.history new.history
  looks = looked survey

  history_first : IsHistory old.history
  history_first = is_history survey

  same_geometry : m.array.geometry ≡ s.geometry
  same_geometry = mine survey

  -- A MEDIUM IN USE

  module _ (j : ℕ) (here : IsHere m j) (on : IsAttached new.history j) where
    has : HasMark m.array.geometry surveys.findings.image found.current (mark_at found.current j) j
    has = found_marked before old new (Ok m) surveys honest began m found j here

    held : Bears m.array.geometry j ((surveys.findings.image j).cell) has.super
    held = counts_bears m.array.geometry surveys.findings.image j has.super has.counts

    read : WasReadAt before old new (Ok m) surveys honest began j held.place
    read =
        read_at before old new (Ok m) surveys honest began j held.place (found_small before old new (Ok m) surveys honest began m found j here)
        held.place_in (found_there before old new (Ok m) surveys honest began m found j here)

    upto : Ran no_write old.history read.moment
    upto = ran_before looks read.is_one

    rest : Ran no_write read.moment new.history
    rest = ran_after looks read.is_one

    history_then : IsHistory read.moment
    history_then = history_on {allowed = no_write} history_first upto

    still : IsAttached read.moment j × ((slot_state new.history j).pulls ≡ (slot_state read.moment j).pulls)
    still = still_attached j read.after on

    has_size : IsSome (slot_state read.moment j).size
    has_size = (history_tidy history_then).attached j still.0

    same_size : (slot_state new.history j).size ≡ (slot_state read.moment j).size
    same_size =
        by
        (size_on {allowed = no_write} (slot_state read.moment j).pulls (slot_state read.moment j).size j has_size rest
        (HasSize.Same refl refl))
      where
        by : HasSize (slot_state read.moment j).pulls (slot_state read.moment j).size (slot_state new.history j)
            → (slot_state new.history j).size ≡ (slot_state read.moment j).size
        by (HasSize.Same pulls is) = is
        by (HasSize.Other less) = let same = still.1 in absurd (omega (arith, less, same))

    -- its superblock lay there when it was read
    held_then : HoldsSuper (content ((slot_state read.moment j).sector held.place)) has.super
    held_then = (read.shown.held has.super).1 held.holds

    below : j < s.geometry.n
    below = subst (λ (y : Geometry). j < y.n) same_geometry here.below

    inside_then : (size : ℕ) → (slot_state read.moment j).size ≡ Some size → has_sector (Some size) held.place ≡ true
    inside_then size is =
        elim (cases_Bool (has_sector (Some size) held.place)) [
          | inl within ↦ within
          | inr past ↦
              absurd
              (good_whole held_then.good
              (ap content
              ((history_tidy history_then).past_end j held.place (ap (λ (o : Option ℕ). has_sector o held.place) is ∙ past))))
        ]

    -- what a crash leaves of it was left of it then, but for damage
    record IsSinceRead (cell : ℕ → Cell) : Type 0 where
      was : SlotImage
      left : SlotMayLeave (slot_state read.moment j) was
      copies : AreDamagedCopies was.cell cell

    since_read : (image : Image) → CrashMayLeave new.history image → (size : ℕ) → (image j).size ≡ Some size → IsSinceRead ((image j).cell)
    since_read image left size is =
        by
        (looked_wherever read.moment new.history j (name_of read.moment j InSlot) history_then rest image left InSlot
        (record { size = size; cell = (image j).cell }) (is, refl) (attached_name j history_then read.after on))
      where
        by : AreOfNamed read.moment j (name_of read.moment j InSlot) ((image j).cell) → IsSinceRead ((image j).cell)
        by (Kept was place medium may at named copies) =
            let inside : place ≡ InSlot = name_apart read.moment j place InSlot named in
            let there_is : IsMediumOf was InSlot medium = subst (λ (p : Location). IsMediumOf was p medium) inside at in
            record {
              was = was;
              left = may;
              copies = subst (λ (c : ℕ → Cell). AreDamagedCopies c ((image j).cell)) (sym there_is.1) copies;
            }
        by (Blank all) =
            record { was = slot_now (slot_state read.moment j); left = slot_now_left (slot_state read.moment j); copies = λ k. inr (all k) }

    in_use : (image : Image) → CrashMayLeave new.history image → (to : SlotImage) (Means : ℕ → Type 0) → Means has.super.joined
        → to.size ≡ (image j).size → AreDamagedCopies ((image j).cell) to.cell → ((k : ℕ) → has_sector to.size k ≡ false → to.cell k ≡ Damaged)
        → IsOfThen s.geometry old.history j Means to
    in_use image left to Means means size copies past = sized (slot_state read.moment j).size refl
      where
        sized : (o : Option ℕ) → (slot_state read.moment j).size ≡ o → IsOfThen s.geometry old.history j Means to
        sized None none = absurd (not_none (slot_state read.moment j).size none has_size)
        sized (Some n) is = by (come.medium InSlot (record { size = n; cell = left_then.was.cell }) (left_then.left.size ∙ is, refl))
          where
            image_size : (image j).size ≡ Some n
            image_size = (left j).size ∙ same_size ∙ is

            left_then : IsSinceRead ((image j).cell)
            left_then = since_read image left n image_size

            come : MediaCameFrom (slot_state old.history j) left_then.was
            come = at_image (came_looking j upto) left_then.was left_then.left

            holds : HoldsSuper (left_then.was.cell held.place) has.super
            holds =
                subst (λ (c : Cell). HoldsSuper c has.super)
                (sym
                (steady_left ((slot_state read.moment j).sector held.place) (left_then.was.cell held.place)
                (steady_looks s.geometry old.history read.moment upto consistent.steady j held.place below held.place_in) (left_then.left.each held.place)))
                held_then

            by : IsFrom come.was (come.place InSlot) (record { size = n; cell = left_then.was.cell }) → IsOfThen s.geometry old.history j Means to
            by (Same earlier at same copied) = record {
              was = come.was;
              left = come.left;
              place = come.place InSlot;
              medium = earlier;
              is_one = at;
              size = size ∙ image_size ∙ ap Some (sym same);
              copies = copies_again (copies_again copied left_then.copies) copies;
              past = past;
              super = has.super;
              bears = record {
                place = held.place;
                place_in = held.place_in;
                holds = holds_before (copied held.place) holds;
                slot = held.slot;
                identity = held.identity ∙ same_geometry;
              };
              within = ap (λ (i : ℕ). has_sector (Some i) held.place) same ∙ inside_then n is;
              means = means;
            }
            by (New all) = absurd (good_whole holds.good (all held.place))

  -- A SLOT OF A REASSEMBLED IMAGE

  of_then : (image : Image) → CrashMayLeave new.history image → (to : Image) (j n : ℕ) (Means : ℕ → Type 0) → IsReassembledSlot (image j) (to j)
      → Means n → HasNumber s.geometry m new.history (image j) (to j) j n → IsOfThen s.geometry old.history j Means (to j)
  of_then image left to j n Means slot means (InUse here on same size copies) =
      let has = has j here on in
      in_use j here on image left (to j) Means
      (subst Means (same ∙ ap (λ (c : Configuration). joined_in c j) found.array ∙ sym has.joined) means) size copies
      (reassembled_past (image j) (to j) slot)
  of_then image left to j n Means slot means (Bearing b bears joined) = record {
    was = then.was;
    left = then.left;
    place = then.place;
    medium = then.medium;
    is_one = then.is_one;
    size = then.size;
    copies = then.copies;
    past = reassembled_past (image j) (to j) slot;
    super = b;
    bears = then.bears;
    within = then.within;
    means = subst Means (sym joined) means;
  }
    where
      then : BoreThen s.geometry old.history j (to j) b
      then = bore_then s.geometry old.history new.history looks image left to j slot b bears

  -- WHAT LIES BEHIND

  module _ (image : Image) (left : CrashMayLeave new.history image) (to : Image) (reassembly : IsReassembly image to) where
    abbrev Holds : ℕ → ℕ → Type 0
    Holds j n = current_media j ≡ Some n

    held_by : (j : ℕ) → HasCurrentMedium s.geometry current_media m new.history (image j) (to j) j → IsOfThen s.geometry old.history j (λ n. current_media j ≡ Some n) (to j)
    held_by j has = of_then image left to j has.joined (λ n. current_media j ≡ Some n) (reassembly j) has.current_medium has.number

    forms_found : (some : Slots) → ((j : ℕ) → HasSlot some j → HasCurrentMedium s.geometry current_media m new.history (image j) (to j) j) → HasGate (HasSlot some) to
        → RepresentsBy s.geometry consistent.encodings.old consistent.encodings.new (HasSlot some) to
    forms_found some have gate =
        represents_still s.geometry (HasSlot some) (HasSlot some) (back s.geometry old.history to (HasSlot some) (has_or_not some) Holds at) to (λ j on. on)
        (record { each = λ j k on behind_places. inl (sym (same j k on behind_places)) }) consistent.encodings.old consistent.encodings.new gate
        ((consistent.each (first s.geometry old.history to (HasSlot some) (has_or_not some) Holds at)
        (first_left s.geometry old.history to (HasSlot some) (has_or_not some) Holds at)).forms (back s.geometry old.history to (HasSlot some) (has_or_not some) Holds at) some
        (back_reassembled s.geometry old.history to (HasSlot some) (has_or_not some) Holds at)
        (λ j on. let b = back_bears s.geometry old.history to (HasSlot some) (has_or_not some) Holds at j on in record { super = b.0; bears = b.1; joined = b.2 })
        (record {
          slot = gate.slot;
          among = gate.among;
          kept = λ lost. gate.kept (subst (λ (c : Cell). IsLost c) (same gate.slot gate_sector gate.among (omega arith)) lost);
        }))
      where
        at : (j : ℕ) → HasSlot some j → IsOfThen s.geometry old.history j (Holds j) (to j)
        at j on = held_by j (have j on)

        same : (j k : ℕ) → HasSlot some j → gate_sector ≤ k → (back s.geometry old.history to (HasSlot some) (has_or_not some) Holds at j).cell k ≡ (to j).cell k
        same j k on behind = back_behind s.geometry old.history to (HasSlot some) (has_or_not some) Holds at j k on behind

    -- one slot by itself
    module _ (j : ℕ) (Means : ℕ → Type 0) (is : IsOfThen s.geometry old.history j Means (to j)) where
      only : (i : ℕ) → i ≡ j → IsOfThen s.geometry old.history i Means (to i)
      only i same = subst (λ (n : ℕ). IsOfThen s.geometry old.history n Means (to n)) (sym same) is

      abbrev alone : Image
      alone = back s.geometry old.history to (λ i. i ≡ j) (λ i. cases_eq i j) (λ i. Means) only

      abbrev alone_first : Image
      alone_first = first s.geometry old.history to (λ i. i ≡ j) (λ i. cases_eq i j) (λ i. Means) only

      alone_left : CrashMayLeave old.history alone_first
      alone_left = first_left s.geometry old.history to (λ i. i ≡ j) (λ i. cases_eq i j) (λ i. Means) only

      alone_reassembled : IsReassembly alone_first alone
      alone_reassembled = back_reassembled s.geometry old.history to (λ i. i ≡ j) (λ i. cases_eq i j) (λ i. Means) only

      alone_bears : (b : Superblock) × Bears s.geometry j ((alone j).cell) b × Means b.joined
      alone_bears = back_bears s.geometry old.history to (λ i. i ≡ j) (λ i. cases_eq i j) (λ i. Means) only j refl

      alone_size : (alone j).size ≡ (to j).size
      alone_size = back_size s.geometry old.history to (λ i. i ≡ j) (λ i. cases_eq i j) (λ i. Means) only j refl

      alone_gate : (alone j).cell gate_sector ≡ (to j).cell gate_sector
      alone_gate =
          back_behind s.geometry old.history to (λ i. i ≡ j) (λ i. cases_eq i j) (λ i. Means) only j gate_sector refl (omega arith)

    full_found : (j : ℕ) → HasCurrentMedium s.geometry current_media m new.history (image j) (to j) j → IsLargeEnough s.geometry (to j).size
    full_found j has =
        let at = held_by j has in
        let b = alone_bears j (Holds j) at in
        subst (λ (o : Option ℕ). IsLargeEnough s.geometry o) (alone_size j (Holds j) at)
        ((consistent.each (alone_first j (Holds j) at) (alone_left j (Holds j) at)).full (alone j (Holds j) at) j (alone_reassembled j (Holds j) at)
        (record { super = b.0; bears = b.1; joined = b.2 }))

    -- a superblock that marked the slot so was borne when the survey began
    record WasRebuilt (was : Image) (j n : ℕ) : Type 0 where
      by : Superblock
      borne : IsBorneSince s.geometry since was by
      marks : mark_at by j ≡ Rebuilding
      joined : joined_at by j ≡ n

    was_rebuilt : (was : Image) → CrashMayLeave old.history was → (j n : ℕ) → IsRebuiltAs s.geometry since m new.history j n → WasRebuilt was j n
    was_rebuilt was may j n (ByMember marks joined) = record {
      by = found.current;
      borne = named_since survey was may;
      marks = sym (ap (λ (c : Configuration). mark_in c j) found.array) ∙ marks;
      joined = sym (ap (λ (c : Configuration). joined_in c j) found.array) ∙ joined;
    }
    was_rebuilt was may j n (ByMedium a now marks joined) =
        let earlier =
        borne_before s.geometry old.history new.history (image_now new.history) now.slot now.place a history_first looks (CrashMayLeave-now new.history)
        now.borne in
        record {
          by = a;
          borne = record {
            slot = now.slot;
            place = earlier.place;
            borne = borne_steady s.geometry old.history earlier.was was consistent.steady earlier.left may now.slot earlier.place a earlier.borne;
            since_then = now.since_then;
          };
          marks = marks;
          joined = joined;
        }

    shut_found : (j n : ℕ) (redo : Redo) → IsRebuiltAs s.geometry since m new.history j n → HasNumber s.geometry m new.history (image j) (to j) j n
        → ¬ IsOpen s.geometry to j redo
    shut_found j n redo rebuilt number opened =
        let at = of_then image left to j n (λ i. i ≡ n) (reassembly j) refl number in
        let b = alone_bears j (λ i. i ≡ n) at in
        let was = was_rebuilt (alone_first j (λ i. i ≡ n) at) (alone_left j (λ i. i ≡ n) at) j n rebuilt in
        (consistent.each (alone_first j (λ i. i ≡ n) at) (alone_left j (λ i. i ≡ n) at)).rebuilding (alone j (λ i. i ≡ n) at) j was.by b.0 redo
        (alone_reassembled j (λ i. i ≡ n) at) was.borne was.marks b.1 (b.2 ∙ sym was.joined)
        (subst (λ (c : Cell). IsOpenWith s.geometry c redo) (sym (alone_gate j (λ i. i ≡ n) at)) opened)

  pub found_behind : IsKnownBehind s consistent.encodings current_media since Fence m new.history
  found_behind = record {
    forms = λ image left to some reassembly have gate. forms_found image left to reassembly some have gate;
    full = λ image left to j reassembly has. full_found image left to reassembly j has;
    rebuilding = λ image left to j n redo reassembly rebuilt number. shut_found image left to reassembly j n redo rebuilt number;
    laid = λ image left j redo joins on. absurd (cc);
  }
