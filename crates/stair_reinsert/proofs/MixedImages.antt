-- Images in which each slot is as it was at a moment of its own: they are reassemblies of what was there when the stretch began, and
-- what is tolerated of them is tolerated of each moment.
use Rattle.std.proofs.Common.{◌≡◌, ℕ, ◌<◌, List, ◌⊎◌, inl, inr, refl, sym, ap, ◌∙◌, subst, Option, None, Some, false}
use Rattle.stair_model.specs.Geometry.{Geometry}
use Rattle.stair_model.specs.Slots.{HasSlot}
use Rattle.stair_rack.specs.Answers.{IsHistory, Ran}
use Rattle.stair_rack.specs.Crash.{CrashMayLeave, SlotMayLeave}
use Rattle.stair_rack.specs.History.{Happening, SlotState, empty_slot, slot_state}
use Rattle.stair_rack.specs.Media.{Image, SlotImage, has_sector}
use Rattle.stair_rack.specs.Moments.{AtSomeMoment, IsMoment}
use Rattle.stair_rack.specs.Offline.{IsOffline}
use Rattle.stair_rack.specs.Sector.{Damaged, MayLeave}
use Rattle.stair_rack.proofs.CrashLemmas.{settled_left}
use Rattle.stair_rack.proofs.MomentLemmas.{ran_before}
use Rattle.stair_rack.proofs.TidyLemmas.{history_on, history_tidy}
use Rattle.stair_super.specs.Superblock.{Superblock}
use Rattle.stair_member.specs.Counting.{MoreThan}
use Rattle.stair_member.specs.Current.{IsCurrent, IsFailed, LostPlace, NotLive, Offline}
use Rattle.stair_member.specs.Reserve.{Bears, MayStand}
use Rattle.stair_member.proofs.CountingLemmas.{has_or_not}
use Rattle.stair_member.proofs.StandingLemmas.{has_current, serves_unless_failed}
use Rattle.stair_state.specs.Degraded.{AreDamagedCopies}
use Rattle.stair_state.specs.Reassembly.{Empty, InSlot, IsReassembledSlot, OneOf, Unwritten}
use Rattle.stair_state.specs.Represents.{no_write}
use Rattle.stair_state.specs.Tolerance.{IsTolerated, IsToleratedAlone, IsWithinTolerance}
use Rattle.stair_state.proofs.DegradedLemmas.{copies_again, copies_damaged}
use Rattle.stair_state.proofs.ExchangedLemmas.{slot_cases, slot_here, with_slot}
use Rattle.stair_state.proofs.OutsideLemmas.{slot_now, slot_now_left}
use Rattle.stair_state.proofs.ReturnLemmas.{IsFrom, MediaCameFrom, New, Same, at_image, came_looking}
use Rattle.stair_invariant.specs.Mixed.{AsAt, Away, IsMixed, IsMixedSlot, IsToleratedMixed, WasOffline}
use Rattle.stair_reinsert.specs.Misled.{Emptied, IsWorstSlot, Left}
use Rattle.stair_reinsert.specs.Counted.{HasBorne, IsToleratedCounted, IsToleratedCounting}
use Rattle.stair_reinsert.specs.Found.{IsToleratedReassembly}

-- A PART OF A STRETCH

-- what is tolerated over a stretch is so over each part of it,
module _ (g : Geometry) (before : List Happening) {old from h new : List Happening}
    (inside : (m : List Happening) → IsMoment from m h → IsMoment old m new) where
  some_inside : {P : List Happening → Type 0} → AtSomeMoment P from h → AtSomeMoment P old new
  some_inside some = record { moment = some.moment; is_one = inside some.moment some.is_one; holds = some.holds }

  slot_inside : (j : ℕ) (to : SlotImage) → IsMixedSlot before from h j to → IsMixedSlot before old new j to
  slot_inside j to (AsAt was some size cells) =
      AsAt was (some_inside some) size
      (λ k. elim (cells k) [
        | inl same ↦ inl same
        | inr harmed ↦ inr (harmed.0, elim harmed.1 [ inl damaged ↦ inl (some_inside damaged) | inr off ↦ inr (some_inside off) ])
      ])
  slot_inside j to (Away off size all) = Away (some_inside off) size all

  mixed_inside : (to : Image) → IsMixed before from h to → IsMixed before old new to
  mixed_inside to mixed j = slot_inside j (to j) (mixed j)

  pub tolerated_inside : IsToleratedMixed g before old new → IsToleratedMixed g before from h
  tolerated_inside is = record {
    identity = λ to mixed. is.identity to (mixed_inside to mixed);
    others = λ to other mixed. is.others to other (mixed_inside to mixed);
    failed = is.failed;
    formed = is.formed;
    few = is.few;
    within = λ to current j mixed. is.within to current j (mixed_inside to mixed);
    erased = is.erased;
    covered = is.covered;
    has = λ to t i j mixed. is.has to t i j (mixed_inside to mixed);
    journal = is.journal;
    journal_in = is.journal_in;
    journal_kept = is.journal_kept;
    whole = λ to k mixed. is.whole to k (mixed_inside to mixed);
  }

  -- by the same slots that count as failed
  pub inside_failed : (is : IsToleratedMixed g before old new) → (tolerated_inside is).failed ≡ is.failed
  unfolding tolerated_inside
  inside_failed is = refl

-- IMAGES OF ONE MOMENT

-- a slot as a crash at a moment may leave it
pub slot_mixed : {before old new : List Happening} (h : List Happening) (j : ℕ) (image : SlotImage) → IsMoment old h new
    → SlotMayLeave (slot_state h j) image → IsMixedSlot before old new j image
slot_mixed h j image at left = AsAt image (record { moment = h; is_one = at; holds = left }) refl (λ k. inl refl)

pub moment_mixed : {before old new : List Happening} (h : List Happening) (image : Image) → IsMoment old h new → CrashMayLeave h image
    → IsMixed before old new image
moment_mixed h image at left j = slot_mixed h j (image j) at (left j)

-- and with a slot emptied that was offline
abbrev pub emptied : Image → ℕ → Image
emptied image j = with_slot image j empty_slot

pub emptied_mixed : {before old new : List Happening} (image : Image) (j : ℕ) → IsMixed before old new image → WasOffline before old new j
    → IsMixed before old new (emptied image j)
emptied_mixed {before} {old} {new} image j mixed offline i =
    slot_cases (IsMixedSlot before old new) image j empty_slot i (Away offline refl (λ k. refl)) (λ other. mixed i)

pub emptied_none : (image : Image) (j : ℕ) → (emptied image j j).size ≡ None
emptied_none image j = ap (λ (slot : SlotImage). slot.size) (slot_here image j empty_slot)

module _ (g : Geometry) (before old new : List Happening) (tolerated : IsToleratedMixed g before old new) where
  -- a slot that was offline at some moment is one of those that count as failed
  pub offline_failed : (image : Image) (j : ℕ) → IsMixed before old new image → j < g.n → WasOffline before old new j → HasSlot tolerated.failed j
  offline_failed image j mixed below offline =
      let mixed_too = emptied_mixed image j mixed offline in
      let current = has_current g (emptied image j) (tolerated.identity (emptied image j) mixed_too).stands in
      tolerated.within (emptied image j) current.0 j mixed_too current.1 (Offline below (emptied_none image j))

  -- and so is one that has failed at a moment
  pub failed_failed : (h : List Happening) (image : Image) (current : Superblock) (j : ℕ) → IsMoment old h new → CrashMayLeave h image
      → IsCurrent g image current → IsFailed (IsOffline before h) g image current j → HasSlot tolerated.failed j
  failed_failed h image current j at left is (NotLive below not) =
      tolerated.within image current j (moment_mixed h image at left) is (NotLive below not)
  failed_failed h image current j at left is (LostPlace k below small lost) =
      tolerated.within image current j (moment_mixed h image at left) is (LostPlace k below small lost)
  failed_failed h image current j at left is (Offline below off) =
      offline_failed image j (moment_mixed h image at left) below (record { moment = h; is_one = at; holds = off })

  -- EACH MOMENT IS WITHIN TOLERANCE

  -- an image is, where the slots that have failed in it count as such
  within_tolerance : (offline : ℕ → Type 0) (image : Image) → IsMixed before old new image
      → ((current : Superblock) (j : ℕ) → IsCurrent g image current → IsFailed offline g image current j → HasSlot tolerated.failed j)
      → IsWithinTolerance offline g image
  within_tolerance offline image mixed failed =
      let identity = tolerated.identity image mixed in
      let current = has_current g image identity.stands in
      record {
        identity = identity;
        others = λ other. tolerated.others image other mixed;
        current = current.0;
        is_current = current.1;
        few = record {
          slots = tolerated.failed;
          formed = tolerated.formed;
          few = tolerated.few;
          within = λ j. failed current.0 j current.1;
        };
        stripes = λ t t_in. record {
          erased = tolerated.erased t;
          covered = tolerated.covered t t_in;
          has = λ i j i_in j_in out.
              tolerated.has image t i j mixed t_in i_in j_in
              (elim out [ inl has_failed ↦ inl (failed current.0 j current.1 has_failed) | inr harmed ↦ inr harmed ]);
        };
        journal_slot = tolerated.journal;
        journal = record {
          serves =
              serves_unless_failed g image current.0 tolerated.journal tolerated.journal_in
              (λ has_failed. tolerated.journal_kept (failed current.0 tolerated.journal current.1 has_failed));
          whole = λ k. tolerated.whole image k mixed;
        };
      }

  pub tolerated_at : (h : List Happening) → IsMoment old h new → IsTolerated g before h
  tolerated_at h at image left =
      within_tolerance (IsOffline before h) image (moment_mixed h image at left) (λ current j. failed_failed h image current j at left)

  -- ALSO COUNTED

  counting_at : (h : List Happening) (image : Image) → IsMoment old h new → CrashMayLeave h image
      → IsToleratedCounting tolerated.failed (IsOffline before h) g image
  counting_at h image at left =
      let mixed = moment_mixed {before = before} h image at left in
      let current = has_current g image (tolerated.identity image mixed).stands in
      record {
        current = current.0;
        is_current = current.1;
        has_failed = λ j. failed_failed h image current.0 j at left current.1;
        erased = tolerated.erased;
        covered = tolerated.covered;
        has = λ t i j. tolerated.has image t i j mixed;
        journal = tolerated.journal;
        journal_live =
            (serves_unless_failed {offline = IsOffline before h} g image current.0 tolerated.journal tolerated.journal_in
            (λ failed. tolerated.journal_kept (failed_failed h image current.0 tolerated.journal at left current.1 failed))).live;
        journal_kept = tolerated.journal_kept;
        whole = λ k. tolerated.whole image k mixed;
      }

  -- superblocks of one array, each at a moment of its own, are those of one image
  alone_at : (old_at : IsMoment old old new) (other : Geometry) → MoreThan other.m (HasBorne other old new) → other ≡ g
  alone_at old_at other many = tolerated.others together other (λ j. each_mixed j (has_or_not many.slots j)) stands
    where
      each_slot : (j : ℕ) → HasSlot many.slots j ⊎ (¬ HasSlot many.slots j) → SlotImage
      each_slot j (inl has) = (many.each j has).image
      each_slot j (inr not) = slot_now (slot_state old j)

      together : Image
      together j = each_slot j (has_or_not many.slots j)

      each_mixed : (j : ℕ) (which : HasSlot many.slots j ⊎ (¬ HasSlot many.slots j)) → IsMixedSlot before old new j (each_slot j which)
      each_mixed j (inl has) =
          let left = (many.each j has).left in AsAt (many.each j has).image left refl (λ k. inl refl)
      each_mixed j (inr not) = slot_mixed old j (slot_now (slot_state old j)) old_at (slot_now_left (slot_state old j))

      borne : (j : ℕ) (which : HasSlot many.slots j ⊎ (¬ HasSlot many.slots j)) → HasSlot many.slots j
          → (s : Superblock) × Bears other j ((each_slot j which).cell) s
      borne j (inl has) on = ((many.each j has).super, (many.each j has).bears)
      borne j (inr not) on = absurd (not on)

      stands : MayStand other together
      stands = record {
        slots = many.slots;
        formed = many.formed;
        many = many.many;
        each = λ j on. let it = borne j (has_or_not many.slots j) on in record { super = it.0; bears = it.1 };
      }

  pub counted : IsMoment old old new → IsToleratedCounted g before old new
  counted old_at = record {
    failed = tolerated.failed;
    formed = tolerated.formed;
    few = tolerated.few;
    each = λ h at image left. counting_at h image at left;
    alone = alone_at old_at;
  }

  -- A MIXED IMAGE IS TOLERATED ALONE

  pub mixed_alone : (to : Image) → IsMixed before old new to → IsToleratedAlone g to
  mixed_alone to mixed = within_tolerance (λ j. (to j).size ≡ None) to mixed (λ current j. tolerated.within to current j mixed)

-- WHAT IS WORST AT THE END IS A MIXED IMAGE

pub worst_mixed : {before old new : List Happening} (j : ℕ) (to : SlotImage) → IsMoment old new new → IsWorstSlot before old new j to
    → IsMixedSlot before old new j to
worst_mixed j to last (Emptied offline none all) = Away offline none all
worst_mixed {new} j to last (Left online was left size harmed cells) =
    AsAt was (record { moment = new; is_one = last; holds = left }) size
    (λ k. elim (cells k) [ inl same ↦ inl same | inr once ↦ inr (harmed k once, inl once) ])

-- A MIXED IMAGE IS A REASSEMBLY

-- of something that a crash might have left of the slot
record IsReassemblyOf (b : SlotState) (to : SlotImage) : Type 0 where
  was : SlotImage
  left : SlotMayLeave b was
  reassembled : IsReassembledSlot was to

module _ (before old new : List Happening) (history : IsHistory old) (ran : Ran no_write old new) where
  -- as it was at a moment, with some cells damaged
  as_at : (j : ℕ) (to was : SlotImage) (h : List Happening) → IsMoment old h new → SlotMayLeave (slot_state h j) was → to.size ≡ was.size
      → AreDamagedCopies was.cell to.cell → IsReassemblyOf (slot_state old j) to
  as_at j to was h at left size copies = at_size was.size refl
    where
      past : (k : ℕ) → has_sector to.size k ≡ false → to.cell k ≡ Damaged
      past k none =
          let b_size : has_sector (slot_state h j).size k ≡ false = ap (λ o. has_sector o k) (sym left.size ∙ sym size) ∙ none in
          let is = (history_tidy (history_on {allowed = no_write} history (ran_before ran at))).past_end j k b_size in
          let gone : was.cell k ≡ Damaged = settled_left Damaged (was.cell k) (subst (λ s. MayLeave s (was.cell k)) is (left.each k)) in
          elim (copies k) [ inl same ↦ same ∙ gone | inr harmed ↦ harmed ]

      come : MediaCameFrom (slot_state old j) was
      come = at_image (came_looking j (ran_before ran at)) was left

      of_medium : (n : ℕ) → was.size ≡ Some n → IsFrom come.was (come.place InSlot) (record { size = n; cell = was.cell })
          → IsReassemblyOf (slot_state old j) to
      of_medium n has (Same first is same copied) = record {
        was = come.was;
        left = come.left;
        reassembled = OneOf (come.place InSlot) first is (size ∙ has ∙ ap Some (sym same)) (copies_again copied copies) past;
      }
      of_medium n has (New all) = record {
        was = come.was;
        left = come.left;
        reassembled = Unwritten n (size ∙ has) (copies_damaged all copies);
      }

      at_size : (o : Option ℕ) → was.size ≡ o → IsReassemblyOf (slot_state old j) to
      at_size None none = record {
        was = come.was;
        left = come.left;
        reassembled = Empty (size ∙ none) (λ k. past k (ap (λ o. has_sector o k) (size ∙ none)));
      }
      at_size (Some n) has = of_medium n has (come.medium InSlot (record { size = n; cell = was.cell }) (has, refl))

  slot_reassembled : (j : ℕ) (to : SlotImage) → IsMixedSlot before old new j to → IsReassemblyOf (slot_state old j) to
  slot_reassembled j to (AsAt was moment size cells) =
      as_at j to was moment.moment moment.is_one moment.holds size
      (λ k. elim (cells k) [ inl same ↦ inl same | inr harmed ↦ inr harmed.0 ])
  slot_reassembled j to (Away moment none all) = record {
    was = slot_now (slot_state old j);
    left = slot_now_left (slot_state old j);
    reassembled = Empty none all;
  }

  pub mixed_reassembly : (g : Geometry) (to : Image) → IsToleratedMixed g before old new → IsMixed before old new to → IsToleratedReassembly g old to
  mixed_reassembly g to tolerated mixed = record {
    was = λ j. (slot_reassembled j (to j) (mixed j)).was;
    left = λ j. (slot_reassembled j (to j) (mixed j)).left;
    reassembled = λ j. (slot_reassembled j (to j) (mixed j)).reassembled;
    alone = mixed_alone g before old new tolerated to mixed;
  }
