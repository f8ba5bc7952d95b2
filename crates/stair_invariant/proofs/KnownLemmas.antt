-- What a member knows stays so while no superblock place is written.
use Rattle.std.proofs.Common.{◌≡◌, ◌≢◌, ℕ, ◌-◌, ◌<◌, ◌≤◌, List, [], ◌∷◌, ◌⊎◌, inl, inr, refl, sym, ap, ◌∙◌, subst, arith, Option, Some, None, slice_get}
use Rattle.std.specs.Prelude.{Bool, ◌&&◌, nat_lt, if◌then◌else◌, true, false}
use Rattle.std.proofs.lemmas.Bool.{false≢true, and_from, and_right, cases_lt, cond-true, cond-false, lt-ltb, le-ltb}
use Rattle.stair_model.specs.Geometry.{Geometry}
use Rattle.stair_rack.specs.Answers.{IsAnswered, IsBesideAttach, Ran}
use Rattle.stair_rack.specs.Crash.{CrashMayLeave, EachImage, image_now}
use Rattle.stair_rack.specs.History.{Happening, Made, Stopped, Acted, Called, SlotAct, Pulled, InsertedBlank, InsertedOld, SectorDamaged, SlotCall, Attach, Sectors, Read, Write, Sync, SlotState, after_act, after_call, slot_state}
use Rattle.stair_rack.specs.Media.{Image}
use Rattle.stair_rack.specs.Offline.{IsAttached, WasPulled}
use Rattle.stair_rack.specs.Outside.{IsAct}
use Rattle.stair_rack.specs.Sector.{Cell, Damaged, MayLeave, Sector, content, damaged, settled, synced, wrote}
use Rattle.stair_rack.specs.Stretch.{NothingReturned, ReturnsNothing}
use Rattle.stair_rack.specs.declared.rack.Reply.TheVariants as reply
use Rattle.stair_rack.proofs.CrashLemmas.{CrashMayLeave-now, nothing_unsynced, settled_left}
use Rattle.stair_rack.proofs.KeptLemmas.{with_old_cases, with_sector_cases}
use Rattle.stair_rack.proofs.MomentLemmas.{at_last}
use Rattle.stair_rack.proofs.StepLemmas.{kept, keeps_slot, slot_act_cases, slot_call_cases}
use Rattle.stair_rack.proofs.StretchLemmas.{kept_where}
use Rattle.stair_rack.proofs.TidyLemmas.{history_on}
use Rattle.stair_super.specs.Superblock.{Superblock, mark_in}
use Rattle.stair_super.specs.declared.mark.Mark.TheVariants.{Down}
use Rattle.stair_member.specs.Counting.{AllBut}
use Rattle.stair_member.specs.Current.{IsLost}
use Rattle.stair_member.specs.Epochs.{IsTaken}
use Rattle.stair_member.specs.Fencing.{HasDrawn, IsBegun, IsKnownTo, MayJoin}
use Rattle.stair_member.specs.Membership.{Membership, IsHere, place_of}
use Rattle.stair_member.specs.Reserve.{Bears, HasReached, HasReserved, IsOrderly}
use Rattle.stair_member.specs.Superblocks.{Counts, HoldsSuper}
use Rattle.stair_member.proofs.CountingLemmas.{all_but_mapped}
use Rattle.stair_member.proofs.EditionLemmas.{bears_below}
use Rattle.stair_member.proofs.SuperLemmas.{slot_below, super_cells, super_formed}
use Rattle.stair_state.specs.Degraded.{AreDamagedCopies}
use Rattle.stair_state.specs.Redoing.{AttachesNone}
use Rattle.stair_state.proofs.AgreeLemmas.{AgreeBelow, agree_back, bears_agree, counts_agree}
use Rattle.stair_state.proofs.DegradedLemmas.{bears_before, holds_before, orderly_copies}
use Rattle.stair_state.proofs.FormLemmas.{same_kept}
use Rattle.stair_invariant.specs.InSession.{IsBehindPlaces}

and_left : (a b : Bool) → a ≡ false → (a && b) ≡ false
and_left a b is = ap (λ (x : Bool). x && b) is

-- AN IMAGE WHOSE SUPERBLOCK PLACES ARE AS THEY WERE OR DAMAGED

-- the superblock places of the array's slots are as they were, or damaged
abbrev pub ArePlaceCopies : Geometry → Image → Image → Type 0
ArePlaceCopies g more less = (j k : ℕ) → j < g.n → k < 2 → ((less j).cell k ≡ (more j).cell k) ⊎ ((less j).cell k ≡ Damaged)

-- superblocks in order
pub orderly_agree : (g : Geometry) (a b : Image) → AgreeBelow g.n a b → IsOrderly g a → IsOrderly g b
orderly_agree g a b agree is = record {
  reserved =
      all_but_mapped {P = HasReserved g a} {Q = HasReserved g b}
      (λ j below has s counts first second i t bears.
      has s (back_counts j s counts) (whole j 0 below (omega arith) first) (whole j 1 below (omega arith) second) i t (back i t bears)) is.reserved;
  one_list = λ i j s t first second. is.one_list i j s t (back i s first) (back j t second);
  hidden = λ j s newest bears super.
      let below : j < g.n = bears_below g j ((b j).cell) s bears in
      let of =
      is.hidden j s newest (back j s bears)
      (super_cells ((b j).cell) ((a j).cell) newest (sym (agree j 0 below (omega arith))) (sym (agree j 1 below (omega arith))) super) in
      (counts_agree g g.n (omega arith) a b j newest agree of.0, of.1);
  hides = λ j s newest bears super live.
      let below : j < g.n = bears_below g j ((b j).cell) s bears in
      is.hides j s newest (back j s bears)
      (super_cells ((b j).cell) ((a j).cell) newest (sym (agree j 0 below (omega arith))) (sym (agree j 1 below (omega arith))) super) live;
  reached = λ i j s t first second less.
      all_but_mapped {P = HasReached g a s.array.epoch} {Q = HasReached g b s.array.epoch}
      (λ k below has u counts x y. has u (back_counts k u counts) (whole k 0 below (omega arith) x) (whole k 1 below (omega arith) y))
      (is.reached i j s t (back i s first) (back j t second) less);
  joined = λ i k j s t first second. is.joined i k j s t (back i s first) (back k t second);
}
  where
    back : (j : ℕ) (s : Superblock) → Bears g j ((b j).cell) s → Bears g j ((a j).cell) s
    back j s bears = bears_agree g g.n (omega arith) b a j s (agree_back g.n a b agree) bears

    back_counts : (j : ℕ) (s : Superblock) → Counts g b j s → Counts g a j s
    back_counts j s counts = counts_agree g g.n (omega arith) b a j s (agree_back g.n a b agree) counts

    whole : (j k : ℕ) → j < g.n → k < 2 → ¬ IsLost ((b j).cell k) → ¬ IsLost ((a j).cell k)
    whole j k below place fine lost = fine (subst IsLost (agree j k below place) lost)

module _ (joining : Option ℕ) (m : Membership) (more less : Image) (copies : ArePlaceCopies m.array.geometry more less) where
  -- the places of the one, and all else of the other
  mixed : Image
  mixed j = record { size = (less j).size; cell = λ k. if nat_lt j m.array.geometry.n && nat_lt k 2 then (less j).cell k else (more j).cell k; removed = (less j).removed }

  mixed_place : (j k : ℕ) → j < m.array.geometry.n → k < 2 → (mixed j).cell k ≡ (less j).cell k
  unfolding mixed
  mixed_place j k below place =
      cond-true _ _ _ (and_from (nat_lt j m.array.geometry.n) (nat_lt k 2) (lt-ltb j m.array.geometry.n below) (lt-ltb k 2 place))

  mixed_copies : (j : ℕ) → AreDamagedCopies (more j).cell (mixed j).cell
  unfolding mixed
  mixed_copies j k =
      elim (cases_lt k 2) [
        | inl place ↦
            elim (cases_lt j m.array.geometry.n) [
              | inl below ↦
                  elim (copies j k below place) [
                    | inl same ↦ inl (mixed_place j k below place ∙ same)
                    | inr harmed ↦ inr (mixed_place j k below place ∙ harmed)
                  ]
              | inr above ↦ inl (cond-false _ _ _ (and_left (nat_lt j m.array.geometry.n) (nat_lt k 2) (le-ltb j m.array.geometry.n (omega (arith, above)))))
            ]
        | inr behind ↦ inl (cond-false _ _ _ (and_right (nat_lt j m.array.geometry.n) (nat_lt k 2) (le-ltb k 2 (omega (arith, behind)))))
      ]

  agree : AgreeBelow m.array.geometry.n mixed less
  agree j k below place = mixed_place j k below place

  to_mixed : (j : ℕ) (s : Superblock) → Bears m.array.geometry j ((less j).cell) s → Bears m.array.geometry j ((mixed j).cell) s
  to_mixed j s bears = bears_agree m.array.geometry m.array.geometry.n (omega arith) less mixed j s (agree_back m.array.geometry.n mixed less agree) bears

  before : (j : ℕ) (s : Superblock) → Bears m.array.geometry j ((less j).cell) s → Bears m.array.geometry j ((more j).cell) s
  before j s bears = bears_before (mixed_copies j) (to_mixed j s bears)

  not_lost : (j k : ℕ) → j < m.array.geometry.n → k < 2 → ¬ IsLost ((less j).cell k) → ¬ IsLost ((more j).cell k)
  not_lost j k below place whole lost = whole (subst IsLost (sym (same_kept (copies j k below place) whole)) lost)

  before_counts : (j : ℕ) (s : Superblock) → ¬ IsLost ((less j).cell 0) → ¬ IsLost ((less j).cell 1) → Counts m.array.geometry less j s
      → Counts m.array.geometry more j s
  before_counts j s first second counts =
      let below : j < m.array.geometry.n = slot_below m.array.geometry less j s counts in
      record {
        super =
            super_cells ((less j).cell) ((more j).cell) s (same_kept (copies j 0 below (omega arith)) first)
            (same_kept (copies j 1 below (omega arith)) second)
            counts.super;
        slot = counts.slot;
        identity = counts.identity;
      }

  has_drawn : (epoch j : ℕ) → HasDrawn m.array.geometry more epoch j → HasDrawn m.array.geometry less epoch j
  has_drawn epoch j has s counts first second =
      let below : j < m.array.geometry.n = slot_below m.array.geometry less j s counts in
      has s (before_counts j s first second counts) (not_lost j 0 below (omega arith) first) (not_lost j 1 below (omega arith) second)

  pub has_reached : (epoch j : ℕ) → HasReached m.array.geometry more epoch j → HasReached m.array.geometry less epoch j
  has_reached epoch j has s counts first second =
      let below : j < m.array.geometry.n = slot_below m.array.geometry less j s counts in
      has s (before_counts j s first second counts) (not_lost j 0 below (omega arith) first) (not_lost j 1 below (omega arith) second)

  -- a slot that takes part and is attached was so before
  pub known_copies : (was now : ℕ → Type 0) → ((j : ℕ) → IsTaken joining m j → now j → was j) → IsKnownTo joining m was more
      → IsKnownTo joining m now less
  known_copies was now since is = record {
    orderly =
        orderly_agree m.array.geometry mixed less agree
        (orderly_copies m.array.geometry more mixed mixed_copies is.orderly);
    latest = λ j s bears. is.latest j s (before j s bears);
    named = λ j s bears. is.named j s (before j s bears);
    drawn = λ j k s taken attached place holds.
        is.drawn j k s taken (since j taken attached) place (holds_before (copies j k (taken_below j taken) place) holds);
    aside = λ j s here counts first second.
        let at : HoldsSuper ((more j).cell (1 - place_of m j)) s =
        is.aside j s here (before_counts j s first second counts) (not_lost j 0 here.below (omega arith) first) (not_lost j 1 here.below (omega arith) second) in
        subst (λ (c : Cell). HoldsSuper c s) (sym (place_kept j here.below first second)) at;
    own = λ j s here attached holds.
        is.own j s here (since j (inl here) attached) (holds_before (copies j (1 - place_of m j) here.below (omega arith)) holds);
    reserved =
        all_but_mapped {P = λ j. (joining ≢ Some j) × HasDrawn m.array.geometry more m.array.epoch j}
        {Q = λ j. (joining ≢ Some j) × HasDrawn m.array.geometry less m.array.epoch j} (λ j below has. (has.0, has_drawn m.array.epoch j has.1)) is.reserved;
    reached = λ i s bears earlier.
        all_but_mapped {P = λ j. (joining ≢ Some j) × HasReached m.array.geometry more s.array.epoch j}
        {Q = λ j. (joining ≢ Some j) × HasReached m.array.geometry less s.array.epoch j} (λ j below has. (has.0, has_reached s.array.epoch j has.1))
        (is.reached i s (before i s bears) earlier);
    joined = λ i j s bears. is.joined i j s (before i s bears);
  }
    where
      taken_below : (j : ℕ) → IsTaken joining m j → j < m.array.geometry.n
      taken_below j (inl here) = here.below
      taken_below j (inr joins) = joins.1

      place_kept : (j : ℕ) → j < m.array.geometry.n → ¬ IsLost ((less j).cell 0) → ¬ IsLost ((less j).cell 1) → (less j).cell (1 - place_of m j) ≡ (more j).cell (1 - place_of m j)
      place_kept j below first second =
          elim (cases_lt (1 - place_of m j) 1) [
            | inl is_zero ↦
                let at : 1 - place_of m j ≡ 0 = omega arith in
                subst (λ (k : ℕ). (less j).cell k ≡ (more j).cell k) (sym at) (same_kept (copies j 0 below (omega arith)) first)
            | inr is_one ↦
                let at : 1 - place_of m j ≡ 1 = omega arith in
                subst (λ (k : ℕ). (less j).cell k ≡ (more j).cell k) (sym at) (same_kept (copies j 1 below (omega arith)) second)
          ]

-- CALLS THAT WRITE NO SUPERBLOCK PLACE

-- nothing is unsynced in the place, and it is as it was or damaged
abbrev pub Stays : Cell → Sector → Type 0
Stays was s = (s ≡ settled was) ⊎ (s ≡ damaged)

stays_act : (was : Cell) (k : ℕ) (h : List Happening) (j : ℕ) (b : SlotState) (a : SlotAct) → ReturnsNothing h (Acted j a) → Stays was (b.sector k)
    → Stays was ((after_act a b).sector k)
stays_act was k h j b (Pulled medium) none is = inr refl
stays_act was k h j b (InsertedBlank size) none is = inr refl
stays_act was k h j b (InsertedOld i) none is = absurd none
stays_act was k h j b (SectorDamaged l) none is = with_sector_cases (Stays was) l k damaged b (λ at. inr refl) is

stays_call : (was : Cell) (k : ℕ) (j : ℕ) (b : SlotState) (c : SlotCall) → k < 2 → IsBehindPlaces j c → Stays was (b.sector k)
    → Stays was ((after_call c b).sector k)
stays_call was k j b (Attach reply.Done) place may is = is
stays_call was k j b (Attach reply.Gone) place may is = is
stays_call was k j b (Sectors size) place may is = is
stays_call was k j b (Read l answer) place may is = is
stays_call was k j b (Write l bytes reply.Done) place may is =
    with_sector_cases (Stays was) l k (wrote bytes (b.sector l)) b (λ at. absurd (omega (arith, at, place, may))) is
stays_call was k j b (Write l bytes reply.Gone) place may is = is
stays_call was k j b (Sync reply.Done) place may (inl same) = inl (ap synced same)
stays_call was k j b (Sync reply.Done) place may (inr harmed) = inr (ap synced harmed)
stays_call was k j b (Sync reply.Gone) place may is = is

pub place_stays : {old new : List Happening} (was : Cell) (j k : ℕ) → k < 2 → Ran IsBehindPlaces old new → NothingReturned old new
    → Stays was ((slot_state old j).sector k) → Stays was ((slot_state new j).sector k)
place_stays {old} {new} was j k place ran none start =
    at_last {P = λ h. Stays was ((slot_state h j).sector k)}
    (kept_where {P = ReturnsNothing} {allowed = IsBehindPlaces} {R = λ h. Stays was ((slot_state h j).sector k)} (record { act = on_act; call = on_call })
    ran none start)
  where
    on_act : (h : List Happening) (e : Happening) → IsAct h e → ReturnsNothing h e → Stays was ((slot_state h j).sector k)
        → Stays was ((slot_state (e ∷ h) j).sector k)
    on_act h (Made image) may nothing is = absurd may
    on_act h Stopped may nothing is = is
    on_act h (Acted i a) may nothing is =
        slot_act_cases (λ b. Stays was (b.sector k)) h i j a (λ same. stays_act was k h i (slot_state h j) a nothing is) is
    on_act h (Called i c) may nothing is = absurd may

    on_call : (h : List Happening) (i : ℕ) (c : SlotCall) → IsBehindPlaces i c → IsAnswered h i c → ReturnsNothing h (Called i c)
        → Stays was ((slot_state h j).sector k) → Stays was ((slot_state (Called i c ∷ h) j).sector k)
    on_call h i c may answered nothing is =
        slot_call_cases (λ b. Stays was (b.sector k)) h i j c (λ same. stays_call was k i (slot_state h j) c place may is) is

-- CALLS THAT ATTACH NONE OF SOME SLOTS

-- where the slot is attached it was so before, to the medium that it has
abbrev IsAsBefore : SlotState → SlotState → Type 0
IsAsBefore was b = b.attached ≡ true → (was.attached ≡ true) × ¬ (was.pulls < b.pulls)

as_before_act : (was b : SlotState) (a : SlotAct) → IsAsBefore was b → IsAsBefore was (after_act a b)
as_before_act was b (Pulled medium) is = λ attached. absurd (false≢true attached)
as_before_act was b (InsertedBlank size) is = is
as_before_act was b (InsertedOld i) is = with_old_cases (IsAsBefore was) i (slice_get b.removed i) b is (λ medium. is)
as_before_act was b (SectorDamaged k) is = is

as_before_call : (was b : SlotState) (c : SlotCall) → IsBesideAttach c → IsAsBefore was b → IsAsBefore was (after_call c b)
as_before_call was b (Attach answer) beside is = absurd beside
as_before_call was b (Sectors size) beside is = is
as_before_call was b (Read k answer) beside is = is
as_before_call was b (Write k bytes reply.Done) beside is = is
as_before_call was b (Write k bytes reply.Gone) beside is = is
as_before_call was b (Sync reply.Done) beside is = is
as_before_call was b (Sync reply.Gone) beside is = is

-- one that is attached at last was so at first, and its medium wasn't pulled
pub attached_before : {some : ℕ → Type 0} {old new : List Happening} (j : ℕ) → some j → Ran (AttachesNone some) old new → IsAttached new j
    → IsAttached old j × ¬ WasPulled old new j
attached_before {some} {old} {new} j is ran =
    kept {allowed = AttachesNone some} {P = λ h. IsAsBefore (slot_state old j) (slot_state h j)}
    (keeps_slot {allowed = AttachesNone some} {j = j} {R = IsAsBefore (slot_state old j)} (record {
      act = λ b a may before. as_before_act (slot_state old j) b a before;
      call = λ h c may answered before. as_before_call (slot_state old j) (slot_state h j) c (may is) before;
    })) ran (λ attached. (attached, λ pulled. omega (arith, pulled)))

-- THE MEMBER LATER ON

-- a call that establishes an epoch may begin later on
module _ (joining : Option ℕ) (m : Membership) (old new : List Happening) (begun : IsBegun joining m old) (ran : Ran IsBehindPlaces old new)
    (none : NothingReturned old new) where
  place_is : (j k : ℕ) → j < m.array.geometry.n → k < 2 → Stays ((image_now old j).cell k) ((slot_state new j).sector k)
  place_is j k below place =
      let s : Sector = (slot_state old j).sector k in
      let is : s ≡ settled s.base = nothing_unsynced s (begun.settled j k below place) in
      place_stays ((image_now old j).cell k) j k place ran none (inl (is ∙ ap settled (sym (ap content is))))

  -- what a crash leaves later has the places of the image before, or damage in them
  copies_then : (image : Image) → CrashMayLeave new image → ArePlaceCopies m.array.geometry (image_now old) image
  copies_then image left j k below place =
      elim (place_is j k below place) [
        | inl same ↦ inl (settled_left ((image_now old j).cell k) ((image j).cell k) (subst (λ s. MayLeave s ((image j).cell k)) same ((left j).each k)))
        | inr harmed ↦ inr (settled_left Damaged ((image j).cell k) (subst (λ s. MayLeave s ((image j).cell k)) harmed ((left j).each k)))
      ]

  settled_then : (was : Cell) (s : Sector) → Stays was s → s.since ≡ []
  settled_then was s (inl same) = ap (λ (x : Sector). x.since) same
  settled_then was s (inr harmed) = ap (λ (x : Sector). x.since) harmed

  -- where no slot that takes part, or is to be admitted, was attached meanwhile
  pub begun_on : Ran (AttachesNone (IsTaken joining m)) old new → IsBegun joining m new
  begun_on apart = record {
    history = history_on {allowed = IsBehindPlaces} begun.history ran;
    member = begun.member;
    settled = λ j k below place. settled_then ((image_now old j).cell k) ((slot_state new j).sector k) (place_is j k below place);
    down = begun.down;
    known = λ image left.
        known_copies joining m (image_now old) image (copies_then image left) (IsAttached old) (IsAttached new)
        (λ j taken attached. (attached_before {some = IsTaken joining m} j taken apart attached).0) (begun.known (image_now old) (CrashMayLeave-now old));
  }

  -- and all slots but m have still reached its epoch
  pub reached_on : (P : ℕ → Type 0) → AllBut m.array.geometry.n m.array.geometry.m (λ j. P j × HasReached m.array.geometry (image_now old) m.array.epoch j)
      → EachImage (λ image. AllBut m.array.geometry.n m.array.geometry.m (λ j. P j × HasReached m.array.geometry image m.array.epoch j)) new
  reached_on P have image left =
      all_but_mapped {P = λ j. P j × HasReached m.array.geometry (image_now old) m.array.epoch j}
      {Q = λ j. P j × HasReached m.array.geometry image m.array.epoch j}
      (λ j below has. (has.0, has_reached joining m (image_now old) image (copies_then image left) m.array.epoch j has.1)) have

-- AN ADMISSION IN A SESSION

-- In a session whose epoch stands an admission may begin, where no place of its slot holds a greater draw than was seen.
pub may_admit : (m : Membership) (j : ℕ) (h : List Happening) → IsBegun None m h
    → EachImage (λ image. AllBut m.array.geometry.n m.array.geometry.m (λ i. IsHere m i × HasReached m.array.geometry image m.array.epoch i)) h
    → MayJoin (Some j) m h → (j < m.array.geometry.n → mark_in m.array j ≡ Down) → IsBegun (Some j) m h
may_admit m j h begun reached joins down = record {
  history = begun.history;
  member = begun.member;
  settled = begun.settled;
  down = λ i joining below. let same : j ≡ i = cc in subst (λ k. k < m.array.geometry.n → mark_in m.array k ≡ Down) same down below;
  known = λ image left.
      let was = begun.known image left in
      let have = reached image left in
      record {
        orderly = was.orderly;
        latest = was.latest;
        named = was.named;
        drawn = λ i k s taken attached place holds.
            elim taken [
              | inl here ↦ was.drawn i k s (inl here) attached place holds
              | inr joining ↦ joins.drawn image left i k s joining.0 attached place holds
            ];
        aside = was.aside;
        own = was.own;
        reserved =
            all_but_mapped {P = λ i. IsHere m i × HasReached m.array.geometry image m.array.epoch i}
            {Q = λ i. (Some j ≢ Some i) × HasDrawn m.array.geometry image m.array.epoch i}
            (λ i below has. (λ same. joins.absent i same has.0, λ s counts first second. drawn_of image i s counts (has.1 s counts first second))) have;
        reached = λ i s bears less.
            all_but_mapped {P = λ k. IsHere m k × HasReached m.array.geometry image m.array.epoch k}
            {Q = λ k. (Some j ≢ Some k) × HasReached m.array.geometry image s.array.epoch k}
            (λ k below has. (
              λ same. joins.absent k same has.0,
              λ t counts first second. let least : m.array.epoch ≤ t.array.epoch = has.1 t counts first second in omega arith,
            )) have;
        joined = was.joined;
      };
}
  where
    drawn_of : (image : Image) (i : ℕ) (s : Superblock) → Counts m.array.geometry image i s → m.array.epoch ≤ s.array.epoch → m.array.epoch ≤ s.draw
    drawn_of image i s counts least =
        let within : s.array.epoch ≤ s.draw = (super_formed ((image i).cell) s counts.super).rules.drawn in
        omega arith
