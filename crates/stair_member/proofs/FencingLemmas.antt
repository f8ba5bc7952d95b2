-- Which superblocks a crash may leave while an epoch is established, and which is current.
use Rattle.std.proofs.Common.{◌≡◌, ℕ, ◌<◌, ◌≤◌, List, inl, inr, refl, ap, subst, arith}
use Rattle.std.specs.Prelude.{Contains}
use Rattle.std.proofs.lemmas.Bool.{cases_lt}
use Rattle.stair_model.specs.Slots.{Slots}
use Rattle.stair_rack.specs.Crash.{CrashMayLeave, image_now}
use Rattle.stair_rack.specs.History.{Happening, SlotState, slot_state}
use Rattle.stair_rack.specs.Media.{Image}
use Rattle.stair_rack.specs.Offline.{IsAttached, IsKept, Here, Lost}
use Rattle.stair_rack.specs.Sector.{Cell, Good, Damaged, MayLeave, settled}
use Rattle.stair_rack.proofs.CrashLemmas.{CrashMayLeave-now, settled_left}
use Rattle.stair_rack.proofs.MomentLemmas.{at_moment}
use Rattle.stair_rack.proofs.TidyLemmas.{history_tidy}
use Rattle.stair_super.specs.Spelling.{spelled}
use Rattle.stair_super.specs.Superblock.{Superblock}
use Rattle.stair_member.specs.Aims.{admitted}
use Rattle.stair_member.specs.Counting.{AtMost, AllBut}
use Rattle.stair_member.specs.Current.{IsCurrent, IsFailed, IsLost, ByOutside, Serves}
use Rattle.stair_member.specs.Editions.{Edition, copy_of}
use Rattle.stair_member.specs.Epochs.{AreReserved, HasDraw}
use Rattle.stair_member.specs.Fencing.{IsFencing, IsKnownTo}
use Rattle.stair_member.specs.Membership.{Membership}
use Rattle.stair_member.specs.Reserve.{Bears}
use Rattle.stair_member.specs.Superblocks.{HoldsSuper, IsSuperOf, Counts}
use Rattle.stair_member.specs.declared.aim.EpochChange.{EpochChange}
use Rattle.stair_member.proofs.CountingLemmas.{common}
use Rattle.stair_member.proofs.EditionLemmas.{Comes, Stayed, Harmed, Cut, Wrote, IsOf, Entry, Issue, IsWritable, SlotComes, SameMedium, NothingThere, bears_below, bears_of, held_of, holds_copy, slot_comes, writable_or_not}
use Rattle.stair_member.proofs.NewestLemmas.{IsNoOlder, super_no_older}
use Rattle.stair_member.proofs.StandingLemmas.{others}
use Rattle.stair_member.proofs.SuperLemmas.{counts_bears, slot_below, super_cells}

-- no superblock place of these cells is lost
abbrev pub IsWhole : (ℕ → Cell) → Type 0
IsWhole cell = (k : ℕ) → k < 2 → ¬ IsLost (cell k)

-- where the medium wasn't pulled and a place isn't lost, what stands on the disk is there
pub on_disk : (pulls k : ℕ) (c cell : Cell) (b : SlotState) → b.pulls ≡ pulls → MayLeave (b.sector k) cell → ¬ IsLost cell
    → IsKept pulls k (λ s. s ≡ settled c) b → cell ≡ c
on_disk pulls k c cell b same left whole (Here _ some (inl is)) =
    absurd (whole (ByOutside (settled_left Damaged cell (subst (λ s. MayLeave s cell) is left))))
on_disk pulls k c cell b same left whole (Here _ some (inr is)) = settled_left c cell (subst (λ s. MayLeave s cell) is left)
on_disk pulls k c cell b same left whole (Lost less) = absurd (omega arith)

-- at least this draw, and where that is a new one at least this epoch
pub record Reaches (m : Membership) (draw epoch : ℕ) (s : Superblock) : Type 0 where
  pub draws : draw ≤ s.draw
  pub epochs : m.drawn < draw → epoch ≤ s.array.epoch

-- what the member knew when the call began
pub known : {aim : EpochChange} {gone : Slots} {m last : Membership} {old h new : List Happening} → IsFencing aim gone m last old h new
    → IsKnownTo (admitted aim) m (IsAttached old) (image_now old)
known {old = old} f = f.begun.known (image_now old) (CrashMayLeave-now old)

module _ (aim : EpochChange) (gone : Slots) (m last : Membership) (old h new : List Happening) (f : IsFencing aim gone m last old h new)
    (image : Image) (left : CrashMayLeave h image)
    (r : AreReserved (admitted aim) f.issued.slots f.issued.editions m old h) where
  pub comes : (j : ℕ) → j < m.array.geometry.n
      → SlotComes (IsWritable f.issued.slots old) r.editions j (slot_state old j).pulls (slot_state h j) ((image_now old j).cell) ((image j).cell)
  comes j below =
      slot_comes f.issued.slots r.editions old h image j (history_tidy f.begun.history) (λ k lt. f.begun.settled j k below lt)
      r.ran f.returned left

  pub from : (j : ℕ) (s : Superblock) → (bears : Bears m.array.geometry j ((image j).cell) s)
      → IsOf (IsWritable f.issued.slots old) r.editions j ((image_now old j).cell bears.place) s
  from j s bears =
      bears_of (IsWritable f.issued.slots old) r.editions j (slot_state old j).pulls (slot_state h j) ((image_now old j).cell) ((image j).cell)
      m.array.geometry s (comes j (bears_below m.array.geometry j ((image j).cell) s bears)) bears

  -- a slot no place of which is lost has the medium that it had
  pub record IsThere (j : ℕ) : Type 0 where
    pub same : (slot_state h j).pulls ≡ (slot_state old j).pulls
    pub each : (k : ℕ) → k < 2 → Comes (IsWritable f.issued.slots old) r.editions j ((image_now old j).cell k) ((image j).cell k)

  pub there : (j : ℕ) → j < m.array.geometry.n → IsWhole ((image j).cell) → IsThere j
  there j below whole =
      elim (comes j below) [
        | SameMedium same each ↦ record { same = same; each = each }
        | NothingThere none ↦ absurd (whole 0 (omega arith) (ByOutside (none 0)))
      ]

  -- where its places weren't written they hold what they held
  pub stayed : (j k : ℕ) → k < 2 → IsWhole ((image j).cell) → ¬ IsWritable f.issued.slots old j
      → Comes (IsWritable f.issued.slots old) r.editions j ((image_now old j).cell k) ((image j).cell k)
      → (image j).cell k ≡ (image_now old j).cell k
  stayed j k lt whole not_in (Stayed is) = is
  stayed j k lt whole not_in (Harmed is) = absurd (whole k lt (ByOutside is))
  stayed j k lt whole not_in (Cut has bad) = absurd (not_in has)
  stayed j k lt whole not_in (Wrote e has among formed is) = absurd (not_in has)

  -- a copy with a new draw, and the superblock of the slot
  module _ (j : ℕ) (below : j < m.array.geometry.n) (s : Superblock) (counts : Counts m.array.geometry image j s) (whole : IsWhole ((image j).cell))
      (e : Edition) (mine : Contains f.issued.editions e) (k : ℕ) (k_in : k < 2) (new_draw : m.drawn < e.draw) (less : e.draw < s.draw) where
    bears : Bears m.array.geometry j ((image j).cell) s
    bears = counts_bears m.array.geometry image j s counts

    two : (p : ℕ) → p < 2 → IsOf (IsWritable f.issued.slots old) r.editions j ((image_now old j).cell k) (copy_of e j)
        → IsOf (IsWritable f.issued.slots old) r.editions j ((image_now old j).cell p) s → e.array.epoch ≤ s.array.epoch
    two p p_in (Entry was) (Entry was') =
        elim (writable_or_not f.issued.slots old j) [
          | inl has ↦ let most : e.draw ≤ m.drawn = (known f).drawn j k (copy_of e j) (f.issued.taking j has.0) has.1 k_in was in absurd (omega arith)
          | inr not_in ↦
              let is = there j below whole in
              let super : IsSuperOf ((image_now old j).cell) s =
              super_cells ((image j).cell) ((image_now old j).cell) s (stayed j 0 (omega arith) whole not_in (is.each 0 (omega arith)))
              (stayed j 1 (omega arith) whole not_in (is.each 1 (omega arith))) counts.super in
              ((known f).orderly.hidden j (copy_of e j) s (record {
                place = k;
                place_in = k_in;
                holds = was;
                slot = refl;
                identity = (f.issued.each e mine).geometry;
              }) super).1
        ]
    two p p_in (Entry was) (Issue b has among formed is) =
        let most : e.draw ≤ m.drawn = (known f).drawn j k (copy_of e j) (f.issued.taking j has.0) has.1 k_in was in absurd (omega arith)
    two p p_in (Issue a has among formed is) (Entry was') =
        let most : s.draw ≤ m.drawn = (known f).drawn j p s (f.issued.taking j has.0) has.1 p_in was' in absurd (omega arith)
    two p p_in (Issue a has among formed is) (Issue b has' among' formed' is') =
        let draw : s.draw ≡ b.draw = ap (λ (t : Superblock). t.draw) is' in
        let epoch : s.array.epoch ≡ b.array.epoch = ap (λ (t : Superblock). t.array.epoch) is' in
        let rises : e.array.epoch ≤ b.array.epoch = f.issued.rising e b mine (r.within b among') (omega arith) in
        omega arith

    later_epoch : HoldsSuper ((image j).cell k) (copy_of e j) → e.array.epoch ≤ s.array.epoch
    later_epoch holds =
        two bears.place bears.place_in
        (held_of (IsWritable f.issued.slots old) r.editions j ((image_now old j).cell k) ((image j).cell k) (copy_of e j)
        ((there j below whole).each k k_in) holds)
        (from j s bears)

  -- a slot that has a draw, and no place of which is lost
  pub reaches : (j : ℕ) (s : Superblock) (draw epoch : ℕ) → Counts m.array.geometry image j s → IsWhole ((image j).cell)
      → HasDraw f.issued.editions draw epoch old h j → Reaches m draw epoch s
  reaches j s draw epoch counts whole d =
      let below : j < m.array.geometry.n = slot_below m.array.geometry image j s counts in
      let e : Edition = d.edition in
      let is : (image j).cell d.place ≡ Good (spelled (copy_of e j)) =
      on_disk (slot_state old j).pulls d.place (Good (spelled (copy_of e j))) ((image j).cell d.place) (slot_state h j) (there j below whole).same
      ((left j).each d.place) (whole d.place d.place_in) d.on_disk in
      let holds : HoldsSuper ((image j).cell d.place) (copy_of e j) = holds_copy ((image j).cell d.place) e j d.formed is in
      let newer : IsNoOlder s (copy_of e j) = super_no_older ((image j).cell) s (copy_of e j) d.place d.place_in counts.super holds in
      let most : e.draw ≤ s.draw = newer.draws in
      let least : draw ≤ e.draw = d.draws in
      let from_epoch : epoch ≤ e.array.epoch = d.reaches in
      record {
        draws = omega arith;
        epochs = λ is_new.
            elim (cases_lt e.draw s.draw) [
              | inl less ↦
                  let later : e.array.epoch ≤ s.array.epoch =
                  later_epoch j below s counts whole e d.among d.place d.place_in (omega arith) less holds in
                  omega arith
              | inr same ↦ let later : e.array.epoch ≤ s.array.epoch = newer.epochs (omega arith) in omega arith
            ];
      }

  pub no_earlier_then : {offline : ℕ → Type 0} (current : Superblock) (draw epoch : ℕ) → IsCurrent m.array.geometry image current
      → AtMost m.array.geometry.m (IsFailed offline m.array.geometry image current) → m.drawn < draw
      → AllBut m.array.geometry.n m.array.geometry.m (HasDraw f.issued.editions draw epoch old h) → epoch ≤ current.array.epoch
  no_earlier_then {offline} current draw epoch is few new_draw all =
      let limits = f.begun.member.array.limits in
      let found =
      common {n = m.array.geometry.n} {m = m.array.geometry.m} {P = Serves offline m.array.geometry image current}
      {Q = HasDraw f.issued.editions draw epoch old h} limits.devices.1 limits.majority (others m.array.geometry image current few) all in
      let serves : Serves offline m.array.geometry image current found.0 = found.2 in
      let s : Superblock = serves.live.super in
      let reached : Reaches m draw epoch s = reaches found.0 s draw epoch serves.live.counts serves.places found.3 in
      let least : epoch ≤ s.array.epoch = reached.epochs new_draw in
      elim (is.newest found.0 s serves.live.counts) [
        | inl before ↦ omega arith
        | inr tie ↦ let same : s.array.epoch ≡ current.array.epoch = tie.0 in omega arith
      ]

pub no_earlier : {offline : ℕ → Type 0} (aim : EpochChange) (gone : Slots) (m last : Membership) (old h new : List Happening) (image : Image)
    (current : Superblock) (draw epoch : ℕ) (f : IsFencing aim gone m last old h new) → CrashMayLeave h image
    → IsCurrent m.array.geometry image current → AtMost m.array.geometry.m (IsFailed offline m.array.geometry image current) → m.drawn < draw
    → AllBut m.array.geometry.n m.array.geometry.m (HasDraw f.issued.editions draw epoch old h) → epoch ≤ current.array.epoch
no_earlier {offline} aim gone m last old h new image current draw epoch f left =
    no_earlier_then aim gone m last old h new f image left
    (at_moment {P = AreReserved (admitted aim) f.issued.slots f.issued.editions m old} f.issued.reserved f.moment) {offline = offline} current draw epoch
