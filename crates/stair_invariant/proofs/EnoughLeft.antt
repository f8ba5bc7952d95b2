-- Within tolerance an epoch has enough slots left, so that it isn't refused for want of them.
use Rattle.std.proofs.Common.{◌≡◌, ℕ, ◌<◌, List, inl, inr, refl, sym, ap, ◌∙◌, subst, Some}
use Rattle.std.specs.Prelude.{IsTrue}
use Rattle.stair_model.specs.Geometry.{Geometry}
use Rattle.stair_model.specs.Slots.{HasSlot, Slots}
use Rattle.stair_rack.specs.Crash.{image_now}
use Rattle.stair_rack.specs.History.{Happening, slot_state}
use Rattle.stair_rack.specs.Media.{has_sector}
use Rattle.stair_rack.specs.Offline.{IsAttached, IsHeld, IsOffline, IsOfflineUntilAttached}
use Rattle.stair_rack.specs.RackState.{RackState}
use Rattle.stair_rack.proofs.CrashLemmas.{CrashMayLeave-now}
use Rattle.stair_rack.proofs.OfflineLemmas.{offline_now, offline_on}
use Rattle.stair_super.specs.Superblock.{Superblock}
use Rattle.stair_member.specs.Current.{IsCurrent, IsFailed}
use Rattle.stair_member.specs.Counting.{AtMost, MoreThan}
use Rattle.stair_member.specs.Aims.{aimed}
use Rattle.stair_member.specs.Epochs.{IsIssuing, IsRefusedBy}
use Rattle.stair_member.specs.Establishing.{Did, Establishes, HasBegun, Leaves, NotYet}
use Rattle.stair_member.specs.Membership.{IsMissing, Membership, why_of}
use Rattle.stair_member.specs.declared.aim.EpochChange.{EpochChange}
use Rattle.stair_member.specs.declared.fault.FenceFault.{FenceFault}
use Rattle.stair_member.specs.declared.fault.FenceFault.TheVariants.{TooFew}
use Rattle.stair_member.specs.declared.why.Why.{Why}
use Rattle.stair_member.specs.declared.why.Why.TheVariants as why
use Rattle.stair_member.proofs.CountingLemmas.{apart, has_or_not}
use Rattle.stair_state.specs.Tolerance.{IsTolerated, IsWithinTolerance}
use Rattle.stair_invariant.specs.Session.{IsLiveIn}
use Rattle.stair_invariant.proofs.EstablishingLemmas.{issuing_attaches}
use Rattle.stair_invariant.proofs.LeftOutLemmas.{start_geometry}

-- An epoch by a member that some slots left, for an aim by which a live slot stays live:

module _ (aim : EpochChange) (before : List Happening) (m start : Membership) (leaving : Slots) (leaves : Leaves leaving m start) (last : Membership)
    (fault : FenceFault) (old new : RackState) (e : Establishes aim start last (Some fault) old new) (honest : IsTrue new.honest)
    (stays_live : (j : ℕ) → IsLiveIn m j → aimed aim j why.Here ≡ why.Here) (g : Geometry) (same : g ≡ m.array.geometry)
    (held : (j : ℕ) → IsLiveIn m j → IsHeld before old.history j)
    (size : (j : ℕ) → IsLiveIn m j → IsAttached old.history j → IsTrue (has_sector (slot_state old.history j).size 1))
    (off : (j : ℕ) → IsLiveIn m j → HasSlot leaving j → IsOfflineUntilAttached before old.history j) where
  start_g : start.array.geometry ≡ m.array.geometry
  start_g = start_geometry leaving m start leaves

  last_g : last.array.geometry ≡ g
  last_g = e.geometry ∙ start_g ∙ sym same

  -- a slot that it misses at last is one of the array
  pub missing_below : (j : ℕ) → IsMissing last j → j < g.n
  missing_below j missing = subst (λ (x : Geometry). j < x.n) last_g missing.below

  -- a live slot that neither left nor was gone is live still
  kept : (j : ℕ) → IsLiveIn m j → ¬ HasSlot leaving j → ¬ HasSlot e.gone j → why_of last j ≡ why.Here
  kept j live out stays = by e.began
    where
      inside : j < start.array.geometry.n
      inside = subst (λ (x : Geometry). j < x.n) (sym start_g) live.below

      was : why_of start j ≡ why.Here
      was = leaves.others j out ∙ live.why

      by : HasBegun aim e.gone start last → why_of last j ≡ why.Here
      by (NotYet array whys) = whys j inside stays ∙ was
      by (Did above named whys) = whys j inside stays ∙ ap (aimed aim j) was ∙ stays_live j live

  -- so one that it misses at last is offline
  pub missing_away : (j : ℕ) → IsLiveIn m j → IsMissing last j → IsOfflineUntilAttached before new.history j
  missing_away j live missing =
      elim (has_or_not leaving j) [
        | inl has ↦
            offline_on {allowed = IsIssuing (e.issued honest).slots (e.issued honest).editions} j
            (λ c may.
            issuing_attaches (e.issued honest).slots (e.issued honest).editions (λ i. i ≡ j) j c may refl) (e.issued honest).ran
            (off j live has)
        | inr out ↦
            elim (has_or_not e.gone j) [
              | inl has ↦ e.were_gone.shut honest before j has (held j live) (size j live)
              | inr stays ↦ absurd (missing.why (kept j live out stays))
            ]
      ]

  -- where few are missed at last it isn't refused for want of slots
  pub few_enough : AtMost g.m (IsMissing last) → (whys : List Why) → ¬ (fault ≡ TooFew whys)
  few_enough few whys is =
      let refused : IsRefusedBy last (TooFew whys) =
      subst (IsRefusedBy last) is (e.refused fault refl).0 in
      apart (subst (λ (x : Geometry). MoreThan x.m (IsMissing last)) last_g refused.1) few

-- where each slot that it misses at last and that wasn't live to the member has failed in what the rack holds,

module _ (aim : EpochChange) (before : List Happening) (m start : Membership) (leaving : Slots) (leaves : Leaves leaving m start) (last : Membership)
    (fault : FenceFault) (old new : RackState) (e : Establishes aim start last (Some fault) old new) (honest : IsTrue new.honest)
    (stays_live : (j : ℕ) → IsLiveIn m j → aimed aim j why.Here ≡ why.Here) (g : Geometry) (same : g ≡ m.array.geometry)
    (tolerated : IsTolerated g before new.history)
    (unlive : (current : Superblock) → IsCurrent g (image_now new.history) current → (j : ℕ) → j < g.n → ¬ (why_of m j ≡ why.Here)
    → IsMissing last j → IsFailed (IsOffline before new.history) g (image_now new.history) current j)
    (held : (j : ℕ) → IsLiveIn m j → IsHeld before old.history j)
    (size : (j : ℕ) → IsLiveIn m j → IsAttached old.history j → IsTrue (has_sector (slot_state old.history j).size 1))
    (off : (j : ℕ) → IsLiveIn m j → HasSlot leaving j → IsOfflineUntilAttached before old.history j) where
  within : IsWithinTolerance (IsOffline before new.history) g (image_now new.history)
  within = tolerated (image_now new.history) (CrashMayLeave-now new.history)

  -- each slot that the member misses at last has failed
  failed : (j : ℕ) → IsMissing last j → IsFailed (IsOffline before new.history) g (image_now new.history) within.current j
  failed j missing = by (why_of m j) refl
    where
      below : j < g.n
      below = missing_below aim before m start leaving leaves last fault old new e honest stays_live g same held size off j missing

      by : (w : Why) → why_of m j ≡ w → IsFailed (IsOffline before new.history) g (image_now new.history) within.current j
      by why.Here is =
          IsFailed.Offline below
          (offline_now
          (missing_away aim before m start leaving leaves last fault old new e honest stays_live g same held size off j
          (record { below = subst (λ (x : Geometry). j < x.n) same below; why = is }) missing))
      by w is = unlive within.current within.is_current j below (λ same. let never : w ≡ why.Here = sym is ∙ same in absurd (cc)) missing

  -- it isn't refused for want of slots.
  pub epoch_never_few : (whys : List Why) → ¬ (fault ≡ TooFew whys)
  epoch_never_few =
      few_enough aim before m start leaving leaves last fault old new e honest stays_live g same held size off
      (record {
        slots = within.few.slots;
        formed = within.few.formed;
        few = within.few.few;
        within = λ j missing. within.few.within j (failed j missing);
      })
