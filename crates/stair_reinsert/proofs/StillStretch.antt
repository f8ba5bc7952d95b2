-- Where nothing happens but that a rack is looked at, tolerance of mixed images is tolerance of the moment at which the stretch begins.
use Rattle.std.proofs.Common.{◌≡◌, ℕ, ◌<◌, ◌≤◌, List, [], ◌∷◌, ◌++◌, ◌⊎◌, inl, inr, refl, sym, ap, ◌∙◌, subst, arith, Bool, None, true, false}
use Rattle.std.specs.Prelude.{IsTrue}
use Rattle.std.proofs.lemmas.Bool.{cases_lt, false≢true}
use Rattle.stair_model.specs.CellSet.{CellSet, HasCell}
use Rattle.stair_model.specs.Coverage.{IsCovered}
use Rattle.stair_model.specs.Device.{cell_sector}
use Rattle.stair_model.specs.Geometry.{Geometry}
use Rattle.stair_model.specs.Slots.{HasSlot, IsSlotSet, Slots, slot_count}
use Rattle.stair_model.proofs.SetLaws.{slot_count-subset}
use Rattle.stair_rack.specs.Answers.{IsHistory, is_good}
use Rattle.stair_rack.specs.Crash.{CrashMayLeave}
use Rattle.stair_rack.specs.History.{Happening, Made, Stopped, Acted, Called, SlotCall, Attach, Sectors, Read, Write, Sync, SlotState, after_call, slot_state, stopped}
use Rattle.stair_rack.specs.Media.{Image, SlotImage, has_sector}
use Rattle.stair_rack.specs.Moments.{IsMoment}
use Rattle.stair_rack.specs.Offline.{IsOffline, NoMedium, RackStopped, Unattached}
use Rattle.stair_rack.specs.Sector.{Cell, Damaged, Good, LeftOf, MayLeave, Sector, Torn, TornOverDamage, damaged, torn}
use Rattle.stair_rack.specs.Stretch.{EachOf}
use Rattle.stair_rack.specs.declared.rack.Reply.TheVariants as reply
use Rattle.stair_rack.proofs.CrashLemmas.{MayLeave-base, settled_left}
use Rattle.stair_rack.proofs.StepLemmas.{slot_call_cases}
use Rattle.stair_rack.proofs.StretchLemmas.{each_before}
use Rattle.stair_rack.proofs.TidyLemmas.{history_tidy}
use Rattle.stair_super.specs.Superblock.{Superblock}
use Rattle.stair_super.specs.declared.mark.Mark.TheVariants.{Live}
use Rattle.stair_member.specs.Asked.{LeavesSectors}
use Rattle.stair_member.specs.Current.{ByOutside, IsCurrent, IsFailed, IsLive, IsLost, LostPlace, NotLive, Offline, Serves, Worn}
use Rattle.stair_member.specs.Reserve.{BearsFor, MayStand}
use Rattle.stair_member.specs.Superblocks.{IsOnlyIdentity}
use Rattle.stair_member.proofs.CountingLemmas.{more_mapped, slot_in_range, slots_by, slots_by-at, slots_by-formed}
use Rattle.stair_member.proofs.StandingLemmas.{serves_not_failed}
use Rattle.stair_member.proofs.SuperLemmas.{counts_limits, one_current}
use Rattle.stair_state.specs.Represents.{AreSteady}
use Rattle.stair_state.specs.Tolerance.{IsTolerated, IsWithinTolerance}
use Rattle.stair_state.proofs.AgreeLemmas.{AgreeBelow, agree_back, current_agree, identifies_agree, mark_agree}
use Rattle.stair_state.proofs.ExchangedLemmas.{serves_or_failed}
use Rattle.stair_state.proofs.StillLemmas.{offline_decided, steady_cells}
use Rattle.stair_invariant.specs.Mixed.{AsAt, Away, IsMixed, IsMixedSlot, IsToleratedMixed, WasDamaged, WasOffline}
use Rattle.stair_reinsert.specs.Still.{IsLook, IsStill}

-- NOTHING CHANGES

-- the slot is as it was, but for whether it is attached
pub record IsSame (was is : SlotState) : Type 0 where
  pub size : is.size ≡ was.size
  pub sectors : (k : ℕ) → is.sector k ≡ was.sector k
  pub pulls : is.pulls ≡ was.pulls

look_same : (was b : SlotState) (j : ℕ) (c : SlotCall) → LeavesSectors j c → IsSame was b → IsSame was (after_call c b)
look_same was b j (Attach reply.Done) may is = record { size = is.size; sectors = is.sectors; pulls = is.pulls }
look_same was b j (Attach reply.Gone) may is = record { size = is.size; sectors = is.sectors; pulls = is.pulls }
look_same was b j (Sectors size) may is = is
look_same was b j (Read k answer) may is = is
look_same was b j (Write k bytes answer) may is = absurd may
look_same was b j (Sync answer) may is = absurd may

still_on : (more old : List Happening) (j : ℕ) → EachOf IsLook more old
    → IsSame (slot_state old j) (slot_state (more ++ old) j) × (stopped (more ++ old) ≡ stopped old)
still_on [] old j each = (record { size = refl; sectors = λ k. refl; pulls = refl }, refl)
still_on (Made image ∷ more) old j each = absurd each.1
still_on (Stopped ∷ more) old j each = absurd each.1
still_on (Acted i a ∷ more) old j each = absurd each.1
still_on (Called i c ∷ more) old j each =
    let before = still_on more old j each.0 in (
      slot_call_cases (IsSame (slot_state old j)) (more ++ old) i j c
          (λ same. look_same (slot_state old j) (slot_state (more ++ old) j) i c each.1 before.0) before.0,
      before.1,
    )

pub still_same : {x y : List Happening} (j : ℕ) → IsStill x y → IsSame (slot_state x j) (slot_state y j) × (stopped y ≡ stopped x)
still_same {x} {y} j still =
    subst (λ (h : List Happening). IsSame (slot_state x j) (slot_state h j) × (stopped h ≡ stopped x)) (sym still.is) (still_on still.more x j still.each)

-- CELLS THAT ARE LOST

not_good : {bytes : List ℕ} {cell : Cell} → is_good cell ≡ false → ¬ (cell ≡ Good bytes)
not_good bad good = false≢true (sym bad ∙ ap is_good good)

torn_damaged : (base : Cell) → ¬ (Damaged ≡ torn base)
torn_damaged (Good bytes) same = cc
torn_damaged Damaged same = cc
torn_damaged Torn same = cc
torn_damaged TornOverDamage same = cc

torn_worn : (base : Cell) → TornOverDamage ≡ torn base → IsLost base
torn_worn (Good bytes) same = absurd (cc)
torn_worn Damaged same = ByOutside refl
torn_worn Torn same = absurd (cc)
torn_worn TornOverDamage same = Worn refl

-- a crash leaves a sector lost only where it was so at its last sync
damaged_base : (base : Cell) (since : List (List ℕ)) → LeftOf base since Damaged → base ≡ Damaged
damaged_base base [] left = sym left
damaged_base base (bytes ∷ since) (inl good) = absurd (not_good refl good)
damaged_base base (bytes ∷ since) (inr (inl cut)) = absurd (torn_damaged base cut)
damaged_base base (bytes ∷ since) (inr (inr older)) = damaged_base base since older

worn_base : (base : Cell) (since : List (List ℕ)) → LeftOf base since TornOverDamage → IsLost base
worn_base base [] left = Worn (sym left)
worn_base base (bytes ∷ since) (inl good) = absurd (not_good refl good)
worn_base base (bytes ∷ since) (inr (inl cut)) = torn_worn base cut
worn_base base (bytes ∷ since) (inr (inr older)) = worn_base base since older

lost_base : (s : Sector) (cell : Cell) → MayLeave s cell → IsLost cell → IsLost s.base
lost_base s cell may (ByOutside is) = ByOutside (damaged_base s.base s.since (subst (MayLeave s) is may))
lost_base s cell may (Worn is) = worn_base s.base s.since (subst (MayLeave s) is may)

module _ (g : Geometry) (old new : List Happening) (history : IsHistory old) (steady : AreSteady g old) (still : IsStill old new)
    (tolerated : IsTolerated g old old) where
  -- THE WORST IMAGE: each sector as at its last sync

  abbrev worst : Image
  worst j = let b = slot_state old j in record { size = b.size; cell = λ k. (b.sector k).base; removed = b.removed }

  worst_left : CrashMayLeave old worst
  worst_left j = record { size = refl; each = λ k. MayLeave-base ((slot_state old j).sector k); removed = refl }

  at_worst : IsWithinTolerance (IsOffline old old) g worst
  at_worst = tolerated worst worst_left

  goes_on : ¬ IsTrue (stopped old)
  goes_on stops = at_worst.journal.serves.online (RackStopped stops)

  -- MIXED IMAGES ARE THOSE THAT A CRASH MAY LEAVE

  same_at : (x : List Happening) (j : ℕ) → IsMoment old x new → IsSame (slot_state old j) (slot_state x j) × (stopped x ≡ stopped old)
  same_at x j at = still_same j (each_before still at)

  none_there : (j : ℕ) → WasOffline old old new j → (slot_state old j).size ≡ None
  none_there j offline = by offline.holds
    where
      same : IsSame (slot_state old j) (slot_state offline.moment j) × (stopped offline.moment ≡ stopped old)
      same = same_at offline.moment j offline.is_one

      by : IsOffline old offline.moment j → (slot_state old j).size ≡ None
      by (NoMedium none) = sym same.0.size ∙ none
      by (Unattached off pulled) = absurd (omega (arith, pulled, same.0.pulls))
      by (RackStopped stops) = absurd (goes_on (subst IsTrue same.1 stops))

  none_damaged : (j k : ℕ) → (slot_state old j).size ≡ None → (slot_state old j).sector k ≡ damaged
  none_damaged j k none = (history_tidy history).past_end j k (ap (λ o. has_sector o k) none)

  -- but for media outside, of which mixed images say nothing
  record IsLeft (j : ℕ) (to : SlotImage) : Type 0 where
    size : to.size ≡ (slot_state old j).size
    each : (k : ℕ) → MayLeave ((slot_state old j).sector k) (to.cell k)

  is_left : (j : ℕ) (to : SlotImage) → IsMixedSlot old old new j to → IsLeft j to
  is_left j to (AsAt was moment size cells) = record {
    size = size ∙ moment.holds.size ∙ same.size;
    each = λ k. subst (MayLeave ((slot_state old j).sector k)) (sym (cell k (cells k))) (was_left k);
  }
    where
      same : IsSame (slot_state old j) (slot_state moment.moment j)
      same = (same_at moment.moment j moment.is_one).0

      was_left : (k : ℕ) → MayLeave ((slot_state old j).sector k) (was.cell k)
      was_left k = subst (λ s. MayLeave s (was.cell k)) (same.sectors k) (moment.holds.each k)

      was_damaged : (k : ℕ) → (slot_state old j).sector k ≡ damaged → was.cell k ≡ Damaged
      was_damaged k is = settled_left Damaged (was.cell k) (subst (λ s. MayLeave s (was.cell k)) is (was_left k))

      cell : (k : ℕ) → (to.cell k ≡ was.cell k) ⊎ ((to.cell k ≡ Damaged) × (WasDamaged old new j k ⊎ WasOffline old old new j)) → to.cell k ≡ was.cell k
      cell k (inl is) = is
      cell k (inr (harmed, inl once)) =
          harmed ∙ sym (was_damaged k (sym ((same_at once.moment j once.is_one).0.sectors k) ∙ once.holds))
      cell k (inr (harmed, inr offline)) = harmed ∙ sym (was_damaged k (none_damaged j k (none_there j offline)))
  is_left j to (Away offline none all) = record {
    size = none ∙ sym (none_there j offline);
    each = λ k.
        subst (MayLeave ((slot_state old j).sector k)) (sym (all k))
        (subst (λ s. MayLeave s Damaged) (sym (none_damaged j k (none_there j offline))) refl);
  }

  module _ (to : Image) (mixed : IsMixed old old new to) where
    left : (j : ℕ) → IsLeft j (to j)
    left j = is_left j (to j) (mixed j)

    -- the image that a crash may leave
    abbrev of : Image
    of j = record { size = (to j).size; cell = (to j).cell; removed = (slot_state old j).removed }

    of_left : CrashMayLeave old of
    of_left j = record { size = (left j).size; each = (left j).each; removed = refl }

    at_of : IsWithinTolerance (IsOffline old old) g of
    at_of = tolerated of of_left

    agree_of : (bound : ℕ) → AgreeBelow bound to of
    agree_of bound j k below small = refl

    identity : IsOnlyIdentity g to
    identity = record {
      stands = identifies_agree g g.n (omega arith) of to (agree_back g.n to of (agree_of g.n)) at_of.identity.stands;
      alone = λ other stands. at_of.identity.alone other (identifies_agree other other.n (omega arith) to of (agree_of other.n) stands);
    }

    others : (other : Geometry) → MayStand other to → other ≡ g
    others other may =
        at_of.others other
        (more_mapped {P = BearsFor other to} {Q = BearsFor other of} (λ j for. record { super = for.super; bears = for.bears }) may)

    -- its superblock places hold what the worst image holds
    agree : AgreeBelow g.n to worst
    agree j k below small =
        steady_cells g old of steady of_left j k below small ∙ sym (steady_cells g old worst steady worst_left j k below small)

    current_worst : (current : Superblock) → IsCurrent g to current → current ≡ at_worst.current
    current_worst current is = one_current g worst current at_worst.current (current_agree g g.n (omega arith) to worst current agree is) at_worst.is_current

    failed_worst : (current : Superblock) (j : ℕ) → IsCurrent g to current → IsFailed (λ k. (to k).size ≡ None) g to current j
        → IsFailed (IsOffline old old) g worst at_worst.current j
    failed_worst current j is failed = by failed
      where
        same : current ≡ at_worst.current
        same = current_worst current is

        by : IsFailed (λ k. (to k).size ≡ None) g to current j → IsFailed (IsOffline old old) g worst at_worst.current j
        by (NotLive below not) =
            NotLive below
            (λ live.
            not
            (mark_agree g g.n (omega arith) {mark = Live} worst to current j (agree_back g.n to worst agree)
            (subst (λ (x : Superblock). IsLive g worst x j) (sym same) live)))
        by (LostPlace k below small lost) = LostPlace k below small (subst IsLost (agree j k below small) lost)
        by (Offline below none) = Offline below (NoMedium (sym (left j).size ∙ none))

  -- THE SLOTS THAT HAVE FAILED

  decided : (j : ℕ) → j < g.n → Serves (IsOffline old old) g worst at_worst.current j ⊎ IsFailed (IsOffline old old) g worst at_worst.current j
  decided j below = serves_or_failed (IsOffline old old) g worst at_worst.current j below (offline_decided old old j)

  has_failed : ℕ → Bool
  has_failed j = elim (cases_lt j g.n) [
    | inl below ↦ elim (decided j below) [ inl serves ↦ false | inr failed ↦ true ]
    | inr above ↦ false
  ]

  failed_below : (j : ℕ) → IsFailed (IsOffline old old) g worst at_worst.current j → j < g.n
  failed_below j (NotLive below not) = below
  failed_below j (LostPlace k below small lost) = below
  failed_below j (Offline below off) = below

  is_failed : (j : ℕ) → has_failed j ≡ true → IsFailed (IsOffline old old) g worst at_worst.current j
  unfolding has_failed
  is_failed j is = by (cases_lt j g.n) is
    where
      of_two : (d : Serves (IsOffline old old) g worst at_worst.current j ⊎ IsFailed (IsOffline old old) g worst at_worst.current j)
          → (elim d as (λ _. Bool) [ inl serves ↦ false | inr failed ↦ true ]) ≡ true → IsFailed (IsOffline old old) g worst at_worst.current j
      of_two (inl serves) same = absurd (false≢true same)
      of_two (inr failed) same = failed

      by : (d : (j < g.n) ⊎ (g.n ≤ j))
          → (elim d as (λ _. Bool) [ inl below ↦ elim (decided j below) as (λ _. Bool) [ inl serves ↦ false | inr failed ↦ true ] | inr above ↦ false ]) ≡ true
          → IsFailed (IsOffline old old) g worst at_worst.current j
      by (inl below) same = of_two (decided j below) same
      by (inr above) same = absurd (false≢true same)

  failed_is : (j : ℕ) → IsFailed (IsOffline old old) g worst at_worst.current j → has_failed j ≡ true
  unfolding has_failed
  failed_is j failed = by (cases_lt j g.n)
    where
      of_two : (d : Serves (IsOffline old old) g worst at_worst.current j ⊎ IsFailed (IsOffline old old) g worst at_worst.current j)
          → (elim d as (λ _. Bool) [ inl serves ↦ false | inr failed ↦ true ]) ≡ true
      of_two (inl serves) = absurd (serves_not_failed g worst at_worst.current j serves failed)
      of_two (inr is) = refl

      by : (d : (j < g.n) ⊎ (g.n ≤ j))
          → (elim d as (λ _. Bool) [ inl below ↦ elim (decided j below) as (λ _. Bool) [ inl serves ↦ false | inr failed ↦ true ] | inr above ↦ false ]) ≡ true
      by (inl below) = of_two (decided j below)
      by (inr above) = let below = failed_below j failed in absurd (omega (arith, below, above))

  failed : Slots
  failed = slots_by has_failed

  small : g.n ≤ 32
  small = (counts_limits g worst at_worst.current.slot at_worst.current at_worst.is_current.counts).devices.1

  in_failed : (j : ℕ) → IsFailed (IsOffline old old) g worst at_worst.current j → HasSlot failed j
  unfolding failed
  in_failed j is = let below = failed_below j is in slots_by-at has_failed j (omega (arith, below, small)) ∙ failed_is j is

  of_failed : (j : ℕ) → HasSlot failed j → IsFailed (IsOffline old old) g worst at_worst.current j
  unfolding failed
  of_failed j has =
      let in_range = slot_in_range (slots_by has_failed) j (slots_by-formed has_failed) has in
      is_failed j (sym (slots_by-at has_failed j in_range) ∙ has)

  formed : IsSlotSet failed
  unfolding failed
  formed = slots_by-formed has_failed

  erased_at : (t : ℕ) → (t < g.stripes) ⊎ (g.stripes ≤ t) → CellSet
  erased_at t (inl below) = (at_worst.stripes t below).erased
  erased_at t (inr above) = record { rows = [] }

  covered_at : (t : ℕ) (d : (t < g.stripes) ⊎ (g.stripes ≤ t)) → t < g.stripes → IsCovered g (erased_at t d)
  unfolding erased_at at_worst
  covered_at t (inl below) t_in = (at_worst.stripes t below).covered
  covered_at t (inr above) t_in = absurd (omega (arith, above, t_in))

  has_at : (to : Image) (mixed : IsMixed old old new to) (t i j : ℕ) (d : (t < g.stripes) ⊎ (g.stripes ≤ t)) → t < g.stripes → i < g.r → j < g.n
      → HasSlot failed j ⊎ ((to j).cell (cell_sector g t i) ≡ Damaged) → HasCell (erased_at t d) i j
  unfolding erased_at at_worst
  has_at to mixed t i j (inl below) t_in i_in j_in out =
      (at_worst.stripes t below).has i j i_in j_in
      (elim out [
        | inl has ↦ inl (of_failed j has)
        | inr harmed ↦
            let s = (slot_state old j).sector (cell_sector g t i) in
            inr (damaged_base s.base s.since (subst (MayLeave s) harmed ((left to mixed j).each (cell_sector g t i))))
      ])
  has_at to mixed t i j (inr above) t_in i_in j_in out = absurd (omega (arith, above, t_in))

  pub still_tolerated : IsToleratedMixed g old old new
  still_tolerated = record {
    identity = identity;
    others = λ to other mixed. others to mixed other;
    failed = failed;
    formed = formed;
    few = few;
    within = λ to current j mixed is out. in_failed j (failed_worst to mixed current j is out);
    erased = λ t. erased_at t (cases_lt t g.stripes);
    covered = λ t. covered_at t (cases_lt t g.stripes);
    has = λ to t i j mixed. has_at to mixed t i j (cases_lt t g.stripes);
    journal = at_worst.journal_slot;
    journal_in = at_worst.journal.serves.live.below;
    journal_kept = λ has.
        serves_not_failed g worst at_worst.current at_worst.journal_slot at_worst.journal.serves (of_failed at_worst.journal_slot has);
    whole = λ to k mixed from below lost.
        at_worst.journal.whole k from below
        (lost_base ((slot_state old at_worst.journal_slot).sector k) ((to at_worst.journal_slot).cell k) ((left to mixed at_worst.journal_slot).each k) lost);
  }
    where
      few : slot_count failed ≤ g.m
      few =
          let most = slot_count-subset failed at_worst.few.slots (λ j has. at_worst.few.within j (of_failed j has)) in
          let least : slot_count at_worst.few.slots ≤ g.m = at_worst.few.few in
          omega (arith, most, least)
