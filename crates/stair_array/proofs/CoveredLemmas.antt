-- Within tolerance the cells of a stripe that couldn't be had are covered, and no epoch is refused for want of slots, whether media
-- come back or not.
use Rattle.std.proofs.Common.{◌≡◌, ℕ, ◌<◌, ◌≤◌, List, inl, inr, refl, sym, ap, ◌∙◌, subst, arith, None, Some, Option, false}
use Rattle.std.specs.Prelude.{◌⊎◌, IsTrue, IsSome, Ok, Err, not}
use Rattle.std.proofs.lemmas.Bool.{cases_Bool}
use Rattle.stair_model.specs.CellSet.{HasCell}
use Rattle.stair_model.specs.Coverage.{IsCovered}
use Rattle.stair_model.specs.Device.{cell_sector}
use Rattle.stair_model.specs.Geometry.{Geometry}
use Rattle.stair_model.specs.Slots.{HasSlot, Slots}
use Rattle.stair_model.specs.Stripe.{Stripe}
use Rattle.stair_rack.specs.Answers.{IsBesideAttach, IsHistory, Ran, any_call, is_good}
use Rattle.stair_rack.specs.Crash.{image_now}
use Rattle.stair_rack.specs.History.{Happening, SlotCall, Attach, Sectors, Read, Write, Sync, slot_state, stopped}
use Rattle.stair_rack.specs.Media.{Image}
use Rattle.stair_rack.specs.Placed.{IsSlot}
use Rattle.stair_rack.specs.Offline.{ButForOutside, IsAttached, IsKept, IsOffline}
use Rattle.stair_rack.specs.Reading.{WasRead}
use Rattle.stair_rack.specs.Sector.{Damaged, content, damaged}
use Rattle.stair_rack.specs.Stretch.{every_slot}
use Rattle.stair_rack.proofs.CrashLemmas.{CrashMayLeave-now}
use Rattle.stair_rack.proofs.MomentLemmas.{at_last, ran_after, ran_any, ran_join, ran_none, ran_weakened}
use Rattle.stair_rack.proofs.OfflineLemmas.{and-true_left, offline_now, offline_on, pulls_on}
use Rattle.stair_rack.proofs.TidyLemmas.{history_on}
use Rattle.stair_super.specs.Superblock.{Superblock}
use Rattle.stair_member.specs.Current.{IsCurrent, IsFailed, IsLive}
use Rattle.stair_member.specs.Membership.{why_of}
use Rattle.stair_member.specs.declared.aim.EpochChange.TheVariants.{Fence}
use Rattle.stair_member.specs.declared.fault.FenceFault.{FenceFault}
use Rattle.stair_member.specs.declared.fault.FenceFault.TheVariants.{TooFew}
use Rattle.stair_member.specs.declared.why.Why.{Why}
use Rattle.stair_member.specs.declared.why.Why.TheVariants as why
use Rattle.stair_member.proofs.CountingLemmas.{has_or_not}
use Rattle.stair_stripes.specs.declared.gathering.Gathered.{Gathered}
use Rattle.stair_state.specs.Blocks.{Codewords}
use Rattle.stair_state.specs.Redoing.{IsApart, WritesNone}
use Rattle.stair_state.specs.State.{Content}
use Rattle.stair_state.specs.Tolerance.{IsWithinTolerance}
use Rattle.stair_state.proofs.RedoPhaseLemmas.{large_some}
use Rattle.stair_state.proofs.ToleranceLemmas.{exactly_covered}
use Rattle.stair_invariant.specs.Effects.{Fenced, FencesGone, NoneWas, Snapshot, snapshot}
use Rattle.stair_invariant.specs.Rebuilding.{Rebuild}
use Rattle.stair_invariant.specs.Returning.{Returning}
use Rattle.stair_invariant.specs.Session.{IsLiveIn}
use Rattle.stair_invariant.proofs.FindsLemmas.{damaged_content, stays_damaged}
use Rattle.stair_invariant.proofs.BesideLemmas.{medium_on_it}
use Rattle.stair_invariant.proofs.OpenWithLemmas.{issued_apart}
use Rattle.stair_invariant.proofs.Serving.{IsGoing, IsServing, StandsIn, any_read, tolerated_now, LeadsReads, StaysWithinToleranceTo}
use Rattle.stair_array.proofs.EnoughLemmas.{never_few}
use Rattle.stair_array.proofs.LeftServingLemmas.{StandsAt, stands_live}
use Rattle.stair_array.proofs.ReadPartLemmas.{HasLoaded, all_ran, array_with, calm_going_mid, gone_off, honest_mid, live_of, loading_moments, ran_gathering, ran_leaving, ran_reading, serves_first, serves_mid, to_mid}
use Rattle.stair_array.proofs.ServingLemmas.{cell_then, read_bad}

-- CALLS THAT LEAVE WHAT LIES FROM THE GATE ON, and attach nothing

abbrev untouching : ℕ → SlotCall → Type 0
untouching = IsApart every_slot

read_apart : (j : ℕ) (c : SlotCall) → any_read j c → untouching j c
read_apart j (Attach answer) may = absurd may
read_apart j (Sectors size) may = absurd may
read_apart j (Read k answer) may = (λ on. tt, tt)
read_apart j (Write k bytes answer) may = absurd may
read_apart j (Sync answer) may = absurd may

left_apart : (gone : Slots) (refusal : Option FenceFault) (x y : Snapshot) → FencesGone gone refusal x y → IsTrue y.told.honest
    → Ran untouching x.told.history y.told.history
left_apart gone refusal x y (NoneWas none same fine) honest =
    subst (λ (p : Snapshot). Ran untouching x.told.history p.told.history) (sym same) (ran_none {allowed = untouching} x.told.history)
left_apart gone refusal x y (Fenced j has answer fine e) honest =
    issued_apart Fence e.establishes.gone e.start y.member x.told.history y.told.history (e.establishes.issued honest) every_slot

-- so it writes to no slot from there on
writes_apart : (j i : ℕ) (c : SlotCall) → untouching i c → WritesNone (IsSlot j) i c
writes_apart j i (Attach answer) may = tt
writes_apart j i (Sectors size) may = tt
writes_apart j i (Read k answer) may = tt
writes_apart j i (Write k bytes answer) may = λ same. may.1 tt
writes_apart j i (Sync answer) may = tt

-- WHAT A STRIPE WAS GATHERED FOR

module _ (returning : Returning) (laws : LeadsReads returning) (before : List Happening) (rebuild : Option Rebuild) (stopped_by : Option FenceFault)
    (words : Codewords) (held : Content) (x : Snapshot)
    (is : IsServing returning before (array_with rebuild stopped_by x) words held x.told.history)
    (t : ℕ) {wanted : ℕ → ℕ → Type 0} (gathered : Gathered) (read : Stripe) (refusal : Option FenceFault) (z : Snapshot)
    (l : HasLoaded t wanted gathered read refusal x z) (honest : IsTrue z.told.honest)
    (calm : StaysWithinToleranceTo returning x.member.array.geometry before z.told.history) where
  abbrev g : Geometry
  g = x.member.array.geometry

  abbrev now : Image
  now = image_now z.told.history

  ran_all : Ran any_call before z.told.history
  ran_all = all_ran returning laws before rebuild stopped_by words held x is t gathered read refusal z l honest

  ran_out : Ran any_call l.mid.history z.told.history
  ran_out = ran_leaving returning laws before rebuild stopped_by words held x is t gathered read refusal z l honest

  calm_mid : StaysWithinToleranceTo returning x.member.array.geometry before l.mid.history
  calm_mid = to_mid returning laws before rebuild stopped_by words held x is t gathered read refusal z l honest z.told.history ran_out calm

  on_mid : IsGoing returning x.member.array.geometry before l.mid.history
  on_mid = calm_going_mid returning laws before rebuild stopped_by words held x is t gathered read refusal z l honest calm_mid

  mid_serves : IsServing returning before (array_with rebuild stopped_by x) words held l.mid.history
  mid_serves = serves_mid returning laws before rebuild stopped_by words held x is t gathered read refusal z l honest on_mid

  within : IsWithinTolerance (IsOffline before z.told.history) x.member.array.geometry (image_now z.told.history)
  within =
      tolerated_now returning x.member.array.geometry before z.told.history ran_all calm (image_now z.told.history) (CrashMayLeave-now z.told.history)

  stands : StandsIn returning x.member held None (image_now z.told.history)
  stands =
      at_last {P = StandsAt returning before x.member held}
      (loading_moments returning laws before rebuild stopped_by words held x is t gathered read refusal z l honest) calm (image_now z.told.history)
      (CrashMayLeave-now z.told.history)

  history : IsHistory z.told.history
  history =
      history_on {allowed = any_call} is.history
      (ran_join {allowed = any_call}
      (ran_any {allowed = any_read} (ran_reading returning laws before rebuild stopped_by words held x is t gathered read refusal z l honest)) ran_out)

  -- a slot that is live in the end was so to the member
  live_was : (current : Superblock) → IsCurrent x.member.array.geometry (image_now z.told.history) current → (j : ℕ)
      → IsLive x.member.array.geometry (image_now z.told.history) current j → why_of x.member j ≡ why.Here
  live_was = stands_live returning before x.member held z.told.history history within stands is.is_open.array.marks

  -- NO EPOCH IS REFUSED FOR WANT OF SLOTS

  pub never_too_few : (whys : List Why) → ¬ (refusal ≡ Some (TooFew whys))
  never_too_few whys at = by l.leaves
    where
      by : FencesGone gathered.gone refusal (snapshot x.member l.mid) z → ⊥
      by (NoneWas none same fine) = let never : None ≡ Some (TooFew whys) = sym fine ∙ at in absurd (cc)
      by (Fenced j has (Ok fallen) fine does) = let never : None ≡ Some (TooFew whys) = sym fine ∙ at in absurd (cc)
      by (Fenced j has (Err fault) fine does) =
          let one : fault ≡ TooFew whys = (let both : Some fault ≡ Some (TooFew whys) = sym fine ∙ at in cc) in
          never_few before x.member gathered.gone z.member fault l.mid z.told does honest x.member.array.geometry refl
          (tolerated_now returning x.member.array.geometry before z.told.history ran_all calm) live_was
          (λ i live. mid_serves.is_open.held i (record { below = live.below; why = inl live.why }))
          (λ i live on. (mid_serves.is_open.live i live on).large 1 (omega arith))
          (λ i live left. gone_off returning laws before rebuild stopped_by words held x is t gathered read refusal z l honest i left) whys one

  -- WHAT IS ERASED IS COVERED

  apart_out : Ran untouching l.mid.history z.told.history
  apart_out = left_apart gathered.gone refusal (snapshot x.member l.mid) z l.leaves honest

  -- a cell that was read as bad on a live slot is damaged, or its slot is offline
  module _ (i j : ℕ) (on : IsLiveIn x.member j) (stripe : t < x.member.array.geometry.stripes) (row : i < x.member.array.geometry.r)
      (was : WasRead (λ c. is_good c ≡ false) l.first.history l.mid.history j (cell_sector x.member.array.geometry t i)) where
    abbrev k : ℕ
    k = cell_sector x.member.array.geometry t i

    gathering : Ran any_read l.first.history l.mid.history
    gathering = ran_gathering returning laws before rebuild stopped_by words held x is t gathered read refusal z l honest

    first_serves : IsServing returning before (array_with rebuild stopped_by x) words held l.first.history
    first_serves = serves_first returning laws before rebuild stopped_by words held x is t gathered read refusal z l honest on_mid

    then : IsServing returning before (array_with rebuild stopped_by x) words held was.moment
    then =
        (cell_then returning laws before (array_with rebuild stopped_by x) words held l.first.history l.mid.history first_serves
        gathering on_mid t i j on stripe row was).0

    attached : IsAttached was.moment j
    attached = and-true_left (slot_state was.moment j).attached (not (stopped was.moment)) was.ready

    some : IsSome (slot_state was.moment j).size
    some = large_some x.member.array.geometry (slot_state was.moment j).size (then.is_open.live j on attached).large

    apart : Ran untouching was.moment z.told.history
    apart =
        ran_join {allowed = untouching}
        (ran_weakened {allowed = any_read} {more = untouching} read_apart (ran_after {allowed = any_read} gathering was.is_one)) apart_out

    bad : ButForOutside was.moment z.told.history j (cell_sector x.member.array.geometry t i) (λ s. s ≡ damaged)
    bad =
        stays_damaged was.moment was.moment z.told.history j (cell_sector x.member.array.geometry t i) (omega arith)
        (ran_weakened {allowed = untouching} {more = WritesNone (IsSlot j)} (writes_apart j) apart)
        (IsKept.Here refl some
        (inr (damaged_content ((slot_state was.moment j).sector (cell_sector x.member.array.geometry t i))
        (read_bad returning laws before (array_with rebuild stopped_by x) words held l.first.history l.mid.history first_serves
        gathering on_mid t i j on stripe row was))))

    upto : (slot_state before j).pulls ≤ (slot_state was.moment j).pulls
    upto = pulls_on {allowed = any_call} j then.is_open.ran

    damaged_or_offline : IsFailed (IsOffline before z.told.history) x.member.array.geometry (image_now z.told.history) within.current j
        ⊎ ((image_now z.told.history j).cell (cell_sector x.member.array.geometry t i) ≡ Damaged)
    damaged_or_offline = by bad
      where
        by : ButForOutside was.moment z.told.history j (cell_sector x.member.array.geometry t i) (λ s. s ≡ damaged)
            → IsFailed (IsOffline before z.told.history) x.member.array.geometry (image_now z.told.history) within.current j
            ⊎ ((image_now z.told.history j).cell (cell_sector x.member.array.geometry t i) ≡ Damaged)
        by (IsKept.Here at has (inl harmed)) = inr (ap content harmed)
        by (IsKept.Here at has (inr harmed)) = inr (ap content harmed)
        by (IsKept.Lost less) =
            elim (cases_Bool (slot_state z.told.history j).attached) [
              | inl still ↦
                  absurd
                  (medium_on_it was.moment z.told.history j
                  (ran_weakened {allowed = untouching} {more = λ s c. s ≡ j → IsBesideAttach c} (λ s c may at. may.0 tt) apart) still less)
              | inr off ↦ inl (IsFailed.Offline on.below (IsOffline.Unattached off (omega (arith, less, upto))))
            ]

  failed_or_damaged : t < x.member.array.geometry.stripes → (i j : ℕ) → HasCell gathered.erased i j
      → (i < x.member.array.geometry.r) × (j < x.member.array.geometry.n)
      × (IsFailed (IsOffline before z.told.history) x.member.array.geometry (image_now z.told.history) within.current j
      ⊎ ((image_now z.told.history j).cell (cell_sector x.member.array.geometry t i) ≡ Damaged))
  failed_or_damaged stripe i j has = (inside.0, inside.1, by (has_or_not l.live j) (has_or_not gathered.gone j))
    where
      inside : (i < x.member.array.geometry.r) × (j < x.member.array.geometry.n)
      inside = l.inside i j (l.gathers.wanted_erased i j has)

      by : HasSlot l.live j ⊎ (¬ HasSlot l.live j) → HasSlot gathered.gone j ⊎ (¬ HasSlot gathered.gone j)
          → IsFailed (IsOffline before z.told.history) x.member.array.geometry (image_now z.told.history) within.current j
          ⊎ ((image_now z.told.history j).cell (cell_sector x.member.array.geometry t i) ≡ Damaged)
      by (inr out) gone =
          inl
          (IsFailed.NotLive inside.1
          (λ live. out ((l.are_live.are j).1 (record { below = inside.1; why = live_was within.current within.is_current j live }))))
      by (inl on) (inl gone) =
          inl
          (IsFailed.Offline inside.1
          (offline_now
          (offline_on {allowed = untouching} j (λ c may. may.0 tt) apart_out
          (gone_off returning laws before rebuild stopped_by words held x is t gathered read refusal z l honest j gone))))
      by (inl on) (inr stays) =
          damaged_or_offline i j (live_of returning laws before rebuild stopped_by words held x is t gathered read refusal z l honest j on) stripe
          inside.0
          ((l.gathers.bad i j has (λ away. elim away [ inl out ↦ out on | inr gone ↦ stays gone ])).0.1
          (honest_mid returning laws before rebuild stopped_by words held x is t gathered read refusal z l honest))

  pub covered : t < x.member.array.geometry.stripes → IsCovered x.member.array.geometry gathered.erased
  covered stripe =
      exactly_covered (IsOffline before z.told.history) x.member.array.geometry (image_now z.told.history) within.current t gathered.erased
      (within.stripes t stripe) (failed_or_damaged stripe)
