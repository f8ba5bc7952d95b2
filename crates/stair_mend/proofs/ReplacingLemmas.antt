-- What a look at the device of a slot, its new journal and its admission came to.
use Rattle.std.proofs.Common.{◌≡◌, ◌<◌, ◌≤◌, ℕ, None, Option, Some, ap, arith, inl, inr, refl, subst, sym, ◌∙◌}
use Rattle.std.specs.Prelude.{◌⊎◌, Bool, Err, IsTrue, List, Ok, Result}
use Rattle.std.specs.Result.{IsErrAnd}
use Rattle.stair_model.specs.Geometry.{Geometry, sectors_needed}
use Rattle.stair_rack.specs.Answers.{Calls, IsBesideAttach, IsHistory, Ran, any_call}
use Rattle.stair_rack.specs.Count.{Rose}
use Rattle.stair_rack.specs.History.{Attach, Happening, Read, Sectors, SlotCall, Sync, Write}
use Rattle.stair_rack.specs.Placed.{IsGoneSlot, IsSlot, IsSyncOf, IsWriteOf, Placed}
use Rattle.stair_rack.specs.RackCounts.{NoneFalls}
use Rattle.stair_rack.specs.Sector.{Cell}
use Rattle.stair_rack.specs.Stretch.{IsNoWrite}
use Rattle.stair_rack.specs.RackState.{IsLater, IsReading, RackState, rack_state}
use Rattle.stair_rack.specs.declared.rack.Reply.{Reply}
use Rattle.stair_rack.specs.declared.rack.Reply.TheVariants as reply
use Rattle.stair_rack.proofs.CallLemmas.{attach_found, sectors_of_last}
use Rattle.stair_rack.proofs.MomentLemmas.{IsThis, calls_ran, moment_between, ran_any, ran_join, ran_none, ran_weakened}
use Rattle.stair_rack.proofs.OfflineLemmas.{offline_now}
use Rattle.stair_rack.proofs.PlacedLemmas.{Placed-same}
use Rattle.stair_rack.proofs.RackStateLemmas.{later_called, later_join, later_none, reading_wider}
use Rattle.stair_super.specs.Superblock.{Superblock}
use Rattle.stair_super.specs.declared.configuration.Configuration.{Configuration}
use Rattle.stair_member.specs.Membership.{IsMembership, Membership}
use Rattle.stair_member.specs.Probing.{ProbesSlot, WasGone, block_in}
use Rattle.stair_member.specs.Seeing.{Sees}
use Rattle.stair_member.specs.Superblocks.{HoldsSuper, HoldsThis}
use Rattle.stair_member.specs.declared.fault.AdmitFault.{AdmitFault}
use Rattle.stair_member.specs.declared.fault.AdmitFault.TheVariants as admit
use Rattle.stair_member.specs.declared.probe.SlotProbe.{SlotProbe}
use Rattle.stair_member.proofs.ProbeLemmas.{probe_gone, probe_later, probe_readings}
use Rattle.stair_member.proofs.SightLemmas.{both, place_cases}
use Rattle.stair_member.proofs.SuperLemmas.{holds_once}
use Rattle.stair_member.specs.declared.why.Why.{Why}
use Rattle.stair_invariant.specs.Effects.{Snapshot, snapshot}
use Rattle.stair_invariant.specs.Rebuilding.{Rebuild}
use Rattle.stair_array.specs.Arrays.{IsUnderWay, replaced_as}
use Rattle.stair_array.specs.Causes.{BearsOther, HadEnough, IsFree, IsSmall}
use Rattle.stair_array.specs.Faults.{admission_fault, replace_refusal}
use Rattle.stair_array.specs.Look.{IsLookAt, IsReadOf}
use Rattle.stair_array.specs.Looking.{HadSectors}
use Rattle.stair_array.specs.Machine.{AlreadyArray, Gone, Refusal, ReplaceSlot, SmallDevice}
use Rattle.stair_array.specs.MendingCalls.{AdmitsSlot, admitted_as}
use Rattle.stair_array.specs.News.{AddsNews}
use Rattle.stair_array.specs.Promise.{rebuild_after, rebuild_of}
use Rattle.stair_array.specs.declared.news.News.{News}
use Rattle.stair_array.specs.Mends.{IsFit, IsPreparing, IsSecondLook, Looks, PreparesSlot, Replaces, new_journal}
use Rattle.stair_mend.specs.MediumLook.{IsNotFree, IsOther, IsOwn, LooksAt, WasFit, WasGoneToLook, WasLookedAt}
use Rattle.stair_array.specs.declared.fault.ReplaceFault.{ReplaceFault}
use Rattle.stair_array.specs.declared.fault.ReplaceFault.TheVariants as fault
use Rattle.stair_mend.specs.declared.replacing.Places.{Places}
use Rattle.stair_array.proofs.DeviceLemmas.{taken_held, taken_reach}
use Rattle.stair_array.proofs.NewJournalLemmas.{journal_is}
use Rattle.stair_array.proofs.LookLemmas.{gone_after, gone_attach, look_ran, probe_ran, reads_beside, reads_look, reads_no_attach, reads_ran, taken_from}

-- CALLS

second_look : {old new : List Happening} {j : ℕ} {c : SlotCall} → IsNoWrite c → IsBesideAttach c → Calls old new j c → Ran (IsSecondLook j) old new
second_look {j = j} {c = c} spares beside called =
    ran_weakened {allowed = IsThis j c} {more = IsSecondLook j}
    (λ i d this. ((this.0, subst IsNoWrite (sym this.1) spares), subst IsBesideAttach (sym this.1) beside)) (calls_ran called)

second_reads : {old new : List Happening} {j : ℕ} → Ran (IsReadOf j) old new → Ran (IsSecondLook j) old new
second_reads {j = j} ran =
    ran_weakened {allowed = IsReadOf j} {more = IsSecondLook j} (λ i c is. (reads_look j i c is, reads_beside j i c is)) ran

-- THE LOOK

-- the slot is gone to its attach
pub gone_at_attach : (g : Geometry) (slot : ℕ) (honest : Bool) (old new : List Happening) (bads bads' : ℕ) (gones gones' : ℕ → ℕ)
    → (IsTrue honest → Calls old new slot (Attach reply.Gone)) → NoneFalls bads bads' gones gones' → Rose (gones slot) (gones' slot)
    → WasGoneToLook slot (rack_state honest old bads gones) (rack_state honest new bads' gones')
gone_at_attach g slot honest old new bads bads' gones gones' told counts rose = record {
  later = later_called honest old new bads bads' gones gones' slot (Attach reply.Gone) told counts;
  ran = λ is. look_ran tt (told is);
  gone = gone_attach g honest old new bads bads' gones gones' slot told rose;
}

-- it was attached, and measured
module _ (g : Geometry) (slot : ℕ) (honest : Bool) (old att sec : List Happening) (b₀ b₁ b₂ : ℕ) (g₀ g₁ g₂ : ℕ → ℕ)
    (attached : IsTrue honest → Calls old att slot (Attach reply.Done)) (counts₁ : NoneFalls b₀ b₁ g₀ g₁) (has : ℕ)
    (measured : IsTrue honest → Calls att sec slot (Sectors has)) (counts₂ : NoneFalls b₁ b₂ g₁ g₂) where
  abbrev at_old : RackState
  at_old = rack_state honest old b₀ g₀

  abbrev at_mid : RackState
  at_mid = rack_state honest att b₁ g₁

  abbrev at_sec : RackState
  at_sec = rack_state honest sec b₂ g₂

  first : IsLater at_old at_mid
  first = later_called honest old att b₀ b₁ g₀ g₁ slot (Attach reply.Done) attached counts₁

  second : IsLater at_mid at_sec
  second = later_called honest att sec b₁ b₂ g₁ g₂ slot (Sectors has) measured counts₂

  had : {new : List Happening} → IsTrue honest → Ran any_call att new → HadSectors slot has att new
  had is ran = record {
    moment = att;
    is_one = moment_between {a = any_call} {b = any_call} (ran_none att) ran;
    holds = attach_found old att slot (attached is) ∙ ap Some (sym (sectors_of_last att att sec slot has (ran_none att) (measured is)));
  }

  -- its device is small
  pub looked_small : (needs : ℕ) → needs ≡ sectors_needed g → has < sectors_needed g
      → (mid : RackState) × WasLookedAt slot mid at_old at_sec × IsSmall g slot has needs mid at_sec
  looked_small needs same small = (
    at_mid,
    record { first = first; attached = attached; later = second; ran = λ is. second_look tt tt (measured is) },
    record { needs_is = same; small = omega (arith, small, same); had = λ is. had is (second.ran is) },
  )

  -- and its superblock places were read
  module _ (new : List Happening) (b₃ : ℕ) (g₃ : ℕ → ℕ) (p : SlotProbe) (probes : ProbesSlot slot p at_sec (rack_state honest new b₃ g₃)) where
    abbrev at_probe : RackState
    at_probe = rack_state honest new b₃ g₃

    third : IsLater at_sec at_probe
    third = probe_later probes

    probed : IsTrue honest → Ran (IsReadOf slot) sec new
    probed is = probe_ran probes is

    pub gone_probed : WasGone p → WasGoneToLook slot at_old at_probe
    gone_probed lost = record {
      later = later_join first (later_join second third);
      ran = λ is. ran_join (look_ran tt (attached is)) (ran_join (look_ran tt (measured is)) (reads_ran (probed is)));
      gone = probe_gone probes at_old at_mid first second attached lost;
    }

    looked : WasLookedAt slot at_mid at_old at_probe
    looked = record {
      first = first;
      attached = attached;
      later = later_join second third;
      ran = λ is. ran_join (second_look tt tt (measured is)) (second_reads (probed is));
    }

    module _ (enough : sectors_needed g ≤ has) (here : ¬ WasGone p) (a b : Option Superblock) (is_first : a ≡ block_in p.first)
        (is_second : b ≡ block_in p.second) where
      in_first : HoldsThis probes.first.cell a
      in_first = subst (λ (o : Option Superblock). HoldsThis probes.first.cell o) (sym is_first) probes.first.holds

      in_second : HoldsThis probes.second.cell b
      in_second = subst (λ (o : Option Superblock). HoldsThis probes.second.cell o) (sym is_second) probes.second.holds

      large : HadEnough g slot at_mid at_probe
      large is = (has, enough, had is ((later_join second third).ran is))

      readings : (k : ℕ) → k < 2 → IsReading slot k at_mid at_probe (both probes.first.cell probes.second.cell k)
      readings k below =
          reading_wider at_mid at_sec at_probe at_probe second third.honest third.counts (later_none at_probe) slot k
          (both probes.first.cell probes.second.cell k) (probe_readings probes here k below)

      own_by : (o : Option Superblock) (cell : Cell) → HoldsThis cell o → IsOwn g o → (s : Superblock) → HoldsSuper cell s → s.array.geometry ≡ g
      own_by None cell holds own s has = absurd (holds s has)
      own_by (Some t) cell holds own s has = sym (ap (λ (u : Superblock). u.array.geometry) (holds_once cell t s holds has)) ∙ own

      pub looked_fit : IsOwn g a → IsOwn g b → (IsTrue honest → IsHistory att)
          → WasFit g slot (record { first = a; second = b }) at_old at_probe
      looked_fit own_first own_second began = record {
        mid = at_mid;
        looked = looked;
        fit = record {
          large = large;
          cell = both probes.first.cell probes.second.cell;
          reading = readings;
          in_first = in_first;
          in_second = in_second;
          own = λ k s below holds.
              elim (place_cases k below) [
                | inl is ↦
                    own_by a probes.first.cell in_first own_first s
                    (subst (λ (l : ℕ). HoldsSuper (both probes.first.cell probes.second.cell l) s) is holds)
                | inr is ↦
                    own_by b probes.second.cell in_second own_second s
                    (subst (λ (l : ℕ). HoldsSuper (both probes.first.cell probes.second.cell l) s) is holds)
              ];
        };
        taken = λ is.
            taken_from old att slot (attached is) g has (ran_none att) (measured is) enough (reads_no_attach (probed is)) (began is);
      }

      other_in : (o : Option Superblock) → IsOther g o → (k : ℕ) → k < 2 → HoldsThis (both probes.first.cell probes.second.cell k) o
          → BearsOther g slot at_mid at_probe
      other_in None other k below holds = absurd other
      other_in (Some s) other k below holds = record {
        large = large;
        cell = both probes.first.cell probes.second.cell;
        reading = readings;
        place = k;
        place_in = below;
        super = s;
        holds = holds;
        other = other;
      }

      pub looked_other : IsOther g a ⊎ IsOther g b → (mid : RackState) × WasLookedAt slot mid at_old at_probe × BearsOther g slot mid at_probe
      looked_other either = (
        at_mid,
        looked,
        elim either [
          | inl other ↦ other_in a other 0 (omega arith) in_first
          | inr other ↦ other_in b other 1 (omega arith) in_second
        ],
      )

-- a fault that is handed on
handed_refusal : (result : Result (Unit {0}) ReplaceFault) (why : ReplaceFault) → IsErrAnd result (λ e. e ≡ why)
    → replaced_as result ≡ Err (replace_refusal why)
handed_refusal (Ok done) why is = absurd is
handed_refusal (Err e) why same = ap (λ (f : ReplaceFault). Err (replace_refusal f)) same

-- PREPARING A SLOT

look_prepares : (g : Geometry) (slot j : ℕ) (c : SlotCall) → IsLookAt slot j c → IsPreparing g slot j c
look_prepares g slot j (Attach answer) is = is.0
look_prepares g slot j (Sectors size) is = is.0
look_prepares g slot j (Read k answer) is = is.0
look_prepares g slot j (Write k bytes answer) is = absurd is.1
look_prepares g slot j (Sync answer) is = is.0

second_prepares : (g : Geometry) (slot j : ℕ) (c : SlotCall) → IsSecondLook slot j c → IsPreparing g slot j c
second_prepares g slot j c is = look_prepares g slot j c is.0

writes_prepare : (g : Geometry) (slot j : ℕ) (c : SlotCall) → IsWriteOf (new_journal g) (IsSlot slot) j c → IsPreparing g slot j c
writes_prepare g slot j c w =
    let within = journal_is g j w.sector w.bytes w.is_one in subst (IsPreparing g slot j) (sym w.is) (w.on, within.0, within.1)

syncs_prepare : (g : Geometry) (slot j : ℕ) (c : SlotCall) → IsSyncOf (IsSlot slot) j c → IsPreparing g slot j c
syncs_prepare g slot j c s = subst (IsPreparing g slot j) (sym s.is) s.on

looks : (m : Membership) (slot : ℕ) (mid old new : RackState) → WasLookedAt slot mid old new → Looks slot mid (snapshot m old) (snapshot m new)
looks m slot mid old new was =
    record { member = refl; first = was.first; attached = was.attached; later = was.later; ran = was.ran }

-- the slot of this member wasn't fit
module _ (m : Membership) (slot : ℕ) (old new : RackState) where
  unfit : (why : ReplaceFault) → LooksAt m.array.geometry slot old new (Err why)
      → PreparesSlot slot (Err (replace_refusal why)) (snapshot m old) (snapshot m new)
  unfit (fault.Gone at) told =
      subst (λ (s : ℕ). PreparesSlot slot (Err (Gone s)) (snapshot m old) (snapshot m new)) (sym told.0)
      (PreparesSlot.WasGone (snapshot m old) (snapshot m new)
      (record {
        member = refl;
        later = told.1.later;
        ran = λ is.
            ran_weakened {allowed = IsLookAt slot} {more = IsPreparing m.array.geometry slot} (look_prepares m.array.geometry slot) (told.1.ran is);
      }) told.1.gone)
  unfit (fault.SmallDevice at has needs) told =
      let mid = told.1.0 in
      subst (λ (s : ℕ). PreparesSlot slot (Err (SmallDevice s has needs)) (snapshot m old) (snapshot m new)) (sym told.0)
      (PreparesSlot.WasSmall has needs told.1.0 (snapshot m old) (snapshot m new) (looks m slot told.1.0 old new told.1.1) told.1.2)
  unfit (fault.AlreadyArray at) told =
      subst (λ (s : ℕ). PreparesSlot slot (Err (AlreadyArray s)) (snapshot m old) (snapshot m new)) (sym told.0)
      (PreparesSlot.WasOther told.1.0 (snapshot m old) (snapshot m new) (looks m slot told.1.0 old new told.1.1) told.1.2)
  unfit (fault.OutOfRange asked limit) told = absurd told
  unfit (fault.SlotBusy at mark) told = absurd told
  unfit (fault.TooFew whys) told = absurd told
  unfit fault.EpochsSpent told = absurd told

  pub prepare_unfit : (g : Geometry) → g ≡ m.array.geometry → (why : ReplaceFault) (result : Result (Unit {0}) ReplaceFault)
      → IsErrAnd result (λ e. e ≡ why) → LooksAt g slot old new (Err why) → PreparesSlot slot (replaced_as result) (snapshot m old) (snapshot m new)
  prepare_unfit g same why result is told =
      subst (λ (r : Result (Unit {0}) Refusal). PreparesSlot slot r (snapshot m old) (snapshot m new)) (sym (handed_refusal result why is))
      (unfit why (subst (λ (k : Geometry). LooksAt k slot old new (Err why)) same told))

-- it was fit, and its journal was laid out
module _ (m : Membership) (g : Geometry) (same : g ≡ m.array.geometry) (slot : ℕ) (places : Places) (honest : Bool) (old mid new : List Happening)
    (b₀ b₁ b₂ : ℕ) (g₀ g₁ g₂ : ℕ → ℕ) (fit : WasFit g slot places (rack_state honest old b₀ g₀) (rack_state honest mid b₁ g₁)) (answer : Reply)
    (placed : IsTrue honest → Placed (new_journal g) (IsSlot slot) (IsGoneSlot slot answer) mid new) (counts : NoneFalls b₁ b₂ g₁ g₂) where
  abbrev from_old : RackState
  from_old = rack_state honest old b₀ g₀

  abbrev at_look : RackState
  at_look = rack_state honest mid b₁ g₁

  abbrev at_new : RackState
  at_new = rack_state honest new b₂ g₂

  laid : IsLater at_look at_new
  laid = record {
    counts = counts;
    honest = refl;
    ran = λ is.
        ran_join (ran_any {allowed = IsWriteOf (new_journal g) (IsSlot slot)} (placed is).writes)
        (ran_any {allowed = IsSyncOf (IsSlot slot)} (placed is).syncs);
  }

  before : IsLater from_old at_look
  before = later_join fit.looked.first fit.looked.later

  pub prepare_gone : answer ≡ reply.Gone → Rose (g₁ slot) (g₂ slot) → PreparesSlot slot (Err (Gone slot)) (snapshot m from_old) (snapshot m at_new)
  prepare_gone gone rose =
      PreparesSlot.WasGone (snapshot m from_old) (snapshot m at_new)
      (record {
        member = refl;
        later = later_join before laid;
        ran = λ is. subst (λ (k : Geometry). Ran (IsPreparing k slot) old new) same (all is);
      })
      (gone_after g honest old mid new b₀ b₁ b₂ g₀ g₁ g₂ slot before laid rose
      (λ is.
      offline_now
      ((placed is).shut old slot (refl, gone) (taken_held (fit.taken is))
      (λ attached k bytes one.
      let below = (journal_is g slot k bytes one).1 in taken_reach k (omega (arith, below)) (fit.taken is) attached))))
    where
      all : IsTrue honest → Ran (IsPreparing g slot) old new
      all is =
          ran_join
          (ran_weakened {allowed = IsThis slot (Attach reply.Done)} {more = IsPreparing g slot}
          (λ j c this. subst (IsPreparing g slot j) (sym this.1) this.0)
          (calls_ran (fit.looked.attached (fit.looked.later.honest ∙ is))))
          (ran_join (ran_weakened {allowed = IsSecondLook slot} {more = IsPreparing g slot} (second_prepares g slot) (fit.looked.ran is))
          (ran_join
          (ran_weakened {allowed = IsWriteOf (new_journal g) (IsSlot slot)} {more = IsPreparing g slot} (writes_prepare g slot) (placed is).writes)
          (ran_weakened {allowed = IsSyncOf (IsSlot slot)} {more = IsPreparing g slot} (syncs_prepare g slot) (placed is).syncs)))

  pub prepared : answer ≡ reply.Done → (seen : Membership) → Sees slot places.first places.second m seen → IsMembership seen
      → PreparesSlot slot (Ok tt) (snapshot m from_old) (snapshot seen at_new)
  prepared done seen sees rules =
      PreparesSlot.Prepared places.first places.second fit.mid (snapshot m from_old) (snapshot m at_look) (snapshot seen at_new)
      (looks m slot fit.mid from_old at_look fit.looked)
      (subst (λ (k : Geometry). IsFit k slot places.first places.second fit.mid at_look) same fit.fit) laid
      (λ is.
      subst (λ (k : Geometry). Placed (new_journal k) (IsSlot slot) (λ j. ⊥) mid new) same
      (Placed-same (λ j. (λ gone. let never : reply.Done ≡ reply.Gone = sym done ∙ gone.1 in absurd (cc), λ never. absurd never)) (placed is))) sees rules

-- REPLACING

-- what an admission that was refused answers
admission_answer : (result : Result (Unit {0}) ReplaceFault) (why : AdmitFault) → IsErrAnd result (λ e. e ≡ admission_fault why)
    → replaced_as result ≡ admitted_as (Err why)
admission_answer (Ok done) why is = absurd is
admission_answer (Err e) why same = ap (λ (f : ReplaceFault). Err (replace_refusal f)) same ∙ alike why
  where
    alike : (f : AdmitFault) → Err (replace_refusal (admission_fault f)) ≡ admitted_as (Err f)
    alike (admit.TooFew whys) = refl
    alike admit.EpochsSpent = refl
    alike (admit.Gone slot) = refl

pub unprepared : (slot : ℕ) (x y : Snapshot) (result : Result (Unit {0}) ReplaceFault) (why : ReplaceFault) → IsErrAnd result (λ e. e ≡ why)
    → IsFree x.member slot → PreparesSlot slot (Err (replace_refusal why)) x y → Replaces slot (replaced_as result) x y
unprepared slot x y result why is free prepares =
    subst (λ (r : Result (Unit {0}) Refusal). Replaces slot r x y) (sym (handed_refusal result why is))
    (Replaces.Unprepared (replace_refusal why) x y free prepares)

pub admitted : (slot : ℕ) (x y z : Snapshot) (answer : Result (Unit {0}) Refusal) → IsFree x.member slot → PreparesSlot slot (Ok tt) x y
    → AdmitsSlot slot answer y z → Replaces slot answer x z
admitted slot x _ _ _ free prepares (AdmitsSlot.Joined given y z joins) = Replaces.Admitted given x y z free prepares joins

pub unadmitted : (slot : ℕ) (x y z : Snapshot) (why : AdmitFault) (result : Result (Unit {0}) ReplaceFault) → IsErrAnd result (λ e. e ≡ admission_fault why)
    → IsFree x.member slot → PreparesSlot slot (Ok tt) x y → AdmitsSlot slot (admitted_as (Err why)) y z → Replaces slot (replaced_as result) x z
unadmitted slot x y z why result is free prepares admits =
    rw (admission_answer result why is) (admitted slot x y z (admitted_as (Err why)) free prepares admits)

-- what refuses a slot before its device is looked at
pub not_free : (x : Snapshot) (slot : ℕ) (why : ReplaceFault) (result : Result (Unit {0}) ReplaceFault) → IsErrAnd result (λ e. e ≡ why)
    → IsNotFree x.member slot why → Replaces slot (replaced_as result) x x
not_free x slot why result is not =
    subst (λ (r : Result (Unit {0}) Refusal). Replaces slot r x x) (sym (handed_refusal result why is)) (by why not)
  where
    by : (f : ReplaceFault) → IsNotFree x.member slot f → Replaces slot (Err (replace_refusal f)) x x
    by (fault.OutOfRange asked limit) was =
        let past = was.2 in
        let is_limit = was.1 in
        rw (was.0, was.1) (Replaces.OutOf x (omega (arith, past, is_limit)))
    by (fault.SlotBusy at mark) was =
        rw (was.0, ← was.2) (Replaces.Busy x was.1 (λ down. was.3 (sym was.2 ∙ down)))
    by (fault.Gone at) was = absurd was
    by (fault.SmallDevice at has needs) was = absurd was
    by (fault.AlreadyArray at) was = absurd was
    by (fault.TooFew whys) was = absurd was
    by fault.EpochsSpent was = absurd was

-- a rebuild that is under way stays so where nothing is changed
pub rebuild_stays : (m : Membership) (rebuild : Option Rebuild) → IsUnderWay m rebuild → rebuild ≡ rebuild_after m rebuild
rebuild_stays m None under = refl
rebuild_stays m (Some one) under = sym (ap (λ (w : Why). rebuild_of w one) (under one refl).0.why)

-- THE NEWS OF A REPLACEMENT

-- where the member names what it named before
pub admitted_news : (slot : ℕ) (answer : Result (Unit {0}) Refusal) (a b c : Configuration) (was mid is : News) → b ≡ a → mid ≡ was
    → AddsNews (ReplaceSlot slot) answer b c mid is → AddsNews (ReplaceSlot slot) answer a c was is
admitted_news slot answer a b c was mid is same were adds =
    subst (λ (k : Configuration). AddsNews (ReplaceSlot slot) answer k c was is) same
    (subst (λ (n : News). AddsNews (ReplaceSlot slot) answer b c n is) were adds)

pub unadmitted_news : (slot : ℕ) (why : AdmitFault) (result : Result (Unit {0}) ReplaceFault) → IsErrAnd result (λ e. e ≡ admission_fault why)
    → (a b c : Configuration) (was mid is : News) → b ≡ a → mid ≡ was → AddsNews (ReplaceSlot slot) (admitted_as (Err why)) b c mid is
    → AddsNews (ReplaceSlot slot) (replaced_as result) a c was is
unadmitted_news slot why result same a b c was mid is seen were adds =
    rw (admission_answer result why same) (admitted_news slot (admitted_as (Err why)) a b c was mid is seen were adds)
