-- What `create` makes, and why it doesn't.
use Rattle.std.proofs.Common.{◌≡◌, ℕ, ◌<◌, ◌≤◌, true, List, [], ◌∷◌, ◌++◌, ◌⊎◌, inl, inr, refl, sym, ap, ◌∙◌, subst, arith, Option, None, Some, Result, Ok, Err, true≢false}
use Rattle.std.specs.Prelude.{IfErr, IsOk, IsTrue, OnOk, ⊤}
use Rattle.std.proofs.lemmas.Bool.{cases_lt, le-ltb}
use Rattle.std.proofs.lemmas.List.{append_cancel_right}
use Rattle.stair_model.specs.Geometry.{Geometry, IsWithinLimits, sectors_needed}
use Rattle.stair_rack.specs.Answers.{IsCall, IsHistory, IsNoAttach, Ran, Runs, any_call}
use Rattle.stair_rack.specs.Count.{kept-Rose}
use Rattle.stair_rack.specs.Crash.{CrashMayLeave, EachImage}
use Rattle.stair_rack.specs.History.{SlotAct, Pulled, InsertedBlank, InsertedOld, SectorDamaged, SlotCall, Attach, Sectors, Read, Write, Sync, Happening, Made, Stopped, Acted, Called, SlotState, after_act, after_call, slot_state}
use Rattle.stair_rack.specs.Media.{Image, has_sector}
use Rattle.stair_rack.specs.Moments.{AtEveryMoment, AtSomeMoment, IsMoment, Throughout}
use Rattle.stair_rack.specs.Offline.{Here, Lost, IsKept, IsOffline}
use Rattle.stair_rack.specs.Outside.{IsAct, MayHappen}
use Rattle.stair_rack.specs.Passes.{Landed}
use Rattle.stair_rack.specs.Sector.{Cell, Good, Damaged, Sector, LeftOf, MayLeave, content, newest, settled}
use Rattle.stair_rack.specs.Stretch.{EachHappening, IsNoWrite, NoneWritten, NothingWritten}
use Rattle.stair_rack.specs.declared.rack.Reply.TheVariants as reply
use Rattle.stair_rack.proofs.StepLemmas.{slot_act_cases, slot_after_act, slot_call_cases, throughout_end}
use Rattle.stair_rack.proofs.MomentLemmas.{at_every_from, at_last, at_moment, at_some_wider, moment_between, moment_sooner, ran_any, ran_before, ran_join, ran_none, ran_weakened}
use Rattle.stair_rack.proofs.StretchLemmas.{each_after, each_before, each_join, each_of_ran, none_written}
use Rattle.stair_rack.proofs.KeptLemmas.{IsKept-since}
use Rattle.stair_rack.proofs.OfflineLemmas.{pulls_on}
use Rattle.stair_rack.proofs.TidyLemmas.{HasSize, Same, Other, history_on, size_on}
use Rattle.stair_super.specs.Superblock.{Superblock}
use Rattle.stair_member.specs.Superblocks.{HasSuper, HoldsSuper}
use Rattle.stair_array.specs.Created.{IsNewArray, IsNewDevice, IsNewSlot, NoneComesBack, created_sector}
use Rattle.stair_array.specs.Created as created
use Rattle.stair_array.specs.Look.{IsLook, IsTaken}
use Rattle.stair_rack.specs.RackState.{IsLater, IsReading, RackState}
use Rattle.stair_array.specs.Looking.{Finding, WasGone, WasSmall, Holds, AllPassed, HadSectors, IsFound, IsGoneInWriting, IsNotCreated, IsRefusedFor, IsUnwritten, cells_at}
use Rattle.stair_array.specs.Making.{AreMade, IsBehind, IsCreating, IsLaidOut, IsMaking, IsNoPlaceWrite, IsPlace, IsSlotOf, IsStoppedBy, IsWriteWithin, NoPlaceWritten, SuperblocksCameLast, CameAfter, WritesInTurn, WritesNoPlace, WritesWithin, WrittenWithin}
use Rattle.stair_state.specs.Represents.{AreSteady, IsLargeEnough}
use Rattle.stair_array.specs.declared.fault.CreateFault.{CreateFault}
use Rattle.stair_array.specs.declared.fault.CreateFault.TheVariants.{Gone, SmallDevice, AlreadyArray}
use Rattle.stair_state.proofs.RedoPhaseLemmas.{large_some}
use Rattle.stair_array.proofs.DeviceLemmas.{made_on, made_sooner, making_no_attach}
use Rattle.stair_array.proofs.EnrolLemmas.{none_second}
use Rattle.stair_array.proofs.PulledLemmas.{IsSameOrOther, ReturnsOnly, SameMedium, OtherMedium, BearsNot, any_cell, bears_none, lost_bears_not, returns_any, returns_none, same_or_other}

-- WHY THERE IS NO ARRAY

-- the writing stopped at a slot that was taken
pub gone_in_writing : (g : Geometry) (fault : CreateFault) (old mid now next : RackState) → IsLater mid now → IsLater now next
    → (IsTrue next.honest → (j : ℕ) → j < g.n → IsTaken g j old.history now.history) → IsStoppedBy g fault now next → IsGoneInWriting g fault old mid next
gone_in_writing g (Gone slot) old mid now next first second taken stop = (
  stop.0,
  kept-Rose (mid.gones slot) (now.gones slot) (next.gones slot) (first.counts.gone slot).not_less (second.counts.gone slot).not_less stop.1.gone,
  λ is. stop.1.offline is old.history (taken is slot stop.0),
)
gone_in_writing g (SmallDevice slot has needs) old mid now next first second taken stop = absurd stop
gone_in_writing g (AlreadyArray slot) old mid now next first second taken stop = absurd stop

pub given_up : (g : Geometry) (fault : CreateFault) (old mid now next : RackState) → AllPassed g old mid → IsLater mid now → IsLater now next → IsLater mid next
    → (IsTrue next.honest → (j : ℕ) → j < g.n → IsTaken g j old.history now.history) → IsStoppedBy g fault now next → IsNotCreated g fault old next
given_up g fault old mid now next passed first second whole taken stop =
    inr (record {
      mid = mid;
      passed = passed;
      later = whole;
      gone = gone_in_writing g fault old mid now next first second taken stop;
    })

-- WHERE THERE IS ONE

-- a slot that is never offline keeps its medium
size_act : (before h : List Happening) (i j : ℕ) (a : SlotAct) (size : Option ℕ) → i ≡ j → MayHappen (slot_state h j) a
    → (¬ IsOffline before h j) → (¬ IsOffline before (Acted i a ∷ h) j) → (slot_state h j).size ≡ size → (after_act a (slot_state h j)).size ≡ size
size_act before h i j (Pulled m) size same may there here is =
    absurd (here (IsOffline.NoMedium
    (subst (λ n. (slot_state (Acted n (Pulled m) ∷ h) j).size ≡ None) (sym same) (ap (λ (b : SlotState). b.size) (slot_after_act h j (Pulled m))))))
size_act before h i j (InsertedBlank n) size same may there here is = absurd (there (IsOffline.NoMedium may))
size_act before h i j (InsertedOld l) size same may there here is = absurd (there (IsOffline.NoMedium may.0))
size_act before h i j (SectorDamaged k) size same may there here is = is

size_call : (b : SlotState) (c : SlotCall) (size : Option ℕ) → b.size ≡ size → (after_call c b).size ≡ size
size_call b (Attach reply.Done) size is = is
size_call b (Attach reply.Gone) size is = is
size_call b (Sectors n) size is = is
size_call b (Read k answer) size is = is
size_call b (Write k bytes reply.Done) size is = is
size_call b (Write k bytes reply.Gone) size is = is
size_call b (Sync reply.Done) size is = is
size_call b (Sync reply.Gone) size is = is

size_step : (before h : List Happening) (j : ℕ) (e : Happening) (size : Option ℕ) → IsAct h e ⊎ IsCall any_call h e → (¬ IsOffline before h j)
    → (¬ IsOffline before (e ∷ h) j) → (slot_state h j).size ≡ size → (slot_state (e ∷ h) j).size ≡ size
size_step before h j (Made image) size (inl may) there here is = absurd may
size_step before h j (Made image) size (inr may) there here is = absurd may
size_step before h j Stopped size may there here is = is
size_step before h j (Acted i a) size (inl may) there here is =
    slot_act_cases (λ b. b.size ≡ size) h i j a
    (λ same. size_act before h i j a size same (subst (λ n. MayHappen (slot_state h n) a) same may.1) there here is) is
size_step before h j (Acted i a) size (inr may) there here is = absurd may
size_step before h j (Called i c) size may there here is =
    slot_call_cases (λ b. b.size ≡ size) h i j c (λ same. size_call (slot_state h j) c size is) is

size_stays : (before : List Happening) (j : ℕ) (more old : List Happening) → Runs any_call more old → Throughout (λ h. ¬ IsOffline before h j) more old
    → (slot_state (more ++ old) j).size ≡ (slot_state old j).size
size_stays before j [] old runs online = refl
size_stays before j (e ∷ more) old runs online =
    size_step before (more ++ old) j e (slot_state old j).size runs.1 (throughout_end (λ h. ¬ IsOffline before h j) more old online.1) online.0
    (size_stays before j more old runs.0 online.1)

pub size_kept : (before : List Happening) (j : ℕ) (old new : List Happening) → Ran any_call old new → AtEveryMoment (λ h. ¬ IsOffline before h j) old new
    → (slot_state new j).size ≡ (slot_state old j).size
size_kept before j old new ran online =
    let same : ran.more ≡ online.more = append_cancel_right ran.more online.more old (sym ran.is ∙ online.is) in
    subst (λ x. (slot_state x j).size ≡ (slot_state old j).size) (sym online.is)
    (size_stays before j online.more old (subst (λ m. Runs any_call m old) same ran.runs) online.each)

module _ (g : Geometry) (old new : RackState) (is : IsTrue new.honest) (ran : Ran any_call old.history new.history)
    (online : AtEveryMoment (λ h. (j : ℕ) → j < g.n → ¬ IsOffline old.history h j) old.history new.history)
    (large : (j : ℕ) → j < g.n → IsLargeEnough g (slot_state old.history j).size)
    (bare : (h : List Happening) (j : ℕ) → IsMoment old.history h new.history → NothingWritten old.history h → j < 32 → ¬ HasSuper (cells_at h j)) where
  never_offline : (j : ℕ) → j < g.n → ¬ AtSomeMoment (λ h. IsOffline old.history h j) old.history new.history
  never_offline j below some =
      at_moment {P = λ h. (j : ℕ) → j < g.n → ¬ IsOffline old.history h j} online some.is_one j below some.holds

  size_at : (h : List Happening) (j : ℕ) → IsMoment old.history h new.history → j < g.n → (slot_state h j).size ≡ (slot_state old.history j).size
  size_at h j at below =
      let upto = ran_before {allowed = any_call} ran at in
      size_kept old.history j old.history h upto
      (at_every_from {P = λ x. ¬ IsOffline old.history x j} upto.more upto.is
      (λ x at'. at_moment {P = λ y. (i : ℕ) → i < g.n → ¬ IsOffline old.history y i} online (moment_sooner at' at) j below))

  never_small : (j has : ℕ) → j < g.n → has < sectors_needed g → ¬ HadSectors j has old.history new.history
  never_small j has below small some =
      let size : (slot_state old.history j).size ≡ Some has = sym (size_at some.moment j some.is_one below) ∙ some.holds in
      let within : has_sector (Some has) has ≡ true = subst (λ o. has_sector o has ≡ true) size (large j below has small) in
      true≢false (sym within ∙ le-ltb has has (omega arith))

  never_held : (j k : ℕ) (bytes : List ℕ) (s : Superblock) → j < 32 → k < 2 → IsUnwritten old new → IsReading j k old new (Good bytes)
      → ¬ HoldsSuper (Good bytes) s
  never_held j k bytes s below place unwritten reading holds =
      let was = reading is in
      bare was.moment j was.is_one (each_before (unwritten is) was.is_one) below
      (record { place = k; place_in = place; super = s; holds = subst (λ cell. HoldsSuper cell s) (sym was.found) holds })

  never_read : (j k : ℕ) (cell : Cell) (s : Superblock) → j < 32 → k < 2 → IsUnwritten old new → IsReading j k old new cell → ¬ HoldsSuper cell s
  never_read j k cell s below place unwritten reading holds =
      never_held j k holds.bytes s below place unwritten (subst (IsReading j k old new) holds.good reading)
      (subst (λ c. HoldsSuper c s) holds.good holds)

  never_found : (fault : CreateFault) (j : ℕ) (finding : Finding) → j < 32 → IsUnwritten old new → IsFound g j old new finding
      → ¬ IsRefusedFor g j finding fault
  never_found (Gone slot) j WasGone below unwritten found refused = never_offline j refused.0 (found.1 is)
  never_found (Gone slot) j (WasSmall has) below unwritten found refused = refused
  never_found (Gone slot) j (Holds cell) below unwritten found refused = refused
  never_found (SmallDevice slot has' needs) j WasGone below unwritten found refused = refused
  never_found (SmallDevice slot has' needs) j (WasSmall has) below unwritten found refused = never_small j has found.0 found.1 (found.2 is)
  never_found (SmallDevice slot has' needs) j (Holds cell) below unwritten found refused = refused
  never_found (AlreadyArray slot) j WasGone below unwritten found refused = refused
  never_found (AlreadyArray slot) j (WasSmall has) below unwritten found refused = refused
  never_found (AlreadyArray slot) j (Holds cell) below unwritten found refused =
      let has = refused.1 in
      never_read j has.place (cell has.place) has.super below has.place_in unwritten (found.0 has.place has.place_in) has.holds

  never_gone : (fault : CreateFault) (mid : RackState) → ¬ IsGoneInWriting g fault old mid new
  never_gone (Gone slot) mid gone =
      at_last {P = λ h. (j : ℕ) → j < g.n → ¬ IsOffline old.history h j} online slot gone.0 (gone.2 is)
  never_gone (SmallDevice slot has needs) mid gone = gone
  never_gone (AlreadyArray slot) mid gone = gone

  -- then there is one
  pub never_refused : (fault : CreateFault) → ¬ IsNotCreated g fault old new
  never_refused fault (inl was) = never_found fault was.slot was.finding was.slot_in was.unwritten was.found was.refused
  never_refused fault (inr was) = never_gone fault was.mid was.gone

pub ok_unless : {T E : Type 0} {P : E → Type 0} (r : Result T E) → IfErr r P → ((e : E) → ¬ P e) → IsOk r
ok_unless (Ok x) err never = refl
ok_unless (Err e) err never = absurd (never e err)

pub on_err : {T E : Type 0} (r : Result T E) (P Q : E → Type 0) → IfErr r P → ((e : E) → P e → Q e) → IfErr r Q
on_err (Ok x) P Q is within = tt
on_err (Err e) P Q is within = within e is

pub always_on_ok : {T E P : Type 0} (r : Result T E) → P → OnOk r P
always_on_ok (Ok x) holds = holds
always_on_ok (Err e) holds = tt

-- WHAT IS MADE

abbrev pub every_sector : ℕ → Type 0
every_sector k = ⊤

-- what lies after the superblock places was made, and then these were
pub made_whole : (g : Geometry) (j : ℕ) (slots : ℕ → Type 0) (old mid new : List Happening) → AreMade g (IsBehind g) j old mid
    → AreMade g IsPlace j mid new → Ran any_call old mid → Ran (IsMaking g slots IsPlace) mid new → AreMade g every_sector j old new
made_whole g j slots old mid new behind places ran ran' = record {
  landed = λ k is below. elim (cases_lt k 2) [ inl place ↦ after.landed k place below | inr past ↦ before.landed k (past, below) below ];
  stands = λ k is below. elim (cases_lt k 2) [ inl place ↦ after.stands k place below | inr past ↦ before.stands k (past, below) below ];
}
  where
    before : AreMade g (IsBehind g) j old new
    before =
        made_on {allowed = IsMaking g slots IsPlace} behind ran'
        (λ k past bytes may. let place : k < 2 = may.1 in let beyond : 2 ≤ k = past.0 in omega arith)

    after : AreMade g IsPlace j old new
    after = made_sooner ran places

-- Slot j was taken, and since then each sector that the array needs was made.
pub record IsFinished (g : Geometry) (j : ℕ) (old new : List Happening) : Type 0 where
  pub slot : IsTaken g j old new
  pub sectors : AreMade g every_sector j slot.taken new

finished : (g : Geometry) (j : ℕ) (slots : ℕ → Type 0) (old now mid new : List Happening) → IsTaken g j old now → AreMade g (IsBehind g) j now mid
    → AreMade g IsPlace j mid new → Ran (IsMaking g slots (IsBehind g)) now mid → Ran (IsMaking g slots IsPlace) mid new → IsFinished g j old new
finished g j slots old now mid new t behind places ran ran' = record {
  slot = record {
    taken = t.taken;
    history = t.history;
    before = t.before;
    since =
        ran_join t.since
        (ran_join (making_no_attach g {slots = slots} {part = IsBehind g} j ran) (making_no_attach g {slots = slots} {part = IsPlace} j ran'));
    in_use = t.in_use;
    large = t.large;
  };
  sectors =
      made_sooner (ran_any {allowed = IsNoAttach j} t.since)
      (made_whole g j slots now mid new behind places (ran_any {allowed = IsMaking g slots (IsBehind g)} ran) ran');
}

module _ (g : Geometry) (j : ℕ) (old new : List Happening) (f : IsFinished g j old new) where
  pub finished_landed : (k : ℕ) → k < sectors_needed g → Landed old new j k (created_sector g j k)
  finished_landed k below =
      at_some_wider {a = any_call} {b = any_call} {P = λ h. content ((slot_state h j).sector k) ≡ Good (created_sector g j k)} f.slot.before (ran_none new)
      (f.sectors.landed k tt below)

  stands : (k : ℕ) → k < sectors_needed g → IsKept (slot_state f.slot.taken j).pulls k (λ s. s ≡ settled (Good (created_sector g j k))) (slot_state new j)
  stands k below = f.sectors.stands k tt below

  same_since : (k : ℕ) → (slot_state new j).pulls ≡ (slot_state f.slot.taken j).pulls
      → IsKept (slot_state f.slot.taken j).pulls k (λ s. s ≡ settled (Good (created_sector g j k))) (slot_state new j) → ((slot_state new j).sector k).since ≡ []
  same_since k same (Here pulls some (inl is)) = ap (λ (s : Sector). s.since) is
  same_since k same (Here pulls some (inr is)) = ap (λ (s : Sector). s.since) is
  same_since k same (Lost less) = absurd (omega (arith, less, same))

  -- nothing is unsynced in a sector that the array needs
  pub finished_steady : (k : ℕ) → k < sectors_needed g → ((slot_state new j).sector k).since ≡ []
  finished_steady k below = judged (same_or_other any_cell any_lost (slot_state f.slot.taken j).pulls j f.slot.since (returns_any {allowed = IsNoAttach j} j f.slot.since) refl)
    where
      any_lost : (l : ℕ) → any_cell l Damaged
      any_lost l = tt

      judged : IsSameOrOther any_cell (slot_state f.slot.taken j).pulls (slot_state new j) → ((slot_state new j).sector k).since ≡ []
      judged (SameMedium same) = same_since k same (stands k below)
      judged (OtherMedium off synced has) = synced k

  -- the medium that was taken, as a crash may leave it
  device_left : (image : Image) → CrashMayLeave new image → (slot_state new j).pulls ≡ (slot_state f.slot.taken j).pulls → IsNewDevice g j (image j)
  device_left image left same = record {
    full = subst (IsLargeEnough g) (sym ((left j).size ∙ size_is sized)) f.slot.large;
    sectors = λ k below. cell_is k (stands k below);
  }
    where
      sized : HasSize (slot_state f.slot.taken j).pulls (slot_state f.slot.taken j).size (slot_state new j)
      sized =
          size_on {allowed = IsNoAttach j} (slot_state f.slot.taken j).pulls (slot_state f.slot.taken j).size j
          (large_some g (slot_state f.slot.taken j).size f.slot.large) f.slot.since (Same refl refl)

      size_is : HasSize (slot_state f.slot.taken j).pulls (slot_state f.slot.taken j).size (slot_state new j)
          → (slot_state new j).size ≡ (slot_state f.slot.taken j).size
      size_is (Same pulls is) = is
      size_is (Other less) = absurd (omega (arith, less, same))

      cell_is : (k : ℕ) → IsKept (slot_state f.slot.taken j).pulls k (λ s. s ≡ settled (Good (created_sector g j k))) (slot_state new j)
          → ((image j).cell k ≡ Good (created_sector g j k)) ⊎ ((image j).cell k ≡ Damaged)
      cell_is k (Here pulls some (inl is)) = inr (subst (λ s. MayLeave s ((image j).cell k)) is ((left j).each k))
      cell_is k (Here pulls some (inr is)) = inl (subst (λ s. MayLeave s ((image j).cell k)) is ((left j).each k))
      cell_is k (Lost less) = absurd (omega (arith, less, same))

  -- of a settled sector a crash leaves what a read finds
  only_content : (s : Sector) (cell : Cell) → s.since ≡ [] → MayLeave s cell → cell ≡ content s
  only_content s cell none left =
      of_none s.since none left
    where
      of_none : (since : List (List ℕ)) → since ≡ [] → LeftOf s.base since cell → cell ≡ newest s.base since
      of_none [] is was = was
      of_none (bytes ∷ since) is was = absurd (cc)

  pub finished_new : NoneComesBack g old new → (image : Image) → CrashMayLeave new image → IsNewSlot g j (image j)
  finished_new none image left = judged (same_or_other (BearsNot g j) (lost_bears_not g j) (slot_state f.slot.taken j).pulls j f.slot.since returned refl)
    where
      returned : EachHappening (ReturnsOnly (BearsNot g j) j) f.slot.taken new
      returned = returns_none g j (each_after none (moment_between {a = any_call} {b = IsNoAttach j} f.slot.before f.slot.since))

      judged : IsSameOrOther (BearsNot g j) (slot_state f.slot.taken j).pulls (slot_state new j) → IsNewSlot g j (image j)
      judged (SameMedium same) = created.Kept (device_left image left same)
      judged (OtherMedium off synced has) =
          created.Other
          (bears_none g j (image j).cell
          (λ k. subst (BearsNot g j k) (sym (only_content ((slot_state new j).sector k) ((image j).cell k) (synced k) ((left j).each k))) (has k)))

-- ALL SLOTS

pub all_finished : (g : Geometry) (old now mid new : List Happening) → IsWithinLimits g → ((j : ℕ) → j < 32 → j < g.n → IsTaken g j old now)
    → ((j : ℕ) → j < g.n → AreMade g (IsBehind g) j now mid) → Ran (IsMaking g (IsSlotOf g) (IsBehind g)) now mid
    → Ran (IsMaking g (IsSlotOf g) IsPlace) mid new → ((j : ℕ) → j < g.n → AreMade g IsPlace j mid new) → (j : ℕ) → j < g.n → IsFinished g j old new
all_finished g old now mid new limits taken behind ran ran' places j below =
    finished g j (IsSlotOf g) old now mid new (taken j (omega (arith, below, limits.devices)) below) (behind j below) (places j below) ran ran'

pub finished_image : (g : Geometry) (old new : List Happening) → ((j : ℕ) → j < g.n → IsFinished g j old new) → NoneComesBack g old new
    → EachImage (IsNewArray g) new
finished_image g old new each none image left j below = finished_new g j old new (each j below) none image left

pub finished_all_steady : (g : Geometry) (old new : List Happening) → ((j : ℕ) → j < g.n → IsFinished g j old new) → AreSteady g new
finished_all_steady g old new each j k below place = finished_steady g j old new (each j below) k (omega arith)

pub finished_history : (g : Geometry) (old new : List Happening) → IsWithinLimits g → ((j : ℕ) → j < g.n → IsFinished g j old new) → IsHistory new
finished_history g old new limits each =
    let first = (each 0 (omega (arith, limits.devices))).slot in history_on {allowed = IsNoAttach 0} first.history first.since

-- WHAT IS WRITTEN

pub looks_create : (g : Geometry) {old new : List Happening} → Ran IsLook old new → Ran (IsCreating g) old new
looks_create g ran = ran_weakened {allowed = IsLook} {more = IsCreating g} step ran
  where
    step : (j : ℕ) (c : SlotCall) → IsLook j c → IsCreating g j c
    step j (Attach answer) is = tt
    step j (Sectors size) is = tt
    step j (Read k answer) is = tt
    step j (Write k bytes answer) is = absurd is
    step j (Sync answer) is = tt

making_creates : (g : Geometry) (part : ℕ → Type 0) {old new : List Happening} → ((k : ℕ) → part k → k < sectors_needed g)
    → Ran (IsMaking g (IsSlotOf g) part) old new → Ran (IsCreating g) old new
making_creates g part needed ran = ran_weakened {allowed = IsMaking g (IsSlotOf g) part} {more = IsCreating g} step ran
  where
    step : (j : ℕ) (c : SlotCall) → IsMaking g (IsSlotOf g) part j c → IsCreating g j c
    step j (Attach answer) is = tt
    step j (Sectors size) is = tt
    step j (Read k answer) is = tt
    step j (Write k bytes answer) is = (is.0, needed k is.1, is.2)
    step j (Sync answer) is = tt

pub laying_creates : (g : Geometry) {old new : List Happening} → Ran (IsMaking g (IsSlotOf g) (IsBehind g)) old new → Ran (IsCreating g) old new
laying_creates g ran = making_creates g (IsBehind g) (λ k is. is.1) ran

pub enrolling_creates : (g : Geometry) {old new : List Happening} → Ran (IsMaking g (IsSlotOf g) IsPlace) old new → Ran (IsCreating g) old new
enrolling_creates g ran = making_creates g IsPlace (λ k is. let place : k < 2 = is in omega arith) ran

-- no other slot
pub created_spares : (g : Geometry) {old new : List Happening} → Ran (IsCreating g) old new → NoneWritten (λ j. g.n ≤ j) old new
created_spares g ran = none_written {allowed = IsCreating g} {slots = λ j. g.n ≤ j} spares ran
  where
    spares : (j : ℕ) (c : SlotCall) → IsCreating g j c → g.n ≤ j → IsNoWrite c
    spares j (Attach answer) is past = tt
    spares j (Sectors size) is past = tt
    spares j (Read k answer) is past = tt
    spares j (Write k bytes answer) is past = let below : j < g.n = is.0 in absurd (omega arith)
    spares j (Sync answer) is past = tt

-- and no sector that the array doesn't need
pub created_within : (g : Geometry) {old new : List Happening} → Ran (IsCreating g) old new → WrittenWithin g old new
created_within g ran = each_of_ran {allowed = IsCreating g} {P = WritesWithin g} act call ran
  where
    act : (h : List Happening) (e : Happening) → IsAct h e → WritesWithin g h e
    act h (Made image) may = tt
    act h Stopped may = tt
    act h (Acted j a) may = tt
    act h (Called j c) may = absurd may

    call : (h : List Happening) (j : ℕ) (c : SlotCall) → IsCreating g j c → IsWriteWithin g c
    call h j (Attach answer) is = tt
    call h j (Sectors size) is = tt
    call h j (Read k answer) is = tt
    call h j (Write k bytes answer) is = is.1
    call h j (Sync answer) is = tt

-- IN WHICH ORDER

spared : {allowed : ℕ → SlotCall → Type 0} {old new : List Happening} → ((j : ℕ) (c : SlotCall) → allowed j c → IsNoPlaceWrite c) → Ran allowed old new
    → NoPlaceWritten old new
spared {allowed} spares ran = each_of_ran {allowed = allowed} {P = WritesNoPlace} act (λ h j c may. spares j c may) ran
  where
    act : (h : List Happening) (e : Happening) → IsAct h e → WritesNoPlace h e
    act h (Made image) may = tt
    act h Stopped may = tt
    act h (Acted j a) may = tt
    act h (Called j c) may = absurd may

pub looks_no_place : {old new : List Happening} → Ran IsLook old new → NoPlaceWritten old new
looks_no_place ran = spared {allowed = IsLook} spares ran
  where
    spares : (j : ℕ) (c : SlotCall) → IsLook j c → IsNoPlaceWrite c
    spares j (Attach answer) is = tt
    spares j (Sectors size) is = tt
    spares j (Read k answer) is = tt
    spares j (Write k bytes answer) is = absurd is
    spares j (Sync answer) is = tt

pub laying_no_place : (g : Geometry) {slots : ℕ → Type 0} {old new : List Happening} → Ran (IsMaking g slots (IsBehind g)) old new
    → NoPlaceWritten old new
laying_no_place g {slots} ran = spared {allowed = IsMaking g slots (IsBehind g)} spares ran
  where
    spares : (j : ℕ) (c : SlotCall) → IsMaking g slots (IsBehind g) j c → IsNoPlaceWrite c
    spares j (Attach answer) is = absurd is
    spares j (Sectors size) is = absurd is
    spares j (Read k answer) is = absurd is
    spares j (Write k bytes answer) is = is.1.0
    spares j (Sync answer) is = tt

laid_out : (g : Geometry) (j : ℕ) (slots : ℕ → Type 0) (old now mid : List Happening) → IsTaken g j old now → AreMade g (IsBehind g) j now mid
    → Ran (IsMaking g slots (IsBehind g)) now mid → IsLaidOut g j old mid
laid_out g j slots old now mid t behind ran = record {
  since = t.taken;
  is_one =
      moment_between {a = any_call} {b = any_call} t.before
      (ran_join (ran_any {allowed = IsNoAttach j} t.since) (ran_any {allowed = IsMaking g slots (IsBehind g)} ran));
  in_use = t.in_use;
  stands = λ k is below. IsKept-since (pulls_on {allowed = IsNoAttach j} j t.since) (behind.stands k (is, below) below);
}

pub came_after : (g : Geometry) (old now mid new : List Happening) → IsWithinLimits g → ((j : ℕ) → j < 32 → j < g.n → IsTaken g j old now)
    → ((j : ℕ) → j < g.n → AreMade g (IsBehind g) j now mid) → Ran IsLook old now → Ran (IsMaking g (IsSlotOf g) (IsBehind g)) now mid
    → Ran (IsMaking g (IsSlotOf g) IsPlace) mid new → SuperblocksCameLast g old new
came_after g old now mid new limits taken behind looks laying last =
    CameAfter mid
    (moment_between {a = any_call} {b = IsMaking g (IsSlotOf g) IsPlace}
    (ran_join (ran_any {allowed = IsLook} looks) (ran_any {allowed = IsMaking g (IsSlotOf g) (IsBehind g)} laying)) last)
    (each_join (looks_no_place looks) (laying_no_place g laying))
    (λ j below. laid_out g j (IsSlotOf g) old now mid (taken j (omega (arith, below, limits.devices)) below) (behind j below) laying)

-- no superblock place was written in a look and in the laying out, so they are in turn
pub looks_in_turn : (g : Geometry) {old mid new : List Happening} → Ran IsLook mid new → EachHappening (WritesInTurn g old) mid new
looks_in_turn g ran = none_second g {allowed = IsLook} (λ j k bytes answer may second. absurd may) ran

pub laying_in_turn : (g : Geometry) {old mid new : List Happening} → Ran (IsMaking g (IsSlotOf g) (IsBehind g)) mid new
    → EachHappening (WritesInTurn g old) mid new
laying_in_turn g ran =
    none_second g {allowed = IsMaking g (IsSlotOf g) (IsBehind g)} (λ j k bytes answer may second. let past : 2 ≤ k = may.1.0 in omega arith) ran
