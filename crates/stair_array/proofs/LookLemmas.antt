-- What a look at one slot tells.
use Rattle.std.proofs.Common.{◌≡◌, ◌≢◌, ◌⊎◌, ℕ, ◌+◌, ◌<◌, ◌≤◌, below_more, Bool, true, false, List, inl, inr, refl, sym, ap, ◌∙◌, subst, arith, Some, if◌then◌else◌, true≢false}
use Rattle.std.specs.Prelude.{IsSome, IsTrue, not}
use Rattle.std.proofs.lemmas.Bool.{cases_Bool, false≢true, lt-ltb}
use Rattle.stair_model.specs.Geometry.{Geometry, sectors_needed}
use Rattle.stair_rack.specs.Answers.{Calls, IsBesideAttach, IsHistory, IsNoAttach, Ran, any_call, is_good, is_readable, is_ready}
use Rattle.stair_rack.specs.Count.{Rose, kept-Rose}
use Rattle.stair_rack.specs.History.{Happening, SlotCall, Attach, Sectors, Read, Write, Sync, slot_state, stopped}
use Rattle.stair_rack.specs.Media.{has_sector}
use Rattle.stair_rack.specs.Offline.{ButForOutside, Here, Lost, IsHeld, IsOffline}
use Rattle.stair_rack.specs.RackCounts.{NoneFalls}
use Rattle.stair_rack.specs.Sector.{Cell, Sector, content}
use Rattle.stair_rack.specs.Stretch.{IsNoWrite, NothingWritten, every_slot}
use Rattle.stair_rack.specs.declared.rack.Got.{Got}
use Rattle.stair_rack.specs.declared.rack.Got.TheVariants as got
use Rattle.stair_rack.specs.declared.rack.Reply.TheVariants as reply
use Rattle.stair_rack.proofs.StepLemmas.{kept}
use Rattle.stair_rack.proofs.MomentLemmas.{IsThis, at_end, calls_ran, moment_between, ran_any, ran_join, ran_none, ran_weakened}
use Rattle.stair_rack.proofs.KeptLemmas.{IsKept-now, IsLooking, SectorKeeps-looking, keeps_sector}
use Rattle.stair_rack.proofs.OfflineLemmas.{and-false, and-true_left, offline_now}
use Rattle.stair_rack.proofs.CallLemmas.{attach_done, attach_found, attach_gone, read_bad, sectors_of_last, sync_gone}
use Rattle.stair_rack.proofs.ReadLemmas.{read_answered, ready_unpulled}
use Rattle.stair_rack.proofs.PassCounts.{NoneFalls-same, NoneFalls-then}
use Rattle.stair_rack.proofs.StretchLemmas.{answered_wider, call_told, none_written}
use Rattle.stair_rack.proofs.TidyLemmas.{history_called, history_on, history_tidy}
use Rattle.stair_super.specs.Superblock.{Superblock}
use Rattle.stair_member.specs.Asked.{IsWhatWasRead}
use Rattle.stair_member.specs.Probing.{HoldsNone, ProbesPlace, ProbesSlot, WasGone as WasGoneToProbe, block_in}
use Rattle.stair_member.specs.Superblocks.{HasSuper, HoldsSuper, HoldsThis}
use Rattle.stair_member.specs.declared.probe.PlaceProbe.{PlaceProbe}
use Rattle.stair_member.specs.declared.probe.PlaceProbe.TheVariants as probe
use Rattle.stair_member.specs.declared.probe.SlotProbe.{SlotProbe}
use Rattle.stair_member.proofs.ProbeLemmas.{probe_gone, probe_readings}
use Rattle.stair_array.specs.Look.{AreJudged, IsLook, IsLookAt, IsFoundAs, IsReadOf, IsRefusedAt, IsSearched, IsTaken}
use Rattle.stair_array.specs.declared.fault.CreateFault.{CreateFault}
use Rattle.stair_array.specs.declared.look.Found.{Found}
use Rattle.stair_array.specs.declared.look.Found.TheVariants as found
use Rattle.stair_member.proofs.DecisionLemmas.{no_super}
use Rattle.stair_member.proofs.SightLemmas.{both, place_cases}
use Rattle.stair_rack.proofs.RackStateLemmas.{attach_uses, gone_wider, honest_within, later_called, later_join, later_none, reading_wider, some_wider}
use Rattle.stair_rack.specs.RackState.{IsLater, RackState, rack_state}
use Rattle.stair_array.specs.Looking.{Finding, WasGone, WasSmall, Holds, HadSectors, IsBare, IsFound, IsLarge, IsRefused, IsSettled, Passed, cells_at}
use Rattle.stair_state.specs.Represents.{IsLargeEnough}

-- CALLS

pub reads_beside : (slot j : ℕ) (c : SlotCall) → IsReadOf slot j c → IsBesideAttach c
reads_beside slot j (Attach answer) is = absurd is
reads_beside slot j (Sectors size) is = absurd is
reads_beside slot j (Read k answer) is = tt
reads_beside slot j (Write k bytes answer) is = absurd is
reads_beside slot j (Sync answer) is = absurd is

pub reads_look : (slot j : ℕ) (c : SlotCall) → IsReadOf slot j c → IsLookAt slot j c
reads_look slot j (Attach answer) is = absurd is
reads_look slot j (Sectors size) is = absurd is
reads_look slot j (Read k answer) is = (is, tt)
reads_look slot j (Write k bytes answer) is = absurd is
reads_look slot j (Sync answer) is = absurd is

reads_looking : (slot j : ℕ) (c : SlotCall) → IsReadOf slot j c → IsLooking c
reads_looking slot j (Attach answer) is = tt
reads_looking slot j (Sectors size) is = tt
reads_looking slot j (Read k answer) is = tt
reads_looking slot j (Write k bytes answer) is = absurd is
reads_looking slot j (Sync answer) is = absurd is

pub read_ran : {old new : List Happening} {j k : ℕ} {answer : Got} → Calls old new j (Read k answer) → Ran (IsReadOf j) old new
read_ran {j = j} {k = k} {answer = answer} called =
    ran_weakened {allowed = IsThis j (Read k answer)} {more = IsReadOf j}
    (λ i c this. subst (IsReadOf j i) (sym this.1) this.0) (calls_ran called)

-- a call on the slot that writes nothing
pub look_ran : {old new : List Happening} {j : ℕ} {c : SlotCall} → IsNoWrite c → Calls old new j c → Ran (IsLookAt j) old new
look_ran {j = j} {c = c} spares called =
    ran_weakened {allowed = IsThis j c} {more = IsLookAt j} (λ i d this. (this.0, subst IsNoWrite (sym this.1) spares)) (calls_ran called)

pub reads_ran : {old new : List Happening} {j : ℕ} → Ran (IsReadOf j) old new → Ran (IsLookAt j) old new
reads_ran {j = j} ran = ran_weakened {allowed = IsReadOf j} {more = IsLookAt j} (reads_look j) ran

-- no look at another slot attaches this one
pub look_elsewhere : {old new : List Happening} {i : ℕ} (j : ℕ) → i ≢ j → Ran (IsLookAt i) old new → Ran (IsNoAttach j) old new
look_elsewhere {i = i} j other ran =
    ran_weakened {allowed = IsLookAt i} {more = IsNoAttach j} (λ l c is same. absurd (other (sym is.0 ∙ same))) ran

pub reads_no_attach : {old new : List Happening} {j : ℕ} → Ran (IsReadOf j) old new → Ran (IsNoAttach j) old new
reads_no_attach {j = j} ran = ran_weakened {allowed = IsReadOf j} {more = IsNoAttach j} (λ l c is same. reads_beside j l c is) ran

call_no_attach : {old new : List Happening} {j : ℕ} {c : SlotCall} → IsBesideAttach c → Calls old new j c → Ran (IsNoAttach j) old new
call_no_attach {j = j} {c = c} beside called =
    ran_weakened {allowed = IsThis j c} {more = IsNoAttach j} (λ l d this same. subst IsBesideAttach (sym this.1) beside) (calls_ran called)

-- LONGER STRETCHES

module _ (old mid new later : RackState) (first : IsLater old mid) (same : mid.honest ≡ new.honest) (within : NoneFalls mid.bads new.bads mid.gones new.gones)
    (second : IsLater new later) where
  large_wider : (g : Geometry) (j : ℕ) → IsLarge g j mid new → IsLarge g j old later
  large_wider g j is below honest =
      let was = is below (honest_within old mid new later first same within second honest) in
      (was.0, was.1, some_wider old mid new later first same within second (λ h. (slot_state h j).size ≡ Some was.0) honest was.2)

  bare_wider : (j : ℕ) (cell : ℕ → Cell) → IsBare j mid new cell → IsBare j old later cell
  bare_wider j cell is none honest =
      some_wider old mid new later first same within second (λ h. ¬ HasSuper (cells_at h j)) honest
      (is none (honest_within old mid new later first same within second honest))

  -- what bears a finding out does so in each longer stretch
  pub found_wider : (g : Geometry) (j : ℕ) (finding : Finding) → IsFound g j mid new finding → IsFound g j old later finding
  found_wider g j WasGone was = gone_wider old mid new later first same within second j was
  found_wider g j (WasSmall has) was = (
    was.0,
    was.1,
    λ honest.
        some_wider old mid new later first same within second (λ h. (slot_state h j).size ≡ Some has) honest
        (was.2 (honest_within old mid new later first same within second honest)),
  )
  found_wider g j (Holds cell) was = (
    λ k below. reading_wider old mid new later first same within second j k (cell k) (was.0 k below),
    large_wider g j was.1,
    bare_wider j cell was.2,
  )

  settled_wider : (g : Geometry) (j : ℕ) → IsSettled g j mid new → IsSettled g j old later
  settled_wider g j was below honest =
      let here = honest_within old mid new later first same within second honest in
      answered_wider {a = any_call} {b = any_call} (first.ran (same ∙ here)) (second.ran honest) (was below here)

  pub passed_wider : (g : Geometry) (j : ℕ) → Passed g j mid new → Passed g j old later
  passed_wider g j was = record {
    finding = was.finding;
    found = found_wider g j was.finding was.found;
    passes = was.passes;
    settled = settled_wider g j was.settled;
  }

-- ONE READ

ready_of_good : {old new : List Happening} {j k : ℕ} → Calls old new j (Read k got.Good) → is_ready new j ≡ true
ready_of_good {old} {new} {j} {k} called = ready_parts (is_ready new j) (is_readable (slot_state new j) k) (read_answered old new j k got.Good called)
  where
    ready_parts : (ready readable : Bool) → got.Good ≡ (if ready then (if readable then got.Good else got.Bad) else got.Gone) → ready ≡ true
    ready_parts true readable is = refl
    ready_parts false readable is = absurd (cc)

ready_of_bad : {old new : List Happening} {j k : ℕ} → Calls old new j (Read k got.Bad) → is_ready new j ≡ true
ready_of_bad {old} {new} {j} {k} called = ready_parts (is_ready new j) (is_readable (slot_state new j) k) (read_answered old new j k got.Bad called)
  where
    ready_parts : (ready readable : Bool) → got.Bad ≡ (if ready then (if readable then got.Good else got.Bad) else got.Gone) → ready ≡ true
    ready_parts true readable is = refl
    ready_parts false readable is = absurd (cc)

-- what a sector that read as bad holds at the end of the read
bad_now : {old new : List Happening} {j k : ℕ} → IsHistory old → Calls old new j (Read k got.Bad) → is_good (content ((slot_state new j).sector k)) ≡ false
bad_now {old} {new} {j} {k} is called =
    let tidy = history_tidy (history_called is called) in
    elim (cases_Bool (has_sector (slot_state new j).size k)) [
      | inl has ↦
          and-false (has_sector (slot_state new j).size k) (is_good (content ((slot_state new j).sector k))) (read_bad old new j k called).0 has
      | inr past ↦ ap (λ s. is_good (content s)) (tidy.past_end j k past)
    ]

-- of a place that was read and holds no superblock
module _ {j k : ℕ} {place : PlaceProbe} {old new : RackState} (p : ProbesPlace j k place old new) (bare : place ≡ probe.Nothing)
    (is : IsTrue new.honest) where
  by_answer : (answer : Got) → Calls old.history new.history j (Read k answer) → IsWhatWasRead (place ≡ probe.Gone) answer new.history j k p.cell
      → (is_ready new.history j ≡ true) × ((s : Superblock) → ¬ HoldsSuper (content ((slot_state new.history j).sector k)) s)
  by_answer got.Good called finds = (
    ready_of_good called,
    λ s holds.
        let none : (t : Superblock) → ¬ HoldsSuper p.cell t = subst (λ (q : PlaceProbe). HoldsThis p.cell (block_in q)) bare p.holds in
        none s (subst (λ c. HoldsSuper c s) (sym finds) holds),
  )
  by_answer got.Bad called finds =
      (ready_of_bad called, λ s. no_super (content ((slot_state new.history j).sector k)) s (bad_now (p.began is) called))
  by_answer got.Gone called finds = let lost : probe.Nothing ≡ probe.Gone = sym bare ∙ finds.1 in absurd (cc)

  ready_then : is_ready new.history j ≡ true
  ready_then = (by_answer p.answer (p.called is) (p.finds is)).0

  bare_then : (s : Superblock) → ¬ HoldsSuper (content ((slot_state new.history j).sector k)) s
  bare_then = (by_answer p.answer (p.called is) (p.finds is)).1

-- BOTH PLACES

-- one of two cells holds a superblock
holds_one : (a b : PlaceProbe) (x y : Cell) → HoldsThis x (block_in a) → HoldsThis y (block_in b) → ¬ ((a ≡ probe.Gone) ⊎ (b ≡ probe.Gone))
    → ¬ ((a ≡ probe.Nothing) × (b ≡ probe.Nothing)) → HasSuper (both x y)
holds_one (probe.Block s) b x y first second here some = record { place = 0; place_in = omega arith; super = s; holds = first }
holds_one probe.Nothing (probe.Block s) x y first second here some = record { place = 1; place_in = omega arith; super = s; holds = second }
holds_one probe.Nothing probe.Nothing x y first second here some = absurd (some (refl, refl))
holds_one probe.Nothing probe.Gone x y first second here some = absurd (here (inr refl))
holds_one probe.Gone b x y first second here some = absurd (here (inl refl))

holds_none : (a b : PlaceProbe) (x y : Cell) → HoldsThis x (block_in a) → HoldsThis y (block_in b) → a ≡ probe.Nothing → b ≡ probe.Nothing
    → ¬ HasSuper (both x y)
holds_none a b x y first second is is' has =
    let none : (s : Superblock) → ¬ HoldsSuper x s = subst (λ (q : PlaceProbe). HoldsThis x (block_in q)) is first in
    let none' : (s : Superblock) → ¬ HoldsSuper y s = subst (λ (q : PlaceProbe). HoldsThis y (block_in q)) is' second in
    elim (place_cases has.place has.place_in) [
      | inl at ↦ none has.super (subst (λ k. HoldsSuper (both x y k) has.super) at has.holds)
      | inr at ↦ none' has.super (subst (λ k. HoldsSuper (both x y k) has.super) at has.holds)
    ]

nothing_here : (a b : PlaceProbe) → a ≡ probe.Nothing → b ≡ probe.Nothing → ¬ ((a ≡ probe.Gone) ⊎ (b ≡ probe.Gone))
nothing_here a b is is' (inl lost) = let never : probe.Nothing ≡ probe.Gone = sym is ∙ lost in absurd (cc)
nothing_here a b is is' (inr lost) = let never : probe.Nothing ≡ probe.Gone = sym is' ∙ lost in absurd (cc)

module _ {j : ℕ} {slot : SlotProbe} {old new : RackState} (probes : ProbesSlot j slot old new) where
  first_ran : IsTrue new.honest → Ran (IsReadOf j) old.history probes.between.history
  first_ran is = read_ran (probes.first.called (probes.second.later.honest ∙ is))

  second_ran : IsTrue new.honest → Ran (IsReadOf j) probes.between.history new.history
  second_ran is = read_ran (probes.second.called is)

  pub probe_ran : IsTrue new.honest → Ran (IsReadOf j) old.history new.history
  probe_ran is = ran_join (first_ran is) (second_ran is)

  -- the slot is in use from the one read to the other, so the first place holds what it held, or is damaged
  first_still : HoldsNone slot → IsTrue new.honest → (s : Superblock) → ¬ HoldsSuper (content ((slot_state new.history j).sector 0)) s
  first_still none is s = judged (kept_on some)
    where
      here : IsTrue probes.between.honest
      here = probes.second.later.honest ∙ is

      mid : List Happening
      mid = probes.between.history

      same : Sector → Type 0
      same t = t ≡ (slot_state probes.between.history j).sector 0

      some : IsSome (slot_state probes.between.history j).size
      some =
          (history_tidy (history_on {allowed = IsReadOf j} (probes.first.began here) (first_ran is))).attached j
          (and-true_left (slot_state probes.between.history j).attached (not (stopped probes.between.history)) (ready_then probes.first none.0 here))

      kept_on : IsSome (slot_state probes.between.history j).size → ButForOutside probes.between.history new.history j 0 same
      kept_on some =
          kept {allowed = IsReadOf j} {P = λ h. ButForOutside probes.between.history h j 0 same}
          (keeps_sector {allowed = IsReadOf j} {j = j} {k = 0} {P = same} (slot_state probes.between.history j).pulls
          (SectorKeeps-looking {allowed = IsReadOf j} j 0 same (reads_looking j j))) (second_ran is)
          (IsKept-now probes.between.history j 0 some)

      judged : ButForOutside probes.between.history new.history j 0 same → ¬ HoldsSuper (content ((slot_state new.history j).sector 0)) s
      judged (Here pulls some' (inl damage)) holds =
          no_super (content ((slot_state new.history j).sector 0)) s (ap (λ t. is_good (content t)) damage) holds
      judged (Here pulls some' (inr still)) holds = bare_then probes.first none.0 here s (subst (λ t. HoldsSuper (content t) s) still holds)
      judged (Lost pulled) holds =
          ready_unpulled {allowed = IsReadOf j} j (λ c is'. reads_beside j j c is') (second_ran is) (ready_then probes.second none.1 is) pulled

  bare_at_end : HoldsNone slot → IsTrue new.honest → ¬ HasSuper (cells_at new.history j)
  bare_at_end none is has =
      elim (place_cases has.place has.place_in) [
        | inl at ↦ first_still none is has.super (subst (λ k. HoldsSuper (cells_at new.history j k) has.super) at has.holds)
        | inr at ↦ bare_then probes.second none.1 is has.super (subst (λ k. HoldsSuper (cells_at new.history j k) has.super) at has.holds)
      ]

  pub judged_bare : HoldsNone slot → AreJudged j old new false
  judged_bare none = record {
    cell = both probes.first.cell probes.second.cell;
    reading = probe_readings probes (nothing_here slot.first slot.second none.0 none.1);
    holds = λ is. absurd (false≢true is);
    bare = λ is. holds_none slot.first slot.second probes.first.cell probes.second.cell probes.first.holds probes.second.holds none.0 none.1;
    moment = λ bare is. at_end {a = IsReadOf j} {P = λ h. ¬ HasSuper (cells_at h j)} (probe_ran is) (bare_at_end none is);
  }

  pub judged_super : ¬ WasGoneToProbe slot → ¬ HoldsNone slot → AreJudged j old new true
  judged_super here some =
      let has = holds_one slot.first slot.second probes.first.cell probes.second.cell probes.first.holds probes.second.holds here some in
      record {
        cell = both probes.first.cell probes.second.cell;
        reading = probe_readings probes here;
        holds = λ is. has;
        bare = λ is. absurd (true≢false is);
        moment = λ bare is. absurd (bare has);
      }

-- A SLOT OF THE ARRAY

-- reads of a slot make a later moment
pub later_read : (honest : Bool) (old new : List Happening) (bads bads' : ℕ) (gones gones' : ℕ → ℕ) (j : ℕ) → (IsTrue honest → Ran (IsReadOf j) old new)
    → NoneFalls bads bads' gones gones' → IsLater (rack_state honest old bads gones) (rack_state honest new bads' gones')
later_read honest old new bads bads' gones gones' j ran counts = record { counts = counts; honest = refl; ran = λ is. ran_any (ran is) }

-- gone at its attach
pub gone_attach : (g : Geometry) (honest : Bool) (old new : List Happening) (bads bads' : ℕ) (gones gones' : ℕ → ℕ) (j : ℕ)
    → (IsTrue honest → Calls old new j (Attach reply.Gone)) → Rose (gones j) (gones' j)
    → IsFound g j (rack_state honest old bads gones) (rack_state honest new bads' gones') WasGone
gone_attach g honest old new bads bads' gones gones' j told rose = (
  rose,
  λ is.
      at_end {a = IsThis j (Attach reply.Gone)} {P = λ h. IsOffline old h j} (calls_ran (told is))
      (elim (attach_gone old new j (told is)) [ inl none ↦ IsOffline.NoMedium none | inr stop ↦ IsOffline.RackStopped stop ]),
)

-- After its attach: gone at a call of this stretch.
pub gone_after : (g : Geometry) (honest : Bool) (old mid new : List Happening) (bads bads' bads'' : ℕ) (gones gones' gones'' : ℕ → ℕ) (j : ℕ)
    → IsLater (rack_state honest old bads gones) (rack_state honest mid bads' gones')
    → IsLater (rack_state honest mid bads' gones') (rack_state honest new bads'' gones'') → Rose (gones' j) (gones'' j)
    → (IsTrue honest → IsOffline old new j) → IsFound g j (rack_state honest old bads gones) (rack_state honest new bads'' gones'') WasGone
gone_after g honest old mid new bads bads' bads'' gones gones' gones'' j first second rose offline = (
  kept-Rose (gones j) (gones' j) (gones'' j) (first.counts.gone j).not_less (second.counts.gone j).not_less rose,
  λ is. at_end {a = any_call} {P = λ h. IsOffline old h j} (ran_join (first.ran is) (second.ran is)) (offline is),
)

module _ (old att : List Happening) (j : ℕ) (attached : Calls old att j (Attach reply.Done)) where
  held_from : IsHeld old att j
  held_from = attach_done old att j old (omega arith) attached

  pub offline_at_sync : {new : List Happening} → Calls att new j (Sync reply.Gone) → IsOffline old new j
  offline_at_sync {new} synced = offline_now (sync_gone att new j old synced held_from)

  -- what `sectors` answered is the size of the medium that was attached
  size_was : {now next : List Happening} (has : ℕ) → Ran (IsNoAttach j) att now → Calls now next j (Sectors has) → (slot_state att j).size ≡ Some has
  size_was {now} {next} has ran called = attach_found old att j attached ∙ ap Some (sym (sectors_of_last att now next j has ran called))

  had_sectors : {now next new : List Happening} (has : ℕ) → Ran (IsNoAttach j) att now → Calls now next j (Sectors has) → Ran any_call next new
      → HadSectors j has old new
  had_sectors {now} {next} {new} has ran called later =
      let after : Ran any_call att new = ran_join (ran_any ran) (ran_join (ran_any {allowed = IsThis j (Sectors has)} (calls_ran called)) later) in
      record {
        moment = att;
        is_one = moment_between {a = IsThis j (Attach reply.Done)} {b = any_call} (calls_ran attached) after;
        holds = size_was has ran called;
      }

  large_from : {now next : List Happening} (g : Geometry) (has : ℕ) → Ran (IsNoAttach j) att now → Calls now next j (Sectors has) → sectors_needed g ≤ has
      → IsLargeEnough g (slot_state att j).size
  large_from g has ran called enough k below =
      subst (λ size. IsTrue (has_sector size k)) (sym (size_was has ran called)) (lt-ltb k has (omega (arith, below, enough)))

  pub taken_from : {now next new : List Happening} (g : Geometry) (has : ℕ) → Ran (IsNoAttach j) att now → Calls now next j (Sectors has)
      → sectors_needed g ≤ has → Ran (IsNoAttach j) next new → IsHistory att → IsTaken g j old new
  taken_from {now} {next} {new} g has ran called enough later history = record {
    taken = att;
    history = history;
    before = ran_any {allowed = IsThis j (Attach reply.Done)} (calls_ran attached);
    since = ran_join ran (ran_join (call_no_attach tt called) later);
    in_use = attach_uses attached;
    large = large_from g has ran called enough;
  }

-- WHAT IS FOUND

-- What a search tells is a finding of the whole look.
searched_as : (g : Geometry) (j : ℕ) (old mid new : RackState) (result : Found) → IsLater old mid → IsLater mid new
    → (((slot : SlotProbe) × ProbesSlot j slot mid new × WasGoneToProbe slot) → IsFound g j old new WasGone) → IsLarge g j old new → IsSearched j mid new result → IsFoundAs g j old new result
searched_as g j old mid new found.Gone first second gone large was = gone was
searched_as g j old mid new (found.Small has) first second gone large was = absurd was
searched_as g j old mid new found.Bare first second gone large was = (
  was.cell,
  (
    λ k below. reading_wider old mid new new first second.honest second.counts (later_none new) j k (was.cell k) (was.reading k below),
    large,
    bare_wider old mid new new first second.honest second.counts (later_none new) j was.cell was.moment,
  ),
  was.bare refl,
)
searched_as g j old mid new found.Super first second gone large was = (
  was.cell,
  (
    λ k below. reading_wider old mid new new first second.honest second.counts (later_none new) j k (was.cell k) (was.reading k below),
    large,
    bare_wider old mid new new first second.honest second.counts (later_none new) j was.cell was.moment,
  ),
  was.holds refl,
)

module _ (g : Geometry) (honest : Bool) (old att : List Happening) (bads bads' : ℕ) (gones gones' : ℕ → ℕ) (j : ℕ)
    (attached : IsTrue honest → Calls old att j (Attach reply.Done)) (counts : NoneFalls bads bads' gones gones') where
  att_later : IsLater (rack_state honest old bads gones) (rack_state honest att bads' gones')
  att_later = later_called honest old att bads bads' gones gones' j (Attach reply.Done) attached counts

  -- a slot that isn't the array's
  pub found_other : (new : List Happening) (bads'' : ℕ) (gones'' : ℕ → ℕ) (result : Found) → g.n ≤ j → (IsTrue honest → Ran (IsReadOf j) att new)
      → NoneFalls bads' bads'' gones' gones'' → IsSearched j (rack_state honest att bads' gones') (rack_state honest new bads'' gones'') result
      → IsFoundAs g j (rack_state honest old bads gones) (rack_state honest new bads'' gones'') result
  found_other new bads'' gones'' result past ran counts' was =
      searched_as g j (rack_state honest old bads gones) (rack_state honest att bads' gones') (rack_state honest new bads'' gones'') result att_later
      (later_read honest att new bads' bads'' gones' gones'' j ran counts')
      (λ lost.
      probe_gone lost.1 (rack_state honest old bads gones) (rack_state honest att bads' gones') att_later (later_none (rack_state honest att bads' gones')) attached
      lost.2) (λ below is. absurd (omega (arith, past, below))) was

  -- a slot of the array that is gone to its sync
  pub found_unsynced : (new : List Happening) (bads'' : ℕ) (gones'' : ℕ → ℕ) → (IsTrue honest → Calls att new j (Sync reply.Gone))
      → NoneFalls bads' bads'' gones' gones'' → Rose (gones' j) (gones'' j)
      → IsFound g j (rack_state honest old bads gones) (rack_state honest new bads'' gones'') WasGone
  found_unsynced new bads'' gones'' synced counts' rose =
      gone_after g honest old att new bads bads' bads'' gones gones' gones'' j att_later
      (later_called honest att new bads' bads'' gones' gones'' j (Sync reply.Gone) synced counts') rose
      (λ is. offline_at_sync old att j (attached is) (synced is))

  -- one that was synced, and answered its sectors
  module _ (syn sec : List Happening) (bads₁ bads₂ : ℕ) (gones₁ gones₂ : ℕ → ℕ) (has : ℕ) (synced : IsTrue honest → Calls att syn j (Sync reply.Done))
      (counts₁ : NoneFalls bads' bads₁ gones' gones₁) (measured : IsTrue honest → Calls syn sec j (Sectors has))
      (counts₂ : NoneFalls bads₁ bads₂ gones₁ gones₂) (below : j < g.n) where
    syn_ran : IsTrue honest → Ran (IsNoAttach j) att syn
    syn_ran is = call_no_attach tt (synced is)

    att_sec : IsLater (rack_state honest att bads' gones') (rack_state honest sec bads₂ gones₂)
    att_sec =
        later_join (later_called honest att syn bads' bads₁ gones' gones₁ j (Sync reply.Done) synced counts₁)
        (later_called honest syn sec bads₁ bads₂ gones₁ gones₂ j (Sectors has) measured counts₂)

    sec_later : IsLater (rack_state honest old bads gones) (rack_state honest sec bads₂ gones₂)
    sec_later = later_join att_later att_sec

    pub found_small : has < sectors_needed g → IsFound g j (rack_state honest old bads gones) (rack_state honest sec bads₂ gones₂) (WasSmall has)
    found_small small =
        (below, small, λ is. had_sectors old att j (attached is) has (syn_ran is) (measured is) (ran_none sec))

    pub found_own : (new : List Happening) (bads'' : ℕ) (gones'' : ℕ → ℕ) (result : Found) → sectors_needed g ≤ has
        → (IsTrue honest → Ran (IsReadOf j) sec new) → NoneFalls bads₂ bads'' gones₂ gones''
        → IsSearched j (rack_state honest sec bads₂ gones₂) (rack_state honest new bads'' gones'') result
        → IsFoundAs g j (rack_state honest old bads gones) (rack_state honest new bads'' gones'') result
    found_own new bads'' gones'' result enough ran counts' was =
        searched_as g j (rack_state honest old bads gones) (rack_state honest sec bads₂ gones₂) (rack_state honest new bads'' gones'') result sec_later
        (later_read honest sec new bads₂ bads'' gones₂ gones'' j ran counts')
        (λ lost.
        probe_gone lost.1 (rack_state honest old bads gones) (rack_state honest att bads' gones') att_later att_sec attached lost.2)
        (λ within is. (has, enough, had_sectors old att j (attached is) has (syn_ran is) (measured is) (ran_any (ran is)))) was

    pub settled_own : (new : List Happening) (bads'' : ℕ) (gones'' : ℕ → ℕ) → (IsTrue honest → Ran (IsReadOf j) sec new)
        → IsSettled g j (rack_state honest old bads gones) (rack_state honest new bads'' gones'')
    settled_own new bads'' gones'' ran within is =
        answered_wider {a = IsThis j (Attach reply.Done)} {b = any_call} (calls_ran (attached is))
        (ran_join (ran_any {allowed = IsThis j (Sectors has)} (calls_ran (measured is))) (ran_any {allowed = IsReadOf j} (ran is)))
        (call_told att syn j (Sync reply.Done) (λ refused. let gone : reply.Done ≡ reply.Gone = refused in absurd (cc)) (synced is))

    pub taken_own : (new : List Happening) → sectors_needed g ≤ has → IsTrue honest → Ran (IsReadOf j) sec new → IsHistory att
        → IsTaken g j old new
    taken_own new enough is ran history =
        taken_from old att j (attached is) g has (syn_ran is) (measured is) enough (reads_no_attach ran) history

-- ALL SLOTS

-- a slot that was taken is so in each longer stretch in which it isn't attached anew
pub taken_on : {g : Geometry} {j : ℕ} {old mid new : List Happening} → IsTaken g j old mid → Ran (IsNoAttach j) mid new → IsTaken g j old new
taken_on {j = j} t ran =
    record { taken = t.taken; history = t.history; before = t.before; since = ran_join {allowed = IsNoAttach j} t.since ran; in_use = t.in_use; large = t.large }

pub taken_sooner : {g : Geometry} {j : ℕ} {old mid new : List Happening} → Ran any_call old mid → IsTaken g j mid new → IsTaken g j old new
taken_sooner ran t = record { taken = t.taken; history = t.history; before = ran_join ran t.before; since = t.since; in_use = t.in_use; large = t.large }

-- The slots below this one passed.
pub record LookedSoFar (g : Geometry) (i : ℕ) (old now : RackState) : Type 0 where
  pub each : (j : ℕ) → j < i → Passed g j old now
  pub taken : IsTrue now.honest → (j : ℕ) → j < i → j < g.n → IsTaken g j old.history now.history
  pub ran : IsTrue now.honest → Ran IsLook old.history now.history
  pub counts : NoneFalls old.bads now.bads old.gones now.gones
  -- the rack has a history, once a slot was looked at
  pub began : IsTrue now.honest → ((i ≡ 0) × (now.history ≡ old.history)) ⊎ IsHistory old.history

pub looked_none : (g : Geometry) (now : RackState) → LookedSoFar g 0 now now
looked_none g now = record {
  each = λ j below. absurd (omega arith);
  taken = λ is j below. absurd (omega arith);
  ran = λ is. ran_none now.history;
  counts = NoneFalls-same now.bads now.gones;
  began = λ is. inl (refl, refl);
}

pub look_any : {old new : List Happening} {j : ℕ} → Ran (IsLookAt j) old new → Ran IsLook old new
look_any {j = j} ran = ran_weakened {allowed = IsLookAt j} {more = IsLook} (λ i c is. is.1) ran

-- nothing was written by looks
pub looks_unwritten : {old new : List Happening} → Ran IsLook old new → NothingWritten old new
looks_unwritten ran = none_written {allowed = IsLook} {slots = every_slot} (λ j c is on. is) ran

module _ (g : Geometry) (i : ℕ) (honest : Bool) (old now next : List Happening) (bads bads' bads'' : ℕ) (gones gones' gones'' : ℕ → ℕ)
    (so_far : LookedSoFar g i (rack_state honest old bads gones) (rack_state honest now bads' gones')) (ran : IsTrue honest → Ran (IsLookAt i) now next)
    (counts : NoneFalls bads' bads'' gones' gones'') where
  so_far_later : IsLater (rack_state honest old bads gones) (rack_state honest now bads' gones')
  so_far_later = record { counts = so_far.counts; honest = refl; ran = λ is. ran_any {allowed = IsLook} (so_far.ran is) }

  next_later : IsLater (rack_state honest now bads' gones') (rack_state honest next bads'' gones'')
  next_later = record { counts = counts; honest = refl; ran = λ is. ran_any {allowed = IsLookAt i} (ran is) }

  still_passed : (j : ℕ) → j < i → Passed g j (rack_state honest old bads gones) (rack_state honest next bads'' gones'')
  still_passed j below =
      passed_wider (rack_state honest old bads gones) (rack_state honest old bads gones) (rack_state honest now bads' gones') (rack_state honest next bads'' gones'')
      (later_none (rack_state honest old bads gones)) refl so_far.counts next_later g j (so_far.each j below)

  pub began_first : (IsTrue honest → IsHistory now) → IsTrue honest → IsHistory old
  began_first began is = elim (so_far.began is) [ inl first ↦ subst IsHistory first.1 (began is) | inr before ↦ before ]

  ran_next : IsTrue honest → Ran IsLook old next
  ran_next is = ran_join (so_far.ran is) (look_any (ran is))

  pub looked_more : (IsTrue honest → IsHistory now) → Passed g i (rack_state honest now bads' gones') (rack_state honest next bads'' gones'')
      → (IsTrue honest → i < g.n → IsTaken g i now next)
      → LookedSoFar g (i + 1) (rack_state honest old bads gones) (rack_state honest next bads'' gones'')
  looked_more began passed taken = record {
    each =
        below_more (λ j. Passed g j (rack_state honest old bads gones) (rack_state honest next bads'' gones'')) i still_passed
        (passed_wider (rack_state honest old bads gones) (rack_state honest now bads' gones') (rack_state honest next bads'' gones'')
        (rack_state honest next bads'' gones'') so_far_later refl counts (later_none (rack_state honest next bads'' gones'')) g i passed);
    taken = λ is.
        below_more (λ j. j < g.n → IsTaken g j old next) i
        (λ j below within. taken_on (so_far.taken is j below within) (look_elsewhere j (omega arith) (ran is)))
        (λ within. taken_sooner (ran_any {allowed = IsLook} (so_far.ran is)) (taken is within));
    ran = ran_next;
    counts = NoneFalls-then so_far.counts counts;
    began = λ is. inr (began_first began is);
  }

  pub refused_here : (fault : CreateFault) → i < 32 → IsRefusedAt g fault i (rack_state honest now bads' gones') (rack_state honest next bads'' gones'')
      → IsRefused g fault (rack_state honest old bads gones) (rack_state honest next bads'' gones'')
  refused_here fault below was = record {
    slot = i;
    slot_in = below;
    before = still_passed;
    finding = was.finding;
    found =
        found_wider (rack_state honest old bads gones) (rack_state honest now bads' gones') (rack_state honest next bads'' gones'')
        (rack_state honest next bads'' gones'') so_far_later refl counts (later_none (rack_state honest next bads'' gones'')) g i was.finding was.found;
    refused = was.refused;
    unwritten = λ is. looks_unwritten (ran_next is);
  }
