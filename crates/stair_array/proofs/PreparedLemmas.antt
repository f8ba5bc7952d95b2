-- A slot that is prepared for its admission: the calls are beside the array, and it was looked at by them.
use Rattle.std.proofs.Common.{◌≡◌, ℕ, ◌<◌, ◌≤◌, List, inl, inr, refl, sym, ap, ◌∙◌, subst, arith, true≢false, None, Some, Option}
use Rattle.std.specs.Prelude.{Err, IsTrue, Result}
use Rattle.stair_model.specs.Device.{gate_sector}
use Rattle.stair_model.specs.Geometry.{Geometry}
use Rattle.stair_rack.specs.Answers.{Calls, IsBesideAttach, Ran, is_good}
use Rattle.stair_rack.specs.History.{Attach, Happening, Read, Sectors, SlotCall, Sync, Write, slot_state}
use Rattle.stair_rack.specs.Moments.{AtSomeMoment}
use Rattle.stair_rack.specs.Offline.{IsAttached}
use Rattle.stair_rack.specs.Placed.{IsSlot, IsSyncOf, IsWriteOf, Placed}
use Rattle.stair_rack.specs.Sector.{Cell, Damaged, Good, Torn, TornOverDamage, content}
use Rattle.stair_rack.specs.RackState.{IsReading, RackState}
use Rattle.stair_rack.specs.declared.rack.Reply.TheVariants as reply
use Rattle.stair_rack.proofs.MomentLemmas.{IsThis, calls_ran, ran_join, ran_weakened}
use Rattle.stair_super.specs.Superblock.{Superblock, mark_in}
use Rattle.stair_super.specs.declared.mark.Mark.TheVariants.{Down, Live, Rebuilding}
use Rattle.stair_member.specs.Aims.{mark_for}
use Rattle.stair_member.specs.Membership.{IsHere, Membership, why_of}
use Rattle.stair_member.specs.Seeing.{Sees, draw_in}
use Rattle.stair_member.specs.Superblocks.{HoldsSuper, HoldsThis}
use Rattle.stair_member.specs.declared.why.Why.TheVariants as why
use Rattle.stair_member.proofs.SuperLemmas.{holds_once}
use Rattle.stair_journal.specs.Gate.{closed_gate}
use Rattle.stair_state.specs.Recovering.{IsShut}
use Rattle.stair_state.specs.Redoing.{AttachesNone, WritesNone}
use Rattle.stair_invariant.specs.Chunks.{IsBesideChunks}
use Rattle.stair_invariant.specs.Effects.{Snapshot, snapshot}
use Rattle.stair_invariant.specs.InSession.{IsBehindPlaces}
use Rattle.stair_invariant.specs.Leading.{IsBesideArray}
use Rattle.stair_invariant.specs.Rebuilding.{Rebuild}
use Rattle.stair_invariant.specs.Session.{ArrayState, IsArray}
use Rattle.stair_invariant.proofs.KnownLemmas.{attached_before}
use Rattle.stair_invariant.proofs.Mending.{IsLookedAt}
use Rattle.stair_invariant.proofs.ReadyLemmas.{laid}
use Rattle.stair_invariant.proofs.RebaseLemmas.{shut_now}
use Rattle.stair_array.specs.Mends.{IsPreparing, IsSecondLook, Looks, Prepared, PreparesSlot, WasGone, WasOther, WasSmall, new_journal}
use Rattle.stair_array.specs.Machine.{Refusal}
use Rattle.stair_array.proofs.NewJournalLemmas.{journal_gate, journal_is}
use Rattle.stair_array.proofs.PreparedSlotLemmas.{IsReady}

-- THE CALLS

-- a slot that is marked Down doesn't take part
pub down_out : (a : ArrayState) → IsArray a → (slot : ℕ) → mark_in a.member.array slot ≡ Down → ¬ IsHere a.member slot
down_out a array slot down here =
    elim here.why [
      | inl live ↦ let never : Down ≡ Live = sym down ∙ array.marks slot here.below ∙ ap mark_for live in absurd (cc)
      | inr rebuilt ↦ let never : Down ≡ Rebuilding = sym down ∙ array.marks slot here.below ∙ ap mark_for rebuilt in absurd (cc)
    ]

module _ (a : ArrayState) (array : IsArray a) (slot : ℕ) (out : ¬ IsHere a.member slot) where
  not_here : (j : ℕ) → j ≡ slot → ¬ IsHere a.member j
  not_here j at here = out (subst (IsHere a.member) at here)

  no_chunk : (j : ℕ) (c : SlotCall) → j ≡ slot → (rebuild : Rebuild) → a.rebuild ≡ Some rebuild
      → IsBesideChunks a.member.array.geometry rebuild.slot rebuild.stripe j c
  no_chunk j c at rebuild of same =
      let slot_in = (array.rebuilds rebuild of).0 in
      absurd (not_here rebuild.slot (sym same ∙ at) (record { below = slot_in.below; why = inr slot_in.why }))

  -- calls on it that write nothing before its gate are beside all that the array has
  aside : (j : ℕ) (c : SlotCall) → j ≡ slot → IsBehindPlaces j c
      → WritesNone (λ i. (i < a.member.array.geometry.n) × (why_of a.member i ≡ why.Here)) j c → IsBesideArray a j c
  aside j c at behind spares = record {
    session = record {
      epochs = record {
        behind = behind;
        attaches = λ here. absurd (not_here j at here);
        gate = λ below rebuilt bytes answer wrote. not_here j at (record { below = below; why = inr rebuilt });
      };
      spares = spares;
    };
    chunks = no_chunk j c at;
  }

  pub preparing_beside : (j : ℕ) (c : SlotCall) → IsPreparing a.member.array.geometry slot j c → IsBesideArray a j c
  preparing_beside j (Attach answer) may = aside j (Attach answer) may tt tt
  preparing_beside j (Sectors size) may = aside j (Sectors size) may tt tt
  preparing_beside j (Read k answer) may = aside j (Read k answer) may tt tt
  preparing_beside j (Write k bytes answer) may =
      let least : 2 ≤ k = may.1 in
      aside j (Write k bytes answer) may.0 least (λ live. absurd (not_here j may.0 (record { below = live.0; why = inl live.1 })))
  preparing_beside j (Sync answer) may = aside j (Sync answer) may tt tt

-- what was done of a preparation

looking : (g : Geometry) (slot j : ℕ) (c : SlotCall) → IsSecondLook slot j c → IsPreparing g slot j c
looking g slot j (Attach answer) may = absurd may.1
looking g slot j (Sectors size) may = may.0.0
looking g slot j (Read k answer) may = may.0.0
looking g slot j (Write k bytes answer) may = absurd may.0.1
looking g slot j (Sync answer) may = may.0.0

module _ (g : Geometry) (slot : ℕ) where
  attaching : (old new : List Happening) → Calls old new slot (Attach reply.Done) → Ran (IsPreparing g slot) old new
  attaching old new called =
      ran_weakened {allowed = IsThis slot (Attach reply.Done)} {more = IsPreparing g slot}
      (λ j c this. subst (IsPreparing g slot j) (sym this.1) this.0) (calls_ran called)

  looks_ran : (mid : RackState) (x y : Snapshot) → Looks slot mid x y → IsTrue y.told.honest → Ran (IsPreparing g slot) x.told.history y.told.history
  looks_ran mid x y looks honest =
      let honest_mid = subst IsTrue (sym looks.later.honest) honest in
      ran_join {allowed = IsPreparing g slot} (attaching x.told.history mid.history (looks.attached honest_mid))
      (ran_weakened {allowed = IsSecondLook slot} {more = IsPreparing g slot} (looking g slot) (looks.ran honest))

  writing : (j : ℕ) (c : SlotCall) → IsWriteOf (new_journal g) (IsSlot slot) j c → IsPreparing g slot j c
  writing j c is =
      let at = journal_is g j is.sector is.bytes is.is_one in
      subst (IsPreparing g slot j) (sym is.is) (is.on, at.0, at.1)

  syncing : (j : ℕ) (c : SlotCall) → IsSyncOf (IsSlot slot) j c → IsPreparing g slot j c
  syncing j c is = subst (IsPreparing g slot j) (sym is.is) is.on

  laid_ran : (old new : List Happening) → Placed (new_journal g) (IsSlot slot) (λ j. ⊥) old new → Ran (IsPreparing g slot) old new
  laid_ran old new placed =
      ran_join {allowed = IsPreparing g slot}
      (ran_weakened {allowed = IsWriteOf (new_journal g) (IsSlot slot)} {more = IsPreparing g slot} writing placed.writes)
      (ran_weakened {allowed = IsSyncOf (IsSlot slot)} {more = IsPreparing g slot} syncing placed.syncs)

pub prepares_ran : (slot : ℕ) (answer : Result (Unit {0}) Refusal) (x z : Snapshot) → PreparesSlot slot answer x z → IsTrue z.told.honest
    → Ran (IsPreparing x.member.array.geometry slot) x.told.history z.told.history
prepares_ran slot _ _ _ (WasGone x y only found) honest = only.ran honest
prepares_ran slot _ _ _ (WasSmall has needs mid x y looks small) honest = looks_ran x.member.array.geometry slot mid x y looks honest
prepares_ran slot _ _ _ (WasOther mid x y looks other) honest = looks_ran x.member.array.geometry slot mid x y looks honest
prepares_ran slot _ _ _ (Prepared first second mid x y z looks fit later placed sees rules) honest =
    ran_join {allowed = IsPreparing x.member.array.geometry slot}
    (looks_ran x.member.array.geometry slot mid x y looks (subst IsTrue (sym later.honest) honest))
    (laid_ran x.member.array.geometry slot y.told.history z.told.history (placed honest))

-- where the slot isn't prepared nothing of the array is changed
pub unprepared_member : (slot : ℕ) (answer : Result (Unit {0}) Refusal) (x z : Snapshot) → PreparesSlot slot answer x z → (refusal : Refusal)
    → answer ≡ Err refusal → z.member ≡ x.member
unprepared_member slot _ _ _ (WasGone x y only found) refusal is = only.member
unprepared_member slot _ _ _ (WasSmall has needs mid x y looks small) refusal is = looks.member
unprepared_member slot _ _ _ (WasOther mid x y looks other) refusal is = looks.member
unprepared_member slot _ _ _ (Prepared first second mid x y z looks fit later placed sees rules) refusal is = absurd (cc)

-- READY for the admission

-- a cell that was read, and so at the moment at which it was, holds no draw above this
pub read_below : (slot k draw : ℕ) (old new : RackState) (cell : Cell) → IsReading slot k old new cell → IsTrue new.honest
    → ((s : Superblock) → HoldsSuper cell s → s.draw ≤ draw)
    → AtSomeMoment (λ h. (s : Superblock) → HoldsSuper (content ((slot_state h slot).sector k)) s → s.draw ≤ draw) old.history new.history
read_below slot k draw old new (Good bytes) reading honest most =
    let was = reading honest in record {
      moment = was.moment;
      is_one = was.is_one;
      holds = λ s holds. most s (subst (λ (c : Cell). HoldsSuper c s) was.found holds);
    }
read_below slot k draw old new Damaged reading honest most =
    let was = reading.1 honest in record {
      moment = was.moment;
      is_one = was.is_one;
      holds = λ s holds. absurd (true≢false (sym (ap is_good holds.good) ∙ was.found));
    }
read_below slot k draw old new Torn reading honest most = absurd reading
read_below slot k draw old new TornOverDamage reading honest most = absurd reading

pub held_below : (cell : Cell) (found : Option Superblock) → HoldsThis cell found → (s : Superblock) → HoldsSuper cell s → s.draw ≤ draw_in found
held_below cell None none s holds = absurd (none s holds)
held_below cell (Some t) is s holds =
    let same : s ≡ t = holds_once cell s t holds is in
    let at : s.draw ≡ t.draw = ap (λ (u : Superblock). u.draw) same in
    omega (arith, at)

module _ (a : ArrayState) (array : IsArray a) (slot : ℕ) (old : RackState) (z : Snapshot) (prep : IsReady slot (snapshot a.member old) z)
    (honest : IsTrue z.told.honest) (below : slot < a.member.array.geometry.n) (down : mark_in a.member.array slot ≡ Down) where
  honest_y : IsTrue prep.seen.told.honest
  honest_y = subst IsTrue (sym prep.later.honest) honest

  honest_mid : IsTrue prep.mid.honest
  honest_mid = subst IsTrue (sym prep.looks.later.honest) honest_y

  ran : Ran (IsPreparing a.member.array.geometry slot) old.history z.told.history
  ran =
      ran_join {allowed = IsPreparing a.member.array.geometry slot}
      (looks_ran a.member.array.geometry slot prep.mid (snapshot a.member old) prep.seen prep.looks honest_y)
      (laid_ran a.member.array.geometry slot prep.seen.told.history z.told.history (prep.placed honest))

  -- what lays the journal out attaches nothing
  laid_apart : Ran (AttachesNone (IsSlot slot)) prep.seen.told.history z.told.history
  laid_apart =
      ran_join {allowed = AttachesNone (IsSlot slot)}
      (ran_weakened {allowed = IsWriteOf (new_journal a.member.array.geometry) (IsSlot slot)} {more = AttachesNone (IsSlot slot)}
      (λ j c may at. subst IsBesideAttach (sym may.is) tt) (prep.placed honest).writes)
      (ran_weakened {allowed = IsSyncOf (IsSlot slot)} {more = AttachesNone (IsSlot slot)}
      (λ j c may at. subst IsBesideAttach (sym may.is) tt) (prep.placed honest).syncs)

  shut : IsAttached z.told.history slot → IsShut a.member.array.geometry z.told.history z.told.history slot
  shut attached =
      let there = attached_before {some = IsSlot slot} slot refl laid_apart attached in
      shut_now a.member.array.geometry slot prep.seen.told.history z.told.history there.1
      (laid a.member.array.geometry slot prep.seen.told.history z.told.history
      ((prep.placed honest).done slot gate_sector closed_gate refl (λ never. never) (journal_gate a.member.array.geometry slot)))

  -- So it was looked at, as its admission wants it.
  pub prepared_looked : IsLookedAt a slot z.member old.history z.told.history
  prepared_looked = record {
    below = below;
    down = down;
    ran =
        ran_weakened {allowed = IsPreparing a.member.array.geometry slot} {more = IsBesideArray a}
        (preparing_beside a array slot (down_out a array slot down)) ran;
    start = prep.mid;
    end = prep.seen.told;
    attached = prep.looks.attached honest_mid;
    honest = honest_y;
    later = laid_apart;
    none = ran_weakened {allowed = IsSecondLook slot} {more = AttachesNone (IsSlot slot)} (λ j c is at. is.1) (prep.looks.ran honest_y);
    cell = prep.fit.cell;
    reading = prep.fit.reading;
    first = prep.first;
    second = prep.second;
    in_first = prep.fit.in_first;
    in_second = prep.fit.in_second;
    sees = subst (λ (m : Membership). Sees slot prep.first prep.second m z.member) prep.looks.member prep.sees;
    rules = prep.rules;
    shut = shut;
  }
