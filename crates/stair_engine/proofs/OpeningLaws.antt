-- What an opening leaves alone where no gate is open: it writes superblocks, and closes gates.
use Rattle.std.proofs.Common.{◌≡◌, ◌≤◌, ℕ, List, None, Option, Some, Ok, Err, Result, refl, subst, arith}
use Rattle.std.specs.Prelude.{IsTrue}
use Rattle.stair_model.specs.Device.{gate_sector}
use Rattle.stair_model.specs.Geometry.{Geometry}
use Rattle.stair_model.specs.Slots.{Slots, no_slots}
use Rattle.stair_rack.specs.Answers.{Ran, any_call}
use Rattle.stair_rack.specs.History.{Attach, Happening, Read, Sectors, SlotCall, Sync, Write, slot_state}
use Rattle.stair_rack.specs.Sector.{Good, content}
use Rattle.stair_rack.proofs.MomentLemmas.{ran_after, ran_any, ran_before, ran_join, ran_weakened}
use Rattle.stair_member.specs.Asked.{LeavesSectors}
use Rattle.stair_member.specs.Establishing.{Fences}
use Rattle.stair_member.specs.Membership.{IsMembership}
use Rattle.stair_member.specs.declared.fault.FenceFault.{FenceFault}
use Rattle.stair_journal.specs.Gate.{closed_gate, open_gate}
use Rattle.stair_journal.specs.Journalling.{gate_writes}
use Rattle.stair_journal.specs.declared.redo.Redo.{Redo}
use Rattle.stair_invariant.specs.Effects.{FindsRedo, Snapshot, snapshot}
use Rattle.stair_invariant.specs.Session.{IsLiveIn}
use Rattle.stair_invariant.proofs.FindsLemmas.{honest_back}
use Rattle.stair_invariant.proofs.HonestLemmas.{found_honest, left_honest}
use Rattle.stair_array.specs.Calls.{refused}
use Rattle.stair_array.specs.Machine.{Refusal}
use Rattle.stair_array.specs.Openings.{ClearsJournal, Recovers}
use Rattle.stair_array.proofs.CauseLemmas.{ReadOpen, found_open}
use Rattle.stair_array.proofs.RecoveredLemmas.{cleared_honest, cleared_ran}
use Rattle.stair_array.proofs.PartsLemmas.{IsPart, first_part, live_back}
use Rattle.stair_engine.proofs.SparedLaws.{Spared, Spares, spared_fenced, spared_left, spared_read, spared_stage}

-- as long as the gate of a slot that is live to x isn't written, it isn't open
abbrev pub StayClosed : Snapshot → List Happening → Type 0
StayClosed x last = (i : ℕ) (redo : Redo) → IsLiveIn x.member i → (h : List Happening) → Spared i gate_sector x.told.history h → Ran any_call h last
    → ¬ (content ((slot_state h i).sector gate_sector) ≡ Good (open_gate x.member.array.geometry redo))

-- a survey writes nothing
pub spared_asked : (j k : ℕ) {old new : List Happening} → Ran LeavesSectors old new → Spared j k old new
spared_asked j k asked = ran_weakened leaves asked
  where
    leaves : (i : ℕ) (call : SlotCall) → LeavesSectors i call → Spares j k i call
    leaves i (Attach answer) is = tt
    leaves i (Sectors size) is = tt
    leaves i (Read l answer) is = tt
    leaves i (Write l bytes answer) is = absurd is
    leaves i (Sync answer) is = absurd is

module _ (j k : ℕ) (behind : 2 ≤ k) where
  spared_found : (redo : Option Redo) (opened : Slots) (refusal : Option FenceFault) (x z : Snapshot) → FindsRedo redo opened refusal x z
      → IsTrue z.told.honest → Spared j k x.told.history z.told.history
  spared_found _ _ _ _ _ (FindsRedo.Found gates live mid x are reads none) honest = spared_read j k behind (reads.ran honest)
  spared_found _ _ _ _ _ (FindsRedo.Again gates live mid redo opened refusal i x y z are reads gone leaves rest) honest =
      let after = honest_back y.told z.told (found_honest redo opened refusal y z rest) honest in
      let first = honest_back mid y.told (left_honest gates.gone None (snapshot x.member mid) y leaves) after in
      ran_join (spared_read j k behind (reads.ran first)) (ran_join (spared_left j k behind leaves after) (spared_found redo opened refusal y z rest honest))
  spared_found _ _ _ _ _ (FindsRedo.Stops gates live mid redo opened fault x y are reads leaves) honest =
      let first = honest_back mid y.told (left_honest gates.gone (Some fault) (snapshot x.member mid) y leaves) honest in
      ran_join (spared_read j k behind (reads.ran first)) (spared_left j k behind leaves honest)

  -- where there is no redo the gates are closed, and no more
  spared_closed : (redo : Option Redo) (opened : Slots) (answer : Result Geometry Refusal) (x y : Snapshot) → ClearsJournal redo opened answer x y → redo ≡ None
      → gate_writes closed_gate j k ≡ None → IsTrue y.told.honest → Spared j k x.told.history y.told.history
  spared_closed _ _ _ _ _ (ClearsJournal.Closes opened live refusal x y are does) none apart honest = spared_stage j k behind apart does honest
  spared_closed _ _ _ _ _ (ClearsJournal.Stops redo opened body was stripe fault x y found) none apart honest = absurd (let never : Some redo ≡ None = none in cc)
  spared_closed _ _ _ _ _ (ClearsJournal.BodyLost redo opened body was stripe sector x y found lost) none apart honest =
      absurd (let never : Some redo ≡ None = none in cc)
  spared_closed _ _ _ _ _ (ClearsJournal.Replayed redo opened body was stripe refusal x y z found whole run) none apart honest =
      absurd (let never : Some redo ≡ None = none in cc)

-- no redo is found
none_found : (fallen opened : Slots) (redo : Option Redo) (x y z : Snapshot) (last : List Happening) → Fences no_slots x.member y.member (Ok fallen) x.told y.told
    → FindsRedo redo opened None y z → IsMembership x.member → IsTrue z.told.honest → Ran any_call z.told.history last → StayClosed x last → redo ≡ None
none_found fallen opened None x y z last fences found rules honest later closed = refl
none_found fallen opened (Some redo) x y z last fences found rules honest later closed =
    absurd (by (found_open (Some redo) opened None y z found refl first.rules redo refl))
  where
    first : IsPart 1 x y
    first = first_part x.member y.member (Ok fallen) x.told y.told fences rules

    honest_y : IsTrue y.told.honest
    honest_y = honest_back y.told z.told (found_honest (Some redo) opened None y z found) honest

    by : ReadOpen redo y z → ⊥
    by gate =
        let read = gate.reads_open honest in
        let spared = spared_found gate.gate gate_sector (omega arith) (Some redo) opened None y z found honest in
        closed gate.gate redo (live_back 1 x y first gate.gate gate.live) read.moment
        (ran_join (spared_fenced gate.gate gate_sector (omega arith) fences honest_y) (ran_before spared read.is_one))
        (ran_join (ran_any (ran_after spared read.is_one)) later)
        (subst (λ (g : Geometry). content ((slot_state read.moment gate.gate).sector gate_sector) ≡ Good (open_gate g redo)) first.geometry read.found)

-- a sector after the superblocks that is no gate
pub opening_spares : (answer : Result Geometry Refusal) (g : Geometry) (x w : Snapshot) → Recovers answer x w → answer ≡ Ok g → IsMembership x.member
    → IsTrue w.told.honest → StayClosed x w.told.history → (j k : ℕ) → 2 ≤ k → gate_writes closed_gate j k ≡ None
    → Spared j k x.told.history w.told.history
opening_spares _ g _ _ (Recovers.NoEpoch fault x y e) is = absurd (let never : Err (refused fault) ≡ Ok g = is in cc)
opening_spares _ g _ _ (Recovers.Stops fallen opened redo fault x y z e found) is = absurd (let never : Err (refused fault) ≡ Ok g = is in cc)
opening_spares _ g _ _ (Recovers.Goes fallen opened redo answer x y z w fences found clears) is =
    λ rules honest closed j k behind apart.
    let honest_z = honest_back z.told w.told (cleared_honest redo opened answer z w clears) honest in
    let honest_y = honest_back y.told z.told (found_honest redo opened None y z found) honest_z in
    let none = none_found fallen opened redo x y z w.told.history fences found rules honest_z (cleared_ran redo opened answer z w clears honest) closed in
    ran_join (spared_fenced j k behind fences honest_y)
    (ran_join (spared_found j k behind redo opened None y z found honest_z) (spared_closed j k behind redo opened answer z w clears none apart honest))
