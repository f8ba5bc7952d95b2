-- What an opening did is what is promised of a step, on any rack.
use Rattle.std.proofs.Common.{◌≡◌, ℕ, refl, sym, ap, ◌∙◌, subst, None, Option, Some}
use Rattle.std.specs.Prelude.{Err, IfErr, IfSome, IsTrue, Ok, Result}
use Rattle.stair_model.specs.Device.{body_sector}
use Rattle.stair_model.specs.Geometry.{Geometry}
use Rattle.stair_model.specs.Slots.{Slots, no_slots}
use Rattle.stair_rack.specs.Sector.{Damaged}
use Rattle.stair_rack.specs.RackState.{RackState}
use Rattle.stair_rack.proofs.RackStateLemmas.{later_none, reading_wider}
use Rattle.stair_member.specs.Epochs.{IsRefusedBy}
use Rattle.stair_member.specs.Membership.{IsMembership, Membership}
use Rattle.stair_member.specs.declared.fault.FenceFault.{FenceFault}
use Rattle.stair_member.specs.declared.fault.FenceFault.TheVariants as fence
use Rattle.stair_journal.specs.Gate.{closed_gate}
use Rattle.stair_journal.specs.Journalling.{gate_writes}
use Rattle.stair_journal.specs.Redo.{IsRedo}
use Rattle.stair_journal.specs.declared.redo.Redo.{Redo}
use Rattle.stair_invariant.specs.Effects.{Snapshot, snapshot}
use Rattle.stair_invariant.specs.Session.{ArrayState, IsArray}
use Rattle.stair_invariant.proofs.FindsLemmas.{live_here}
use Rattle.stair_array.specs.Calls.{answer_of, refused}
use Rattle.stair_array.specs.Causes.{HasCause, IsAllowed, IsJournalLost, MarkGoesOn, MemberGoesOn}
use Rattle.stair_array.specs.Events.{events_of}
use Rattle.stair_array.specs.Machine.{Answer, IsFinal, JournalLost, Recover, Refusal}
use Rattle.stair_array.specs.Openings.{ClearsJournal, Recovers}
use Rattle.stair_array.specs.Promise.{EndsIn, Found, KeepsProgress, KeepsRebuild, Performs, Stops, session_after, unopened}
use Rattle.stair_array.proofs.AnsweredLemmas.{IsLeftOut, body_left_out, fence_left_out, found_left_out, honest_before, left_out_join, replay_left_out, stage_left_out}
use Rattle.stair_array.proofs.CauseLemmas.{ReadLost, ReadOpen, body_lost, fence_array, found_array, found_open, found_refused, left_array, left_refused, read_open_later, replay_array, replay_refused, stage_array}
use Rattle.stair_array.proofs.CourseLemmas.{body_part, found_formed, found_part, gate_in_range, replay_part, stage_part}
use Rattle.stair_array.proofs.GoesOnLemmas.{draws_few, why_goes_on}
use Rattle.stair_array.proofs.GoneToLemmas.{after_join}
use Rattle.stair_array.proofs.PartsLemmas.{IsPart, MarkStays, first_part, part_join}

-- ITS PARTS

pub cleared_part : (found : Option Redo) (opened : Slots) (answer : Result Geometry Refusal) (x y : Snapshot) → ClearsJournal found opened answer x y
    → IsMembership x.member → IfSome found (IsRedo x.member.array.geometry) → IsPart 0 x y
cleared_part _ _ _ _ _ (ClearsJournal.Closes opened live refusal x y are does) rules formed =
    stage_part (gate_writes closed_gate) live refusal x y does rules (live_here x.member live are) (gate_in_range x.member.array.geometry closed_gate)
cleared_part _ _ _ _ _ (ClearsJournal.Stops redo opened body was stripe fault x y found) rules formed =
    body_part redo body was stripe (Some fault) x y found rules
cleared_part _ _ _ _ _ (ClearsJournal.BodyLost redo opened body was stripe sector x y found lost) rules formed =
    body_part redo body was stripe None x y found rules
cleared_part _ _ _ _ _ (ClearsJournal.Replayed redo opened body was stripe refusal x y z found whole run) rules formed =
    let first = body_part redo body was stripe None x y found rules in
    part_join 0 0 x y z first
    (replay_part redo stripe opened refusal y z run first.rules (subst (λ (g : Geometry). IsRedo g redo) (sym first.geometry) formed))

-- the redo that the gates told is one of the member's array still
still_formed : (found : Option Redo) (opened : Slots) (y z : Snapshot) (first : IsPart 0 y z) → IfSome found (IsRedo y.member.array.geometry)
    → IfSome found (IsRedo z.member.array.geometry)
still_formed found opened y z first = subst (λ (g : Geometry). IfSome found (IsRedo g)) (sym first.geometry)

pub recovered_part : (answer : Result Geometry Refusal) (x y : Snapshot) → Recovers answer x y → IsMembership x.member → IsPart 1 x y
recovered_part _ _ _ (Recovers.NoEpoch fault x y e) rules = first_part x.member y.member (Err fault) x.told y.told e rules
recovered_part _ _ _ (Recovers.Stops fallen opened redo fault x y z e found) rules =
    let first = first_part x.member y.member (Ok fallen) x.told y.told e rules in
    part_join 1 0 x y z first (found_part redo opened (Some fault) y z found first.rules)
recovered_part _ _ _ (Recovers.Goes fallen opened redo answer x y z w e found clears) rules =
    let first = first_part x.member y.member (Ok fallen) x.told y.told e rules in
    let second = found_part redo opened None y z found first.rules in
    part_join 1 0 x z w (part_join 1 0 x y z first second)
    (cleared_part redo opened answer z w clears second.rules
    (still_formed redo opened y z second (found_formed redo opened None y z found refl first.rules)))

-- WHO IS LEFT OUT

cleared_left_out : (found : Option Redo) (opened : Slots) (answer : Result Geometry Refusal) (x y : Snapshot) → ClearsJournal found opened answer x y
    → IsMembership x.member → IfSome found (IsRedo x.member.array.geometry) → IsTrue y.told.honest → IsLeftOut x y
cleared_left_out _ _ _ _ _ (ClearsJournal.Closes opened live refusal x y are does) rules formed honest =
    stage_left_out (gate_writes closed_gate) live refusal x y does honest
cleared_left_out _ _ _ _ _ (ClearsJournal.Stops redo opened body was stripe fault x y found) rules formed honest =
    body_left_out redo body was stripe (Some fault) x y found honest
cleared_left_out _ _ _ _ _ (ClearsJournal.BodyLost redo opened body was stripe sector x y found lost) rules formed honest =
    body_left_out redo body was stripe None x y found honest
cleared_left_out _ _ _ _ _ (ClearsJournal.Replayed redo opened body was stripe refusal x y z found whole run) rules formed honest =
    let first = body_part redo body was stripe None x y found rules in
    let still = subst (λ (g : Geometry). IsRedo g redo) (sym first.geometry) formed in
    let second = replay_part redo stripe opened refusal y z run first.rules still in
    left_out_join 0 0 x y z first second honest
    (body_left_out redo body was stripe None x y found (honest_before y.told z.told second.after honest))
    (replay_left_out redo stripe opened refusal y z run first.rules still honest)

pub recovered_left_out : (answer : Result Geometry Refusal) (x y : Snapshot) → Recovers answer x y → IsMembership x.member → IsTrue y.told.honest
    → IsLeftOut x y
recovered_left_out _ _ _ (Recovers.NoEpoch fault x y e) rules honest =
    fence_left_out no_slots x.member y.member (Err fault) x.told y.told e honest
recovered_left_out _ _ _ (Recovers.Stops fallen opened redo fault x y z e found) rules honest =
    let first = first_part x.member y.member (Ok fallen) x.told y.told e rules in
    let second = found_part redo opened (Some fault) y z found first.rules in
    left_out_join 1 0 x y z first second honest
    (fence_left_out no_slots x.member y.member (Ok fallen) x.told y.told e (honest_before y.told z.told second.after honest))
    (found_left_out redo opened (Some fault) y z found first.rules honest)
recovered_left_out _ _ _ (Recovers.Goes fallen opened redo answer x y z w e found clears) rules honest =
    let first = first_part x.member y.member (Ok fallen) x.told y.told e rules in
    let second = found_part redo opened None y z found first.rules in
    let formed = still_formed redo opened y z second (found_formed redo opened None y z found refl first.rules) in
    let third = cleared_part redo opened answer z w clears second.rules formed in
    let honest_z = honest_before z.told w.told third.after honest in
    left_out_join 1 0 x z w (part_join 1 0 x y z first second) third honest
    (left_out_join 1 0 x y z first second honest_z
    (fence_left_out no_slots x.member y.member (Ok fallen) x.told y.told e (honest_before y.told z.told second.after honest_z))
    (found_left_out redo opened None y z found first.rules honest_z))
    (cleared_left_out redo opened answer z w clears second.rules formed honest)

-- WHY IT IS REFUSED

pub answered_err : {T : Type 0} (given : T) (refusal : Option FenceFault) (why : Refusal) → answer_of given refusal ≡ Err why
    → (fault : FenceFault) × (refusal ≡ Some fault) × (why ≡ refused fault)
answered_err given None why is = absurd (cc)
answered_err given (Some fault) why is = (fault, refl, (let same : why ≡ refused fault = cc in same))

answered_ok : {T : Type 0} (given got : T) (refusal : Option FenceFault) → answer_of given refusal ≡ Ok got → (got ≡ given) × (refusal ≡ None)
answered_ok given got None is = ((let same : got ≡ given = cc in same), refl)
answered_ok given got (Some fault) is = absurd (cc)

data IsRefusedFor (found : Option Redo) (refusal : Refusal) (x y : Snapshot) : Type 0 where
  ByEpoch : (fault : FenceFault) → refusal ≡ refused fault → IsRefusedBy y.member fault → IsRefusedFor found refusal x y
  ByBody : (redo : Redo) (sector : ℕ) → found ≡ Some redo → refusal ≡ JournalLost sector → ReadLost redo sector x y
      → IsRefusedFor found refusal x y

cleared_refused : (found : Option Redo) (opened : Slots) (answer : Result Geometry Refusal) (x y : Snapshot) → ClearsJournal found opened answer x y
    → (why : Refusal) → answer ≡ Err why → IsRefusedFor found why x y
cleared_refused _ _ _ _ _ (ClearsJournal.Closes opened live refusal x y are does) why is =
    let by = answered_err x.member.array.geometry refusal why is in
    ByEpoch by.0 by.2 (left_refused does.gone refusal (snapshot x.member does.mid) y does.leaves by.0 by.1)
cleared_refused _ _ _ _ _ (ClearsJournal.Stops redo opened body was stripe fault x y found) why is =
    ByEpoch fault (let same : why ≡ refused fault = cc in same)
    (left_refused body.gone (Some fault) (snapshot x.member found.mid) y found.leaves fault refl)
cleared_refused _ _ _ _ _ (ClearsJournal.BodyLost redo opened body was stripe sector x y found lost) why is =
    ByBody redo sector refl (let same : why ≡ JournalLost sector = cc in same) (body_lost redo body was stripe x y found sector lost)
cleared_refused _ _ _ _ _ (ClearsJournal.Replayed redo opened body was stripe refusal x y z found whole run) why is =
    let by = answered_err x.member.array.geometry refusal why is in
    ByEpoch by.0 by.2 (replay_refused redo stripe opened refusal y z run by.0 by.1)

fault_cause : (fault : FenceFault) (was : ArrayState) (last : Membership) (x y : RackState) → IsRefusedBy last fault
    → HasCause Recover (refused fault) was last x y
fault_cause (fence.TooFew whys) was last x y by = (tt, record { whys_are = by.0; many = by.1 })
fault_cause fence.EpochsSpent was last x y by = (tt, record { spent = by.0; enough = by.1 })

fault_caused : (why : Refusal) (fault : FenceFault) (was : ArrayState) (last : Membership) (x y : RackState) → why ≡ refused fault
    → IsRefusedBy last fault → HasCause Recover why was last x y
fault_caused why fault was last x y same by = subst (λ (r : Refusal). HasCause Recover r was last x y) (sym same) (fault_cause fault was last x y by)

-- a body that is lost is of a redo that a gate told
journal_lost : (more : ℕ) (redo : Redo) (sector : ℕ) (x y z w : Snapshot) → IsPart more x y → IsPart 0 y z → IsPart 0 z w → ReadOpen redo y z
    → ReadLost redo sector z w → IsJournalLost x.member w.member x.told w.told sector
journal_lost more redo sector x y z w first second third told lost =
    let on = read_open_later more redo x y z w first second.after third.after told in
    record {
      redo = redo;
      formed = on.formed;
      gate = on.gate;
      live = on.live;
      reads_open = on.reads_open;
      row = lost.row;
      slot = lost.slot;
      has = lost.has;
      sector_is = lost.sector_is ∙ ap (λ (g : Geometry). body_sector g lost.row lost.slot) (second.geometry ∙ first.geometry);
      bad = λ j live.
          reading_wider x.told z.told w.told w.told (after_join first.after second.after).later third.after.later.honest third.after.later.counts
          (later_none w.told) j sector Damaged (lost.bad j live);
    }

pub recovered_caused : (answer : Result Geometry Refusal) (x y : Snapshot) → Recovers answer x y → IsMembership x.member → (why : Refusal)
    → answer ≡ Err why → HasCause Recover why (unopened x.member) y.member x.told y.told
recovered_caused _ _ _ (Recovers.NoEpoch fault x y e) rules why is =
    fault_caused why fault (unopened x.member) y.member x.told y.told (let same : why ≡ refused fault = cc in same) (e.establishes.refused fault refl).0
recovered_caused _ _ _ (Recovers.Stops fallen opened redo fault x y z e found) rules why is =
    fault_caused why fault (unopened x.member) z.member x.told z.told (let same : why ≡ refused fault = cc in same)
    (found_refused redo opened (Some fault) y z found fault refl)
recovered_caused _ _ _ (Recovers.Goes fallen opened redo answer x y z w e found clears) rules why is =
    by (cleared_refused redo opened answer z w clears why is)
  where
    first : IsPart 1 x y
    first = first_part x.member y.member (Ok fallen) x.told y.told e rules

    second : IsPart 0 y z
    second = found_part redo opened None y z found first.rules

    third : IsPart 0 z w
    third =
        cleared_part redo opened answer z w clears second.rules
        (still_formed redo opened y z second (found_formed redo opened None y z found refl first.rules))

    by : IsRefusedFor redo why z w → HasCause Recover why (unopened x.member) w.member x.told w.told
    by (ByEpoch fault same is) = fault_caused why fault (unopened x.member) w.member x.told w.told same is
    by (ByBody told sector same what lost) =
        subst (λ (r : Refusal). HasCause Recover r (unopened x.member) w.member x.told w.told) (sym what)
        (journal_lost 1 told sector x y z w first second third (found_open redo opened None y z found refl first.rules told same) lost)

-- WHAT IT ANSWERS

cleared_answers : (found : Option Redo) (opened : Slots) (answer : Result Geometry Refusal) (x y : Snapshot) → ClearsJournal found opened answer x y
    → (g : Geometry) → answer ≡ Ok g → g ≡ x.member.array.geometry
cleared_answers _ _ _ _ _ (ClearsJournal.Closes opened live refusal x y are does) g is = (answered_ok x.member.array.geometry g refusal is).0
cleared_answers _ _ _ _ _ (ClearsJournal.Stops redo opened body was stripe fault x y found) g is = absurd (cc)
cleared_answers _ _ _ _ _ (ClearsJournal.BodyLost redo opened body was stripe sector x y found lost) g is = absurd (cc)
cleared_answers _ _ _ _ _ (ClearsJournal.Replayed redo opened body was stripe refusal x y z found whole run) g is =
    (answered_ok x.member.array.geometry g refusal is).0

pub recovered_answers : (answer : Result Geometry Refusal) (x y : Snapshot) → Recovers answer x y → IsMembership x.member → (g : Geometry)
    → answer ≡ Ok g → g ≡ x.member.array.geometry
recovered_answers _ _ _ (Recovers.NoEpoch fault x y e) rules g is = absurd (cc)
recovered_answers _ _ _ (Recovers.Stops fallen opened redo fault x y z e found) rules g is = absurd (cc)
recovered_answers _ _ _ (Recovers.Goes fallen opened redo answer x y z w e found clears) rules g is =
    let first = first_part x.member y.member (Ok fallen) x.told y.told e rules in
    let second = found_part redo opened None y z found first.rules in
    cleared_answers redo opened answer z w clears g is ∙ second.geometry ∙ first.geometry

-- WHAT STANDS

pub final_refused : (fault : FenceFault) → IsFinal (refused fault)
final_refused (fence.TooFew whys) = tt
final_refused fence.EpochsSpent = tt

-- where the array doesn't stop no epoch was refused at the end of a chain
pub goes_on : {T : Type 0} (given : T) (refusal : Option FenceFault) → ¬ Stops (answer_of given refusal) → refusal ≡ None
goes_on given None going = refl
goes_on given (Some fault) going = absurd (going (final_refused fault))

cleared_array : (found : Option Redo) (opened : Slots) (answer : Result Geometry Refusal) (x y : Snapshot) → ClearsJournal found opened answer x y
    → ¬ Stops answer → IsArray (unopened x.member) → IsArray (unopened y.member)
cleared_array _ _ _ _ _ (ClearsJournal.Closes opened live refusal x y are does) going array =
    stage_array (gate_writes closed_gate) live refusal x y does (goes_on x.member.array.geometry refusal going) array
cleared_array _ _ _ _ _ (ClearsJournal.Stops redo opened body was stripe fault x y found) going array = absurd (going (final_refused fault))
cleared_array _ _ _ _ _ (ClearsJournal.BodyLost redo opened body was stripe sector x y found lost) going array =
    left_array body.gone None (snapshot x.member found.mid) y found.leaves refl array
cleared_array _ _ _ _ _ (ClearsJournal.Replayed redo opened body was stripe refusal x y z found whole run) going array =
    replay_array redo stripe opened refusal y z run (goes_on x.member.array.geometry refusal going)
    (left_array body.gone None (snapshot x.member found.mid) y found.leaves refl array)

pub recovered_array : (answer : Result Geometry Refusal) (x y : Snapshot) → Recovers answer x y → ¬ Stops answer → IsArray (unopened y.member)
recovered_array _ _ _ (Recovers.NoEpoch fault x y e) going = absurd (going (final_refused fault))
recovered_array _ _ _ (Recovers.Stops fallen opened redo fault x y z e found) going = absurd (going (final_refused fault))
recovered_array _ _ _ (Recovers.Goes fallen opened redo answer x y z w e found clears) going =
    cleared_array redo opened answer z w clears going
    (found_array redo opened None y z found refl (fence_array no_slots x.member y.member (Ok fallen) x.told y.told e refl))

-- WHAT IS PROMISED

mark_goes_on : (x y : Snapshot) (j : ℕ) → MarkStays x y j → MarkGoesOn Recover x.told y.told x.member y.member j
mark_goes_on x y j (MarkStays.Same same) = MarkGoesOn.Stays same
mark_goes_on x y j (MarkStays.WasAway live rebuilt down) = MarkGoesOn.WasAway refl live rebuilt down
mark_goes_on x y j (MarkStays.Went was down) = MarkGoesOn.Went was down

pub member_goes_on : (more : ℕ) (x y : Snapshot) → IsPart more x y → MemberGoesOn Recover x.told y.told x.member y.member
member_goes_on more x y part = record {
  geometry = part.geometry;
  whys = λ j below. why_goes_on Recover x y j (part.whys j below);
  marks = λ j below. mark_goes_on x y j (part.marks j below);
  drawn = part.drawn;
}

ends : (answer : Answer Recover) (last : Membership) → EndsIn Recover answer (unopened last) (session_after answer last)
ends (Ok g) last = EndsIn.GoesOn (λ step. refl) refl refl
ends (Err refusal) last = EndsIn.Ends refl refl refl

keeps_rebuild : (answer : Answer Recover) (m last : Membership) → KeepsRebuild Recover answer (unopened m) (unopened last)
keeps_rebuild (Ok g) m last = refl
keeps_rebuild (Err refusal) m last = KeepsProgress.Stays refl (λ rebuild is. absurd (cc))

-- An opening did what is promised of a step.
module _ (m last : Membership) (answer : Answer Recover) (x y : RackState) (rules : IsMembership m)
    (does : Recovers answer (snapshot m x) (snapshot last y)) where
  part : IsPart 1 (snapshot m x) (snapshot last y)
  part = recovered_part answer (snapshot m x) (snapshot last y) does rules

  caused : (given : Answer Recover) → answer ≡ given → IfErr given (λ why. HasCause Recover why (unopened m) last x y)
  caused (Ok g) same = tt
  caused (Err why) same = recovered_caused answer (snapshot m x) (snapshot last y) does rules why same

  allowed : (given : Answer Recover) → answer ≡ given → IsAllowed Recover given (unopened m)
  allowed (Ok g) same = recovered_answers answer (snapshot m x) (snapshot last y) does rules g same
  allowed (Err why) same = tt

  pub performs : Performs Recover answer (events_of Recover answer m.array last.array) (record { told = x; session = Found m })
      (record { told = y; session = session_after answer last })
  performs = record {
    was = unopened m;
    is = unopened last;
    starts = refl;
    ends = ends answer last;
    later = part.after.later;
    goes_on = member_goes_on 1 (snapshot m x) (snapshot last y) part;
    rebuild = keeps_rebuild answer m last;
    draws_few = draws_few Recover (snapshot m x) (snapshot last y) part;
    events_are = refl;
    caused = caused answer refl;
    allowed = allowed answer refl;
    array = recovered_array answer (snapshot m x) (snapshot last y) does;
    counted = tt;
    remembers = refl;
    does = does;
    left_out = recovered_left_out answer (snapshot m x) (snapshot last y) does rules;
    made = λ honest. tt;
    repaired = λ honest. tt;
    looked = λ honest. tt;
  }
