-- A slot that a survey finds taking part has the medium that it had at the survey's beginning, or is bare: a superblock was read
-- of it after the one attach, so that no blank medium was found in its place.
use Rattle.std.proofs.Common.{◌≡◌, ◌≢◌, ℕ, zero, suc, ◌<◌, ◌≤◌, List, [], ◌∷◌, ◌++◌, Option, None, Some, inl, inr, refl, sym, ap, ◌∙◌, subst, arith}
use Rattle.std.specs.Prelude.{IsSome, IsTrue, Result, Ok}
use Rattle.std.proofs.lemmas.Bool.{cases_eq, cases_lt}
use Rattle.stair_model.specs.Slots.{HasSlot}
use Rattle.stair_rack.specs.Answers.{Calls, IsAnswered, IsHistory, IsNoAttach, Ran, Told, Untold, any_call}
use Rattle.stair_rack.specs.History.{Happening, Made, Stopped, Acted, Called, SlotAct, Pulled, InsertedBlank, InsertedOld, SectorDamaged, SlotCall, SlotState, Attach, Sectors, Read, Write, Sync, after_act, after_call, slot_state}
use Rattle.stair_rack.specs.Moments.{IsMoment}
use Rattle.stair_rack.specs.Outside.{IsAct, MayHappen}
use Rattle.stair_rack.specs.Sector.{Cell, Damaged, Good, content, damaged}
use Rattle.stair_rack.specs.Stretch.{NothingReturned, ReturnsNothing}
use Rattle.stair_rack.specs.RackState.{RackState}
use Rattle.stair_rack.specs.declared.rack.Reply.{Reply}
use Rattle.stair_rack.specs.declared.rack.Reply.TheVariants as reply
use Rattle.stair_rack.specs.declared.rack.Got.{Got}
use Rattle.stair_rack.specs.declared.rack.Got.TheVariants as got
use Rattle.stair_rack.proofs.KeptLemmas.{not_none, with_sector_cases}
use Rattle.stair_rack.proofs.MomentLemmas.{IsThis, at_last, calls_ran, moment_between, moment_cases, ran_acts, ran_after, ran_any, ran_before, ran_join, ran_none, ran_weakened}
use Rattle.stair_rack.proofs.OfflineLemmas.{pulls_on, refused}
use Rattle.stair_rack.proofs.StepLemmas.{slot_act_cases, slot_call_cases}
use Rattle.stair_rack.proofs.StretchLemmas.{answered_allowed, each_after, each_before, kept_where}
use Rattle.stair_rack.proofs.TidyLemmas.{history_on}
use Rattle.stair_member.specs.Asked.{AsksBelow, AsksSlot, FindsSlot, FindsWithin, FoundBoth, FoundNone, IsWhatWasRead, LeavesSectors, NotThere, There}
use Rattle.stair_member.specs.Membership.{IsHere, Membership, why_of}
use Rattle.stair_member.specs.Survey.{IsAnswer, Surveys}
use Rattle.stair_member.specs.Superblocks.{HasSuper}
use Rattle.stair_member.specs.declared.fault.SurveyFault.{SurveyFault}
use Rattle.stair_member.proofs.AskedLemmas.{asked_ran}
use Rattle.stair_member.proofs.SuperLemmas.{super_held}
use Rattle.stair_state.proofs.OutsideLemmas.{unwritten_ran}
use Rattle.stair_state.specs.Surveyed.{Bare, IsOwnOrBare, Own}
use Rattle.stair_state.proofs.AgreeLemmas.{here_late, here_marked, identifies_limits}
use Rattle.stair_state.proofs.DegradedLemmas.{degraded_copies}
use Rattle.stair_state.proofs.FormLemmas.{good_before, good_whole}
use Rattle.stair_state.proofs.StillLemmas.{degraded_now, empty_lost, pulled_lost}

-- THE ONE ATTACH

-- a call of a survey, and no attach of slot j
abbrev IsLookBut : ℕ → ℕ → SlotCall → Type 0
IsLookBut j i c = LeavesSectors i c × IsNoAttach j i c

call_but : (j : ℕ) {old new : List Happening} {i : ℕ} (c : SlotCall) → IsLookBut j i c → Calls old new i c → Ran (IsLookBut j) old new
call_but j {i = i} c may called =
    ran_weakened {allowed = IsThis i c} {more = IsLookBut j}
    (λ n d is. subst (IsLookBut j n) (sym is.1) (subst (λ (l : ℕ). IsLookBut j l c) (sym is.0) may)) (calls_ran called)

slot_but : (i j : ℕ) → i ≢ j → (old new : List Happening) → AsksSlot i old new → Ran (IsLookBut j) old new
slot_but i j other old new (NotThere gone) = call_but j (Attach reply.Gone) (tt, λ at. absurd (other at)) gone
slot_but i j other old new (There attached between first second found one two) =
    ran_join (call_but j (Attach reply.Done) (tt, λ at. absurd (other at)) found)
    (ran_join (call_but j (Read 0 first) (tt, λ at. tt) one) (call_but j (Read 1 second) (tt, λ at. tt) two))

below_but : (bound j : ℕ) → bound ≤ j → (old new : List Happening) → AsksBelow bound old new → Ran (IsLookBut j) old new
below_but zero j small old new same = subst (λ h. Ran (IsLookBut j) old h) (sym same) (ran_none old)
below_but (suc i) j small old new asked =
    ran_join (below_but i j (omega (arith, small)) old asked.0 asked.1)
    (slot_but i j (λ at. omega (arith, at, small)) asked.0 new asked.2)

-- slot j is attached once, between other calls
record IsAttachedOnce (j : ℕ) (old new : List Happening) : Type 0 where
  from : List Happening
  to : List Happening
  answer : Reply
  sooner : Ran (IsLookBut j) old from
  once : Calls from to j (Attach answer)
  later : Ran (IsLookBut j) to new

slot_once : (j : ℕ) (old new : List Happening) → AsksSlot j old new → IsAttachedOnce j old new
slot_once j old new (NotThere gone) =
    record { from = old; to = new; answer = reply.Gone; sooner = ran_none old; once = gone; later = ran_none new }
slot_once j old new (There attached between first second found one two) = record {
  from = old;
  to = attached;
  answer = reply.Done;
  sooner = ran_none old;
  once = found;
  later = ran_join (call_but j (Read 0 first) (tt, λ at. tt) one) (call_but j (Read 1 second) (tt, λ at. tt) two);
}

below_once : (bound j : ℕ) → j < bound → (old new : List Happening) → AsksBelow bound old new → IsAttachedOnce j old new
below_once zero j small old new asked = absurd (omega (arith, small))
below_once (suc i) j small old new asked =
    elim (cases_eq i j) [
      | inl at ↦ last (slot_once j asked.0 new (subst (λ (n : ℕ). AsksSlot n asked.0 new) at asked.2)) (omega (arith, at))
      | inr other ↦ early (below_once i j (omega (arith, small, other)) old asked.0 asked.1) (slot_but i j other asked.0 new asked.2)
    ]
  where
    last : IsAttachedOnce j asked.0 new → i ≤ j → IsAttachedOnce j old new
    last o least = record {
      from = o.from;
      to = o.to;
      answer = o.answer;
      sooner = ran_join (below_but i j least old asked.0 asked.1) o.sooner;
      once = o.once;
      later = o.later;
    }

    early : IsAttachedOnce j old asked.0 → Ran (IsLookBut j) asked.0 new → IsAttachedOnce j old new
    early o more = record { from = o.from; to = o.to; answer = o.answer; sooner = o.sooner; once = o.once; later = ran_join o.later more }

-- so after an attach of it none follows
none_after : (j : ℕ) (old at new : List Happening) (answer : Reply) → IsAttachedOnce j old new → Ran any_call old at
    → IsMoment old (Called j (Attach answer) ∷ at) new → Ran (IsLookBut j) (Called j (Attach answer) ∷ at) new
none_after j old at new answer o first moment =
    elim (moment_cases moment (moment_between (ran_join (ran_any o.sooner) (ran_any (calls_ran o.once))) o.later)) [
      | inr behind ↦ ran_after o.later behind
      | inl before ↦ by before o.once
    ]
  where
    -- it isn't in a stretch without one
    not_within : (end : List Happening) → Ran (IsLookBut j) old end → IsMoment old (Called j (Attach answer) ∷ at) end → ⊥
    not_within end ran is =
        (answered_allowed {allowed = IsLookBut j} {j = j} {c = Attach answer} ran
        (record { earlier = first.more; later = is.later; is = is.to ∙ ap (λ h. is.later ++ (Called j (Attach answer) ∷ h)) first.is })).1 refl

    by : IsMoment old (Called j (Attach answer) ∷ at) o.to → Calls o.from o.to j (Attach o.answer) → Ran (IsLookBut j) (Called j (Attach answer) ∷ at) new
    by before (Untold acts runs answered is_stopped nothing is) =
        absurd (not_within o.to (ran_join o.sooner (subst (Ran (IsLookBut j) o.from) (sym is) (ran_acts acts o.from runs))) before)
    by before (Told acts runs answered is) = at_end before.later before.to
      where
        at_end : (later : List Happening) → o.to ≡ later ++ (Called j (Attach answer) ∷ at) → Ran (IsLookBut j) (Called j (Attach answer) ∷ at) new
        at_end [] same = subst (λ h. Ran (IsLookBut j) h new) same o.later
        at_end (e ∷ later) same =
            let tail : acts ++ o.from ≡ later ++ (Called j (Attach answer) ∷ at) = tail_same (sym is ∙ same) in
            absurd
            (not_within (acts ++ o.from) (ran_join o.sooner (ran_acts acts o.from runs))
            (record { before = Called j (Attach answer) ∷ first.more; later = later; from = ap (λ h. Called j (Attach answer) ∷ h) first.is; to = tail }))
          where
            tail_same : {a b : Happening} {x y : List Happening} → a ∷ x ≡ b ∷ y → x ≡ y
            tail_same both = cc

-- OWN MEDIA

some_there : (size : Option ℕ) → size ≢ None → IsSome size
some_there None not = absurd (not refl)
some_there (Some n) not = refl

-- a slot of which bytes can be read holds a medium
medium_there : (h : List Happening) (j k : ℕ) (bytes : List ℕ) → IsHistory h → content ((slot_state h j).sector k) ≡ Good bytes
    → IsSome (slot_state h j).size
medium_there h j k bytes is good = some_there (slot_state h j).size (λ none. good_whole good (empty_lost h j is none k))

-- and where nothing came back it's the one that it had
own_then : (old at : List Happening) (j k : ℕ) (bytes : List ℕ) → IsHistory old → Ran LeavesSectors old at → NothingReturned old at
    → content ((slot_state at j).sector k) ≡ Good bytes → IsOwnOrBare (slot_state old j) (slot_state at j)
own_then old at j k bytes is ran none good =
    let most : (slot_state at j).pulls ≤ (slot_state old j).pulls = kept in
    let least = pulls_on {allowed = LeavesSectors} j ran in
    Own
    (medium_there old j k bytes is (good_before (degraded_copies (degraded_now (unwritten_ran ran) none j) k) good))
    (omega (arith, most, least))
    (medium_there at j k bytes (history_on {allowed = LeavesSectors} is ran) good)
  where
    kept : (slot_state at j).pulls ≤ (slot_state old j).pulls
    kept =
        elim (cases_lt (slot_state old j).pulls (slot_state at j).pulls) [
          | inl pulled ↦ absurd (good_whole good (pulled_lost j (unwritten_ran ran) none pulled k))
          | inr not ↦ not
        ]

own_act : (first : SlotState) (h : List Happening) (j : ℕ) (b : SlotState) (a : SlotAct) → MayHappen b a → ReturnsNothing h (Acted j a)
    → IsOwnOrBare first b → IsOwnOrBare first (after_act a b)
own_act first h j b (Pulled m) may none was = Bare refl (λ k. refl)
own_act first h j b (InsertedBlank size) may none (Own some same still) = absurd (not_none b.size may still)
own_act first h j b (InsertedBlank size) may none (Bare off all) = Bare off (λ k. refl)
own_act first h j b (InsertedOld i) may none was = absurd none
own_act first h j b (SectorDamaged l) may none (Own some same still) = Own some same still
own_act first h j b (SectorDamaged l) may none (Bare off all) =
    Bare off (λ k. with_sector_cases (λ s. s ≡ damaged) l k damaged b (λ at. refl) (all k))

own_call : (first : SlotState) (j : ℕ) (b : SlotState) (c : SlotCall) → IsLookBut j j c → IsOwnOrBare first b → IsOwnOrBare first (after_call c b)
own_call first j b (Attach answer) may was = absurd (may.1 refl)
own_call first j b (Sectors size) may was = was
own_call first j b (Read k answer) may was = was
own_call first j b (Write k bytes answer) may was = absurd may.0
own_call first j b (Sync answer) may was = absurd may.0

-- it stays so while the slot isn't attached
own_on : (first : SlotState) (at new : List Happening) (j : ℕ) → Ran (IsLookBut j) at new → NothingReturned at new → IsOwnOrBare first (slot_state at j)
    → IsOwnOrBare first (slot_state new j)
own_on first at new j ran none was =
    at_last {P = λ h. IsOwnOrBare first (slot_state h j)}
    (kept_where {P = ReturnsNothing} {allowed = IsLookBut j} {R = λ h. IsOwnOrBare first (slot_state h j)} (record { act = on_act; call = on_call }) ran none was)
  where
    on_act : (h : List Happening) (e : Happening) → IsAct h e → ReturnsNothing h e → IsOwnOrBare first (slot_state h j)
        → IsOwnOrBare first (slot_state (e ∷ h) j)
    on_act h (Made image) may nothing before = absurd may
    on_act h Stopped may nothing before = before
    on_act h (Acted i a) may nothing before =
        slot_act_cases (IsOwnOrBare first) h i j a
        (λ same.
        own_act first h j (slot_state h j) a (subst (λ (n : ℕ). MayHappen (slot_state h n) a) same may.1)
        (subst (λ (n : ℕ). ReturnsNothing h (Acted n a)) same nothing) before) before
    on_act h (Called i c) may nothing before = absurd may

    on_call : (h : List Happening) (i : ℕ) (c : SlotCall) → IsLookBut j i c → IsAnswered h i c → ReturnsNothing h (Called i c)
        → IsOwnOrBare first (slot_state h j) → IsOwnOrBare first (slot_state (Called i c ∷ h) j)
    on_call h i c may answered nothing before =
        slot_call_cases (IsOwnOrBare first) h i j c
        (λ same. own_call first j (slot_state h j) c (subst (λ (n : ℕ). IsLookBut j n c) same may) before) before

-- THE SURVEY

-- a place of which bytes were read
good_read : (gone : Type 0) (answer : Got) (h : List Happening) (j k : ℕ) (cell : Cell) (bytes : List ℕ) → IsWhatWasRead gone answer h j k cell
    → cell ≡ Good bytes → content ((slot_state h j).sector k) ≡ Good bytes
good_read gone got.Good h j k cell bytes found good = sym found ∙ good
good_read gone got.Bad h j k cell bytes found good = absurd (good_whole good found)
good_read gone got.Gone h j k cell bytes found good = absurd (good_whole good found.0)

-- of a slot of which some place was read
own_found : (old new : List Happening) (j k : ℕ) (gone : Type 0) (cell : ℕ → Cell) (bytes : List ℕ) → j < 32 → k < 2 → cell k ≡ Good bytes
    → IsHistory old → AsksBelow 32 old new → NothingReturned old new → FindsWithin gone j cell old new
    → IsOwnOrBare (slot_state old j) (slot_state new j)
own_found old new j k gone cell bytes j_in k_in good is asked none within = by within.finds
  where
    ran : Ran LeavesSectors old new
    ran = asked_ran 32 old new asked

    none_then : (attached : List Happening) → Calls within.from attached j (Attach reply.Done) → IsMoment old attached new
        → Ran (IsLookBut j) attached new
    none_then attached (Told acts runs answered is_so) moment =
        subst (λ h. Ran (IsLookBut j) h new) (sym is_so)
        (none_after j old (acts ++ within.from) new reply.Done (below_once 32 j j_in old new asked)
        (ran_join within.sooner (ran_acts acts within.from runs)) (subst (λ h. IsMoment old h new) is_so moment))
    none_then attached (Untold acts runs answered is_stopped nothing is_so) moment =
        let gone_then = refused (acts ++ within.from) j (Attach reply.Done) is_stopped answered in absurd (cc)

    -- read at a moment after the attach
    behind : (attached at : List Happening) (l : ℕ) → Calls within.from attached j (Attach reply.Done) → Ran any_call attached at → Ran any_call at new
        → content ((slot_state at j).sector l) ≡ Good bytes → IsOwnOrBare (slot_state old j) (slot_state new j)
    behind attached at l called more rest found =
        let upto : Ran any_call old attached = ran_join within.sooner (ran_any (calls_ran called)) in
        let here : IsMoment old at new = moment_between (ran_join upto more) rest in
        own_on (slot_state old j) at new j
        (ran_after (none_then attached called (moment_between upto (ran_join more rest))) (moment_between more rest)) (each_after none here)
        (own_then old at j l bytes is (ran_before ran here) (each_before none here) found)

    by : FindsSlot gone j cell within.from within.to → IsOwnOrBare (slot_state old j) (slot_state new j)
    by (FoundNone called first second is_gone) =
        elim (cases_lt k 1) [
          | inl at ↦ absurd (good_whole good (subst (λ (l : ℕ). cell l ≡ Damaged) (omega (arith, at)) first))
          | inr at ↦ absurd (good_whole good (subst (λ (l : ℕ). cell l ≡ Damaged) (omega (arith, at, k_in)) second))
        ]
    by (FoundBoth attached between first second found one two read_one read_two gone_so) =
        elim (cases_lt k 1) [
          | inl at ↦
              behind attached between 0 found (ran_any (calls_ran one)) (ran_join (ran_any (calls_ran two)) within.later)
              (good_read gone first between j 0 (cell 0) bytes read_one (subst (λ (l : ℕ). cell l ≡ Good bytes) (omega (arith, at)) good))
          | inr at ↦
              behind attached within.to 1 found (ran_join (ran_any (calls_ran one)) (ran_any (calls_ran two))) within.later
              (good_read gone second within.to j 1 (cell 1) bytes read_two (subst (λ (l : ℕ). cell l ≡ Good bytes) (omega (arith, at, k_in)) good))
        ]

pub found_own : (old new : RackState) (answer : Result Membership SurveyFault) (m : Membership) → Surveys answer old new → IsTrue new.honest
    → NothingReturned old.history new.history → answer ≡ Ok m → (j : ℕ) → IsHere m j
    → IsOwnOrBare (slot_state old.history j) (slot_state new.history j)
found_own old new answer m surveys honest none ok j here =
    own_found old.history new.history j held.place (HasSlot surveys.findings.gone j) ((surveys.findings.image j).cell) held.holds.bytes j_in held.place_in
    held.holds.good is asked none ((surveys.found.each j j_in).finds honest)
  where
    answered : IsAnswer surveys.findings (Ok m)
    answered = subst (λ (a : Result Membership SurveyFault). IsAnswer surveys.findings a) ok surveys.answered

    is : IsHistory old.history
    is = surveys.began honest

    asked : AsksBelow 32 old.history new.history
    asked = surveys.asked honest

    j_in : j < 32
    j_in =
        let below : j < m.array.geometry.n = here.below in
        let few : m.array.geometry.n ≤ 32 = (identifies_limits m.array.geometry surveys.findings.image answered.0.identity.stands).devices.1 in
        omega (arith, below, few)

    -- a superblock was read of it
    held : HasSuper ((surveys.findings.image j).cell)
    held =
        let for =
        here_marked (HasSlot surveys.findings.gone) m.array.geometry surveys.findings.image answered.0.current j (why_of m j) here.below
        (here_late m j here) (answered.0.reasons j here.below) in
        super_held ((surveys.findings.image j).cell) for.super for.counts.super
