-- What happened in a stretch of a history.
use Rattle.std.proofs.Common.{◌≡◌, ◌≢◌, ℕ, ◌<◌, List, [], ◌∷◌, ◌++◌, ◌⊎◌, inl, inr, refl, sym, ap, ◌∙◌, subst, append_assoc, arith, slice_get}
use Rattle.std.specs.Prelude.{IsTrue, IsSome}
use Rattle.stair_rack.specs.Sector.{Damaged, Sector, damaged, content, wrote}
use Rattle.std.proofs.lemmas.List.{append_cancel_right}
use Rattle.stair_rack.specs.History.{Happening, Made, Stopped, Acted, Called, SlotCall, Attach, Sectors, Read, Write, Sync, SlotAct, Pulled, InsertedBlank, InsertedOld, SectorDamaged, SlotState, after_act, after_call, slot_state, stopped}
use Rattle.stair_rack.specs.Outside.{MayHappen, IsAct}
use Rattle.stair_rack.specs.Offline.{IsKept, Here, Lost}
use Rattle.stair_rack.specs.Answers.{IsAnswered, IsCall, Runs, Ran, Calls, Told, Untold}
use Rattle.stair_rack.specs.Moments.{IsMoment, Throughout, AtEveryMoment}
use Rattle.stair_rack.specs.Stretch.{EachOf, EachHappening, IsNoWrite, IsNoWriteTo, NoneWritten, WasAnswered, DamagesNothing, NothingDamaged}
use Rattle.stair_rack.specs.declared.rack.Reply.TheVariants as reply
use Rattle.stair_rack.proofs.MomentLemmas.{runs_before}
use Rattle.stair_rack.proofs.StepLemmas.{throughout_end, slot_act_cases, slot_call_cases}
use Rattle.stair_rack.proofs.OfflineLemmas.{IsRefused, refused}
use Rattle.stair_rack.proofs.KeptLemmas.{not_none, with_old_cases, with_sector_cases}

-- STRETCHES THAT JOIN

each_of_join : (P : List Happening → Happening → Type 0) (b a old : List Happening) → EachOf P a old → EachOf P b (a ++ old) → EachOf P (b ++ a) old
each_of_join P [] a old first second = first
each_of_join P (e ∷ b) a old first second =
    (each_of_join P b a old first second.0, subst (λ h. P h e) (sym (append_assoc b a old)) second.1)

each_of_before : (P : List Happening → Happening → Type 0) (b a old : List Happening) → EachOf P (b ++ a) old → EachOf P a old
each_of_before P [] a old each = each
each_of_before P (e ∷ b) a old each = each_of_before P b a old each.0

each_of_after : (P : List Happening → Happening → Type 0) (b a old : List Happening) → EachOf P (b ++ a) old → EachOf P b (a ++ old)
each_of_after P [] a old each = tt
each_of_after P (e ∷ b) a old each = (each_of_after P b a old each.0, subst (λ h. P h e) (append_assoc b a old) each.1)

pub each_none : {P : List Happening → Happening → Type 0} (h : List Happening) → EachHappening P h h
each_none h = record { more = []; is = refl; each = tt }

pub each_join : {P : List Happening → Happening → Type 0} {old mid new : List Happening} → EachHappening P old mid → EachHappening P mid new
    → EachHappening P old new
each_join {P} {old} {mid} {new} first second = record {
  more = second.more ++ first.more;
  is = second.is ∙ ap (λ h. second.more ++ h) first.is ∙ sym (append_assoc second.more first.more old);
  each = each_of_join P second.more first.more old first.each (subst (λ h. EachOf P second.more h) first.is second.each);
}

-- the same happenings
same_more : {old h new : List Happening} (more : List Happening) → new ≡ more ++ old → (at : IsMoment old h new) → more ≡ at.later ++ at.before
same_more {old} {h} {new} more is at =
    append_cancel_right more (at.later ++ at.before) old
    (sym is ∙ at.to ∙ ap (λ x. at.later ++ x) at.from ∙ sym (append_assoc at.later at.before old))

-- up to a moment of the stretch, and from there on
pub each_before : {P : List Happening → Happening → Type 0} {old h new : List Happening} → EachHappening P old new → IsMoment old h new
    → EachHappening P old h
each_before {P} {old} every at = record {
  more = at.before;
  is = at.from;
  each = each_of_before P at.later at.before old (subst (λ m. EachOf P m old) (same_more every.more every.is at) every.each);
}

pub each_after : {P : List Happening → Happening → Type 0} {old h new : List Happening} → EachHappening P old new → IsMoment old h new
    → EachHappening P h new
each_after {P} {old} every at = record {
  more = at.later;
  is = at.to;
  each =
      subst (λ x. EachOf P at.later x) (sym at.from)
      (each_of_after P at.later at.before old (subst (λ m. EachOf P m old) (same_more every.more every.is at) every.each));
}

each_of_mapped : (P Q : List Happening → Happening → Type 0) → ((h : List Happening) (e : Happening) → P h e → Q h e) → (more old : List Happening)
    → EachOf P more old → EachOf Q more old
each_of_mapped P Q within [] old each = tt
each_of_mapped P Q within (e ∷ more) old each = (each_of_mapped P Q within more old each.0, within (more ++ old) e each.1)

pub each_mapped : {P Q : List Happening → Happening → Type 0} {old new : List Happening} → ((h : List Happening) (e : Happening) → P h e → Q h e)
    → EachHappening P old new → EachHappening Q old new
each_mapped {P} {Q} {old} within every =
    record { more = every.more; is = every.is; each = each_of_mapped P Q within every.more old every.each }

-- RUNS

-- what holds of acts and of the allowed calls holds of each happening of a run
pub each_of_ran : {allowed : ℕ → SlotCall → Type 0} {P : List Happening → Happening → Type 0} {old new : List Happening}
    → ((h : List Happening) (e : Happening) → IsAct h e → P h e) → ((h : List Happening) (j : ℕ) (c : SlotCall) → allowed j c → P h (Called j c))
    → Ran allowed old new → EachHappening P old new
each_of_ran {allowed} {P} {old} acts calls ran =
    record { more = ran.more; is = ran.is; each = each_of allowed P acts calls ran.more old ran.runs }
  where
    one : (allowed : ℕ → SlotCall → Type 0) (P : List Happening → Happening → Type 0) → ((h : List Happening) (e : Happening) → IsAct h e → P h e)
        → ((h : List Happening) (j : ℕ) (c : SlotCall) → allowed j c → P h (Called j c)) → (h : List Happening) (e : Happening)
        → IsAct h e ⊎ IsCall allowed h e → P h e
    one allowed P acts calls h e (inl act) = acts h e act
    one allowed P acts calls h (Made image) (inr call) = absurd call
    one allowed P acts calls h Stopped (inr call) = absurd call
    one allowed P acts calls h (Acted j a) (inr call) = absurd call
    one allowed P acts calls h (Called j c) (inr call) = calls h j c call.0

    each_of : (allowed : ℕ → SlotCall → Type 0) (P : List Happening → Happening → Type 0) → ((h : List Happening) (e : Happening) → IsAct h e → P h e)
        → ((h : List Happening) (j : ℕ) (c : SlotCall) → allowed j c → P h (Called j c)) → (more old : List Happening) → Runs allowed more old
        → EachOf P more old
    each_of allowed P acts calls [] old runs = tt
    each_of allowed P acts calls (e ∷ more) old runs =
        (each_of allowed P acts calls more old runs.0, one allowed P acts calls (more ++ old) e runs.1)

-- in a run of calls that don't write to these slots none of them is written
pub none_written : {allowed : ℕ → SlotCall → Type 0} {slots : ℕ → Type 0} {old new : List Happening}
    → ((j : ℕ) (c : SlotCall) → allowed j c → slots j → IsNoWrite c) → Ran allowed old new → NoneWritten slots old new
none_written {allowed} {slots} spares ran =
    each_of_ran {allowed = allowed} {P = IsNoWriteTo slots} by_act (λ h j c may is_slot. spares j c may is_slot) ran
  where
    by_act : (h : List Happening) (e : Happening) → IsAct h e → IsNoWriteTo slots h e
    by_act h (Made image) act = tt
    by_act h Stopped act = tt
    by_act h (Acted j a) act = tt
    by_act h (Called j c) act = absurd act

-- and the other way round
pub ran_sparing : {allowed : ℕ → SlotCall → Type 0} {slots : ℕ → Type 0} {old new : List Happening} → Ran allowed old new → NoneWritten slots old new
    → Ran (λ j c. slots j → IsNoWrite c) old new
ran_sparing {allowed} {slots} {old} {new} ran none = record {
  more = ran.more;
  is = ran.is;
  runs = sparing allowed slots ran.more old ran.runs (subst (λ m. EachOf (IsNoWriteTo slots) m old) same none.each);
}
  where
    same : none.more ≡ ran.more
    same = append_cancel_right none.more ran.more old (sym none.is ∙ ran.is)

    one : (allowed : ℕ → SlotCall → Type 0) (slots : ℕ → Type 0) (h : List Happening) (e : Happening) → IsAct h e ⊎ IsCall allowed h e
        → IsNoWriteTo slots h e → IsAct h e ⊎ IsCall (λ j c. slots j → IsNoWrite c) h e
    one allowed slots h e (inl act) is = inl act
    one allowed slots h (Made image) (inr call) is = absurd call
    one allowed slots h Stopped (inr call) is = absurd call
    one allowed slots h (Acted j a) (inr call) is = absurd call
    one allowed slots h (Called j c) (inr call) is = inr (is, call.1)

    sparing : (allowed : ℕ → SlotCall → Type 0) (slots : ℕ → Type 0) (more old : List Happening) → Runs allowed more old
        → EachOf (IsNoWriteTo slots) more old → Runs (λ j c. slots j → IsNoWrite c) more old
    sparing allowed slots [] old runs each = tt
    sparing allowed slots (e ∷ more) old runs each =
        (sparing allowed slots more old runs.0 each.0, one allowed slots (more ++ old) e runs.1 each.1)

-- WHAT IS KEPT

-- Acts and these calls keep R, where the stretch has P.
pub record KeepsWhere (P : List Happening → Happening → Type 0) (allowed : ℕ → SlotCall → Type 0) (R : List Happening → Type 0) : Type 0 where
  pub act : (h : List Happening) (e : Happening) → IsAct h e → P h e → R h → R (e ∷ h)
  pub call : (h : List Happening) (j : ℕ) (c : SlotCall) → allowed j c → IsAnswered h j c → P h (Called j c) → R h → R (Called j c ∷ h)

pub kept_where : {P : List Happening → Happening → Type 0} {allowed : ℕ → SlotCall → Type 0} {R : List Happening → Type 0} {old new : List Happening}
    → KeepsWhere P allowed R → Ran allowed old new → EachHappening P old new → R old → AtEveryMoment R old new
kept_where {P} {allowed} {R} {old} {new} keeps ran every start = record {
  more = ran.more;
  is = ran.is;
  each = throughout P allowed R keeps ran.more old ran.runs (subst (λ m. EachOf P m old) same every.each) start;
}
  where
    same : every.more ≡ ran.more
    same = append_cancel_right every.more ran.more old (sym every.is ∙ ran.is)

    one : (P : List Happening → Happening → Type 0) (allowed : ℕ → SlotCall → Type 0) (R : List Happening → Type 0) → KeepsWhere P allowed R
        → (h : List Happening) (e : Happening) → IsAct h e ⊎ IsCall allowed h e → P h e → R h → R (e ∷ h)
    one P allowed R keeps h e (inl act) is before = keeps.act h e act is before
    one P allowed R keeps h (Made image) (inr call) is before = absurd call
    one P allowed R keeps h Stopped (inr call) is before = absurd call
    one P allowed R keeps h (Acted j a) (inr call) is before = absurd call
    one P allowed R keeps h (Called j c) (inr call) is before = keeps.call h j c call.0 call.1 is before

    throughout : (P : List Happening → Happening → Type 0) (allowed : ℕ → SlotCall → Type 0) (R : List Happening → Type 0) → KeepsWhere P allowed R
        → (more old : List Happening) → Runs allowed more old → EachOf P more old → R old → Throughout R more old
    throughout P allowed R keeps [] old runs each start = start
    throughout P allowed R keeps (e ∷ more) old runs each start =
        let before = throughout P allowed R keeps more old runs.0 each.0 start in
        (one P allowed R keeps (more ++ old) e runs.1 each.1 (throughout_end R more old before), before)

-- DAMAGE

-- the slot has the medium that it had after so many pulls, and its sector isn't damaged; or the medium was pulled since
pub data IsUndamaged (pulls k : ℕ) (b : SlotState) : Type 0 where
  Whole : b.pulls ≡ pulls → IsSome b.size → content (b.sector k) ≢ Damaged → IsUndamaged pulls k b
  PulledSince : pulls < b.pulls → IsUndamaged pulls k b

undamaged_act : (pulls k : ℕ) (h : List Happening) (j : ℕ) (a : SlotAct) → MayHappen (slot_state h j) a → DamagesNothing h (Acted j a)
    → IsUndamaged pulls k (slot_state h j) → IsUndamaged pulls k (after_act a (slot_state h j))
undamaged_act pulls k h j (Pulled m) may none (Whole same some fine) = PulledSince (omega arith)
undamaged_act pulls k h j (Pulled m) may none (PulledSince less) = PulledSince (omega arith)
undamaged_act pulls k h j (InsertedBlank size) may none (Whole same some fine) = absurd (not_none (slot_state h j).size may some)
undamaged_act pulls k h j (InsertedBlank size) may none (PulledSince less) = PulledSince less
undamaged_act pulls k h j (InsertedOld i) may none (Whole same some fine) = absurd (not_none (slot_state h j).size may.0 some)
undamaged_act pulls k h j (InsertedOld i) may none (PulledSince less) =
    with_old_cases (IsUndamaged pulls k) i (slice_get (slot_state h j).removed i) (slot_state h j) (PulledSince less) (λ m. PulledSince less)
undamaged_act pulls k h j (SectorDamaged l) may none (Whole same some fine) =
    Whole same some
    (with_sector_cases (λ s. content s ≢ Damaged) l k damaged (slot_state h j)
    (λ at is. fine (ap content (ap (slot_state h j).sector at ∙ none))) fine)
undamaged_act pulls k h j (SectorDamaged l) may none (PulledSince less) = PulledSince less

undamaged_call : (pulls k : ℕ) (b : SlotState) (c : SlotCall) → IsUndamaged pulls k b → IsUndamaged pulls k (after_call c b)
undamaged_call pulls k b (Attach reply.Done) (Whole same some fine) = Whole same some fine
undamaged_call pulls k b (Attach reply.Done) (PulledSince less) = PulledSince less
undamaged_call pulls k b (Attach reply.Gone) (Whole same some fine) = Whole same some fine
undamaged_call pulls k b (Attach reply.Gone) (PulledSince less) = PulledSince less
undamaged_call pulls k b (Sectors size) before = before
undamaged_call pulls k b (Read l answer) before = before
undamaged_call pulls k b (Write l bytes reply.Done) (Whole same some fine) =
    Whole same some (with_sector_cases (λ s. content s ≢ Damaged) l k (wrote bytes (b.sector l)) b (λ at is. absurd (cc)) fine)
undamaged_call pulls k b (Write l bytes reply.Done) (PulledSince less) = PulledSince less
undamaged_call pulls k b (Write l bytes reply.Gone) before = before
undamaged_call pulls k b (Sync reply.Done) (Whole same some fine) = Whole same some fine
undamaged_call pulls k b (Sync reply.Done) (PulledSince less) = PulledSince less
undamaged_call pulls k b (Sync reply.Gone) before = before

-- where no sector became damaged, one that wasn't damaged isn't, at every moment, or its medium was pulled
pub undamaged_throughout : {allowed : ℕ → SlotCall → Type 0} {old new : List Happening} (pulls j k : ℕ) → NothingDamaged old new → Ran allowed old new
    → IsUndamaged pulls k (slot_state old j) → AtEveryMoment (λ h. IsUndamaged pulls k (slot_state h j)) old new
undamaged_throughout {allowed} {old} {new} pulls j k none ran start =
    kept_where {P = DamagesNothing} {allowed = allowed} {R = λ h. IsUndamaged pulls k (slot_state h j)}
    (record {
      act = on_act;
      call = λ h i c may answered is before.
          slot_call_cases (IsUndamaged pulls k) h i j c (λ same. undamaged_call pulls k (slot_state h j) c before) before;
    }) ran none start
  where
    on_act : (h : List Happening) (e : Happening) → IsAct h e → DamagesNothing h e → IsUndamaged pulls k (slot_state h j)
        → IsUndamaged pulls k (slot_state (e ∷ h) j)
    on_act h (Made image) may none before = absurd may
    on_act h Stopped may none before = before
    on_act h (Acted i a) may none before =
        slot_act_cases (IsUndamaged pulls k) h i j a
        (λ same.
        undamaged_act pulls k h j a (subst (λ n. MayHappen (slot_state h n) a) same may.1) (subst (λ n. DamagesNothing h (Acted n a)) same none) before)
        before
    on_act h (Called i c) may none before = absurd may

-- so what is known but for the outside is known, or the medium was pulled
pub but_for_pulls : {pulls k : ℕ} {P : Sector → Type 0} {b : SlotState} → IsUndamaged pulls k b → IsKept pulls k P b → (pulls < b.pulls) ⊎ P (b.sector k)
but_for_pulls (PulledSince less) kept = inl less
but_for_pulls (Whole same some fine) (Here same' some' (inl is)) = absurd (fine (ap content is))
but_for_pulls (Whole same some fine) (Here same' some' (inr holds)) = inr holds
but_for_pulls (Whole same some fine) (Lost less) = inl less

-- CALLS

-- a call is told in its stretch, or the rack is stopped
pub call_answered : (old new : List Happening) (j : ℕ) (c : SlotCall) → Calls old new j c → WasAnswered j c old new ⊎ IsTrue (stopped new)
call_answered old new j c (Told acts runs answered is) = inl (record { earlier = acts; later = []; is = is })
call_answered old new j c (Untold acts runs answered is_stopped nothing is) = inr (subst (λ h. IsTrue (stopped h)) (sym is) is_stopped)

-- a stopped rack answers no call so: it is told
pub call_told : (old new : List Happening) (j : ℕ) (c : SlotCall) → (¬ IsRefused j c) → Calls old new j c → WasAnswered j c old new
call_told old new j c does (Told acts runs answered is) = record { earlier = acts; later = []; is = is }
call_told old new j c does (Untold acts runs answered is_stopped nothing is) = absurd (does (refused (acts ++ old) j c is_stopped answered))

-- it is one of those that were allowed in the stretch, and so are those before it
pub answered_runs : {allowed : ℕ → SlotCall → Type 0} {j : ℕ} {c : SlotCall} {old new : List Happening} → Ran allowed old new
    → (told : WasAnswered j c old new) → Runs allowed (Called j c ∷ told.earlier) old
answered_runs {allowed} {j} {c} {old} {new} ran told =
    let called : List Happening = Called j c ∷ told.earlier in
    let same : ran.more ≡ told.later ++ called =
    append_cancel_right ran.more (told.later ++ called) old (sym ran.is ∙ told.is ∙ sym (append_assoc told.later called old)) in
    runs_before allowed told.later called old (subst (λ m. Runs allowed m old) same ran.runs)

pub answered_allowed : {allowed : ℕ → SlotCall → Type 0} {j : ℕ} {c : SlotCall} {old new : List Happening} → Ran allowed old new
    → WasAnswered j c old new → allowed j c
answered_allowed {allowed} {j} {c} {old} {new} ran told =
    elim (answered_runs {allowed = allowed} {j = j} {c = c} ran told).1 [ inl act ↦ absurd act | inr call ↦ call.0 ]

-- and in each longer stretch
pub answered_wider : {a b : ℕ → SlotCall → Type 0} {j : ℕ} {c : SlotCall} {old mid new later : List Happening} → Ran a old mid → Ran b new later
    → WasAnswered j c mid new → WasAnswered j c old later
answered_wider {j = j} {c = c} {old = old} {mid = mid} before after was = record {
  earlier = was.earlier ++ before.more;
  later = after.more ++ was.later;
  is =
      after.is
      ∙ ap (λ x. after.more ++ x)
      (was.is
      ∙ ap (λ x. was.later ++ (Called j c ∷ x))
      (ap (λ x. was.earlier ++ x) before.is ∙ sym (append_assoc was.earlier before.more old)))
      ∙ sym (append_assoc after.more was.later (Called j c ∷ ((was.earlier ++ before.more) ++ old)));
}
