-- The acts of a script are acts that the outside may do, and the calls of a rack in memory are those of an honest rack.
use Rattle.std.proofs.Common.{◌≡◌, ℕ, ◌<◌, Bool, true, false, not, ◌&&◌, List, [], ◌∷◌, ◌++◌, length, inl, inr, refl, sym, ap, ◌∙◌, subst, arith, Option, None, Some}
use Rattle.std.specs.Prelude.{is_some, if◌then◌else◌, ◌==◌, nat_lt, unwrap_or}
use Rattle.std.proofs.lemmas.Bool.{cond-true, cond-false, cases_Bool, and_parts, or_parts, not-false, eqb-true, ltb-true, false≢true}
use Rattle.stair_rack.specs.Sector.{Sector, MayLeave}
use Rattle.stair_rack.specs.Media.{has_sector}
use Rattle.stair_rack.specs.Crash.{Settles}
use Rattle.stair_rack.specs.History.{SlotAct, Pulled, InsertedBlank, InsertedOld, SectorDamaged, SlotCall, SlotState, Happening, Made, Stopped, Acted, Called, slot_state, stopped}
use Rattle.stair_rack.specs.History as slot
use Rattle.stair_rack.specs.Outside.{MayHappen, IsAct}
use Rattle.stair_rack.specs.Answers.{IsAnswered, ChangesNothing, Runs, Ran, Calls, Told, Untold, no_call}
use Rattle.stair_rack.proofs.MomentLemmas.{ran_none, ran_join}
use Rattle.stair_rack.proofs.CrashLemmas.{content_left, MayLeave-base}
use Rattle.stair_rack.proofs.OfflineLemmas.{refused}
use Rattle.stair_rack.proofs.CallLemmas.{refused_changes_nothing, attach_changes_nothing}
use Rattle.stair_memrack.specs.declared.act.Act.{Act}
use Rattle.stair_memrack.specs.declared.act.What.{What}
use Rattle.stair_memrack.specs.declared.act.What.TheVariants.{Pull, PullLosing, InsertBlank, InsertOld, Damage, Stop}
use Rattle.stair_memrack.specs.declared.disk.Settling.{Settling}
use Rattle.stair_memrack.specs.declared.disk.Settling.TheVariants.{AsRead, AsSynced}
use Rattle.stair_memrack.specs.declared.record.Call.{Call}
use Rattle.stair_memrack.specs.declared.record.Call.TheVariants as call
use Rattle.stair_rack.specs.declared.rack.Reply.TheVariants as reply
use Rattle.stair_memrack.specs.Script.{kept_of, medium_kept, act_where, pull_of, followed_by, after_what, after_acts}
use Rattle.stair_memrack.specs.Record.{MemRackState, slot_call, recorded, after_late, stopped_by_record, history_of, has_room, moment, with_call, counted, lets_go, without_room, after_call}

-- ACTS

some_size : (size : Option ℕ) → is_some size ≡ true → size ≡ Some (unwrap_or size 0)
some_size None some = absurd (false≢true some)
some_size (Some n) some = refl

no_size : (size : Option ℕ) → not (is_some size) ≡ true → size ≡ None
no_size None none = refl
no_size (Some n) none = absurd (false≢true none)

kept_left : (how : Settling) (s : Sector) → MayLeave s (kept_of how s)
kept_left AsRead s = content_left s
kept_left AsSynced s = MayLeave-base s

settles_kept : (how : Settling) (b : SlotState) → is_some b.size ≡ true → Settles b (medium_kept how b)
settles_kept how b full = record { size = some_size b.size full; each = λ k. kept_left how (b.sector k) }

ran_act : (h : List Happening) (e : Happening) → IsAct h e → Ran no_call h (e ∷ h)
ran_act h e may = record { more = e ∷ []; is = refl; runs = (tt, inl may) }

acted_ran : (h : List Happening) (j : ℕ) (act : SlotAct) (applies : Bool) → (applies ≡ true → MayHappen (slot_state h j) act)
    → Ran no_call h (followed_by (act_where applies j act) h)
acted_ran h j act applies may =
    elim (cases_Bool (nat_lt j 32 && applies)) [
      | inl both ↦
          let parts : (nat_lt j 32 ≡ true) × (applies ≡ true) = and_parts _ _ both in
          subst (λ e. Ran no_call h (followed_by e h)) (sym (cond-true _ (Some (Acted j act)) None both))
          (ran_act h (Acted j act) (ltb-true j 32 parts.0, may parts.1))
      | inr none ↦ subst (λ e. Ran no_call h (followed_by e h)) (sym (cond-false _ (Some (Acted j act)) None none)) (ran_none {allowed = no_call} h)
    ]

pull-ran : (how : Settling) (j : ℕ) (h : List Happening) → Ran no_call h (followed_by (pull_of how j h) h)
pull-ran how j h =
    acted_ran h j (Pulled (medium_kept how (slot_state h j))) (is_some (slot_state h j).size) (λ full. settles_kept how (slot_state h j) full)

pub after_what-ran : (what : What) (h : List Happening) → Ran no_call h (after_what what h)
after_what-ran (Pull j) h = pull-ran AsRead j h
after_what-ran (PullLosing j) h = pull-ran AsSynced j h
after_what-ran (InsertBlank j size) h = acted_ran h j (InsertedBlank size) (not (is_some (slot_state h j).size)) (λ empty. no_size (slot_state h j).size empty)
after_what-ran (InsertOld j i) h =
    acted_ran h j (InsertedOld i) (not (is_some (slot_state h j).size) && nat_lt i (length (slot_state h j).removed))
    (λ may.
    let both : (not (is_some (slot_state h j).size) ≡ true) × (nat_lt i (length (slot_state h j).removed) ≡ true) = and_parts _ _ may in
    (no_size (slot_state h j).size both.0, ltb-true _ _ both.1))
after_what-ran (Damage j k) h = acted_ran h j (SectorDamaged k) (has_sector (slot_state h j).size k) (λ has. has)
after_what-ran Stop h = ran_act h Stopped tt

pub after_acts-ran : (n : ℕ) (acts : List Act) (h : List Happening) → Ran no_call h (after_acts n acts h)
after_acts-ran n [] h = ran_none {allowed = no_call} h
after_acts-ran n (act ∷ acts) h =
    ran_join {allowed = no_call} (one (act.at == n)) (after_acts-ran n acts (if act.at == n then after_what act.what h else h))
  where
    one : (b : Bool) → Ran no_call h (if b then after_what act.what h else h)
    one true = after_what-ran act.what h
    one false = ran_none {allowed = no_call} h

-- CALLS

-- an attach that a stopped rack tells found nothing
pub told_attach : (h : List Happening) (j : ℕ) (call : Call) (b : SlotState) → lets_go call b ≡ true → stopped h ≡ true
    → IsAnswered h j (slot_call call) → slot_call call ≡ slot.Attach reply.Gone
told_attach h j (call.Attach answer) b is stop answered = ap slot.Attach (refused h j (slot.Attach answer) stop answered)
told_attach h j (call.Sectors size) b is stop answered = absurd (false≢true is)
told_attach h j (call.Read k answer) b is stop answered = absurd (false≢true is)
told_attach h j (call.Write k bytes answer) b is stop answered = absurd (false≢true is)
told_attach h j (call.Sync answer) b is stop answered = absurd (false≢true is)

-- and a call that it leaves out changes nothing
pub left_out : (h : List Happening) (j : ℕ) (call : Call) → lets_go call (slot_state h j) ≡ false → stopped h ≡ true
    → IsAnswered h j (slot_call call) → ChangesNothing h j (slot_call call)
left_out h j (call.Attach answer) keeps stop answered =
    let none : ((slot_state h j).attached ≡ false) × (not ((slot_state h j).found == 0) ≡ false) = or_parts _ _ keeps in
    subst (λ a. ChangesNothing h j (slot.Attach a)) (sym (refused h j (slot.Attach answer) stop answered))
    (attach_changes_nothing h j none.0 (eqb-true (slot_state h j).found 0 (not-false _ none.1)))
left_out h j (call.Sectors size) keeps stop answered = refused_changes_nothing h j (slot.Sectors size) stop answered tt
left_out h j (call.Read k answer) keeps stop answered = refused_changes_nothing h j (slot.Read k answer) stop answered tt
left_out h j (call.Write k bytes answer) keeps stop answered = refused_changes_nothing h j (slot.Write k bytes answer) stop answered tt
left_out h j (call.Sync answer) keeps stop answered = refused_changes_nothing h j (slot.Sync answer) stop answered tt

-- THE RECORD IS SPENT

stopped_late : (late : List ℕ) (h : List Happening) → stopped (after_late late h) ≡ stopped h
stopped_late [] h = refl
stopped_late (j ∷ late) h = stopped_late late h

pub record_stops : (s : MemRackState) → stopped (stopped_by_record s) ≡ true
record_stops s = stopped_late s.late (Stopped ∷ recorded s)

pub moment-spent : (s : MemRackState) → has_room s ≡ false → moment s ≡ stopped_by_record s
moment-spent s none = cond-false (has_room s) (after_acts (length s.calls) s.script (recorded s)) (stopped_by_record s) none

-- the rack is stopped where it wasn't, and nothing else happens to it
pub stop_ran : (s : MemRackState) → (s.spent ≡ false → s.late ≡ []) → Ran no_call (history_of s) (stopped_by_record s)
stop_ran s late_only =
    elim (cases_Bool s.spent) [
      | inl spent ↦
          subst (λ h. Ran no_call h (stopped_by_record s)) (sym (cond-true s.spent (stopped_by_record s) (recorded s) spent))
          (ran_none {allowed = no_call} (stopped_by_record s))
      | inr open_ ↦
          subst (λ h. Ran no_call h (stopped_by_record s)) (sym (cond-false s.spent (stopped_by_record s) (recorded s) open_))
          (subst (λ late. Ran no_call (recorded s) (after_late late (Stopped ∷ recorded s))) (sym (late_only open_)) (ran_act (recorded s) Stopped tt))
    ]

pub history-told : (s : MemRackState) (j : ℕ) (call : Call) → has_room s ≡ false → lets_go call (slot_state (moment s) j) ≡ true
    → history_of (after_call j call s) ≡ Called j (slot.Attach reply.Gone) ∷ stopped_by_record s
history-told s j call none is =
    ap (λ t. history_of (counted j call t)) (cond-false _ (with_call j call s) (without_room j call s) none)
    ∙ ap (λ late. after_late late (Stopped ∷ recorded s)) (cond-true _ (j ∷ s.late) s.late is)

pub history-untold : (s : MemRackState) (j : ℕ) (call : Call) → has_room s ≡ false → lets_go call (slot_state (moment s) j) ≡ false
    → history_of (after_call j call s) ≡ stopped_by_record s
history-untold s j call none is =
    ap (λ t. history_of (counted j call t)) (cond-false _ (with_call j call s) (without_room j call s) none)
    ∙ ap (λ late. after_late late (Stopped ∷ recorded s)) (cond-false _ (j ∷ s.late) s.late is)

-- a call for which there was room
pub history-with_room : (s : MemRackState) (j : ℕ) (call : Call) → s.spent ≡ false → has_room s ≡ true
    → history_of (after_call j call s) ≡ Called j (slot_call call) ∷ moment s
history-with_room s j call open_ room =
    ap (λ t. history_of (counted j call t)) (cond-true _ (with_call j call s) (without_room j call s) room)
    ∙ cond-false s.spent _ _ open_
    ∙ ap (λ h. Called j (slot_call call) ∷ h) (sym (cond-true (has_room s) _ (stopped_by_record s) room))

calls_spent : (s : MemRackState) (j : ℕ) (call : Call) → (s.spent ≡ false → s.late ≡ []) → has_room s ≡ false
    → IsAnswered (stopped_by_record s) j (slot_call call) → Calls (history_of s) (history_of (after_call j call s)) j (slot_call call)
calls_spent s j call late_only none answered =
    let ran = stop_ran s late_only in
    let at : IsAnswered (ran.more ++ history_of s) j (slot_call call) = subst (λ h. IsAnswered h j (slot_call call)) ran.is answered in
    let stop : stopped (ran.more ++ history_of s) ≡ true = sym (ap stopped ran.is) ∙ record_stops s in
    elim (cases_Bool (lets_go call (slot_state (moment s) j))) [
      | inl is ↦
          let it = told_attach (stopped_by_record s) j call (slot_state (moment s) j) is (record_stops s) answered in
          Told ran.more ran.runs at
          (history-told s j call none is ∙ ap (λ c. Called j c ∷ stopped_by_record s) (sym it) ∙ ap (λ h. Called j (slot_call call) ∷ h) ran.is)
      | inr is ↦
          let keeps : lets_go call (slot_state (stopped_by_record s) j) ≡ false =
          ap (λ h. lets_go call (slot_state h j)) (sym (moment-spent s none)) ∙ is in
          Untold ran.more ran.runs at stop
          (subst (λ h. ChangesNothing h j (slot_call call)) ran.is (left_out (stopped_by_record s) j call keeps (record_stops s) answered))
          (history-untold s j call none is ∙ ran.is)
    ]

pub calls_of : (s : MemRackState) (j : ℕ) (call : Call) → (s.spent ≡ true → length s.calls ≡ s.room) → (s.spent ≡ false → s.late ≡ [])
    → IsAnswered (moment s) j (slot_call call) → Calls (history_of s) (history_of (after_call j call s)) j (slot_call call)
calls_of s j call spent_only late_only answered =
    elim (cases_Bool (has_room s)) [
      | inl room ↦
          elim (cases_Bool s.spent) [
            | inl spent ↦ absurd (no_room room (spent_only spent))
            | inr open_ ↦
                let now : history_of s ≡ recorded s = cond-false s.spent (stopped_by_record s) (recorded s) open_ in
                let m : moment s ≡ after_acts (length s.calls) s.script (recorded s) = cond-true (has_room s) _ (stopped_by_record s) room in
                let ran = after_acts-ran (length s.calls) s.script (recorded s) in
                let at : moment s ≡ ran.more ++ history_of s = m ∙ ran.is ∙ ap (λ h. ran.more ++ h) (sym now) in
                Told ran.more (subst (λ h. Runs no_call ran.more h) (sym now) ran.runs)
                (subst (λ h. IsAnswered h j (slot_call call)) at answered)
                (history-with_room s j call open_ room ∙ ap (λ h. Called j (slot_call call) ∷ h) at)
          ]
      | inr none ↦ calls_spent s j call late_only none (subst (λ h. IsAnswered h j (slot_call call)) (moment-spent s none) answered)
    ]
  where
    no_room : nat_lt (length s.calls) s.room ≡ true → length s.calls ≡ s.room → ⊥
    no_room room full = let less : length s.calls < s.room = ltb-true _ _ room in omega arith
