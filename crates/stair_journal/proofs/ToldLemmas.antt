-- Which slots answered gone to the writes and the syncs of a stretch.
use Rattle.std.proofs.Common.{◌≡◌, ℕ, Bool, true, false, List, [], ◌∷◌, ◌++◌, ◌⊎◌, inl, inr, refl, sym, ap, ◌∙◌, subst}
use Rattle.std.specs.Prelude.{IsTrue, not}
use Rattle.stair_model.specs.Slots.{Slots, HasSlot, has_slot}
use Rattle.stair_rack.specs.Answers.{Calls, Ran, no_call, reply_if}
use Rattle.stair_rack.specs.History.{Called, Happening, SlotCall, Sync, Write}
use Rattle.stair_rack.specs.Moments.{IsMoment}
use Rattle.stair_rack.specs.Passes.{Turns, Wrote}
use Rattle.stair_rack.specs.Placed.{EndsPhase, IsGoneSlot}
use Rattle.stair_rack.specs.Stretch.{WasAnswered}
use Rattle.stair_rack.specs.declared.rack.Reply.{Reply}
use Rattle.stair_rack.specs.declared.rack.Reply.TheVariants as reply
use Rattle.stair_rack.proofs.MomentLemmas.{IsThis, calls_ran, moment_between, moment_cases, ran_none}
use Rattle.stair_rack.proofs.PhaseCounts.{done_not_gone}
use Rattle.stair_rack.proofs.StretchLemmas.{answered_allowed}
use Rattle.stair_rack.proofs.TurnLemmas.{IsTurn, turns_ran}
use Rattle.stair_journal.specs.Phases.{AnswersGone}

-- a slot that answered gone to a write or a sync between these moments is one of these
abbrev pub AreGone : (ℕ → Type 0) → List Happening → List Happening → Type 0
AreGone gone old new = (j : ℕ) (call : SlotCall) → WasAnswered j call old new → AnswersGone call → gone j

pub are_gone_none : (gone : ℕ → Type 0) (h : List Happening) → AreGone gone h h
are_gone_none gone h j call was is = absurd (answered_allowed {allowed = no_call} (ran_none h) was)

pub are_gone_wider : {gone more : ℕ → Type 0} {old new : List Happening} → ((j : ℕ) → gone j → more j) → AreGone gone old new
    → AreGone more old new
are_gone_wider within told j call was is = within j (told j call was is)

-- a call that was answered in two stretches was answered in one of them
pub answered_cases : {j : ℕ} {call : SlotCall} {old mid new : List Happening} → IsMoment old mid new → WasAnswered j call old new
    → WasAnswered j call old mid ⊎ WasAnswered j call mid new
answered_cases {j} {call} {old} {mid} {new} at was =
    elim (moment_cases here at) [
      | inl sooner ↦ inl (record { earlier = was.earlier; later = sooner.later; is = sooner.to })
      | inr later ↦ from later.before later.later later.from later.to
    ]
  where
    here : IsMoment old (Called j call ∷ (was.earlier ++ old)) new
    here = record { before = Called j call ∷ was.earlier; later = was.later; from = refl; to = was.is }

    from : (before later : List Happening) → Called j call ∷ (was.earlier ++ old) ≡ before ++ mid
        → new ≡ later ++ (Called j call ∷ (was.earlier ++ old)) → WasAnswered j call old mid ⊎ WasAnswered j call mid new
    from [] later is to = inl (record { earlier = was.earlier; later = []; is = sym is })
    from (e ∷ before) later is to =
        let first : Called j call ≡ e = cc in
        inr (record { earlier = before; later = later; is = to ∙ ap (λ x. later ++ x) (is ∙ ap (λ x. x ∷ (before ++ mid)) (sym first)) })

-- one stretch, and then another
pub are_gone_then : {a b : ℕ → SlotCall → Type 0} {first second gone : ℕ → Type 0} {old mid new : List Happening} → Ran a old mid → Ran b mid new
    → ((j : ℕ) → first j → gone j) → ((j : ℕ) → second j → gone j) → AreGone first old mid → AreGone second mid new
    → AreGone gone old new
are_gone_then before after sooner later told told' j call was is =
    elim (answered_cases (moment_between before after) was) [
      | inl was_sooner ↦ sooner j (told j call was_sooner is)
      | inr was_later ↦ later j (told' j call was_later is)
    ]

-- ONE SLOT

pub are_gone_write : (slot sector : ℕ) (bytes : List ℕ) (answer : Reply) (old new : List Happening) → Calls old new slot (Write sector bytes answer)
    → AreGone (IsGoneSlot slot answer) old new
are_gone_write slot sector bytes answer old new called j call was is =
    let this = answered_allowed {allowed = IsThis slot (Write sector bytes answer)} (calls_ran called) was in
    (this.0, subst AnswersGone this.1 is)

-- writes that were done, and then others
pub slot_told : {a b : ℕ → SlotCall → Type 0} {slot : ℕ} {answer : Reply} {old mid new : List Happening} → Ran a old mid → Ran b mid new
    → AreGone (IsGoneSlot slot reply.Done) old mid → AreGone (IsGoneSlot slot answer) mid new → AreGone (IsGoneSlot slot answer) old new
slot_told before after = are_gone_then before after (λ j is. absurd (done_not_gone j is)) (λ j is. is)

-- EVERY SLOT

reply_gone : (b : Bool) → reply_if (not b) ≡ reply.Gone → IsTrue b
reply_gone true is = refl
reply_gone false is = absurd (cc)

pub are_gone_turns : (call : Reply → SlotCall) (to gone : Slots) (n : ℕ) (old new : List Happening)
    → ((answer : Reply) → AnswersGone (call answer) → answer ≡ reply.Gone) → Turns call to gone n old new → AreGone (HasSlot gone) old new
are_gone_turns call to gone n old new says turns j event was is =
    let turn = answered_allowed {allowed = IsTurn call to gone n} (turns_ran call to gone n old new turns) was in
    reply_gone (has_slot gone j) (says _ (subst AnswersGone turn.is is))

pub are_gone_wrote : {to gone : Slots} {k : ℕ} {bytes : List ℕ} {old new : List Happening} → Wrote to gone k bytes old new
    → AreGone (HasSlot gone) old new
are_gone_wrote {to} {gone} {k} {bytes} {old} {new} wrote = are_gone_turns (Write k bytes) to gone 32 old new (λ answer is. is) wrote.turns

-- writes to which those in `gone` were gone, and the end
pub are_gone_ended : {a : ℕ → SlotCall → Type 0} {to gone all : Slots} {old mid new : List Happening} → Ran a old mid
    → AreGone (HasSlot gone) old mid → EndsPhase to gone all mid new → AreGone (HasSlot all) old new
are_gone_ended {to = to} {gone = gone} {all = all} {mid = mid} {new = new} before told ended =
    are_gone_then before ended.settled.ran (λ j has. (ended.all_are j).1 (inl has)) (λ j has. (ended.all_are j).1 (inr has)) told
    (are_gone_turns Sync ended.rest ended.last 32 mid new (λ answer is. is) ended.settled.turns)
