-- Which slots answered gone to the reads of a stretch.
use Rattle.std.proofs.Common.{◌≡◌, ℕ, zero, suc, List, inl, inr, refl, sym, ap, ◌∙◌, subst}
use Rattle.stair_model.specs.Device.{gate_sector}
use Rattle.stair_model.specs.Geometry.{Geometry}
use Rattle.stair_model.specs.Slots.{HasSlot, Slots}
use Rattle.stair_model.specs.Stripe.{Stripe}
use Rattle.std.specs.Prelude.{Option}
use Rattle.stair_rack.specs.Answers.{Calls, Ran, any_call, no_call}
use Rattle.stair_rack.specs.History.{Happening, Read}
use Rattle.stair_rack.specs.Reading.{EachBelow}
use Rattle.stair_rack.specs.Stretch.{WasAnswered}
use Rattle.stair_rack.specs.declared.rack.Got.{Got}
use Rattle.stair_rack.specs.declared.rack.Got.TheVariants as got
use Rattle.stair_rack.proofs.MomentLemmas.{IsThis, calls_ran, moment_between, ran_any, ran_join, ran_none}
use Rattle.stair_rack.proofs.StretchLemmas.{answered_allowed}
use Rattle.stair_journal.specs.Reads.{AnswersBad, AnswersGone, Asking, AsksCell, AsksFor, AsksInTurn, AsksRow, AsksUpTo, Given, GoneBefore, NotLive, NotRedone, PassesSlot, ReadOnce, ReadsGate, Redone, Skipped, Ungiven, asking}
use Rattle.stair_journal.specs.declared.redo.Redo.{Redo}
use Rattle.stair_journal.proofs.ToldLemmas.{answered_cases}

-- From one moment to another slots may have been noted as gone, and each that answered gone to a read was.
pub record Tells (old new : Asking) : Type 0 where
  pub ran : Ran any_call old.history new.history
  pub kept : (j : ℕ) → HasSlot old.gone j → HasSlot new.gone j
  pub told : (j k : ℕ) → WasAnswered j (Read k got.Gone) old.history new.history → HasSlot new.gone j

tells_none : (a : Asking) → Tells a a
tells_none a = record {
  ran = ran_none {allowed = any_call} a.history;
  kept = λ j has. has;
  told = λ j k was. absurd (answered_allowed {allowed = no_call} (ran_none {allowed = no_call} a.history) was);
}

tells_same : (a b : Asking) → b ≡ a → Tells a b
tells_same a b same = subst (Tells a) (sym same) (tells_none a)

tells_join : {a b c : Asking} → Tells a b → Tells b c → Tells a c
tells_join {a} {b} {c} first second = record {
  ran = ran_join {allowed = any_call} first.ran second.ran;
  kept = λ j has. second.kept j (first.kept j has);
  told = λ j k was.
      elim (answered_cases (moment_between {a = any_call} {b = any_call} first.ran second.ran) was) [
        | inl sooner ↦ second.kept j (first.told j k sooner)
        | inr later ↦ second.told j k later
      ];
}

tells_each : {step : ℕ → Asking → Asking → Type 0} → ((i : ℕ) (a b : Asking) → step i a b → Tells a b) → (n : ℕ) (a b : Asking)
    → EachBelow step n a b → Tells a b
tells_each each zero a b same = tells_same a b same
tells_each {step} each (suc n) a b turns = tells_join (tells_each {step = step} each n a turns.0 turns.1) (each n turns.0 b turns.2)

-- one read that was answered so
tells_read : (a b : Asking) (j k : ℕ) (answer : Got) → Calls a.history b.history j (Read k answer) → ((i : ℕ) → HasSlot a.gone i → HasSlot b.gone i)
    → (answer ≡ got.Gone → HasSlot b.gone j) → Tells a b
tells_read a b j k answer called kept gone = record {
  ran = ran_any {allowed = IsThis j (Read k answer)} (calls_ran called);
  kept = kept;
  told = λ i l was.
      let this = answered_allowed {allowed = IsThis j (Read k answer)} (calls_ran called) was in
      let call : Read l got.Gone ≡ Read k answer = this.1 in
      let is_gone : answer ≡ got.Gone = cc in
      subst (HasSlot b.gone) (sym this.0) (gone is_gone);
}

-- GATES

gate_tells : (live gone : Slots) (j : ℕ) (a b : Asking) → a.gone ≡ gone → b.gone ≡ gone → ReadsGate live gone j a.history b.history → Tells a b
gate_tells live gone j a b same same' (Skipped off none) = tells_same a b (λ i. record { gone = (same' ∙ sym same) i; history = none i })
gate_tells live gone j a b same same' (ReadOnce on answer exactly called) =
    tells_read a b j gate_sector answer called (λ i has. subst (λ (s : Slots). HasSlot s i) (same ∙ sym same') has)
    (λ is. subst (λ (s : Slots). HasSlot s j) (sym same') (exactly.0 is))

gates_tell : (live gone : Slots) (n : ℕ) (old new : List Happening) → EachBelow (ReadsGate live gone) n old new
    → Tells (asking gone old) (asking gone new)
gates_tell live gone zero old new same = tells_same (asking gone old) (asking gone new) (ap (asking gone) same)
gates_tell live gone (suc n) old new turns =
    tells_join (gates_tell live gone n old turns.0 turns.1)
    (gate_tells live gone n (asking gone turns.0) (asking gone new) refl refl turns.2)

-- where the gates were read one after the other
pub gates_told : (live gone : Slots) (old new : List Happening) → EachBelow (ReadsGate live gone) 32 old new → (j k : ℕ)
    → WasAnswered j (Read k got.Gone) old new → HasSlot gone j
gates_told live gone old new turns = (gates_tell live gone 32 old new turns).told

-- THE BODY

passes_tell : (live : Slots) (k j : ℕ) (a b : Asking) → PassesSlot live k j a b → Tells a b
passes_tell live k j a b (NotLive off same) = tells_same a b same
passes_tell live k j a b (GoneBefore was same) = tells_same a b same
passes_tell live k j a b (AnswersBad there called same) =
    tells_read a b j k got.Bad called (λ i has. subst (λ (s : Slots). HasSlot s i) (sym same) has) (λ is. absurd (cc))
passes_tell live k j a b (AnswersGone there called gone) =
    tells_read a b j k got.Gone called (λ i has. (gone i).1 (inl has)) (λ is. (gone j).1 (inr refl))

asks_tell : (live : Slots) (k : ℕ) (bytes : List ℕ) (a b : Asking) → AsksUpTo live k bytes a b → Tells a b
asks_tell live k bytes a b asks =
    tells_join (tells_each {step = PassesSlot live k} (passes_tell live k) asks.slot a asks.mid asks.lower)
    (tells_read asks.mid b asks.slot k got.Good asks.read.called
    (λ i has. subst (λ (s : Slots). HasSlot s i) (sym asks.read.gone) has) (λ is. absurd (cc)))

module _ (g : Geometry) (live : Slots) (redo : Redo) (unread : Option ℕ) (was into : Stripe) where
  cell_tells : (i c : ℕ) (a b : Asking) → AsksFor g live redo unread was into i c a b → Tells a b
  cell_tells i c a b (Given asks other) = asks_tell live _ _ a b asks
  cell_tells i c a b (Ungiven passes left upto) = tells_each {step = PassesSlot live _} (passes_tell live _) 32 a b passes

  asked_tells : (i c : ℕ) (a b : Asking) → AsksCell g live redo unread was into i c a b → Tells a b
  asked_tells i c a b (NotRedone none same) = tells_same a b same
  asked_tells i c a b (Redone has asks) = cell_tells i c a b asks

  row_tells : (i : ℕ) (a b : Asking) → AsksRow g live redo unread was into i a b → Tells a b
  row_tells i a b row = tells_each {step = AsksCell g live redo unread was into i} (asked_tells i) g.n a b row

  -- where the cells were asked for one after the other
  pub body_told : (a b : Asking) → AsksInTurn g live redo unread was into a b → (j k : ℕ) → WasAnswered j (Read k got.Gone) a.history b.history
      → HasSlot b.gone j
  body_told a b turns = (tells_each {step = AsksRow g live redo unread was into} row_tells g.r a b turns).told
