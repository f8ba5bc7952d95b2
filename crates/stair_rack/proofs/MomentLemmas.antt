-- Stretches of a history that join, and the moments in them.
use Rattle.std.proofs.Common.{◌≡◌, ℕ, List, [], ◌∷◌, ◌++◌, ◌⊎◌, inl, inr, refl, sym, ap, ◌∙◌, subst, append_assoc}
use Rattle.std.proofs.lemmas.List.{append_cancel_right}
use Rattle.stair_rack.specs.History.{SlotCall, Happening, Made, Stopped, Acted, Called}
use Rattle.stair_rack.specs.Outside.{IsAct}
use Rattle.stair_rack.specs.Answers.{IsCall, Runs, Ran, Calls, Told, Untold, no_call, any_call}
use Rattle.stair_rack.specs.Moments.{IsMoment, AtSomeMoment, Throughout, AtEveryMoment}

-- RUNS

pub runs_join : (allowed : ℕ → SlotCall → Type 0) (b a old : List Happening) → Runs allowed a old → Runs allowed b (a ++ old)
    → Runs allowed (b ++ a) old
runs_join allowed [] a old first second = first
runs_join allowed (e ∷ b) a old first second = (
  runs_join allowed b a old first second.0,
  subst (λ h. IsAct h e ⊎ IsCall allowed h e) (sym (append_assoc b a old)) second.1,
)

-- a run up to a moment of it, and from there on
pub runs_before : (allowed : ℕ → SlotCall → Type 0) (b a old : List Happening) → Runs allowed (b ++ a) old → Runs allowed a old
runs_before allowed [] a old runs = runs
runs_before allowed (e ∷ b) a old runs = runs_before allowed b a old runs.0

pub runs_after : (allowed : ℕ → SlotCall → Type 0) (b a old : List Happening) → Runs allowed (b ++ a) old → Runs allowed b (a ++ old)
runs_after allowed [] a old runs = tt
runs_after allowed (e ∷ b) a old runs =
    (runs_after allowed b a old runs.0, subst (λ h. IsAct h e ⊎ IsCall allowed h e) (append_assoc b a old) runs.1)

call_weakened : (allowed more : ℕ → SlotCall → Type 0) → ((j : ℕ) (c : SlotCall) → allowed j c → more j c) → (h : List Happening) (e : Happening)
    → IsAct h e ⊎ IsCall allowed h e → IsAct h e ⊎ IsCall more h e
call_weakened allowed more within h e (inl act) = inl act
call_weakened allowed more within h (Made image) (inr call) = absurd call
call_weakened allowed more within h Stopped (inr call) = absurd call
call_weakened allowed more within h (Acted j a) (inr call) = absurd call
call_weakened allowed more within h (Called j c) (inr call) = inr (within j c call.0, call.1)

pub runs_weakened : (allowed more : ℕ → SlotCall → Type 0) → ((j : ℕ) (c : SlotCall) → allowed j c → more j c) → (a old : List Happening)
    → Runs allowed a old → Runs more a old
runs_weakened allowed more within [] old runs = tt
runs_weakened allowed more within (e ∷ a) old runs =
    (runs_weakened allowed more within a old runs.0, call_weakened allowed more within (a ++ old) e runs.1)

pub ran_none : {allowed : ℕ → SlotCall → Type 0} (h : List Happening) → Ran allowed h h
ran_none h = record { more = []; is = refl; runs = tt }

pub ran_join : {allowed : ℕ → SlotCall → Type 0} {old mid new : List Happening} → Ran allowed old mid → Ran allowed mid new → Ran allowed old new
ran_join {allowed} {old} {mid} {new} first second = record {
  more = second.more ++ first.more;
  is = second.is ∙ ap (λ h. second.more ++ h) first.is ∙ sym (append_assoc second.more first.more old);
  runs = runs_join allowed second.more first.more old first.runs (subst (λ h. Runs allowed second.more h) first.is second.runs);
}

pub ran_weakened : {allowed more : ℕ → SlotCall → Type 0} {old new : List Happening} → ((j : ℕ) (c : SlotCall) → allowed j c → more j c)
    → Ran allowed old new → Ran more old new
ran_weakened {allowed} {more} {old} within ran = record { more = ran.more; is = ran.is; runs = runs_weakened allowed more within ran.more old ran.runs }

pub ran_any : {allowed : ℕ → SlotCall → Type 0} {old new : List Happening} → Ran allowed old new → Ran any_call old new
ran_any {allowed} ran = ran_weakened {allowed = allowed} {more = any_call} (λ j c may. tt) ran

-- acts of the outside alone are a run of any calls
pub ran_acts : {allowed : ℕ → SlotCall → Type 0} (acts old : List Happening) → Runs no_call acts old → Ran allowed old (acts ++ old)
ran_acts {allowed} acts old runs =
    record { more = acts; is = refl; runs = runs_weakened no_call allowed (λ j c may. absurd may) acts old runs }

-- one call is a run of it
abbrev pub IsThis : ℕ → SlotCall → ℕ → SlotCall → Type 0
IsThis j c i d = (i ≡ j) × (d ≡ c)

pub calls_ran : {old new : List Happening} {j : ℕ} {c : SlotCall} → Calls old new j c → Ran (IsThis j c) old new
calls_ran {old} {new} {j} {c} (Told acts runs answered is) = record {
  more = Called j c ∷ acts;
  is = is;
  runs = (runs_weakened no_call (IsThis j c) (λ i d may. absurd may) acts old runs, inr ((refl, refl), answered));
}
calls_ran {old} {new} {j} {c} (Untold acts runs answered is_stopped nothing is) =
    record { more = acts; is = is; runs = runs_weakened no_call (IsThis j c) (λ i d may. absurd may) acts old runs }

-- MOMENTS

pub moment_first : {old new : List Happening} (more : List Happening) → new ≡ more ++ old → IsMoment old old new
moment_first more is = record { before = []; later = more; from = refl; to = is }

pub moment_last : {old new : List Happening} (more : List Happening) → new ≡ more ++ old → IsMoment old new new
moment_last more is = record { before = more; later = []; from = is; to = refl }

-- a moment of a stretch up to a moment of a longer one, and of one from there on, is a moment of that one
pub moment_sooner : {old h mid new : List Happening} → IsMoment old h mid → IsMoment old mid new → IsMoment old h new
moment_sooner {old} {h} {mid} {new} is upto = record {
  before = is.before;
  later = upto.later ++ is.later;
  from = is.from;
  to = upto.to ∙ ap (λ x. upto.later ++ x) is.to ∙ sym (append_assoc upto.later is.later h);
}

pub moment_later : {old h mid new : List Happening} → IsMoment old mid new → IsMoment mid h new → IsMoment old h new
moment_later {old} {h} {mid} {new} from is = record {
  before = is.before ++ from.before;
  later = is.later;
  from = is.from ∙ ap (λ x. is.before ++ x) from.from ∙ sym (append_assoc is.before from.before old);
  to = is.to;
}

-- a run up to a moment of it, and from there on
pub ran_before : {allowed : ℕ → SlotCall → Type 0} {old h new : List Happening} → Ran allowed old new → IsMoment old h new → Ran allowed old h
ran_before {allowed} {old} {h} {new} ran at =
    let same : ran.more ≡ at.later ++ at.before =
    append_cancel_right ran.more (at.later ++ at.before) old
    (sym ran.is ∙ at.to ∙ ap (λ x. at.later ++ x) at.from ∙ sym (append_assoc at.later at.before old)) in
    record {
      more = at.before;
      is = at.from;
      runs = runs_before allowed at.later at.before old (subst (λ m. Runs allowed m old) same ran.runs);
    }

pub ran_after : {allowed : ℕ → SlotCall → Type 0} {old h new : List Happening} → Ran allowed old new → IsMoment old h new → Ran allowed h new
ran_after {allowed} {old} {h} {new} ran at =
    let same : ran.more ≡ at.later ++ at.before =
    append_cancel_right ran.more (at.later ++ at.before) old
    (sym ran.is ∙ at.to ∙ ap (λ x. at.later ++ x) at.from ∙ sym (append_assoc at.later at.before old)) in
    let later = runs_after allowed at.later at.before old (subst (λ m. Runs allowed m old) same ran.runs) in
    record { more = at.later; is = at.to; runs = subst (λ x. Runs allowed at.later x) (sym at.from) later }

-- where a run ends and another begins is a moment of both
pub moment_between : {a b : ℕ → SlotCall → Type 0} {old mid new : List Happening} → Ran a old mid → Ran b mid new → IsMoment old mid new
moment_between first second = record { before = first.more; later = second.more; from = first.is; to = second.is }

-- a moment of a stretch is one of each longer stretch
pub moment_wider : {a b : ℕ → SlotCall → Type 0} {old mid h new later : List Happening} → Ran a old mid → Ran b new later → IsMoment mid h new
    → IsMoment old h later
moment_wider {old = old} {h = h} before after at = record {
  before = at.before ++ before.more;
  later = after.more ++ at.later;
  from = at.from ∙ ap (λ x. at.before ++ x) before.is ∙ sym (append_assoc at.before before.more old);
  to = after.is ∙ ap (λ x. after.more ++ x) at.to ∙ sym (append_assoc after.more at.later h);
}

-- AT SOME MOMENT

-- it is one of a longer stretch too
pub at_some_wider : {a b : ℕ → SlotCall → Type 0} {P : List Happening → Type 0} {old mid new later : List Happening} → Ran a old mid → Ran b new later
    → AtSomeMoment P mid new → AtSomeMoment P old later
at_some_wider before after some = record { moment = some.moment; is_one = moment_wider before after some.is_one; holds = some.holds }

pub at_end : {a : ℕ → SlotCall → Type 0} {P : List Happening → Type 0} {old new : List Happening} → Ran a old new → P new → AtSomeMoment P old new
at_end {new = new} ran here = record { moment = new; is_one = moment_last ran.more ran.is; holds = here }

pub at_start : {a : ℕ → SlotCall → Type 0} {P : List Happening → Type 0} {old new : List Happening} → Ran a old new → P old → AtSomeMoment P old new
at_start {old = old} ran here = record { moment = old; is_one = moment_first ran.more ran.is; holds = here }

-- with what holds at every moment
pub at_some_mapped : {P Q : List Happening → Type 0} {old new : List Happening} → ((h : List Happening) → IsMoment old h new → P h → Q h)
    → AtSomeMoment P old new → AtSomeMoment Q old new
at_some_mapped within some = record { moment = some.moment; is_one = some.is_one; holds = within some.moment some.is_one some.holds }

-- of two moments of a stretch one comes first
pub moment_cases : {old h mid new : List Happening} → IsMoment old h new → IsMoment old mid new → IsMoment old h mid ⊎ IsMoment mid h new
moment_cases {old} {h} {mid} {new} at at' =
    let same : at.later ++ h ≡ at'.later ++ mid = sym at.to ∙ at'.to in
    elim (split at.later at'.later h mid same) [
      | inl s ↦ inr (record { before = s.0; later = at.later; from = s.1; to = at.to })
      | inr s ↦ inl (record { before = at.before; later = s.0; from = at.from; to = s.1 })
    ]
  where
    split : (x y h mid : List Happening) → x ++ h ≡ y ++ mid → ((z : List Happening) × (h ≡ z ++ mid)) ⊎ ((z : List Happening) × (mid ≡ z ++ h))
    split [] y h mid same = inl (y, same)
    split (e ∷ x) [] h mid same = inr (e ∷ x, sym same)
    split (e ∷ x) (d ∷ y) h mid same = let tail : x ++ h ≡ y ++ mid = cc in split x y h mid tail

-- AT EVERY MOMENT

pub throughout_join : (P : List Happening → Type 0) (b a old : List Happening) → Throughout P a old → Throughout P b (a ++ old) → Throughout P (b ++ a) old
throughout_join P [] a old first second = first
throughout_join P (e ∷ b) a old first second =
    (subst P (ap (λ h. e ∷ h) (sym (append_assoc b a old))) second.0, throughout_join P b a old first second.1)

pub at_every_join : {P : List Happening → Type 0} {old mid new : List Happening} → AtEveryMoment P old mid → AtEveryMoment P mid new → AtEveryMoment P old new
at_every_join {P} {old} {mid} {new} first second = record {
  more = second.more ++ first.more;
  is = second.is ∙ ap (λ h. second.more ++ h) first.is ∙ sym (append_assoc second.more first.more old);
  each = throughout_join P second.more first.more old first.each (subst (λ h. Throughout P second.more h) first.is second.each);
}

pub at_every_none : {P : List Happening → Type 0} (h : List Happening) → P h → AtEveryMoment P h h
at_every_none h here = record { more = []; is = refl; each = here }

throughout_at : (P : List Happening → Type 0) (b a old : List Happening) → Throughout P (b ++ a) old → P (a ++ old)
throughout_at P [] [] old each = each
throughout_at P [] (e ∷ a) old each = each.0
throughout_at P (e ∷ b) a old each = throughout_at P b a old each.1

-- it holds at each moment of the stretch
pub at_moment : {P : List Happening → Type 0} {old h new : List Happening} → AtEveryMoment P old new → IsMoment old h new → P h
at_moment {P} {old} {h} {new} every at =
    let same : every.more ≡ at.later ++ at.before =
    append_cancel_right every.more (at.later ++ at.before) old
    (sym every.is ∙ at.to ∙ ap (λ x. at.later ++ x) at.from ∙ sym (append_assoc at.later at.before old)) in
    subst P (sym at.from) (throughout_at P at.later at.before old (subst (λ m. Throughout P m old) same every.each))

pub at_first : {P : List Happening → Type 0} {old new : List Happening} → AtEveryMoment P old new → P old
at_first every = at_moment every (moment_first every.more every.is)

pub at_last : {P : List Happening → Type 0} {old new : List Happening} → AtEveryMoment P old new → P new
at_last every = at_moment every (moment_last every.more every.is)

throughout_from : (P : List Happening → Type 0) (a old : List Happening) → ((b c : List Happening) → a ≡ c ++ b → P (b ++ old)) → Throughout P a old
throughout_from P [] old each = each [] [] refl
throughout_from P (e ∷ a) old each =
    (each (e ∷ a) [] refl, throughout_from P a old (λ b c is. each b (e ∷ c) (ap (λ x. e ∷ x) is)))

-- what holds at each moment holds at every one
pub at_every_from : {P : List Happening → Type 0} {old new : List Happening} (more : List Happening) → new ≡ more ++ old
    → ((h : List Happening) → IsMoment old h new → P h) → AtEveryMoment P old new
at_every_from {P} {old} {new} more is each = record {
  more = more;
  is = is;
  each =
      throughout_from P more old
      (λ b c split. each (b ++ old) (record {
        before = b;
        later = c;
        from = refl;
        to = is ∙ ap (λ x. x ++ old) split ∙ append_assoc c b old;
      }));
}

pub at_every_mapped : {P Q : List Happening → Type 0} {old new : List Happening} → ((h : List Happening) → P h → Q h) → AtEveryMoment P old new → AtEveryMoment Q old new
at_every_mapped {P} {Q} within every = at_every_from {P = Q} every.more every.is (λ h at. within h (at_moment {P = P} every at))
