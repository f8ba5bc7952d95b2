-- Telling the events of an array's news one after the other.
use Rattle.std.proofs.Common.{Option, ◌≡◌, ◌≤◌, ℕ, ◌+◌, suc, zero, List, [], ◌∷◌, ◌++◌, ap, arith, get_or, inl, inr, length, length-append, refl, subst, sym, take, ◌∙◌}
use Rattle.std.specs.Prelude.{None, Some}
use Rattle.std.specs.List.{slice_get}
use Rattle.std.proofs.lemmas.Bool.{cases_Bool, cond-false, cond-true}
use Rattle.std.proofs.lemmas.List.{take_all, take_more}
use Rattle.std.proofs.lemmas.Option.{same_Some, slice_get-get_or, slice_get_cases, slice_get_within}
use Rattle.stair_model.specs.Slots.{Slots, has_slot}
use Rattle.stair_rack.specs.Watching.{WatcherView}
use Rattle.stair_rack.specs.declared.watcher.Event.{Event}
use Rattle.stair_rack.specs.declared.watcher.Event.TheVariants as event
use Rattle.stair_array.specs.News.{admission_in, events_in, fenced_in, other_events, promotion_in, repair_in}
use Rattle.stair_array.specs.declared.news.News.{News}
use Rattle.stair_watch.specs.WatcherList.{AllStay, Tells, TellsAll}
use Rattle.stair_watch.proofs.WatchLemmas.{stay_after, told_then}

-- the first of the events were told
pub record HasTold {W : Type 0} (view : WatcherView W) (events : List Event) (old : List W)
    (count : ℕ) (now : List W) : Type 0 where
  pub told : TellsAll view (take count events) old now
  pub stay : AllStay view now

module _ {W : Type 0} (view : WatcherView W) (events : List Event) (old : List W) where
  pub told_none : AllStay view old → HasTold view events old 0 old
  told_none stay = record { told = refl; stay = stay }

  pub told_one_more : (event : Event) (at : ℕ) (mid new : List W) → HasTold view events old at mid → slice_get events at ≡ Some event
      → Tells view event mid new → HasTold view events old (at + 1) new
  told_one_more event at mid new before is tells =
      let within = slice_get_within events at event is in
      let same : Some (get_or events at event) ≡ Some event = sym (slice_get-get_or events at event within) ∙ is in
      record {
        told = subst (λ (told : List Event). TellsAll view told old new)
            (sym (take_more events at event within ∙ ap (λ (last : Event). take at events ++ last ∷ []) (same_Some _ _ same)))
            (told_then view (take at events) (event ∷ []) old mid new before.told (new, tells, refl));
        stay = stay_after view event mid new tells;
      }

  pub told_all : (count : ℕ) (now : List W) → HasTold view events old count now → length events ≤ count → TellsAll view events old now
  told_all count now before long = subst (λ (told : List Event). TellsAll view told old now) (take_all count events long) before.told

-- past the last event there is none
pub none_past : (events : List Event) (at : ℕ) → slice_get events at ≡ None → length events ≤ at
none_past events at none =
    elim ((slice_get_cases events at).1) [
      | inl has ↦ let no : Some has.0 ≡ None = sym has.2 ∙ none in cc
      | inr past ↦ past.0
    ]

-- HOW MANY

few_fenced : (set : Slots) (n first : ℕ) → length (fenced_in first n set) ≤ n
few_fenced set zero first = omega arith
few_fenced set (suc n) first =
    elim (cases_Bool (has_slot set first)) [
      | inl has ↦ omega (arith, few_fenced set n (first + 1), ap length (cond-true (has_slot set first) (event.Fenced first ∷ fenced_in (first + 1) n set) (fenced_in (first + 1) n set) has))
      | inr not ↦ omega (arith, few_fenced set n (first + 1), ap length (cond-false (has_slot set first) (event.Fenced first ∷ fenced_in (first + 1) n set) (fenced_in (first + 1) n set) not))
    ]

few_repairs : (repaired : Option (ℕ × ℕ)) → length (repair_in repaired) ≤ 1
few_repairs None = omega arith
few_repairs (Some (t, zero)) = omega arith
few_repairs (Some (t, suc k)) = omega arith

few_admissions : (admitted : Option ℕ) → length (admission_in admitted) ≤ 1
few_admissions None = omega arith
few_admissions (Some j) = omega arith

few_promotions : (promoted : Option ℕ) → length (promotion_in promoted) ≤ 1
few_promotions None = omega arith
few_promotions (Some j) = omega arith

pub events_few : (news : News) → length (events_in news) ≤ 35
events_few news =
    omega (
      arith,
      few_fenced news.fenced 32 0,
      few_repairs news.repaired,
      few_admissions news.admitted,
      few_promotions news.promoted,
      length-append (fenced_in 0 32 news.fenced) (other_events news),
      length-append (repair_in news.repaired) (admission_in news.admitted ++ promotion_in news.promoted),
      length-append (admission_in news.admitted) (promotion_in news.promoted),
    )
