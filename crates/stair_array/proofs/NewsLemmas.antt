-- The events of news, one by one, and what they are where only slots became Down.
use Rattle.std.proofs.Common.{Option, ◌≡◌, ◌<◌, ◌≤◌, ℕ, suc, ap, arith, inl, inr, refl, subst, sym, ◌∙◌, ◌+◌, ◌-◌}
use Rattle.std.specs.Prelude.{false, not, ◌&&◌, IsOk, IsTrue, List, ◌∷◌, ◌++◌, ◌≢◌, ◌↔◌, Some, None, Ok, Err, zero, if◌then◌else◌}
use Rattle.std.specs.List.{slice_get}
use Rattle.std.proofs.lemmas.Bool.{cond-false, cond-true, false≢true, false_from_ne_true}
use Rattle.std.proofs.lemmas.List.{length-replicate}
use Rattle.stair_model.specs.Slots.{HasSlot, IsSlotSet, Slots, has_slot, no_slots}
use Rattle.stair_model.proofs.SetLaws.{has_slot-none, same_slots, same_test}
use Rattle.stair_rack.specs.declared.watcher.Event.{Event}
use Rattle.stair_rack.specs.declared.watcher.Event.TheVariants as event
use Rattle.stair_super.specs.Superblock.{mark_in}
use Rattle.stair_super.specs.declared.configuration.Configuration.{Configuration}
use Rattle.stair_super.specs.declared.mark.Mark.{Mark}
use Rattle.stair_super.specs.declared.mark.Mark.TheVariants.{Down, Live, Rebuilding}
use Rattle.stair_array.specs.Events.{events_of, events_of_answer, fenced_from, is_down}
use Rattle.stair_array.specs.Machine.{Answer, Chunk, Dropped, LookAtSeats, Nothing, Promoted, ReadBlock, RebuildNext, Recover, ReplaceSlot, ScrubStripe, SetFrozen, SetLabel, Step, Step, WriteBlocks}
use Rattle.stair_array.specs.News.{AddsFallen, AddsNews, Fell, admission_in, admitted_after, events_in, fenced_in, no_news, other_events, promoted_after, promotion_in, repair_in, repaired_after}
use Rattle.stair_array.specs.declared.news.News.{News}

-- a set without slots
pub nothing_new : (set : Slots) → IsSlotSet set → ((j : ℕ) → ¬ HasSlot set j)
    → record { fenced = set; repaired = None; admitted = None; promoted = None } ≡ no_news
nothing_new set formed none =
    let same : set ≡ no_slots =
    same_slots set no_slots formed (length-replicate 32 false)
    (λ j. (λ has. absurd (none j has), λ has. absurd (false≢true (sym (has_slot-none j) ∙ has)))) in
    ap (λ (s : Slots). let news : News = record { fenced = s; repaired = None; admitted = None; promoted = None } in news) same

-- THE EVENTS OF SLOTS

-- the first of so many slots, and the others
pub fenced_step : (set : Slots) (first next n : ℕ) → n ≡ next + 1
    → fenced_in first n set
    ≡ (if has_slot set first then event.Fenced first ∷ fenced_in (first + 1) next set else fenced_in (first + 1) next set)
fenced_step set first next n is = let e : n ≡ suc next = omega (arith, is) in rw e refl

pub fenced_one : (set : Slots) (first next n : ℕ) → n ≡ next + 1 → HasSlot set first
    → fenced_in first n set ≡ event.Fenced first ∷ fenced_in (first + 1) next set
fenced_one set first next n is has = fenced_step set first next n is ∙ cond-true _ _ _ has

pub fenced_none : (set : Slots) (first next n : ℕ) → n ≡ next + 1 → ¬ HasSlot set first
    → fenced_in first n set ≡ fenced_in (first + 1) next set
fenced_none set first next n is has_not = fenced_step set first next n is ∙ cond-false _ _ _ (false_from_ne_true _ has_not)

pub event_past : (x : Event) (xs : List Event) (at : ℕ) → at ≢ 0 → slice_get (x ∷ xs) at ≡ slice_get xs (at - 1)
event_past x xs zero past = absurd (past refl)
event_past x xs (suc k) past = let e : suc k - 1 ≡ k = omega arith in rw e refl

-- of the events from this slot on: the first, a later one, and any where the slot isn't in the set
module _ (set : Slots) (rest : List Event) (first next n : ℕ) (is : n ≡ next + 1) where
  pub event_here : HasSlot set first → (at : ℕ) → at ≡ 0 → slice_get (fenced_in first n set ++ rest) at ≡ Some (event.Fenced first)
  event_here has at zeroth = rw (fenced_one set first next n is has, zeroth) refl

  pub event_later : HasSlot set first → (at : ℕ) → at ≢ 0
      → slice_get (fenced_in first n set ++ rest) at ≡ slice_get (fenced_in (first + 1) next set ++ rest) (at - 1)
  event_later has at past =
      rw (fenced_one set first next n is has) (event_past (event.Fenced first) (fenced_in (first + 1) next set ++ rest) at past)

  pub event_skipped : ¬ HasSlot set first → (at : ℕ)
      → slice_get (fenced_in first n set ++ rest) at ≡ slice_get (fenced_in (first + 1) next set ++ rest) at
  event_skipped has_not at = rw (fenced_none set first next n is has_not) refl

-- WHERE ONLY SLOTS BECAME DOWN

-- the test that the events of a step go by
pub fell_test : (old new : Configuration) (j : ℕ) → IsTrue (is_down (mark_in new j) && not (is_down (mark_in old j))) ↔ Fell old new j
fell_test old new j = by_marks (mark_in old j) (mark_in new j)
  where
    by_marks : (was is : Mark) → IsTrue (is_down is && not (is_down was)) ↔ ((is ≡ Down) × (was ≢ Down))
    by_marks Live Down = (λ passes. (refl, λ same. cc), λ p. refl)
    by_marks Rebuilding Down = (λ passes. (refl, λ same. cc), λ p. refl)
    by_marks Down Down = (λ passes. absurd (false≢true passes), λ p. absurd (p.1 refl))
    by_marks was Live = (λ passes. absurd (false≢true passes), λ p. cc)
    by_marks was Rebuilding = (λ passes. absurd (false≢true passes), λ p. cc)

-- the slots that became Down are told of in the same order
pub fenced_same : (old new : Configuration) (set : Slots) → ((j : ℕ) → HasSlot set j ↔ ((j < 32) × Fell old new j))
    → (first n : ℕ) → first + n ≤ 32 → fenced_in first n set ≡ fenced_from first n old new
fenced_same old new set are first zero within = refl
fenced_same old new set are first (suc n) within =
    let test : has_slot set first ≡ is_down (mark_in new first) && not (is_down (mark_in old first)) =
    same_test _ _ (
      (λ has. (fell_test old new first).1 ((are first).0 has).1),
      λ passes. (are first).1 (omega (arith, within), (fell_test old new first).0 passes),
    ) in
    rw (test, fenced_same old new set are (first + 1) n (omega (arith, within))) refl

-- THE NEWS OF A CALL

-- a step that repairs, admits and promotes nothing tells of slots alone
pub slots_news : (step : Step) (answer : Answer step) → ((r : Option (ℕ × ℕ)) → repaired_after step answer r ≡ r)
    → ((j : Option ℕ) → admitted_after step answer j ≡ j) → ((j : Option ℕ) → promoted_after step answer j ≡ j) → (old new : Configuration)
    (was is : News) → AddsFallen old new was is → AddsNews step answer old new was is
slots_news step answer repairs admits promotes old new was is adds = record {
  fenced = adds.fenced;
  repaired = ap (λ (n : News). n.repaired) adds.others ∙ sym (repairs was.repaired);
  admitted = ap (λ (n : News). n.admitted) adds.others ∙ sym (admits was.admitted);
  promoted = ap (λ (n : News). n.promoted) adds.others ∙ sym (promotes was.promoted);
}

pub read_news : (b : ℕ) (answer : Answer (ReadBlock b)) (old new : Configuration) (was is : News) → AddsFallen old new was is
    → AddsNews (ReadBlock b) answer old new was is
read_news b answer = slots_news (ReadBlock b) answer (λ r. refl) (λ j. refl) (λ j. refl)

pub write_news : (first : ℕ) (contents : List (List ℕ)) (answer : Answer (WriteBlocks first contents)) (old new : Configuration) (was is : News)
    → AddsFallen old new was is → AddsNews (WriteBlocks first contents) answer old new was is
write_news first contents answer = slots_news (WriteBlocks first contents) answer (λ r. refl) (λ j. refl) (λ j. refl)

pub recover_news : (answer : Answer Recover) (old new : Configuration) (none is : News) → none ≡ no_news → AddsFallen old new none is
    → AddsNews Recover answer old new no_news is
recover_news answer old new none is first added =
    slots_news Recover answer (λ r. refl) (λ j. refl) (λ j. refl) old new no_news is
    (subst (λ was. AddsFallen old new was is) first added)

-- THE EVENTS OF A STEP

-- what a step's answer tells
pub others_told : (step : Step) (answer : Answer step)
    → repair_in (repaired_after step answer None)
    ++ (admission_in (admitted_after step answer None) ++ promotion_in (promoted_after step answer None))
    ≡ events_of_answer step answer
others_told Recover answer = refl
others_told (ReadBlock b) answer = refl
others_told (WriteBlocks b contents) answer = refl
others_told (ScrubStripe t) (Ok zero) = refl
others_told (ScrubStripe t) (Ok (suc k)) = refl
others_told (ScrubStripe t) (Err refusal) = refl
others_told (ReplaceSlot j) (Ok done) = refl
others_told (ReplaceSlot j) (Err refusal) = refl
others_told RebuildNext (Ok Nothing) = refl
others_told RebuildNext (Ok (Chunk j t)) = refl
others_told RebuildNext (Ok (Promoted j)) = refl
others_told RebuildNext (Ok (Dropped j)) = refl
others_told RebuildNext (Err refusal) = refl
others_told (SetFrozen frozen) answer = refl
others_told (SetLabel label) answer = refl
others_told LookAtSeats answer = refl

-- an opening that is refused tells nothing, and every other step all of it
pub all_told : (step : Step) (answer : Answer step) (old new : Configuration) → (step ≡ Recover → IsOk answer)
    → events_of step answer old new ≡ fenced_from 0 32 old new ++ events_of_answer step answer
all_told Recover (Ok g) old new goes = refl
all_told Recover (Err refusal) old new goes = absurd (false≢true (goes refl))
all_told (ReadBlock b) answer old new goes = refl
all_told (WriteBlocks b contents) answer old new goes = refl
all_told (ScrubStripe t) answer old new goes = refl
all_told (ReplaceSlot j) answer old new goes = refl
all_told RebuildNext answer old new goes = refl
all_told (SetFrozen frozen) answer old new goes = refl
all_told (SetLabel label) answer old new goes = refl
all_told LookAtSeats answer old new goes = refl

-- where there were no news before a step, those after it tell its events
pub step_told : (step : Step) (answer : Answer step) (old new : Configuration) (is : News) → AddsNews step answer old new no_news is
    → (step ≡ Recover → IsOk answer) → events_in is ≡ events_of step answer old new
step_told step answer old new is adds goes =
    let slots : fenced_in 0 32 is.fenced ≡ fenced_from 0 32 old new =
    fenced_same old new is.fenced
    (λ j. (
      λ has. elim ((adds.fenced j).0 has) [ inl had ↦ absurd (false≢true (sym (has_slot-none j) ∙ had)) | inr fell ↦ fell ],
      λ fell. (adds.fenced j).1 (inr fell),
    )) 0 32 (omega arith) in
    let others : other_events is ≡ events_of_answer step answer =
    rw (adds.repaired, adds.admitted, adds.promoted) (others_told step answer) in
    rw (slots, others) (sym (all_told step answer old new goes))
