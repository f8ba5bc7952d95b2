-- What the calls of an open array did, as steps that are told to watchers.
use Rattle.std.proofs.Common.{Option, ◌≡◌, ℕ, List, [], ap, inl, inr, length, refl, subst, sym, ◌∙◌}
use Rattle.std.specs.Prelude.{Bool, Err, IfErr, IsErrAnd, IsOk, None, Ok, Result, Some, nat_le, not}
use Rattle.stair_rack.specs.RackState.{RackState}
use Rattle.stair_rack.specs.declared.watcher.Event.{Event}
use Rattle.stair_member.specs.Membership.{IsMembership, Membership}
use Rattle.stair_member.specs.declared.fault.FenceFault.{FenceFault}
use Rattle.stair_member.specs.declared.fault.FenceFault.TheVariants as fence
use Rattle.stair_invariant.specs.Effects.{snapshot}
use Rattle.stair_invariant.specs.Rebuilding.{Rebuild}
use Rattle.stair_invariant.specs.Session.{ArrayState, IsArray, Remembered}
use Rattle.stair_array.specs.Arrays.{OpenArray, answer_as, outcome, rebuilt_as, replaced_as, state_of}
use Rattle.stair_array.specs.Faults.{array_fault, opening_refusal, rebuild_fault, replace_fault}
use Rattle.stair_array.specs.declared.fault.RecoverFault.{RecoverFault}
use Rattle.stair_array.specs.declared.fault.ArrayFault.{ArrayFault}
use Rattle.stair_array.specs.declared.fault.Progress.{Progress}
use Rattle.stair_array.specs.declared.fault.RebuildFault.{RebuildFault}
use Rattle.stair_array.specs.declared.fault.ReplaceFault.{ReplaceFault}
use Rattle.stair_array.specs.Calls.{Reads, WritesBlocks, refused}
use Rattle.stair_array.specs.Events.{events_of}
use Rattle.stair_array.specs.Machine.{Answer, EpochsSpent, ReadBlock, RebuildNext, Recover, Refusal, ReplaceSlot, ScrubStripe, SetFrozen, SetLabel, Step, TooFew, WriteBlocks}
use Rattle.stair_array.specs.Mends.{Rebuilds, Replaces, Scrubs, StampsAs}
use Rattle.stair_array.specs.News.{AddsNews, events_in, no_news}
use Rattle.stair_array.specs.Openings.{Recovers}
use Rattle.stair_array.specs.Promise.{Closed, DoesStep, EndsIn, Found, Keeps, Opened, Performs, Seen, Phase, Stops, rebuild_after, rebuild_then, running}
use Rattle.stair_array.specs.declared.news.News.{News}
use Rattle.stair_array.proofs.NewsLemmas.{step_told}
use Rattle.stair_array.proofs.PerformsLemmas.{performs}
use Rattle.stair_array.proofs.ReadCauseLemmas.{read_performs}
use Rattle.stair_array.proofs.RebuildLemmas.{rebuild_performs}
use Rattle.stair_array.proofs.ReplaceLemmas.{replace_performs}
use Rattle.stair_array.proofs.ScrubLemmas.{scrub_performs}
use Rattle.stair_array.proofs.StampLemmas.{frozen_performs, label_performs}
use Rattle.stair_array.proofs.WriteCauseLemmas.{write_performs}
use Rattle.stair_command.specs.Devices.{DeviceView, Devices, KeepsRules, devices}
use Rattle.stair_command.specs.Kept.{HasMember}
use Rattle.stair_command.specs.Rack.{told_of}
use Rattle.stair_command.specs.Trace.{Stepped}
use Rattle.stair_command.proofs.KeptLaws.{comes, known_closed, known_once, open_known}
use Rattle.stair_command.proofs.KeptLaws as Comes
use Rattle.stair_command.specs.Steps.{Takes}
use Rattle.stair_watch.specs.WatcherList.{TellsAll}

-- AN OPEN ARRAY

-- what a session has of an array with this rebuild, that was stopped so and remembers this
state_is : (a : OpenArray) (rebuild : Option Rebuild) (stopped : Option FenceFault) (known : Option Remembered) → a.rebuild ≡ rebuild
    → a.stopped ≡ stopped → a.remembered ≡ known
    → state_of a ≡ record { member = a.member; rebuild = rebuild; stopped = stopped; remembered = known }
state_is a rebuild stopped known is was remembers i = record { member = a.member; rebuild = is i; stopped = was i; remembered = remembers i }

-- one that wasn't stopped by an answer isn't refused for good
goes_on : {T : Type 0} (answer : Result T Refusal) → Keeps answer None → ¬ Stops answer
goes_on (Ok given) kept stops = stops
goes_on (Err (TooFew whys)) kept stops = let no : None ≡ Some kept.0 = kept.1 in cc
goes_on (Err EpochsSpent) kept stops = let no : None ≡ Some kept.0 = kept.1 in cc
goes_on (Err refusal) kept stops = stops

abbrev pub seen : RackState → Phase → Seen
seen told session = record { told = told; session = session }

-- a fault of an array as what it answers
pub fault_answered : {T : Type 0} (given : T) (result : Result (Unit {0}) ArrayFault) (fault : FenceFault) → result ≡ Err (array_fault fault)
    → answer_as given result ≡ Err (refused fault)
fault_answered given result (fence.TooFew whys) is = ap (answer_as given) is
fault_answered given result fence.EpochsSpent is = ap (answer_as given) is

pub outcome_answered : {T : Type 0} (result : Result T ArrayFault) (fault : FenceFault) → result ≡ Err (array_fault fault)
    → outcome result ≡ Err (refused fault)
outcome_answered result (fence.TooFew whys) is = ap outcome is
outcome_answered result fence.EpochsSpent is = ap outcome is

pub replace_answered : (result : Result (Unit {0}) ReplaceFault) (fault : FenceFault) → result ≡ Err (replace_fault fault)
    → replaced_as result ≡ Err (refused fault)
replace_answered result (fence.TooFew whys) is = ap replaced_as is
replace_answered result fence.EpochsSpent is = ap replaced_as is

pub rebuild_answered : (result : Result Progress RebuildFault) (fault : FenceFault) → result ≡ Err (rebuild_fault fault)
    → rebuilt_as result ≡ Err (refused fault)
rebuild_answered result (fence.TooFew whys) is = ap rebuilt_as is
rebuild_answered result fence.EpochsSpent is = ap rebuilt_as is

-- an array whose news were cleared is as good as before
pub cleared_array : (was a : OpenArray) → was ≡ record a { news = no_news } → (a.stopped ≡ None → IsArray (state_of a))
    → was.stopped ≡ None → IsArray (state_of was)
cleared_array was a cleared array = subst (λ (o : OpenArray). o.stopped ≡ None → IsArray (state_of o)) (sym cleared) array

-- what a call leaves of an array, whose news were cleared before it: if it wasn't stopped, with this rebuild and this to remember
pub record Leaves (step : Step) (answer : Answer step) (after : Option Rebuild) (known : Option Remembered) (was is : OpenArray) : Type 0 where
  pub cleared : was.news ≡ no_news
  pub rebuild : was.stopped ≡ None → is.rebuild ≡ after
  pub remembers : was.stopped ≡ None → is.remembered ≡ known
  pub news : AddsNews step answer was.member.array is.member.array was.news is.news

pub left_by : (step : Step) (answer : Answer step) {after : Option Rebuild} {known : Option Remembered} (a was is : OpenArray)
    → was ≡ record a { news = no_news } → (was.stopped ≡ None → is.rebuild ≡ after) → (was.stopped ≡ None → is.remembered ≡ known) → AddsNews step answer was.member.array is.member.array was.news is.news
    → Leaves step answer after known was is
left_by step answer a was is cleared rebuild remembers news =
    record { cleared = ap (λ (o : OpenArray). o.news) cleared; rebuild = rebuild; remembers = remembers; news = news }

-- one that was stopped answers its fault, and leaves the rack and itself as they were
abbrev pub AnswersFault : {R : Type 0} → (step : Step) → Answer step → OpenArray → OpenArray → R → R → Type 0
AnswersFault step answer was is old new = (fault : FenceFault) → was.stopped ≡ Some fault
    → (answer ≡ Err (refused fault)) × (new ≡ old) × (is ≡ was)

-- and one that wasn't does what is promised of the step
abbrev pub Promises : (step : Step) → Answer step → OpenArray → OpenArray → RackState → RackState → Type 0
Promises step answer was is x y = was.stopped ≡ None
    → Performs step answer (events_of step answer was.member.array is.member.array) (seen x (Opened (state_of was))) (seen y (Opened (state_of is)))

module _ {R W : Type 0} (view : DeviceView R W) (old new : R) (watchers left : List W) where
  -- told to watchers, with what was promised
  taken : (step : Step) (answer : Answer step) (events : List Event) (x y : Phase)
      → DoesStep step answer events (seen (told_of view.rack old) x) (seen (told_of view.rack new) y)
      → TellsAll view.watcher events watchers left → KeepsRules x → Takes view step answer (devices old x watchers) (devices new y left)
  taken step answer events x y does tells rules = record {
    events = events;
    left = not (nat_le (length watchers) (length left));
    works = (does, tells, refl, rules);
  }

  all_told : (told news : News) → told ≡ news → TellsAll view.watcher (events_in told) watchers left
      → TellsAll view.watcher (events_in news) watchers left
  all_told told news same = subst (λ (n : News). TellsAll view.watcher (events_in n) watchers left) same

  pub opening_taken : (m : Membership) (array : OpenArray) → IsMembership m
      → Recovers (Ok m.array.geometry) (snapshot m (told_of view.rack old)) (snapshot array.member (told_of view.rack new))
      → array.stopped ≡ None → array.rebuild ≡ None → array.remembered ≡ None
      → AddsNews Recover (Ok m.array.geometry) m.array array.member.array no_news array.news
      → (told : News) → told ≡ array.news → TellsAll view.watcher (events_in told) watchers left
      → Takes view Recover (Ok m.array.geometry) (devices old (Found m) watchers) (devices new (Opened (state_of array)) left)
  opening_taken m array rules recovers goes rebuilds remembers news told same tells =
      taken Recover (Ok m.array.geometry) (events_in array.news) (Found m) (Opened (state_of array))
      (inl (rw (
        step_told Recover (Ok m.array.geometry) m.array array.member.array array.news news (λ step. refl),
        state_is array None None None rebuilds goes remembers,
      )
      (performs m array.member (Ok m.array.geometry) (told_of view.rack old) (told_of view.rack new) rules recovers)))
      (all_told told array.news same tells) rules

  pub refusal_taken : (m last : Membership) (refusal : Refusal) → IsMembership m
      → Recovers (Err refusal) (snapshot m (told_of view.rack old)) (snapshot last (told_of view.rack new)) → left ≡ watchers
      → Takes view Recover (Err refusal) (devices old (Found m) watchers) (devices new Closed left)
  refusal_taken m last refusal rules recovers same =
      taken Recover (Err refusal) [] (Found m) Closed
      (inl (performs m last (Err refusal) (told_of view.rack old) (told_of view.rack new) rules recovers)) same rules

  -- a step of an open array, of which the session had this
  pub step_taken : (step : Step) (answer : Answer step) {after : Option Rebuild} {known : Option Remembered} (was is : OpenArray) (had : ArrayState) → state_of was ≡ had
      → (step ≡ Recover → IsOk answer)
      → Leaves step answer after known was is → Promises step answer was is (told_of view.rack old) (told_of view.rack new) → AnswersFault step answer was is old new
      → (told : News) → told ≡ is.news → TellsAll view.watcher (events_in told) watchers left
      → Takes view step answer (devices old (Opened had) watchers) (devices new (Opened (state_of is)) left)
  step_taken step answer was is had same goes leaves promises stopped told news tells =
      subst (λ (s : ArrayState). Takes view step answer (devices old (Opened s) watchers) (devices new (Opened (state_of is)) left)) same
      (taken step answer (events_in is.news) (Opened (state_of was)) (Opened (state_of is)) (by was.stopped refl)
      (all_told told is.news news tells) tt)
    where
      adds : AddsNews step answer was.member.array is.member.array no_news is.news
      adds = subst (λ (n : News). AddsNews step answer was.member.array is.member.array n is.news) leaves.cleared leaves.news

      by : (stopped_by : Option FenceFault) → was.stopped ≡ stopped_by
          → DoesStep step answer (events_in is.news) (seen (told_of view.rack old) (Opened (state_of was)))
          (seen (told_of view.rack new) (Opened (state_of is)))
      by None none = inl (rw (step_told step answer was.member.array is.member.array is.news adds goes) (promises none))
      by (Some fault) some =
          let answered = stopped fault some in
          inr (record {
            array = state_of was;
            is_open = refl;
            fault = fault;
            stopped = some;
            answered = answered.0;
            silent = ap events_in (ap (λ (a : OpenArray). a.news) answered.2 ∙ leaves.cleared);
            same = rw (answered.1, answered.2) refl;
          })

-- WHAT IT IS AFTER A STEP

performed_array : (step : Step) (answer : Answer step) (events : List Event) (x y : Seen) (a : ArrayState) → Performs step answer events x y
    → y.session ≡ Opened a → ¬ Stops answer → IsArray a
performed_array step answer events x y a performs is going =
    elim performs.ends [
      | EndsIn.Ends opening refused closed ↦ let no : Opened a ≡ Closed = sym is ∙ closed in cc
      | EndsIn.GoesOn opened kept same ↦
          let here : Opened performs.is ≡ Opened a = sym same ∙ is in
          let one : performs.is ≡ a = cc in
          subst IsArray one (performs.array going)
    ]

-- where it isn't stopped by then it is one that runs
pub stays_array : {R : Type 0} (step : Step) (answer : Answer step) (was is : OpenArray) (x y : RackState) (old new : R)
    → Promises step answer was is x y → (was.stopped ≡ None → Keeps answer is.stopped) → AnswersFault step answer was is old new
    → is.stopped ≡ None → IsArray (state_of is)
stays_array step answer was is x y old new promises kept stopped none = by was.stopped refl
  where
    by : (stopped_by : Option FenceFault) → was.stopped ≡ stopped_by → IsArray (state_of is)
    by None first =
        performed_array step answer _ _ _ (state_of is) (promises first) refl
        (goes_on answer (subst (λ (f : Option FenceFault). Keeps answer f) none (kept first)))
    by (Some fault) some =
        let same = (stopped fault some).2 in
        let no : None ≡ Some fault = sym none ∙ ap (λ (a : OpenArray). a.stopped) same ∙ some in
        cc

-- OPENINGS

pub opening_array : (m : Membership) (array : OpenArray) (x y : RackState) → IsMembership m
    → Recovers (Ok m.array.geometry) (snapshot m x) (snapshot array.member y) → array.stopped ≡ None → array.rebuild ≡ None → array.remembered ≡ None
    → IsArray (state_of array)
opening_array m array x y rules recovers goes rebuilds remembers =
    subst IsArray (sym (state_is array None None None rebuilds goes remembers))
    (performed_array Recover (Ok m.array.geometry) _ _ _ _ (performs m array.member (Ok m.array.geometry) x y rules recovers) refl (λ stops. stops))

-- what is so of each refusal that a fault is, is so of an opening that was refused by it
pub opening_refused : {X : Type 0} (result : Result X RecoverFault) (fault : RecoverFault) (IsSo : Refusal → Type 0)
    → IsErrAnd result (λ e. e ≡ fault) → ((refusal : Refusal) → opening_refusal fault ≡ Some refusal → IsSo refusal)
    → IfErr result (λ e. (refusal : Refusal) → opening_refusal e ≡ Some refusal → IsSo refusal)
opening_refused (Ok x) fault IsSo is all = tt
opening_refused (Err e) fault IsSo is all = λ refusal told. all refusal (sym (ap opening_refusal is) ∙ told)

-- READS, WRITES AND WHAT IS DONE FOR DEVICES

module _ (was is : OpenArray) (array : was.stopped ≡ None → IsArray (state_of was)) (x y : RackState) where
  -- a step of an array that ran, with what is left of it
  promised : (step : Step) (answer : Answer step) {after : Option Rebuild} {known : Option Remembered} → Leaves step answer after known was is
      → (was.stopped ≡ None → IsArray (running was.member was.rebuild was.remembered)
      → Performs step answer (events_of step answer was.member.array is.member.array)
      (seen x (Opened (running was.member was.rebuild was.remembered)))
      (seen y (Opened (record { member = is.member; rebuild = after; stopped = is.stopped; remembered = known }))))
      → Promises step answer was is x y
  promised step answer {after} {known} leaves does none =
      let ran = state_is was was.rebuild None was.remembered refl none refl in
      rw (ran, state_is is after is.stopped known (leaves.rebuild none) refl (leaves.remembers none)) (does none (subst IsArray ran (array none)))

  -- what a call leaves that keeps a rebuild as long as its slot is rebuilt
  abbrev LeavesIt : (step : Step) → Answer step → Type 0
  LeavesIt step answer = Leaves step answer (rebuild_after is.member was.rebuild) None was is

  pub read_promises : (b : ℕ) (answer : Answer (ReadBlock b)) → (was.stopped ≡ None → Reads b was.remembered is.remembered answer (snapshot was.member x) (snapshot is.member y))
      → (was.stopped ≡ None → Keeps answer is.stopped)
      → Leaves (ReadBlock b) answer (rebuild_after is.member was.rebuild) is.remembered was is
      → Promises (ReadBlock b) answer was is x y
  read_promises b answer told kept leaves =
      promised (ReadBlock b) answer leaves
      (λ none ran. read_performs b answer was.member is.member was.rebuild was.remembered is.remembered is.stopped x y ran (told none) (kept none))

  pub write_promises : (first : ℕ) (contents : List (List ℕ)) (answer : Answer (WriteBlocks first contents))
      → (was.stopped ≡ None → WritesBlocks first contents answer (snapshot was.member x) (snapshot is.member y))
      → (was.stopped ≡ None → Keeps answer is.stopped) → LeavesIt (WriteBlocks first contents) answer
      → Promises (WriteBlocks first contents) answer was is x y
  write_promises first contents answer told kept leaves =
      promised (WriteBlocks first contents) answer leaves
      (λ none ran. write_performs first contents answer was.member is.member was.rebuild was.remembered is.stopped x y ran (told none) (kept none))

  pub scrub_promises : (t : ℕ) (answer : Answer (ScrubStripe t)) → (was.stopped ≡ None → Scrubs t answer (snapshot was.member x) (snapshot is.member y))
      → (was.stopped ≡ None → Keeps answer is.stopped) → LeavesIt (ScrubStripe t) answer
      → Promises (ScrubStripe t) answer was is x y
  scrub_promises t answer told kept leaves =
      promised (ScrubStripe t) answer leaves
      (λ none ran. scrub_performs t answer was.member is.member was.rebuild was.remembered is.stopped x y ran (told none) (kept none))

  pub replace_promises : (slot : ℕ) (answer : Answer (ReplaceSlot slot))
      → (was.stopped ≡ None → Replaces slot answer (snapshot was.member x) (snapshot is.member y))
      → (was.stopped ≡ None → Keeps answer is.stopped) → LeavesIt (ReplaceSlot slot) answer
      → Promises (ReplaceSlot slot) answer was is x y
  replace_promises slot answer told kept leaves =
      promised (ReplaceSlot slot) answer leaves
      (λ none ran. replace_performs slot answer was.member is.member was.rebuild was.remembered is.stopped x y ran (told none) (kept none))

  pub rebuild_promises : (answer : Answer RebuildNext)
      → (was.stopped ≡ None → Rebuilds (state_of was) answer (snapshot was.member x) (snapshot is.member y))
      → (was.stopped ≡ None → Keeps answer is.stopped) → Leaves RebuildNext answer (rebuild_then answer is.member was.rebuild) None was is
      → Promises RebuildNext answer was is x y
  rebuild_promises answer told kept leaves =
      promised RebuildNext answer leaves
      (λ none ran. rebuild_performs answer was.member is.member was.rebuild was.remembered is.stopped x y ran
      (subst (λ (s : ArrayState). Rebuilds s answer (snapshot was.member x) (snapshot is.member y)) (state_is was was.rebuild None was.remembered refl none refl) (told none))
      (kept none))

  pub frozen_promises : (frozen : Bool) (answer : Answer (SetFrozen frozen))
      → (was.stopped ≡ None → StampsAs frozen was.member.array.label answer (snapshot was.member x) (snapshot is.member y))
      → (was.stopped ≡ None → Keeps answer is.stopped) → LeavesIt (SetFrozen frozen) answer
      → Promises (SetFrozen frozen) answer was is x y
  frozen_promises frozen answer told kept leaves =
      promised (SetFrozen frozen) answer leaves
      (λ none ran. frozen_performs frozen answer was.member is.member was.rebuild was.remembered is.stopped x y ran (told none) (kept none))

  pub label_promises : (label : List ℕ) (answer : Answer (SetLabel label))
      → (was.stopped ≡ None → StampsAs was.member.array.frozen label answer (snapshot was.member x) (snapshot is.member y))
      → (was.stopped ≡ None → Keeps answer is.stopped) → LeavesIt (SetLabel label) answer
      → Promises (SetLabel label) answer was is x y
  label_promises label answer told kept leaves =
      promised (SetLabel label) answer leaves
      (λ none ran. label_performs label answer was.member is.member was.rebuild was.remembered is.stopped x y ran (told none) (kept none))

-- THE GEOMETRY

-- Over a step that was taken it stays, from the array that was found or open to the open one.
pub taken_geometry : {R W : Type 0} (view : DeviceView R W) (step : Step) (answer : Answer step) (x y : Devices R W) (m n : Membership)
    → Takes view step answer x y → HasMember x.session m → HasMember y.session n → n.array.geometry ≡ m.array.geometry
taken_geometry view step answer x y m n takes has ends =
    elim (comes view (Stepped step answer takes.events takes.left) x y m has takes.works) [
      | Comes.Same same ↦
          ap (λ (k : Membership). k.array.geometry)
          (known_once x.session n m (subst (λ (s : Phase). HasMember s n) same ends) has)
      | Comes.Closes closed ↦ absurd (known_closed y.session n closed ends)
      | Comes.Takes did came events left is does known opened ↦
          ap (λ (k : Membership). k.array.geometry) (known_once y.session n does.is.member ends (open_known y.session does.is.member opened))
          ∙ does.goes_on.geometry ∙ ap (λ (k : Membership). k.array.geometry) known
    ]
