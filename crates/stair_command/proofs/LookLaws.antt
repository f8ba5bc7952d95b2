-- What only looks at a rack, and what was done where memory was short.
use Rattle.std.proofs.Common.{◌≡◌, List, [], ◌∷◌, Ok, Err, refl, sym, ap, subst}
use Rattle.std.specs.Prelude.{IsTrue}
use Rattle.stair_rack.specs.Answers.{Ran}
use Rattle.stair_rack.proofs.MomentLemmas.{ran_join, ran_none}
use Rattle.stair_member.specs.Asked.{LeavesSectors}
use Rattle.stair_member.specs.Membership.{Membership}
use Rattle.stair_member.specs.Survey.{Surveys}
use Rattle.stair_member.proofs.AskedLemmas.{asked_ran}
use Rattle.stair_command.specs.Action.{Create, Outcome, Survey}
use Rattle.stair_status.specs.declared.status.Status.TheVariants.{OutOfMemory}
use Rattle.stair_command.specs.Devices.{DeviceView, Devices, WorksAll}
use Rattle.stair_command.specs.Ending.{AsksFirst, AsksForNone, AsksUnwritten, MakesNoCall, OnlyLooks}
use Rattle.stair_command.specs.Outside.{Outside, Views, outside}
use Rattle.stair_command.specs.Program.{Program, Over, Ask, Take, Put, Allocate, Do, Try, RebuildAll}
use Rattle.stair_command.specs.Rack.{RackView, Works, told_of}
use Rattle.stair_command.specs.Trace.{TraceItem, Found, Took, TookLast, TakeFailed, HasPut, PutFailed, Grew, RanOut, Did, Stepped, AlongTrace, StepsProgram, after}
use Rattle.stair_command.proofs.AllEnds.{AllEnd}
use Rattle.stair_command.proofs.EndingLaws.{move_asks, never_short}

after_looks : (k : Membership → Program) (found : Outcome Survey) → ((member : Membership) → OnlyLooks (k member)) → OnlyLooks (after Survey k found)
after_looks k (Ok member) looks = looks member
after_looks k (Err fault) looks = tt

module _ {R : Type 0} (rack : RackView R) (honest : IsTrue rack.honest) where
  at_rest : {x y : R} → y ≡ x → Ran LeavesSectors (rack.history x) (rack.history y)
  at_rest {x} {y} same = subst (λ (z : R). Ran LeavesSectors (rack.history x) (rack.history z)) (sym same) (ran_none (rack.history x))

  pub surveyed : (found : Outcome Survey) (x y : R) → Surveys found (told_of rack x) (told_of rack y)
      → Ran LeavesSectors (rack.history x) (rack.history y)
  surveyed found x y surveys = asked_ran 32 (rack.history x) (rack.history y) (surveys.asked honest)

  move_looks : (item : TraceItem) (program rest : Program) (x y : R) → OnlyLooks program → StepsProgram item program rest → Works rack item x y
      → Ran LeavesSectors (rack.history x) (rack.history y) × OnlyLooks rest
  move_looks (Found asked) (Ask question k) rest x y looks moves works = (at_rest works, subst OnlyLooks (sym moves.3) (looks moves.0 moves.2))
  move_looks (Took bytes) (Take least most k short) rest x y looks moves works = (at_rest works, subst OnlyLooks (sym moves.1) (looks.0 bytes))
  move_looks (TookLast bytes) (Take least most k short) rest x y looks moves works = (at_rest works, subst OnlyLooks (sym moves.1) (looks.1 bytes))
  move_looks (TakeFailed bytes) (Take least most k short) rest x y looks moves works = (at_rest works, subst OnlyLooks (sym moves.1) tt)
  move_looks (HasPut bytes) (Put all program) rest x y looks moves works = (at_rest works, subst OnlyLooks (sym moves.1) looks)
  move_looks (PutFailed part) (Put all program) rest x y looks moves works = (at_rest works, subst OnlyLooks (sym moves.1) tt)
  move_looks Grew (Allocate program) rest x y looks moves works = (at_rest works, subst OnlyLooks (sym moves) looks)
  move_looks RanOut (Allocate program) rest x y looks moves works = (at_rest works, subst OnlyLooks (sym moves) tt)
  move_looks (Did did came) (Do (Create g) k) rest x y looks moves works = absurd looks
  move_looks (Did did came) (Do Survey k) rest x y looks moves works = (
    surveyed moves.0 x y (subst (λ (d : TraceItem). Works rack d x y) moves.1 works),
    subst OnlyLooks (sym moves.2) (after_looks k moves.0 looks),
  )
  move_looks (Stepped did came events left) (Try step k) rest x y looks moves works = absurd looks
  move_looks (Stepped did came events left) (RebuildAll slots done k) rest x y looks moves works = absurd looks
  move_looks _ _ rest x y looks moves works = absurd moves

  -- No sector is changed.
  pub only_looked : (trace : List TraceItem) (program rest : Program) (x y : R) → OnlyLooks program → AlongTrace StepsProgram trace program rest → AlongTrace (Works rack) trace x y
      → Ran LeavesSectors (rack.history x) (rack.history y)
  only_looked [] program rest x y looks follows works = at_rest works
  only_looked (item ∷ trace) program rest x y looks follows works =
      let one = move_looks item program follows.0 x works.0 looks follows.1 works.1 in
      ran_join one.0 (only_looked trace follows.0 rest works.0 y one.1 follows.2 works.2)

-- a program that makes no call
pub calls_look : (program : Program) → MakesNoCall program → OnlyLooks program
calls_look (Over status) none = tt
calls_look (Ask question k) none = λ reply is. calls_look (k reply) (none reply is)
calls_look (Take least most k short) none = (λ bytes. calls_look (k bytes) (none.0 bytes), λ bytes. calls_look (short bytes) (none.1 bytes))
calls_look (Put bytes program) none = calls_look program none
calls_look (Allocate program) none = calls_look program none
calls_look (Do action k) none = absurd none
calls_look (Try step k) none = absurd none
calls_look (RebuildAll slots done k) none = absurd none

-- Every end of a program that only looks, since the rack was so.
module _ {R S K : Type 0} (rack : RackView R) (view : Views S K) (honest : IsTrue rack.honest) (x : R) where
  abbrev Looked : R → Type 0
  Looked z = Ran LeavesSectors (rack.history x) (rack.history z)

  pub looks_all : (program : Program) (a : Outside S K) (z : R) → OnlyLooks program → Looked z → AllEnd (Works rack) view (λ status b w. Looked w) program a z
  looks_all (Over status) a z looks ran = ran
  looks_all (Ask question k) a z looks ran = λ reply n is counts. looks_all (k reply) (outside a.source a.sink n) z (looks reply is) ran
  looks_all (Take least most k short) a z looks ran = (
    λ bytes s enough gives. looks_all (k bytes) (outside s a.sink a.counter) z (looks.0 bytes) ran,
    λ bytes s few gives. looks_all (short bytes) (outside s a.sink a.counter) z (looks.1 bytes) ran,
    λ bytes s few gives. ran,
  )
  looks_all (Put bytes program) a z looks ran = (λ s holds. looks_all program (outside a.source s a.counter) z looks ran, λ part s is holds. ran)
  looks_all (Allocate program) a z looks ran = (looks_all program a z looks ran, ran)
  looks_all (Do (Create g) k) a z looks ran = absurd looks
  looks_all (Do Survey k) a z looks ran = (
    λ member w did. looks_all (k member) a w (looks member) (ran_join ran (surveyed rack honest (Ok member) z w did)),
    λ fault w did. ran_join ran (surveyed rack honest (Err fault) z w did),
  )
  looks_all (Try step k) a z looks ran = absurd looks
  looks_all (RebuildAll slots done k) a z looks ran = absurd looks

after_asks : (k : Membership → Program) (found : Outcome Survey) → ((member : Membership) → AsksUnwritten (k member)) → AsksUnwritten (after Survey k found)
after_asks k (Ok member) asks = asks member
after_asks k (Err fault) asks = tt

module _ {R W : Type 0} (view : DeviceView R W) (honest : IsTrue view.rack.honest) where
  abbrev Unwritten : Devices R W → Devices R W → Type 0
  Unwritten x y = Ran LeavesSectors (view.rack.history x.rack) (view.rack.history y.rack)

  same_unwritten : {x y : Devices R W} → y ≡ x → Unwritten x y
  same_unwritten same = at_rest view.rack honest (ap (λ (d : Devices R W). d.rack) same)

  -- what a survey did, beside what the session has then
  surveyed_with : (found : Outcome Survey) (x y : Devices R W) → WorksAll view (Did Survey found) x y → Unwritten x y
  surveyed_with found x y works = surveyed view.rack honest found x.rack y.rack works.0

  -- Where memory was short nothing was written.
  pub short_unwritten : (trace : List TraceItem) (program : Program) (x y : Devices R W) → AsksUnwritten program → AlongTrace StepsProgram trace program (Over OutOfMemory)
      → AlongTrace (WorksAll view) trace x y → Unwritten x y
  short_unwritten [] program x y asks follows works = same_unwritten works
  short_unwritten (Found asked ∷ trace) (Ask question k) x y asks follows works =
      ran_join (same_unwritten works.1)
      (short_unwritten trace follows.0 works.0 y (subst AsksUnwritten (sym follows.1.3) (asks follows.1.0 follows.1.2)) follows.2 works.2)
  short_unwritten (Took bytes ∷ trace) (Take least most k short) x y asks follows works =
      ran_join (same_unwritten works.1)
      (short_unwritten trace follows.0 works.0 y (subst AsksUnwritten (sym follows.1.1) (asks.0 bytes)) follows.2 works.2)
  short_unwritten (TookLast bytes ∷ trace) (Take least most k short) x y asks follows works =
      ran_join (same_unwritten works.1)
      (short_unwritten trace follows.0 works.0 y (subst AsksUnwritten (sym follows.1.1) (asks.1 bytes)) follows.2 works.2)
  short_unwritten (TakeFailed bytes ∷ trace) (Take least most k short) x y asks follows works =
      ran_join (same_unwritten works.1)
      (short_unwritten trace follows.0 works.0 y (subst AsksUnwritten (sym follows.1.1) tt) follows.2 works.2)
  short_unwritten (HasPut bytes ∷ trace) (Put all program) x y asks follows works =
      ran_join (same_unwritten works.1)
      (short_unwritten trace follows.0 works.0 y (subst AsksUnwritten (sym follows.1.1) asks) follows.2 works.2)
  short_unwritten (PutFailed part ∷ trace) (Put all program) x y asks follows works =
      ran_join (same_unwritten works.1)
      (short_unwritten trace follows.0 works.0 y (subst AsksUnwritten (sym follows.1.1) tt) follows.2 works.2)
  short_unwritten (Grew ∷ trace) (Allocate program) x y asks follows works =
      ran_join (same_unwritten works.1)
      (short_unwritten trace follows.0 works.0 y (subst AsksUnwritten (sym follows.1) asks) follows.2 works.2)
  short_unwritten (RanOut ∷ trace) (Allocate program) x y asks follows works =
      ran_join (same_unwritten works.1)
      (short_unwritten trace follows.0 works.0 y (subst AsksUnwritten (sym follows.1) tt) follows.2 works.2)
  short_unwritten (Did did came ∷ trace) (Do Survey k) x y asks follows works =
      ran_join (surveyed_with follows.1.0 x works.0 (subst (λ (d : TraceItem). WorksAll view d x works.0) follows.1.1 works.1))
      (short_unwritten trace follows.0 works.0 y (subst AsksUnwritten (sym follows.1.2) (after_asks k follows.1.0 asks)) follows.2 works.2)
  short_unwritten (Did did came ∷ trace) (Do (Create g) k) x y asks follows works =
      absurd (never_short trace follows.0 OutOfMemory (move_asks (Did did came) (Do (Create g) k) follows.0 asks follows.1) follows.2 refl)
  short_unwritten (Stepped did came events left ∷ trace) (Try step k) x y asks follows works =
      absurd (never_short trace follows.0 OutOfMemory (move_asks (Stepped did came events left) (Try step k) follows.0 asks follows.1) follows.2 refl)
  short_unwritten (Stepped did came events left ∷ trace) (RebuildAll slots done k) x y asks follows works =
      absurd
      (never_short trace follows.0 OutOfMemory (move_asks (Stepped did came events left) (RebuildAll slots done k) follows.0 asks follows.1) follows.2
      refl)
  short_unwritten (item ∷ trace) program x y asks follows works = absurd follows.1

-- ---- memory that is asked for first

none_unwritten : (program : Program) → AsksForNone program → AsksUnwritten program
none_unwritten (Over status) none = tt
none_unwritten (Ask question k) none = λ reply is. none_unwritten (k reply) (none reply is)
none_unwritten (Take least most k short) none =
    (λ bytes. none_unwritten (k bytes) (none.0 bytes), λ bytes. none_unwritten (short bytes) (none.1 bytes))
none_unwritten (Put bytes program) none = none_unwritten program none
none_unwritten (Allocate program) none = absurd none
none_unwritten (Do (Create g) k) none = none
none_unwritten (Do Survey k) none = λ member. none_unwritten (k member) (none.0 member)
none_unwritten (Try step k) none = none
none_unwritten (RebuildAll slots done k) none = none

-- before anything is done to an array: then it is so before anything is written
pub first_unwritten : (program : Program) → AsksFirst program → AsksUnwritten program
first_unwritten (Over status) first = tt
first_unwritten (Ask question k) first = λ reply is. first_unwritten (k reply) (first reply is)
first_unwritten (Take least most k short) first =
    (λ bytes. first_unwritten (k bytes) (first.0 bytes), λ bytes. first_unwritten (short bytes) (first.1 bytes))
first_unwritten (Put bytes program) first = first_unwritten program first
first_unwritten (Allocate program) first = first_unwritten program first
first_unwritten (Do action k) first = none_unwritten (Do action k) first
first_unwritten (Try step k) first = none_unwritten (Try step k) first
first_unwritten (RebuildAll slots done k) first = none_unwritten (RebuildAll slots done k) first
