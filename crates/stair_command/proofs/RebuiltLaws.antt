-- The chunks of a rebuild come in order.
use Rattle.std.proofs.Common.{◌≡◌, ◌∙◌, ◌+◌, ◌-◌, ◌<◌, ◌≤◌, ℕ, List, [], ◌∷◌, ◌++◌, ◌⊎◌, inl, inr, refl, sym, ap, ap₂, subst, true, false, Option, None, Some, Ok, Err, add-one, append_assoc, append-nil, arith}
use Rattle.std.specs.Prelude.{Bool, IsOk, if◌then◌else◌, nat_lt, ⊤}
use Rattle.std.proofs.lemmas.Bool.{and_parts, ltb-true}
use Rattle.std.proofs.lemmas.Bool.Decides.{nat_tests}
use Rattle.stair_model.specs.Geometry.{Geometry}
use Rattle.stair_rack.specs.declared.watcher.Event.{Event}
use Rattle.stair_member.specs.Membership.{Membership, why_of}
use Rattle.stair_member.specs.declared.why.Why.{Why}
use Rattle.stair_member.specs.declared.why.Why.TheVariants as why
use Rattle.stair_invariant.specs.Session.{ArrayState}
use Rattle.stair_array.specs.Calls.{refused}
use Rattle.stair_array.specs.Causes.{First, IsAllowed, IsNextChunk, UnderWay}
use Rattle.stair_array.specs.Machine.{Answer, Chunk, Dropped, EpochsSpent, Progress, Promoted, RebuildNext, Recover, Refusal, Step, TooFew}
use Rattle.stair_array.specs.Promise.{AnswersStopped, Ended, Ends, Found, GoesOn, Keeps, KeepsProgress, KeepsRebuild, Opened, Performs, Seen, Phase, StartsFrom, Stays}
use Rattle.stair_array.proofs.OpenStepLemmas.{starts_open}
use Rattle.stair_command.specs.Action.{Create, Outcome, Survey}
use Rattle.stair_command.specs.Devices.{DeviceView, Devices, WorksAll, seen_of, session_after}
use Rattle.stair_command.specs.Kept.{HasMember}
use Rattle.stair_command.specs.Rebuilt.{AreInOrder, ComesBehind, ComesNext, EndsWith, IsInTurn, NextChunk, chunks_below, is_rebuilding, is_rebuilt, next_behind, next_chunk, progress_at, progress_of, stands_in, still_in}
use Rattle.stair_command.specs.Trace.{TraceItem, Did, Stepped, AlongTrace}
use Rattle.stair_command.proofs.KeptLaws.{Closes, Same, Takes, comes, known_closed, known_once, open_known, same_session}

-- ---- slots that are rebuilt

rebuilding_true : (reason : Why) → reason ≡ why.Rebuilding → is_rebuilding reason ≡ true
rebuilding_true reason is = ap is_rebuilding is

rebuilding_is : (reason : Why) → is_rebuilding reason ≡ true → reason ≡ why.Rebuilding
rebuilding_is why.Rebuilding is = refl
rebuilding_is _ is = absurd (let same = is in cc)

rebuilt_true : (m : Membership) (j : ℕ) → j < m.array.geometry.n → why_of m j ≡ why.Rebuilding → is_rebuilt m j ≡ true
rebuilt_true m j below is = rw (rebuilding_true (why_of m j) is) (grind (arith, nat_tests))

rebuilt_is : (m : Membership) (j : ℕ) → is_rebuilt m j ≡ true → (j < m.array.geometry.n) × (why_of m j ≡ why.Rebuilding)
rebuilt_is m j is =
    let both = and_parts (nat_lt j m.array.geometry.n) (is_rebuilding (why_of m j)) is in
    (ltb-true j m.array.geometry.n both.0, rebuilding_is (why_of m j) both.1)

if_true : {A : Type 0} (b : Bool) (x y : A) → b ≡ true → (if b then x else y) ≡ x
if_true true x y is = refl
if_true false x y is = absurd (let same = is in cc)

if_false : {A : Type 0} (b : Bool) (x y : A) → (b ≡ true → ⊥) → (if b then x else y) ≡ y
if_false true x y not = absurd (not refl)
if_false false x y not = refl

none_or_some : {A : Type 0} (o : Option A) → (o ≡ None) ⊎ ((x : A) × (o ≡ Some x))
none_or_some None = inl refl
none_or_some (Some x) = inr (x, refl)

-- ---- what a step does to where a rebuild stands

-- it stands as the session says, unless the array was stopped
abbrev Follows : Option NextChunk → Phase → Type 0
Follows next (Opened a) = a.stopped ≡ None → next ≡ stands_in (Opened a)
Follows next _ = next ≡ None

progress_follows : (next : Option NextChunk) (was is : ArrayState) → KeepsProgress was is → next ≡ stands_in (Opened was)
    → still_in (Opened is) next ≡ stands_in (Opened is)
progress_follows next was is (Stays same rebuilt) stands =
    elim (none_or_some is.rebuild) [
      | inl none ↦
          let before : was.rebuild ≡ None = sym same ∙ none in
          let next_is : next ≡ None = rw before at stands in
          let is_then : stands_in (Opened is) ≡ None = rw none refl in
          ap (still_in (Opened is)) next_is ∙ sym is_then
      | inr some ↦
          let at : NextChunk = next_chunk some.0.slot some.0.stripe in
          let before : was.rebuild ≡ Some some.0 = sym same ∙ some.1 in
          let next_is : next ≡ Some at = rw before at stands in
          let is_then : stands_in (Opened is) ≡ Some at = rw some.1 refl in
          let is_one = rebuilt some.0 some.1 in
          ap (still_in (Opened is)) next_is
          ∙ if_true (is_rebuilt is.member at.slot) (Some at) None (rebuilt_true is.member at.slot is_one.below is_one.why) ∙ sym is_then
    ]
progress_follows next was is (Ended rebuild before not none) stands =
    let at : NextChunk = next_chunk rebuild.slot rebuild.stripe in
    let next_is : next ≡ Some at = rw before at stands in
    let is_then : stands_in (Opened is) ≡ None = rw none refl in
    ap (still_in (Opened is)) next_is
    ∙ if_false (is_rebuilt is.member at.slot) (Some at) None
    (λ one. let found = rebuilt_is is.member at.slot one in not (record { below = found.0; why = found.1 })) ∙ sym is_then

-- an opening starts from an array that was found
starts_found : (was : ArrayState) (session : Phase) → StartsFrom Recover was session → session ≡ Found was.member
starts_found was (Found m) starts = ap Found (sym (ap (λ a. a.member) starts))
starts_found was _ starts = absurd starts

-- after which no slot is under way
pub opened_fresh : (answer : Answer Recover) (was is : ArrayState) → KeepsRebuild Recover answer was is → IsOk answer → is.rebuild ≡ None
opened_fresh (Ok g) was is kept ok = kept
opened_fresh (Err refusal) was is kept ok = absurd (let same = ok in cc)

comes_next : (was : ArrayState) (j t : ℕ) (next : Option NextChunk) → IsNextChunk was j t → next ≡ stands_in (Opened was) → ComesNext next was.member j t
comes_next was j t next (UnderWay rebuild is slot stripe) stands =
    let next_is : next ≡ Some (next_chunk rebuild.slot rebuild.stripe) = rw is at stands in
    subst (λ (n : Option NextChunk). ComesNext n was.member j t) (sym next_is) (sym slot, sym stripe)
comes_next was j t next (First none lowest begins) stands =
    let next_is : next ≡ None = rw none at stands in
    subst (λ (n : Option NextChunk). ComesNext n was.member j t) (sym next_is) (lowest, begins)

module _ (events : List Event) (left : Bool) where
  -- what an open array answers of a rebuild is in turn
  in_turn : (step : Step) (answer : Answer step) (was is : ArrayState) (next : Option NextChunk) → next ≡ stands_in (Opened was)
      → IsAllowed step answer was → KeepsRebuild step answer was is → IsInTurn (Stepped step answer events left) next (Opened was)
  in_turn RebuildNext (Ok (Chunk j t)) was is next stands allowed kept = (comes_next was j t next allowed stands, kept.0)
  in_turn RebuildNext (Ok (Promoted j)) was is next stands allowed kept =
      (allowed.0, comes_next was j allowed.0 next allowed.1 stands, kept.2 allowed.0 allowed.1)
  in_turn RebuildNext (Ok (Dropped j)) was is next stands allowed kept = (allowed.0, comes_next was j allowed.0 next allowed.1 stands)
  in_turn _ _ was is next stands allowed kept = tt

  -- an answer that is refused, and an opening, are in turn anywhere
  refused_turn : (step : Step) (refusal : Refusal) (next : Option NextChunk) (session : Phase)
      → IsInTurn (Stepped step (Err refusal) events left) next session
  refused_turn RebuildNext refusal next session = tt
  refused_turn _ refusal next session = tt

  -- and it stands then as the array says
  stands_then : (step : Step) (answer : Answer step) (was is : ArrayState) (next : Option NextChunk) → next ≡ stands_in (Opened was)
      → (step ≡ Recover → ⊥) → KeepsRebuild step answer was is → Keeps answer is.stopped → is.stopped ≡ None
      → next_behind (Stepped step answer events left) (Opened is) next ≡ stands_in (Opened is)
  stands_then RebuildNext (Ok (Chunk j t)) was is next stands other kept keeps going =
      let is_then : stands_in (Opened is) ≡ Some (next_chunk j (t + 1)) = rw kept.2 refl in sym is_then
  stands_then RebuildNext (Ok (Promoted j)) was is next stands other kept keeps going =
      let is_then : stands_in (Opened is) ≡ None = rw kept.0 refl in sym is_then
  stands_then RebuildNext (Ok (Dropped j)) was is next stands other kept keeps going =
      let is_then : stands_in (Opened is) ≡ None = rw kept.0 refl in sym is_then
  stands_then RebuildNext (Err (TooFew whys)) was is next stands other kept keeps going = absurd (let same = sym going ∙ keeps.1 in cc)
  stands_then RebuildNext (Err EpochsSpent) was is next stands other kept keeps going = absurd (let same = sym going ∙ keeps.1 in cc)
  stands_then Recover answer was is next stands other kept keeps going = absurd (other refl)
  stands_then _ _ was is next stands other kept keeps going = progress_follows next was is kept stands

-- ---- traces

module _ {R W : Type 0} (view : DeviceView R W) where
  -- one item is in turn, and leaves it where the session is then
  pub record GoesInTurn (item : TraceItem) (next : Option NextChunk) (x y : Devices R W) : Type 0 where
    pub turn : IsInTurn item next x.session
    pub follows : Follows (next_behind item y.session next) y.session

  opening_in_turn : (answer : Answer Recover) (events : List Event) (left : Bool) (next : Option NextChunk) (x y : Devices R W)
      → Follows next x.session → Performs Recover answer events (seen_of view x) (seen_of view y)
      → GoesInTurn (Stepped Recover answer events left) next x y
  opening_in_turn answer events left next x y follows does =
      let none : next ≡ None = subst (λ (s : Phase). Follows next s) (starts_found does.was x.session does.starts) follows in
      record {
        turn = tt;
        follows = elim does.ends [
          | Ends is err closed ↦ subst (λ (s : Phase). Follows (still_in s next) s) (sym closed) refl
          | GoesOn ok keeps opened ↦
              let fresh : stands_in (Opened does.is) ≡ None = rw (opened_fresh answer does.was does.is does.rebuild (ok refl)) refl in
              subst (λ (s : Phase). Follows (still_in s next) s) (sym opened) (λ going. ap (still_in (Opened does.is)) none ∙ sym fresh)
        ];
      }

  step_in_turn : (step : Step) (answer : Answer step) (events : List Event) (left : Bool) (next : Option NextChunk) (x y : Devices R W)
      → (step ≡ Recover → ⊥) → Follows next x.session → Performs step answer events (seen_of view x) (seen_of view y)
      → GoesInTurn (Stepped step answer events left) next x y
  step_in_turn step answer events left next x y other follows does =
      let open_at = starts_open step other does.was x.session does.starts in
      let stands : next ≡ stands_in (Opened does.was) = (subst (λ (s : Phase). Follows next s) open_at.is_open follows) open_at.unstopped in
      record {
        turn = subst
            (λ (s : Phase). IsInTurn (Stepped step answer events left) next s)
            (sym open_at.is_open) (in_turn events left step answer does.was does.is next stands does.allowed does.rebuild);
        follows = elim does.ends [
          | Ends is err closed ↦ absurd (other is)
          | GoesOn ok keeps opened ↦
              subst
              (λ (s : Phase). Follows (next_behind (Stepped step answer events left) s next) s)
              (sym opened) (λ going. stands_then events left step answer does.was does.is next stands other does.rebuild keeps going)
        ];
      }

  -- an array that was stopped refuses, and stays as it is
  stopped_in_turn : (step : Step) (answer : Answer step) (events : List Event) (left : Bool) (next : Option NextChunk) (x y : Devices R W)
      → AnswersStopped step answer events (seen_of view x) (seen_of view y) → GoesInTurn (Stepped step answer events left) next x y
  stopped_in_turn step answer events left next x y stopped =
      let stays : y.session ≡ Opened stopped.array = ap (λ (z : Seen). z.session) stopped.same ∙ stopped.is_open in
      record {
        turn = subst
            (λ (a : Answer step). IsInTurn (Stepped step a events left) next x.session)
            (sym stopped.answered) (refused_turn events left step (refused stopped.fault) next x.session);
        follows = subst
            (λ (s : Phase). Follows (next_behind (Stepped step answer events left) s next) s)
            (sym stays) (λ going. absurd (let same = sym going ∙ stopped.stopped in cc));
      }

  looked : (outcome : Outcome Survey) (next : Option NextChunk) → next ≡ None → Follows next (session_after outcome)
  looked (Ok m) next none = none
  looked (Err fault) next none = none

  one_in_turn : (item : TraceItem) (next : Option NextChunk) (x y : Devices R W) → Follows next x.session → WorksAll view item x y
      → GoesInTurn item next x y
  one_in_turn (Stepped Recover answer events left) next x y follows works =
      elim works.0 [
        | inl does ↦ opening_in_turn answer events left next x y follows does
        | inr stopped ↦ stopped_in_turn Recover answer events left next x y stopped
      ]
  one_in_turn (Stepped step answer events left) next x y follows works =
      elim works.0 [
        | inl does ↦ step_in_turn step answer events left next x y (λ same. cc) follows does
        | inr stopped ↦ stopped_in_turn step answer events left next x y stopped
      ]
  one_in_turn (Did (Create g) outcome) next x y follows works =
      record { turn = tt; follows = subst (λ (s : Phase). Follows next s) (sym works.2) (subst (λ (s : Phase). Follows next s) works.1 follows) }
  one_in_turn (Did Survey outcome) next x y follows works =
      record {
        turn = tt;
        follows = subst
            (λ (s : Phase). Follows next s)
            (sym works.2) (looked outcome next (subst (λ (s : Phase). Follows next s) works.1 follows));
      }
  one_in_turn item next x y follows works =
      record { turn = tt; follows = subst (λ (s : Phase). Follows next s) (sym (same_session view works)) follows }

  pub in_order : (next : Option NextChunk) (trace : List TraceItem) (x y : Devices R W) (works : AlongTrace (WorksAll view) trace x y) → Follows next x.session
      → AreInOrder view next trace x y works
  in_order next [] x y works follows = tt
  in_order next (item ∷ trace) x y works follows =
      let one = one_in_turn item next x works.0 follows works.1 in
      (one.turn, in_order (next_behind item works.0.session next) trace works.0 y works.2 one.follows)

  follows_first : (session : Phase) → Follows (stands_in session) session
  follows_first (Opened a) = λ going. refl
  follows_first _ = refl

  pub chunks_in_order : (trace : List TraceItem) (x y : Devices R W) (works : AlongTrace (WorksAll view) trace x y)
      → AreInOrder view (stands_in x.session) trace x y works
  chunks_in_order trace x y works = in_order (stands_in x.session) trace x y works (follows_first x.session)

-- ---- runs

progress_append : (a b : List TraceItem) → progress_of (a ++ b) ≡ progress_of a ++ progress_of b
progress_append [] b = refl
progress_append (item ∷ a) b =
    ap (λ (p : List Progress). progress_at item ++ p) (progress_append a b) ∙ sym (append_assoc (progress_at item) (progress_of a) (progress_of b))

-- one item more, which answered so of a rebuild
ends_more : (answers more : List Progress) (done : List TraceItem) (item : TraceItem) → progress_at item ≡ more → EndsWith answers done
    → EndsWith (answers ++ more) (done ++ item ∷ [])
ends_more answers more done item is ends = record {
  before = ends.before;
  run = ends.run ++ item ∷ [];
  joined = ap (λ (l : List TraceItem). l ++ item ∷ []) ends.joined ∙ append_assoc ends.before ends.run (item ∷ []);
  answered = progress_append ends.run (item ∷ []) ∙ ap₂ (λ (a b : List Progress). a ++ b) ends.answered (append-nil (progress_at item) ∙ is);
}

ends_none : (done : List TraceItem) → EndsWith [] done
ends_none done = record { before = done; run = []; joined = sym (append-nil done); answered = refl }

-- The slot that is under way has had its chunks one after the other, and another stripe comes.
abbrev Ran : List TraceItem → Option NextChunk → Phase → Type 0
Ran done None session = ⊤
Ran done (Some next) session = EndsWith (chunks_below next.slot next.stripe) done
    × ((m : Membership) → HasMember session m → next.stripe < m.array.geometry.stripes)

-- the chunks below the one that comes next were the last
ran_before : (done : List TraceItem) (next : Option NextChunk) (session : Phase) (m : Membership) (j t : ℕ) → Ran done next session → ComesNext next m j t
    → EndsWith (chunks_below j t) done
ran_before done (Some next) session m j t ran comes =
    subst (λ (i : ℕ). EndsWith (chunks_below i t) done) (sym comes.0)
    (subst (λ (u : ℕ). EndsWith (chunks_below next.slot u) done) (sym comes.1) ran.0)
ran_before done None session m j t ran comes = subst (λ (u : ℕ). EndsWith (chunks_below j u) done) (sym comes.1) (ends_none done)

-- the last stripe is the one whose chunk comes next where none is after it
last_stripe : (done : List TraceItem) (next : Option NextChunk) (session : Phase) (m : Membership) (j t : ℕ) → Ran done next session
    → HasMember session m → ComesNext next m j t → m.array.geometry.stripes ≤ t + 1 → t ≡ m.array.geometry.stripes - 1
last_stripe done (Some next) session m j t ran has comes last =
    let below : next.stripe < m.array.geometry.stripes = ran.1 m has in omega (arith, comes.1, last, below)
last_stripe done None session m j t ran has comes last = omega (arith, comes.1, last)

behind : (item : TraceItem) (trace : List TraceItem) (next : Option NextChunk) (session : Phase) → IsInTurn item next session → Ran trace next session
    → ComesBehind item trace session
behind (Stepped RebuildNext (Ok (Chunk j t)) events left) trace next (Opened a) turn ran = ran_before trace next (Opened a) a.member j t ran turn.0
behind (Stepped RebuildNext (Ok (Promoted j)) events left) trace next (Opened a) turn ran =
    subst (λ (u : ℕ). EndsWith (chunks_below j u) trace) (last_stripe trace next (Opened a) a.member j turn.0 ran refl turn.1 turn.2)
    (ran_before trace next (Opened a) a.member j turn.0 ran turn.1)
behind (Stepped RebuildNext (Ok (Chunk j t)) events left) trace next _ turn ran = absurd turn
behind (Stepped RebuildNext (Ok (Promoted j)) events left) trace next _ turn ran = absurd turn
behind _ trace next session turn ran = tt

-- where a slot is under way the session knows of its slots
known_for : (next : NextChunk) (session : Phase) → Follows (Some next) session → (m : Membership) × HasMember session m
known_for next (Opened a) follows = (a.member, refl)
known_for next _ follows = absurd (let same = follows in cc)

-- and in which it is in turn
turn_known : (events : List Event) (left : Bool) (next : Option NextChunk) (session : Phase) (j t : ℕ)
    → IsInTurn (Stepped RebuildNext (Ok (Chunk j t)) events left) next session
    → (m : Membership) × HasMember session m × ComesNext next m j t × (t + 1 < m.array.geometry.stripes)
turn_known events left next (Opened a) j t turn = (a.member, refl, turn.0, turn.1)
turn_known events left next _ j t turn = absurd turn

ran_still : (done : List TraceItem) (next : Option NextChunk) (session : Phase) → Ran done next session → Ran done (still_in session next) session
ran_still done (Some next) (Opened a) ran = either (is_rebuilt a.member next.slot)
  where
    either : (rebuilt : Bool) → Ran done (if rebuilt then Some next else None) (Opened a)
    either true = ran
    either false = tt
ran_still done None (Opened a) ran = tt
ran_still done next _ ran = tt

module _ {R W : Type 0} (view : DeviceView R W) where
  -- the stripes of the array stay as many
  stripes_stay : (item : TraceItem) (x y : Devices R W) (m : Membership) (stripe : ℕ) → HasMember x.session m → WorksAll view item x y
      → stripe < m.array.geometry.stripes → (last : Membership) → HasMember y.session last → stripe < last.array.geometry.stripes
  stripes_stay item x y m stripe has works below last ends =
      elim (comes view item x y m has works) [
        | Same same ↦
            let is : m ≡ last = known_once x.session m last has (subst (λ (s : Phase). HasMember s last) same ends) in
            subst (λ (n : Membership). stripe < n.array.geometry.stripes) is below
        | Closes closed ↦ absurd (known_closed y.session last closed ends)
        | Takes step answer events left is does known opened ↦
            let is_last : does.is.member ≡ last = known_once y.session does.is.member last (open_known y.session does.is.member opened) ends in
            let was_below : stripe < does.was.member.array.geometry.stripes =
            subst (λ (n : Membership). stripe < n.array.geometry.stripes) (sym known) below in
            subst (λ (n : Membership). stripe < n.array.geometry.stripes) is_last
            (subst (λ (g : Geometry). stripe < g.stripes) (sym does.goes_on.geometry) was_below)
      ]

  -- an item that answers nothing of a rebuild leaves the run as it is
  ran_stays : (done : List TraceItem) (item : TraceItem) (next : Option NextChunk) (x y : Devices R W) → progress_at item ≡ [] → Follows next x.session
      → WorksAll view item x y → Ran done next x.session → Ran (done ++ item ∷ []) next y.session
  ran_stays done item None x y is follows works ran = tt
  ran_stays done item (Some next) x y is follows works ran =
      let known = known_for next x.session follows in (
        subst (λ (p : List Progress). EndsWith p (done ++ item ∷ [])) (append-nil (chunks_below next.slot next.stripe))
            (ends_more (chunks_below next.slot next.stripe) [] done item is ran.0),
        stripes_stay item x y known.0 next.stripe known.1 works (ran.1 known.0 known.1),
      )

  ran_next : (done : List TraceItem) (item : TraceItem) (next : Option NextChunk) (x y : Devices R W) → Follows next x.session → IsInTurn item next x.session
      → WorksAll view item x y → Ran done next x.session → Ran (done ++ item ∷ []) (next_behind item y.session next) y.session
  ran_next done (Stepped RebuildNext (Ok (Chunk j t)) events left) next x y follows turn works ran =
      let known = turn_known events left next x.session j t turn in
      let item : TraceItem = Stepped RebuildNext (Ok (Chunk j t)) events left in (
        subst (λ (u : ℕ). EndsWith (chunks_below j u) (done ++ item ∷ [])) (sym (add-one t))
            (ends_more (chunks_below j t) (Chunk j t ∷ []) done item refl (ran_before done next x.session known.0 j t ran known.2)),
        stripes_stay item x y known.0 (t + 1) known.1 works known.3,
      )
  ran_next done (Stepped RebuildNext (Ok (Promoted j)) events left) next x y follows turn works ran = tt
  ran_next done (Stepped RebuildNext (Ok (Dropped j)) events left) next x y follows turn works ran = tt
  ran_next done (Stepped step answer events left) next x y follows turn works ran =
      let item : TraceItem = Stepped step answer events left in
      ran_still (done ++ item ∷ []) next y.session (ran_stays done item next x y refl follows works ran)
  ran_next done (Did (Create g) outcome) next x y follows turn works ran =
      subst (λ (n : Option NextChunk). Ran (done ++ Did (Create g) outcome ∷ []) n y.session)
      (sym (subst (λ (s : Phase). Follows next s) works.1 follows)) tt
  ran_next done (Did Survey outcome) next x y follows turn works ran =
      subst (λ (n : Option NextChunk). Ran (done ++ Did Survey outcome ∷ []) n y.session)
      (sym (subst (λ (s : Phase). Follows next s) works.1 follows)) tt
  ran_next done item next x y follows turn works ran = ran_stays done item next x y refl follows works ran

  -- where it stands after a trace
  pub record HasRan (trace : List TraceItem) (y : Devices R W) : Type 0 where
    pub next : Option NextChunk
    pub follows : Follows next y.session
    pub ran : Ran trace next y.session

  has_ran : (done trace : List TraceItem) (next : Option NextChunk) (x y : Devices R W) → Follows next x.session → Ran done next x.session
      → AlongTrace (WorksAll view) trace x y → HasRan (done ++ trace) y
  has_ran done [] next x y follows ran works =
      let is : y.session ≡ x.session = same_session view works in
      record {
        next = next;
        follows = subst (λ (s : Phase). Follows next s) (sym is) follows;
        ran = subst (λ (s : Phase). Ran (done ++ []) next s) (sym is) (subst (λ (l : List TraceItem). Ran l next x.session) (sym (append-nil done)) ran);
      }
  has_ran done (item ∷ trace) next x y follows ran works =
      let one = one_in_turn view item next x works.0 follows works.1 in
      subst (λ (l : List TraceItem). HasRan l y) (append_assoc done (item ∷ []) trace)
      (has_ran (done ++ item ∷ []) trace (next_behind item works.0.session next) works.0 y one.follows
      (ran_next done item next x works.0 follows one.turn works.1 ran) works.2)

  pub runs_are_whole : (trace : List TraceItem) (item : TraceItem) (x y z : Devices R W) → AlongTrace (WorksAll view) trace x y → WorksAll view item y z
      → stands_in x.session ≡ None → ComesBehind item trace y.session
  runs_are_whole trace item x y z works last none =
      let follows : Follows None x.session = subst (λ (n : Option NextChunk). Follows n x.session) none (follows_first view x.session) in
      let ran = has_ran [] trace None x y follows tt works in
      behind item trace ran.next y.session (one_in_turn view item ran.next y z ran.follows last).turn ran.ran
