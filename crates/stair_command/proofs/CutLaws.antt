-- A crash cuts a trace within a step or between two.
use Rattle.std.proofs.Common.{◌≡◌, ◌∙◌, ◌⊎◌, List, [], ◌∷◌, ◌++◌, Option, inl, inr, refl, sym, ap, subst, append_assoc, arith, length, length-append}
use Rattle.std.specs.Prelude.{IsTrue, Bool}
use Rattle.stair_model.specs.Geometry.{Geometry}
use Rattle.stair_rack.specs.Answers.{IsHistory, Ran, any_call}
use Rattle.stair_rack.specs.Crash.{CrashMayLeave, EachImage}
use Rattle.stair_rack.specs.History.{Happening}
use Rattle.stair_rack.specs.Media.{Image}
use Rattle.stair_rack.specs.Moments.{IsMoment}
use Rattle.stair_rack.specs.declared.watcher.Event.{Event}
use Rattle.stair_rack.proofs.MomentLemmas.{ran_before}
use Rattle.stair_rack.proofs.TidyLemmas.{history_on}
use Rattle.stair_state.specs.State.{State}
use Rattle.stair_state.proofs.AloneLemmas.{left_consistent, left_stands}
use Rattle.stair_invariant.specs.Returning.{AnyReturns, StaysWithinTolerance, NoneReturns, Returning, StandsFor, StandsForAlone}
use Rattle.stair_array.specs.Machine.{Answer, Refusal, Step}
use Rattle.stair_array.specs.Promise.{Seen, is_open}
use Rattle.stair_command.specs.Devices.{DeviceView, Devices, WorksAll}
use Rattle.stair_command.specs.Program.{Program, Over, Ask, Take, Put, Allocate, Do, Try, RebuildAll}
use Rattle.stair_command.specs.Run.{ItemLeads, IsBefore, StaysWithinToleranceUpTo, IsLeftByNext, IsNext, IsOpenAt, IsUpTo, Runs, TraceLeads, now}
use Rattle.stair_command.specs.Trace.{TraceItem, Found as FoundOut, Took, TookLast, TakeFailed, HasPut, PutFailed, Grew, RanOut, Did, Stepped, AlongTrace, StepsProgram}
use Rattle.stair_command.proofs.RunLaws.{IsAt, OneGoes, did_stands, one_goes, one_ran, unstopped_from, upto_same, works_ran}

-- ---- histories

-- the one moment comes before the other, by one between them
upto_by : {old h mid c : List Happening} → IsMoment old h mid → IsUpTo mid c → IsUpTo h c
upto_by {old} {h} {mid} {c} at upto = record {
  before = [];
  later = upto.later ++ at.later;
  from = refl;
  to = upto.to ∙ ap (λ z. upto.later ++ z) at.to ∙ sym (append_assoc upto.later at.later h);
}

upto_moment : {old c new : List Happening} → IsMoment old c new → IsUpTo old c
upto_moment at = record { before = []; later = at.before; from = refl; to = at.from }

-- the moments of a stretch that is followed by another: one comes before the end of the first, or isn't before the second
moment_parts : (x y z c : List Happening) → Ran any_call x y → Ran any_call y z → IsMoment x c z → (IsBefore c y × IsMoment x c y) ⊎ IsMoment y c z
moment_parts x y z c first later at =
    elim (split at.later later.more c y (sym at.to ∙ later.is)) [
      | inl s ↦ inr (record { before = s.0; later = at.later; from = s.1; to = at.to })
      | inr s ↦ inl (record { next = s.0; more = s.1; is = s.2 }, record { before = at.before; later = s.0 ∷ s.1; from = at.from; to = s.2 })
    ]
  where
    split : (a b c y : List Happening) → a ++ c ≡ b ++ y
        → ((r : List Happening) × (c ≡ r ++ y)) ⊎ ((e : Happening) × (r : List Happening) × (y ≡ e ∷ (r ++ c)))
    split [] b c y same = inl (b, same)
    split (e ∷ a) [] c y same = inr (e, a, sym same)
    split (e ∷ a) (d ∷ b) c y same = let tail : a ++ c ≡ b ++ y = cc in split a b c y tail

-- a stretch in which nothing happens has no moment before its end
no_room : {P : Type 0} (x y c : List Happening) → IsMoment x c y → IsBefore c y → y ≡ x → P
no_room x y c at before same =
    let in_c = ap length at.from in
    let in_y = ap length before.is in
    absurd (omega (arith, ap length same, in_c, in_y, length-append at.before x, length-append before.more c))

same_moment : (x c : List Happening) → IsMoment x c x → c ≡ x
same_moment x c at = nothing at.before at.from
  where
    nothing : (front : List Happening) → c ≡ front ++ x → c ≡ x
    nothing [] same = same
    nothing (e ∷ front) same = absurd (omega (arith, ap length same, ap length at.to, length-append at.later c, length-append (e ∷ front) x))

-- ---- items

-- what a crash left of a rack that represents a state represents it
pub left_alone : (returning : Returning) (s : State) (h : List Happening) (image : Image) → IsHistory h → StandsFor returning s h → CrashMayLeave h image
    → StandsForAlone returning s image
left_alone NoneReturns s h image history stands left = left_stands s h image history stands left
left_alone AnyReturns s h image history stands left = left_consistent s h image history stands left

-- the step of an item was the next one of its program
next_step : (program rest : Program) (step : Step) (answer : Answer step) (events : List Event) (left : Bool) → StepsProgram (Stepped step answer events left) program rest
    → IsNext program step
next_step (Try to k) rest step answer events left moves = step_of moves.1
  where
    step_of : {a b : Step} {p : Answer a} {q : Answer b} {m n : List Event} {u v : Bool} → Stepped a p m u ≡ Stepped b q n v → a ≡ b
    step_of same = cc
next_step (RebuildAll slots done k) rest step answer events left moves = step_of moves.1
  where
    step_of : {a b : Step} {p : Answer a} {q : Answer b} {m n : List Event} {u v : Bool} → Stepped a p m u ≡ Stepped b q n v → a ≡ b
    step_of same = cc
next_step (Over status) rest step answer events left moves = absurd moves
next_step (Ask question k) rest step answer events left moves = absurd moves
next_step (Take least most k short) rest step answer events left moves = absurd moves
next_step (Put bytes program) rest step answer events left moves = absurd moves
next_step (Allocate program) rest step answer events left moves = absurd moves
next_step (Do action k) rest step answer events left moves = absurd moves

module _ {R W : Type 0} (view : DeviceView R W) (honest : IsTrue view.rack.honest) where
  abbrev h_of : Devices R W → List Happening
  h_of x = view.rack.history x.rack

  -- what a crash at a moment of the first item leaves, where that hadn't ended
  item_left : (returning : Returning) (before : List Happening) (s : State) (stopped : Option Refusal) (item : TraceItem) (program rest : Program)
      (x y : Devices R W) (c : List Happening) → StepsProgram item program rest → WorksAll view item x y → ItemLeads returning view item x y → IsHistory (h_of x)
      → IsAt view returning before s stopped x → IsMoment (h_of x) c (h_of y) → IsBefore c (h_of y)
      → ((h : List Happening) → IsMoment (h_of x) h (h_of y) → IsUpTo h c → StaysWithinTolerance returning s.geometry (is_open x.session) before h)
      → EachImage (λ image. StandsForAlone returning s image ⊎ IsLeftByNext returning before c program (now s (h_of x) stopped) image) c
  item_left returning before s stopped (Stepped step answer events left) program rest x y c moves works led history is_at at strict calm =
      elim works.0 [
        | inl does ↦ (λ image may. inr (record {
          step = step;
          next = next_step program rest step answer events left moves;
          unstopped = unstopped_from step does.was x.session stopped does.starts is_at.kept;
          member = does.was.member;
          left = (led does).cuts honest before s history is_at.is_in c at (calm c at (upto_same c)) image may;
        }))
        | inr refused_again ↦ no_room (h_of x) (h_of y) c at strict (ap (λ (z : Seen). z.told.history) refused_again.same)
      ]
  item_left returning before s stopped (Did action came) program rest x y c moves works led history is_at at strict calm =
      let ran = ran_before (one_ran view honest (Did action came) x y works) at in
      λ image may.
      inl (left_alone returning s c image (history_on history ran) (did_stands view honest returning before s action came x y c works is_at.is_in at calm) may)
  item_left returning before s stopped (FoundOut question) program rest x y c moves works led history is_at at strict calm =
      no_room (h_of x) (h_of y) c at strict (ap h_of works)
  item_left returning before s stopped (Took bytes) program rest x y c moves works led history is_at at strict calm =
      no_room (h_of x) (h_of y) c at strict (ap h_of works)
  item_left returning before s stopped (TookLast bytes) program rest x y c moves works led history is_at at strict calm =
      no_room (h_of x) (h_of y) c at strict (ap h_of works)
  item_left returning before s stopped (TakeFailed bytes) program rest x y c moves works led history is_at at strict calm =
      no_room (h_of x) (h_of y) c at strict (ap h_of works)
  item_left returning before s stopped (HasPut bytes) program rest x y c moves works led history is_at at strict calm =
      no_room (h_of x) (h_of y) c at strict (ap h_of works)
  item_left returning before s stopped (PutFailed bytes) program rest x y c moves works led history is_at at strict calm =
      no_room (h_of x) (h_of y) c at strict (ap h_of works)
  item_left returning before s stopped Grew program rest x y c moves works led history is_at at strict calm =
      no_room (h_of x) (h_of y) c at strict (ap h_of works)
  item_left returning before s stopped RanOut program rest x y c moves works led history is_at at strict calm =
      no_room (h_of x) (h_of y) c at strict (ap h_of works)

  -- a crash cuts the trace safely, from this state and refusal on
  pub record SafeOn (returning : Returning) (before : List Happening) (s : State) (stopped : Option Refusal) (program : Program) (trace : List TraceItem)
      (x y : Devices R W) (c : List Happening) : Type 0 where
    pub done : List TraceItem
    pub later : List TraceItem
    pub part : trace ≡ done ++ later
    pub rest : Program
    pub follows : AlongTrace StepsProgram done program rest
    pub mid : Devices R W
    pub ended : AlongTrace (WorksAll view) done x mid
    pub not_ended : AlongTrace (WorksAll view) later mid y
    pub ends_later : IsOpenAt view c later mid y not_ended
    pub reached : IsUpTo (h_of mid) c
    pub state : State
    pub stop : Option Refusal
    pub runs : Runs returning before done (now s (h_of x) stopped) (now state (h_of mid) stop)
    pub images : EachImage (λ image. StandsForAlone returning state image ⊎ IsLeftByNext returning before c rest (now state (h_of mid) stop) image) c

  -- after the first item
  safe_after : (returning : Returning) (before : List Happening) (s : State) (stopped : Option Refusal) (item : TraceItem) (program next : Program)
      (trace : List TraceItem) (x z y : Devices R W) (c : List Happening) → StepsProgram item program next → WorksAll view item x z
      → (one : OneGoes view returning before s stopped item x z) → SafeOn returning before one.state one.stop next trace z y c
      → SafeOn returning before s stopped program (item ∷ trace) x y c
  safe_after returning before s stopped item program next trace x z y c moves works one rest = record {
    done = item ∷ rest.done;
    later = rest.later;
    part = ap (λ l. item ∷ l) rest.part;
    rest = rest.rest;
    follows = (next, moves, rest.follows);
    mid = rest.mid;
    ended = (z, works, rest.ended);
    not_ended = rest.not_ended;
    ends_later = rest.ends_later;
    reached = rest.reached;
    state = rest.state;
    stop = rest.stop;
    runs = (now one.state (h_of z) one.stop, one.goes, rest.runs);
    images = rest.images;
  }

  -- a crash cuts a trace within an item or between two
  pub safe_on : (returning : Returning) (before : List Happening) (s : State) (stopped : Option Refusal) (program fin : Program) (trace : List TraceItem)
      (x y : Devices R W) (works : AlongTrace (WorksAll view) trace x y) (c : List Happening) → TraceLeads returning view trace x y works
      → AlongTrace StepsProgram trace program fin → IsHistory (h_of x) → IsAt view returning before s stopped x → IsMoment (h_of x) c (h_of y)
      → StaysWithinToleranceUpTo view returning s.geometry before c trace x y works → SafeOn returning before s stopped program trace x y c
  safe_on returning before s stopped program fin [] x y works c led follows history is_at at calm =
      let same : c ≡ h_of x = same_moment (h_of x) c (subst (IsMoment (h_of x) c) (ap h_of works) at) in
      record {
        done = [];
        later = [];
        part = refl;
        rest = program;
        follows = refl;
        mid = x;
        ended = refl;
        not_ended = works;
        ends_later = tt;
        reached = upto_moment at;
        state = s;
        stop = stopped;
        runs = refl;
        images = λ image may.
            inl (left_alone returning s (h_of x) image history is_at.is_in.stands (subst (λ (h : List Happening). CrashMayLeave h image) same may));
      }
  safe_on returning before s stopped program fin (item ∷ trace) x y works c led follows history is_at at calm =
      elim (moment_parts (h_of x) (h_of works.0) (h_of y) c (one_ran view honest item x works.0 works.1) (works_ran view honest trace works.0 y works.2) at) [
        | inl within ↦
            record {
              done = [];
              later = item ∷ trace;
              part = refl;
              rest = program;
              follows = refl;
              mid = x;
              ended = refl;
              not_ended = works;
              ends_later = within.0;
              reached = upto_moment at;
              state = s;
              stop = stopped;
              runs = refl;
              images =
                  item_left returning before s stopped item program follows.0 x works.0 c follows.1 works.1 led.0 history is_at within.1 within.0 calm.0;
            }
        | inr after ↦
            let upto : IsUpTo (h_of works.0) c = upto_moment after in
            let one = one_goes view honest returning before s stopped item x works.0 works.1 led.0 history is_at (λ h is. calm.0 h is (upto_by is upto)) in
            let rest =
            safe_on returning before one.state one.stop follows.0 fin trace works.0 y works.2 c led.1 follows.2
            (history_on history (one_ran view honest item x works.0 works.1)) one.is_at after
            (subst (λ (g : Geometry). StaysWithinToleranceUpTo view returning g before c trace works.0 y works.2) (sym one.geometry) calm.1) in
            safe_after returning before s stopped item program follows.0 trace x works.0 y c follows.1 works.1 one rest
      ]
