-- Where a step of an open array begins and ends, whether media come back or not: the array serves a state's stripes, and goes on or stops.
use Rattle.std.proofs.Common.{◌≡◌, ◌⊎◌, List, inl, inr, refl, sym, ap, ◌∙◌, subst, None, Option, true}
use Rattle.std.specs.Prelude.{IsSome, Err}
use Rattle.stair_model.specs.Geometry.{Geometry}
use Rattle.stair_rack.specs.Answers.{IsHistory}
use Rattle.stair_rack.specs.History.{Happening}
use Rattle.stair_rack.specs.declared.watcher.Event.{Event}
use Rattle.stair_member.specs.declared.fault.FenceFault.{FenceFault}
use Rattle.stair_member.specs.declared.fault.FenceFault.TheVariants as fence
use Rattle.stair_state.specs.Blocks.{AreEncodingsOf, Codewords}
use Rattle.stair_state.specs.State.{Content, State}
use Rattle.stair_invariant.specs.InSession.{IsOfContent, state_with}
use Rattle.stair_invariant.specs.Leading.{led_to}
use Rattle.stair_invariant.specs.Opening.{StaysArray}
use Rattle.stair_invariant.specs.Returning.{Returning, StaysWithinTolerance, StandsFor, Knows}
use Rattle.stair_invariant.specs.Session.{ArrayState, IsOpenWith, IsRememberedIn, Remembered}
use Rattle.stair_invariant.proofs.Serving.{StaysWithinToleranceTo, IsServing, IsGoing, LeadsReads}
use Rattle.stair_array.specs.Calls.{refused}
use Rattle.stair_array.specs.Machine.{Answer, Recover, Step}
use Rattle.stair_array.specs.Promise.{EndsIn, IsInState, IsOpenFor, Keeps, KeepsProgress, Opened, Performs, Seen, ServesState, Phase, StartsFrom, is_open}
use Rattle.stair_array.proofs.LedOnLemmas.{led_open}

pub calm_over : (returning : Returning) (g f : Geometry) (before h : List Happening) → g ≡ f → StaysWithinToleranceTo returning f before h
    → StaysWithinToleranceTo returning g before h
calm_over returning g f before h same = subst (λ (k : Geometry). StaysWithinToleranceTo returning k before h) (sym same)

pub going_over : (returning : Returning) (g f : Geometry) (before h : List Happening) → g ≡ f → IsGoing returning f before h
    → IsGoing returning g before h
going_over returning g f before h same = subst (λ (k : Geometry). IsGoing returning k before h) (sym same)

-- what is calm to a state is calm to the array that is open for it
pub calm_for : {returning : Returning} {before now : List Happening} {s : State} {was : ArrayState} → IsOpenFor returning before s was now
    → (h : List Happening) → StaysWithinTolerance returning s.geometry true before h → StaysWithinToleranceTo returning was.member.array.geometry before h
calm_for {returning} {before} {now} {s} {was} begins h calm =
    calm_over returning was.member.array.geometry s.geometry before h begins.geometry calm

-- a refusal for good is kept
pub kept_fault : (T : Type 0) (fault : FenceFault) (kept : Option FenceFault) → Keeps {T = T} (Err (refused fault)) kept → IsSome kept
kept_fault T (fence.TooFew whys) kept keeps = subst IsSome (sym keeps.1) refl
kept_fault T fence.EpochsSpent kept keeps = subst IsSome (sym keeps.1) refl

-- the session has an array that wasn't stopped
pub record IsOpened (is : ArrayState) (session : Phase) : Type 0 where
  pub is_open : session ≡ Opened is
  pub unstopped : is.stopped ≡ None

-- as it has before any step but an opening
pub opening_or_open : (step : Step) (was : ArrayState) (session : Phase) → StartsFrom step was session
    → (step ≡ Recover) ⊎ IsOpened was session
opening_or_open Recover was session starts = inl refl
opening_or_open step was (Opened a) starts = inr (record {
  is_open = ap (λ (b : ArrayState). Opened b) (sym starts.0);
  unstopped = ap (λ (b : ArrayState). b.stopped) starts.0 ∙ starts.1;
})
opening_or_open step was _ starts = absurd starts

pub starts_open : (step : Step) → ¬ (step ≡ Recover) → (was : ArrayState) (session : Phase) → StartsFrom step was session → IsOpened was session
starts_open step other was session starts =
    elim (opening_or_open step was session starts) [
      | inl opening ↦ absurd (other opening)
      | inr open_at ↦ open_at
    ]

-- an array that has forgotten what it remembered, which is as open as it was
abbrev pub forgetting : ArrayState → ArrayState
forgetting a = record a { remembered = None }

pub forgets_open : (before : List Happening) (a : ArrayState) (words : Codewords) (h : List Happening) → IsOpenWith before a words h
    → IsOpenWith before (forgetting a) words h
forgets_open before a words h is = record {
  array = record { member = is.array.member; marks = is.array.marks; enough = is.array.enough; rebuilds = is.array.rebuilds };
  ran = is.ran;
  held = is.held;
  own = is.own;
  live = is.live;
  shut = is.shut;
  rebuilt = is.rebuilt;
}

-- what is forgotten is of whichever stripes
pub forgotten_in : (words : Codewords) (known : Option Remembered) → known ≡ None → IsRememberedIn words known
forgotten_in words known none = subst (IsRememberedIn words) (sym none) tt

-- A step but an opening:
module _ (returning : Returning) (laws : LeadsReads returning) (step : Step) (other : ¬ (step ≡ Recover)) (answer : Answer step) (events : List Event)
    (x y : Seen) (p : Performs step answer events x y)
    (before : List Happening) (s : State) (state : IsInState returning before s x) where
  opens : IsOpened p.was x.session
  opens = starts_open step other p.was x.session p.starts

  -- the array that it begins with is open, and wasn't stopped
  pub open_first : IsOpenFor returning before s p.was x.told.history
  open_first = by (subst (λ (e : Phase). ServesState returning before s e x.told) opens.is_open state.serves)
    where
      by : ServesState returning before s (Opened p.was) x.told → IsOpenFor returning before s p.was x.told.history
      by (inl is) = is
      by (inr stops) = absurd (let never = subst IsSome opens.unstopped stops in cc)

  pub of_state : IsOfContent p.was.member open_first.words s.content
  of_state = record {
    encodings =
        subst (λ (g : Geometry). AreEncodingsOf g s.content.blocks open_first.words) (sym open_first.geometry) open_first.encodings;
    frozen = open_first.frozen;
    label = open_first.label;
  }

  -- the state is that of the array
  same_state : s ≡ state_with p.was.member s.content None p.was.member.array
  same_state = λ i. record {
    geometry = sym open_first.geometry i;
    content = s.content;
    in_doubt = open_first.certain i;
    seats = open_first.seats i;
  }

  pub serves_first : IsHistory x.told.history → IsServing returning before p.was open_first.words s.content x.told.history
  serves_first history = record {
    is_open = open_first.is_open;
    history = history;
    of = of_state;
    knows = subst (λ (r : State). Knows returning r p.was.member x.told.history) same_state open_first.knows;
  }

  -- as it does without what it remembers
  pub serves_bare : IsHistory x.told.history → IsServing returning before (forgetting p.was) open_first.words s.content x.told.history
  serves_bare history = record {
    is_open = forgets_open before p.was open_first.words x.told.history open_first.is_open;
    history = history;
    of = of_state;
    knows = (serves_first history).knows;
  }

  -- what is calm to a state is calm to the array
  pub calm_first : (h : List Happening) → StaysWithinTolerance returning s.geometry (is_open x.session) before h
      → StaysWithinToleranceTo returning p.was.member.array.geometry before h
  calm_first h calm =
      calm_over returning p.was.member.array.geometry s.geometry before h open_first.geometry
      (subst (λ (e : Phase). StaysWithinTolerance returning s.geometry (is_open e) before h) opens.is_open calm)

  -- the session goes on with the array that it ends with
  pub goes_on_as : y.session ≡ Opened p.is × Keeps answer p.is.stopped
  goes_on_as = by p.ends
    where
      by : EndsIn step answer p.is y.session → y.session ≡ Opened p.is × Keeps answer p.is.stopped
      by (EndsIn.Ends at error session) = absurd (other at)
      by (EndsIn.GoesOn fine keeps session) = (session, keeps)

  -- IN THE END it serves these stripes, or it was stopped

  pub serves_now : (words : Codewords) (content : Content) → p.is.member.array.geometry ≡ p.was.member.array.geometry
      → IsServing returning before p.is words content y.told.history → IsRememberedIn words p.is.remembered → StaysWithinToleranceTo returning p.was.member.array.geometry before y.told.history
      → IsInState returning before (state_with p.is.member content None p.is.member.array) y
  serves_now words content same is known calm = record {
    stands =
        laws.stands before p.is words content y.told.history is
        (calm_over returning p.is.member.array.geometry p.was.member.array.geometry before y.told.history same calm);
    serves =
        subst (λ (e : Phase). ServesState returning before (state_with p.is.member content None p.is.member.array) e y.told) (sym goes_on_as.0)
        (inl (record {
          words = words;
          encodings = is.of.encodings;
          is_open = is.is_open;
          geometry = refl;
          frozen = is.of.frozen;
          label = is.of.label;
          seats = refl;
          certain = refl;
          knows = is.knows;
          remembered = known;
        }));
  }

  pub serves_over : (words : Codewords) (content : Content) → p.is.member.array.geometry ≡ p.was.member.array.geometry
      → IsServing returning before (led_to p.was p.is.member) words content y.told.history → KeepsProgress p.was p.is
      → IsRememberedIn words p.is.remembered
      → StaysWithinToleranceTo returning p.was.member.array.geometry before y.told.history
      → IsInState returning before (state_with p.is.member content None p.is.member.array) y
  serves_over words content same is progress =
      serves_now words content same
      (record {
        is_open = led_open before p.was p.is words y.told.history is.is_open progress;
        history = is.history;
        of = is.of;
        knows = is.knows;
      })

  pub serves_as : (words : Codewords) (content : Content) → StaysArray p.was.member p.is.member
      → IsServing returning before (led_to p.was p.is.member) words content y.told.history → KeepsProgress p.was p.is
      → IsRememberedIn words p.is.remembered
      → StaysWithinToleranceTo returning p.was.member.array.geometry before y.told.history
      → IsInState returning before (state_with p.is.member content None p.is.member.array) y
  serves_as words content stays = serves_over words content stays.geometry

  pub stops_as : (now : State) → StandsFor returning now y.told.history → IsSome p.is.stopped → IsInState returning before now y
  stops_as now stands stopped = record {
    stands = stands;
    serves = subst (λ (e : Phase). ServesState returning before now e y.told) (sym goes_on_as.0) (inr stopped);
  }
