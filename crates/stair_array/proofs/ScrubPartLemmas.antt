-- What a scrub of a stripe comes to, whether media come back or not.
use Rattle.std.proofs.Common.{◌≡◌, ℕ, ◌<◌, List, inr, refl, sym, ap, ◌∙◌, subst, None, Some, Option}
use Rattle.std.specs.Prelude.{IsTrue, Result, Ok, ⊤}
use Rattle.stair_model.specs.CellSet.{cell_count}
use Rattle.stair_model.specs.Stripe.{Stripe, cell}
use Rattle.stair_rack.specs.Answers.{Ran, any_call}
use Rattle.stair_rack.specs.History.{Happening}
use Rattle.stair_rack.specs.Moments.{AtEveryMoment, IsMoment}
use Rattle.stair_rack.proofs.MomentLemmas.{at_every_from, at_every_join, at_every_none, moment_last, ran_before, ran_join}
use Rattle.stair_journal.specs.Redo.{IsRedo}
use Rattle.stair_journal.specs.declared.redo.Redo.{Redo}
use Rattle.stair_member.specs.declared.fault.FenceFault.{FenceFault}
use Rattle.stair_stripes.specs.Gathering.{IsCellOf}
use Rattle.stair_stripes.specs.declared.gathering.Gathered.{Gathered}
use Rattle.stair_state.specs.Blocks.{Codewords}
use Rattle.stair_state.specs.Redoing.{AtRest}
use Rattle.stair_state.specs.State.{Content}
use Rattle.stair_invariant.specs.Effects.{Loads, Snapshot, Redoes}
use Rattle.stair_invariant.specs.Rebuilding.{Rebuild}
use Rattle.stair_invariant.specs.Returning.{Returning}
use Rattle.stair_invariant.proofs.HonestLemmas.{honest_first}
use Rattle.stair_invariant.proofs.Serving.{IsGoing, LeadsReads, StaysWithinToleranceTo, LeadsRedos}
use Rattle.stair_invariant.proofs.Mending.{calm_going}
use Rattle.stair_array.specs.Calls.{IsLoaded, answer_of}
use Rattle.stair_array.specs.Machine.{IsFinal, Refusal}
use Rattle.stair_array.specs.Mends.{Scrubs}
use Rattle.stair_array.proofs.KeptStepLemmas.{Gives, Lacks, Outcome, Stops}
use Rattle.stair_array.proofs.LeftServingLemmas.{serving_stands, StandsAt}
use Rattle.stair_array.proofs.LoadingLemmas.{Serves, load_serves, load_stops, refused_stands, same_serves, same_stays}
use Rattle.stair_array.proofs.ReadPartLemmas.{HasLoaded, all_ran, going_mid, loading_moments, none_asked, restored, stays_so, whole_loaded, array_with}
use Rattle.stair_array.proofs.RecoveredLemmas.{redoes_ran}
use Rattle.stair_array.proofs.RedoDoubtLemmas as redo_doubt
use Rattle.stair_array.proofs.ServingLemmas.{going_sooner}

-- what is asked of a stripe before it is scrubbed, and nothing of how many cells were written
abbrev pub IsInside : ℕ → Snapshot → Type 0
IsInside t x = t < x.member.array.geometry.stripes

abbrev pub AnyCount : ℕ → Type 0
AnyCount count = ⊤

module _ (returning : Returning) (laws : LeadsReads returning) (before : List Happening) (rebuild : Option Rebuild) (stopped : Option FenceFault)
    (words : Codewords) (kept : Content) (t : ℕ) where
  abbrev pub ScrubOutcome : Snapshot → Result ℕ Refusal → Snapshot → Type 0
  ScrubOutcome x answer y = Outcome returning before rebuild stopped words kept x ℕ (IsInside t x) AnyCount answer y

  abbrev ServesAt : Snapshot → List Happening → Type 0
  ServesAt x h = Serves returning before rebuild stopped words kept x h

  abbrev loaded_all : (was read : Stripe) (gathered : Gathered) (refusal : Option FenceFault) (x y : Snapshot)
      → Loads t (IsCellOf x.member.array.geometry) gathered was read refusal x y
      → HasLoaded t (IsCellOf x.member.array.geometry) gathered read refusal x y
  loaded_all was read gathered refusal x y loads = whole_loaded t gathered was read refusal x x y (none_asked x) loads

  -- WHAT WAS REWRITTEN

  -- The redo leads from the stripes to the same ones, since what was restored is the stripe.
  module _ (was read into : Stripe) (gathered : Gathered) (redo : Redo) (refusal : Option FenceFault) (x y z : Snapshot)
      (is : ServesAt x x.told.history)
      (below : t < x.member.array.geometry.stripes) (loads : Loads t (IsCellOf x.member.array.geometry) gathered was read None x y)
      (loaded : IsLoaded x.member.array.geometry t gathered.erased read into (Ok tt)) (here : redo.stripe ≡ t)
      (formed : IsRedo x.member.array.geometry redo) (run : Redoes x.member.array.geometry redo into AtRest refusal y z)
      (honest : IsTrue z.told.honest) where
    honest_y : IsTrue y.told.honest
    honest_y = honest_first x.member.array.geometry redo into AtRest refusal y z run honest

    upto : Ran any_call before y.told.history
    upto =
        all_ran returning laws before rebuild stopped words kept x is t gathered read None y (loaded_all was read gathered None x y loads) honest_y

    later : Ran any_call y.told.history z.told.history
    later = redoes_ran x.member.array.geometry redo into AtRest refusal y z run honest

    pub to_end : IsMoment y.told.history z.told.history z.told.history
    to_end = moment_last later.more later.is

    ran_to : (c : List Happening) → IsMoment y.told.history c z.told.history → Ran any_call before c
    ran_to c at = ran_join {allowed = any_call} upto (ran_before {allowed = any_call} later at)

    pub going_at : (c : List Happening) → IsMoment y.told.history c z.told.history → StaysWithinToleranceTo returning x.member.array.geometry before c
        → IsGoing returning x.member.array.geometry before c
    going_at c at calm = calm_going returning x.member.array.geometry before c (ran_to c at) calm

    pub begins : (c : List Happening) → IsMoment y.told.history c z.told.history → IsGoing returning x.member.array.geometry before c
        → redo_doubt.Begins returning before rebuild stopped words words kept None redo into x y
    begins c at on = record {
      array = is.is_open.array;
      serves = load_serves returning laws before rebuild stopped words kept x is t gathered read y l honest_y on_y;
      stays = stays_so returning laws before rebuild stopped words kept x is t gathered read None y l honest_y;
      redoing = record {
        limits = is.is_open.array.member.array.limits;
        formed = formed;
        same = λ u i j stripe row slot. inr refl;
      };
      cells = λ i c has. ap (λ (s : Stripe). cell s i c) same;
      becomes = record {
        old_are = is.of.encodings;
        new_are = is.of.encodings;
        frozen = is.of.frozen;
        label = is.of.label;
        frozen_new = refl;
        label_new = refl;
      };
    }
      where
        l : HasLoaded t (IsCellOf x.member.array.geometry) gathered read None x y
        l = loaded_all was read gathered None x y loads

        on_y : IsGoing returning x.member.array.geometry before y.told.history
        on_y = going_sooner returning x.member.array.geometry before y.told.history c upto (ran_before {allowed = any_call} later at) on

        same : into ≡ words redo.stripe
        same =
            restored returning laws before rebuild stopped words kept x is t gathered read None y l honest_y (λ i j inside. inside)
            (going_mid returning laws before rebuild stopped words kept x is t gathered read None y l honest_y on_y) below into loaded
            ∙ ap words (sym here)

    rewrote_moments : LeadsRedos returning → AtEveryMoment (StandsAt returning before x.member kept) x.told.history z.told.history
    rewrote_moments redos =
        at_every_join {P = StandsAt returning before x.member kept}
        (loading_moments returning laws before rebuild stopped words kept x is t gathered read None y
        (loaded_all was read gathered None x y loads) honest_y)
        (at_every_from {P = StandsAt returning before x.member kept} later.more later.is
        (λ c at calm image left.
        redo_doubt.redo_stands returning before rebuild stopped words words kept None redo into redos x y
        (begins c at (going_at c at calm)) refusal z run
        honest c at calm image left))

  -- ALL OF IT

  module _ (redos : LeadsRedos returning) where
    pub moments : (answer : Result ℕ Refusal) (x z : Snapshot) → Scrubs t answer x z → ServesAt x x.told.history → IsTrue z.told.honest
        → AtEveryMoment (StandsAt returning before x.member kept) x.told.history z.told.history
    moments _ _ _ (Scrubs.OutOf x past) is honest =
        at_every_none {P = StandsAt returning before x.member kept} x.told.history
        (serving_stands returning laws before (array_with rebuild stopped x) words kept x.told.history (λ calm. is))
    moments _ _ _ (Scrubs.Stops was read gathered fault x y below loads) is honest =
        loading_moments returning laws before rebuild stopped words kept x is t gathered read (Some fault) y
        (loaded_all was read gathered (Some fault) x y loads) honest
    moments _ _ _ (Scrubs.Sound was read gathered x y below loads none) is honest =
        loading_moments returning laws before rebuild stopped words kept x is t gathered read None y
        (loaded_all was read gathered None x y loads) honest
    moments _ _ _ (Scrubs.Unrestored was read into gathered refusal x y below loads lost) is honest =
        loading_moments returning laws before rebuild stopped words kept x is t gathered read None y
        (loaded_all was read gathered None x y loads) honest
    moments _ _ _ (Scrubs.Rewrote was read into gathered redo refusal x y z below loads loaded here formed cells run) is honest =
        rewrote_moments was read into gathered redo refusal x y z is below loads loaded here formed run honest redos

    pub outcome : (answer : Result ℕ Refusal) (x z : Snapshot) → Scrubs t answer x z → ServesAt x x.told.history → IsTrue z.told.honest
        → StaysWithinToleranceTo returning x.member.array.geometry before z.told.history → ScrubOutcome x answer z
    outcome _ _ _ (Scrubs.OutOf x past) is honest calm =
        Lacks _ x
        (same_serves returning laws before rebuild stopped words kept x x refl honest is
        (calm_going returning x.member.array.geometry before x.told.history is.is_open.ran calm))
        (same_stays returning laws before rebuild stopped words kept x x refl is) (λ final. absurd final)
    outcome _ _ _ (Scrubs.Stops was read gathered fault x y below loads) is honest calm =
        let l = loaded_all was read gathered (Some fault) x y loads in
        let on =
        calm_going returning x.member.array.geometry before y.told.history
        (all_ran returning laws before rebuild stopped words kept x is t gathered read (Some fault) y l honest) calm in
        Stops fault y below
        (refused_stands returning laws before words kept x.member fault y
        (load_stops returning laws before rebuild stopped words kept x is t gathered read fault y l honest on) honest calm)
    outcome _ _ _ (Scrubs.Sound was read gathered x y below loads none) is honest calm =
        let l = loaded_all was read gathered None x y loads in
        let on =
        calm_going returning x.member.array.geometry before y.told.history
        (all_ran returning laws before rebuild stopped words kept x is t gathered read None y l honest) calm in
        Gives 0 y (load_serves returning laws before rebuild stopped words kept x is t gathered read y l honest on)
        (stays_so returning laws before rebuild stopped words kept x is t gathered read None y l honest) below tt
    outcome _ _ _ (Scrubs.Unrestored was read into gathered refusal x y below loads lost) is honest calm =
        let l = loaded_all was read gathered None x y loads in
        let on =
        calm_going returning x.member.array.geometry before y.told.history
        (all_ran returning laws before rebuild stopped words kept x is t gathered read None y l honest) calm in
        Lacks refusal y (load_serves returning laws before rebuild stopped words kept x is t gathered read y l honest on)
        (stays_so returning laws before rebuild stopped words kept x is t gathered read None y l honest) (λ final. subst IsFinal lost.1.1 final)
    outcome _ _ _ (Scrubs.Rewrote was read into gathered redo refusal x y z below loads loaded here formed cells run) is honest calm = by refusal run
      where
        on : IsGoing returning x.member.array.geometry before z.told.history
        on =
            going_at was read into gathered redo refusal x y z is below loads loaded here formed run honest z.told.history
            (to_end was read into gathered redo refusal x y z is below loads loaded here formed run honest) calm

        start : redo_doubt.Begins returning before rebuild stopped words words kept None redo into x y
        start =
            begins was read into gathered redo refusal x y z is below loads loaded here formed run honest z.told.history
            (to_end was read into gathered redo refusal x y z is below loads loaded here formed run honest) on

        by : (given : Option FenceFault) → Redoes x.member.array.geometry redo into AtRest given y z
            → ScrubOutcome x (answer_of (cell_count redo.cells) given) z
        by None run =
            let ends = redo_doubt.done returning before rebuild stopped words words kept None redo into redos x y start z run honest on in
            Gives (cell_count redo.cells) z ends.0 ends.1 below tt
        by (Some fault) run =
            Stops fault z below (redo_doubt.stops returning before rebuild stopped words words kept None redo into redos x y start fault z run honest
            calm)
