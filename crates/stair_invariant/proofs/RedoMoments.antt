-- At each moment of a redo, whatever a crash leaves represents the array before or after it.
use Rattle.std.proofs.Common.{◌≡◌, ◌≢◌, ℕ, List, inl, inr, refl, sym, subst, Option, None, Some, false}
use Rattle.std.specs.Prelude.{IsTrue}
use Rattle.stair_model.specs.CellSet.{HasCell}
use Rattle.stair_model.specs.Geometry.{Geometry}
use Rattle.stair_model.specs.Slots.{Slots, HasSlot}
use Rattle.stair_model.specs.Stripe.{Stripe, cell}
use Rattle.stair_rack.specs.Answers.{any_call}
use Rattle.stair_rack.specs.Crash.{CrashMayLeave}
use Rattle.stair_rack.specs.History.{Happening, slot_state, stopped}
use Rattle.stair_rack.specs.Media.{Image}
use Rattle.stair_rack.specs.Moments.{AtEveryMoment, IsMoment}
use Rattle.stair_rack.specs.Offline.{IsAttached}
use Rattle.stair_rack.specs.Placed.{Placed}
use Rattle.stair_rack.specs.Sector.{damaged}
use Rattle.stair_rack.specs.Stretch.{NothingReturned}
use Rattle.stair_rack.proofs.MomentLemmas.{at_every_from, at_every_join, at_every_none, at_moment, moment_between, ran_before}
use Rattle.stair_rack.proofs.OfflineLemmas.{stopped_on}
use Rattle.stair_rack.proofs.StretchLemmas.{each_after, each_before}
use Rattle.stair_super.specs.declared.configuration.Configuration.{Configuration}
use Rattle.stair_member.specs.Membership.{IsHere, Membership, why_of}
use Rattle.stair_member.specs.declared.fault.FenceFault.{FenceFault}
use Rattle.stair_member.specs.declared.why.Why.TheVariants as why
use Rattle.stair_invariant.specs.InSession.{IsInSession, IsOfContent, state_with}
use Rattle.stair_invariant.specs.Session.{seats_in}
use Rattle.stair_state.specs.Represents.{RepresentsAlone}
use Rattle.stair_state.specs.Blocks.{Codewords}
use Rattle.stair_state.specs.Redoing.{Done, IsRedoing, Redoing, Stage, next, writes_in, AtRest, InPlace, Placing, Uncommitted}
use Rattle.stair_state.specs.State.{Change, Content}
use Rattle.stair_state.specs.Tolerance.{IsToleratedAlone}
use Rattle.stair_state.proofs.StageLemmas.{written_in_range}
use Rattle.stair_invariant.specs.Effects.{DoesStage, Ends, Fenced, Goes, IsOver, FencesGone, NoneWas, Snapshot, Redoes, Stops, snapshot, stage_writes}
use Rattle.stair_invariant.specs.UnderWay.{AreKept, IsBeforeOrAfter, IsOfRedo, IsUnderWay, content_in, doubt_in}
use Rattle.stair_invariant.proofs.HonestLemmas.{honest_first}
use Rattle.stair_invariant.proofs.LeavingOutImages.{leaving_keeps, leaving_stands}
use Rattle.stair_invariant.proofs.PhaseMoments.{Says, Stands, by_way, of_left, phase_moments}
use Rattle.stair_invariant.proofs.RedoingLemmas.{halfway, phase, placed, ran_then, redo_ran, stage_ran, were_here, no_redo, resting, way_begins}
use Rattle.stair_invariant.proofs.UnderWayImages.{way_keeps, way_stands}
use Rattle.stair_invariant.proofs.UnderWayLemmas.{besides, way_ends, way_then}

module _ (a : Redoing) (redoing : IsRedoing a) (stripe : Stripe)
    (cells : (i c : ℕ) → HasCell a.redo.cells i c → cell stripe i c ≡ cell (a.new a.redo.stripe) i c) (start : List Happening) (content : Content)
    (change : Option Change) (first : Configuration) where
  abbrev StandsSo : List Happening → List Happening → Type 0
  StandsSo = Stands a redoing.limits start content change first

  abbrev SaysSo : Membership → Type 0
  SaysSo = Says a redoing.limits start content change first

  -- ONE PHASE, and what is left out after it

  module _ (stage : Stage) (to : Slots) (refusal : Option FenceFault) (x y : Snapshot) (not_done : stage ≢ Done) (over : IsOver stage x.member to)
      (way : IsUnderWay a stage start x.member x.told.history) (does : DoesStage (stage_writes a.geometry a.redo stripe stage) to refusal x y)
      (honest : IsTrue y.told.honest) (says : SaysSo x.member) where
    abbrev what : Placed (writes_in a stage) (HasSlot to) (HasSlot does.gone) x.told.history does.mid.history
    what = placed a redoing stripe cells start stage to refusal x y over does honest

    mid_way : NothingReturned x.told.history does.mid.history → ¬ IsTrue (stopped does.mid.history)
        → IsUnderWay a (next stage) start x.member does.mid.history
    mid_way none going =
        way_ends a redoing stage start x.member to over (HasSlot does.gone) x.told.history does.mid.history way what none not_done going

    pub stage_moments : AtEveryMoment (StandsSo x.told.history) x.told.history y.told.history
    stage_moments =
        phase_moments a redoing.limits start content change first stage (next stage) (inr redoing) (inr redoing) (writes_in a stage) to does.gone
        refusal x y does.mid what (written_in_range a redoing stage) (were_here a redoing stripe cells start stage to refusal x y over does honest)
        does.leaves honest way
        (besides a redoing stage start x.member to over (HasSlot does.gone) x.told.history does.mid.history way what)
        (way_then a redoing stage start x.member to over (HasSlot does.gone) x.told.history does.mid.history way what) mid_way says

  -- FROM A STAGE ON

  -- after a phase that wasn't refused
  says_then : (stage : Stage) (to : Slots) (x y : Snapshot) → (stage ≢ Done) → (over : IsOver stage x.member to)
      → IsUnderWay a stage start x.member x.told.history → (does : DoesStage (stage_writes a.geometry a.redo stripe stage) to None x y)
      → IsTrue y.told.honest → NothingReturned x.told.history y.told.history → ¬ IsTrue (stopped y.told.history) → SaysSo x.member → SaysSo y.member
  says_then stage to x y not_done over way does honest returned going says =
      of_left a redoing.limits start content change first does.gone (next stage) (snapshot x.member does.mid) y
      (mid_way stage to None x y not_done over way does honest says
      (each_before returned (halfway a redoing stripe cells start stage to None x y over does honest))
      (λ stops. going (stopped_on {allowed = any_call} (ran_then a redoing stripe cells start stage to None x y over does honest) stops)))
      (were_here a redoing stripe cells start stage to None x y over does honest) does.leaves says

  pub all_moments : (stage : Stage) (refusal : Option FenceFault) (x z : Snapshot) (run : Redoes a.geometry a.redo stripe stage refusal x z)
      → IsTrue z.told.honest → IsUnderWay a stage start x.member x.told.history → SaysSo x.member
      → AtEveryMoment (StandsSo x.told.history) x.told.history z.told.history
  all_moments _ _ _ _ (Ends x) honest way says =
      at_every_none {P = StandsSo x.told.history} x.told.history (λ none. by_way a redoing.limits start content change first Done (inr redoing) x.member x.told.history way says)
  all_moments _ _ _ _ (Stops stage to fault x y not_done over does) honest way says =
      stage_moments stage to (Some fault) x y not_done over way does honest says
  all_moments _ _ _ _ (Goes stage to refusal x y z not_done over does more) honest way says =
      let now = honest_first a.geometry a.redo stripe (next stage) refusal y z more honest in
      let phase_ran = stage_ran a redoing stripe cells start stage to None x y over does now in
      let rest = redo_ran a redoing stripe cells start (next stage) refusal y z more honest in
      at_every_join {P = StandsSo x.told.history} (stage_moments stage to None x y not_done over way does now says)
      (at_every_from {P = StandsSo x.told.history} rest.more rest.is
      (λ c c_at none going.
      let so_far = ran_before {allowed = any_call} rest c_at in
      let at = moment_between {a = any_call} {b = any_call} phase_ran so_far in
      let on : ¬ IsTrue (stopped y.told.history) = λ stops. going (stopped_on {allowed = any_call} so_far stops) in
      at_moment {P = StandsSo y.told.history}
      (all_moments (next stage) refusal y z more honest
      (phase a redoing stripe cells start stage to x y not_done over way does now (each_before none at) on)
      (says_then stage to x y not_done over way does now (each_before none at) on says)) c_at (each_after none at) going))

  -- and what the member says in the end
  pub all_says : (stage : Stage) (refusal : Option FenceFault) (x z : Snapshot) (run : Redoes a.geometry a.redo stripe stage refusal x z)
      → IsTrue z.told.honest → refusal ≡ None → IsUnderWay a stage start x.member x.told.history
      → NothingReturned x.told.history z.told.history → ¬ IsTrue (stopped z.told.history) → SaysSo x.member → SaysSo z.member
  all_says _ _ _ _ (Ends x) honest fine way returned going says = says
  all_says _ _ _ _ (Stops stage to fault x y not_done over does) honest fine way returned going says = absurd (cc)
  all_says _ _ _ _ (Goes stage to refusal x y z not_done over does more) honest fine way returned going says =
      let now = honest_first a.geometry a.redo stripe (next stage) refusal y z more honest in
      let rest = redo_ran a redoing stripe cells start (next stage) refusal y z more honest in
      let at = moment_between {a = any_call} {b = any_call} (stage_ran a redoing stripe cells start stage to None x y over does now) rest in
      let on : ¬ IsTrue (stopped y.told.history) = λ stops. going (stopped_on {allowed = any_call} rest stops) in
      all_says (next stage) refusal y z more honest fine
      (phase a redoing stripe cells start stage to x y not_done over way does now (each_before returned at) on)
      (each_after returned at) going (says_then stage to x y not_done over way does now (each_before returned at) on says)

pub as_it_was : (g : Geometry) (array : Configuration) → AreKept g array array
as_it_was g array j below = inl (refl, refl)

pub moments : (a : Redoing) (stripe : Stripe) (stage : Stage) (refusal : Option FenceFault) (start : List Happening) (x z : Snapshot) (content : Content)
    (change : Option Change) (h : List Happening) (image : Image) → IsRedoing a
    → ((i c : ℕ) → HasCell a.redo.cells i c → cell stripe i c ≡ cell (a.new a.redo.stripe) i c) → IsUnderWay a stage start x.member x.told.history
    → (run : Redoes a.geometry a.redo stripe stage refusal x z) → IsTrue z.told.honest
    → IsOfRedo a x.member content change → IsMoment x.told.history h z.told.history → NothingReturned x.told.history h
    → ¬ IsTrue (stopped h) → CrashMayLeave h image → (tolerated : IsToleratedAlone a.geometry image)
    → IsBeforeOrAfter a.geometry content change tolerated.current.array image × AreKept a.geometry x.member.array tolerated.current.array
moments a stripe stage refusal start x z content change h image redoing cells way run honest of at none going left tolerated =
    at_moment {P = Stands a redoing.limits start content change x.member.array x.told.history}
    (all_moments a redoing stripe cells start content change x.member.array stage refusal x z run honest way
    (record { of = of; kept = as_it_was x.member.array.geometry x.member.array })) at none going image left tolerated

-- the member's epoch in the end is of the same content, and has its marks, but for slots that are Down
pub says : (a : Redoing) (stripe : Stripe) (stage : Stage) (start : List Happening) (x z : Snapshot) (content : Content) (change : Option Change)
    → IsRedoing a → ((i c : ℕ) → HasCell a.redo.cells i c → cell stripe i c ≡ cell (a.new a.redo.stripe) i c)
    → IsUnderWay a stage start x.member x.told.history → (run : Redoes a.geometry a.redo stripe stage None x z)
    → IsTrue z.told.honest → NothingReturned x.told.history z.told.history → ¬ IsTrue (stopped z.told.history)
    → IsOfRedo a x.member content change → IsOfRedo a z.member content change × AreKept z.member.array.geometry x.member.array z.member.array
says a stripe stage start x z content change redoing cells way run honest returned going of =
    let then =
    all_says a redoing stripe cells start content change x.member.array stage None x z run honest refl way returned going
    (record { of = of; kept = as_it_was x.member.array.geometry x.member.array }) in
    (then.of, then.kept)

-- WHILE SLOTS ARE LEFT OUT IN A SESSION

-- where no change is in doubt an image represents the one content
settled_state : (g : Geometry) (content : Content) (current : Configuration) (image : Image) (stage : Stage)
    → RepresentsAlone (record { geometry = g; content = content_in stage content None; in_doubt = doubt_in stage None; seats = Some (seats_in current) }) image
    → RepresentsAlone (record { geometry = g; content = content; in_doubt = None; seats = Some (seats_in current) }) image
settled_state g content current image AtRest is = is
settled_state g content current image Uncommitted is = is
settled_state g content current image Placing is = is
settled_state g content current image InPlace is = is
settled_state g content current image Done is = is

module _ (gone : Slots) (refusal : Option FenceFault) (x y : Snapshot) (words : Codewords) (content : Content)
    (is : IsInSession x.member words x.told.history) (of : IsOfContent x.member words content)
    (here : (j : ℕ) → HasSlot gone j → IsHere x.member j) (off : (j : ℕ) → HasSlot gone j → ¬ IsAttached x.told.history j)
    (honest : IsTrue y.told.honest) where
  abbrev g : Geometry
  g = x.member.array.geometry

  abbrev a : Redoing
  a = resting x.member.array.geometry words no_redo words

  way : IsUnderWay a AtRest x.told.history x.member x.told.history
  way = way_begins a x.member x.told.history is refl

  of_rest : IsOfRedo a x.member content None
  of_rest = record {
    old_are = of.encodings;
    new_are = of.encodings;
    frozen = of.frozen;
    label = of.label;
    frozen_new = refl;
    label_new = refl;
  }

  abbrev pub StandsStill : List Happening → Type 0
  StandsStill h = NothingReturned x.told.history h → ¬ IsTrue (stopped h) → (image : Image) → CrashMayLeave h image → (tolerated : IsToleratedAlone x.member.array.geometry image)
      → RepresentsAlone (state_with x.member content None tolerated.current.array) image
      × AreKept x.member.array.geometry x.member.array tolerated.current.array

  bare : (j : ℕ) → HasSlot gone j → why_of x.member j ≡ why.Here
      → ((slot_state x.told.history j).attached ≡ false) × ((k : ℕ) → (slot_state x.told.history j).sector k ≡ damaged)
  bare j has up = elim (is.own j (here j has)) [ inl on ↦ absurd (off j has on.0) | inr nothing ↦ nothing ]

  pub left_moments : FencesGone gone refusal x y → AtEveryMoment StandsStill x.told.history y.told.history
  left_moments (NoneWas none same fine) =
      subst (λ (p : Snapshot). AtEveryMoment StandsStill x.told.history p.told.history) (sym same)
      (at_every_none {P = StandsStill} x.told.history
      (λ none going image left tolerated.
      let stands = way_stands a AtRest (inl refl) x.told.history x.member x.told.history way image left content None of_rest tolerated in (
        settled_state x.member.array.geometry content tolerated.current.array image stands.0 stands.1,
        way_keeps a AtRest x.told.history x.member x.told.history way image left tolerated,
      )))
  left_moments (Fenced j has answer fine e) =
      let issued = e.establishes.issued honest in
      at_every_from {P = StandsStill} issued.ran.more issued.ran.is
      (λ c at none going image left tolerated.
      let stands =
      leaving_stands a AtRest (inl refl) is.begun.member.array.limits x.told.history gone x.member y.member answer x.told y.told way here bare e honest
      c at none going image left content None of_rest tolerated in (
        settled_state x.member.array.geometry content tolerated.current.array image stands.0 stands.1,
        leaving_keeps a AtRest (inl refl) is.begun.member.array.limits x.told.history gone x.member y.member answer x.told y.told way here bare e honest
            c at none going image left tolerated,
      ))

pub leaving_moments : (gone : Slots) (refusal : Option FenceFault) (x y : Snapshot) (words : Codewords) (content : Content) (h : List Happening)
    (image : Image) → FencesGone gone refusal x y → IsInSession x.member words x.told.history → IsOfContent x.member words content
    → ((j : ℕ) → HasSlot gone j → IsHere x.member j) → ((j : ℕ) → HasSlot gone j → ¬ IsAttached x.told.history j) → IsTrue y.told.honest
    → IsMoment x.told.history h y.told.history → NothingReturned x.told.history h → ¬ IsTrue (stopped h) → CrashMayLeave h image
    → (tolerated : IsToleratedAlone x.member.array.geometry image)
    → RepresentsAlone (state_with x.member content None tolerated.current.array) image
    × AreKept x.member.array.geometry x.member.array tolerated.current.array
leaving_moments gone refusal x y words content h image leaves is of here off honest at none going left tolerated =
    at_moment {P = StandsStill gone refusal x y words content is of here off honest}
    (left_moments gone refusal x y words content is of here off honest leaves) at none going image left tolerated
