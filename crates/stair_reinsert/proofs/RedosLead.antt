-- A redo leads an open array on, whichever media come back meanwhile.
use Rattle.std.specs.Prelude.{IsTrue}
use Rattle.std.proofs.Common.{ℕ, List, None, Option, Some, ap, inl, inr, refl, subst, sym, ◌<◌, ◌∙◌, ◌≡◌}
use Rattle.stair_model.specs.CellSet.{HasCell}
use Rattle.stair_model.specs.Geometry.{Geometry}
use Rattle.stair_model.specs.Slots.{HasSlot, Slots}
use Rattle.stair_model.specs.Stripe.{Stripe, cell}
use Rattle.stair_rack.specs.Answers.{Ran, any_call}
use Rattle.stair_rack.specs.Crash.{CrashMayLeave}
use Rattle.stair_rack.specs.History.{Happening}
use Rattle.stair_rack.specs.Media.{Image}
use Rattle.stair_rack.specs.Moments.{IsMoment}
use Rattle.stair_rack.specs.Stretch.{every_slot}
use Rattle.stair_rack.specs.RackState.{RackState}
use Rattle.stair_rack.proofs.MomentLemmas.{at_every_none, at_moment, moment_between, moment_cases, moment_last, ran_before, ran_join, ran_none}
use Rattle.stair_member.specs.Membership.{Membership}
use Rattle.stair_member.specs.declared.fault.FenceFault.{FenceFault}
use Rattle.stair_member.specs.declared.fault.FenceFault.TheVariants as fence
use Rattle.stair_member.specs.declared.why.Why.{Why}
use Rattle.stair_journal.specs.declared.redo.Redo.{Redo}
use Rattle.stair_state.specs.Blocks.{AreEncodingsOf, Codewords}
use Rattle.stair_state.specs.Reassembly.{Location}
use Rattle.stair_state.specs.Redoing.{AtRest, AttachesNone, Done, Stage, next}
use Rattle.stair_state.specs.Represents.{Encodings}
use Rattle.stair_state.specs.State.{Change, Content, changed_if}
use Rattle.stair_state.specs.Tolerance.{IsTolerated}
use Rattle.stair_invariant.specs.Effects.{DoesStage, Fenced, IsOver, FencesGone, NoneWas, Snapshot, Redoes, snapshot, stage_writes}
use Rattle.stair_invariant.specs.InSession.{IsBesideEpochs, IsOfContent}
use Rattle.stair_invariant.specs.Leading.{led_to, rebuild_in}
use Rattle.stair_invariant.specs.Opening.{Across, StaysArray}
use Rattle.stair_invariant.specs.Rebuilding.{Rebuild}
use Rattle.stair_invariant.specs.Returning.{AnyReturns}
use Rattle.stair_invariant.specs.Session.{ArrayState, IsOpenWith}
use Rattle.stair_invariant.proofs.AmidRedoLemmas.{redo_begins, redo_ends}
use Rattle.stair_invariant.proofs.FencesLemmas.{stays_open}
use Rattle.stair_invariant.proofs.HonestLemmas.{honest_first}
use Rattle.stair_invariant.proofs.RedoingLemmas.{halfway, over_here, redo_ran, stage_ran}
use Rattle.stair_invariant.proofs.Serving.{StaysWithinToleranceTo, IsServing, LeadsRedos, LeadsTo, StandsAs, StandsIn, calm_sooner, tolerated_now}
use Rattle.stair_invariant.proofs.StaysArrayLemmas.{redo_stays, stage_stays}
use Rattle.stair_array.proofs.LedOnLemmas.{led_again}
use Rattle.stair_array.proofs.OpenStepLemmas.{forgets_open, forgetting}
use Rattle.stair_reinsert.specs.Following.{name_of}
use Rattle.stair_reinsert.proofs.LeavingOut.{throughout}
use Rattle.stair_reinsert.proofs.RedoEnd.{Ends, settled_knows}
use Rattle.stair_reinsert.proofs.RedoFence.{amid_stands}
use Rattle.stair_reinsert.proofs.RedoGoes.{goes_any}
use Rattle.stair_reinsert.proofs.RedoPhase.{IsAmidAny, SparesGate, with_member}
use Rattle.stair_reinsert.proofs.RedoStage.{end, fence_ended, fence_enough, fence_stands, phase_stands}
use Rattle.stair_reinsert.proofs.RedoStart.{StartsRedo, in_redo, redo_by, serving_starts, RedoAny, redo_of}
use Rattle.stair_reinsert.proofs.StageSince.{since_now}

module _ (before : List Happening) {kept : Content} {change : Option Change} (doing : RedoAny kept change) (stripe : Stripe)
    (cells : (i c : ℕ) → HasCell doing.redo.cells i c → cell stripe i c ≡ cell (doing.new doing.redo.stripe) i c) where
  open doing use {m, new, redo, redoing, start}

  abbrev pub IsAt : Stage → Option Rebuild → Option FenceFault → Snapshot → Type 0
  IsAt = IsAmidAny before doing

  -- A STAGE THAT WAS DONE, and what the redo did after it

  module _ (stage : Stage) (to : Slots) (refusal : Option FenceFault) (rebuild : Option Rebuild) (stopped : Option FenceFault) (p y z : Snapshot)
      (is : IsAt stage rebuild stopped p) (over : IsOver stage p.member to)
      (does : DoesStage (stage_writes m.array.geometry redo stripe stage) to None p y)
      (more : Redoes m.array.geometry redo stripe (next stage) refusal y z) (honest : IsTrue z.told.honest) where
    honest_y : IsTrue y.told.honest
    honest_y = honest_first m.array.geometry redo stripe (next stage) refusal y z more honest

    upto : Ran any_call p.told.history y.told.history
    upto = stage_ran (redo_of doing) redoing stripe cells start stage to None p y over does honest_y

    later : Ran any_call y.told.history z.told.history
    later = redo_ran (redo_of doing) redoing stripe cells start (next stage) refusal y z more honest

    -- the next stage, at a moment after which failures stayed within tolerance
    next_any : (c : List Happening) → IsMoment y.told.history c z.told.history → StaysWithinToleranceTo AnyReturns m.array.geometry before c
        → IsAt (next stage) (rebuild_in y.member rebuild) None y
    next_any c at calm =
        goes_any before doing stripe cells stage to rebuild stopped p y is over does honest_y
        (calm_sooner AnyReturns m.array.geometry before y.told.history c
        (moment_between {a = any_call} {b = any_call} (ran_join {allowed = any_call} is.amid.amid.ran upto) (ran_before {allowed = any_call} later at)) calm)

    last_moment : IsMoment y.told.history z.told.history z.told.history
    last_moment = moment_last later.more later.is

  -- ITS END

  pub record IsDoneAny (rebuild : Option Rebuild) (stopped : Option FenceFault) (p z : Snapshot) : Type 0 where
    pub is_open : IsOpenWith before (led_to (with_member rebuild stopped p) z.member) new z.told.history
    pub rebuilds : Option Rebuild
    pub stops : Option FenceFault
    pub done : IsAt Done rebuilds stops z

  pub redo_done : (stage : Stage) (refusal : Option FenceFault) (p z : Snapshot) → Redoes m.array.geometry redo stripe stage refusal p z → refusal ≡ None
      → IsTrue z.told.honest → StaysWithinToleranceTo AnyReturns m.array.geometry before z.told.history → (rebuild : Option Rebuild) (stopped : Option FenceFault)
      → IsAt stage rebuild stopped p → IsDoneAny rebuild stopped p z
  redo_done _ _ _ _ (Redoes.Ends p) fine honest calm rebuild stopped is = record {
    is_open =
        stays_open before (with_member rebuild stopped p) new p.told.history
        (redo_ends (redo_of doing) before (with_member rebuild stopped p) start p.told.history is.amid);
    rebuilds = rebuild;
    stops = stopped;
    done = is;
  }
  redo_done _ _ _ _ (Redoes.Stops stage to fault p y not_done over does) fine honest calm rebuild stopped is = absurd (cc)
  redo_done _ _ _ _ (Redoes.Goes stage to refusal p y z not_done over does more) fine honest calm rebuild stopped is =
      let then =
      next_any stage to refusal rebuild stopped p y z is over does more honest z.told.history
      (last_moment stage to refusal rebuild stopped p y z is over does more honest) calm in
      let last = redo_done (next stage) refusal y z more fine honest calm (rebuild_in y.member rebuild) None then in
      let first : StaysArray p.member y.member = stage_stays _ to None p y does is.amid.amid.array.member in
      record {
        is_open =
            led_again before (with_member rebuild stopped p) y.member z.member new z.told.history is.amid.amid.array first then.amid.amid.array
            (redo_stays m.array.geometry redo stripe (next stage) refusal y z more first.rules) last.is_open;
        rebuilds = last.rebuilds;
        stops = last.stops;
        done = last.done;
      }

  -- ITS MOMENTS

  -- within tolerance whatever a crash leaves here represents the state
  abbrev Stands : List Happening → Type 0
  Stands h = StaysWithinToleranceTo AnyReturns m.array.geometry before h → (image : Image) → CrashMayLeave h image → StandsIn AnyReturns m kept change image

  -- slots that are left out after a phase, whether that is refused or not
  module _ (stage : Stage) (to : Slots) (refusal : Option FenceFault) (rebuild : Option Rebuild) (stopped : Option FenceFault) (p y : Snapshot)
      (is : IsAt stage rebuild stopped p) (over : IsOver stage p.member to)
      (does : DoesStage (stage_writes m.array.geometry redo stripe stage) to refusal p y) (honest : IsTrue y.told.honest) where
    gone_below : (j : ℕ) → HasSlot does.gone j → j < p.member.array.geometry.n
    gone_below j has = (over_here stage p.member to over j (does.phase.among j has)).below

    stage_stands : (c : List Happening) → IsMoment p.told.history c y.told.history → StaysWithinToleranceTo AnyReturns m.array.geometry before c → (image : Image)
        → CrashMayLeave c image → StandsIn AnyReturns m kept change image
    stage_stands c at calm image left =
        elim (moment_cases at (halfway (redo_of doing) redoing stripe cells start stage to refusal p y over does honest)) [
          | inl sooner ↦ in_phase c sooner calm image left
          | inr later ↦
              throughout does.leaves Stands (in_phase does.mid.history (end before doing stripe cells stage to refusal rebuild stopped p y is over does honest))
              (λ answer fences.
              fence_stands before doing stripe cells stage to refusal rebuild stopped p y is over does honest does.gone y.member answer fences gone_below)
              c later calm image left
        ]
      where
        in_phase : (x : List Happening) → IsMoment p.told.history x does.mid.history → Stands x
        in_phase = phase_stands before doing stripe cells stage to refusal rebuild stopped p y is over does honest

    -- where it is refused
    stage_ended : (fault : FenceFault) → refusal ≡ Some fault → StaysWithinToleranceTo AnyReturns m.array.geometry before y.told.history
        → StandsAs AnyReturns m kept change y.told.history
    stage_ended fault refused calm = by does.leaves
      where
        by : FencesGone does.gone refusal (snapshot p.member does.mid) y → StandsAs AnyReturns m kept change y.told.history
        by (NoneWas none same fine) = absurd (let never : None ≡ Some fault = sym fine ∙ refused in cc)
        by (Fenced j has answer fine fences) =
            fence_ended before doing stripe cells stage to refusal rebuild
            stopped p y is over does honest does.gone y.member answer fences gone_below calm

    stage_enough : (whys : List Why) → refusal ≡ Some (fence.TooFew whys) → StaysWithinToleranceTo AnyReturns m.array.geometry before y.told.history → ⊥
    stage_enough whys refused calm = by does.leaves
      where
        by : FencesGone does.gone refusal (snapshot p.member does.mid) y → ⊥
        by (NoneWas none same fine) = let never : None ≡ Some (fence.TooFew whys) = sym fine ∙ refused in cc
        by (Fenced j has answer fine fences) =
            fence_enough before doing stripe cells stage to refusal rebuild
            stopped p y is over does honest does.gone y.member answer fences gone_below calm (λ i out. out) whys (sym fine ∙ refused)

  pub redo_stands : (stage : Stage) (refusal : Option FenceFault) (p z : Snapshot) → Redoes m.array.geometry redo stripe stage refusal p z
      → IsTrue z.told.honest → (rebuild : Option Rebuild) (stopped : Option FenceFault) → IsAt stage rebuild stopped p → (c : List Happening)
      → IsMoment p.told.history c z.told.history → StaysWithinToleranceTo AnyReturns m.array.geometry before c → (image : Image) → CrashMayLeave c image
      → StandsIn AnyReturns m kept change image
  redo_stands _ _ _ _ (Redoes.Ends p) honest rebuild stopped is c at calm image left =
      at_moment {P = Stands}
      (at_every_none {P = Stands} p.told.history
      (amid_stands before doing Done rebuild stopped p is p.told.history (ran_none {allowed = IsBesideEpochs p.member} p.told.history)
      (ran_none {allowed = AttachesNone every_slot} p.told.history) is.since)) at calm image left
  redo_stands _ _ _ _ (Redoes.Stops stage to fault p y not_done over does) honest rebuild stopped is c at calm image left =
      stage_stands stage to (Some fault) rebuild stopped p y is over does honest c at calm image left
  redo_stands _ _ _ _ (Redoes.Goes stage to refusal p y z not_done over does more) honest rebuild stopped is c at calm image left =
      elim
      (moment_cases at
      (moment_between {a = any_call} {b = any_call} (upto stage to refusal rebuild stopped p y z is over does more honest)
      (later stage to refusal rebuild stopped p y z is over does more honest))) [
        | inl sooner ↦
            stage_stands stage to None rebuild stopped p y is over does (honest_y stage to refusal rebuild stopped p y z is over does more honest) c sooner
            calm image left
        | inr behind ↦
            redo_stands (next stage) refusal y z more honest (rebuild_in y.member rebuild) None
            (next_any stage to refusal rebuild stopped p y z is over does more honest c behind calm) c behind calm image left
      ]

  pub redo_ended : (stage : Stage) (refusal : Option FenceFault) (p z : Snapshot) → Redoes m.array.geometry redo stripe stage refusal p z
      → (fault : FenceFault) → refusal ≡ Some fault → IsTrue z.told.honest → StaysWithinToleranceTo AnyReturns m.array.geometry before z.told.history
      → (rebuild : Option Rebuild) (stopped : Option FenceFault) → IsAt stage rebuild stopped p → StandsAs AnyReturns m kept change z.told.history
  redo_ended _ _ _ _ (Redoes.Ends p) fault refused honest calm rebuild stopped is = absurd (cc)
  redo_ended _ _ _ _ (Redoes.Stops stage to other p y not_done over does) fault refused honest calm rebuild stopped is =
      stage_ended stage to (Some other) rebuild stopped p y is over does honest fault refused calm
  redo_ended _ _ _ _ (Redoes.Goes stage to refusal p y z not_done over does more) fault refused honest calm rebuild stopped is =
      redo_ended (next stage) refusal y z more fault refused honest calm (rebuild_in y.member rebuild) None
      (next_any stage to refusal rebuild stopped p y z is over does more honest z.told.history
      (last_moment stage to refusal rebuild stopped p y z is over does more honest) calm)

  pub redo_enough : (stage : Stage) (refusal : Option FenceFault) (p z : Snapshot) → Redoes m.array.geometry redo stripe stage refusal p z
      → (whys : List Why) → refusal ≡ Some (fence.TooFew whys) → IsTrue z.told.honest → StaysWithinToleranceTo AnyReturns m.array.geometry before z.told.history
      → (rebuild : Option Rebuild) (stopped : Option FenceFault) → IsAt stage rebuild stopped p → ⊥
  redo_enough _ _ _ _ (Redoes.Ends p) whys refused honest calm rebuild stopped is = cc
  redo_enough _ _ _ _ (Redoes.Stops stage to other p y not_done over does) whys refused honest calm rebuild stopped is =
      stage_enough stage to (Some other) rebuild stopped p y is over does honest whys refused calm
  redo_enough _ _ _ _ (Redoes.Goes stage to refusal p y z not_done over does more) whys refused honest calm rebuild stopped is =
      redo_enough (next stage) refusal y z more whys refused honest calm (rebuild_in y.member rebuild) None
      (next_any stage to refusal rebuild stopped p y z is over does more honest z.told.history
      (last_moment stage to refusal rebuild stopped p y z is over does more honest) calm)

-- FROM REST, where the array serves

module _ (before : List Happening) (a : ArrayState) (words new : Codewords) (kept : Content) (change : Option Change) (redo : Redo) (stripe : Stripe)
    (leads : LeadsTo a words new kept change redo stripe) (old : RackState) (serving : IsServing AnyReturns before a words kept old.history)
    (tolerated : IsTolerated a.member.array.geometry before old.history) where
  abbrev m : Membership
  m = a.member

  abbrev here : Snapshot
  here = snapshot a.member old

  abbrev both : Encodings (in_redo a.member kept change)
  both = record { old = words; new = new; old_are = leads.becomes.old_are; new_are = leads.becomes.new_are }

  abbrev starts : StartsRedo a.member words new redo kept change both AtRest old.history
  starts = serving_starts before a words new kept change redo old.history serving tolerated both refl

  abbrev doing : RedoAny kept change
  doing = record {
    m = a.member;
    words = words;
    new = new;
    redo = redo;
    both = both;
    stage_first = AtRest;
    start = old.history;
    starts = starts;
    between = Across refl refl;
    redoing = leads.redoing;
    says = record {
      frozen = inl leads.becomes.frozen;
      label = inl leads.becomes.label;
      frozen_new = inl leads.becomes.frozen;
      label_new = inl leads.becomes.label;
    };
  }

  rest_any : IsAmidAny before doing AtRest a.rebuild a.stopped here
  rest_any = record {
    amid = redo_begins (redo_by a.member words new redo) before (forgetting a) old.history (forgets_open before a words old.history serving.is_open) refl;
    history = serving.history;
    stays = record { rules = serving.is_open.array.member; geometry = refl; frozen = refl; label = refl; seats = λ j. inl refl };
    known = serving.knows.known;
    consistent = record { encodings = both; each = starts.each; seats = tt; steady = starts.steady };
    latest = serving.knows.latest;
    own = serving.knows.own;
    named = λ j q x part on there same. ap (λ (l : Location). name_of old.history j l) (starts.sole j q x part on there same);
    live = λ j live. (live, refl);
    rebuilt = λ j rebuilt. (rebuilt, refl);
    ungated = λ j rebuilt. ran_none {allowed = SparesGate j} old.history;
    since = λ j live on. since_now (redo_by a.member words new redo) AtRest old.history j (starts.in_stage j live on);
    used = inl refl;
  }

  stripe_cells : (i c : ℕ) → HasCell redo.cells i c → cell stripe i c ≡ cell (new redo.stripe) i c
  stripe_cells = leads.cells

  serves_new : (z : Snapshot) → Redoes a.member.array.geometry redo stripe AtRest None here z → IsTrue z.told.honest
      → StaysWithinToleranceTo AnyReturns a.member.array.geometry before z.told.history → IsServing AnyReturns before (led_to a z.member) new (changed_if change kept) z.told.history
  serves_new z run honest calm = record {
    is_open = end.is_open;
    history = end.done.history;
    of = of;
    knows =
        settled_knows before doing Done Ends end.rebuilds end.stops z end.done
        (tolerated_now AnyReturns a.member.array.geometry before z.told.history end.done.amid.amid.ran calm) (changed_if change kept)
        leads.becomes.new_are of.frozen of.label;
  }
    where
      end : IsDoneAny before doing stripe stripe_cells a.rebuild
          a.stopped here z
      end =
          redo_done before doing stripe stripe_cells AtRest None here z run refl honest calm a.rebuild a.stopped rest_any

      of : IsOfContent z.member new (changed_if change kept)
      of = record {
        encodings =
            subst (λ (g : Geometry). AreEncodingsOf g (changed_if change kept).blocks new) (sym end.done.stays.geometry) leads.becomes.new_are;
        frozen = end.done.stays.frozen ∙ leads.becomes.frozen ∙ sym leads.becomes.frozen_new;
        label = end.done.stays.label ∙ leads.becomes.label ∙ sym leads.becomes.label_new;
      }

-- within tolerance at a moment of it, it was so when the redo began
was_tolerated : (before : List Happening) (a : ArrayState) (words new : Codewords) (kept : Content) (change : Option Change) (redo : Redo)
    (stripe : Stripe) (refusal : Option FenceFault) (old : RackState) (z : Snapshot) (leads : LeadsTo a words new kept change redo stripe)
    → IsServing AnyReturns before a words kept old.history → Redoes a.member.array.geometry redo stripe AtRest refusal (snapshot a.member old) z
    → IsTrue z.told.honest → (c : List Happening) → IsMoment old.history c z.told.history → StaysWithinToleranceTo AnyReturns a.member.array.geometry before c
    → IsTolerated a.member.array.geometry before old.history
was_tolerated before a words new kept change redo stripe refusal old z leads serving run honest c at calm =
    calm old.history
    (moment_between {a = any_call} {b = any_call} serving.is_open.ran
    (ran_before {allowed = any_call}
    (redo_ran (redo_by a.member words new redo) leads.redoing stripe leads.cells old.history AtRest refusal (snapshot a.member old) z run honest) at))

whole_run : (a : ArrayState) (words new : Codewords) (kept : Content) (change : Option Change) (redo : Redo) (stripe : Stripe)
    (refusal : Option FenceFault) (old : RackState) (z : Snapshot) → LeadsTo a words new kept change redo stripe
    → Redoes a.member.array.geometry redo stripe AtRest refusal (snapshot a.member old) z → IsTrue z.told.honest
    → IsMoment old.history z.told.history z.told.history
whole_run a words new kept change redo stripe refusal old z leads run honest =
    let ran =
    redo_ran (redo_by a.member words new redo) leads.redoing stripe leads.cells old.history AtRest refusal (snapshot a.member old) z run honest in
    moment_last ran.more ran.is

pub redos_lead : LeadsRedos AnyReturns
redos_lead = record {
  done = λ before a words new kept change redo stripe old z is leads run honest calm.
      serves_new before a words new kept change redo stripe leads old is
      (was_tolerated before a words new kept change redo stripe None old z leads is run honest z.told.history
      (whole_run a words new kept change redo stripe None old z leads run honest) calm) z run honest calm;
  moments = λ before a words new kept change redo stripe refusal old z is leads run honest c at calm image left.
      let within = was_tolerated before a words new kept change redo stripe refusal old z leads is run honest c at calm in
      redo_stands before (doing before a words new kept change redo stripe leads old is within) stripe leads.cells AtRest refusal (snapshot a.member old) z run
      honest a.rebuild a.stopped (rest_any before a words new kept change redo stripe leads old is within) c at calm image left;
  refused = λ before a words new kept change redo stripe fault old z is leads run honest calm.
      let within =
      was_tolerated before a words new kept change redo stripe (Some fault) old z leads is run honest z.told.history
      (whole_run a words new kept change redo stripe (Some fault) old z leads run honest) calm in
      redo_ended before (doing before a words new kept change redo stripe leads old is within) stripe leads.cells AtRest (Some fault) (snapshot a.member old) z
      run fault refl honest calm a.rebuild a.stopped (rest_any before a words new kept change redo stripe leads old is within);
  enough = λ before a words new kept change redo stripe whys old z is leads run honest calm.
      let within =
      was_tolerated before a words new kept change redo stripe (Some (fence.TooFew whys)) old z leads is run honest z.told.history
      (whole_run a words new kept change redo stripe (Some (fence.TooFew whys)) old z leads run honest) calm in
      redo_enough before (doing before a words new kept change redo stripe leads old is within) stripe leads.cells AtRest (Some (fence.TooFew whys))
      (snapshot a.member old) z run whys refl honest calm a.rebuild a.stopped (rest_any before a words new kept change redo stripe leads old is within);
}
