-- While a step sets the frozen mark or the label no medium is live that the session's array left out.
use Rattle.std.proofs.Common.{List, None, Option, Some, inl, subst}
use Rattle.std.specs.Prelude.{IsTrue}
use Rattle.stair_model.specs.Geometry.{Geometry}
use Rattle.stair_rack.specs.Answers.{IsHistory, Ran, any_call}
use Rattle.stair_rack.specs.History.{Happening}
use Rattle.stair_rack.specs.Moments.{IsMoment}
use Rattle.stair_rack.specs.declared.watcher.Event.{Event}
use Rattle.stair_rack.proofs.MomentLemmas.{moment_between, ran_before}
use Rattle.stair_member.specs.Establishing.{Establishes}
use Rattle.stair_member.specs.Membership.{Membership}
use Rattle.stair_member.specs.declared.aim.EpochChange.{EpochChange}
use Rattle.stair_member.specs.declared.fault.FenceFault.{FenceFault}
use Rattle.stair_state.specs.State.{Change, State}
use Rattle.stair_state.specs.Tolerance.{IsTolerated}
use Rattle.stair_invariant.specs.Effects.{snapshot}
use Rattle.stair_invariant.specs.Returning.{AnyReturns, StaysWithinTolerance, current_media_of}
use Rattle.stair_invariant.proofs.Serving.{IsServing}
use Rattle.stair_invariant.proofs.Stamping.{IsPlain}
use Rattle.stair_array.specs.Machine.{Answer, SetFrozen, SetLabel, Step}
use Rattle.stair_array.specs.Promise.{IsInState, IsOpenFor, Performs, Seen, is_open}
use Rattle.stair_array.proofs.OpenStepLemmas.{calm_first, open_first, serves_first}
use Rattle.stair_array.proofs.StampStepLemmas.{Failed, IsStamped, Stamping, Stood, freezing, labelling}
use Rattle.stair_reinsert.specs.Beginning.{BeginsWherever, SaysContent}
use Rattle.stair_reinsert.proofs.ReadsLead.{reads_lead}
use Rattle.stair_reinsert.proofs.ServingEpochs.{doubtful, serving_begins}
use Rattle.stair_lives.specs.Stale.{NeverLiveInStamps, OnlyMeantAreLive}
use Rattle.stair_lives.proofs.Begun.{meant_live}

module _ (step : Step) (change : Change) (aim : Membership → EpochChange) (of_step : Stamping step change aim) (answer : Answer step) (events : List Event)
    (x y : Seen) (p : Performs step answer events x y) (honest : IsTrue y.told.honest) (history : IsHistory x.told.history) (before : List Happening)
    (s : State) (state : IsInState AnyReturns before s x) (c : List Happening) (at : IsMoment x.told.history c y.told.history)
    (calm : StaysWithinTolerance AnyReturns s.geometry (is_open x.session) before c) where
  abbrev m : Membership
  m = p.was.member

  abbrev begins : IsOpenFor AnyReturns before s p.was x.told.history
  begins = open_first AnyReturns reads_lead step of_step.no_opening answer events x y p before s state

  serves : IsServing AnyReturns before p.was begins.words s.content x.told.history
  serves = serves_first AnyReturns reads_lead step of_step.no_opening answer events x y p before s state history

  plain : IsPlain (aim m) m begins.words s.content (Some change)
  plain = of_step.plain m begins.words s.content serves.of

  upto : Ran any_call x.told.history c
  upto = ran_before {allowed = any_call} (p.later.ran honest) at

  tolerated : IsTolerated m.array.geometry before x.told.history
  tolerated =
      calm_first AnyReturns reads_lead step of_step.no_opening answer events x y p before s state c calm x.told.history
      (moment_between {a = any_call} {b = any_call} serves.is_open.ran upto)

  abbrev in_doubt : State
  in_doubt = doubtful before p.was begins.words s.content (Some change) plain.blocks x.told.history serves

  says : SaysContent in_doubt (aim m) m
  says = record { frozen = inl serves.of.frozen; label = inl serves.of.label; frozen_new = plain.says.frozen; label_new = plain.says.label }

  begun : BeginsWherever in_doubt (current_media_of m) m.array.epoch (aim m) m x.told.history
  begun =
      serving_begins before p.was begins.words s.content (Some change) plain.blocks x.told.history serves (aim m) plain.admits plain.promotes says
      tolerated

  live_by : (refusal : Option FenceFault) → Establishes (aim m) m p.is.member refusal x.told y.told → OnlyMeantAreLive m.array.geometry m c
  live_by refusal e image to current j left reassembly alone is live =
      meant_live in_doubt (aim m) e.gone m m p.is.member x.told.history c y.told.history begun (e.issued honest) at image to current left reassembly alone is j
      live

  stamped : OnlyMeantAreLive s.geometry m c
  stamped =
      subst (λ (g : Geometry). OnlyMeantAreLive g m c) begins.geometry
      (by answer (of_step.does p.was p.is.remembered answer (snapshot m x.told) (snapshot p.is.member y.told) p.does))
    where
      by : (given : Answer step) → IsStamped (aim m) (snapshot m x.told) (snapshot p.is.member y.told) given → OnlyMeantAreLive m.array.geometry m c
      by _ (Stood given e) = live_by None e
      by _ (Failed fault e) = live_by (Some fault) e

pub never_live_in_stamps : NeverLiveInStamps
never_live_in_stamps (SetFrozen frozen) answer events x y stamps p honest history before s state c at calm =
    stamped _ _ _ (freezing frozen) answer events x y p honest history before s state c at calm
never_live_in_stamps (SetLabel label) answer events x y stamps p honest history before s state c at calm =
    stamped _ _ _ (labelling label) answer events x y p honest history before s state c at calm
never_live_in_stamps _ answer events x y stamps p honest history before s state c at calm = absurd stamps
