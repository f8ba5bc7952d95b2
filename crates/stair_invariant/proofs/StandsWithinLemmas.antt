-- At each moment of a recovery's parts whatever a crash leaves represents the state that the rack represented.
use Rattle.std.proofs.Common.{◌≡◌, ℕ, List, inl, inr, sym, ◌∙◌, subst, Option, Some}
use Rattle.std.specs.Prelude.{◌⊎◌, IsTrue}
use Rattle.stair_model.specs.CellSet.{HasCell}
use Rattle.stair_model.specs.Geometry.{Geometry, IsWithinLimits}
use Rattle.stair_model.specs.Slots.{Slots}
use Rattle.stair_model.specs.Stripe.{Stripe, cell}
use Rattle.stair_rack.specs.History.{Happening}
use Rattle.stair_rack.specs.Moments.{AtEveryMoment}
use Rattle.stair_rack.proofs.MomentLemmas.{at_every_mapped}
use Rattle.stair_member.specs.declared.fault.FenceFault.{FenceFault}
use Rattle.stair_journal.specs.Gate.{closed_gate}
use Rattle.stair_journal.specs.Journalling.{gate_writes}
use Rattle.stair_journal.specs.declared.body.Body.{Body}
use Rattle.stair_journal.specs.declared.redo.Redo.{Redo}
use Rattle.stair_state.specs.Redoing.{AtRest, IsRedoing, Placing, Redoing, Stage, Uncommitted}
use Rattle.stair_state.specs.Represents.{Encodings}
use Rattle.stair_state.specs.State.{State}
use Rattle.stair_state.specs.Surveyed.{NamesContent}
use Rattle.stair_invariant.specs.Effects.{AreLive, DoesStage, FindsBody, FindsRedo, Snapshot, Replays}
use Rattle.stair_invariant.specs.Opening.{IsRecovering, IsToldBy, StandsWithin}
use Rattle.stair_invariant.specs.UnderWay.{IsUnderWay}
use Rattle.stair_invariant.specs.Session.{seats_in}
use Rattle.stair_invariant.proofs.DoubtLemmas.{Doubt, doubt_of, doubt_stands}
use Rattle.stair_invariant.proofs.PhaseMoments.{IsGood, MayBeIn, Says, Stands, by_way}
use Rattle.stair_invariant.proofs.RecoveryMoments.{body_moments, closing_moments, finding_moments, replay_moments}
use Rattle.stair_invariant.proofs.RedoMoments.{as_it_was}

module _ (s : State) (encodings : Encodings s) (a : Redoing) (stage : Stage) (start : List Happening) (x : Snapshot)
    (is : IsRecovering a stage encodings.old encodings.new start x.member x.told.history) (geometry : s.geometry ≡ x.member.array.geometry)
    (names : NamesContent s x.member.array) where
  of_state : a.geometry ≡ s.geometry
  of_state = is.way.geometry ∙ sym geometry

  limits : IsWithinLimits a.geometry
  limits = subst IsWithinLimits (sym is.way.geometry) is.way.epoch.begun.member.array.limits

  -- what the array holds, and the change that its redo may make
  doubt : Doubt s encodings a x.member of_state names
  doubt = doubt_of s encodings a x.member of_state names is.words

  says : Says a limits start doubt.content doubt.change x.member.array x.member
  says = record { of = doubt.is.of; kept = as_it_was x.member.array.geometry x.member.array }

  abbrev StandsSo : List Happening → List Happening → Type 0
  StandsSo = Stands a limits start doubt.content doubt.change x.member.array

  abbrev Within : List Happening → Type 0
  Within = StandsWithin s x.member.array x.told.history

  within : (h : List Happening) → StandsSo x.told.history h → Within h
  within h stands none going image left tolerated =
      let good =
      subst (λ (g : Geometry). IsGood a limits start doubt.content doubt.change x.member.array g image) of_state (stands none going image left) tolerated in (
        doubt_stands s encodings a x.member doubt.content doubt.change doubt.is (Some (seats_in tolerated.current.array))
            (subst IsWithinLimits of_state limits) good.0.0 image good.0.1,
        good.1,
      )

  all_within : (new : List Happening) → AtEveryMoment (StandsSo x.told.history) x.told.history new → AtEveryMoment Within x.told.history new
  all_within new every = at_every_mapped {P = StandsSo x.told.history} {Q = Within} within every

  may : MayBeIn a stage
  may = elim is.begun [ inl rests ↦ inl rests | inr redo ↦ inr redo.0 ]

  -- So it is now,
  pub stands_now : StandsWithin s x.member.array x.told.history x.told.history
  stands_now =
      within x.told.history
      (λ none going.
      by_way a limits start doubt.content doubt.change x.member.array stage may x.member x.told.history is.way says going)

  -- while a redo is found,
  pub finding_stands : (redo : Option Redo) (opened : Slots) (refusal : Option FenceFault) (z : Snapshot) → FindsRedo redo opened refusal x z
      → IsTrue z.told.honest → AtEveryMoment (StandsWithin s x.member.array x.told.history) x.told.history z.told.history
  finding_stands redo opened refusal z found honest =
      all_within z.told.history
      (finding_moments a limits encodings.old encodings.new start doubt.content doubt.change x.member.array stage redo opened refusal x z found is honest says)

  -- while its body is read,
  pub body_stands : (redo : Redo) (body : Body) (was into : Stripe) (refusal : Option FenceFault) (z : Snapshot)
      → FindsBody redo body was into refusal x z → IsTrue z.told.honest
      → AtEveryMoment (StandsWithin s x.member.array x.told.history) x.told.history z.told.history
  body_stands redo body was into refusal z found honest =
      all_within z.told.history
      (body_moments a limits encodings.old encodings.new start doubt.content doubt.change x.member.array stage redo body was into refusal x z found is
      honest says)

  -- while gates are closed at rest,
  pub closing_stands : stage ≡ AtRest → (live : Slots) (refusal : Option FenceFault) (z : Snapshot) → AreLive x.member live
      → DoesStage (gate_writes closed_gate) live refusal x z → IsTrue z.told.honest
      → AtEveryMoment (StandsWithin s x.member.array x.told.history) x.told.history z.told.history
  closing_stands rests live refusal z are does honest =
      all_within z.told.history
      (closing_moments a limits encodings.old encodings.new start doubt.content doubt.change x.member.array live refusal x z are does
      (subst (λ (now : Stage). IsUnderWay a now start x.member x.told.history) rests is.way) honest says)

  -- and while a redo is done again.
  pub replay_stands : (redo : Option Redo) (opened : Slots) (stripe : Stripe) (refusal : Option FenceFault) (z : Snapshot)
      → IsToldBy redo opened a stage start x.member x.told.history → IsRedoing a → ((stage ≡ Uncommitted) ⊎ (stage ≡ Placing))
      → ((i c : ℕ) → HasCell a.redo.cells i c → cell stripe i c ≡ cell (a.new a.redo.stripe) i c)
      → Replays a.redo stripe opened refusal x z → IsTrue z.told.honest
      → AtEveryMoment (StandsWithin s x.member.array x.told.history) x.told.history z.told.history
  replay_stands redo opened stripe refusal z told redoing at_stage cells run honest =
      all_within z.told.history
      (replay_moments a limits encodings.old encodings.new start doubt.content doubt.change x.member.array stage redo opened redoing at_stage stripe refusal
      x z run cells is told honest says)
