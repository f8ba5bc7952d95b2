-- An open array that serves is led on by an epoch that changes its frozen mark or its label, whichever media come back meanwhile.
use Rattle.std.proofs.Common.{◌≡◌, List, inl, refl, sym, ◌∙◌, subst, arith, true≢false, None, Some, Option}
use Rattle.std.specs.Prelude.{IsTrue}
use Rattle.stair_model.specs.Geometry.{Geometry}
use Rattle.stair_model.specs.Slots.{HasSlot, no_slots}
use Rattle.stair_model.proofs.SetLaws.{has_slot-none}
use Rattle.stair_rack.specs.Answers.{any_call}
use Rattle.stair_rack.specs.Crash.{CrashMayLeave}
use Rattle.stair_rack.specs.History.{Happening}
use Rattle.stair_rack.specs.Media.{Image}
use Rattle.stair_rack.specs.Moments.{IsMoment}
use Rattle.stair_rack.specs.RackState.{RackState}
use Rattle.stair_rack.proofs.MomentLemmas.{ran_any, ran_join}
use Rattle.stair_rack.proofs.TidyLemmas.{history_on}
use Rattle.stair_super.specs.declared.configuration.Configuration.{Configuration}
use Rattle.stair_member.specs.Aims.{IsAimed}
use Rattle.stair_member.specs.Epochs.{IsIssuing, Issued}
use Rattle.stair_member.specs.Establishing.{Establishes}
use Rattle.stair_member.specs.Membership.{Membership}
use Rattle.stair_member.specs.declared.aim.EpochChange.{EpochChange}
use Rattle.stair_member.specs.declared.fault.FenceFault.{FenceFault}
use Rattle.stair_member.specs.declared.fault.FenceFault.TheVariants as fence
use Rattle.stair_member.specs.declared.why.Why.{Why}
use Rattle.stair_member.specs.declared.why.Why.TheVariants as why
use Rattle.stair_state.specs.Blocks.{Codewords}
use Rattle.stair_state.specs.State.{Change, Content, changed_if}
use Rattle.stair_state.specs.Tolerance.{IsTolerated}
use Rattle.stair_invariant.specs.InSession.{IsOfContent}
use Rattle.stair_invariant.specs.Leading.{led_to}
use Rattle.stair_invariant.specs.Returning.{AnyReturns, current_media_of}
use Rattle.stair_invariant.specs.SeatSteps.{EachMayDrop}
use Rattle.stair_invariant.specs.Session.{ArrayState, seats_in}
use Rattle.stair_invariant.proofs.EnoughLeft.{epoch_never_few}
use Rattle.stair_invariant.proofs.LeftOutLemmas.{none_leave}
use Rattle.stair_invariant.proofs.SeatLemmas.{IsListed}
use Rattle.stair_invariant.proofs.Serving.{StaysWithinToleranceTo, IsServing, StandsAs, StandsIn, tolerated_now}
use Rattle.stair_invariant.proofs.Stamping.{IsPlain, LeadsStamps, plain_aimed, plain_drops, plain_open}
use Rattle.stair_reinsert.specs.Beginning.{BeginsWherever, SaysContent}
use Rattle.stair_reinsert.proofs.EpochStands.{unlive}
use Rattle.stair_reinsert.proofs.EpochLaws.{established}
use Rattle.stair_reinsert.proofs.ServingEpochs.{doubtful, end_drops, epoch_stands_as, epoch_stands_in, knows_led, serving_begins}

module _ (before : List Happening) (a : ArrayState) (words : Codewords) (kept : Content) (doubt : Option Change) (aim : EpochChange) (last : Membership)
    (refusal : Option FenceFault) (old new : RackState) (is : IsServing AnyReturns before a words kept old.history)
    (plain : IsPlain aim a.member words kept doubt) (e : Establishes aim a.member last refusal old new) (honest : IsTrue new.honest) where
  abbrev g : Geometry
  g = a.member.array.geometry

  issued : Issued aim e.gone a.member last old.history new.history
  issued = e.issued honest

  says : SaysContent (doubtful before a words kept doubt plain.blocks old.history is) aim a.member
  says = record { frozen = inl is.of.frozen; label = inl is.of.label; frozen_new = plain.says.frozen; label_new = plain.says.label }

  begins : IsTolerated g before old.history
      → BeginsWherever (doubtful before a words kept doubt plain.blocks old.history is) (current_media_of a.member) a.member.array.epoch aim a.member old.history
  begins tolerated = serving_begins before a words kept doubt plain.blocks old.history is aim plain.admits plain.promotes says tolerated

  drops : (named : Configuration) → IsListed named → IsAimed aim (HasSlot e.gone) a.member named → EachMayDrop (seats_in a.member.array) (seats_in named)
  drops named listed aimed =
      plain_drops aim (HasSlot e.gone) a.member named is.is_open.array.member listed is.is_open.array.marks plain.admits plain.promotes aimed

  stamp_stands_in : (c : List Happening) → IsMoment old.history c new.history → StaysWithinToleranceTo AnyReturns g before c → (image : Image)
      → CrashMayLeave c image → StandsIn AnyReturns a.member kept doubt image
  stamp_stands_in c at calm image left =
      epoch_stands_in before a words kept doubt plain.blocks old.history is aim e.gone a.member last new.history begins issued refl drops c at calm
      image left

  module _ (calm : StaysWithinToleranceTo AnyReturns g before new.history) where
    stamp_stands_as : StandsAs AnyReturns a.member kept doubt new.history
    stamp_stands_as =
        epoch_stands_as before a words kept doubt plain.blocks old.history is aim e.gone a.member last new.history begins issued refl drops calm

    stamp_enough : (whys : List Why) → refusal ≡ Some (fence.TooFew whys) → ⊥
    stamp_enough whys refused =
        epoch_never_few aim before a.member a.member no_slots (none_leave a.member) last (fence.TooFew whys) old new
        (subst (λ (r : Option FenceFault). Establishes aim a.member last r old new) refused e) honest
        (λ j live. plain_aimed aim plain.admits plain.promotes j why.Here) g refl
        (tolerated_now AnyReturns g before new.history
        (ran_join {allowed = any_call} is.is_open.ran (ran_any {allowed = IsIssuing issued.slots issued.editions} issued.ran)) calm)
        (unlive g before new.history a.member last refl is.is_open.array.marks
        (end_drops before a words kept doubt plain.blocks old.history is aim e.gone a.member last new.history begins issued refl drops calm))
        (λ j live. is.is_open.held j (record { below = live.below; why = inl live.why }))
        (λ j live on. (is.is_open.live j live on).large 1 (omega arith)) (λ j live has. absurd (true≢false (sym has ∙ has_slot-none j))) whys refl

-- once it stands
stamp_serves : (before : List Happening) (a : ArrayState) (words : Codewords) (kept : Content) (doubt : Option Change) (aim : EpochChange)
    (last : Membership) (old new : RackState) → IsServing AnyReturns before a words kept old.history → IsPlain aim a.member words kept doubt
    → Establishes aim a.member last None old new → IsTrue new.honest → IsOfContent last words (changed_if doubt kept)
    → StaysWithinToleranceTo AnyReturns a.member.array.geometry before new.history
    → IsServing AnyReturns before (led_to a last) words (changed_if doubt kept) new.history
stamp_serves before a words kept doubt aim last old new is plain e honest of calm = record {
  is_open = plain_open aim before a words last old new is.history is.is_open plain.admits plain.promotes e honest;
  history = history_on {allowed = IsIssuing (e.issued honest).slots (e.issued honest).editions} is.history (e.issued honest).ran;
  of = of;
  knows =
      knows_led before a words kept doubt plain.blocks old.history is aim e.gone a.member last new.history
      (begins before a words kept doubt aim last None old new is plain e honest) (e.issued honest) refl
      (drops before a words kept doubt aim last None old new is plain e honest) calm
      (established aim a.member last old new e honest (λ slot promotes. absurd (plain.promotes slot promotes))) (λ closed. closed) e.geometry of;
}

-- THE LAWS

pub stamps_lead : LeadsStamps AnyReturns
stamps_lead = record {
  moments = λ before a words kept doubt aim last refusal old new is plain e honest c at calm image left.
      stamp_stands_in before a words kept doubt aim last refusal old new is plain e honest c at calm image left;
  ended = λ before a words kept doubt aim last refusal old new is plain e honest calm.
      stamp_stands_as before a words kept doubt aim last refusal old new is plain e honest calm;
  serves = λ before a words kept doubt aim last old new is plain e honest of calm.
      stamp_serves before a words kept doubt aim last old new is plain e honest of calm;
  enough = λ before a words kept doubt aim last whys old new is plain e honest calm.
      stamp_enough before a words kept doubt aim last (Some (fence.TooFew whys)) old new is plain e honest calm whys refl;
}
