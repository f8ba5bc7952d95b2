-- An open array that serves is led on by an epoch that changes its frozen mark or its label, where no medium comes back.
use Rattle.std.proofs.Common.{◌≡◌, ◌≢◌, ℕ, List, inl, inr, refl, sym, ap, None, Some, Option, ◌∙◌}
use Rattle.std.specs.Prelude.{◌⊎◌, IsTrue}
use Rattle.stair_model.specs.Slots.{HasSlot}
use Rattle.stair_rack.specs.Answers.{Ran, any_call}
use Rattle.stair_rack.specs.Crash.{CrashMayLeave}
use Rattle.stair_rack.specs.History.{Happening}
use Rattle.stair_rack.specs.Media.{Image}
use Rattle.stair_rack.specs.Moments.{IsMoment}
use Rattle.stair_rack.specs.RackState.{RackState}
use Rattle.stair_rack.proofs.MomentLemmas.{moment_between, moment_last, ran_any, ran_before, ran_join}
use Rattle.stair_rack.proofs.StretchLemmas.{each_before}
use Rattle.stair_rack.proofs.OfflineLemmas.{stopped_on}
use Rattle.stair_super.specs.declared.configuration.Configuration.{Configuration}
use Rattle.stair_member.specs.Aims.{admitted}
use Rattle.stair_member.specs.Epochs.{IsIssuing}
use Rattle.stair_member.specs.Establishing.{Establishes}
use Rattle.stair_member.specs.Membership.{Membership}
use Rattle.stair_member.specs.Seats.{Seats}
use Rattle.stair_member.specs.declared.aim.EpochChange.{EpochChange}
use Rattle.stair_member.specs.declared.aim.EpochChange.TheVariants.{Admit, Fence, Promote, Stamp}
use Rattle.stair_member.specs.declared.fault.FenceFault.{FenceFault}
use Rattle.stair_member.specs.declared.fault.FenceFault.TheVariants as fence
use Rattle.stair_member.specs.declared.why.Why.{Why}
use Rattle.stair_member.specs.declared.why.Why.TheVariants as why
use Rattle.stair_state.specs.Blocks.{Codewords}
use Rattle.stair_state.specs.State.{Change, Content, changed_if}
use Rattle.stair_invariant.specs.InSession.{IsOfContent, IsReadyFor}
use Rattle.stair_invariant.specs.Leading.{led_to}
use Rattle.stair_invariant.specs.Returning.{NoneReturns}
use Rattle.stair_invariant.specs.SeatSteps.{EpochChangeMoves, EachMayDrop, SeatsMove}
use Rattle.stair_invariant.specs.Session.{ArrayState, IsRebuiltIn, seats_in}
use Rattle.stair_invariant.proofs.OpenLaws.{in_session}
use Rattle.stair_invariant.proofs.ReadyLemmas.{ready_plain}
use Rattle.stair_invariant.proofs.Serving.{StaysWithinToleranceTo, IsGoing, IsServing, StandsAs, StandsIn}
use Rattle.stair_invariant.proofs.Stamping.{IsPlain, LeadsStamps, plain_aimed}
use Rattle.stair_array.proofs.EpochServingLemmas.{epoch_represents, epoch_serves, epoch_stands, never_few, none_raised}
use Rattle.stair_array.proofs.ServingLemmas.{goes_on}

plain_moves : (aim : EpochChange) (gone : ℕ → Type 0) (was now : Seats) → admitted aim ≡ None → ((j : ℕ) → aim ≢ Promote j) → EpochChangeMoves aim gone was now
    → EachMayDrop was now
plain_moves Fence gone was now none never moves = moves
plain_moves (Stamp frozen label) gone was now none never moves = moves
plain_moves (Admit slot) gone was now none never moves = absurd (cc)
plain_moves (Promote slot) gone was now none never moves = absurd (never slot refl)

module _ (before : List Happening) (a : ArrayState) (words : Codewords) (kept : Content) (doubt : Option Change) (aim : EpochChange) (last : Membership)
    (refusal : Option FenceFault) (old new : RackState) (is : IsServing NoneReturns before a words kept old.history)
    (plain : IsPlain aim a.member words kept doubt) (e : Establishes aim a.member last refusal old new) (honest : IsTrue new.honest) where
  ran : Ran any_call old.history new.history
  ran = ran_any {allowed = IsIssuing (e.issued honest).slots (e.issued honest).editions} (e.issued honest).ran

  ready_going : (c : List Happening) → IsMoment old.history c new.history → IsGoing NoneReturns a.member.array.geometry before c
      → IsReadyFor aim a.member words old.history
  ready_going c at on =
      let upto = ran_before {allowed = any_call} ran at in
      ready_plain aim a.member words old.history plain.admits plain.promotes
      (in_session before a words old.history is.is_open
      (each_before on.0 (moment_between {a = any_call} {b = any_call} is.is_open.ran upto))
      (λ stops. on.1 (stopped_on {allowed = any_call} upto stops)) is.knows)

  ready : (c : List Happening) → IsMoment old.history c new.history → StaysWithinToleranceTo NoneReturns a.member.array.geometry before c
      → IsReadyFor aim a.member words old.history
  ready c at calm =
      ready_going c at (
        calm.1,
        goes_on NoneReturns a.member.array.geometry before c (ran_join {allowed = any_call} is.is_open.ran (ran_before {allowed = any_call} ran at)) calm,
      )

  no_promotion : (slot : ℕ) → aim ≡ Promote slot → IsRebuiltIn a.member slot
  no_promotion slot same = absurd (plain.promotes slot same)

  drops : (array : Configuration) → (array ≡ a.member.array) ⊎ SeatsMove aim (HasSlot e.gone) (seats_in a.member.array) (seats_in array)
      → EachMayDrop (seats_in a.member.array) (seats_in array)
  drops array (inl same) = λ j. inl (ap (λ (c : Configuration). seats_in c j) same)
  drops array (inr moves) = plain_moves aim (HasSlot e.gone) (seats_in a.member.array) (seats_in array) plain.admits plain.promotes moves.moves

  stamp_stands_in : (c : List Happening) → IsMoment old.history c new.history → StaysWithinToleranceTo NoneReturns a.member.array.geometry before c
      → (image : Image) → CrashMayLeave c image → StandsIn NoneReturns a.member kept doubt image
  stamp_stands_in c at calm image left =
      let found =
      epoch_stands before a words kept doubt is.of aim plain.says last refusal old new e honest is.is_open.ran (ready c at calm) no_promotion c at calm
      image left in
      record { array = found.0; stands = found.1; dropped = drops found.0 found.2 }

  end : IsMoment old.history new.history new.history
  end = moment_last ran.more ran.is

  stamp_stands_as : StaysWithinToleranceTo NoneReturns a.member.array.geometry before new.history → StandsAs NoneReturns a.member kept doubt new.history
  stamp_stands_as calm =
      let found =
      epoch_represents before a words kept doubt is.of aim plain.says last refusal old new e honest is.is_open.ran (ready new.history end calm)
      no_promotion calm in
      record { array = found.0; stands = found.1; dropped = drops found.0 found.2 }

  stamp_serves : refusal ≡ None → IsOfContent last words (changed_if doubt kept) → IsGoing NoneReturns a.member.array.geometry before new.history
      → IsServing NoneReturns before (led_to a last) words (changed_if doubt kept) new.history
  stamp_serves fine of on =
      epoch_serves before a words kept doubt is.of aim plain.says last refusal old new e honest is.is_open.ran (ready_going new.history end on)
      no_promotion fine on (changed_if doubt kept) of is.is_open
      (λ j joins. let never : None ≡ Some j = sym plain.admits ∙ joins in absurd (cc))

  stamp_enough : (fault : FenceFault) → refusal ≡ Some fault → StaysWithinToleranceTo NoneReturns a.member.array.geometry before new.history → (whys : List Why)
      → ¬ (fault ≡ fence.TooFew whys)
  stamp_enough fault refused calm =
      never_few before a words kept doubt is.of aim plain.says last refusal old new e honest is.is_open.ran (ready new.history end calm) no_promotion
      (λ j live. plain_aimed aim plain.admits plain.promotes j why.Here)
      (none_raised before a words kept doubt is.of aim plain.says last refusal old new e honest is.is_open.ran (ready new.history end calm) no_promotion
      drops) is.is_open calm fault refused

pub stamps_lead : LeadsStamps NoneReturns
stamps_lead = record {
  moments = λ before a words kept doubt aim last refusal old new is plain e honest c at calm image left.
      stamp_stands_in before a words kept doubt aim last refusal old new is plain e honest c at calm image left;
  ended = λ before a words kept doubt aim last refusal old new is plain e honest calm.
      stamp_stands_as before a words kept doubt aim last refusal old new is plain e honest calm;
  serves = λ before a words kept doubt aim last old new is plain e honest of on.
      stamp_serves before a words kept doubt aim last None old new is plain e honest refl of on;
  enough = λ before a words kept doubt aim last whys old new is plain e honest calm.
      stamp_enough before a words kept doubt aim last (Some (fence.TooFew whys)) old new is plain e honest (fence.TooFew whys) refl calm whys refl;
}
