-- An open array that serves while an epoch is established that moves seats, whatever comes back meanwhile: by the media that hold chunks as
-- it begins.
use Rattle.std.proofs.Common.{◌≡◌, List, ◌⊎◌, inl, inr, refl, sym, subst, None, Some}
use Rattle.stair_model.specs.Geometry.{Geometry}
use Rattle.stair_model.specs.Slots.{HasSlot, Slots}
use Rattle.stair_rack.specs.Answers.{Ran, any_call}
use Rattle.stair_rack.specs.Crash.{CrashMayLeave, image_now}
use Rattle.stair_rack.specs.History.{Happening}
use Rattle.stair_rack.specs.Media.{Image}
use Rattle.stair_rack.specs.Moments.{IsMoment}
use Rattle.stair_rack.proofs.CrashLemmas.{CrashMayLeave-now}
use Rattle.stair_rack.proofs.MomentLemmas.{moment_between, moment_last, ran_any, ran_before, ran_join}
use Rattle.stair_super.specs.Superblock.{Superblock}
use Rattle.stair_super.specs.declared.configuration.Configuration.{Configuration}
use Rattle.stair_member.specs.Current.{IsCurrent}
use Rattle.stair_member.specs.Epochs.{IsIssuing, Issued}
use Rattle.stair_member.specs.Membership.{Membership}
use Rattle.stair_member.specs.declared.aim.EpochChange.{EpochChange}
use Rattle.stair_member.proofs.SuperLemmas.{one_current, super_formed}
use Rattle.stair_state.specs.Blocks.{Codewords}
use Rattle.stair_state.specs.Holding.{CurrentMedia}
use Rattle.stair_state.specs.State.{Content, State}
use Rattle.stair_state.specs.Tolerance.{IsTolerated, IsToleratedAlone}
use Rattle.stair_state.proofs.OutsideLemmas.{tolerated_alone}
use Rattle.stair_invariant.specs.InSession.{state_with}
use Rattle.stair_invariant.specs.Returning.{AnyReturns, KnowsMedia}
use Rattle.stair_invariant.specs.SeatSteps.{SeatsMove}
use Rattle.stair_invariant.specs.Session.{ArrayState, seats_in}
use Rattle.stair_invariant.proofs.Mending.{StandsAsMoved, StandsMoved}
use Rattle.stair_invariant.proofs.OpenLaws.{goes_on_within}
use Rattle.stair_invariant.proofs.SeatLemmas.{Begins, IsListed, listed_super, seats_move}
use Rattle.stair_invariant.proofs.Serving.{StaysWithinToleranceTo, IsServing, tolerated_now}
use Rattle.stair_reinsert.specs.Beginning.{AreCurrentMediaClosed, BeginsWherever, StandsWherever}
use Rattle.stair_reinsert.proofs.EpochLaws as laws
use Rattle.stair_reinsert.proofs.EpochStands.{current_names, stands_alone, stands_ended}
use Rattle.stair_reinsert.proofs.ServingEpochs.{names_own}

module _ (before : List Happening) (a : ArrayState) (words : Codewords) (kept : Content) (old : List Happening)
    (is : IsServing AnyReturns before a words kept old) (aim : EpochChange) (current_media : CurrentMedia) (gone : Slots) (last : Membership) (new : List Happening)
    (begin : IsTolerated a.member.array.geometry before old
    → BeginsWherever (state_with a.member kept None a.member.array) current_media a.member.array.epoch aim a.member old) (starts : Begins aim a.member)
    (issued : Issued aim gone a.member last old new) where
  abbrev m : Membership
  m = a.member

  abbrev g : Geometry
  g = a.member.array.geometry

  abbrev s : State
  s = state_with a.member kept None a.member.array

  -- seats are as they were, or as the epoch is for
  abbrev pub SeatsGo : Configuration → Type 0
  SeatsGo array = (array ≡ m.array) ⊎ SeatsMove aim (HasSlot gone) (seats_in m.array) (seats_in array)

  ran : Ran any_call old new
  ran = ran_any {allowed = IsIssuing issued.slots issued.editions} issued.ran

  end : IsMoment old new new
  end = moment_last issued.ran.more issued.ran.is

  Goes : Configuration → Type 0
  Goes named = IsListed named → SeatsGo named

  goes_own : (named : Configuration) → named ≡ m.array → Goes named
  unfolding Goes
  goes_own named own listed = inl own

  module _ (c : List Happening) (at : IsMoment old c new) (calm : StaysWithinToleranceTo AnyReturns g before c) where
    upto : Ran any_call old c
    upto = ran_before {allowed = any_call} ran at

    pub tolerated_then : IsTolerated g before c
    tolerated_then = tolerated_now AnyReturns g before c (ran_join {allowed = any_call} is.is_open.ran upto) calm

    pub was_within : IsTolerated g before old
    was_within = calm old (moment_between {a = any_call} {b = any_call} is.is_open.ran upto)

    pub current_goes : (image : Image) → CrashMayLeave c image → (alone : IsToleratedAlone g image) → SeatsGo alone.current.array
    unfolding Goes
    current_goes image left alone =
        current_names s current_media m.array.epoch aim gone m last old new (begin was_within) issued c at image left alone Goes
        (λ x there. goes_own x.array (names_own s m old is.knows refl (image_now old) (CrashMayLeave-now old) x there)) (goes_own m.array refl)
        (λ named aimed_at listed.
        inr (seats_move (HasSlot gone) m named is.is_open.array.member listed is.is_open.array.marks aim starts aimed_at))
        (listed_super alone.current (super_formed _ alone.current alone.is_current.counts.super))

    pub moved_in : (image : Image) → CrashMayLeave c image → StandsMoved AnyReturns aim gone m kept image
    moved_in image left =
        let alone = tolerated_alone g before c image tolerated_then left in
        record {
          array = alone.current.array;
          stands = stands_alone s current_media m.array.epoch aim gone m last old new (begin was_within) issued c at image left alone;
          moved = current_goes image left alone;
        }

  module _ (calm : StaysWithinToleranceTo AnyReturns g before new) where
    now : IsToleratedAlone g (image_now new)
    now = tolerated_alone g before new (image_now new) (tolerated_then new end calm) (CrashMayLeave-now new)

    pub end_goes : (current : Superblock) → IsCurrent g (image_now new) current → SeatsGo current.array
    end_goes current is_current =
        subst (λ (x : Superblock). SeatsGo x.array) (one_current g (image_now new) now.current current now.is_current is_current)
        (current_goes new end calm (image_now new) (CrashMayLeave-now new) now)

    pub end_tolerated : IsTolerated g before new
    end_tolerated = tolerated_then new end calm

    pub moved_as : StandsAsMoved AnyReturns aim gone m kept new
    moved_as = record {
      array = now.current.array;
      stands =
          stands_ended s current_media m.array.epoch aim gone m last old new (begin (was_within new end calm)) issued
          (goes_on_within g before new (tolerated_then new end calm)) now;
      moved = end_goes now.current now.is_current;
    }

    -- Once it stands the session knows of all media what it is to know then.
    pub knows_moved : StandsWherever aim gone m last old new → (IsTolerated g before old → AreCurrentMediaClosed g current_media m old)
        → last.array.geometry ≡ g → KnowsMedia (state_with last kept None last.array) last new
    knows_moved stands closed geometry =
        subst
        (λ (y : Geometry). KnowsMedia (record { geometry = y; content = kept; in_doubt = None; seats = Some (seats_in last.array) }) last new)
        (sym geometry)
        (laws.goes_on s current_media m.array.epoch aim gone m last before old new (begin (was_within new end calm)) stands (closed (was_within new end calm))
        (tolerated_then new end calm))
