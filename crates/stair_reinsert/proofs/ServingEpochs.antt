-- An open array that serves while an epoch is established that neither admits nor promotes a slot, whatever comes back meanwhile.
use Rattle.std.proofs.Common.{◌≡◌, ◌≢◌, ◌≤◌, ℕ, List, inl, refl, sym, ap, ◌∙◌, subst, arith, None, Some, Option}
use Rattle.stair_model.specs.Geometry.{Geometry}
use Rattle.stair_model.specs.Slots.{HasSlot, Slots}
use Rattle.stair_rack.specs.Answers.{Ran, any_call}
use Rattle.stair_rack.specs.Crash.{CrashMayLeave, image_now}
use Rattle.stair_rack.specs.History.{Happening}
use Rattle.stair_rack.specs.Media.{Image}
use Rattle.stair_rack.specs.Moments.{IsMoment}
use Rattle.stair_rack.proofs.CrashLemmas.{CrashMayLeave-now}
use Rattle.stair_rack.proofs.MomentLemmas.{moment_between, moment_last, ran_any, ran_before, ran_join}
use Rattle.stair_super.specs.Superblock.{Superblock}
use Rattle.stair_super.specs.declared.configuration.Configuration.{Configuration}
use Rattle.stair_member.specs.Aims.{IsAimed, admitted}
use Rattle.stair_member.specs.Current.{IsCurrent}
use Rattle.stair_member.specs.Epochs.{IsIssuing, Issued}
use Rattle.stair_member.specs.Membership.{Membership}
use Rattle.stair_member.specs.declared.aim.EpochChange.{EpochChange}
use Rattle.stair_member.specs.declared.aim.EpochChange.TheVariants.{Promote}
use Rattle.stair_state.specs.Blocks.{Codewords}
use Rattle.stair_state.specs.Holding.{IsBorneSince}
use Rattle.stair_state.specs.Reassembly.{IsBorne}
use Rattle.stair_state.specs.State.{Change, Content, State, changed_if}
use Rattle.stair_state.specs.Tolerance.{IsTolerated, IsToleratedAlone}
use Rattle.stair_state.proofs.OutsideLemmas.{tolerated_alone}
use Rattle.stair_invariant.specs.InSession.{IsOfContent, state_with}
use Rattle.stair_invariant.specs.Returning.{AnyReturns, KnowsMedia, current_media_of}
use Rattle.stair_invariant.specs.SeatSteps.{EachMayDrop}
use Rattle.stair_invariant.specs.Session.{ArrayState, seats_in}
use Rattle.stair_invariant.proofs.OpenLaws.{goes_on_within}
use Rattle.stair_invariant.proofs.SeatLemmas.{IsListed}
use Rattle.stair_invariant.proofs.Serving.{StaysWithinToleranceTo, IsServing, StandsAs, StandsIn, tolerated_now}
use Rattle.stair_reinsert.specs.Beginning.{AreCurrentMediaClosed, BeginsWherever, SaysContent, StandsWherever}
use Rattle.stair_reinsert.proofs.EpochLaws as laws
use Rattle.stair_reinsert.proofs.EpochStands.{current_drops as drops_at, each_drops, stands_alone, stands_ended}
use Rattle.stair_reinsert.proofs.Restated.{restated}

-- what is borne since the member's epoch names what the member has
pub names_own : (s : State) (m : Membership) (h : List Happening) → KnowsMedia s m h → m.array.geometry ≡ s.geometry → (image : Image)
    → CrashMayLeave h image → (x : Superblock) → IsBorneSince s.geometry m.array.epoch image x → x.array ≡ m.array
names_own s m h knows same image left x there =
    let least : m.array.epoch ≤ x.array.epoch = there.since_then in
    let most : x.array.epoch ≤ m.array.epoch = knows.latest image left there.slot there.place x there.borne in
    (knows.known image left).named there.slot there.place x
    (subst (λ (y : Geometry). IsBorne y image there.slot there.place x) (sym same) there.borne) (omega (arith, least, most))

module _ (before : List Happening) (a : ArrayState) (words : Codewords) (kept : Content) (doubt : Option Change)
    (blocks : (changed_if doubt kept).blocks ≡ kept.blocks) (old : List Happening) (is : IsServing AnyReturns before a words kept old) where
  abbrev m : Membership
  m = a.member

  abbrev g : Geometry
  g = a.member.array.geometry

  -- the state with the change in doubt
  abbrev pub doubtful : State
  doubtful = state_with a.member kept doubt a.member.array

  own : (image : Image) → CrashMayLeave old image → (x : Superblock) → IsBorneSince g m.array.epoch image x → x.array ≡ m.array
  own = names_own (state_with a.member kept None a.member.array) m old is.knows refl

  -- so it knows of the media with the change in doubt
  doubted : KnowsMedia doubtful m old
  doubted =
      restated (state_with a.member kept None a.member.array) kept doubt m old is.knows refl blocks
      (λ image left x there. inl (ap (λ (c : Configuration). c.frozen) (own image left x there) ∙ is.of.frozen))
      (λ image left x there. inl (ap (λ (c : Configuration). c.label) (own image left x there) ∙ is.of.label))

  pub serving_begins : (aim : EpochChange) → admitted aim ≡ None → ((j : ℕ) → aim ≢ Promote j) → SaysContent doubtful aim m → IsTolerated g before old
      → BeginsWherever doubtful (current_media_of m) m.array.epoch aim m old
  serving_begins aim joins promotes says tolerated =
      laws.begins doubtful aim before a words old is.history is.is_open refl is.of.encodings blocks joins promotes doubted tolerated says

  pub serving_closed : IsTolerated g before old → AreCurrentMediaClosed g (current_media_of m) m old
  serving_closed tolerated = laws.closes doubtful before a words old is.history is.is_open refl is.of.encodings blocks doubted tolerated

  -- AN EPOCH, by a member that names what the array does, which drops slots at most
  module _ (aim : EpochChange) (gone : Slots) (start last : Membership) (new : List Happening)
      (begin : IsTolerated g before old → BeginsWherever doubtful (current_media_of m) m.array.epoch aim start old)
      (issued : Issued aim gone start last old new) (same : start.array ≡ m.array)
      (drops : (named : Configuration) → IsListed named → IsAimed aim (HasSlot gone) start named → EachMayDrop (seats_in m.array) (seats_in named)) where
    ran : Ran any_call old new
    ran = ran_any {allowed = IsIssuing issued.slots issued.editions} issued.ran

    end : IsMoment old new new
    end = moment_last issued.ran.more issued.ran.is

    module _ (c : List Happening) (at : IsMoment old c new) (calm : StaysWithinToleranceTo AnyReturns g before c) where
      upto : Ran any_call old c
      upto = ran_before {allowed = any_call} ran at

      within : IsTolerated g before c
      within = tolerated_now AnyReturns g before c (ran_join {allowed = any_call} is.is_open.ran upto) calm

      -- so it was as the call began
      was_within : IsTolerated g before old
      was_within = calm old (moment_between {a = any_call} {b = any_call} is.is_open.ran upto)

      begins : BeginsWherever doubtful (current_media_of m) m.array.epoch aim start old
      begins = begin was_within

      -- what is current at a moment of it has the seats that the array had, or some are of slots that it dropped
      pub current_drops : (image : Image) → CrashMayLeave c image → (alone : IsToleratedAlone g image)
          → EachMayDrop (seats_in m.array) (seats_in alone.current.array)
      current_drops image left alone =
          drops_at doubtful (current_media_of m) m.array.epoch aim gone start last old new begins issued c at image left alone m.array
          (own (image_now old) (CrashMayLeave-now old)) same drops

      pub epoch_stands_in : (image : Image) → CrashMayLeave c image → StandsIn AnyReturns m kept doubt image
      epoch_stands_in image left =
          let alone = tolerated_alone g before c image within left in
          record {
            array = alone.current.array;
            stands = stands_alone doubtful (current_media_of m) m.array.epoch aim gone start last old new begins issued c at image left alone;
            dropped = current_drops image left alone;
          }

    module _ (calm : StaysWithinToleranceTo AnyReturns g before new) where
      now : IsToleratedAlone g (image_now new)
      now = tolerated_alone g before new (image_now new) (within new end calm) (CrashMayLeave-now new)

      pub end_drops : (current : Superblock) → IsCurrent g (image_now new) current → EachMayDrop (seats_in m.array) (seats_in current.array)
      end_drops current is_current =
          each_drops g (image_now new) m.array now (current_drops new end calm (image_now new) (CrashMayLeave-now new) now) current is_current

      pub epoch_stands_as : StandsAs AnyReturns m kept doubt new
      epoch_stands_as = record {
        array = now.current.array;
        stands =
            stands_ended doubtful (current_media_of m) m.array.epoch aim gone start last old new (begins new end calm) issued
            (goes_on_within g before new (within new end calm)) now;
        dropped = end_drops now.current now.is_current;
      }

      -- the state with the seats that the new epoch names
      abbrev led : State
      led = record doubtful { seats = Some (seats_in last.array) }

      -- Once it stands, and says of the content that the change was made, the session knows of all media what it is to know then.
      pub knows_led : StandsWherever aim gone start last old new
          → (AreCurrentMediaClosed g (current_media_of m) m old → AreCurrentMediaClosed g (current_media_of m) start old) → last.array.geometry ≡ g
          → IsOfContent last words (changed_if doubt kept) → KnowsMedia (state_with last (changed_if doubt kept) None last.array) last new
      knows_led stands closed geometry of =
          subst
          (λ (y : Geometry). KnowsMedia (record { geometry = y; content = changed_if doubt kept; in_doubt = None; seats = Some (seats_in last.array) }) last new)
          (sym geometry)
          (restated led (changed_if doubt kept) None last new knows blocks refl
          (λ image left x there. inl (ap (λ (c : Configuration). c.frozen) (names_own led last new knows geometry image left x there) ∙ of.frozen))
          (λ image left x there. inl (ap (λ (c : Configuration). c.label) (names_own led last new knows geometry image left x there) ∙ of.label)))
        where
          knows : KnowsMedia led last new
          knows =
              laws.goes_on doubtful (current_media_of m) m.array.epoch aim gone start last before old new (begins new end calm) stands
              (closed (serving_closed (was_within new end calm))) (within new end calm)
