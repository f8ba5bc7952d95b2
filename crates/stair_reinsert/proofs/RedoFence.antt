-- A fence in the midst of a redo of an array whose media come back: what it begins with once a stage's phase was done.
use Rattle.std.specs.Prelude.{IsSome}
use Rattle.std.proofs.Common.{List, None, Option, Some, ap, refl, subst, sym, ◌<◌, ◌∙◌, ◌≡◌, ℕ, true≢false}
use Rattle.stair_model.specs.Device.{gate_sector}
use Rattle.stair_model.specs.Geometry.{Geometry}
use Rattle.stair_rack.specs.Answers.{IsHistory, IsNoAttach, Ran, any_call}
use Rattle.stair_rack.specs.Crash.{CrashMayLeave, image_now}
use Rattle.stair_rack.specs.History.{Happening}
use Rattle.stair_rack.specs.Media.{Image}
use Rattle.stair_rack.specs.Offline.{IsAttached}
use Rattle.stair_rack.specs.Placed.{IsSlot}
use Rattle.stair_rack.specs.Stretch.{every_slot}
use Rattle.stair_rack.proofs.CrashLemmas.{CrashMayLeave-now}
use Rattle.stair_rack.proofs.MomentLemmas.{ran_weakened, ran_join, ran_any}
use Rattle.stair_rack.proofs.TidyLemmas.{history_tidy, left_past_end}
use Rattle.stair_super.specs.Superblock.{Superblock, joined_in, mark_in}
use Rattle.stair_super.specs.declared.configuration.Configuration.{Configuration}
use Rattle.stair_super.specs.declared.mark.Mark.TheVariants as mark
use Rattle.stair_member.specs.Membership.{why_of}
use Rattle.stair_member.specs.Reserve.{Bears}
use Rattle.stair_member.specs.declared.aim.EpochChange.TheVariants.{Fence}
use Rattle.stair_member.specs.declared.fault.FenceFault.{FenceFault}
use Rattle.stair_member.proofs.EditionLemmas.{bears_below}
use Rattle.stair_journal.specs.Gate.{ReadsClosed}
use Rattle.stair_state.specs.Degraded.{AreDamagedCopies}
use Rattle.stair_state.specs.Holding.{IsCurrentMedium, IsConsistentBy}
use Rattle.stair_state.specs.Reassembly.{InSlot, IsReassembly}
use Rattle.stair_state.specs.Redoing.{AttachesNone, IsLeftIn, Stage}
use Rattle.stair_state.specs.Represents.{IsLargeEnough}
use Rattle.stair_state.specs.State.{Change, Content}
use Rattle.stair_state.specs.Tolerance.{IsTolerated, IsToleratedAlone}
use Rattle.stair_state.proofs.HoldingLemmas.{current_since}
use Rattle.stair_state.proofs.OutsideLemmas.{tolerated_alone}
use Rattle.stair_invariant.specs.Effects.{Snapshot}
use Rattle.stair_invariant.specs.InSession.{IsBesideEpochs}
use Rattle.stair_invariant.specs.Rebuilding.{Rebuild}
use Rattle.stair_invariant.specs.Returning.{current_media_of, AnyReturns}
use Rattle.stair_invariant.specs.SeatSteps.{EachMayDrop}
use Rattle.stair_invariant.proofs.Serving.{StaysWithinToleranceTo, StandsIn, tolerated_now}
use Rattle.stair_invariant.specs.Session.{IsLiveIn, IsRebuiltIn, seats_in}
use Rattle.stair_invariant.proofs.BesideLemmas.{large_on}
use Rattle.stair_invariant.proofs.MidwayLemmas.{rebuilding_why}
use Rattle.stair_reinsert.specs.Beginning.{BeginsWherever, SaysContent}
use Rattle.stair_reinsert.specs.Behind.{Bearing, ByMedium, ByMember, HasCurrentMedium, HasNumber, InUse, IsKnownBehind, IsRebuiltAs}
use Rattle.stair_reinsert.specs.Following.{HoldsNamed, name_of}
use Rattle.stair_reinsert.proofs.EpochStands.{alone_stands}
use Rattle.stair_reinsert.proofs.NameLemmas.{attached_name, still_attached}
use Rattle.stair_reinsert.proofs.RedoPhase.{IsAmidAny, all_alone, all_free, amid_consistent, amid_known, consistent_then, gate_closed, history_then, large_then, live_of, own_closed, own_names, own_staged, own_then, staged_form, with_member, staged}
use Rattle.stair_reinsert.proofs.RedoStart.{in_redo, RedoAny, redo_of}
use Rattle.stair_reinsert.proofs.SessionBegins.{session_begins}
use Rattle.stair_reinsert.proofs.SessionBehind.{left_reassembled}
use Rattle.stair_reinsert.proofs.StageSince.{SinceIn}

the_size : (o : Option ℕ) → IsSome o → (n : ℕ) × (o ≡ Some n)
the_size None none = absurd (true≢false (sym none))
the_size (Some n) some = (n, refl)

module _ (before : List Happening) {kept : Content} {change : Option Change} (doing : RedoAny kept change) (stage : Stage) (rebuild : Option Rebuild)
    (stopped : Option FenceFault) (p : Snapshot) (is : IsAmidAny before doing stage rebuild stopped p) (c : List Happening)
    (beside : Ran (IsBesideEpochs p.member) p.told.history c) (free : Ran (AttachesNone every_slot) p.told.history c)
    (since : (j : ℕ) → IsLiveIn p.member j → IsAttached doing.start j → SinceIn (redo_of doing) stage doing.start c j) where
  open doing use {both, m, start, starts}

  abbrev g : Geometry
  g = m.array.geometry

  history : IsHistory c
  history = history_then before doing stage rebuild stopped p is c beside free since

  unattached : (j : ℕ) → Ran (IsNoAttach j) start c
  unattached =
      all_alone before doing stage rebuild stopped p is c beside free since

  below_then : (j : ℕ) → j < m.array.geometry.n → j < p.member.array.geometry.n
  below_then j below = subst (λ (y : Geometry). j < y.n) (sym is.stays.geometry) below

  -- A SLOT THAT IS ATTACHED

  -- was so when the redo began,
  was_on : (j : ℕ) → IsAttached c j → IsAttached start j
  was_on j on = (still_attached j (unattached j) on).0

  -- and has the medium that it had
  in_slot : (j : ℕ) → IsAttached c j → (image to : Image) → CrashMayLeave c image → AreDamagedCopies ((image j).cell) ((to j).cell)
      → HoldsNamed c image to (name_of start j InSlot) j
  in_slot j on image to left copies =
      let one : (n : ℕ) × ((image j).size ≡ Some n) =
      the_size (image j).size (subst IsSome (sym (left j).size) ((history_tidy history).attached j on)) in
      record {
        place = InSlot;
        medium = record { size = one.0; cell = (image j).cell };
        is_one = (one.1, refl);
        named = attached_name j starts.history (unattached j) on;
        copies = copies;
      }

  -- BEHIND THE SUPERBLOCK PLACES

  module _ (image : Image) (left : CrashMayLeave c image) (to : Image) (reassembly : IsReassembly image to) (j : ℕ) where
    live_then : (n : ℕ) → current_media_of p.member j ≡ Some n → IsLiveIn p.member j × (n ≡ joined_in p.member.array j)
    live_then n =
        live_of before doing stage rebuild stopped p is c beside free since image left j n

    current_medium_by : (n : ℕ) → current_media_of p.member j ≡ Some n → (b : Superblock) → Bears m.array.geometry j ((to j).cell) b → b.joined ≡ n
        → IsCurrentMedium m.array.geometry (current_media_of p.member) j ((to j).cell)
    current_medium_by n current_medium b bears joined = record { super = b; bears = bears; joined = current_medium ∙ ap Some (sym joined) }

    has_staged : HasCurrentMedium m.array.geometry (current_media_of p.member) p.member c (image j) (to j) j
        → IsLeftIn (redo_of doing) stage (IsSlot j) to
    has_staged has = by has.number
      where
        by : HasNumber m.array.geometry p.member c (image j) (to j) j has.joined → IsLeftIn (redo_of doing) stage (IsSlot j) to
        by (Bearing b bears joined) =
            staged before doing stage rebuild stopped p is c beside free since image
            left to reassembly j (current_medium_by has.joined has.current_medium b bears joined)
        by (InUse here on same size copies) =
            own_staged before doing stage rebuild stopped p is c beside free since
            image left to j (live_then has.joined has.current_medium).0 (was_on j on) (in_slot j on image to left copies)

    has_large : HasCurrentMedium m.array.geometry (current_media_of p.member) p.member c (image j) (to j) j → IsLargeEnough m.array.geometry (to j).size
    has_large has = by has.number
      where
        by : HasNumber m.array.geometry p.member c (image j) (to j) j has.joined → IsLargeEnough m.array.geometry (to j).size
        by (Bearing b bears joined) =
            large_then before doing stage rebuild stopped p is c beside free since
            image left to j reassembly (current_medium_by has.joined has.current_medium b bears joined)
        by (InUse here on same size copies) =
            subst (λ (o : Option ℕ). IsLargeEnough m.array.geometry o) (sym (left j).size ∙ sym size)
            (large_on m.array.geometry start c j
            (ran_weakened {allowed = AttachesNone every_slot} {more = AttachesNone (λ i. i ≡ j)} (λ i call may at. may tt)
            (all_free before doing stage rebuild stopped p is c beside free since))
            (was_on j on) on (starts.large j (is.live j (live_then has.joined has.current_medium).0).0 (was_on j on)))

    has_shut : IsRebuiltIn p.member j → (n : ℕ) → n ≡ joined_in p.member.array j → HasNumber m.array.geometry p.member c (image j) (to j) j n
        → ReadsClosed m.array.geometry ((to j).cell gate_sector)
    has_shut rebuilt n means (Bearing b bears joined) =
        gate_closed before doing stage rebuild stopped p is c beside free since image left to reassembly j b rebuilt bears (joined ∙ means)
    has_shut rebuilt n means (InUse here on same size copies) =
        own_closed before doing stage rebuild stopped p is c beside free since image
        left to j rebuilt (was_on j on) (in_slot j on image to left copies)

    number_below : (n : ℕ) → HasNumber m.array.geometry p.member c (image j) (to j) j n → j < p.member.array.geometry.n
    number_below n (Bearing b bears joined) = below_then j (bears_below m.array.geometry j ((to j).cell) b bears)
    number_below n (InUse here on same size copies) = here.below

  -- a slot that an epoch marks as one that is rebuilt, since the member's, is so to the member
  rebuilt_then : (j n : ℕ) → j < p.member.array.geometry.n → IsRebuiltAs m.array.geometry p.member.array.epoch p.member c j n
      → IsRebuiltIn p.member j × (n ≡ joined_in p.member.array j)
  rebuilt_then j n below rebuilt = by rebuilt
    where
      marked_so : mark_in p.member.array j ≡ mark.Rebuilding → IsRebuiltIn p.member j
      marked_so marked =
          record { below = below; why = rebuilding_why (why_of p.member j) (sym (is.amid.amid.array.marks j below) ∙ marked) }

      by : IsRebuiltAs m.array.geometry p.member.array.epoch p.member c j n → IsRebuiltIn p.member j × (n ≡ joined_in p.member.array j)
      by (ByMember marked joined) = (marked_so marked, sym joined)
      by (ByMedium x there marked joined) =
          let names : x.array ≡ p.member.array =
          own_names before doing stage rebuild stopped p is c beside free since (image_now c) (CrashMayLeave-now c) x there in (
            marked_so (sym (ap (λ (y : Configuration). mark_in y j) names) ∙ marked),
            sym joined ∙ ap (λ (y : Configuration). joined_in y j) names,
          )

  fence_behind : IsKnownBehind (in_redo m kept change) both (current_media_of p.member) p.member.array.epoch Fence p.member c
  fence_behind = record {
    forms = λ image left to some reassembly have gate.
        staged_form before doing stage rebuild stopped p is c beside free since
        image left to some (λ j on. has_staged image left to reassembly j (have j on)) gate;
    full = λ image left to j reassembly has. has_large image left to reassembly j has;
    rebuilding = λ image left to j n other reassembly rebuilt number.
        let was = rebuilt_then j n (number_below image left to reassembly j n number) rebuilt in
        has_shut image left to reassembly j was.0 n was.1 number other;
    laid = λ image left j other joins on. let never : None ≡ Some j = joins in absurd (cc);
  }

  -- THE FENCE

  -- it begins
  pub fence_begins : SaysContent (in_redo m kept change) Fence p.member → IsTolerated m.array.geometry before c
      → BeginsWherever (in_redo m kept change) (current_media_of p.member) p.member.array.epoch Fence p.member c
  fence_begins says tolerated =
      session_begins (in_redo m kept change) Fence before (with_member rebuild stopped p) c history is.amid.amid.array is.stays.geometry refl
      (λ j never. cc)
      (λ image left.
      amid_known before doing stage rebuild stopped p is c beside free since image left)
      (consistent_then before doing stage rebuild stopped p is c beside free since) tolerated
      (own_then before doing stage rebuild stopped p is c beside free since) fence_behind says

  -- within tolerance an image represents the state with the redo's change in doubt
  pub amid_stands : StaysWithinToleranceTo AnyReturns m.array.geometry before c → (image : Image) → CrashMayLeave c image → StandsIn AnyReturns m kept change image
  amid_stands calm image left = record {
    array = alone.current.array;
    stands =
        alone_stands (in_redo m kept change) both (current_media_of p.member) p.member.array.epoch image (left_past_end c (history_tidy history) image left) it
        alone;
    dropped = subst (λ (x : Configuration). EachMayDrop (seats_in m.array) (seats_in x)) (sym names) is.stays.seats;
  }
    where
      alone : IsToleratedAlone m.array.geometry image
      alone =
          tolerated_alone m.array.geometry before c image
          (tolerated_now AnyReturns m.array.geometry before c
          (ran_join {allowed = any_call} is.amid.amid.ran (ran_any {allowed = IsBesideEpochs p.member} beside)) calm) left

      it : IsConsistentBy (in_redo m kept change) both (current_media_of p.member) p.member.array.epoch image
      it =
          amid_consistent before doing stage rebuild stopped p is c beside free since image left

      names : alone.current.array ≡ p.member.array
      names =
          own_names before doing stage rebuild stopped p is c beside free since image left alone.current
          (current_since (in_redo m kept change) both (current_media_of p.member) p.member.array.epoch image it image (left_reassembled c history image left)
          alone alone.current alone.is_current)
