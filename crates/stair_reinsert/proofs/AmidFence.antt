-- A fence in the midst of a redo of an array whose media come back, by the member that some slots left: it begins, it drops slots at most, and
-- it isn't refused for want of slots.
use Rattle.std.proofs.Common.{IsTrue, List, Option, Result, Some, inl, ◌<◌, ◌≡◌, ℕ}
use Rattle.stair_model.specs.Slots.{HasSlot, Slots}
use Rattle.stair_rack.specs.Answers.{Ran}
use Rattle.stair_rack.specs.Crash.{CrashMayLeave, image_now}
use Rattle.stair_rack.specs.History.{Happening}
use Rattle.stair_rack.specs.Media.{Image}
use Rattle.stair_rack.specs.Moments.{IsMoment}
use Rattle.stair_rack.specs.Offline.{IsAttached, IsOfflineUntilAttached}
use Rattle.stair_rack.specs.Stretch.{every_slot}
use Rattle.stair_rack.specs.RackState.{RackState}
use Rattle.stair_rack.proofs.CrashLemmas.{CrashMayLeave-now}
use Rattle.stair_rack.proofs.MomentLemmas.{ran_join}
use Rattle.stair_super.specs.Superblock.{Superblock}
use Rattle.stair_member.specs.declared.fault.FenceFault.TheVariants as fence
use Rattle.stair_member.specs.Establishing.{Fences, refusal_of}
use Rattle.stair_member.specs.Membership.{Membership}
use Rattle.stair_member.specs.declared.aim.EpochChange.TheVariants.{Fence}
use Rattle.stair_member.specs.declared.fault.FenceFault.{FenceFault}
use Rattle.stair_member.specs.declared.why.Why.{Why}
use Rattle.stair_state.specs.Holding.{IsBorneSince}
use Rattle.stair_state.specs.Redoing.{AttachesNone, Stage}
use Rattle.stair_state.specs.State.{Change, Content}
use Rattle.stair_state.specs.Tolerance.{IsTolerated, IsToleratedAlone}
use Rattle.stair_invariant.specs.Effects.{Snapshot}
use Rattle.stair_invariant.specs.InSession.{IsBesideEpochs}
use Rattle.stair_invariant.specs.Rebuilding.{Rebuild}
use Rattle.stair_invariant.specs.Returning.{current_media_of}
use Rattle.stair_invariant.specs.SeatSteps.{EachMayDrop}
use Rattle.stair_invariant.specs.Session.{IsLiveIn, seats_in}
use Rattle.stair_invariant.proofs.OpenWithLemmas.{amid_beside}
use Rattle.stair_reinsert.specs.Beginning.{BeginsWherever}
use Rattle.stair_reinsert.proofs.FenceLeaving.{drops_then, never_few}
use Rattle.stair_reinsert.proofs.LeavingBegins.{leaves_begins}
use Rattle.stair_reinsert.proofs.RedoFence.{fence_begins}
use Rattle.stair_reinsert.proofs.RedoPhase.{IsAmidAny, amid_large, own_names, with_member}
use Rattle.stair_reinsert.proofs.RedoStart.{in_redo, RedoAny, redo_of, says_still}
use Rattle.stair_reinsert.proofs.StageSince.{SinceIn}

module _ (before : List Happening) {kept : Content} {change : Option Change} (doing : RedoAny kept change) (stage : Stage) (rebuild : Option Rebuild)
    (stopped : Option FenceFault) (p : Snapshot) (is : IsAmidAny before doing stage rebuild stopped p) (mid : RackState)
    (beside : Ran (IsBesideEpochs p.member) p.told.history mid.history) (free : Ran (AttachesNone every_slot) p.told.history mid.history)
    (since : (j : ℕ) → IsLiveIn p.member j → IsAttached doing.start j → SinceIn (redo_of doing) stage doing.start mid.history j) (leaving : Slots)
    (last : Membership) (answer : Result Slots FenceFault) (told : RackState) (fences : Fences leaving p.member last answer mid told)
    (honest : IsTrue told.honest) (below : (j : ℕ) → HasSlot leaving j → j < p.member.array.geometry.n)
    (tolerated : IsTolerated doing.m.array.geometry before mid.history) where
  open doing use {m}

  pub leaving_begins : BeginsWherever (in_redo m kept change) (current_media_of p.member) p.member.array.epoch Fence fences.start mid.history
  leaving_begins =
      leaves_begins (in_redo m kept change) (current_media_of p.member) p.member.array.epoch leaving p.member fences.start mid.history
      (fence_begins before doing stage rebuild stopped p is mid.history beside free
      since (says_still doing p.member is.stays) tolerated) fences.leaves below

  -- what was borne since the member's epoch names what the member has
  names : (x : Superblock) → IsBorneSince m.array.geometry p.member.array.epoch (image_now mid.history) x → x.array ≡ p.member.array
  names =
      own_names before doing stage rebuild stopped p is mid.history beside free since (image_now mid.history) (CrashMayLeave-now mid.history)

  pub leaving_drops : (c : List Happening) → IsMoment mid.history c told.history → (image : Image) → CrashMayLeave c image
      → (alone : IsToleratedAlone m.array.geometry image) → EachMayDrop (seats_in p.member.array) (seats_in alone.current.array)
  leaving_drops =
      drops_then (in_redo m kept change) (current_media_of p.member) before leaving p.member last answer mid told fences honest is.amid.amid.array.member
      is.amid.amid.array.marks is.stays.geometry leaving_begins names

  pub leaving_enough : IsTolerated m.array.geometry before told.history
      → ((j : ℕ) → IsLiveIn p.member j → HasSlot leaving j → IsOfflineUntilAttached before mid.history j) → (whys : List Why)
      → ¬ (refusal_of answer ≡ Some (fence.TooFew whys))
  leaving_enough within =
      never_few (in_redo m kept change) (current_media_of p.member) before leaving p.member last answer mid told fences honest is.amid.amid.array.member
      is.amid.amid.array.marks is.stays.geometry leaving_begins names within
      (λ j live.
      (amid_beside before (with_member rebuild stopped p) p.told.history mid.history is.amid.amid is.history beside).held j
      (record { below = live.below; why = inl live.why }))
      (amid_large before doing stage rebuild stopped p is mid.history
      (ran_join {allowed = AttachesNone every_slot} is.amid.ran free))
