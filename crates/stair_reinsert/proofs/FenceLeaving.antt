-- A fence by the member that some slots left, whichever media come back: it drops slots at most, and within tolerance it isn't refused for want of
-- slots.
use Rattle.std.proofs.Common.{IsTrue, List, Option, Result, Some, refl, subst, sym, ◌<◌, ◌≡◌, ℕ, arith}
use Rattle.stair_model.specs.Slots.{HasSlot, Slots}
use Rattle.stair_rack.specs.Crash.{CrashMayLeave, image_now}
use Rattle.stair_rack.specs.History.{Happening, slot_state}
use Rattle.stair_rack.specs.Media.{Image}
use Rattle.stair_rack.specs.Moments.{IsMoment}
use Rattle.stair_rack.specs.Offline.{IsAttached, IsHeld, IsOfflineUntilAttached}
use Rattle.stair_rack.specs.RackState.{RackState}
use Rattle.stair_rack.proofs.CrashLemmas.{CrashMayLeave-now}
use Rattle.stair_rack.proofs.MomentLemmas.{moment_last}
use Rattle.stair_super.specs.Superblock.{Superblock, mark_in}
use Rattle.stair_member.specs.Aims.{mark_for}
use Rattle.stair_member.specs.Epochs.{Issued}
use Rattle.stair_member.specs.Establishing.{Establishes, Fences, refusal_of}
use Rattle.stair_member.specs.Membership.{IsMembership, Membership, why_of}
use Rattle.stair_member.specs.declared.aim.EpochChange.TheVariants.{Fence}
use Rattle.stair_member.specs.declared.fault.FenceFault.TheVariants as fence
use Rattle.stair_member.specs.declared.fault.FenceFault.{FenceFault}
use Rattle.stair_member.specs.declared.why.Why.{Why}
use Rattle.stair_state.specs.Holding.{CurrentMedia, IsBorneSince}
use Rattle.stair_state.specs.Represents.{IsLargeEnough}
use Rattle.stair_state.specs.State.{State}
use Rattle.stair_state.specs.Tolerance.{IsTolerated, IsToleratedAlone}
use Rattle.stair_state.proofs.OutsideLemmas.{tolerated_alone}
use Rattle.stair_invariant.specs.SeatSteps.{EachMayDrop}
use Rattle.stair_invariant.specs.Session.{IsLiveIn, seats_in}
use Rattle.stair_invariant.proofs.EnoughLeft.{epoch_never_few}
use Rattle.stair_invariant.proofs.StaysArrayLemmas.{fence_drops}
use Rattle.stair_reinsert.specs.Beginning.{BeginsWherever}
use Rattle.stair_reinsert.proofs.EpochStands.{current_drops, each_drops, unlive}

module _ (s : State) (current_media : CurrentMedia) (before : List Happening) (leaving : Slots) (m last : Membership) (answer : Result Slots FenceFault)
    (old new : RackState) (does : Fences leaving m last answer old new) (honest : IsTrue new.honest) (rules : IsMembership m)
    (marks : (j : ℕ) → j < m.array.geometry.n → mark_in m.array j ≡ mark_for (why_of m j)) (same : m.array.geometry ≡ s.geometry)
    (begins : BeginsWherever s current_media m.array.epoch Fence does.start old.history)
    (names : (x : Superblock) → IsBorneSince s.geometry m.array.epoch (image_now old.history) x → x.array ≡ m.array) where
  abbrev issued : Issued Fence does.establishes.gone does.start last old.history new.history
  issued = does.establishes.issued honest

  -- what is current at a moment of it has the seats of the member, or some are of slots that are dropped
  pub drops_then : (c : List Happening) → IsMoment old.history c new.history → (image : Image) → CrashMayLeave c image
      → (alone : IsToleratedAlone s.geometry image) → EachMayDrop (seats_in m.array) (seats_in alone.current.array)
  drops_then c at image left alone =
      current_drops s current_media m.array.epoch Fence does.establishes.gone does.start last old.history new.history begins issued c at image left alone m.array
      names does.leaves.array
      (λ named listed aimed. fence_drops leaving (HasSlot does.establishes.gone) m does.start named does.leaves rules listed aimed)

  pub never_few : IsTolerated s.geometry before new.history → ((j : ℕ) → IsLiveIn m j → IsHeld before old.history j)
      → ((j : ℕ) → IsLiveIn m j → IsAttached old.history j → IsLargeEnough s.geometry (slot_state old.history j).size)
      → ((j : ℕ) → IsLiveIn m j → HasSlot leaving j → IsOfflineUntilAttached before old.history j) → (whys : List Why)
      → ¬ (refusal_of answer ≡ Some (fence.TooFew whys))
  never_few within held large off whys refused =
      epoch_never_few Fence before m does.start leaving does.leaves last (fence.TooFew whys) old new
      (subst (λ (x : Option FenceFault). Establishes Fence does.start last x old new) refused does.establishes) honest (λ j live. refl) s.geometry (sym same)
      within (unlive s.geometry before new.history m last same marks (each_drops s.geometry (image_now new.history) m.array now drops_now)) held
      (λ j live on. large j live on 1 (omega arith)) off whys refl
    where
      now : IsToleratedAlone s.geometry (image_now new.history)
      now = tolerated_alone s.geometry before new.history (image_now new.history) within (CrashMayLeave-now new.history)

      drops_now : EachMayDrop (seats_in m.array) (seats_in now.current.array)
      drops_now = drops_then new.history (moment_last issued.ran.more issued.ran.is) (image_now new.history) (CrashMayLeave-now new.history) now
