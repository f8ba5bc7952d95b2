-- Within tolerance a fence has enough slots left, so that it isn't refused for want of them.
use Rattle.std.proofs.Common.{◌≡◌, ℕ, List, inl, refl, sym, ◌∙◌, subst, arith, Option}
use Rattle.std.specs.Prelude.{IsTrue, Err}
use Rattle.std.proofs.lemmas.Bool.{false≢true}
use Rattle.stair_model.specs.Geometry.{Geometry}
use Rattle.stair_model.specs.Slots.{HasSlot, Slots}
use Rattle.stair_rack.specs.Crash.{image_now}
use Rattle.stair_rack.specs.History.{Happening, slot_state}
use Rattle.stair_rack.specs.Media.{has_sector}
use Rattle.stair_rack.specs.Offline.{IsAttached, IsHeld, IsOfflineUntilAttached}
use Rattle.stair_rack.specs.RackState.{RackState}
use Rattle.stair_rack.proofs.CrashLemmas.{CrashMayLeave-now}
use Rattle.stair_rack.proofs.TidyLemmas.{HasSize, size_on}
use Rattle.stair_super.specs.Superblock.{Superblock}
use Rattle.stair_member.specs.Asked.{LeavesSectors}
use Rattle.stair_member.specs.Current.{IsCurrent, IsFailed, IsLive}
use Rattle.stair_member.specs.Establishing.{Fences}
use Rattle.stair_member.specs.Membership.{Membership, why_of}
use Rattle.stair_member.specs.declared.aim.EpochChange.TheVariants.{Fence}
use Rattle.stair_member.specs.declared.fault.FenceFault.{FenceFault}
use Rattle.stair_member.specs.declared.fault.FenceFault.TheVariants.{TooFew}
use Rattle.stair_member.specs.declared.why.Why.{Why}
use Rattle.stair_member.specs.declared.why.Why.TheVariants as why
use Rattle.stair_state.specs.Represents.{ImageRepresents, IsLargeEnough, Left}
use Rattle.stair_state.specs.State.{State}
use Rattle.stair_state.specs.Surveyed.{Bare, IsOwnOrBare, Own}
use Rattle.stair_state.specs.Tolerance.{IsTolerated}
use Rattle.stair_invariant.specs.Opening.{IsFoundFor}
use Rattle.stair_invariant.specs.Session.{IsLiveIn}
use Rattle.stair_invariant.proofs.EnoughLeft.{epoch_never_few}

pub never_few : (before : List Happening) (m : Membership) (leaving : Slots) (last : Membership) (fault : FenceFault) (old new : RackState)
    → Fences leaving m last (Err fault) old new → IsTrue new.honest → (g : Geometry) → g ≡ m.array.geometry → IsTolerated g before new.history
    → ((current : Superblock) → IsCurrent g (image_now new.history) current → (j : ℕ) → IsLive g (image_now new.history) current j
    → why_of m j ≡ why.Here) → ((j : ℕ) → IsLiveIn m j → IsHeld before old.history j)
    → ((j : ℕ) → IsLiveIn m j → IsAttached old.history j → IsTrue (has_sector (slot_state old.history j).size 1))
    → ((j : ℕ) → IsLiveIn m j → HasSlot leaving j → IsOfflineUntilAttached before old.history j) → (whys : List Why) → ¬ (fault ≡ TooFew whys)
never_few before m leaving last fault old new does honest g same tolerated live_here =
    epoch_never_few Fence before m does.start leaving does.leaves last fault old new does.establishes honest (λ j live. refl) g same tolerated
    (λ current is_current j below other missing. IsFailed.NotLive below (λ live. other (live_here current is_current j live)))

-- THE FIRST FENCE

-- what is large is so after the survey
pub first_size : (s : State) (m : Membership) (before mid : List Happening) → IsFoundFor s m before before mid → (j : ℕ) → IsLiveIn m j → IsAttached mid j
    → IsTrue (has_sector (slot_state mid j).size 1)
first_size s m before mid found j live on = by (found.own j (record { below = live.below; why = inl live.why }))
  where
    first : ImageRepresents s found.represents.encodings (image_now before)
    first = found.represents.each (image_now before) (Left (CrashMayLeave-now before))

    large : IsLargeEnough s.geometry (slot_state before j).size
    large =
        first.full j
        (subst (λ (g : Geometry). IsLive g (image_now before) first.current j) (sym found.geometry)
        (found.live j live.below live.why (image_now before) (CrashMayLeave-now before) first.current
        (subst (λ (g : Geometry). IsCurrent g (image_now before) first.current) found.geometry first.is_current)))

    by : IsOwnOrBare (slot_state before j) (slot_state mid j) → IsTrue (has_sector (slot_state mid j).size 1)
    by (Bare off bare) = absurd (false≢true (sym off ∙ on))
    by (Own had pulls some) =
        elim (size_on {allowed = LeavesSectors} (slot_state before j).pulls (slot_state before j).size j had found.ran (HasSize.Same refl refl)) [
          | HasSize.Same at is ↦ subst (λ (n : Option ℕ). IsTrue (has_sector n 1)) (sym is) (large 1 (omega arith))
          | HasSize.Other less ↦ absurd (omega (arith, less, pulls))
        ]
