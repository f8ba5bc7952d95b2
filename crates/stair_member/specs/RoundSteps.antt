-- One round of establishing an epoch.
use Rattle.std.specs.Prelude.{◌≡◌, ◌↔◌, ℕ, ◌-◌, ◌^◌, ◌<◌, IsTrue, Option, None, Some, Result, Ok, Err, unwrap_or, ◌==◌, if◌then◌else◌}
use Rattle.stair_model.specs.Slots.{Slots, HasSlot}
use Rattle.stair_rack.specs.Count.{Rose}
use Rattle.stair_rack.specs.RackCounts.{NoneFalls}
use Rattle.stair_member.specs.ChangesSteps.{Begins, IsLiveSlot, with_draw}
use Rattle.stair_member.specs.Counting.{AtMost}
use Rattle.stair_member.specs.Epochs.{IsRefusedBy}
use Rattle.stair_member.specs.Aims.{admitted}
use Rattle.stair_member.specs.Establishing.{Establishes}
use Rattle.stair_member.specs.HandSteps.{PlacesBelow, Spread}
use Rattle.stair_member.specs.Membership.{Membership, IsHere, IsMembership, IsMissing}
use Rattle.stair_rack.specs.RackState.{RackState}
use Rattle.stair_member.specs.declared.aim.EpochChange.{EpochChange}
use Rattle.stair_member.specs.declared.aim.EpochChange.TheVariants.{Fence, Admit, Promote, Stamp}
use Rattle.stair_member.specs.declared.fault.FenceFault.{FenceFault}

-- each live slot got a superblock with the next draw, or those below one that was gone
pub record DrewOut (m last : Membership) (gone : Option ℕ) (old new : RackState) : Type 0 where
  pub was : IsMembership m
  pub rules : IsMembership last
  pub few : AtMost m.array.geometry.m (IsMissing m)
  pub room : m.drawn < 2 ^ 64 - 1
  pub live : Slots
  pub lives : (j : ℕ) → HasSlot live j ↔ IsLiveSlot m j
  pub places : PlacesBelow (with_draw m) last live None (unwrap_or gone 32)
  pub rose : (j : ℕ) → gone ≡ Some j → HasSlot live j × Rose (old.gones j) (new.gones j)
  pub told : IsTrue new.honest → Spread (with_draw m) last live None gone old.history new.history
  pub counts : NoneFalls old.bads new.bads old.gones new.gones

-- nothing was done
pub record IsRefused (m last : Membership) (fault : FenceFault) (old new : RackState)
    : Type 0 where
  pub was : IsMembership m
  pub member : last ≡ m
  pub history : new.history ≡ old.history
  pub bads : new.bads ≡ old.bads
  pub gones : new.gones ≡ old.gones
  pub cause : IsRefusedBy m fault

abbrev pub Draws : Membership → Membership → Result (Option ℕ) FenceFault → RackState → RackState
    → Type 0
Draws m last (Ok gone) old new = DrewOut m last gone old new
Draws m last (Err fault) old new = IsRefused m last fault old new

-- an epoch began, and each slot that is here got its superblock, or those below one that was gone
pub record BeganOut (aim : EpochChange) (m last : Membership) (gone : Option ℕ) (old new : RackState)
    : Type 0 where
  pub begun : Membership
  pub begins : Begins aim m begun
  pub begun_rules : IsMembership begun
  pub rules : IsMembership last
  pub here : Slots
  pub heres : (j : ℕ) → HasSlot here j ↔ IsHere begun j
  pub places : PlacesBelow begun last here (admitted aim) (unwrap_or gone 32)
  pub rose : (j : ℕ) → gone ≡ Some j → HasSlot here j × Rose (old.gones j) (new.gones j)
  pub told : IsTrue new.honest
      → Spread begun last here (admitted aim) gone old.history new.history
  pub counts : NoneFalls old.bads new.bads old.gones new.gones

pub data Round (aim : EpochChange) (m last : Membership) (gone : Option ℕ) (old new : RackState)
    : Type 0 where
  BrokeOff : (j : ℕ) → gone ≡ Some j → DrewOut m last (Some j) old new
      → Round aim m last gone old new
  WentOn : (mid : Membership) (between : RackState) → old.honest ≡ between.honest
      → DrewOut m mid None old between
      → BeganOut aim mid last gone between new → Round aim m last gone old new

abbrev pub IsRound : EpochChange → Membership → Membership → Result (Option ℕ) FenceFault → RackState
    → RackState → Type 0
IsRound aim m last (Ok gone) old new = Round aim m last gone old new
IsRound aim m last (Err fault) old new = IsRefused m last fault old new

-- the aim that is left when a slot was gone
abbrev pub left_after : EpochChange → ℕ → EpochChange
left_after (Admit slot) j = if slot == j then Fence else Admit slot
left_after (Promote slot) j = if slot == j then Fence else Promote slot
left_after Fence j = Fence
left_after (Stamp frozen label) j = Stamp frozen label

-- an epoch stands, where these slots were gone; or it was refused
pub record StandsWithout (aim : EpochChange) (m last : Membership) (gone : Slots) (old new : RackState)
    : Type 0 where
  pub establishes : Establishes aim m last None old new
  pub gone_are : establishes.gone ≡ gone

abbrev pub HasEstablished : EpochChange → Membership → Membership → Result Slots FenceFault → RackState
    → RackState → Type 0
HasEstablished aim m last (Ok gone) old new = StandsWithout aim m last gone old new
HasEstablished aim m last (Err fault) old new = Establishes aim m last (Some fault) old new
