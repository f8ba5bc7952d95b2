-- What is found of a slot that is to be replaced, and of the device in it.
use Rattle.std.specs.Prelude.{◌≡◌, ◌≢◌, ◌<◌, ◌≤◌, ℕ, IsTrue, Option, None, Some, Result, Ok, Err, ⊤}
use Rattle.stair_model.specs.Geometry.{Geometry}
use Rattle.stair_rack.specs.Answers.{Calls, Ran}
use Rattle.stair_rack.specs.History.{Attach}
use Rattle.stair_rack.specs.RackState.{IsFoundGone, IsLater, RackState}
use Rattle.stair_rack.specs.declared.rack.Reply.TheVariants as reply
use Rattle.stair_super.specs.Superblock.{Superblock, mark_in}
use Rattle.stair_super.specs.declared.mark.Mark.TheVariants.{Down}
use Rattle.stair_member.specs.Membership.{Membership}
use Rattle.stair_array.specs.Causes.{BearsOther, IsSmall}
use Rattle.stair_array.specs.Look.{IsLookAt, IsTaken}
use Rattle.stair_array.specs.Mends.{IsFit, IsSecondLook}
use Rattle.stair_array.specs.declared.fault.ReplaceFault.{ReplaceFault}
use Rattle.stair_array.specs.declared.fault.ReplaceFault.TheVariants as fault
use Rattle.stair_mend.specs.declared.replacing.Places.{Places}

-- why a slot isn't replaced, before its device is looked at
abbrev pub IsNotFree : Membership → ℕ → ReplaceFault → Type 0
IsNotFree m slot (fault.OutOfRange asked limit) =
    (asked ≡ slot) × (limit ≡ m.array.geometry.n) × (limit ≤ slot)
IsNotFree m slot (fault.SlotBusy at mark) =
    (at ≡ slot) × (slot < m.array.geometry.n) × (mark_in m.array slot ≡ mark) × (mark ≢ Down)
IsNotFree m slot other = ⊥

-- it is of another array
abbrev pub IsOther : Geometry → Option Superblock → Type 0
IsOther g None = ⊥
IsOther g (Some s) = s.array.geometry ≢ g

-- it isn't
abbrev pub IsOwn : Geometry → Option Superblock → Type 0
IsOwn g None = ⊤
IsOwn g (Some s) = s.array.geometry ≡ g

-- the slot was attached, once, and then looked at
pub record WasLookedAt (slot : ℕ) (mid old new : RackState) : Type 0 where
  pub first : IsLater old mid
  pub attached : IsTrue mid.honest → Calls old.history mid.history slot (Attach reply.Done)
  pub later : IsLater mid new
  pub ran : IsTrue new.honest → Ran (IsSecondLook slot) mid.history new.history

-- it was gone to a call, and nothing was written
pub record WasGoneToLook (slot : ℕ) (old new : RackState) : Type 0 where
  pub later : IsLater old new
  pub ran : IsTrue new.honest → Ran (IsLookAt slot) old.history new.history
  pub gone : IsFoundGone slot old new

-- its device is fit to be admitted, and holds these superblocks
pub record WasFit (g : Geometry) (slot : ℕ) (places : Places) (old new : RackState) : Type 0 where
  pub mid : RackState
  pub looked : WasLookedAt slot mid old new
  pub fit : IsFit g slot places.first places.second mid new
  pub taken : IsTrue new.honest → IsTaken g slot old.history new.history

-- what was found of the slot, or why its device isn't fit
abbrev pub LooksAt : Geometry → ℕ → RackState → RackState → Result Places ReplaceFault → Type 0
LooksAt g slot old new (Ok places) = WasFit g slot places old new
LooksAt g slot old new (Err (fault.Gone at)) = (at ≡ slot) × WasGoneToLook slot old new
LooksAt g slot old new (Err (fault.SmallDevice at has needs)) =
    (at ≡ slot) × ((mid : RackState) × WasLookedAt slot mid old new × IsSmall g slot has needs mid new)
LooksAt g slot old new (Err (fault.AlreadyArray at)) =
    (at ≡ slot) × ((mid : RackState) × WasLookedAt slot mid old new × BearsOther g slot mid new)
LooksAt g slot old new (Err other) = ⊥
