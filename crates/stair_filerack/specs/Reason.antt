-- Why a device was gone, or can't be had.
use Rattle.std.specs.Prelude.{◌≡◌, ◌⊎◌, ℕ, pos, List, [], ◌∷◌, Option, None, Some, Any, IfSome, Result, Ok, Err}
use Rattle.std.specs.declared.io.Error.{Error}
use Rattle.std.specs.IoError.{raw_os_error}
use Rattle.stair_filerack.specs.declared.lock.Locking.{Locking}
use Rattle.stair_filerack.specs.declared.lock.Locking.TheVariants as locking
use Rattle.stair_filerack.specs.declared.reason.Reason.{Reason}
use Rattle.stair_filerack.specs.declared.reason.Reason.TheVariants.{Failed, InUse, NoDevice, OpenForReading}

-- Linux's numbers of the errors that tell of the caller and not of the device: it may not do it (EPERM, EACCES, EROFS), or
-- lacks what it takes (ENOMEM, ENFILE, EMFILE)
abbrev pub numbers_of_permissions : List ℕ
numbers_of_permissions = 1 ∷ 13 ∷ 30 ∷ []

abbrev pub numbers_of_shortages : List ℕ
numbers_of_shortages = 12 ∷ 23 ∷ 24 ∷ []

-- the error has this number
abbrev pub HasNumber : Error → ℕ → Type 0
HasNumber error number = raw_os_error error ≡ Some (pos number)

-- the reason is the caller's: another one than the device's
abbrev pub IsCallers : Reason → Type 0
IsCallers InUse = Unit {0}
IsCallers NoDevice = ⊥
IsCallers OpenForReading = ⊥
IsCallers (Failed error) = Any (HasNumber error) numbers_of_permissions
    ⊎ Any (HasNumber error) numbers_of_shortages

-- there is no file: ENOENT
abbrev pub IsNoFile : Reason → Type 0
IsNoFile InUse = ⊥
IsNoFile NoDevice = ⊥
IsNoFile OpenForReading = ⊥
IsNoFile (Failed error) = HasNumber error 2

-- the sector that was read can't be read any more: EIO
abbrev pub IsBadSector : Error → Type 0
IsBadSector error = HasNumber error 5

-- the reason that is kept where one more comes: the first
abbrev pub first_reason : Option Reason → Reason → Option Reason
first_reason None reason = Some reason
first_reason (Some first) reason = Some first

-- a reason that was kept stays
abbrev pub KeepsReason : Option Reason → Option Reason → Type 0
KeepsReason old new = IfSome old (λ first. new ≡ Some first)

-- whether a file may be had whose lock was asked for: not where another has it
abbrev pub had_of : Locking → Result (Unit {0}) Reason
had_of locking.Taken = Ok tt
had_of locking.InUse = Err InUse
had_of locking.NoLocks = Ok tt
