-- What `read` and `write` do: they open an array, and put out blocks of it, or take and write them.
use Rattle.std.specs.Prelude.{◌≡◌, ◌+◌, ◌<◌, ◌≤◌, ℕ, Bool, false, List, [], max, Some, Err}
use Rattle.stair_model.specs.Geometry.{Geometry, block_count}
use Rattle.stair_member.specs.Membership.{Membership}
use Rattle.stair_array.specs.Faults.{opening_refusal}
use Rattle.stair_array.specs.Machine.{Recover, Refusal}
use Rattle.stair_invariant.specs.Session.{ArrayState}
use Rattle.stair_array.specs.Promise.{Begun, Closed, Found, Opened, Phase}
use Rattle.stair_array.specs.declared.fault.RecoverFault.TheVariants as recover
use Rattle.stair_command.specs.declared.fault.Fault.{Fault}
use Rattle.stair_command.specs.declared.fault.Fault.TheVariants as fault
use Rattle.stair_command.specs.Comes.{ExecutesOnDevices}
use Rattle.stair_command.specs.Fault.{status_of_fault}
use Rattle.stair_command.specs.Devices.{DeviceView, devices, some_left}
use Rattle.stair_command.specs.Program.{Program, Over, opens_array, watches_array}
use Rattle.stair_command.specs.Steps.{Takes}
use Rattle.stair_command.specs.Transfers.{if_within, is_within, reads, writes}

-- Why an array that was found is not opened: out of memory before any call was made, or its opening was refused.
abbrev pub IsUnopened : {R W : Type 0} → DeviceView R W → Membership → Fault → R → R → List W → List W
    → Type 0
IsUnopened view member fault.Memory old new watchers left = (new ≡ old) × (left ≡ watchers)
IsUnopened view member (fault.Opening recover.Memory) old new watchers left =
    (new ≡ old) × (left ≡ watchers)
IsUnopened view member (fault.Opening refused) old new watchers left =
    (refusal : Refusal) × (opening_refusal refused ≡ Some refusal)
    × Takes view Recover (Err refusal) (devices old (Found member) watchers)
    (devices new Closed left)
IsUnopened view member _ old new watchers left = ⊥

-- The session has begun: its array was looked for and is open. Every program that opens one continues from there.
abbrev pub BeginsSession : {R W : Type 0} → DeviceView R W → ArrayState → R → R → List W → List W → Type 0
BeginsSession view array old new watchers left = (k : Geometry → Bool → Program)
    → ExecutesOnDevices view (watches_array k)
    (k array.member.array.geometry (some_left watchers left)) (devices old Begun watchers)
    (devices new (Opened array) left)

-- The session has not begun. Every program that opens an array ends with this fault.
abbrev pub EndsSession : {R W : Type 0} → DeviceView R W → Fault → R → R → List W → List W → Type 0
EndsSession view why old new watchers left = (k : Geometry → Bool → Program)
    → (session : Phase) × ExecutesOnDevices view (watches_array k) (Over (status_of_fault why))
    (devices old Begun watchers) (devices new session left)

-- RANGES

-- An array of this geometry has this number of blocks from that block on. For a count of 0 nothing is asked.
abbrev pub IsInRange : Geometry → ℕ → ℕ → Type 0
IsInRange g first count = 0 < count → first + count ≤ block_count g

abbrev pub is_in_range : Geometry → ℕ → ℕ → Bool
is_in_range g first count = is_within (block_count g) first count

abbrev pub if_in_range : Geometry → ℕ → Bool → Program → Program
if_in_range g first within program = if_within (block_count g) first within program

-- what is asked for is in range, or the call ends
abbrev pub within_range : Geometry → (first count : ℕ) → Program → Program
within_range g first count program = if_in_range g first (is_in_range g first count) program

-- If it is not in range, the call ends with this fault.
abbrev pub IsPast : Geometry → ℕ → ℕ → Fault → Type 0
IsPast g first count refused = (is_in_range g first count ≡ false)
    × (refused ≡ fault.OutOfRange (max first (block_count g)) (block_count g))

-- READING

abbrev pub read_program : (first count : ℕ) → Program
read_program first count = opens_array (λ g. within_range g first count (reads g first count))

-- WRITING

abbrev pub write_program : (first count : ℕ) → Program
write_program first count =
    opens_array (λ g. within_range g first count (writes g first count count 0 []))
