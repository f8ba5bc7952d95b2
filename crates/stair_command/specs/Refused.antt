-- The status of a step that was refused.
use Rattle.std.specs.Prelude.{ℕ}
use Rattle.stair_array.specs.Machine.{Refusal}
use Rattle.stair_array.specs.Machine as array
use Rattle.stair_status.specs.declared.status.Status.{Status}
use Rattle.stair_status.specs.declared.status.Status.TheVariants.{AlreadyArray, EpochsSpent, Frozen, Gone, JournalLost, Lost, OutOfRange, SlotBusy, SmallDevice, TooFew}

-- by an array of so many slots
abbrev pub status_of_refusal : ℕ → Refusal → Status
status_of_refusal slots (array.OutOfRange asked limit) = OutOfRange asked limit
status_of_refusal slots array.Frozen = Frozen
status_of_refusal slots (array.Lost stripe counts) = Lost stripe counts slots
status_of_refusal slots (array.TooFew whys) = TooFew whys
status_of_refusal slots array.EpochsSpent = EpochsSpent
status_of_refusal slots (array.JournalLost sector) = JournalLost sector
status_of_refusal slots (array.SlotBusy slot was) = SlotBusy slot was
status_of_refusal slots (array.Gone slot) = Gone slot
status_of_refusal slots (array.SmallDevice slot has needs) = SmallDevice slot has needs
status_of_refusal slots (array.AlreadyArray slot) = AlreadyArray slot
