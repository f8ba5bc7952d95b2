-- The faults of the calls of an array, as the refusals of its machine.
use Rattle.std.specs.Prelude.{◌≡◌, Option, None, Some, Result, Ok, Err, ⊤}
use Rattle.stair_model.specs.Geometry.{Geometry}
use Rattle.stair_member.specs.declared.fault.FenceFault.{FenceFault}
use Rattle.stair_member.specs.declared.fault.FenceFault.TheVariants as fence
use Rattle.stair_member.specs.declared.fault.AdmitFault.{AdmitFault}
use Rattle.stair_member.specs.declared.fault.AdmitFault.TheVariants as admit
use Rattle.stair_array.specs.Machine.{AlreadyArray, EpochsSpent, Frozen, Gone, JournalLost, Lost, OutOfRange, Refusal, SlotBusy, SmallDevice, TooFew}
use Rattle.stair_array.specs.declared.fault.ArrayFault.{ArrayFault}
use Rattle.stair_array.specs.declared.fault.ArrayFault.TheVariants as array
use Rattle.stair_array.specs.declared.fault.RebuildFault.{RebuildFault}
use Rattle.stair_array.specs.declared.fault.RebuildFault.TheVariants as rebuild
use Rattle.stair_array.specs.declared.fault.RecoverFault.{RecoverFault}
use Rattle.stair_array.specs.declared.fault.RecoverFault.TheVariants as recover
use Rattle.stair_array.specs.declared.fault.ReplaceFault.{ReplaceFault}
use Rattle.stair_array.specs.declared.fault.ReplaceFault.TheVariants as replace

-- a refused epoch as a fault of an opening, and of another call
abbrev pub recover_fault : FenceFault → RecoverFault
recover_fault (fence.TooFew whys) = recover.TooFew whys
recover_fault fence.EpochsSpent = recover.EpochsSpent

abbrev pub array_fault : FenceFault → ArrayFault
array_fault (fence.TooFew whys) = array.TooFew whys
array_fault fence.EpochsSpent = array.EpochsSpent

-- the refusal of an opening; lack of memory is none of the machine's
abbrev pub opening_refusal : RecoverFault → Option Refusal
opening_refusal recover.Memory = None
opening_refusal (recover.TooFew whys) = Some (TooFew whys)
opening_refusal recover.EpochsSpent = Some EpochsSpent
opening_refusal (recover.JournalLost sector) = Some (JournalLost sector)

-- the refusal of another call
abbrev pub refusal_for : ArrayFault → Refusal
refusal_for (array.OutOfRange asked limit) = OutOfRange asked limit
refusal_for array.Frozen = Frozen
refusal_for (array.Lost stripe counts) = Lost stripe counts
refusal_for (array.TooFew whys) = TooFew whys
refusal_for array.EpochsSpent = EpochsSpent

-- what an opening of an array of this geometry came to, which there was memory for
abbrev pub IsAnsweredAs : Geometry → Result (Unit {0}) RecoverFault → Result Geometry Refusal → Type 0
IsAnsweredAs g (Ok done) answer = answer ≡ Ok g
IsAnsweredAs g (Err fault) answer =
    (refusal : Refusal) × (opening_refusal fault ≡ Some refusal) × (answer ≡ Err refusal)

-- REPLACING AND REBUILDING

abbrev pub replace_fault : FenceFault → ReplaceFault
replace_fault (fence.TooFew whys) = replace.TooFew whys
replace_fault fence.EpochsSpent = replace.EpochsSpent

abbrev pub admission_fault : AdmitFault → ReplaceFault
admission_fault (admit.TooFew whys) = replace.TooFew whys
admission_fault admit.EpochsSpent = replace.EpochsSpent
admission_fault (admit.Gone slot) = replace.Gone slot

abbrev pub rebuild_fault : FenceFault → RebuildFault
rebuild_fault (fence.TooFew whys) = rebuild.TooFew whys
rebuild_fault fence.EpochsSpent = rebuild.EpochsSpent

abbrev pub replace_refusal : ReplaceFault → Refusal
replace_refusal (replace.OutOfRange asked limit) = OutOfRange asked limit
replace_refusal (replace.SlotBusy slot mark) = SlotBusy slot mark
replace_refusal (replace.Gone slot) = Gone slot
replace_refusal (replace.SmallDevice slot has needs) = SmallDevice slot has needs
replace_refusal (replace.AlreadyArray slot) = AlreadyArray slot
replace_refusal (replace.TooFew whys) = TooFew whys
replace_refusal replace.EpochsSpent = EpochsSpent

abbrev pub rebuild_refusal : RebuildFault → Refusal
rebuild_refusal (rebuild.Lost stripe counts) = Lost stripe counts
rebuild_refusal (rebuild.TooFew whys) = TooFew whys
rebuild_refusal rebuild.EpochsSpent = EpochsSpent

-- a stripe that is loaded may be refused so
abbrev pub IsOfLoading : ArrayFault → Type 0
IsOfLoading (array.Lost stripe counts) = ⊤
IsOfLoading (array.TooFew whys) = ⊤
IsOfLoading array.EpochsSpent = ⊤
IsOfLoading _ = ⊥
