-- The status of a call that ended with a fault.
use Rattle.std.specs.Prelude.{Result, Ok, Err}
use Rattle.stair_array.specs.Faults.{rebuild_refusal, refusal_for, replace_refusal}
use Rattle.stair_array.specs.declared.fault.RecoverFault.{RecoverFault}
use Rattle.stair_array.specs.declared.fault.RecoverFault.TheVariants as recover
use Rattle.stair_conf.specs.declared.fault.ConfigFault.{ConfigFault}
use Rattle.stair_conf.specs.declared.fault.ConfigFault.TheVariants as config
use Rattle.stair_command.specs.declared.fault.Fault.{Fault}
use Rattle.stair_command.specs.declared.fault.Fault.TheVariants as fault
use Rattle.stair_command.specs.Action.{status_of_create, status_of_survey}
use Rattle.stair_command.specs.Refused.{status_of_refusal}
use Rattle.stair_status.specs.declared.status.Status.{Status}
use Rattle.stair_status.specs.declared.status.Status.TheVariants.{BadLine, Done, EpochsSpent, Gone, JournalLost, Key, Limit, NotToml, Input, InputFault, OutOfRange, OutputFault, OutOfMemory, TooFew}

-- the status of a geometry text
abbrev pub status_of_config : ConfigFault → Status
status_of_config config.NotToml = NotToml
status_of_config (config.Key key) = Key key
status_of_config (config.Limit k) = Limit k
status_of_config config.Memory = OutOfMemory

-- the status of an opening that was refused
abbrev pub status_of_opening : RecoverFault → Status
status_of_opening recover.Memory = OutOfMemory
status_of_opening (recover.TooFew whys) = TooFew whys
status_of_opening recover.EpochsSpent = EpochsSpent
status_of_opening (recover.JournalLost sector) = JournalLost sector

-- the status after a fault
abbrev pub status_of_fault : Fault → Status
status_of_fault fault.Memory = OutOfMemory
status_of_fault (fault.Length needed took) = Input needed took
status_of_fault fault.Input = InputFault
status_of_fault fault.Output = OutputFault
status_of_fault (fault.Text fault) = status_of_config fault
status_of_fault (fault.Create fault) = status_of_create fault
status_of_fault (fault.Survey fault) = status_of_survey fault
status_of_fault (fault.Opening fault) = status_of_opening fault
status_of_fault (fault.Step fault slots) = status_of_refusal slots (refusal_for fault)
status_of_fault (fault.Replace fault slots) = status_of_refusal slots (replace_refusal fault)
status_of_fault (fault.Rebuild fault slots) = status_of_refusal slots (rebuild_refusal fault)
status_of_fault (fault.Gone slot) = Gone slot
status_of_fault (fault.OutOfRange asked limit) = OutOfRange asked limit
status_of_fault (fault.BadLine number) = BadLine number

-- the status of a call that may have ended with a fault
abbrev pub status_of : Result Status Fault → Status
status_of (Ok status) = status
status_of (Err fault) = status_of_fault fault

-- the same, where nothing else may be told than that all was done
abbrev pub status_after : Result (Unit {0}) Fault → Status
status_after (Ok done) = Done
status_after (Err fault) = status_of_fault fault
