-- What a command does to an array, and what comes of it.
use Rattle.std.specs.Prelude.{Result}
use Rattle.stair_model.specs.Geometry.{Geometry}
use Rattle.stair_array.specs.declared.fault.CreateFault.{CreateFault}
use Rattle.stair_array.specs.declared.fault.CreateFault.TheVariants as fault
use Rattle.stair_member.specs.Membership.{Membership}
use Rattle.stair_member.specs.declared.fault.SurveyFault.{SurveyFault}
use Rattle.stair_member.specs.declared.fault.SurveyFault.TheVariants as survey
use Rattle.stair_status.specs.declared.status.Status.{Status}
use Rattle.stair_status.specs.declared.status.Status.TheVariants.{NoArray, TwoArrays, TooFew, Gone, SmallDevice, AlreadyArray}

pub data Action : Type 0 where
  -- an array of this geometry is made on the devices of the rack
  Create : Geometry → Action
  -- the array of the rack is looked for
  Survey : Action

-- what it gives where it is done
abbrev pub OkOf : Action → Type 0
OkOf (Create g) = Unit {0}
OkOf Survey = Membership

-- why it is refused
abbrev pub RefusalOf : Action → Type 0
RefusalOf (Create g) = CreateFault
RefusalOf Survey = SurveyFault

abbrev pub Outcome : Action → Type 0
Outcome action = Result (OkOf action) (RefusalOf action)

abbrev pub status_of_create : CreateFault → Status
status_of_create (fault.Gone slot) = Gone slot
status_of_create (fault.SmallDevice slot has needs) = SmallDevice slot has needs
status_of_create (fault.AlreadyArray slot) = AlreadyArray slot

abbrev pub status_of_survey : SurveyFault → Status
status_of_survey survey.NoArray = NoArray
status_of_survey (survey.TwoArrays first second) = TwoArrays first second
status_of_survey (survey.TooFew whys) = TooFew whys

-- the status of a refusal
abbrev pub refused : (action : Action) → RefusalOf action → Status
refused (Create g) fault = status_of_create fault
refused Survey fault = status_of_survey fault
