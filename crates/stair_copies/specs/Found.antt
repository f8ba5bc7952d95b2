-- What is found of older copies.
use Rattle.std.specs.Prelude.{◌≡◌, Ok, Err, Option, None, Some}
use Rattle.stair_rack.specs.RackState.{RackState}
use Rattle.stair_member.specs.Membership.{Membership}
use Rattle.stair_member.specs.Survey.{Surveys}
use Rattle.stair_member.specs.declared.fault.SurveyFault.{SurveyFault}
use Rattle.stair_copies.specs.declared.copies.Copies.{Copies}

-- A survey found an array, whose epoch is this.
pub record HasLooked (found : Copies) (old : RackState) : Type 0 where
  pub member : Membership
  pub between : RackState
  pub surveys : Surveys (Ok member) old between
  pub epoch : found.epoch ≡ member.array.epoch

-- A survey was refused, or copies were looked for in the array that it found.
abbrev pub AreFound : Option Copies → RackState → RackState → Type 0
AreFound None old new = (fault : SurveyFault) × Surveys (Err fault) old new
AreFound (Some found) old new = HasLooked found old
