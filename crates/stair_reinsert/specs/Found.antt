-- What a survey finds of an array to which media come back.
use Rattle.std.specs.Prelude.{◌≡◌, ℕ, List, Result, Ok}
use Rattle.stair_model.specs.Geometry.{Geometry}
use Rattle.stair_model.specs.Slots.{HasSlot, Slots}
use Rattle.stair_rack.specs.Crash.{CrashMayLeave}
use Rattle.stair_rack.specs.History.{Happening}
use Rattle.stair_rack.specs.Media.{Image}
use Rattle.stair_member.specs.Membership.{IsMissing, Membership}
use Rattle.stair_member.specs.declared.fault.SurveyFault.{SurveyFault}
use Rattle.stair_state.specs.Reassembly.{IsReassembly}
use Rattle.stair_state.specs.Tolerance.{IsToleratedAlone}

-- the answer is a member of this array, and each slot that is missing for it is one of these
pub record FindsMember (g : Geometry) (failed : Slots) (answer : Result Membership SurveyFault)
    : Type 0 where
  pub member : Membership
  pub found : answer ≡ Ok member
  pub identity : member.array.geometry ≡ g
  pub missing : (j : ℕ) → IsMissing member j → HasSlot failed j

-- it is a reassembly of an image that a crash at h might have left, and alone within tolerance
pub record IsToleratedReassembly (g : Geometry) (h : List Happening) (to : Image) : Type 0 where
  pub was : Image
  pub left : CrashMayLeave h was
  pub reassembled : IsReassembly was to
  pub alone : IsToleratedAlone g to
