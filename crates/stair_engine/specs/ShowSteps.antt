-- What a call of `show` does.
use Rattle.std.specs.Prelude.{◌≡◌, Result, Ok, Err, MatchResult}
use Rattle.stair_member.specs.Membership.{Membership}
use Rattle.stair_member.specs.Survey.{Surveys}
use Rattle.stair_member.specs.declared.fault.SurveyFault.{SurveyFault}
use Rattle.stair_command.specs.Outside.{SinkView}
use Rattle.stair_command.specs.Rack.{RackView, told_of}
use Rattle.stair_engine.specs.Show.{show_text}
use Rattle.stair_command.specs.Streams.{PutsAll}
use Rattle.stair_command.specs.declared.fault.Fault.{Fault}
use Rattle.stair_command.specs.declared.fault.Fault.TheVariants.{Output, Survey}
use Rattle.stair_status.specs.declared.status.Status.{Status}
use Rattle.stair_status.specs.declared.status.Status.TheVariants.{Done}

-- the array that was found is put out; where none was, nothing is
abbrev pub PutsFound : {K : Type 0} → SinkView K → Result Membership SurveyFault → Result Status Fault → K → K →
    Type 0
PutsFound view (Ok member) result old new = PutsAll view result (show_text member) old new
    × MatchResult result (λ status. status ≡ Done) (λ fault. fault ≡ Output)
PutsFound view (Err refusal) result old new = (result ≡ Err (Survey refusal)) × (new ≡ old)

-- the rack was surveyed, and what was found is put out
pub record Shows {R K : Type 0} (rack : RackView R) (view : SinkView K)
    (result : Result Status Fault) (first last : R) (old new : K) : Type 0 where
  pub found : Result Membership SurveyFault
  pub surveys : Surveys found (told_of rack first) (told_of rack last)
  pub puts : PutsFound view found result old new
