-- Each by the laws of sessions.
use Rattle.stair_command.proofs.SessionLaws.{calls_are_lived, crashes_are_lived, cuts_are_of_program, runs_are_lived}
use Rattle.stair_command.proofs.lives.session_lives.Goals as goal

pub returns : goal.returns
returns g c = record {
  runs = runs_are_lived;
  crashes = λ view returning before c s first program trace x y life image lives safe left.
      crashes_are_lived view returning before c s first program trace x y life image lives safe left;
  of_program = cuts_are_of_program _ _;
  calls = λ view streams returning first h calls honest. calls_are_lived view streams returning first honest h calls;
}
