-- Each law, by the one induction on traces.
use Rattle.stair_command.proofs.AlongLaws.{along_any, calm_along}
use Rattle.stair_command.proofs.PlannedSureLaws.{none_replaced, planned_sure}
use Rattle.stair_command.proofs.ServedLaws.{planned_served}
use Rattle.stair_command.proofs.SureDeviceLaws.{devices_replace}
use Rattle.stair_command.proofs.SureKeptLaws.{staying_kept}
use Rattle.stair_command.proofs.SureLaws.{stepless_done}
use Rattle.stair_command.proofs.SureStepLaws.{sure_done}
use Rattle.stair_command.proofs.sure.sure_laws.Goals as goal

pub returns : goal.returns
returns g c = record {
  calm = λ view g trace first last works honest tolerated returned.
      calm_along view g trace first last works honest tolerated returned;
  done = λ returning view streams program status s old new first last with honest begun history stands calm none lead draws can sure.
      sure_done view streams returning program status s old new first last with honest begun history stands calm none lead draws can sure;
  kept = λ returning view s kept trace first last works honest begun history stands calm lead stays.
      staying_kept returning view s kept trace first last works honest begun history stands calm lead stays;
  serves = λ view s trace first last works serves. along_any view s trace first last works serves;
  planned = λ returning view streams program status s old new first last watchers left whole allowed serves unfailed can sure.
      planned_sure view streams returning program status s old new first last watchers left whole allowed serves unfailed can sure;
  unreplaced = λ view streams program rest g old new first last with none.
      none_replaced view streams program rest g old new first last with none;
  replaceable = λ returning view streams program rest s slot old new first last watchers left whole once serves device.
      devices_replace returning view streams program rest s slot old new first last watchers left whole once serves device;
  served = λ returning view streams program status s old new first last watchers left whole allowed serves can.
      planned_served view streams returning program status s old new first last watchers left whole allowed serves can;
  stepless = λ returning rack streams program status s before old new first last over honest since stands calm none sure.
      stepless_done returning rack honest before streams program status s old new first last over since stands calm none sure;
}
