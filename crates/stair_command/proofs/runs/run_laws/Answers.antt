-- Each law, by the induction on traces.
use Rattle.stair_command.proofs.CreateLaws.{none_made}
use Rattle.stair_command.proofs.HeadlineLaws.{acknowledged_taken, all_lead, is_run, is_safe, run_of, run_wherever}
use Rattle.stair_command.proofs.PerformedLaws.{all_performed, borne_whole}
use Rattle.stair_command.proofs.runs.run_laws.Goals as goal

pub returns : goal.returns
returns g c = record {
  acknowledged = acknowledged_taken;
  led = λ returning lead view trace x y works. all_lead returning view lead trace x y works;
  runs = λ returning view s trace x y works honest history begun stands led calm.
      is_run view honest returning s trace x y works history begun stands led calm;
  cuts = λ returning view s program rest trace x y works c follows honest history begun stands led at calm.
      is_safe view honest returning s program rest trace x y works c follows history begun stands led at calm;
  refused = λ returning array g came old new honest creates calm. none_made returning g array old new honest came creates calm;
  refines = λ view streams program rest old new first last with begun led.
      run_of view program rest with.means.trace first last with.works with.means.follows begun led;
  wherever = λ view streams program rest old new first last with begun led.
      run_wherever view program rest with.means.trace first last with.works with.means.follows begun led;
  performed = all_performed;
  called = λ view streams program rest old new first last watchers left whole. borne_whole view streams program rest old new first last watchers left whole;
}
