-- The laws are lemmas.
use Rattle.stair_volume_lives.proofs.CallLaws.{calls_volumes, programs_write_none}
use Rattle.stair_volume_lives.proofs.lives.volume_calls.Goals as goal

pub returns : goal.returns
returns g c = record {
  lived = λ name view streams returning first h calls kinds honest limits. calls_volumes name view streams returning first honest limits h calls kinds;
  unwritten = programs_write_none;
}
