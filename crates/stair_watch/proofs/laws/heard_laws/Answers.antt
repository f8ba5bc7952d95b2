-- By their definitions.
use Rattle.std.proofs.Common.{refl}
use Rattle.stair_watch.proofs.laws.heard_laws.Goals as goal

pub returns : goal.returns
returns g c = record {
  members = λ told count left remaining_quota w. (refl, refl, refl, refl);
  whole = λ view. refl;
}
