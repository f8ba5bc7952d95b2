-- The laws, by what is so along the program.
use Rattle.stair_volume.proofs.AgreeLaws.{read_alike}
use Rattle.stair_volume.proofs.OpenedLaws.{cut_goes, finished, goes_so, reached}
use Rattle.stair_volume.specs.Volumes.{CutsAreSafe, DoneIsFinished, VolumesStay}
use Rattle.stair_volume.proofs.lasting.volume_laws.Goals as goal

stays : VolumesStay
stays returning before job done rest s new h is limits follows runs =
    goes_so returning before job is s limits done rest new (reached returning before job is s limits done rest h new follows runs)

cuts : CutsAreSafe
cuts returning before job done rest s left new h step begun is limits follows runs next unstopped cut =
    cut_goes returning before job is s limits done rest new step begun left (reached returning before job is s limits done rest h new follows runs) next unstopped
    cut

finishes : DoneIsFinished
finishes returning before job done s new h is limits follows runs =
    finished returning before job is s limits done new (reached returning before job is s limits done _ h new follows runs)

pub returns-clause-stay : goal.returns-clause-stay
returns-clause-stay c = stays

pub returns-clause-cuts : goal.returns-clause-cuts
returns-clause-cuts c = cuts

pub returns-clause-done : goal.returns-clause-done
returns-clause-done c = finishes

pub returns-clause-alike : goal.returns-clause-alike
returns-clause-alike c = read_alike
