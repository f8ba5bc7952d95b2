-- How a command on volumes ended, and that a volume that is made has blocks.
use Rattle.std.proofs.Common.{◌≡◌, ℕ, List, Result, Ok, Err, ap, arith}
use Rattle.stair_conf.specs.Words.{Spells, SpellsVolume}
use Rattle.stair_conf.specs.declared.job.Job.{Job}
use Rattle.stair_conf.specs.declared.job.Job.TheVariants.{Volume}
use Rattle.stair_conf.specs.declared.job.VolumeJob.{VolumeJob}
use Rattle.stair_conf.specs.declared.job.VolumeJob.TheVariants.{Make}
use Rattle.stair_status.specs.declared.status.Status.TheVariants.{Done}
use Rattle.stair_volume.specs.declared.fault.VolumeFault.{VolumeFault}
use Rattle.stair_volume.specs.Commands.{status_of, status_of_volume}
use Rattle.stair_volume.specs.Parts.{MakesSome}
use Rattle.stair_engine.specs.Jobs.{IsMade}

-- it was done
pub done_ends : (slots : ℕ) (result : Result (Unit {0}) VolumeFault) {done : Unit {0}} → result ≡ Ok done → status_of slots result ≡ Done
done_ends slots result is = ap (status_of slots) is

-- or it wasn't
pub fault_ends : (slots : ℕ) (result : Result (Unit {0}) VolumeFault) (why : VolumeFault) → result ≡ Err why
    → status_of slots result ≡ status_of_volume slots why
fault_ends slots result why is = ap (status_of slots) is

-- ---- a volume that is made has blocks, as the words say

volume_some : (words : List (List ℕ)) (job : VolumeJob) → SpellsVolume words job → MakesSome job
volume_some words (Make name blocks) spells = omega (arith, spells.some)
volume_some words _ spells = tt

pub is_made : (words : List (List ℕ)) (job : Job) → Spells words job → IsMade job
is_made words (Volume job) spells = volume_some words job spells
is_made words _ spells = tt
