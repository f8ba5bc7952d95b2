-- How a command on volumes ends where its array serves.
use Rattle.std.specs.Prelude.{◌≡◌, ◌≢◌, ◌*◌, ⊤}
use Rattle.stair_model.specs.Stripe.{SECTOR}
use Rattle.stair_conf.specs.declared.job.VolumeJob.{VolumeJob}
use Rattle.stair_conf.specs.declared.job.VolumeJob.TheVariants as volume
use Rattle.stair_status.specs.declared.status.Status.{Status}
use Rattle.stair_status.specs.declared.status.Status.TheVariants.{Done, Frozen, Input, NameTaken, NoRoom, NoTable, NoVolume, OutOfRange, TableFull, TableThere}

-- A command is done, or it ends for one of these reasons: the table does not allow it, the range is not within the
-- volume, the input has another length, or the array is frozen and was to be written.
abbrev pub MayEnd : VolumeJob → Status → Type 0
MayEnd job Done = ⊤
MayEnd volume.Ready TableThere = ⊤
MayEnd volume.Ready Frozen = ⊤
MayEnd (volume.Make name blocks) NoTable = ⊤
MayEnd (volume.Make name blocks) NameTaken = ⊤
MayEnd (volume.Make name blocks) TableFull = ⊤
MayEnd (volume.Make name blocks) (NoRoom asked) = asked ≡ blocks
MayEnd (volume.Make name blocks) Frozen = ⊤
MayEnd (volume.Remove name) NoTable = ⊤
MayEnd (volume.Remove name) NoVolume = ⊤
MayEnd (volume.Remove name) Frozen = ⊤
MayEnd volume.List NoTable = ⊤
MayEnd (volume.Read name block count) NoTable = ⊤
MayEnd (volume.Read name block count) NoVolume = ⊤
MayEnd (volume.Read name block count) (OutOfRange asked limit) = ⊤
MayEnd (volume.Write name block count) NoTable = ⊤
MayEnd (volume.Write name block count) NoVolume = ⊤
MayEnd (volume.Write name block count) (OutOfRange asked limit) = ⊤
MayEnd (volume.Write name block count) (Input needed took) =
    (needed ≡ SECTOR * count) × (took ≢ needed)
MayEnd (volume.Write name block count) Frozen = ⊤
MayEnd job status = ⊥
