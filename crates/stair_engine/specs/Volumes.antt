-- What the commands on volumes do: they open an array, and read or change its volumes.
use Rattle.stair_conf.specs.declared.job.VolumeJob.{VolumeJob}
use Rattle.stair_command.specs.Program.{Program, opens_array}
use Rattle.stair_volume.specs.Commands.{volume_program}

abbrev pub volumes_program : VolumeJob → Program
volumes_program job = opens_array (volume_program job)
