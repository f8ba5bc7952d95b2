use Rattle.std.proofs.Common.{[], refl, string_bytes}
use Rattle.std.specs.Prelude.{codes}
use Rattle.std.proofs.lemmas.List.{length-map}
use Rattle.stair_conf.specs.declared.fault.WordsFault.TheVariants.{Usage}
use Rattle.stair_conf.specs.declared.job.VolumeJob.TheVariants as volume
use Rattle.stair_conf.proofs.CommandWords.{opening, same_fault}
use Rattle.stair_conf.proofs.VolumeWords.{begins_volume, lone_volume, name_with, new_volume_with, no_drop, no_make, no_volume_read, no_volume_write, volume_blocks_with}
use Rattle.stair_conf.proofs.volumes.read_volume.Goals as goal

-- ---- `vmake`

pub returns-in_err-name-in-vmake-clause-usage : goal.returns-in_err-name-in-vmake-clause-usage
returns-in_err-name-in-vmake-clause-usage c is_usage job spells =
    let opens = opening string_bytes _ _ _ _ c.in-len1-up.len_at_least c.command-item.is c.as_str.ensures.value c.in-vmake.is in
    absurd (no_make _ job opens (c.in_err-name-in-vmake.ensures.usage (same_fault c.from_residual.result _ Usage c.from_residual.ensures.1 is_usage)) spells)

pub returns-in_err-name-in-vmake-clause-memory : goal.returns-in_err-name-in-vmake-clause-memory
returns-in_err-name-in-vmake-clause-memory c is_memory =
    let opens = opening string_bytes _ _ _ _ c.in-len1-up.len_at_least c.command-item.is c.as_str.ensures.value c.in-vmake.is in
    begins_volume _ (volume.Make [] 0) opens

pub returns-in_ok-name-in-vmake-clause-ok : goal.returns-in_ok-name-in-vmake-clause-ok
returns-in_ok-name-in-vmake-clause-ok c =
    let opens = opening string_bytes _ _ _ _ c.in-len1-up.len_at_least c.command-item.is c.as_str.ensures.value c.in-vmake.is in
    new_volume_with (codes "vmake") _ _ _ opens c.in_ok-name-in-vmake.ensures.ok

-- ---- `vdrop`

pub returns-in_err-read_name-in-vdrop-clause-usage : goal.returns-in_err-read_name-in-vdrop-clause-usage
returns-in_err-read_name-in-vdrop-clause-usage c is_usage job spells =
    let opens = opening string_bytes _ _ _ _ c.in-len1-up.len_at_least c.command-item.is c.as_str.ensures.value c.in-vdrop.is in
    absurd (no_drop _ job opens (c.in_err-read_name-in-vdrop.ensures.usage (same_fault c.from_residual-in_err-read_name-in-vdrop.result _ Usage c.from_residual-in_err-read_name-in-vdrop.ensures.1 is_usage)) spells)

pub returns-in_err-read_name-in-vdrop-clause-memory : goal.returns-in_err-read_name-in-vdrop-clause-memory
returns-in_err-read_name-in-vdrop-clause-memory c is_memory =
    let opens = opening string_bytes _ _ _ _ c.in-len1-up.len_at_least c.command-item.is c.as_str.ensures.value c.in-vdrop.is in
    begins_volume _ (volume.Remove []) opens

pub returns-in_ok-read_name-in-vdrop-clause-ok : goal.returns-in_ok-read_name-in-vdrop-clause-ok
returns-in_ok-read_name-in-vdrop-clause-ok c =
    let opens = opening string_bytes _ _ _ _ c.in-len1-up.len_at_least c.command-item.is c.as_str.ensures.value c.in-vdrop.is in
    name_with (codes "vdrop") _ _ opens c.in_ok-read_name-in-vdrop.ensures.ok

-- ---- `vread`

pub returns-in_err-name-in-vread-clause-usage : goal.returns-in_err-name-in-vread-clause-usage
returns-in_err-name-in-vread-clause-usage c is_usage job spells =
    let opens = opening string_bytes _ _ _ _ c.in-len1-up.len_at_least c.command-item.is c.as_str.ensures.value c.in-vread.is in
    absurd (no_volume_read _ job opens (c.in_err-name-in-vread.ensures.usage (same_fault c.from_residual-in_err-name-in-vread.result _ Usage c.from_residual-in_err-name-in-vread.ensures.1 is_usage)) spells)

pub returns-in_err-name-in-vread-clause-memory : goal.returns-in_err-name-in-vread-clause-memory
returns-in_err-name-in-vread-clause-memory c is_memory =
    let opens = opening string_bytes _ _ _ _ c.in-len1-up.len_at_least c.command-item.is c.as_str.ensures.value c.in-vread.is in
    begins_volume _ (volume.Read [] 0 0) opens

pub returns-in_ok-name-in-vread-clause-ok : goal.returns-in_ok-name-in-vread-clause-ok
returns-in_ok-name-in-vread-clause-ok c =
    let opens = opening string_bytes _ _ _ _ c.in-len1-up.len_at_least c.command-item.is c.as_str.ensures.value c.in-vread.is in
    volume_blocks_with (codes "vread") _ _ _ _ opens c.in_ok-name-in-vread.ensures.ok

-- ---- `vwrite`

pub returns-in_err-name-in-vwrite-clause-usage : goal.returns-in_err-name-in-vwrite-clause-usage
returns-in_err-name-in-vwrite-clause-usage c is_usage job spells =
    let opens = opening string_bytes _ _ _ _ c.in-len1-up.len_at_least c.command-item.is c.as_str.ensures.value c.in-vwrite.is in
    absurd (no_volume_write _ job opens (c.in_err-name-in-vwrite.ensures.usage (same_fault c.from_residual-in_err-name-in-vwrite.result _ Usage c.from_residual-in_err-name-in-vwrite.ensures.1 is_usage)) spells)

pub returns-in_err-name-in-vwrite-clause-memory : goal.returns-in_err-name-in-vwrite-clause-memory
returns-in_err-name-in-vwrite-clause-memory c is_memory =
    let opens = opening string_bytes _ _ _ _ c.in-len1-up.len_at_least c.command-item.is c.as_str.ensures.value c.in-vwrite.is in
    begins_volume _ (volume.Write [] 0 0) opens

pub returns-in_ok-name-in-vwrite-clause-ok : goal.returns-in_ok-name-in-vwrite-clause-ok
returns-in_ok-name-in-vwrite-clause-ok c =
    let opens = opening string_bytes _ _ _ _ c.in-len1-up.len_at_least c.command-item.is c.as_str.ensures.value c.in-vwrite.is in
    volume_blocks_with (codes "vwrite") _ _ _ _ opens c.in_ok-name-in-vwrite.ensures.ok

-- ---- other words

pub returns-in_default-as_str-clause-usage : goal.returns-in_default-as_str-clause-usage
returns-in_default-as_str-clause-usage c is_usage job spells =
    let opens = opening string_bytes _ _ _ _ c.in-len1-up.len_at_least c.command-item.is c.as_str.ensures.value refl in
    lone_volume c.as_str.result.now _ _ job opens (length-map c.args.words.now string_bytes) record {
      make = c.in_default-as_str.not-vmake;
      remove = c.in_default-as_str.not-vdrop;
      read = c.in_default-as_str.not-vread;
      write = c.in_default-as_str.not-vwrite;
    } spells
