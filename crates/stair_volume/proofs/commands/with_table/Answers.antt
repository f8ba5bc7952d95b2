-- What each command does.
use Rattle.std.proofs.Common.{◌∙◌, [], Some, ap, refl}
use Rattle.stair_conf.specs.declared.job.VolumeJob.{VolumeJob}
use Rattle.stair_command.specs.Outside.{sink_view, source_view}
use Rattle.stair_command.specs.Program.{Over}
use Rattle.stair_command.specs.Transfers.{reads, writes}
use Rattle.stair_status.specs.declared.status.Status.TheVariants.{Done, TableThere}
use Rattle.stair_volume.specs.Commands.{on_table}
use Rattle.stair_volume.specs.declared.fault.VolumeFault.TheVariants as fault
use Rattle.stair_volume.proofs.CommandLaws.{did_fail}
use Rattle.stair_volume.proofs.VolumeLaws.{did_as, did_fault, did_line, did_over, did_over_by, did_puts, did_read, range_inside, range_past}
use Rattle.stair_volume.proofs.commands.with_table.Goals as goal

pub returns-in-Ready-clause-means : goal.returns-in-Ready-clause-means
returns-in-Ready-clause-means g c =
    let of = c.args.array.now.member.array.geometry in
    did_over _ _ (Over TableThere) (ap (λ (job : VolumeJob). on_table of job (Some c.args.table.now)) c.in-Ready.is)

pub returns-in_err-line-in-Make-clause-means : goal.returns-in_err-line-in-Make-clause-means
returns-in_err-line-in-Make-clause-means g c =
    let of = c.args.array.now.member.array.geometry in
    did_as _ _ (ap (λ (job : VolumeJob). on_table of job (Some c.args.table.now)) c.in-Make.is)
    (did_fault _ _ of.n c.from_residual.result c.in_err-line-in-Make.field-0.0 c.from_residual.ensures.1 c.in_err-line-in-Make.ensures.comes)

pub returns-in_ok-line-in-Make-clause-means : goal.returns-in_ok-line-in-Make-clause-means
returns-in_ok-line-in-Make-clause-means g c =
    let of = c.args.array.now.member.array.geometry in
    did_as _ _ (ap (λ (job : VolumeJob). on_table of job (Some c.args.table.now)) c.in-Make.is)
    (did_line _ _ of.n c.in_ok-line-in-Make.line c.bytes.result.now c.put.result c.bytes.ensures c.in_ok-line-in-Make.ensures.comes (c.put.ensures of.n (Over Done)))

pub returns-in_err-line-in-Remove-clause-means : goal.returns-in_err-line-in-Remove-clause-means
returns-in_err-line-in-Remove-clause-means g c =
    let of = c.args.array.now.member.array.geometry in
    did_as _ _ (ap (λ (job : VolumeJob). on_table of job (Some c.args.table.now)) c.in-Remove.is)
    (did_fault _ _ of.n c.from_residual-in_err-line-in-Remove.result c.in_err-line-in-Remove.field-0.0 c.from_residual-in_err-line-in-Remove.ensures.1
    c.in_err-line-in-Remove.ensures.comes)

pub returns-in_ok-line-in-Remove-clause-means : goal.returns-in_ok-line-in-Remove-clause-means
returns-in_ok-line-in-Remove-clause-means g c =
    let of = c.args.array.now.member.array.geometry in
    did_as _ _ (ap (λ (job : VolumeJob). on_table of job (Some c.args.table.now)) c.in-Remove.is)
    (did_line _ _ of.n c.in_ok-line-in-Remove.line c.bytes-in-Remove.result.now c.put-in-Remove.result c.bytes-in-Remove.ensures
    c.in_ok-line-in-Remove.ensures.comes (c.put-in-Remove.ensures of.n (Over Done)))

pub returns-in-List-clause-means : goal.returns-in-List-clause-means
returns-in-List-clause-means g c =
    let of = c.args.array.now.member.array.geometry in
    did_as _ _ (ap (λ (job : VolumeJob). on_table of job (Some c.args.table.now)) c.in-List.is) (did_puts _ _ (c.list.ensures of.n))

pub returns-in_err-first-in-Read-clause-means : goal.returns-in_err-first-in-Read-clause-means
returns-in_err-first-in-Read-clause-means g c =
    let of = c.args.array.now.member.array.geometry in
    let why = c.in_err-first-in-Read.field-0.0 in
    did_over_by _ _ of.n c.from_residual-in_err-first-in-Read.result why c.from_residual-in_err-first-in-Read.ensures.1
    (ap (λ (job : VolumeJob). on_table of job (Some c.args.table.now)) c.in-Read.is
    ∙ range_past of.n c.args.table.now.entries c.in-Read.name c.in-Read.block c.in-Read.count (reads of) why c.in_err-first-in-Read.ensures.refused)

pub returns-in_ok-first-in-Read-clause-means : goal.returns-in_ok-first-in-Read-clause-means
returns-in_ok-first-in-Read-clause-means g c =
    let of = c.args.array.now.member.array.geometry in
    did_as _ _
    (ap (λ (job : VolumeJob). on_table of job (Some c.args.table.now)) c.in-Read.is
    ∙ range_inside c.args.table.now.entries c.in-Read.name c.in-Read.block c.in-Read.count c.in_ok-first-in-Read.first (reads of) (λ a b. refl)
    c.in_ok-first-in-Read.ensures.ok)
    (did_read _ (source_view g.S.Source) (sink_view g.K.Sink) of c.in_ok-first-in-Read.first
    c.in-Read.count _ c.args.input.now c.put_blocks.ensures.means)

pub returns-in_err-first-in-Write-clause-means : goal.returns-in_err-first-in-Write-clause-means
returns-in_err-first-in-Write-clause-means g c =
    let of = c.args.array.now.member.array.geometry in
    let why = c.in_err-first-in-Write.field-0.0 in
    did_over_by _ _ of.n c.from_residual-in_err-first-in-Write.result why c.from_residual-in_err-first-in-Write.ensures.1
    (ap (λ (job : VolumeJob). on_table of job (Some c.args.table.now)) c.in-Write.is
    ∙ range_past of.n c.args.table.now.entries c.in-Write.name c.in-Write.block c.in-Write.count (λ first count. writes of first count count 0 []) why
    c.in_err-first-in-Write.ensures.refused)

pub returns-in_err-write_input-in-Write-clause-means : goal.returns-in_err-write_input-in-Write-clause-means
returns-in_err-write_input-in-Write-clause-means g c =
    let of = c.args.array.now.member.array.geometry in
    did_as _ _
    (ap (λ (job : VolumeJob). on_table of job (Some c.args.table.now)) c.in-Write.is
    ∙ range_inside c.args.table.now.entries c.in-Write.name c.in-Write.block c.in-Write.count c.in_ok-first-in-Write.first
    (λ first count. writes of first count count 0 []) (λ a b. refl) c.in_ok-first-in-Write.ensures.ok)
    (did_fail _ _ _ _ _ _ of.n _ _ _ c.from_residual-in_err-write_input-in-Write.result (fault.Transfer c.in_err-write_input-in-Write.field-0.0)
    c.from_residual-in_err-write_input-in-Write.ensures.1 c.in_err-write_input-in-Write.ensures.means)

pub returns-in_ok-write_input-in-Write-clause-means : goal.returns-in_ok-write_input-in-Write-clause-means
returns-in_ok-write_input-in-Write-clause-means g c =
    let of = c.args.array.now.member.array.geometry in
    did_as _ _
    (ap (λ (job : VolumeJob). on_table of job (Some c.args.table.now)) c.in-Write.is
    ∙ range_inside c.args.table.now.entries c.in-Write.name c.in-Write.block c.in-Write.count c.in_ok-first-in-Write.first
    (λ first count. writes of first count count 0 []) (λ a b. refl) c.in_ok-first-in-Write.ensures.ok)
    c.in_ok-write_input-in-Write.ensures.means
