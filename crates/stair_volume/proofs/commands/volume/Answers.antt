-- The table was read, or not; and what is done then.
use Rattle.std.proofs.Common.{◌∙◌, ◌≡◌, Err, None, Some, ap, arith, refl, sym}
use Rattle.stair_conf.specs.declared.job.VolumeJob.{VolumeJob}
use Rattle.stair_model.specs.Geometry.{block_count}
use Rattle.stair_model.proofs.LimitLaws.{block_count_few}
use Rattle.stair_command.specs.Program.{Over}
use Rattle.stair_status.specs.declared.status.Status.TheVariants.{Done, NoTable}
use Rattle.stair_array.specs.Machine.{ReadBlock}
use Rattle.stair_volume.specs.Commands.{on_table}
use Rattle.stair_volume.specs.declared.fault.VolumeFault.TheVariants as fault
use Rattle.stair_volume.proofs.CommandLaws.{did_fail}
use Rattle.stair_volume.proofs.StepLaws.{geometry_stays}
use Rattle.stair_volume.proofs.VolumeLaws.{did_as, did_fault, did_line, did_over, none_ready, page_read, page_then}
use Rattle.stair_volume.proofs.commands.volume.Goals as goal

pub returns-in_err-read-clause-means : goal.returns-in_err-read-clause-means
returns-in_err-read-clause-means g c =
    let of = c.args.array.now.member.array.geometry in
    did_fail _ _ _ _ _ _ of.n _ _ _ c.from_residual.result (fault.Array c.in_err-read.field-0.0) c.from_residual.ensures.1
    (page_read _ _ c.args.job.now of c.read.new.into c.args.input.now c.args.output.now (Err c.in_err-read.field-0.0) c.in_err-read.ensures.taken)

pub with_table-requires-clause-of : goal.with_table-requires-clause-of
with_table-requires-clause-of g c =
    ((c.read_table.ensures.exact c.in-Some.table).0 c.in-Some.is).of_array ∙ c.blocks-2.ensures.value ∙ ap block_count c.geometry.ensures

pub returns-in-Some-clause-means : goal.returns-in-Some-clause-means
returns-in-Some-clause-means g c =
    let of = c.args.array.now.member.array.geometry in
    let kept : c.read.new.self.member.array.geometry ≡ of = geometry_stays _ (ReadBlock 0) _ c.read.ensures.taken tt of refl in
    page_then _ _ c.args.job.now of c.read.new.into c.args.input.now c.args.output.now c.in_ok-read.ensures.taken c.read.new.self.member.array.geometry kept
    c.blocks-2.result (c.blocks-2.ensures.value ∙ ap block_count c.geometry.ensures) (Some c.in-Some.table) (sym c.in-Some.is ∙ c.read_table.ensures.value)
    c.with_table.result c.with_table.ensures.means

pub returns-in_err-line-in-Ready-clause-means : goal.returns-in_err-line-in-Ready-clause-means
returns-in_err-line-in-Ready-clause-means g c =
    let of = c.args.array.now.member.array.geometry in
    let now = c.read.new.self.member.array.geometry in
    let kept : now ≡ of = geometry_stays _ (ReadBlock 0) _ c.read.ensures.taken tt of refl in
    page_then _ _ c.args.job.now of c.read.new.into c.args.input.now c.args.output.now c.in_ok-read.ensures.taken now kept
    c.blocks-2.result (c.blocks-2.ensures.value ∙ ap block_count c.geometry.ensures) None (sym c.in_default.is ∙ c.read_table.ensures.value)
    c.from_residual-in_err-line-in-Ready.result
    (did_as _ _ (ap (λ (job : VolumeJob). on_table now job None) c.in-Ready.is)
    (did_fault _ _ now.n c.from_residual-in_err-line-in-Ready.result c.in_err-line-in-Ready.field-0.0 c.from_residual-in_err-line-in-Ready.ensures.1
    c.in_err-line-in-Ready.ensures.comes))

pub returns-in_ok-line-in-Ready-clause-means : goal.returns-in_ok-line-in-Ready-clause-means
returns-in_ok-line-in-Ready-clause-means g c =
    let of = c.args.array.now.member.array.geometry in
    let now = c.read.new.self.member.array.geometry in
    let kept : now ≡ of = geometry_stays _ (ReadBlock 0) _ c.read.ensures.taken tt of refl in
    page_then _ _ c.args.job.now of c.read.new.into c.args.input.now c.args.output.now c.in_ok-read.ensures.taken now kept
    c.blocks-2.result (c.blocks-2.ensures.value ∙ ap block_count c.geometry.ensures) None (sym c.in_default.is ∙ c.read_table.ensures.value)
    c.put.result
    (did_as _ _ (ap (λ (job : VolumeJob). on_table now job None) c.in-Ready.is)
    (did_line _ _ now.n c.in_ok-line-in-Ready.line c.bytes.result.now c.put.result c.bytes.ensures c.in_ok-line-in-Ready.ensures.comes
    (c.put.ensures now.n (Over Done))))

pub returns-in_default-job-clause-means : goal.returns-in_default-job-clause-means
returns-in_default-job-clause-means g c =
    let of = c.args.array.now.member.array.geometry in
    let now = c.read.new.self.member.array.geometry in
    let kept : now ≡ of = geometry_stays _ (ReadBlock 0) _ c.read.ensures.taken tt of refl in
    page_then _ _ c.args.job.now of c.read.new.into c.args.input.now c.args.output.now c.in_ok-read.ensures.taken now kept
    c.blocks-2.result (c.blocks-2.ensures.value ∙ ap block_count c.geometry.ensures) None (sym c.in_default.is ∙ c.read_table.ensures.value)
    (Err fault.NoTable) (did_over _ _ (Over NoTable) (none_ready now c.args.job.now c.in_default-job.not-Ready))

pub read_table-requires : goal.read_table-requires
read_table-requires g c = omega (arith, block_count_few c.geometry.result c.blocks-2.ensures.limits, c.blocks-2.ensures.value)
