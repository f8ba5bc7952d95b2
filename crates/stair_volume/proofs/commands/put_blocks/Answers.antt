-- One block after the other.
use Rattle.std.proofs.Common.{arith, refl, Err}
use Rattle.stair_command.specs.Program.{Over, Program}
use Rattle.stair_volume.specs.Commands.{status_of_volume}
use Rattle.stair_volume.specs.declared.fault.VolumeFault.TheVariants as fault
use Rattle.stair_volume.proofs.CommandLaws.{did_fail}
use Rattle.stair_volume.proofs.TransferLaws.{all_put, next_put, next_read, none_put, one_put}
use Rattle.stair_volume.proofs.commands.put_blocks.Goals as goal

pub loop-done-init : goal.loop-done-init
loop-done-init g c = none_put _ _ _ _ _ _ _ _ refl c.requires.stay

pub returns-in_err-read-clause-means : goal.returns-in_err-read-clause-means
returns-in_err-read-clause-means g c =
    let of = c.args.array.now.member.array.geometry in
    did_fail _ _ _ _ _ _ of.n _ _ _ c.from_residual.result (fault.Array c.in_err-read.field-0.0) c.from_residual.ensures.1
    (next_read c.loop-done.invariant c.loop-done-test.true c.read.new.into (Err c.in_err-read.field-0.0) c.in_err-read.ensures.taken)

pub returns-in_err-put-clause-means : goal.returns-in_err-put-clause-means
returns-in_err-put-clause-means g c =
    let of = c.args.array.now.member.array.geometry in
    let why = c.in_err-put.field-0.0 in
    did_fail _ _ _ _ _ _ of.n _ _ _ c.from_residual-in_err-put.result why c.from_residual-in_err-put.ensures.1
    (next_put c.loop-done.invariant c.loop-done-test.true c.read.new.into c.read.result c.read.ensures.taken c.in_ok-read.was
    (λ (later : Program). Over (status_of_volume of.n why)) (c.in_err-put.ensures of.n))

pub loop-done-preserved : goal.loop-done-preserved
loop-done-preserved g c =
    one_put c.loop-done.invariant c.loop-done-test.true c.read.new.into c.read.result c.read.ensures.taken c.in_ok-read.was (c.in_ok-put.ensures 0) tt
    c.read.ensures.stay

pub returns-clause-means : goal.returns-clause-means
returns-clause-means g c = all_put c.loop-done.invariant (omega (arith, c.loop-done-test.false))
