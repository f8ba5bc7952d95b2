-- One block after the other.
use Rattle.std.proofs.Common.{◌/◌, arith, length, refl}
use Rattle.stair_array.specs.Promise.{Opened}
use Rattle.stair_command.specs.Devices.{devices}
use Rattle.stair_nbd.proofs.ReadOnLaws.{one_read, read_geometry, read_refused}
use Rattle.stair_nbd.proofs.TriedLaws.{comes_after}
use Rattle.stair_nbd.proofs.blocks.read_blocks.Goals as goal

pub returns-in_err-read-clause-comes : goal.returns-in_err-read-clause-comes
returns-in_err-read-clause-comes g c refused k =
    comes_after _ _ _ refused c.from_residual.result _ _ _ c.from_residual.ensures.1
    (read_refused _ c.args.first (length c.args.into.now / 512) (devices c.args.rack.now (Opened c.args.array.now) c.args.watchers.now.items)
    c.loop-i.i c.loop-i.into (devices c.loop-i.rack (Opened c.loop-i.array) c.loop-i.watchers.items)
    (devices c.read.new.rack (Opened c.read.new.self) c.read.new.watchers.items) c.loop-i.invariant c.loop-i-test.true c.read.new.into c.read.result
    c.read.ensures.taken tt c.in_err-read.was refused k)

pub loop-i-preserved : goal.loop-i-preserved
loop-i-preserved g c =
    one_read _ c.args.first (length c.args.into.now / 512) (devices c.args.rack.now (Opened c.args.array.now) c.args.watchers.now.items)
    c.loop-i.i c.loop-i.into (devices c.loop-i.rack (Opened c.loop-i.array) c.loop-i.watchers.items)
    (devices c.read.new.rack (Opened c.read.new.self) c.read.new.watchers.items) c.loop-i.invariant c.loop-i-test.true c.read.new.into c.read.result
    c.read.ensures.taken tt c.copy_from_slice.new.self c.in_ok-read.was c.copy_from_slice.ensures.after c.read.array_long (omega arith)
    c.read.ensures.stay

pub returns-in_err-read-clause-geometry : goal.returns-in_err-read-clause-geometry
returns-in_err-read-clause-geometry g c =
    read_geometry _ c.args.first (length c.args.into.now / 512) (devices c.args.rack.now (Opened c.args.array.now) c.args.watchers.now.items)
    c.loop-i.i c.loop-i.into (devices c.loop-i.rack (Opened c.loop-i.array) c.loop-i.watchers.items)
    (devices c.read.new.rack (Opened c.read.new.self) c.read.new.watchers.items) c.loop-i.invariant c.loop-i-test.true c.read.new.into c.read.result
    c.read.ensures.taken tt c.args.array.now.member.array.geometry refl

pub returns-clause-geometry : goal.returns-clause-geometry
returns-clause-geometry g c = c.loop-i.invariant.geometry c.args.array.now.member.array.geometry refl
