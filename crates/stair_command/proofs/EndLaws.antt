-- Programs that are over, and outsides that are left.
use Rattle.std.proofs.Common.{◌≡◌}
use Rattle.stair_status.specs.declared.status.Status.{Status}
use Rattle.stair_command.specs.Outside.{Outside, Views}
use Rattle.stair_command.specs.Program.{Program, Over}
use Rattle.stair_command.specs.Trace.{TraceItem, Grew, StepsProgram}

-- a program that is over makes no move
pub no_move : (item : TraceItem) (status : Status) (rest : Program) → StepsProgram item (Over status) rest → ⊥
no_move Grew status rest moves = moves
no_move _ status rest moves = moves

pub same_outside : {S K : Type 0} (view : Views S K) (a b : Outside S K) → b.source ≡ a.source → b.sink ≡ a.sink → b.counter ≡ a.counter → b ≡ a
same_outside view a b source sink counter = λ i. record { source = source i; sink = sink i; counter = counter i }
