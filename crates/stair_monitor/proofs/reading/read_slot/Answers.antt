-- What was read within the bounds fits, and is a slot.
use Rattle.std.proofs.Common.{arith, refl}
use Rattle.stair_monitor.proofs.reading.read_slot.Goals as goal

pub overflow_cast-result : goal.overflow_cast-result
overflow_cast-result c =
    let read = (c.in_ok-read_within.ensures c.in_ok-read_within.field-0).0 refl in
    let most = read.1.1 in
    omega arith

pub returns : goal.returns
returns c n = (
  (λ same. let read = (c.in_ok-read_within.ensures n).0 same in let most = read.1.1 in (read.0, omega arith)),
  (λ is. let few = is.1 in (c.in_ok-read_within.ensures n).1 (is.0, (omega arith, omega arith))),
)
