-- The line has at most 37 bytes.
use Rattle.std.proofs.Common.{ap, arith, length}
use Rattle.stair_monitor.proofs.EventLemmas.{text_length}
use Rattle.stair_monitor.proofs.printing.print_event.Goals as goal

pub slice_bounds-copy_from_slice-end : goal.slice_bounds-copy_from_slice-end
slice_bounds-copy_from_slice-end c =
    omega (arith, ap length c.bytes-bytes.ensures, ap length c.text_of-text.ensures.text, text_length c.args.event c.requires)
