-- the calls before these wrote what was passed over
use Rattle.std.proofs.Common.{◌≡◌, reverse, drop, slice_get}
use Rattle.stair_memrack.specs.Left.{writes_of}
use Rattle.stair_memrack.proofs.crash.written.Given as goal

abbrev pub invariant-loop-index : goal.invariant-loop-index
invariant-loop-index l =
    slice_get (writes_of (reverse l.log.items) l.slot l.sector) l.number
    ≡ slice_get (writes_of (drop l.index (reverse l.log.items)) l.slot l.sector) l.left
