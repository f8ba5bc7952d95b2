-- No slot is rebuilt.
use Rattle.std.proofs.Common.{refl}
use Rattle.stair_array.specs.Arrays.{state_of}
use Rattle.stair_array.proofs.RebuildingLemmas.{next_rebuilt}
use Rattle.stair_mend.proofs.rebuilding.is_next.Goals as goal

pub returns-in-None : goal.returns-in-None
returns-in-None g c next =
    c.in-None.ensures.none refl c.args.slot
    (next_rebuilt (state_of c.args.array.now) c.args.slot c.args.stripe next c.geometry.ensures.under).0
