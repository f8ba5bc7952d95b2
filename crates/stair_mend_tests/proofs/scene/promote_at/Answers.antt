-- All chunks of the rebuild that is under way were written.
use Rattle.stair_array.specs.Arrays.{state_of}
use Rattle.stair_mend.proofs.StepLemmas.{at_end}
use Rattle.stair_mend_tests.proofs.scene.promote_at.Goals as goal

pub promote_slot-requires : goal.promote_slot-requires
promote_slot-requires c =
    record {
      written = at_end (state_of c.args.array.now) c.args.slot c.args.stripe c.requires.next c.requires.some c.requires.end;
    }
