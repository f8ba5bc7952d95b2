-- The next chunk is that of the member and the rebuild.
use Rattle.std.proofs.Common.{ap, sym, None}
use Rattle.stair_array.specs.Arrays.{OpenArray, state_of}
use Rattle.stair_array.specs.Promise.{running}
use Rattle.stair_array.proofs.RebuildingLemmas.{next_same}
use Rattle.stair_array.proofs.array.Array.next_chunk.Goals as goal

pub returns-in-Some-clause-some : goal.returns-in-Some-clause-some
returns-in-Some-clause-some g c =
    rw (c.slot.ensures.value, c.stripe.ensures)
    (next_same (running c.self.inside.session.member c.self.inside.rebuild None) (state_of c.args.self.now) _ _
    (sym (ap (λ (a : OpenArray). a.member) c.self.view_is)) (sym (ap (λ (a : OpenArray). a.rebuild) c.self.view_is)) c.in-Some.ensures.some)
