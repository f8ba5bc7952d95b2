-- The newer one of what both places hold.
use Rattle.stair_member.proofs.SightLemmas.{newest_of}
use Rattle.stair_member.proofs.look.sight_of.Goals as goal

pub returns-clause-newest : goal.returns-clause-newest
returns-clause-newest c =
    rw (c.newer_of.ensures.value, c.block-one.ensures, c.block-other.ensures) (λ cell first second. newest_of cell _ _ first second)

pub returns-clause-next : goal.returns-clause-next
returns-clause-next c =
    rw (← c.block-one.ensures, ← c.block-other.ensures) (λ cell first second. c.next_place.ensures.place cell first second)
