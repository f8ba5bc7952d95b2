-- The four cases.
use Rattle.std.proofs.lemmas.Bool.{false≢true}
use Rattle.std.proofs.Common.{refl}
use Rattle.stair_member.proofs.SightLemmas.{next_first, next_none, next_only_first, next_second}
use Rattle.stair_member.proofs.look.next_place.Goals as goal

pub returns-then-is_older-clause-place : goal.returns-then-is_older-clause-place
returns-then-is_older-clause-place c =
    rw (c.in-Some-Some.is-0, c.in-Some-Some.is-1)
    (λ cell first second. next_first cell c.in-Some-Some.first c.in-Some-Some.second first second (c.if-is_older.ensures.older.0 refl))

pub returns-else-is_older-clause-place : goal.returns-else-is_older-clause-place
returns-else-is_older-clause-place c =
    rw (c.in-Some-Some.is-0, c.in-Some-Some.is-1)
    (λ cell first second.
    next_second cell c.in-Some-Some.first c.in-Some-Some.second first second (λ older. false≢true (c.if-is_older.ensures.older.1 older)))

pub returns-in-Some-None-clause-place : goal.returns-in-Some-None-clause-place
returns-in-Some-None-clause-place c =
    rw (c.in-Some-None.is-0, c.in-Some-None.is-1) (λ cell first second. next_only_first cell c.in-Some-None.field-0-0 first second)

pub returns-in-None-default-clause-place : goal.returns-in-None-default-clause-place
returns-in-None-default-clause-place c = rw c.in-None-default.is-0 (λ cell first second. next_none cell c.args.second first second)
