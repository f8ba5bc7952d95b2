-- A slot was gone to the draws, or the epoch began.
use Rattle.std.proofs.Common.{refl}
use Rattle.stair_member.specs.RoundSteps.{BrokeOff, WentOn}
use Rattle.stair_rack.specs.Told.{told}
use Rattle.stair_member.proofs.attempt.attempt.Goals as goal

pub returns-in-Some-clause-does : goal.returns-in-Some-clause-does
returns-in-Some-clause-does g c = BrokeOff c.in-Some.slot refl (rw c.in-Some.is at c.in_ok-slot.ensures.does)

pub returns-in-None-clause-does : goal.returns-in-None-clause-does
returns-in-None-clause-does g c =
    WentOn c.reserve_epoch.new.member
    (told g.R.Rack c.reserve_epoch.new.rack) refl
    (rw c.in-None.is at c.in_ok-slot.ensures.does) c.commit_epoch.ensures.does
