-- The next round.
use Rattle.std.proofs.Common.{◌∙◌, ◌≤◌, Some, refl, arith}
use Rattle.stair_rack.specs.Told.{told}
use Rattle.stair_member.proofs.AttemptLemmas.{moved}
use Rattle.stair_member.proofs.EstablishLemmas.{attempt_first}
use Rattle.stair_member.proofs.EndingLemmas.{attempt_ends, attempt_refused}
use Rattle.stair_member.proofs.RenewingLemmas.{attempt_more, fewer_left}
use Rattle.stair_member.proofs.establish.establish.Goals as goal

pub loop-fault-init : goal.loop-fault-init
loop-fault-init g c = record {
  far =
      attempt_first c.args.aim c.args.member.now c.empty-gone.result
      (told g.R.Rack c.args.rack.now)
      c.epoch-epoch.ensures.rules c.requires.may c.requires.down c.empty-gone.ensures.well_formed c.empty-gone.ensures.none;
  reads = refl;
}

pub returns-in-Err-clause-does : goal.returns-in-Err-clause-does
returns-in-Err-clause-does g c =
    attempt_refused c.args.aim c.loop-fault.left c.args.member.now c.loop-fault.member c.attempt.new.member c.loop-fault.gone c.in-Err.fault
    (told g.R.Rack c.args.rack.now)
    (told g.R.Rack c.loop-fault.rack)
    (told g.R.Rack c.attempt.new.rack)
    c.loop-fault.invariant.far refl refl (rw c.in-Err.is at c.attempt.ensures.does)

pub returns-in-Ok-None-clause-does : goal.returns-in-Ok-None-clause-does
returns-in-Ok-None-clause-does g c =
    attempt_ends c.args.aim c.loop-fault.left c.args.member.now c.loop-fault.member c.attempt.new.member c.loop-fault.gone
    (told g.R.Rack c.args.rack.now)
    (told g.R.Rack c.loop-fault.rack)
    (told g.R.Rack c.attempt.new.rack)
    c.loop-fault.invariant.far (rw (c.in-Ok-None.is, c.in-Ok-None.field-0-is) at c.attempt.ensures.does) refl refl
    c.attempt.ensures.rules

pub add-requires : goal.add-requires
add-requires g c =
    let slot =
    (moved c.loop-fault.left c.loop-fault.member c.attempt.new.member (Some c.in-Ok-Some.slot)
    (told g.R.Rack c.loop-fault.rack)
    (told g.R.Rack c.attempt.new.rack)
    c.loop-fault.invariant.far.may (rw (c.in-Ok-Some.is, c.in-Ok-Some.field-0-is) at c.attempt.ensures.does)).fell c.in-Ok-Some.slot refl in
    let most : c.loop-fault.member.array.geometry.n ≤ 32 = c.loop-fault.invariant.far.rules.array.limits.devices.1 in
    omega (arith, slot.0, most)

pub mark_gone-requires : goal.mark_gone-requires
mark_gone-requires g c =
    let moves =
    moved c.loop-fault.left c.loop-fault.member c.attempt.new.member (Some c.in-Ok-Some.slot)
    (told g.R.Rack c.loop-fault.rack)
    (told g.R.Rack c.attempt.new.rack)
    c.loop-fault.invariant.far.may (rw (c.in-Ok-Some.is, c.in-Ok-Some.field-0-is) at c.attempt.ensures.does) in
    rw moves.geometry (moves.fell c.in-Ok-Some.slot refl).0

pub loop-fault-smaller : goal.loop-fault-smaller
loop-fault-smaller g c =
    fewer_left c.args.aim c.loop-fault.left c.args.member.now c.loop-fault.member c.attempt.new.member c.loop-fault.gone c.add.new.self
    c.in-Ok-Some.slot
    (told g.R.Rack c.args.rack.now)
    (told g.R.Rack c.loop-fault.rack)
    (told g.R.Rack c.attempt.new.rack)
    c.loop-fault.invariant.far (rw (c.in-Ok-Some.is, c.in-Ok-Some.field-0-is) at c.attempt.ensures.does) refl c.add.ensures.well_formed
    c.add.ensures.members c.attempt.ensures.rules
    (rw c.mark_gone.ensures.is at c.mark_gone.ensures.rules)

pub loop-fault-preserved : goal.loop-fault-preserved
loop-fault-preserved g c = record {
  far =
      rw (c.left_of-left.ensures, c.mark_gone.ensures.is)
      (attempt_more c.args.aim c.loop-fault.left c.args.member.now c.loop-fault.member c.attempt.new.member c.loop-fault.gone c.add.new.self
      c.in-Ok-Some.slot
      (told g.R.Rack c.args.rack.now)
      (told g.R.Rack c.loop-fault.rack)
      (told g.R.Rack c.attempt.new.rack)
      c.loop-fault.invariant.far (rw (c.in-Ok-Some.is, c.in-Ok-Some.field-0-is) at c.attempt.ensures.does) refl c.add.ensures.well_formed
      c.add.ensures.members c.attempt.ensures.rules
      (rw c.mark_gone.ensures.is at c.mark_gone.ensures.rules));
  reads = c.attempt.ensures.reads ∙ c.loop-fault.invariant.reads;
}
