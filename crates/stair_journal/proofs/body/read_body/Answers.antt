-- Each turn reads the next row.
use Rattle.std.proofs.Common.{◌≡◌, None, refl, arith}
use Rattle.stair_rack.specs.Told.{told}
use Rattle.stair_journal.specs.BodySteps.{standing}
use Rattle.stair_journal.proofs.BodyLemmas.{all_in_turn, all_read, all_reads, none_read}
use Rattle.stair_journal.proofs.body.read_body.Goals as goal

pub loop-row-init : goal.loop-row-init
loop-row-init g c = none_read c.args.geometry.now c.args.live c.args.redo.now _ c.requires.stripe refl

pub loop-row-preserved : goal.loop-row-preserved
loop-row-preserved g c = c.read_row.ensures _ c.loop-row.invariant

pub returns-clause-does : goal.returns-clause-does
returns-clause-does g c =
    let all : c.loop-row.row ≡ c.args.geometry.now.r = omega arith in
    all_read c.args.geometry.now c.args.live c.args.redo.now
    (standing (record { unread = None; gone = c.empty.result }) c.args.into.now
    (told g.R.Rack c.args.rack.now)
    (g.R.Rack.reads c.args.rack.now))
    (standing c.loop-row.body c.loop-row.into
    (told g.R.Rack c.loop-row.rack)
    (g.R.Rack.reads c.loop-row.rack)) c.requires.redo c.r-row-end.ensures.limits (rw all at c.loop-row.invariant) c.empty.ensures.none
    c.empty.ensures.well_formed

pub returns-clause-reads : goal.returns-clause-reads
returns-clause-reads g c =
    let all : c.loop-row.row ≡ c.args.geometry.now.r = omega arith in
    all_reads c.args.geometry.now c.args.live c.args.redo.now
    (standing (record { unread = None; gone = c.empty.result }) c.args.into.now
    (told g.R.Rack c.args.rack.now)
    (g.R.Rack.reads c.args.rack.now))
    (standing c.loop-row.body c.loop-row.into
    (told g.R.Rack c.loop-row.rack)
    (g.R.Rack.reads c.loop-row.rack)) c.requires.redo c.r-row-end.ensures.limits (rw all at c.loop-row.invariant)

pub returns-clause-in_turn : goal.returns-clause-in_turn
returns-clause-in_turn g c =
    let all : c.loop-row.row ≡ c.args.geometry.now.r = omega arith in
    all_in_turn c.args.geometry.now c.args.live c.args.redo.now
    (standing (record { unread = None; gone = c.empty.result }) c.args.into.now
    (told g.R.Rack c.args.rack.now)
    (g.R.Rack.reads c.args.rack.now))
    (standing c.loop-row.body c.loop-row.into
    (told g.R.Rack c.loop-row.rack)
    (g.R.Rack.reads c.loop-row.rack)) c.requires.redo c.r-row-end.ensures.limits (rw all at c.loop-row.invariant) c.empty.ensures.none
    c.empty.ensures.well_formed
