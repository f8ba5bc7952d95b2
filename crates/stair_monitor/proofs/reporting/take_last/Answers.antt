-- The last line tells one event more.
use Rattle.std.proofs.Common.{◌<◌, inr, length, rules}
use Rattle.stair_monitor.proofs.reporting.take_last.Goals as goal

pub returns-in_ok-event_of : goal.returns-in_ok-event_of
returns-in_ok-event_of c events tells =
    let some : 0 < length c.args.line.now = search rules in
    inr (c.in_ok-event_of.field-0, some, c.in_ok-event_of.ensures, c.add.ensures events tells)
