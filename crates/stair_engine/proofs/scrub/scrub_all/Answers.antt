-- One stripe after the other.
use Rattle.std.proofs.Common.{◌+◌, ℕ, rules, subst, sym}
use Rattle.stair_array.specs.Promise.{Opened}
use Rattle.stair_command.specs.Devices.{device_view, devices}
use Rattle.stair_command.specs.Rack.{rack_view}
use Rattle.stair_engine.proofs.ScrubLaws.{ScrubbedSoFar, one_scrubbed, scrub_refused}
use Rattle.stair_engine.proofs.scrub.scrub_all.Goals as goal

pub returns-in-Err-clause-refused : goal.returns-in-Err-clause-refused
returns-in-Err-clause-refused g c =
    let view = device_view (rack_view g.R.Rack) (λ b. (goal.Watcher-dyn g (b.vtable, b.value)).hears b.value) in
    let of = c.args.array.now.member.array.geometry in
    let first = devices c.args.rack.now (Opened c.args.array.now) c.args.watchers.now.items in
    scrub_refused view of c.loop-stripe.stripe c.loop-stripe.cells first c.loop-stripe.rack c.scrub.new.rack c.loop-stripe.array c.scrub.new.self
    c.loop-stripe.watchers.items c.scrub.new.watchers.items c.loop-stripe.invariant (search rules) c.in-Err.fault _ (search rules) c.in-Err.ensures.taken

pub loop-stripe-preserved : goal.loop-stripe-preserved
loop-stripe-preserved g c =
    let view = device_view (rack_view g.R.Rack) (λ b. (goal.Watcher-dyn g (b.vtable, b.value)).hears b.value) in
    let of = c.args.array.now.member.array.geometry in
    let first = devices c.args.rack.now (Opened c.args.array.now) c.args.watchers.now.items in
    subst
    (λ (count : ℕ). ScrubbedSoFar view of (c.loop-stripe.stripe + 1) (c.loop-stripe.cells + count) first
    (devices c.scrub.new.rack (Opened c.scrub.new.self) c.scrub.new.watchers.items) c.scrub.new.self)
    (sym c.from-cells.ensures)
    (one_scrubbed view of c.loop-stripe.stripe c.loop-stripe.cells first c.loop-stripe.rack c.scrub.new.rack c.loop-stripe.array c.scrub.new.self
    c.loop-stripe.watchers.items c.scrub.new.watchers.items c.loop-stripe.invariant (search rules) c.in-Ok.count (search rules) c.in-Ok.ensures.stay
    c.in-Ok.ensures.taken)
