-- What the line says is done.
use Rattle.std.proofs.Common.{Bool, List, Some, subst, sym, ℕ}
use Rattle.stair_array.specs.Promise.{Opened}
use Rattle.stair_script.specs.declared.line.Line.TheVariants.{Read, Replace, Scrub, Write}
use Rattle.stair_command.specs.Comes.{ExecutesOnDevices}
use Rattle.stair_command.specs.Devices.{device_view, devices, some_left}
use Rattle.stair_command.specs.Program.{Program}
use Rattle.stair_command.specs.Rack.{rack_view}
use Rattle.stair_engine.proofs.LineStepLaws.{said_done, said_refused}
use Rattle.stair_engine.specs.Scripts.{admitted_reply, line_program, replies, wrote_reply}
use Rattle.stair_engine.proofs.lines.do_line.Goals as goal

pub returns-in_err-read_block-in-Read-clause-refused : goal.returns-in_err-read_block-in-Read-clause-refused
returns-in_err-read_block-in-Read-clause-refused g c =
    let view = device_view (rack_view g.R.Rack) (λ b. (goal.Watcher-dyn g (b.vtable, b.value)).hears b.value) in
    let of = c.args.array.now.member.array.geometry in
    let first = devices c.args.rack.now (Opened c.args.array.now) c.args.watchers.now.items in
    let next = devices c.read_block.new.rack (Opened c.read_block.new.array) c.read_block.new.watchers.items in
    said_refused view of first next c.args.said (Read c.in-Read.block) c.in-Read.is c.from_residual.result c.in_err-read_block-in-Read.field-0.0 c.from_residual.ensures.1
    c.in_err-read_block-in-Read.ensures.refused

pub returns-in_err-write_block-in-Write-clause-refused : goal.returns-in_err-write_block-in-Write-clause-refused
returns-in_err-write_block-in-Write-clause-refused g c =
    let view = device_view (rack_view g.R.Rack) (λ b. (goal.Watcher-dyn g (b.vtable, b.value)).hears b.value) in
    let of = c.args.array.now.member.array.geometry in
    let first = devices c.args.rack.now (Opened c.args.array.now) c.args.watchers.now.items in
    let next = devices c.write_block.new.rack (Opened c.write_block.new.array) c.write_block.new.watchers.items in
    said_refused view of first next c.args.said (Write c.in-Write.block c.in-Write.contents) c.in-Write.is c.from_residual-in_err-write_block-in-Write.result c.in_err-write_block-in-Write.field-0.0 c.from_residual-in_err-write_block-in-Write.ensures.1
    c.in_err-write_block-in-Write.ensures.refused

pub returns-in_err-scrub_stripe-in-Scrub-clause-refused : goal.returns-in_err-scrub_stripe-in-Scrub-clause-refused
returns-in_err-scrub_stripe-in-Scrub-clause-refused g c =
    let view = device_view (rack_view g.R.Rack) (λ b. (goal.Watcher-dyn g (b.vtable, b.value)).hears b.value) in
    let of = c.args.array.now.member.array.geometry in
    let first = devices c.args.rack.now (Opened c.args.array.now) c.args.watchers.now.items in
    let next = devices c.scrub_stripe.new.rack (Opened c.scrub_stripe.new.array) c.scrub_stripe.new.watchers.items in
    said_refused view of first next c.args.said (Scrub c.in-Scrub.stripe) c.in-Scrub.is c.from_residual-in_err-scrub_stripe-in-Scrub.result c.in_err-scrub_stripe-in-Scrub.field-0.0 c.from_residual-in_err-scrub_stripe-in-Scrub.ensures.1
    c.in_err-scrub_stripe-in-Scrub.ensures.refused

pub returns-in_err-admit-in-Replace-clause-refused : goal.returns-in_err-admit-in-Replace-clause-refused
returns-in_err-admit-in-Replace-clause-refused g c =
    let view = device_view (rack_view g.R.Rack) (λ b. (goal.Watcher-dyn g (b.vtable, b.value)).hears b.value) in
    let of = c.args.array.now.member.array.geometry in
    let first = devices c.args.rack.now (Opened c.args.array.now) c.args.watchers.now.items in
    let next = devices c.admit.new.rack (Opened c.admit.new.array) c.admit.new.watchers.items in
    said_refused view of first next c.args.said (Replace c.in-Replace.slot) c.in-Replace.is c.from_residual-in_err-admit-in-Replace.result c.in_err-admit-in-Replace.field-0.0 c.from_residual-in_err-admit-in-Replace.ensures.1
    c.in_err-admit-in-Replace.ensures.refused

pub returns-in_ok-read_block-in-Read-clause-done : goal.returns-in_ok-read_block-in-Read-clause-done
returns-in_ok-read_block-in-Read-clause-done g c =
    let view = device_view (rack_view g.R.Rack) (λ b. (goal.Watcher-dyn g (b.vtable, b.value)).hears b.value) in
    let of = c.args.array.now.member.array.geometry in
    let first = devices c.args.rack.now (Opened c.args.array.now) c.args.watchers.now.items in
    let next = devices c.read_block.new.rack (Opened c.read_block.new.array) c.read_block.new.watchers.items in
    said_done view of first next c.args.said (Read c.in-Read.block) c.in-Read.is c.in_ok-read_block-in-Read.field-0 c.in_ok-read_block-in-Read.ensures.done

pub returns-in_ok-write_block-in-Write-clause-done : goal.returns-in_ok-write_block-in-Write-clause-done
returns-in_ok-write_block-in-Write-clause-done g c =
    let view = device_view (rack_view g.R.Rack) (λ b. (goal.Watcher-dyn g (b.vtable, b.value)).hears b.value) in
    let of = c.args.array.now.member.array.geometry in
    let first = devices c.args.rack.now (Opened c.args.array.now) c.args.watchers.now.items in
    let next = devices c.write_block.new.rack (Opened c.write_block.new.array) c.write_block.new.watchers.items in
    subst (λ (reply : List ℕ). (rest : Bool → Program)
    → ExecutesOnDevices view (line_program of c.args.said rest) (replies (Some reply) (rest (some_left first.watchers next.watchers))) first next) (sym c.wrote_reply.ensures)
    (said_done view of first next c.args.said (Write c.in-Write.block c.in-Write.contents) c.in-Write.is (wrote_reply c.in-Write.block) c.in_ok-write_block-in-Write.ensures.done)

pub returns-in_ok-scrub_stripe-in-Scrub-clause-done : goal.returns-in_ok-scrub_stripe-in-Scrub-clause-done
returns-in_ok-scrub_stripe-in-Scrub-clause-done g c =
    let view = device_view (rack_view g.R.Rack) (λ b. (goal.Watcher-dyn g (b.vtable, b.value)).hears b.value) in
    let of = c.args.array.now.member.array.geometry in
    let first = devices c.args.rack.now (Opened c.args.array.now) c.args.watchers.now.items in
    let next = devices c.scrub_stripe.new.rack (Opened c.scrub_stripe.new.array) c.scrub_stripe.new.watchers.items in
    said_done view of first next c.args.said (Scrub c.in-Scrub.stripe) c.in-Scrub.is c.in_ok-scrub_stripe-in-Scrub.field-0 c.in_ok-scrub_stripe-in-Scrub.ensures.done

pub returns-in_ok-admit-in-Replace-clause-done : goal.returns-in_ok-admit-in-Replace-clause-done
returns-in_ok-admit-in-Replace-clause-done g c =
    let view = device_view (rack_view g.R.Rack) (λ b. (goal.Watcher-dyn g (b.vtable, b.value)).hears b.value) in
    let of = c.args.array.now.member.array.geometry in
    let first = devices c.args.rack.now (Opened c.args.array.now) c.args.watchers.now.items in
    let next = devices c.admit.new.rack (Opened c.admit.new.array) c.admit.new.watchers.items in
    subst (λ (reply : List ℕ). (rest : Bool → Program)
    → ExecutesOnDevices view (line_program of c.args.said rest) (replies (Some reply) (rest (some_left first.watchers next.watchers))) first next) (sym c.admitted_reply.ensures)
    (said_done view of first next c.args.said (Replace c.in-Replace.slot) c.in-Replace.is (admitted_reply c.in-Replace.slot) c.in_ok-admit-in-Replace.ensures.done)
