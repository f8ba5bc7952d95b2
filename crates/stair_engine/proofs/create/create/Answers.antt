-- Each return, by its items.
use Rattle.std.proofs.Common.{◌≡◌, ℕ, List, Ok, Err, rules, subst}
use Rattle.stair_command.specs.Executes.{Holds}
use Rattle.stair_command.specs.Outside.{views}
use Rattle.stair_engine.specs.Programs.{created_line}
use Rattle.stair_command.specs.Rack.{rack_view}
use Rattle.stair_command.specs.Trace.{HasPut, IsPart}
use Rattle.stair_command.specs.declared.fault.Fault.TheVariants.{Memory, Output}
use Rattle.stair_engine.proofs.StepLaws.{makes, reads_text, takes_text, text_faulty, text_refused}
use Rattle.stair_engine.proofs.create.create.Goals as goal
use Rattle.stair_command.proofs.RackLaws.{over_cannot_put, over_hands_on, over_puts, over_runs_out, over_then}

pub returns-in_err-length : goal.returns-in_err-length
returns-in_err-length g c counter =
    let view = views g.S.Source g.K.Sink in
    let rack = rack_view g.R.Rack in
    over_hands_on rack view _ _ _ _ _ _ _ c.from_residual.ensures.1
    (text_refused rack view _ _ _ _ _ _ _ c.in_err-length.ensures)

pub returns-in_err-geometry : goal.returns-in_err-geometry
returns-in_err-geometry g c counter =
    let view = views g.S.Source g.K.Sink in
    let rack = rack_view g.R.Rack in
    over_hands_on rack view _ _ _ _ _ _ _ c.from_residual-in_err-geometry.ensures.1
    (over_then rack view (takes_text rack view _ _ _ _ _ _ _ c.in_ok-length.ensures)
    (text_faulty rack view _ _ _ _ c.in_err-geometry.ensures.answer))

pub returns-in_err-line : goal.returns-in_err-line
returns-in_err-line g c counter =
    let view = views g.S.Source g.K.Sink in
    let rack = rack_view g.R.Rack in
    over_hands_on rack view _ _ _ _ _ _ Memory c.from_residual-in_err-line.ensures.1
    (over_then rack view (takes_text rack view _ _ _ _ _ _ _ c.in_ok-length.ensures)
    (over_then rack view (reads_text rack view _ _ _ _ (c.in_ok-geometry.ensures.answer (λ is. cc))) (over_runs_out rack view _ _ _)))

pub returns-in_err-create : goal.returns-in_err-create
returns-in_err-create g c counter =
    let view = views g.S.Source g.K.Sink in
    let rack = rack_view g.R.Rack in
    over_hands_on rack view _ _ _ _ _ _ _ c.from_residual-in_err-create.ensures.1
    (over_then rack view (takes_text rack view _ _ _ _ _ _ _ c.in_ok-length.ensures)
    (over_then rack view (reads_text rack view _ _ _ _ (c.in_ok-geometry.ensures.answer (λ is. cc)))
    (makes rack view _ (Err _) _ _ _ c.in_err-create.ensures)))

pub returns-in_err-put_all : goal.returns-in_err-put_all
returns-in_err-put_all g c counter =
    let view = views g.S.Source g.K.Sink in
    let rack = rack_view g.R.Rack in
    let failed = c.in_err-put_all.ensures.puts in
    let line = created_line c.in_ok-geometry.geometry in
    let is_line : c.as_bytes.result.now ≡ line = search rules in
    over_hands_on rack view _ _ _ _ _ _ Output (rw c.in_err-put_all.ensures.failed at c.from_residual-in_err-put_all.ensures.1)
    (over_then rack view (takes_text rack view _ _ _ _ _ _ _ c.in_ok-length.ensures)
    (over_then rack view (reads_text rack view _ _ _ _ (c.in_ok-geometry.ensures.answer (λ is. cc)))
    (over_then rack view (makes rack view _ (Ok tt) _ _ _ c.in_ok-create.ensures)
    (over_cannot_put rack view line failed.0 _ _ _ _ _ (subst (λ (all : List ℕ). IsPart failed.0 all) is_line failed.1) failed.2))))

pub returns : goal.returns
returns g c counter =
    let view = views g.S.Source g.K.Sink in
    let rack = rack_view g.R.Rack in
    let line = created_line c.in_ok-geometry.geometry in
    let is_line : c.as_bytes.result.now ≡ line = search rules in
    over_then rack view (takes_text rack view _ _ _ _ _ _ _ c.in_ok-length.ensures)
    (over_then rack view (reads_text rack view _ _ _ _ (c.in_ok-geometry.ensures.answer (λ is. cc)))
    (over_then rack view (makes rack view _ (Ok tt) _ _ _ c.in_ok-create.ensures)
    (over_puts rack view line _ _ _ _ _
    (subst (λ (all : List ℕ). Holds view.sink (HasPut all) c.args.output.now c.put_all.new.output) is_line c.in_ok-put_all.ensures.puts))))
