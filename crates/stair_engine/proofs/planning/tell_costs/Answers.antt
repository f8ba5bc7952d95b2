-- There was no memory; or what was found is put out.
use Rattle.std.proofs.Common.{◌∙◌}
use Rattle.stair_command.specs.Outside.{outside, sink_alone}
use Rattle.stair_engine.proofs.CostsLaws.{costs_no_memory, costs_put, costs_unput}
use Rattle.stair_engine.proofs.planning.tell_costs.Goals as goal

pub returns-in_err-costs : goal.returns-in_err-costs
returns-in_err-costs g c counter =
    let view = sink_alone g.K.Sink in
    costs_no_memory view c.args.geometry.now c.from_residual.result (outside tt c.args.output.now counter) c.from_residual.ensures.1

pub returns-in_err-put_all : goal.returns-in_err-put_all
returns-in_err-put_all g c counter =
    let view = sink_alone g.K.Sink in
    let failed = c.in_err-put_all.ensures.puts in
    costs_unput view c.args.geometry.now c.in_ok-costs.costs c.in_ok-costs.ensures c.bytes.result.now (c.bytes.ensures ∙ c.text.ensures) tt
    c.args.output.now c.put_all.new.output counter failed.0 c.from_residual-in_err-put_all.result c.in_err-put_all.field-0.0 failed.1 failed.2
    c.in_err-put_all.ensures.failed c.from_residual-in_err-put_all.ensures.1

pub returns : goal.returns
returns g c counter =
    let view = sink_alone g.K.Sink in
    costs_put view c.args.geometry.now c.in_ok-costs.costs c.in_ok-costs.ensures c.bytes.result.now (c.bytes.ensures ∙ c.text.ensures) tt
    c.args.output.now c.put_all.new.output counter c.in_ok-put_all.ensures.puts
