-- Each line.
use Rattle.std.proofs.Common.{◌≡◌, List, ℕ, Result, ◌++◌, ap, ◌∙◌, subst}
use Rattle.stair_command.specs.Executes.{Holds}
use Rattle.stair_command.specs.Outside.{SinkView, sink_view}
use Rattle.stair_command.specs.Trace.{HasPut}
use Rattle.stair_command.specs.Streams.{PutsAll}
use Rattle.stair_engine.specs.Show.{array_line, epoch_line, frozen_line, geometry_line, label_line}
use Rattle.stair_command.proofs.TextLaws.{PutsPart, puts_first, puts_then}
use Rattle.stair_engine.proofs.show.put_array.Goals as goal
use Rattle.std.specs.Prelude.{IsErr}

module _ {K T E : Type 0} (view : SinkView K) (r : Result T E) (bytes line behind : List ℕ) (same : bytes ≡ line) where
  -- bytes that are a line, and what is after it
  line_then : (a b c : K) → Holds view (HasPut bytes) a b → PutsAll view r behind b c → PutsAll view r (line ++ behind) a c
  line_then a b c first then = puts_then view r line behind a b c (subst (λ (text : List ℕ). Holds view (HasPut text) a b) same first) then

  -- a part of it, and the fault is handed on
  line_part : (a b : K) → IsErr r → PutsPart view bytes a b → PutsAll view r (line ++ behind) a b
  line_part a b is part = puts_first view r line behind a b is (subst (λ (text : List ℕ). PutsPart view text a b) same part)

pub returns-in_err-put_all-clause-puts : goal.returns-in_err-put_all-clause-puts
returns-in_err-put_all-clause-puts g c =
    let view = sink_view g.K.Sink in
    let array = c.args.member.now.array in
    line_part view c.from_residual.result _ (array_line array.geometry) _ (c.bytes.ensures ∙ c.array_line.ensures ∙ ap array_line c.geometry-geometry.ensures.value) c.args.output.now c.put_all.new.output
    c.from_residual.ensures.0 c.in_err-put_all.ensures.puts

pub returns-in_err-put_all-2-clause-puts : goal.returns-in_err-put_all-2-clause-puts
returns-in_err-put_all-2-clause-puts g c =
    let view = sink_view g.K.Sink in
    let array = c.args.member.now.array in
    line_then view c.from_residual-in_err-put_all-2.result _ (array_line array.geometry) _ (c.bytes.ensures ∙ c.array_line.ensures ∙ ap array_line c.geometry-geometry.ensures.value) c.args.output.now c.put_all.new.output c.put_all-2.new.output
    c.in_ok-put_all.ensures.puts
    (line_part view c.from_residual-in_err-put_all-2.result _ (geometry_line array.geometry) _ (c.bytes-2.ensures ∙ c.geometry_line.ensures ∙ ap geometry_line c.geometry-geometry.ensures.value) c.put_all.new.output c.put_all-2.new.output
    c.from_residual-in_err-put_all-2.ensures.0 c.in_err-put_all-2.ensures.puts)

pub returns-in_err-put_all-3-clause-puts : goal.returns-in_err-put_all-3-clause-puts
returns-in_err-put_all-3-clause-puts g c =
    let view = sink_view g.K.Sink in
    let array = c.args.member.now.array in
    line_then view c.from_residual-in_err-put_all-3.result _ (array_line array.geometry) _ (c.bytes.ensures ∙ c.array_line.ensures ∙ ap array_line c.geometry-geometry.ensures.value) c.args.output.now c.put_all.new.output c.put_all-3.new.output
    c.in_ok-put_all.ensures.puts
    (line_then view c.from_residual-in_err-put_all-3.result _ (geometry_line array.geometry) _ (c.bytes-2.ensures ∙ c.geometry_line.ensures ∙ ap geometry_line c.geometry-geometry.ensures.value) c.put_all.new.output c.put_all-2.new.output c.put_all-3.new.output
    c.in_ok-put_all-2.ensures.puts
    (line_part view c.from_residual-in_err-put_all-3.result _ (epoch_line array.epoch) _ (c.bytes-3.ensures ∙ c.epoch_line.ensures ∙ ap epoch_line c.epoch.ensures.value) c.put_all-2.new.output c.put_all-3.new.output
    c.from_residual-in_err-put_all-3.ensures.0 c.in_err-put_all-3.ensures.puts))

pub returns-in_err-put_all-4-clause-puts : goal.returns-in_err-put_all-4-clause-puts
returns-in_err-put_all-4-clause-puts g c =
    let view = sink_view g.K.Sink in
    let array = c.args.member.now.array in
    line_then view c.from_residual-in_err-put_all-4.result _ (array_line array.geometry) _ (c.bytes.ensures ∙ c.array_line.ensures ∙ ap array_line c.geometry-geometry.ensures.value) c.args.output.now c.put_all.new.output c.put_all-4.new.output
    c.in_ok-put_all.ensures.puts
    (line_then view c.from_residual-in_err-put_all-4.result _ (geometry_line array.geometry) _ (c.bytes-2.ensures ∙ c.geometry_line.ensures ∙ ap geometry_line c.geometry-geometry.ensures.value) c.put_all.new.output c.put_all-2.new.output c.put_all-4.new.output
    c.in_ok-put_all-2.ensures.puts
    (line_then view c.from_residual-in_err-put_all-4.result _ (epoch_line array.epoch) _ (c.bytes-3.ensures ∙ c.epoch_line.ensures ∙ ap epoch_line c.epoch.ensures.value) c.put_all-2.new.output c.put_all-3.new.output c.put_all-4.new.output
    c.in_ok-put_all-3.ensures.puts
    (line_part view c.from_residual-in_err-put_all-4.result _ (label_line array.label) _ (c.bytes-4.ensures ∙ c.label_line.ensures ∙ ap label_line c.label.ensures.value) c.put_all-3.new.output c.put_all-4.new.output
    c.from_residual-in_err-put_all-4.ensures.0 c.in_err-put_all-4.ensures.puts)))

pub returns-clause-puts : goal.returns-clause-puts
returns-clause-puts g c =
    let view = sink_view g.K.Sink in
    let array = c.args.member.now.array in
    line_then view c.put_all-5.result _ (array_line array.geometry) _ (c.bytes.ensures ∙ c.array_line.ensures ∙ ap array_line c.geometry-geometry.ensures.value) c.args.output.now c.put_all.new.output c.put_all-5.new.output
    c.in_ok-put_all.ensures.puts
    (line_then view c.put_all-5.result _ (geometry_line array.geometry) _ (c.bytes-2.ensures ∙ c.geometry_line.ensures ∙ ap geometry_line c.geometry-geometry.ensures.value) c.put_all.new.output c.put_all-2.new.output c.put_all-5.new.output
    c.in_ok-put_all-2.ensures.puts
    (line_then view c.put_all-5.result _ (epoch_line array.epoch) _ (c.bytes-3.ensures ∙ c.epoch_line.ensures ∙ ap epoch_line c.epoch.ensures.value) c.put_all-2.new.output c.put_all-3.new.output c.put_all-5.new.output
    c.in_ok-put_all-3.ensures.puts
    (line_then view c.put_all-5.result _ (label_line array.label) _ (c.bytes-4.ensures ∙ c.label_line.ensures ∙ ap label_line c.label.ensures.value) c.put_all-3.new.output c.put_all-4.new.output c.put_all-5.new.output
    c.in_ok-put_all-4.ensures.puts
    (subst (λ (text : List ℕ). PutsAll view c.put_all-5.result text c.put_all-4.new.output c.put_all-5.new.output)
    (c.bytes-5.ensures ∙ c.frozen_line.ensures ∙ ap frozen_line c.frozen.ensures.value) c.put_all-5.ensures.puts))))
