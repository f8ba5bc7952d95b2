-- Call by call, the newest first.
use Rattle.std.proofs.Common.{◌≡◌, ◌<◌, ◌-◌, ◌∙◌, List, length, get_or, sym, ap, arith}
use Rattle.stair_memrack.specs.declared.record.Recorded.{Recorded}
use Rattle.stair_memrack.proofs.LeftLemmas.{found_here, passed_over, not_here}
use Rattle.stair_memrack.proofs.crash.written.Goals as goal
use Rattle.stair_memrack.proofs.crash.written.Goals.{in-Some+else-left-eq0, in-None}

pub returns-then-left-eq0 : goal.returns-then-left-eq0
returns-then-left-eq0 c =
    let log : List Recorded = c.args.log.now.items in
    let call : Recorded = c.index-call.result.now in
    let i = c.loop-index.index in
    let count : c.len.result ≡ length log = omega (arith, c.len.ensures, c.args.log.now.ok.0) in
    let within : i < length log = omega (arith, c.len-index-end.ensures, c.args.log.now.ok.0, c.loop-index-test.true) in
    let at : call ≡ get_or log (length log - 1 - i) call = c.index-call.ensures ∙ ap (λ n. get_or log (n - 1 - i) call) count in
    found_here log i c.args.number c.loop-index.left c.args.slot c.args.sector call within at c.loop-index.invariant c.in-Some.bytes
    (sym c.wrote_on.ensures ∙ c.in-Some.is) c.if-left-eq0.true

pub loop-index-preserved : goal.loop-index-preserved
loop-index-preserved c =
    let log : List Recorded = c.args.log.now.items in
    let call : Recorded = c.index-call.result.now in
    let i = c.loop-index.index in
    let count : c.len.result ≡ length log = omega (arith, c.len.ensures, c.args.log.now.ok.0) in
    let within : i < length log = omega (arith, c.len-index-end.ensures, c.args.log.now.ok.0, c.loop-index-test.true) in
    let at : call ≡ get_or log (length log - 1 - i) call = c.index-call.ensures ∙ ap (λ n. get_or log (n - 1 - i) call) count in
    elim c.match-wrote_on.branch [
      | in-Some+else-left-eq0 w ↦
          passed_over log i c.args.number c.loop-index.left c.args.slot c.args.sector call within at c.loop-index.invariant w.in-Some.bytes
          c.match-wrote_on.left (sym c.wrote_on.ensures ∙ w.in-Some.is) (omega (arith, w.left-is, w.if-left-eq0.false))
      | in-None w ↦
          rw (w.left-is)
          (not_here log i c.args.number c.loop-index.left c.args.slot c.args.sector call within at c.loop-index.invariant
          (sym c.wrote_on.ensures ∙ w.in-None.is))
    ]
