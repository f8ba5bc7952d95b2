-- All of it, or a part and then a fault.
use Rattle.std.proofs.Common.{◌≡◌, ℕ, List, arith, drop, length-drop, subst, sym, take, take-append-drop}
use Rattle.std.proofs.lemmas.List.{take_all}
use Rattle.std.specs.Io.KnownBytes.{Appends}
use Rattle.stair_command.proofs.streams.put_all.Goals as goal

pub returns-then-put_until_fault-bytes-clause-puts : goal.returns-then-put_until_fault-bytes-clause-puts
returns-then-put_until_fault-bytes-clause-puts g c =
    let count = c.put_until_fault.result in
    let bytes = c.args.bytes.now in
    let put = c.put_until_fault.ensures in (
      take count bytes,
      (drop count bytes, sym (take-append-drop count bytes), omega (arith, length-drop count bytes)),
      (put.grows, put.rises, put.fault c.if-put_until_fault-bytes.true),
    )

pub returns-clause-puts : goal.returns-clause-puts
returns-clause-puts g c =
    let put = c.put_until_fault.ensures in
    let bytes = c.args.bytes.now in
    let all : take c.put_until_fault.result bytes ≡ bytes = take_all c.put_until_fault.result bytes c.if-put_until_fault-bytes.false in (
      subst (λ (front : List ℕ). Appends (g.K.Sink.held c.args.output.now) (g.K.Sink.held c.put_until_fault.new.sink) front) all put.grows,
      put.rises,
    )
