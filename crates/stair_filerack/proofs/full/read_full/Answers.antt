use Rattle.std.proofs.Common.{◌≤◌, ◌<◌, length, arith, subst}
use Rattle.std.specs.Io.KnownBytes.{Consumes}
use Rattle.std.proofs.KnownBytes.{Consumes-trans}
use Rattle.stair_filerack.proofs.FileLemmas.{take-put_mid-more, read-fewer, OnErr-of}
use Rattle.stair_filerack.proofs.full.read_full.Goals as goal

pub loop-filled-preserved : goal.loop-filled-preserved
loop-filled-preserved g c =
    let filled = c.loop-filled.filled in
    let within : filled ≤ length c.loop-filled.into = omega arith in
    record {
      within = omega (arith, c.in_ok-count.ensures.bound.0);
      taken = subst (Consumes _ _) (take-put_mid-more filled _ c.in_ok-count.count c.loop-filled.into c.read_retrying.new.into within c.in_ok-count.ensures.bound.0)
          (Consumes-trans _ _ _ _ _ c.loop-filled.invariant.taken c.in_ok-count.ensures.bytes.0);
    }

pub returns-in_err-count-clause-failed : goal.returns-in_err-count-clause-failed
returns-in_err-count-clause-failed g c =
    let filled = c.loop-filled.filled in
    let within : filled ≤ length c.loop-filled.into = omega arith in
    let short : filled < length c.args.into.now = omega arith in
    OnErr-of c.from_residual.result _
    (read-fewer _ _ _ filled _ c.loop-filled.into within short c.loop-filled.invariant.taken c.in_err-count.ensures.bytes)
