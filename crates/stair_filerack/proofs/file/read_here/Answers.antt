use Rattle.std.proofs.Common.{◌≤◌, length, arith, subst, take_all}
use Rattle.std.specs.Io.KnownBytes.{Consumes}
use Rattle.stair_filerack.proofs.FileLemmas.{unseal-read}
use Rattle.stair_filerack.proofs.file.read_here.Goals as goal

pub returns-clause-found : goal.returns-clause-found
returns-clause-found g c =
    let bytes = c.read_full.new.into in
    let count = c.in_ok-read_full.field-0 in
    let whole : length bytes ≤ count = omega arith in
    unseal-read c.unseal.result c.from.result c.args.sector bytes _ _ c.from.ensures c.unseal.ensures (omega arith)
    (subst (Consumes _ _) (take_all count bytes whole) c.in_ok-read_full.ensures.bytes)
