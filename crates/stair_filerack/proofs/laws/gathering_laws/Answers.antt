use Rattle.std.proofs.Common.{ℕ, ◌+◌, ◌∷◌, length, subst, arith}
use Rattle.stair_image.specs.Seal.{sealed}
use Rattle.stair_filerack.specs.Gathered.{all_sealed}
use Rattle.stair_filerack.proofs.GatheredLemmas.{Gathers, gathers_all, gathers_first, gathers_sync}
use Rattle.stair_filerack.proofs.laws.gathering_laws.Goals as goal

pub returns-clause-one : goal.returns-clause-one
returns-clause-one g c sector payload old mid new none writes syncs =
    let first = gathers_first g.T.Seek.stream_position g.T.Write.contents sector payload old mid none writes in
    gathers_sync g.T.Seek.stream_position g.T.Write.contents mid.image.file (sealed sector payload) sector 1 old mid new first.0 first.1 syncs

pub returns-clause-following : goal.returns-clause-following
returns-clause-following g c sector payload payloads old mid new none (one, writes, others) syncs =
    let first = gathers_first g.T.Seek.stream_position g.T.Write.contents sector payload old one none writes in
    let all = gathers_all g.T.Seek.stream_position g.T.Write.contents one.image.file (sealed sector payload) old.image.ahead (sector + 1) payloads one mid first.1 others in
    gathers_sync g.T.Seek.stream_position g.T.Write.contents one.image.file (all_sealed sector (payload ∷ payloads)) sector (length payloads + 1) old mid new first.0
    (subst (λ (n : ℕ). Gathers g.T.Seek.stream_position g.T.Write.contents one.image.file (all_sealed sector (payload ∷ payloads)) old.image.ahead n mid) (omega arith) all)
    syncs
