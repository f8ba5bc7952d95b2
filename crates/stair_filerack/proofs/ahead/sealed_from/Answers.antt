use Rattle.std.proofs.Common.{◌≡◌, ◌/◌, [], ◌∙◌, List, ℕ, ap, arith, length, take_all}
use Rattle.std.specs.Prelude.{slice_index_or}
use Rattle.std.specs.Simd.{first_chunks}
use Rattle.stair_filerack.proofs.AheadLemmas.{get_or-first_chunks}
use Rattle.stair_filerack.proofs.ahead.sealed_from.Goals as goal

pub returns-in-Some : goal.returns-in-Some
returns-in-Some c j below =
    let bytes = c.args.bytes.now in
    let sectors = c.as_chunks.result.0.now in
    let count : length bytes / 544 ≡ 8 = omega (arith, c.told-bytes) in
    let chunks : sectors ≡ first_chunks 544 (length bytes / 544) bytes = c.as_chunks.ensures.front in
    let eight : c.in-Some.sectors.now ≡ first_chunks 544 8 bytes =
    c.in-Some.ensures.cases.same ∙ take_all 8 sectors (omega (arith, c.as_chunks.ensures.front_len, count))
    ∙ chunks ∙ ap (λ (k : ℕ). first_chunks 544 k bytes) count in
    let its_bytes = ap (λ (l : List (List ℕ)). slice_index_or l j []) eight ∙ get_or-first_chunks 544 8 j bytes below in
    rw (← c.eight_from.ensures j below, ← its_bytes) (c.are_sealed.ensures j below)
