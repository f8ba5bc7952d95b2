-- The first r rows by need are known, and those after them wanted.
use Rattle.std.proofs.Common.{◌≡◌, ℕ, ap, subst, ◌∙◌}
use Rattle.stair_model.specs.Geometry.{IsWithinLimits}
use Rattle.stair_up.specs.RowsSteps.{AreRowsByNeed}
use Rattle.stair_up.proofs.Chunk.{may_know, may_want, finds_chunk, keeps_chunk}
use Rattle.stair_up.proofs.solve.solve_chunk.Goals as goal

pub solve_chunk-requires-clause-known : goal.solve_chunk-requires-clause-known
solve_chunk-requires-clause-known g c =
    let same = c.geometry.ensures in
    let is_r : c.r-r.result ≡ c.args.canon.now.geometry.r = c.r-r.ensures.value ∙ ap (λ x. x.r) same in
    may_know c.args.canon.now c.args.erased.now c.args.slot c.args.height c.rows_by_need-rows.result
    (subst IsWithinLimits same c.r-r.ensures.limits) (λ i has. (c.requires.cells i c.args.slot has).0) c.requires.slot c.requires.count
    c.requires.height c.from-known.result c.from.result (c.from-known.ensures ∙ is_r) c.from.ensures
    (subst (λ (r : ℕ). AreRowsByNeed c.args.erased.now c.args.slot r c.rows_by_need-rows.result) is_r c.rows_by_need-rows.ensures)

pub solve_chunk-requires-clause-wanted : goal.solve_chunk-requires-clause-wanted
solve_chunk-requires-clause-wanted g c =
    let same = c.geometry.ensures in
    let is_r : c.r-r.result ≡ c.args.canon.now.geometry.r = c.r-r.ensures.value ∙ ap (λ x. x.r) same in
    may_want c.args.canon.now c.args.erased.now c.args.slot c.args.height c.rows_by_need-rows.result
    (subst IsWithinLimits same c.r-r.ensures.limits) (λ i has. (c.requires.cells i c.args.slot has).0) c.requires.slot c.requires.count
    c.requires.height c.from-known.result c.from.result (c.from-known.ensures ∙ is_r) c.from.ensures
    (subst (λ (r : ℕ). AreRowsByNeed c.args.erased.now c.args.slot r c.rows_by_need-rows.result) is_r c.rows_by_need-rows.ensures)

pub returns-clause-kept : goal.returns-clause-kept
returns-clause-kept g c =
    let same = c.geometry.ensures in
    let is_r : c.r-r.result ≡ c.args.canon.now.geometry.r = c.r-r.ensures.value ∙ ap (λ x. x.r) same in
    keeps_chunk c.args.canon.now c.args.erased.now c.args.slot c.args.height c.rows_by_need-rows.result
    (subst IsWithinLimits same c.r-r.ensures.limits) (λ i has. (c.requires.cells i c.args.slot has).0) c.requires.slot c.requires.count
    c.requires.height c.from-known.result c.from.result (c.from-known.ensures ∙ is_r) c.from.ensures
    (subst (λ (r : ℕ). AreRowsByNeed c.args.erased.now c.args.slot r c.rows_by_need-rows.result) is_r c.rows_by_need-rows.ensures)
    c.from-2.result c.solve_chunk.new.self c.from-2.ensures c.solve_chunk.ensures.solved

pub returns-clause-found : goal.returns-clause-found
returns-clause-found g c =
    let same = c.geometry.ensures in
    let is_r : c.r-r.result ≡ c.args.canon.now.geometry.r = c.r-r.ensures.value ∙ ap (λ x. x.r) same in
    finds_chunk c.args.canon.now c.args.erased.now c.args.slot c.args.height c.rows_by_need-rows.result
    (subst IsWithinLimits same c.r-r.ensures.limits) (λ i has. (c.requires.cells i c.args.slot has).0) c.requires.slot c.requires.count
    c.requires.height c.from-known.result c.from.result (c.from-known.ensures ∙ is_r) c.from.ensures
    (subst (λ (r : ℕ). AreRowsByNeed c.args.erased.now c.args.slot r c.rows_by_need-rows.result) is_r c.rows_by_need-rows.ensures)
    c.from-2.result c.solve_chunk.new.self c.from-2.ensures c.solve_chunk.ensures.solved
