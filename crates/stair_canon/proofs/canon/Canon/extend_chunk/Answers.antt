-- The rows below r are known, and those from r on wanted.
use Rattle.std.proofs.Common.{◌≡◌, ap, subst, ◌∙◌}
use Rattle.stair_model.specs.Geometry.{IsWithinLimits, greatest_coverage}
use Rattle.stair_canon.proofs.Places.{number, first_rows, virtual_rows, rows_known, virtual_wanted, ExtendsChunk-from}
use Rattle.stair_canon.proofs.canon.Canon.extend_chunk.Goals as goal

pub solve_chunk-requires-clause-known : goal.solve_chunk-requires-clause-known
solve_chunk-requires-clause-known g c =
    let geometry = c.args.self.now.geometry in
    let same : c.self.inside.geometry ≡ geometry = ap (λ x. x.geometry) c.self.view_is in
    let limits : IsWithinLimits geometry = subst IsWithinLimits same c.r.ensures.limits in
    let r : c.from-r.result ≡ geometry.r = c.from-r.ensures ∙ c.r.ensures.value ∙ ap (λ x. x.r) same in
    let e : c.from-e_max.result ≡ greatest_coverage geometry = c.from-e_max.ensures ∙ c.e_max.ensures.value ∙ ap greatest_coverage same in
    rows_known geometry limits c.numbers_from-rows.result c.from-r.result c.from-e_max.result r e
    c.numbers_from-rows.ensures.count c.numbers_from-rows.ensures.each

pub solve_chunk-requires-clause-wanted : goal.solve_chunk-requires-clause-wanted
solve_chunk-requires-clause-wanted g c =
    let geometry = c.args.self.now.geometry in
    let same : c.self.inside.geometry ≡ geometry = ap (λ x. x.geometry) c.self.view_is in
    let limits : IsWithinLimits geometry = subst IsWithinLimits same c.r.ensures.limits in
    let r : c.from-r.result ≡ geometry.r = c.from-r.ensures ∙ c.r.ensures.value ∙ ap (λ x. x.r) same in
    let e : c.from-e_max.result ≡ greatest_coverage geometry = c.from-e_max.ensures ∙ c.e_max.ensures.value ∙ ap greatest_coverage same in
    virtual_wanted geometry limits c.numbers_from-rows.result c.from-r.result c.from-e_max.result r e
    c.numbers_from-rows.ensures.count c.numbers_from-rows.ensures.each

pub returns-clause-extended : goal.returns-clause-extended
returns-clause-extended g c =
    let geometry = c.args.self.now.geometry in
    let same : c.self.inside.geometry ≡ geometry = ap (λ x. x.geometry) c.self.view_is in
    let limits : IsWithinLimits geometry = subst IsWithinLimits same c.r.ensures.limits in
    let r : c.from-r.result ≡ geometry.r = c.from-r.ensures ∙ c.r.ensures.value ∙ ap (λ x. x.r) same in
    let e : c.from-e_max.result ≡ greatest_coverage geometry = c.from-e_max.ensures ∙ c.e_max.ensures.value ∙ ap greatest_coverage same in
    ExtendsChunk-from c.args.column c.numbers_from-rows.result _ _ c.args.self.now c.solve_chunk.new.self
    (number geometry limits c.numbers_from-rows.result c.from-r.result c.from-e_max.result r e
    c.numbers_from-rows.ensures.count c.numbers_from-rows.ensures.each)
    (first_rows geometry limits c.numbers_from-rows.result c.from-r.result c.from-e_max.result r e
    c.numbers_from-rows.ensures.count c.numbers_from-rows.ensures.each)
    (virtual_rows geometry limits c.numbers_from-rows.result c.from-r.result c.from-e_max.result r e
    c.numbers_from-rows.ensures.count c.numbers_from-rows.ensures.each)
    c.solve_chunk.ensures.solved
