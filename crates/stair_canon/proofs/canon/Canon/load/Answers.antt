-- A symbol more, a row more, and all of them.
use Rattle.std.proofs.Common.{◌≡◌, ◌<◌, ap, arith}
use Rattle.stair_model.specs.Canonical.{canonical_chunks, canonical_rows}
use Rattle.stair_canon.specs.Kept.{shown}
use Rattle.stair_canon.specs.Solving.{IsCell}
use Rattle.stair_canon.proofs.Loading.{HasLoaded-cell, HasLoaded-other, HasLoaded-turn, Loads-all, in_known, in_memory}
use Rattle.stair_canon.proofs.canon.Canon.load.Goals as goal
use Rattle.stair_canon.proofs.canon.Canon.load.Goals.{then-row-r+then-column-n, else-row-r, else-row-r-via-then-row-r+else-column-n, else-row-r-via-else-row-r}

pub put-requires-clause-symbol : goal.put-requires-clause-symbol
put-requires-clause-symbol c =
    let g = c.args.self.now.geometry in
    let same : canonical_chunks c.self.inside.geometry ≡ canonical_chunks g = ap (λ x. canonical_chunks x.geometry) c.self.view_is in
    let rows : canonical_rows c.self.inside.geometry ≡ canonical_rows g = ap (λ x. canonical_rows x.geometry) c.self.view_is in
    in_memory g c.args.stripe.now (shown c.loop-column.self-inside) c.loop-row.row c.loop-column.column c.loop-column.number
    c.loop-column.invariant.loaded (omega (arith, rows, c.loop-row-test.true, c.r.ensures.value, c.e_max.ensures.value))
    (omega (arith, same, c.loop-column-test.true, c.n.ensures.value, c.classes.ensures.value)) c.loop-column.invariant.place

pub put-requires-clause-mark : goal.put-requires-clause-mark
put-requires-clause-mark c =
    let g = c.args.self.now.geometry in
    let same : canonical_chunks c.self.inside.geometry ≡ canonical_chunks g = ap (λ x. canonical_chunks x.geometry) c.self.view_is in
    let rows : canonical_rows c.self.inside.geometry ≡ canonical_rows g = ap (λ x. canonical_rows x.geometry) c.self.view_is in
    in_known g c.args.stripe.now (shown c.loop-column.self-inside) c.loop-row.row c.loop-column.column c.loop-column.number
    c.loop-column.invariant.loaded (omega (arith, rows, c.loop-row-test.true, c.r.ensures.value, c.e_max.ensures.value))
    (omega (arith, same, c.loop-column-test.true, c.n.ensures.value, c.classes.ensures.value)) c.loop-column.invariant.place

pub forget-requires : goal.forget-requires
forget-requires c =
    let g = c.args.self.now.geometry in
    let same : canonical_chunks c.self.inside.geometry ≡ canonical_chunks g = ap (λ x. canonical_chunks x.geometry) c.self.view_is in
    let rows : canonical_rows c.self.inside.geometry ≡ canonical_rows g = ap (λ x. canonical_rows x.geometry) c.self.view_is in
    in_known g c.args.stripe.now (shown c.loop-column.self-inside) c.loop-row.row c.loop-column.column c.loop-column.number
    c.loop-column.invariant.loaded (omega (arith, rows, c.loop-row-test.true, c.r.ensures.value, c.e_max.ensures.value))
    (omega (arith, same, c.loop-column-test.true, c.n.ensures.value, c.classes.ensures.value)) c.loop-column.invariant.place

pub loop-column-preserved : goal.loop-column-preserved
loop-column-preserved c =
    let g = c.args.self.now.geometry in
    let same : canonical_chunks c.self.inside.geometry ≡ canonical_chunks g = ap (λ x. canonical_chunks x.geometry) c.self.view_is in
    let rows : canonical_rows c.self.inside.geometry ≡ canonical_rows g = ap (λ x. canonical_rows x.geometry) c.self.view_is in
    let here : c.loop-column.self-inside.geometry ≡ g = c.loop-column.invariant.loaded.geometry in
    let row_in : c.loop-row.row < canonical_rows g = omega (arith, rows, c.loop-row-test.true, c.r.ensures.value, c.e_max.ensures.value) in
    let column_in : c.loop-column.column < canonical_chunks g =
    omega (arith, same, c.loop-column-test.true, c.n.ensures.value, c.classes.ensures.value) in
    let kept = c.loop-column.invariant.kept in
    let before = shown c.loop-column.self-inside in
    let place = c.loop-column.invariant.place in
    elim c.if-row-r.branch [
      | then-row-r+then-column-n w ↦
          let is_cell : IsCell g c.loop-row.row c.loop-column.column = (
            omega (arith, w.if-row-r.true, c.r-in-loop-column.ensures.value, ap (λ x. x.r) here),
            omega (arith, w.if-column-n.true, w.n-then-row-r.ensures.value, ap (λ x. x.n) here),
          ) in
          let now =
          HasLoaded-cell g c.args.stripe.now before c.loop-row.row c.loop-column.column c.loop-column.number c.loop-column.invariant.loaded
          row_in column_in place w.cell.result.now is_cell w.cell.ensures.value w.cell.ensures.sector in
          rw (w.self-inside-is, w.put.ensures)
          (record {
            loaded = now;
            kept = record { formed = now.formed; row_codes = kept.row_codes; column_codes = kept.column_codes; parities = kept.parities; order = kept.order };
            place = omega (arith, place);
          })
      | else-row-r w ↦
          let no_cell : ¬ IsCell g c.loop-row.row c.loop-column.column =
          λ is_cell. elim w.else-row-r.branch [
            | else-row-r-via-then-row-r+else-column-n v ↦
                omega (arith, is_cell.1, v.if-column-n.false, v.n-then-row-r.ensures.value, ap (λ x. x.n) here)
            | else-row-r-via-else-row-r v ↦ omega (arith, is_cell.0, v.if-row-r.false, c.r-in-loop-column.ensures.value, ap (λ x. x.r) here)
          ] in
          let now =
          HasLoaded-other g c.args.stripe.now before c.loop-row.row c.loop-column.column c.loop-column.number c.loop-column.invariant.loaded
          row_in column_in place no_cell in
          rw (w.self-inside-is, w.forget.ensures)
          (record {
            loaded = now;
            kept = record { formed = now.formed; row_codes = kept.row_codes; column_codes = kept.column_codes; parities = kept.parities; order = kept.order };
            place = omega (arith, place);
          })
    ]

pub loop-row-preserved : goal.loop-row-preserved
loop-row-preserved c =
    let g = c.args.self.now.geometry in
    let same : canonical_chunks c.self.inside.geometry ≡ canonical_chunks g = ap (λ x. canonical_chunks x.geometry) c.self.view_is in
    let all : canonical_chunks g ≡ c.loop-column.column =
    omega (arith, same, c.loop-column-test.false, c.loop-column.auto.column-end, c.n.ensures.value, c.classes.ensures.value) in
    record {
      loaded =
          HasLoaded-turn g c.args.stripe.now (shown c.loop-column.self-inside) c.loop-row.row c.loop-column.column all c.loop-column.invariant.loaded;
      kept = c.loop-column.invariant.kept;
      place = omega (arith, all, c.loop-column.invariant.place);
    }

pub returns-clause-loaded : goal.returns-clause-loaded
returns-clause-loaded c =
    let same : canonical_rows c.self.inside.geometry ≡ canonical_rows c.args.self.now.geometry =
    ap (λ x. canonical_rows x.geometry) c.self.view_is in
    Loads-all c.args.stripe.now c.args.self.now (shown c.loop-row.self-inside) c.loop-row.row
    (omega (arith, same, c.loop-row-test.false, c.loop-row.auto.row-end, c.r.ensures.value, c.e_max.ensures.value))
    c.loop-row.invariant.loaded
