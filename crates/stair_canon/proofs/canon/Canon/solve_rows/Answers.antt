-- One row more, and all of them.
use Rattle.std.proofs.Common.{◌≡◌, ℕ, ◌<◌, length, slice_index, sym, subst, arith}
use Rattle.stair_model.specs.Canonical.{canonical_chunks, canonical_rows}
use Rattle.stair_model.specs.CauchyCode.{AreKnownPlaces}
use Rattle.stair_model.specs.Geometry.{Geometry, data_chunks}
use Rattle.stair_mds.specs.Solving.{AreWantedPlaces}
use Rattle.stair_canon.specs.Solving.{row_shape}
use Rattle.stair_canon.proofs.SolvedRows.{HasSolvedRows, HasSolvedRows-none, HasSolvedRows-more, SolvesRows-all}
use Rattle.stair_canon.proofs.canon.Canon.solve_rows.Goals as goal

pub loop-row-init : goal.loop-row-init
loop-row-init g c = record { solved = HasSolvedRows-none c.args.rows.now c.args.known.now c.args.wanted.now c.args.self.now; cost = omega arith }

pub solve_row-requires-clause-row_in : goal.solve_row-requires-clause-row_in
solve_row-requires-clause-row_in g c =
    subst (λ (x : Geometry). slice_index c.args.rows.now c.loop-row.row-index < canonical_rows x)
    (sym c.loop-row.invariant.solved.geometry) (c.requires.rows_in c.loop-row.row-index 0 c.loop-row-test.true)

pub solve_row-requires-clause-known : goal.solve_row-requires-clause-known
solve_row-requires-clause-known g c =
    subst (λ (x : Geometry). AreKnownPlaces (data_chunks x) (canonical_chunks x) c.args.known.now)
    (sym c.loop-row.invariant.solved.geometry) c.requires.known

pub solve_row-requires-clause-wanted : goal.solve_row-requires-clause-wanted
solve_row-requires-clause-wanted g c =
    subst (λ (x : Geometry). AreWantedPlaces (row_shape x) c.args.known.now c.args.wanted.now)
    (sym c.loop-row.invariant.solved.geometry) c.requires.wanted

pub loop-row-preserved : goal.loop-row-preserved
loop-row-preserved g c = record {
  solved =
      HasSolvedRows-more c.args.rows.now c.args.known.now c.args.wanted.now c.args.self.now c.loop-row.self c.solve_row.new.self
      c.loop-row.row-index c.requires.distinct c.loop-row-test.true c.loop-row.invariant.solved c.solve_row.ensures.solved;
  cost = grind (arith, c.solve_row.ensures.cost, c.loop-row.invariant.cost);
}

pub returns-clause-solved : goal.returns-clause-solved
returns-clause-solved g c =
    let all : c.loop-row.row-index ≡ length c.args.rows.now = omega (arith, c.loop-row-test.false, c.loop-row.auto.row-index-end) in
    SolvesRows-all c.args.rows.now c.args.known.now c.args.wanted.now c.args.self.now c.loop-row.self
    (subst (λ (k : ℕ). HasSolvedRows c.args.rows.now c.args.known.now c.args.wanted.now c.args.self.now c.loop-row.self k) all
    c.loop-row.invariant.solved)
