-- The walk begins, looks at a class, completes a row, and ends.
use Rattle.std.proofs.Common.{◌≡◌, ℕ, ◌+◌, ◌-◌, ◌*◌, ◌<◌, ap, subst, ◌∙◌, arith}
use Rattle.stair_model.specs.CellSet.{HasCell}
use Rattle.stair_model.specs.Geometry.{Geometry, IsWithinLimits, classes, coverage, data_chunks}
use Rattle.stair_model.specs.Stripe.{IsStripeOf, cell}
use Rattle.stair_canon.specs.Canonical.{symbol}
use Rattle.stair_canon.specs.Parities.{AreParities}
use Rattle.stair_down.specs.DownstairsSteps.{CompletesChunk, CompletesRow}
use Rattle.stair_down.proofs.Counting.{steps_to-start, steps_to-chunk, steps_to-skip, steps_to-row, steps_to-end}
use Rattle.stair_down.proofs.Target.{target_exists, encoded_at_end}
use Rattle.stair_down.proofs.Walk.{HasReached-load, HasReached-skip, HasReached-chunk, HasReached-row}
use Rattle.stair_down.proofs.downstairs.encode_downstairs.Goals as goal
use Rattle.stair_down.proofs.downstairs.encode_downstairs.Goals.{then-row-r, else-row-r}

pub loop-row-init : goal.loop-row-init
loop-row-init g c =
    let now = c.args.canon.now.geometry in
    let limits : IsWithinLimits now = subst IsWithinLimits c.geometry-geometry.ensures c.r-row-end.ensures.limits in
    record {
      geometry = c.load.ensures.loaded.geometry;
      reached = λ x target.
          HasReached-load c.args.stripe.now x c.args.canon.now c.load.new.self limits c.load.ensures.loaded target;
      cost = omega (arith, steps_to-start now);
    }

pub loop-class-preserved : goal.loop-class-preserved
loop-class-preserved g c =
    let now = c.args.canon.now.geometry in
    let same : c.geometry-geometry.result ≡ now = c.geometry-geometry.ensures in
    let limits : IsWithinLimits now = subst IsWithinLimits same c.r-row-end.ensures.limits in
    let row = c.loop-row.row in
    let class = c.loop-class.class in
    let kept = c.loop-class.invariant in
    let within : class < classes now = omega (arith, c.loop-class-test.true, c.classes-class-end.ensures.value, ap classes same) in
    let rows : c.r.result ≡ now.r = c.r.ensures.value ∙ ap (λ x. x.r) same in
    let covered : c.coverage.result ≡ coverage now class = c.coverage.ensures.value ∙ ap (λ x. coverage x class) same in
    elim c.if-row-r.branch [
      | then-row-r w ↦
          let begins : row ≡ now.r - coverage now class = omega (arith, w.if-row-r.true, rows, covered) in
          let completes : CompletesChunk now class c.loop-class.canon w.solve_intermediate_chunk.new.canon =
          subst (λ (x : Geometry). CompletesChunk x class c.loop-class.canon w.solve_intermediate_chunk.new.canon) kept.geometry
          w.solve_intermediate_chunk.ensures.completes in
          rw (w.canon-is, w.steps-is)
          (record {
            geometry = completes.geometry ∙ kept.geometry;
            reached = λ x target.
                HasReached-chunk now c.args.stripe.now x limits target c.loop-class.canon w.solve_intermediate_chunk.new.canon row class
                within begins completes (kept.reached x target);
            cost =
                omega (arith, w.solve_intermediate_chunk.ensures.cost, kept.cost, steps_to-chunk now row class begins, ap (λ x. x.r * coverage x class) kept.geometry);
          })
      | else-row-r w ↦
          let other : row ≡ now.r - coverage now class → ⊥ = λ begins. w.if-row-r.false (omega (arith, begins, rows, covered)) in
          rw (w.canon-is, w.steps-is)
          (record {
            geometry = kept.geometry;
            reached = λ x target.
                HasReached-skip now c.args.stripe.now x limits target c.loop-class.canon row class other (kept.reached x target);
            cost = omega (arith, kept.cost, steps_to-skip now row class other);
          })
    ]

pub loop-row-preserved : goal.loop-row-preserved
loop-row-preserved g c =
    let now = c.args.canon.now.geometry in
    let same : c.geometry-geometry.result ≡ now = c.geometry-geometry.ensures in
    let limits : IsWithinLimits now = subst IsWithinLimits same c.r-row-end.ensures.limits in
    let row = c.loop-row.row in
    let class = c.loop-class.class in
    let kept = c.loop-class.invariant in
    let within : row < now.r = omega (arith, c.loop-row-test.true, c.r-row-end.ensures.value, ap (λ x. x.r) same) in
    let all : classes now ≡ class =
    omega (arith, c.loop-class-test.false, c.loop-class.auto.class-end, c.classes-class-end.ensures.value, ap classes same) in
    let completes : CompletesRow now row c.loop-class.canon c.solve_row.new.canon =
    subst (λ (x : Geometry). CompletesRow x row c.loop-class.canon c.solve_row.new.canon) kept.geometry c.solve_row.ensures.completes in
    record {
      geometry = completes.geometry ∙ kept.geometry;
      reached = λ x target.
          HasReached-row now c.args.stripe.now x limits target c.loop-class.canon c.solve_row.new.canon row class within all completes
          (kept.reached x target);
      cost =
          omega (
            arith,
            c.solve_row.ensures.cost,
            kept.cost,
            steps_to-row now row class all,
            ap (λ x. data_chunks x * (x.m + classes x)) kept.geometry,
          );
    }

pub returns-clause-encoded : goal.returns-clause-encoded
returns-clause-encoded g c =
    let now = c.args.canon.now.geometry in
    let before = c.args.stripe.now in
    let after = c.store_cells.new.stripe in
    let limits : IsWithinLimits now = subst IsWithinLimits c.geometry-geometry.ensures c.r-row-end.ensures.limits in
    let kept = c.loop-row.invariant in
    let end : now.r ≡ c.loop-row.row =
    omega (
      arith,
      c.loop-row-test.false,
      c.loop-row.auto.row-end,
      c.r-row-end.ensures.value,
      ap (λ x. x.r) c.geometry-geometry.ensures,
    ) in
    let target = target_exists before c.args.canon.now c.load.new.self limits c.load.ensures.well_formed c.load.ensures.loaded in
    let parities = c.parities.result.now in
    encoded_at_end before after target.0 c.args.canon.now c.load.new.self c.loop-row.canon c.loop-row.row limits
    c.load.ensures.well_formed c.load.ensures.loaded target.1 end (kept.reached target.0 target.1) parities
    (subst (λ (x : Geometry). AreParities x parities) kept.geometry c.parities.ensures.cells)
    (subst (λ (x : Geometry). (i j : ℕ) → i < x.r → j < x.n → HasCell parities i j → cell after i j ≡ symbol c.loop-row.canon i j) kept.geometry
    c.store_cells.ensures.cells)
    (subst (λ (x : Geometry). (i j : ℕ) → i < x.r → j < x.n → ¬ HasCell parities i j → cell after i j ≡ cell before i j) kept.geometry
    c.store_cells.ensures.others)
    (subst (λ (x : Geometry). IsStripeOf x after) kept.geometry c.store_cells.ensures.shape) c.store_cells.ensures.well_formed

pub returns-clause-cost : goal.returns-clause-cost
returns-clause-cost g c =
    let now = c.args.canon.now.geometry in
    let limits : IsWithinLimits now = subst IsWithinLimits c.geometry-geometry.ensures c.r-row-end.ensures.limits in
    let end : now.r ≡ c.loop-row.row =
    omega (
      arith,
      c.loop-row-test.false,
      c.loop-row.auto.row-end,
      c.r-row-end.ensures.value,
      ap (λ x. x.r) c.geometry-geometry.ensures,
    ) in
    c.loop-row.invariant.cost ∙ ap (λ k. c.args.steps.now + k) (steps_to-end now c.loop-row.row limits end)
