-- A cell more, which is erased or not.
use Rattle.std.proofs.Common.{inl, inr, subst, arith}
use Rattle.stair_model.specs.CellSet.{HasCell}
use Rattle.stair_code_tests.proofs.encoders.damaged.Goals as goal
use Rattle.stair_code_tests.proofs.encoders.damaged.Goals.{then-bits-slot-eq1, else-bits-slot-eq1}

pub loop-slot-preserved : goal.loop-slot-preserved
loop-slot-preserved c =
    let of = c.loop-slot.invariant.0 in
    elim c.if-bits-slot-eq1.branch [
      | then-bits-slot-eq1 w ↦ (
        rw (w.stripe-is, w.put-then-bits-slot-eq1.ensures.value, c.put.ensures.value) (record { rows = of.rows; chunks = of.chunks }),
        λ i j has.
            elim ((w.add.ensures.members i j).0 (subst (λ s. HasCell s i j) w.erased-is has)) [
              | inl before ↦ c.loop-slot.invariant.1 i j before
              | inr here ↦ (
                omega (arith, here.0, c.r-row-end.ensures.value),
                omega (arith, here.1, c.n-slot-end.ensures.value),
              )
            ],
      )
      | else-bits-slot-eq1 w ↦ (
        rw (w.stripe-is, c.put.ensures.value) (record { rows = of.rows; chunks = of.chunks }),
        λ i j has. c.loop-slot.invariant.1 i j (subst (λ s. HasCell s i j) w.erased-is has),
      )
    ]
