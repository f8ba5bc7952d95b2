-- One coefficient more.
use Rattle.std.proofs.Common.{◌≡◌, ℕ, ◌+◌, length, slice_index, cond, sym, ap, ap₂, ◌∙◌, arith}
use Rattle.std.specs.Prelude.{vec_len}
use borrow.Author.Count.{below_more}
use Rattle.stair_model.specs.Field.{product}
use Rattle.stair_mds.specs.Lagrange.{solving}
use Rattle.stair_mds.proofs.Formula.{solving_by_parts}
use Rattle.stair_mds.proofs.coefficients.push_coefficients.Goals as goal

pub loop-i-preserved : goal.loop-i-preserved
loop-i-preserved c =
    let known = c.args.known.now in
    let before = c.loop-i.invariant in
    let i = c.loop-i.i in
    let start : ℕ = vec_len c.args.coefficients.now in
    let many : ℕ = vec_len c.loop-i.coefficients in
    let items = c.push.new.self.items in
    let ok = c.push.ensures.succeeds (omega (arith, before.count, before.capacity, c.requires.room, c.loop-i-test.true)) in
    let at_end : slice_index items many ≡ solving (length known) known i c.args.wanted =
    c.push.ensures.by_index.1 0 ok
    ∙ c.new.ensures ∙ c.mul-in-loop-i.ensures
    ∙ ap₂ product (c.mul.ensures ∙ ap₂ product (c.requires.parts i c.loop-i-test.true) c.requires.part) c.inv-between.ensures
    ∙ solving_by_parts (length known) 256 known i c.args.wanted (omega (arith, c.requires.few)) (omega arith)
    c.requires.known c.loop-i-test.true c.requires.wanted c.requires.unknown in
    record {
      count = c.push.ensures.len ∙ ap (λ b. cond b (many + 1) many) ok ∙ omega (arith, before.count);
      capacity = omega (arith, before.capacity, c.push.ensures.capacity);
      kept = λ k below. c.push.ensures.by_index.0 k 0 (omega (arith, before.count)) ∙ before.kept k below;
      added =
          below_more (λ k. slice_index items (start + k) ≡ solving (length known) known k c.args.wanted) i
          (λ k earlier. c.push.ensures.by_index.0 (start + k) 0 (omega (arith, before.count)) ∙ before.added k earlier)
          (ap (slice_index items) (sym before.count) ∙ at_end);
    }
