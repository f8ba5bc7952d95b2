-- One part more, by distances that aren't 0.
use Rattle.std.proofs.Common.{◌≡◌, length, set, slice_index, ap, ap₂, ◌∙◌, arith}
use Rattle.std.proofs.lemmas.List.{get_or-set_same, get_or-set_other, length-set}
use borrow.Author.Count.{below_more}
use Rattle.stair_model.specs.Field.{product, inverse}
use Rattle.stair_mds.specs.Lagrange.{weight, known_part}
use Rattle.stair_mds.proofs.Formula.{own_distance-pos}
use Rattle.stair_mds.proofs.coefficients.known_parts.Goals as goal

pub inv-requires : goal.inv-requires
inv-requires c =
    rw c.distances-apart.ensures
    (own_distance-pos (length c.args.known.now) (length c.args.weights.now) c.args.known.now c.loop-i.i
    c.requires.weights.bytes c.requires.known c.loop-i-test.true)

pub loop-i-preserved : goal.loop-i-preserved
unfolding known_part
loop-i-preserved c =
    let known = c.args.known.now in
    let parts = c.loop-i.parts in
    let i = c.loop-i.i in
    let weight_is : slice_index c.args.weights.now c.from.result ≡ weight (length known) (slice_index known i) =
    ap (slice_index c.args.weights.now) c.from.ensures
    ∙ c.requires.weights.each (slice_index known i) (c.requires.known.below i 0 c.loop-i-test.true) in
    record {
      long = length-set parts i c.mul.result ∙ c.loop-i.invariant.long;
      so_far =
          below_more (λ k. slice_index (set parts i c.mul.result) k ≡ known_part (length known) known k) i
          (λ k earlier. get_or-set_other parts i k c.mul.result 0 (λ same. omega arith) ∙ c.loop-i.invariant.so_far k earlier)
          (get_or-set_same parts i c.mul.result 0 (omega (arith, c.loop-i.invariant.long, c.requires.few))
          ∙ c.mul.ensures ∙ ap₂ product weight_is (c.inv.ensures ∙ ap inverse c.distances-apart.ensures));
    }
