-- There is room for all coefficients and places of a pattern, and one wanted place more.
use Rattle.std.proofs.Common.{◌≡◌, ℕ, ◌+◌, ◌-◌, ◌*◌, ◌≤◌, length, slice_index, sym, subst, ap, ◌∙◌, arith}
use Rattle.std.specs.Prelude.{vec_len}
use Rattle.std.specs.Vec.{vec_capacity}
use Rattle.stair_mds.specs.declared.mds.Mds.TheInside.{Inside}
use Rattle.stair_mds.proofs.Pattern.{HasCoefficients-more, coefficients_fit}
use Rattle.stair_mds.proofs.Room.{places_few}
use Rattle.stair_mds.proofs.mds.Mds.prepare.Goals as goal

pub push_coefficients-requires-clause-room : goal.push_coefficients-requires-clause-room
push_coefficients-requires-clause-room c =
    let inside = c.self.inside in
    let held : inside.held ≡ length c.args.known.now = ap (λ s. s.shape.held) c.self.view_is ∙ sym c.requires.known.count in
    let total : vec_len inside.weights ≡ c.args.self.now.shape.total = ap (λ s. s.shape.total) c.self.view_is in
    let few = places_few c.args.self.now.shape c.args.known.now c.args.wanted.now c.requires.known c.requires.wanted in
    let fits =
    coefficients_fit c.loop-place.place-index (length c.args.wanted.now) (vec_len inside.weights - inside.held)
    (length c.args.known.now) (vec_capacity inside.coefficients) c.loop-place-test.true
    (omega (arith, held, total, few, c.requires.known.count))
    (subst (λ (h : ℕ). (vec_len inside.weights - inside.held) * h ≤ vec_capacity inside.coefficients) held
    c.self.invariant.room.coefficients) in
    omega (
      arith,
      fits,
      c.loop-place.invariant.so_far.many,
      c.loop-place.self-inside.coefficients.ok.0,
      c.loop-place.invariant.room,
      c.clear.ensures.capacity,
    )

pub push_coefficients-requires-clause-unknown : goal.push_coefficients-requires-clause-unknown
push_coefficients-requires-clause-unknown c = c.requires.wanted.unknown c.loop-place.place-index 0 c.loop-place-test.true

pub loop-place-preserved : goal.loop-place-preserved
loop-place-preserved c =
    let coefficients = c.push_coefficients.new.coefficients in
    let before = c.loop-place.self-inside.coefficients in
    let same : vec_len before ≡ length before.items = before.ok.0 in
    record {
      stays = ap (λ (x : Inside). record x { coefficients = coefficients }) c.loop-place.invariant.stays;
      so_far =
          HasCoefficients-more (length c.args.known.now) c.args.known.now c.args.wanted.now before.items coefficients.items
          c.loop-place.place-index c.loop-place.invariant.so_far
          (omega (arith, same, coefficients.ok.0, c.push_coefficients.ensures.count))
          (λ k below. c.push_coefficients.ensures.kept k (omega (arith, same)))
          (λ i below. ap (λ n. slice_index coefficients.items (n + i)) (sym same) ∙ c.push_coefficients.ensures.added i below);
      room = omega (arith, c.loop-place.invariant.room, c.push_coefficients.ensures.capacity);
    }

pub replace-requires-2 : goal.replace-requires-2
replace-requires-2 c =
    let inside = c.self.inside in
    let held : inside.held ≡ length c.args.known.now = ap (λ s. s.shape.held) c.self.view_is ∙ sym c.requires.known.count in
    let total : vec_len inside.weights ≡ c.args.self.now.shape.total = ap (λ s. s.shape.total) c.self.view_is in
    let few = places_few c.args.self.now.shape c.args.known.now c.args.wanted.now c.requires.known c.requires.wanted in
    let same : vec_capacity c.loop-place.self-inside.wanted ≡ vec_capacity inside.wanted =
    ap (λ (x : Inside). vec_capacity x.wanted) c.loop-place.invariant.stays in
    omega (arith, held, total, few, same, c.requires.known.count, inside.weights.ok.0, c.self.invariant.room.wanted)
