-- The rows are found first and then the rest; what is found is stored, and all other cells are as they were.
use Rattle.std.proofs.Common.{◌≡◌, ℕ, ◌<◌, ◌∙◌, sym, subst, ap}
use Rattle.stair_model.specs.CellSet.{CellSet, HasCell, IsInStripe}
use Rattle.stair_model.specs.Coverage.{rest}
use Rattle.stair_model.specs.Geometry.{Geometry, IsWithinLimits}
use Rattle.stair_model.specs.Restoring.{SameHeld}
use Rattle.stair_model.specs.Stripe.{cell}
use Rattle.stair_canon.specs.Canonical.{symbol}
use Rattle.stair_canon.specs.Order.{IsOrderOf}
use Rattle.stair_model.proofs.RestLaws.{rest_inside, rest_within}
use Rattle.stair_up.proofs.Stripes.{FindsStripe-stored, FindsCells-rest, stored_all}
use Rattle.stair_up.proofs.solve.solve_rows_and_rest.Given.{Over}
use Rattle.stair_up.proofs.solve.solve_rows_and_rest.Goals as goal
use Rattle.stair_up.proofs.solve.solve_rows_and_rest.Goals.{After-rest}

same_loaded : (g : Over) (c : After-rest g) → c.solve_light_rows.new.canon.geometry ≡ c.args.canon.now.geometry
same_loaded g c = c.solve_light_rows.ensures.kept.geometry ∙ c.load.ensures.loaded.geometry

is_rest : (g : Over) (c : After-rest g) → c.rest.result ≡ rest c.args.canon.now.geometry c.args.erased.now
is_rest g c = c.rest.ensures.value ∙ ap (λ (x : Geometry). rest x c.args.erased.now) (c.geometry-geometry.ensures ∙ same_loaded g c)

pub new-order-requires : goal.new-order-requires
new-order-requires g c =
    let here = (goal.at.new-order-requires g c).After-rest in
    subst (λ (x : Geometry). IsInStripe x c.rest.result) (sym (c.geometry-geometry.ensures ∙ same_loaded g here))
    (subst (IsInStripe c.args.canon.now.geometry) (sym (is_rest g here)) (rest_inside c.args.canon.now.geometry c.args.erased.now c.requires.cells))

pub solve_loaded-requires-clause-order : goal.solve_loaded-requires-clause-order
solve_loaded-requires-clause-order g c =
    subst (λ (x : Geometry). IsOrderOf x c.new-order.result) c.geometry-geometry.ensures c.new-order.ensures.order

pub returns-clause-held : goal.returns-clause-held
returns-clause-held g c =
    let here = (goal.at.returns-clause-held g c).After-rest in
    subst (λ (x : Geometry). SameHeld x c.args.erased.now c.store_cells.new.stripe c.args.stripe.now)
    (c.solve_loaded.ensures.kept.geometry ∙ same_loaded g here) c.store_cells.ensures.others

pub returns-clause-found : goal.returns-clause-found
returns-clause-found g c =
    let here = (goal.at.returns-clause-found g c).After-rest in
    let loaded = c.load.ensures.loaded in
    let x = c.args.canon.now.geometry in
    let erased = c.args.erased.now in
    let new = c.solve_loaded.new.canon in
    let same = same_loaded g here in
    let are : c.new-order.result.erased ≡ rest x erased = c.new-order.ensures.erased ∙ is_rest g here in
    FindsStripe-stored erased c.args.stripe.now c.store_cells.new.stripe c.args.canon.now c.load.new.self new
    (subst IsWithinLimits same c.solve_loaded.ensures.limits) loaded
    (FindsCells-rest erased c.new-order.result.erased c.args.canon.now c.load.new.self c.solve_light_rows.new.canon new
    loaded.geometry same are c.solve_light_rows.ensures.found c.solve_loaded.ensures.found)
    (stored_all x erased c.args.stripe.now c.store_cells.new.stripe new
    (λ i j row chunk held.
    c.solve_loaded.ensures.kept.held i j (subst (λ (y : Geometry). i < y.r) (sym same) row) (subst (λ (y : Geometry). j < y.n) (sym same) chunk)
    (λ left. held (rest_within x erased i j (subst (λ (cells : CellSet). HasCell cells i j) are left)))
    ∙ c.solve_light_rows.ensures.kept.held i j (subst (λ (y : Geometry). i < y.r) (sym loaded.geometry) row)
    (subst (λ (y : Geometry). j < y.n) (sym loaded.geometry) chunk) held
    ∙ loaded.cells i j (row, chunk))
    (subst (λ (y : Geometry). (i j : ℕ) → i < y.r → j < y.n → HasCell erased i j → cell c.store_cells.new.stripe i j ≡ symbol new i j)
    (c.solve_loaded.ensures.kept.geometry ∙ same) c.store_cells.ensures.cells)
    (returns-clause-held g c))
