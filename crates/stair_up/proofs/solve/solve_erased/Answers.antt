-- What is found is stored, and all other cells are as they were.
use Rattle.std.proofs.Common.{◌≡◌, ℕ, ◌<◌, ◌∙◌, sym, subst}
use Rattle.stair_model.specs.CellSet.{HasCell}
use Rattle.stair_model.specs.Geometry.{Geometry, IsWithinLimits}
use Rattle.stair_model.specs.Restoring.{SameHeld}
use Rattle.stair_model.specs.Stripe.{cell}
use Rattle.stair_canon.specs.Canonical.{symbol}
use Rattle.stair_up.proofs.Stripes.{FindsStripe-stored, FindsCells-same, stored_all}
use Rattle.stair_up.proofs.solve.solve_erased.Goals as goal

pub returns-clause-held : goal.returns-clause-held
returns-clause-held g c =
    subst (λ (x : Geometry). SameHeld x c.args.order.now.erased c.store_cells.new.stripe c.args.stripe.now)
    (c.solve_loaded.ensures.kept.geometry ∙ c.load.ensures.loaded.geometry) c.store_cells.ensures.others

pub returns-clause-found : goal.returns-clause-found
returns-clause-found g c =
    let loaded = c.load.ensures.loaded in
    let x = c.args.canon.now.geometry in
    let erased = c.args.order.now.erased in
    let new = c.solve_loaded.new.canon in
    let same = c.solve_loaded.ensures.kept.geometry ∙ loaded.geometry in
    FindsStripe-stored erased c.args.stripe.now c.store_cells.new.stripe c.args.canon.now c.load.new.self new
    (subst IsWithinLimits loaded.geometry c.solve_loaded.ensures.limits) loaded
    (FindsCells-same erased c.args.canon.now c.load.new.self new loaded.geometry c.solve_loaded.ensures.found)
    (stored_all x erased c.args.stripe.now c.store_cells.new.stripe new
    (λ i j row chunk held.
    c.solve_loaded.ensures.kept.held i j (subst (λ (y : Geometry). i < y.r) (sym loaded.geometry) row)
    (subst (λ (y : Geometry). j < y.n) (sym loaded.geometry) chunk) held
    ∙ loaded.cells i j (row, chunk))
    (subst (λ (y : Geometry). (i j : ℕ) → i < y.r → j < y.n → HasCell erased i j → cell c.store_cells.new.stripe i j ≡ symbol new i j) same
    c.store_cells.ensures.cells)
    (returns-clause-held g c))
