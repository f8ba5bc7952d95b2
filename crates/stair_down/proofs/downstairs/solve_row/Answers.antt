-- The places of the row serve, and the row that is solved by them is completed.
use Rattle.std.proofs.Common.{◌≡◌, ℕ, ◌+◌, take, sym, ap, subst, subst₂, arith}
use Rattle.stair_model.specs.Canonical.{canonical_chunks}
use Rattle.stair_model.specs.CauchyCode.{AreKnownPlaces}
use Rattle.stair_model.specs.Geometry.{Geometry, classes, data_chunks}
use Rattle.stair_mds.specs.Solving.{AreWantedPlaces}
use Rattle.stair_canon.specs.Solving.{row_shape, SolvesRow}
use Rattle.stair_down.specs.Places.{ArePlacesOfRow}
use Rattle.stair_down.proofs.RowPlaces.{AreKnownPlaces-row, AreWantedPlaces-row, CompletesRow-from}
use Rattle.stair_down.proofs.downstairs.solve_row.Goals as goal

pub solve_row-requires-clause-known : goal.solve_row-requires-clause-known
solve_row-requires-clause-known g c =
    let now = c.args.canon.now.geometry in
    let same : c.geometry-geometry.result ≡ now = c.geometry-geometry.ensures in
    let known = c.row_places-places.result.known in
    let wanted = c.row_places-places.result.wanted in
    let places : ArePlacesOfRow now c.args.row known wanted =
    subst (λ (x : Geometry). ArePlacesOfRow x c.args.row known wanted) same c.row_places-places.ensures in
    let held : c.from-known.result ≡ data_chunks now =
    omega (arith, c.from-known.ensures, c.n.ensures.value, c.m.ensures.value, ap data_chunks same) in
    subst (λ (x : ℕ). AreKnownPlaces (data_chunks now) (canonical_chunks now) (take x known)) (sym held)
    (AreKnownPlaces-row now c.args.row known wanted places)

pub solve_row-requires-clause-wanted : goal.solve_row-requires-clause-wanted
solve_row-requires-clause-wanted g c =
    let now = c.args.canon.now.geometry in
    let same : c.geometry-geometry.result ≡ now = c.geometry-geometry.ensures in
    let known = c.row_places-places.result.known in
    let wanted = c.row_places-places.result.wanted in
    let places : ArePlacesOfRow now c.args.row known wanted =
    subst (λ (x : Geometry). ArePlacesOfRow x c.args.row known wanted) same c.row_places-places.ensures in
    let held : c.from-known.result ≡ data_chunks now =
    omega (arith, c.from-known.ensures, c.n.ensures.value, c.m.ensures.value, ap data_chunks same) in
    let more : c.from-wanted.result ≡ now.m + classes now =
    omega (arith, c.from-wanted.ensures, c.m-2.ensures.value, c.classes.ensures.value, ap (λ x. x.m + classes x) same) in
    subst₂ (λ (x y : ℕ). AreWantedPlaces (row_shape now) (take x known) (take y wanted)) (sym held) (sym more)
    (AreWantedPlaces-row now c.args.row known wanted places)

pub returns-clause-completes : goal.returns-clause-completes
returns-clause-completes g c =
    let old = c.args.canon.now in
    let now = old.geometry in
    let same : c.geometry-geometry.result ≡ now = c.geometry-geometry.ensures in
    let known = c.row_places-places.result.known in
    let wanted = c.row_places-places.result.wanted in
    let places : ArePlacesOfRow now c.args.row known wanted =
    subst (λ (x : Geometry). ArePlacesOfRow x c.args.row known wanted) same c.row_places-places.ensures in
    let held : c.from-known.result ≡ data_chunks now =
    omega (arith, c.from-known.ensures, c.n.ensures.value, c.m.ensures.value, ap data_chunks same) in
    let more : c.from-wanted.result ≡ now.m + classes now =
    omega (arith, c.from-wanted.ensures, c.m-2.ensures.value, c.classes.ensures.value, ap (λ x. x.m + classes x) same) in
    CompletesRow-from c.args.row known wanted old c.solve_row.new.self places
    (subst₂ (λ (x y : ℕ). SolvesRow c.args.row (take x known) (take y wanted) old c.solve_row.new.self) held more
    (subst (λ (x : ℕ). SolvesRow x (take c.from-known.result known) (take c.from-wanted.result wanted) old c.solve_row.new.self)
    c.from.ensures c.solve_row.ensures.solved))
