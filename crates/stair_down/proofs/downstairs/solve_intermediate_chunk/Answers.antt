-- The places of the chunk serve, and the chunk that is solved by them is completed.
use Rattle.std.proofs.Common.{◌≡◌, ℕ, take, sym, ap, subst, subst₂, ◌∙◌, arith}
use Rattle.stair_model.specs.Canonical.{canonical_rows}
use Rattle.stair_model.specs.CauchyCode.{AreKnownPlaces}
use Rattle.stair_model.specs.Geometry.{Geometry, coverage}
use Rattle.stair_mds.specs.Solving.{AreWantedPlaces}
use Rattle.stair_canon.specs.Solving.{column_shape, SolvesChunk}
use Rattle.stair_down.specs.Places.{ArePlacesOfChunk}
use Rattle.stair_down.proofs.ChunkPlaces.{AreKnownPlaces-chunk, AreWantedPlaces-chunk, CompletesChunk-from}
use Rattle.stair_down.proofs.downstairs.solve_intermediate_chunk.Goals as goal

pub solve_chunk-requires-clause-known : goal.solve_chunk-requires-clause-known
solve_chunk-requires-clause-known g c =
    let now = c.args.canon.now.geometry in
    let same : c.geometry-geometry.result ≡ now = c.geometry-geometry.ensures in
    let known = c.chunk_places-places.result.known in
    let wanted = c.chunk_places-places.result.wanted in
    let places : ArePlacesOfChunk now c.args.class known wanted =
    subst (λ (x : Geometry). ArePlacesOfChunk x c.args.class known wanted) same c.chunk_places-places.ensures in
    let held : c.from-known.result ≡ now.r = c.from-known.ensures ∙ c.r.ensures.value ∙ ap (λ x. x.r) same in
    subst (λ (x : ℕ). AreKnownPlaces now.r (canonical_rows now) (take x known)) (sym held)
    (AreKnownPlaces-chunk now c.args.class c.requires known wanted places)

pub solve_chunk-requires-clause-wanted : goal.solve_chunk-requires-clause-wanted
solve_chunk-requires-clause-wanted g c =
    let now = c.args.canon.now.geometry in
    let same : c.geometry-geometry.result ≡ now = c.geometry-geometry.ensures in
    let known = c.chunk_places-places.result.known in
    let wanted = c.chunk_places-places.result.wanted in
    let places : ArePlacesOfChunk now c.args.class known wanted =
    subst (λ (x : Geometry). ArePlacesOfChunk x c.args.class known wanted) same c.chunk_places-places.ensures in
    let held : c.from-known.result ≡ now.r = c.from-known.ensures ∙ c.r.ensures.value ∙ ap (λ x. x.r) same in
    let more : c.from-wanted.result ≡ coverage now c.args.class =
    c.from-wanted.ensures ∙ c.coverage.ensures.value ∙ ap (λ x. coverage x c.args.class) same in
    subst₂ (λ (x y : ℕ). AreWantedPlaces (column_shape now) (take x known) (take y wanted)) (sym held) (sym more)
    (AreWantedPlaces-chunk now c.args.class c.requires known wanted places)

pub returns-clause-completes : goal.returns-clause-completes
returns-clause-completes g c =
    let old = c.args.canon.now in
    let now = old.geometry in
    let new = c.solve_chunk.new.self in
    let same : c.geometry-geometry.result ≡ now = c.geometry-geometry.ensures in
    let known = c.chunk_places-places.result.known in
    let wanted = c.chunk_places-places.result.wanted in
    let places : ArePlacesOfChunk now c.args.class known wanted =
    subst (λ (x : Geometry). ArePlacesOfChunk x c.args.class known wanted) same c.chunk_places-places.ensures in
    let held : c.from-known.result ≡ now.r = c.from-known.ensures ∙ c.r.ensures.value ∙ ap (λ x. x.r) same in
    let more : c.from-wanted.result ≡ coverage now c.args.class =
    c.from-wanted.ensures ∙ c.coverage.ensures.value ∙ ap (λ x. coverage x c.args.class) same in
    CompletesChunk-from c.args.class c.from.result known wanted old new c.requires
    (omega (arith, c.from.ensures, c.n.ensures.value, ap (λ x. x.n) same)) places
    (subst₂ (λ (x y : ℕ). SolvesChunk c.from.result (take x known) (take y wanted) old new) held more c.solve_chunk.ensures.solved)
