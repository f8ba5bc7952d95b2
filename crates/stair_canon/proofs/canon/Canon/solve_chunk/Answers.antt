-- The line of the chunk is solved by the column code.
use Rattle.std.proofs.Common.{◌≡◌, ℕ, ◌<◌, sym, subst}
use Rattle.stair_model.specs.Canonical.{canonical_chunks, canonical_rows}
use Rattle.stair_model.specs.CauchyCode.{AreKnownPlaces}
use Rattle.stair_mds.specs.Solving.{AreWantedPlaces, along}
use Rattle.stair_canon.specs.Canonical.{CanonicalStripe, number}
use Rattle.stair_canon.specs.Kept.{shown}
use Rattle.stair_canon.specs.Solving.{SolvesChunk, column_shape}
use Rattle.stair_canon.proofs.Loading.{with_symbols}
use Rattle.stair_canon.proofs.Solved.{SolvesChunk-from, IsWellFormed-solved}
use Rattle.stair_canon.proofs.canon.Canon.solve_chunk.Goals as goal

pub returns-clause-solved : goal.returns-clause-solved
returns-clause-solved g c =
    let before = shown c.self.inside in
    let line = c.chunk-line.result in
    let known = c.args.known.now in
    let wanted = c.args.wanted.now in
    subst (λ (x : CanonicalStripe). SolvesChunk c.args.column known wanted x (with_symbols before c.solve.new.self)) c.self.view_is
    (SolvesChunk-from before c.solve.new.self c.self.inside.column_codes line c.args.column known wanted
    (subst (λ (x : CanonicalStripe). c.args.column < canonical_chunks x.geometry) (sym c.self.view_is) c.requires.column_in)
    c.self.invariant.column_codes
    (subst (λ (x : CanonicalStripe). (i : ℕ) → along line i ≡ number x.geometry i c.args.column) (sym c.self.view_is) c.chunk-line.ensures.along)
    (subst (λ (x : CanonicalStripe). AreKnownPlaces x.geometry.r (canonical_rows x.geometry) known) (sym c.self.view_is) c.requires.known)
    (subst (λ (x : CanonicalStripe). AreWantedPlaces (column_shape x.geometry) known wanted) (sym c.self.view_is) c.requires.wanted)
    c.solve.ensures.solved)

pub returns-clause-well_formed : goal.returns-clause-well_formed
returns-clause-well_formed g c =
    IsWellFormed-solved (shown c.self.inside) c.solve.new.self c.self.inside.column_codes c.chunk-line.result c.args.known.now
    c.args.wanted.now c.self.invariant.formed c.solve.ensures.sectors c.solve.ensures.solved
