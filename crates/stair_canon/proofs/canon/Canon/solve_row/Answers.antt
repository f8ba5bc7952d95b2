-- The line of the row is solved by the row code.
use Rattle.std.proofs.Common.{◌≡◌, ℕ, sym, subst}
use Rattle.stair_model.specs.Canonical.{canonical_chunks}
use Rattle.stair_model.specs.CauchyCode.{AreKnownPlaces}
use Rattle.stair_model.specs.Geometry.{data_chunks}
use Rattle.stair_mds.specs.Solving.{AreWantedPlaces, along}
use Rattle.stair_canon.specs.Canonical.{CanonicalStripe, number}
use Rattle.stair_canon.specs.Kept.{shown}
use Rattle.stair_canon.specs.Solving.{SolvesRow, row_shape}
use Rattle.stair_canon.proofs.Loading.{with_symbols}
use Rattle.stair_canon.proofs.Solved.{SolvesRow-from, IsWellFormed-solved}
use Rattle.stair_canon.proofs.canon.Canon.solve_row.Goals as goal

pub returns-clause-solved : goal.returns-clause-solved
returns-clause-solved g c =
    let before = shown c.self.inside in
    let line = c.row-line.result in
    let known = c.args.known.now in
    let wanted = c.args.wanted.now in
    subst (λ (x : CanonicalStripe). SolvesRow c.args.row known wanted x (with_symbols before c.solve.new.self)) c.self.view_is
    (SolvesRow-from before c.solve.new.self c.self.inside.row_codes line c.args.row known wanted c.self.invariant.row_codes
    (subst (λ (x : CanonicalStripe). (j : ℕ) → along line j ≡ number x.geometry c.args.row j) (sym c.self.view_is) c.row-line.ensures.along)
    (subst (λ (x : CanonicalStripe). AreKnownPlaces (data_chunks x.geometry) (canonical_chunks x.geometry) known) (sym c.self.view_is) c.requires.known)
    (subst (λ (x : CanonicalStripe). AreWantedPlaces (row_shape x.geometry) known wanted) (sym c.self.view_is) c.requires.wanted)
    c.solve.ensures.solved)

pub returns-clause-well_formed : goal.returns-clause-well_formed
returns-clause-well_formed g c =
    IsWellFormed-solved (shown c.self.inside) c.solve.new.self c.self.inside.row_codes c.row-line.result c.args.known.now c.args.wanted.now
    c.self.invariant.formed c.solve.ensures.sectors c.solve.ensures.solved
