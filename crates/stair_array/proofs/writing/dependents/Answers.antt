-- The dependents of the next block are added.
use Rattle.std.proofs.Common.{◌≡◌, ◌+◌, ◌%◌, sym, subst}
use Rattle.stair_model.specs.Cell.{Data, cell_at}
use Rattle.stair_model.specs.Dependents.{AreDependents}
use Rattle.stair_model.specs.Geometry.{Geometry, data_cells}
use Rattle.stair_array.proofs.ChangingLemmas.{members_more}
use Rattle.stair_array.proofs.writing.dependents.Goals as goal

pub dependents-requires-clause-data : goal.dependents-requires-clause-data
dependents-requires-clause-data g c = (
  (c.args.first + c.loop-at.at) % data_cells c.args.geometry.now,
  subst (λ (h : Geometry). cell_at h c.place_of-place.result.row c.place_of-place.result.slot ≡ Data ((c.args.first + c.loop-at.at) % data_cells c.args.geometry.now))
      (sym c.requires.fits) c.place_of-place.ensures.place.at,
)

pub loop-at-preserved : goal.loop-at-preserved
loop-at-preserved g c =
    let d = (c.args.first + c.loop-at.at) % data_cells c.args.geometry.now in
    let place = c.place_of-place.ensures.place in
    record {
      formed = c.union-cells.ensures.well_formed;
      members =
          members_more c.args.geometry.now c.args.first c.loop-at.at c.place_of-place.result.stripe c.place_of-place.result.row
          c.place_of-place.result.slot place c.loop-at.cells c.dependents.result c.union-cells.result c.loop-at.invariant.members
          (subst (λ (h : Geometry). AreDependents h d c.dependents.result) c.requires.fits
          (c.dependents.ensures.dependents d
          (subst (λ (h : Geometry). cell_at h c.place_of-place.result.row c.place_of-place.result.slot ≡ Data d) (sym c.requires.fits) place.at)))
          c.union-cells.ensures.members;
    }
