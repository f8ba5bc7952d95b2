-- Each turn sets the next block.
use Rattle.std.proofs.Common.{◌≡◌, ◌+◌, ◌%◌, [], slice_index_or, ◌∙◌, refl, sym, subst, arith}
use Rattle.stair_model.specs.Cell.{Data, cell_at}
use Rattle.stair_model.specs.Dependents.{IsUpdatedFrom}
use Rattle.stair_model.specs.Geometry.{Geometry, data_cells}
use Rattle.stair_array.proofs.SettingLemmas.{are_set, set_next}
use Rattle.stair_array.proofs.writing.set.Goals as goal

pub update-requires-clause-data : goal.update-requires-clause-data
update-requires-clause-data g c = (
  (c.args.first + c.loop-at.at) % data_cells c.args.geometry.now,
  subst (λ (h : Geometry). cell_at h c.place_of-place.result.row c.place_of-place.result.slot ≡ Data ((c.args.first + c.loop-at.at) % data_cells c.args.geometry.now))
      (sym c.loop-at.invariant.fits) c.place_of-place.ensures.place.at,
)

pub loop-at-preserved : goal.loop-at-preserved
loop-at-preserved g c =
    let d = (c.args.first + c.loop-at.at) % data_cells c.args.geometry.now in
    let place = c.place_of-place.ensures.place in
    let updated =
    subst (λ (h : Geometry). IsUpdatedFrom h d (slice_index_or c.args.from.now c.loop-at.at []) c.loop-at.stripe c.update.new.stripe) c.loop-at.invariant.fits
    (c.update.ensures.updated d
    (subst (λ (h : Geometry). cell_at h c.place_of-place.result.row c.place_of-place.result.slot ≡ Data d) (sym c.loop-at.invariant.fits) place.at)) in
    record {
      fits = c.update.ensures.same_shape ∙ c.loop-at.invariant.fits;
      of = updated.of;
      set = λ t cells of.
          set_next c.args.geometry.now t c.args.first cells c.args.stripe.now c.requires.limits c.args.from.now of c.loop-at.at _ _ _ _ c.loop-at.stripe
          c.update.new.stripe (omega (arith, c.loop-at-test.true)) refl place (c.loop-at.invariant.set t cells of) updated;
    }

pub returns-clause-set : goal.returns-clause-set
returns-clause-set g c t cells of =
    are_set c.args.geometry.now t c.args.first cells c.args.stripe.now c.requires.limits c.args.from.now of c.loop-at.at c.loop-at.stripe
    (omega (arith, c.loop-at-test.false)) c.requires.few (c.loop-at.invariant.set t cells of)
