-- Its erased cells are covered, so it is restored. Where none is erased, it is as it was.
use Rattle.std.proofs.Common.{refl, subst, sym}
use Rattle.std.specs.Prelude.{IsOk}
use Rattle.stair_model.specs.Coverage.{IsCovered}
use Rattle.stair_model.specs.Geometry.{Geometry}
use Rattle.stair_model.specs.Restoring.{IsRestored, SameHeld}
use Rattle.stair_c.proofs.ErasedLemmas.{covered_set}
use Rattle.stair_c.proofs.RestoreLemmas.{when_ok, whole_restored}
use Rattle.stair_c.proofs.restore.restore_stripe.Goals as goal

pub returns-then-is_whole-clause-restored : goal.returns-then-is_whole-clause-restored
returns-then-is_whole-clause-restored c = record {
  cells = c.erased_cells-cells.result;
  before = c.load.new.into;
  after = c.load.new.into;
  are = c.erased_cells-cells.ensures;
  was = c.load.ensures;
  is = c.load.ensures;
  covered =
      covered_set c.args.geometry.now c.args.count c.args.erased.now c.args.number c.erased_cells-cells.result c.erased_cells-cells.ensures c.requires.covered;
  held = λ i j row slot held. refl;
  restored = whole_restored c.args.geometry.now c.erased_cells-cells.result c.load.new.into c.load.ensures.of c.load.ensures.formed
      (c.is_whole.ensures c.if-is_whole.true);
}

pub returns-clause-restored : goal.returns-clause-restored
returns-clause-restored c =
    let covered : IsCovered c.args.geometry.now c.erased_cells-cells.result =
    covered_set c.args.geometry.now c.args.count c.args.erased.now c.args.number c.erased_cells-cells.result c.erased_cells-cells.ensures c.requires.covered in
    let ok : IsOk c.decode_upstairs.result =
    c.decode_upstairs.ensures.covered.1 (subst (λ (g : Geometry). IsCovered g c.erased_cells-cells.result) (sym c.requires.fits) covered) in
    record {
      cells = c.erased_cells-cells.result;
      before = c.load.new.into;
      after = c.decode_upstairs.new.stripe;
      are = c.erased_cells-cells.ensures;
      was = c.load.ensures;
      is = c.store_cells.ensures.stored;
      covered = covered;
      held = subst (λ (g : Geometry). SameHeld g c.erased_cells-cells.result c.decode_upstairs.new.stripe c.load.new.into) c.requires.fits c.decode_upstairs.ensures.held;
      restored = subst (λ (g : Geometry). IsRestored g c.erased_cells-cells.result c.load.new.into c.decode_upstairs.new.stripe) c.requires.fits
          (when_ok c.decode_upstairs.result ok c.decode_upstairs.ensures.restored);
    }
