-- The redo has cell (0, 0), and all its cells lie in two rows of four.
use Rattle.std.proofs.Common.{refl, inl, inr, arith}
use Rattle.stair_disk_tests.proofs.stripes.redo_of.Goals as goal

pub returns : goal.returns
returns c =
    let added = c.add.ensures in
    record {
      stripe_in = omega arith;
      formed = added.well_formed;
      inside = λ i j has.
          elim ((added.members i j).0 has) [
            | inl before ↦
                let lies = c.cells-redone.ensures.inside i j before in
                (omega (arith, lies.0), omega (arith, lies.1))
            | inr is ↦ (omega (arith, is.0), omega (arith, is.1))
          ];
      row = 0;
      slot = 0;
      some = (added.members 0 0).1 (inr (refl, refl));
    }
