-- The cells that were found are those of each codeword with the held cells.
use Rattle.stair_up.proofs.Restored.{IsRestored-from}
use Rattle.stair_up.proofs.decode.decode_upstairs.Goals as goal

pub returns-clause-restored : goal.returns-clause-restored
returns-clause-restored c =
    IsRestored-from c.args.canon.now.geometry c.args.erased.now c.args.stripe.now c.solve_uncounted.new.stripe c.solve_uncounted.ensures.limits
    c.solve_uncounted.ensures.shape c.solve_uncounted.ensures.well_formed c.solve_uncounted.ensures.found
