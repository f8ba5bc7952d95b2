-- Where some slot was gone an epoch is established without them.
use Rattle.std.proofs.Common.{refl}
use Rattle.std.specs.Prelude.{Err, Ok}
use Rattle.stair_rack.specs.Told.{told}
use Rattle.stair_array.proofs.OutLemmas.{handed_on, none_leaves, some_leave}
use Rattle.stair_array.proofs.session.ArrayCore.fence_if_any.Goals as goal

pub returns-then-count-eq0-clause-does : goal.returns-then-count-eq0-clause-does
returns-then-count-eq0-clause-does g c =
    none_leaves _ _ c.count.ensures.value c.args.self.now.member c.args.self.now.member (told g.R.Rack c.args.rack.now) (told g.R.Rack c.args.rack.now) c.if-count-eq0.true c.count.ensures.well_formed

pub returns-in_err-establish-clause-does : goal.returns-in_err-establish-clause-does
returns-in_err-establish-clause-does g c =
    some_leave _ _ c.count.ensures.value _ _ _ _ c.if-count-eq0.false (Err c.in_err-establish.field-0.0) _
    (handed_on _ _ c.from_residual.ensures.1) c.in_err-establish.ensures.does

pub returns-clause-does : goal.returns-clause-does
returns-clause-does g c =
    some_leave _ _ c.count.ensures.value _ _ _ _ c.if-count-eq0.false (Ok c.in_ok-establish.field-0) _ refl c.in_ok-establish.ensures.does
