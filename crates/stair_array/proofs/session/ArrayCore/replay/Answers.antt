-- The gates that aren't open are opened, and then the redo goes on.
use Rattle.stair_rack.specs.Told.{told}
use Rattle.stair_invariant.specs.Effects.{snapshot}
use Rattle.stair_array.proofs.OutLemmas.{handed_on}
use Rattle.stair_array.proofs.RecoveryLemmas.{replay_goes, replay_stops}
use Rattle.stair_array.proofs.session.ArrayCore.replay.Goals as goal

pub returns-in_err-fence_if_any-clause-does : goal.returns-in_err-fence_if_any-clause-does
returns-in_err-fence_if_any-clause-does g c =
    replay_stops _ _ _ _ _ _ _ c.live.ensures c.difference-unopened.ensures.well_formed c.difference-unopened.ensures.members _ _
    (rw c.geometry-geometry.ensures.value at c.open_gates-gone.ensures.does) c.in_err-fence_if_any.field-0.0 _
    (snapshot c.fence_if_any.new.self.member (told g.R.Rack c.fence_if_any.new.rack)) (handed_on _ _ c.from_residual.ensures.1)
    c.in_err-fence_if_any.ensures.does

pub returns-clause-does : goal.returns-clause-does
returns-clause-does g c =
    replay_goes _ _ _ _ _ _ _ c.live.ensures c.difference-unopened.ensures.well_formed c.difference-unopened.ensures.members _ _
    (rw c.geometry-geometry.ensures.value at c.open_gates-gone.ensures.does) _
    (snapshot c.fence_if_any.new.self.member (told g.R.Rack c.fence_if_any.new.rack))
    (snapshot c.finish.new.self.member (told g.R.Rack c.finish.new.rack)) _ _ c.fence_if_any.ensures.geometry c.fence_if_any.ensures.stripe
    c.in_ok-fence_if_any.ensures.does c.finish.ensures.does
