-- The stripe was gathered, slots that were gone were left out, and the stripe was restored.
use Rattle.std.proofs.Common.{refl}
use Rattle.std.proofs.lemmas.Bool.{false≢true}
use Rattle.stair_rack.specs.Told.{told}
use Rattle.stair_invariant.specs.Effects.{snapshot}
use Rattle.stair_array.proofs.ReadingLemmas.{load_later, load_lost, load_restores, load_stops}
use Rattle.stair_array.proofs.session.ArrayCore.load.Goals as goal

pub returns-in_err-fence_if_any-clause-does : goal.returns-in_err-fence_if_any-clause-does
returns-in_err-fence_if_any-clause-does g c =
    load_stops c.args.self.now.member _ c.geometry-geometry.ensures.value _ c.live-live.ensures _ _ _ _ _ _ c.gather-gathered.ensures.does
    (snapshot c.fence_if_any.new.self.member (told g.R.Rack c.fence_if_any.new.rack)) _ _ _ c.from_residual.ensures.1 c.in_err-fence_if_any.ensures.does

pub returns-in_err-fence_if_any-clause-later : goal.returns-in_err-fence_if_any-clause-later
returns-in_err-fence_if_any-clause-later g c =
    load_later c.args.self.now.member _ c.geometry-geometry.ensures.value _ c.live-live.ensures _ _ _ _ _ _ c.gather-gathered.ensures.does
    (snapshot c.fence_if_any.new.self.member (told g.R.Rack c.fence_if_any.new.rack)) _ c.in_err-fence_if_any.ensures.does

pub returns-in-Ok-clause-does : goal.returns-in-Ok-clause-does
returns-in-Ok-clause-does g c =
    load_restores c.args.self.now.member _ c.geometry-geometry.ensures.value _ c.live-live.ensures _ _ _ _ _ _ c.gather-gathered.ensures.does
    (snapshot c.fence_if_any.new.self.member (told g.R.Rack c.fence_if_any.new.rack)) c.in_ok-fence_if_any.ensures.does _ c.requires.fits _ _
    c.fence_if_any.ensures.stripe (c.in-Ok.ensures.covered.0 refl) c.in-Ok.ensures.held c.in-Ok.ensures.restored

pub returns-in-Ok-clause-later : goal.returns-in-Ok-clause-later
returns-in-Ok-clause-later g c =
    load_later c.args.self.now.member _ c.geometry-geometry.ensures.value _ c.live-live.ensures _ _ _ _ _ _ c.gather-gathered.ensures.does
    (snapshot c.fence_if_any.new.self.member (told g.R.Rack c.fence_if_any.new.rack)) _ c.in_ok-fence_if_any.ensures.does

pub returns-in-Err-clause-does : goal.returns-in-Err-clause-does
returns-in-Err-clause-does g c =
    load_lost c.args.self.now.member _ c.geometry-geometry.ensures.value _ c.live-live.ensures _ _ _ _ _ _ c.gather-gathered.ensures.does
    (snapshot c.fence_if_any.new.self.member (told g.R.Rack c.fence_if_any.new.rack)) c.in_ok-fence_if_any.ensures.does _ c.requires.fits _ _
    (λ covered. false≢true (c.in-Err.ensures.covered.1 covered)) c.counts.ensures.value

pub returns-in-Err-clause-later : goal.returns-in-Err-clause-later
returns-in-Err-clause-later g c =
    load_later c.args.self.now.member _ c.geometry-geometry.ensures.value _ c.live-live.ensures _ _ _ _ _ _ c.gather-gathered.ensures.does
    (snapshot c.fence_if_any.new.self.member (told g.R.Rack c.fence_if_any.new.rack)) _ c.in_ok-fence_if_any.ensures.does
