-- The cells were read, or the stripe was loaded.
use Rattle.std.proofs.Common.{refl, inr}
use Rattle.stair_rack.specs.Told.{told}
use Rattle.stair_rack.proofs.RackStateLemmas.{later_join}
use Rattle.stair_invariant.specs.Effects.{snapshot}
use Rattle.stair_array.proofs.PreparingLemmas.{both_few, by_stripe, cells_few, cells_known, cells_later, cells_stop, lacks_cell, lacks_slot, then_stripe}
use Rattle.stair_array.proofs.session.ArrayCore.prepare.Goals as goal

pub returns-then-not-lie_on-clause-does : goal.returns-then-not-lie_on-clause-does
returns-then-not-lie_on-clause-does g c =
    by_stripe c.args.self.now.member c.args.redo.now.stripe c.args.redo.now.cells c.live-live.result c.live-live.ensures (told g.R.Rack c.args.rack.now)
    (c.if-not-lie_on.ensures.lacking refl) c.load.new.self.stripe _ (snapshot c.load.new.self.member (told g.R.Rack c.load.new.rack)) c.load.ensures.does

pub returns-then-not-lie_on-clause-once : goal.returns-then-not-lie_on-clause-once
returns-then-not-lie_on-clause-once g c =
    inr
    (lacks_slot c.args.self.now.member c.args.redo.now.stripe c.args.redo.now.cells c.live-live.result c.live-live.ensures (told g.R.Rack c.args.rack.now)
    (c.if-not-lie_on.ensures.lacking refl) (told g.R.Rack c.load.new.rack))

pub returns-in_err-fence_if_any-clause-does : goal.returns-in_err-fence_if_any-clause-does
returns-in_err-fence_if_any-clause-does g c =
    cells_stop c.args.self.now.member c.args.redo.now.stripe c.args.redo.now.cells c.live-live.result c.live-live.ensures (told g.R.Rack c.args.rack.now)
    _ c.geometry-geometry.ensures.value _ _ _ _ c.gather_cells-gathered.ensures.does _ _
    (snapshot c.fence_if_any.new.self.member (told g.R.Rack c.fence_if_any.new.rack)) c.fence_if_any.new.self.stripe c.fence_if_any.ensures.stripe
    c.from_residual.ensures.1 c.in_err-fence_if_any.ensures.does

pub returns-in_err-fence_if_any-clause-reads : goal.returns-in_err-fence_if_any-clause-reads
returns-in_err-fence_if_any-clause-reads g c =
    cells_few c.args.self.now.member.array.geometry c.args.redo.now.cells c.geometry-geometry.ensures.rules.array.limits c.requires.redo.inside _ _ _
    c.fence_if_any.ensures.reads c.gather_cells-gathered.ensures.reads

pub returns-then-count-eq0-clause-does : goal.returns-then-count-eq0-clause-does
returns-then-count-eq0-clause-does g c =
    cells_known c.args.self.now.member c.args.redo.now.stripe c.args.redo.now.cells c.live-live.result c.live-live.ensures (told g.R.Rack c.args.rack.now)
    _ c.geometry-geometry.ensures.value _ _ _ _ c.gather_cells-gathered.ensures.does
    (snapshot c.fence_if_any.new.self.member (told g.R.Rack c.fence_if_any.new.rack)) c.in_ok-fence_if_any.ensures.does c.count.result c.count.ensures.value
    c.fence_if_any.new.self.stripe c.fence_if_any.ensures.stripe c.geometry-geometry.ensures.rules.array.limits c.requires.redo.inside c.if-count-eq0.true

pub returns-then-count-eq0-clause-reads : goal.returns-then-count-eq0-clause-reads
returns-then-count-eq0-clause-reads g c =
    cells_few c.args.self.now.member.array.geometry c.args.redo.now.cells c.geometry-geometry.ensures.rules.array.limits c.requires.redo.inside _ _ _
    c.fence_if_any.ensures.reads c.gather_cells-gathered.ensures.reads

pub returns-clause-does : goal.returns-clause-does
returns-clause-does g c =
    then_stripe c.args.self.now.member c.args.redo.now.stripe c.args.redo.now.cells c.live-live.result c.live-live.ensures (told g.R.Rack c.args.rack.now)
    _ c.geometry-geometry.ensures.value _ _ _ _ c.gather_cells-gathered.ensures.does
    (snapshot c.fence_if_any.new.self.member (told g.R.Rack c.fence_if_any.new.rack)) c.in_ok-fence_if_any.ensures.does c.count.result c.count.ensures.value
    c.if-count-eq0.false c.load-2.new.self.stripe _ (snapshot c.load-2.new.self.member (told g.R.Rack c.load-2.new.rack)) c.load-2.ensures.does

pub returns-clause-once : goal.returns-clause-once
returns-clause-once g c =
    inr
    (lacks_cell c.args.self.now.member c.args.redo.now.stripe c.args.redo.now.cells c.live-live.result c.live-live.ensures (told g.R.Rack c.args.rack.now)
    _ c.geometry-geometry.ensures.value _ _ _ _ c.gather_cells-gathered.ensures.does
    (snapshot c.fence_if_any.new.self.member (told g.R.Rack c.fence_if_any.new.rack)) c.in_ok-fence_if_any.ensures.does c.count.result c.count.ensures.value
    c.if-count-eq0.false c.load-2.new.self.stripe _ (snapshot c.load-2.new.self.member (told g.R.Rack c.load-2.new.rack)) c.load-2.ensures.does)

pub returns-clause-reads : goal.returns-clause-reads
returns-clause-reads g c =
    both_few c.args.self.now.member.array.geometry c.args.redo.now.cells c.geometry-geometry.ensures.rules.array.limits c.requires.redo.inside _ _ _ _
    c.fence_if_any.ensures.reads c.gather_cells-gathered.ensures.reads _ c.fence_if_any.ensures.geometry c.load-2.ensures.reads

pub returns-in_err-fence_if_any-clause-later : goal.returns-in_err-fence_if_any-clause-later
returns-in_err-fence_if_any-clause-later g c =
    cells_later c.args.self.now.member c.args.redo.now.stripe c.args.redo.now.cells c.live-live.result c.live-live.ensures (told g.R.Rack c.args.rack.now)
    _ c.geometry-geometry.ensures.value _ _ _ _ c.gather_cells-gathered.ensures.does _
    (snapshot c.fence_if_any.new.self.member (told g.R.Rack c.fence_if_any.new.rack)) c.in_err-fence_if_any.ensures.does

pub returns-then-count-eq0-clause-later : goal.returns-then-count-eq0-clause-later
returns-then-count-eq0-clause-later g c =
    cells_later c.args.self.now.member c.args.redo.now.stripe c.args.redo.now.cells c.live-live.result c.live-live.ensures (told g.R.Rack c.args.rack.now)
    _ c.geometry-geometry.ensures.value _ _ _ _ c.gather_cells-gathered.ensures.does _
    (snapshot c.fence_if_any.new.self.member (told g.R.Rack c.fence_if_any.new.rack)) c.in_ok-fence_if_any.ensures.does

pub returns-clause-later : goal.returns-clause-later
returns-clause-later g c =
    later_join
    (cells_later c.args.self.now.member c.args.redo.now.stripe c.args.redo.now.cells c.live-live.result c.live-live.ensures (told g.R.Rack c.args.rack.now)
    _ c.geometry-geometry.ensures.value _ _ _ _ c.gather_cells-gathered.ensures.does _
    (snapshot c.fence_if_any.new.self.member (told g.R.Rack c.fence_if_any.new.rack)) c.in_ok-fence_if_any.ensures.does)
    c.load-2.ensures.later
