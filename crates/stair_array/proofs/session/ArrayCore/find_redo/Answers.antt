-- In each round but the last a live slot was gone, and isn't live in the next.
use Rattle.stair_rack.specs.Told.{told}
use Rattle.stair_invariant.specs.Effects.{snapshot}
use Rattle.std.proofs.Common.{◌∙◌, sym}
use Rattle.stair_array.proofs.OutLemmas.{counts_none, counts_some}
use Rattle.stair_array.proofs.RecoveryLemmas.{gates_again, gates_fewer, gates_found, gates_redo, gates_refused, told_of_fault}
use Rattle.stair_array.proofs.session.ArrayCore.find_redo.Goals as goal

pub returns-then-count-eq0-clause-does : goal.returns-then-count-eq0-clause-does
returns-then-count-eq0-clause-does g c =
    gates_found (snapshot c.args.self.now.member (told g.R.Rack c.args.rack.now)) c.loop-geometry.self.member _ c.loop-geometry.invariant.geometry _ _ _ _
    c.loop-geometry.invariant.live c.read_gates-gates.ensures.does c.loop-geometry.invariant.so_far
    (counts_none _ _ c.count.ensures.value c.count.ensures.well_formed c.if-count-eq0.true)

pub returns-then-count-eq0-clause-redo : goal.returns-then-count-eq0-clause-redo
returns-then-count-eq0-clause-redo g c =
    gates_redo (snapshot c.args.self.now.member (told g.R.Rack c.args.rack.now)) c.loop-geometry.self.member _ c.loop-geometry.invariant.geometry _ _ _ _
    c.loop-geometry.invariant.live c.read_gates-gates.ensures.does c.loop-geometry.invariant.so_far

pub returns-in_err-fence_if_any-clause-does : goal.returns-in_err-fence_if_any-clause-does
returns-in_err-fence_if_any-clause-does g c =
    told_of_fault _ _ _ _ c.from_residual.ensures.1
    (gates_refused (snapshot c.args.self.now.member (told g.R.Rack c.args.rack.now)) c.loop-geometry.self.member _ c.loop-geometry.invariant.geometry _ _
    _ _ c.loop-geometry.invariant.live c.read_gates-gates.ensures.does c.loop-geometry.invariant.so_far _
    (snapshot c.fence_if_any.new.self.member (told g.R.Rack c.fence_if_any.new.rack)) c.in_err-fence_if_any.ensures.does)

pub loop-geometry-smaller : goal.loop-geometry-smaller
loop-geometry-smaller g c =
    let one = counts_some _ _ c.count.ensures.value c.if-count-eq0.false in
    gates_fewer (snapshot c.args.self.now.member (told g.R.Rack c.args.rack.now)) c.loop-geometry.self.member _ c.loop-geometry.invariant.geometry _ _ _ _
    c.loop-geometry.invariant.live c.read_gates-gates.ensures.does c.loop-geometry.invariant.so_far
    (snapshot c.fence_if_any.new.self.member (told g.R.Rack c.fence_if_any.new.rack)) _ c.in_ok-fence_if_any.ensures.does c.live-live-in-loop-geometry.ensures
    one.0 one.2

pub loop-geometry-preserved : goal.loop-geometry-preserved
loop-geometry-preserved g c =
    let one = counts_some _ _ c.count.ensures.value c.if-count-eq0.false in
    record {
      geometry = c.loop-geometry.invariant.geometry ∙ sym c.fence_if_any.ensures.geometry;
      as_before = c.fence_if_any.ensures.geometry ∙ c.loop-geometry.invariant.as_before;
      live = c.live-live-in-loop-geometry.ensures;
      stopped = c.in_ok-fence_if_any.ensures.goes_on ∙ c.loop-geometry.invariant.stopped;
      so_far =
          gates_again (snapshot c.args.self.now.member (told g.R.Rack c.args.rack.now)) c.loop-geometry.self.member _ c.loop-geometry.invariant.geometry _
          _ _ _ c.loop-geometry.invariant.live c.read_gates-gates.ensures.does c.loop-geometry.invariant.so_far
          (snapshot c.fence_if_any.new.self.member (told g.R.Rack c.fence_if_any.new.rack)) c.in_ok-fence_if_any.ensures.does one.0 one.2;
    }
