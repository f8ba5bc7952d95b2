-- The stripe was loaded, and the slot's chunk of it written, unless the slot was gone.
use Rattle.std.proofs.Common.{◌∙◌, ◌≡◌, ◌≢◌, ◌<◌, rules, sym}
use Rattle.stair_model.specs.Geometry.{IsWithinLimits}
use Rattle.stair_rack.proofs.PassCounts.{Done-compared, Gone-compared}
use Rattle.stair_rack.specs.Told.{told}
use Rattle.stair_member.specs.declared.why.Why.TheVariants.{Rebuilding}
use Rattle.stair_invariant.specs.Effects.{snapshot}
use Rattle.stair_array.proofs.RebuildingLemmas.{next_away, next_fell, next_stops, next_unread, next_written, redo_of_chunk}
use Rattle.stair_array.proofs.session.ArrayCore.chunk_to.Goals as goal

pub returns-in_err-load-clause-does : goal.returns-in_err-load-clause-does
returns-in_err-load-clause-does g c =
    next_unread c.args.slot c.args.stripe c.load.new.self.stripe (snapshot c.args.self.now.member (told g.R.Rack c.args.rack.now))
    (snapshot c.load.new.self.member (told g.R.Rack c.load.new.rack)) _ _ c.from_residual.ensures.1 c.in_err-load.ensures.does

pub returns-then-ne-clause-does : goal.returns-then-ne-clause-does
returns-then-ne-clause-does g c =
    let other : c.why.result ≢ Rebuilding = search rules in
    next_away c.args.slot c.args.stripe c.load.new.self.stripe (snapshot c.args.self.now.member (told g.R.Rack c.args.rack.now))
    (snapshot c.load.new.self.member (told g.R.Rack c.load.new.rack)) c.in_ok-load.ensures.does (λ goes. other (c.why.ensures.value ∙ goes))

pub write_chunk-requires-clause-redo : goal.write_chunk-requires-clause-redo
write_chunk-requires-clause-redo g c =
    let below : c.args.slot < c.geometry-geometry.result.n = rw (c.geometry-geometry.ensures.value, c.load.ensures.geometry) c.requires.rebuilt.below in
    let stripe : c.args.stripe < c.geometry-geometry.result.stripes = rw (c.geometry-geometry.ensures.value, c.load.ensures.geometry) c.requires.stripe in
    let limits : IsWithinLimits c.geometry-geometry.result = rw c.geometry-geometry.ensures.value c.geometry-geometry.ensures.rules.array.limits in
    redo_of_chunk _ _ _ _ limits below stripe c.chunk_of.ensures.are c.chunk_of.ensures.formed

pub returns-in_err-fence_slot-clause-does : goal.returns-in_err-fence_slot-clause-does
returns-in_err-fence_slot-clause-does g c =
    let rebuilding : c.why.result ≡ Rebuilding = search rules in
    let below : c.args.slot < c.load.new.self.member.array.geometry.n = rw c.load.ensures.geometry c.requires.rebuilt.below in
    let stripe : c.args.stripe < c.load.new.self.member.array.geometry.stripes = rw c.load.ensures.geometry c.requires.stripe in
    next_stops c.load.new.self.member _ c.geometry-geometry.ensures.value c.args.slot c.args.stripe c.chunk_of.result c.chunk_of.ensures.are
    (redo_of_chunk _ _ _ _ (rw c.geometry-geometry.ensures.value c.geometry-geometry.ensures.rules.array.limits)
    (rw c.geometry-geometry.ensures.value below) (rw c.geometry-geometry.ensures.value stripe) c.chunk_of.ensures.are c.chunk_of.ensures.formed)
    c.load.new.self.stripe c.write_chunk.result g.R.Rack.is_honest _ _ _ _ _ _ c.write_chunk.ensures.does c.write_chunk.ensures.told_gone
    c.write_chunk.ensures.gone c.write_chunk.ensures.counts (snapshot c.args.self.now.member (told g.R.Rack c.args.rack.now)) c.in_ok-load.ensures.does
    (record { below = below; why = sym c.why.ensures.value ∙ rebuilding })
    (Gone-compared c.write_chunk.result (sym c.eq.ensures ∙ c.if-eq.true))
    (snapshot c.fence_slot.new.self.member (told g.R.Rack c.fence_slot.new.rack)) _ _ c.from_residual-in_err-fence_slot.ensures.1
    c.in_err-fence_slot.ensures.does

pub returns-in_ok-fence_slot-clause-does : goal.returns-in_ok-fence_slot-clause-does
returns-in_ok-fence_slot-clause-does g c =
    let rebuilding : c.why.result ≡ Rebuilding = search rules in
    let below : c.args.slot < c.load.new.self.member.array.geometry.n = rw c.load.ensures.geometry c.requires.rebuilt.below in
    let stripe : c.args.stripe < c.load.new.self.member.array.geometry.stripes = rw c.load.ensures.geometry c.requires.stripe in
    next_fell c.load.new.self.member _ c.geometry-geometry.ensures.value c.args.slot c.args.stripe c.chunk_of.result c.chunk_of.ensures.are
    (redo_of_chunk _ _ _ _ (rw c.geometry-geometry.ensures.value c.geometry-geometry.ensures.rules.array.limits)
    (rw c.geometry-geometry.ensures.value below) (rw c.geometry-geometry.ensures.value stripe) c.chunk_of.ensures.are c.chunk_of.ensures.formed)
    c.load.new.self.stripe c.write_chunk.result g.R.Rack.is_honest _ _ _ _ _ _ c.write_chunk.ensures.does c.write_chunk.ensures.told_gone
    c.write_chunk.ensures.gone c.write_chunk.ensures.counts (snapshot c.args.self.now.member (told g.R.Rack c.args.rack.now)) c.in_ok-load.ensures.does
    (record { below = below; why = sym c.why.ensures.value ∙ rebuilding })
    (Gone-compared c.write_chunk.result (sym c.eq.ensures ∙ c.if-eq.true))
    (snapshot c.fence_slot.new.self.member (told g.R.Rack c.fence_slot.new.rack)) c.in_ok-fence_slot.ensures.does c.in_ok-fence_slot.ensures.geometry

pub returns-else-eq-clause-does : goal.returns-else-eq-clause-does
returns-else-eq-clause-does g c =
    let rebuilding : c.why.result ≡ Rebuilding = search rules in
    let below : c.args.slot < c.load.new.self.member.array.geometry.n = rw c.load.ensures.geometry c.requires.rebuilt.below in
    let stripe : c.args.stripe < c.load.new.self.member.array.geometry.stripes = rw c.load.ensures.geometry c.requires.stripe in
    next_written c.load.new.self.member _ c.geometry-geometry.ensures.value c.args.slot c.args.stripe c.chunk_of.result c.chunk_of.ensures.are
    (redo_of_chunk _ _ _ _ (rw c.geometry-geometry.ensures.value c.geometry-geometry.ensures.rules.array.limits)
    (rw c.geometry-geometry.ensures.value below) (rw c.geometry-geometry.ensures.value stripe) c.chunk_of.ensures.are c.chunk_of.ensures.formed)
    c.load.new.self.stripe c.write_chunk.result g.R.Rack.is_honest _ _ _ _ _ _ c.write_chunk.ensures.does c.write_chunk.ensures.told_gone
    c.write_chunk.ensures.gone c.write_chunk.ensures.counts (snapshot c.args.self.now.member (told g.R.Rack c.args.rack.now)) c.in_ok-load.ensures.does
    (record { below = below; why = sym c.why.ensures.value ∙ rebuilding })
    (Done-compared c.write_chunk.result (sym c.eq.ensures ∙ c.if-eq.false))
