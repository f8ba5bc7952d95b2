-- The slot was synced, and then promoted or dropped.
use Rattle.std.proofs.Common.{◌∙◌, sym}
use Rattle.std.specs.Prelude.{Ok}
use Rattle.stair_rack.proofs.PassCounts.{Done-compared, Gone-compared}
use Rattle.stair_rack.specs.Told.{told}
use Rattle.stair_invariant.specs.Effects.{snapshot}
use Rattle.stair_array.proofs.RebuildingLemmas.{handed_promotion, promotes, promotes_none, promotes_stops}
use Rattle.stair_array.proofs.session.ArrayCore.promote_slot.Goals as goal

pub returns-in_err-fence_slot-clause-does : goal.returns-in_err-fence_slot-clause-does
returns-in_err-fence_slot-clause-does g c =
    promotes_stops _ _ _ _ _ _ _ _ _ _ c.sync.ensures.does c.sync.ensures.counts c.sync.ensures.gone
    (Gone-compared c.sync.result (sym c.eq.ensures ∙ c.if-eq.true)) _ _ c.from_residual.ensures.1
    (snapshot c.fence_slot.new.self.member (told g.R.Rack c.fence_slot.new.rack)) c.in_err-fence_slot.ensures.does

pub returns-then-eq-clause-does : goal.returns-then-eq-clause-does
returns-then-eq-clause-does g c =
    promotes_none _ _ _ _ _ _ _ _ _ _ c.sync.ensures.does c.sync.ensures.counts c.sync.ensures.gone
    (Gone-compared c.sync.result (sym c.eq.ensures ∙ c.if-eq.true))
    (snapshot c.fence_slot.new.self.member (told g.R.Rack c.fence_slot.new.rack)) c.in_ok-fence_slot.ensures.does

pub returns-in_err-joined-clause-does : goal.returns-in_err-joined-clause-does
returns-in_err-joined-clause-does g c =
    rw (handed_promotion c.args.slot _ _ c.from_residual-in_err-joined.ensures.1)
    (promotes _ _ _ _ _ _ _ _ _ _ c.sync.ensures.does c.sync.ensures.counts c.sync.ensures.gone
    (Done-compared c.sync.result (sym c.eq.ensures ∙ c.if-eq.false)) _ _ _ _ c.stop_if_refused.ensures.member
    (rw c.in_err-joined.was at c.promote-joined.ensures.does))

pub returns-clause-does : goal.returns-clause-does
returns-clause-does g c =
    promotes _ _ _ _ _ _ _ _ _ _ c.sync.ensures.does c.sync.ensures.counts c.sync.ensures.gone
    (Done-compared c.sync.result (sym c.eq.ensures ∙ c.if-eq.false)) (Ok c.in_ok-joined.field-0) _ _ _ c.stop_if_refused.ensures.member
    (rw c.in_ok-joined.was at c.promote-joined.ensures.does)
