use Rattle.stair_base.proofs.SlotLemmas.{HasSlot-below}
use Rattle.stair_rack.proofs.PassLemmas.{Settled-from_turns}
use Rattle.stair_rack.proofs.sync.sync_all.Goals as goal

pub returns-clause-does : goal.returns-clause-does
returns-clause-does g c honest =
    Settled-from_turns c.args.to c.pass_over.result (λ j has. (c.pass_over.ensures.gone j has).0) (HasSlot-below c.args.to c.pass_over.ensures.well_formed_to) _ _
    (c.pass_over.ensures.turns honest)
