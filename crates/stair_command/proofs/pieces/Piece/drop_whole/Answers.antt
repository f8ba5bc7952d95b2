-- What is left over moved to the front.
use Rattle.std.proofs.Common.{◌-◌, ◌*◌, ◌/◌, List, ℕ, ap, ◌∙◌}
use Rattle.stair_model.specs.Stripe.{SECTOR}
use Rattle.stair_command.proofs.HeldLaws.{dropped_whole, held_in}
use Rattle.stair_command.proofs.pieces.Piece.drop_whole.Goals as goal

pub returns : goal.returns
returns c =
    let held = c.self.inside.held in
    ap (λ (items : List ℕ). held_in items (held - held / SECTOR * SECTOR)) c.copy_within.ensures.items
    ∙ dropped_whole c.args.self.now c.self.inside.buffer.items held c.self.view_is c.self.invariant
