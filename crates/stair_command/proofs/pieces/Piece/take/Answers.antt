-- What came stands after what was held.
use Rattle.std.proofs.Common.{◌≡◌, ◌-◌, ℕ, length, subst, sym}
use Rattle.stair_model.specs.Stripe.{SECTOR}
use Rattle.stair_command.specs.Outside.{source_view}
use Rattle.stair_command.specs.Taking.{PieceIsCut}
use Rattle.stair_command.proofs.IntakeLaws.{if_err_of}
use Rattle.stair_command.proofs.HeldLaws.{held_long, took_piece}
use Rattle.stair_command.proofs.pieces.Piece.take.Goals as goal

pub returns-in_err-self-inside-clause-cut : goal.returns-in_err-self-inside-clause-cut
returns-in_err-self-inside-clause-cut g c =
    let view = source_view g.S.Source in
    let held : length c.args.self.now.bytes ≡ c.self.inside.held = held_long c.args.self.now c.self.inside.buffer.items c.self.inside.held c.self.view_is c.self.invariant in
    if_err_of c.from_residual.result c.in_err-self-inside.field-0.0 (PieceIsCut view (SECTOR - length c.args.self.now.bytes) c.args.intake.now c.args.input.now c.take.new.input)
    c.from_residual.ensures.1
    (subst (λ (n : ℕ). PieceIsCut view (SECTOR - n) c.args.intake.now c.args.input.now c.take.new.input c.in_err-self-inside.field-0.0) (sym held) c.in_err-self-inside.ensures.cut)

pub returns-clause-ok : goal.returns-clause-ok
returns-clause-ok g c =
    took_piece c.self.inside.buffer c.args.blocks c.from-most.result c.self.inside.held c.args.self.now c.deref_mut.result.now c.take.new.into
    c.self.view_is c.deref_mut.ensures.value c.from-most.ensures c.self.invariant c.requires.part c.requires.room c.requires.some c.take.auto.into
    (source_view g.S.Source) c.in_ok-self-inside.field-0 c.args.intake.now c.take.new.self
    c.args.input.now c.take.new.input c.in_ok-self-inside.ensures.ok c.in_ok-self-inside.ensures.counted
