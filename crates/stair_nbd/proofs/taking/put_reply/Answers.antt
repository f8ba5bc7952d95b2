-- The header lies right before the bytes, and both are put out.
use Rattle.std.proofs.Common.{◌≡◌, ◌∙◌, ◌+◌, ◌++◌, List, ℕ, ap, arith, drop, length, refl, subst}
use Rattle.stair_command.specs.Outside.{sink_view}
use Rattle.stair_command.specs.Program.{Put}
use Rattle.stair_command.specs.Talks.{PutsTo}
use Rattle.stair_nbd.specs.Sessions.{after_done, data_of}
use Rattle.stair_nbd.specs.Wire.{REPLY_LENGTH, simple_reply}
use Rattle.stair_nbd.proofs.ReplyLaws.{one_piece}
use Rattle.stair_nbd.proofs.taking.put_reply.Goals as goal

pub returns : goal.returns
returns g c rest =
    let header = c.copy_from_slice.new.self in
    let reply = c.args.reply in
    let is : header ≡ simple_reply reply.error c.args.cookie =
    c.copy_from_slice.ensures.after ∙ c.bytes.ensures ∙ c.simple_reply.ensures.bytes in
    let long : length header ≡ REPLY_LENGTH = ap length (c.copy_from_slice.ensures.after ∙ c.bytes.ensures) ∙ c.simple_reply.ensures.long in
    subst (λ (bytes : List ℕ). PutsTo (sink_view g.K.Sink) (Put bytes rest) (after_done c.put.result rest) c.args.output.now c.put.new.output)
    (one_piece header c.args.buffer.now REPLY_LENGTH reply.start (REPLY_LENGTH + reply.start) reply.length refl long (omega (arith, c.requires))
    ∙ ap (λ (b : List ℕ). b ++ data_of reply (drop REPLY_LENGTH c.args.buffer.now)) is)
    (c.put.ensures rest)
