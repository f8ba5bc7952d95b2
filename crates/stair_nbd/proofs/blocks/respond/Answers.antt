-- Nothing is done for a request that neither reads nor writes.
use Rattle.std.proofs.Common.{inl, inr, refl}
use Rattle.stair_nbd.specs.declared.wire.Command.TheVariants as command
use Rattle.stair_nbd.specs.declared.wire.ReplyError.TheVariants as error
use Rattle.stair_nbd.proofs.RespondLaws.{no_data, nothing_done}
use Rattle.stair_nbd.proofs.blocks.respond.Goals as goal

pub returns-in-Disconnect-clause-comes : goal.returns-in-Disconnect-clause-comes
returns-in-Disconnect-clause-comes g c bytes kept k =
    let of = c.args.array.now.member.array.geometry in
    let none = no_data c.of-in-Disconnect.result c.args.buffer.now error.None k c.of-in-Disconnect.ensures.error c.of-in-Disconnect.ensures.short in
    elim c.in-Disconnect.is [
      | inl is ↦ nothing_done _ of c.args.request.now _ bytes k command.Disconnect error.None _ is refl none
      | inr is ↦ nothing_done _ of c.args.request.now _ bytes k command.Flush error.None _ is refl none
    ]

pub returns-in-Other-clause-comes : goal.returns-in-Other-clause-comes
returns-in-Other-clause-comes g c bytes kept k =
    nothing_done _ c.args.array.now.member.array.geometry c.args.request.now _ bytes k command.Other error.Invalid _ c.in-Other.is refl
    (no_data c.of-in-Other.result c.args.buffer.now error.Invalid k c.of-in-Other.ensures.error c.of-in-Other.ensures.short)
