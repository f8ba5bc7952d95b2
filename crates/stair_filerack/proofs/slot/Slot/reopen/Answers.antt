use Rattle.std.proofs.Common.{subst}
use Rattle.stair_filerack.specs.Files.{IsPutOut}
use Rattle.stair_filerack.proofs.FileLemmas.{OnOk-of}
use Rattle.stair_filerack.proofs.slot.Slot.reopen.Goals as goal

pub returns-clause-earlier : goal.returns-clause-earlier
returns-clause-earlier g c =
    OnOk-of c.open.result _
    (c.put_out.new.file, subst (λ slot. IsPutOut g.T.Write.contents slot.file c.put_out.new.file) c.self.view_is c.in_ok-put_out.ensures.done)
