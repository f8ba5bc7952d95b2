use Rattle.std.proofs.Common.{refl}
use Rattle.std.proofs.lemmas.Result.{IfOk-weaker, on_err_weaker}
use Rattle.stair_filerack.proofs.ReadLemmas.{alone_gives, held_gives}
use Rattle.stair_filerack.proofs.file.read_sector.Goals as goal

pub returns-then-holds-clause-found : goal.returns-then-holds-clause-found
returns-then-holds-clause-found g c =
    let is = c.if-holds.ensures in
    held_gives _ _ c.args.sector c.args.image.now _ _ _ _ _ c.give.result c.give.ensures.0 c.from.result c.image.view_is (is.held refl)
    c.from.ensures c.give.ensures.1 c.give.ensures.2

pub returns-clause-found : goal.returns-clause-found
returns-clause-found g c =
    IfOk-weaker c.read_alone.result _ _
    (λ found. alone_gives _ _ c.args.sector c.args.image.now c.holds.new.image c.read_alone.new.image found (c.if-holds.ensures.none refl))
    c.read_alone.ensures.found

pub returns-clause-failed : goal.returns-clause-failed
returns-clause-failed g c =
    on_err_weaker c.read_alone.result
    (λ fails. (c.holds.new.image, c.if-holds.ensures.none refl, fails)) c.read_alone.ensures.failed
