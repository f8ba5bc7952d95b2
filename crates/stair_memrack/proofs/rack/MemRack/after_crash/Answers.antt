-- What is left of the slots is an image that a crash may leave, by these picks.
use Rattle.std.proofs.Common.{◌≡◌, [], ◌∷◌, ◌∙◌, length, ap, subst}
use Rattle.std.proofs.lemmas.Result.{IfOk-weaker}
use Rattle.stair_rack.specs.Media.{Image}
use Rattle.stair_rack.specs.History.{Made}
use Rattle.stair_rack.specs.Crash.{CrashMayLeave}
use Rattle.stair_memrack.specs.Record.{MemRackState, history_of}
use Rattle.stair_memrack.specs.Origin.{image_over}
use Rattle.stair_memrack.specs.Picks.{crash_image, HasPicks}
use Rattle.stair_memrack.proofs.PickLemmas.{crash_image-may}
use Rattle.stair_memrack.proofs.LeftLemmas.{crashed, has_picks}
use Rattle.stair_memrack.proofs.rack.MemRack.after_crash.Goals as goal

pub returns-in_err-made-clause-left : goal.returns-in_err-made-clause-left
returns-in_err-made-clause-left c = crash_image-may c.args.picks.now (history_of c.args.self)

pub returns-in_err-made-clause-each : goal.returns-in_err-made-clause-each
returns-in_err-made-clause-each c =
    subst (λ (s : MemRackState). (image : Image) → CrashMayLeave (history_of s) image → HasPicks (history_of s) (length s.calls) image) c.self.view_is
    (has_picks c.self.inside c.self.invariant)

pub returns-clause-left : goal.returns-clause-left
returns-clause-left c = crash_image-may c.args.picks.now (history_of c.args.self)

pub returns-clause-each : goal.returns-clause-each
returns-clause-each c =
    subst (λ (s : MemRackState). (image : Image) → CrashMayLeave (history_of s) image → HasPicks (history_of s) (length s.calls) image) c.self.view_is
    (has_picks c.self.inside c.self.invariant)

pub returns-clause-made : goal.returns-clause-made
returns-clause-made c =
    let image : image_over c.in_ok-made.made.items ≡ crash_image c.args.picks.now (history_of c.args.self) =
    crashed c.self.inside c.args.picks.now c.in_ok-made.made.items c.self.invariant c.in_ok-made.ensures
    ∙ ap (λ (s : MemRackState). crash_image c.args.picks.now (history_of s)) c.self.view_is in
    IfOk-weaker c.over.result _ _ (λ s is. ap history_of is ∙ ap (λ left. Made left ∷ []) image) c.over.ensures
