use Rattle.std.proofs.Common.{ap, ◌∙◌, arith}
use Rattle.std.specs.Prelude.{IsSome}
use Rattle.stair_filerack.specs.Reason.{KeepsReason}
use Rattle.stair_filerack.specs.Files.{GoesOn, SyncsAll}
use Rattle.stair_filerack.specs.Slot.{gone_once_more, synced_as}
use Rattle.stair_filerack.proofs.RackLemmas.{Changes, changed_slot, slot_was, gones_alone, gone_rose, changed_says, rack_changed, rack_changed_as}
use Rattle.stair_filerack.proofs.rack.FileRackRack.sync.Goals as goal

changes : (g : _) (c : goal.After-self-1 g) → Changes c.args.self.now c.self.inside.slots.items c.from.result c.args.slot c.index_mut.result.now c.sync.new.self
changes g c =
    changed_slot c.args.self.now _ _ _ _ _ _ _ c.self.view_is c.from.ensures c.index_mut.ensures.value
    (omega (arith, c.self.invariant, c.from.ensures, c.requires))

pub returns-clause-counts : goal.returns-clause-counts
returns-clause-counts g c =
    gones_alone c.args.self.now _ _ _ _ _ _ _ c.self.view_is (changes g c) c.sync.ensures.count

pub returns-clause-gone : goal.returns-clause-gone
returns-clause-gone g c gone = gone_rose c.args.self.now _ _ _ _ _ (changes g c) (c.sync.ensures.gone gone)

pub returns-clause-unattached : goal.returns-clause-unattached
returns-clause-unattached g c none =
    let was = slot_was c.args.self.now _ _ _ _ _ (changes g c) in
    let here = c.sync.ensures.unattached (ap (λ s. s.file) was ∙ none) in
    (here.0, rack_changed c.args.self.now _ _ _ _ _ _ _ gone_once_more c.self.view_is (changes g c) here.1)

pub returns-clause-done : goal.returns-clause-done
returns-clause-done g c done =
    changed_says c.args.self.now _ _ _ _ _ (λ was slot. GoesOn (SyncsAll g.F.File.Write.contents) was.file slot.file)
    (changes g c) (c.sync.ensures.done done)

pub returns-clause-after : goal.returns-clause-after
returns-clause-after g c =
    rack_changed_as c.args.self.now _ _ _ _ _ _ _ (λ slot was. synced_as c.sync.result slot.file slot.reason was)
    c.self.view_is (changes g c) c.sync.ensures.after

pub returns-clause-kept : goal.returns-clause-kept
returns-clause-kept g c =
    changed_says c.args.self.now _ _ _ _ _ (λ was slot. KeepsReason was.reason slot.reason) (changes g c) c.sync.ensures.kept

pub returns-clause-reason : goal.returns-clause-reason
returns-clause-reason g c gone =
    changed_says c.args.self.now _ _ _ _ _ (λ was slot. IsSome was.file → IsSome slot.reason) (changes g c) (c.sync.ensures.does gone)
