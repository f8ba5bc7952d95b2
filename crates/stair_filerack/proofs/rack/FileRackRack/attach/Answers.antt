use Rattle.std.proofs.Common.{◌≡◌, [], Option, None, arith}
use Rattle.std.specs.Prelude.{IsSomeAnd}
use Rattle.stair_filerack.specs.Reason.{KeepsReason}
use Rattle.stair_filerack.specs.Files.{CountsSectors, IsPutOut}
use Rattle.stair_filerack.specs.Slot.{HeldFile, attached_as, nothing_read}
use Rattle.stair_filerack.proofs.RackLemmas.{Changes, changed_slot, gones_alone, gone_rose, changed_says, rack_changed_as}
use Rattle.stair_filerack.proofs.rack.FileRackRack.attach.Goals as goal

changes : (g : _) (c : goal.After-self-1 g) → Changes c.args.self.now c.self.inside.slots.items c.from.result c.args.slot c.index_mut.result.now c.attach.new.self
changes g c =
    changed_slot c.args.self.now _ _ _ _ _ _ _ c.self.view_is c.from.ensures c.index_mut.ensures.value
    (omega (arith, c.self.invariant, c.from.ensures, c.requires))

pub returns-clause-counts : goal.returns-clause-counts
returns-clause-counts g c =
    gones_alone c.args.self.now _ _ _ _ _ _ _ c.self.view_is (changes g c) c.attach.ensures.count

pub returns-clause-gone : goal.returns-clause-gone
returns-clause-gone g c gone = gone_rose c.args.self.now _ _ _ _ _ (changes g c) (c.attach.ensures.gone gone)

pub returns-clause-attached : goal.returns-clause-attached
returns-clause-attached g c done =
    changed_says c.args.self.now _ _ _ _ _ (λ was slot. IsSomeAnd slot.file (λ held. held.image.next ≡ None))
    (changes g c) (c.attach.ensures.attached done)

pub returns-clause-unread : goal.returns-clause-unread
returns-clause-unread g c done =
    changed_says c.args.self.now _ _ _ _ _ (λ was slot. IsSomeAnd slot.file (λ held. held.image.ahead ≡ nothing_read))
    (changes g c) (c.attach.ensures.unread done)

pub returns-clause-settled : goal.returns-clause-settled
returns-clause-settled g c done =
    changed_says c.args.self.now _ _ _ _ _ (λ was slot. IsSomeAnd slot.file (λ held. held.pending ≡ []))
    (changes g c) (c.attach.ensures.settled done)

pub returns-clause-counted : goal.returns-clause-counted
returns-clause-counted g c done =
    changed_says c.args.self.now _ _ _ _ _
    (λ was slot. IsSomeAnd slot.file (λ held. (before : _) × CountsSectors g.F.File.Seek.stream_position g.F.File.Seek.stream_bytes before held.image.file slot.sectors))
    (changes g c) (c.attach.ensures.counted done)

pub returns-clause-after : goal.returns-clause-after
returns-clause-after g c =
    rack_changed_as c.args.self.now _ _ _ _ _ _ _ (λ slot was. attached_as c.attach.result slot.file slot.sectors slot.reason was)
    c.self.view_is (changes g c) c.attach.ensures.after

pub returns-clause-kept : goal.returns-clause-kept
returns-clause-kept g c =
    changed_says c.args.self.now _ _ _ _ _ (λ was slot. KeepsReason was.reason slot.reason) (changes g c) c.attach.ensures.kept

pub returns-clause-earlier : goal.returns-clause-earlier
returns-clause-earlier g c done =
    changed_says c.args.self.now _ _ _ _ _
    (λ was slot. (out : Option (HeldFile _)) × IsPutOut g.F.File.Write.contents was.file out) (changes g c) (c.attach.ensures.earlier done)
