use Rattle.std.proofs.Common.{◌≡◌, ◌≤◌, ℕ, set, ap, sym, ◌∙◌, subst, arith}
use Rattle.std.specs.Prelude.{IsSome, ◌<◌}
use Rattle.stair_filerack.specs.Reason.{KeepsReason}
use Rattle.stair_filerack.specs.Files.{AfterPending, GoesOn, ReadsBadSector, ReadsSector}
use Rattle.stair_filerack.specs.Slot.{gone_once_more, read_as}
use Rattle.stair_filerack.specs.FileRack.{bads_after}
use Rattle.stair_filerack.proofs.RackLemmas.{Changes, changed_slot, slot_was, counts_kept, gone_rose, rack_of, rack_changed, set_same, changed_says, set_changed_as}
use Rattle.stair_filerack.proofs.rack.FileRackRack.read.Goals as goal

changes : (g : _) (c : goal.After-self-2-1 g) → Changes c.args.self.now c.self.inside.slots.items c.from.result c.args.slot c.index_mut.result.now c.read-got.new.self
changes g c =
    changed_slot c.args.self.now _ _ _ _ _ _ _ c.self.view_is c.from.ensures c.index_mut.ensures.value
    (omega (arith, c.self.invariant, c.from.ensures, c.requires))

pub returns-clause-counts : goal.returns-clause-counts
returns-clause-counts g c =
    counts_kept c.args.self.now _ _ _ _ _ _ (changes g c) (rw (← c.self.view_is) c.bads_after-self-inside.ensures.count) c.read-got.ensures.count

pub returns-clause-bad : goal.returns-clause-bad
returns-clause-bad g c bad = rw (← c.self.view_is) (c.bads_after-self-inside.ensures.bad bad)

pub returns-clause-gone : goal.returns-clause-gone
returns-clause-gone g c gone = gone_rose c.args.self.now _ _ _ _ _ (changes g c) (c.read-got.ensures.gone gone)

pub returns-clause-unattached : goal.returns-clause-unattached
returns-clause-unattached g c none =
    let was = slot_was c.args.self.now _ _ _ _ _ (changes g c) in
    let here = c.read-got.ensures.unattached (ap (λ s. s.file) was ∙ none) in
    let bads : c.bads_after-self-inside.result ≡ c.self.inside.bads =
    c.bads_after-self-inside.ensures.after ∙ ap (λ got. bads_after got c.self.inside.bads) here.0 in (
      here.0,
      ap (λ (n : ℕ). rack_of c.self.inside.access n (set c.self.inside.slots.items c.from.result c.read-got.new.self)) bads
          ∙ rack_changed c.args.self.now _ _ _ _ _ _ _ gone_once_more c.self.view_is (changes g c) here.1,
    )

pub returns-clause-past_end : goal.returns-clause-past_end
returns-clause-past_end g c some past =
    let was = slot_was c.args.self.now _ _ _ _ _ (changes g c) in
    let here = c.read-got.ensures.past_end (subst (λ s. IsSome s.file) (sym was) some)
    (subst (λ s. s.sectors ≤ c.args.sector) (sym was) past) in
    (here.0, set_same c.args.self.now _ _ _ _ _ (changes g c) here.1)

pub returns-clause-sealed : goal.returns-clause-sealed
returns-clause-sealed g c good =
    changed_says c.args.self.now _ _ _ _ _
    (λ was slot. GoesOn (AfterPending g.F.File.Write.contents
    (ReadsSector g.F.File.Seek.stream_position g.F.File.Read.remaining c.args.sector c.read-got.new.into)) was.file slot.file)
    (changes g c) (c.read-got.ensures.good good)

pub returns-clause-unsealed : goal.returns-clause-unsealed
returns-clause-unsealed g c bad =
    changed_says c.args.self.now _ _ _ _ _
    (λ was slot. c.args.sector < was.sectors → GoesOn (AfterPending g.F.File.Write.contents
    (ReadsBadSector g.F.File.Seek.stream_position g.F.File.Read.remaining c.args.sector)) was.file slot.file)
    (changes g c) (c.read-got.ensures.bad bad)

pub returns-clause-after : goal.returns-clause-after
returns-clause-after g c =
    set_changed_as c.args.self.now _ _ _ _ _ (λ slot was. read_as c.read-got.result slot.file slot.reason was) (changes g c) c.read-got.ensures.after

pub returns-clause-kept : goal.returns-clause-kept
returns-clause-kept g c =
    changed_says c.args.self.now _ _ _ _ _ (λ was slot. KeepsReason was.reason slot.reason) (changes g c) c.read-got.ensures.kept

pub returns-clause-reason : goal.returns-clause-reason
returns-clause-reason g c gone =
    changed_says c.args.self.now _ _ _ _ _ (λ was slot. IsSome was.file → IsSome slot.reason) (changes g c) (c.read-got.ensures.does gone)
