-- The three tests, in their order.
use Rattle.std.proofs.Common.{None, Ok, sym, ap, ◌∙◌, subst, arith}
use Rattle.std.specs.Prelude.{is_some}
use Rattle.stair_volume.specs.Table.{IsTable}
use Rattle.stair_volume.specs.Changes.{room}
use Rattle.stair_volume.proofs.ChangeLaws.{with_volume-taken, with_volume-full, with_volume-placed}
use Rattle.stair_volume.proofs.StoredLemmas.{IsTable-there, length-shown, no_extent, with_volume-there}
use Rattle.stair_volume.proofs.table.Table.with.Goals as goal

pub returns-then-is_some : goal.returns-then-is_some
returns-then-is_some c =
    sym (with_volume-taken c.args.self.now c.args.name c.args.blocks (ap is_some (sym c.find.ensures) ∙ sym c.if-is_some.ensures))

pub returns-then-self-eq-TABLE_LIMIT : goal.returns-then-self-eq-TABLE_LIMIT
returns-then-self-eq-TABLE_LIMIT c =
    let sized = length-shown c.self.inside c.args.self.now c.self.invariant c.self.view_is in
    sym (with_volume-full c.args.self.now c.args.name c.args.blocks (ap is_some (sym c.find.ensures) ∙ sym c.if-is_some.ensures)
    (omega (arith, c.if-self-eq-TABLE_LIMIT.true, sized)))

pub with_entry-requires-clause-rules : goal.with_entry-requires-clause-rules
with_entry-requires-clause-rules c =
    let sized = length-shown c.self.inside c.args.self.now c.self.invariant c.self.view_is in
    IsTable-there c.args.self.now c.args.name c.args.blocks c.in-Some.extent (subst IsTable c.self.view_is c.self.invariant.rules) c.bytes-name.ensures.rules c.requires
    (ap is_some (sym c.find.ensures) ∙ sym c.if-is_some.ensures)
    (omega (arith, c.if-self-eq-TABLE_LIMIT.false, c.self.invariant.count, sized))
    (sym c.in-Some.ensures)

pub returns-in-Some : goal.returns-in-Some
returns-in-Some c =
    let sized = length-shown c.self.inside c.args.self.now c.self.invariant c.self.view_is in
    ap Ok c.with_entry.ensures
    ∙ sym (with_volume-there c.args.self.now c.args.name c.args.blocks c.in-Some.extent
    (ap is_some (sym c.find.ensures) ∙ sym c.if-is_some.ensures)
    (omega (arith, c.if-self-eq-TABLE_LIMIT.false, c.self.invariant.count, sized))
    (sym c.in-Some.ensures))

pub returns-in-None : goal.returns-in-None
returns-in-None c =
    let sized = length-shown c.self.inside c.args.self.now c.self.invariant c.self.view_is in
    sym (with_volume-placed c.args.self.now c.args.name c.args.blocks None
    (ap is_some (sym c.find.ensures) ∙ sym c.if-is_some.ensures)
    (omega (arith, c.if-self-eq-TABLE_LIMIT.false, c.self.invariant.count, sized))
    (no_extent c.args.blocks (room c.args.self.now c.args.blocks) (sym c.room.ensures ∙ c.in-None.is)))
