-- Those that have another name are kept.
use Rattle.std.proofs.Common.{not, Ok, length, sym, ap, ◌∙◌, subst, arith, ◌≡◌}
use Rattle.std.specs.Prelude.{filter, is_some}
use Rattle.std.proofs.lemmas.List.{take_all}
use Rattle.stair_volume.specs.declared.extent.Entry.{Entry}
use Rattle.stair_volume.specs.StoredTable.{shown}
use Rattle.stair_volume.specs.Table.{IsTable, is_named}
use Rattle.stair_volume.specs.Changes.{without_entry}
use Rattle.stair_volume.proofs.ChangeLaws.{IsTable-without_entry, without_volume-none, without_volume-there}
use Rattle.stair_volume.proofs.StoredLemmas.{shown-without}
use Rattle.stair_volume.proofs.table.Table.without.Goals as goal

pub returns-then-is_none : goal.returns-then-is_none
returns-then-is_none c = sym (without_volume-none c.args.self.now c.args.name (ap is_some (sym c.find.ensures) ∙ c.if-is_none.ensures))

-- what is kept of the entries
kept : (c : goal.After-self) → shown (record c.self.inside { len = c.loop-entry.len; entries = c.loop-entry.entries }) ≡ without_entry c.args.self.now c.args.name
kept c =
    shown-without c.self.inside c.args.self.now c.args.name c.loop-entry.entries c.loop-entry.len c.self.view_is
    (c.loop-entry.invariant.kept
    ∙ ap (filter (λ entry. not (is_named c.args.name entry))) (take_all c.loop-entry.entry-index c.entries-entry-items.result.now c.loop-entry-test.false ∙ c.entries-entry-items.ensures.value))

pub invariant_of-result : goal.invariant_of-result
invariant_of-result c =
    let table = c.entries-entry-items.ensures.rules in
    record {
      rules = subst IsTable (sym (kept c)) (IsTable-without_entry c.args.self.now c.args.name table);
      count = omega (arith, c.loop-entry.invariant.few, c.loop-entry.auto.entry-index-end, ap (length {A = Entry}) c.entries-entry-items.ensures.value, table.few);
      whole = c.loop-entry.invariant.whole;
    }

pub returns : goal.returns
returns c =
    ap Ok (kept c) ∙ sym (without_volume-there c.args.self.now c.args.name (ap is_some (sym c.find.ensures) ∙ c.if-is_none.ensures))
