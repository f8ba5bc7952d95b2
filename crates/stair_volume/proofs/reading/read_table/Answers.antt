-- The lenient table is tested, written again and compared; each refusal is of bytes that no table has.
use Rattle.std.proofs.Common.{None, Some, refl, sym, ap, ◌∙◌, arith}
use Rattle.std.proofs.lemmas.Bool.{both_ways}
use Rattle.std.proofs.lemmas.Option.{none-some}
use Rattle.std.proofs.lemmas.Slice.Eq.{bytes_eq-Decides}
use Rattle.stair_volume.specs.Table.{Table}
use Rattle.stair_volume.specs.Page.{table_bytes}
use Rattle.stair_volume.proofs.ReadingLaws.{none_read, exactly_read, too_many, unnamed, entries_are, table_of-has_table}
use Rattle.stair_volume.proofs.reading.read_table.Goals as goal

pub returns-then-len-gt-TABLE_LIMIT-clause-value : goal.returns-then-len-gt-TABLE_LIMIT-clause-value
returns-then-len-gt-TABLE_LIMIT-clause-value c =
    none_read c.args.blocks c.args.bytes.now (too_many c.args.blocks c.args.bytes.now (omega (arith, c.from-len.ensures, c.if-len-gt-TABLE_LIMIT.true)))

pub returns-then-len-gt-TABLE_LIMIT-clause-exact : goal.returns-then-len-gt-TABLE_LIMIT-clause-exact
returns-then-len-gt-TABLE_LIMIT-clause-exact c = exactly_read c.args.blocks c.args.bytes.now None (returns-then-len-gt-TABLE_LIMIT-clause-value c)

pub returns-in_err-entries-clause-value : goal.returns-in_err-entries-clause-value
returns-in_err-entries-clause-value c =
    c.from_residual.ensures
    ∙ none_read c.args.blocks c.args.bytes.now (unnamed c.args.blocks c.args.bytes.now c.from-len.result c.from-len.ensures c.in_err-entries.ensures)

pub returns-in_err-entries-clause-exact : goal.returns-in_err-entries-clause-exact
returns-in_err-entries-clause-exact c = exactly_read c.args.blocks c.args.bytes.now c.from_residual.result (returns-in_err-entries-clause-value c)

pub returns-in_err-table-clause-value : goal.returns-in_err-table-clause-value
returns-in_err-table-clause-value c =
    c.from_residual-in_err-table.ensures
    ∙ none_read c.args.blocks c.args.bytes.now (λ table has.
    none-some table ((c.in_err-table.ensures table).1 (entries_are c.args.blocks c.args.bytes.now c.from-len.result c.in_ok-entries.entries c.from-len.ensures c.in_ok-entries.ensures table has, has.rules)))

pub returns-in_err-table-clause-exact : goal.returns-in_err-table-clause-exact
returns-in_err-table-clause-exact c = exactly_read c.args.blocks c.args.bytes.now c.from_residual-in_err-table.result (returns-in_err-table-clause-value c)

pub returns-then-eq-clause-value : goal.returns-then-eq-clause-value
returns-then-eq-clause-value c =
    let table = c.in_ok-table.table in
    let made = (c.in_ok-table.ensures table).0 refl in
    sym (table_of-has_table c.args.blocks c.args.bytes.now table (record {
      of_array = ap (λ (t : Table). t.blocks) made.0;
      rules = made.1;
      text = sym ((bytes_eq-Decides c.write_table.result c.args.bytes.now).0 (sym c.if-eq.ensures)) ∙ c.write_table.ensures;
    }))

pub returns-then-eq-clause-exact : goal.returns-then-eq-clause-exact
returns-then-eq-clause-exact c = exactly_read c.args.blocks c.args.bytes.now (Some c.in_ok-table.table) (returns-then-eq-clause-value c)

pub returns-else-eq-clause-value : goal.returns-else-eq-clause-value
returns-else-eq-clause-value c =
    none_read c.args.blocks c.args.bytes.now (λ table has.
    let made = (c.in_ok-table.ensures c.in_ok-table.table).0 refl in
    let same = entries_are c.args.blocks c.args.bytes.now c.from-len.result c.in_ok-entries.entries c.from-len.ensures c.in_ok-entries.ensures table has ∙ sym made.0 in
    let written = c.write_table.ensures ∙ ap (λ (t : Table). table_bytes t.entries) (sym same) ∙ sym has.text in
    both_ways _ (sym c.if-eq.ensures) ((bytes_eq-Decides c.write_table.result c.args.bytes.now).1 written))

pub returns-else-eq-clause-exact : goal.returns-else-eq-clause-exact
returns-else-eq-clause-exact c = exactly_read c.args.blocks c.args.bytes.now None (returns-else-eq-clause-value c)
