-- The heading, and one entry after the other.
use Rattle.std.proofs.Common.{◌≤◌, ℕ, ◌+◌, ◌*◌, List, length, take, sym, ap, ◌∙◌, subst, arith}
use Rattle.std.specs.Prelude.{All}
use Rattle.std.proofs.lemmas.List.{length-take-le}
use Rattle.std.proofs.lemmas.List.Elements.{All-take}
use Rattle.stair_volume.specs.declared.extent.Entry.{Entry}
use Rattle.stair_volume.specs.Page.{table_bytes, with_field}
use Rattle.stair_volume.proofs.PageLaws.{HasRoom, AllHaveRoom-table, length-entries, length-entry_bytes}
use Rattle.stair_volume.proofs.FieldLemmas.{heading_written, entries_written, table_written}
use Rattle.stair_volume.proofs.writing.write_table.Goals as goal

pub loop-k-init : goal.loop-k-init
loop-k-init c = heading_written c.entries-entries.result.now c.put.new.bytes c.put-2.new.bytes c.put.ensures c.put-2.ensures

pub loop-k-preserved : goal.loop-k-preserved
loop-k-preserved c =
    let entries = c.entries-entries.result.now in
    let k = c.loop-k.k in
    let entry = c.index-entries-k.result in
    let rules = c.entries-entries.ensures.rules in
    let few : length entries ≤ 15 = omega (arith, rules.few, ap (length {A = Entry}) c.entries-entries.ensures.value) in
    let room : All HasRoom entries = subst (All HasRoom) (sym c.entries-entries.ensures.value) (AllHaveRoom-table c.args.table.now rules) in
    let so_far = length-entries (take k entries) (All-take HasRoom k entries room) ∙ ap (λ (n : ℕ). 32 * n) (length-take-le k entries (omega arith)) in
    let short = (subst HasRoom (sym c.index-entries-k.is) (room k entry c.loop-k-test.true)).name in
    entries_written entries k entry c.loop-k.bytes c.put-in-loop-k.new.bytes c.loop-k-test.true few c.index-entries-k.is so_far (length-entry_bytes entry short) c.loop-k.invariant
    (c.put-in-loop-k.ensures ∙ ap (λ (l : List ℕ). with_field c.loop-k.bytes (32 + 32 * k) l) c.entry_bytes.ensures)

pub returns : goal.returns
returns c =
    table_written c.entries-entries.result.now c.loop-k.k c.loop-k.bytes (omega arith) c.loop-k.invariant
    ∙ ap table_bytes c.entries-entries.ensures.value
