-- The name keeps its rules, so the test of the blocks decides.
use Rattle.std.proofs.Common.{◌≡◌, true, ap, ◌∙◌, sym, ◌&&◌, Bool}
use Rattle.std.specs.Prelude.{nat_le}
use Rattle.std.proofs.lemmas.Bool.{le-leb}
use Rattle.stair_volume.specs.Table.{is_name, is_within}
use Rattle.stair_volume.proofs.TestLaws.{Decides-name}
use Rattle.stair_volume.proofs.table.is_volume.Goals as goal

pub returns-then-entry-ge1 : goal.returns-then-entry-ge1
returns-then-entry-ge1 c =
    let entry = c.args.entry.now in
    let name : is_name entry.name ≡ true = (Decides-name entry.name).1 (c.bytes-name.ensures.rules) in
    let some : nat_le 1 entry.extent.blocks ≡ true = le-leb 1 entry.extent.blocks c.if-entry-ge1.true in
    c.is_within.ensures
    ∙ sym (ap (λ (b : Bool). b && is_within c.args.blocks entry.extent) some)
    ∙ sym (ap (λ (b : Bool). b && (nat_le 1 entry.extent.blocks && is_within c.args.blocks entry.extent)) name)
