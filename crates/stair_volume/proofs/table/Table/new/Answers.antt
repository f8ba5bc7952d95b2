-- The test decides whether it is well formed.
use Rattle.std.proofs.Common.{Some, take, sym, ap, subst, arith, rules as std_rules}
use Rattle.std.proofs.lemmas.Bool.{both_ways}
use Rattle.std.proofs.lemmas.Option.{none-some, same_Some}
use Rattle.std.proofs.lemmas.List.{length-take}
use Rattle.stair_volume.specs.declared.extent.Entry.{Entry}
use Rattle.stair_volume.specs.Table.{IsTable, table_with}
use Rattle.stair_volume.proofs.TestLaws.{IsTable-from_volumes, volumes_from_table}
use Rattle.stair_volume.proofs.table.Table.new.Goals as goal

pub returns-then-not-are_volumes : goal.returns-then-not-are_volumes
returns-then-not-are_volumes c = λ table. (
  λ found. absurd (none-some table found),
  λ h. absurd (both_ways _ (sym c.if-not-are_volumes.ensures) (volumes_from_table (table_with c.args.blocks (take c.args.len c.args.entries)) (subst IsTable h.0 h.1))),
)

rules : (c : goal.Else-not-are_volumes) → IsTable (table_with c.args.blocks (take c.args.len c.args.entries))
rules c = IsTable-from_volumes c.args.blocks (take c.args.len c.args.entries) c.requires.size (omega (arith, length-take {A = Entry} c.args.len c.args.entries)) (sym c.if-not-are_volumes.ensures)

pub invariant_of-result : goal.invariant_of-result
invariant_of-result c = record { rules = rules c; count = c.requires.few; whole = search std_rules }

pub returns : goal.returns
returns c = λ table. (
  λ found. let same = same_Some _ table found in (sym same, subst IsTable same (rules c)),
  λ h. ap Some (sym h.0),
)
