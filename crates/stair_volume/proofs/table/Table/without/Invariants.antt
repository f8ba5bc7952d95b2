-- Those of the entries so far that have another name.
use Rattle.std.proofs.Common.{◌≡◌, ◌≤◌, length, not, take}
use Rattle.std.specs.Prelude.{filter}
use Rattle.stair_volume.specs.Table.{is_named}
use Rattle.stair_volume.proofs.table.Table.without.Given as goal

abbrev pub invariant-loop-entry : goal.invariant-loop-entry
invariant-loop-entry l = record {
  kept : take l.len l.entries ≡ filter (λ entry. not (is_named l.name entry)) (take l.entry-index l.entry-items);
  few : l.len ≤ l.entry-index;
  whole : length l.entries ≡ 15;
}
