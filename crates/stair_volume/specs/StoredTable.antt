-- How a table is represented.
use Rattle.std.specs.Prelude.{◌≡◌, ◌≤◌, length, take}
use Rattle.stair_volume.specs.Table.{Table, IsTable, table_with}
use Rattle.stair_volume.specs.declared.table.Table.TheInside.{Inside}

-- the table of the first `len` of 15 entries
abbrev pub shown : Inside → Table
shown a = table_with a.blocks (take a.len a.entries)

pub record IsStored (a : Inside) : Type 0 where
  pub rules : IsTable (shown a)
  pub count : a.len ≤ 15
  pub whole : length a.entries ≡ 15
