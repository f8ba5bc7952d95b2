use Rattle.stair_volume.proofs.PageLaws.{entry_bytes-small, table_bytes-small, table_is_bytes, table_is_sector}
use Rattle.stair_volume.proofs.ReadingLaws.{table_of-is, one_table, table_of-table_bytes}
use Rattle.stair_volume.proofs.RoomLaws.{room_is_least, no_room_is}
use Rattle.stair_volume.proofs.ChangeLaws.{find_is_volume, added_by_with, IsTable-added, removed_by_without, IsTable-removed}
use Rattle.stair_volume.proofs.laws.table_laws.Goals as goal

pub returns-clause-read : goal.returns-clause-read
returns-clause-read c = table_of-is

pub returns-clause-once : goal.returns-clause-once
returns-clause-once c = one_table

pub returns-clause-back : goal.returns-clause-back
returns-clause-back c = table_of-table_bytes

pub returns-clause-sector : goal.returns-clause-sector
returns-clause-sector c = table_is_sector

pub returns-clause-bytes : goal.returns-clause-bytes
returns-clause-bytes c = table_is_bytes

pub returns-clause-small : goal.returns-clause-small
returns-clause-small c = λ entry first blocks. entry_bytes-small entry (record { first = first; blocks = blocks })

pub returns-clause-as_before : goal.returns-clause-as_before
returns-clause-as_before c = table_bytes-small

pub returns-clause-found : goal.returns-clause-found
returns-clause-found c = find_is_volume

pub returns-clause-least : goal.returns-clause-least
returns-clause-least c = room_is_least

pub returns-clause-no_room : goal.returns-clause-no_room
returns-clause-no_room c = no_room_is

pub returns-clause-adds : goal.returns-clause-adds
returns-clause-adds c = added_by_with

pub returns-clause-added : goal.returns-clause-added
returns-clause-added c = λ old new name count rules is_name some done. IsTable-added old new name count rules is_name some (added_by_with old new name count done)

pub returns-clause-removes : goal.returns-clause-removes
returns-clause-removes c = removed_by_without

pub returns-clause-removed : goal.returns-clause-removed
returns-clause-removed c = IsTable-removed
