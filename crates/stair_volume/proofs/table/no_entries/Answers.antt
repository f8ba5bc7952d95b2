-- `_` is a name.
use Rattle.std.proofs.Common.{[], ◌∷◌, refl}
use Rattle.stair_volume.proofs.TestLaws.{Decides-name}
use Rattle.stair_volume.proofs.table.no_entries.Goals as goal

pub unreachable-requires : goal.unreachable-requires
unreachable-requires c = c.in_default.not-Some (95 ∷ []) ((c.new.ensures (95 ∷ [])).1 (refl, (Decides-name (95 ∷ [])).0 refl))
