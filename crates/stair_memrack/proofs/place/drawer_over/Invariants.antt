-- the media below the index, and the drawer's memory
use Rattle.std.proofs.Common.{◌≡◌, map, take}
use Rattle.std.specs.Prelude.{vec_capacity}
use Rattle.stair_memrack.specs.Origin.{held}
use Rattle.stair_memrack.proofs.place.drawer_over.Given as goal

abbrev pub invariant-loop-cells : goal.invariant-loop-cells
invariant-loop-cells l =
    (l.drawer.items ≡ map (map held) (take l.cells-index l.cells-items)) × (vec_capacity l.drawer ≡ vec_capacity l.initial.drawer)
