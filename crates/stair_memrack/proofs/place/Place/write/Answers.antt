-- A slot that isn't stopped can be written once more.
use Rattle.std.proofs.Common.{◌<◌, ◌-◌, ◌^◌, sym, subst}
use Rattle.stair_memrack.specs.Disk.{stored_in}
use Rattle.stair_memrack.specs.Place.{PlaceState}
use Rattle.stair_memrack.proofs.place.Place.write.Goals as goal

pub write-requires-clause-pending : goal.write-requires-clause-pending
write-requires-clause-pending c =
    subst (λ m. (stored_in m c.args.sector).pending < 2 ^ 32 - 1) c.in-Some.is
    (subst (λ (p : PlaceState). (stored_in p.medium c.args.sector).pending < 2 ^ 32 - 1) (sym c.self.view_is) (c.requires c.if-stopped.false c.args.sector))
