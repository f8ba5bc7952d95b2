-- Sectors that are pending.
use Rattle.std.proofs.Common.{◌≡◌, ℕ, List, Option, ap, inl, inr}
use Rattle.stair_filerack.specs.Files.{MakesWay}
use Rattle.stair_filerack.specs.Slot.{HeldFile}

-- what is held of a file stays while sectors that are pending go to it
pub way_keeps : {T : Type 0} (contents : T → Option (List ℕ)) (sector : ℕ) (old new : HeldFile T) → MakesWay contents sector old new
    → new.image.ahead ≡ old.image.ahead
way_keeps contents sector old new (inl (gathered, same)) = ap (λ held. held.image.ahead) same
way_keeps contents sector old new (inr (apart, (out, put, unchanged, none))) = ap (λ image. image.ahead) unchanged
