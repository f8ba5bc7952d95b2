-- Following sectors of a slot: they are written one after the other, and then the slot is synced.
use Rattle.std.specs.Prelude.{◌≡◌, ℕ, ◌+◌, List, [], ◌∷◌, ◌++◌, Option, Some}
use Rattle.std.specs.Io.KnownBytes.{Appends}
use Rattle.stair_image.specs.Seal.{sealed}
use Rattle.stair_filerack.specs.Files.{FindsSector, WritesSector}
use Rattle.stair_filerack.specs.Slot.{HeldFile, released}

-- sectors with these payloads were written, in order, from this sector on
abbrev pub WritesFollowing : {T : Type 0} → (T → Option ℕ) → (T → Option (List ℕ)) → ℕ → List (List ℕ) →
    HeldFile T → HeldFile T → Type 0
WritesFollowing place held sector [] old new = new ≡ old
WritesFollowing {T} place held sector (payload ∷ payloads) old new =
    (mid : HeldFile T) × WritesSector place held sector payload old mid
    × WritesFollowing place held (sector + 1) payloads mid new

-- these payloads, sealed from this sector on
abbrev pub all_sealed : ℕ → List (List ℕ) → List ℕ
all_sealed sector [] = []
all_sealed sector (payload ∷ payloads) = sealed sector payload ++ all_sealed (sector + 1) payloads

-- The file was at the sector, and then exactly these bytes were written to it, which are so many sectors. What was held was
-- released, and nothing is pending.
abbrev pub WroteFrom : {T : Type 0} → (T → Option ℕ) → (T → Option (List ℕ)) → ℕ → ℕ → List ℕ →
    HeldFile T → HeldFile T → Type 0
WroteFrom {T} place held sector count bytes old new =
    (found : T) × FindsSector place sector old.image found
    × Appends (held found) (held new.image.file) bytes
    × (new.image.next ≡ Some (sector + count)) × (new.image.ahead ≡ released old.image.ahead)
    × (new.pending ≡ [])
