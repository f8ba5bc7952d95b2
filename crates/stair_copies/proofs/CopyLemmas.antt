-- The superblock of a device by the bytes of its two places, and whether it shows an older copy.
use Rattle.std.proofs.Common.{◌≡◌, ℕ, refl, sym, subst, Option, None, Some, List}
use Rattle.std.specs.Prelude.{IfSome}
use Rattle.stair_rack.specs.Sector.{Cell, Good}
use Rattle.stair_super.specs.Spelling.{SpellsSuperblock}
use Rattle.stair_super.specs.Superblock.{Superblock}
use Rattle.stair_super.specs.declared.configuration.Configuration.{Configuration}
use Rattle.stair_member.specs.Superblocks.{HoldsSuper, HoldsThis}
use Rattle.stair_member.specs.JudgeSteps.{IsNewest}
use Rattle.stair_member.proofs.DecisionLemmas.{spelled_here}
use Rattle.stair_member.proofs.SuperLemmas.{one_super, super_held}
use Rattle.stair_copies.specs.Copies.{HoldsBoth, IsBehind, IsCopyDraw}

-- a place that holds these bytes holds the superblock that they spell, or none
holds_spelled : (cell : Cell) (bytes : List ℕ) (s : Superblock) → cell ≡ Good bytes → SpellsSuperblock bytes s → HoldsThis cell (Some s)
holds_spelled cell bytes s is spells = record { bytes = bytes; good = is; spells = spells }

holds_none : (cell : Cell) (bytes : List ℕ) → cell ≡ Good bytes → ((s : Superblock) → ¬ SpellsSuperblock bytes s) → HoldsThis cell None
holds_none cell bytes is none s holds = none s (spelled_here bytes s (subst (λ (c : Cell). HoldsSuper c s) is holds))

-- so it holds what was read of these bytes
pub holds_read : (cell : Cell) (bytes : List ℕ) (o : Option Superblock) → cell ≡ Good bytes → IfSome o (λ s. SpellsSuperblock bytes s)
    → (o ≡ None → (s : Superblock) → ¬ SpellsSuperblock bytes s) → HoldsThis cell o
holds_read cell bytes None is ok none = holds_none cell bytes is (none refl)
holds_read cell bytes (Some s) is ok none = holds_spelled cell bytes s is ok

-- a device without a superblock is no older copy
pub no_copy : (array : Configuration) (j : ℕ) (cell : ℕ → Cell) → IsNewest cell None → IsCopyDraw array j cell None
no_copy array j cell none copy = none (super_held cell copy.super copy.is_super)

-- nor is one whose superblock doesn't show it
pub not_behind : (array : Configuration) (j : ℕ) (cell : ℕ → Cell) (s : Superblock) → IsNewest cell (Some s) → ¬ IsBehind array j s
    → IsCopyDraw array j cell None
not_behind array j cell s is not copy =
    not (subst (IsBehind array j) (one_super cell copy.super s copy.is_super is) copy.behind)

pub is_copy : (array : Configuration) (j : ℕ) (cell : ℕ → Cell) (first second : List ℕ) (s : Superblock) → HoldsBoth cell first second
    → IsNewest cell (Some s) → IsBehind array j s → (draw : ℕ) → draw ≡ s.draw → IsCopyDraw array j cell (Some draw)
is_copy array j cell first second s holds is behind draw same = (
  record { first = first; second = second; holds = holds; super = s; is_super = is; behind = behind },
  sym same,
)
