-- Which of two superblocks is the newer one.
use Rattle.std.proofs.Common.{rules, ◌≡◌, Some}
use Rattle.std.specs.Prelude.{IsTrue, ◌↔◌}
use Rattle.stair_super.specs.Superblock.{Superblock}
use Rattle.stair_super.specs.Newer.{IsOlder, is_older, newer_super}

pub older_is : (a b : Superblock) → IsTrue (is_older a b) ↔ IsOlder a b
older_is a b = search rules

pub newer_second : (a b : Superblock) → IsOlder a b → newer_super (Some a) (Some b) ≡ Some b
newer_second a b older = search rules

pub newer_first : (a b : Superblock) → ¬ IsOlder a b → newer_super (Some a) (Some b) ≡ Some a
newer_first a b older = search rules
