-- The marks so far.
use Rattle.std.proofs.Common.{◌≡◌, ℕ, ◌<◌, length, get_or}
use Rattle.stair_super.specs.Superblock.{Superblock, mark_at}
use Rattle.stair_super.specs.Spelling.{SpellsSuperblock}
use Rattle.stair_super.specs.declared.mark.Mark.TheVariants.{Down}
use Rattle.stair_super.proofs.reading.marks_of.Given as goal

abbrev pub invariant-loop-slot : goal.invariant-loop-slot
invariant-loop-slot l = record {
  sized : length l.marks ≡ 32;
  read : (s : Superblock) → SpellsSuperblock l.bytes s → l.n ≡ s.array.geometry.n → (k : ℕ) → k < l.slot → get_or l.marks k Down ≡ mark_at s k;
}
