-- What clap makes of the words of each command on volumes.
use Rattle.std.proofs.Common.{◌≡◌, ◌∙◌, ℕ, true, List, [], ◌∷◌, Some, length, refl, sym, ap, arith}
use Rattle.std.specs.Prelude.{codes}
use Rattle.std.specs.Fmt.{decimal}
use Rattle.clap.specs.Walk.{Rule, Text, first_of, nothing_held, rows_after}
use Rattle.clap.specs.Simple.{built}
use Rattle.clap.specs.Faults.{built_fault}
use Rattle.clap.specs.Takes.{built_takes}
use Rattle.stair_conf.specs.Commands.{HasNoOption, name_app, new_volume_app, volume_blocks_app}
use Rattle.stair_conf.specs.Rows.{HasNameWord, HasNewVolume, HasVolumeBlocks}
use Rattle.stair_conf.specs.Words.{SpellsName, SpellsNewVolume, SpellsVolumeBlocks}
use Rattle.stair_conf.proofs.RowLemmas.{HoldsNewVolume, HoldsVolumeBlocks, new_volume_held, new_volume_spelled, volume_blocks_held, volume_blocks_spelled}
use Rattle.stair_conf.proofs.WalkLaws.{neither_fails, walk_fault-places}
use Rattle.stair_conf.proofs.CommandLaws.{built_takes-placed, no_first, rows_after-placed, start, start_plain}

-- ---- a name

abbrev name_rules : List Rule
name_rules = (built name_app).top.rules

name_holds : (a : Text) → HasNoOption (a ∷ []) → first_of (codes "NAME") (rows_after name_rules [] (a ∷ [])) ≡ Some a
name_holds a none = ap (first_of (codes "NAME")) (rows_after-placed name_rules refl (a ∷ []) none)

-- clap refuses more than one word
name_refused : (a b : Text) (rest : List Text) → HasNoOption (a ∷ b ∷ rest)
    → built_fault (built name_app) nothing_held (a ∷ b ∷ rest) ≡ [] → ⊥
name_refused a b rest none free =
    let no_stray = walk_fault-places (built name_app).top refl (a ∷ b ∷ rest) none start start_plain (neither_fails _ _ free).0 in
    cc

pub name_told : (words : List Text) → HasNoOption words → built_fault (built name_app) nothing_held words ≡ [] → (name : Text)
    → HasNameWord (rows_after name_rules [] words) (codes "NAME") name → SpellsName [] words name
name_told [] none free name has = absurd (no_first (codes "NAME") _ _ name (rows_after-placed name_rules refl [] none) refl has.first)
name_told (a ∷ []) none free name has =
    let first : Some a ≡ Some name = sym (name_holds a none) ∙ has.first in
    record { spelled = cc; is_name = has.is_name }
name_told (a ∷ b ∷ rest) none free name has = absurd (name_refused a b rest none free)

pub name_tells : (words : List Text) → HasNoOption words → (name : Text)
    → SpellsName [] words name → HasNameWord (rows_after name_rules [] words) (codes "NAME") name
name_tells (a ∷ []) none name spells =
    let words_are = spells.spelled in
    let a_is : a ≡ name = cc in
    record { first = name_holds a none ∙ ap Some a_is; is_name = spells.is_name }
name_tells words none name spells = absurd (omega (arith, ap length spells.spelled))

pub name_taken : (words : List Text) → HasNoOption words → (name : Text)
    → SpellsName [] words name → built_takes (built name_app) nothing_held words ≡ true
name_taken (a ∷ []) none name spells = built_takes-placed (built name_app).top refl (a ∷ []) none
name_taken words none name spells = absurd (omega (arith, ap length spells.spelled))

-- ---- a name, and a number of blocks

abbrev new_volume_rules : List Rule
new_volume_rules = (built new_volume_app).top.rules

new_volume_holds : (a b : Text) → HasNoOption (a ∷ b ∷ []) → HoldsNewVolume (rows_after new_volume_rules [] (a ∷ b ∷ [])) a b
new_volume_holds a b none =
    let rows = rows_after-placed new_volume_rules refl (a ∷ b ∷ []) none in
    record { name_row = ap (first_of (codes "NAME")) rows; blocks_row = ap (first_of (codes "BLOCKS")) rows }

-- clap refuses more than two words
new_volume_refused : (a b c : Text) (rest : List Text) → HasNoOption (a ∷ b ∷ c ∷ rest)
    → built_fault (built new_volume_app) nothing_held (a ∷ b ∷ c ∷ rest) ≡ [] → ⊥
new_volume_refused a b c rest none free =
    let no_stray = walk_fault-places (built new_volume_app).top refl (a ∷ b ∷ c ∷ rest) none start start_plain (neither_fails _ _ free).0 in
    cc

pub new_volume_told : (words : List Text) → HasNoOption words → built_fault (built new_volume_app) nothing_held words ≡ []
    → (name : Text) (blocks : ℕ) → HasNewVolume (rows_after new_volume_rules [] words) name blocks → SpellsNewVolume [] words name blocks
new_volume_told [] none free name blocks has =
    absurd (no_first (codes "BLOCKS") _ _ (decimal blocks) (rows_after-placed new_volume_rules refl [] none) refl has.blocks_word.first)
new_volume_told (a ∷ []) none free name blocks has =
    absurd (no_first (codes "BLOCKS") _ _ (decimal blocks) (rows_after-placed new_volume_rules refl (a ∷ []) none) refl has.blocks_word.first)
new_volume_told (a ∷ b ∷ []) none free name blocks has = new_volume_spelled _ a b name blocks (new_volume_holds a b none) has
new_volume_told (a ∷ b ∷ c ∷ rest) none free name blocks has = absurd (new_volume_refused a b c rest none free)

pub new_volume_tells : (words : List Text) → HasNoOption words → (name : Text) (blocks : ℕ)
    → SpellsNewVolume [] words name blocks → HasNewVolume (rows_after new_volume_rules [] words) name blocks
new_volume_tells (a ∷ b ∷ []) none name blocks spells = new_volume_held _ a b name blocks (new_volume_holds a b none) spells
new_volume_tells words none name blocks spells = absurd (omega (arith, ap length spells.spelled))

pub new_volume_taken : (words : List Text) → HasNoOption words → (name : Text) (blocks : ℕ)
    → SpellsNewVolume [] words name blocks → built_takes (built new_volume_app) nothing_held words ≡ true
new_volume_taken (a ∷ b ∷ []) none name blocks spells = built_takes-placed (built new_volume_app).top refl (a ∷ b ∷ []) none
new_volume_taken words none name blocks spells = absurd (omega (arith, ap length spells.spelled))

-- ---- a name, a block and a count

abbrev volume_blocks_rules : List Rule
volume_blocks_rules = (built volume_blocks_app).top.rules

volume_blocks_holds : (a b c : Text) → HasNoOption (a ∷ b ∷ c ∷ [])
    → HoldsVolumeBlocks (rows_after volume_blocks_rules [] (a ∷ b ∷ c ∷ [])) a b c
volume_blocks_holds a b c none =
    let rows = rows_after-placed volume_blocks_rules refl (a ∷ b ∷ c ∷ []) none in
    record {
      name_row = ap (first_of (codes "NAME")) rows;
      block_row = ap (first_of (codes "BLOCK")) rows;
      count_row = ap (first_of (codes "COUNT")) rows;
    }

-- clap refuses more than three words
volume_blocks_refused : (a b c d : Text) (rest : List Text) → HasNoOption (a ∷ b ∷ c ∷ d ∷ rest)
    → built_fault (built volume_blocks_app) nothing_held (a ∷ b ∷ c ∷ d ∷ rest) ≡ [] → ⊥
volume_blocks_refused a b c d rest none free =
    let no_stray =
    walk_fault-places (built volume_blocks_app).top refl (a ∷ b ∷ c ∷ d ∷ rest) none start start_plain (neither_fails _ _ free).0 in
    cc

pub volume_blocks_told : (words : List Text) → HasNoOption words → built_fault (built volume_blocks_app) nothing_held words ≡ []
    → (name : Text) (block count : ℕ) → HasVolumeBlocks (rows_after volume_blocks_rules [] words) name block count
    → SpellsVolumeBlocks [] words name block count
volume_blocks_told [] none free name block count has =
    absurd (no_first (codes "COUNT") _ _ (decimal count) (rows_after-placed volume_blocks_rules refl [] none) refl has.count_word.first)
volume_blocks_told (a ∷ []) none free name block count has =
    absurd (no_first (codes "COUNT") _ _ (decimal count) (rows_after-placed volume_blocks_rules refl (a ∷ []) none) refl has.count_word.first)
volume_blocks_told (a ∷ b ∷ []) none free name block count has =
    absurd (no_first (codes "COUNT") _ _ (decimal count) (rows_after-placed volume_blocks_rules refl (a ∷ b ∷ []) none) refl has.count_word.first)
volume_blocks_told (a ∷ b ∷ c ∷ []) none free name block count has =
    volume_blocks_spelled _ a b c name block count (volume_blocks_holds a b c none) has
volume_blocks_told (a ∷ b ∷ c ∷ d ∷ rest) none free name block count has = absurd (volume_blocks_refused a b c d rest none free)

pub volume_blocks_tells : (words : List Text) → HasNoOption words → (name : Text) (block count : ℕ)
    → SpellsVolumeBlocks [] words name block count → HasVolumeBlocks (rows_after volume_blocks_rules [] words) name block count
volume_blocks_tells (a ∷ b ∷ c ∷ []) none name block count spells =
    volume_blocks_held _ a b c name block count (volume_blocks_holds a b c none) spells
volume_blocks_tells words none name block count spells = absurd (omega (arith, ap length spells.spelled))

pub volume_blocks_taken : (words : List Text) → HasNoOption words → (name : Text) (block count : ℕ)
    → SpellsVolumeBlocks [] words name block count → built_takes (built volume_blocks_app) nothing_held words ≡ true
volume_blocks_taken (a ∷ b ∷ c ∷ []) none name block count spells =
    built_takes-placed (built volume_blocks_app).top refl (a ∷ b ∷ c ∷ []) none
volume_blocks_taken words none name block count spells = absurd (omega (arith, ap length spells.spelled))
