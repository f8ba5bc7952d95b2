-- The bytes that are written are those of the superblock, and a large array has no others.
use Rattle.std.proofs.Common.{◌≡◌, ℕ, true, List, ◌++◌, inl, inr, refl, sym, ap, subst, take, ◌∙◌}
use Rattle.std.specs.Prelude.{codes}
use Rattle.std.proofs.lemmas.Bool.{cases_Bool}
use Rattle.std.proofs.lemmas.List.{take_at}
use Rattle.stair_model.specs.Geometry.{Geometry, IsSmall, is_small}
use Rattle.stair_model.proofs.LimitLaws.{known_small, small_decides}
use Rattle.stair_super.specs.declared.configuration.Configuration.{Configuration}
use Rattle.stair_super.specs.declared.version.Version.{Version}
use Rattle.stair_super.specs.declared.version.Version.TheVariants.{One, Two, Three}
use Rattle.stair_super.specs.Superblock.{Superblock, IsSuperblock}
use Rattle.stair_super.specs.Spelling.{CanSay, SpellsSuperblock, IsOfVersion, fields, magic, notes_part, spelled, spelled_in, version_for}

pub small_version : (g : Geometry) → IsSmall g → version_for g ≡ Two
unfolding version_for
small_version g small =
    let test : is_small g ≡ true = (small_decides g).1 small in
    rw test refl

pub large_version : (g : Geometry) → ¬ IsSmall g → version_for g ≡ Three
unfolding version_for
large_version g large =
    elim (cases_Bool (is_small g)) [
      | inl test ↦ absurd (large ((small_decides g).0 test))
      | inr test ↦ rw test refl
    ]

-- what is written can say it all
written_says : (array : Configuration) → CanSay (version_for array.geometry) array
written_says array =
    elim (known_small array.geometry) [
      | inl small ↦
          subst (λ (v : Version). CanSay v array) (sym (small_version array.geometry small)) (record { size = small; notes = tt })
      | inr large ↦
          subst (λ (v : Version). CanSay v array) (sym (large_version array.geometry large)) (record { size = large; notes = tt })
    ]

-- the bytes that are written are those of the superblock
pub spells : (s : Superblock) → IsSuperblock s → SpellsSuperblock (spelled s) s
spells s block = record { block = block; version = version_for s.array.geometry; said = written_says s.array; text = refl }

-- of a small array they are those of version 2
pub spelled_two : (s : Superblock) → IsSmall s.array.geometry → spelled s ≡ spelled_in Two s
spelled_two s small = ap (λ (v : Version). spelled_in v s) (small_version s.array.geometry small)

-- a large array is none of another version
only_three : (version : Version) (g : Geometry) → ¬ IsSmall g → IsOfVersion version g → version ≡ Three
only_three One g large small = absurd (large small)
only_three Two g large small = absurd (large small)
only_three Three g large is = refl

first_bytes : (s : Superblock) → take 8 (spelled_in Three s) ≡ codes "STAIRSB3"
unfolding spelled_in
first_bytes s = take_at (magic Three) (fields s ++ notes_part Three s.array) 8 refl

-- a large array has one spelling, and not that of older programs
pub spelled_large : (bytes : List ℕ) (s : Superblock) → SpellsSuperblock bytes s → ¬ IsSmall s.array.geometry
    → (bytes ≡ spelled s) × (take 8 bytes ≡ codes "STAIRSB3")
spelled_large bytes s h large =
    let text : bytes ≡ spelled_in Three s = h.text ∙ ap (λ (v : Version). spelled_in v s) (only_three h.version s.array.geometry large h.said.size) in (
      text ∙ ap (λ (v : Version). spelled_in v s) (sym (large_version s.array.geometry large)),
      ap (λ (l : List ℕ). take 8 l) text ∙ first_bytes s,
    )
