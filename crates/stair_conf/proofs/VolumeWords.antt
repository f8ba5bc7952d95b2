-- What the word of a command on volumes says of the job that the words spell.
use Rattle.std.proofs.Common.{◌≡◌, ◌≢◌, ◌∙◌, ℕ, List, [], ◌∷◌, length, drop, get_or, refl, sym, ap, subst}
use Rattle.std.specs.Prelude.{codes}
use Rattle.stair_conf.specs.declared.job.VolumeJob.{VolumeJob}
use Rattle.stair_conf.specs.declared.job.VolumeJob.TheVariants as volume
use Rattle.stair_conf.specs.Words.{IsVolumeWord, SpellsName, SpellsNewVolume, SpellsVolume, SpellsVolumeBlocks}
use Rattle.stair_conf.proofs.VolumeLemmas.{volume_first, volume_word, volume_word_of}
use Rattle.stair_conf.proofs.CommandWords.{one_first, two_words}

-- ---- the operands after the first word

pub begins_volume : (words : List (List ℕ)) (job : VolumeJob) → words ≡ volume_word_of job ∷ drop 1 words → IsVolumeWord (get_or words 0 [])
begins_volume words job opens = subst IsVolumeWord (sym (ap (λ ws. get_or ws 0 []) opens)) (volume_word job)

pub name_with : (word : List ℕ) (words : List (List ℕ)) (name : List ℕ) → words ≡ word ∷ drop 1 words → SpellsName [] (drop 1 words) name
    → SpellsName (word ∷ []) words name
name_with word words name opens spells = record { spelled = opens ∙ ap (λ ws. word ∷ ws) spells.spelled; is_name = spells.is_name }

pub new_volume_with : (word : List ℕ) (words : List (List ℕ)) (name : List ℕ) (blocks : ℕ) → words ≡ word ∷ drop 1 words
    → SpellsNewVolume [] (drop 1 words) name blocks → SpellsNewVolume (word ∷ []) words name blocks
new_volume_with word words name blocks opens spells = record {
  spelled = opens ∙ ap (λ ws. word ∷ ws) spells.spelled;
  is_name = spells.is_name;
  some = spells.some;
  fits = spells.fits;
}

pub volume_blocks_with : (word : List ℕ) (words : List (List ℕ)) (name : List ℕ) (block count : ℕ) → words ≡ word ∷ drop 1 words
    → SpellsVolumeBlocks [] (drop 1 words) name block count → SpellsVolumeBlocks (word ∷ []) words name block count
volume_blocks_with word words name block count opens spells = record {
  spelled = opens ∙ ap (λ ws. word ∷ ws) spells.spelled;
  is_name = spells.is_name;
  block_fits = spells.block_fits;
  count_fits = spells.count_fits;
}

volume_blocks_after : (word : List ℕ) (words : List (List ℕ)) (name : List ℕ) (block count : ℕ)
    → SpellsVolumeBlocks (word ∷ []) words name block count → SpellsVolumeBlocks [] (drop 1 words) name block count
volume_blocks_after word words name block count spells = record {
  spelled = ap (drop 1) spells.spelled;
  is_name = spells.is_name;
  block_fits = spells.block_fits;
  count_fits = spells.count_fits;
}

-- ---- where a command's operands are refused the words spell no job on volumes

pub no_make : (words : List (List ℕ)) (job : VolumeJob) → words ≡ codes "vmake" ∷ drop 1 words
    → ((name : List ℕ) (blocks : ℕ) → SpellsNewVolume [] (drop 1 words) name blocks → ⊥) → SpellsVolume words job → ⊥
no_make words (volume.Make name blocks) opens none spells =
    none name blocks record { spelled = ap (drop 1) spells.spelled; is_name = spells.is_name; some = spells.some; fits = spells.fits }
no_make words job opens none spells = two_words (codes "vmake") (volume_word_of job) words opens (volume_first words job spells) refl

pub no_drop : (words : List (List ℕ)) (job : VolumeJob) → words ≡ codes "vdrop" ∷ drop 1 words
    → ((name : List ℕ) → SpellsName [] (drop 1 words) name → ⊥) → SpellsVolume words job → ⊥
no_drop words (volume.Remove name) opens none spells = none name record { spelled = ap (drop 1) spells.spelled; is_name = spells.is_name }
no_drop words job opens none spells = two_words (codes "vdrop") (volume_word_of job) words opens (volume_first words job spells) refl

-- the words aren't a name and two numbers
abbrev pub NoVolumeBlocks : List (List ℕ) → Type 0
NoVolumeBlocks words = (name : List ℕ) (block count : ℕ) → SpellsVolumeBlocks [] words name block count → ⊥

pub no_volume_read : (words : List (List ℕ)) (job : VolumeJob) → words ≡ codes "vread" ∷ drop 1 words → NoVolumeBlocks (drop 1 words)
    → SpellsVolume words job → ⊥
no_volume_read words (volume.Read name block count) opens none spells =
    none name block count (volume_blocks_after (codes "vread") words name block count spells)
no_volume_read words job opens none spells = two_words (codes "vread") (volume_word_of job) words opens (volume_first words job spells) refl

pub no_volume_write : (words : List (List ℕ)) (job : VolumeJob) → words ≡ codes "vwrite" ∷ drop 1 words → NoVolumeBlocks (drop 1 words)
    → SpellsVolume words job → ⊥
no_volume_write words (volume.Write name block count) opens none spells =
    none name block count (volume_blocks_after (codes "vwrite") words name block count spells)
no_volume_write words job opens none spells = two_words (codes "vwrite") (volume_word_of job) words opens (volume_first words job spells) refl

-- ---- other words

-- the word of no command with operands
pub record IsOther (word : List ℕ) : Type 0 where
  pub make : word ≢ codes "vmake"
  pub remove : word ≢ codes "vdrop"
  pub read : word ≢ codes "vread"
  pub write : word ≢ codes "vwrite"

pub lone_volume : (word : List ℕ) (words : List (List ℕ)) (total : ℕ) (job : VolumeJob) → words ≡ word ∷ drop 1 words → length words ≡ total → IsOther word
    → SpellsVolume words job → total ≡ 1
lone_volume word words total (volume.Make name blocks) opens counts other spells = absurd (other.make (one_first word _ words opens (ap (λ ws. get_or ws 0 []) spells.spelled)))
lone_volume word words total (volume.Remove name) opens counts other spells = absurd (other.remove (one_first word _ words opens (ap (λ ws. get_or ws 0 []) spells.spelled)))
lone_volume word words total (volume.Read name block count) opens counts other spells = absurd (other.read (one_first word _ words opens (ap (λ ws. get_or ws 0 []) spells.spelled)))
lone_volume word words total (volume.Write name block count) opens counts other spells = absurd (other.write (one_first word _ words opens (ap (λ ws. get_or ws 0 []) spells.spelled)))
lone_volume word words total job opens counts other spells = sym counts ∙ ap length spells
