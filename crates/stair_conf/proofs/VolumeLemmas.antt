-- What the words of a command on volumes are.
use Rattle.std.proofs.Common.{◌≡◌, ◌∙◌, ℕ, List, [], ◌∷◌, false, get_or, refl, sym, ap, inl, inr, arith}
use Rattle.std.specs.Prelude.{codes}
use Rattle.std.specs.Str.{bytes_eq}
use Rattle.std.specs.Fmt.{decimal}
use Rattle.std.proofs.lemmas.Fmt.{decimal_injective}
use Rattle.std.proofs.lemmas.List.{append_cancel_left}
use Rattle.std.proofs.lemmas.List.Elements.{All-cons, All-get_or, All-nil}
use Rattle.std.proofs.lemmas.Bool.Decides.{not_from_Decides}
use Rattle.std.proofs.lemmas.Slice.Eq.{bytes_eq-Decides}
use Rattle.stair_conf.specs.declared.job.VolumeJob.{VolumeJob}
use Rattle.stair_conf.specs.declared.job.VolumeJob.TheVariants as volume
use Rattle.stair_conf.specs.Commands.{HasNoOption, IsPlainWord}
use Rattle.stair_conf.specs.Name.{IsName, IsNameByte}
use Rattle.stair_conf.specs.Words.{IsVolumeWord, SpellsName, SpellsNewVolume, SpellsVolume, SpellsVolumeBlocks}
use Rattle.stair_conf.proofs.NumberLemmas.{decimal_plain}

-- ---- the first words

-- the command's word
abbrev pub volume_word_of : VolumeJob → List ℕ
volume_word_of volume.Ready = codes "vinit"
volume_word_of (volume.Make name blocks) = codes "vmake"
volume_word_of (volume.Remove name) = codes "vdrop"
volume_word_of volume.List = codes "vlist"
volume_word_of (volume.Read name block count) = codes "vread"
volume_word_of (volume.Write name block count) = codes "vwrite"

-- the words of a job on volumes begin with the command's
pub volume_first : (words : List (List ℕ)) (job : VolumeJob) → SpellsVolume words job → get_or words 0 [] ≡ volume_word_of job
volume_first words volume.Ready spells = ap (λ ws. get_or ws 0 []) spells
volume_first words (volume.Make name blocks) spells = ap (λ ws. get_or ws 0 []) spells.spelled
volume_first words (volume.Remove name) spells = ap (λ ws. get_or ws 0 []) spells.spelled
volume_first words volume.List spells = ap (λ ws. get_or ws 0 []) spells
volume_first words (volume.Read name block count) spells = ap (λ ws. get_or ws 0 []) spells.spelled
volume_first words (volume.Write name block count) spells = ap (λ ws. get_or ws 0 []) spells.spelled

pub volume_word : (job : VolumeJob) → IsVolumeWord (volume_word_of job)
volume_word volume.Ready = inl refl
volume_word (volume.Make name blocks) = inr (inl refl)
volume_word (volume.Remove name) = inr (inr (inl refl))
volume_word volume.List = inr (inr (inr (inl refl)))
volume_word (volume.Read name block count) = inr (inr (inr (inr (inl refl))))
volume_word (volume.Write name block count) = inr (inr (inr (inr (inr refl))))

pub volume_letter : (job : VolumeJob) → get_or (volume_word_of job) 0 0 ≡ 118
volume_letter volume.Ready = refl
volume_letter (volume.Make name blocks) = refl
volume_letter (volume.Remove name) = refl
volume_letter volume.List = refl
volume_letter (volume.Read name block count) = refl
volume_letter (volume.Write name block count) = refl

-- the words of a job on volumes begin with a `v` (118)
pub volume_begins : (words : List (List ℕ)) (job : VolumeJob) → SpellsVolume words job → get_or (get_or words 0 []) 0 0 ≡ 118
volume_begins words job spells = ap (λ word. get_or word 0 0) (volume_first words job spells) ∙ volume_letter job

-- ---- no word begins with a hyphen

pub name_plain : (name : List ℕ) → IsName name → IsPlainWord name
name_plain name is = λ hyphen. let first = All-get_or IsNameByte name 0 0 is.some is.bytes in grind arith

one_plain : (word : List ℕ) → IsPlainWord word → HasNoOption (word ∷ [])
one_plain word plain = All-cons IsPlainWord word [] plain (All-nil IsPlainWord)

blocks_plain : (command : List ℕ) (words : List (List ℕ)) (name : List ℕ) (block count : ℕ) → IsPlainWord command
    → SpellsVolumeBlocks (command ∷ []) words name block count → HasNoOption words
blocks_plain command words name block count plain spells =
    rw spells.spelled (All-cons IsPlainWord command (name ∷ decimal block ∷ decimal count ∷ []) plain
    (All-cons IsPlainWord name (decimal block ∷ decimal count ∷ []) (name_plain name spells.is_name)
    (All-cons IsPlainWord (decimal block) (decimal count ∷ []) (decimal_plain block spells.block_fits)
    (one_plain (decimal count) (decimal_plain count spells.count_fits)))))

pub volume_plain : (words : List (List ℕ)) (job : VolumeJob) → SpellsVolume words job → HasNoOption words
volume_plain words volume.Ready spells = rw spells (one_plain (codes "vinit") (omega arith))
volume_plain words (volume.Make name blocks) spells =
    rw spells.spelled (All-cons IsPlainWord (codes "vmake") (name ∷ decimal blocks ∷ []) (omega arith)
    (All-cons IsPlainWord name (decimal blocks ∷ []) (name_plain name spells.is_name)
    (one_plain (decimal blocks) (decimal_plain blocks spells.fits))))
volume_plain words (volume.Remove name) spells =
    rw spells.spelled (All-cons IsPlainWord (codes "vdrop") (name ∷ []) (omega arith) (one_plain name (name_plain name spells.is_name)))
volume_plain words volume.List spells = rw spells (one_plain (codes "vlist") (omega arith))
volume_plain words (volume.Read name block count) spells = blocks_plain (codes "vread") words name block count (omega arith) spells
volume_plain words (volume.Write name block count) spells = blocks_plain (codes "vwrite") words name block count (omega arith) spells

-- ---- words spell one job on volumes at most

-- words with the same words before spell one name
name_once : (before words : List (List ℕ)) (name name' : List ℕ) → SpellsName before words name → SpellsName before words name' → name ≡ name'
name_once before words name name' one two =
    let same = append_cancel_left before _ _ (sym one.spelled ∙ two.spelled) in
    cc

-- words with the same words before spell one name and one number of blocks
new_volume_once : (before words : List (List ℕ)) (name : List ℕ) (blocks : ℕ) (name' : List ℕ) (blocks' : ℕ)
    → SpellsNewVolume before words name blocks → SpellsNewVolume before words name' blocks' → (name ≡ name') × (blocks ≡ blocks')
new_volume_once before words name blocks name' blocks' one two =
    let same = append_cancel_left before _ _ (sym one.spelled ∙ two.spelled) in
    let texts : decimal blocks ≡ decimal blocks' = cc in
    (cc, decimal_injective blocks blocks' one.fits two.fits texts)

-- words with the same words before spell one name, one block and one count
volume_blocks_once : (before words : List (List ℕ)) (name : List ℕ) (block count : ℕ) (name' : List ℕ) (block' count' : ℕ)
    → SpellsVolumeBlocks before words name block count → SpellsVolumeBlocks before words name' block' count'
    → (name ≡ name') × (block ≡ block') × (count ≡ count')
volume_blocks_once before words name block count name' block' count' one two =
    let same = append_cancel_left before _ _ (sym one.spelled ∙ two.spelled) in
    let block_texts : decimal block ≡ decimal block' = cc in
    let count_texts : decimal count ≡ decimal count' = cc in (
      cc,
      decimal_injective block block' one.block_fits two.block_fits block_texts,
      decimal_injective count count' one.count_fits two.count_fits count_texts,
    )

-- no words spell two jobs on volumes whose commands' words differ
no_other_volume : (words : List (List ℕ)) (a b : VolumeJob) → SpellsVolume words a → SpellsVolume words b
    → bytes_eq (volume_word_of a) (volume_word_of b) ≡ false → ⊥
no_other_volume words a b one two apart =
    not_from_Decides (bytes_eq (volume_word_of a) (volume_word_of b)) (bytes_eq-Decides (volume_word_of a) (volume_word_of b)) apart
    (sym (volume_first words a one) ∙ volume_first words b two)

pub volume_once : (words : List (List ℕ)) (a b : VolumeJob) → SpellsVolume words a → SpellsVolume words b → a ≡ b
volume_once words volume.Ready volume.Ready one two = refl
volume_once words (volume.Make name blocks) (volume.Make name' blocks') one two =
    let same = new_volume_once (codes "vmake" ∷ []) words name blocks name' blocks' one two in
    λ i. volume.Make (same.0 i) (same.1 i)
volume_once words (volume.Remove name) (volume.Remove name') one two =
    ap volume.Remove (name_once (codes "vdrop" ∷ []) words name name' one two)
volume_once words volume.List volume.List one two = refl
volume_once words (volume.Read name block count) (volume.Read name' block' count') one two =
    let same = volume_blocks_once (codes "vread" ∷ []) words name block count name' block' count' one two in
    λ i. volume.Read (same.0 i) (same.1 i) (same.2 i)
volume_once words (volume.Write name block count) (volume.Write name' block' count') one two =
    let same = volume_blocks_once (codes "vwrite" ∷ []) words name block count name' block' count' one two in
    λ i. volume.Write (same.0 i) (same.1 i) (same.2 i)
volume_once words a b one two = absurd (no_other_volume words a b one two refl)
