-- The jobs that words spell.
use Rattle.std.specs.Prelude.{◌≡◌, ◌⊎◌, ℕ, ◌^◌, ◌<◌, List, [], ◌∷◌, ◌++◌, All, codes, length, map, slice_index, slice_index_or}
use Rattle.std.specs.Fmt.{decimal}
use Rattle.std.specs.Int.{IsInRange}
use Rattle.stair_conf.specs.Commands.{HasNoOption, IsPlainWord}
use Rattle.stair_conf.specs.declared.job.Method.{Method}
use Rattle.stair_conf.specs.declared.job.Method.TheVariants.{Standard, Up, Down, Fewest}
use Rattle.stair_conf.specs.declared.job.Job.{Job}
use Rattle.stair_conf.specs.declared.job.Job.TheVariants.{OneStripe, Create, Show, Read, Write, Scrub, Replace, Rebuild, Freeze, Thaw, Label, Run, Exercise, Guard, Report, Serve, Volume, Plan}
use Rattle.stair_conf.specs.declared.job.StripeCommand.{StripeCommand}
use Rattle.stair_conf.specs.declared.job.StripeCommand.TheVariants.{Check, Encode, Restore}
use Rattle.stair_conf.specs.declared.job.VolumeJob.{VolumeJob}
use Rattle.stair_conf.specs.declared.job.VolumeJob.TheVariants as volume
use Rattle.stair_conf.specs.Name.{IsName}
use Rattle.stair_super.specs.Label.{IsLabel}

-- the word is this number's decimal text
pub record IsNumber (word : List ℕ) (n : ℕ) : Type 0 where
  pub spelled : word ≡ decimal n
  pub fits : n < 2 ^ 64

-- the words are these numbers' decimal texts, one for one
pub record AreNumbers (words : List (List ℕ)) (numbers : List ℕ) : Type 0 where
  pub spelled : words ≡ map decimal numbers
  pub fit : All (λ n. n < 2 ^ 64) numbers

-- a digit comes first, and a zero only alone
pub record BeginsNumber (word : List ℕ) : Type 0 where
  pub digit : IsInRange 48 57 (slice_index word 0)
  pub zero_alone : slice_index word 0 ≡ 48 → length word ≡ 1

-- the word TEXT: the text of a label that isn't empty
pub record IsText (word : List ℕ) : Type 0 where
  pub label : IsLabel word
  pub some : 0 < length word

-- the word METHOD
abbrev pub method_word : Method → List ℕ
method_word Standard = codes "standard"
method_word Up = codes "up"
method_word Down = codes "down"
method_word Fewest = codes "fewest"

-- the words are those before, and then the decimal texts of N, M, R and of the numbers E, of which there is at least one
pub record SpellsGeometry (before words : List (List ℕ)) (n m r : ℕ) (e : List ℕ) : Type 0 where
  pub spelled : words ≡ before ++ decimal n ∷ decimal m ∷ decimal r ∷ map decimal e
  pub some_e : 0 < length e
  pub n_fits : n < 2 ^ 64
  pub m_fits : m < 2 ^ 64
  pub r_fits : r < 2 ^ 64
  pub e_fit : All (λ x. x < 2 ^ 64) e

-- the words are those before, and then the decimal texts of a number and of a count
pub record SpellsCounted (before words : List (List ℕ)) (number count : ℕ) : Type 0 where
  pub spelled : words ≡ before ++ decimal number ∷ decimal count ∷ []
  pub number_fits : number < 2 ^ 64
  pub count_fits : count < 2 ^ 64

-- the words are those before, and then the decimal text of the number of a slot
pub record SpellsSlot (before words : List (List ℕ)) (slot : ℕ) : Type 0 where
  pub spelled : words ≡ before ++ decimal slot ∷ []
  pub fits : slot < 2 ^ 64

-- the words are those before, and then a text, which doesn't begin with a hyphen
pub record SpellsText (before words : List (List ℕ)) (text : List ℕ) : Type 0 where
  pub spelled : words ≡ before ++ text ∷ []
  pub is_text : IsText text
  pub plain : IsPlainWord text

-- the words are `guard`, and then the decimal texts of a watcher's limits of events and of slots that were fenced, each at least 1
pub record SpellsLimits (words : List (List ℕ)) (events fences : ℕ) : Type 0 where
  pub counted : SpellsCounted (codes "guard" ∷ []) words events fences
  pub some_events : 0 < events
  pub some_fences : 0 < fences

-- the words are those before, and then the name of a volume
pub record SpellsName (before words : List (List ℕ)) (name : List ℕ) : Type 0 where
  pub spelled : words ≡ before ++ name ∷ []
  pub is_name : IsName name

-- the words are those before, and then the name of a volume, and the decimal text of its number of blocks, at least 1
pub record SpellsNewVolume (before words : List (List ℕ)) (name : List ℕ) (blocks : ℕ) : Type 0 where
  pub spelled : words ≡ before ++ name ∷ decimal blocks ∷ []
  pub is_name : IsName name
  pub some : 0 < blocks
  pub fits : blocks < 2 ^ 64

-- the words are those before, and then the name of a volume, and the decimal texts of a block and of a count
pub record SpellsVolumeBlocks (before words : List (List ℕ)) (name : List ℕ) (block count : ℕ) : Type 0 where
  pub spelled : words ≡ before ++ name ∷ decimal block ∷ decimal count ∷ []
  pub is_name : IsName name
  pub block_fits : block < 2 ^ 64
  pub count_fits : count < 2 ^ 64

-- the words before the numbers
abbrev pub command_words : StripeCommand → List (List ℕ)
command_words Check = codes "check" ∷ []
command_words (Encode method) = codes "stripe" ∷ method_word method ∷ []
command_words Restore = codes "restore" ∷ []

-- the words are those of a job on volumes
abbrev pub SpellsVolume : List (List ℕ) → VolumeJob → Type 0
SpellsVolume words volume.Ready = words ≡ codes "vinit" ∷ []
SpellsVolume words (volume.Make name blocks) = SpellsNewVolume (codes "vmake" ∷ []) words name blocks
SpellsVolume words (volume.Remove name) = SpellsName (codes "vdrop" ∷ []) words name
SpellsVolume words volume.List = words ≡ codes "vlist" ∷ []
SpellsVolume words (volume.Read name block count) =
    SpellsVolumeBlocks (codes "vread" ∷ []) words name block count
SpellsVolume words (volume.Write name block count) =
    SpellsVolumeBlocks (codes "vwrite" ∷ []) words name block count

-- the words are those of the job
abbrev pub Spells : List (List ℕ) → Job → Type 0
Spells words (OneStripe command n m r e) = SpellsGeometry (command_words command) words n m r e
Spells words Create = words ≡ codes "create" ∷ []
Spells words Show = words ≡ codes "show" ∷ []
Spells words (Read block count) = SpellsCounted (codes "read" ∷ []) words block count
Spells words (Write block count) = SpellsCounted (codes "write" ∷ []) words block count
Spells words Scrub = words ≡ codes "scrub" ∷ []
Spells words (Replace slot) = SpellsSlot (codes "replace" ∷ []) words slot
Spells words Rebuild = words ≡ codes "rebuild" ∷ []
Spells words Freeze = words ≡ codes "freeze" ∷ []
Spells words Thaw = words ≡ codes "thaw" ∷ []
Spells words (Label text) = SpellsText (codes "label" ∷ []) words text
Spells words Run = words ≡ codes "run" ∷ []
Spells words (Exercise number count) = SpellsCounted (codes "exercise" ∷ []) words number count
Spells words (Guard events fences) = SpellsLimits words events fences
Spells words Report = words ≡ codes "report" ∷ []
Spells words Serve = words ≡ codes "serve" ∷ []
Spells words (Volume job) = SpellsVolume words job
Spells words (Plan n m r e) = SpellsGeometry (codes "plan" ∷ []) words n m r e

-- the words spell a job
abbrev pub IsSpelled : List (List ℕ) → Type 0
IsSpelled words = (job : Job) × Spells words job

-- the word of a command on volumes
abbrev pub IsVolumeWord : List ℕ → Type 0
IsVolumeWord word = (word ≡ codes "vinit") ⊎ (word ≡ codes "vmake")
    ⊎ (word ≡ codes "vdrop") ⊎ (word ≡ codes "vlist") ⊎ (word ≡ codes "vread")
    ⊎ (word ≡ codes "vwrite")

-- the word of a command
abbrev pub IsCommandWord : List ℕ → Type 0
IsCommandWord word = (word ≡ codes "check") ⊎ (word ≡ codes "stripe")
    ⊎ (word ≡ codes "restore") ⊎ (word ≡ codes "create") ⊎ (word ≡ codes "show")
    ⊎ (word ≡ codes "read") ⊎ (word ≡ codes "write") ⊎ (word ≡ codes "scrub")
    ⊎ (word ≡ codes "replace") ⊎ (word ≡ codes "rebuild") ⊎ (word ≡ codes "freeze")
    ⊎ (word ≡ codes "thaw") ⊎ (word ≡ codes "label") ⊎ (word ≡ codes "run")
    ⊎ (word ≡ codes "exercise") ⊎ (word ≡ codes "guard") ⊎ (word ≡ codes "report")
    ⊎ (word ≡ codes "serve") ⊎ (word ≡ codes "plan") ⊎ IsVolumeWord word

-- a command's word comes first, and no word begins with a hyphen: memory is taken for such words alone
pub record IsCommandLine (words : List (List ℕ)) : Type 0 where
  pub command : IsCommandWord (slice_index_or words 0 [])
  pub no_option : HasNoOption words
