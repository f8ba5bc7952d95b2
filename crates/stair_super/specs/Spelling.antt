-- The 512 bytes of a superblock. All numbers are big-endian.
use Rattle.std.specs.Prelude.{◌≡◌, ℕ, Bool, true, false, zero, suc, List, [], ◌∷◌, ◌++◌, ◌-◌, codes, length, replicate, nat_lt, if◌then◌else◌}
use Rattle.std.specs.Int.{w32, w64, to_be_bytes}
use Rattle.stair_model.specs.Geometry.{Geometry, IsSmall, classes, is_small}
use Rattle.stair_super.specs.declared.configuration.Configuration.{Configuration}
use Rattle.stair_super.specs.declared.mark.Mark.{Mark}
use Rattle.stair_super.specs.declared.mark.Mark.TheVariants.{Live, Rebuilding, Down}
use Rattle.stair_super.specs.declared.version.Version.{Version}
use Rattle.stair_super.specs.declared.version.Version.TheVariants.{One, Two, Three}
use Rattle.stair_super.specs.Superblock.{Superblock, IsSuperblock, mark_at, joined_at}

unfoldable pub zeros : ℕ → List ℕ
zeros n = replicate n 0

-- the coverage vector, one byte an entry, and then zeros
abbrev pub padded : List ℕ → List ℕ
padded e = e ++ replicate (32 - length e) 0

unfoldable pub number32 : ℕ → List ℕ
number32 n = to_be_bytes w32 n

unfoldable pub number64 : ℕ → List ℕ
number64 n = to_be_bytes w64 n

abbrev pub code : Mark → ℕ
code Live = 1
code Rebuilding = 2
code Down = 3

-- slot j: its mark and its joined number, nine bytes, which are zero where the array has no such slot
unfoldable pub entry : Superblock → ℕ → List ℕ
entry s j =
    if nat_lt j s.array.geometry.n then code (mark_at s j) ∷ number64 (joined_at s j) else zeros 9

-- the first slots, one after the other
unfoldable pub entries : Superblock → ℕ → List ℕ
entries s zero = []
entries s (suc j) = entries s j ++ entry s j

-- bytes 0 to 7
abbrev pub magic : Version → List ℕ
magic One = codes "STAIRSB1"
magic Two = codes "STAIRSB2"
magic Three = codes "STAIRSB3"

-- bytes 8 to 63: the array's identity, n, m, r, the number of coverage classes, the coverage vector, and the stripes
abbrev pub counts : Geometry → List ℕ
counts g = g.n ∷ g.m ∷ g.r ∷ classes g ∷ []

abbrev pub geometry_part : Geometry → List ℕ
geometry_part g = g.id ++ (counts g ++ (padded g.e ++ number32 g.stripes))

-- bytes 64 to 95: the slot, seven zeros, and three numbers
abbrev pub numbers_part : Superblock → List ℕ
numbers_part s =
    s.slot ∷ zeros 7 ++ (number64 s.joined ++ (number64 s.draw ++ number64 s.array.epoch))

-- bytes 8 to 383
abbrev pub fields : Superblock → List ℕ
fields s = geometry_part s.array.geometry ++ (numbers_part s ++ entries s 32)

abbrev pub frozen_code : Bool → ℕ
frozen_code false = 0
frozen_code true = 1

-- the label's length, the label, and zeros
unfoldable pub label_part : List ℕ → List ℕ
label_part label = length label ∷ (label ++ zeros (126 - length label))

-- whether the array is frozen, and its label
abbrev pub notes : Configuration → List ℕ
notes array = frozen_code array.frozen ∷ label_part array.label

-- bytes 384 to 511: version 1 says neither whether the array is frozen nor what its label is
abbrev pub notes_part : Version → Configuration → List ℕ
notes_part One array = zeros 128
notes_part Two array = notes array
notes_part Three array = notes array

-- the bytes in this version
unfoldable pub spelled_in : Version → Superblock → List ℕ
spelled_in version s = magic version ++ (fields s ++ notes_part version s.array)

-- version 2 for a small array, and version 3 for a large one
unfoldable pub version_for : Geometry → Version
version_for g = if is_small g then Two else Three

-- the bytes that are written today
abbrev pub spelled : Superblock → List ℕ
spelled s = spelled_in (version_for s.array.geometry) s

-- neither frozen nor labelled
pub record IsPlain (array : Configuration) : Type 0 where
  pub thawed : array.frozen ≡ false
  pub unlabelled : array.label ≡ []

-- a large array has superblocks of version 3, and a small one never has
abbrev pub IsOfVersion : Version → Geometry → Type 0
IsOfVersion One g = IsSmall g
IsOfVersion Two g = IsSmall g
IsOfVersion Three g = ¬ IsSmall g

-- the version has room for the array's frozen mark and its label
abbrev pub HasNotes : Version → Configuration → Type 0
HasNotes One array = IsPlain array
HasNotes Two array = Unit {0}
HasNotes Three array = Unit {0}

-- the version can say it all
pub record CanSay (version : Version) (array : Configuration) : Type 0 where
  pub size : IsOfVersion version array.geometry
  pub notes : HasNotes version array

-- the bytes are those of this superblock, in one of the versions
pub record SpellsSuperblock (bytes : List ℕ) (s : Superblock) : Type 0 where
  pub block : IsSuperblock s
  pub version : Version
  pub said : CanSay version s.array
  pub text : bytes ≡ spelled_in version s
