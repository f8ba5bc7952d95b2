-- The lines of a script, and the bytes that spell them.
use Rattle.std.specs.Prelude.{◌≡◌, ℕ, ◌^◌, ◌<◌, List, [], ◌∷◌, Ok, codes}
use Rattle.std.specs.Fmt.{decimal}
use Rattle.std.specs.List.{join_with_byte}
use Rattle.hex.specs.Hex.{decode_sized, encode_lower}
use Rattle.stair_model.specs.Stripe.{IsSector, SECTOR}
use Rattle.stair_conf.specs.Words.{IsNumber}
use Rattle.stair_script.specs.declared.line.Line.{Line}
use Rattle.stair_script.specs.declared.line.Line.TheVariants.{Blank, Read, Write, Scrub, Replace, Rebuild}

-- the words, with exactly one space (32) between two of them
abbrev pub spaced : List (List ℕ) → List ℕ
spaced words = join_with_byte 32 words

-- the word of a command, and then a number
pub record SpellsNumber (command bytes : List ℕ) (n : ℕ) : Type 0 where
  pub word : List ℕ
  pub spelled : bytes ≡ spaced (command ∷ word ∷ [])
  pub number : IsNumber word n

-- these are hexadecimal digits, in either case, two for each byte of a sector
abbrev pub AreDigits : List ℕ → List ℕ → Type 0
AreDigits digits contents = decode_sized digits SECTOR ≡ Ok contents

-- the word of a command, then a number, and then the digits of a sector
pub record SpellsSector (command bytes : List ℕ) (n : ℕ) (contents : List ℕ) : Type 0 where
  pub word : List ℕ
  pub digits : List ℕ
  pub spelled : bytes ≡ spaced (command ∷ word ∷ digits ∷ [])
  pub number : IsNumber word n
  pub sector : AreDigits digits contents

-- the bytes are those of the line, without its end
abbrev pub SpellsLine : List ℕ → Line → Type 0
SpellsLine bytes Blank = bytes ≡ []
SpellsLine bytes (Read block) = SpellsNumber (codes "read") bytes block
SpellsLine bytes (Write block contents) = SpellsSector (codes "write") bytes block contents
SpellsLine bytes (Scrub stripe) = SpellsNumber (codes "scrub") bytes stripe
SpellsLine bytes (Replace slot) = SpellsNumber (codes "replace") bytes slot
SpellsLine bytes (Rebuild steps) = SpellsNumber (codes "rebuild") bytes steps

-- the bytes as which a line is printed
abbrev pub printed : Line → List ℕ
printed Blank = []
printed (Read block) = spaced (codes "read" ∷ decimal block ∷ [])
printed (Write block contents) = spaced (codes "write" ∷ decimal block ∷ encode_lower contents ∷ [])
printed (Scrub stripe) = spaced (codes "scrub" ∷ decimal stripe ∷ [])
printed (Replace slot) = spaced (codes "replace" ∷ decimal slot ∷ [])
printed (Rebuild steps) = spaced (codes "rebuild" ∷ decimal steps ∷ [])

-- the numbers of the line fit 64 bits, and it has the bytes of a sector
abbrev pub IsLine : Line → Type 0
IsLine Blank = Unit {0}
IsLine (Read block) = block < 2 ^ 64
IsLine (Write block contents) = (block < 2 ^ 64) × IsSector contents
IsLine (Scrub stripe) = stripe < 2 ^ 64
IsLine (Replace slot) = slot < 2 ^ 64
IsLine (Rebuild steps) = steps < 2 ^ 64
