-- The name of a volume.
use Rattle.std.specs.Prelude.{◌≡◌, ◌⊎◌, ℕ, ◌-◌, ◌<◌, ◌≤◌, List, ◌++◌, All, length, replicate}
use Rattle.std.specs.Int.{IsInRange}

-- the bytes that may stand in it: a to z, 0 to 9, and _
abbrev pub IsNameByte : ℕ → Type 0
IsNameByte byte = IsInRange 97 122 byte ⊎ IsInRange 48 57 byte ⊎ (byte ≡ 95)

-- 1 to 16 of them
pub record IsName (text : List ℕ) : Type 0 where
  pub some : 0 < length text
  pub short : length text ≤ 16
  pub bytes : All IsNameByte text

-- a text with zeros after it, in an array of 16 bytes
abbrev pub padded : List ℕ → List ℕ
padded text = text ++ replicate (16 - length text) 0
