-- The text of a label.
use Rattle.std.specs.Prelude.{ℕ, ◌-◌, ◌<◌, ◌≤◌, ◌⊎◌, List, ◌++◌, length, replicate, All, Any}

-- printable ASCII
abbrev pub IsPrintable : ℕ → Type 0
IsPrintable byte = (32 ≤ byte) × (byte ≤ 126)

abbrev pub IsUnprintable : ℕ → Type 0
IsUnprintable byte = (byte < 32) ⊎ (126 < byte)

pub record IsLabel (text : List ℕ) : Type 0 where
  pub short : length text ≤ 64
  pub printable : All IsPrintable text

-- a text that no label has
abbrev pub IsNoLabel : List ℕ → Type 0
IsNoLabel text = (64 < length text) ⊎ Any IsUnprintable text

-- a text with zeros after it, in an array of a fixed length
abbrev pub padded : List ℕ → List ℕ
padded text = text ++ replicate (64 - length text) 0
