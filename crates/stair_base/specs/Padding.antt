-- The coverage vector in an array of a fixed length.
use Rattle.std.specs.Prelude.{ℕ, ◌-◌, List, ◌++◌, length, replicate}

-- the coverage vector with zeros after it
abbrev pub padded : List ℕ → List ℕ
padded e = e ++ replicate (32 - length e) 0
