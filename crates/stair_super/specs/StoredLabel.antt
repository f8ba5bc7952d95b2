-- How a label is kept.
use Rattle.std.specs.Prelude.{◌≡◌, ℕ, List, length, take}
use Rattle.stair_super.specs.Label.{IsLabel, padded}
use Rattle.stair_super.specs.declared.label.Label.TheInside.{Inside}

abbrev pub shown : Inside → List ℕ
shown a = take a.len a.text

abbrev pub kept : List ℕ → Inside
kept text = record { len = length text; text = padded text }

-- what is kept is a label, and no more
pub record IsStored (a : Inside) : Type 0 where
  pub label : IsLabel (shown a)
  pub count : length (shown a) ≡ a.len
  pub padding : padded (shown a) ≡ a.text

-- a label gives its fields back
pub kept-shown : (a : Inside) → IsStored a → kept (shown a) ≡ a
kept-shown a stored = λ i. record { len = stored.count i; text = stored.padding i }
