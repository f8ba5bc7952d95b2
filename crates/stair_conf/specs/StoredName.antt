-- How a name is kept.
use Rattle.std.specs.Prelude.{◌≡◌, ℕ, List, length, take}
use Rattle.stair_conf.specs.Name.{IsName, padded}
use Rattle.stair_conf.specs.declared.name.Name.TheInside.{Inside}

abbrev pub shown : Inside → List ℕ
shown a = take a.len a.text

abbrev pub kept : List ℕ → Inside
kept text = record { len = length text; text = padded text }

-- what is kept is a name, and no more
pub record IsStored (a : Inside) : Type 0 where
  pub name : IsName (shown a)
  pub count : length (shown a) ≡ a.len
  pub padding : padded (shown a) ≡ a.text

-- a name gives its fields back
pub kept-shown : (a : Inside) → IsStored a → kept (shown a) ≡ a
kept-shown a stored = λ i. record { len = stored.count i; text = stored.padding i }
