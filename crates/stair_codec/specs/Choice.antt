-- Which encoder is taken, and its steps.
use Rattle.std.specs.Prelude.{◌≡◌, ℕ, ◌<◌, ◌≤◌}
use Rattle.stair_model.specs.Costs.{downstairs_cost, upstairs_cost, IsStandardCost}
use Rattle.stair_model.specs.Geometry.{Geometry}
use Rattle.stair_codec.specs.declared.choice.By.{By}
use Rattle.stair_codec.specs.declared.choice.By.TheVariants as by
use Rattle.stair_codec.specs.declared.choice.Encoder.{Encoder}
use Rattle.stair_codec.specs.declared.choice.Encoder.TheVariants.{Standard, Upstairs, Downstairs}

-- a code as contracts see it: the geometry of its stripes, the encoder, and the steps of encoding a stripe
pub record ChosenCode : Type 0 where
  pub geometry : Geometry
  pub encoder : Encoder
  pub cost : ℕ

-- the encoder takes so many steps for a stripe
abbrev pub IsCostOf : Encoder → Geometry → ℕ → Type 0
IsCostOf Standard g cost = IsStandardCost g cost
IsCostOf Upstairs g cost = cost ≡ upstairs_cost g
IsCostOf Downstairs g cost = cost ≡ downstairs_cost g

-- of three numbers of steps the encoder's is the least; where several are, upstairs comes first, and then downstairs
abbrev pub IsLeast : ℕ → ℕ → ℕ → Encoder → Type 0
IsLeast standard upstairs downstairs Upstairs = (upstairs ≤ downstairs) × (upstairs ≤ standard)
IsLeast standard upstairs downstairs Downstairs = (downstairs < upstairs) × (downstairs ≤ standard)
IsLeast standard upstairs downstairs Standard = (standard < upstairs) × (standard < downstairs)

-- the encoder takes the fewest steps for a stripe
pub record IsFewest (g : Geometry) (encoder : Encoder) : Type 0 where
  pub standard : ℕ
  pub is_standard : IsStandardCost g standard
  pub least : IsLeast standard (upstairs_cost g) (downstairs_cost g) encoder

-- the encoder is the one that was asked for
abbrev pub IsChosen : By → Geometry → Encoder → Type 0
IsChosen by.Standard g encoder = encoder ≡ Standard
IsChosen by.Upstairs g encoder = encoder ≡ Upstairs
IsChosen by.Downstairs g encoder = encoder ≡ Downstairs
IsChosen by.Fewest g encoder = IsFewest g encoder
