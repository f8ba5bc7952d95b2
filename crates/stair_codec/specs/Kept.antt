-- What a code keeps.
use Rattle.std.specs.Prelude.{◌≡◌, ℕ}
use Rattle.stair_model.specs.Costs.{downstairs_cost, upstairs_cost}
use Rattle.stair_std.specs.Coefficients.{StandardCode}
use Rattle.stair_codec.specs.Choice.{ChosenCode}
use Rattle.stair_codec.specs.declared.choice.Encoder.{Encoder}
use Rattle.stair_codec.specs.declared.choice.Encoder.TheVariants.{Standard, Upstairs, Downstairs}
use Rattle.stair_codec.specs.declared.codec.Codec.TheInside.{Inside}

-- the steps in which the encoder encodes a stripe of the generator's geometry
abbrev pub steps_of : StandardCode → Encoder → ℕ
steps_of generator Standard = generator.cost
steps_of generator Upstairs = upstairs_cost generator.geometry
steps_of generator Downstairs = downstairs_cost generator.geometry

abbrev pub shown : Inside → ChosenCode
shown a = record {
  geometry = a.canon.geometry;
  encoder = a.encoder;
  cost = steps_of a.generator a.encoder;
}

-- the generator is one of the same geometry
abbrev pub IsKept : Inside → Type 0
IsKept a = a.generator.geometry ≡ a.canon.geometry
