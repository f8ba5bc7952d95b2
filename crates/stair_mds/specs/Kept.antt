-- What a code keeps of its places and of the pattern that is prepared, and the room for any pattern; and what
-- symbols keep.
use Rattle.std.specs.Prelude.{ℕ, ◌+◌, ◌-◌, ◌*◌, ◌<◌, ◌≤◌, List, All, length, vec_len}
use Rattle.std.specs.Vec.{vec_capacity}
use Rattle.stair_model.specs.CauchyCode.{AreKnownPlaces}
use Rattle.stair_model.specs.Stripe.{IsSector}
use Rattle.stair_mds.specs.Solving.{AreWantedPlaces, Code, IsPrepared}
use Rattle.stair_mds.specs.Weights.{HasCoefficients, HasWeights}
use Rattle.stair_mds.specs.declared.mds.Mds.TheInside.{Inside}

abbrev pub shown : Inside → Code
shown a = record {
  shape = record { held = a.held; total = vec_len a.weights };
  known = a.known.items;
  wanted = a.wanted.items;
}

-- the places of a pattern, and its coefficients
pub record HasPattern (code : Code) (by : List ℕ) : Type 0 where
  pub known : AreKnownPlaces code.shape.held code.shape.total code.known
  pub wanted : AreWantedPlaces code.shape code.known code.wanted
  pub coefficients :
      HasCoefficients code.shape.held code.known code.wanted by (length code.wanted)

-- room for each pattern: as many known places as are held, and all others wanted
pub record HasRoom (a : Inside) : Type 0 where
  pub known : a.held ≤ vec_capacity a.known
  pub wanted : vec_len a.weights - a.held ≤ vec_capacity a.wanted
  pub coefficients : (vec_len a.weights - a.held) * a.held ≤ vec_capacity a.coefficients

pub record IsKept (a : Inside) : Type 0 where
  pub weights : HasWeights a.held a.weights.items
  pub few : a.held ≤ 32
  pub few_wanted : vec_len a.weights ≤ a.held + 32
  pub room : HasRoom a
  pub pattern : IsPrepared (shown a) → HasPattern (shown a) a.coefficients.items

-- symbols of 512 bytes, so few that a u16 numbers them
pub record AreSymbols (symbols : List (List ℕ)) : Type 0 where
  pub sectors : All IsSector symbols
  pub few : length symbols < 65536
