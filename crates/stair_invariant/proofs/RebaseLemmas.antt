-- Facts of slots that hold their medium, said since now.
use Rattle.std.proofs.Common.{ℕ, List, refl}
use Rattle.stair_model.specs.Geometry.{Geometry}
use Rattle.stair_rack.specs.History.{Happening}
use Rattle.stair_rack.specs.Offline.{ButForOutside, Here, Lost, WasPulled}
use Rattle.stair_rack.specs.Sector.{Sector}
use Rattle.stair_state.specs.Blocks.{Codewords}
use Rattle.stair_state.specs.Recovering.{IsShut}
use Rattle.stair_state.specs.Redoing.{IsIn, Redoing, Stage}
use Rattle.stair_invariant.specs.Rebuilding.{IsRebuiltTo}

kept_now : {P : Sector → Type 0} (start h : List Happening) (j k : ℕ) → ¬ WasPulled start h j → ButForOutside start h j k P → ButForOutside h h j k P
kept_now start h j k stays (Here same some holds) = Here refl some holds
kept_now start h j k stays (Lost less) = absurd (stays less)

-- a stage, of those slots that still hold their medium
pub stage_now : (a : Redoing) (stage : Stage) (live now : ℕ → Type 0) (start h : List Happening) → IsIn a stage live start h
    → ((j : ℕ) → now j → live j × ¬ WasPulled start h j) → IsIn a stage now h h
stage_now a stage live now start h is among = record {
  gates = λ j on. kept_now start h j _ (among j on).1 (is.gates j (among j on).0);
  bodies = λ j i c on has. kept_now start h j _ (among j on).1 (is.bodies j i c (among j on).0 has);
  chunks = λ j t i on slot stripe row. kept_now start h j _ (among j on).1 (is.chunks j t i (among j on).0 slot stripe row);
}

pub rebuilt_now : (g : Geometry) (words : Codewords) (j next : ℕ) (start h : List Happening) → ¬ WasPulled start h j
    → IsRebuiltTo g words j next start h → IsRebuiltTo g words j next h h
rebuilt_now g words j next start h stays is =
    record { chunks = λ t i done stripe row. kept_now start h j _ stays (is.chunks t i done stripe row); reach = is.reach }

pub shut_now : (g : Geometry) (j : ℕ) (start h : List Happening) → ¬ WasPulled start h j → IsShut g start h j → IsShut g h h j
shut_now g j start h stays is = kept_now start h j _ stays is
