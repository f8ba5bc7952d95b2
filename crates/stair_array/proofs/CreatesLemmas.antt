-- What a call of `create` does, from what its stages did.
use Rattle.std.proofs.Common.{◌≡◌, ◌<◌, ℕ, IsTrue, List, Result, Ok, Err, length, refl}
use Rattle.std.specs.Prelude.{IfErr, OnOk}
use Rattle.stair_model.specs.Geometry.{Geometry, IsWithinLimits}
use Rattle.stair_rack.specs.Answers.{IsHistory, Ran}
use Rattle.stair_rack.specs.History.{Happening}
use Rattle.stair_array.specs.Creates.{Creates, IsMade}
use Rattle.stair_rack.specs.RackState.{IsLater, RackState}
use Rattle.stair_array.specs.Looking.{IsNotCreated, WasLookedAt}
use Rattle.stair_array.specs.Making.{IsCreating, PlacesInTurn, SuperblocksCameLast}
use Rattle.stair_array.specs.declared.fault.CreateFault.{CreateFault}
use Rattle.stair_array.proofs.CreateLemmas.{IsFinished, created_spares, created_within, finished_all_steady, finished_history, finished_image, finished_landed, never_refused}
use Rattle.stair_array.proofs.NewArrayLemmas.{media_of_array, new_consistent, new_represents}

-- each write is one of a new array, on an honest rack
abbrev pub AreNew : Geometry → RackState → RackState → Type 0
AreNew g old new = IsTrue new.honest → Ran (IsCreating g) old.history new.history

-- superblocks came last, and those of a slot in turn
abbrev pub AreOrdered : Geometry → RackState → RackState → Type 0
AreOrdered g old new = IsTrue new.honest → SuperblocksCameLast g old.history new.history × PlacesInTurn g old.history new.history

pub not_created : (g : Geometry) (fault : CreateFault) (old new : RackState) → (IsTrue new.honest → IsHistory old.history) → IsNotCreated g fault old new
    → IsLater old new → AreNew g old new → AreOrdered g old new → Creates g (Err fault) old new
not_created g fault old new began why later ran ordered = record {
  refused = why;
  looked = tt;
  counts = later.counts;
  made = λ honest. tt;
  began = began;
  ran = ran;
  others = λ honest. created_spares g (ran honest);
  within = λ honest. created_within g (ran honest);
  order = λ honest. (ordered honest).0;
  in_turn = λ honest. (ordered honest).1;
  complete = λ honest can. absurd (never_refused g old new honest (later.ran honest) can.online can.large can.bare fault why);
}

-- where each device is finished there is an array
pub is_made : (g : Geometry) (old new : List Happening) → IsWithinLimits g → length g.id ≡ 16 → ((j : ℕ) → j < g.n → IsFinished g j old new)
    → IsMade g old new
is_made g old new limits id each =
    let steady = finished_all_steady g old new each in
    record {
      landed = λ j k below within. finished_landed g j old new (each j below) k within;
      steady = steady;
      represents = λ before none tolerated. new_represents g before new limits id (finished_image g old new each none) steady tolerated;
      consistent = λ none outside.
          new_consistent g new limits id (finished_history g old new limits each)
          (λ image left. media_of_array g image (finished_image g old new each none image left) (outside image left)) steady;
    }

-- at its end
pub ends_so : (g : Geometry) (answer : Result (Unit {0}) CreateFault) (old new : RackState) → (IsTrue new.honest → IsHistory old.history) → IfErr answer (λ fault. IsNotCreated g fault old new)
    → WasLookedAt g old new → IsLater old new → AreNew g old new → AreOrdered g old new
    → (IsTrue new.honest → OnOk answer (IsMade g old.history new.history)) → Creates g answer old new
ends_so g (Ok done) old new began refused looked later ran ordered made = record {
  refused = tt;
  looked = looked;
  counts = later.counts;
  made = made;
  began = began;
  ran = ran;
  others = λ honest. created_spares g (ran honest);
  within = λ honest. created_within g (ran honest);
  order = λ honest. (ordered honest).0;
  in_turn = λ honest. (ordered honest).1;
  complete = λ honest can. refl;
}
ends_so g (Err fault) old new began refused looked later ran ordered made = not_created g fault old new began refused later ran ordered
