-- What a step did to the slots of an array and to its cells, as watchers are told.
use Rattle.std.specs.Prelude.{ℕ, zero, suc, ◌+◌, Bool, true, false, not, ◌&&◌, List, [], ◌∷◌, ◌++◌, Ok, Err, if◌then◌else◌}
use Rattle.stair_rack.specs.declared.watcher.Event.{Event}
use Rattle.stair_rack.specs.declared.watcher.Event.TheVariants as event
use Rattle.stair_super.specs.Superblock.{mark_in}
use Rattle.stair_super.specs.declared.configuration.Configuration.{Configuration}
use Rattle.stair_super.specs.declared.mark.Mark.{Mark}
use Rattle.stair_super.specs.declared.mark.Mark.TheVariants.{Down}
use Rattle.stair_array.specs.Machine.{Answer, Promoted, RebuildNext, Recover, ReplaceSlot, ScrubStripe, Step}

abbrev pub is_down : Mark → Bool
is_down Down = true
is_down _ = false

-- of so many slots from the first on those that are Down in the one and weren't in the other, in rising order
abbrev pub fenced_from : ℕ → ℕ → Configuration → Configuration → List Event
fenced_from first zero old new = []
fenced_from first (suc n) old new =
    if is_down (mark_in new first) && not (is_down (mark_in old first))
    then event.Fenced first ∷ fenced_from (first + 1) n old new
    else fenced_from (first + 1) n old new

-- what else an answer tells
abbrev pub events_of_answer : (step : Step) → Answer step → List Event
events_of_answer (ScrubStripe t) (Ok zero) = []
events_of_answer (ScrubStripe t) (Ok (suc k)) = event.Repaired t (suc k) ∷ []
events_of_answer (ReplaceSlot j) (Ok done) = event.Admitted j ∷ []
events_of_answer RebuildNext (Ok (Promoted j)) = event.Promoted j ∷ []
events_of_answer _ _ = []

-- The events of a step, by what its array's epochs named before and after it. Of an opening that is refused nothing is told,
-- since no array is left that holds them.
abbrev pub events_of : (step : Step) → Answer step → Configuration → Configuration → List Event
events_of Recover (Err refusal) old new = []
events_of step answer old new = fenced_from 0 32 old new ++ events_of_answer step answer
