-- The news of an array: what its calls did, and the events that tell it.
use Rattle.std.specs.Prelude.{◌≡◌, ◌≢◌, ◌⊎◌, ◌↔◌, ◌+◌, ◌<◌, ℕ, zero, suc, List, [], ◌∷◌, ◌++◌, Option, None, Some, Ok, if◌then◌else◌}
use Rattle.stair_model.specs.Slots.{HasSlot, Slots, has_slot, no_slots}
use Rattle.stair_rack.specs.declared.watcher.Event.{Event}
use Rattle.stair_rack.specs.declared.watcher.Event.TheVariants as event
use Rattle.stair_super.specs.Superblock.{mark_in}
use Rattle.stair_super.specs.declared.configuration.Configuration.{Configuration}
use Rattle.stair_super.specs.declared.mark.Mark.TheVariants.{Down}
use Rattle.stair_array.specs.Machine.{Answer, Promoted, RebuildNext, ReplaceSlot, ScrubStripe, Step}
use Rattle.stair_array.specs.declared.news.News.{News}

abbrev pub no_news : News
no_news = record { fenced = no_slots; repaired = None; admitted = None; promoted = None }

-- THE EVENTS THAT NEWS TELL

-- of so many slots from the first on those in the set, in rising order
abbrev pub fenced_in : ℕ → ℕ → Slots → List Event
fenced_in first zero set = []
fenced_in first (suc n) set =
    if has_slot set first
    then event.Fenced first ∷ fenced_in (first + 1) n set
    else fenced_in (first + 1) n set

abbrev pub repair_in : Option (ℕ × ℕ) → List Event
repair_in None = []
repair_in (Some (t, zero)) = []
repair_in (Some (t, suc k)) = event.Repaired t (suc k) ∷ []

abbrev pub admission_in : Option ℕ → List Event
admission_in None = []
admission_in (Some j) = event.Admitted j ∷ []

abbrev pub promotion_in : Option ℕ → List Event
promotion_in None = []
promotion_in (Some j) = event.Promoted j ∷ []

abbrev pub other_events : News → List Event
other_events news =
    repair_in news.repaired ++ (admission_in news.admitted ++ promotion_in news.promoted)

-- each slot that became Down, then the repair of at least one cell, the admission, the promotion
abbrev pub events_in : News → List Event
events_in news = fenced_in 0 32 news.fenced ++ other_events news

-- WHAT A CALL ADDS

-- slot j became Down
abbrev pub Fell : Configuration → Configuration → ℕ → Type 0
Fell old new j = (mark_in new j ≡ Down) × (mark_in old j ≢ Down)

-- the slots in this set are those that were in it and those that became Down
abbrev pub HasFallen : Configuration → Configuration → Slots → Slots → Type 0
HasFallen old new was is = (j : ℕ) → HasSlot is j ↔ (HasSlot was j ⊎ ((j < 32) × Fell old new j))

-- a slot that was Down is Down
abbrev pub StayDown : Configuration → Configuration → Type 0
StayDown old new = (j : ℕ) → mark_in old j ≡ Down → mark_in new j ≡ Down

-- they are added, and nothing else is changed
pub record AddsFallen (old new : Configuration) (was is : News) : Type 0 where
  pub fenced : HasFallen old new was.fenced is.fenced
  pub others : is ≡ record was { fenced = is.fenced }

-- the last repair, admission and promotion that was done, where this was answered
abbrev pub repaired_after : (step : Step) → Answer step → Option (ℕ × ℕ) → Option (ℕ × ℕ)
repaired_after (ScrubStripe t) (Ok count) was = Some (t, count)
repaired_after _ _ was = was

abbrev pub admitted_after : (step : Step) → Answer step → Option ℕ → Option ℕ
admitted_after (ReplaceSlot j) (Ok done) was = Some j
admitted_after _ _ was = was

abbrev pub promoted_after : (step : Step) → Answer step → Option ℕ → Option ℕ
promoted_after RebuildNext (Ok (Promoted j)) was = Some j
promoted_after _ _ was = was

-- what a step adds to the news: by what its array's epochs named before and after it, and by its answer
pub record AddsNews (step : Step) (answer : Answer step) (old new : Configuration) (was is : News)
    : Type 0 where
  pub fenced : HasFallen old new was.fenced is.fenced
  pub repaired : is.repaired ≡ repaired_after step answer was.repaired
  pub admitted : is.admitted ≡ admitted_after step answer was.admitted
  pub promoted : is.promoted ≡ promoted_after step answer was.promoted
