-- Watchers that are told in order: who is left, and what each has heard.
use Rattle.std.specs.Prelude.{◌≡◌, ◌⊎◌, false, List, [], ◌∷◌, IfSome, Option, if◌then◌else◌, ⊤}
use Rattle.stair_rack.specs.Watching.{WatcherView, Hears, HearsOne, IsPatient, RemainingQuota}
use Rattle.stair_rack.specs.declared.watcher.Event.{Event}

-- none of them has left
abbrev pub AllStay : {W : Type 0} → WatcherView W → List W → Type 0
AllStay view [] = ⊤
AllStay view (w ∷ list) = ((view w).left ≡ false) × AllStay view list

-- each watcher of the list heard the event
abbrev pub EachHears : {W : Type 0} → WatcherView W → Event → List W → List W → Type 0
EachHears view event [] new = new ≡ []
EachHears {W} view event (w ∷ list) new = (later : W) × (rest : List W) × HearsOne view event w later
    × EachHears view event list rest × (new ≡ later ∷ rest)

-- those that haven't left, in their order
abbrev pub stayed : {W : Type 0} → WatcherView W → List W → List W
stayed view [] = []
stayed view (w ∷ list) = if (view w).left then stayed view list else w ∷ stayed view list

-- A list of watchers was told an event: each heard it, and those that left are taken out.
pub record Tells {W : Type 0} (view : WatcherView W) (event : Event) (old new : List W) : Type 0 where
  pub heard : List W
  pub each : EachHears view event old heard
  pub left : new ≡ stayed view heard

-- these events were told one after the other
abbrev pub TellsAll : {W : Type 0} → WatcherView W → List Event → List W → List W → Type 0
TellsAll view [] old new = new ≡ old
TellsAll {W} view (event ∷ events) old new = (mid : List W) × Tells view event old mid × TellsAll view events mid new

-- A watcher of this remaining quota is told on after these events: it waits for more than these, or doesn't tell its remaining quota, or
-- there are no events.
abbrev pub GoesOn : List Event → Option RemainingQuota → Type 0
GoesOn [] waits = ⊤
GoesOn (event ∷ events) waits = IfSome waits (IsPatient (event ∷ events))

-- one of this remaining quota isn't: it left at one of them, or doesn't tell its remaining quota
abbrev pub LeavesAmong : List Event → Option RemainingQuota → Type 0
LeavesAmong [] waits = ⊥
LeavesAmong (event ∷ events) waits = IfSome waits (λ remaining_quota. ¬ IsPatient (event ∷ events) remaining_quota)

-- After these events the list has those of the old one that are told on, in their order, each with all that it heard.
abbrev pub AreLeft : {W : Type 0} → WatcherView W → List Event → List W → List W → Type 0
AreLeft view events [] new = new ≡ []
AreLeft {W} view events (w ∷ list) new =
    ((later : W) × (rest : List W) × Hears view events w later × ((view later).left ≡ false)
    × GoesOn events (view w).remaining_quota × AreLeft view events list rest × (new ≡ later ∷ rest))
    ⊎ (LeavesAmong events (view w).remaining_quota × AreLeft view events list new)
