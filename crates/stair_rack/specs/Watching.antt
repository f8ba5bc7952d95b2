-- Watchers: what each is told, and when it leaves.
use Rattle.std.specs.Prelude.{◌≡◌, ◌+◌, ◌-◌, ◌<◌, ◌↔◌, ℕ, Bool, true, false, List, [], ◌∷◌, ◌++◌, Option, length, slice_get, IfSome, if◌then◌else◌}
use Rattle.std.specs.Option.{option_map, option_and_then}
use Rattle.stair_rack.specs.declared.watcher.Counts.{Counts}
use Rattle.stair_rack.specs.declared.watcher.Event.{Event}
use Rattle.stair_rack.specs.declared.watcher.Event.TheVariants as event
use Rattle.stair_rack.specs.declared.watcher.EventKind.{EventKind}
use Rattle.stair_rack.specs.declared.watcher.EventKind.TheVariants.{Fenced, Repaired, Admitted, Promoted}

abbrev pub kind_of : Event → EventKind
kind_of (event.Fenced slot) = Fenced
kind_of (event.Repaired stripe cells) = Repaired
kind_of (event.Admitted slot) = Admitted
kind_of (event.Promoted slot) = Promoted

-- both are one kind
abbrev pub is_kind : EventKind → EventKind → Bool
is_kind Fenced Fenced = true
is_kind Repaired Repaired = true
is_kind Admitted Admitted = true
is_kind Promoted Promoted = true
is_kind kind other = false

-- how many of these events are of this kind
abbrev pub count_of : EventKind → List Event → ℕ
count_of kind [] = 0
count_of kind (one ∷ events) =
    if is_kind kind (kind_of one) then count_of kind events + 1 else count_of kind events

-- the counts of all kinds
abbrev pub counts_of : (EventKind → ℕ) → Counts
counts_of count = record {
  fenced = count Fenced;
  repaired = count Repaired;
  admitted = count Admitted;
  promoted = count Promoted;
}

abbrev pub sum_of_counts : (EventKind → ℕ) → ℕ
sum_of_counts count = count Fenced + count Repaired + count Admitted + count Promoted

-- event number `at` of a list that is told
abbrev pub event_at : Option (List Event) → ℕ → Option Event
event_at told at = option_and_then (λ events. slice_get events at) told

-- how many events more a watcher waits for: of all kinds, and of one kind where it waits for one besides
pub record RemainingQuota : Type 0 where
  pub all : ℕ
  pub kind : Option (EventKind × ℕ)

-- what a watcher tells: the events that it was told, the oldest first, where it tells these; how many of each kind; whether it
-- has left; and how many events more it waits for, where it tells that
pub record Heard : Type 0 where
  pub told : Option (List Event)
  pub count : EventKind → ℕ
  pub left : Bool
  pub remaining_quota : Option RemainingQuota

-- how watchers are seen: what each of them tells
abbrev pub WatcherView : Type 0 → Type 0
WatcherView W = W → Heard

-- one that is given member by member
abbrev pub watcher_view : {W : Type 0} → (W → Option (List Event)) → (W → EventKind → ℕ) →
    (W → Bool) → (W → Option RemainingQuota) → WatcherView W
watcher_view told count left remaining_quota w =
    record { told = told w; count = count w; left = left w; remaining_quota = remaining_quota w }

-- so many of a kind less
abbrev pub less_of : List Event → EventKind × ℕ → EventKind × ℕ
less_of events waits = (waits.0, waits.1 - count_of waits.0 events)

-- the remaining quota of a watcher that was told these events
abbrev pub less : List Event → RemainingQuota → RemainingQuota
less events remaining_quota = record {
  all = remaining_quota.all - length events;
  kind = option_map (less_of events) remaining_quota.kind;
}

-- a watcher waits for more than these events, in all and of its kind
abbrev pub IsPatient : List Event → RemainingQuota → Type 0
IsPatient events remaining_quota = (length events < remaining_quota.all)
    × IfSome remaining_quota.kind (λ waits. count_of waits.0 events < waits.1)

-- A watcher was told these events: its list grows by them, each count by those of its kind, and it waits for so many less.
pub record Hears {W : Type 0} (view : WatcherView W) (events : List Event) (old new : W) : Type 0 where
  pub list : (view new).told ≡ option_map (λ told. told ++ events) (view old).told
  pub counts : (kind : EventKind) → (view new).count kind ≡ (view old).count kind + count_of kind events
  pub waits : (view new).remaining_quota ≡ option_map (less events) (view old).remaining_quota

-- A watcher that tells its remaining quota left at this event exactly where it was the last that it waited for.
pub record HearsOne {W : Type 0} (view : WatcherView W) (one : Event) (old new : W) : Type 0 where
  pub hears : Hears view (one ∷ []) old new
  pub leaves : IfSome (view old).remaining_quota (λ remaining_quota.
      ((view new).left ≡ false) ↔ IsPatient (one ∷ []) remaining_quota)
