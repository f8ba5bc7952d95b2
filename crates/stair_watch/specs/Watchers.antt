-- The three watchers, as contracts see them.
use Rattle.std.proofs.Common.{arith}
use Rattle.std.specs.Prelude.{◌≡◌, ◌-◌, ◌^◌, ℕ, Bool, false, List, [], length, None, Some, nat_le}
use Rattle.stair_rack.specs.Watching.{IsPatient, RemainingQuota, WatcherView, sum_of_counts, watcher_view}
use Rattle.stair_rack.specs.declared.watcher.Counts.{Counts}
use Rattle.stair_rack.specs.declared.watcher.Event.{Event}
use Rattle.stair_rack.specs.declared.watcher.EventKind.{EventKind}
use Rattle.stair_rack.specs.declared.watcher.EventKind.TheVariants.{Fenced, Repaired, Admitted, Promoted}

-- the number of events of this kind
abbrev pub count_in : Counts → EventKind → ℕ
count_in counts Fenced = counts.fenced
count_in counts Repaired = counts.repaired
count_in counts Admitted = counts.admitted
count_in counts Promoted = counts.promoted

abbrev pub sum_in : Counts → ℕ
sum_in counts = sum_of_counts (count_in counts)

abbrev pub no_counts : Counts
no_counts = record { fenced = 0; repaired = 0; admitted = 0; promoted = 0 }

-- so many events of the limit came, and the rest is waited for, of whatever kinds
abbrev pub rest_of : ℕ → ℕ → RemainingQuota
rest_of limit came = record { all = limit - came; kind = None }

-- one that hasn't reached its limit waits for an event more at least
pub waits_on : (limit came : ℕ) → nat_le limit came ≡ false → IsPatient [] (rest_of limit came)
waits_on limit came few = (grind arith, tt)

-- the number of events by kind, and of how many in all
pub record TallyState : Type 0 where
  pub counts : Counts
  pub limit : ℕ

abbrev pub tally_left : TallyState → Bool
tally_left t = nat_le t.limit (sum_in t.counts)

abbrev pub tally_view : WatcherView TallyState
tally_view = watcher_view (λ t. None) (λ t. count_in t.counts) tally_left
    (λ t. Some (rest_of t.limit (sum_in t.counts)))

-- the events, the oldest first, their number by kind, and how many there is room for
pub record KeptState : Type 0 where
  pub events : List Event
  pub counts : Counts
  pub room : ℕ

abbrev pub kept_left : KeptState → Bool
kept_left k = nat_le k.room (length k.events)

abbrev pub kept_view : WatcherView KeptState
kept_view = watcher_view (λ k. Some k.events) (λ k. count_in k.counts) kept_left
    (λ k. Some (rest_of k.room (length k.events)))

-- the sink that the lines go to, and the number of events by kind
pub record PrinterState (K : Type 0) : Type 0 where
  pub sink : K
  pub counts : Counts

-- an event more could not be counted
abbrev pub printer_left : {K : Type 0} → PrinterState K → Bool
printer_left p = nat_le (2 ^ 64 - 1) (sum_in p.counts)

abbrev pub printer_view : {K : Type 0} → WatcherView (PrinterState K)
printer_view = watcher_view (λ p. None) (λ p. count_in p.counts) printer_left
    (λ p. Some (rest_of (2 ^ 64 - 1) (sum_in p.counts)))
