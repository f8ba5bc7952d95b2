-- A watcher with a limit of events of one kind, as contracts see it.
use Rattle.std.proofs.Common.{arith}
use Rattle.std.proofs.lemmas.Bool.Decides.{nat_tests}
use Rattle.std.specs.Prelude.{◌≡◌, ◌-◌, ◌^◌, ◌||◌, ℕ, Bool, false, [], None, Some, nat_le}
use Rattle.stair_rack.specs.Watching.{IsPatient, RemainingQuota, WatcherView, watcher_view}
use Rattle.stair_rack.specs.declared.watcher.Counts.{Counts}
use Rattle.stair_rack.specs.declared.watcher.EventKind.{EventKind}
use Rattle.stair_watch.specs.Watchers.{count_in, sum_in}

-- the sink of the lines, the number of events by kind, and the kind and the number of events at which it leaves
pub record QuotaState (K : Type 0) : Type 0 where
  pub sink : K
  pub counts : Counts
  pub kind : EventKind
  pub limit : ℕ

-- A quota has left if the limit of its kind is reached, or if one more event could not be counted.
abbrev pub quota_left : {K : Type 0} → QuotaState K → Bool
quota_left q = nat_le q.limit (count_in q.counts q.kind) || nat_le (2 ^ 64 - 1) (sum_in q.counts)

-- the number of events of all kinds, and of its kind, that it still waits for
abbrev pub quota_remaining : {K : Type 0} → QuotaState K → RemainingQuota
quota_remaining q = record {
  all = 2 ^ 64 - 1 - sum_in q.counts;
  kind = Some (q.kind, q.limit - count_in q.counts q.kind);
}

-- a quota that has not left waits for at least one more event of its kind
pub quota_waits : {K : Type 0} (q : QuotaState K) → quota_left q ≡ false → IsPatient [] (quota_remaining q)
quota_waits q stays = (grind (arith, nat_tests), grind (arith, nat_tests))

abbrev pub quota_view : {K : Type 0} → WatcherView (QuotaState K)
quota_view = watcher_view (λ q. None) (λ q. count_in q.counts) quota_left (λ q. Some (quota_remaining q))
