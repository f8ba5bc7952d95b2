-- What a gone slot tells in longer stretches.
use Rattle.std.proofs.Common.{◌≡◌, ℕ}
use Rattle.std.specs.Prelude.{IsTrue}
use Rattle.stair_rack.specs.Answers.{IsBesideAttach, Ran, any_call}
use Rattle.stair_rack.specs.History.{SlotCall}
use Rattle.stair_rack.specs.RackCounts.{NoneFalls}
use Rattle.stair_rack.specs.RackState.{IsGone, IsLater, RackState}
use Rattle.stair_rack.proofs.OfflineLemmas.{held_on, offline_on}
use Rattle.stair_rack.proofs.RackStateLemmas.{gones_wider, honest_before, honest_within}

-- a slot that was gone from mid to new was gone in each longer stretch in which no call after new attaches it
pub is_gone_wider : {allowed : ℕ → SlotCall → Type 0} (old mid new later : RackState) → IsLater old mid → mid.honest ≡ new.honest
    → NoneFalls mid.bads new.bads mid.gones new.gones → IsLater new later → (j : ℕ) → ((c : SlotCall) → allowed j c → IsBesideAttach c)
    → (IsTrue later.honest → Ran allowed new.history later.history) → IsGone j mid new → IsGone j old later
is_gone_wider {allowed} old mid new later first same within second j beside ran was = record {
  rose = gones_wider old mid new later first same within second j was.rose;
  shut = λ honest before held.
      offline_on {allowed = allowed} j beside (ran honest)
      (was.shut (honest_within old mid new later first same within second honest) before
      (held_on {allowed = any_call} j (first.ran (honest_before old mid new later first same within second honest)) held));
}
