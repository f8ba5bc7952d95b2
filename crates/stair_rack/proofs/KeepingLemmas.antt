-- What a phase keeps, and how it ends.
use Rattle.std.proofs.Common.{◌≡◌, ℕ, true, List, [], ◌⊎◌, inl, inr, refl, ap, Option, None, Some}
use Rattle.std.specs.Prelude.{IsTrue, IsSome}
use Rattle.stair_rack.specs.Sector.{Cell, Good, Damaged, Sector, settled, synced, torn, Leaves}
use Rattle.stair_rack.specs.Media.{has_sector}
use Rattle.stair_rack.specs.History.{Write, Sync, Happening, slot_state, stopped}
use Rattle.stair_rack.specs.Answers.{Ran, any_call}
use Rattle.stair_rack.specs.Moments.{AtEveryMoment}
use Rattle.stair_rack.specs.Offline.{IsKept, Lost, ButForOutside, IsHeld, IsOfflineUntilAttached}
use Rattle.stair_rack.specs.Placed.{Writes, IsWriteOf, IsSyncOf, Placed}
use Rattle.stair_rack.proofs.MomentLemmas.{ran_any, ran_join, at_every_join, at_last}
use Rattle.stair_rack.specs.declared.rack.Reply.TheVariants as reply
use Rattle.stair_rack.proofs.KeptLemmas.{IsKept-since, IsKept-mapped}
use Rattle.stair_rack.proofs.OfflineLemmas.{pulls_on}
use Rattle.stair_rack.proofs.CrashLemmas.{KeepsLeaving, leaves_throughout}

-- What the outside and a phase do to a sector keeps `Leaves Q Base`.
pub record PhaseKeeps (what : Writes) (to : ℕ → Type 0) (j k : ℕ) (Q Base : Cell → Type 0) : Type 0 where
  pub damage : Q Damaged
  pub under_damage : Base Damaged
  pub write : (bytes : List ℕ) → to j → what j k ≡ Some bytes → Q (Good bytes)
  pub cut : (bytes : List ℕ) (cell : Cell) → to j → what j k ≡ Some bytes → Base cell → Q (torn cell)
  pub sync : (cell : Cell) → to j → Q cell → Base cell

pub phase_leaves : {what : Writes} {to gone : ℕ → Type 0} {old new : List Happening} {Q Base : Cell → Type 0} (pulls j k : ℕ)
    → PhaseKeeps what to j k Q Base → Placed what to gone old new → IsKept pulls k (Leaves Q Base) (slot_state old j)
    → AtEveryMoment (λ h. IsKept pulls k (Leaves Q Base) (slot_state h j)) old new
phase_leaves {what} {to} {Q = Q} {Base = Base} pulls j k keeps phase start =
    let in_writes : KeepsLeaving (IsWriteOf what to) j k Q Base = record {
      damage = keeps.damage;
      under_damage = keeps.under_damage;
      write = λ bytes may. keeps.write bytes may.on (this_one bytes may);
      cut = λ bytes cell may under. keeps.cut bytes cell may.on (this_one bytes may) under;
      sync = λ cell may holds. let same : Sync reply.Done ≡ Write may.sector may.bytes may.answer = may.is in absurd (cc);
    } in
    let in_syncs : KeepsLeaving (IsSyncOf to) j k Q Base = record {
      damage = keeps.damage;
      under_damage = keeps.under_damage;
      write = λ bytes may. let same : Write k bytes reply.Done ≡ Sync may.answer = may.is in absurd (cc);
      cut = λ bytes cell may under. let same : Write k bytes reply.Done ≡ Sync may.answer = may.is in absurd (cc);
      sync = λ cell may holds. keeps.sync cell may.on holds;
    } in
    let first = leaves_throughout {allowed = IsWriteOf what to} {Q = Q} {Base = Base} pulls j k in_writes phase.writes start in
    let half = at_last {P = λ h. IsKept pulls k (Leaves Q Base) (slot_state h j)} first in
    at_every_join first (leaves_throughout {allowed = IsSyncOf to} {Q = Q} {Base = Base} pulls j k in_syncs phase.syncs half)
  where
    this_one : (bytes : List ℕ) → IsWriteOf what to j (Write k bytes reply.Done) → what j k ≡ Some bytes
    this_one bytes may = let same : Write k bytes reply.Done ≡ Write may.sector may.bytes may.answer = may.is in cc

-- a phase is a stretch of these writes and syncs
pub phase_ran : {what : Writes} {to gone : ℕ → Type 0} {old new : List Happening} → Placed what to gone old new → Ran any_call old new
phase_ran {what} {to} phase = ran_join (ran_any {allowed = IsWriteOf what to} phase.writes) (ran_any {allowed = IsSyncOf to} phase.syncs)

-- At its end a slot that the session holds has its bytes on the disk, but for the outside since the session began, or the
-- rack is stopped: a slot that was gone lost its medium.
pub phase_ends : {what : Writes} {to gone : ℕ → Type 0} {before old new : List Happening} (j k : ℕ) (bytes : List ℕ) → Placed what to gone old new
    → Ran any_call before old → to j → what j k ≡ Some bytes → IsHeld before old j
    → ((slot_state old j).attached ≡ true → (l : ℕ) (bytes' : List ℕ) → what j l ≡ Some bytes' → IsTrue (has_sector (slot_state old j).size l))
    → IsTrue (stopped new) ⊎ ButForOutside before new j k (λ s. s ≡ settled (Good bytes))
phase_ends {before = before} {old = old} {new = new} j k bytes phase ran on is held reach =
    elim (phase.known j) [
      | inl is_gone ↦
          elim (phase.shut before j is_gone held reach) [
            | IsOfflineUntilAttached.Unattached not_attached pulled ↦ inr (Lost pulled)
            | IsOfflineUntilAttached.RackStopped is_stopped ↦ inl is_stopped
          ]
      | inr fine ↦ inr (IsKept-since (pulls_on {allowed = any_call} j ran) (phase.done j k bytes on fine is))
    ]

-- each slot that wasn't gone is settled whole at its end
pub phase_whole : {what : Writes} {to gone : ℕ → Type 0} {old new : List Happening} (j k : ℕ) → Placed what to gone old new → to j → (¬ gone j)
    → IsSome (slot_state old j).size → ButForOutside old new j k (λ s. s.since ≡ [])
phase_whole {what} {to} {gone} {old} {new} j k phase on fine some = by_what (what j k) refl
  where
    by_what : (o : Option (List ℕ)) → what j k ≡ o → ButForOutside old new j k (λ s. s.since ≡ [])
    by_what None none =
        IsKept-mapped {P = λ s. s ≡ synced ((slot_state old j).sector k)} (λ s is. ap (λ (x : Sector). x.since) is) (phase.rest j k some on fine none)
    by_what (Some bytes) is =
        IsKept-mapped {P = λ s. s ≡ settled (Good bytes)} (λ s at. ap (λ (x : Sector). x.since) at) (phase.done j k bytes on fine is)
