-- What a rack tells in longer stretches.
use Rattle.std.proofs.Common.{◌≡◌, ℕ, ◌≤◌, Bool, true, List, ◌++◌, refl, ap, ◌∙◌}
use Rattle.std.specs.Prelude.{IsTrue}
use Rattle.stair_rack.specs.Answers.{Calls, Told, Untold, IsHistory, any_call}
use Rattle.stair_rack.specs.Count.{Rose, Rose-kept, kept-Rose}
use Rattle.stair_rack.specs.History.{Happening, SlotCall, Attach, Read, SlotState, slot_state}
use Rattle.stair_rack.specs.Moments.{AtSomeMoment}
use Rattle.stair_rack.specs.Offline.{IsOffline}
use Rattle.stair_rack.specs.RackCounts.{NoneFalls}
use Rattle.stair_rack.specs.Sector.{Cell, Good, Damaged, Torn, TornOverDamage, content}
use Rattle.stair_rack.specs.declared.rack.Reply.TheVariants as reply
use Rattle.stair_rack.proofs.StepLemmas.{slot_after_call}
use Rattle.stair_rack.proofs.MomentLemmas.{IsThis, at_some_mapped, at_some_wider, calls_ran, ran_any, ran_join, ran_none}
use Rattle.stair_rack.proofs.OfflineLemmas.{WasPulled-sooner, refused}
use Rattle.stair_rack.specs.declared.rack.Got.TheVariants as got
use Rattle.stair_rack.proofs.CallLemmas.{read_gone}
use Rattle.stair_rack.proofs.ReadLemmas.{was_read_bad, was_read_good, was_read_wider}
use Rattle.stair_rack.proofs.PassCounts.{NoneFalls-same, NoneFalls-then}
use Rattle.stair_rack.specs.RackState.{RackState, IsFoundGone, IsGone, IsLater, IsReading, rack_state}

rose_wider : {a b c d : ℕ} → a ≤ b → Rose b c → b ≤ c → c ≤ d → Rose a d
rose_wider {a} {b} {c} {d} first rose within second = Rose-kept a c d (kept-Rose a b c first within rose) second

pub later_join : {old mid new : RackState} → IsLater old mid → IsLater mid new → IsLater old new
later_join first second = record {
  counts = NoneFalls-then first.counts second.counts;
  honest = first.honest ∙ second.honest;
  ran = λ honest. ran_join (first.ran (second.honest ∙ honest)) (second.ran honest);
}

pub later_none : (now : RackState) → IsLater now now
later_none now = record { counts = NoneFalls-same now.bads now.gones; honest = refl; ran = λ honest. ran_none now.history }

-- a call is a later moment
pub later_called : (honest : Bool) (old new : List Happening) (bads bads' : ℕ) (gones gones' : ℕ → ℕ) (j : ℕ) (c : SlotCall)
    → (IsTrue honest → Calls old new j c) → NoneFalls bads bads' gones gones' → IsLater (rack_state honest old bads gones) (rack_state honest new bads' gones')
later_called honest old new bads bads' gones gones' j c told counts =
    record { counts = counts; honest = refl; ran = λ is. ran_any {allowed = IsThis j c} (calls_ran (told is)) }

-- an attach that finds the medium is told: the slot is attached
pub attach_uses : {old new : List Happening} {j : ℕ} → Calls old new j (Attach reply.Done) → (slot_state new j).attached ≡ true
attach_uses {old} {new} {j} (Told acts runs answered is) =
    ap (λ (b : SlotState). b.attached) (ap (λ h. slot_state h j) is ∙ slot_after_call (acts ++ old) j (Attach reply.Done))
attach_uses {old} {new} {j} (Untold acts runs answered is_stopped nothing is) =
    let gone : reply.Done ≡ reply.Gone = refused (acts ++ old) j (Attach reply.Done) is_stopped answered in
    absurd (cc)

-- of racks that say the same of their honesty
module _ (old mid new later : RackState) (first : IsLater old mid) (same : mid.honest ≡ new.honest) (within : NoneFalls mid.bads new.bads mid.gones new.gones)
    (second : IsLater new later) where
  pub honest_before : IsTrue later.honest → IsTrue mid.honest
  honest_before honest = same ∙ second.honest ∙ honest

  pub honest_within : IsTrue later.honest → IsTrue new.honest
  honest_within honest = second.honest ∙ honest

  pub some_wider : (P : List Happening → Type 0) → IsTrue later.honest → AtSomeMoment P mid.history new.history → AtSomeMoment P old.history later.history
  some_wider P honest some =
      at_some_wider {a = any_call} {b = any_call} {P = P} (first.ran (honest_before honest)) (second.ran honest) some

  bads_wider : Rose mid.bads new.bads → Rose old.bads later.bads
  bads_wider rose = rose_wider first.counts.bad.not_less rose within.bad.not_less second.counts.bad.not_less

  pub gones_wider : (j : ℕ) → Rose (mid.gones j) (new.gones j) → Rose (old.gones j) (later.gones j)
  gones_wider j rose = rose_wider (first.counts.gone j).not_less rose (within.gone j).not_less (second.counts.gone j).not_less

  pub reading_wider : (j k : ℕ) (cell : Cell) → IsReading j k mid new cell → IsReading j k old later cell
  reading_wider j k (Good bytes) was = λ honest.
      was_read_wider {a = any_call} {b = any_call} (first.ran (honest_before honest)) (second.ran honest) (was (honest_within honest))
  reading_wider j k Damaged was = (
    bads_wider was.0,
    λ honest. was_read_wider {a = any_call} {b = any_call} (first.ran (honest_before honest)) (second.ran honest) (was.1 (honest_within honest)),
  )
  reading_wider j k Torn was = absurd was
  reading_wider j k TornOverDamage was = absurd was

  -- an offline slot is offline since an earlier moment
  offline_sooner : (h : List Happening) (j : ℕ) → IsTrue later.honest → IsOffline mid.history h j → IsOffline old.history h j
  offline_sooner h j honest (IsOffline.NoMedium none) = IsOffline.NoMedium none
  offline_sooner h j honest (IsOffline.Unattached not_attached pulled) =
      IsOffline.Unattached not_attached (WasPulled-sooner {allowed = any_call} h j (first.ran (honest_before honest)) pulled)
  offline_sooner h j honest (IsOffline.RackStopped is) = IsOffline.RackStopped is

  pub gone_wider : (j : ℕ) → IsFoundGone j mid new → IsFoundGone j old later
  gone_wider j was = (
    gones_wider j was.0,
    λ honest.
        at_some_mapped {P = λ h. IsOffline mid.history h j} {Q = λ h. IsOffline old.history h j}
        (λ h at is. offline_sooner h j honest is) (some_wider (λ h. IsOffline mid.history h j) honest (was.1 (honest_within honest))),
  )

-- ONE READ

module _ (honest : Bool) (old new : List Happening) (bads bads' : ℕ) (gones gones' : ℕ → ℕ) (j k : ℕ) where
  pub reading_good : (bytes : List ℕ) → (IsTrue honest → Calls old new j (Read k got.Good))
      → (IsTrue honest → content ((slot_state new j).sector k) ≡ Good bytes)
      → IsReading j k (rack_state honest old bads gones) (rack_state honest new bads' gones') (Good bytes)
  reading_good bytes told good = λ is. was_read_good (λ cell. cell ≡ Good bytes) (told is) (good is)

  pub reading_bad : (IsTrue honest → IsHistory old) → (IsTrue honest → Calls old new j (Read k got.Bad)) → Rose bads bads'
      → IsReading j k (rack_state honest old bads gones) (rack_state honest new bads' gones') Damaged
  reading_bad began told rose = (rose, λ is. was_read_bad (began is) (told is))

  pub gone_to_read : (IsTrue honest → Calls old new j (Read k got.Gone)) → Rose (gones j) (gones' j)
      → IsGone j (rack_state honest old bads gones) (rack_state honest new bads' gones')
  gone_to_read told rose = record { rose = rose; shut = λ is before held. read_gone old new j k before (told is) held }
