-- What is written to the devices of a new array, and what is written after their superblock places.
use Rattle.std.proofs.Common.{◌≡◌, ℕ, ◌+◌, ◌<◌, ◌≤◌, List, ◌⊎◌, inl, inr, refl, sym, ap, ◌∙◌, subst, arith, None, Some, if◌then◌else◌}
use Rattle.std.specs.Prelude.{◌↔◌, IsTrue, nat_lt}
use Rattle.std.proofs.lemmas.Bool.{cases_eq, cases_lt, cond-true, cond-false, le-ltb, lt-ltb}
use Rattle.stair_model.specs.Device.{gate_sector}
use Rattle.stair_model.specs.Geometry.{Geometry, sectors_needed}
use Rattle.stair_model.specs.Slots.{Slots, HasSlot}
use Rattle.stair_rack.specs.Answers.{IsBesideAttach, IsNoAttach, Ran, any_call}
use Rattle.stair_rack.specs.Count.{Rose, kept-Rose}
use Rattle.stair_rack.specs.History.{Happening, SlotCall, Attach, Sectors, Read, Write, Sync, slot_state}
use Rattle.stair_rack.specs.Offline.{IsHeld, IsOfflineUntilAttached}
use Rattle.stair_rack.specs.Passes.{Settled, Wrote}
use Rattle.stair_rack.specs.Placed.{IsSyncOf, IsWriteOf, Placed, Writes}
use Rattle.stair_rack.specs.RackCounts.{NoneFalls}
use Rattle.stair_rack.specs.Sector.{Good, content}
use Rattle.stair_rack.proofs.MomentLemmas.{at_some_wider, ran_join, ran_none, ran_weakened}
use Rattle.stair_rack.proofs.KeptLemmas.{IsKept-since}
use Rattle.stair_rack.proofs.OfflineLemmas.{held_on, offline_now, pulls_on}
use Rattle.stair_rack.proofs.PassCounts.{NoneFalls-same, NoneFalls-then}
use Rattle.stair_rack.proofs.WritingLemmas.{Reach, SyncStep-pass, WriteStep-pass, Writing-same, reach_on, writing_more, writing_none}
use Rattle.stair_rack.proofs.PlacedLemmas.{Placed-from}
use Rattle.stair_rack.specs.Writing.{Writing}
use Rattle.stair_rack.proofs.StandingLemmas.{Spares, standing_on}
use Rattle.stair_array.specs.Created.{created_sector}
use Rattle.stair_array.specs.Look.{IsTaken}
use Rattle.stair_rack.specs.RackState.{RackState}
use Rattle.stair_array.specs.Making.{AreMade, IsBehind, IsMaking, IsOneGone, IsStoppedAt, IsStoppedBy}
use Rattle.stair_array.specs.declared.fault.CreateFault.{CreateFault}
use Rattle.stair_array.specs.declared.fault.CreateFault.TheVariants.{Gone, SmallDevice, AlreadyArray}
use Rattle.stair_state.proofs.RedoPhaseLemmas.{large_some}

-- CALLS

-- none of these calls attaches a slot
pub making_beside : (g : Geometry) (slots part : ℕ → Type 0) (j : ℕ) (c : SlotCall) → IsMaking g slots part j c → IsBesideAttach c
making_beside g slots part j (Attach answer) is = absurd is
making_beside g slots part j (Sectors size) is = absurd is
making_beside g slots part j (Read k answer) is = absurd is
making_beside g slots part j (Write k bytes answer) is = tt
making_beside g slots part j (Sync answer) is = tt

pub making_no_attach : (g : Geometry) {slots part : ℕ → Type 0} {old new : List Happening} (j : ℕ) → Ran (IsMaking g slots part) old new → Ran (IsNoAttach j) old new
making_no_attach g {slots} {part} j ran =
    ran_weakened {allowed = IsMaking g slots part} {more = IsNoAttach j} (λ i c is same. making_beside g slots part i c is) ran

-- on more slots, and of more sectors
pub making_within : (g : Geometry) {slots more part wider : ℕ → Type 0} {old new : List Happening} → ((j : ℕ) → slots j → more j)
    → ((k : ℕ) → part k → wider k) → Ran (IsMaking g slots part) old new → Ran (IsMaking g more wider) old new
making_within g {slots} {more} {part} {wider} within parts ran =
    ran_weakened {allowed = IsMaking g slots part} {more = IsMaking g more wider} step ran
  where
    step : (j : ℕ) (c : SlotCall) → IsMaking g slots part j c → IsMaking g more wider j c
    step j (Attach answer) is = absurd is
    step j (Sectors size) is = absurd is
    step j (Read k answer) is = absurd is
    step j (Write k bytes answer) is = (within j is.0, parts k is.1, is.2)
    step j (Sync answer) is = within j is

-- The writes are of these sectors, and of what a new array has there.
abbrev pub AreOfNew : Geometry → Writes → (ℕ → Type 0) → (ℕ → Type 0) → Type 0
AreOfNew g what to part = (j k : ℕ) (bytes : List ℕ) → to j → what j k ≡ Some bytes → part k × (bytes ≡ created_sector g j k)

-- writes and syncs of a phase
making_writes : (g : Geometry) (what : Writes) (to part : ℕ → Type 0) {old new : List Happening} → AreOfNew g what to part
    → Ran (IsWriteOf what to) old new → Ran (IsMaking g to part) old new
making_writes g what to part within ran =
    ran_weakened {allowed = IsWriteOf what to} {more = IsMaking g to part}
    (λ j c is. subst (IsMaking g to part j) (sym is.is)
    (is.on, (within j is.sector is.bytes is.on is.is_one).0, (within j is.sector is.bytes is.on is.is_one).1)) ran

making_syncs : (g : Geometry) (to part : ℕ → Type 0) {old new : List Happening} → Ran (IsSyncOf to) old new → Ran (IsMaking g to part) old new
making_syncs g to part ran =
    ran_weakened {allowed = IsSyncOf to} {more = IsMaking g to part} (λ j c is. subst (IsMaking g to part j) (sym is.is) is.on) ran

pub making_phase : (g : Geometry) (what : Writes) (to gone part : ℕ → Type 0) {old new : List Happening} → AreOfNew g what to part
    → Placed what to gone old new → Ran (IsMaking g to part) old new
making_phase g what to gone part within p = ran_join (making_writes g what to part within p.writes) (making_syncs g to part p.syncs)

-- SLOTS THAT WERE TAKEN

-- the slot is held
pub taken_held : {g : Geometry} {j : ℕ} {before now : List Happening} → IsTaken g j before now → IsHeld before now j
taken_held {g} {j} {before} {now} t =
    held_on {allowed = IsNoAttach j} j t.since
    (IsHeld.InUse t.in_use (large_some g (slot_state t.taken j).size t.large) (pulls_on {allowed = any_call} j t.before))

-- and has each sector that the array needs, as long as it is attached
pub taken_reach : {g : Geometry} {j : ℕ} {before now : List Happening} (k : ℕ) → k < sectors_needed g → IsTaken g j before now → Reach k (slot_state now j)
taken_reach {g} {j} k below t =
    reach_on {allowed = IsNoAttach j} j k (λ c may. may refl) t.since (λ attached. t.large k below)

-- What a phase says of a slot that was gone, said of a slot that was taken.
pub stopped_from : (g : Geometry) (j : ℕ) (old new : RackState) → Rose (old.gones j) (new.gones j)
    → (IsTrue new.honest → (before : List Happening) → IsHeld before old.history j
    → ((k : ℕ) → k < sectors_needed g → Reach k (slot_state old.history j)) → IsOfflineUntilAttached before new.history j) → IsStoppedAt g j old new
stopped_from g j old new rose shut = record {
  gone = rose;
  offline = λ is before t. offline_now (shut is before (taken_held t) (λ k below. taken_reach k below t));
}

-- SECTORS THAT ARE MADE

pub made_on : {g : Geometry} {part : ℕ → Type 0} {j : ℕ} {allowed : ℕ → SlotCall → Type 0} {old mid new : List Happening} → AreMade g part j old mid
    → Ran allowed mid new → ((k : ℕ) → part k → Spares allowed j k) → AreMade g part j old new
made_on {g} {part} {j} {allowed} {old} {mid} {new} m ran spares = record {
  landed = λ k is below.
      at_some_wider {a = any_call} {b = allowed} {P = λ h. content ((slot_state h j).sector k) ≡ Good (created_sector g j k)} (ran_none old) ran
      (m.landed k is below);
  stands = λ k is below.
      standing_on {allowed = allowed} (slot_state old j).pulls j k (Good (created_sector g j k)) (spares k is) ran (m.stands k is below);
}

pub made_sooner : {g : Geometry} {part : ℕ → Type 0} {j : ℕ} {old mid new : List Happening} → Ran any_call old mid → AreMade g part j mid new
    → AreMade g part j old new
made_sooner {g} {part} {j} {old} {mid} {new} ran m = record {
  landed = λ k is below.
      at_some_wider {a = any_call} {b = any_call} {P = λ h. content ((slot_state h j).sector k) ≡ Good (created_sector g j k)} ran (ran_none new)
      (m.landed k is below);
  stands = λ k is below. IsKept-since (pulls_on {allowed = any_call} j ran) (m.stands k is below);
}

pub made_from : (g : Geometry) (part : ℕ → Type 0) (j : ℕ) (what : Writes) (to gone : ℕ → Type 0) (old new : List Happening) → Placed what to gone old new
    → to j → (¬ gone j) → ((k : ℕ) → part k → k < sectors_needed g → what j k ≡ Some (created_sector g j k)) → AreMade g part j old new
made_from g part j what to gone old new p on fine is_one = record {
  landed = λ k is below. p.landed j k (created_sector g j k) on fine (is_one k is below);
  stands = λ k is below. p.done j k (created_sector g j k) on fine (is_one k is below);
}

-- BEHIND THE SUPERBLOCK PLACES

-- a closed gate and zeros
abbrev pub behind : Geometry → Writes
behind g j k = if nat_lt k gate_sector then None else (if nat_lt k (sectors_needed g) then Some (created_sector g j k) else None)

behind_there : (g : Geometry) (j k : ℕ) → gate_sector ≤ k → k < sectors_needed g → behind g j k ≡ Some (created_sector g j k)
behind_there g j k past below = cond-false _ _ _ (le-ltb k gate_sector past) ∙ cond-true _ _ _ (lt-ltb k (sectors_needed g) below)

behind_is : (g : Geometry) (j k : ℕ) (bytes : List ℕ) → behind g j k ≡ Some bytes → IsBehind g k
behind_is g j k bytes is =
    elim (cases_lt k gate_sector) [
      | inl before ↦
          let none : None ≡ Some bytes = sym (cond-true _ _ _ (lt-ltb k gate_sector before)) ∙ is in
          absurd (cc)
      | inr past ↦
          elim (cases_lt k (sectors_needed g)) [
            | inl below ↦ (past, below)
            | inr after ↦
                let none : None ≡ Some bytes =
                sym (cond-false _ _ _ (le-ltb k gate_sector past) ∙ cond-false _ _ _ (le-ltb k (sectors_needed g) after)) ∙ is in
                absurd (cc)
          ]
    ]

behind_new : (g : Geometry) (to : ℕ → Type 0) → AreOfNew g (behind g) to (IsBehind g)
behind_new g to j k bytes on is =
    let at = behind_is g j k bytes is in
    let both : Some bytes ≡ Some (created_sector g j k) = sym is ∙ behind_there g j k at.0 at.1 in
    let same : bytes ≡ created_sector g j k = cc in
    (at, same)

-- the sectors of these slots from the gate up to this one
abbrev pub UpTo : Slots → ℕ → ℕ → ℕ → Type 0
UpTo slots sector j k = HasSlot slots j × (gate_sector ≤ k) × (k < sector)

-- Those below this sector were written.
pub record LaidSoFar (g : Geometry) (slots : Slots) (sector : ℕ) (old now : RackState) : Type 0 where
  pub writing : IsTrue now.honest → Writing (behind g) (HasSlot slots) (λ j. ⊥) (UpTo slots sector) old.history now.history
  pub counts : NoneFalls old.bads now.bads old.gones now.gones

pub laid_none : (g : Geometry) (slots : Slots) (now : RackState) → LaidSoFar g slots gate_sector now now
laid_none g slots now = record {
  writing = λ is.
      Writing-same {what = behind g} {to = HasSlot slots} (λ j. (λ none. none, λ none. none)) (λ j k made. absurd (omega (arith, made.1, made.2)))
      (writing_none (behind g) (HasSlot slots) now.history);
  counts = NoneFalls-same now.bads now.gones;
}

-- one sector more of each
module _ (g : Geometry) (slots gone : Slots) (sector : ℕ) (bytes : List ℕ) (old now next : RackState) (so_far : LaidSoFar g slots sector old now)
    (same : now.honest ≡ next.honest) (past : gate_sector ≤ sector) (below : sector < sectors_needed g)
    (is_one : (j : ℕ) → bytes ≡ created_sector g j sector) (counts : NoneFalls now.bads next.bads now.gones next.gones)
    (wrote : IsTrue next.honest → Wrote slots gone sector bytes now.history next.history) where
  laid_step : IsTrue next.honest
      → Writing (behind g) (HasSlot slots) (λ j. ⊥ ⊎ HasSlot gone j) (λ j k. UpTo slots sector j k ⊎ (HasSlot slots j × (k ≡ sector)))
      old.history next.history
  laid_step is =
      writing_more (behind g) (HasSlot slots) (λ j. ⊥) (HasSlot gone) (HasSlot slots) (UpTo slots sector) sector bytes old.history now.history
      next.history (so_far.writing (same ∙ is)) (WriteStep-pass slots gone sector bytes now.history next.history (wrote is))
      (λ j on. (on, behind_there g j sector past below ∙ ap Some (sym (is_one j))))

  pub laid_more : ((j : ℕ) → ¬ HasSlot gone j) → LaidSoFar g slots (sector + 1) old next
  laid_more none = record {
    writing = λ is. Writing-same {what = behind g} {to = HasSlot slots} none_gone one_more (laid_step is);
    counts = NoneFalls-then so_far.counts counts;
  }
    where
      none_gone : (j : ℕ) → (⊥ ⊎ HasSlot gone j) ↔ ⊥
      none_gone j = (λ lost. elim lost [ inl never ↦ never | inr is ↦ none j is ], λ never. absurd never)

      one_more : (j k : ℕ) → UpTo slots (sector + 1) j k → UpTo slots sector j k ⊎ (HasSlot slots j × (k ≡ sector))
      one_more j k made =
          elim (cases_eq k sector) [
            | inl at ↦ inr (made.0, at)
            | inr other ↦ let less : k < sector = omega (arith, made.2, other) in inl (made.0, made.1, less)
          ]

  -- the write was gone
  pub laid_gone : (j : ℕ) → HasSlot gone j → Rose (now.gones j) (next.gones j) → IsStoppedAt g j old next
  laid_gone j lost rose =
      stopped_from g j old next (kept-Rose (old.gones j) (now.gones j) (next.gones j) (so_far.counts.gone j).not_less (counts.gone j).not_less rose)
      (λ is before held reach.
      (laid_step is).shut before j (inr lost) held (λ attached k bytes' at. reach k (behind_is g j k bytes' at).1 attached))

  pub laid_gone_ran : IsTrue next.honest → Ran (IsMaking g (HasSlot slots) (IsBehind g)) old.history next.history
  laid_gone_ran is = making_writes g (behind g) (HasSlot slots) (IsBehind g) (behind_new g (HasSlot slots)) (laid_step is).ran

pub all_sectors : (g : Geometry) (sector last : ℕ) → last ≡ sectors_needed g → (3 ≤ last → sector ≤ last) → last ≤ sector
    → sector ≡ sectors_needed g
all_sectors g sector last is within past =
    let least : 3 ≤ sectors_needed g = omega arith in
    omega (arith, is, within (omega (arith, is, least)), past)

-- all of them, and then syncs
module _ (g : Geometry) (slots gone : Slots) (old now next : RackState) (so_far : LaidSoFar g slots (sectors_needed g) old now)
    (same : now.honest ≡ next.honest) (synced : IsTrue next.honest → Settled slots gone now.history next.history) where
  laid_phase : IsTrue next.honest → Placed (behind g) (HasSlot slots) (λ j. ⊥ ⊎ HasSlot gone j) old.history next.history
  laid_phase is =
      Placed-from (behind g) (HasSlot slots) (λ j. ⊥) (HasSlot slots) (HasSlot gone) (UpTo slots (sectors_needed g)) old.history now.history next.history
      (so_far.writing (same ∙ is)) (λ j k bytes on at. (on, (behind_is g j k bytes at).0, (behind_is g j k bytes at).1))
      (SyncStep-pass slots gone now.history next.history (synced is)) (λ j on. on) (λ j on fine. on)

  pub laid_made : ((j : ℕ) → ¬ HasSlot gone j) → IsTrue next.honest → (j : ℕ) → HasSlot slots j → AreMade g (IsBehind g) j old.history next.history
  laid_made none is j on =
      made_from g (IsBehind g) j (behind g) (HasSlot slots) (λ i. ⊥ ⊎ HasSlot gone i) old.history next.history (laid_phase is) on
      (λ lost. elim lost [ inl never ↦ never | inr was ↦ none j was ]) (λ k past below. behind_there g j k past.0 below)

  pub laid_unsynced : (j : ℕ) → HasSlot gone j → Rose (now.gones j) (next.gones j) → NoneFalls now.bads next.bads now.gones next.gones
      → IsStoppedAt g j old next
  laid_unsynced j lost rose counts =
      stopped_from g j old next (kept-Rose (old.gones j) (now.gones j) (next.gones j) (so_far.counts.gone j).not_less (counts.gone j).not_less rose)
      (λ is before held reach.
      (laid_phase is).shut before j (inr lost) held (λ attached k bytes at. reach k (behind_is g j k bytes at).1 attached))

  pub laid_ran : IsTrue next.honest → Ran (IsMaking g (HasSlot slots) (IsBehind g)) old.history next.history
  laid_ran is =
      making_phase g (behind g) (HasSlot slots) (λ j. ⊥ ⊎ HasSlot gone j) (IsBehind g) (behind_new g (HasSlot slots)) (laid_phase is)

-- the one that is answered of those that were gone
pub stopped_by : (g : Geometry) (gone : Slots) (fault : CreateFault) (old new : RackState) → IsOneGone gone fault
    → ((j : ℕ) → HasSlot gone j → (j < g.n) × IsStoppedAt g j old new) → IsStoppedBy g fault old new
stopped_by g gone (Gone slot) old new one stopped = stopped slot one
stopped_by g gone (SmallDevice slot has needs) old new one stopped = absurd one
stopped_by g gone (AlreadyArray slot) old new one stopped = absurd one
