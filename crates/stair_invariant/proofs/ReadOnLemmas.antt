-- A recovery is where it was after reads, and after slots that were gone are left out.
use Rattle.std.proofs.Common.{◌≡◌, ℕ, ◌<◌, List, [], inl, inr, refl, sym, ap, subst, arith, None, Option}
use Rattle.std.specs.Prelude.{IsSome, IsTrue, Ok, Err}
use Rattle.stair_model.specs.Device.{gate_sector}
use Rattle.stair_model.specs.Slots.{HasSlot, Slots}
use Rattle.stair_rack.specs.Answers.{Ran, any_call}
use Rattle.stair_rack.specs.History.{Happening, SlotCall, Attach, Sectors, Read, Write, Sync, slot_state, stopped}
use Rattle.stair_rack.specs.Offline.{ButForOutside, IsAttached, IsKept}
use Rattle.stair_rack.specs.Placed.{IsSlot}
use Rattle.stair_rack.specs.Reading.{IsReadOf}
use Rattle.stair_rack.specs.Sector.{Sector}
use Rattle.stair_rack.specs.Stretch.{NothingReturned}
use Rattle.stair_rack.proofs.KeptLemmas.{SectorKeeps, keeps_sector}
use Rattle.stair_rack.proofs.MomentLemmas.{at_last, ran_none, ran_weakened}
use Rattle.stair_rack.proofs.OfflineLemmas.{pulls_on}
use Rattle.stair_rack.proofs.StepLemmas.{kept}
use Rattle.stair_member.specs.Membership.{IsHere, Membership, why_of}
use Rattle.stair_member.specs.declared.why.Why.TheVariants.{Here}
use Rattle.stair_journal.specs.declared.redo.Redo.{Redo}
use Rattle.stair_state.specs.Blocks.{Codewords}
use Rattle.stair_state.specs.Redoing.{AttachesNone, Redoing, Stage, WritesNone}
use Rattle.stair_state.proofs.RecoveryLemmas.{still_bad, still_open}
use Rattle.stair_state.proofs.RedoPhaseLemmas.{large_some, slot_unwritten}
use Rattle.stair_state.proofs.StageLemmas.{SlotIn}
use Rattle.stair_invariant.specs.Effects.{Fenced, FencesGone, NoneWas, Snapshot}
use Rattle.stair_invariant.specs.InSession.{IsBeside, IsBesideEpochs}
use Rattle.stair_invariant.specs.Session.{IsLiveIn}
use Rattle.stair_invariant.specs.Opening.{IsRecovering, IsToldBy}
use Rattle.stair_invariant.specs.UnderWay.{IsInUse, IsUnderWay}
use Rattle.stair_invariant.proofs.BesideLemmas.{medium_on_it, unattached}
use Rattle.stair_invariant.proofs.UnderWayLemmas.{beside_slot, beside_used, free_of, not_leaving, unwritten_of, used_then, way_beside, way_left}

-- CALLS

read_behind : (m : Membership) (slots sectors : ℕ → Type 0) (j : ℕ) (c : SlotCall) → IsReadOf slots sectors j c → IsBeside m j c
read_behind m slots sectors j (Attach answer) may = absurd may
read_behind m slots sectors j (Sectors size) may = absurd may
read_behind m slots sectors j (Read k answer) may = record {
  epochs = record { behind = tt; attaches = λ here. tt; gate = λ below rebuilt bytes given same. absurd (cc) };
  spares = tt;
}
read_behind m slots sectors j (Write k bytes answer) may = absurd may
read_behind m slots sectors j (Sync answer) may = absurd may

read_writes : (slots sectors some : ℕ → Type 0) (j : ℕ) (c : SlotCall) → IsReadOf slots sectors j c → WritesNone some j c
read_writes slots sectors some j (Attach answer) may = absurd may
read_writes slots sectors some j (Sectors size) may = absurd may
read_writes slots sectors some j (Read k answer) may = tt
read_writes slots sectors some j (Write k bytes answer) may = absurd may
read_writes slots sectors some j (Sync answer) may = absurd may

pub reads_beside_epochs : (m : Membership) {slots sectors : ℕ → Type 0} (old new : List Happening) → Ran (IsReadOf slots sectors) old new
    → Ran (IsBesideEpochs m) old new
reads_beside_epochs m {slots} {sectors} old new ran =
    ran_weakened {allowed = IsReadOf slots sectors} {more = IsBesideEpochs m} (λ j c may. (read_behind m slots sectors j c may).epochs) ran

pub reads_unwritten : (slots sectors : ℕ → Type 0) (old new : List Happening) (j : ℕ) → Ran (IsReadOf slots sectors) old new
    → Ran (WritesNone (IsSlot j)) old new
reads_unwritten slots sectors old new j ran =
    ran_weakened {allowed = IsReadOf slots sectors} {more = WritesNone (IsSlot j)} (λ i c may. read_writes slots sectors (IsSlot j) i c may) ran

-- WHAT IS KNOWN OF A SLOT IN USE

pub known_in_use : {P : Sector → Type 0} (a : Redoing) (stage : Stage) (start : List Happening) (m : Membership) (h : List Happening)
    → IsUnderWay a stage start m h → (j k : ℕ) → IsInUse m h j → P ((slot_state h j).sector k) → ButForOutside start h j k P
known_in_use a stage start m h way j k used holds =
    let stays = way.same j used in
    let least = pulls_on {allowed = any_call} j way.ran in
    IsKept.Here (omega (arith, stays, least)) (large_some a.geometry (slot_state h j).size (way.large j used)) (inr holds)

-- a gate that isn't written stays settled
pub gate_settled : (old new : List Happening) (j : ℕ) → Ran (WritesNone (IsSlot j)) old new → Ran (AttachesNone (λ i. i ≡ j)) old new
    → IsSome (slot_state old j).size → IsAttached new j → ((slot_state old j).sector gate_sector).since ≡ []
    → ((slot_state new j).sector gate_sector).since ≡ []
gate_settled old new j ran free some on settled =
    by
    (kept {allowed = WritesNone (IsSlot j)} {P = λ h. IsKept (slot_state old j).pulls gate_sector IsSettled (slot_state h j)}
    (keeps_sector {allowed = WritesNone (IsSlot j)} {j = j} {k = gate_sector} {P = IsSettled} (slot_state old j).pulls keeps) ran
    (IsKept.Here refl some (inr settled)))
  where
    IsSettled : Sector → Type 0
    IsSettled s = s.since ≡ []

    keeps : SectorKeeps (WritesNone (IsSlot j)) j gate_sector IsSettled
    keeps = record {
      write = λ bytes s apart holds. let below = apart refl in absurd (omega (arith, below));
      sync = λ s apart holds. refl;
    }

    by : IsKept (slot_state old j).pulls gate_sector IsSettled (slot_state new j) → ((slot_state new j).sector gate_sector).since ≡ []
    by (IsKept.Here at has (inl harmed)) = ap (λ (x : Sector). x.since) harmed
    by (IsKept.Here at has (inr is)) = is
    by (IsKept.Lost less) = absurd (medium_on_it old new j free on less)

-- WHAT LASTS while no slot in use is attached, and nothing is written to one from the gate on

module _ (a : Redoing) (stage : Stage) (old_words new_words : Codewords) (start : List Happening) (m last : Membership) (old new : List Happening)
    (used_then : (j : ℕ) → IsInUse last new j → IsInUse m old j) (unwritten : (j : ℕ) → IsInUse last new j → Ran (WritesNone (IsSlot j)) old new)
    (free : (j : ℕ) → IsInUse last new j → Ran (AttachesNone (λ i. i ≡ j)) old new) where
  pub recovering_on : IsRecovering a stage old_words new_words start m old → IsUnderWay a stage start last new
      → IsRecovering a stage old_words new_words start last new
  recovering_on is way = record {
    way = way;
    settled = λ j used.
        gate_settled old new j (unwritten j used) (free j used)
        (large_some a.geometry (slot_state old j).size (is.way.large j (used_then j used))) used.1 (is.settled j (used_then j used));
    begun = is.begun;
    words = is.words;
  }

  -- also what the gates told
  pub told_on : (redo : Option Redo) (opened : Slots) → IsToldBy redo opened a stage start m old → IsToldBy redo opened a stage start last new
  told_on redo opened told = record {
    none = told.none;
    some = told.some;
    opened_are = λ j used has.
        still_open {some = IsSlot j} start old new j refl (unwritten j used) a.geometry a.redo (told.opened_are j (used_then j used) has);
    others_bad = λ placing j used other.
        still_bad {some = IsSlot j} start old new j refl (unwritten j used) (told.others_bad placing j (used_then j used) other);
  }

-- CALLS BESIDE ITS REDOS

module _ (a : Redoing) (stage : Stage) (old_words new_words : Codewords) (start : List Happening) (m : Membership) (old new : List Happening)
    (ran : Ran (IsBeside m) old new) (none : NothingReturned old new) (is : IsRecovering a stage old_words new_words start m old) where
  epochs : Ran (IsBesideEpochs m) old new
  epochs = ran_weakened {allowed = IsBeside m} {more = IsBesideEpochs m} (λ j c may. may.epochs) ran

  unwritten_beside : (j : ℕ) → IsLiveIn m j → Ran (WritesNone (IsSlot j)) old new
  unwritten_beside j on = ran_weakened {allowed = IsBeside m} {more = WritesNone (IsSlot j)} (λ i c may. spares i c may.spares) ran
    where
      spares : (i : ℕ) (c : SlotCall) → WritesNone (λ x. (x < m.array.geometry.n) × (why_of m x ≡ Here)) i c → WritesNone (IsSlot j) i c
      spares i (Attach answer) may = tt
      spares i (Sectors size) may = tt
      spares i (Read k answer) may = tt
      spares i (Write k bytes answer) may = λ same.
          may (subst (λ x. (x < m.array.geometry.n) × (why_of m x ≡ Here)) (sym same) (on.below, on.why))
      spares i (Sync answer) may = tt

  free_beside : (j : ℕ) → IsLiveIn m j → Ran (AttachesNone (λ i. i ≡ j)) old new
  free_beside j on = unattached m old new is.way.epoch epochs none j (record { below = on.below; why = inl on.why })

  used_beside : (j : ℕ) → IsInUse m new j → IsInUse m old j
  used_beside = beside_used a stage start m old new is.way epochs none

  pub recovering_beside : IsRecovering a stage old_words new_words start m new
  recovering_beside =
      recovering_on a stage old_words new_words start m m old new used_beside (λ j used. unwritten_beside j used.0) (λ j used. free_beside j used.0) is
      (way_beside a stage start m old new is.way epochs none stage
      (λ j used.
      at_last {P = λ h. SlotIn a stage start h j}
      (slot_unwritten a stage start j (IsSlot j) refl old new (unwritten_beside j used.0) (beside_slot a stage start m old new is.way epochs none j used))))

  pub told_beside : (redo : Option Redo) (opened : Slots) → IsToldBy redo opened a stage start m old → IsToldBy redo opened a stage start m new
  told_beside =
      told_on a stage old_words new_words start m m old new used_beside (λ j used. unwritten_beside j used.0) (λ j used. free_beside j used.0)

-- READS

module _ (a : Redoing) (stage : Stage) (old_words new_words : Codewords) (start : List Happening) (m : Membership)
    {slots sectors : ℕ → Type 0} (old new : List Happening) (ran : Ran (IsReadOf slots sectors) old new) (none : NothingReturned old new)
    (is : IsRecovering a stage old_words new_words start m old) where
  reads_beside_all : Ran (IsBeside m) old new
  reads_beside_all = ran_weakened {allowed = IsReadOf slots sectors} {more = IsBeside m} (λ j c may. read_behind m slots sectors j c may) ran

  pub recovering_read : IsRecovering a stage old_words new_words start m new
  recovering_read = recovering_beside a stage old_words new_words start m old new reads_beside_all none is

  pub used_read : (j : ℕ) → IsInUse m new j → IsInUse m old j
  used_read = used_beside a stage old_words new_words start m old new reads_beside_all none is

  pub told_read : (redo : Option Redo) (opened : Slots) → IsToldBy redo opened a stage start m old → IsToldBy redo opened a stage start m new
  told_read = told_beside a stage old_words new_words start m old new reads_beside_all none is

-- SLOTS THAT ARE LEFT OUT

-- What lasts, and that no slot in use was gone.
pub record Lasts (a : Redoing) (stage : Stage) (old_words new_words : Codewords) (start : List Happening) (gone : Slots) (x y : Snapshot) : Type 0 where
  pub recovering : IsRecovering a stage old_words new_words start y.member y.told.history
  pub told : (redo : Option Redo) (opened : Slots) → IsToldBy redo opened a stage start x.member x.told.history
      → IsToldBy redo opened a stage start y.member y.told.history
  pub stays : (j : ℕ) → IsInUse y.member y.told.history j → (¬ HasSlot gone j) × IsInUse x.member x.told.history j
  pub unwritten : (j : ℕ) → Ran (WritesNone (IsSlot j)) x.told.history y.told.history

module _ (a : Redoing) (stage : Stage) (old_words new_words : Codewords) (start : List Happening) (gone : Slots) (x y : Snapshot)
    (is : IsRecovering a stage old_words new_words start x.member x.told.history) (were_here : (j : ℕ) → HasSlot gone j → IsHere x.member j)
    (honest : IsTrue y.told.honest) (none : NothingReturned x.told.history y.told.history) (going : ¬ IsTrue (stopped y.told.history)) where
  pub lasts : FencesGone gone None x y → Lasts a stage old_words new_words start gone x y
  lasts (NoneWas out same fine) =
      let at : x ≡ y = sym same in record {
        recovering = subst (λ (p : Snapshot). IsRecovering a stage old_words new_words start p.member p.told.history) at is;
        told = λ redo opened told.
            subst (λ (p : Snapshot). IsToldBy redo opened a stage start p.member p.told.history) at told;
        stays = λ i used. (out i, subst (λ (p : Snapshot). IsInUse p.member p.told.history i) same used);
        unwritten = λ i.
            subst (λ (p : Snapshot). Ran (WritesNone (IsSlot i)) x.told.history p.told.history) at
            (ran_none {allowed = WritesNone (IsSlot i)} x.told.history);
      }
  lasts (Fenced j has (Ok fallen) fine e) = record {
    recovering =
        recovering_on a stage old_words new_words start x.member y.member x.told.history y.told.history used (λ i now. unwritten i) (λ i now. free i) is
        (way_left a stage start gone fallen x.member y.member x.told y.told is.way were_here e honest none going);
    told = told_on a stage old_words new_words start x.member y.member x.told.history y.told.history used (λ i now. unwritten i) (λ i now. free i);
    stays = λ i used_now. (not_leaving a stage start gone fallen x.member y.member x.told y.told is.way were_here e honest none going i used_now.0, used i used_now);
    unwritten = unwritten;
  }
    where
      unwritten : (i : ℕ) → Ran (WritesNone (IsSlot i)) x.told.history y.told.history
      unwritten = unwritten_of a stage start gone fallen x.member y.member x.told y.told is.way were_here e honest none going

      free : (i : ℕ) → Ran (AttachesNone (λ k. k ≡ i)) x.told.history y.told.history
      free = free_of a stage start gone fallen x.member y.member x.told y.told is.way were_here e honest none going

      used : (i : ℕ) → IsInUse y.member y.told.history i → IsInUse x.member x.told.history i
      used = used_then a stage start gone fallen x.member y.member x.told y.told is.way were_here e honest none going
  lasts (Fenced j has (Err fault) fine e) = absurd (cc)
