-- The body of a redo that a recovery found, of an array whose media come back: its cells are those of the new stripes, and within tolerance
-- none is lost.
use Rattle.std.specs.Prelude.{IsSome}
use Rattle.std.proofs.Common.{IsTrue, List, None, Option, Some, ap, inl, inr, refl, subst, sym, ◌+◌, ◌<◌, ◌∙◌, ◌≡◌, ◌≤◌, ◌⊎◌, ℕ, false, not, ◌*◌, arith}
use Rattle.std.proofs.lemmas.Bool.{false≢true}
use Rattle.std.proofs.lemmas.Nat.{mul-le}
use Rattle.stair_model.specs.CellSet.{HasCell}
use Rattle.stair_model.specs.Device.{DevicePart, body_sector, chunks_start, gate_sector}
use Rattle.stair_model.specs.Geometry.{Geometry}
use Rattle.stair_model.specs.Slots.{HasSlot, Slots}
use Rattle.stair_model.specs.Stripe.{Stripe, cell}
use Rattle.stair_rack.specs.Answers.{IsNoAttach, Ran, is_good}
use Rattle.stair_rack.specs.History.{Attach, Happening, Read, Sectors, SlotCall, Sync, Write, slot_state, stopped}
use Rattle.stair_rack.specs.Moments.{IsMoment}
use Rattle.stair_rack.specs.Offline.{ButForOutside, IsAttached, IsKept}
use Rattle.stair_rack.specs.Placed.{IsSlot}
use Rattle.stair_rack.specs.Reading.{WasRead}
use Rattle.stair_rack.specs.Sector.{Cell, Good, Sector, content, damaged}
use Rattle.stair_rack.specs.Stretch.{every_slot}
use Rattle.stair_rack.specs.RackState.{RackState}
use Rattle.stair_rack.proofs.CrashLemmas.{Leaves-content}
use Rattle.stair_rack.proofs.MomentLemmas.{at_moment, moment_between, ran_after, ran_before, ran_join, ran_weakened}
use Rattle.stair_rack.proofs.OfflineLemmas.{and-true_left}
use Rattle.stair_rack.proofs.TidyLemmas.{history_on, history_tidy}
use Rattle.stair_member.specs.Current.{IsLost}
use Rattle.stair_member.specs.declared.fault.FenceFault.{FenceFault}
use Rattle.stair_journal.specs.Bodies.{AllGiven, GivesNot, IsBodySector, IsFirstUngiven, ReadsBody, UngivenFirst, IsGiven}
use Rattle.stair_journal.specs.Body.{IsOrDamaged}
use Rattle.stair_journal.specs.declared.redo.Redo.{Redo}
use Rattle.stair_state.specs.Redoing.{AttachesNone, BodyHas, Placing, Redoing, Stage, Uncommitted, WritesNone}
use Rattle.stair_state.specs.State.{Change, Content}
use Rattle.stair_state.proofs.RedoPhaseLemmas.{slot_unwritten}
use Rattle.stair_state.proofs.StageLemmas.{PartIn, SlotIn, part_damage}
use Rattle.stair_invariant.specs.Effects.{FindsBody, Snapshot, snapshot}
use Rattle.stair_invariant.specs.InSession.{IsBesideEpochs}
use Rattle.stair_invariant.specs.Opening.{opened_with}
use Rattle.stair_invariant.specs.Session.{IsLiveIn}
use Rattle.stair_invariant.proofs.FindsLemmas.{damaged_content, stays_damaged, honest_back}
use Rattle.stair_invariant.proofs.HonestLemmas.{left_honest}
use Rattle.stair_invariant.proofs.Serving.{any_read, read_beside}
use Rattle.stair_reinsert.proofs.NameLemmas.{still_attached}
use Rattle.stair_reinsert.proofs.RecoveryFinding.{none_attached, reads_any}
use Rattle.stair_reinsert.proofs.RecoveryFound.{IsToldAny, told_still}
use Rattle.stair_reinsert.proofs.RedoPhase.{IsAmidAny, amid_on}
use Rattle.stair_reinsert.proofs.RedoStart.{redo_by}
use Rattle.stair_reinsert.proofs.StageSince.{SinceIn, since_unwritten, slot_last}
use Rattle.stair_journal.specs.declared.body.Body.{Body}

-- AFTER READS

module _ (before : List Happening) (kept : Content) (change : Option Change) (told : Option Redo) (opened : Slots) (p : Snapshot) (later : RackState)
    (is : IsToldAny before kept change told opened p) (reads : Ran any_read p.told.history later.history) where
  abbrev pub r : Redoing
  r = redo_by is.m is.first is.last is.redo

  beside : Ran (IsBesideEpochs p.member) p.told.history later.history
  beside =
      ran_weakened {allowed = any_read} {more = IsBesideEpochs p.member} (λ j c may. (read_beside (opened_with p.member) j c may).session.epochs) reads

  free : Ran (AttachesNone every_slot) p.told.history later.history
  free = ran_weakened {allowed = any_read} {more = AttachesNone every_slot} (λ j c may on. none_attached j c may) reads

  pub still_unwritten : (j : ℕ) → Ran (WritesNone (IsSlot j)) p.told.history later.history
  still_unwritten j = ran_weakened {allowed = any_read} {more = WritesNone (IsSlot j)} none_written reads
    where
      none_written : (i : ℕ) (c : SlotCall) → any_read i c → WritesNone (IsSlot j) i c
      none_written i (Attach answer) may = tt
      none_written i (Sectors size) may = tt
      none_written i (Read k answer) may = tt
      none_written i (Write k bytes answer) may = absurd may
      none_written i (Sync answer) may = tt

  pub from_start : IsMoment is.start p.told.history later.history
  from_start = moment_between {a = AttachesNone every_slot} {b = any_read} is.amid.amid.ran reads

  pub since_reads : (j : ℕ) → IsLiveIn p.member j → SinceIn (redo_by is.m is.first is.last is.redo) is.stage is.start later.history j
  since_reads j live =
      since_unwritten (redo_by is.m is.first is.last is.redo) is.stage is.start p.told.history j (is.amid.since j live (is.used j live)) later.history
      from_start (still_unwritten j)

  pub amid_reads : IsAmidAny before is.of is.stage None None
      (snapshot p.member later)
  amid_reads =
      amid_on before is.of is.stage p is.amid later beside free
      (λ j live on. since_reads j live) is.stage (λ j live on. since_reads j live) (inr is.used)

  -- what was told is so still
  pub told_reads : IsToldAny before kept change told opened (snapshot p.member later)
  told_reads = told_still before kept change told opened p (snapshot p.member later) is amid_reads (λ j live. live) still_unwritten

-- THE BODY IS READ

module _ (before : List Happening) (kept : Content) (change : Option Change) (one : Redo) (opened : Slots) (body : Body) (was into : Stripe)
    (refusal : Option FenceFault) (x y : Snapshot) (found : FindsBody one body was into refusal x y) (is : IsToldAny before kept change (Some one) opened x)
    (honest : IsTrue y.told.honest) where
  abbrev g : Geometry
  g = is.m.array.geometry

  honest_mid : IsTrue found.mid.honest
  honest_mid = honest_back found.mid y.told (left_honest body.gone refusal (snapshot x.member found.mid) y found.leaves) honest

  same_redo : one ≡ is.redo
  same_redo = (is.some one refl).0

  going : (is.stage ≡ Uncommitted) ⊎ (is.stage ≡ Placing)
  going = (is.some one refl).1

  reads : ReadsBody is.m.array.geometry found.live is.redo body was into x.told found.mid
  reads =
      subst (λ (y : Geometry). ReadsBody y found.live is.redo body was into x.told found.mid) is.amid.stays.geometry
      (subst (λ (o : Redo). ReadsBody x.member.array.geometry found.live o body was into x.told found.mid) same_redo found.reads)

  pub body_reads : Ran any_read x.told.history found.mid.history
  body_reads =
      reads_any {slots = HasSlot found.live} {sectors = IsBodySector is.m.array.geometry is.redo} x.told.history found.mid.history (reads.ran honest_mid)

  -- so it is told still
  pub body_mid : IsToldAny before kept change (Some one) opened (snapshot x.member found.mid)
  body_mid = told_reads before kept change (Some one) opened x found.mid is body_reads

  -- A SECTOR THAT WAS READ, of a live slot

  module _ {Q : Cell → Type 0} (i c j : ℕ) (has : HasCell is.redo.cells i c) (live : IsLiveIn x.member j)
      (read : WasRead Q x.told.history found.mid.history j (body_sector is.m.array.geometry i c)) where
    to_moment : Ran any_read x.told.history read.moment
    to_moment = ran_before {allowed = any_read} body_reads read.is_one

    alone : Ran (IsNoAttach j) is.start read.moment
    alone =
        ran_join {allowed = IsNoAttach j}
        (ran_weakened {allowed = AttachesNone every_slot} {more = IsNoAttach j} (λ i call may same. may tt) is.amid.amid.ran)
        (ran_weakened {allowed = any_read} {more = IsNoAttach j} (λ i call may same. none_attached i call may) to_moment)

    on : IsAttached read.moment j
    on = and-true_left (slot_state read.moment j).attached (not (stopped read.moment)) read.ready

    same_pulls : (slot_state read.moment j).pulls ≡ (slot_state is.start j).pulls
    same_pulls = (still_attached j alone on).1

    some_then : IsSome (slot_state read.moment j).size
    some_then = (history_tidy (history_on {allowed = any_read} is.amid.history to_moment)).attached j on

    body_then : IsOrDamaged (cell (is.last is.redo.stripe) i c) (content ((slot_state read.moment j).sector (body_sector is.m.array.geometry i c)))
    body_then = of_stage (by (slot_then.each (DevicePart.Body i c) has))
      where
        slot_then : SlotIn (redo_by is.m is.first is.last is.redo) is.stage is.start read.moment j
        slot_then =
            at_moment {P = λ h. SlotIn (redo_by is.m is.first is.last is.redo) is.stage is.start h j}
            (slot_unwritten (redo_by is.m is.first is.last is.redo) is.stage is.start j (IsSlot j) refl x.told.history found.mid.history
            (still_unwritten before kept change (Some one) opened x found.mid is body_reads j)
            (slot_last (redo_by is.m is.first is.last is.redo) is.stage is.start x.told.history j (is.amid.since j live (is.used j live)))) read.is_one

        by : PartIn (redo_by is.m is.first is.last is.redo) is.stage is.start j (DevicePart.Body i c) read.moment
            → BodyHas (redo_by is.m is.first is.last is.redo) is.stage i c (content ((slot_state read.moment j).sector (body_sector is.m.array.geometry i c)))
        by (IsKept.Here at some (inl harmed)) =
            subst (λ (s : Sector). BodyHas (redo_by is.m is.first is.last is.redo) is.stage i c (content s)) (sym harmed)
            (part_damage (redo_by is.m is.first is.last is.redo) is.stage j (DevicePart.Body i c))
        by (IsKept.Here at some (inr leaves)) = Leaves-content leaves
        by (IsKept.Lost less) = let same = same_pulls in absurd (omega (arith, less, same))

        of_stage : BodyHas (redo_by is.m is.first is.last is.redo) is.stage i c (content ((slot_state read.moment j).sector (body_sector is.m.array.geometry i c)))
            → IsOrDamaged (cell (is.last is.redo.stripe) i c) (content ((slot_state read.moment j).sector (body_sector is.m.array.geometry i c)))
        of_stage holds =
            elim going [
              | inl started ↦
                  subst
                  (λ (s : Stage). BodyHas (redo_by is.m is.first is.last is.redo) s i c
                  (content ((slot_state read.moment j).sector (body_sector is.m.array.geometry i c)))) started holds
              | inr placing ↦
                  subst
                  (λ (s : Stage). BodyHas (redo_by is.m is.first is.last is.redo) s i c
                  (content ((slot_state read.moment j).sector (body_sector is.m.array.geometry i c)))) placing holds
            ]

    -- what was read as bad is damaged, and stays so
    bad_since : is_good (content ((slot_state read.moment j).sector (body_sector is.m.array.geometry i c))) ≡ false → (h : List Happening)
        → Ran (WritesNone (IsSlot j)) found.mid.history h → ButForOutside is.start h j (body_sector is.m.array.geometry i c) (λ s. s ≡ damaged)
    bad_since bad h ran =
        stays_damaged is.start read.moment h j (body_sector is.m.array.geometry i c) (omega arith)
        (ran_join {allowed = WritesNone (IsSlot j)}
        (ran_after {allowed = WritesNone (IsSlot j)} (still_unwritten before kept change (Some one) opened x found.mid is body_reads j) read.is_one) ran)
        (IsKept.Here same_pulls some_then (inr (by body_then)))
      where
        by : IsOrDamaged (cell (is.last is.redo.stripe) i c) (content ((slot_state read.moment j).sector (body_sector is.m.array.geometry i c)))
            → (slot_state read.moment j).sector (body_sector is.m.array.geometry i c) ≡ damaged
        by (IsOrDamaged.Holds good) = absurd (false≢true (sym bad ∙ ap is_good good))
        by (IsOrDamaged.Harmed harmed) = damaged_content ((slot_state read.moment j).sector (body_sector is.m.array.geometry i c)) harmed

  -- a cell that was given is that of the new stripes
  given_is : (i c : ℕ) → HasCell is.redo.cells i c → IsGiven is.m.array.geometry found.live body.gone was into x.told found.mid i c
      → cell into i c ≡ cell (is.last is.redo.stripe) i c
  given_is i c has given =
      let read = given.read honest_mid in
      by
      (subst (IsOrDamaged (cell (is.last is.redo.stripe) i c)) read.found
      (body_then {Q = λ sector. sector ≡ Good (cell into i c)} i c given.slot has ((found.are_live.are given.slot).0 given.live_slot) read))
    where
      by : IsOrDamaged (cell (is.last is.redo.stripe) i c) (Good (cell into i c)) → cell into i c ≡ cell (is.last is.redo.stripe) i c
      by (IsOrDamaged.Holds same) = cc
      by (IsOrDamaged.Harmed never) = absurd (cc)

  -- Where each cell was given, they are those of the new stripes.
  pub body_cells : body.unread ≡ None → (i c : ℕ) → HasCell is.redo.cells i c → cell into i c ≡ cell (is.last is.redo.stripe) i c
  body_cells whole i c has = by body.unread whole reads.unread
    where
      by : (unread : Option ℕ) → unread ≡ None → IsFirstUngiven is.m.array.geometry found.live body.gone was into x.told found.mid is.redo unread
          → cell into i c ≡ cell (is.last is.redo.stripe) i c
      by _ same (AllGiven given) = given_is i c has (given i c has)
      by _ same (UngivenFirst row slot some un lower) = absurd (cc)

  -- A slot that is live still, was not gone, and whose journal is whole at a later moment, gave each.
  pub body_whole : (h : List Happening) (j : ℕ) → IsLiveIn x.member j → ¬ HasSlot body.gone j → Ran (WritesNone (IsSlot j)) found.mid.history h
      → (slot_state h j).pulls ≡ (slot_state is.start j).pulls
      → ((k : ℕ) → gate_sector ≤ k → k < chunks_start is.m.array.geometry → ¬ IsLost (content ((slot_state h j).sector k))) → body.unread ≡ None
  body_whole h j live stays ran same whole = by body.unread reads.unread
    where
      small : (i c : ℕ) → HasCell is.redo.cells i c → body_sector is.m.array.geometry i c < chunks_start is.m.array.geometry
      small i c has =
          let inside = is.redoing.formed.inside i c has in
          let row = inside.0 in
          let slot = inside.1 in
          let product : (i + 1) * is.m.array.geometry.n ≤ is.m.array.geometry.r * is.m.array.geometry.n =
          mul-le (i + 1) is.m.array.geometry.n is.m.array.geometry.r is.m.array.geometry.n (omega (arith, row)) (omega arith) in
          omega (arith, product, slot)

      lost : (i c : ℕ) → HasCell is.redo.cells i c
          → GivesNot is.m.array.geometry found.live body.gone was into x.told found.mid j (body_sector is.m.array.geometry i c) → ⊥
      lost i c has (inl gone) = stays gone
      lost i c has (inr bad) =
          let read = bad.1 honest_mid in
          harmed (bad_since {Q = λ sector. is_good sector ≡ false} i c j has live read read.found h ran)
        where
          harmed : ButForOutside is.start h j (body_sector is.m.array.geometry i c) (λ s. s ≡ damaged) → ⊥
          harmed (IsKept.Lost less) = omega (arith, less, same)
          harmed (IsKept.Here at some (inl gone)) =
              whole (body_sector is.m.array.geometry i c) (omega arith) (small i c has)
              (subst (λ (s : Sector). IsLost (content s)) (sym gone) (IsLost.ByOutside refl))
          harmed (IsKept.Here at some (inr gone)) =
              whole (body_sector is.m.array.geometry i c) (omega arith) (small i c has)
              (subst (λ (s : Sector). IsLost (content s)) (sym gone) (IsLost.ByOutside refl))

      by : (unread : Option ℕ) → IsFirstUngiven is.m.array.geometry found.live body.gone was into x.told found.mid is.redo unread → unread ≡ None
      by _ (AllGiven given) = refl
      by _ (UngivenFirst i c has un lower) = absurd (lost i c has (un.none j ((found.are_live.are j).1 live)))
