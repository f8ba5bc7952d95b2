-- What finding a redo that a crash cut off, and reading its body, leads to.
use Rattle.std.proofs.Common.{◌≡◌, false, ℕ, ◌+◌, ◌*◌, ◌<◌, ◌≤◌, List, [], ◌∷◌, inl, inr, refl, sym, ap, ◌∙◌, subst, arith, None, Some, Option}
use Rattle.std.specs.Prelude.{◌⊎◌, IsTrue, not}
use Rattle.std.proofs.lemmas.Bool.{false≢true}
use Rattle.std.proofs.lemmas.Nat.{mul-le}
use Rattle.stair_model.specs.CellSet.{HasCell}
use Rattle.stair_model.specs.Device.{Body, body_sector, chunks_start, gate_sector}
use Rattle.stair_model.specs.Geometry.{Geometry}
use Rattle.stair_model.specs.Slots.{HasSlot, Slots}
use Rattle.stair_model.specs.Stripe.{Stripe, cell}
use Rattle.stair_rack.specs.Answers.{Ran, any_call, is_good}
use Rattle.stair_rack.specs.Crash.{image_now}
use Rattle.stair_rack.specs.History.{Happening, slot_state, stopped}
use Rattle.stair_rack.specs.Moments.{IsMoment}
use Rattle.stair_rack.specs.Offline.{ButForOutside, IsKept, IsOffline}
use Rattle.stair_rack.specs.Placed.{IsSlot}
use Rattle.stair_rack.specs.Reading.{IsReadOf, WasRead}
use Rattle.stair_rack.specs.Sector.{Cell, Damaged, Good, Leaves, Sector, content, damaged, newest, settled, synced}
use Rattle.stair_rack.specs.Stretch.{NothingReturned}
use Rattle.stair_rack.specs.RackState.{RackState}
use Rattle.stair_rack.proofs.CrashLemmas.{CrashMayLeave-now, Leaves-content}
use Rattle.stair_rack.proofs.KeptLemmas.{SectorKeeps, keeps_sector}
use Rattle.stair_rack.proofs.MomentLemmas.{moment_between, ran_after, ran_any, ran_before, ran_join}
use Rattle.stair_rack.proofs.OfflineLemmas.{and-true_left, stopped_on}
use Rattle.stair_rack.proofs.StepLemmas.{kept}
use Rattle.stair_rack.proofs.StretchLemmas.{each_after, each_before}
use Rattle.stair_member.specs.Current.{IsLost}
use Rattle.stair_member.specs.Membership.{IsHere, Membership}
use Rattle.stair_member.specs.declared.fault.FenceFault.{FenceFault}
use Rattle.stair_journal.specs.Bodies.{AllGiven, GivesNot, IsBodySector, IsFirstUngiven, IsGiven, ReadsBody, UngivenFirst}
use Rattle.stair_journal.specs.Body.{Harmed, Holds, IsOrDamaged}
use Rattle.stair_journal.specs.Gates.{IsGateSector, ReadsGates}
use Rattle.stair_journal.specs.declared.body.Body.{Body as BodyOf}
use Rattle.stair_journal.specs.declared.redo.Redo.{Redo}
use Rattle.stair_state.specs.Blocks.{Codewords}
use Rattle.stair_state.specs.Redoing.{BodyHas, IsRedoing, Placing, Redoing, Stage, Uncommitted, WritesNone}
use Rattle.stair_state.specs.Tolerance.{IsTolerated, IsWithinTolerance}
use Rattle.stair_state.proofs.StageLemmas.{part_damage, slot_in}
use Rattle.stair_invariant.specs.Effects.{AreLive, FindsBody, FindsRedo, Snapshot, snapshot}
use Rattle.stair_invariant.specs.Opening.{IsRecovering, IsToldBy}
use Rattle.stair_invariant.specs.Session.{IsLiveIn}
use Rattle.stair_invariant.specs.UnderWay.{IsInUse}
use Rattle.stair_invariant.proofs.GatesTellLemmas.{IsTold, told_by}
use Rattle.stair_invariant.proofs.HonestLemmas.{found_honest, left_honest}
use Rattle.stair_invariant.proofs.JournalInUse.{journal_in_use}
use Rattle.stair_invariant.proofs.ReadOnLemmas.{Lasts, known_in_use, lasts, reads_unwritten, recovering_read, told_read}
use Rattle.stair_invariant.proofs.RedoingLemmas.{out_ran}

-- a live slot takes part
pub live_here : (m : Membership) (live : Slots) → AreLive m live → (j : ℕ) → HasSlot live j → IsHere m j
live_here m live are j has = let on = (are.are j).0 has in record { below = on.below; why = inl on.why }

pub honest_back : (a b : RackState) → a.honest ≡ b.honest → IsTrue b.honest → IsTrue a.honest
honest_back a b same honest = subst IsTrue (sym same) honest

-- THE GATES

pub found_ran : (redo : Option Redo) (opened : Slots) (refusal : Option FenceFault) (x z : Snapshot) → FindsRedo redo opened refusal x z
    → IsTrue z.told.honest → Ran any_call x.told.history z.told.history
found_ran _ _ _ _ _ (FindsRedo.Found gates live mid x are reads none) honest =
    ran_any {allowed = IsReadOf (HasSlot live) IsGateSector} (reads.ran honest)
found_ran _ _ _ _ _ (FindsRedo.Again gates live mid redo opened refusal j x y z are reads gone leaves rest) honest =
    let after = honest_back y.told z.told (found_honest redo opened refusal y z rest) honest in
    let first = honest_back mid y.told (left_honest gates.gone None (snapshot x.member mid) y leaves) after in
    ran_join {allowed = any_call} (ran_any {allowed = IsReadOf (HasSlot live) IsGateSector} (reads.ran first))
    (ran_join {allowed = any_call} (out_ran gates.gone None (snapshot x.member mid) y leaves after)
    (found_ran redo opened refusal y z rest honest))
found_ran _ _ _ _ _ (FindsRedo.Stops gates live mid redo opened fault x y are reads leaves) honest =
    let first = honest_back mid y.told (left_honest gates.gone (Some fault) (snapshot x.member mid) y leaves) honest in
    ran_join {allowed = any_call} (ran_any {allowed = IsReadOf (HasSlot live) IsGateSector} (reads.ran first))
    (out_ran gates.gone (Some fault) (snapshot x.member mid) y leaves honest)

module _ (a : Redoing) (stage : Stage) (old_words new_words : Codewords) (before start : List Happening) where
  -- With no refusal the gates were read of all live slots in the end, and tell the stage.
  pub finds : (redo : Option Redo) (opened : Slots) (refusal : Option FenceFault) (x z : Snapshot) → FindsRedo redo opened refusal x z → refusal ≡ None
      → IsRecovering a stage old_words new_words start x.member x.told.history → IsTrue z.told.honest
      → NothingReturned x.told.history z.told.history → ¬ IsTrue (stopped z.told.history) → IsTolerated z.member.array.geometry before z.told.history
      → IsTold a old_words new_words start redo opened z.member z.told.history
  finds _ _ _ _ _ (FindsRedo.Found gates live mid x are reads none) fine is honest returned going tolerated =
      told_by a stage old_words new_words before start x.member live gates x.told mid is are
      (subst (λ (g : Geometry). ReadsGates g live gates x.told mid) (sym is.way.geometry) reads) honest returned none tolerated
  finds _ _ _ _ _ (FindsRedo.Again gates live mid redo opened refusal j x y z are reads gone leaves rest) fine is honest returned going tolerated =
      let after : IsTrue y.told.honest = honest_back y.told z.told (found_honest redo opened refusal y z rest) honest in
      let first : IsTrue mid.honest = honest_back mid y.told (left_honest gates.gone None (snapshot x.member mid) y leaves) after in
      let reading : Ran (IsReadOf (HasSlot live) IsGateSector) x.told.history mid.history = reads.ran first in
      let leaving : Ran any_call mid.history y.told.history = out_ran gates.gone None (snapshot x.member mid) y leaves after in
      let later : Ran any_call y.told.history z.told.history = found_ran redo opened refusal y z rest honest in
      let so_far : Ran any_call x.told.history y.told.history =
      ran_join {allowed = any_call} (ran_any {allowed = IsReadOf (HasSlot live) IsGateSector} reading) leaving in
      let to_mid = moment_between {a = IsReadOf (HasSlot live) IsGateSector} {b = any_call} reading (ran_join {allowed = any_call} leaving later) in
      let to_y = moment_between {a = any_call} {b = any_call} so_far later in
      let from_mid = moment_between {a = any_call} {b = any_call} leaving later in
      let at_mid : IsRecovering a stage old_words new_words start x.member mid.history =
      recovering_read a stage old_words new_words start x.member {slots = HasSlot live} {sectors = IsGateSector} x.told.history mid.history reading
      (each_before returned to_mid) is in
      let then : Lasts a stage old_words new_words start gates.gone (snapshot x.member mid) y =
      lasts a stage old_words new_words start gates.gone (snapshot x.member mid) y at_mid
      (λ i has. live_here x.member live are i (reads.live_gone i has)) after (each_before (each_after returned to_mid) from_mid)
      (λ stops. going (stopped_on {allowed = any_call} later stops)) leaves in
      finds redo opened refusal y z rest fine then.recovering honest (each_after returned to_y) going tolerated
  finds _ _ _ _ _ (FindsRedo.Stops gates live mid redo opened fault x y are reads leaves) fine is honest returned going tolerated = absurd (cc)

-- THE BODY

-- what reads as damaged is so
pub damaged_content : (s : Sector) → content s ≡ Damaged → s ≡ damaged
damaged_content s reads = by s.base s.since reads
  where
    by : (base : Cell) (since : List (List ℕ)) → newest base since ≡ Damaged → (record { base = base; since = since }) ≡ damaged
    by base [] is = ap (λ (cell : Cell). settled cell) is
    by base (bytes ∷ since) is = absurd (cc)

-- and stays so while it isn't written
pub stays_damaged : (start old new : List Happening) (j k : ℕ) → gate_sector ≤ k → Ran (WritesNone (IsSlot j)) old new
    → ButForOutside start old j k (λ s. s ≡ damaged) → ButForOutside start new j k (λ s. s ≡ damaged)
stays_damaged start old new j k from ran before =
    kept {allowed = WritesNone (IsSlot j)} {P = λ h. IsKept (slot_state start j).pulls k IsDamaged (slot_state h j)}
    (keeps_sector {allowed = WritesNone (IsSlot j)} {j = j} {k = k} {P = IsDamaged} (slot_state start j).pulls keeps) ran before
  where
    IsDamaged : Sector → Type 0
    IsDamaged s = s ≡ damaged

    keeps : SectorKeeps (WritesNone (IsSlot j)) j k IsDamaged
    keeps = record {
      write = λ bytes s apart holds. let below = apart refl in absurd (omega (arith, below, from));
      sync = λ s apart holds. ap synced holds;
    }

body_small : (g : Geometry) (i c : ℕ) → i < g.r → c < g.n → body_sector g i c < chunks_start g
body_small g i c row slot =
    let product : (i + 1) * g.n ≤ g.r * g.n = mul-le (i + 1) g.n g.r g.n (omega (arith, row)) (omega arith) in omega (arith, product, slot)

module _ (a : Redoing) (stage : Stage) (old_words new_words : Codewords) (before start : List Happening) (body : BodyOf) (was into : Stripe) (x y : Snapshot)
    (found : FindsBody a.redo body was into None x y) (is : IsRecovering a stage old_words new_words start x.member x.told.history)
    (redoing : IsRedoing a) (going_on : (stage ≡ Uncommitted) ⊎ (stage ≡ Placing)) (honest : IsTrue y.told.honest)
    (none : NothingReturned x.told.history y.told.history) (going : ¬ IsTrue (stopped y.told.history)) where
  abbrev mid : RackState
  mid = found.mid

  mid_honest : IsTrue found.mid.honest
  mid_honest = honest_back found.mid y.told (left_honest body.gone None (snapshot x.member found.mid) y found.leaves) honest

  reads : ReadsBody a.geometry found.live a.redo body was into x.told found.mid
  reads = subst (λ (g : Geometry). ReadsBody g found.live a.redo body was into x.told found.mid) (sym is.way.geometry) found.reads

  ran : Ran (IsReadOf (HasSlot found.live) (IsBodySector a.geometry a.redo)) x.told.history found.mid.history
  ran = reads.ran mid_honest

  leaving : Ran any_call found.mid.history y.told.history
  leaving = out_ran body.gone None (snapshot x.member found.mid) y found.leaves honest

  to_mid : IsMoment x.told.history found.mid.history y.told.history
  to_mid = moment_between {a = IsReadOf (HasSlot found.live) (IsBodySector a.geometry a.redo)} {b = any_call} ran leaving

  at_mid : IsRecovering a stage old_words new_words start x.member found.mid.history
  at_mid =
      recovering_read a stage old_words new_words start x.member {slots = HasSlot found.live} {sectors = IsBodySector a.geometry a.redo} x.told.history
      found.mid.history ran (each_before none to_mid) is

  later : Lasts a stage old_words new_words start body.gone (snapshot x.member found.mid) y
  later =
      lasts a stage old_words new_words start body.gone (snapshot x.member found.mid) y at_mid
      (λ i has. live_here x.member found.live found.are_live i (reads.live_gone i has)) honest (each_after none to_mid) going found.leaves

  -- The redo is where it was,
  pub body_recovering : IsRecovering a stage old_words new_words start y.member y.told.history
  body_recovering = later.recovering

  pub body_told : (redo : Option Redo) (opened : Slots) → IsToldBy redo opened a stage start x.member x.told.history
      → IsToldBy redo opened a stage start y.member y.told.history
  body_told redo opened told =
      later.told redo opened
      (told_read a stage old_words new_words start x.member {slots = HasSlot found.live} {sectors = IsBodySector a.geometry a.redo} x.told.history
      found.mid.history ran (each_before none to_mid) is redo opened told)

  -- A SECTOR OF THE BODY THAT WAS READ, of a live slot

  module _ {Q : Cell → Type 0} (i c j : ℕ) (has : HasCell a.redo.cells i c) (on : IsLiveIn x.member j)
      (read : WasRead Q x.told.history found.mid.history j (body_sector a.geometry i c)) where
    then : IsRecovering a stage old_words new_words start x.member read.moment
    then =
        recovering_read a stage old_words new_words start x.member {slots = HasSlot found.live} {sectors = IsBodySector a.geometry a.redo}
        x.told.history read.moment
        (ran_before {allowed = IsReadOf (HasSlot found.live) (IsBodySector a.geometry a.redo)} ran read.is_one)
        (each_before (each_before none to_mid) read.is_one) is

    used : IsInUse x.member read.moment j
    used = (on, and-true_left (slot_state read.moment j).attached (not (stopped read.moment)) read.ready)

    body_then : IsOrDamaged (cell (a.new a.redo.stripe) i c) (content ((slot_state read.moment j).sector (body_sector a.geometry i c)))
    body_then = of_stage (by ((slot_in a stage (IsInUse x.member read.moment) start read.moment then.way.cells j used).each (Body i c) has))
      where
        by : ButForOutside start read.moment j (body_sector a.geometry i c) (Leaves (BodyHas a stage i c) (BodyHas a stage i c))
            → BodyHas a stage i c (content ((slot_state read.moment j).sector (body_sector a.geometry i c)))
        by (IsKept.Here at some (inl harmed)) =
            subst (λ (s : Sector). BodyHas a stage i c (content s)) (sym harmed) (part_damage a stage j (Body i c))
        by (IsKept.Here at some (inr leaves)) = Leaves-content leaves
        by (IsKept.Lost less) = absurd (then.way.same j used less)

        of_stage : BodyHas a stage i c (content ((slot_state read.moment j).sector (body_sector a.geometry i c)))
            → IsOrDamaged (cell (a.new a.redo.stripe) i c) (content ((slot_state read.moment j).sector (body_sector a.geometry i c)))
        of_stage holds =
            elim going_on [
              | inl started ↦
                  subst (λ (s : Stage). BodyHas a s i c (content ((slot_state read.moment j).sector (body_sector a.geometry i c)))) started holds
              | inr placing ↦
                  subst (λ (s : Stage). BodyHas a s i c (content ((slot_state read.moment j).sector (body_sector a.geometry i c)))) placing holds
            ]

    -- what was read as bad stays so
    bad_last : is_good (content ((slot_state read.moment j).sector (body_sector a.geometry i c))) ≡ false
        → ButForOutside start y.told.history j (body_sector a.geometry i c) (λ s. s ≡ damaged)
    bad_last bad =
        stays_damaged start found.mid.history y.told.history j (body_sector a.geometry i c) (omega arith) (later.unwritten j)
        (stays_damaged start read.moment found.mid.history j (body_sector a.geometry i c) (omega arith)
        (reads_unwritten (HasSlot found.live) (IsBodySector a.geometry a.redo) read.moment found.mid.history j
        (ran_after {allowed = IsReadOf (HasSlot found.live) (IsBodySector a.geometry a.redo)} ran read.is_one))
        (known_in_use {P = λ s. s ≡ damaged} a stage start x.member read.moment then.way j (body_sector a.geometry i c) used (by body_then)))
      where
        by : IsOrDamaged (cell (a.new a.redo.stripe) i c) (content ((slot_state read.moment j).sector (body_sector a.geometry i c)))
            → (slot_state read.moment j).sector (body_sector a.geometry i c) ≡ damaged
        by (Holds good) = absurd (false≢true (sym bad ∙ ap is_good good))
        by (Harmed harmed) = damaged_content ((slot_state read.moment j).sector (body_sector a.geometry i c)) harmed

  -- a cell that was given is that of the new stripes
  given_is : (i c : ℕ) → HasCell a.redo.cells i c → IsGiven a.geometry found.live body.gone was into x.told found.mid i c
      → cell into i c ≡ cell (a.new a.redo.stripe) i c
  given_is i c has given =
      let read = given.read mid_honest in
      by
      (subst (IsOrDamaged (cell (a.new a.redo.stripe) i c)) read.found
      (body_then {Q = λ sector. sector ≡ Good (cell into i c)} i c given.slot has ((found.are_live.are given.slot).0 given.live_slot) read))
    where
      by : IsOrDamaged (cell (a.new a.redo.stripe) i c) (Good (cell into i c)) → cell into i c ≡ cell (a.new a.redo.stripe) i c
      by (Holds same) = cc
      by (Harmed never) = absurd (cc)

  -- Where each cell was given, they are those of the new stripes.
  pub body_cells : body.unread ≡ None → (i c : ℕ) → HasCell a.redo.cells i c → cell into i c ≡ cell (a.new a.redo.stripe) i c
  body_cells whole i c has = by body.unread whole reads.unread
    where
      by : (unread : Option ℕ) → unread ≡ None → IsFirstUngiven a.geometry found.live body.gone was into x.told found.mid a.redo unread
          → cell into i c ≡ cell (a.new a.redo.stripe) i c
      by _ same (AllGiven given) = given_is i c has (given i c has)
      by _ same (UngivenFirst row slot some un lower) = absurd (cc)

  -- Within tolerance each is given.
  pub body_whole : IsTolerated y.member.array.geometry before y.told.history → body.unread ≡ None
  body_whole tolerated = by body.unread reads.unread
    where
      within : IsWithinTolerance (IsOffline before y.told.history) y.member.array.geometry (image_now y.told.history)
      within = tolerated (image_now y.told.history) (CrashMayLeave-now y.told.history)

      journal : IsInUse y.member y.told.history within.journal_slot
      journal =
          journal_in_use y.member y.told.history later.recovering.way.epoch (image_now y.told.history) (CrashMayLeave-now y.told.history) within

      lost : (i c : ℕ) → HasCell a.redo.cells i c
          → GivesNot a.geometry found.live body.gone was into x.told found.mid within.journal_slot (body_sector a.geometry i c) → ⊥
      lost i c has (inl gone) = (later.stays within.journal_slot journal).0 gone
      lost i c has (inr bad) =
          let read = bad.1 mid_honest in
          let inside = redoing.formed.inside i c has in
          let small : body_sector a.geometry i c < chunks_start y.member.array.geometry =
          subst (λ (g : Geometry). body_sector a.geometry i c < chunks_start g) later.recovering.way.geometry
          (body_small a.geometry i c inside.0 inside.1) in
          harmed i c
          (bad_last {Q = λ sector. is_good sector ≡ false} i c within.journal_slot has (later.stays within.journal_slot journal).1.0 read read.found)
          (within.journal.whole (body_sector a.geometry i c) (omega arith) small)
        where
          harmed : (i c : ℕ) → ButForOutside start y.told.history within.journal_slot (body_sector a.geometry i c) (λ s. s ≡ damaged)
              → ¬ IsLost ((image_now y.told.history within.journal_slot).cell (body_sector a.geometry i c)) → ⊥
          harmed i c (IsKept.Lost less) whole = later.recovering.way.same within.journal_slot journal less
          harmed i c (IsKept.Here at some (inl is)) whole = whole (subst (λ (s : Sector). IsLost (content s)) (sym is) (IsLost.ByOutside refl))
          harmed i c (IsKept.Here at some (inr is)) whole = whole (subst (λ (s : Sector). IsLost (content s)) (sym is) (IsLost.ByOutside refl))

      by : (unread : Option ℕ) → IsFirstUngiven a.geometry found.live body.gone was into x.told found.mid a.redo unread → unread ≡ None
      by _ (AllGiven given) = refl
      by _ (UngivenFirst i c has un lower) =
          absurd (lost i c has (un.none within.journal_slot ((found.are_live.are within.journal_slot).1 (later.stays within.journal_slot journal).1.0)))
