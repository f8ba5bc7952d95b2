-- What reading the gates of the live slots tells of the redo that a crash cut off.
use Rattle.std.proofs.Common.{◌≡◌, ℕ, false, List, [], inl, inr, refl, sym, ap, ◌∙◌, subst, None, Some, Option}
use Rattle.std.specs.Prelude.{◌⊎◌, IsTrue, not}
use Rattle.std.proofs.lemmas.Bool.{false≢true}
use Rattle.stair_model.specs.Device.{Gate, gate_sector}
use Rattle.stair_model.specs.Slots.{HasSlot, Slots}
use Rattle.stair_rack.specs.Answers.{Ran, is_good}
use Rattle.stair_rack.specs.Crash.{image_now}
use Rattle.stair_rack.specs.History.{Happening, slot_state, stopped}
use Rattle.stair_rack.specs.Offline.{ButForOutside, IsKept}
use Rattle.stair_rack.specs.Placed.{IsSlot}
use Rattle.stair_rack.specs.Reading.{IsReadOf, WasRead}
use Rattle.stair_rack.specs.Sector.{Cell, Damaged, Good, Leaves, Sector, Torn, TornOverDamage, content, newest, settled}
use Rattle.stair_rack.specs.Stretch.{NothingReturned}
use Rattle.stair_rack.specs.RackState.{IsReading, RackState}
use Rattle.stair_rack.proofs.CrashLemmas.{CrashMayLeave-now, Leaves-content, nothing_unsynced}
use Rattle.stair_rack.proofs.MomentLemmas.{ran_after, ran_before}
use Rattle.stair_rack.proofs.OfflineLemmas.{and-true_left}
use Rattle.stair_rack.proofs.StretchLemmas.{each_before}
use Rattle.stair_member.specs.Current.{IsLost}
use Rattle.stair_member.specs.Membership.{Membership}
use Rattle.stair_journal.specs.Gate.{IsOpenWith, ReadsClosed, open_gate}
use Rattle.stair_journal.specs.Gates.{IsFirstRedo, IsGateSector, IsRead, NoneOpen, OpenFirst, ReadsGates}
use Rattle.stair_journal.specs.declared.gates.Gates.{Gates}
use Rattle.stair_journal.specs.declared.redo.Redo.{Redo}
use Rattle.stair_state.specs.Blocks.{Codewords}
use Rattle.stair_state.specs.Forms.{HasGate}
use Rattle.stair_state.specs.Recovering.{IsClosedSector, IsKnownBad, IsKnownClosed, IsKnownOpen, IsOpenSector, IsUnreadable}
use Rattle.stair_state.specs.Redoing.{AtRest, GateHas, IsIn, IsRedoing, Placing, Redoing, Stage, Uncommitted, WritesNone}
use Rattle.stair_state.specs.Tolerance.{IsTolerated}
use Rattle.stair_state.proofs.FormLemmas.{good_kept, good_whole}
use Rattle.stair_state.proofs.RecoveryLemmas.{still_bad, still_closed, still_open, unopened}
use Rattle.stair_state.proofs.StageLemmas.{open_or_lost_alone, part_damage, slot_in}
use Rattle.stair_invariant.specs.Effects.{AreLive}
use Rattle.stair_invariant.specs.Opening.{IsRecovering, IsToldBy}
use Rattle.stair_invariant.specs.Session.{IsLiveIn}
use Rattle.stair_invariant.specs.UnderWay.{IsInUse}
use Rattle.stair_invariant.proofs.JournalInUse.{gate_in_use}
use Rattle.stair_invariant.proofs.ReadOnLemmas.{known_in_use, reads_unwritten, recovering_read}

-- a gate that is settled holds what it reads as
holds_content : (s : Sector) → s.since ≡ [] → s ≡ settled (content s)
holds_content s none =
    let base : content s ≡ s.base = ap (newest s.base) none in nothing_unsynced s none ∙ ap (λ (cell : Cell). settled cell) (sym base)

module _ (a : Redoing) (stage : Stage) (old_words new_words : Codewords) (start : List Happening) (m : Membership) (slots : ℕ → Type 0) (x mid : RackState)
    (is : IsRecovering a stage old_words new_words start m x.history) (honest : IsTrue mid.honest)
    (ran : Ran (IsReadOf slots IsGateSector) x.history mid.history) (none : NothingReturned x.history mid.history) where
  -- A GATE THAT WAS READ, of a live slot

  module _ {Q : Cell → Type 0} (j : ℕ) (on : IsLiveIn m j) (was : WasRead Q x.history mid.history j gate_sector) where
    abbrev h : List Happening
    h = was.moment

    abbrev gate : Sector
    gate = (slot_state was.moment j).sector gate_sector

    then : IsRecovering a stage old_words new_words start m was.moment
    then =
        recovering_read a stage old_words new_words start m {slots = slots} {sectors = IsGateSector} x.history was.moment
        (ran_before {allowed = IsReadOf slots IsGateSector} ran was.is_one) (each_before none was.is_one) is

    used : IsInUse m was.moment j
    used = (on, and-true_left (slot_state was.moment j).attached (not (stopped was.moment)) was.ready)

    whole : (slot_state was.moment j).sector gate_sector ≡ settled (content ((slot_state was.moment j).sector gate_sector))
    whole = holds_content ((slot_state was.moment j).sector gate_sector) (then.settled j used)

    later : Ran (WritesNone (IsSlot j)) was.moment mid.history
    later =
        reads_unwritten slots IsGateSector was.moment mid.history j (ran_after {allowed = IsReadOf slots IsGateSector} ran was.is_one)

    -- it read as the stage allows
    allowed_then : GateHas a stage (content ((slot_state was.moment j).sector gate_sector))
    allowed_then = by ((slot_in a stage (IsInUse m was.moment) start was.moment then.way.cells j used).each Gate tt)
      where
        by : ButForOutside start was.moment j gate_sector (Leaves (GateHas a stage) (GateHas a stage))
            → GateHas a stage (content ((slot_state was.moment j).sector gate_sector))
        by (IsKept.Here at some (inl harmed)) =
            subst (λ (s : Sector). GateHas a stage (content s)) (sym harmed) (part_damage a stage j Gate)
        by (IsKept.Here at some (inr leaves)) = Leaves-content leaves
        by (IsKept.Lost less) = absurd (then.way.same j used less)

    open_then : (redo : Redo) → content ((slot_state was.moment j).sector gate_sector) ≡ Good (open_gate a.geometry redo)
        → IsKnownOpen a.geometry redo start mid.history j
    open_then redo reads =
        still_open {some = IsSlot j} start was.moment mid.history j refl later a.geometry redo
        (known_in_use {P = IsOpenSector a.geometry redo} a stage start m was.moment then.way j gate_sector used
        (whole ∙ ap (λ (cell : Cell). settled cell) reads))

    closed_then : ReadsClosed a.geometry (content ((slot_state was.moment j).sector gate_sector)) → IsKnownClosed a.geometry start mid.history j
    closed_then closed =
        still_closed {some = IsSlot j} start was.moment mid.history j refl later a.geometry
        (known_in_use {P = IsClosedSector a.geometry} a stage start m was.moment then.way j gate_sector used
        (record {
          on_disk = then.settled j used;
          closed =
              let base : ((slot_state was.moment j).sector gate_sector).base ≡ content ((slot_state was.moment j).sector gate_sector) =
              ap (λ (s : Sector). s.base) whole in
              subst (ReadsClosed a.geometry) (sym base) closed;
        }))

    bad_then : is_good (content ((slot_state was.moment j).sector gate_sector)) ≡ false → IsKnownBad start mid.history j
    bad_then bad =
        still_bad {some = IsSlot j} start was.moment mid.history j refl later
        (known_in_use {P = IsUnreadable} a stage start m was.moment then.way j gate_sector used bad)

  not_good_closed : (cell : Cell) → is_good cell ≡ false → ReadsClosed a.geometry cell
  not_good_closed cell bad redo opened = false≢true (sym bad ∙ ap is_good opened.good)

  -- BY THE CELL THAT WAS READ

  read_closed : (j : ℕ) → IsLiveIn m j → (cell : Cell) → IsReading j gate_sector x mid cell → ReadsClosed a.geometry cell
      → IsKnownClosed a.geometry start mid.history j
  read_closed j on (Good bytes) read closed =
      let was = read honest in closed_then {Q = λ cell. cell ≡ Good bytes} j on was (subst (ReadsClosed a.geometry) (sym was.found) closed)
  read_closed j on Damaged read closed =
      let was = read.1 honest in
      closed_then {Q = λ cell. is_good cell ≡ false} j on was
      (not_good_closed (content ((slot_state was.moment j).sector gate_sector)) was.found)
  read_closed j on Torn never closed = absurd never
  read_closed j on TornOverDamage never closed = absurd never

  read_open : (j : ℕ) → IsLiveIn m j → (cell : Cell) → IsReading j gate_sector x mid cell → (redo : Redo) → IsOpenWith a.geometry cell redo
      → GateHas a stage cell × IsKnownOpen a.geometry redo start mid.history j
  read_open j on (Good bytes) read redo opened =
      let was = read honest in (
        subst (GateHas a stage) was.found (allowed_then {Q = λ cell. cell ≡ Good bytes} j on was),
        open_then {Q = λ cell. cell ≡ Good bytes} j on was redo (was.found ∙ opened.good),
      )
  read_open j on Damaged read redo opened = absurd (good_whole opened.good refl)
  read_open j on Torn never redo opened = absurd never
  read_open j on TornOverDamage never redo opened = absurd never

  -- while cells are placed a gate that doesn't read open is bad
  read_bad : stage ≡ Placing → (j : ℕ) → IsLiveIn m j → (cell : Cell) → IsReading j gate_sector x mid cell
      → ¬ IsOpenWith a.geometry cell a.redo → IsKnownBad start mid.history j
  read_bad placing j on (Good bytes) read other =
      let was = read honest in
      let has : IsOpenWith a.geometry (Good bytes) a.redo ⊎ IsLost (Good bytes) =
      subst (λ (s : Stage). GateHas a s (Good bytes)) placing
      (subst (GateHas a stage) was.found (allowed_then {Q = λ cell. cell ≡ Good bytes} j on was)) in
      elim has [ inl opened ↦ absurd (other opened) | inr lost ↦ absurd (good_kept refl lost) ]
  read_bad placing j on Damaged read other = let was = read.1 honest in bad_then {Q = λ cell. is_good cell ≡ false} j on was was.found
  read_bad placing j on Torn never other = absurd never
  read_bad placing j on TornOverDamage never other = absurd never

-- WHAT IT ALL TELLS, where no slot was gone

-- the stage, and what is so of the gates in it
pub record IsTold (a : Redoing) (old_words new_words : Codewords) (start : List Happening) (redo : Option Redo) (opened : Slots) (m : Membership)
    (h : List Happening) : Type 0 where
  pub stage : Stage
  pub recovering : IsRecovering a stage old_words new_words start m h
  pub told : IsToldBy redo opened a stage start m h

module _ (a : Redoing) (stage : Stage) (old_words new_words : Codewords) (before start : List Happening) (m : Membership) (live : Slots) (gates : Gates)
    (x mid : RackState) (is : IsRecovering a stage old_words new_words start m x.history) (are : AreLive m live)
    (reads : ReadsGates a.geometry live gates x mid) (honest : IsTrue mid.honest) (none : NothingReturned x.history mid.history)
    (all : (j : ℕ) → ¬ HasSlot gates.gone j) (tolerated : IsTolerated m.array.geometry before mid.history) where
  abbrev ran : Ran (IsReadOf (HasSlot live) IsGateSector) x.history mid.history
  ran = reads.ran honest

  pub now : IsRecovering a stage old_words new_words start m mid.history
  now =
      recovering_read a stage old_words new_words start m {slots = HasSlot live} {sectors = IsGateSector} x.history mid.history ran none is

  of_live : (j : ℕ) → IsRead live gates.gone j → IsLiveIn m j
  of_live j read = (are.are j).0 read.0

  of_use : (j : ℕ) → IsInUse m mid.history j → IsRead live gates.gone j
  of_use j used = ((are.are j).1 used.0, all j)

  abbrev Told : Type 0
  Told = IsTold a old_words new_words start gates.redo gates.opened m mid.history

  -- NONE IS OPEN

  module _ (is_none : gates.redo ≡ None) (closed : (j : ℕ) → IsRead live gates.gone j → ReadsClosed a.geometry (reads.gate j)) where
    known_closed : (j : ℕ) → IsInUse m mid.history j → IsKnownClosed a.geometry start mid.history j
    known_closed j used =
        let read = of_use j used in
        read_closed a stage old_words new_words start m (HasSlot live) x mid is honest ran none j used.0 (reads.gate j) (reads.read j read) (closed j read)

    -- within tolerance no cells are being placed then
    not_placing : stage ≡ Placing → ⊥
    not_placing placing =
        let gate : HasGate (IsInUse m mid.history) (image_now mid.history) =
        gate_in_use m mid.history now.way.epoch (image_now mid.history) (CrashMayLeave-now mid.history)
        (tolerated (image_now mid.history) (CrashMayLeave-now mid.history)) in
        by gate.slot gate.among gate.kept ((slot_in a stage (IsInUse m mid.history) start mid.history now.way.cells gate.slot gate.among).each Gate tt)
        (known_closed gate.slot gate.among)
      where
        by : (j : ℕ) → IsInUse m mid.history j → ¬ IsLost (content ((slot_state mid.history j).sector gate_sector))
            → ButForOutside start mid.history j gate_sector (Leaves (GateHas a stage) (GateHas a stage)) → IsKnownClosed a.geometry start mid.history j → ⊥
        by j now_used kept (IsKept.Lost less) shut = now.way.same j now_used less
        by j now_used kept (IsKept.Here at some part) (IsKept.Lost less) = now.way.same j now_used less
        by j now_used kept (IsKept.Here at some (inl harmed)) shut = kept (subst (λ (s : Sector). IsLost (content s)) (sym harmed) (IsLost.ByOutside refl))
        by j now_used kept (IsKept.Here at some part) (IsKept.Here at' some' (inl harmed)) =
            kept (subst (λ (s : Sector). IsLost (content s)) (sym harmed) (IsLost.ByOutside refl))
        by j now_used kept (IsKept.Here at some (inr leaves)) (IsKept.Here at' some' (inr shut)) =
            let has : IsOpenWith a.geometry (content ((slot_state mid.history j).sector gate_sector)) a.redo
            ⊎ IsLost (content ((slot_state mid.history j).sector gate_sector)) =
            subst (λ (s : Stage). GateHas a s (content ((slot_state mid.history j).sector gate_sector))) placing (Leaves-content leaves) in
            let base : content ((slot_state mid.history j).sector gate_sector) ≡ ((slot_state mid.history j).sector gate_sector).base =
            ap (newest ((slot_state mid.history j).sector gate_sector).base) shut.on_disk in
            elim has [
              | inl opened ↦ shut.closed a.redo (subst (λ (cell : Cell). IsOpenWith a.geometry cell a.redo) base opened)
              | inr lost ↦ kept lost
            ]

    -- so the slots are at rest with the stripes from before the redo
    rests : Told
    rests = by is.begun
      where
        at_rest : IsIn a AtRest (IsInUse m mid.history) start mid.history → Told
        at_rest cells = record {
          stage = AtRest;
          recovering = record {
            way = record {
              geometry = now.way.geometry;
              ran = now.way.ran;
              epoch = now.way.epoch;
              cells = cells;
              same = now.way.same;
              large = now.way.large;
            };
            settled = now.settled;
            begun = inl refl;
            words = is.words;
          };
          told = record {
            none = λ same. refl;
            some = λ told same. let never : None ≡ Some told = sym is_none ∙ same in absurd (cc);
            opened_are = λ j used has.
                let opened = ((reads.opened j).0 has).1 in
                let never : None ≡ Some opened.with_redo = sym is_none ∙ opened.told in absurd (cc);
            others_bad = λ placing. absurd (cc);
          };
        }

        CellsIn : Stage → Type 0
        CellsIn s = IsIn a s (IsInUse m mid.history) start mid.history

        by : (stage ≡ AtRest) ⊎ (IsRedoing a × ((stage ≡ Uncommitted) ⊎ (stage ≡ Placing))) → Told
        by (inl rest) = at_rest (subst CellsIn rest now.way.cells)
        by (inr (redoing, inl started)) =
            at_rest (unopened a (IsInUse m mid.history) start mid.history (subst CellsIn started now.way.cells) known_closed)
        by (inr (redoing, inr placing)) = absurd (not_placing placing)

  -- ONE IS OPEN

  module _ (first : ℕ) (redo : Redo) (is_some : gates.redo ≡ Some redo) (read : IsRead live gates.gone first)
      (opened : IsOpenWith a.geometry (reads.gate first) redo) where
    seen : (j : ℕ) → IsRead live gates.gone j → (r : Redo) → IsOpenWith a.geometry (reads.gate j) r
        → GateHas a stage (reads.gate j) × IsKnownOpen a.geometry r start mid.history j
    seen j on r is_open =
        read_open a stage old_words new_words start m (HasSlot live) x mid is honest ran none j (of_live j on) (reads.gate j) (reads.read j on) r is_open

    -- it is of the redo that was cut off
    record IsOfRedoing : Type 0 where
      pub same : redo ≡ a.redo
      pub redoing : IsRedoing a
      pub going : (stage ≡ Uncommitted) ⊎ (stage ≡ Placing)

    of_redoing : IsOfRedoing
    of_redoing = by is.begun
      where
        has : (s : Stage) → stage ≡ s → GateHas a s (reads.gate first)
        has s at = subst (λ (t : Stage). GateHas a t (reads.gate first)) at (seen first read redo opened).0

        by : (stage ≡ AtRest) ⊎ (IsRedoing a × ((stage ≡ Uncommitted) ⊎ (stage ≡ Placing))) → IsOfRedoing
        by (inl rest) = absurd (has AtRest rest redo opened)
        by (inr (redoing, inl started)) = record { same = has Uncommitted started redo opened; redoing = redoing; going = inl started }
        by (inr (redoing, inr placing)) = record {
          same = open_or_lost_alone a redoing (reads.gate first) (has Placing placing) redo opened;
          redoing = redoing;
          going = inr placing;
        }

    tells : Told
    tells = record {
      stage = stage;
      recovering = now;
      told = record {
        none = λ same. let never : None ≡ Some redo = sym same ∙ is_some in absurd (cc);
        some = λ told same. (let both : Some told ≡ Some redo = sym same ∙ is_some in let alike : told ≡ redo = cc in alike ∙ of_redoing.same, of_redoing.redoing, of_redoing.going);
        opened_are = λ j used has.
            let on = (reads.opened j).0 has in
            let both : Some on.1.with_redo ≡ Some redo = sym on.1.told ∙ is_some in
            let alike : on.1.with_redo ≡ redo = cc in
            subst (λ (r : Redo). IsKnownOpen a.geometry r start mid.history j) (alike ∙ of_redoing.same) (seen j on.0 on.1.with_redo on.1.is_open).1;
        others_bad = λ placing j used other.
            let on = of_use j used in
            read_bad a stage old_words new_words start m (HasSlot live) x mid is honest ran none placing j used.0 (reads.gate j) (reads.read j on)
            (λ is_open.
            other
            ((reads.opened j).1
            (on, record { with_redo = a.redo; told = is_some ∙ ap (λ (r : Redo). Some r) of_redoing.same; is_open = is_open })));
      };
    }

  pub told_by : Told
  told_by = by gates.redo refl reads.redo
    where
      by : (redo : Option Redo) → gates.redo ≡ redo → IsFirstRedo a.geometry (IsRead live gates.gone) reads.gate redo → Told
      by _ same (NoneOpen closed) = rests same closed
      by _ same (OpenFirst j redo on opened lower) = tells j redo same on opened
