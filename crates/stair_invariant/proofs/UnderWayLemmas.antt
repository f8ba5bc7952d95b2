-- A redo that is under way: its phases, and the slots that are left out between them.
use Rattle.std.proofs.Common.{◌≡◌, ◌≢◌, ℕ, ◌<◌, List, inl, inr, refl, sym, ap, ◌∙◌, subst, arith, Bool, true, false, None, Some, if◌then◌else◌}
use Rattle.std.specs.Prelude.{◌-◌, ◌/◌, ◌%◌, nat_lt, IsTrue, Ok}
use Rattle.stair_model.specs.CellSet.{HasCell, has_cell}
use Rattle.stair_model.specs.Device.{body_start, cell_sector}
use Rattle.stair_model.specs.Geometry.{Geometry}
use Rattle.stair_model.specs.Slots.{Slots, HasSlot}
use Rattle.stair_model.specs.Stripe.{Stripe, cell}
use Rattle.stair_rack.specs.Answers.{Ran, any_call}
use Rattle.stair_rack.specs.History.{Happening, slot_state, stopped}
use Rattle.stair_rack.specs.Moments.{IsMoment}
use Rattle.stair_rack.specs.Offline.{IsHeld, WasPulled}
use Rattle.stair_rack.specs.Placed.{IsSlot, Placed}
use Rattle.stair_rack.specs.Stretch.{NothingReturned}
use Rattle.stair_rack.specs.RackState.{RackState}
use Rattle.stair_rack.proofs.MomentLemmas.{at_last, at_moment, ran_any, ran_before, ran_join, ran_weakened}
use Rattle.stair_rack.proofs.OfflineLemmas.{pulls_on}
use Rattle.stair_member.specs.Epochs.{IsIssuing}
use Rattle.stair_super.specs.declared.configuration.Configuration.{Configuration}
use Rattle.stair_member.specs.Establishing.{Fences}
use Rattle.stair_member.specs.Fencing.{HasStood}
use Rattle.stair_member.specs.Membership.{IsHere, Membership, why_of}
use Rattle.stair_member.specs.declared.why.Why.TheVariants as why
use Rattle.stair_member.specs.declared.aim.EpochChange.TheVariants.{Fence}
use Rattle.stair_member.proofs.CountingLemmas.{has_or_not}
use Rattle.stair_journal.specs.Journalling.{body_writes}
use Rattle.stair_journal.specs.declared.redo.Redo.{Redo}
use Rattle.stair_stripes.specs.Placing.{cell_writes}
use Rattle.stair_state.specs.Redoing.{AtRest, AttachesNone, Done, InPlace, IsRedoing, Placing, Redoing, Stage, Uncommitted, WritesNone, next, writes_in}
use Rattle.stair_state.proofs.RedoPhaseLemmas.{IsHeldFull, large_some, slot_next, slot_phase, slot_unwritten}
use Rattle.stair_state.proofs.StageLemmas.{SlotIn, is_in, slot_in}
use Rattle.stair_invariant.specs.Effects.{IsOver, stage_writes}
use Rattle.stair_invariant.specs.InSession.{IsBesideEpochs}
use Rattle.stair_invariant.specs.Session.{IsLiveIn}
use Rattle.stair_invariant.specs.UnderWay.{IsInUse, IsUnderWay}
use Rattle.stair_invariant.proofs.BesideLemmas.{attached_on, epoch_kept, large_on, medium_on_it, unattached}
use Rattle.stair_invariant.proofs.EstablishingLemmas.{issuing_attaches, issuing_writes}
use Rattle.stair_invariant.proofs.LeavingOutLemmas.{fence_epoch, fence_stood, why_before}
use Rattle.stair_invariant.proofs.StageBesideLemmas.{over_alone, phase_beside}

-- WHAT IS WRITTEN goes by the redo's cells alone

choice : (b : Bool) (x y : List ℕ) → (IsTrue b → x ≡ y) → (if b then Some x else None) ≡ (if b then Some y else None)
choice true x y same = ap (λ (l : List ℕ). Some l) (same refl)
choice false x y same = refl

module _ (g : Geometry) (redo : Redo) (s t : Stripe) (same : (i c : ℕ) → HasCell redo.cells i c → cell s i c ≡ cell t i c) where
  body_same : body_writes g redo s ≡ body_writes g redo t
  body_same = λ x j k.
      if nat_lt k body_start then None
      else choice (has_cell redo.cells ((k - body_start) / g.n) ((k - body_start) % g.n)) (cell s ((k - body_start) / g.n) ((k - body_start) % g.n))
      (cell t ((k - body_start) / g.n) ((k - body_start) % g.n)) (same ((k - body_start) / g.n) ((k - body_start) % g.n)) x

  cells_same : cell_writes g redo s ≡ cell_writes g redo t
  cells_same = λ x j k.
      if nat_lt k (cell_sector g redo.stripe 0) then None
      else choice (has_cell redo.cells (k - cell_sector g redo.stripe 0) j) (cell s (k - cell_sector g redo.stripe 0) j)
      (cell t (k - cell_sector g redo.stripe 0) j) (same (k - cell_sector g redo.stripe 0) j) x

pub writes_same : (a : Redoing) (stripe : Stripe) (stage : Stage)
    → ((i c : ℕ) → HasCell a.redo.cells i c → cell stripe i c ≡ cell (a.new a.redo.stripe) i c)
    → stage_writes a.geometry a.redo stripe stage ≡ writes_in a stage
writes_same a stripe AtRest same = body_same a.geometry a.redo stripe (a.new a.redo.stripe) same
writes_same a stripe Uncommitted same = refl
writes_same a stripe Placing same = cells_same a.geometry a.redo stripe (a.new a.redo.stripe) same
writes_same a stripe InPlace same = refl
writes_same a stripe Done same = refl

-- a slot that lost no medium twice lost none
pub not_twice : (start old new : List Happening) (j : ℕ) → ¬ WasPulled start old j → ¬ WasPulled old new j → ¬ WasPulled start new j
not_twice start old new j first second pulled = omega (arith, first, second, pulled)

-- CALLS BESIDE ITS EPOCHS

-- Of the slots in use after such calls all is so that was, but for their sectors.
module _ (a : Redoing) (stage : Stage) (start : List Happening) (m : Membership) (old c : List Happening) (way : IsUnderWay a stage start m old)
    (ran : Ran (IsBesideEpochs m) old c) (none : NothingReturned old c) where
  beside_free : (j : ℕ) → IsLiveIn m j → Ran (AttachesNone (λ i. i ≡ j)) old c
  beside_free j live = unattached m old c way.epoch ran none j (record { below = live.below; why = inl live.why })

  pub beside_used : (j : ℕ) → IsInUse m c j → IsInUse m old j
  beside_used j used = (used.0, attached_on old c j (beside_free j used.0) used.1)

  pub beside_slot : (j : ℕ) → IsInUse m c j → SlotIn a stage start old j
  beside_slot j used = slot_in a stage (IsInUse m old) start old way.cells j (beside_used j used)

  -- so the redo is in the stage in which they are
  pub way_beside : (now : Stage) → ((j : ℕ) → IsInUse m c j → SlotIn a now start c j) → IsUnderWay a now start m c
  way_beside now slots = record {
    geometry = way.geometry;
    ran = ran_join {allowed = any_call} way.ran (ran_any {allowed = IsBesideEpochs m} ran);
    epoch = epoch_kept m old c way.epoch ran none;
    cells = is_in a now (IsInUse m c) start c slots;
    same = λ j used. not_twice start old c j (way.same j (beside_used j used)) (medium_on_it old c j (beside_free j used.0) used.1);
    large = λ j used.
        large_on a.geometry old c j (beside_free j used.0) (beside_used j used).1 used.1 (way.large j (beside_used j used));
  }

  pub beside_held : (j : ℕ) → IsInUse m c j → IsHeldFull a.geometry start old j
  beside_held j used =
      let before = beside_used j used in
      record {
        held = IsHeld.InUse before.1 (large_some a.geometry (slot_state old j).size (way.large j before)) (pulls_on {allowed = any_call} j way.ran);
        full = inr (way.large j before);
        same = λ on. way.same j before;
      }

-- A PHASE

module _ (a : Redoing) (redoing : IsRedoing a) (stage : Stage) (start : List Happening) (m : Membership) (to : Slots) (over : IsOver stage m to) where
  -- all slots in used are among those of the phase
  pub over_live : (stage ≢ Done) → (j : ℕ) → IsLiveIn m j → HasSlot to j
  over_live going j live = by stage over
    where
      by : (x : Stage) → IsOver x m to → HasSlot to j
      by AtRest is = (is.are j).1 live
      by Uncommitted is = (is.are j).1 live
      by Placing is = (is.are j).1 (record { below = live.below; why = inl live.why })
      by InPlace is = (is.are j).1 live
      by Done is = (is.are j).1 live

  module _ (gone : ℕ → Type 0) (old mid : List Happening) (way : IsUnderWay a stage start m old)
      (placed : Placed (writes_in a stage) (HasSlot to) gone old mid) where
    pub besides : Ran (IsBesideEpochs m) old mid
    besides = phase_beside a redoing m stage (HasSlot to) (over_alone m to stage over) {gone = gone} placed

    -- at each moment of it the stage stays
    pub way_then : (c : List Happening) → IsMoment old c mid → NothingReturned old c → IsUnderWay a stage start m c
    way_then c at none =
        let ran = ran_before {allowed = IsBesideEpochs m} besides at in
        way_beside a stage start m old c way ran none stage
        (λ j used.
        at_moment {P = λ h. SlotIn a stage start h j}
        (slot_phase a stage start j (HasSlot to) gone old mid redoing placed (beside_slot a stage start m old c way ran none j used)) at)

    -- It leads to the next one.
    pub way_ends : NothingReturned old mid → (stage ≢ Done) → ¬ IsTrue (stopped mid) → IsUnderWay a (next stage) start m mid
    way_ends none not_done going =
        way_beside a stage start m old mid way besides none (next stage)
        (λ j used.
        slot_next a stage start j (HasSlot to) gone old mid redoing placed (beside_slot a stage start m old mid way besides none j used) going way.ran
        (inl (over_live not_done j used.0)) (beside_held a stage start m old mid way besides none j used))

-- SLOTS THAT ARE LEFT OUT

module _ (a : Redoing) (stage : Stage) (start : List Happening) (leaving fallen : Slots) (m last : Membership) (old new : RackState)
    (way : IsUnderWay a stage start m old.history) (were_here : (j : ℕ) → HasSlot leaving j → IsHere m j)
    (e : Fences leaving m last (Ok fallen) old new) (honest : IsTrue new.honest) (returned : NothingReturned old.history new.history)
    (going : ¬ IsTrue (stopped new.history)) where
  stands : HasStood Fence e.establishes.gone e.start last old.history new.history
  stands = fence_stood leaving fallen m last old new way.epoch were_here e honest returned

  abbrev issued : Ran (IsIssuing (e.establishes.issued honest).slots (e.establishes.issued honest).editions) old.history new.history
  issued = (e.establishes.issued honest).ran

  pub free_of : (j : ℕ) → Ran (AttachesNone (λ i. i ≡ j)) old.history new.history
  free_of j =
      ran_weakened {allowed = IsIssuing (e.establishes.issued honest).slots (e.establishes.issued honest).editions} {more = AttachesNone (λ i. i ≡ j)}
      (λ i c may. issuing_attaches (e.establishes.issued honest).slots (e.establishes.issued honest).editions (λ x. x ≡ j) i c may) issued

  pub unwritten_of : (j : ℕ) → Ran (WritesNone (IsSlot j)) old.history new.history
  unwritten_of j =
      ran_weakened {allowed = IsIssuing (e.establishes.issued honest).slots (e.establishes.issued honest).editions} {more = WritesNone (IsSlot j)}
      (λ i c may. issuing_writes (e.establishes.issued honest).slots (e.establishes.issued honest).editions (IsSlot j) i c may) issued

  same_geometry : last.array.geometry ≡ m.array.geometry
  same_geometry = stands.established.stands.geometry ∙ ap (λ (c : Configuration). c.geometry) e.leaves.array

  -- a slot that is live then is so without those that leave,
  start_live : (j : ℕ) → IsLiveIn last j → why_of e.start j ≡ why.Here
  start_live j live =
      elim (has_or_not e.establishes.gone j) [
        | inl has ↦ let never : why.Here ≡ why.Gone = sym live.why ∙ stands.dropped j has in absurd (cc)
        | inr stays ↦
            sym (stands.established.whys j (subst (λ (g : Geometry). j < g.n) stands.established.stands.geometry live.below) stays) ∙ live.why
      ]

  pub not_leaving : (j : ℕ) → IsLiveIn last j → ¬ HasSlot leaving j
  not_leaving j live has = let never : why.Here ≡ why.Gone = sym (start_live j live) ∙ e.leaves.left j has in cc

  -- and was so
  live_before : (j : ℕ) → IsLiveIn last j → IsLiveIn m j
  live_before j live = record {
    below = subst (λ (g : Geometry). j < g.n) same_geometry live.below;
    why = why_before leaving m last (Ok fallen) old new way.epoch were_here e j why.Here (start_live j live) (λ same. cc);
  }

  pub used_then : (j : ℕ) → IsInUse last new.history j → IsInUse m old.history j
  used_then j used = (live_before j used.0, attached_on old.history new.history j (free_of j) used.1)

  -- The redo is in its stage still.
  pub way_left : IsUnderWay a stage start last new.history
  way_left = record {
    geometry = way.geometry ∙ sym same_geometry;
    ran =
        ran_join {allowed = any_call} way.ran
        (ran_any {allowed = IsIssuing (e.establishes.issued honest).slots (e.establishes.issued honest).editions} issued);
    epoch = fence_epoch leaving fallen m last old new way.epoch were_here e honest returned going;
    cells =
        is_in a stage (IsInUse last new.history) start new.history
        (λ j used.
        at_last {P = λ h. SlotIn a stage start h j}
        (slot_unwritten a stage start j (IsSlot j) refl old.history new.history (unwritten_of j)
        (slot_in a stage (IsInUse m old.history) start old.history way.cells j (used_then j used))));
    same = λ j used.
        not_twice start old.history new.history j (way.same j (used_then j used)) (medium_on_it old.history new.history j (free_of j) used.1);
    large = λ j used.
        large_on a.geometry old.history new.history j (free_of j) (used_then j used).1 used.1 (way.large j (used_then j used));
  }
