-- Five devices of which the same slots count as failed throughout a stretch: it is within tolerance, counted so.
use Rattle.std.proofs.Common.{◌≡◌, ℕ, ◌<◌, ◌≤◌, List, ◌∷◌, arith}
use Rattle.stair_model.specs.Slots.{HasSlot, IsSlotSet, Slots, slot_count}
use Rattle.stair_model.proofs.SetLaws.{slot_count_member}
use Rattle.stair_rack.specs.Crash.{CrashMayLeave}
use Rattle.stair_rack.specs.History.{Acted, Happening, SlotAct, slot_state}
use Rattle.stair_rack.specs.Media.{Image}
use Rattle.stair_rack.specs.Moments.{AtEveryMoment, IsMoment}
use Rattle.stair_rack.specs.Offline.{IsOffline}
use Rattle.stair_rack.proofs.MomentLemmas.{at_moment}
use Rattle.stair_super.specs.Superblock.{joined_in, mark_in}
use Rattle.stair_super.specs.declared.mark.Mark.TheVariants.{Live}
use Rattle.stair_member.specs.Editions.{Edition}
use Rattle.stair_state.specs.Blocks.{Codewords}
use Rattle.stair_state.specs.Tolerance.{IsTolerated}
use Rattle.stair_reinsert.specs.Counted.{HasBorne, IsToleratedCounted}
use Rattle.stair_reinsert.specs.Misled.{five, made_of}
use Rattle.stair_reinsert.specs.Still.{IsStill}
use Rattle.stair_reinsert_examples.proofs.FiveDevices.{AreEditions, IsWithin, borne_own, tolerates, tolerates_counting}
use Rattle.stair_reinsert_examples.proofs.FiveMoments.{GoesOn, IsNow, act_each, goes_still, left_shows, now_still, still_each, within}

module _ (words : Codewords) (editions : ℕ → Edition) (failed : Slots) where
  -- The slots that don't count as failed are live, by the superblock that is current.
  pub record Stands (h : List Happening) : Type 0 where
    pub goes : GoesOn words editions failed h
    pub current : ℕ
    pub now : IsNow words editions current h
    pub live : (j : ℕ) → j < 5 → ¬ HasSlot failed j
        → (mark_in (editions current).array j ≡ Live) × (joined_in (editions j).array j ≡ joined_in (editions current).array j)

  pub stands_still : (x y : List Happening) → IsStill x y → Stands x → Stands y
  stands_still x y still s = record {
    goes = goes_still words editions failed x y still s.goes;
    current = s.current;
    now = now_still words editions s.current x y still s.now;
    live = s.live;
  }

  pub each_still : (x y : List Happening) → Stands x → IsStill x y → AtEveryMoment Stands x y
  each_still x y s still = still_each words editions Stands (λ m part. stands_still x m part s) still

  pub each_act : (h : List Happening) (i : ℕ) (a : SlotAct) → Stands h → Stands (Acted i a ∷ h) → AtEveryMoment Stands h (Acted i a ∷ h)
  each_act h i a before after = act_each words editions Stands h i a before after

  module _ (are : AreEditions words editions) (formed : IsSlotSet failed) (few : slot_count failed ≤ 2)
      (stand : Slots) (stand_formed : IsSlotSet stand) (many : 2 < slot_count stand)
      (stand_kept : (j : ℕ) → HasSlot stand j → (j < 5) × ¬ HasSlot failed j) (journal : ℕ) (journal_in : journal < 5)
      (journal_kept : ¬ HasSlot failed journal) where
    abbrev old : List Happening
    old = made_of words editions

    is_within : (h : List Happening) (image : Image) (s : Stands h) → CrashMayLeave h image
        → IsWithin words editions failed (IsOffline old h) image s.current
    is_within h image s left =
        within words editions failed s.current h image s.goes s.now left (λ j below kept. (s.live j below kept).0)
        (λ j below kept. (s.live j below kept).1)

    pub tolerated : (h : List Happening) → Stands h → IsTolerated five old h
    tolerated h s image left =
        tolerates words editions are failed formed few stand stand_formed many stand_kept journal journal_in journal_kept (IsOffline old h) image
        s.current (is_within h image s left)

    module _ (new : List Happening) (throughout : AtEveryMoment Stands old new) where
      at : (h : List Happening) → IsMoment old h new → Stands h
      at h moment = at_moment {P = Stands} throughout moment

      pub tolerated_at : (h : List Happening) → IsMoment old h new → IsTolerated five old h
      tolerated_at h moment = tolerated h (at h moment)

      pub counted : IsToleratedCounted five old old new
      counted = record {
        failed = failed;
        formed = formed;
        few = few;
        each = λ h moment image left.
            let s = at h moment in
            tolerates_counting words editions are failed formed few stand stand_formed many stand_kept journal journal_in journal_kept (IsOffline old h)
            image s.current (is_within h image s left);
        alone = λ other more.
            let some = slot_count_member more.slots (omega (arith, more.many)) in
            let borne : HasBorne other old new some.0 = more.each some.0 some.2 in
            (borne_own words editions are (λ i. borne.image) other some.0 borne.super
            (left_shows words editions (slot_state borne.left.moment some.0) (λ i. borne.image) some.0 borne.left.holds
            ((at borne.left.moment borne.left.is_one).goes.slots some.0)) borne.bears).same;
      }
