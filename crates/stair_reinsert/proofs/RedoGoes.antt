-- A stage of a redo of an array whose media come back leads to the next one, once slots that were gone to its phase are left out.
use Rattle.std.proofs.Common.{IsTrue, List, None, Option, inr, refl, subst, sym, ◌<◌, ◌∙◌, ◌≡◌, ℕ}
use Rattle.stair_model.specs.CellSet.{HasCell}
use Rattle.stair_model.specs.Slots.{HasSlot, Slots}
use Rattle.stair_model.specs.Stripe.{Stripe, cell}
use Rattle.stair_rack.specs.Answers.{IsNoAttach, Ran, any_call}
use Rattle.stair_rack.specs.History.{Happening, Sync}
use Rattle.stair_rack.specs.Moments.{IsMoment}
use Rattle.stair_rack.specs.Offline.{IsAttached}
use Rattle.stair_rack.specs.Placed.{IsSlot, Placed, Writes}
use Rattle.stair_rack.specs.Stretch.{WasAnswered, every_slot}
use Rattle.stair_rack.proofs.MomentLemmas.{moment_between, ran_any, ran_join}
use Rattle.stair_rack.specs.declared.rack.Reply.TheVariants as reply
use Rattle.stair_member.specs.declared.fault.FenceFault.{FenceFault}
use Rattle.stair_state.specs.Redoing.{AttachesNone, Stage, writes_in, next}
use Rattle.stair_state.specs.State.{Change, Content}
use Rattle.stair_invariant.specs.Effects.{DoesStage, IsOver, Snapshot, stage_writes, snapshot}
use Rattle.stair_invariant.specs.InSession.{IsBesideEpochs}
use Rattle.stair_invariant.specs.Leading.{IsAmidRedo, rebuild_in}
use Rattle.stair_invariant.specs.Rebuilding.{Rebuild}
use Rattle.stair_invariant.specs.Returning.{AnyReturns}
use Rattle.stair_invariant.specs.Session.{IsLiveIn}
use Rattle.stair_invariant.proofs.AmidRedoLemmas.{goes_amid, leaves_write, live_still, over_live}
use Rattle.stair_invariant.proofs.HonestLemmas.{mid_honest}
use Rattle.stair_invariant.proofs.RedoingLemmas.{out_ran, over_here, placed}
use Rattle.stair_invariant.proofs.Serving.{StaysWithinToleranceTo}
use Rattle.stair_invariant.proofs.UnderWayLemmas.{writes_same}
use Rattle.stair_reinsert.proofs.AmidOut.{goes_out}
use Rattle.stair_reinsert.proofs.RedoPhase.{IsAmidAny, all_alone, with_member}
use Rattle.stair_reinsert.proofs.RedoStage.{since_mid, free, besides, first}
use Rattle.stair_reinsert.proofs.RedoStart.{RedoAny, redo_of}
use Rattle.stair_reinsert.proofs.StageSince.{SinceIn, since_next, since_unwritten, was_attached}

module _ (before : List Happening) {kept : Content} {change : Option Change} (doing : RedoAny kept change) (stripe : Stripe)
    (cells : (i c : ℕ) → HasCell doing.redo.cells i c → cell stripe i c ≡ cell (doing.new doing.redo.stripe) i c) (stage : Stage) (to : Slots)
    (rebuild : Option Rebuild) (stopped : Option FenceFault) (p y : Snapshot) (is : IsAmidAny before doing stage rebuild stopped p)
    (over : IsOver stage p.member to) (does : DoesStage (stage_writes doing.m.array.geometry doing.redo stripe stage) to None p y)
    (honest : IsTrue y.told.honest) where
  open doing use {m, new, redo, redoing, start}

  abbrev phase_then : Placed (writes_in (redo_of doing) stage) (HasSlot to) (HasSlot does.gone) p.told.history does.mid.history
  phase_then = placed (redo_of doing) redoing stripe cells start stage to None p y over does honest

  abbrev besides_then : Ran (IsBesideEpochs p.member) p.told.history does.mid.history
  besides_then = besides before doing stripe cells stage to None rebuild stopped p y is over does honest

  abbrev free_then : Ran (AttachesNone every_slot) p.told.history does.mid.history
  free_then = free before doing stripe cells stage to None rebuild stopped p y is over does honest

  abbrev since_then : (j : ℕ) → IsLiveIn p.member j → IsAttached start j → SinceIn (redo_of doing) stage start does.mid.history j
  since_then = since_mid before doing stripe cells stage to None rebuild stopped p y is over does honest

  unattached : (j : ℕ) → Ran (IsNoAttach j) start does.mid.history
  unattached = all_alone before doing stage rebuild stopped p is does.mid.history besides_then free_then since_then

  gone_below : (j : ℕ) → HasSlot does.gone j → j < p.member.array.geometry.n
  gone_below j has = (over_here stage p.member to over j (does.phase.among j has)).below

  ran_out : Ran any_call does.mid.history y.told.history
  ran_out = out_ran does.gone None (snapshot p.member does.mid) y does.leaves honest

  -- THE NEXT STAGE, of the record

  amid_then : IsAmidRedo (redo_of doing) before (with_member (rebuild_in y.member rebuild) None y) (next stage) start y.told.history
  amid_then =
      goes_amid (redo_of doing) redoing before (with_member rebuild stopped p) stage to start p.told y over
      (subst (λ (what : Writes). DoesStage what to None p y)
      (writes_same (redo_of doing) stripe stage cells
      ∙ sym (writes_same (redo_of doing) (new redo.stripe) stage (λ i c has. refl))) does) honest is.amid is.history

  live_before : (j : ℕ) → IsLiveIn y.member j → IsLiveIn p.member j × ¬ HasSlot does.gone j
  live_before j live = live_still does.gone p.member does.mid y j does.leaves live

  answered : (j : ℕ) → HasSlot to j → ¬ HasSlot does.gone j → WasAnswered j (Sync reply.Done) p.told.history does.mid.history
  answered = does.phase.synced (mid_honest (stage_writes m.array.geometry redo stripe stage) to None p y does honest)

  abbrev upto : IsMoment start p.told.history does.mid.history
  upto = first before doing stripe cells stage to None rebuild stopped p y is over does honest

  -- a live slot was one of the phase, and wasn't gone to it
  live_on : (j : ℕ) → IsLiveIn y.member j → HasSlot to j × ¬ HasSlot does.gone j
  live_on j live = let was = live_before j live in (over_live p.member to stage over j was.0, was.1)

  since_y : (j : ℕ) → IsLiveIn y.member j → IsAttached start j → SinceIn (redo_of doing) (next stage) start y.told.history j
  since_y j live on =
      let part = live_on j live in
      since_unwritten (redo_of doing) (next stage) start does.mid.history j
      (since_next (redo_of doing) redoing stage start p.told.history does.mid.history (HasSlot to) (HasSlot does.gone) phase_then upto j
      (is.since j (live_before j live).0 on) (unattached j) part.0 part.1 (answered j part.0 part.1)) y.told.history
      (moment_between {a = any_call} {b = any_call}
      (ran_join {allowed = any_call} (ran_any {allowed = AttachesNone every_slot} is.amid.ran) (ran_any {allowed = AttachesNone every_slot} free_then)) ran_out)
      (leaves_write (IsSlot j) does.gone p.member does.mid y does.leaves honest)

  pub goes_any : StaysWithinToleranceTo AnyReturns m.array.geometry before y.told.history
      → IsAmidAny before doing (next stage) (rebuild_in y.member rebuild) None y
  goes_any calm =
      goes_out before doing stage rebuild stopped p is does.mid besides_then
      free_then since_then does.gone y does.leaves honest gone_below calm (next stage) (rebuild_in y.member rebuild) amid_then since_y
      (inr (λ j live.
      let part = live_on j live in
      was_attached start p.told.history does.mid.history upto j (unattached j) (answered j part.0 part.1)))
