-- The laws are lemmas.
use Rattle.stair_model.specs.Slots.{HasSlot}
use Rattle.stair_rack.specs.Crash.{image_now}
use Rattle.stair_rack.proofs.CrashLemmas.{CrashMayLeave-now}
use Rattle.stair_member.specs.Membership.{IsHere}
use Rattle.stair_invariant.proofs.AfterLemmas.{stood}
use Rattle.stair_invariant.proofs.BesideLemmas.{beside, epoch_kept, opens, redone, served}
use Rattle.stair_invariant.proofs.KnownLemmas.{begun_on, may_admit, reached_on}
use Rattle.stair_invariant.proofs.RebaseLemmas.{stage_now}
use Rattle.stair_invariant.proofs.ThereLemmas.{there}
use Rattle.stair_invariant.proofs.keeping.kept_laws.Goals as goal

pub returns : goal.returns
returns c = record {
  begun = λ joining m old new begun ran apart none. begun_on joining m old new begun ran none apart;
  reached = λ joining m old new begun have ran none. reached_on joining m old new begun ran none (IsHere m) (have (image_now old) (CrashMayLeave-now old));
  admits = may_admit;
  there = there;
  rebased = λ a stage live now start h is among. stage_now a stage (HasSlot live) (HasSlot now) start h is among;
  beside = beside;
  epoch = epoch_kept;
  stood = λ aim gone m last old new own shut st going. stood aim gone m last old new own st going shut;
  opens = opens;
  served = served;
  redone = λ a m live old new is same ran none done all. redone a m (HasSlot live) old new is same ran none done all;
}
