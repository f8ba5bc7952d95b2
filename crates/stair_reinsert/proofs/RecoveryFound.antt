-- A recovery of an array whose media come back in the midst of a redo that was cut off, or at rest: where it is once all gates were read.
use Rattle.std.proofs.Common.{IsTrue, List, None, Option, Some, ap, refl, subst, sym, ◌∙◌, ◌≡◌, ◌⊎◌, ℕ}
use Rattle.stair_model.specs.Geometry.{Geometry}
use Rattle.stair_model.specs.Slots.{HasSlot, Slots}
use Rattle.stair_rack.specs.Answers.{Ran, any_call}
use Rattle.stair_rack.specs.Crash.{image_now}
use Rattle.stair_rack.specs.History.{Happening}
use Rattle.stair_rack.specs.Offline.{IsAttached}
use Rattle.stair_rack.specs.Placed.{IsSlot}
use Rattle.stair_rack.specs.Stretch.{every_slot}
use Rattle.stair_rack.proofs.MomentLemmas.{moment_between, ran_any, ran_join}
use Rattle.stair_journal.specs.Gates.{IsFirstRedo, IsGateSector, IsRead, NoneOpen, OpenFirst}
use Rattle.stair_journal.specs.declared.redo.Redo.{Redo}
use Rattle.stair_state.specs.Recovering.{IsKnownBad}
use Rattle.stair_state.specs.Redoing.{AtRest, AttachesNone, Placing, Redoing, Stage, Uncommitted, WritesNone}
use Rattle.stair_state.specs.State.{Change, Content}
use Rattle.stair_state.specs.Tolerance.{IsTolerated}
use Rattle.stair_state.proofs.RecoveryLemmas.{still_bad}
use Rattle.stair_invariant.specs.Effects.{Snapshot}
use Rattle.stair_invariant.specs.Returning.{AnyReturns}
use Rattle.stair_invariant.specs.Session.{IsLiveIn}
use Rattle.stair_invariant.proofs.Serving.{StaysWithinToleranceTo, any_read, tolerated_now}
use Rattle.stair_reinsert.proofs.RecoveryGates as gates
use Rattle.stair_reinsert.proofs.RecoveryFinding.{IsLastRound, reads_any}
use Rattle.stair_reinsert.proofs.RecoveryStage.{IsStaged, recovery_doing}
use Rattle.stair_reinsert.proofs.RedoPhase.{IsAmidAny}
use Rattle.stair_reinsert.proofs.RedoStart.{redo_by, RedoAny}
use Rattle.stair_reinsert.proofs.StageSince.{SinceIn, since_unwritten}
use Rattle.stair_journal.specs.Gate.{IsOpenWith}
use Rattle.std.specs.Prelude.{◌↔◌}

-- WHAT WAS FOUND

-- The gates tell at p in which stage of a redo the array is. That began, all live slots being attached, in one of the first stages; where this
-- redo is told it is the one, and each of these slots is ready for its cells.
pub record IsToldAny (before : List Happening) (kept : Content) (change : Option Change) (told : Option Redo) (opened : Slots) (p : Snapshot) : Type 0 where
  pub of : RedoAny kept change
  pub open of use {m, words as first, new as last, redo, both, stage_first, start, starts, between as words, redoing, says}
  pub began : Ran any_call before start
  pub stage : Stage
  pub amid : IsAmidAny before of stage None None p
  pub used : (j : ℕ) → IsLiveIn p.member j → IsAttached start j
  pub none : told ≡ None → stage ≡ AtRest
  pub some : (one : Redo) → told ≡ Some one → (one ≡ redo) × ((stage ≡ Uncommitted) ⊎ (stage ≡ Placing))
  pub ready : (one : Redo) → told ≡ Some one → (j : ℕ) → IsLiveIn p.member j → HasSlot opened j
      → SinceIn (redo_by m first last redo) Placing start p.told.history j
  pub others_bad : stage ≡ Placing → (j : ℕ) → IsLiveIn p.member j → ¬ HasSlot opened j → IsKnownBad start p.told.history j

-- so it is still at a later point, where nothing was written from the gate on
abbrev pub told_still : (before : List Happening) (kept : Content) (change : Option Change) (told : Option Redo) (opened : Slots) (p y : Snapshot)
    (is : IsToldAny before kept change told opened p)
    → IsAmidAny before is.of is.stage None None y
    → ((j : ℕ) → IsLiveIn y.member j → IsLiveIn p.member j) → ((j : ℕ) → Ran (WritesNone (IsSlot j)) p.told.history y.told.history)
    → IsToldAny before kept change told opened y
told_still before kept change told opened p y is amid live unwritten = record {
  of = is.of;
  began = is.began;
  stage = is.stage;
  amid = amid;
  used = λ j now. is.used j (live j now);
  none = is.none;
  some = is.some;
  ready = λ one same j now has.
      since_unwritten (redo_by is.m is.first is.last is.redo) Placing is.start p.told.history j (is.ready one same j (live j now) has) y.told.history
      (moment_between {a = AttachesNone every_slot} {b = WritesNone (IsSlot j)} is.amid.amid.ran (unwritten j)) (unwritten j);
  others_bad = λ placing j now out.
      still_bad {some = IsSlot j} is.start p.told.history y.told.history j refl (unwritten j) (is.others_bad placing j (live j now) out);
}

module _ (before : List Happening) (kept : Content) (change : Option Change) (g : Geometry) (redo : Option Redo) (opened : Slots) (z : Snapshot)
    (round : IsLastRound before kept change g redo opened z) (honest : IsTrue z.told.honest) (calm : StaysWithinToleranceTo AnyReturns g before z.told.history) where
  ran : Ran any_read round.start.history z.told.history
  ran = reads_any {slots = HasSlot round.live} {sectors = IsGateSector} round.start.history z.told.history (round.reads.ran honest)

  all : Ran any_call before z.told.history
  all = ran_join {allowed = any_call} round.untouched.amid.ran (ran_any {allowed = any_read} ran)

  tolerated : IsTolerated z.member.array.geometry before round.start.history
  tolerated =
      subst (λ (y : Geometry). IsTolerated y before round.start.history) (sym round.geometry)
      (calm round.start.history (moment_between {a = any_call} {b = any_read} round.untouched.amid.ran ran))

  tolerated_last : IsTolerated z.member.array.geometry before z.told.history
  tolerated_last =
      subst (λ (y : Geometry). IsTolerated y before z.told.history) (sym round.geometry) (tolerated_now AnyReturns g before z.told.history all calm)

  abbrev q : IsStaged z.member round.untouched.stands.is.encodings.old round.untouched.stands.is.encodings.new (HasSlot round.live)
      (image_now round.start.history)
  q =
      gates.q before kept change z.member round.start z.told round.untouched round.synced round.live round.are round.gates round.reads round.none honest
      tolerated

  abbrev r : Redoing
  r = redo_by z.member q.first q.last q.redo

  -- in this stage, of which the gates tell so much
  found_in : (stage : Stage) → ((j : ℕ) → HasSlot round.live j → SinceIn r stage round.start.history z.told.history j)
      → (redo ≡ None → stage ≡ AtRest)
      → ((one : Redo) → redo ≡ Some one → (one ≡ q.redo) × ((stage ≡ Uncommitted) ⊎ (stage ≡ Placing)))
      → ((one : Redo) → redo ≡ Some one → (j : ℕ) → HasSlot round.live j → HasSlot opened j
      → SinceIn r Placing round.start.history z.told.history j)
      → (stage ≡ Placing → (j : ℕ) → HasSlot round.live j → ¬ HasSlot opened j → IsKnownBad round.start.history z.told.history j)
      → IsToldAny before kept change redo opened z
  found_in stage since none some ready bad = record {
    of =
        recovery_doing before kept change z.member round.start round.untouched round.synced round.live round.are
        (gates.all_attached before kept change z.member round.start z.told round.untouched round.synced round.live round.are round.gates round.reads
        round.none honest) tolerated;
    began = round.untouched.amid.ran;
    stage = stage;
    amid =
        gates.round_amid before kept change z.member round.start z.told round.untouched round.synced round.live round.are round.gates round.reads round.none
        honest tolerated stage since;
    used = λ j live.
        gates.all_attached before kept change z.member round.start z.told round.untouched round.synced round.live round.are round.gates round.reads round.none
        honest j ((round.are.are j).1 live);
    none = none;
    some = some;
    ready = λ one same j live. ready one same j ((round.are.are j).1 live);
    others_bad = λ placing j live. bad placing j ((round.are.are j).1 live);
  }

  opened_is : (j : ℕ) → HasSlot opened j ↔ HasSlot round.gates.opened j
  opened_is j = (
    λ has. subst (λ (s : Slots). HasSlot s j) (sym round.opens) has,
    λ has. subst (λ (s : Slots). HasSlot s j) round.opens has,
  )

  pub found_told : IsToldAny before kept change redo opened z
  found_told = by round.gates.redo refl round.reads.redo
    where
      by : (told : Option Redo) → round.gates.redo ≡ told
          → IsFirstRedo z.member.array.geometry (IsRead round.live round.gates.gone) round.reads.gate told → IsToldAny before kept change redo opened z
      by _ same (NoneOpen closed) =
          let is_none : redo ≡ None = sym round.found ∙ same in
          found_in AtRest
          (gates.at_rest before kept change z.member round.start z.told round.untouched round.synced round.live round.are round.gates round.reads round.none
          honest tolerated (λ j has. closed j (has, round.none j)) tolerated_last)
          (λ none. refl)
          (λ one some. let never : None ≡ Some one = sym is_none ∙ some in absurd (cc))
          (λ one some j live has. let never : None ≡ Some one = sym is_none ∙ some in absurd (cc))
          (λ placing. absurd (cc))
      by _ same (OpenFirst j told on is_open lower) =
          let is_some : redo ≡ Some told = sym round.found ∙ same in
          let of =
          gates.of_redo before kept change z.member round.start z.told round.untouched round.synced round.live round.are round.gates round.reads round.none
          honest tolerated j on.0 told is_open in
          found_in q.stage
          (gates.since_first before kept change z.member round.start z.told round.untouched round.synced round.live round.are round.gates round.reads
          round.none honest tolerated)
          (λ none. let never : None ≡ Some told = sym none ∙ is_some in absurd (cc))
          (λ one some. let both : Some one ≡ Some told = sym some ∙ is_some in let alike : one ≡ told = cc in (alike ∙ of.0, of.1))
          (λ one some i live has.
          let its = (round.reads.opened i).0 ((opened_is i).0 has) in
          let both : Some its.1.with_redo ≡ Some told = sym its.1.told ∙ same in
          let alike : its.1.with_redo ≡ told = cc in
          gates.opened_placing before kept change z.member round.start z.told round.untouched round.synced round.live round.are round.gates round.reads
          round.none honest tolerated of.1 i live
          (subst (λ (x : Redo). IsOpenWith z.member.array.geometry (round.reads.gate i) x) (alike ∙ of.0) its.1.is_open))
          (λ placing i live out.
          gates.other_bad before kept change z.member round.start z.told round.untouched round.synced round.live round.are round.gates round.reads round.none
          honest tolerated of.1 i live placing
          (λ opens.
          out
          ((opened_is i).1
          ((round.reads.opened i).1 (
            (live, round.none i),
            record {
              with_redo = q.redo;
              told = same ∙ ap (λ (x : Redo). Some x) of.0;
              is_open = opens;
            },
          )))))
