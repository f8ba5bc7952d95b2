-- The laws are lemmas.
use Rattle.std.proofs.Common.{inl, inr}
use Rattle.stair_model.specs.Device.{gate_sector}
use Rattle.stair_model.specs.Slots.{HasSlot}
use Rattle.stair_state.specs.Recovering.{IsClosedSector, IsOpenSector, IsUnreadable}
use Rattle.stair_state.specs.Redoing.{Stage}
use Rattle.stair_state.proofs.RedoFoundLemmas.{found_at_rest, found_committed, found_idle, found_uncommitted}
use Rattle.stair_state.proofs.RecoveryLemmas.{all_closed, closing, known_now, known_open, partly, reopening, still_bad, still_closed, still_open, unopened}
use Rattle.stair_state.proofs.recoveries.recovery_laws.Goals as goal

pub returns-clause-at_rest : goal.returns-clause-at_rest
returns-clause-at_rest c = λ a live image. found_at_rest a (HasSlot live) image

pub returns-clause-uncommitted : goal.returns-clause-uncommitted
returns-clause-uncommitted c = λ a live image j limits one form. found_uncommitted a (HasSlot live) image limits one form j

pub returns-clause-idle : goal.returns-clause-idle
returns-clause-idle c = λ a live image j limits same one form. found_idle a (HasSlot live) image limits same one form j

pub returns-clause-committed : goal.returns-clause-committed
returns-clause-committed c = λ a live image. found_committed a (HasSlot live) image

pub returns-clause-found : goal.returns-clause-found
returns-clause-found c = λ g redo live start h j held on ready. (
  known_now (IsOpenSector g redo) g (HasSlot live) start h j gate_sector held on ready,
  known_now (IsClosedSector g) g (HasSlot live) start h j gate_sector held on ready,
  known_now IsUnreadable g (HasSlot live) start h j gate_sector held on ready,
)

pub returns-clause-known : goal.returns-clause-known
returns-clause-known c = λ g redo live start old new j on ran. (
  still_open {some = HasSlot live} start old new j on ran g redo,
  still_closed {some = HasSlot live} start old new j on ran g,
  still_bad {some = HasSlot live} start old new j on ran,
)

pub returns-clause-closing : goal.returns-clause-closing
returns-clause-closing c = λ a stage live to gone start old new rests is phase.
    closing a (HasSlot live) start stage (HasSlot to) (HasSlot gone) old new rests is phase

pub returns-clause-opening : goal.returns-clause-opening
returns-clause-opening c = λ a live to gone start old new redoing held is phase each.
    partly a (HasSlot live) start Stage.Uncommitted to (HasSlot gone) old new redoing held is phase
    (λ j on. elim (each j on) [ inl among ↦ inl among | inr known ↦ inr (known_open a start old j known) ])

pub returns-clause-reopening : goal.returns-clause-reopening
returns-clause-reopening c = λ a live to gone start old new redoing held is phase bad.
    reopening a (HasSlot live) start to (HasSlot gone) old new redoing held is phase bad

pub returns-clause-unopened : goal.returns-clause-unopened
returns-clause-unopened c = λ a live start. unopened a (HasSlot live) start

pub returns-clause-closed : goal.returns-clause-closed
returns-clause-closed c = λ a live start. all_closed a (HasSlot live) start
