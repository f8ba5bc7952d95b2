-- The laws are lemmas.
use Rattle.stair_model.specs.Slots.{HasSlot}
use Rattle.stair_state.specs.Redoing.{AtRest, Done}
use Rattle.stair_state.proofs.RedoFormLemmas.{crash_leaves, crashed, made, ready_left, slot_again, stands, started}
use Rattle.stair_state.proofs.RedoRunLemmas.{answered, apart_attaches, apart_writes, are_held_now, are_held_on, phase_attaches, phase_held, phase_leads, phase_stays, stays_stopped, unwritten, whole}
use Rattle.stair_state.proofs.StageLemmas.{is_in, slot_in, written_from_gate, written_in_range}
use Rattle.stair_state.proofs.stages.stage_laws.Goals as goal

pub returns-clause-within : goal.returns-clause-within
returns-clause-within c = λ a stage j k bytes redoing is.
    (written_from_gate a redoing stage j k bytes is, written_in_range a redoing stage j k bytes is)

pub returns-clause-phase : goal.returns-clause-phase
returns-clause-phase c = λ a stage live start old new redoing held is phase. (
  phase_stays a (HasSlot live) start stage old new redoing held is phase,
  phase_leads a (HasSlot live) start stage old new redoing held is phase,
  phase_held a (HasSlot live) start stage old new redoing held is phase,
)

pub returns-clause-answered : goal.returns-clause-answered
returns-clause-answered c = λ a stage live to gone start old new redoing since is phase each.
    answered a (HasSlot live) start stage (HasSlot to) (HasSlot gone) old new redoing since is phase each

pub returns-clause-unwritten : goal.returns-clause-unwritten
returns-clause-unwritten c = λ a stage live start. unwritten a (HasSlot live) start stage

pub returns-clause-stopped : goal.returns-clause-stopped
returns-clause-stopped c = λ a stage live start. stays_stopped a (HasSlot live) start stage

pub returns-clause-holds : goal.returns-clause-holds
returns-clause-holds c = λ g live. are_held_now g (HasSlot live)

pub returns-clause-held : goal.returns-clause-held
returns-clause-held c = λ g live. are_held_on g (HasSlot live)

pub returns-clause-apart : goal.returns-clause-apart
returns-clause-apart c = λ live old new ran. (apart_writes {live = HasSlot live} ran, apart_attaches {live = HasSlot live} ran)

pub returns-clause-attaches : goal.returns-clause-attaches
returns-clause-attaches c = λ what live to gone old new phase. phase_attaches {live = HasSlot live} phase

pub returns-clause-read : goal.returns-clause-read
returns-clause-read c = λ a stage live start h j held is on ready. ready_left a stage (HasSlot live) start h j held is on ready

pub returns-clause-whole : goal.returns-clause-whole
returns-clause-whole c = λ a from stage live start old new redoing held is runs.
    let arrives = whole a (HasSlot live) start redoing from old held is stage new runs in
    (arrives.through, arrives.reaches, arrives.held)

pub returns-clause-left : goal.returns-clause-left
returns-clause-left c = λ a stage live now start h image is left among.
    crash_leaves a stage (HasSlot live) (HasSlot now) start h image is left among

pub returns-clause-stands : goal.returns-clause-stands
returns-clause-stands c = λ a stage live now start h image redoing is left among gate.
    stands a redoing (HasSlot now) image stage gate
    (crash_leaves a stage (HasSlot live) (HasSlot now) start h image is left among)

pub returns-clause-again : goal.returns-clause-again
returns-clause-again c = λ a b live start h same words is.
    is_in b AtRest (HasSlot live) start h (λ j on. slot_again a b start h j same words (slot_in a Done (HasSlot live) start h is j on))

pub returns-clause-starts : goal.returns-clause-starts
returns-clause-starts c = λ a stage live. started a stage (HasSlot live)

pub returns-clause-made : goal.returns-clause-made
returns-clause-made c = λ a stage live. made a stage (HasSlot live)

pub returns-clause-crashed : goal.returns-clause-crashed
returns-clause-crashed c = λ a stage live now start h image is left. crashed a stage (HasSlot live) (HasSlot now) start h image is left
