-- The laws are lemmas.
use Rattle.stair_model.specs.Slots.{HasSlot}
use Rattle.stair_state.proofs.AloneLemmas.{left_stands, lesser_stands}
use Rattle.stair_state.proofs.DegradedLemmas.{again}
use Rattle.stair_state.proofs.IdentityLemmas.{same_identity}
use Rattle.stair_state.proofs.FormLemmas.{idle_still, represents_still, uncommitted_still}
use Rattle.stair_state.proofs.RestoredLemmas.{live_as_current, only_shrinks}
use Rattle.stair_state.proofs.images.degraded_laws.Goals as goal

pub returns-clause-again : goal.returns-clause-again
returns-clause-again c = again

pub returns-clause-still : goal.returns-clause-still
returns-clause-still c = λ g old new was is more fewer by within still gate.
    represents_still g (HasSlot more) (HasSlot fewer) was is within still old new gate by

pub returns-clause-left : goal.returns-clause-left
returns-clause-left c = left_stands

pub returns-clause-lesser : goal.returns-clause-lesser
returns-clause-lesser c = lesser_stands

pub returns-clause-identity : goal.returns-clause-identity
returns-clause-identity c = same_identity

pub returns-clause-still_idle : goal.returns-clause-still_idle
returns-clause-still_idle c = λ g words was is more fewer form within still.
    idle_still g (HasSlot more) (HasSlot fewer) was is within still words form

pub returns-clause-still_uncommitted : goal.returns-clause-still_uncommitted
returns-clause-still_uncommitted c = λ g old new was is more fewer form within still.
    uncommitted_still g (HasSlot more) (HasSlot fewer) was is within still old new form

pub returns-clause-shrinks : goal.returns-clause-shrinks
returns-clause-shrinks c = only_shrinks

pub returns-clause-live_as_current : goal.returns-clause-live_as_current
returns-clause-live_as_current c = live_as_current
