-- The laws are lemmas.
use Rattle.stair_model.specs.Slots.{HasSlot}
use Rattle.stair_state.proofs.DeterminedLemmas.{same_blocks}
use Rattle.stair_state.proofs.ToleranceLemmas.{exactly_covered, journal_gate}
use Rattle.stair_state.proofs.WordLemmas.{by_any_encodings}
use Rattle.stair_state.proofs.images.coverage_laws.Goals as goal

pub returns-clause-exactly : goal.returns-clause-exactly
returns-clause-exactly c = λ offline. exactly_covered (HasSlot offline)

pub returns-clause-gate : goal.returns-clause-gate
returns-clause-gate c = λ offline. journal_gate (HasSlot offline)

pub returns-clause-determined : goal.returns-clause-determined
returns-clause-determined c = same_blocks

pub returns-clause-any : goal.returns-clause-any
returns-clause-any c = by_any_encodings
