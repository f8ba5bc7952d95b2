-- The law is a lemma of the array's steps, whether media come back or not.
use Rattle.stair_invariant.specs.Returning.{AnyReturns}
use Rattle.stair_array.proofs.StepsLead.{promises}
use Rattle.stair_reinsert.proofs.AnyReturnsLead.{any_returns_leads}
use Rattle.stair_reinsert.proofs.steps.step_laws.Goals as goal

pub returns : goal.returns
returns c = record { every = promises AnyReturns any_returns_leads }
