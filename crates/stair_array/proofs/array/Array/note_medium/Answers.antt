-- The member saw the medium, and a rebuild goes on.
use Rattle.std.proofs.Common.{◌∙◌, ap, sym}
use Rattle.stair_super.specs.declared.configuration.Configuration.{Configuration}
use Rattle.stair_array.proofs.AdmittingLemmas.{under_seen}
use Rattle.stair_array.proofs.array.Array.note_medium.Goals as goal

pub invariant_of-self : goal.invariant_of-self
invariant_of-self g c = (
  c.self.invariant.0 ∙ sym (ap (λ (k : Configuration). k.geometry) c.observe.ensures.is.array),
  under_seen _ _ _ _ _ c.observe.ensures.is _ c.self.invariant.1,
)
