-- The laws are lemmas.
use Rattle.stair_model.specs.Slots.{HasSlot}
use Rattle.stair_state.proofs.DegradedLemmas.{degraded_same}
use Rattle.stair_invariant.proofs.CameLemmas.{left_by}
use Rattle.stair_invariant.proofs.FirstFenceLemmas.{first_fence}
use Rattle.stair_invariant.proofs.FoundLemmas.{form}
use Rattle.stair_invariant.proofs.first_fence.first_fence_laws.Goals as goal

pub returns : goal.returns
returns c = record {
  form = λ s m last before old mid h new gone live image found f left within gate.
      form found (left_by f left) image (degraded_same image) (HasSlot live) within gate;
  stands = λ s m last before old mid h new gone image found f going left tolerated. first_fence found going (left_by f left) tolerated;
}
