-- A promotion that was refused before it began an epoch did what a fence does.
use Rattle.std.proofs.Common.{◌≡◌, ℕ, ◌<◌, ◌≤◌, ◌⊎◌, inl, inr, ap, ◌∙◌, arith, Some}
use Rattle.stair_model.specs.Slots.{HasSlot}
use Rattle.stair_rack.specs.RackState.{RackState}
use Rattle.stair_super.specs.declared.configuration.Configuration.{Configuration}
use Rattle.stair_member.specs.Aims.{IsAimed}
use Rattle.stair_member.specs.Editions.{Edition}
use Rattle.stair_member.specs.Epochs.{IsIssued}
use Rattle.stair_member.specs.Establishing.{Establishes, NotYet}
use Rattle.stair_member.specs.Membership.{Membership, why_of}
use Rattle.stair_member.specs.declared.aim.EpochChange.TheVariants.{Fence, Promote}
use Rattle.stair_member.specs.declared.fault.FenceFault.{FenceFault}

module _ (j : ℕ) (m last : Membership) (fault : FenceFault) (old new : RackState) (known : m.array.epoch ≤ m.drawn)
    (e : Establishes (Promote j) m last (Some fault) old new) (array : last.array ≡ m.array)
    (whys : (i : ℕ) → i < m.array.geometry.n → ¬ HasSlot e.gone i → why_of last i ≡ why_of m i) where
  as_fence : (n : Edition) → IsIssued (Promote j) (HasSlot e.gone) m last n → IsIssued Fence (HasSlot e.gone) m last n
  as_fence n issued = record {
    geometry = issued.geometry;
    above = issued.above;
    most = issued.most;
    known = issued.known;
    epoch = by issued.epoch;
    latest = issued.latest;
  }
    where
      -- none is of a new epoch
      late : m.drawn < n.array.epoch → (n.array ≡ last.array) ⊎ (n.array.epoch < last.array.epoch) → ⊥
      late above (inl same) =
          let at : n.array.epoch ≡ m.array.epoch = ap (λ (c : Configuration). c.epoch) (same ∙ array) in
          omega (arith, above, at, known)
      late above (inr below) =
          let at : last.array.epoch ≡ m.array.epoch = ap (λ (c : Configuration). c.epoch) array in
          omega (arith, above, below, at, known)

      by : (n.array ≡ m.array) ⊎ ((m.drawn < n.array.epoch) × IsAimed (Promote j) (HasSlot e.gone) m n.array)
          → (n.array ≡ m.array) ⊎ ((m.drawn < n.array.epoch) × IsAimed Fence (HasSlot e.gone) m n.array)
      by (inl same) = inl same
      by (inr another) = absurd (late another.0 issued.latest)

  pub by_fence : Establishes Fence m last (Some fault) old new
  by_fence = record {
    gone = e.gone;
    honest = e.honest;
    rules = e.rules;
    geometry = e.geometry;
    were_gone = e.were_gone;
    took = e.took;
    done = λ fine. absurd (cc);
    refused = e.refused;
    began = NotYet array whys;
    fell = e.fell;
    counts = e.counts;
    issued = λ on_it.
        let was = e.issued on_it in
        record {
          slots = was.slots;
          taking = was.taking;
          editions = was.editions;
          ran = was.ran;
          each = λ n among. as_fence n (was.each n among);
          one_list = was.one_list;
          rising = was.rising;
          reserved = was.reserved;
          standing = was.standing;
          drew = was.drew;
          steady = was.steady;
          apart = was.apart;
        };
    among = λ on_it fine. absurd (cc);
    on_disk = λ on_it fine. absurd (cc);
  }
