-- Two reassemblies of one consistent image: the greatest epoch is current in both, and a slot that is live in both has one medium.
use Rattle.std.proofs.Common.{◌≡◌, ℕ, ◌<◌, ◌≤◌, ◌⊎◌, inl, inr, sym, subst, ◌∙◌, arith, None}
use Rattle.std.proofs.lemmas.Option.{same_Some}
use Rattle.stair_rack.specs.Media.{Medium, SlotImage, Image}
use Rattle.stair_super.specs.Superblock.{Superblock}
use Rattle.stair_member.specs.Superblocks.{Counts}
use Rattle.stair_member.specs.Current.{IsCurrent, IsLive, Serves}
use Rattle.stair_member.proofs.CountingLemmas.{common}
use Rattle.stair_member.proofs.StandingLemmas.{others}
use Rattle.stair_member.proofs.SuperLemmas.{counts_limits, super_cells}
use Rattle.stair_state.specs.Degraded.{AreDamagedCopies}
use Rattle.stair_state.specs.Reassembly.{InSlot, IsBorne, IsConsistent, IsMediumOf, IsReassembly, Location, Outside}
use Rattle.stair_state.specs.Represents.{Encodings}
use Rattle.stair_state.specs.State.{State}
use Rattle.stair_state.specs.Tolerance.{IsToleratedAlone}
use Rattle.stair_state.proofs.FormLemmas.{same_kept}
use Rattle.stair_state.proofs.ReassembledLemmas.{borne_of, counts_from, few_by}
use Rattle.stair_reinsert.specs.Together.{HasOneMedium}

-- one medium lies in a place
same_medium : (slot : SlotImage) (p : Location) (a b : Medium) → IsMediumOf slot p a → IsMediumOf slot p b → a ≡ b
same_medium slot InSlot a b is also =
    let size : a.size ≡ b.size = same_Some a.size b.size (sym is.0 ∙ also.0) in
    let cells : a.cell ≡ b.cell = sym is.1 ∙ also.1 in
    λ i. record { size = size i; cell = cells i }
same_medium slot (Outside l) a b is also = same_Some a b (sym is ∙ also)

module _ (s : State) (encodings : Encodings s) (image a b : Image) (top also : Superblock) (it : IsConsistent s encodings image)
    (is_a : IsReassembly image a) (is_b : IsReassembly image b) (alone_a : IsToleratedAlone s.geometry a) (alone_b : IsToleratedAlone s.geometry b)
    (current_a : IsCurrent s.geometry a top) (current_b : IsCurrent s.geometry b also) where
  pub live_in_both : (j : ℕ) → IsLive s.geometry a top j → IsLive s.geometry b also j → HasOneMedium image a b j
  live_in_both j live_a live_b =
      let from_a = counts_from s.geometry image a j live_a.super is_a live_a.counts in
      let from_b = counts_from s.geometry image b j live_b.super is_b live_b.counts in
      let joined : live_a.super.joined ≡ live_b.super.joined =
      live_a.joined ∙ it.same_joined a b top also j is_a is_b alone_a alone_b current_a current_b live_a.marked live_b.marked ∙ sym live_b.joined in
      let place : from_a.place ≡ from_b.place =
      it.own_joined j from_a.place from_b.place live_a.super live_b.super (borne_of from_a) (borne_of from_b) joined in
      let medium : from_a.medium ≡ from_b.medium =
      same_medium (image j) from_b.place from_a.medium from_b.medium (subst (λ (p : Location). IsMediumOf (image j) p from_a.medium) place from_a.is_one)
      from_b.is_one in
      record {
        place = from_a.place;
        medium = from_a.medium;
        is_one = from_a.is_one;
        first = from_a.copies;
        second = subst (λ (m : Medium). AreDamagedCopies m.cell ((b j).cell)) (sym medium) from_b.copies;
      }

  pub greatest_is_current : ((j : ℕ) (serves : Serves (λ k. (a k).size ≡ None) s.geometry a top j) → serves.live.super.array.epoch ≡ top.array.epoch)
      → ((j : ℕ) (place : Location) (x : Superblock) → IsBorne s.geometry image j place x → x.array.epoch ≤ top.array.epoch)
      → also.array.epoch ≡ top.array.epoch
  greatest_is_current each most =
      let limits = counts_limits s.geometry a top.slot top current_a.counts in
      let found =
      common {n = s.geometry.n} {m = s.geometry.m} {P = Serves (λ k. (a k).size ≡ None) s.geometry a top}
      {Q = Serves (λ k. (b k).size ≡ None) s.geometry b also} limits.devices.1 limits.majority
      (others s.geometry a top (few_by s.geometry a top alone_a current_a)) (others s.geometry b also (few_by s.geometry b also alone_b current_b)) in
      close found.0 found.2 found.3
    where
      close : (j : ℕ) → Serves (λ k. (a k).size ≡ None) s.geometry a top j → Serves (λ k. (b k).size ≡ None) s.geometry b also j
          → also.array.epoch ≡ top.array.epoch
      close j serves_a serves_b = settled (current_b.newest j serves_a.live.super counts)
        where
          one : HasOneMedium image a b j
          one = live_in_both j serves_a.live serves_b.live

          place_same : (k : ℕ) → k < 2 → (a j).cell k ≡ (b j).cell k
          place_same k k_in = same_kept (one.first k) (serves_a.places k k_in) ∙ sym (same_kept (one.second k) (serves_b.places k k_in))

          counts : Counts s.geometry b j serves_a.live.super
          counts = record {
            super =
                super_cells ((a j).cell) ((b j).cell) serves_a.live.super (place_same 0 (omega arith)) (place_same 1 (omega arith))
                serves_a.live.counts.super;
            slot = serves_a.live.counts.slot;
            identity = serves_a.live.counts.identity;
          }

          is_epoch : serves_a.live.super.array.epoch ≡ top.array.epoch
          is_epoch = each j serves_a

          top_below : also.array.epoch ≤ top.array.epoch
          top_below =
              let from = counts_from s.geometry image b also.slot also is_b current_b.counts in
              most also.slot from.place also (borne_of from)

          settled : (serves_a.live.super.array.epoch < also.array.epoch) ⊎ ((serves_a.live.super.array.epoch ≡ also.array.epoch) × (also.slot ≤ j))
              → also.array.epoch ≡ top.array.epoch
          settled (inl less) = omega (arith, top_below, is_epoch)
          settled (inr tie) = sym tie.0 ∙ is_epoch
