-- What follows for an image that is consistent by its holders.
use Rattle.std.proofs.Common.{◌≡◌, ℕ, ◌<◌, ◌≤◌, ◌⊎◌, inl, inr, refl, sym, ap, subst, ◌∙◌, arith, Bool, true, false, None, Some}
use Rattle.std.proofs.lemmas.Bool.{cases_lt, false≢true}
use Rattle.stair_model.specs.Slots.{Slots, HasSlot}
use Rattle.stair_rack.specs.Media.{Image}
use Rattle.stair_rack.specs.Sector.{Cell}
use Rattle.stair_super.specs.Superblock.{Superblock, joined_at}
use Rattle.stair_super.specs.declared.mark.Mark.TheVariants.{Live}
use Rattle.stair_member.specs.Counting.{AllBut}
use Rattle.stair_member.specs.Current.{IsCurrent, IsLive, IsLost, Serves}
use Rattle.stair_member.specs.Superblocks.{Counts, IsSuperOf}
use Rattle.stair_member.proofs.CountingLemmas.{common, slots_by, slots_by-at, slots_by-formed, slot_in_range}
use Rattle.stair_member.proofs.DecisionLemmas.{has_mark_decided}
use Rattle.stair_member.proofs.StandingLemmas.{others}
use Rattle.stair_member.proofs.SuperLemmas.{counts_bears, counts_limits, one_current, super_cells}
use Rattle.stair_state.specs.Forms.{HasGate}
use Rattle.stair_state.specs.Reassembly.{HasDrawAbove, IsBorne, IsConsistent, IsReassembly, Location}
use Rattle.stair_state.specs.Represents.{Encodings, ImageRepresents}
use Rattle.stair_state.specs.State.{State}
use Rattle.stair_state.specs.Tolerance.{IsToleratedAlone}
use Rattle.stair_state.proofs.FormLemmas.{represents_still, same_kept}
use Rattle.stair_state.proofs.ToleranceLemmas.{journal_gate}
use Rattle.stair_state.specs.Holding.{CurrentMedia, HasOvertaken, CurrentMediumReserved, IsBorneSince, IsConsistentBy, IsCurrentMedium, OfAdmitted}
use Rattle.stair_state.proofs.ReassembledLemmas.{IsBorneFrom, borne_of, counts_from, few_by}

module _ (s : State) (encodings : Encodings s) (current_media : CurrentMedia) (since : ℕ) (image : Image) (it : IsConsistentBy s encodings current_media since image)
    (to : Image) (reassembly : IsReassembly image to) (tolerated : IsToleratedAlone s.geometry to) (current : Superblock)
    (is_current : IsCurrent s.geometry to current) where
  abbrev ServesThere : ℕ → Type 0
  ServesThere j = Serves (λ k. (to k).size ≡ None) s.geometry to current j

  -- WHAT SERVES

  same_super : (j : ℕ) (x : Superblock) (from : IsBorneFrom s.geometry image to j x) → ServesThere j → Counts s.geometry to j x
      → IsSuperOf from.medium.cell x
  same_super j x from serves counts =
      super_cells ((to j).cell) from.medium.cell x (same_kept (from.copies 0) (serves.places 0 (omega arith)))
      (same_kept (from.copies 1) (serves.places 1 (omega arith))) counts.super

  kept_place : (j k : ℕ) (x : Superblock) (from : IsBorneFrom s.geometry image to j x) → k < 2 → ServesThere j → ¬ IsLost (from.medium.cell k)
  kept_place j k x from small serves =
      subst (λ (c : Cell). ¬ IsLost c) (same_kept (from.copies k) (serves.places k small)) (serves.places k small)

  -- what holds of its medium wherever it lies
  of_serving : (Q : Superblock → Type 0) (j joined : ℕ) (serves : ServesThere j) → serves.live.super.joined ≡ joined
      → OfAdmitted s.geometry image joined Q j → Q serves.live.super
  of_serving Q j joined serves same holds =
      let x : Superblock = serves.live.super in
      let from = counts_from s.geometry image to j x reassembly serves.live.counts in
      holds from.place from.medium x from.is_one (same_super j x from serves serves.live.counts) serves.live.counts.slot serves.live.counts.identity
      same (kept_place j 0 x from (omega arith) serves) (kept_place j 1 x from (omega arith) serves)

  -- one of those that serve is none of m exceptions
  some_serves : {P : ℕ → Type 0} → AllBut s.geometry.n s.geometry.m P → (j : ℕ) × (j < s.geometry.n) × ServesThere j × P j
  some_serves {P} all =
      let limits = counts_limits s.geometry to current.slot current is_current.counts in
      common {n = s.geometry.n} {m = s.geometry.m} {P = ServesThere} {Q = P} limits.devices.1 limits.majority
      (others s.geometry to current (few_by s.geometry to current tolerated is_current)) all

  -- THE CURRENT SUPERBLOCK

  current_borne : (p : Location) × IsBorne s.geometry image current.slot p current
  current_borne =
      let from = counts_from s.geometry image to current.slot current reassembly is_current.counts in (from.place, borne_of from)

  -- no earlier epoch is current within tolerance
  pub recent : since ≤ current.array.epoch
  recent =
      elim (cases_lt current.array.epoch since) [
        | inr upto ↦ upto
        | inl earlier ↦
            let found = some_serves {P = HasOvertaken s.geometry image current} (it.overtaken current.slot current_borne.0 current current_borne.1 earlier) in
            let serves : ServesThere found.0 = found.2 in
            let later : current.array.epoch < serves.live.super.array.epoch =
            of_serving (λ x. current.array.epoch < x.array.epoch) found.0 (joined_at current found.0) serves serves.live.joined
            (found.3 serves.live.marked) in
            elim (is_current.newest found.0 serves.live.super serves.live.counts) [
              | inl less ↦ absurd (omega arith)
              | inr tie ↦ let same : serves.live.super.array.epoch ≡ current.array.epoch = tie.0 in absurd (omega arith)
            ]
      ]

  -- the current superblock is borne by a medium of the image
  pub current_since : IsBorneSince s.geometry since image current
  current_since = record { slot = current.slot; place = current_borne.0; borne = current_borne.1; since_then = recent }

  live_joined : (j : ℕ) (live : IsLive s.geometry to current j) → current_media j ≡ Some live.super.joined
  live_joined j live = it.live j current current_since live.marked ∙ ap Some (sym live.joined)

  -- a live slot has its holder
  pub live_current_medium : (j : ℕ) → IsLive s.geometry to current j → IsCurrentMedium s.geometry current_media j ((to j).cell)
  live_current_medium j live = record {
    super = live.super;
    bears = counts_bears s.geometry to j live.super live.counts;
    joined = live_joined j live;
  }

  -- every epoch was drawn on a slot that serves
  pub drawn : (j : ℕ) × HasDrawAbove s.geometry image to current j
  drawn =
      let found = some_serves {P = CurrentMediumReserved s.geometry current_media image} it.reserved in
      let serves : ServesThere found.0 = found.2 in (
        found.0,
        record {
          serves = serves;
          above =
              of_serving
              (λ x. (i : ℕ) (q : Location) (t : Superblock) → IsBorne s.geometry image i q t → t.array.epoch ≤ x.draw)
              found.0 serves.live.super.joined serves refl (found.3 serves.live.super.joined (live_joined found.0 serves.live));
        },
      )

  -- where all holders but m have drawn or reached an epoch, none earlier is current
  pub none_earlier : (epoch : ℕ) → AllBut s.geometry.n s.geometry.m (λ j. (joined : ℕ) → current_media j ≡ Some joined
      → OfAdmitted s.geometry image joined (λ x. epoch ≤ x.array.epoch) j) → epoch ≤ current.array.epoch
  none_earlier epoch reached =
      let found =
      some_serves {P = λ j. (joined : ℕ) → current_media j ≡ Some joined → OfAdmitted s.geometry image joined (λ x. epoch ≤ x.array.epoch) j} reached in
      let serves : ServesThere found.0 = found.2 in
      let least : epoch ≤ serves.live.super.array.epoch =
      of_serving (λ x. epoch ≤ x.array.epoch) found.0 serves.live.super.joined serves refl
      (found.3 serves.live.super.joined (live_joined found.0 serves.live)) in
      elim (is_current.newest found.0 serves.live.super serves.live.counts) [
        | inl less ↦ omega arith
        | inr tie ↦ let same : serves.live.super.array.epoch ≡ current.array.epoch = tie.0 in omega arith
      ]

  -- THE LIVE SLOTS AS A SET

  is_live_slot : ℕ → Bool
  is_live_slot j = elim (has_mark_decided s.geometry to current Live j) [ inl live ↦ true | inr not ↦ false ]

  slot_live : (j : ℕ) → is_live_slot j ≡ true → IsLive s.geometry to current j
  unfolding is_live_slot
  slot_live j is = by (has_mark_decided s.geometry to current Live j) is
    where
      by : (d : IsLive s.geometry to current j ⊎ (¬ IsLive s.geometry to current j)) → (elim d as (λ _. Bool) [ inl live ↦ true | inr not ↦ false ]) ≡ true
          → IsLive s.geometry to current j
      by (inl live) same = live
      by (inr not) same = absurd (false≢true same)

  live_slot : (j : ℕ) → IsLive s.geometry to current j → is_live_slot j ≡ true
  unfolding is_live_slot
  live_slot j live = by (has_mark_decided s.geometry to current Live j)
    where
      by : (d : IsLive s.geometry to current j ⊎ (¬ IsLive s.geometry to current j)) → (elim d as (λ _. Bool) [ inl live ↦ true | inr not ↦ false ]) ≡ true
      by (inl live) = refl
      by (inr not) = absurd (not live)

  live_set : Slots
  live_set = slots_by is_live_slot

  in_set : (j : ℕ) → HasSlot live_set j → IsLive s.geometry to current j
  unfolding live_set
  in_set j has =
      let small = slot_in_range (slots_by is_live_slot) j (slots_by-formed is_live_slot) has in
      slot_live j (sym (slots_by-at is_live_slot j small) ∙ has)

  to_set : (j : ℕ) → IsLive s.geometry to current j → HasSlot live_set j
  unfolding live_set
  to_set j live =
      let limits = counts_limits s.geometry to current.slot current is_current.counts in
      let most : s.geometry.n ≤ 32 = limits.devices.1 in
      let below : j < s.geometry.n = live.below in
      slots_by-at is_live_slot j (omega arith) ∙ live_slot j live

  live_gate : HasGate (IsLive s.geometry to current) to
  live_gate =
      let same = one_current s.geometry to tolerated.current current tolerated.is_current is_current in
      record {
        slot = tolerated.journal_slot;
        among = subst (λ (x : Superblock). IsLive s.geometry to x tolerated.journal_slot) same tolerated.journal.serves.live;
        kept = journal_gate (λ j. (to j).size ≡ None) s.geometry to tolerated.current tolerated.journal_slot tolerated.journal;
      }

  -- what is within tolerance represents the state
  pub represents : ImageRepresents s encodings to
  represents = record {
    identity = tolerated.identity;
    current = current;
    is_current = is_current;
    full = λ j live. it.full to j reassembly (live_current_medium j live);
    form =
        represents_still s.geometry (HasSlot live_set) (IsLive s.geometry to current) to to to_set (record { each = λ j k live place. inl refl })
        encodings.old encodings.new live_gate
        (it.forms to live_set reassembly (λ j has. live_current_medium j (in_set j has))
        (record { slot = live_gate.slot; among = to_set live_gate.slot live_gate.among; kept = live_gate.kept }));
    rebuilding = λ j redo rebuilt.
        it.rebuilding to j current rebuilt.super redo reassembly current_since rebuilt.marked (counts_bears s.geometry to j rebuilt.super rebuilt.counts)
        rebuilt.joined;
    frozen = it.frozen current current_since;
    label = it.label current current_since;
  }

-- HOWEVER THE MEDIA LIE

pub consistent_by : (s : State) (encodings : Encodings s) (current_media : CurrentMedia) (since : ℕ) (image : Image)
    → IsConsistentBy s encodings current_media since image → IsConsistent s encodings image
consistent_by s encodings current_media since image it = record {
  each = λ to reassembly tolerated.
      represents s encodings current_media since image it to reassembly tolerated tolerated.current tolerated.is_current;
  one_list = it.one_list;
  own_joined = it.own_joined;
  same_joined = λ to also a b j is_to is_also alone_to alone_also current_a current_b marked_a marked_b.
      once (sym (it.live j a (current_since s encodings current_media since image it to is_to alone_to a current_a) marked_a)
      ∙ it.live j b (current_since s encodings current_media since image it also is_also alone_also b current_b) marked_b);
  drawn = λ to current reassembly tolerated is_current. drawn s encodings current_media since image it to reassembly tolerated current is_current;
}
  where
    once : {a b : ℕ} → Some a ≡ Some b → a ≡ b
    once same = cc
