-- A slot that had failed at the end has a mark in what was read. The last image with what was read of this slot in its place
-- tells of it, since it too is degraded from the first one and within tolerance: where the slot is live it was so at first, and
-- where it is rebuilt its gate was closed.
use Rattle.std.proofs.Common.{◌≡◌, ◌≢◌, ℕ, ◌<◌, ◌≤◌, ◌⊎◌, inl, inr, refl, sym, ap, ◌∙◌, subst, arith, nat_lt, if◌then◌else◌}
use Rattle.std.proofs.lemmas.Bool.{cases_eq, cases_lt, cond-true, cond-false, lt-ltb, le-ltb}
use Rattle.stair_model.specs.Device.{gate_sector}
use Rattle.stair_model.specs.Geometry.{Geometry}
use Rattle.stair_rack.specs.Media.{Image, SlotImage}
use Rattle.stair_rack.specs.Sector.{Cell, Damaged}
use Rattle.stair_super.specs.Superblock.{Superblock}
use Rattle.stair_super.specs.declared.mark.Mark.{Mark}
use Rattle.stair_super.specs.declared.mark.Mark.TheVariants.{Live}
use Rattle.stair_member.specs.Current.{HasMark, IsCurrent, IsFailed, IsLive, IsRebuilding}
use Rattle.stair_member.specs.Reserve.{Bears}
use Rattle.stair_member.specs.Superblocks.{Counts, HoldsSuper}
use Rattle.stair_member.proofs.StandingLemmas.{has_current}
use Rattle.stair_member.proofs.SuperLemmas.{counts_bears, super_cells}
use Rattle.stair_journal.specs.Gate.{IsOpenWith, ReadsClosed}
use Rattle.stair_journal.specs.declared.redo.Redo.{Redo}
use Rattle.stair_state.specs.Degraded.{IsDegraded, IsDegradedSlot, Stays}
use Rattle.stair_state.specs.Forms.{IsOpen}
use Rattle.stair_state.specs.Tolerance.{IsToleratedAlone}
use Rattle.stair_state.proofs.AgreeLemmas.{borne_upto, current_upto, mark_moved}
use Rattle.stair_state.proofs.DegradedLemmas.{bears_before, degraded_copies, orderly_before}
use Rattle.stair_state.proofs.ExchangedLemmas.{counts_in, exchanged_stands, exchanged_tolerated, others_before, serves_or_failed, serves_there, slot_cases, slot_here, slot_there, with_slot}
use Rattle.stair_state.proofs.SeenLemmas.{IsLookedAt, bears_read, ending, ending_borne, ending_first, found_is, is_ending, mark_by_first, serving_first}

-- THE IMAGE

-- the slot at first, with what was read in its superblock places
abbrev pub read_slot : Image → Image → ℕ → SlotImage
read_slot first read j = record {
  size = (first j).size;
  cell = λ k. if nat_lt k 2 then (read j).cell k else (first j).cell k;
  removed = (first j).removed;
}

abbrev pub mixed : Image → Image → Image → ℕ → Image
mixed first read last j = with_slot last j (read_slot first read j)

mixed_cell : (first read last : Image) (j k : ℕ) → k < 2 → (mixed first read last j j).cell k ≡ (read j).cell k
mixed_cell first read last j k place =
    ap (λ (slot : SlotImage). slot.cell k) (slot_here last j (read_slot first read j)) ∙ cond-true _ _ _ (lt-ltb k 2 place)

mixed_behind : (first read last : Image) (j k : ℕ) → 2 ≤ k → (mixed first read last j j).cell k ≡ (first j).cell k
mixed_behind first read last j k behind =
    ap (λ (slot : SlotImage). slot.cell k) (slot_here last j (read_slot first read j)) ∙ cond-false _ _ _ (le-ltb k 2 behind)

module _ {g : Geometry} {offline : ℕ → Type 0} {first read last : Image} (looks : IsLookedAt g offline first read last)
    (current found : Superblock) (is_current : IsCurrent g first current) (is_found : IsCurrent g read found) (j : ℕ)
    (failed : IsFailed offline g last (ending looks) j) (same : found.array ≡ (ending looks).array) where
  abbrev image : Image
  image = mixed first read last j

  there : (i : ℕ) → i ≢ j → image i ≡ last i
  there i other = slot_there last j (read_slot first read j) i other

  image_degraded : IsDegraded first image
  image_degraded i = slot_cases (λ n slot. IsDegradedSlot (first n) slot) last j (read_slot first read j) i (Stays refl copies) (λ other. looks.degraded i)
    where
      copies : (k : ℕ) → ((read_slot first read j).cell k ≡ (first j).cell k) ⊎ ((read_slot first read j).cell k ≡ Damaged)
      copies k =
          elim (cases_lt k 2) [
            | inl place ↦
                let is : (read_slot first read j).cell k ≡ (read j).cell k = cond-true _ _ _ (lt-ltb k 2 place) in
                elim (looks.copies j k) [ inl still ↦ inl (is ∙ still) | inr harmed ↦ inr (is ∙ harmed) ]
            | inr behind ↦ inl (cond-false _ _ _ (le-ltb k 2 behind))
          ]

  -- WHAT COUNTS IN IT

  counts_from_read : (s : Superblock) → Counts g read j s → Counts g image j s
  counts_from_read s counts = record {
    super = super_cells ((read j).cell) ((image j).cell) s (sym (mixed_cell first read last j 0 (omega arith)))
        (sym (mixed_cell first read last j 1 (omega arith))) counts.super;
    slot = counts.slot;
    identity = counts.identity;
  }

  counts_as_read : (s : Superblock) → Counts g image j s → Counts g read j s
  counts_as_read s counts = record {
    super = super_cells ((image j).cell) ((read j).cell) s (mixed_cell first read last j 0 (omega arith))
        (mixed_cell first read last j 1 (omega arith)) counts.super;
    slot = counts.slot;
    identity = counts.identity;
  }

  bears_mixed : (i : ℕ) (s : Superblock) → Bears g i ((last i).cell) s → Bears g i ((image i).cell) s
  bears_mixed i s bears =
      elim (cases_eq i j) [
        | inl at ↦
            subst (λ (n : ℕ). Bears g n ((image n).cell) s) (sym at)
            (of_read (bears_read looks j s (subst (λ (n : ℕ). Bears g n ((last n).cell) s) at bears)))
        | inr other ↦ subst (λ (slot : SlotImage). Bears g i slot.cell s) (sym (there i other)) bears
      ]
    where
      of_read : Bears g j ((read j).cell) s → Bears g j ((image j).cell) s
      of_read borne = record {
        place = borne.place;
        place_in = borne.place_in;
        holds = subst (λ (cell : Cell). HoldsSuper cell s) (sym (mixed_cell first read last j borne.place borne.place_in)) borne.holds;
        slot = borne.slot;
        identity = borne.identity;
      }

  -- its current superblock names what the last one's does
  image_named : (c : Superblock) → IsCurrent g image c → c.array ≡ (ending looks).array
  image_named c is =
      let least : (ending looks).array.epoch ≤ c.array.epoch =
      borne_upto g image c (ending looks).slot (ending looks) (orderly_before g first image image_degraded looks.orderly) is
      (bears_mixed (ending looks).slot (ending looks) (ending_borne looks)) in
      let most : c.array.epoch ≤ (ending looks).array.epoch = upto in
      looks.orderly.one_list c.slot (ending looks).slot c (ending looks)
      (bears_before (degraded_copies (image_degraded c.slot)) (counts_bears g image c.slot c is.counts)) (ending_first looks)
      (omega (arith, least, most))
    where
      upto : c.array.epoch ≤ (ending looks).array.epoch
      upto =
          elim (cases_eq c.slot j) [
            | inl at ↦
                let read_so : c.array.epoch ≤ found.array.epoch =
                current_upto g read found j c is_found (counts_as_read c (subst (λ (n : ℕ). Counts g image n c) at is.counts)) in
                let named : found.array.epoch ≡ (ending looks).array.epoch = ap (λ array. array.epoch) same in
                omega (arith, read_so, named)
            | inr other ↦
                current_upto g last (ending looks) c.slot c (is_ending looks) (counts_in g image last c.slot c (there c.slot other) is.counts)
          ]

  -- it is within tolerance, with a current superblock that names so
  pub record IsMixed : Type 0 where
    pub super : Superblock
    pub is : IsCurrent g image super
    pub alone : IsToleratedAlone g image
    pub names : super.array ≡ (ending looks).array

  image_alone : IsMixed
  image_alone =
      let has = has_current g image (exchanged_stands looks.after j (read_slot first read j) failed) in
      let names : has.0.array ≡ (ending looks).array = image_named has.0 has.1 in
      record {
        super = has.0;
        is = has.1;
        alone =
            exchanged_tolerated looks.after j (read_slot first read j) failed looks.empty looks.known
            (others_before g first image image_degraded looks.others) has.0 has.1
            (λ i serves.
            mark_moved g last image (ending looks) has.0 i (sym names)
            (λ s counts. counts_in g last image i s (sym (serves_there looks.after j (read_slot first read j) failed i serves)) counts) serves.live);
        names = names;
      }

  -- and the slot has in it the mark that it had in what was read
  marked_there : {mark : Mark} (is : IsMixed) → HasMark g read found mark j → HasMark g image is.super mark j
  marked_there is has = mark_moved g read image found is.super j (same ∙ sym is.names) counts_from_read has

  live_by_mixed : IsLive g read found j → IsLive g first current j
  live_by_mixed live =
      let is : IsMixed = image_alone in
      looks.shrinks image image_degraded is.alone current is.super j is_current is.is (marked_there is live)

  -- its gate is the one at first
  pub closed_by_mixed : ((less : Image) → IsDegraded first less → IsToleratedAlone g less → (c : Superblock) → IsCurrent g less c
      → IsRebuilding g less c j → (redo : Redo) → ¬ IsOpen g less j redo) → IsRebuilding g read found j → ReadsClosed g ((first j).cell gate_sector)
  closed_by_mixed closed rebuilt redo opened =
      let is : IsMixed = image_alone in
      closed image image_degraded is.alone is.super is.is (marked_there is rebuilt) redo
      (subst (λ (cell : Cell). IsOpenWith g cell redo) (sym (mixed_behind first read last j gate_sector (omega arith))) opened)

-- so each slot that is live in what was read was live at first
pub read_live : {g : Geometry} {offline : ℕ → Type 0} {first read last : Image} (looks : IsLookedAt g offline first read last)
    (current found : Superblock) → IsCurrent g first current → IsCurrent g read found → (j : ℕ) → IsLive g read found j → IsLive g first current j
read_live {g} {offline} {first} {read} {last} looks current found is_current is_found j live =
    elim (found_is looks current found is_current is_found) [
      | inl same ↦
          elim (serves_or_failed offline g last (ending looks) j live.below (looks.known j)) [
            | inl serves ↦ serving_first looks current found is_current is_found j serves
            | inr failed ↦ live_by_mixed looks current found is_current is_found j failed same live
          ]
      | inr same ↦ mark_by_first looks current found is_current is_found {mark = Live} j (λ down. cc) same live
    ]
