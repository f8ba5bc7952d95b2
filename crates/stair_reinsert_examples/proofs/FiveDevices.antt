-- Images of five devices, of which some may be away: what they bear, what is current in them, and when they are within tolerance.
use Rattle.std.proofs.Common.{◌≡◌, ℕ, ◌<◌, ◌≤◌, List, [], ◌∷◌, ◌⊎◌, inl, inr, refl, sym, ap, ◌∙◌, subst, arith, get_or, replicate}
use Rattle.std.proofs.lemmas.Bool.{cases_eq, cases_lt, cond-true, cond-false, false≢true, lt-ltb, le-ltb, ne_eqb}
use Rattle.std.proofs.lemmas.List.{get_or-replicate, get_or_past, length-replicate}
use Rattle.std.proofs.lemmas.List.Elements.{All-cons, All-nil}
use Rattle.stair_model.specs.CellSet.{CellSet, HasCell, count_in_row}
use Rattle.stair_model.specs.Coverage.{IsCovered}
use Rattle.stair_model.specs.Device.{cell_sector, chunks_start, gate_sector}
use Rattle.stair_model.specs.Geometry.{Geometry, IsWithinLimits}
use Rattle.stair_model.specs.Slots.{HasSlot, IsSlotSet, Slots, no_slots, slot_count}
use Rattle.stair_model.specs.Stripe.{cell}
use Rattle.stair_model.proofs.RestLaws.{rows_covered}
use Rattle.stair_model.proofs.SetLaws.{has_slot-none, slot_count_member, slot_count_none}
use Rattle.stair_rack.specs.Media.{Image}
use Rattle.stair_rack.specs.Sector.{Damaged, Good}
use Rattle.stair_super.specs.Newer.{IsOlder}
use Rattle.stair_super.specs.Spelling.{spelled}
use Rattle.stair_super.specs.Superblock.{IsSuperblock, Superblock, joined_in, mark_in}
use Rattle.stair_super.specs.declared.mark.Mark.{Mark}
use Rattle.stair_super.specs.declared.mark.Mark.TheVariants.{Live}
use Rattle.stair_member.specs.Current.{ByOutside, HasMark, IsCurrent, IsFailed, IsLost, LostPlace, NotLive, Offline}
use Rattle.stair_member.specs.Editions.{Edition, copy_of}
use Rattle.stair_member.specs.Reserve.{Bears, BearsFor, MayStand}
use Rattle.stair_member.specs.Superblocks.{Counts, CountsFor, First, HoldsSuper, Identifies, IsOnlyIdentity, IsSuperOf}
use Rattle.stair_member.proofs.CountingLemmas.{has_or_not, more_mapped}
use Rattle.stair_member.proofs.EditionLemmas.{holds_copy}
use Rattle.stair_member.proofs.SuperLemmas.{counts_bears, holds_once}
use Rattle.stair_journal.specs.Gate.{closed_gate}
use Rattle.stair_state.specs.Blocks.{Codewords}
use Rattle.stair_state.specs.Degraded.{AreAllDamaged}
use Rattle.stair_state.specs.Tolerance.{IsWithinTolerance}
use Rattle.stair_state.proofs.FormLemmas.{good_kept, good_whole}
use Rattle.stair_reinsert.specs.Counted.{IsToleratedCounting}
use Rattle.stair_reinsert.specs.Misled.{device_cell, five}

pub five_limits : IsWithinLimits five
five_limits = record {
  devices = (omega arith, omega arith);
  parities = omega arith;
  majority = omega arith;
  covered_chunks = (omega arith, omega arith);
  rows = (omega arith, omega arith);
  covered_sectors = (
    All-cons (λ x. (1 ≤ x) × (x ≤ 1)) 1 [] (omega arith, omega arith) (All-nil (λ x. (1 ≤ x) × (x ≤ 1))),
    λ i j d order within.
        let same : i ≡ j = omega arith in subst (λ k. get_or (1 ∷ []) i d ≤ get_or (1 ∷ []) k d) same (omega arith),
  );
  blocks = omega arith;
  size = (omega arith, omega arith, omega arith);
}

pub older_none : (s : Superblock) → ¬ IsOlder s s
older_none s (inl less) = omega arith
older_none s (inr both) = omega (arith, both.1)

-- each cell of the slots of a set is erased
abbrev pub whole_chunks : Slots → CellSet
whole_chunks slots = record { rows = replicate 32 slots }

module _ (words : Codewords) (editions : ℕ → Edition) where
  -- what an example is to give
  pub record AreEditions : Type 0 where
    pub formed : (j : ℕ) → j < 5 → IsSuperblock (copy_of (editions j) j)
    pub of_five : (j : ℕ) → j < 5 → (editions j).array.geometry ≡ five

  -- THE CELLS

  pub place_cell : (j k : ℕ) → k < 2 → device_cell words editions j k ≡ Good (spelled (copy_of (editions j) j))
  place_cell j k place = cond-true _ _ _ (lt-ltb k 9 (omega (arith, place))) ∙ cond-true _ _ _ (lt-ltb k 2 place)

  pub gate_cell : (j : ℕ) → device_cell words editions j gate_sector ≡ Good closed_gate
  gate_cell j = refl

  pub chunk_cell : (j : ℕ) → device_cell words editions j 8 ≡ Good (cell (words 0) 0 j)
  chunk_cell j = refl

  pub good_cell : (j k : ℕ) → k < 9 → (bytes : List ℕ) × (device_cell words editions j k ≡ Good bytes)
  good_cell j k within =
      elim (cases_lt k 2) [
        | inl place ↦ (spelled (copy_of (editions j) j), place_cell j k place)
        | inr behind ↦
            elim (cases_eq k gate_sector) [
              | inl same ↦ (closed_gate, ap (device_cell words editions j) same ∙ gate_cell j)
              | inr other ↦ (
                cell (words 0) 0 j,
                cond-true _ _ _ (lt-ltb k 9 within) ∙ cond-false _ _ _ (le-ltb k 2 behind)
                    ∙ cond-false _ _ _ (ne_eqb k gate_sector other),
              )
            ]
      ]

  pub past_cell : (j k : ℕ) → 9 ≤ k → device_cell words editions j k ≡ Damaged
  past_cell j k past = cond-false _ _ _ (le-ltb k 9 past)

  -- THE IMAGES

  -- slot j holds its device
  pub record IsDevice (image : Image) (j : ℕ) : Type 0 where
    pub below : j < 5
    pub cells : (k : ℕ) → (image j).cell k ≡ device_cell words editions j k

  -- or nothing
  pub data Shows (image : Image) (j : ℕ) : Type 0 where
    InPlace : IsDevice image j → Shows image j
    Bare : AreAllDamaged (image j).cell → Shows image j

  module _ (are : AreEditions) (image : Image) where
    abbrev pub super : ℕ → Superblock
    super j = copy_of (editions j) j

    pub device_holds : (j k : ℕ) → IsDevice image j → k < 2 → HoldsSuper ((image j).cell k) (super j)
    device_holds j k is place = holds_copy ((image j).cell k) (editions j) j (are.formed j is.below) (is.cells k ∙ place_cell j k place)

    pub device_super : (j : ℕ) → IsDevice image j → IsSuperOf ((image j).cell) (super j)
    device_super j is =
        First (device_holds j 0 is (omega arith))
        (λ other there older.
        older_none (super j)
        (subst (IsOlder (super j)) (holds_once ((image j).cell 1) other (super j) there (device_holds j 1 is (omega arith))) older))

    pub device_counts : (j : ℕ) → IsDevice image j → Counts five image j (super j)
    device_counts j is = record { super = device_super j is; slot = refl; identity = are.of_five j is.below }

    -- a superblock that the slot bears, for whichever array
    pub record IsItsOwn (other : Geometry) (j : ℕ) (s : Superblock) : Type 0 where
      pub device : IsDevice image j
      pub is : s ≡ super j
      pub same : other ≡ five

    pub borne_own : (other : Geometry) (j : ℕ) (s : Superblock) → Shows image j → Bears other j ((image j).cell) s → IsItsOwn other j s
    borne_own other j s (Bare all) bears = absurd (good_whole bears.holds.good (all bears.place))
    borne_own other j s (InPlace is) bears =
        let own : s ≡ super j = holds_once ((image j).cell bears.place) s (super j) bears.holds (device_holds j bears.place is bears.place_in) in
        record {
          device = is;
          is = own;
          same = sym bears.identity ∙ ap (λ (t : Superblock). t.array.geometry) own ∙ are.of_five j is.below;
        }

    module _ (shows : (j : ℕ) → Shows image j) where
      pub others : (other : Geometry) → MayStand other image → other ≡ five
      others other may =
          let some = slot_count_member may.slots (omega (arith, may.many)) in
          let for : BearsFor other image some.0 = may.each some.0 some.2 in
          (borne_own other some.0 for.super (shows some.0) for.bears).same

      pub identity : Identifies five image → IsOnlyIdentity five image
      identity stands = record {
        stands = stands;
        alone = λ other stands_too.
            others other
            (more_mapped {P = CountsFor other image} {Q = BearsFor other image}
            (λ j for. record { super = for.super; bears = counts_bears other image j for.super for.counts }) stands_too);
      }

      pub current : (c : ℕ) → IsDevice image c
          → ((j : ℕ) → IsDevice image j → ((editions j).array.epoch < (editions c).array.epoch)
          ⊎ (((editions j).array.epoch ≡ (editions c).array.epoch) × (c ≤ j))) → IsCurrent five image (super c)
      current c is newest = record {
        counts = device_counts c is;
        newest = λ j s counts.
            let own = borne_own five j s (shows j) (counts_bears five image j s counts) in
            subst (λ (t : Superblock). (t.array.epoch < (super c).array.epoch) ⊎ ((t.array.epoch ≡ (super c).array.epoch) × (c ≤ j))) (sym own.is)
            (newest j own.device);
      }

    pub marked : (c j : ℕ) (mark : Mark) → IsDevice image j → mark_in (editions c).array j ≡ mark
        → joined_in (editions j).array j ≡ joined_in (editions c).array j → HasMark five image (super c) mark j
    marked c j mark is same joined = record { below = is.below; marked = same; super = super j; counts = device_counts j is; joined = joined }

  -- TOLERANCE

  -- All five but the slots that count as failed hold their devices, which the current superblock, slot c's, means as live ones.
  pub record IsWithin (failed : Slots) (offline : ℕ → Type 0) (image : Image) (c : ℕ) : Type 0 where
    pub shows : (j : ℕ) → Shows image j
    pub first : IsDevice image c
    pub newest : (j : ℕ) → IsDevice image j → ((editions j).array.epoch < (editions c).array.epoch)
        ⊎ (((editions j).array.epoch ≡ (editions c).array.epoch) × (c ≤ j))
    pub kept : (j : ℕ) → j < 5 → ¬ HasSlot failed j → IsDevice image j
    pub online : (j : ℕ) → j < 5 → ¬ HasSlot failed j → ¬ offline j
    pub live : (j : ℕ) → j < 5 → ¬ HasSlot failed j → mark_in (editions c).array j ≡ Live
    pub joined : (j : ℕ) → j < 5 → ¬ HasSlot failed j → joined_in (editions j).array j ≡ joined_in (editions c).array j

  module _ (are : AreEditions) (failed : Slots) (formed : IsSlotSet failed) (few : slot_count failed ≤ 2)
      (stand : Slots) (stand_formed : IsSlotSet stand) (many : 2 < slot_count stand)
      (stand_kept : (j : ℕ) → HasSlot stand j → (j < 5) × ¬ HasSlot failed j) (journal : ℕ) (journal_in : journal < 5)
      (journal_kept : ¬ HasSlot failed journal) (offline : ℕ → Type 0) (image : Image) (c : ℕ) (within : IsWithin failed offline image c) where
    is_current : IsCurrent five image (copy_of (editions c) c)
    is_current = current are image within.shows c within.first within.newest

    live_kept : (j : ℕ) → j < 5 → ¬ HasSlot failed j → HasMark five image (copy_of (editions c) c) Live j
    live_kept j below kept = marked are image c j Live (within.kept j below kept) (within.live j below kept) (within.joined j below kept)

    good_there : (j k : ℕ) → IsDevice image j → k < 9 → ¬ IsLost ((image j).cell k)
    good_there j k is small = let it = good_cell j k small in good_kept (is.cells k ∙ it.1)

    failed_among : (j : ℕ) → IsFailed offline five image (copy_of (editions c) c) j → HasSlot failed j
    failed_among j out =
        elim (has_or_not failed j) [
          | inl has ↦ has
          | inr kept ↦ absurd (by kept out)
        ]
      where
        by : ¬ HasSlot failed j → IsFailed offline five image (copy_of (editions c) c) j → ⊥
        by kept (NotLive below not) = not (live_kept j below kept)
        by kept (LostPlace k below small lost) = good_there j k (within.kept j below kept) (omega (arith, small)) lost
        by kept (Offline below off) = within.online j below kept off

    erased_covered : IsCovered five (whole_chunks failed)
    erased_covered = rows_covered five (whole_chunks failed) each_row
      where
        none_few : slot_count no_slots ≤ 2
        none_few = omega (
          arith,
          slot_count_none no_slots
              (λ j small has. false≢true (sym (has_slot-none j) ∙ has)),
        )

        each_row : (i : ℕ) → count_in_row (whole_chunks failed) i ≤ 2
        each_row i =
            elim (cases_lt i 32) [
              | inl below ↦
                  subst (λ (row : Slots). slot_count row ≤ 2)
                  (sym (get_or-replicate 32 i failed no_slots below)) few
              | inr past ↦
                  subst (λ (row : Slots). slot_count row ≤ 2)
                  (sym (get_or_past (replicate 32 failed) i no_slots
                  (omega (arith, past, length-replicate 32 failed)))) none_few
            ]

    erased_has : (t i j : ℕ) → t < 1 → i < 1 → j < 5 → HasSlot failed j ⊎ ((image j).cell (cell_sector five t i) ≡ Damaged)
        → HasCell (whole_chunks failed) i j
    erased_has t i j t_in i_in j_in out =
        elim (has_or_not failed j) [
          | inl has ↦
              subst (λ (row : Slots). HasSlot row j)
              (sym (get_or-replicate 32 i failed no_slots (omega (arith, i_in)))) has
          | inr kept ↦
              absurd
              (elim out [
                | inl has ↦ kept has
                | inr harmed ↦
                    good_there j (cell_sector five t i) (within.kept j j_in kept) (omega (arith, t_in, i_in))
                    (ByOutside harmed)
              ])
        ]

    pub stands : IsOnlyIdentity five image
    stands =
        identity are image within.shows
        (record {
          slots = stand;
          formed = stand_formed;
          many = many;
          each = λ j has.
              let it = stand_kept j has in
              record { super = copy_of (editions j) j; counts = device_counts are image j (within.kept j it.0 it.1) };
        })

    whole_journal : (k : ℕ) → gate_sector ≤ k → k < chunks_start five → ¬ IsLost ((image journal).cell k)
    whole_journal k from to = good_there journal k (within.kept journal journal_in journal_kept) (omega (arith, to))

    pub tolerates : IsWithinTolerance offline five image
    tolerates = record {
      identity = stands;
      others = others are image within.shows;
      current = copy_of (editions c) c;
      is_current = is_current;
      few = record { slots = failed; formed = formed; few = few; within = failed_among };
      stripes = λ t t_in. record {
        erased = whole_chunks failed;
        covered = erased_covered;
        has = λ i j i_in j_in out.
            erased_has t i j t_in i_in j_in (elim out [ inl is ↦ inl (failed_among j is) | inr harmed ↦ inr harmed ]);
      };
      journal_slot = journal;
      journal = record {
        serves = record {
          live = live_kept journal journal_in journal_kept;
          places = λ k small. good_there journal k (within.kept journal journal_in journal_kept) (omega (arith, small));
          online = within.online journal journal_in journal_kept;
        };
        whole = whole_journal;
      };
    }

    pub tolerates_counting : IsToleratedCounting failed offline five image
    tolerates_counting = record {
      current = copy_of (editions c) c;
      is_current = is_current;
      has_failed = failed_among;
      erased = λ t. whole_chunks failed;
      covered = λ t t_in. erased_covered;
      has = erased_has;
      journal = journal;
      journal_live = live_kept journal journal_in journal_kept;
      journal_kept = journal_kept;
      whole = whole_journal;
    }
