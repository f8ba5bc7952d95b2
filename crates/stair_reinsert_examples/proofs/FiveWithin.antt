-- A rack of five devices of one epoch, some of whose slots are empty, is within tolerance alone, whatever lies outside.
use Rattle.std.proofs.Common.{◌≡◌, ℕ, ◌<◌, ◌≤◌, ◌⊎◌, inl, inr, refl, sym, ap, ◌∙◌, subst, arith, replicate, None}
use Rattle.std.proofs.lemmas.Bool.{cases_lt, false≢true}
use Rattle.std.proofs.lemmas.List.{get_or-replicate, get_or_past, length-replicate}
use Rattle.stair_model.specs.CellSet.{HasCell, count_in_row}
use Rattle.stair_model.specs.Coverage.{IsCovered}
use Rattle.stair_model.specs.Device.{cell_sector}
use Rattle.stair_model.specs.Geometry.{Geometry}
use Rattle.stair_model.specs.Slots.{HasSlot, IsSlotSet, Slots, no_slots, slot_count}
use Rattle.stair_model.proofs.RestLaws.{rows_covered}
use Rattle.stair_model.proofs.SetLaws.{has_slot-none, slot_count_member, slot_count_none}
use Rattle.stair_rack.specs.Media.{Image}
use Rattle.stair_rack.specs.Sector.{Damaged, Good}
use Rattle.stair_super.specs.Newer.{IsOlder}
use Rattle.stair_super.specs.Spelling.{spelled}
use Rattle.stair_super.specs.Superblock.{IsSuperblock, Superblock, mark_in}
use Rattle.stair_super.specs.declared.mark.Mark.TheVariants.{Live}
use Rattle.stair_member.specs.Current.{ByOutside, HasMark, IsCurrent, IsFailed, IsLost, LostPlace, NotLive, Offline}
use Rattle.stair_member.specs.Editions.{Edition, copy_of}
use Rattle.stair_member.specs.Reserve.{Bears, BearsFor, MayStand}
use Rattle.stair_member.specs.Superblocks.{Counts, CountsFor, First, HoldsSuper, IsOnlyIdentity}
use Rattle.stair_member.proofs.CountingLemmas.{has_or_not, more_mapped}
use Rattle.stair_member.proofs.EditionLemmas.{holds_copy}
use Rattle.stair_member.proofs.SuperLemmas.{counts_bears, holds_once}
use Rattle.stair_state.specs.Degraded.{AreAllDamaged}
use Rattle.stair_state.specs.Tolerance.{IsToleratedAlone}
use Rattle.stair_state.proofs.FormLemmas.{good_whole}
use Rattle.stair_reinsert.specs.Misled.{five}
use Rattle.stair_reinsert_examples.proofs.FiveDevices.{older_none, whole_chunks}

module _ (image : Image) (e : Edition) (failed : Slots) where
  -- slot j holds a whole device, which is live
  pub record IsWhole (j : ℕ) : Type 0 where
    pub formed : IsSuperblock (copy_of e j)
    pub places : (k : ℕ) → k < 2 → (image j).cell k ≡ Good (spelled (copy_of e j))
    pub good : (k : ℕ) → k < 9 → ¬ IsLost ((image j).cell k)
    pub online : ¬ ((image j).size ≡ None)
    pub live : mark_in e.array j ≡ Live

  -- all do but these, which hold nothing; slot c is the first of them
  pub record IsAllBut (c : ℕ) : Type 0 where
    pub holds : (j : ℕ) → j < 5 → ¬ HasSlot failed j → IsWhole j
    pub bare : (j : ℕ) → (5 ≤ j) ⊎ HasSlot failed j → AreAllDamaged (image j).cell
    pub of_five : e.array.geometry ≡ five
    pub first_in : c < 5
    pub first_kept : ¬ HasSlot failed c
    pub first : (j : ℕ) → j < 5 → ¬ HasSlot failed j → c ≤ j

  module _ (c : ℕ) (is : IsAllBut c) (formed : IsSlotSet failed) (few : slot_count failed ≤ 2) (stand : Slots) (stand_formed : IsSlotSet stand)
      (many : 2 < slot_count stand) (stand_kept : (j : ℕ) → HasSlot stand j → (j < 5) × ¬ HasSlot failed j) where
    abbrev offline : ℕ → Type 0
    offline j = (image j).size ≡ None

    abbrev super : ℕ → Superblock
    super j = copy_of e j

    -- SUPERBLOCKS

    place_holds : (j k : ℕ) → IsWhole j → k < 2 → HoldsSuper ((image j).cell k) (super j)
    place_holds j k whole place = holds_copy ((image j).cell k) e j whole.formed (whole.places k place)

    counts : (j : ℕ) → IsWhole j → Counts five image j (super j)
    counts j whole = record {
      super =
          First (place_holds j 0 whole (omega arith))
          (λ other there older.
          older_none (super j)
          (subst (IsOlder (super j)) (holds_once ((image j).cell 1) other (super j) there (place_holds j 1 whole (omega arith))) older));
      slot = refl;
      identity = is.of_five;
    }

    record IsItsOwn (other : Geometry) (j : ℕ) (s : Superblock) : Type 0 where
      below : j < 5
      kept : ¬ HasSlot failed j
      is_super : s ≡ super j
      same : other ≡ five

    borne_own : (other : Geometry) (j : ℕ) (s : Superblock) → Bears other j ((image j).cell) s → IsItsOwn other j s
    borne_own other j s bears =
        elim (cases_lt j 5) [
          | inl below ↦
              elim (has_or_not failed j) [
                | inl has ↦ absurd (good_whole bears.holds.good (is.bare j (inr has) bears.place))
                | inr kept ↦ by below kept
              ]
          | inr past ↦ absurd (good_whole bears.holds.good (is.bare j (inl past) bears.place))
        ]
      where
        by : j < 5 → ¬ HasSlot failed j → IsItsOwn other j s
        by below kept =
            let own : s ≡ super j =
            holds_once ((image j).cell bears.place) s (super j) bears.holds (place_holds j bears.place (is.holds j below kept) bears.place_in) in
            record {
              below = below;
              kept = kept;
              is_super = own;
              same = sym bears.identity ∙ ap (λ (t : Superblock). t.array.geometry) own ∙ is.of_five;
            }

    others : (other : Geometry) → MayStand other image → other ≡ five
    others other may =
        let some = slot_count_member may.slots (omega (arith, may.many)) in
        let for : BearsFor other image some.0 = may.each some.0 some.2 in
        (borne_own other some.0 for.super for.bears).same

    identity : IsOnlyIdentity five image
    identity = record {
      stands = record {
        slots = stand;
        formed = stand_formed;
        many = many;
        each = λ j has. let it = stand_kept j has in record { super = super j; counts = counts j (is.holds j it.0 it.1) };
      };
      alone = λ other stands_too.
          others other
          (more_mapped {P = CountsFor other image} {Q = BearsFor other image}
          (λ j for. record { super = for.super; bears = counts_bears other image j for.super for.counts }) stands_too);
    }

    current : IsCurrent five image (super c)
    current = record {
      counts = counts c (is.holds c is.first_in is.first_kept);
      newest = λ j s there.
          let own = borne_own five j s (counts_bears five image j s there) in
          inr (ap (λ (t : Superblock). t.array.epoch) own.is_super, is.first j own.below own.kept);
    }

    -- WHAT HAS FAILED

    live_kept : (j : ℕ) → j < 5 → ¬ HasSlot failed j → HasMark five image (super c) Live j
    live_kept j below kept =
        let whole = is.holds j below kept in
        record { below = below; marked = whole.live; super = super j; counts = counts j whole; joined = refl }

    failed_among : (j : ℕ) → IsFailed offline five image (super c) j → HasSlot failed j
    failed_among j out =
        elim (has_or_not failed j) [
          | inl has ↦ has
          | inr kept ↦ absurd (by kept out)
        ]
      where
        by : ¬ HasSlot failed j → IsFailed offline five image (super c) j → ⊥
        by kept (NotLive below not) = not (live_kept j below kept)
        by kept (LostPlace k below small lost) = (is.holds j below kept).good k (omega (arith, small)) lost
        by kept (Offline below off) = (is.holds j below kept).online off

    erased_covered : IsCovered five (whole_chunks failed)
    erased_covered = rows_covered five (whole_chunks failed) each_row
      where
        none_few : slot_count no_slots ≤ 2
        none_few = omega (arith, slot_count_none no_slots (λ j small has. false≢true (sym (has_slot-none j) ∙ has)))

        each_row : (i : ℕ) → count_in_row (whole_chunks failed) i ≤ 2
        each_row i =
            elim (cases_lt i 32) [
              | inl below ↦ subst (λ (row : Slots). slot_count row ≤ 2) (sym (get_or-replicate 32 i failed no_slots below)) few
              | inr past ↦
                  subst (λ (row : Slots). slot_count row ≤ 2)
                  (sym (get_or_past (replicate 32 failed) i no_slots (omega (arith, past, length-replicate 32 failed)))) none_few
            ]

    erased_has : (t i j : ℕ) → t < 1 → i < 1 → j < 5 → HasSlot failed j ⊎ ((image j).cell (cell_sector five t i) ≡ Damaged)
        → HasCell (whole_chunks failed) i j
    erased_has t i j t_in i_in j_in out =
        elim (has_or_not failed j) [
          | inl has ↦ subst (λ (row : Slots). HasSlot row j) (sym (get_or-replicate 32 i failed no_slots (omega (arith, i_in)))) has
          | inr kept ↦
              absurd
              (elim out [
                | inl has ↦ kept has
                | inr harmed ↦ (is.holds j j_in kept).good (cell_sector five t i) (omega (arith, t_in, i_in)) (ByOutside harmed)
              ])
        ]

    pub tolerated : IsToleratedAlone five image
    tolerated =
        let whole = is.holds c is.first_in is.first_kept in
        record {
          identity = identity;
          others = others;
          current = super c;
          is_current = current;
          few = record { slots = failed; formed = formed; few = few; within = failed_among };
          stripes = λ t t_in. record {
            erased = whole_chunks failed;
            covered = erased_covered;
            has = λ i j i_in j_in out.
                erased_has t i j t_in i_in j_in (elim out [ inl harmed ↦ inl (failed_among j harmed) | inr harmed ↦ inr harmed ]);
          };
          journal_slot = c;
          journal = record {
            serves = record {
              live = live_kept c is.first_in is.first_kept;
              places = λ k small. whole.good k (omega (arith, small));
              online = whole.online;
            };
            whole = λ k from to. whole.good k (omega (arith, to));
          };
        }
