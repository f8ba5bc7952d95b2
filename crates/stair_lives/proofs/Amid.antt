-- The example while epochs without slot 3 are established: its premise is met as long as the other slots stay as they are then.
use Rattle.std.proofs.Common.{◌≡◌, false, true, ◌≢◌, ◌∙◌, ◌<◌, ◌≤◌, ◌⊎◌, ◌^◌, ℕ, List, None, inl, inr, refl, sym, ap, subst, arith, replicate}
use Rattle.std.proofs.lemmas.Bool.{cases_eq, cases_lt, false≢true}
use Rattle.std.proofs.lemmas.List.{get_or-replicate, get_or_past, length-replicate}
use Rattle.stair_model.specs.CellSet.{HasCell, count_in_row}
use Rattle.stair_model.specs.Coverage.{IsCovered}
use Rattle.stair_model.specs.Device.{cell_sector}
use Rattle.stair_model.specs.Geometry.{Geometry}
use Rattle.stair_model.specs.Slots.{HasSlot, Slots, no_slots, slot_count}
use Rattle.stair_model.proofs.RestLaws.{rows_covered}
use Rattle.stair_model.proofs.SetLaws.{has_slot-none, slot_count_member, slot_count_none}
use Rattle.stair_rack.specs.Crash.{image_now}
use Rattle.stair_rack.specs.History.{Happening, slot_state}
use Rattle.stair_rack.specs.Media.{Image}
use Rattle.stair_rack.specs.Moments.{AtEveryMoment}
use Rattle.stair_rack.specs.Offline.{NoMedium}
use Rattle.stair_rack.specs.Sector.{Cell, Damaged, Good, Torn, TornOverDamage, content}
use Rattle.stair_rack.proofs.CrashLemmas.{CrashMayLeave-now}
use Rattle.stair_rack.proofs.MomentLemmas.{at_moment}
use Rattle.stair_super.specs.Superblock.{IsSuperblock, Superblock, joined_in, mark_in}
use Rattle.stair_super.specs.declared.mark.Mark.TheVariants.{Down, Live}
use Rattle.stair_member.specs.Current.{ByOutside, HasMark, IsCurrent, IsFailed, IsLost, LostPlace, NotLive, Offline, Worn}
use Rattle.stair_member.specs.Editions.{copy_of}
use Rattle.stair_member.specs.Reserve.{Bears, BearsFor, MayStand}
use Rattle.stair_member.specs.Superblocks.{CountsFor, HoldsSuper, Identifies, IsOnlyIdentity, IsSuperOf}
use Rattle.stair_member.proofs.CountingLemmas.{has_or_not, more_mapped}
use Rattle.stair_member.proofs.DecisionLemmas.{super_decided}
use Rattle.stair_member.proofs.EditionLemmas.{holds_copy}
use Rattle.stair_member.proofs.SuperLemmas.{counts_bears, holds_once, super_at}
use Rattle.stair_state.specs.Blocks.{Codewords}
use Rattle.stair_state.specs.Degraded.{AreAllDamaged, AreDamagedCopies}
use Rattle.stair_state.proofs.FormLemmas.{good_kept, good_whole}
use Rattle.stair_invariant.specs.Mixed.{AsAt, Away, IsMixed, IsMixedSlot, IsToleratedMixed, WasDamaged, WasOffline}
use Rattle.stair_reinsert.specs.Misled.{device_cell, five}
use Rattle.stair_reinsert_examples.specs.Refused.{all_live}
use Rattle.stair_reinsert_examples.proofs.FiveDevices.{place_cell, whole_chunks}
use Rattle.stair_reinsert_examples.proofs.FiveSupers.{named_super, past_none}
use Rattle.stair_reinsert_examples.proofs.FiveSurvey.{five_cases}
use Rattle.stair_lives.specs.Example.{Cut, Holds, IsMomentAmid, IsPlaceAmid, IsSlotAmid, left_out, reinserted, without_third}
use Rattle.stair_lives.proofs.LeftOutAgain.{beside, beside_kept, few_third, live_up, many_beside, out_other, stale_super, third}

pub third_alone : (j : ℕ) → HasSlot third j → j ≡ 3
third_alone =
    five_cases (λ j. HasSlot third j → j ≡ 3) (λ has. absurd (false≢true has)) (λ has. absurd (false≢true has)) (λ has. absurd (false≢true has))
    (λ has. refl) (λ has. absurd (false≢true has)) (λ j past has. absurd (false≢true (sym (past_none false false false true false j past) ∙ has)))

torn_not_good : {bytes : List ℕ} {cell : Cell} → cell ≡ Torn → ¬ (cell ≡ Good bytes)
torn_not_good {bytes} torn good = let both : Torn ≡ Good bytes = sym torn ∙ good in absurd (cc)

torn_not_damaged : {cell : Cell} → cell ≡ Torn → ¬ (cell ≡ Damaged)
torn_not_damaged torn harmed = let both : Torn ≡ Damaged = sym torn ∙ harmed in absurd (cc)

-- SUPERBLOCKS

module _ (epoch draw : ℕ) (from : 5 ≤ epoch) (drawn : epoch ≤ draw) (fits : draw < 2 ^ 64) where
  amid_up : (j : ℕ) → j < 5 → mark_in (without_third epoch draw).array j ≢ Down → IsSuperblock (copy_of (without_third epoch draw) j)
  amid_up j below up =
      named_super epoch Live Live Live Down Live 1 1 1 0 1 (omega (arith, from)) (omega arith, omega (arith, from)) (omega arith, omega (arith, from))
      (omega arith, omega (arith, from)) refl (omega arith, omega (arith, from)) draw j fits drawn below up

  pub amid_super : (j : ℕ) → j < 5 → j ≢ 3 → IsSuperblock (copy_of (without_third epoch draw) j)
  amid_super =
      five_cases (λ j. j < 5 → j ≢ 3 → IsSuperblock (copy_of (without_third epoch draw) j)) (λ b other. amid_up 0 b live_up)
      (λ b other. amid_up 1 b live_up) (λ b other. amid_up 2 b live_up) (λ b other. absurd (other refl)) (λ b other. amid_up 4 b live_up)
      (λ j past below other. absurd (omega (arith, past, below)))

-- a superblock of slot j that such an epoch has
record IsCopyAmid (j : ℕ) (s : Superblock) : Type 0 where
  epoch : ℕ
  draw : ℕ
  from : 5 ≤ epoch
  is : s ≡ copy_of (without_third epoch draw) j

held_amid : (j : ℕ) (cell : Cell) (s : Superblock) → j < 5 → j ≢ 3 → IsPlaceAmid j cell → HoldsSuper cell s → IsCopyAmid j s
held_amid j cell s below other (Holds epoch draw from drawn fits is) holds = record {
  epoch = epoch;
  draw = draw;
  from = from;
  is =
      holds_once cell s (copy_of (without_third epoch draw) j) holds
      (holds_copy cell (without_third epoch draw) j (amid_super epoch draw from drawn fits j below other) is);
}
held_amid j cell s below other (Cut torn) holds = absurd (torn_not_good torn holds.good)

live_named : (epoch draw j : ℕ) → j < 5 → j ≢ 3 → mark_in (without_third epoch draw).array j ≡ Live
live_named epoch draw =
    five_cases (λ j. j < 5 → j ≢ 3 → mark_in (without_third epoch draw).array j ≡ Live) (λ b other. refl) (λ b other. refl) (λ b other. refl)
    (λ b other. absurd (other refl)) (λ b other. refl) (λ j past below other. absurd (omega (arith, past, below)))

-- IMAGES

-- the slots of an image
record IsImageAmid (words : Codewords) (image : Image) : Type 0 where
  slots : (j : ℕ) → j < 5 → j ≢ 3 → IsSlotAmid j ((image j).cell)
  online : (j : ℕ) → j < 5 → j ≢ 3 → ¬ ((image j).size ≡ None)
  third_is : AreDamagedCopies (device_cell words left_out 3) ((image 3).cell)
  bare : (j : ℕ) → 5 ≤ j → AreAllDamaged ((image j).cell)

module _ (words : Codewords) (image : Image) (is : IsImageAmid words image) where
  -- what is borne
  record IsBorneAmid (other : Geometry) (j : ℕ) (s : Superblock) : Type 0 where
    same : other ≡ five
    stale : j ≡ 3 → s.array.epoch ≡ 4
    copy : j ≢ 3 → IsCopyAmid j s

  old_is : (k : ℕ) (s : Superblock) → k < 2 → HoldsSuper ((image 3).cell k) s → s ≡ copy_of all_live 3
  old_is k s place holds =
      elim (is.third_is k) [
        | inl same ↦
            holds_once ((image 3).cell k) s (copy_of all_live 3) holds
            (holds_copy ((image 3).cell k) all_live 3 stale_super (same ∙ place_cell words left_out 3 k place))
        | inr harmed ↦ absurd (good_whole holds.good harmed)
      ]

  borne : (other : Geometry) (j : ℕ) (s : Superblock) → Bears other j ((image j).cell) s → IsBorneAmid other j s
  borne other j s bears =
      elim (cases_eq j 3) [
        | inl is_third ↦
            let own : s ≡ copy_of all_live 3 =
            old_is bears.place s bears.place_in (subst (λ (i : ℕ). HoldsSuper ((image i).cell bears.place) s) is_third bears.holds) in
            record {
              same = sym bears.identity ∙ ap (λ (t : Superblock). t.array.geometry) own;
              stale = λ at. ap (λ (t : Superblock). t.array.epoch) own;
              copy = λ not. absurd (not is_third);
            }
        | inr not ↦
            elim (cases_lt j 5) [
              | inl below ↦
                  let own = held_amid j ((image j).cell bears.place) s below not ((is.slots j below not).places bears.place bears.place_in) bears.holds in
                  record {
                    same = sym bears.identity ∙ ap (λ (t : Superblock). t.array.geometry) own.is;
                    stale = λ at. absurd (not at);
                    copy = λ again. own;
                  }
              | inr past ↦ absurd (good_whole bears.holds.good (is.bare j past bears.place))
            ]
      ]

  -- the superblock of a slot but slot 3
  counts : (j : ℕ) → j < 5 → j ≢ 3 → CountsFor five image j
  counts j below not =
      elim (super_decided ((image j).cell)) [
        | inl own ↦ by own.0 own.1
        | inr none ↦ absurd (none (is.slots j below not).one)
      ]
    where
      copied : (s : Superblock) (k : ℕ) → k < 2 → HoldsSuper ((image j).cell k) s → IsCopyAmid j s
      copied s k place holds = held_amid j ((image j).cell k) s below not ((is.slots j below not).places k place) holds

      with_copy : (s : Superblock) → IsSuperOf ((image j).cell) s → IsCopyAmid j s → CountsFor five image j
      with_copy s super own = record {
        super = s;
        counts = record {
          super = super;
          slot = ap (λ (t : Superblock). t.slot) own.is;
          identity = ap (λ (t : Superblock). t.array.geometry) own.is;
        };
      }

      by : (s : Superblock) → IsSuperOf ((image j).cell) s → CountsFor five image j
      by s super =
          elim (super_at super) [
            | inl first ↦ with_copy s super (copied s 0 (omega arith) first)
            | inr second ↦ with_copy s super (copied s 1 (omega arith) second)
          ]

  stands : Identifies five image
  stands = record {
    slots = beside;
    formed = refl;
    many = many_beside;
    each = λ j has. let it = beside_kept j has in counts j it.0 (out_other j it.1);
  }

  others : (other : Geometry) → MayStand other image → other ≡ five
  others other may =
      let some = slot_count_member may.slots (omega (arith, may.many)) in
      let for : BearsFor other image some.0 = may.each some.0 some.2 in
      (borne other some.0 for.super for.bears).same

  identity : IsOnlyIdentity five image
  identity = record {
    stands = stands;
    alone = λ other stands_too.
        others other
        (more_mapped {P = CountsFor other image} {Q = BearsFor other image}
        (λ j for. record { super = for.super; bears = counts_bears other image j for.super for.counts }) stands_too);
  }

  module _ (current : Superblock) (is_current : IsCurrent five image current) where
    -- it is none of slot 3's, whose epoch is the least
    newest_other : current.slot ≢ 3
    newest_other at =
        let old : current.array.epoch ≡ 4 =
        (borne five current.slot current (counts_bears five image current.slot current is_current.counts)).stale at in
        let first = counts 0 (omega arith) (λ same. omega (arith, same)) in
        let own = (borne five 0 first.super (counts_bears five image 0 first.super first.counts)).copy (λ same. omega (arith, same)) in
        let epoch : first.super.array.epoch ≡ own.epoch = ap (λ (t : Superblock). t.array.epoch) own.is in
        elim (is_current.newest 0 first.super first.counts) [
          | inl less ↦ omega (arith, less, old, epoch, own.from)
          | inr both ↦ omega (arith, both.0, old, epoch, own.from)
        ]

    own : IsCopyAmid current.slot current
    own = (borne five current.slot current (counts_bears five image current.slot current is_current.counts)).copy newest_other

    live : (j : ℕ) → j < 5 → j ≢ 3 → HasMark five image current Live j
    live j below not =
        let for = counts j below not in
        let mine = (borne five j for.super (counts_bears five image j for.super for.counts)).copy not in
        record {
          below = below;
          marked = ap (λ (t : Superblock). mark_in t.array j) own.is ∙ live_named own.epoch own.draw j below not;
          super = for.super;
          counts = for.counts;
          joined = ap (λ (t : Superblock). t.joined) mine.is ∙ sym (ap (λ (t : Superblock). joined_in t.array j) own.is);
        }

    place_kept : (j k : ℕ) → k < 2 → IsPlaceAmid j ((image j).cell k) → ¬ IsLost ((image j).cell k)
    place_kept j k place (Holds epoch draw from drawn fits good) = good_kept good
    place_kept j k place (Cut torn) = by torn
      where
        by : (image j).cell k ≡ Torn → ¬ IsLost ((image j).cell k)
        by torn (ByOutside harmed) = torn_not_damaged torn harmed
        by torn (Worn worn) = let both : Torn ≡ TornOverDamage = sym torn ∙ worn in absurd (cc)

    failed_third : (j : ℕ) → IsFailed (λ k. (image k).size ≡ None) five image current j → HasSlot third j
    failed_third j out =
        elim (has_or_not third j) [
          | inl has ↦ has
          | inr kept ↦ absurd (by kept out)
        ]
      where
        by : ¬ HasSlot third j → IsFailed (λ k. (image k).size ≡ None) five image current j → ⊥
        by kept (NotLive below not) = not (live j below (out_other j kept))
        by kept (LostPlace k below small lost) = place_kept j k small ((is.slots j below (out_other j kept)).places k small) lost
        by kept (Offline below off) = is.online j below (out_other j kept) off

-- the chunks of slot 3
third_covered : IsCovered five (whole_chunks third)
third_covered = rows_covered five (whole_chunks third) each_row
  where
    none_few : slot_count no_slots ≤ 2
    none_few = omega (arith, slot_count_none no_slots (λ j small has. false≢true (sym (has_slot-none j) ∙ has)))

    each_row : (i : ℕ) → count_in_row (whole_chunks third) i ≤ 2
    each_row i =
        elim (cases_lt i 32) [
          | inl below ↦ subst (λ (row : Slots). slot_count row ≤ 2) (sym (get_or-replicate 32 i third no_slots below)) few_third
          | inr past ↦
              subst (λ (row : Slots). slot_count row ≤ 2)
              (sym (get_or_past (replicate 32 third) i no_slots (omega (arith, past, length-replicate 32 third)))) none_few
        ]

erased_has : (words : Codewords) (image : Image) → IsImageAmid words image → (t i j : ℕ) → t < 1 → i < 1 → j < 5
    → HasSlot third j ⊎ ((image j).cell (cell_sector five t i) ≡ Damaged) → HasCell (whole_chunks third) i j
erased_has words image is t i j t_in i_in j_in out =
    elim (has_or_not third j) [
      | inl has ↦ subst (λ (row : Slots). HasSlot row j) (sym (get_or-replicate 32 i third no_slots (omega (arith, i_in)))) has
      | inr kept ↦
          absurd
          (elim out [
            | inl has ↦ kept has
            | inr harmed ↦
                (is.slots j j_in (out_other j kept)).whole (cell_sector five t i) (omega (arith, t_in, i_in)) (omega (arith, t_in, i_in))
                (ByOutside harmed)
          ])
    ]

-- MOMENTS

module _ (words : Codewords) (h : List Happening) (each : AtEveryMoment (IsMomentAmid words) (reinserted words) h) where
  abbrev start : List Happening
  start = reinserted words

  never_off : (j : ℕ) → j < 5 → j ≢ 3 → ¬ WasOffline start start h j
  never_off j below not off = (at_moment each off.is_one).online j below not off.holds

  -- a sector below 9 of such a slot was never damaged
  never_damaged : (j k : ℕ) → j < 5 → j ≢ 3 → k < 9 → ¬ WasDamaged start h j k
  never_damaged j k below not small harmed =
      let slot = (at_moment each harmed.is_one).slots j (image_now harmed.moment j) below not (CrashMayLeave-now harmed.moment j) in
      let is : content ((slot_state harmed.moment j).sector k) ≡ Damaged = ap content harmed.holds in
      elim (cases_lt k 2) [
        | inl place ↦ by (slot.places k place) is
        | inr behind ↦ slot.whole k behind small (ByOutside is)
      ]
    where
      by : {cell : Cell} → IsPlaceAmid j cell → cell ≡ Damaged → ⊥
      by (Holds epoch draw from drawn fits good) is = good_whole good is
      by (Cut torn) is = torn_not_damaged torn is

  module _ (to : Image) (mixed : IsMixed start start h to) where
    slot_amid : (j : ℕ) → j < 5 → j ≢ 3 → IsMixedSlot start start h j (to j) → IsSlotAmid j ((to j).cell) × ¬ ((to j).size ≡ None)
    slot_amid j below not (Away off none all) = absurd (never_off j below not off)
    slot_amid j below not (AsAt was at size cells) =
        let moment = at_moment each at.is_one in
        let slot = moment.slots j was below not at.holds in (
          record {
            places = λ k place. subst (IsPlaceAmid j) (sym (same k (omega (arith, place)))) (slot.places k place);
            one = record {
              place = slot.one.place;
              place_in = slot.one.place_in;
              super = slot.one.super;
              holds =
                  subst (λ (c : Cell). HoldsSuper c slot.one.super) (sym (same slot.one.place (omega (arith, slot.one.place_in))))
                  slot.one.holds;
            };
            whole = λ k from small. subst (λ (c : Cell). ¬ IsLost c) (sym (same k small)) (slot.whole k from small);
          },
          λ none. moment.online j below not (NoMedium (sym at.holds.size ∙ sym size ∙ none)),
        )
      where
        same : (k : ℕ) → k < 9 → (to j).cell k ≡ was.cell k
        same k small =
            elim (cells k) [
              | inl is ↦ is
              | inr harmed ↦
                  elim (harmed.1) [
                    | inl once ↦ absurd (never_damaged j k below not small once)
                    | inr off ↦ absurd (never_off j below not off)
                  ]
            ]

    third_amid : IsMixedSlot start start h 3 (to 3) → AreDamagedCopies (device_cell words left_out 3) ((to 3).cell)
    third_amid (Away off none all) k = inr (all k)
    third_amid (AsAt was at size cells) k =
        elim (cells k) [
          | inl is ↦
              elim ((at_moment each at.is_one).third was at.holds k) [
                | inl same ↦ inl (is ∙ same)
                | inr harmed ↦ inr (is ∙ harmed)
              ]
          | inr harmed ↦ inr harmed.0
        ]

    bare_amid : (j : ℕ) → 5 ≤ j → IsMixedSlot start start h j (to j) → AreAllDamaged ((to j).cell)
    bare_amid j past (Away off none all) k = all k
    bare_amid j past (AsAt was at size cells) k =
        elim (cells k) [
          | inl is ↦ is ∙ (at_moment each at.is_one).bare j was past at.holds k
          | inr harmed ↦ harmed.0
        ]

    image_amid : IsImageAmid words to
    image_amid = record {
      slots = λ j below not. (slot_amid j below not (mixed j)).0;
      online = λ j below not. (slot_amid j below not (mixed j)).1;
      third_is = third_amid (mixed 3);
      bare = λ j past. bare_amid j past (mixed j);
    }

  pub mixed_amid : IsToleratedMixed five start start h
  mixed_amid = record {
    identity = λ to mixed. identity words to (image_amid to mixed);
    others = λ to other mixed may. others words to (image_amid to mixed) other may;
    failed = third;
    formed = refl;
    few = few_third;
    within = λ to current j mixed is_current out. failed_third words to (image_amid to mixed) current is_current j out;
    erased = λ t. whole_chunks third;
    covered = λ t t_in. third_covered;
    has = λ to t i j mixed t_in i_in j_in out. erased_has words to (image_amid to mixed) t i j t_in i_in j_in out;
    journal = 0;
    journal_in = omega arith;
    journal_kept = λ has. false≢true has;
    whole = λ to k mixed from below.
        ((image_amid to mixed).slots 0 (omega arith) (λ same. omega (arith, same))).whole k from (omega (arith, below));
  }
