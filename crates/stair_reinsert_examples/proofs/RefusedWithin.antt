-- The racks that wrong bodies leave are within tolerance.
use Rattle.std.proofs.Common.{◌≡◌, ◌≢◌, ℕ, ◌-◌, ◌<◌, ◌≤◌, List, [], ◌∷◌, inl, inr, refl, sym, ap, ◌∙◌, subst, arith, true, false, replicate}
use Rattle.std.proofs.lemmas.Bool.{cases_eq, cases_lt, cond-true, cond-false, false≢true, lt-ltb, le-ltb, ne_eqb}
use Rattle.stair_model.specs.Slots.{HasSlot, IsSlotSet, Slots, no_slots, slot_count}
use Rattle.stair_model.specs.Stripe.{cell}
use Rattle.stair_model.specs.Sum.{sum_below}
use Rattle.stair_model.proofs.SetLaws.{has_slot-none, slot_count_none}
use Rattle.stair_rack.specs.Media.{Image, Medium, SlotImage}
use Rattle.stair_rack.specs.Sector.{Good}
use Rattle.stair_super.specs.Spelling.{spelled}
use Rattle.stair_super.specs.Superblock.{IsSuperblock, mark_in}
use Rattle.stair_super.specs.declared.mark.Mark.TheVariants.{Down, Live}
use Rattle.stair_member.specs.Editions.{Edition, copy_of}
use Rattle.stair_journal.specs.Gate.{closed_gate}
use Rattle.stair_state.specs.Blocks.{Codewords}
use Rattle.stair_state.specs.Tolerance.{IsToleratedAlone}
use Rattle.stair_state.proofs.FormLemmas.{good_kept}
use Rattle.stair_reinsert.specs.Misled.{device_of, five}
use Rattle.stair_reinsert_examples.specs.Refused.{all_live, first_pulled, misjoined, put_back, replaced, slot_with, undrawn, writing, writing_cell}
use Rattle.stair_reinsert_examples.proofs.AllowedEpochs.{few_first, first_formed, has_first, only_first}
use Rattle.stair_reinsert_examples.proofs.FiveConsistent.{inside}
use Rattle.stair_reinsert_examples.proofs.FiveDevices.{good_cell, place_cell}
use Rattle.stair_reinsert_examples.proofs.FiveSupers.{named_super, past_none}
use Rattle.stair_reinsert_examples.proofs.FiveSurvey.{five_cases}
use Rattle.stair_reinsert_examples.proofs.FiveWithin.{IsWhole, tolerated}
use Rattle.stair_reinsert_examples.proofs.RefusedLemmas.{none_some}
use Rattle.stair_reinsert_examples.proofs.RefusedWrite.{all_formed}

up : Live ≢ Down
up same = cc

-- every cell of a device's sectors holds bytes, those of its superblock places its superblock
pub record IsWholeMedium (m : Medium) (e : Edition) (j : ℕ) : Type 0 where
  pub formed : IsSuperblock (copy_of e j)
  pub places : (k : ℕ) → k < 2 → m.cell k ≡ Good (spelled (copy_of e j))
  pub good : (k : ℕ) → k < 9 → (bytes : List ℕ) × (m.cell k ≡ Good bytes)
  pub live : mark_in e.array j ≡ Live

whole_in : (image : Image) (e : Edition) (failed : Slots) (j : ℕ) (m : Medium) (outside : List Medium) → image j ≡ slot_with m outside
    → IsWholeMedium m e j → IsWhole image e failed j
whole_in image e failed j m outside same is = record {
  formed = is.formed;
  places = λ k place. ap (λ (slot : SlotImage). slot.cell k) same ∙ is.places k place;
  good = λ k small. let it = is.good k small in good_kept (ap (λ (slot : SlotImage). slot.cell k) same ∙ it.1);
  online = λ none. none_some {x = m.size} (sym none ∙ ap (λ (slot : SlotImage). slot.size) same);
  live = is.live;
}

-- SLOT 0 IS EMPTY

abbrev others_stand : Slots
others_stand = record { marks = false ∷ true ∷ true ∷ true ∷ true ∷ replicate 27 false }

others_formed : IsSlotSet others_stand
others_formed = refl

others_many : 2 < slot_count others_stand
unfolding sum_below
others_many = let four : slot_count others_stand ≡ 4 = refl in omega (arith, four)

none_else : (j : ℕ) → 1 ≤ j → ¬ HasSlot only_first j
none_else =
    five_cases (λ j. 1 ≤ j → ¬ HasSlot only_first j) (λ above has. absurd (omega (arith, above))) (λ above has. false≢true has)
    (λ above has. false≢true has) (λ above has. false≢true has) (λ above has. false≢true has)
    (λ j past above has. false≢true (sym (past_none true false false false false j past) ∙ has))

others_kept : (j : ℕ) → HasSlot others_stand j → (j < 5) × ¬ HasSlot only_first j
others_kept =
    five_cases (λ j. HasSlot others_stand j → (j < 5) × ¬ HasSlot only_first j) (λ has. absurd (false≢true has))
    (λ has. (omega arith, none_else 1 (omega arith))) (λ has. (omega arith, none_else 2 (omega arith)))
    (λ has. (omega arith, none_else 3 (omega arith))) (λ has. (omega arith, none_else 4 (omega arith)))
    (λ j past has. absurd (false≢true (sym (past_none false true true true true j past) ∙ has)))

pub first_within : (devices : ℕ → Medium) (e : Edition) → e.array.geometry ≡ five
    → ((j : ℕ) → 1 ≤ j → j < 5 → IsWholeMedium (devices j) e j) → IsToleratedAlone five (first_pulled devices)
first_within devices e geometry each =
    tolerated (first_pulled devices) e only_first 1
    (record {
      holds = λ j below kept.
          let above = not_first j kept in
          whole_in (first_pulled devices) e only_first j (devices j) []
          (cond-false _ _ _ (le-ltb j 1 above) ∙ cond-true _ _ _ (lt-ltb j 5 below)) (each j above below);
      bare = λ j out.
          elim (cases_lt j 1) [
            | inl first ↦ λ k. ap (λ (slot : SlotImage). slot.cell k) (cond-true _ _ _ (lt-ltb j 1 first))
            | inr above ↦
                elim out [
                  | inl past ↦ λ k.
                      ap (λ (slot : SlotImage). slot.cell k) (cond-false _ _ _ (le-ltb j 1 above) ∙ cond-false _ _ _ (le-ltb j 5 past))
                  | inr has ↦ absurd (none_else j above has)
                ]
          ];
      of_five = geometry;
      first_in = omega arith;
      first_kept = none_else 1 (omega arith);
      first = λ j below kept. not_first j kept;
    })
    first_formed few_first others_stand others_formed others_many others_kept
  where
    not_first : (j : ℕ) → ¬ HasSlot only_first j → 1 ≤ j
    not_first j kept =
        elim (cases_lt j 1) [
          | inl first ↦ let zero : 0 ≡ j = omega (arith, first) in absurd (kept (subst (HasSlot only_first) zero has_first))
          | inr above ↦ above
        ]

-- WITHOUT A DRAW

undrawn_super : (j : ℕ) → j < 5 → mark_in (undrawn 1).array j ≢ Down → IsSuperblock (copy_of (undrawn 1) j)
undrawn_super j below live =
    named_super 5 Down Live Live Live Live 0 1 1 1 1 (omega arith) refl (omega arith, omega arith) (omega arith, omega arith)
    (omega arith, omega arith) (omega arith, omega arith) 5 j (omega arith) (omega arith) below live

module _ (words : Codewords) where
  undrawn_whole : (j : ℕ) → 1 ≤ j → j < 5 → mark_in (undrawn 1).array j ≡ Live → IsWholeMedium (device_of words undrawn j) (undrawn 1) j
  undrawn_whole j above below live = record {
    formed = undrawn_super j below (λ down. up (sym live ∙ down));
    places = λ k place.
        place_cell words undrawn j k place
        ∙ ap (λ (x : Edition). Good (spelled (copy_of x j))) (cond-false _ _ _ (le-ltb j 1 above));
    good = good_cell words undrawn j;
    live = live;
  }

  pub undrawn_within : IsToleratedAlone five (first_pulled (device_of words undrawn))
  undrawn_within =
      first_within (device_of words undrawn) (undrawn 1) refl
      (five_cases (λ j. 1 ≤ j → j < 5 → IsWholeMedium (device_of words undrawn j) (undrawn 1) j) (λ a b. absurd (omega (arith, a)))
      (λ a b. undrawn_whole 1 a b refl) (λ a b. undrawn_whole 2 a b refl) (λ a b. undrawn_whole 3 a b refl) (λ a b. undrawn_whole 4 a b refl)
      (λ j past a b. absurd (omega (arith, past, b))))

-- IN THE MIDST OF A WRITE

module _ (old new : Codewords) where
  writing_good : (j k : ℕ) → k < 9 → (bytes : List ℕ) × (writing_cell old new all_live closed_gate j k ≡ Good bytes)
  writing_good j k small =
      elim (cases_lt k 2) [
        | inl place ↦ (spelled (copy_of all_live j), cond-true _ _ _ (lt-ltb k 9 small) ∙ cond-true _ _ _ (lt-ltb k 2 place))
        | inr behind ↦
            elim (cases_eq k 2) [
              | inl same ↦ (closed_gate, ap (writing_cell old new all_live closed_gate j) same)
              | inr other ↦
                  elim (cases_lt k 8) [
                    | inl body ↦ (
                      cell (new 0) 0 (k - 3),
                      cond-true _ _ _ (lt-ltb k 9 small) ∙ cond-false _ _ _ (le-ltb k 2 behind) ∙ cond-false _ _ _ (ne_eqb k 2 other)
                          ∙ cond-true _ _ _ (lt-ltb k 8 body),
                    )
                    | inr past ↦ (
                      cell (old 0) 0 j,
                      cond-true _ _ _ (lt-ltb k 9 small) ∙ cond-false _ _ _ (le-ltb k 2 behind) ∙ cond-false _ _ _ (ne_eqb k 2 other)
                          ∙ cond-false _ _ _ (le-ltb k 8 past),
                    )
                  ]
            ]
      ]

  writing_whole : (j : ℕ) → 1 ≤ j → j < 5 → mark_in all_live.array j ≡ Live → IsWholeMedium (writing old new all_live j) all_live j
  writing_whole j above below live =
      subst (λ (m : Medium). IsWholeMedium m all_live j) (sym (cond-false _ _ _ (le-ltb j 1 above)))
      (record {
        formed = all_formed j below;
        places = λ k place. cond-true _ _ _ (lt-ltb k 9 (omega (arith, place))) ∙ cond-true _ _ _ (lt-ltb k 2 place);
        good = writing_good j;
        live = live;
      })

  pub writing_within : IsToleratedAlone five (first_pulled (writing old new all_live))
  writing_within =
      first_within (writing old new all_live) all_live refl
      (five_cases (λ j. 1 ≤ j → j < 5 → IsWholeMedium (writing old new all_live j) all_live j) (λ a b. absurd (omega (arith, a)))
      (λ a b. writing_whole 1 a b refl) (λ a b. writing_whole 2 a b refl) (λ a b. writing_whole 3 a b refl) (λ a b. writing_whole 4 a b refl)
      (λ j past a b. absurd (omega (arith, past, b))))

-- ALL SLOTS HOLD A DEVICE

abbrev all_stand : Slots
all_stand = record { marks = true ∷ true ∷ true ∷ true ∷ true ∷ replicate 27 false }

all_set : IsSlotSet all_stand
all_set = refl

all_many : 2 < slot_count all_stand
unfolding sum_below
all_many = let number : slot_count all_stand ≡ 5 = refl in omega (arith, number)

none_out : (j : ℕ) → ¬ HasSlot no_slots j
none_out j has = false≢true (sym (has_slot-none j) ∙ has)

all_kept : (j : ℕ) → HasSlot all_stand j → (j < 5) × ¬ HasSlot no_slots j
all_kept j has =
    elim (cases_lt j 5) [
      | inl below ↦ (below, none_out j)
      | inr past ↦ absurd (false≢true (sym (past_none true true true true true j past) ∙ has))
    ]

misjoined_super : (j : ℕ) → j < 5 → mark_in (misjoined 0).array j ≢ Down → IsSuperblock (copy_of (misjoined 0) j)
misjoined_super j below live =
    named_super 8 Live Live Live Live Live 1 1 1 6 1 (omega arith) (omega arith, omega arith) (omega arith, omega arith) (omega arith, omega arith)
    (omega arith, omega arith) (omega arith, omega arith) 8 j (omega arith) (omega arith) below live

module _ (before now : Codewords) where
  misjoined_whole : (words : Codewords) (j : ℕ) → j < 5 → mark_in (misjoined 0).array j ≡ Live → IsWholeMedium (device_of words misjoined j) (misjoined 0) j
  misjoined_whole words j below live = record {
    formed = misjoined_super j below (λ down. up (sym live ∙ down));
    places = place_cell words misjoined j;
    good = good_cell words misjoined j;
    live = live;
  }

  all_marked : (j : ℕ) → j < 5 → mark_in (misjoined 0).array j ≡ Live
  all_marked =
      five_cases (λ j. j < 5 → mark_in (misjoined 0).array j ≡ Live) (λ b. refl) (λ b. refl) (λ b. refl) (λ b. refl) (λ b. refl)
      (λ j past below. absurd (omega (arith, past, below)))

  misjoined_there : (j : ℕ) → j < 5 → IsWhole (put_back before now misjoined) (misjoined 0) no_slots j
  misjoined_there j below =
      elim (cases_eq j 3) [
        | inl same ↦
            subst (IsWhole (put_back before now misjoined) (misjoined 0) no_slots) (sym same)
            (whole_in (put_back before now misjoined) (misjoined 0) no_slots 3 (device_of before misjoined 3) (device_of now (λ k. replaced) 3 ∷ []) refl
            (misjoined_whole before 3 (omega arith) refl))
        | inr other ↦
            whole_in (put_back before now misjoined) (misjoined 0) no_slots j (device_of now misjoined j) []
            (cond-false _ _ _ (ne_eqb j 3 other) ∙ inside now misjoined j below) (misjoined_whole now j below (all_marked j below))
      ]

  pub misjoined_within : IsToleratedAlone five (put_back before now misjoined)
  misjoined_within =
      tolerated (put_back before now misjoined) (misjoined 0) no_slots 0
      (record {
        holds = λ j below kept. misjoined_there j below;
        bare = λ j out k.
            elim out [
              | inl past ↦
                  ap (λ (slot : SlotImage). slot.cell k)
                  (cond-false _ _ _ (ne_eqb j 3 (λ same. omega (arith, same, past))) ∙ cond-false _ _ _ (le-ltb j 5 past))
              | inr has ↦ absurd (none_out j has)
            ];
        of_five = refl;
        first_in = omega arith;
        first_kept = none_out 0;
        first = λ j below kept. omega arith;
      })
      refl (omega (arith, slot_count_none no_slots (λ j small. none_out j))) all_stand all_set all_many all_kept
