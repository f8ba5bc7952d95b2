-- The new rack of five devices is a new array, and within tolerance.
use Rattle.std.proofs.Common.{◌≡◌, ℕ, ◌<◌, ◌∷◌, inl, inr, refl, sym, ap, ◌∙◌, subst, arith, true, false, replicate}
use Rattle.std.proofs.lemmas.Bool.{cases_eq, cases_lt, cond-false, cond-true, false≢true, le-ltb, lt-ltb, ne_eqb}
use Rattle.stair_model.specs.Slots.{HasSlot, Slots, slot_count}
use Rattle.stair_model.specs.Stripe.{cell}
use Rattle.stair_model.specs.Sum.{sum_below}
use Rattle.stair_rack.specs.Media.{SlotImage, has_sector}
use Rattle.stair_rack.specs.Sector.{Good}
use Rattle.stair_super.specs.Spelling.{spelled}
use Rattle.stair_super.specs.Superblock.{IsSuperblock, Superblock, joined_in, mark_in}
use Rattle.stair_super.specs.declared.mark.Mark.TheVariants.{Live}
use Rattle.stair_member.specs.Editions.{copy_of}
use Rattle.stair_state.specs.Blocks.{zero_block}
use Rattle.stair_state.specs.Represents.{Represents}
use Rattle.stair_state.specs.State.{created_state}
use Rattle.stair_state.specs.Tolerance.{IsTolerated}
use Rattle.stair_state.proofs.AloneLemmas.{each_left, steady_made}
use Rattle.stair_array.specs.Created.{IsNewArray, Kept, created_sector, first_super}
use Rattle.stair_array.proofs.CreatedLemmas.{created_behind, created_place, first_is_super, mark_first}
use Rattle.stair_array.proofs.NewArrayLemmas.{new_represents}
use Rattle.stair_reinsert.specs.Misled.{device_cell, five}
use Rattle.stair_reinsert_examples.proofs.AllowedEpochs.{few_first, first_formed, only_first}
use Rattle.stair_reinsert_examples.proofs.FiveConsistent.{inside, made_tidy}
use Rattle.stair_reinsert_examples.proofs.FiveCounted.{Stands, tolerated}
use Rattle.stair_reinsert_examples.proofs.FiveDevices.{AreEditions, five_limits, place_cell}
use Rattle.stair_reinsert_examples.proofs.FiveMoments.{goes_made, made_holds}
use Rattle.stair_reinsert_examples.proofs.FiveSupers.{past_none}
use Rattle.stair_reinsert_examples.proofs.FiveSurvey.{five_cases}
use Rattle.stair_examples.specs.Arrays.{first_edition, made_new, new_rack, zero_words}

-- SUPERBLOCKS

pub copies_first : (j : ℕ) → j < 5 → copy_of (first_edition j) j ≡ first_super five j
copies_first =
    five_cases (λ j. j < 5 → copy_of (first_edition j) j ≡ first_super five j) (λ b. refl) (λ b. refl) (λ b. refl) (λ b. refl) (λ b. refl)
    (λ j past b. absurd (omega (arith, past, b)))

pub are : AreEditions zero_words first_edition
are = record {
  formed = λ j below. subst IsSuperblock (sym (copies_first j below)) (first_is_super five j five_limits refl below);
  of_five = λ j below. refl;
}

-- DEVICES

zero_chunk : (j : ℕ) → j < 5 → cell (zero_words 0) 0 j ≡ zero_block
zero_chunk =
    five_cases (λ j. j < 5 → cell (zero_words 0) 0 j ≡ zero_block) (λ b. refl) (λ b. refl) (λ b. refl) (λ b. refl) (λ b. refl)
    (λ j past b. absurd (omega (arith, past, b)))

created : (j k : ℕ) → j < 5 → k < 9 → device_cell zero_words first_edition j k ≡ Good (created_sector five j k)
created j k below small =
    elim (cases_lt k 2) [
      | inl place ↦
          place_cell zero_words first_edition j k place
          ∙ ap (λ (s : Superblock). Good (spelled s)) (copies_first j below)
          ∙ ap Good (sym (created_place five j k place))
      | inr behind ↦
          elim (cases_eq k 2) [
            | inl same ↦
                subst (λ (i : ℕ). device_cell zero_words first_edition j i ≡ Good (created_sector five j i)) (sym same) refl
            | inr other ↦
                cond-true _ _ _ (lt-ltb k 9 small) ∙ cond-false _ _ _ (le-ltb k 2 behind) ∙ cond-false _ _ _ (ne_eqb k 2 other)
                ∙ ap Good (zero_chunk j below ∙ sym (created_behind five j k (omega (arith, behind, other))))
          ]
    ]

pub is_new : IsNewArray five new_rack
is_new j below =
    Kept
    (record {
      full = λ k small. ap (λ (slot : SlotImage). has_sector slot.size k) (inside zero_words first_edition j below) ∙ lt-ltb k 9 small;
      sectors = λ k small. inl (ap (λ (slot : SlotImage). slot.cell k) (inside zero_words first_edition j below) ∙ created j k below small);
    })

-- TOLERANCE

-- all but slot 0
abbrev pub beside_first : Slots
beside_first = record { marks = false ∷ true ∷ true ∷ true ∷ true ∷ replicate 27 false }

pub many_beside : 2 < slot_count beside_first
unfolding sum_below
many_beside = let four : slot_count beside_first ≡ 4 = refl in omega (arith, four)

pub beside_kept : (j : ℕ) → HasSlot beside_first j → (j < 5) × ¬ HasSlot only_first j
beside_kept =
    five_cases (λ j. HasSlot beside_first j → (j < 5) × ¬ HasSlot only_first j) (λ has. absurd (false≢true has)) (λ has. (omega arith, λ out. false≢true out))
    (λ has. (omega arith, λ out. false≢true out)) (λ has. (omega arith, λ out. false≢true out)) (λ has. (omega arith, λ out. false≢true out))
    (λ j past has. absurd (false≢true (sym (past_none false true true true true j past) ∙ has)))

pub live_all : (c j : ℕ) → j < 5 → ¬ HasSlot only_first j
    → (mark_in (first_edition c).array j ≡ Live) × (joined_in (first_edition j).array j ≡ joined_in (first_edition c).array j)
live_all c j below kept = (mark_first five j below, refl)

pub stood : Stands zero_words first_edition only_first made_new
stood = record {
  goes = goes_made zero_words first_edition only_first;
  current = 0;
  now = record { first = made_holds zero_words first_edition 0 (omega arith); newest = λ j is. inr (refl, omega arith) };
  live = live_all 0;
}

pub new_tolerated : IsTolerated five made_new made_new
new_tolerated =
    tolerated zero_words first_edition only_first are first_formed few_first beside_first refl many_beside beside_kept 1 (omega arith)
    (λ out. false≢true out) made_new stood

pub represents : Represents (created_state five) made_new
represents =
    new_represents five made_new made_new five_limits refl
    (each_left new_rack (made_tidy zero_words first_edition) (IsNewArray five) is_new)
    (steady_made five new_rack) new_tolerated
