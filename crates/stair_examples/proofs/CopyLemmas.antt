-- A device that was restored from a backup is an older copy, and its rack is an array still.
use Rattle.std.proofs.Common.{◌≡◌, ◌≢◌, ℕ, ◌<◌, ◌≤◌, List, [], ◌∷◌, inl, inr, refl, sym, ap, ◌∙◌, arith, Some, false, true, replicate}
use Rattle.std.proofs.lemmas.Bool.{cases_eq, cond-false, false≢true, ne_eqb}
use Rattle.stair_model.specs.Slots.{HasSlot, Slots, slot_count}
use Rattle.stair_model.specs.Sum.{sum_below}
use Rattle.stair_super.specs.Spelling.{spelled}
use Rattle.stair_super.specs.Superblock.{IsSuperblock, Superblock, joined_in, mark_in}
use Rattle.stair_super.specs.declared.configuration.Configuration.{Configuration}
use Rattle.stair_super.specs.declared.mark.Mark.TheVariants.{Down, Live}
use Rattle.stair_member.specs.Editions.{Edition, copy_of}
use Rattle.stair_member.proofs.SuperLemmas.{one_super}
use Rattle.stair_copies.specs.Copies.{IsOlderCopy}
use Rattle.stair_state.specs.Holding.{CurrentMedia}
use Rattle.stair_array.proofs.CreatedLemmas.{zero}
use Rattle.stair_reinsert.specs.Misled.{five}
use Rattle.stair_reinsert_examples.specs.Refused.{all_live}
use Rattle.stair_reinsert_examples.proofs.FiveConsistent.{IsCut, in_place, made_consistent}
use Rattle.stair_reinsert_examples.proofs.FiveDevices.{AreEditions, device_super, five_limits, place_cell}
use Rattle.stair_reinsert_examples.proofs.FiveSupers.{named_super}
use Rattle.stair_reinsert_examples.proofs.FiveSurvey.{five_cases}
use Rattle.stair_examples.specs.Arrays.{zero_words}
use Rattle.stair_examples.specs.Copies.{ExamplesOfIsOlderCopy, fifth, restored, restored_rack}

-- ---- the superblocks

live_up : Live ≢ Down
live_up same = cc

older_formed : IsSuperblock (copy_of all_live 3)
older_formed =
    named_super 4 Live Live Live Live Live 1 1 1 1 1 (omega arith) (omega arith, omega arith) (omega arith, omega arith) (omega arith, omega arith)
    (omega arith, omega arith) (omega arith, omega arith) 4 3 (omega arith) (omega arith) (omega arith) live_up

newer_formed : (j : ℕ) → j < 5 → mark_in fifth j ≢ Down → IsSuperblock (copy_of (record { array = fifth; draw = 5 }) j)
newer_formed j below up =
    named_super 5 Live Live Live Live Live 1 1 1 1 1 (omega arith) (omega arith, omega arith) (omega arith, omega arith) (omega arith, omega arith)
    (omega arith, omega arith) (omega arith, omega arith) 5 j (omega arith) (omega arith) below up

are : AreEditions zero_words restored
are = record {
  formed =
      five_cases (λ j. j < 5 → IsSuperblock (copy_of (restored j) j)) (λ b. newer_formed 0 b live_up) (λ b. newer_formed 1 b live_up)
      (λ b. newer_formed 2 b live_up) (λ b. older_formed) (λ b. newer_formed 4 b live_up) (λ j past below. absurd (omega (arith, past, below)));
  of_five =
      five_cases (λ j. j < 5 → (restored j).array.geometry ≡ five) (λ b. refl) (λ b. refl) (λ b. refl) (λ b. refl) (λ b. refl)
      (λ j past below. absurd (omega (arith, past, below)));
}

array_older : (j : ℕ) → j ≡ 3 → (restored j).array ≡ all_live.array
array_older j same = ap (λ (i : ℕ). (restored i).array) same

array_newer : (j : ℕ) → j ≢ 3 → (restored j).array ≡ fifth
array_newer j other = ap (λ (e : Edition). e.array) (cond-false _ _ _ (ne_eqb j 3 other))

one : (i j : ℕ) → (restored i).array.epoch ≡ (restored j).array.epoch → (restored i).array ≡ (restored j).array
one i j same =
    elim (cases_eq i 3) [
      | inl a ↦
          elim (cases_eq j 3) [
            | inl b ↦ array_older i a ∙ sym (array_older j b)
            | inr b ↦
                absurd
                (omega (
                  arith,
                  sym (ap (λ (x : Configuration). x.epoch) (array_older i a)) ∙ same ∙ ap (λ (x : Configuration). x.epoch) (array_newer j b),
                ))
          ]
      | inr a ↦
          elim (cases_eq j 3) [
            | inl b ↦
                absurd
                (omega (
                  arith,
                  sym (ap (λ (x : Configuration). x.epoch) (array_newer i a)) ∙ same ∙ ap (λ (x : Configuration). x.epoch) (array_older j b),
                ))
            | inr b ↦ array_newer i a ∙ sym (array_newer j b)
          ]
    ]

-- ---- the rack

abbrev current_media : CurrentMedia
current_media j = Some (joined_in fifth j)

held : (i j : ℕ) → joined_in fifth j ≡ joined_in (restored i).array j
held i j =
    elim (cases_eq i 3) [
      | inl same ↦ ap (λ (x : Configuration). joined_in x j) (sym (array_older i same))
      | inr other ↦ ap (λ (x : Configuration). joined_in x j) (sym (array_newer i other))
    ]

high : (i : ℕ) → i < 5 → (restored i).array.epoch ≤ 5
high =
    five_cases (λ i. i < 5 → (restored i).array.epoch ≤ 5) (λ b. omega arith) (λ b. omega arith) (λ b. omega arith) (λ b. omega arith)
    (λ b. omega arith) (λ i past below. absurd (omega (arith, past, below)))

abbrev copy_alone : Slots
copy_alone = record { marks = false ∷ false ∷ false ∷ true ∷ false ∷ replicate 27 false }

few_copies : slot_count copy_alone ≤ 2
unfolding sum_below
few_copies = let one : slot_count copy_alone ≡ 1 = refl in omega (arith, one)

cut : IsCut zero_words restored current_media 4
cut = record {
  least =
      five_cases (λ j. j < 5 → 4 ≤ (restored j).array.epoch) (λ b. omega arith) (λ b. omega arith) (λ b. omega arith) (λ b. omega arith)
      (λ b. omega arith) (λ j past below. absurd (omega (arith, past, below)));
  drawn = record {
    exceptions = copy_alone;
    formed = refl;
    few = few_copies;
    others =
        five_cases (λ j. j < 5 → ¬ HasSlot copy_alone j → (i : ℕ) → i < 5 → (restored i).array.epoch ≤ (restored j).draw) (λ b out i below. high i below)
        (λ b out i below. high i below) (λ b out i below. high i below) (λ b out. absurd (out refl)) (λ b out i below. high i below)
        (λ j past below. absurd (omega (arith, past, below)));
  };
  held = λ i j below up. ap Some (held i j);
  frozen =
      five_cases (λ j. j < 5 → (restored j).array.frozen ≡ false) (λ b. refl) (λ b. refl) (λ b. refl) (λ b. refl) (λ b. refl)
      (λ j past below. absurd (omega (arith, past, below)));
  label =
      five_cases (λ j. j < 5 → (restored j).array.label ≡ []) (λ b. refl) (λ b. refl) (λ b. refl) (λ b. refl) (λ b. refl)
      (λ j past below. absurd (omega (arith, past, below)));
  one = λ i j i_in j_in same. one i j same;
}

-- ---- the devices

copy : IsOlderCopy fifth 3 ((restored_rack 3).cell)
copy = record {
  first = spelled (copy_of all_live 3);
  second = spelled (copy_of all_live 3);
  holds = record { in_first = place_cell zero_words restored 3 0 (omega arith); in_second = place_cell zero_words restored 3 1 (omega arith) };
  super = copy_of all_live 3;
  is_super = device_super zero_words restored are restored_rack 3 (in_place zero_words restored 3 (omega arith));
  behind = record {
    meant = record { identity = refl; slot = refl; joined = refl };
    live = record { marked = refl; own = refl };
    older = omega arith;
  };
}

no_copy : ¬ IsOlderCopy fifth 0 ((restored_rack 0).cell)
no_copy other =
    let own = device_super zero_words restored are restored_rack 0 (in_place zero_words restored 0 (omega arith)) in
    let is : other.super ≡ copy_of (restored 0) 0 = one_super ((restored_rack 0).cell) other.super (copy_of (restored 0) 0) other.is_super own in
    let draw : other.super.draw ≡ 5 = ap (λ (s : Superblock). s.draw) is in
    let older : other.super.draw < 5 = other.behind.older in
    omega (arith, draw, older)

pub examples : ExamplesOfIsOlderCopy
examples = record {
  holds = copy;
  fails = no_copy;
  consistent = made_consistent zero_words restored are (zero five five_limits) current_media 4 cut;
}
