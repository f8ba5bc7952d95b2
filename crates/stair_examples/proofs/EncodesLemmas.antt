-- Which cells an encoded stripe may have on its devices.
use Rattle.std.proofs.Common.{◌≡◌, ◌≢◌, ℕ, ◌<◌, refl, ap, subst₂, arith, get_or}
use Rattle.stair_model.specs.Device.{cell_sector}
use Rattle.stair_model.specs.Stripe.{cell}
use Rattle.stair_rack.specs.Sector.{Cell, Damaged, Good, Torn, TornOverDamage}
use Rattle.stair_journal.specs.Body.{Harmed, Holds, IsOrDamaged}
use Rattle.stair_state.specs.Forms.{Encodes}
use Rattle.stair_reinsert.specs.Misled.{five}
use Rattle.stair_reinsert_examples.proofs.FiveSurvey.{five_cases}
use Rattle.stair_examples.specs.Arrays.{ExamplesOfEncodes, all_slots, other_bytes, with_cell_of, zero_words}

-- the first byte of a cell that can be read
abbrev pub first_byte : Cell → ℕ
first_byte (Good bytes) = get_or bytes 0 0
first_byte Damaged = 2
first_byte Torn = 3
first_byte TornOverDamage = 4

in_place : (j : ℕ) → j < 5 → IsOrDamaged (cell (zero_words 0) 0 j) ((with_cell_of 1 Damaged j).cell 8)
in_place =
    five_cases (λ j. j < 5 → IsOrDamaged (cell (zero_words 0) 0 j) ((with_cell_of 1 Damaged j).cell 8)) (λ b. Holds refl) (λ b. Harmed refl)
    (λ b. Holds refl) (λ b. Holds refl) (λ b. Holds refl) (λ j past b. absurd (omega (arith, past, b)))

with_damage : Encodes five zero_words all_slots (with_cell_of 1 Damaged)
with_damage t i j t_in i_in j_in live =
    let stripe : 0 ≡ t = omega (arith, t_in) in
    let row : 0 ≡ i = omega (arith, i_in) in
    subst₂ (λ (a b : ℕ). IsOrDamaged (cell (zero_words a) b j) ((with_cell_of 1 Damaged j).cell (cell_sector five a b))) stripe row (in_place j j_in)

-- no cell of the stripe, nor a damaged one
refuted : (c : Cell) → first_byte c ≢ 0 → first_byte c ≢ 2 → ¬ IsOrDamaged (cell (zero_words 0) 0 1) c
refuted c other whole (Holds is) = other (ap first_byte is)
refuted c other whole (Harmed is) = whole (ap first_byte is)

pub examples : ExamplesOfEncodes
examples = record {
  holds = with_damage;
  fails = λ is.
      refuted (Good other_bytes) (λ same. absurd (omega (arith, same))) (λ same. absurd (omega (arith, same)))
      (is 0 0 1 (omega arith) (omega arith) (omega arith) (omega arith));
  torn = λ is.
      refuted Torn (λ same. absurd (omega (arith, same))) (λ same. absurd (omega (arith, same)))
      (is 0 0 1 (omega arith) (omega arith) (omega arith) (omega arith));
}
