-- What crashes leave of two sectors.
use Rattle.std.proofs.Common.{◌≡◌, ℕ, [], ◌∷◌, inl, inr, refl, sym, subst, arith, ap}
use Rattle.std.specs.Prelude.{nat_lt, false, ◌==◌}
use Rattle.std.proofs.lemmas.Bool.{cases_eq, le-ltb, ne_eqb}
use Rattle.stair_rack.specs.Crash.{CrashMayLeave, SlotMayLeave}
use Rattle.stair_rack.specs.History.{slot_state}
use Rattle.stair_rack.specs.Sector.{Cell, Good, MayLeave, Torn}
use Rattle.stair_examples.specs.Devices.{ExamplesOfCrashMayLeave, at_once, new_bytes, old_bytes, two_sectors}
use Rattle.stair_examples.proofs.EncodesLemmas.{first_byte}

each_sector : (P : ℕ → Type 0) → P 0 → P 1 → ((k : ℕ) → ¬ (k ≡ 0) → ¬ (k ≡ 1) → P k) → (k : ℕ) → P k
each_sector P zeroth first others k =
    elim (cases_eq k 0) [
      | inl same ↦ subst P (sym same) zeroth
      | inr other ↦
          elim (cases_eq k 1) [
            | inl same ↦ subst P (sym same) first
            | inr another ↦ others k other another
          ]
    ]

-- of two writes that nothing came between a crash leaves the first old or torn, and the second new
left : (first : Cell) → MayLeave (record { base = Good old_bytes; since = new_bytes ∷ [] }) first
    → CrashMayLeave at_once (two_sectors first (Good new_bytes))
left first may j =
    elim (cases_eq j 0) [
      | inl same ↦ subst (λ (i : ℕ). SlotMayLeave (slot_state at_once i) (two_sectors first (Good new_bytes) i)) (sym same) here
      | inr other ↦ elsewhere other
    ]
  where
    here : SlotMayLeave (slot_state at_once 0) (two_sectors first (Good new_bytes) 0)
    here = record {
      size = refl;
      each =
          each_sector (λ (k : ℕ). MayLeave ((slot_state at_once 0).sector k) ((two_sectors first (Good new_bytes) 0).cell k)) may (inl refl)
          (λ k zeroth first_one.
          let past : nat_lt k 2 ≡ false = le-ltb k 2 (omega arith) in
          let not_zero : (k == 0) ≡ false = ne_eqb k 0 zeroth in
          let not_one : (k == 1) ≡ false = ne_eqb k 1 first_one in
          rw (not_one, not_zero, past) refl);
      removed = refl;
    }

    elsewhere : ¬ (j ≡ 0) → SlotMayLeave (slot_state at_once j) (two_sectors first (Good new_bytes) j)
    elsewhere other =
        let backward : (0 == j) ≡ false = ne_eqb 0 j (λ same. other (sym same)) in
        let forward : (j == 0) ≡ false = ne_eqb j 0 other in
        rw (backward, forward) (record { size = refl; each = λ k. refl; removed = refl })

pub examples : ExamplesOfCrashMayLeave
examples = record {
  holds = left (Good old_bytes) (inr (inr refl));
  cut = left Torn (inr (inl refl));
  fails = λ leaves.
      let same : Good old_bytes ≡ Good new_bytes = (leaves 0).each 0 in
      let bytes : 0 ≡ 1 = ap first_byte same in
      absurd (omega arith);
  undamaged = λ leaves.
      elim ((leaves 0).each 0) [
        | inl new ↦ absurd (cc)
        | inr rest ↦ elim rest [ inl torn ↦ absurd (cc) | inr old ↦ absurd (cc) ]
      ];
}
