-- Known and wanted places together are at most as many as a code has.
use Rattle.std.proofs.Common.{◌≡◌, ℕ, ◌+◌, ◌-◌, ◌<◌, ◌≤◌, List, ◌++◌, length, slice_index, get_or, eqb, inl, inr, sym, subst, ◌∙◌, arith}
use Rattle.std.specs.Prelude.{Contains}
use Rattle.std.proofs.lemmas.Bool.{cases_lt, eqb-true, ne_eqb}
use Rattle.std.proofs.lemmas.List.{get_or_append_left, get_or-append_right, get_or_default, length-append}
use Rattle.std.proofs.lemmas.List.Elements.{Contains-get_or}
use Rattle.std.proofs.lemmas.Map.Keys.{IsDistinct-from_apart}
use Rattle.std.proofs.lemmas.Map.Steps.{length-le_from_distinct_below}
use Rattle.std.proofs.lemmas.Map.Views.{Contains-from_any}
use Rattle.stair_model.specs.CauchyCode.{AreKnownPlaces}
use Rattle.stair_mds.specs.Solving.{AreWantedPlaces, Shape}

module _ (code : Shape) (known wanted : List ℕ) (places : AreKnownPlaces code.held code.total known)
    (asked : AreWantedPlaces code known wanted) where
  both : List ℕ
  both = known ++ wanted

  long : length both ≡ length known + length wanted
  unfolding both
  long = length-append known wanted

  -- a place of both is known, or wanted
  known_at : (i d : ℕ) → i < length known → get_or both i d ≡ slice_index known i
  unfolding both
  known_at i d below = get_or_append_left known wanted d i below ∙ get_or_default known i d 0 below

  wanted_at : (i d : ℕ) → length known ≤ i → i < length both → get_or both i d ≡ slice_index wanted (i - length known)
  unfolding both
  wanted_at i d past within =
      get_or-append_right known wanted (length known) i d (omega arith) past
      ∙ get_or_default wanted (i - length known) d 0 (omega (arith, long))

  -- no two of them are the same
  apart : (i j d : ℕ) → i < j → j < length both → get_or both i d ≡ get_or both j d → ⊥
  apart i j d before within same =
      elim (cases_lt j (length known)) [
        | inl below ↦
            let equal : i ≡ j =
            places.distinct i j (omega arith) below (sym (known_at i d (omega arith)) ∙ same ∙ known_at j d below) in
            omega arith
        | inr past ↦
            elim (cases_lt i (length known)) [
              | inl below ↦
                  asked.unknown (j - length known) 0 (omega (arith, long))
                  (subst (λ (p : ℕ). Contains known p) (sym (known_at i d below) ∙ same ∙ wanted_at j d past within)
                  (Contains-get_or known i 0 below))
              | inr later ↦
                  let equal : i - length known ≡ j - length known =
                  asked.distinct (i - length known) (j - length known) (omega (arith, long)) (omega (arith, long))
                  (sym (wanted_at i d later (omega arith)) ∙ same ∙ wanted_at j d past within) in
                  omega arith
            ]
      ]

  all_below : (i d : ℕ) → i < length both → get_or both i d < code.total
  all_below i d within =
      elim (cases_lt i (length known)) [
        | inl below ↦ omega (arith, known_at i d below, places.below i 0 below)
        | inr past ↦ omega (arith, wanted_at i d past within, asked.below (i - length known) 0 (omega (arith, long)))
      ]

  pub places_few : code.held + length wanted ≤ code.total
  places_few =
      let most : length both ≤ code.total =
      length-le_from_distinct_below both code.total
      (IsDistinct-from_apart eqb both
      (λ i j d before within. ne_eqb (get_or both i d) (get_or both j d) (apart i j d before within)))
      (λ q any.
      let one = Contains-from_any {eq = eqb} eqb-true q both any in
      omega (arith, one.2, all_below one.0 q one.1)) in
      omega (arith, most, long, places.count)

  pub wanted_few : (held total : ℕ) → held ≡ code.held → total ≡ code.total → total ≤ held + 32 → length wanted ≤ 32
  wanted_few held total held_is total_is few = omega (arith, places_few)
