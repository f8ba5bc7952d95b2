-- Codewords that agree at as many places as are held, wherever these are, agree everywhere.
use Rattle.std.proofs.Common.{◌≡◌, ℕ, ◌+◌, ◌<◌, ◌≤◌, Bool, true, false, inl, inr, sym, ap, ◌∙◌, arith, ◌==◌, if◌then◌else◌}
use Rattle.std.proofs.lemmas.Bool.{cases_lt, cases_Bool, cond-true, cond-false, eq-eqb, eqb-true}
use Rattle.stair_model.specs.Sum.{sum_below}
use Rattle.stair_model.specs.CauchyCode.{coefficient, IsSystematicCodeword}
use Rattle.stair_model.proofs.CountLaws.{sum_below_more, sum_below_le, sum_below_longer, sum_below_add, sum_below_constant, sum_below_part}
use Rattle.stair_model.proofs.PlaceLaws.{ArePlaces, same_from_places}

-- how many of the first n numbers pass a test
abbrev pub passes : ℕ → (ℕ → Bool) → ℕ
passes n test = sum_below n (λ p. if test p then 1 else 0)

-- number k of the numbers below n that pass
record IsPassing (n : ℕ) (test : ℕ → Bool) (k p : ℕ) : Type 0 where
  below : p < n
  holds : test p ≡ true
  number : passes p test ≡ k

passing : (n : ℕ) (test : ℕ → Bool) (k : ℕ) → k < passes n test → (p : ℕ) × IsPassing n test k p
passing n test k within =
    let part = sum_below_part n k (λ p. if test p then 1 else 0) within in
    let p = part.0 in
    let more = sum_below_more p (λ q. if test q then 1 else 0) in
    elim (cases_Bool (test p)) [
      | inl holds ↦
          let one = cond-true {A = ℕ} (test p) 1 0 holds in
          (p, record { below = part.1; holds = holds; number = omega (arith, part.2, part.3, more, one) })
      | inr fails ↦
          let none = cond-false {A = ℕ} (test p) 1 0 fails in
          absurd (omega (arith, part.2, part.3, more, none))
    ]

-- where enough places of a word pass, some function lists `held` that do
pub passing_places : (held total : ℕ) (test : ℕ → Bool) → held ≤ passes total test
    → (f : ℕ → ℕ) × ArePlaces held total f × ((i : ℕ) → i < held → test (f i) ≡ true)
passing_places held total test enough = (
  λ i. (found i).0,
  record {
    below = λ i within. ((found i).1 within).below;
    distinct = λ i j i_in j_in same.
        sym ((found i).1 i_in).number ∙ ap (λ p. passes p test) same ∙ ((found j).1 j_in).number;
  },
  λ i within. ((found i).1 within).holds,
)
  where
    found : (i : ℕ) → (p : ℕ) × (i < held → IsPassing total test i p)
    found i =
        elim (cases_lt i held) [
          | inl within ↦ let place = passing total test i (omega arith) in (place.0, λ h. place.1)
          | inr past ↦ (0, λ within. absurd (omega arith))
        ]

-- codewords that agree where a test passes, at as many places as are held, agree everywhere
pub same_from_passing : (held total : ℕ) (test : ℕ → Bool) (c d : ℕ → ℕ) (b : ℕ) → held ≤ total → total ≤ 256
    → held ≤ passes total test
    → IsSystematicCodeword held total (coefficient held) c → IsSystematicCodeword held total (coefficient held) d
    → ((p : ℕ) → p < total → test p ≡ true → c p ≡ d p) → b < total → c b ≡ d b
same_from_passing held total test c d b room few enough first second agree within =
    let places = passing_places held total test enough in
    same_from_places held total places.0 c d b room few places.1 first second
    (λ i i_in. agree (places.0 i) (places.1.below i i_in) (places.2 i i_in)) within

-- codewords that agree at as many places as are held agree everywhere
pub same_from_agreement : (held total : ℕ) (c d : ℕ → ℕ) (b : ℕ) → held ≤ total → total ≤ 256
    → held ≤ passes total (λ p. c p == d p)
    → IsSystematicCodeword held total (coefficient held) c → IsSystematicCodeword held total (coefficient held) d
    → b < total → c b ≡ d b
same_from_agreement held total c d b room few enough first second within =
    same_from_passing held total (λ p. c p == d p) c d b room few enough first second
    (λ p p_in same. eqb-true (c p) (d p) same) within

-- codewords that agree at the first places but some lost ones, where as many as are held remain, agree everywhere
pub same_from_kept : (held total known : ℕ) (lost : ℕ → Bool) (c d : ℕ → ℕ) (b : ℕ) → known ≤ total → total ≤ 256
    → held + passes known lost ≤ known
    → IsSystematicCodeword held total (coefficient held) c → IsSystematicCodeword held total (coefficient held) d
    → ((p : ℕ) → p < known → lost p ≡ false → c p ≡ d p) → b < total → c b ≡ d b
same_from_kept held total known lost c d b room few enough first second agree within =
    let each : sum_below known (λ p. 1) ≤ sum_below known (λ p. lost_mark p + same_mark p) =
    sum_below_le known (λ p. 1) (λ p. lost_mark p + same_mark p) either
    in
    let longer : sum_below known same_mark ≤ sum_below total same_mark = sum_below_longer same_mark known total room in
    same_from_agreement held total c d b (omega arith) few
    (omega (arith, each, longer, sum_below_constant known 1, sum_below_add known lost_mark same_mark)) first second within
  where
    lost_mark : ℕ → ℕ
    lost_mark p = if lost p then 1 else 0

    same_mark : ℕ → ℕ
    same_mark p = if c p == d p then 1 else 0

    -- each is lost or the same
    either : (p : ℕ) → p < known → 1 ≤ lost_mark p + same_mark p
    either p p_in =
        elim (cases_Bool (lost p)) [
          | inl gone ↦ let here : lost_mark p ≡ 1 = cond-true _ _ _ gone in omega arith
          | inr kept ↦ let here : same_mark p ≡ 1 = cond-true _ _ _ (eq-eqb (c p) (d p) (agree p p_in kept)) in omega arith
        ]
