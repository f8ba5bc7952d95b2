-- The places of a code, cut into those that are held and those that are worked out from them.
use Rattle.std.proofs.Common.{◌≡◌, sym, subst, ℕ, ◌+◌, ◌-◌, ◌<◌, ◌≤◌, List, length, get_or, slice_index, All, Contains, arith}
use Rattle.std.specs.List.{range_with_len}
use Rattle.std.proofs.lemmas.List.FromFn.{length-range_with_len, get_or-range_with_len}
use Rattle.std.proofs.lemmas.List.Elements.{All-from_get_or, All-contains}
use Rattle.stair_model.specs.CauchyCode.{AreDistinct, AreKnownPlaces}
use Rattle.stair_mds.specs.Solving.{AreWantedPlaces, Shape}

-- a fact that holds for each place from a up to a + n holds for all of them
pub holds_of_range :
    (P : ℕ → Type 0) (a n : ℕ) → ((p : ℕ) → a ≤ p → p < a + n → P p) → All P (range_with_len a n)
holds_of_range P a n each =
    All-from_get_or P (range_with_len a n) 0
    (λ i h.
    let in_range : i < n = omega (arith, h, length-range_with_len a n) in
    let at = get_or-range_with_len a n i 0 in_range in
    each (get_or (range_with_len a n) i 0) (omega (arith, at)) (omega (arith, at, in_range)))

-- no place of a range occurs in it twice
pub range_is_distinct : (a n : ℕ) → AreDistinct (length (range_with_len a n)) (slice_index (range_with_len a n))
range_is_distinct a n = λ i j hi hj same.
    let count = length-range_with_len a n in
    let at_i = get_or-range_with_len a n i 0 (omega (arith, hi, count)) in
    let at_j = get_or-range_with_len a n j 0 (omega (arith, hj, count)) in
    omega (arith, at_i, at_j, same)

-- the held places are known places of a code
pub held_are_known :
    (code : Shape) (known : List ℕ) → code.held ≤ code.total → known ≡ range_with_len 0 code.held →
    AreKnownPlaces code.held code.total known
held_are_known code known within is =
    subst (AreKnownPlaces code.held code.total) (sym is) (record {
      count = length-range_with_len 0 code.held;
      below = holds_of_range (λ p. p < code.total) 0 code.held (λ p low high. omega (arith, high, within));
      distinct = range_is_distinct 0 code.held;
    })

-- where those are known, all further places can be wanted
pub others_are_wanted :
    (code : Shape) (known wanted : List ℕ) → code.held ≤ code.total → known ≡ range_with_len 0 code.held →
    wanted ≡ range_with_len code.held (code.total - code.held) → AreWantedPlaces code known wanted
others_are_wanted code known wanted within known_is wanted_is =
    let held = range_with_len 0 code.held in
    let others = range_with_len code.held (code.total - code.held) in
    let are_wanted : AreWantedPlaces code held others = record {
      below = holds_of_range (λ p. p < code.total) code.held (code.total - code.held)
          (λ p low high. omega (arith, high, within));
      distinct = range_is_distinct code.held (code.total - code.held);
      unknown = holds_of_range (λ p. Contains held p → ⊥) code.held (code.total - code.held)
          (λ p low high contains.
          let below = holds_of_range (λ q. q < code.held) 0 code.held (λ q l h. omega (arith, h)) in
          let is_held : p < code.held = All-contains (λ q. q < code.held) held p below contains in
          omega (arith, is_held, low));
    } in
    subst (λ ps. AreWantedPlaces code ps wanted) (sym known_is)
    (subst (AreWantedPlaces code held) (sym wanted_is) are_wanted)
