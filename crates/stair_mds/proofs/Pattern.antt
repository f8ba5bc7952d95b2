-- The coefficients of a pattern, for one wanted place after another.
use Rattle.std.proofs.Common.{◌≡◌, ℕ, ◌+◌, ◌*◌, ◌<◌, ◌≤◌, List, length, take, slice_index, sym, subst, ap, ap₂, ◌∙◌, arith, add-one}
use Rattle.std.specs.Prelude.{Contains}
use Rattle.std.proofs.Math.Nat.{mul-le-mul_right, suc-mul}
use Rattle.std.proofs.lemmas.List.{get_or-take, get_or_default, length-take-le}
use Rattle.std.proofs.lemmas.List.Elements.{All-from_get_or, Contains-get_or}
use borrow.Author.Count.{below_more}
use Rattle.stair_model.specs.CauchyCode.{AreKnownPlaces}
use Rattle.stair_model.specs.Field.{product}
use Rattle.stair_model.specs.Stripe.{symbol_byte}
use Rattle.stair_model.proofs.SumLaws.{field_sum_same}
use Rattle.stair_gf.specs.SetsSums.{AreApart, SetsSums, part_by}
use Rattle.stair_mds.specs.Lagrange.{solving}
use Rattle.stair_mds.specs.declared.line.Line.{Line}
use Rattle.stair_mds.specs.Solving.{AreWantedPlaces, IsLineOf, Shape, along}
use Rattle.stair_mds.specs.Weights.{HasCoefficients}
use Rattle.stair_mds.proofs.SolvedSoFar.{HasSolved, along_once}

-- k·h and h more, where k is below n
one_more : (k h : ℕ) → (k + 1) * h ≡ k * h + h
one_more k h = ap (λ n. n * h) (add-one k) ∙ suc-mul k h

within_more : (k n h : ℕ) → k < n → k * h + h ≤ n * h
within_more k n h below = omega (arith, mul-le-mul_right {m = k + 1} {n = n} h (omega arith), one_more k h)

-- the coefficients of one wanted place more have room
pub coefficients_fit : (count wanted most held room : ℕ) → count < wanted → wanted ≤ most → most * held ≤ room
    → count * held + held ≤ room
coefficients_fit count wanted most held room below few fits =
    omega (arith, within_more count most held (omega arith))

pub HasCoefficients-more : (held : ℕ) (known wanted before after : List ℕ) (count : ℕ)
    → HasCoefficients held known wanted before count → length after ≡ length before + held
    → ((k : ℕ) → k < length before → slice_index after k ≡ slice_index before k)
    → ((i : ℕ) → i < held → slice_index after (length before + i) ≡ solving held known i (slice_index wanted count))
    → HasCoefficients held known wanted after (count + 1)
HasCoefficients-more held known wanted before after count has longer kept added = record {
  many = longer ∙ ap (λ n. n + held) has.many ∙ sym (one_more count held);
  each = λ k i below in_known.
      below_more
      (λ k. (i : ℕ) → i < held → slice_index after (k * held + i) ≡ solving held known i (slice_index wanted k)) count
      (λ k earlier i in_known.
      kept (k * held + i) (omega (arith, has.many, within_more k count held earlier)) ∙ has.each k i earlier in_known)
      (λ i in_known. ap (λ n. slice_index after (n + i)) (sym has.many) ∙ added i in_known)
      k below i in_known;
}

-- the symbols at which the first places of a list lie
pub record AreReadSymbols (line : Line) (read : ℕ) (known from : List ℕ) : Type 0 where
  pub long : length from ≡ read
  pub each : (i : ℕ) → i < read → slice_index from i ≡ along line (slice_index known i)

pub AreReadSymbols-take : (line : Line) (read : ℕ) (known places symbols : List ℕ) → places ≡ known → read ≤ length known → read ≤ length symbols
    → ((i : ℕ) → i < length places → slice_index symbols i ≡ along line (slice_index places i))
    → AreReadSymbols line read known (take read symbols)
AreReadSymbols-take line read known places symbols same some room there = record {
  long = length-take-le read symbols room;
  each = λ i in_read.
      get_or-take read symbols i 0 in_read ∙ there i (omega (arith, ap length same))
      ∙ ap (λ (x : List ℕ). along line (slice_index x i)) same;
}

-- the symbols at which wanted places lie, and those known ones that are read
pub AreApart-along : (code : Shape) (line : Line) (count read : ℕ) (known wanted into from : List ℕ)
    → AreKnownPlaces code.held code.total known → AreWantedPlaces code known wanted → IsLineOf code count line → read ≤ length known
    → AreReadSymbols line (length wanted) wanted into → AreReadSymbols line read known from → AreApart count into from
AreApart-along code line count read known wanted into from places asked lies some targets symbols =
    let in_wanted : (d : ℕ) → d < length into → d < length wanted = λ d below. omega (arith, below, targets.long) in
    let in_read : (i : ℕ) → i < length from → i < read = λ i below. omega (arith, below, symbols.long) in
    record {
      below =
          All-from_get_or (λ s. s < count) into 0
          (λ d below.
          subst (λ (s : ℕ). s < count) (sym (targets.each d (in_wanted d below)))
          (lies.within (slice_index wanted d) (asked.below d 0 (in_wanted d below))));
      sources =
          All-from_get_or (λ s. s < count) from 0
          (λ i below.
          subst (λ (s : ℕ). s < count) (sym (symbols.each i (in_read i below)))
          (lies.within (slice_index known i) (places.below i 0 (omega (arith, in_read i below)))));
      distinct = λ d e d_in e_in same.
          asked.distinct d e (in_wanted d d_in) (in_wanted e e_in)
          (along_once line _ _ lies.apart (sym (targets.each d (in_wanted d d_in)) ∙ same ∙ targets.each e (in_wanted e e_in)));
      apart =
          All-from_get_or (λ p. Contains from p → ⊥) into 0
          (λ d below has.
          let i = has.0 in
          let same : slice_index known i ≡ slice_index wanted d =
          along_once line _ _ lies.apart
          (sym (symbols.each i (in_read i has.1)) ∙ get_or_default from i 0 (slice_index into d) has.1 ∙ has.2 ∙ targets.each d (in_wanted d below)) in
          asked.unknown d 0 (in_wanted d below)
          (subst (λ (p : ℕ). Contains known p) same (Contains-get_or known i 0 (omega (arith, in_read i has.1)))));
    }

-- sums of the known symbols that are read, each times its coefficient, are the solutions
pub HasSolved-sums : (code : Shape) (line : Line) (read : ℕ) (known wanted into from by : List ℕ) (old new : List (List ℕ))
    → AreReadSymbols line (length wanted) wanted into → AreReadSymbols line read known from → HasCoefficients code.held known wanted by (length wanted)
    → read ≤ code.held → SetsSums old new into from by code.held → HasSolved code line read known wanted old new (length wanted)
HasSolved-sums code line read known wanted into from by old new targets symbols coefficients some sets = record {
  count = sets.count;
  others = λ s other.
      sets.others s
      (λ d above below same.
      let in_wanted : d < length wanted = omega (arith, below, targets.long) in other d in_wanted (sym (targets.each d in_wanted) ∙ same));
  solved = λ j q below in_sector.
      ap (symbol_byte new q) (sym (targets.each j below)) ∙ sets.bytes j q (omega arith) (omega (arith, below, targets.long)) in_sector
      ∙ ap (part_by old from by (j * code.held) q) symbols.long
      ∙ field_sum_same read (λ i. product (slice_index by (j * code.held + i)) (symbol_byte old q (slice_index from i)))
      (λ i. product (solving code.held known i (slice_index wanted j)) (symbol_byte old q (along line (slice_index known i))))
      (λ i in_read. ap₂ (λ x s. product x (symbol_byte old q s)) (coefficients.each j i below (omega arith)) (symbols.each i in_read));
}
