-- The wanted places that were solved so far, along a line of symbols.
use Rattle.std.proofs.Common.{◌≡◌, ◌≢◌, ℕ, zero, suc, ◌+◌, ◌*◌, ◌%◌, ◌<◌, ◌≤◌, List, [], length, slice_index, inl, inr, sym, subst, ap, ◌∙◌, arith}
use Rattle.std.proofs.Math.Nat.{mul-le-mul_left}
use Rattle.std.specs.Prelude.{All, Contains, bit_xor, slice_index_or}
use Rattle.std.specs.Int.Bits.{xor_zero_r}
use Rattle.std.proofs.lemmas.Bool.{cases_lt}
use Rattle.std.proofs.lemmas.List.Elements.{All-from_get_or, Contains-get_or}
use Rattle.stair_model.specs.Field.{product}
use Rattle.stair_model.specs.Sum.{field_sum}
use Rattle.stair_model.specs.Stripe.{IsSector, symbol_byte}
use Rattle.stair_model.specs.CauchyCode.{AreKnownPlaces, Agree}
use Rattle.stair_model.proofs.FieldLaws.{product-zero_right}
use Rattle.stair_model.proofs.SumLaws.{field_sum_more, field_sum_same}
use Rattle.stair_model.proofs.CodeLaws.{codeword_exists}
use Rattle.stair_mds.proofs.Formula.{codeword_formula}
use Rattle.stair_mds.specs.Lagrange.{solving}
use Rattle.stair_mds.specs.declared.line.Line.{Line}
use Rattle.stair_mds.specs.Solving.{Shape, IsCodewordOf, AreWantedPlaces, IsLineOf, IsReadAlong, Solves, SolvesAlong, along}

-- two places at one symbol are the same
not_before : (line : Line) (p s : ℕ) → 1 ≤ line.step → p < s → along line p ≡ along line s → ⊥
not_before line p s apart before same =
    let further : line.step * (p + 1) ≤ line.step * s = mul-le-mul_left {m = p + 1} {n = s} line.step (omega arith) in
    omega (arith, further, same)

pub along_once : (line : Line) (p s : ℕ) → 1 ≤ line.step → along line p ≡ along line s → p ≡ s
along_once line p s apart same =
    elim (cases_lt p s) [
      | inl before ↦ absurd (not_before line p s apart before same)
      | inr behind ↦
          elim (cases_lt s p) [
            | inl before ↦ absurd (not_before line s p apart before (sym same))
            | inr equal ↦ omega arith
          ]
    ]

-- a sum whose terms past the first ones are 0
sum_of_first : (n m : ℕ) (f g : ℕ → ℕ) → m ≤ n → ((i : ℕ) → i < m → f i ≡ g i) → ((i : ℕ) → m ≤ i → i < n → f i ≡ 0)
    → field_sum n f ≡ field_sum m g
sum_of_first zero m f g within same none =
    let empty : zero ≡ m = omega arith in
    ap (λ k. field_sum k f) empty ∙ field_sum_same m f g same
sum_of_first (suc n) m f g within same none =
    elim (cases_lt n m) [
      | inl whole ↦
          let all : suc n ≡ m = omega arith in
          ap (λ k. field_sum k f) all ∙ field_sum_same m f g same
      | inr further ↦
          field_sum_more n f ∙ ap (bit_xor (field_sum n f)) (none n further (omega arith)) ∙ xor_zero_r (field_sum n f)
          ∙ sum_of_first n m f g further same (λ i past below. none i past (omega arith))
    ]

-- the solution of place b at byte q, from the known symbols that are read
abbrev pub solution : Shape → Line → ℕ → List ℕ → List (List ℕ) → ℕ → ℕ → ℕ
solution code line read known old q b =
    field_sum read (λ i. product (solving code.held known i b) (symbol_byte old q (along line (slice_index known i))))

-- the first k wanted places are solved
pub record HasSolved (code : Shape) (line : Line) (read : ℕ) (known wanted : List ℕ) (old now : List (List ℕ)) (k : ℕ) : Type 0 where
  pub count : length now ≡ length old
  pub others :
      (s : ℕ) → ((j : ℕ) → j < k → along line (slice_index wanted j) ≢ s) → slice_index_or now s [] ≡ slice_index_or old s []
  pub solved :
      (j q : ℕ) → j < k → q < 512 →
      symbol_byte now q (along line (slice_index wanted j)) ≡ solution code line read known old q (slice_index wanted j)

-- all wanted places are solved
module _ (code : Shape) (line : Line) (read : ℕ) (known wanted : List ℕ) (old new : List (List ℕ)) (within : code.held ≤ code.total)
    (small : code.total ≤ 256) (places : AreKnownPlaces code.held code.total known) (asked : AreWantedPlaces code known wanted)
    (some : read ≤ length known) (lies : IsLineOf code (length old) line) (sectors : All IsSector old)
    (all : HasSolved code line read known wanted old new (length wanted)) (before : ℕ → ℕ → ℕ) (reads : IsReadAlong line read known old before) where
  agrees : (q : ℕ) (c : ℕ → ℕ) → q < 512 → IsCodewordOf code c → Agree known c (before q) → Agree wanted c (λ p. symbol_byte new q (along line p))
  agrees q c in_sector codeword same =
      All-from_get_or (λ p. c p ≡ symbol_byte new q (along line p)) wanted 0
      (λ j in_wanted.
      let place = slice_index wanted j in
      codeword_formula code.held code.total known c place within small places codeword (asked.below j 0 in_wanted)
      ∙ sum_of_first code.held read (λ i. product (solving code.held known i place) (c (slice_index known i)))
      (λ i. product (solving code.held known i place) (symbol_byte old q (along line (slice_index known i))))
      (omega (arith, places.count))
      (λ i in_read. ap (product (solving code.held known i place)) (same i 0 (omega arith) ∙ reads.as_read i q in_read in_sector))
      (λ i past in_known.
      ap (product (solving code.held known i place))
      (same i 0 (omega (arith, places.count)) ∙ reads.zero i q past (omega (arith, places.count)) in_sector)
      ∙ product-zero_right (solving code.held known i place))
      ∙ sym (all.solved j q in_wanted in_sector))

  -- a known place holds a byte
  known_byte : (q i : ℕ) → q < 512 → i < length known → before q (slice_index known i) < 256
  known_byte q i in_sector in_known =
      elim (cases_lt i read) [
        | inl in_read ↦
            let sector = sectors (along line (slice_index known i)) [] (lies.within (slice_index known i) (places.below i 0 in_known)) in
            let byte : symbol_byte old q (along line (slice_index known i)) < 256 = sector.1 q 0 (omega (arith, sector.0)) in
            omega (arith, byte, reads.as_read i q in_read in_sector)
        | inr past ↦ omega (arith, reads.zero i q past in_known in_sector)
      ]

  solving_word : (q : ℕ) → q < 512
      → (c : ℕ → ℕ) × IsCodewordOf code c × Agree known c (before q) × Agree wanted c (λ p. symbol_byte new q (along line p))
  solving_word q in_sector =
      let made =
      codeword_exists code.held code.total known (λ p. before q p % 256) within small places
      (λ p in_code. let byte : before q p % 256 < 256 = omega arith in byte) in
      let same : Agree known made.0 (before q) =
      All-from_get_or (λ p. made.0 p ≡ before q p) known 0
      (λ i in_known.
      let byte = known_byte q i in_sector in_known in
      let whole : before q (slice_index known i) % 256 ≡ before q (slice_index known i) = omega (arith, byte) in
      made.2 i 0 in_known ∙ whole) in
      (made.0, made.1, same, agrees q made.0 in_sector made.1 same)

pub SolvesAlong-all : (code : Shape) (line : Line) (read : ℕ) (known wanted : List ℕ) (old new : List (List ℕ)) → code.held ≤ code.total
    → code.total ≤ 256 → AreKnownPlaces code.held code.total known → AreWantedPlaces code known wanted → read ≤ length known
    → IsLineOf code (length old) line → All IsSector old → HasSolved code line read known wanted old new (length wanted)
    → SolvesAlong code line read known wanted old new
SolvesAlong-all code line read known wanted old new within small places asked some lies sectors all = record {
  count = all.count;
  others = λ s not_wanted.
      all.others s (λ j in_wanted same. not_wanted (slice_index wanted j) (Contains-get_or wanted j 0 in_wanted) same);
  symbols = λ before reads. record {
    some = solving_word code line read known wanted old new within small places asked some lies sectors all before reads;
    each = λ q c in_sector codeword same.
        agrees code line read known wanted old new within small places asked some lies sectors all before reads q c in_sector codeword same;
  };
}

-- the line of all symbols
pub Solves-along : (code : Shape) (known wanted : List ℕ) (old new : List (List ℕ))
    → SolvesAlong code (record { start = 0; step = 1 }) (length known) known wanted old new → Solves code known wanted old new
Solves-along code known wanted old new solves =
    let itself : (p : ℕ) → 0 + 1 * p ≡ p = λ p. omega arith in
    let given =
    solves.symbols (symbol_byte old)
    (record {
      as_read = λ i q in_known in_sector. ap (symbol_byte old q) (sym (itself (slice_index known i)));
      zero = λ i q past in_known in_sector. absurd (omega arith);
    }) in
    let there : (q : ℕ) (c : ℕ → ℕ) → Agree wanted c (λ p. symbol_byte new q (0 + 1 * p)) → Agree wanted c (symbol_byte new q) =
    λ q c same.
    All-from_get_or (λ p. c p ≡ symbol_byte new q p) wanted 0
    (λ j in_wanted. same j 0 in_wanted ∙ ap (symbol_byte new q) (itself (slice_index wanted j)))
    in
    record {
      count = solves.count;
      others = λ p not_wanted.
          solves.others p (λ w has same. not_wanted (subst (λ (x : ℕ). Contains wanted x) (sym (itself w) ∙ same) has));
      symbols = record {
        some = λ q in_sector. let one = given.some q in_sector in (one.0, one.1, one.2, there q one.0 one.3);
        each = λ q c in_sector codeword same. there q c (given.each q c in_sector codeword same);
      };
    }
