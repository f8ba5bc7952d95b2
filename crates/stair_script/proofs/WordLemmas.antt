-- The words of a line, and where the first of them ends.
use Rattle.std.proofs.Common.{◌≡◌, ◌≢◌, ◌∙◌, ℕ, ◌<◌, ◌≤◌, ◌*◌, ◌↔◌, Bool, true, ◌&&◌, List, [], ◌∷◌, ◌++◌, Ok, length, length-append, get_or, inl, inr, refl, sym, subst, arith, lit<}
use Rattle.std.specs.Prelude.{All, nat_le}
use Rattle.std.specs.Int.{IsInRange}
use Rattle.std.specs.List.{AllPass, list_all}
use Rattle.std.specs.Str.Parse.{AllDigits}
use Rattle.std.proofs.lemmas.Bool.Decides.{nat_tests}
use Rattle.std.proofs.Math.Seq.{get_or-append_seam}
use Rattle.std.proofs.lemmas.Bool.{cases_lt}
use Rattle.std.proofs.lemmas.Fmt.{digits_decimal, length-decimal-le}
use Rattle.std.proofs.lemmas.List.{get_or_past}
use Rattle.std.proofs.lemmas.List.Elements.{All-from_get_or, All-get_or, All-head, All-tail, All-weaker}
use Rattle.std.proofs.lemmas.List.Sums.{AllPass-from_list_all}
use Rattle.std.proofs.lemmas.Str.Parse.{digit_at, numerals_by_value, tells_digits}
use Rattle.hex.specs.Hex.{IsBytes, decode_of, encode_lower, is_hex_digit}
use Rattle.hex.proofs.HexLemmas.{decode_of-digits, decode_of-ok, decode_sized-encode_lower, decode_sized-ok, decode_sized-twice}
use Rattle.stair_model.specs.Stripe.{IsSector, SECTOR}
use Rattle.stair_conf.specs.Words.{IsNumber}
use Rattle.stair_script.specs.Line.{AreDigits}

-- ---- what words are made of

-- bytes that are printed, and no space (32) among them
abbrev pub IsWord : List ℕ → Type 0
IsWord word = All (IsInRange 33 126) word

-- no space among them
abbrev pub HasNoSpace : List ℕ → Type 0
HasNoSpace word = All (λ b. b ≢ 32) word

pub word-HasNoSpace : (word : List ℕ) → IsWord word → HasNoSpace word
word-HasNoSpace word is = All-weaker (IsInRange 33 126) (λ b. b ≢ 32) (λ b range. λ space. absurd (omega arith)) word is

-- a test that computes
abbrev is_word_byte : ℕ → Bool
is_word_byte b = nat_le 33 b && nat_le b 126

word_byte : (b : ℕ) → is_word_byte b ≡ true → IsInRange 33 126 b
word_byte b passes = grind (arith, nat_tests)

pub tested-IsWord : (word : List ℕ) → list_all is_word_byte word ≡ true → IsWord word
tested-IsWord word passes =
    All-weaker (λ b. is_word_byte b ≡ true) (IsInRange 33 126) word_byte word (AllPass-from_list_all is_word_byte word passes)

-- ---- numbers

number_digits : (word : List ℕ) (n : ℕ) → IsNumber word n → AllDigits 10 word
number_digits word n is =
    subst (AllDigits 10) (sym is.spelled) (digits_decimal (numerals_by_value (AllDigits 10) tells_digits) n is.fits)

pub number-IsWord : (word : List ℕ) (n : ℕ) → IsNumber word n → IsWord word
number-IsWord word n is =
    All-from_get_or (IsInRange 33 126) word 0
    (λ i within. let digit = digit_at word i (number_digits word n is) within in (omega (arith, digit), omega (arith, digit)))

pub length-number : (word : List ℕ) (n : ℕ) → IsNumber word n → length word ≤ 20
length-number word n is =
    let fits = is.fits in
    rw (is.spelled) (length-decimal-le 20 n (lit< tt) (omega arith) is.fits)

-- ---- the digits of a sector

-- a digit is a number or a letter
digit_byte : (c : ℕ) → is_hex_digit c ≡ true → IsInRange 33 126 c
digit_byte c digit = grind (arith, nat_tests)

pub length-digits : (digits contents : List ℕ) → AreDigits digits contents → length digits ≡ 2 * SECTOR
length-digits digits contents are = decode_sized-ok digits SECTOR contents are

decoded : (digits contents : List ℕ) → AreDigits digits contents → decode_of digits ≡ Ok contents
decoded digits contents are = sym (decode_sized-twice digits SECTOR (length-digits digits contents are)) ∙ are

pub digits-IsWord : (digits contents : List ℕ) → AreDigits digits contents → IsWord digits
digits-IsWord digits contents are =
    All-weaker (λ c. is_hex_digit c ≡ true) (IsInRange 33 126) digit_byte digits (decode_of-ok digits contents (decoded digits contents are)).1

pub digits-IsSector : (digits contents : List ℕ) → AreDigits digits contents → IsSector contents
digits-IsSector digits contents are =
    let told = decode_of-ok digits contents (decoded digits contents are) in
    let long = length-digits digits contents are in
    (omega (arith, told.2, long), All-from_get_or (λ b. b < 256) contents 0 (λ i within. told.3 i))

-- digits of a sector are those that spell one
pub spelling_digits : (digits : List ℕ) → ((contents : List ℕ) × AreDigits digits contents)
    ↔ ((length digits ≡ 2 * SECTOR) × AllPass is_hex_digit digits)
spelling_digits digits = (
  (λ some. (length-digits digits some.0 some.1, (decode_of-ok digits some.0 (decoded digits some.0 some.1)).1)),
  (λ are.
      let long = are.0 in
      let some = decode_of-digits digits (omega (arith, long)) are.1 in
      (some.0, decode_sized-twice digits SECTOR long ∙ some.1)),
)

-- what stands past the end counts as 0
small_bytes : (bytes : List ℕ) → All (λ b. b < 256) bytes → IsBytes bytes
small_bytes bytes small i =
    elim (cases_lt i (length bytes)) [
      | inl within ↦ All-get_or (λ b. b < 256) bytes i 0 within small
      | inr past ↦ rw (get_or_past bytes i 0 past) (lit< tt)
    ]

-- a sector's digits in lower case spell it
pub lower_digits-AreDigits : (contents : List ℕ) → IsSector contents → AreDigits (encode_lower contents) contents
lower_digits-AreDigits contents sector =
    decode_sized-encode_lower contents SECTOR sector.0 (small_bytes contents sector.1)

-- ---- where the first word ends

-- a word, a space and what follows can be read in one way
pub one_cut : (a b x y : List ℕ) → HasNoSpace a → HasNoSpace b → a ++ 32 ∷ x ≡ b ++ 32 ∷ y → (a ≡ b) × (x ≡ y)
one_cut [] [] x y a_free b_free same = (refl, cc)
one_cut [] (d ∷ b) x y a_free b_free same =
    let space : d ≡ 32 = cc in
    absurd (All-head (λ e. e ≢ 32) d b b_free space)
one_cut (c ∷ a) [] x y a_free b_free same =
    let space : c ≡ 32 = cc in
    absurd (All-head (λ e. e ≢ 32) c a a_free space)
one_cut (c ∷ a) (d ∷ b) x y a_free b_free same =
    let first : c ≡ d = cc in
    let others : a ++ 32 ∷ x ≡ b ++ 32 ∷ y = cc in
    let cut = one_cut a b x y (All-tail (λ e. e ≢ 32) c a a_free) (All-tail (λ e. e ≢ 32) d b b_free) others in
    let words : a ≡ b = cut.0 in
    (cc, cut.1)

-- what has a word and a space has a space
pub some_space : (bytes a x : List ℕ) → bytes ≡ a ++ 32 ∷ x → ((i : ℕ) → i < length bytes → get_or bytes i 0 ≢ 32) → ⊥
some_space bytes a x is none =
    let place : length a < length bytes = rw is (omega (arith, length-append a (32 ∷ x))) in
    none (length a) place (rw is (get_or-append_seam a 32 x 0))
