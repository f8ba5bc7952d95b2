-- Numbers and the words that are their decimal texts.
use Rattle.std.proofs.Common.{◌≡◌, ◌≢◌, ℕ, ◌^◌, ◌<◌, ◌↔◌, List, [], ◌∷◌, ◌∙◌, Option, Some, None, Result, Ok, Err, length, get_or, map, take, refl, sym, ap, subst, arith, lit<, zero, suc}
use Rattle.std.specs.Prelude.{All}
use Rattle.std.specs.Fmt.{decimal}
use Rattle.std.specs.Str.Parse.{AllDigits, digits_value, ParsesUnsigned}
use Rattle.std.specs.Result.{result_ok}
use Rattle.std.proofs.lemmas.Fmt.{decimal_digit, decimal_injective, decimal_nonempty, decimal-digits_value, digits_decimal, first_decimal, parse-decimal}
use Rattle.std.proofs.lemmas.Str.Parse.{IsNumeralModel, numerals_by_value, tells_digits, digit_at, parse_plain}
use Rattle.std.proofs.lemmas.List.{length-map}
use Rattle.std.proofs.lemmas.List.Elements.{All-get_or, All-head, All-tail}
use Rattle.stair_conf.specs.Commands.{IsPlainWord}
use Rattle.stair_conf.specs.Words.{AreNumbers, BeginsNumber, IsNumber}
use Rattle.stair_conf.proofs.MapLemmas.{mapped_at}

-- std's own reading of digits
numerals : IsNumeralModel (AllDigits 10) (digits_value 10)
numerals = numerals_by_value (AllDigits 10) tells_digits

-- a zero stands first only in the text of 0
zero_alone-decimal : (n : ℕ) → n < 2 ^ 64 → get_or (decimal n) 0 0 ≡ 48 → length (decimal n) ≡ 1
zero_alone-decimal zero fits zero_first = ap length (decimal_digit 0 (lit< tt))
zero_alone-decimal (suc n) fits zero_first =
    absurd (omega (arith, zero_first, first_decimal (suc n) (omega arith) fits))

-- the text of a number begins as a number does
pub begins-decimal : (n : ℕ) → n < 2 ^ 64 → BeginsNumber (decimal n)
begins-decimal n fits = record {
  digit = digit_at (decimal n) 0 (digits_decimal numerals n fits) (decimal_nonempty n fits);
  zero_alone = zero_alone-decimal n fits;
}

-- the text of a number doesn't begin with a hyphen
pub decimal_plain : (n : ℕ) → n < 2 ^ 64 → IsPlainWord (decimal n)
decimal_plain n fits = λ hyphen. let digit = (begins-decimal n fits).digit in absurd (omega arith)

-- a word that is a number begins as one does
pub begins : (word : List ℕ) (n : ℕ) → IsNumber word n → BeginsNumber word
begins word n is =
    let P : List ℕ → Type 0 = λ w. BeginsNumber w in
    subst P (sym is.spelled) (begins-decimal n is.fits)

-- digits that begin as a number does are their value's text
spelled_by_value : (word : List ℕ) → BeginsNumber word → AllDigits 10 word → 0 < length word
    → digits_value 10 word < 2 ^ 64
    → IsNumber word (digits_value 10 word)
spelled_by_value word start digits some fits = record {
  spelled = sym (decimal-digits_value numerals word digits some start.zero_alone fits);
  fits = fits;
}

-- what `parse` gives of a word that begins as a number does
parsed_number : {E : Type 0} (word : List ℕ) (r : Result ℕ E) → ParsesUnsigned 64 10 word r → BeginsNumber word
    → (n : ℕ) → result_ok r ≡ Some n → IsNumber word n
parsed_number {E} word (Ok x) parses start n e =
    let plain : get_or word 0 0 ≢ 43 = omega (arith, start.digit) in
    let told = parse_plain numerals {E = E} 64 word (Ok x) parses plain in
    let value : digits_value 10 word ≡ n = cc told.1 in
    let P : ℕ → Type 0 = λ v. IsNumber word v in
    subst P value (spelled_by_value word start told.0.0 told.0.1 told.0.2)
parsed_number word (Err error) parses start n e = cc

-- such a word is parsed exactly where it is a number
pub parsed_iff_number : {E : Type 0} (word : List ℕ) (r : Result ℕ E) → ParsesUnsigned 64 10 word r → BeginsNumber word
    → (n : ℕ) → (result_ok r ≡ Some n) ↔ IsNumber word n
parsed_iff_number word r parses start n = (
  parsed_number word r parses start n,
  λ is. ap result_ok (parse-decimal 64 n word r is.fits is.fits is.spelled parses),
)

-- the number that a word of the list spells
number_of_word : {W : Type 0} (text : W → List ℕ) (words : List W) (i : ℕ) (d : W) (numbers : List ℕ)
    → i < length words → AreNumbers (map text words) numbers
    → IsNumber (text (get_or words i d)) (get_or numbers i 0)
number_of_word text words i d numbers in_words are =
    let same_length : length words ≡ length numbers =
    sym (length-map words text) ∙ ap length are.spelled ∙ length-map numbers decimal in
    let in_numbers : i < length numbers = omega arith in
    record {
      spelled = mapped_at text decimal words numbers i d 0 in_words are.spelled;
      fits = All-get_or (λ n. n < 2 ^ 64) numbers i 0 in_numbers are.fit;
    }

-- what reads a word exactly, and gave nothing, had no number before it
pub unread_is_no_number : (read : Option ℕ) (word : List ℕ) → ((n : ℕ) → (read ≡ Some n) ↔ IsNumber word n)
    → read ≡ None → (n : ℕ) → IsNumber word n → ⊥
unread_is_no_number read word exact none n is = let some = (exact n).1 is in cc

-- where a word is no number, the words are no numbers
pub no_numbers : {W : Type 0} (text : W → List ℕ) (words : List W) (i : ℕ) (d : W)
    → i < length words → ((n : ℕ) → IsNumber (text (get_or words i d)) n → ⊥)
    → (numbers : List ℕ) → AreNumbers (map text words) numbers → ⊥
no_numbers text words i d in_words no_number numbers are =
    no_number (get_or numbers i 0) (number_of_word text words i d numbers in_words are)

-- a list of numbers has texts of its own
pub map_decimal_injective : (xs ys : List ℕ) → All (λ x. x < 2 ^ 64) xs → All (λ y. y < 2 ^ 64) ys
    → map decimal xs ≡ map decimal ys → xs ≡ ys
map_decimal_injective [] [] xs_fit ys_fit same = refl
map_decimal_injective [] (y ∷ ys) xs_fit ys_fit same = cc
map_decimal_injective (x ∷ xs) [] xs_fit ys_fit same = cc
map_decimal_injective (x ∷ xs) (y ∷ ys) xs_fit ys_fit same =
    let heads : decimal x ≡ decimal y = cc in
    let tails : map decimal xs ≡ map decimal ys = cc in
    let first : x ≡ y =
    decimal_injective x y (All-head (λ n. n < 2 ^ 64) x xs xs_fit)
    (All-head (λ n. n < 2 ^ 64) y ys ys_fit) heads in
    let others : xs ≡ ys =
    map_decimal_injective xs ys (All-tail (λ n. n < 2 ^ 64) x xs xs_fit)
    (All-tail (λ n. n < 2 ^ 64) y ys ys_fit) tails in
    cc

-- words that are numbers up to some one of them begin with a number
pub begins_number : {X : Type 0} (text : X → List ℕ) (words : List X) (i : ℕ) (d : X) (numbers : List ℕ) (n : ℕ) → i < length words
    → AreNumbers (map text (take i words)) numbers → IsNumber (text (get_or words i d)) n
    → (x : ℕ) × IsNumber (get_or (map text words) 0 []) x
begins_number text [] i d numbers n within are is = absurd (omega (arith, within))
begins_number text (w ∷ ws) zero d numbers n within are is = (n, is)
begins_number text (w ∷ ws) (suc i) d [] n within are is = let none = are.spelled in cc
begins_number text (w ∷ ws) (suc i) d (x ∷ xs) n within are is =
    (x, record { spelled = ap (λ texts. get_or texts 0 []) are.spelled; fits = All-head (λ y. y < 2 ^ 64) x xs are.fit })
