-- What bytes that spell a line are, and that they spell one line.
use Rattle.std.proofs.Common.{◌≡◌, ◌∙◌, ℕ, ◌<◌, ◌≤◌, ◌^◌, List, [], ◌∷◌, ◌++◌, length, length-append, get_or, refl, sym, ap, arith}
use Rattle.std.specs.Prelude.{All, codes}
use Rattle.std.specs.Int.{IsInRange}
use Rattle.std.specs.Fmt.{decimal}
use Rattle.std.specs.Str.{IsUtf8}
use Rattle.std.proofs.lemmas.Fmt.{decimal_injective}
use Rattle.std.proofs.lemmas.List.{append_cancel_left}
use Rattle.std.proofs.lemmas.List.Elements.{All-append, All-cons, All-nil, All-weaker}
use Rattle.std.proofs.lemmas.Str.{IsUtf8-from_ascii}
use Rattle.std.proofs.lemmas.Str.Ascii.{IsAscii-from_all}
use Rattle.hex.specs.Hex.{decode_sized, encode_lower}
use Rattle.stair_model.specs.Stripe.{SECTOR}
use Rattle.stair_conf.specs.Words.{IsNumber}
use Rattle.stair_script.specs.declared.line.Line.{Line}
use Rattle.stair_script.specs.declared.line.Line.TheVariants.{Blank, Read, Write, Scrub, Replace, Rebuild}
use Rattle.stair_script.specs.Line.{IsLine, SpellsLine, SpellsNumber, printed}
use Rattle.stair_script.proofs.WordLemmas.{HasNoSpace, IsWord, digits-IsSector, digits-IsWord, length-digits, length-number, lower_digits-AreDigits, number-IsWord, one_cut, tested-IsWord, word-HasNoSpace}

-- ---- the words of a line

-- the word of the command
abbrev pub command_of : Line → List ℕ
command_of Blank = []
command_of (Read block) = codes "read"
command_of (Write block contents) = codes "write"
command_of (Scrub stripe) = codes "scrub"
command_of (Replace slot) = codes "replace"
command_of (Rebuild steps) = codes "rebuild"

command-IsWord : (said : Line) → IsWord (command_of said)
command-IsWord Blank = All-nil (IsInRange 33 126)
command-IsWord (Read block) = tested-IsWord (codes "read") refl
command-IsWord (Write block contents) = tested-IsWord (codes "write") refl
command-IsWord (Scrub stripe) = tested-IsWord (codes "scrub") refl
command-IsWord (Replace slot) = tested-IsWord (codes "replace") refl
command-IsWord (Rebuild steps) = tested-IsWord (codes "rebuild") refl

pub command-HasNoSpace : (said : Line) → HasNoSpace (command_of said)
command-HasNoSpace said = word-HasNoSpace (command_of said) (command-IsWord said)

-- what isn't blank begins with the word of its command, and a space
pub begins : (bytes : List ℕ) (said : Line) → SpellsLine bytes said → 0 < length bytes
    → (values : List ℕ) × (bytes ≡ command_of said ++ 32 ∷ values)
begins bytes Blank spells some = let none : length bytes ≡ 0 = ap length spells in absurd (omega arith)
begins bytes (Read block) spells some = (spells.word, spells.spelled)
begins bytes (Write block contents) spells some = (spells.word ++ 32 ∷ spells.digits, spells.spelled)
begins bytes (Scrub stripe) spells some = (spells.word, spells.spelled)
begins bytes (Replace slot) spells some = (spells.word, spells.spelled)
begins bytes (Rebuild steps) spells some = (spells.word, spells.spelled)

-- ---- its bytes are printed

-- two words with a space between them
two_words : (a b : List ℕ) → IsWord a → All (IsInRange 32 126) b → All (IsInRange 32 126) (a ++ 32 ∷ b)
two_words a b a_is b_is =
    All-append (IsInRange 32 126) a (32 ∷ b)
    (All-weaker (IsInRange 33 126) (IsInRange 32 126) (λ byte range. (omega arith, omega arith)) a a_is)
    (All-cons (IsInRange 32 126) 32 b (omega arith, omega arith) b_is)

-- a word alone
one_word : (a : List ℕ) → IsWord a → All (IsInRange 32 126) a
one_word a is = All-weaker (IsInRange 33 126) (IsInRange 32 126) (λ byte range. (omega arith, omega arith)) a is

number_printable : (command bytes : List ℕ) (n : ℕ) → IsWord command → SpellsNumber command bytes n → All (IsInRange 32 126) bytes
number_printable command bytes n is spells =
    rw spells.spelled (two_words command spells.word is (one_word spells.word (number-IsWord spells.word n spells.number)))

pub line_printable : (bytes : List ℕ) (said : Line) → SpellsLine bytes said → All (IsInRange 32 126) bytes
line_printable bytes Blank spells = rw spells (All-nil (IsInRange 32 126))
line_printable bytes (Read block) spells = number_printable (codes "read") bytes block (command-IsWord (Read block)) spells
line_printable bytes (Write block contents) spells =
    let digits = one_word spells.digits (digits-IsWord spells.digits contents spells.sector) in
    let values = two_words spells.word spells.digits (number-IsWord spells.word block spells.number) digits in
    rw spells.spelled (two_words (codes "write") (spells.word ++ 32 ∷ spells.digits) (command-IsWord (Write block contents)) values)
line_printable bytes (Scrub stripe) spells = number_printable (codes "scrub") bytes stripe (command-IsWord (Scrub stripe)) spells
line_printable bytes (Replace slot) spells = number_printable (codes "replace") bytes slot (command-IsWord (Replace slot)) spells
line_printable bytes (Rebuild steps) spells = number_printable (codes "rebuild") bytes steps (command-IsWord (Rebuild steps)) spells

pub line-IsUtf8 : (bytes : List ℕ) (said : Line) → SpellsLine bytes said → IsUtf8 bytes
line-IsUtf8 bytes said spells =
    IsUtf8-from_ascii bytes
    (IsAscii-from_all bytes (All-weaker (IsInRange 32 126) (λ b. b < 128) (λ b range. omega arith) bytes (line_printable bytes said spells)))

-- ---- it is no longer than a write

number_length : (command bytes : List ℕ) (n : ℕ) → length command ≤ 7 → SpellsNumber command bytes n → length bytes ≤ 28
number_length command bytes n short spells =
    let long = length-number spells.word n spells.number in
    rw spells.spelled (omega (arith, long, length-append command (32 ∷ spells.word)))

pub line_length : (bytes : List ℕ) (said : Line) → SpellsLine bytes said → length bytes ≤ 1051
line_length bytes Blank spells = rw spells (omega arith)
line_length bytes (Read block) spells = let most = number_length (codes "read") bytes block (omega arith) spells in omega arith
line_length bytes (Write block contents) spells =
    let word = length-number spells.word block spells.number in
    let digits = length-digits spells.digits contents spells.sector in
    rw spells.spelled (omega (arith, word, digits, length-append spells.word (32 ∷ spells.digits)))
line_length bytes (Scrub stripe) spells = let most = number_length (codes "scrub") bytes stripe (omega arith) spells in omega arith
line_length bytes (Replace slot) spells = let most = number_length (codes "replace") bytes slot (omega arith) spells in omega arith
line_length bytes (Rebuild steps) spells = let most = number_length (codes "rebuild") bytes steps (omega arith) spells in omega arith

-- ---- which lines there are

pub line-IsLine : (bytes : List ℕ) (said : Line) → SpellsLine bytes said → IsLine said
line-IsLine bytes Blank spells = tt
line-IsLine bytes (Read block) spells = spells.number.fits
line-IsLine bytes (Write block contents) spells = (spells.number.fits, digits-IsSector spells.digits contents spells.sector)
line-IsLine bytes (Scrub stripe) spells = spells.number.fits
line-IsLine bytes (Replace slot) spells = spells.number.fits
line-IsLine bytes (Rebuild steps) spells = spells.number.fits

printed_number : (command : List ℕ) (n : ℕ) → n < 2 ^ 64 → SpellsNumber command (command ++ 32 ∷ decimal n) n
printed_number command n fits = record { word = decimal n; spelled = refl; number = record { spelled = refl; fits = fits } }

pub printed-SpellsLine : (said : Line) → IsLine said → SpellsLine (printed said) said
printed-SpellsLine Blank is = refl
printed-SpellsLine (Read block) is = printed_number (codes "read") block is
printed-SpellsLine (Write block contents) is = record {
  word = decimal block;
  digits = encode_lower contents;
  spelled = refl;
  number = record { spelled = refl; fits = is.0 };
  sector = lower_digits-AreDigits contents is.1;
}
printed-SpellsLine (Scrub stripe) is = printed_number (codes "scrub") stripe is
printed-SpellsLine (Replace slot) is = printed_number (codes "replace") slot is
printed-SpellsLine (Rebuild steps) is = printed_number (codes "rebuild") steps is

-- ---- bytes spell one line at most: commands differ in their third letters

same_number : (a b : List ℕ) (m n : ℕ) → IsNumber a m → IsNumber b n → a ≡ b → m ≡ n
same_number a b m n one two same =
    decimal_injective m n one.fits two.fits (sym one.spelled ∙ same ∙ two.spelled)

numbers_once : (command bytes : List ℕ) (m n : ℕ) → SpellsNumber command bytes m → SpellsNumber command bytes n → m ≡ n
numbers_once command bytes m n one two =
    let values = append_cancel_left command _ _ (sym one.spelled ∙ two.spelled) in
    let words : one.word ≡ two.word = cc in
    same_number one.word two.word m n one.number two.number words

sectors_once : (bytes : List ℕ) (m n : ℕ) (x y : List ℕ) → SpellsLine bytes (Write m x) → SpellsLine bytes (Write n y) → (m ≡ n) × (x ≡ y)
sectors_once bytes m n x y one two =
    let values : one.word ++ 32 ∷ one.digits ≡ two.word ++ 32 ∷ two.digits =
    append_cancel_left (codes "write ") _ _ (sym one.spelled ∙ two.spelled) in
    let cut = one_cut one.word two.word one.digits two.digits
    (word-HasNoSpace one.word (number-IsWord one.word m one.number))
    (word-HasNoSpace two.word (number-IsWord two.word n two.number)) values in
    let decoded = sym one.sector ∙ ap (λ digits. decode_sized digits SECTOR) cut.1 ∙ two.sector in
    (same_number one.word two.word m n one.number two.number cut.0, cc)

pub line_once : (bytes : List ℕ) (a b : Line) → SpellsLine bytes a → SpellsLine bytes b → a ≡ b
line_once bytes Blank Blank one two = refl
line_once bytes (Read m) (Read n) one two = ap Read (numbers_once (codes "read") bytes m n one two)
line_once bytes (Write m x) (Write n y) one two =
    let same = sectors_once bytes m n x y one two in
    λ i. Write (same.0 i) (same.1 i)
line_once bytes (Scrub m) (Scrub n) one two = ap Scrub (numbers_once (codes "scrub") bytes m n one two)
line_once bytes (Replace m) (Replace n) one two = ap Replace (numbers_once (codes "replace") bytes m n one two)
line_once bytes (Rebuild m) (Rebuild n) one two = ap Rebuild (numbers_once (codes "rebuild") bytes m n one two)
line_once bytes Blank b one two = let same = sym one ∙ two.spelled in cc
line_once bytes a Blank one two = let same = sym one.spelled ∙ two in cc
line_once bytes a b one two =
    let third = ap (λ (text : List ℕ). get_or text 2 0) (sym one.spelled ∙ two.spelled) in
    absurd (omega arith)
