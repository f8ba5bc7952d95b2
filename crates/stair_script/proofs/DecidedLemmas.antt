-- Whether bytes spell a line is decided: there is always an exact reading.
use Rattle.std.proofs.Common.{◌≡◌, ◌≢◌, ◌∙◌, ◌⊎◌, ℕ, zero, suc, ◌<◌, ◌^◌, Bool, true, false, List, [], ◌∷◌, ◌++◌, Option, Some, None, length, get_or, inl, inr, refl, sym, ap, arith}
use Rattle.std.specs.Prelude.{codes}
use Rattle.std.specs.Bool.{Decides}
use Rattle.std.specs.Option.{option_map}
use Rattle.std.specs.Result.{result_ok}
use Rattle.std.specs.Str.Parse.{AllDigits, digits_value}
use Rattle.std.proofs.lemmas.Bool.{cases_eq, cases_lt}
use Rattle.std.proofs.lemmas.Fmt.{digits_value-decimal}
use Rattle.std.specs.Fmt.{decimal}
use Rattle.std.proofs.lemmas.List.Elements.{All-cons, All-nil}
use Rattle.std.proofs.lemmas.Option.{none-some, same_Some}
use Rattle.std.proofs.lemmas.Slice.Eq.{bytes_eq-Decides}
use Rattle.std.proofs.lemmas.Str.Parse.{numerals_by_value, tells_digits}
use Rattle.hex.specs.Hex.{decode_sized}
use Rattle.stair_model.specs.Stripe.{SECTOR}
use Rattle.stair_model.proofs.FirstLaws.{IsKnown}
use Rattle.stair_conf.specs.Words.{IsNumber}
use Rattle.stair_script.specs.declared.line.Line.{Line}
use Rattle.stair_script.specs.declared.line.Line.TheVariants.{Blank, Read, Write, Scrub, Replace, Rebuild}
use Rattle.stair_script.specs.Line.{AreDigits, SpellsLine}
use Rattle.stair_script.proofs.WordLemmas.{HasNoSpace}
use Rattle.stair_script.proofs.LineLemmas.{line_once}
use Rattle.stair_script.proofs.ReadLemmas.{MakesLine, ReadsExactly, ReadsLine, behind, digits_read, no_command_read, no_digits_read, no_line_read, no_number_read, no_write_read, number_read, read_makes, rebuild_makes, replace_makes, scrub_makes, write_read}

-- there is an exact reading
abbrev CanRead : {X : Type 0} → (X → Type 0) → Type 0
CanRead {X} Says = (read : Option X) × ReadsExactly read Says

-- ---- numbers and words

known_by_test : {P : Type 0} (test : Bool) → Decides test P → IsKnown P
known_by_test true decides = inl (decides.0 refl)
known_by_test false decides = inr (λ p. let passes : false ≡ true = decides.1 p in cc)

known_bytes : (a b : List ℕ) → IsKnown (a ≡ b)
known_bytes a b = known_by_test _ (bytes_eq-Decides a b)

-- a number is the value of its digits
number_value : (word : List ℕ) (n : ℕ) → IsNumber word n → digits_value 10 word ≡ n
number_value word n is =
    ap (digits_value 10) is.spelled ∙ digits_value-decimal (numerals_by_value (AllDigits 10) tells_digits) n is.fits

can_read_number : (word : List ℕ) → CanRead (IsNumber word)
can_read_number word =
    elim (known_bytes word (decimal (digits_value 10 word))) [
      | inr other ↦ (None, λ n. ((λ same. cc), λ is. absurd (other (is.spelled ∙ ap decimal (sym (number_value word n is))))))
      | inl spelled ↦
          elim (cases_lt (digits_value 10 word) (2 ^ 64)) [
            | inl fits ↦ (
              Some (digits_value 10 word),
              λ n. (
                (λ same. rw (sym (same_Some _ _ same)) (record { spelled = spelled; fits = fits })),
                (λ is. ap Some (number_value word n is)),
              ),
            )
            | inr great ↦ (
              None,
              λ n. (
                (λ same. cc),
                (λ is. let value = number_value word n is in let fits = is.fits in absurd (omega arith)),
              ),
            )
          ]
    ]

-- ---- the first word

-- the bytes are a word, a space and the rest
record IsCut (bytes first rest : List ℕ) : Type 0 where
  parts : bytes ≡ first ++ 32 ∷ rest
  no_space : HasNoSpace first

-- a space is among the bytes, or isn't
data Cut (bytes : List ℕ) : Type 0 where
  at_space : (first rest : List ℕ) → IsCut bytes first rest → Cut bytes
  no_space : ((i : ℕ) → i < length bytes → get_or bytes i 0 ≢ 32) → Cut bytes

with_front : (b : ℕ) (bytes : List ℕ) → (b ≡ 32 → ⊥) → Cut bytes → Cut (b ∷ bytes)
with_front b bytes other (at_space first rest cut) = at_space (b ∷ first) rest (record {
  parts = ap (λ text. b ∷ text) cut.parts;
  no_space = All-cons (λ c. c ≢ 32) b first other cut.no_space;
})
with_front b bytes other (no_space none) = no_space none_in
  where
    none_in : (i : ℕ) → i < length (b ∷ bytes) → get_or (b ∷ bytes) i 0 ≢ 32
    none_in zero within = other
    none_in (suc i) within = none i (omega arith)

cut_of : (bytes : List ℕ) → Cut bytes
cut_of [] = no_space (λ i within. absurd (omega arith))
cut_of (b ∷ bytes) =
    elim (cases_eq b 32) [
      | inl space ↦ at_space [] bytes (record { parts = ap (λ c. c ∷ bytes) space; no_space = All-nil (λ c. c ≢ 32) })
      | inr other ↦ with_front b bytes other (cut_of bytes)
    ]

-- ---- lines

can_read_parts : (values block digits : List ℕ) → IsCut values block digits → (number : Option ℕ) → ReadsExactly number (IsNumber block)
    → (sector : Option (List ℕ)) → ReadsExactly sector (AreDigits digits) → CanRead (SpellsLine (codes "write " ++ values))
can_read_parts values block digits cut None number sector exact = (None, no_number_read values block digits cut.parts cut.no_space number)
can_read_parts values block digits cut (Some n) number None exact = (None, no_digits_read values block digits cut.parts cut.no_space exact)
can_read_parts values block digits cut (Some n) number (Some contents) exact =
    (Some (Write n contents), write_read values block digits n contents cut.parts cut.no_space number exact)

can_read_write : (values : List ℕ) → CanRead (SpellsLine (codes "write " ++ values))
can_read_write values =
    elim (cut_of values) [
      | no_space none ↦ (None, no_write_read values none)
      | at_space block digits cut ↦
          let number = can_read_number block in
          can_read_parts values block digits cut number.0 number.1 (result_ok (decode_sized digits SECTOR)) (digits_read digits _ refl)
    ]

can_read_command : (bytes command values word : List ℕ) (make : ℕ → Line) → MakesLine word make → bytes ≡ command ++ 32 ∷ values → command ≡ word
    → CanRead (SpellsLine bytes)
can_read_command bytes command values word make makes parts is =
    let number = can_read_number values in
    (option_map make number.0, behind bytes command values word _ parts is (number_read word make makes values number.0 number.1))

can_read_after : (bytes command values : List ℕ) → 0 < length bytes → IsCut bytes command values → CanRead (SpellsLine bytes)
can_read_after bytes command values some cut =
    elim (known_bytes command (codes "read")) [
      | inl is ↦ can_read_command bytes command values _ Read read_makes cut.parts is
      | inr no_read ↦ elim (known_bytes command (codes "write")) [
        | inl is ↦
            let write = can_read_write values in
            (write.0, behind bytes command values (codes "write") write.0 cut.parts is write.1)
        | inr no_write ↦ elim (known_bytes command (codes "scrub")) [
          | inl is ↦ can_read_command bytes command values _ Scrub scrub_makes cut.parts is
          | inr no_scrub ↦ elim (known_bytes command (codes "replace")) [
            | inl is ↦ can_read_command bytes command values _ Replace replace_makes cut.parts is
            | inr no_replace ↦ elim (known_bytes command (codes "rebuild")) [
              | inl is ↦ can_read_command bytes command values _ Rebuild rebuild_makes cut.parts is
              | inr no_rebuild ↦ (
                None,
                no_command_read bytes command values some cut.parts cut.no_space (record {
                  no_read = no_read;
                  no_write = no_write;
                  no_scrub = no_scrub;
                  no_replace = no_replace;
                  no_rebuild = no_rebuild;
                }),
              )
            ]
          ]
        ]
      ]
    ]

can_read_line : (bytes : List ℕ) → CanRead (SpellsLine bytes)
can_read_line [] = (
  Some Blank,
  λ said. (
    (λ same. rw (sym (same_Some _ _ same)) refl),
    (λ spells. ap Some (line_once [] Blank said refl spells)),
  ),
)
can_read_line (b ∷ bytes) =
    let some : 0 < length (b ∷ bytes) = omega arith in
    elim (cut_of (b ∷ bytes)) [
      | no_space none ↦ (None, no_line_read (b ∷ bytes) some none)
      | at_space command values cut ↦ can_read_after (b ∷ bytes) command values some cut
    ]

pub line_known : (bytes : List ℕ) → ((said : Line) × SpellsLine bytes said) ⊎ ((said : Line) → SpellsLine bytes said → ⊥)
line_known bytes = let reading = can_read_line bytes in by_reading reading.0 reading.1
  where
    by_reading : (read : Option Line) → ReadsLine bytes read → ((said : Line) × SpellsLine bytes said) ⊎ ((said : Line) → SpellsLine bytes said → ⊥)
    by_reading (Some said) exact = inl (said, (exact said).0 refl)
    by_reading None exact = inr (λ said spells. none-some said ((exact said).1 spells))
