-- What is read of a line, beside what the line spells.
use Rattle.std.proofs.Common.{Bor, ◌≡◌, ◌≢◌, ◌∙◌, ◌↔◌, ℕ, ◌<◌, List, ◌∷◌, ◌++◌, Option, Some, None, Result, Ok, Err, length, get_or, refl, sym, ap, subst, arith, lit<}
use Rattle.std.specs.Prelude.{IsSomeAnd, MatchOption, MatchResult, codes}
use Rattle.std.specs.Option.{option_map}
use Rattle.std.specs.Result.{result_ok}
use Rattle.std.specs.Str.{IsUtf8}
use Rattle.std.proofs.lemmas.List.{append_cancel_left}
use Rattle.std.proofs.lemmas.List.Elements.{All-from_get_or}
use Rattle.std.proofs.lemmas.Str.Pattern.{IsSplitOnceResult, split_parts}
use Rattle.std.proofs.lemmas.Option.{none-some, same_Some}
use Rattle.hex.specs.Hex.{decode_sized}
use Rattle.stair_model.specs.Stripe.{SECTOR}
use Rattle.stair_conf.specs.Words.{IsNumber}
use Rattle.stair_script.specs.declared.line.Line.{Line}
use Rattle.stair_script.specs.declared.line.Line.TheVariants.{Blank, Read, Write, Scrub, Replace, Rebuild}
use Rattle.stair_script.specs.Line.{AreDigits, SpellsLine, SpellsNumber, SpellsSector}
use Rattle.stair_script.proofs.WordLemmas.{HasNoSpace, number-IsWord, one_cut, some_space, word-HasNoSpace}
use Rattle.stair_script.proofs.LineLemmas.{begins, command-HasNoSpace, command_of, line-IsUtf8}

-- what reads exactly, and what is made of what it read
abbrev pub ReadsExactly : {X : Type 0} → Option X → (X → Type 0) → Type 0
ReadsExactly {X} read Says = (x : X) → (read ≡ Some x) ↔ Says x

-- the same of a line
abbrev pub ReadsLine : List ℕ → Option Line → Type 0
ReadsLine bytes read = ReadsExactly read (SpellsLine bytes)

-- what `split_once` gives at a space
pub split_at_space : (bytes : List ℕ) (first rest : Bor (List ℕ)) → IsSplitOnceResult 32 bytes (Some (first, rest))
    → (bytes ≡ first.now ++ 32 ∷ rest.now) × HasNoSpace first.now
split_at_space bytes first rest split =
    let parts = split_parts 32 bytes (Some (first, rest)) split (lit< tt) in
    (parts.0, All-from_get_or (λ b. b ≢ 32) first.now 0 parts.1)

-- ---- lines of a command and a number

-- the word of this command makes a line of a number, and of nothing else
pub record MakesLine (word : List ℕ) (make : ℕ → Line) : Type 0 where
  pub spells : (values : List ℕ) (n : ℕ) → IsNumber values n → SpellsLine (word ++ 32 ∷ values) (make n)
  pub says : (values : List ℕ) (said : Line) → SpellsLine (word ++ 32 ∷ values) said → (n : ℕ) × (said ≡ make n) × IsNumber values n

pub number_read : (word : List ℕ) (make : ℕ → Line) → MakesLine word make → (values : List ℕ) (read : Option ℕ)
    → ReadsExactly read (IsNumber values) → ReadsLine (word ++ 32 ∷ values) (option_map make read)
number_read word make makes values read exact said = (
  forwards read exact,
  λ spells.
      let told = makes.says values said spells in
      ap (option_map make) ((exact told.0).1 told.2) ∙ ap Some (sym told.1),
)
  where
    forwards : (read : Option ℕ) → ReadsExactly read (IsNumber values) → option_map make read ≡ Some said → SpellsLine (word ++ 32 ∷ values) said
    forwards None exact same = cc
    forwards (Some n) exact same =
        subst (SpellsLine (word ++ 32 ∷ values)) (same_Some _ _ same) (makes.spells values n ((exact n).0 refl))

-- a line of this command has these values
number_line : (command values : List ℕ) (n : ℕ) → IsNumber values n → SpellsNumber command (command ++ 32 ∷ values) n
number_line command values n is = record { word = values; spelled = refl; number = is }

-- the number of such a line is that of its values
number_said : (command values : List ℕ) (n : ℕ) → SpellsNumber command (command ++ 32 ∷ values) n → IsNumber values n
number_said command values n spells =
    let both = append_cancel_left command _ _ spells.spelled in
    let same : values ≡ spells.word = cc in
    subst (λ word. IsNumber word n) (sym same) spells.number

read_says : (values : List ℕ) (said : Line) → SpellsLine (codes "read" ++ 32 ∷ values) said → (n : ℕ) × (said ≡ Read n) × IsNumber values n
read_says values (Read n) spells = (n, refl, number_said (codes "read") values n spells)
read_says values Blank spells = cc
read_says values said spells = let third = ap (λ (text : List ℕ). get_or text 2 0) spells.spelled in absurd (omega arith)

scrub_says : (values : List ℕ) (said : Line) → SpellsLine (codes "scrub" ++ 32 ∷ values) said → (n : ℕ) × (said ≡ Scrub n) × IsNumber values n
scrub_says values (Scrub n) spells = (n, refl, number_said (codes "scrub") values n spells)
scrub_says values Blank spells = cc
scrub_says values said spells = let third = ap (λ (text : List ℕ). get_or text 2 0) spells.spelled in absurd (omega arith)

replace_says : (values : List ℕ) (said : Line) → SpellsLine (codes "replace" ++ 32 ∷ values) said → (n : ℕ) × (said ≡ Replace n) × IsNumber values n
replace_says values (Replace n) spells = (n, refl, number_said (codes "replace") values n spells)
replace_says values Blank spells = cc
replace_says values said spells = let third = ap (λ (text : List ℕ). get_or text 2 0) spells.spelled in absurd (omega arith)

rebuild_says : (values : List ℕ) (said : Line) → SpellsLine (codes "rebuild" ++ 32 ∷ values) said → (n : ℕ) × (said ≡ Rebuild n) × IsNumber values n
rebuild_says values (Rebuild n) spells = (n, refl, number_said (codes "rebuild") values n spells)
rebuild_says values Blank spells = cc
rebuild_says values said spells = let third = ap (λ (text : List ℕ). get_or text 2 0) spells.spelled in absurd (omega arith)

pub read_makes : MakesLine (codes "read") Read
read_makes = record { spells = number_line (codes "read"); says = read_says }

pub scrub_makes : MakesLine (codes "scrub") Scrub
scrub_makes = record { spells = number_line (codes "scrub"); says = scrub_says }

pub replace_makes : MakesLine (codes "replace") Replace
replace_makes = record { spells = number_line (codes "replace"); says = replace_says }

pub rebuild_makes : MakesLine (codes "rebuild") Rebuild
rebuild_makes = record { spells = number_line (codes "rebuild"); says = rebuild_says }

-- ---- writes

-- what a write says
write_says : (values : List ℕ) (said : Line) → SpellsLine (codes "write " ++ values) said
    → (block : ℕ) × (contents : List ℕ) × (said ≡ Write block contents) × SpellsSector (codes "write") (codes "write " ++ values) block contents
write_says values (Write block contents) spells = (block, contents, refl, spells)
write_says values Blank spells = cc
write_says values said spells = let third = ap (λ (text : List ℕ). get_or text 2 0) spells.spelled in absurd (omega arith)

-- values without a space are none of a write
pub no_write_read : (values : List ℕ) → ((i : ℕ) → i < length values → get_or values i 0 ≢ 32) → ReadsLine (codes "write " ++ values) None
no_write_read values none said = (
  (λ same. cc),
  (λ spells.
      let told = write_says values said spells in
      let is : values ≡ told.3.word ++ 32 ∷ told.3.digits = append_cancel_left (codes "write ") _ _ told.3.spelled in
      absurd (some_space values told.3.word told.3.digits is none)),
)

-- where the values are cut, the parts are the block's number and the digits
write_parts : (values block digits : List ℕ) (said : Line) → values ≡ block ++ 32 ∷ digits → HasNoSpace block
    → SpellsLine (codes "write " ++ values) said → (n : ℕ) × (contents : List ℕ) × (said ≡ Write n contents) × IsNumber block n × AreDigits digits contents
write_parts values block digits said parts no_space spells =
    let told = write_says values said spells in
    let is : values ≡ told.3.word ++ 32 ∷ told.3.digits = append_cancel_left (codes "write ") _ _ told.3.spelled in
    let cut = one_cut block told.3.word digits told.3.digits no_space (word-HasNoSpace told.3.word (number-IsWord told.3.word told.0 told.3.number)) (sym parts ∙ is) in (
      told.0,
      told.1,
      told.2,
      subst (λ word. IsNumber word told.0) (sym cut.0) told.3.number,
      subst (λ text. AreDigits text told.1) (sym cut.1) told.3.sector,
    )

-- such parts are those of a write
write_line : (values block digits : List ℕ) (n : ℕ) (contents : List ℕ) → values ≡ block ++ 32 ∷ digits → IsNumber block n → AreDigits digits contents
    → SpellsLine (codes "write " ++ values) (Write n contents)
write_line values block digits n contents parts number sector = record {
  word = block;
  digits = digits;
  spelled = ap (λ text. codes "write " ++ text) parts;
  number = number;
  sector = sector;
}

pub no_number_read : (values block digits : List ℕ) → values ≡ block ++ 32 ∷ digits → HasNoSpace block → ReadsExactly None (IsNumber block)
    → ReadsLine (codes "write " ++ values) None
no_number_read values block digits parts no_space exact said = (
  (λ same. cc),
  (λ spells.
      let told = write_parts values block digits said parts no_space spells in
      absurd (none-some told.0 ((exact told.0).1 told.3))),
)

pub no_digits_read : (values block digits : List ℕ) → values ≡ block ++ 32 ∷ digits → HasNoSpace block → ReadsExactly None (AreDigits digits)
    → ReadsLine (codes "write " ++ values) None
no_digits_read values block digits parts no_space exact said = (
  (λ same. cc),
  (λ spells.
      let told = write_parts values block digits said parts no_space spells in
      absurd (none-some told.1 ((exact told.1).1 told.4))),
)

pub write_read : (values block digits : List ℕ) (n : ℕ) (contents : List ℕ) → values ≡ block ++ 32 ∷ digits → HasNoSpace block
    → ReadsExactly (Some n) (IsNumber block) → ReadsExactly (Some contents) (AreDigits digits)
    → ReadsLine (codes "write " ++ values) (Some (Write n contents))
write_read values block digits n contents parts no_space number sector said = (
  (λ same.
      subst (SpellsLine (codes "write " ++ values)) (same_Some _ _ same)
      (write_line values block digits n contents parts ((number n).0 refl) ((sector contents).0 refl))),
  (λ spells.
      let told = write_parts values block digits said parts no_space spells in
      let same_number : n ≡ told.0 = same_Some _ _ ((number told.0).1 told.3) in
      let same_sector : contents ≡ told.1 = same_Some _ _ ((sector told.1).1 told.4) in
      ap Some ((λ i. Write (same_number i) (same_sector i)) ∙ sym told.2)),
)

-- what is kept of a result reads exactly what it is
ok_read : {X E : Type 0} (r : Result X E) (read : Option X) → read ≡ result_ok r → ReadsExactly read (λ x. r ≡ Ok x)
ok_read (Ok y) read is x = (
  (λ same. ap Ok (same_Some y x (sym is ∙ same))),
  (λ same. is ∙ ap result_ok same),
)
ok_read (Err e) read is x = (
  (λ same. absurd (none-some x (sym is ∙ same))),
  (λ same. cc),
)

-- what `hex` reads of the digits
pub digits_read : (digits : List ℕ) (read : Option (List ℕ)) → read ≡ result_ok (decode_sized digits SECTOR) → ReadsExactly read (AreDigits digits)
digits_read digits read is = ok_read (decode_sized digits SECTOR) read is

-- ---- other lines

-- what is no text is no line
pub no_text_read : {T E : Type 0} (bytes : List ℕ) (r : Result T E) (P : T → Type 0) (Q : E → Type 0)
    → MatchResult r P (λ e. (IsUtf8 bytes → ⊥) × Q e) → None ≡ result_ok r → ReadsLine bytes None
no_text_read bytes (Ok text) P Q told none said = absurd (none-some text none)
no_text_read bytes (Err e) P Q told none said = ((λ same. cc), λ spells. absurd (told.0 (line-IsUtf8 bytes said spells)))

-- what isn't blank has a space
pub no_line_read : (bytes : List ℕ) → 0 < length bytes → ((i : ℕ) → i < length bytes → get_or bytes i 0 ≢ 32) → ReadsLine bytes None
no_line_read bytes some none said = (
  (λ same. cc),
  (λ spells.
      let first = begins bytes said spells some in
      absurd (some_space bytes (command_of said) first.0 first.1 none)),
)

-- and its first word is the one of its command
first_word : (bytes command values : List ℕ) (said : Line) → 0 < length bytes → bytes ≡ command ++ 32 ∷ values → HasNoSpace command
    → SpellsLine bytes said → command ≡ command_of said
first_word bytes command values said some parts no_space spells =
    let first = begins bytes said spells some in
    (one_cut command (command_of said) values first.0 no_space (command-HasNoSpace said) (sym parts ∙ first.1)).0

-- the word is none of a command
pub record IsNoCommand (word : List ℕ) : Type 0 where
  pub no_read : word ≢ codes "read"
  pub no_write : word ≢ codes "write"
  pub no_scrub : word ≢ codes "scrub"
  pub no_replace : word ≢ codes "replace"
  pub no_rebuild : word ≢ codes "rebuild"

pub no_command_read : (bytes command values : List ℕ) → 0 < length bytes → bytes ≡ command ++ 32 ∷ values → HasNoSpace command → IsNoCommand command
    → ReadsLine bytes None
no_command_read bytes command values some parts no_space other said = (
  (λ same. cc),
  (λ spells. absurd (none_of said (first_word bytes command values said some parts no_space spells) spells)),
)
  where
    none_of : (said : Line) → command ≡ command_of said → SpellsLine bytes said → ⊥
    none_of Blank same spells = let none : length bytes ≡ 0 = ap length spells in absurd (omega arith)
    none_of (Read block) same spells = other.no_read same
    none_of (Write block contents) same spells = other.no_write same
    none_of (Scrub stripe) same spells = other.no_scrub same
    none_of (Replace slot) same spells = other.no_replace same
    none_of (Rebuild steps) same spells = other.no_rebuild same

-- ---- what was read after a command's word

pub behind : (bytes command values word : List ℕ) (read : Option Line) → bytes ≡ command ++ 32 ∷ values → command ≡ word
    → ReadsLine (word ++ 32 ∷ values) read → ReadsLine bytes read
behind bytes command values word read parts is exact =
    subst (λ text. ReadsLine text read) (sym (parts ∙ ap (λ w. w ++ 32 ∷ values) is)) exact

-- a number, as `map` makes a line of it
pub mapped : (make : ℕ → Line) (number : Option ℕ) (read : Option Line) → MatchOption number (read ≡ None) (λ n. IsSomeAnd read (λ said. said ≡ make n))
    → read ≡ option_map make number
mapped make None read is = is
mapped make (Some n) (Some said) is = ap Some is
mapped make (Some n) None is = absurd is

pub command_read : (word : List ℕ) (make : ℕ → Line) → MakesLine word make → (bytes command values : List ℕ) (number : Option ℕ) (read : Option Line)
    → bytes ≡ command ++ 32 ∷ values → command ≡ word → ReadsExactly number (IsNumber values) → read ≡ option_map make number
    → ReadsLine bytes read
command_read word make makes bytes command values number read parts is exact made =
    subst (ReadsLine bytes) (sym made)
    (behind bytes command values word (option_map make number) parts is (number_read word make makes values number exact))
