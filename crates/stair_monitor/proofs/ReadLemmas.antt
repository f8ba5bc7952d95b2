-- What reading a line finds, as well as the event that it spells.
use Rattle.std.proofs.Common.{◌≡◌, ◌≢◌, ◌∙◌, ℕ, ◌<◌, List, ◌∷◌, ◌++◌, Option, Some, None, Result, Ok, Err, length, get_or, refl, sym, ap, subst, arith}
use Rattle.std.specs.Prelude.{All, MatchResult, codes}
use Rattle.std.specs.Int.{IsInRange}
use Rattle.std.specs.Result.{result_ok}
use Rattle.std.specs.Str.{IsUtf8}
use Rattle.std.specs.Str.Pattern.{FindsTextPrefix, LacksTextAt, StripsPrefix}
use Rattle.std.proofs.lemmas.List.{append_cancel_left}
use Rattle.std.proofs.lemmas.List.Elements.{All-append, All-cons, All-weaker}
use Rattle.std.proofs.lemmas.Option.{none-some, same_Some}
use Rattle.std.proofs.lemmas.Str.{IsUtf8-from_ascii}
use Rattle.std.proofs.lemmas.Str.Ascii.{IsAscii-from_all}
use Rattle.stair_rack.specs.declared.watcher.Event.{Event}
use Rattle.stair_rack.specs.declared.watcher.Event.TheVariants.{Fenced, Repaired, Admitted, Promoted}
use Rattle.stair_conf.specs.Words.{IsNumber}
use Rattle.stair_script.proofs.ReadLemmas.{ReadsExactly}
use Rattle.stair_script.proofs.WordLemmas.{HasNoSpace, IsWord, number-IsWord, one_cut, some_space, tested-IsWord, word-HasNoSpace}
use Rattle.stair_script.specs.Line.{SpellsNumber}
use Rattle.stair_script.specs.Events.{IsEvent, SpellsEvent}
use Rattle.stair_monitor.proofs.EventLemmas.{event_once}

abbrev pub ReadsEvent : List ℕ → Option Event → Type 0
ReadsEvent bytes read = ReadsExactly read (SpellsEvent bytes)

-- an event that is spelled is read exactly
pub some_read : (bytes : List ℕ) (event : Event) → SpellsEvent bytes event → ReadsEvent bytes (Some event)
some_read bytes event spells said = (
  (λ same. subst (SpellsEvent bytes) (same_Some _ _ same) spells),
  (λ other. ap Some (event_once bytes event said spells other)),
)

none_read : (bytes : List ℕ) → ((said : Event) → SpellsEvent bytes said → ⊥) → ReadsEvent bytes None
none_read bytes none said = ((λ same. cc), (λ spells. absurd (none said spells)))

-- ---- each byte of a line is that of a word, or a space

module _ (Is : ℕ → Type 0) (of_word : (b : ℕ) → IsInRange 33 126 b → Is b) (space : Is 32) where
  one_word : (word : List ℕ) → IsWord word → All Is word
  one_word word is = All-weaker (IsInRange 33 126) Is of_word word is

  two_words : (word rest : List ℕ) → IsWord word → All Is rest → All Is (word ++ 32 ∷ rest)
  two_words word rest is so = All-append Is word (32 ∷ rest) (one_word word is) (All-cons Is 32 rest space so)

  number_so : (name bytes : List ℕ) (n : ℕ) → IsWord name → SpellsNumber name bytes n → All Is bytes
  number_so name bytes n is spells =
      rw spells.spelled (two_words name spells.word is (one_word spells.word (number-IsWord spells.word n spells.number)))

  bytes_so : (bytes : List ℕ) (said : Event) → SpellsEvent bytes said → All Is bytes
  bytes_so bytes (Fenced slot) spells = number_so (codes "fenced") bytes slot (tested-IsWord (codes "fenced") refl) spells.words
  bytes_so bytes (Repaired stripe cells) spells =
      let words = spells.words in
      let last = one_word words.cells_word (number-IsWord words.cells_word cells words.cells_number) in
      let third = two_words (codes "cells") words.cells_word (tested-IsWord (codes "cells") refl) last in
      let second = two_words words.stripe_word (codes "cells " ++ words.cells_word)
      (number-IsWord words.stripe_word stripe words.stripe_number) third in
      let first = two_words (codes "stripe") (words.stripe_word ++ (codes " cells " ++ words.cells_word)) (tested-IsWord (codes "stripe") refl) second in
      rw words.spelled
      (two_words (codes "repaired") (codes "stripe " ++ (words.stripe_word ++ (codes " cells " ++ words.cells_word)))
      (tested-IsWord (codes "repaired") refl) first)
  bytes_so bytes (Admitted slot) spells = number_so (codes "admitted") bytes slot (tested-IsWord (codes "admitted") refl) spells.words
  bytes_so bytes (Promoted slot) spells = number_so (codes "promoted") bytes slot (tested-IsWord (codes "promoted") refl) spells.words

-- none ends a line
pub spells-inner : (bytes : List ℕ) (said : Event) → SpellsEvent bytes said → All (λ b. b ≢ 10) bytes
spells-inner = bytes_so (λ b. b ≢ 10) (λ b range is. omega (arith, range.0, is)) (λ is. omega (arith, is))

-- ---- what is no text spells no event

spells_small : (bytes : List ℕ) (said : Event) → SpellsEvent bytes said → All (λ b. b < 128) bytes
spells_small = bytes_so (λ b. b < 128) (λ b range. omega arith) (omega arith)

spells-IsUtf8 : (bytes : List ℕ) (said : Event) → SpellsEvent bytes said → IsUtf8 bytes
spells-IsUtf8 bytes said spells = IsUtf8-from_ascii bytes (IsAscii-from_all bytes (spells_small bytes said spells))

pub no_text_read : {T E : Type 0} (bytes : List ℕ) (r : Result T E) (P : T → Type 0) (Q : E → Type 0)
    → MatchResult r P (λ e. (IsUtf8 bytes → ⊥) × Q e) → None ≡ result_ok r → ReadsEvent bytes None
no_text_read bytes (Ok text) P Q told none said = absurd (none-some text none)
no_text_read bytes (Err e) P Q told none said = none_read bytes (λ said spells. told.0 (spells-IsUtf8 bytes said spells)) said

-- ---- a name and a number

pub named : (name line word values : List ℕ) (n : ℕ) → line ≡ word ++ 32 ∷ values → word ≡ name → IsNumber values n → SpellsNumber name line n
named name line word values n parts is number = record {
  word = values;
  spelled = parts ∙ ap (λ w. w ++ 32 ∷ values) is;
  number = number;
}

-- ---- repairs

-- the rest after a front that is taken off
pub stripped : (front bytes rest : List ℕ) → StripsPrefix (FindsTextPrefix front) bytes rest → bytes ≡ front ++ rest
stripped front bytes rest strips = strips.1.1 ∙ ap (λ text. front ++ text) (sym strips.2)

-- the words of a repair after `repaired stripe`
record RepairWords (rest : List ℕ) : Type 0 where
  stripe : ℕ
  cells : ℕ
  stripe_word : List ℕ
  cells_word : List ℕ
  parts : rest ≡ stripe_word ++ 32 ∷ (codes "cells " ++ cells_word)
  stripe_number : IsNumber stripe_word stripe
  cells_number : IsNumber cells_word cells
  range : IsEvent (Repaired stripe cells)

repair_words : (values rest : List ℕ) (said : Event) → values ≡ codes "stripe " ++ rest → SpellsEvent (codes "repaired " ++ values) said
    → RepairWords rest
repair_words values rest (Repaired stripe cells) is spells =
    let words = spells.words in record {
      stripe = stripe;
      cells = cells;
      stripe_word = words.stripe_word;
      cells_word = words.cells_word;
      parts = append_cancel_left (codes "repaired stripe ") rest (words.stripe_word ++ 32 ∷ (codes "cells " ++ words.cells_word))
          (ap (λ text. codes "repaired " ++ text) (sym is) ∙ words.spelled);
      stripe_number = words.stripe_number;
      cells_number = words.cells_number;
      range = spells.range;
    }
repair_words values rest said is spells = let first = ap (λ (text : List ℕ). get_or text 0 0) spells.words.spelled in absurd (omega arith)

-- there is a space after the number of the stripe
pub no_cut_read : (values rest : List ℕ) → values ≡ codes "stripe " ++ rest → ((i : ℕ) → i < length rest → get_or rest i 0 ≢ 32)
    → ReadsEvent (codes "repaired " ++ values) None
no_cut_read values rest is none =
    none_read (codes "repaired " ++ values)
    (λ said spells.
    let words = repair_words values rest said is spells in
    some_space rest words.stripe_word (codes "cells " ++ words.cells_word) words.parts none)

-- the words of a repair, before that space and after it
record CutWords (first second : List ℕ) : Type 0 where
  stripe : ℕ
  cells : ℕ
  cells_word : List ℕ
  behind : second ≡ codes "cells " ++ cells_word
  stripe_number : IsNumber first stripe
  cells_number : IsNumber cells_word cells
  range : IsEvent (Repaired stripe cells)

module _ (values rest first second : List ℕ) (is : values ≡ codes "stripe " ++ rest)
    (cut : (rest ≡ first ++ 32 ∷ second) × HasNoSpace first) where
  cut_words : (said : Event) → SpellsEvent (codes "repaired " ++ values) said → CutWords first second
  cut_words said spells =
      let words = repair_words values rest said is spells in
      let same = one_cut first words.stripe_word second (codes "cells " ++ words.cells_word) cut.1
      (word-HasNoSpace words.stripe_word (number-IsWord words.stripe_word words.stripe words.stripe_number)) (sym cut.0 ∙ words.parts) in
      record {
        stripe = words.stripe;
        cells = words.cells;
        cells_word = words.cells_word;
        behind = same.1;
        stripe_number = subst (λ word. IsNumber word words.stripe) (sym same.0) words.stripe_number;
        cells_number = words.cells_number;
        range = words.range;
      }

  pub no_stripe_read : ReadsExactly None (λ n. IsNumber first n × IsInRange 0 4294967294 n) → ReadsEvent (codes "repaired " ++ values) None
  no_stripe_read exact =
      none_read (codes "repaired " ++ values)
      (λ said spells.
      let words = cut_words said spells in
      let few = words.range.0 in
      none-some words.stripe ((exact words.stripe).1 (words.stripe_number, (omega arith, omega arith))))

  pub no_word_read : LacksTextAt (codes "cells ") second 0 → ReadsEvent (codes "repaired " ++ values) None
  no_word_read lacks =
      none_read (codes "repaired " ++ values)
      (λ said spells. let words = cut_words said spells in lacks words.cells_word words.behind)

  pub no_cells_read : (word : List ℕ) → second ≡ codes "cells " ++ word → ReadsExactly None (λ n. IsNumber word n × IsInRange 1 1024 n)
      → ReadsEvent (codes "repaired " ++ values) None
  no_cells_read word behind exact =
      none_read (codes "repaired " ++ values)
      (λ said spells.
      let words = cut_words said spells in
      let same = append_cancel_left (codes "cells ") words.cells_word word (sym words.behind ∙ behind) in
      none-some words.cells
      ((exact words.cells).1 (subst (λ text. IsNumber text words.cells) same words.cells_number, words.range.1)))

  pub repair_read : (word : List ℕ) (stripe cells : ℕ) → second ≡ codes "cells " ++ word → IsNumber first stripe × IsInRange 0 4294967294 stripe
      → IsNumber word cells × IsInRange 1 1024 cells → ReadsEvent (codes "repaired " ++ values) (Some (Repaired stripe cells))
  repair_read word stripe cells behind one two =
      let most = one.1.1 in
      some_read (codes "repaired " ++ values) (Repaired stripe cells) (record {
        words = record {
          stripe_word = first;
          cells_word = word;
          spelled = ap (λ text. codes "repaired " ++ text) is ∙ ap (λ text. codes "repaired stripe " ++ text) cut.0
              ∙ ap (λ text. codes "repaired stripe " ++ (first ++ 32 ∷ text)) behind;
          stripe_number = one.0;
          cells_number = two.0;
        };
        range = (omega arith, two.1);
      })
