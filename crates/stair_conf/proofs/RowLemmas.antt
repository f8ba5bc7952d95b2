-- What the rows of clap's matches say of a job.
use Rattle.std.proofs.Common.{◌≡◌, ◌∙◌, ◌<◌, ◌↔◌, ℕ, List, [], ◌∷◌, Option, Some, None, Result, Ok, Err, length, map, sym, ap, arith}
use Rattle.std.specs.Prelude.{IfOk, codes, option_map}
use Rattle.std.specs.Fmt.{decimal}
use Rattle.std.specs.Result.{result_ok}
use Rattle.std.proofs.lemmas.List.{length-map}
use Rattle.clap.specs.Words.{Text, Row, all_of, first_of, first_value, matched_of, raw_values, rows_of}
use Rattle.clap.specs.declared.parser.matches.Found.{Found}
use Rattle.clap.proofs.WalkLemmas.{first_value-rows, raw_values-rows}
use Rattle.stair_conf.specs.declared.job.Method.{Method}
use Rattle.stair_conf.specs.Rows.{HasCounted, HasGeometry, HasMethodWord, HasNameWord, HasNewVolume, HasNumberWord, HasTextWord, HasVolumeBlocks}
use Rattle.stair_conf.specs.Name.{IsName}
use Rattle.stair_conf.specs.Words.{IsNumber, IsText, SpellsCounted, SpellsGeometry, SpellsNewVolume, SpellsVolumeBlocks, method_word}

-- ---- what the getters tell

first_at : (f : Found) (id word : Text) → Some word ≡ first_value f id → first_of id (rows_of f) ≡ Some word
first_at f id word at = sym (first_value-rows f id) ∙ sym at

-- a number is read where its word is the first of its id
pub number_at : (f : Found) (id word : Text) (read : Option ℕ) → Some word ≡ first_value f id → ((n : ℕ) → (read ≡ Some n) ↔ IsNumber word n)
    → (n : ℕ) → (read ≡ Some n) ↔ HasNumberWord (rows_of f) id n
number_at f id word read at exact n =
    let first = first_at f id word at in (
      (λ is. let number = (exact n).0 is in record { first = first ∙ ap Some number.spelled; fits = number.fits }),
      (λ has.
          let same : word ≡ decimal n = let h = has.first in cc in
          (exact n).1 (record { spelled = same; fits = has.fits })),
    )

-- the same for a method
pub method_at : (f : Found) (id word : Text) (read : Option Method) → Some word ≡ first_value f id
    → ((method : Method) → (read ≡ Some method) ↔ (word ≡ method_word method))
    → (method : Method) → (read ≡ Some method) ↔ HasMethodWord (rows_of f) id method
method_at f id word read at exact method =
    let first = first_at f id word at in (
      (λ is. record { first = first ∙ ap Some ((exact method).0 is) }),
      (λ has.
          let same : word ≡ method_word method = let h = has.first in cc in
          (exact method).1 same),
    )

-- the same for a text
pub text_at : (f : Found) (id word : Text) (read : Option Text) → Some word ≡ first_value f id
    → ((text : Text) → (read ≡ Some text) ↔ ((word ≡ text) × IsText text))
    → (text : Text) → (read ≡ Some text) ↔ HasTextWord (rows_of f) id text
text_at f id word read at exact text =
    let first = first_at f id word at in (
      (λ is. let said = (exact text).0 is in record { first = first ∙ ap Some said.0; is_text = said.1 }),
      (λ has.
          let same : word ≡ text = let h = has.first in cc in
          (exact text).1 (same, has.is_text)),
    )

-- the same for a name
pub name_at : (f : Found) (id word : Text) (read : Option Text) → Some word ≡ first_value f id
    → ((name : Text) → (read ≡ Some name) ↔ ((name ≡ word) × IsName name))
    → (name : Text) → (read ≡ Some name) ↔ HasNameWord (rows_of f) id name
name_at f id word read at exact name =
    let first = first_at f id word at in (
      (λ is. let said = (exact name).0 is in record { first = first ∙ ap Some (sym said.0); is_name = said.1 }),
      (λ has.
          let same : name ≡ word = let h = has.first in cc in
          (exact name).1 (same, has.is_name)),
    )

-- an id with no word has no number, no method, no text and no name
pub none_at : {X : Type 0} (f : Found) (id : Text) (text : X → Text) (x : X) → None ≡ first_value f id → first_of id (rows_of f) ≡ Some (text x) → ⊥
none_at f id text x none first = let rows = first_value-rows f id in cc

pub all_at : (f : Found) (id : Text) (words : List Text) → Some words ≡ option_map raw_values (matched_of f id) → all_of id (rows_of f) ≡ Some words
all_at f id words at = sym (raw_values-rows f id) ∙ sym at

pub no_words_at : (f : Found) (id : Text) (words : List Text) → None ≡ option_map raw_values (matched_of f id) → all_of id (rows_of f) ≡ Some words → ⊥
no_words_at f id words none all = let rows = raw_values-rows f id in cc

-- what is read, where it is told by a result
pub read_ok : {X E : Type 0} (read : Option X) (told : Result X E) (P : X → Type 0) → read ≡ result_ok told → ((x : X) → read ≡ Some x → P x)
    → IfOk told P
read_ok read (Ok x) P same each = each x same
read_ok read (Err fault) P same each = tt

-- nothing is read, where a fault is told
pub read_none : {X E : Type 0} (read : Option X) (told : Result X E) (fault : E) (x : X) → read ≡ result_ok told → told ≡ Err fault → read ≡ Some x → ⊥
read_none read told fault x same faulty some = let none : read ≡ None = same ∙ ap result_ok faulty in cc

-- ---- the words of a geometry

-- these words stand in the rows of a geometry
pub record HoldsGeometry (rows : List Row) (a b c : Text) (d : List Text) : Type 0 where
  pub n_row : first_of (codes "N") rows ≡ Some a
  pub m_row : first_of (codes "M") rows ≡ Some b
  pub r_row : first_of (codes "R") rows ≡ Some c
  pub e_row : all_of (codes "E") rows ≡ Some d

pub geometry_spelled : (rows : List Row) (a b c : Text) (d : List Text) (n m r : ℕ) (e : List ℕ) → HoldsGeometry rows a b c d → 0 < length d
    → HasGeometry rows n m r e → SpellsGeometry [] (a ∷ b ∷ c ∷ d) n m r e
geometry_spelled rows a b c d n m r e holds some has =
    let n_is : Some a ≡ Some (decimal n) = sym holds.n_row ∙ has.n_word.first in
    let m_is : Some b ≡ Some (decimal m) = sym holds.m_row ∙ has.m_word.first in
    let r_is : Some c ≡ Some (decimal r) = sym holds.r_row ∙ has.r_word.first in
    let e_are : Some d ≡ Some (map decimal e) = sym holds.e_row ∙ has.e_words.all in
    let d_is : d ≡ map decimal e = cc in
    record {
      spelled = cc;
      some_e = omega (arith, ap length d_is, length-map e decimal);
      n_fits = has.n_word.fits;
      m_fits = has.m_word.fits;
      r_fits = has.r_word.fits;
      e_fit = has.e_words.fit;
    }

pub geometry_held : (rows : List Row) (a b c : Text) (d : List Text) (n m r : ℕ) (e : List ℕ) → HoldsGeometry rows a b c d
    → SpellsGeometry [] (a ∷ b ∷ c ∷ d) n m r e → HasGeometry rows n m r e
geometry_held rows a b c d n m r e holds spells =
    let words = spells.spelled in
    let n_is : a ≡ decimal n = cc in
    let m_is : b ≡ decimal m = cc in
    let r_is : c ≡ decimal r = cc in
    let e_are : d ≡ map decimal e = cc in
    record {
      n_word = record { first = holds.n_row ∙ ap Some n_is; fits = spells.n_fits };
      m_word = record { first = holds.m_row ∙ ap Some m_is; fits = spells.m_fits };
      r_word = record { first = holds.r_row ∙ ap Some r_is; fits = spells.r_fits };
      e_words = record { all = holds.e_row ∙ ap Some e_are; fit = spells.e_fit };
    }

-- ---- a number and a count

-- these words stand in the rows of a number and a count
pub record HoldsCounted (rows : List Row) (a b : Text) : Type 0 where
  pub number_row : first_of (codes "NUMBER") rows ≡ Some a
  pub count_row : first_of (codes "COUNT") rows ≡ Some b

pub counted_spelled : (rows : List Row) (a b : Text) (number count : ℕ) → HoldsCounted rows a b → HasCounted rows number count
    → SpellsCounted [] (a ∷ b ∷ []) number count
counted_spelled rows a b number count holds has =
    let number_is : Some a ≡ Some (decimal number) = sym holds.number_row ∙ has.number_word.first in
    let count_is : Some b ≡ Some (decimal count) = sym holds.count_row ∙ has.count_word.first in
    record { spelled = cc; number_fits = has.number_word.fits; count_fits = has.count_word.fits }

pub counted_held : (rows : List Row) (a b : Text) (number count : ℕ) → HoldsCounted rows a b → SpellsCounted [] (a ∷ b ∷ []) number count
    → HasCounted rows number count
counted_held rows a b number count holds spells =
    let words = spells.spelled in
    let number_is : a ≡ decimal number = cc in
    let count_is : b ≡ decimal count = cc in
    record {
      number_word = record { first = holds.number_row ∙ ap Some number_is; fits = spells.number_fits };
      count_word = record { first = holds.count_row ∙ ap Some count_is; fits = spells.count_fits };
    }

-- ---- the words of a volume

-- these words stand in the rows of a new volume
pub record HoldsNewVolume (rows : List Row) (a b : Text) : Type 0 where
  pub name_row : first_of (codes "NAME") rows ≡ Some a
  pub blocks_row : first_of (codes "BLOCKS") rows ≡ Some b

pub new_volume_spelled : (rows : List Row) (a b name : Text) (blocks : ℕ) → HoldsNewVolume rows a b → HasNewVolume rows name blocks
    → SpellsNewVolume [] (a ∷ b ∷ []) name blocks
new_volume_spelled rows a b name blocks holds has =
    let name_is : Some a ≡ Some name = sym holds.name_row ∙ has.name_word.first in
    let blocks_is : Some b ≡ Some (decimal blocks) = sym holds.blocks_row ∙ has.blocks_word.first in
    record { spelled = cc; is_name = has.name_word.is_name; some = has.some; fits = has.blocks_word.fits }

pub new_volume_held : (rows : List Row) (a b name : Text) (blocks : ℕ) → HoldsNewVolume rows a b → SpellsNewVolume [] (a ∷ b ∷ []) name blocks
    → HasNewVolume rows name blocks
new_volume_held rows a b name blocks holds spells =
    let words = spells.spelled in
    let name_is : a ≡ name = cc in
    let blocks_is : b ≡ decimal blocks = cc in
    record {
      name_word = record { first = holds.name_row ∙ ap Some name_is; is_name = spells.is_name };
      blocks_word = record { first = holds.blocks_row ∙ ap Some blocks_is; fits = spells.fits };
      some = spells.some;
    }

-- these words stand in the rows of blocks of a volume
pub record HoldsVolumeBlocks (rows : List Row) (a b c : Text) : Type 0 where
  pub name_row : first_of (codes "NAME") rows ≡ Some a
  pub block_row : first_of (codes "BLOCK") rows ≡ Some b
  pub count_row : first_of (codes "COUNT") rows ≡ Some c

pub volume_blocks_spelled : (rows : List Row) (a b c name : Text) (block count : ℕ) → HoldsVolumeBlocks rows a b c
    → HasVolumeBlocks rows name block count → SpellsVolumeBlocks [] (a ∷ b ∷ c ∷ []) name block count
volume_blocks_spelled rows a b c name block count holds has =
    let name_is : Some a ≡ Some name = sym holds.name_row ∙ has.name_word.first in
    let block_is : Some b ≡ Some (decimal block) = sym holds.block_row ∙ has.block_word.first in
    let count_is : Some c ≡ Some (decimal count) = sym holds.count_row ∙ has.count_word.first in
    record { spelled = cc; is_name = has.name_word.is_name; block_fits = has.block_word.fits; count_fits = has.count_word.fits }

pub volume_blocks_held : (rows : List Row) (a b c name : Text) (block count : ℕ) → HoldsVolumeBlocks rows a b c
    → SpellsVolumeBlocks [] (a ∷ b ∷ c ∷ []) name block count → HasVolumeBlocks rows name block count
volume_blocks_held rows a b c name block count holds spells =
    let words = spells.spelled in
    let name_is : a ≡ name = cc in
    let block_is : b ≡ decimal block = cc in
    let count_is : c ≡ decimal count = cc in
    record {
      name_word = record { first = holds.name_row ∙ ap Some name_is; is_name = spells.is_name };
      block_word = record { first = holds.block_row ∙ ap Some block_is; fits = spells.block_fits };
      count_word = record { first = holds.count_row ∙ ap Some count_is; fits = spells.count_fits };
    }
