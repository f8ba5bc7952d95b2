-- What clap makes of the words of each command.
use Rattle.std.proofs.Common.{◌≡◌, ◌∙◌, ◌≤◌, ◌+◌, ◌&&◌, ℕ, Bool, true, false, List, [], ◌∷◌, Some, None, length, map, refl, sym, ap, ap₂, subst, arith}
use Rattle.std.proofs.lemmas.List.{length-append, length-map}
use Rattle.std.specs.Prelude.{codes, is_some}
use Rattle.std.specs.List.{list_all}
use Rattle.std.specs.Fmt.{decimal}
use Rattle.std.proofs.lemmas.Bool.{le-leb}
use Rattle.std.proofs.lemmas.List.Elements.{All-head}
use Rattle.clap.specs.Lexer.{usize_max}
use Rattle.clap.specs.Values.{reading_of}
use Rattle.clap.specs.ValueTests.{accepts}
use Rattle.clap.specs.Walk.{Row, Rule, Text, Walk, all_of, finished, first_of, nothing_held, rows_after, rows_of, walk_from}
use Rattle.clap.specs.Matches.{found_of}
use Rattle.clap.specs.Simple.{App, HasMatchesOf, Shape, argument_words, built, entered, is_simple, matches_of}
use Rattle.clap.specs.Faults.{built_fault, fault_of, is_simple_and_free}
use Rattle.clap.specs.Takes.{built_takes, default_passes, entered_passes, is_valid, settle_passes}
use Rattle.clap.specs.declared.builder.value_parser.ValueParser.TheVariants as vp
use Rattle.clap.specs.declared.parser.matches.ValueSource.TheVariants.{CommandLine}
use Rattle.clap.specs.declared.parser.matches.ArgMatches.{ArgMatches}
use Rattle.stair_conf.specs.declared.job.Method.{Method}
use Rattle.stair_conf.specs.Commands.{HasNoOption, IsPlainWord, counted_app, geometry_app, slot_app, stripe_app, text_app}
use Rattle.stair_conf.specs.Rows.{HasCounted, HasGeometry, HasMethodWord, HasNumberWord, HasTextWord}
use Rattle.stair_conf.specs.Words.{SpellsCounted, SpellsGeometry, SpellsSlot, SpellsText, method_word}
use Rattle.stair_conf.proofs.RowLemmas.{HoldsCounted, HoldsGeometry, counted_held, counted_spelled, geometry_held, geometry_spelled}
use Rattle.stair_conf.proofs.WordsLemmas.{behind, in_front}
use Rattle.stair_conf.proofs.WalkLaws.{IsPlainWalk, all_placed, all_placed-last, at_last, has_no_tail, neither_fails, places_pass, places_pass-last, walk-placed, walk_fault-places, walk_passes-placed}

-- ---- a command of positionals alone

-- the walk before the first word
abbrev pub start : Walk
start = walk_from nothing_held

pub start_plain : IsPlainWalk start
start_plain = record { going_on = refl; not_trailing = refl; no_option = tt }

pub rows_after-placed : (c : List Rule) → has_no_tail c ≡ true → (words : List Text) → HasNoOption words
    → rows_after c [] words ≡ finished c (all_placed c start words).held
rows_after-placed c no_tail words none = ap (λ (w : Walk). finished c w.held) (walk-placed c no_tail words none start start_plain)

-- whether clap takes the words with which the walk ends so
abbrev pub level_takes : Shape → Walk → Bool → Bool
level_takes s end passes =
    let a : App = record { top = s; subs = [] } in
    entered_passes a end.stopped && (passes && (settle_passes s.rules s.args_override_self end.held
    && (list_all default_passes s.rules && is_valid s (finished s.rules end.held) (is_some (entered a end.stopped)))))

pub built_takes-placed : (s : Shape) → has_no_tail s.rules ≡ true → (words : List Text) → HasNoOption words
    → built_takes (record { top = s; subs = [] }) nothing_held words ≡ level_takes s (all_placed s.rules start words) (places_pass s start words)
built_takes-placed s no_tail words none =
    ap₂ (level_takes s) (walk-placed s.rules no_tail words none start start_plain)
    (walk_passes-placed s no_tail words none start start_plain)

-- ---- the rows of the words

-- the row of a positional with these words
abbrev row : Text → List Text → Row
row id words = record { id = id; values = words; count = None; source = Some CommandLine; reading = reading_of vp.String }

abbrev geometry_rules : List Rule
geometry_rules = (built geometry_app).top.rules

geometry_placed : (a b c d : Text) (rest : List Text)
    → all_placed geometry_rules start (a ∷ b ∷ c ∷ d ∷ rest)
    ≡ at_last (row (codes "N") (a ∷ []) ∷ row (codes "M") (b ∷ []) ∷ row (codes "R") (c ∷ []) ∷ []) (codes "E") (d ∷ rest) 4
geometry_placed a b c d rest = all_placed-last geometry_rules (codes "E") 4 refl _ (d ∷ []) rest

geometry_rows : (a b c d : Text) (rest : List Text) → HasNoOption (a ∷ b ∷ c ∷ d ∷ rest)
    → rows_after geometry_rules [] (a ∷ b ∷ c ∷ d ∷ rest)
    ≡ row (codes "N") (a ∷ []) ∷ row (codes "M") (b ∷ []) ∷ row (codes "R") (c ∷ []) ∷ row (codes "E") (d ∷ rest) ∷ []
geometry_rows a b c d rest none =
    rows_after-placed geometry_rules refl (a ∷ b ∷ c ∷ d ∷ rest) none
    ∙ ap (λ (w : Walk). finished geometry_rules w.held) (geometry_placed a b c d rest)

geometry_holds : (a b c d : Text) (rest : List Text) → HasNoOption (a ∷ b ∷ c ∷ d ∷ rest)
    → HoldsGeometry (rows_after geometry_rules [] (a ∷ b ∷ c ∷ d ∷ rest)) a b c (d ∷ rest)
geometry_holds a b c d rest none =
    let rows = geometry_rows a b c d rest none in
    record {
      n_row = ap (first_of (codes "N")) rows;
      m_row = ap (first_of (codes "M")) rows;
      r_row = ap (first_of (codes "R")) rows;
      e_row = ap (all_of (codes "E")) rows;
    }

abbrev stripe_rules : List Rule
stripe_rules = (built stripe_app).top.rules

stripe_placed : (method a b c d : Text) (rest : List Text)
    → all_placed stripe_rules start (method ∷ a ∷ b ∷ c ∷ d ∷ rest)
    ≡ at_last (row (codes "METHOD") (method ∷ []) ∷ row (codes "N") (a ∷ []) ∷ row (codes "M") (b ∷ []) ∷ row (codes "R") (c ∷ []) ∷ []) (codes "E") (d ∷ rest) 5
stripe_placed method a b c d rest = all_placed-last stripe_rules (codes "E") 5 refl _ (d ∷ []) rest

stripe_rows : (method a b c d : Text) (rest : List Text) → HasNoOption (method ∷ a ∷ b ∷ c ∷ d ∷ rest)
    → rows_after stripe_rules [] (method ∷ a ∷ b ∷ c ∷ d ∷ rest)
    ≡ row (codes "METHOD") (method ∷ []) ∷ row (codes "N") (a ∷ []) ∷ row (codes "M") (b ∷ []) ∷ row (codes "R") (c ∷ []) ∷ row (codes "E") (d ∷ rest) ∷ []
stripe_rows method a b c d rest none =
    rows_after-placed stripe_rules refl (method ∷ a ∷ b ∷ c ∷ d ∷ rest) none
    ∙ ap (λ (w : Walk). finished stripe_rules w.held) (stripe_placed method a b c d rest)

stripe_holds : (method a b c d : Text) (rest : List Text) → HasNoOption (method ∷ a ∷ b ∷ c ∷ d ∷ rest)
    → (first_of (codes "METHOD") (rows_after stripe_rules [] (method ∷ a ∷ b ∷ c ∷ d ∷ rest)) ≡ Some method)
    × HoldsGeometry (rows_after stripe_rules [] (method ∷ a ∷ b ∷ c ∷ d ∷ rest)) a b c (d ∷ rest)
stripe_holds method a b c d rest none =
    let rows = stripe_rows method a b c d rest none in (
      ap (first_of (codes "METHOD")) rows,
      record {
        n_row = ap (first_of (codes "N")) rows;
        m_row = ap (first_of (codes "M")) rows;
        r_row = ap (first_of (codes "R")) rows;
        e_row = ap (all_of (codes "E")) rows;
      },
    )

abbrev counted_rules : List Rule
counted_rules = (built counted_app).top.rules

counted_holds : (a b : Text) → HasNoOption (a ∷ b ∷ []) → HoldsCounted (rows_after counted_rules [] (a ∷ b ∷ [])) a b
counted_holds a b none =
    let rows = rows_after-placed counted_rules refl (a ∷ b ∷ []) none in
    record { number_row = ap (first_of (codes "NUMBER")) rows; count_row = ap (first_of (codes "COUNT")) rows }

abbrev slot_rules : List Rule
slot_rules = (built slot_app).top.rules

slot_holds : (a : Text) → HasNoOption (a ∷ []) → first_of (codes "SLOT") (rows_after slot_rules [] (a ∷ [])) ≡ Some a
slot_holds a none = ap (first_of (codes "SLOT")) (rows_after-placed slot_rules refl (a ∷ []) none)

abbrev text_rules : List Rule
text_rules = (built text_app).top.rules

text_holds : (a : Text) → HasNoOption (a ∷ []) → first_of (codes "TEXT") (rows_after text_rules [] (a ∷ [])) ≡ Some a
text_holds a none = ap (first_of (codes "TEXT")) (rows_after-placed text_rules refl (a ∷ []) none)

-- ---- the words are taken

strings_pass : (words : List Text) → list_all (accepts false vp.String) words ≡ true
strings_pass [] = refl
strings_pass (word ∷ words) = strings_pass words

pub geometry_takes : (a b c d : Text) (rest : List Text) → HasNoOption (a ∷ b ∷ c ∷ d ∷ rest) → length (d ∷ rest) ≤ usize_max
    → built_takes (built geometry_app) nothing_held (a ∷ b ∷ c ∷ d ∷ rest) ≡ true
geometry_takes a b c d rest none few =
    built_takes-placed (built geometry_app).top refl (a ∷ b ∷ c ∷ d ∷ rest) none
    ∙ ap₂ (level_takes (built geometry_app).top) (geometry_placed a b c d rest)
    (places_pass-last (built geometry_app).top (codes "E") 4 refl
    (row (codes "N") (a ∷ []) ∷ row (codes "M") (b ∷ []) ∷ row (codes "R") (c ∷ []) ∷ []) (d ∷ []) rest)
    ∙ rw (le-leb 1 (length (d ∷ rest)) (omega arith), le-leb (length (d ∷ rest)) usize_max few, strings_pass rest) refl

pub stripe_takes : (method a b c d : Text) (rest : List Text) → HasNoOption (method ∷ a ∷ b ∷ c ∷ d ∷ rest) → length (d ∷ rest) ≤ usize_max
    → built_takes (built stripe_app) nothing_held (method ∷ a ∷ b ∷ c ∷ d ∷ rest) ≡ true
stripe_takes method a b c d rest none few =
    built_takes-placed (built stripe_app).top refl (method ∷ a ∷ b ∷ c ∷ d ∷ rest) none
    ∙ ap₂ (level_takes (built stripe_app).top) (stripe_placed method a b c d rest)
    (places_pass-last (built stripe_app).top (codes "E") 5 refl
    (row (codes "METHOD") (method ∷ []) ∷ row (codes "N") (a ∷ []) ∷ row (codes "M") (b ∷ []) ∷ row (codes "R") (c ∷ []) ∷ []) (d ∷ []) rest)
    ∙ rw (le-leb 1 (length (d ∷ rest)) (omega arith), le-leb (length (d ∷ rest)) usize_max few, strings_pass rest) refl

-- ---- the rows tell what the words spell

-- a geometry has at least four words
enough : (before words : List Text) (n m r : ℕ) (e : List ℕ) → SpellsGeometry before words n m r e → length before + 4 ≤ length words
enough before words n m r e spells =
    omega (arith, ap length spells.spelled, length-append before (decimal n ∷ decimal m ∷ decimal r ∷ map decimal e), length-map e decimal, spells.some_e)

-- where no row E stands no geometry is told
no_row : (rows placed : List Row) (n m r : ℕ) (e : List ℕ) → rows ≡ placed → all_of (codes "E") placed ≡ None → HasGeometry rows n m r e → ⊥
no_row rows placed n m r e same none has = let numbers = has.e_words.all in let rows_none = ap (all_of (codes "E")) same in cc

pub geometry_told : (words : List Text) → HasNoOption words → (n m r : ℕ) (e : List ℕ)
    → HasGeometry (rows_after geometry_rules [] words) n m r e → SpellsGeometry [] words n m r e
geometry_told [] none n m r e has = absurd (no_row _ _ n m r e (rows_after-placed geometry_rules refl [] none) refl has)
geometry_told (a ∷ []) none n m r e has = absurd (no_row _ _ n m r e (rows_after-placed geometry_rules refl (a ∷ []) none) refl has)
geometry_told (a ∷ b ∷ []) none n m r e has = absurd (no_row _ _ n m r e (rows_after-placed geometry_rules refl (a ∷ b ∷ []) none) refl has)
geometry_told (a ∷ b ∷ c ∷ []) none n m r e has = absurd (no_row _ _ n m r e (rows_after-placed geometry_rules refl (a ∷ b ∷ c ∷ []) none) refl has)
geometry_told (a ∷ b ∷ c ∷ d ∷ rest) none n m r e has =
    geometry_spelled _ a b c (d ∷ rest) n m r e (geometry_holds a b c d rest none) (omega arith) has

pub geometry_tells : (words : List Text) → HasNoOption words → (n m r : ℕ) (e : List ℕ)
    → SpellsGeometry [] words n m r e → HasGeometry (rows_after geometry_rules [] words) n m r e
geometry_tells (a ∷ b ∷ c ∷ d ∷ rest) none n m r e spells =
    geometry_held _ a b c (d ∷ rest) n m r e (geometry_holds a b c d rest none) spells
geometry_tells words none n m r e spells = absurd (omega (arith, enough [] words n m r e spells))

pub geometry_taken : (words : List Text) → HasNoOption words → length words ≤ usize_max → (n m r : ℕ) (e : List ℕ)
    → SpellsGeometry [] words n m r e → built_takes (built geometry_app) nothing_held words ≡ true
geometry_taken (a ∷ b ∷ c ∷ d ∷ rest) none few n m r e spells = geometry_takes a b c d rest none (omega arith)
geometry_taken words none few n m r e spells = absurd (omega (arith, enough [] words n m r e spells))

pub stripe_told : (words : List Text) → HasNoOption words → (method : Method) (n m r : ℕ) (e : List ℕ)
    → HasMethodWord (rows_after stripe_rules [] words) (codes "METHOD") method → HasGeometry (rows_after stripe_rules [] words) n m r e
    → SpellsGeometry (method_word method ∷ []) words n m r e
stripe_told [] none method n m r e is has = absurd (no_row _ _ n m r e (rows_after-placed stripe_rules refl [] none) refl has)
stripe_told (w ∷ []) none method n m r e is has = absurd (no_row _ _ n m r e (rows_after-placed stripe_rules refl (w ∷ []) none) refl has)
stripe_told (w ∷ a ∷ []) none method n m r e is has = absurd (no_row _ _ n m r e (rows_after-placed stripe_rules refl (w ∷ a ∷ []) none) refl has)
stripe_told (w ∷ a ∷ b ∷ []) none method n m r e is has =
    absurd (no_row _ _ n m r e (rows_after-placed stripe_rules refl (w ∷ a ∷ b ∷ []) none) refl has)
stripe_told (w ∷ a ∷ b ∷ c ∷ []) none method n m r e is has =
    absurd (no_row _ _ n m r e (rows_after-placed stripe_rules refl (w ∷ a ∷ b ∷ c ∷ []) none) refl has)
stripe_told (w ∷ a ∷ b ∷ c ∷ d ∷ rest) none method n m r e is has =
    let holds = stripe_holds w a b c d rest none in
    let firsts : Some w ≡ Some (method_word method) = sym holds.0 ∙ is.first in
    let w_is : w ≡ method_word method = cc in
    let numbers = geometry_spelled _ a b c (d ∷ rest) n m r e holds.1 (omega arith) has in
    subst (λ (first : Text). SpellsGeometry (first ∷ []) (w ∷ a ∷ b ∷ c ∷ d ∷ rest) n m r e) w_is
    (in_front w [] (a ∷ b ∷ c ∷ d ∷ rest) n m r e numbers)

pub stripe_tells : (words : List Text) → HasNoOption words → (method : Method) (n m r : ℕ) (e : List ℕ)
    → SpellsGeometry (method_word method ∷ []) words n m r e
    → HasMethodWord (rows_after stripe_rules [] words) (codes "METHOD") method × HasGeometry (rows_after stripe_rules [] words) n m r e
stripe_tells (w ∷ a ∷ b ∷ c ∷ d ∷ rest) none method n m r e spells =
    let holds = stripe_holds w a b c d rest none in
    let words_are = spells.spelled in
    let w_is : w ≡ method_word method = cc in (
      record { first = holds.0 ∙ ap Some w_is },
      geometry_held _ a b c (d ∷ rest) n m r e holds.1 (behind (method_word method) [] (w ∷ a ∷ b ∷ c ∷ d ∷ rest) n m r e spells),
    )
stripe_tells words none method n m r e spells = absurd (omega (arith, enough (method_word method ∷ []) words n m r e spells))

pub stripe_taken : (words : List Text) → HasNoOption words → length words ≤ usize_max → (method : Method) (n m r : ℕ) (e : List ℕ)
    → SpellsGeometry (method_word method ∷ []) words n m r e → built_takes (built stripe_app) nothing_held words ≡ true
stripe_taken (w ∷ a ∷ b ∷ c ∷ d ∷ rest) none few method n m r e spells = stripe_takes w a b c d rest none (omega arith)
stripe_taken words none few method n m r e spells = absurd (omega (arith, enough (method_word method ∷ []) words n m r e spells))

-- words that are a number and a count are two
two_words : (words : List Text) (number count : ℕ) → SpellsCounted [] words number count → length words ≡ 2
two_words words number count spells = ap length spells.spelled

-- where no row COUNT stands no count is told
no_count_row : (rows placed : List Row) (number count : ℕ) → rows ≡ placed → first_of (codes "COUNT") placed ≡ None → HasCounted rows number count → ⊥
no_count_row rows placed number count same none has = let word = has.count_word.first in let rows_none = ap (first_of (codes "COUNT")) same in cc

-- clap refuses more than two words
counted_refused : (a b c : Text) (rest : List Text) → HasNoOption (a ∷ b ∷ c ∷ rest)
    → built_fault (built counted_app) nothing_held (a ∷ b ∷ c ∷ rest) ≡ [] → ⊥
counted_refused a b c rest none free =
    let no_stray = walk_fault-places (built counted_app).top refl (a ∷ b ∷ c ∷ rest) none start start_plain (neither_fails _ _ free).0 in
    cc

pub counted_told : (words : List Text) → HasNoOption words → built_fault (built counted_app) nothing_held words ≡ [] → (number count : ℕ)
    → HasCounted (rows_after counted_rules [] words) number count → SpellsCounted [] words number count
counted_told [] none free number count has = absurd (no_count_row _ _ number count (rows_after-placed counted_rules refl [] none) refl has)
counted_told (a ∷ []) none free number count has = absurd (no_count_row _ _ number count (rows_after-placed counted_rules refl (a ∷ []) none) refl has)
counted_told (a ∷ b ∷ []) none free number count has = counted_spelled _ a b number count (counted_holds a b none) has
counted_told (a ∷ b ∷ c ∷ rest) none free number count has = absurd (counted_refused a b c rest none free)

pub counted_tells : (words : List Text) → HasNoOption words → (number count : ℕ)
    → SpellsCounted [] words number count → HasCounted (rows_after counted_rules [] words) number count
counted_tells (a ∷ b ∷ []) none number count spells = counted_held _ a b number count (counted_holds a b none) spells
counted_tells words none number count spells = absurd (omega (arith, two_words words number count spells))

pub counted_taken : (words : List Text) → HasNoOption words → (number count : ℕ)
    → SpellsCounted [] words number count → built_takes (built counted_app) nothing_held words ≡ true
counted_taken (a ∷ b ∷ []) none number count spells = built_takes-placed (built counted_app).top refl (a ∷ b ∷ []) none
counted_taken words none number count spells = absurd (omega (arith, two_words words number count spells))

-- an id without a row has no first word
pub no_first : (id : Text) (rows placed : List Row) (word : Text) → rows ≡ placed → first_of id placed ≡ None → first_of id rows ≡ Some word → ⊥
no_first id rows placed word same none first = let rows_none = ap (first_of id) same in cc

-- clap refuses more than one word
slot_refused : (a b : Text) (rest : List Text) → HasNoOption (a ∷ b ∷ rest)
    → built_fault (built slot_app) nothing_held (a ∷ b ∷ rest) ≡ [] → ⊥
slot_refused a b rest none free =
    let no_stray = walk_fault-places (built slot_app).top refl (a ∷ b ∷ rest) none start start_plain (neither_fails _ _ free).0 in
    cc

pub slot_told : (words : List Text) → HasNoOption words → built_fault (built slot_app) nothing_held words ≡ [] → (slot : ℕ)
    → HasNumberWord (rows_after slot_rules [] words) (codes "SLOT") slot → SpellsSlot [] words slot
slot_told [] none free slot has = absurd (no_first (codes "SLOT") _ _ (decimal slot) (rows_after-placed slot_rules refl [] none) refl has.first)
slot_told (a ∷ []) none free slot has =
    let first : Some a ≡ Some (decimal slot) = sym (slot_holds a none) ∙ has.first in
    record { spelled = cc; fits = has.fits }
slot_told (a ∷ b ∷ rest) none free slot has = absurd (slot_refused a b rest none free)

pub slot_tells : (words : List Text) → HasNoOption words → (slot : ℕ)
    → SpellsSlot [] words slot → HasNumberWord (rows_after slot_rules [] words) (codes "SLOT") slot
slot_tells (a ∷ []) none slot spells =
    let words_are = spells.spelled in
    let a_is : a ≡ decimal slot = cc in
    record { first = slot_holds a none ∙ ap Some a_is; fits = spells.fits }
slot_tells words none slot spells = absurd (omega (arith, ap length spells.spelled))

pub slot_taken : (words : List Text) → HasNoOption words → (slot : ℕ)
    → SpellsSlot [] words slot → built_takes (built slot_app) nothing_held words ≡ true
slot_taken (a ∷ []) none slot spells = built_takes-placed (built slot_app).top refl (a ∷ []) none
slot_taken words none slot spells = absurd (omega (arith, ap length spells.spelled))

-- clap refuses more than one word
text_refused : (a b : Text) (rest : List Text) → HasNoOption (a ∷ b ∷ rest)
    → built_fault (built text_app) nothing_held (a ∷ b ∷ rest) ≡ [] → ⊥
text_refused a b rest none free =
    let no_stray = walk_fault-places (built text_app).top refl (a ∷ b ∷ rest) none start start_plain (neither_fails _ _ free).0 in
    cc

pub text_told : (words : List Text) → HasNoOption words → built_fault (built text_app) nothing_held words ≡ [] → (text : Text)
    → HasTextWord (rows_after text_rules [] words) (codes "TEXT") text → SpellsText [] words text
text_told [] none free text has = absurd (no_first (codes "TEXT") _ _ text (rows_after-placed text_rules refl [] none) refl has.first)
text_told (a ∷ []) none free text has =
    let first : Some a ≡ Some text = sym (text_holds a none) ∙ has.first in
    let same : a ≡ text = cc in
    record { spelled = cc; is_text = has.is_text; plain = subst IsPlainWord same (All-head IsPlainWord a [] none) }
text_told (a ∷ b ∷ rest) none free text has = absurd (text_refused a b rest none free)

pub text_tells : (words : List Text) → HasNoOption words → (text : Text)
    → SpellsText [] words text → HasTextWord (rows_after text_rules [] words) (codes "TEXT") text
text_tells (a ∷ []) none text spells =
    let words_are = spells.spelled in
    let a_is : a ≡ text = cc in
    record { first = text_holds a none ∙ ap Some a_is; is_text = spells.is_text }
text_tells words none text spells = absurd (omega (arith, ap length spells.spelled))

pub text_taken : (words : List Text) → HasNoOption words → (text : Text)
    → SpellsText [] words text → built_takes (built text_app) nothing_held words ≡ true
text_taken (a ∷ []) none text spells = built_takes-placed (built text_app).top refl (a ∷ []) none
text_taken words none text spells = absurd (omega (arith, ap length spells.spelled))

-- ---- a command that clap was given

pub rows_of-matches : (given app : App) (words : List Text) (m : ArgMatches) → given ≡ app → is_simple app ≡ true → HasMatchesOf given words m
    → rows_of (found_of m) ≡ matches_of app words
rows_of-matches given app words m same simple matched = (matched (ap is_simple same ∙ simple)).0 ∙ ap (λ (a : App). matches_of a words) same

pub built_fault-none : (given app : App) (words : List Text) → given ≡ app → is_simple_and_free app ≡ true
    → (is_simple_and_free given ≡ true → fault_of given words ≡ []) → built_fault (built app) nothing_held (argument_words app words) ≡ []
built_fault-none given app words same simple none = ap (λ (a : App). fault_of a words) (sym same) ∙ none (ap is_simple_and_free same ∙ simple)
