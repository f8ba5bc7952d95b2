-- What clap's walk makes of words none of which begins with a hyphen: each goes to a positional.
use Rattle.std.proofs.Common.{◌≡◌, ◌∙◌, ◌&&◌, ◌||◌, ℕ, Bool, true, false, List, [], ◌∷◌, ◌++◌, Option, Some, None, refl, sym, ap, ap₂, cond, append_assoc, append-nil}
use Rattle.std.specs.Prelude.{not, is_some}
use Rattle.std.specs.List.{find, fold, list_all}
use Rattle.std.specs.Option.{option_map_or}
use Rattle.std.specs.Str.{bytes_eq}
use Rattle.std.proofs.lemmas.Bool.{ne_eqb}
use Rattle.std.proofs.lemmas.List.Elements.{All-head, All-tail}
use Rattle.std.proofs.lemmas.Slice.Eq.{bytes_eq-Decides}
use Rattle.clap.specs.Lexer.{strip_byte}
use Rattle.clap.specs.Walk.{Held, Row, Rule, Step, Text, Waiting, Walk, after_step, arg_by_index, idle, is_multiple, option, positional, to_positional, value, walked, walked_from, word_met}
use Rattle.clap.specs.Kinds.{Kinds, or_else}
use Rattle.clap.specs.Simple.{Shape, filled, with_index}
use Rattle.clap.specs.Faults.{positional_fault, step_fault, stray_fault, turn_fault, walk_fault, word_fault}
use Rattle.clap.specs.Takes.{positional_passes, step_passes, turn_passes, walk_passes, word_passes}
use Rattle.clap.specs.declared.error.kind.ErrorKind.{ErrorKind}
use Rattle.stair_conf.specs.Commands.{HasNoOption, IsPlainWord, some_words}

-- ---- a walk over positionals

-- no option waits for a word
abbrev IsNoOption : Waiting → Type 0
IsNoOption idle = Unit {0}
IsNoOption (option id) = ⊥
IsNoOption positional = Unit {0}

-- a walk that has met positionals alone
pub record IsPlainWalk (w : Walk) : Type 0 where
  pub going_on : w.stopped ≡ None
  pub not_trailing : w.is_trailing ≡ false
  pub no_option : IsNoOption w.waiting

-- the word goes to the positional whose turn it is
abbrev placed : List Rule → Walk → Text → Walk
placed c w word = to_positional c (arg_by_index c w.position) word w w.held

-- each word goes to the positional whose turn it is
abbrev pub all_placed : List Rule → Walk → List Text → Walk
all_placed c w [] = w
all_placed c w (word ∷ words) = all_placed c (placed c w word) words

-- no positional takes all that follows as it stands
abbrev pub has_no_tail : List Rule → Bool
has_no_tail c = list_all (λ a. not a.trailing_var_arg) c

found_passes : {X : Type 0} (p q : X → Bool) (xs : List X) (x : X) → find p xs ≡ Some x → list_all q xs ≡ true → q x ≡ true
found_passes p q [] x found all = cc
found_passes {X} p q (y ∷ xs) x found all = go (p y) (q y) refl found all (found_passes p q xs x)
  where
    go : (hit passes : Bool) → q y ≡ passes → cond hit (Some y) (find p xs) ≡ Some x → (passes && list_all q xs) ≡ true
        → (find p xs ≡ Some x → list_all q xs ≡ true → q x ≡ true) → q x ≡ true
    go hit false is found all rest = cc
    go true true is found all rest = let same : y ≡ x = cc in rw (← same) is
    go false true is found all rest = rest found all

both_true : (a b : Bool) → a ≡ true → b ≡ true → (a && b) ≡ true
both_true a b one two = rw (one, two) refl

not_false : (b : Bool) → not b ≡ true → b ≡ false
not_false true e = cc
not_false false e = refl

module _ (c : List Rule) (no_tail : has_no_tail c ≡ true) where
  placed-plain : (w : Walk) (word : Text) → IsPlainWalk w → IsPlainWalk (placed c w word)
  placed-plain w word plain = go (arg_by_index c w.position) refl
    where
      waits : (several : Bool) → IsNoOption (cond several positional idle)
      waits true = tt
      waits false = tt

      go : (o : Option Rule) → arg_by_index c w.position ≡ o → IsPlainWalk (to_positional c o word w w.held)
      go None e = record { going_on = plain.going_on; not_trailing = plain.not_trailing; no_option = plain.no_option }
      go (Some a) e = record {
        going_on = refl;
        not_trailing =
            ap (λ b. b || a.trailing_var_arg) plain.not_trailing
            ∙ not_false a.trailing_var_arg (found_passes _ (λ x. not x.trailing_var_arg) c a e no_tail);
        no_option = waits (is_multiple a);
      }

not_dashes : (word : Text) → IsPlainWord word → bytes_eq word (45 ∷ 45 ∷ []) ≡ false
not_dashes [] no_flag = refl
not_dashes (x ∷ xs) no_flag = rw (ne_eqb x 45 no_flag) refl

nothing_stripped : (word : Text) → IsPlainWord word → strip_byte 45 word ≡ None
nothing_stripped [] no_flag = refl
nothing_stripped (x ∷ xs) no_flag = rw (ne_eqb x 45 no_flag) refl

-- the word is read as no flag, no subcommand and no `--`
plain_met : (c : List Rule) (waiting : Waiting) (position : ℕ) (word : Text) (h : Held) → IsNoOption waiting → IsPlainWord word
    → word_met c [] false waiting position word h ≡ (h, value)
plain_met c idle position word h waits no_flag = rw (not_dashes word no_flag, nothing_stripped word no_flag) (rw (nothing_stripped word no_flag) refl)
plain_met c (option id) position word h waits no_flag = absurd waits
plain_met c positional position word h waits no_flag = rw (not_dashes word no_flag, nothing_stripped word no_flag) (rw (nothing_stripped word no_flag) refl)

met_is : (c : List Rule) (w : Walk) (word : Text) → IsPlainWalk w → IsPlainWord word
    → word_met c [] w.is_trailing w.waiting w.position word w.held ≡ (w.held, value)
met_is c w word plain no_flag =
    ap (λ trailing. word_met c [] trailing w.waiting w.position word w.held) plain.not_trailing
    ∙ plain_met c w.waiting w.position word w.held plain.no_option no_flag

walked-placed : (c : List Rule) (w : Walk) (word : Text) → IsPlainWalk w → IsPlainWord word
    → walked c [] w word ≡ placed c w word
unfolding walked
walked-placed c w word plain no_flag =
    ap (λ stop. walked_from c [] stop w word) plain.going_on
    ∙ ap (λ (p : Held × Step). after_step c word w p.0 p.1) (met_is c w word plain no_flag)

-- the walk over such words
pub walk-placed : (c : List Rule) → has_no_tail c ≡ true → (words : List Text) → HasNoOption words → (w : Walk) → IsPlainWalk w
    → fold (walked c []) w words ≡ all_placed c w words
walk-placed c no_tail [] none w plain = refl
walk-placed c no_tail (word ∷ words) none w plain =
    ap (λ v. fold (walked c []) v words) (walked-placed c w word plain (All-head IsPlainWord word words none))
    ∙ walk-placed c no_tail words (All-tail IsPlainWord word words none) (placed c w word) (placed-plain c no_tail w word plain)

-- ---- whether the walk passes

-- the word may go to the positional whose turn it is
abbrev place_passes : Shape → Walk → Bool
place_passes s w = option_map_or (λ a. positional_passes s.rules s.args_override_self a w.held) (arg_by_index s.rules w.position) false

abbrev pub places_pass : Shape → Walk → List Text → Bool
places_pass s w [] = true
places_pass s w (word ∷ words) = place_passes s w && places_pass s (placed s.rules w word) words

plain_passes : (s : Shape) (waiting : Waiting) (word : Text) (h : Held) → IsNoOption waiting → IsPlainWord word
    → word_passes s [] false waiting word h ≡ true
plain_passes s idle word h waits no_flag = rw (not_dashes word no_flag, nothing_stripped word no_flag) (rw (nothing_stripped word no_flag) refl)
plain_passes s (option id) word h waits no_flag = absurd waits
plain_passes s positional word h waits no_flag = rw (not_dashes word no_flag, nothing_stripped word no_flag) (rw (nothing_stripped word no_flag) refl)

turn_passes-placed : (s : Shape) (w : Walk) (word : Text) → IsPlainWalk w → IsPlainWord word
    → turn_passes s [] w word ≡ place_passes s w
turn_passes-placed s w word plain no_flag =
    ap (λ stop. is_some stop || (word_passes s [] w.is_trailing w.waiting word w.held
    && step_passes s w.position (word_met s.rules [] w.is_trailing w.waiting w.position word w.held).0
    (word_met s.rules [] w.is_trailing w.waiting w.position word w.held).1)) plain.going_on
    ∙ ap (λ passes. passes && step_passes s w.position (word_met s.rules [] w.is_trailing w.waiting w.position word w.held).0
    (word_met s.rules [] w.is_trailing w.waiting w.position word w.held).1)
    (ap (λ trailing. word_passes s [] trailing w.waiting word w.held) plain.not_trailing
    ∙ plain_passes s w.waiting word w.held plain.no_option no_flag)
    ∙ ap (λ (p : Held × Step). step_passes s w.position p.0 p.1) (met_is s.rules w word plain no_flag)

pub walk_passes-placed : (s : Shape) → has_no_tail s.rules ≡ true → (words : List Text) → HasNoOption words → (w : Walk) → IsPlainWalk w
    → walk_passes s [] w words ≡ places_pass s w words
unfolding walk_passes
walk_passes-placed s no_tail [] none w plain = refl
walk_passes-placed s no_tail (word ∷ words) none w plain =
    let no_flag = All-head IsPlainWord word words none in
    ap₂ ◌&&◌ (turn_passes-placed s w word plain no_flag)
    (ap (λ v. walk_passes s [] v words) (walked-placed s.rules w word plain no_flag)
    ∙ walk_passes-placed s no_tail words (All-tail IsPlainWord word words none) (placed s.rules w word)
    (placed-plain s.rules no_tail w word plain))

-- ---- a word for which no positional is left

-- each word has a positional whose turn it is
abbrev pub have_places : List Rule → Walk → List Text → Bool
have_places c w [] = true
have_places c w (word ∷ words) = is_some (arg_by_index c w.position) && have_places c (placed c w word) words

pub neither_fails : (first second : Kinds) → or_else first second ≡ [] → (first ≡ []) × (second ≡ [])
neither_fails [] second none = (refl, none)
neither_fails (k ∷ ks) second none = cc

-- one kind or another
some_kind : (leaf : Bool) (k : ErrorKind) (more : Kinds) → cond leaf (k ∷ []) (k ∷ more) ≡ [] → ⊥
some_kind true k more none = cc
some_kind false k more none = cc

found_place : (s : Shape) (o : Option Rule) (h : Held)
    → option_map_or (λ a. positional_fault s.rules s.args_override_self a h) o (stray_fault s) ≡ [] → is_some o ≡ true
found_place s (Some a) h none = refl
found_place s None h none = absurd (some_kind s.is_leaf _ _ none)

turn_fault-place : (s : Shape) (w : Walk) (word : Text) → IsPlainWalk w → IsPlainWord word → turn_fault s [] w word ≡ []
    → is_some (arg_by_index s.rules w.position) ≡ true
turn_fault-place s w word plain no_flag none =
    let flag_fault = word_fault s [] w.is_trailing w.waiting word w.held in
    let met = word_met s.rules [] w.is_trailing w.waiting w.position word w.held in
    let turn : turn_fault s [] w word ≡ or_else flag_fault (step_fault s w.position w.held value) =
    ap (λ stop. cond (is_some stop) [] (or_else flag_fault (step_fault s w.position met.0 met.1))) plain.going_on
    ∙ ap (λ (p : Held × Step). or_else flag_fault (step_fault s w.position p.0 p.1)) (met_is s.rules w word plain no_flag) in
    found_place s (arg_by_index s.rules w.position) w.held (neither_fails _ _ (sym turn ∙ none)).1

-- a walk that doesn't fail has a place for each word
pub walk_fault-places : (s : Shape) → has_no_tail s.rules ≡ true → (words : List Text) → HasNoOption words → (w : Walk) → IsPlainWalk w
    → walk_fault s [] w words ≡ [] → have_places s.rules w words ≡ true
unfolding walk_fault
walk_fault-places s no_tail [] none w plain free = refl
walk_fault-places s no_tail (word ∷ words) none w plain free =
    let no_flag = All-head IsPlainWord word words none in
    let both = neither_fails (turn_fault s [] w word) (walk_fault s [] (walked s.rules [] w word) words) free in
    both_true _ _ (turn_fault-place s w word plain no_flag both.0)
    (walk_fault-places s no_tail words (All-tail IsPlainWord word words none) (placed s.rules w word) (placed-plain s.rules no_tail w word plain)
    (ap (λ v. walk_fault s [] v words) (sym (walked-placed s.rules w word plain no_flag)) ∙ both.1))

-- ---- the last positional, which takes all words that are left

-- as clap builds it, at this place
abbrev pub last_rule : Text → ℕ → Rule
last_rule id place = with_index place (filled (some_words id))

-- the walk where the last positional has these words
abbrev pub at_last : List Row → Text → List Text → ℕ → Walk
at_last rows id words place = record {
  held = record { rows = rows; pending = Some (id, words); skip = 0 };
  waiting = positional;
  position = place;
  is_trailing = false;
  stopped = None;
}

placed-last : (c : List Rule) (id : Text) (place : ℕ) → arg_by_index c place ≡ Some (last_rule id place)
    → (rows : List Row) (words : List Text) (word : Text)
    → placed c (at_last rows id words place) word ≡ at_last rows id (words ++ word ∷ []) place
placed-last c id place found rows words word =
    let same : bytes_eq id id ≡ true = (bytes_eq-Decides id id).1 refl in
    ap (λ o. to_positional c o word (at_last rows id words place) (at_last rows id words place).held) found
    ∙ rw same refl

pub all_placed-last : (c : List Rule) (id : Text) (place : ℕ) → arg_by_index c place ≡ Some (last_rule id place)
    → (rows : List Row) (words more : List Text) → all_placed c (at_last rows id words place) more ≡ at_last rows id (words ++ more) place
all_placed-last c id place found rows words [] = ap (λ ws. at_last rows id ws place) (sym (append-nil words))
all_placed-last c id place found rows words (word ∷ more) =
    ap (λ w. all_placed c w more) (placed-last c id place found rows words word)
    ∙ all_placed-last c id place found rows (words ++ word ∷ []) more
    ∙ ap (λ ws. at_last rows id ws place) (append_assoc words (word ∷ []) more)

pub places_pass-last : (s : Shape) (id : Text) (place : ℕ) → arg_by_index s.rules place ≡ Some (last_rule id place)
    → (rows : List Row) (words more : List Text) → places_pass s (at_last rows id words place) more ≡ true
places_pass-last s id place found rows words [] = refl
places_pass-last s id place found rows words (word ∷ more) =
    let same : bytes_eq id id ≡ true = (bytes_eq-Decides id id).1 refl in
    both_true _ _
    (ap (λ o. option_map_or (λ a. positional_passes s.rules s.args_override_self a (at_last rows id words place).held) o false) found
    ∙ rw same refl)
    (ap (λ w. places_pass s w more) (placed-last s.rules id place found rows words word)
    ∙ places_pass-last s id place found rows (words ++ word ∷ []) more)
