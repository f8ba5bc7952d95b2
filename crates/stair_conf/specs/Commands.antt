-- The commands as clap has them.
use Rattle.std.specs.Prelude.{◌≢◌, List, Some, true, All, codes, slice_index}
use Rattle.clap.specs.Words.{App, Rule, Text, new_app, new_rule, with_rule}
use Rattle.clap.specs.Lexer.{usize_max}
use Rattle.clap.specs.Simple.{on_top}

-- the word doesn't begin with a hyphen (45)
abbrev pub IsPlainWord : Text → Type 0
IsPlainWord word = slice_index word 0 ≢ 45

-- clap would read no word as an option
abbrev pub HasNoOption : List Text → Type 0
HasNoOption words = All IsPlainWord words

-- a required positional of one word
abbrev pub one_word : Text → Rule
one_word id = record (new_rule id) { required = true }

-- a required positional of at least one word
abbrev pub some_words : Text → Rule
some_words id = record (one_word id) {
  range = Some (record {
    start_inclusive = 1;
    end_inclusive = usize_max;
  });
}

-- a command with neither help nor version
abbrev pub bare_app : Text → App
bare_app name =
    on_top (λ shape. record shape {
      disable_help_flag = true;
      disable_version_flag = true;
    }) (new_app name)

-- the command with the words of a geometry
abbrev pub with_geometry : App → App
with_geometry app =
    with_rule (with_rule (with_rule (with_rule app (one_word (codes "N"))) (one_word (codes "M")))
    (one_word (codes "R"))) (some_words (codes "E"))

-- `N M R E..`
abbrev pub geometry_app : App
geometry_app = with_geometry (bare_app (codes "stair"))

-- `METHOD N M R E..`
abbrev pub stripe_app : App
stripe_app = with_geometry (with_rule (bare_app (codes "stair")) (one_word (codes "METHOD")))

-- `NUMBER COUNT`
abbrev pub counted_app : App
counted_app =
    with_rule (with_rule (bare_app (codes "stair")) (one_word (codes "NUMBER")))
    (one_word (codes "COUNT"))

-- `SLOT`
abbrev pub slot_app : App
slot_app = with_rule (bare_app (codes "stair")) (one_word (codes "SLOT"))

-- `TEXT`
abbrev pub text_app : App
text_app = with_rule (bare_app (codes "stair")) (one_word (codes "TEXT"))

-- `NAME`
abbrev pub name_app : App
name_app = with_rule (bare_app (codes "stair")) (one_word (codes "NAME"))

-- `NAME BLOCKS`
abbrev pub new_volume_app : App
new_volume_app = with_rule name_app (one_word (codes "BLOCKS"))

-- `NAME BLOCK COUNT`
abbrev pub volume_blocks_app : App
volume_blocks_app = with_rule (with_rule name_app (one_word (codes "BLOCK"))) (one_word (codes "COUNT"))
