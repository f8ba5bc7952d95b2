-- The words of a repair, one after the other.
use Rattle.std.proofs.Common.{None, arith, lit<, refl, subst, sym, ◌++◌}
use Rattle.std.specs.Prelude.{codes}
use Rattle.std.proofs.lemmas.Str.Pattern.{split_parts}
use Rattle.stair_script.proofs.ReadLemmas.{split_at_space}
use Rattle.stair_monitor.proofs.ReadLemmas.{ReadsEvent, no_cells_read, no_cut_read, no_stripe_read, no_word_read, repair_read, stripped}
use Rattle.stair_monitor.proofs.reading.read_repaired.Goals as goal

pub returns-in_err-stripe : goal.returns-in_err-stripe
returns-in_err-stripe c =
    let values = c.args.values.now in
    let rest = c.in_ok-strip_prefix.field-0.now in
    subst (ReadsEvent (codes "repaired " ++ values)) (sym c.from_residual-in_err-stripe.ensures)
    (no_cut_read values rest (stripped (codes "stripe ") values rest c.in_ok-strip_prefix.ensures.cases)
    (split_parts 32 rest None c.in_err-stripe.ensures.cases (lit< tt)))

pub returns-in_err-read_within : goal.returns-in_err-read_within
returns-in_err-read_within c =
    let values = c.args.values.now in
    let rest = c.in_ok-strip_prefix.field-0.now in
    let words = c.in_ok-stripe in
    subst (ReadsEvent (codes "repaired " ++ values)) (sym c.from_residual-in_err-read_within.ensures)
    (no_stripe_read values rest words.stripe.now words.cells.now (stripped (codes "stripe ") values rest c.in_ok-strip_prefix.ensures.cases)
    (split_at_space rest words.stripe words.cells words.ensures.cases) c.in_err-read_within.ensures)

pub overflow_cast-result : goal.overflow_cast-result
overflow_cast-result c =
    let read = (c.in_ok-read_within.ensures c.in_ok-read_within.field-0).0 refl in
    let most = read.1.1 in
    omega arith

pub returns-in_err-strip_prefix-2 : goal.returns-in_err-strip_prefix-2
returns-in_err-strip_prefix-2 c =
    let values = c.args.values.now in
    let rest = c.in_ok-strip_prefix.field-0.now in
    let words = c.in_ok-stripe in
    subst (ReadsEvent (codes "repaired " ++ values)) (sym c.from_residual-in_err-strip_prefix-2.ensures)
    (no_word_read values rest words.stripe.now words.cells.now (stripped (codes "stripe ") values rest c.in_ok-strip_prefix.ensures.cases)
    (split_at_space rest words.stripe words.cells words.ensures.cases) c.in_err-strip_prefix-2.ensures.cases)

pub returns-in_err-read_within-2 : goal.returns-in_err-read_within-2
returns-in_err-read_within-2 c =
    let values = c.args.values.now in
    let rest = c.in_ok-strip_prefix.field-0.now in
    let words = c.in_ok-stripe in
    let word = c.in_ok-strip_prefix-2.field-0.now in
    subst (ReadsEvent (codes "repaired " ++ values)) (sym c.from_residual-in_err-read_within-2.ensures)
    (no_cells_read values rest words.stripe.now words.cells.now (stripped (codes "stripe ") values rest c.in_ok-strip_prefix.ensures.cases)
    (split_at_space rest words.stripe words.cells words.ensures.cases) word
    (stripped (codes "cells ") words.cells.now word c.in_ok-strip_prefix-2.ensures.cases) c.in_err-read_within-2.ensures)

pub overflow_cast-result-2 : goal.overflow_cast-result-2
overflow_cast-result-2 c =
    let read = (c.in_ok-read_within-2.ensures c.in_ok-read_within-2.field-0).0 refl in
    let most = read.1.1 in
    omega arith

pub returns : goal.returns
returns c =
    let values = c.args.values.now in
    let rest = c.in_ok-strip_prefix.field-0.now in
    let words = c.in_ok-stripe in
    let word = c.in_ok-strip_prefix-2.field-0.now in
    let stripe = c.in_ok-read_within.field-0 in
    let cells = c.in_ok-read_within-2.field-0 in
    repair_read values rest words.stripe.now words.cells.now (stripped (codes "stripe ") values rest c.in_ok-strip_prefix.ensures.cases)
    (split_at_space rest words.stripe words.cells words.ensures.cases) word stripe cells
    (stripped (codes "cells ") words.cells.now word c.in_ok-strip_prefix-2.ensures.cases)
    ((c.in_ok-read_within.ensures stripe).0 refl) ((c.in_ok-read_within-2.ensures cells).0 refl)
