use Rattle.std.proofs.Common.{[], ◌∷◌, map, refl, string_bytes, subst, sym}
use Rattle.std.specs.Prelude.{codes}
use Rattle.std.proofs.lemmas.List.{length-map}
use Rattle.std.proofs.lemmas.Result.{IfOk-weaker}
use Rattle.stair_conf.specs.declared.fault.WordsFault.TheVariants.{Memory, Usage}
use Rattle.stair_conf.specs.declared.job.Job.TheVariants.{OneStripe, Read, Write, Replace, Label, Exercise, Guard, Plan}
use Rattle.stair_conf.specs.declared.job.Method.TheVariants.{Up}
use Rattle.stair_conf.specs.declared.job.StripeCommand.TheVariants.{Check, Encode, Restore}
use Rattle.stair_conf.specs.Words.{Spells, method_word}
use Rattle.stair_conf.proofs.WordsLemmas.{job_plain}
use Rattle.stair_conf.proofs.CommandWords.{command_line, counted_with, geometry_with, limits_refused, no_check, no_exercise, no_guard, no_label, no_other, no_plan, no_read, no_replace, no_restore, no_stripe, no_write, opening, same_fault, slot_with, text_with, volume_line}
use Rattle.stair_conf.proofs.words.read_words.Goals as goal

-- a word of a job begins with no hyphen
pub returns-then-has_option-clause-usage : goal.returns-then-has_option-clause-usage
returns-then-has_option-clause-usage c is_usage job spells =
    let option = c.if-has_option.ensures.yes refl in
    job_plain (map string_bytes c.args.words.now) job spells option.0 option.1 option.2 (rw option.3 option.4)

-- ---- `check`

pub returns-in_err-read_geometry-in-check-clause-usage : goal.returns-in_err-read_geometry-in-check-clause-usage
returns-in_err-read_geometry-in-check-clause-usage c is_usage job =
    let opens = opening string_bytes _ _ _ _ c.in-len1-up.len_at_least c.command-item.is c.as_str.ensures.value c.in-check.is in
    no_check _ job opens (c.in_err-read_geometry-in-check.ensures.usage (same_fault c.from_residual.result _ Usage c.from_residual.ensures.1 is_usage))

pub returns-in_err-read_geometry-in-check-clause-memory : goal.returns-in_err-read_geometry-in-check-clause-memory
returns-in_err-read_geometry-in-check-clause-memory c is_memory =
    let opens = opening string_bytes _ _ _ _ c.in-len1-up.len_at_least c.command-item.is c.as_str.ensures.value c.in-check.is in
    command_line _ (OneStripe Check 0 0 0 []) opens (c.has_option.ensures.no c.if-has_option.false)

pub returns-in_ok-read_geometry-in-check-clause-ok : goal.returns-in_ok-read_geometry-in-check-clause-ok
returns-in_ok-read_geometry-in-check-clause-ok c =
    let opens = opening string_bytes _ _ _ _ c.in-len1-up.len_at_least c.command-item.is c.as_str.ensures.value c.in-check.is in
    subst (Spells (map string_bytes c.args.words.now)) (sym c.one_stripe.ensures)
    (geometry_with (codes "check") [] _ _ _ _ _ opens c.in_ok-read_geometry-in-check.ensures.ok)

-- ---- `stripe`

pub returns-in_err-method-in-stripe-clause-usage : goal.returns-in_err-method-in-stripe-clause-usage
returns-in_err-method-in-stripe-clause-usage c is_usage job =
    let opens = opening string_bytes _ _ _ _ c.in-len1-up.len_at_least c.command-item.is c.as_str.ensures.value c.in-stripe.is in
    no_stripe _ job opens (c.in_err-method-in-stripe.ensures.usage (same_fault c.from_residual-in_err-method-in-stripe.result _ Usage c.from_residual-in_err-method-in-stripe.ensures.1 is_usage))

pub returns-in_err-method-in-stripe-clause-memory : goal.returns-in_err-method-in-stripe-clause-memory
returns-in_err-method-in-stripe-clause-memory c is_memory =
    let opens = opening string_bytes _ _ _ _ c.in-len1-up.len_at_least c.command-item.is c.as_str.ensures.value c.in-stripe.is in
    command_line _ (OneStripe (Encode Up) 0 0 0 []) opens (c.has_option.ensures.no c.if-has_option.false)

pub returns-in_ok-method-in-stripe-clause-ok : goal.returns-in_ok-method-in-stripe-clause-ok
returns-in_ok-method-in-stripe-clause-ok c =
    let opens = opening string_bytes _ _ _ _ c.in-len1-up.len_at_least c.command-item.is c.as_str.ensures.value c.in-stripe.is in
    subst (Spells (map string_bytes c.args.words.now)) (sym c.one_stripe-in-stripe.ensures)
    (geometry_with (codes "stripe") (method_word c.in_ok-method-in-stripe.method ∷ []) _ _ _ _ _ opens c.in_ok-method-in-stripe.ensures.ok)

-- ---- `restore`

pub returns-in_err-read_geometry-in-restore-clause-usage : goal.returns-in_err-read_geometry-in-restore-clause-usage
returns-in_err-read_geometry-in-restore-clause-usage c is_usage job =
    let opens = opening string_bytes _ _ _ _ c.in-len1-up.len_at_least c.command-item.is c.as_str.ensures.value c.in-restore.is in
    no_restore _ job opens (c.in_err-read_geometry-in-restore.ensures.usage (same_fault c.from_residual-in_err-read_geometry-in-restore.result _ Usage c.from_residual-in_err-read_geometry-in-restore.ensures.1 is_usage))

pub returns-in_err-read_geometry-in-restore-clause-memory : goal.returns-in_err-read_geometry-in-restore-clause-memory
returns-in_err-read_geometry-in-restore-clause-memory c is_memory =
    let opens = opening string_bytes _ _ _ _ c.in-len1-up.len_at_least c.command-item.is c.as_str.ensures.value c.in-restore.is in
    command_line _ (OneStripe Restore 0 0 0 []) opens (c.has_option.ensures.no c.if-has_option.false)

pub returns-in_ok-read_geometry-in-restore-clause-ok : goal.returns-in_ok-read_geometry-in-restore-clause-ok
returns-in_ok-read_geometry-in-restore-clause-ok c =
    let opens = opening string_bytes _ _ _ _ c.in-len1-up.len_at_least c.command-item.is c.as_str.ensures.value c.in-restore.is in
    subst (Spells (map string_bytes c.args.words.now)) (sym c.one_stripe-in-restore.ensures)
    (geometry_with (codes "restore") [] _ _ _ _ _ opens c.in_ok-read_geometry-in-restore.ensures.ok)

-- ---- `read`

pub returns-in_err-number-in-read-clause-usage : goal.returns-in_err-number-in-read-clause-usage
returns-in_err-number-in-read-clause-usage c is_usage job =
    let opens = opening string_bytes _ _ _ _ c.in-len1-up.len_at_least c.command-item.is c.as_str.ensures.value c.in-read.is in
    no_read _ job opens (c.in_err-number-in-read.ensures.usage (same_fault c.from_residual-in_err-number-in-read.result _ Usage c.from_residual-in_err-number-in-read.ensures.1 is_usage))

pub returns-in_err-number-in-read-clause-memory : goal.returns-in_err-number-in-read-clause-memory
returns-in_err-number-in-read-clause-memory c is_memory =
    let opens = opening string_bytes _ _ _ _ c.in-len1-up.len_at_least c.command-item.is c.as_str.ensures.value c.in-read.is in
    command_line _ (Read 0 0) opens (c.has_option.ensures.no c.if-has_option.false)

pub returns-in_ok-number-in-read-clause-ok : goal.returns-in_ok-number-in-read-clause-ok
returns-in_ok-number-in-read-clause-ok c =
    let opens = opening string_bytes _ _ _ _ c.in-len1-up.len_at_least c.command-item.is c.as_str.ensures.value c.in-read.is in
    counted_with (codes "read") _ _ _ opens c.in_ok-number-in-read.ensures.ok

-- ---- `write`

pub returns-in_err-number-in-write-clause-usage : goal.returns-in_err-number-in-write-clause-usage
returns-in_err-number-in-write-clause-usage c is_usage job =
    let opens = opening string_bytes _ _ _ _ c.in-len1-up.len_at_least c.command-item.is c.as_str.ensures.value c.in-write.is in
    no_write _ job opens (c.in_err-number-in-write.ensures.usage (same_fault c.from_residual-in_err-number-in-write.result _ Usage c.from_residual-in_err-number-in-write.ensures.1 is_usage))

pub returns-in_err-number-in-write-clause-memory : goal.returns-in_err-number-in-write-clause-memory
returns-in_err-number-in-write-clause-memory c is_memory =
    let opens = opening string_bytes _ _ _ _ c.in-len1-up.len_at_least c.command-item.is c.as_str.ensures.value c.in-write.is in
    command_line _ (Write 0 0) opens (c.has_option.ensures.no c.if-has_option.false)

pub returns-in_ok-number-in-write-clause-ok : goal.returns-in_ok-number-in-write-clause-ok
returns-in_ok-number-in-write-clause-ok c =
    let opens = opening string_bytes _ _ _ _ c.in-len1-up.len_at_least c.command-item.is c.as_str.ensures.value c.in-write.is in
    counted_with (codes "write") _ _ _ opens c.in_ok-number-in-write.ensures.ok

-- ---- `replace`

pub returns-in_err-read_slot-in-replace-clause-usage : goal.returns-in_err-read_slot-in-replace-clause-usage
returns-in_err-read_slot-in-replace-clause-usage c is_usage job =
    let opens = opening string_bytes _ _ _ _ c.in-len1-up.len_at_least c.command-item.is c.as_str.ensures.value c.in-replace.is in
    no_replace _ job opens (c.in_err-read_slot-in-replace.ensures.usage (same_fault c.from_residual-in_err-read_slot-in-replace.result _ Usage c.from_residual-in_err-read_slot-in-replace.ensures.1 is_usage))

pub returns-in_err-read_slot-in-replace-clause-memory : goal.returns-in_err-read_slot-in-replace-clause-memory
returns-in_err-read_slot-in-replace-clause-memory c is_memory =
    let opens = opening string_bytes _ _ _ _ c.in-len1-up.len_at_least c.command-item.is c.as_str.ensures.value c.in-replace.is in
    command_line _ (Replace 0) opens (c.has_option.ensures.no c.if-has_option.false)

pub returns-in_ok-read_slot-in-replace-clause-ok : goal.returns-in_ok-read_slot-in-replace-clause-ok
returns-in_ok-read_slot-in-replace-clause-ok c =
    let opens = opening string_bytes _ _ _ _ c.in-len1-up.len_at_least c.command-item.is c.as_str.ensures.value c.in-replace.is in
    slot_with (codes "replace") _ _ opens c.in_ok-read_slot-in-replace.ensures.ok

-- ---- `label`

pub returns-in_err-read_label-in-label-clause-usage : goal.returns-in_err-read_label-in-label-clause-usage
returns-in_err-read_label-in-label-clause-usage c is_usage job =
    let opens = opening string_bytes _ _ _ _ c.in-len1-up.len_at_least c.command-item.is c.as_str.ensures.value c.in-label.is in
    no_label _ job opens (c.in_err-read_label-in-label.ensures.usage (same_fault c.from_residual-in_err-read_label-in-label.result _ Usage c.from_residual-in_err-read_label-in-label.ensures.1 is_usage))

pub returns-in_err-read_label-in-label-clause-memory : goal.returns-in_err-read_label-in-label-clause-memory
returns-in_err-read_label-in-label-clause-memory c is_memory =
    let opens = opening string_bytes _ _ _ _ c.in-len1-up.len_at_least c.command-item.is c.as_str.ensures.value c.in-label.is in
    command_line _ (Label []) opens (c.has_option.ensures.no c.if-has_option.false)

pub returns-in_ok-read_label-in-label-clause-ok : goal.returns-in_ok-read_label-in-label-clause-ok
returns-in_ok-read_label-in-label-clause-ok c =
    let opens = opening string_bytes _ _ _ _ c.in-len1-up.len_at_least c.command-item.is c.as_str.ensures.value c.in-label.is in
    text_with (codes "label") _ _ opens c.in_ok-read_label-in-label.ensures.ok

-- ---- `exercise`

pub returns-in_err-number-in-exercise-clause-usage : goal.returns-in_err-number-in-exercise-clause-usage
returns-in_err-number-in-exercise-clause-usage c is_usage job =
    let opens = opening string_bytes _ _ _ _ c.in-len1-up.len_at_least c.command-item.is c.as_str.ensures.value c.in-exercise.is in
    no_exercise _ job opens (c.in_err-number-in-exercise.ensures.usage (same_fault c.from_residual-in_err-number-in-exercise.result _ Usage c.from_residual-in_err-number-in-exercise.ensures.1 is_usage))

pub returns-in_err-number-in-exercise-clause-memory : goal.returns-in_err-number-in-exercise-clause-memory
returns-in_err-number-in-exercise-clause-memory c is_memory =
    let opens = opening string_bytes _ _ _ _ c.in-len1-up.len_at_least c.command-item.is c.as_str.ensures.value c.in-exercise.is in
    command_line _ (Exercise 0 0) opens (c.has_option.ensures.no c.if-has_option.false)

pub returns-in_ok-number-in-exercise-clause-ok : goal.returns-in_ok-number-in-exercise-clause-ok
returns-in_ok-number-in-exercise-clause-ok c =
    let opens = opening string_bytes _ _ _ _ c.in-len1-up.len_at_least c.command-item.is c.as_str.ensures.value c.in-exercise.is in
    counted_with (codes "exercise") _ _ _ opens c.in_ok-number-in-exercise.ensures.ok

-- ---- `guard`

pub returns-in_err-read_counted-in-guard-clause-usage : goal.returns-in_err-read_counted-in-guard-clause-usage
returns-in_err-read_counted-in-guard-clause-usage c is_usage job =
    let opens = opening string_bytes _ _ _ _ c.in-len1-up.len_at_least c.command-item.is c.as_str.ensures.value c.in-guard.is in
    no_guard _ job opens (λ events fences counted _ _. c.in_err-read_counted-in-guard.ensures.usage (same_fault c.from_residual-in_err-read_counted-in-guard.result _ Usage c.from_residual-in_err-read_counted-in-guard.ensures.1 is_usage) events fences counted)

pub returns-in_err-read_counted-in-guard-clause-memory : goal.returns-in_err-read_counted-in-guard-clause-memory
returns-in_err-read_counted-in-guard-clause-memory c is_memory =
    let opens = opening string_bytes _ _ _ _ c.in-len1-up.len_at_least c.command-item.is c.as_str.ensures.value c.in-guard.is in
    command_line _ (Guard 0 0) opens (c.has_option.ensures.no c.if-has_option.false)

pub returns-in_ok-read_counted-in-guard-clause-ok : goal.returns-in_ok-read_counted-in-guard-clause-ok
returns-in_ok-read_counted-in-guard-clause-ok c =
    let opens = opening string_bytes _ _ _ _ c.in-len1-up.len_at_least c.command-item.is c.as_str.ensures.value c.in-guard.is in
    IfOk-weaker c.limits.result _ _ (λ job read. subst (Spells (map string_bytes c.args.words.now)) (sym read.0) record {
      counted = counted_with (codes "guard") _ _ _ opens c.in_ok-read_counted-in-guard.ensures.ok;
      some_events = read.1;
      some_fences = read.2;
    }) c.limits.ensures.ok

pub returns-in_ok-read_counted-in-guard-clause-usage : goal.returns-in_ok-read_counted-in-guard-clause-usage
returns-in_ok-read_counted-in-guard-clause-usage c is_usage job =
    let opens = opening string_bytes _ _ _ _ c.in-len1-up.len_at_least c.command-item.is c.as_str.ensures.value c.in-guard.is in
    limits_refused _ _ _ job opens c.in_ok-read_counted-in-guard.ensures.ok (c.limits.ensures.usage is_usage)

-- ---- `plan`

pub returns-in_err-read_geometry-in-plan-clause-usage : goal.returns-in_err-read_geometry-in-plan-clause-usage
returns-in_err-read_geometry-in-plan-clause-usage c is_usage job =
    let opens = opening string_bytes _ _ _ _ c.in-len1-up.len_at_least c.command-item.is c.as_str.ensures.value c.in-plan.is in
    no_plan _ job opens (c.in_err-read_geometry-in-plan.ensures.usage (same_fault c.from_residual-in_err-read_geometry-in-plan.result _ Usage c.from_residual-in_err-read_geometry-in-plan.ensures.1 is_usage))

pub returns-in_err-read_geometry-in-plan-clause-memory : goal.returns-in_err-read_geometry-in-plan-clause-memory
returns-in_err-read_geometry-in-plan-clause-memory c is_memory =
    let opens = opening string_bytes _ _ _ _ c.in-len1-up.len_at_least c.command-item.is c.as_str.ensures.value c.in-plan.is in
    command_line _ (Plan 0 0 0 []) opens (c.has_option.ensures.no c.if-has_option.false)

pub returns-in_ok-read_geometry-in-plan-clause-ok : goal.returns-in_ok-read_geometry-in-plan-clause-ok
returns-in_ok-read_geometry-in-plan-clause-ok c =
    let opens = opening string_bytes _ _ _ _ c.in-len1-up.len_at_least c.command-item.is c.as_str.ensures.value c.in-plan.is in
    subst (Spells (map string_bytes c.args.words.now)) (sym c.plan.ensures)
    (geometry_with (codes "plan") [] _ _ _ _ _ opens c.in_ok-read_geometry-in-plan.ensures.ok)

-- ---- the commands on volumes

pub returns-in_err-read_volume-in_default-as_str-clause-usage : goal.returns-in_err-read_volume-in_default-as_str-clause-usage
returns-in_err-read_volume-in_default-as_str-clause-usage c is_usage job =
    let opens = opening string_bytes _ _ _ _ c.in-len1-up.len_at_least c.command-item.is c.as_str.ensures.value refl in
    no_other c.as_str.result.now _ _ job opens (length-map c.args.words.now string_bytes) record {
      check = c.in_default-as_str.not-check;
      stripe = c.in_default-as_str.not-stripe;
      restore = c.in_default-as_str.not-restore;
      read = c.in_default-as_str.not-read;
      write = c.in_default-as_str.not-write;
      replace = c.in_default-as_str.not-replace;
      label = c.in_default-as_str.not-label;
      exercise = c.in_default-as_str.not-exercise;
      guard = c.in_default-as_str.not-guard;
      plan = c.in_default-as_str.not-plan;
    } (c.in_default-lone_job.ensures.none refl) (c.in_err-read_volume-in_default-as_str.ensures.usage (same_fault c.from_residual-in_err-read_volume-in_default-as_str.result _ Usage c.from_residual-in_err-read_volume-in_default-as_str.ensures.1 is_usage))

pub returns-in_err-read_volume-in_default-as_str-clause-memory : goal.returns-in_err-read_volume-in_default-as_str-clause-memory
returns-in_err-read_volume-in_default-as_str-clause-memory c is_memory =
    volume_line _ (c.in_err-read_volume-in_default-as_str.ensures.memory (same_fault c.from_residual-in_err-read_volume-in_default-as_str.result _ Memory c.from_residual-in_err-read_volume-in_default-as_str.ensures.1 is_memory)) (c.has_option.ensures.no c.if-has_option.false)
