use Rattle.std.proofs.Common.{[], arith}
use Rattle.stair_conf.proofs.NumberLemmas.{begins_number, no_numbers, unread_is_no_number}
use Rattle.stair_conf.proofs.matches.read_numbers.Goals as goal

-- the word where reading stopped is no number
pub returns-in_err-ok_or-clause-usage : goal.returns-in_err-ok_or-clause-usage
returns-in_err-ok_or-clause-usage c is_usage =
    no_numbers (λ word. word.now) c.args.words.now c.loop-word.word-index (record { ref_ptr = (0, 0); now = [] })
    (omega arith) (unread_is_no_number c.read_number.result _ c.read_number.ensures c.in_err-ok_or.ensures.ok_part)

-- memory is asked for where a number is kept
pub returns-in_err-push-clause-memory : goal.returns-in_err-push-clause-memory
returns-in_err-push-clause-memory c memory =
    begins_number (λ word. word.now) c.args.words.now c.loop-word.word-index (record { ref_ptr = (0, 0); now = [] }) c.loop-word.numbers.items _
    (omega arith) c.loop-word.invariant ((c.read_number.ensures c.in_ok-ok_or.field-0).0 c.in_ok-ok_or.ensures.ok_part)
