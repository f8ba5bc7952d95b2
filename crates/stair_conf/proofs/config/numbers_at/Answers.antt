use Rattle.std.proofs.Common.{◌≡◌, ◌∙◌, Some, sym, ap, arith}
use Rattle.std.proofs.lemmas.Result.{err_from_is_err_and}
use Rattle.toml.specs.Data.{as_array}
use Rattle.toml.specs.View.{items_view, view}
use Rattle.stair_conf.proofs.ConfigLemmas.{array_of, begins_number, fault_of, no_numbers, one_more}
use Rattle.stair_conf.proofs.config.numbers_at.Goals as goal

pub returns-in_err-ok_or-clause-faulty : goal.returns-in_err-ok_or-clause-faulty
returns-in_err-ok_or-clause-faulty c =
    let fault = err_from_is_err_and c.from_residual-in_err-ok_or.result c.from_residual-in_err-ok_or.ensures.1 in
    let key_is = fault.2 ∙ fault_of _ _ _ c.in_err-ok_or.ensures.ok_part c.in_err-ok_or.ensures.value in
    let items : as_array (view c.in_ok-value_at.field-0.now) ≡ Some (items_view c.deref-value-items.result.now) =
    sym c.as_array.ensures ∙ rw (c.in_ok-values.ensures.ok_part, c.deref-value-items.ensures.value) in
    let found = c.in_ok-value_at.ensures.ok ∙ ap Some (array_of _ _ items) in
    rw fault.1 (λ _. (
      key_is,
      no_numbers c.deref-value-items.result.now c.loop-value.value-index c.value-item.result c.whole_number.result _ found (omega arith)
          c.value-item.is c.whole_number.ensures c.in_err-ok_or.ensures.ok_part,
    ))

pub loop-value-preserved : goal.loop-value-preserved
loop-value-preserved c =
    let number_is = (c.whole_number.ensures c.in_ok-ok_or.field-0).0 c.in_ok-ok_or.ensures.ok_part in
    rw c.in_ok-push.ensures.items
    (one_more c.deref-value-items.result.now c.loop-value.value-index c.value-item.result c.loop-value.numbers.items _ (omega arith) c.value-item.is
    c.loop-value.invariant number_is)

-- memory is asked for where a number is kept
pub returns-in_err-push-clause-memory : goal.returns-in_err-push-clause-memory
returns-in_err-push-clause-memory c memory =
    let items : as_array (view c.in_ok-value_at.field-0.now) ≡ Some (items_view c.deref-value-items.result.now) =
    sym c.as_array.ensures ∙ rw (c.in_ok-values.ensures.ok_part, c.deref-value-items.ensures.value) in
    let found = c.in_ok-value_at.ensures.ok ∙ ap Some (array_of _ _ items) in
    begins_number c.deref-value-items.result.now c.loop-value.value-index c.value-item.result c.loop-value.numbers.items _ _ found
    (omega arith) c.value-item.is c.loop-value.invariant ((c.whole_number.ensures c.in_ok-ok_or.field-0).0 c.in_ok-ok_or.ensures.ok_part)
