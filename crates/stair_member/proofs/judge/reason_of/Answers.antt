-- The first reason that applies.
use Rattle.std.proofs.Common.{◌≡◌, Some, sym, ◌∙◌, arith}
use Rattle.std.proofs.lemmas.Bool.{false≢true}
use Rattle.stair_model.specs.Slots.{HasSlot}
use Rattle.stair_member.specs.JudgeSteps.{newest_at}
use Rattle.stair_member.proofs.JudgeLemmas.{newest_read, shown_some}
use Rattle.stair_member.proofs.ReasonLemmas.{reason_counting, reason_other_array, reason_other_slot}
use Rattle.stair_member.proofs.judge.reason_of.Goals as goal

pub returns-then-not-is_same : goal.returns-then-not-is_same
returns-then-not-is_same c image shows =
    let is : newest_at c.args.found.now c.args.slot ≡ Some c.in-Some.block =
    newest_read c.args.found.now c.from.result c.args.slot _ (Some c.in-Some.block) (omega arith) c.requires c.type_inv.found c.in-Some.is in
    let of = shown_some c.args.found.now image shows c.args.slot c.requires c.in-Some.block is in
    reason_other_array (HasSlot c.args.gone) c.args.current.now.array.geometry image c.args.current.now c.args.slot
    (λ gone. false≢true (c.if-has.ensures.member.1 gone)) c.in-Some.block of
    (λ same. false≢true (c.if-not-is_same.ensures.1 (c.geometry.ensures.value ∙ same ∙ sym c.geometry-2.ensures.value)))

pub returns-then-slot : goal.returns-then-slot
returns-then-slot c image shows =
    let is : newest_at c.args.found.now c.args.slot ≡ Some c.in-Some.block =
    newest_read c.args.found.now c.from.result c.args.slot _ (Some c.in-Some.block) (omega arith) c.requires c.type_inv.found c.in-Some.is in
    let of = shown_some c.args.found.now image shows c.args.slot c.requires c.in-Some.block is in
    reason_other_slot (HasSlot c.args.gone) c.args.current.now.array.geometry image c.args.current.now c.args.slot
    (λ gone. false≢true (c.if-has.ensures.member.1 gone)) c.in-Some.block of
    (sym c.geometry.ensures.value ∙ c.is_same.ensures.0 c.if-not-is_same.false ∙ c.geometry-2.ensures.value)
    (λ same. c.if-slot.true (c.slot.ensures.value ∙ same))

pub returns : goal.returns
returns c image shows =
    let is : newest_at c.args.found.now c.args.slot ≡ Some c.in-Some.block =
    newest_read c.args.found.now c.from.result c.args.slot _ (Some c.in-Some.block) (omega arith) c.requires c.type_inv.found c.in-Some.is in
    let of = shown_some c.args.found.now image shows c.args.slot c.requires c.in-Some.block is in
    reason_counting (HasSlot c.args.gone) c.args.current.now.array.geometry image c.args.current.now c.args.slot
    (λ gone. false≢true (c.if-has.ensures.member.1 gone)) c.in-Some.block of
    (sym c.geometry.ensures.value ∙ c.is_same.ensures.0 c.if-not-is_same.false ∙ c.geometry-2.ensures.value) c.reason_by_mark.result
    (sym c.slot.ensures.value ∙ c.if-slot.false) c.reason_by_mark.ensures
