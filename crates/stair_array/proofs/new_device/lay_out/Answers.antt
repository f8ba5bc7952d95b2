-- The gate, zeros, and syncs, each on all slots of the array.
use Rattle.std.proofs.Common.{◌≡◌, refl, sym, ◌∙◌, arith}
use Rattle.std.proofs.lemmas.Result.{err_from_is_err_and, on_ok_weaker}
use Rattle.stair_model.specs.Device.{gate_sector}
use Rattle.stair_model.specs.Geometry.{sectors_needed}
use Rattle.stair_state.specs.Blocks.{zero_block}
use Rattle.stair_rack.specs.Told.{told}
use Rattle.stair_array.specs.Making.{IsOneGone, IsStoppedBy}
use Rattle.stair_array.proofs.CreateLemmas.{on_err}
use Rattle.stair_array.proofs.CreatedLemmas.{created_behind, created_gate}
use Rattle.stair_array.proofs.DeviceLemmas.{all_sectors, laid_gone, laid_gone_ran, laid_made, laid_more, laid_none, laid_ran, laid_unsynced, making_within, stopped_by}
use Rattle.stair_array.proofs.new_device.lay_out.Goals as goal

pub returns-in_err-none_gone-clause-gone : goal.returns-in_err-none_gone-clause-gone
returns-in_err-none_gone-clause-gone g c =
    let of = c.args.geometry.now in
    let p = err_from_is_err_and c.from_residual.result c.from_residual.ensures.1 in
    rw (p.1, p.2)
    (stopped_by of c.write_all.result _ (told g.R.Rack c.args.rack.now) (told g.R.Rack c.write_all.new.rack) c.in_err-none_gone.ensures.one
    (λ j lost. (
      (c.slots_of-slots.ensures.are j).0 (c.write_all.ensures.gone j lost).0,
      laid_gone of c.slots_of-slots.result c.write_all.result gate_sector c.closed_gate.result (told g.R.Rack c.args.rack.now)
          (told g.R.Rack c.args.rack.now) (told g.R.Rack c.write_all.new.rack) (laid_none _ _ _) refl (omega arith) (omega arith)
          (λ i. c.closed_gate.ensures ∙ sym (created_gate of i)) c.write_all.ensures.counts c.write_all.ensures.does j lost
          (c.write_all.ensures.gone j lost).1,
    )))

pub returns-in_err-none_gone-clause-ran : goal.returns-in_err-none_gone-clause-ran
returns-in_err-none_gone-clause-ran g c honest =
    let of = c.args.geometry.now in
    making_within of (λ j on. (c.slots_of-slots.ensures.are j).0 on) (λ k is. is)
    (laid_gone_ran of c.slots_of-slots.result c.write_all.result gate_sector c.closed_gate.result (told g.R.Rack c.args.rack.now)
    (told g.R.Rack c.args.rack.now) (told g.R.Rack c.write_all.new.rack) (laid_none _ _ _) refl (omega arith) (omega arith)
    (λ i. c.closed_gate.ensures ∙ sym (created_gate of i)) c.write_all.ensures.counts c.write_all.ensures.does honest)

pub loop-sector-init : goal.loop-sector-init
loop-sector-init g c =
    laid_more c.args.geometry.now c.slots_of-slots.result c.write_all.result gate_sector c.closed_gate.result (told g.R.Rack c.args.rack.now)
    (told g.R.Rack c.args.rack.now) (told g.R.Rack c.write_all.new.rack) (laid_none _ _ _) refl (omega arith) (omega arith)
    (λ i. c.closed_gate.ensures ∙ sym (created_gate c.args.geometry.now i)) c.write_all.ensures.counts c.write_all.ensures.does
    c.in_ok-none_gone.ensures.none

pub returns-in_err-none_gone-2-clause-gone : goal.returns-in_err-none_gone-2-clause-gone
returns-in_err-none_gone-2-clause-gone g c =
    let of = c.args.geometry.now in
    let p = err_from_is_err_and c.from_residual-in_err-none_gone-2.result c.from_residual-in_err-none_gone-2.ensures.1 in
    rw (p.1, p.2)
    (stopped_by of c.write_all-in-loop-sector.result _ (told g.R.Rack c.args.rack.now) (told g.R.Rack c.write_all-in-loop-sector.new.rack)
    c.in_err-none_gone-2.ensures.one
    (λ j lost. (
      (c.slots_of-slots.ensures.are j).0 (c.write_all-in-loop-sector.ensures.gone j lost).0,
      laid_gone of c.slots_of-slots.result c.write_all-in-loop-sector.result c.loop-sector.sector zero_block (told g.R.Rack c.args.rack.now)
          (told g.R.Rack c.loop-sector.rack) (told g.R.Rack c.write_all-in-loop-sector.new.rack) c.loop-sector.invariant refl (omega arith)
          (rw c.need-sector-end.ensures.value at c.loop-sector-test.true) (λ i. sym (created_behind of i c.loop-sector.sector (omega arith)))
          c.write_all-in-loop-sector.ensures.counts c.write_all-in-loop-sector.ensures.does j lost (c.write_all-in-loop-sector.ensures.gone j lost).1,
    )))

pub returns-in_err-none_gone-2-clause-ran : goal.returns-in_err-none_gone-2-clause-ran
returns-in_err-none_gone-2-clause-ran g c honest =
    let of = c.args.geometry.now in
    making_within of (λ j on. (c.slots_of-slots.ensures.are j).0 on) (λ k is. is)
    (laid_gone_ran of c.slots_of-slots.result c.write_all-in-loop-sector.result c.loop-sector.sector zero_block (told g.R.Rack c.args.rack.now)
    (told g.R.Rack c.loop-sector.rack) (told g.R.Rack c.write_all-in-loop-sector.new.rack) c.loop-sector.invariant refl (omega arith)
    (rw c.need-sector-end.ensures.value at c.loop-sector-test.true) (λ i. sym (created_behind of i c.loop-sector.sector (omega arith)))
    c.write_all-in-loop-sector.ensures.counts c.write_all-in-loop-sector.ensures.does honest)

pub loop-sector-preserved : goal.loop-sector-preserved
loop-sector-preserved g c =
    laid_more c.args.geometry.now c.slots_of-slots.result c.write_all-in-loop-sector.result c.loop-sector.sector zero_block
    (told g.R.Rack c.args.rack.now) (told g.R.Rack c.loop-sector.rack) (told g.R.Rack c.write_all-in-loop-sector.new.rack) c.loop-sector.invariant
    refl (omega arith) (rw c.need-sector-end.ensures.value at c.loop-sector-test.true)
    (λ i. sym (created_behind c.args.geometry.now i c.loop-sector.sector (omega arith))) c.write_all-in-loop-sector.ensures.counts
    c.write_all-in-loop-sector.ensures.does c.in_ok-none_gone-2.ensures.none

pub returns-clause-made : goal.returns-clause-made
returns-clause-made g c honest =
    let of = c.args.geometry.now in
    let all : c.loop-sector.sector ≡ sectors_needed of =
    all_sectors of c.loop-sector.sector c.need-sector-end.result c.need-sector-end.ensures.value c.loop-sector.auto.sector-end
    c.loop-sector-test.false in
    on_ok_weaker c.none_gone-2.result
    (λ none j below.
    laid_made of c.slots_of-slots.result c.sync_all.result (told g.R.Rack c.args.rack.now) (told g.R.Rack c.loop-sector.rack)
    (told g.R.Rack c.sync_all.new.rack) (rw all at c.loop-sector.invariant) refl c.sync_all.ensures.does none honest j
    ((c.slots_of-slots.ensures.are j).1 below)) c.none_gone-2.ensures.none

pub returns-clause-gone : goal.returns-clause-gone
returns-clause-gone g c =
    let of = c.args.geometry.now in
    let all : c.loop-sector.sector ≡ sectors_needed of =
    all_sectors of c.loop-sector.sector c.need-sector-end.result c.need-sector-end.ensures.value c.loop-sector.auto.sector-end
    c.loop-sector-test.false in
    on_err c.none_gone-2.result (λ fault. IsOneGone c.sync_all.result fault)
    (λ fault. IsStoppedBy of fault (told g.R.Rack c.args.rack.now) (told g.R.Rack c.sync_all.new.rack)) c.none_gone-2.ensures.one
    (λ fault one.
    stopped_by of c.sync_all.result fault (told g.R.Rack c.args.rack.now) (told g.R.Rack c.sync_all.new.rack) one
    (λ j lost. (
      (c.slots_of-slots.ensures.are j).0 (c.sync_all.ensures.gone j lost).0,
      laid_unsynced of c.slots_of-slots.result c.sync_all.result (told g.R.Rack c.args.rack.now) (told g.R.Rack c.loop-sector.rack)
          (told g.R.Rack c.sync_all.new.rack) (rw all at c.loop-sector.invariant) refl c.sync_all.ensures.does j lost
          (c.sync_all.ensures.gone j lost).1 c.sync_all.ensures.counts,
    )))

pub returns-clause-ran : goal.returns-clause-ran
returns-clause-ran g c honest =
    let of = c.args.geometry.now in
    let all : c.loop-sector.sector ≡ sectors_needed of =
    all_sectors of c.loop-sector.sector c.need-sector-end.result c.need-sector-end.ensures.value c.loop-sector.auto.sector-end
    c.loop-sector-test.false in
    making_within of (λ j on. (c.slots_of-slots.ensures.are j).0 on) (λ k is. is)
    (laid_ran of c.slots_of-slots.result c.sync_all.result (told g.R.Rack c.args.rack.now) (told g.R.Rack c.loop-sector.rack)
    (told g.R.Rack c.sync_all.new.rack) (rw all at c.loop-sector.invariant) refl c.sync_all.ensures.does honest)
