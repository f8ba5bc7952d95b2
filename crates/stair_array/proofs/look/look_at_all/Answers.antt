-- Each turn looks at the next slot.
use Rattle.std.proofs.Common.{◌≡◌, inl, inr, arith}
use Rattle.std.proofs.lemmas.Result.{err_from_is_err_and}
use Rattle.stair_rack.proofs.MomentLemmas.{ran_join}
use Rattle.stair_rack.proofs.PassCounts.{NoneFalls-then}
use Rattle.stair_array.proofs.LookLemmas.{began_first, look_any, looked_more, looked_none, looks_unwritten, refused_here}
use Rattle.stair_array.proofs.look.look_at_all.Goals as goal

pub loop-slot-init : goal.loop-slot-init
loop-slot-init g c = looked_none _ _

pub loop-slot-preserved : goal.loop-slot-preserved
loop-slot-preserved g c =
    looked_more c.args.geometry.now c.loop-slot.slot g.R.Rack.is_honest (g.R.Rack.history c.args.rack.now) (g.R.Rack.history c.loop-slot.rack) (g.R.Rack.history c.look_at.new.rack)
    (g.R.Rack.bads c.args.rack.now) (g.R.Rack.bads c.loop-slot.rack) (g.R.Rack.bads c.look_at.new.rack)
    (g.R.Rack.gones c.args.rack.now) (g.R.Rack.gones c.loop-slot.rack) (g.R.Rack.gones c.look_at.new.rack) c.loop-slot.invariant c.look_at.ensures.ran c.look_at.ensures.counts
    c.look_at.ensures.began c.in_ok-look_at.ensures.passed c.in_ok-look_at.ensures.taken

pub returns-in_err-look_at-clause-refused : goal.returns-in_err-look_at-clause-refused
returns-in_err-look_at-clause-refused g c =
    let p = err_from_is_err_and c.from_residual.result c.from_residual.ensures.1 in
    rw (p.1, p.2)
    (refused_here c.args.geometry.now c.loop-slot.slot g.R.Rack.is_honest (g.R.Rack.history c.args.rack.now) (g.R.Rack.history c.loop-slot.rack) (g.R.Rack.history c.look_at.new.rack)
    (g.R.Rack.bads c.args.rack.now) (g.R.Rack.bads c.loop-slot.rack) (g.R.Rack.bads c.look_at.new.rack)
    (g.R.Rack.gones c.args.rack.now) (g.R.Rack.gones c.loop-slot.rack) (g.R.Rack.gones c.look_at.new.rack) c.loop-slot.invariant c.look_at.ensures.ran c.look_at.ensures.counts
    c.in_err-look_at.field-0.0 (omega arith) c.in_err-look_at.ensures.refused)

pub returns-in_err-look_at-clause-ran : goal.returns-in_err-look_at-clause-ran
returns-in_err-look_at-clause-ran g c honest = ran_join (c.loop-slot.invariant.ran honest) (look_any (c.look_at.ensures.ran honest))

pub returns-in_err-look_at-clause-counts : goal.returns-in_err-look_at-clause-counts
returns-in_err-look_at-clause-counts g c = NoneFalls-then c.loop-slot.invariant.counts c.look_at.ensures.counts

pub returns-in_err-look_at-clause-began : goal.returns-in_err-look_at-clause-began
returns-in_err-look_at-clause-began g c =
    began_first c.args.geometry.now c.loop-slot.slot g.R.Rack.is_honest (g.R.Rack.history c.args.rack.now) (g.R.Rack.history c.loop-slot.rack) (g.R.Rack.history c.look_at.new.rack)
    (g.R.Rack.bads c.args.rack.now) (g.R.Rack.bads c.loop-slot.rack) (g.R.Rack.bads c.look_at.new.rack)
    (g.R.Rack.gones c.args.rack.now) (g.R.Rack.gones c.loop-slot.rack) (g.R.Rack.gones c.look_at.new.rack) c.loop-slot.invariant c.look_at.ensures.ran c.look_at.ensures.counts
    c.look_at.ensures.began

pub returns-clause-began : goal.returns-clause-began
returns-clause-began g c honest =
    let all : c.loop-slot.slot ≡ 32 = omega arith in
    elim (c.loop-slot.invariant.began honest) [
      | inl first ↦ absurd (omega (arith, all, first.0))
      | inr before ↦ before
    ]

pub returns-clause-passed : goal.returns-clause-passed
returns-clause-passed g c =
    let all : c.loop-slot.slot ≡ 32 = omega arith in
    record {
      each = λ j below. c.loop-slot.invariant.each j (omega (arith, all, below));
      unwritten = λ honest. looks_unwritten (c.loop-slot.invariant.ran honest);
    }

pub returns-clause-taken : goal.returns-clause-taken
returns-clause-taken g c honest j below within =
    let all : c.loop-slot.slot ≡ 32 = omega arith in
    c.loop-slot.invariant.taken honest j (omega (arith, all, below)) within

pub returns-clause-ran : goal.returns-clause-ran
returns-clause-ran g c honest = c.loop-slot.invariant.ran honest

pub returns-clause-counts : goal.returns-clause-counts
returns-clause-counts g c = c.loop-slot.invariant.counts
