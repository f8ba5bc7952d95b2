-- No class, and one class more.
use Rattle.std.proofs.Common.{◌≡◌, ◌-◌, ℕ, ap₂, ◌∙◌, arith}
use Rattle.stair_model.specs.Cell.{global_chunk}
use Rattle.stair_base.specs.Globals.{rows_before}
use Rattle.stair_base.proofs.GlobalCounts.{HasCounted-none, HasCounted-more, rows_before-passed, rows_before-ahead}
use Rattle.stair_base.proofs.kind.count_globals_before.Goals as goal
use Rattle.stair_base.proofs.kind.count_globals_before.Goals.{then-first_global_chunk-l, else-first_global_chunk-l}

pub loop-l-init : goal.loop-l-init
loop-l-init c = HasCounted-none _ _ _

pub loop-l-preserved : goal.loop-l-preserved
loop-l-preserved c =
    let g = c.args.geometry.now in
    let rows : c.if-first_global_chunk-l.rows ≡ rows_before c.args.row c.args.slot (global_chunk g c.loop-l.l) =
    elim c.if-first_global_chunk-l.branch [
      | then-first_global_chunk-l w ↦ rows_before-passed _ _ _ _ (omega arith) w.rows-is
      | else-first_global_chunk-l w ↦ rows_before-ahead _ _ _ _ (omega arith) w.rows-is
    ]
    in
    HasCounted-more g _ _ _ _ _ c.loop-l.invariant
    (c.from-count.ensures ∙ c.saturating_sub.ensures
    ∙ ap₂ (λ (a b : ℕ). a - b) rows (ap₂ (λ (a b : ℕ). a - b) c.r.ensures.value c.coverage.ensures.value))
    (elim c.if-first_global_chunk-l.branch [ then-first_global_chunk-l w ↦ omega arith | else-first_global_chunk-l w ↦ omega arith ])
