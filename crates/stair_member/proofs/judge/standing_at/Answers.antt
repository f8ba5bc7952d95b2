-- The slot counts for no array, for this one, or for one that doesn't stand.
use Rattle.std.proofs.Common.{◌≡◌, Some, inl, inr, sym, ap, subst, ◌∙◌}
use Rattle.std.proofs.lemmas.Bool.{false≢true}
use Rattle.stair_model.specs.Geometry.{Geometry}
use Rattle.stair_member.specs.Superblocks.{Identifies}
use Rattle.stair_member.proofs.JudgeLemmas.{stands_not, stands_nowhere}
use Rattle.stair_member.proofs.judge.standing_at.Goals as goal
use Rattle.stair_member.proofs.judge.standing_at.Goals.{else-not-is_this-via-then-not-is_this+else-stands, else-not-is_this-via-else-not-is_this}

pub returns-in_err-counting : goal.returns-in_err-counting
returns-in_err-counting c image shows =
    rw c.from_residual.ensures (stands_nowhere c.args.but.now image c.args.slot (c.in_err-counting.ensures image shows))

pub returns-else-not-is_this : goal.returns-else-not-is_this
returns-else-not-is_this c image shows =
    let s = c.in_ok-counting.field-0 in
    let value : c.geometry-geometry.result ≡ s.array.geometry = c.geometry-geometry.ensures.value in
    elim c.else-not-is_this.branch [
      | else-not-is_this-via-then-not-is_this+else-stands w ↦
          stands_not c.args.but.now image c.args.slot s (c.in_ok-counting.ensures image shows)
          (inr
          (λ stands.
          false≢true ((w.if-stands.ensures image shows).1 (subst (λ (g : Geometry). Identifies g image) (sym value) stands))))
      | else-not-is_this-via-else-not-is_this w ↦
          stands_not c.args.but.now image c.args.slot s (c.in_ok-counting.ensures image shows)
          (inl (c.is_this.ensures.0 w.if-not-is_this.false ∙ ap Some value))
    ]
