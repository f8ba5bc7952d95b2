-- All symbols are the line of start 0 and step 1.
use Rattle.std.proofs.Common.{◌≡◌, ℕ, ◌∙◌, length, subst, ap}
use Rattle.stair_mds.specs.Solving.{SolvesAlong}
use Rattle.stair_mds.proofs.SolvedSoFar.{Solves-along}
use Rattle.stair_mds.proofs.mds.Mds.apply.Goals as goal

pub returns-clause-solved : goal.returns-clause-solved
returns-clause-solved g c =
    let code = c.args.self.now in
    let read : c.len.result ≡ length code.known =
    c.len.ensures ∙ c.self.inside.known.ok.0 ∙ ap (λ s. length s.known) c.self.view_is in
    Solves-along code.shape code.known code.wanted c.args.work.now c.apply_along.new.work
    (subst (λ (n : ℕ). SolvesAlong code.shape (record { start = 0; step = 1 }) n code.known code.wanted c.args.work.now c.apply_along.new.work) read
    c.apply_along.ensures.solved)
