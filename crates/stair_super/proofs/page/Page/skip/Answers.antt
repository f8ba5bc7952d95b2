-- What is after the bytes so far is zero already.
use Rattle.std.proofs.Common.{ℕ, ◌+◌, ◌≤◌, length, ap, ◌∙◌, arith}
use Rattle.std.proofs.lemmas.List.{length-append, length-take-le}
use Rattle.stair_super.specs.Spelling.{zeros}
use Rattle.stair_super.proofs.PageLemmas.{still_zero, skipped, length-zeros}
use Rattle.stair_super.proofs.page.Page.skip.Goals as goal

fits : (c : goal.After-self-1) → c.self.inside.len + c.args.count ≤ 512
fits c = omega (arith, c.requires, ap length c.self.view_is, length-take-le c.self.inside.len c.self.inside.bytes (omega (arith, c.self.invariant.fits, c.self.invariant.whole)))

pub invariant_of-self : goal.invariant_of-self
invariant_of-self c = record {
  fits = fits c;
  whole = c.self.invariant.whole;
  rest = still_zero c.self.inside.bytes c.self.inside.len c.args.count (fits c) c.self.invariant.rest;
}

pub returns-clause-text : goal.returns-clause-text
returns-clause-text c = rw (← c.self.view_is) (skipped c.self.inside.bytes c.self.inside.len c.args.count (fits c) c.self.invariant.rest)

pub returns-clause-len : goal.returns-clause-len
returns-clause-len c =
    ap length (returns-clause-text c)
    ∙ length-append c.args.self.now (zeros c.args.count)
    ∙ ap (λ (n : ℕ). length c.args.self.now + n) (length-zeros c.args.count)
