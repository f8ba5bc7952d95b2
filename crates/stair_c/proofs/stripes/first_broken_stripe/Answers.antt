-- The stripe that is loaded is the only one with these sectors.
use Rattle.std.proofs.Common.{◌≡◌, inl, inr, subst, sym, ◌∙◌, arith}
use Rattle.std.proofs.lemmas.Bool.{cases_lt, false≢true}
use Rattle.stair_model.specs.Codeword.{IsCodeword}
use Rattle.stair_c.proofs.SectorLemmas.{one_stripe}
use Rattle.stair_c.proofs.stripes.first_broken_stripe.Goals as goal

pub returns-then-is_some-clause-broken : goal.returns-then-is_some-clause-broken
returns-then-is_some-clause-broken c codeword =
    let g = c.args.geometry.now in
    let same = one_stripe g c.args.count c.args.sectors.now c.loop-candidate.candidate codeword.stripe c.load.new.into codeword.at c.load.ensures in
    let none = c.first_broken.ensures.codeword.1 (subst (IsCodeword g) same codeword.codeword) in
    false≢true (sym none ∙ sym c.is_some.ensures ∙ c.if-is_some.true)

pub loop-candidate-preserved : goal.loop-candidate-preserved
loop-candidate-preserved c =
    let g = c.args.geometry.now in
    record {
      of = c.load.ensures.of;
      formed = c.load.ensures.formed;
      earlier = λ s s_in.
          elim (cases_lt s c.loop-candidate.candidate) [
            | inl before ↦ c.loop-candidate.invariant.earlier s before
            | inr later ↦
                let same : s ≡ c.loop-candidate.candidate = omega (arith, later, s_in) in
                rw same (record { stripe = c.load.new.into; at = c.load.ensures; codeword = c.first_broken.ensures.codeword.0 (sym c.is_some.ensures ∙ c.if-is_some.false) })
          ];
    }
