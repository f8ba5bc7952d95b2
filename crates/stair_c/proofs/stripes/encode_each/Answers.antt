-- One stripe more; those before it stay encoded, and those after it as they were.
use Rattle.std.proofs.Common.{◌≡◌, inl, inr, subst, sym, ◌∙◌, arith}
use Rattle.std.proofs.lemmas.Bool.{cases_lt}
use Rattle.stair_model.specs.Encoding.{IsEncodedFrom}
use Rattle.stair_c.proofs.SectorLemmas.{codeword_kept}
use Rattle.stair_c.proofs.stripes.encode_each.Goals as goal

pub loop-number-preserved : goal.loop-number-preserved
loop-number-preserved o c =
    let g = c.args.geometry.now in
    let k = c.args.count in
    let number = c.loop-number.number in
    let first = c.args.sectors.now in
    let old = c.loop-number.sectors in
    let new = c.store_parities.new.sectors in
    let so_far = c.loop-number.invariant in
    let below = c.loop-number-test.true in
    let encoded : IsEncodedFrom g c.load_data.new.into c.encode.new.stripe =
    subst (λ x. IsEncodedFrom x c.load_data.new.into c.encode.new.stripe) so_far.fits c.encode.ensures.encoded in
    let others = c.store_parities.ensures.others in
    record {
      fits = c.encode.ensures.same_shape ∙ so_far.fits;
      of = encoded.of;
      formed = encoded.formed;
      whole = c.store_parities.ensures.whole;
      encoded = λ s s_in.
          elim (cases_lt s number) [
            | inl before ↦
                let it = so_far.encoded s before in
                let same = others s (omega (arith, before, below)) (λ is. omega (arith, is, before)) in
                record {
                  codeword = codeword_kept g k old new s same it.codeword;
                  same_data = λ i j d i_in j_in is. same i j i_in j_in ∙ it.same_data i j d i_in j_in is;
                }
            | inr later ↦
                let same : s ≡ number = omega (arith, later, s_in) in
                rw same
                (record {
                  codeword = record { stripe = c.encode.new.stripe; at = c.store_parities.ensures.stored; codeword = encoded.codeword };
                  same_data = λ i j d i_in j_in is.
                      sym (c.store_parities.ensures.stored.cells i j i_in j_in) ∙ sym (encoded.same_data i j d i_in j_in is)
                      ∙ c.load_data.ensures.loaded i j d i_in j_in is ∙ so_far.others number (omega arith) below i j i_in j_in;
                })
          ];
      others = λ s after s_in i j i_in j_in.
          others s s_in (λ is. omega (arith, is, after)) i j i_in j_in ∙ so_far.others s (omega (arith, after)) s_in i j i_in j_in;
    }
