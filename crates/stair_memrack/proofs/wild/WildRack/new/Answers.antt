-- All counts are 0.
use Rattle.std.proofs.Common.{◌≡◌, ◌<◌, replicate, lit<, sym, subst, rules}
use Rattle.std.specs.Prelude.{◌^◌, slice_index}
use Rattle.stair_memrack.proofs.NewLemmas.{new_gones}
use Rattle.stair_memrack.proofs.wild.WildRack.new.Goals as goal

pub invariant_of-result : goal.invariant_of-result
invariant_of-result c =
    let gones : c.in_ok-vec.field-0.items ≡ replicate 32 0 = search rules in
    record {
      next_within = search rules;
      count = search rules;
      bads_fit = lit< tt;
      gones_fit = λ j. subst (λ xs. slice_index xs j < 2 ^ 64) (sym gones) (new_gones j);
    }
