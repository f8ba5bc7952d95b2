-- What is kept is the text.
use Rattle.std.proofs.Common.{rules, ◌≡◌, ℕ, ◌-◌, List, length, take, replicate, sym, ap, ◌∙◌, subst, refl}
use Rattle.std.specs.Prelude.{IsTrue}
use Rattle.std.proofs.lemmas.List.{take_at}
use Rattle.stair_super.specs.Label.{IsLabel, padded}
use Rattle.stair_super.proofs.label.Label.new.Goals as goal

pub invariant_of-result : goal.invariant_of-result
invariant_of-result c =
    let text = c.args.text.now in
    let shown : take (length text) c.padded_text.result ≡ text =
    ap (λ (l : List ℕ). take (length text) l) c.padded_text.ensures ∙ take_at text (replicate (64 - length text) 0) (length text) refl in
    let yes : IsTrue c.is_printable.result = search rules in
    record {
      label = subst IsLabel (sym shown) (record { short = c.if-text-gt64.false; printable = c.is_printable.ensures.yes yes });
      count = ap length shown;
      padding = ap padded shown ∙ sym c.padded_text.ensures;
    }
