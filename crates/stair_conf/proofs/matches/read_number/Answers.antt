use Rattle.std.proofs.Common.{ℕ, List, refl, subst}
use Rattle.stair_conf.specs.Words.{BeginsNumber}
use Rattle.stair_conf.proofs.NumberLemmas.{begins, parsed_iff_number}
use Rattle.stair_conf.proofs.matches.read_number.Goals as goal

pub returns-then-begins_number : goal.returns-then-begins_number
returns-then-begins_number c n =
    let P : List ℕ → Type 0 = λ w. BeginsNumber w in
    let start : BeginsNumber c.args.word.now =
    subst P c.as_bytes.ensures.value (c.if-begins_number.ensures.0 refl) in
    rw c.ok.ensures.value (parsed_iff_number c.args.word.now c.parse.result c.parse.ensures.value.0 start n)

pub returns-else-begins_number : goal.returns-else-begins_number
returns-else-begins_number c n = (
  (λ e. cc),
  (λ is.
      let start = begins c.args.word.now n is in
      let refused = c.if-begins_number.ensures.1 (rw c.as_bytes.ensures.value start) in
      cc),
)
