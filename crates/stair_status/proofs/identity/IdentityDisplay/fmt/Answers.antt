-- One digit more; and all of them.
use Rattle.std.proofs.Common.{◌≡◌, ℕ, true, [], ◌∷◌, length, get_or, take, refl, sym, ap, ◌∙◌, rules, arith}
use Rattle.std.proofs.Output.{has_written_append, has_written_of_eq}
use Rattle.std.proofs.lemmas.Bool.{ltb-true}
use Rattle.std.proofs.lemmas.List.{take_all, take_more}
use Rattle.std.proofs.lemmas.List.Sums.{AllPass-from_list_all}
use Rattle.std.proofs.lemmas.Str.{encode_ascii}
use Rattle.std.proofs.lemmas.Str.Ascii.{IsAscii-from_all}
use Rattle.std.specs.Prelude.{encode_utf8, nat_lt}
use Rattle.std.specs.Str.{IsAscii}
use Rattle.hex.specs.Hex.{lower_digits}
use Rattle.hex.proofs.HexLemmas.{IsAscii-encode_with}
use Rattle.stair_status.proofs.identity.IdentityDisplay.fmt.Goals as goal

lower_is_ascii : IsAscii lower_digits
lower_is_ascii =
    IsAscii-from_all lower_digits (λ k d below. ltb-true _ 128 (AllPass-from_list_all (λ (b : ℕ). nat_lt b 128) lower_digits refl k d below))

pub loop-digit-preserved : goal.loop-digit-preserved
loop-digit-preserved g c = λ plain.
    let digits = c.identity_digits-digit-items.result in
    let place = c.loop-digit.digit-index in
    let long : length digits ≡ 32 = search rules in
    let ascii : IsAscii digits = rw c.identity_digits-digit-items.ensures (IsAscii-encode_with lower_digits c.args.self.now.id lower_is_ascii) in
    let digit : encode_utf8 c.from.result ≡ get_or digits place 0 ∷ [] =
    ap encode_utf8 c.from.ensures ∙ encode_ascii (get_or digits place 0) (ascii place)
    in
    has_written_of_eq _ _ _ _ _ (sym (take_more digits place 0 (omega (arith, long, c.loop-digit-test.true))))
    (has_written_append _ _ _ _ _ _ (c.loop-digit.invariant plain)
    (has_written_of_eq _ _ _ _ _ digit (c.in_ok-write_char.ensures.writes (c.loop-digit.invariant plain).plain (refl {a = true}))))

pub returns-clause-writes : goal.returns-clause-writes
returns-clause-writes g c = λ plain is.
    let digits = c.identity_digits-digit-items.result in
    let long : length digits ≡ 32 = search rules in
    let place = c.loop-digit.digit-index in
    let all : take place digits ≡ digits = take_all place digits (omega (arith, long, c.loop-digit-test.false)) in
    has_written_of_eq _ _ _ _ _ (all ∙ c.identity_digits-digit-items.ensures) (c.loop-digit.invariant plain)
