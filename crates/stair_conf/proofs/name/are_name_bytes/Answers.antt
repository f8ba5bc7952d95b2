-- One byte more.
use Rattle.std.proofs.Common.{ℕ, List, subst, arith, refl}
use Rattle.std.specs.Prelude.{All}
use Rattle.std.proofs.lemmas.List.{take_all}
use Rattle.std.proofs.lemmas.List.Elements.{All-more}
use Rattle.stair_conf.specs.Name.{IsNameByte}
use Rattle.stair_conf.proofs.name.are_name_bytes.Goals as goal

pub loop-byte-preserved : goal.loop-byte-preserved
loop-byte-preserved c = All-more IsNameByte c.args.text.now c.loop-byte.byte-index 0 (omega arith) c.loop-byte.invariant (c.if-not-is_name_byte.ensures.0 refl)

pub returns : goal.returns
returns c =
    (λ yes. subst (λ (l : List ℕ). All IsNameByte l) (take_all c.loop-byte.byte-index c.args.text.now (omega arith)) c.loop-byte.invariant, λ all. refl)
