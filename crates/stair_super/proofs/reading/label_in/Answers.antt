-- The label stands after its length.
use Rattle.std.proofs.Common.{◌≡◌, ℕ, ◌+◌, ◌-◌, Some, take, drop, sym, ap, subst, ◌∙◌, arith}
use Rattle.stair_super.specs.Label.{IsLabel}
use Rattle.stair_super.proofs.Fields.{later_has, length_is, label_is}
use Rattle.stair_super.proofs.reading.label_in.Goals as goal

pub returns-then-length-gt64-clause-read : goal.returns-then-length-gt64-clause-read
returns-then-length-gt64-clause-read c = λ s spells same.
    absurd (omega (arith, length_is c.args.bytes.now s spells (later_has c.args.version spells.version c.in-Two.is same), spells.block.sizes.label.short))

pub returns-else-length-gt64-clause-read : goal.returns-else-length-gt64-clause-read
returns-else-length-gt64-clause-read c = λ s spells same.
    let second = later_has c.args.version spells.version c.in-Two.is same in
    let count : 386 + c.from-length.result - 386 ≡ c.from-length.result = omega arith in
    let text : take (386 + c.from-length.result - 386) (drop 386 c.args.bytes.now) ≡ s.array.label =
    ap (λ (n : ℕ). take n (drop 386 c.args.bytes.now)) count
    ∙ label_is c.args.bytes.now s spells c.from-length.result second (c.from-length.ensures ∙ length_is c.args.bytes.now s spells second) in
    c.new.ensures.label (subst IsLabel (sym text) spells.block.sizes.label) ∙ ap Some text
