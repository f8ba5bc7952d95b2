-- The slots hold what they are made over, the record is empty, and there is memory for the script.
use Rattle.std.proofs.Common.{◌≡◌, ◌<◌, ◌∙◌, ◌^◌, List, [], length, map, replicate, refl, sym, ap, rules, arith}
use Rattle.std.specs.Prelude.{vec_capacity}
use Rattle.stair_memrack.specs.declared.act.Act.{Act}
use Rattle.stair_memrack.specs.Origin.{place_over}
use Rattle.stair_memrack.specs.Shelf.{blank_for}
use Rattle.stair_memrack.proofs.NewLemmas.{IsSound-new}
use Rattle.stair_memrack.proofs.rack.MemRack.over.Goals as goal

pub invariant_of-result : goal.invariant_of-result
invariant_of-result c =
    let script : List Act = c.in_ok-to_vec.field-0.items in
    let same : script ≡ c.args.script.now = search rules in
    let gones : c.in_ok-vec.field-0.items ≡ replicate 32 0 = search rules in
    let memory : vec_capacity c.in_ok-with_capacity.field-0 ≡ c.args.calls = search rules in
    let fits : c.args.calls < 2 ^ 32 = c.ranges.calls.fits in
    let late : vec_capacity c.in_ok-with_capacity-2.field-0 ≡ 32 = search rules in
    let places : c.in_ok-places.field-0.items ≡ map (place_over (length script)) c.args.made.items = search rules in
    let blanks : c.in_ok-blanks.field-0.items ≡ map (λ act. blank_for act.what) c.args.script.now = search rules in
    let log : c.in_ok-with_capacity.field-0.items ≡ [] = search rules in
    let none : c.in_ok-with_capacity-2.field-0.items ≡ [] = search rules in
    IsSound-new _ refl refl refl log none gones refl memory fits (omega arith) (omega (arith, c.args.made.ok.0, c.requires)) places (blanks ∙ ap (λ (xs : List Act). map (λ act. blank_for act.what) xs) (sym same))
