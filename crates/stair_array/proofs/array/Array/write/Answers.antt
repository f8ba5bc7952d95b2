-- A sector is one block.
use Rattle.std.proofs.Common.{◌≡◌, ◌/◌, ◌%◌, ◌<◌, ℕ, List, length, ap, sym, subst, arith}
use Rattle.std.proofs.lemmas.Nat.{mod_below}
use Rattle.stair_model.specs.Geometry.{data_cells}
use Rattle.stair_rack.specs.Told.{told}
use Rattle.stair_invariant.specs.Effects.{snapshot}
use Rattle.stair_array.specs.Arrays.{outcome}
use Rattle.stair_array.specs.Calls.{AreOfBlocks, WritesBlocks}
use Rattle.stair_array.proofs.WritingLemmas.{one_block}
use Rattle.stair_array.proofs.array.Array.write.Goals as goal

pub write_blocks-requires-clause-together : goal.write_blocks-requires-clause-together
write_blocks-requires-clause-together g c =
    let one : length c.args.from.now / 512 ≡ 1 = ap (λ (n : ℕ). n / 512) c.told-from in
    let u = data_cells c.args.self.now.member.array.geometry in
    let below : c.args.block % u < u = mod_below c.args.block u c.geometry.ensures.rules.array.limits.blocks in
    record { some = omega (arith, one); within = omega (arith, one, below) }

pub returns-clause-does : goal.returns-clause-does
returns-clause-does g c none =
    subst
    (λ (contents : List (List ℕ)).
    WritesBlocks c.args.block contents (outcome c.write_blocks.result) (snapshot c.args.self.now.member (told g.R.Rack c.args.rack.now))
    (snapshot c.write_blocks.new.self.member (told g.R.Rack c.write_blocks.new.rack)))
    (one_block c.args.from.now c.told-from) (c.write_blocks.ensures.does none)

pub returns-clause-once : goal.returns-clause-once
returns-clause-once g c cells of =
    let one : length c.args.from.now / 512 ≡ 1 = ap (λ (n : ℕ). n / 512) c.told-from in
    c.write_blocks.ensures.once cells
    (subst (λ (n : ℕ). AreOfBlocks c.args.self.now.member.array.geometry c.args.block n cells) (sym one) of)
