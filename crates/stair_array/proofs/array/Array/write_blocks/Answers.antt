-- The blocks of the bytes are written.
use Rattle.std.proofs.Common.{◌≡◌, ◌/◌, ◌<◌, ℕ, length, ap, sym, subst, arith}
use Rattle.std.specs.Prelude.{All}
use Rattle.std.proofs.lemmas.List.Elements.{All-from_get_or}
use Rattle.stair_model.specs.Geometry.{Geometry}
use Rattle.stair_model.specs.Stripe.{IsSector}
use Rattle.stair_rack.specs.Told.{told}
use Rattle.stair_invariant.specs.Effects.{snapshot}
use Rattle.stair_array.specs.Arrays.{OpenArray}
use Rattle.stair_array.specs.Calls.{AreOfBlocks}
use Rattle.stair_array.proofs.NewsLemmas.{write_news}
use Rattle.stair_array.proofs.WritingLemmas.{blocks_sectors, frozen_write, written_past}
use Rattle.stair_array.proofs.RebuildingLemmas.{under_after}
use Rattle.stair_array.proofs.array.Array.write_blocks.Goals as goal

pub returns-in_err-place_of-clause-does : goal.returns-in_err-place_of-clause-does
returns-in_err-place_of-clause-does g c none =
    rw (← c.self.view_is)
    (written_past _ _ (snapshot c.self.inside.session.member (told g.R.Rack c.args.rack.now)) _ _ c.in_err-place_of.ensures.past
    c.in_err-place_of.ensures.fault c.from_residual.ensures.1)

pub returns-then-frozen-clause-does : goal.returns-then-frozen-clause-does
returns-then-frozen-clause-does g c none =
    rw (← c.self.view_is)
    (frozen_write _ _ (snapshot c.self.inside.session.member (told g.R.Rack c.args.rack.now)) c.in_ok-place_of.ensures.place.below
    (sym c.if-frozen.ensures.value))

pub write-written-requires-clause-sectors : goal.write-written-requires-clause-sectors
write-written-requires-clause-sectors g c = subst (All IsSector) (sym c.as_chunks.ensures.front)
    (blocks_sectors c.args.from.now (All-from_get_or (λ b. b < 256) c.args.from.now 0 (λ i below. omega (arith, c.type_inv.from i))))

pub returns-clause-news : goal.returns-clause-news
returns-clause-news g c = rw (← c.self.view_is) (write_news _ _ _ _ _ _ _ c.add_fallen.ensures)

pub returns-clause-once : goal.returns-clause-once
returns-clause-once g c cells of =
    let same : c.self.inside.session.member.array.geometry ≡ c.args.self.now.member.array.geometry =
    ap (λ (a : OpenArray). a.member.array.geometry) c.self.view_is in
    rw (← c.self.view_is)
    (c.write-written.ensures.once cells
    (subst (λ (n : ℕ). AreOfBlocks c.self.inside.session.member.array.geometry c.args.first n cells) (sym c.as_chunks.ensures.front_len)
    (subst (λ (g : Geometry). AreOfBlocks g c.args.first (length c.args.from.now / 512) cells) (sym same) of)))

pub invariant_of-self-2 : goal.invariant_of-self-2
invariant_of-self-2 g c = (
  c.write-written.ensures.fits,
  rw c.left_of-self-inside.ensures (under_after _ _ c.write-written.ensures.geometry _ c.self.invariant.1),
)
