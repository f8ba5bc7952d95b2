-- The next chunk was written, or its slot fell, or that was refused.
use Rattle.std.proofs.Common.{◌<◌, ap, arith, subst, sym, None}
use Rattle.stair_rack.specs.Told.{told}
use Rattle.stair_invariant.specs.Effects.{snapshot}
use Rattle.stair_array.specs.Arrays.{OpenArray, state_of}
use Rattle.stair_array.specs.Promise.{running}
use Rattle.stair_array.proofs.RebuildingLemmas.{next_rebuilt, next_same, under_past}
use Rattle.stair_array.proofs.StayDownLemmas.{next_part, part_down}
use Rattle.stair_array.proofs.array.Array.chunk_to.Goals as goal

pub chunk_to-written-requires-clause-rebuilt : goal.chunk_to-written-requires-clause-rebuilt
chunk_to-written-requires-clause-rebuilt g c =
    (next_rebuilt (running c.self.inside.session.member c.self.inside.rebuild None) c.args.slot c.args.stripe
    (next_same (state_of c.args.self.now) (running c.self.inside.session.member c.self.inside.rebuild None) _ _
    (ap (λ (a : OpenArray). a.member) c.self.view_is) (ap (λ (a : OpenArray). a.rebuild) c.self.view_is) c.requires.next)
    c.self.invariant.1).0

pub of-next-requires : goal.of-next-requires
of-next-requires g c =
    let few = c.geometry.ensures.rules.array.limits.devices.1 in
    let below =
    (next_rebuilt (running c.self.inside.session.member c.self.inside.rebuild None) c.args.slot c.args.stripe
    (next_same (state_of c.args.self.now) (running c.self.inside.session.member c.self.inside.rebuild None) _ _
    (ap (λ (a : OpenArray). a.member) c.self.view_is) (ap (λ (a : OpenArray). a.rebuild) c.self.view_is) c.requires.next)
    c.self.invariant.1).0.below in
    omega (arith, few, below)

pub invariant_of-self : goal.invariant_of-self
invariant_of-self g c = (
  c.chunk_to-written.ensures.fits,
  rw (c.left_past-self-inside.ensures, c.of-next.ensures)
      (under_past _ _ _ _ _ _ c.self.invariant.1 c.chunk_to-written.ensures.geometry
      (next_rebuilt (running c.self.inside.session.member c.self.inside.rebuild None) c.args.slot c.args.stripe
      (next_same (state_of c.args.self.now) (running c.self.inside.session.member c.self.inside.rebuild None) _ _
      (ap (λ (a : OpenArray). a.member) c.self.view_is) (ap (λ (a : OpenArray). a.rebuild) c.self.view_is) c.requires.next)
      c.self.invariant.1).0
      (subst (λ (a : OpenArray). c.args.stripe < a.member.array.geometry.stripes) (sym c.self.view_is) c.requires.stripe)),
)

pub returns-clause-stays : goal.returns-clause-stays
returns-clause-stays g c =
    rw (← c.self.view_is)
    (part_down 0 (snapshot c.self.inside.session.member (told g.R.Rack c.args.rack.now))
    (snapshot c.chunk_to-written.new.self.member (told g.R.Rack c.chunk_to-written.new.rack))
    (next_part c.args.slot c.args.stripe _ (snapshot c.self.inside.session.member (told g.R.Rack c.args.rack.now))
    (snapshot c.chunk_to-written.new.self.member (told g.R.Rack c.chunk_to-written.new.rack)) c.chunk_to-written.ensures.does c.geometry.ensures.rules))
