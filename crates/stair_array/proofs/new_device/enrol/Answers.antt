-- The one place, and then the other.
use Rattle.std.proofs.Common.{◌≡◌, subst, sym, ◌∙◌, arith}
use Rattle.stair_rack.specs.declared.rack.Reply.TheVariants as reply
use Rattle.stair_rack.proofs.MomentLemmas.{ran_join, ran_none}
use Rattle.stair_rack.proofs.PassCounts.{Done-compared, Gone-compared, NoneFalls-same}
use Rattle.stair_super.specs.Superblock.{IsWellFormed, superblock_of}
use Rattle.stair_super.specs.declared.configuration.Configuration.{Configuration}
use Rattle.stair_rack.specs.Told.{told}
use Rattle.stair_array.proofs.CreatedLemmas.{first_formed}
use Rattle.stair_array.proofs.EnrolLemmas.{first_in_turn, first_sector, first_text, of_place, place_gone, place_ran, places_in_turn, places_made}
use Rattle.stair_array.proofs.new_device.enrol.Goals as goal

pub new-requires : goal.new-requires
new-requires g c =
    subst (λ (array : Configuration). IsWellFormed (superblock_of array c.args.slot 1 1)) (sym c.requires.first)
    (first_formed c.args.array.now.geometry c.args.slot c.requires.limits c.requires.slot_in)

pub returns-then-eq-clause-gone : goal.returns-then-eq-clause-gone
returns-then-eq-clause-gone g c is =
    let gone : c.write_through.result ≡ reply.Gone = Gone-compared c.write_through.result (sym c.eq.ensures ∙ c.if-eq.true) in
    place_gone c.args.array.now.geometry c.args.slot 0 c.write_super-block.result c.write_through.result (told g.R.Rack c.args.rack.now)
    (told g.R.Rack c.args.rack.now)
    (told g.R.Rack c.write_through.new.rack) (omega arith) gone (NoneFalls-same _ _) c.write_through.ensures.counts (c.write_through.ensures.gone gone)
    (λ honest. ran_none _) c.write_through.ensures.does

pub returns-then-eq-clause-ran : goal.returns-then-eq-clause-ran
returns-then-eq-clause-ran g c honest =
    let text = first_text c.args.array.now c.args.slot _ c.write_super-block.result c.requires.first c.write_super-block.ensures.text c.new.ensures in
    of_place c.args.array.now.geometry (omega arith)
    (place_ran c.args.array.now.geometry c.args.slot 0 c.write_super-block.result c.write_through.result
    (first_sector c.args.array.now.geometry c.args.slot 0 c.write_super-block.result (omega arith) text) (c.write_through.ensures.does honest))

pub returns-then-eq-clause-in_turn : goal.returns-then-eq-clause-in_turn
returns-then-eq-clause-in_turn g c honest =
    let text = first_text c.args.array.now c.args.slot _ c.write_super-block.result c.requires.first c.write_super-block.ensures.text c.new.ensures in
    first_in_turn c.args.array.now.geometry
    (place_ran c.args.array.now.geometry c.args.slot 0 c.write_super-block.result c.write_through.result
    (first_sector c.args.array.now.geometry c.args.slot 0 c.write_super-block.result (omega arith) text) (c.write_through.ensures.does honest))

pub returns-clause-made : goal.returns-clause-made
returns-clause-made g c honest done' =
    let done : c.write_through.result ≡ reply.Done = Done-compared c.write_through.result (sym c.eq.ensures ∙ c.if-eq.false) in
    let text = first_text c.args.array.now c.args.slot _ c.write_super-block.result c.requires.first c.write_super-block.ensures.text c.new.ensures in
    places_made c.args.array.now.geometry c.args.slot c.write_super-block.result c.write_through.result c.write_through-2.result
    (g.R.Rack.history c.args.rack.now) (g.R.Rack.history c.write_through.new.rack) (g.R.Rack.history c.write_through-2.new.rack) text done done'
    (c.write_through.ensures.does honest) (c.write_through-2.ensures.does honest)

pub returns-clause-gone : goal.returns-clause-gone
returns-clause-gone g c gone =
    let text = first_text c.args.array.now c.args.slot _ c.write_super-block.result c.requires.first c.write_super-block.ensures.text c.new.ensures in
    place_gone c.args.array.now.geometry c.args.slot 1 c.write_super-block.result c.write_through-2.result (told g.R.Rack c.args.rack.now)
    (told g.R.Rack c.write_through.new.rack)
    (told g.R.Rack c.write_through-2.new.rack) (omega arith) gone c.write_through.ensures.counts c.write_through-2.ensures.counts (c.write_through-2.ensures.gone gone)
    (λ honest.
    of_place c.args.array.now.geometry (omega arith)
    (place_ran c.args.array.now.geometry c.args.slot 0 c.write_super-block.result c.write_through.result
    (first_sector c.args.array.now.geometry c.args.slot 0 c.write_super-block.result (omega arith) text) (c.write_through.ensures.does honest)))
    c.write_through-2.ensures.does

pub returns-clause-ran : goal.returns-clause-ran
returns-clause-ran g c honest =
    let text = first_text c.args.array.now c.args.slot _ c.write_super-block.result c.requires.first c.write_super-block.ensures.text c.new.ensures in
    ran_join
    (of_place c.args.array.now.geometry (omega arith)
    (place_ran c.args.array.now.geometry c.args.slot 0 c.write_super-block.result c.write_through.result
    (first_sector c.args.array.now.geometry c.args.slot 0 c.write_super-block.result (omega arith) text) (c.write_through.ensures.does honest)))
    (of_place c.args.array.now.geometry (omega arith)
    (place_ran c.args.array.now.geometry c.args.slot 1 c.write_super-block.result c.write_through-2.result
    (first_sector c.args.array.now.geometry c.args.slot 1 c.write_super-block.result (omega arith) text) (c.write_through-2.ensures.does honest)))

pub returns-clause-in_turn : goal.returns-clause-in_turn
returns-clause-in_turn g c honest =
    let done : c.write_through.result ≡ reply.Done = Done-compared c.write_through.result (sym c.eq.ensures ∙ c.if-eq.false) in
    let text = first_text c.args.array.now c.args.slot _ c.write_super-block.result c.requires.first c.write_super-block.ensures.text c.new.ensures in
    places_in_turn c.args.array.now.geometry c.args.slot c.write_super-block.result c.write_through.result c.write_through-2.result
    (g.R.Rack.history c.args.rack.now) (g.R.Rack.history c.write_through.new.rack) (g.R.Rack.history c.write_through-2.new.rack) text done
    (c.write_through.ensures.does honest) (c.write_through-2.ensures.does honest)
