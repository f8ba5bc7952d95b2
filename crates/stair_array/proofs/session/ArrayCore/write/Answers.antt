-- The cells were made ready, and a redo of them was run.
use Rattle.std.proofs.Common.{◌∙◌, ◌/◌, length, ap, refl, subst}
use Rattle.stair_model.specs.Geometry.{Geometry, data_cells}
use Rattle.stair_rack.specs.Told.{told}
use Rattle.stair_journal.specs.Redo.{IsRedo}
use Rattle.stair_invariant.specs.Effects.{snapshot}
use Rattle.stair_array.specs.Calls.{AreOfBlocks}
use Rattle.stair_array.proofs.GoneToLemmas.{after_none}
use Rattle.stair_array.proofs.RedoLemmas.{redo_after}
use Rattle.stair_array.proofs.WritingLemmas.{are_in_place, reads_once, unready, wrote, wrote_stops}
use Rattle.stair_array.proofs.session.ArrayCore.write.Goals as goal

pub returns-in_err-make_ready-clause-does : goal.returns-in_err-make_ready-clause-does
returns-in_err-make_ready-clause-does g c =
    unready (snapshot c.args.self.now.member (told g.R.Rack c.args.rack.now)) c.redo_of-redo.result c.args.first c.args.from.now
    (are_in_place c.args.self.now.member.array c.geometry.result c.redo_of-redo.result c.args.first c.args.from.now c.geometry.ensures.value
    c.requires.first c.requires.thawed c.requires.sectors c.requires.together c.redo_of-redo.ensures.redo c.redo_of-redo.ensures.stripe
    c.redo_of-redo.ensures.change)
    (snapshot c.make_ready.new.self.member (told g.R.Rack c.make_ready.new.rack)) c.make_ready.new.self.stripe _ _ c.from_residual.ensures.1
    c.in_err-make_ready.ensures.does

pub returns-in_err-redo-clause-does : goal.returns-in_err-redo-clause-does
returns-in_err-redo-clause-does g c =
    wrote_stops (snapshot c.args.self.now.member (told g.R.Rack c.args.rack.now)) c.redo_of-redo.result c.args.first c.args.from.now
    (are_in_place c.args.self.now.member.array c.geometry.result c.redo_of-redo.result c.args.first c.args.from.now c.geometry.ensures.value
    c.requires.first c.requires.thawed c.requires.sectors c.requires.together c.redo_of-redo.ensures.redo c.redo_of-redo.ensures.stripe
    c.redo_of-redo.ensures.change)
    (subst (λ (h : Geometry). IsRedo h c.redo_of-redo.result) c.geometry.ensures.value c.redo_of-redo.ensures.redo)
    (snapshot c.make_ready.new.self.member (told g.R.Rack c.make_ready.new.rack)) (snapshot c.redo.new.self.member (told g.R.Rack c.redo.new.rack))
    c.make_ready.new.self.stripe c.make_ready.ensures.geometry c.in_ok-make_ready.ensures.does _ _ c.from_residual-in_err-redo.ensures.1
    c.in_err-redo.ensures.does

pub returns-clause-does : goal.returns-clause-does
returns-clause-does g c =
    wrote (snapshot c.args.self.now.member (told g.R.Rack c.args.rack.now)) c.redo_of-redo.result c.args.first c.args.from.now
    (are_in_place c.args.self.now.member.array c.geometry.result c.redo_of-redo.result c.args.first c.args.from.now c.geometry.ensures.value
    c.requires.first c.requires.thawed c.requires.sectors c.requires.together c.redo_of-redo.ensures.redo c.redo_of-redo.ensures.stripe
    c.redo_of-redo.ensures.change)
    (subst (λ (h : Geometry). IsRedo h c.redo_of-redo.result) c.geometry.ensures.value c.redo_of-redo.ensures.redo)
    (snapshot c.make_ready.new.self.member (told g.R.Rack c.make_ready.new.rack)) (snapshot c.redo.new.self.member (told g.R.Rack c.redo.new.rack))
    c.make_ready.new.self.stripe c.make_ready.ensures.geometry c.in_ok-make_ready.ensures.does c.in_ok-redo.ensures.does

pub returns-in_err-make_ready-clause-once : goal.returns-in_err-make_ready-clause-once
returns-in_err-make_ready-clause-once g c cells of =
    reads_once c.args.self.now.member.array.geometry c.args.first _ _ _ c.redo_of-redo.result.cells cells
    (snapshot c.args.self.now.member (told g.R.Rack c.args.rack.now)) (told g.R.Rack c.make_ready.new.rack) (told g.R.Rack c.make_ready.new.rack) _ _ _
    (c.redo_of-redo.ensures.stripe ∙ ap (λ (h : Geometry). c.args.first / data_cells h) c.geometry.ensures.value)
    (subst (λ (h : Geometry). AreOfBlocks h c.args.first (length c.args.from.now) c.redo_of-redo.result.cells) c.geometry.ensures.value c.redo_of-redo.ensures.change) of
    c.make_ready.ensures.later (after_none (told g.R.Rack c.make_ready.new.rack)) refl c.make_ready.ensures.once

pub returns-in_err-redo-clause-once : goal.returns-in_err-redo-clause-once
returns-in_err-redo-clause-once g c cells of =
    reads_once c.args.self.now.member.array.geometry c.args.first _ _ _ c.redo_of-redo.result.cells cells
    (snapshot c.args.self.now.member (told g.R.Rack c.args.rack.now)) (told g.R.Rack c.make_ready.new.rack) (told g.R.Rack c.redo.new.rack) _ _ _
    (c.redo_of-redo.ensures.stripe ∙ ap (λ (h : Geometry). c.args.first / data_cells h) c.geometry.ensures.value)
    (subst (λ (h : Geometry). AreOfBlocks h c.args.first (length c.args.from.now) c.redo_of-redo.result.cells) c.geometry.ensures.value c.redo_of-redo.ensures.change) of
    c.make_ready.ensures.later
    (redo_after _ _ _ _ _ (snapshot c.make_ready.new.self.member (told g.R.Rack c.make_ready.new.rack))
    (snapshot c.redo.new.self.member (told g.R.Rack c.redo.new.rack)) c.redo.ensures.does) c.redo.ensures.reads c.make_ready.ensures.once

pub returns-clause-once : goal.returns-clause-once
returns-clause-once g c cells of =
    reads_once c.args.self.now.member.array.geometry c.args.first _ _ _ c.redo_of-redo.result.cells cells
    (snapshot c.args.self.now.member (told g.R.Rack c.args.rack.now)) (told g.R.Rack c.make_ready.new.rack) (told g.R.Rack c.redo.new.rack) _ _ _
    (c.redo_of-redo.ensures.stripe ∙ ap (λ (h : Geometry). c.args.first / data_cells h) c.geometry.ensures.value)
    (subst (λ (h : Geometry). AreOfBlocks h c.args.first (length c.args.from.now) c.redo_of-redo.result.cells) c.geometry.ensures.value c.redo_of-redo.ensures.change) of
    c.make_ready.ensures.later
    (redo_after _ _ _ _ _ (snapshot c.make_ready.new.self.member (told g.R.Rack c.make_ready.new.rack))
    (snapshot c.redo.new.self.member (told g.R.Rack c.redo.new.rack)) c.redo.ensures.does) c.redo.ensures.reads c.make_ready.ensures.once
