-- The stripe was gathered, slots that were gone were left out, and what couldn't be read was written anew.
use Rattle.std.proofs.Common.{refl, sym, subst, ◌∙◌, None}
use Rattle.std.proofs.lemmas.Bool.{false≢true}
use Rattle.stair_model.specs.Geometry.{Geometry}
use Rattle.stair_rack.specs.Told.{told}
use Rattle.stair_journal.specs.Redo.{IsRedo}
use Rattle.stair_invariant.specs.Effects.{snapshot}
use Rattle.stair_array.proofs.MendingLemmas.{redo_of_them, scrub_lost, scrub_refused, scrub_sound, scrub_stops, scrub_writes}
use Rattle.stair_array.proofs.session.ArrayCore.scrub.Goals as goal

pub returns-in_err-fence_if_any-clause-does : goal.returns-in_err-fence_if_any-clause-does
returns-in_err-fence_if_any-clause-does g c =
    scrub_stops c.args.self.now.member _ c.geometry-geometry.ensures.value _ c.live-live.ensures _ _ _ _ _ _ c.gather-gathered.ensures.does
    (snapshot c.fence_if_any.new.self.member (told g.R.Rack c.fence_if_any.new.rack)) c.requires.stripe _ _ c.from_residual.ensures.1
    c.in_err-fence_if_any.ensures.does

pub returns-then-count-eq0-clause-does : goal.returns-then-count-eq0-clause-does
returns-then-count-eq0-clause-does g c =
    scrub_sound c.args.self.now.member _ c.geometry-geometry.ensures.value _ c.live-live.ensures _ _ _ _ _ _ c.gather-gathered.ensures.does
    (snapshot c.fence_if_any.new.self.member (told g.R.Rack c.fence_if_any.new.rack)) c.requires.stripe c.in_ok-fence_if_any.ensures.does _
    c.live-still_live.ensures _ c.cells_on-cells.ensures.members c.geometry-geometry.ensures.rules.array.limits
    (sym c.count-count.ensures.value ∙ c.if-count-eq0.true)

pub redo-requires : goal.redo-requires
redo-requires g c =
    subst (λ (k : Geometry). IsRedo k (record { stripe = c.args.stripe; cells = c.cells_on-cells.result })) (sym c.in_ok-fence_if_any.ensures.geometry)
    (redo_of_them c.args.self.now.member _ c.geometry-geometry.ensures.value _ c.live-live.ensures _ _ _ _ _ _ c.gather-gathered.ensures.does
    (snapshot c.fence_if_any.new.self.member (told g.R.Rack c.fence_if_any.new.rack)) c.requires.stripe c.in_ok-fence_if_any.ensures.does _
    c.live-still_live.ensures _ c.cells_on-cells.ensures.members c.cells_on-cells.ensures.formed
    (λ none. c.if-count-eq0.false (c.count-count.ensures.value ∙ none)))

pub returns-in_err-redo-in-Ok-clause-does : goal.returns-in_err-redo-in-Ok-clause-does
returns-in_err-redo-in-Ok-clause-does g c =
    scrub_refused c.args.self.now.member _ c.geometry-geometry.ensures.value _ c.live-live.ensures _ _ _ _ _ _ c.gather-gathered.ensures.does
    (snapshot c.fence_if_any.new.self.member (told g.R.Rack c.fence_if_any.new.rack)) c.requires.stripe c.in_ok-fence_if_any.ensures.does _
    c.live-still_live.ensures _ c.cells_on-cells.ensures.members _ c.requires.fits _ _ c.fence_if_any.ensures.stripe
    (c.in-Ok.ensures.covered.0 refl) c.in-Ok.ensures.held c.in-Ok.ensures.restored c.cells_on-cells.ensures.formed
    (λ none. c.if-count-eq0.false (c.count-count.ensures.value ∙ none)) _ _ c.from_residual-in_err-redo-in-Ok.ensures.1 _
    c.in_ok-fence_if_any.ensures.geometry (snapshot c.redo.new.self.member (told g.R.Rack c.redo.new.rack))
    c.in_err-redo-in-Ok.ensures.does

pub returns-in_ok-redo-in-Ok-clause-does : goal.returns-in_ok-redo-in-Ok-clause-does
returns-in_ok-redo-in-Ok-clause-does g c =
    rw c.count-count.ensures.value
    (scrub_writes c.args.self.now.member _ c.geometry-geometry.ensures.value _ c.live-live.ensures _ _ _ _ _ _ c.gather-gathered.ensures.does
    (snapshot c.fence_if_any.new.self.member (told g.R.Rack c.fence_if_any.new.rack)) c.requires.stripe c.in_ok-fence_if_any.ensures.does _
    c.live-still_live.ensures _ c.cells_on-cells.ensures.members _ c.requires.fits _ _ c.fence_if_any.ensures.stripe
    (c.in-Ok.ensures.covered.0 refl) c.in-Ok.ensures.held c.in-Ok.ensures.restored c.cells_on-cells.ensures.formed
    (λ none. c.if-count-eq0.false (c.count-count.ensures.value ∙ none)) None _ c.in_ok-fence_if_any.ensures.geometry
    (snapshot c.redo.new.self.member (told g.R.Rack c.redo.new.rack)) c.in_ok-redo-in-Ok.ensures.does)

pub returns-in-Err-clause-does : goal.returns-in-Err-clause-does
returns-in-Err-clause-does g c =
    scrub_lost c.args.self.now.member _ c.geometry-geometry.ensures.value _ c.live-live.ensures _ _ _ _ _ _ c.gather-gathered.ensures.does
    (snapshot c.fence_if_any.new.self.member (told g.R.Rack c.fence_if_any.new.rack)) c.requires.stripe c.in_ok-fence_if_any.ensures.does _
    c.live-still_live.ensures _ c.cells_on-cells.ensures.members _ c.requires.fits c.fence_if_any.new.self.stripe _
    (λ covered. false≢true (c.in-Err.ensures.covered.1 covered)) c.counts.ensures.value
