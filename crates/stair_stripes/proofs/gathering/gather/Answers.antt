-- All cells of the stripe are gathered.
use Rattle.std.proofs.Common.{◌*◌, ◌≤◌}
use Rattle.stair_model.specs.CellSet.{HasCell, cell_count}
use Rattle.stair_rack.specs.Told.{told}
use Rattle.stair_stripes.specs.Gathering.{IsCellOf}
use Rattle.stair_stripes.proofs.GatheringLemmas.{gathers_same}
use Rattle.stair_rack.proofs.PassCounts.{rises_within}
use Rattle.stair_stripes.proofs.ReadCounts.{stripe_few}
use Rattle.stair_stripes.proofs.ReadsLemmas.{chunks_same}
use Rattle.stair_stripes.proofs.gathering.gather.Goals as goal

pub returns-clause-does : goal.returns-clause-does
returns-clause-does g c =
    gathers_same c.args.geometry.now c.args.live c.args.stripe (HasCell c.cells.result) (IsCellOf c.args.geometry.now) c.gather_cells.result
    c.args.into.now c.gather_cells.new.into
    (told g.R.Rack c.args.rack.now)
    (told g.R.Rack c.gather_cells.new.rack)
    c.cells.ensures.members c.gather_cells.ensures.does

pub returns-clause-reads : goal.returns-clause-reads
returns-clause-reads g c =
    let limits = c.cells.ensures.limits in
    rises_within (cell_count c.cells.result) (c.args.geometry.now.r * c.args.geometry.now.n) (g.R.Rack.reads c.args.rack.now)
    (g.R.Rack.reads c.gather_cells.new.rack)
    (stripe_few c.args.geometry.now c.cells.result (λ i j. (c.cells.ensures.members i j).0) limits.rows.1 limits.devices.1)
    c.gather_cells.ensures.reads

pub returns-clause-in_turn : goal.returns-clause-in_turn
returns-clause-in_turn g c honest =
    chunks_same c.args.geometry.now c.args.live c.args.stripe (HasCell c.cells.result) (IsCellOf c.args.geometry.now) c.cells.ensures.members
    c.gather_cells.result.gone c.gather_cells.result.gone c.args.geometry.now.n (g.R.Rack.history c.args.rack.now)
    (g.R.Rack.history c.gather_cells.new.rack) (λ j less. (λ has. has, λ has. has)) (c.gather_cells.ensures.in_turn honest)
