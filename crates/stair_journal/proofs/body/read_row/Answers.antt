-- Each turn reads the next cell of the row, where it is one of the redo's.
use Rattle.std.proofs.Common.{◌≡◌, ◌<◌, sym, ◌∙◌, arith}
use Rattle.std.proofs.lemmas.Bool.{false≢true}
use Rattle.stair_rack.specs.Told.{told}
use Rattle.stair_journal.specs.BodySteps.{standing}
use Rattle.stair_journal.proofs.BodyLemmas.{cell_more, cell_skipped, row_done}
use Rattle.stair_journal.proofs.body.read_row.Goals as goal
use Rattle.stair_journal.proofs.body.read_row.Goals.{then-has, else-has}

pub loop-chunk-preserved : goal.loop-chunk-preserved
loop-chunk-preserved g c =
    let chunk_in : c.loop-chunk.chunk < c.args.geometry.now.n = omega arith in
    let old =
    standing c.loop-chunk.body c.loop-chunk.into
    (told g.R.Rack c.loop-chunk.rack)
    (g.R.Rack.reads c.loop-chunk.rack) in
    elim c.if-has.branch [
      | then-has w ↦
          let new =
          standing w.read_cell.new.body w.read_cell.new.into
          (told g.R.Rack w.read_cell.new.rack) (g.R.Rack.reads w.read_cell.new.rack) in
          rw (w.rack-is, w.into-is, w.body-is)
          (record {
            shape = w.read_cell.ensures.shape;
            so_far = λ start before.
                cell_more c.args.geometry.now c.args.live c.args.redo.now c.requires.redo c.args.row c.loop-chunk.chunk c.requires.row chunk_in start old
                (c.loop-chunk.invariant.so_far start before) new (c.has.ensures.member.0 w.if-has.true) w.read_cell.ensures;
          })
      | else-has w ↦
          rw (w.rack-is, w.into-is, w.body-is)
          (record {
            shape = c.loop-chunk.invariant.shape;
            so_far = λ start before.
                cell_skipped c.args.geometry.now c.args.live c.args.redo.now c.requires.redo c.args.row c.loop-chunk.chunk c.requires.row chunk_in start
                old (c.loop-chunk.invariant.so_far start before) (λ has. false≢true (sym w.if-has.false ∙ c.has.ensures.member.1 has));
          })
    ]

pub returns : goal.returns
returns g c start before =
    let all : c.loop-chunk.chunk ≡ c.args.geometry.now.n = omega arith in
    row_done c.args.geometry.now c.args.live c.args.redo.now c.args.row start
    (standing c.loop-chunk.body c.loop-chunk.into
    (told g.R.Rack c.loop-chunk.rack)
    (g.R.Rack.reads c.loop-chunk.rack)) c.requires.redo c.n-chunk-end.ensures.limits
    (rw all at (c.loop-chunk.invariant.so_far start before))
