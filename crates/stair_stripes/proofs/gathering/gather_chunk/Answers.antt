-- Each turn reads the wanted cell of the next row.
use Rattle.std.proofs.Common.{◌≡◌, ◌+◌, sym, ◌∙◌, refl, arith}
use Rattle.std.proofs.lemmas.Bool.{false≢true}
use Rattle.stair_rack.specs.declared.rack.Got.TheVariants as got
use Rattle.stair_rack.proofs.RackStateLemmas.{gone_to_read, later_called, reading_bad, reading_good}
use Rattle.stair_stripes.proofs.ReadCounts.{read_more, read_no_more, read_slot}
use Rattle.stair_stripes.proofs.SoFarLemmas.{goes_bad, goes_ended, goes_good, goes_lost, goes_skipped}
use Rattle.stair_stripes.proofs.gathering.gather_chunk.Goals as goal
use Rattle.stair_stripes.proofs.gathering.gather_chunk.Goals.{then-has+in-Good, then-has+in-Bad, else-has}

pub loop-row-preserved : goal.loop-row-preserved
loop-row-preserved g c =
    let so_far = c.loop-row.invariant in
    elim c.if-has.branch [
      | then-has+in-Good w ↦
          let told = rw w.cell_sector.ensures at w.in-Good.ensures.does in
          let good = rw w.cell_sector.ensures at w.in-Good.ensures.good in
          let formed = rw w.put.ensures.value at w.put.ensures.well_formed in
          rw (w.rack-is, w.into-is, w.gathered-is, w.put.ensures.value)
          (record {
            goes =
                goes_good _ _ _ c.requires.wanted _ c.loop-row.row _ _ _ _ _ _ so_far.goes _ (omega arith) c.requires.slot_in
                (c.has.ensures.member.0 w.if-has.true) (later_called _ _ _ _ _ _ _ _ _ told w.in-Good.ensures.counts) got.Good told (λ same. absurd (cc)) w.read.new.into formed
                (reading_good _ _ _ (g.R.Rack.bads c.loop-row.rack) (g.R.Rack.bads w.read.new.self) (g.R.Rack.gones c.loop-row.rack) (g.R.Rack.gones w.read.new.self) _ _ _ told (λ is. good is refl));
            shape = record { rows = so_far.shape.rows; chunks = so_far.shape.chunks };
            formed = so_far.formed;
            reads = read_more c.args.wanted.now c.args.slot c.loop-row.row _ _ so_far.reads _ (c.has.ensures.member.0 w.if-has.true) got.Good w.in-Good.ensures.reads;
          })
      | then-has+in-Bad w ↦
          let told = rw w.cell_sector.ensures at w.in-Bad.ensures.does in
          rw (w.rack-is, w.into-is, w.gathered-is)
          (record {
            goes =
                goes_bad _ _ _ c.requires.wanted _ c.loop-row.row _ _ _ _ _ _ so_far.goes _ (omega arith) c.requires.slot_in
                (c.has.ensures.member.0 w.if-has.true) (later_called _ _ _ _ _ _ _ _ _ told w.in-Bad.ensures.counts) got.Bad told (λ same. absurd (cc)) w.add.new.self
                w.add.ensures.well_formed w.add.ensures.members
                (reading_bad _ _ _ (g.R.Rack.bads c.loop-row.rack) (g.R.Rack.bads w.read.new.self) (g.R.Rack.gones c.loop-row.rack) (g.R.Rack.gones w.read.new.self) _ _ w.in-Bad.ensures.began told (w.in-Bad.ensures.bad refl));
            shape = so_far.shape;
            formed = w.add.ensures.well_formed;
            reads = read_more c.args.wanted.now c.args.slot c.loop-row.row _ _ so_far.reads _ (c.has.ensures.member.0 w.if-has.true) got.Bad w.in-Bad.ensures.reads;
          })
      | else-has w ↦
          rw (w.rack-is, w.into-is, w.gathered-is)
          (record {
            goes =
                goes_skipped _ _ _ c.requires.wanted _ c.loop-row.row _ _ _ _ _ _ so_far.goes
                (λ has. false≢true (sym w.if-has.false ∙ c.has.ensures.member.1 has));
            shape = so_far.shape;
            formed = so_far.formed;
            reads = read_no_more c.args.wanted.now c.args.slot c.loop-row.row _ _ so_far.reads (λ has. false≢true (sym w.if-has.false ∙ c.has.ensures.member.1 has));
          })
    ]

pub returns-in-Gone-clause-gathered : goal.returns-in-Gone-clause-gathered
returns-in-Gone-clause-gathered g c =
    let told = rw c.cell_sector.ensures at c.in-Gone.ensures.does in
    goes_lost _ _ _ c.requires.wanted _ c.loop-row.row _ _ _ _ _ _ c.loop-row.invariant.goes _ (omega arith) c.requires.slot_in
    (c.if-has.ensures.member.0 refl) (later_called _ _ _ _ _ _ _ _ _ told c.in-Gone.ensures.counts) got.Gone told refl c.lose_chunk.new.gathered
    c.lose_chunk.ensures.formed_gone c.lose_chunk.ensures.gone c.lose_chunk.ensures.erased
    (gone_to_read _ _ _ _ _ _ _ _ _ told (c.in-Gone.ensures.gone refl))

pub returns-in-Gone-clause-reads : goal.returns-in-Gone-clause-reads
returns-in-Gone-clause-reads g c =
    read_slot c.args.wanted.now c.args.slot (c.loop-row.row + 1) (g.R.Rack.reads c.args.rack.now) (g.R.Rack.reads c.read.new.self)
    (read_more c.args.wanted.now c.args.slot c.loop-row.row (g.R.Rack.reads c.args.rack.now) (g.R.Rack.reads c.loop-row.rack) c.loop-row.invariant.reads
    (g.R.Rack.reads c.read.new.self) (c.has.ensures.member.0 c.if-has.true) got.Gone c.in-Gone.ensures.reads)
    (omega (arith, c.r-row-end.ensures.limits.rows.1))

pub returns-clause-gathered : goal.returns-clause-gathered
returns-clause-gathered g c =
    let all : c.loop-row.row ≡ c.args.geometry.now.r = omega arith in
    goes_ended _ _ _ c.requires.wanted _ c.loop-row.row _ _ _ _ _ _ c.loop-row.invariant.goes all

pub returns-clause-reads : goal.returns-clause-reads
returns-clause-reads g c =
    read_slot c.args.wanted.now c.args.slot c.loop-row.row (g.R.Rack.reads c.args.rack.now) (g.R.Rack.reads c.loop-row.rack) c.loop-row.invariant.reads
    (omega (arith, c.r-row-end.ensures.limits.rows.1))
