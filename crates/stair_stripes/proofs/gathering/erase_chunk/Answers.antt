-- Each turn erases the wanted cell of the next row.
use Rattle.std.proofs.Common.{◌≡◌, arith}
use Rattle.std.proofs.lemmas.Bool.{false≢true}
use Rattle.std.proofs.Common.{sym, ◌∙◌}
use Rattle.stair_stripes.proofs.CellLemmas.{erases_all, erases_more, erases_none, erases_skipped}
use Rattle.stair_stripes.proofs.gathering.erase_chunk.Goals as goal
use Rattle.stair_stripes.proofs.gathering.erase_chunk.Goals.{then-has, else-has}

pub loop-row-init : goal.loop-row-init
loop-row-init c = erases_none c.args.wanted.now c.args.slot c.args.erased.now c.requires.erased

pub loop-row-preserved : goal.loop-row-preserved
loop-row-preserved c =
    let so_far = c.loop-row.invariant in
    elim c.if-has.branch [
      | then-has w ↦
          rw w.erased-is
          (erases_more c.args.wanted.now c.args.slot c.loop-row.row c.args.erased.now c.loop-row.erased so_far w.add.new.self
          (c.has.ensures.member.0 w.if-has.true) w.add.ensures.members w.add.ensures.well_formed)
      | else-has w ↦
          rw w.erased-is
          (erases_skipped c.args.wanted.now c.args.slot c.loop-row.row c.args.erased.now c.loop-row.erased so_far
          (λ has. false≢true (sym w.if-has.false ∙ c.has.ensures.member.1 has)))
    ]

pub returns : goal.returns
returns c =
    let all : c.loop-row.row ≡ c.args.geometry.now.r = omega arith in
    erases_all c.args.wanted.now c.args.slot c.loop-row.row c.args.erased.now c.loop-row.erased c.loop-row.invariant c.args.geometry.now
    c.requires.wanted all
