-- What precedes the global parities is data.
use Rattle.std.proofs.Common.{◌≡◌, ◌-◌, ap, ◌∙◌, arith}
use Rattle.stair_model.specs.Cell.{class_of, data_before}
use Rattle.stair_model.specs.Geometry.{coverage}
use Rattle.stair_model.proofs.CellLaws.{kind_of_cell}
use Rattle.stair_model.proofs.CellLaws.KindOfCell.{OfParity, OfGlobal, OfData}
use Rattle.stair_c.proofs.stripes.data_rows.Goals as goal

pub returns-then-slot-first_global_chunk-clause-data : goal.returns-then-slot-first_global_chunk-clause-data
returns-then-slot-first_global_chunk-clause-data c i before =
    let g = c.args.geometry.now in
    elim (kind_of_cell g i c.args.slot) [
      | OfParity from is ↦ absurd (omega (arith, from, c.if-slot-data_chunks.false, c.n.ensures.value, c.m.ensures.value))
      | OfGlobal below among is ↦
          let class : c.args.slot - (c.n.result - c.m.result - c.classes.result) ≡ class_of g c.args.slot =
          omega (arith, c.n.ensures.value, c.m.ensures.value, c.classes.ensures.value) in
          let covers : c.coverage.result ≡ coverage g (class_of g c.args.slot) = c.coverage.ensures.value ∙ ap (coverage g) class in
          absurd (omega (arith, among.row, before, covers, c.r.ensures.value))
      | OfData below apart is ↦ (data_before g i c.args.slot, is)
    ]

pub returns-else-slot-first_global_chunk-clause-data : goal.returns-else-slot-first_global_chunk-clause-data
returns-else-slot-first_global_chunk-clause-data c i before =
    elim (kind_of_cell c.args.geometry.now i c.args.slot) [
      | OfParity from is ↦ absurd (omega (arith, from, c.if-slot-data_chunks.false, c.n.ensures.value, c.m.ensures.value))
      | OfGlobal below among is ↦
          absurd (omega (arith, among.chunk, c.if-slot-first_global_chunk.false, c.n.ensures.value, c.m.ensures.value, c.classes.ensures.value))
      | OfData below apart is ↦ (data_before c.args.geometry.now i c.args.slot, is)
    ]
