-- Each turn adds the cell in the next row where it is erased.
use Rattle.std.proofs.Common.{◌≡◌, ◌≢◌, ℕ, ◌+◌, slice_index, subst, sym, ap, ap₂, ◌∙◌, arith}
use Rattle.stair_c.proofs.ErasedLemmas.{AddsErased, adds_no_more, adds_none, adds_one}
use Rattle.stair_c.specs.Chunks.{sector_number}
use Rattle.stair_c.specs.Restores.{IsErased}
use Rattle.stair_c.proofs.restore.add_chunk.Goals as goal
use Rattle.stair_c.proofs.restore.add_chunk.Goals.{then-erased-first-ne0, else-erased-first-ne0}

pub loop-row-init : goal.loop-row-init
loop-row-init c = adds_none c.args.geometry.now c.args.count c.args.erased.now c.args.stripe c.args.slot c.args.cells.now c.requires.formed

pub loop-row-preserved : goal.loop-row-preserved
loop-row-preserved c =
    let here : c.first_sector-first.result + c.from.result ≡ sector_number c.args.geometry.now c.args.count c.args.stripe c.loop-row.row c.args.slot =
    ap₂ (λ a b. a + b) c.first_sector-first.ensures.value c.from.ensures in
    elim c.if-erased-first-ne0.branch [
      | then-erased-first-ne0 w ↦
          let is : IsErased c.args.geometry.now c.args.count c.args.erased.now c.args.stripe c.loop-row.row c.args.slot =
          subst (λ (x : ℕ). slice_index c.args.erased.now x ≢ 0) here w.if-erased-first-ne0.true in
          rw w.cells-is
          (adds_one c.args.geometry.now c.args.count c.args.erased.now c.args.stripe c.args.slot c.loop-row.row c.args.cells.now c.loop-row.cells
          w.add.new.self c.loop-row.invariant is w.add.ensures.members w.add.ensures.well_formed)
      | else-erased-first-ne0 w ↦
          let zero = ap (slice_index c.args.erased.now) (sym here) ∙ w.if-erased-first-ne0.false in
          rw w.cells-is
          (adds_no_more c.args.geometry.now c.args.count c.args.erased.now c.args.stripe c.args.slot c.loop-row.row c.args.cells.now c.loop-row.cells
          c.loop-row.invariant zero)
    ]

pub returns-clause-members : goal.returns-clause-members
returns-clause-members c =
    let all : c.loop-row.row ≡ c.args.geometry.now.r = omega arith in
    (subst (λ (x : ℕ). AddsErased c.args.geometry.now c.args.count c.args.erased.now c.args.stripe c.args.slot x c.args.cells.now c.loop-row.cells) all c.loop-row.invariant).members
