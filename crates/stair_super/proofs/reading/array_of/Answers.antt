-- The fields are those of any superblock that the bytes spell.
use Rattle.std.proofs.Common.{Some, ap, subst, sym, ◌∙◌}
use Rattle.stair_model.specs.Geometry.{Geometry}
use Rattle.stair_super.specs.declared.version.Version.{Version}
use Rattle.stair_super.specs.Spelling.{IsOfVersion}
use Rattle.stair_super.proofs.Fields.{epoch_is}
use Rattle.stair_super.proofs.Answered.{some_is, no_none, same_configuration}
use Rattle.stair_super.proofs.reading.array_of.Goals as goal

pub returns-in_err-geometry-clause-read : goal.returns-in_err-geometry-clause-read
returns-in_err-geometry-clause-read c = λ s spells version.
    absurd (no_none s.array.geometry c.geometry_of.result c.in_err-geometry.was (c.geometry_of.ensures s spells))

pub returns-then-not-is_of-clause-read : goal.returns-then-not-is_of-clause-read
returns-then-not-is_of-clause-read c = λ s spells version.
    let geometry = some_is c.in_ok-geometry.geometry s.array.geometry c.geometry_of.result c.in_ok-geometry.was (c.geometry_of.ensures s spells) in
    let is = c.is_of.ensures.1 (subst (λ (g : Geometry). IsOfVersion c.args.version g) (sym geometry) (subst (λ (v : Version). IsOfVersion v s.array.geometry) (sym version) spells.said.size)) in
    let not = c.if-not-is_of.true in
    absurd cc

pub returns-in_err-marks-clause-read : goal.returns-in_err-marks-clause-read
returns-in_err-marks-clause-read c = λ s spells version.
    let same = some_is c.in_ok-geometry.geometry s.array.geometry c.geometry_of.result c.in_ok-geometry.was (c.geometry_of.ensures s spells) in
    let n = c.from-n.ensures ∙ c.n.ensures.value ∙ ap (λ (g : Geometry). g.n) same in
    absurd (no_none s.array.marks c.marks_of.result c.in_err-marks.was (c.marks_of.ensures s spells n))

pub returns-in_err-label-clause-read : goal.returns-in_err-label-clause-read
returns-in_err-label-clause-read c = λ s spells version.
    absurd (no_none s.array.label c.label_in.result c.in_err-label.was (c.label_in.ensures.read s spells version))

pub returns-clause-read : goal.returns-clause-read
returns-clause-read c = λ s spells version.
    let geometry = some_is c.in_ok-geometry.geometry s.array.geometry c.geometry_of.result c.in_ok-geometry.was (c.geometry_of.ensures s spells) in
    let n = c.from-n.ensures ∙ c.n.ensures.value ∙ ap (λ (g : Geometry). g.n) geometry in
    let marks = some_is c.in_ok-marks.marks s.array.marks c.marks_of.result c.in_ok-marks.was (c.marks_of.ensures s spells n) in
    let label = some_is c.in_ok-label.label s.array.label c.label_in.result c.in_ok-label.was (c.label_in.ensures.read s spells version) in
    ap Some (same_configuration _ s.array geometry (c.u64_at.ensures ∙ epoch_is c.args.bytes.now s spells) marks (c.joins_of.ensures s spells n) (c.frozen_in.ensures.read s spells version) label)
