-- The fields are those of any superblock that the bytes spell.
use Rattle.std.proofs.Common.{Some, sym, ap, subst, ◌∙◌}
use Rattle.stair_super.specs.Superblock.{IsWellFormed}
use Rattle.stair_super.proofs.Fields.{slot_is, joined_is, draw_is}
use Rattle.stair_super.proofs.Answered.{some_is, no_none, same_fields}
use Rattle.stair_super.proofs.reading.fields_of.Goals as goal

pub returns-in_err-array-clause-read : goal.returns-in_err-array-clause-read
returns-in_err-array-clause-read c = λ s spells version.
    absurd (no_none s.array c.array_of.result c.in_err-array.was (c.array_of.ensures.read s spells version))

pub returns-then-is_well_formed-clause-read : goal.returns-then-is_well_formed-clause-read
returns-then-is_well_formed-clause-read c = λ s spells version.
    let bytes = c.args.bytes.now in
    let same = some_is c.in_ok-array.array s.array c.array_of.result c.in_ok-array.was (c.array_of.ensures.read s spells version) in
    ap Some (c.new.ensures ∙ same_fields s _ _ _ _ same (slot_is bytes s spells) (c.u64_at-joined.ensures ∙ joined_is bytes s spells) (c.u64_at-draw.ensures ∙ draw_is bytes s spells))

pub returns-else-is_well_formed-clause-read : goal.returns-else-is_well_formed-clause-read
returns-else-is_well_formed-clause-read c = λ s spells version.
    let bytes = c.args.bytes.now in
    let same = some_is c.in_ok-array.array s.array c.array_of.result c.in_ok-array.was (c.array_of.ensures.read s spells version) in
    let fields = same_fields s c.in_ok-array.array _ c.u64_at-joined.result c.u64_at-draw.result same (slot_is bytes s spells) (c.u64_at-joined.ensures ∙ joined_is bytes s spells) (c.u64_at-draw.ensures ∙ draw_is bytes s spells) in
    let yes = c.is_well_formed.ensures.1 (subst IsWellFormed (sym fields) spells.block.rules) in
    let no = c.if-is_well_formed.false in
    absurd cc
