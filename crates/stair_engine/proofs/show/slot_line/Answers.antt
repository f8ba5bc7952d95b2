-- The number, the seat, the reason, and the end of the line.
use Rattle.std.proofs.Common.{◌≡◌, ℕ, ◌<◌, List, get_or, ap₂, ◌∙◌, append_assoc, arith}
use Rattle.std.proofs.lemmas.List.{get_or_default}
use Rattle.stair_super.specs.Superblock.{joined_in, mark_in}
use Rattle.stair_super.specs.declared.mark.Mark.{Mark}
use Rattle.stair_super.specs.declared.mark.Mark.TheVariants.{Live, Down}
use Rattle.stair_member.specs.Membership.{Membership, IsMembership}
use Rattle.stair_engine.proofs.show.slot_line.Goals as goal

-- the mark that was read
mark_read : (m : Membership) (marks : List Mark) (at j : ℕ) → IsMembership m → marks ≡ m.array.marks → at ≡ j → j < 32
    → get_or marks at Live ≡ mark_in m.array j
mark_read m marks at j is same place below =
    ap₂ (λ (xs : List Mark) (k : ℕ). get_or xs k Live) same place
    ∙ get_or_default m.array.marks j Live Down (omega (arith, below, is.sizes.marks))

-- the joined number that was read
joined_read : (m : Membership) (joins : List ℕ) (at j : ℕ) → joins ≡ m.array.joins → at ≡ j → get_or joins at 0 ≡ joined_in m.array j
joined_read m joins at j same place = ap₂ (λ (xs : List ℕ) (k : ℕ). get_or xs k 0) same place

pub returns : goal.returns
returns c =
    let m = c.args.member.now in
    let slot = c.args.slot in
    let mark = mark_read m c.marks.result c.from.result slot c.marks.ensures.rules c.marks.ensures.value c.from.ensures c.requires in
    let joined = joined_read m c.joins.result c.from-2.result slot c.joins.ensures.value c.from-2.ensures in
    simp (
      c.push.ensures.text,
      c.push_reason.ensures.text,
      c.push_seat.ensures.text,
      c.push_named.ensures.text,
      c.new-line.ensures.text,
      mark,
      joined,
      c.why.ensures.value,
      c.from-3.ensures,
      append_assoc,
    )
