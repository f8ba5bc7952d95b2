-- The search ends at the least block from which so many are free, or past the last one from which there could be.
use Rattle.std.proofs.Common.{◌≡◌, ℕ, Bool, true, false, List, sym, ap, ◌∙◌, subst, arith}
use Rattle.std.specs.Prelude.{option_map}
use Rattle.std.specs.Bool.{then_some}
use Rattle.stair_volume.specs.declared.extent.Entry.{Entry}
use Rattle.stair_volume.specs.Table.{Table, extent_of, is_free, is_within}
use Rattle.stair_volume.specs.Changes.{EndsMet, room}
use Rattle.stair_volume.proofs.RoomLaws.{NoneBelow, none_below_more, room-too_many, room_found, room_past}
use Rattle.stair_volume.proofs.table.Table.room.Goals as goal

pub returns-then-blocks-self : goal.returns-then-blocks-self
returns-then-blocks-self c =
    let many = room-too_many c.args.self.now c.args.blocks (omega (arith, ap (λ (t : Table). t.blocks) c.self.view_is)) in
    ap (option_map (λ first. extent_of first c.args.blocks)) (sym many)

pub loop-end-preserved : goal.loop-end-preserved
loop-end-preserved c =
    let same = c.loop-end.invariant.0 in
    let met : EndsMet c.args.self.now.entries (extent_of c.loop-end.extent.first c.args.blocks) c.in-Some.end =
    subst (λ (n : ℕ). EndsMet c.args.self.now.entries (extent_of c.loop-end.extent.first n) c.in-Some.end) same
    (subst (λ (l : List Entry). EndsMet l c.loop-end.extent c.in-Some.end) c.entries.ensures.value c.in-Some.ensures) in
    (same, none_below_more c.args.self.now c.args.blocks c.loop-end.extent.first c.in-Some.end c.loop-end.invariant.1 met)

-- where the search ended
ended : (table : Table) (count first : ℕ) → NoneBelow table count first → is_free table.entries (extent_of first count) ≡ true → (within : Bool) → is_within table.blocks (extent_of first count) ≡ within → then_some within (extent_of first count) ≡ option_map (λ first. extent_of first count) (room table count)
ended table count first below free true within = ap (option_map (λ first. extent_of first count)) (sym (room_found table count first below free within))
ended table count first below free false past = ap (option_map (λ first. extent_of first count)) (sym (room_past table count first below past))

pub returns : goal.returns
returns c =
    let table = c.args.self.now in
    let count = c.args.blocks in
    let first = c.loop-end.extent.first in
    let extent : c.loop-end.extent ≡ extent_of first count = λ i. record { first = first; blocks = c.loop-end.invariant.0 i } in
    let free : is_free table.entries (extent_of first count) ≡ true =
    sym (ap (λ (l : List Entry). is_free l (extent_of first count)) c.entries.ensures.value)
    ∙ sym (ap (is_free c.entries.result.now) extent)
    ∙ c.in_default.ensures in
    let within : is_within table.blocks (extent_of first count) ≡ c.is_within.result =
    sym (ap (λ (t : Table). is_within t.blocks (extent_of first count)) c.self.view_is)
    ∙ sym (ap (is_within c.self.inside.blocks) extent)
    ∙ sym c.is_within.ensures in
    c.then_some.ensures
    ∙ ap (then_some c.is_within.result) extent
    ∙ ended table count first c.loop-end.invariant.1 free c.is_within.result within
