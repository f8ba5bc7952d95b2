-- One array stands, two do or none does; and too few of its slots are live or enough.
use Rattle.std.proofs.Common.{◌≡◌, ◌<◌, ◌≤◌, refl, sym, ap, arith}
use Rattle.std.proofs.lemmas.Option.{none-some}
use Rattle.stair_model.specs.Geometry.{Geometry}
use Rattle.stair_model.specs.Slots.{slot_count}
use Rattle.stair_member.specs.Membership.{member_of}
use Rattle.stair_member.proofs.JudgeLemmas.{first_two}
use Rattle.stair_member.proofs.SurveyLemmas.{is_surveyed, member_few, member_many, member_rules, stands_current}
use Rattle.stair_member.proofs.surveying.judge.Goals as goal

pub returns-in_default-clause-does : goal.returns-in_default-clause-does
returns-in_default-clause-does c f tells g stands = absurd (none-some g (c.in_default.ensures f.image tells.shows g stands))

pub returns-in-Some-first_standing-clause-does : goal.returns-in-Some-first_standing-clause-does
returns-in-Some-first_standing-clause-does c f tells = (
  c.in-Some.geometry,
  c.in-Some-first_standing.other,
  first_two f.image c.in-Some.geometry c.in-Some-first_standing.other (c.in-Some.ensures f.image tells.shows)
      (c.in-Some-first_standing.ensures f.image tells.shows),
  sym c.id.ensures.value,
  sym c.id-in-Some-first_standing.ensures.value,
)

pub returns-in_default-current_of-clause-does : goal.returns-in_default-current_of-clause-does
returns-in_default-current_of-clause-does c f tells g stands =
    absurd (stands_current f.image c.in-Some.geometry (c.in-Some.ensures f.image tells.shows) (c.in_default-current_of.ensures f.image tells.shows))

pub returns-then-count-m-clause-does : goal.returns-then-count-m-clause-does
returns-then-count-m-clause-does c f tells =
    let current = c.in-Some-current_of.current in
    let g = c.in-Some.geometry in
    let is_current = (c.in-Some-current_of.ensures f.image tells.shows).counts.identity in
    let m : current.array.geometry.m ≡ g.m = ap (λ (h : Geometry). h.m) is_current in
    let many : current.array.geometry.m < slot_count c.missing.result =
    omega (arith, c.if-count-m.true, c.count.ensures.value, c.m.ensures.value, m) in (
      member_of current.array c.greatest_draw-drawn.result c.reasons_of-whys.result c.args.sights.now.next,
      is_surveyed c.args.sights.now g current c.reasons_of-whys.result c.greatest_draw-drawn.result c.in-Some.ensures
          c.in_default-first_standing.ensures
          c.in-Some-current_of.ensures c.greatest_draw-drawn.ensures c.reasons_of-whys.ensures.each c.reasons_of-whys.ensures.absent f tells,
      refl,
      member_many c.args.sights.now g current c.reasons_of-whys.result c.greatest_draw-drawn.result c.in-Some.ensures
          c.in_default-first_standing.ensures
          c.in-Some-current_of.ensures c.greatest_draw-drawn.ensures c.reasons_of-whys.ensures.each c.reasons_of-whys.ensures.absent c.missing.result
          c.missing.ensures.formed c.missing.ensures.members many,
    )

pub new-requires : goal.new-requires
new-requires c =
    let current = c.in-Some-current_of.current in
    rw c.array.ensures.value
    (member_rules c.args.sights.now c.in-Some.geometry current c.reasons_of-whys.result c.greatest_draw-drawn.result c.in-Some.ensures
    c.in_default-first_standing.ensures c.in-Some-current_of.ensures c.greatest_draw-drawn.ensures c.reasons_of-whys.ensures.each
    c.reasons_of-whys.ensures.absent c.requires.0 c.requires.1 c.reasons_of-whys.ensures.rules c.reasons_of-whys.ensures.size
    c.greatest_draw-drawn.type_inv)

pub returns-clause-does : goal.returns-clause-does
returns-clause-does c f tells =
    let current = c.in-Some-current_of.current in
    let g = c.in-Some.geometry in
    let is_current = (c.in-Some-current_of.ensures f.image tells.shows).counts.identity in
    let m : current.array.geometry.m ≡ g.m = ap (λ (h : Geometry). h.m) is_current in
    let few : slot_count c.missing.result ≤ current.array.geometry.m =
    omega (arith, c.if-count-m.false, c.count.ensures.value, c.m.ensures.value, m) in
    rw (c.new.ensures, c.array.ensures.value) (
      is_surveyed c.args.sights.now g current c.reasons_of-whys.result c.greatest_draw-drawn.result c.in-Some.ensures
          c.in_default-first_standing.ensures
          c.in-Some-current_of.ensures c.greatest_draw-drawn.ensures c.reasons_of-whys.ensures.each c.reasons_of-whys.ensures.absent f tells,
      member_few c.args.sights.now g current c.reasons_of-whys.result c.greatest_draw-drawn.result c.in-Some.ensures
          c.in_default-first_standing.ensures
          c.in-Some-current_of.ensures c.greatest_draw-drawn.ensures c.reasons_of-whys.ensures.each c.reasons_of-whys.ensures.absent c.missing.result
          c.missing.ensures.formed c.missing.ensures.members few,
    )
