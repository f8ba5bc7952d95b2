-- The member keeps its rules.
use Rattle.std.proofs.Common.{subst, sym}
use Rattle.stair_member.specs.ChangesSteps.{MayBegin}
use Rattle.stair_member.specs.StoredMember.{shown}
use Rattle.stair_member.proofs.ChangeLemmas.{begun_rules}
use Rattle.stair_member.proofs.member.Member.begin.Goals as goal

pub new-requires : goal.new-requires
new-requires c =
    begun_rules c.args.aim.now (shown c.self.inside) c.begun_array-array.result c.aimed_whys-whys.result c.self.invariant
    (subst (MayBegin c.args.aim.now) (sym c.self.view_is) c.requires)
    c.begun_array-array.ensures.names c.aimed_whys-whys.ensures.each c.aimed_whys-whys.ensures.size c.begun_array-array.ensures.label
