-- How a member is kept.
use Rattle.stair_member.specs.Membership.{Membership, IsMembership}
use Rattle.stair_member.specs.declared.member.Member.TheInside.{Inside}

abbrev pub shown : Inside → Membership
shown a = record { array = a.array; drawn = a.drawn; whys = a.whys; places = a.places }

abbrev pub kept : Membership → Inside
kept m = record { array = m.array; drawn = m.drawn; whys = m.whys; places = m.places }

abbrev pub IsStored : Inside → Type 0
IsStored a = IsMembership (shown a)
