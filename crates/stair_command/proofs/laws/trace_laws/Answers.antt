-- Each law, by the induction on traces.
use Rattle.std.proofs.Common.{◌≢◌}
use Rattle.stair_command.proofs.DeviceLaws.{are_told, over_rack}
use Rattle.stair_command.proofs.LookLaws.{only_looked, short_unwritten}
use Rattle.stair_command.proofs.EndingLaws.{ends_otherwise, none_taken, nothing_put, short_first, tells_faults}
use Rattle.stair_command.proofs.RackLaws.{left_along}
use Rattle.stair_command.specs.Ending.{IsNoFault}
use Rattle.stair_command.proofs.laws.trace_laws.Goals as goal

pub returns : goal.returns
returns g c = record {
  faults = λ view program status old new ends means. tells_faults view IsNoFault (λ end is. is) program status old new ends means;
  unput = λ view program status old new last means. nothing_put view program status old new last means;
  others = λ view program status other old new fault memory ends means.
      ends_otherwise view (λ end. end ≢ other) other (λ end is. is) fault.0 fault.1 memory program status old new ends means;
  untaken = λ view program status old new none means.
      none_taken view.source means.trace program status old.source new.source none means.follows means.bears.gives;
  still = λ rack view program rest old new first last none over.
      left_along rack over.means.trace program rest first last none over.means.follows over.works;
  memory = λ rack view program old new first last asks over. short_first rack over.means.trace program first last asks over.means.follows over.works;
  looks = λ rack view program rest old new first last looks over honest.
      only_looked rack honest over.means.trace program rest first last looks over.means.follows over.works;
  unwritten = λ devices view program old new first last asks with honest.
      short_unwritten devices honest with.means.trace program first last asks with.means.follows with.works;
  watched = λ devices view program rest old new first last with stay. are_told devices with.means.trace first last stay with.works;
  rack = λ devices view program rest old new first last none over. over_rack devices view program rest old new first last none over;
}
