-- The laws are lemmas.
use Rattle.std.proofs.Common.{None, refl}
use Rattle.stair_invariant.proofs.OpenLaws.{goes_on_within, have_reached, in_session}
use Rattle.stair_invariant.proofs.OwnLaws.{attached_or_bare, own_beside, own_drawn, own_given, own_kept, own_stood}
use Rattle.stair_invariant.proofs.OwnPartLemmas.{current_is, live_left, stays_live, takes_part}
use Rattle.stair_invariant.proofs.own.own_laws.Goals as goal

pub returns-clause-bare : goal.returns-clause-bare
returns-clause-bare c = attached_or_bare

pub returns-clause-goes_on : goal.returns-clause-goes_on
returns-clause-goes_on c = goes_on_within

pub returns-clause-reached : goal.returns-clause-reached
returns-clause-reached c = have_reached

pub returns-clause-in_session : goal.returns-clause-in_session
returns-clause-in_session c = in_session

pub returns-clause-own_kept : goal.returns-clause-own_kept
returns-clause-own_kept c = λ m h new j is below history on own ran still. own_kept m h new j is below history on own ran still

pub returns-clause-own_beside : goal.returns-clause-own_beside
returns-clause-own_beside c = own_beside

pub returns-clause-own_drawn : goal.returns-clause-own_drawn
returns-clause-own_drawn c = own_drawn

pub returns-clause-own_given : goal.returns-clause-own_given
returns-clause-own_given c = λ aim gone m last old new history issued stands member on_disk j here on seen.
    own_given aim gone m last old new history issued stands member on_disk j here on seen

pub returns-clause-own_stood : goal.returns-clause-own_stood
returns-clause-own_stood c = own_stood

pub returns-clause-current : goal.returns-clause-current
returns-clause-current c = λ before a h j is begun here on kept. current_is before a h is begun j here on kept

pub returns-clause-takes_part : goal.returns-clause-takes_part
returns-clause-takes_part c = λ before a h j is begun here on kept. takes_part before a h is begun j here on kept

pub returns-clause-live : goal.returns-clause-live
returns-clause-live c = live_left

pub returns-clause-stays_live : goal.returns-clause-stays_live
returns-clause-stays_live c = λ leaving before a old y j is leaves honest going live large stays on.
    stays_live leaving before a None old y j is leaves refl honest going live large stays on
