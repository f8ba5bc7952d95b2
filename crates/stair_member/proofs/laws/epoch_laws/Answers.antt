use Rattle.stair_member.proofs.AgainLemmas.{again, each_stood, stood, taking_part}
use Rattle.stair_model.specs.Slots.{HasSlot}
use Rattle.stair_member.proofs.EditionLemmas.{borne}
use Rattle.stair_member.proofs.FencingLemmas.{no_earlier}
use Rattle.stair_member.proofs.LeavingLemmas.{left}
use Rattle.stair_member.proofs.OrderLemmas.{each_reached, orderly, reached_on}
use Rattle.stair_member.proofs.SeeingLemmas.{saw}
use Rattle.stair_member.proofs.StoodLemmas.{stands}
use Rattle.stair_member.proofs.laws.epoch_laws.Goals as goal

pub returns-clause-borne : goal.returns-clause-borne
returns-clause-borne c = borne

pub returns-clause-no_earlier : goal.returns-clause-no_earlier
returns-clause-no_earlier c aim gone m last old h new image offline = no_earlier {offline = HasSlot offline} aim gone m last old h new image

pub returns-clause-stands : goal.returns-clause-stands
returns-clause-stands c aim gone m last old new image offline = stands {offline = HasSlot offline} aim gone m last old new image

pub returns-clause-orderly : goal.returns-clause-orderly
returns-clause-orderly c = orderly

pub returns-clause-each_reached : goal.returns-clause-each_reached
returns-clause-each_reached c = each_reached

pub returns-clause-reached : goal.returns-clause-reached
returns-clause-reached c = reached_on

pub returns-clause-each_stood : goal.returns-clause-each_stood
returns-clause-each_stood c = each_stood

pub returns-clause-stood : goal.returns-clause-stood
returns-clause-stood c = stood

pub returns-clause-takes_part : goal.returns-clause-takes_part
returns-clause-takes_part c = taking_part

pub returns-clause-again : goal.returns-clause-again
returns-clause-again c = again

pub returns-clause-left : goal.returns-clause-left
returns-clause-left c joining leaving m start h leaves rules begun = left joining leaving m start leaves h rules begun

pub returns-clause-seen : goal.returns-clause-seen
returns-clause-seen c joining slot first second m seen h sees rules absent begun = saw joining slot first second m seen sees absent h rules begun
