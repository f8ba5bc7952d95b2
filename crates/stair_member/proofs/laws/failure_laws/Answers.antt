use Rattle.stair_model.specs.Slots.{HasSlot}
use Rattle.stair_member.proofs.StandingLemmas.{serve, others, draw}
use Rattle.stair_member.proofs.NewestLemmas.{newest, reserved}
use Rattle.stair_member.proofs.laws.failure_laws.Goals as goal

pub returns-clause-serve : goal.returns-clause-serve
returns-clause-serve c offline = serve {offline = HasSlot offline}

pub returns-clause-others : goal.returns-clause-others
returns-clause-others c offline = others {offline = HasSlot offline}

pub returns-clause-draw : goal.returns-clause-draw
returns-clause-draw c offline = draw {offline = HasSlot offline}

pub returns-clause-newest : goal.returns-clause-newest
returns-clause-newest c offline = newest {offline = HasSlot offline}

pub returns-clause-reserved : goal.returns-clause-reserved
returns-clause-reserved c = reserved
