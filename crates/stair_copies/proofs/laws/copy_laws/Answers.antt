use Rattle.stair_copies.proofs.LawLemmas.{drawn, meanwhile, reached, stood}
use Rattle.stair_copies.proofs.laws.copy_laws.Goals as goal

pub returns-clause-reached : goal.returns-clause-reached
returns-clause-reached c = reached

pub returns-clause-meanwhile : goal.returns-clause-meanwhile
returns-clause-meanwhile c = meanwhile

pub returns-clause-stood : goal.returns-clause-stood
returns-clause-stood c = stood

pub returns-clause-drawn : goal.returns-clause-drawn
returns-clause-drawn c = drawn
