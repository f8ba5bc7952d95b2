-- The laws are lemmas.
use Rattle.stair_invariant.proofs.SeatLemmas.{seats_begun, seats_meanwhile, seats_stood}
use Rattle.stair_invariant.proofs.seats.seat_laws.Goals as goal

pub returns : goal.returns
returns c = record {
  stood = λ aim gone m last words old new ready rebuilt stood. seats_stood aim gone m words old ready rebuilt last new stood;
  begun = λ aim gone m last words old ready rebuilt is began. seats_begun aim gone m words old ready rebuilt last is began;
  meanwhile = λ aim gone m last words old h new image current ready rebuilt f going left tolerated is_current.
      seats_meanwhile aim gone m words old ready rebuilt last h new image current f going left tolerated is_current;
}
