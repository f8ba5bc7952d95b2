-- The places so far are filled in.
use Rattle.stair_canon.proofs.SolvedLines.{HasFilled}
use Rattle.stair_canon.proofs.known.KnownSymbols.fill_in.Given as goal

abbrev pub invariant-loop-place : goal.invariant-loop-place
invariant-loop-place l = HasFilled l.line l.places l.initial.self l.self l.place-index
