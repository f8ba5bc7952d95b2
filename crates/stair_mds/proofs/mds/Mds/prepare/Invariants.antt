-- The coefficients for the wanted places so far, in room that has not shrunk.
use Rattle.std.proofs.Common.{◌≡◌, ◌≤◌, length}
use Rattle.std.specs.Vec.{vec_capacity}
use Rattle.stair_mds.specs.Weights.{HasCoefficients}
use Rattle.stair_mds.proofs.mds.Mds.prepare.Given as goal

abbrev pub invariant-loop-place : goal.invariant-loop-place
invariant-loop-place l = record {
  stays : l.self-inside ≡ record l.initial.self-inside { coefficients = l.self-inside.coefficients };
  so_far : HasCoefficients (length l.known) l.known l.wanted l.self-inside.coefficients.items l.place-index;
  room : vec_capacity l.initial.self-inside.coefficients ≤ vec_capacity l.self-inside.coefficients;
}
