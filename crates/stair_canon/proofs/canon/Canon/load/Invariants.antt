-- The symbols so far are loaded.
use Rattle.std.proofs.Common.{◌≡◌}
use Rattle.stair_canon.specs.Canonical.{number}
use Rattle.stair_canon.specs.Kept.{shown, IsKept}
use Rattle.stair_canon.proofs.Loading.{HasLoaded}
use Rattle.stair_canon.proofs.canon.Canon.load.Given as goal

abbrev pub invariant-loop-row : goal.invariant-loop-row
invariant-loop-row l = record {
  loaded : HasLoaded l.fn.self.geometry l.stripe (shown l.self-inside) l.row 0;
  kept : IsKept l.self-inside;
  place : l.number ≡ number l.fn.self.geometry l.row 0;
}

abbrev pub invariant-loop-column : goal.invariant-loop-column
invariant-loop-column l = record {
  loaded : HasLoaded l.fn.self.geometry l.stripe (shown l.self-inside) l.row l.column;
  kept : IsKept l.self-inside;
  place : l.number ≡ number l.fn.self.geometry l.row l.column;
}
