-- The rows so far were taken from the source.
use Rattle.stair_command.specs.Outside.{source_view}
use Rattle.stair_engine.proofs.MapLaws.{HasMapped}
use Rattle.stair_engine.proofs.map.take_map.Given as goal

abbrev pub invariant-loop-row : goal.invariant-loop-row
invariant-loop-row g l =
    HasMapped (source_view g.S.Source) l.geometry l.initial.intake l.intake l.erased l.row
    l.initial.input l.input
