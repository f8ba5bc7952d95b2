-- What a call does to a source, to a sink, and to both, and to nothing else.
use Rattle.std.specs.Prelude.{List, All, ⊤}
use Rattle.stair_command.specs.Executes.{Gives, Holds}
use Rattle.stair_command.specs.Outside.{SinkView, SourceView, Views}
use Rattle.stair_command.specs.Program.{Program}
use Rattle.stair_command.specs.Trace.{TraceItem, HasPut, AlongTrace, StepsProgram, PutFailed, TakeFailed, Took, TookLast}

-- something is taken
abbrev pub IsTaken : TraceItem → Type 0
IsTaken (Took bytes) = ⊤
IsTaken (TookLast bytes) = ⊤
IsTaken (TakeFailed bytes) = ⊤
IsTaken _ = ⊥

-- something is put out
abbrev pub IsPut : TraceItem → Type 0
IsPut (HasPut bytes) = ⊤
IsPut (PutFailed part) = ⊤
IsPut _ = ⊥

-- one of both
abbrev pub IsSpoken : TraceItem → Type 0
IsSpoken (Took bytes) = ⊤
IsSpoken (TookLast bytes) = ⊤
IsSpoken (TakeFailed bytes) = ⊤
IsSpoken (HasPut bytes) = ⊤
IsSpoken (PutFailed part) = ⊤
IsSpoken _ = ⊥

-- From this program to that rest by such items, which a source bears out: so it is beside any sink, and over any devices.
pub record TakesTo {S : Type 0} (view : SourceView S) (program rest : Program) (old new : S) : Type 0 where
  pub trace : List TraceItem
  pub taken : All IsTaken trace
  pub follows : AlongTrace StepsProgram trace program rest
  pub gives : AlongTrace (Gives view) trace old new

-- the same of a sink
pub record PutsTo {K : Type 0} (view : SinkView K) (program rest : Program) (old new : K) : Type 0 where
  pub trace : List TraceItem
  pub put : All IsPut trace
  pub follows : AlongTrace StepsProgram trace program rest
  pub holds : AlongTrace (Holds view) trace old new

-- and of both, over any devices
pub record TalksTo {S K : Type 0} (view : Views S K) (program rest : Program) (old new : S)
    (held now : K) : Type 0 where
  pub trace : List TraceItem
  pub spoken : All IsSpoken trace
  pub follows : AlongTrace StepsProgram trace program rest
  pub gives : AlongTrace (Gives view.source) trace old new
  pub holds : AlongTrace (Holds view.sink) trace held now
