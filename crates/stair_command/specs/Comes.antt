-- What a call does to devices alone.
use Rattle.std.specs.Prelude.{List, [], ◌∷◌, ⊤}
use Rattle.stair_command.specs.Devices.{DeviceView, Devices, WorksAll}
use Rattle.stair_command.specs.Program.{Program}
use Rattle.stair_command.specs.Question.{Judgement}
use Rattle.stair_command.specs.Trace.{TraceItem, Did, Found, Grew, AlongTrace, StepsProgram, RanOut, Stepped}

-- an item that touches neither source nor sink nor counter, which the judgement of blocks does
abbrev pub IsApart : TraceItem → Type 0
IsApart (Found (Judgement command g input)) = ⊥
IsApart (Found question) = ⊤
IsApart (Did action outcome) = ⊤
IsApart (Stepped step answer events left) = ⊤
IsApart Grew = ⊤
IsApart RanOut = ⊤
IsApart _ = ⊥

abbrev pub AreApart : List TraceItem → Type 0
AreApart [] = ⊤
AreApart (item ∷ trace) = IsApart item × AreApart trace

-- From this program to that rest by such items, which rack, session and watchers bear out: so it is over any streams.
pub record ExecutesOnDevices {R W : Type 0} (view : DeviceView R W) (program rest : Program) (old new : Devices R W) : Type 0 where
  pub trace : List TraceItem
  pub apart : AreApart trace
  pub follows : AlongTrace StepsProgram trace program rest
  pub works : AlongTrace (WorksAll view) trace old new
