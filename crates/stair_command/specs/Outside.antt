-- What the outside of a call shows: its source, its sink and its counter.
use Rattle.std.specs.Prelude.{ℕ, Bool, false, List, Option, None}
use Rattle.stair_rack.specs.declared.sink.Sink as sink
use Rattle.stair_rack.specs.declared.source.Source as source

-- what a source shows: the bytes that are left, where it tells them, whether it has answered its
-- end, and its count of faults
pub record SourceView (S : Type 0) : Type 0 where
  pub left : S → Option (List ℕ)
  pub ended : S → Bool
  pub faults : S → ℕ

-- what a sink shows: the bytes that it holds, where it tells them, and its count of faults
pub record SinkView (K : Type 0) : Type 0 where
  pub held : K → Option (List ℕ)
  pub faults : K → ℕ

pub record Views (S K : Type 0) : Type 0 where
  pub source : SourceView S
  pub sink : SinkView K

abbrev pub source_view : {S : Type 0} → source.Ghosts S → SourceView S
source_view members = record { left = members.left; ended = members.ended; faults = members.faults }

abbrev pub sink_view : {K : Type 0} → sink.Ghosts K → SinkView K
sink_view members = record { held = members.held; faults = members.faults }

abbrev pub views : {S K : Type 0} → source.Ghosts S → sink.Ghosts K → Views S K
views source sink = record { source = source_view source; sink = sink_view sink }

-- where nothing is taken it doesn't matter of which source
abbrev pub no_source : SourceView (Unit {0})
no_source = record { left = λ none. None; ended = λ none. false; faults = λ none. 0 }

abbrev pub sink_alone : {K : Type 0} → sink.Ghosts K → Views (Unit {0}) K
sink_alone members = record { source = no_source; sink = sink_view members }

-- source, sink and counter, at a moment
pub record Outside (S K : Type 0) : Type 0 where
  pub source : S
  pub sink : K
  pub counter : ℕ

abbrev pub outside : {S K : Type 0} → S → K → ℕ → Outside S K
outside source sink counter = record { source = source; sink = sink; counter = counter }
