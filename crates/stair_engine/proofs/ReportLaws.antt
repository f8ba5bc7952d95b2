-- What the program of a report does by itself, and that it is sure where its text tells events alone.
use Rattle.std.proofs.Common.{◌+◌, ◌≤◌, ◌++◌, ℕ, zero, suc, nat_lt, List, [], ◌∷◌, All, Option, None, Some, arith, length, refl}
use Rattle.std.proofs.lemmas.List.Elements.{All-cons, All-nil}
use Rattle.stair_rack.specs.declared.watcher.Event.{Event}
use Rattle.stair_script.specs.Events.{SpellsEvent}
use Rattle.stair_monitor.proofs.EventLemmas.{spells-length}
use Rattle.stair_monitor.proofs.ReadLemmas.{spells-inner}
use Rattle.stair_monitor.specs.Reports.{EVENT_LIMIT, event_taken, if_event, report_over, report_program, reports}
use Rattle.stair_state.specs.State.{State}
use Rattle.stair_command.specs.Ending.{AsksFirst, EndsIn, MakesNoCall, PutsLast}
use Rattle.stair_command.specs.Executes.{Executes}
use Rattle.stair_command.specs.Outside.{Outside, Views}
use Rattle.stair_command.specs.Program.{Program, Over, Ask, Take}
use Rattle.stair_command.specs.Trace.{TraceItem, AlongTrace, StepsProgram}
use Rattle.stair_command.specs.Question.{EventLine, IsReply}
use Rattle.stair_command.specs.Sure.{HasNoFault, IsDone, Completes}
use Rattle.stair_command.specs.Texts.{AreLines, SCRIPT_LIMIT, ends_line, last_of}
use Rattle.stair_status.specs.declared.status.Status.{Status}
use Rattle.stair_status.specs.declared.status.Status.TheVariants.{BadLine, Input}
use Rattle.stair_command.proofs.RackLaws.{IsOffDevices, no_call_moves}
use Rattle.stair_command.proofs.SureLaws.{CarriesOn, ends_done}
use Rattle.stair_command.proofs.TextSureLaws.{AreShort, IsOfText, text_so}
use Rattle.stair_engine.proofs.OpenLaws.{IsOfJob, left_so}

-- What holds for the program of a report, if it holds for each node given that it holds after it.
pub record IsOfReport (IsSo : Program → Type 0) : Type 0 where
  pub long : IsSo (Over (Input SCRIPT_LIMIT (SCRIPT_LIMIT + 1)))
  pub bad : (number : ℕ) → IsSo (Over (BadLine number))
  pub over : (events : List Event) → IsSo (report_over events)
  pub asks : (bytes : List ℕ) (k : Option Event → Program) → ((reply : Option Event) → IsSo (k reply)) → IsSo (Ask (EventLine bytes) k)
  pub takes : (k short : List ℕ → Program) → ((bytes : List ℕ) → IsSo (k bytes)) → ((bytes : List ℕ) → IsSo (short bytes)) → IsSo (Take 1 1 k short)

module _ (IsSo : Program → Type 0) (nodes : IsOfReport IsSo) where
  line_so : (number : ℕ) (line : List ℕ) (events : List Event) (rest : List Event → Program) → ((events : List Event) → IsSo (rest events))
      → IsSo (event_taken number line events rest)
  line_so number line events rest so = nodes.asks line (if_event number events rest) by
    where
      by : (reply : Option Event) → IsSo (if_event number events rest reply)
      by None = nodes.bad number
      by (Some said) = so (said ∷ events)

  last_so : (number : ℕ) (line : List ℕ) (events : List Event) → IsSo (last_of event_taken report_over number line events)
  last_so number [] events = nodes.over events
  last_so number (byte ∷ line) events = line_so number (byte ∷ line) events report_over nodes.over

  reports_so : (room number : ℕ) (line : List ℕ) (events : List Event) → IsSo (reports room number line events)
  reports_so zero number line events = nodes.takes _ _ (λ more. nodes.long) (λ none. last_so number line events)
  reports_so (suc room) number line events =
      nodes.takes _ _
      (λ byte. left_so IsSo _ _ (line_so number line events _ (reports_so room (number + 1) []))
      (left_so IsSo _ _ (reports_so room number (line ++ byte) events) (nodes.bad number) (nat_lt (length line) EVENT_LIMIT)) (ends_line byte))
      (λ none. last_so number line events)

  pub report_so : IsSo report_program
  report_so = reports_so SCRIPT_LIMIT 1 [] []

pub report_own : EndsIn IsOfJob report_program
report_own = report_so (EndsIn IsOfJob) (record {
  long = ((λ is. cc, λ is. cc), λ is. cc);
  bad = λ number. ((λ is. cc, λ is. cc), λ is. cc);
  over = λ events. ((λ is. cc, λ is. cc), λ is. cc);
  asks = λ bytes k behind reply is. behind reply;
  takes = λ k short behind end. (behind, end);
})

pub report_last : PutsLast report_program
report_last = report_so PutsLast (record {
  long = tt;
  bad = λ number. tt;
  over = λ events. refl;
  asks = λ bytes k behind reply is. behind reply;
  takes = λ k short behind end. (behind, end);
})

pub report_first : AsksFirst report_program
report_first = report_so AsksFirst (record {
  long = tt;
  bad = λ number. tt;
  over = λ events. tt;
  asks = λ bytes k behind reply is. behind reply;
  takes = λ k short behind end. (behind, end);
})

pub report_calls_none : MakesNoCall report_program
report_calls_none = report_so MakesNoCall (record {
  long = tt;
  bad = λ number. tt;
  over = λ events. tt;
  asks = λ bytes k behind reply is. behind reply;
  takes = λ k short behind end. (behind, end);
})

-- ---- it is sure

events_short : AreShort SpellsEvent EVENT_LIMIT
events_short = record {
  short = λ bytes said spells. omega (arith, spells-length bytes said spells);
  inner = spells-inner;
}

module _ (s : State) where
  abbrev CompletesSo : Program → Option (List ℕ) → Type 0
  CompletesSo program left = Completes [] program s left

  sure_nodes : IsOfText SpellsEvent event_taken report_over (λ said. Unit {0}) CompletesSo
  sure_nodes = record {
    over = λ events. refl;
    takes = λ k short told behind end. (behind, end);
    line = λ number bytes said events rest left spells is so.
        read_so number bytes said events rest left spells so;
  }
    where
      read_so : (number : ℕ) (bytes : List ℕ) (said : Event) (events : List Event) (rest : List Event → Program) (left : Option (List ℕ))
          → SpellsEvent bytes said → ((events : List Event) → CompletesSo (rest events) left) → (reply : Option Event) → IsReply (EventLine bytes) reply
          → CompletesSo (if_event number events rest reply) left
      read_so number bytes said events rest left spells so None is = absurd (is said spells)
      read_so number bytes said events rest left spells so (Some other) is = so (other ∷ events)

  pub report_sure : (events : List Event) (input : List ℕ) → AreLines SpellsEvent events input → length input ≤ SCRIPT_LIMIT
      → Completes [] report_program s (Some input)
  report_sure events input are few =
      text_so SpellsEvent EVENT_LIMIT events_short event_taken report_over (λ said. Unit {0}) CompletesSo sure_nodes SCRIPT_LIMIT input [] events are
      (all_any events) few
    where
      all_any : (events : List Event) → All (λ said. Unit {0}) events
      all_any [] = All-nil (λ said. Unit {0})
      all_any (said ∷ events) = All-cons (λ said. Unit {0}) said events tt (all_any events)

-- ---- it is done

-- no array is looked for, made or opened
abbrev AllOff : List TraceItem → Type 0
AllOff [] = Unit {0}
AllOff (item ∷ trace) = IsOffDevices item × AllOff trace

off_trace : (trace : List TraceItem) (program rest : Program) → MakesNoCall program → AlongTrace StepsProgram trace program rest → AllOff trace
off_trace [] program rest none follows = tt
off_trace (item ∷ trace) program rest none follows =
    let one = no_call_moves item program follows.0 none follows.1 in (one.0, off_trace trace follows.0 rest one.1 follows.2)

-- so nothing need be known of a rack
abbrev Anyhow : TraceItem → Unit {0} → Unit {0} → Type 0
Anyhow item x y = Unit {0}

anyhow : (trace : List TraceItem) → AlongTrace Anyhow trace tt tt
anyhow [] = refl
anyhow (item ∷ trace) = (tt, tt, anyhow trace)

abbrev IsOff : List ℕ → State → (trace : List TraceItem) → (x y : Unit {0}) → AlongTrace Anyhow trace x y → Type 0
IsOff counted s trace x y works = AllOff trace

off_carries : CarriesOn Anyhow IsOff
off_carries = record {
  still = λ counted s item trace x y works off ready. ready.1;
  found = λ counted s came trace x y works ready. absurd ready.0;
  stepped = λ counted s step answer events left trace x y works passes ready. absurd ready.0;
}

module _ {S K : Type 0} (streams : Views S K) (program : Program) (status : Status) (a b : Outside S K) where
  -- a program that makes no call is done where it is sure, in whatever state
  pub callless_done : Executes streams program (Over status) a b → MakesNoCall program → HasNoFault streams a b → (s : State)
      → Completes [] program s (streams.source.left a.source) → IsDone status
  callless_done means calls none s sure =
      ends_done Anyhow IsOff off_carries streams [] means.trace program status s tt tt (anyhow means.trace) a.source b.source a.sink b.sink means.follows
      means.bears.gives means.bears.holds none.source none.sink (off_trace means.trace program (Over status) calls means.follows) sure
