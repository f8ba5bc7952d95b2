-- What a command asks, and the words and the input alone decide.
use Rattle.std.specs.Prelude.{ℕ, List, Option, None, Some, Result}
use Rattle.stair_model.specs.Geometry.{Geometry, IsWithinLimits, IsFirstBrokenLimit}
use Rattle.stair_conf.specs.Config.{TextReadsAs}
use Rattle.stair_conf.specs.Words.{IsSpelled, Spells}
use Rattle.stair_conf.specs.declared.fault.ConfigFault.{ConfigFault}
use Rattle.stair_conf.specs.declared.job.Job.{Job}
use Rattle.stair_plan.specs.Plan.{IsPlanOf}
use Rattle.stair_plan.specs.declared.plans.Plan.{Plan as Costing}
use Rattle.stair_rack.specs.declared.watcher.Event.{Event}
use Rattle.stair_script.specs.Events.{SpellsEvent}
use Rattle.stair_script.specs.Line.{SpellsLine}
use Rattle.stair_script.specs.declared.line.Line.{Line}
use Rattle.stair_status.specs.declared.status.Status.{Status}
use Rattle.stair_conf.specs.declared.job.StripeCommand.{StripeCommand}
use Rattle.stair_command.specs.Answer.{Judges}

pub data Question : Type 0 where
  -- the job that the words spell, if any
  Words : List (List ℕ) → Question
  -- the first limit that a geometry breaks, if any
  Limits : Geometry → Question
  -- the geometry of an array that a text says, or what is wrong with the text
  Text : List ℕ → Question
  -- the status and the output for a whole input
  Judgement : StripeCommand → Geometry → List ℕ → Question
  -- what a line of a script says, if it is one
  ScriptLine : List ℕ → Question
  -- the event that a line tells, if it is the line of one
  EventLine : List ℕ → Question
  -- what the code of a geometry costs
  Costs : Geometry → Question

abbrev pub Reply : Question → Type 0
Reply (Words words) = Option Job
Reply (Limits g) = Option ℕ
Reply (Text text) = Result Geometry ConfigFault
Reply (Judgement command g input) = Status × List ℕ
Reply (ScriptLine bytes) = Option Line
Reply (EventLine bytes) = Option Event
Reply (Costs g) = Costing

-- the right reply
abbrev pub IsReply : (question : Question) → Reply question → Type 0
IsReply (Words words) None = IsSpelled words → ⊥
IsReply (Words words) (Some job) = Spells words job
IsReply (Limits g) None = IsWithinLimits g
IsReply (Limits g) (Some k) = IsFirstBrokenLimit g k
IsReply (Text text) reply = TextReadsAs text reply
IsReply (Judgement command g input) reply = Judges command g input reply.0 reply.1
IsReply (ScriptLine bytes) None = (said : Line) → ¬ SpellsLine bytes said
IsReply (ScriptLine bytes) (Some said) = SpellsLine bytes said
IsReply (EventLine bytes) None = (said : Event) → ¬ SpellsEvent bytes said
IsReply (EventLine bytes) (Some said) = SpellsEvent bytes said
IsReply (Costs g) costs = IsPlanOf g costs
