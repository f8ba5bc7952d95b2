-- Kinds of jobs.
use Rattle.std.specs.Prelude.{ℕ, List, ⊤}
use Rattle.stair_conf.specs.Words.{Spells}
use Rattle.stair_conf.specs.declared.job.Job.{Job}
use Rattle.stair_conf.specs.declared.job.Job.TheVariants.{Create, Exercise, Freeze, Guard, Label, OneStripe, Read, Rebuild, Replace, Report, Run, Scrub, Serve, Show, Thaw, Volume, Write}
use Rattle.stair_volume.specs.Commands.{PutsSome, TakesSome}
use Rattle.stair_volume.specs.Parts.{MakesSome}

-- blocks of an array, lines of its volumes, or the replies to lines or to a client, are put out before all is done
abbrev pub PutsOnTheWay : Job → Type 0
PutsOnTheWay (Read block count) = ⊤
PutsOnTheWay Run = ⊤
PutsOnTheWay (Guard events fences) = ⊤
PutsOnTheWay Serve = ⊤
PutsOnTheWay (Volume job) = PutsSome job
PutsOnTheWay _ = ⊥

-- an array that is there is opened
abbrev pub OpensArray : Job → Type 0
OpensArray (Read block count) = ⊤
OpensArray (Write block count) = ⊤
OpensArray Scrub = ⊤
OpensArray (Replace slot) = ⊤
OpensArray Rebuild = ⊤
OpensArray Freeze = ⊤
OpensArray Thaw = ⊤
OpensArray (Label text) = ⊤
OpensArray Run = ⊤
OpensArray (Guard events fences) = ⊤
OpensArray (Exercise number count) = ⊤
OpensArray Serve = ⊤
OpensArray (Volume job) = ⊤
OpensArray _ = ⊥

-- the lines of a script are done
abbrev pub IsScripted : Job → Type 0
IsScripted Run = ⊤
IsScripted (Guard events fences) = ⊤
IsScripted _ = ⊥

-- a medium may be admitted
abbrev pub MayAdmit : Job → Type 0
MayAdmit (Replace slot) = ⊤
MayAdmit Run = ⊤
MayAdmit (Guard events fences) = ⊤
MayAdmit _ = ⊥

-- an input is taken
abbrev pub TakesInput : Job → Type 0
TakesInput (OneStripe command n m r e) = ⊤
TakesInput Create = ⊤
TakesInput (Write block count) = ⊤
TakesInput Run = ⊤
TakesInput (Guard events fences) = ⊤
TakesInput Report = ⊤
TakesInput Serve = ⊤
TakesInput (Volume job) = TakesSome job
TakesInput _ = ⊥

-- devices may be written: an array is made, or opened
abbrev pub MayWrite : Job → Type 0
MayWrite Create = ⊤
MayWrite job = OpensArray job

-- calls are made on devices
abbrev pub MakesCalls : Job → Type 0
MakesCalls Show = ⊤
MakesCalls job = MayWrite job

-- the words spell no such job
abbrev pub NotSpelled : (Job → Type 0) → List (List ℕ) → Type 0
NotSpelled IsSo words = (job : Job) → Spells words job → ¬ IsSo job

-- a volume that is made has blocks
abbrev pub IsMade : Job → Type 0
IsMade (Volume job) = MakesSome job
IsMade _ = ⊤
