-- What the words lead to before anything is done with devices.
use Rattle.std.proofs.Common.{ℕ, List, Option, refl}
use Rattle.stair_conf.specs.declared.job.Job.{Job}
use Rattle.stair_array.specs.Promise.{Begun}
use Rattle.stair_command.specs.Devices.{DeviceView, ExecutesWhole, ExecutesWith, devices}
use Rattle.stair_command.specs.Headline.{RefinesProgram}
use Rattle.stair_command.specs.Outside.{Outside, Views}
use Rattle.stair_command.specs.Program.{Over, Ask}
use Rattle.stair_command.specs.Question.{IsReply, Words}
use Rattle.stair_command.specs.Trace.{Found, Grew, RanOut}
use Rattle.stair_status.specs.declared.status.Status.{Status}
use Rattle.stair_status.specs.declared.status.Status.TheVariants.{OutOfMemory}
use Rattle.stair_command.proofs.DeviceLaws.{whole_behind, with_one, with_then}
use Rattle.stair_command.proofs.PerformedLaws.{borne_whole}
use Rattle.stair_engine.specs.Programs.{if_spelled, program_of}

module _ {R W S K : Type 0} (view : DeviceView R W) (streams : Views S K) (words : List (List ℕ)) (a : Outside S K) (x : R) (watchers : List W) where
  -- they were read
  pub spelled : (reply : Option Job) → IsReply (Words words) reply
      → ExecutesWith view streams (program_of words) (if_spelled reply) a a (devices x Begun watchers) (devices x Begun watchers)
  spelled reply is =
      with_then view streams
      (with_one view streams Grew (program_of words) (Ask (Words words) if_spelled) a a (devices x Begun watchers) (devices x Begun watchers) refl refl refl refl refl)
      (with_one view streams (Found (Words words)) (Ask (Words words) if_spelled) (if_spelled reply) a a (devices x Begun watchers)
      (devices x Begun watchers) (reply, refl, is, refl) refl refl refl refl)

  -- or there was no memory for that
  short : ExecutesWith view streams (program_of words) (Over OutOfMemory) a a (devices x Begun watchers) (devices x Begun watchers)
  short =
      with_one view streams RanOut (program_of words) (Over OutOfMemory) a a (devices x Begun watchers) (devices x Begun watchers) refl refl refl refl refl

  pub short_borne : RefinesProgram view streams (program_of words) (Over OutOfMemory) a a x x watchers watchers
  short_borne =
      borne_whole view streams (program_of words) (Over OutOfMemory) a a x x watchers watchers (record { session = Begun; with = short })

  -- a call that came to this
  pub call_borne : (status : Status) (b : Outside S K) (y : R) (left : List W) → ExecutesWhole view streams (program_of words) (Over status) a b x y watchers left
      → RefinesProgram view streams (program_of words) (Over status) a b x y watchers left
  call_borne status b y left whole = borne_whole view streams (program_of words) (Over status) a b x y watchers left whole

  -- the job that they spell was done
  pub job_done : (reply : Option Job) (status : Status) (b : Outside S K) (y : R) (left : List W) → IsReply (Words words) reply
      → ExecutesWhole view streams (if_spelled reply) (Over status) a b x y watchers left
      → ExecutesWhole view streams (program_of words) (Over status) a b x y watchers left
  job_done reply status b y left is whole =
      whole_behind view streams (program_of words) (if_spelled reply) (Over status) a a b x y watchers left (spelled reply is) whole
