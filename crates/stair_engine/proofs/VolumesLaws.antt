-- What the programs of the commands on volumes, and of costs, do by themselves; and what becomes of volumes over a call.
use Rattle.std.proofs.Common.{◌∙◌, ℕ, List, [], Option, None, Some, Ok, Err, refl, sym, subst, arith}
use Rattle.stair_model.specs.Geometry.{Geometry, IsWithinLimits}
use Rattle.stair_state.specs.State.{State}
use Rattle.stair_array.specs.Machine.{Recover}
use Rattle.stair_conf.specs.Words.{Spells}
use Rattle.stair_conf.specs.declared.job.Job.TheVariants.{Volume}
use Rattle.stair_conf.specs.declared.job.VolumeJob.{VolumeJob}
use Rattle.stair_conf.specs.declared.job.VolumeJob.TheVariants as volume
use Rattle.stair_command.specs.Ending.{AdmitsNone, AllowsAtMost, AsksFirst, AsksForNone, EachStep, EndsIn, MakesNoCall, PutsLast, TakesNothing}
use Rattle.stair_command.specs.Program.{take_step}
use Rattle.stair_engine.specs.Programs.{costs_program, planning_program, within_limits}
use Rattle.stair_engine.proofs.OpenLaws.{IsOfJob}
use Rattle.stair_volume.specs.Commands.{PutsSome, TakesSome, volume_program}
use Rattle.stair_volume.proofs.NodeLaws.{volume_so}
use Rattle.stair_engine.specs.Volumes.{volumes_program}
use Rattle.stair_model.proofs.LimitLaws.{none_broken}
use Rattle.std.proofs.lemmas.Bool.{false≢true}
use Rattle.stair_command.specs.Served.{EndsServed}
use Rattle.stair_command.specs.Sure.{Completes}
use Rattle.stair_volume.specs.Ends.{MayEnd}
use Rattle.stair_volume.specs.Volumes.{IsCommand}
use Rattle.stair_volume.proofs.EndLaws.{volume_ends}

-- ---- volumes

pub volume_own : (job : VolumeJob) (g : Geometry) → EndsIn IsOfJob (volume_program job g)
volume_own job g = volume_so job g (EndsIn IsOfJob) (record {
  over = λ status is. ((is.0, is.1), is.3);
  takes = λ some least most k short behind end. (behind, end);
  puts_last = λ bytes. ((λ is. cc, λ is. cc), λ is. cc);
  puts = λ some bytes program behind. behind;
  reads = λ b k behind. behind;
  writes = λ first contents k behind. behind;
})

-- no memory is asked for
pub volume_none : (job : VolumeJob) (g : Geometry) → AsksForNone (volume_program job g)
volume_none job g = volume_so job g AsksForNone (record {
  over = λ status is. is.2;
  takes = λ some least most k short behind end. (behind, end);
  puts_last = λ bytes is. cc;
  puts = λ some bytes program behind. behind;
  reads = λ b k behind. behind;
  writes = λ first contents k behind. behind;
})

pub volume_last : (job : VolumeJob) (g : Geometry) → ¬ PutsSome job → PutsLast (volume_program job g)
volume_last job g none = volume_so job g PutsLast (record {
  over = λ status is. tt;
  takes = λ some least most k short behind end. (behind, end);
  puts_last = λ bytes. refl;
  puts = λ some. absurd (none some);
  reads = λ b k behind. behind;
  writes = λ first contents k behind. behind;
})

pub volume_untaken : (job : VolumeJob) (g : Geometry) → ¬ TakesSome job → TakesNothing (volume_program job g)
volume_untaken job g none = volume_so job g TakesNothing (record {
  over = λ status is. is.0;
  takes = λ some. absurd (none some);
  puts_last = λ bytes is. cc;
  puts = λ some bytes program behind. behind;
  reads = λ b k behind. behind;
  writes = λ first contents k behind. behind;
})

pub volume_admits_none : (job : VolumeJob) (g : Geometry) → EachStep AdmitsNone (volume_program job g)
volume_admits_none job g = volume_so job g (EachStep AdmitsNone) (record {
  over = λ status is. tt;
  takes = λ some least most k short behind end. (behind, end);
  puts_last = λ bytes. tt;
  puts = λ some bytes program behind. behind;
  reads = λ b k behind. (tt, behind);
  writes = λ first contents k behind. (tt, behind);
})

pub volume_allowed : (job : VolumeJob) (n : ℕ) (g : Geometry) → AllowsAtMost n (volume_program job g)
volume_allowed job n g = volume_so job g (AllowsAtMost n) (record {
  over = λ status is. tt;
  takes = λ some least most k short behind end. (behind, end);
  puts_last = λ bytes. tt;
  puts = λ some bytes program behind. behind;
  reads = λ b k behind. (n, omega arith, behind);
  writes = λ first contents k behind. (n, omega arith, behind);
})

-- ---- costs

costs_calls : (g : Geometry) (reply : Option ℕ) → MakesNoCall (within_limits (costs_program g) reply)
costs_calls g None = λ costs is. tt
costs_calls g (Some k) = tt

pub costs_call_none : (g : Geometry) → MakesNoCall (planning_program g)
costs_call_none g = λ reply is. costs_calls g reply

costs_end : (g : Geometry) (reply : Option ℕ) → EndsIn IsOfJob (within_limits (costs_program g) reply)
costs_end g None = λ costs is. ((λ is. cc, λ is. cc), λ is. cc)
costs_end g (Some k) = ((λ is. cc, λ is. cc), λ is. cc)

pub costs_own : (g : Geometry) → EndsIn IsOfJob (planning_program g)
costs_own g = λ reply is. costs_end g reply

costs_put : (g : Geometry) (reply : Option ℕ) → PutsLast (within_limits (costs_program g) reply)
costs_put g None = λ costs is. refl
costs_put g (Some k) = tt

pub costs_last : (g : Geometry) → PutsLast (planning_program g)
costs_last g = λ reply is. costs_put g reply

costs_ask : (g : Geometry) (reply : Option ℕ) → AsksFirst (within_limits (costs_program g) reply)
costs_ask g None = λ costs is. tt
costs_ask g (Some k) = tt

pub costs_first : (g : Geometry) → AsksFirst (planning_program g)
costs_first g = λ reply is. costs_ask g reply

costs_take : (g : Geometry) (reply : Option ℕ) → TakesNothing (within_limits (costs_program g) reply)
costs_take g None = λ costs is same. cc
costs_take g (Some k) = λ same. cc

pub costs_untaken : (g : Geometry) → TakesNothing (planning_program g)
costs_untaken g = λ reply is. costs_take g reply

-- ---- how a call ends

-- it is sure where the geometry is within its limits
pub costs_sure : (g : Geometry) (s : State) (left : Option (List ℕ)) → IsWithinLimits g → Completes [] (planning_program g) s left
costs_sure g s left limits None is = λ costs are. refl
costs_sure g s left limits (Some k) broken = absurd (none_broken g k broken limits)

-- the command that words spell is one
pub spelled_command : (words : List (List ℕ)) (job : VolumeJob) → Spells words (Volume job) → IsCommand job
spelled_command words volume.Ready spells = tt
spelled_command words (volume.Make name blocks) spells = (spells.is_name, spells.some)
spelled_command words (volume.Remove name) spells = spells.is_name
spelled_command words volume.List spells = tt
spelled_command words (volume.Read name block count) spells = spells.is_name
spelled_command words (volume.Write name block count) spells = spells.is_name

-- where the array serves it is found and opened, and the command ends as it may
opening_ends : (job : VolumeJob) (slots : ℕ) (s : State) → IsCommand job → IsWithinLimits s.geometry
    → EndsServed (MayEnd job) (take_step slots Recover (volume_program job)) s
opening_ends job slots s is limits (Ok g) left later step =
    let same = step.row.holds.0 in
    volume_ends job g later is (subst IsWithinLimits (sym same) limits) (step.row.geometry ∙ sym same)
opening_ends job slots s is limits (Err refusal) left later step = absurd (false≢true (step.done tt))

pub volumes_end : (job : VolumeJob) (s : State) → IsCommand job → IsWithinLimits s.geometry → EndsServed (MayEnd job) (volumes_program job) s
volumes_end job s is limits = λ member same. opening_ends job member.array.geometry.n s is limits
