-- `plan 4 1 2 1` is done, if there was memory and the sink counts no fault.
use Rattle.std.proofs.Common.{◌≡◌, ℕ, [], ◌∷◌, Option, None, Some, inl, inr, refl, rules}
use Rattle.std.specs.Prelude.{◌⊎◌}
use Rattle.stair_model.specs.Geometry.{Geometry, IsWithinLimits}
use Rattle.stair_model.proofs.LimitLaws.{none_broken}
use Rattle.stair_rack.specs.Count.{Rose}
use Rattle.stair_conf.specs.Words.{Spells}
use Rattle.stair_conf.specs.declared.job.Job.TheVariants.{Plan}
use Rattle.stair_status.specs.declared.status.Status.{Status}
use Rattle.stair_status.specs.declared.status.Status.TheVariants.{OutputFault}
use Rattle.stair_command.specs.Outside.{Outside, Views, outside}
use Rattle.stair_command.specs.Question.{IsReply, Limits}
use Rattle.stair_command.specs.Sure.{IsDone}
use Rattle.stair_command.proofs.AllEnds.{AllEnd, Nowhere, means_all}
use Rattle.stair_engine.specs.Laws.{PlanIsDone, plan_words}
use Rattle.stair_engine.specs.Programs.{costs_program, program_of, within_limits}
use Rattle.stair_engine.specs.Task.{one_stripe}
use Rattle.stair_engine.proofs.WordLaws.{spelled_all}

abbrev stripe : Geometry
stripe = one_stripe 4 1 2 (1 ∷ [])

within : IsWithinLimits stripe
within = search rules

spells : Spells plan_words (Plan 4 1 2 (1 ∷ []))
spells = search rules

module _ {S K : Type 0} (view : Views S K) (a : Outside S K) where
  abbrev Ends : Status → Outside S K → Unit {0} → Type 0
  Ends end o x = IsDone end ⊎ ((end ≡ OutputFault) × Rose (view.sink.faults a.sink) (view.sink.faults o.sink))

  ends : (reply : Option ℕ) (n : ℕ) → IsReply (Limits stripe) reply
      → AllEnd Nowhere view Ends (within_limits (costs_program stripe) reply) (outside a.source a.sink n) tt
  ends None n is = (
    λ costs m found counts. (λ sink holds. inl (inl refl), λ part sink is holds. inr (refl, holds.2)),
    inl (inr refl),
  )
  ends (Some k) n broken = absurd (none_broken stripe k broken within)

pub plan_is_done : (S K : Type 0) → PlanIsDone S K
plan_is_done S K view status a b means =
    means_all view (Ends view a) (program_of plan_words) status a b means
    (spelled_all Nowhere view (Ends view a) plan_words a tt (Plan 4 1 2 (1 ∷ [])) spells (inl (inr refl)) (λ reply n is counts. ends view a reply n is))
