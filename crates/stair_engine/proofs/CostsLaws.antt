-- What the code of a geometry costs, as a program.
use Rattle.std.proofs.Common.{◌≡◌, ℕ, List, Result, refl, subst, sym}
use Rattle.std.specs.Result.{IsErrAnd}
use Rattle.stair_model.specs.Geometry.{Geometry}
use Rattle.stair_plan.specs.Plan.{IsPlanOf}
use Rattle.stair_plan.specs.PlanText.{plan_text}
use Rattle.stair_plan.specs.declared.plans.Plan.{Plan as Costing}
use Rattle.stair_command.specs.Fault.{status_of}
use Rattle.stair_command.specs.Executes.{Holds, Executes}
use Rattle.stair_command.specs.Outside.{Outside, Views, outside}
use Rattle.stair_command.specs.Program.{Over, Ask, Put}
use Rattle.stair_command.specs.Question.{Costs}
use Rattle.stair_command.specs.Trace.{HasPut, IsPart, PutFailed}
use Rattle.stair_command.specs.declared.fault.Fault.{Fault}
use Rattle.stair_command.specs.declared.fault.Fault.TheVariants.{Memory, Output}
use Rattle.stair_status.specs.declared.status.Status.{Status}
use Rattle.stair_status.specs.declared.status.Status.TheVariants.{Done}
use Rattle.stair_command.proofs.ProgramLaws.{and_then, cannot_put, finds, grows, hands_on, puts, runs_out}
use Rattle.stair_engine.specs.Programs.{costs_program}

module _ {S K : Type 0} (view : Views S K) (g : Geometry) where
  -- there was no memory, and that was handed on
  pub costs_no_memory : (result : Result Status Fault) (a : Outside S K) → IsErrAnd result (λ y. y ≡ Memory)
      → Executes view (costs_program g) (Over (status_of result)) a a
  costs_no_memory result a is = hands_on view (costs_program g) a a result Memory is (runs_out view _ a)

  module _ (costs : Costing) (is : IsPlanOf g costs) (said : List ℕ) (same : said ≡ plan_text costs) (source : S) (sink later : K) (n : ℕ) where
    -- the costs were found
    found : Executes view (costs_program g) (Put said (Over Done)) (outside source sink n) (outside source sink n)
    found =
        and_then view (grows view _ (outside source sink n))
        (subst (λ (text : List ℕ). Executes view (Ask (Costs g) (λ of. Put (plan_text of) (Over Done))) (Put text (Over Done)) (outside source sink n) (outside source sink n))
        (sym same) (finds view (Costs g) (λ of. Put (plan_text of) (Over Done)) costs source sink n n is refl))

    -- and put out
    pub costs_put : Holds view.sink (HasPut said) sink later → Executes view (costs_program g) (Over Done) (outside source sink n) (outside source later n)
    costs_put holds = and_then view found (puts view said (Over Done) source sink later n holds)

    -- or a part of them was, and that was handed on
    pub costs_unput : (part : List ℕ) (result : Result Status Fault) (why : Fault) → IsPart part said → Holds view.sink (PutFailed part) sink later
        → why ≡ Output → IsErrAnd result (λ y. y ≡ why)
        → Executes view (costs_program g) (Over (status_of result)) (outside source sink n) (outside source later n)
    costs_unput part result why in_text holds output is =
        hands_on view (costs_program g) (outside source sink n) (outside source later n) result Output (rw output at is)
        (and_then view found (cannot_put view said part (Over Done) source sink later n in_text holds))
