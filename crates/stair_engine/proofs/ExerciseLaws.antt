-- What the program of `exercise` does by itself.
use Rattle.std.proofs.Common.{◌≡◌, ◌+◌, ◌==◌, ℕ, zero, suc, Bool, true, false, nat_lt, List, refl, arith}
use Rattle.stair_model.specs.Geometry.{Geometry}
use Rattle.stair_array.specs.Draws.{allowance}
use Rattle.stair_array.specs.Machine.{Answer, GivenBy, ReadBlock, ScrubStripe, Step, WriteBlocks}
use Rattle.stair_command.specs.Ending.{AdmitsNone, AllowsAtMost, AsksForNone, EachStep, EndsIn, PutsLast, TakesNothing}
use Rattle.stair_command.specs.Program.{Program, Over, Put, Try, take_step}
use Rattle.stair_status.specs.declared.status.Status.{Status}
use Rattle.stair_status.specs.declared.status.Status.TheVariants.{Done, OutOfRange}
use Rattle.stair_engine.specs.declared.exercise.Exercised.{Exercised}
use Rattle.stair_engine.specs.Exercise.{exercise_steps, exercised_line, exercises, if_few, kind_of, most_steps, next_number, none_exercised, step_one}
use Rattle.stair_engine.proofs.LineLaws.{IsOfLine}
use Rattle.stair_engine.proofs.OpenLaws.{IsOfJob, left_so, refusal_own, unless_so}

-- What holds for the program, if it holds for each node of it given that it holds after it. Its steps admit no medium,
-- and are allowed no draw.
record IsOfSteps (IsSo : Program → Type 0) : Type 0 where
  ends : (status : Status) → IsOfLine status → IsSo (Over status)
  tells : (bytes : List ℕ) → IsSo (Put bytes (Over Done))
  tries : (step : Step) → AdmitsNone step → allowance step ≡ 0 → (k : Answer step → Bool → Program)
      → ((answer : Answer step) (left : Bool) → IsSo (k answer left)) → IsSo (Try step k)

module _ (IsSo : Program → Type 0) (nodes : IsOfSteps IsSo) where
  tried_so : (slots : ℕ) (step : Step) → AdmitsNone step → allowance step ≡ 0 → (k : GivenBy step → Program)
      → ((given : GivenBy step) → IsSo (k given)) → IsSo (take_step slots step k)
  tried_so slots step none free k behind =
      nodes.tries step none free _ (unless_so IsSo slots (λ given left. k given) (λ given left. behind given)
      (λ refusal. nodes.ends _ (refusal_own slots refusal)))

  one_so : (g : Geometry) (x : ℕ) (so_far : Exercised) (k : Exercised → Program) → ((came : Exercised) → IsSo (k came)) → IsSo (step_one g x so_far k)
  one_so g x so_far k behind =
      left_so IsSo _ _ (tried_so g.n (ScrubStripe _) tt refl _ (λ cells. behind _))
      (left_so IsSo _ _ (tried_so g.n (ReadBlock _) tt refl _ (λ contents. behind _))
      (tried_so g.n (WriteBlocks _ _) tt refl _ (λ done. behind _)) (nat_lt (kind_of x) 4)) (kind_of x == 0)

  exercises_so : (g : Geometry) (left x : ℕ) (so_far : Exercised) (k : Exercised → Program) → ((came : Exercised) → IsSo (k came))
      → IsSo (exercises g left x so_far k)
  exercises_so g zero x so_far k behind = behind so_far
  exercises_so g (suc left) x so_far k behind =
      one_so g (next_number x) so_far (λ later. exercises g left (next_number x) later k)
      (λ later. exercises_so g left (next_number x) later k behind)

  few_so : (count : ℕ) (program : Program) → IsSo program → (few : Bool) → IsSo (if_few count few program)
  few_so count program so true = so
  few_so count program so false = nodes.ends (OutOfRange count (most_steps + 1)) (((λ is. cc, λ is. cc), λ is. cc), λ is. cc)

  exercise_so : (number count : ℕ) (g : Geometry) → IsSo (exercise_steps number count g)
  exercise_so number count g =
      few_so count _ (exercises_so g count number none_exercised _ (λ came. nodes.tells (exercised_line number count came)))
      (nat_lt count (most_steps + 1))

-- the statuses by which it ends
pub exercise_own : (number count : ℕ) (g : Geometry) → EndsIn IsOfJob (exercise_steps number count g)
exercise_own = exercise_so (EndsIn IsOfJob) (record {
  ends = λ status of. of.0;
  tells = λ bytes. ((λ is. cc, λ is. cc), λ is. cc);
  tries = λ step none free k behind. behind;
})

-- what is put out is put out last
pub exercise_last : (number count : ℕ) (g : Geometry) → PutsLast (exercise_steps number count g)
exercise_last = exercise_so PutsLast (record { ends = λ status of. tt; tells = λ bytes. refl; tries = λ step none free k behind. behind })

-- no memory is asked for once the array is opened
pub exercise_none : (number count : ℕ) (g : Geometry) → AsksForNone (exercise_steps number count g)
exercise_none = exercise_so AsksForNone
    (record { ends = λ status of. of.1; tells = λ bytes is. cc; tries = λ step none free k behind. behind })

-- nothing is taken
pub exercise_untaken : (number count : ℕ) (g : Geometry) → TakesNothing (exercise_steps number count g)
exercise_untaken = exercise_so TakesNothing
    (record { ends = λ status of. of.0.0.0; tells = λ bytes is. cc; tries = λ step none free k behind. behind })

-- steps
pub exercise_admits_none : (number count : ℕ) (g : Geometry) → EachStep AdmitsNone (exercise_steps number count g)
exercise_admits_none = exercise_so (EachStep AdmitsNone)
    (record { ends = λ status of. tt; tells = λ bytes. tt; tries = λ step none free k behind. (none, behind) })

pub exercise_allowed : (n number count : ℕ) (g : Geometry) → AllowsAtMost n (exercise_steps number count g)
exercise_allowed n = exercise_so (AllowsAtMost n)
    (record { ends = λ status of. tt; tells = λ bytes. tt; tries = λ step none free k behind. (n, omega (arith, free), behind) })
