-- The steps of `exercise` are sure: each is of a stripe or a block that there is, and is no write where the array is frozen.
use Rattle.std.specs.Prelude.{◌||◌}
use Rattle.std.proofs.Common.{◌≡◌, ◌∙◌, ◌==◌, ◌+◌, ◌%◌, ◌<◌, ◌≤◌, ℕ, zero, suc, Bool, false, true, nat_lt, List, [], Option, ap, arith, refl, subst, sym}
use Rattle.std.proofs.lemmas.Bool.{lt-ltb, ltb-false, or_left, or_right}
use Rattle.stair_model.specs.Geometry.{Geometry, IsWithinLimits, block_count}
use Rattle.stair_state.specs.State.{Content, State}
use Rattle.stair_command.specs.Program.{Program, if_so}
use Rattle.stair_command.specs.Sure.{Completes}
use Rattle.stair_command.proofs.PieceLaws.{some_blocks}
use Rattle.stair_engine.specs.declared.exercise.Exercised.{Exercised}
use Rattle.stair_engine.specs.Complete.{IsThawed}
use Rattle.stair_engine.specs.Exercise.{choice_of, exercise_program, exercise_steps, exercises, has_write, if_few, kind_of, most_steps, next_number, none_exercised, read_one, scrub_one, step_one, write_one}
use Rattle.stair_engine.proofs.OpenLaws.{left_so}
use Rattle.stair_engine.proofs.ExercisedLaws.{tells_steps}
use Rattle.stair_engine.proofs.SureLaws.{one_block, opens_sure, still_thawed}

module _ (g : Geometry) (limits : IsWithinLimits g) (left : Option (List ℕ)) where
  -- what is sure in each state of the array, which isn't frozen where a write comes
  abbrev CompletesFor : Bool → Program → Type 0
  CompletesFor writes program = (s : State) → s.geometry ≡ g → (writes ≡ true → s.content.frozen ≡ false) → Completes [] program s left

  in_blocks : (x : ℕ) (s : State) → s.geometry ≡ g → choice_of x % block_count g < block_count s.geometry
  in_blocks x s same = subst (λ (of : Geometry). choice_of x % block_count g < block_count of) (sym same) (omega (arith, some_blocks g limits))

  module _ (x : ℕ) (so_far : Exercised) (writes : Bool) (k : Exercised → Program) (behind : (came : Exercised) → CompletesFor writes (k came)) where
    scrub_sure : CompletesFor writes (scrub_one g x so_far k)
    scrub_sure s same thawed = (
      λ seats known free. subst (λ (of : Geometry). choice_of x % g.stripes < of.stripes) (sym same) (omega (arith, limits.size.0)),
      λ cells gone later done. behind _ later (done.row.geometry ∙ same) (λ some. ap (λ (c : Content). c.frozen) done.row.holds.content ∙ thawed some),
    )

    read_sure : CompletesFor writes (read_one g x so_far k)
    read_sure s same thawed = (
      λ seats known free. in_blocks x s same,
      λ contents gone later done. behind _ later (done.row.geometry ∙ same) (λ some. ap (λ (c : Content). c.frozen) done.row.holds.1.content ∙ thawed some),
    )

    write_sure : (s : State) → s.geometry ≡ g → s.content.frozen ≡ false → Completes [] (write_one g x so_far k) s left
    write_sure s same thawed = (
      λ seats known free. (in_blocks x s same, one_block s.geometry _ (in_blocks x s same), thawed),
      λ done gone later did. behind _ later (did.row.geometry ∙ same) (λ some. ap (λ (c : Content). c.frozen) did.row.holds.content ∙ thawed),
    )

    -- by the kind of the step
    kind_sure : (s : State) → s.geometry ≡ g → ((nat_lt 3 (kind_of x) || writes) ≡ true → s.content.frozen ≡ false) → (few : Bool)
        → nat_lt (kind_of x) 4 ≡ few → Completes [] (if_so few (read_one g x so_far k) (write_one g x so_far k)) s left
    kind_sure s same thawed true is = read_sure s same (λ some. thawed (or_right (nat_lt 3 (kind_of x)) writes some))
    kind_sure s same thawed false is =
        write_sure s same (thawed (or_left (nat_lt 3 (kind_of x)) writes (lt-ltb 3 (kind_of x) (omega (arith, ltb-false (kind_of x) 4 is)))))

    one_sure : CompletesFor (nat_lt 3 (kind_of x) || writes) (step_one g x so_far k)
    one_sure s same thawed =
        left_so (λ program. Completes [] program s left) _ _ (scrub_sure s same (λ some. thawed (or_right (nat_lt 3 (kind_of x)) writes some)))
        (kind_sure s same thawed (nat_lt (kind_of x) 4) refl) (kind_of x == 0)

  -- nothing is asked of steps that don't write
  steps_sure : (count x : ℕ) (so_far : Exercised) (k : Exercised → Program) → ((came : Exercised) (s : State) → Completes [] (k came) s left)
      → CompletesFor (has_write x count) (exercises g count x so_far k)
  steps_sure zero x so_far k behind = λ s same thawed. behind so_far s
  steps_sure (suc count) x so_far k behind =
      one_sure (next_number x) so_far (has_write (next_number x) count) (λ later. exercises g count (next_number x) later k)
      (λ came. steps_sure count (next_number x) came k behind)

pub exercise_sure : (number count : ℕ) (s : State) (left : Option (List ℕ)) → IsWithinLimits s.geometry → count ≤ most_steps
    → (has_write number count ≡ true → IsThawed s) → Completes [] (exercise_program number count) s left
exercise_sure number count s left limits few thawed =
    opens_sure (exercise_steps number count) s left
    (λ later decided same.
    subst (λ (is : Bool). Completes [] (if_few count is (exercises s.geometry count number none_exercised (tells_steps number count))) later left)
    (sym (lt-ltb count (most_steps + 1) (omega (arith, few))))
    (steps_sure s.geometry limits left count number none_exercised (tells_steps number count) (λ came last. refl) later same
    (λ some. still_thawed s later decided (thawed some))))
