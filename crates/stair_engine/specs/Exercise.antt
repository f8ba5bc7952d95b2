-- What `exercise` does: it opens an array, and takes steps that a number gives.
use Rattle.std.specs.Prelude.{◌==◌, ◌+◌, ◌*◌, ◌/◌, ◌%◌, ◌^◌, ◌||◌, ℕ, zero, suc, Bool, true, false, nat_lt, List, [], ◌∷◌, ◌++◌, codes, replicate, slice_index}
use Rattle.std.specs.Fmt.{decimal}
use Rattle.stair_model.specs.Geometry.{Geometry, block_count}
use Rattle.stair_model.specs.Stripe.{SECTOR}
use Rattle.stair_array.specs.Machine.{ReadBlock, ScrubStripe, WriteBlocks}
use Rattle.stair_status.specs.declared.status.Status.TheVariants.{Done, OutOfRange}
use Rattle.stair_command.specs.Program.{Program, Over, Put, take_step, if_so, opens_array}
use Rattle.stair_engine.specs.declared.exercise.Exercised.{Exercised}

abbrev pub none_exercised : Exercised
none_exercised = record { reads = 0; writes = 0; scrubs = 0; sum = 0 }

-- the next number of the generator, a linear congruential one modulo 2^64 (Knuth's MMIX)
abbrev pub next_number : ℕ → ℕ
next_number x = (x * 6364136223846793005 + 1442695040888963407) % 2 ^ 64

-- the kind of a number's step, and what chooses its stripe, block and byte
abbrev pub kind_of : ℕ → ℕ
kind_of x = x / 2 ^ 33 % 8

abbrev pub choice_of : ℕ → ℕ
choice_of x = x / 2 ^ 33 / 8

-- THE STEPS, each before what comes after it

abbrev pub scrub_one : Geometry → ℕ → Exercised → (Exercised → Program) → Program
scrub_one g x so_far k = take_step g.n (ScrubStripe (choice_of x % g.stripes))
    (λ cells. k (record so_far { scrubs = so_far.scrubs + 1 }))

abbrev pub read_one : Geometry → ℕ → Exercised → (Exercised → Program) → Program
read_one g x so_far k = take_step g.n (ReadBlock (choice_of x % block_count g))
    (λ contents. k (record so_far {
      reads = so_far.reads + 1;
      sum = (so_far.sum + slice_index contents 0) % 2 ^ 64;
    }))

abbrev pub write_one : Geometry → ℕ → Exercised → (Exercised → Program) → Program
write_one g x so_far k =
    take_step g.n (WriteBlocks (choice_of x % block_count g) (replicate SECTOR (choice_of x % 251) ∷ []))
    (λ done. k (record so_far { writes = so_far.writes + 1 }))

-- the step of a number: kind 0 scrubs, 1 to 3 read, 4 to 7 write
abbrev pub step_one : Geometry → ℕ → Exercised → (Exercised → Program) → Program
step_one g x so_far k = if_so (kind_of x == 0) (scrub_one g x so_far k)
    (if_so (nat_lt (kind_of x) 4) (read_one g x so_far k) (write_one g x so_far k))

-- one of so many steps, by the numbers after this one, is a write
abbrev pub has_write : (number count : ℕ) → Bool
has_write number zero = false
has_write number (suc count) =
    nat_lt 3 (kind_of (next_number number)) || has_write (next_number number) count

-- so many steps, by the numbers after this one; the rest takes what they came to
abbrev pub exercises : Geometry → (left number : ℕ) → Exercised → (Exercised → Program) → Program
exercises g zero number so_far k = k so_far
exercises g (suc left) number so_far k =
    step_one g (next_number number) so_far (λ later. exercises g left (next_number number) later k)

-- THE COMMAND

-- no more steps are taken
abbrev pub most_steps : ℕ
most_steps = 1000000

abbrev pub exercised_line : (number count : ℕ) → Exercised → List ℕ
exercised_line number count came = codes "exercise " ++ (decimal number ++ (codes " "
    ++ (decimal count ++ (codes ": reads " ++ (decimal came.reads ++ (codes " writes "
    ++ (decimal came.writes ++ (codes " scrubs " ++ (decimal came.scrubs ++ (codes " sum "
    ++ (decimal came.sum ++ 10 ∷ [])))))))))))

abbrev pub if_few : (count : ℕ) → Bool → Program → Program
if_few count true program = program
if_few count false program = Over (OutOfRange count (most_steps + 1))

-- how many are asked for is tested after the opening
abbrev pub exercise_steps : (number count : ℕ) → Geometry → Program
exercise_steps number count g = if_few count (nat_lt count (most_steps + 1))
    (exercises g count number none_exercised
    (λ came. Put (exercised_line number count came) (Over Done)))

abbrev pub exercise_program : (number count : ℕ) → Program
exercise_program number count = opens_array (exercise_steps number count)
