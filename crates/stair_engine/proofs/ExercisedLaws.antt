-- The loop of `exercise`: what each step does, and what is so before it.
use Rattle.std.proofs.Common.{◌≡◌, ◌≢◌, ◌∙◌, ◌+◌, ◌-◌, ◌%◌, ◌^◌, ◌<◌, ◌≤◌, ℕ, suc, Bool, true, false, List, [], ◌∷◌, Ok, Err, ap, arith, nat_lt, refl, subst, sym}
use Rattle.std.proofs.lemmas.Bool.{eq-eqb, eqb-true, le-ltb, lt-ltb}
use Rattle.std.specs.Prelude.{◌==◌, replicate, slice_index}
use Rattle.stair_model.specs.Geometry.{Geometry, block_count}
use Rattle.stair_model.specs.Stripe.{SECTOR}
use Rattle.stair_array.specs.Faults.{refusal_for}
use Rattle.stair_array.specs.Machine.{GivenBy, ReadBlock, Refusal, ScrubStripe, Step, WriteBlocks}
use Rattle.stair_array.specs.Promise.{Opened}
use Rattle.stair_array.specs.declared.fault.ArrayFault.{ArrayFault}
use Rattle.stair_invariant.specs.Session.{ArrayState}
use Rattle.stair_command.specs.Comes.{ExecutesOnDevices}
use Rattle.stair_command.specs.Devices.{DeviceView, Devices, devices}
use Rattle.stair_command.specs.Program.{Program, Over, Put, take_step, if_so}
use Rattle.stair_command.specs.Refused.{status_of_refusal}
use Rattle.stair_command.specs.Steps.{Takes}
use Rattle.stair_status.specs.declared.status.Status.{Status}
use Rattle.stair_status.specs.declared.status.Status.TheVariants.{Done, OutOfRange}
use Rattle.stair_watch.specs.WatcherList.{AllStay}
use Rattle.stair_command.proofs.ComesLaws.{comes_none, comes_refusal, comes_step, comes_then}
use Rattle.stair_engine.specs.declared.exercise.Exercised.{Exercised}
use Rattle.stair_engine.specs.Exercise.{choice_of, exercise_steps, exercised_line, exercises, if_few, kind_of, most_steps, next_number, none_exercised, read_one, scrub_one, step_one, write_one}

-- ---- the step of a number, by its kind

module _ (g : Geometry) (x : ℕ) (so_far : Exercised) (k : Exercised → Program) where
  -- one that is no scrub reads or writes
  abbrev read_or_write : Bool → Program
  read_or_write few = if_so few (read_one g x so_far k) (write_one g x so_far k)

  scrubs_one : kind_of x ≡ 0 → step_one g x so_far k ≡ scrub_one g x so_far k
  scrubs_one kind = ap (λ (is : Bool). if_so is (scrub_one g x so_far k) (read_or_write (nat_lt (kind_of x) 4))) (eq-eqb _ _ kind)

  no_scrub : kind_of x ≢ 0 → step_one g x so_far k ≡ read_or_write (nat_lt (kind_of x) 4)
  no_scrub other = by (kind_of x == 0) refl
    where
      by : (is : Bool) → (kind_of x == 0) ≡ is
          → if_so is (scrub_one g x so_far k) (read_or_write (nat_lt (kind_of x) 4)) ≡ read_or_write (nat_lt (kind_of x) 4)
      by true same = absurd (other (eqb-true _ _ same))
      by false same = refl

  reads_one : 1 ≤ kind_of x → kind_of x ≤ 3 → step_one g x so_far k ≡ read_one g x so_far k
  reads_one some few = no_scrub (λ none. absurd (omega (arith, none, some))) ∙ ap read_or_write (lt-ltb _ _ (omega (arith, few)))

  writes_one : 4 ≤ kind_of x → step_one g x so_far k ≡ write_one g x so_far k
  writes_one many = no_scrub (λ none. absurd (omega (arith, none, many))) ∙ ap read_or_write (le-ltb _ _ many)

module _ {R W : Type 0} (view : DeviceView R W) (old new : Devices R W) where
  -- a program that is a step
  step_done : (slots : ℕ) (step : Step) (k : GivenBy step → Program) (program : Program) → program ≡ take_step slots step k → (given : GivenBy step)
      → Takes view step (Ok given) old new → ExecutesOnDevices view program (k given) old new
  step_done slots step k program is given takes =
      subst (λ (p : Program). ExecutesOnDevices view p (k given) old new) (sym is) (comes_step view slots step given k old new takes)

  step_refused : (slots : ℕ) (step : Step) (k : GivenBy step → Program) (program : Program) → program ≡ take_step slots step k → (refusal : Refusal) (n : ℕ)
      → n ≡ slots → Takes view step (Err refusal) old new → ExecutesOnDevices view program (Over (status_of_refusal n refusal)) old new
  step_refused slots step k program is refusal n same takes =
      subst (λ (m : ℕ). ExecutesOnDevices view program (Over (status_of_refusal m refusal)) old new) (sym same)
      (subst (λ (p : Program). ExecutesOnDevices view p (Over (status_of_refusal slots refusal)) old new) (sym is)
      (comes_refusal view slots step refusal k old new takes))

  module _ (g : Geometry) (x : ℕ) (so_far : Exercised) where
    -- a scrub, of an array that is said to have so many stripes
    module _ (kind : kind_of x ≡ 0) (stripes : ℕ) (has : stripes ≡ g.stripes) where
      pub scrub_done : (cells : ℕ) → Takes view (ScrubStripe (choice_of x % stripes)) (Ok cells) old new → (k : Exercised → Program)
          → ExecutesOnDevices view (step_one g x so_far k) (k (record so_far { scrubs = so_far.scrubs + 1 })) old new
      scrub_done cells takes k =
          step_done g.n (ScrubStripe (choice_of x % g.stripes)) (λ cells. k (record so_far { scrubs = so_far.scrubs + 1 })) _
          (scrubs_one g x so_far k kind) cells (subst (λ (n : ℕ). Takes view (ScrubStripe (choice_of x % n)) (Ok cells) old new) has takes)

      pub scrub_refused : (slots : ℕ) → slots ≡ g.n → (fault : ArrayFault)
          → Takes view (ScrubStripe (choice_of x % stripes)) (Err (refusal_for fault)) old new → (k : Exercised → Program)
          → ExecutesOnDevices view (step_one g x so_far k) (Over (status_of_refusal slots (refusal_for fault))) old new
      scrub_refused slots same fault takes k =
          step_refused g.n (ScrubStripe (choice_of x % g.stripes)) (λ cells. k (record so_far { scrubs = so_far.scrubs + 1 })) _
          (scrubs_one g x so_far k kind) (refusal_for fault) slots same
          (subst (λ (n : ℕ). Takes view (ScrubStripe (choice_of x % n)) (Err (refusal_for fault)) old new) has takes)

    -- a read, or a write, of one that is said to have so many blocks
    module _ (blocks : ℕ) (has : blocks ≡ block_count g) where
      abbrev behind_read : (Exercised → Program) → List ℕ → Program
      behind_read k contents =
          k (record so_far { reads = so_far.reads + 1; sum = (so_far.sum + slice_index contents 0) % 2 ^ 64 })

      module _ (some : 1 ≤ kind_of x) (few : kind_of x ≤ 3) where
        pub read_done : (contents : List ℕ) (first : ℕ) → first ≡ slice_index contents 0
            → Takes view (ReadBlock (choice_of x % blocks)) (Ok contents) old new → (k : Exercised → Program)
            → ExecutesOnDevices view (step_one g x so_far k) (k (record so_far { reads = so_far.reads + 1; sum = (so_far.sum + first) % 2 ^ 64 })) old new
        read_done contents first is takes k =
            subst (λ (byte : ℕ). ExecutesOnDevices view (step_one g x so_far k)
            (k (record so_far { reads = so_far.reads + 1; sum = (so_far.sum + byte) % 2 ^ 64 })) old new) (sym is)
            (step_done g.n (ReadBlock (choice_of x % block_count g)) (behind_read k) _ (reads_one g x so_far k some few) contents
            (subst (λ (n : ℕ). Takes view (ReadBlock (choice_of x % n)) (Ok contents) old new) has takes))

        pub read_refused : (slots : ℕ) → slots ≡ g.n → (fault : ArrayFault)
            → Takes view (ReadBlock (choice_of x % blocks)) (Err (refusal_for fault)) old new → (k : Exercised → Program)
            → ExecutesOnDevices view (step_one g x so_far k) (Over (status_of_refusal slots (refusal_for fault))) old new
        read_refused slots same fault takes k =
            step_refused g.n (ReadBlock (choice_of x % block_count g)) (behind_read k) _ (reads_one g x so_far k some few) (refusal_for fault)
            slots same (subst (λ (n : ℕ). Takes view (ReadBlock (choice_of x % n)) (Err (refusal_for fault)) old new) has takes)

      module _ (many : 4 ≤ kind_of x) where
        abbrev written : List (List ℕ)
        written = replicate SECTOR (choice_of x % 251) ∷ []

        pub write_done : (contents : List (List ℕ)) → contents ≡ written → Takes view (WriteBlocks (choice_of x % blocks) contents) (Ok tt) old new
            → (k : Exercised → Program) → ExecutesOnDevices view (step_one g x so_far k) (k (record so_far { writes = so_far.writes + 1 })) old new
        write_done contents is takes k =
            step_done g.n (WriteBlocks (choice_of x % block_count g) written) (λ done. k (record so_far { writes = so_far.writes + 1 })) _
            (writes_one g x so_far k many) tt
            (subst (λ (n : ℕ). Takes view (WriteBlocks (choice_of x % n) written) (Ok tt) old new) has
            (subst (λ (bytes : List (List ℕ)). Takes view (WriteBlocks (choice_of x % blocks) bytes) (Ok tt) old new) is takes))

        pub write_refused : (contents : List (List ℕ)) → contents ≡ written → (slots : ℕ) → slots ≡ g.n → (fault : ArrayFault)
            → Takes view (WriteBlocks (choice_of x % blocks) contents) (Err (refusal_for fault)) old new → (k : Exercised → Program)
            → ExecutesOnDevices view (step_one g x so_far k) (Over (status_of_refusal slots (refusal_for fault))) old new
        write_refused contents is slots same fault takes k =
            step_refused g.n (WriteBlocks (choice_of x % block_count g) written) (λ done. k (record so_far { writes = so_far.writes + 1 })) _
            (writes_one g x so_far k many) (refusal_for fault) slots same
            (subst (λ (n : ℕ). Takes view (WriteBlocks (choice_of x % n) written) (Err (refusal_for fault)) old new) has
            (subst (λ (bytes : List (List ℕ)). Takes view (WriteBlocks (choice_of x % blocks) bytes) (Err (refusal_for fault)) old new) is takes))

-- ---- one step after the other

-- after a step by this number
abbrev exercise_on : Geometry → (left number : ℕ) → (Exercised → Program) → Exercised → Program
exercise_on g left number k later = exercises g left number later k

exercises_next : (g : Geometry) (steps done number : ℕ) (came : Exercised) (k : Exercised → Program) → done < steps
    → exercises g (steps - done) number came k ≡ step_one g (next_number number) came (exercise_on g (steps - (done + 1)) (next_number number) k)
exercises_next g steps done number came k below =
    let more : steps - done ≡ suc (steps - (done + 1)) = omega (arith, below) in
    ap (λ (left : ℕ). exercises g left number came k) more

module _ {R W : Type 0} (view : DeviceView R W) (g : Geometry) (number steps : ℕ) where
  -- So many steps were taken, up to that of this number, and came to this.
  pub record ExercisedSoFar (done reached : ℕ) (came : Exercised) (first now : Devices R W) (is : ArrayState) : Type 0 where
    pub geometry : is.member.array.geometry ≡ g
    pub stay : AllStay view.watcher now.watchers
    pub upto : done ≤ steps
    pub taken : came.reads + came.writes + came.scrubs ≡ done
    pub comes : (k : Exercised → Program)
        → ExecutesOnDevices view (exercises g steps number none_exercised k) (exercises g (steps - done) reached came k) first now

  pub none_taken : (x : Devices R W) (is : ArrayState) → is.member.array.geometry ≡ g → AllStay view.watcher x.watchers
      → ExercisedSoFar 0 number none_exercised x x is
  none_taken x is same stay = record {
    geometry = same;
    stay = stay;
    upto = omega arith;
    taken = refl;
    comes = λ k.
        let all : steps ≡ steps - 0 = omega arith in
        subst (λ (left : ℕ). ExecutesOnDevices view (exercises g steps number none_exercised k) (exercises g left number none_exercised k) x x) all
        (comes_none view (exercises g steps number none_exercised k) x);
  }

  module _ (done reached next : ℕ) (came : Exercised) (first : Devices R W) (x y : R) (is after : ArrayState) (left rest : List W)
      (so_far : ExercisedSoFar done reached came first (devices x (Opened is) left) is) (below : done < steps) (by : next ≡ next_number reached) where
    -- what the next step comes to, all come to
    then_comes : (k : Exercised → Program) (program : Program)
        → ExecutesOnDevices view (step_one is.member.array.geometry next came (exercise_on g (steps - (done + 1)) next k)) program (devices x (Opened is) left)
        (devices y (Opened after) rest)
        → ExecutesOnDevices view (exercises g steps number none_exercised k) program first (devices y (Opened after) rest)
    then_comes k program comes =
        comes_then view (so_far.comes k)
        (subst (λ (p : Program). ExecutesOnDevices view p program (devices x (Opened is) left) (devices y (Opened after) rest))
        (sym (exercises_next g steps done reached came k below))
        (subst (λ (n : ℕ). ExecutesOnDevices view (step_one g n came (exercise_on g (steps - (done + 1)) n k)) program (devices x (Opened is) left)
        (devices y (Opened after) rest)) by
        (subst (λ (of : Geometry). ExecutesOnDevices view (step_one of next came (exercise_on g (steps - (done + 1)) next k)) program (devices x (Opened is) left)
        (devices y (Opened after) rest)) so_far.geometry comes)))

    -- one more
    pub one_taken : (later : Exercised) → later.reads + later.writes + later.scrubs ≡ came.reads + came.writes + came.scrubs + 1
        → after.member.array.geometry ≡ is.member.array.geometry → AllStay view.watcher rest
        → ((k : Exercised → Program) → ExecutesOnDevices view (step_one is.member.array.geometry next came k) (k later) (devices x (Opened is) left)
        (devices y (Opened after) rest))
        → ExercisedSoFar (done + 1) next later first (devices y (Opened after) rest) after
    one_taken later one same stay comes = record {
      geometry = same ∙ so_far.geometry;
      stay = stay;
      upto = omega (arith, below);
      taken = omega (arith, one, so_far.taken);
      comes = λ k. then_comes k (exercises g (steps - (done + 1)) next later k) (comes (exercise_on g (steps - (done + 1)) next k));
    }

    -- or it was refused
    pub not_taken : (status : Status)
        → ((k : Exercised → Program) → ExecutesOnDevices view (step_one is.member.array.geometry next came k) (Over status) (devices x (Opened is) left)
        (devices y (Opened after) rest))
        → (k : Exercised → Program) → ExecutesOnDevices view (exercises g steps number none_exercised k) (Over status) first (devices y (Opened after) rest)
    not_taken status comes k = then_comes k (Over status) (comes (exercise_on g (steps - (done + 1)) next k))

  -- all were
  pub all_taken : (done reached : ℕ) (came : Exercised) (first now : Devices R W) (is : ArrayState) → ExercisedSoFar done reached came first now is
      → steps ≤ done → (k : Exercised → Program) → ExecutesOnDevices view (exercises g steps number none_exercised k) (k came) first now
  all_taken done reached came first now is so_far past k =
      let none : steps - done ≡ 0 = omega (arith, past) in
      subst (λ (left : ℕ). ExecutesOnDevices view (exercises g steps number none_exercised k) (exercises g left reached came k) first now) none (so_far.comes k)

-- ---- how many are asked for

-- after the last step
abbrev pub tells_steps : (number steps : ℕ) → Exercised → Program
tells_steps number steps came = Put (exercised_line number steps came) (Over Done)

module _ {R W : Type 0} (view : DeviceView R W) (g : Geometry) (number steps : ℕ) (x : Devices R W) where
  pub few_asked : steps ≤ most_steps → (rest : Program) (y : Devices R W)
      → ExecutesOnDevices view (exercises g steps number none_exercised (tells_steps number steps)) rest x y
      → ExecutesOnDevices view (exercise_steps number steps g) rest x y
  few_asked few rest y comes =
      subst (λ (is : Bool). ExecutesOnDevices view (if_few steps is (exercises g steps number none_exercised (tells_steps number steps))) rest x y)
      (sym (lt-ltb steps (most_steps + 1) (omega (arith, few)))) comes

  pub many_asked : most_steps < steps → ExecutesOnDevices view (exercise_steps number steps g) (Over (OutOfRange steps (most_steps + 1))) x x
  many_asked many =
      subst (λ (is : Bool). ExecutesOnDevices view (if_few steps is (exercises g steps number none_exercised (tells_steps number steps)))
      (Over (OutOfRange steps (most_steps + 1))) x x) (sym (le-ltb steps (most_steps + 1) (omega (arith, many))))
      (comes_none view (Over (OutOfRange steps (most_steps + 1))) x)
