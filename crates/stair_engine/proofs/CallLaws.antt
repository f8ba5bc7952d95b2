-- What follows from a call that executes the program of the words, whatever they are.
use Rattle.std.proofs.Common.{◌≡◌, ◌≢◌, ◌↔◌, ℕ, List, inl, inr, Option, None, Some, IfSome, IsTrue, Result, Ok, Err, false, true, refl, subst, ap}
use Rattle.std.specs.Prelude.{IsErr}
use Rattle.stair_model.specs.Geometry.{Geometry}
use Rattle.stair_rack.specs.Answers.{Ran}
use Rattle.stair_rack.specs.History.{Happening}
use Rattle.stair_rack.proofs.MomentLemmas.{ran_none}
use Rattle.stair_rack.proofs.StretchLemmas.{each_none}
use Rattle.stair_member.specs.Asked.{LeavesSectors}
use Rattle.stair_array.specs.Creates.{Creates}
use Rattle.stair_array.specs.declared.fault.CreateFault.{CreateFault}
use Rattle.stair_array.proofs.KeepLemmas.{arrays_kept, no_writes}
use Rattle.stair_state.proofs.OutsideLemmas.{unwritten_ran}
use Rattle.stair_conf.specs.Config.{TextReadsAs}
use Rattle.stair_conf.specs.Words.{IsSpelled, Spells}
use Rattle.stair_conf.specs.declared.fault.ConfigFault.{ConfigFault}
use Rattle.stair_conf.proofs.WordsLemmas.{spells_once}
use Rattle.stair_conf.specs.declared.job.Job.{Job}
use Rattle.stair_conf.specs.declared.job.Job.TheVariants.{OneStripe, Create, Plan, Report, Show}
use Rattle.stair_command.specs.Action.{status_of_create}
use Rattle.stair_command.specs.Action as action
use Rattle.stair_command.specs.Trace.{Did}
use Rattle.stair_engine.specs.Cause.{IfRefusedAtOnce}
use Rattle.stair_command.specs.Fault.{status_of_config}
use Rattle.stair_engine.specs.Laws.{AllIsKept, ArrayIsLeft, ArrayIsMade, ArraysAreSpared, MemoryComesFirst, RackIsLeft, ShowOnlyLooks, SourceIsLeft, UsageIsExact}
use Rattle.stair_engine.specs.Create.{IsOnceMade, MakesArray, SparesArrays}
use Rattle.stair_command.specs.Outside.{Outside, Views, outside}
use Rattle.stair_engine.specs.Programs.{costs_program, create_program, job_program, making_program, program_of, show_program, within_limits}
use Rattle.stair_command.specs.Program.{Over}
use Rattle.stair_command.specs.Rack.{ExecutesOver, RackView, Works, told_of}
use Rattle.stair_engine.specs.Task.{one_stripe}
use Rattle.stair_status.specs.declared.status.Status.{Status}
use Rattle.stair_status.specs.declared.status.Status.TheVariants.{Done, Usage, InputFault, OutputFault, OutOfMemory}
use Rattle.stair_engine.proofs.JobLaws.{config_own, create_own, job_looks, job_own, survey_own, words_first, words_no_step, words_put, words_tell, words_untaken, words_unwritten}
use Rattle.stair_engine.proofs.OpenLaws.{IsOfJob}
use Rattle.stair_engine.proofs.ReportLaws.{report_so}
use Rattle.stair_engine.specs.Jobs.{MakesCalls, MayWrite, NotSpelled, OpensArray}
use Rattle.stair_command.specs.Devices.{DeviceView, ExecutesWhole}
use Rattle.stair_command.proofs.DeviceLaws.{over_rack}
use Rattle.stair_engine.proofs.MeaningLaws.{tested_all}
use Rattle.stair_engine.proofs.StandLaws.{looked_stands, still_stands}
use Rattle.stair_engine.proofs.WordLaws.{over_spelled, over_words, words_all}
use Rattle.stair_command.proofs.AllEnds.{AllEnd, Nowhere, ends_all, means_all}
use Rattle.stair_command.proofs.EndingLaws.{none_taken, short_first, weaker}
use Rattle.stair_command.proofs.LookLaws.{looks_all, short_unwritten}

-- ---- how `create` ends where it made nothing

never : {status : Status} → status ≢ Done → status ≢ OutputFault → ¬ IsOnceMade status
never not_done not_fault (inl done) = not_done done
never not_done not_fault (inr fault) = not_fault fault

config_never : (fault : ConfigFault) → ¬ IsOnceMade (status_of_config fault)
config_never fault = let own = config_own fault in never own.1 own.0.0.1

create_never : (fault : CreateFault) → ¬ IsOnceMade (status_of_create fault)
create_never fault = let own = create_own fault in never own.1 own.0.0.1

-- where no call was made on a rack all is as it was
pub still_spared : (status : Status) (h : List Happening) → ¬ IsOnceMade status → SparesArrays status h h
still_spared status h not_made array before returned tolerated =
    record { none = not_made; unwritten = each_none h; stands = still_stands h }

-- what was taken is all that a source told
all_told : (told : Option (List ℕ)) (text : List ℕ) (g : Geometry) → IfSome told (λ all. text ≡ all) → TextReadsAs text (Ok g)
    → IfSome told (λ all. TextReadsAs all (Ok g))
all_told None text g same reads = tt
all_told (Some all) text g same reads = subst (λ (t : List ℕ). TextReadsAs t (Ok g)) same reads

-- ---- every end of a job

-- the status is Usage where the words spell no job, and only there
abbrev IsExact : List (List ℕ) → Status → Type 0
IsExact words end = end ≢ OutOfMemory → ((end ≡ Usage) ↔ (IsSpelled words → ⊥)) × (end ≢ Usage → IsSpelled words)

other_than : (words : List (List ℕ)) → IsSpelled words → (end : Status) → end ≢ Usage → IsExact words end
other_than words spelled end not memory = ((λ is. absurd (not is), λ none. absurd (none spelled)), λ other. spelled)

module _ {S K : Type 0} (view : Views S K) where
  exact_all : (words : List (List ℕ)) (job : Job) (a : Outside S K) → IsSpelled words
      → AllEnd Nowhere view (λ end o z. IsExact words end) (job_program job) a tt
  exact_all words job a spelled =
      ends_all Nowhere view (IsExact words) (other_than words spelled InputFault (λ is. cc)) (other_than words spelled OutputFault (λ is. cc))
      (λ memory. absurd (memory refl)) (job_program job) a tt
      (weaker IsOfJob (IsExact words) (λ end is. other_than words spelled end is.1) (job_program job) (job_own job))

module _ {R S K : Type 0} (rack : RackView R) (view : Views S K) (a : Outside S K) (x : R) where
  -- no call was made, and what was refused at once left all
  abbrev Left : Status → Outside S K → R → Type 0
  Left end o z = (z ≡ x) × IfRefusedAtOnce end (o ≡ a)

  left_all : (job : Job) → ¬ MakesCalls job → AllEnd (Works rack) view Left (job_program job) a x
  left_all (OneStripe command n m r e) other =
      tested_all (Works rack) view (one_stripe n m r e) a x Left command (λ end o does refused. (refl, refused))
  left_all Report other = report_so (λ program. (o : Outside S K) → AllEnd (Works rack) view Left program o x) (record {
    long = λ o. (refl, tt);
    bad = λ number o. (refl, tt);
    over = λ events o. (λ s holds. (refl, tt), λ part s is holds. (refl, tt));
    asks = λ bytes k behind o reply n is counts. behind reply (outside o.source o.sink n);
    takes = λ k short behind end o. (
      λ bytes s enough gives. behind bytes (outside s o.sink o.counter),
      λ bytes s few gives. end bytes (outside s o.sink o.counter),
      λ bytes s few gives. (refl, tt),
    );
  }) a
  left_all (Plan n m r e) other = λ reply k is same. costs_left (one_stripe n m r e) reply k same
    where
      costs_left : (g : Geometry) (reply : Option ℕ) (k : ℕ) → k ≡ a.counter
          → AllEnd (Works rack) view Left (within_limits (costs_program g) reply) (outside a.source a.sink k) x
      costs_left g None k same = (
        λ costs n is again. (λ sink holds. (refl, tt), λ part sink is holds. (refl, tt)),
        (refl, ap (λ (c : ℕ). outside a.source a.sink c) same),
      )
      costs_left g (Some limit) k same = (refl, ap (λ (c : ℕ). outside a.source a.sink c) same)
  left_all _ other = absurd (other tt)

  -- the source and the counter are left, and the source can't fail the call
  abbrev Untaken : Status → Outside S K → R → Type 0
  Untaken end o z = (end ≢ InputFault) × (o.source ≡ a.source) × (o.counter ≡ a.counter)

  untaken_all : AllEnd (Works rack) view Untaken show_program a x
  untaken_all = (
    λ member z did. (λ sink holds. ((λ is. cc), refl, refl), λ part sink is holds. ((λ is. cc), refl, refl)),
    λ fault z did. ((survey_own fault).0.0.0, refl, refl),
  )

  -- what `create` made, and the arrays that it spared
  abbrev Owes : Status → R → Type 0
  Owes end z = (IsOnceMade end → MakesArray (view.source.left a.source) (rack.history x) (rack.history z))
      × SparesArrays end (rack.history x) (rack.history z)

  not_begun : (end : Status) → ¬ IsOnceMade end → Owes end x
  not_begun end not = (λ once. absurd (not once), still_spared end (rack.history x) not)

  module _ (honest : IsTrue rack.honest) where
    -- where an array is within tolerance `create` is refused
    call_spared : (g : Geometry) (answer : Result (Unit {0}) CreateFault) (end : Status) (z : R) → Works rack (Did (action.Create g) answer) x z
        → (IsErr answer → ¬ IsOnceMade end) → SparesArrays end (rack.history x) (rack.history z)
    call_spared g answer end z did refused array before returned tolerated =
        let creates : Creates g answer (told_of rack x) (told_of rack z) = did in
        let kept = arrays_kept array g answer before (told_of rack x) (told_of rack z) honest creates returned tolerated in
        record {
          none = refused kept.0;
          unwritten = kept.1;
          stands = looked_stands (rack.history x) (rack.history z) (no_writes (creates.ran honest) kept.1);
        }

    making_owes : (text : List ℕ) (reply : Result Geometry ConfigFault) (o : Outside S K) → IfSome (view.source.left a.source) (λ all. text ≡ all)
        → TextReadsAs text reply → AllEnd (Works rack) view (λ end p z. Owes end z) (making_program reply) o x
    making_owes text (Ok g) o told reads = (
      (
        λ done z did.
            let made : (end : Status) → Owes end z = λ end. (
              λ once. record { geometry = g; said = all_told (view.source.left a.source) text g told reads; made = did.made honest },
              call_spared g (Ok tt) end z did (λ (refused : false ≡ true). absurd cc),
            ) in
            (λ sink holds. made Done, λ part sink is holds. made OutputFault),
        λ fault z did. (
          λ once. absurd (create_never fault once),
          call_spared g (Err fault) (status_of_create fault) z did (λ refused. create_never fault),
        ),
      ),
      not_begun OutOfMemory (never (λ is. cc) (λ is. cc)),
    )
    making_owes text (Err fault) o told reads = not_begun (status_of_config fault) (config_never fault)

    create_owes : AllEnd (Works rack) view (λ end o z. Owes end z) create_program a x
    create_owes = (
      λ bytes source long gives. not_begun _ (never (λ is. cc) (λ is. cc)),
      λ text source few gives. (
        λ reply n reads counts. making_owes text reply (outside source a.sink n) gives.1 reads,
        not_begun OutOfMemory (never (λ is. cc) (λ is. cc)),
      ),
      λ bytes source few gives. not_begun InputFault (never (λ is. cc) (λ is. cc)),
    )

-- ---- so of every call

pub all_is_kept : (S K : Type 0) → AllIsKept S K
all_is_kept S K view words status a b means = (words_tell view words status a b means, words_put view words status a b means)

pub usage_is_exact : (S K : Type 0) → UsageIsExact S K
usage_is_exact S K view words status a b means =
    means_all view (λ end o z. IsExact words end) (program_of words) status a b means
    (words_all Nowhere view (λ end o z. IsExact words end) words a tt (λ memory. absurd (memory refl))
    (λ not memory. ((λ is. not, λ none. refl), λ other. absurd (other refl))) (λ job spells. exact_all view words job a (job, spells)))

-- what doesn't open an array is over a rack alone
only : (IsSo : Job → Type 0) (words : List (List ℕ)) (of : Job) → Spells words of → ¬ IsSo of → NotSpelled IsSo words
only IsSo words of spells not job also so = not (subst IsSo (spells_once words job of also spells) so)

module _ {R W S K : Type 0} (devices : DeviceView R W) (view : Views S K) where
  pub stepless : (words : List (List ℕ)) (status : Status) (a b : Outside S K) (x y : R) (watchers left : List W)
      → ExecutesWhole devices view (program_of words) (Over status) a b x y watchers left → NotSpelled OpensArray words
      → ExecutesOver devices.rack view (program_of words) (Over status) a b x y
  stepless words status a b x y watchers left whole other =
      over_rack devices view (program_of words) (Over status) a b _ _ (words_no_step words other) whole.with

module _ {R S K : Type 0} (rack : RackView R) (view : Views S K) where
  left_over : (words : List (List ℕ)) (status : Status) (a b : Outside S K) (x y : R) → ExecutesOver rack view (program_of words) (Over status) a b x y
      → NotSpelled MakesCalls words → (y ≡ x) × IfRefusedAtOnce status (b ≡ a)
  left_over words status a b x y over other =
      over_words rack view (Left rack view a x) words status a b x y over (refl, refl) (λ not. (refl, refl))
      (λ job spells. left_all rack view a x job (other job spells))

  -- what writes nothing only looks
  no_sector_changed : (words : List (List ℕ)) (status : Status) (a b : Outside S K) (x y : R)
      → ExecutesOver rack view (program_of words) (Over status) a b x y → NotSpelled MayWrite words → IsTrue rack.honest
      → Ran LeavesSectors (rack.history x) (rack.history y)
  no_sector_changed words status a b x y over other honest =
      over_words rack view (λ end o z. Ran LeavesSectors (rack.history x) (rack.history z)) words status a b x y over (ran_none (rack.history x))
      (λ not. ran_none (rack.history x))
      (λ job spells. looks_all rack view honest x (job_program job) a x (job_looks job (other job spells)) (ran_none (rack.history x)))

  looked_over : (words : List (List ℕ)) (status : Status) (a b : Outside S K) (x y : R) → ExecutesOver rack view (program_of words) (Over status) a b x y
      → Spells words Show → (status ≢ InputFault) × (b.source ≡ a.source) × (b.counter ≡ a.counter)
      × (IsTrue rack.honest → Ran LeavesSectors (rack.history x) (rack.history y))
  looked_over words status a b x y over spells =
      let untaken = over_spelled rack view (Untaken rack view a x) words status a b x y over Show spells ((λ is. cc), refl, refl)
      (untaken_all rack view a x) in
      (untaken.0, untaken.1, untaken.2, no_sector_changed words status a b x y over (only MayWrite words Show spells (λ no. no)))

  created : (words : List (List ℕ)) (status : Status) (a b : Outside S K) (x y : R) → ExecutesOver rack view (program_of words) (Over status) a b x y
      → Spells words Create → IsTrue rack.honest → Owes rack view a x status y
  created words status a b x y over spells honest =
      over_spelled rack view (λ end o z. Owes rack view a x end z) words status a b x y over Create spells
      (not_begun rack view a x OutOfMemory (never (λ is. cc) (λ is. cc))) (create_owes rack view a x honest)

pub none_opened : (words : List (List ℕ)) (of : Job) → Spells words of → ¬ OpensArray of → NotSpelled OpensArray words
none_opened words of spells not = only OpensArray words of spells not

opens_calls : (job : Job) → OpensArray job → MakesCalls job
opens_calls (OneStripe command n m r e) opens = absurd opens
opens_calls Report opens = absurd opens
opens_calls (Plan n m r e) opens = absurd opens
opens_calls _ opens = tt

opens_writes : (job : Job) → OpensArray job → MayWrite job
opens_writes (OneStripe command n m r e) opens = absurd opens
opens_writes Show opens = absurd opens
opens_writes Report opens = absurd opens
opens_writes (Plan n m r e) opens = absurd opens
opens_writes _ opens = tt

pub rack_is_left : (R W S K : Type 0) → RackIsLeft R W S K
rack_is_left R W S K devices view words status a b x y watchers left whole other =
    left_over devices.rack view words status a b x y
    (stepless devices view words status a b x y watchers left whole (λ job spells opens. other job spells (opens_calls job opens))) other

pub show_only_looks : (R W S K : Type 0) → ShowOnlyLooks R W S K
show_only_looks R W S K devices view words status a b x y watchers left whole spells =
    looked_over devices.rack view words status a b x y
    (stepless devices view words status a b x y watchers left whole (none_opened words Show spells (λ no. no))) spells

pub source_is_left : (S K : Type 0) → SourceIsLeft S K
source_is_left S K view words status a b other means =
    none_taken view.source means.trace (program_of words) status a.source b.source (words_untaken words other) means.follows means.bears.gives

pub array_is_left : (R W S K : Type 0) → ArrayIsLeft R W S K
array_is_left R W S K devices view words status a b x y watchers left whole other honest =
    looked_stands (devices.rack.history x) (devices.rack.history y)
    (unwritten_ran
    (no_sector_changed devices.rack view words status a b x y
    (stepless devices view words status a b x y watchers left whole (λ job spells opens. other job spells (opens_writes job opens))) other honest))

pub memory_comes_first : (R W S K : Type 0) → MemoryComesFirst R W S K
memory_comes_first R W S K devices view words a b x y watchers left whole = (
  λ honest. short_unwritten devices honest whole.with.means.trace (program_of words) _ _ (words_unwritten words) whole.with.means.follows whole.with.works,
  λ other.
      let over = stepless devices view words OutOfMemory a b x y watchers left whole other in
      short_first devices.rack over.means.trace (program_of words) x y (words_first words other) over.means.follows over.works,
)

-- what `create` made and spared
owes_whole : {R W S K : Type 0} (devices : DeviceView R W) (view : Views S K) (words : List (List ℕ)) (status : Status) (a b : Outside S K) (x y : R)
    (watchers left : List W) → ExecutesWhole devices view (program_of words) (Over status) a b x y watchers left → Spells words Create
    → IsTrue devices.rack.honest → Owes devices.rack view a x status y
owes_whole devices view words status a b x y watchers left whole spells honest =
    created devices.rack view words status a b x y
    (stepless devices view words status a b x y watchers left whole (none_opened words Create spells (λ no. no))) spells honest

pub array_is_made : (R W S K : Type 0) → ArrayIsMade R W S K
array_is_made R W S K devices view words status a b x y watchers left whole spells honest =
    (owes_whole devices view words status a b x y watchers left whole spells honest).0

pub arrays_are_spared : (R W S K : Type 0) → ArraysAreSpared R W S K
arrays_are_spared R W S K devices view words status a b x y watchers left whole spells honest =
    (owes_whole devices view words status a b x y watchers left whole spells honest).1
