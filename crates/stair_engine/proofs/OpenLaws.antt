-- What the programs of commands that open an array do by themselves.
use Rattle.std.proofs.Common.{◌≢◌, ◌+◌, ℕ, zero, suc, Bool, true, false, List, [], ◌++◌, nat_lt, Result, Ok, Err, arith, refl}
use Rattle.stair_model.specs.Geometry.{Geometry, block_count}
use Rattle.stair_array.specs.Machine.{Recover, Refusal}
use Rattle.stair_array.specs.Machine as array
use Rattle.stair_status.specs.declared.status.Status.{Status}
use Rattle.stair_status.specs.declared.status.Status.TheVariants.{Usage, OutOfMemory}
use Rattle.stair_command.specs.Ending.{AdmitsNone, AdmitsOnce, AllowsAtMost, AsksForNone, EachStep, EndsIn, IsNoFault, PutsLast, TakesNothing}
use Rattle.stair_command.specs.Program.{Program, Over, take_step, unless_refused, if_so}
use Rattle.stair_command.specs.Refused.{status_of_refusal}
use Rattle.stair_status.specs.declared.status.Status.TheVariants.{OutOfRange}
use Rattle.stair_engine.specs.Blocks.{if_in_range, is_in_range, within_range}
use Rattle.stair_command.specs.Pieces.{part_of}
use Rattle.stair_command.specs.Transfers.{reads, writes, wrote}
use Rattle.std.specs.Prelude.{max}

-- a fault, Usage and lack of memory are none of a job's own
abbrev pub IsOfJob : Status → Type 0
IsOfJob status = IsNoFault status × (status ≢ Usage)

-- nor is any of them the status of a step that was refused
pub refusal_own : (slots : ℕ) (refusal : Refusal) → IsOfJob (status_of_refusal slots refusal) × (status_of_refusal slots refusal ≢ OutOfMemory)
refusal_own slots (array.OutOfRange asked limit) = (((λ is. cc, λ is. cc), λ is. cc), λ is. cc)
refusal_own slots array.Frozen = (((λ is. cc, λ is. cc), λ is. cc), λ is. cc)
refusal_own slots (array.Lost stripe counts) = (((λ is. cc, λ is. cc), λ is. cc), λ is. cc)
refusal_own slots (array.TooFew whys) = (((λ is. cc, λ is. cc), λ is. cc), λ is. cc)
refusal_own slots array.EpochsSpent = (((λ is. cc, λ is. cc), λ is. cc), λ is. cc)
refusal_own slots (array.JournalLost sector) = (((λ is. cc, λ is. cc), λ is. cc), λ is. cc)
refusal_own slots (array.SlotBusy slot was) = (((λ is. cc, λ is. cc), λ is. cc), λ is. cc)
refusal_own slots (array.Gone slot) = (((λ is. cc, λ is. cc), λ is. cc), λ is. cc)
refusal_own slots (array.SmallDevice slot has needs) = (((λ is. cc, λ is. cc), λ is. cc), λ is. cc)
refusal_own slots (array.AlreadyArray slot) = (((λ is. cc, λ is. cc), λ is. cc), λ is. cc)

-- ---- what holds for each way that a program may end

module _ (IsSo : Program → Type 0) where
  pub unless_so : {X : Type 0} (slots : ℕ) (k : X → Bool → Program) → ((given : X) (left : Bool) → IsSo (k given left))
      → ((refusal : Refusal) → IsSo (Over (status_of_refusal slots refusal))) → (answer : Result X Refusal) (left : Bool)
      → IsSo (unless_refused slots k answer left)
  unless_so slots k done refused (Ok given) left = done given left
  unless_so slots k done refused (Err refusal) left = refused refusal

  range_so : (g : Geometry) (first count : ℕ) (program : Program) → IsSo program → IsSo (Over (OutOfRange (max first (block_count g)) (block_count g)))
      → IsSo (within_range g first count program)
  range_so g first count program inside past = by (is_in_range g first count)
    where
      by : (within : Bool) → IsSo (if_in_range g first within program)
      by true = inside
      by false = past

  pub left_so : (more end : Program) → IsSo more → IsSo end → (left : Bool) → IsSo (if_so left more end)
  left_so more end of_more of_end true = of_more
  left_so more end of_more of_end false = of_end

-- ---- the statuses by which they end

pub reads_own : (g : Geometry) (first count : ℕ) → EndsIn IsOfJob (reads g first count)
reads_own g first zero = ((λ is. cc, λ is. cc), λ is. cc)
reads_own g first (suc count) = unless_so (EndsIn IsOfJob) g.n _ (λ bytes left. reads_own g (first + 1) count) (λ refusal. (refusal_own g.n refusal).0)

wrote_own : (all : ℕ) → EndsIn IsOfJob (wrote all)
wrote_own all = (λ more. ((λ is. cc, λ is. cc), λ is. cc), λ none. ((λ is. cc, λ is. cc), λ is. cc))

pub writes_own : (g : Geometry) (first all turns done : ℕ) (held : List ℕ) → EndsIn IsOfJob (writes g first all turns done held)
writes_own g first all zero done held = wrote_own all
writes_own g first all (suc turns) done held =
    left_so (EndsIn IsOfJob) _ (wrote all) (
      λ bytes. unless_so (EndsIn IsOfJob) g.n _ (λ ok left. writes_own g first all turns _ (part_of (held ++ bytes))) (λ refusal. (refusal_own g.n refusal).0),
      λ bytes. ((λ is. cc, λ is. cc), λ is. cc),
    ) (wrote_own all) (nat_lt done all)

range_own : (g : Geometry) (first count : ℕ) (program : Program) → EndsIn IsOfJob program → EndsIn IsOfJob (within_range g first count program)
range_own g first count program own = range_so (EndsIn IsOfJob) g first count program own ((λ is. cc, λ is. cc), λ is. cc)

-- after the survey
pub read_own : (n first count : ℕ) (answer : Result Geometry Refusal) (left : Bool)
    → EndsIn IsOfJob (unless_refused n (λ g left. within_range g first count (reads g first count)) answer left)
read_own n first count =
    unless_so (EndsIn IsOfJob) n (λ g left. within_range g first count (reads g first count))
    (λ g left. range_own g first count (reads g first count) (reads_own g first count)) (λ refusal. (refusal_own n refusal).0)

pub write_own : (n first count : ℕ) (answer : Result Geometry Refusal) (left : Bool)
    → EndsIn IsOfJob (unless_refused n (λ g left. within_range g first count (writes g first count count 0 [])) answer left)
write_own n first count =
    unless_so (EndsIn IsOfJob) n (λ g left. within_range g first count (writes g first count count 0 []))
    (λ g left. range_own g first count (writes g first count count 0 []) (writes_own g first count count 0 [])) (λ refusal. (refusal_own n refusal).0)

-- ---- what is put out is put out last by `write`

writes_last : (g : Geometry) (first all turns done : ℕ) (held : List ℕ) → PutsLast (writes g first all turns done held)
writes_last g first all zero done held = (λ more. tt, λ none. refl)
writes_last g first all (suc turns) done held =
    left_so PutsLast _ (wrote all) (
      λ bytes. unless_so PutsLast g.n _ (λ ok left. writes_last g first all turns _ (part_of (held ++ bytes))) (λ refusal. tt),
      λ bytes. tt,
    ) (λ more. tt, λ none. refl) (nat_lt done all)

pub write_last : (n first count : ℕ) (answer : Result Geometry Refusal) (left : Bool)
    → PutsLast (unless_refused n (λ g left. within_range g first count (writes g first count count 0 [])) answer left)
write_last n first count =
    unless_so PutsLast n (λ g left. within_range g first count (writes g first count count 0 []))
    (λ g left. range_so PutsLast g first count (writes g first count count 0 []) (writes_last g first count count 0 []) tt) (λ refusal. tt)

-- ---- no memory is asked for once the array is opened

reads_none : (g : Geometry) (first count : ℕ) → AsksForNone (reads g first count)
reads_none g first zero = λ is. cc
reads_none g first (suc count) = unless_so AsksForNone g.n _ (λ bytes left. reads_none g (first + 1) count) (λ refusal. (refusal_own g.n refusal).1)

writes_none : (g : Geometry) (first all turns done : ℕ) (held : List ℕ) → AsksForNone (writes g first all turns done held)
writes_none g first all zero done held = (λ more is. cc, λ none is. cc)
writes_none g first all (suc turns) done held =
    left_so AsksForNone _ (wrote all) (
      λ bytes. unless_so AsksForNone g.n _ (λ ok left. writes_none g first all turns _ (part_of (held ++ bytes))) (λ refusal. (refusal_own g.n refusal).1),
      λ bytes is. cc,
    ) (λ more is. cc, λ none is. cc) (nat_lt done all)

pub read_none : (n first count : ℕ) (answer : Result Geometry Refusal) (left : Bool)
    → AsksForNone (unless_refused n (λ g left. within_range g first count (reads g first count)) answer left)
read_none n first count =
    unless_so AsksForNone n (λ g left. within_range g first count (reads g first count))
    (λ g left. range_so AsksForNone g first count (reads g first count) (reads_none g first count) (λ is. cc)) (λ refusal. (refusal_own n refusal).1)

pub write_none : (n first count : ℕ) (answer : Result Geometry Refusal) (left : Bool)
    → AsksForNone (unless_refused n (λ g left. within_range g first count (writes g first count count 0 [])) answer left)
write_none n first count =
    unless_so AsksForNone n (λ g left. within_range g first count (writes g first count count 0 []))
    (λ g left. range_so AsksForNone g first count (writes g first count count 0 []) (writes_none g first count count 0 []) (λ is. cc))
    (λ refusal. (refusal_own n refusal).1)

-- ---- steps: no medium is admitted, and the opening alone is allowed a draw

reads_admit_none : (g : Geometry) (first count : ℕ) → EachStep AdmitsNone (reads g first count)
reads_admit_none g first zero = tt
reads_admit_none g first (suc count) =
    (tt, unless_so (EachStep AdmitsNone) g.n _ (λ bytes left. reads_admit_none g (first + 1) count) (λ refusal. tt))

reads_allowed : (n : ℕ) (g : Geometry) (first count : ℕ) → AllowsAtMost n (reads g first count)
reads_allowed n g first zero = tt
reads_allowed n g first (suc count) =
    (n, omega arith, unless_so (AllowsAtMost n) g.n _ (λ bytes left. reads_allowed n g (first + 1) count) (λ refusal. tt))

writes_admit_none : (g : Geometry) (first all turns done : ℕ) (held : List ℕ) → EachStep AdmitsNone (writes g first all turns done held)
writes_admit_none g first all zero done held = (λ more. tt, λ none. tt)
writes_admit_none g first all (suc turns) done held =
    left_so (EachStep AdmitsNone) _ (wrote all) (
      λ bytes. (tt, unless_so (EachStep AdmitsNone) g.n _ (λ ok left. writes_admit_none g first all turns _ (part_of (held ++ bytes))) (λ refusal. tt)),
      λ bytes. tt,
    ) (λ more. tt, λ none. tt) (nat_lt done all)

writes_allowed : (n : ℕ) (g : Geometry) (first all turns done : ℕ) (held : List ℕ) → AllowsAtMost n (writes g first all turns done held)
writes_allowed n g first all zero done held = (λ more. tt, λ none. tt)
writes_allowed n g first all (suc turns) done held =
    left_so (AllowsAtMost n) _ (wrote all) (
      λ bytes. (n, omega arith, unless_so (AllowsAtMost n) g.n _ (λ ok left. writes_allowed n g first all turns _ (part_of (held ++ bytes))) (λ refusal. tt)),
      λ bytes. tt,
    ) (λ more. tt, λ none. tt) (nat_lt done all)

-- after the survey
pub opening_admits_none : (n : ℕ) (k : Geometry → Program) → ((g : Geometry) → EachStep AdmitsNone (k g)) → EachStep AdmitsNone (take_step n Recover k)
opening_admits_none n k none = (tt, unless_so (EachStep AdmitsNone) n (λ g left. k g) (λ g left. none g) (λ refusal. tt))

pub opening_once : (slot n : ℕ) (k : Geometry → Program) → ((g : Geometry) → AdmitsOnce slot (k g)) → AdmitsOnce slot (take_step n Recover k)
opening_once slot n k once = unless_so (AdmitsOnce slot) n (λ g left. k g) (λ g left. once g) (λ refusal. tt)

-- one draw for the opening
pub opening_allowed : (n : ℕ) (k : Geometry → Program) → ((g : Geometry) → AllowsAtMost 3 (k g)) → AllowsAtMost 4 (take_step n Recover k)
opening_allowed n k allows = (3, omega arith, unless_so (AllowsAtMost 3) n (λ g left. k g) (λ g left. allows g) (λ refusal. tt))

pub read_admits_none : (first count : ℕ) (g : Geometry) → EachStep AdmitsNone (within_range g first count (reads g first count))
read_admits_none first count g = range_so (EachStep AdmitsNone) g first count (reads g first count) (reads_admit_none g first count) tt

pub read_allowed : (n first count : ℕ) (g : Geometry) → AllowsAtMost n (within_range g first count (reads g first count))
read_allowed n first count g = range_so (AllowsAtMost n) g first count (reads g first count) (reads_allowed n g first count) tt

pub write_admits_none : (first count : ℕ) (g : Geometry) → EachStep AdmitsNone (within_range g first count (writes g first count count 0 []))
write_admits_none first count g =
    range_so (EachStep AdmitsNone) g first count (writes g first count count 0 []) (writes_admit_none g first count count 0 []) tt

pub write_allowed : (n first count : ℕ) (g : Geometry) → AllowsAtMost n (within_range g first count (writes g first count count 0 []))
write_allowed n first count g =
    range_so (AllowsAtMost n) g first count (writes g first count count 0 []) (writes_allowed n g first count count 0 []) tt

-- ---- nothing is taken by `read`

reads_untaken : (g : Geometry) (first count : ℕ) → TakesNothing (reads g first count)
reads_untaken g first zero = λ is. cc
reads_untaken g first (suc count) =
    unless_so TakesNothing g.n _ (λ bytes left. reads_untaken g (first + 1) count) (λ refusal. (refusal_own g.n refusal).0.0.0)

pub read_untaken : (n first count : ℕ) (answer : Result Geometry Refusal) (left : Bool)
    → TakesNothing (unless_refused n (λ g left. within_range g first count (reads g first count)) answer left)
read_untaken n first count =
    unless_so TakesNothing n (λ g left. within_range g first count (reads g first count))
    (λ g left. range_so TakesNothing g first count (reads g first count) (reads_untaken g first count) (λ is. cc))
    (λ refusal. (refusal_own n refusal).0.0.0)
