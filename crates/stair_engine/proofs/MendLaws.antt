-- What the programs of commands that look after an array do by themselves.
use Rattle.std.proofs.Common.{◌+◌, ℕ, zero, suc, Bool, true, false, nat_lt, refl, arith}
use Rattle.stair_model.specs.Geometry.{Geometry}
use Rattle.stair_super.specs.declared.mark.Mark.{Mark}
use Rattle.stair_super.specs.declared.mark.Mark.TheVariants.{Down, Live, Rebuilding}
use Rattle.stair_command.specs.Ending.{AdmitsNone, AdmitsOnce, AllowsAtMost, AsksForNone, EachStep, EndsIn, PutsLast, TakesNothing}
use Rattle.stair_command.specs.Program.{Program, Over}
use Rattle.stair_status.specs.declared.status.Status.TheVariants.{Done, Gone, OutOfRange}
use Rattle.stair_engine.specs.Mending.{if_live, if_slot, replaces, scrubs}
use Rattle.stair_engine.proofs.OpenLaws.{IsOfJob, refusal_own, unless_so}

-- ---- the statuses by which they end

pub done_own : IsOfJob Done
done_own = ((λ is. cc, λ is. cc), λ is. cc)

gone_own : (slot : ℕ) → IsOfJob (Gone slot)
gone_own slot = ((λ is. cc, λ is. cc), λ is. cc)

pub scrubs_own : (g : Geometry) (stripe left cells : ℕ) → EndsIn IsOfJob (scrubs g stripe left cells)
scrubs_own g stripe zero cells = done_own
scrubs_own g stripe (suc left) cells =
    unless_so (EndsIn IsOfJob) g.n _ (λ count gone. scrubs_own g (stripe + 1) left (cells + count)) (λ refusal. (refusal_own g.n refusal).0)

live_own : (slot : ℕ) (mark : Mark) → EndsIn IsOfJob (if_live slot mark)
live_own slot Live = done_own
live_own slot Rebuilding = gone_own slot
live_own slot Down = gone_own slot

pub slot_so : (IsSo : Program → Type 0) (g : Geometry) (slot : ℕ) (program : Program) → IsSo program → IsSo (Over (OutOfRange slot g.n)) → (has : Bool)
    → IsSo (if_slot g slot has program)
slot_so IsSo g slot program has past true = has
slot_so IsSo g slot program has past false = past

pub replaces_own : (g : Geometry) (slot : ℕ) → EndsIn IsOfJob (if_slot g slot (nat_lt slot g.n) (replaces g slot))
replaces_own g slot =
    slot_so (EndsIn IsOfJob) g slot (replaces g slot)
    (unless_so (EndsIn IsOfJob) g.n _ (λ done gone. (
      λ steps. unless_so (EndsIn IsOfJob) g.n _ (λ seats also. live_own slot (seats slot).mark) (λ refusal. (refusal_own g.n refusal).0),
      λ refusal. (refusal_own g.n refusal).0,
    )) (λ refusal. (refusal_own g.n refusal).0)) ((λ is. cc, λ is. cc), λ is. cc) (nat_lt slot g.n)

-- ---- what is put out is put out last

pub scrubs_last : (g : Geometry) (stripe left cells : ℕ) → PutsLast (scrubs g stripe left cells)
scrubs_last g stripe zero cells = refl
scrubs_last g stripe (suc left) cells =
    unless_so PutsLast g.n _ (λ count gone. scrubs_last g (stripe + 1) left (cells + count)) (λ refusal. tt)

live_last : (slot : ℕ) (mark : Mark) → PutsLast (if_live slot mark)
live_last slot Live = refl
live_last slot Rebuilding = tt
live_last slot Down = tt

pub replaces_last : (g : Geometry) (slot : ℕ) → PutsLast (if_slot g slot (nat_lt slot g.n) (replaces g slot))
replaces_last g slot =
    slot_so PutsLast g slot (replaces g slot)
    (unless_so PutsLast g.n _ (λ done gone steps. unless_so PutsLast g.n _ (λ seats also. live_last slot (seats slot).mark) (λ refusal. tt)) (λ refusal. tt))
    tt (nat_lt slot g.n)

-- ---- no memory is asked for once the array is opened

pub scrubs_none : (g : Geometry) (stripe left cells : ℕ) → AsksForNone (scrubs g stripe left cells)
scrubs_none g stripe zero cells = λ is. cc
scrubs_none g stripe (suc left) cells =
    unless_so AsksForNone g.n _ (λ count gone. scrubs_none g (stripe + 1) left (cells + count)) (λ refusal. (refusal_own g.n refusal).1)

live_none : (slot : ℕ) (mark : Mark) → AsksForNone (if_live slot mark)
live_none slot Live = λ is. cc
live_none slot Rebuilding = λ is. cc
live_none slot Down = λ is. cc

pub replaces_none : (g : Geometry) (slot : ℕ) → AsksForNone (if_slot g slot (nat_lt slot g.n) (replaces g slot))
replaces_none g slot =
    slot_so AsksForNone g slot (replaces g slot)
    (unless_so AsksForNone g.n _
    (λ done gone steps. unless_so AsksForNone g.n _ (λ seats also. live_none slot (seats slot).mark) (λ refusal. (refusal_own g.n refusal).1))
    (λ refusal. (refusal_own g.n refusal).1)) (λ is. cc) (nat_lt slot g.n)

-- ---- nothing is taken

pub scrubs_untaken : (g : Geometry) (stripe left cells : ℕ) → TakesNothing (scrubs g stripe left cells)
scrubs_untaken g stripe zero cells = λ is. cc
scrubs_untaken g stripe (suc left) cells =
    unless_so TakesNothing g.n _ (λ count gone. scrubs_untaken g (stripe + 1) left (cells + count)) (λ refusal. (refusal_own g.n refusal).0.0.0)

live_untaken : (slot : ℕ) (mark : Mark) → TakesNothing (if_live slot mark)
live_untaken slot Live = λ is. cc
live_untaken slot Rebuilding = λ is. cc
live_untaken slot Down = λ is. cc

pub replaces_untaken : (g : Geometry) (slot : ℕ) → TakesNothing (if_slot g slot (nat_lt slot g.n) (replaces g slot))
replaces_untaken g slot =
    slot_so TakesNothing g slot (replaces g slot)
    (unless_so TakesNothing g.n _
    (λ done gone steps. unless_so TakesNothing g.n _ (λ seats also. live_untaken slot (seats slot).mark) (λ refusal. (refusal_own g.n refusal).0.0.0))
    (λ refusal. (refusal_own g.n refusal).0.0.0)) (λ is. cc) (nat_lt slot g.n)

-- ---- steps

pub scrubs_admit_none : (g : Geometry) (stripe left cells : ℕ) → EachStep AdmitsNone (scrubs g stripe left cells)
scrubs_admit_none g stripe zero cells = tt
scrubs_admit_none g stripe (suc left) cells =
    (tt, unless_so (EachStep AdmitsNone) g.n _ (λ count gone. scrubs_admit_none g (stripe + 1) left (cells + count)) (λ refusal. tt))

pub scrubs_allowed : (n : ℕ) (g : Geometry) (stripe left cells : ℕ) → AllowsAtMost n (scrubs g stripe left cells)
scrubs_allowed n g stripe zero cells = tt
scrubs_allowed n g stripe (suc left) cells =
    (n, omega arith, unless_so (AllowsAtMost n) g.n _ (λ count gone. scrubs_allowed n g (stripe + 1) left (cells + count)) (λ refusal. tt))

live_allowed : (n slot : ℕ) (mark : Mark) → AllowsAtMost n (if_live slot mark)
live_allowed n slot Live = tt
live_allowed n slot Rebuilding = tt
live_allowed n slot Down = tt

live_admits_none : (slot : ℕ) (mark : Mark) → EachStep AdmitsNone (if_live slot mark)
live_admits_none slot Live = tt
live_admits_none slot Rebuilding = tt
live_admits_none slot Down = tt

pub replaces_allowed : (g : Geometry) (slot : ℕ) → AllowsAtMost 3 (if_slot g slot (nat_lt slot g.n) (replaces g slot))
replaces_allowed g slot =
    slot_so (AllowsAtMost 3) g slot (replaces g slot) (
      0,
      omega arith,
      unless_so (AllowsAtMost 0) g.n _
          (λ done gone steps.
          (0, omega arith, unless_so (AllowsAtMost 0) g.n _ (λ seats also. live_allowed 0 slot (seats slot).mark) (λ refusal. tt)))
          (λ refusal. tt),
    ) tt (nat_lt slot g.n)

-- its own slot is replaced, once
pub replaces_once : (g : Geometry) (slot : ℕ) → AdmitsOnce slot (if_slot g slot (nat_lt slot g.n) (replaces g slot))
replaces_once g slot =
    slot_so (AdmitsOnce slot) g slot (replaces g slot) (
      refl,
      unless_so (EachStep AdmitsNone) g.n _
          (λ done gone. (tt, λ steps. (tt, unless_so (EachStep AdmitsNone) g.n _ (λ seats also. live_admits_none slot (seats slot).mark) (λ refusal. tt))))
          (λ refusal. tt),
    ) tt (nat_lt slot g.n)
