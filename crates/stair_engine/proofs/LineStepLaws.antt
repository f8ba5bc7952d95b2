-- What each line of a script does to an open array.
use Rattle.std.proofs.Common.{◌≡◌, false, length, ◌∙◌, ◌+◌, ◌-◌, ◌<◌, ◌≤◌, ℕ, suc, Bool, List, [], ◌∷◌, Result, Ok, Err, Some, ap, arith, refl, subst, sym}
use Rattle.std.proofs.lemmas.Bool.{le-ltb, lt-ltb}
use Rattle.std.specs.Prelude.{◌||◌, IfErr, IsErrAnd}
use Rattle.stair_model.specs.Geometry.{Geometry}
use Rattle.stair_invariant.specs.Session.{ArrayState}
use Rattle.stair_array.specs.Arrays.{progress_for, rebuilt_as}
use Rattle.stair_array.specs.Faults.{rebuild_refusal}
use Rattle.stair_array.specs.Machine.{Answer, GivenBy, Nothing, ReadBlock, RebuildNext, Refusal, ReplaceSlot, ScrubStripe, Step, WriteBlocks}
use Rattle.stair_array.specs.Promise.{Opened}
use Rattle.stair_array.specs.declared.fault.Progress.{Progress}
use Rattle.stair_array.specs.declared.fault.Progress.TheVariants as progress
use Rattle.stair_array.specs.declared.fault.RebuildFault.{RebuildFault}
use Rattle.stair_script.specs.declared.line.Line.{Line}
use Rattle.stair_script.specs.declared.line.Line.TheVariants.{Blank, Read, Replace, Scrub, Write}
use Rattle.stair_command.specs.Comes.{ExecutesOnDevices}
use Rattle.stair_command.specs.declared.fault.Fault.{Fault}
use Rattle.stair_command.specs.Fault.{status_of_fault}
use Rattle.stair_command.specs.Devices.{DeviceView, Devices, devices, some_left}
use Rattle.stair_command.specs.Program.{Program, Over, Put, watch_step}
use Rattle.stair_command.specs.Refused.{status_of_refusal}
use Rattle.stair_command.specs.Steps.{Takes}
use Rattle.stair_status.specs.declared.status.Status.TheVariants.{OutOfRange}
use Rattle.stair_command.proofs.ComesLaws.{comes_none, comes_refused, comes_then, comes_watched, left_either, none_left, takes_fewer}
use Rattle.stair_command.proofs.IntakeLaws.{if_err_of}
use Rattle.stair_command.proofs.TakenLaws.{taken_geometry}
use Rattle.stair_watch.specs.WatcherList.{AllStay}
use Rattle.stair_engine.specs.Mending.{if_slot}
use Rattle.stair_engine.specs.Scripts.{admitted_reply, if_nothing, if_stripe, line_program, read_reply, replies, scrubbed_reply, some_rebuilds, wrote_reply}

module _ {R W : Type 0} (view : DeviceView R W) (g : Geometry) (x y : Devices R W) where
  -- a step that is refused ends a line
  pub line_refused : (step : Step) (refusal : Refusal) (k : GivenBy step → Bool → Program) (slots : ℕ) → slots ≡ g.n → Takes view step (Err refusal) x y
      → ExecutesOnDevices view (watch_step g.n step k) (Over (status_of_refusal slots refusal)) x y
  line_refused step refusal k slots same takes =
      subst (λ (n : ℕ). ExecutesOnDevices view (watch_step g.n step k) (Over (status_of_refusal n refusal)) x y) (sym same)
      (comes_refused view g.n step refusal k x y takes)

  module _ (rest : Bool → Program) where
    abbrev Comes : Line → Program → Type 0
    Comes said program = ExecutesOnDevices view (line_program g said rest) program x y

    -- how it goes on
    abbrev on : Program
    on = rest (some_left x.watchers y.watchers)

    pub was_read : (block : ℕ) (contents reply : List ℕ) → reply ≡ read_reply block contents → Takes view (ReadBlock block) (Ok contents) x y
        → Comes (Read block) (Put reply on)
    was_read block contents reply same takes =
        subst (λ (bytes : List ℕ). Comes (Read block) (Put bytes on)) (sym same)
        (comes_watched view g.n (ReadBlock block) contents (λ given left. Put (read_reply block given) (rest left)) x y takes)

    pub was_written : (block : ℕ) (contents : List ℕ) (blocks : List (List ℕ)) → blocks ≡ contents ∷ []
        → Takes view (WriteBlocks block blocks) (Ok tt) x y → Comes (Write block contents) (Put (wrote_reply block) on)
    was_written block contents blocks same takes =
        comes_watched view g.n (WriteBlocks block (contents ∷ [])) tt (λ done left. Put (wrote_reply block) (rest left)) x y
        (subst (λ (all : List (List ℕ)). Takes view (WriteBlocks block all) (Ok tt) x y) same takes)

    pub not_written : (block : ℕ) (contents : List ℕ) (blocks : List (List ℕ)) (refusal : Refusal) (slots : ℕ) → blocks ≡ contents ∷ [] → slots ≡ g.n
        → Takes view (WriteBlocks block blocks) (Err refusal) x y → Comes (Write block contents) (Over (status_of_refusal slots refusal))
    not_written block contents blocks refusal slots same of takes =
        line_refused (WriteBlocks block (contents ∷ [])) refusal (λ done left. Put (wrote_reply block) (rest left)) slots of
        (subst (λ (all : List (List ℕ)). Takes view (WriteBlocks block all) (Err refusal) x y) same takes)

    -- a stripe that the array has, and one that it hasn't
    abbrev scrub_reply : ℕ → ℕ → Bool → Program
    scrub_reply stripe cells left = Put (scrubbed_reply stripe cells) (rest left)

    abbrev scrub_one : ℕ → Program
    scrub_one stripe = watch_step g.n (ScrubStripe stripe) (scrub_reply stripe)

    has_stripe : (stripe number : ℕ) → number ≡ stripe → stripe < g.stripes → (program : Program)
        → ExecutesOnDevices view (watch_step g.n (ScrubStripe number) (scrub_reply stripe)) program x y → Comes (Scrub stripe) program
    has_stripe stripe number same below program comes =
        subst (λ (has : Bool). ExecutesOnDevices view (if_stripe g stripe has (scrub_one stripe)) program x y) (sym (lt-ltb stripe g.stripes below))
        (subst (λ (t : ℕ). ExecutesOnDevices view (watch_step g.n (ScrubStripe t) (scrub_reply stripe)) program x y) same comes)

    pub was_scrubbed : (stripe number cells : ℕ) (reply : List ℕ) → number ≡ stripe → stripe < g.stripes → reply ≡ scrubbed_reply stripe cells
        → Takes view (ScrubStripe number) (Ok cells) x y → Comes (Scrub stripe) (Put reply on)
    was_scrubbed stripe number cells reply same below is takes =
        subst (λ (bytes : List ℕ). Comes (Scrub stripe) (Put bytes on)) (sym is)
        (has_stripe stripe number same below (Put (scrubbed_reply stripe cells) on)
        (comes_watched view g.n (ScrubStripe number) cells (scrub_reply stripe) x y takes))

    pub not_scrubbed : (stripe number : ℕ) (refusal : Refusal) (slots : ℕ) → number ≡ stripe → stripe < g.stripes → slots ≡ g.n
        → Takes view (ScrubStripe number) (Err refusal) x y → Comes (Scrub stripe) (Over (status_of_refusal slots refusal))
    not_scrubbed stripe number refusal slots same below of takes =
        has_stripe stripe number same below (Over (status_of_refusal slots refusal))
        (line_refused (ScrubStripe number) refusal (scrub_reply stripe) slots of takes)

    -- a slot that it has
    abbrev admit_reply : (slot : ℕ) → Unit {0} → Bool → Program
    admit_reply slot done left = Put (admitted_reply slot) (rest left)

    abbrev admit_one : ℕ → Program
    admit_one slot = watch_step g.n (ReplaceSlot slot) (admit_reply slot)

    has_slot : (slot number : ℕ) → number ≡ slot → slot < g.n → (program : Program)
        → ExecutesOnDevices view (watch_step g.n (ReplaceSlot number) (admit_reply slot)) program x y → Comes (Replace slot) program
    has_slot slot number same below program comes =
        subst (λ (has : Bool). ExecutesOnDevices view (if_slot g slot has (admit_one slot)) program x y) (sym (lt-ltb slot g.n below))
        (subst (λ (j : ℕ). ExecutesOnDevices view (watch_step g.n (ReplaceSlot j) (admit_reply slot)) program x y) same comes)

    pub was_admitted : (slot number : ℕ) → number ≡ slot → slot < g.n → Takes view (ReplaceSlot number) (Ok tt) x y
        → Comes (Replace slot) (Put (admitted_reply slot) on)
    was_admitted slot number same below takes =
        has_slot slot number same below (Put (admitted_reply slot) on)
        (comes_watched view g.n (ReplaceSlot number) tt (admit_reply slot) x y takes)

    pub wasnt_admitted : (slot number : ℕ) (refusal : Refusal) (slots : ℕ) → number ≡ slot → slot < g.n → slots ≡ g.n
        → Takes view (ReplaceSlot number) (Err refusal) x y → Comes (Replace slot) (Over (status_of_refusal slots refusal))
    wasnt_admitted slot number refusal slots same below of takes =
        has_slot slot number same below (Over (status_of_refusal slots refusal))
        (line_refused (ReplaceSlot number) refusal (admit_reply slot) slots of takes)

-- nothing is done for a blank line
pub was_blank : {R W : Type 0} (view : DeviceView R W) (g : Geometry) (x : Devices R W) (rest : Bool → Program)
    → ExecutesOnDevices view (line_program g Blank rest) (rest (some_left x.watchers x.watchers)) x x
was_blank view g x rest =
    subst (λ (left : Bool). ExecutesOnDevices view (line_program g Blank rest) (rest left) x x) (sym (none_left x.watchers))
    (comes_none view (line_program g Blank rest) x)

-- numbers that the array hasn't
module _ {R W : Type 0} (view : DeviceView R W) (g : Geometry) (x : Devices R W) (rest : Bool → Program) where
  pub past_stripe : (stripe limit : ℕ) → g.stripes ≤ stripe → limit ≡ g.stripes
      → ExecutesOnDevices view (line_program g (Scrub stripe) rest) (Over (OutOfRange stripe limit)) x x
  past_stripe stripe limit past same =
      subst (λ (n : ℕ). ExecutesOnDevices view (line_program g (Scrub stripe) rest) (Over (OutOfRange stripe n)) x x) (sym same)
      (subst
      (λ (has : Bool). ExecutesOnDevices view (if_stripe g stripe has (watch_step g.n (ScrubStripe stripe) (λ cells left. Put (scrubbed_reply stripe cells) (rest left))))
      (Over (OutOfRange stripe g.stripes)) x x) (sym (le-ltb stripe g.stripes past)) (comes_none view (Over (OutOfRange stripe g.stripes)) x))

  pub past_slots : (slot limit : ℕ) → g.n ≤ slot → limit ≡ g.n → ExecutesOnDevices view (line_program g (Replace slot) rest) (Over (OutOfRange slot limit)) x x
  past_slots slot limit past same =
      subst (λ (n : ℕ). ExecutesOnDevices view (line_program g (Replace slot) rest) (Over (OutOfRange slot n)) x x) (sym same)
      (subst
      (λ (has : Bool). ExecutesOnDevices view (if_slot g slot has (watch_step g.n (ReplaceSlot slot) (λ done left. Put (admitted_reply slot) (rest left))))
      (Over (OutOfRange slot g.n)) x x) (sym (le-ltb slot g.n past)) (comes_none view (Over (OutOfRange slot g.n)) x))

-- ---- so many steps of a rebuild at most

-- after a step
abbrev rebuild_on : (slots left done : ℕ) → Bool → (ℕ → Bool → Program) → GivenBy RebuildNext → Bool → Program
rebuild_on slots left done gone k given more = if_nothing (k done (gone || more)) (some_rebuilds slots left (done + 1) (gone || more) k) given

more_left : (slots steps done : ℕ) (gone : Bool) (k : ℕ → Bool → Program) → done < steps
    → some_rebuilds slots (steps - done) done gone k ≡ watch_step slots RebuildNext (rebuild_on slots (steps - (done + 1)) done gone k)
more_left slots steps done gone k below =
    let more : steps - done ≡ suc (steps - (done + 1)) = omega (arith, below) in
    ap (λ (left : ℕ). some_rebuilds slots left done gone k) more

module _ {R W : Type 0} (view : DeviceView R W) (g : Geometry) (steps : ℕ) (first : Devices R W) where
  abbrev rebuilds : (ℕ → Bool → Program) → Program
  rebuilds k = some_rebuilds g.n steps 0 false k

  -- So many were made.
  pub record RebuiltSome (done : ℕ) (now : R) (is : ArrayState) (left : List W) : Type 0 where
    pub geometry : is.member.array.geometry ≡ g
    pub stay : AllStay view.watcher left
    pub fewer : length left ≤ length first.watchers
    pub comes : (k : ℕ → Bool → Program)
        → ExecutesOnDevices view (rebuilds k) (some_rebuilds g.n (steps - done) done (some_left first.watchers left) k) first (devices now (Opened is) left)

  pub none_made : (now : R) (is : ArrayState) (left : List W) → first ≡ devices now (Opened is) left → is.member.array.geometry ≡ g
      → AllStay view.watcher left → RebuiltSome 0 now is left
  none_made now is left at same stay =
      let all : first.watchers ≡ left = ap (λ (x : Devices R W). x.watchers) at in
      let none : some_left first.watchers left ≡ false =
      subst (λ (list : List W). some_left first.watchers list ≡ false) all (none_left first.watchers) in
      record {
        geometry = same;
        stay = stay;
        fewer = omega (arith, ap length all);
        comes = λ k.
            subst (λ (end : Devices R W). ExecutesOnDevices view (rebuilds k) (some_rebuilds g.n (steps - 0) 0 (some_left first.watchers left) k) first end) at
            (subst (λ (gone : Bool). ExecutesOnDevices view (rebuilds k) (some_rebuilds g.n (steps - 0) 0 gone k) first first) (sym none)
            (subst (λ (left : ℕ). ExecutesOnDevices view (rebuilds k) (some_rebuilds g.n left 0 false k) first first) (omega arith)
            (comes_none view (rebuilds k) first)));
      }

  module _ (done : ℕ) (now next : R) (is after : ArrayState) (left rest : List W) (so_far : RebuiltSome done now is left) (below : done < steps) where
    abbrev gone : Bool
    gone = some_left first.watchers left

    at_step : (k : ℕ → Bool → Program) → ExecutesOnDevices view (rebuilds k) (watch_step g.n RebuildNext (rebuild_on g.n (steps - (done + 1)) done gone k)) first
        (devices now (Opened is) left)
    at_step k =
        subst (λ (program : Program). ExecutesOnDevices view (rebuilds k) program first (devices now (Opened is) left)) (more_left g.n steps done gone k below)
        (so_far.comes k)

    fewer_behind : (answer : Answer RebuildNext) → Takes view RebuildNext answer (devices now (Opened is) left) (devices next (Opened after) rest)
        → length rest ≤ length left
    fewer_behind answer takes = takes_fewer view RebuildNext answer (devices now (Opened is) left) (devices next (Opened after) rest) takes

    -- after it, with whether a watcher left by then
    abbrev behind : (ℕ → Bool → Program) → GivenBy RebuildNext → Bool → Program
    behind k given by_then = if_nothing (k done by_then) (some_rebuilds g.n (steps - (done + 1)) (done + 1) by_then k) given

    step_on : (came : Progress) (k : ℕ → Bool → Program)
        → Takes view RebuildNext (Ok (progress_for came)) (devices now (Opened is) left) (devices next (Opened after) rest)
        → ExecutesOnDevices view (rebuilds k) (behind k (progress_for came) (some_left first.watchers rest)) first (devices next (Opened after) rest)
    step_on came k takes =
        subst (λ (by_then : Bool). ExecutesOnDevices view (rebuilds k) (behind k (progress_for came) by_then) first (devices next (Opened after) rest))
        (left_either first.watchers left rest so_far.fewer (fewer_behind (Ok (progress_for came)) takes))
        (comes_then view (at_step k)
        (comes_watched view g.n RebuildNext (progress_for came) (rebuild_on g.n (steps - (done + 1)) done gone k) _ _ takes))

    goes_on : (came : Progress) (k : ℕ → Bool → Program) (by_then : Bool) → (came ≡ progress.Nothing → ⊥)
        → behind k (progress_for came) by_then ≡ some_rebuilds g.n (steps - (done + 1)) (done + 1) by_then k
    goes_on progress.Nothing k by_then other = absurd (other refl)
    goes_on (progress.Chunk j t) k by_then other = refl
    goes_on (progress.Promoted j) k by_then other = refl
    goes_on (progress.Dropped j) k by_then other = refl

    -- one more
    pub one_made : (came : Progress) → (came ≡ progress.Nothing → ⊥) → AllStay view.watcher rest
        → Takes view RebuildNext (Ok (progress_for came)) (devices now (Opened is) left) (devices next (Opened after) rest)
        → RebuiltSome (done + 1) next after rest
    one_made came other stay takes = record {
      geometry = taken_geometry view RebuildNext (Ok (progress_for came)) _ _ is.member after.member takes refl refl ∙ so_far.geometry;
      stay = stay;
      fewer = omega (arith, so_far.fewer, fewer_behind (Ok (progress_for came)) takes);
      comes = λ k.
          subst (λ (program : Program). ExecutesOnDevices view (rebuilds k) program first (devices next (Opened after) rest)) (goes_on came k (some_left first.watchers rest) other)
          (step_on came k takes);
    }

    -- there was nothing
    pub nothing_made : Takes view RebuildNext (Ok Nothing) (devices now (Opened is) left) (devices next (Opened after) rest)
        → (k : ℕ → Bool → Program) → ExecutesOnDevices view (rebuilds k) (k done (some_left first.watchers rest)) first (devices next (Opened after) rest)
    nothing_made takes k = step_on progress.Nothing k takes

    -- or a step was refused
    pub none_more : (fault : RebuildFault) (slots : ℕ) → slots ≡ g.n
        → Takes view RebuildNext (Err (rebuild_refusal fault)) (devices now (Opened is) left) (devices next (Opened after) rest)
        → (k : ℕ → Bool → Program) → ExecutesOnDevices view (rebuilds k) (Over (status_of_refusal slots (rebuild_refusal fault))) first
        (devices next (Opened after) rest)
    none_more fault slots same takes k =
        comes_then view (at_step k)
        (line_refused view g (devices now (Opened is) left) (devices next (Opened after) rest) RebuildNext (rebuild_refusal fault)
        (rebuild_on g.n (steps - (done + 1)) done gone k) slots same takes)

    pub same_geometry : (answer : Result Progress RebuildFault)
        → Takes view RebuildNext (rebuilt_as answer) (devices now (Opened is) left) (devices next (Opened after) rest)
        → after.member.array.geometry ≡ g
    same_geometry answer takes = taken_geometry view RebuildNext (rebuilt_as answer) _ _ is.member after.member takes refl refl ∙ so_far.geometry

  -- all were made
  pub all_made : (done : ℕ) (now : R) (is : ArrayState) (left : List W) → RebuiltSome done now is left → steps ≤ done → done ≤ steps
      → (k : ℕ → Bool → Program) → ExecutesOnDevices view (rebuilds k) (k steps (some_left first.watchers left)) first (devices now (Opened is) left)
  all_made done now is left so_far past few k =
      let none : steps - done ≡ 0 = omega (arith, past) in
      let all : done ≡ steps = omega (arith, past, few) in
      let gone = some_left first.watchers left in
      subst (λ (count : ℕ). ExecutesOnDevices view (rebuilds k) (k count gone) first (devices now (Opened is) left)) all
      (subst (λ (more : ℕ). ExecutesOnDevices view (rebuilds k) (some_rebuilds g.n more done gone k) first (devices now (Opened is) left)) none
      (so_far.comes k))

-- ---- the line that was said

module _ {R W : Type 0} (view : DeviceView R W) (g : Geometry) (x y : Devices R W) (said line : Line) (same : said ≡ line) where
  pub said_refused : {T : Type 0} (result : Result T Fault) (why : Fault) → IsErrAnd result (λ f. f ≡ why)
      → ((rest : Bool → Program) → ExecutesOnDevices view (line_program g line rest) (Over (status_of_fault why)) x y)
      → IfErr result (λ f. (rest : Bool → Program) → ExecutesOnDevices view (line_program g said rest) (Over (status_of_fault f)) x y)
  said_refused result why is comes =
      subst (λ (l : Line). IfErr result (λ f. (rest : Bool → Program) → ExecutesOnDevices view (line_program g l rest) (Over (status_of_fault f)) x y)) (sym same)
      (if_err_of result why (λ f. (rest : Bool → Program) → ExecutesOnDevices view (line_program g line rest) (Over (status_of_fault f)) x y) is comes)

  pub said_done : (reply : List ℕ) → ((rest : Bool → Program) → ExecutesOnDevices view (line_program g line rest) (Put reply (rest (some_left x.watchers y.watchers))) x y)
      → (rest : Bool → Program) → ExecutesOnDevices view (line_program g said rest) (replies (Some reply) (rest (some_left x.watchers y.watchers))) x y
  said_done reply comes rest =
      subst (λ (l : Line). ExecutesOnDevices view (line_program g l rest) (Put reply (rest (some_left x.watchers y.watchers))) x y) (sym same) (comes rest)
