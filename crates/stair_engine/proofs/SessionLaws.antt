-- A session: an array is looked for, and opened.
use Rattle.std.proofs.Common.{◌≡◌, ℕ, List, Some, Ok, Err, refl, subst, sym}
use Rattle.stair_member.specs.Membership.{Membership}
use Rattle.stair_member.specs.Survey.{Surveys}
use Rattle.stair_member.specs.declared.fault.SurveyFault.{SurveyFault}
use Rattle.stair_model.specs.Geometry.{Geometry}
use Rattle.stair_invariant.specs.Session.{ArrayState}
use Rattle.stair_array.specs.Faults.{opening_refusal}
use Rattle.stair_array.specs.Machine.{EpochsSpent, JournalLost, Recover, Refusal, TooFew}
use Rattle.stair_array.specs.Promise.{Begun, Closed, Found, Opened, Phase}
use Rattle.stair_array.specs.declared.fault.RecoverFault.{RecoverFault}
use Rattle.stair_array.specs.declared.fault.RecoverFault.TheVariants as recover
use Rattle.stair_command.specs.Action.{Survey}
use Rattle.stair_command.specs.Comes.{ExecutesOnDevices}
use Rattle.stair_command.specs.Devices.{DeviceView, ExecutesWhole, ExecutesWith, devices, some_left}
use Rattle.stair_command.specs.Fault.{status_of, status_of_fault}
use Rattle.stair_command.specs.Executes.{Executes}
use Rattle.stair_command.specs.Outside.{Outside, Views, outside}
use Rattle.stair_command.specs.Program.{Program, Over, Put, Allocate, watch_step, opens_array, watches_array}
use Rattle.stair_command.specs.Rack.{told_of}
use Rattle.stair_command.specs.Refused.{status_of_refusal}
use Rattle.stair_command.specs.Steps.{Takes}
use Rattle.stair_command.specs.Trace.{Did, Grew, RanOut}
use Rattle.stair_command.specs.declared.fault.Fault.{Fault}
use Rattle.stair_command.specs.declared.fault.Fault.TheVariants as fault
use Rattle.stair_status.specs.declared.status.Status.{Status}
use Rattle.stair_status.specs.declared.status.Status.TheVariants.{Done, OutOfMemory}
use Rattle.stair_command.proofs.ComesLaws.{comes_by, comes_refused, comes_watched, comes_then, with_comes}
use Rattle.stair_command.proofs.DeviceLaws.{with_still, with_then}
use Rattle.stair_command.proofs.TakenLaws.{taken_geometry}
use Rattle.stair_engine.specs.Blocks.{BeginsSession, EndsSession, IsPast, IsUnopened, if_in_range, is_in_range, within_range}
use Rattle.std.specs.Prelude.{Bool, IfErr, IfOk, Result, true}

-- why an array that was found isn't open
pub unopened_by : {R W : Type 0} (view : DeviceView R W) (member : Membership) (why : RecoverFault) (old new : R) (watchers left : List W)
    → ((refusal : Refusal) → opening_refusal why ≡ Some refusal
    → Takes view Recover (Err refusal) (devices old (Found member) watchers) (devices new Closed left))
    → (why ≡ recover.Memory → (new ≡ old) × (left ≡ watchers)) → IsUnopened view member (fault.Opening why) old new watchers left
unopened_by view member recover.Memory old new watchers left refused memory = memory refl
unopened_by view member (recover.TooFew whys) old new watchers left refused memory = (TooFew whys, refl, refused (TooFew whys) refl)
unopened_by view member recover.EpochsSpent old new watchers left refused memory = (EpochsSpent, refl, refused EpochsSpent refl)
unopened_by view member (recover.JournalLost sector) old new watchers left refused memory =
    (JournalLost sector, refl, refused (JournalLost sector) refl)

-- what holds for an answer
pub if_ok_so : {T E : Type 0} (result : Result T E) (P Q : T → Type 0) → ((given : T) → P given → Q given) → IfOk result P → IfOk result Q
if_ok_so (Ok given) P Q so is = so given is
if_ok_so (Err fault) P Q so is = tt

pub if_err_so : {T E : Type 0} (result : Result T E) (P Q : E → Type 0) → ((fault : E) → P fault → Q fault) → IfErr result P → IfErr result Q
if_err_so (Ok given) P Q so is = tt
if_err_so (Err fault) P Q so is = so fault is

module _ {R W : Type 0} (view : DeviceView R W) (k : Geometry → Bool → Program) (x y : R) (watchers : List W) where
  -- none was found
  none_comes : (refused : SurveyFault) → Surveys (Err refused) (told_of view.rack x) (told_of view.rack y)
      → ExecutesOnDevices view (watches_array k) (Over (status_of_fault (fault.Survey refused))) (devices x Begun watchers) (devices y Closed watchers)
  none_comes refused surveys =
      comes_by view (Did Survey (Err refused)) (watches_array k) (Over (status_of_fault (fault.Survey refused))) (devices x Begun watchers)
      (devices y Closed watchers) tt (Err refused, refl, refl) (surveys, refl, refl, refl)

  -- one was
  module _ (member : Membership) (surveys : Surveys (Ok member) (told_of view.rack x) (told_of view.rack y)) where
    abbrev rest : Program
    rest = Allocate (watch_step member.array.geometry.n Recover k)

    found : ExecutesOnDevices view (watches_array k) rest (devices x Begun watchers) (devices y (Found member) watchers)
    found =
        comes_by view (Did Survey (Ok member)) (watches_array k) rest (devices x Begun watchers) (devices y (Found member) watchers) tt
        (Ok member, refl, refl) (surveys, refl, refl, refl)

    -- and there was no memory
    memory_comes : ExecutesOnDevices view (watches_array k) (Over OutOfMemory) (devices x Begun watchers) (devices y (Found member) watchers)
    memory_comes =
        comes_then view found
        (comes_by view RanOut rest (Over OutOfMemory) (devices y (Found member) watchers) (devices y (Found member) watchers) tt refl refl)

    grown : ExecutesOnDevices view (watches_array k) (watch_step member.array.geometry.n Recover k) (devices x Begun watchers) (devices y (Found member) watchers)
    grown =
        comes_then view found
        (comes_by view Grew rest (watch_step member.array.geometry.n Recover k) (devices y (Found member) watchers) (devices y (Found member) watchers)
        tt refl refl)

    module _ (z : R) (left : List W) where
      abbrev Ends : Status → Type 0
      Ends status = (session : Phase) × ExecutesOnDevices view (watches_array k) (Over status) (devices x Begun watchers) (devices z session left)

      -- or it wasn't opened
      refused_by : (refusal : Refusal) → Takes view Recover (Err refusal) (devices y (Found member) watchers) (devices z Closed left)
          → Ends (status_of_refusal member.array.geometry.n refusal)
      refused_by refusal takes = (
        Closed,
        comes_then view grown
            (comes_refused view member.array.geometry.n Recover refusal k (devices y (Found member) watchers) (devices z Closed left) takes),
      )

      same_end : (z ≡ y) × (left ≡ watchers) → Ends OutOfMemory
      same_end same = (
        Found member,
        subst (λ (r : R). ExecutesOnDevices view (watches_array k) (Over OutOfMemory) (devices x Begun watchers) (devices r (Found member) left)) (sym same.0)
            (subst (λ (ws : List W). ExecutesOnDevices view (watches_array k) (Over OutOfMemory) (devices x Begun watchers) (devices y (Found member) ws)) (sym same.1)
            memory_comes),
      )

      pub unopened_comes : (why : Fault) → IsUnopened view member why y z watchers left → Ends (status_of_fault why)
      unopened_comes fault.Memory is = same_end is
      unopened_comes (fault.Opening recover.Memory) is = same_end is
      unopened_comes (fault.Opening (recover.TooFew whys)) is =
          let same : is.0 ≡ TooFew whys = let told = is.1 in cc in
          refused_by (TooFew whys) (subst (λ (r : Refusal). Takes view Recover (Err r) (devices y (Found member) watchers) (devices z Closed left)) same is.2)
      unopened_comes (fault.Opening recover.EpochsSpent) is =
          let same : is.0 ≡ EpochsSpent = let told = is.1 in cc in
          refused_by EpochsSpent (subst (λ (r : Refusal). Takes view Recover (Err r) (devices y (Found member) watchers) (devices z Closed left)) same is.2)
      unopened_comes (fault.Opening (recover.JournalLost sector)) is =
          let same : is.0 ≡ JournalLost sector = let told = is.1 in cc in
          refused_by (JournalLost sector)
          (subst (λ (r : Refusal). Takes view Recover (Err r) (devices y (Found member) watchers) (devices z Closed left)) same is.2)
      unopened_comes _ is = absurd is

      -- it was
      pub opened_comes : (array : ArrayState)
          → Takes view Recover (Ok member.array.geometry) (devices y (Found member) watchers) (devices z (Opened array) left)
          → ExecutesOnDevices view (watches_array k) (k member.array.geometry (some_left watchers left)) (devices x Begun watchers) (devices z (Opened array) left)
      opened_comes array takes =
          comes_then view grown
          (comes_watched view member.array.geometry.n Recover member.array.geometry k (devices y (Found member) watchers) (devices z (Opened array) left)
          takes)

-- a session that was begun, or wasn't
module _ {R W : Type 0} (view : DeviceView R W) (x y : R) (watchers : List W) where
  pub not_found : (refused : SurveyFault) → Surveys (Err refused) (told_of view.rack x) (told_of view.rack y)
      → EndsSession view (fault.Survey refused) x y watchers watchers
  not_found refused surveys k = (Closed, none_comes view k x y watchers refused surveys)

  module _ (member : Membership) (surveys : Surveys (Ok member) (told_of view.rack x) (told_of view.rack y)) (z : R) (left : List W) where
    pub not_begun : (why : Fault) → IsUnopened view member why y z watchers left → EndsSession view why x z watchers left
    not_begun why is k = unopened_comes view k x y watchers member surveys z left why is

    pub begun : (array : ArrayState)
        → Takes view Recover (Ok member.array.geometry) (devices y (Found member) watchers) (devices z (Opened array) left)
        → BeginsSession view array x z watchers left
    begun array takes k =
        let same : array.member.array.geometry ≡ member.array.geometry =
        taken_geometry view Recover (Ok member.array.geometry) (devices y (Found member) watchers) (devices z (Opened array) left) member array.member
        takes refl refl in
        subst (λ (g : Geometry). ExecutesOnDevices view (watches_array k) (k g (some_left watchers left)) (devices x Begun watchers) (devices z (Opened array) left)) (sym same)
        (opened_comes view k x y watchers member surveys z left array takes)

-- ---- whole calls

-- a session that isn't begun ends the call
pub watched_ended : {R W S K : Type 0} (view : DeviceView R W) (streams : Views S K) (k : Geometry → Bool → Program) (a : Outside S K) (x z : R)
    (watchers left : List W) (why : Fault) → EndsSession view why x z watchers left
    → ExecutesWhole view streams (watches_array k) (Over (status_of_fault why)) a a x z watchers left
watched_ended view streams k a x z watchers left why ends =
    let comes = ends k in
    record {
      session = comes.0;
      with = with_comes view streams (watches_array k) (Over (status_of_fault why)) a (devices x Begun watchers) (devices z comes.0 left) comes.1;
    }

module _ {R W S K : Type 0} (view : DeviceView R W) (streams : Views S K) (k : Geometry → Program) (a : Outside S K) where
  pub ended : (x z : R) (watchers left : List W) (why : Fault) → EndsSession view why x z watchers left
      → ExecutesWhole view streams (opens_array k) (Over (status_of_fault why)) a a x z watchers left
  ended x z watchers left why ends = watched_ended view streams (λ g gone. k g) a x z watchers left why ends

  module _ (x y : R) (watchers : List W) where
    pub none_found : (refused : SurveyFault) → Surveys (Err refused) (told_of view.rack x) (told_of view.rack y)
        → ExecutesWhole view streams (opens_array k) (Over (status_of_fault (fault.Survey refused))) a a x y watchers watchers
    none_found refused surveys = ended x y watchers watchers (fault.Survey refused) (not_found view x y watchers refused surveys)

    module _ (member : Membership) (surveys : Surveys (Ok member) (told_of view.rack x) (told_of view.rack y)) where
      pub no_memory : ExecutesWhole view streams (opens_array k) (Over OutOfMemory) a a x y watchers watchers
      no_memory = ended x y watchers watchers fault.Memory (not_begun view x y watchers member surveys y watchers fault.Memory (refl, refl))

      pub not_opened : (z : R) (left : List W) (why : Fault) → IsUnopened view member why y z watchers left
          → ExecutesWhole view streams (opens_array k) (Over (status_of_fault why)) a a x z watchers left
      not_opened z left why is = ended x z watchers left why (not_begun view x y watchers member surveys z left why is)

      pub opened : (z : R) (left : List W) (array : ArrayState)
          → Takes view Recover (Ok member.array.geometry) (devices y (Found member) watchers) (devices z (Opened array) left)
          → ExecutesWith view streams (opens_array k) (k member.array.geometry) a a (devices x Begun watchers) (devices z (Opened array) left)
      opened z left array takes =
          with_comes view streams (opens_array k) (k member.array.geometry) a (devices x Begun watchers) (devices z (Opened array) left)
          (opened_comes view (λ g gone. k g) x y watchers member surveys z left array takes)

-- ---- ranges

module _ {R W S K : Type 0} (view : DeviceView R W) (streams : Views S K) (g : Geometry) (first count : ℕ) (program : Program) where
  pub inside : {from : Program} {a b : Outside S K} {x y : _} → is_in_range g first count ≡ true
      → ExecutesWith {R = R} {W = W} view streams from (within_range g first count program) a b x y → ExecutesWith view streams from program a b x y
  inside {from} {a} {b} {x} {y} within =
      subst (λ (is : Bool). ExecutesWith view streams from (if_in_range g first is program) a b x y) within

  pub past : {from : Program} {a b : Outside S K} {x y : _} (why : Fault) → IsPast g first count why
      → ExecutesWith {R = R} {W = W} view streams from (within_range g first count program) a b x y → ExecutesWith view streams from (Over (status_of_fault why)) a b x y
  past {from} {a} {b} {x} {y} why is means =
      subst (λ (f : Fault). ExecutesWith view streams from (Over (status_of_fault f)) a b x y) (sym is.1)
      (subst (λ (within : Bool). ExecutesWith view streams from (if_in_range g first within program) a b x y) is.0 means)

-- ---- commands that end with a line

module _ {R W K : Type 0} (view : DeviceView R W) (streams : Views (Unit {0}) K) (k : Geometry → Program) (x y z : R) (watchers mid left : List W)
    (array last : ArrayState) (begins : BeginsSession view array x y watchers mid) where
  -- what came after the opening ended the call
  pub ends_with : (status : Status) (sink : K) (counter : ℕ)
      → ExecutesOnDevices view (k array.member.array.geometry) (Over status) (devices y (Opened array) mid) (devices z (Opened last) left)
      → ExecutesWhole view streams (opens_array k) (Over status) (outside tt sink counter) (outside tt sink counter) x z watchers left
  ends_with status sink counter comes = record {
    session = Opened last;
    with = with_comes view streams (opens_array k) (Over status) (outside tt sink counter) (devices x Begun watchers) (devices z (Opened last) left)
        (comes_then view (begins (λ g gone. k g)) comes);
  }

  -- or it came to the line, which is put out
  pub ends_with_line : (line said : List ℕ) → said ≡ line → (result : Result Status Fault) (sink later : K)
      → ExecutesOnDevices view (k array.member.array.geometry) (Put line (Over Done)) (devices y (Opened array) mid) (devices z (Opened last) left)
      → ((counter : ℕ) → Executes streams (Put said (Over Done)) (Over (status_of result)) (outside tt sink counter) (outside tt later counter))
      → (counter : ℕ)
      → ExecutesWhole view streams (opens_array k) (Over (status_of result)) (outside tt sink counter) (outside tt later counter) x z watchers left
  ends_with_line line said same result sink later comes means counter = record {
    session = Opened last;
    with = with_then view streams
        (with_comes view streams (opens_array k) (Put line (Over Done)) (outside tt sink counter) (devices x Begun watchers) (devices z (Opened last) left)
        (comes_then view (begins (λ g gone. k g)) comes))
        (with_still view streams (Put line (Over Done)) (Over (status_of result)) (outside tt sink counter) (outside tt later counter) z (Opened last) left tt
        (subst (λ (l : List ℕ). Executes streams (Put l (Over Done)) (Over (status_of result)) (outside tt sink counter) (outside tt later counter)) same
        (means counter)));
  }
