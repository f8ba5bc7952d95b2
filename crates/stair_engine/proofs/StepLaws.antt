-- The items of `create` and of `show`, one after the other.
use Rattle.std.proofs.Common.{◌≡◌, ◌≢◌, ◌∙◌, ℕ, ◌+◌, List, [], Result, Ok, Err, take, refl, sym, ap, subst, arith, length-take}
use Rattle.std.specs.Result.{IsErrAnd}
use Rattle.stair_model.specs.Geometry.{Geometry}
use Rattle.stair_member.specs.Membership.{Membership}
use Rattle.stair_conf.specs.Config.{TextReadsAs}
use Rattle.stair_conf.specs.declared.fault.ConfigFault.{ConfigFault}
use Rattle.stair_conf.specs.declared.fault.ConfigFault.TheVariants as config
use Rattle.stair_command.specs.Action.{Create, Outcome, Survey}
use Rattle.stair_command.specs.declared.fault.Fault.{Fault}
use Rattle.stair_command.specs.declared.fault.Fault.TheVariants as fault
use Rattle.stair_status.specs.declared.status.Status.{Status}
use Rattle.stair_status.specs.declared.status.Status.TheVariants.{Done, Input, InputFault}
use Rattle.stair_command.specs.Fault.{status_of, status_of_config, status_of_fault}
use Rattle.stair_command.specs.Outside.{Outside, SinkView, Views, outside}
use Rattle.stair_command.specs.Program.{Program, Over, Ask, Put, Allocate, Do}
use Rattle.stair_engine.specs.Programs.{MAX_GEOMETRY_TEXT, create_program, created_line, making_program, show_program, showing_program}
use Rattle.stair_command.specs.Question.{Text}
use Rattle.stair_command.specs.Rack.{ExecutesOver, RackView, Works}
use Rattle.stair_command.specs.Trace.{Found, Took, TookLast, TakeFailed, Did, after}
use Rattle.stair_engine.specs.Show.{show_text}
use Rattle.stair_engine.specs.ShowSteps.{PutsFound, Shows}
use Rattle.stair_command.specs.Streams.{PutsAll}
use Rattle.stair_engine.specs.Taking.{TakesText}
use Rattle.stair_command.proofs.IntakeLaws.{are_all}
use Rattle.stair_command.proofs.RackLaws.{over_cannot_put, over_grows, over_one, over_puts, over_runs_out, over_then}

-- a fault as the answer for a text
abbrev answer_of : ConfigFault → Result Geometry ConfigFault
answer_of fault = Err fault

-- a fault as the answer of a call
abbrev fault_of : Fault → Result Status Fault
fault_of fault = Err fault

module _ {R S K : Type 0} (rack : RackView R) (view : Views S K) where
  pub text_refused : (fault : Fault) (into : List ℕ) (source source' : S) (sink : K) (n : ℕ) (x : R) → TakesText view.source (Err fault) into source source'
      → ExecutesOver rack view create_program (Over (status_of_fault fault)) (outside source sink n) (outside source' sink n) x x
  text_refused (fault.Length needed took) into source source' sink n x takes =
      let same : Over (Input MAX_GEOMETRY_TEXT (MAX_GEOMETRY_TEXT + 1)) ≡ Over (Input needed took) = λ i. Over (Input (sym takes.0 i) (sym takes.1 i)) in
      subst (λ (rest : Program). ExecutesOver rack view create_program rest (outside source sink n) (outside source' sink n) x x) same
      (over_one rack view (Took takes.2.0) create_program (Over (Input MAX_GEOMETRY_TEXT (MAX_GEOMETRY_TEXT + 1))) _ _ x x
      (are_all (MAX_GEOMETRY_TEXT + 1) takes.2.0 takes.2.1, refl) takes.2.2 refl refl refl)
  text_refused fault.Input into source source' sink n x takes =
      over_one rack view (TakeFailed takes.0) create_program (Over InputFault) _ _ x x (takes.1, refl) takes.2 refl refl refl
  text_refused _ into source source' sink n x takes = absurd takes

  -- a text was taken
  pub takes_text : (count : ℕ) (into : List ℕ) (source source' : S) (sink : K) (n : ℕ) (x : R) → TakesText view.source (Ok count) into source source'
      → ExecutesOver rack view create_program (Allocate (Ask (Text (take count into)) making_program)) (outside source sink n) (outside source' sink n) x x
  takes_text count into source source' sink n x takes =
      over_one rack view (TookLast (take count into)) create_program (Allocate (Ask (Text (take count into)) making_program)) _ _ x x
      (omega (arith, length-take count into, takes.0), refl) takes.1 refl refl refl

  -- a text says this
  pub reads_text : (text : List ℕ) (answer : Result Geometry ConfigFault) (a : Outside S K) (x : R) → TextReadsAs text answer
      → ExecutesOver rack view (Allocate (Ask (Text text) making_program)) (making_program answer) a a x x
  reads_text text answer a x reads =
      over_then rack view (over_grows rack view (Ask (Text text) making_program) a x)
      (over_one rack view (Found (Text text)) (Ask (Text text) making_program) (making_program answer) a a x x (answer, refl, reads, refl) refl refl refl refl)

  -- a text was refused, or there was no memory to read it
  pub text_faulty : (text : List ℕ) (fault : ConfigFault) (a : Outside S K) (x : R) → (answer_of fault ≢ Err config.Memory → TextReadsAs text (Err fault))
      → ExecutesOver rack view (Allocate (Ask (Text text) making_program)) (Over (status_of_config fault)) a a x x
  text_faulty text config.Memory a x reads = over_runs_out rack view (Ask (Text text) making_program) a x
  text_faulty text config.NotToml a x reads = reads_text text (Err config.NotToml) a x (reads (λ is. cc))
  text_faulty text (config.Key key) a x reads = reads_text text (Err (config.Key key)) a x (reads (λ is. cc))
  text_faulty text (config.Limit k) a x reads = reads_text text (Err (config.Limit k)) a x (reads (λ is. cc))

  -- the array was made, or refused
  pub makes : (g : Geometry) (outcome : Outcome (Create g)) (a : Outside S K) (x y : R) → Works rack (Did (Create g) outcome) x y
      → ExecutesOver rack view (making_program (Ok g)) (after (Create g) (λ done. Put (created_line g) (Over Done)) outcome) a a x y
  makes g outcome a x y works =
      over_then rack view (over_grows rack view (Do (Create g) (λ done. Put (created_line g) (Over Done))) a x)
      (over_one rack view (Did (Create g) outcome) (Do (Create g) (λ done. Put (created_line g) (Over Done)))
      (after (Create g) (λ done. Put (created_line g) (Over Done)) outcome) a a x y (outcome, refl, refl) refl refl refl works)

  -- an array was found, or none
  surveys : (found : Outcome Survey) (a : Outside S K) (x y : R) → Works rack (Did Survey found) x y
      → ExecutesOver rack view show_program (after Survey showing_program found) a a x y
  surveys found a x y works =
      over_one rack view (Did Survey found) show_program (after Survey showing_program found) a a x y (found, refl, refl) refl refl refl works

  -- what was found is put out
  puts_found : (found : Outcome Survey) (result : Result Status Fault) (source : S) (sink sink' : K) (n : ℕ) (x : R)
      → PutsFound view.sink found result sink sink'
      → ExecutesOver rack view (after Survey showing_program found) (Over (status_of result)) (outside source sink n) (outside source sink' n) x x
  puts_found (Ok member) (Ok status) source sink sink' n x puts =
      subst (λ (s : Status). ExecutesOver rack view (showing_program member) (Over s) (outside source sink n) (outside source sink' n) x x) (sym puts.1)
      (over_puts rack view (show_text member) source sink sink' n x puts.0)
  puts_found (Ok member) (Err fault) source sink sink' n x puts =
      subst (λ (f : Fault). ExecutesOver rack view (showing_program member) (Over (status_of_fault f)) (outside source sink n) (outside source sink' n) x x)
      (sym puts.1) (over_cannot_put rack view (show_text member) puts.0.0 source sink sink' n x puts.0.1 puts.0.2)
  puts_found (Err refusal) result source sink sink' n x puts = record {
    means = record {
      trace = [];
      follows = ap (λ (r : Result Status Fault). Over (status_of r)) puts.0;
      bears = record { gives = refl; holds = puts.1; counts = refl };
    };
    works = refl;
  }

  pub shows : (result : Result Status Fault) (source : S) (sink sink' : K) (n : ℕ) (x y : R) → Shows rack view.sink result x y sink sink'
      → ExecutesOver rack view show_program (Over (status_of result)) (outside source sink n) (outside source sink' n) x y
  shows result source sink sink' n x y did =
      over_then rack view (surveys did.found (outside source sink n) x y did.surveys) (puts_found did.found result source sink sink' n y did.puts)

-- ---- what the code of `show` did

-- a fault that was handed on
pub handed_on : (result : Result Status Fault) (fault : Fault) → IsErrAnd result (λ y. y ≡ fault) → result ≡ Err fault
handed_on (Ok status) fault is = absurd is
handed_on (Err y) fault is = ap (λ (f : Fault). fault_of f) is

-- a part was put out
pub puts_part : {K : Type 0} (view : SinkView K) (member : Membership) (why : Fault) (result : Result Status Fault) (old new : K)
    → PutsAll view (fault_of why) (show_text member) old new → why ≡ fault.Output → IsErrAnd result (λ y. y ≡ why)
    → PutsFound view (Ok member) result old new
puts_part view member why (Ok status) old new puts failed is = absurd is
puts_part view member why (Err y) old new puts failed is = (puts, is ∙ failed)
