-- What a call of a command on one stripe does, at every end that its program comes to.
use Rattle.std.proofs.Common.{◌≡◌, ◌≢◌, ℕ, ◌+◌, ◌<◌, ◌≤◌, Bool, true, false, List, [], ◌++◌, None, Some, IfSome, length, take, refl, sym, ap, ◌∙◌, subst, arith, length-append, append-nil}
use Rattle.std.specs.Prelude.{Option, MatchBool}
use Rattle.std.specs.Io.KnownBytes.{Appends, Consumes}
use Rattle.std.proofs.KnownBytes.{Appends-nil, Consumes-trans, Keeps-refl}
use lib.Seq.{take-append_seam}
use Rattle.std.proofs.lemmas.Option.{IfSome_then}
use Rattle.std.proofs.lemmas.List.{nil_from_length}
use Rattle.stair_model.specs.Geometry.{Geometry, IsWithinLimits}
use Rattle.stair_conf.specs.declared.job.Job.TheVariants.{OneStripe}
use Rattle.stair_status.specs.declared.status.Status.{Status}
use Rattle.stair_status.specs.declared.status.Status.TheVariants.{Done, NotCodeword, NoCodeword, Limit, Input, InputFault, OutputFault, Lost, OutOfMemory}
use Rattle.stair_conf.specs.declared.job.StripeCommand.{StripeCommand}
use Rattle.stair_engine.specs.Task.{one_stripe}
use Rattle.stair_conf.specs.declared.job.StripeCommand.TheVariants.{Check, Encode, Restore}
use Rattle.stair_command.specs.Answer.{IsAnswer, IsJudged, Judges, bytes_needed}
use Rattle.stair_engine.specs.Cause.{Answers, CountsSteps, HasCause, IfRefusedAtOnce, IsOutput, LimitsComeFirst, LooksForEnd, PutsOut, PutsPart, TakesInput}
use Rattle.stair_engine.specs.Does.{Does}
use Rattle.stair_engine.specs.Laws.{BytesAreAnswered, WordsAreDone}
use Rattle.stair_command.specs.Executes.{Counts, Gives}
use Rattle.stair_command.specs.Outside.{Outside, Views, outside}
use Rattle.stair_command.specs.Program.{Over, answer, take_exactly}
use Rattle.stair_engine.specs.Programs.{judged, program_of, stripe_program, tested_program, within_limits}
use Rattle.stair_command.specs.Question.{IsReply, Limits, Judgement}
use Rattle.stair_command.specs.Trace.{TraceItem, Found, Took, IsPart}
use Rattle.stair_command.proofs.AllEnds.{AllEnd, Nowhere, means_all}
use Rattle.stair_engine.proofs.WordLaws.{spelled_all}
use Rattle.stair_engine.proofs.AnswerLaws.{HasBytes-cells}
use Rattle.stair_engine.proofs.JobLaws.{words_tell}

-- ---- told bytes

-- a fact of every told input
if_told : (told : Option (List ℕ)) (P : List ℕ → Type 0) → ((input : List ℕ) → P input) → IfSome told P
if_told None P always = tt
if_told (Some input) P always = always input

-- after these bytes none was left
told_all : (a b : Option (List ℕ)) (bytes : List ℕ) → Consumes a b bytes → IfSome b (λ all. [] ≡ all) → IfSome a (λ input. bytes ≡ input)
told_all None b bytes consumed none = tt
told_all (Some x) None bytes consumed none = absurd consumed
told_all (Some x) (Some y) bytes consumed none = sym (consumed ∙ ap (λ (l : List ℕ). bytes ++ l) (sym none) ∙ append-nil bytes)

-- the source has at least these bytes
pub told_more : (a b : Option (List ℕ)) (bytes : List ℕ) → Consumes a b bytes → IfSome a (λ input. length bytes ≤ length input)
told_more None b bytes consumed = tt
told_more (Some x) None bytes consumed = absurd consumed
told_more (Some x) (Some y) bytes consumed = omega (arith, ap length consumed, length-append bytes y)

-- fewer than one are none
none_came : (bytes : List ℕ) → length bytes < 1 → bytes ≡ []
none_came bytes few = nil_from_length bytes (omega (arith, few))

-- a part of the output was put
PutsPart-part : (a b : Option (List ℕ)) (part all : List ℕ) → IsPart part all → Appends a b part → PutsPart a b all
PutsPart-part a b part all is puts = (
  length part,
  omega (arith, ap length is.1, length-append part is.0, is.2),
  subst (Appends a b) (sym (ap (take (length part)) is.1 ∙ take-append_seam part is.0)) puts,
)

-- ---- what each end keeps

-- only where the cells of an encoded stripe were put out is anything counted
uncounted : (command : StripeCommand) (g : Geometry) (status : Status) (n n' : ℕ) → (status ≢ Done) × (status ≢ OutputFault) → n' ≡ n
    → CountsSteps command g status n n'
uncounted Check g status n n' not same = same
uncounted Restore g status n n' not same = same
uncounted (Encode method) g Done n n' not same = absurd (not.0 refl)
uncounted (Encode method) g OutputFault n n' not same = absurd (not.1 refl)
uncounted (Encode method) g _ n n' not same = same

-- a whole input was taken, and the end was seen after it
record HasTakenAll {S K : Type 0} (view : Views S K) (command : StripeCommand) (g : Geometry) (input : List ℕ) (a : Outside S K) (source : S) : Type 0 where
  pub limits : IsWithinLimits g
  pub long : length input ≡ bytes_needed command g
  pub consumed : Consumes (view.source.left a.source) (view.source.left source) input
  pub told : IfSome (view.source.left a.source) (λ all. input ≡ all)
  pub running : view.source.ended a.source ≡ false
  pub ended : view.source.ended source ≡ true

module _ {S K : Type 0} (view : Views S K) (command : StripeCommand) (g : Geometry) (a : Outside S K) (source : S) where
  -- nothing was put out
  none_put : (status : Status) (n : ℕ) → LimitsComeFirst command g status
      → IfSome (view.source.left a.source) (λ told. HasCause command g told (view.sink.held a.sink) (view.sink.held a.sink) status)
      → TakesInput command g (view.source.left a.source) (view.source.left source) status
      → LooksForEnd command g (view.source.ended a.source) (view.source.ended source) status
      → PutsOut command g (view.sink.held a.sink) (view.sink.held a.sink) status → (status ≢ Done) × (status ≢ OutputFault) → n ≡ a.counter
      → Does view command g status a (outside source a.sink n)
  none_put status n limits cause taken looked output not same = record {
    limits = limits;
    cause = cause;
    taken = taken;
    looked = looked;
    output = output;
    steps = uncounted command g status a.counter n not same;
  }

  -- the source failed
  fault_does : (bytes : List ℕ) → IsWithinLimits g → length bytes ≤ bytes_needed command g
      → Consumes (view.source.left a.source) (view.source.left source) bytes → Does view command g InputFault a (outside source a.sink a.counter)
  fault_does bytes limits few consumed =
      none_put InputFault a.counter (limits, tt) (if_told (view.source.left a.source) _ (λ input. limits)) (bytes, few, consumed) tt
      (Keeps-refl (view.sink.held a.sink)) (λ is. cc, λ is. cc) refl

  -- what is judged of the bytes is judged of the input of the source
  judged_told : (input : List ℕ) → HasTakenAll view command g input a source → (status : Status) (output : List ℕ)
      → Judges command g input status output → IfSome (view.source.left a.source) (λ told. IsJudged command g told status output)
  judged_told input all status output is =
      IfSome_then (view.source.left a.source) all.told
      (λ told same. subst (λ (x : List ℕ). IsJudged command g x status output) same (record { limits = all.limits; whole = all.long; judged = is }))

  -- an answer with no output
  answered : (status : Status) → IfSome (view.source.left a.source) (λ told. IsAnswer command g told status [])
      → IfSome (view.source.left a.source) (λ told. Answers command g told (view.sink.held a.sink) (view.sink.held a.sink) status)
  answered status is = IfSome_then (view.source.left a.source) is (λ told fact. ([], fact, Appends-nil (view.sink.held a.sink)))

-- out of memory
short_does : {S K : Type 0} (view : Views S K) (command : StripeCommand) (g : Geometry) (a : Outside S K) → Does view command g OutOfMemory a a
short_does view command g a =
    none_put view command g a a.source OutOfMemory a.counter tt (if_told (view.source.left a.source) _ (λ input. tt))
    (Keeps-refl (view.source.left a.source)) tt (Keeps-refl (view.sink.held a.sink)) (λ is. cc, λ is. cc) refl

-- ---- along the program

-- Whatever holds at each end that does what the command does, and leaves all where it refuses at once, holds at all ends; no
-- call is made on the devices, whatever they are.
module _ {X S K : Type 0} (One : TraceItem → X → X → Type 0) (view : Views S K) (g : Geometry) (a : Outside S K) (x : X)
    (Q : Status → Outside S K → X → Type 0) where
  abbrev EachDoes : StripeCommand → Type 0
  EachDoes command = (status : Status) (b : Outside S K) → Does view command g status a b → IfRefusedAtOnce status (b ≡ a) → Q status b x

  -- all was done, or the sink failed
  done_all : (command : StripeCommand) → EachDoes command → (input : List ℕ) (source : S) → HasTakenAll view command g input a source
      → (output : List ℕ) (n : ℕ) → Judges command g input Done output → IsOutput command g output → CountsSteps command g Done a.counter n
      → CountsSteps command g OutputFault a.counter n → AllEnd One view Q (answer Done output) (outside source a.sink n) x
  done_all command each input source all output n is is_output counts counts' =
      let told = judged_told view command g a source input all Done output is in (
        λ sink holds. each Done (outside source sink n) (record {
          limits = (all.limits, tt);
          cause = IfSome_then (view.source.left a.source) told (λ bytes fact. (output, fact, holds.0));
          taken = (input, all.long, all.consumed);
          looked = (all.running, all.ended);
          output = (output, is_output, holds.0);
          steps = counts;
        }) tt,
        λ part sink in_output holds.
            let puts_part = PutsPart-part (view.sink.held a.sink) (view.sink.held sink) part output in_output holds.0 in
            each OutputFault (outside source sink n) (record {
              limits = (all.limits, tt);
              cause = IfSome_then (view.source.left a.source) told (λ bytes fact. (output, fact, puts_part));
              taken = (input, all.long, all.consumed);
              looked = (all.running, all.ended);
              output = (output, is_output, puts_part);
              steps = counts';
            }) tt,
      )

  judged_all : (command : StripeCommand) → EachDoes command → (input : List ℕ) (source : S) → HasTakenAll view command g input a source
      → (reply : Status) (output : List ℕ) (n : ℕ) → Judges command g input reply output
      → Counts (Found (Judgement command g input)) a.counter n → AllEnd One view Q (answer reply output) (outside source a.sink n) x
  judged_all Check each input source all Done output n is counts = done_all Check each input source all output n is is.2.1 counts counts
  judged_all Check each input source all (NotCodeword k) output n is counts =
      each (NotCodeword k) (outside source a.sink n)
      (none_put view Check g a source (NotCodeword k) n (all.limits, tt)
      (answered view Check g a source (NotCodeword k) (judged_told view Check g a source input all (NotCodeword k) [] (is.0, is.1, (is.2.0, refl))))
      (input, all.long, all.consumed) (all.running, all.ended) (Keeps-refl (view.sink.held a.sink)) (λ is. cc, λ is. cc) counts) tt
  judged_all Check each input source all _ output n is counts = absurd is.2
  judged_all (Encode method) each input source all Done output n is counts =
      let encoding = is.2.1 in
      done_all (Encode method) each input source all output n is
      (is.2.0, encoding.codeword, HasBytes-cells g is.2.0 encoding.of encoding.formed output (sym is.2.2)) counts counts
  judged_all (Encode method) each input source all _ output n is counts = absurd is.2
  judged_all Restore each input source all Done output n is counts =
      let holds = is.4.1.1 in
      done_all Restore each input source all output n is
      (is.4.1.0, holds.meets_equations, HasBytes-cells g is.4.1.0 holds.of holds.well_formed output (sym is.4.1.2)) counts counts
  judged_all Restore each input source all NoCodeword output n is counts =
      each NoCodeword (outside source a.sink n)
      (none_put view Restore g a source NoCodeword n (all.limits, tt)
      (answered view Restore g a source NoCodeword
      (judged_told view Restore g a source input all NoCodeword [] (is.0, is.1, is.2, is.3, (is.4.0, is.4.1, refl))))
      (input, all.long, all.consumed) (all.running, all.ended) (Keeps-refl (view.sink.held a.sink)) (λ is. cc, λ is. cc) counts) tt
  judged_all Restore each input source all (Lost stripe erased k) output n is counts =
      each (Lost stripe erased k) (outside source a.sink n)
      (none_put view Restore g a source (Lost stripe erased k) n (all.limits, tt)
      (answered view Restore g a source (Lost stripe erased k)
      (judged_told view Restore g a source input all (Lost stripe erased k) []
      (is.0, is.1, is.2, is.3, (is.4.0, is.4.1, is.4.2, is.4.3, refl))))
      (input, all.long, all.consumed) (all.running, all.ended) (Keeps-refl (view.sink.held a.sink)) (λ is. cc, λ is. cc) counts) tt
  judged_all Restore each input source all _ output n is counts = absurd is.4

  -- after the bytes that are needed
  end_all : (command : StripeCommand) → EachDoes command → (bytes : List ℕ) (mid : S) → IsWithinLimits g → length bytes ≡ bytes_needed command g
      → Gives view.source (Took bytes) a.source mid
      → AllEnd One view Q
      (take_exactly 1 (λ more. Over (Input (bytes_needed command g) (bytes_needed command g + 1))) (λ none. judged command g bytes))
      (outside mid a.sink a.counter) x
  end_all command each bytes mid limits long gives =
      let needed = bytes_needed command g in
      let left = view.source.left in (
        λ more end one gives'.
            let consumed = Consumes-trans (left a.source) (left mid) (left end) bytes more gives.0 gives'.0 in
            let in_all : length (bytes ++ more) ≡ needed + 1 = omega (arith, length-append bytes more, long, one.enough, one.within) in
            each (Input needed (needed + 1)) (outside end a.sink a.counter)
            (none_put view command g a end (Input needed (needed + 1)) a.counter (limits, tt)
            (answered view command g a end (Input needed (needed + 1))
            (IfSome_then (left a.source) (told_more (left a.source) (left end) (bytes ++ more) consumed)
            (λ input few. (limits, record { other = λ same. omega (arith, few, same, in_all); needs = refl; takes = omega (arith, few, in_all) }, refl))))
            (bytes ++ more, in_all, consumed)
            (refl, subst (λ (e : Bool). MatchBool e (needed + 1 < needed) (needed + 1 ≡ needed + 1)) (sym gives'.2) refl)
            (Keeps-refl (view.sink.held a.sink)) (λ is. cc, λ is. cc) refl) tt,
        λ none end few gives' reply n is counts.
            judged_all command each bytes end
            (record {
              limits = limits;
              long = long;
              consumed = subst (Consumes (left a.source) (left end))
                  (ap (λ (more : List ℕ). bytes ++ more) (none_came none few) ∙ append-nil bytes)
                  (Consumes-trans (left a.source) (left mid) (left end) bytes none gives.0 gives'.0);
              told = told_all (left a.source) (left mid) bytes gives.0
                  (subst (λ (more : List ℕ). IfSome (left mid) (λ all. more ≡ all)) (none_came none few) gives'.1);
              running = gives.1;
              ended = gives'.2;
            })
            reply.0 reply.1 n is counts,
        λ more end few gives'.
            each InputFault (outside end a.sink a.counter)
            (fault_does view command g a end (bytes ++ more) limits (omega (arith, length-append bytes more, long, few))
            (Consumes-trans (left a.source) (left mid) (left end) bytes more gives.0 gives'.0)) tt,
      )

  limits_all : (command : StripeCommand) → EachDoes command → (reply : Option ℕ) → IsReply (Limits g) reply
      → AllEnd One view Q (within_limits (stripe_program command g) reply) a x
  limits_all command each None limits =
      let needed = bytes_needed command g in
      let left = view.source.left in (
        (
          λ bytes mid long gives. end_all command each bytes mid limits (omega (arith, long.enough, long.within)) gives,
          λ bytes mid few gives.
              each (Input needed (length bytes)) (outside mid a.sink a.counter)
              (none_put view command g a mid (Input needed (length bytes)) a.counter (limits, tt)
              (answered view command g a mid (Input needed (length bytes))
              (IfSome_then (left a.source) gives.1
              (λ input same. (
                limits,
                record { other = λ is. omega (arith, ap length same, few, is); needs = refl; takes = omega (arith, ap length same, few) },
                refl,
              ))))
              (bytes, refl, gives.0)
              (refl, subst (λ (e : Bool). MatchBool e (length bytes < needed) (length bytes ≡ needed + 1)) (sym gives.2) few)
              (Keeps-refl (view.sink.held a.sink)) (λ is. cc, λ is. cc) refl) tt,
          λ bytes mid few gives.
              each InputFault (outside mid a.sink a.counter) (fault_does view command g a mid bytes limits (omega (arith, few)) gives.0) tt,
        ),
        each OutOfMemory a (short_does view command g a) refl,
      )
  limits_all command each (Some k) broken =
      each (Limit k) a
      (none_put view command g a a.source (Limit k) a.counter broken
      (answered view command g a a.source (Limit k) (if_told (view.source.left a.source) _ (λ input. (broken, refl))))
      (Keeps-refl (view.source.left a.source)) tt (Keeps-refl (view.sink.held a.sink)) (λ is. cc, λ is. cc) refl) refl

  pub tested_all : (command : StripeCommand) → EachDoes command → AllEnd One view Q (tested_program command g) a x
  tested_all command each reply n is same =
      subst (λ (m : ℕ). AllEnd One view Q (within_limits (stripe_program command g) reply) (outside a.source a.sink m) x) (sym same)
      (limits_all command each reply is)

-- ---- so of every call

-- without faults and lack of memory, the cause is that the status is the one for the input
status_of_cause : (command : StripeCommand) (g : Geometry) (input : List ℕ) (held held' : Option (List ℕ)) (status : Status)
    → HasCause command g input held held' status → (status ≢ InputFault) × (status ≢ OutputFault) × (status ≢ OutOfMemory)
    → Answers command g input held held' status
status_of_cause command g input held held' Done cause not = cause
status_of_cause command g input held held' (NotCodeword b) cause not = cause
status_of_cause command g input held held' NoCodeword cause not = cause
status_of_cause command g input held held' (Limit k) cause not = cause
status_of_cause command g input held held' (Input needed took) cause not = cause
status_of_cause command g input held held' (Lost stripe counts n) cause not = cause
status_of_cause command g input held held' InputFault cause not = absurd (not.0 refl)
status_of_cause command g input held held' OutputFault cause not = absurd (not.1 refl)
status_of_cause command g input held held' OutOfMemory cause not = absurd (not.2 refl)
status_of_cause command g input held held' _ cause not = absurd cause

module _ {S K : Type 0} (view : Views S K) where
  -- a command on one stripe does this
  pub words_are_done : WordsAreDone view
  words_are_done words command n m r e status a b spells means =
      let of = one_stripe n m r e in
      means_all view (λ end o x. Does view command of end a o) (program_of words) status a b means
      (spelled_all Nowhere view (λ end o x. Does view command of end a o) words a tt (OneStripe command n m r e) spells
      (short_does view command of a)
      (tested_all Nowhere view of a tt (λ end o x. Does view command of end a o) command (λ end o does refused. does)))

  pub bytes_are_answered : BytesAreAnswered view
  bytes_are_answered words command n m r e status a b spells means sound_input sound_output memory =
      let does = words_are_done words command n m r e status a b spells means in
      let left = words_tell view words status a b means in
      IfSome_then (view.source.left a.source) does.cause
      (λ bytes cause. status_of_cause command (one_stripe n m r e) bytes (view.sink.held a.sink) (view.sink.held b.sink) status cause
      (λ is. sound_input (left.input_fault is), λ is. sound_output (left.output_fault is), memory))
