-- Requests, in order.
use Rattle.std.proofs.Common.{◌≡◌, ◌∙◌, ap₂, ◌==◌, ◌+◌, ◌++◌, ◌<◌, ◌≤◌, ℕ, zero, suc, Bool, true, false, List, Option, None, Some, Result, Ok, Err, refl, sym, ap, subst, arith}
use Rattle.std.specs.Prelude.{nat_le}
use Rattle.std.specs.Result.{IsErrAnd}
use Rattle.std.proofs.lemmas.Bool.{le-leb, lt-leb}
use Rattle.stair_model.specs.Geometry.{Geometry}
use Rattle.stair_invariant.specs.Session.{ArrayState}
use Rattle.stair_array.specs.Promise.{Opened}
use Rattle.stair_watch.specs.WatcherList.{AllStay}
use Rattle.stair_command.specs.Comes.{ExecutesOnDevices}
use Rattle.stair_command.specs.Devices.{DeviceView, Devices, ExecutesWith, devices}
use Rattle.stair_command.specs.Outside.{Outside, Views, outside}
use Rattle.stair_command.specs.Program.{Program, Over, Put, if_so}
use Rattle.stair_command.specs.Talks.{PutsTo, TakesTo, TalksTo}
use Rattle.stair_command.proofs.ComesLaws.{with_comes}
use Rattle.stair_command.proofs.DeviceLaws.{with_none, with_then}
use Rattle.stair_command.proofs.TalkLaws.{talks_put, talks_taken, with_talk}
use Rattle.stair_status.specs.declared.status.Status.{Status}
use Rattle.stair_status.specs.declared.status.Status.TheVariants.{BadMessage, Done}
use Rattle.stair_nbd.specs.declared.fault.NbdFault.{NbdFault}
use Rattle.stair_nbd.specs.declared.place.MessagePosition.{MessagePosition}
use Rattle.stair_nbd.specs.declared.reply.Reply.{Reply}
use Rattle.stair_nbd.specs.declared.wire.Request.{Request}
use Rattle.stair_nbd.specs.Client.{Comes, SESSION_LIMIT, answers, client_program, if_message, is_disconnect, replies, requests, responds, shakes_hands, size_of, status_of, status_of_nbd, takes_header, too_late}
use Rattle.stair_nbd.specs.Sessions.{after_options, IsKept, IsPlace, TakesData, data_of}
use Rattle.stair_nbd.specs.Wire.{REQUEST_LENGTH, data_length, read_request, simple_reply}

-- ---- one thing after the other

module _ {R W S K : Type 0} (view : DeviceView R W) (streams : Views S K) (program : Program) (from : S) (empty : K) (start : Devices R W) where
  -- so much was done, and this is left
  abbrev pub Did : Program → S → K → Devices R W → Type 0
  Did rest source sink now = (counter : ℕ) → ExecutesWith view streams program rest (outside from empty counter) (outside source sink counter) start now

  pub did_none : Did program from empty start
  did_none counter = with_none view streams program (outside from empty counter) start

  pub did_take : {mid rest : Program} {a b : S} (k : K) (x : Devices R W) → Did mid a k x → TakesTo streams.source mid rest a b → Did rest b k x
  did_take k x did takes counter = with_then view streams (did counter) (with_talk streams view (talks_taken streams takes k) counter x)

  pub did_come : {mid rest : Program} {x y : Devices R W} (a : S) (k : K) → Did mid a k x → ExecutesOnDevices view mid rest x y → Did rest a k y
  did_come {mid} {rest} {x} {y} a k did comes counter =
      with_then view streams (did counter) (with_comes view streams mid rest (outside a k counter) x y comes)

  pub did_put : {mid rest : Program} {k l : K} (a : S) (x : Devices R W) → Did mid a k x → PutsTo streams.sink mid rest k l → Did rest a l x
  did_put a x did puts counter = with_then view streams (did counter) (with_talk streams view (talks_put streams puts a) counter x)

  pub did_talk : {mid rest : Program} {a b : S} {k l : K} (x : Devices R W) → Did mid a k x → TalksTo streams mid rest a b k l → Did rest b l x
  did_talk x did talks counter = with_then view streams (did counter) (with_talk streams view talks counter x)

  pub did_so : {rest other : Program} (a : S) (k : K) (x : Devices R W) → rest ≡ other → Did rest a k x → Did other a k x
  did_so a k x same did = subst (λ (p : Program). Did p a k x) same did

  -- a fault that was handed on
  pub did_fail : (a : S) (k : K) (x : Devices R W) (result : Result (Unit {0}) NbdFault) (why : NbdFault) → IsErrAnd result (λ f. f ≡ why)
      → Did (Over (status_of_nbd why)) a k x → Did (Over (status_of result)) a k x
  did_fail a k x (Ok done) why is did = absurd is
  did_fail a k x (Err other) why is did = subst (λ (f : NbdFault). Did (Over (status_of_nbd f)) a k x) (sym is) did

-- ---- a message

-- the program after the bytes of a header
abbrev pub heard : Geometry → (turns number taken : ℕ) → List ℕ → Program
heard g turns number taken header = if_message number
    (λ q. if_so (is_disconnect q.command) (Over Done) (answers g q (requests g turns (number + 1) (taken + REQUEST_LENGTH + data_length q))))
    (read_request header)

-- a message that doesn't come too late leaves a turn fewer
pub early_heard : (g : Geometry) (turns number taken : ℕ) → SESSION_LIMIT ≤ turns + taken → taken < SESSION_LIMIT
    → (fewer : ℕ) × (turns ≡ suc fewer) × (requests g turns number taken ≡ takes_header REQUEST_LENGTH (heard g fewer number taken))
early_heard g zero number taken room early = absurd (omega (arith, room, early))
early_heard g (suc fewer) number taken room early = (
  fewer,
  refl,
  ap (λ (late : Bool). if_so late (too_late number) (takes_header REQUEST_LENGTH (heard g fewer number taken))) (lt-leb SESSION_LIMIT taken early),
)

pub late_heard : (g : Geometry) (turns number taken : ℕ) → SESSION_LIMIT ≤ taken → requests g turns number taken ≡ too_late number
late_heard g zero number taken late = refl
late_heard g (suc fewer) number taken late =
    ap (λ (is : Bool). if_so is (too_late number) (takes_header REQUEST_LENGTH (heard g fewer number taken))) (le-leb SESSION_LIMIT taken late)

-- ---- so many were answered

pub record Answered {R W S K : Type 0} (view : DeviceView R W) (streams : Views S K) (g : Geometry) (first : MessagePosition) (rack : R) (array : ArrayState)
    (watchers : List W) (input : S) (output : K) (place : MessagePosition) (now : R) (is : ArrayState) (left : List W) (source : S) (sink : K) : Type 0 where
  pub turns : ℕ
  pub room : SESSION_LIMIT ≤ turns + place.taken
  pub place_is : IsPlace place
  pub geometry : is.member.array.geometry ≡ g
  pub did : Did view streams (requests g SESSION_LIMIT first.number first.taken) input output (devices rack (Opened array) watchers)
      (requests g turns place.number place.taken) source sink (devices now (Opened is) left)
  pub stay : AllStay view.watcher left

-- none was yet
pub answered_none : {R W S K : Type 0} (view : DeviceView R W) (streams : Views S K) (first : MessagePosition) (rack : R) (array : ArrayState) (watchers : List W)
    (input : S) (output : K) → IsPlace first → AllStay view.watcher watchers
    → Answered view streams array.member.array.geometry first rack array watchers input output first rack array watchers input output
answered_none view streams first rack array watchers input output is stay = record {
  turns = SESSION_LIMIT;
  room = omega arith;
  place_is = is;
  geometry = refl;
  did = did_none view streams (requests array.member.array.geometry SESSION_LIMIT first.number first.taken) input output
      (devices rack (Opened array) watchers);
  stay = stay;
}

module _ {R W S K : Type 0} {view : DeviceView R W} {streams : Views S K} {g : Geometry} {first : MessagePosition} {rack : R} {array : ArrayState} {watchers : List W}
    {input : S} {output : K} {place : MessagePosition} {now : R} {is : ArrayState} {left : List W} {source : S} {sink : K}
    (so_far : Answered view streams g first rack array watchers input output place now is left source sink) where
  abbrev start : Devices R W
  start = devices rack (Opened array) watchers

  abbrev here : Devices R W
  here = devices now (Opened is) left

  abbrev DidTo : Program → S → K → Devices R W → Type 0
  DidTo = Did view streams (requests g SESSION_LIMIT first.number first.taken) input output start

  -- no request may begin any more
  pub ends_late : SESSION_LIMIT ≤ place.taken → (b : S) (status : Status) → TakesTo streams.source (too_late place.number) (Over status) source b
      → DidTo (Over status) b sink here
  ends_late late b status takes =
      did_take view streams _ input output start sink here
      (did_so view streams _ input output start source sink here (late_heard g so_far.turns place.number place.taken late) so_far.did) takes

  module _ (early : place.taken < SESSION_LIMIT) where
    hears : (fewer : ℕ) × (so_far.turns ≡ suc fewer)
        × (requests g so_far.turns place.number place.taken ≡ takes_header REQUEST_LENGTH (heard g fewer place.number place.taken))
    hears = early_heard g so_far.turns place.number place.taken so_far.room early

    abbrev on_header : List ℕ → Program
    on_header = heard g hears.0 place.number place.taken

    abbrev rest : Request → Program
    rest q = requests g hears.0 (place.number + 1) (place.taken + REQUEST_LENGTH + data_length q)

    at_header : DidTo (takes_header REQUEST_LENGTH on_header) source sink here
    at_header = did_so view streams _ input output start source sink here hears.2 so_far.did

    -- none came
    pub no_header : (b : S) (status : Status)
        → ((on : List ℕ → Program) → TakesTo streams.source (takes_header REQUEST_LENGTH on) (Over status) source b) → DidTo (Over status) b sink here
    no_header b status takes = did_take view streams _ input output start sink here at_header (takes on_header)

    module _ (b : S) (header : List ℕ) (came : (on : List ℕ → Program) → TakesTo streams.source (takes_header REQUEST_LENGTH on) (on header) source b) where
      at_message : DidTo (on_header header) b sink here
      at_message = did_take view streams _ input output start sink here at_header (came on_header)

      -- it is none of a request
      pub no_request : read_request header ≡ None → DidTo (Over (BadMessage place.number)) b sink here
      no_request none =
          did_so view streams _ input output start b sink here
          (ap (if_message place.number (λ q. if_so (is_disconnect q.command) (Over Done) (answers g q (rest q)))) none) at_message

      module _ (q : Request) (asks : read_request header ≡ Some q) where
        at_request : DidTo (if_so (is_disconnect q.command) (Over Done) (answers g q (rest q))) b sink here
        at_request =
            did_so view streams _ input output start b sink here
            (ap (if_message place.number (λ p. if_so (is_disconnect p.command) (Over Done) (answers g p (rest p)))) asks) at_message

        -- the client goes
        pub client_goes : is_disconnect q.command ≡ true → DidTo (Over Done) b sink here
        client_goes goes =
            did_so view streams _ input output start b sink here (ap (λ (over : Bool). if_so over (Over Done) (answers g q (rest q))) goes) at_request

        module _ (stays : is_disconnect q.command ≡ false) where
          at_data : DidTo (answers g q (rest q)) b sink here
          at_data =
              did_so view streams _ input output start b sink here (ap (λ (over : Bool). if_so over (Over Done) (answers g q (rest q))) stays) at_request

          abbrev on_data : List ℕ → Program
          on_data bytes = responds g q bytes (replies q (rest q)) q.command

          -- its bytes didn't come
          pub no_data : (c : S) (size : ℕ) (why : NbdFault) (buffer : List ℕ) → TakesData streams.source size q (Err why) buffer b c
              → DidTo (Over (status_of_nbd why)) c sink here
          no_data c size why buffer takes = did_take view streams _ input output start sink here at_data (takes.takes on_data)

          module _ (c : S) (size : ℕ) (same_size : size ≡ size_of g) (buffer : List ℕ) (takes : TakesData streams.source size q (Ok tt) buffer b c)
              (later : Devices R W) (reply : Reply) (after : List ℕ)
              (comes : (bytes : List ℕ) → IsKept (size_of is.member.array.geometry) q (data_length q) bytes buffer → (k : Comes)
              → ExecutesOnDevices view (responds is.member.array.geometry q bytes k q.command) (k reply.error (data_of reply after)) here later) where
            abbrev reply_bytes : List ℕ
            reply_bytes = simple_reply reply.error q.cookie ++ data_of reply after

            -- what was asked for was done
            at_reply : DidTo (Put reply_bytes (rest q)) c sink later
            at_reply =
                did_come view streams _ input output start c sink
                (did_take view streams _ input output start sink here at_data (takes.takes on_data))
                (subst (λ (of : Geometry). ExecutesOnDevices view (responds of q takes.bytes (replies q (rest q)) q.command) (Put reply_bytes (rest q)) here later)
                so_far.geometry
                (comes takes.bytes
                (subst (λ (n : ℕ). IsKept n q (data_length q) takes.bytes buffer) (same_size ∙ ap size_of (sym so_far.geometry)) takes.kept) (replies q (rest q))))

            module _ (l : K) (bytes : List ℕ) (says : bytes ≡ reply_bytes) where
              -- its reply wasn't put out
              pub no_reply : (status : Status) → ((program : Program) → PutsTo streams.sink (Put bytes program) (Over status) sink l) → DidTo (Over status) c l later
              no_reply status puts =
                  did_put view streams _ input output start c later at_reply
                  (subst (λ (said : List ℕ). PutsTo streams.sink (Put said (rest q)) (Over status) sink l) says (puts (rest q)))

              -- it was answered
              pub one_answered : ((program : Program) → PutsTo streams.sink (Put bytes program) program sink l)
                  → (next : MessagePosition) (last : R) (then : ArrayState) (on : List W) → later ≡ devices last (Opened then) on
                  → next.number ≡ place.number + 1 → next.taken ≡ place.taken + (REQUEST_LENGTH + data_length q) → IsPlace next
                  → then.member.array.geometry ≡ is.member.array.geometry → AllStay view.watcher on
                  → Answered view streams g first rack array watchers input output next last then on c l
              one_answered puts next last then on at number taken next_is kept stay = record {
                turns = hears.0;
                room = omega (arith, so_far.room, hears.1, taken);
                place_is = next_is;
                geometry = kept ∙ so_far.geometry;
                did = subst (λ (x : Devices R W). DidTo (requests g hears.0 next.number next.taken) c l x) at
                    (did_so view streams _ input output start c l later
                    (ap₂ (λ (n t : ℕ). requests g hears.0 n t) (sym number) (omega (arith, taken)))
                    (did_put view streams _ input output start c later at_reply
                    (subst (λ (said : List ℕ). PutsTo streams.sink (Put said (rest q)) (rest q) sink l) says (puts (rest q)))));
                stay = stay;
              }

-- ---- after the handshake

module _ {R W S K : Type 0} (view : DeviceView R W) (streams : Views S K) (g : Geometry) (from : S) (empty : K) (start : Devices R W) (size : ℕ) (whole : size ≡ size_of g)
    (a : S) (k : K) where
  abbrev DidOf : Program → Type 0
  DidOf rest = Did view streams (client_program g) from empty start rest a k start

  shaken : (result : Result (Option MessagePosition) NbdFault) → ((rest : (number taken : ℕ) → Program) → TalksTo streams (shakes_hands size rest) (after_options result rest) from a empty k)
      → DidOf (after_options result (requests g SESSION_LIMIT))
  shaken result talks =
      did_talk view streams (client_program g) from empty start start (did_none view streams (client_program g) from empty start)
      (subst (λ (n : ℕ). TalksTo streams (shakes_hands n (requests g SESSION_LIMIT)) (after_options result (requests g SESSION_LIMIT)) from a empty k) whole
      (talks (requests g SESSION_LIMIT)))

  -- it came to an end
  pub shaken_off : (why : NbdFault) → ((rest : (number taken : ℕ) → Program) → TalksTo streams (shakes_hands size rest) (Over (status_of_nbd why)) from a empty k)
      → DidOf (Over (status_of_nbd why))
  shaken_off why talks = shaken (Err why) talks

  module _ (first : Option MessagePosition) (talks : (rest : (number taken : ℕ) → Program) → TalksTo streams (shakes_hands size rest) (after_options (Ok first) rest) from a empty k) where
    -- requests come
    pub requests_come : (place : MessagePosition) → first ≡ Some place → DidOf (requests g SESSION_LIMIT place.number place.taken)
    requests_come place is = subst (λ (o : Option MessagePosition). DidOf (after_options (Ok o) (requests g SESSION_LIMIT))) is (shaken (Ok first) talks)

    -- none does
    pub none_comes : first ≡ None → DidOf (Over Done)
    none_comes is = subst (λ (o : Option MessagePosition). DidOf (after_options (Ok o) (requests g SESSION_LIMIT))) is (shaken (Ok first) talks)
