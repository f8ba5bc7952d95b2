-- A script, line by line: what each does and what is answered, and what is so before each of its bytes.
use Rattle.std.proofs.Common.{◌≡◌, ◌∙◌, ◌+◌, ◌-◌, ◌<◌, ◌≤◌, ◌==◌, ◌++◌, ◌∷◌, ℕ, zero, suc, Bool, true, false, List, [], Option, None, Some, ap, arith, length, length-append, nat_lt, refl, subst, sym}
use Rattle.std.proofs.lemmas.Bool.{le-ltb, lt-ltb}
use Rattle.std.proofs.lemmas.Bool.Decides.{nat_tests}
use Rattle.stair_model.specs.Geometry.{Geometry}
use Rattle.stair_invariant.specs.Session.{ArrayState}
use Rattle.stair_array.specs.Promise.{Begun, Opened}
use Rattle.stair_script.specs.Line.{SpellsLine}
use Rattle.stair_script.specs.declared.line.Line.{Line}
use Rattle.stair_command.specs.Comes.{ExecutesOnDevices}
use Rattle.stair_command.specs.Devices.{DeviceView, Devices, ExecutesWhole, ExecutesWith, devices, some_left}
use Rattle.stair_command.specs.Fault.{status_of_fault}
use Rattle.stair_command.specs.Outside.{Outside, SourceView, SinkView, Views, no_source, outside}
use Rattle.stair_command.specs.Program.{Program, Over, if_so}
use Rattle.stair_command.specs.Question.{ScriptLine}
use Rattle.stair_command.specs.Trace.{Found, TakeFailed, Took, TookLast}
use Rattle.stair_command.specs.Texts.{FailsByte, SCRIPT_LIMIT, TakesByte, ends_line}
use Rattle.stair_command.specs.declared.fault.Fault.{Fault}
use Rattle.stair_status.specs.declared.status.Status.{Status}
use Rattle.stair_status.specs.declared.status.Status.TheVariants.{BadLine, Done, Halted, Input, InputFault}
use Rattle.stair_command.proofs.ComesLaws.{comes_by, comes_then, with_comes}
use Rattle.stair_command.proofs.DeviceLaws.{with_none, with_one, with_part, with_put, with_source, with_then}
use Rattle.stair_watch.specs.WatcherList.{AllStay}
use Rattle.stair_engine.specs.Scripts.{MAX_SCRIPT_LINE, PutsReply, ReplyIsCut, all_lines, does_line, if_halted, last_line, line_program, lines, replies, script_program}
use Rattle.stair_engine.specs.Blocks.{BeginsSession}
use Rattle.stair_engine.proofs.LineLaws.{last_untaken}

-- ---- a line that was read

module _ {R W : Type 0} (view : DeviceView R W) (g : Geometry) (number : ℕ) (bytes : List ℕ) (rest : Bool → Program) (x y : Devices R W) where
  -- what it says is done
  pub line_read : (said : Line) → SpellsLine bytes said → (program : Program) → ExecutesOnDevices view (line_program g said rest) program x y
      → ExecutesOnDevices view (does_line g number bytes rest) program x y
  line_read said spells program comes =
      comes_then view
      (comes_by view (Found (ScriptLine bytes)) (does_line g number bytes rest) (line_program g said rest) x x tt (Some said, refl, spells, refl) refl) comes

-- it is none
pub no_line : {R W : Type 0} (view : DeviceView R W) (g : Geometry) (number : ℕ) (bytes : List ℕ) (x : Devices R W)
    → ((said : Line) → ¬ SpellsLine bytes said) → (rest : Bool → Program) → ExecutesOnDevices view (does_line g number bytes rest) (Over (BadLine number)) x x
no_line view g number bytes x none rest =
    comes_by view (Found (ScriptLine bytes)) (does_line g number bytes rest) (Over (BadLine number)) x x tt (None, refl, none, refl) refl

-- ---- its reply

module _ {R W S K : Type 0} (view : DeviceView R W) (streams : Views S K) (program rest : Program) (a : Outside S K) (source : S) (held later : K)
    (counter : ℕ) (x y : Devices R W) (reply : Option (List ℕ))
    (means : ExecutesWith view streams program (replies reply rest) a (outside source held counter) x y) where
  -- was put out
  pub replied : PutsReply streams.sink reply held later → ExecutesWith view streams program rest a (outside source later counter) x y
  replied puts = by reply means puts
    where
      by : (reply : Option (List ℕ)) → ExecutesWith view streams program (replies reply rest) a (outside source held counter) x y
          → PutsReply streams.sink reply held later → ExecutesWith view streams program rest a (outside source later counter) x y
      by None means same = subst (λ (k : K). ExecutesWith view streams program rest a (outside source k counter) x y) (sym same) means
      by (Some text) means holds = with_then view streams means (with_put view streams text rest source held later counter y holds)

  -- or a part of it
  pub reply_cut : (why : Fault) → ReplyIsCut streams.sink reply why held later
      → ExecutesWith view streams program (Over (status_of_fault why)) a (outside source later counter) x y
  reply_cut why cut =
      subst (λ (f : Fault). ExecutesWith view streams program (Over (status_of_fault f)) a (outside source later counter) x y) (sym cut.is)
      (with_then view streams
      (subst (λ (r : Option (List ℕ)). ExecutesWith view streams program (replies r rest) a (outside source held counter) x y) cut.some means)
      (with_part view streams cut.whole cut.part rest source held later counter y cut.of cut.holds))

-- ---- where a line is done

module _ (guarded : Bool) (number : ℕ) (rest : Program) where
  -- a guarded script is halted where a watcher left
  halted_so : (left : Bool) → guarded ≡ true → left ≡ true → if_halted guarded number rest left ≡ Over (Halted number)
  halted_so left guards gone =
      ap (λ (g : Bool). if_so g (if_so left (Over (Halted number)) rest) rest) guards ∙ ap (λ (l : Bool). if_so l (Over (Halted number)) rest) gone

  -- and goes on else
  goes_so : (left : Bool) → (guarded ≡ true → left ≡ false) → if_halted guarded number rest left ≡ rest
  goes_so left stays = by guarded refl
    where
      by : (is : Bool) → guarded ≡ is → if_so is (if_so left (Over (Halted number)) rest) rest ≡ rest
      by false same = refl
      by true same = ap (λ (l : Bool). if_so l (Over (Halted number)) rest) (stays same)

-- a watcher left where there are fewer, and else none did
pub fewer_left : {W : Type 0} (old new : List W) → length new < length old → some_left old new ≡ true
fewer_left old new fewer = grind (arith, nat_tests, fewer)

pub none_left : {W : Type 0} (old new : List W) → length old ≤ length new → some_left old new ≡ false
none_left old new many = grind (arith, nat_tests, many)

-- ---- the last line

module _ {R W K : Type 0} (view : DeviceView R W) (streams : Views (Unit {0}) K) (guarded : Bool) (g : Geometry) (number : ℕ) (held : K)
    (x : Devices R W) where
  abbrev last_rest : Bool → Program
  last_rest = if_halted guarded number (Over Done)

  some_line : (line : List ℕ) → 0 < length line → last_line guarded g number line ≡ does_line g number line last_rest
  some_line [] some = absurd (omega (arith, some))
  some_line (byte ∷ line) some = refl

  no_more : (line : List ℕ) → length line ≡ 0 → last_line guarded g number line ≡ Over Done
  no_more [] none = refl
  no_more (byte ∷ line) none = absurd (omega (arith, none))

  pub nothing_last : (line : List ℕ) → length line ≡ 0 → (counter : ℕ)
      → ExecutesWith view streams (last_line guarded g number line) (Over Done) (outside tt held counter) (outside tt held counter) x x
  nothing_last line none counter =
      subst (λ (program : Program). ExecutesWith view streams program (Over Done) (outside tt held counter) (outside tt held counter) x x) (sym (no_more line none))
      (with_none view streams (Over Done) (outside tt held counter) x)

  module _ (line : List ℕ) (some : 0 < length line) (y : Devices R W) where
    last_comes : (program : Program) → ExecutesOnDevices view (does_line g number line last_rest) program x y → (counter : ℕ)
        → ExecutesWith view streams (last_line guarded g number line) program (outside tt held counter) (outside tt held counter) x y
    last_comes program comes counter =
        subst (λ (from : Program). ExecutesWith view streams from program (outside tt held counter) (outside tt held counter) x y) (sym (some_line line some))
        (with_comes view streams (does_line g number line last_rest) program (outside tt held counter) x y comes)

    pub last_refused : (why : Fault) → ((rest : Bool → Program) → ExecutesOnDevices view (does_line g number line rest) (Over (status_of_fault why)) x y) → (counter : ℕ)
        → ExecutesWith view streams (last_line guarded g number line) (Over (status_of_fault why)) (outside tt held counter) (outside tt held counter) x y
    last_refused why comes = last_comes (Over (status_of_fault why)) (comes last_rest)

    module _ (reply : Option (List ℕ))
        (comes : (rest : Bool → Program) → ExecutesOnDevices view (does_line g number line rest) (replies reply (rest (some_left x.watchers y.watchers))) x y) (later : K) where
      abbrev last_ending : Program
      last_ending = last_rest (some_left x.watchers y.watchers)

      put_last : PutsReply streams.sink reply held later → (counter : ℕ)
          → ExecutesWith view streams (last_line guarded g number line) last_ending (outside tt held counter) (outside tt later counter) x y
      put_last puts counter =
          replied view streams (last_line guarded g number line) last_ending (outside tt held counter) tt held later counter x y reply
          (last_comes (replies reply last_ending) (comes last_rest) counter) puts

      pub last_done : (guarded ≡ true → some_left x.watchers y.watchers ≡ false) → PutsReply streams.sink reply held later → (counter : ℕ)
          → ExecutesWith view streams (last_line guarded g number line) (Over Done) (outside tt held counter) (outside tt later counter) x y
      last_done stays puts counter =
          subst (λ (program : Program). ExecutesWith view streams (last_line guarded g number line) program (outside tt held counter) (outside tt later counter) x y)
          (goes_so guarded number (Over Done) (some_left x.watchers y.watchers) stays) (put_last puts counter)

      pub last_halted : guarded ≡ true → some_left x.watchers y.watchers ≡ true → PutsReply streams.sink reply held later → (counter : ℕ)
          → ExecutesWith view streams (last_line guarded g number line) (Over (Halted number)) (outside tt held counter) (outside tt later counter) x y
      last_halted guards gone puts counter =
          subst (λ (program : Program). ExecutesWith view streams (last_line guarded g number line) program (outside tt held counter) (outside tt later counter) x y)
          (halted_so guarded number (Over Done) (some_left x.watchers y.watchers) guards gone) (put_last puts counter)

      pub last_cut : (why : Fault) → ReplyIsCut streams.sink reply why held later → (counter : ℕ)
          → ExecutesWith view streams (last_line guarded g number line) (Over (status_of_fault why)) (outside tt held counter) (outside tt later counter) x y
      last_cut why cut counter =
          reply_cut view streams (last_line guarded g number line) last_ending (outside tt held counter) tt held later counter x y reply
          (last_comes (replies reply last_ending) (comes last_rest) counter) why cut

-- ---- the opening

module _ {R W S K : Type 0} (view : DeviceView R W) (streams : Views S K) (guarded : Bool) (a : Outside S K) (x y : R) (watchers left : List W)
    (array : ArrayState) (begins : BeginsSession view array x y watchers left) where
  abbrev first_lines : Program
  first_lines = all_lines guarded array.member.array.geometry

  script_opened : ExecutesWith view streams (script_program guarded) (if_halted guarded 0 first_lines (some_left watchers left)) a a (devices x Begun watchers)
      (devices y (Opened array) left)
  script_opened =
      with_comes view streams (script_program guarded) (if_halted guarded 0 first_lines (some_left watchers left)) a (devices x Begun watchers)
      (devices y (Opened array) left) (begins (λ g gone. if_halted guarded 0 (all_lines guarded g) gone))

  pub script_halted : guarded ≡ true → some_left watchers left ≡ true
      → ExecutesWhole view streams (script_program guarded) (Over (Halted 0)) a a x y watchers left
  script_halted guards gone = record {
    session = Opened array;
    with = subst (λ (program : Program). ExecutesWith view streams (script_program guarded) program a a (devices x Begun watchers) (devices y (Opened array) left))
        (halted_so guarded 0 first_lines (some_left watchers left) guards gone) script_opened;
  }

  pub script_begun : (b : Outside S K) (z : R) (later : List W) (last : ArrayState) (status : Status) → (guarded ≡ true → some_left watchers left ≡ false)
      → ExecutesWith view streams first_lines (Over status) a b (devices y (Opened array) left) (devices z (Opened last) later)
      → ExecutesWhole view streams (script_program guarded) (Over status) a b x z watchers later
  script_begun b z later last status stays means = record {
    session = Opened last;
    with = with_then view streams
        (subst (λ (program : Program). ExecutesWith view streams (script_program guarded) program a a (devices x Begun watchers) (devices y (Opened array) left))
        (goes_so guarded 0 first_lines (some_left watchers left) stays) script_opened) means;
  }

-- ---- byte by byte

abbrev both : {S K : Type 0} → SourceView S → SinkView K → Views S K
both source sink = record { source = source; sink = sink }

-- after a byte
abbrev byte_on : Bool → (g : Geometry) (room number : ℕ) (line : List ℕ) → List ℕ → Program
byte_on guarded g room number line byte =
    if_so (ends_line byte) (does_line g number line (if_halted guarded number (lines guarded g room (number + 1) [])))
    (if_so (nat_lt (length line) MAX_SCRIPT_LINE) (lines guarded g room number (line ++ byte)) (Over (BadLine number)))

module _ {R W S K : Type 0} (view : DeviceView R W) (source : SourceView S) (sink : SinkView K) (guarded : Bool) (g : Geometry) (first : Devices R W) (from : S)
    (empty : K) where
  abbrev Means : Program → S → K → Devices R W → Type 0
  Means program left held now =
      (counter : ℕ) → ExecutesWith view (both source sink) (all_lines guarded g) program (outside from empty counter) (outside left held counter) first now

  -- So many bytes were taken, and these are of the line of this number.
  pub record DidSoFar (taken number : ℕ) (line : List ℕ) (now : R) (is : ArrayState) (watchers : List W) (left : S) (held : K) : Type 0 where
    pub geometry : is.member.array.geometry ≡ g
    pub stay : AllStay view.watcher watchers
    pub few : number ≤ taken + 1
    pub short : length line ≤ MAX_SCRIPT_LINE
    pub means : Means (lines guarded g (SCRIPT_LIMIT - taken) number line) left held (devices now (Opened is) watchers)

  pub none_did : (now : R) (is : ArrayState) (watchers : List W) (line : List ℕ) → line ≡ [] → first ≡ devices now (Opened is) watchers
      → is.member.array.geometry ≡ g → AllStay view.watcher watchers → DidSoFar 0 1 line now is watchers from empty
  none_did now is watchers line fresh at same stay = record {
    geometry = same;
    stay = stay;
    few = omega arith;
    short = omega (arith, ap length fresh);
    means = λ counter.
        subst (λ (end : Devices R W). ExecutesWith view (both source sink) (all_lines guarded g) (lines guarded g (SCRIPT_LIMIT - 0) 1 line) (outside from empty counter) (outside from empty counter) first end) at
        (subst (λ (bytes : List ℕ). ExecutesWith view (both source sink) (all_lines guarded g) (lines guarded g (SCRIPT_LIMIT - 0) 1 bytes) (outside from empty counter) (outside from empty counter) first first)
        (sym fresh) (with_none view (both source sink) (all_lines guarded g) (outside from empty counter) first));
  }

  module _ (taken number : ℕ) (line : List ℕ) (now : R) (is : ArrayState) (watchers : List W) (left later : S) (held : K)
      (so_far : DidSoFar taken number line now is watchers left held) where
    -- the source failed
    pub byte_failed : (why : Fault) → FailsByte source why left later
        → Means (Over (status_of_fault why)) later held (devices now (Opened is) watchers)
    byte_failed why fails counter =
        subst (λ (f : Fault). ExecutesWith view (both source sink) (all_lines guarded g) (Over (status_of_fault f)) (outside from empty counter) (outside later held counter) first
        (devices now (Opened is) watchers)) (sym fails.is)
        (with_then view (both source sink) (so_far.means counter) (by (SCRIPT_LIMIT - taken)))
      where
        by : (room : ℕ) → ExecutesWith view (both source sink) (lines guarded g room number line) (Over InputFault) (outside left held counter) (outside later held counter)
            (devices now (Opened is) watchers) (devices now (Opened is) watchers)
        by zero =
            with_one view (both source sink) (TakeFailed []) (lines guarded g 0 number line) (Over InputFault) (outside left held counter) (outside later held counter) _ _
            (omega arith, refl) fails.gives refl refl refl
        by (suc room) =
            with_one view (both source sink) (TakeFailed []) (lines guarded g (suc room) number line) (Over InputFault) (outside left held counter) (outside later held counter) _ _
            (omega arith, refl) fails.gives refl refl refl

    -- it ended
    pub byte_ended : TakesByte source None left later → Means (last_line guarded g number line) later held (devices now (Opened is) watchers)
    byte_ended gives counter = with_then view (both source sink) (so_far.means counter) (by (SCRIPT_LIMIT - taken))
      where
        by : (room : ℕ) → ExecutesWith view (both source sink) (lines guarded g room number line) (last_line guarded g number line) (outside left held counter) (outside later held counter)
            (devices now (Opened is) watchers) (devices now (Opened is) watchers)
        by zero =
            with_one view (both source sink) (TookLast []) (lines guarded g 0 number line) (last_line guarded g number line) (outside left held counter) (outside later held counter) _ _
            (omega arith, refl) gives refl refl refl
        by (suc room) =
            with_one view (both source sink) (TookLast []) (lines guarded g (suc room) number line) (last_line guarded g number line) (outside left held counter) (outside later held counter) _ _
            (omega arith, refl) gives refl refl refl

    -- the text after the last end is done
    pub ends_last : (byte : Option ℕ) → ((some : ℕ) → byte ≡ Some some → ⊥) → TakesByte source byte left later → (bytes : List ℕ) → bytes ≡ line
        → (end : Devices R W) (put : K) (status : Status)
        → ((counter : ℕ) → ExecutesWith view (both no_source sink) (last_line guarded is.member.array.geometry number bytes) (Over status) (outside tt held counter)
        (outside tt put counter) (devices now (Opened is) watchers) end)
        → Means (Over status) later put end
    ends_last byte none gives bytes same end put status means counter =
        with_then view (both source sink) (byte_ended (no_byte byte none gives) counter)
        (with_source view source sink (last_line guarded g number line) (Over status) held put counter counter _ _ (last_untaken guarded g number line)
        (subst (λ (all : List ℕ). ExecutesWith view (both no_source sink) (last_line guarded g number all) (Over status) (outside tt held counter)
        (outside tt put counter) (devices now (Opened is) watchers) end) same
        (subst (λ (of : Geometry). ExecutesWith view (both no_source sink) (last_line guarded of number bytes) (Over status) (outside tt held counter)
        (outside tt put counter) (devices now (Opened is) watchers) end) so_far.geometry (means counter))) later)
      where
        no_byte : (byte : Option ℕ) → ((some : ℕ) → byte ≡ Some some → ⊥) → TakesByte source byte left later → TakesByte source None left later
        no_byte None none gives = gives
        no_byte (Some some) none gives = absurd (none some refl)

    -- more came than a script has
    pub too_long : SCRIPT_LIMIT ≤ taken → (byte : ℕ) → TakesByte source (Some byte) left later
        → Means (Over (Input SCRIPT_LIMIT (SCRIPT_LIMIT + 1))) later held (devices now (Opened is) watchers)
    too_long past byte gives counter =
        let none : SCRIPT_LIMIT - taken ≡ 0 = omega (arith, past) in
        with_then view (both source sink)
        (subst (λ (room : ℕ). ExecutesWith view (both source sink) (all_lines guarded g) (lines guarded g room number line) (outside from empty counter) (outside left held counter) first
        (devices now (Opened is) watchers)) none (so_far.means counter))
        (with_one view (both source sink) (Took (byte ∷ [])) (lines guarded g 0 number line) (Over (Input SCRIPT_LIMIT (SCRIPT_LIMIT + 1))) (outside left held counter)
        (outside later held counter) _ _ (record { enough = omega arith; within = omega arith }, refl) gives refl refl refl)

    module _ (below : taken < SCRIPT_LIMIT) (byte : ℕ) (gives : TakesByte source (Some byte) left later) where
      -- a byte came
      came : Means (byte_on guarded g (SCRIPT_LIMIT - (taken + 1)) number line (byte ∷ [])) later held (devices now (Opened is) watchers)
      came counter =
          let room = SCRIPT_LIMIT - (taken + 1) in
          let more : SCRIPT_LIMIT - taken ≡ suc room = omega (arith, below) in
          with_then view (both source sink)
          (subst (λ (all : ℕ). ExecutesWith view (both source sink) (all_lines guarded g) (lines guarded g all number line) (outside from empty counter) (outside left held counter) first
          (devices now (Opened is) watchers)) more (so_far.means counter))
          (with_one view (both source sink) (Took (byte ∷ [])) (lines guarded g (suc room) number line) (byte_on guarded g room number line (byte ∷ [])) (outside left held counter)
          (outside later held counter) _ _ (record { enough = omega arith; within = omega arith }, refl) gives refl refl refl)

      module _ (other : (byte == 10) ≡ false) where
        of_line : Means
            (if_so (nat_lt (length line) MAX_SCRIPT_LINE) (lines guarded g (SCRIPT_LIMIT - (taken + 1)) number (line ++ (byte ∷ []))) (Over (BadLine number))) later held
            (devices now (Opened is) watchers)
        of_line counter =
            subst
            (λ (end : Bool). ExecutesWith view (both source sink) (all_lines guarded g)
            (if_so end (does_line g number line (if_halted guarded number (lines guarded g (SCRIPT_LIMIT - (taken + 1)) (number + 1) [])))
            (if_so (nat_lt (length line) MAX_SCRIPT_LINE) (lines guarded g (SCRIPT_LIMIT - (taken + 1)) number (line ++ (byte ∷ []))) (Over (BadLine number))))
            (outside from empty counter) (outside later held counter) first (devices now (Opened is) watchers)) other (came counter)

        -- it is one more of the line
        pub one_more : (longer : List ℕ) → longer ≡ line ++ (byte ∷ []) → length line < MAX_SCRIPT_LINE
            → DidSoFar (taken + 1) number longer now is watchers later held
        one_more longer same room = record {
          geometry = so_far.geometry;
          stay = so_far.stay;
          few = omega (arith, so_far.few);
          short = omega (arith, ap length same, length-append line (byte ∷ []), room);
          means = λ counter.
              subst (λ (bytes : List ℕ). ExecutesWith view (both source sink) (all_lines guarded g) (lines guarded g (SCRIPT_LIMIT - (taken + 1)) number bytes) (outside from empty counter)
              (outside later held counter) first (devices now (Opened is) watchers)) (sym same)
              (subst
              (λ (short : Bool). ExecutesWith view (both source sink) (all_lines guarded g)
              (if_so short (lines guarded g (SCRIPT_LIMIT - (taken + 1)) number (line ++ (byte ∷ []))) (Over (BadLine number))) (outside from empty counter)
              (outside later held counter) first (devices now (Opened is) watchers)) (lt-ltb (length line) MAX_SCRIPT_LINE room) (of_line counter));
        }

        -- or too many
        pub line_long : MAX_SCRIPT_LINE ≤ length line → Means (Over (BadLine number)) later held (devices now (Opened is) watchers)
        line_long past counter =
            subst
            (λ (short : Bool). ExecutesWith view (both source sink) (all_lines guarded g)
            (if_so short (lines guarded g (SCRIPT_LIMIT - (taken + 1)) number (line ++ (byte ∷ []))) (Over (BadLine number))) (outside from empty counter)
            (outside later held counter) first (devices now (Opened is) watchers)) (le-ltb (length line) MAX_SCRIPT_LINE past) (of_line counter)

      module _ (end : (byte == 10) ≡ true) (next : R) (after : ArrayState) (rest : List W) where
        abbrev behind : Program
        behind = lines guarded g (SCRIPT_LIMIT - (taken + 1)) (number + 1) []

        abbrev on_behind : Bool → Program
        on_behind = if_halted guarded number behind

        -- it ends the line, which is done
        line_comes : (program : Program)
            → ExecutesOnDevices view (does_line g number line (if_halted guarded number (lines guarded g (SCRIPT_LIMIT - (taken + 1)) (number + 1) []))) program (devices now (Opened is) watchers)
            (devices next (Opened after) rest)
            → Means program later held (devices next (Opened after) rest)
        line_comes program comes counter =
            with_then view (both source sink)
            (subst
            (λ (ends : Bool). ExecutesWith view (both source sink) (all_lines guarded g)
            (if_so ends (does_line g number line (if_halted guarded number (lines guarded g (SCRIPT_LIMIT - (taken + 1)) (number + 1) [])))
            (if_so (nat_lt (length line) MAX_SCRIPT_LINE) (lines guarded g (SCRIPT_LIMIT - (taken + 1)) number (line ++ (byte ∷ []))) (Over (BadLine number))))
            (outside from empty counter) (outside later held counter) first (devices now (Opened is) watchers)) end (came counter))
            (with_comes view (both source sink) (does_line g number line (if_halted guarded number (lines guarded g (SCRIPT_LIMIT - (taken + 1)) (number + 1) []))) program (outside later held counter)
            (devices now (Opened is) watchers) (devices next (Opened after) rest) comes)

        module _ (bytes : List ℕ) (same : bytes ≡ line) where
          -- what is said of the line by the geometry of the array
          of_line_now : (on : Bool → Program) (program : Program)
              → ExecutesOnDevices view (does_line is.member.array.geometry number bytes on) program (devices now (Opened is) watchers) (devices next (Opened after) rest)
              → ExecutesOnDevices view (does_line g number line on) program (devices now (Opened is) watchers) (devices next (Opened after) rest)
          of_line_now on program comes =
              subst (λ (all : List ℕ). ExecutesOnDevices view (does_line g number all on) program (devices now (Opened is) watchers) (devices next (Opened after) rest)) same
              (subst
              (λ (of : Geometry). ExecutesOnDevices view (does_line of number bytes on) program (devices now (Opened is) watchers) (devices next (Opened after) rest))
              so_far.geometry comes)

          pub line_refused : (why : Fault)
              → ((on : Bool → Program) → ExecutesOnDevices view (does_line is.member.array.geometry number bytes on) (Over (status_of_fault why)) (devices now (Opened is) watchers)
              (devices next (Opened after) rest))
              → Means (Over (status_of_fault why)) later held (devices next (Opened after) rest)
          line_refused why comes = line_comes (Over (status_of_fault why)) (of_line_now on_behind (Over (status_of_fault why)) (comes on_behind))

          module _ (reply : Option (List ℕ))
              (comes : (on : Bool → Program)
              → ExecutesOnDevices view (does_line is.member.array.geometry number bytes on) (replies reply (on (some_left watchers rest))) (devices now (Opened is) watchers)
              (devices next (Opened after) rest)) (put : K) where
            -- after its reply
            abbrev ending : Program
            ending = on_behind (some_left watchers rest)

            replying : Means (replies reply ending) later held (devices next (Opened after) rest)
            replying = line_comes (replies reply ending) (of_line_now on_behind (replies reply ending) (comes on_behind))

            pub line_cut : (why : Fault) → ReplyIsCut sink reply why held put → Means (Over (status_of_fault why)) later put (devices next (Opened after) rest)
            line_cut why cut counter =
                reply_cut view (both source sink) (all_lines guarded g) ending (outside from empty counter) later held put counter first
                (devices next (Opened after) rest) reply (replying counter) why cut

            line_put : PutsReply sink reply held put → Means ending later put (devices next (Opened after) rest)
            line_put puts counter =
                replied view (both source sink) (all_lines guarded g) ending (outside from empty counter) later held put counter first
                (devices next (Opened after) rest) reply (replying counter) puts

            -- a watcher left at it
            pub line_halted : guarded ≡ true → some_left watchers rest ≡ true → PutsReply sink reply held put
                → Means (Over (Halted number)) later put (devices next (Opened after) rest)
            line_halted guards gone puts counter =
                subst (λ (program : Program). ExecutesWith view (both source sink) (all_lines guarded g) program (outside from empty counter) (outside later put counter) first
                (devices next (Opened after) rest)) (halted_so guarded number behind (some_left watchers rest) guards gone) (line_put puts counter)

            pub line_did : (guarded ≡ true → some_left watchers rest ≡ false) → (fresh : List ℕ) → fresh ≡ [] → PutsReply sink reply held put
                → after.member.array.geometry ≡ is.member.array.geometry
                → AllStay view.watcher rest → DidSoFar (taken + 1) (number + 1) fresh next after rest later put
            line_did stays fresh none puts kept stay = record {
              geometry = kept ∙ so_far.geometry;
              stay = stay;
              few = omega (arith, so_far.few);
              short = omega (arith, ap length none);
              means = λ counter.
                  subst (λ (all : List ℕ). ExecutesWith view (both source sink) (all_lines guarded g) (lines guarded g (SCRIPT_LIMIT - (taken + 1)) (number + 1) all)
                  (outside from empty counter) (outside later put counter) first (devices next (Opened after) rest)) (sym none)
                  (subst (λ (program : Program). ExecutesWith view (both source sink) (all_lines guarded g) program (outside from empty counter) (outside later put counter) first
                  (devices next (Opened after) rest)) (goes_so guarded number behind (some_left watchers rest) stays) (line_put puts counter));
            }

  -- this holds for equal parts
  pub same_did : (taken : ℕ) (left : S) {n m : ℕ} → n ≡ m → {line bytes : List ℕ} → line ≡ bytes → {now next : R} → now ≡ next
      → {is after : ArrayState} → is ≡ after → {watchers rest : List W} → watchers ≡ rest → {held put : K} → held ≡ put
      → DidSoFar taken m bytes next after rest left put → DidSoFar taken n line now is watchers left held
  same_did taken left {n} {m} ns {line} {bytes} ls {now} {next} rs {is} {after} arrays {watchers} {rest} ws {held} {put} hs did =
      subst (λ (x : ℕ). DidSoFar taken x line now is watchers left held) (sym ns)
      (subst (λ (x : List ℕ). DidSoFar taken m x now is watchers left held) (sym ls)
      (subst (λ (x : R). DidSoFar taken m bytes x is watchers left held) (sym rs)
      (subst (λ (x : ArrayState). DidSoFar taken m bytes next x watchers left held) (sym arrays)
      (subst (λ (x : List W). DidSoFar taken m bytes next after x left held) (sym ws)
      (subst (λ (x : K). DidSoFar taken m bytes next after rest left x) (sym hs) did)))))
