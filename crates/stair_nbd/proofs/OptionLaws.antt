-- The options of a client in order, up to the one that names the export.
use Rattle.std.proofs.Common.{◌≡◌, ◌∙◌, ◌&&◌, ◌==◌, ◌+◌, ◌-◌, ◌<◌, ◌≤◌, ℕ, zero, suc, Bool, true, false, List, None, Some, Option, Ok, Err, Result, ap, ap₂, arith, cond, nat_le, refl, subst, sym}
use Rattle.std.proofs.lemmas.Bool.{eq-eqb, le-leb, leb-true, lt-leb, ne_eqb}
use Rattle.std.specs.Result.{IsErrAnd}
use Rattle.stair_command.specs.Outside.{SourceView, Views}
use Rattle.stair_command.specs.Program.{Program, Over, Put, if_so}
use Rattle.stair_command.specs.Talks.{PutsTo, TakesTo, TalksTo}
use Rattle.stair_status.specs.declared.status.Status.{Status}
use Rattle.stair_status.specs.declared.status.Status.TheVariants.{BadMessage, Done}
use Rattle.stair_command.proofs.TalkLaws.{talks_none, talks_put, talks_taken, talks_then}
use Rattle.stair_nbd.specs.Client.{SESSION_LIMIT, answers_option, if_message, options, status_of_nbd, takes_data, takes_header, too_late}
use Rattle.stair_nbd.specs.Sessions.{after_header, after_options}
use Rattle.stair_nbd.specs.Wire.{ABORT, ACK, ERR_UNSUP, EXPORT_NAME, OPTION_DATA_LIMIT, OPTION_LENGTH, OPTION_MAGIC, option_reply, read_option, u32_at, u64_at}
use Rattle.stair_nbd.specs.declared.fault.NbdFault.{NbdFault}
use Rattle.stair_nbd.specs.declared.place.MessagePosition.{MessagePosition}
use Rattle.stair_nbd.specs.declared.wire.OptionRequest.{OptionRequest}

-- the requests after the options
abbrev pub Rest : Type 0
Rest = (number taken : ℕ) → Program

-- what is said where the error was handed on
pub handed_on : {S K : Type 0} (view : Views S K) (program : Program) (rest : Rest) (a b : S) (k l : K) (result : Result (Option MessagePosition) NbdFault) (why : NbdFault)
    → IsErrAnd result (λ y. y ≡ why) → TalksTo view program (Over (status_of_nbd why)) a b k l → TalksTo view program (after_options result rest) a b k l
handed_on view program rest a b k l (Ok place) why is talks = absurd is
handed_on view program rest a b k l (Err y) why is talks =
    subst (λ (fault : NbdFault). TalksTo view program (Over (status_of_nbd fault)) a b k l) (sym is) talks

-- ---- the header of an option

module _ {S : Type 0} (view : SourceView S) (n : ℕ) (header : List ℕ) (came : Bool) (a b : S) where
  -- it came
  pub header_came : came ≡ true → ((on : List ℕ → Program) → TakesTo view (takes_header n on) (after_header (Ok came) header on) a b)
      → (on : List ℕ → Program) → TakesTo view (takes_header n on) (on header) a b
  header_came is takes on = subst (λ (there : Bool). TakesTo view (takes_header n on) (after_header (Ok there) header on) a b) is (takes on)

  -- the input ended before it
  pub header_passed : came ≡ false → ((on : List ℕ → Program) → TakesTo view (takes_header n on) (after_header (Ok came) header on) a b)
      → (on : List ℕ → Program) → TakesTo view (takes_header n on) (Over Done) a b
  header_passed is takes on = subst (λ (there : Bool). TakesTo view (takes_header n on) (after_header (Ok there) header on) a b) is (takes on)

-- it is no option's
pub none_read : {M : Type 0} (read : Option M) → ((message : M) → read ≡ Some message → ⊥) → read ≡ None
none_read None none = refl
none_read (Some message) none = absurd (none message refl)

-- both tests passed
both_true : (a b : Bool) → a && b ≡ true → b ≡ true
both_true true b is = is
both_true false b is = cc

-- what a test admits
pub some_where : {M : Type 0} (b : Bool) (o p : M) → cond b (Some o) None ≡ Some p → (b ≡ true) × (o ≡ p)
some_where true o p is = (refl, cc)
some_where false o p is = cc

-- and what it refuses
pub none_where : {M : Type 0} (b : Bool) (o : M) → cond b (Some o) None ≡ None → b ≡ false
none_where true o is = cc
none_where false o is = refl

-- no more bytes come after it than an option may have
pub option_short : (header : List ℕ) (o : OptionRequest) → read_option header ≡ Some o → o.length ≤ OPTION_DATA_LIMIT
option_short header o is =
    let both = some_where ((u64_at 0 header == OPTION_MAGIC) && nat_le (u32_at 12 header) OPTION_DATA_LIMIT)
    (record { option = u32_at 8 header; length = u32_at 12 header }) o is in
    let short = leb-true (u32_at 12 header) OPTION_DATA_LIMIT (both_true (u64_at 0 header == OPTION_MAGIC) (nat_le (u32_at 12 header) OPTION_DATA_LIMIT) both.0) in
    let same : u32_at 12 header ≡ o.length = ap (λ (p : OptionRequest). p.length) both.1 in
    omega (arith, short, same)

module _ {S K : Type 0} (view : Views S K) (export : List ℕ) (from : Rest → Program) (a : S) (k : K) where
  -- What is left is the options of so many turns at most, which are as many as may come.
  pub record AnsweredSoFar (number taken : ℕ) (now : S) (held : K) : Type 0 where
    pub turns : ℕ
    pub enough : SESSION_LIMIT ≤ turns + taken
    pub few : number ≤ taken
    pub talks : (rest : Rest) → TalksTo view (from rest) (options export rest turns number taken) a now k held

  abbrev Comes : S → K → (Rest → Program) → Type 0
  Comes s h program = (rest : Rest) → TalksTo view (from rest) (program rest) a s k h

  module _ (number taken : ℕ) (now : S) (held : K) (so_far : AnsweredSoFar number taken now held) where
    -- ---- no option may begin any more

    is_late : (turns : ℕ) (rest : Rest) → SESSION_LIMIT ≤ taken → options export rest turns number taken ≡ too_late number
    is_late zero rest past = refl
    is_late (suc turns) rest past =
        ap (λ (late : Bool). if_so late (too_late number) (takes_header OPTION_LENGTH (λ header. if_message number
        (λ o. takes_data OPTION_LENGTH o.length (λ bytes. answers_option o export (rest (number + 1) (taken + OPTION_LENGTH + o.length))
        (options export rest turns (number + 1) (taken + OPTION_LENGTH + o.length)))) (read_option header)))) (le-leb SESSION_LIMIT taken past)

    pub ends_late : SESSION_LIMIT ≤ taken → (b : S) (status : Status) → TakesTo view.source (too_late number) (Over status) now b → Comes b held (λ rest. Over status)
    ends_late past b status takes rest =
        talks_then view
        (subst (λ (program : Program). TalksTo view (from rest) program a now k held) (is_late so_far.turns rest past) (so_far.talks rest))
        (talks_taken view takes held)

    -- ---- one option more

    module _ (early : taken < SESSION_LIMIT) where
      left : ℕ
      left = so_far.turns - 1

      abbrev on_data : Rest → OptionRequest → List ℕ → Program
      on_data rest o bytes = answers_option o export (rest (number + 1) (taken + OPTION_LENGTH + o.length))
          (options export rest left (number + 1) (taken + OPTION_LENGTH + o.length))

      abbrev on_option : Rest → OptionRequest → Program
      on_option rest o = takes_data OPTION_LENGTH o.length (on_data rest o)

      abbrev on_header : Rest → List ℕ → Program
      on_header rest header = if_message number (on_option rest) (read_option header)

      next_turn : (rest : Rest) → options export rest so_far.turns number taken ≡ takes_header OPTION_LENGTH (on_header rest)
      unfolding left
      next_turn rest =
          let some : so_far.turns ≡ suc (so_far.turns - 1) = omega (arith, so_far.enough, early) in
          ap (λ (turns : ℕ). options export rest turns number taken) some
          ∙ ap (λ (late : Bool). if_so late (too_late number) (takes_header OPTION_LENGTH (on_header rest))) (lt-leb SESSION_LIMIT taken early)

      at_header : Comes now held (λ rest. takes_header OPTION_LENGTH (on_header rest))
      at_header rest = subst (λ (program : Program). TalksTo view (from rest) program a now k held) (next_turn rest) (so_far.talks rest)

      -- its header didn't come
      pub header_over : (b : S) (status : Status) → ((on : List ℕ → Program) → TakesTo view.source (takes_header OPTION_LENGTH on) (Over status) now b)
          → Comes b held (λ rest. Over status)
      header_over b status takes rest = talks_then view (at_header rest) (talks_taken view (takes (on_header rest)) held)

      module _ (b : S) (header : List ℕ) (came : (on : List ℕ → Program) → TakesTo view.source (takes_header OPTION_LENGTH on) (on header) now b) where
        at_message : Comes b held (λ rest. on_header rest header)
        at_message rest = talks_then view (at_header rest) (talks_taken view (came (on_header rest)) held)

        -- it is no option's
        pub no_option : read_option header ≡ None → Comes b held (λ rest. Over (BadMessage number))
        no_option none rest =
            subst (λ (o : Option OptionRequest). TalksTo view (from rest) (if_message number (on_option rest) o) a b k held) none (at_message rest)

        module _ (o : OptionRequest) (is : read_option header ≡ Some o) where
          at_option : Comes b held (λ rest. on_option rest o)
          at_option rest =
              subst (λ (said : Option OptionRequest). TalksTo view (from rest) (if_message number (on_option rest) said) a b k held) is (at_message rest)

          -- the bytes after it didn't come
          pub data_over : (c : S) (n : ℕ) (status : Status) → n ≡ o.length
              → ((on : List ℕ → Program) → TakesTo view.source (takes_data OPTION_LENGTH n on) (Over status) b c) → Comes c held (λ rest. Over status)
          data_over c n status long takes rest =
              talks_then view (at_option rest)
              (talks_taken view (subst (λ (m : ℕ). TakesTo view.source (takes_data OPTION_LENGTH m (on_data rest o)) (Over status) b c) long (takes (on_data rest o))) held)

          module _ (c : S) (n : ℕ) (bytes : List ℕ) (long : n ≡ o.length)
              (all : (on : List ℕ → Program) → TakesTo view.source (takes_data OPTION_LENGTH n on) (on bytes) b c) where
            at_answer : Comes c held (λ rest. on_data rest o bytes)
            at_answer rest =
                talks_then view (at_option rest)
                (talks_taken view (subst (λ (m : ℕ). TakesTo view.source (takes_data OPTION_LENGTH m (on_data rest o)) (on_data rest o bytes) b c) long (all (on_data rest o))) held)

            abbrev on_answer : Rest → (names aborts : Bool) → Program
            on_answer rest names aborts = if_so names (Put export (rest (number + 1) (taken + OPTION_LENGTH + o.length)))
                (if_so aborts (Put (option_reply ABORT ACK) (Over Done))
                (Put (option_reply o.option ERR_UNSUP) (options export rest left (number + 1) (taken + OPTION_LENGTH + o.length))))

            -- ---- it names the export

            at_export : o.option ≡ EXPORT_NAME → Comes c held (λ rest. Put export (rest (number + 1) (taken + OPTION_LENGTH + o.length)))
            at_export names rest =
                subst (λ (named : Bool). TalksTo view (from rest) (on_answer rest named (o.option == ABORT)) a c k held) (eq-eqb o.option EXPORT_NAME names) (at_answer rest)

            pub export_cut : o.option ≡ EXPORT_NAME → (l : K) (status : Status) → ((program : Program) → PutsTo view.sink (Put export program) (Over status) held l)
                → Comes c l (λ rest. Over status)
            export_cut names l status puts rest =
                talks_then view (at_export names rest) (talks_put view (puts (rest (number + 1) (taken + OPTION_LENGTH + o.length))) c)

            pub export_put : o.option ≡ EXPORT_NAME → (l : K) → ((program : Program) → PutsTo view.sink (Put export program) program held l)
                → (place : MessagePosition) → place.number ≡ number + 1 → place.taken ≡ taken + (OPTION_LENGTH + o.length)
                → Comes c l (λ rest. rest place.number place.taken)
            export_put names l puts place next behind rest =
                let same : taken + OPTION_LENGTH + o.length ≡ place.taken = omega (arith, behind) in
                subst (λ (program : Program). TalksTo view (from rest) program a c k l) (ap₂ rest (sym next) same)
                (talks_then view (at_export names rest) (talks_put view (puts (rest (number + 1) (taken + OPTION_LENGTH + o.length))) c))

            -- ---- it ends the session

            at_abort : (o.option ≡ EXPORT_NAME → ⊥) → o.option ≡ ABORT → Comes c held (λ rest. Put (option_reply ABORT ACK) (Over Done))
            at_abort other aborts rest =
                subst (λ (aborted : Bool). TalksTo view (from rest) (on_answer rest false aborted) a c k held) (eq-eqb o.option ABORT aborts)
                (subst (λ (named : Bool). TalksTo view (from rest) (on_answer rest named (o.option == ABORT)) a c k held) (ne_eqb o.option EXPORT_NAME other) (at_answer rest))

            pub abort_over : (o.option ≡ EXPORT_NAME → ⊥) → o.option ≡ ABORT → (l : K) (reply : List ℕ) (status : Status) → reply ≡ option_reply ABORT ACK
                → PutsTo view.sink (Put reply (Over Done)) (Over status) held l → Comes c l (λ rest. Over status)
            abort_over other aborts l reply status says puts rest =
                talks_then view (at_abort other aborts rest)
                (talks_put view (subst (λ (words : List ℕ). PutsTo view.sink (Put words (Over Done)) (Over status) held l) says puts) c)

            -- ---- it isn't known

            at_unknown : (o.option ≡ EXPORT_NAME → ⊥) → (o.option ≡ ABORT → ⊥)
                → Comes c held (λ rest. Put (option_reply o.option ERR_UNSUP) (options export rest left (number + 1) (taken + OPTION_LENGTH + o.length)))
            at_unknown other stays rest =
                subst (λ (aborted : Bool). TalksTo view (from rest) (on_answer rest false aborted) a c k held) (ne_eqb o.option ABORT stays)
                (subst (λ (named : Bool). TalksTo view (from rest) (on_answer rest named (o.option == ABORT)) a c k held) (ne_eqb o.option EXPORT_NAME other) (at_answer rest))

            module _ (other : o.option ≡ EXPORT_NAME → ⊥) (stays : o.option ≡ ABORT → ⊥) (l : K) (reply : List ℕ) (says : reply ≡ option_reply o.option ERR_UNSUP) where
              pub unknown_cut : (status : Status) → ((program : Program) → PutsTo view.sink (Put reply program) (Over status) held l) → Comes c l (λ rest. Over status)
              unknown_cut status puts rest =
                  let on = options export rest left (number + 1) (taken + OPTION_LENGTH + o.length) in
                  talks_then view (at_unknown other stays rest)
                  (talks_put view (subst (λ (words : List ℕ). PutsTo view.sink (Put words on) (Over status) held l) says (puts on)) c)

              pub one_more : ((program : Program) → PutsTo view.sink (Put reply program) program held l) → (place : MessagePosition) → place.number ≡ number + 1
                  → place.taken ≡ taken + (OPTION_LENGTH + o.length) → AnsweredSoFar place.number place.taken c l
              unfolding left
              one_more puts place next behind =
                  let same : taken + OPTION_LENGTH + o.length ≡ place.taken = omega (arith, behind) in
                  record {
                    turns = so_far.turns - 1;
                    enough = omega (arith, so_far.enough, early, behind);
                    few = omega (arith, so_far.few, next, behind);
                    talks = λ rest.
                        let on = options export rest left (number + 1) (taken + OPTION_LENGTH + o.length) in
                        subst (λ (program : Program). TalksTo view (from rest) program a c k l) (ap₂ (options export rest left) (sym next) same)
                        (talks_then view (at_unknown other stays rest)
                        (talks_put view (subst (λ (words : List ℕ). PutsTo view.sink (Put words on) on held l) says (puts on)) c));
                  }

-- before the first option
pub answered_none : {S K : Type 0} (view : Views S K) (export : List ℕ) (turns number taken : ℕ) (a : S) (k : K) → SESSION_LIMIT ≤ turns + taken → number ≤ taken
    → AnsweredSoFar view export (λ rest. options export rest turns number taken) a k number taken a k
answered_none view export turns number taken a k enough few = record {
  turns = turns;
  enough = enough;
  few = few;
  talks = λ rest. talks_none view (options export rest turns number taken) a k;
}
