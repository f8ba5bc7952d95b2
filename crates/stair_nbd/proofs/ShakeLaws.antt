-- What is said first, the client's flags, and the options after them.
use Rattle.std.proofs.Common.{◌≡◌, ◌∙◌, ℕ, Bool, true, false, List, None, Option, Result, Some, cond, subst, sym}
use Rattle.stair_command.specs.Outside.{Views}
use Rattle.stair_command.specs.Program.{Program, Over, Put, if_so}
use Rattle.stair_command.specs.Talks.{PutsTo, TakesTo, TalksTo}
use Rattle.stair_status.specs.declared.status.Status.{Status}
use Rattle.stair_status.specs.declared.status.Status.TheVariants.{BadMessage}
use Rattle.stair_command.proofs.TalkLaws.{talks_put, talks_taken, talks_then}
use Rattle.stair_nbd.specs.Client.{SESSION_LIMIT, options, shakes_hands, takes_header}
use Rattle.stair_nbd.specs.Sessions.{after_options}
use Rattle.stair_nbd.specs.Wire.{FLAGS_LENGTH, are_flags, export_answer, greeting, is_brief}
use Rattle.stair_nbd.specs.declared.fault.NbdFault.{NbdFault}
use Rattle.stair_nbd.specs.declared.place.MessagePosition.{MessagePosition}
use Rattle.stair_nbd.proofs.OptionLaws.{Rest, none_where, some_where}

-- the program where a test is passed, or fails
module _ {S K : Type 0} (view : Views S K) (program : Program) (test : Bool) (this that : Program) (a b : S) (k l : K) where
  talks_if : test ≡ true → TalksTo view program (if_so test this that) a b k l → TalksTo view program this a b k l
  talks_if is = subst (λ (was : Bool). TalksTo view program (if_so was this that) a b k l) is

  talks_else : test ≡ false → TalksTo view program (if_so test this that) a b k l → TalksTo view program that a b k l
  talks_else is = subst (λ (was : Bool). TalksTo view program (if_so was this that) a b k l) is

module _ {S K : Type 0} (view : Views S K) (size : ℕ) (a : S) (k : K) (words : List ℕ) (says : words ≡ greeting) where
  abbrev Comes : S → K → (Rest → Program) → Type 0
  Comes s h program = (rest : Rest) → TalksTo view (shakes_hands size rest) (program rest) a s k h

  abbrev on_flags : Rest → List ℕ → Program
  on_flags rest flags =
      if_so (are_flags flags) (options (export_answer size (is_brief flags)) rest SESSION_LIMIT 2 FLAGS_LENGTH) (Over (BadMessage 1))

  -- what is said first wasn't put out
  pub unsaid : (l : K) (status : Status) → ((program : Program) → PutsTo view.sink (Put words program) (Over status) k l) → Comes a l (λ rest. Over status)
  unsaid l status puts rest =
      let on = takes_header FLAGS_LENGTH (on_flags rest) in
      talks_put view (subst (λ (said : List ℕ). PutsTo view.sink (Put said on) (Over status) k l) says (puts on)) a

  module _ (l : K) (puts : (program : Program) → PutsTo view.sink (Put words program) program k l) where
    at_flags : Comes a l (λ rest. takes_header FLAGS_LENGTH (on_flags rest))
    at_flags rest =
        let on = takes_header FLAGS_LENGTH (on_flags rest) in
        talks_put view (subst (λ (said : List ℕ). PutsTo view.sink (Put said on) on k l) says (puts on)) a

    -- no flags came
    pub flags_over : (b : S) (status : Status) → ((on : List ℕ → Program) → TakesTo view.source (takes_header FLAGS_LENGTH on) (Over status) a b)
        → Comes b l (λ rest. Over status)
    flags_over b status takes rest = talks_then view (at_flags rest) (talks_taken view (takes (on_flags rest)) l)

    module _ (b : S) (flags : List ℕ) (came : (on : List ℕ → Program) → TakesTo view.source (takes_header FLAGS_LENGTH on) (on flags) a b)
        (read : Option Bool) (is : read ≡ cond (are_flags flags) (Some (is_brief flags)) None) where
      flags_came : Comes b l (λ rest. on_flags rest flags)
      flags_came rest = talks_then view (at_flags rest) (talks_taken view (came (on_flags rest)) l)

      -- they aren't known
      pub no_flags : read ≡ None → Comes b l (λ rest. Over (BadMessage 1))
      no_flags none rest =
          talks_else view (shakes_hands size rest) (are_flags flags) (options (export_answer size (is_brief flags)) rest SESSION_LIMIT 2 FLAGS_LENGTH) (Over (BadMessage 1)) a b k l
          (none_where (are_flags flags) (is_brief flags) (sym is ∙ none)) (flags_came rest)

      -- options come after them
      pub options_come : (brief : Bool) → read ≡ Some brief → (export : List ℕ) → export ≡ export_answer size brief → (c : S) (m : K)
          (result : Result (Option MessagePosition) NbdFault)
          → ((rest : Rest) → TalksTo view (options export rest SESSION_LIMIT 2 FLAGS_LENGTH) (after_options result rest) b c l m)
          → Comes c m (λ rest. after_options result rest)
      options_come brief some export exports c m result talks rest =
          let both = some_where (are_flags flags) (is_brief flags) brief (sym is ∙ some) in
          let told : export ≡ export_answer size (is_brief flags) = exports ∙ sym (λ i. export_answer size (both.1 i)) in
          talks_then view
          (talks_if view (shakes_hands size rest) (are_flags flags) (options (export_answer size (is_brief flags)) rest SESSION_LIMIT 2 FLAGS_LENGTH) (Over (BadMessage 1)) a b k l both.0
          (flags_came rest))
          (subst (λ (bytes : List ℕ). TalksTo view (options bytes rest SESSION_LIMIT 2 FLAGS_LENGTH) (after_options result rest) b c l m) told (talks rest))
