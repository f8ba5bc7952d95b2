-- The program of a session ends with Done where the source tells messages none of which is a bad one, whatever the array answers.
use Rattle.std.proofs.Common.{◌≡◌, ◌∙◌, ℕ, zero, suc, ◌+◌, ◌<◌, ◌≤◌, ◌==◌, Bool, true, false, List, [], ◌∷◌, ◌++◌, length, length-append, Option, None, Some, refl, sym, ap, subst, arith}
use Rattle.std.specs.Prelude.{nat_le}
use Rattle.std.proofs.lemmas.Bool.{eq-eqb, false≢true, le-leb, leb-true, ne_eqb}
use Rattle.std.proofs.lemmas.List.{nil_from_length}
use lib.Seq.{drop-append_seam, take-append_seam}
use Rattle.stair_model.specs.Geometry.{Geometry}
use Rattle.stair_array.specs.Machine.{Answer, ReadBlock, Step, WriteBlocks}
use Rattle.stair_command.specs.Program.{Program, Over, Put, Try, if_so, take_exactly}
use Rattle.stair_command.specs.Served.{EndsDone}
use Rattle.stair_command.specs.Trace.{AreEnough}
use Rattle.stair_status.specs.declared.status.Status.TheVariants.{BadMessage, Done, Input}
use Rattle.stair_nbd.specs.declared.wire.OptionRequest.{OptionRequest}
use Rattle.stair_nbd.specs.declared.wire.Request.{Request}
use Rattle.stair_nbd.specs.Civil.{AreOptions, AreRequests, IsCivil, IsMessage}
use Rattle.stair_nbd.specs.Client.{SESSION_LIMIT, answers, answers_option, client_program, ends_in_header, if_message, is_disconnect, options, replies, requests, responds, shakes_hands, size_of, takes_data, takes_header, too_late}
use Rattle.stair_nbd.specs.Wire.{ABORT, ACK, ERR_UNSUP, EXPORT_NAME, FLAGS_LENGTH, OPTION_LENGTH, REQUEST_LENGTH, are_flags, data_length, export_answer, is_brief, option_reply, read_option, read_request, simple_reply}
use Rattle.stair_nbd.proofs.ClientLaws.{IsOfRequest, responds_so}

-- ---- an input is cut into messages in only one way

cut_once : (x a y b : List ℕ) → x ++ a ≡ y ++ b → length x ≡ length y → (y ≡ x) × (b ≡ a)
cut_once [] a [] b same long = (refl, sym same)
cut_once (p ∷ x) a (r ∷ y) b same long =
    let heads : p ≡ r = cc in
    let tails : x ++ a ≡ y ++ b = cc in
    let rest = cut_once x a y b tails (omega (arith, long)) in
    (λ i. (sym heads) i ∷ rest.0 i, rest.1)
cut_once [] a (r ∷ y) b same long = absurd (omega (arith, long))
cut_once (p ∷ x) a [] b same long = absurd (omega (arith, long))

module _ (g : Geometry) where
  -- as many bytes are taken as come first
  takes_ends : (n : ℕ) (k short : List ℕ → Program) (part rest : List ℕ) → length part ≡ n → EndsDone g (k part) (Some rest)
      → EndsDone g (take_exactly n k short) (Some (part ++ rest))
  takes_ends n k short part rest long ends = (
    λ bytes later told enough.
        let cut = cut_once part rest bytes later told (omega (arith, long, enough.enough, enough.within)) in
        subst (λ (some : List ℕ). EndsDone g (k some) (Some later)) (sym cut.0)
        (subst (λ (left : List ℕ). EndsDone g (k part) (Some left)) (sym cut.1) ends),
    λ few. absurd (omega (arith, few, long, length-append part rest)),
  )

  -- the end comes in the place of the first of them
  none_ends : (n : ℕ) (k short : List ℕ → Program) → 0 < n → EndsDone g (short []) (Some []) → EndsDone g (take_exactly n k short) (Some [])
  none_ends n k short some ends = (
    λ bytes later told enough. absurd (omega (arith, some, enough.enough, ap length told, length-append bytes later)),
    λ few. ends,
  )

  late_ends : (number : ℕ) → EndsDone g (too_late number) (Some [])
  late_ends number = none_ends 1 (λ byte. Over (BadMessage number)) (λ none. Over Done) (omega arith) refl

  -- the bytes after a header
  data_ends : (header n : ℕ) (k : List ℕ → Program) (bytes rest : List ℕ) → length bytes ≡ n → EndsDone g (k bytes) (Some rest)
      → EndsDone g (takes_data header n k) (Some (bytes ++ rest))
  data_ends header zero k bytes rest long ends =
      let none : bytes ≡ [] = nil_from_length bytes long in
      subst (λ (told : List ℕ). EndsDone g (k []) (Some (told ++ rest))) (sym none)
      (subst (λ (told : List ℕ). EndsDone g (k told) (Some rest)) none ends)
  data_ends header (suc n) k bytes rest long ends =
      takes_ends (suc n) k (λ some. Over (Input (header + suc n) (header + length some))) bytes rest long ends

  -- a message is read where it is one
  said_ends : {M : Type 0} (number : ℕ) (k : M → Program) (said : Option M) (message : M) (left : Option (List ℕ)) → said ≡ Some message
      → EndsDone g (k message) left → EndsDone g (if_message number k said) left
  said_ends number k said message left is ends = subst (λ (o : Option _). EndsDone g (if_message number k o) left) (sym is) ends

  -- no message comes too late
  early : (taken : ℕ) (this that : Program) (left : Option (List ℕ)) → taken < SESSION_LIMIT → EndsDone g that left
      → EndsDone g (if_so (nat_le SESSION_LIMIT taken) this that) left
  early taken this that left soon ends = by (nat_le SESSION_LIMIT taken) refl
    where
      by : (late : Bool) → nat_le SESSION_LIMIT taken ≡ late → EndsDone g (if_so late this that) left
      by true is = absurd (omega (arith, leb-true SESSION_LIMIT taken is, soon))
      by false is = ends

  -- by a test that comes out so
  so_ends : (test : Bool) (this that : Program) (left : Option (List ℕ)) → test ≡ true → EndsDone g this left → EndsDone g (if_so test this that) left
  so_ends test this that left is ends = subst (λ (b : Bool). EndsDone g (if_so b this that) left) (sym is) ends

  else_ends : (test : Bool) (this that : Program) (left : Option (List ℕ)) → test ≡ false → EndsDone g that left → EndsDone g (if_so test this that) left
  else_ends test this that left is ends = subst (λ (b : Bool). EndsDone g (if_so b this that) left) (sym is) ends

  -- ---- requests

  -- whatever a step answers
  tried_ends : (left : Option (List ℕ)) (step : Step) (k : Answer step → Bool → Program) → IsOfRequest g step
      → ((answer : Answer step) (gone : Bool) → EndsDone g (k answer gone) left) → EndsDone g (Try step k) left
  tried_ends left (ReadBlock block) k of ends = ends
  tried_ends left (WriteBlocks first contents) k of ends = ends
  tried_ends left _ k of ends = absurd of

  request_ends : (q : Request) (bytes rest : List ℕ) (program : Program) → length bytes ≡ data_length q → EndsDone g program (Some rest)
      → EndsDone g (answers g q program) (Some (bytes ++ rest))
  request_ends q bytes rest program long ends =
      data_ends REQUEST_LENGTH (data_length q) (λ some. responds g q some (replies q program) q.command) bytes rest long
      (responds_so g (λ p. EndsDone g p (Some rest)) (tried_ends (Some rest)) q (replies q program) (λ why some. ends) bytes q.command)

  requests_end : (taken : ℕ) (input : List ℕ) → AreRequests taken input → (turns number : ℕ) → SESSION_LIMIT ≤ turns + taken
      → EndsDone g (requests g turns number taken) (Some input)
  requests_end taken input (AreRequests.Silent _) zero number room = late_ends number
  requests_end taken input (AreRequests.Silent _) (suc turns) number room = silent (nat_le SESSION_LIMIT taken)
    where
      silent : (late : Bool) → EndsDone g (if_so late (too_late number)
          (takes_header REQUEST_LENGTH (λ header. if_message number
          (λ q. if_so (is_disconnect q.command) (Over Done) (answers g q (requests g turns (number + 1) (taken + REQUEST_LENGTH + data_length q))))
          (read_request header)))) (Some [])
      silent true = late_ends number
      silent false =
          none_ends REQUEST_LENGTH (λ header. if_message number
          (λ q. if_so (is_disconnect q.command) (Over Done) (answers g q (requests g turns (number + 1) (taken + REQUEST_LENGTH + data_length q))))
          (read_request header)) (ends_in_header REQUEST_LENGTH) (omega arith) refl
  requests_end taken input (AreRequests.Leaves _ q header rest of reads goes) zero number room = absurd (omega (arith, room, of.early))
  requests_end taken input (AreRequests.Leaves _ q header rest of reads goes) (suc turns) number room =
      let one : Request → Program =
      λ p. if_so (is_disconnect p.command) (Over Done) (answers g p (requests g turns (number + 1) (taken + REQUEST_LENGTH + data_length p))) in
      early taken (too_late number) (takes_header REQUEST_LENGTH (λ bytes. if_message number one (read_request bytes))) (Some (header ++ rest)) of.early
      (takes_ends REQUEST_LENGTH (λ bytes. if_message number one (read_request bytes)) (ends_in_header REQUEST_LENGTH) header rest of.whole
      (said_ends number one (read_request header) q (Some rest) reads
      (so_ends (is_disconnect q.command) (Over Done) (answers g q (requests g turns (number + 1) (taken + REQUEST_LENGTH + data_length q))) (Some rest) goes refl)))
  requests_end taken input (AreRequests.Asks _ q header bytes rest of reads stays more) zero number room = absurd (omega (arith, room, of.early))
  requests_end taken input (AreRequests.Asks _ q header bytes rest of reads stays more) (suc turns) number room =
      let one : Request → Program =
      λ p. if_so (is_disconnect p.command) (Over Done) (answers g p (requests g turns (number + 1) (taken + REQUEST_LENGTH + data_length p))) in
      early taken (too_late number) (takes_header REQUEST_LENGTH (λ some. if_message number one (read_request some))) (Some (header ++ (bytes ++ rest))) of.early
      (takes_ends REQUEST_LENGTH (λ some. if_message number one (read_request some)) (ends_in_header REQUEST_LENGTH) header (bytes ++ rest) of.whole
      (said_ends number one (read_request header) q (Some (bytes ++ rest)) reads
      (else_ends (is_disconnect q.command) (Over Done) (answers g q (requests g turns (number + 1) (taken + REQUEST_LENGTH + data_length q)))
      (Some (bytes ++ rest)) stays
      (request_ends q bytes rest (requests g turns (number + 1) (taken + REQUEST_LENGTH + data_length q)) of.of
      (requests_end (taken + REQUEST_LENGTH + data_length q) rest more turns (number + 1) (omega (arith, room)))))))

  -- ---- options

  module _ (export : List ℕ) where
    abbrev behind : (number taken : ℕ) → Program
    behind = requests g SESSION_LIMIT

    abbrev last : (turns number taken : ℕ) → OptionRequest → Program
    last turns number taken o = answers_option o export (behind (number + 1) (taken + OPTION_LENGTH + o.length))
        (options export behind turns (number + 1) (taken + OPTION_LENGTH + o.length))

    abbrev one : (turns number taken : ℕ) → OptionRequest → Program
    one turns number taken o = takes_data OPTION_LENGTH o.length (λ bytes. last turns number taken o)

    -- an option that is taken whole
    option_ends : (turns number taken : ℕ) (o : OptionRequest) (header bytes rest : List ℕ) → IsMessage OPTION_LENGTH o.length taken header bytes
        → read_option header ≡ Some o → EndsDone g (last turns number taken o) (Some rest)
        → EndsDone g (options export behind (suc turns) number taken) (Some (header ++ (bytes ++ rest)))
    option_ends turns number taken o header bytes rest of reads ends =
        early taken (too_late number) (takes_header OPTION_LENGTH (λ some. if_message number (one turns number taken) (read_option some)))
        (Some (header ++ (bytes ++ rest))) of.early
        (takes_ends OPTION_LENGTH (λ some. if_message number (one turns number taken) (read_option some)) (ends_in_header OPTION_LENGTH) header (bytes ++ rest)
        of.whole
        (said_ends number (one turns number taken) (read_option header) o (Some (bytes ++ rest)) reads
        (data_ends OPTION_LENGTH o.length (λ some. last turns number taken o) bytes rest of.of ends)))

    options_end : (taken : ℕ) (input : List ℕ) → AreOptions taken input → (turns number : ℕ) → SESSION_LIMIT ≤ turns + taken
        → EndsDone g (options export behind turns number taken) (Some input)
    options_end taken input (AreOptions.Silent _) zero number room = late_ends number
    options_end taken input (AreOptions.Silent _) (suc turns) number room = silent (nat_le SESSION_LIMIT taken)
      where
        silent : (late : Bool) → EndsDone g (if_so late (too_late number)
            (takes_header OPTION_LENGTH (λ some. if_message number (one turns number taken) (read_option some)))) (Some [])
        silent true = late_ends number
        silent false =
            none_ends OPTION_LENGTH (λ some. if_message number (one turns number taken) (read_option some)) (ends_in_header OPTION_LENGTH) (omega arith) refl
    options_end taken input (AreOptions.Aborts _ o header bytes rest of reads aborts) zero number room = absurd (omega (arith, room, of.early))
    options_end taken input (AreOptions.Aborts _ o header bytes rest of reads aborts) (suc turns) number room =
        option_ends turns number taken o header bytes rest of reads
        (else_ends (o.option == EXPORT_NAME) (Put export (behind (number + 1) (taken + OPTION_LENGTH + o.length)))
        (if_so (o.option == ABORT) (Put (option_reply ABORT ACK) (Over Done))
        (Put (option_reply o.option ERR_UNSUP) (options export behind turns (number + 1) (taken + OPTION_LENGTH + o.length)))) (Some rest)
        (ne_eqb o.option EXPORT_NAME (λ names. omega (arith, names, aborts)))
        (so_ends (o.option == ABORT) (Put (option_reply ABORT ACK) (Over Done))
        (Put (option_reply o.option ERR_UNSUP) (options export behind turns (number + 1) (taken + OPTION_LENGTH + o.length))) (Some rest)
        (eq-eqb o.option ABORT aborts) refl))
    options_end taken input (AreOptions.Names _ o header bytes rest of reads names more) zero number room = absurd (omega (arith, room, of.early))
    options_end taken input (AreOptions.Names _ o header bytes rest of reads names more) (suc turns) number room =
        option_ends turns number taken o header bytes rest of reads
        (so_ends (o.option == EXPORT_NAME) (Put export (behind (number + 1) (taken + OPTION_LENGTH + o.length)))
        (if_so (o.option == ABORT) (Put (option_reply ABORT ACK) (Over Done))
        (Put (option_reply o.option ERR_UNSUP) (options export behind turns (number + 1) (taken + OPTION_LENGTH + o.length)))) (Some rest)
        (eq-eqb o.option EXPORT_NAME names)
        (requests_end (taken + OPTION_LENGTH + o.length) rest more SESSION_LIMIT (number + 1) (omega arith)))
    options_end taken input (AreOptions.Haggles _ o header bytes rest of reads stays unnamed more) zero number room = absurd (omega (arith, room, of.early))
    options_end taken input (AreOptions.Haggles _ o header bytes rest of reads stays unnamed more) (suc turns) number room =
        option_ends turns number taken o header bytes rest of reads
        (else_ends (o.option == EXPORT_NAME) (Put export (behind (number + 1) (taken + OPTION_LENGTH + o.length)))
        (if_so (o.option == ABORT) (Put (option_reply ABORT ACK) (Over Done))
        (Put (option_reply o.option ERR_UNSUP) (options export behind turns (number + 1) (taken + OPTION_LENGTH + o.length)))) (Some rest)
        (ne_eqb o.option EXPORT_NAME unnamed)
        (else_ends (o.option == ABORT) (Put (option_reply ABORT ACK) (Over Done))
        (Put (option_reply o.option ERR_UNSUP) (options export behind turns (number + 1) (taken + OPTION_LENGTH + o.length))) (Some rest)
        (ne_eqb o.option ABORT stays)
        (options_end (taken + OPTION_LENGTH + o.length) rest more turns (number + 1) (omega (arith, room)))))

  -- ---- whole sessions

  pub client_ends : (input : List ℕ) → IsCivil input → EndsDone g (client_program g) (Some input)
  client_ends input IsCivil.Silent =
      none_ends FLAGS_LENGTH
      (λ flags. if_so (are_flags flags) (options (export_answer (size_of g) (is_brief flags)) (requests g SESSION_LIMIT) SESSION_LIMIT 2 FLAGS_LENGTH)
      (Over (BadMessage 1))) (ends_in_header FLAGS_LENGTH) (omega arith) refl
  client_ends input (IsCivil.Speaks flags rest whole known more) =
      takes_ends FLAGS_LENGTH
      (λ some. if_so (are_flags some) (options (export_answer (size_of g) (is_brief some)) (requests g SESSION_LIMIT) SESSION_LIMIT 2 FLAGS_LENGTH)
      (Over (BadMessage 1))) (ends_in_header FLAGS_LENGTH) flags rest whole
      (so_ends (are_flags flags) (options (export_answer (size_of g) (is_brief flags)) (requests g SESSION_LIMIT) SESSION_LIMIT 2 FLAGS_LENGTH)
      (Over (BadMessage 1)) (Some rest) known
      (options_end (export_answer (size_of g) (is_brief flags)) FLAGS_LENGTH rest more SESSION_LIMIT 2 (omega arith)))
