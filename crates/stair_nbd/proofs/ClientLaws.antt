-- What holds for the program of a session, if it holds for each node given that it holds after it.
use Rattle.std.proofs.Common.{◌≡◌, sym, ℕ, zero, suc, ◌+◌, ◌-◌, ◌*◌, ◌/◌, ◌%◌, ◌<◌, ◌≤◌, ◌==◌, Bool, true, false, List, [], ◌∷◌, ◌++◌, length, take, drop, min, Option, None, Some, Result, Ok, Err, refl, ap, arith}
use Rattle.std.specs.Prelude.{◌||◌, ◌&&◌, nat_le, nat_lt, ⊤}
use Rattle.std.proofs.lemmas.Bool.{eqb-false, false≢true, ltb-false}
use Rattle.stair_model.specs.Geometry.{Geometry, block_count, data_cells}
use Rattle.stair_model.specs.Stripe.{SECTOR}
use Rattle.stair_array.specs.Arrays.{blocks_of}
use Rattle.stair_array.specs.Machine.{Answer, GivenBy, ReadBlock, Refusal, Step, WriteBlocks}
use Rattle.stair_command.specs.Pieces.{piece_blocks}
use Rattle.stair_command.specs.Program.{Program, Over, Put, Try, if_so, take_exactly}
use Rattle.stair_status.specs.declared.status.Status.{Status}
use Rattle.stair_status.specs.declared.status.Status.TheVariants.{BadMessage, Done, Input}
use Rattle.stair_command.proofs.PieceLaws.{piece_left}
use Rattle.stair_nbd.specs.declared.wire.Command.{Command}
use Rattle.stair_nbd.specs.declared.wire.Command.TheVariants as command
use Rattle.stair_nbd.specs.declared.wire.OptionRequest.{OptionRequest}
use Rattle.stair_nbd.specs.declared.wire.ReplyError.{ReplyError}
use Rattle.stair_nbd.specs.declared.wire.ReplyError.TheVariants as error
use Rattle.stair_nbd.specs.declared.wire.Request.{Request}
use Rattle.stair_nbd.specs.Client.{Comes, SESSION_LIMIT, answers, answers_option, around, client_program, end_block, end_within, ends_in_header, first_block, if_answered, if_message, is_disconnect, is_past, is_too_long, options, reads_back, reads_for, reads_front, reads_on, replies, requests, responds, shakes_hands, size_of, skipped, takes_data, takes_header, too_late, touched, tries, was_read, writes_blocks, writes_for, writes_on}
use Rattle.stair_nbd.specs.Wire.{ABORT, ACK, ERR_UNSUP, EXPORT_NAME, FLAGS_LENGTH, OPTION_LENGTH, REQUEST_LENGTH, are_flags, data_length, export_answer, greeting, is_brief, option_reply, read_option, read_request, simple_reply}

-- ---- by cases

pub if_so_by : (IsSo : Program → Type 0) (is : Bool) (this that : Program) → (is ≡ true → IsSo this) → (is ≡ false → IsSo that) → IsSo (if_so is this that)
if_so_by IsSo true this that one other = one refl
if_so_by IsSo false this that one other = other refl

none_right : (a b : Bool) → (a || b) ≡ false → b ≡ false
none_right true b none = absurd (false≢true (sym none))
none_right false b none = none

-- ---- steps

-- a step that a request may come to, of an array of this geometry
abbrev pub IsOfRequest : Geometry → Step → Type 0
IsOfRequest g (ReadBlock block) = block < block_count g
IsOfRequest g (WriteBlocks first contents) = first < block_count g
IsOfRequest g _ = ⊥

-- in range: after the last byte of a request there is no block
module _ (g : Geometry) (q : Request) (inside : is_past (size_of g) q ≡ false) where
  pub fits : q.offset + q.length ≤ SECTOR * block_count g
  fits = ltb-false (size_of g) (q.offset + q.length) inside

  end_fits : (end_within q == 0) ≡ false → end_block q < block_count g
  end_fits some = let more = eqb-false (end_within q) 0 some in omega (arith, fits)

module _ (g : Geometry) (IsSo : Program → Type 0)
    (tries_so : (step : Step) (k : Answer step → Bool → Program) → IsOfRequest g step → ((answer : Answer step) (left : Bool) → IsSo (k answer left)) → IsSo (Try step k)) where
  answered_so : {X : Type 0} (refused : Program) (k : X → Program) (answer : Result X Refusal) → IsSo refused → ((x : X) → IsSo (k x)) → IsSo (if_answered refused k answer)
  answered_so refused k (Ok x) fails gives = gives x
  answered_so refused k (Err refusal) fails gives = fails

  tried_so : (step : Step) (refused : Program) (k : GivenBy step → Program) → IsOfRequest g step → IsSo refused → ((given : GivenBy step) → IsSo (k given)) → IsSo (tries step refused k)
  tried_so step refused k of fails gives = tries_so step (λ answer left. if_answered refused k answer) of (λ answer left. answered_so refused k answer fails gives)

  reads_on_so : (block count : ℕ) (so_far : List ℕ) (refused : Program) (k : List ℕ → Program) → block + count ≤ block_count g → IsSo refused
      → ((bytes : List ℕ) → IsSo (k bytes)) → IsSo (reads_on block count so_far refused k)
  reads_on_so block zero so_far refused k within fails gives = gives so_far
  reads_on_so block (suc count) so_far refused k within fails gives =
      tried_so (ReadBlock block) refused (λ bytes. reads_on (block + 1) count (so_far ++ bytes) refused k) (omega (arith, within)) fails
      (λ bytes. reads_on_so (block + 1) count (so_far ++ bytes) refused k (omega (arith, within)) fails gives)

  writes_on_so : (turns block left : ℕ) (bytes : List ℕ) (refused done : Program) → block + left ≤ block_count g → IsSo refused → IsSo done
      → IsSo (writes_on g turns block left bytes refused done)
  writes_on_so zero block left bytes refused done within fails done_so = done_so
  writes_on_so (suc turns) block left bytes refused done within fails done_so =
      let count = piece_blocks g block left in
      if_so_by IsSo (left == 0) done
      (tries (WriteBlocks block (blocks_of (take (SECTOR * count) bytes))) refused
      (λ ok. writes_on g turns (block + count) (left - count) (drop (SECTOR * count) bytes) refused done)) (λ none. done_so)
      (λ some. let more = eqb-false left 0 some in
      tried_so (WriteBlocks block (blocks_of (take (SECTOR * count) bytes))) refused
      (λ ok. writes_on g turns (block + count) (left - count) (drop (SECTOR * count) bytes) refused done) (omega (arith, within, more)) fails
      (λ ok. writes_on_so turns (block + count) (left - count) (drop (SECTOR * count) bytes) refused done
      (let few : count ≤ left = omega arith in omega (arith, within)) fails done_so))

  module _ (q : Request) (k : Comes) (comes : (why : ReplyError) (bytes : List ℕ) → IsSo (k why bytes)) where
    pub reads_for_so : IsSo (reads_for g q k)
    reads_for_so =
        if_so_by IsSo (is_too_long q || is_past (size_of g) q) (k error.Invalid [])
        (reads_on (first_block q) (touched (skipped q) q.length) [] (k error.Io []) (λ bytes. k error.None (take q.length (drop (skipped q) bytes))))
        (λ bad. comes error.Invalid [])
        (λ good. by q.length (none_right (is_too_long q) (is_past (size_of g) q) good) refl)
      where
        by : (length : ℕ) → is_past (size_of g) q ≡ false → q.length ≡ length
            → IsSo (reads_on (first_block q) (touched (skipped q) length) [] (k error.Io []) (λ bytes. k error.None (take q.length (drop (skipped q) bytes))))
        by zero inside same = comes error.None (take q.length (drop (skipped q) []))
        by (suc n) inside same =
            reads_on_so (first_block q) (touched (skipped q) (suc n)) [] (k error.Io []) (λ bytes. k error.None (take q.length (drop (skipped q) bytes)))
            (let all = fits g q inside in omega (arith, all, same)) (comes error.Io []) (λ bytes. comes error.None (take q.length (drop (skipped q) bytes)))

    module _ (inside : is_past (size_of g) q ≡ false) (some : (q.length == 0) ≡ false) where
      pub writes_blocks_so : (bytes : List ℕ) (refused done : Program) → IsSo refused → IsSo done → IsSo (writes_blocks g q bytes refused done)
      writes_blocks_so bytes refused done fails done_so =
          let more = eqb-false q.length 0 some in
          let all = fits g q inside in
          let first_in : first_block q < block_count g = omega (arith, all, more) in
          if_so_by IsSo (skipped q == 0) (behind []) (tries (ReadBlock (first_block q)) refused behind) (λ none. behind_so [])
          (λ part. tried_so (ReadBlock (first_block q)) refused behind first_in fails behind_so)
        where
          last : List ℕ → List ℕ → Program
          last front back = writes_on g (touched (skipped q) q.length) (first_block q) (touched (skipped q) q.length) (around q front bytes back) refused done

          behind : List ℕ → Program
          behind front = reads_back q front refused (last front)

          last_so : (front back : List ℕ) → IsSo (last front back)
          last_so front back =
              writes_on_so (touched (skipped q) q.length) (first_block q) (touched (skipped q) q.length) (around q front bytes back) refused done
              (within q.length refl) fails done_so
            where
              within : (length : ℕ) → q.length ≡ length → first_block q + touched (skipped q) length ≤ block_count g
              within zero same = absurd (eqb-false q.length 0 some same)
              within (suc n) same = let all = fits g q inside in omega (arith, all, same)

          behind_so : (front : List ℕ) → IsSo (behind front)
          behind_so front =
              if_so_by IsSo (end_within q == 0) (last front []) (if_so (was_read q) (last front front) (tries (ReadBlock (end_block q)) refused (last front)))
              (λ none. last_so front [])
              (λ part. if_so_by IsSo (was_read q) (last front front) (tries (ReadBlock (end_block q)) refused (last front)) (λ was. last_so front front)
              (λ not. tried_so (ReadBlock (end_block q)) refused (last front) (end_fits g q inside part) fails (last_so front)))

    pub writes_for_so : (bytes : List ℕ) → IsSo (writes_for g q bytes k)
    writes_for_so bytes =
        if_so_by IsSo (is_too_long q) (k error.Invalid [])
        (if_so (is_past (size_of g) q) (k error.NoSpace []) (if_so (q.length == 0) (k error.None []) (writes_blocks g q bytes (k error.Io []) (k error.None []))))
        (λ long. comes error.Invalid [])
        (λ short. if_so_by IsSo (is_past (size_of g) q) (k error.NoSpace [])
        (if_so (q.length == 0) (k error.None []) (writes_blocks g q bytes (k error.Io []) (k error.None []))) (λ past. comes error.NoSpace [])
        (λ inside. if_so_by IsSo (q.length == 0) (k error.None []) (writes_blocks g q bytes (k error.Io []) (k error.None [])) (λ none. comes error.None [])
        (λ some. writes_blocks_so inside some bytes (k error.Io []) (k error.None []) (comes error.Io []) (comes error.None []))))

    pub responds_so : (bytes : List ℕ) (of : Command) → IsSo (responds g q bytes k of)
    responds_so bytes command.Read = reads_for_so
    responds_so bytes command.Write = writes_for_so bytes
    responds_so bytes command.Disconnect = comes error.None []
    responds_so bytes command.Flush = comes error.None []
    responds_so bytes command.Other = comes error.Invalid []

-- ---- whole sessions

-- what a session ends with by itself
abbrev pub IsEnd : Status → Type 0
IsEnd Done = ⊤
IsEnd (Input needed took) = ⊤
IsEnd (BadMessage number) = ⊤
IsEnd _ = ⊥

pub record IsOfSession (g : Geometry) (IsSo : Program → Type 0) : Type 0 where
  pub ends : (status : Status) → IsEnd status → IsSo (Over status)
  pub takes : (n : ℕ) (k short : List ℕ → Program) → ((bytes : List ℕ) → IsSo (k bytes)) → ((bytes : List ℕ) → IsSo (short bytes)) → IsSo (take_exactly n k short)
  pub puts : (bytes : List ℕ) (program : Program) → IsSo program → IsSo (Put bytes program)
  pub tries : (step : Step) (k : Answer step → Bool → Program) → IsOfRequest g step → ((answer : Answer step) (left : Bool) → IsSo (k answer left)) → IsSo (Try step k)

module _ (g : Geometry) (IsSo : Program → Type 0) (nodes : IsOfSession g IsSo) where
  late_so : (number : ℕ) → IsSo (too_late number)
  late_so number = nodes.takes 1 (λ byte. Over (BadMessage number)) (λ none. Over Done) (λ byte. nodes.ends (BadMessage number) tt) (λ none. nodes.ends Done tt)

  ended_so : (needed : ℕ) (bytes : List ℕ) → IsSo (ends_in_header needed bytes)
  ended_so needed [] = nodes.ends Done tt
  ended_so needed (byte ∷ bytes) = nodes.ends (Input needed (length (byte ∷ bytes))) tt

  header_so : (needed : ℕ) (k : List ℕ → Program) → ((bytes : List ℕ) → IsSo (k bytes)) → IsSo (takes_header needed k)
  header_so needed k so = nodes.takes needed k (ends_in_header needed) so (ended_so needed)

  data_so : (header length : ℕ) (k : List ℕ → Program) → ((bytes : List ℕ) → IsSo (k bytes)) → IsSo (takes_data header length k)
  data_so header zero k so = so []
  data_so header (suc n) k so =
      nodes.takes (suc n) k (λ bytes. Over (Input (header + suc n) (header + length bytes))) so
      (λ bytes. nodes.ends (Input (header + suc n) (header + length bytes)) tt)

  message_so : {M : Type 0} (number : ℕ) (k : M → Program) (said : Option M) → ((message : M) → IsSo (k message)) → IsSo (if_message number k said)
  message_so number k None so = nodes.ends (BadMessage number) tt
  message_so number k (Some message) so = so message

  answers_so : (q : Request) (rest : Program) → IsSo rest → IsSo (answers g q rest)
  answers_so q rest so =
      data_so REQUEST_LENGTH (data_length q) (λ bytes. responds g q bytes (replies q rest) q.command)
      (λ bytes. responds_so g IsSo nodes.tries q (replies q rest)
      (λ why bytes. nodes.puts (simple_reply why q.cookie ++ bytes) rest so) bytes q.command)

  -- one request, where the rest is so after each
  one_so : (q : Request) (rest : Program) → IsSo rest → IsSo (if_so (is_disconnect q.command) (Over Done) (answers g q rest))
  one_so q rest so =
      if_so_by IsSo (is_disconnect q.command) (Over Done) (answers g q rest) (λ goes. nodes.ends Done tt) (λ stays. answers_so q rest so)

  pub requests_so : (turns number taken : ℕ) → IsSo (requests g turns number taken)
  requests_so zero number taken = late_so number
  requests_so (suc turns) number taken =
      let one : Request → Program =
      λ q. if_so (is_disconnect q.command) (Over Done) (answers g q (requests g turns (number + 1) (taken + REQUEST_LENGTH + data_length q))) in
      if_so_by IsSo (nat_le SESSION_LIMIT taken) (too_late number) (takes_header REQUEST_LENGTH (λ header. if_message number one (read_request header)))
      (λ late. late_so number)
      (λ early. header_so REQUEST_LENGTH (λ header. if_message number one (read_request header))
      (λ header. message_so number one (read_request header)
      (λ q. one_so q (requests g turns (number + 1) (taken + REQUEST_LENGTH + data_length q))
      (requests_so turns (number + 1) (taken + REQUEST_LENGTH + data_length q)))))

  module _ (export : List ℕ) (behind : (number taken : ℕ) → Program) (behind_so : (number taken : ℕ) → IsSo (behind number taken)) where
    option_so : (o : OptionRequest) (named more : Program) → IsSo named → IsSo more → IsSo (answers_option o export named more)
    option_so o named more named_so more_so =
        if_so_by IsSo (o.option == EXPORT_NAME) (Put export named)
        (if_so (o.option == ABORT) (Put (option_reply ABORT ACK) (Over Done)) (Put (option_reply o.option ERR_UNSUP) more)) (λ is. nodes.puts export named named_so)
        (λ other. if_so_by IsSo (o.option == ABORT) (Put (option_reply ABORT ACK) (Over Done)) (Put (option_reply o.option ERR_UNSUP) more)
        (λ is. nodes.puts (option_reply ABORT ACK) (Over Done) (nodes.ends Done tt)) (λ unknown. nodes.puts (option_reply o.option ERR_UNSUP) more more_so))

    options_so : (turns number taken : ℕ) → IsSo (options export behind turns number taken)
    options_so zero number taken = late_so number
    options_so (suc turns) number taken =
        let one : OptionRequest → Program =
        λ o. takes_data OPTION_LENGTH o.length
        (λ bytes. answers_option o export (behind (number + 1) (taken + OPTION_LENGTH + o.length))
        (options export behind turns (number + 1) (taken + OPTION_LENGTH + o.length))) in
        if_so_by IsSo (nat_le SESSION_LIMIT taken) (too_late number) (takes_header OPTION_LENGTH (λ header. if_message number one (read_option header)))
        (λ late. late_so number)
        (λ early. header_so OPTION_LENGTH (λ header. if_message number one (read_option header))
        (λ header. message_so number one (read_option header)
        (λ o. data_so OPTION_LENGTH o.length
        (λ bytes. answers_option o export (behind (number + 1) (taken + OPTION_LENGTH + o.length))
        (options export behind turns (number + 1) (taken + OPTION_LENGTH + o.length)))
        (λ bytes. option_so o (behind (number + 1) (taken + OPTION_LENGTH + o.length))
        (options export behind turns (number + 1) (taken + OPTION_LENGTH + o.length)) (behind_so (number + 1) (taken + OPTION_LENGTH + o.length))
        (options_so turns (number + 1) (taken + OPTION_LENGTH + o.length))))))

  pub client_so : IsSo (client_program g)
  client_so =
      nodes.puts greeting (takes_header FLAGS_LENGTH said)
      (header_so FLAGS_LENGTH said
      (λ flags. if_so_by IsSo (are_flags flags) (options (export_answer (size_of g) (is_brief flags)) (requests g SESSION_LIMIT) SESSION_LIMIT 2 FLAGS_LENGTH)
      (Over (BadMessage 1))
      (λ known. options_so (export_answer (size_of g) (is_brief flags)) (requests g SESSION_LIMIT) (requests_so SESSION_LIMIT) SESSION_LIMIT 2 FLAGS_LENGTH)
      (λ unknown. nodes.ends (BadMessage 1) tt)))
    where
      said : List ℕ → Program
      said flags = if_so (are_flags flags) (options (export_answer (size_of g) (is_brief flags)) (requests g SESSION_LIMIT) SESSION_LIMIT 2 FLAGS_LENGTH)
          (Over (BadMessage 1))
