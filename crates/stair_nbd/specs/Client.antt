-- What is done for a client: its messages are taken and answered in order.
use Rattle.std.specs.Prelude.{◌==◌, ◌||◌, ◌&&◌, ◌+◌, ◌-◌, ◌*◌, ◌/◌, ◌%◌, ℕ, zero, suc, Bool, true, false, nat_le, nat_lt, List, [], ◌∷◌, ◌++◌, length, take, drop, Option, None, Some, Result, Ok, Err}
use Rattle.stair_model.specs.Geometry.{Geometry, block_count}
use Rattle.stair_model.specs.Stripe.{SECTOR}
use Rattle.stair_array.specs.Arrays.{blocks_of}
use Rattle.stair_array.specs.Machine.{GivenBy, ReadBlock, Refusal, Step, WriteBlocks}
use Rattle.stair_command.specs.Pieces.{piece_blocks}
use Rattle.stair_command.specs.Program.{Program, Over, Put, Try, if_so, take_exactly}
use Rattle.stair_status.specs.declared.status.Status.{Status}
use Rattle.stair_status.specs.declared.status.Status.TheVariants.{BadMessage, Done, Input, InputFault, OutputFault}
use Rattle.stair_nbd.specs.declared.fault.NbdFault.{NbdFault}
use Rattle.stair_nbd.specs.declared.fault.NbdFault.TheVariants as fault
use Rattle.stair_nbd.specs.declared.wire.Command.{Command}
use Rattle.stair_nbd.specs.declared.wire.Command.TheVariants as command
use Rattle.stair_nbd.specs.declared.wire.OptionRequest.{OptionRequest}
use Rattle.stair_nbd.specs.declared.wire.ReplyError.{ReplyError}
use Rattle.stair_nbd.specs.declared.wire.ReplyError.TheVariants as error
use Rattle.stair_nbd.specs.declared.wire.Request.{Request}
use Rattle.stair_nbd.specs.Wire.{ABORT, ACK, ERR_UNSUP, EXPORT_NAME, FLAGS_LENGTH, OPTION_LENGTH, REQUEST_LENGTH, are_flags, data_length, export_answer, greeting, is_brief, option_reply, read_option, read_request, simple_reply}

-- the size of the array in bytes
abbrev pub size_of : Geometry → ℕ
size_of g = SECTOR * block_count g

-- TAKING

-- The input ends within a header. Before its first byte there is no message, and the session is done.
abbrev pub ends_in_header : (needed : ℕ) → List ℕ → Program
ends_in_header needed [] = Over Done
ends_in_header needed (byte ∷ bytes) = Over (Input needed (length (byte ∷ bytes)))

-- takes a whole header of `needed` bytes
abbrev pub takes_header : (needed : ℕ) → (List ℕ → Program) → Program
takes_header needed k = take_exactly needed k (ends_in_header needed)

-- takes the `length` bytes of a message after a header of `header` bytes; there may be none
abbrev pub takes_data : (header length : ℕ) → (List ℕ → Program) → Program
takes_data header zero k = k []
takes_data header (suc n) k = take_exactly (suc n) k
    (λ bytes. Over (Input (header + suc n) (header + length bytes)))

-- A message must begin before this number of bytes was taken.
abbrev pub SESSION_LIMIT : ℕ
SESSION_LIMIT = 1099511627776

-- no message may begin any more; only the end of the input may come
abbrev pub too_late : (number : ℕ) → Program
too_late number = take_exactly 1 (λ byte. Over (BadMessage number)) (λ none. Over Done)

-- STEPS FOR A REQUEST

-- the program after the answer of a step; all refusals lead to the same program
abbrev pub if_answered : {X : Type 0} → (refused : Program) → (X → Program) → Result X Refusal → Program
if_answered refused k (Ok x) = k x
if_answered refused k (Err refusal) = refused

abbrev pub tries : (step : Step) → (refused : Program) → (GivenBy step → Program) → Program
tries step refused k = Try step (λ answer left. if_answered refused k answer)

-- reads `count` blocks from `block` on, after the bytes that were read so far
abbrev pub reads_on : (block count : ℕ) → List ℕ → (refused : Program) → (List ℕ → Program) → Program
reads_on block zero so_far refused k = k so_far
reads_on block (suc count) so_far refused k = tries (ReadBlock block) refused
    (λ bytes. reads_on (block + 1) count (so_far ++ bytes) refused k)

-- Writes `left` blocks of these bytes from `block` on. Each step writes up to the end of a stripe. There are no more
-- turns than blocks.
abbrev pub writes_on : Geometry → (turns block left : ℕ) → List ℕ → (refused done : Program) → Program
writes_on g zero block left bytes refused done = done
writes_on g (suc turns) block left bytes refused done = if_so (left == 0) done
    (let count = piece_blocks g block left in
    tries (WriteBlocks block (blocks_of (take (SECTOR * count) bytes))) refused
    (λ ok. writes_on g turns (block + count) (left - count) (drop (SECTOR * count) bytes)
    refused done))

-- WHERE THE BYTES OF A REQUEST LIE

-- the first block, how many bytes of it come before them, and how many blocks they touch
abbrev pub first_block : Request → ℕ
first_block q = q.offset / SECTOR

abbrev pub skipped : Request → ℕ
skipped q = q.offset % SECTOR

abbrev pub touched : (skipped length : ℕ) → ℕ
touched skipped zero = 0
touched skipped (suc n) = (skipped + n) / SECTOR + 1

-- the block in which they end, and how many bytes of it come before their end; none if they end with the block before
abbrev pub end_block : Request → ℕ
end_block q = (q.offset + q.length) / SECTOR

abbrev pub end_within : Request → ℕ
end_within q = (q.offset + q.length) % SECTOR

-- the most bytes of data that a request may have
abbrev pub DATA_LIMIT : ℕ
DATA_LIMIT = 33554432

abbrev pub is_too_long : Request → Bool
is_too_long q = nat_lt DATA_LIMIT q.length

-- A request is past the end if it ends after an array of `size` bytes.
abbrev pub is_past : (size : ℕ) → Request → Bool
is_past size q = nat_lt size (q.offset + q.length)

-- READING

-- the program after a request, by its error or none and the bytes after the reply's header
abbrev pub Comes : Type 0
Comes = ReplyError → List ℕ → Program

abbrev pub reads_for : Geometry → Request → Comes → Program
reads_for g q k = if_so (is_too_long q || is_past (size_of g) q) (k error.Invalid [])
    (reads_on (first_block q) (touched (skipped q) q.length) [] (k error.Io [])
    (λ bytes. k error.None (take q.length (drop (skipped q) bytes))))

-- WRITING

-- The first block is read if the bytes begin within it.
abbrev pub reads_front : Request → (refused : Program) → (List ℕ → Program) → Program
reads_front q refused k =
    if_so (skipped q == 0) (k []) (tries (ReadBlock (first_block q)) refused k)

-- The last block is read if the bytes end within it, unless it is the first block and was read.
abbrev pub was_read : Request → Bool
was_read q = nat_lt 0 (skipped q) && (end_block q == first_block q)

abbrev pub reads_back : Request → (front : List ℕ) → (refused : Program) → (List ℕ → Program) → Program
reads_back q front refused k = if_so (end_within q == 0) (k [])
    (if_so (was_read q) (k front) (tries (ReadBlock (end_block q)) refused k))

-- the bytes with what these blocks held around them
abbrev pub around : Request → (front bytes back : List ℕ) → List ℕ
around q front bytes back =
    take (skipped q) front ++ (bytes ++ drop (end_within q) back)

abbrev pub writes_blocks : Geometry → Request → List ℕ → (refused done : Program) → Program
writes_blocks g q bytes refused done = reads_front q refused
    (λ front. reads_back q front refused
    (λ back. writes_on g (touched (skipped q) q.length) (first_block q)
    (touched (skipped q) q.length) (around q front bytes back) refused done))

abbrev pub writes_for : Geometry → Request → List ℕ → Comes → Program
writes_for g q bytes k = if_so (is_too_long q) (k error.Invalid [])
    (if_so (is_past (size_of g) q) (k error.NoSpace [])
    (if_so (q.length == 0) (k error.None [])
    (writes_blocks g q bytes (k error.Io []) (k error.None []))))

-- REQUESTS

-- What is done for a request with these bytes. FLUSH has nothing to do: writes are done before they are answered.
abbrev pub responds : Geometry → Request → List ℕ → Comes → Command → Program
responds g q bytes k command.Read = reads_for g q k
responds g q bytes k command.Write = writes_for g q bytes k
responds g q bytes k command.Disconnect = k error.None []
responds g q bytes k command.Flush = k error.None []
responds g q bytes k command.Other = k error.Invalid []

-- its reply, written as one piece
abbrev pub replies : Request → (rest : Program) → Comes
replies q rest why bytes = Put (simple_reply why q.cookie ++ bytes) rest

abbrev pub answers : Geometry → Request → (rest : Program) → Program
answers g q rest = takes_data REQUEST_LENGTH (data_length q)
    (λ bytes. responds g q bytes (replies q rest) q.command)

abbrev pub is_disconnect : Command → Bool
is_disconnect command.Disconnect = true
is_disconnect _ = false

-- the program after message `number`: `k` takes what it asks for, and a bad message ends the session
abbrev pub if_message : {M : Type 0} → (number : ℕ) → (M → Program) → Option M → Program
if_message number k None = Over (BadMessage number)
if_message number k (Some message) = k message

-- The rest of a session after `taken` bytes, where the next message has this number. Each message has some bytes: as
-- many turns as the limit are enough.
abbrev pub requests : Geometry → (turns number taken : ℕ) → Program
requests g zero number taken = too_late number
requests g (suc turns) number taken = if_so (nat_le SESSION_LIMIT taken) (too_late number)
    (takes_header REQUEST_LENGTH (λ header. if_message number
    (λ q. if_so (is_disconnect q.command) (Over Done)
    (answers g q (requests g turns (number + 1) (taken + REQUEST_LENGTH + data_length q))))
    (read_request header)))

-- OPTIONS

-- answers an option that was taken whole; after the one that names the export come requests
abbrev pub answers_option : OptionRequest → (export : List ℕ) → (requests more : Program) → Program
answers_option o export requests more = if_so (o.option == EXPORT_NAME) (Put export requests)
    (if_so (o.option == ABORT) (Put (option_reply ABORT ACK) (Over Done))
    (Put (option_reply o.option ERR_UNSUP) more))

abbrev pub options : (export : List ℕ) → (requests : (number taken : ℕ) → Program)
    → (turns number taken : ℕ) → Program
options export requests zero number taken = too_late number
options export requests (suc turns) number taken =
    if_so (nat_le SESSION_LIMIT taken) (too_late number)
    (takes_header OPTION_LENGTH (λ header. if_message number
    (λ o. takes_data OPTION_LENGTH o.length
    (λ bytes. answers_option o export
    (requests (number + 1) (taken + OPTION_LENGTH + o.length))
    (options export requests turns (number + 1) (taken + OPTION_LENGTH + o.length))))
    (read_option header)))

-- THE SESSION

-- the handshake: the client's flags are its first message
abbrev pub shakes_hands : (size : ℕ) → (requests : (number taken : ℕ) → Program) → Program
shakes_hands size requests = Put greeting (takes_header FLAGS_LENGTH (λ flags.
    if_so (are_flags flags)
    (options (export_answer size (is_brief flags)) requests SESSION_LIMIT 2 FLAGS_LENGTH)
    (Over (BadMessage 1))))

abbrev pub client_program : Geometry → Program
client_program g = shakes_hands (size_of g) (requests g SESSION_LIMIT)

-- the status of a session, by its fault and by its result
abbrev pub status_of_nbd : NbdFault → Status
status_of_nbd (fault.Input needed took) = Input needed took
status_of_nbd fault.InputFault = InputFault
status_of_nbd fault.OutputFault = OutputFault
status_of_nbd (fault.BadMessage number) = BadMessage number

abbrev pub status_of : Result (Unit {0}) NbdFault → Status
status_of (Ok done) = Done
status_of (Err why) = status_of_nbd why
