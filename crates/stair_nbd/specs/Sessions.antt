-- What the parts of a session do, each up to where the next part takes over.
use Rattle.std.specs.Prelude.{◌≡◌, ◌+◌, ◌*◌, ◌<◌, ◌≤◌, ℕ, Bool, true, false, List, drop, take, Option, None, Some, Result, Ok, Err, OnOk}
use Rattle.stair_model.specs.Stripe.{SECTOR}
use Rattle.stair_array.specs.declared.fault.ArrayFault.{ArrayFault}
use Rattle.stair_command.specs.Outside.{SourceView}
use Rattle.stair_command.specs.Program.{Program, Over}
use Rattle.stair_command.specs.Talks.{TakesTo}
use Rattle.stair_status.specs.declared.status.Status.TheVariants.{Done}
use Rattle.stair_nbd.specs.declared.fault.NbdFault.{NbdFault}
use Rattle.stair_nbd.specs.declared.place.MessagePosition.{MessagePosition}
use Rattle.stair_nbd.specs.declared.reply.Reply.{Reply}
use Rattle.stair_nbd.specs.declared.wire.Request.{Request}
use Rattle.stair_nbd.specs.Client.{SESSION_LIMIT, is_past, is_too_long, skipped, status_of_nbd, takes_data}
use Rattle.stair_nbd.specs.Wire.{REPLY_LENGTH, REQUEST_LENGTH, data_length}

-- after a header that was taken, or before which the input ended
abbrev pub after_header : Result Bool NbdFault → List ℕ → (List ℕ → Program) → Program
after_header (Ok true) bytes k = k bytes
after_header (Ok false) bytes k = Over Done
after_header (Err why) bytes k = Over (status_of_nbd why)

-- after bytes that were taken
abbrev pub after_data : Result (Unit {0}) NbdFault → List ℕ → (List ℕ → Program) → Program
after_data (Ok done) bytes k = k bytes
after_data (Err why) bytes k = Over (status_of_nbd why)

-- after a part that gives no value
abbrev pub after_done : Result (Unit {0}) NbdFault → Program → Program
after_done (Ok done) rest = rest
after_done (Err why) rest = Over (status_of_nbd why)

-- after the options: the export was named, or the session is over
abbrev pub after_options : Result (Option MessagePosition) NbdFault → ((number taken : ℕ) → Program) → Program
after_options (Ok (Some place)) requests = requests place.number place.taken
after_options (Ok None) requests = Over Done
after_options (Err why) requests = Over (status_of_nbd why)

-- A position is counted correctly: each message before it had some bytes, and the last began before the limit.
pub record IsPlace (place : MessagePosition) : Type 0 where
  pub few : place.number ≤ place.taken
  pub within : place.taken < SESSION_LIMIT + 4294967296 + REQUEST_LENGTH

-- The most bytes of a request touch one block more than they fill.
abbrev pub BLOCKS : ℕ
BLOCKS = 65537 * SECTOR

-- A buffer has room for these blocks, and before them for the header of a reply.
abbrev pub BUFFER : ℕ
BUFFER = REPLY_LENGTH + BLOCKS

-- `count` bytes came after a request's header. If they are to be written, they are in the buffer, after as many bytes
-- as the first block keeps before them.
abbrev pub IsKept : (size : ℕ) → Request → (count : ℕ) → List ℕ → (buffer : List ℕ) → Type 0
IsKept size q count bytes buffer = is_too_long q ≡ false → is_past size q ≡ false
    → bytes ≡ take count (drop (skipped q) buffer)

pub record TakesData {S : Type 0} (view : SourceView S) (size : ℕ) (q : Request)
    (result : Result (Unit {0}) NbdFault) (buffer : List ℕ) (old new : S) : Type 0 where
  pub bytes : List ℕ
  pub kept : OnOk result (IsKept size q (data_length q) bytes buffer)
  pub takes : (k : List ℕ → Program) → TakesTo view (takes_data REQUEST_LENGTH (data_length q) k)
      (after_data result bytes k) old new

-- after steps that were all done, or of which one was refused
abbrev pub after_steps : Result (Unit {0}) ArrayFault → (refused done : Program) → Program
after_steps (Ok ok) refused done = done
after_steps (Err why) refused done = refused

-- the bytes of a reply
abbrev pub data_of : Reply → (buffer : List ℕ) → List ℕ
data_of reply buffer = take reply.length (drop reply.start buffer)
