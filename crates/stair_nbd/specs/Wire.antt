-- The messages of the protocol, byte by byte. All numbers are big-endian.
use Rattle.std.specs.Prelude.{◌==◌, ◌&&◌, ℕ, Bool, true, false, List, ◌++◌, codes, drop, take, nat_le, replicate, Option, None, Some, if◌then◌else◌}
use Rattle.std.specs.Int.{w16, w32, w64, from_be_bytes, to_be_bytes}
use Rattle.stair_nbd.specs.declared.wire.Command.{Command}
use Rattle.stair_nbd.specs.declared.wire.Command.TheVariants as command
use Rattle.stair_nbd.specs.declared.wire.OptionRequest.{OptionRequest}
use Rattle.stair_nbd.specs.declared.wire.ReplyError.{ReplyError}
use Rattle.stair_nbd.specs.declared.wire.ReplyError.TheVariants as error
use Rattle.stair_nbd.specs.declared.wire.Request.{Request}

-- the number at a place in bytes
abbrev pub u16_at : ℕ → List ℕ → ℕ
u16_at at bytes = from_be_bytes w16 (take 2 (drop at bytes))

abbrev pub u32_at : ℕ → List ℕ → ℕ
u32_at at bytes = from_be_bytes w32 (take 4 (drop at bytes))

abbrev pub u64_at : ℕ → List ℕ → ℕ
u64_at at bytes = from_be_bytes w64 (take 8 (drop at bytes))

-- THE GREETING

-- The server speaks the fixed newstyle (bit 0), and leaves zeros out for a client that asks for it (bit 1).
abbrev pub greeting : List ℕ
greeting = codes "NBDMAGIC" ++ (codes "IHAVEOPT" ++ to_be_bytes w16 3)

-- THE CLIENT'S FLAGS

abbrev pub FLAGS_LENGTH : ℕ
FLAGS_LENGTH = 4

-- no bit but these two is set
abbrev pub are_flags : List ℕ → Bool
are_flags bytes = nat_le (u32_at 0 bytes) 3

-- bit 1 is set, given that no bit but 0 and 1 is
abbrev pub is_brief : List ℕ → Bool
is_brief bytes = nat_le 2 (u32_at 0 bytes)

-- whether zeros are to be left out; None if a flag is unknown
abbrev pub flags_said : List ℕ → Option Bool
flags_said bytes = if are_flags bytes then Some (is_brief bytes) else None

-- OPTIONS

abbrev pub OPTION_LENGTH : ℕ
OPTION_LENGTH = 16

-- `IHAVEOPT`
abbrev pub OPTION_MAGIC : ℕ
OPTION_MAGIC = 0x4948_4156_454f_5054

abbrev pub OPTION_DATA_LIMIT : ℕ
OPTION_DATA_LIMIT = 4096

abbrev pub EXPORT_NAME : ℕ
EXPORT_NAME = 1

abbrev pub ABORT : ℕ
ABORT = 2

-- what an option asks for; None if its magic is wrong or it has too many bytes
abbrev pub read_option : List ℕ → Option OptionRequest
read_option header =
    if (u64_at 0 header == OPTION_MAGIC) && nat_le (u32_at 12 header) OPTION_DATA_LIMIT
    then Some (record { option = u32_at 8 header; length = u32_at 12 header }) else None

-- An option was done (1), or is unknown (2^31 + 1).
abbrev pub ACK : ℕ
ACK = 1

abbrev pub ERR_UNSUP : ℕ
ERR_UNSUP = 0x8000_0001

abbrev pub option_reply : (option reply : ℕ) → List ℕ
option_reply option reply = to_be_bytes w64 0x0003_e889_0455_65a9
    ++ (to_be_bytes w32 option ++ (to_be_bytes w32 reply ++ to_be_bytes w32 0))

-- The size of the array in bytes; the transmission flags: there are flags (bit 0), and FLUSH is served (bit 2); and
-- zeros, unless the client has them left out.
abbrev pub export_answer : (size : ℕ) → Bool → List ℕ
export_answer size true = to_be_bytes w64 size ++ to_be_bytes w16 5
export_answer size false =
    to_be_bytes w64 size ++ (to_be_bytes w16 5 ++ replicate 124 0)

-- REQUESTS

abbrev pub REQUEST_LENGTH : ℕ
REQUEST_LENGTH = 28

abbrev pub REQUEST_MAGIC : ℕ
REQUEST_MAGIC = 0x2560_9513

abbrev pub command_of : ℕ → Command
command_of kind = if kind == 0 then command.Read
    else (if kind == 1 then command.Write else (if kind == 2 then command.Disconnect
    else (if kind == 3 then command.Flush else command.Other)))

abbrev pub request_of : List ℕ → Request
request_of header = record {
  command = command_of (u16_at 6 header);
  cookie = u64_at 8 header;
  offset = u64_at 16 header;
  length = u32_at 24 header;
}

-- what a request asks for; None if its magic is wrong. Its flags (bytes 4 and 5) are ignored.
abbrev pub read_request : List ℕ → Option Request
read_request header =
    if u32_at 0 header == REQUEST_MAGIC then Some (request_of header) else None

-- the number of bytes after its header
abbrev pub data_length_of : Command → ℕ → ℕ
data_length_of command.Write length = length
data_length_of _ length = 0

abbrev pub data_length : Request → ℕ
data_length q = data_length_of q.command q.length

-- REPLIES

abbrev pub error_code : ReplyError → ℕ
error_code error.None = 0
error_code error.Io = 5
error_code error.Invalid = 22
error_code error.NoSpace = 28

abbrev pub REPLY_LENGTH : ℕ
REPLY_LENGTH = 16

-- the header of a reply, after which come the bytes of a READ without an error
abbrev pub simple_reply : ReplyError → (cookie : ℕ) → List ℕ
simple_reply why cookie = to_be_bytes w32 0x6744_6698
    ++ (to_be_bytes w32 (error_code why) ++ to_be_bytes w64 cookie)
