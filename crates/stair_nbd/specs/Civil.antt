-- Inputs of a client that sends no bad message.
use Rattle.std.specs.Prelude.{◌≡◌, ◌+◌, ◌<◌, ℕ, true, false, List, [], ◌++◌, length, Some}
use Rattle.stair_nbd.specs.declared.wire.OptionRequest.{OptionRequest}
use Rattle.stair_nbd.specs.declared.wire.Request.{Request}
use Rattle.stair_nbd.specs.Client.{SESSION_LIMIT, is_disconnect}
use Rattle.stair_nbd.specs.Wire.{ABORT, EXPORT_NAME, FLAGS_LENGTH, OPTION_LENGTH, REQUEST_LENGTH, are_flags, data_length, read_option, read_request}

-- A message after `taken` bytes is a header and as many bytes as the header says.
pub record IsMessage (header_length count : ℕ) (taken : ℕ) (header bytes : List ℕ) : Type 0 where
  pub early : taken < SESSION_LIMIT
  pub whole : length header ≡ header_length
  pub of : length bytes ≡ count

-- The rest of an input after `taken` bytes is requests, up to one that ends the session or to the end of the input.
pub data AreRequests : (taken : ℕ) → List ℕ → Type 0 where
  Silent : (taken : ℕ) → AreRequests taken []
  Leaves : (taken : ℕ) (q : Request) (header rest : List ℕ)
      → IsMessage REQUEST_LENGTH 0 taken header [] → read_request header ≡ Some q
      → is_disconnect q.command ≡ true → AreRequests taken (header ++ rest)
  Asks : (taken : ℕ) (q : Request) (header bytes rest : List ℕ)
      → IsMessage REQUEST_LENGTH (data_length q) taken header bytes
      → read_request header ≡ Some q → is_disconnect q.command ≡ false
      → AreRequests (taken + REQUEST_LENGTH + data_length q) rest
      → AreRequests taken (header ++ (bytes ++ rest))

-- The rest of an input is options: up to the one that names the export, after which come requests; or to one that ends
-- the session; or to the end of the input.
pub data AreOptions : (taken : ℕ) → List ℕ → Type 0 where
  Silent : (taken : ℕ) → AreOptions taken []
  Aborts : (taken : ℕ) (o : OptionRequest) (header bytes rest : List ℕ)
      → IsMessage OPTION_LENGTH o.length taken header bytes → read_option header ≡ Some o
      → o.option ≡ ABORT → AreOptions taken (header ++ (bytes ++ rest))
  Names : (taken : ℕ) (o : OptionRequest) (header bytes rest : List ℕ)
      → IsMessage OPTION_LENGTH o.length taken header bytes → read_option header ≡ Some o
      → o.option ≡ EXPORT_NAME → AreRequests (taken + OPTION_LENGTH + o.length) rest
      → AreOptions taken (header ++ (bytes ++ rest))
  Haggles : (taken : ℕ) (o : OptionRequest) (header bytes rest : List ℕ)
      → IsMessage OPTION_LENGTH o.length taken header bytes → read_option header ≡ Some o
      → ¬ (o.option ≡ ABORT) → ¬ (o.option ≡ EXPORT_NAME)
      → AreOptions (taken + OPTION_LENGTH + o.length) rest
      → AreOptions taken (header ++ (bytes ++ rest))

-- A whole input is empty, or the client's flags and what follows them.
pub data IsCivil : List ℕ → Type 0 where
  Silent : IsCivil []
  Speaks : (flags rest : List ℕ) → length flags ≡ FLAGS_LENGTH → are_flags flags ≡ true
      → AreOptions FLAGS_LENGTH rest → IsCivil (flags ++ rest)
