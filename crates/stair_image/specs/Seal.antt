-- Sealed sectors of image files.
use Rattle.std.specs.Prelude.{◌≡◌, ℕ, List, ◌++◌, take, drop}
use Rattle.std.specs.Int.{w64, to_be_bytes}
use Rattle.sha2.specs.Sha256.{sha256}

-- the tag of a payload in the sector of this number: SHA-256 (FIPS 180-4) over the number as eight bytes, big-endian,
-- followed by the payload
abbrev pub tag_of : ℕ → List ℕ → List ℕ
tag_of number payload = sha256 (to_be_bytes w64 number ++ payload)

-- the sector of this number with this payload: the payload, then its tag
abbrev pub sealed : ℕ → List ℕ → List ℕ
sealed number payload = payload ++ tag_of number payload

-- where the payload and the tag stand in a sector
abbrev pub payload_in : List ℕ → List ℕ
payload_in sector = take 512 sector

abbrev pub tag_in : List ℕ → List ℕ
tag_in sector = drop 512 sector

-- a sector whose tag is that of its payload
abbrev pub IsSealed : ℕ → List ℕ → Type 0
IsSealed number sector = tag_in sector ≡ tag_of number (payload_in sector)
