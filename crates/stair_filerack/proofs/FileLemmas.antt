-- What is read from a file.
use Rattle.std.proofs.Common.{◌≡◌, ◌≤◌, ◌<◌, ℕ, ◌+◌, List, ◌++◌, length, take, Option, None, Some, Result, Ok, Err, OnErr, OnOk, subst, ap, ◌∙◌, sym, inr, length-take-le}
use Rattle.std.specs.Prelude.{MatchOption}
use Rattle.std.specs.Option.{SomeIff}
use Rattle.std.specs.Io.KnownBytes.{Consumes, Keeps}
use Rattle.std.proofs.KnownBytes.{Consumes-kept}
use Rattle.std.proofs.Math.Seq.{take-append-add}
use Rattle.std.proofs.lemmas.List.{take-append-le}
use borrow.Rule.Slice.PartMut.{put_mid, post_of}
use Rattle.stair_image.specs.Seal.{sealed, payload_in, IsSealed}
use Rattle.stair_image.proofs.SealLemmas.{sealed-payload_in}
use Rattle.stair_filerack.specs.Files.{IsNoSector, ReadsFewer}

-- what stood in front of a place, and the first bytes that were written from there on
pub take-put_mid-more : (place room count : ℕ) (bytes new : List ℕ) → place ≤ length bytes → count ≤ length new →
    take place bytes ++ take count new ≡ take (place + count) (put_mid place room bytes new)
take-put_mid-more place room count bytes new within fits =
    let behind = post_of place room bytes in
    let parted : take (place + count) (put_mid place room bytes new) ≡ take place bytes ++ take count (new ++ behind) =
    subst (λ (n : ℕ). take (n + count) (put_mid place room bytes new) ≡ take place bytes ++ take count (new ++ behind))
    (length-take-le place bytes within) (take-append-add (take place bytes) (new ++ behind) count) in
    sym (parted ∙ ap (λ (l : List ℕ). take place bytes ++ l) (take-append-le count new behind fits))

-- the bytes of a sector that unseals are its payload, sealed; one that doesn't isn't sealed
pub unseal-read : (found : Option (List ℕ)) (number sector : ℕ) (bytes : List ℕ) (old new : Option (List ℕ)) →
    number ≡ sector → SomeIff found (IsSealed number bytes) (payload_in bytes) → length bytes ≡ 544 → Consumes old new bytes →
    MatchOption found (IsNoSector sector old new) (λ payload. Consumes old new (sealed sector payload))
unseal-read None number sector bytes old new is unsealed whole taken =
    (bytes, taken, inr (whole, λ is_sealed. unsealed (subst (λ (n : ℕ). IsSealed n bytes) (sym is) is_sealed)))
unseal-read (Some payload) number sector bytes old new is unsealed whole taken =
    let its_bytes : bytes ≡ sealed sector payload =
    sealed-payload_in number bytes unsealed.0 ∙ ap (sealed number) (sym unsealed.1) ∙ ap (λ (n : ℕ). sealed n payload) is in
    subst (λ (bs : List ℕ). Consumes old new bs) its_bytes taken

-- the bytes that were read before a read failed are fewer than there is room for
pub read-fewer : (old mid new : Option (List ℕ)) (filled count : ℕ) (bytes : List ℕ) → filled ≤ length bytes → filled < count →
    Consumes old mid (take filled bytes) → Keeps mid new → ReadsFewer count old new
read-fewer old mid new filled count bytes within short taken kept = (
  take filled bytes,
  Consumes-kept old mid new (take filled bytes) taken kept,
  subst (λ (n : ℕ). n < count) (sym (length-take-le filled bytes within)) short,
)

pub OnErr-of : {T E : Type 0} (result : Result T E) (P : Type 0) → P → OnErr result P
OnErr-of (Ok value) P holds = tt
OnErr-of (Err error) P holds = holds

pub OnOk-of : {T E : Type 0} (result : Result T E) (P : Type 0) → P → OnOk result P
OnOk-of (Ok value) P holds = holds
OnOk-of (Err error) P holds = tt
