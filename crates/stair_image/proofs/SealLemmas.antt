-- A payload and a tag, joined and parted.
use Rattle.std.proofs.Common.{◌≡◌, ℕ, List, [], ◌++◌, length, take, drop, subst, ap, sym, ◌∙◌, append-nil}
use Rattle.std.proofs.Math.Seq.{take-append_seam, drop-append_seam, drop-length}
use borrow.Rule.Slice.PartMut.{put_mid}
use Rattle.std.proofs.lemmas.List.{take-append-drop}
use Rattle.stair_image.specs.Seal.{sealed, tag_of, payload_in, tag_in, IsSealed}

pub payload_in-append : (payload tag : List ℕ) → length payload ≡ 512 → payload_in (payload ++ tag) ≡ payload
payload_in-append payload tag long =
    subst (λ (n : ℕ). take n (payload ++ tag) ≡ payload) long (take-append_seam payload tag)

pub tag_in-append : (payload tag : List ℕ) → length payload ≡ 512 → tag_in (payload ++ tag) ≡ tag
tag_in-append payload tag long =
    subst (λ (n : ℕ). drop n (payload ++ tag) ≡ tag) long (drop-append_seam payload tag)

-- a payload and room for a tag, after the tag was written there
pub put_mid-tag : (payload room tag : List ℕ) → length payload ≡ 512 → length room ≡ 32 →
    put_mid 512 32 (payload ++ room) tag ≡ payload ++ tag
put_mid-tag payload room tag long wide =
    let spent : drop 32 room ≡ [] =
    subst (λ (n : ℕ). drop n room ≡ []) wide (drop-length room) in
    rw (payload_in-append payload room long, tag_in-append payload room long, spent, append-nil)

-- a sealed sector is its payload, sealed
pub sealed-payload_in : (number : ℕ) (sector : List ℕ) → IsSealed number sector → sector ≡ sealed number (payload_in sector)
sealed-payload_in number sector is_sealed =
    sym (take-append-drop 512 sector) ∙ ap (λ (tag : List ℕ). payload_in sector ++ tag) is_sealed

-- what was sealed is its payload, sealed
pub sealed-again : (number : ℕ) (payload sector : List ℕ) → length payload ≡ 512 → sector ≡ sealed number payload
    → sector ≡ sealed number (payload_in sector)
sealed-again number payload sector long is =
    is ∙ ap (sealed number) (sym (ap payload_in is ∙ payload_in-append payload (tag_of number payload) long))
