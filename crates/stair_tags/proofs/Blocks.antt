-- The blocks of a message of a number and a payload, and of its padding.
use Rattle.std.proofs.Common.{◌≡◌, ℕ, ◌+◌, ◌-◌, ◌*◌, ◌/◌, ◌<◌, ◌≤◌, List, ◌++◌, length, take, drop, slice_index, refl, sym, ap, ap₂, ◌∙◌, arith, length-append, length-drop}
use Rattle.std.proofs.lemmas.List.{append_assoc, drop-append-le, drop-drop, drop-take, get_or-drop, get_or-take, length-take-le, take-append-le, take-take, take_all}
use Rattle.std.specs.Int.{w64, to_be_bytes}
use Rattle.sha2.proofs.Absorbing256.{hash_after_next}
use Rattle.sha2.specs.Sha256.{compress, digest_bytes, hash_after, initial_hash_256, padded_message, padding, sha256, word_at}

-- the words of a block are those of its message from the block's first byte on
pub word_at_block : (s : List ℕ) (at k : ℕ) → k < 16 → word_at s (at + 4 * k) ≡ word_at (take 64 (drop at s)) (4 * k)
word_at_block s at k h =
    let byte : (i : ℕ) → i < 64 → slice_index (take 64 (drop at s)) i ≡ slice_index s (at + i) =
    λ i lt. get_or-take 64 (drop at s) i 0 lt ∙ get_or-drop at s i 0 in
    let e1 : at + (4 * k + 1) ≡ at + 4 * k + 1 = omega arith in
    let e2 : at + (4 * k + 2) ≡ at + 4 * k + 2 = omega arith in
    let e3 : at + (4 * k + 3) ≡ at + 4 * k + 3 = omega arith in
    rw (byte (4 * k) (omega arith), byte (4 * k + 1) (omega arith), byte (4 * k + 2) (omega arith), byte (4 * k + 3) (omega arith), e1, e2, e3) refl

-- the message of a number and the first 512 bytes of a sector, with its padding
unfoldable pub padded : ℕ → List ℕ → List ℕ
padded number s = padded_message (to_be_bytes w64 number ++ take 512 s)

length-number : (number : ℕ) → length (to_be_bytes w64 number) ≡ 8
length-number number = refl

length-payload : (s : List ℕ) → 512 ≤ length s → length (take 512 s) ≡ 512
length-payload s long = length-take-le 512 s long

pub padded_is : (number : ℕ) (s : List ℕ) → 512 ≤ length s → padded number s ≡ to_be_bytes w64 number ++ (take 512 s ++ padding 520)
unfolding padded
padded_is number s long =
    let whole : length (to_be_bytes w64 number ++ take 512 s) ≡ 520 =
    omega (arith, length-append (to_be_bytes w64 number) (take 512 s), length-number number, length-payload s long) in
    rw whole (append_assoc (to_be_bytes w64 number) (take 512 s) (padding 520))

-- it has nine blocks
pub padded_blocks : (number : ℕ) (s : List ℕ) → 512 ≤ length s → length (padded number s) / 64 ≡ 9
padded_blocks number s long =
    let l1 = length-append (to_be_bytes w64 number) (take 512 s ++ padding 520) in
    let l2 = length-append (take 512 s) (padding 520) in
    let l3 : length (padding 520) ≡ 56 = refl in
    let whole = ap length (padded_is number s long) in
    omega (arith, l1, l2, l3, whole, length-number number, length-payload s long)

hash_after_none : (p : List ℕ) → hash_after initial_hash_256 p 0 ≡ initial_hash_256
unfolding hash_after
hash_after_none p = refl

-- the state after the first block, of the number and the first 56 bytes
pub first_block : (number : ℕ) (s x h h' : List ℕ) → 512 ≤ length s → x ≡ to_be_bytes w64 number ++ take 56 s → h ≡ initial_hash_256
    → h' ≡ compress h (take 64 (drop 0 x)) → h' ≡ hash_after initial_hash_256 (padded number s) 1
first_block number s x h h' long block begun next =
    let nb = to_be_bytes w64 number in
    let p = padded number s in
    let inner : take 56 (take 512 s ++ padding 520) ≡ take 56 s =
    take-append-le 56 (take 512 s) (padding 520) (omega (arith, length-payload s long)) ∙ take-take 56 512 s (omega arith) in
    let whole : take 64 (nb ++ take 56 s) ≡ nb ++ take 56 s =
    take_all 64 (nb ++ take 56 s) (omega (arith, length-append nb (take 56 s), length-number number, length-take-le 56 s (omega arith))) in
    let front : take 64 (nb ++ (take 512 s ++ padding 520)) ≡ nb ++ take 56 s = ap (λ (xs : List ℕ). nb ++ xs) inner in
    let same : take 64 (drop (0 * 64) p) ≡ take 64 (drop 0 x) = ap (take 64) (padded_is number s long) ∙ front ∙ sym whole ∙ ap (take 64) (sym block) in
    next ∙ ap₂ compress (begun ∙ sym (hash_after_none p)) (sym same) ∙ sym (hash_after_next initial_hash_256 p 0)

-- the state after a block that is 64 bytes of the payload
pub next_block : (number : ℕ) (s h h' : List ℕ) (block : ℕ) → 512 ≤ length s → block < 7 → h ≡ hash_after initial_hash_256 (padded number s) (block + 1)
    → h' ≡ compress h (take 64 (drop (64 * block + 56) s)) → h' ≡ hash_after initial_hash_256 (padded number s) (block + 1 + 1)
next_block number s h h' block long below held next =
    let nb = to_be_bytes w64 number in
    let p = padded number s in
    let at = 64 * block + 56 in
    let left = 512 - at in
    let place : (block + 1) * 64 ≡ 8 + at = omega arith in
    let parts : 512 ≡ at + left = omega arith in
    let rest : drop ((block + 1) * 64) p ≡ drop at (take 512 s ++ padding 520) =
    ap (drop ((block + 1) * 64)) (padded_is number s long) ∙ ap (λ (k : ℕ). drop k (nb ++ (take 512 s ++ padding 520))) place
    ∙ sym (drop-drop at 8 (nb ++ (take 512 s ++ padding 520))) in
    let payload : drop at (take 512 s) ≡ take left (drop at s) = ap (λ (k : ℕ). drop at (take k s)) parts ∙ drop-take at left s in
    let room : 64 ≤ length (drop at (take 512 s)) = omega (arith, length-drop at (take 512 s), length-payload s long) in
    let same : take 64 (drop ((block + 1) * 64) p) ≡ take 64 (drop at s) =
    ap (take 64) (rest ∙ drop-append-le at (take 512 s) (padding 520) (omega (arith, length-payload s long)))
    ∙ take-append-le 64 (drop at (take 512 s)) (padding 520) room ∙ ap (take 64) payload ∙ take-take 64 left (drop at s) (omega arith) in
    next ∙ ap₂ compress held (sym same) ∙ sym (hash_after_next initial_hash_256 p (block + 1))

-- the digest after the last block, of the last 8 bytes and the padding
pub last_block : (number : ℕ) (s x h h' d : List ℕ) → 512 ≤ length s → x ≡ take 8 (drop 504 s) ++ padding 520 → h ≡ hash_after initial_hash_256 (padded number s) 8
    → h' ≡ compress h (take 64 (drop 0 x)) → d ≡ digest_bytes h' 8 → d ≡ sha256 (to_be_bytes w64 number ++ take 512 s)
unfolding sha256 padded
last_block number s x h h' d long block held next digest =
    let nb = to_be_bytes w64 number in
    let p = padded number s in
    let payload : drop 504 (take 512 s) ≡ take 8 (drop 504 s) = drop-take 504 8 s in
    let rest : drop (8 * 64) p ≡ drop 504 (take 512 s ++ padding 520) =
    ap (drop 512) (padded_is number s long) ∙ sym (drop-drop 504 8 (nb ++ (take 512 s ++ padding 520))) in
    let same : take 64 (drop (8 * 64) p) ≡ take 64 (drop 0 x) =
    ap (take 64) (rest ∙ drop-append-le 504 (take 512 s) (padding 520) (omega (arith, length-payload s long)) ∙ ap (λ (xs : List ℕ). xs ++ padding 520) payload ∙ sym block) in
    let after : h' ≡ hash_after initial_hash_256 p 9 = next ∙ ap₂ compress held (sym same) ∙ sym (hash_after_next initial_hash_256 p 8) in
    digest ∙ ap (λ (k : List ℕ). digest_bytes k 8) (after ∙ ap (hash_after initial_hash_256 p) (sym (padded_blocks number s long)))
