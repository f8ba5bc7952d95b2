-- What is written after the bytes so far.
use Rattle.std.proofs.Common.{◌≡◌, ℕ, ◌+◌, ◌-◌, ◌≤◌, List, ◌++◌, length, take, drop, replicate, refl, sym, ap, ◌∙◌, arith}
use Rattle.std.proofs.lemmas.List.{take_at, drop_at, drop-drop, drop-take, take-take, take-append-drop, length-replicate, length-append, length-take, length-drop, replicate-append-replicate}
use Rattle.std.proofs.lemmas.Slice.{take-put_mid, drop-put_mid}
use borrow.Rule.Slice.PartMut.{put_mid}
use Rattle.stair_super.specs.Spelling.{zeros}

pub zeros_split : (n m k : ℕ) → n + m ≡ k → zeros k ≡ zeros n ++ zeros m
unfolding zeros
zeros_split n m k e = ap (λ (l : ℕ). replicate l 0) (sym e) ∙ sym (replicate-append-replicate n m 0)

pub length-zeros : (n : ℕ) → length (zeros n) ≡ n
unfolding zeros
length-zeros n = length-replicate n 0

pub take-add : (n m : ℕ) (xs : List ℕ) → take (n + m) xs ≡ take n xs ++ take m (drop n xs)
take-add n m xs =
    sym (take-append-drop n (take (n + m) xs))
    ∙ ap (λ (l : List ℕ). l ++ drop n (take (n + m) xs)) (take-take n (n + m) xs (omega arith))
    ∙ ap (λ (l : List ℕ). take n xs ++ l) (drop-take n m xs)

pub still_zero : (bytes : List ℕ) (len count : ℕ) → len + count ≤ 512 → drop len bytes ≡ zeros (512 - len) → drop (len + count) bytes ≡ zeros (512 - (len + count))
still_zero bytes len count fits rest =
    sym (drop-drop count len bytes)
    ∙ ap (λ (l : List ℕ). drop count l) (rest ∙ zeros_split count (512 - (len + count)) (512 - len) (omega arith))
    ∙ drop_at (zeros count) (zeros (512 - (len + count))) count (length-zeros count)

pub skipped : (bytes : List ℕ) (len count : ℕ) → len + count ≤ 512 → drop len bytes ≡ zeros (512 - len) → take (len + count) bytes ≡ take len bytes ++ zeros count
skipped bytes len count fits rest =
    take-add len count bytes
    ∙ ap (λ (l : List ℕ). take len bytes ++ take count l) (rest ∙ zeros_split count (512 - (len + count)) (512 - len) (omega arith))
    ∙ ap (λ (l : List ℕ). take len bytes ++ l) (take_at (zeros count) (zeros (512 - (len + count))) count (length-zeros count))

pub put_rest : (bytes field : List ℕ) (len size : ℕ) → len + length field ≤ 512 → length bytes ≡ 512 → size ≡ length field → drop len bytes ≡ zeros (512 - len) → drop (len + length field) (put_mid len size bytes field) ≡ zeros (512 - (len + length field))
put_rest bytes field len size fits whole sized rest =
    drop-put_mid len size bytes field (len + length field) (omega arith) (omega arith) (sym sized)
    ∙ still_zero bytes len (length field) fits rest

pub put_front : (bytes field : List ℕ) (len size : ℕ) → len ≤ length bytes → take (len + length field) (put_mid len size bytes field) ≡ take len bytes ++ field
put_front bytes field len size fits = take-put_mid len size bytes field (len + length field) refl fits

pub put_whole : (bytes field : List ℕ) (len size : ℕ) → len + length field ≤ 512 → length bytes ≡ 512 → size ≡ length field → length (put_mid len size bytes field) ≡ 512
put_whole bytes field len size fits whole sized = omega (
  arith,
  length-append (take len bytes) (field ++ drop size (drop len bytes)),
  length-append field (drop size (drop len bytes)),
  length-take len bytes,
  length-drop size (drop len bytes),
  length-drop len bytes,
)
