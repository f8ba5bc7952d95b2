-- Fields that are written one after the other.
use Rattle.std.proofs.Common.{◌≡◌, ℕ, ◌+◌, ◌-◌, ◌*◌, ◌^◌, ◌/◌, ◌%◌, ◌<◌, ◌≤◌, List, [], ◌∷◌, ◌++◌, length, get_or, take, drop, replicate, refl, sym, ap, ◌∙◌, append_assoc, arith}
use Rattle.std.specs.Prelude.{codes, flat_map}
use Rattle.std.specs.Int.{w32, w64, to_be_bytes}
use Rattle.std.proofs.lemmas.List.{append-nil, drop_at, length-append, length-replicate, replicate-append-replicate, take_at, take_more, take_all}
use Rattle.std.proofs.lemmas.List.Concat.{flat_map-append}
use Rattle.stair_conf.specs.Name.{padded}
use Rattle.stair_volume.specs.declared.extent.Entry.{Entry}
use Rattle.stair_volume.specs.Page.{zeros, heading, entry_bytes, table_bytes, with_field}

-- a field over one of its length
pub with_field-at : (front old back field : List ℕ) (at : ℕ) → length front ≡ at → length field ≡ length old → with_field (front ++ (old ++ back)) at field ≡ front ++ (field ++ back)
unfolding with_field
with_field-at front old back field at here sized =
    let long : length (front ++ old) ≡ at + length field = omega (arith, length-append front old) in
    ap (λ (l : List ℕ). l ++ (field ++ drop (at + length field) (front ++ (old ++ back)))) (take_at front (old ++ back) at here)
    ∙ ap (λ (l : List ℕ). front ++ (field ++ drop (at + length field) l)) (sym (append_assoc front old back))
    ∙ ap (λ (l : List ℕ). front ++ (field ++ l)) (drop_at (front ++ old) back (at + length field) long)

pub zeros_split : (n m k : ℕ) → n + m ≡ k → zeros k ≡ zeros n ++ zeros m
zeros_split n m k e = ap (λ (l : ℕ). replicate l 0) (sym e) ∙ sym (replicate-append-replicate n m 0)

pub length-zeros : (n : ℕ) → length (zeros n) ≡ n
length-zeros n = length-replicate n 0

-- a field over zeros
pub over_zeros : (front field : List ℕ) (at n m : ℕ) → length front ≡ at → length field + m ≡ n → with_field (front ++ zeros n) at field ≡ front ++ (field ++ zeros m)
over_zeros front field at n m here sized =
    ap (λ (l : List ℕ). with_field (front ++ l) at field) (zeros_split (length field) m n sized)
    ∙ with_field-at front (zeros (length field)) (zeros m) field at here (sym (length-zeros (length field)))

-- the number and the name of an entry, its numbers after them
pub entry_written : (entry : Entry) (s1 s2 s3 s4 s5 : List ℕ) → length entry.name ≤ 16 → s1 ≡ with_field (zeros 32) 0 (length entry.name ∷ []) → s2 ≡ with_field s1 1 entry.name → s3 ≡ with_field s2 19 (entry.extent.blocks / 2 ^ 32 ∷ []) → s4 ≡ with_field s3 20 (to_be_bytes w64 entry.extent.first) → s5 ≡ with_field s4 28 (to_be_bytes w32 (entry.extent.blocks % 2 ^ 32)) → s5 ≡ entry_bytes entry
unfolding entry_bytes
entry_written entry s1 s2 s3 s4 s5 short e1 e2 e3 e4 e5 =
    let name = entry.name in
    let count = length name in
    let high = entry.extent.blocks / 2 ^ 32 ∷ [] in
    let first = to_be_bytes w64 entry.extent.first in
    let low = to_be_bytes w32 (entry.extent.blocks % 2 ^ 32) in
    let front = count ∷ (padded name ++ zeros 2) in
    let long : length front ≡ 19 = omega (arith, length-append (padded name) (zeros 2), length-append name (replicate (16 - count) 0), length-replicate {A = ℕ} (16 - count) 0) in
    let long_high : length (front ++ high) ≡ 20 = length-append front high ∙ ap (λ (n : ℕ). n + 1) long in
    let long_first : length ((front ++ high) ++ first) ≡ 28 = length-append (front ++ high) first ∙ ap (λ (n : ℕ). n + 8) long_high in
    let is1 : s1 ≡ (count ∷ []) ++ zeros 31 = e1 ∙ over_zeros [] (count ∷ []) 0 32 31 refl refl in
    let is2 : s2 ≡ front ++ zeros 13 =
    e2
    ∙ ap (λ (l : List ℕ). with_field l 1 name) is1
    ∙ over_zeros (count ∷ []) name 1 31 (31 - count) refl (omega arith)
    ∙ ap (λ (l : List ℕ). count ∷ (name ++ l)) (zeros_split (16 - count) 15 (31 - count) (omega arith) ∙ ap (λ (l : List ℕ). zeros (16 - count) ++ l) (zeros_split 2 13 15 refl))
    ∙ ap (λ (l : List ℕ). count ∷ l) (sym (append_assoc name (zeros (16 - count)) (zeros 2 ++ zeros 13)) ∙ sym (append_assoc (padded name) (zeros 2) (zeros 13))) in
    let is3 : s3 ≡ (front ++ high) ++ zeros 12 =
    e3
    ∙ ap (λ (l : List ℕ). with_field l 19 high) is2
    ∙ over_zeros front high 19 13 12 long refl
    ∙ sym (append_assoc front high (zeros 12)) in
    let is4 : s4 ≡ ((front ++ high) ++ first) ++ zeros 4 =
    e4
    ∙ ap (λ (l : List ℕ). with_field l 20 first) is3
    ∙ over_zeros (front ++ high) first 20 12 4 long_high refl
    ∙ sym (append_assoc (front ++ high) first (zeros 4)) in
    let is5 : s5 ≡ ((front ++ high) ++ first) ++ (low ++ zeros 0) =
    e5
    ∙ ap (λ (l : List ℕ). with_field l 28 low) is4
    ∙ over_zeros ((front ++ high) ++ first) low 28 4 0 long_first refl in
    is5
    ∙ ap (λ (l : List ℕ). ((front ++ high) ++ first) ++ l) (append-nil low)
    ∙ append_assoc (front ++ high) first low
    ∙ append_assoc front high (first ++ low)
    ∙ ap (λ (l : List ℕ). count ∷ l) (append_assoc (padded name) (zeros 2) (high ++ (first ++ low)))

-- the heading, and zeros after it
pub heading_written : (entries : List Entry) (s1 s2 : List ℕ) → s1 ≡ with_field (zeros 512) 0 (codes "STAIRVT1") → s2 ≡ with_field s1 8 (length entries ∷ []) → s2 ≡ heading (length entries) ++ (flat_map entry_bytes (take 0 entries) ++ zeros (480 - 32 * 0))
heading_written entries s1 s2 e1 e2 =
    let magic = codes "STAIRVT1" in
    let is1 : s1 ≡ magic ++ zeros 504 = e1 ∙ over_zeros [] magic 0 512 504 refl refl in
    e2
    ∙ ap (λ (l : List ℕ). with_field l 8 (length entries ∷ [])) is1
    ∙ over_zeros magic (length entries ∷ []) 8 504 503 refl refl
    ∙ ap (λ (l : List ℕ). magic ++ (length entries ∷ l)) (zeros_split 23 480 503 refl)

-- one entry more
pub entries_written : (entries : List Entry) (k : ℕ) (entry : Entry) (old new : List ℕ) → k < length entries → length entries ≤ 15 → entry ≡ get_or entries k entry → length (flat_map entry_bytes (take k entries)) ≡ 32 * k → length (entry_bytes entry) ≡ 32 → old ≡ heading (length entries) ++ (flat_map entry_bytes (take k entries) ++ zeros (480 - 32 * k)) → new ≡ with_field old (32 + 32 * k) (entry_bytes entry) → new ≡ heading (length entries) ++ (flat_map entry_bytes (take (k + 1) entries) ++ zeros (480 - 32 * (k + 1)))
entries_written entries k entry old new lt few here so_far long is put =
    let head = heading (length entries) in
    let text = flat_map entry_bytes (take k entries) in
    let rest = zeros (480 - 32 * (k + 1)) in
    let more : flat_map entry_bytes (take (k + 1) entries) ≡ text ++ entry_bytes entry =
    ap (flat_map entry_bytes) (take_more entries k entry lt ∙ ap (λ (e : Entry). take k entries ++ e ∷ []) (sym here))
    ∙ flat_map-append entry_bytes (take k entries) (entry ∷ [])
    ∙ ap (λ (l : List ℕ). text ++ l) (append-nil (entry_bytes entry)) in
    put
    ∙ ap (λ (l : List ℕ). with_field l (32 + 32 * k) (entry_bytes entry)) (is ∙ sym (append_assoc head text (zeros (480 - 32 * k))))
    ∙ over_zeros (head ++ text) (entry_bytes entry) (32 + 32 * k) (480 - 32 * k) (480 - 32 * (k + 1)) (length-append head text ∙ ap (λ (n : ℕ). 32 + n) so_far) (omega arith)
    ∙ append_assoc head text (entry_bytes entry ++ rest)
    ∙ ap (λ (l : List ℕ). head ++ l) (sym (append_assoc text (entry_bytes entry) rest))
    ∙ ap (λ (l : List ℕ). head ++ (l ++ rest)) (sym more)

-- all of them
pub table_written : (entries : List Entry) (k : ℕ) (bytes : List ℕ) → k ≡ length entries → bytes ≡ heading (length entries) ++ (flat_map entry_bytes (take k entries) ++ zeros (480 - 32 * k)) → bytes ≡ table_bytes entries
unfolding table_bytes
table_written entries k bytes all is =
    is
    ∙ ap (λ (n : ℕ). heading (length entries) ++ (flat_map entry_bytes (take n entries) ++ zeros (480 - 32 * n))) all
    ∙ ap (λ (l : List Entry). heading (length entries) ++ (flat_map entry_bytes l ++ zeros (480 - 32 * length entries))) (take_all (length entries) entries (omega arith))
