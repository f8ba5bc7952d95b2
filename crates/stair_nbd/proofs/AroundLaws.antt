-- Where the bytes of a request lie in the blocks that it touches.
use Rattle.std.proofs.Common.{◌≡◌, ◌∙◌, ◌+◌, ◌-◌, ◌*◌, ◌/◌, ◌<◌, ◌≤◌, ℕ, zero, suc, List, [], ◌++◌, append-nil, append_assoc, ap, ap₂, arith, drop, length, length-append, length-drop, refl, sym, take}
use Rattle.std.proofs.lemmas.List.{drop-append-le, drop-take, drop_all, length-take-le, take-append-le, take-take, take_all}
use Rattle.std.proofs.Math.Seq.{take-append-add}
use borrow.Rule.Slice.PartMut.{put_mid}
use Rattle.stair_model.specs.Stripe.{SECTOR}
use Rattle.stair_nbd.specs.Client.{around, end_within, first_block, skipped, touched}
use Rattle.stair_nbd.specs.declared.wire.Request.{Request}

-- as many as up to the last of the bytes
touched_some : (before count : ℕ) → 0 < count → touched before count ≡ (before + (count - 1)) / SECTOR + 1
touched_some before zero some = absurd (omega (arith, some))
touched_some before (suc n) some = let less : suc n - 1 ≡ n = omega arith in ap (λ (m : ℕ). (before + m) / SECTOR + 1) (sym less)

-- the blocks end with the bytes
pub ends_whole : (q : Request) → 0 < q.length → end_within q ≡ 0 → SECTOR * touched (skipped q) q.length ≡ skipped q + q.length
ends_whole q some whole = omega (arith, touched_some (skipped q) q.length some, whole, some)

-- or after them
pub ends_in_part : (q : Request) → 0 < q.length → 0 < end_within q
    → SECTOR * touched (skipped q) q.length ≡ (skipped q + q.length) + (SECTOR - end_within q)
ends_in_part q some part = omega (arith, touched_some (skipped q) q.length some, part, some)

-- they have all of the bytes
pub touched_covers : (q : Request) → 0 < q.length → skipped q + q.length ≤ SECTOR * touched (skipped q) q.length
touched_covers q some = omega (arith, touched_some (skipped q) q.length some, some)

-- and are within as many blocks as the bytes are
pub touched_within : (q : Request) (count : ℕ) → 0 < q.length → q.offset + q.length ≤ SECTOR * count
    → first_block q + touched (skipped q) q.length ≤ count
touched_within q count some inside = omega (arith, touched_some (skipped q) q.length some, some, inside)

-- ---- the bytes of the blocks

-- those of the request are within the blocks that it touches
pub front_has : (whole before count : ℕ) (bytes : List ℕ) → before + count ≤ whole → take count (drop before (take whole bytes)) ≡ take count (drop before bytes)
front_has whole before count bytes fits =
    let rest : before + (whole - before) ≡ whole = omega (arith, fits) in
    ap (λ (n : ℕ). take count (drop before (take n bytes))) (sym rest)
    ∙ ap (take count) (drop-take before (whole - before) bytes)
    ∙ take-take count (whole - before) (drop before bytes) (omega (arith, fits))

-- and those that were read are there, whatever is after them
pub joined_has : (before count : ℕ) (blocks rest : List ℕ) → (0 < count → before + count ≤ length blocks)
    → take count (drop before (blocks ++ rest)) ≡ take count (drop before blocks)
joined_has before zero blocks rest fits = refl
joined_has before (suc n) blocks rest fits =
    let long : before + suc n ≤ length blocks = fits (omega arith) in
    ap (take (suc n)) (drop-append-le before blocks rest (omega (arith, long)))
    ∙ take-append-le (suc n) (drop before blocks) rest (omega (arith, long, length-drop before blocks))

-- up to the end of the bytes, after what the first block keeps before them
joined_up : (before count : ℕ) (front old : List ℕ) → before ≤ length front
    → take (before + count) (take before front ++ drop before old) ≡ take before front ++ take count (drop before old)
joined_up before count front old long =
    let few : length (take before front) ≡ before = length-take-le before front long in
    ap (λ (n : ℕ). take (n + count) (take before front ++ drop before old)) (sym few) ∙ take-append-add (take before front) (drop before old) count

module _ (q : Request) (some : 0 < q.length) (old front blocks : List ℕ) (long : skipped q ≤ length front)
    (size : length old ≡ SECTOR * touched (skipped q) q.length) (joined : blocks ≡ take (skipped q) front ++ drop (skipped q) old) where
  -- they are all that was after
  bytes_all : end_within q ≡ 0 → take q.length (drop (skipped q) old) ≡ drop (skipped q) old
  bytes_all whole = take_all q.length (drop (skipped q) old) (omega (arith, length-drop (skipped q) old, size, ends_whole q some whole))

  -- nothing is kept after bytes that end with a block
  pub around_whole : end_within q ≡ 0 → blocks ≡ around q front (take q.length (drop (skipped q) old)) []
  around_whole whole =
      let behind : drop (end_within q) [] ≡ [] = drop_all (end_within q) [] (omega arith) in
      joined ∙ ap (λ (b : List ℕ). take (skipped q) front ++ b) (sym (append-nil (drop (skipped q) old)))
      ∙ ap₂ (λ (b c : List ℕ). take (skipped q) front ++ (b ++ c)) (sym (bytes_all whole)) (sym behind)

  -- there are as many as before
  blocks_long : length blocks ≡ length old
  blocks_long = omega (
    arith,
    ap length joined,
    length-append (take (skipped q) front) (drop (skipped q) old),
    length-take-le (skipped q) front long,
    length-drop (skipped q) old,
    size,
    touched_covers q some,
  )

  -- and what the last block holds there stays
  pub around_part : (end behind : ℕ) (back kept : List ℕ) → end ≡ skipped q + q.length → behind ≡ end_within q → length back ≡ SECTOR
      → kept ≡ take (SECTOR - behind) (drop behind back)
      → put_mid end (length blocks - end) blocks kept ≡ around q front (take q.length (drop (skipped q) old)) back
  around_part end behind back kept at from sector is =
      let none : drop (length blocks - end) (drop end blocks) ≡ [] = drop_all (length blocks - end) (drop end blocks) (omega (arith, length-drop end blocks)) in
      let up : take end blocks ≡ take (skipped q) front ++ take q.length (drop (skipped q) old) =
      ap₂ (λ (n : ℕ) (b : List ℕ). take n b) at joined ∙ joined_up (skipped q) q.length front old long in
      let rest : kept ≡ drop (end_within q) back =
      is ∙ take_all (SECTOR - behind) (drop behind back) (omega (arith, length-drop behind back, sector)) ∙ ap (λ (n : ℕ). drop n back) from in
      ap₂ (λ (a b : List ℕ). a ++ (kept ++ b)) up none
      ∙ ap (λ (b : List ℕ). (take (skipped q) front ++ take q.length (drop (skipped q) old)) ++ b) (append-nil kept ∙ rest)
      ∙ append_assoc (take (skipped q) front) (take q.length (drop (skipped q) old)) (drop (end_within q) back)
