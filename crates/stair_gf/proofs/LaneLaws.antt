-- Vectors of bytes, lane by lane, and the products that a shuffle finds.
use Rattle.std.proofs.Common.{◌≡◌, ℕ, ◌+◌, ◌*◌, ◌/◌, ◌%◌, ◌^◌, ◌<◌, ◌≤◌, Bool, true, false, cond, eqb, List, ◌++◌, map, length, replicate, slice_index, get_or, refl, sym, ap, ap₂, ◌∙◌, arith, w8, Fits, eqb-true, mod-lt}
use Rattle.std.specs.List.{range_with_len}
use Rattle.std.specs.Prelude.{bit_xor, bit_and, ◌==◌, if◌then◌else◌}
use Rattle.std.proofs.lemmas.Bool.{agree_below_at}
use Rattle.std.proofs.lemmas.List.{get_or-map, get_or-replicate, get_or_append_left, length-map, length-replicate}
use Rattle.std.specs.Int.Bits.{xor_zero_r}
use Rattle.std.proofs.lemmas.Nat.{and_mask, xor_block, xor_comm}
use Rattle.std.proofs.lemmas.Simd.{Each1-get_or, Each1-from_get_or, get_or-zip2, length-zip2, length-chunk, get_or-chunk, get_or-sel_l, length-sel_l, tops_compared, SwzOk, SwzOk-from_below, swz_l, length-swz_l, get_or-swz_l_below}
use Rattle.std.specs.Simd.Lanes.{Each1, chunk, pick_l, zip2, sel_l, top}
use Rattle.stair_model.specs.Field.{product}
use Rattle.stair_model.proofs.FieldLaws.{product-one_right, product-xor_right, product-zero_right}
use Rattle.stair_gf.specs.declared.lanes.TheConstants.{NUMBERS}
use Rattle.stair_gf.specs.Lanes.{AreHalves, AreLanes, HasDoublings, HasProducts, by_bits}

-- an operation on two vectors
pub AreLanes-zip2 : (g : ℕ → ℕ → ℕ) {count : ℕ} {u v : List ℕ} {e f : ℕ → ℕ} → AreLanes count u e → AreLanes count v f
    → AreLanes count (zip2 g u v) (λ k. g (e k) (f k))
AreLanes-zip2 g {count} {u} {v} a b = record {
  long = length-zip2 g u v (a.long ∙ sym b.long) ∙ a.long;
  lane = λ k h. get_or-zip2 g u v k 0 0 0 (omega (arith, a.long)) (omega (arith, b.long)) ∙ ap₂ g (a.lane k h) (b.lane k h);
}

pub AreLanes-splat : (count x : ℕ) → AreLanes count (replicate count x) (λ k. x)
AreLanes-splat count x = record { long = length-replicate {A = ℕ} count x; lane = λ k h. get_or-replicate count k x 0 h }

-- the same lanes, told otherwise
pub AreLanes-same : {count : ℕ} {v : List ℕ} {e f : ℕ → ℕ} → AreLanes count v e → ((k : ℕ) → k < count → e k ≡ f k) → AreLanes count v f
AreLanes-same a same = record { long = a.long; lane = λ k h. a.lane k h ∙ same k h }

pub AreLanes-itself : {count : ℕ} (v : List ℕ) → length v ≡ count → AreLanes count v (slice_index v)
AreLanes-itself v long = record { long = long; lane = λ k h. refl }

-- a load
pub AreLanes-chunk : (start count : ℕ) (bytes : List ℕ) → start + count ≤ length bytes
    → AreLanes count (chunk start count bytes) (λ k. slice_index bytes (start + k))
AreLanes-chunk start count bytes within = record {
  long = length-chunk start count bytes within;
  lane = λ k h. get_or-chunk start count bytes k 0 h;
}

-- ---- one term of a table: a multiple in the lanes whose number has the bit

numbers : AreLanes 16 NUMBERS (λ k. k)
numbers = record {
  long = refl;
  lane = λ k h. eqb-true _ _ (agree_below_at (λ j. slice_index NUMBERS j == j) (λ j. true) 16 k refl h);
}

abbrev marks : ℕ → List ℕ → List Bool
marks bit v = map (top 7) (zip2 (λ a b. cond (eqb a b) 255 0) v (replicate 16 bit))

pub where_bit_lanes : (bit : ℕ) (bytes : List ℕ) → length bytes ≡ 16
    → AreLanes 16 (sel_l (marks bit (zip2 bit_and NUMBERS (replicate 16 bit))) bytes (replicate 16 0))
    (λ k. if bit_and k bit == bit then slice_index bytes k else 0)
where_bit_lanes bit bytes whole =
    let v = zip2 bit_and NUMBERS (replicate 16 bit) in
    let b = replicate 16 bit in
    let has : AreLanes 16 v (λ k. bit_and k bit) = AreLanes-zip2 bit_and numbers (AreLanes-splat 16 bit) in
    let compared : marks bit v ≡ zip2 eqb v b = tops_compared w8 eqb v b in
    let b_long : length b ≡ 16 = length-replicate {A = ℕ} 16 bit in
    let long : length (marks bit v) ≡ 16 = ap length compared ∙ length-zip2 eqb v b (has.long ∙ sym b_long) ∙ has.long in
    let none : length {A = ℕ} (replicate 16 0) ≡ 16 = length-replicate {A = ℕ} 16 0 in record {
      long = length-sel_l (marks bit v) bytes (replicate 16 0) (long ∙ sym whole) (long ∙ sym none) ∙ long;
      lane = λ k h.
          let mark : get_or (marks bit v) k false ≡ eqb (bit_and k bit) bit =
          ap (λ l. get_or l k false) compared ∙ get_or-zip2 eqb v b k 0 0 false (omega (arith, has.long)) (omega (arith, b_long))
          ∙ ap₂ eqb (has.lane k h) (get_or-replicate 16 k bit 0 h) in
          get_or-sel_l (marks bit v) bytes (replicate 16 0) k 0 (omega (arith, long)) (omega (arith, whole)) (omega (arith, none))
          ∙ ap (λ t. cond t (slice_index bytes k) (get_or (replicate 16 0) k 0)) mark
          ∙ ap (cond (eqb (bit_and k bit) bit) (slice_index bytes k)) (get_or-replicate 16 k 0 0 h);
    }

-- ---- a table, as a sum of four terms

either : (by x : ℕ) (t : Bool) → (if t then product by x else 0) ≡ product by (if t then x else 0)
either by x true = refl
either by x false = sym (product-zero_right by)

-- a product with each is the product with the sum
pub product_by_bits : (by k w x y z : ℕ) → by_bits k (product by w) (product by x) (product by y) (product by z) ≡ product by (by_bits k w x y z)
product_by_bits by k w x y z =
    let W = if bit_and k 1 == 1 then w else 0 in
    let X = if bit_and k 2 == 2 then x else 0 in
    let Y = if bit_and k 4 == 4 then y else 0 in
    let Z = if bit_and k 8 == 8 then z else 0 in
    ap₂ bit_xor
    (ap₂ bit_xor (ap₂ bit_xor (either by w (bit_and k 1 == 1)) (either by x (bit_and k 2 == 2))) (either by y (bit_and k 4 == 4)))
    (either by z (bit_and k 8 == 8))
    ∙ sym (product-xor_right by (bit_xor (bit_xor W X) Y) Z
    ∙ ap (λ s. bit_xor s (product by Z)) (product-xor_right by (bit_xor W X) Y ∙ ap (λ s. bit_xor s (product by Y)) (product-xor_right by W X)))

pub low_by_bits : (k : ℕ) → k < 16 → by_bits k 1 2 4 8 ≡ k
low_by_bits k h = eqb-true _ _ (agree_below_at (λ j. by_bits j 1 2 4 8 == j) (λ j. true) 16 k refl h)

pub high_by_bits : (k : ℕ) → k < 16 → by_bits k 16 32 64 128 ≡ k * 16
high_by_bits k h = eqb-true _ _ (agree_below_at (λ j. by_bits j 16 32 64 128 == j * 16) (λ j. true) 16 k refl h)

-- one lane in all places
picked : (xs ys : List ℕ) (i k : ℕ) → length xs ≡ 16 → i < 16 → k < 16
    → slice_index (pick_l 0 (xs ++ ys) (replicate 16 i)) k ≡ slice_index xs i
picked xs ys i k long in_first h =
    get_or-map (λ j. get_or (xs ++ ys) j 0) (replicate 16 i) k 0 0 (omega (arith, length-replicate {A = ℕ} 16 i))
    ∙ ap (λ j. get_or (xs ++ ys) j 0) (get_or-replicate 16 k i 0 h) ∙ get_or_append_left xs ys 0 i (omega arith)

-- the four terms together, each from one lane of these bytes
pub sum_of_four : (xs ys : List ℕ) {s t u v : List ℕ} → length xs ≡ 16
    → AreLanes 16 s (λ k. if bit_and k 1 == 1 then slice_index (pick_l 0 (xs ++ ys) (replicate 16 0)) k else 0)
    → AreLanes 16 t (λ k. if bit_and k 2 == 2 then slice_index (pick_l 0 (xs ++ ys) (replicate 16 1)) k else 0)
    → AreLanes 16 u (λ k. if bit_and k 4 == 4 then slice_index (pick_l 0 (xs ++ ys) (replicate 16 2)) k else 0)
    → AreLanes 16 v (λ k. if bit_and k 8 == 8 then slice_index (pick_l 0 (xs ++ ys) (replicate 16 3)) k else 0)
    → AreLanes 16 (zip2 bit_xor (zip2 bit_xor (zip2 bit_xor s t) u) v) (λ k. by_bits k (slice_index xs 0) (slice_index xs 1) (slice_index xs 2) (slice_index xs 3))
sum_of_four xs ys long a b c d =
    AreLanes-zip2 bit_xor (AreLanes-zip2 bit_xor (AreLanes-zip2 bit_xor
    (AreLanes-same a (λ k h. ap (λ x. if bit_and k 1 == 1 then x else 0) (picked xs ys 0 k long (omega arith) h)))
    (AreLanes-same b (λ k h. ap (λ x. if bit_and k 2 == 2 then x else 0) (picked xs ys 1 k long (omega arith) h))))
    (AreLanes-same c (λ k h. ap (λ x. if bit_and k 4 == 4 then x else 0) (picked xs ys 2 k long (omega arith) h))))
    (AreLanes-same d (λ k h. ap (λ x. if bit_and k 8 == 8 then x else 0) (picked xs ys 3 k long (omega arith) h)))

-- the 16 numbers of a table's places, four times
abbrev table_places : List ℕ
table_places = range_with_len 0 16 ++ (range_with_len 0 16 ++ (range_with_len 0 16 ++ range_with_len 0 16))

-- a table four times
pub four_times_lanes : (xs ys : List ℕ) → length xs ≡ 16 → AreLanes 64 (pick_l 0 (xs ++ ys) table_places) (λ k. slice_index xs (k % 16))
four_times_lanes xs ys long = record {
  long = length-map table_places (λ j. get_or (xs ++ ys) j 0);
  lane = λ k h.
      get_or-map (λ j. get_or (xs ++ ys) j 0) table_places k 0 0 h
      ∙ ap (λ j. get_or (xs ++ ys) j 0) (eqb-true _ _ (agree_below_at (λ j. slice_index table_places j == j % 16) (λ j. true) 64 k refl h))
      ∙ get_or_append_left xs ys 0 (k % 16) (omega (arith, long));
}

-- such a sum of products of by is its product
sum_is_product : (by k w x y z i j l m : ℕ) → w ≡ product by i → x ≡ product by j → y ≡ product by l → z ≡ product by m
    → by_bits k w x y z ≡ product by (by_bits k i j l m)
sum_is_product by k w x y z i j l m w_is x_is y_is z_is =
    ap₂ (λ a b. by_bits k a b y z) w_is x_is ∙ ap₂ (by_bits k (product by i) (product by j)) y_is z_is ∙ product_by_bits by k i j l m

-- both tables, from the doublings and from these moved on by four
pub products_of_sums : (by : ℕ) (xs ys : List ℕ) {low high : List ℕ} → HasDoublings by xs
    → AreLanes 16 low (λ k. by_bits k (slice_index xs 0) (slice_index xs 1) (slice_index xs 2) (slice_index xs 3))
    → AreLanes 16 high (λ k. by_bits k (slice_index (xs ++ ys) 4) (slice_index (xs ++ ys) 5) (slice_index (xs ++ ys) 6) (slice_index (xs ++ ys) 7))
    → HasProducts by low high
products_of_sums by xs ys doublings low high =
    let moved : (i : ℕ) → i < 8 → slice_index (xs ++ ys) i ≡ product by (2 ^ i) =
    λ i h. get_or_append_left xs ys 0 i (omega (arith, doublings.long)) ∙ doublings.each i h in
    record {
      low_halves = AreLanes-same low (λ k h.
          sum_is_product by k _ _ _ _ 1 2 4 8 (doublings.each 0 (omega arith)) (doublings.each 1 (omega arith)) (doublings.each 2 (omega arith)) (doublings.each 3 (omega arith))
          ∙ ap (product by) (low_by_bits k h));
      high_halves = AreLanes-same high (λ k h.
          sum_is_product by k _ _ _ _ 16 32 64 128 (moved 4 (omega arith)) (moved 5 (omega arith)) (moved 6 (omega arith)) (moved 7 (omega arith))
          ∙ ap (product by) (high_by_bits k h));
    }

-- the product with 1 is the byte
pub first_product : (by : ℕ) {low high : List ℕ} → by < 256 → HasProducts by low high → slice_index low 1 ≡ by
first_product by byte tables = tables.low_halves.lane 1 (omega arith) ∙ product-one_right by byte

-- ---- a look-up by the halves of a byte

low_halves : (v : List ℕ) → length v ≡ 64 → AreLanes 64 (zip2 bit_and v (replicate 64 15)) (λ k. slice_index v k % 16)
low_halves v long =
    AreLanes-same (AreLanes-zip2 bit_and (AreLanes-itself v long) (AreLanes-splat 64 15)) (λ k h. and_mask (slice_index v k) 4)

high_halves : (v : List ℕ) → length v ≡ 64 → AreLanes 64 (zip2 (λ a b. a / 2 ^ b) v (replicate 64 4)) (λ k. slice_index v k / 16)
high_halves v long = AreLanes-zip2 (λ a b. a / 2 ^ b) (AreLanes-itself v long) (AreLanes-splat 64 4)

-- a shuffle may read at places below 16
pub places_ok : {at : List ℕ} {f : ℕ → ℕ} → AreLanes 64 at f → ((k : ℕ) → k < 64 → f k < 16) → SwzOk w8 16 64 0 at
places_ok {at} a below =
    SwzOk-from_below w8 16 4 64 0 at refl (omega (arith, a.long))
    (Each1-from_get_or (λ j. j < 16) at 0 (λ k h.
    let within : k < 64 = omega (arith, a.long) in
    omega (arith, a.lane k within, below k within)))

-- what it reads there, of a table that stands four times
pub looked_up : (e : ℕ → ℕ) {table at : List ℕ} {f : ℕ → ℕ} → AreLanes 64 table (λ k. e (k % 16)) → AreLanes 64 at f → ((k : ℕ) → k < 64 → f k < 16)
    → AreLanes 64 (swz_l w8 16 table 0 at) (λ k. e (f k))
looked_up e {table} {at} {f} t a below = record {
  long = length-swz_l w8 16 table 0 at ∙ a.long;
  lane = λ k h.
      let is = a.lane k h in
      let small : slice_index at k < 16 = omega (arith, is, below k h) in
      let within : 16 * ((0 + k) / 16) + slice_index at k < 64 = omega arith in
      let half : (16 * ((0 + k) / 16) + slice_index at k) % 16 ≡ slice_index at k = omega arith in
      get_or-swz_l_below w8 16 table 0 at k (omega (arith, a.long)) small ∙ t.lane _ within ∙ ap e (half ∙ is);
}

-- a byte is the sum of its halves
halves : (a : ℕ) → bit_xor (a % 16) (a / 16 * 16) ≡ a
halves a =
    let low : a % 16 ≡ 0 * 2 ^ 4 + a % 16 = omega arith in
    let high : a / 16 * 16 ≡ a / 16 * 2 ^ 4 + 0 = omega arith in
    ap₂ bit_xor low high ∙ xor_block 4 0 (a / 16) (a % 16) 0 (mod-lt a (omega arith)) (omega arith)
    ∙ ap₂ (λ x y. x * 16 + y) (xor_comm 0 (a / 16) ∙ xor_zero_r (a / 16)) (xor_zero_r (a % 16)) ∙ omega arith

-- a byte's high half is below 16
high_half_below : (v : List ℕ) → length v ≡ 64 → Each1 (Fits w8) v → (k : ℕ) → k < 64 → slice_index v k / 16 < 16
high_half_below v long bytes k h =
    let byte = (Each1-get_or (Fits w8) v k 0 (omega (arith, long)) bytes).fits in
    omega (arith, byte)

-- bytes are made of their halves
pub AreHalves-of : (v : List ℕ) → length v ≡ 64 → Each1 (Fits w8) v
    → AreHalves (zip2 bit_and v (replicate 64 15)) (zip2 (λ a b. a / 2 ^ b) v (replicate 64 4)) v
AreHalves-of v long bytes =
    let low = low_halves v long in
    let high = high_halves v long in record {
      low_below = λ k h.
          let below : slice_index v k % 16 < 16 = mod-lt (slice_index v k) (omega arith) in
          omega (arith, low.lane k h, below);
      high_below = λ k h. omega (arith, high.lane k h, high_half_below v long bytes k h);
      whole = λ k h.
          let made : slice_index v k / 16 * 16 + slice_index v k % 16 ≡ slice_index v k = omega arith in
          ap₂ (λ a b. a * 16 + b) (high.lane k h) (low.lane k h) ∙ made;
    }

joined : (low high : ℕ) → low < 16 → bit_xor low (high * 16) ≡ high * 16 + low
joined low high small =
    let low_is : low ≡ (high * 16 + low) % 16 = omega arith in
    let high_is : high ≡ (high * 16 + low) / 16 = omega arith in
    ap₂ (λ a b. bit_xor a (b * 16)) low_is high_is ∙ halves (high * 16 + low)

-- the table of a factor, four times
pub table_at : (e : ℕ → ℕ) {table four : List ℕ} → AreLanes 16 table e → AreLanes 64 four (λ k. slice_index table (k % 16))
    → AreLanes 64 four (λ k. e (k % 16))
table_at e t times = AreLanes-same times (λ k h. t.lane (k % 16) (mod-lt k (omega arith)))

-- the products with a block of bytes, by their halves
pub products_by_halves : (by : ℕ) {low high four_low four_high : List ℕ} (u v : List ℕ) → HasProducts by low high
    → AreLanes 64 four_low (λ k. slice_index low (k % 16)) → AreLanes 64 four_high (λ k. slice_index high (k % 16))
    → length u ≡ 64 → length v ≡ 64
    → ((k : ℕ) → k < 64 → slice_index u k < 16) → ((k : ℕ) → k < 64 → slice_index v k < 16)
    → AreLanes 64 (zip2 bit_xor (swz_l w8 16 four_low 0 u) (swz_l w8 16 four_high 0 v)) (λ k. product by (slice_index v k * 16 + slice_index u k))
products_by_halves by u v tables low_times high_times u_long v_long u_below v_below =
    AreLanes-same (AreLanes-zip2 bit_xor
    (looked_up (product by) (table_at (product by) tables.low_halves low_times) (AreLanes-itself u u_long) u_below)
    (looked_up (λ j. product by (j * 16)) (table_at (λ j. product by (j * 16)) tables.high_halves high_times) (AreLanes-itself v v_long) v_below))
    (λ k h. sym (product-xor_right by (slice_index u k) (slice_index v k * 16)) ∙ ap (product by) (joined (slice_index u k) (slice_index v k) (u_below k h)))
