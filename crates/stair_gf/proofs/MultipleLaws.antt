-- Multiples that are added stretch by stretch, and sums of multiples, block by block.
use Rattle.std.proofs.Common.{◌≡◌, ◌≢◌, ℕ, ◌+◌, ◌-◌, ◌*◌, ◌<◌, ◌≤◌, List, [], length, replicate, slice_index, slice_index_or, slice_set, refl, sym, ap, subst, ◌∙◌, inl, inr, arith, add-one}
use Rattle.std.specs.Prelude.{Contains, bit_xor}
use Rattle.std.specs.Simd.Lanes.{put_chunk, zip2}
use Rattle.std.proofs.Math.Nat.{add-mul, mul-le-mul_right, suc-mul}
use Rattle.std.proofs.lemmas.List.{get_or-set_same, get_or-set_other, length-set}
use Rattle.std.proofs.lemmas.List.Elements.{Contains-get_or}
use Rattle.std.proofs.lemmas.Bool.{cases_eq, cases_lt}
use Rattle.std.proofs.lemmas.Simd.{length-put_chunk, get_or-put_chunk_below, get_or-put_chunk_at, get_or-put_chunk_above}
use Rattle.stair_model.specs.Field.{product}
use Rattle.stair_model.specs.Stripe.{symbol_byte}
use Rattle.stair_model.proofs.SumLaws.{field_sum_none, field_sum_more, field_sum_same}
use Rattle.stair_gf.specs.AddsMultiple.{AddsMultiple, AddsMultipleWithin}
use Rattle.stair_gf.specs.Lanes.{AreLanes, HasLanesAt}
use Rattle.stair_gf.specs.SetsSums.{AreApart, SetsSumsWithin, part_by, sum_by}
use Rattle.stair_gf.proofs.LaneLaws.{AreLanes-same, AreLanes-splat, AreLanes-zip2}

pub AddsMultipleWithin-none : (bytes from : List ℕ) (by start : ℕ) → AddsMultipleWithin bytes bytes from by start start
AddsMultipleWithin-none bytes from by start = record {
  same_length = refl;
  added = λ k low high. absurd (omega arith);
  below = λ k h. refl;
  above = λ k h. refl;
}

-- two stretches that make the whole
pub AddsMultiple-from_two : (old middle new from : List ℕ) (by start end : ℕ) → AddsMultipleWithin old middle from by 0 start
    → AddsMultipleWithin middle new from by start end → length old ≤ end → AddsMultiple old new from by
AddsMultiple-from_two old middle new from by start end first second whole = record {
  same_length = second.same_length ∙ first.same_length;
  bytes = λ k h.
      elim (cases_lt k start) [
        | inl low ↦ second.below k low ∙ first.added k (omega arith) low
        | inr high ↦
            let from_start : start ≤ k = omega arith in
            second.added k from_start (omega arith) ∙ ap (λ x. bit_xor x (product by (slice_index from k))) (first.above k from_start)
      ];
}

-- one block more of what the bytes are to become
pub more : (new newer sum : List ℕ) (start : ℕ) (f : ℕ → ℕ) → ((k : ℕ) → k < start → slice_index new k ≡ f k) → AreLanes 64 sum (λ k. f (start + k))
    → HasLanesAt new newer start sum → (k : ℕ) → k < start + 64 → slice_index newer k ≡ f k
more new newer sum start f done sums stored k h =
    elim (cases_lt k start) [
      | inl low ↦ stored.below k low ∙ done k low
      | inr high ↦
          let lane = k - start in
          let lane_below : lane < 64 = omega arith in
          let place : start + lane ≡ k = omega arith in
          subst (λ j. slice_index newer j ≡ f j) place (stored.here lane lane_below ∙ sums.lane lane lane_below)
    ]

-- a vector that is stored
pub stored_lanes : (start : ℕ) (bytes v : List ℕ) → start + 64 ≤ length bytes → length v ≡ 64 → HasLanesAt bytes (put_chunk start bytes v) start v
stored_lanes start bytes v within long = record {
  same_length = length-put_chunk start bytes v;
  here = λ k h. get_or-put_chunk_at start bytes v k 0 (omega (arith, long)) (omega (arith, long));
  below = λ k h. get_or-put_chunk_below start bytes v k 0 h;
  above = λ k h. get_or-put_chunk_above start bytes v k 0 (omega (arith, long));
}

-- one block more of multiples
pub AddsMultipleWithin-block : (old new newer from sum : List ℕ) (by n : ℕ) → AddsMultipleWithin old new from by 0 (64 * n)
    → AreLanes 64 sum (λ k. bit_xor (slice_index new (64 * n + k)) (product by (slice_index from (64 * n + k))))
    → HasLanesAt new newer (64 * n) sum → AddsMultipleWithin old newer from by 0 (64 * (n + 1))
AddsMultipleWithin-block old new newer from sum by n so_far sums stored =
    let added = λ (k : ℕ). bit_xor (slice_index old k) (product by (slice_index from k)) in record {
      same_length = stored.same_length ∙ so_far.same_length;
      added = λ k low h.
          more new newer sum (64 * n) added (λ j before. so_far.added j (omega arith) before)
          (AreLanes-same sums (λ j lane. ap (λ x. bit_xor x (product by (slice_index from (64 * n + j)))) (so_far.above (64 * n + j) (omega arith))))
          stored k (omega arith);
      below = λ k h. absurd (omega arith);
      above = λ k h. stored.above k (omega arith) ∙ so_far.above k (omega arith);
    }

-- ---- blocks of several sums

-- the factors of sum d of `count`, and those of all
pub factors_within : (d count width : ℕ) → d < count → d * width + width ≤ count * width
factors_within d count width below =
    omega (arith, mul-le-mul_right {m = d + 1} {n = count} width (omega arith), ap (λ n. n * width) (add-one d) ∙ suc-mul d width)

pub factors_from : (first d width : ℕ) → first * width + d * width ≡ (first + d) * width
factors_from first d width = sym (add-mul first d width)

-- no multiple yet, and one more
pub part_none : (symbols : List (List ℕ)) (start : ℕ) (from by : List ℕ) (first : ℕ)
    → AreLanes 64 (replicate 64 0) (λ k. part_by symbols from by first (start + k) 0)
part_none symbols start from by first = AreLanes-same (AreLanes-splat 64 0) (λ k h. sym (field_sum_none _))

pub part_more : (symbols : List (List ℕ)) (start : ℕ) (from by : List ℕ) (i first place : ℕ) {sum loaded products : List ℕ}
    → AreLanes 64 sum (λ k. part_by symbols from by first (start + k) i)
    → place ≡ slice_index from i → AreLanes 64 loaded (λ k. slice_index (slice_index_or symbols place []) (start + k))
    → AreLanes 64 products (λ k. product (slice_index by (first + i)) (slice_index loaded k))
    → AreLanes 64 (zip2 bit_xor sum products) (λ k. part_by symbols from by first (start + k) (i + 1))
part_more symbols start from by i first place so_far is loads products =
    AreLanes-same (AreLanes-zip2 bit_xor so_far products) (λ k h.
    ap (λ byte. bit_xor (part_by symbols from by first (start + k) i) (product (slice_index by (first + i)) byte))
    (loads.lane k h ∙ ap (symbol_byte symbols (start + k)) is)
    ∙ sym (field_sum_more i (λ j. product (slice_index by (first + j)) (symbol_byte symbols (start + k) (slice_index from j))))
    ∙ ap (part_by symbols from by first (start + k)) (sym (add-one i)))

-- the sums by the first i symbols, and the first d of them with one symbol more
pub record AreParts (symbols : List (List ℕ)) (start : ℕ) (from by : List ℕ) (factor width count i d : ℕ) (sums : List (List ℕ)) : Type 0 where
  pub many : length sums ≡ count
  pub further :
      (j : ℕ) → j < d → j < count →
      AreLanes 64 (slice_index_or sums j []) (λ k. part_by symbols from by (factor + j * width) (start + k) (i + 1))
  pub rest :
      (j : ℕ) → d ≤ j → j < count → AreLanes 64 (slice_index_or sums j []) (λ k. part_by symbols from by (factor + j * width) (start + k) i)

module _ (symbols : List (List ℕ)) (start : ℕ) (from by : List ℕ) (factor width count : ℕ) where
  pub AreParts-none : (sums : List (List ℕ)) → length sums ≡ count → ((j : ℕ) → j < count → slice_index_or sums j [] ≡ replicate 64 0)
      → AreParts symbols start from by factor width count 0 0 sums
  AreParts-none sums many zeros = record {
    many = many;
    further = λ j none below. absurd (omega arith);
    rest = λ j from_here below.
        subst (λ (v : List ℕ). AreLanes 64 v (λ k. part_by symbols from by (factor + j * width) (start + k) 0)) (sym (zeros j below))
        (part_none symbols start from by (factor + j * width));
  }

  pub AreParts-more : (i d place : ℕ) (sums : List (List ℕ)) {loaded products : List ℕ} → d < count
      → AreParts symbols start from by factor width count i d sums
      → place ≡ slice_index from i → AreLanes 64 loaded (λ k. slice_index (slice_index_or symbols place []) (start + k))
      → AreLanes 64 products (λ k. product (slice_index by (factor + d * width + i)) (slice_index loaded k))
      → AreParts symbols start from by factor width count i (d + 1) (slice_set sums d (zip2 bit_xor (slice_index_or sums d []) products))
  AreParts-more i d place sums {loaded} {products} within so_far is loads factors =
      let added = zip2 bit_xor (slice_index_or sums d []) products in
      let other : (j : ℕ) → j ≢ d → slice_index_or (slice_set sums d added) j [] ≡ slice_index_or sums j [] = λ j apart. get_or-set_other sums d j added [] apart in
      record {
        many = length-set sums d added ∙ so_far.many;
        further = λ j before below.
            elim (cases_eq j d) [
              | inl this ↦
                  subst (λ (n : ℕ). AreLanes 64 (slice_index_or (slice_set sums d added) n []) (λ k. part_by symbols from by (factor + n * width) (start + k) (i + 1)))
                  (sym this)
                  (subst (λ (v : List ℕ). AreLanes 64 v (λ k. part_by symbols from by (factor + d * width) (start + k) (i + 1)))
                  (sym (get_or-set_same sums d added [] (omega (arith, so_far.many))))
                  (part_more symbols start from by i (factor + d * width) place (so_far.rest d (omega arith) within) is loads factors))
              | inr apart ↦
                  subst (λ (v : List ℕ). AreLanes 64 v (λ k. part_by symbols from by (factor + j * width) (start + k) (i + 1))) (sym (other j apart))
                  (so_far.further j (omega (arith, apart)) below)
            ];
        rest = λ j behind below.
            subst (λ (v : List ℕ). AreLanes 64 v (λ k. part_by symbols from by (factor + j * width) (start + k) i))
            (sym (other j (λ same. omega (arith, same)))) (so_far.rest j (omega arith) below);
      }

  -- one symbol more in all of them
  pub AreParts-next : (i d : ℕ) (sums : List (List ℕ)) → count ≤ d → AreParts symbols start from by factor width count i d sums
      → AreParts symbols start from by factor width count (i + 1) 0 sums
  AreParts-next i d sums all so_far = record {
    many = so_far.many;
    further = λ j none below. absurd (omega arith);
    rest = λ j from_here below. so_far.further j (omega arith) below;
  }

-- ---- sums that are stored block by block

-- the sums are the same where the symbols are
sum_same : (old new : List (List ℕ)) (from by : List ℕ) (first k : ℕ)
    → ((i : ℕ) → i < length from → slice_index_or new (slice_index from i) [] ≡ slice_index_or old (slice_index from i) [])
    → sum_by new from by first k ≡ sum_by old from by first k
sum_same old new from by first k same =
    field_sum_same (length from) _ _ (λ i h. ap (λ symbol. product (slice_index by (first + i)) (slice_index symbol k)) (same i h))

-- a place that is set is none of the others
apart_from : (count d i : ℕ) (into from : List ℕ) → AreApart count into from → d < length into → i < length from → slice_index into d ≢ slice_index from i
apart_from count d i into from places in_into in_from same =
    places.apart d 0 in_into (subst (Contains from) (sym same) (Contains-get_or from i 0 in_from))

-- the sums from number `first` on and before `last` stand in the bytes below `start`, those before `done` in a block more
pub record AreStored (old new : List (List ℕ)) (into from by : List ℕ) (width first last start done : ℕ) : Type 0 where
  pub count : length new ≡ length old
  pub others :
      (p : ℕ) → ((d : ℕ) → first ≤ d → d < last → slice_index into d ≢ p) → slice_index_or new p [] ≡ slice_index_or old p []
  pub long : (d : ℕ) → first ≤ d → d < last → length (slice_index_or new (slice_index into d) []) ≡ 512
  pub bytes :
      (d k : ℕ) → first ≤ d → d < last → k < start → symbol_byte new k (slice_index into d) ≡ sum_by old from by (d * width) k
  pub ahead :
      (d k : ℕ) → first ≤ d → d < done → k < start + 64 → symbol_byte new k (slice_index into d) ≡ sum_by old from by (d * width) k

module _ (old : List (List ℕ)) (into from by : List ℕ) (width first last : ℕ) (places : AreApart (length old) into from) (within : last ≤ length into) where
  pub AreStored-none : ((d : ℕ) → first ≤ d → d < last → length (slice_index_or old (slice_index into d) []) ≡ 512)
      → AreStored old old into from by width first last 0 first
  AreStored-none long = record {
    count = refl;
    others = λ p other. refl;
    long = long;
    bytes = λ d k above below none. absurd (omega arith);
    ahead = λ d k above below h. absurd (omega arith);
  }

  -- what is summed up in between is what there was
  pub stored_sums : (new : List (List ℕ)) (start done at factor d : ℕ) {sum : List ℕ} → AreStored old new into from by width first last start done
      → factor ≡ d * width → AreLanes 64 sum (λ k. sum_by new from by factor (at + k))
      → AreLanes 64 sum (λ k. sum_by old from by (d * width) (at + k))
  stored_sums new start done at factor d so_far is sums =
      AreLanes-same sums (λ k h.
      sum_same old new from by factor (at + k)
      (λ i in_from. so_far.others (slice_index from i)
      (λ e above below. apart_from (length old) e i into from places (omega arith) in_from))
      ∙ ap (λ f. sum_by old from by f (at + k)) is)

  pub AreStored-more : (new : List (List ℕ)) (start done place : ℕ) (bytes sum : List ℕ) → first ≤ done → done < last → place ≡ slice_index into done
      → AreStored old new into from by width first last start done
      → AreLanes 64 sum (λ k. sum_by old from by (done * width) (start + k))
      → HasLanesAt (slice_index_or new place []) bytes start sum
      → AreStored old (slice_set new place bytes) into from by width first last start (done + 1)
  AreStored-more new start done place bytes sum above below is so_far sums stored =
      let newer = slice_set new place bytes in
      let in_new : place < length new = omega (arith, is, so_far.count, places.below done 0 (omega arith)) in
      let here : slice_index_or newer (slice_index into done) [] ≡ bytes =
      ap (λ p. slice_index_or newer p []) (sym is) ∙ get_or-set_same new place bytes [] in_new in
      let there : (d : ℕ) → d < last → d ≢ done → slice_index_or newer (slice_index into d) [] ≡ slice_index_or new (slice_index into d) [] =
      λ d in_range apart.
      get_or-set_other new place (slice_index into d) bytes []
      (λ same. apart (places.distinct d done (omega arith) (omega arith) (same ∙ is))) in
      let before : slice_index_or new place [] ≡ slice_index_or new (slice_index into done) [] = ap (λ p. slice_index_or new p []) is in
      record {
        count = length-set new place bytes ∙ so_far.count;
        others = λ p other.
            get_or-set_other new place p bytes [] (λ same. other done above below (sym (same ∙ is))) ∙ so_far.others p other;
        long = λ d from_first in_range.
            elim (cases_eq d done) [
              | inl this ↦
                  subst (λ (n : ℕ). length (slice_index_or newer (slice_index into n) []) ≡ 512) (sym this)
                  (ap length here ∙ stored.same_length ∙ ap length before ∙ so_far.long done above below)
              | inr apart ↦ ap length (there d in_range apart) ∙ so_far.long d from_first in_range
            ];
        bytes = λ d k from_first in_range h.
            elim (cases_eq d done) [
              | inl this ↦
                  subst (λ (n : ℕ). symbol_byte newer k (slice_index into n) ≡ sum_by old from by (n * width) k) (sym this)
                  (ap (λ symbol. slice_index symbol k) here ∙ stored.below k h ∙ ap (λ symbol. slice_index symbol k) before
                  ∙ so_far.bytes done k above below h)
              | inr apart ↦ ap (λ symbol. slice_index symbol k) (there d in_range apart) ∙ so_far.bytes d k from_first in_range h
            ];
        ahead = λ d k from_first in_range h.
            elim (cases_eq d done) [
              | inl this ↦
                  subst (λ (n : ℕ). symbol_byte newer k (slice_index into n) ≡ sum_by old from by (n * width) k) (sym this)
                  (ap (λ symbol. slice_index symbol k) here
                  ∙ more (slice_index_or new place []) bytes sum start (sum_by old from by (done * width))
                  (λ j low. ap (λ symbol. slice_index symbol j) before ∙ so_far.bytes done j above below low) sums stored k h)
              | inr apart ↦
                  ap (λ symbol. slice_index symbol k) (there d (omega arith) apart) ∙ so_far.ahead d k from_first (omega (arith, apart)) h
            ];
      }

  -- one block more of all of them
  pub AreStored-next : (new : List (List ℕ)) (start done : ℕ) → last ≤ done → AreStored old new into from by width first last start done
      → AreStored old new into from by width first last (start + 64) first
  AreStored-next new start done all so_far = record {
    count = so_far.count;
    others = so_far.others;
    long = so_far.long;
    bytes = λ d k above below h. so_far.ahead d k above (omega arith) h;
    ahead = λ d k above below h. absurd (omega arith);
  }

  -- all blocks
  pub SetsSumsWithin-of : (new : List (List ℕ)) (start done : ℕ) → 512 ≤ start → AreStored old new into from by width first last start done
      → SetsSumsWithin old new into from by width first last
  SetsSumsWithin-of new start done all so_far = record {
    count = so_far.count;
    others = so_far.others;
    long = so_far.long;
    bytes = λ d k above below h. so_far.bytes d k above below (omega arith);
  }

-- ---- one group of sums after the other

pub SetsSumsWithin-none : (symbols : List (List ℕ)) (into from by : List ℕ) (width first : ℕ)
    → SetsSumsWithin symbols symbols into from by width first first
SetsSumsWithin-none symbols into from by width first = record {
  count = refl;
  others = λ p other. refl;
  long = λ d above below. absurd (omega arith);
  bytes = λ d k above below h. absurd (omega arith);
}

pub SetsSumsWithin-more : (old middle new : List (List ℕ)) (into from by : List ℕ) (width first last next : ℕ) → AreApart (length old) into from
    → first ≤ last → last ≤ next → next ≤ length into → SetsSumsWithin old middle into from by width first last
    → SetsSumsWithin middle new into from by width last next → SetsSumsWithin old new into from by width first next
SetsSumsWithin-more old middle new into from by width first last next places rising further within one two =
    let stays : (d : ℕ) → d < last → slice_index_or new (slice_index into d) [] ≡ slice_index_or middle (slice_index into d) [] =
    λ d before.
    two.others (slice_index into d)
    (λ e above below same.
    let equal : e ≡ d = places.distinct e d (omega arith) (omega arith) same in omega (arith, equal)) in
    record {
      count = two.count ∙ one.count;
      others = λ p other. two.others p (λ d above below. other d (omega arith) below) ∙ one.others p (λ d above below. other d above (omega arith));
      long = λ d above below.
          elim (cases_lt d last) [
            | inl before ↦ ap length (stays d before) ∙ one.long d above before
            | inr behind ↦ two.long d behind below
          ];
      bytes = λ d k above below h.
          elim (cases_lt d last) [
            | inl before ↦ ap (λ symbol. slice_index symbol k) (stays d before) ∙ one.bytes d k above before h
            | inr behind ↦
                two.bytes d k behind below h
                ∙ sum_same old middle from by (d * width) k
                (λ i in_from. one.others (slice_index from i)
                (λ e e_above e_below. apart_from (length old) e i into from places (omega arith) in_from))
          ];
    }

-- and the last one
pub SetsSums-last : (old middle new : List (List ℕ)) (into from by : List ℕ) (width done first last : ℕ) → AreApart (length old) into from
    → done ≡ first → last ≡ length into → first ≤ last → SetsSumsWithin old middle into from by width 0 done
    → SetsSumsWithin middle new into from by width first last → SetsSumsWithin old new into from by width 0 (length into)
SetsSums-last old middle new into from by width done first last places same all rising one two =
    subst (SetsSumsWithin old new into from by width 0) all
    (SetsSumsWithin-more old middle new into from by width 0 first last places (omega arith) rising (omega (arith, all))
    (subst (SetsSumsWithin old middle into from by width 0) same one) two)
