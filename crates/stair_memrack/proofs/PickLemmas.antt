-- Each pick leaves a cell that a crash may leave, and each such cell is left by a pick.
use Rattle.std.proofs.Common.{◌≡◌, ℕ, ◌<◌, ◌≤◌, ◌+◌, ◌-◌, zero, suc, Bool, true, false, List, [], ◌∷◌, ◌++◌, length, map, reverse, get_or, inl, inr, refl, sym, ap, ◌∙◌, subst, arith}
use Rattle.std.specs.Prelude.{cond, if◌then◌else◌, slice_index, slice_index_or}
use Rattle.std.proofs.lemmas.Bool.{cond-true, cond-false, cond_both, cases_Bool, cases_eq, cases_lt, lt-ltb, ltb-true, false≢true}
use Rattle.std.proofs.lemmas.List.{get_or-map, get_or-reverse, get_or_past, length-map, length-reverse, length-append, get_or_append_left, get_or-append_right, get_or-append-add}
use Rattle.stair_rack.specs.Sector.{Cell, Good, Sector, torn, LeftOf, MayLeave}
use Rattle.stair_rack.specs.Media.{Image}
use Rattle.stair_rack.specs.History.{Happening, slot_state}
use Rattle.stair_rack.specs.Crash.{CrashMayLeave}
use Rattle.stair_rack.proofs.CrashLemmas.{MayLeave-base}
use Rattle.stair_memrack.specs.Picks.{is_pending, contents, picked, count_below, total_below, is_pending_at, size_at, pending_place, crash_image, HasPicks}

-- ONE SECTOR

good_left : (base : Cell) (since : List (List ℕ)) (i : ℕ) → i < length since → LeftOf base since (Good (get_or since i []))
good_left base [] i within = absurd (omega arith)
good_left base (bytes ∷ since) zero within = inl refl
good_left base (bytes ∷ since) (suc i) within = inr (inr (good_left base since i (omega arith)))

torn_left : (base : Cell) (since : List (List ℕ)) → 0 < length since → LeftOf base since (torn base)
torn_left base [] some = absurd (omega arith)
torn_left base (bytes ∷ since) some = inr (inl refl)

-- the content that was written as the m-th since, counted from 0
pub content_written : (since : List (List ℕ)) (m : ℕ) (other : Cell) → m < length since
    → get_or (map Good (reverse since)) m other ≡ Good (get_or since (length since - 1 - m) [])
content_written since m other within =
    get_or-map Good (reverse since) m [] other (omega (arith, length-reverse since)) ∙ ap Good (get_or-reverse since m [] within)

pub content_past : (since : List (List ℕ)) (m : ℕ) (other : Cell) → length since ≤ m → get_or (map Good (reverse since)) m other ≡ other
content_past since m other past = get_or_past (map Good (reverse since)) m other (omega (arith, length-map (reverse since) Good, length-reverse since))

-- each pick leaves a cell that a crash may leave
pub picked-may : (n : ℕ) (s : Sector) → MayLeave s (picked n s)
picked-may n s =
    elim (cases_Bool (is_pending s)) [
      | inl pending ↦ subst (MayLeave s) (sym (cond-true (is_pending s) _ s.base pending)) (by_number n (ltb-true 0 (length s.since) pending))
      | inr settled ↦ subst (MayLeave s) (sym (cond-false (is_pending s) _ s.base settled)) (MayLeave-base s)
    ]
  where
    by_number : (n : ℕ) → 0 < length s.since → MayLeave s (slice_index_or (contents s) n (torn s.base))
    by_number zero some = MayLeave-base s
    by_number (suc m) some =
        elim (cases_lt m (length s.since)) [
          | inl within ↦
              subst (MayLeave s) (sym (content_written s.since m (torn s.base) within))
              (good_left s.base s.since (length s.since - 1 - m) (omega arith))
          | inr past ↦ subst (MayLeave s) (sym (content_past s.since m (torn s.base) past)) (torn_left s.base s.since some)
        ]

-- what a crash may leave: the base, a content written since, or a torn cell
data LeftAs (base : Cell) (since : List (List ℕ)) (cell : Cell) : Type 0 where
  AsBase : cell ≡ base → LeftAs base since cell
  AsWritten : (i : ℕ) → i < length since → cell ≡ Good (get_or since i []) → LeftAs base since cell
  AsTorn : 0 < length since → cell ≡ torn base → LeftAs base since cell

left_as : (base : Cell) (since : List (List ℕ)) (cell : Cell) → LeftOf base since cell → LeftAs base since cell
left_as base [] cell left = AsBase left
left_as base (bytes ∷ since) cell (inl is) = AsWritten 0 (omega arith) is
left_as base (bytes ∷ since) cell (inr (inl is)) = AsTorn (omega arith) is
left_as base (bytes ∷ since) cell (inr (inr before)) = more (left_as base since cell before)
  where
    more : LeftAs base since cell → LeftAs base (bytes ∷ since) cell
    more (AsBase is) = AsBase is
    more (AsWritten i within is) = AsWritten (suc i) (omega (arith, within)) is
    more (AsTorn some is) = AsTorn (omega arith) is

-- a pick that leaves this cell
pub record HasPick (s : Sector) (cell : Cell) : Type 0 where
  pub pick : ℕ
  pub few : pick ≤ length s.since + 1
  pub leaves : picked pick s ≡ cell

-- each cell that a crash may leave is left by a pick
pub pick_for : (s : Sector) (cell : Cell) → MayLeave s cell → HasPick s cell
pick_for s cell left = from (left_as s.base s.since cell left)
  where
    pending : {i : ℕ} → i < length s.since → is_pending s ≡ true
    pending within = lt-ltb 0 (length s.since) (omega (arith, within))

    from : LeftAs s.base s.since cell → HasPick s cell
    from (AsBase is) = record {
      pick = 0;
      few = omega arith;
      leaves = cond_both (is_pending s) _ s.base (λ c. c ≡ cell) (λ e. sym is) (λ e. sym is);
    }
    from (AsWritten i within is) = record {
      pick = suc (length s.since - 1 - i);
      few = omega (arith, within);
      leaves =
          let m : ℕ = length s.since - 1 - i in
          let back : length s.since - 1 - m ≡ i = omega (arith, within) in
          cond-true (is_pending s) (slice_index_or (contents s) (suc m) (torn s.base)) s.base (pending within)
          ∙ content_written s.since m (torn s.base) (omega (arith, within))
          ∙ ap (λ n. Good (get_or s.since n [])) back
          ∙ sym is;
    }
    from (AsTorn some is) = record {
      pick = suc (length s.since);
      few = omega arith;
      leaves =
          cond-true (is_pending s) (slice_index_or (contents s) (suc (length s.since)) (torn s.base)) s.base (pending some)
          ∙ content_past s.since (length s.since) (torn s.base) (omega arith)
          ∙ sym is;
    }

-- COUNTS

pub count_below-less : (f : ℕ → Bool) (k n : ℕ) → k < n → f k ≡ true → count_below f k < count_below f n
count_below-less f k zero within is = absurd (omega arith)
count_below-less f k (suc n) within is =
    elim (cases_eq k n) [
      | inl same ↦
          let one : cond {A = ℕ} (f n) 1 0 ≡ 1 = cond-true {A = ℕ} (f n) 1 0 (subst (λ m. f m ≡ true) same is) in
          let at = ap (count_below f) same in
          omega arith
      | inr other ↦ let before = count_below-less f k n (omega (arith, within, other)) is in omega arith
    ]

pub count_below-ext : (f g : ℕ → Bool) (n : ℕ) → ((k : ℕ) → f k ≡ g k) → count_below f n ≡ count_below g n
count_below-ext f g zero same = refl
count_below-ext f g (suc n) same =
    let before = count_below-ext f g n same in let here = ap (λ (b : Bool). cond {A = ℕ} b 1 0) (same n) in omega arith

pub count_below-few : (f : ℕ → Bool) (n : ℕ) → count_below f n ≤ n
count_below-few f zero = omega arith
count_below-few f (suc n) =
    cond_both (f n) 1 0 (λ (m : ℕ). count_below f n + m ≤ suc n) (λ e. let it = count_below-few f n in omega arith)
    (λ e. let it = count_below-few f n in omega arith)

total_below-ext : (f g : ℕ → ℕ → Bool) (size size' : ℕ → ℕ) (n : ℕ) → ((j k : ℕ) → j < n → f j k ≡ g j k) → ((j : ℕ) → j < n → size j ≡ size' j)
    → total_below f size n ≡ total_below g size' n
total_below-ext f g size size' zero same sizes = refl
total_below-ext f g size size' (suc n) same sizes =
    let before = total_below-ext f g size size' n (λ j k below. same j k (omega (arith, below))) (λ j below. sizes j (omega (arith, below))) in
    let here : count_below (f n) (size n) ≡ count_below (g n) (size' n) =
    count_below-ext (f n) (g n) (size n) (λ k. same n k (omega arith)) ∙ ap (count_below (g n)) (sizes n (omega arith)) in
    omega arith

pub total-ext : (f g : ℕ → ℕ → Bool) (size size' : ℕ → ℕ) (n m : ℕ) → n ≤ m → ((j k : ℕ) → j < m → f j k ≡ g j k)
    → ((j : ℕ) → j < m → size j ≡ size' j) → total_below f size n ≡ total_below g size' n
total-ext f g size size' n m less same sizes =
    total_below-ext f g size size' n (λ j k below. same j k (omega (arith, less, below))) (λ j below. sizes j (omega (arith, less, below)))

-- LISTS OF PICKS

module _ (f : ℕ → ℕ → Bool) (size : ℕ → ℕ) (v : ℕ → ℕ → ℕ) where
  abbrev one_pick : ℕ → ℕ → List ℕ
  one_pick j k = if f j k then v j k ∷ [] else []

  -- of the first n sectors of slot j
  abbrev picks_of : ℕ → ℕ → List ℕ
  picks_of j zero = []
  picks_of j (suc n) = picks_of j n ++ one_pick j n

  -- of the first n slots
  abbrev pub all_picks : ℕ → List ℕ
  all_picks zero = []
  all_picks (suc n) = all_picks n ++ picks_of n (size n)

  one_pick-count : (j k : ℕ) → length (one_pick j k) ≡ cond (f j k) 1 0
  one_pick-count j k = by (f j k)
    where
      by : (b : Bool) → length (if b then v j k ∷ [] else []) ≡ cond b 1 0
      by true = refl
      by false = refl

  picks_of-count : (j n : ℕ) → length (picks_of j n) ≡ count_below (f j) n
  picks_of-count j zero = refl
  picks_of-count j (suc n) =
      let before = picks_of-count j n in omega (arith, length-append (picks_of j n) (one_pick j n), one_pick-count j n)

  all_picks-count : (n : ℕ) → length (all_picks n) ≡ total_below f size n
  all_picks-count zero = refl
  all_picks-count (suc n) =
      let before = all_picks-count n in omega (arith, length-append (all_picks n) (picks_of n (size n)), picks_of-count n (size n))

  picks_of-read : (j n k : ℕ) → k < n → f j k ≡ true → get_or (picks_of j n) (count_below (f j) k) 0 ≡ v j k
  picks_of-read j zero k within is = absurd (omega arith)
  picks_of-read j (suc n) k within is =
      elim (cases_eq k n) [
        | inl same ↦
            let here : one_pick j n ≡ v j n ∷ [] = cond-true (f j n) (v j n ∷ []) [] (subst (λ m. f j m ≡ true) same is) in
            let at : count_below (f j) k ≡ length (picks_of j n) + 0 = ap (count_below (f j)) same ∙ omega (arith, picks_of-count j n) in
            ap (λ m. get_or (picks_of j n ++ one_pick j n) m 0) at
            ∙ get_or-append-add (picks_of j n) (one_pick j n) 0 0
            ∙ ap (λ xs. get_or xs 0 0) here
            ∙ ap (v j) (sym same)
        | inr other ↦
            let before : k < n = omega (arith, within, other) in
            get_or_append_left (picks_of j n) (one_pick j n) 0 (count_below (f j) k)
            (omega (arith, picks_of-count j n, count_below-less (f j) k n before is))
            ∙ picks_of-read j n k before is
      ]

  total_below-grows : (j n : ℕ) → j < n → total_below f size j + count_below (f j) (size j) ≤ total_below f size n
  total_below-grows j zero within = absurd (omega arith)
  total_below-grows j (suc n) within =
      elim (cases_eq j n) [
        | inl same ↦ subst (λ m. total_below f size m + count_below (f m) (size m) ≤ total_below f size n + count_below (f n) (size n)) (sym same) (omega arith)
        | inr other ↦ let before = total_below-grows j n (omega (arith, within, other)) in omega arith
      ]

  pub all_picks-read : (n j k : ℕ) → j < n → k < size j → f j k ≡ true
      → get_or (all_picks n) (total_below f size j + count_below (f j) k) 0 ≡ v j k
  all_picks-read zero j k within below is = absurd (omega arith)
  all_picks-read (suc n) j k within below is =
      elim (cases_eq j n) [
        | inl same ↦
            let at : total_below f size j + count_below (f j) k ≡ length (all_picks n) + count_below (f n) k =
            ap (λ m. total_below f size m + count_below (f m) k) same ∙ ap (λ m. m + count_below (f n) k) (sym (all_picks-count n)) in
            ap (λ m. get_or (all_picks n ++ picks_of n (size n)) m 0) at
            ∙ get_or-append-add (all_picks n) (picks_of n (size n)) (count_below (f n) k) 0
            ∙ picks_of-read n (size n) k (subst (λ m. k < size m) same below) (subst (λ m. f m k ≡ true) same is)
            ∙ ap (λ m. v m k) (sym same)
        | inr other ↦
            let before : j < n = omega (arith, within, other) in
            let less = count_below-less (f j) k (size j) below is in
            get_or_append_left (all_picks n) (picks_of n (size n)) 0 (total_below f size j + count_below (f j) k)
            (omega (arith, all_picks-count n, total_below-grows j n before))
            ∙ all_picks-read n j k before below is
      ]

  append-few : (most : ℕ) (xs ys : List ℕ) → ((i : ℕ) → slice_index xs i ≤ most) → ((i : ℕ) → slice_index ys i ≤ most) → (i : ℕ)
      → slice_index (xs ++ ys) i ≤ most
  append-few most xs ys few more i =
      elim (cases_lt i (length xs)) [
        | inl within ↦ subst (λ n. n ≤ most) (sym (get_or_append_left xs ys 0 i within)) (few i)
        | inr past ↦ subst (λ n. n ≤ most) (sym (get_or-append_right xs ys (length xs) i 0 refl past)) (more (i - length xs))
      ]

  one_pick-few : (most j k : ℕ) → v j k ≤ most → (i : ℕ) → slice_index (one_pick j k) i ≤ most
  one_pick-few most j k fits i = by (f j k) i
    where
      by : (b : Bool) (i : ℕ) → slice_index (if b then v j k ∷ [] else []) i ≤ most
      by true zero = fits
      by true (suc i) = omega arith
      by false i = omega arith

  picks_of-few : (most j n : ℕ) → ((k : ℕ) → v j k ≤ most) → (i : ℕ) → slice_index (picks_of j n) i ≤ most
  picks_of-few most j zero fits i = omega arith
  picks_of-few most j (suc n) fits i = append-few most (picks_of j n) (one_pick j n) (picks_of-few most j n fits) (one_pick-few most j n (fits n)) i

  pub all_picks-few : (most n : ℕ) → ((j k : ℕ) → j < n → v j k ≤ most) → (i : ℕ) → slice_index (all_picks n) i ≤ most
  all_picks-few most zero fits i = omega arith
  all_picks-few most (suc n) fits i =
      append-few most (all_picks n) (picks_of n (size n)) (all_picks-few most n (λ j k below. fits j k (omega (arith, below))))
      (picks_of-few most n (size n) (λ k. fits n k (omega arith))) i

-- IMAGES

-- the picks leave an image that a crash may leave
pub crash_image-may : (picks : List ℕ) (h : List Happening) → CrashMayLeave h (crash_image picks h)
crash_image-may picks h j = record {
  size = refl;
  each = λ k. picked-may (slice_index picks (pending_place h j k)) ((slot_state h j).sector k);
  removed = refl;
}

-- a sector that isn't pending is left as it is, by each pick
picked-settled : (n m : ℕ) (s : Sector) → is_pending s ≡ false → picked n s ≡ picked m s
picked-settled n m s settled = cond-false (is_pending s) _ s.base settled ∙ sym (cond-false (is_pending s) _ s.base settled)

-- each image that a crash may leave is left by picks
pub picks_for : (h : List Happening) (calls : ℕ) → ((j k : ℕ) → j < 32 → size_at h j ≤ k → is_pending_at h j k ≡ false)
    → ((j k : ℕ) → j < 32 → length ((slot_state h j).sector k).since ≤ calls) → (image : Image) → CrashMayLeave h image → HasPicks h calls image
picks_for h calls past few image left = record {
  picks = picks;
  are = record {
    size = λ j within. sym (left j).size;
    removed = λ j within. sym (left j).removed;
    cell = λ j k within.
        elim (cases_Bool (is_pending_at h j k)) [
          | inl pending ↦
              elim (cases_lt k (size_at h j)) [
                | inl below ↦
                    ap (λ n. picked n ((slot_state h j).sector k)) (all_picks-read (is_pending_at h) (size_at h) v 32 j k within below pending)
                    ∙ (pick j k).leaves
                | inr above ↦ absurd (false≢true (sym (past j k within above) ∙ pending))
              ]
          | inr settled ↦ picked-settled _ (v j k) ((slot_state h j).sector k) settled ∙ (pick j k).leaves
        ];
    few = all_picks-few (is_pending_at h) (size_at h) v (calls + 1) 32
        (λ j k within. let it = (pick j k).few in let less = few j k within in omega arith);
  };
}
  where
    pick : (j k : ℕ) → HasPick ((slot_state h j).sector k) ((image j).cell k)
    pick j k = pick_for ((slot_state h j).sector k) ((image j).cell k) ((left j).each k)

    v : ℕ → ℕ → ℕ
    v j k = (pick j k).pick

    picks : List ℕ
    picks = all_picks (is_pending_at h) (size_at h) v 32
