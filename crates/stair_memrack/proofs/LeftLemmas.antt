-- What a crash leaves of the slots in memory is the image that the history tells, by the same picks.
use Rattle.std.proofs.Common.{◌≡◌, ℕ, ◌<◌, ◌≤◌, ◌+◌, ◌-◌, zero, suc, Bool, true, false, List, [], ◌∷◌, ◌++◌, length, map, reverse, get_or, drop, inl, inr, refl, sym, ap, ap₂, ◌∙◌, subst, arith, Option, None, Some, slice_get}
use Rattle.std.specs.Prelude.{cond, if◌then◌else◌, nat_lt, nat_le, ◌==◌, option_map, unwrap_or, slice_index, slice_index_or}
use Rattle.std.proofs.Math.Path.{fun_ext}
use Rattle.std.proofs.lemmas.Bool.{cond-true, cond-false, cases_Bool, cases_lt, cases_eq, le-leb, lt-leb, ne_eqb}
use Rattle.std.proofs.lemmas.List.{get_or_past, get_or-take, get_or-reverse, drop_more, length-map, length-reverse, length-take, length-append, get_or_append_left, get_or-append-add, get_or_read}
use Rattle.std.proofs.lemmas.Option.{slice_get-get_or}
use Rattle.stair_rack.specs.Sector.{Good, Sector, torn}
use Rattle.stair_rack.specs.Media.{Image}
use Rattle.stair_rack.specs.History.{SlotState, Happening, Made, slot_state}
use Rattle.stair_rack.specs.Crash.{CrashMayLeave}
use Rattle.stair_rack.specs.declared.rack.Reply.TheVariants as reply
use Rattle.stair_memrack.specs.declared.act.Act.{Act}
use Rattle.stair_memrack.specs.declared.record.Call.{Call}
use Rattle.stair_memrack.specs.declared.record.Call.TheVariants.{Attach, Sectors, Read, Write, Sync}
use Rattle.stair_memrack.specs.declared.record.Recorded.{Recorded}
use Rattle.stair_memrack.specs.declared.disk.StoredCell.{StoredCell}
use Rattle.stair_memrack.specs.declared.disk.StoredCell.TheVariants as stored
use Rattle.stair_memrack.specs.declared.disk.StoredSector.{StoredSector}
use Rattle.stair_memrack.specs.declared.rack.MemRack.TheInside.{Inside}
use Rattle.stair_memrack.specs.Disk.{cell_of, unwritten, stored_at, stored_in, medium_of}
use Rattle.stair_memrack.specs.Place.{PlaceState, no_place, size_of}
use Rattle.stair_memrack.specs.Origin.{OriginState, no_origin, origin_at, cell_at, cell_in, medium_over, slot_over, image_over}
use Rattle.stair_memrack.specs.Record.{MemRackState, slot_call, after_calls, recorded, history_of}
use Rattle.stair_memrack.specs.Sound.{state_of, IsSound}
use Rattle.stair_memrack.specs.Shelf.{Written, with_write, writes_in, IsStored, IsMediumOf, IsPlaceOf, IsShelfOf, place_at}
use Rattle.stair_memrack.specs.Picks.{is_pending, contents, picked, count_below, is_pending_at, size_at, pending_before, pending_place, crash_image, HasPicks}
use Rattle.stair_memrack.specs.Left.{bytes_on, wrote_on, writes_of, torn_over, has_pending, left_pending, left_sector, pending_at, pending_in, now_of, AreLeft, IsMediumLeft, IsLeft, pending_of, pending_below, SlotsAreLeft}
use Rattle.stair_memrack.proofs.PlaceLemmas.{stored_past}
use Rattle.stair_memrack.proofs.WriteLemmas.{acts-writes, history-writes, writes-within}
use Rattle.stair_memrack.proofs.PickLemmas.{content_written, content_past, count_below-ext, total-ext, picks_for}

-- THE WRITES OF THE RECORD

pub writes_of-recorded : (script : List Act) (h : Happening) (calls : List Recorded) (j : ℕ) → writes_in (h ∷ []) j ≡ (λ k. [])
    → writes_in (after_calls script h calls) j ≡ writes_of calls j
writes_of-recorded script h [] j none = none
writes_of-recorded script h (c ∷ calls) j none =
    ap (λ w. if c.slot == j then with_write (slot_call c.call) w else w)
    (acts-writes (length calls) script (after_calls script h calls) j ∙ writes_of-recorded script h calls j none)

-- what one call more wrote
abbrev pub with_bytes : Option (List ℕ) → List (List ℕ) → List (List ℕ)
with_bytes None w = w
with_bytes (Some bytes) w = bytes ∷ w

wrote_one : (call : Call) (w : Written) (k : ℕ) → with_write (slot_call call) w k ≡ with_bytes (bytes_on call k) (w k)
wrote_one (Attach answer) w k = refl
wrote_one (Sectors size) w k = refl
wrote_one (Read l answer) w k = refl
wrote_one (Write l bytes reply.Done) w k = at (k == l)
  where
    at : (b : Bool) → (if b then bytes ∷ w k else w k) ≡ with_bytes (if b then Some bytes else None) (w k)
    at true = refl
    at false = refl
wrote_one (Write l bytes reply.Gone) w k = refl
wrote_one (Sync answer) w k = refl

pub wrote_step : (c : Recorded) (calls : List Recorded) (j k : ℕ) → writes_of (c ∷ calls) j k ≡ with_bytes (wrote_on c j k) (writes_of calls j k)
wrote_step c calls j k = by (c.slot == j)
  where
    by : (b : Bool) → (if b then with_write (slot_call c.call) (writes_of calls j) else writes_of calls j) k
        ≡ with_bytes (if b then bytes_on c.call k else None) (writes_of calls j k)
    by true = wrote_one c.call (writes_of calls j) k
    by false = refl

-- the call of the record at this place, the newest one at 0
pub written_step : (log : List Recorded) (i j k : ℕ) (c : Recorded) → i < length log → c ≡ get_or log (length log - 1 - i) c
    → writes_of (drop i (reverse log)) j k ≡ with_bytes (wrote_on c j k) (writes_of (drop (i + 1) (reverse log)) j k)
written_step log i j k c within is =
    let at : get_or (reverse log) i c ≡ c = get_or-reverse log i c within ∙ sym is in
    ap (λ calls. writes_of calls j k) (drop_more (reverse log) i c (omega (arith, length-reverse log)) ∙ ap (λ d. d ∷ drop (i + 1) (reverse log)) at)
    ∙ wrote_step c (drop (i + 1) (reverse log)) j k

module _ (log : List Recorded) (i n left j k : ℕ) (c : Recorded) (within : i < length log) (is : c ≡ get_or log (length log - 1 - i) c)
    (before : slice_get (writes_of (reverse log) j k) n ≡ slice_get (writes_of (drop i (reverse log)) j k) left) where
  here : (o : Option (List ℕ)) → wrote_on c j k ≡ o
      → slice_get (writes_of (reverse log) j k) n ≡ slice_get (with_bytes o (writes_of (drop (i + 1) (reverse log)) j k)) left
  here o wrote =
      before
      ∙ ap (λ w. slice_get w left) (written_step log i j k c within is ∙ ap (λ p. with_bytes p (writes_of (drop (i + 1) (reverse log)) j k)) wrote)

  pub found_here : (bytes : List ℕ) → wrote_on c j k ≡ Some bytes → left ≡ 0 → Some bytes ≡ slice_get (writes_of (reverse log) j k) n
  found_here bytes wrote none =
      sym (here (Some bytes) wrote ∙ ap (λ m. slice_get (bytes ∷ writes_of (drop (i + 1) (reverse log)) j k) m) none)

  pub passed_over : (bytes : List ℕ) (less : ℕ) → wrote_on c j k ≡ Some bytes → left ≡ suc less
      → slice_get (writes_of (reverse log) j k) n ≡ slice_get (writes_of (drop (i + 1) (reverse log)) j k) less
  passed_over bytes less wrote more =
      here (Some bytes) wrote ∙ ap (λ m. slice_get (bytes ∷ writes_of (drop (i + 1) (reverse log)) j k) m) more

  pub not_here : wrote_on c j k ≡ None → slice_get (writes_of (reverse log) j k) n ≡ slice_get (writes_of (drop (i + 1) (reverse log)) j k) left
  not_here wrote = here None wrote

-- ONE SECTOR

cell_of-torn : (c : StoredCell) → cell_of (torn_over c) ≡ torn (cell_of c)
cell_of-torn (stored.Good bytes) = refl
cell_of-torn stored.Damaged = refl
cell_of-torn stored.Torn = refl
cell_of-torn stored.TornOverDamage = refl

-- it is left as the history tells
pub left_sector-is : (n : ℕ) (w : List (List ℕ)) (x : StoredSector) (s : Sector) → IsStored w x s → cell_of (left_sector n x w) ≡ picked n s
left_sector-is n w x s is =
    elim (cases_Bool (has_pending x)) [
      | inl pending ↦
          ap cell_of (cond-true (has_pending x) (left_pending n x w) x.base pending)
          ∙ by_number n
          ∙ sym (cond-true (is_pending s) (slice_index_or (contents s) n (torn s.base)) s.base (sym flag ∙ pending))
      | inr settled ↦
          ap cell_of (cond-false (has_pending x) (left_pending n x w) x.base settled)
          ∙ is.base_is
          ∙ sym (cond-false (is_pending s) (slice_index_or (contents s) n (torn s.base)) s.base (sym flag ∙ settled))
    ]
  where
    flag : has_pending x ≡ is_pending s
    flag = ap (nat_lt 0) is.pending_is

    all : length s.since ≤ length w
    all = let taken = ap length is.since_is in omega (arith, length-take x.pending w)

    torn_is : cell_of (torn_over x.base) ≡ torn s.base
    torn_is = cell_of-torn x.base ∙ ap torn is.base_is

    by_number : (n : ℕ) → cell_of (left_pending n x w) ≡ slice_index_or (contents s) n (torn s.base)
    by_number zero = is.base_is
    by_number (suc m) =
        let other : left_pending (suc m) x w
        ≡ (if nat_le (suc m) x.pending then unwrap_or (option_map stored.Good (slice_get w (x.pending - suc m))) (torn_over x.base) else torn_over x.base) =
        cond-false (suc m == 0) x.base _ (ne_eqb (suc m) 0 (λ e. omega (arith, e))) in
        elim (cases_lt m (length s.since)) [
          | inl within ↦
              let i : ℕ = x.pending - suc m in
              let below : i < length w = omega (arith, is.pending_is, all) in
              let here : left_pending (suc m) x w ≡ stored.Good (get_or w i []) =
              other
              ∙ cond-true (nat_le (suc m) x.pending) _ (torn_over x.base) (le-leb (suc m) x.pending (omega (arith, is.pending_is)))
              ∙ ap (λ o. unwrap_or (option_map stored.Good o) (torn_over x.base)) (slice_get-get_or w i [] below) in
              let index : length s.since - 1 - m ≡ i = omega (arith, is.pending_is) in
              let there : get_or s.since (length s.since - 1 - m) [] ≡ get_or w i [] =
              ap (λ l. get_or s.since l []) index
              ∙ ap (λ since. get_or since i []) is.since_is
              ∙ get_or-take x.pending w i [] (omega (arith, is.pending_is)) in
              ap cell_of here ∙ ap Good (sym there) ∙ sym (content_written s.since m (torn s.base) within)
          | inr past ↦
              let here : left_pending (suc m) x w ≡ torn_over x.base =
              other ∙ cond-false (nat_le (suc m) x.pending) _ (torn_over x.base) (lt-leb (suc m) x.pending (omega (arith, is.pending_is))) in
              ap cell_of here ∙ torn_is ∙ sym (content_past s.since m (torn s.base) past)
        ]

-- SLOTS

cell_at-now : (sectors : List StoredSector) (k : ℕ) → cell_at (map now_of sectors) k ≡ cell_of (stored_at sectors k).now
cell_at-now [] k = refl
cell_at-now (x ∷ sectors) zero = refl
cell_at-now (x ∷ sectors) (suc k) = cell_at-now sectors k

medium_over-now : (sectors : List StoredSector) → medium_over (map now_of sectors) ≡ medium_of sectors
medium_over-now sectors =
    let size : length (map now_of sectors) ≡ length sectors = length-map sectors now_of in
    let cell : cell_at (map now_of sectors) ≡ (λ k. cell_of (stored_at sectors k).now) = fun_ext (cell_at-now sectors) in
    λ i. record { size = size i; cell = cell i }

media_over-now : (media : List (List StoredSector)) → map medium_over (map (map now_of) media) ≡ map medium_of media
media_over-now [] = refl
media_over-now (sectors ∷ media) = λ i. medium_over-now sectors i ∷ media_over-now media i

size_of-is : {w : Written} (medium : Option (List StoredSector)) (size : Option ℕ) (sector : ℕ → Sector) → IsMediumOf w medium size sector
    → size_of medium ≡ unwrap_or size 0
size_of-is None size sector is = sym (ap (λ n. unwrap_or n 0) is.size_is)
size_of-is (Some sectors) size sector is = sym (ap (λ n. unwrap_or n 0) is.size_is)

module _ (h : List Happening) (places : List PlaceState) (stop : Bool) (shelf : IsShelfOf places stop h) where
  pending_is : (j k : ℕ) → j < 32 → pending_in (place_at places j).medium k ≡ is_pending_at h j k
  pending_is j k within = ap (nat_lt 0) ((shelf.each j within).medium.each k).pending_is

  size_is : (j : ℕ) → j < 32 → size_of (place_at places j).medium ≡ size_at h j
  size_is j within = size_of-is (place_at places j).medium (slot_state h j).size (slot_state h j).sector (shelf.each j within).medium

  pub place_is : (j k : ℕ) → j < 32 → pending_below places j + count_below (pending_in (place_at places j).medium) k ≡ pending_place h j k
  place_is j k within =
      let before : pending_below places j ≡ pending_before h j =
      total-ext (λ i. pending_in (place_at places i).medium) (is_pending_at h) (λ i. size_of (place_at places i).medium) (size_at h) j 32
      (omega (arith, within)) (λ i l below. pending_is i l below) size_is in
      let here = count_below-ext (pending_in (place_at places j).medium) (is_pending_at h j) k (λ l. pending_is j l within) in
      omega arith

  -- past the end nothing is pending
  pub past_settled : (j k : ℕ) → j < 32 → size_at h j ≤ k → is_pending_at h j k ≡ false
  past_settled j k within past =
      sym (pending_is j k within)
      ∙ ap has_pending (stored_past (place_at places j).medium k (subst (λ n. n ≤ k) (sym (size_is j within)) past))

  slot_left : (picks : List ℕ) (j : ℕ) (o : OriginState) → j < 32 → IsLeft (writes_in h j) picks (pending_below places j) (place_at places j) o
      → slot_over o ≡ crash_image picks h j
  slot_left picks j o within left =
      let p : PlaceState = place_at places j in
      let b : SlotState = slot_state h j in
      let is : IsPlaceOf (writes_in h j) p b = shelf.each j within in
      let size : option_map length o.medium ≡ b.size = left.medium.size_is ∙ sym is.medium.size_is in
      let cell : cell_in o.medium ≡ (λ k. picked (slice_index picks (pending_place h j k)) (b.sector k)) =
      fun_ext (λ k.
      left.medium.each k
      ∙ left_sector-is (slice_index picks (pending_below places j + count_below (pending_in p.medium) k)) (writes_in h j k) (stored_in p.medium k) (b.sector k)
      (is.medium.each k)
      ∙ ap (λ n. picked (slice_index picks n) (b.sector k)) (place_is j k within)) in
      let removed : map medium_over o.removed ≡ b.removed = ap (map medium_over) left.removed_is ∙ media_over-now p.removed ∙ sym is.removed_is in
      λ i. record { size = size i; cell = cell i; removed = removed i }

  -- what is left is the image by these picks
  pub image_left : (picks : List ℕ) (origins : List OriginState) → SlotsAreLeft 32 (writes_in h) picks places origins
      → image_over origins ≡ crash_image picks h
  image_left picks origins left = fun_ext (λ j. each j)
    where
      each : (j : ℕ) → image_over origins j ≡ crash_image picks h j
      each j =
          elim (cases_lt j 32) [
            | inl within ↦ slot_left picks j (origin_at origins j) within (left.each j within)
            | inr past ↦
                let none : origin_at origins j ≡ no_origin = get_or_past origins j no_origin (omega (arith, left.count)) in
                ap slot_over none
                ∙ sym (ap (λ (b : SlotState). record {
                  size = b.size;
                  cell = λ (k : ℕ). picked (slice_index picks (pending_place h j k)) (b.sector k);
                  removed = b.removed;
                }) (shelf.beyond j past))
          ]

-- THE RACK

-- what was written is in the record
pub written-is : (s : MemRackState) (j : ℕ) → writes_in (history_of s) j ≡ writes_of s.calls j
written-is s j = fun_ext (history-writes s j) ∙ writes_of-recorded s.script (Made (image_over s.made)) s.calls j refl

pub crashed : (r : Inside) (picks : List ℕ) (origins : List OriginState) → IsSound r → SlotsAreLeft 32 (writes_of (state_of r).calls) picks r.places.items origins
    → image_over origins ≡ crash_image picks (history_of (state_of r))
crashed r picks origins sound left =
    image_left (history_of (state_of r)) r.places.items r.stopped sound.shelf picks origins
    (subst (λ w. SlotsAreLeft 32 w picks r.places.items origins) (sym (fun_ext (written-is (state_of r)))) left)

pub has_picks : (r : Inside) → IsSound r → (image : Image) → CrashMayLeave (history_of (state_of r)) image
    → HasPicks (history_of (state_of r)) (length (state_of r).calls) image
has_picks r sound image left =
    let s : MemRackState = state_of r in
    let h : List Happening = history_of s in
    picks_for h (length s.calls) (past_settled h r.places.items r.stopped sound.shelf)
    (λ j k within.
    let it = (sound.shelf.each j within).medium.each k in
    let taken = ap length it.since_is in
    let x : StoredSector = stored_in (place_at r.places.items j).medium k in
    let few : length (writes_in (recorded s) j k) ≤ length s.calls = writes-within s.script (Made (image_over s.made)) s.calls j k refl in
    let same = ap length (history-writes s j k) in
    omega (arith, length-take x.pending (writes_in h j k))) image left

-- LOOPS

-- one sector more
pub AreLeft-more : (w : Written) (picks : List ℕ) (from n : ℕ) (sectors : List StoredSector) (cells : List StoredCell) (cell : StoredCell)
    → AreLeft w picks from n sectors cells
    → cell ≡ left_sector (slice_index picks (from + count_below (pending_at sectors) n)) (stored_at sectors n) (w n)
    → AreLeft w picks from (n + 1) sectors (cells ++ cell ∷ [])
AreLeft-more w picks from n sectors cells cell left is = record {
  count = omega (arith, left.count, length-append cells (cell ∷ []));
  each = λ k below. elim (cases_eq k n) [
    | inl same ↦
        let at : k ≡ length cells + 0 = omega (arith, left.count, same) in
        ap (λ m. get_or (cells ++ cell ∷ []) m stored.Damaged) at
        ∙ get_or-append-add cells (cell ∷ []) 0 stored.Damaged
        ∙ is
        ∙ ap (λ m. left_sector (slice_index picks (from + count_below (pending_at sectors) m)) (stored_at sectors m) (w m)) (sym same)
    | inr other ↦
        let before : k < n = omega (arith, below, other) in
        get_or_append_left cells (cell ∷ []) stored.Damaged k (omega (arith, left.count, before)) ∙ left.each k before
  ];
}

-- all of a medium
pub IsMediumLeft-all : (w : Written) (picks : List ℕ) (from : ℕ) (sectors : List StoredSector) (cells : List StoredCell)
    → AreLeft w picks from (length sectors) sectors cells → IsMediumLeft w picks from (Some sectors) (Some cells)
IsMediumLeft-all w picks from sectors cells left = record {
  size_is = ap (λ n. Some n) left.count;
  each = λ k. elim (cases_lt k (length sectors)) [
    | inl within ↦ ap cell_of (left.each k within)
    | inr past ↦
        let none : stored_at sectors k ≡ unwritten = get_or_past sectors k unwritten past in
        ap cell_of (get_or_past cells k stored.Damaged (omega (arith, left.count)))
        ∙ sym (ap (λ x. cell_of (left_sector (slice_index picks (from + count_below (pending_at sectors) k)) x (w k))) none)
  ];
}

pub IsMediumLeft-none : (w : Written) (picks : List ℕ) (from : ℕ) → IsMediumLeft w picks from None None
IsMediumLeft-none w picks from = record { size_is = refl; each = λ k. refl }

-- one slot more
pub SlotsAreLeft-more : (n : ℕ) (w : ℕ → Written) (picks : List ℕ) (places : List PlaceState) (origins : List OriginState) (o : OriginState)
    → SlotsAreLeft n w picks places origins → IsLeft (w n) picks (pending_below places n) (place_at places n) o
    → SlotsAreLeft (n + 1) w picks places (origins ++ o ∷ [])
SlotsAreLeft-more n w picks places origins o left is = record {
  count = omega (arith, left.count, length-append origins (o ∷ []));
  each = λ j below. elim (cases_eq j n) [
    | inl same ↦
        let at : j ≡ length origins + 0 = omega (arith, left.count, same) in
        let here : origin_at (origins ++ o ∷ []) j ≡ o =
        ap (λ m. get_or (origins ++ o ∷ []) m no_origin) at ∙ get_or-append-add origins (o ∷ []) 0 no_origin in
        subst (λ x. IsLeft (w j) picks (pending_below places j) (place_at places j) x) (sym here)
        (subst (λ m. IsLeft (w m) picks (pending_below places m) (place_at places m) o) (sym same) is)
    | inr other ↦
        let before : j < n = omega (arith, below, other) in
        let here : origin_at (origins ++ o ∷ []) j ≡ origin_at origins j =
        get_or_append_left origins (o ∷ []) no_origin j (omega (arith, left.count, before)) in
        subst (λ x. IsLeft (w j) picks (pending_below places j) (place_at places j) x) (sym here) (left.each j before)
  ];
}

pub count_below-next : (f : ℕ → Bool) (n : ℕ) → count_below f (n + 1) ≡ count_below f n + cond (f n) 1 0
count_below-next f n = let next : n + 1 ≡ suc n = omega arith in ap (count_below f) next

pub slots_next : (n : ℕ) (w : ℕ → Written) (picks : List ℕ) (places : List PlaceState) (origins : List OriginState) (o : OriginState) (p : PlaceState)
    (before more : ℕ) → n < length places → p ≡ get_or places n p → before ≡ pending_below places n → SlotsAreLeft n w picks places origins
    → IsLeft (w n) picks before p o → more ≡ before + pending_of p
    → SlotsAreLeft (n + 1) w picks places (origins ++ o ∷ []) × (more ≡ pending_below places (n + 1))
slots_next n w picks places origins o p before more within at is left one next =
    let here : p ≡ place_at places n = get_or_read places n p within at no_place in
    let one' : IsLeft (w n) picks (pending_below places n) (place_at places n) o =
    subst (λ q. IsLeft (w n) picks (pending_below places n) q o) here (subst (λ m. IsLeft (w n) picks m p o) is one) in
    let suc_n : suc n ≡ n + 1 = omega arith in (
      SlotsAreLeft-more n w picks places origins o left one',
      next
          ∙ ap₂ (λ m q. m + pending_of q) is here
          ∙ ap (pending_below places) suc_n,
    )
