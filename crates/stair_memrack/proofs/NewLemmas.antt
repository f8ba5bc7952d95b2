-- A rack as it is made.
use Rattle.std.proofs.Common.{◌≡◌, ℕ, ◌<◌, ◌≤◌, ◌+◌, ◌^◌, zero, suc, lit<, Bool, true, false, List, [], ◌∷◌, length, map, replicate, get_or, reverse, inl, inr, refl, sym, ap, ◌∙◌, subst, arith, Option, None, Some}
use Rattle.std.specs.Prelude.{if◌then◌else◌, nat_lt, nat_le, slice_index, vec_capacity, option_map}
use Rattle.std.proofs.Math.Path.{fun_ext}
use Rattle.std.proofs.lemmas.Bool.{cases_lt, cases_Bool, cond-true, cond-false, le-ltb, ltb-false, false≢true}
use Rattle.std.proofs.lemmas.List.{get_or-replicate, get_or_past, get_or-map, length-replicate, length-map}
use Rattle.std.proofs.lemmas.List.Sums.{count_by-le-length}
use Rattle.stair_rack.specs.Sector.{Damaged, damaged, settled}
use Rattle.stair_rack.specs.Media.{sectors_of}
use Rattle.stair_rack.specs.History.{Made, made, slot_state}
use Rattle.stair_rack.specs.Answers.{IsHistory}
use Rattle.stair_rack.proofs.TidyLemmas.{history_made}
use Rattle.stair_memrack.specs.declared.act.Act.{Act}
use Rattle.stair_memrack.specs.declared.disk.StoredCell.{StoredCell}
use Rattle.stair_memrack.specs.declared.disk.StoredCell.TheVariants as stored
use Rattle.stair_memrack.specs.declared.disk.StoredSector.{StoredSector}
use Rattle.stair_memrack.specs.Disk.{cell_of, stored_at, medium_of}
use Rattle.stair_memrack.specs.Place.{PlaceState, no_place, has_found}
use Rattle.stair_memrack.specs.Origin.{OriginState, no_origin, origin_at, cell_at, cell_in, medium_over, slot_over, image_over, held, place_over, AreBlankOrigins}
use Rattle.stair_memrack.specs.Record.{MemRackState, blank_image, history_of, new_rack}
use Rattle.stair_memrack.specs.Shelf.{Written, IsStored, IsMediumOf, IsPlaceOf, IsShelfOf, place_at, HasRoom, AreBlanks, blank_for, acts_from, writes_in}
use Rattle.stair_memrack.specs.declared.rack.MemRack.TheInside.{Inside}
use Rattle.stair_memrack.specs.Sound.{state_of, IsSoundRecord, IsSound}
use Rattle.stair_memrack.proofs.PlaceLemmas.{IsStored-unwritten}

-- MEDIA

pub stored_at-held : (cells : List StoredCell) (k : ℕ) → stored_at (map held cells) k ≡ held (get_or cells k stored.Damaged)
stored_at-held [] k = refl
stored_at-held (c ∷ cells) zero = refl
stored_at-held (c ∷ cells) (suc k) = stored_at-held cells k

pub IsStored-held : (w : List (List ℕ)) (cell : StoredCell) → IsStored w (held cell) (settled (cell_of cell))
IsStored-held w cell = record { base_is = refl; content_is = refl; since_is = refl; pending_is = refl }

IsMediumOf-over : (w : Written) (medium : Option (List StoredCell))
    → IsMediumOf w (option_map (map held) medium) (option_map length medium) (sectors_of (option_map length medium) (cell_in medium))
IsMediumOf-over w None = record { size_is = refl; each = λ k. IsStored-unwritten (w k) }
IsMediumOf-over w (Some cells) = record {
  size_is = ap (λ n. Some n) (sym (length-map cells held));
  each = λ k. subst (λ x. IsStored (w k) x (sectors_of (Some (length cells)) (cell_at cells) k)) (sym (stored_at-held cells k)) (found k);
}
  where
    found : (k : ℕ) → IsStored (w k) (held (get_or cells k stored.Damaged)) (sectors_of (Some (length cells)) (cell_at cells) k)
    found k =
        elim (cases_Bool (nat_lt k (length cells))) [
          | inl below ↦
              subst (λ s. IsStored (w k) (held (get_or cells k stored.Damaged)) s) (sym (cond-true _ _ _ below))
              (IsStored-held (w k) (get_or cells k stored.Damaged))
          | inr above ↦
              let past : get_or cells k stored.Damaged ≡ stored.Damaged = get_or_past cells k stored.Damaged (ltb-false k (length cells) above) in
              subst (λ s. IsStored (w k) (held (get_or cells k stored.Damaged)) s) (sym (cond-false _ _ _ above))
              (subst (λ c. IsStored (w k) (held c) damaged) (sym past) (IsStored-unwritten (w k)))
        ]

medium_over-is : (cells : List StoredCell) → medium_over cells ≡ medium_of (map held cells)
medium_over-is cells =
    let size : length cells ≡ length (map held cells) = sym (length-map cells held) in
    let cell : cell_at cells ≡ (medium_of (map held cells)).cell = fun_ext (λ k. ap (λ (x : StoredSector). cell_of x.now) (sym (stored_at-held cells k))) in
    λ i. record { size = size i; cell = cell i }

media_over-are : (media : List (List StoredCell)) → map medium_over media ≡ map medium_of (map (map held) media)
media_over-are [] = refl
media_over-are (cells ∷ media) = λ i. medium_over-is cells i ∷ media_over-are media i

-- SLOTS

pub IsPlaceOf-over : (w : Written) (more : ℕ) (o : OriginState) → IsPlaceOf w (place_over more o) (made (slot_over o))
IsPlaceOf-over w more o = record {
  medium = IsMediumOf-over w o.medium;
  removed_is = media_over-are o.removed;
  attached_is = refl;
  found_is = refl;
}

place_at-over : (more : ℕ) (made : List OriginState) (j : ℕ) → j < length made → place_at (map (place_over more) made) j ≡ place_over more (origin_at made j)
place_at-over more made j below = get_or-map (place_over more) made j no_origin no_place below

module _ (origins : List OriginState) (script : List Act) (count : length origins ≡ 32) where
  pub new_shelf : IsShelfOf (map (place_over (length script)) origins) false (Made (image_over origins) ∷ [])
  new_shelf = record {
    count = length-map origins (place_over (length script)) ∙ count;
    stopped_is = refl;
    beyond = λ j past. ap (λ o. made (slot_over o)) (get_or_past origins j no_origin (omega (arith, count)));
    each = λ j below.
        subst (λ p. IsPlaceOf (writes_in (Made (image_over origins) ∷ []) j) p (slot_state (Made (image_over origins) ∷ []) j))
        (sym (place_at-over (length script) origins j (omega (arith, count))))
        (IsPlaceOf-over (writes_in (Made (image_over origins) ∷ []) j) (length script) (origin_at origins j));
  }

  pub new_room : HasRoom (map (place_over (length script)) origins) (acts_from 0 script)
  new_room = record {
    each = λ j below.
        let o : OriginState = origin_at origins j in
        let few : acts_from 0 script ≤ length script = omega (arith, count_by-le-length (λ (act : Act). nat_le 0 act.at) script) in
        let fits : length (map (map held) o.removed) + acts_from 0 script ≤ length o.removed + length script =
        omega (arith, length-map o.removed (map held)) in
        subst (λ (p : PlaceState). length p.removed + acts_from 0 script ≤ p.room) (sym (place_at-over (length script) origins j (omega (arith, count)))) fits;
  }

pub new_blanks : (script : List Act) (blanks : List (Option (List StoredSector))) → blanks ≡ map (λ act. blank_for act.what) script
    → AreBlanks 0 0 script blanks
new_blanks script blanks are = record {
  count = ap length are ∙ length-map script (λ act. blank_for act.what);
  each = λ k act below is may. ap (λ bs. get_or bs k None) are ∙ at script k act below is;
}
  where
    at : (script : List Act) (k : ℕ) (act : Act) → k < length script → get_or script k act ≡ act
        → get_or (map (λ act. blank_for act.what) script) k None ≡ blank_for act.what
    at [] k act below is = absurd (omega arith)
    at (x ∷ xs) zero act below is = ap (λ (a : Act). blank_for a.what) is
    at (x ∷ xs) (suc k) act below is = at xs k act (omega arith) is

pub new_gones : (j : ℕ) → slice_index (replicate 32 0) j < 2 ^ 64
new_gones j =
    elim (cases_lt j 32) [
      | inl within ↦ let it : get_or (replicate 32 0) j 0 ≡ 0 = get_or-replicate 32 j 0 0 within in subst (λ n. n < 2 ^ 64) (sym it) (lit< tt)
      | inr past ↦ let it : get_or (replicate 32 0) j 0 ≡ 0 = get_or_past (replicate 32 0) j 0 past in subst (λ n. n < 2 ^ 64) (sym it) (lit< tt)
    ]

-- IMAGES

slot_over-blank : (here : Bool) (sectors : ℕ)
    → slot_over (record { medium = if here then Some (replicate sectors stored.Damaged) else None; removed = [] })
    ≡ record { size = if here then Some sectors else None; cell = λ k. Damaged; removed = [] }
slot_over-blank true sectors =
    let size : length (replicate sectors stored.Damaged) ≡ sectors = length-replicate sectors stored.Damaged in
    let cell : cell_at (replicate sectors stored.Damaged) ≡ (λ k. Damaged) = fun_ext (λ k. ap cell_of (none k)) in
    λ i. record { size = Some (size i); cell = cell i; removed = [] }
  where
    none : (k : ℕ) → get_or (replicate sectors stored.Damaged) k stored.Damaged ≡ stored.Damaged
    none k =
        elim (cases_lt k sectors) [
          | inl below ↦ get_or-replicate sectors k stored.Damaged stored.Damaged below
          | inr past ↦ get_or_past (replicate sectors stored.Damaged) k stored.Damaged (omega (arith, length-replicate sectors stored.Damaged))
        ]
slot_over-blank false sectors = refl

pub blank_image-over : (media sectors : ℕ) (made : List OriginState) → media ≤ 32 → AreBlankOrigins 32 media sectors made
    → image_over made ≡ blank_image media sectors
blank_image-over media sectors made fits are = fun_ext (λ j. each j)
  where
    each : (j : ℕ) → image_over made j ≡ blank_image media sectors j
    each j =
        elim (cases_lt j 32) [
          | inl within ↦ ap slot_over (are.each j within) ∙ slot_over-blank (nat_lt j media) sectors
          | inr past ↦
              let none : origin_at made j ≡ no_origin = get_or_past made j no_origin (omega (arith, are.count)) in
              ap slot_over none
              ∙ sym (ap (λ (b : Bool). record { size = if b then Some sectors else None; cell = λ (k : ℕ). Damaged; removed = [] }) (le-ltb j media (omega arith)))
        ]

pub IsSound-new : (r : Inside) → r.spent ≡ false → r.bads ≡ 0 → r.reads ≡ 0 → r.log.items ≡ [] → r.late.items ≡ []
    → r.gones.items ≡ replicate 32 0 → r.stopped ≡ false → vec_capacity r.log ≡ r.room
    → r.room < 2 ^ 32 → 32 ≤ vec_capacity r.late → length r.made.items ≡ 32 → r.places.items ≡ map (place_over (length r.script.items)) r.made.items
    → r.blanks.items ≡ map (λ act. blank_for act.what) r.script.items → IsSound r
IsSound-new r spent bads reads log late gones running memory fits many count places blanks = record {
  record_is = subst (λ s. IsSoundRecord s (vec_capacity r.log)) (sym is) (record {
    within = omega arith;
    room_fits = fits;
    memory = omega arith;
    spent_only = λ spent. absurd (false≢true spent);
    late_only = λ unspent. refl;
    reads_within = omega arith;
    counts = length-replicate {A = ℕ} 32 0;
    bads_fit = lit< tt;
    gones_fit = new_gones;
  });
  began = subst (λ s. IsHistory (history_of s)) (sym is) (history_made (image_over r.made.items));
  shelf =
      subst (λ s. IsShelfOf r.places.items r.stopped (history_of s)) (sym is)
      (subst (λ ps. IsShelfOf ps r.stopped (Made (image_over r.made.items) ∷ [])) (sym places)
      (subst (λ stop. IsShelfOf (map (place_over (length r.script.items)) r.made.items) stop (Made (image_over r.made.items) ∷ [])) (sym running)
      (new_shelf r.made.items r.script.items count)));
  late_memory = many;
  late_fits =
      let none : length (state_of r).late ≡ 0 = ap (λ (s : MemRackState). length s.late) is in
      let all : length r.places.items ≡ 32 = ap length places ∙ length-map r.made.items (place_over (length r.script.items)) ∙ count in
      omega (arith, count_by-le-length has_found r.places.items);
  room_left =
      subst (λ (s : MemRackState). HasRoom r.places.items (acts_from (length s.calls) r.script.items)) (sym is)
      (subst (λ ps. HasRoom ps (acts_from 0 r.script.items)) (sym places) (new_room r.made.items r.script.items count));
  blanks_left =
      subst (λ (s : MemRackState). AreBlanks (length s.calls) 0 r.script.items r.blanks.items) (sym is) (new_blanks r.script.items r.blanks.items blanks);
}
  where
    is : state_of r ≡ new_rack r.made.items r.script.items r.room
    is = λ i. record {
      made = r.made.items;
      script = r.script.items;
      room = r.room;
      calls = ap reverse log i;
      spent = spent i;
      late = ap reverse late i;
      bads = bads i;
      gones = gones i;
      reads = reads i;
    }
