-- The acts before a call, one after another: the slots in memory stand as the history tells, and there is memory for the acts that are still to come.
use Rattle.std.proofs.Common.{◌≡◌, ◌≢◌, ℕ, ◌<◌, ◌≤◌, ◌+◌, Bool, true, not, ◌&&◌, ◌||◌, List, [], ◌∷◌, ◌++◌, length, map, take, drop, get_or, ◌⊎◌, inl, inr, refl, sym, ap, ◌∙◌, subst, arith, Option, None, Some}
use Rattle.std.specs.Prelude.{is_some, if◌then◌else◌, cond, ◌==◌, nat_lt, nat_le, slice_set, count_by}
use Rattle.std.proofs.lemmas.Bool.{cond-true, cond-false, cond_both, eq-eqb, ne_eqb, cases_eq, cases_lt, lt-ltb, le-ltb, and_parts, ltb-true}
use Rattle.std.proofs.lemmas.Bool.Decides.{nat_tests}
use Rattle.std.proofs.lemmas.List.{get_or_default, length-set, length-append, take_more, drop_more, take_all}
use Rattle.std.proofs.lemmas.List.Edits.{length-remove}
use Rattle.std.proofs.lemmas.List.Sums.{sum_by-cons}
use Rattle.stair_rack.specs.History.{Happening}
use Rattle.stair_memrack.specs.declared.act.Act.{Act}
use Rattle.stair_memrack.specs.declared.act.What.{What}
use Rattle.stair_memrack.specs.declared.act.What.TheVariants.{Pull, PullLosing, InsertBlank, InsertOld, Damage, Stop}
use Rattle.stair_memrack.specs.declared.disk.Settling.{Settling}
use Rattle.stair_memrack.specs.declared.disk.Settling.TheVariants.{AsRead, AsSynced}
use Rattle.stair_memrack.specs.declared.disk.StoredSector.{StoredSector}
use Rattle.stair_memrack.specs.Disk.{settle}
use Rattle.stair_memrack.specs.Place.{PlaceState, with_pulled, pulled, inserted, inserted_old, damaged_at}
use Rattle.stair_memrack.specs.Script.{after_what, after_acts}
use Rattle.stair_memrack.specs.Shelf.{IsShelfOf, place_at, HasRoom, changed, performed, is_stop, blank_for, AreBlanks, acts_at, acts_from}
use Rattle.stair_memrack.proofs.ShelfLemmas.{place-set_same, place-set_other, IsShelfOf-performed}

-- MEMORY FOR DRAWERS

pub HasRoom-less : (places : List PlaceState) (m n : ℕ) → n ≤ m → HasRoom places m → HasRoom places n
HasRoom-less places m n less has = record { each = λ j below. let it = has.each j below in omega arith }

-- at most one medium goes into the drawer
record TakesOne (change : PlaceState → PlaceState) : Type 0 where
  pub each : (p : PlaceState) → (length (change p).removed ≤ length p.removed + 1) × ((change p).room ≡ p.room)

pulled-one : (how : Settling) → TakesOne (pulled how)
pulled-one how = record { each = λ p. from p p.medium }
  where
    from : (p : PlaceState) (m : Option (List StoredSector))
        → (length (with_pulled how m p).removed ≤ length p.removed + 1) × ((with_pulled how m p).room ≡ p.room)
    from p None = (omega arith, refl)
    from p (Some sectors) = (omega (arith, length-append p.removed (map (settle how) sectors ∷ [])), refl)

inserted-one : (blank : Option (List StoredSector)) → TakesOne (inserted blank)
inserted-one blank = record {
  each = λ p. cond_both (is_some p.medium) p (record p { medium = blank })
      (λ q. (length q.removed ≤ length p.removed + 1) × (q.room ≡ p.room)) (λ e. (omega arith, refl)) (λ e. (omega arith, refl));
}

inserted_old-one : (i : ℕ) → TakesOne (inserted_old i)
inserted_old-one i = record {
  each = λ p. cond_both (not (is_some p.medium) && nat_lt i (length p.removed)) _ p
      (λ q. (length q.removed ≤ length p.removed + 1) × (q.room ≡ p.room))
      (λ e.
      let both : (not (is_some p.medium) ≡ true) × (nat_lt i (length p.removed) ≡ true) = and_parts _ _ e in
      let within : i < length p.removed = ltb-true i (length p.removed) both.1 in
      (omega (arith, length-remove p.removed i within), refl))
      (λ e. (omega arith, refl));
}

damaged_at-one : (k : ℕ) → TakesOne (damaged_at k)
damaged_at-one k = record { each = λ p. (omega arith, refl) }

HasRoom-changed : (places : List PlaceState) (n j : ℕ) (change : PlaceState → PlaceState) → length places ≡ 32 → TakesOne change
    → HasRoom places (n + 1) → HasRoom (changed j change places) n
HasRoom-changed places n j change count one has =
    elim (cases_lt j 32) [
      | inl within ↦
          subst (λ ps. HasRoom ps n) (sym (cond-true _ _ _ (lt-ltb j 32 within))) (record {
            each = λ i below. elim (cases_eq i j) [
              | inl same ↦
                  let it : place_at (slice_set places j (change (place_at places j))) i ≡ change (place_at places j) =
                  ap (λ m. place_at (slice_set places j (change (place_at places j))) m) same
                  ∙ place-set_same places j (change (place_at places j)) (omega (arith, count)) in
                  let was = has.each j within in
                  let takes = one.each (place_at places j) in
                  let fits : length (change (place_at places j)).removed + n ≤ (change (place_at places j)).room = omega arith in
                  subst (λ (q : PlaceState). length q.removed + n ≤ q.room) (sym it) fits
              | inr other ↦
                  let was = has.each i below in
                  let fits : length (place_at places i).removed + n ≤ (place_at places i).room = omega arith in
                  subst (λ (q : PlaceState). length q.removed + n ≤ q.room) (sym (place-set_other places j i (change (place_at places j)) other)) fits
            ];
          })
      | inr past ↦ subst (λ ps. HasRoom ps n) (sym (cond-false _ _ _ (le-ltb j 32 past))) (HasRoom-less places (n + 1) n (omega arith) has)
    ]

pub HasRoom-performed : (what : What) (blank : Option (List StoredSector)) (places : List PlaceState) (n : ℕ) → length places ≡ 32
    → HasRoom places (n + 1) → HasRoom (performed what blank places) n
HasRoom-performed (Pull j) blank places n count has = HasRoom-changed places n j (pulled AsRead) count (pulled-one AsRead) has
HasRoom-performed (PullLosing j) blank places n count has = HasRoom-changed places n j (pulled AsSynced) count (pulled-one AsSynced) has
HasRoom-performed (InsertBlank j size) blank places n count has = HasRoom-changed places n j (inserted blank) count (inserted-one blank) has
HasRoom-performed (InsertOld j i) blank places n count has = HasRoom-changed places n j (inserted_old i) count (inserted_old-one i) has
HasRoom-performed (Damage j k) blank places n count has = HasRoom-changed places n j (damaged_at k) count (damaged_at-one k) has
HasRoom-performed Stop blank places n count has = HasRoom-less places (n + 1) n (omega arith) has

changed-count : (places : List PlaceState) (j : ℕ) (change : PlaceState → PlaceState) → length (changed j change places) ≡ length places
changed-count places j change =
    cond_both (nat_lt j 32) _ places (λ ps. length ps ≡ length places) (λ e. length-set places j (change (place_at places j))) (λ e. refl)

pub performed-count : (what : What) (blank : Option (List StoredSector)) (places : List PlaceState) → length (performed what blank places) ≡ length places
performed-count (Pull j) blank places = changed-count places j (pulled AsRead)
performed-count (PullLosing j) blank places = changed-count places j (pulled AsSynced)
performed-count (InsertBlank j size) blank places = changed-count places j (inserted blank)
performed-count (InsertOld j i) blank places = changed-count places j (inserted_old i)
performed-count (Damage j k) blank places = changed-count places j (damaged_at k)
performed-count Stop blank places = refl

-- ONE ACT AFTER ANOTHER

after_acts-more : (n : ℕ) (acts : List Act) (act : Act) (h : List Happening)
    → after_acts n (acts ++ act ∷ []) h ≡ (if act.at == n then after_what act.what (after_acts n acts h) else after_acts n acts h)
after_acts-more n [] act h = refl
after_acts-more n (a ∷ acts) act h = after_acts-more n acts act (if a.at == n then after_what a.what h else h)

one_act : (n at : ℕ) → cond (nat_le n at) 1 0 ≡ cond (at == n) 1 0 + cond (nat_le (n + 1) at) 1 0
one_act n at = grind (arith, nat_tests)

count_by-cons : (p : Act → Bool) (act : Act) (acts : List Act) → count_by p (act ∷ acts) ≡ cond (p act) 1 0 + count_by p acts
count_by-cons p act acts = sum_by-cons (λ x. cond (p x) 1 0) act acts

-- the acts from call n on are those before call n and those from the next call on
acts_from-split : (n : ℕ) (acts : List Act) → acts_from n acts ≡ acts_at n acts + acts_from (n + 1) acts
acts_from-split n [] = refl
acts_from-split n (act ∷ acts) =
    let rest : acts_from n acts ≡ acts_at n acts + acts_from (n + 1) acts = acts_from-split n acts in
    let one : cond (nat_le n act.at) 1 0 ≡ cond (act.at == n) 1 0 + cond (nat_le (n + 1) act.at) 1 0 = one_act n act.at in
    omega (
      arith,
      count_by-cons (λ a. nat_le n a.at) act acts,
      count_by-cons (λ a. a.at == n) act acts,
      count_by-cons (λ a. nat_le (n + 1) a.at) act acts,
    )

-- Of the acts before call n those below i were done, which began with these places.
pub record ActsDone (n i : ℕ) (acts : List Act) (from : List PlaceState) (from_stop : Bool) (places : List PlaceState) (stop : Bool)
    (blanks : List (Option (List StoredSector))) : Type 0 where
  pub shelf : (h : List Happening) → IsShelfOf from from_stop h → IsShelfOf places stop (after_acts n (take i acts) h)
  pub count : length places ≡ 32
  pub room : HasRoom places (acts_at n (drop i acts) + acts_from (n + 1) acts)
  pub blanks_left : AreBlanks n i acts blanks

pub ActsDone-none : (n : ℕ) (acts : List Act) (places : List PlaceState) (stop : Bool) (blanks : List (Option (List StoredSector)))
    → length places ≡ 32 → HasRoom places (acts_from n acts) → AreBlanks n 0 acts blanks
    → ActsDone n 0 acts places stop places stop blanks
ActsDone-none n acts places stop blanks count room given = record {
  shelf = λ h is. is;
  count = count;
  room = subst (λ m. HasRoom places m) (acts_from-split n acts) room;
  blanks_left = given;
}

-- what the history is after one act more
acts_next : (n i : ℕ) (acts : List Act) (act : Act) (h : List Happening) → i < length acts → get_or acts i act ≡ act
    → after_acts n (take (i + 1) acts) h ≡ (if act.at == n then after_what act.what (after_acts n (take i acts) h) else after_acts n (take i acts) h)
acts_next n i acts act h within at =
    ap (λ xs. after_acts n xs h) (take_more acts i act within ∙ ap (λ a. take i acts ++ a ∷ []) at) ∙ after_acts-more n (take i acts) act h

-- how many acts before call n are left
left_next : (n i : ℕ) (acts : List Act) (act : Act) → i < length acts → get_or acts i act ≡ act
    → acts_at n (drop i acts) ≡ cond (act.at == n) 1 0 + acts_at n (drop (i + 1) acts)
left_next n i acts act within at =
    ap (acts_at n) (drop_more acts i act within ∙ ap (λ a. a ∷ drop (i + 1) acts) at)
    ∙ count_by-cons (λ a. a.at == n) act (drop (i + 1) acts)

module _ (n i : ℕ) (acts : List Act) (act : Act) (from : List PlaceState) (from_stop : Bool) (places : List PlaceState) (stop : Bool)
    (blanks : List (Option (List StoredSector))) where
  sooner : (k : ℕ) (a : Act) → (n < a.at) ⊎ ((a.at ≡ n) × (i + 1 ≤ k)) → (n < a.at) ⊎ ((a.at ≡ n) × (i ≤ k))
  sooner k a (inl later) = inl later
  sooner k a (inr both) = inr (both.0, omega (arith, both.1))

  -- the act stands before another call
  pub ActsDone-skip : i < length acts → get_or acts i act ≡ act → act.at ≢ n → ActsDone n i acts from from_stop places stop blanks
      → ActsDone n (i + 1) acts from from_stop places stop blanks
  ActsDone-skip within at other done = record {
    shelf = λ h is.
        subst (λ x. IsShelfOf places stop x) (sym (acts_next n i acts act h within at ∙ cond-false _ _ _ (ne_eqb act.at n other))) (done.shelf h is);
    count = done.count;
    room =
        let same : acts_at n (drop i acts) ≡ acts_at n (drop (i + 1) acts) =
        left_next n i acts act within at
        ∙ ap (λ (m : ℕ). m + acts_at n (drop (i + 1) acts)) (cond-false (act.at == n) 1 0 (ne_eqb act.at n other))
        ∙ omega arith in
        subst (λ m. HasRoom places (m + acts_from (n + 1) acts)) same done.room;
    blanks_left = record { count = done.blanks_left.count; each = λ k a below is may. done.blanks_left.each k a below is (sooner k a may) };
  }

  -- the act is done
  pub ActsDone-act : (blank : Option (List StoredSector)) (places' : List PlaceState) (stop' : Bool) (blanks' : List (Option (List StoredSector)))
      → i < length acts → get_or acts i act ≡ act → act.at ≡ n → ActsDone n i acts from from_stop places stop blanks
      → get_or blanks i None ≡ blank → places' ≡ performed act.what blank places → stop' ≡ (stop || is_stop act.what)
      → length blanks' ≡ length blanks → ((k : ℕ) → k ≢ i → get_or blanks' k None ≡ get_or blanks k None)
      → ActsDone n (i + 1) acts from from_stop places' stop' blanks'
  ActsDone-act blank places' stop' blanks' within at here done given after stopped size others = record {
    shelf = λ h is.
        let it : blank ≡ blank_for act.what = sym given ∙ done.blanks_left.each i act within at (inr (here, omega arith)) in
        let now : IsShelfOf (performed act.what blank places) (stop || is_stop act.what) (after_what act.what (after_acts n (take i acts) h)) =
        IsShelfOf-performed act.what blank places stop (after_acts n (take i acts) h) it (done.shelf h is) in
        subst (λ x. IsShelfOf places' stop' x) (sym (acts_next n i acts act h within at ∙ cond-true _ _ _ (eq-eqb act.at n here)))
        (subst (λ ps. IsShelfOf ps stop' (after_what act.what (after_acts n (take i acts) h))) (sym after)
        (subst (λ s. IsShelfOf (performed act.what blank places) s (after_what act.what (after_acts n (take i acts) h))) (sym stopped) now));
    count = ap length after ∙ performed-count act.what blank places ∙ done.count;
    room =
        let less : acts_at n (drop i acts) + acts_from (n + 1) acts ≡ (acts_at n (drop (i + 1) acts) + acts_from (n + 1) acts) + 1 =
        let one : cond (act.at == n) 1 0 ≡ 1 = cond-true {A = ℕ} (act.at == n) 1 0 (eq-eqb act.at n here) in
        omega (arith, left_next n i acts act within at, one) in
        subst (λ ps. HasRoom ps (acts_at n (drop (i + 1) acts) + acts_from (n + 1) acts)) (sym after)
        (HasRoom-performed act.what blank places (acts_at n (drop (i + 1) acts) + acts_from (n + 1) acts) done.count
        (subst (λ m. HasRoom places m) less done.room));
    blanks_left = record {
      count = size ∙ done.blanks_left.count;
      each = λ k a below is may. elim (cases_eq k i) [
        | inl same ↦ absurd (gone k a same is may)
        | inr other ↦ others k other ∙ done.blanks_left.each k a below is (sooner k a may)
      ];
    };
  }
    where
      gone : (k : ℕ) (a : Act) → k ≡ i → get_or acts k a ≡ a → (n < a.at) ⊎ ((a.at ≡ n) × (i + 1 ≤ k)) → ⊥
      gone k a same is (inl later) =
          let e : a ≡ act = sym is ∙ ap (λ m. get_or acts m a) same ∙ get_or_default acts i a act within ∙ at in
          let f : a.at ≡ act.at = ap (λ (x : Act). x.at) e in
          omega (arith, here, f, later)
      gone k a same is (inr both) = omega (arith, same, both.1)

pub ActsDone-all : (n i : ℕ) (acts : List Act) (from : List PlaceState) (from_stop : Bool) (places : List PlaceState) (stop : Bool)
    (blanks : List (Option (List StoredSector))) → length acts ≤ i → ActsDone n i acts from from_stop places stop blanks
    → ((h : List Happening) → IsShelfOf from from_stop h → IsShelfOf places stop (after_acts n acts h))
    × HasRoom places (acts_from (n + 1) acts) × AreBlanks (n + 1) 0 acts blanks
ActsDone-all n i acts from from_stop places stop blanks end done = (
  (λ h is. subst (λ xs. IsShelfOf places stop (after_acts n xs h)) (take_all i acts end) (done.shelf h is)),
  HasRoom-less places (acts_at n (drop i acts) + acts_from (n + 1) acts) (acts_from (n + 1) acts) (omega arith) done.room,
  record { count = done.blanks_left.count; each = λ k a below is may. done.blanks_left.each k a below is (inl (later a may)) },
)
  where
    later : {k : ℕ} (a : Act) → (n + 1 < a.at) ⊎ ((a.at ≡ n + 1) × (0 ≤ k)) → n < a.at
    later a (inl after) = omega (arith, after)
    later a (inr both) = omega (arith, both.0)
