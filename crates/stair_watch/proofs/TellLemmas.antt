-- The watchers of a list, told one after the other.
use Rattle.std.proofs.Common.{◌≡◌, ℕ, ◌+◌, ◌<◌, ◌≤◌, List, [], ◌∷◌, ◌++◌, length, length-append, refl, sym, ap, subst, ◌∙◌, arith, append_assoc, append-nil, slice_index_or, slice_set}
use Rattle.std.specs.Prelude.{true, false}
use Rattle.std.specs.List.{remove}
use Rattle.std.proofs.Math.Seq.{set-append_seam}
use Rattle.std.proofs.lemmas.Bool.{cond-true, cond-false}
use Rattle.stair_rack.specs.Watching.{WatcherView, HearsOne}
use Rattle.stair_rack.specs.declared.watcher.Event.{Event}
use Rattle.stair_watch.specs.WatcherList.{AllStay, EachHears, Tells, stayed}

-- Those before this place were told the event, and those that left are out; the others weren't told yet.
pub record InTurn {W : Type 0} (view : WatcherView W) (event : Event) (old now : List W) (at : ℕ) : Type 0 where
  pub done : List W
  pub heard : List W
  pub rest : List W
  pub whole : old ≡ done ++ rest
  pub each : EachHears view event done heard
  pub list : now ≡ stayed view heard ++ rest
  pub place : length (stayed view heard) ≡ at
  pub still : AllStay view rest

-- what stands at the seam of two lists
at_seam : {W : Type 0} (front rest : List W) (w d : W) (at : ℕ) → length front ≡ at → slice_index_or (front ++ w ∷ rest) at d ≡ w
at_seam [] rest w d at place = subst (λ (k : ℕ). slice_index_or (w ∷ rest) k d ≡ w) place refl
at_seam (x ∷ front) rest w d at place =
    subst (λ (k : ℕ). slice_index_or ((x ∷ front) ++ w ∷ rest) k d ≡ w) place (at_seam front rest w d (length front) refl)

set_seam : {W : Type 0} (front rest : List W) (w v : W) (at : ℕ) → length front ≡ at → slice_set (front ++ w ∷ rest) at v ≡ front ++ v ∷ rest
set_seam front rest w v at place =
    subst (λ (k : ℕ). slice_set (front ++ w ∷ rest) k v ≡ front ++ v ∷ rest) place (set-append_seam front w rest v)

cut_seam : {W : Type 0} (front rest : List W) (w : W) (at : ℕ) → length front ≡ at → remove (front ++ w ∷ rest) at ≡ front ++ rest
cut_seam {W} front rest w at place = subst (λ (k : ℕ). remove (front ++ w ∷ rest) k ≡ front ++ rest) place (cut front)
  where
    cut : (front : List W) → remove (front ++ w ∷ rest) (length front) ≡ front ++ rest
    cut [] = refl
    cut (x ∷ front) = ap (λ (l : List W). x ∷ l) (cut front)

module _ {W : Type 0} (view : WatcherView W) (event : Event) where
  each_more : (w later : W) (done heard : List W) → EachHears view event done heard → HearsOne view event w later
      → EachHears view event (done ++ w ∷ []) (heard ++ later ∷ [])
  each_more w later [] heard each one =
      subst (λ (l : List W). EachHears view event (w ∷ []) (l ++ later ∷ [])) (sym each) (later, [], one, refl, refl)
  each_more w later (x ∷ done) heard each one =
      (each.0, each.1 ++ later ∷ [], each.2, each_more w later done each.1 each.3 one, ap (λ (l : List W). l ++ later ∷ []) each.4)

  stayed-stays : (later : W) (heard : List W) → (view later).left ≡ false → stayed view (heard ++ later ∷ []) ≡ stayed view heard ++ later ∷ []
  stayed-stays later [] stays = cond-false (view later).left [] (later ∷ []) stays
  stayed-stays later (x ∷ heard) stays = grind (arith, stayed-stays later heard stays)

  stayed-leaves : (later : W) (heard : List W) → (view later).left ≡ true → stayed view (heard ++ later ∷ []) ≡ stayed view heard
  stayed-leaves later [] leaves = cond-true (view later).left [] (later ∷ []) leaves
  stayed-leaves later (x ∷ heard) leaves = grind (arith, stayed-leaves later heard leaves)

  pub at_first : (old : List W) → AllStay view old → InTurn view event old old 0
  at_first old still = record {
    done = [];
    heard = [];
    rest = old;
    whole = refl;
    each = refl;
    list = refl;
    place = refl;
    still = still;
  }

  -- the next one, which was told nothing yet
  record Next (old now : List W) (at : ℕ) (w : W) : Type 0 where
    done : List W
    heard : List W
    rest : List W
    whole : old ≡ done ++ (w ∷ rest)
    each : EachHears view event done heard
    list : now ≡ stayed view heard ++ (w ∷ rest)
    place : length (stayed view heard) ≡ at
    stays : (view w).left ≡ false
    still : AllStay view rest

  next : (old now : List W) (at : ℕ) (w : W) → InTurn view event old now at → at < length now → w ≡ slice_index_or now at w
      → Next old now at w
  next old now at w turn below is = pick turn.rest turn.whole turn.list turn.still
    where
      pick : (rest : List W) → old ≡ turn.done ++ rest → now ≡ stayed view turn.heard ++ rest → AllStay view rest → Next old now at w
      pick [] whole list still =
          let none : ⊥ = omega (arith, below, turn.place, ap length list, length-append (stayed view turn.heard) []) in
          absurd none
      pick (x ∷ rest) whole list still =
          let same : x ≡ w = sym (is ∙ ap (λ (l : List W). slice_index_or l at w) list
          ∙ at_seam (stayed view turn.heard) rest x w at turn.place) in
          record {
            done = turn.done;
            heard = turn.heard;
            rest = rest;
            whole = whole ∙ ap (λ (y : W). turn.done ++ (y ∷ rest)) same;
            each = turn.each;
            list = list ∙ ap (λ (y : W). stayed view turn.heard ++ (y ∷ rest)) same;
            place = turn.place;
            stays = subst (λ (y : W). (view y).left ≡ false) same still.0;
            still = still.1;
          }

  pub next_stays : (old now : List W) (at : ℕ) (w : W) → InTurn view event old now at → at < length now → w ≡ slice_index_or now at w
      → (view w).left ≡ false
  next_stays old now at w turn below is = (next old now at w turn below is).stays

  -- the next one heard the event and stays
  pub turn_stays : (old now : List W) (at : ℕ) (w later : W) → InTurn view event old now at → at < length now
      → w ≡ slice_index_or now at w → HearsOne view event w later → (view later).left ≡ false
      → InTurn view event old (slice_set now at later) (at + 1)
  turn_stays old now at w later turn below is one stays =
      let n = next old now at w turn below is in
      let front = stayed-stays later n.heard stays in
      record {
        done = n.done ++ w ∷ [];
        heard = n.heard ++ later ∷ [];
        rest = n.rest;
        whole = n.whole ∙ sym (append_assoc n.done (w ∷ []) n.rest);
        each = each_more w later n.done n.heard n.each one;
        list = ap (λ (l : List W). slice_set l at later) n.list ∙ set_seam (stayed view n.heard) n.rest w later at n.place
            ∙ sym (append_assoc (stayed view n.heard) (later ∷ []) n.rest) ∙ ap (λ (l : List W). l ++ n.rest) (sym front);
        place = omega (arith, n.place, ap length front, length-append (stayed view n.heard) (later ∷ []));
        still = n.still;
      }

  -- the next one heard the event and left
  pub turn_leaves : (old now : List W) (at : ℕ) (w later : W) → InTurn view event old now at → at < length now
      → w ≡ slice_index_or now at w → HearsOne view event w later → (view later).left ≡ true
      → InTurn view event old (remove (slice_set now at later) at) at
  turn_leaves old now at w later turn below is one leaves =
      let n = next old now at w turn below is in
      let front = stayed-leaves later n.heard leaves in
      record {
        done = n.done ++ w ∷ [];
        heard = n.heard ++ later ∷ [];
        rest = n.rest;
        whole = n.whole ∙ sym (append_assoc n.done (w ∷ []) n.rest);
        each = each_more w later n.done n.heard n.each one;
        list = ap (λ (l : List W). remove (slice_set l at later) at) n.list
            ∙ ap (λ (l : List W). remove l at) (set_seam (stayed view n.heard) n.rest w later at n.place)
            ∙ cut_seam (stayed view n.heard) n.rest later at n.place ∙ ap (λ (l : List W). l ++ n.rest) (sym front);
        place = ap length front ∙ n.place;
        still = n.still;
      }

  -- all of them were told
  pub at_last : (old now : List W) (at : ℕ) → InTurn view event old now at → length now ≤ at → Tells view event old now
  at_last old now at turn over = last turn.rest turn.whole turn.list
    where
      last : (rest : List W) → old ≡ turn.done ++ rest → now ≡ stayed view turn.heard ++ rest → Tells view event old now
      last [] whole list = record {
        heard = turn.heard;
        each = subst (λ (l : List W). EachHears view event l turn.heard) (sym (whole ∙ append-nil turn.done)) turn.each;
        left = list ∙ append-nil (stayed view turn.heard);
      }
      last (x ∷ rest) whole list =
          let none : ⊥ = omega (arith, over, turn.place, ap length list, length-append (stayed view turn.heard) (x ∷ rest)) in
          absurd none
