-- The slots in memory, after a call, and what they answer.
use Rattle.std.proofs.Common.{◌≡◌, ℕ, ◌<◌, ◌≤◌, ◌+◌, Bool, true, false, not, ◌&&◌, List, ◌∷◌, length, inl, inr, refl, sym, ap, ap₂, ◌∙◌, subst, arith}
use Rattle.std.specs.Prelude.{if◌then◌else◌, nat_lt, slice_set}
use Rattle.std.proofs.lemmas.Bool.{cond-true, cond-false, eq-eqb, ne_eqb, cases_eq, cases_Bool, ltb-false, ltb-true, and_parts}
use Rattle.stair_rack.specs.Sector.{content}
use Rattle.stair_rack.specs.Media.{has_sector}
use Rattle.stair_rack.specs.History.{SlotCall, SlotState, Happening, Called, after_call, slot_state}
use Rattle.stair_rack.specs.Answers.{IsAnswered, is_ready, is_good, is_readable, reply_if, attach_answer, read_answer, write_answer, sync_answer}
use Rattle.stair_rack.specs.declared.rack.Reply.TheVariants as reply
use Rattle.stair_rack.specs.declared.rack.Got.TheVariants as got
use Rattle.stair_rack.proofs.StepLemmas.{slot_after_call, slot_after_call_elsewhere}
use Rattle.stair_memrack.specs.declared.disk.StoredSector.{StoredSector}
use Rattle.stair_memrack.specs.Disk.{cell_of, stored_in}
use Rattle.stair_memrack.specs.Place.{PlaceState, size_of, is_open, attach_reply, read_got, write_reply, sync_reply, answer_of, answered_as}
use Rattle.stair_memrack.specs.declared.record.Ask.{Ask}
use Rattle.stair_memrack.specs.declared.record.Ask.TheVariants as ask
use Rattle.stair_memrack.specs.declared.record.Call.{Call}
use Rattle.stair_memrack.specs.declared.record.Call.TheVariants as call
use Rattle.stair_memrack.specs.Record.{slot_call}
use Rattle.stair_memrack.specs.Shelf.{Written, with_write, writes_in, IsPlaceOf, IsShelfOf, place_at, HasRoom}
use Rattle.stair_memrack.proofs.PlaceLemmas.{is_full, has_sector-stored, stored_past, IsPlaceOf-attached, IsPlaceOf-written, IsPlaceOf-synced}
use Rattle.stair_memrack.proofs.ShelfLemmas.{place-set_same, place-set_other, IsShelfOf-set}

-- a call that changes one slot
IsShelfOf-called : (places : List PlaceState) (stop : Bool) (h : List Happening) (j : ℕ) (p : PlaceState) (c : SlotCall) → j < 32 → IsShelfOf places stop h
    → IsPlaceOf (with_write c (writes_in h j)) p (after_call c (slot_state h j)) → IsShelfOf (slice_set places j p) stop (Called j c ∷ h)
IsShelfOf-called places stop h j p c within is here =
    IsShelfOf-set places stop h (Called j c ∷ h) j p within is refl
    (subst (λ w. IsPlaceOf w p (slot_state (Called j c ∷ h) j)) (sym (cond-true _ _ _ (eq-eqb j j refl)))
    (subst (IsPlaceOf (with_write c (writes_in h j)) p) (sym (slot_after_call h j c)) here))
    (λ i other.
    (slot_after_call_elsewhere h j i c (λ same. other (sym same)), cond-false _ _ _ (ne_eqb j i (λ same. other (sym same)))))

HasRoom-kept : (places : List PlaceState) (n j : ℕ) (p : PlaceState) → j < 32 → length places ≡ 32 → p.removed ≡ (place_at places j).removed
    → p.room ≡ (place_at places j).room → HasRoom places n → HasRoom (slice_set places j p) n
HasRoom-kept places n j p within count removed room has = record {
  each = λ i below. elim (cases_eq i j) [
    | inl same ↦
        let it : place_at (slice_set places j p) i ≡ p = ap (λ m. place_at (slice_set places j p) m) same ∙ place-set_same places j p (omega (arith, count)) in
        let fits : length p.removed + n ≤ p.room = omega (arith, has.each j within, ap length removed, room) in
        subst (λ (q : PlaceState). length q.removed + n ≤ q.room) (sym it) fits
    | inr other ↦
        subst (λ (q : PlaceState). length q.removed + n ≤ q.room) (sym (place-set_other places j i p other)) (has.each i below)
  ];
}

-- what a place answers is what the history says
ready_is : (places : List PlaceState) (stop : Bool) (h : List Happening) (j : ℕ) → j < 32 → IsShelfOf places stop h
    → is_open stop (place_at places j) ≡ is_ready h j
ready_is places stop h j within is =
    ap₂ (λ (a s : Bool). a && not s) (sym (is.each j within).attached_is) (sym is.stopped_is)

attach_is : (places : List PlaceState) (stop : Bool) (h : List Happening) (j : ℕ) → j < 32 → IsShelfOf places stop h
    → attach_reply stop (place_at places j) ≡ attach_answer h j
attach_is places stop h j within is =
    ap₂ (λ (a s : Bool). reply_if (a && not s)) (sym (is_full (place_at places j) (slot_state h j) (is.each j within))) (sym is.stopped_is)

readable_is : {w : Written} (p : PlaceState) (b : SlotState) (k : ℕ) → IsPlaceOf w p b → is_good (cell_of (stored_in p.medium k).now) ≡ is_readable b k
readable_is p b k is =
    let same : is_good (cell_of (stored_in p.medium k).now) ≡ is_good (content (b.sector k)) = ap is_good (is.medium.each k).content_is in
    elim (cases_Bool (has_sector b.size k)) [
      | inl has ↦ same ∙ sym (ap (λ (x : Bool). x && is_good (content (b.sector k))) has)
      | inr past ↦
          let above : size_of p.medium ≤ k = ltb-false k (size_of p.medium) (sym (has_sector-stored p.medium b.size k is.medium.size_is) ∙ past) in
          let none : is_good (cell_of (stored_in p.medium k).now) ≡ false = ap (λ (x : StoredSector). is_good (cell_of x.now)) (stored_past p.medium k above) in
          none ∙ sym (ap (λ (x : Bool). x && is_good (content (b.sector k))) past)
    ]

read_is : (places : List PlaceState) (stop : Bool) (h : List Happening) (j k : ℕ) → j < 32 → IsShelfOf places stop h
    → read_got stop k (place_at places j) ≡ read_answer h j k
read_is places stop h j k within is =
    ap₂ (λ (r g : Bool). if r then (if g then got.Good else got.Bad) else got.Gone) (ready_is places stop h j within is)
    (readable_is (place_at places j) (slot_state h j) k (is.each j within))

write_is : (places : List PlaceState) (stop : Bool) (h : List Happening) (j k : ℕ) → j < 32 → IsShelfOf places stop h
    → write_reply stop k (place_at places j) ≡ write_answer h j k
write_is places stop h j k within is =
    ap₂ (λ (r g : Bool). reply_if (r && g)) (ready_is places stop h j within is)
    (sym (has_sector-stored (place_at places j).medium (slot_state h j).size k (is.each j within).medium.size_is))

sync_is : (places : List PlaceState) (stop : Bool) (h : List Happening) (j : ℕ) → j < 32 → IsShelfOf places stop h
    → sync_reply stop (place_at places j) ≡ sync_answer h j
sync_is places stop h j within is = ap reply_if (ready_is places stop h j within is)

done_within : (b : Bool) (k n : ℕ) → reply_if (b && nat_lt k n) ≡ reply.Done → k < n
done_within b k n done = ltb-true k n ((and_parts b (nat_lt k n) (done_true (b && nat_lt k n) done)).1)
  where
    done_true : (t : Bool) → reply_if t ≡ reply.Done → t ≡ true
    done_true true is = refl
    done_true false is = absurd (cc)

-- THE FIVE CALLS

-- what an answer does to a slot in memory is what the call does to the slot
IsPlaceOf-answered : {w : Written} (stop : Bool) (a : Ask) (p : PlaceState) (b : SlotState) → IsPlaceOf w p b
    → IsPlaceOf (with_write (slot_call (answer_of stop a p)) w) (answered_as (answer_of stop a p) p) (after_call (slot_call (answer_of stop a p)) b)
IsPlaceOf-answered stop ask.Attach p b is = IsPlaceOf-attached p b (attach_reply stop p) is
IsPlaceOf-answered stop ask.Sectors p b is = is
IsPlaceOf-answered stop (ask.Read k) p b is = is
IsPlaceOf-answered stop (ask.Write k bytes) p b is =
    IsPlaceOf-written p b k bytes (write_reply stop k p) is (done_within (is_open stop p) k (size_of p.medium))
IsPlaceOf-answered stop ask.Sync p b is = IsPlaceOf-synced p b (sync_reply stop p) is

answer_is : (places : List PlaceState) (stop : Bool) (h : List Happening) (j : ℕ) (a : Ask) → j < 32 → IsShelfOf places stop h
    → IsAnswered h j (slot_call (answer_of stop a (place_at places j)))
answer_is places stop h j ask.Attach within is = attach_is places stop h j within is
answer_is places stop h j ask.Sectors within is = sym (is.each j within).found_is
answer_is places stop h j (ask.Read k) within is = read_is places stop h j k within is
answer_is places stop h j (ask.Write k bytes) within is = write_is places stop h j k within is
answer_is places stop h j ask.Sync within is = sync_is places stop h j within is

-- no call changes the drawer
drawer_kept : (c : Call) (p : PlaceState) → ((answered_as c p).removed ≡ p.removed) × ((answered_as c p).room ≡ p.room)
drawer_kept (call.Attach reply.Done) p = (refl, refl)
drawer_kept (call.Attach reply.Gone) p = (refl, refl)
drawer_kept (call.Sectors size) p = (refl, refl)
drawer_kept (call.Read k answer) p = (refl, refl)
drawer_kept (call.Write k bytes reply.Done) p = (refl, refl)
drawer_kept (call.Write k bytes reply.Gone) p = (refl, refl)
drawer_kept (call.Sync reply.Done) p = (refl, refl)
drawer_kept (call.Sync reply.Gone) p = (refl, refl)

-- After the call the slots stand as the history tells, the drawers have their memory, and the answer is the history's.
pub record IsCalled (places : List PlaceState) (stop : Bool) (n j : ℕ) (c : Call) (h : List Happening) : Type 0 where
  pub shelf : IsShelfOf places stop (Called j (slot_call c) ∷ h)
  pub room_left : HasRoom places n
  pub answered : IsAnswered h j (slot_call c)

pub called : (places : List PlaceState) (stop : Bool) (n j : ℕ) (h : List Happening) (a : Ask) (p : PlaceState) (c : Call) → j < 32
    → IsShelfOf places stop h → HasRoom places n → c ≡ answer_of stop a (place_at places j) → p ≡ answered_as c (place_at places j)
    → IsCalled (slice_set places j p) stop n j c h
called places stop n j h a p c within is has answered after =
    let q : PlaceState = place_at places j in
    let kept = drawer_kept c q in
    record {
      shelf =
          IsShelfOf-called places stop h j p (slot_call c) within is
          (subst (λ o. IsPlaceOf (with_write (slot_call c) (writes_in h j)) o (after_call (slot_call c) (slot_state h j))) (sym after)
          (subst (λ d. IsPlaceOf (with_write (slot_call d) (writes_in h j)) (answered_as d q) (after_call (slot_call d) (slot_state h j))) (sym answered)
          (IsPlaceOf-answered stop a q (slot_state h j) (is.each j within))));
      room_left =
          HasRoom-kept places n j p within is.count (ap (λ (o : PlaceState). o.removed) after ∙ kept.0) (ap (λ (o : PlaceState). o.room) after ∙ kept.1) has;
      answered = subst (λ d. IsAnswered h j (slot_call d)) (sym answered) (answer_is places stop h j a within is);
    }
