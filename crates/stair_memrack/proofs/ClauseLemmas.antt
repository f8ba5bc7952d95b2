-- The clauses of a call, from its answer and from what the rack is afterwards.
use Rattle.std.proofs.Common.{◌≡◌, ℕ, ◌<◌, ◌≤◌, ◌+◌, ◌-◌, ◌^◌, Bool, true, false, not, ◌&&◌, ◌||◌, List, [], ◌∷◌, ◌++◌, length, reverse, get_or, inl, inr, refl, sym, ap, ap₂, ◌∙◌, subst, arith, Option}
use Rattle.std.specs.Prelude.{if◌then◌else◌, cond, ◌==◌, nat_lt, is_some, count_by, slice_set, vec_len, vec_capacity}
use Rattle.std.proofs.lemmas.Bool.{cond-true, cond-false, cond_both, and_right, eqb-true, cases_Bool, ltb-true, lt-ltb, le-ltb}
use Rattle.std.proofs.lemmas.List.{get_or_read, length-reverse, reverse-append}
use Rattle.std.proofs.lemmas.List.Sums.{sum_by-set, count_by-le-length}
use Rattle.stair_rack.specs.Count.{one_more}
use Rattle.stair_rack.specs.Sector.{Good, content}
use Rattle.stair_rack.specs.History.{SlotCall, SlotState, Happening, Stopped, Called, slot_state}
use Rattle.stair_rack.specs.History as slot
use Rattle.stair_rack.specs.Answers.{IsAnswered, ChangesNothing, Calls, IsHistory, reply_if}
use Rattle.stair_rack.proofs.OfflineLemmas.{IsRefused, refused}
use Rattle.stair_rack.proofs.TidyLemmas.{history_called}
use Rattle.stair_rack.specs.declared.rack.Reply.TheVariants as reply
use Rattle.stair_rack.specs.declared.rack.Got.TheVariants as got
use Rattle.stair_memrack.specs.declared.record.Ask.{Ask}
use Rattle.stair_memrack.specs.declared.record.Ask.TheVariants as ask
use Rattle.stair_memrack.specs.declared.record.Call.{Call}
use Rattle.stair_memrack.specs.declared.record.Call.TheVariants.{Read}
use Rattle.stair_memrack.specs.declared.record.Recorded.{Recorded}
use Rattle.stair_memrack.specs.declared.rack.MemRack.TheInside.{Inside}
use Rattle.stair_memrack.specs.declared.disk.StoredSector.{StoredSector}
use Rattle.stair_memrack.specs.declared.disk.StoredCell.TheVariants as stored
use Rattle.stair_memrack.specs.Disk.{cell_of, stored_in}
use Rattle.stair_memrack.specs.Place.{PlaceState, no_place, size_of, is_open, attach_reply, attached_as, read_got, write_reply, written_as, sync_reply, synced_as, has_found, asks_to_let_go, answer_of, answered_as}
use Rattle.stair_memrack.specs.Script.{after_acts}
use Rattle.stair_memrack.specs.Shelf.{Written, with_write, writes_in, IsPlaceOf, IsShelfOf, HasRoom, AreBlanks, acts_from, place_at}
use Rattle.stair_memrack.specs.Record.{MemRackState, slot_call, recorded, after_late, stopped_by_record, history_of, has_room, moment, got_of, call_is_gone, call_is_bad, call_is_read, IsAnswerTo, counted, with_call, lets_go, without_room, after_call}
use Rattle.stair_memrack.specs.Sound.{state_of, IsSoundRecord, IsSound}
use Rattle.stair_memrack.specs.RackSteps.{IsOneCall}
use Rattle.stair_memrack.proofs.RunLemmas.{left_out, told_attach, record_stops, moment-spent, history-told, history-untold, history-with_room, calls_of}
use Rattle.stair_memrack.proofs.WriteLemmas.{pending-within, moment-writes}
use Rattle.stair_memrack.proofs.CallLemmas.{IsCalled, called}
use Rattle.stair_memrack.proofs.RecordLemmas.{gones_after, state-recorded, state-spent, reverse-push, record_sound, none_falls, gone_rose, bad_rose, counts_reads}

one_call_at : (s : MemRackState) (capacity j : ℕ) (call : Call) → j < 32 → IsSoundRecord s capacity → IsHistory (history_of s) → IsAnswered (moment s) j (slot_call call)
    → IsOneCall s (after_call j call s) j call
one_call_at s capacity j call within sound began answered = record {
  answered = answered;
  began = began;
  after = refl;
  told = calls_of s j call sound.spent_only sound.late_only answered;
  counts = none_falls s capacity j call sound;
  gone = λ is. gone_rose s capacity j call sound within is;
  bad = λ is. bad_rose s capacity j call sound is;
  reads = counts_reads s capacity j call sound answered;
}

pub one_call : (old new : MemRackState) (capacity j : ℕ) (call : Call) → j < 32 → IsSoundRecord old capacity → IsHistory (history_of old)
    → IsAnswered (moment old) j (slot_call call) → new ≡ after_call j call old → IsOneCall old new j call
one_call old new capacity j call within sound began answered is =
    subst (λ n. IsOneCall old n j call) (sym is) (one_call_at old capacity j call within sound began answered)

-- what was told of a call, where the call is known
pub told_as : {old new : MemRackState} {j : ℕ} {call : Call} (known : Call) → IsOneCall old new j call → call ≡ known
    → Calls (history_of old) (history_of new) j (slot_call known)
told_as {old} {new} {j} known one same = subst (λ (c : Call). Calls (history_of old) (history_of new) j (slot_call c)) same one.told

-- of a rack that is opened
pub sound_old : (r : Inside) (old : MemRackState) → state_of r ≡ old → IsSound r → IsSoundRecord old (vec_capacity r.log)
sound_old r old view sound = subst (λ s. IsSoundRecord s (vec_capacity r.log)) view sound.record_is

pub spent_room : (r : Inside) → r.room ≤ vec_len r.log → has_room (state_of r) ≡ false
spent_room r full = le-ltb (length (reverse r.log.items)) r.room (omega (arith, length-reverse r.log.items, r.log.ok.0))

pub room_there : (r : Inside) → vec_len r.log < r.room → has_room (state_of r) ≡ true
room_there r less = lt-ltb (length (reverse r.log.items)) r.room (omega (arith, length-reverse r.log.items, r.log.ok.0))

-- the place that was read
pub place_read : (places : List PlaceState) (j : ℕ) (p : PlaceState) → j < 32 → length places ≡ 32 → p ≡ get_or places j p → p ≡ place_at places j
place_read places j p within count is = get_or_read places j p (omega arith) is no_place

pub began_old : (r : Inside) (old : MemRackState) → state_of r ≡ old → IsSound r → IsHistory (history_of old)
began_old r old view sound = subst (λ s. IsHistory (history_of s)) view sound.began

-- the history goes on
began_after : (r r' : Inside) (j : ℕ) (call : Call) → IsSound r → state_of r' ≡ after_call j call (state_of r)
    → IsAnswered (moment (state_of r)) j (slot_call call) → IsHistory (history_of (state_of r'))
began_after r r' j call sound is answered =
    subst (λ s. IsHistory (history_of s)) (sym is)
    (history_called sound.began (calls_of (state_of r) j call sound.record_is.spent_only sound.record_is.late_only answered))

-- THE RECORD IS SPENT

-- a call of a stopped rack writes nothing
refused-writes : (j : ℕ) (c : SlotCall) (w : Written) → IsRefused j c → with_write c w ≡ w
refused-writes j (slot.Attach answer) w gone = refl
refused-writes j (slot.Sectors size) w gone = refl
refused-writes j (slot.Read k answer) w gone = refl
refused-writes j (slot.Write k bytes answer) w gone = ap (λ a. with_write (slot.Write k bytes a) w) gone
refused-writes j (slot.Sync answer) w gone = refl

-- after a call that changes nothing the slots stand as they did before it
IsShelfOf-idle : (places : List PlaceState) (stop : Bool) (h : List Happening) (j : ℕ) (c : SlotCall) → ChangesNothing h j c → IsRefused j c
    → IsShelfOf places stop (Called j c ∷ h) → IsShelfOf places stop h
IsShelfOf-idle places stop h j c nothing gone is = record {
  count = is.count;
  stopped_is = is.stopped_is;
  beyond = λ i past. sym (state i) ∙ is.beyond i past;
  each = λ i below.
      subst (λ b. IsPlaceOf (writes_in h i) (place_at places i) b) (state i)
      (subst (λ w. IsPlaceOf w (place_at places i) (slot_state (Called j c ∷ h) i)) (writes i) (is.each i below));
}
  where
    state : (i : ℕ) → slot_state (Called j c ∷ h) i ≡ slot_state h i
    state i =
        cond_both (j == i) (slot.after_call c (slot_state h i)) (slot_state h i) (λ b. b ≡ slot_state h i)
        (λ e. subst (λ n. slot.after_call c (slot_state h n) ≡ slot_state h n) (eqb-true j i e) nothing) (λ e. refl)

    writes : (i : ℕ) → writes_in (Called j c ∷ h) i ≡ writes_in h i
    writes i =
        cond_both (j == i) (with_write c (writes_in h i)) (writes_in h i) (λ w. w ≡ writes_in h i) (λ e. refused-writes j c (writes_in h i) gone) (λ e. refl)

-- the slots of a rack that its record stops
shelf_stopped : (s : MemRackState) (places : List PlaceState) (stop : Bool) → (s.spent ≡ false → s.late ≡ []) → IsShelfOf places stop (history_of s)
    → IsShelfOf places true (stopped_by_record s)
shelf_stopped s places stop late_only is =
    elim (cases_Bool s.spent) [
      | inl spent ↦
          let it : IsShelfOf places stop (stopped_by_record s) =
          subst (λ h. IsShelfOf places stop h) (cond-true s.spent (stopped_by_record s) (recorded s) spent) is in
          record { count = it.count; stopped_is = record_stops s; each = it.each; beyond = it.beyond }
      | inr open_ ↦
          let it : IsShelfOf places stop (recorded s) = subst (λ h. IsShelfOf places stop h) (cond-false s.spent (stopped_by_record s) (recorded s) open_) is in
          subst (λ late. IsShelfOf places true (after_late late (Stopped ∷ recorded s))) (sym (late_only open_))
          (record { count = it.count; stopped_is = refl; each = it.each; beyond = it.beyond })
    ]

-- what the call releases is what the history says that was found
lets_go-is : {w : Written} (a : Ask) (p : PlaceState) (b : SlotState) → IsPlaceOf w p b → lets_go (answer_of true a p) b ≡ asks_to_let_go a p
lets_go-is ask.Attach p b is = ap₂ (λ (t : Bool) (n : ℕ). t || not (n == 0)) is.attached_is is.found_is
lets_go-is ask.Sectors p b is = refl
lets_go-is (ask.Read k) p b is = refl
lets_go-is (ask.Write k bytes) p b is = refl
lets_go-is ask.Sync p b is = refl

-- of a stopped rack
closed : (p : PlaceState) → is_open true p ≡ false
closed p = and_right p.attached false refl

-- after it nothing is kept of what was found
lets_go-counts : (a : Ask) (p : PlaceState)
    → cond (has_found (answered_as (answer_of true a p) p)) 1 0 + cond (asks_to_let_go a p) 1 0 ≡ cond (has_found p) 1 0
lets_go-counts ask.Attach p =
    let gone : attach_reply true p ≡ reply.Gone = ap reply_if (and_right (is_some p.medium) false refl) in
    subst (λ r. cond (has_found (attached_as r p)) 1 0 + cond (has_found p) 1 0 ≡ cond (has_found p) 1 0) (sym gone) (omega arith)
lets_go-counts ask.Sectors p = omega arith
lets_go-counts (ask.Read k) p = omega arith
lets_go-counts (ask.Write k bytes) p =
    let gone : write_reply true k p ≡ reply.Gone = ap (λ (t : Bool). reply_if (t && nat_lt k (size_of p.medium))) (closed p) in
    subst (λ r. cond (has_found (written_as k bytes r p)) 1 0 + 0 ≡ cond (has_found p) 1 0) (sym gone) (omega arith)
lets_go-counts ask.Sync p =
    let gone : sync_reply true p ≡ reply.Gone = ap reply_if (closed p) in
    subst (λ r. cond (has_found (synced_as r p)) 1 0 + 0 ≡ cond (has_found p) 1 0) (sym gone) (omega arith)

-- what a call leaves for which there was no room
pub record IsTurnedDown (s : MemRackState) (places : List PlaceState) (late : List ℕ) (j : ℕ) (call : Call) : Type 0 where
  pub answered : IsAnswered (moment s) j (slot_call call)
  pub late_is : reverse late ≡ (if lets_go call (slot_state (moment s) j) then j ∷ s.late else s.late)
  pub shelf : IsShelfOf places true (history_of (after_call j call s))
  pub room_left : HasRoom places (acts_from (length s.calls) s.script)
  pub late_fits : length (reverse late) + count_by has_found places ≤ 32

module _ (r : Inside) (j : ℕ) (p : PlaceState) (within : j < 32) (sound : IsSound r) (none : has_room (state_of r) ≡ false)
    (at : p ≡ get_or r.places.items j p) where
  refused_place : p ≡ place_at r.places.items j
  refused_place = place_read r.places.items j p within sound.shelf.count at

  counted_after : (a : Ask) (p' : PlaceState) → p' ≡ answered_as (answer_of true a p) p
      → count_by has_found (slice_set r.places.items j p') + cond (asks_to_let_go a p) 1 0 ≡ count_by has_found r.places.items
  counted_after a p' after =
      let n : PlaceState → ℕ = λ q. cond (has_found q) 1 0 in
      let sum : count_by has_found (slice_set r.places.items j p') + n (place_at r.places.items j) ≡ count_by has_found r.places.items + n p' =
      sum_by-set n r.places.items j p' no_place (omega (arith, sound.shelf.count)) in
      let was : n (place_at r.places.items j) ≡ n p = ap n (sym refused_place) in
      let now : n p' ≡ n (answered_as (answer_of true a p) p) = ap n after in
      omega (arith, lets_go-counts a p)

  -- there is memory for an attach that is told
  pub late_room : (a : Ask) → asks_to_let_go a p ≡ true → length r.late.items < vec_capacity r.late
  late_room a is =
      let fewer = counted_after a (answered_as (answer_of true a p) p) refl in
      let one : cond {A = ℕ} (asks_to_let_go a p) 1 0 ≡ 1 = cond-true {A = ℕ} (asks_to_let_go a p) 1 0 is in
      omega (arith, sound.late_fits, sound.late_memory, length-reverse r.late.items)

  pub refused_of : (a : Ask) (p' : PlaceState) (call : Call) (late : List ℕ) → call ≡ answer_of true a p → p' ≡ answered_as call p
      → late ≡ (if asks_to_let_go a p then r.late.items ++ j ∷ [] else r.late.items)
      → IsTurnedDown (state_of r) (slice_set r.places.items j p') late j call
  refused_of a p' call late is after told =
      let s = state_of r in
      let here : IsShelfOf r.places.items true (stopped_by_record s) = shelf_stopped s r.places.items r.stopped sound.record_is.late_only sound.shelf in
      let q : PlaceState = place_at r.places.items j in
      let it : IsCalled (slice_set r.places.items j p') true (acts_from (length s.calls) s.script) j call (stopped_by_record s) =
      called r.places.items true (acts_from (length s.calls) s.script) j (stopped_by_record s) a p' call within here sound.room_left
      (is ∙ ap (answer_of true a) refused_place) (after ∙ ap (answered_as call) refused_place) in
      let flag : lets_go call (slot_state (moment s) j) ≡ asks_to_let_go a p =
      ap (λ h. lets_go call (slot_state h j)) (moment-spent s none)
      ∙ ap (λ c. lets_go c (slot_state (stopped_by_record s) j)) (is ∙ ap (answer_of true a) refused_place)
      ∙ lets_go-is a q (slot_state (stopped_by_record s) j) (here.each j within)
      ∙ ap (asks_to_let_go a) (sym refused_place) in
      let late' : reverse late ≡ (if lets_go call (slot_state (moment s) j) then j ∷ s.late else s.late) =
      ap reverse told ∙ reverse_if (asks_to_let_go a p) ∙ ap (λ (t : Bool). if t then j ∷ s.late else s.late) (sym flag) in
      record {
        answered = subst (λ h. IsAnswered h j (slot_call call)) (sym (moment-spent s none)) it.answered;
        late_is = late';
        shelf = refused_shelf s (slice_set r.places.items j p') call none it;
        room_left = it.room_left;
        late_fits =
            let fewer = counted_after a p' (after ∙ ap (λ c. answered_as c p) is) in
            let more : length (reverse late) ≡ length s.late + cond (asks_to_let_go a p) 1 0 =
            ap length (ap reverse told ∙ reverse_if (asks_to_let_go a p)) ∙ length_if (asks_to_let_go a p) in
            omega (arith, sound.late_fits);
      }
    where
      reverse_if : (t : Bool) → reverse (if t then r.late.items ++ j ∷ [] else r.late.items) ≡ (if t then j ∷ reverse r.late.items else reverse r.late.items)
      reverse_if true = reverse-append r.late.items (j ∷ [])
      reverse_if false = refl

      length_if : (t : Bool) → length (if t then j ∷ reverse r.late.items else reverse r.late.items) ≡ length (reverse r.late.items) + cond t 1 0
      length_if true = omega arith
      length_if false = omega arith

      refused_shelf : (s : MemRackState) (places : List PlaceState) (call : Call) → has_room s ≡ false
          → IsCalled places true (acts_from (length s.calls) s.script) j call (stopped_by_record s) → IsShelfOf places true (history_of (after_call j call s))
      refused_shelf s places call none it =
          elim (cases_Bool (lets_go call (slot_state (moment s) j))) [
            | inl is ↦
                subst (IsShelfOf places true) (sym (history-told s j call none is))
                (subst (λ c. IsShelfOf places true (Called j c ∷ stopped_by_record s))
                (told_attach (stopped_by_record s) j call (slot_state (moment s) j) is (record_stops s) it.answered) it.shelf)
            | inr is ↦
                let keeps : lets_go call (slot_state (stopped_by_record s) j) ≡ false =
                ap (λ h. lets_go call (slot_state h j)) (sym (moment-spent s none)) ∙ is in
                subst (IsShelfOf places true) (sym (history-untold s j call none is))
                (IsShelfOf-idle places true (stopped_by_record s) j (slot_call call)
                (left_out (stopped_by_record s) j call keeps (record_stops s) it.answered)
                (refused (stopped_by_record s) j (slot_call call) (record_stops s) it.answered) it.shelf)
          ]

pub IsSound-spent : (r r' : Inside) (j : ℕ) (call : Call) → IsSound r → state_of r' ≡ after_call j call (state_of r) → has_room (state_of r) ≡ false
    → vec_capacity r'.log ≡ vec_capacity r.log → vec_capacity r'.late ≡ vec_capacity r.late → r'.stopped ≡ true → r'.blanks.items ≡ r.blanks.items
    → IsTurnedDown (state_of r) r'.places.items r'.late.items j call → IsSound r'
IsSound-spent r r' j call sound is none memory late stopped blanks refused =
    let s = state_of r in
    let now : state_of r' ≡ counted j call (without_room j call s) =
    is ∙ ap (counted j call) (cond-false (has_room s) (with_call j call s) (without_room j call s) none) in
    let calls : (state_of r').calls ≡ s.calls = ap (λ (t : MemRackState). t.calls) now in
    let script : r'.script.items ≡ r.script.items = ap (λ (t : MemRackState). t.script) now in
    record {
      record_is =
          subst (λ t. IsSoundRecord t (vec_capacity r'.log)) (sym is)
          (subst (λ m. IsSoundRecord (after_call j call s) m) (sym memory) (record_sound s (vec_capacity r.log) j call sound.record_is));
      began = began_after r r' j call sound is refused.answered;
      shelf =
          subst (λ t. IsShelfOf r'.places.items r'.stopped (history_of t)) (sym is)
          (subst (λ b. IsShelfOf r'.places.items b (history_of (after_call j call s))) (sym stopped) refused.shelf);
      late_memory = subst (λ m. 32 ≤ m) (sym late) sound.late_memory;
      late_fits = refused.late_fits;
      room_left =
          subst (λ cs. HasRoom r'.places.items (acts_from (length cs) r'.script.items)) (sym calls)
          (subst (λ xs. HasRoom r'.places.items (acts_from (length s.calls) xs)) (sym script) refused.room_left);
      blanks_left =
          subst (λ cs. AreBlanks (length cs) 0 r'.script.items r'.blanks.items) (sym calls)
          (subst (λ xs. AreBlanks (length s.calls) 0 xs r'.blanks.items) (sym script)
          (subst (λ bs. AreBlanks (length s.calls) 0 r.script.items bs) (sym blanks) sound.blanks_left));
    }

-- THE RECORD HAS ROOM

pub moment-recorded : (s : MemRackState) → has_room s ≡ true → moment s ≡ after_acts (length s.calls) s.script (recorded s)
moment-recorded s room = cond-true (has_room s) _ (stopped_by_record s) room

unspent : (s : MemRackState) (capacity : ℕ) → has_room s ≡ true → IsSoundRecord s capacity → s.spent ≡ false
unspent s capacity room sound =
    elim (cases_Bool s.spent) [
      | inl spent ↦
          let less : length s.calls < s.room = ltb-true _ _ room in let full = sound.spent_only spent in absurd (omega arith)
      | inr open_ ↦ open_
    ]

-- the acts before the next call were done
pub record IsActed (s : MemRackState) (places : List PlaceState) (stop : Bool) (blanks : List (Option (List StoredSector))) : Type 0 where
  pub shelf : IsShelfOf places stop (moment s)
  pub room_left : HasRoom places (acts_from (length s.calls + 1) s.script)
  pub blanks_left : AreBlanks (length s.calls + 1) 0 s.script blanks

pub acted : (r : Inside) (n : ℕ) (places : List PlaceState) (stop : Bool) (blanks : List (Option (List StoredSector))) → IsSound r → n ≡ vec_len r.log
    → vec_len r.log < r.room → ((h : List Happening) → IsShelfOf r.places.items r.stopped h → IsShelfOf places stop (after_acts n r.script.items h))
    → HasRoom places (acts_from (n + 1) r.script.items) → AreBlanks (n + 1) 0 r.script.items blanks → IsActed (state_of r) places stop blanks
acted r n places stop blanks sound is less shelf room left =
    let s = state_of r in
    let same : n ≡ length s.calls = is ∙ r.log.ok.0 ∙ sym (length-reverse r.log.items) in
    record {
      shelf =
          subst (λ h. IsShelfOf places stop h) (sym (moment-recorded s (room_there r less)))
          (subst (λ m. IsShelfOf places stop (after_acts m r.script.items (recorded s))) same
          (shelf (recorded s) (subst (λ h. IsShelfOf r.places.items r.stopped h)
          (cond-false s.spent (stopped_by_record s) (recorded s) (unspent s (vec_capacity r.log) (room_there r less) sound.record_is)) sound.shelf)));
      room_left = subst (λ m. HasRoom places (acts_from (m + 1) r.script.items)) same room;
      blanks_left = subst (λ m. AreBlanks (m + 1) 0 r.script.items blanks) same left;
    }

-- what a call leaves that is recorded: the slots, the media that are still to come, and the answer
pub record IsNext (s : MemRackState) (places : List PlaceState) (stop : Bool) (blanks : List (Option (List StoredSector))) (j : ℕ) (call : Call) : Type 0 where
  pub called : IsCalled places stop (acts_from (length s.calls + 1) s.script) j call (moment s)
  pub blanks_left : AreBlanks (length s.calls + 1) 0 s.script blanks

module _ (s : MemRackState) (places : List PlaceState) (stop : Bool) (blanks : List (Option (List StoredSector))) (j : ℕ) (p : PlaceState) (within : j < 32)
    (acts : IsActed s places stop blanks) (at : p ≡ get_or places j p) where
  place_is : p ≡ place_at places j
  place_is = place_read places j p within acts.shelf.count at

  pub next_of : (a : Ask) (p' : PlaceState) (call : Call) → call ≡ answer_of stop a p → p' ≡ answered_as call p
      → IsNext s (slice_set places j p') stop blanks j call
  next_of a p' call answered after = record {
    called =
        called places stop (acts_from (length s.calls + 1) s.script) j (moment s) a p' call within acts.shelf acts.room_left
        (answered ∙ ap (answer_of stop a) place_is) (after ∙ ap (answered_as call) place_is);
    blanks_left = acts.blanks_left;
  }

  -- what was read is what the sector holds
  pub read_bytes : (k : ℕ) (bytes : List ℕ) → (stored_in p.medium k).now ≡ stored.Good bytes → content ((slot_state (moment s) j).sector k) ≡ Good bytes
  read_bytes k bytes found =
      sym ((acts.shelf.each j within).medium.each k).content_is
      ∙ ap cell_of (sym (ap (λ (q : PlaceState). (stored_in q.medium k).now) place_is) ∙ found)

pub IsSound-recorded : (r r' : Inside) (j : ℕ) (call : Call) → IsSound r → vec_len r.log < r.room → state_of r' ≡ after_call j call (state_of r)
    → vec_capacity r'.log ≡ vec_capacity r.log → vec_capacity r'.late ≡ vec_capacity r.late
    → IsNext (state_of r) r'.places.items r'.stopped r'.blanks.items j call → IsSound r'
IsSound-recorded r r' j call sound less is memory late next =
    let s = state_of r in
    let room : has_room s ≡ true = room_there r less in
    let open_ : s.spent ≡ false = unspent s (vec_capacity r.log) room sound.record_is in
    let now : state_of r' ≡ counted j call (with_call j call s) =
    is ∙ ap (counted j call) (cond-true (has_room s) (with_call j call s) (without_room j call s) room) in
    let calls : length (state_of r').calls ≡ length s.calls + 1 = ap (λ (t : MemRackState). length t.calls) now ∙ omega arith in
    let script : r'.script.items ≡ r.script.items = ap (λ (t : MemRackState). t.script) now in
    let history : history_of (state_of r') ≡ Called j (slot_call call) ∷ moment s = ap history_of is ∙ history-with_room s j call open_ room in
    record {
      record_is =
          subst (λ t. IsSoundRecord t (vec_capacity r'.log)) (sym is)
          (subst (λ m. IsSoundRecord (after_call j call s) m) (sym memory) (record_sound s (vec_capacity r.log) j call sound.record_is));
      began = began_after r r' j call sound is next.called.answered;
      shelf = subst (λ h. IsShelfOf r'.places.items r'.stopped h) (sym history) next.called.shelf;
      late_memory = subst (λ m. 32 ≤ m) (sym late) sound.late_memory;
      late_fits =
          let none : length (state_of r').late ≡ 0 = ap (λ (t : MemRackState). length t.late) now ∙ ap length (sound.record_is.late_only open_) in
          omega (arith, next.called.shelf.count, count_by-le-length has_found r'.places.items);
      room_left =
          subst (λ n. HasRoom r'.places.items (acts_from n r'.script.items)) (sym calls)
          (subst (λ xs. HasRoom r'.places.items (acts_from (length s.calls + 1) xs)) (sym script) next.called.room_left);
      blanks_left =
          subst (λ n. AreBlanks n 0 r'.script.items r'.blanks.items) (sym calls)
          (subst (λ xs. AreBlanks (length s.calls + 1) 0 xs r'.blanks.items) (sym script) next.blanks_left);
    }

-- the record with a call more, and the counts that its answer raised
-- each sector can be written once more
pub pending_fits : (r : Inside) (places : List PlaceState) (stop : Bool) (blanks : List (Option (List StoredSector))) (j k : ℕ) (p : PlaceState) → j < 32
    → IsSound r → vec_len r.log < r.room → IsActed (state_of r) places stop blanks → p ≡ get_or places j p → (stored_in p.medium k).pending < 2 ^ 32 - 1
pending_fits r places stop blanks j k p within sound less acts at =
    let s = state_of r in
    let few = pending-within s places stop (moment s) j k within acts.shelf (moment-writes s j k) in
    let same : (stored_in p.medium k).pending ≡ (stored_in (place_at places j).medium k).pending =
    ap (λ (q : PlaceState). (stored_in q.medium k).pending) (place_read places j p within acts.shelf.count at) in
    let below : length s.calls < s.room = ltb-true _ _ (room_there r less) in
    omega (arith, sound.record_is.room_fits)

pub recorded_after : (r : Inside) (j : ℕ) (call : Call) (log : List Recorded) (bads : ℕ) (gones : List ℕ) (reads : ℕ) → vec_len r.log < r.room
    → log ≡ r.log.items ++ record { slot = j; call = call } ∷ [] → bads ≡ (if call_is_bad call then one_more r.bads else r.bads)
    → gones ≡ gones_after (call_is_gone call) j r.gones.items → reads ≡ (if call_is_read call then r.reads + 1 else r.reads)
    → record (state_of r) { calls = reverse log; bads = bads; gones = gones; reads = reads } ≡ after_call j call (state_of r)
recorded_after r j call log bads gones reads less is bads_are gones_are reads_are =
    state-recorded (state_of r) j call (reverse log) bads gones reads (room_there r less) (ap reverse is ∙ reverse-push r.log.items (record { slot = j; call = call }))
    bads_are gones_are reads_are

pub spent_after : (r : Inside) (j : ℕ) (call : Call) (late : List ℕ) (bads : ℕ) (gones : List ℕ) → r.room ≤ vec_len r.log
    → reverse late ≡ (if lets_go call (slot_state (moment (state_of r)) j) then j ∷ (state_of r).late else (state_of r).late)
    → bads ≡ (if call_is_bad call then one_more r.bads else r.bads) → gones ≡ gones_after (call_is_gone call) j r.gones.items
    → record (state_of r) { spent = true; late = reverse late; bads = bads; gones = gones } ≡ after_call j call (state_of r)
spent_after r j call late bads gones full late_is bads_are gones_are =
    state-spent (state_of r) j call (reverse late) bads gones (spent_room r full) late_is bads_are gones_are

-- WHAT WAS ASKED IS ANSWERED

pub answer_asked : (stop : Bool) (a : Ask) (p : PlaceState) → IsAnswerTo a (answer_of stop a p)
answer_asked stop ask.Attach p = refl
answer_asked stop ask.Sectors p = refl
answer_asked stop (ask.Read k) p = refl
answer_asked stop (ask.Write k bytes) p = refl
answer_asked stop ask.Sync p = refl

-- a stopped rack reads nothing
pub refusal_not_good : (a : Ask) (p : PlaceState) (k : ℕ) → answer_of true a p ≡ Read k got.Good → ⊥
refusal_not_good ask.Attach p k is = cc
refusal_not_good ask.Sectors p k is = cc
refusal_not_good (ask.Read l) p k is =
    let gone : read_got true l p ≡ got.Gone = cond-false _ _ _ (closed p) in
    let good : read_got true l p ≡ got.Good = ap got_of is in
    absurd (gone_or_good (sym gone ∙ good))
  where
    gone_or_good : got.Gone ≡ got.Good → ⊥
    gone_or_good e = cc
refusal_not_good (ask.Write l bytes) p k is = cc
refusal_not_good ask.Sync p k is = cc
