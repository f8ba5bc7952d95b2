-- The record and the counts, after a call.
use Rattle.std.proofs.Common.{◌≡◌, ℕ, ◌<◌, ◌≤◌, ◌+◌, ◌^◌, suc, Bool, true, false, not, List, [], ◌∷◌, ◌++◌, length, reverse, inl, inr, refl, sym, ap, ◌∙◌, subst, arith, Some}
use Rattle.std.specs.Prelude.{if◌then◌else◌, slice_set, slice_index}
use Rattle.std.proofs.lemmas.Bool.{false≢true, cond-true, cond-false, cond_both, cases_eq, cases_Bool, cases_lt, ltb-false, ltb-true, and_right}
use Rattle.std.proofs.lemmas.List.{get_or-set_same, get_or-set_other, set_past, length-set, reverse-append}
use Rattle.stair_rack.specs.Count.{Rose, one_more}
use Rattle.stair_rack.specs.History.{Happening, Stopped, Called, slot_state, stopped}
use Rattle.stair_rack.specs.History as slot
use Rattle.stair_rack.specs.Answers.{IsAnswered, read_answer}
use Rattle.stair_rack.specs.RackCounts.{IsLaterCount, NoneFalls, CountsRead}
use Rattle.stair_rack.specs.declared.rack.Got.{Got}
use Rattle.stair_rack.specs.declared.rack.Got.TheVariants as got
use Rattle.stair_rack.proofs.StepLemmas.{slot_after_call}
use Rattle.stair_rack.proofs.PassCounts.{IsLaterCount-same}
use Rattle.stair_memrack.specs.declared.record.Call.{Call}
use Rattle.stair_memrack.specs.declared.record.Call.TheVariants.{Attach, Sectors, Read, Write, Sync}
use Rattle.stair_memrack.specs.declared.record.Recorded.{Recorded}
use Rattle.stair_memrack.specs.Record.{MemRackState, slot_call, CountsReads, history_of, has_room, moment, call_is_gone, call_is_bad, call_is_read, counted, with_call, lets_go, without_room, after_call}
use Rattle.stair_memrack.specs.Sound.{IsSoundRecord}
use Rattle.stair_memrack.proofs.RunLemmas.{history-with_room, history-untold, moment-spent, record_stops}

-- the gones, where this slot's may have risen
abbrev pub gones_after : Bool → ℕ → List ℕ → List ℕ
gones_after gone j gones = if gone then slice_set gones j (one_more (slice_index gones j)) else gones

-- THE RACK AFTER A CALL

pub state-recorded : (s : MemRackState) (j : ℕ) (call : Call) (calls : List Recorded) (bads : ℕ) (gones : List ℕ) (reads : ℕ) → has_room s ≡ true
    → calls ≡ record { slot = j; call = call } ∷ s.calls → bads ≡ (if call_is_bad call then one_more s.bads else s.bads)
    → gones ≡ gones_after (call_is_gone call) j s.gones → reads ≡ (if call_is_read call then s.reads + 1 else s.reads)
    → record s { calls = calls; bads = bads; gones = gones; reads = reads } ≡ after_call j call s
state-recorded s j call calls bads gones reads room calls_are bads_are gones_are reads_are =
    (λ i. record s { calls = calls_are i; bads = bads_are i; gones = gones_are i; reads = reads_are i })
    ∙ ap (counted j call) (sym (cond-true (has_room s) (with_call j call s) (without_room j call s) room))

pub state-spent : (s : MemRackState) (j : ℕ) (call : Call) (late : List ℕ) (bads : ℕ) (gones : List ℕ) → has_room s ≡ false
    → late ≡ (if lets_go call (slot_state (moment s) j) then j ∷ s.late else s.late) → bads ≡ (if call_is_bad call then one_more s.bads else s.bads) → gones ≡ gones_after (call_is_gone call) j s.gones
    → record s { spent = true; late = late; bads = bads; gones = gones } ≡ after_call j call s
state-spent s j call late bads gones none late_is bads_are gones_are =
    (λ i. record s { spent = true; late = late_is i; bads = bads_are i; gones = gones_are i })
    ∙ ap (counted j call) (sym (cond-false (has_room s) (with_call j call s) (without_room j call s) none))

pub reverse-push : (calls : List Recorded) (c : Recorded) → reverse (calls ++ c ∷ []) ≡ c ∷ reverse calls
reverse-push calls c = reverse-append calls (c ∷ [])

-- COUNTS

one_more-fits : (n : ℕ) → one_more n < 2 ^ 64
one_more-fits n = grind arith

pub one_more-rose : (n : ℕ) → n < 2 ^ 64 → Rose n (one_more n)
one_more-rose n fits = grind arith

one_more-later : (n : ℕ) → n < 2 ^ 64 → IsLaterCount n (one_more n)
one_more-later n fits = record { not_less = grind arith; fits = λ h. one_more-fits n }

-- a count that rose, and the others
set_cases : (P : ℕ → Type 0) (xs : List ℕ) (j i x : ℕ) → (i ≡ j → P x) → P (slice_index xs i) → P (slice_index (slice_set xs j x) i)
set_cases P xs j i x here there =
    elim (cases_eq i j) [
      | inl same ↦
          elim (cases_lt j (length xs)) [
            | inl within ↦
                let it : slice_index (slice_set xs j x) i ≡ x = ap (λ n. slice_index (slice_set xs j x) n) same ∙ get_or-set_same xs j x 0 within in
                subst P (sym it) (here same)
            | inr past ↦ subst P (sym (ap (λ ys. slice_index ys i) (set_past xs j x past))) there
          ]
      | inr other ↦ subst P (sym (get_or-set_other xs j i x 0 other)) there
    ]

pub gones-fit : (gone : Bool) (j : ℕ) (gones : List ℕ) → ((i : ℕ) → slice_index gones i < 2 ^ 64) → (i : ℕ) → slice_index (gones_after gone j gones) i < 2 ^ 64
gones-fit true j gones fit i = set_cases (λ n. n < 2 ^ 64) gones j i (one_more (slice_index gones j)) (λ same. one_more-fits (slice_index gones j)) (fit i)
gones-fit false j gones fit i = fit i

pub gones-later : (gone : Bool) (j : ℕ) (gones : List ℕ) → ((i : ℕ) → slice_index gones i < 2 ^ 64) → (i : ℕ)
    → IsLaterCount (slice_index gones i) (slice_index (gones_after gone j gones) i)
gones-later true j gones fit i =
    set_cases (IsLaterCount (slice_index gones i)) gones j i (one_more (slice_index gones j))
    (λ same. subst (λ n. IsLaterCount (slice_index gones n) (one_more (slice_index gones j))) (sym same) (one_more-later (slice_index gones j) (fit j)))
    (IsLaterCount-same (slice_index gones i))
gones-later false j gones fit i = IsLaterCount-same (slice_index gones i)

pub gones-count : (gone : Bool) (j : ℕ) (gones : List ℕ) → length (gones_after gone j gones) ≡ length gones
gones-count true j gones = length-set gones j (one_more (slice_index gones j))
gones-count false j gones = refl

pub bads-fit : (bad : Bool) (n : ℕ) → n < 2 ^ 64 → (if bad then one_more n else n) < 2 ^ 64
bads-fit true n fits = one_more-fits n
bads-fit false n fits = fits

pub bads-later : (bad : Bool) (n : ℕ) → n < 2 ^ 64 → IsLaterCount n (if bad then one_more n else n)
bads-later true n fits = one_more-later n fits
bads-later false n fits = IsLaterCount-same n

reads-within : (read : Bool) (n m : ℕ) → n ≤ m → (if read then n + 1 else n) ≤ suc m
reads-within true n m less = omega arith
reads-within false n m less = omega arith

module _ (s : MemRackState) (capacity j : ℕ) (call : Call) (sound : IsSoundRecord s capacity) where
  room_less : has_room s ≡ true → length s.calls < s.room
  room_less room = ltb-true (length s.calls) s.room room

  pub record_sound : IsSoundRecord (after_call j call s) capacity
  record_sound =
      cond_both (has_room s) (with_call j call s) (without_room j call s) (λ t. IsSoundRecord (counted j call t) capacity)
      (λ room.
      let less : length s.calls < s.room = room_less room in
      record {
        within = omega arith;
        room_fits = sound.room_fits;
        memory = sound.memory;
        spent_only = λ spent. let full = sound.spent_only spent in absurd (omega arith);
        late_only = sound.late_only;
        reads_within = reads-within (call_is_read call) s.reads (length s.calls) sound.reads_within;
        counts = gones-count (call_is_gone call) j s.gones ∙ sound.counts;
        bads_fit = bads-fit (call_is_bad call) s.bads sound.bads_fit;
        gones_fit = gones-fit (call_is_gone call) j s.gones sound.gones_fit;
      })
      (λ none.
      let full : s.room ≤ length s.calls = ltb-false (length s.calls) s.room none in
      record {
        within = sound.within;
        room_fits = sound.room_fits;
        memory = sound.memory;
        spent_only = λ spent. let w = sound.within in omega arith;
        late_only = λ unspent. absurd (false≢true (sym unspent));
        reads_within = sound.reads_within;
        counts = gones-count (call_is_gone call) j s.gones ∙ sound.counts;
        bads_fit = bads-fit (call_is_bad call) s.bads sound.bads_fit;
        gones_fit = gones-fit (call_is_gone call) j s.gones sound.gones_fit;
      })

  pub none_falls : NoneFalls s.bads (after_call j call s).bads (λ i. slice_index s.gones i) (λ i. slice_index (after_call j call s).gones i)
  none_falls =
      cond_both (has_room s) (with_call j call s) (without_room j call s)
      (λ t. NoneFalls s.bads (counted j call t).bads (λ i. slice_index s.gones i) (λ i. slice_index (counted j call t).gones i))
      (λ room. record { bad = bads-later (call_is_bad call) s.bads sound.bads_fit; gone = gones-later (call_is_gone call) j s.gones sound.gones_fit })
      (λ none. record { bad = bads-later (call_is_bad call) s.bads sound.bads_fit; gone = gones-later (call_is_gone call) j s.gones sound.gones_fit })

  pub gone_rose : j < 32 → call_is_gone call ≡ true → Rose (slice_index s.gones j) (slice_index (after_call j call s).gones j)
  gone_rose within gone =
      cond_both (has_room s) (with_call j call s) (without_room j call s) (λ t. Rose (slice_index s.gones j) (slice_index (counted j call t).gones j))
      (λ room. rose) (λ none. rose)
    where
      at : j < length s.gones
      at = let w = within in omega (arith, sound.counts)

      rose : Rose (slice_index s.gones j) (slice_index (gones_after (call_is_gone call) j s.gones) j)
      rose =
          let it : slice_index (gones_after (call_is_gone call) j s.gones) j ≡ one_more (slice_index s.gones j) =
          ap (λ gs. slice_index gs j) (cond-true (call_is_gone call) (slice_set s.gones j (one_more (slice_index s.gones j))) s.gones gone)
          ∙ get_or-set_same s.gones j (one_more (slice_index s.gones j)) 0 at in
          subst (Rose (slice_index s.gones j)) (sym it) (one_more-rose (slice_index s.gones j) (sound.gones_fit j))

  pub bad_rose : call_is_bad call ≡ true → Rose s.bads (after_call j call s).bads
  bad_rose bad =
      cond_both (has_room s) (with_call j call s) (without_room j call s) (λ t. Rose s.bads (counted j call t).bads)
      (λ room. rose) (λ none. rose)
    where
      rose : Rose s.bads (if call_is_bad call then one_more s.bads else s.bads)
      rose = subst (Rose s.bads) (sym (cond-true (call_is_bad call) (one_more s.bads) s.bads bad)) (one_more-rose s.bads sound.bads_fit)

  reads_same : call_is_read call ≡ false → (after_call j call s).reads ≡ s.reads
  reads_same other =
      cond_both (has_room s) (with_call j call s) (without_room j call s) (λ t. (counted j call t).reads ≡ s.reads)
      (λ room. cond-false (call_is_read call) (s.reads + 1) s.reads other) (λ none. refl)

-- READS

pub spent_gone : (s : MemRackState) (j k : ℕ) → has_room s ≡ false → read_answer (moment s) j k ≡ got.Gone
spent_gone s j k none =
    ap (λ h. read_answer h j k) (moment-spent s none) ∙ cond-false _ _ _ (and_right _ _ (ap not (record_stops s)))

counts_one : (answer : Got) (n m : ℕ) → m ≡ n + 1 → CountsRead answer (Some n) (Some m)
counts_one got.Good n m is = ap (λ x. Some x) is
counts_one got.Bad n m is = ap (λ x. Some x) is
counts_one got.Gone n m is = inr (ap (λ x. Some x) is)

counts_none : (answer : Got) (n m : ℕ) → answer ≡ got.Gone → m ≡ n → CountsRead answer (Some n) (Some m)
counts_none got.Good n m gone is = absurd (cc)
counts_none got.Bad n m gone is = absurd (cc)
counts_none got.Gone n m gone is = inl (ap (λ x. Some x) is)

counts_read : (s : MemRackState) (j k : ℕ) (answer : Got) → answer ≡ read_answer (moment s) j k
    → CountsRead answer (Some s.reads) (Some (after_call j (Read k answer) s).reads)
counts_read s j k answer answered =
    cond_both (has_room s) (with_call j (Read k answer) s) (without_room j (Read k answer) s)
    (λ t. CountsRead answer (Some s.reads) (Some (counted j (Read k answer) t).reads))
    (λ room. counts_one answer s.reads (s.reads + 1) refl)
    (λ none. counts_none answer s.reads s.reads (answered ∙ spent_gone s j k none) refl)

pub counts_reads : (s : MemRackState) (capacity j : ℕ) (call : Call) → IsSoundRecord s capacity → IsAnswered (moment s) j (slot_call call)
    → CountsReads call (Some s.reads) (Some (after_call j call s).reads)
counts_reads s capacity j (Attach answer) sound answered = ap (λ n. Some n) (reads_same s capacity j (Attach answer) sound refl)
counts_reads s capacity j (Sectors size) sound answered = ap (λ n. Some n) (reads_same s capacity j (Sectors size) sound refl)
counts_reads s capacity j (Read k answer) sound answered = counts_read s j k answer answered
counts_reads s capacity j (Write k bytes answer) sound answered = ap (λ n. Some n) (reads_same s capacity j (Write k bytes answer) sound refl)
counts_reads s capacity j (Sync answer) sound answered = ap (λ n. Some n) (reads_same s capacity j (Sync answer) sound refl)

-- after a read the slot is as it was when it was answered
pub after_read : (s : MemRackState) (j k : ℕ) (answer : Got) → (s.spent ≡ true → length s.calls ≡ s.room)
    → slot_state (history_of (after_call j (Read k answer) s)) j ≡ slot_state (moment s) j
after_read s j k answer spent_only =
    elim (cases_Bool (has_room s)) [
      | inl room ↦
          ap (λ h. slot_state h j) (history-with_room s j (Read k answer) (not_spent s.spent refl room) room)
          ∙ slot_after_call (moment s) j (slot.Read k answer)
      | inr none ↦
          ap (λ h. slot_state h j) (history-untold s j (Read k answer) none refl ∙ sym (moment-spent s none))
    ]
  where
    not_spent : (b : Bool) → s.spent ≡ b → has_room s ≡ true → b ≡ false
    not_spent true spent room =
        let less : length s.calls < s.room = ltb-true _ _ room in
        let full : length s.calls ≡ s.room = spent_only spent in
        absurd (omega arith)
    not_spent false spent room = refl
