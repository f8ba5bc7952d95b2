-- Steps of the writes and of the syncs of a phase, and its writes so far.
use Rattle.std.proofs.Common.{◌≡◌, ℕ, true, List, ◌⊎◌, inl, inr, refl, sym, ap, ◌∙◌, subst, Some, slice_get}
use Rattle.std.specs.Prelude.{◌↔◌, IsTrue, IsSome}
use Rattle.std.proofs.lemmas.Bool.{cases_Bool, cases_eq, false≢true}
use Rattle.stair_model.specs.Slots.{Slots, has_slot, HasSlot}
use Rattle.stair_rack.specs.Sector.{Good, content, synced}
use Rattle.stair_rack.specs.Media.{has_sector}
use Rattle.stair_rack.specs.History.{SlotAct, Pulled, InsertedBlank, InsertedOld, SectorDamaged, SlotCall, Attach, Sectors, Read, Write, Sync, Happening, SlotState, after_act, after_call, slot_state}
use Rattle.stair_rack.specs.Outside.{MayHappen}
use Rattle.stair_rack.specs.Answers.{Calls, Ran, any_call, IsBesideAttach}
use Rattle.stair_rack.specs.Offline.{ButForOutside, IsHeld, IsOfflineUntilAttached}
use Rattle.stair_rack.specs.Passes.{IsOn, Landed, Wrote, Settled}
use Rattle.stair_rack.specs.Placed.{Writes, IsWriteOf, IsSyncOf}
use Rattle.stair_rack.specs.Stretch.{WasAnswered}
use Rattle.stair_rack.specs.Writing.{Writing}
use Rattle.stair_rack.specs.declared.rack.Reply.{Reply}
use Rattle.stair_rack.specs.declared.rack.Reply.TheVariants as reply
use Rattle.stair_rack.proofs.StepLemmas.{keeps_slot, kept}
use Rattle.stair_rack.proofs.MomentLemmas.{ran_none, ran_join, ran_weakened, calls_ran, IsThis, at_some_wider}
use Rattle.stair_rack.proofs.KeptLemmas.{with_old_cases, IsKept-onward, IsKept-since, IsKept-mapped}
use Rattle.stair_rack.proofs.OfflineLemmas.{pulls_on, held_on, offline_on}
use Rattle.stair_rack.proofs.CallLemmas.{write_done, write_landed, write_gone, write_others, sync_done, sync_gone, sync_told}

-- ONE STEP OF THE WRITES

-- these bytes are written to sector k, on one of these slots
pub record IsWriteTo (on : ℕ → Type 0) (k : ℕ) (bytes : List ℕ) (j : ℕ) (c : SlotCall) : Type 0 where
  pub slot : on j
  pub answer : Reply
  pub is : c ≡ Write k bytes answer

-- Sector k was written on some slots, in one call or in a pass.
pub record WriteStep (on gone : ℕ → Type 0) (k : ℕ) (bytes : List ℕ) (now next : List Happening) : Type 0 where
  pub ran : Ran (IsWriteTo on k bytes) now next
  pub known_on : (j : ℕ) → on j ⊎ (¬ on j)
  pub known : (j : ℕ) → gone j ⊎ (¬ gone j)
  pub answered : (j : ℕ) → gone j → on j
  pub landed : (j : ℕ) → on j → (¬ gone j) → Landed now next j k bytes
  pub written : (j : ℕ) → on j → (¬ gone j) → ButForOutside now next j k (λ s. content s ≡ Good bytes)
  pub others : (j l : ℕ) → IsSome (slot_state now j).size → (¬ (on j × (l ≡ k)))
      → ButForOutside now next j l (λ s. s ≡ (slot_state now j).sector l)
  pub shut : (before : List Happening) (j : ℕ) → gone j → IsHeld before now j
      → ((slot_state now j).attached ≡ true → IsTrue (has_sector (slot_state now j).size k)) → IsOfflineUntilAttached before next j

known_slot : (set : Slots) (j : ℕ) → HasSlot set j ⊎ (¬ HasSlot set j)
known_slot set j = elim (cases_Bool (has_slot set j)) [ inl has ↦ inl has | inr none ↦ inr (λ has. false≢true (sym none ∙ has)) ]

pub WriteStep-pass : (to gone : Slots) (k : ℕ) (bytes : List ℕ) (now next : List Happening) → Wrote to gone k bytes now next
    → WriteStep (HasSlot to) (HasSlot gone) k bytes now next
WriteStep-pass to gone k bytes now next w = record {
  ran =
      ran_weakened {allowed = IsOn to (Write k bytes)} {more = IsWriteTo (HasSlot to) k bytes}
      (λ j c is. record { slot = is.0; answer = is.1.0; is = is.1.1 }) w.ran;
  known_on = known_slot to;
  known = known_slot gone;
  answered = w.answered;
  landed = λ j on fine. w.landed j (on, fine);
  written = λ j on fine. IsKept-mapped (λ s is. is.bytes_are) (w.written j (on, fine));
  others = λ j l some not_this. w.others j l some (λ done. not_this (done.0.0, done.1));
  shut = w.shut;
}

known_reply : (j i : ℕ) (answer : Reply) → ((i ≡ j) × (answer ≡ reply.Gone)) ⊎ (¬ ((i ≡ j) × (answer ≡ reply.Gone)))
known_reply j i reply.Done = inr (λ is. let e : reply.Done ≡ reply.Gone = is.1 in absurd (cc))
known_reply j i reply.Gone = elim (cases_eq i j) [ inl same ↦ inl (same, refl) | inr other ↦ inr (λ is. other is.0) ]

pub WriteStep-call : (j k : ℕ) (bytes : List ℕ) (answer : Reply) (now next : List Happening) → Calls now next j (Write k bytes answer)
    → WriteStep (λ i. i ≡ j) (λ i. (i ≡ j) × (answer ≡ reply.Gone)) k bytes now next
WriteStep-call j k bytes answer now next called = record {
  ran =
      ran_weakened {allowed = IsThis j (Write k bytes answer)} {more = IsWriteTo (λ i. i ≡ j) k bytes}
      (λ i c this. record { slot = this.0; answer = answer; is = this.1 }) (calls_ran called);
  known_on = λ i. cases_eq i j;
  known = λ i. known_reply j i answer;
  answered = λ i gone. gone.0;
  landed = λ i same fine. landed answer called i same fine;
  written = λ i same fine. written answer called i same fine;
  others = λ i l some not_this. write_others now next j k bytes answer i l called some (λ this. not_this (this.0, this.1));
  shut = λ before i gone held reach.
      let gone_call : Calls now next j (Write k bytes reply.Gone) = subst (λ r. Calls now next j (Write k bytes r)) gone.1 called in
      let here : IsOfflineUntilAttached before next j =
      write_gone now next j k bytes before gone_call (subst (λ n. IsHeld before now n) gone.0 held)
      (subst (λ n. (slot_state now n).attached ≡ true → IsTrue (has_sector (slot_state now n).size k)) gone.0 reach) in
      subst (λ n. IsOfflineUntilAttached before next n) (sym gone.0) here;
}
  where
    landed : (answer : Reply) → Calls now next j (Write k bytes answer) → (i : ℕ) → i ≡ j → (¬ ((i ≡ j) × (answer ≡ reply.Gone)))
        → Landed now next i k bytes
    landed reply.Done called i same fine = subst (λ n. Landed now next n k bytes) (sym same) (write_landed now next j k bytes called)
    landed reply.Gone called i same fine = absurd (fine (same, refl))

    written : (answer : Reply) → Calls now next j (Write k bytes answer) → (i : ℕ) → i ≡ j → (¬ ((i ≡ j) × (answer ≡ reply.Gone)))
        → ButForOutside now next i k (λ s. content s ≡ Good bytes)
    written reply.Done called i same fine =
        subst (λ n. ButForOutside now next n k (λ s. content s ≡ Good bytes)) (sym same)
        (IsKept-mapped (λ s is. is.bytes_are) (write_done now next j k bytes called))
    written reply.Gone called i same fine = absurd (fine (same, refl))

-- ONE STEP OF THE SYNCS

-- Some slots were synced, in one call or in a pass.
pub record SyncStep (on gone : ℕ → Type 0) (now next : List Happening) : Type 0 where
  pub ran : Ran (IsSyncOf on) now next
  pub known : (j : ℕ) → gone j ⊎ (¬ gone j)
  pub answered : (j : ℕ) → gone j → on j
  pub settled : (j k : ℕ) → on j → (¬ gone j) → IsSome (slot_state now j).size
      → ButForOutside now next j k (λ s. s ≡ synced ((slot_state now j).sector k))
  pub told : (j : ℕ) → on j → (¬ gone j) → WasAnswered j (Sync reply.Done) now next
  pub shut : (before : List Happening) (j : ℕ) → gone j → IsHeld before now j → IsOfflineUntilAttached before next j

pub SyncStep-pass : (to gone : Slots) (now next : List Happening) → Settled to gone now next → SyncStep (HasSlot to) (HasSlot gone) now next
SyncStep-pass to gone now next s = record {
  ran =
      ran_weakened {allowed = IsOn to Sync} {more = IsSyncOf (HasSlot to)}
      (λ j c is. record { on = is.0; answer = is.1.0; is = is.1.1 }) s.ran;
  known = known_slot gone;
  answered = s.answered;
  settled = λ j k on fine some. s.settled j k (on, fine) some;
  told = λ j on fine. s.was_synced j (on, fine);
  shut = s.shut;
}

pub SyncStep-call : (j : ℕ) (answer : Reply) (now next : List Happening) → Calls now next j (Sync answer)
    → SyncStep (λ i. i ≡ j) (λ i. (i ≡ j) × (answer ≡ reply.Gone)) now next
SyncStep-call j answer now next called = record {
  ran =
      ran_weakened {allowed = IsThis j (Sync answer)} {more = IsSyncOf (λ i. i ≡ j)}
      (λ i c this. record { on = this.0; answer = answer; is = this.1 }) (calls_ran called);
  known = λ i. known_reply j i answer;
  answered = λ i gone. gone.0;
  settled = λ i k same fine some. synced_at answer called i k same fine some;
  told = λ i same fine. told_at answer called i same fine;
  shut = λ before i gone held.
      let gone_call : Calls now next j (Sync reply.Gone) = subst (λ r. Calls now next j (Sync r)) gone.1 called in
      let here : IsOfflineUntilAttached before next j = sync_gone now next j before gone_call (subst (λ n. IsHeld before now n) gone.0 held) in
      subst (λ n. IsOfflineUntilAttached before next n) (sym gone.0) here;
}
  where
    synced_at : (answer : Reply) → Calls now next j (Sync answer) → (i k : ℕ) → i ≡ j → (¬ ((i ≡ j) × (answer ≡ reply.Gone)))
        → IsSome (slot_state now i).size → ButForOutside now next i k (λ s. s ≡ synced ((slot_state now i).sector k))
    synced_at reply.Done called i k same fine some =
        subst (λ n. ButForOutside now next n k (λ s. s ≡ synced ((slot_state now n).sector k))) (sym same)
        (sync_done now next j k called (subst (λ n. IsSome (slot_state now n).size) same some))
    synced_at reply.Gone called i k same fine some = absurd (fine (same, refl))

    told_at : (answer : Reply) → Calls now next j (Sync answer) → (i : ℕ) → i ≡ j → (¬ ((i ≡ j) × (answer ≡ reply.Gone)))
        → WasAnswered i (Sync reply.Done) now next
    told_at reply.Done called i same fine =
        subst (λ n. WasAnswered n (Sync reply.Done) now next) (sym same) (sync_told now next j called)
    told_at reply.Gone called i same fine = absurd (fine (same, refl))

-- none of them
pub SyncStep-none : (h : List Happening) → SyncStep (λ j. ⊥) (λ j. ⊥) h h
SyncStep-none h = record {
  ran = ran_none h;
  known = λ j. inr (λ gone. gone);
  answered = λ j gone. gone;
  settled = λ j k on fine some. absurd on;
  told = λ j on fine. absurd on;
  shut = λ before j gone held. absurd gone;
}

-- THE WRITES SO FAR

-- an attached slot has the sector
abbrev pub Reach : ℕ → SlotState → Type 0
Reach k b = b.attached ≡ true → IsTrue (has_sector b.size k)

reach_act : (k : ℕ) (b : SlotState) (a : SlotAct) → MayHappen b a → Reach k b → Reach k (after_act a b)
reach_act k b (Pulled m) may reach = λ attached. absurd (false≢true attached)
reach_act k b (InsertedBlank size) may reach = λ attached. absurd (false≢true (ap (λ s. has_sector s k) (sym may) ∙ reach attached))
reach_act k b (InsertedOld i) may reach =
    with_old_cases (Reach k) i (slice_get b.removed i) b reach
    (λ m attached. absurd (false≢true (ap (λ s. has_sector s k) (sym may.0) ∙ reach attached)))
reach_act k b (SectorDamaged l) may reach = reach

reach_call : (k : ℕ) (b : SlotState) (c : SlotCall) → IsBesideAttach c → Reach k b → Reach k (after_call c b)
reach_call k b (Attach answer) is reach = absurd is
reach_call k b (Sectors size) is reach = reach
reach_call k b (Read l answer) is reach = reach
reach_call k b (Write l bytes reply.Done) is reach = reach
reach_call k b (Write l bytes reply.Gone) is reach = reach
reach_call k b (Sync reply.Done) is reach = reach
reach_call k b (Sync reply.Gone) is reach = reach

-- it has it until it is attached anew
pub reach_on : {allowed : ℕ → SlotCall → Type 0} {old new : List Happening} (j k : ℕ) → ((c : SlotCall) → allowed j c → IsBesideAttach c)
    → Ran allowed old new → Reach k (slot_state old j) → Reach k (slot_state new j)
reach_on {allowed} j k beside ran start =
    kept {allowed = allowed} {P = λ h. Reach k (slot_state h j)}
    (keeps_slot {allowed = allowed} {j = j} {R = Reach k} (record {
      act = reach_act k;
      call = λ h c may is reach. reach_call k (slot_state h j) c (beside c may) reach;
    })) ran start

pub beside_writes : (what : Writes) (to : ℕ → Type 0) (j : ℕ) (c : SlotCall) → IsWriteOf what to j c → IsBesideAttach c
beside_writes what to j c is = subst IsBesideAttach (sym is.is) tt

pub beside_syncs : (to : ℕ → Type 0) (j : ℕ) (c : SlotCall) → IsSyncOf to j c → IsBesideAttach c
beside_syncs to j c is = subst IsBesideAttach (sym is.is) tt

-- none of them yet
pub writing_none : (what : Writes) (to : ℕ → Type 0) (old : List Happening) → Writing what to (λ j. ⊥) (λ j k. ⊥) old old
writing_none what to old = record {
  ran = ran_none old;
  known = λ j. inr (λ gone. gone);
  answered = λ j gone. absurd gone;
  landed = λ j k bytes made fine is. absurd made;
  done = λ j k bytes made fine is. absurd made;
  shut = λ before j gone held reach. absurd gone;
}

module _ (what : Writes) (to gone gone' on : ℕ → Type 0) (so_far : ℕ → ℕ → Type 0) (k : ℕ) (bytes : List ℕ) (old now next : List Happening)
    (w : Writing what to gone so_far old now) (step : WriteStep on gone' k bytes now next) (within : (j : ℕ) → on j → to j × (what j k ≡ Some bytes)) where
  -- one step more
  pub writing_more : Writing what to (λ j. gone j ⊎ gone' j) (λ j l. so_far j l ⊎ (on j × (l ≡ k))) old next
  writing_more = record {
    ran = ran_join w.ran step_ran;
    known = λ j.
        elim (w.known j) [
          | inl was ↦ inl (inl was)
          | inr fine ↦
              elim (step.known j) [ inl is ↦ inl (inr is) | inr fine' ↦ inr (λ gone. elim gone [ inl was ↦ fine was | inr is ↦ fine' is ]) ]
        ];
    answered = λ j is_gone. elim is_gone [ inl was ↦ w.answered j was | inr is ↦ (within j (step.answered j is)).0 ];
    landed = λ j l bytes' made fine is. landed j l bytes' made (λ was. fine (inl was)) (λ now_gone. fine (inr now_gone)) is;
    done = λ j l bytes' made fine is. done j l bytes' made (λ was. fine (inl was)) (λ now_gone. fine (inr now_gone)) is;
    shut = λ before j is_gone held reach.
        elim is_gone [
          | inl was ↦ offline_on {allowed = IsWriteOf what to} j (beside_writes what to j) step_ran (w.shut before j was held reach)
          | inr is ↦ shut_now before j is held reach
        ];
  }
    where
      step_ran : Ran (IsWriteOf what to) now next
      step_ran =
          ran_weakened {allowed = IsWriteTo on k bytes} {more = IsWriteOf what to}
          (λ j c is. record {
            on = (within j is.slot).0;
            sector = k;
            bytes = bytes;
            answer = is.answer;
            is_one = (within j is.slot).1;
            is = is.is;
          }) step.ran

      -- what is asked for is what was written
      same_bytes : (j l : ℕ) (bytes' : List ℕ) → on j → l ≡ k → what j l ≡ Some bytes' → bytes ≡ bytes'
      same_bytes j l bytes' is_on at is = let both : Some bytes ≡ Some bytes' = sym (within j is_on).1 ∙ ap (what j) (sym at) ∙ is in cc

      landed : (j l : ℕ) (bytes' : List ℕ) → so_far j l ⊎ (on j × (l ≡ k)) → (¬ gone j) → (¬ gone' j) → what j l ≡ Some bytes'
          → Landed old next j l bytes'
      landed j l bytes' (inl made) fine fine' is =
          at_some_wider {a = any_call} {b = IsWriteOf what to} {P = λ h. content ((slot_state h j).sector l) ≡ Good bytes'}
          (ran_none old) step_ran (w.landed j l bytes' made fine is)
      landed j l bytes' (inr this) fine fine' is =
          subst (λ n. Landed old next j n bytes') (sym this.1)
          (subst (Landed old next j k) (same_bytes j l bytes' this.0 this.1 is)
          (at_some_wider {a = IsWriteOf what to} {b = any_call} {P = λ h. content ((slot_state h j).sector k) ≡ Good bytes}
          w.ran (ran_none next) (step.landed j this.0 fine')))

      earlier : (j l : ℕ) (bytes' : List ℕ) → so_far j l → (¬ gone j) → what j l ≡ Some bytes' → (¬ (on j × (l ≡ k)))
          → ButForOutside old next j l (λ s. content s ≡ Good bytes')
      earlier j l bytes' made fine is not_this =
          IsKept-onward {P = λ s. content s ≡ Good bytes'} {Q = λ s. s ≡ (slot_state now j).sector l} {R = λ s. content s ≡ Good bytes'}
          (pulls_on {allowed = IsWriteOf what to} j step_ran) (w.done j l bytes' made fine is) (λ some. step.others j l some not_this)
          (λ s before same. elim before [ inl was ↦ inl (same ∙ was) | inr was ↦ inr (ap content same ∙ was) ])

      just_now : (j l : ℕ) (bytes' : List ℕ) → on j → l ≡ k → (¬ gone' j) → what j l ≡ Some bytes' → ButForOutside old next j l (λ s. content s ≡ Good bytes')
      just_now j l bytes' is_on at fine is =
          let same : bytes ≡ bytes' = same_bytes j l bytes' is_on at is in
          subst (λ n. ButForOutside old next j n (λ s. content s ≡ Good bytes')) (sym at)
          (IsKept-since (pulls_on {allowed = IsWriteOf what to} j w.ran)
          (IsKept-mapped (λ s reads. reads ∙ ap Good same) (step.written j is_on fine)))

      done : (j l : ℕ) (bytes' : List ℕ) → so_far j l ⊎ (on j × (l ≡ k)) → (¬ gone j) → (¬ gone' j) → what j l ≡ Some bytes'
          → ButForOutside old next j l (λ s. content s ≡ Good bytes')
      done j l bytes' (inr this) fine fine' is = just_now j l bytes' this.0 this.1 fine' is
      done j l bytes' (inl made) fine fine' is =
          elim (cases_eq l k) [
            | inl at ↦
                elim (step.known_on j) [
                  | inl is_on ↦ just_now j l bytes' is_on at fine' is
                  | inr off ↦ earlier j l bytes' made fine is (λ this. off this.0)
                ]
            | inr other ↦ earlier j l bytes' made fine is (λ this. other this.1)
          ]

      shut_now : (before : List Happening) (j : ℕ) → gone' j → IsHeld before old j
          → ((slot_state old j).attached ≡ true → (l : ℕ) (bytes' : List ℕ) → what j l ≡ Some bytes' → IsTrue (has_sector (slot_state old j).size l))
          → IsOfflineUntilAttached before next j
      shut_now before j is held reach =
          let is_on = step.answered j is in
          step.shut before j is (held_on {allowed = IsWriteOf what to} j w.ran held)
          (reach_on {allowed = IsWriteOf what to} j k (beside_writes what to j) w.ran (λ attached. reach attached k bytes (within j is_on).1))

-- the same slots were gone, and no more writes are asked for
pub Writing-same : {what : Writes} {to gone gone' : ℕ → Type 0} {so_far so_far' : ℕ → ℕ → Type 0} {old now : List Happening}
    → ((j : ℕ) → gone j ↔ gone' j) → ((j k : ℕ) → so_far' j k → so_far j k) → Writing what to gone so_far old now
    → Writing what to gone' so_far' old now
Writing-same same fewer w = record {
  ran = w.ran;
  known = λ j. elim (w.known j) [ inl was ↦ inl ((same j).0 was) | inr fine ↦ inr (λ is. fine ((same j).1 is)) ];
  answered = λ j is. w.answered j ((same j).1 is);
  landed = λ j k bytes made fine is. w.landed j k bytes (fewer j k made) (λ was. fine ((same j).0 was)) is;
  done = λ j k bytes made fine is. w.done j k bytes (fewer j k made) (λ was. fine ((same j).0 was)) is;
  shut = λ before j is held reach. w.shut before j ((same j).1 is) held reach;
}
