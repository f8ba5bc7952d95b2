-- Stretches of a phase's writes that join, and the phase that they make with its syncs.
use Rattle.std.proofs.Common.{◌≡◌, ℕ, true, List, ◌⊎◌, inl, inr, sym, ap, ◌∙◌, Some}
use Rattle.std.specs.Prelude.{◌↔◌, IsTrue}
use Rattle.stair_model.specs.Slots.{Slots, HasSlot}
use Rattle.stair_rack.specs.Sector.{Good, Sector, content}
use Rattle.stair_rack.specs.Media.{has_sector}
use Rattle.stair_rack.specs.History.{Write, Sync, Happening, slot_state}
use Rattle.stair_rack.specs.Answers.{Calls, Ran, any_call}
use Rattle.stair_rack.specs.Offline.{IsKept, ButForOutside, IsHeld, IsOfflineUntilAttached}
use Rattle.stair_rack.specs.Passes.{Landed, Wrote}
use Rattle.stair_rack.specs.Placed.{Writes, IsSlot, IsGoneSlot, IsWriteOf, Placed, EndsPhase}
use Rattle.stair_rack.specs.Writing.{Writing}
use Rattle.stair_rack.specs.declared.rack.Reply.{Reply}
use Rattle.stair_rack.specs.declared.rack.Reply.TheVariants as reply
use Rattle.stair_rack.proofs.StepLemmas.{kept}
use Rattle.stair_rack.proofs.MomentLemmas.{ran_none, ran_join, ran_weakened, at_some_wider}
use Rattle.stair_rack.proofs.KeptLemmas.{keeps_sector, IsKept-since}
use Rattle.stair_rack.proofs.OfflineLemmas.{pulls_on, held_on, offline_on}
use Rattle.stair_rack.proofs.WritingLemmas.{writing_none, writing_more, Writing-same, WriteStep, WriteStep-call, WriteStep-pass, SyncStep-pass, reach_on, beside_writes}
use Rattle.stair_rack.proofs.PlacedLemmas.{Placed-from, Placed-same}

-- ONE STEP ALONE

module _ (what : Writes) (to gone on : ℕ → Type 0) (k : ℕ) (bytes : List ℕ) (old new : List Happening) where
  pub writing_step : WriteStep on gone k bytes old new → ((j : ℕ) → on j → to j × (what j k ≡ Some bytes))
      → Writing what to gone (λ j l. on j × (l ≡ k)) old new
  writing_step step within =
      Writing-same (λ j. (only j, λ is. inr is)) (λ j l this. inr this)
      (writing_more what to (λ j. ⊥) gone on (λ j l. ⊥) k bytes old old new (writing_none what to old) step within)
    where
      only : (j : ℕ) → ⊥ ⊎ gone j → gone j
      only j (inl never) = absurd never
      only j (inr is) = is

-- one call
pub writing_one : (what : Writes) (j k : ℕ) (bytes : List ℕ) (answer : Reply) (old new : List Happening) → Calls old new j (Write k bytes answer)
    → what j k ≡ Some bytes → Writing what (IsSlot j) (IsGoneSlot j answer) (λ i l. (i ≡ j) × (l ≡ k)) old new
writing_one what j k bytes answer old new called is =
    writing_step what (IsSlot j) (IsGoneSlot j answer) (IsSlot j) k bytes old new (WriteStep-call j k bytes answer old new called)
    (λ i same. (same, ap (λ n. what n k) same ∙ is))

-- one pass
pub writing_pass : (what : Writes) (to gone : Slots) (k : ℕ) (bytes : List ℕ) (old new : List Happening) → Wrote to gone k bytes old new
    → ((j : ℕ) → HasSlot to j → what j k ≡ Some bytes) → Writing what (HasSlot to) (HasSlot gone) (λ j l. HasSlot to j × (l ≡ k)) old new
writing_pass what to gone k bytes old new w is =
    writing_step what (HasSlot to) (HasSlot gone) (HasSlot to) k bytes old new (WriteStep-pass to gone k bytes old new w) (λ j on. (on, is j on))

-- WIDER STRETCHES

write_within : {what : Writes} {to to' : ℕ → Type 0} {old new : List Happening} → ((j : ℕ) → to j → to' j)
    → Ran (IsWriteOf what to) old new → Ran (IsWriteOf what to') old new
write_within {what} {to} {to'} within ran =
    ran_weakened {allowed = IsWriteOf what to} {more = IsWriteOf what to'}
    (λ j c is. record {
      on = within j is.on;
      sector = is.sector;
      bytes = is.bytes;
      answer = is.answer;
      is_one = is.is_one;
      is = is.is;
    }) ran

-- on more slots
pub Writing-wider : {what : Writes} {to to' gone : ℕ → Type 0} {so_far : ℕ → ℕ → Type 0} {old now : List Happening} → ((j : ℕ) → to j → to' j)
    → Writing what to gone so_far old now → Writing what to' gone so_far old now
Writing-wider within w = record {
  ran = write_within within w.ran;
  known = w.known;
  answered = λ j is. within j (w.answered j is);
  landed = w.landed;
  done = w.done;
  shut = w.shut;
}

-- what isn't asked for, as on a slot that was gone, need not be made
pub Writing-asked : {what : Writes} {to gone : ℕ → Type 0} {so_far made : ℕ → ℕ → Type 0} {old now : List Happening}
    → ((j k : ℕ) (bytes : List ℕ) → made j k → (¬ gone j) → what j k ≡ Some bytes → so_far j k) → Writing what to gone so_far old now
    → Writing what to gone made old now
Writing-asked asked w = record {
  ran = w.ran;
  known = w.known;
  answered = w.answered;
  landed = λ j k bytes made fine is. w.landed j k bytes (asked j k bytes made fine is) fine is;
  done = λ j k bytes made fine is. w.done j k bytes (asked j k bytes made fine is) fine is;
  shut = w.shut;
}

-- TWO STRETCHES

-- what was written is still so after more of the writes
written_on : {what : Writes} {to : ℕ → Type 0} (old mid new : List Happening) (j k : ℕ) (bytes : List ℕ) → what j k ≡ Some bytes
    → Ran (IsWriteOf what to) mid new → ButForOutside old mid j k (λ s. content s ≡ Good bytes) → ButForOutside old new j k (λ s. content s ≡ Good bytes)
written_on {what} {to} old mid new j k bytes is ran before =
    let P : Sector → Type 0 = λ s. content s ≡ Good bytes in
    let pulls = (slot_state old j).pulls in
    kept {allowed = IsWriteOf what to} {P = λ h. IsKept pulls k P (slot_state h j)}
    (keeps_sector {allowed = IsWriteOf what to} {j = j} {k = k} {P = P} pulls (record {
      write = λ bytes' s may holds.
          let same : Write k bytes' reply.Done ≡ Write may.sector may.bytes may.answer = may.is in
          let this : what j k ≡ Some bytes' = cc in
          let both : Some bytes' ≡ Some bytes = sym this ∙ is in
          let same_bytes : bytes' ≡ bytes = cc in
          ap Good same_bytes;
      sync = λ s may holds. let same : Sync reply.Done ≡ Write may.sector may.bytes may.answer = may.is in absurd (cc);
    })) ran before

module _ {what : Writes} {to to' gone gone' : ℕ → Type 0} {so_far so_far' : ℕ → ℕ → Type 0} {old mid new : List Happening}
    (w : Writing what to gone so_far old mid) (w' : Writing what to' gone' so_far' mid new) where
  join_landed : (j k : ℕ) (bytes : List ℕ) → so_far j k ⊎ so_far' j k → (¬ (gone j ⊎ gone' j)) → what j k ≡ Some bytes → Landed old new j k bytes
  join_landed j k bytes (inl made) fine is =
      at_some_wider {a = any_call} {b = IsWriteOf what to'} {P = λ h. content ((slot_state h j).sector k) ≡ Good bytes}
      (ran_none old) w'.ran (w.landed j k bytes made (λ was. fine (inl was)) is)
  join_landed j k bytes (inr made) fine is =
      at_some_wider {a = IsWriteOf what to} {b = any_call} {P = λ h. content ((slot_state h j).sector k) ≡ Good bytes}
      w.ran (ran_none new) (w'.landed j k bytes made (λ was. fine (inr was)) is)

  join_done : (j k : ℕ) (bytes : List ℕ) → so_far j k ⊎ so_far' j k → (¬ (gone j ⊎ gone' j)) → what j k ≡ Some bytes
      → ButForOutside old new j k (λ s. content s ≡ Good bytes)
  join_done j k bytes (inl made) fine is = written_on old mid new j k bytes is w'.ran (w.done j k bytes made (λ was. fine (inl was)) is)
  join_done j k bytes (inr made) fine is =
      IsKept-since (pulls_on {allowed = IsWriteOf what to} j w.ran) (w'.done j k bytes made (λ was. fine (inr was)) is)

  join_shut : (before : List Happening) (j : ℕ) → gone j ⊎ gone' j → IsHeld before old j
      → ((slot_state old j).attached ≡ true → (k : ℕ) (bytes : List ℕ) → what j k ≡ Some bytes → IsTrue (has_sector (slot_state old j).size k))
      → IsOfflineUntilAttached before new j
  join_shut before j (inl was) held reach =
      offline_on {allowed = IsWriteOf what to'} j (beside_writes what to' j) w'.ran (w.shut before j was held reach)
  join_shut before j (inr is) held reach =
      w'.shut before j is (held_on {allowed = IsWriteOf what to} j w.ran held)
      (λ attached k bytes one.
      reach_on {allowed = IsWriteOf what to} j k (beside_writes what to j) w.ran (λ was_attached. reach was_attached k bytes one) attached)

  -- one after the other
  pub writing_join : Writing what (λ j. to j ⊎ to' j) (λ j. gone j ⊎ gone' j) (λ j k. so_far j k ⊎ so_far' j k) old new
  writing_join = record {
    ran = ran_join (write_within (λ j on. inl on) w.ran) (write_within (λ j on. inr on) w'.ran);
    known = λ j.
        elim (w.known j) [
          | inl was ↦ inl (inl was)
          | inr fine ↦
              elim (w'.known j) [ inl is ↦ inl (inr is) | inr fine' ↦ inr (λ is_gone. elim is_gone [ inl was ↦ fine was | inr is ↦ fine' is ]) ]
        ];
    answered = λ j is_gone. elim is_gone [ inl was ↦ inl (w.answered j was) | inr is ↦ inr (w'.answered j is) ];
    landed = join_landed;
    done = join_done;
    shut = join_shut;
  }

-- more of the same slots' writes
pub writing_then : {what : Writes} {to to' gone gone' all : ℕ → Type 0} {so_far so_far' made : ℕ → ℕ → Type 0} {old mid new : List Happening}
    → ((j : ℕ) → to' j → to j) → ((j : ℕ) → (gone j ⊎ gone' j) ↔ all j) → ((j k : ℕ) → made j k → so_far j k ⊎ so_far' j k)
    → Writing what to gone so_far old mid → Writing what to' gone' so_far' mid new → Writing what to all made old new
writing_then within gone_are made w w' =
    Writing-same gone_are made (Writing-wider (λ j on. elim on [ inl is ↦ is | inr is ↦ within j is ]) (writing_join w w'))

-- THE PHASE

-- all the writes that aren't of slots that were gone, and the phase's end
pub Placed-ended : {what : Writes} {to gone all : Slots} {so_far : ℕ → ℕ → Type 0} {old mid new : List Happening}
    → Writing what (HasSlot to) (HasSlot gone) so_far old mid
    → ((j k : ℕ) (bytes : List ℕ) → HasSlot to j → (¬ HasSlot gone j) → what j k ≡ Some bytes → so_far j k)
    → EndsPhase to gone all mid new → Placed what (HasSlot to) (HasSlot all) old new
Placed-ended {what} {to} {gone} {all} {so_far} {old} {mid} {new} w made ends =
    Placed-same (λ j. ((ends.all_are j).1, (ends.all_are j).0))
    (Placed-from what (HasSlot to) (HasSlot gone) (HasSlot ends.rest) (HasSlot ends.last) (λ j k. so_far j k ⊎ HasSlot gone j) old mid new
    (Writing-asked unless_gone w) each (SyncStep-pass ends.rest ends.last mid new ends.settled) (λ j on. ((ends.rest_are j).0 on).0)
    (λ j on fine. (ends.rest_are j).1 (on, fine)))
  where
    unless_gone : (j k : ℕ) (bytes : List ℕ) → so_far j k ⊎ HasSlot gone j → (¬ HasSlot gone j) → what j k ≡ Some bytes → so_far j k
    unless_gone j k bytes (inl is) fine one = is
    unless_gone j k bytes (inr was) fine one = absurd (fine was)

    each : (j k : ℕ) (bytes : List ℕ) → HasSlot to j → what j k ≡ Some bytes → so_far j k ⊎ HasSlot gone j
    each j k bytes on is = elim (w.known j) [ inl was ↦ inr was | inr fine ↦ inl (made j k bytes on fine is) ]
