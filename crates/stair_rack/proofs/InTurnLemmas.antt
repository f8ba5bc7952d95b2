-- Phases of one slot each that join.
use Rattle.std.proofs.Common.{◌≡◌, ◌≢◌, ℕ, true, List, [], ◌⊎◌, inl, inr, refl, sym, ap, ◌∙◌, subst, Option, None, Some}
use Rattle.std.specs.Prelude.{◌↔◌, IsTrue, IsSome}
use Rattle.std.proofs.lemmas.Bool.{cases_eq}
use Rattle.stair_rack.specs.Sector.{Cell, Good, Sector, settled, damaged, content, synced, MayLeave, Leaves}
use Rattle.stair_rack.specs.Media.{has_sector}
use Rattle.stair_rack.specs.History.{SlotCall, Write, Sync, Happening, slot_state}
use Rattle.stair_rack.specs.Answers.{Ran, any_call, IsBesideAttach}
use Rattle.stair_rack.specs.Moments.{IsMoment, AtEveryMoment}
use Rattle.stair_rack.specs.Offline.{IsKept, ButForOutside, IsHeld, IsOfflineUntilAttached}
use Rattle.stair_rack.specs.Passes.{Landed}
use Rattle.stair_rack.specs.Placed.{Writes, IsSlot, IsWriteOf, IsSyncOf, IsOver, MayLeaveIn, AsBefore, ByOutside, Cut, MayBeUnder, Before, Content, Placed}
use Rattle.stair_rack.specs.PlacedInTurn.{IsPlacing, AWrite, ASync, IsTouched, IsPlaced, IsLast, PlacedInTurn}
use Rattle.stair_rack.specs.declared.rack.Reply.TheVariants as reply
use Rattle.stair_rack.proofs.StepLemmas.{kept}
use Rattle.stair_rack.proofs.MomentLemmas.{ran_none, ran_join, ran_weakened, ran_before, at_some_wider, at_every_none, at_every_join, at_every_mapped, at_every_from, at_moment, at_last}
use Rattle.stair_rack.proofs.KeptLemmas.{keeps_sector, IsKept-mapped, IsKept-now, IsKept-onward, IsKept-since}
use Rattle.stair_rack.proofs.OfflineLemmas.{pulls_on, held_on}
use Rattle.stair_rack.proofs.CrashLemmas.{Leaves-mapped}
use Rattle.stair_rack.proofs.WritingLemmas.{reach_on}

-- what a crash may leave of a sector that is as it was, or that the outside damaged, and of more slots
over_on : (x was : Sector) → (x ≡ damaged) ⊎ (x ≡ was) → (cell : Cell) → IsOver x cell → IsOver was cell
over_on x was (inl is) cell (inl base) = inr (base ∙ ap (λ (s : Sector). s.base) is)
over_on x was (inr is) cell (inl base) = inl (base ∙ ap (λ (s : Sector). s.base) is)
over_on x was same cell (inr is) = inr is

may_leave_on : (what : Writes) (to to' : ℕ → Type 0) (j k : ℕ) (x was : Sector) → (to j → to' j) → (x ≡ damaged) ⊎ (x ≡ was) → (cell : Cell)
    → MayLeaveIn what to j k x cell → MayLeaveIn what to' j k was cell
may_leave_on what to to' j k x was within (inl is) cell (AsBefore left) = ByOutside (subst (λ s. MayLeave s cell) is left)
may_leave_on what to to' j k x was within (inr is) cell (AsBefore left) = AsBefore (subst (λ s. MayLeave s cell) is left)
may_leave_on what to to' j k x was within same cell (ByOutside is) = ByOutside is
may_leave_on what to to' j k x was within same cell (MayLeaveIn.New bytes on one is) = MayLeaveIn.New bytes (within on) one is
may_leave_on what to to' j k x was within same cell (Cut bytes under on one over is) = Cut bytes under (within on) one (over_on x was same under over) is

may_be_under_on : (what : Writes) (to to' : ℕ → Type 0) (j k : ℕ) (x was : Sector) → (to j → to' j) → (x ≡ damaged) ⊎ (x ≡ was) → (cell : Cell)
    → MayBeUnder what to j k x cell → MayBeUnder what to' j k was cell
may_be_under_on what to to' j k x was within same cell (Before over) = Before (over_on x was same cell over)
may_be_under_on what to to' j k x was within (inl is) cell (Content on at) = Before (inr (at ∙ ap content is))
may_be_under_on what to to' j k x was within (inr is) cell (Content on at) = Content (within on) (at ∙ ap content is)
may_be_under_on what to to' j k x was within same cell (MayBeUnder.New bytes on one is) = MayBeUnder.New bytes (within on) one is

-- more slots
placing_on : (what : Writes) (on on' : ℕ → Type 0) → ((j : ℕ) → on j → on' j) → (j : ℕ) (c : SlotCall) → IsPlacing what on j c → IsPlacing what on' j c
placing_on what on on' within j c (AWrite is) =
    AWrite (record { on = within j is.on; sector = is.sector; bytes = is.bytes; answer = is.answer; is_one = is.is_one; is = is.is })
placing_on what on on' within j c (ASync is) = ASync (record { on = within j is.on; answer = is.answer; is = is.is })

placing_beside : (what : Writes) (on : ℕ → Type 0) (j : ℕ) (c : SlotCall) → IsPlacing what on j c → IsBesideAttach c
placing_beside what on j c (AWrite is) = subst IsBesideAttach (sym is.is) tt
placing_beside what on j c (ASync is) = subst IsBesideAttach (sym is.is) tt

placing_slot : (what : Writes) (on : ℕ → Type 0) (j : ℕ) (c : SlotCall) → IsPlacing what on j c → on j
placing_slot what on j c (AWrite is) = is.on
placing_slot what on j c (ASync is) = is.on

-- a phase's calls
pub phase_placing : {what : Writes} {to gone : ℕ → Type 0} {old new : List Happening} → Placed what to gone old new → Ran (IsPlacing what to) old new
phase_placing {what} {to} phase =
    ran_join (ran_weakened {allowed = IsWriteOf what to} {more = IsPlacing what to} (λ j c is. AWrite is) phase.writes)
    (ran_weakened {allowed = IsSyncOf to} {more = IsPlacing what to} (λ j c is. ASync is) phase.syncs)

-- NO PHASE YET

pub in_turn_none : (what : Writes) (old : List Happening) → PlacedInTurn what (λ j. ⊥) None old old
in_turn_none what old = record {
  ran = ran_none old;
  apart = λ j is placed. placed;
  landed = λ j k bytes placed is. absurd placed;
  done = λ j k bytes placed is. absurd placed;
  rest = λ j k some placed none. absurd placed;
  others = λ j k some off. IsKept-now old j k some;
  meanwhile =
      at_every_none
      {P = λ h. (j k : ℕ) → IsSome (slot_state old j).size
      → ButForOutside old h j k (Leaves (MayLeaveIn what (IsTouched (λ i. ⊥) None) j k ((slot_state old j).sector k))
      (MayBeUnder what (IsTouched (λ i. ⊥) None) j k ((slot_state old j).sector k)))} old
      (λ j k some.
      IsKept-mapped {P = λ s. s ≡ (slot_state old j).sector k}
      (λ s is.
      subst (Leaves (MayLeaveIn what (IsTouched (λ i. ⊥) None) j k ((slot_state old j).sector k))
      (MayBeUnder what (IsTouched (λ i. ⊥) None) j k ((slot_state old j).sector k))) (sym is)
      (record { each = λ cell left. AsBefore left; base = Before (inl refl) })) (IsKept-now old j k some));
  shut = λ before j is held reach. let never : None ≡ Some j = is in absurd (cc);
}

-- ONE PHASE MORE

module _ (what : Writes) (placed placed' gone' : ℕ → Type 0) (gone : Option ℕ) (j : ℕ) (old now next : List Happening)
    (t : PlacedInTurn what placed None old now) (p : Placed what (IsSlot j) gone' now next) (apart : ¬ placed j)
    (still : (i : ℕ) → placed i → placed' i) (on : IsTouched placed' gone j) (each : (i : ℕ) → placed' i → placed i ⊎ ((i ≡ j) × (¬ gone' i)))
    (last : (i : ℕ) → gone ≡ Some i → (i ≡ j) × gone' i) where
  touched_still : (i : ℕ) → IsTouched placed None i → IsTouched placed' gone i
  touched_still i (IsPlaced is) = IsPlaced (still i is)
  touched_still i (IsLast is) = absurd (cc)

  untouched : (i : ℕ) → i ≡ j → ¬ IsTouched placed None i
  untouched i same (IsPlaced is) = apart (subst placed same is)
  untouched i same (IsLast is) = absurd (cc)

  here_on : (i : ℕ) → i ≡ j → IsTouched placed' gone i
  here_on i same = subst (IsTouched placed' gone) (sym same) on

  step_here : Ran (IsPlacing what (IsSlot j)) now next
  step_here = phase_placing p

  step_ran : Ran (IsPlacing what (IsTouched placed' gone)) now next
  step_ran =
      ran_weakened {allowed = IsPlacing what (IsSlot j)} {more = IsPlacing what (IsTouched placed' gone)}
      (placing_on what (IsSlot j) (IsTouched placed' gone) here_on) step_here

  first_ran : Ran (IsPlacing what (IsTouched placed' gone)) old now
  first_ran =
      ran_weakened {allowed = IsPlacing what (IsTouched placed None)} {more = IsPlacing what (IsTouched placed' gone)}
      (placing_on what (IsTouched placed None) (IsTouched placed' gone) touched_still) t.ran

  -- what is known of another slot
  onward : (P : Sector → Type 0) (i k : ℕ) → i ≢ j → ButForOutside old now i k P → ButForOutside old next i k P
  onward P i k other before =
      IsKept-onward {P = P} {Q = λ s. s ≡ (slot_state now i).sector k} {R = P}
      (pulls_on {allowed = IsPlacing what (IsTouched placed' gone)} i step_ran) before (λ some. p.others i k some other)
      (λ s was same. elim was [ inl is ↦ inl (same ∙ is) | inr holds ↦ inr (subst P (sym same) holds) ])

  other_slot : (i : ℕ) → placed i → i ≢ j
  other_slot i is same = apart (subst placed same is)

  step_landed : (i k : ℕ) (bytes : List ℕ) → placed' i → what i k ≡ Some bytes → Landed old next i k bytes
  step_landed i k bytes is_placed is =
      elim (each i is_placed) [
        | inl before ↦
            at_some_wider {a = any_call} {b = IsPlacing what (IsTouched placed' gone)} {P = λ h. content ((slot_state h i).sector k) ≡ Good bytes}
            (ran_none old) step_ran (t.landed i k bytes before is)
        | inr here ↦
            at_some_wider {a = IsPlacing what (IsTouched placed' gone)} {b = any_call} {P = λ h. content ((slot_state h i).sector k) ≡ Good bytes}
            first_ran (ran_none next) (p.landed i k bytes here.0 here.1 is)
      ]

  step_done : (i k : ℕ) (bytes : List ℕ) → placed' i → what i k ≡ Some bytes → ButForOutside old next i k (λ s. s ≡ settled (Good bytes))
  step_done i k bytes is_placed is =
      elim (each i is_placed) [
        | inl before ↦ onward (λ s. s ≡ settled (Good bytes)) i k (other_slot i before) (t.done i k bytes before is)
        | inr here ↦
            IsKept-since (pulls_on {allowed = IsPlacing what (IsTouched placed' gone)} i first_ran) (p.done i k bytes here.0 here.1 is)
      ]

  step_rest : (i k : ℕ) → IsSome (slot_state old i).size → placed' i → what i k ≡ None
      → ButForOutside old next i k (λ s. s ≡ synced ((slot_state old i).sector k))
  step_rest i k some is_placed none =
      let was = (slot_state old i).sector k in
      elim (each i is_placed) [
        | inl before ↦ onward (λ s. s ≡ synced was) i k (other_slot i before) (t.rest i k some before none)
        | inr here ↦
            IsKept-onward {P = λ s. s ≡ was} {Q = λ s. s ≡ synced ((slot_state now i).sector k)} {R = λ s. s ≡ synced was}
            (pulls_on {allowed = IsPlacing what (IsTouched placed' gone)} i step_ran) (t.others i k some (untouched i here.0))
            (λ some'. p.rest i k some' here.0 here.1 none)
            (λ s before same. elim before [ inl is ↦ inl (same ∙ ap synced is) | inr is ↦ inr (same ∙ ap synced is) ])
      ]

  step_others : (i k : ℕ) → IsSome (slot_state old i).size → (¬ IsTouched placed' gone i)
      → ButForOutside old next i k (λ s. s ≡ (slot_state old i).sector k)
  step_others i k some off =
      onward (λ s. s ≡ (slot_state old i).sector k) i k (λ same. off (here_on i same))
      (t.others i k some (λ was. off (touched_still i was)))

  -- what a crash may leave of a sector in the whole
  abbrev LeavesSo : (i k : ℕ) → Sector → Type 0
  LeavesSo i k =
      Leaves (MayLeaveIn what (IsTouched placed' gone) i k ((slot_state old i).sector k))
      (MayBeUnder what (IsTouched placed' gone) i k ((slot_state old i).sector k))

  meanwhile_first : AtEveryMoment (λ h. (i k : ℕ) → IsSome (slot_state old i).size → ButForOutside old h i k (LeavesSo i k)) old now
  meanwhile_first =
      at_every_mapped
      {P = λ h. (i k : ℕ) → IsSome (slot_state old i).size
      → ButForOutside old h i k (Leaves (MayLeaveIn what (IsTouched placed None) i k ((slot_state old i).sector k))
      (MayBeUnder what (IsTouched placed None) i k ((slot_state old i).sector k)))}
      {Q = λ h. (i k : ℕ) → IsSome (slot_state old i).size → ButForOutside old h i k (LeavesSo i k)}
      (λ h before i k some.
      let was = (slot_state old i).sector k in
      IsKept-mapped
      (λ s leaves.
      Leaves-mapped (may_leave_on what (IsTouched placed None) (IsTouched placed' gone) i k was was (touched_still i) (inr refl))
      (may_be_under_on what (IsTouched placed None) (IsTouched placed' gone) i k was was (touched_still i) (inr refl)) leaves) (before i k some)) t.meanwhile

  -- a slot that isn't this one, in its phase
  meanwhile_elsewhere : (h : List Happening) → IsMoment now h next → (i k : ℕ) → i ≢ j → IsSome (slot_state old i).size
      → ButForOutside old h i k (LeavesSo i k)
  meanwhile_elsewhere h moment i k other some =
      let pulls = (slot_state old i).pulls in
      let start : ButForOutside old now i k (LeavesSo i k) =
      at_last {P = λ g. (i k : ℕ) → IsSome (slot_state old i).size → ButForOutside old g i k (LeavesSo i k)} meanwhile_first i k some in
      let ran = ran_before {allowed = IsPlacing what (IsSlot j)} step_here moment in
      kept {allowed = IsPlacing what (IsSlot j)} {P = λ g. IsKept pulls k (LeavesSo i k) (slot_state g i)}
      (keeps_sector {allowed = IsPlacing what (IsSlot j)} {j = i} {k = k} {P = LeavesSo i k} pulls (record {
        write = λ bytes s may before. absurd (other (placing_slot what (IsSlot j) i (Write k bytes reply.Done) may));
        sync = λ s may before. absurd (other (placing_slot what (IsSlot j) i (Sync reply.Done) may));
      })) ran start

  -- and this one
  meanwhile_here : (h : List Happening) → IsMoment now h next → (i k : ℕ) → i ≡ j → IsSome (slot_state old i).size → ButForOutside old h i k (LeavesSo i k)
  meanwhile_here h moment i k same some =
      let was = (slot_state old i).sector k in
      let x = (slot_state now i).sector k in
      let ran = ran_before {allowed = IsPlacing what (IsSlot j)} step_here moment in
      IsKept-onward {P = λ s. s ≡ was} {Q = Leaves (MayLeaveIn what (IsSlot j) i k x) (MayBeUnder what (IsSlot j) i k x)} {R = LeavesSo i k}
      (pulls_on {allowed = IsPlacing what (IsSlot j)} i ran) (t.others i k some (untouched i same))
      (λ some'.
      at_moment
      {P = λ g. (i k : ℕ) → IsSome (slot_state now i).size
      → ButForOutside now g i k (Leaves (MayLeaveIn what (IsSlot j) i k ((slot_state now i).sector k))
      (MayBeUnder what (IsSlot j) i k ((slot_state now i).sector k)))} p.meanwhile moment i k some')
      (λ s before leaves.
      inr
      (Leaves-mapped (may_leave_on what (IsSlot j) (IsTouched placed' gone) i k x was (here_on i) before)
      (may_be_under_on what (IsSlot j) (IsTouched placed' gone) i k x was (here_on i) before) leaves))

  step_meanwhile : AtEveryMoment (λ h. (i k : ℕ) → IsSome (slot_state old i).size → ButForOutside old h i k (LeavesSo i k)) old next
  step_meanwhile =
      at_every_join {P = λ h. (i k : ℕ) → IsSome (slot_state old i).size → ButForOutside old h i k (LeavesSo i k)} meanwhile_first
      (at_every_from {P = λ h. (i k : ℕ) → IsSome (slot_state old i).size → ButForOutside old h i k (LeavesSo i k)} step_here.more step_here.is
      (λ h moment i k some.
      elim (cases_eq i j) [
        | inl same ↦ meanwhile_here h moment i k same some
        | inr other ↦ meanwhile_elsewhere h moment i k other some
      ]))

  step_shut : (before : List Happening) (i : ℕ) → gone ≡ Some i → IsHeld before old i
      → ((slot_state old i).attached ≡ true → (k : ℕ) (bytes : List ℕ) → what i k ≡ Some bytes → IsTrue (has_sector (slot_state old i).size k))
      → IsOfflineUntilAttached before next i
  step_shut before i is_last held reach =
      let here = last i is_last in
      p.shut before i here.1 (held_on {allowed = IsPlacing what (IsTouched placed' gone)} i first_ran held)
      (λ attached k bytes is.
      reach_on {allowed = IsPlacing what (IsTouched placed' gone)} i k (placing_beside what (IsTouched placed' gone) i) first_ran
      (λ was. reach was k bytes is) attached)

  pub in_turn_step : PlacedInTurn what placed' gone old next
  in_turn_step = record {
    ran = ran_join first_ran step_ran;
    apart = λ i is_last is_placed.
        elim (each i is_placed) [
          | inl before ↦ apart (subst placed (last i is_last).0 before)
          | inr here ↦ here.1 (last i is_last).1
        ];
    landed = step_landed;
    done = step_done;
    rest = step_rest;
    others = step_others;
    meanwhile = step_meanwhile;
    shut = step_shut;
  }

-- the next slot's phase, where it wasn't gone
pub in_turn_more : (what : Writes) (placed gone' : ℕ → Type 0) (j : ℕ) (old now next : List Happening) → PlacedInTurn what placed None old now
    → Placed what (IsSlot j) gone' now next → (¬ placed j) → (¬ gone' j) → PlacedInTurn what (λ i. placed i ⊎ (i ≡ j)) None old next
in_turn_more what placed gone' j old now next t p apart fine =
    in_turn_step what placed (λ i. placed i ⊎ (i ≡ j)) gone' None j old now next t p apart (λ i is. inl is) (IsPlaced (inr refl))
    (λ i is. elim is [ inl before ↦ inl before | inr same ↦ inr (same, λ is_gone. fine (subst gone' same is_gone)) ])
    (λ i is. let never : None ≡ Some i = is in absurd (cc))

-- and where it was, at which the phases stop
pub in_turn_stop : (what : Writes) (placed gone' : ℕ → Type 0) (j : ℕ) (old now next : List Happening) → PlacedInTurn what placed None old now
    → Placed what (IsSlot j) gone' now next → (¬ placed j) → gone' j → PlacedInTurn what placed (Some j) old next
in_turn_stop what placed gone' j old now next t p apart is_gone =
    in_turn_step what placed placed gone' (Some j) j old now next t p apart (λ i is. is) (IsLast refl) (λ i is. inl is)
    (λ i is. let same : i ≡ j = cc in (same, subst gone' (sym same) is_gone))

-- WHAT THEY LEAVE

-- a fact that is known of the same slots
pub in_turn_same : {what : Writes} {placed placed' : ℕ → Type 0} {gone : Option ℕ} {old new : List Happening} → ((j : ℕ) → placed j ↔ placed' j)
    → PlacedInTurn what placed gone old new → PlacedInTurn what placed' gone old new
in_turn_same {what} {placed} {placed'} {gone} {old} {new} same t = record {
  ran =
      ran_weakened {allowed = IsPlacing what (IsTouched placed gone)} {more = IsPlacing what (IsTouched placed' gone)}
      (placing_on what (IsTouched placed gone) (IsTouched placed' gone) touched) t.ran;
  apart = λ j is_last is. t.apart j is_last ((same j).1 is);
  landed = λ j k bytes is one. t.landed j k bytes ((same j).1 is) one;
  done = λ j k bytes is one. t.done j k bytes ((same j).1 is) one;
  rest = λ j k some is none. t.rest j k some ((same j).1 is) none;
  others = λ j k some off. t.others j k some (λ was. off (touched j was));
  meanwhile =
      at_every_mapped
      {P = λ h. (j k : ℕ) → IsSome (slot_state old j).size
      → ButForOutside old h j k (Leaves (MayLeaveIn what (IsTouched placed gone) j k ((slot_state old j).sector k))
      (MayBeUnder what (IsTouched placed gone) j k ((slot_state old j).sector k)))}
      {Q = λ h. (j k : ℕ) → IsSome (slot_state old j).size
      → ButForOutside old h j k (Leaves (MayLeaveIn what (IsTouched placed' gone) j k ((slot_state old j).sector k))
      (MayBeUnder what (IsTouched placed' gone) j k ((slot_state old j).sector k)))}
      (λ h before j k some.
      let was = (slot_state old j).sector k in
      IsKept-mapped
      (λ s leaves.
      Leaves-mapped (may_leave_on what (IsTouched placed gone) (IsTouched placed' gone) j k was was (touched j) (inr refl))
      (may_be_under_on what (IsTouched placed gone) (IsTouched placed' gone) j k was was (touched j) (inr refl)) leaves) (before j k some)) t.meanwhile;
  shut = t.shut;
}
  where
    touched : (j : ℕ) → IsTouched placed gone j → IsTouched placed' gone j
    touched j (IsPlaced is) = IsPlaced ((same j).0 is)
    touched j (IsLast is) = IsLast is

-- each slot of `placed` is settled whole at the end
pub in_turn_whole : {what : Writes} {placed : ℕ → Type 0} {last : Option ℕ} {old new : List Happening} (j k : ℕ) → PlacedInTurn what placed last old new
    → placed j → IsSome (slot_state old j).size → ButForOutside old new j k (λ s. s.since ≡ [])
in_turn_whole {what} {placed} {last} {old} {new} j k t is_placed some = by_what (what j k) refl
  where
    by_what : (o : Option (List ℕ)) → what j k ≡ o → ButForOutside old new j k (λ s. s.since ≡ [])
    by_what None none =
        IsKept-mapped {P = λ s. s ≡ synced ((slot_state old j).sector k)} (λ s is. ap (λ (x : Sector). x.since) is) (t.rest j k some is_placed none)
    by_what (Some bytes) is =
        IsKept-mapped {P = λ s. s ≡ settled (Good bytes)} (λ s at. ap (λ (x : Sector). x.since) at) (t.done j k bytes is_placed is)
