-- A phase, built from its writes and its syncs.
use Rattle.std.proofs.Common.{◌≡◌, ℕ, true, List, ◌<◌, ◌∷◌, ◌++◌, ◌⊎◌, inl, inr, refl, sym, ap, ◌∙◌, subst, None, Some}
use Rattle.std.specs.Prelude.{Bool, ◌↔◌, ◌==◌, ◌&&◌, IsTrue, IsSome}
use Rattle.std.proofs.lemmas.Bool.{and_right, cases_eq, cond-true, cond-false, eq-eqb, ne_eqb}
use Rattle.stair_rack.specs.Sector.{Cell, Good, Damaged, Sector, settled, damaged, content, wrote, synced, Leaves}
use Rattle.stair_rack.specs.Media.{has_sector}
use Rattle.stair_rack.specs.History.{Write, Sync, Happening, Called, SlotState, after_call, slot_state}
use Rattle.stair_rack.specs.Answers.{Calls, Ran, any_call, Runs, IsAnswered, IsBesideAttach, is_ready}
use Rattle.stair_rack.specs.Moments.{AtEveryMoment}
use Rattle.stair_rack.specs.Offline.{IsKept, Here, Lost, ButForOutside, WasPulled, IsHeld, IsOfflineUntilAttached}
use Rattle.stair_rack.specs.Passes.{Landed}
use Rattle.stair_rack.specs.Placed.{Writes, one_write, IsSlot, IsGoneSlot, IsWriteOf, IsSyncOf, IsOver, MayLeaveIn, AsBefore, ByOutside, Cut, MayBeUnder, Before, DidPhase, Placed}
use Rattle.stair_rack.specs.Stretch.{WasAnswered}
use Rattle.stair_rack.specs.Writing.{Writing}
use Rattle.stair_rack.proofs.MomentLemmas.{ran_any, ran_none, ran_join, ran_weakened, at_some_wider, at_every_join, at_every_mapped, at_every_from, at_moment, at_last}
use Rattle.stair_rack.specs.declared.rack.Reply.{Reply}
use Rattle.stair_rack.specs.declared.rack.Reply.TheVariants as reply
use Rattle.stair_rack.proofs.StepLemmas.{kept, kept_throughout, slot_after_call}
use Rattle.stair_rack.proofs.KeptLemmas.{IsKept-onward, IsKept-mapped, IsKept-now, SectorKeeps, keeps_sector}
use Rattle.stair_rack.proofs.OfflineLemmas.{pulls_on, held_on, offline_on, reply_if-Done}
use Rattle.stair_rack.proofs.ReadLemmas.{ready_unpulled}
use Rattle.stair_rack.proofs.CrashLemmas.{content_left, Leaves-settled, Leaves-wrote, Leaves-mapped}
use Rattle.stair_rack.proofs.StretchLemmas.{answered_runs}
use Rattle.stair_rack.proofs.WritingLemmas.{WriteStep-call, SyncStep, SyncStep-call, SyncStep-none, beside_writes, beside_syncs, writing_none, writing_more}

-- THE PHASE

-- what a read finds in a sector, in the phase
data ReadsIn (what : Writes) (to : ℕ → Type 0) (j k : ℕ) (was : Sector) (cell : Cell) : Type 0 where
  AsWas : cell ≡ content was → ReadsIn what to j k was cell
  DamagedIn : cell ≡ Damaged → ReadsIn what to j k was cell
  WrittenIn : (bytes : List ℕ) → to j → what j k ≡ Some bytes → cell ≡ Good bytes → ReadsIn what to j k was cell

module _ (what : Writes) (to : ℕ → Type 0) (j k : ℕ) (was : Sector) where
  -- a sector in the stretch of writes
  record InWrites (s : Sector) : Type 0 where
    pub leaves : Leaves (MayLeaveIn what to j k was) (IsOver was) s
    pub reads : ReadsIn what to j k was (content s)

  -- and in the stretch of syncs
  record InSyncs (s : Sector) : Type 0 where
    pub leaves : Leaves (MayLeaveIn what to j k was) (MayBeUnder what to j k was) s
    pub reads : ReadsIn what to j k was (content s)

  in_writes_first : InWrites was
  in_writes_first = record { leaves = record { each = λ cell left. AsBefore left; base = inl refl }; reads = AsWas refl }

  in_writes_damaged : InWrites damaged
  in_writes_damaged = record { leaves = Leaves-settled Damaged (ByOutside refl) (inr refl); reads = DamagedIn refl }

  keeps_in_writes : SectorKeeps (IsWriteOf what to) j k InWrites
  keeps_in_writes = record {
    write = λ bytes s may before.
        let same : Write k bytes reply.Done ≡ Write may.sector may.bytes may.answer = may.is in
        let is : what j k ≡ Some bytes = cc in
        written bytes s may.on is (elim before [ inl at ↦ subst InWrites (sym at) in_writes_damaged | inr holds ↦ holds ]);
    sync = λ s may before. let same : Sync reply.Done ≡ Write may.sector may.bytes may.answer = may.is in absurd (cc);
  }
    where
      written : (bytes : List ℕ) (s : Sector) → to j → what j k ≡ Some bytes → InWrites s → InWrites (wrote bytes s)
      written bytes s on is before = record {
        leaves = Leaves-wrote bytes (MayLeaveIn.New bytes on is refl) (λ cell over. Cut bytes cell on is over refl) before.leaves;
        reads = WrittenIn bytes on is refl;
      }

  under_read : to j → (cell : Cell) → ReadsIn what to j k was cell → MayBeUnder what to j k was cell
  under_read on cell (AsWas is) = MayBeUnder.Content on is
  under_read on cell (DamagedIn is) = Before (inr is)
  under_read on cell (WrittenIn bytes on' one is) = MayBeUnder.New bytes on' one is

  keeps_in_syncs : SectorKeeps (IsSyncOf to) j k InSyncs
  keeps_in_syncs = record {
    write = λ bytes s may before. let same : Write k bytes reply.Done ≡ Sync may.answer = may.is in absurd (cc);
    sync = λ s may before. record {
      leaves = Leaves-settled (content s) (before.leaves.each (content s) (content_left s)) (under_read may.on (content s) before.reads);
      reads = before.reads;
    };
  }

  in_syncs_first : (s : Sector) → InWrites s → InSyncs s
  in_syncs_first s before = record {
    leaves = Leaves-mapped (λ cell is. is) (λ cell over. Before over) before.leaves;
    reads = before.reads;
  }

-- what a sync settles, it settles at once
kept_synced : {pulls k : ℕ} {P Q : Sector → Type 0} (b : SlotState) → ((x : Sector) → P x → Q (synced x)) → IsKept pulls k P b
    → IsKept pulls k Q (after_call (Sync reply.Done) b)
kept_synced b settles (Here same some (inl is)) = Here same some (inl (ap synced is))
kept_synced {k = k} b settles (Here same some (inr is)) = Here same some (inr (settles (b.sector k) is))
kept_synced b settles (Lost less) = Lost less

-- syncs alone, one of which this slot answered
module _ (to : ℕ → Type 0) (mid new : List Happening) (j : ℕ) (syncs : Ran (IsSyncOf to) mid new)
    (told : WasAnswered j (Sync reply.Done) mid new) where
  synced_runs : Runs (IsSyncOf to) (Called j (Sync reply.Done) ∷ told.earlier) mid
  synced_runs = answered_runs {allowed = IsSyncOf to} {j = j} {c = Sync reply.Done} syncs told

  -- up to that sync
  up_to_sync : Ran (IsSyncOf to) mid (told.earlier ++ mid)
  up_to_sync = record { more = told.earlier; is = refl; runs = synced_runs.0 }

  -- and with it
  through_sync : Ran (IsSyncOf to) mid (Called j (Sync reply.Done) ∷ (told.earlier ++ mid))
  through_sync = record { more = Called j (Sync reply.Done) ∷ told.earlier; is = refl; runs = synced_runs }

  ready_then : is_ready (told.earlier ++ mid) j ≡ true
  ready_then =
      let answered : IsAnswered (told.earlier ++ mid) j (Sync reply.Done) =
      elim synced_runs.1 [ inl act ↦ absurd act | inr call ↦ call.1 ] in
      reply_if-Done _ answered

module _ (what : Writes) (to gone on gone' : ℕ → Type 0) (so_far : ℕ → ℕ → Type 0) (old mid new : List Happening)
    (w : Writing what to gone so_far old mid) (all : (j k : ℕ) (bytes : List ℕ) → to j → what j k ≡ Some bytes → so_far j k)
    (s : SyncStep on gone' mid new) (within : (j : ℕ) → on j → to j) (enough : (j : ℕ) → to j → (¬ gone j) → on j) where
  phase_syncs : Ran (IsSyncOf to) mid new
  phase_syncs =
      ran_weakened {allowed = IsSyncOf on} {more = IsSyncOf to}
      (λ j c is. record { on = within j is.on; answer = is.answer; is = is.is }) s.ran

  phase_landed : (j k : ℕ) (bytes : List ℕ) → to j → (¬ (gone j ⊎ gone' j)) → what j k ≡ Some bytes → Landed old new j k bytes
  phase_landed j k bytes on fine is =
      at_some_wider {a = any_call} {b = IsSyncOf to} {P = λ h. content ((slot_state h j).sector k) ≡ Good bytes}
      (ran_none old) phase_syncs (w.landed j k bytes (all j k bytes on is) (λ was. fine (inl was)) is)

  phase_done : (j k : ℕ) (bytes : List ℕ) → to j → (¬ (gone j ⊎ gone' j)) → what j k ≡ Some bytes
      → ButForOutside old new j k (λ x. x ≡ settled (Good bytes))
  phase_done j k bytes is_to fine is =
      IsKept-onward {P = λ x. content x ≡ Good bytes} {Q = λ x. x ≡ synced ((slot_state mid j).sector k)} {R = λ x. x ≡ settled (Good bytes)}
      (pulls_on {allowed = IsSyncOf to} j phase_syncs) (w.done j k bytes (all j k bytes is_to is) (λ was. fine (inl was)) is)
      (λ some. s.settled j k (enough j is_to (λ was. fine (inl was))) (λ now_gone. fine (inr now_gone)) some)
      (λ x before same. elim before [ inl was ↦ inl (same ∙ ap synced was) | inr was ↦ inr (same ∙ ap settled was) ])

  -- a sector that isn't to be written, after the writes
  phase_half : (j k : ℕ) → IsSome (slot_state old j).size → (to j → what j k ≡ None) → ButForOutside old mid j k (λ x. x ≡ (slot_state old j).sector k)
  phase_half j k some none =
      let P : Sector → Type 0 = λ x. x ≡ (slot_state old j).sector k in
      let pulls = (slot_state old j).pulls in
      kept {allowed = IsWriteOf what to} {P = λ h. IsKept pulls k P (slot_state h j)}
      (keeps_sector {allowed = IsWriteOf what to} {j = j} {k = k} {P = P} pulls (record {
        write = λ bytes x may before.
            let same : Write k bytes reply.Done ≡ Write may.sector may.bytes may.answer = may.is in
            let is : what j k ≡ Some bytes = cc in
            let not_some : None ≡ Some bytes = sym (none may.on) ∙ is in
            absurd (cc);
        sync = λ x may before. let same : Sync reply.Done ≡ Write may.sector may.bytes may.answer = may.is in absurd (cc);
      })) w.ran (IsKept-now old j k some)

  phase_rest : (j k : ℕ) → IsSome (slot_state old j).size → to j → (¬ (gone j ⊎ gone' j)) → what j k ≡ None
      → ButForOutside old new j k (λ x. x ≡ synced ((slot_state old j).sector k))
  phase_rest j k some is_to fine none =
      let was = (slot_state old j).sector k in
      IsKept-onward {P = λ x. x ≡ was} {Q = λ x. x ≡ synced ((slot_state mid j).sector k)} {R = λ x. x ≡ synced was}
      (pulls_on {allowed = IsSyncOf to} j phase_syncs) (phase_half j k some (λ on. none))
      (λ some. s.settled j k (enough j is_to (λ was. fine (inl was))) (λ now_gone. fine (inr now_gone)) some)
      (λ x before same. elim before [ inl is ↦ inl (same ∙ ap synced is) | inr is ↦ inr (same ∙ ap synced is) ])

  phase_unwritten : (j k : ℕ) → IsSome (slot_state old j).size → what j k ≡ None
      → ButForOutside old new j k (λ x. (x ≡ (slot_state old j).sector k) ⊎ (x ≡ synced ((slot_state old j).sector k)))
  phase_unwritten j k some none =
      let was = (slot_state old j).sector k in
      let P : Sector → Type 0 = λ x. (x ≡ was) ⊎ (x ≡ synced was) in
      let pulls = (slot_state old j).pulls in
      let half : IsKept pulls k P (slot_state mid j) = IsKept-mapped {P = λ x. x ≡ was} {Q = P} (λ x is. inl is) (phase_half j k some (λ on. none)) in
      kept {allowed = IsSyncOf to} {P = λ h. IsKept pulls k P (slot_state h j)}
      (keeps_sector {allowed = IsSyncOf to} {j = j} {k = k} {P = P} pulls (record {
        write = λ bytes x may before. let same : Write k bytes reply.Done ≡ Sync may.answer = may.is in absurd (cc);
        sync = λ x may before. elim before [ inl is ↦ inr (ap synced is) | inr is ↦ inr (ap synced is) ];
      })) phase_syncs half

  phase_did : (j : ℕ) → to j → (¬ (gone j ⊎ gone' j)) → DidPhase what old mid new j
  phase_did j is_to fine = record {
    moment = next;
    is_one = record { before = Called j (Sync reply.Done) ∷ told.earlier; later = told.later; from = refl; to = told.is };
    there = λ pulled. unpulled (subst (λ (b : SlotState). (slot_state old j).pulls < b.pulls) (slot_after_call now j (Sync reply.Done)) pulled);
    landed = λ k bytes is.
        at_some_wider {a = any_call} {b = IsSyncOf to} {P = λ h. content ((slot_state h j).sector k) ≡ Good bytes}
        (ran_none old) (through_sync to mid new j phase_syncs told) (w.landed j k bytes (all j k bytes is_to is) (λ was. fine (inl was)) is);
    written = written_then;
    rest = rest_then;
  }
    where
      told : WasAnswered j (Sync reply.Done) mid new
      told = s.told j (enough j is_to (λ was. fine (inl was))) (λ is. fine (inr is))

      now : List Happening
      now = told.earlier ++ mid

      next : List Happening
      next = Called j (Sync reply.Done) ∷ (told.earlier ++ mid)

      unpulled : ¬ WasPulled old now j
      unpulled =
          ready_unpulled {allowed = λ i c. IsBesideAttach c} j (λ c beside. beside)
          (ran_join (ran_weakened {allowed = IsWriteOf what to} {more = λ i c. IsBesideAttach c} (beside_writes what to) w.ran)
          (ran_weakened {allowed = IsSyncOf to} {more = λ i c. IsBesideAttach c} (beside_syncs to) (up_to_sync to mid new j phase_syncs told)))
          (ready_then to mid new j phase_syncs told)

      -- what the syncs keep, up to this one, and what it settles
      settles : (k : ℕ) (P Q : Sector → Type 0) → ((x : Sector) → P x → P (synced x)) → ((x : Sector) → P x → Q (synced x))
          → ButForOutside old mid j k P → ButForOutside old next j k Q
      settles k P Q keeps settled_so at_mid =
          let pulls = (slot_state old j).pulls in
          let before : IsKept pulls k P (slot_state now j) =
          kept {allowed = IsSyncOf to} {P = λ h. IsKept pulls k P (slot_state h j)}
          (keeps_sector {allowed = IsSyncOf to} {j = j} {k = k} {P = P} pulls (record {
            write = λ bytes x may before. let same : Write k bytes reply.Done ≡ Sync may.answer = may.is in absurd (cc);
            sync = λ x may before. keeps x before;
          })) (up_to_sync to mid new j phase_syncs told) at_mid in
          subst (IsKept pulls k Q) (sym (slot_after_call now j (Sync reply.Done)))
          (kept_synced {P = P} {Q = Q} (slot_state now j) settled_so before)

      written_then : (k : ℕ) (bytes : List ℕ) → what j k ≡ Some bytes
          → ButForOutside old next j k (λ x. x ≡ settled (Good bytes))
      written_then k bytes is =
          settles k (λ x. content x ≡ Good bytes) (λ x. x ≡ settled (Good bytes)) (λ x holds. holds) (λ x holds. ap settled holds)
          (w.done j k bytes (all j k bytes is_to is) (λ was. fine (inl was)) is)

      rest_then : (k : ℕ) → IsSome (slot_state old j).size → what j k ≡ None
          → ButForOutside old next j k (λ x. x ≡ synced ((slot_state old j).sector k))
      rest_then k some none =
          let was = (slot_state old j).sector k in
          settles k (λ x. (x ≡ was) ⊎ (x ≡ synced was)) (λ x. x ≡ synced was)
          (λ x holds. elim holds [ inl is ↦ inr (ap synced is) | inr is ↦ inr (ap synced is) ])
          (λ x holds. elim holds [ inl is ↦ ap synced is | inr is ↦ ap synced is ])
          (IsKept-mapped {P = λ x. x ≡ was} {Q = λ x. (x ≡ was) ⊎ (x ≡ synced was)} (λ x is. inl is) (phase_half j k some (λ on. none)))

  phase_others : (j k : ℕ) → IsSome (slot_state old j).size → (¬ to j) → ButForOutside old new j k (λ x. x ≡ (slot_state old j).sector k)
  phase_others j k some off =
      let P : Sector → Type 0 = λ x. x ≡ (slot_state old j).sector k in
      let pulls = (slot_state old j).pulls in
      kept {allowed = IsSyncOf to} {P = λ h. IsKept pulls k P (slot_state h j)}
      (keeps_sector {allowed = IsSyncOf to} {j = j} {k = k} {P = P} pulls (record {
        write = λ bytes x may before. absurd (off may.on);
        sync = λ x may before. absurd (off may.on);
      })) phase_syncs (phase_half j k some (λ on. absurd (off on)))

  phase_meanwhile_at : (j k : ℕ) → IsSome (slot_state old j).size
      → AtEveryMoment (λ h. ButForOutside old h j k (Leaves (MayLeaveIn what to j k ((slot_state old j).sector k))
      (MayBeUnder what to j k ((slot_state old j).sector k)))) old new
  phase_meanwhile_at j k some =
      let was = (slot_state old j).sector k in
      let pulls = (slot_state old j).pulls in
      let start : IsKept pulls k (InWrites what to j k was) (slot_state old j) =
      IsKept-mapped {P = λ x. x ≡ was} (λ x is. subst (InWrites what to j k was) (sym is) (in_writes_first what to j k was)) (IsKept-now old j k some) in
      let first : AtEveryMoment (λ h. IsKept pulls k (InWrites what to j k was) (slot_state h j)) old mid =
      kept_throughout {allowed = IsWriteOf what to} {P = λ h. IsKept pulls k (InWrites what to j k was) (slot_state h j)}
      (keeps_sector {allowed = IsWriteOf what to} {j = j} {k = k} {P = InWrites what to j k was} pulls (keeps_in_writes what to j k was)) w.ran start in
      let half : IsKept pulls k (InSyncs what to j k was) (slot_state mid j) =
      IsKept-mapped (in_syncs_first what to j k was) (at_last {P = λ h. IsKept pulls k (InWrites what to j k was) (slot_state h j)} first) in
      let second : AtEveryMoment (λ h. IsKept pulls k (InSyncs what to j k was) (slot_state h j)) mid new =
      kept_throughout {allowed = IsSyncOf to} {P = λ h. IsKept pulls k (InSyncs what to j k was) (slot_state h j)}
      (keeps_sector {allowed = IsSyncOf to} {j = j} {k = k} {P = InSyncs what to j k was} pulls (keeps_in_syncs what to j k was)) phase_syncs half in
      at_every_join
      (at_every_mapped {P = λ h. IsKept pulls k (InWrites what to j k was) (slot_state h j)}
      (λ h kept. IsKept-mapped (λ x is. (in_syncs_first what to j k was x is).leaves) kept) first)
      (at_every_mapped {P = λ h. IsKept pulls k (InSyncs what to j k was) (slot_state h j)} (λ h kept. IsKept-mapped (λ x is. is.leaves) kept) second)

  phase_shut : (before : List Happening) (j : ℕ) → gone j ⊎ gone' j → IsHeld before old j
      → ((slot_state old j).attached ≡ true → (k : ℕ) (bytes : List ℕ) → what j k ≡ Some bytes → IsTrue (has_sector (slot_state old j).size k))
      → IsOfflineUntilAttached before new j
  phase_shut before j (inl was) held reach =
      offline_on {allowed = IsSyncOf to} j (beside_syncs to j) phase_syncs (w.shut before j was held reach)
  phase_shut before j (inr is) held reach = s.shut before j is (held_on {allowed = IsWriteOf what to} j w.ran held)

  -- all the writes, and then syncs of the slots that weren't gone
  pub Placed-from : Placed what to (λ j. gone j ⊎ gone' j) old new
  Placed-from =
      let upto = ran_join (ran_any w.ran) (ran_any phase_syncs) in
      record {
        mid = mid;
        writes = w.ran;
        syncs = phase_syncs;
        known = λ j.
            elim (w.known j) [
              | inl was ↦ inl (inl was)
              | inr fine ↦
                  elim (s.known j) [
                    | inl is ↦ inl (inr is)
                    | inr fine' ↦ inr (λ is_gone. elim is_gone [ inl was ↦ fine was | inr is ↦ fine' is ])
                  ]
            ];
        answered = λ j is_gone. elim is_gone [ inl was ↦ w.answered j was | inr is ↦ within j (s.answered j is) ];
        landed = phase_landed;
        did = phase_did;
        done = phase_done;
        rest = phase_rest;
        unwritten = λ j k some is_gone none. phase_unwritten j k some none;
        others = phase_others;
        meanwhile =
            at_every_from
            {P = λ h. (j k : ℕ) → IsSome (slot_state old j).size
            → ButForOutside old h j k (Leaves (MayLeaveIn what to j k ((slot_state old j).sector k))
            (MayBeUnder what to j k ((slot_state old j).sector k)))}
            upto.more upto.is
            (λ h moment j k some.
            at_moment
            {P = λ g. ButForOutside old g j k (Leaves (MayLeaveIn what to j k ((slot_state old j).sector k))
            (MayBeUnder what to j k ((slot_state old j).sector k)))}
            (phase_meanwhile_at j k some) moment);
        shut = phase_shut;
      }

pub Placed-same : {what : Writes} {to gone gone' : ℕ → Type 0} {old new : List Happening} → ((j : ℕ) → gone j ↔ gone' j)
    → Placed what to gone old new → Placed what to gone' old new
Placed-same same p = record {
  mid = p.mid;
  writes = p.writes;
  syncs = p.syncs;
  known = λ j. elim (p.known j) [ inl was ↦ inl ((same j).0 was) | inr fine ↦ inr (λ is. fine ((same j).1 is)) ];
  answered = λ j is. p.answered j ((same j).1 is);
  landed = λ j k bytes on fine is. p.landed j k bytes on (λ was. fine ((same j).0 was)) is;
  did = λ j on fine. p.did j on (λ was. fine ((same j).0 was));
  done = λ j k bytes on fine is. p.done j k bytes on (λ was. fine ((same j).0 was)) is;
  rest = λ j k some on fine none. p.rest j k some on (λ was. fine ((same j).0 was)) none;
  unwritten = λ j k some is none. p.unwritten j k some ((same j).1 is) none;
  others = p.others;
  meanwhile = p.meanwhile;
  shut = λ before j is held reach. p.shut before j ((same j).1 is) held reach;
}

-- other writes that are the same on these slots
pub Placed-agrees : {what what' : Writes} {to gone : ℕ → Type 0} {old new : List Happening} → ((j k : ℕ) → to j → what j k ≡ what' j k)
    → Placed what to gone old new → Placed what' to gone old new
Placed-agrees {what} {what'} {to} {gone} {old} {new} same p = record {
  mid = p.mid;
  writes =
      ran_weakened {allowed = IsWriteOf what to} {more = IsWriteOf what' to}
      (λ j c is. record {
        on = is.on;
        sector = is.sector;
        bytes = is.bytes;
        answer = is.answer;
        is_one = sym (same j is.sector is.on) ∙ is.is_one;
        is = is.is;
      }) p.writes;
  syncs = p.syncs;
  known = p.known;
  answered = p.answered;
  landed = λ j k bytes on fine is. p.landed j k bytes on fine (same j k on ∙ is);
  did = λ j on fine.
      let was = p.did j on fine in
      record {
        moment = was.moment;
        is_one = was.is_one;
        there = was.there;
        landed = λ k bytes is. was.landed k bytes (same j k on ∙ is);
        written = λ k bytes is. was.written k bytes (same j k on ∙ is);
        rest = λ k some none. was.rest k some (same j k on ∙ none);
      };
  done = λ j k bytes on fine is. p.done j k bytes on fine (same j k on ∙ is);
  rest = λ j k some on fine none. p.rest j k some on fine (same j k on ∙ none);
  unwritten = λ j k some is_gone none. p.unwritten j k some is_gone (same j k (p.answered j is_gone) ∙ none);
  others = p.others;
  meanwhile =
      at_every_mapped
      {P = λ h. (j k : ℕ) → IsSome (slot_state old j).size
      → ButForOutside old h j k (Leaves (MayLeaveIn what to j k ((slot_state old j).sector k))
      (MayBeUnder what to j k ((slot_state old j).sector k)))}
      {Q = λ h. (j k : ℕ) → IsSome (slot_state old j).size
      → ButForOutside old h j k (Leaves (MayLeaveIn what' to j k ((slot_state old j).sector k))
      (MayBeUnder what' to j k ((slot_state old j).sector k)))}
      (λ h before j k some. IsKept-mapped (λ s leaves. Leaves-mapped (may_leave j k) (may_be_under j k) leaves) (before j k some)) p.meanwhile;
  shut = λ before j is_gone held reach.
      p.shut before j is_gone held (λ attached k bytes is. reach attached k bytes (sym (same j k (p.answered j is_gone)) ∙ is));
}
  where
    may_leave : (j k : ℕ) (cell : Cell) → MayLeaveIn what to j k ((slot_state old j).sector k) cell
        → MayLeaveIn what' to j k ((slot_state old j).sector k) cell
    may_leave j k cell (AsBefore left) = AsBefore left
    may_leave j k cell (ByOutside is) = ByOutside is
    may_leave j k cell (MayLeaveIn.New bytes on one is) = MayLeaveIn.New bytes on (sym (same j k on) ∙ one) is
    may_leave j k cell (Cut bytes under on one over is) = Cut bytes under on (sym (same j k on) ∙ one) over is

    may_be_under : (j k : ℕ) (cell : Cell) → MayBeUnder what to j k ((slot_state old j).sector k) cell
        → MayBeUnder what' to j k ((slot_state old j).sector k) cell
    may_be_under j k cell (Before over) = Before over
    may_be_under j k cell (MayBeUnder.Content on is) = MayBeUnder.Content on is
    may_be_under j k cell (MayBeUnder.New bytes on one is) = MayBeUnder.New bytes on (sym (same j k on) ∙ one) is

-- ONE SECTOR OF ONE SLOT

one_write_there : (slot sector : ℕ) (bytes : List ℕ) → one_write slot sector bytes slot sector ≡ Some bytes
one_write_there slot sector bytes =
    cond-true _ (Some bytes) None (and_both (slot == slot) (sector == sector) (eq-eqb slot slot refl) (eq-eqb sector sector refl))
  where
    and_both : (a b : Bool) → a ≡ true → b ≡ true → (a && b) ≡ true
    and_both a b is is' = ap (λ x. x && b) is ∙ is'

one_write_is : (slot sector : ℕ) (bytes : List ℕ) (j k : ℕ) (bytes' : List ℕ) → one_write slot sector bytes j k ≡ Some bytes' → (j ≡ slot) × (k ≡ sector)
one_write_is slot sector bytes j k bytes' is =
    elim (cases_eq j slot) [
      | inl same ↦
          elim (cases_eq k sector) [
            | inl at ↦ (same, at)
            | inr other ↦
                let none : one_write slot sector bytes j k ≡ None =
                cond-false _ (Some bytes) None (and_right (j == slot) (k == sector) (ne_eqb k sector other)) in
                let not_some : None ≡ Some bytes' = sym none ∙ is in
                absurd (cc)
          ]
      | inr other ↦
          let none : one_write slot sector bytes j k ≡ None =
          cond-false _ (Some bytes) None (ap (λ x. x && (k == sector)) (ne_eqb j slot other)) in
          let not_some : None ≡ Some bytes' = sym none ∙ is in
          absurd (cc)
    ]

module _ (slot sector : ℕ) (bytes : List ℕ) (old mid new : List Happening) where
  one_writing : (answer : Reply) → Calls old mid slot (Write sector bytes answer)
      → Writing (one_write slot sector bytes) (IsSlot slot) (λ j. ⊥ ⊎ IsGoneSlot slot answer j) (λ j l. ⊥ ⊎ ((j ≡ slot) × (l ≡ sector))) old mid
  one_writing answer called =
      writing_more (one_write slot sector bytes) (IsSlot slot) (λ j. ⊥) (IsGoneSlot slot answer) (IsSlot slot) (λ j k. ⊥) sector bytes old old mid
      (writing_none (one_write slot sector bytes) (IsSlot slot) old) (WriteStep-call slot sector bytes answer old mid called)
      (λ j same. (same, ap (λ i. one_write slot sector bytes i sector) same ∙ one_write_there slot sector bytes))

  all_made : (j k : ℕ) (bytes' : List ℕ) → IsSlot slot j → one_write slot sector bytes j k ≡ Some bytes' → ⊥ ⊎ ((j ≡ slot) × (k ≡ sector))
  all_made j k bytes' same is = inr (one_write_is slot sector bytes j k bytes' is)

  -- a write that was done, and a sync
  pub Placed-one : (answer : Reply) → Calls old mid slot (Write sector bytes reply.Done) → Calls mid new slot (Sync answer)
      → Placed (one_write slot sector bytes) (IsSlot slot) (IsGoneSlot slot answer) old new
  Placed-one answer wrote_it synced_it =
      Placed-same same
      (Placed-from (one_write slot sector bytes) (IsSlot slot) (λ j. ⊥ ⊎ IsGoneSlot slot reply.Done j) (IsSlot slot) (IsGoneSlot slot answer)
      (λ j l. ⊥ ⊎ ((j ≡ slot) × (l ≡ sector))) old mid new (one_writing reply.Done wrote_it) all_made (SyncStep-call slot answer mid new synced_it)
      (λ j is. is) (λ j is fine. is))
    where
      only : (j : ℕ) → (⊥ ⊎ IsGoneSlot slot reply.Done j) ⊎ IsGoneSlot slot answer j → IsGoneSlot slot answer j
      only j (inl (inl never)) = absurd never
      only j (inl (inr done)) = let never : reply.Done ≡ reply.Gone = done.1 in absurd (cc)
      only j (inr is) = is

      same : (j : ℕ) → ((⊥ ⊎ IsGoneSlot slot reply.Done j) ⊎ IsGoneSlot slot answer j) ↔ IsGoneSlot slot answer j
      same j = (only j, λ is. inr is)

-- a write that was gone
pub Placed-one_gone : (slot sector : ℕ) (bytes : List ℕ) (old new : List Happening) → Calls old new slot (Write sector bytes reply.Gone)
    → Placed (one_write slot sector bytes) (IsSlot slot) (IsGoneSlot slot reply.Gone) old new
Placed-one_gone slot sector bytes old new called =
    Placed-same same
    (Placed-from (one_write slot sector bytes) (IsSlot slot) (λ j. ⊥ ⊎ IsGoneSlot slot reply.Gone j) (λ j. ⊥) (λ j. ⊥)
    (λ j l. ⊥ ⊎ ((j ≡ slot) × (l ≡ sector))) old new new (one_writing slot sector bytes old new new reply.Gone called)
    (all_made slot sector bytes old new new) (SyncStep-none new) (λ j never. absurd never) (λ j is fine. fine (inr (is, refl))))
  where
    only : (j : ℕ) → (⊥ ⊎ IsGoneSlot slot reply.Gone j) ⊎ ⊥ → IsGoneSlot slot reply.Gone j
    only j (inl (inl never)) = absurd never
    only j (inl (inr is)) = is
    only j (inr never) = absurd never

    same : (j : ℕ) → ((⊥ ⊎ IsGoneSlot slot reply.Gone j) ⊎ ⊥) ↔ IsGoneSlot slot reply.Gone j
    same j = (only j, λ is. inl (inr is))
