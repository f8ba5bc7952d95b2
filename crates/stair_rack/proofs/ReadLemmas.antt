-- What a read's answer tells of a moment of its call.
use Rattle.std.proofs.Common.{◌≡◌, ℕ, Bool, if◌then◌else◌, true, false, List, ◌++◌, inl, inr, refl, sym, ap, ◌∙◌, arith, slice_get, true≢false}
use Rattle.std.specs.Prelude.{not, ◌&&◌}
use Rattle.std.proofs.lemmas.Bool.{cases_Bool, false≢true}
use Rattle.stair_rack.specs.Sector.{Cell, content}
use Rattle.stair_rack.specs.Media.{has_sector}
use Rattle.stair_rack.specs.History.{SlotAct, Pulled, InsertedBlank, InsertedOld, SectorDamaged, SlotCall, Attach, Sectors, Read, Write, Sync, Happening, SlotState, after_act, after_call, slot_state, stopped}
use Rattle.stair_rack.specs.Outside.{MayHappen}
use Rattle.stair_rack.specs.Answers.{Calls, Told, Untold, Ran, IsHistory, IsBesideAttach, is_good, is_ready, is_readable, read_answer}
use Rattle.stair_rack.specs.Moments.{AtSomeMoment}
use Rattle.stair_rack.specs.Offline.{WasPulled}
use Rattle.stair_rack.specs.Reading.{WasRead}
use Rattle.stair_rack.specs.declared.rack.Got.{Got}
use Rattle.stair_rack.specs.declared.rack.Got.TheVariants as got
use Rattle.stair_rack.specs.declared.rack.Reply.TheVariants as reply
use Rattle.stair_rack.proofs.StepLemmas.{slot_after_call, keeps_slot, kept}
use Rattle.stair_rack.proofs.MomentLemmas.{calls_ran, moment_last, moment_wider}
use Rattle.stair_rack.proofs.KeptLemmas.{with_old_cases}
use Rattle.stair_rack.proofs.OfflineLemmas.{and-true_left, read_unready}
use Rattle.stair_rack.proofs.TidyLemmas.{history_called, history_tidy}

-- told or not, a read is answered as the slot stands at the end of its call
pub read_answered : (old new : List Happening) (j k : ℕ) (answer : Got) → Calls old new j (Read k answer) → answer ≡ read_answer new j k
read_answered old new j k answer (Told acts runs answered is) =
    let h = acts ++ old in
    answered
    ∙ sym (ap (λ g. read_answer g j k) is
    ∙ ap (λ (b : SlotState). if b.attached && not (stopped h) then (if is_readable b k then got.Good else got.Bad) else got.Gone)
    (slot_after_call h j (Read k answer)))
read_answered old new j k answer (Untold acts runs answered is_stopped nothing is) = answered ∙ ap (λ h. read_answer h j k) (sym is)

good_parts : (ready readable : Bool) → got.Good ≡ (if ready then (if readable then got.Good else got.Bad) else got.Gone) → (ready ≡ true) × (readable ≡ true)
good_parts true true is = (refl, refl)
good_parts true false is = absurd (cc)
good_parts false readable is = absurd (cc)

bad_parts : (ready readable : Bool) → got.Bad ≡ (if ready then (if readable then got.Good else got.Bad) else got.Gone) → (ready ≡ true) × (readable ≡ false)
bad_parts true true is = absurd (cc)
bad_parts true false is = (refl, refl)
bad_parts false readable is = absurd (cc)

module _ {old new : List Happening} {j k : ℕ} where
  -- a read that was good: of the bytes that it gave Q holds
  pub was_read_good : (Q : Cell → Type 0) → Calls old new j (Read k got.Good) → Q (content ((slot_state new j).sector k)) → WasRead Q old new j k
  was_read_good Q called holds =
      let ran = calls_ran called in
      record {
        moment = new;
        is_one = moment_last ran.more ran.is;
        ready = (good_parts (is_ready new j) (is_readable (slot_state new j) k) (read_answered old new j k got.Good called)).0;
        found = holds;
      }

  -- a read that was bad: nothing could be read
  pub was_read_bad : IsHistory old → Calls old new j (Read k got.Bad) → WasRead (λ cell. is_good cell ≡ false) old new j k
  was_read_bad is_history called =
      let ran = calls_ran called in
      let parts = bad_parts (is_ready new j) (is_readable (slot_state new j) k) (read_answered old new j k got.Bad called) in
      let tidy = history_tidy (history_called is_history called) in
      let nothing : is_good (content ((slot_state new j).sector k)) ≡ false =
      elim (cases_Bool (has_sector (slot_state new j).size k)) [
        | inl has ↦ unreadable (has_sector (slot_state new j).size k) (is_good (content ((slot_state new j).sector k))) parts.1 has
        | inr past ↦ ap (λ s. is_good (content s)) (tidy.past_end j k past)
      ] in
      record { moment = new; is_one = moment_last ran.more ran.is; ready = parts.0; found = nothing }
    where
      unreadable : (a b : Bool) → (a && b) ≡ false → a ≡ true → b ≡ false
      unreadable true b is has = is
      unreadable false b is has = absurd (false≢true has)

  -- a read that was gone: the slot isn't ready
  pub was_read_gone : Calls old new j (Read k got.Gone) → is_ready new j ≡ false
  was_read_gone called = read_unready new j k (read_answered old new j k got.Gone called)

-- it was read in each longer stretch, and so that less is said of it
pub was_read_wider : {a b : ℕ → SlotCall → Type 0} {Q : Cell → Type 0} {old mid new later : List Happening} {j k : ℕ} → Ran a old mid → Ran b new later
    → WasRead Q mid new j k → WasRead Q old later j k
was_read_wider before after was =
    record { moment = was.moment; is_one = moment_wider before after was.is_one; ready = was.ready; found = was.found }

pub was_read_mapped : {Q R : Cell → Type 0} {old new : List Happening} {j k : ℕ} → ((cell : Cell) → Q cell → R cell) → WasRead Q old new j k
    → WasRead R old new j k
was_read_mapped within was = record { moment = was.moment; is_one = was.is_one; ready = was.ready; found = within _ was.found }

-- so the sector held it at some moment
pub was_read_found : {Q : Cell → Type 0} {old new : List Happening} {j k : ℕ} → WasRead Q old new j k
    → AtSomeMoment (λ h. Q (content ((slot_state h j).sector k))) old new
was_read_found was = record { moment = was.moment; is_one = was.is_one; holds = was.found }

-- WHICH MEDIUM

-- the medium wasn't pulled, or none was attached since
data SameOrUnattached (pulls : ℕ) (b : SlotState) : Type 0 where
  Same : b.pulls ≡ pulls → SameOrUnattached pulls b
  Unattached : b.attached ≡ false → SameOrUnattached pulls b

same_act : (pulls : ℕ) (b : SlotState) (a : SlotAct) → MayHappen b a → SameOrUnattached pulls b → SameOrUnattached pulls (after_act a b)
same_act pulls b (Pulled m) may before = Unattached refl
same_act pulls b (InsertedBlank size) may (Same is) = Same is
same_act pulls b (InsertedBlank size) may (Unattached is) = Unattached is
same_act pulls b (InsertedOld i) may (Same is) = with_old_cases (SameOrUnattached pulls) i (slice_get b.removed i) b (Same is) (λ m. Same is)
same_act pulls b (InsertedOld i) may (Unattached is) = with_old_cases (SameOrUnattached pulls) i (slice_get b.removed i) b (Unattached is) (λ m. Unattached is)
same_act pulls b (SectorDamaged k) may (Same is) = Same is
same_act pulls b (SectorDamaged k) may (Unattached is) = Unattached is

same_call : (pulls : ℕ) (b : SlotState) (c : SlotCall) → IsBesideAttach c → SameOrUnattached pulls b → SameOrUnattached pulls (after_call c b)
same_call pulls b (Attach answer) beside before = absurd beside
same_call pulls b (Sectors size) beside before = before
same_call pulls b (Read k answer) beside before = before
same_call pulls b (Write k bytes reply.Done) beside (Same is) = Same is
same_call pulls b (Write k bytes reply.Done) beside (Unattached is) = Unattached is
same_call pulls b (Write k bytes reply.Gone) beside before = before
same_call pulls b (Sync reply.Done) beside (Same is) = Same is
same_call pulls b (Sync reply.Done) beside (Unattached is) = Unattached is
same_call pulls b (Sync reply.Gone) beside before = before

-- a slot that is ready, and wasn't attached since, has the medium that it had
pub ready_unpulled : {allowed : ℕ → SlotCall → Type 0} {start h : List Happening} (j : ℕ) → ((c : SlotCall) → allowed j c → IsBesideAttach c)
    → Ran allowed start h → is_ready h j ≡ true → ¬ WasPulled start h j
ready_unpulled {allowed} {start} {h} j beside ran ready pulled = judged here
  where
    pulls : ℕ
    pulls = (slot_state start j).pulls

    here : SameOrUnattached pulls (slot_state h j)
    here =
        kept {allowed = allowed} {P = λ g. SameOrUnattached pulls (slot_state g j)}
        (keeps_slot {allowed = allowed} {j = j} {R = SameOrUnattached pulls}
        (record { act = same_act pulls; call = λ g c may is before. same_call pulls (slot_state g j) c (beside c may) before })) ran (Same refl)

    judged : SameOrUnattached pulls (slot_state h j) → ⊥
    judged (Same is) = omega (arith, pulled, is)
    judged (Unattached is) = true≢false (sym (and-true_left (slot_state h j).attached (not (stopped h)) ready) ∙ is)
