-- Histories in which nothing can be read past the end of a medium.
use Rattle.std.proofs.Common.{◌≡◌, ℕ, ◌<◌, arith, None, true, false, List, [], ◌∷◌, inl, inr, refl, sym, ap, ◌∙◌, subst, Option, Some, slice_get}
use Rattle.std.specs.Prelude.{IsSome, unwrap_or, is_some, not}
use Rattle.std.proofs.lemmas.Bool.{cases_Bool, cond-true, cond-false, false≢true}
use Rattle.stair_rack.specs.Sector.{Cell, Damaged, settled, damaged, wrote, synced, MayLeave}
use Rattle.stair_rack.specs.Media.{Image, has_sector, sectors_of}
use Rattle.stair_rack.specs.History.{SlotAct, Pulled, InsertedBlank, InsertedOld, SectorDamaged, SlotCall, Attach, Sectors, Read, Write, Sync, Happening, Made, SlotState, after_act, after_attach, after_write, after_sync, after_call, slot_state, stopped, IsTidy}
use Rattle.stair_rack.specs.Outside.{MayHappen}
use Rattle.stair_rack.specs.Answers.{IsAnswered, Ran, IsHistory, Calls, any_call, is_ready, attach_answer, write_answer}
use Rattle.stair_rack.specs.Crash.{CrashMayLeave}
use Rattle.stair_rack.specs.declared.rack.Reply.{Reply}
use Rattle.stair_rack.specs.declared.rack.Reply.TheVariants as reply
use Rattle.stair_rack.proofs.MomentLemmas.{IsThis, calls_ran, ran_any, ran_join, ran_none}
use Rattle.stair_rack.proofs.StepLemmas.{SlotKeeps, keeps_slot, kept}
use Rattle.stair_rack.proofs.KeptLemmas.{not_none, with_old_cases, with_sector_cases}
use Rattle.stair_rack.proofs.OfflineLemmas.{reply_if-Done, and-true_left, and-true_right}

-- one slot's part
pub record IsTidySlot (b : SlotState) : Type 0 where
  pub past_end : (k : ℕ) → has_sector b.size k ≡ false → b.sector k ≡ damaged
  pub attached : b.attached ≡ true → IsSome b.size
  pub found : b.attached ≡ true → b.size ≡ Some b.found

pub IsTidy-slot : (h : List Happening) → IsTidy h → (j : ℕ) → IsTidySlot (slot_state h j)
IsTidy-slot h tidy j = record { past_end = tidy.past_end j; attached = tidy.attached j; found = tidy.found j }

pub IsTidy-from_slots : (h : List Happening) → ((j : ℕ) → IsTidySlot (slot_state h j)) → IsTidy h
IsTidy-from_slots h each = record { past_end = λ j. (each j).past_end; attached = λ j. (each j).attached; found = λ j. (each j).found }

sectors_past_end : (size : Option ℕ) (cell : ℕ → Cell) (k : ℕ) → has_sector size k ≡ false → sectors_of size cell k ≡ damaged
sectors_past_end size cell k past = cond-false _ _ _ past

pub sectors_within : (size : Option ℕ) (cell : ℕ → Cell) (k : ℕ) → has_sector size k ≡ true → sectors_of size cell k ≡ settled (cell k)
sectors_within size cell k within = cond-true _ _ _ within

-- a rack that was just made
pub IsTidy-made : (image : Image) → IsTidy (Made image ∷ [])
IsTidy-made image = record {
  past_end = λ j k past. sectors_past_end (image j).size (image j).cell k past;
  attached = λ j is. absurd (false≢true is);
  found = λ j is. absurd (false≢true is);
}

tidy_act : (b : SlotState) (a : SlotAct) → MayHappen b a → IsTidySlot b → IsTidySlot (after_act a b)
tidy_act b (Pulled m) may tidy =
    record { past_end = λ k past. refl; attached = λ is. absurd (false≢true is); found = λ is. absurd (false≢true is) }
tidy_act b (InsertedBlank size) may tidy = record {
  past_end = λ k past. refl;
  attached = λ is. refl;
  found = λ is. absurd (not_none b.size may (tidy.attached is));
}
tidy_act b (InsertedOld i) may tidy =
    with_old_cases IsTidySlot i (slice_get b.removed i) b tidy
    (λ m. record {
      past_end = λ k past. sectors_past_end (Some m.size) m.cell k past;
      attached = λ is. refl;
      found = λ is. absurd (not_none b.size may.0 (tidy.attached is));
    })
tidy_act b (SectorDamaged l) may tidy = record {
  past_end = λ k past. with_sector_cases (λ s. s ≡ damaged) l k damaged b (λ at. refl) (tidy.past_end k past);
  attached = tidy.attached;
  found = tidy.found;
}

tidy_attach : (h : List Happening) (j : ℕ) (answer : Reply) → answer ≡ attach_answer h j → IsTidySlot (slot_state h j)
    → IsTidySlot (after_attach answer (slot_state h j))
tidy_attach h j reply.Done is tidy = record {
  past_end = tidy.past_end;
  attached = λ attached. and-true_left (is_some (slot_state h j).size) (not (stopped h)) (reply_if-Done _ is);
  found = λ attached.
      found_size (slot_state h j).size (and-true_left (is_some (slot_state h j).size) (not (stopped h)) (reply_if-Done _ is));
}
  where
    found_size : (size : Option ℕ) → IsSome size → size ≡ Some (unwrap_or size 0)
    found_size None some = absurd (false≢true some)
    found_size (Some n) some = refl
tidy_attach h j reply.Gone is tidy = record {
  past_end = tidy.past_end;
  attached = λ attached. absurd (false≢true attached);
  found = λ attached. absurd (false≢true attached);
}

tidy_write : (h : List Happening) (j l : ℕ) (bytes : List ℕ) (answer : Reply) → answer ≡ write_answer h j l → IsTidySlot (slot_state h j)
    → IsTidySlot (after_write l bytes answer (slot_state h j))
tidy_write h j l bytes reply.Done is tidy =
    let has = and-true_right (is_ready h j) (has_sector (slot_state h j).size l) (reply_if-Done _ is) in
    record {
      past_end = λ k past.
          with_sector_cases (λ s. s ≡ damaged) l k (wrote bytes ((slot_state h j).sector l)) (slot_state h j)
          (λ at. absurd (false≢true (sym past ∙ ap (has_sector (slot_state h j).size) at ∙ has))) (tidy.past_end k past);
      attached = tidy.attached;
      found = tidy.found;
    }
tidy_write h j l bytes reply.Gone is tidy = tidy

tidy_sync : (b : SlotState) (answer : Reply) → IsTidySlot b → IsTidySlot (after_sync answer b)
tidy_sync b reply.Done tidy =
    record { past_end = λ k past. ap synced (tidy.past_end k past); attached = tidy.attached; found = tidy.found }
tidy_sync b reply.Gone tidy = tidy

tidy_call : (h : List Happening) (j : ℕ) (c : SlotCall) → IsAnswered h j c → IsTidySlot (slot_state h j) → IsTidySlot (after_call c (slot_state h j))
tidy_call h j (Attach answer) is tidy = tidy_attach h j answer is tidy
tidy_call h j (Sectors size) is tidy = tidy
tidy_call h j (Read k answer) is tidy = tidy
tidy_call h j (Write k bytes answer) is tidy = tidy_write h j k bytes answer is tidy
tidy_call h j (Sync answer) is tidy = tidy_sync (slot_state h j) answer tidy

pub SlotKeeps-tidy : {allowed : ℕ → SlotCall → Type 0} (j : ℕ) → SlotKeeps allowed j IsTidySlot
SlotKeeps-tidy j = record { act = tidy_act; call = λ h c may is tidy. tidy_call h j c is tidy }

-- acts and calls keep a history tidy
pub tidy_on : {allowed : ℕ → SlotCall → Type 0} {old new : List Happening} → Ran allowed old new → IsTidy old → IsTidy new
tidy_on {allowed} {old} {new} ran tidy =
    IsTidy-from_slots new
    (λ j. kept {allowed = allowed} {P = λ h. IsTidySlot (slot_state h j)} (keeps_slot (SlotKeeps-tidy {allowed = allowed} j)) ran (IsTidy-slot old tidy j))

-- HISTORIES

-- the history of an honest rack goes on as one
pub history_on : {allowed : ℕ → SlotCall → Type 0} {old new : List Happening} → IsHistory old → Ran allowed old new → IsHistory new
history_on {allowed} is ran = record { image = is.image; ran = ran_join is.ran (ran_any {allowed = allowed} ran) }

pub history_called : {old new : List Happening} {j : ℕ} {c : SlotCall} → IsHistory old → Calls old new j c → IsHistory new
history_called {j = j} {c = c} is called = history_on {allowed = IsThis j c} is (calls_ran called)

pub history_made : (image : Image) → IsHistory (Made image ∷ [])
history_made image = record { image = image; ran = ran_none (Made image ∷ []) }

-- and is tidy
pub history_tidy : {h : List Happening} → IsHistory h → IsTidy h
history_tidy is = tidy_on {allowed = any_call} is.ran (IsTidy-made is.image)

-- in what a crash leaves of a tidy history, nothing can be read past the end
pub left_past_end : (h : List Happening) → IsTidy h → (image : Image) → CrashMayLeave h image → (j k : ℕ) → has_sector (image j).size k ≡ false
    → (image j).cell k ≡ Damaged
left_past_end h tidy image left j k past =
    let there : has_sector (slot_state h j).size k ≡ false = sym (ap (λ size. has_sector size k) (left j).size) ∙ past in
    subst (λ s. MayLeave s ((image j).cell k)) (tidy.past_end j k there) ((left j).each k)

-- a rack that is made over what a crash left holds it, and nothing else can be left of it
pub made_of_left : (h : List Happening) → IsTidy h → (image : Image) → CrashMayLeave h image → (j k : ℕ)
    → (slot_state (Made image ∷ []) j).sector k ≡ settled ((image j).cell k)
made_of_left h tidy image left j k =
    elim (cases_Bool (has_sector (image j).size k)) [
      | inl within ↦ sectors_within (image j).size (image j).cell k within
      | inr past ↦ sectors_past_end (image j).size (image j).cell k past ∙ sym (ap settled (left_past_end h tidy image left j k past))
    ]

-- the number of sectors that a rack answers for an attached slot is that of its medium
pub size_answered : (h : List Happening) → IsTidy h → (j n : ℕ) → (slot_state h j).attached ≡ true → IsAnswered h j (Sectors n)
    → (slot_state h j).size ≡ Some n
size_answered h tidy j n attached answered = tidy.found j attached ∙ ap Some (sym answered)

-- SIZES

-- the slot has the medium of this size that it had after so many pulls, or it was pulled since
pub data HasSize (pulls : ℕ) (size : Option ℕ) (b : SlotState) : Type 0 where
  Same : b.pulls ≡ pulls → b.size ≡ size → HasSize pulls size b
  Other : pulls < b.pulls → HasSize pulls size b

size_act : (pulls : ℕ) (size : Option ℕ) → IsSome size → (b : SlotState) (a : SlotAct) → MayHappen b a → HasSize pulls size b
    → HasSize pulls size (after_act a b)
size_act pulls size some b (Pulled m) may (Same same is) = Other (omega arith)
size_act pulls size some b (Pulled m) may (Other less) = Other (omega arith)
size_act pulls size some b (InsertedBlank n) may (Same same is) = absurd (not_none size (sym is ∙ may) some)
size_act pulls size some b (InsertedBlank n) may (Other less) = Other less
size_act pulls size some b (InsertedOld i) may (Same same is) = absurd (not_none size (sym is ∙ may.0) some)
size_act pulls size some b (InsertedOld i) may (Other less) =
    with_old_cases (HasSize pulls size) i (slice_get b.removed i) b (Other less) (λ m. Other less)
size_act pulls size some b (SectorDamaged k) may (Same same is) = Same same is
size_act pulls size some b (SectorDamaged k) may (Other less) = Other less

size_call : (pulls : ℕ) (size : Option ℕ) (b : SlotState) (c : SlotCall) → HasSize pulls size b → HasSize pulls size (after_call c b)
size_call pulls size b (Attach reply.Done) (Same same is) = Same same is
size_call pulls size b (Attach reply.Done) (Other less) = Other less
size_call pulls size b (Attach reply.Gone) (Same same is) = Same same is
size_call pulls size b (Attach reply.Gone) (Other less) = Other less
size_call pulls size b (Sectors n) has = has
size_call pulls size b (Read k answer) has = has
size_call pulls size b (Write k bytes reply.Done) (Same same is) = Same same is
size_call pulls size b (Write k bytes reply.Done) (Other less) = Other less
size_call pulls size b (Write k bytes reply.Gone) has = has
size_call pulls size b (Sync reply.Done) (Same same is) = Same same is
size_call pulls size b (Sync reply.Done) (Other less) = Other less
size_call pulls size b (Sync reply.Gone) has = has

-- a medium that isn't pulled keeps its size
pub size_on : {allowed : ℕ → SlotCall → Type 0} {old new : List Happening} (pulls : ℕ) (size : Option ℕ) (j : ℕ) → IsSome size → Ran allowed old new
    → HasSize pulls size (slot_state old j) → HasSize pulls size (slot_state new j)
size_on {allowed} pulls size j some ran start =
    kept {allowed = allowed} {P = λ h. HasSize pulls size (slot_state h j)}
    (keeps_slot {allowed = allowed} {j = j} {R = HasSize pulls size}
    (record { act = size_act pulls size some; call = λ h c may is has. size_call pulls size (slot_state h j) c has })) ran start
