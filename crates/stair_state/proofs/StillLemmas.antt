-- While nothing is written and no medium comes back, cells stay or get damaged; and what is read meanwhile, as by a survey.
use Rattle.std.proofs.Common.{◌≡◌, ℕ, ◌<◌, ◌≤◌, List, [], ◌∷◌, Option, None, Some, ◌⊎◌, inl, inr, refl, sym, ap, ◌∙◌, subst, arith, nat_lt, if◌then◌else◌, false, true≢false}
use Rattle.std.specs.Prelude.{IsTrue}
use Rattle.std.proofs.lemmas.Bool.{cases_Bool, cases_lt, cond-true, cond-false, false≢true, lt-ltb, le-ltb}
use Rattle.stair_model.specs.Geometry.{Geometry}
use Rattle.stair_model.specs.Slots.{HasSlot}
use Rattle.stair_model.proofs.FirstLaws.{IsKnown, known_both}
use Rattle.stair_rack.specs.Answers.{IsAnswered, IsHistory, Ran, is_good}
use Rattle.stair_rack.specs.Crash.{CrashMayLeave, image_now}
use Rattle.stair_rack.specs.History.{Happening, Made, Stopped, Acted, Called, SlotAct, Pulled, InsertedBlank, InsertedOld, SectorDamaged, SlotCall, Attach, Sectors, Read, Write, Sync, SlotState, after_act, after_call, slot_state, stopped}
use Rattle.stair_rack.specs.Media.{Image, has_sector}
use Rattle.stair_rack.specs.Moments.{AtSomeMoment, IsMoment}
use Rattle.stair_rack.specs.Offline.{IsOffline, NoMedium, RackStopped, Unattached, WasPulled}
use Rattle.stair_rack.specs.Outside.{IsAct}
use Rattle.stair_rack.specs.Sector.{Cell, Good, Damaged, Torn, TornOverDamage, MayLeave, content, damaged}
use Rattle.stair_rack.specs.Stretch.{NothingReturned, ReturnsNothing}
use Rattle.stair_rack.specs.declared.rack.Reply.TheVariants as reply
use Rattle.stair_rack.proofs.CrashLemmas.{nothing_unsynced, settled_left}
use Rattle.stair_rack.proofs.KeptLemmas.{with_sector_cases}
use Rattle.stair_rack.proofs.MomentLemmas.{at_last, ran_after, ran_before}
use Rattle.stair_rack.proofs.OfflineLemmas.{stopped_on}
use Rattle.stair_rack.proofs.StepLemmas.{slot_act_cases, slot_call_cases}
use Rattle.stair_rack.proofs.StretchLemmas.{each_after, each_before, kept_where}
use Rattle.stair_rack.proofs.TidyLemmas.{history_on, history_tidy}
use Rattle.stair_super.proofs.Decided.{known_lt}
use Rattle.stair_member.specs.Findings.{AreFound, Findings, IsPlaceFound}
use Rattle.stair_rack.specs.RackState.{IsReading, RackState}
use Rattle.stair_state.specs.Degraded.{AreAllDamaged, AreDamagedCopies, Blank, IsDegraded, IsDegradedSlot, Stays, Taken}
use Rattle.stair_state.specs.Represents.{AreSteady, no_write}
use Rattle.stair_state.proofs.DegradedLemmas.{copies_damaged, degraded_copies, degraded_same, slot_again}
use Rattle.stair_state.proofs.FormLemmas.{good_whole}
use Rattle.stair_state.proofs.OutsideLemmas.{slot_now}

-- THE IMAGE NOW

still_act : (h : List Happening) (j : ℕ) (b : SlotState) (a : SlotAct) → ReturnsNothing h (Acted j a)
    → IsDegradedSlot (slot_now b) (slot_now (after_act a b))
still_act h j b (Pulled m) none = Taken refl (λ k. refl)
still_act h j b (InsertedBlank size) none = Blank size refl (λ k. refl)
still_act h j b (InsertedOld i) none = absurd none
still_act h j b (SectorDamaged l) none =
    Stays refl
    (λ k.
    with_sector_cases (λ s. (content s ≡ content (b.sector k)) ⊎ (content s ≡ Damaged)) l k damaged b (λ at. inr refl) (inl refl))

still_call : (b : SlotState) (j : ℕ) (c : SlotCall) → no_write j c → IsDegradedSlot (slot_now b) (slot_now (after_call c b))
still_call b j (Attach reply.Done) may = Stays refl (λ k. inl refl)
still_call b j (Attach reply.Gone) may = Stays refl (λ k. inl refl)
still_call b j (Sectors size) may = Stays refl (λ k. inl refl)
still_call b j (Read k answer) may = Stays refl (λ k. inl refl)
still_call b j (Write k bytes answer) may = absurd may
still_call b j (Sync reply.Done) may = Stays refl (λ k. inl refl)
still_call b j (Sync reply.Gone) may = Stays refl (λ k. inl refl)

unchanged : (b : SlotState) → IsDegradedSlot (slot_now b) (slot_now b)
unchanged b = Stays refl (λ k. inl refl)

-- the image now is degraded from the one before
pub degraded_now : {old new : List Happening} → Ran no_write old new → NothingReturned old new → IsDegraded (image_now old) (image_now new)
degraded_now {old} {new} ran none =
    at_last {P = λ h. IsDegraded (image_now old) (image_now h)}
    (kept_where {P = ReturnsNothing} {allowed = no_write} {R = λ h. IsDegraded (image_now old) (image_now h)}
    (record { act = act; call = call }) ran none (degraded_same (image_now old)))
  where
    act : (h : List Happening) (e : Happening) → IsAct h e → ReturnsNothing h e → IsDegraded (image_now old) (image_now h)
        → IsDegraded (image_now old) (image_now (e ∷ h))
    act h (Made image) may none before = absurd may
    act h Stopped may none before = before
    act h (Acted i a) may none before = λ j.
        slot_again (before j)
        (slot_act_cases (λ b. IsDegradedSlot (slot_now (slot_state h j)) (slot_now b)) h i j a (λ same. still_act h i (slot_state h j) a none)
        (unchanged (slot_state h j)))
    act h (Called i c) may none before = absurd may

    call : (h : List Happening) (i : ℕ) (c : SlotCall) → no_write i c → IsAnswered h i c → ReturnsNothing h (Called i c)
        → IsDegraded (image_now old) (image_now h) → IsDegraded (image_now old) (image_now (Called i c ∷ h))
    call h i c may answered none before = λ j.
        slot_again (before j)
        (slot_call_cases (λ b. IsDegradedSlot (slot_now (slot_state h j)) (slot_now b)) h i j c (λ same. still_call (slot_state h j) i c may)
        (unchanged (slot_state h j)))

-- MEDIA THAT WERE PULLED

-- the slot has the medium that it had after so many pulls, or nothing in it can be read
data IsSameOrLost (pulls : ℕ) (b : SlotState) : Type 0 where
  SameMedium : b.pulls ≡ pulls → IsSameOrLost pulls b
  NothingRead : ((k : ℕ) → content (b.sector k) ≡ Damaged) → IsSameOrLost pulls b

lost_act : (pulls : ℕ) (h : List Happening) (j : ℕ) (b : SlotState) (a : SlotAct) → ReturnsNothing h (Acted j a) → IsSameOrLost pulls b
    → IsSameOrLost pulls (after_act a b)
lost_act pulls h j b (Pulled m) none before = NothingRead (λ k. refl)
lost_act pulls h j b (InsertedBlank size) none (SameMedium is) = SameMedium is
lost_act pulls h j b (InsertedBlank size) none (NothingRead all) = NothingRead (λ k. refl)
lost_act pulls h j b (InsertedOld i) none before = absurd none
lost_act pulls h j b (SectorDamaged l) none (SameMedium is) = SameMedium is
lost_act pulls h j b (SectorDamaged l) none (NothingRead all) =
    NothingRead (λ k. with_sector_cases (λ s. content s ≡ Damaged) l k damaged b (λ at. refl) (all k))

lost_call : (pulls : ℕ) (b : SlotState) (j : ℕ) (c : SlotCall) → no_write j c → IsSameOrLost pulls b → IsSameOrLost pulls (after_call c b)
lost_call pulls b j (Attach reply.Done) may (SameMedium is) = SameMedium is
lost_call pulls b j (Attach reply.Done) may (NothingRead all) = NothingRead all
lost_call pulls b j (Attach reply.Gone) may (SameMedium is) = SameMedium is
lost_call pulls b j (Attach reply.Gone) may (NothingRead all) = NothingRead all
lost_call pulls b j (Sectors size) may before = before
lost_call pulls b j (Read k answer) may before = before
lost_call pulls b j (Write k bytes answer) may before = absurd may
lost_call pulls b j (Sync reply.Done) may (SameMedium is) = SameMedium is
lost_call pulls b j (Sync reply.Done) may (NothingRead all) = NothingRead all
lost_call pulls b j (Sync reply.Gone) may before = before

-- of a slot whose medium was pulled nothing can be read any more
pub pulled_lost : {old new : List Happening} (j : ℕ) → Ran no_write old new → NothingReturned old new → WasPulled old new j
    → AreAllDamaged (image_now new j).cell
pulled_lost {old} {new} j ran none pulled = judged here
  where
    pulls : ℕ
    pulls = (slot_state old j).pulls

    act : (h : List Happening) (e : Happening) → IsAct h e → ReturnsNothing h e → IsSameOrLost pulls (slot_state h j)
        → IsSameOrLost pulls (slot_state (e ∷ h) j)
    act h (Made image) may none before = absurd may
    act h Stopped may none before = before
    act h (Acted i a) may none before =
        slot_act_cases (IsSameOrLost pulls) h i j a (λ same. lost_act pulls h i (slot_state h j) a none before) before
    act h (Called i c) may none before = absurd may

    here : IsSameOrLost pulls (slot_state new j)
    here =
        at_last {P = λ h. IsSameOrLost pulls (slot_state h j)}
        (kept_where {P = ReturnsNothing} {allowed = no_write} {R = λ h. IsSameOrLost pulls (slot_state h j)} (record {
          act = act;
          call = λ h i c may answered none before.
              slot_call_cases (IsSameOrLost pulls) h i j c (λ same. lost_call pulls (slot_state h j) i c may before) before;
        }) ran none (SameMedium refl))

    judged : IsSameOrLost pulls (slot_state new j) → AreAllDamaged (image_now new j).cell
    judged (SameMedium is) = absurd (omega (arith, pulled, is))
    judged (NothingRead all) = all

-- of an empty slot nothing can be read
pub empty_lost : (h : List Happening) (j : ℕ) → IsHistory h → (slot_state h j).size ≡ None → AreAllDamaged (image_now h j).cell
empty_lost h j is none k =
    ap content ((history_tidy is).past_end j k (ap (λ (size : Option ℕ). has_sector size k) none))

-- nor of a slot that is offline, unless the rack is stopped
offline_lost : {old h : List Happening} (j : ℕ) → IsHistory old → Ran no_write old h → NothingReturned old h → IsOffline old h j
    → IsTrue (stopped h) ⊎ AreAllDamaged (image_now h j).cell
offline_lost {old} {h} j is ran none (NoMedium empty) = inr (empty_lost h j (history_on {allowed = no_write} is ran) empty)
offline_lost j is ran none (Unattached apart pulled) = inr (pulled_lost j ran none pulled)
offline_lost j is ran none (RackStopped stops) = inl stops

-- WHETHER A SLOT IS OFFLINE

not_offline : (before h : List Happening) (j : ℕ) → ¬ ((slot_state h j).size ≡ None)
    → ¬ (((slot_state h j).attached ≡ false) × WasPulled before h j) → ¬ IsTrue (stopped h) → ¬ IsOffline before h j
not_offline before h j some apart goes_on (NoMedium empty) = some empty
not_offline before h j some apart goes_on (Unattached not_attached pulled) = apart (not_attached, pulled)
not_offline before h j some apart goes_on (RackStopped stops) = goes_on stops

pub known_none : (size : Option ℕ) → IsKnown (size ≡ None)
known_none None = inl refl
known_none (Some n) = inr (λ same. cc)

-- it is decided
pub offline_decided : (before h : List Happening) (j : ℕ) → IsKnown (IsOffline before h j)
offline_decided before h j =
    elim (cases_Bool (stopped h)) [
      | inl stops ↦ inl (RackStopped stops)
      | inr goes_on ↦
          elim (known_none (slot_state h j).size) [
            | inl empty ↦ inl (NoMedium empty)
            | inr some ↦
                elim (known_both (known_false (slot_state h j).attached) (known_lt (slot_state before j).pulls (slot_state h j).pulls)) [
                  | inl both ↦ inl (Unattached both.0 both.1)
                  | inr apart ↦ inr (not_offline before h j some apart (λ stops. false≢true (sym goes_on ∙ stops)))
                ]
          ]
    ]
  where
    known_false : (b : _) → IsKnown (b ≡ false)
    known_false b = elim (cases_Bool b) [ inl is ↦ inr (λ not. true≢false (sym is ∙ not)) | inr not ↦ inl not ]

-- SETTLED PLACES

-- images that a crash may leave agree where nothing is unsynced
pub steady_cells : (g : Geometry) (h : List Happening) (image : Image) → AreSteady g h → CrashMayLeave h image → (j k : ℕ) → j < g.n → k < 2
    → (image j).cell k ≡ (image_now h j).cell k
steady_cells g h image steady left j k below place =
    let settled_so = nothing_unsynced ((slot_state h j).sector k) (steady j k below place) in
    settled_left ((slot_state h j).sector k).base ((image j).cell k) (subst (λ s. MayLeave s ((image j).cell k)) settled_so ((left j).each k))
    ∙ sym (ap content settled_so)

-- WHAT IS READ MEANWHILE

module _ (old new : RackState) (honest : IsTrue new.honest) (is : IsHistory old.history)
    (ran : Ran no_write old.history new.history) (none : NothingReturned old.history new.history) where
  cells_until : (h : List Happening) → IsMoment old.history h new.history → (j : ℕ)
      → AreDamagedCopies (image_now old.history j).cell (image_now h j).cell
  cells_until h at j = degraded_copies (degraded_now (ran_before ran at) (each_before none at) j)

  cells_after : (h : List Happening) → IsMoment old.history h new.history → (j : ℕ)
      → AreDamagedCopies (image_now h j).cell (image_now new.history j).cell
  cells_after h at j = degraded_copies (degraded_now (ran_after ran at) (each_after none at) j)

  -- what was read is as it was, or bad
  reading_copied : (j k : ℕ) (cell : Cell) → IsReading j k old new cell → (cell ≡ (image_now old.history j).cell k) ⊎ (cell ≡ Damaged)
  reading_copied j k (Good bytes) was =
      let read = was honest in
      elim (cells_until read.moment read.is_one j k) [
        | inl same ↦ inl (sym read.found ∙ same)
        | inr harmed ↦ absurd (good_whole read.found harmed)
      ]
  reading_copied j k Damaged was = inr refl
  reading_copied j k Torn was = absurd was
  reading_copied j k TornOverDamage was = absurd was

  -- what is good at the end was read
  pub reading_kept : (j k : ℕ) (bytes : List ℕ) (cell : Cell) → IsReading j k old new cell → (image_now new.history j).cell k ≡ Good bytes
      → cell ≡ Good bytes
  reading_kept j k bytes (Good other) was good =
      let read = was honest in
      elim (cells_after read.moment read.is_one j k) [
        | inl same ↦ sym read.found ∙ sym same ∙ good
        | inr harmed ↦ absurd (good_whole good harmed)
      ]
  reading_kept j k bytes Damaged was good =
      let read = was.1 honest in
      elim (cells_after read.moment read.is_one j k) [
        | inl same ↦ absurd (true≢false (sym (ap is_good good) ∙ ap is_good same ∙ read.found))
        | inr harmed ↦ absurd (good_whole good harmed)
      ]
  reading_kept j k bytes Torn was good = absurd was
  reading_kept j k bytes TornOverDamage was good = absurd was

  -- of a slot that was offline meanwhile nothing can be read at the end, or the rack is stopped
  pub was_offline_lost : (j : ℕ) → AtSomeMoment (λ h. IsOffline old.history h j) old.history new.history
      → IsTrue (stopped new.history) ⊎ AreAllDamaged (image_now new.history j).cell
  was_offline_lost j at =
      elim (offline_lost j is (ran_before ran at.is_one) (each_before none at.is_one) at.holds) [
        | inl stops ↦ inl (stopped_on {allowed = no_write} (ran_after ran at.is_one) stops)
        | inr all ↦ inr (copies_damaged all (cells_after at.moment at.is_one j))
      ]

-- WHAT A SURVEY READS

-- the cells of the superblock places that were read, and no others
abbrev pub read_image : Findings → Image
read_image f j = record {
  size = None;
  cell = λ k. if nat_lt j 32 then (if nat_lt k 2 then (f.image j).cell k else Damaged) else Damaged;
  removed = [];
}

pub read_behind : (f : Findings) (j k : ℕ) → 2 ≤ k → (read_image f j).cell k ≡ Damaged
read_behind f j k behind =
    elim (cases_lt j 32) [
      | inl j_in ↦ cond-true _ _ _ (lt-ltb j 32 j_in) ∙ cond-false _ _ _ (le-ltb k 2 behind)
      | inr past ↦ cond-false _ _ _ (le-ltb j 32 past)
    ]

pub read_cell : (f : Findings) (j k : ℕ) → j < 32 → k < 2 → (read_image f j).cell k ≡ (f.image j).cell k
read_cell f j k j_in k_in = cond-true _ _ _ (lt-ltb j 32 j_in) ∙ cond-true _ _ _ (lt-ltb k 2 k_in)

module _ (f : Findings) (old new : RackState) (found : AreFound f old new) (honest : IsTrue new.honest) (is : IsHistory old.history)
    (ran : Ran no_write old.history new.history) (none : NothingReturned old.history new.history) where
  -- each cell that was read is as it was, or damaged
  pub read_copies : (j : ℕ) → AreDamagedCopies (image_now old.history j).cell (read_image f j).cell
  read_copies j k =
      elim (cases_lt j 32) [
        | inl j_in ↦
            elim (cases_lt k 2) [
              | inl k_in ↦
                  subst (λ (cell : Cell). (cell ≡ (image_now old.history j).cell k) ⊎ (cell ≡ Damaged)) (sym (read_cell f j k j_in k_in))
                  (place j_in k_in)
              | inr behind ↦ inr (read_behind f j k behind)
            ]
        | inr past ↦ inr (cond-false _ _ _ (le-ltb j 32 past))
      ]
    where
      place : j < 32 → k < 2 → ((f.image j).cell k ≡ (image_now old.history j).cell k) ⊎ ((f.image j).cell k ≡ Damaged)
      place j_in k_in =
          elim ((found.each j j_in).places k k_in) [
            | IsPlaceFound.Read reading ↦ reading_copied old new honest is ran none j k ((f.image j).cell k) reading
            | IsPlaceFound.Unread gone unread ↦ inr unread
          ]

  -- of a slot that was gone nothing can be read at the end, or the rack is stopped
  pub gone_lost : (j : ℕ) → j < 32 → HasSlot f.gone j → IsTrue (stopped new.history) ⊎ AreAllDamaged (image_now new.history j).cell
  gone_lost j j_in gone = was_offline_lost old new honest is ran none j (((found.each j j_in).gone gone).1 honest)

  -- and on a rack that isn't stopped each cell that is good at the end was read
  pub read_kept : (j k : ℕ) (bytes : List ℕ) → ¬ IsTrue (stopped new.history) → j < 32 → k < 2 → (image_now new.history j).cell k ≡ Good bytes
      → (read_image f j).cell k ≡ Good bytes
  read_kept j k bytes goes_on j_in k_in good =
      read_cell f j k j_in k_in
      ∙ elim ((found.each j j_in).places k k_in) [
        | IsPlaceFound.Read reading ↦ reading_kept old new honest is ran none j k bytes ((f.image j).cell k) reading good
        | IsPlaceFound.Unread gone unread ↦
            elim (gone_lost j j_in gone) [ inl stops ↦ absurd (goes_on stops) | inr all ↦ absurd (good_whole good (all k)) ]
      ]
