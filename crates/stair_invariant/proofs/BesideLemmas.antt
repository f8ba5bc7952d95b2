-- What a session keeps while it writes neither superblocks nor redos.
use Rattle.std.proofs.Common.{◌≡◌, ℕ, ◌<◌, List, ◌∷◌, ◌⊎◌, inl, inr, refl, sym, ap, ◌∙◌, subst, arith, true, false, Option, None, Some}
use Rattle.std.specs.Prelude.{IsSome}
use Rattle.std.proofs.lemmas.Bool.{false≢true}
use Rattle.stair_model.specs.Device.{gate_sector}
use Rattle.stair_model.specs.Geometry.{Geometry}
use Rattle.stair_rack.specs.Answers.{IsAnswered, Ran, is_ready}
use Rattle.stair_rack.specs.Crash.{image_now}
use Rattle.stair_rack.specs.History.{Happening, Made, Stopped, Acted, Called, SlotAct, Pulled, InsertedBlank, InsertedOld, SectorDamaged, SlotCall, Attach, Sectors, Read, Write, Sync, SlotState, after_act, after_call, slot_state}
use Rattle.stair_rack.specs.Media.{has_sector}
use Rattle.stair_rack.specs.Offline.{IsAttached, IsHeld, WasPulled}
use Rattle.stair_rack.specs.Outside.{IsAct}
use Rattle.stair_rack.specs.Placed.{IsSlot}
use Rattle.stair_rack.specs.Sector.{Damaged, damaged, synced}
use Rattle.stair_rack.specs.Stretch.{NothingReturned, ReturnsNothing}
use Rattle.stair_rack.specs.declared.rack.Reply.TheVariants as reply
use Rattle.stair_rack.proofs.CrashLemmas.{CrashMayLeave-now, leaves_on}
use Rattle.stair_rack.proofs.KeptLemmas.{with_sector_cases}
use Rattle.stair_rack.proofs.MomentLemmas.{at_last, ran_none, ran_weakened}
use Rattle.stair_rack.proofs.OfflineLemmas.{and-true_left, reply_if-Done}
use Rattle.stair_rack.proofs.StepLemmas.{slot_act_cases, slot_call_cases}
use Rattle.stair_rack.proofs.StretchLemmas.{kept_where}
use Rattle.stair_member.specs.Epochs.{IsTaken}
use Rattle.stair_member.specs.Membership.{Membership, IsHere, why_of}
use Rattle.stair_member.specs.declared.why.Why.TheVariants as why
use Rattle.stair_journal.specs.Gate.{ReadsClosed}
use Rattle.stair_state.specs.Blocks.{Codewords}
use Rattle.stair_state.specs.Recovering.{IsShut}
use Rattle.stair_state.specs.Redoing.{AtRest, AttachesNone, Done, IsIn, Redoing, WritesNone}
use Rattle.stair_state.specs.Represents.{IsLargeEnough}
use Rattle.stair_state.proofs.FormLemmas.{good_whole}
use Rattle.stair_state.proofs.RedoFormLemmas.{slot_again}
use Rattle.stair_state.proofs.StageLemmas.{is_in, slot_in}
use Rattle.stair_state.proofs.RedoPhaseLemmas.{held_full_on, large_some}
use Rattle.stair_state.proofs.RedoRunLemmas.{unwritten}
use Rattle.stair_invariant.specs.Changing.{IsAttachedOrBare}
use Rattle.stair_invariant.specs.InSession.{HasEpoch, IsBehindPlaces, IsBeside, IsBesideEpochs, IsInSession}
use Rattle.stair_invariant.specs.Session.{ServesSlot}
use Rattle.stair_invariant.proofs.KnownLemmas.{attached_before, begun_on, reached_on}
use Rattle.stair_invariant.proofs.RebaseLemmas.{shut_now, stage_now}

-- A SLOT THAT ISN'T IN USE

abbrev pub IsOff : SlotState → Type 0
IsOff b = (b.attached ≡ false) × ((k : ℕ) → b.sector k ≡ damaged)

abbrev pub IsOwn : SlotState → Type 0
IsOwn b = ((b.attached ≡ true) × IsSome b.size) ⊎ IsOff b

pub off_act : (h : List Happening) (j : ℕ) (b : SlotState) (a : SlotAct) → ReturnsNothing h (Acted j a) → IsOff b → IsOff (after_act a b)
off_act h j b (Pulled medium) none off = (refl, λ k. refl)
off_act h j b (InsertedBlank size) none off = (off.0, λ k. refl)
off_act h j b (InsertedOld i) none off = absurd none
off_act h j b (SectorDamaged l) none off =
    (off.0, λ k. with_sector_cases (λ s. s ≡ damaged) l k damaged b (λ at. refl) (off.1 k))

pub off_call : (h : List Happening) (j : ℕ) (c : SlotCall) → AttachesNone (λ i. i ≡ j) j c → IsAnswered h j c → IsOff (slot_state h j)
    → IsOff (after_call c (slot_state h j))
off_call h j (Attach answer) may answered off = absurd (may refl)
off_call h j (Sectors size) may answered off = off
off_call h j (Read k answer) may answered off = off
off_call h j (Write k bytes reply.Done) may answered off =
    let both = reply_if-Done _ answered in
    let ready = and-true_left (is_ready h j) (has_sector (slot_state h j).size k) both in
    absurd (false≢true (sym off.0 ∙ and-true_left (slot_state h j).attached _ ready))
off_call h j (Write k bytes reply.Gone) may answered off = off
off_call h j (Sync reply.Done) may answered off = (off.0, λ k. ap synced (off.1 k))
off_call h j (Sync reply.Gone) may answered off = off

pub own_act : (h : List Happening) (j : ℕ) (b : SlotState) (a : SlotAct) → ReturnsNothing h (Acted j a) → IsOwn b → IsOwn (after_act a b)
own_act h j b a none (inr off) = inr (off_act h j b a none off)
own_act h j b (Pulled medium) none (inl on) = inr (refl, λ k. refl)
own_act h j b (InsertedBlank size) none (inl on) = inl (on.0, refl)
own_act h j b (InsertedOld i) none (inl on) = absurd none
own_act h j b (SectorDamaged l) none (inl on) = inl on

pub own_call : (h : List Happening) (j : ℕ) (c : SlotCall) → AttachesNone (λ i. i ≡ j) j c → IsAnswered h j c → IsOwn (slot_state h j)
    → IsOwn (after_call c (slot_state h j))
own_call h j c may answered (inr off) = inr (off_call h j c may answered off)
own_call h j (Attach answer) may answered (inl on) = absurd (may refl)
own_call h j (Sectors size) may answered (inl on) = inl on
own_call h j (Read k answer) may answered (inl on) = inl on
own_call h j (Write k bytes reply.Done) may answered (inl on) = inl on
own_call h j (Write k bytes reply.Gone) may answered (inl on) = inl on
own_call h j (Sync reply.Done) may answered (inl on) = inl on
own_call h j (Sync reply.Gone) may answered (inl on) = inl on

-- while it isn't attached, and no medium comes back
pub kept_so : (P : SlotState → Type 0) (old new : List Happening) (j : ℕ)
    → ((h : List Happening) (b : SlotState) (a : SlotAct) → ReturnsNothing h (Acted j a) → P b → P (after_act a b))
    → ((h : List Happening) (c : SlotCall) → AttachesNone (λ i. i ≡ j) j c → IsAnswered h j c → P (slot_state h j) → P (after_call c (slot_state h j)))
    → Ran (AttachesNone (λ i. i ≡ j)) old new → NothingReturned old new → P (slot_state old j) → P (slot_state new j)
kept_so P old new j acts calls ran none start =
    at_last {P = λ h. P (slot_state h j)}
    (kept_where {P = ReturnsNothing} {allowed = AttachesNone (λ i. i ≡ j)} {R = λ h. P (slot_state h j)} (record { act = on_act; call = on_call }) ran none start)
  where
    on_act : (h : List Happening) (e : Happening) → IsAct h e → ReturnsNothing h e → P (slot_state h j) → P (slot_state (e ∷ h) j)
    on_act h (Made image) may nothing is = absurd may
    on_act h Stopped may nothing is = is
    on_act h (Acted i a) may nothing is =
        slot_act_cases P h i j a (λ same. acts h (slot_state h j) a (subst (λ x. ReturnsNothing h (Acted x a)) same nothing) is) is
    on_act h (Called i c) may nothing is = absurd may

    on_call : (h : List Happening) (i : ℕ) (c : SlotCall) → AttachesNone (λ x. x ≡ j) i c → IsAnswered h i c → ReturnsNothing h (Called i c) → P (slot_state h j)
        → P (slot_state (Called i c ∷ h) j)
    on_call h i c may answered nothing is =
        slot_call_cases P h i j c
        (λ same. calls h c (subst (λ x. AttachesNone (λ y. y ≡ j) x c) same may) (subst (λ x. IsAnswered h x c) same answered) is) is

-- AN EPOCH

abbrev nothing : Option ℕ
nothing = None

pub own_on : (old new : List Happening) (j : ℕ) → Ran (AttachesNone (λ i. i ≡ j)) old new → NothingReturned old new → IsAttachedOrBare old j → IsAttachedOrBare new j
own_on old new j ran none own = kept_so IsOwn old new j (λ h b a. own_act h j b a) (λ h c. own_call h j c) ran none own

-- a slot that is attached was so,
pub attached_on : (old new : List Happening) (j : ℕ) → Ran (AttachesNone (λ i. i ≡ j)) old new → IsAttached new j → IsAttached old j
attached_on old new j ran on = (attached_before {some = λ i. i ≡ j} j refl ran on).0

-- and its medium is the one that it had
pub medium_on_it : (old new : List Happening) (j : ℕ) → Ran (AttachesNone (λ i. i ≡ j)) old new → IsAttached new j → ¬ WasPulled old new j
medium_on_it old new j ran on = (attached_before {some = λ i. i ≡ j} j refl ran on).1

-- Whichever media come back, calls beside the epochs attach no slot that takes part, and leave a closed gate so.
module _ (m : Membership) (old new : List Happening) (ran : Ran (IsBesideEpochs m) old new) where
  pub free_of : (j : ℕ) → IsHere m j → Ran (AttachesNone (λ i. i ≡ j)) old new
  free_of j here =
      ran_weakened {allowed = IsBesideEpochs m} {more = AttachesNone (λ i. i ≡ j)} (λ i c may same. may.attaches (subst (IsHere m) (sym same) here)) ran

  pub shut_beside : ((j : ℕ) → j < m.array.geometry.n → why_of m j ≡ why.Rebuilding → IsAttached old j → IsShut m.array.geometry old old j)
      → (j : ℕ) → j < m.array.geometry.n → why_of m j ≡ why.Rebuilding → IsAttached new j → IsShut m.array.geometry new new j
  shut_beside shut j below rebuilt on =
      let takes : IsHere m j = record { below = below; why = inr rebuilt } in
      shut_now m.array.geometry j old new (medium_on_it old new j (free_of j takes) on)
      (leaves_on {allowed = IsBesideEpochs m} {Q = ReadsClosed m.array.geometry} {Base = ReadsClosed m.array.geometry}
      (slot_state old j).pulls j gate_sector (record {
        damage = harmed;
        under_damage = harmed;
        write = λ bytes may. absurd (may.gate below rebuilt bytes reply.Done refl);
        cut = λ bytes cell may under. absurd (may.gate below rebuilt bytes reply.Done refl);
        sync = λ cell may holds. holds;
      }) ran (shut j below rebuilt (attached_on old new j (free_of j takes) on)))
    where
      harmed : ReadsClosed m.array.geometry Damaged
      harmed other opened = good_whole opened.good refl

module _ (m : Membership) (old new : List Happening) (is : HasEpoch m old) (ran : Ran (IsBesideEpochs m) old new)
    (none : NothingReturned old new) where
  behind : Ran IsBehindPlaces old new
  behind = ran_weakened {allowed = IsBesideEpochs m} {more = IsBehindPlaces} (λ i c may. may.behind) ran

  pub unattached : (j : ℕ) → IsHere m j → Ran (AttachesNone (λ i. i ≡ j)) old new
  unattached = free_of m old new ran

  -- What a session keeps of its epoch stays so.
  pub epoch_kept : HasEpoch m new
  epoch_kept = record {
    begun =
        begun_on nothing m old new is.begun behind none
        (ran_weakened {allowed = IsBesideEpochs m} {more = AttachesNone (IsTaken nothing m)}
        (λ i c may taken. may.attaches (elim taken [ inl here ↦ here | inr joins ↦ let never : nothing ≡ Some i = joins.0 in absurd (cc) ])) ran);
    marks = is.marks;
    reached = reached_on nothing m old new is.begun behind none (IsHere m) (is.reached (image_now old) (CrashMayLeave-now old));
    own = λ j here. own_on old new j (unattached j here) none (is.own j here);
    shut = shut_beside m old new ran is.shut;
  }

-- A SESSION

pub epoch_of : (m : Membership) (words : Codewords) (h : List Happening) → IsInSession m words h → HasEpoch m h
epoch_of m words h is = record { begun = is.begun; marks = is.marks; reached = is.reached; own = is.own; shut = is.shut }

pub opens : (m : Membership) (words : Codewords) (h : List Happening) → HasEpoch m h
    → ((j : ℕ) → j < m.array.geometry.n → why_of m j ≡ why.Here → IsAttached h j → ServesSlot m.array.geometry words h j) → IsInSession m words h
opens m words h is live = record { begun = is.begun; marks = is.marks; reached = is.reached; own = is.own; live = live; shut = is.shut }

-- a slot on which a redo is done serves with its new stripes
pub served : (a : Redoing) (start h : List Happening) (j : ℕ) → IsIn a Done (IsSlot j) start h → ¬ WasPulled start h j
    → IsLargeEnough a.geometry (slot_state h j).size → ServesSlot a.geometry a.new h j
served a start h j is stays large = record {
  rests = λ redo after.
      let b : Redoing = record { geometry = a.geometry; redo = redo; old = a.new; new = after } in
      stage_now b AtRest (IsSlot j) (IsSlot j) start h
      (is_in b AtRest (IsSlot j) start h (λ i on. slot_again a b start h i refl refl (slot_in a Done (IsSlot j) start h is i on)))
      (λ i on. (on, subst (λ (x : ℕ). ¬ WasPulled start h x) (sym on) stays));
  large = large;
}

-- a medium that is held is as large as it was
pub large_on : (g : Geometry) (old new : List Happening) (j : ℕ) → Ran (AttachesNone (λ i. i ≡ j)) old new → IsAttached old j → IsAttached new j
    → IsLargeEnough g (slot_state old j).size → IsLargeEnough g (slot_state new j).size
large_on g old new j ran was on large =
    elim
    (held_full_on g (λ i. i ≡ j) old old new j refl (ran_none old) ran
    (record {
      held = IsHeld.InUse was (large_some g (slot_state old j).size large) (omega arith);
      full = inr large;
      same = λ attached pulled. omega (arith, pulled);
    })).full [
      | inl pulled ↦ absurd (medium_on_it old new j ran on pulled)
      | inr now ↦ now
    ]

-- Whichever media come back, calls beside its epochs and its redos leave a slot serving.
module _ (m : Membership) (words : Codewords) (old new : List Happening) (ran : Ran (IsBeside m) old new) where
  pub epochs : Ran (IsBesideEpochs m) old new
  epochs = ran_weakened {allowed = IsBeside m} {more = IsBesideEpochs m} (λ i c may. may.epochs) ran

  free : (j : ℕ) → IsHere m j → Ran (AttachesNone (λ i. i ≡ j)) old new
  free = free_of m old new epochs

  pub was_attached : (j : ℕ) → IsHere m j → IsAttached new j → IsAttached old j
  was_attached j here on = attached_on old new j (free j here) on

  pub kept_medium : (j : ℕ) → IsHere m j → IsAttached new j → ¬ WasPulled old new j
  kept_medium j here on = medium_on_it old new j (free j here) on

  spared : (j : ℕ) → j < m.array.geometry.n → why_of m j ≡ why.Here → Ran (WritesNone (IsSlot j)) old new
  spared j below here =
      ran_weakened {allowed = IsBeside m} {more = WritesNone (IsSlot j)} (λ i c may. spares i c may.spares) ran
    where
      spares : (i : ℕ) (c : SlotCall) → WritesNone (λ x. (x < m.array.geometry.n) × (why_of m x ≡ why.Here)) i c → WritesNone (IsSlot j) i c
      spares i (Attach answer) may = tt
      spares i (Sectors size) may = tt
      spares i (Read k answer) may = tt
      spares i (Write k bytes answer) may = λ same. may (subst (λ x. (x < m.array.geometry.n) × (why_of m x ≡ why.Here)) (sym same) (below, here))
      spares i (Sync answer) may = tt

  pub live_beside : ((j : ℕ) → j < m.array.geometry.n → why_of m j ≡ why.Here → IsAttached old j → ServesSlot m.array.geometry words old j)
      → (j : ℕ) → j < m.array.geometry.n → why_of m j ≡ why.Here → IsAttached new j → ServesSlot m.array.geometry words new j
  live_beside live j below here on =
      let takes : IsHere m j = record { below = below; why = inl here } in
      let was = was_attached j takes on in
      let serves = live j below here was in
      record {
        rests = λ redo after.
            stage_now (record { geometry = m.array.geometry; redo = redo; old = words; new = after }) AtRest (IsSlot j) (IsSlot j) old new
            (at_last
            (unwritten (record { geometry = m.array.geometry; redo = redo; old = words; new = after }) (IsSlot j) old AtRest old new (serves.rests redo after) (spared j below here)))
            (λ i on_it. (on_it, subst (λ (x : ℕ). ¬ WasPulled old new x) (sym on_it) (kept_medium j takes on)));
        large = large_on m.array.geometry old new j (free j takes) was on serves.large;
      }

-- What a session keeps stays so.
pub beside : (m : Membership) (words : Codewords) (old new : List Happening) → IsInSession m words old → Ran (IsBeside m) old new
    → NothingReturned old new → IsInSession m words new
beside m words old new is ran none =
    opens m words new (epoch_kept m old new (epoch_of m words old is) (epochs m words old new ran) none)
    (live_beside m words old new ran is.live)

-- A REDO

-- Once a redo is done on its live slots, which wrote neither superblocks nor gates of slots that are rebuilt, the session holds
-- its new stripes.
module _ (a : Redoing) (m : Membership) (live : ℕ → Type 0) (old new : List Happening) (is : IsInSession m a.old old) (same : a.geometry ≡ m.array.geometry)
    (ran : Ran (IsBesideEpochs m) old new) (none : NothingReturned old new) (done : IsIn a Done live old new)
    (all : (j : ℕ) → j < m.array.geometry.n → why_of m j ≡ why.Here → IsAttached new j → live j) where
  live_done : (j : ℕ) → j < m.array.geometry.n → why_of m j ≡ why.Here → IsAttached new j → ServesSlot m.array.geometry a.new new j
  live_done j below here on =
      let takes : IsHere m j = record { below = below; why = inl here } in
      let free = unattached m old new (epoch_of m a.old old is) ran none j takes in
      let was = attached_on old new j free on in
      let large = large_on m.array.geometry old new j free was on (is.live j below here was).large in
      subst (λ (g : Geometry). ServesSlot g a.new new j) same
      (served a old new j
      (is_in a Done (IsSlot j) old new (λ i on_it. slot_in a Done live old new done i (subst live (sym on_it) (all j below here on))))
      (medium_on_it old new j free on) (subst (λ (g : Geometry). IsLargeEnough g (slot_state new j).size) (sym same) large))

  pub redone : IsInSession m a.new new
  redone = opens m a.new new (epoch_kept m old new (epoch_of m a.old old is) ran none) live_done
