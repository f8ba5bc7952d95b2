-- What holds of a medium while it is in use holds of it wherever it lies.
use Rattle.std.proofs.Common.{◌≡◌, ℕ, ◌<◌, List, [], ◌∷◌, ◌++◌, ◌⊎◌, inl, inr, refl, sym, ap, ◌∙◌, subst, arith, true, false, slice_get, Option, Some}
use Rattle.std.specs.Prelude.{IsSome, ◌&&◌, not, length}
use Rattle.std.proofs.lemmas.Bool.{cases_Bool, cases_eq, cases_lt, cond-true, cond-false, false≢true}
use Rattle.std.proofs.lemmas.Option.{slice_get_cases}
use Rattle.std.proofs.lemmas.Option.{same_Some}
use Rattle.stair_rack.specs.Answers.{IsAnswered, IsCall, IsHistory, IsNoAttach, Ran, Runs, is_ready}
use Rattle.stair_rack.specs.Crash.{CrashMayLeave, SlotMayLeave}
use Rattle.stair_rack.specs.History.{Happening, Made, Stopped, Acted, Called, SlotAct, Pulled, InsertedBlank, InsertedOld, SectorDamaged, SlotCall, Attach, Sectors, Read, Write, Sync, SlotState, after_act, after_call, slot_state, stopped, with_old}
use Rattle.stair_rack.specs.Media.{Image, Medium, SlotImage, has_sector}
use Rattle.stair_rack.specs.Moments.{IsMoment}
use Rattle.stair_rack.specs.Offline.{Here, IsAttached, IsKept, Lost, WasPulled}
use Rattle.stair_rack.specs.Outside.{IsAct, MayHappen}
use Rattle.stair_rack.specs.Sector.{Cell, Damaged, MayLeave, Sector}
use Rattle.stair_rack.specs.declared.rack.Reply.TheVariants as reply
use Rattle.stair_rack.proofs.CrashLemmas.{settled_left}
use Rattle.stair_rack.proofs.MomentLemmas.{moment_first, moment_last, ran_before}
use Rattle.stair_rack.proofs.OfflineLemmas.{and-true_left, reply_if-Done}
use Rattle.stair_rack.proofs.StepLemmas.{Keeps, kept}
use Rattle.stair_state.specs.Degraded.{AreDamagedCopies, Taken, Blank, Stays}
use Rattle.stair_state.specs.Reassembly.{InSlot, IsMediumOf, Location, Outside, before_return}
use Rattle.stair_state.specs.Represents.{no_write}
use Rattle.stair_state.proofs.DegradedLemmas.{copies_again, copies_damaged}
use Rattle.stair_state.proofs.OutsideLemmas.{look_left, slot_before, slot_now, slot_now_left}
use Rattle.stair_state.proofs.ReturnLemmas.{before_gap, outside_once, pulled_last, pulled_other, pushed_cases, removed_was, sectors_left}
use Rattle.stair_reinsert.specs.Following.{AreOfNamed, Kept, SurvivesDamage, Wherever, before_act, name_of}
use Rattle.stair_reinsert.proofs.NameLemmas.{attached_name, name_apart, named_act_cases, named_call_cases, not_outside, same_pulls, still_attached, unpulled_name}

-- A CALL, AND A MEDIUM THAT WAS PUT BACK

pub call_removed : (c : SlotCall) (b : SlotState) → (after_call c b).removed ≡ b.removed
call_removed (Attach reply.Done) b = refl
call_removed (Attach reply.Gone) b = refl
call_removed (Sectors size) b = refl
call_removed (Read k answer) b = refl
call_removed (Write k bytes reply.Done) b = refl
call_removed (Write k bytes reply.Gone) b = refl
call_removed (Sync reply.Done) b = refl
call_removed (Sync reply.Gone) b = refl

-- of a slot that isn't attached then a call leaves the sectors
call_left : (h : List Happening) (j : ℕ) (c : SlotCall) → IsAnswered h j c → (after_call c (slot_state h j)).attached ≡ false → (image : SlotImage)
    → SlotMayLeave (after_call c (slot_state h j)) image → SlotMayLeave (slot_state h j) image
call_left h j (Attach reply.Done) answered off image left = absurd (false≢true (sym off))
call_left h j (Attach reply.Gone) answered off image left = record { size = left.size; each = left.each; removed = left.removed }
call_left h j (Sectors size) answered off image left = left
call_left h j (Read k answer) answered off image left = left
call_left h j (Write k bytes reply.Done) answered off image left =
    let both = reply_if-Done (is_ready h j && has_sector (slot_state h j).size k) answered in
    let ready = and-true_left (is_ready h j) (has_sector (slot_state h j).size k) both in
    absurd (false≢true (sym off ∙ and-true_left (slot_state h j).attached (not (stopped h)) ready))
call_left h j (Write k bytes reply.Gone) answered off image left = left
call_left h j (Sync reply.Done) answered off image left =
    let ready = reply_if-Done (is_ready h j) answered in
    absurd (false≢true (sym off ∙ and-true_left (slot_state h j).attached (not (stopped h)) ready))
call_left h j (Sync reply.Gone) answered off image left = left

-- what holds of the size and the cells of a medium, also once some were damaged
module _ (j : ℕ) (name : Location) (Q : ℕ → (ℕ → Cell) → Type 0) (survives : (n : ℕ) → SurvivesDamage (Q n)) where
  -- of the slot's medium of that name, as the slot stands
  pub record Holds (b : SlotState) (names : Location → Location) : Type 0 where
    pub inside : names InSlot ≡ name → (image : SlotImage) → SlotMayLeave b image → (n : ℕ) → image.size ≡ Some n → Q n image.cell
    pub outside : (i : ℕ) (m : Medium) → names (Outside i) ≡ name → slice_get b.removed i ≡ Some m → Q m.size m.cell

  -- AN ACT

  holds_pulled : (b : SlotState) (names : Location → Location) (m : Medium) → MayHappen b (Pulled m) → Holds b names
      → Holds (after_act (Pulled m) b) (λ p. names (before_act (Pulled m) b p))
  holds_pulled b names m settles holds = record {
    inside = λ named image left n has. (survives n).blank image.cell (λ k. settled_left Damaged (image.cell k) (left.each k));
    outside = λ i x named at.
        elim (pushed_cases b.removed m x i at) [
          | inl last ↦
              subst (λ (y : Medium). Q y.size y.cell) last.1
              (holds.inside (sym (ap names (pulled_last (length b.removed) i last.0)) ∙ named)
              (record { size = b.size; cell = m.cell; removed = b.removed })
              (record { size = refl; each = settles.each; removed = refl }) m.size settles.size)
          | inr other ↦ holds.outside i x (sym (ap names (pulled_other (length b.removed) i other.0)) ∙ named) other.1
        ];
  }

  holds_returned : (b : SlotState) (names : Location → Location) (i : ℕ) (m : Medium) → i < length b.removed → slice_get b.removed i ≡ Some m
      → Holds b names → Holds (with_old i (Some m) b) (λ p. names (before_return i p))
  holds_returned b names i m below at holds = record {
    inside = λ named image left n has.
        subst (λ (size : ℕ). Q size image.cell) (same_Some m.size n (sym left.size ∙ has))
        ((survives m.size).harmed m.cell image.cell (λ k. sectors_left (Some m.size) m.cell k (image.cell k) (left.each k)) (holds.outside i m named at));
    outside = λ k x named here. holds.outside (before_gap i k) x named (sym (removed_was b.removed i k below) ∙ here);
  }

  -- an act by which no medium moves
  holds_staying : (b : SlotState) (names : Location → Location) (a : SlotAct) → (after_act a b).removed ≡ b.removed
      → (names InSlot ≡ name → (image : SlotImage) → SlotMayLeave (after_act a b) image → (n : ℕ) → image.size ≡ Some n → Q n image.cell) → Holds b names
      → Holds (after_act a b) names
  holds_staying b names a same now holds = record {
    inside = now;
    outside = λ i m named at. holds.outside i m named (subst (λ xs. slice_get xs i ≡ Some m) same at);
  }

  holds_act : (b : SlotState) (names : Location → Location) (a : SlotAct) → MayHappen b a → Holds b names
      → Holds (after_act a b) (λ p. names (before_act a b p))
  holds_act b names (Pulled m) may holds = holds_pulled b names m may holds
  holds_act b names (InsertedBlank size) may holds =
      holds_staying b names (InsertedBlank size) refl
      (λ named image left n has. (survives n).blank image.cell (λ k. settled_left Damaged (image.cell k) (left.each k))) holds
  holds_act b names (InsertedOld i) may holds =
      elim (slice_get_cases b.removed i).1 [
        | inl at ↦
            subst (λ (o : Option Medium). Holds (with_old i o b) (λ p. names (before_return i p))) (sym at.2)
            (holds_returned b names i at.0 may.1 at.2 holds)
        | inr past ↦ absurd (omega (arith, past.0, may.1))
      ]
  holds_act b names (SectorDamaged l) may holds = holds_staying b names (SectorDamaged l) refl by holds
    where
      by : names InSlot ≡ name → (image : SlotImage) → SlotMayLeave (after_act (SectorDamaged l) b) image → (n : ℕ) → image.size ≡ Some n → Q n image.cell
      by named image left n is =
          let from = slot_before [] 0 b (SectorDamaged l) tt image left in
          elim from.degraded [
            | Taken none all ↦ (survives n).blank image.cell all
            | Blank size has all ↦ (survives n).blank image.cell all
            | Stays size copies ↦ (survives n).harmed from.was.cell image.cell copies (holds.inside named from.was from.left n (sym size ∙ is))
          ]

  -- A CALL

  -- at a moment, where the slot is attached and holds that medium
  abbrev pub HoldsInUse : List Happening → Type 0
  HoldsInUse x = IsAttached x j → name_of x j InSlot ≡ name → (image : SlotImage) → SlotMayLeave (slot_state x j) image → (n : ℕ)
      → image.size ≡ Some n → Q n image.cell

  holds_call : (h : List Happening) (c : SlotCall) → IsAnswered h j c
      → ((after_call c (slot_state h j)).attached ≡ true → name_of h j InSlot ≡ name → (image : SlotImage)
      → SlotMayLeave (after_call c (slot_state h j)) image → (n : ℕ) → image.size ≡ Some n → Q n image.cell)
      → Holds (slot_state h j) (name_of h j) → Holds (after_call c (slot_state h j)) (name_of h j)
  holds_call h c answered used holds = record {
    inside = λ named image left n has.
        elim (cases_Bool (after_call c (slot_state h j)).attached) [
          | inl on ↦ used on named image left n has
          | inr off ↦ holds.inside named image (call_left h j c answered off image left) n has
        ];
    outside = λ i m named at. holds.outside i m named (subst (λ xs. slice_get xs i ≡ Some m) (call_removed c (slot_state h j)) at);
  }

  -- THROUGHOUT

  pub act_holds : (h : List Happening) (e : Happening) → IsAct h e → Holds (slot_state h j) (name_of h j)
      → Holds (slot_state (e ∷ h) j) (name_of (e ∷ h) j)
  act_holds h (Made image) act holds = absurd act
  act_holds h Stopped act holds = holds
  act_holds h (Acted i a) act holds =
      named_act_cases Holds h i j a
      (λ same. holds_act (slot_state h j) (name_of h j) a (subst (λ n. MayHappen (slot_state h n) a) same act.1) holds) holds
  act_holds h (Called i c) act holds = absurd act

  next_holds : (allowed : ℕ → SlotCall → Type 0) (h : List Happening) (e : Happening) → IsAct h e ⊎ IsCall allowed h e → HoldsInUse (e ∷ h)
      → Holds (slot_state h j) (name_of h j) → Holds (slot_state (e ∷ h) j) (name_of (e ∷ h) j)
  next_holds allowed h e (inl act) used holds = act_holds h e act holds
  next_holds allowed h (Made image) (inr call) used holds = absurd call
  next_holds allowed h Stopped (inr call) used holds = absurd call
  next_holds allowed h (Acted i a) (inr call) used holds = absurd call
  next_holds allowed h (Called i c) (inr call) used holds =
      elim (cases_eq i j) [
        | inl same ↦
            named_call_cases Holds h i j c
            (λ at.
            holds_call h c (subst (λ n. IsAnswered h n c) same call.1)
            (λ on named image left n has.
            used (subst (λ (b : SlotState). b.attached ≡ true) (sym (state same)) on) named image
            (subst (λ (b : SlotState). SlotMayLeave b image) (sym (state same)) left) n has) holds) holds
        | inr other ↦ named_call_cases Holds h i j c (λ same. absurd (other same)) holds
      ]
    where
      state : i ≡ j → slot_state (Called i c ∷ h) j ≡ after_call c (slot_state h j)
      state same = cond-true _ _ _ (Rattle.std.proofs.lemmas.Bool.eq-eqb i j same)

  holds_on : (allowed : ℕ → SlotCall → Type 0) (more start : List Happening) → Runs allowed more start
      → ((x : List Happening) → IsMoment start x (more ++ start) → HoldsInUse x) → Holds (slot_state start j) (name_of start j)
      → Holds (slot_state (more ++ start) j) (name_of (more ++ start) j)
  holds_on allowed [] start runs used holds = holds
  holds_on allowed (e ∷ more) start runs used holds =
      next_holds allowed (more ++ start) e runs.1 (used (e ∷ (more ++ start)) (moment_last (e ∷ more) refl))
      (holds_on allowed more start runs.0
      (λ x at. used x (record { before = at.before; later = e ∷ at.later; from = at.from; to = ap (λ (h : List Happening). e ∷ h) at.to })) holds)

  -- calls that write nothing keep it
  pub looks_keep : Keeps no_write (λ h. Holds (slot_state h j) (name_of h j))
  looks_keep = record {
    act = act_holds;
    call = λ h i c may answered holds. named_call_cases Holds h i j c (λ same. on_call h i c may holds) holds;
  }
    where
      on_call : (h : List Happening) (i : ℕ) (c : SlotCall) → no_write i c → Holds (slot_state h j) (name_of h j)
          → Holds (after_call c (slot_state h j)) (name_of h j)
      on_call h i c may holds = record {
        inside = λ named image left n has. holds.inside named image (look_left (slot_state h j) i c may image left) n has;
        outside = λ k m named at. holds.outside k m named (subst (λ xs. slice_get xs k ≡ Some m) (call_removed c (slot_state h j)) at);
      }

  -- wherever it lies
  pub holds_wherever : {allowed : ℕ → SlotCall → Type 0} {start h : List Happening} → Ran allowed start h
      → ((x : List Happening) → IsMoment start x h → HoldsInUse x) → Holds (slot_state start j) (name_of start j) → (image : Image)
      → CrashMayLeave h image → (p : Location) (medium : Medium) → IsMediumOf (image j) p medium → name_of h j p ≡ name → Q medium.size medium.cell
  holds_wherever {allowed} {start} {h} ran used holds image left p medium is named = by p is named
    where
      at_end : Holds (slot_state h j) (name_of h j)
      at_end =
          subst (λ (x : List Happening). Holds (slot_state x j) (name_of x j)) (sym ran.is)
          (holds_on allowed ran.more start ran.runs (λ x at. used x (subst (λ (y : List Happening). IsMoment start x y) (sym ran.is) at)) holds)

      by : (p : Location) → IsMediumOf (image j) p medium → name_of h j p ≡ name → Q medium.size medium.cell
      by InSlot is named = subst (Q medium.size) is.1 (at_end.inside named (image j) (left j) medium.size is.0)
      by (Outside i) is named = at_end.outside i medium named (subst (λ xs. slice_get xs i ≡ Some medium) (left j).removed is)

-- OF THE MEDIUM IN THE SLOT

-- what a crash leaves of a sector that is kept so, on the medium that it was
pub kept_left : {P : Sector → Type 0} (Q : Cell → Type 0) (pulls k : ℕ) (b : SlotState) (image : SlotImage) → Q Damaged
    → ((cell : Cell) → P (b.sector k) → MayLeave (b.sector k) cell → Q cell) → b.pulls ≡ pulls → SlotMayLeave b image → IsKept pulls k P b
    → Q (image.cell k)
kept_left Q pulls k b image harmed each same left (Here pulls_are some (inl is)) =
    subst Q (sym (settled_left Damaged (image.cell k) (subst (λ s. MayLeave s (image.cell k)) is (left.each k)))) harmed
kept_left Q pulls k b image harmed each same left (Here pulls_are some (inr holds)) = each (image.cell k) holds (left.each k)
kept_left Q pulls k b image harmed each same left (Lost less) = absurd (omega (arith, less, same))

-- it is in the slot from `start` to `from`, and no call attaches the slot from then on
pub own_wherever : (j : ℕ) (Q : (ℕ → Cell) → Type 0) → SurvivesDamage Q → {allowed : ℕ → SlotCall → Type 0} {start from h : List Happening}
    → IsSome (slot_state start j).size → Ran allowed start from → ¬ WasPulled start from j → Ran (IsNoAttach j) from h
    → ((x : List Happening) → IsMoment from x h → (slot_state x j).pulls ≡ (slot_state start j).pulls → (image : SlotImage)
    → SlotMayLeave (slot_state x j) image → Q image.cell) → Wherever h j (name_of start j InSlot) Q
own_wherever j Q survives {allowed} {start} {from} {h} some upto unpulled after each =
    holds_wherever j (name_of start j InSlot) (λ n. Q) (λ n. survives) {allowed = IsNoAttach j} after
    (λ x at on named image left n has. each x at ((still_attached j (ran_before after at) on).1 ∙ same) image left)
    (record {
      inside = λ named image left n has. each from (moment_first after.more after.is) same image left;
      outside = λ i m named at. absurd (not_outside (name_apart from j (Outside i) InSlot (named ∙ sym name)));
    })
  where
    same : (slot_state from j).pulls ≡ (slot_state start j).pulls
    same = same_pulls {allowed = allowed} j upto unpulled

    name : name_of from j InSlot ≡ name_of start j InSlot
    name = unpulled_name {allowed = allowed} j upto some unpulled

-- OF A MEDIUM OUTSIDE

pub outside_wherever : (old new : List Happening) (j i : ℕ) (medium : Medium) → IsHistory old → Ran (IsNoAttach j) old new
    → slice_get (slot_state old j).removed i ≡ Some medium → Wherever new j (name_of old j (Outside i)) (AreDamagedCopies medium.cell)
outside_wherever old new j i medium history ran at =
    holds_wherever j (name_of old j (Outside i)) (λ n. AreDamagedCopies medium.cell) (λ n. survives) {allowed = IsNoAttach j} ran
    (λ x moment on named image left n has.
    absurd (not_outside (name_apart old j (Outside i) InSlot (sym named ∙ attached_name j history (ran_before ran moment) on))))
    (record {
      inside = λ named image left n has. absurd (not_outside (name_apart old j (Outside i) InSlot (sym named)));
      outside = λ k m named here.
          let same : k ≡ i = outside_once (name_apart old j (Outside k) (Outside i) named) in
          let one : medium ≡ m = same_Some medium m (sym at ∙ ap (slice_get (slot_state old j).removed) (sym same) ∙ here) in
          λ l. inl (ap (λ (x : Medium). x.cell l) (sym one));
    })
  where
    survives : SurvivesDamage (AreDamagedCopies medium.cell)
    survives = record {
      harmed = λ was is copies holds k. elim (copies k) [
        | inl same ↦ elim (holds k) [ inl own ↦ inl (same ∙ own) | inr harmed ↦ inr (same ∙ harmed) ]
        | inr harmed ↦ inr harmed
      ];
      blank = λ cell all k. inr (all k);
    }

-- WHILE A RACK IS LOOKED AT

named_survives : (old : List Happening) (j : ℕ) (name : Location) → SurvivesDamage (AreOfNamed old j name)
named_survives old j name = record { harmed = harmed; blank = λ cell all. AreOfNamed.Blank all }
  where
    harmed : (was is : ℕ → Cell) → AreDamagedCopies was is → AreOfNamed old j name was → AreOfNamed old j name is
    harmed was is copies (Kept first place medium left at named copied) = Kept first place medium left at named (copies_again copied copies)
    harmed was is copies (AreOfNamed.Blank all) = AreOfNamed.Blank (copies_damaged all copies)

pub looked_wherever : (old new : List Happening) (j : ℕ) (name : Location) → IsHistory old → Ran no_write old new
    → Wherever new j name (AreOfNamed old j name)
looked_wherever old new j name history ran image left p medium is named = by p is named
  where
    first : Holds j name (λ n. AreOfNamed old j name) (λ n. named_survives old j name) (slot_state old j) (name_of old j)
    first = record {
      inside = λ named image left n has.
          Kept image InSlot (record { size = n; cell = image.cell }) left (has, refl) named (λ k. inl refl);
      outside = λ i m named at. Kept (slot_now (slot_state old j)) (Outside i) m (slot_now_left (slot_state old j)) at named (λ k. inl refl);
    }

    at_end : Holds j name (λ n. AreOfNamed old j name) (λ n. named_survives old j name) (slot_state new j) (name_of new j)
    at_end =
        kept {allowed = no_write} {P = λ h. Holds j name (λ n. AreOfNamed old j name) (λ n. named_survives old j name) (slot_state h j) (name_of h j)}
        (looks_keep j name (λ n. AreOfNamed old j name) (λ n. named_survives old j name)) ran first

    by : (p : Location) → IsMediumOf (image j) p medium → name_of new j p ≡ name → AreOfNamed old j name medium.cell
    by InSlot is named = subst (AreOfNamed old j name) is.1 (at_end.inside named (image j) (left j) medium.size is.0)
    by (Outside i) is named = at_end.outside i medium named (subst (λ xs. slice_get xs i ≡ Some medium) (left j).removed is)
