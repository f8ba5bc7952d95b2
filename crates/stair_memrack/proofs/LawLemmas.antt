-- What the laws say of stretches, reads, media and phases.
use Rattle.std.proofs.Common.{◌≡◌, ◌≢◌, ℕ, ◌+◌, ◌<◌, ◌≤◌, Bool, if◌then◌else◌, true, false, List, [], ◌∷◌, ◌⊎◌, inl, inr, refl, sym, ap, ◌∙◌, subst, arith, length, length-append, Option, None, Some}
use Rattle.std.specs.Prelude.{◌==◌, ◌&&◌, ◌↔◌, nat_lt, IsTrue, IsSome, ⊤}
use Rattle.std.proofs.lemmas.Bool.{cases_lt, cond-true, eq-eqb, eqb-true, false≢true, ltb-true}
use Rattle.stair_rack.specs.Sector.{Cell, Good, Damaged, Torn, TornOverDamage, settled, content, torn}
use Rattle.stair_rack.specs.Media.{Image, has_sector}
use Rattle.stair_rack.specs.History.{SlotAct, Pulled, InsertedBlank, InsertedOld, SectorDamaged, SlotCall, Attach, Sectors, Read, Write, Sync, Happening, Made, Stopped, Acted, Called, SlotState, after_act, after_call, slot_state, stopped}
use Rattle.stair_rack.specs.Answers.{Calls, IsBesideAttach, IsHistory, IsNoAttach, Ran, any_call, is_good, is_readable, is_ready}
use Rattle.stair_rack.specs.Crash.{CrashMayLeave}
use Rattle.stair_rack.specs.EachMedium.{EachMedium}
use Rattle.stair_rack.specs.Moments.{AtEveryMoment, AtSomeMoment, IsMoment}
use Rattle.stair_rack.specs.Offline.{Here, ButForOutside, WasPulled}
use Rattle.stair_rack.specs.Outside.{IsAct}
use Rattle.stair_rack.specs.Passes.{Landed}
use Rattle.stair_rack.specs.Placed.{IsGoneSlot, IsSlot, Placed, one_write}
use Rattle.stair_rack.specs.PlacedInTurn.{PlacedInTurn, IsPlacing, AWrite, ASync}
use Rattle.stair_rack.specs.Reading.{WasRead}
use Rattle.stair_rack.specs.Stretch.{IsNoWrite, IsNoWriteTo, NoneWritten, NothingDamaged, NothingReturned, NothingWritten, ReturnsNothing, WasAnswered, every_slot}
use Rattle.stair_rack.specs.declared.rack.Got.{Got}
use Rattle.stair_rack.specs.declared.rack.Got.TheVariants as got
use Rattle.stair_rack.specs.declared.rack.Reply.{Reply}
use Rattle.stair_rack.specs.declared.rack.Reply.TheVariants as reply
use Rattle.stair_rack.proofs.StepLemmas.{slot_act_cases, slot_call_cases}
use Rattle.stair_rack.proofs.MomentLemmas.{IsThis, at_end, at_every_from, at_moment, at_some_wider, calls_ran, ran_join, ran_none, ran_weakened}
use Rattle.stair_rack.proofs.OfflineLemmas.{unready_on}
use Rattle.stair_rack.proofs.StretchLemmas.{IsUndamaged, Whole, answered_wider, but_for_pulls, call_answered, call_told, each_after, each_before, each_join, each_mapped, each_none, kept_where, none_written, ran_sparing, undamaged_throughout}
use Rattle.stair_rack.proofs.StandingLemmas.{has_lower, medium_on, settled_on, settled_or, settled_throughout, standing_on, standing_throughout, standing_while}
use Rattle.stair_rack.proofs.ReadLemmas.{read_answered, ready_unpulled, was_read_bad, was_read_found, was_read_gone, was_read_good, was_read_mapped, was_read_wider}
use Rattle.stair_rack.proofs.MediumLemmas.{EachMedium-mapped, MediumKeeps, media_left, media_made, media_throughout, media_while}
use Rattle.stair_rack.proofs.WritingLemmas.{SyncStep-call, WriteStep-call, writing_more, writing_none}
use Rattle.stair_rack.proofs.PlacedLemmas.{Placed-agrees, Placed-from, Placed-same}
use Rattle.stair_rack.proofs.KeepingLemmas.{phase_whole}
use Rattle.stair_rack.proofs.InTurnLemmas.{in_turn_more, in_turn_none, in_turn_same, in_turn_stop, in_turn_whole, phase_placing}
use Rattle.stair_memrack.specs.Terms.{HoldsNot, IsBelow, any_cell, by_slot, copies, no_sync, no_write, no_write_of}

-- STRETCHES

pub unwritten : (old mid now new : List Happening) → Ran no_write old mid → NothingWritten mid now → Ran no_write now new → NothingWritten old new
unwritten old mid now new before nothing after =
    each_join (none_written {allowed = no_write} {slots = every_slot} (λ j c may is_slot. may) before)
    (each_join nothing (none_written {allowed = no_write} {slots = every_slot} (λ j c may is_slot. may) after))

pub spared : (old new : List Happening) → Ran any_call old new → NothingWritten old new → Ran no_write old new
spared old new ran nothing =
    ran_weakened {allowed = λ j c. every_slot j → IsNoWrite c} {more = no_write} (λ j c is. is tt)
    (ran_sparing {allowed = any_call} {slots = every_slot} ran nothing)

fewer_slots : (j : ℕ) (h : List Happening) (e : Happening) → IsNoWriteTo every_slot h e → IsNoWriteTo (IsSlot j) h e
fewer_slots j h (Made image) is = tt
fewer_slots j h Stopped is = tt
fewer_slots j h (Acted i a) is = tt
fewer_slots j h (Called i c) is = λ same. is tt

pub parts : (old h new : List Happening) (j : ℕ) → NothingWritten old new → IsMoment old h new
    → NoneWritten (IsSlot j) old h × NoneWritten (IsSlot j) h new
parts old h new j nothing at =
    let none : NoneWritten (IsSlot j) old new = each_mapped {P = IsNoWriteTo every_slot} {Q = IsNoWriteTo (IsSlot j)} (fewer_slots j) nothing in
    (each_before none at, each_after none at)

stands_now : (old : List Happening) (j k : ℕ) (cell : Cell) → IsSome (slot_state old j).size → (slot_state old j).sector k ≡ settled cell
    → ButForOutside old old j k (λ s. s ≡ settled cell)
stands_now old j k cell some is = Here refl some (inr is)

pub survives : (old h new : List Happening) (image : Image) (j k : ℕ) (cell : Cell) → Ran no_write old new → IsMoment old h new → CrashMayLeave h image
    → IsSome (slot_state old j).size → (slot_state old j).sector k ≡ settled cell
    → WasPulled old h j ⊎ (((image j).cell k ≡ Damaged) ⊎ ((image j).cell k ≡ cell))
survives old h new image j k cell ran at left some is =
    settled_or old h image left j k cell
    (at_moment {P = λ g. ButForOutside old g j k (λ s. s ≡ settled cell)}
    (standing_throughout {allowed = no_write} (slot_state old j).pulls j k cell (λ bytes may. may) ran (stands_now old j k cell some is)) at)

pub undamaged : (old new : List Happening) (j k : ℕ) (bytes : List ℕ) → Ran any_call old new → NothingWritten old new → NothingDamaged old new
    → IsSome (slot_state old j).size → (slot_state old j).sector k ≡ settled (Good bytes)
    → AtEveryMoment (λ h. WasPulled old h j ⊎ ((slot_state h j).sector k ≡ settled (Good bytes))) old new
undamaged old new j k bytes ran nothing none some is =
    at_every_from {P = λ h. WasPulled old h j ⊎ ((slot_state h j).sector k ≡ settled (Good bytes))} ran.more ran.is
    (λ h at.
    but_for_pulls (at_moment {P = λ g. IsUndamaged pulls k (slot_state g j)} whole at)
    (at_moment {P = λ g. ButForOutside old g j k (λ s. s ≡ settled (Good bytes))} standing at))
  where
    pulls : ℕ
    pulls = (slot_state old j).pulls

    good : content ((slot_state old j).sector k) ≢ Damaged
    good damaged = let never : Good bytes ≡ Damaged = sym (ap content is) ∙ damaged in absurd (cc)

    whole : AtEveryMoment (λ h. IsUndamaged pulls k (slot_state h j)) old new
    whole = undamaged_throughout {allowed = any_call} pulls j k none ran (Whole refl some good)

    standing : AtEveryMoment (λ h. ButForOutside old h j k (λ s. s ≡ settled (Good bytes))) old new
    standing = standing_while {allowed = any_call} {slots = every_slot} pulls j k (Good bytes) tt nothing ran (stands_now old j k (Good bytes) some is)

some_size : (size : Option ℕ) (k : ℕ) → IsTrue (has_sector size k) → IsSome size
some_size None k has = absurd (false≢true has)
some_size (Some n) k has = refl

pub stays : (old new : List Happening) (j k l : ℕ) → Ran any_call old new → k ≤ l → IsTrue (has_sector (slot_state old j).size l)
    → IsTrue (has_sector (slot_state old j).size k) × ButForOutside old new j k (λ s. ⊤)
stays old new j k l ran least has =
    let size = (slot_state old j).size in
    (has_lower size k l least has, medium_on {allowed = any_call} j k ran (some_size size l has))

drawer_act : (n : ℕ) (h : List Happening) (j : ℕ) (b : SlotState) (a : SlotAct) → ReturnsNothing h (Acted j a) → n ≤ length b.removed
    → n ≤ length (after_act a b).removed
drawer_act n h j b (Pulled m) none before = omega (arith, length-append b.removed (m ∷ []), before)
drawer_act n h j b (InsertedBlank size) none before = before
drawer_act n h j b (InsertedOld i) none before = absurd none
drawer_act n h j b (SectorDamaged k) none before = before

drawer_call : (n : ℕ) (b : SlotState) (c : SlotCall) → n ≤ length b.removed → n ≤ length (after_call c b).removed
drawer_call n b (Attach reply.Done) before = before
drawer_call n b (Attach reply.Gone) before = before
drawer_call n b (Sectors size) before = before
drawer_call n b (Read k answer) before = before
drawer_call n b (Write k bytes reply.Done) before = before
drawer_call n b (Write k bytes reply.Gone) before = before
drawer_call n b (Sync reply.Done) before = before
drawer_call n b (Sync reply.Gone) before = before

pub drawers : (old new : List Happening) (j : ℕ) → Ran any_call old new → NothingReturned old new
    → AtEveryMoment (λ h. length (slot_state old j).removed ≤ length (slot_state h j).removed) old new
drawers old new j ran none =
    kept_where {P = ReturnsNothing} {allowed = any_call} {R = λ h. n ≤ length (slot_state h j).removed}
    (record {
      act = on_act;
      call = λ h i c may answered is before.
          slot_call_cases (λ b. n ≤ length b.removed) h i j c (λ same. drawer_call n (slot_state h j) c before) before;
    }) ran none (omega arith)
  where
    n : ℕ
    n = length (slot_state old j).removed

    on_act : (h : List Happening) (e : Happening) → IsAct h e → ReturnsNothing h e → n ≤ length (slot_state h j).removed
        → n ≤ length (slot_state (e ∷ h) j).removed
    on_act h (Made image) may is before = absurd may
    on_act h Stopped may is before = before
    on_act h (Acted i a) may is before =
        slot_act_cases (λ b. n ≤ length b.removed) h i j a
        (λ same. drawer_act n h j (slot_state h j) a (subst (λ m. ReturnsNothing h (Acted m a)) same is) before) before
    on_act h (Called i c) may is before = absurd may

-- READS

pub read_good : (old mid new : List Happening) (j k : ℕ) (bytes : List ℕ) → Calls old mid j (Read k got.Good)
    → content ((slot_state mid j).sector k) ≡ Good bytes → Ran any_call mid new
    → WasAnswered j (Read k got.Good) old new × Landed old new j k bytes × WasRead (λ cell. cell ≡ Good bytes) old new j k
read_good old mid new j k bytes called is after = (
  answered_wider {a = any_call} {b = any_call} (ran_none old) after (call_told old mid j (Read k got.Good) (λ gone. absurd (cc)) called),
  at_some_wider {a = any_call} {b = any_call} {P = λ h. content ((slot_state h j).sector k) ≡ Good bytes} (ran_none old) after
      (at_end {a = IsThis j (Read k got.Good)} {P = λ h. content ((slot_state h j).sector k) ≡ Good bytes} (calls_ran called) is),
  was_read_wider {a = any_call} {b = any_call} {Q = λ cell. cell ≡ Good bytes} (ran_none old) after (was_read_good (λ cell. cell ≡ Good bytes) called is),
)

no_bytes : (bytes : List ℕ) (cell : Cell) → is_good cell ≡ false → cell ≢ Good bytes
no_bytes bytes cell none is = false≢true (sym none ∙ ap is_good is)

pub read_bad : (old mid new : List Happening) (j k : ℕ) (bytes : List ℕ) → IsHistory old → Calls old mid j (Read k got.Bad) → Ran any_call mid new
    → WasAnswered j (Read k got.Bad) old new × AtSomeMoment (λ h. content ((slot_state h j).sector k) ≢ Good bytes) old new
read_bad old mid new j k bytes is_history called after = (
  answered_wider {a = any_call} {b = any_call} (ran_none old) after (call_told old mid j (Read k got.Bad) (λ gone. absurd (cc)) called),
  was_read_found {Q = λ cell. cell ≢ Good bytes}
      (was_read_mapped {Q = λ cell. is_good cell ≡ false} {R = λ cell. cell ≢ Good bytes} (no_bytes bytes)
      (was_read_wider {a = any_call} {b = any_call} {Q = λ cell. is_good cell ≡ false} (ran_none old) after (was_read_bad is_history called))),
)

pub read_gone : (old mid new : List Happening) (j k : ℕ) → Calls old mid j (Read k got.Gone) → Ran (IsNoAttach j) mid new
    → (is_ready new j ≡ false) × (WasAnswered j (Read k got.Gone) old mid ⊎ IsTrue (stopped mid))
read_gone old mid new j k called after = (
  unready_on {allowed = IsNoAttach j} j (λ c may. may refl) after (was_read_gone called),
  call_answered old mid j (Read k got.Gone) called,
)

ready_of : (ready readable : Bool) (answer : Got) → answer ≡ (if ready then (if readable then got.Good else got.Bad) else got.Gone) → answer ≢ got.Gone
    → ready ≡ true
ready_of true readable answer is other = refl
ready_of false readable answer is other = absurd (other is)

pub one_medium : (old mid new : List Happening) (j k : ℕ) (answer : Got) → Ran (IsNoAttach j) old mid → Calls mid new j (Read k answer)
    → answer ≢ got.Gone → ¬ WasPulled old new j
one_medium old mid new j k answer before called other =
    ready_unpulled {allowed = IsNoAttach j} j (λ c may. may refl)
    (ran_join before
    (ran_weakened {allowed = IsThis j (Read k answer)} {more = IsNoAttach j} (λ i c this same. subst IsBesideAttach (sym this.1) tt) (calls_ran called)))
    (ready_of (is_ready new j) (is_readable (slot_state new j) k) answer (read_answered mid new j k answer called) other)

-- MEDIA

damaged_not : (bytes : List ℕ) → Damaged ≢ Good bytes
damaged_not bytes is = absurd (cc)

torn_not : (bytes : List ℕ) (cell : Cell) → torn cell ≢ Good bytes
torn_not bytes (Good old) is = absurd (cc)
torn_not bytes Damaged is = absurd (cc)
torn_not bytes Torn is = absurd (cc)
torn_not bytes TornOverDamage is = absurd (cc)

same_bytes : (a b : List ℕ) → Good a ≡ Good b → a ≡ b
same_bytes a b is = cc

keeps_off : (bytes : List ℕ) (j : ℕ) → MediumKeeps (no_write_of bytes) j (HoldsNot bytes) (HoldsNot bytes)
keeps_off bytes j = λ k. record {
  damage = damaged_not bytes;
  under_damage = damaged_not bytes;
  write = λ others may is. may (same_bytes others bytes is);
  cut = λ others cell may under. torn_not bytes cell;
  sync = λ cell may holds. holds;
}

pub nowhere : (old new : List Happening) (j : ℕ) (bytes : List ℕ) → Ran (no_write_of bytes) old new
    → EachMedium (HoldsNot bytes) (HoldsNot bytes) (slot_state old j)
    → AtEveryMoment (λ h. EachMedium (HoldsNot bytes) (HoldsNot bytes) (slot_state h j)) old new
nowhere old new j bytes ran each =
    media_throughout {allowed = no_write_of bytes} {j = j} {Q = HoldsNot bytes} {Base = HoldsNot bytes} (keeps_off bytes j) (λ k cell holds. holds) ran each

pub made_again : (h : List Happening) (image : Image) (j : ℕ) (bytes : List ℕ) → CrashMayLeave h image
    → EachMedium (HoldsNot bytes) (HoldsNot bytes) (slot_state h j) → EachMedium (HoldsNot bytes) (HoldsNot bytes) (slot_state (Made image ∷ []) j)
made_again h image j bytes left each =
    let still = media_left {Q = HoldsNot bytes} {Base = HoldsNot bytes} h image j left each in
    media_made {allowed = no_write_of bytes} {j = j} {Q = HoldsNot bytes} {Base = HoldsNot bytes} (keeps_off bytes j) (image j) still.0 still.0 still.1

keeps_unsynced : (bytes : List ℕ) (j : ℕ) → MediumKeeps no_sync j any_cell (HoldsNot bytes)
keeps_unsynced bytes j = λ k. record {
  damage = tt;
  under_damage = damaged_not bytes;
  write = λ others may. tt;
  cut = λ others cell may under. tt;
  sync = λ cell may holds. absurd may;
}

pub unsynced : (old new : List Happening) (j : ℕ) (bytes : List ℕ) → Ran no_sync old new → NothingReturned old new
    → EachMedium (HoldsNot bytes) (HoldsNot bytes) (slot_state old j)
    → AtEveryMoment (λ h. EachMedium any_cell (HoldsNot bytes) (slot_state h j)) old new
unsynced old new j bytes ran none each =
    media_while {allowed = no_sync} {j = j} {Q = any_cell} {Base = HoldsNot bytes} (keeps_unsynced bytes j) none ran
    (EachMedium-mapped {Q = HoldsNot bytes} {Base = HoldsNot bytes} {Q' = any_cell} {Base' = HoldsNot bytes} (λ k cell holds. tt) (λ k cell under. under) each)

-- PHASES

by_slot_there : (sector : ℕ) (bytes : ℕ → List ℕ) (j : ℕ) → by_slot sector bytes j sector ≡ Some (bytes j)
by_slot_there sector bytes j = cond-true _ _ _ (eq-eqb sector sector refl)

by_slot_at : (sector : ℕ) (bytes : ℕ → List ℕ) (j k : ℕ) (others : List ℕ) → by_slot sector bytes j k ≡ Some others → k ≡ sector
by_slot_at sector bytes j k others is = eqb-true k sector (there (k == sector) is)
  where
    there : (b : Bool) → (if b then Some (bytes j) else None) ≡ Some others → b ≡ true
    there true is = refl
    there false is = absurd (cc)

one_there : (slot sector : ℕ) (bytes : List ℕ) → one_write slot sector bytes slot sector ≡ Some bytes
one_there slot sector bytes = rw (eq-eqb slot slot refl, eq-eqb sector sector refl) refl

agrees_if : (a b : Bool) (x y : List ℕ) → a ≡ true → x ≡ y → (if a && b then Some x else None) ≡ (if b then Some y else None)
agrees_if true b x y is same = ap (λ z. if b then Some z else None) same
agrees_if false b x y is same = absurd (false≢true is)

-- a sector of one slot is that slot's part
agrees : (sector slot : ℕ) (bytes : ℕ → List ℕ) (j k : ℕ) → IsSlot slot j → one_write slot sector (bytes slot) j k ≡ by_slot sector bytes j k
agrees sector slot bytes j k is = agrees_if (j == slot) (k == sector) (bytes slot) (bytes j) (eq-eqb j slot is) (ap bytes (sym is))

not_gone : (slot j : ℕ) → ¬ IsGoneSlot slot reply.Done j
not_gone slot j is = let never : reply.Done ≡ reply.Gone = is.1 in absurd (cc)

not_below : (n : ℕ) → ¬ IsBelow n n
not_below n less = omega (arith, less)

below_more : (n j : ℕ) → (IsBelow n j ⊎ (j ≡ n)) ↔ IsBelow (n + 1) j
below_more n j = (joined, parted)
  where
    joined : IsBelow n j ⊎ (j ≡ n) → IsBelow (n + 1) j
    joined (inl less) = omega (arith, less)
    joined (inr same) = omega (arith, same)

    parted : IsBelow (n + 1) j → IsBelow n j ⊎ (j ≡ n)
    parted less = elim (cases_lt j n) [ inl below ↦ inl below | inr least ↦ inr (omega (arith, less, least)) ]

pub none_placed : (sector : ℕ) (bytes : ℕ → List ℕ) (h : List Happening)
    → NothingWritten h h × PlacedInTurn (by_slot sector bytes) (IsBelow 0) None h h
none_placed sector bytes h =
    (each_none h, in_turn_same (λ j. (λ never. absurd never, λ below. absurd (omega (arith, below)))) (in_turn_none (by_slot sector bytes) h))

module _ (sector slot : ℕ) (bytes : ℕ → List ℕ) (old now new : List Happening)
    (turns : PlacedInTurn (by_slot sector bytes) (IsBelow slot) None old now) where
  pub next_placed : Placed (one_write slot sector (bytes slot)) (IsSlot slot) (IsGoneSlot slot reply.Done) now new
      → PlacedInTurn (by_slot sector bytes) (IsBelow (slot + 1)) None old new
  next_placed phase =
      in_turn_same {placed = λ j. IsBelow slot j ⊎ (j ≡ slot)} {placed' = IsBelow (slot + 1)} (below_more slot)
      (in_turn_more (by_slot sector bytes) (IsBelow slot) (IsGoneSlot slot reply.Done) slot old now new turns
      (Placed-agrees (agrees sector slot bytes) phase) (not_below slot) (not_gone slot slot))

  pub stops_placed : Placed (one_write slot sector (bytes slot)) (IsSlot slot) (IsGoneSlot slot reply.Gone) now new
      → PlacedInTurn (by_slot sector bytes) (IsBelow slot) (Some slot) old new
  stops_placed phase =
      in_turn_stop (by_slot sector bytes) (IsBelow slot) (IsGoneSlot slot reply.Gone) slot old now new turns
      (Placed-agrees (agrees sector slot bytes) phase) (not_below slot) (refl, refl)

pub whole_placed : (sector n : ℕ) (bytes : ℕ → List ℕ) (last : Option ℕ) (old now new : List Happening) (j k : ℕ)
    → PlacedInTurn (by_slot sector bytes) (IsBelow n) last old now → Ran no_write now new → j < n → IsSome (slot_state old j).size
    → Landed old new j sector (bytes j) × AtEveryMoment (λ h. ButForOutside old h j k (λ s. s.since ≡ [])) now new
whole_placed sector n bytes last old now new j k turns ran less some = (
  at_some_wider {a = any_call} {b = no_write} {P = λ h. content ((slot_state h j).sector sector) ≡ Good (bytes j)} (ran_none old) ran
      (turns.landed j sector (bytes j) less (by_slot_there sector bytes j)),
  settled_throughout {allowed = no_write} (slot_state old j).pulls j k (λ others may. may) ran (in_turn_whole j k turns less some),
)

pub on_disk : (slot sector k : ℕ) (bytes : List ℕ) (old now new : List Happening) (image : Image)
    → Placed (one_write slot sector bytes) (IsSlot slot) (IsGoneSlot slot reply.Done) old now → Ran no_write now new → CrashMayLeave new image
    → IsSome (slot_state old slot).size
    → ButForOutside old new slot k (λ s. s.since ≡ [])
    × (WasPulled old new slot ⊎ (((image slot).cell sector ≡ Damaged) ⊎ ((image slot).cell sector ≡ Good bytes)))
on_disk slot sector k bytes old now new image phase ran left some =
    let pulls = (slot_state old slot).pulls in (
      settled_on {allowed = no_write} pulls slot k (λ others may. may) ran (phase_whole slot k phase refl (not_gone slot slot) some),
      settled_or old new image left slot sector (Good bytes)
          (standing_on {allowed = no_write} pulls slot sector (Good bytes) (λ others may. may) ran
          (phase.done slot sector bytes refl (not_gone slot slot) (one_there slot sector bytes))),
    )

pub alone : (slot sector other : ℕ) (bytes : List ℕ) (answer : Reply) (old new : List Happening)
    → Placed (one_write slot sector bytes) (IsSlot slot) (IsGoneSlot slot answer) old new → other ≢ slot → NoneWritten (IsSlot other) old new
alone slot sector other bytes answer old new phase apart =
    none_written {allowed = IsPlacing (one_write slot sector bytes) (IsSlot slot)} {slots = IsSlot other}
    (λ j c is same. absurd (apart (sym same ∙ placing_slot j c is))) (phase_placing phase)
  where
    placing_slot : (j : ℕ) (c : SlotCall) → IsPlacing (one_write slot sector bytes) (IsSlot slot) j c → j ≡ slot
    placing_slot j c (AWrite is) = is.on
    placing_slot j c (ASync is) = is.on

copies_there : (slot : ℕ) (bytes : List ℕ) (j k : ℕ) → j ≡ slot → nat_lt k 2 ≡ true → copies slot bytes j k ≡ Some bytes
copies_there slot bytes j k is within = rw (eq-eqb j slot is, within) refl

copies_at : (slot : ℕ) (bytes : List ℕ) (j k : ℕ) (others : List ℕ) → copies slot bytes j k ≡ Some others → (k ≡ 0) ⊎ (k ≡ 1)
copies_at slot bytes j k others is =
    let within : k < 2 = ltb-true k 2 (there (j == slot) (nat_lt k 2) is) in
    elim (cases_lt k 1) [ inl none ↦ inl (omega (arith, none)) | inr least ↦ inr (omega (arith, least, within)) ]
  where
    there : (a b : Bool) → (if a && b then Some bytes else None) ≡ Some others → b ≡ true
    there true true is = refl
    there true false is = absurd (cc)
    there false b is = absurd (cc)

pub both_written : (slot : ℕ) (bytes : List ℕ) (answer : Reply) (old now mid new : List Happening) → Calls old now slot (Write 0 bytes reply.Done)
    → Calls now mid slot (Write 1 bytes reply.Done) → Calls mid new slot (Sync answer)
    → Placed (copies slot bytes) (IsSlot slot) (IsGoneSlot slot answer) old new
both_written slot bytes answer old now mid new first second synced =
    Placed-same (λ j. (only j, λ is. inr is))
    (Placed-from what on (λ j. (⊥ ⊎ done j) ⊎ done j) on (IsGoneSlot slot answer) (λ j k. (⊥ ⊎ (on j × (k ≡ 0))) ⊎ (on j × (k ≡ 1))) old mid new
    (writing_more what on (λ j. ⊥ ⊎ done j) done on (λ j k. ⊥ ⊎ (on j × (k ≡ 0))) 1 bytes old now mid
    (writing_more what on (λ j. ⊥) done on (λ j k. ⊥) 0 bytes old old now (writing_none what on old)
    (WriteStep-call slot 0 bytes reply.Done old now first) (λ j is. (is, copies_there slot bytes j 0 is refl)))
    (WriteStep-call slot 1 bytes reply.Done now mid second) (λ j is. (is, copies_there slot bytes j 1 is refl))) all
    (SyncStep-call slot answer mid new synced) (λ j is. is) (λ j is fine. is))
  where
    what : ℕ → ℕ → Option (List ℕ)
    what = copies slot bytes

    on : ℕ → Type 0
    on = IsSlot slot

    done : ℕ → Type 0
    done = IsGoneSlot slot reply.Done

    all : (j k : ℕ) (others : List ℕ) → on j → what j k ≡ Some others → (⊥ ⊎ (on j × (k ≡ 0))) ⊎ (on j × (k ≡ 1))
    all j k others is one = elim (copies_at slot bytes j k others one) [ inl first ↦ inl (inr (is, first)) | inr second ↦ inr (is, second) ]

    only : (j : ℕ) → ((⊥ ⊎ done j) ⊎ done j) ⊎ IsGoneSlot slot answer j → IsGoneSlot slot answer j
    only j (inl (inl (inl never))) = absurd never
    only j (inl (inl (inr is))) = absurd (not_gone slot j is)
    only j (inl (inr is)) = absurd (not_gone slot j is)
    only j (inr is) = is
