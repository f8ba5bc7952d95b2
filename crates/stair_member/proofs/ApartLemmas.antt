-- Of the two superblock places of a slot at most one has something unsynced.
use Rattle.std.proofs.Common.{◌≡◌, ◌≢◌, ℕ, ◌<◌, List, [], ◌⊎◌, inl, inr, refl, sym, ◌∙◌, subst, arith, false, Option}
use Rattle.std.specs.Prelude.{IsTrue, IsSome}
use Rattle.std.proofs.lemmas.Bool.{cases_eq, false≢true}
use Rattle.stair_model.specs.Slots.{Slots}
use Rattle.stair_rack.specs.Answers.{Ran}
use Rattle.stair_rack.specs.History.{Happening, SlotCall, Write, slot_state, stopped}
use Rattle.stair_rack.specs.Moments.{AtEveryMoment}
use Rattle.stair_rack.specs.Offline.{IsKept}
use Rattle.stair_rack.specs.Sector.{Sector}
use Rattle.stair_rack.specs.declared.rack.Reply.TheVariants as reply
use Rattle.stair_rack.proofs.KeptLemmas.{IsKept-mapped, IsKept-now, keeps_sector}
use Rattle.stair_rack.proofs.MomentLemmas.{at_every_join, at_every_mapped, at_every_none, at_last}
use Rattle.stair_rack.proofs.OfflineLemmas.{IsRefused, keeps_stopped, refused, stopped_on}
use Rattle.stair_rack.proofs.StandingLemmas.{Spares, settled_throughout}
use Rattle.stair_rack.proofs.StepLemmas.{Keeps, kept_throughout}
use Rattle.stair_member.specs.Epochs.{IsPlaceSettled}
use Rattle.stair_member.specs.HandSteps.{AreApart, GoesOnApart, IsGiving, IsHanding, SpreadBelow, StaysApart, StaysSettled, Syncs, Writes}
use Rattle.stair_member.specs.Membership.{Membership, place_of}

abbrev IsUnchanged : Sector → Type 0
IsUnchanged s = s.since ≡ []

goes_on_one : (pulls j : ℕ) (h : List Happening) → GoesOnApart pulls j h → AreApart pulls j h
goes_on_one pulls j h (inl both) = inl both.0
goes_on_one pulls j h (inr was) = was.1

-- ---- joined

pub apart_none : (h : List Happening) → StaysApart h h
apart_none h = record {
  each = λ j pulls start. at_every_none {P = AreApart pulls j} h (goes_on_one pulls j h start);
  after = λ j pulls start. start;
}

pub apart_join : {old mid new : List Happening} → StaysApart old mid → StaysApart mid new → StaysApart old new
apart_join first second = record {
  each = λ j pulls start. at_every_join {P = AreApart pulls j} (first.each j pulls start) (second.each j pulls (first.after j pulls start));
  after = λ j pulls start. second.after j pulls (first.after j pulls start);
}

-- ---- of a stopped rack

abbrev IsStill : ℕ → ℕ → ℕ → List Happening → Type 0
IsStill pulls j k h = IsTrue (stopped h) × IsKept pulls k IsUnchanged (slot_state h j)

keeps_still : {allowed : ℕ → SlotCall → Type 0} (pulls j k : ℕ) → Keeps allowed (IsStill pulls j k)
keeps_still {allowed} pulls j k =
    record {
      act = λ h e is was. (ends.act h e is was.0, keeps.act h e is was.1);
      call = λ h i c may is was. (was.0, keeps.call h i c (refused h i c was.0 is) is was.1);
    }
  where
    ends : Keeps allowed (λ h. IsTrue (stopped h))
    ends = keeps_stopped

    keeps : Keeps IsRefused (λ h. IsKept pulls k IsUnchanged (slot_state h j))
    keeps =
        keeps_sector {allowed = IsRefused} {j = j} {k = k} {P = IsUnchanged} pulls
        (record { write = λ bytes s may before. absurd (cc); sync = λ s may before. refl })

still_throughout : {allowed : ℕ → SlotCall → Type 0} {old new : List Happening} (pulls j k : ℕ) → Ran allowed old new → IsTrue (stopped old)
    → IsKept pulls k IsUnchanged (slot_state old j) → AtEveryMoment (λ h. IsKept pulls k IsUnchanged (slot_state h j)) old new
still_throughout {allowed} pulls j k ran was is =
    at_every_mapped {P = IsStill pulls j k} {Q = λ h. IsKept pulls k IsUnchanged (slot_state h j)} (λ h both. both.1)
    (kept_throughout {allowed = allowed} {P = IsStill pulls j k} (keeps_still {allowed = allowed} pulls j k) ran (was, is))

-- ---- one place of each slot is spared

zero_one : {old new : List Happening} (pulls j : ℕ) → AtEveryMoment (λ h. IsKept pulls 0 IsUnchanged (slot_state h j)) old new
    → AtEveryMoment (AreApart pulls j) old new
zero_one pulls j every = at_every_mapped {P = λ h. IsKept pulls 0 IsUnchanged (slot_state h j)} {Q = AreApart pulls j} (λ h is. inl is) every

one_one : {old new : List Happening} (pulls j : ℕ) → AtEveryMoment (λ h. IsKept pulls 1 IsUnchanged (slot_state h j)) old new
    → AtEveryMoment (AreApart pulls j) old new
one_one pulls j every = at_every_mapped {P = λ h. IsKept pulls 1 IsUnchanged (slot_state h j)} {Q = AreApart pulls j} (λ h is. inr is) every

pub apart_spared : {allowed : ℕ → SlotCall → Type 0} {old new : List Happening} → ((j : ℕ) → Spares allowed j 0 ⊎ Spares allowed j 1)
    → Ran allowed old new → StaysSettled old new → StaysApart old new
apart_spared {allowed} {old} {new} spared ran steady = record { each = each; after = after }
  where
    both_apart : (j pulls : ℕ) → IsKept pulls 0 IsUnchanged (slot_state old j) → IsKept pulls 1 IsUnchanged (slot_state old j)
        → Spares allowed j 0 ⊎ Spares allowed j 1 → AtEveryMoment (AreApart pulls j) old new
    both_apart j pulls zero one (inl spares) = zero_one pulls j (settled_throughout {allowed = allowed} pulls j 0 spares ran zero)
    both_apart j pulls zero one (inr spares) = one_one pulls j (settled_throughout {allowed = allowed} pulls j 1 spares ran one)

    one_apart : (j pulls : ℕ) → IsTrue (stopped old) → AreApart pulls j old → AtEveryMoment (AreApart pulls j) old new
    one_apart j pulls was (inl zero) = zero_one pulls j (still_throughout {allowed = allowed} pulls j 0 ran was zero)
    one_apart j pulls was (inr one) = one_one pulls j (still_throughout {allowed = allowed} pulls j 1 ran was one)

    each : (j pulls : ℕ) → GoesOnApart pulls j old → AtEveryMoment (AreApart pulls j) old new
    each j pulls (inl both) = both_apart j pulls both.0 both.1 (spared j)
    each j pulls (inr was) = one_apart j pulls was.0 was.1

    at_end : (j pulls : ℕ) → GoesOnApart pulls j old → AreApart pulls j new
    at_end j pulls start = at_last {P = AreApart pulls j} (each j pulls start)

    after : (j pulls : ℕ) → GoesOnApart pulls j old → GoesOnApart pulls j new
    after j pulls (inr was) = inr (stopped_on {allowed = allowed} ran was.0, at_end j pulls (inr was))
    after j pulls (inl both) =
        elim (steady.each j 0 pulls both.0) [
          | inr is ↦ inr (is, at_end j pulls (inl both))
          | inl zero ↦ elim (steady.each j 1 pulls both.1) [ inr is ↦ inr (is, at_end j pulls (inl both)) | inl one ↦ inl (zero, one) ]
        ]

-- a slot that is handed its superblock once
handed_spares : (m : Membership) (i j k : ℕ) → k ≢ place_of m j → Spares (IsHanding m i false) j k
handed_spares m i j k other bytes is = unwritten is.1
  where
    unwritten : ¬ IsGiving m false j (Write k bytes reply.Done)
    unwritten (Writes l answer (inl at) is) = let same : k ≡ l = cc in other (same ∙ at)
    unwritten (Writes l answer (inr both) is) = false≢true both.0
    unwritten (Syncs answer is) = absurd (cc)

pub apart_once : (m : Membership) (i : ℕ) {old new : List Happening} → Ran (IsHanding m i false) old new → StaysSettled old new → StaysApart old new
apart_once m i ran steady =
    apart_spared {allowed = IsHanding m i false}
    (λ j.
    elim (cases_eq 0 (place_of m j)) [
      | inl same ↦ inr (handed_spares m i j 1 (λ is. let no : 1 ≡ 0 = is ∙ sym same in omega (arith, no)))
      | inr other ↦ inl (handed_spares m i j 0 other)
    ]) ran steady

-- ---- a pass more

pub apart_after : {m : Membership} {to : Slots} {twice : Option ℕ} {i : ℕ} {old h new : List Happening} → StaysApart old h → SpreadBelow m to twice i h new
    → StaysApart old new
apart_after before spread = apart_join before spread.apart

-- ---- from places with nothing unsynced

pub apart_issued : {old new : List Happening} → StaysApart old new → (j : ℕ) → IsSome (slot_state old j).size
    → ((k : ℕ) → k < 2 → ((slot_state old j).sector k).since ≡ [])
    → AtEveryMoment (λ h. IsPlaceSettled old h j 0 ⊎ IsPlaceSettled old h j 1) old new
apart_issued {old} {new} stays j some is = stays.each j (slot_state old j).pulls (inl (at 0 (omega arith), at 1 (omega arith)))
  where
    at : (k : ℕ) → k < 2 → IsPlaceSettled old old j k
    at k small =
        IsKept-mapped {P = λ s. s ≡ (slot_state old j).sector k} {Q = IsUnchanged}
        (λ s same. subst (λ (x : Sector). x.since ≡ []) (sym same) (is k small)) (IsKept-now old j k some)
