-- Slots that were gone to a part of a call, on any rack, and in longer stretches.
use Rattle.std.proofs.Common.{◌≡◌, ℕ, ◌<◌, true, List, inl, inr, refl, sym, ◌∙◌, subst, None, Option, Some, arith}
use Rattle.std.specs.Prelude.{IsSome, IsTrue}
use Rattle.std.proofs.lemmas.Bool.{cases_Bool, cases_lt, false≢true, lt-ltb}
use Rattle.stair_model.specs.Geometry.{Geometry, sectors_needed}
use Rattle.stair_rack.specs.Answers.{IsBesideAttach, Ran, any_call}
use Rattle.stair_rack.specs.Count.{Rose}
use Rattle.stair_rack.specs.History.{Happening, SlotCall, slot_state}
use Rattle.stair_rack.specs.Media.{has_sector}
use Rattle.stair_rack.specs.Offline.{IsHeld, IsOfflineUntilAttached}
use Rattle.stair_rack.specs.RackState.{IsLater, RackState}
use Rattle.stair_rack.proofs.GoneLemmas.{is_gone_wider}
use Rattle.stair_rack.proofs.MomentLemmas.{at_start, ran_join, ran_none}
use Rattle.stair_rack.proofs.OfflineLemmas.{stopped_on}
use Rattle.stair_rack.proofs.RackStateLemmas.{gones_wider, honest_within, later_join, later_none, some_wider}
use Rattle.stair_member.specs.Membership.{IsHere, Membership}
use Rattle.stair_array.specs.Causes.{IsSmall, WasGoneTo}

-- STRETCHES IN WHICH NO SLOT IS ATTACHED

abbrev pub attaches_none : ℕ → SlotCall → Type 0
attaches_none j call = IsBesideAttach call

-- the same rack at a later moment, and no call attached a slot meanwhile
pub record IsAfter (old new : RackState) : Type 0 where
  pub later : IsLater old new
  pub beside : IsTrue new.honest → Ran attaches_none old.history new.history

pub after_none : (now : RackState) → IsAfter now now
after_none now = record { later = later_none now; beside = λ honest. ran_none now.history }

pub after_join : {old mid new : RackState} → IsAfter old mid → IsAfter mid new → IsAfter old new
after_join first second = record {
  later = later_join first.later second.later;
  beside = λ honest. ran_join (first.beside (second.later.honest ∙ honest)) (second.beside honest);
}

-- SLOTS THAT WERE GONE

-- one that was gone was gone in each longer stretch
pub gone_to_wider : (m : Membership) (j : ℕ) (old mid new later : RackState) → IsLater old mid → IsLater mid new → IsAfter new later
    → WasGoneTo m j mid new → WasGoneTo m j old later
gone_to_wider m j old mid new later first within second (WasGoneTo.Offline gone) =
    WasGoneTo.Offline
    (is_gone_wider {allowed = attaches_none} old mid new later first within.honest within.counts second.later j (λ c beside. beside) second.beside gone)
gone_to_wider m j old mid new later first within second (WasGoneTo.PastEnd rose here has needs small) =
    WasGoneTo.PastEnd (gones_wider old mid new later first within.honest within.counts second.later j rose) here has needs
    (record {
      needs_is = small.needs_is;
      small = small.small;
      had = λ honest.
          some_wider old mid new later first within.honest within.counts second.later (λ h. (slot_state h j).size ≡ Some has) honest
          (small.had (honest_within old mid new later first within.honest within.counts second.later honest));
    })

-- and gone to an earlier member of the same array
pub gone_to_earlier : (m start : Membership) (j : ℕ) (old new : RackState) → start.array.geometry ≡ m.array.geometry → (IsHere start j → IsHere m j)
    → WasGoneTo start j old new → WasGoneTo m j old new
gone_to_earlier m start j old new same back (WasGoneTo.Offline gone) = WasGoneTo.Offline gone
gone_to_earlier m start j old new same back (WasGoneTo.PastEnd rose here has needs small) =
    WasGoneTo.PastEnd rose (back here) has needs (subst (λ (g : Geometry). IsSmall g j has needs old new) same small)

-- A slot that took part, and that is offline where its medium has all sectors that the array needs, was gone.
module _ (m : Membership) (j : ℕ) (old new : RackState) (after : IsAfter old new) (here : IsHere m j) (rose : Rose (old.gones j) (new.gones j))
    (shut : IsTrue new.honest → (before : List Happening) → IsHeld before old.history j
    → ((slot_state old.history j).attached ≡ true → (k : ℕ) → k < sectors_needed m.array.geometry
    → IsTrue (has_sector (slot_state old.history j).size k)) → IsOfflineUntilAttached before new.history j) where
  off_by : (IsTrue new.honest → (before : List Happening) → IsHeld before old.history j → IsOfflineUntilAttached before new.history j)
      → WasGoneTo m j old new
  off_by is = WasGoneTo.Offline (record { rose = rose; shut = is })

  -- one that holds no medium isn't in use
  off_empty : (slot_state old.history j).size ≡ None → IsTrue new.honest → (before : List Happening) → IsHeld before old.history j
      → IsOfflineUntilAttached before new.history j
  off_empty none honest before (IsHeld.InUse attached some least) =
      absurd (false≢true (subst (λ (size : Option ℕ). IsSome size) none some))
  off_empty none honest before (IsHeld.Unattached apart pulled) =
      shut honest before (IsHeld.Unattached apart pulled) (λ attached. absurd (false≢true (sym apart ∙ attached)))
  off_empty none honest before (IsHeld.RackStopped is) =
      IsOfflineUntilAttached.RackStopped (stopped_on {allowed = any_call} (after.later.ran honest) is)

  by_size : IsTrue new.honest → (size : Option ℕ) → (slot_state old.history j).size ≡ size → WasGoneTo m j old new
  by_size honest None is = off_by (off_empty is)
  by_size honest (Some has) is =
      elim (cases_lt has (sectors_needed m.array.geometry)) [
        | inl small ↦
            WasGoneTo.PastEnd rose here has (sectors_needed m.array.geometry)
            (record {
              needs_is = refl;
              small = small;
              had = λ now. at_start {a = any_call} {P = λ h. (slot_state h j).size ≡ Some has} (after.later.ran now) is;
            })
        | inr large ↦
            off_by
            (λ now before held.
            shut now before held
            (λ attached k below. subst (λ (size : Option ℕ). IsTrue (has_sector size k)) (sym is) (lt-ltb k has (omega (arith, below, large)))))
      ]

  pub gone_to_by : WasGoneTo m j old new
  gone_to_by =
      elim (cases_Bool new.honest) [
        | inl honest ↦ by_size honest (slot_state old.history j).size refl
        | inr dishonest ↦ off_by (λ honest. absurd (false≢true (sym dishonest ∙ honest)))
      ]
