-- With which seats an opening begins, of an array whose media come back: with those of a superblock that a medium bore in its slot as
-- the survey read it.
use Rattle.std.proofs.Common.{IsTrue, List, Ok, refl, sym, ap, subst, arith, inl, inr, ◌<◌, ◌≤◌, ◌∙◌, ◌≡◌, ◌⊎◌, ℕ}
use Rattle.std.proofs.lemmas.Bool.{cases_eq}
use Rattle.stair_model.specs.Slots.{HasSlot}
use Rattle.stair_rack.specs.Answers.{IsHistory, Ran}
use Rattle.stair_rack.specs.History.{Happening, slot_state}
use Rattle.stair_rack.specs.Moments.{IsMoment}
use Rattle.stair_rack.specs.Sector.{Cell, Damaged, content}
use Rattle.stair_rack.specs.Stretch.{every_slot}
use Rattle.stair_rack.specs.RackState.{RackState}
use Rattle.stair_rack.proofs.MomentLemmas.{moment_sooner, ran_before}
use Rattle.stair_rack.proofs.StretchLemmas.{none_written}
use Rattle.stair_super.specs.Superblock.{Superblock}
use Rattle.stair_super.specs.declared.configuration.Configuration.{Configuration}
use Rattle.stair_member.specs.Asked.{FindsWithin, LeavesSectors}
use Rattle.stair_member.specs.Membership.{Membership}
use Rattle.stair_member.specs.Superblocks.{HoldsSuper}
use Rattle.stair_member.specs.Survey.{IsSurveyed, Surveys}
use Rattle.stair_member.proofs.AskedLemmas.{asked_ran}
use Rattle.stair_member.proofs.SuperLemmas.{counts_limits, slot_below, super_at}
use Rattle.stair_state.specs.State.{State}
use Rattle.stair_state.proofs.FormLemmas.{good_whole}
use Rattle.stair_invariant.specs.Returning.{AnyReturns}
use Rattle.stair_invariant.specs.Session.{seats_in}
use Rattle.stair_array.specs.Promise.{AreFound}
use Rattle.stair_array.proofs.OpeningsLeadLemmas.{looks_write_none}
use Rattle.stair_reinsert.proofs.MixedFinding.{AreShown, IsShown, ShownBoth, ShownNone, Shows, Unread, are_shown, at_first, at_last}

-- A PLACE THAT WAS READ

-- at a moment the slot's place held the superblock that was found in it
record WasHeld (old new : List Happening) (j k : ℕ) (s : Superblock) : Type 0 where
  moment : List Happening
  is_one : IsMoment old moment new
  holds : HoldsSuper (content ((slot_state moment j).sector k)) s

was_held : (gone : Type 0) (j k : ℕ) (cell : ℕ → Cell) (s : Superblock) (old new : List Happening) → IsHistory old
    → FindsWithin gone j cell old new → k < 2 → HoldsSuper (cell k) s → WasHeld old new j k s
was_held gone j k cell s old new history within small holds = by (are_shown gone old new j cell history within)
  where
    none : ¬ (cell k ≡ Damaged)
    none harmed = good_whole holds.good harmed

    which : (k ≡ 0) ⊎ (k ≡ 1)
    which = elim (cases_eq k 0) [ inl zero ↦ inl zero | inr other ↦ inr (omega (arith, small, other)) ]

    shown : (h : List Happening) → IsMoment old h new → IsShown gone h j k (cell k) → WasHeld old new j k s
    shown h at_h (Shows is) = record { moment = h; is_one = at_h; holds = (is.held s).1 holds }
    shown h at_h (Unread is_gone harmed) = absurd (none harmed)

    by : AreShown gone old new j cell → WasHeld old new j k s
    by (ShownNone is_gone first second) =
        elim which [
          | inl at ↦ absurd (none (ap cell at ∙ first))
          | inr at ↦ absurd (none (ap cell at ∙ second))
        ]
    by (ShownBoth reads) =
        elim which [
          | inl at ↦ shown reads.first (at_first reads) (subst (λ (i : ℕ). IsShown gone reads.first j i (cell i)) (sym at) reads.shown_first)
          | inr at ↦ shown reads.last (at_last reads) (subst (λ (i : ℕ). IsShown gone reads.last j i (cell i)) (sym at) reads.shown_last)
        ]

-- THE SEATS

pub seats_found : (s : State) (first : RackState) (u : RackState) (m : Membership) (surveys : Surveys (Ok m) first u) → IsTrue u.honest
    → m.array.geometry ≡ s.geometry → (h : List Happening) → IsMoment first.history u.history h
    → AreFound AnyReturns first.history h s (seats_in m.array)
seats_found s first u m surveys honest same h at =
    elim (super_at surveyed.is_current.counts.super) [
      | inl holds ↦ by 0 (omega arith) holds
      | inr holds ↦ by 1 (omega arith) holds
    ]
  where
    surveyed : IsSurveyed surveys.findings m
    surveyed = surveys.answered.0

    current : Superblock
    current = surveyed.current

    ran : Ran LeavesSectors first.history u.history
    ran = asked_ran 32 first.history u.history (surveys.asked honest)

    below : current.slot < 32
    below =
        let counts = surveyed.is_current.counts in
        let most : m.array.geometry.n ≤ 32 = (counts_limits m.array.geometry surveys.findings.image current.slot current counts).devices.1 in
        let small : current.slot < m.array.geometry.n = slot_below m.array.geometry surveys.findings.image current.slot current counts in
        omega (arith, most, small)

    by : (k : ℕ) → k < 2 → HoldsSuper ((surveys.findings.image current.slot).cell k) current → AreFound AnyReturns first.history h s (seats_in m.array)
    by k small holds =
        let held =
        was_held (HasSlot surveys.findings.gone current.slot) current.slot k ((surveys.findings.image current.slot).cell) current first.history u.history
        (surveys.began honest) ((surveys.found.each current.slot below).finds honest) small holds in
        record {
          moment = held.moment;
          is_one = moment_sooner held.is_one at;
          unwritten = none_written {allowed = LeavesSectors} {slots = every_slot} looks_write_none (ran_before {allowed = LeavesSectors} ran held.is_one);
          slot = current.slot;
          super = current;
          speaks = record {
            place = k;
            place_in = small;
            holds = held.holds;
            slot = refl;
            identity = surveyed.is_current.counts.identity ∙ same;
          };
          are = λ j. ap (λ (c : Configuration). seats_in c j) surveyed.array;
        }
