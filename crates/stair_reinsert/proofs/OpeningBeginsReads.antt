-- What a survey read of a slot that takes part and is attached still: its superblock places hold that, unless they were damaged
-- since; so the member knows of them what it has to know before it writes to them.
use Rattle.std.specs.Prelude.{IsTrue, Result}
use Rattle.std.proofs.Common.{◌≡◌, ℕ, ◌-◌, ◌<◌, ◌≤◌, List, ◌⊎◌, inl, inr, refl, sym, ap, subst, arith}
use Rattle.std.proofs.lemmas.Bool.{cases_lt}
use Rattle.stair_model.specs.Slots.{HasSlot}
use Rattle.stair_rack.specs.Answers.{IsHistory, IsNoAttach, Ran, any_call}
use Rattle.stair_rack.specs.Sector.{Cell, Damaged, Sector, content, damaged}
use Rattle.stair_rack.specs.History.{Attach, Happening, Read, Sectors, SlotCall, Sync, Write, slot_state}
use Rattle.stair_rack.specs.Offline.{IsAttached, IsKept, Lost}
use Rattle.stair_rack.specs.Moments.{IsMoment}
use Rattle.stair_rack.specs.Crash.{image_now}
use Rattle.stair_rack.specs.RackState.{RackState}
use Rattle.stair_rack.proofs.KeptLemmas.{IsLooking, SectorKeeps-looking, keeps_sector}
use Rattle.stair_rack.proofs.StepLemmas.{kept}
use Rattle.stair_rack.proofs.MomentLemmas.{calls_ran, moment_between, ran_after, ran_any, ran_before, ran_join}
use Rattle.stair_rack.proofs.TidyLemmas.{history_on, history_tidy}
use Rattle.stair_super.specs.Superblock.{Superblock, mark_at}
use Rattle.stair_member.specs.Survey.{IsPlaceOf, InFirst, InSecond, IsSurveyed, Surveys}
use Rattle.stair_member.specs.Membership.{IsHere, IsMembership, Membership, place_of, why_of}
use Rattle.stair_member.specs.declared.why.Why.TheVariants.{Gone, OtherJoined}
use Rattle.stair_member.specs.Current.{ByOutside, HasMark, IsLost}
use Rattle.stair_member.specs.Reasons.{rank}
use Rattle.stair_member.specs.Asked.{LeavesSectors}
use Rattle.stair_member.specs.Findings.{Findings}
use Rattle.stair_member.specs.Superblocks.{HoldsSuper, IsSuperOf}
use Rattle.stair_member.specs.declared.fault.SurveyFault.{SurveyFault}
use Rattle.stair_member.proofs.NewestLemmas.{places_whole, super_no_older}
use Rattle.stair_member.proofs.SuperLemmas.{counts_limits, super_by_holds}
use Rattle.stair_state.specs.Represents.{AreSteady}
use Rattle.stair_state.proofs.AgreeLemmas.{here_late, here_marked}
use Rattle.stair_state.proofs.FormLemmas.{good_whole}
use Rattle.stair_reinsert.specs.Given.{KnowsSuper}
use Rattle.stair_reinsert.proofs.SurveyLemmas.{history, ran}
use Rattle.stair_reinsert.proofs.MixedFinding.{IsShown, SameHeld, Shows, Unread, WasShown, AreShown, ShownBoth, ShownNone, are_shown, at_first, at_last}
use Rattle.stair_reinsert.proofs.NameLemmas.{still_attached}
use Rattle.stair_reinsert.proofs.AttachedOnce.{none_after}

leaves_looks : (j : ℕ) (c : SlotCall) → LeavesSectors j c → IsLooking c
leaves_looks j (Attach answer) may = tt
leaves_looks j (Sectors size) may = tt
leaves_looks j (Read k answer) may = tt
leaves_looks j (Write k bytes answer) may = absurd may
leaves_looks j (Sync answer) may = absurd may

held_at : {cell : ℕ → Cell} {s : Superblock} {place : ℕ} → IsPlaceOf cell s place → HoldsSuper (cell place) s
held_at (InFirst holds) = holds
held_at (InSecond holds first) = holds

module _ (before : List Happening) (old new : RackState) (answer : Result Membership SurveyFault) (surveys : Surveys answer old new)
    (honest : IsTrue new.honest) (began : Ran any_call before old.history) where
  abbrev f : Findings
  f = surveys.findings

  is_history : IsHistory old.history
  is_history = history before old new answer surveys honest began

  looked : Ran LeavesSectors old.history new.history
  looked = ran before old new answer surveys honest began

  -- A PLACE

  -- it was read at this moment, and no call attached the slot since
  pub record WasReadAt (j k : ℕ) : Type 0 where
    pub moment : List Happening
    pub is_one : IsMoment old.history moment new.history
    pub after : Ran (IsNoAttach j) moment new.history
    pub shown : WasShown moment j k ((f.image j).cell k)

  shown_at : (j k : ℕ) (h : List Happening) → ¬ HasSlot f.gone j → IsShown (HasSlot f.gone j) h j k ((f.image j).cell k)
      → WasShown h j k ((f.image j).cell k)
  shown_at j k h there (Shows is) = is
  shown_at j k h there (Unread is_gone harmed) = absurd (there is_gone)

  pub read_at : (j k : ℕ) → j < 32 → k < 2 → ¬ HasSlot f.gone j → WasReadAt j k
  read_at j k small k_in there =
      by
      (are_shown (HasSlot f.gone j) old.history new.history j ((f.image j).cell) is_history ((surveys.found.each j small).finds honest))
    where
      by : AreShown (HasSlot f.gone j) old.history new.history j ((f.image j).cell) → WasReadAt j k
      by (ShownNone is_gone zero' one') = absurd (there is_gone)
      by (ShownBoth reads) =
          elim (cases_lt k 1) [
            | inl at ↦
                subst (WasReadAt j) (omega (arith, at))
                (record {
                  moment = reads.first;
                  is_one = at_first reads;
                  after = ran_after after_attached (moment_between reads.upto rest);
                  shown = shown_at j 0 reads.first there reads.shown_first;
                })
            | inr at ↦
                subst (WasReadAt j) (omega (arith, at, k_in))
                (record {
                  moment = reads.last;
                  is_one = at_last reads;
                  after = ran_after after_attached (moment_between (ran_join reads.upto (ran_any (calls_ran reads.called))) reads.later);
                  shown = shown_at j 1 reads.last there reads.shown_last;
                })
          ]
        where
          rest : Ran any_call reads.first new.history
          rest = ran_join (ran_any (calls_ran reads.called)) reads.later

          after_attached : Ran (IsNoAttach j) reads.attached new.history
          after_attached =
              none_after {a = any_call} {b = any_call} j small (surveys.asked honest) reads.sooner reads.on (ran_join reads.upto rest)

  -- and where the slot is attached still its sectors are as they were then, or damaged
  sector_since : (j k l : ℕ) → IsAttached new.history j → (read : WasReadAt j k)
      → ((slot_state new.history j).sector l ≡ damaged) ⊎ ((slot_state new.history j).sector l ≡ (slot_state read.moment j).sector l)
  sector_since j k l on read =
      by
      (kept {allowed = LeavesSectors}
      {P = λ h. IsKept (slot_state read.moment j).pulls l (λ t. t ≡ (slot_state read.moment j).sector l) (slot_state h j)}
      (keeps_sector {allowed = LeavesSectors} {j = j} {k = l} {P = λ t. t ≡ (slot_state read.moment j).sector l} (slot_state read.moment j).pulls
      (SectorKeeps-looking {allowed = LeavesSectors} j l (λ t. t ≡ (slot_state read.moment j).sector l) (leaves_looks j)))
      (ran_after looked read.is_one)
      (IsKept.Here refl ((history_tidy (history_on {allowed = LeavesSectors} is_history (ran_before looked read.is_one))).attached j still.0) (inr refl)))
    where
      still : IsAttached read.moment j × ((slot_state new.history j).pulls ≡ (slot_state read.moment j).pulls)
      still = still_attached j read.after on

      by : IsKept (slot_state read.moment j).pulls l (λ t. t ≡ (slot_state read.moment j).sector l) (slot_state new.history j)
          → ((slot_state new.history j).sector l ≡ damaged) ⊎ ((slot_state new.history j).sector l ≡ (slot_state read.moment j).sector l)
      by (IsKept.Here pulls there holds) = holds
      by (Lost less) = let same = still.1 in absurd (omega (arith, less, same))

  place_since : (j k : ℕ) → j < 32 → k < 2 → ¬ HasSlot f.gone j → IsAttached new.history j
      → ((image_now new.history j).cell k ≡ Damaged) ⊎ SameHeld ((image_now new.history j).cell k) ((f.image j).cell k)
  place_since j k small k_in there on =
      let read = read_at j k small k_in there in
      elim (sector_since j k k on read) [
        | inl harmed ↦ inl (ap content harmed)
        | inr same ↦ inr (subst (λ (t : Sector). SameHeld (content t) ((f.image j).cell k)) (sym same) read.shown.held)
      ]

  -- THE SUPERBLOCK OF A SLOT

  module _ (m : Membership) (surveyed : IsSurveyed f m) (j : ℕ) (here : IsHere m j) where
    -- the current superblock means the medium that was read
    pub found_marked : HasMark m.array.geometry f.image surveyed.current (mark_at surveyed.current j) j
    found_marked =
        here_marked (HasSlot f.gone) m.array.geometry f.image surveyed.current j (why_of m j) here.below (here_late m j here)
        (surveyed.reasons j here.below)

    pub found_small : j < 32
    found_small =
        let below : j < m.array.geometry.n = here.below in
        let few : m.array.geometry.n ≤ 32 = (counts_limits m.array.geometry f.image j found_marked.super found_marked.counts).devices.1 in
        omega arith

    pub found_there : ¬ HasSlot f.gone j
    found_there = let late : rank OtherJoined < rank (why_of m j) = here_late m j here in (surveyed.reasons j here.below).first Gone (omega (arith, late))

    module _ (rules : IsMembership m) (steady : AreSteady m.array.geometry new.history) (on : IsAttached new.history j) where
      abbrev now : ℕ → Cell
      now = (image_now new.history j).cell

      -- what is held there now was read
      read_of : (k : ℕ) (s : Superblock) → k < 2 → HoldsSuper (now k) s → HoldsSuper ((f.image j).cell k) s
      read_of k s k_in holds =
          elim (place_since j k found_small k_in found_there on) [
            | inl harmed ↦ absurd (good_whole holds.good harmed)
            | inr same ↦ (same s).0 holds
          ]

      of_read : (k : ℕ) (s : Superblock) → k < 2 → ¬ IsLost (now k) → HoldsSuper ((f.image j).cell k) s → HoldsSuper (now k) s
      of_read k s k_in whole holds =
          elim (place_since j k found_small k_in found_there on) [
            | inl harmed ↦ absurd (whole (ByOutside harmed))
            | inr same ↦ (same s).1 holds
          ]

      seen : (k : ℕ) (s : Superblock) → k < 2 → HoldsSuper (now k) s → s.draw ≤ m.drawn
      seen k s k_in holds =
          let counts = found_marked.counts in
          let no_older = super_no_older ((f.image j).cell) found_marked.super s k k_in counts.super (read_of k s k_in holds) in
          let draws : s.draw ≤ found_marked.super.draw = no_older.draws in
          let most : found_marked.super.draw ≤ m.drawn = surveyed.drawn.above j found_marked.super counts in
          omega (arith, draws, most)

      aside : (s : Superblock) → IsSuperOf now s → ¬ IsLost (now 0) → ¬ IsLost (now 1) → HoldsSuper (now (1 - place_of m j)) s
      aside s super first second =
          let whole = places_whole now first second in
          let found =
          super_by_holds now ((f.image j).cell) s (λ k t k_in holds. read_of k t k_in holds)
          (λ k t k_in holds. of_read k t k_in (whole k k_in) holds) super in
          let aside_in : 1 - place_of m j < 2 = omega arith in
          of_read (1 - place_of m j) s aside_in (whole (1 - place_of m j) aside_in) (held_at ((surveyed.places j found_small).other s found))

      pub found_known : KnowsSuper m new.history j
      found_known = record {
        there = (history_tidy (history_on {allowed = LeavesSectors} is_history looked)).attached j on;
        steady = λ k k_in. steady j k here.below k_in;
        drawn = seen;
        place = rules.places j found_small;
        aside = aside;
      }
