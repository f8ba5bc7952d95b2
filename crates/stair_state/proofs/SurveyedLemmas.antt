-- A survey of a rack that represents an array, is within tolerance since the session began and gets no medium back finds it.
use Rattle.std.proofs.Common.{◌≡◌, ℕ, ◌<◌, ◌≤◌, List, ◌⊎◌, inl, inr, refl, sym, ap, ◌∙◌, subst, arith}
use Rattle.std.specs.Prelude.{IsTrue, Result, Ok, Err}
use Rattle.stair_model.specs.Geometry.{Geometry}
use Rattle.stair_model.specs.Slots.{HasSlot, slot_count}
use Rattle.stair_rack.specs.Answers.{IsHistory, Ran, any_call}
use Rattle.stair_rack.specs.Crash.{CrashMayLeave, EachImage, image_now}
use Rattle.stair_rack.specs.History.{Happening, stopped}
use Rattle.stair_rack.specs.Media.{Image}
use Rattle.stair_rack.specs.Offline.{IsOffline, NoMedium, RackStopped}
use Rattle.stair_rack.specs.Stretch.{NothingReturned}
use Rattle.stair_rack.proofs.CrashLemmas.{CrashMayLeave-now}
use Rattle.stair_rack.proofs.MomentLemmas.{moment_between, moment_last, ran_any, ran_join}
use Rattle.stair_super.specs.Superblock.{Superblock}
use Rattle.stair_member.specs.Counting.{AtMost}
use Rattle.stair_member.specs.Current.{IsCurrent, IsLive, Serves}
use Rattle.stair_member.specs.Findings.{AreFound, Findings}
use Rattle.stair_member.specs.Membership.{IsMissing, Membership, why_of}
use Rattle.stair_member.specs.Reasons.{IsReason}
use Rattle.stair_member.specs.Superblocks.{CountsFor, Identifies}
use Rattle.stair_member.specs.Survey.{AreFirstTwo, IsAnswer, IsSurveyed, Surveys}
use Rattle.stair_rack.specs.RackState.{RackState}
use Rattle.stair_member.specs.declared.fault.SurveyFault.{SurveyFault}
use Rattle.stair_member.specs.declared.fault.SurveyFault.TheVariants.{NoArray, TwoArrays, TooFew}
use Rattle.stair_member.specs.declared.why.Why.TheVariants.{Here}
use Rattle.stair_member.proofs.AskedLemmas.{asked_ran}
use Rattle.stair_member.proofs.CountingLemmas.{apart, has_or_not}
use Rattle.stair_member.proofs.StandingLemmas.{serves_unless_failed}
use Rattle.stair_member.proofs.SuperLemmas.{one_current, super_held}
use Rattle.stair_state.specs.Degraded.{AreDamagedCopies, IsDegraded}
use Rattle.stair_state.specs.Represents.{Left, Lesser, Represents, no_write}
use Rattle.stair_state.specs.State.{State}
use Rattle.stair_state.specs.Surveyed.{FindsArray}
use Rattle.stair_state.specs.Tolerance.{IsTolerated, IsWithinTolerance, ToleratedSince}
use Rattle.stair_state.proofs.AgreeLemmas.{AgreeBelow, agree_back, current_agree, here_live, identifies_agree, identifies_limits, mark_agree, live_here}
use Rattle.stair_state.proofs.FormLemmas.{good_whole}
use Rattle.stair_state.proofs.OutsideLemmas.{unwritten_ran}
use Rattle.stair_state.proofs.MixedLemmas.{read_live}
use Rattle.stair_state.proofs.SeenLemmas.{IsLookedAt, ending, fits, found_is, is_ending, read_only, read_stands, serving_read}
use Rattle.stair_state.proofs.StillLemmas.{degraded_now, gone_lost, offline_decided, read_cell, read_copies, read_image, read_kept, steady_cells}

-- what was read, and the cells of it that are known
pub agree : (f : Findings) → AgreeBelow 32 f.image (read_image f)
agree f j k j_in k_in = sym (read_cell f j k j_in k_in)

-- so what is current in what was found is so in what was read
pub found_current : (m : Membership) (f : Findings) (surveyed : IsSurveyed f m) {offline : ℕ → Type 0} {first last : Image}
    → IsLookedAt m.array.geometry offline first (read_image f) last → IsCurrent m.array.geometry (read_image f) surveyed.current
found_current m f surveyed looked =
    current_agree m.array.geometry 32 (fits looked) f.image (read_image f) surveyed.current (agree f) surveyed.is_current

module _ (s : State) (before : List Happening) (old new : RackState) (f : Findings) (found : AreFound f old new) (honest : IsTrue new.honest)
    (is : IsHistory old.history) (ran : Ran no_write old.history new.history) (began : Ran any_call before old.history)
    (stands : Represents s old.history) (none : NothingReturned old.history new.history)
    (tolerated : ToleratedSince s.geometry before new.history) where
  abbrev g : Geometry
  g = s.geometry

  abbrev offline : ℕ → Type 0
  offline j = IsOffline before new.history j

  abbrev first : Image
  first = image_now old.history

  abbrev last : Image
  last = image_now new.history

  at_first : IsWithinTolerance (λ j. IsOffline before old.history j) g first
  at_first = tolerated old.history (moment_between began ran) first (CrashMayLeave-now old.history)

  pub tolerated_last : IsTolerated g before new.history
  tolerated_last =
      let all = ran_join began (ran_any {allowed = no_write} ran) in tolerated new.history (moment_last all.more all.is)

  at_last : IsWithinTolerance offline g last
  at_last = tolerated_last last (CrashMayLeave-now new.history)

  pub goes_on : ¬ IsTrue (stopped new.history)
  goes_on stops = at_last.journal.serves.online (RackStopped stops)

  -- of images that a crash may leave at the beginning and at the end, whose superblock places are those now
  pub looks_from : (more less : Image) → CrashMayLeave old.history more → CrashMayLeave new.history less → IsDegraded more less
      → ((j : ℕ) → AreDamagedCopies (more j).cell (read_image f j).cell)
      → ((j k : ℕ) → j < 32 → k < 2 → (less j).cell k ≡ (last j).cell k) → IsLookedAt g offline more (read_image f) less
  looks_from more less more_left less_left degraded copies now = record {
    orderly = stands.orderly more more_left;
    others = (tolerated old.history (moment_between began ran) more more_left).others;
    shrinks = λ lesser from alone. stands.shrinks more lesser (Left more_left) (Lesser more more_left from alone) from;
    degraded = degraded;
    copies = copies;
    kept = λ j k bytes j_in k_in good.
        read_kept f old new found honest is ran none j k bytes goes_on j_in k_in (sym (now j k j_in k_in) ∙ good);
    after = tolerated_last less less_left;
    empty = λ j empty. NoMedium (sym (less_left j).size ∙ empty);
    known = λ j. offline_decided before new.history j;
  }

  pub looks : IsLookedAt g offline first (read_image f) last
  looks =
      looks_from first last (CrashMayLeave-now old.history) (CrashMayLeave-now new.history) (degraded_now ran none)
      (read_copies f old new found honest is ran none) (λ j k j_in k_in. refl)

  -- WHICH ARRAY IS FOUND

  found_stands : Identifies g f.image
  found_stands = identifies_agree g 32 (fits looks) (read_image f) f.image (agree_back 32 f.image (read_image f) (agree f)) (read_stands looks)

  found_only : (other : Geometry) → Identifies other f.image → other ≡ g
  found_only other identified =
      read_only looks other
      (identifies_agree other 32 (identifies_limits other f.image identified).devices.1 f.image (read_image f) (agree f) identified)

  not_two : (one two : Geometry) → AreFirstTwo f.image one two → ⊥
  not_two one two are =
      let same : one ≡ two = found_only one are.of_first.stands ∙ sym (found_only two are.of_second.stands) in
      let least : are.next ≤ are.slot =
      are.of_second.lowest are.slot (subst (λ (x : Geometry). CountsFor x f.image are.slot) same are.of_first.counts) in
      let order : are.slot < are.next = are.order in
      omega (arith, least, order)

  -- WHAT IS SAID OF ITS SLOTS

  module _ (m : Membership) (surveyed : IsSurveyed f m) where
    pub identity : m.array.geometry ≡ g
    identity = found_only m.array.geometry surveyed.identity.stands

    current_found : IsCurrent g f.image surveyed.current
    current_found = subst (λ (x : Geometry). IsCurrent x f.image surveyed.current) identity surveyed.is_current

    pub current_read : IsCurrent g (read_image f) surveyed.current
    current_read = current_agree g 32 (fits looks) f.image (read_image f) surveyed.current (agree f) current_found

    pub reasons : (j : ℕ) → j < g.n → IsReason (HasSlot f.gone) g f.image surveyed.current j (why_of m j)
    reasons =
        subst (λ (x : Geometry). (j : ℕ) → j < x.n → IsReason (HasSlot f.gone) x f.image surveyed.current j (why_of m j)) identity surveyed.reasons

    not_gone : (j : ℕ) → Serves offline g last (ending looks) j → ¬ HasSlot f.gone j
    not_gone j serves gone =
        let below : j < g.n = serves.live.below in
        let held = super_held ((last j).cell) serves.live.super serves.live.counts.super in
        elim (gone_lost f old new found honest is ran none j (omega (arith, below, fits looks)) gone) [
          | inl stops ↦ absurd (goes_on stops)
          | inr all ↦ absurd (good_whole held.holds.good (all held.place))
        ]

    -- a slot that serves at the end is here
    serving_here : (j : ℕ) → Serves offline g last (ending looks) j → why_of m j ≡ Here
    serving_here j serves =
        live_here (HasSlot f.gone) g f.image surveyed.current j (why_of m j) (not_gone j serves)
        (mark_agree g 32 (fits looks) (read_image f) f.image surveyed.current j (agree_back 32 f.image (read_image f) (agree f))
        (serving_read looks at_first.current surveyed.current at_first.is_current current_read j serves))
        (reasons j serves.live.below)

    -- it has what is named at the end or at first
    pub named : (was is : Superblock) → IsCurrent g first was → IsCurrent g last is → (m.array ≡ is.array) ⊎ (m.array ≡ was.array)
    named was is is_was is_is =
        elim (found_is looks was surveyed.current is_was current_read) [
          | inl same ↦
              inl
              (surveyed.array ∙ same
              ∙ ap (λ (c : Superblock). c.array) (one_current g last (ending looks) is (is_ending looks) is_is))
          | inr same ↦ inr (surveyed.array ∙ same)
        ]

    here_then : (current : Superblock) (j : ℕ) → IsCurrent g last current → Serves offline g last current j → why_of m j ≡ Here
    here_then current j is serves =
        serving_here j
        (subst (λ (c : Superblock). Serves offline g last c j) (one_current g last current (ending looks) is (is_ending looks)) serves)

    -- so few are missing
    few_missing : AtMost m.array.geometry.m (IsMissing m)
    few_missing = record {
      slots = looks.after.few.slots;
      formed = looks.after.few.formed;
      few = subst (λ (x : Geometry). slot_count looks.after.few.slots ≤ x.m) (sym identity) looks.after.few.few;
      within = λ j missing.
          elim (has_or_not looks.after.few.slots j) [
            | inl has ↦ has
            | inr out ↦
                absurd
                (missing.why
                (serving_here j
                (serves_unless_failed g last (ending looks) j (subst (λ (x : Geometry). j < x.n) identity missing.below)
                (λ failed. out (looks.after.few.within j failed)))))
          ];
    }

    -- and each slot that is here was live in whatever a crash before might have left
    here_before : (j : ℕ) → j < g.n → why_of m j ≡ Here
        → EachImage (λ image. (current : Superblock) → IsCurrent g image current → IsLive g image current j) old.history
    here_before j below here image left current is_current =
        let same : AgreeBelow g.n image first = λ i k i_in k_in. steady_cells g old.history image stands.steady left i k i_in k_in in
        let live : IsLive g f.image surveyed.current j =
        here_live (HasSlot f.gone) g f.image surveyed.current j below
        (subst (λ why. IsReason (HasSlot f.gone) g f.image surveyed.current j why) here (reasons j below)) in
        mark_agree g g.n (omega arith) first image current j (agree_back g.n image first same)
        (read_live looks current surveyed.current (current_agree g g.n (omega arith) image first current same is_current) current_read j
        (mark_agree g 32 (fits looks) f.image (read_image f) surveyed.current j (agree f) live))

  pub finds : (answer : Result Membership SurveyFault) → IsAnswer f answer → FindsArray s answer before old.history new.history
  finds (Ok m) answered = record {
    member = m;
    found = refl;
    identity = identity m answered.0;
    named = named m answered.0;
    here = here_then m answered.0;
    live = here_before m answered.0;
  }
  finds (Err NoArray) answered = absurd (answered g found_stands)
  finds (Err (TwoArrays one two)) answered = absurd (not_two answered.0 answered.1 answered.2)
  finds (Err (TooFew whys)) answered = absurd (apart answered.3 (few_missing answered.0 answered.1))

pub finds_array : (s : State) (before : List Happening) (old new : RackState) (answer : Result Membership SurveyFault) → Surveys answer old new
    → IsTrue new.honest → Ran any_call before old.history → Represents s old.history → NothingReturned old.history new.history
    → ToleratedSince s.geometry before new.history → FindsArray s answer before old.history new.history
finds_array s before old new answer surveys honest began stands none tolerated =
    finds s before old new surveys.findings surveys.found honest (surveys.began honest)
    (unwritten_ran (asked_ran 32 old.history new.history (surveys.asked honest))) began stands none tolerated answer surveys.answered
