-- A survey finds the array where mixed images are tolerated, whatever comes back meanwhile.
use Rattle.std.specs.Prelude.{IsTrue, true, Result, Ok, Err}
use Rattle.std.proofs.Common.{◌≡◌, ℕ, ◌<◌, ◌≤◌, List, [], ◌∷◌, ◌⊎◌, inl, inr, refl, sym, ◌∙◌, subst, arith, None}
use Rattle.std.proofs.lemmas.Bool.{cases_lt}
use Rattle.stair_model.specs.Geometry.{Geometry}
use Rattle.stair_model.specs.Slots.{HasSlot, slot_count}
use Rattle.stair_rack.specs.Answers.{IsHistory, Ran, any_call}
use Rattle.stair_rack.specs.History.{Happening, Made, slot_state}
use Rattle.stair_rack.specs.Media.{Image, SlotImage}
use Rattle.stair_rack.specs.Offline.{IsOffline, NoMedium, RackStopped, Unattached}
use Rattle.stair_rack.specs.RackState.{RackState, rack_state}
use Rattle.stair_rack.proofs.MomentLemmas.{moment_first, ran_none}
use Rattle.stair_rack.proofs.OfflineLemmas.{WasPulled-sooner}
use Rattle.stair_super.specs.Superblock.{Superblock}
use Rattle.stair_member.specs.Asked.{LeavesSectors}
use Rattle.stair_member.specs.Counting.{AtMost}
use Rattle.stair_member.specs.Current.{IsCurrent, IsLive, Serves}
use Rattle.stair_member.specs.Findings.{Findings}
use Rattle.stair_member.specs.Membership.{IsMissing, Membership, why_of}
use Rattle.stair_member.specs.Reasons.{IsReason}
use Rattle.stair_member.specs.Superblocks.{Counts, CountsFor, Identifies}
use Rattle.stair_member.specs.Survey.{AreFirstTwo, IsAnswer, IsSurveyed, Surveys}
use Rattle.stair_member.specs.declared.fault.SurveyFault.{SurveyFault}
use Rattle.stair_member.specs.declared.fault.SurveyFault.TheVariants.{NoArray, TwoArrays, TooFew}
use Rattle.stair_member.specs.declared.why.Why.TheVariants.{Here}
use Rattle.stair_member.proofs.AskedLemmas.{asked_ran}
use Rattle.stair_member.proofs.CountingLemmas.{apart, has_or_not, more_mapped, slot_in_range}
use Rattle.stair_member.proofs.StandingLemmas.{serves_unless_failed}
use Rattle.stair_member.proofs.SuperLemmas.{counts_limits, slot_below, super_by_holds}
use Rattle.stair_state.proofs.AgreeLemmas.{live_here}
use Rattle.stair_state.proofs.OutsideLemmas.{slot_now, slot_now_left}
use Rattle.stair_invariant.specs.Mixed.{IsMixed, IsMixedSlot, IsToleratedMixed, WasOffline}
use Rattle.stair_reinsert.specs.Found.{FindsMember}
use Rattle.stair_reinsert.specs.Misled.{IsMisled, five}
use Rattle.stair_reinsert.proofs.MixedFinding.{IsMixedFinding, SameHeld, mixed_finding}
use Rattle.stair_reinsert.proofs.MixedImages.{offline_failed, slot_mixed}

-- IMAGES THAT SHOW THE SAME SUPERBLOCKS

-- the superblock places of the first 32 slots hold the same one, or none
abbrev pub ShowTheSame : Image → Image → Type 0
ShowTheSame a b = (j k : ℕ) → j < 32 → k < 2 → SameHeld ((a j).cell k) ((b j).cell k)

pub same_back : (a b : Image) → ShowTheSame a b → ShowTheSame b a
same_back a b same j k j_in k_in s = ((same j k j_in k_in s).1, (same j k j_in k_in s).0)

pub counts_same : (g : Geometry) (a b : Image) (j : ℕ) (s : Superblock) → ShowTheSame a b → Counts g a j s → Counts g b j s
counts_same g a b j s same counts =
    let limits = counts_limits g a j s counts in
    let small : g.n ≤ 32 = limits.devices.1 in
    let below : j < g.n = slot_below g a j s counts in
    record {
      super =
          super_by_holds ((a j).cell) ((b j).cell) s (λ k t k_in holds. (same j k (omega arith) k_in t).0 holds)
          (λ k t k_in holds. (same j k (omega arith) k_in t).1 holds) counts.super;
      slot = counts.slot;
      identity = counts.identity;
    }

current_same : (g : Geometry) (a b : Image) (current : Superblock) → ShowTheSame a b → IsCurrent g a current → IsCurrent g b current
current_same g a b current same is = record {
  counts = counts_same g a b current.slot current same is.counts;
  newest = λ j s counts. is.newest j s (counts_same g b a j s (same_back a b same) counts);
}

live_same : (g : Geometry) (a b : Image) (current : Superblock) (j : ℕ) → ShowTheSame a b → IsLive g a current j → IsLive g b current j
live_same g a b current j same live = record {
  below = live.below;
  marked = live.marked;
  super = live.super;
  counts = counts_same g a b j live.super same live.counts;
  joined = live.joined;
}

identifies_same : (g : Geometry) (a b : Image) → ShowTheSame a b → Identifies g a → Identifies g b
identifies_same g a b same stands =
    more_mapped {P = CountsFor g a} {Q = CountsFor g b}
    (λ j for. record { super = for.super; counts = counts_same g a b j for.super same for.counts }) stands

-- A SURVEY

pub offline_sooner : {before old : List Happening} (h : List Happening) (j : ℕ) → Ran any_call before old → IsOffline old h j → IsOffline before h j
offline_sooner h j ran (NoMedium none) = NoMedium none
offline_sooner h j ran (Unattached off pulled) = Unattached off (WasPulled-sooner {allowed = any_call} h j ran pulled)
offline_sooner h j ran (RackStopped stops) = RackStopped stops

module _ (before : List Happening) (old new : RackState) (answer : Result Membership SurveyFault) (surveys : Surveys answer old new)
    (honest : IsTrue new.honest) (began : Ran any_call before old.history) where
  abbrev f : Findings
  f = surveys.findings

  pub history : IsHistory old.history
  history = surveys.began honest

  pub ran : Ran LeavesSectors old.history new.history
  ran = asked_ran 32 old.history new.history (surveys.asked honest)

  was_offline : (j : ℕ) → HasSlot f.gone j → WasOffline before old.history new.history j
  was_offline j has =
      let small = slot_in_range f.gone j surveys.found.formed has in
      let at = ((surveys.found.each j small).gone has).1 honest in
      record { moment = at.moment; is_one = at.is_one; holds = offline_sooner at.moment j began at.holds }

  slot_finding : (j : ℕ) → j < 32 → IsMixedFinding before old.history new.history ((f.image j).cell) j
  slot_finding j small =
      mixed_finding before old.history new.history history ((f.image j).cell) j (HasSlot f.gone j) ((surveys.found.each j small).finds honest)
      (was_offline j)

  -- what was found is what a mixed image shows
  slot_of : (j : ℕ) → (j < 32) ⊎ (32 ≤ j) → SlotImage
  slot_of j (inl below) = (slot_finding j below).to
  slot_of j (inr above) = slot_now (slot_state old.history j)

  pub together : Image
  together j = slot_of j (cases_lt j 32)

  slot_of_mixed : (j : ℕ) (which : (j < 32) ⊎ (32 ≤ j)) → IsMixedSlot before old.history new.history j (slot_of j which)
  unfolding slot_of
  slot_of_mixed j (inl below) = (slot_finding j below).mixed
  slot_of_mixed j (inr above) =
      slot_mixed old.history j (slot_now (slot_state old.history j)) (moment_first ran.more ran.is) (slot_now_left (slot_state old.history j))

  pub together_mixed : IsMixed before old.history new.history together
  unfolding together
  together_mixed j = slot_of_mixed j (cases_lt j 32)

  slot_of_shown : (j : ℕ) (which : (j < 32) ⊎ (32 ≤ j)) → j < 32 → (k : ℕ) → k < 2 → SameHeld ((slot_of j which).cell k) ((f.image j).cell k)
  unfolding slot_of
  slot_of_shown j (inl below) small k k_in = (slot_finding j below).shown k k_in
  slot_of_shown j (inr above) small k k_in = absurd (omega (arith, above, small))

  pub together_shown : ShowTheSame together f.image
  unfolding together
  together_shown j k small k_in = slot_of_shown j (cases_lt j 32) small k k_in

  module _ (g : Geometry) (tolerated : IsToleratedMixed g before old.history new.history) where
    only : (other : Geometry) → Identifies other f.image → other ≡ g
    only other identified =
        (tolerated.identity together together_mixed).alone other
        (identifies_same other f.image together (same_back together f.image together_shown) identified)

    stands : Identifies g f.image
    stands = identifies_same g together f.image together_shown (tolerated.identity together together_mixed).stands

    not_two : (one two : Geometry) → AreFirstTwo f.image one two → ⊥
    not_two one two are =
        let twice : one ≡ two = only one are.of_first.stands ∙ sym (only two are.of_second.stands) in
        let least : are.next ≤ are.slot =
        are.of_second.lowest are.slot (subst (λ (x : Geometry). CountsFor x f.image are.slot) twice are.of_first.counts) in
        let order : are.slot < are.next = are.order in
        omega (arith, least, order)

    module _ (m : Membership) (surveyed : IsSurveyed f m) where
      pub is_mine : m.array.geometry ≡ g
      is_mine = only m.array.geometry surveyed.identity.stands

      pub current_together : IsCurrent g together surveyed.current
      current_together =
          current_same g f.image together surveyed.current (same_back together f.image together_shown)
          (subst (λ (x : Geometry). IsCurrent x f.image surveyed.current) is_mine surveyed.is_current)

      here : (j : ℕ) → ¬ HasSlot f.gone j → Serves (λ k. (together k).size ≡ None) g together surveyed.current j → why_of m j ≡ Here
      here j found serves =
          live_here (HasSlot f.gone) g f.image surveyed.current j (why_of m j) found
          (live_same g together f.image surveyed.current j together_shown serves.live)
          (subst (λ (x : Geometry). (i : ℕ) → i < x.n → IsReason (HasSlot f.gone) x f.image surveyed.current i (why_of m i)) is_mine surveyed.reasons j
          serves.live.below)

      pub missing_failed : (j : ℕ) → IsMissing m j → HasSlot tolerated.failed j
      missing_failed j missing =
          let below : j < g.n = subst (λ (x : Geometry). j < x.n) is_mine missing.below in
          elim (has_or_not f.gone j) [
            | inl is_gone ↦ offline_failed g before old.history new.history tolerated together j together_mixed below (was_offline j is_gone)
            | inr found ↦
                elim (has_or_not tolerated.failed j) [
                  | inl has ↦ has
                  | inr out ↦
                      absurd
                      (missing.why
                      (here j found
                      (serves_unless_failed g together surveyed.current j below
                      (λ failed. out (tolerated.within together surveyed.current j together_mixed current_together failed)))))
                ]
          ]

      few_missing : AtMost m.array.geometry.m (IsMissing m)
      few_missing = record {
        slots = tolerated.failed;
        formed = tolerated.formed;
        few = subst (λ (x : Geometry). slot_count tolerated.failed ≤ x.m) (sym is_mine) tolerated.few;
        within = missing_failed;
      }

    by_answer : (a : Result Membership SurveyFault) → IsAnswer f a → FindsMember g tolerated.failed a
    by_answer (Ok m) answered =
        record { member = m; found = refl; identity = is_mine m answered.0; missing = missing_failed m answered.0 }
    by_answer (Err NoArray) answered = absurd (answered g stands)
    by_answer (Err (TwoArrays one two)) answered = absurd (not_two answered.0 answered.1 answered.2)
    by_answer (Err (TooFew whys)) answered = absurd (apart answered.3 (few_missing answered.0 answered.1))

    pub finds : FindsMember g tolerated.failed answer
    finds = by_answer answer surveys.answered

-- so it isn't misled
pub not_misled : (image : Image) (new : List Happening) → IsMisled image new → ¬ IsToleratedMixed five (Made image ∷ []) (Made image ∷ []) new
not_misled image new misled tolerated =
    let found =
    finds (Made image ∷ []) (rack_state true (Made image ∷ []) 0 (λ j. 0)) (rack_state true new 0 misled.gones) (Err (TooFew misled.whys)) misled.surveys refl
    (ran_none (Made image ∷ [])) five tolerated in
    let never : ◌≡◌ {A = Result Membership SurveyFault} (Err (TooFew misled.whys)) (Ok found.member) = found.found in
    absurd (cc)
