-- The example: slot 3's device is put back, and the survey of the next opening leaves it out.
use Rattle.std.proofs.Common.{◌≡◌, ◌≢◌, ℕ, zero, suc, ◌<◌, ◌≤◌, ◌⊎◌, List, [], ◌∷◌, ◌++◌, length, inl, inr, refl, sym, ap, ◌∙◌, subst, arith, Some, None, Ok, Result, false, true, replicate}
use Rattle.std.proofs.lemmas.Bool.{cases_eq, cases_lt, cond-false, false≢true, le-ltb, ne_eqb}
use Rattle.stair_model.specs.Slots.{HasSlot, Slots, slot_count}
use Rattle.stair_model.specs.Sum.{sum_below}
use Rattle.stair_rack.specs.Answers.{IsHistory, Ran, any_call}
use Rattle.stair_rack.specs.Crash.{CrashMayLeave}
use Rattle.stair_rack.specs.History.{Acted, Happening, InsertedOld, made, slot_state}
use Rattle.stair_rack.specs.Media.{Image, Medium, SlotImage}
use Rattle.stair_rack.specs.Outside.{IsAct}
use Rattle.stair_rack.specs.Offline.{IsOffline, NoMedium, RackStopped, Unattached}
use Rattle.stair_rack.specs.Sector.{Cell, Damaged, Good}
use Rattle.stair_rack.specs.Stretch.{EachOf, ReturnsNothing}
use Rattle.stair_rack.specs.RackState.{RackState}
use Rattle.stair_rack.proofs.MomentLemmas.{ran_none}
use Rattle.stair_rack.proofs.TidyLemmas.{history_made, history_on}
use Rattle.stair_super.specs.Spelling.{spelled}
use Rattle.stair_super.specs.Superblock.{IsSuperblock, Superblock, joined_in, mark_at, mark_in}
use Rattle.stair_super.specs.declared.configuration.Configuration.{Configuration}
use Rattle.stair_super.specs.declared.mark.Mark.TheVariants.{Down, Live, Rebuilding}
use Rattle.stair_member.specs.Counting.{AllBut}
use Rattle.stair_member.specs.Editions.{Edition, copy_of}
use Rattle.stair_member.specs.Membership.{IsHere, Membership}
use Rattle.stair_member.specs.Reasons.{rank}
use Rattle.stair_member.specs.Reserve.{Bears}
use Rattle.stair_member.specs.Survey.{IsSurveyed, Surveys}
use Rattle.stair_member.specs.declared.fault.SurveyFault.{SurveyFault}
use Rattle.stair_member.specs.declared.why.Why.{Why}
use Rattle.stair_member.specs.declared.why.Why.TheVariants as why
use Rattle.stair_state.specs.Blocks.{AreEncodingsOf, Codewords, zero_blocks}
use Rattle.stair_state.specs.Holding.{HasOvertaken, IsConsistentUnderReassembly}
use Rattle.stair_state.specs.Reassembly.{InSlot, IsBorne, IsMediumOf, IsReassembly, Location, Outside}
use Rattle.stair_state.specs.Represents.{AreSteady, no_write}
use Rattle.stair_state.specs.Tolerance.{IsTolerated}
use Rattle.stair_state.proofs.AloneLemmas.{IsImageTidy, left_is, steady_made}
use Rattle.stair_state.proofs.OutsideLemmas.{steady_looks}
use Rattle.stair_state.proofs.ReturnLemmas.{looked_consistent}
use Rattle.stair_invariant.specs.Mixed.{IsToleratedMixed}
use Rattle.stair_invariant.specs.Returning.{AnyReturns, StaysWithinTolerance}
use Rattle.stair_reinsert.specs.Misled.{device_cell, device_of, five, rack_of}
use Rattle.stair_reinsert.specs.Still.{IsStill}
use Rattle.stair_reinsert.proofs.LookedSoFar.{mixed_unwritten}
use Rattle.stair_reinsert.proofs.MixedImages.{tolerated_at}
use Rattle.stair_reinsert.proofs.StillStretch.{still_tolerated}
use Rattle.stair_reinsert.proofs.SurveyLemmas.{finds}
use Rattle.stair_reinsert_examples.specs.Refused.{all_live}
use Rattle.stair_reinsert_examples.proofs.FiveConsistent.{inside, made_tidy, zeros}
use Rattle.stair_reinsert_examples.proofs.FiveDevices.{AreEditions, IsWithin, chunk_cell, gate_cell, place_cell, tolerates}
use Rattle.stair_reinsert_examples.proofs.FiveMoments.{GoesOn, HoldsDevice, SlotIs, Without, goes_back, left_device, left_shows, made_holds, made_slot, not_both}
use Rattle.stair_reinsert_examples.proofs.FiveStood.{HasBoth, HasStood, IsAtRest, bears_own, stood_consistent, super_bears}
use Rattle.stair_reinsert_examples.proofs.FiveSupers.{named_super, past_none}
use Rattle.stair_reinsert_examples.proofs.FiveSurvey.{five_cases, past_five}
use Rattle.stair_reinsert_examples.proofs.RefusedLemmas.{IsTidySlot, none_some}
use Rattle.stair_lives.specs.Example.{HaveAllBut, IsLeftOutAgain, left_out, made_without, rack_without, reinserted}
use Rattle.stair_lives.proofs.BehindPlaces.{NamesSince, names}
use Rattle.stair_lives.proofs.NewestLemmas.{NamesNewest, found_newest, looked_current}

pub live_up : Live ≢ Down
live_up same = cc

live_built : Live ≢ Rebuilding
live_built same = cc

down_built : Down ≢ Rebuilding
down_built same = cc

abbrev pub newest : Edition
newest = left_out 0

pub other_is : (j : ℕ) → j ≢ 3 → left_out j ≡ newest
other_is j other = cond-false _ _ _ (ne_eqb j 3 other)

-- SUPERBLOCKS

pub stale_super : IsSuperblock (copy_of all_live 3)
stale_super =
    named_super 4 Live Live Live Live Live 1 1 1 1 1 (omega arith) (omega arith, omega arith) (omega arith, omega arith) (omega arith, omega arith)
    (omega arith, omega arith) (omega arith, omega arith) 4 3 (omega arith) (omega arith) (omega arith) live_up

newest_super : (j : ℕ) → j < 5 → mark_in newest.array j ≢ Down → IsSuperblock (copy_of newest j)
newest_super j below up =
    named_super 5 Live Live Live Down Live 1 1 1 0 1 (omega arith) (omega arith, omega arith) (omega arith, omega arith) (omega arith, omega arith)
    refl (omega arith, omega arith) 5 j (omega arith) (omega arith) below up

newest_supers : (j : ℕ) → j < 5 → j ≢ 3 → IsSuperblock (copy_of newest j)
newest_supers =
    five_cases (λ j. j < 5 → j ≢ 3 → IsSuperblock (copy_of newest j)) (λ b other. newest_super 0 b live_up) (λ b other. newest_super 1 b live_up)
    (λ b other. newest_super 2 b live_up) (λ b other. absurd (other refl)) (λ b other. newest_super 4 b live_up)
    (λ j past below other. absurd (omega (arith, past, below)))

-- SLOTS

abbrev pub third : Slots
third = record { marks = false ∷ false ∷ false ∷ true ∷ false ∷ replicate 27 false }

abbrev pub beside : Slots
beside = record { marks = true ∷ true ∷ true ∷ false ∷ true ∷ replicate 27 false }

pub few_third : slot_count third ≤ 2
unfolding sum_below
few_third = let one : slot_count third ≡ 1 = refl in omega (arith, one)

pub many_beside : 2 < slot_count beside
unfolding sum_below
many_beside = let four : slot_count beside ≡ 4 = refl in omega (arith, four)

pub beside_kept : (j : ℕ) → HasSlot beside j → (j < 5) × ¬ HasSlot third j
beside_kept =
    five_cases (λ j. HasSlot beside j → (j < 5) × ¬ HasSlot third j) (λ has. (omega arith, λ out. false≢true out))
    (λ has. (omega arith, λ out. false≢true out)) (λ has. (omega arith, λ out. false≢true out)) (λ has. absurd (false≢true has))
    (λ has. (omega arith, λ out. false≢true out))
    (λ j past has. absurd (false≢true (sym (past_none true true true false true j past) ∙ has)))

pub out_other : (j : ℕ) → ¬ HasSlot third j → j ≢ 3
out_other j out same = out (subst (HasSlot third) (sym same) refl)

module _ (words : Codewords) where
  abbrev image : Image
  image = rack_without words

  other_slot : (j : ℕ) → j ≢ 3 → image j ≡ rack_of words left_out j
  other_slot j other = cond-false _ _ _ (ne_eqb j 3 other)

  tidy : IsImageTidy image
  tidy j =
      elim (cases_eq j 3) [
        | inl same ↦ subst (λ (i : ℕ). IsTidySlot (image i)) (sym same) (λ k past. refl)
        | inr other ↦ subst IsTidySlot (sym (other_slot j other)) (made_tidy words left_out j)
      ]

  -- CONSISTENCY

  both : (e : Edition) (j : ℕ) (m : Medium) → j < 5 → left_out j ≡ e → IsSuperblock (copy_of e j) → e.array.geometry ≡ five
      → m.cell ≡ device_cell words left_out j → HasBoth m e j
  both e j m below is formed geometry cells = record {
    below = below;
    formed = formed;
    of_five = geometry;
    places = λ k place.
        subst (λ (x : Edition). m.cell k ≡ Good (spelled (copy_of x j))) is
        (ap (λ (c : ℕ → Cell). c k) cells ∙ place_cell words left_out j k place);
  }

  module _ (now : Codewords) (agree : HaveAllBut now words) where
    kept : (j : ℕ) (p : Location) (m : Medium) → j ≢ 3 → IsMediumOf (image j) p m → IsAtRest now newest j p m
    kept j p m other is =
        elim (cases_lt j 5) [
          | inl below ↦
              by below p (subst (λ (slot : SlotImage). IsMediumOf slot p m) (other_slot j other ∙ inside words left_out j below) is)
          | inr past ↦
              absurd (bare p (subst (λ (slot : SlotImage). IsMediumOf slot p m) (other_slot j other ∙ cond-false _ _ _ (le-ltb j 5 past)) is))
        ]
      where
        by : j < 5 → (q : Location) → IsMediumOf (record { size = Some 9; cell = device_cell words left_out j; removed = [] }) q m
            → IsAtRest now newest j q m
        by below InSlot there = record {
          place = refl;
          both = both newest j m below (other_is j other) (newest_supers j below other) refl (sym there.1);
          size = let same = there.0 in cc;
          gate = ap (λ (c : ℕ → Cell). c 2) (sym there.1) ∙ gate_cell words left_out j;
          chunk = ap (λ (c : ℕ → Cell). c 8) (sym there.1) ∙ chunk_cell words left_out j ∙ ap Good (agree j other);
        }
        by below (Outside i) there = absurd (none_some there)

        bare : (q : Location) → ¬ IsMediumOf (record { size = None; cell = λ k. Damaged; removed = [] }) q m
        bare InSlot there = none_some there.0
        bare (Outside i) there = none_some there

    old : (p : Location) (m : Medium) → IsMediumOf (image 3) p m → HasBoth m all_live 3
    old InSlot m is = absurd (none_some is.0)
    old (Outside zero) m is =
        let same : device_of words left_out 3 ≡ m = cc in
        both all_live 3 m (omega arith) refl stale_super refl (sym (ap (λ (x : Medium). x.cell) same))
    old (Outside (suc i)) m is = absurd (none_some is)

    apart : (p q : Location) (m n : Medium) → IsMediumOf (image 3) p m → IsMediumOf (image 3) q n → p ≡ q
    apart InSlot q m n is also = absurd (none_some is.0)
    apart (Outside i) InSlot m n is also = absurd (none_some also.0)
    apart (Outside zero) (Outside zero) m n is also = refl
    apart (Outside zero) (Outside (suc k)) m n is also = absurd (none_some also)
    apart (Outside (suc i)) (Outside k) m n is also = absurd (none_some is)

    stood : HasStood now image newest 3 (λ p. all_live)
    stood = record {
      tidy = tidy;
      kept = kept;
      old = old;
      earlier = λ p m is. omega arith;
      one = λ p q m n is also same. refl;
      apart = λ p q m n is also same. apart p q m n is also;
      drawn = omega arith;
      down = refl;
      none_rebuilt =
          five_cases (λ j. mark_in newest.array j ≢ Rebuilding) live_built live_built live_built down_built live_built
          (λ j past same. down_built (sym (past_five Live Live Live Down Live Down j past) ∙ same));
      frozen = refl;
      label = refl;
    }

    pub made_consistent : AreEncodingsOf five zero_blocks now → IsConsistentUnderReassembly zeros (made_without words)
    made_consistent encoded = stood_consistent now image newest 3 (λ p. all_live) encoded stood third refl few_third refl

    -- WHAT IS BORNE

    borne_is : (i : ℕ) (p : Location) (a : Superblock) → IsBorne five image i p a → (a ≡ copy_of all_live 3) ⊎ (a ≡ copy_of newest i)
    borne_is i p a borne =
        elim (cases_eq i 3) [
          | inl same ↦
              inl
              (bears_own borne.medium all_live 3 a (old p borne.medium (subst (λ (j : ℕ). IsMediumOf (image j) p borne.medium) same borne.is_one))
              (subst (λ (j : ℕ). Bears five j borne.medium.cell a) same borne.bears))
          | inr other ↦ inr (bears_own borne.medium newest i a (kept i p borne.medium other borne.is_one).both borne.bears)
        ]

    -- all media but that of slot 3 name epoch 5
    overtaken : (a : Superblock) → a.array.epoch < 5 → AllBut 5 2 (HasOvertaken five image a)
    overtaken a earlier = record {
      exceptions = third;
      formed = refl;
      few = few_third;
      others = λ j below out marked p medium s is super slot geometry same first second.
          let own : s ≡ copy_of newest j =
          bears_own medium newest j s (kept j p medium (out_other j out) is).both (super_bears s super slot geometry) in
          let epoch : s.array.epoch ≡ 5 = ap (λ (x : Superblock). x.array.epoch) own in
          omega (arith, epoch, earlier);
    }

    since_five : NamesSince five newest.array image
    since_five = record {
      overtaken = λ i p a borne earlier. overtaken a earlier;
      latest = λ i p a borne.
          elim (borne_is i p a borne) [
            | inl stale ↦ let epoch : a.array.epoch ≡ 4 = ap (λ (x : Superblock). x.array.epoch) stale in omega (arith, epoch)
            | inr own ↦ let epoch : a.array.epoch ≡ 5 = ap (λ (x : Superblock). x.array.epoch) own in omega (arith, epoch)
          ];
      named = λ i p a borne five_too.
          elim (borne_is i p a borne) [
            | inl stale ↦ let epoch : a.array.epoch ≡ 4 = ap (λ (x : Superblock). x.array.epoch) stale in absurd (omega (arith, epoch, five_too))
            | inr own ↦ ap (λ (x : Superblock). x.array) own
          ];
    }

    -- so that is current, however media are put together
    pub made_names : NamesNewest five newest.array (made_without words)
    made_names other to current left reassembly alone is =
        names five newest.array image since_five to
        (subst (λ (x : Image). IsReassembly x to) (left_is image tidy other left) reassembly) alone current is

  -- ONCE IT IS PUT BACK

  pub acted : Ran no_write (made_without words) (reinserted words)
  acted = record { more = Acted 3 (InsertedOld 0) ∷ []; is = refl; runs = (tt, inl may_insert) }
    where
      may_insert : IsAct (made_without words) (Acted 3 (InsertedOld 0))
      may_insert = (omega arith, (refl, omega arith))

  pub was_history : IsHistory (reinserted words)
  was_history = history_on {allowed = no_write} (history_made image) acted

  steady : AreSteady five (reinserted words)
  steady = steady_looks five (made_without words) (reinserted words) acted (steady_made five image)

  -- its slots
  made_goes : GoesOn words left_out third (made_without words)
  made_goes = record {
    going = refl;
    slots = λ j.
        elim (cases_eq j 3) [
          | inl same ↦ subst (λ (i : ℕ). SlotIs words left_out i (slot_state (made_without words) i)) (sym same) (Without refl (λ k. refl))
          | inr other ↦ subst (SlotIs words left_out j) (sym (ap made (other_slot j other))) (made_slot words left_out j)
        ];
    kept = λ j below out.
        let same = ap made (other_slot j (out_other j out)) in
        (subst (HoldsDevice words left_out j) (sym same) (made_holds words left_out j below), refl);
  }

  pub goes : GoesOn words left_out third (reinserted words)
  goes = goes_back words left_out third (made_without words) 3 refl (omega arith) refl made_goes

  are : AreEditions words left_out
  are = record {
    formed = λ j below.
        elim (cases_eq j 3) [
          | inl same ↦ subst (λ (i : ℕ). IsSuperblock (copy_of (left_out i) i)) (sym same) stale_super
          | inr other ↦ subst (λ (e : Edition). IsSuperblock (copy_of e j)) (sym (other_is j other)) (newest_supers j below other)
        ];
    of_five = λ j below.
        elim (cases_eq j 3) [
          | inl same ↦ subst (λ (i : ℕ). (left_out i).array.geometry ≡ five) (sym same) refl
          | inr other ↦ ap (λ (e : Edition). e.array.geometry) (other_is j other)
        ];
  }

  -- the superblock of slot 0 is the newest
  order : (j : ℕ) → j < 5 → ((left_out j).array.epoch < 5) ⊎ (((left_out j).array.epoch ≡ 5) × (0 ≤ j))
  order j below =
      elim (cases_eq j 3) [
        | inl same ↦ inl (let epoch : (left_out j).array.epoch ≡ 4 = ap (λ (i : ℕ). (left_out i).array.epoch) same in omega (arith, epoch))
        | inr other ↦ inr (ap (λ (e : Edition). e.array.epoch) (other_is j other), omega arith)
      ]

  online : (j : ℕ) → j < 5 → ¬ HasSlot third j → ¬ IsOffline (reinserted words) (reinserted words) j
  online j below out (NoMedium none) = not_both words left_out j (slot_state (reinserted words) j) none (goes.kept j below out).0
  online j below out (Unattached off pulled) = omega (arith, pulled)
  online j below out (RackStopped stops) = false≢true stops

  within : (back : Image) → CrashMayLeave (reinserted words) back
      → IsWithin words left_out third (IsOffline (reinserted words) (reinserted words)) back 0
  within back left = record {
    shows = λ j. left_shows words left_out (slot_state (reinserted words) j) back j (left j) (goes.slots j);
    first = left_device words left_out (slot_state (reinserted words) 0) back 0 (left 0) (goes.kept 0 (omega arith) (λ out. false≢true out)).0;
    newest = λ j is. order j is.below;
    kept = λ j below out. left_device words left_out (slot_state (reinserted words) j) back j (left j) (goes.kept j below out).0;
    online = online;
    live =
        five_cases (λ j. j < 5 → ¬ HasSlot third j → mark_in newest.array j ≡ Live) (λ b out. refl) (λ b out. refl) (λ b out. refl)
        (λ b out. absurd (out refl)) (λ b out. refl) (λ j past below out. absurd (omega (arith, past, below)));
    joined = λ j below out. ap (λ (e : Edition). joined_in e.array j) (other_is j (out_other j out));
  }

  tolerated : IsTolerated five (reinserted words) (reinserted words)
  tolerated back left =
      tolerates words left_out are third refl few_third beside refl many_beside beside_kept 0 (omega arith) (λ out. false≢true out)
      (IsOffline (reinserted words) (reinserted words)) back 0 (within back left)

  pub mixed : (h : List Happening) → IsStill (reinserted words) h → IsToleratedMixed five (reinserted words) (reinserted words) h
  mixed h still = still_tolerated five (reinserted words) h was_history steady still tolerated

  calm : (h : List Happening) → IsStill (reinserted words) h → StaysWithinTolerance AnyReturns five false (reinserted words) h
  calm h still =
      (λ moment at. tolerated_at five (reinserted words) (reinserted words) h (mixed h still) moment at, mixed_unwritten five (reinserted words) h (mixed h still))

  -- slot 3 takes no part for a member that was found by epoch 5
  pub not_here : (first last : RackState) (m : Membership) (surveys : Surveys (Ok m) first last) → m.array ≡ newest.array → ¬ IsHere m 3
  not_here first last m surveys same here =
      let surveyed : IsSurveyed surveys.findings m = surveys.answered.0 in
      let down : mark_at surveyed.current 3 ≡ Down =
      ap (λ (c : Configuration). mark_in c 3) (sym surveyed.array ∙ same) in
      let first_reason = (surveyed.reasons 3 here.below).first why.MarkedDown in
      elim here.why [
        | inl live ↦ first_reason (subst (λ (w : Why). rank why.MarkedDown < rank w) (sym live) (omega arith)) down
        | inr rebuilt ↦ first_reason (subst (λ (w : Why). rank why.MarkedDown < rank w) (sym rebuilt) (omega arith)) down
      ]

  -- and a medium did come back
  came_back : (more : List Happening) → reinserted words ≡ more ++ made_without words → EachOf ReturnsNothing more (made_without words) → ⊥
  came_back [] is each = let longer : 2 ≡ 1 = ap length is in absurd (omega (arith, longer))
  came_back (e ∷ more) is each =
      let same : e ≡ Acted 3 (InsertedOld 0) = cc in subst (ReturnsNothing (more ++ made_without words)) same each.1

  pub left_out_again : (now : Codewords) → AreEncodingsOf five zero_blocks now → HaveAllBut now words → IsLeftOutAgain words
  left_out_again now encoded agree = record {
    history = was_history;
    returned = λ none. came_back none.more none.is none.each;
    consistent = looked_consistent zeros (made_without words) (reinserted words) (made_consistent now agree encoded) acted;
    calm = calm;
    found = λ first last answer begins honest still surveys.
        let stretch = subst (λ (h : List Happening). IsToleratedMixed five h h last.history) (sym begins) (mixed last.history (subst (λ (h : List Happening). IsStill h last.history) begins still)) in
        let is = finds first.history first last answer surveys honest (ran_none {allowed = any_call} first.history) five stretch in
        let found = subst (λ (a : Result Membership SurveyFault). Surveys a first last) is.found surveys in
        let same =
        found_newest five is.member newest.array first last found honest
        (subst (NamesNewest five newest.array) (sym begins)
        (looked_current five newest.array (made_without words) (reinserted words) (made_names now agree) acted)) stretch in
        (is.member, is.found, same, not_here first last is.member found same);
  }
