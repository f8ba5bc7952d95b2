-- A call may begin with the member that a survey answered.
use Rattle.std.proofs.Common.{◌≡◌, ℕ, ◌-◌, ◌<◌, ◌≤◌, List, None, inl, inr, sym, ap, ◌∙◌, subst, arith}
use Rattle.std.specs.Prelude.{◌≢◌, IsTrue, Result, Ok, Some}
use Rattle.stair_model.specs.Geometry.{Geometry}
use Rattle.stair_model.specs.Slots.{HasSlot}
use Rattle.stair_rack.specs.Answers.{IsHistory, Ran, any_call}
use Rattle.stair_rack.specs.Crash.{image_now}
use Rattle.stair_rack.specs.History.{Happening}
use Rattle.stair_rack.specs.Media.{Image}
use Rattle.stair_rack.specs.Offline.{IsAttached, IsOffline}
use Rattle.stair_rack.specs.Sector.{Cell}
use Rattle.stair_rack.specs.Stretch.{NothingReturned}
use Rattle.stair_rack.proofs.TidyLemmas.{history_on}
use Rattle.stair_super.specs.Superblock.{Superblock, joined_at, joined_in, mark_at, mark_in}
use Rattle.stair_super.specs.declared.configuration.Configuration.{Configuration}
use Rattle.stair_super.specs.declared.mark.Mark.TheVariants.{Down}
use Rattle.stair_member.specs.Counting.{AllBut}
use Rattle.stair_member.specs.Current.{HasMark, IsLost}
use Rattle.stair_member.specs.Epochs.{IsTaken}
use Rattle.stair_member.specs.Fencing.{HasDrawn, IsBegun, IsKnownTo}
use Rattle.stair_member.specs.Findings.{Findings}
use Rattle.stair_member.specs.Membership.{IsHere, IsMembership, Membership, place_of, why_of}
use Rattle.stair_member.specs.Reserve.{Bears, HasReached, HasReserved, IsOrderly}
use Rattle.stair_member.specs.Superblocks.{Counts, HoldsSuper}
use Rattle.stair_member.specs.Survey.{InFirst, InSecond, IsAnswer, IsPlaceOf, IsSurveyed, Surveys}
use Rattle.stair_rack.specs.RackState.{RackState}
use Rattle.stair_member.specs.declared.fault.SurveyFault.{SurveyFault}
use Rattle.stair_member.proofs.AskedLemmas.{asked_ran}
use Rattle.stair_member.proofs.CountingLemmas.{all_but_mapped}
use Rattle.stair_member.proofs.SuperLemmas.{holds_once, slot_below}
use Rattle.stair_state.specs.Represents.{AreSteady, Represents, no_write}
use Rattle.stair_state.specs.State.{State}
use Rattle.stair_state.specs.Surveyed.{Covers, CoversAll}
use Rattle.stair_state.specs.Tolerance.{ToleratedSince}
use Rattle.stair_state.proofs.AgreeLemmas.{AgreeBelow, agree_back, bears_agree, counts_agree, here_late, here_marked}
use Rattle.stair_state.proofs.CoverLemmas.{covers_all, held_upto}
use Rattle.stair_state.proofs.DegradedLemmas.{bears_before}
use Rattle.stair_state.proofs.OutsideLemmas.{looks_stand, steady_looks, unwritten_ran}
use Rattle.stair_state.proofs.SeenLemmas.{IsLookedAt, IsWhole, counts_first, counts_read, first_whole, fits, found_first, holds_first, holds_last, holds_read, last_copies, whole_places}
use Rattle.stair_state.proofs.StillLemmas.{read_cell, read_image, steady_cells}
use Rattle.stair_state.proofs.SurveyedLemmas.{agree, found_current, identity, looks, tolerated_last}

-- a place in which a superblock lies holds it
place_holds : {cell : ℕ → Cell} {s : Superblock} {k : ℕ} → IsPlaceOf cell s k → HoldsSuper (cell k) s
place_holds (InFirst holds) = holds
place_holds (InSecond holds first) = holds

-- an image whose superblock places are those of the last one, to the member that the survey answered
module _ (m : Membership) (f : Findings) (surveyed : IsSurveyed f m) {offline : ℕ → Type 0} {first last : Image}
    (looked : IsLookedAt m.array.geometry offline first (read_image f) last) (image : Image) (agrees : AgreeBelow m.array.geometry.n image last) where
  abbrev g : Geometry
  g = m.array.geometry

  abbrev found : Superblock
  found = surveyed.current

  epochs : m.array.epoch ≡ found.array.epoch
  epochs = ap (λ (array : Configuration). array.epoch) surveyed.array

  found_borne : Bears g found.slot ((first found.slot).cell) found
  found_borne = found_first looked found (found_current m f surveyed looked)

  -- WHAT WAS AT FIRST

  borne_first : (j : ℕ) (s : Superblock) → Bears g j ((image j).cell) s → Bears g j ((first j).cell) s
  borne_first j s bears =
      let here : g.n ≤ g.n = omega arith in bears_before (last_copies looked j) (bears_agree g g.n here image last j s agrees bears)

  -- a slot of which no place is lost
  module _ (j : ℕ) (s : Superblock) (counts : Counts g image j s) (in_first : ¬ IsLost ((image j).cell 0))
      (in_second : ¬ IsLost ((image j).cell 1)) where
    below : j < g.n
    below = slot_below g image j s counts

    whole : IsWhole last j
    whole k place lost = whole_places image j in_first in_second k place (subst IsLost (sym (agrees j k below place)) lost)

    counted : Counts g first j s
    counted =
        let here : g.n ≤ g.n = omega arith in counts_first looked j s whole (counts_agree g g.n here image last j s agrees counts)

    drawn_epoch : HasReserved g first j → m.array.epoch ≤ s.draw
    drawn_epoch reserved =
        let upto : found.array.epoch ≤ s.draw =
        reserved s counted (first_whole looked j whole 0 (omega arith)) (first_whole looked j whole 1 (omega arith)) found.slot found found_borne in
        omega (arith, epochs, upto)

    reached_epoch : (epoch : ℕ) → HasReached g first epoch j → epoch ≤ s.array.epoch
    reached_epoch epoch reached =
        reached s counted (first_whole looked j whole 0 (omega arith)) (first_whole looked j whole 1 (omega arith))

    counted_found : Counts g f.image j s
    counted_found =
        counts_agree g 32 (fits looked) (read_image f) f.image j s (agree_back 32 f.image (read_image f) (agree f)) (counts_read looked j s whole counted)

    -- its superblock lies where it was found
    lies_aside : HoldsSuper ((image j).cell (1 - place_of m j)) s
    lies_aside =
        let next : ℕ = 1 - place_of m j in
        let place : next < 2 = omega arith in
        let in_range : j < 32 = omega (arith, below, fits looked) in
        let holds : HoldsSuper ((f.image j).cell next) s =
        place_holds {cell = (f.image j).cell} {s = s} {k = next} ((surveyed.places j in_range).other s counted_found.super) in
        let seen : HoldsSuper ((read_image f j).cell next) s =
        subst (λ (cell : Cell). HoldsSuper cell s) (sym (read_cell f j next in_range place)) holds in
        subst (λ (cell : Cell). HoldsSuper cell s) (sym (agrees j next below place))
        (holds_last looked j next s whole place (holds_first looked j next s seen))

  -- DRAWS

  -- a slot that is here has the medium that what was found means
  found_here : (j : ℕ) → IsHere m j → HasMark g f.image found (mark_at found j) j
  found_here j here =
      here_marked (HasSlot f.gone) g f.image found j (why_of m j) here.below (here_late m j here) (surveyed.reasons j here.below)

  -- what lies in a place was read there
  seen_here : (j k : ℕ) (s : Superblock) → j < g.n → k < 2 → HoldsSuper ((image j).cell k) s → HoldsSuper ((f.image j).cell k) s
  seen_here j k s below place holds =
      subst (λ (cell : Cell). HoldsSuper cell s) (read_cell f j k (omega (arith, below, fits looked)) place)
      (holds_read looked j k s below place (subst (λ (cell : Cell). HoldsSuper cell s) (agrees j k below place) holds))

  drawn_here : (j k : ℕ) (s : Superblock) → IsHere m j → k < 2 → HoldsSuper ((image j).cell k) s → s.draw ≤ m.drawn
  drawn_here j k s here place holds =
      let for = found_here j here in
      let seen : HoldsSuper ((f.image j).cell k) s = seen_here j k s here.below place holds in
      let upto : s.draw ≤ for.super.draw = held_upto ((f.image j).cell) k for.super s place for.counts.super seen in
      let most : for.super.draw ≤ m.drawn = surveyed.drawn.above j for.super for.counts in
      omega (arith, upto, most)

  drawn_taken : (j k : ℕ) (s : Superblock) → IsTaken None m j → k < 2 → HoldsSuper ((image j).cell k) s → s.draw ≤ m.drawn
  drawn_taken j k s (inl here) place holds = drawn_here j k s here place holds
  drawn_taken j k s (inr joins) place holds = let none = joins.0 in absurd (cc)

  -- what lies aside of a slot that is here is the superblock by which it is
  own_here : (j : ℕ) (t : Superblock) → IsHere m j → HoldsSuper ((image j).cell (1 - place_of m j)) t → t.joined ≡ joined_in m.array j
  own_here j t here holds =
      let for = found_here j here in
      let below : j < g.n = here.below in
      let lies : HoldsSuper ((f.image j).cell (1 - place_of m j)) for.super =
      place_holds {cell = (f.image j).cell} {s = for.super} {k = 1 - place_of m j}
      ((surveyed.places j (omega (arith, below, fits looked))).other for.super for.counts.super) in
      let same : t ≡ for.super =
      holds_once ((f.image j).cell (1 - place_of m j)) t for.super (seen_here j (1 - place_of m j) t below (omega arith) holds) lies in
      ap (λ (s : Superblock). s.joined) same ∙ for.joined ∙ sym (ap (λ (array : Configuration). joined_in array j) surveyed.array)

  -- EPOCHS

  nobody_joins : (j : ℕ) → None ≢ Some j
  nobody_joins j same = cc

  reserved_here : AllBut g.n g.m (λ j. (None ≢ Some j) × HasDrawn g image m.array.epoch j)
  reserved_here =
      all_but_mapped {P = HasReserved g first} {Q = λ j. (None ≢ Some j) × HasDrawn g image m.array.epoch j}
      (λ j below reserved. (nobody_joins j, λ s counts one other. drawn_epoch j s counts one other reserved)) looked.orderly.reserved

  reached_here : (i : ℕ) (s : Superblock) → Bears g i ((image i).cell) s → s.array.epoch < m.array.epoch
      → AllBut g.n g.m (λ j. (None ≢ Some j) × HasReached g image s.array.epoch j)
  reached_here i s bears earlier =
      all_but_mapped {P = HasReached g first s.array.epoch} {Q = λ j. (None ≢ Some j) × HasReached g image s.array.epoch j}
      (λ j below reached. (nobody_joins j, λ t counts one other. reached_epoch j t counts one other s.array.epoch reached))
      (looked.orderly.reached i found.slot s found (borne_first i s bears) found_borne (omega (arith, epochs, earlier)))

  joined_here : (i j : ℕ) (s : Superblock) → Bears g i ((image i).cell) s → s.array.epoch ≤ m.array.epoch → mark_at s j ≢ Down
      → mark_in m.array j ≢ Down → joined_at s j ≤ joined_in m.array j
  joined_here i j s bears upto here there =
      subst (λ (array : Configuration). joined_at s j ≤ joined_in array j) (sym surveyed.array)
      (looked.orderly.joined i found.slot j s found (borne_first i s bears) found_borne (omega (arith, epochs, upto)) here
      (subst (λ (array : Configuration). mark_in array j ≢ Down) surveyed.array there))

  pub known_here : (attached : ℕ → Type 0) → IsOrderly g image → ((j : ℕ) (s : Superblock) → Bears g j ((image j).cell) s → Covers m s)
      → IsKnownTo None m attached image
  known_here attached orderly covers = record {
    orderly = orderly;
    latest = λ j s bears. (covers j s bears).epoch;
    named = λ j s bears. (covers j s bears).one_list;
    drawn = λ j k s taken on. drawn_taken j k s taken;
    aside = λ j s here counts one other. lies_aside j s counts one other;
    own = λ j s here on. own_here j s here;
    reserved = reserved_here;
    reached = reached_here;
    joined = λ i j s bears. joined_here i j s bears (covers i s bears).epoch;
  }

pub begins : (s : State) (before : List Happening) (old new : RackState) (answer : Result Membership SurveyFault) (m : Membership)
    → Surveys answer old new → IsTrue new.honest → Ran any_call before old.history → Represents s old.history
    → NothingReturned old.history new.history → ToleratedSince s.geometry before new.history → IsMembership m → answer ≡ Ok m
    → IsBegun None m new.history
begins s before old new answer m surveys honest began stands none tolerated member ok =
    let answered : IsAnswer surveys.findings (Ok m) = subst (λ (a : Result Membership SurveyFault). IsAnswer surveys.findings a) ok surveys.answered in
    let surveyed : IsSurveyed surveys.findings m = answered.0 in
    let is : IsHistory old.history = surveys.began honest in
    let ran : Ran no_write old.history new.history = unwritten_ran (asked_ran 32 old.history new.history (surveys.asked honest)) in
    let same : s.geometry ≡ m.array.geometry =
    sym (identity s before old new surveys.findings surveys.found honest is ran began stands none tolerated m surveyed) in
    let looked : IsLookedAt m.array.geometry (λ j. IsOffline before new.history j) (image_now old.history) (read_image surveys.findings)
    (image_now new.history) =
    subst
    (λ (g : Geometry). IsLookedAt g (λ j. IsOffline before new.history j) (image_now old.history) (read_image surveys.findings) (image_now new.history))
    same (looks s before old new surveys.findings surveys.found honest is ran began stands none tolerated) in
    let steady : AreSteady m.array.geometry new.history =
    subst (λ (g : Geometry). AreSteady g new.history) same (steady_looks s.geometry old.history new.history ran stands.steady) in
    let covered : CoversAll m.array.geometry m new.history =
    subst (λ (g : Geometry). CoversAll g m new.history) same (covers_all s before old new answer m surveys honest began stands none tolerated ok) in
    let after =
    looks_stand s before old.history new.history stands ran none
    (tolerated_last s before old new surveys.findings surveys.found honest is ran began stands none tolerated) in
    record {
      history = history_on {allowed = no_write} is ran;
      member = member;
      settled = steady;
      down = λ j joins below. let none : None ≡ Some j = joins in absurd (cc);
      known = λ image left.
          known_here m surveys.findings surveyed looked image (steady_cells m.array.geometry new.history image steady left)
          (IsAttached new.history) (subst (λ (g : Geometry). IsOrderly g image) same (after.orderly image left)) (covered.each image left);
    }
