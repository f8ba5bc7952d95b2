-- The member that a survey answers marks each slot by its reason, where its medium is the one that the member's epoch means; and
-- what takes part is held since the survey began.
use Rattle.std.proofs.Common.{◌≡◌, ◌≢◌, ℕ, ◌<◌, ◌≤◌, List, inl, inr, sym, ap, ◌∙◌, subst, arith}
use Rattle.std.specs.Prelude.{IsTrue, Result, Ok}
use Rattle.stair_model.specs.Geometry.{Geometry}
use Rattle.stair_model.specs.Slots.{HasSlot}
use Rattle.stair_rack.specs.Answers.{IsHistory, Ran, any_call}
use Rattle.stair_rack.specs.Crash.{image_now}
use Rattle.stair_rack.specs.History.{Happening}
use Rattle.stair_rack.specs.Media.{Image}
use Rattle.stair_rack.specs.Offline.{IsHeld, IsOffline}
use Rattle.stair_rack.specs.Sector.{Cell}
use Rattle.stair_rack.specs.Stretch.{NothingReturned}
use Rattle.stair_rack.specs.RackState.{RackState}
use Rattle.stair_rack.proofs.MomentLemmas.{ran_none}
use Rattle.stair_super.specs.Superblock.{Superblock, joined_at, joined_in, mark_at, mark_in}
use Rattle.stair_super.specs.declared.configuration.Configuration.{Configuration}
use Rattle.stair_super.specs.declared.mark.Mark.TheVariants.{Down}
use Rattle.stair_member.specs.Aims.{mark_for}
use Rattle.stair_member.specs.Findings.{Findings}
use Rattle.stair_member.specs.Membership.{IsHere, IsMarkedFor, IsMembership, Membership, why_of}
use Rattle.stair_member.specs.Reasons.{IsReason}
use Rattle.stair_member.specs.Reserve.{Bears, IsOrderly}
use Rattle.stair_member.specs.Superblocks.{IsSuperOf}
use Rattle.stair_member.specs.Survey.{IsAnswer, IsSurveyed, Surveys}
use Rattle.stair_member.specs.declared.fault.SurveyFault.{SurveyFault}
use Rattle.stair_member.specs.declared.why.Why.{Why}
use Rattle.stair_member.specs.declared.why.Why.TheVariants.{Gone, Here, MarkedDown, NoSuper, OtherArray, OtherJoined, OtherSlot, Rebuilding}
use Rattle.stair_member.proofs.AskedLemmas.{asked_ran}
use Rattle.stair_member.proofs.EditionLemmas.{bears_below, none_held_there}
use Rattle.stair_member.proofs.SuperLemmas.{counts_bears, super_cells}
use Rattle.stair_state.specs.Represents.{AreSteady, Represents, no_write}
use Rattle.stair_state.specs.State.{State}
use Rattle.stair_state.specs.Surveyed.{MarksByReasons}
use Rattle.stair_state.specs.Tolerance.{ToleratedSince}
use Rattle.stair_state.proofs.AgreeLemmas.{agree_back, here_late, bears_agree, current_upto, own_joined, own_mark}
use Rattle.stair_state.proofs.DegradedLemmas.{orderly_copies}
use Rattle.stair_state.proofs.OutsideLemmas.{steady_looks, unwritten_ran}
use Rattle.stair_state.proofs.SeenLemmas.{IsLookedAt, bears_read, fits}
use Rattle.stair_state.proofs.StillLemmas.{gone_lost, read_cell, read_image, steady_cells}
use Rattle.stair_state.proofs.SurveyedLemmas.{agree, goes_on, found_current, identity, looks}

-- what a superblock that a medium bears says of its own slot
borne_joined : (g : Geometry) (j : ℕ) (cell : ℕ → Cell) (s : Superblock) → Bears g j cell s → s.joined ≡ joined_at s j
borne_joined g j cell s bears = bears.holds.spells.block.rules.own ∙ ap (λ (i : ℕ). joined_at s i) bears.slot

borne_mark : (g : Geometry) (j : ℕ) (cell : ℕ → Cell) (s : Superblock) → Bears g j cell s → mark_at s j ≢ Down
borne_mark g j cell s bears = subst (λ (i : ℕ). mark_at s i ≢ Down) bears.slot bears.holds.spells.block.rules.here

-- of slots whose superblock can be read at the end
module _ (m : Membership) (rules : IsMembership m) (f : Findings) (surveyed : IsSurveyed f m) {offline : ℕ → Type 0} {first last : Image}
    (looked : IsLookedAt m.array.geometry offline first (read_image f) last)
    (gone_none : (j : ℕ) (s : Superblock) → HasSlot f.gone j → Bears m.array.geometry j ((last j).cell) s → ⊥) where
  abbrev g : Geometry
  g = m.array.geometry

  read_order : IsOrderly g (read_image f)
  read_order = orderly_copies g first (read_image f) looked.copies looked.orderly

  module _ (j : ℕ) (u : Superblock) (below : j < g.n) (bears : Bears g j ((last j).cell) u) (joined : u.joined ≡ joined_in m.array j) where
    in_read : Bears g j ((read_image f j).cell) u
    in_read = bears_read looked j u bears

    in_found : Bears g j ((f.image j).cell) u
    in_found = bears_agree g 32 (fits looked) (read_image f) f.image j u (agree_back 32 f.image (read_image f) (agree f)) in_read

    super_read : (t : Superblock) → IsSuperOf ((f.image j).cell) t → IsSuperOf ((read_image f j).cell) t
    super_read t super =
        super_cells ((f.image j).cell) ((read_image f j).cell) t (sym (read_cell f j 0 (omega (arith, below, fits looked)) (omega arith)))
        (sym (read_cell f j 1 (omega (arith, below, fits looked)) (omega arith))) super

    by_why : (why : Why) → IsMarkedFor why (mark_in m.array j) → IsReason (HasSlot f.gone) g f.image surveyed.current j why
        → mark_in m.array j ≡ mark_for why
    by_why Here is reason = is
    by_why Rebuilding is reason = is
    by_why MarkedDown is reason = ap (λ (array : Configuration). mark_in array j) surveyed.array ∙ reason.applies
    by_why Gone is reason = absurd (gone_none j u reason.applies bears)
    by_why NoSuper is reason =
        absurd (reason.applies (record { place = in_found.place; place_in = in_found.place_in; super = u; holds = in_found.holds }))
    by_why OtherArray is reason =
        absurd (reason.applies.2 (read_order.hidden j u reason.applies.0 in_read (super_read reason.applies.0 reason.applies.1)).0.identity)
    by_why OtherSlot is reason =
        absurd (reason.applies.2 (read_order.hidden j u reason.applies.0 in_read (super_read reason.applies.0 reason.applies.1)).0.slot)
    by_why OtherJoined is reason =
        let t : Superblock = reason.applies.0 in
        let hid = read_order.hidden j u t in_read (super_read t reason.applies.1) in
        let bears_t = counts_bears g (read_image f) j t hid.0 in
        let up : joined_at u j ≤ joined_at t j =
        read_order.joined j j j u t in_read bears_t hid.1 (borne_mark g j ((read_image f j).cell) u in_read) (own_mark g (read_image f) j t hid.0) in
        let down : joined_at t j ≤ joined_at surveyed.current j =
        read_order.joined j surveyed.current.slot j t surveyed.current bears_t
        (counts_bears g (read_image f) surveyed.current.slot surveyed.current (found_current m f surveyed looked).counts)
        (current_upto g (read_image f) surveyed.current j t (found_current m f surveyed looked) hid.0) (own_mark g (read_image f) j t hid.0)
        (reason.first MarkedDown (omega arith)) in
        let own_u : u.joined ≡ joined_at u j = borne_joined g j ((read_image f j).cell) u in_read in
        let own_t : t.joined ≡ joined_at t j = own_joined g (read_image f) j t hid.0 in
        let named : joined_in m.array j ≡ joined_at surveyed.current j = ap (λ (array : Configuration). joined_in array j) surveyed.array in
        absurd (reason.applies.2 (omega (arith, up, down, own_u, own_t, named, joined)))

    pub marked_last : mark_in m.array j ≡ mark_for (why_of m j)
    marked_last = by_why (why_of m j) (rules.marked j below) (surveyed.reasons j below)

module _ (s : State) (before : List Happening) (old new : RackState) (answer : Result Membership SurveyFault)
    (m : Membership) (surveys : Surveys answer old new) (honest : IsTrue new.honest) (began : Ran any_call before old.history)
    (stands : Represents s old.history) (none : NothingReturned old.history new.history)
    (tolerated : ToleratedSince s.geometry before new.history) (ok : answer ≡ Ok m) where
  surveyed_as : IsSurveyed surveys.findings m
  surveyed_as =
      let answered : IsAnswer surveys.findings (Ok m) = subst (λ (a : Result Membership SurveyFault). IsAnswer surveys.findings a) ok surveys.answered in
      answered.0

  is : IsHistory old.history
  is = surveys.began honest

  ran : Ran no_write old.history new.history
  ran = unwritten_ran (asked_ran 32 old.history new.history (surveys.asked honest))

  same : s.geometry ≡ m.array.geometry
  same = sym (identity s before old new surveys.findings surveys.found honest is ran began stands none tolerated m surveyed_as)

  looked : IsLookedAt m.array.geometry (λ j. IsOffline before new.history j) (image_now old.history) (read_image surveys.findings)
      (image_now new.history)
  looked =
      subst
      (λ (h : Geometry). IsLookedAt h (λ j. IsOffline before new.history j) (image_now old.history) (read_image surveys.findings)
      (image_now new.history)) same
      (looks s before old new surveys.findings surveys.found honest is ran began stands none tolerated)

  gone_none : (j : ℕ) (t : Superblock) → HasSlot surveys.findings.gone j → Bears m.array.geometry j ((image_now new.history j).cell) t → ⊥
  gone_none j t gone bears =
      let below : j < m.array.geometry.n = bears_below m.array.geometry j ((image_now new.history j).cell) t bears in
      elim (gone_lost surveys.findings old new surveys.found honest is ran none j (omega (arith, below, fits looked)) gone) [
        | inl stops ↦ goes_on s before old new surveys.findings surveys.found honest is ran began stands none tolerated stops
        | inr all ↦ none_held_there ((image_now new.history j).cell bears.place) t (all bears.place) bears.holds
      ]

  pub marks_by_reasons : IsMembership m → MarksByReasons m new.history
  marks_by_reasons rules image left j u below bears joined =
      let steady : AreSteady m.array.geometry new.history =
      subst (λ (h : Geometry). AreSteady h new.history) same (steady_looks s.geometry old.history new.history ran stands.steady) in
      marked_last m rules surveys.findings surveyed_as looked gone_none j u below
      (bears_agree m.array.geometry m.array.geometry.n (omega arith) image (image_now new.history) j u
      (steady_cells m.array.geometry new.history image steady left) bears) joined

  pub held_since : (j : ℕ) → IsHere m j → IsHeld old.history new.history j
  held_since j here = (surveys.found.each j (omega (arith, here.below, fits looked))).held honest not_gone old.history (ran_none old.history)
    where
      not_gone : ¬ HasSlot surveys.findings.gone j
      not_gone = let late = here_late m j here in (surveyed_as.reasons j here.below).first Gone (omega (arith, late))
