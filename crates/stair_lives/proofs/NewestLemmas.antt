-- What is the newest epoch stays so while a rack is only looked at, whatever the outside does, and after a crash; and a survey finds it.
use Rattle.std.proofs.Common.{◌≡◌, ◌∙◌, ℕ, List, [], ◌∷◌, Ok, Some, inl, inr, refl, sym, ap, subst, ◌<◌}
use Rattle.std.proofs.lemmas.Bool.{cases_eq, cond-false, cond-true, eq-eqb, ne_eqb}
use Rattle.std.specs.Prelude.{◌==◌, IsTrue, if◌then◌else◌}
use Rattle.stair_model.specs.Geometry.{Geometry}
use Rattle.stair_rack.specs.Answers.{IsHistory, Ran, any_call}
use Rattle.stair_rack.specs.Crash.{CrashMayLeave, SlotMayLeave}
use Rattle.stair_rack.specs.History.{Happening, Made, SlotState, slot_state}
use Rattle.stair_rack.specs.Media.{Image, SlotImage}
use Rattle.stair_rack.specs.RackState.{RackState}
use Rattle.stair_rack.proofs.MomentLemmas.{ran_none}
use Rattle.stair_rack.proofs.TidyLemmas.{history_tidy, left_past_end}
use Rattle.stair_super.specs.Superblock.{Superblock}
use Rattle.stair_super.specs.declared.configuration.Configuration.{Configuration}
use Rattle.stair_member.specs.Current.{IsCurrent}
use Rattle.stair_member.specs.Membership.{Membership}
use Rattle.stair_member.specs.Reserve.{Bears}
use Rattle.stair_member.specs.Survey.{IsSurveyed, Surveys}
use Rattle.stair_member.proofs.SuperLemmas.{counts_bears}
use Rattle.stair_state.specs.Reassembly.{Empty, IsMediumOf, IsReassembledSlot, IsReassembly, Location, OneOf, Unwritten}
use Rattle.stair_state.specs.Represents.{no_write}
use Rattle.stair_state.specs.State.{State}
use Rattle.stair_state.specs.Tolerance.{IsToleratedAlone}
use Rattle.stair_state.proofs.AloneLemmas.{left_is}
use Rattle.stair_state.proofs.DegradedLemmas.{bears_before, copies_again, copies_damaged}
use Rattle.stair_state.proofs.FormLemmas.{good_whole}
use Rattle.stair_state.proofs.OutsideLemmas.{slot_now, slot_now_left, unwritten_ran}
use Rattle.stair_state.proofs.ReturnLemmas.{MediaCameFrom, New, Same, at_image, came_looking}
use Rattle.stair_invariant.specs.Mixed.{IsToleratedMixed}
use Rattle.stair_invariant.specs.Returning.{KnowsMedia}
use Rattle.stair_reinsert.specs.Following.{AreOfNamed, Blank, Kept}
use Rattle.stair_reinsert.proofs.MixedImages.{mixed_reassembly}
use Rattle.stair_reinsert.proofs.StaleLemmas.{live_meant, newest_current}
use Rattle.stair_reinsert.proofs.SurveyLemmas.{current_together, history, ran, together, together_mixed}
use Rattle.stair_reinsert.proofs.WhereverLemmas.{looked_wherever}
use Rattle.stair_lives.specs.Stale.{IsLeftOut, IsMeant, IsNeverLive, IsNewest}

-- WHILE IT IS ONLY LOOKED AT

before_looks : {b : SlotState} (image to : SlotImage) (from : MediaCameFrom b image) → IsReassembledSlot image to → IsReassembledSlot from.was to
before_looks image to from (OneOf p m is size copies past) =
    elim (from.medium p m is) [
      | Same old at same copied ↦ OneOf (from.place p) old at (size ∙ ap Some (sym same)) (copies_again copied copies) past
      | New all ↦ Unwritten m.size size (copies_damaged all copies)
    ]
before_looks image to from (Unwritten size is all) = Unwritten size is all
before_looks image to from (Empty none all) = Empty none all

-- however media are put together, what is current names this configuration
abbrev pub NamesNewest : Geometry → Configuration → List Happening → Type 0
NamesNewest g array h = (image to : Image) (current : Superblock) → CrashMayLeave h image → IsReassembly image to → IsToleratedAlone g to
    → IsCurrent g to current → current.array ≡ array

module _ (old new : List Happening) (looks : Ran no_write old new) (image : Image) (left : CrashMayLeave new image) where
  from : (j : ℕ) → MediaCameFrom (slot_state old j) (image j)
  from j = at_image (came_looking j looks) (image j) (left j)

  -- the image from which the media came
  was : Image
  was j = (from j).was

  was_left : CrashMayLeave old was
  unfolding was
  was_left j = (from j).left

  was_reassembled : (to : Image) → IsReassembly image to → IsReassembly was to
  unfolding was
  was_reassembled to reassembly j = before_looks (image j) (to j) (from j) (reassembly j)

pub looked_current : (g : Geometry) (array : Configuration) (old new : List Happening) → NamesNewest g array old → Ran no_write old new
    → NamesNewest g array new
looked_current g array old new newest looks image to current left reassembly alone is =
    newest (was old new looks image left) to current (was_left old new looks image left) (was_reassembled old new looks image left to reassembly) alone is

pub looked_newest : (g : Geometry) (m : Membership) (old new : List Happening) → IsNewest g m old → Ran no_write old new → IsNewest g m new
looked_newest g m old new newest looks = record {
  current = looked_current g m.array old new newest.current looks;
  live = λ image to current j left reassembly alone is live.
      newest.live (was old new looks image left) to current j (was_left old new looks image left)
      (was_reassembled old new looks image left to reassembly) alone is live;
}

-- after a crash
pub left_newest : (g : Geometry) (m : Membership) (c : List Happening) (image : Image) → IsNewest g m c → IsHistory c → CrashMayLeave c image
    → IsNewest g m (Made image ∷ [])
left_newest g m c image newest was left = record {
  current = λ other to current is_left reassembly alone is. newest.current image to current left (same other to is_left reassembly) alone is;
  live = λ other to current j is_left reassembly alone is live. newest.live image to current j left (same other to is_left reassembly) alone is live;
}
  where
    same : (other to : Image) → CrashMayLeave (Made image ∷ []) other → IsReassembly other to → IsReassembly image to
    same other to is_left reassembly =
        subst (λ (one : Image). IsReassembly one to) (left_is image (left_past_end c (history_tidy was) image left) other is_left) reassembly

-- AN OPEN ARRAY

pub knows_newest : (s : State) (m : Membership) (h : List Happening) → KnowsMedia s m h → m.array.geometry ≡ s.geometry → IsNewest s.geometry m h
knows_newest s m h knows same = record {
  current = λ image to current left reassembly alone is. newest_current s m h knows same image to current left reassembly alone is;
  live = λ image to current j left reassembly alone is live. live_meant s m h knows same image to current left reassembly alone is j live;
}

-- A SURVEY

pub found_newest : (g : Geometry) (m : Membership) (array : Configuration) (first u : RackState) → Surveys (Ok m) first u → IsTrue u.honest
    → NamesNewest g array first.history → IsToleratedMixed g first.history first.history u.history → m.array ≡ array
found_newest g m array first u surveys honest newest mixed =
    let began = ran_none {allowed = any_call} first.history in
    let surveyed : IsSurveyed surveys.findings m = surveys.answered.0 in
    let image = together first.history first u (Ok m) surveys honest began in
    let back =
    mixed_reassembly first.history first.history u.history (history first.history first u (Ok m) surveys honest began)
    (unwritten_ran (ran first.history first u (Ok m) surveys honest began)) g image mixed
    (together_mixed first.history first u (Ok m) surveys honest began) in
    surveyed.array
    ∙ newest back.was image surveyed.current back.left back.reassembled back.alone
    (current_together first.history first u (Ok m) surveys honest began g mixed m surveyed)

-- MEDIA BY THEIR NAMES

-- an image in which slot j is so
with_slot : List Happening → ℕ → SlotImage → Image
with_slot h j slot i = if i == j then slot else slot_now (slot_state h i)

with_left : (h : List Happening) (j : ℕ) (slot : SlotImage) → SlotMayLeave (slot_state h j) slot → CrashMayLeave h (with_slot h j slot)
unfolding with_slot
with_left h j slot left i =
    elim (cases_eq i j) [
      | inl same ↦
          subst (SlotMayLeave (slot_state h i)) (sym (cond-true _ _ _ (eq-eqb i j same)))
          (subst (λ (k : ℕ). SlotMayLeave (slot_state h k) slot) (sym same) left)
      | inr other ↦ subst (SlotMayLeave (slot_state h i)) (sym (cond-false _ _ _ (ne_eqb i j other))) (slot_now_left (slot_state h i))
    ]

with_at : (h : List Happening) (j : ℕ) (slot : SlotImage) → with_slot h j slot j ≡ slot
unfolding with_slot
with_at h j slot = cond-true _ _ _ (eq-eqb j j refl)

pub left_out_stays : (g : Geometry) (m : Membership) (old new : List Happening) (j : ℕ) (name : Location) → IsHistory old → IsNewest g m old
    → Ran no_write old new → IsLeftOut g m old j name → IsNeverLive g new j name
left_out_stays g m old new j name was newest looks out image to place medium current left reassembly alone is at named copies live =
    by (looked_wherever old new j name was looks image left place medium at named)
  where
    now : IsNewest g m new
    now = looked_newest g m old new newest looks

    same : m.array.geometry ≡ g
    same = ap (λ (c : Configuration). c.geometry) (sym (now.current image to current left reassembly alone is)) ∙ is.counts.identity

    meant : IsMeant m j live.super.joined
    meant =
        let said = now.live image to current j left reassembly alone is live in
        record {
          here = record { below = subst (λ (x : Geometry). j < x.n) (sym same) live.below; why = inl said.0 };
          number = said.1;
        }

    bears : Bears g j medium.cell live.super
    bears = bears_before copies (counts_bears g to j live.super live.counts)

    by : AreOfNamed old j name medium.cell → ⊥
    by (Kept slot p first may is_one called copied) =
        out (with_slot old j slot) (with_left old j slot may) p first
        (subst (λ (x : SlotImage). IsMediumOf x p first) (sym (with_at old j slot)) is_one) called live.super (bears_before copied bears) meant
    by (Blank all) = good_whole bears.holds.good (all bears.place)
