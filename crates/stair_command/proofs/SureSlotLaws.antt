-- Slots that stay up over a step: one that holds its medium is given up only where it was offline, or its medium is too small.
use Rattle.std.proofs.Common.{◌≡◌, ◌≢◌, ◌∙◌, ◌⊎◌, ℕ, ◌<◌, List, Option, Some, Ok, inl, inr, refl, sym, ap, subst, arith}
use Rattle.std.proofs.lemmas.Bool.{ltb-true}
use Rattle.std.specs.Prelude.{IsTrue}
use Rattle.stair_model.specs.Geometry.{Geometry, sectors_needed}
use Rattle.stair_rack.specs.Answers.{Ran, any_call}
use Rattle.stair_rack.specs.History.{Happening, slot_state}
use Rattle.stair_rack.specs.Media.{has_sector}
use Rattle.stair_rack.specs.Offline.{IsHeld}
use Rattle.stair_rack.specs.RackState.{RackState}
use Rattle.stair_rack.proofs.MomentLemmas.{moment_between, moment_wider, ran_any, ran_join}
use Rattle.stair_rack.proofs.OfflineLemmas.{held_on, offline_now}
use Rattle.stair_super.specs.Superblock.{mark_in}
use Rattle.stair_super.specs.declared.mark.Mark.TheVariants.{Down, Live, Rebuilding}
use Rattle.stair_member.specs.Aims.{mark_for}
use Rattle.stair_member.specs.Membership.{IsHere, Membership, why_of}
use Rattle.stair_member.specs.declared.why.Why.{Why}
use Rattle.stair_member.specs.declared.why.Why.TheVariants as why
use Rattle.stair_state.specs.Represents.{IsLargeEnough}
use Rattle.stair_invariant.specs.Effects.{Snapshot}
use Rattle.stair_invariant.specs.Session.{ArrayState}
use Rattle.stair_array.specs.Causes.{MarkGoesOn, WasGoneTo}
use Rattle.stair_array.specs.Machine.{Answer, Recover, ReplaceSlot, Step}
use Rattle.stair_array.specs.Mends.{Replaces}
use Rattle.stair_array.proofs.PreparedSlotLemmas.{ready_held, ready_of}
use Rattle.stair_command.specs.Sure.{IsThere}

-- a slot that isn't Down is here
up_here : (reason : Why) → mark_for reason ≢ Down → (reason ≡ why.Here) ⊎ (reason ≡ why.Rebuilding)
up_here why.Here up = inl refl
up_here why.Rebuilding up = inr refl
up_here _ up = absurd (up refl)

pub up_slot : (m : Membership) (j : ℕ) → j < m.array.geometry.n → mark_in m.array j ≡ mark_for (why_of m j) → mark_in m.array j ≢ Down → IsHere m j
up_slot m j below marked up =
    record { below = below; why = up_here (why_of m j) (subst (λ mark. mark ≢ Down) marked up) }

-- a medium that is large enough has no fewer sectors than are needed
not_small : (g : Geometry) (size : Option ℕ) (has : ℕ) → IsLargeEnough g size → size ≡ Some has → has < sectors_needed g → ⊥
not_small g size has large is small =
    let within : has < has = ltb-true has has (subst (λ (t : Option ℕ). IsTrue (has_sector t has)) is (large has small)) in
    omega arith

module _ (g : Geometry) (before last : List Happening) (was : ArrayState) (j : ℕ) (old new : RackState) where
  -- Over a step it holds its medium, in the session that began at `before`, and is there from a moment on at which the step hadn't
  -- begun.
  pub record HoldsOver : Type 0 where
    pub from : List Happening
    pub there : IsThere g before from last j
    pub held : IsHeld before old.history j
    pub since : Ran any_call from old.history
    pub ran : Ran any_call old.history new.history
    pub later : Ran any_call new.history last
    pub honest : IsTrue new.honest
    pub geometry : was.member.array.geometry ≡ g
    pub below : j < was.member.array.geometry.n

  module _ (holds : HoldsOver) where
    -- it was gone to no call
    pub not_gone : WasGoneTo was.member j old new → ⊥
    not_gone (WasGoneTo.Offline gone) =
        holds.there.online new.history (moment_between (ran_join holds.since holds.ran) holds.later)
        (offline_now (gone.shut holds.honest before holds.held))
    not_gone (WasGoneTo.PastEnd rose is has needs small) =
        let had = small.had holds.honest in
        not_small g (slot_state had.moment j).size has (holds.there.large had.moment (moment_wider holds.since holds.later had.is_one)) had.holds
        (omega (arith, small.small, small.needs_is, ap sectors_needed holds.geometry))

    -- so its mark stays up
    pub stays_up : (step : Step) (last : Membership) → step ≢ Recover → mark_in was.member.array j ≢ Down
        → MarkGoesOn step old new was.member last j → mark_in last.array j ≢ Down
    stays_up step last other up (MarkGoesOn.Stays same) down = up (sym same ∙ down)
    stays_up step last other up (MarkGoesOn.WasAway opens not_here not_rebuilt gone) down = other opens
    stays_up step last other up (MarkGoesOn.Went gone to_down) down = not_gone gone
    stays_up step last other up (MarkGoesOn.IsAdmitted replaces mark) down = let same : Rebuilding ≡ Down = sym mark ∙ down in cc
    stays_up step last other up (MarkGoesOn.IsPromoted rebuilds was_mark mark) down = let same : Live ≡ Down = sym mark ∙ down in cc

-- A slot that was replaced is held from then on.
pub replaced_held : (slot : ℕ) (answer : Answer (ReplaceSlot slot)) (x z : Snapshot) → Replaces slot answer x z → answer ≡ Ok tt → IsTrue z.told.honest
    → IsHeld x.told.history z.told.history slot
replaced_held slot _ _ _ (Replaces.OutOf x past) is honest = absurd (cc)
replaced_held slot _ _ _ (Replaces.Busy x below busy) is honest = absurd (cc)
replaced_held slot _ _ _ (Replaces.Unprepared refusal x y free prepares) is honest = absurd (cc)
replaced_held slot _ _ _ (Replaces.Admitted joined x y z free prepares joins) is honest =
    let ready = ready_of slot (Ok tt) x y prepares refl in
    let honest_ready : IsTrue y.told.honest = joins.establishes.honest ∙ honest in
    held_on {allowed = any_call} slot (ran_any (joins.establishes.issued honest).ran) (ready_held slot x y ready honest_ready)
