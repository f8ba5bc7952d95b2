-- An open array while a slot that it rebuilds is promoted, whether media come back or not.
use Rattle.std.proofs.Common.{List, None, Some, ap, inl, inr, refl, sym, ℕ, ◌∙◌, ◌≡◌, ◌⊎◌}
use Rattle.std.specs.Prelude.{Err, IsTrue, Ok, Result}
use Rattle.stair_model.specs.Slots.{HasSlot, Slots}
use Rattle.stair_rack.specs.Answers.{any_call}
use Rattle.stair_rack.specs.History.{Happening}
use Rattle.stair_rack.specs.Moments.{AtEveryMoment}
use Rattle.stair_rack.specs.RackState.{RackState}
use Rattle.stair_rack.proofs.MomentLemmas.{at_every_from, ran_join}
use Rattle.stair_super.specs.Superblock.{mark_in}
use Rattle.stair_super.specs.declared.configuration.Configuration.{Configuration}
use Rattle.stair_super.specs.declared.mark.Mark.TheVariants as mark
use Rattle.stair_member.specs.Aims.{mark_for}
use Rattle.stair_member.specs.Establishing.{Establishes, Joins, refusal_in}
use Rattle.stair_member.specs.Membership.{Membership, why_of}
use Rattle.stair_member.specs.declared.aim.EpochChange.TheVariants.{Promote}
use Rattle.stair_member.specs.declared.fault.AdmitFault.{AdmitFault}
use Rattle.stair_member.specs.declared.fault.AdmitFault.TheVariants as admit
use Rattle.stair_member.specs.declared.fault.FenceFault.TheVariants as fence
use Rattle.stair_state.specs.Blocks.{Codewords}
use Rattle.stair_state.specs.State.{Content}
use Rattle.stair_invariant.specs.Effects.{Snapshot}
use Rattle.stair_invariant.specs.Opening.{opened_with}
use Rattle.stair_invariant.specs.Returning.{Returning}
use Rattle.stair_invariant.specs.SeatSteps.{SeatGoes, SeatsMove}
use Rattle.stair_invariant.specs.Session.{ArrayState, IsOpenWith, seats_in}
use Rattle.stair_invariant.proofs.OpenWithLemmas.{rebuilds_on}
use Rattle.stair_invariant.proofs.Serving.{StaysWithinToleranceTo, IsGoing, IsServing}
use Rattle.stair_invariant.proofs.Mending.{calm_going, IsRebuiltWhole, LeadsPromotions, epoch_moves}
use Rattle.stair_array.specs.Machine.{Dropped, Promoted}
use Rattle.stair_array.specs.Mends.{promoted_as}
use Rattle.stair_array.proofs.PartsLemmas.{epoch_after}
use Rattle.stair_array.proofs.RebuildSeatLemmas.{Goes, MayMove, MovesAt, Outcome, Spent}

-- the record of an array that rebuilds no slot is that of any which rebuilds none
pub none_rebuilt : (before : List Happening) (last : Membership) (words : Codewords) (h : List Happening)
    → IsOpenWith before (opened_with last) words h → (b : ArrayState) → b.member ≡ last → b.rebuild ≡ None → IsOpenWith before b words h
none_rebuilt before last words h is b same none =
    rebuilds_on before (opened_with last) b words h is same (λ rebuild at. absurd (let never : None ≡ Some rebuild = sym none ∙ at in cc))

module _ (returning : Returning) (promotions : LeadsPromotions returning) (before : List Happening) (m : Membership) (words : Codewords)
    (kept : Content) (j : ℕ) (old : RackState) (is : IsServing returning before (opened_with m) words kept old.history)
    (whole : IsRebuiltWhole (opened_with m) words old.history j) (z : Snapshot) (honest : IsTrue z.told.honest) where
  -- seats as the aim has them are those of a step of a rebuild
  may_move : (gone : Slots) (array : Configuration)
      → (array ≡ m.array) ⊎ SeatsMove (Promote j) (HasSlot gone) (seats_in m.array) (seats_in array) → MayMove (seats_in m.array) (seats_in array)
  may_move gone array (inl same) = inl (λ i. inl (ap (λ (c : Configuration). seats_in c i) same))
  may_move gone array (inr moves) = elim moves.moves [ inl goes ↦ inr (Promoted j, goes) | inr drops ↦ inr (Dropped j, drops.1) ]

  pub promotion_stands : (given : Result Slots AdmitFault) → Joins (Promote j) j m z.member given old z.told
      → AtEveryMoment (MovesAt returning before kept m) old.history z.told.history
  promotion_stands given joins =
      let e = joins.establishes in
      let ran = (epoch_after (Promote j) m z.member (refusal_in given) old z.told e).later.ran honest in
      at_every_from {P = MovesAt returning before kept m} ran.more ran.is
      (λ c at calm image left.
      let found =
      promotions.moments before (opened_with m) words kept j z.member (refusal_in given) old z.told is whole e honest c at calm image left in
      (found.array, found.stands, may_move e.gone found.array found.moved))

  -- an epoch stands, with the slot live or dropped
  module _ (e : Establishes (Promote j) m z.member None old z.told) (on : IsGoing returning m.array.geometry before z.told.history) where
    serves : IsServing returning before (opened_with z.member) words kept z.told.history
    serves = promotions.serves before (opened_with m) words kept j z.member old z.told is whole e honest on

    moves : SeatsMove (Promote j) (HasSlot e.gone) (seats_in m.array) (seats_in z.member.array)
    moves =
        epoch_moves (Promote j) m z.member old z.told is.is_open.array.member is.is_open.array.marks
        (whole.rebuilt.below, is.is_open.array.marks j whole.rebuilt.below ∙ ap mark_for whole.rebuilt.why) e

    marked : mark_in z.member.array j ≡ mark_for (why_of z.member j)
    marked = (e.done refl).stands.marks j whole.rebuilt.below

    goes_live : ¬ HasSlot e.gone j → SeatGoes j mark.Rebuilding mark.Live (seats_in m.array) (seats_in z.member.array)
    goes_live stays = elim moves.moves [ inl goes ↦ goes | inr drops ↦ absurd (stays drops.0) ]

    goes_down : HasSlot e.gone j → SeatGoes j mark.Rebuilding mark.Down (seats_in m.array) (seats_in z.member.array)
    goes_down gone =
        elim moves.moves [
          | inr drops ↦ drops.1
          | inl goes ↦
              let never : mark.Live ≡ mark.Down = sym goes.is ∙ marked ∙ ap mark_for (e.were_gone.dropped j gone) in
              absurd (cc)
        ]

    -- the array rebuilds no slot then
    no_rebuild : (b : ArrayState) → b.member ≡ z.member → b.rebuild ≡ None → IsOpenWith before b words z.told.history
    no_rebuild = none_rebuilt before z.member words z.told.history serves.is_open

  -- WHAT IT COMES TO

  pub promotion_ends : (was : ArrayState) (given : Result Slots AdmitFault) → Joins (Promote j) j m z.member given old z.told
      → StaysWithinToleranceTo returning m.array.geometry before z.told.history → Outcome returning before was words kept m (promoted_as j given) z
  promotion_ends was given joins calm = by given joins
    where
      on : IsGoing returning m.array.geometry before z.told.history
      on =
          calm_going returning m.array.geometry before z.told.history
          (ran_join {allowed = any_call} is.is_open.ran
          ((epoch_after (Promote j) m z.member (refusal_in given) old z.told joins.establishes).later.ran honest)) calm

      by : (answer : Result Slots AdmitFault) → Joins (Promote j) j m z.member answer old z.told
          → Outcome returning before was words kept m (promoted_as j answer) z
      by (Ok fallen) did =
          Goes (Promoted j) z (serves did.establishes on) did.establishes.geometry (goes_live did.establishes on did.told)
          (λ b same keeps. no_rebuild did.establishes on b same keeps.0)
      by (Err (admit.Gone i)) did =
          Goes (Dropped j) z (serves did.establishes on) did.establishes.geometry (goes_down did.establishes on did.told.1)
          (λ b same keeps. no_rebuild did.establishes on b same keeps.0)
      by (Err (admit.TooFew whys)) did =
          absurd (promotions.enough before (opened_with m) words kept j z.member whys old z.told is whole did.establishes honest calm)
      by (Err admit.EpochsSpent) did =
          let found =
          promotions.ended before (opened_with m) words kept j z.member (Some fence.EpochsSpent) old z.told is whole did.establishes honest calm in
          Spent z found.array found.stands (may_move did.establishes.gone found.array found.moved)
