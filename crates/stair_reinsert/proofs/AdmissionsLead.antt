-- An open array that serves is led on by the admission of a slot, whichever media come back meanwhile.
use Rattle.std.proofs.Common.{◌≡◌, ℕ, ◌<◌, List, inl, inr, refl, sym, ap, ◌∙◌, subst, arith, true≢false, None, Some, Option}
use Rattle.std.specs.Prelude.{IsTrue}
use Rattle.std.proofs.lemmas.Bool.{cases_eq, cond-false, ne_eqb}
use Rattle.stair_model.specs.Geometry.{Geometry}
use Rattle.stair_model.specs.Slots.{Slots, no_slots}
use Rattle.stair_model.proofs.SetLaws.{has_slot-none}
use Rattle.stair_rack.specs.Answers.{Ran, any_call}
use Rattle.stair_rack.specs.Crash.{CrashMayLeave, image_now}
use Rattle.stair_rack.specs.History.{Happening}
use Rattle.stair_rack.specs.Media.{Image}
use Rattle.stair_rack.specs.Moments.{IsMoment}
use Rattle.stair_rack.specs.Offline.{IsAttached, IsHeld, IsOffline}
use Rattle.stair_rack.specs.RackState.{RackState}
use Rattle.stair_rack.proofs.MomentLemmas.{moment_between, moment_last, ran_any, ran_before, ran_join}
use Rattle.stair_rack.proofs.TidyLemmas.{history_on}
use Rattle.stair_super.specs.Superblock.{Superblock, mark_in}
use Rattle.stair_super.specs.declared.configuration.Configuration.{Configuration}
use Rattle.stair_super.specs.declared.mark.Mark.TheVariants as mark
use Rattle.stair_member.specs.Aims.{mark_for}
use Rattle.stair_member.specs.Current.{IsCurrent, IsFailed}
use Rattle.stair_member.specs.Epochs.{IsIssuing, Issued}
use Rattle.stair_member.specs.Establishing.{Establishes}
use Rattle.stair_member.specs.Membership.{IsMissing, Membership, why_of}
use Rattle.stair_member.specs.Superblocks.{HoldsSuper}
use Rattle.stair_member.specs.declared.aim.EpochChange.TheVariants.{Admit}
use Rattle.stair_member.specs.declared.fault.FenceFault.{FenceFault}
use Rattle.stair_member.specs.declared.fault.FenceFault.TheVariants as fence
use Rattle.stair_member.specs.declared.why.Why.{Why}
use Rattle.stair_member.specs.declared.why.Why.TheVariants as why
use Rattle.stair_state.specs.Blocks.{Codewords}
use Rattle.stair_state.specs.Recovering.{IsShut}
use Rattle.stair_state.specs.State.{Content}
use Rattle.stair_state.specs.Tolerance.{IsTolerated, ToleratedSince}
use Rattle.stair_invariant.specs.InSession.{state_with}
use Rattle.stair_invariant.specs.Leading.{IsBesideArray, led_to}
use Rattle.stair_invariant.specs.Returning.{AnyReturns, current_media_of}
use Rattle.stair_invariant.specs.SeatSteps.{MayDrop}
use Rattle.stair_invariant.specs.Session.{ArrayState, IsOpenWith, seats_in}
use Rattle.stair_invariant.proofs.EnoughLeft.{epoch_never_few}
use Rattle.stair_invariant.proofs.LeftOutLemmas.{none_leave}
use Rattle.stair_invariant.proofs.Mending.{IsLookedAt, LeadsAdmissions, StandsAsMoved, StandsMoved, epoch_content, looked_held, seen_by}
use Rattle.stair_invariant.proofs.OpenWithLemmas.{amid_of, keeps_rebuilds, open_after}
use Rattle.stair_invariant.proofs.SeatLemmas.{Begins}
use Rattle.stair_invariant.proofs.Serving.{StaysWithinToleranceTo, IsServing, calm_sooner}
use Rattle.stair_invariant.proofs.Stamping.{live_before}
use Rattle.stair_reinsert.specs.Beginning.{BeginsWherever}
use Rattle.stair_reinsert.proofs.AdmissionBegins.{admission_begins, admission_closed, seen_below, seen_down, seen_serves}
use Rattle.stair_reinsert.proofs.AdmissionSeen.{drawn_seen}
use Rattle.stair_reinsert.proofs.EpochLaws.{established}
use Rattle.stair_reinsert.proofs.PromotionStands.{SeatsGo, end_goes, end_tolerated, knows_moved, moved_as, moved_in}

module _ (before : List Happening) (a : ArrayState) (words : Codewords) (kept : Content) (slot : ℕ) (seen last : Membership)
    (refusal : Option FenceFault) (first : List Happening) (old new : RackState) (is : IsServing AnyReturns before a words kept first)
    (l : IsLookedAt a slot seen first old.history) (e : Establishes (Admit slot) seen last refusal old new) (honest : IsTrue new.honest)
    (calm : ToleratedSince a.member.array.geometry before old.history) where
  serves_seen : IsServing AnyReturns before (seen_by a seen) words kept old.history
  serves_seen = seen_serves before a words kept slot seen first old.history is l calm

  abbrev g : Geometry
  g = seen.array.geometry

  issued : Issued (Admit slot) e.gone seen last old.history new.history
  issued = e.issued honest

  begin : IsTolerated g before old.history
      → BeginsWherever (state_with seen kept None seen.array) (current_media_of seen) seen.array.epoch (Admit slot) seen old.history
  begin tolerated = admission_begins before a words kept slot seen first old.history is l calm tolerated

  starts : Begins (Admit slot) seen
  starts = (seen_below before a words kept slot seen first old.history is l calm, seen_down before a words kept slot seen first old.history is l calm)

  admission_moves : (c : List Happening) → IsMoment old.history c new.history → StaysWithinToleranceTo AnyReturns g before c → (image : Image)
      → CrashMayLeave c image → StandsMoved AnyReturns (Admit slot) e.gone seen kept image
  admission_moves c at within image left =
      moved_in before (seen_by a seen) words kept old.history serves_seen (Admit slot) (current_media_of seen) e.gone last new.history begin starts issued c at
      within image left

  module _ (within : StaysWithinToleranceTo AnyReturns g before new.history) where
    admission_ends : StandsAsMoved AnyReturns (Admit slot) e.gone seen kept new.history
    admission_ends =
        moved_as before (seen_by a seen) words kept old.history serves_seen (Admit slot) (current_media_of seen) e.gone last new.history begin starts issued within

    -- NOT FOR WANT OF SLOTS

    not_live : ¬ (why_of seen slot ≡ why.Here)
    not_live live =
        let never : mark.Down ≡ mark.Live =
        sym (seen_down before a words kept slot seen first old.history is l calm)
        ∙ serves_seen.is_open.array.marks slot (seen_below before a words kept slot seen first old.history is l calm) ∙ ap mark_for live in
        cc

    unlive : (current : Superblock) → IsCurrent g (image_now new.history) current → (i : ℕ) → i < g.n → ¬ (why_of seen i ≡ why.Here)
        → IsMissing last i → IsFailed (IsOffline before new.history) g (image_now new.history) current i
    unlive current is_current i below other missing = IsFailed.NotLive below (λ live. not_marked goes live.marked)
      where
        goes : SeatsGo before (seen_by a seen) words kept old.history serves_seen (Admit slot) (current_media_of seen) e.gone last new.history begin starts
            issued current.array
        goes =
            end_goes before (seen_by a seen) words kept old.history serves_seen (Admit slot) (current_media_of seen) e.gone last new.history begin starts issued
            within current is_current

        drops : MayDrop (seats_in seen.array i) (seats_in current.array i) → mark_in current.array i ≡ mark.Live → ⊥
        drops may live = other (live_before seen serves_seen.is_open.array.marks current.array i below may live)

        not_marked : SeatsGo before (seen_by a seen) words kept old.history serves_seen (Admit slot) (current_media_of seen) e.gone last new.history begin
            starts issued current.array → mark_in current.array i ≡ mark.Live → ⊥
        not_marked (inl same) live = drops (inl (ap (λ (c : Configuration). seats_in c i) same)) live
        not_marked (inr moves) live =
            elim moves.moves [
              | inr dropped ↦ drops (dropped.1 i) live
              | inl goes ↦
                  elim (cases_eq i slot) [
                    | inr apart ↦ drops (goes.others i apart) live
                    | inl same ↦
                        let never : mark.Rebuilding ≡ mark.Live = sym goes.is ∙ ap (λ (k : ℕ). mark_in current.array k) (sym same) ∙ live in
                        absurd (cc)
                  ]
            ]

    admission_enough : (few : List Why) → refusal ≡ Some (fence.TooFew few) → ⊥
    admission_enough few refused =
        epoch_never_few (Admit slot) before seen seen no_slots (none_leave seen) last (fence.TooFew few) old new
        (subst (λ (r : Option FenceFault). Establishes (Admit slot) seen last r old new) refused e) honest
        (λ i live.
        cond-false _ _ _ (ne_eqb i slot (λ same. not_live (subst (λ (k : ℕ). why_of seen k ≡ why.Here) same live.why)))) g refl
        (end_tolerated before (seen_by a seen) words kept old.history serves_seen (Admit slot) (current_media_of seen) e.gone last new.history begin starts
        issued within) unlive (λ i live. serves_seen.is_open.held i (record { below = live.below; why = inl live.why }))
        (λ i live on. (serves_seen.is_open.live i live on).large 1 (omega arith))
        (λ i live has. absurd (true≢false (sym has ∙ has_slot-none i))) few refl

-- WHERE IT ISN'T REFUSED

admission_serves : (before : List Happening) (a : ArrayState) (words : Codewords) (kept : Content) (slot : ℕ) (seen last : Membership)
    (first : List Happening) (old new : RackState) → IsServing AnyReturns before a words kept first → IsLookedAt a slot seen first old.history
    → (e : Establishes (Admit slot) seen last None old new) → IsTrue new.honest → ToleratedSince a.member.array.geometry before old.history
    → StaysWithinToleranceTo AnyReturns seen.array.geometry before new.history
    → IsServing AnyReturns before (led_to (seen_by a seen) last) words kept new.history
admission_serves before a words kept slot seen last first old new is l e honest calm within = record {
  is_open = opened;
  history = history_on {allowed = IsIssuing (e.issued honest).slots (e.issued honest).editions} serves.history (e.issued honest).ran;
  of = epoch_content (Admit slot) seen last words kept old new serves.of refl refl e;
  knows =
      knows_moved before (seen_by a seen) words kept old.history serves (Admit slot) (current_media_of seen) e.gone last new.history
      (begin before a words kept slot seen last None first old new is l e honest calm)
      (starts before a words kept slot seen last None first old new is l e honest calm) (e.issued honest) within
      (established (Admit slot) seen last old new e honest (λ i promotes. absurd (cc)))
      (λ tolerated. admission_closed before a words kept slot seen first old.history is l calm tolerated) e.geometry;
}
  where
    serves : IsServing AnyReturns before (seen_by a seen) words kept old.history
    serves = seen_serves before a words kept slot seen first old.history is l calm

    opened : IsOpenWith before (led_to (seen_by a seen) last) words new.history
    opened =
        open_after (Admit slot) no_slots e.gone before (seen_by a seen) (led_to (seen_by a seen) last) seen old.history new.history
        (amid_of before (seen_by a seen) words old.history serves.is_open) serves.history (none_leave seen)
        (λ j joins.
        let at : slot ≡ j = cc in (
          subst (IsHeld before old.history) at (looked_held before a slot seen first old.history is.is_open.ran l),
          λ on.
              let on_slot : IsAttached old.history slot = subst (IsAttached old.history) (sym at) on in (
                subst (λ (c : Configuration). IsShut c.geometry old.history old.history j) (sym l.sees.array)
                    (subst (IsShut a.member.array.geometry old.history old.history) at (l.shut on_slot)),
                λ k s small holds.
                    drawn_seen a slot seen first old.history is.history is.knows.is.steady l on_slot k s small
                    (subst (λ (i : ℕ). HoldsSuper ((image_now old.history i).cell k) s) (sym at) holds),
              ),
        )) (e.issued honest) e.rules (e.done refl) e.were_gone.dropped (e.on_disk honest refl) (λ i promotes. absurd (cc))
        (keeps_rebuilds (seen_by a seen) last serves.is_open.array e.geometry) words serves.is_open.live (λ i promotes. absurd (cc))
        serves.is_open.rebuilt

-- THE LAWS

module _ (before : List Happening) (a : ArrayState) (words : Codewords) (kept : Content) (slot : ℕ) (seen last : Membership)
    (refusal : Option FenceFault) (first : List Happening) (old new : RackState) (is : IsServing AnyReturns before a words kept first)
    (l : IsLookedAt a slot seen first old.history) (e : Establishes (Admit slot) seen last refusal old new) (honest : IsTrue new.honest)
    (c : List Happening) (at : IsMoment old.history c new.history) (calm : StaysWithinToleranceTo AnyReturns a.member.array.geometry before c) where
  -- it was within tolerance as the admission began
  calm_first : ToleratedSince a.member.array.geometry before old.history
  calm_first = calm_sooner AnyReturns a.member.array.geometry before old.history c between calm
    where
      between : IsMoment before old.history c
      between =
          moment_between {a = any_call} {b = any_call} (serves_ran)
          (ran_before {allowed = any_call}
          (ran_any {allowed = IsIssuing (e.issued honest).slots (e.issued honest).editions} (e.issued honest).ran) at)
        where
          serves_ran : Ran any_call before old.history
          serves_ran = ran_join {allowed = any_call} is.is_open.ran (ran_any {allowed = IsBesideArray a} l.ran)

  calm_seen : StaysWithinToleranceTo AnyReturns seen.array.geometry before c
  calm_seen = subst (λ (k : Configuration). ToleratedSince k.geometry before c) (sym l.sees.array) calm

pub admissions_lead : LeadsAdmissions AnyReturns
admissions_lead = record {
  saw = λ before a words kept slot seen old new is l calm. seen_serves before a words kept slot seen old new is l calm;
  moments = λ before a words kept slot seen last refusal first old new is l e honest c at calm image left.
      admission_moves before a words kept slot seen last refusal first old new is l e honest
      (calm_first before a words kept slot seen last refusal first old new is l e honest c at calm) c at
      (calm_seen before a words kept slot seen last refusal first old new is l e honest c at calm) image left;
  ended = λ before a words kept slot seen last refusal first old new is l e honest calm.
      admission_ends before a words kept slot seen last refusal first old new is l e honest
      (calm_first before a words kept slot seen last refusal first old new is l e honest new.history (moment_end (e.issued honest)) calm)
      (calm_seen before a words kept slot seen last refusal first old new is l e honest new.history (moment_end (e.issued honest)) calm);
  serves = λ before a words kept slot seen last first old new is l e honest calm.
      admission_serves before a words kept slot seen last first old new is l e honest
      (calm_first before a words kept slot seen last None first old new is l e honest new.history (moment_end (e.issued honest)) calm)
      (calm_seen before a words kept slot seen last None first old new is l e honest new.history (moment_end (e.issued honest)) calm);
  enough = λ before a words kept slot seen last whys first old new is l e honest calm.
      admission_enough before a words kept slot seen last (Some (fence.TooFew whys)) first old new is l e honest
      (calm_first before a words kept slot seen last (Some (fence.TooFew whys)) first old new is l e honest new.history (moment_end (e.issued honest)) calm)
      (calm_seen before a words kept slot seen last (Some (fence.TooFew whys)) first old new is l e honest new.history (moment_end (e.issued honest)) calm)
      whys refl;
}
  where
    moment_end : {slot : ℕ} {gone : Slots} {seen last : Membership} {old new : List Happening} → Issued (Admit slot) gone seen last old new
        → IsMoment old new new
    moment_end issued = moment_last issued.ran.more issued.ran.is
