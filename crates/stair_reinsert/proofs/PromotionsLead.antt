-- An open array that serves is led on by the promotion of a slot that it rebuilt, whichever media come back meanwhile.
use Rattle.std.proofs.Common.{◌≡◌, ℕ, ◌<◌, List, inl, inr, refl, sym, ap, ◌∙◌, subst, arith, true≢false, None, Some, Option}
use Rattle.std.specs.Prelude.{IsTrue}
use Rattle.std.proofs.lemmas.Bool.{cases_eq, cond-false, cond-true, eq-eqb, ne_eqb}
use Rattle.stair_model.specs.Geometry.{Geometry}
use Rattle.stair_model.specs.Slots.{no_slots}
use Rattle.stair_model.proofs.SetLaws.{has_slot-none}
use Rattle.stair_rack.specs.Crash.{CrashMayLeave, image_now}
use Rattle.stair_rack.specs.History.{Happening}
use Rattle.stair_rack.specs.Media.{Image}
use Rattle.stair_rack.specs.Moments.{IsMoment}
use Rattle.stair_rack.specs.Offline.{IsOffline, IsOfflineUntilAttached}
use Rattle.stair_rack.specs.RackState.{RackState}
use Rattle.stair_rack.proofs.TidyLemmas.{history_on}
use Rattle.stair_super.specs.Superblock.{Superblock}
use Rattle.stair_super.specs.declared.configuration.Configuration.{Configuration}
use Rattle.stair_member.specs.Aims.{mark_for}
use Rattle.stair_member.specs.Current.{IsCurrent, IsFailed}
use Rattle.stair_member.specs.Epochs.{IsIssuing, Issued}
use Rattle.stair_member.specs.Establishing.{AreAimed, Did, Establishes, HasBegun, NotYet}
use Rattle.stair_member.specs.Membership.{IsHere, IsMissing, Membership, why_of}
use Rattle.stair_member.proofs.CountingLemmas.{has_or_not}
use Rattle.stair_rack.proofs.OfflineLemmas.{offline_now}
use Rattle.stair_member.specs.declared.aim.EpochChange.TheVariants.{Fence, Promote}
use Rattle.stair_member.specs.declared.fault.FenceFault.{FenceFault}
use Rattle.stair_member.specs.declared.fault.FenceFault.TheVariants as fence
use Rattle.stair_member.specs.declared.why.Why.{Why}
use Rattle.stair_member.specs.declared.why.Why.TheVariants as why
use Rattle.stair_state.specs.Blocks.{Codewords}
use Rattle.stair_state.specs.State.{Content}
use Rattle.stair_state.specs.Tolerance.{IsTolerated}
use Rattle.stair_invariant.specs.InSession.{state_with}
use Rattle.stair_invariant.specs.Leading.{led_to}
use Rattle.stair_invariant.specs.Returning.{AnyReturns}
use Rattle.stair_invariant.specs.SeatSteps.{MayDrop}
use Rattle.stair_invariant.specs.Session.{ArrayState, IsOpenWith, ServesSlot, seats_in}
use Rattle.stair_invariant.proofs.EnoughLeft.{epoch_never_few}
use Rattle.stair_invariant.proofs.LeftOutLemmas.{none_leave}
use Rattle.stair_invariant.proofs.NotBegunLemmas.{by_fence}
use Rattle.stair_invariant.proofs.Mending.{IsRebuiltWhole, LeadsPromotions, StandsAsMoved, StandsMoved, epoch_content}
use Rattle.stair_invariant.proofs.OpenWithLemmas.{amid_of, keeps_rebuilds, open_after}
use Rattle.stair_invariant.proofs.SeatLemmas.{Begins}
use Rattle.stair_invariant.proofs.Serving.{StaysWithinToleranceTo, IsServing}
use Rattle.stair_invariant.proofs.Stamping.{IsPlain, live_before}
use Rattle.stair_reinsert.specs.Beginning.{BeginsWherever}
use Rattle.stair_reinsert.proofs.EpochLaws.{established}
use Rattle.stair_reinsert.proofs.PromotionBegins.{joined_by, promotion_begins, promotion_closed}
use Rattle.stair_reinsert.proofs.PromotionStands.{SeatsGo, end_goes, end_tolerated, knows_moved, moved_as, moved_in}
use Rattle.stair_reinsert.proofs.StampsLead.{stamps_lead}

module _ (before : List Happening) (a : ArrayState) (words : Codewords) (kept : Content) (j : ℕ) (last : Membership)
    (refusal : Option FenceFault) (old new : RackState) (is : IsServing AnyReturns before a words kept old.history)
    (whole : IsRebuiltWhole a words old.history j) (e : Establishes (Promote j) a.member last refusal old new) (honest : IsTrue new.honest) where
  abbrev m : Membership
  m = a.member

  abbrev g : Geometry
  g = a.member.array.geometry

  issued : Issued (Promote j) e.gone a.member last old.history new.history
  issued = e.issued honest

  begin : IsTolerated g before old.history
      → BeginsWherever (state_with m kept None m.array) (joined_by m j) m.array.epoch (Promote j) m old.history
  begin tolerated = promotion_begins before a words kept old.history is j whole tolerated

  starts : Begins (Promote j) m
  starts = (whole.rebuilt.below, is.is_open.array.marks j whole.rebuilt.below ∙ ap mark_for whole.rebuilt.why)

  here : IsHere m j
  here = record { below = whole.rebuilt.below; why = inr whole.rebuilt.why }

  promotion_moves : (c : List Happening) → IsMoment old.history c new.history → StaysWithinToleranceTo AnyReturns g before c → (image : Image)
      → CrashMayLeave c image → StandsMoved AnyReturns (Promote j) e.gone m kept image
  promotion_moves c at calm image left =
      moved_in before a words kept old.history is (Promote j) (joined_by m j) e.gone last new.history begin starts issued c at calm image left

  promotion_ends : StaysWithinToleranceTo AnyReturns g before new.history → StandsAsMoved AnyReturns (Promote j) e.gone m kept new.history
  promotion_ends calm =
      moved_as before a words kept old.history is (Promote j) (joined_by m j) e.gone last new.history begin starts issued calm

  -- NOT FOR WANT OF SLOTS

  module _ (calm : StaysWithinToleranceTo AnyReturns g before new.history) (whys : AreAimed (Promote j) e.gone m last) where
    missed : IsMissing last j → IsOfflineUntilAttached before new.history j
    missed missing =
        elim (has_or_not e.gone j) [
          | inl has ↦
              e.were_gone.shut honest before j has (is.is_open.held j here) (λ attached. whole.serves.large 1 (omega arith))
          | inr stays ↦ absurd (missing.why (whys j whole.rebuilt.below stays ∙ cond-true _ _ _ (eq-eqb j j refl)))
        ]

    unlive : (current : Superblock) → IsCurrent g (image_now new.history) current → (i : ℕ) → i < g.n → ¬ (why_of m i ≡ why.Here)
        → IsMissing last i → IsFailed (IsOffline before new.history) g (image_now new.history) current i
    unlive current is_current i below other missing =
        elim (cases_eq i j) [
          | inl same ↦
              IsFailed.Offline below
              (offline_now
              (subst (IsOfflineUntilAttached before new.history) (sym same) (missed (subst (IsMissing last) same missing))))
          | inr apart ↦
              IsFailed.NotLive below
              (λ live. other (live_before m is.is_open.array.marks current.array i below (drops apart goes) live.marked))
        ]
      where
        goes : SeatsGo before a words kept old.history is (Promote j) (joined_by m j) e.gone last new.history begin starts issued current.array
        goes =
            end_goes before a words kept old.history is (Promote j) (joined_by m j) e.gone last new.history begin starts issued calm current is_current

        drops : ¬ (i ≡ j) → SeatsGo before a words kept old.history is (Promote j) (joined_by m j) e.gone last new.history begin starts issued current.array
            → MayDrop (seats_in m.array i) (seats_in current.array i)
        drops apart (inl same) = inl (ap (λ (c : Configuration). seats_in c i) same)
        drops apart (inr moves) = elim moves.moves [ inl goes ↦ goes.others i apart | inr dropped ↦ dropped.1.others i apart ]

    begun_enough : (few : List Why) → refusal ≡ Some (fence.TooFew few) → ⊥
    begun_enough few refused =
        epoch_never_few (Promote j) before m m no_slots (none_leave m) last (fence.TooFew few) old new
        (subst (λ (r : Option FenceFault). Establishes (Promote j) m last r old new) refused e) honest
        (λ i live.
        elim (cases_eq i j) [ inl same ↦ cond-true _ _ _ (eq-eqb i j same) | inr other ↦ cond-false _ _ _ (ne_eqb i j other) ]) g refl
        (end_tolerated before a words kept old.history is (Promote j) (joined_by m j) e.gone last new.history begin starts issued calm) unlive
        (λ i live. is.is_open.held i (record { below = live.below; why = inl live.why }))
        (λ i live on. (is.is_open.live i live on).large 1 (omega arith)) (λ i live has. absurd (true≢false (sym has ∙ has_slot-none i))) few refl

enough : (before : List Happening) (a : ArrayState) (words : Codewords) (kept : Content) (j : ℕ) (last : Membership) (few : List Why)
    (old new : RackState) → IsServing AnyReturns before a words kept old.history → IsRebuiltWhole a words old.history j
    → Establishes (Promote j) a.member last (Some (fence.TooFew few)) old new → IsTrue new.honest
    → StaysWithinToleranceTo AnyReturns a.member.array.geometry before new.history → ⊥
enough before a words kept j last few old new is whole e honest calm = by e.began
  where
    plain : IsPlain Fence a.member words kept None
    plain = record {
      admits = refl;
      promotes = λ i never. cc;
      says = record { encodings = is.of.encodings; frozen = inl is.of.frozen; label = inl is.of.label };
      blocks = refl;
    }

    by : HasBegun (Promote j) e.gone a.member last → ⊥
    by (NotYet array whys) =
        stamps_lead.enough before a words kept None Fence last few old new is plain
        (by_fence j a.member last (fence.TooFew few) old new is.is_open.array.member.known e array whys) honest calm
    by (Did above names whys) =
        begun_enough before a words kept j last (Some (fence.TooFew few)) old new is whole e honest calm whys few refl

-- WHERE IT ISN'T REFUSED

promotion_serves : (before : List Happening) (a : ArrayState) (words : Codewords) (kept : Content) (j : ℕ) (last : Membership) (old new : RackState)
    → IsServing AnyReturns before a words kept old.history → IsRebuiltWhole a words old.history j
    → (e : Establishes (Promote j) a.member last None old new) → IsTrue new.honest → StaysWithinToleranceTo AnyReturns a.member.array.geometry before new.history
    → IsServing AnyReturns before (led_to a last) words kept new.history
promotion_serves before a words kept j last old new is whole e honest calm = record {
  is_open = opened;
  history = history_on {allowed = IsIssuing (e.issued honest).slots (e.issued honest).editions} is.history (e.issued honest).ran;
  of = epoch_content (Promote j) a.member last words kept old new is.of refl refl e;
  knows =
      knows_moved before a words kept old.history is (Promote j) (joined_by a.member j) e.gone last new.history
      (begin before a words kept j last None old new is whole e honest) (starts before a words kept j last None old new is whole e honest)
      (e.issued honest) calm
      (established (Promote j) a.member last old new e honest
      (λ slot promotes. let at : j ≡ slot = cc in subst (IsHere a.member) at (here before a words kept j last None old new is whole e honest)))
      (λ tolerated. promotion_closed before a words kept old.history is j whole tolerated) e.geometry;
}
  where
    opened : IsOpenWith before (led_to a last) words new.history
    opened =
        open_after (Promote j) no_slots e.gone before a (led_to a last) a.member old.history new.history (amid_of before a words old.history is.is_open)
        is.history (none_leave a.member) (λ i joins. absurd (let some : None ≡ Some i = joins in cc)) (e.issued honest) e.rules (e.done refl)
        e.were_gone.dropped (e.on_disk honest refl)
        (λ slot promotes. let at : j ≡ slot = cc in subst (IsHere a.member) at (here before a words kept j last None old new is whole e honest))
        (keeps_rebuilds a last is.is_open.array e.geometry) words is.is_open.live
        (λ slot promotes on.
        let at : j ≡ slot = cc in subst (ServesSlot a.member.array.geometry words old.history) at whole.serves) is.is_open.rebuilt

-- THE LAWS

pub promotions_lead : LeadsPromotions AnyReturns
promotions_lead = record {
  moments = λ before a words kept j last refusal old new is whole e honest c at calm image left.
      promotion_moves before a words kept j last refusal old new is whole e honest c at calm image left;
  ended = λ before a words kept j last refusal old new is whole e honest calm.
      promotion_ends before a words kept j last refusal old new is whole e honest calm;
  serves = λ before a words kept j last old new is whole e honest calm.
      promotion_serves before a words kept j last old new is whole e honest calm;
  enough = λ before a words kept j last whys old new is whole e honest calm.
      enough before a words kept j last whys old new is whole e honest calm;
}
