-- The laws by which an open array is led on while a slot is replaced and rebuilt, where no medium comes back.
use Rattle.std.proofs.Common.{◌≡◌, ◌≢◌, ℕ, ◌<◌, ◌≤◌, List, inl, inr, refl, sym, ap, subst, arith, None, Some, Option, ◌∙◌}
use Rattle.std.specs.Prelude.{◌⊎◌, IsTrue, max}
use Rattle.std.proofs.lemmas.Bool.{cases_eq, cond-false, cond-true, eq-eqb, ne_eqb}
use Rattle.stair_model.specs.Geometry.{Geometry}
use Rattle.stair_model.specs.Slots.{HasSlot}
use Rattle.stair_rack.specs.Answers.{Ran, any_call}
use Rattle.stair_rack.specs.Crash.{CrashMayLeave}
use Rattle.stair_rack.specs.History.{Attach, Happening, slot_state}
use Rattle.stair_rack.specs.Media.{Image}
use Rattle.stair_rack.specs.Moments.{IsMoment}
use Rattle.stair_rack.specs.Offline.{IsHeld, IsOfflineUntilAttached}
use Rattle.stair_rack.specs.Placed.{IsSlot}
use Rattle.stair_rack.specs.Sector.{content}
use Rattle.stair_rack.specs.Stretch.{NothingReturned}
use Rattle.stair_rack.specs.RackState.{RackState}
use Rattle.stair_rack.specs.declared.rack.Reply.TheVariants as reply
use Rattle.stair_rack.proofs.MomentLemmas.{IsThis, at_some_wider, calls_ran, moment_between, moment_last, ran_any, ran_before, ran_join, ran_weakened}
use Rattle.stair_rack.proofs.StretchLemmas.{each_after}
use Rattle.stair_super.specs.Superblock.{Superblock, mark_in}
use Rattle.stair_super.specs.declared.configuration.Configuration.{Configuration}
use Rattle.stair_super.specs.declared.mark.Mark.TheVariants as mark
use Rattle.stair_member.specs.Aims.{mark_for}
use Rattle.stair_member.specs.Epochs.{IsIssuing}
use Rattle.stair_member.specs.Establishing.{AreAimed, Did, Establishes, HasBegun, NotYet}
use Rattle.stair_member.specs.Fencing.{IsBegun, MayJoin}
use Rattle.stair_member.specs.Membership.{IsHere, IsMissing, Membership, why_of}
use Rattle.stair_member.specs.Seeing.{draw_in}
use Rattle.stair_member.specs.Superblocks.{HoldsSuper}
use Rattle.stair_member.specs.declared.aim.EpochChange.TheVariants.{Admit, Fence, Promote}
use Rattle.stair_member.specs.declared.fault.FenceFault.{FenceFault}
use Rattle.stair_member.specs.declared.fault.FenceFault.TheVariants as fence
use Rattle.stair_member.specs.declared.why.Why.{Why}
use Rattle.stair_member.specs.declared.why.Why.TheVariants as why
use Rattle.stair_member.proofs.CountingLemmas.{has_or_not}
use Rattle.stair_state.specs.Blocks.{Codewords, AreEncodingsOf}
use Rattle.stair_state.specs.Recovering.{IsShut}
use Rattle.stair_state.specs.Redoing.{AttachesNone}
use Rattle.stair_state.specs.State.{Content}
use Rattle.stair_invariant.specs.Changing.{IsAttachedOrBare}
use Rattle.stair_invariant.specs.InSession.{IsAimedContent, IsBehindPlaces, IsOfContent, IsReadyFor}
use Rattle.stair_invariant.specs.Leading.{IsBesideArray, led_to}
use Rattle.stair_invariant.specs.Returning.{NoneReturns}
use Rattle.stair_invariant.specs.SeatSteps.{MayDrop, SeatsMove}
use Rattle.stair_invariant.specs.Session.{ArrayState, IsRebuiltIn, seats_in}
use Rattle.stair_invariant.proofs.Mending.{IsLookedAt, IsRebuiltWhole, LeadsAdmissions, LeadsBeside, LeadsPromotions, StandsAsMoved, StandsMoved, calm_going, epoch_content, looked_held, seen_by}
use Rattle.stair_invariant.proofs.NotBegunLemmas.{by_fence}
use Rattle.stair_invariant.proofs.OpenLaws.{in_session}
use Rattle.stair_invariant.proofs.OpenWithLemmas.{beside_open}
use Rattle.stair_invariant.proofs.OwnLaws.{attached_or_bare}
use Rattle.stair_invariant.proofs.ReadyLemmas.{looked, ready_admit, ready_promote}
use Rattle.stair_invariant.proofs.SawMoreLemmas.{saw_more}
use Rattle.stair_invariant.proofs.Serving.{StaysWithinToleranceTo, IsGoing, IsServing}
use Rattle.stair_invariant.proofs.Stamping.{IsPlain, live_before}
use Rattle.stair_array.proofs.EpochServingLemmas.{epoch_represents, epoch_serves, epoch_stands, never_few, not_raised}
use Rattle.stair_array.proofs.PreparedLemmas.{held_below, read_below}
use Rattle.stair_array.proofs.ServingLemmas.{going_sooner}
use Rattle.stair_array.proofs.StampsLeadLemmas.{stamps_lead}

beside_serves : (before : List Happening) (a : ArrayState) (words : Codewords) (kept : Content) (old new : List Happening)
    → IsServing NoneReturns before a words kept old → Ran (IsBesideArray a) old new → IsGoing NoneReturns a.member.array.geometry before new
    → IsServing NoneReturns before a words kept new
beside_serves before a words kept old new is ran on =
    let then = beside_open before a words old new is.is_open is.knows ran on.0 on.1 in
    record { is_open = then.0; history = then.1.history; of = is.of; knows = then.1 }

pub beside_leads : LeadsBeside NoneReturns
beside_leads = record {
  beside = λ before a words kept old new is ran on. beside_serves before a words kept old new is ran on;
}

-- A PROMOTION

module _ (before : List Happening) (a : ArrayState) (words : Codewords) (kept : Content) (j : ℕ) (last : Membership) (refusal : Option FenceFault)
    (old new : RackState) (is : IsServing NoneReturns before a words kept old.history) (whole : IsRebuiltWhole a words old.history j)
    (e : Establishes (Promote j) a.member last refusal old new) (honest : IsTrue new.honest) where
  abbrev m : Membership
  m = a.member

  ran : Ran any_call old.history new.history
  ran = ran_any {allowed = IsIssuing (e.issued honest).slots (e.issued honest).editions} (e.issued honest).ran

  here : IsHere m j
  here = record { below = whole.rebuilt.below; why = inr whole.rebuilt.why }

  ready_going : IsGoing NoneReturns m.array.geometry before old.history → IsReadyFor (Promote j) m words old.history
  ready_going on =
      ready_promote m j words old.history (in_session before a words old.history is.is_open on.0 on.1 is.knows) here (λ attached. whole.serves)

  ready : (c : List Happening) → IsMoment old.history c new.history → StaysWithinToleranceTo NoneReturns m.array.geometry before c
      → IsReadyFor (Promote j) m words old.history
  ready c at calm =
      let upto = ran_before {allowed = any_call} ran at in
      ready_going
      (going_sooner NoneReturns m.array.geometry before old.history c is.is_open.ran upto
      (calm_going NoneReturns m.array.geometry before c (ran_join {allowed = any_call} is.is_open.ran upto) calm))

  it_only : (slot : ℕ) → Promote j ≡ Promote slot → IsRebuiltIn m slot
  it_only slot same = let at : j ≡ slot = cc in subst (IsRebuiltIn m) at whole.rebuilt

  says : IsAimedContent (Promote j) m words kept None
  says = record { encodings = is.of.encodings; frozen = inl is.of.frozen; label = inl is.of.label }

  promotion_moves : (c : List Happening) → IsMoment old.history c new.history → StaysWithinToleranceTo NoneReturns m.array.geometry before c → (image : Image)
      → CrashMayLeave c image → StandsMoved NoneReturns (Promote j) e.gone m kept image
  promotion_moves c at calm image left =
      let found =
      epoch_stands before a words kept None is.of (Promote j) says last refusal old new e honest is.is_open.ran (ready c at calm) it_only c at calm image
      left in
      record { array = found.0; stands = found.1; moved = found.2 }

  end : IsMoment old.history new.history new.history
  end = moment_last ran.more ran.is

  promotion_ends : StaysWithinToleranceTo NoneReturns m.array.geometry before new.history → StandsAsMoved NoneReturns (Promote j) e.gone m kept new.history
  promotion_ends calm =
      let found =
      epoch_represents before a words kept None is.of (Promote j) says last refusal old new e honest is.is_open.ran (ready new.history end calm) it_only
      calm in
      record { array = found.0; stands = found.1; moved = found.2 }

  promotion_serves : refusal ≡ None → IsOfContent last words kept → IsGoing NoneReturns m.array.geometry before new.history
      → IsServing NoneReturns before (led_to a last) words kept new.history
  promotion_serves fine of on =
      epoch_serves before a words kept None is.of (Promote j) says last refusal old new e honest is.is_open.ran
      (ready_going (going_sooner NoneReturns m.array.geometry before old.history new.history is.is_open.ran ran on)) it_only fine on kept of is.is_open
      (λ i joins. absurd (let never : None ≡ Some i = joins in cc))

  -- not for want of slots, once it has begun an epoch
  module _ (whys : AreAimed (Promote j) e.gone m last) (calm : StaysWithinToleranceTo NoneReturns m.array.geometry before new.history) where
    missed : IsMissing last j → IsOfflineUntilAttached before new.history j
    missed missing =
        elim (has_or_not e.gone j) [
          | inl has ↦ e.were_gone.shut honest before j has (is.is_open.held j here) (λ attached. whole.serves.large 1 (omega arith))
          | inr stays ↦ absurd (missing.why (whys j whole.rebuilt.below stays ∙ cond-true _ _ _ (eq-eqb j j refl)))
        ]

    raised : (c : Configuration) → (c ≡ m.array) ⊎ SeatsMove (Promote j) (HasSlot e.gone) (seats_in m.array) (seats_in c) → (i : ℕ)
        → ¬ (why_of m i ≡ why.Here) → IsMissing last i → (¬ (mark_in c i ≡ mark.Live)) ⊎ IsOfflineUntilAttached before new.history i
    raised c go i other missing =
        elim (cases_eq i j) [
          | inl same ↦
              inr (subst (IsOfflineUntilAttached before new.history) (sym same) (missed (subst (IsMissing last) same missing)))
          | inr apart ↦
              inl
              (λ live.
              other
              (live_before m is.is_open.array.marks c i (subst (λ (g : Geometry). i < g.n) e.geometry missing.below) (dropped apart go) live))
        ]
      where
        dropped : ¬ (i ≡ j) → (c ≡ m.array) ⊎ SeatsMove (Promote j) (HasSlot e.gone) (seats_in m.array) (seats_in c)
            → MayDrop (seats_in m.array i) (seats_in c i)
        dropped apart (inl same) = inl (ap (λ (x : Configuration). seats_in x i) same)
        dropped apart (inr moves) = elim moves.moves [ inl goes ↦ goes.others i apart | inr drops ↦ drops.1.others i apart ]

    begun_enough : (fault : FenceFault) → refusal ≡ Some fault → (few : List Why) → ¬ (fault ≡ fence.TooFew few)
    begun_enough fault refused =
        never_few before a words kept None is.of (Promote j) says last refusal old new e honest is.is_open.ran (ready new.history end calm) it_only
        (λ i live.
        elim (cases_eq i j) [ inl same ↦ cond-true _ _ _ (eq-eqb i j same) | inr other ↦ cond-false _ _ _ (ne_eqb i j other) ]) raised is.is_open calm
        fault refused

promotion_enough : (before : List Happening) (a : ArrayState) (words : Codewords) (kept : Content) (j : ℕ) (last : Membership) (few : List Why)
    (old new : RackState) → IsServing NoneReturns before a words kept old.history → IsRebuiltWhole a words old.history j
    → Establishes (Promote j) a.member last (Some (fence.TooFew few)) old new → IsTrue new.honest
    → StaysWithinToleranceTo NoneReturns a.member.array.geometry before new.history → ⊥
promotion_enough before a words kept j last few old new is whole e honest calm = by e.began
  where
    plain : IsPlain Fence a.member words kept None
    plain = record {
      admits = refl;
      promotes = λ i never. cc;
      says = record { encodings = is.of.encodings; frozen = inl is.of.frozen; label = inl is.of.label };
      blocks = refl;
    }

    by : HasBegun (Promote j) e.gone a.member last → ⊥
    by (NotYet array whys) =
        stamps_lead.enough before a words kept None Fence last few old new is plain
        (by_fence j a.member last (fence.TooFew few) old new is.is_open.array.member.known e array whys) honest calm
    by (Did above named whys) =
        begun_enough before a words kept j last (Some (fence.TooFew few)) old new is whole e honest whys calm (fence.TooFew few) refl few refl

pub promotions_lead : LeadsPromotions NoneReturns
promotions_lead = record {
  moments = λ before a words kept j last refusal old new is whole e honest c at calm image left.
      promotion_moves before a words kept j last refusal old new is whole e honest c at calm image left;
  ended = λ before a words kept j last refusal old new is whole e honest calm.
      promotion_ends before a words kept j last refusal old new is whole e honest calm;
  serves = λ before a words kept j last old new is whole e honest on.
      promotion_serves before a words kept j last None old new is whole e honest refl
      (epoch_content (Promote j) a.member last words kept old new is.of refl refl e) on;
  enough = λ before a words kept j last whys old new is whole e honest calm.
      promotion_enough before a words kept j last whys old new is whole e honest calm;
}

-- AN ADMISSION

module _ (before : List Happening) (a : ArrayState) (words : Codewords) (kept : Content) (slot : ℕ) (seen : Membership) (first old : List Happening)
    (is : IsServing NoneReturns before a words kept first) (l : IsLookedAt a slot seen first old) where
  slot_out : ¬ IsHere a.member slot
  slot_out here =
      elim here.why [
        | inl live ↦
            let never : mark.Down ≡ mark.Live = sym l.down ∙ is.is_open.array.marks slot here.below ∙ ap mark_for live in absurd (cc)
        | inr rebuilt ↦
            let never : mark.Down ≡ mark.Rebuilding = sym l.down ∙ is.is_open.array.marks slot here.below ∙ ap mark_for rebuilt in absurd (cc)
      ]

  of_seen : IsOfContent seen words kept
  of_seen = record {
    encodings = subst (λ (c : Configuration). AreEncodingsOf c.geometry kept.blocks words) (sym l.sees.array) is.of.encodings;
    frozen = ap (λ (c : Configuration). c.frozen) l.sees.array ∙ is.of.frozen;
    label = ap (λ (c : Configuration). c.label) l.sees.array ∙ is.of.label;
  }

  begun_seen : IsBegun None seen first
  begun_seen = (saw_more before a slot l.first l.second seen words first is.is_open l.sees l.rules slot_out is.knows).1

  module _ (on : IsGoing NoneReturns a.member.array.geometry before old) where
    serves_seen : IsServing NoneReturns before (seen_by a seen) words kept old
    serves_seen =
        let still = beside_serves before a words kept first old is l.ran on in
        let both = saw_more before a slot l.first l.second seen words old still.is_open l.sees l.rules slot_out still.knows in
        record { is_open = both.0; history = both.1.history; of = of_seen; knows = both.1 }

    upto : Ran any_call before old
    upto = ran_join {allowed = any_call} is.is_open.ran (ran_any {allowed = IsBesideArray a} l.ran)

    none_since : NothingReturned first old
    none_since = each_after on.0 (moment_between {a = any_call} {b = IsBesideArray a} is.is_open.ran l.ran)

    most : (k : ℕ) → k < 2 → (s : Superblock) → HoldsSuper (l.cell k) s → s.draw ≤ seen.drawn
    most k small s holds = by (cases_eq k 0)
      where
        drawn : seen.drawn ≡ max (max a.member.drawn (draw_in l.first)) (draw_in l.second)
        drawn = l.sees.drawn

        by : (k ≡ 0) ⊎ (k ≢ 0) → s.draw ≤ seen.drawn
        by (inl zero) =
            let least = held_below (l.cell 0) l.first l.in_first s (subst (λ (i : ℕ). HoldsSuper (l.cell i) s) zero holds) in
            omega (arith, least, drawn)
        by (inr other) =
            let one : k ≡ 1 = omega (arith, small, other) in
            let least = held_below (l.cell 1) l.second l.in_second s (subst (λ (i : ℕ). HoldsSuper (l.cell i) s) one holds) in
            omega (arith, least, drawn)

    seen_below : slot < seen.array.geometry.n
    seen_below = subst (λ (c : Configuration). slot < c.geometry.n) (sym l.sees.array) l.below

    seen_down : mark_in seen.array slot ≡ mark.Down
    seen_down = ap (λ (c : Configuration). mark_in c slot) l.sees.array ∙ l.down

    seen_out : ¬ IsHere seen slot
    seen_out here =
        elim here.why [
          | inl live ↦
              let never : mark.Down ≡ mark.Live = sym seen_down ∙ serves_seen.is_open.array.marks slot here.below ∙ ap mark_for live in absurd (cc)
          | inr rebuilt ↦
              let never : mark.Down ≡ mark.Rebuilding =
              sym seen_down ∙ serves_seen.is_open.array.marks slot here.below ∙ ap mark_for rebuilt in
              absurd (cc)
        ]

    joins : MayJoin (Some slot) seen old
    joins =
        looked seen slot first old begun_seen seen_below seen_out
        (ran_weakened {allowed = IsBesideArray a} {more = IsBehindPlaces} (λ i c may. may.session.epochs.behind) l.ran) none_since
        (λ k small.
        at_some_wider {a = any_call} {b = any_call}
        {P = λ h. (s : Superblock) → HoldsSuper (content ((slot_state h slot).sector k)) s → s.draw ≤ seen.drawn}
        (ran_any {allowed = IsThis slot (Attach reply.Done)} (calls_ran l.attached)) (ran_any {allowed = AttachesNone (IsSlot slot)} l.later)
        (read_below slot k seen.drawn l.start l.end (l.cell k) (l.reading k small) l.honest (most k small)))

    own : IsAttachedOrBare old slot
    own =
        elim (attached_or_bare before old slot upto on.0 (looked_held before a slot seen first old is.is_open.ran l)) [
          | inl stops ↦ absurd (on.1 stops)
          | inr so ↦ so
        ]

    -- so it is ready for the epoch that admits it
    ready_seen : IsReadyFor (Admit slot) seen words old
    ready_seen =
        ready_admit seen slot words old (in_session before (seen_by a seen) words old serves_seen.is_open on.0 on.1 serves_seen.knows) seen_below seen_out
        joins own
        (λ attached. subst (λ (c : Configuration). IsShut c.geometry old old slot) (sym l.sees.array) (l.shut attached))

module _ (before : List Happening) (a : ArrayState) (words : Codewords) (kept : Content) (slot : ℕ) (seen last : Membership)
    (refusal : Option FenceFault) (first : List Happening) (old new : RackState) (is : IsServing NoneReturns before a words kept first)
    (l : IsLookedAt a slot seen first old.history) (e : Establishes (Admit slot) seen last refusal old new) (honest : IsTrue new.honest) where
  admit_ran : Ran any_call old.history new.history
  admit_ran = ran_any {allowed = IsIssuing (e.issued honest).slots (e.issued honest).editions} (e.issued honest).ran

  to_old : Ran any_call before old.history
  to_old = ran_join {allowed = any_call} is.is_open.ran (ran_any {allowed = IsBesideArray a} l.ran)

  on_old : (c : List Happening) → Ran any_call old.history c → IsGoing NoneReturns a.member.array.geometry before c
      → IsGoing NoneReturns a.member.array.geometry before old.history
  on_old c so_far on = going_sooner NoneReturns a.member.array.geometry before old.history c to_old so_far on

  on_calm : (c : List Happening) → IsMoment old.history c new.history → StaysWithinToleranceTo NoneReturns a.member.array.geometry before c
      → IsGoing NoneReturns a.member.array.geometry before old.history
  on_calm c at calm =
      let so_far = ran_before {allowed = any_call} admit_ran at in
      on_old c so_far (calm_going NoneReturns a.member.array.geometry before c (ran_join {allowed = any_call} to_old so_far) calm)

  no_promotion : (i : ℕ) → Admit slot ≡ Promote i → IsRebuiltIn seen i
  no_promotion i same = absurd (cc)

  admit_says : IsAimedContent (Admit slot) seen words kept None
  admit_says =
      let of = of_seen before a words kept slot seen first old.history is l in
      record { encodings = of.encodings; frozen = inl of.frozen; label = inl of.label }

  calm_seen : (c : List Happening) → StaysWithinToleranceTo NoneReturns a.member.array.geometry before c → StaysWithinToleranceTo NoneReturns seen.array.geometry before c
  calm_seen c calm = subst (λ (x : Configuration). StaysWithinToleranceTo NoneReturns x.geometry before c) (sym l.sees.array) calm

  admission_moves : (c : List Happening) → IsMoment old.history c new.history → StaysWithinToleranceTo NoneReturns a.member.array.geometry before c
      → (image : Image) → CrashMayLeave c image → StandsMoved NoneReturns (Admit slot) e.gone seen kept image
  admission_moves c at calm image left =
      let found =
      epoch_stands before (seen_by a seen) words kept None (of_seen before a words kept slot seen first old.history is l) (Admit slot) admit_says last
      refusal old new e honest to_old (ready_seen before a words kept slot seen first old.history is l (on_calm c at calm)) no_promotion c at
      (calm_seen c calm) image left in
      record { array = found.0; stands = found.1; moved = found.2 }

  admit_end : IsMoment old.history new.history new.history
  admit_end = moment_last admit_ran.more admit_ran.is

  admission_serves : refusal ≡ None → IsOfContent last words kept → IsGoing NoneReturns a.member.array.geometry before new.history
      → IsServing NoneReturns before (led_to (seen_by a seen) last) words kept new.history
  admission_serves fine of on =
      let serves = serves_seen before a words kept slot seen first old.history is l (on_old new.history admit_ran on) in
      epoch_serves before (seen_by a seen) words kept None (of_seen before a words kept slot seen first old.history is l) (Admit slot) admit_says last
      refusal old new e honest to_old (ready_seen before a words kept slot seen first old.history is l (on_old new.history admit_ran on)) no_promotion
      fine on kept of serves.is_open
      (λ i joins.
      let at : slot ≡ i = cc in
      subst (IsHeld before old.history) at (looked_held before a slot seen first old.history is.is_open.ran l))

  module _ (calm : StaysWithinToleranceTo NoneReturns a.member.array.geometry before new.history) where
    on_end : IsGoing NoneReturns a.member.array.geometry before old.history
    on_end = on_calm new.history admit_end calm

    ready_end : IsReadyFor (Admit slot) seen words old.history
    ready_end = ready_seen before a words kept slot seen first old.history is l on_end

    admission_ends : StandsAsMoved NoneReturns (Admit slot) e.gone seen kept new.history
    admission_ends =
        let found =
        epoch_represents before (seen_by a seen) words kept None (of_seen before a words kept slot seen first old.history is l) (Admit slot) admit_says
        last refusal old new e honest to_old ready_end no_promotion (calm_seen new.history calm) in
        record { array = found.0; stands = found.1; moved = found.2 }

    -- not for want of slots
    unraised : (c : Configuration) → (c ≡ seen.array) ⊎ SeatsMove (Admit slot) (HasSlot e.gone) (seats_in seen.array) (seats_in c) → (i : ℕ)
        → ¬ (why_of seen i ≡ why.Here) → IsMissing last i → ¬ (mark_in c i ≡ mark.Live)
    unraised c go i other missing = by go (cases_eq i slot)
      where
        stays_out : MayDrop (seats_in seen.array i) (seats_in c i) → ¬ (mark_in c i ≡ mark.Live)
        stays_out may =
            not_raised before (seen_by a seen) words kept None (of_seen before a words kept slot seen first old.history is l) (Admit slot) admit_says last
            refusal old new e honest to_old ready_end no_promotion c i may other missing

        by : (c ≡ seen.array) ⊎ SeatsMove (Admit slot) (HasSlot e.gone) (seats_in seen.array) (seats_in c) → (i ≡ slot) ⊎ (i ≢ slot)
            → ¬ (mark_in c i ≡ mark.Live)
        by (inl same) which = stays_out (inl (ap (λ (x : Configuration). seats_in x i) same))
        by (inr moves) (inr apart) = elim moves.moves [ inl goes ↦ stays_out (goes.others i apart) | inr drops ↦ stays_out (drops.1 i) ]
        by (inr moves) (inl same) =
            elim moves.moves [
              | inr drops ↦ stays_out (drops.1 i)
              | inl goes ↦ λ live.
                  let never : mark.Rebuilding ≡ mark.Live = sym goes.is ∙ ap (λ (k : ℕ). mark_in c k) (sym same) ∙ live in
                  cc
            ]

    admission_enough : (fault : FenceFault) → refusal ≡ Some fault → (few : List Why) → ¬ (fault ≡ fence.TooFew few)
    admission_enough fault refused =
        never_few before (seen_by a seen) words kept None (of_seen before a words kept slot seen first old.history is l) (Admit slot) admit_says last
        refusal old new e honest to_old ready_end no_promotion
        (λ i live.
        cond-false _ _ _
        (ne_eqb i slot
        (λ same.
        seen_out before a words kept slot seen first old.history is l on_end
        (subst (IsHere seen) same (record { below = live.below; why = inl live.why })))))
        (λ c go i other missing. inl (unraised c go i other missing))
        (serves_seen before a words kept slot seen first old.history is l on_end).is_open (calm_seen new.history calm) fault refused

pub admissions_lead : LeadsAdmissions NoneReturns
admissions_lead = record {
  saw = λ before a words kept slot seen old new is l on. serves_seen before a words kept slot seen old new is l on;
  moments = λ before a words kept slot seen last refusal first old new is l e honest c at calm image left.
      admission_moves before a words kept slot seen last refusal first old new is l e honest c at calm image left;
  ended = λ before a words kept slot seen last refusal first old new is l e honest calm.
      admission_ends before a words kept slot seen last refusal first old new is l e honest calm;
  serves = λ before a words kept slot seen last first old new is l e honest on.
      admission_serves before a words kept slot seen last None first old new is l e honest refl
      (epoch_content (Admit slot) seen last words kept old new (of_seen before a words kept slot seen first old.history is l) refl refl e) on;
  enough = λ before a words kept slot seen last whys first old new is l e honest calm.
      admission_enough before a words kept slot seen last (Some (fence.TooFew whys)) first old new is l e honest calm (fence.TooFew whys) refl whys refl;
}
