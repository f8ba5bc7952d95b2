-- A write of blocks that an epoch was refused to, where more slots were cut off than is tolerated and no medium comes back: while a slot that
-- was live serves with a whole journal, and no other array stands, the rack represents the array before it, after it or in doubt.
use Rattle.std.proofs.Common.{◌≡◌, ℕ, List, inl, inr, refl, sym, ap, ◌∙◌, subst, None, Some, Option, false, true≢false}
use Rattle.std.specs.Prelude.{◌⊎◌, IsTrue}
use Rattle.stair_model.specs.Geometry.{Geometry, IsWithinLimits}
use Rattle.stair_model.specs.Slots.{HasSlot, Slots}
use Rattle.stair_rack.specs.Answers.{Ran, any_call}
use Rattle.stair_rack.specs.Crash.{CrashMayLeave}
use Rattle.stair_rack.specs.History.{Happening, slot_state}
use Rattle.stair_rack.specs.Media.{Image}
use Rattle.stair_rack.specs.Offline.{IsAttached, IsHeld, IsOffline, IsOfflineUntilAttached}
use Rattle.stair_rack.specs.Sector.{damaged}
use Rattle.stair_rack.specs.Stretch.{NothingReturned}
use Rattle.stair_rack.specs.RackState.{RackState}
use Rattle.stair_rack.proofs.MomentLemmas.{moment_between, ran_join, ran_weakened}
use Rattle.stair_rack.proofs.StretchLemmas.{each_after}
use Rattle.stair_member.specs.Current.{IsCurrent}
use Rattle.stair_member.specs.Membership.{IsHere, Membership, why_of}
use Rattle.stair_member.specs.declared.fault.FenceFault.{FenceFault}
use Rattle.stair_member.specs.declared.why.Why.TheVariants as why
use Rattle.stair_member.proofs.SuperLemmas.{counts_bears, super_formed}
use Rattle.stair_state.specs.Blocks.{Codewords}
use Rattle.stair_state.specs.Redoing.{AtRest, AttachesNone, Done, InPlace, IsRedoing, Placing, Redoing, Stage, Uncommitted}
use Rattle.stair_state.specs.State.{BlocksAre, Change, Content, State, changed_if}
use Rattle.stair_invariant.specs.Effects.{Fenced, FencesGone, NoneWas, Snapshot, snapshot}
use Rattle.stair_invariant.specs.CutOff.{IsStillThere}
use Rattle.stair_invariant.specs.Leading.{IsOpenAmid}
use Rattle.stair_invariant.specs.Opening.{StaysArray}
use Rattle.stair_invariant.specs.Returning.{NoneReturns}
use Rattle.stair_invariant.specs.Session.{ArrayState, HasOwn, IsLiveIn, seats_in}
use Rattle.stair_invariant.specs.UnderWay.{IsOfRedo, IsUnderWay, content_in, doubt_in}
use Rattle.stair_invariant.proofs.BesideLemmas.{attached_on}
use Rattle.stair_invariant.proofs.CutOffLemmas.{keeps, represents_still}
use Rattle.stair_invariant.proofs.MidwayLemmas.{bears_none}
use Rattle.stair_invariant.proofs.OpenLaws.{in_session}
use Rattle.stair_invariant.proofs.OpenWithLemmas.{amid_of}
use Rattle.stair_invariant.proofs.OwnLaws.{attached_or_bare}
use Rattle.stair_invariant.proofs.RedoingLemmas.{no_redo, out_ran, resting, way_begins}
use Rattle.stair_invariant.proofs.SeatLemmas.{listed_member, listed_super}
use Rattle.stair_invariant.proofs.Serving.{IsGoing}
use Rattle.stair_invariant.proofs.StaysArrayLemmas.{drops_twice}
use Rattle.stair_array.specs.Machine.{InDoubt, IsAsItWas, Made, MayBeCut}
use Rattle.stair_array.specs.Writes.{IsCutOffIn}
use Rattle.stair_array.proofs.GoneToLemmas.{attaches_none}
use Rattle.stair_array.proofs.LedOnLemmas.{kept_drops}
use Rattle.stair_array.proofs.LoadingLemmas.{IsRefusedAt}
use Rattle.stair_array.proofs.PartsLemmas.{out_after}
use Rattle.stair_array.proofs.ServingLemmas.{going_sooner}

-- no change, or the write
abbrev pub IsNoneOrWrite : ℕ → List (List ℕ) → Option Change → Type 0
IsNoneOrWrite first contents change = (change ≡ None) ⊎ (change ≡ Some (BlocksAre first contents))

-- An epoch was refused in this stage of a redo, to an array that was left of this one. Each slot that was live at first and is attached
-- in the end was live in it.
pub record IsRefusedIn (before : List Happening) (kept : Content) (first : ℕ) (contents : List (List ℕ)) (m : Membership) (fault : FenceFault)
    (z : Snapshot) : Type 0 where
  pub array : ArrayState
  pub mid : RackState
  pub gone : Slots
  pub leaves : FencesGone gone (Some fault) (snapshot array.member mid) z
  pub redoing : Redoing
  pub stage : Stage
  pub start : List Happening
  pub begun : (stage ≡ AtRest) ⊎ IsRedoing redoing
  pub way : IsUnderWay redoing stage start array.member mid.history
  pub amid : IsOpenAmid before array mid.history
  pub change : Option Change
  pub is_write : IsNoneOrWrite first contents change
  pub of : IsOfRedo redoing array.member kept change
  pub stays : StaysArray m array.member
  pub here : (j : ℕ) → HasSlot gone j → IsHere array.member j
  pub off : (j : ℕ) → IsLiveIn array.member j → HasSlot gone j → IsOfflineUntilAttached before mid.history j
  pub live : (j : ℕ) → IsLiveIn m j → IsAttached z.told.history j → IsLiveIn array.member j

-- as it was while cells were read
pub rest_refused : (before : List Happening) (words : Codewords) (kept : Content) (first : ℕ) (contents : List (List ℕ)) (m : Membership)
    (fault : FenceFault) (z : Snapshot) → IsRefusedAt NoneReturns before words kept m fault z → IsTrue z.told.honest
    → IsGoing NoneReturns m.array.geometry before z.told.history → IsRefusedIn before kept first contents m fault z
rest_refused before words kept first contents m fault z at honest on = record {
  array = at.array;
  mid = at.mid;
  gone = at.gone;
  leaves = at.leaves;
  redoing = resting at.array.member.array.geometry words no_redo words;
  stage = AtRest;
  start = at.mid.history;
  begun = inl refl;
  way =
      way_begins (resting at.array.member.array.geometry words no_redo words) at.array.member at.mid.history
      (in_session before at.array words at.mid.history at.serves.is_open on_mid.0 on_mid.1 at.serves.knows) refl;
  amid = amid_of before at.array words at.mid.history at.serves.is_open;
  change = None;
  is_write = inl refl;
  of = record {
    old_are = at.serves.of.encodings;
    new_are = at.serves.of.encodings;
    frozen = at.serves.of.frozen;
    label = at.serves.of.label;
    frozen_new = refl;
    label_new = refl;
  };
  stays = at.stays;
  here = at.here;
  off = λ j live has. at.off j has;
  live = at.live;
}
  where
    on_mid : IsGoing NoneReturns m.array.geometry before at.mid.history
    on_mid =
        going_sooner NoneReturns m.array.geometry before at.mid.history z.told.history at.serves.is_open.ran
        (out_ran at.gone (Some fault) (snapshot at.array.member at.mid) z at.leaves honest) on

-- WHAT A STAGE LEAVES

module _ (first : ℕ) (contents : List (List ℕ)) (g : Geometry) (kept : Content) (s : State) (same : s.content ≡ kept) (certain : s.in_doubt ≡ None)
  where
    abbrev left_in : Stage → Option Change → State
    left_in stage change = record { geometry = g; content = content_in stage kept change; in_doubt = doubt_in stage change; seats = None }

    as_before : (now : State) → now.content ≡ kept → now.in_doubt ≡ None → IsAsItWas s now ⊎ MayBeCut (Some (BlocksAre first contents)) s now
    as_before now content doubt = inl (record { content = content ∙ sym same; in_doubt = doubt ∙ sym certain })

    with_none : (stage : Stage) → IsAsItWas s (left_in stage None) ⊎ MayBeCut (Some (BlocksAre first contents)) s (left_in stage None)
    with_none AtRest = as_before (left_in AtRest None) refl refl
    with_none Uncommitted = as_before (left_in Uncommitted None) refl refl
    with_none Placing = as_before (left_in Placing None) refl refl
    with_none InPlace = as_before (left_in InPlace None) refl refl
    with_none Done = as_before (left_in Done None) refl refl

    abbrev written : Option Change
    written = Some (BlocksAre first contents)

    abbrev changed_so : Content → Content
    changed_so = changed_if written

    with_write : (stage : Stage) → IsAsItWas s (left_in stage written) ⊎ MayBeCut written s (left_in stage written)
    with_write AtRest = as_before (left_in AtRest written) refl refl
    with_write Uncommitted =
        inr (InDoubt (BlocksAre first contents) refl (record { content = sym same; in_doubt = refl }))
    with_write Placing = inr (Made (BlocksAre first contents) refl (record { content = ap changed_so (sym same); in_doubt = refl }))
    with_write InPlace = inr (Made (BlocksAre first contents) refl (record { content = ap changed_so (sym same); in_doubt = refl }))
    with_write Done = inr (Made (BlocksAre first contents) refl (record { content = ap changed_so (sym same); in_doubt = refl }))

    holds_in : (stage : Stage) (change : Option Change) → IsNoneOrWrite first contents change
        → IsAsItWas s (left_in stage change) ⊎ MayBeCut written s (left_in stage change)
    holds_in stage change (inl none) =
        subst (λ (c : Option Change). IsAsItWas s (left_in stage c) ⊎ MayBeCut written s (left_in stage c)) (sym none) (with_none stage)
    holds_in stage change (inr write) =
        subst (λ (c : Option Change). IsAsItWas s (left_in stage c) ⊎ MayBeCut written s (left_in stage c)) (sym write) (with_write stage)

-- THE RACK

module _ (before : List Happening) (kept : Content) (first : ℕ) (contents : List (List ℕ)) (m : Membership) (fault : FenceFault) (z : Snapshot)
    (at : IsRefusedIn before kept first contents m fault z) (honest : IsTrue z.told.honest)
    (on : IsGoing NoneReturns m.array.geometry before z.told.history)
    (held : (j : ℕ) → IsLiveIn m j → IsHeld before z.told.history j)
    (still : (image : Image) → CrashMayLeave z.told.history image → IsStillThere (IsOffline before z.told.history) m.array.geometry (IsLiveIn m) image)
  where
    abbrev p : Membership
    p = at.array.member

    ran : Ran any_call at.mid.history z.told.history
    ran = out_ran at.gone (Some fault) (snapshot p at.mid) z at.leaves honest

    all : Ran any_call before z.told.history
    all = ran_join {allowed = any_call} at.amid.ran ran

    on_mid : IsGoing NoneReturns m.array.geometry before at.mid.history
    on_mid = going_sooner NoneReturns m.array.geometry before at.mid.history z.told.history at.amid.ran ran on

    returned : NothingReturned at.mid.history z.told.history
    returned = each_after on.0 (moment_between {a = any_call} {b = any_call} at.amid.ran ran)

    -- a live slot that is to be left out bears nothing
    bare : (j : ℕ) → HasSlot at.gone j → why_of p j ≡ why.Here
        → ((slot_state at.mid.history j).attached ≡ false) × ((k : ℕ) → (slot_state at.mid.history j).sector k ≡ damaged)
    bare j has up =
        elim (attached_or_bare before at.mid.history j at.amid.ran on_mid.0 (at.amid.held j (at.here j has))) [
          | inl stops ↦ absurd (on_mid.1 stops)
          | inr (inr off) ↦ off
          | inr (inl attached) ↦ absurd (by attached.0 (at.off j (record { below = (at.here j has).below; why = up }) has))
        ]
      where
        by : IsAttached at.mid.history j → IsOfflineUntilAttached before at.mid.history j → ⊥
        by attached (IsOfflineUntilAttached.RackStopped stops) = on_mid.1 stops
        by attached (IsOfflineUntilAttached.Unattached off pulled) = true≢false (sym attached ∙ off)

    -- the slot that serves was live to the array then, and is attached
    module _ (image : Image) (left : CrashMayLeave z.told.history image) where
      abbrev is : IsStillThere (IsOffline before z.told.history) m.array.geometry (IsLiveIn m) image
      is = still image left

      abbrev j : ℕ
      j = is.journal_slot

      attached_z : IsAttached z.told.history j
      attached_z =
          elim (attached_or_bare before z.told.history j all on.0 (held j is.among)) [
            | inl stops ↦ absurd (on.1 stops)
            | inr (inl attached) ↦ attached.0
            | inr (inr off) ↦
                absurd
                (bears_none m.array.geometry z.told.history image j left off.1
                (record {
                  super = is.journal.serves.live.super;
                  bears =
                      counts_bears m.array.geometry image j is.journal.serves.live.super is.journal.serves.live.counts;
                }))
          ]

      attached_mid : IsAttached at.mid.history j
      attached_mid =
          attached_on at.mid.history z.told.history j
          (ran_weakened {allowed = attaches_none} {more = AttachesNone (λ i. i ≡ j)} (λ i c may here. may)
          ((out_after at.gone (Some fault) (snapshot p at.mid) z at.leaves).beside honest)) attached_z

      still_p : IsStillThere (IsOffline before z.told.history) p.array.geometry (λ i. IsLiveIn p i × IsAttached at.mid.history i) image
      still_p =
          subst (λ (g : Geometry). IsStillThere (IsOffline before z.told.history) g (λ i. IsLiveIn p i × IsAttached at.mid.history i) image)
          (sym at.stays.geometry)
          (record {
            identity = is.identity;
            current = is.current;
            is_current = is.is_current;
            journal_slot = j;
            journal = is.journal;
            among = (at.live j is.among attached_z, attached_mid);
          })

    pub cut_off : (s : State) → s.geometry ≡ m.array.geometry → s.content ≡ kept → s.in_doubt ≡ None
        → IsCutOffIn first contents s (seats_in m.array) z.told.history
    cut_off s same content certain = by at.leaves
      where
        by : FencesGone at.gone (Some fault) (snapshot p at.mid) z → IsCutOffIn first contents s (seats_in m.array) z.told.history
        by (NoneWas out alike fine) = absurd (let never : Some fault ≡ None = fine in cc)
        by (Fenced i has answer fine e) = record {
          state = left_in first contents p.array.geometry kept s content certain at.stage at.change;
          geometry = at.stays.geometry ∙ sym same;
          holds = holds_in first contents p.array.geometry kept s content certain at.stage at.change at.is_write;
          unseated = refl;
          stands =
              represents_still at.redoing at.stage at.begun limits at.start at.gone p z.member answer at.mid z.told at.way at.here bare e honest returned
              on.1 own (IsOffline before z.told.history) still_p kept at.change at.of;
          marks = λ image left current is_current.
              let is_so : IsCurrent p.array.geometry image current =
              subst (λ (g : Geometry). IsCurrent g image current) (same ∙ sym at.stays.geometry) is_current in
              drops_twice (seats_in m.array) (seats_in p.array) (seats_in current.array) at.stays.seats
              (kept_drops p.array current.array (listed_member p at.stays.rules)
              (listed_super current (super_formed _ current is_current.counts.super)) is_so.counts.identity
              (keeps at.redoing at.stage at.begun limits at.start at.gone p z.member answer at.mid z.told at.way at.here bare e honest returned on.1 own
              (IsOffline before z.told.history) still_p image left current is_so));
        }
          where
            limits : IsWithinLimits at.redoing.geometry
            limits = subst IsWithinLimits (sym at.way.geometry) at.stays.rules.array.limits

            own : (j : ℕ) → IsLiveIn p j → IsAttached at.mid.history j → HasOwn p at.mid.history j
            own j live attached = at.amid.own j (record { below = live.below; why = inl live.why }) attached
