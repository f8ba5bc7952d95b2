-- The end of an opening's first fence: its epoch stands, and the slots in use are at rest or in a stage of a redo.
use Rattle.std.proofs.Common.{◌≡◌, ℕ, ◌<◌, List, [], inl, inr, refl, sym, ap, ◌∙◌, subst, arith, None, Some}
use Rattle.std.specs.Prelude.{◌⊎◌, IsSome, IsTrue}
use Rattle.std.proofs.lemmas.Bool.{false≢true}
use Rattle.stair_model.specs.Device.{body_sector, cell_sector, gate_sector}
use Rattle.stair_model.specs.Geometry.{Geometry, IsWithinLimits}
use Rattle.stair_model.specs.Slots.{Slots}
use Rattle.stair_rack.specs.Answers.{Ran, any_call}
use Rattle.stair_rack.specs.Crash.{CrashMayLeave, EachImage, image_now}
use Rattle.stair_rack.specs.History.{Happening, slot_state, stopped}
use Rattle.stair_rack.specs.Media.{Image}
use Rattle.stair_rack.specs.Offline.{IsAttached, IsHeld, IsKept}
use Rattle.stair_rack.specs.Sector.{MayLeave, Sector}
use Rattle.stair_rack.proofs.CrashLemmas.{CrashMayLeave-now, nothing_unsynced, settled_left}
use Rattle.stair_rack.proofs.MomentLemmas.{ran_none, ran_weakened}
use Rattle.stair_rack.proofs.OfflineLemmas.{stopped_on}
use Rattle.stair_rack.proofs.TidyLemmas.{HasSize, size_on}
use Rattle.stair_member.specs.Aims.{admitted}
use Rattle.stair_member.specs.Asked.{LeavesSectors}
use Rattle.stair_member.specs.Current.{IsCurrent, IsLive}
use Rattle.stair_member.specs.Epochs.{IsIssuing, IsTaken}
use Rattle.stair_member.specs.Fencing.{HasStood}
use Rattle.stair_member.specs.Membership.{Membership, why_of}
use Rattle.stair_member.specs.declared.aim.EpochChange.TheVariants.{Fence}
use Rattle.stair_member.specs.declared.why.Why.TheVariants.{Gone, Here, Rebuilding}
use Rattle.stair_member.proofs.CountingLemmas.{has_or_not}
use Rattle.stair_member.proofs.SuperLemmas.{counts_limits}
use Rattle.stair_state.specs.Blocks.{Codewords}
use Rattle.stair_state.specs.Forms.{HasGate, RepresentsBy}
use Rattle.stair_state.specs.Recovering.{IsShut}
use Rattle.stair_state.specs.Redoing.{AttachesNone, BodyHas, ChunkHas, GateHas, IsIn, IsLeftIn, Redoing, Stage}
use Rattle.stair_state.specs.Represents.{ImageRepresents, IsLargeEnough, Left}
use Rattle.stair_state.specs.State.{State}
use Rattle.stair_state.specs.Surveyed.{Bare, IsOwnOrBare, Own}
use Rattle.stair_state.specs.Tolerance.{IsTolerated}
use Rattle.stair_state.proofs.DegradedLemmas.{degraded_same}
use Rattle.stair_state.proofs.RedoFormLemmas.{started}
use Rattle.stair_state.proofs.RedoPhaseLemmas.{large_some}
use Rattle.stair_invariant.specs.Changing.{IsAttachedOrBare}
use Rattle.stair_invariant.specs.InSession.{HasEpoch}
use Rattle.stair_invariant.specs.Opening.{HasStage, IsFoundFor, IsRecovering}
use Rattle.stair_invariant.specs.Session.{IsLiveIn}
use Rattle.stair_invariant.specs.UnderWay.{IsInUse}
use Rattle.stair_invariant.proofs.AfterLemmas.{stood}
use Rattle.stair_invariant.proofs.BesideLemmas.{attached_on, large_on, medium_on_it}
use Rattle.stair_invariant.proofs.CameLemmas.{left_by}
use Rattle.stair_invariant.proofs.EstablishingLemmas.{issuing_attaches}
use Rattle.stair_invariant.proofs.FoundLemmas.{form}
use Rattle.stair_invariant.proofs.JournalInUse.{gate_in_use}
use Rattle.stair_invariant.proofs.KnownGates.{gates_tell}
use Rattle.stair_invariant.proofs.StageFoundLemmas.{IsLeftSo, new_among, old_among, stage_told}

module _ (s : State) (m last : Membership) (before old mid new : List Happening) (found : IsFoundFor s m before old mid) (gone : Slots)
    (st : HasStood Fence gone m last mid new) (going : ¬ IsTrue (stopped new)) where
  abbrev ran : Ran (IsIssuing st.fencing.issued.slots st.fencing.issued.editions) mid new
  ran = st.fencing.issued.ran

  same : last.array.geometry ≡ m.array.geometry
  same = st.established.stands.geometry

  free : (j : ℕ) → Ran (AttachesNone (λ i. i ≡ j)) mid new
  free j =
      ran_weakened {allowed = IsIssuing st.fencing.issued.slots st.fencing.issued.editions} {more = AttachesNone (λ i. i ≡ j)}
      (λ i c may. issuing_attaches st.fencing.issued.slots st.fencing.issued.editions (λ x. x ≡ j) i c may) ran

  -- THE EPOCH

  own_found : (j : ℕ) → IsTaken (admitted Fence) m j → IsAttachedOrBare mid j
  own_found j (inr never) = let joins : None ≡ Some j = never.0 in absurd (cc)
  own_found j (inl here) = by (found.own j here) (found.held j here)
    where
      by : IsOwnOrBare (slot_state old j) (slot_state mid j) → IsHeld old mid j → IsAttachedOrBare mid j
      by (Bare off bare) held = inr (off, bare)
      by (Own was pulls some) (IsHeld.InUse on size least) = inl (on, size)
      by (Own was pulls some) (IsHeld.Unattached off pulled) = absurd (omega (arith, pulled, pulls))
      by (Own was pulls some) (IsHeld.RackStopped stops) =
          absurd (going (stopped_on {allowed = IsIssuing st.fencing.issued.slots st.fencing.issued.editions} ran stops))

  shut_found : (j : ℕ) → j < m.array.geometry.n → (why_of m j ≡ Rebuilding) ⊎ (admitted Fence ≡ Some j) → IsAttached mid j
      → IsShut m.array.geometry mid mid j
  shut_found j below (inl rebuilt) on = (found.rebuilding j below rebuilt).shut on
  shut_found j below (inr never) on = let joins : None ≡ Some j = never in absurd (cc)

  -- It is the session's.
  pub begins : HasEpoch last new
  begins = stood Fence gone m last mid new own_found st going shut_found

  -- THE SLOTS IN USE

  -- were live to the survey's member,
  was_live : (j : ℕ) → IsLiveIn last j → (j < m.array.geometry.n) × (why_of m j ≡ Here)
  was_live j on =
      let below : j < m.array.geometry.n = subst (λ (g : Geometry). j < g.n) same on.below in
      elim (has_or_not gone j) [
        | inl has ↦ let never : Gone ≡ Here = sym (st.dropped j has) ∙ on.why in absurd (cc)
        | inr stays ↦ (below, sym (st.established.whys j below stays) ∙ on.why)
      ]

  -- are large enough,
  pub large_found : (j : ℕ) → IsInUse last new j → IsLargeEnough s.geometry (slot_state new j).size
  large_found j used =
      large_on s.geometry mid new j (free j) (attached_on mid new j (free j) used.1) used.1
      (by (found.own j (record { below = (was_live j used.0).0; why = inl (was_live j used.0).1 })))
    where
      first : ImageRepresents s found.represents.encodings (image_now old)
      first = found.represents.each (image_now old) (Left (CrashMayLeave-now old))

      at_first : IsLargeEnough s.geometry (slot_state old j).size
      at_first =
          first.full j
          (subst (λ (g : Geometry). IsLive g (image_now old) first.current j) (sym found.geometry)
          (found.live j (was_live j used.0).0 (was_live j used.0).1 (image_now old) (CrashMayLeave-now old) first.current
          (subst (λ (g : Geometry). IsCurrent g (image_now old) first.current) found.geometry first.is_current)))

      by : IsOwnOrBare (slot_state old j) (slot_state mid j) → IsLargeEnough s.geometry (slot_state mid j).size
      by (Bare off bare) = absurd (false≢true (sym off ∙ attached_on mid new j (free j) used.1))
      by (Own was pulls some) =
          sized (size_on {allowed = LeavesSectors} (slot_state old j).pulls (slot_state old j).size j was found.ran (HasSize.Same refl refl))
        where
          sized : HasSize (slot_state old j).pulls (slot_state old j).size (slot_state mid j) → IsLargeEnough s.geometry (slot_state mid j).size
          sized (HasSize.Same at is) = subst (IsLargeEnough s.geometry) (sym is) at_first
          sized (HasSize.Other less) = absurd (omega (arith, less, pulls))

  -- and nothing of them is unsynced,
  unsynced : (j k : ℕ) → IsInUse last new j → ((slot_state new j).sector k).since ≡ []
  unsynced j k used =
      settled (st.on_disk.synced j k (record { below = used.0.below; why = inl used.0.why }) some)
    where
      at_mid : IsAttachedOrBare mid j → IsSome (slot_state mid j).size
      at_mid (inl on) = on.1
      at_mid (inr off) = absurd (false≢true (sym off.0 ∙ attached_on mid new j (free j) used.1))

      some : IsSome (slot_state mid j).size
      some = at_mid (own_found j (inl (record { below = (was_live j used.0).0; why = inl (was_live j used.0).1 })))

      settled : IsKept (slot_state mid j).pulls k (λ (x : Sector). x.since ≡ []) (slot_state new j) → ((slot_state new j).sector k).since ≡ []
      settled (IsKept.Here at has (inl none)) = ap (λ (x : Sector). x.since) none
      settled (IsKept.Here at has (inr is)) = is
      settled (IsKept.Lost less) = absurd (medium_on_it mid new j (free j) used.1 less)

  -- so that a crash leaves one image of them
  left_base : (image : Image) → CrashMayLeave new image → (j k : ℕ) → IsInUse last new j → (image j).cell k ≡ ((slot_state new j).sector k).base
  left_base image left j k used =
      settled_left ((slot_state new j).sector k).base ((image j).cell k)
      (subst (λ (x : Sector). MayLeave x ((image j).cell k)) (nothing_unsynced ((slot_state new j).sector k) (unsynced j k used)) ((left j).each k))

  one_image : (image : Image) → CrashMayLeave new image → (j k : ℕ) → IsInUse last new j → (image_now new j).cell k ≡ (image j).cell k
  one_image image left j k used = left_base (image_now new) (CrashMayLeave-now new) j k used ∙ sym (left_base image left j k used)

  each_left : (a : Redoing) (stage : Stage) → IsLeftIn a stage (IsInUse last new) (image_now new)
      → EachImage (IsLeftIn a stage (IsInUse last new)) new
  each_left a stage is image left = record {
    gates = λ j on. subst (GateHas a stage) (one_image image left j gate_sector on) (is.gates j on);
    bodies = λ j i c on has.
        subst (BodyHas a stage i c) (one_image image left j (body_sector a.geometry i c) on) (is.bodies j i c on has);
    chunks = λ j t i on j_in t_in i_in.
        subst (ChunkHas a stage t i j) (one_image image left j (cell_sector a.geometry t i) on) (is.chunks j t i on j_in t_in i_in);
  }

  limits : IsWithinLimits s.geometry
  limits =
      let is = found.represents.each (image_now old) (Left (CrashMayLeave-now old)) in
      counts_limits s.geometry (image_now old) is.current.slot is.current is.is_current.counts

  -- THE STAGE

  abbrev old_words : Codewords
  old_words = found.represents.encodings.old

  abbrev new_words : Codewords
  new_words = found.represents.encodings.new

  -- They have one form, where one of them has a gate,
  form_now : HasGate (IsInUse last new) (image_now new) → RepresentsBy s.geometry old_words new_words (IsInUse last new) (image_now new)
  form_now gate =
      form found (left_by st.fencing (CrashMayLeave-now new)) (image_now new) (degraded_same (image_now new)) (IsInUse last new)
      (λ j used. was_live j used.0) gate

  -- as one has within tolerance.
  module _ (tolerated : IsTolerated last.array.geometry before new) where
    left_so : IsLeftSo s.geometry old_words new_words (IsInUse last new) (image_now new)
    left_so =
        stage_told s.geometry limits old_words new_words (IsInUse last new) (image_now new)
        (form_now
        (gate_in_use last new begins (image_now new) (CrashMayLeave-now new) (tolerated (image_now new) (CrashMayLeave-now new))))
        (gates_tell s.geometry limits last new (image_now new))

    cells : IsIn left_so.redoing left_so.stage (IsInUse last new) new new
    cells =
        started left_so.redoing left_so.stage (IsInUse last new) new
        (λ j used. large_some s.geometry (slot_state new j).size (large_found j used)) (each_left left_so.redoing left_so.stage left_so.left)

    -- The slots in use are at rest, or in a stage of a redo,
    pub ends : HasStage s.geometry old_words new_words (IsInUse last new) new new
    ends = record {
      redoing = left_so.redoing;
      stage = left_so.stage;
      geometry = left_so.geometry;
      begun = elim left_so.begun [ inl rests ↦ inl rests | inr redo ↦ inr redo.0 ];
      is_in = cells;
      old_is = old_among old_words new_words left_so.redoing left_so.stage left_so.words;
      new_is = new_among old_words new_words left_so.redoing left_so.stage left_so.words;
    }

    -- from which a recovery goes on.
    pub recovers : (a : Redoing) × (stage : Stage) × IsRecovering a stage old_words new_words new last new
    recovers = (
      left_so.redoing,
      left_so.stage,
      record {
        way = record {
          geometry = left_so.geometry ∙ found.geometry ∙ sym same;
          ran = ran_none {allowed = any_call} new;
          epoch = begins;
          cells = cells;
          same = λ j used pulled. omega (arith, pulled);
          large = λ j used. subst (λ (g : Geometry). IsLargeEnough g (slot_state new j).size) (sym left_so.geometry) (large_found j used);
        };
        settled = λ j used. unsynced j gate_sector used;
        begun = left_so.begun;
        words = left_so.words;
      },
    )
