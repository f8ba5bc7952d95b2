-- How the establishing of an epoch ends.
use Rattle.std.proofs.Common.{◌≡◌, ◌≢◌, ℕ, ◌+◌, ◌<◌, ◌≤◌, [], ◌⊎◌, inl, inr, refl, sym, ap, ◌∙◌, subst, arith, Option, None, Some}
use Rattle.std.specs.Prelude.{IsTrue, IsSome}
use Rattle.stair_model.specs.Geometry.{Geometry}
use Rattle.stair_model.specs.Slots.{Slots, HasSlot, IsSlotSet, slot_count}
use Rattle.stair_rack.specs.Count.{Rose}
use Rattle.stair_rack.specs.RackCounts.{NoneFalls}
use Rattle.stair_rack.specs.History.{slot_state}
use Rattle.stair_rack.specs.Sector.{Sector}
use Rattle.stair_rack.proofs.KeptLemmas.{IsKept-mapped, IsKept-now}
use Rattle.stair_rack.proofs.MomentLemmas.{at_every_mapped}
use Rattle.stair_rack.proofs.PassCounts.{NoneFalls-then}
use Rattle.stair_rack.proofs.StretchLemmas.{answered_allowed}
use Rattle.stair_super.specs.Superblock.{mark_in}
use Rattle.stair_super.specs.declared.mark.Mark.TheVariants as mark
use Rattle.stair_member.specs.Aims.{admitted, aimed}
use Rattle.stair_member.specs.Epochs.{IsGoneOf, IsRefusedBy, IsStanding, IsTaken, StandsOnDisk}
use Rattle.stair_member.specs.Establishing.{Establishes, HasBegun, IsEstablished}
use Rattle.stair_member.specs.Membership.{Membership, IsHere, IsMembership, why_of}
use Rattle.stair_member.specs.RoundSteps.{BeganOut, BrokeOff, DrewOut, IsRefused, Round, StandsWithout, WentOn}
use Rattle.stair_rack.specs.RackState.{RackState}
use Rattle.stair_member.specs.declared.aim.EpochChange.{EpochChange}
use Rattle.stair_member.specs.declared.fault.FenceFault.{FenceFault}
use Rattle.stair_member.specs.declared.why.Why.TheVariants as why
use Rattle.stair_member.proofs.ApartLemmas.{apart_issued}
use Rattle.stair_member.proofs.AttemptLemmas.{Moved, Whole, aimed_here, gone_down, moved}
use Rattle.stair_member.proofs.ChangeLemmas.{IsUp}
use Rattle.stair_member.proofs.RoundLemmas.{HasCome, come_like, drew_of, stands_then}
use Rattle.stair_member.proofs.SafeLemmas.{AreStanding}
use Rattle.stair_member.proofs.SpreadLemmas.{no_slot}
use Rattle.stair_member.proofs.TakingLemmas.{IsNamedFor, named_of, taking, taking_only}
use Rattle.stair_member.proofs.EstablishLemmas.{Attempt, admits_less, aimed_after, aimed_taken, began_after, come_after, dropped_gone, fell_after, gone_after, live_taken, named_after, now_aimed, only, rose_after, single}

pub record Ended (aim : EpochChange) (m0 last : Membership) (gone : Slots) (old new : RackState) : Type 0 where
  pub rules0 : IsMembership m0
  pub honest : old.honest ≡ new.honest
  pub rules : IsMembership last
  pub geometry : last.array.geometry ≡ m0.array.geometry
  pub formed : IsSlotSet gone
  pub below : (j : ℕ) → HasSlot gone j → j < m0.array.geometry.n
  pub dropped : (j : ℕ) → HasSlot gone j → why_of last j ≡ why.Gone
  pub took : (j : ℕ) → HasSlot gone j → IsTaken (admitted aim) m0 j
  pub began : HasBegun aim gone m0 last
  pub fell : (j : ℕ) → j < m0.array.geometry.n → mark_in last.array j ≡ mark.Down → mark_in m0.array j ≢ mark.Down
      → (¬ IsHere m0 j) ⊎ HasSlot gone j
  pub rose : (j : ℕ) → HasSlot gone j → Rose (old.gones j) (new.gones j)
  pub counts : NoneFalls old.bads new.bads old.gones new.gones
  pub told : IsTrue new.honest
      → HasCome (taking aim m0) m0 last (admitted aim) (HasSlot gone) (IsNamedFor aim gone m0) old.history new.history

taken_small : (aim : EpochChange) (m0 : Membership) (j : ℕ) → IsMembership m0 → HasSlot (taking aim m0) j → j < 32
taken_small aim m0 j rules on =
    let most : m0.array.geometry.n ≤ 32 = rules.array.limits.devices.1 in
    elim (taking_only aim m0 j on) [
      | inl here ↦ let below : j < m0.array.geometry.n = here.below in omega (arith, most, below)
      | inr joins ↦ omega (arith, most, joins.1)
    ]

pub ended : (aim : EpochChange) (m0 last : Membership) (gone : Slots) (refusal : Option FenceFault) (old new : RackState) → Ended aim m0 last gone old new
    → (refusal ≡ None → IsEstablished aim m0 last gone)
    → ((fault : FenceFault) → refusal ≡ Some fault → IsRefusedBy last fault × (last.drawn ≡ m0.drawn + slot_count gone))
    → (IsTrue new.honest → refusal ≡ None → StandsOnDisk (admitted aim) last old.history new.history) → Establishes aim m0 last refusal old new
ended aim m0 last gone refusal old new e done refused on_disk = record {
  gone = gone;
  honest = e.honest;
  rules = e.rules;
  geometry = e.geometry;
  were_gone = record {
    formed = e.formed;
    below = e.below;
    rose = e.rose;
    dropped = e.dropped;
    told = λ honest j call answered is. answered_allowed {allowed = IsGoneOf (HasSlot gone)} (e.told honest).told answered is;
    shut = λ honest before j has held places. (e.told honest).shut before j has held places;
  };
  took = e.took;
  done = done;
  refused = refused;
  began = e.began;
  fell = record { cause = e.fell };
  counts = e.counts;
  issued = λ honest.
      let come = e.told honest in
      let far = come.far in
      record {
        slots = taking aim m0;
        taking = taking_only aim m0;
        editions = (e.told honest).editions;
        ran = far.ran;
        each = λ x among.
            let is = far.each x among in record {
              geometry = is.geometry;
              above = is.above;
              most = is.most;
              known = is.known;
              epoch = come.names x among;
              latest = far.latest x among;
            };
        one_list = far.one_list;
        rising = far.rising;
        reserved = far.reserved;
        standing =
            at_every_mapped {P = AreStanding m0 come.editions old.history}
            {Q = λ h. (j : ℕ) → HasSlot (taking aim m0) j → IsSome (slot_state old.history j).size → IsStanding m0 come.editions old.history h j}
            (λ h are j on some. are j (taken_small aim m0 j e.rules0 on) some) far.safely;
        drew = λ less. drew_of (taking aim m0) m0 last (admitted aim) come.editions old.history new.history far less;
        steady = λ j k small some is.
            far.steady.each j k (slot_state old.history j).pulls
            (IsKept-mapped {P = λ s. s ≡ (slot_state old.history j).sector k} {Q = λ s. s.since ≡ []}
            (λ s same. subst (λ (x : Sector). x.since ≡ []) (sym same) is) (IsKept-now old.history j k some));
        apart = apart_issued far.apart;
      };
  among = λ honest none.
      let stands = (done none).stands in
      let above : m0.drawn < last.array.epoch = stands.above in
      (e.told honest).newest (omega (arith, above, stands.epoch)) stands.epoch;
  on_disk = on_disk;
}

pub attempt_refused : (aim0 aim : EpochChange) (m0 m last : Membership) (gone : Slots) (fault : FenceFault) (old now new : RackState)
    → Attempt aim0 aim m0 m gone old now → old.honest ≡ new.honest → now.honest ≡ new.honest → IsRefused m last fault now new → Establishes aim0 m0 last (Some fault) old new
attempt_refused aim0 aim m0 m last gone fault old now new a whole same refused =
    subst (λ (x : Membership). Establishes aim0 m0 x (Some fault) old new) (sym refused.member)
    (ended aim0 m0 m gone (Some fault) old new (record {
      rules0 = a.rules0;
      honest = whole;
      rules = a.rules;
      geometry = a.geometry;
      formed = a.formed;
      below = a.below;
      dropped = a.dropped;
      took = a.took;
      began = a.began;
      fell = a.fell;
      rose = λ j has. subst (λ (g : ℕ → ℕ). Rose (old.gones j) (g j)) (sym refused.gones) (a.rose j has);
      counts =
          subst (λ (g : ℕ → ℕ). NoneFalls old.bads new.bads old.gones g) (sym refused.gones)
          (subst (λ (b : ℕ). NoneFalls old.bads b old.gones now.gones) (sym refused.bads) a.counts);
      told = λ honest.
          subst (HasCome (taking aim0 m0) m0 m (admitted aim0) (HasSlot gone) (IsNamedFor aim0 gone m0) old.history) (sym refused.history) (a.told (same ∙ honest));
    }) (λ none. absurd (cc)) (λ given is. let at : fault ≡ given = cc in (subst (IsRefusedBy m) at refused.cause, a.drawn)) (λ honest none. absurd (cc)))

-- ---- the epoch stands

module _ (aim0 aim : EpochChange) (m0 m last : Membership) (gone : Slots) (old now new : RackState) (a : Attempt aim0 aim m0 m gone old now)
    (round : Round aim m last None now new) (same : now.honest ≡ new.honest) (first : old.honest ≡ new.honest) (rules : IsMembership last) where
  moves_last : Moved aim m last None now new
  moves_last = moved aim m last None now new a.may round

  whole : Whole aim m last
  whole = moves_last.whole refl

  start_geometry : last.array.geometry ≡ m0.array.geometry
  start_geometry = moves_last.geometry ∙ a.geometry

  here_now : (j : ℕ) → j < m0.array.geometry.n → j < m.array.geometry.n
  here_now j below = subst (λ (g : Geometry). j < g.n) (sym a.geometry) below

  established : IsEstablished aim0 m0 last gone
  established = record {
    stands = record {
      geometry = start_geometry;
      above = omega (arith, a.drawn, moves_last.drawn, whole.epoch);
      epoch = whole.epoch;
      marks = λ j below. whole.marks j (here_now j below);
      enough = record {
        slots = whole.few.slots;
        formed = whole.few.formed;
        few = subst (λ (g : Geometry). slot_count whole.few.slots ≤ g.m) a.geometry whole.few.few;
        within = λ j missing.
            let below : j < m.array.geometry.n = subst (λ (g : Geometry). j < g.n) moves_last.geometry missing.below in
            whole.few.within j (record {
              below = below;
              why = λ here.
                  missing.why (whole.whys j below ∙ ap (aimed aim j) here
                  ∙ aimed_here aim j (λ is. a.down j (admits_less aim0 aim m0 m gone old now a j is) here));
            });
      };
    };
    drawn = moves_last.drawn ∙ ap (λ (d : ℕ). d + 1) a.drawn;
    whys = λ j below out. whole.whys j (here_now j below) ∙ now_aimed aim0 aim m0 m gone old now a j below out;
    aimed_at = aimed_after aim0 aim m0 m gone old now a last None new round whole;
  }

  end : Ended aim0 m0 last gone old new
  end = record {
    rules0 = a.rules0;
    honest = first;
    rules = rules;
    geometry = start_geometry;
    formed = a.formed;
    below = a.below;
    dropped = gone_after aim0 aim m0 m gone old now a last None new round;
    took = a.took;
    began = began_after aim0 aim m0 m gone old now a last None new round;
    fell = fell_after aim0 aim m0 m gone old now a last None new round;
    rose = rose_after aim0 aim m0 m gone old now a last None new round;
    counts = NoneFalls-then a.counts moves_last.counts;
    told = λ honest.
        come_like (taking aim0 m0) m0 last last (admitted aim0) (λ j. HasSlot gone j ⊎ (no_slot ≡ Some j)) (HasSlot gone)
        (IsNamedFor aim0 gone m0) (IsNamedFor aim0 gone m0) old.history new.history refl refl refl
        (λ j. (
          λ has. inl has,
          λ is. elim is [ inl has ↦ has | inr never ↦ let clash : no_slot ≡ Some j = never in absurd (cc) ],
        )) (λ c is. is) (come_after aim0 aim m0 m gone old now a last None new round same honest);
  }

  on_disk_then : IsTrue new.honest → StandsOnDisk (admitted aim0) last old.history new.history
  on_disk_then honest =
      let stands = by None refl round in record {
        got = λ j k is which. stands.got j k is (elim which [ inl at ↦ inl at | inr joins ↦ inr (admits_still j joins.0 is, joins.1) ]);
        on_disk = stands.on_disk;
        in_both = λ j k is here small. stands.in_both j k (admits_still j is here) here small;
        synced = stands.synced;
        going = stands.going;
      }
    where
      -- a slot that is here wasn't gone, so the aim still admits it
      admits_still : (j : ℕ) → admitted aim0 ≡ Some j → IsHere last j → admitted aim ≡ Some j
      admits_still j is here =
          elim a.left [
            | inl as_first ↦ ap admitted as_first ∙ is
            | inr away ↦
                absurd (gone_down (why_of last j) (gone_after aim0 aim m0 m gone old now a last None new round j (away.1.admits j is)) here.why)
          ]

      by : (which : Option ℕ) → which ≡ None → Round aim m last which now new → StandsOnDisk (admitted aim) last old.history new.history
      by which none (BrokeOff j is drew) = let clash : None ≡ Some j = sym none ∙ is in absurd (cc)
      by which none (WentOn mid between now_same drew began) =
          stands_then (taking aim0 m0) m0 m (admitted aim0) (HasSlot gone) (IsNamedFor aim0 gone m0) old.history now.history (a.told (same ∙ honest))
          (dropped_gone aim0 m0 gone) (named_of aim0 gone m0 m a.began) a.rules0 a.rules drew.room drew.live
          drew.lives (live_taken aim0 aim m0 m gone old now a) aim mid began.begun last between.history new.history which began.here drew.few
          (drew.told (sym now_same ∙ same ∙ honest)) drew.places began.begins began.begun_rules began.heres
          (here_taken_in mid between which drew began) (began.told honest) began.places (single aim0 aim m0 m gone old now a) (only aim0 aim m0 m gone old now a)
          (begun_named mid between which drew began) none
        where
          begun_named : (mid : Membership) (between : RackState) (which : Option ℕ) (drew : DrewOut m mid None now between)
              (began : BeganOut aim mid last which between new) → IsNamedFor aim0 gone m0 began.begun.array
          begun_named mid between which drew began =
              subst (λ (x : Membership). IsNamedFor aim0 gone m0 x.array) began.places.rest
              (named_after aim0 aim m0 m gone old now a last None new round)

          here_taken_in : (mid : Membership) (between : RackState) (which : Option ℕ) (drew : DrewOut m mid None now between)
              (began : BeganOut aim mid last which between new) (j : ℕ) → IsHere began.begun j → HasSlot (taking aim0 m0) j
          here_taken_in mid between which drew began j here =
              let same_geometry : began.begun.array.geometry ≡ m.array.geometry =
              began.begins.names.geometry ∙ ap (λ (x : Membership). x.array.geometry) drew.places.rest in
              let below : j < m0.array.geometry.n =
              subst (λ (g : Geometry). j < g.n) (same_geometry ∙ a.geometry) here.below in
              let most : m0.array.geometry.n ≤ 32 = a.rules0.array.limits.devices.1 in
              aimed_taken aim0 aim m0 m gone old now a j below
              (subst IsUp (began.begins.whys j (omega (arith, most, below)) ∙ ap (aimed aim j) (ap (λ (x : Membership). why_of x j) drew.places.rest)) here.why)

  pub attempt_ends : StandsWithout aim0 m0 last gone old new
  unfolding ended
  attempt_ends = record {
    establishes = ended aim0 m0 last gone None old new end (λ none. established) (λ fault is. absurd (cc)) (λ honest none. on_disk_then honest);
    gone_are = refl;
  }

-- ---- a slot was gone
