-- THE FIRST FENCE of an opening: at each of its moments whatever a crash leaves, and is within tolerance, represents what the rack
-- represented when the survey began, though the epoch that the survey found need not stand.
use Rattle.std.proofs.Common.{◌≡◌, ℕ, ◌<◌, ◌≤◌, List, [], ◌∷◌, ◌⊎◌, inl, inr, refl, sym, ap, ◌∙◌, subst, arith, Option, None, Some}
use Rattle.std.specs.Prelude.{IsTrue, true}
use Rattle.std.proofs.lemmas.Bool.{cases_lt, false≢true}
use Rattle.stair_model.specs.Device.{gate_sector}
use Rattle.stair_model.specs.Geometry.{Geometry}
use Rattle.stair_model.specs.Slots.{Slots, HasSlot}
use Rattle.stair_rack.specs.History.{Happening, Made, slot_state, stopped}
use Rattle.stair_rack.specs.Media.{Image, has_sector}
use Rattle.stair_rack.specs.Offline.{IsOfflineUntilAttached}
use Rattle.stair_rack.specs.Sector.{Damaged}
use Rattle.stair_rack.proofs.MomentLemmas.{at_moment, moment_between, moment_last, ran_any, ran_join}
use Rattle.stair_rack.proofs.TidyLemmas.{HasSize, history_on, history_tidy, left_past_end, size_on}
use Rattle.stair_rack.specs.Answers.{any_call}
use Rattle.stair_super.specs.Superblock.{Superblock, joined_at, joined_in, mark_in}
use Rattle.stair_super.specs.declared.configuration.Configuration.{Configuration}
use Rattle.stair_super.specs.declared.mark.Mark.{Mark}
use Rattle.stair_super.specs.declared.mark.Mark.TheVariants as mark
use Rattle.stair_super.specs.declared.mark.Mark.TheVariants.{Live}
use Rattle.stair_member.specs.Aims.{mark_for}
use Rattle.stair_member.specs.Asked.{LeavesSectors}
use Rattle.stair_member.specs.Current.{IsCurrent, IsLive, IsRebuilding}
use Rattle.stair_member.specs.Epochs.{AreReserved, IsIssuing, IsTaken}
use Rattle.stair_member.specs.Fencing.{IsCopy, MayBear}
use Rattle.stair_member.specs.Membership.{IsHere, IsMarkedFor, Membership, why_of}
use Rattle.stair_member.specs.Reserve.{Bears, IsOrderly, MayStand}
use Rattle.stair_member.specs.Superblocks.{HoldsSuper, IsOnlyIdentity}
use Rattle.stair_member.specs.declared.why.Why.{Why}
use Rattle.stair_member.specs.declared.why.Why.TheVariants.{Here, Rebuilding}
use Rattle.stair_member.proofs.CountingLemmas.{has_or_not}
use Rattle.stair_member.proofs.EditionLemmas.{Comes, Cut, Harmed, Stayed, Wrote, borne, none_held_there}
use Rattle.stair_member.proofs.SuperLemmas.{counts_bears, one_current}
use Rattle.stair_state.specs.Degraded.{IsDegraded}
use Rattle.stair_state.specs.Forms.{HasGate, IsOpen}
use Rattle.stair_state.specs.Represents.{Encodings, HaveSeats, ImageRepresents, Lesser, OnlyShrinks, RepresentsAlone, Shrinks}
use Rattle.stair_state.specs.State.{State}
use Rattle.stair_state.specs.Surveyed.{Bare, IsOwnOrBare, NamesContent, Own}
use Rattle.stair_state.specs.Tolerance.{IsTolerated, IsToleratedAlone}
use Rattle.stair_state.proofs.AgreeLemmas.{borne_upto}
use Rattle.stair_state.proofs.AloneLemmas.{IsImageTidy}
use Rattle.stair_state.proofs.DegradedLemmas.{again, bears_before, degraded_copies, orderly_before}
use Rattle.stair_state.proofs.FormLemmas.{good_before}
use Rattle.stair_state.proofs.OutsideLemmas.{tolerated_alone}
use Rattle.stair_state.proofs.RestoredLemmas.{live_as_current, only_shrinks}
use Rattle.stair_state.proofs.ToleranceLemmas.{journal_gate}
use Rattle.stair_invariant.specs.Opening.{IsFoundFor}
use Rattle.stair_invariant.specs.Session.{seats_in}
use Rattle.stair_invariant.proofs.CameLemmas.{IsIssuedTo, IsLeftBy, Less, Rewritten, came_behind, copied_again, fence_ran, origin}
use Rattle.stair_invariant.proofs.ChangingLemmas.{live_here}
use Rattle.stair_invariant.proofs.FoundLemmas.{first, first_current, first_live, first_represents, form, large_still, never_pulled}
use Rattle.stair_invariant.proofs.LikeLemmas.{current_like, mark_like}
use Rattle.stair_invariant.proofs.NewerLemmas.{Anew, DropsNone, IsMarkedByReason, IsNamed, IsNewer, Same, joined_of, live_is_here, live_on, marked_live, named, rebuilt_is}
use Rattle.stair_invariant.proofs.OlderImages.{older_represents, older_shrinks}
use Rattle.stair_invariant.proofs.OlderLemmas.{IsOlder, uncut, uncut_alone, uncut_less, uncut_like}
use Rattle.stair_invariant.proofs.OverImageLemmas.{IsPart, seats_over, stands_over}

-- of an image within tolerance from which no loss adds a live slot, if none does from one with more
shrinks_less : (g : Geometry) (was is : Image) → IsDegraded was is → IsToleratedAlone g is → OnlyShrinks g was → OnlyShrinks g is
shrinks_less g was is degraded tolerated shrinks more less from lost lesser alone =
    shrinks more less (inr (by from)) (again was is more degraded lost) lesser alone
  where
    by : (more ≡ is) ⊎ IsToleratedAlone g more → IsToleratedAlone g more
    by (inl same) = subst (IsToleratedAlone g) (sym same) tolerated
    by (inr also) = also

-- the mark of a slot that takes part is that of its reason
taken_marked : (why : Why) (is : Mark) → (why ≡ Here) ⊎ (why ≡ Rebuilding) → IsMarkedFor why is → is ≡ mark_for why
taken_marked Here is up marked = marked
taken_marked Rebuilding is up marked = marked
taken_marked why is (inl same) marked = absurd (cc)
taken_marked why is (inr same) marked = absurd (cc)

module _ {s : State} {m last : Membership} {before old mid h new : List Happening} {gone : Slots} {image : Image}
    (found : IsFoundFor s m before old mid) (goes_on : ¬ IsTrue (stopped h)) (w : IsLeftBy gone m last mid h new image) where
  abbrev g : Geometry
  g = m.array.geometry

  abbrev was : Image
  was = (origin w).was

  abbrev at_first : Image
  at_first = (first found w).was

  -- THE IMAGES THAT IT COMES FROM, of before the survey and of its end

  first_tolerated : IsTolerated m.array.geometry before old
  first_tolerated = found.tolerated old (moment_between found.began found.ran)

  mid_tolerated : IsTolerated m.array.geometry before mid
  mid_tolerated =
      let whole = ran_join {allowed = any_call} found.began (ran_any {allowed = LeavesSectors} found.ran) in
      found.tolerated mid (moment_last whole.more whole.is)

  first_shrinks : OnlyShrinks m.array.geometry (first found w).was
  first_shrinks =
      subst (λ (x : Geometry). OnlyShrinks x at_first) found.geometry (only_shrinks s old at_first found.represents (first found w).left)

  first_orderly : IsOrderly m.array.geometry (first found w).was
  first_orderly =
      subst (λ (x : Geometry). IsOrderly x at_first) found.geometry (found.represents.orderly at_first (first found w).left)

  mid_alone : IsToleratedAlone m.array.geometry (origin w).was
  mid_alone = tolerated_alone g before mid was mid_tolerated (origin w).left

  mid_only : (other : Geometry) → MayStand other (origin w).was → other ≡ m.array.geometry
  mid_only = mid_alone.others

  mid_shrinks : OnlyShrinks m.array.geometry (origin w).was
  mid_shrinks = shrinks_less g at_first was (first found w).degraded mid_alone first_shrinks

  -- what is left of it, and is tolerated, represents the state
  mid_represents : (y : Image) → IsDegraded (origin w).was y → IsToleratedAlone s.geometry y → ImageRepresents s found.represents.encodings y
  mid_represents y less alone =
      found.represents.each y (Lesser at_first (first found w).left (again at_first was y (first found w).degraded less) alone)

  -- MARKS

  marked : IsMarkedByReason m image
  marked j u below bears joined =
      elim (has_or_not w.issued.slots j) [
        | inl on ↦ taken_marked (why_of m j) (mark_in m.array j) (taken (w.issued.taking j on)).why (w.begun.member.marked j below)
        | inr out ↦ found.marked was (origin w).left j u below (by out ((origin w).issued j)) joined
      ]
    where
      taken : IsTaken None m j → IsHere m j
      taken (inl here) = here
      taken (inr joins) = let never : None ≡ Some j = joins.0 in absurd (cc)

      held : ¬ HasSlot w.issued.slots j
          → Comes (HasSlot w.issued.slots) w.issued.editions j ((was j).cell bears.place) ((image j).cell bears.place)
          → HoldsSuper ((was j).cell bears.place) u
      held out (Stayed is) = subst (λ cell. HoldsSuper cell u) is bears.holds
      held out (Harmed is) = absurd (none_held_there ((image j).cell bears.place) u is bears.holds)
      held out (Cut has bad) = absurd (out has)
      held out (Wrote e has among formed is) = absurd (out has)

      by : ¬ HasSlot w.issued.slots j → IsIssuedTo w.issued.slots w.issued.editions j (was j) (image j) → Bears g j ((was j).cell) u
      by out (Less less) = bears_before (degraded_copies less) bears
      by out (Rewritten size places far) = record {
        place = bears.place;
        place_in = bears.place_in;
        holds = held out (places bears.place bears.place_in);
        slot = bears.slot;
        identity = bears.identity;
      }

  -- no slot is dropped early
  drops_none : DropsNone m image
  drops_none i j a t bears later below here bears_t down =
      by (borne None m w.issued.slots r.editions mid h image i a w.begun r.ran w.returned w.left bears)
    where
      r : AreReserved None w.issued.slots w.issued.editions m mid h
      r = at_moment {P = AreReserved None w.issued.slots w.issued.editions m mid} w.issued.reserved w.at

      known : m.array.epoch ≤ m.drawn
      known = w.begun.member.known

      is_here : IsHere m j
      is_here = record { below = below; why = inl here }

      places : (slot_state mid j).attached ≡ true → IsTrue (has_sector (slot_state mid j).size 1)
      places on = from (found.own j is_here)
        where
          from : IsOwnOrBare (slot_state old j) (slot_state mid j) → IsTrue (has_sector (slot_state mid j).size 1)
          from (Bare off bare) = absurd (false≢true (sym off ∙ on))
          from (Own had pulls some) =
              let size : (slot_state mid j).size ≡ (slot_state old j).size =
              elim (size_on {allowed = LeavesSectors} (slot_state old j).pulls (slot_state old j).size j had found.ran (HasSize.Same refl refl)) [
                | HasSize.Same same is ↦ is
                | HasSize.Other less ↦ absurd (omega (arith, less, pulls))
              ] in
              subst (λ (n : Option ℕ). IsTrue (has_sector n 1)) (((first found w).left j).size ∙ sym size)
              ((first_represents found w).full j (first_live found w j below here) 1 (omega arith))

      offline : IsOfflineUntilAttached old h j → ⊥
      offline (IsOfflineUntilAttached.Unattached off pulled) = never_pulled found w j t is_here bears_t pulled
      offline (IsOfflineUntilAttached.RackStopped stops) = goes_on stops

      by : MayBear g mid i a ⊎ IsCopy w.issued.slots r.editions i a → ⊥
      by (inl had) =
          let most : a.array.epoch ≤ m.array.epoch = (w.begun.known had.image had.left).latest i a had.bears in
          omega (arith, most, known, later)
      by (inr copy) =
          let array : a.array ≡ copy.edition.array = ap (λ (b : Superblock). b.array) copy.is in
          let above : m.drawn < copy.edition.array.epoch = subst (λ (c : Configuration). m.drawn < c.epoch) array later in
          offline
          (r.left_out copy.edition j copy.among
          (record {
            is_new = omega (arith, above, known);
            taken = inl is_here;
            down = subst (λ (c : Configuration). mark_in c j ≡ mark.Down) array down;
          }) old (found.held j is_here) places)

  -- WHERE THE EPOCH IS THE MEMBER'S OR A LATER ONE

  newer_represents : {x : Image} → IsNewer m image x → ImageRepresents s found.represents.encodings x
  newer_represents {x} n = record {
    identity = subst (λ (y : Geometry). IsOnlyIdentity y x) (sym found.geometry) n.alone.identity;
    current = n.alone.current;
    is_current = subst (λ (y : Geometry). IsCurrent y x n.alone.current) (sym found.geometry) n.alone.is_current;
    full = λ j live.
        let on = to_g j live in
        large_still found w x n.degraded j on.super on.below (live_is_here w n marked j on) (counts_bears g x j on.super on.counts);
    form =
        form found w x n.degraded (IsLive s.geometry x n.alone.current)
        (λ j live. ((to_g j live).below, live_is_here w n marked j (to_g j live))) gate;
    rebuilding = λ j redo rebuilt opened.
        let is : IsRebuilding g x n.alone.current j = subst (λ (y : Geometry). IsRebuilding y x n.alone.current j) found.geometry rebuilt in
        let open_g : IsOpen g x j redo = subst (λ (y : Geometry). IsOpen y x j redo) found.geometry opened in
        (found.rebuilding j is.below (rebuilt_is w n marked j is)).closed was (origin w).left redo
        (record { good = good_before (behind j) open_g.good; formed = open_g.formed });
    frozen = (content (named w n)).frozen;
    label = (content (named w n)).label;
  }
    where
      to_g : (j : ℕ) → IsLive s.geometry x n.alone.current j → IsLive g x n.alone.current j
      to_g j live = subst (λ (y : Geometry). IsLive y x n.alone.current j) found.geometry live

      behind : (j : ℕ) → ((x j).cell gate_sector ≡ (was j).cell gate_sector) ⊎ ((x j).cell gate_sector ≡ Damaged)
      behind j =
          copied_again (came_behind w.issued.slots w.issued.editions j (was j) (image j) ((origin w).issued j) gate_sector (omega arith))
          (degraded_copies (n.degraded j) gate_sector)

      gate : HasGate (IsLive s.geometry x n.alone.current) x
      gate = record {
        slot = n.alone.journal_slot;
        among = subst (λ (y : Geometry). IsLive y x n.alone.current n.alone.journal_slot) (sym found.geometry) n.alone.journal.serves.live;
        kept = journal_gate (λ j. (x j).size ≡ None) g x n.alone.current n.alone.journal_slot n.alone.journal;
      }

      content : IsNamed gone m n.alone.current.array → NamesContent s n.alone.current.array
      content (Same is) = subst (NamesContent s) (sym is) found.content
      content (Anew later of) = record {
        frozen = elim found.content.frozen [ inl is ↦ inl (of.frozen ∙ is) | inr is ↦ inr (of.frozen ∙ is) ];
        label = elim found.content.label [ inl is ↦ inl (of.label ∙ is) | inr is ↦ inr (of.label ∙ is) ];
      }

  -- WHERE IT IS AN EARLIER ONE: the member's epoch marks Live what is live, with the same joined number

  module _ {x : Image} (o : IsOlder m image x) (j : ℕ) (live : IsLive m.array.geometry x o.alone.current j) where
    abbrev IsLiveSo : Type 0
    IsLiveSo = (mark_in m.array j ≡ Live) × (joined_at o.alone.current j ≡ joined_in m.array j)

    -- by an image before whose current superblock names what the member says
    by_image : (y : Image) → IsOrderly m.array.geometry y → OnlyShrinks m.array.geometry y
        → ((other : Geometry) → MayStand other y → other ≡ m.array.geometry) → (current : Superblock) → IsCurrent m.array.geometry y current
        → current.array ≡ m.array → IsDegraded y (uncut w o) → IsLiveSo
    by_image y orderly shrinks only current is_current names less =
        let epoch : current.array.epoch ≡ m.array.epoch = ap (λ (a : Configuration). a.epoch) names in
        let older : o.alone.current.array.epoch < m.array.epoch = o.older in
        let is =
        live_as_current g y (uncut w o) current o.alone.current orderly shrinks only less (uncut_alone w o mid_only) is_current
        (current_like x (uncut w o) (uncut_like w o) g o.alone.current o.alone.is_current) (omega (arith, epoch, older)) j
        (mark_like x (uncut w o) (uncut_like w o) g o.alone.current Live j live) in (
          ap (λ (a : Configuration). mark_in a j) (sym names) ∙ is.0,
          is.1 ∙ ap (λ (a : Configuration). joined_in a j) names,
        )

    live_so : IsLiveSo
    live_so =
        elim found.named [
          | inl names ↦
              by_image at_first first_orderly first_shrinks (first_tolerated at_first (first found w).left).others
              (first_represents found w).current (first_current found w)
              (names at_first (first found w).left (first_represents found w).current (first_current found w))
              (again at_first was (uncut w o) (first found w).degraded (uncut_less w o))
          | inr names ↦
              by_image was (orderly_before g at_first was (first found w).degraded first_orderly) mid_shrinks mid_only mid_alone.current
              mid_alone.is_current (names was (origin w).left mid_alone.current mid_alone.is_current) (uncut_less w o)
        ]

    older_here : why_of m j ≡ Here
    older_here =
        live_here (why_of m j)
        (sym
        (marked j live.super live.below (bears_before (degraded_copies (o.degraded j)) (counts_bears g x j live.super live.counts))
        (live.joined ∙ live_so.1)) ∙ live_so.0)

  -- BOTH KINDS

  -- a slot that is live in it is so to the member
  pub live_stays : (x : Image) (of : IsPart m.array.geometry image x) (j : ℕ) → IsLive m.array.geometry x of.alone.current j → why_of m j ≡ Here
  live_stays x of j live =
      elim (cases_lt of.alone.current.array.epoch m.array.epoch) [
        | inl older ↦ older_here (record { degraded = of.degraded; alone = of.alone; older = older }) j live
        | inr newer ↦ live_is_here w (record { degraded = of.degraded; alone = of.alone; newer = newer }) marked j live
      ]

  represents : (x : Image) → IsPart m.array.geometry image x → ImageRepresents s found.represents.encodings x
  represents x of =
      elim (cases_lt of.alone.current.array.epoch m.array.epoch) [
        | inl older ↦
            older_represents w mid_only s found.represents.encodings found.geometry mid_represents
            (record { degraded = of.degraded; alone = of.alone; older = older })
        | inr newer ↦ newer_represents (record { degraded = of.degraded; alone = of.alone; newer = newer })
      ]

  -- less of an image bears no later epoch
  epoch_upto : (more less : Image) (of : IsPart m.array.geometry image more) (to : IsPart m.array.geometry image less) → IsDegraded more less
      → to.alone.current.array.epoch ≤ of.alone.current.array.epoch
  epoch_upto more less of to lesser =
      borne_upto g more of.alone.current to.alone.current.slot to.alone.current (orderly_before g image more of.degraded w.orderly) of.alone.is_current
      (bears_before (degraded_copies (lesser to.alone.current.slot))
      (counts_bears g less to.alone.current.slot to.alone.current to.alone.is_current.counts))

  -- a loss of media only takes slots away
  live_before : (more less : Image) (of : IsPart m.array.geometry image more) (to : IsPart m.array.geometry image less) → IsDegraded more less → (j : ℕ)
      → IsLive m.array.geometry less to.alone.current j → IsLive m.array.geometry more of.alone.current j
  live_before more less of to lesser j live =
      elim (cases_lt of.alone.current.array.epoch m.array.epoch) [
        | inl older ↦
            let upto : to.alone.current.array.epoch ≤ of.alone.current.array.epoch = epoch_upto more less of to lesser in
            older_shrinks w mid_only mid_shrinks (record { degraded = of.degraded; alone = of.alone; older = older })
            (record { degraded = to.degraded; alone = to.alone; older = omega (arith, older, upto) }) lesser j live
        | inr newer ↦
            let n : IsNewer m image more = record { degraded = of.degraded; alone = of.alone; newer = newer } in
            elim (cases_lt to.alone.current.array.epoch m.array.epoch) [
              | inl older ↦
                  let o : IsOlder m image less = record { degraded = to.degraded; alone = to.alone; older = older } in
                  let so = live_so o j live in
                  live_on w n drops_none less lesser to.alone.current j live (older_here o j live) so.1 so.0
              | inr newer_too ↦
                  let n_less : IsNewer m image less = record { degraded = to.degraded; alone = to.alone; newer = newer_too } in
                  live_on w n drops_none less lesser to.alone.current j live (live_is_here w n_less marked j live) (joined_of w n_less marked j live)
                  (marked_live w n_less marked j live)
            ]
      ]

  -- WHAT A RACK OVER THE IMAGE REPRESENTS, with the seats of the current superblock

  module _ (tolerated : IsToleratedAlone m.array.geometry image) where
    abbrev with_seats : State
    with_seats = record s { seats = Some (seats_in tolerated.current.array) }

    encodings : Encodings with_seats
    encodings = record {
      old = found.represents.encodings.old;
      new = found.represents.encodings.new;
      old_are = found.represents.encodings.old_are;
      new_are = found.represents.encodings.new_are;
    }

    image_with_seats : (x : Image) → ImageRepresents s found.represents.encodings x → ImageRepresents with_seats encodings x
    unfolding encodings
    image_with_seats x is = record {
      identity = is.identity;
      current = is.current;
      is_current = is.is_current;
      full = is.full;
      form = is.form;
      rebuilding = is.rebuilding;
      frozen = is.frozen;
      label = is.label;
    }

    tidy : IsImageTidy image
    tidy =
        left_past_end h
        (history_tidy (history_on {allowed = IsIssuing w.issued.slots w.issued.editions} w.begun.history (fence_ran w))) image w.left

    part_g : (x : Image) → IsPart s.geometry image x → IsPart m.array.geometry image x
    part_g x of = subst (λ (y : Geometry). IsPart y image x) found.geometry of

    shrinks : (more less : Image) → IsPart s.geometry image more → IsPart s.geometry image less → IsDegraded more less → Shrinks s.geometry more less
    shrinks more less at also lesser =
        subst (λ (y : Geometry). Shrinks y more less) (sym found.geometry) (in_g (part_g more at) (part_g less also))
      where
        in_g : IsPart g image more → IsPart g image less → Shrinks g more less
        in_g of to first second j is_first is_second live =
            subst (λ (t : Superblock). IsLive g more t j) (one_current g more of.alone.current first of.alone.is_current is_first)
            (live_before more less of to lesser j
            (subst (λ (t : Superblock). IsLive g less t j) (one_current g less second to.alone.current is_second to.alone.is_current) live))

    pub first_fence : RepresentsAlone (record s { seats = Some (seats_in tolerated.current.array) }) image
    first_fence =
        stands_over with_seats encodings image tidy (subst (λ (y : Geometry). IsToleratedAlone y image) (sym found.geometry) tolerated)
        (subst (λ (y : Geometry). IsOrderly y image) (sym found.geometry) w.orderly)
        (subst (λ (y : Geometry). HaveSeats (Some (seats_in tolerated.current.array)) y (Made image ∷ [])) (sym found.geometry)
        (seats_over g image tidy tolerated)) (λ x of. image_with_seats x (represents x (part_g x of))) shrinks
