-- All that a session knows is so over a new array.
use Rattle.std.proofs.Common.{◌≡◌, ℕ, ◌-◌, ◌^◌, ◌<◌, ◌≤◌, ◌⊎◌, Option, None, length, inl, inr, refl, sym, ◌∙◌, ap, subst, arith, replicate, Some}
use Rattle.std.specs.Prelude.{IsSome}
use Rattle.std.proofs.lemmas.Bool.{cases_lt, false≢true}
use Rattle.stair_model.specs.Geometry.{Geometry, IsWithinLimits, sectors_needed}
use Rattle.stair_model.specs.Slots.{no_slots}
use Rattle.stair_rack.specs.Crash.{CrashMayLeave}
use Rattle.stair_rack.specs.Media.{Image}
use Rattle.stair_rack.specs.Offline.{IsAttached, IsOffline, NoMedium, RackStopped, Unattached}
use Rattle.stair_rack.specs.Sector.{Cell, Good, MayLeave, Sector, Damaged, TornOverDamage}
use Rattle.stair_rack.proofs.CrashLemmas.{settled_left}
use Rattle.stair_super.specs.Newer.{IsOlder}
use Rattle.stair_super.specs.Spelling.{spelled}
use Rattle.stair_super.specs.Superblock.{Superblock, joined_at, joined_in}
use Rattle.stair_super.specs.declared.configuration.Configuration.{Configuration}
use Rattle.stair_member.specs.Aims.{mark_for}
use Rattle.stair_member.specs.Counting.{AllBut}
use Rattle.stair_member.specs.Epochs.{IsTaken}
use Rattle.stair_member.specs.Fencing.{IsBegun, IsKnownTo}
use Rattle.stair_member.specs.Membership.{place_of}
use Rattle.stair_member.specs.Reserve.{Bears, IsOrderly, BearsFor, MayStand}
use Rattle.stair_member.specs.Superblocks.{Counts, First, HoldsSuper, IsSuperOf, Second, CountsFor, HasSuper, IsOnlyIdentity}
use Rattle.stair_member.specs.declared.why.Why.TheVariants as why
use Rattle.stair_member.proofs.EditionLemmas.{bears_below}
use Rattle.stair_member.proofs.SightLemmas.{place_cases}
use Rattle.stair_member.proofs.SuperLemmas.{counts_bears, holds_once, one_identity, super_held}
use Rattle.stair_invariant.specs.InSession.{HaveReached, IsInSession}
use Rattle.stair_invariant.specs.NewSession.{new_array, new_image, new_member, new_sector, new_super, new_words, opened_rack, new_rack}
use Rattle.stair_invariant.proofs.NewSessionLemmas.{attached_at, joined_new, mark_new, member_new, new_at, new_run, new_serves, none_is_few, place_new, sector_at, size_at, super_spelled, why_new, new_content, new_state, sector_past, stopped_as}
use Rattle.stair_model.specs.Device.{Chunk, cell_sector}
use Rattle.stair_model.proofs.CoverageLaws.{covered_none}
use Rattle.stair_model.proofs.DeviceLaws.{sector_in_range}
use Rattle.stair_model.proofs.RestLaws.{covered_by_chunks}
use Rattle.stair_model.proofs.SetLaws.{HasCell-none, has_slot-none, slot_count_member}
use Rattle.stair_member.specs.Current.{ByOutside, IsCurrent, IsFailed, IsLive, IsLost, LostPlace, NotLive, Offline, Worn}
use Rattle.stair_member.proofs.CountingLemmas.{more_from_all_but}
use Rattle.stair_state.specs.Represents.{Represents}
use Rattle.stair_state.specs.State.{State, created_state, first_content}
use Rattle.stair_state.specs.Tolerance.{IsStripeCovered, IsTolerated, IsWithinTolerance}
use Rattle.stair_invariant.proofs.SessionLemmas.{represents_now}

module _ (g : Geometry) (epoch : ℕ) (limits : IsWithinLimits g) (id : length g.id ≡ 16) (first : 1 ≤ epoch) (short : epoch < 2 ^ 64) where
  -- a superblock of epoch 1 or of this one
  record IsOneOf (j : ℕ) (s : Superblock) : Type 0 where
    pub number : ℕ
    pub most : number ≤ epoch
    pub is : s ≡ new_super g number j

  all_but : (P : ℕ → Type 0) → ((j : ℕ) → j < g.n → P j) → AllBut g.n g.m P
  all_but P each = record { exceptions = no_slots; formed = refl; few = none_is_few g.m; others = λ j below out. each j below }

  first_holds : (j : ℕ) → j < g.n → HoldsSuper (Good (spelled (new_super g 1 j))) (new_super g 1 j)
  first_holds j below =
      record { bytes = spelled (new_super g 1 j); good = refl; spells = super_spelled g 1 limits id (omega arith) (omega arith) j below }

  last_holds : (j : ℕ) → j < g.n → HoldsSuper (Good (spelled (new_super g epoch j))) (new_super g epoch j)
  last_holds j below =
      record { bytes = spelled (new_super g epoch j); good = refl; spells = super_spelled g epoch limits id first short j below }

  module _ (image : Image) (left : CrashMayLeave (opened_rack g epoch) image) where
    left_at : (j k : ℕ) → j < g.n → k < sectors_needed g → (image j).cell k ≡ Good (new_sector g epoch j k)
    left_at j k below needed =
        settled_left (Good (new_sector g epoch j k)) ((image j).cell k)
        (subst (λ (s : Sector). MayLeave s ((image j).cell k)) (sector_at g epoch j k below needed) ((left j).each k))

    -- past the array's slots there is no medium
    left_past : (j k : ℕ) → g.n ≤ j → (image j).cell k ≡ Damaged
    left_past j k past =
        settled_left Damaged ((image j).cell k)
        (subst (λ (s : Sector). MayLeave s ((image j).cell k)) (sector_past g epoch j k past) ((left j).each k))

    at_first : (j : ℕ) → j < g.n → (image j).cell 0 ≡ Good (spelled (new_super g 1 j))
    at_first j below = left_at j 0 below (omega arith)

    at_second : (j : ℕ) → j < g.n → (image j).cell 1 ≡ Good (spelled (new_super g epoch j))
    at_second j below = left_at j 1 below (omega arith)

    held_first : (j : ℕ) (s : Superblock) → j < g.n → HoldsSuper ((image j).cell 0) s → s ≡ new_super g 1 j
    held_first j s below holds =
        holds_once (Good (spelled (new_super g 1 j))) s (new_super g 1 j) (subst (λ (c : Cell). HoldsSuper c s) (at_first j below) holds)
        (first_holds j below)

    held_second : (j : ℕ) (s : Superblock) → j < g.n → HoldsSuper ((image j).cell 1) s → s ≡ new_super g epoch j
    held_second j s below holds =
        holds_once (Good (spelled (new_super g epoch j))) s (new_super g epoch j)
        (subst (λ (c : Cell). HoldsSuper c s) (at_second j below) holds) (last_holds j below)

    second_held : (j : ℕ) → j < g.n → HoldsSuper ((image j).cell 1) (new_super g epoch j)
    second_held j below = subst (λ (c : Cell). HoldsSuper c (new_super g epoch j)) (sym (at_second j below)) (last_holds j below)

    held : (j k : ℕ) (s : Superblock) → j < g.n → k < 2 → HoldsSuper ((image j).cell k) s → IsOneOf j s
    held j k s below place holds =
        elim (place_cases k place) [
          | inl zeroth ↦
              record {
                number = 1;
                most = first;
                is = held_first j s below (subst (λ (p : ℕ). HoldsSuper ((image j).cell p) s) zeroth holds);
              }
          | inr other ↦
              record {
                number = epoch;
                most = omega arith;
                is = held_second j s below (subst (λ (p : ℕ). HoldsSuper ((image j).cell p) s) other holds);
              }
        ]

    borne_below : (j : ℕ) (s : Superblock) → Bears g j ((image j).cell) s → j < g.n
    borne_below j s bears = bears_below g j ((image j).cell) s bears

    borne : (j : ℕ) (s : Superblock) → Bears g j ((image j).cell) s → IsOneOf j s
    borne j s bears = held j bears.place s (borne_below j s bears) bears.place_in bears.holds

    -- what it names
    borne_array : (j : ℕ) (s : Superblock) → Bears g j ((image j).cell) s → s.array ≡ new_array g s.array.epoch
    borne_array j s bears =
        let is = borne j s bears in
        let named : s.array ≡ new_array g is.number = ap (λ (x : Superblock). x.array) is.is in
        named ∙ ap (new_array g) (sym (ap (λ (c : Configuration). c.epoch) named))

    borne_most : (j : ℕ) (s : Superblock) → Bears g j ((image j).cell) s → s.array.epoch ≤ epoch
    borne_most j s bears =
        let is = borne j s bears in
        let number : s.array.epoch ≡ is.number = ap (λ (x : Superblock). x.array.epoch) is.is in
        omega (arith, number, is.most)

    borne_numbers : (i j : ℕ) (s : Superblock) → Bears g i ((image i).cell) s → joined_at s j ≡ joined_in (new_array g epoch) j
    borne_numbers i j s bears = ap (λ (c : Configuration). joined_in c j) (borne_array i s bears)

    -- the superblock of each medium is that of the epoch
    super_is : (j : ℕ) (s : Superblock) → j < g.n → IsSuperOf ((image j).cell) s → s ≡ new_super g epoch j
    super_is j s below (Second holds rest) = held_second j s below holds
    super_is j s below (First holds rest) = is ∙ ap (λ (e : ℕ). new_super g e j) (sym once)
      where
        is : s ≡ new_super g 1 j
        is = held_first j s below holds

        not_older : ¬ IsOlder (new_super g 1 j) (new_super g epoch j)
        not_older = subst (λ (x : Superblock). ¬ IsOlder x (new_super g epoch j)) is (rest (new_super g epoch j) (second_held j below))

        once : epoch ≡ 1
        once = by (cases_lt 1 epoch)
          where
            by : (1 < epoch) ⊎ (epoch ≤ 1) → epoch ≡ 1
            by (inl later) = absurd (not_older (inl later))
            by (inr no_later) = omega (arith, no_later, first)

    counts_is : (j : ℕ) (s : Superblock) → Counts g image j s → s ≡ new_super g epoch j
    counts_is j s counts = super_is j s (borne_below j s (counts_bears g image j s counts)) counts.super

    counts_epoch : (j : ℕ) (s : Superblock) → Counts g image j s → s.array.epoch ≡ epoch
    counts_epoch j s counts = ap (λ (x : Superblock). x.array.epoch) (counts_is j s counts)

    counts_draw : (j : ℕ) (s : Superblock) → Counts g image j s → s.draw ≡ epoch
    counts_draw j s counts = ap (λ (x : Superblock). x.draw) (counts_is j s counts)

    orderly : IsOrderly g image
    orderly = record {
      reserved = all_but _
          (λ j below s counts lost lost' i t bears.
          let drawn : s.draw ≡ epoch = counts_draw j s counts in
          let most : t.array.epoch ≤ epoch = borne_most i t bears in
          omega arith);
      one_list = λ i j a b bears_a bears_b same. borne_array i a bears_a ∙ ap (new_array g) same ∙ sym (borne_array j b bears_b);
      hidden = λ j s newest bears super.
          let is : newest ≡ new_super g epoch j = super_is j newest (borne_below j s bears) super in
          let last : newest.array.epoch ≡ epoch = ap (λ (x : Superblock). x.array.epoch) is in
          let most : s.array.epoch ≤ epoch = borne_most j s bears in (
            record {
              super = super;
              slot = ap (λ (x : Superblock). x.slot) is;
              identity = ap (λ (x : Superblock). x.array.geometry) is;
            },
            omega arith,
          );
      hides = λ j s newest bears super live.
          ap (λ (x : Superblock). x.joined) (borne j s bears).is
          ∙ sym (ap (λ (x : Superblock). x.joined) (super_is j newest (borne_below j s bears) super));
      reached = λ i j a b bears_a bears_b earlier.
          all_but _
          (λ k below s counts lost lost'.
          let last : s.array.epoch ≡ epoch = counts_epoch k s counts in
          let most : a.array.epoch ≤ epoch = borne_most i a bears_a in
          omega arith);
      joined = λ i k j a b bears_a bears_b upto up_a up_b.
          let same : joined_at a j ≡ joined_at b j = borne_numbers i j a bears_a ∙ sym (borne_numbers k j b bears_b) in
          omega arith;
    }

    taken_below : (j : ℕ) → IsTaken None (new_member g epoch) j → j < g.n
    taken_below j (inl here) = here.below
    taken_below j (inr joins) = joins.1

    aside_is : (j : ℕ) (s : Superblock) → j < g.n → HoldsSuper ((image j).cell (1 - place_of (new_member g epoch) j)) s
        → s ≡ new_super g epoch j
    aside_is j s below holds =
        held_second j s below (subst (λ (place : ℕ). HoldsSuper ((image j).cell (1 - place)) s) (place_new g epoch j) holds)

    pub new_known : IsKnownTo None (new_member g epoch) (IsAttached (opened_rack g epoch)) image
    new_known = record {
      orderly = orderly;
      latest = borne_most;
      named = λ j s bears same. borne_array j s bears ∙ ap (new_array g) same;
      drawn = λ j k s taken attached place holds.
          let is = held j k s (taken_below j taken) place holds in
          let draw : s.draw ≡ is.number = ap (λ (x : Superblock). x.draw) is.is in
          omega (arith, draw, is.most);
      aside = λ j s here counts kept kept'.
          subst (λ (place : ℕ). HoldsSuper ((image j).cell (1 - place)) s) (sym (place_new g epoch j))
          (subst (λ (x : Superblock). HoldsSuper ((image j).cell 1) x) (sym (counts_is j s counts)) (second_held j here.below));
      own = λ j s here attached holds.
          ap (λ (x : Superblock). x.joined) (aside_is j s here.below holds) ∙ sym (joined_new g epoch j here.below);
      reserved = all_but _
          (λ j below. (
            (λ never. cc),
            (λ s counts kept kept'. let draw : s.draw ≡ epoch = counts_draw j s counts in omega arith),
          ));
      reached = λ i s bears earlier.
          all_but _
          (λ j below. (
            (λ never. cc),
            (λ t counts kept kept'.
                let last : t.array.epoch ≡ epoch = counts_epoch j t counts in
                let most : s.array.epoch ≤ epoch = borne_most i s bears in
                omega arith),
          ));
      joined = λ i j s bears up_s up_m.
          let same : joined_at s j ≡ joined_in (new_array g epoch) j = borne_numbers i j s bears in
          omega arith;
    }

    pub new_reached : HaveReached (new_member g epoch) image
    new_reached =
        all_but _
        (λ j below. (
          record { below = below; why = inl (why_new g epoch j) },
          (λ s counts kept kept'. let last : s.array.epoch ≡ epoch = counts_epoch j s counts in omega arith),
        ))

    -- WITHIN TOLERANCE

    counts_last : (j : ℕ) → j < g.n → Counts g image j (new_super g epoch j)
    counts_last j below = record { super = by (cases_lt 1 epoch); slot = refl; identity = refl }
      where
        by : (1 < epoch) ⊎ (epoch ≤ 1) → IsSuperOf ((image j).cell) (new_super g epoch j)
        by (inl later) =
            Second (second_held j below)
            (λ other holds.
            subst (λ (x : Superblock). IsOlder x (new_super g epoch j)) (sym (held_first j other below holds)) (inl later))
        by (inr no_later) =
            let once : 1 ≡ epoch = omega (arith, no_later, first) in
            First
            (subst (λ (c : Cell). HoldsSuper c (new_super g epoch j)) (sym (at_first j below))
            (subst (λ (e : ℕ). HoldsSuper (Good (spelled (new_super g 1 j))) (new_super g e j)) once (first_holds j below)))
            (λ other holds older.
            as_old (subst (λ (x : Superblock). IsOlder (new_super g epoch j) x) (held_second j other below holds) older))
          where
            as_old : ¬ IsOlder (new_super g epoch j) (new_super g epoch j)
            as_old (inl less) = omega (arith, less)
            as_old (inr both) = omega (arith, both.1)

    counts_here : (j : ℕ) → j < g.n → CountsFor g image j
    counts_here j below = record { super = new_super g epoch j; counts = counts_last j below }

    -- a slot that holds a superblock is one of the array's
    held_below : (j : ℕ) → HasSuper ((image j).cell) → j < g.n
    held_below j has =
        elim (cases_lt j g.n) [
          | inl below ↦ below
          | inr past ↦ let none : Good has.holds.bytes ≡ Damaged = sym has.holds.good ∙ left_past j has.place past in absurd (cc)
        ]

    only_identity : IsOnlyIdentity g image
    only_identity = record {
      stands = more_from_all_but limits.devices.1 limits.majority (all_but (CountsFor g image) counts_here);
      alone = λ other stands.
          let some = slot_count_member stands.slots (omega (arith, stands.many)) in
          let for : CountsFor other image some.0 = stands.each some.0 some.2 in
          one_identity other g image some.0 for
          (counts_here some.0 (held_below some.0 (super_held ((image some.0).cell) for.super for.counts.super)));
    }

    -- nor would another array stand by hidden superblocks
    no_other : (other : Geometry) → MayStand other image → other ≡ g
    no_other other may =
        let some = slot_count_member may.slots (omega (arith, may.many)) in
        let for : BearsFor other image some.0 = may.each some.0 some.2 in
        let below : some.0 < g.n =
        held_below some.0
        (record { place = for.bears.place; place_in = for.bears.place_in; super = for.super; holds = for.bears.holds }) in
        sym for.bears.identity
        ∙ ap (λ (x : Superblock). x.array.geometry) (held some.0 for.bears.place for.super below for.bears.place_in for.bears.holds).is

    current_is : IsCurrent g image (new_super g epoch 0)
    current_is = record {
      counts = counts_last 0 (omega (arith, limits.devices));
      newest = λ j s counts. inr (counts_epoch j s counts, omega arith);
    }

    live_now : (j : ℕ) → j < g.n → IsLive g image (new_super g epoch 0) j
    live_now j below = record {
      below = below;
      marked = mark_new g epoch j below;
      super = new_super g epoch j;
      counts = counts_last j below;
      joined = sym (joined_new g epoch j below);
    }

    not_lost : (j k : ℕ) → j < g.n → k < sectors_needed g → ¬ IsLost ((image j).cell k)
    not_lost j k below needed (ByOutside damaged) =
        let none : Good (new_sector g epoch j k) ≡ Damaged = sym (left_at j k below needed) ∙ damaged in absurd (cc)
    not_lost j k below needed (Worn torn) =
        let none : Good (new_sector g epoch j k) ≡ TornOverDamage = sym (left_at j k below needed) ∙ torn in absurd (cc)

    module _ (offline : ℕ → Type 0) (online : (j : ℕ) → j < g.n → ¬ offline j) where
      none_failed : (j : ℕ) → ¬ IsFailed offline g image (new_super g epoch 0) j
      none_failed j (NotLive below not) = not (live_now j below)
      none_failed j (LostPlace k below place lost) = not_lost j k below (omega (arith, place)) lost
      none_failed j (Offline below is) = online j below is

      none_erased : (t : ℕ) → t < g.stripes → IsStripeCovered offline g image (new_super g epoch 0) t
      none_erased t t_in = record {
        erased = record { rows = replicate 32 no_slots };
        covered = covered_by_chunks g (record { rows = replicate 32 no_slots })
            (covered_none g (record { rows = replicate 32 no_slots })
            (HasCell-none no_slots (λ j has. false≢true (sym (has_slot-none j) ∙ has))));
        has = λ i j row slot failed.
            absurd
            (elim failed [
              | inl is ↦ none_failed j is
              | inr damaged ↦ not_lost j (cell_sector g t i) slot (sector_in_range g (Chunk t i) limits (t_in, row)) (ByOutside damaged)
            ]);
      }

      pub within_tolerance : IsWithinTolerance offline g image
      within_tolerance = record {
        identity = only_identity;
        others = no_other;
        current = new_super g epoch 0;
        is_current = current_is;
        few = record {
          slots = no_slots;
          formed = refl;
          few = none_is_few g.m;
          within = λ j failed. absurd (none_failed j failed);
        };
        stripes = none_erased;
        journal_slot = 0;
        journal = record {
          serves = record {
            live = live_now 0 (omega (arith, limits.devices));
            places = λ k place. not_lost 0 k (omega (arith, limits.devices)) (omega (arith, place));
            online = online 0 (omega (arith, limits.devices));
          };
          whole = λ k from to. not_lost 0 k (omega (arith, limits.devices)) (omega (arith, to));
        };
      }

  new_begun : IsBegun None (new_member g epoch) (opened_rack g epoch)
  new_begun = record {
    history = record { image = new_image g epoch; ran = new_run g epoch };
    member = member_new g epoch limits id first short;
    settled = λ j k below place. ap (λ (s : Sector). s.since) (sector_at g epoch j k below (omega (arith, place)));
    down = λ j never. cc;
    known = new_known;
  }

  pub in_session : IsInSession (new_member g epoch) (new_words g) (opened_rack g epoch)
  in_session = record {
    begun = new_begun;
    marks = λ j below. mark_new g epoch j below ∙ sym (ap mark_for (why_new g epoch j));
    reached = new_reached;
    own = λ j here.
        inl (
          attached_at g epoch j here.below,
          subst (λ (size : Option ℕ). IsSome size) (sym (size_at g epoch j here.below)) refl,
        );
    live = λ j below is attached.
        new_serves (new_member g epoch) _ (opened_rack g epoch) j below (new_at g epoch limits id first short j below);
    shut = λ j below is attached.
        let never : why.Here ≡ why.Rebuilding = sym (why_new g epoch j) ∙ is in
        absurd (cc);
  }

  -- in that session no slot is offline
  online_now : (j : ℕ) → j < g.n → ¬ IsOffline (new_rack g epoch) (opened_rack g epoch) j
  online_now j below (NoMedium none) =
      let some : ◌≡◌ {A = Option ℕ} (Some (sectors_needed g)) None = sym (size_at g epoch j below) ∙ none in absurd (cc)
  online_now j below (Unattached off pulled) = false≢true (sym off ∙ attached_at g epoch j below)
  online_now j below (RackStopped is) = false≢true (sym (stopped_as (new_rack g epoch) g.n) ∙ is)

  pub tolerated : IsTolerated g (new_rack g epoch) (opened_rack g epoch)
  tolerated image left = within_tolerance image left (IsOffline (new_rack g epoch) (opened_rack g epoch)) online_now

  pub represents_created : Represents (created_state g) (opened_rack g epoch)
  represents_created =
      subst (λ (s : State). Represents s (opened_rack g epoch)) (new_state g epoch)
      (represents_now (new_member g epoch) (new_words g) (opened_rack g epoch) in_session first_content (new_content g epoch limits)
      (new_rack g epoch) tolerated)
