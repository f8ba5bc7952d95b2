-- After an epoch that stands the next call begins as the last one did.
use Rattle.std.proofs.Common.{◌≡◌, ◌≢◌, ℕ, ◌-◌, ◌<◌, ◌≤◌, List, [], inl, inr, refl, sym, ap, ◌∙◌, subst, arith, ◌⊎◌, Option, Some}
use Rattle.std.specs.Prelude.{Contains, IsTrue, false, true, not}
use Rattle.std.proofs.lemmas.Bool.{cases_Bool, cases_eq, cond-false, false≢true, ne_eqb}
use Rattle.stair_model.specs.Geometry.{Geometry}
use Rattle.stair_model.specs.Slots.{Slots}
use Rattle.stair_rack.specs.Crash.{CrashMayLeave, image_now}
use Rattle.stair_rack.specs.History.{Happening, SlotState, slot_state, stopped}
use Rattle.stair_rack.specs.Media.{Image}
use Rattle.stair_rack.specs.Moments.{IsMoment}
use Rattle.stair_rack.specs.Offline.{IsAttached, IsKept, Here, Lost}
use Rattle.stair_rack.specs.Sector.{Damaged, Good, MayLeave, Sector, settled}
use Rattle.stair_rack.proofs.CrashLemmas.{settled_left}
use Rattle.stair_rack.proofs.MomentLemmas.{at_last, moment_last, ran_before}
use Rattle.stair_rack.proofs.OfflineLemmas.{and-true_left}
use Rattle.stair_rack.proofs.TidyLemmas.{history_on, history_tidy}
use Rattle.stair_super.specs.Spelling.{spelled}
use Rattle.stair_super.specs.Superblock.{Superblock, joined_at, joined_in, mark_at, mark_in}
use Rattle.stair_super.specs.declared.configuration.Configuration.{Configuration}
use Rattle.stair_super.specs.declared.mark.Mark.TheVariants.{Down}
use Rattle.stair_member.specs.Aims.{admitted, aimed, mark_for}
use Rattle.stair_member.specs.Counting.{AtMost, AllBut}
use Rattle.stair_member.specs.Current.{HasMark}
use Rattle.stair_member.specs.Editions.{Edition, copy_of, edition_of}
use Rattle.stair_member.specs.Epochs.{AreReserved, IsIssuing, IsTaken}
use Rattle.stair_member.specs.Fencing.{HasDrawn, HasStood, IsBegun, IsKnownTo, MayJoin}
use Rattle.stair_member.specs.Membership.{Membership, IsHere, IsMissing, place_of, why_of}
use Rattle.stair_member.specs.Reserve.{Bears, HasReached, IsOrderly}
use Rattle.stair_member.specs.Superblocks.{HoldsSuper, Counts, First, IsSuperOf, Second}
use Rattle.stair_member.specs.declared.aim.EpochChange.{EpochChange}
use Rattle.stair_member.specs.declared.aim.EpochChange.TheVariants as aims
use Rattle.stair_member.specs.declared.why.Why.{Why}
use Rattle.stair_member.specs.declared.why.Why.TheVariants as why
use Rattle.stair_member.proofs.AttemptLemmas.{gone_down}
use Rattle.stair_member.proofs.ChangeLemmas.{mark_for_cases}
use Rattle.stair_member.proofs.CountingLemmas.{all_but_mapped, has_or_not}
use Rattle.stair_member.proofs.EditionLemmas.{IsOf, Entry, Issue, IsWritable, SameMedium, NothingThere, Same, Bare, held_of, holds_copy, none_held_there, slot_is, unattached_on}
use Rattle.stair_member.proofs.DecisionLemmas.{super_decided}
use Rattle.stair_member.proofs.FencingLemmas.{IsWhole, comes, from, known}
use Rattle.stair_member.proofs.NewestLemmas.{IsNoOlder, places_whole, super_no_older}
use Rattle.stair_member.proofs.NumberLemmas.{IsNamed, block_named, joined_most, number_from, number_rises}
use Rattle.stair_member.proofs.OrderLemmas.{orderly}
use Rattle.stair_member.proofs.StoodLemmas.{all_here, formed_here, last_place, named, no_entry}
use Rattle.stair_member.proofs.SuperLemmas.{counts_bears, holds_once, super_formed, super_held}

-- ---- reasons

abbrev IsUp : Why → Type 0
IsUp w = (w ≡ why.Here) ⊎ (w ≡ why.Rebuilding)

-- what is to be here was so, or is admitted or promoted
was_up : (aim : EpochChange) (j : ℕ) (w : Why) → IsUp (aimed aim j w) → IsUp w ⊎ ((admitted aim ≡ Some j) ⊎ (aim ≡ aims.Promote j))
was_up aims.Fence j w up = inl up
was_up (aims.Admit slot) j w up =
    elim (cases_eq j slot) [
      | inl same ↦ inr (inl (ap (λ (k : ℕ). Some k) (sym same)))
      | inr other ↦ inl (subst IsUp (cond-false _ _ _ (ne_eqb j slot other)) up)
    ]
was_up (aims.Promote slot) j w up =
    elim (cases_eq j slot) [
      | inl same ↦ inr (inr (ap (λ (k : ℕ). aims.Promote k) (sym same)))
      | inr other ↦ inl (subst IsUp (cond-false _ _ _ (ne_eqb j slot other)) up)
    ]
was_up (aims.Stamp frozen label) j w up = inl up

module _ (aim : EpochChange) (gone : Slots) (m last : Membership) (old new : List Happening) (st : HasStood aim gone m last old new) where
  end : IsMoment old new new
  end = moment_last st.fencing.issued.ran.more st.fencing.issued.ran.is

  last_is : IsNamed last.array
  last_is = record { rules = st.member.array; marks = st.member.sizes.marks }

  -- what is here was so when the call began, or was to be admitted
  pub stayed : (j : ℕ) → IsHere last j → IsTaken (admitted aim) m j
  stayed j here =
      let below : j < m.array.geometry.n = subst (λ (g : Geometry). j < g.n) st.established.stands.geometry here.below in
      elim (has_or_not gone j) [
        | inl has ↦ absurd (gone_down (why_of last j) (st.dropped j has) here.why)
        | inr not_gone ↦
            elim (was_up aim j (why_of m j) (subst IsUp (st.established.whys j below not_gone) here.why)) [
              | inl was ↦ inl (record { below = below; why = was })
              | inr more ↦ elim more [ inl joins_now ↦ inr (joins_now, below) | inr promotes ↦ inl (st.promoted j promotes) ]
            ]
      ]

  -- NOTHING IS UNSYNCED

  settled_kept : (pulls k : ℕ) (b : SlotState) → b.pulls ≡ pulls → IsKept pulls k (λ s. s.since ≡ []) b → (b.sector k).since ≡ []
  settled_kept pulls k b same (Here _ some (inl is)) = ap (λ (s : Sector). s.since) is
  settled_kept pulls k b same (Here _ some (inr none)) = none
  settled_kept pulls k b same (Lost less) = absurd (omega arith)

  all_settled : ¬ IsTrue (stopped new) → (j k : ℕ) → j < last.array.geometry.n → k < 2 → ((slot_state new j).sector k).since ≡ []
  all_settled goes_on j k below lt =
      let before : j < m.array.geometry.n = subst (λ (g : Geometry). j < g.n) st.established.stands.geometry below in
      elim
      (slot_is st.fencing.issued.slots st.fencing.issued.editions old new j (history_tidy st.fencing.begun.history)
      (λ i i_in. st.fencing.begun.settled j i before i_in) st.fencing.issued.ran st.fencing.returned) [
        | Same was same some each ↦
            elim (st.fencing.issued.steady j k lt was (st.fencing.begun.settled j k before lt)) [
              | inl kept ↦ settled_kept (slot_state old j).pulls k (slot_state new j) same kept
              | inr is ↦ absurd (goes_on is)
            ]
        | Bare off bare ↦ ap (λ (s : Sector). s.since) (bare k)
      ]

  -- a slot that is here got its superblock, so it was attached when the call began
  was_attached : (j : ℕ) → IsHere last j → IsAttached old j
  was_attached j here =
      let got = st.on_disk.got j (1 - place_of last j) here (inl refl) in
      elim (cases_Bool (slot_state old j).attached) [
        | inl on ↦ on
        | inr off ↦
            let still : (slot_state got.moment j).attached ≡ false =
            unattached_on st.fencing.issued.slots st.fencing.issued.editions j
            (ran_before {allowed = IsIssuing st.fencing.issued.slots st.fencing.issued.editions} st.fencing.issued.ran got.is_one) off in
            let on : (slot_state got.moment j).attached ≡ true =
            and-true_left (slot_state got.moment j).attached (not (stopped got.moment)) got.ready in
            absurd (false≢true (sym still ∙ on))
      ]

  -- IMAGES

  module _ (image : Image) (left : CrashMayLeave new image) (r : AreReserved (admitted aim) st.fencing.issued.slots st.fencing.issued.editions m old new) where
    to_m : (j : ℕ) (s : Superblock) → Bears last.array.geometry j ((image j).cell) s → Bears m.array.geometry j ((image j).cell) s
    to_m j s bears = subst (λ g. Bears g j ((image j).cell) s) st.established.stands.geometry bears

    counts_m : (j : ℕ) (s : Superblock) → Counts last.array.geometry image j s → Counts m.array.geometry image j s
    counts_m j s counts = subst (λ g. Counts g image j s) st.established.stands.geometry counts

    entry : (j : ℕ) (s : Superblock) → (bears : Bears m.array.geometry j ((image j).cell) s) → HoldsSuper ((image_now old j).cell bears.place) s
        → Bears m.array.geometry j ((image_now old j).cell) s
    entry j s bears was = record { place = bears.place; place_in = bears.place_in; holds = was; slot = bears.slot; identity = bears.identity }

    origin : (j : ℕ) (s : Superblock) → (bears : Bears m.array.geometry j ((image j).cell) s)
        → IsOf (IsWritable st.fencing.issued.slots old) r.editions j ((image_now old j).cell bears.place) s
    origin = from aim gone m last old new new st.fencing image left r

    -- no edition is of a later epoch
    edition_most : (e : Edition) → Contains r.editions e → e.array.epoch ≤ last.array.epoch
    edition_most e among =
        let issued = st.fencing.issued.each e (r.within e among) in
        let most : e.draw ≤ last.drawn = issued.most in
        let within : e.array.epoch ≤ e.draw = issued.known in
        let drawn : last.array.epoch ≡ last.drawn = st.established.stands.epoch in
        omega arith

    -- and one of the last epoch names what it has
    edition_last : (e : Edition) → Contains r.editions e → last.array.epoch ≤ e.array.epoch → e.array ≡ last.array
    edition_last e among least =
        let most : e.array.epoch ≤ last.array.epoch = edition_most e among in
        st.fencing.issued.one_list e (edition_of last) (r.within e among) st.among (omega arith)

    -- so a copy that is no older than the last one is that one
    last_copy : (j : ℕ) (s : Superblock) → IsNoOlder s (copy_of (edition_of last) j) → (e : Edition) → Contains r.editions e → s ≡ copy_of e j
        → s ≡ copy_of (edition_of last) j
    last_copy j s newer e among is =
        let at_least : last.drawn ≤ s.draw = newer.draws in
        let draw : s.draw ≡ e.draw = ap (λ (t : Superblock). t.draw) is in
        let most : e.draw ≤ last.drawn = (st.fencing.issued.each e (r.within e among)).most in
        let from_last : last.array.epoch ≤ s.array.epoch = newer.epochs (omega arith) in
        let epoch : s.array.epoch ≡ e.array.epoch = ap (λ (t : Superblock). t.array.epoch) is in
        let array : e.array ≡ last.array = edition_last e among (omega arith) in
        let draws : e.draw ≡ last.drawn = omega arith in
        is ∙ ap (λ (x : Edition). copy_of x j) (λ i. record { array = array i; draw = draws i })

    latest : (j : ℕ) (s : Superblock) → Bears last.array.geometry j ((image j).cell) s → s.array.epoch ≤ last.array.epoch
    latest j s bears =
        elim (origin j s (to_m j s bears)) [
          | Entry was ↦
              let most : s.array.epoch ≤ m.array.epoch = (known st.fencing).latest j s (entry j s (to_m j s bears) was) in
              let within : m.array.epoch ≤ m.drawn = st.fencing.begun.member.known in
              let above : m.drawn < last.array.epoch = st.established.stands.above in
              omega arith
          | Issue e has among formed is ↦
              let most : e.array.epoch ≤ last.array.epoch = edition_most e among in
              let same : s.array.epoch ≡ e.array.epoch = ap (λ (t : Superblock). t.array.epoch) is in
              omega arith
        ]

    -- one of the last epoch is a copy of it
    last_named : (j : ℕ) (s : Superblock) → Bears m.array.geometry j ((image j).cell) s → last.array.epoch ≤ s.array.epoch → s.array ≡ last.array
    last_named j s bears least =
        elim (origin j s bears) [
          | Entry was ↦
              absurd (no_entry aim gone m last old new st.fencing st.member st.established.stands image left r s j (entry j s bears was) least)
          | Issue e has among formed is ↦
              let array : s.array ≡ e.array = ap (λ (t : Superblock). t.array) is in
              let same : s.array.epoch ≡ e.array.epoch = ap (λ (c : Configuration). c.epoch) array in
              array ∙ edition_last e among (omega arith)
        ]

    drawn_at : (j k : ℕ) (s : Superblock) → k < 2 → IsTaken (admitted aim) m j → IsAttached old j → HoldsSuper ((image j).cell k) s
        → IsOf (IsWritable st.fencing.issued.slots old) r.editions j ((image_now old j).cell k) s → s.draw ≤ last.drawn
    drawn_at j k s lt taken on holds (Entry was) =
        let most : s.draw ≤ m.drawn = (known st.fencing).drawn j k s taken on lt was in
        let above : m.drawn < last.array.epoch = st.established.stands.above in
        let drawn : last.array.epoch ≡ last.drawn = st.established.stands.epoch in
        omega arith
    drawn_at j k s lt taken on holds (Issue e has among formed is) =
        let most : e.draw ≤ last.drawn = (st.fencing.issued.each e (r.within e among)).most in
        let same : s.draw ≡ e.draw = ap (λ (t : Superblock). t.draw) is in
        omega arith

    -- a slot that is here, and no place of which is lost
    module _ (j : ℕ) (here : IsHere last j) (s : Superblock) (counts : Counts last.array.geometry image j s) (whole : IsWhole ((image j).cell)) where
      below : j < m.array.geometry.n
      below = subst (λ (g : Geometry). j < g.n) st.established.stands.geometry here.below

      least : last.array.epoch ≤ s.array.epoch
      least =
          named aim gone m last old new st.fencing st.member st.established.stands image left r j below here.why whole (st.on_disk.on_disk j here) s
          (counts_m j s counts)

      has_drawn : last.array.epoch ≤ s.draw
      has_drawn =
          let within : s.array.epoch ≤ s.draw = (super_formed ((image j).cell) s counts.super).rules.drawn in
          let from_last : last.array.epoch ≤ s.array.epoch = least in
          omega arith

      -- its superblock is the last one
      holds_last : HoldsSuper ((image j).cell (1 - place_of last j)) (copy_of (edition_of last) j)
      holds_last =
          last_place aim gone m last old new st.fencing st.member st.established.stands image left r j below here.why whole (st.on_disk.on_disk j here)

      super_last : IsOf (IsWritable st.fencing.issued.slots old) r.editions j
          ((image_now old j).cell (counts_bears m.array.geometry image j s (counts_m j s counts)).place) s
          → s ≡ copy_of (edition_of last) j
      super_last (Entry was) =
          absurd
          (no_entry aim gone m last old new st.fencing st.member st.established.stands image left r s j
          (entry j s (counts_bears m.array.geometry image j s (counts_m j s counts)) was) least)
      super_last (Issue e has among formed is) =
          last_copy j s
          (super_no_older ((image j).cell) s (copy_of (edition_of last) j) (1 - place_of last j) (omega arith) counts.super holds_last) e among is

      aside : HoldsSuper ((image j).cell (1 - place_of last j)) s
      aside =
          subst (λ (t : Superblock). HoldsSuper ((image j).cell (1 - place_of last j)) t)
          (sym (super_last (origin j s (counts_bears m.array.geometry image j s (counts_m j s counts))))) holds_last

    -- what lies aside of a slot that is here is its superblock of the last epoch
    own : (j : ℕ) (s : Superblock) → IsHere last j → HoldsSuper ((image j).cell (1 - place_of last j)) s → s.joined ≡ joined_in last.array j
    own j s here holds =
        elim (comes aim gone m last old new new st.fencing image left r j below) [
          | NothingThere none ↦ absurd (none_held_there ((image j).cell (1 - place_of last j)) s (none (1 - place_of last j)) holds)
          | SameMedium same each ↦ by same (st.on_disk.on_disk j here)
        ]
      where
        below : j < m.array.geometry.n
        below = subst (λ (g : Geometry). j < g.n) st.established.stands.geometry here.below

        left_of : (x : Sector) → (slot_state new j).sector (1 - place_of last j) ≡ x → MayLeave x ((image j).cell (1 - place_of last j))
        left_of x is = subst (λ (y : Sector). MayLeave y ((image j).cell (1 - place_of last j))) is ((left j).each (1 - place_of last j))

        by : (slot_state new j).pulls ≡ (slot_state old j).pulls
            → IsKept (slot_state old j).pulls (1 - place_of last j) (λ (x : Sector). x ≡ settled (Good (spelled (copy_of (edition_of last) j)))) (slot_state new j)
            → s.joined ≡ joined_in last.array j
        by same (Here at some (inl harmed)) =
            absurd
            (none_held_there ((image j).cell (1 - place_of last j)) s
            (settled_left Damaged ((image j).cell (1 - place_of last j)) (left_of (settled Damaged) harmed)) holds)
        by same (Here at some (inr is)) =
            ap (λ (t : Superblock). t.joined)
            (holds_once ((image j).cell (1 - place_of last j)) s (copy_of (edition_of last) j) holds
            (holds_copy ((image j).cell (1 - place_of last j)) (edition_of last) j
            (formed_here m last j st.member st.established.stands below here.why)
            (settled_left (Good (spelled (copy_of (edition_of last) j))) ((image j).cell (1 - place_of last j))
            (left_of (settled (Good (spelled (copy_of (edition_of last) j)))) is))))
        by same (Lost less) = absurd (omega (arith, same, less))

    here_from : (j : ℕ) → j < last.array.geometry.n → why_of last j ≡ why.Here → IsHere last j
    here_from j within is = record { below = within; why = inl is }

    here_but_m : AllBut last.array.geometry.n last.array.geometry.m (λ j. why_of last j ≡ why.Here)
    here_but_m = all_here last.array.geometry last refl (subst (λ (g : Geometry). AtMost g.m (IsMissing last)) (sym st.established.stands.geometry) st.established.stands.enough)

    -- each slot that is here has reached the last epoch
    pub here_reached : (j : ℕ) → IsHere last j → HasReached last.array.geometry image last.array.epoch j
    here_reached j here s counts first second = least j here s counts (places_whole ((image j).cell) first second)

    -- and all but m are live
    pub all_reached : AllBut last.array.geometry.n last.array.geometry.m
        (λ j. (why_of last j ≡ why.Here) × HasReached last.array.geometry image last.array.epoch j)
    all_reached =
        all_but_mapped {P = λ j. why_of last j ≡ why.Here} {Q = λ j. (why_of last j ≡ why.Here) × HasReached last.array.geometry image last.array.epoch j}
        (λ j within is. (is, here_reached j (here_from j within is))) here_but_m

    -- A slot that is here, in whose last place its superblock is, takes part by each superblock that names the epoch.
    pub takes_part : (j : ℕ) (current : Superblock) → IsHere last j
        → (image j).cell (1 - place_of last j) ≡ Good (spelled (copy_of (edition_of last) j)) → current.array ≡ last.array
        → HasMark last.array.geometry image current (mark_for (why_of last j)) j
    takes_part j current here at names = record {
      below = here.below;
      marked = ap (λ (c : Configuration). mark_in c j) names ∙ st.established.stands.marks j below;
      super = copy_of (edition_of last) j;
      counts = record { super = super; slot = refl; identity = refl };
      joined = ap (λ (c : Configuration). joined_in c j) (sym names);
    }
      where
        below : j < m.array.geometry.n
        below = subst (λ (g : Geometry). j < g.n) st.established.stands.geometry here.below

        holds : HoldsSuper ((image j).cell (1 - place_of last j)) (copy_of (edition_of last) j)
        holds =
            holds_copy ((image j).cell (1 - place_of last j)) (edition_of last) j (formed_here m last j st.member st.established.stands below here.why) at

        same_of : (s : Superblock) → IsNoOlder s (copy_of (edition_of last) j) → (k : ℕ) → k < 2
            → IsOf (IsWritable st.fencing.issued.slots old) r.editions j ((image_now old j).cell k) s → s ≡ copy_of (edition_of last) j
        same_of s newer k lt (Entry was) =
            let most : s.draw ≤ m.drawn = (known st.fencing).drawn j k s (stayed j here) (was_attached j here) lt was in
            let above : m.drawn < last.array.epoch = st.established.stands.above in
            let drawn : last.array.epoch ≡ last.drawn = st.established.stands.epoch in
            let at_least : last.drawn ≤ s.draw = newer.draws in
            absurd (omega arith)
        same_of s newer k lt (Issue e has among formed is) = last_copy j s newer e among is

        super : IsSuperOf ((image j).cell) (copy_of (edition_of last) j)
        super =
            elim (super_decided ((image j).cell)) [
              | inr none ↦
                  absurd (none (record { place = 1 - place_of last j; place_in = omega arith; super = copy_of (edition_of last) j; holds = holds }))
              | inl some ↦ subst (λ (s : Superblock). IsSuperOf ((image j).cell) s) (same some.0 some.1) some.1
            ]
          where
            same : (s : Superblock) → IsSuperOf ((image j).cell) s → s ≡ copy_of (edition_of last) j
            same s is =
                let held = super_held ((image j).cell) s is in
                let newer : IsNoOlder s (copy_of (edition_of last) j) =
                super_no_older ((image j).cell) s (copy_of (edition_of last) j) (1 - place_of last j) (omega arith) is holds in
                elim (comes aim gone m last old new new st.fencing image left r j below) [
                  | NothingThere none ↦ absurd (none_held_there ((image j).cell (1 - place_of last j)) (copy_of (edition_of last) j) (none (1 - place_of last j)) holds)
                  | SameMedium _ each ↦
                      same_of s newer (held_at is) (held_in is)
                      (held_of (IsWritable st.fencing.issued.slots old) r.editions j ((image_now old j).cell (held_at is)) ((image j).cell (held_at is)) s
                      (each (held_at is) (held_in is)) (held_there is))
                ]
              where
                held_at : IsSuperOf ((image j).cell) s → ℕ
                held_at (First a rest) = 0
                held_at (Second a rest) = 1

                held_in : (is : IsSuperOf ((image j).cell) s) → held_at is < 2
                held_in (First a rest) = omega arith
                held_in (Second a rest) = omega arith

                held_there : (is : IsSuperOf ((image j).cell) s) → HoldsSuper ((image j).cell (held_at is)) s
                held_there (First a rest) = a
                held_there (Second a rest) = a

    -- what the next call begins with
    module _ (next : Option ℕ) (joins : MayJoin next last new) where
      drawn : (j k : ℕ) (s : Superblock) → IsTaken next last j → IsAttached new j → k < 2 → HoldsSuper ((image j).cell k) s → s.draw ≤ last.drawn
      drawn j k s (inr joining_next) on lt holds = joins.drawn image left j k s joining_next.0 on lt holds
      drawn j k s (inl here) on lt holds =
          let below : j < m.array.geometry.n = subst (λ (g : Geometry). j < g.n) st.established.stands.geometry here.below in
          elim (comes aim gone m last old new new st.fencing image left r j below) [
            | SameMedium same each ↦
                drawn_at j k s lt (stayed j here) (was_attached j here) holds
                (held_of (IsWritable st.fencing.issued.slots old) r.editions j ((image_now old j).cell k) ((image j).cell k) s (each k lt) holds)
            | NothingThere none ↦ absurd (none_held_there ((image j).cell k) s (none k) holds)
          ]

      not_next : (j : ℕ) → IsHere last j → next ≢ Some j
      not_next j here is = joins.absent j is here

      reserved : AllBut last.array.geometry.n last.array.geometry.m
          (λ j. (next ≢ Some j) × HasDrawn last.array.geometry image last.array.epoch j)
      reserved =
          all_but_mapped {P = λ j. why_of last j ≡ why.Here}
          {Q = λ j. (next ≢ Some j) × HasDrawn last.array.geometry image last.array.epoch j}
          (λ j within is. (
            not_next j (here_from j within is),
            λ s counts first second. has_drawn j (here_from j within is) s counts (places_whole ((image j).cell) first second),
          )) here_but_m

      reached : (epoch : ℕ) → epoch < last.array.epoch → AllBut last.array.geometry.n last.array.geometry.m
          (λ j. (next ≢ Some j) × HasReached last.array.geometry image epoch j)
      reached epoch less =
          all_but_mapped {P = λ j. why_of last j ≡ why.Here} {Q = λ j. (next ≢ Some j) × HasReached last.array.geometry image epoch j}
          (λ j within is. (
            not_next j (here_from j within is),
            λ s counts first second.
                let at_least : last.array.epoch ≤ s.array.epoch =
                least j (here_from j within is) s counts (places_whole ((image j).cell) first second) in
                omega arith,
          )) here_but_m

      joined : (i j : ℕ) (s : Superblock) → (bears : Bears m.array.geometry i ((image i).cell) s) → mark_at s j ≢ Down → mark_in last.array j ≢ Down
          → IsOf (IsWritable st.fencing.issued.slots old) r.editions i ((image_now old i).cell bears.place) s → joined_at s j ≤ joined_in last.array j
      joined i j s bears up up' (Entry was) =
          let borne = entry i s bears was in
          elim
          (number_from aim gone m last old new st.fencing.begun.member st.fencing.issued (edition_of last) st.among last_is j up') [
            | inl before ↦
                let first : joined_at s j ≤ joined_in m.array j = (known st.fencing).joined i j s borne up before.0 in
                let second : joined_in m.array j ≤ joined_in last.array j = before.1 in
                omega arith
            | inr above ↦
                let first : joined_at s j ≤ s.array.epoch = joined_most s.array j (block_named s bears.holds.spells.block) up in
                let most : s.array.epoch ≤ m.array.epoch = (known st.fencing).latest i s borne in
                let within : m.array.epoch ≤ m.drawn = st.fencing.begun.member.known in
                omega arith
          ]
      joined i j s bears up up' (Issue e has among formed is) =
          let array : s.array ≡ e.array = ap (λ (t : Superblock). t.array) is in
          let most : e.array.epoch ≤ last.array.epoch = edition_most e among in
          let joins : joined_at s j ≡ joined_in e.array j = ap (λ (c : Configuration). joined_in c j) array in
          let rises : joined_in e.array j ≤ joined_in last.array j =
          number_rises aim gone m last old new st.fencing.begun.member st.fencing.issued e (edition_of last) (r.within e among) st.among
          (block_named (copy_of e i) formed) last_is most j
          (subst (λ (c : Configuration). mark_in c j ≢ Down) array up) up' in
          omega arith

      pub known_then : IsKnownTo next last (IsAttached new) image
      known_then = record {
        orderly =
            subst (λ (g : Geometry). IsOrderly g image) (sym st.established.stands.geometry) (orderly aim gone m last old new new image st.fencing left);
        latest = latest;
        named = λ j s bears same. last_named j s (to_m j s bears) (omega arith);
        drawn = drawn;
        aside = λ j s here counts first second. aside j here s counts (places_whole ((image j).cell) first second);
        own = λ j s here on holds. own j s here holds;
        reserved = reserved;
        reached = λ i s bears less. reached s.array.epoch less;
        joined = λ i j s bears up up'. joined i j s (to_m i s bears) up up' (origin i s (to_m i s bears));
      }

pub again : (aim : EpochChange) (gone : Slots) (next : Option ℕ) (m last : Membership) (old new : List Happening) → HasStood aim gone m last old new → MayJoin next last new
    → ¬ IsTrue (stopped new) → IsBegun next last new
again aim gone next m last old new st joins goes_on = record {
  history = history_on {allowed = IsIssuing st.fencing.issued.slots st.fencing.issued.editions} st.fencing.begun.history st.fencing.issued.ran;
  member = st.member;
  settled = all_settled aim gone m last old new st goes_on;
  down = λ j is below.
      let within : j < m.array.geometry.n = subst (λ (g : Geometry). j < g.n) st.established.stands.geometry below in
      st.established.stands.marks j within
      ∙ (elim (mark_for_cases (why_of last j)) [
        | inl here ↦ absurd (joins.absent j is (record { below = below; why = inl here }))
        | inr other ↦
            elim other [
              | inl here ↦ absurd (joins.absent j is (record { below = below; why = inr here }))
              | inr down ↦ down
            ]
      ]);
  known = λ image left.
      known_then aim gone m last old new st image left
      (at_last {P = AreReserved (admitted aim) st.fencing.issued.slots st.fencing.issued.editions m old} st.fencing.issued.reserved) next joins;
}

-- ---- of the laws

-- what was written up to the end
written : (aim : EpochChange) (gone : Slots) (m last : Membership) (old new : List Happening) → (st : HasStood aim gone m last old new)
    → AreReserved (admitted aim) st.fencing.issued.slots st.fencing.issued.editions m old new
written aim gone m last old new st =
    at_last {P = AreReserved (admitted aim) st.fencing.issued.slots st.fencing.issued.editions m old} st.fencing.issued.reserved

pub each_stood : (aim : EpochChange) (gone : Slots) (m last : Membership) (old new : List Happening) (image : Image) (j : ℕ) → HasStood aim gone m last old new
    → CrashMayLeave new image → IsHere last j → HasReached last.array.geometry image last.array.epoch j
each_stood aim gone m last old new image j st left here =
    here_reached aim gone m last old new st image left (written aim gone m last old new st) j here

pub stood : (aim : EpochChange) (gone : Slots) (m last : Membership) (old new : List Happening) (image : Image) → HasStood aim gone m last old new
    → CrashMayLeave new image
    → AllBut last.array.geometry.n last.array.geometry.m (λ j. (why_of last j ≡ why.Here) × HasReached last.array.geometry image last.array.epoch j)
stood aim gone m last old new image st left = all_reached aim gone m last old new st image left (written aim gone m last old new st)

pub taking_part : (aim : EpochChange) (gone : Slots) (m last : Membership) (old new : List Happening) (image : Image) (j : ℕ) (current : Superblock)
    → HasStood aim gone m last old new → CrashMayLeave new image → IsHere last j
    → (image j).cell (1 - place_of last j) ≡ Good (spelled (copy_of (edition_of last) j)) → current.array ≡ last.array
    → HasMark last.array.geometry image current (mark_for (why_of last j)) j
taking_part aim gone m last old new image j current st left here at names =
    takes_part aim gone m last old new st image left (written aim gone m last old new st) j current here at names
