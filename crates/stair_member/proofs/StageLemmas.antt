-- What was written up to the end of a pass, and what stands then.
use Rattle.std.proofs.Common.{◌≡◌, ℕ, ◌+◌, ◌-◌, ◌<◌, ◌≤◌, Bool, false, List, [], ◌∷◌, ◌++◌, ◌⊎◌, inl, inr, refl, sym, ap, ◌∙◌, subst, arith, Option}
use Rattle.std.specs.Prelude.{IsSome, Contains}
use Rattle.std.proofs.lemmas.Bool.{cases_lt, false≢true}
use Rattle.std.proofs.lemmas.List.Elements.{Contains-append_left, Contains-push, Contains-push_cases}
use Rattle.stair_model.specs.Geometry.{Geometry}
use Rattle.stair_model.specs.Slots.{Slots, HasSlot}
use Rattle.stair_rack.specs.Answers.{Ran}
use Rattle.stair_rack.specs.History.{Happening, SlotCall, Write, slot_state}
use Rattle.stair_rack.specs.Moments.{AtEveryMoment, IsMoment}
use Rattle.stair_rack.specs.Offline.{ButForOutside, IsHeld, IsOfflineUntilAttached}
use Rattle.stair_rack.specs.Sector.{Good, settled}
use Rattle.stair_rack.specs.declared.rack.Reply.TheVariants as reply
use Rattle.stair_rack.proofs.KeptLemmas.{IsKept-since}
use Rattle.stair_rack.proofs.MomentLemmas.{at_every_from, at_every_join, at_every_mapped, at_every_none, at_moment, ran_before, ran_join, ran_none, ran_weakened}
use Rattle.stair_rack.proofs.OfflineLemmas.{offline_on, pulls_on}
use Rattle.stair_rack.proofs.StandingLemmas.{standing_on}
use Rattle.stair_super.specs.Spelling.{spelled}
use Rattle.stair_super.specs.Superblock.{IsSuperblock}
use Rattle.stair_super.specs.declared.configuration.Configuration.{Configuration}
use Rattle.stair_member.specs.ChangesSteps.{issue}
use Rattle.stair_member.specs.Counting.{AllBut}
use Rattle.stair_member.specs.Editions.{Edition, copy_of, edition_of}
use Rattle.stair_member.specs.Epochs.{AreReserved, AWrite, ASync, AsWas, Given, HasGot, IsDropped, IsIssuing, IsOnDisk, IsStanding, WasGiven}
use Rattle.stair_member.specs.HandSteps.{HasPlaces, IsGiven, IsGivenOrNot, IsGiving, IsLeft, IsSpreading, IsUnsynced, PlacesBelow, SpreadBelow, Stands, StaysApart, StaysSettled, Syncs, Unsynced, Writes, is_twice, place_after}
use Rattle.stair_member.specs.Membership.{Membership, IsMembership, place_of}
use Rattle.stair_member.proofs.ApartLemmas.{apart_after, apart_none}
use Rattle.stair_member.proofs.CountingLemmas.{all_but_mapped, has_or_not}
use Rattle.stair_member.proofs.HandLemmas.{given_last, got_later, got_sooner, spreading_beside, stays_join, stays_none}
use Rattle.stair_member.proofs.SafeLemmas.{AreStanding, GotNewest, HasNewest, IsBased, IsSafe, Renewed, Untouched, newest_like, next_kept, other_kept, safe_first, standing_wider}

abbrev pub with_edition : List Edition → Edition → List Edition
with_edition editions e = editions ++ e ∷ []

-- An edition of a call that began with this member and has seen this draw: a new draw with what the epoch named then, or a
-- new epoch.
pub record IsNew (m : Membership) (drawn : ℕ) (e : Edition) : Type 0 where
  pub geometry : e.array.geometry ≡ m.array.geometry
  pub above : m.drawn < e.draw
  pub most : e.draw ≤ drawn
  pub known : e.array.epoch ≤ e.draw
  pub epoch : (e.array ≡ m.array) ⊎ (m.drawn < e.array.epoch)

-- Either the epoch of the beginning is still the member's; or all slots but m hold a draw for the member's epoch, of at least
-- the greatest epoch before it.
pub data Standing (slots : Slots) (m0 m : Membership) (twice : Option ℕ) (editions : List Edition) (old h : List Happening) : Type 0 where
  First : m.array.epoch ≡ m0.array.epoch → Standing slots m0 m twice editions old h
  Later : (previous : ℕ) → m0.array.epoch ≤ previous → previous < m.array.epoch
      → ((e : Edition) → Contains editions e → (e.array ≡ m.array) ⊎ (e.array.epoch ≤ previous))
      → AllBut m.array.geometry.n m.array.geometry.m (λ j. GotNewest slots m m.array.epoch previous editions old h j × (is_twice twice j ≡ false))
      → Standing slots m0 m twice editions old h

-- these editions drop slots alone that are offline, where they were held and had both places
abbrev pub DropGone : Option ℕ → List Edition → Membership → List Happening → List Happening → Type 0
DropGone joining editions m0 old h = (e : Edition) (j : ℕ) → Contains editions e → IsDropped joining m0 e.array j
    → (before : List Happening) → IsHeld before old j → HasPlaces (slot_state old j) → IsOfflineUntilAttached before h j

-- a call that began with m0 and has come to m
pub record SoFar (slots : Slots) (m0 m : Membership) (twice : Option ℕ) (editions : List Edition) (old h : List Happening) : Type 0 where
  pub ran : Ran (IsIssuing slots editions) old h
  pub each : (e : Edition) → Contains editions e → IsNew m0 m.drawn e
  pub latest : (e : Edition) → Contains editions e → (e.array ≡ m.array) ⊎ (e.array.epoch < m.array.epoch)
  pub one_list : (a b : Edition) → Contains editions a → Contains editions b → a.array.epoch ≡ b.array.epoch → a.array ≡ b.array
  pub reserved : AtEveryMoment (AreReserved twice slots editions m0 old) old h
  pub steady : StaysSettled old h
  pub apart : StaysApart old h
  pub standing : Standing slots m0 m twice editions old h
  pub began : (m.array ≡ m0.array) ⊎ (m0.drawn < m.array.epoch)
  pub geometry : m.array.geometry ≡ m0.array.geometry
  pub least : m0.drawn ≤ m.drawn
  pub rising : (a b : Edition) → Contains editions a → Contains editions b → a.draw < b.draw → a.array.epoch ≤ b.array.epoch
  pub safe : (j : ℕ) → j < 32 → IsSome (slot_state old j).size → IsSafe m0 m editions old h j
  pub safely : AtEveryMoment (AreStanding m0 editions old) old h

no_editions : (e : Edition) → ¬ Contains [] e
no_editions e among = absurd (omega (arith, among.1))

pub so_far_first : (slots : Slots) (m0 : Membership) (twice : Option ℕ) (h : List Happening) → SoFar slots m0 m0 twice [] h h
so_far_first slots m0 twice h = record {
  ran = ran_none h;
  each = λ e among. absurd (no_editions e among);
  latest = λ e among. absurd (no_editions e among);
  one_list = λ a b in_a in_b same. absurd (no_editions a in_a);
  reserved =
      at_every_none h (record {
        editions = [];
        within = λ e among. among;
        ran = ran_none h;
        reserved = λ e among above. absurd (no_editions e among);
        reached = λ a b in_a in_b less. absurd (no_editions a in_a);
        left_out = λ e j among. absurd (no_editions e among);
      });
  steady = stays_none h;
  apart = apart_none h;
  standing = First refl;
  began = inl refl;
  geometry = refl;
  least = omega arith;
  rising = λ a b in_a in_b less. absurd (no_editions a in_a);
  safe = λ j small some. safe_first m0 h j some;
  safely = at_every_none h (λ j small some. standing_first (safe_first m0 h j some));
}
  where
    standing_first : {j : ℕ} → IsSafe m0 m0 [] h h j → IsStanding m0 [] h h j
    standing_first (Untouched at other next) = AsWas other next
    standing_first (Renewed newest) = absurd (no_editions newest.edition newest.among)

-- ---- a pass

module _ (slots : Slots) (m0 b last : Membership) (twice twice_now : Option ℕ) (editions : List Edition) (old h new : List Happening) (to : Slots)
    (gone : Option ℕ) (i : ℕ) (before : SoFar slots m0 b twice editions old h) (rules0 : IsMembership m0) (rules : IsMembership b)
    (drawn : m0.drawn < b.drawn) (spread : SpreadBelow b to twice_now i h new) (places : PlacesBelow b last to twice_now i)
    (lefts : (j : ℕ) → i ≤ j → IsLeft b last j h new)
    (within : (j : ℕ) → HasSlot to j → HasSlot slots j) (formed : (j : ℕ) → HasSlot to j → (j < 32) × IsSuperblock (issue b j))
    (single : (j : ℕ) → is_twice twice j ≡ false → is_twice twice_now j ≡ false)
    (drops : DropGone twice (with_edition editions (edition_of b)) m0 old h) where
  array_same : last.array ≡ b.array
  array_same = ap (λ (m : Membership). m.array) places.rest

  drawn_same : last.drawn ≡ b.drawn
  drawn_same = ap (λ (m : Membership). m.drawn) places.rest

  -- the new edition, or an earlier one
  cases : (P : Edition → Type 0) → P (edition_of b) → ((e : Edition) → Contains editions e → P e) → (e : Edition)
      → Contains (with_edition editions (edition_of b)) e → P e
  cases P first others e among =
      elim (Contains-push_cases editions (edition_of b) e among) [
        | inl earlier ↦ others e earlier
        | inr is ↦ subst P is first
      ]

  later : {e : Edition} → Contains editions e → Contains (with_edition editions (edition_of b)) e
  later {e} among = Contains-append_left editions (edition_of b ∷ []) e among

  given_small : (j k : ℕ) → HasSlot to j → IsGiven b (is_twice twice_now j) j k → k < 2
  given_small j k on (inl is) = let small : place_of b j < 2 = rules.places j (formed j on).0 in omega (arith, is, small)
  given_small j k on (inr both) = both.1

  issuing : (j : ℕ) (c : SlotCall) → IsSpreading b to twice_now j c → IsIssuing slots (with_edition editions (edition_of b)) j c
  issuing j c is = by is.0 is.1
    where
      by : HasSlot to j → IsGiving b (is_twice twice_now j) j c → IsIssuing slots (with_edition editions (edition_of b)) j c
      by on (Writes k answer given same) =
          AWrite (edition_of b) k answer (within j on) (Contains-push editions (edition_of b)) (formed j on).1 (given_small j k on given) same
      by on (Syncs answer same) = ASync answer (within j on) same

  wider : (j : ℕ) (c : SlotCall) → IsIssuing slots editions j c → IsIssuing slots (with_edition editions (edition_of b)) j c
  wider j c (AWrite e k answer on among is_formed small same) = AWrite e k answer on (later among) is_formed small same
  wider j c (ASync answer on same) = ASync answer on same

  ran_upto : (x : List Happening) → Ran (IsSpreading b to twice_now) h x → Ran (IsIssuing slots (with_edition editions (edition_of b))) old x
  ran_upto x ran =
      ran_join (ran_weakened {allowed = IsIssuing slots editions} {more = IsIssuing slots (with_edition editions (edition_of b))} wider before.ran)
      (ran_weakened {allowed = IsSpreading b to twice_now} {more = IsIssuing slots (with_edition editions (edition_of b))} issuing ran)

  each : (e : Edition) → Contains (with_edition editions (edition_of b)) e → IsNew m0 b.drawn e
  each =
      cases (IsNew m0 b.drawn)
      (record { geometry = before.geometry; above = drawn; most = omega arith; known = rules.known; epoch = before.began }) before.each

  latest : (e : Edition) → Contains (with_edition editions (edition_of b)) e → (e.array ≡ b.array) ⊎ (e.array.epoch < b.array.epoch)
  latest = cases (λ e. (e.array ≡ b.array) ⊎ (e.array.epoch < b.array.epoch)) (inl refl) before.latest

  latest_epoch : (e : Edition) → Contains (with_edition editions (edition_of b)) e → e.array.epoch ≤ b.array.epoch
  latest_epoch e among =
      elim (latest e among) [
        | inl same ↦ let is : e.array.epoch ≡ b.array.epoch = ap (λ (a : Configuration). a.epoch) same in omega arith
        | inr less ↦ omega arith
      ]

  least_epoch : (e : Edition) → Contains (with_edition editions (edition_of b)) e → m0.array.epoch ≤ e.array.epoch
  least_epoch e among =
      let known : m0.array.epoch ≤ m0.drawn = rules0.known in
      elim (each e among).epoch [
        | inl same ↦ let is : e.array.epoch ≡ m0.array.epoch = ap (λ (a : Configuration). a.epoch) same in omega arith
        | inr less ↦ omega (arith, less, known)
      ]

  same_epoch : (e : Edition) → Contains editions e → e.array.epoch ≡ b.array.epoch → e.array ≡ b.array
  same_epoch e among same = elim (before.latest e among) [ inl is ↦ is | inr less ↦ absurd (omega (arith, less, same)) ]

  one_list : (x y : Edition) → Contains (with_edition editions (edition_of b)) x → Contains (with_edition editions (edition_of b)) y
      → x.array.epoch ≡ y.array.epoch → x.array ≡ y.array
  one_list x y in_x in_y =
      cases (λ x. x.array.epoch ≡ y.array.epoch → x.array ≡ y.array)
      (cases (λ y. b.array.epoch ≡ y.array.epoch → b.array ≡ y.array) (λ same. refl) (λ y among same. sym (same_epoch y among (sym same))) y in_y)
      (λ x among.
      cases (λ y. x.array.epoch ≡ y.array.epoch → x.array ≡ y.array) (λ same. same_epoch x among same)
      (λ y others same. before.one_list x y among others same) y in_y) x in_x

  -- the place that isn't next isn't written
  spared : (j : ℕ) → j < 32 → is_twice twice j ≡ false → (bytes : List ℕ)
      → ¬ IsSpreading b to twice_now j (Write (1 - place_of b j) bytes reply.Done)
  spared j small not_twice bytes is = by is.1
    where
      by : IsGiving b (is_twice twice_now j) j (Write (1 - place_of b j) bytes reply.Done) → ⊥
      by (Writes k answer (inl at) same) =
          let is_same : 1 - place_of b j ≡ k = cc in
          let below : place_of b j < 2 = rules.places j small in
          omega (arith, is_same, at, below)
      by (Writes k answer (inr both) same) = false≢true (sym (single j not_twice) ∙ both.0)
      by (Syncs answer same) = absurd (cc)

  devices : b.array.geometry.n ≤ 32
  devices = rules.array.limits.devices.1

  stands_on : (x : List Happening) → Ran (IsSpreading b to twice_now) h x → (j k : ℕ) (e : Edition) → k ≡ 1 - place_of b j → j < 32
      → is_twice twice j ≡ false → IsOnDisk old h j k (copy_of e j) → IsOnDisk old x j k (copy_of e j)
  stands_on x ran j k e at small not_twice on =
      standing_on {allowed = IsSpreading b to twice_now} (slot_state old j).pulls j k (Good (spelled (copy_of e j)))
      (λ bytes is. spared j small not_twice bytes (subst (λ l. IsSpreading b to twice_now j (Write l bytes reply.Done)) at is)) ran on

  has_draw : (x : List Happening) → Ran (IsSpreading b to twice_now) h x → (draw epoch previous : ℕ) → draw ≤ b.array.epoch → epoch ≤ previous
      → (j : ℕ) → j < b.array.geometry.n → GotNewest slots b b.array.epoch previous editions old h j × (is_twice twice j ≡ false)
      → WasGiven slots (with_edition editions (edition_of b)) draw epoch old x j
  has_draw x ran draw epoch previous most reached j below newest =
      let n = newest.0.newest in
      let drawn_most : b.array.epoch ≤ n.edition.draw = n.draws in
      let reaches : previous ≤ n.edition.array.epoch = n.reaches in
      let small : j < 32 = omega (arith, devices, below) in
      let at : place_of b j < 2 = rules.places j small in record {
        slot = newest.0.slot;
        has = record {
          edition = n.edition;
          among = later n.among;
          formed = n.formed;
          draws = omega (arith, most, drawn_most);
          reaches = omega (arith, reached, reaches);
          place = 1 - place_of b j;
          place_in = omega arith;
          on_disk = stands_on x ran j (1 - place_of b j) n.edition refl small newest.1 n.on_disk;
        };
        got = got_later {b = IsSpreading b to twice_now} (spared j small newest.1) ran newest.0.got;
      }

  reserved_at : (x : List Happening) → Ran (IsSpreading b to twice_now) h x → AreReserved twice slots (with_edition editions (edition_of b)) m0 old x
  reserved_at x ran = record {
    editions = with_edition editions (edition_of b);
    within = λ e among. among;
    ran = ran_upto x ran;
    reserved = λ e among above. by_standing before.standing e among above;
    reached = λ a c in_a in_c less. reached_by before.standing a c in_a in_c less;
    left_out = λ e j among dropped began held has.
        offline_on {allowed = IsSpreading b to twice_now} {before = began} j (spreading_beside b to twice_now j) ran (drops e j among dropped began held has);
  }
    where
      of_start : (draw epoch : ℕ) → AllBut b.array.geometry.n b.array.geometry.m (WasGiven slots (with_edition editions (edition_of b)) draw epoch old x)
          → AllBut m0.array.geometry.n m0.array.geometry.m (WasGiven slots (with_edition editions (edition_of b)) draw epoch old x)
      of_start draw epoch have =
          subst (λ (g : Geometry). AllBut g.n g.m (WasGiven slots (with_edition editions (edition_of b)) draw epoch old x)) before.geometry have

      by_standing : Standing slots m0 b twice editions old h → (e : Edition) → Contains (with_edition editions (edition_of b)) e
          → m0.array.epoch < e.array.epoch
          → AllBut m0.array.geometry.n m0.array.geometry.m (WasGiven slots (with_edition editions (edition_of b)) e.array.epoch m0.array.epoch old x)
      by_standing (First same) e among above = let most = latest_epoch e among in absurd (omega (arith, most, same, above))
      by_standing (Later previous least less others have) e among above =
          of_start e.array.epoch m0.array.epoch
          (all_but_mapped (λ j below newest. has_draw x ran e.array.epoch m0.array.epoch previous (latest_epoch e among) least j below newest) have)

      reached_by : Standing slots m0 b twice editions old h → (a c : Edition) → Contains (with_edition editions (edition_of b)) a
          → Contains (with_edition editions (edition_of b)) c → a.array.epoch < c.array.epoch
          → AllBut m0.array.geometry.n m0.array.geometry.m (WasGiven slots (with_edition editions (edition_of b)) c.array.epoch a.array.epoch old x)
      reached_by (First same) a c in_a in_c less =
          let most = latest_epoch c in_c in
          let least = least_epoch a in_a in
          absurd (omega (arith, most, least, same, less))
      reached_by (Later previous least before_now others have) a c in_a in_c less =
          let most = latest_epoch c in_c in
          let small : a.array.epoch ≤ previous =
          elim (cases (λ e. (e.array ≡ b.array) ⊎ (e.array.epoch ≤ previous)) (inl refl) others a in_a) [
            | inl is ↦ let at : a.array.epoch ≡ b.array.epoch = ap (λ (z : Configuration). z.epoch) is in absurd (omega (arith, at, most, less))
            | inr few ↦ few
          ] in
          of_start c.array.epoch a.array.epoch
          (all_but_mapped (λ j below newest. has_draw x ran c.array.epoch a.array.epoch previous most small j below newest) have)

  -- the newest superblock of a slot after the pass
  newest_after : (previous : ℕ) → previous < b.array.epoch → (j : ℕ) → j < b.array.geometry.n
      → GotNewest slots b b.array.epoch previous editions old h j × (is_twice twice j ≡ false)
      → GotNewest slots last b.array.epoch previous (with_edition editions (edition_of b)) old new j × (is_twice twice j ≡ false)
  newest_after previous less j below newest =
      elim (has_or_not to j) [
        | inr out ↦ (kept (inl out), newest.1)
        | inl on ↦
            elim (cases_lt j i) [
              | inl earlier ↦ (given on earlier, newest.1)
              | inr past ↦ (kept (inr past), newest.1)
            ]
      ]
    where
      small : j < 32
      small = omega (arith, devices, below)

      kept : (¬ HasSlot to j) ⊎ (i ≤ j) → GotNewest slots last b.array.epoch previous (with_edition editions (edition_of b)) old new j
      kept which =
          let n = newest.0.newest in
          let same : place_of last j ≡ place_of b j =
          elim which [ inl out ↦ places.out j out | inr past ↦ places.later j past (single j newest.1) ] in record {
            slot = newest.0.slot;
            newest = record {
              edition = n.edition;
              among = later n.among;
              formed = n.formed;
              draws = n.draws;
              reaches = n.reaches;
              on_disk = stands_on new spread.ran j (1 - place_of last j) n.edition (ap (λ (z : ℕ). 1 - z) same) small newest.1
                  (subst (λ k. IsOnDisk old h j (1 - k) (copy_of n.edition j)) (sym same) n.on_disk);
            };
            got = subst (λ k. HasGot old new j (1 - k) (copy_of n.edition j)) (sym same)
                (got_later {b = IsSpreading b to twice_now} (spared j small newest.1) spread.ran newest.0.got);
          }

      given : HasSlot to j → j < i → GotNewest slots last b.array.epoch previous (with_edition editions (edition_of b)) old new j
      given on earlier =
          let at : place_of b j < 2 = rules.places j small in
          let turned : place_of last j ≡ 1 - place_of b j =
          places.done j earlier on ∙ ap (λ (z : Bool). place_after z (place_of b j)) (single j newest.1) in
          let back : 1 - place_of last j ≡ place_of b j = omega (arith, at, turned) in record {
            slot = within j on;
            newest = record {
              edition = edition_of b;
              among = Contains-push editions (edition_of b);
              formed = (formed j on).1;
              draws = rules.known;
              reaches = omega (arith, less);
              on_disk =
                  subst (λ k. IsOnDisk old new j k (copy_of (edition_of b) j)) (sym back)
                  (IsKept-since (pulls_on {allowed = IsIssuing slots editions} j before.ran) (spread.stands j (place_of b j) earlier on (inl refl)));
            };
            got =
                subst (λ k. HasGot old new j k (copy_of (edition_of b) j)) (sym back)
                (got_sooner {a = IsIssuing slots editions} before.ran (spread.got j (place_of b j) earlier on (inl refl)));
          }

  standing_after : Standing slots m0 b twice editions old h → Standing slots m0 last twice (with_edition editions (edition_of b)) old new
  standing_after (First same) = First (ap (λ (a : Configuration). a.epoch) array_same ∙ same)
  standing_after (Later previous least less others have) =
      let of_b : AllBut b.array.geometry.n b.array.geometry.m
      (λ j. GotNewest slots last b.array.epoch previous (with_edition editions (edition_of b)) old new j × (is_twice twice j ≡ false)) =
      all_but_mapped (newest_after previous less) have in
      Later previous least (subst (λ (a : Configuration). previous < a.epoch) (sym array_same) less)
      (λ e among.
      subst (λ (a : Configuration). (e.array ≡ a) ⊎ (e.array.epoch ≤ previous)) (sym array_same)
      (cases (λ e. (e.array ≡ b.array) ⊎ (e.array.epoch ≤ previous)) (inl refl) others e among))
      (subst
      (λ (a : Configuration). AllBut a.geometry.n a.geometry.m
      (λ j. GotNewest slots last a.epoch previous (with_edition editions (edition_of b)) old new j × (is_twice twice j ≡ false))) (sym array_same) of_b)

  -- a greater draw never has an earlier epoch: the new edition has the greatest draw and the latest epoch
  rising : (x y : Edition) → Contains (with_edition editions (edition_of b)) x → Contains (with_edition editions (edition_of b)) y → x.draw < y.draw
      → x.array.epoch ≤ y.array.epoch
  rising x y in_x in_y =
      cases (λ y. x.draw < y.draw → x.array.epoch ≤ y.array.epoch) (λ less. latest_epoch x in_x)
      (λ y among.
      cases (λ x. x.draw < y.draw → x.array.epoch ≤ y.array.epoch)
      (λ less. let most : y.draw ≤ b.drawn = (before.each y among).most in absurd (omega (arith, most, less)))
      (λ x others less. before.rising x y others among less) x in_x) y in_y

  -- ---- of a slot that has a superblock

  unsynced_out : (x : List Happening) → Ran (IsSpreading b to twice_now) h x → (j : ℕ) → ¬ HasSlot to j → Ran (IsUnsynced b j) h x
  unsynced_out x ran j out =
      ran_weakened {allowed = IsSpreading b to twice_now} {more = IsUnsynced b j} (λ l c is same. absurd (out (subst (HasSlot to) same is.0))) ran

  -- the slot isn't one of these, or isn't synced yet, or its superblock stands
  given_or_not : (x : List Happening) → IsMoment h x new → (j : ℕ)
      → Ran (IsUnsynced b j) h x ⊎ (HasSlot to j × IsOnDisk h x j (place_of b j) (issue b j))
  given_or_not x at j =
      elim (has_or_not to j) [
        | inr out ↦ inl (unsynced_out x (ran_before {allowed = IsSpreading b to twice_now} spread.ran at) j out)
        | inl on ↦
            elim (at_moment {P = IsGivenOrNot b j h} (spread.between j) at) [
              | inl ran ↦ inl ran
              | inr stands ↦ inr (on, stands)
            ]
      ]

  -- it stands
  given_now : (x : List Happening) (j k : ℕ) → HasSlot to j → k < 2 → IsOnDisk h x j k (issue b j)
      → IsStanding m0 (with_edition editions (edition_of b)) old x j
  given_now x j k on k_in stands = Given (record {
    edition = edition_of b;
    among = Contains-push editions (edition_of b);
    formed = (formed j on).1;
    draws = omega (arith, drawn);
    reaches = least_epoch (edition_of b) (Contains-push editions (edition_of b));
    place = k;
    place_in = k_in;
    on_disk = IsKept-since (pulls_on {allowed = IsIssuing slots editions} j before.ran) stands;
  })

  -- while the slot isn't synced its newest superblock stays
  newest_stays : (x : List Happening) (j : ℕ) → j < 32 → Ran (IsUnsynced b j) h x → HasNewest b (m0.drawn + 1) m0.array.epoch editions old h j
      → HasNewest b (m0.drawn + 1) m0.array.epoch (with_edition editions (edition_of b)) old x j
  newest_stays x j small ran newest = record {
    edition = newest.edition;
    among = later newest.among;
    formed = newest.formed;
    draws = newest.draws;
    reaches = newest.reaches;
    on_disk =
        other_kept b j (slot_state old j).pulls (rules.places j small) h x ran (settled (Good (spelled (copy_of newest.edition j)))) newest.on_disk;
  }

  standing_at : (x : List Happening) → IsMoment h x new → (j : ℕ) → j < 32 → IsSafe m0 b editions old h j
      → IsStanding m0 (with_edition editions (edition_of b)) old x j
  standing_at x at j small safe =
      elim (given_or_not x at j) [
        | inr stands ↦ given_now x j (place_of b j) stands.0 (rules.places j small) stands.1
        | inl ran ↦ unsynced_yet ran safe
      ]
    where
      unsynced_yet : Ran (IsUnsynced b j) h x → IsSafe m0 b editions old h j → IsStanding m0 (with_edition editions (edition_of b)) old x j
      unsynced_yet ran (Renewed newest) =
          let stays = newest_stays x j small ran newest in Given (record {
            edition = stays.edition;
            among = stays.among;
            formed = stays.formed;
            draws = stays.draws;
            reaches = stays.reaches;
            place = 1 - place_of b j;
            place_in = omega arith;
            on_disk = stays.on_disk;
          })
      unsynced_yet ran (Untouched same other next) =
          subst (λ (k : ℕ). ButForOutside old x j (1 - k) (λ s. s ≡ (slot_state old j).sector (1 - k))
          → ButForOutside old x j k (IsBased ((slot_state old j).sector k).base) → IsStanding m0 (with_edition editions (edition_of b)) old x j) (sym same)
          (λ other_now next_now. AsWas other_now next_now)
          (other_kept b j (slot_state old j).pulls (rules.places j small) h x ran ((slot_state old j).sector (1 - place_of b j))
          (subst (λ (k : ℕ). ButForOutside old h j (1 - k) (λ s. s ≡ (slot_state old j).sector (1 - k))) (sym same) other))
          (next_kept b j (slot_state old j).pulls (rules.places j small) h x ran ((slot_state old j).sector (place_of b j)).base
          (subst (λ (k : ℕ). ButForOutside old h j k (IsBased ((slot_state old j).sector k).base)) (sym same) next))

  -- the slot wasn't synced, and its next place is the same
  safe_passed : (j : ℕ) → j < 32 → place_of last j ≡ place_of b j → Ran (IsUnsynced b j) h new → IsSafe m0 b editions old h j
      → IsSafe m0 last (with_edition editions (edition_of b)) old new j
  safe_passed j small kept ran (Renewed newest) =
      Renewed (newest_like b last (m0.drawn + 1) m0.array.epoch (with_edition editions (edition_of b)) old new j kept (newest_stays new j small ran newest))
  safe_passed j small kept ran (Untouched same other next) =
      subst (λ (k : ℕ). ButForOutside old new j (1 - k) (λ s. s ≡ (slot_state old j).sector (1 - k))
      → ButForOutside old new j k (IsBased ((slot_state old j).sector k).base) → IsSafe m0 last (with_edition editions (edition_of b)) old new j) (sym same)
      (λ other_now next_now. Untouched (kept ∙ same) other_now next_now)
      (other_kept b j (slot_state old j).pulls (rules.places j small) h new ran ((slot_state old j).sector (1 - place_of b j))
      (subst (λ (k : ℕ). ButForOutside old h j (1 - k) (λ s. s ≡ (slot_state old j).sector (1 - k))) (sym same) other))
      (next_kept b j (slot_state old j).pulls (rules.places j small) h new ran ((slot_state old j).sector (place_of b j)).base
      (subst (λ (k : ℕ). ButForOutside old h j k (IsBased ((slot_state old j).sector k).base)) (sym same) next))

  -- the new edition stands in the place that isn't next
  safe_given : (j : ℕ) → HasSlot to j → IsOnDisk h new j (1 - place_of last j) (issue b j)
      → IsSafe m0 last (with_edition editions (edition_of b)) old new j
  safe_given j on stands = Renewed (record {
    edition = edition_of b;
    among = Contains-push editions (edition_of b);
    formed = (formed j on).1;
    draws = omega (arith, drawn);
    reaches = least_epoch (edition_of b) (Contains-push editions (edition_of b));
    on_disk = IsKept-since (pulls_on {allowed = IsIssuing slots editions} j before.ran) stands;
  })

  safe_after : (j : ℕ) → j < 32 → IsSafe m0 b editions old h j → IsSafe m0 last (with_edition editions (edition_of b)) old new j
  safe_after j small is =
      elim (has_or_not to j) [
        | inr out ↦ safe_passed j small (places.out j out) (unsynced_out new spread.ran j out) is
        | inl on ↦
            elim (cases_lt j i) [
              | inl earlier ↦
                  safe_given j on
                  (spread.stands j (1 - place_of last j) earlier on (given_last b last twice_now j (rules.places j small) (places.done j earlier on)))
              | inr past ↦
                  elim (lefts j past) [
                    | Unsynced kept ran ↦ safe_passed j small kept ran is
                    | Stands stands ↦ safe_given j on stands
                  ]
            ]
      ]

  safely_after : AtEveryMoment (AreStanding m0 (with_edition editions (edition_of b)) old) old new
  safely_after =
      at_every_join
      (at_every_mapped {P = AreStanding m0 editions old} {Q = AreStanding m0 (with_edition editions (edition_of b)) old}
      (λ x are j small some.
      standing_wider m0 editions (with_edition editions (edition_of b)) old x j (λ e among. later among) (are j small some)) before.safely)
      (at_every_from {P = AreStanding m0 (with_edition editions (edition_of b)) old} spread.ran.more spread.ran.is
      (λ x at j small some. standing_at x at j small (before.safe j small some)))

  pub stage : SoFar slots m0 last twice (with_edition editions (edition_of b)) old new
  stage = record {
    ran = ran_upto new spread.ran;
    each = λ e among. subst (λ d. IsNew m0 d e) (sym drawn_same) (each e among);
    latest = λ e among. subst (λ (a : Configuration). (e.array ≡ a) ⊎ (e.array.epoch < a.epoch)) (sym array_same) (latest e among);
    one_list = one_list;
    reserved =
        at_every_join
        (at_every_mapped {P = AreReserved twice slots editions m0 old} {Q = AreReserved twice slots (with_edition editions (edition_of b)) m0 old}
        (λ x r. record {
          editions = r.editions;
          within = λ e among. later (r.within e among);
          ran = r.ran;
          reserved = r.reserved;
          reached = r.reached;
          left_out = r.left_out;
        })
        before.reserved)
        (at_every_from {P = AreReserved twice slots (with_edition editions (edition_of b)) m0 old} spread.ran.more spread.ran.is
        (λ x at. reserved_at x (ran_before {allowed = IsSpreading b to twice_now} spread.ran at)));
    steady = stays_join {allowed = IsSpreading b to twice_now} before.steady spread.ran spread.steady;
    apart = apart_after before.apart spread;
    standing = standing_after before.standing;
    began = subst (λ (a : Configuration). (a ≡ m0.array) ⊎ (m0.drawn < a.epoch)) (sym array_same) before.began;
    geometry = ap (λ (a : Configuration). a.geometry) array_same ∙ before.geometry;
    least = subst (λ d. m0.drawn ≤ d) (sym drawn_same) before.least;
    rising = rising;
    safe = λ j small some. safe_after j small (before.safe j small some);
    safely = safely_after;
  }
