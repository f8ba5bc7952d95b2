-- What was written up to the end of a round, and what stands then.
use Rattle.std.proofs.Common.{◌≡◌, ◌≢◌, ℕ, ◌+◌, ◌-◌, ◌^◌, ◌<◌, ◌≤◌, true, false, List, [], ◌∷◌, ◌⊎◌, inl, inr, refl, sym, ap, ◌∙◌, subst, arith, Option, None, Some}
use Rattle.std.specs.Prelude.{⊤, Contains, ◌↔◌, unwrap_or, slice_index}
use Rattle.std.proofs.lemmas.Bool.{eq-eqb}
use Rattle.std.proofs.lemmas.List.Elements.{Contains-append_left, Contains-push, Contains-push_cases}
use Rattle.stair_model.specs.Geometry.{Geometry}
use Rattle.stair_model.specs.Slots.{Slots, HasSlot}
use Rattle.stair_rack.specs.Answers.{Ran, IsBesideAttach}
use Rattle.stair_rack.specs.History.{Happening, SlotCall, slot_state}
use Rattle.stair_rack.specs.Offline.{IsHeld, IsOfflineUntilAttached}
use Rattle.stair_rack.proofs.KeptLemmas.{IsKept-onward, IsKept-since}
use Rattle.stair_rack.proofs.MomentLemmas.{ran_join, ran_none, ran_weakened}
use Rattle.stair_rack.proofs.OfflineLemmas.{held_on, offline_on, pulls_on}
use Rattle.stair_rack.proofs.WritingLemmas.{reach_on}
use Rattle.stair_rack.proofs.StandingLemmas.{medium_on}
use Rattle.stair_super.specs.Superblock.{IsSuperblock, mark_in}
use Rattle.stair_super.specs.declared.configuration.Configuration.{Configuration}
use Rattle.stair_member.specs.ChangesSteps.{Begins, IsLiveSlot, issue, with_draw}
use Rattle.stair_member.specs.Counting.{AllBut, AtMost}
use Rattle.stair_member.specs.Editions.{Edition, copy_of, edition_of}
use Rattle.stair_member.specs.Epochs.{ASync, AWrite, HasGot, IsDropped, IsGoneOf, IsIssuing, IsOnDisk, StandsOnDisk, WasGiven}
use Rattle.stair_member.specs.Aims.{admitted}
use Rattle.stair_member.specs.HandSteps.{HasPlaces, IsGiven, IsSpreading, PlacesBelow, Spread, SpreadBelow, is_twice}
use Rattle.stair_member.specs.Membership.{Membership, IsHere, IsMembership, IsMissing, place_of, why_of}
use Rattle.stair_member.specs.declared.aim.EpochChange.{EpochChange}
use Rattle.stair_member.specs.declared.why.Why.{Why}
use Rattle.stair_member.specs.declared.why.Why.TheVariants as why
use Rattle.stair_member.proofs.ChangeLemmas.{up_here}
use Rattle.stair_member.proofs.CountingLemmas.{all_but_mapped}
use Rattle.stair_member.proofs.HandLemmas.{given_last, gone_wider, got_sooner, spreading_beside}
use Rattle.stair_member.proofs.SpreadLemmas.{no_slot}
use Rattle.stair_member.proofs.SafeLemmas.{GotNewest, got_newest_like, safe_like}
use Rattle.stair_member.proofs.StageLemmas.{IsNew, SoFar, Standing, First, Later, so_far_first, stage, with_edition}

-- ---- a member that says the same of its slots' superblocks

standing_like : (slots : Slots) (m0 m m' : Membership) (twice : Option ℕ) (editions : List Edition) (old h : List Happening) → m'.array ≡ m.array
    → m'.places ≡ m.places → Standing slots m0 m twice editions old h → Standing slots m0 m' twice editions old h
standing_like slots m0 m m' twice editions old h same places (First is) = First (ap (λ (a : Configuration). a.epoch) same ∙ is)
standing_like slots m0 m m' twice editions old h same places (Later previous least less others have) =
    let place : (j : ℕ) → place_of m j ≡ place_of m' j = λ j. sym (ap (λ (p : List ℕ). slice_index p j) places) in
    let mine : AllBut m.array.geometry.n m.array.geometry.m
    (λ j. GotNewest slots m' m.array.epoch previous editions old h j × (is_twice twice j ≡ false)) =
    all_but_mapped
    (λ j below newest. (
      got_newest_like slots m m' m.array.epoch previous editions old h j (sym (place j)) newest.0,
      newest.1,
    )) have in
    Later previous least (subst (λ (a : Configuration). previous < a.epoch) (sym same) less)
    (λ e among. subst (λ (a : Configuration). (e.array ≡ a) ⊎ (e.array.epoch ≤ previous)) (sym same) (others e among))
    (subst
    (λ (a : Configuration). AllBut a.geometry.n a.geometry.m
    (λ j. GotNewest slots m' a.epoch previous editions old h j × (is_twice twice j ≡ false))) (sym same) mine)

pub so_far_like : (slots : Slots) (m0 m m' : Membership) (twice : Option ℕ) (editions : List Edition) (old h : List Happening) → m'.array ≡ m.array
    → m'.places ≡ m.places → m.drawn ≤ m'.drawn → SoFar slots m0 m twice editions old h → SoFar slots m0 m' twice editions old h
so_far_like slots m0 m m' twice editions old h same places more far = record {
  ran = far.ran;
  each = λ e among.
      let is = far.each e among in
      let most : e.draw ≤ m.drawn = is.most in
      record { geometry = is.geometry; above = is.above; most = omega arith; known = is.known; epoch = is.epoch };
  latest = λ e among. subst (λ (a : Configuration). (e.array ≡ a) ⊎ (e.array.epoch < a.epoch)) (sym same) (far.latest e among);
  one_list = far.one_list;
  reserved = far.reserved;
  steady = far.steady;
  apart = far.apart;
  standing = standing_like slots m0 m m' twice editions old h same places far.standing;
  began = subst (λ (a : Configuration). (a ≡ m0.array) ⊎ (m0.drawn < a.epoch)) (sym same) far.began;
  geometry = ap (λ (a : Configuration). a.geometry) same ∙ far.geometry;
  least = let least : m0.drawn ≤ m.drawn = far.least in omega arith;
  rising = far.rising;
  safe = λ j small some. safe_like m0 m m' editions old h j (ap (λ (p : List ℕ). slice_index p j) places) (far.safe j small some);
  safely = far.safely;
}

-- ---- superblocks that are handed

pub draw_rules : (m : Membership) → IsMembership m → m.drawn < 2 ^ 64 - 1 → IsMembership (with_draw m)
draw_rules m rules room = record {
  sizes = record {
    id = rules.sizes.id;
    drawn = omega (arith, room);
    marks = rules.sizes.marks;
    joins = rules.sizes.joins;
    label = rules.sizes.label;
    whys = rules.sizes.whys;
    places = rules.sizes.places;
  };
  array = rules.array;
  known = let known : m.array.epoch ≤ m.drawn = rules.known in omega arith;
  absent = rules.absent;
  marked = rules.marked;
  places = rules.places;
}

issue_formed : (b : Membership) (j : ℕ) → IsMembership b → IsHere b j → (j < 32) × IsSuperblock (issue b j)
issue_formed b j rules here =
    let most : b.array.geometry.n ≤ 32 = rules.array.limits.devices.1 in
    let below : j < b.array.geometry.n = here.below in (
      omega arith,
      record {
        sizes = record {
          id = rules.sizes.id;
          draw = rules.sizes.drawn;
          marks = rules.sizes.marks;
          joins = rules.sizes.joins;
          label = rules.sizes.label;
        };
        rules = record {
          array = rules.array;
          slot_in = below;
          drawn = rules.known;
          here = up_here (why_of b j) (mark_in b.array j) (rules.marked j below) here.why;
          own = refl;
        };
      },
    )

-- ---- the epoch begins

why_decided : (w : Why) → (w ≡ why.Here) ⊎ (w ≢ why.Here)
why_decided why.Here = inl refl
why_decided why.Gone = inr (λ is. cc)
why_decided why.NoSuper = inr (λ is. cc)
why_decided why.OtherArray = inr (λ is. cc)
why_decided why.OtherSlot = inr (λ is. cc)
why_decided why.MarkedDown = inr (λ is. cc)
why_decided why.OtherJoined = inr (λ is. cc)
why_decided why.Rebuilding = inr (λ is. cc)

pub twice_at : (joining : Option ℕ) (j : ℕ) → joining ≡ Some j → is_twice joining j ≡ true
twice_at None j is = absurd (cc)
twice_at (Some slot) j is = let same : slot ≡ j = cc in eq-eqb slot j same

module _ (slots : Slots) (m0 m mid begun : Membership) (aim : EpochChange) (twice : Option ℕ) (editions : List Edition) (old h0 h : List Happening)
    (far : SoFar slots m0 mid twice editions old h) (rules0 : IsMembership m0) (rules : IsMembership m) (live : Slots)
    (lives : (j : ℕ) → HasSlot live j ↔ IsLiveSlot m j) (few : AtMost m.array.geometry.m (IsMissing m)) (room : m.drawn < 2 ^ 64 - 1)
    (places : PlacesBelow (with_draw m) mid live None 32) (spread : SpreadBelow (with_draw m) live None 32 h0 h) (sooner : Ran (IsIssuing slots editions) old h0)
    (among : Contains editions (edition_of (with_draw m))) (begins : Begins aim mid begun)
    (single : (j : ℕ) → IsLiveSlot m j → (is_twice twice j ≡ false) × (admitted aim ≢ Some j)) (more : m0.drawn ≤ m.drawn)
    (within : (j : ℕ) → IsLiveSlot m j → HasSlot slots j) where
  mid_array : mid.array ≡ m.array
  mid_array = ap (λ (x : Membership). x.array) places.rest

  mid_drawn : mid.drawn ≡ m.drawn + 1
  mid_drawn = ap (λ (x : Membership). x.drawn) places.rest

  earlier : (e : Edition) → Contains editions e → e.array.epoch ≤ m.array.epoch
  earlier e is_among =
      elim (subst (λ (a : Configuration). (e.array ≡ a) ⊎ (e.array.epoch < a.epoch)) mid_array (far.latest e is_among)) [
        | inl same ↦ let at : e.array.epoch ≡ m.array.epoch = ap (λ (a : Configuration). a.epoch) same in omega arith
        | inr less ↦ omega arith
      ]

  known : m.array.epoch ≤ m.drawn
  known = rules.known

  epoch_is : begun.array.epoch ≡ m.drawn + 1
  epoch_is = begins.names.epoch_is ∙ mid_drawn

  geometry_is : begun.array.geometry ≡ m.array.geometry
  geometry_is = begins.names.geometry ∙ ap (λ (a : Configuration). a.geometry) mid_array

  newest_of : (j : ℕ) → j < m.array.geometry.n → ¬ HasSlot few.slots j
      → GotNewest slots begun begun.array.epoch m.array.epoch editions old h j × (is_twice twice j ≡ false)
  newest_of j below out =
      elim (why_decided (why_of m j)) [
        | inr other ↦ absurd (out (few.within j (record { below = below; why = other })))
        | inl here ↦ (has (record { below = below; why = here }), (single j (record { below = below; why = here })).0)
      ]
    where
      small : j < 32
      small = let most : m.array.geometry.n ≤ 32 = rules.array.limits.devices.1 in omega (arith, below, most)

      has : IsLiveSlot m j → GotNewest slots begun begun.array.epoch m.array.epoch editions old h j
      has is_live =
          let on = (lives j).1 is_live in
          let at : place_of m j < 2 = rules.places j small in
          let turned : place_of mid j ≡ 1 - place_of m j = places.done j small on in
          let begun_at : place_of begun j ≡ place_of mid j = ap (λ (p : List ℕ). slice_index p j) begins.places in
          let back : 1 - place_of begun j ≡ place_of m j = omega (arith, at, turned, begun_at) in record {
            slot = within j is_live;
            newest = record {
              edition = edition_of (with_draw m);
              among = among;
              formed =
                  (issue_formed (with_draw m) j (draw_rules m rules room)
                  (record { below = is_live.below; why = inl is_live.why })).1;
              draws = omega (arith, epoch_is);
              reaches = omega arith;
              on_disk =
                  subst (λ k. IsOnDisk old h j k (copy_of (edition_of (with_draw m)) j)) (sym back)
                  (IsKept-since (pulls_on {allowed = IsIssuing slots editions} j sooner) (spread.stands j (place_of m j) small on (inl refl)));
            };
            got =
                subst (λ k. HasGot old h j k (copy_of (edition_of (with_draw m)) j)) (sym back)
                (got_sooner {a = IsIssuing slots editions} sooner (spread.got j (place_of m j) small on (inl refl)));
          }

  least_epoch : m0.array.epoch ≤ m.array.epoch
  least_epoch =
      let known0 : m0.array.epoch ≤ m0.drawn = rules0.known in
      elim (subst (λ (a : Configuration). (a ≡ m0.array) ⊎ (m0.drawn < a.epoch)) mid_array far.began) [
        | inl same ↦ let at : m.array.epoch ≡ m0.array.epoch = ap (λ (a : Configuration). a.epoch) same in omega arith
        | inr less ↦ omega (arith, less, known0)
      ]

  least_drawn : m0.drawn < begun.array.epoch
  least_drawn = omega (arith, more, epoch_is)

  pub so_far_begun : SoFar slots m0 begun twice editions old h
  so_far_begun = record {
    ran = far.ran;
    each = λ e is_among. subst (λ d. IsNew m0 d e) (sym begins.drawn) (far.each e is_among);
    latest = λ e is_among. let most = earlier e is_among in inr (omega (arith, most, known, epoch_is));
    one_list = far.one_list;
    reserved = far.reserved;
    steady = far.steady;
    apart = far.apart;
    standing =
        Later m.array.epoch least_epoch (omega (arith, known, epoch_is)) (λ e is_among. inr (earlier e is_among))
        (subst
        (λ (g : Geometry). AllBut g.n g.m (λ j. GotNewest slots begun begun.array.epoch m.array.epoch editions old h j × (is_twice twice j ≡ false)))
        (sym geometry_is) (record { exceptions = few.slots; formed = few.formed; few = few.few; others = newest_of }));
    began = inr least_drawn;
    geometry = begins.names.geometry ∙ far.geometry;
    least = subst (λ d. m0.drawn ≤ d) (sym begins.drawn) far.least;
    rising = far.rising;
    safe = λ j small some. safe_like m0 mid begun editions old h j (ap (λ (p : List ℕ). slice_index p j) begins.places) (far.safe j small some);
    safely = far.safely;
  }

-- where the epoch is a new one, all slots but m were given a draw for it
pub drew_of : (slots : Slots) (m0 m : Membership) (twice : Option ℕ) (editions : List Edition) (old h : List Happening)
    → SoFar slots m0 m twice editions old h → m0.array.epoch < m.array.epoch
    → AllBut m0.array.geometry.n m0.array.geometry.m (λ j. WasGiven slots editions m.array.epoch m0.array.epoch old h j)
drew_of slots m0 m twice editions old h far less = by far.standing
  where
    by : Standing slots m0 m twice editions old h
        → AllBut m0.array.geometry.n m0.array.geometry.m (λ j. WasGiven slots editions m.array.epoch m0.array.epoch old h j)
    by (First same) = absurd (omega (arith, same, less))
    by (Later previous least before others have) =
        subst (λ (g : Geometry). AllBut g.n g.m (λ j. WasGiven slots editions m.array.epoch m0.array.epoch old h j)) far.geometry
        (all_but_mapped
        (λ j below newest.
        let n = newest.0.newest in
        let reaches : previous ≤ n.edition.array.epoch = n.reaches in
        record {
          slot = newest.0.slot;
          has = record {
            edition = n.edition;
            among = n.among;
            formed = n.formed;
            draws = n.draws;
            reaches = omega (arith, reaches, least);
            place = 1 - place_of m j;
            place_in = omega arith;
            on_disk = n.on_disk;
          };
          got = newest.0.got;
        }) have)

-- ---- a whole round

issuing_beside : (slots : Slots) (editions : List Edition) (j : ℕ) (c : SlotCall) → IsIssuing slots editions j c → IsBesideAttach c
issuing_beside slots editions j c (AWrite e k answer on among formed small is) = subst IsBesideAttach (sym is) tt
issuing_beside slots editions j c (ASync answer on is) = subst IsBesideAttach (sym is) tt

-- these slots are offline, where they were held and had both places
abbrev pub AreShut : (ℕ → Type 0) → List Happening → List Happening → Type 0
AreShut gone old h =
    (before : List Happening) (j : ℕ) → gone j → IsHeld before old j → HasPlaces (slot_state old j) → IsOfflineUntilAttached before h j

-- it has come so far: what each edition names is one of `named`, and an epoch of the last draw was written
pub record HasCome (slots : Slots) (m0 m : Membership) (twice : Option ℕ) (gone : ℕ → Type 0) (named : Configuration → Type 0) (old h : List Happening)
    : Type 0 where
  pub editions : List Edition
  pub far : SoFar slots m0 m twice editions old h
  pub shut : AreShut gone old h
  pub told : Ran (IsGoneOf gone) old h
  pub names : (e : Edition) → Contains editions e → named e.array
  pub newest : m0.drawn < m.drawn → m.array.epoch ≡ m.drawn → Contains editions (edition_of m)

pub come_first : (slots : Slots) (m0 : Membership) (twice : Option ℕ) (gone : ℕ → Type 0) (named : Configuration → Type 0) (h : List Happening)
    → ((j : ℕ) → ¬ gone j) → HasCome slots m0 m0 twice gone named h h
come_first slots m0 twice gone named h none = record {
  editions = [];
  far = so_far_first slots m0 twice h;
  shut = λ before j is held has. absurd (none j is);
  told = ran_none h;
  names = λ e among. absurd (omega (arith, among.1));
  newest = λ more epoch. absurd (omega (arith, more));
}

pub come_like : (slots : Slots) (m0 m m' : Membership) (twice : Option ℕ) (gone gone' : ℕ → Type 0) (named named' : Configuration → Type 0)
    (old h : List Happening) → m'.array ≡ m.array → m'.places ≡ m.places → m'.drawn ≡ m.drawn → ((j : ℕ) → gone' j ↔ gone j)
    → ((c : Configuration) → named c → named' c) → HasCome slots m0 m twice gone named old h → HasCome slots m0 m' twice gone' named' old h
come_like slots m0 m m' twice gone gone' named named' old h same places drawn within wider come = record {
  editions = come.editions;
  far = so_far_like slots m0 m m' twice come.editions old h same places (omega (arith, drawn)) come.far;
  shut = λ before j is held has. come.shut before j ((within j).0 is) held has;
  told = gone_wider {P = gone} {Q = gone'} (λ j is. (within j).1 is) come.told;
  names = λ e among. wider e.array (come.names e among);
  newest = λ more epoch.
      subst (λ (e : Edition). Contains come.editions e) (sym (edition_same same drawn))
      (come.newest (omega (arith, more, drawn)) (sym (ap (λ (a : Configuration). a.epoch) same) ∙ epoch ∙ drawn));
}
  where
    edition_same : m'.array ≡ m.array → m'.drawn ≡ m.drawn → edition_of m' ≡ edition_of m
    edition_same array draw = cc

-- a pass after it
shut_more : (slots : Slots) (m0 m b last : Membership) (twice twice_now : Option ℕ) (gone : ℕ → Type 0) (named : Configuration → Type 0)
    (old h new : List Happening) (to : Slots) (which : Option ℕ) → HasCome slots m0 m twice gone named old h → Spread b last to twice_now which h new
    → AreShut (λ j. gone j ⊎ (which ≡ Some j)) old new
shut_more slots m0 m b last twice twice_now gone named old h new to which come spread before j (inl is) held has =
    offline_on {allowed = IsSpreading b to twice_now} {before = before} j (spreading_beside b to twice_now j) spread.below.ran (come.shut before j is held has)
shut_more slots m0 m b last twice twice_now gone named old h new to which come spread before j (inr is) held has =
    spread.shut j is before (held_on {allowed = IsIssuing slots come.editions} {before = before} j come.far.ran held)
    (reach_on {allowed = IsIssuing slots come.editions} j 1 (issuing_beside slots come.editions j) come.far.ran has)

told_more : (gone : ℕ → Type 0) (old h new : List Happening) (which : Option ℕ) → Ran (IsGoneOf gone) old h
    → Ran (IsGoneOf (λ j. which ≡ Some j)) h new → Ran (IsGoneOf (λ j. gone j ⊎ (which ≡ Some j))) old new
told_more gone old h new which before now =
    ran_join (gone_wider {P = gone} {Q = λ j. gone j ⊎ (which ≡ Some j)} (λ j is. inl is) before)
    (gone_wider {P = λ j. which ≡ Some j} {Q = λ j. gone j ⊎ (which ≡ Some j)} (λ j is. inr is) now)

module _ (slots : Slots) (m0 m : Membership) (twice : Option ℕ) (gone : ℕ → Type 0) (named : Configuration → Type 0) (old h : List Happening)
    (come : HasCome slots m0 m twice gone named old h) (dropped : (c : Configuration) (j : ℕ) → named c → IsDropped twice m0 c j → gone j)
    (is_named : named m.array) (rules0 : IsMembership m0) (rules : IsMembership m) (room : m.drawn < 2 ^ 64 - 1) (live : Slots)
    (lives : (j : ℕ) → HasSlot live j ↔ IsLiveSlot m j) (within : (j : ℕ) → IsLiveSlot m j → HasSlot slots j) where
  drawing : SoFar slots m0 (with_draw m) twice come.editions old h
  drawing = so_far_like slots m0 m (with_draw m) twice come.editions old h refl refl (omega arith) come.far

  live_formed : (j : ℕ) → HasSlot live j → (j < 32) × IsSuperblock (issue (with_draw m) j)
  live_formed j on =
      let is = (lives j).0 on in
      issue_formed (with_draw m) j (draw_rules m rules room) (record { below = is.below; why = inl is.why })

  least : m0.drawn < m.drawn + 1
  least = let more : m0.drawn ≤ m.drawn = come.far.least in omega arith

  names_drawn : (e : Edition) → Contains (with_edition come.editions (edition_of (with_draw m))) e → named e.array
  names_drawn e among =
      elim (Contains-push_cases come.editions (edition_of (with_draw m)) e among) [
        | inl earlier ↦ come.names e earlier
        | inr is ↦ subst (λ (x : Edition). named x.array) is is_named
      ]

  drawn_far : (last : Membership) (which : Option ℕ) (new : List Happening) → Spread (with_draw m) last live None which h new
      → PlacesBelow (with_draw m) last live None (unwrap_or which 32)
      → SoFar slots m0 last twice (with_edition come.editions (edition_of (with_draw m))) old new
  drawn_far last which new spread places =
      stage slots m0 (with_draw m) last twice None come.editions old h new live which (unwrap_or which 32) drawing rules0 (draw_rules m rules room) least
      spread.below places spread.left (λ j on. within j ((lives j).0 on)) live_formed (λ j is. refl)
      (λ e j among drops before held has. come.shut before j (dropped e.array j (names_drawn e among) drops) held has)

  pub come_drawn : (last : Membership) (which : Option ℕ) (new : List Happening) → Spread (with_draw m) last live None which h new
      → PlacesBelow (with_draw m) last live None (unwrap_or which 32)
      → HasCome slots m0 last twice (λ j. gone j ⊎ (which ≡ Some j)) named old new
  come_drawn last which new spread places = record {
    editions = with_edition come.editions (edition_of (with_draw m));
    far = drawn_far last which new spread places;
    shut = shut_more slots m0 m (with_draw m) last twice None gone named old h new live which come spread;
    told = told_more gone old h new which come.told spread.told;
    names = names_drawn;
    newest = λ more epoch.
        let known : m.array.epoch ≤ m.drawn = rules.known in
        let array : last.array.epoch ≡ m.array.epoch = ap (λ (x : Membership). x.array.epoch) places.rest in
        let drawn : last.drawn ≡ m.drawn + 1 = ap (λ (x : Membership). x.drawn) places.rest in
        absurd (omega (arith, known, array, drawn, epoch));
  }

  module _ (aim : EpochChange) (mid begun last : Membership) (between new : List Happening) (which : Option ℕ) (here : Slots)
      (few : AtMost m.array.geometry.m (IsMissing m)) (spread : Spread (with_draw m) mid live None None h between)
      (places : PlacesBelow (with_draw m) mid live None 32) (begins : Begins aim mid begun) (begun_rules : IsMembership begun)
      (heres : (j : ℕ) → HasSlot here j ↔ IsHere begun j) (here_within : (j : ℕ) → IsHere begun j → HasSlot slots j)
      (spread_here : Spread begun last here (admitted aim) which between new) (places_here : PlacesBelow begun last here (admitted aim) (unwrap_or which 32))
      (single : (j : ℕ) → IsLiveSlot m j → (is_twice twice j ≡ false) × (admitted aim ≢ Some j))
      (only : (j : ℕ) → is_twice twice j ≡ false → is_twice (admitted aim) j ≡ false) (begun_named : named begun.array) where
    begun_far : SoFar slots m0 begun twice (with_edition come.editions (edition_of (with_draw m))) old between
    begun_far =
        so_far_begun slots m0 m mid begun aim twice (with_edition come.editions (edition_of (with_draw m))) old h between
        (drawn_far mid None between spread places) rules0 rules live lives few room places spread.below
        (ran_weakened {allowed = IsIssuing slots come.editions} {more = IsIssuing slots (with_edition come.editions (edition_of (with_draw m)))}
        (λ j c is. wider come.editions (edition_of (with_draw m)) j c is) come.far.ran) (Contains-push come.editions (edition_of (with_draw m))) begins single
        come.far.least within
      where
        wider : (editions : List Edition) (e : Edition) (j : ℕ) (c : SlotCall) → IsIssuing slots editions j c
            → IsIssuing slots (with_edition editions e) j c
        wider editions e j c (AWrite x k answer on among is_formed small same) =
            AWrite x k answer on (Contains-append_left editions (e ∷ []) x among) is_formed small same
        wider editions e j c (ASync answer on same) = ASync answer on same

    here_formed : (j : ℕ) → HasSlot here j → (j < 32) × IsSuperblock (issue begun j)
    here_formed j on = issue_formed begun j begun_rules ((heres j).0 on)

    drawn_is : begun.drawn ≡ m.drawn + 1
    drawn_is = begins.drawn ∙ ap (λ (x : Membership). x.drawn) places.rest

    names_begun : (e : Edition)
        → Contains (with_edition (with_edition come.editions (edition_of (with_draw m))) (edition_of begun)) e → named e.array
    names_begun e among =
        elim (Contains-push_cases (with_edition come.editions (edition_of (with_draw m))) (edition_of begun) e among) [
          | inl earlier ↦ names_drawn e earlier
          | inr is ↦ subst (λ (x : Edition). named x.array) is begun_named
        ]

    shut_drawn : AreShut (λ j. gone j ⊎ (no_slot ≡ Some j)) old between
    shut_drawn = shut_more slots m0 m (with_draw m) mid twice None gone named old h between live None come spread

    far_begun : SoFar slots m0 last twice (with_edition (with_edition come.editions (edition_of (with_draw m))) (edition_of begun)) old new
    far_begun =
        stage slots m0 begun last twice (admitted aim) (with_edition come.editions (edition_of (with_draw m))) old between new here which
        (unwrap_or which 32) begun_far rules0 begun_rules (omega (arith, least, drawn_is)) spread_here.below places_here
        spread_here.left (λ j on. here_within j ((heres j).0 on)) here_formed only
        (λ e j among drops before held has. shut_drawn before j (inl (dropped e.array j (names_begun e among) drops)) held has)

    pub come_begun : HasCome slots m0 last twice (λ j. gone j ⊎ (which ≡ Some j)) named old new
    come_begun = record {
      editions = with_edition (with_edition come.editions (edition_of (with_draw m))) (edition_of begun);
      far = far_begun;
      shut = λ before j is held has.
          let nothing : Option ℕ = None in
          elim is [
            | inl was ↦
                shut_more slots m0 mid begun last twice (admitted aim) (λ j. gone j ⊎ (nothing ≡ Some j)) named old between new here which
                (come_drawn mid None between spread places) spread_here before j (inl (inl was)) held has
            | inr now ↦
                shut_more slots m0 mid begun last twice (admitted aim) (λ j. gone j ⊎ (nothing ≡ Some j)) named old between new here which
                (come_drawn mid None between spread places) spread_here before j (inr now) held has
          ];
      told =
          told_more gone old between new which
          (gone_wider {P = λ j. gone j ⊎ (no_slot ≡ Some j)} {Q = gone}
          (λ j is. elim is [ inl was ↦ was | inr never ↦ let clash : no_slot ≡ Some j = never in absurd (cc) ])
          (told_more gone old h between no_slot come.told spread.told)) spread_here.told;
      names = names_begun;
      newest = λ more epoch.
          subst (λ (x : Membership). Contains (with_edition (with_edition come.editions (edition_of (with_draw m))) (edition_of begun)) (edition_of x))
          (sym places_here.rest) (Contains-push (with_edition come.editions (edition_of (with_draw m))) (edition_of begun));
    }

    -- the epoch stands
    pub stands_then : which ≡ None → StandsOnDisk (admitted aim) last old new
    stands_then none = record {
      got = λ j k is which_place.
          let on = on_here j is in
          let small = (here_formed j on).0 in
          let below : j < unwrap_or which 32 = subst (λ (o : Option ℕ). j < unwrap_or o 32) (sym none) small in
          let of_place : IsGiven begun (is_twice (admitted aim) j) j k =
          elim which_place [
            | inl at ↦ subst (λ (x : ℕ). IsGiven begun (is_twice (admitted aim) j) j x) (sym at) (given j on below)
            | inr joins ↦ inr (twice_at (admitted aim) j joins.0, joins.1)
          ] in
          subst (λ (x : Membership). HasGot old new j k (copy_of (edition_of x) j)) (sym places_here.rest)
          (got_sooner {a = IsIssuing slots (with_edition come.editions (edition_of (with_draw m)))} begun_far.ran
          (spread_here.below.got j k below on of_place));
      on_disk = λ j is.
          let on = on_here j is in
          let small = (here_formed j on).0 in
          let below : j < unwrap_or which 32 = subst (λ (o : Option ℕ). j < unwrap_or o 32) (sym none) small in
          subst (λ (x : Membership). IsOnDisk old new j (1 - place_of last j) (copy_of (edition_of x) j)) (sym places_here.rest)
          (IsKept-since (pulls_on {allowed = IsIssuing slots (with_edition come.editions (edition_of (with_draw m)))} j begun_far.ran) (spread_here.below.stands j (1 - place_of last j) below on (given j on below)));
      in_both = λ j k joins is small.
          let on = on_here j is in
          let below : j < unwrap_or which 32 = subst (λ (o : Option ℕ). j < unwrap_or o 32) (sym none) (here_formed j on).0 in
          subst (λ (x : Membership). IsOnDisk old new j k (copy_of (edition_of x) j)) (sym places_here.rest)
          (IsKept-since (pulls_on {allowed = IsIssuing slots (with_edition come.editions (edition_of (with_draw m)))} j begun_far.ran)
          (spread_here.below.stands j k below on (inr (twice_at (admitted aim) j joins, small))));
      synced = λ j k is some.
          let on = on_here j is in
          let below : j < unwrap_or which 32 = subst (λ (o : Option ℕ). j < unwrap_or o 32) (sym none) (here_formed j on).0 in
          IsKept-onward {P = λ s. ⊤} {Q = λ s. s.since ≡ []} {R = λ s. s.since ≡ []}
          (pulls_on {allowed = IsSpreading begun here (admitted aim)} j spread_here.below.ran)
          (medium_on {allowed = IsIssuing slots (with_edition come.editions (edition_of (with_draw m)))} j k begun_far.ran some)
          (λ there. spread_here.below.synced j k below on there) (λ s was now. inr now);
      going = λ j is. let on = on_here j is in spread_here.going none j (here_formed j on).0 on;
    }
      where
        on_here : (j : ℕ) → IsHere last j → HasSlot here j
        on_here j is =
            (heres j).1
            (record {
              below = subst (λ (x : Membership). j < x.array.geometry.n) places_here.rest is.below;
              why = subst (λ (x : Membership). (why_of x j ≡ why.Here) ⊎ (why_of x j ≡ why.Rebuilding)) places_here.rest is.why;
            })

        given : (j : ℕ) → HasSlot here j → j < unwrap_or which 32 → IsGiven begun (is_twice (admitted aim) j) j (1 - place_of last j)
        given j on below = given_last begun last (admitted aim) j (begun_rules.places j (here_formed j on).0) (places_here.done j below on)
