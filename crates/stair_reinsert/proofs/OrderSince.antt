-- What is kept of the order of superblocks, wherever media lie, at a moment of a call that establishes an epoch.
use Rattle.std.proofs.Common.{◌≡◌, ◌≢◌, ℕ, zero, suc, ◌<◌, ◌≤◌, List, [], ◌∷◌, ◌⊎◌, inl, inr, refl, sym, ap, ◌∙◌, subst, arith, Option, None, Some}
use Rattle.std.specs.Prelude.{Contains, not}
use Rattle.std.proofs.lemmas.Bool.{cases_eq, cases_lt}
use Rattle.stair_model.specs.Geometry.{Geometry}
use Rattle.stair_model.specs.Slots.{HasSlot, Slots}
use Rattle.stair_rack.specs.Answers.{IsHistory, Ran}
use Rattle.stair_rack.specs.Crash.{CrashMayLeave, image_now}
use Rattle.stair_rack.specs.History.{Happening, slot_state, stopped}
use Rattle.stair_rack.specs.Media.{Image, Medium}
use Rattle.stair_rack.specs.Moments.{IsMoment}
use Rattle.stair_rack.specs.Offline.{IsAttached}
use Rattle.stair_rack.specs.Sector.{Cell, Good}
use Rattle.stair_rack.proofs.MomentLemmas.{ran_before}
use Rattle.stair_rack.proofs.OfflineLemmas.{and-true_left}
use Rattle.stair_rack.proofs.TidyLemmas.{history_tidy}
use Rattle.stair_super.specs.Spelling.{spelled}
use Rattle.stair_super.specs.Superblock.{IsSuperblock, Superblock, joined_at, joined_in, mark_in}
use Rattle.stair_super.specs.declared.configuration.Configuration.{Configuration}
use Rattle.stair_super.specs.declared.mark.Mark.TheVariants as mark
use Rattle.stair_member.specs.Aims.{IsAimed, admitted}
use Rattle.stair_member.specs.Counting.{AllBut}
use Rattle.stair_member.specs.Current.{ByOutside, IsLost}
use Rattle.stair_member.specs.Editions.{Edition, copy_of}
use Rattle.stair_member.specs.Epochs.{AreReserved, IsIssued, IsIssuing, Issued, WasGiven}
use Rattle.stair_member.specs.Fencing.{IsCopy}
use Rattle.stair_member.specs.Membership.{IsHere, Membership}
use Rattle.stair_member.specs.Reserve.{Bears}
use Rattle.stair_member.specs.Superblocks.{First, HoldsSuper, IsSuperOf, Second}
use Rattle.stair_member.specs.declared.aim.EpochChange.{EpochChange}
use Rattle.stair_member.proofs.CountingLemmas.{all_but_mapped}
use Rattle.stair_member.proofs.EditionLemmas.{bears_below, holds_copy}
use Rattle.stair_member.proofs.NumberLemmas.{block_named, joined_most}
use Rattle.stair_member.proofs.NewestLemmas.{super_no_older, IsNoOlder}
use Rattle.stair_state.specs.Holding.{HasOvertaken, CurrentMediumReserved, CurrentMedia, OfAdmitted}
use Rattle.stair_state.specs.Reassembly.{InSlot, IsBorne, IsMediumOf, Location}
use Rattle.stair_state.specs.Represents.{AreSteady}
use Rattle.stair_invariant.specs.Returning.{IsKnownWherever}
use Rattle.stair_reinsert.specs.Beginning.{HasDrawnAll}
use Rattle.stair_reinsert.specs.Following.{name_of}
use Rattle.stair_reinsert.specs.Given.{HasCopy, KnowsSuper}
use Rattle.stair_reinsert.proofs.BorneSince.{Before, Given, IsBorneOf, IsGiven, IsLaterOf, Was, WasSuper, borne_since, later_since}
use Rattle.stair_reinsert.proofs.GivenLemmas.{given_wherever, issuing_ran}
use Rattle.stair_reinsert.proofs.NameLemmas.{name_apart, still_attached}

pub decided : (o : Option ℕ) (i : ℕ) → (o ≡ Some i) ⊎ (o ≢ Some i)
decided None i = inr (λ same. cc)
decided (Some k) i =
    elim (cases_eq k i) [
      | inl same ↦ inl (ap Some same)
      | inr other ↦ inr (λ same. other (once same))
    ]
  where
    once : {x y : ℕ} → Some x ≡ Some y → x ≡ y
    once same = cc

-- a joined number is at most the epoch
pub joined_upto : {cell : Cell} (s : Superblock) → HoldsSuper cell s → s.joined ≤ s.array.epoch
joined_upto s holds =
    let formed = holds.spells.block.rules in
    let own : s.joined ≡ joined_at s s.slot = formed.own in
    let most : joined_at s s.slot ≤ s.array.epoch = joined_most s.array s.slot (block_named s holds.spells.block) formed.here in
    omega (arith, own, most)

pub super_bears : {g : Geometry} {cell : ℕ → Cell} {j : ℕ} (x : Superblock) → IsSuperOf cell x → x.slot ≡ j → x.array.geometry ≡ g → Bears g j cell x
super_bears x (First holds rest) slot geometry =
    record { place = 0; place_in = omega arith; holds = holds; slot = slot; identity = geometry }
super_bears x (Second holds rest) slot geometry =
    record { place = 1; place_in = omega arith; holds = holds; slot = slot; identity = geometry }

-- THE GREATEST EPOCH OF A LIST OF EDITIONS

contains_cases : (x : Edition) (xs : List Edition) (e : Edition) → Contains (x ∷ xs) e → (x ≡ e) ⊎ Contains xs e
contains_cases x xs e (zero, less, is) = inl is
contains_cases x xs e (suc k, less, is) = inr (k, omega (arith, less), is)

contains_more : (x : Edition) (xs : List Edition) (e : Edition) → Contains xs e → Contains (x ∷ xs) e
contains_more x xs e (k, less, is) = (suc k, omega (arith, less), is)

-- one of these is of the greatest epoch, which is above this number
record HasGreatest (least : ℕ) (b : List Edition) : Type 0 where
  edition : Edition
  among : Contains b edition
  above : least < edition.array.epoch
  most : (e : Edition) → Contains b e → e.array.epoch ≤ edition.array.epoch

greatest : (old : Configuration) (least : ℕ) → old.epoch ≤ least → (b : List Edition)
    → ((e : Edition) → Contains b e → (e.array ≡ old) ⊎ (least < e.array.epoch))
    → ((e : Edition) → Contains b e → e.array ≡ old) ⊎ HasGreatest least b
greatest old least low [] each = inl (λ e has. absurd (omega (arith, has.1)))
greatest old least low (x ∷ xs) each = by (greatest old least low xs (λ e has. each e (contains_more x xs e has))) (each x (zero, omega arith, refl))
  where
    by : ((e : Edition) → Contains xs e → e.array ≡ old) ⊎ HasGreatest least xs → (x.array ≡ old) ⊎ (least < x.array.epoch)
        → ((e : Edition) → Contains (x ∷ xs) e → e.array ≡ old) ⊎ HasGreatest least (x ∷ xs)
    by (inl all) (inl same) =
        inl (λ e has. elim (contains_cases x xs e has) [ inl is ↦ sym (ap (λ (z : Edition). z.array) is) ∙ same | inr later ↦ all e later ])
    by (inl all) (inr new) = inr (record {
      edition = x;
      among = (zero, omega arith, refl);
      above = new;
      most = λ e has.
          elim (contains_cases x xs e has) [
            | inl is ↦ let epoch : x.array.epoch ≡ e.array.epoch = ap (λ (z : Edition). z.array.epoch) is in omega (arith, epoch)
            | inr later ↦ let epoch : e.array.epoch ≡ old.epoch = ap (λ (c : Configuration). c.epoch) (all e later) in omega (arith, epoch, new, low)
          ];
    })
    by (inr top) same = pick (cases_lt top.edition.array.epoch x.array.epoch)
      where
        pick : (top.edition.array.epoch < x.array.epoch) ⊎ (x.array.epoch ≤ top.edition.array.epoch)
            → ((e : Edition) → Contains (x ∷ xs) e → e.array ≡ old) ⊎ HasGreatest least (x ∷ xs)
        pick (inl less) = inr (record {
          edition = x;
          among = (zero, omega arith, refl);
          above = let more : least < top.edition.array.epoch = top.above in omega (arith, more, less);
          most = λ e has.
              elim (contains_cases x xs e has) [
                | inl is ↦ let epoch : x.array.epoch ≡ e.array.epoch = ap (λ (z : Edition). z.array.epoch) is in omega (arith, epoch)
                | inr later ↦ let upto : e.array.epoch ≤ top.edition.array.epoch = top.most e later in omega (arith, upto, less)
              ];
        })
        pick (inr more) = inr (record {
          edition = top.edition;
          among = contains_more x xs top.edition top.among;
          above = top.above;
          most = λ e has.
              elim (contains_cases x xs e has) [
                | inl is ↦ let epoch : x.array.epoch ≡ e.array.epoch = ap (λ (z : Edition). z.array.epoch) is in omega (arith, epoch, more)
                | inr later ↦ top.most e later
              ];
        })

-- wherever it lies, the holder of slot j has reached this epoch, unless a superblock place of it is lost
abbrev pub CurrentMediumReached : Geometry → CurrentMedia → Image → ℕ → ℕ → Type 0
CurrentMediumReached g current_media image epoch j = (joined : ℕ) → current_media j ≡ Some joined → OfAdmitted g image joined (λ x. epoch ≤ x.array.epoch) j

-- THE CALL

module _ (aim : EpochChange) (gone : Slots) (m last : Membership) (old h new : List Happening) (issued : Issued aim gone m last old new)
    (at : IsMoment old h new) (history : IsHistory old) (steady : AreSteady m.array.geometry old) (seen : m.array.epoch ≤ m.drawn)
    (known : IsKnownWherever (admitted aim) m (IsAttached old) (image_now old))
    (knows : (j : ℕ) → HasSlot issued.slots j → IsAttached old j → KnowsSuper m old j) (so : AreReserved (admitted aim) issued.slots issued.editions m old h)
    (image : Image) (left : CrashMayLeave h image) where
  abbrev g : Geometry
  g = m.array.geometry

  abbrev IsSince : ℕ → Location → Superblock → Type 0
  IsSince j name s = IsBorneOf issued.slots so.editions m.array.geometry old j name s

  borne : (j : ℕ) (p : Location) (s : Superblock) → IsBorne g image j p s → IsSince j (name_of h j p) s
  borne = borne_since issued.slots so.editions g old h history so.ran steady image left

  issue : (e : Edition) → Contains so.editions e → IsIssued aim (HasSlot gone) m last e
  issue e among = issued.each e (so.within e among)

  -- it is what the member has, or of an epoch above all that were seen
  pub new_or_same : (e : Edition) → Contains so.editions e → (e.array ≡ m.array) ⊎ (m.drawn < e.array.epoch)
  new_or_same e among = elim (issue e among).epoch [ inl same ↦ inl same | inr aimed ↦ inr aimed.0 ]

  -- AN EPOCH NAMES ONE CONFIGURATION

  old_and_copy : (i j : ℕ) (p : Location) (s t : Superblock) → IsBorne g (image_now old) i p s → IsCopy issued.slots so.editions j t
      → s.array.epoch ≡ t.array.epoch → s.array ≡ t.array
  old_and_copy i j p s t first copy same =
      let array : t.array ≡ copy.edition.array = ap (λ (x : Superblock). x.array) copy.is in
      let epoch : t.array.epoch ≡ copy.edition.array.epoch = ap (λ (c : Configuration). c.epoch) array in
      elim (new_or_same copy.edition copy.among) [
        | inl is ↦
            let of_m : copy.edition.array.epoch ≡ m.array.epoch = ap (λ (c : Configuration). c.epoch) is in
            known.named i p s first (same ∙ epoch ∙ of_m) ∙ sym is ∙ sym array
        | inr above ↦
            let most : s.array.epoch ≤ m.drawn = known.covered i p s first in
            absurd (omega arith)
      ]

  pub one_list_since : ((i j : ℕ) (p q : Location) (s t : Superblock) → IsBorne g (image_now old) i p s → IsBorne g (image_now old) j q t
      → s.array.epoch ≡ t.array.epoch → s.array ≡ t.array)
      → (i j : ℕ) (p q : Location) (s t : Superblock) → IsBorne g image i p s → IsBorne g image j q t → s.array.epoch ≡ t.array.epoch
      → s.array ≡ t.array
  one_list_since held i j p q s t first second same = by (borne i p s first) (borne j q t second)
    where
      by : IsSince i (name_of h i p) s → IsSince j (name_of h j q) t → s.array ≡ t.array
      by (Before there named x) (Before here also y) = held i j there here s t x y same
      by (Before there named x) (Given own used y) = old_and_copy i j there s t x y same
      by (Given own used x) (Before here also y) = sym (old_and_copy j i here t s y x (sym same))
      by (Given own used x) (Given too on y) =
          let of_x : s.array ≡ x.edition.array = ap (λ (z : Superblock). z.array) x.is in
          let of_y : t.array ≡ y.edition.array = ap (λ (z : Superblock). z.array) y.is in
          of_x
          ∙ issued.one_list x.edition y.edition (so.within x.edition x.among) (so.within y.edition y.among)
          (sym (ap (λ (c : Configuration). c.epoch) of_x) ∙ same ∙ ap (λ (c : Configuration). c.epoch) of_y)
          ∙ sym of_y

  -- NO TWO MEDIA OF A SLOT HAVE ONE JOINED NUMBER

  -- the joined number of a copy: the one that the member means, or a new one
  pub data IsJoinedAs (j : ℕ) (s : Superblock) : Type 0 where
    AsMeant : IsHere m j → s.joined ≡ joined_in m.array j → IsJoinedAs j s
    Anew : admitted aim ≡ Some j → m.drawn < s.joined → IsJoinedAs j s

  pub joined_of : (j : ℕ) (s : Superblock) → IsSuperblock s → IsCopy issued.slots so.editions j s → IsJoinedAs j s
  joined_of j s formed copy = by (issue copy.edition copy.among).epoch (decided (admitted aim) j)
    where
      array : s.array ≡ copy.edition.array
      array = ap (λ (x : Superblock). x.array) copy.is

      slot : s.slot ≡ j
      slot = ap (λ (x : Superblock). x.slot) copy.is

      joined : s.joined ≡ joined_in copy.edition.array j
      joined = ap (λ (x : Superblock). x.joined) copy.is

      not_down : mark_in copy.edition.array j ≢ mark.Down
      not_down down =
          formed.rules.here
          (ap (λ (c : Configuration). mark_in c s.slot) array ∙ ap (λ (i : ℕ). mark_in copy.edition.array i) slot ∙ down)

      below : j < m.array.geometry.n
      below = elim (issued.taking j copy.slot) [ inl here ↦ here.below | inr joins ↦ joins.1 ]

      by : (copy.edition.array ≡ m.array) ⊎ ((m.drawn < copy.edition.array.epoch) × IsAimed aim (HasSlot gone) m copy.edition.array)
          → (admitted aim ≡ Some j) ⊎ (admitted aim ≢ Some j) → IsJoinedAs j s
      by (inl is) (inl joins) = absurd (not_down (ap (λ (c : Configuration). mark_in c j) is ∙ known.down j joins))
      by (inr aimed) (inl joins) =
          let is : joined_in copy.edition.array j ≡ copy.edition.array.epoch = aimed.1.joins j joins not_down in
          let above : m.drawn < copy.edition.array.epoch = aimed.0 in
          Anew joins (omega (arith, is, joined, above))
      by which (inr other) =
          elim (issued.taking j copy.slot) [
            | inl here ↦ AsMeant here (joined ∙ kept which)
            | inr joins ↦ absurd (other joins.0)
          ]
        where
          kept : (copy.edition.array ≡ m.array) ⊎ ((m.drawn < copy.edition.array.epoch) × IsAimed aim (HasSlot gone) m copy.edition.array)
              → joined_in copy.edition.array j ≡ joined_in m.array j
          kept (inl is) = ap (λ (c : Configuration). joined_in c j) is
          kept (inr aimed) = aimed.1.joined j below not_down other

  pub own_joined_since : ((j : ℕ) (p q : Location) (s t : Superblock) → IsBorne g (image_now old) j p s → IsBorne g (image_now old) j q t
      → s.joined ≡ t.joined → p ≡ q)
      → (j : ℕ) (p q : Location) (s t : Superblock) → IsBorne g image j p s → IsBorne g image j q t → s.joined ≡ t.joined → p ≡ q
  own_joined_since held j p q s t first second same = name_apart h j p q (by (borne j p s first) (borne j q t second))
    where
      old_and_new : (l : Location) (x y : Superblock) → IsAttached old j → IsBorne g (image_now old) j l x → IsJoinedAs j y → x.joined ≡ y.joined
          → l ≡ InSlot
      old_and_new l x y on first (AsMeant here is) agree = known.sole j l x here on first (agree ∙ is)
      old_and_new l x y on first (Anew joins above) agree =
          let most : x.array.epoch ≤ m.drawn = known.covered j l x first in
          let upto : x.joined ≤ x.array.epoch = joined_upto x first.bears.holds in
          absurd (omega arith)

      by : IsSince j (name_of h j p) s → IsSince j (name_of h j q) t → name_of h j p ≡ name_of h j q
      by (Before there named x) (Before here also y) =
          sym named ∙ ap (λ (l : Location). name_of old j l) (held j there here s t x y same) ∙ also
      by (Before there named x) (Given own used y) =
          sym named
          ∙ ap (λ (l : Location). name_of old j l) (old_and_new there s t used x (joined_of j t second.bears.holds.spells.block y) same)
          ∙ sym own
      by (Given own used x) (Before here also y) =
          own
          ∙ sym (ap (λ (l : Location). name_of old j l) (old_and_new here t s used y (joined_of j s first.bears.holds.spells.block x) (sym same)))
          ∙ also
      by (Given own used x) (Given too on y) = own ∙ sym too

  -- EARLIER EPOCHS STAY OVERTAKEN

  copy_epoch : (j : ℕ) (x : Superblock) → IsCopy issued.slots issued.editions j x → m.array.epoch ≤ x.array.epoch
  copy_epoch j x copy =
      let epoch : x.array.epoch ≡ copy.edition.array.epoch = ap (λ (y : Superblock). y.array.epoch) copy.is in
      elim (issued.each copy.edition copy.among).epoch [
        | inl same ↦ let is : copy.edition.array.epoch ≡ m.array.epoch = ap (λ (c : Configuration). c.epoch) same in omega arith
        | inr aimed ↦ let above : m.drawn < copy.edition.array.epoch = aimed.0 in omega (arith, above, epoch, seen)
      ]

  copy_draw : (j : ℕ) (x : Superblock) → IsCopy issued.slots issued.editions j x → m.drawn < x.draw
  copy_draw j x copy =
      let draw : x.draw ≡ copy.edition.draw = ap (λ (y : Superblock). y.draw) copy.is in
      let more : m.drawn < copy.edition.draw = (issued.each copy.edition copy.among).above in
      omega arith

  later : (j : ℕ) (p : Location) (medium : Medium) (x : Superblock) → IsMediumOf (image j) p medium → IsSuperOf medium.cell x → x.slot ≡ j
      → x.array.geometry ≡ g → ¬ IsLost (medium.cell 0) → ¬ IsLost (medium.cell 1) → IsLaterOf issued.slots issued.editions old j (name_of h j p) x
  later j p medium x is super slot geometry first second =
      later_since aim gone m last old h new issued at g history steady knows image left j (bears_below g j medium.cell x (super_bears x super slot geometry))
      p medium x is super first second

  -- what held of the media admitted in an epoch, and holds of each copy
  admitted_on : (j joined : ℕ) (Q : Superblock → Type 0) → ((x : Superblock) → IsCopy issued.slots issued.editions j x → Q x)
      → OfAdmitted g (image_now old) joined Q j → OfAdmitted g image joined Q j
  admitted_on j joined Q copies held p medium x is super slot geometry same first second =
      by (later j p medium x is super slot geometry first second)
    where
      by : IsLaterOf issued.slots issued.editions old j (name_of h j p) x → Q x
      by (IsGiven copy) = copies x copy
      by (Was place named then) = held place then.medium x then.is_one then.super slot geometry same then.first then.second

  pub overtaken_since : (since : ℕ) → since ≤ m.array.epoch
      → ((i : ℕ) (p : Location) (b : Superblock) → IsBorne g (image_now old) i p b → b.array.epoch < since
      → AllBut g.n g.m (HasOvertaken g (image_now old) b))
      → (i : ℕ) (p : Location) (b : Superblock) → IsBorne g image i p b → b.array.epoch < since → AllBut g.n g.m (HasOvertaken g image b)
  overtaken_since since least held i p b first earlier = by (borne i p b first)
    where
      by : IsSince i (name_of h i p) b → AllBut g.n g.m (HasOvertaken g image b)
      by (Given own used copy) =
          let epoch : m.array.epoch ≤ b.array.epoch =
          copy_epoch i b (record { slot = copy.slot; edition = copy.edition; among = so.within copy.edition copy.among; is = copy.is }) in
          absurd (omega arith)
      by (Before place named is) =
          all_but_mapped {P = HasOvertaken g (image_now old) b} {Q = HasOvertaken g image b}
          (λ j below over marked.
          admitted_on j (joined_at b j) (λ x. b.array.epoch < x.array.epoch)
          (λ x copy. let epoch : m.array.epoch ≤ x.array.epoch = copy_epoch j x copy in omega arith) (over marked))
          (held i place b is earlier)

  -- EVERY EPOCH STAYS DRAWN

  module _ (current_media : CurrentMedia) where
    abbrev HasDrawn : ℕ → Type 0
    HasDrawn j = HasDrawnAll m current_media (image_now old) j

    -- while no new one is written
    reserved_draws : ((e : Edition) → Contains so.editions e → e.array ≡ m.array) → AllBut g.n g.m HasDrawn → AllBut g.n g.m (CurrentMediumReserved g current_media image)
    reserved_draws none held =
        all_but_mapped {P = HasDrawn} {Q = CurrentMediumReserved g current_media image}
        (λ j below both joined current_medium.
        admitted_on j joined (λ x. (i : ℕ) (q : Location) (t : Superblock) → IsBorne g image i q t → t.array.epoch ≤ x.draw)
        (λ x copy i q t first. by_copy j x copy i q t (borne i q t first))
        (λ p medium x is super slot geometry same first second i q t there.
        by_own x (both.0 joined current_medium p medium x is super slot geometry same first second)
        (both.1 joined current_medium p medium x is super slot geometry same first second) i q t (borne i q t there))) held
      where
        epoch_is : (i : ℕ) (t : Superblock) → IsCopy issued.slots so.editions i t → t.array.epoch ≡ m.array.epoch
        epoch_is i t copy =
            ap (λ (y : Superblock). y.array.epoch) copy.is ∙ ap (λ (c : Configuration). c.epoch) (none copy.edition copy.among)

        by_copy : (j : ℕ) (x : Superblock) → IsCopy issued.slots issued.editions j x → (i : ℕ) (q : Location) (t : Superblock)
            → IsSince i (name_of h i q) t → t.array.epoch ≤ x.draw
        by_copy j x copy i q t (Before place named first) =
            let upto : t.array.epoch ≤ m.drawn = known.covered i place t first in
            let more : m.drawn < x.draw = copy_draw j x copy in
            omega arith
        by_copy j x copy i q t (Given own used copied) =
            let epoch : t.array.epoch ≡ m.array.epoch = epoch_is i t copied in
            let more : m.drawn < x.draw = copy_draw j x copy in
            omega (arith, more, seen, epoch)

        by_own : (x : Superblock) → ((i : ℕ) (q : Location) (t : Superblock) → IsBorne g (image_now old) i q t → t.array.epoch ≤ x.draw)
            → m.array.epoch ≤ x.draw → (i : ℕ) (q : Location) (t : Superblock) → IsSince i (name_of h i q) t → t.array.epoch ≤ x.draw
        by_own x above least i q t (Before place named first) = above i place t first
        by_own x above least i q t (Given own used copied) =
            let epoch : t.array.epoch ≡ m.array.epoch = epoch_is i t copied in omega (arith, least, epoch)

    -- A SLOT THAT WAS GIVEN A DRAW

    module _ (to : Slots) (editions : List Edition) (ran : Ran (IsIssuing to editions) old h) (draw epoch j : ℕ)
        (given : WasGiven to editions draw epoch old h j) (joined : ℕ) (number : IsHere m j × (joined ≡ joined_in m.array j))
        (super_then : IsAttached old j → KnowsSuper m old j) where
      -- it is attached when the call begins
      used : IsAttached old j
      used =
          (still_attached j (issuing_ran to editions j (ran_before ran given.got.is_one))
          (and-true_left (slot_state given.got.moment j).attached (not (stopped given.got.moment)) given.got.ready)).0

      -- its holder is the medium in it
      in_use : (p : Location) (medium : Medium) (x : Superblock) → IsMediumOf (image j) p medium → IsSuperOf medium.cell x → x.slot ≡ j
          → x.array.geometry ≡ g → x.joined ≡ joined → name_of h j p ≡ name_of old j InSlot
      in_use p medium x is super slot geometry same =
          by (borne j p x (record { medium = medium; is_one = is; bears = super_bears x super slot geometry }))
        where
          by : IsSince j (name_of h j p) x → name_of h j p ≡ name_of old j InSlot
          by (Before place named first) =
              sym named ∙ ap (λ (l : Location). name_of old j l) (known.sole j place x number.0 used first (same ∙ number.1))
          by (Given own on copy) = own

      -- so it has a copy
      has_copy : (p : Location) (medium : Medium) → IsMediumOf (image j) p medium → name_of h j p ≡ name_of old j InSlot
          → HasCopy editions draw epoch j medium.cell
      has_copy p medium is named =
          given_wherever to editions draw epoch old h j ((history_tidy history).attached j used) ran given image left p medium is named

      module _ (p : Location) (medium : Medium) (x : Superblock) (is : IsMediumOf (image j) p medium) (super : IsSuperOf medium.cell x) (slot : x.slot ≡ j)
          (geometry : x.array.geometry ≡ g) (same : x.joined ≡ joined) (first : ¬ IsLost (medium.cell 0)) (second : ¬ IsLost (medium.cell 1)) where
        copy : HasCopy editions draw epoch j medium.cell
        copy = has_copy p medium is (in_use p medium x is super slot geometry same)

        -- in a place that isn't lost
        good : medium.cell copy.place ≡ Good (spelled (copy_of copy.edition j))
        good =
            elim copy.holds [
              | inl is ↦ is
              | inr harmed ↦
                  let small : copy.place < 2 = copy.place_in in
                  elim (cases_lt copy.place 1) [
                    | inl at_first ↦ absurd (first (ByOutside (ap medium.cell (omega (arith, at_first)) ∙ harmed)))
                    | inr at_second ↦ absurd (second (ByOutside (ap medium.cell (omega (arith, at_second, small)) ∙ harmed)))
                  ]
            ]

        no_older : IsNoOlder x (copy_of copy.edition j)
        no_older =
            super_no_older medium.cell x (copy_of copy.edition j) copy.place copy.place_in super
            (holds_copy (medium.cell copy.place) copy.edition j copy.formed good)

        has_draw : draw ≤ x.draw
        has_draw =
            let most : copy.edition.draw ≤ x.draw = no_older.draws in
            let least : draw ≤ copy.edition.draw = copy.draws in
            omega (arith, most, least)

        -- and has reached its epoch
        has_epoch : m.drawn < draw → ((e : Edition) → Contains editions e → Contains issued.editions e) → epoch ≤ x.array.epoch
        has_epoch above within = by (later j p medium x is super slot geometry first second)
          where
            least : draw ≤ copy.edition.draw
            least = copy.draws

            most : copy.edition.draw ≤ x.draw
            most = no_older.draws

            reaches : epoch ≤ copy.edition.array.epoch
            reaches = copy.reaches

            by : IsLaterOf issued.slots issued.editions old j (name_of h j p) x → epoch ≤ x.array.epoch
            by (Was place named then) =
                let upto : x.draw ≤ m.drawn = old_draw place (name_apart old j place InSlot (named ∙ in_use p medium x is super slot geometry same)) then in
                absurd (omega (arith, most, upto, least, above))
              where
                old_draw : (l : Location) → l ≡ InSlot → WasSuper old j l x → x.draw ≤ m.drawn
                old_draw l inside was = drawn (subst (λ (q : Location). WasSuper old j q x) inside was)
                  where
                    drawn : WasSuper old j InSlot x → x.draw ≤ m.drawn
                    drawn w =
                        let held : Bears g j w.medium.cell x = super_bears x w.super slot geometry in
                        (super_then used).drawn held.place x held.place_in
                        (subst (λ (c : ℕ → Cell). HoldsSuper (c held.place) x) (sym w.is_one.1) held.holds)
            by (IsGiven mine) =
                let draw_is : x.draw ≡ mine.edition.draw = ap (λ (y : Superblock). y.draw) mine.is in
                let epoch_is : x.array.epoch ≡ mine.edition.array.epoch = ap (λ (y : Superblock). y.array.epoch) mine.is in
                elim (cases_lt copy.edition.draw x.draw) [
                  | inl less ↦
                      let rises : copy.edition.array.epoch ≤ mine.edition.array.epoch =
                      issued.rising copy.edition mine.edition (within copy.edition copy.among) mine.among (omega (arith, less, draw_is)) in
                      omega (arith, rises, reaches, epoch_is)
                  | inr not_less ↦
                      let at_least : copy.edition.array.epoch ≤ x.array.epoch = no_older.epochs (omega (arith, most, not_less)) in
                      omega (arith, at_least, reaches)
                ]

    module _ (numbers : (j n : ℕ) → HasSlot issued.slots j → current_media j ≡ Some n → IsHere m j × (n ≡ joined_in m.array j)) where
      -- once new ones are written
      reserved_epochs : (top : HasGreatest m.drawn so.editions) → AllBut g.n g.m (CurrentMediumReserved g current_media image)
      reserved_epochs top =
          all_but_mapped {P = λ j. WasGiven issued.slots so.editions top.edition.array.epoch m.array.epoch old h j} {Q = CurrentMediumReserved g current_media image}
          (λ j below given joined current_medium p medium x is super slot geometry same first second i q t there.
          let least : top.edition.array.epoch ≤ x.draw =
          has_draw issued.slots so.editions so.ran top.edition.array.epoch m.array.epoch j given joined (numbers j joined given.slot current_medium)
          (knows j given.slot) p medium x is super slot geometry same first second in
          let upto : t.array.epoch ≤ top.edition.array.epoch = most i q t (borne i q t there) in
          omega arith)
          (so.reserved top.edition top.among (let above : m.drawn < top.edition.array.epoch = top.above in omega (arith, above, seen)))
        where
          most : (i : ℕ) (q : Location) (t : Superblock) → IsSince i (name_of h i q) t → t.array.epoch ≤ top.edition.array.epoch
          most i q t (Before place named first) =
              let upto : t.array.epoch ≤ m.drawn = known.covered i place t first in
              let above : m.drawn < top.edition.array.epoch = top.above in
              omega arith
          most i q t (Given own on copied) =
              let epoch : t.array.epoch ≡ copied.edition.array.epoch = ap (λ (y : Superblock). y.array.epoch) copied.is in
              let upto : copied.edition.array.epoch ≤ top.edition.array.epoch = top.most copied.edition copied.among in
              omega arith

      pub reserved_since : AllBut g.n g.m HasDrawn → AllBut g.n g.m (CurrentMediumReserved g current_media image)
      reserved_since held =
          elim (greatest m.array m.drawn seen so.editions new_or_same) [
            | inl none ↦ reserved_draws none held
            | inr top ↦ reserved_epochs top
          ]

    -- where all slots but m were given an epoch, and each has the medium that the member means, their holders have reached it
    pub reached_since : (to : Slots) (editions : List Edition) → Ran (IsIssuing to editions) old h
        → ((e : Edition) → Contains editions e → Contains issued.editions e) → (draw epoch : ℕ) → m.drawn < draw
        → AllBut g.n g.m (λ j. WasGiven to editions draw epoch old h j × (IsAttached old j → KnowsSuper m old j)
        × ((joined : ℕ) → current_media j ≡ Some joined → IsHere m j × (joined ≡ joined_in m.array j)))
        → AllBut g.n g.m (CurrentMediumReached g current_media image epoch)
    reached_since to editions ran within draw epoch above given =
        all_but_mapped
        {P = λ j. WasGiven to editions draw epoch old h j × (IsAttached old j → KnowsSuper m old j)
        × ((joined : ℕ) → current_media j ≡ Some joined → IsHere m j × (joined ≡ joined_in m.array j))} {Q = CurrentMediumReached g current_media image epoch}
        (λ j below was joined current_medium p medium x is super slot geometry same first second.
        has_epoch to editions ran draw epoch j was.0 joined (was.2 joined current_medium) was.1 p medium x is super slot geometry same first second above within) given
