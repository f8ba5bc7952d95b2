-- Once an epoch stands the rack is consistent since that one, by those of the holders that it marks live.
use Rattle.std.proofs.Common.{◌≡◌, ◌≢◌, ℕ, ◌-◌, ◌<◌, ◌≤◌, List, ◌⊎◌, inl, inr, refl, sym, ap, ◌∙◌, subst, arith, true, Option, None, Some}
use Rattle.std.proofs.lemmas.Bool.{cases_lt, cond-true, cond-false, lt-ltb, le-ltb}
use Rattle.stair_model.specs.Geometry.{Geometry}
use Rattle.stair_model.specs.Slots.{HasSlot, Slots}
use Rattle.stair_rack.specs.Answers.{Ran, IsNoAttach}
use Rattle.stair_rack.specs.Crash.{CrashMayLeave, image_now}
use Rattle.stair_rack.specs.History.{Happening, SlotCall}
use Rattle.stair_rack.specs.Media.{Image}
use Rattle.stair_rack.specs.Moments.{IsMoment}
use Rattle.stair_rack.specs.Offline.{IsAttached}
use Rattle.stair_rack.specs.Sector.{Cell}
use Rattle.stair_rack.proofs.MomentLemmas.{moment_last, ran_weakened}
use Rattle.stair_super.specs.Superblock.{Superblock, joined_at, joined_in, mark_at, mark_in}
use Rattle.stair_super.specs.declared.configuration.Configuration.{Configuration}
use Rattle.stair_super.specs.declared.mark.Mark.TheVariants.{Down, Live}
use Rattle.stair_member.specs.Aims.{admitted, aimed, mark_for}
use Rattle.stair_member.specs.Counting.{AllBut}
use Rattle.stair_member.specs.Editions.{edition_of}
use Rattle.stair_member.specs.Epochs.{ASync, AWrite, IsIssuing, IsTaken, WasGiven}
use Rattle.stair_member.specs.Membership.{IsHere, Membership, place_of, why_of}
use Rattle.stair_member.specs.declared.aim.EpochChange.{EpochChange}
use Rattle.stair_member.specs.declared.why.Why.{Why}
use Rattle.stair_member.specs.declared.why.Why.TheVariants as why
use Rattle.stair_member.proofs.CountingLemmas.{all_but_mapped, has_or_not, slots_by, slots_by-at}
use Rattle.stair_member.proofs.StoodLemmas.{all_here, formed_here}
use Rattle.stair_state.specs.Holding.{HasOvertaken, CurrentMediumReserved, CurrentMedia, IsBorneSince, IsConsistentBy, IsCurrentMedium}
use Rattle.stair_state.specs.Reassembly.{InSlot, IsBorne, Location}
use Rattle.stair_state.specs.Represents.{Encodings}
use Rattle.stair_state.specs.State.{Change, Content, State}
use Rattle.stair_invariant.proofs.ChangingLemmas.{live_here}
use Rattle.stair_invariant.proofs.MidwayLemmas.{here_aimed, rebuilt_before}
use Rattle.stair_invariant.specs.Returning.{IsKnownWherever, current_medium_if, current_media_of}
use Rattle.stair_reinsert.specs.Beginning.{BeginsWherever, StandsWherever}
use Rattle.stair_reinsert.specs.Following.{name_of}
use Rattle.stair_reinsert.proofs.BorneSince.{Before, Given, IsBorneOf}
use Rattle.stair_reinsert.proofs.GivenLemmas.{issuing_ran}
use Rattle.stair_reinsert.proofs.NameLemmas.{attached_name, name_apart, still_attached}
use Rattle.stair_reinsert.proofs.KeptSince.{borne, here_up, known, knows, kept_since, live_of, since_below, so}
use Rattle.stair_reinsert.proofs.OrderSince.{CurrentMediumReached, decided, joined_upto, reached_since}
use Rattle.stair_reinsert.specs.Given.{KnowsSuper}
use Rattle.stair_member.specs.Seats.{Seats}

-- AN IMAGE ONCE AN EPOCH STANDS

module _ (s : State) (encodings : Encodings s) (current_media fewer : CurrentMedia) (since epoch : ℕ) (image : Image)
    (it : IsConsistentBy s encodings current_media since image) (later : since ≤ epoch)
    (reached : AllBut s.geometry.n s.geometry.m (CurrentMediumReached s.geometry current_media image epoch))
    (less : (j n : ℕ) → fewer j ≡ Some n → current_media j ≡ Some n)
    (live : (j : ℕ) (a : Superblock) → IsBorneSince s.geometry epoch image a → mark_at a j ≡ Live → fewer j ≡ Some (joined_at a j)) where
  since_then : (a : Superblock) → IsBorneSince s.geometry epoch image a → IsBorneSince s.geometry since image a
  since_then a there =
      let least : epoch ≤ a.array.epoch = there.since_then in
      record { slot = there.slot; place = there.place; borne = there.borne; since_then = omega arith }

  still_current_medium : (j : ℕ) (cell : ℕ → Cell) → IsCurrentMedium s.geometry fewer j cell → IsCurrentMedium s.geometry current_media j cell
  still_current_medium j cell current_medium = record { super = current_medium.super; bears = current_medium.bears; joined = less j current_medium.super.joined current_medium.joined }

  pub stood : IsConsistentBy s encodings fewer epoch image
  stood = record {
    overtaken = λ i p a there earlier.
        elim (cases_lt a.array.epoch since) [
          | inl before ↦ it.overtaken i p a there before
          | inr between ↦
              all_but_mapped {P = CurrentMediumReached s.geometry current_media image epoch} {Q = HasOvertaken s.geometry image a}
              (λ j below has marked q medium x is super slot geometry same first second.
              let least : epoch ≤ x.array.epoch =
              has (joined_at a j) (it.live j a (record { slot = i; place = p; borne = there; since_then = between }) marked) q medium x is super slot
              geometry same first second in
              omega arith) reached
        ];
    reserved =
        all_but_mapped {P = CurrentMediumReserved s.geometry current_media image} {Q = CurrentMediumReserved s.geometry fewer image}
        (λ j below has joined current_medium. has joined (less j joined current_medium)) it.reserved;
    live = live;
    rebuilt = λ j joined a there marked current_medium. it.rebuilt j joined a (since_then a there) marked (less j joined current_medium);
    frozen = λ a there. it.frozen a (since_then a there);
    label = λ a there. it.label a (since_then a there);
    forms = λ to some reassembly have. it.forms to some reassembly (λ j on. still_current_medium j ((to j).cell) (have j on));
    full = λ to j reassembly current_medium. it.full to j reassembly (still_current_medium j ((to j).cell) current_medium);
    rebuilding = λ to j a b redo reassembly there. it.rebuilding to j a b redo reassembly (since_then a there);
    one_list = it.one_list;
    own_joined = it.own_joined;
  }

-- THE HOLDERS OF A MEMBER

pub current_media_here : (m : Membership) (j : ℕ) → j < m.array.geometry.n → why_of m j ≡ why.Here → current_media_of m j ≡ Some (joined_in m.array j)
current_media_here m j below here = cond-true _ _ _ (lt-ltb j m.array.geometry.n below) ∙ ap (λ (w : Why). current_medium_if w (joined_in m.array j)) here

-- what holds of slot j, where it has one
pub record IsHeldHere (m : Membership) (j n : ℕ) : Type 0 where
  pub below : j < m.array.geometry.n
  pub here : why_of m j ≡ why.Here
  pub number : n ≡ joined_in m.array j

pub held_here : (m : Membership) (j n : ℕ) → current_media_of m j ≡ Some n → IsHeldHere m j n
held_here m j n current_medium =
    elim (cases_lt j m.array.geometry.n) [
      | inr past ↦ let never : None ≡ Some n = sym (cond-false _ _ _ (le-ltb j m.array.geometry.n past)) ∙ current_medium in absurd (cc)
      | inl below ↦ by below (why_of m j) refl (sym (cond-true _ _ _ (lt-ltb j m.array.geometry.n below)) ∙ current_medium)
    ]
  where
    by : j < m.array.geometry.n → (w : Why) → why_of m j ≡ w → current_medium_if w (joined_in m.array j) ≡ Some n → IsHeldHere m j n
    by below why.Here is same = record { below = below; here = is; number = sym (once same) }
      where
        once : {a b : ℕ} → Some a ≡ Some b → a ≡ b
        once same = cc
    by below why.Gone is same = absurd (cc)
    by below why.NoSuper is same = absurd (cc)
    by below why.OtherArray is same = absurd (cc)
    by below why.OtherSlot is same = absurd (cc)
    by below why.MarkedDown is same = absurd (cc)
    by below why.OtherJoined is same = absurd (cc)
    by below why.Rebuilding is same = absurd (cc)

gone≢here : ¬ (why.Gone ≡ why.Here)
gone≢here is = cc

-- A CALL WHOSE EPOCH STANDS

module _ (current_media : CurrentMedia) (since : ℕ) (aim : EpochChange) (m : Membership) (content : Content) (in_doubt : Option Change)
    (seats : Option Seats) (old : List Happening) where
  abbrev s : State
  s = record { geometry = m.array.geometry; content = content; in_doubt = in_doubt; seats = seats }

  module _ (begins : BeginsWherever s current_media since aim m old) (gone : Slots) (last : Membership) (new : List Happening)
      (stands : StandsWherever aim gone m last old new) (image : Image) (left : CrashMayLeave new image) where
    abbrev g : Geometry
    g = m.array.geometry

    pub end : IsMoment old new new
    end = moment_last stands.issued.ran.more stands.issued.ran.is

    kept : IsConsistentBy s begins.is.encodings current_media since image
    kept = kept_since current_media since aim m content in_doubt seats old begins gone last new new stands.issued end image left

    above : m.drawn < last.array.epoch
    above = stands.established.stands.above

    -- a superblock of no earlier epoch names what the new one does
    pub names_it : (x : Superblock) → IsBorneSince g last.array.epoch image x → x.array ≡ last.array
    names_it x there =
        by (borne current_media since aim m content in_doubt seats old begins gone last new new stands.issued end image left there.slot there.place x there.borne)
      where
        by : IsBorneOf stands.issued.slots
            (so current_media since aim m content in_doubt seats old begins gone last new new stands.issued end image left).editions g old there.slot
            (name_of new there.slot there.place) x → x.array ≡ last.array
        by (Before place named is) =
            let upto : x.array.epoch ≤ m.drawn =
            (known current_media since aim m content in_doubt seats old begins gone last new new stands.issued end image left).covered there.slot place x is in
            let more : last.array.epoch ≤ x.array.epoch = there.since_then in
            absurd (omega (arith, upto, more, above))
        by (Given own on copy) =
            let is : x.array ≡ copy.edition.array = ap (λ (y : Superblock). y.array) copy.is in
            elim (stands.issued.each copy.edition
            ((so current_media since aim m content in_doubt seats old begins gone last new new stands.issued end image left).within copy.edition copy.among)).latest [
              | inl same ↦ is ∙ same
              | inr less ↦
                  let more : last.array.epoch ≤ x.array.epoch = there.since_then in
                  let epoch : x.array.epoch ≡ copy.edition.array.epoch = ap (λ (c : Configuration). c.epoch) is in
                  absurd (omega (arith, less, more, epoch))
            ]

    -- a slot that is live now took part, or was to be promoted
    taken : (j : ℕ) → j < g.n → why_of last j ≡ why.Here → IsTaken (admitted aim) m j
    taken j below here =
        elim (has_or_not gone j) [
          | inl out ↦ absurd (gone≢here (sym (stands.dropped j out) ∙ here))
          | inr stays ↦
              elim (here_aimed aim j (why_of m j) (sym (stands.established.whys j below stays) ∙ here)) [
                | inl was ↦ inl (record { below = below; why = inl was })
                | inr promoted ↦ inl (stands.promoted j promoted)
              ]
        ]

    -- THE SLOTS THAT WERE GIVEN IT

    all : Slots
    all = slots_by (λ j. true)

    in_all : (j : ℕ) → j < g.n → HasSlot all j
    unfolding all
    in_all j below = slots_by-at (λ i. true) j (let most : g.n ≤ 32 = begins.member.array.limits.devices.1 in omega (arith, below, most))

    ran : Ran (IsIssuing all stands.issued.editions) old new
    ran =
        ran_weakened {allowed = IsIssuing stands.issued.slots stands.issued.editions} {more = IsIssuing all stands.issued.editions} wider stands.issued.ran
      where
        one : (j : ℕ) → HasSlot stands.issued.slots j → HasSlot all j
        one j has = elim (stands.issued.taking j has) [ inl here ↦ in_all j here.below | inr joins ↦ in_all j joins.1 ]

        wider : (j : ℕ) (c : SlotCall) → IsIssuing stands.issued.slots stands.issued.editions j c → IsIssuing all stands.issued.editions j c
        wider j c (AWrite e k answer has among formed below is) = AWrite e k answer (one j has) among formed below is
        wider j c (ASync answer has is) = ASync answer (one j has) is

    given : (j : ℕ) → j < g.n → why_of last j ≡ why.Here → WasGiven all stands.issued.editions last.array.epoch last.array.epoch old new j
    given j below here =
        let is : IsHere last j = record {
          below = subst (λ (y : Geometry). j < y.n) (sym stands.established.stands.geometry) below;
          why = inl here;
        } in
        let drawn : last.array.epoch ≡ last.drawn = stands.established.stands.epoch in
        record {
          slot = in_all j below;
          has = record {
            edition = edition_of last;
            among = stands.among;
            formed = formed_here m last j stands.member stands.established.stands below (inl here);
            draws = omega (arith, drawn);
            reaches = omega arith;
            place = 1 - place_of last j;
            place_in = omega arith;
            on_disk = stands.on_disk.on_disk j is;
          };
          got = stands.on_disk.got j (1 - place_of last j) is (inl refl);
        }

    reached : AllBut g.n g.m (CurrentMediumReached g current_media image last.array.epoch)
    reached =
        reached_since aim gone m last old new new stands.issued end begins.history begins.is.steady begins.member.known
        (known current_media since aim m content in_doubt seats old begins gone last new new stands.issued end image left)
        (knows current_media since aim m content in_doubt seats old begins gone last new new stands.issued end image left)
        (so current_media since aim m content in_doubt seats old begins gone last new new stands.issued end image left) image left current_media all
        stands.issued.editions ran (λ e among. among) last.array.epoch last.array.epoch above
        (all_but_mapped {P = λ j. why_of last j ≡ why.Here}
        {Q = λ j. WasGiven all stands.issued.editions last.array.epoch last.array.epoch old new j × (IsAttached old j → KnowsSuper m old j)
        × ((joined : ℕ) → current_media j ≡ Some joined → IsHere m j × (joined ≡ joined_in m.array j))}
        (λ j below here.
        (given j below here, begins.supers j (taken j below here), λ joined current_medium. begins.meant.taken j joined (taken j below here) current_medium))
        (all_here g last stands.established.stands.geometry stands.established.stands.enough))

    -- its live slots are holders
    pub less : (j n : ℕ) → current_media_of last j ≡ Some n → current_media j ≡ Some n
    less j n current_medium =
        let is = held_here last j n current_medium in
        let below : j < g.n = subst (λ (y : Geometry). j < y.n) stands.established.stands.geometry is.below in
        live_of current_media since aim m content in_doubt seats old begins gone last new new stands.issued end image left j below last.array
        stands.established.aimed_at (stands.established.stands.marks j below ∙ ap mark_for is.here)
        ∙ ap Some (sym is.number)

    live : (j : ℕ) (a : Superblock) → IsBorneSince g last.array.epoch image a → mark_at a j ≡ Live → current_media_of last j ≡ Some (joined_at a j)
    live j a there marked =
        let names : a.array ≡ last.array = names_it a there in
        let marked_last : mark_in last.array j ≡ Live = sym (ap (λ (c : Configuration). mark_in c j) names) ∙ marked in
        let below : j < g.n = below_of in
        current_media_here last j (subst (λ (y : Geometry). j < y.n) (sym stands.established.stands.geometry) below)
        (live_here (why_of last j) (sym (stands.established.stands.marks j below) ∙ marked_last))
        ∙ ap Some (sym (ap (λ (c : Configuration). joined_in c j) names))
      where
        earlier : IsBorneSince g since image a
        earlier =
            let least : last.array.epoch ≤ a.array.epoch = there.since_then in
            let first : since ≤ m.array.epoch = begins.recent in
            let second : m.array.epoch ≤ m.drawn = begins.member.known in
            record { slot = there.slot; place = there.place; borne = there.borne; since_then = omega (arith, least, first, second, above) }

        below_of : j < g.n
        below_of =
            since_below current_media since aim m content in_doubt seats old begins gone last new new stands.issued end image left a earlier j
            (λ down. let never : Live ≡ Down = sym marked ∙ down in cc)

    pub stands_since : IsConsistentBy s begins.is.encodings (current_media_of last) last.array.epoch image
    stands_since =
        stood s begins.is.encodings current_media (current_media_of last) since last.array.epoch image kept
        (let first : since ≤ m.array.epoch = begins.recent in
        let second : m.array.epoch ≤ m.drawn = begins.member.known in
        omega (arith, first, second, above)) reached less live

    -- WHAT THE MEMBER KNOWS THEN

    pub taken_up : (j : ℕ) → IsHere last j → (IsHere m j × (admitted aim ≢ Some j)) ⊎ (admitted aim ≡ Some j)
    taken_up j here =
        elim (decided (admitted aim) j) [
          | inl joins ↦ inr joins
          | inr other ↦ inl (was other, other)
        ]
      where
        below : j < g.n
        below = subst (λ (y : Geometry). j < y.n) stands.established.stands.geometry here.below

        was : admitted aim ≢ Some j → IsHere m j
        was other =
            elim (has_or_not gone j) [
              | inl out ↦
                  elim here.why [
                    | inl is ↦ absurd (gone≢here (sym (stands.dropped j out) ∙ is))
                    | inr is ↦ let never : why.Gone ≡ why.Rebuilding = sym (stands.dropped j out) ∙ is in absurd (cc)
                  ]
              | inr stays ↦
                  let of : why_of last j ≡ aimed aim j (why_of m j) = stands.established.whys j below stays in
                  elim here.why [
                    | inl is ↦
                        elim (here_aimed aim j (why_of m j) (sym of ∙ is)) [
                          | inl up ↦ record { below = below; why = inl up }
                          | inr promoted ↦ stands.promoted j promoted
                        ]
                    | inr is ↦
                        elim (rebuilt_before aim j (why_of m j) (sym of ∙ is)) [
                          | inl up ↦ record { below = below; why = inr up }
                          | inr joins ↦ absurd (other joins)
                        ]
                  ]
            ]

    abbrev IsOf : ℕ → Location → Superblock → Type 0
    IsOf j name x = IsBorneOf stands.issued.slots
        (so current_media since aim m content in_doubt seats old begins gone last new new stands.issued end image left).editions m.array.geometry old j name x

    borne_then : (j : ℕ) (p : Location) (x : Superblock) → IsBorne g image j p x → IsOf j (name_of new j p) x
    borne_then = borne current_media since aim m content in_doubt seats old begins gone last new new stands.issued end image left

    knew : IsKnownWherever (admitted aim) m (IsAttached old) (image_now old)
    knew = known current_media since aim m content in_doubt seats old begins gone last new new stands.issued end image left

    pub latest : (j : ℕ) (p : Location) (x : Superblock) → IsBorne g image j p x → x.array.epoch ≤ last.array.epoch
    latest j p x there = by (borne_then j p x there)
      where
        by : IsOf j (name_of new j p) x → x.array.epoch ≤ last.array.epoch
        by (Before place named is) = let upto : x.array.epoch ≤ m.drawn = knew.covered j place x is in omega (arith, upto, above)
        by (Given own on copy) =
            let epoch : x.array.epoch ≡ copy.edition.array.epoch = ap (λ (y : Superblock). y.array.epoch) copy.is in
            elim (stands.issued.each copy.edition
            ((so current_media since aim m content in_doubt seats old begins gone last new new stands.issued end image left).within copy.edition copy.among)).latest [
              | inl same ↦ let is : copy.edition.array.epoch ≡ last.array.epoch = ap (λ (c : Configuration). c.epoch) same in omega (arith, epoch, is)
              | inr less ↦ omega (arith, epoch, less)
            ]

    sole_then : (j : ℕ) (p : Location) (x : Superblock) → IsHere last j → IsAttached new j → IsBorne g image j p x → x.joined ≡ joined_in last.array j
        → p ≡ InSlot
    sole_then j p x here on there same = name_apart new j p InSlot (by (borne_then j p x there) ∙ sym (attached_name j begins.history alone on))
      where
        alone : Ran (IsNoAttach j) old new
        alone = issuing_ran stands.issued.slots stands.issued.editions j stands.issued.ran

        below : j < g.n
        below = subst (λ (y : Geometry). j < y.n) stands.established.stands.geometry here.below

        up : mark_in last.array j ≢ Down
        up = here_up last stands.member j here

        by : IsOf j (name_of new j p) x → name_of new j p ≡ name_of old j InSlot
        by (Given own used copy) = own
        by (Before place named is) =
            sym named
            ∙ ap (λ (l : Location). name_of old j l)
            (elim (taken_up j here) [
              | inl was ↦
                  knew.sole j place x was.0 (still_attached j alone on).0 is (same ∙ stands.established.aimed_at.joined j below up was.1)
              | inr joins ↦
                  let new_number : joined_in last.array j ≡ last.array.epoch = stands.established.aimed_at.joins j joins up in
                  let most : x.array.epoch ≤ m.drawn = knew.covered j place x is in
                  let upto : x.joined ≤ x.array.epoch = joined_upto x is.bears.holds in
                  absurd (omega (arith, new_number, most, upto, same, above))
            ])

    pub knows_then : IsKnownWherever None last (IsAttached new) image
    knows_then = record {
      covered = λ i p x there.
          let upto : x.array.epoch ≤ last.array.epoch = latest i p x (mine i p x there) in
          let drawn : last.array.epoch ≡ last.drawn = stands.established.stands.epoch in
          omega (arith, upto, drawn);
      named = λ i p x there same.
          names_it x (record { slot = i; place = p; borne = mine i p x there; since_then = omega (arith, same) });
      sole = λ j p x here on there same. sole_then j p x here on (mine j p x there) same;
      down = λ j joins. absurd (cc);
    }
      where
        mine : (i : ℕ) (p : Location) (x : Superblock) → IsBorne last.array.geometry image i p x → IsBorne g image i p x
        mine i p x there = subst (λ (y : Geometry). IsBorne y image i p x) stands.established.stands.geometry there
