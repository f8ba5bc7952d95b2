-- A session may establish an epoch.
use Rattle.std.proofs.Common.{◌≡◌, ◌≢◌, ℕ, ◌<◌, ◌≤◌, List, inl, inr, sym, ap, ◌∙◌, subst, arith, Option, Some, None, ◌⊎◌}
use Rattle.stair_model.specs.Device.{gate_sector}
use Rattle.stair_model.specs.Slots.{Slots}
use Rattle.stair_model.specs.Geometry.{Geometry}
use Rattle.stair_rack.specs.Answers.{Ran}
use Rattle.stair_rack.specs.Crash.{CrashMayLeave}
use Rattle.stair_rack.specs.Media.{Image}
use Rattle.stair_rack.specs.History.{Happening, SlotCall, Sync, Write, slot_state}
use Rattle.stair_rack.specs.Moments.{AtSomeMoment}
use Rattle.stair_rack.specs.Offline.{ButForOutside, IsAttached}
use Rattle.stair_rack.specs.Passes.{IsDone, IsOn, Settled}
use Rattle.stair_rack.specs.Sector.{Damaged, Good, Leaves, MayLeave, Sector, content, settled}
use Rattle.stair_rack.specs.Stretch.{NothingReturned, ReturnsNothing}
use Rattle.stair_rack.proofs.CrashLemmas.{Leaves-settled, nothing_unsynced, settled_left}
use Rattle.stair_rack.proofs.KeptLemmas.{IsKept-mapped}
use Rattle.stair_rack.proofs.MomentLemmas.{ran_after, ran_before, ran_weakened}
use Rattle.stair_rack.proofs.StretchLemmas.{each_after, each_before}
use Rattle.stair_super.specs.Superblock.{Superblock}
use Rattle.stair_super.specs.declared.configuration.Configuration.{Configuration}
use Rattle.stair_member.specs.Aims.{admitted}
use Rattle.stair_member.specs.Fencing.{IsBegun, IsKnownTo, MayJoin}
use Rattle.stair_member.specs.Membership.{Membership, IsHere, IsMembership, member_of, why_of}
use Rattle.stair_member.specs.Seeing.{Sees}
use Rattle.stair_member.specs.declared.why.Why.{Why}
use Rattle.stair_member.specs.declared.why.Why.TheVariants as why
use Rattle.stair_member.specs.declared.aim.EpochChange.{EpochChange}
use Rattle.stair_member.specs.declared.aim.EpochChange.TheVariants.{Admit, Promote}
use Rattle.stair_member.specs.Superblocks.{HoldsSuper}
use Rattle.stair_member.proofs.SeeingLemmas.{saw}
use Rattle.stair_member.proofs.ChangeLemmas.{mark_for_cases}
use Rattle.stair_journal.specs.Gate.{ReadsClosed, closed_gate}
use Rattle.stair_journal.proofs.GateLemmas.{closed}
use Rattle.stair_state.specs.Blocks.{Codewords}
use Rattle.stair_state.specs.Recovering.{IsShut}
use Rattle.stair_state.specs.Redoing.{AttachesNone, WritesNone}
use Rattle.stair_state.proofs.DegradedLemmas.{holds_before}
use Rattle.stair_invariant.specs.Changing.{IsAttachedOrBare}
use Rattle.stair_invariant.specs.InSession.{IsBehindPlaces, IsBeside, IsInSession, IsReadyFor}
use Rattle.stair_invariant.specs.Session.{ServesSlot}
use Rattle.stair_invariant.specs.Rebuilding.{IsRebuiltTo}
use Rattle.stair_invariant.proofs.BesideLemmas.{beside, kept_medium, was_attached}
use Rattle.stair_invariant.proofs.RebuildingLemmas.{rebuilt_serves}
use Rattle.stair_invariant.proofs.KnownLemmas.{Stays, may_admit, place_stays}

-- one that neither admits nor promotes
pub ready_plain : (aim : EpochChange) (m : Membership) (words : Codewords) (h : List Happening) → admitted aim ≡ None → ((j : ℕ) → aim ≢ Promote j)
    → IsInSession m words h → IsReadyFor aim m words h
ready_plain aim m words h none other is = record {
  session = is;
  begun = subst (λ (o : Option ℕ). IsBegun o m h) (sym none) is.begun;
  promoted = λ j same. absurd (other j same);
  serves = λ j same. absurd (other j same);
  absent = λ j same. let never : None ≡ Some j = sym none ∙ same in absurd (cc);
  own = λ j same. let never : None ≡ Some j = sym none ∙ same in absurd (cc);
  shut = λ j same. let never : None ≡ Some j = sym none ∙ same in absurd (cc);
}

pub ready_promote : (m : Membership) (j : ℕ) (words : Codewords) (h : List Happening) → IsInSession m words h → IsHere m j
    → (IsAttached h j → ServesSlot m.array.geometry words h j) → IsReadyFor (Promote j) m words h
ready_promote m j words h is here serves = record {
  session = is;
  begun = is.begun;
  promoted = λ i same. let at : j ≡ i = cc in subst (IsHere m) at here;
  serves = λ i same. let at : j ≡ i = cc in subst (λ x. IsAttached h x → ServesSlot m.array.geometry words h x) at serves;
  absent = λ i same. absurd (cc);
  own = λ i same. absurd (cc);
  shut = λ i same. absurd (cc);
}

pub ready_admit : (m : Membership) (j : ℕ) (words : Codewords) (h : List Happening) → IsInSession m words h → j < m.array.geometry.n
    → ¬ IsHere m j → MayJoin (Some j) m h → IsAttachedOrBare h j → (IsAttached h j → IsShut m.array.geometry h h j)
    → IsReadyFor (Admit j) m words h
ready_admit m j words h is below out joins own shut = record {
  session = is;
  begun =
      may_admit m j h is.begun is.reached joins
      (λ inside. is.marks j inside
      ∙ elim (mark_for_cases (why_of m j)) [
        | inl live ↦ absurd (out (record { below = inside; why = inl live }))
        | inr other ↦
            elim other [
              | inl rebuilt ↦ absurd (out (record { below = inside; why = inr rebuilt }))
              | inr down ↦ down
            ]
      ]);
  promoted = λ i same. absurd (cc);
  serves = λ i same. absurd (cc);
  absent = λ i same. let at : j ≡ i = cc in subst (λ x. (x < m.array.geometry.n) × (¬ IsHere m x)) at (below, out);
  own = λ i same. let at : j ≡ i = cc in subst (IsAttachedOrBare h) at own;
  shut = λ i same. let at : j ≡ i = cc in subst (λ x. IsAttached h x → IsShut m.array.geometry h h x) at shut;
}

-- A GREATER DRAW WAS SEEN

-- With another draw, or other places, a member is in the session where a call may begin with it.
likewise : (m : Membership) (drawn : ℕ) (places : List ℕ) (words : Codewords) (h : List Happening)
    → IsBegun None (member_of m.array drawn m.whys places) h → IsInSession m words h
    → IsInSession (member_of m.array drawn m.whys places) words h
likewise m drawn places words h begun is = record {
  begun = begun;
  marks = is.marks;
  reached = λ image left.
      let have = is.reached image left in
      record {
        exceptions = have.exceptions;
        formed = have.formed;
        few = have.few;
        others = λ j below out.
            let of = have.others j below out in
            (record { below = of.0.below; why = of.0.why }, of.1);
      };
  own = λ j here. is.own j (record { below = here.below; why = here.why });
  live = is.live;
  shut = is.shut;
}

abbrev pub with_drawn : Membership → ℕ → Membership
with_drawn m draw = record m { drawn = draw }

pub seen : (m : Membership) (draw : ℕ) (words : Codewords) (h : List Happening) → m.drawn ≤ draw → IsMembership (with_drawn m draw)
    → IsInSession m words h → IsInSession (with_drawn m draw) words h
seen m draw words h more rules is = likewise m draw m.places words h begun is
  where
    known_then : (image : Image) → IsKnownTo None m (IsAttached h) image → IsKnownTo None (with_drawn m draw) (IsAttached h) image
    known_then image was = record {
      orderly = was.orderly;
      latest = was.latest;
      named = was.named;
      drawn = λ j k s taken attached place holds.
          elim taken [
            | inl here ↦
                let most : s.draw ≤ m.drawn = was.drawn j k s (inl (record { below = here.below; why = here.why })) attached place holds in
                omega (arith, most, more)
            | inr joins ↦ let never : None ≡ Some j = joins.0 in absurd (cc)
          ];
      aside = λ j s here. was.aside j s (record { below = here.below; why = here.why });
      own = λ j s here. was.own j s (record { below = here.below; why = here.why });
      reserved = was.reserved;
      reached = was.reached;
      joined = was.joined;
    }

    begun : IsBegun None (with_drawn m draw) h
    begun = record {
      history = is.begun.history;
      member = rules;
      settled = is.begun.settled;
      down = is.begun.down;
      known = λ image left. known_then image (is.begun.known image left);
    }

-- so it is once it looked at a slot that doesn't take part
pub sees : (slot : ℕ) (first second : Option Superblock) (m s : Membership) (words : Codewords) (h : List Happening)
    → Sees slot first second m s → IsMembership s → ¬ IsHere m slot → IsInSession m words h → IsInSession s words h
sees slot first second m s words h looks rules out is =
    subst (λ (whys : List Why). IsInSession (member_of s.array s.drawn whys s.places) words h) (sym looks.whys)
    (subst (λ (array : Configuration). IsInSession (member_of array s.drawn m.whys s.places) words h) (sym looks.array)
    (likewise m s.drawn s.places words h begun is))
  where
    of_whys : IsBegun None (member_of s.array s.drawn m.whys s.places) h
    of_whys =
        subst (λ (whys : List Why). IsBegun None (member_of s.array s.drawn whys s.places) h) looks.whys
        (saw None slot first second m s looks out h rules is.begun)

    begun : IsBegun None (member_of m.array s.drawn m.whys s.places) h
    begun = subst (λ (array : Configuration). IsBegun None (member_of array s.drawn m.whys s.places) h) looks.array of_whys

-- A SLOT THAT WAS REBUILT

syncs_beside : (m : Membership) (to : Slots) (i : ℕ) (c : SlotCall) → IsOn to Sync i c → IsBeside m i c
syncs_beside m to i c is =
    let same : Sync is.1.0 ≡ c = sym is.1.1 in record {
      epochs = record {
        behind = subst (IsBehindPlaces i) same tt;
        attaches = subst (λ x. AttachesNone (IsHere m) i x) same (λ here. tt);
        gate = λ below rebuilt bytes answer wrote. let never : Sync is.1.0 ≡ Write gate_sector bytes answer = same ∙ wrote in absurd (cc);
      };
      spares = subst (λ x. WritesNone (λ k. (k < m.array.geometry.n) × (why_of m k ≡ why.Here)) i x) same tt;
    }

-- Once all its chunks are written and it is synced it may be promoted.
pub promotable : (m : Membership) (words : Codewords) (j : ℕ) (to gone : Slots) (old new : List Happening) → IsInSession m words old
    → j < m.array.geometry.n → why_of m j ≡ why.Rebuilding → Settled to gone old new → IsDone to gone j
    → (IsAttached old j → IsRebuiltTo m.array.geometry words j m.array.geometry.stripes old old) → NothingReturned old new
    → IsReadyFor (Promote j) m words new
promotable m words j to gone old new is below rebuilt settles done chunks none =
    let here : IsHere m j = record { below = below; why = inr rebuilt } in
    let ran = ran_weakened {allowed = IsOn to Sync} {more = IsBeside m} (λ i c may. syncs_beside m to i c may) settles.ran in
    ready_promote m j words new (beside m words old new is ran none) here
    (λ on.
    let was = was_attached m words old new ran j here on in
    rebuilt_serves m.array.geometry words j to gone old old new is.begun.member.array.limits settles done (chunks was) (is.shut j below rebuilt was) on
    (kept_medium m words old new ran j here on))

-- A SLOT THAT WAS LOOKED AT AND LAID OUT

-- Where each place of a slot that isn't here was seen to hold no greater draw than the member's, it may join.
pub looked : (m : Membership) (j : ℕ) (old new : List Happening) → IsBegun None m old → j < m.array.geometry.n → ¬ IsHere m j
    → Ran IsBehindPlaces old new → NothingReturned old new
    → ((k : ℕ) → k < 2 → AtSomeMoment (λ h. (s : Superblock) → HoldsSuper (content ((slot_state h j).sector k)) s → s.draw ≤ m.drawn) old new)
    → MayJoin (Some j) m new
looked m j old new begun below out ran none saw = record {
  absent = λ i same. let at : j ≡ i = cc in subst (λ x. ¬ IsHere m x) at out;
  drawn = λ image left i k s same attached place holds.
      let at : j ≡ i = cc in
      drawn_at image left k s place (subst (λ x. HoldsSuper ((image x).cell k) s) (sym at) holds);
}
  where
    drawn_at : (image : Image) → CrashMayLeave new image → (k : ℕ) (s : Superblock) → k < 2 → HoldsSuper ((image j).cell k) s → s.draw ≤ m.drawn
    drawn_at image left k s place holds =
        some.holds s (holds_before copies holds)
      where
        some : AtSomeMoment (λ h. (s : Superblock) → HoldsSuper (content ((slot_state h j).sector k)) s → s.draw ≤ m.drawn) old new
        some = saw k place

        first : Sector
        first = (slot_state old j).sector k

        first_settled : first ≡ settled first.base
        first_settled = nothing_unsynced first (begun.settled j k below place)

        -- settled when it was seen, and since
        then : Stays (content first) ((slot_state some.moment j).sector k)
        then =
            place_stays (content first) j k place (ran_before {allowed = IsBehindPlaces} ran some.is_one) (each_before {P = ReturnsNothing} none some.is_one)
            (inl (first_settled ∙ ap settled (sym (ap content first_settled))))

        seen_settled : (x : Sector) → Stays (content first) x → Stays (content x) x
        seen_settled x (inl is) = inl (is ∙ ap settled (sym (ap content is)))
        seen_settled x (inr is) = inr is

        now : Stays (content ((slot_state some.moment j).sector k)) ((slot_state new j).sector k)
        now =
            place_stays (content ((slot_state some.moment j).sector k)) j k place (ran_after {allowed = IsBehindPlaces} ran some.is_one)
            (each_after {P = ReturnsNothing} none some.is_one) (seen_settled ((slot_state some.moment j).sector k) then)

        copies : ((image j).cell k ≡ content ((slot_state some.moment j).sector k)) ⊎ ((image j).cell k ≡ Damaged)
        copies =
            elim now [
              | inl is ↦
                  inl (settled_left (content ((slot_state some.moment j).sector k)) ((image j).cell k) (subst (λ x. MayLeave x ((image j).cell k)) is ((left j).each k)))
              | inr is ↦ inr (settled_left Damaged ((image j).cell k) (subst (λ x. MayLeave x ((image j).cell k)) is ((left j).each k)))
            ]

-- A closed gate on the disk, but for the outside, is shut.
pub laid : (g : Geometry) (j : ℕ) (start h : List Happening) → ButForOutside start h j gate_sector (λ s. s ≡ settled (Good closed_gate)) → IsShut g start h j
laid g j start h is =
    IsKept-mapped
    (λ s at. subst (Leaves (ReadsClosed g) (ReadsClosed g)) (sym at) (Leaves-settled (Good closed_gate) (closed g) (closed g))) is
