-- A fence begins, by the member that some slots left, where one begins by the member that it was.
use Rattle.std.proofs.Common.{◌≡◌, ℕ, ◌<◌, List, inl, inr, sym, ◌∙◌, subst, None, Some}
use Rattle.stair_model.specs.Geometry.{Geometry}
use Rattle.stair_model.specs.Slots.{HasSlot, Slots}
use Rattle.stair_rack.specs.History.{Happening}
use Rattle.stair_rack.specs.Media.{SlotImage}
use Rattle.stair_member.specs.Aims.{admitted}
use Rattle.stair_member.specs.Epochs.{IsTaken}
use Rattle.stair_member.specs.Establishing.{Leaves}
use Rattle.stair_member.specs.Membership.{IsHere, IsMembership, Membership}
use Rattle.stair_member.specs.declared.aim.EpochChange.{EpochChange}
use Rattle.stair_member.specs.declared.aim.EpochChange.TheVariants.{Fence}
use Rattle.stair_member.specs.declared.why.Why.{Why}
use Rattle.stair_member.specs.declared.why.Why.TheVariants as why
use Rattle.stair_member.proofs.CountingLemmas.{has_or_not}
use Rattle.stair_state.specs.Holding.{CurrentMedia}
use Rattle.stair_state.specs.State.{State}
use Rattle.stair_invariant.proofs.FencesLemmas.{start_rules}
use Rattle.stair_reinsert.specs.Beginning.{AreCurrentMediaClosed, BeginsWherever}
use Rattle.stair_reinsert.specs.Behind.{Bearing, ByMedium, ByMember, HasCurrentMedium, HasNumber, InUse, IsRebuiltAs}

module _ (current_media : CurrentMedia) (m : Membership) (whys : List Why) (h : List Happening) where
  -- the same member, with other reasons
  abbrev other : Membership
  other = record { array = m.array; drawn = m.drawn; whys = whys; places = m.places }

  module _ (here : (j : ℕ) → IsHere other j → IsHere m j) where
    number : (g : Geometry) (from to : SlotImage) (j n : ℕ) → HasNumber g other h from to j n → HasNumber g m h from to j n
    number g from to j n (Bearing b bears joined) = Bearing b bears joined
    number g from to j n (InUse is used joined size copies) = InUse (here j is) used joined size copies

    current_medium : (g : Geometry) (from to : SlotImage) (j : ℕ) → HasCurrentMedium g current_media other h from to j → HasCurrentMedium g current_media m h from to j
    current_medium g from to j has = record { joined = has.joined; current_medium = has.current_medium; number = number g from to j has.joined has.number }

    pub closed_other : (g : Geometry) → AreCurrentMediaClosed g current_media m h → AreCurrentMediaClosed g current_media other h
    closed_other g closed image left to j reassembly has = closed image left to j reassembly (current_medium g (image j) (to j) j has)

  module _ (s : State) (since : ℕ) (aim : EpochChange) (rules : IsMembership other) (here : (j : ℕ) → IsHere other j → IsHere m j)
      (joins : (j n : ℕ) → IsTaken (admitted aim) other j → current_media j ≡ Some n → IsHere other j)
      (begins : BeginsWherever s current_media since aim m h) where
    taken : (j : ℕ) → IsTaken (admitted aim) other j → IsTaken (admitted aim) m j
    taken j (inl is) = inl (here j is)
    taken j (inr is) = inr is

    rebuilt : (g : Geometry) (j n : ℕ) → IsRebuiltAs g since other h j n → IsRebuiltAs g since m h j n
    rebuilt g j n (ByMedium a there marked joined) = ByMedium a there marked joined
    rebuilt g j n (ByMember marked joined) = ByMember marked joined

    begins_other : BeginsWherever s current_media since aim other h
    begins_other = record {
      history = begins.history;
      member = rules;
      geometry = begins.geometry;
      is = begins.is;
      recent = begins.recent;
      known = λ image left.
          let k = begins.known image left in
          record { covered = k.covered; named = k.named; sole = λ j p x is. k.sole j p x (here j is); down = k.down };
      supers = λ j is on.
          let k = begins.supers j (taken j is) on in
          record { there = k.there; steady = k.steady; drawn = k.drawn; place = k.place; aside = k.aside };
      behind = record {
        forms = λ image left to some reassembly have.
            begins.behind.forms image left to some reassembly (λ j on. current_medium here s.geometry (image j) (to j) j (have j on));
        full = λ image left to j reassembly has. begins.behind.full image left to j reassembly (current_medium here s.geometry (image j) (to j) j has);
        rebuilding = λ image left to j n redo reassembly is has.
            begins.behind.rebuilding image left to j n redo reassembly (rebuilt s.geometry j n is) (number here s.geometry (image j) (to j) j n has);
        laid = begins.behind.laid;
      };
      drawn = begins.drawn;
      meant = record {
        taken = λ j n is held. (joins j n is held, (begins.meant.taken j n (taken j is) held).1);
        live = begins.meant.live;
        rebuilt = begins.meant.rebuilt;
        promoted = begins.meant.promoted;
      };
      says = record {
        frozen = begins.says.frozen;
        label = begins.says.label;
        frozen_new = begins.says.frozen_new;
        label_new = begins.says.label_new;
      };
    }

module _ (leaving : Slots) (m start : Membership) (leaves : Leaves leaving m start) where
  same : start ≡ record { array = m.array; drawn = m.drawn; whys = start.whys; places = m.places }
  same = λ i. record { array = leaves.array i; drawn = leaves.drawn i; whys = start.whys; places = leaves.places i }

  here : (j : ℕ) → IsHere (record { array = m.array; drawn = m.drawn; whys = start.whys; places = m.places }) j → IsHere m j
  here j is =
      elim (has_or_not leaving j) [
        | inl out ↦
            elim is.why [
              | inl up ↦ let never : why.Gone ≡ why.Here = sym (leaves.left j out) ∙ up in absurd (cc)
              | inr up ↦ let never : why.Gone ≡ why.Rebuilding = sym (leaves.left j out) ∙ up in absurd (cc)
            ]
        | inr stays ↦ record {
          below = is.below;
          why =
              elim is.why [
                | inl up ↦ inl (sym (leaves.others j stays) ∙ up)
                | inr up ↦ inr (sym (leaves.others j stays) ∙ up)
              ];
        }
      ]

-- where none is admitted
pub leaves_begins : (s : State) (current_media : CurrentMedia) (since : ℕ) (leaving : Slots) (m start : Membership) (h : List Happening)
    → BeginsWherever s current_media since Fence m h → Leaves leaving m start → ((j : ℕ) → HasSlot leaving j → j < m.array.geometry.n) → BeginsWherever s current_media since Fence start h
leaves_begins s current_media since leaving m start h begins leaves below =
    subst (λ (x : Membership). BeginsWherever s current_media since Fence x h) (sym (same leaving m start leaves))
    (begins_other current_media m start.whys h s since Fence (subst IsMembership (same leaving m start leaves) (start_rules leaving m start leaves below begins.member))
    (here leaving m start leaves) only begins)
  where
    only : (j n : ℕ) → IsTaken None (record { array = m.array; drawn = m.drawn; whys = start.whys; places = m.places }) j → current_media j ≡ Some n
        → IsHere (record { array = m.array; drawn = m.drawn; whys = start.whys; places = m.places }) j
    only j n (inl is) held = is
    only j n (inr joins) held = let never : None ≡ Some j = joins.0 in absurd (cc)

pub leaves_closed : (g : Geometry) (current_media : CurrentMedia) (leaving : Slots) (m start : Membership) (h : List Happening)
    → AreCurrentMediaClosed g current_media m h → Leaves leaving m start → AreCurrentMediaClosed g current_media start h
leaves_closed g current_media leaving m start h closed leaves =
    subst (λ (x : Membership). AreCurrentMediaClosed g current_media x h) (sym (same leaving m start leaves))
    (closed_other current_media m start.whys h (here leaving m start leaves) g closed)
