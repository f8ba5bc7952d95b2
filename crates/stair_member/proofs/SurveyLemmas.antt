-- What a survey answers.
use Rattle.std.proofs.Common.{◌≡◌, ◌≢◌, ℕ, ◌^◌, ◌<◌, ◌≤◌, ◌↔◌, refl, sym, subst, List, length, Option, None, Some, arith}
use Rattle.std.specs.Prelude.{slice_index_or}
use Rattle.stair_model.specs.Geometry.{Geometry}
use Rattle.stair_model.specs.Slots.{Slots, HasSlot, IsSlotSet, slot_count}
use Rattle.stair_rack.specs.Media.{Image}
use Rattle.stair_super.specs.Superblock.{Superblock, IsSuperblock}
use Rattle.stair_member.specs.Counting.{AtMost, MoreThan}
use Rattle.stair_member.specs.Current.{IsCurrent}
use Rattle.stair_member.specs.Findings.{Findings}
use Rattle.stair_member.specs.Membership.{IsMembership, IsMissing, member_of}
use Rattle.stair_member.specs.Reasons.{IsReason}
use Rattle.stair_member.specs.JudgeSteps.{IsCurrentOf, IsFirst, Shows, Tells}
use Rattle.stair_member.specs.Superblocks.{Identifies, IsOnlyIdentity}
use Rattle.stair_member.specs.Survey.{IsGreatestDraw, IsSurveyed}
use Rattle.stair_member.specs.declared.surveying.Sights.{Sights}
use Rattle.stair_member.specs.declared.why.Why.{Why}
use Rattle.stair_member.specs.declared.why.Why.TheVariants.{Here}
use Rattle.stair_member.proofs.JudgeLemmas.{only_one, stands_some}
use Rattle.stair_member.proofs.ReasonLemmas.{few_missing, many_missing, marked_for}

-- the reasons of slots are those of whatever image the superblocks are of
abbrev pub AreReasons : List (Option Superblock) → Slots → Superblock → List Why → Type 0
AreReasons found gone current whys = (image : Image) → Shows found image → (j : ℕ) → j < current.array.geometry.n
    → IsReason (HasSlot gone) current.array.geometry image current j (slice_index_or whys j Here)

-- an array that stands has a current superblock
pub stands_current : (image : Image) (g : Geometry) → IsFirst None image (Some g) → ¬ IsCurrentOf g image None
stands_current image g first none =
    let some = stands_some g image first.1.stands in
    none some.0 some.2

module _ (sights : Sights) (g : Geometry) (current : Superblock) (whys : List Why) (drawn : ℕ)
    (first : (image : Image) → Shows sights.newest image → IsFirst None image (Some g))
    (second : (image : Image) → Shows sights.newest image → IsFirst (Some g) image None)
    (is_current : (image : Image) → Shows sights.newest image → IsCurrent g image current)
    (draws : (image : Image) → Shows sights.newest image → Identifies g image → IsGreatestDraw g image drawn)
    (reasons : AreReasons sights.newest sights.gone current whys)
    (absent : (j : ℕ) → current.array.geometry.n ≤ j → slice_index_or whys j Here ≡ Here) where
  module _ (f : Findings) (tells : Tells sights f) where
    same_array : g ≡ current.array.geometry
    same_array = sym (is_current f.image tells.shows).counts.identity

    is_draw : IsGreatestDraw g f.image drawn
    is_draw = draws f.image tells.shows (first f.image tells.shows).1.stands

    pub is_surveyed : IsSurveyed f (member_of current.array drawn whys sights.next)
    is_surveyed = record {
      identity =
          subst (λ (h : Geometry). IsOnlyIdentity h f.image) same_array (only_one f.image g (first f.image tells.shows) (second f.image tells.shows));
      current = current;
      is_current = subst (λ (h : Geometry). IsCurrent h f.image current) same_array (is_current f.image tells.shows);
      array = refl;
      drawn = subst (λ (h : Geometry). IsGreatestDraw h f.image drawn) same_array is_draw;
      reasons = λ j below.
          subst (λ (s : Slots). IsReason (HasSlot s) current.array.geometry f.image current j (slice_index_or whys j Here)) (sym tells.gone)
          (reasons f.image tells.shows j below);
      absent = λ j past below. absent j past;
      places = λ j below. tells.next j below;
    }

    pub member_rules : IsSuperblock current → length whys ≡ 32 → drawn < 2 ^ 64 → IsMembership (member_of current.array drawn whys sights.next)
    member_rules block size fits = record {
      sizes = record {
        id = block.sizes.id;
        drawn = fits;
        marks = block.sizes.marks;
        joins = block.sizes.joins;
        label = block.sizes.label;
        whys = size;
        places = tells.size;
      };
      array = block.rules.array;
      known = known;
      absent = λ j past below. absent j past;
      marked = λ j below.
          marked_for (HasSlot sights.gone) current.array.geometry f.image current j (slice_index_or whys j Here)
          (reasons f.image tells.shows j below);
      places = λ j below. (tells.next j below).below;
    }
      where
        known : current.array.epoch ≤ drawn
        known =
            let least : current.array.epoch ≤ current.draw = block.rules.drawn in
            let greatest = is_draw.above current.slot current (is_current f.image tells.shows).counts in
            omega arith

  module _ (set : Slots) (formed : IsSlotSet set) (members : (j : ℕ) → HasSlot set j ↔ (slice_index_or whys j Here ≢ Here)) where
    pub member_few : slot_count set ≤ current.array.geometry.m
        → AtMost current.array.geometry.m (IsMissing (member_of current.array drawn whys sights.next))
    member_few = few_missing (member_of current.array drawn whys sights.next) set formed members absent

    pub member_many : current.array.geometry.m < slot_count set
        → MoreThan current.array.geometry.m (IsMissing (member_of current.array drawn whys sights.next))
    member_many = many_missing (member_of current.array drawn whys sights.next) set formed members absent
