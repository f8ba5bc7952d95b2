-- The record of a session once its member looked at a slot that doesn't take part.
use Rattle.std.proofs.Common.{ℕ, ◌-◌, ◌≡◌, ◌⊎◌, List, None, Option, arith, subst, sym}
use Rattle.stair_rack.specs.History.{Happening, slot_state}
use Rattle.stair_rack.specs.Sector.{content, damaged}
use Rattle.stair_super.specs.Newer.{IsOlder}
use Rattle.stair_super.specs.Superblock.{Superblock}
use Rattle.stair_super.specs.declared.configuration.Configuration.{Configuration}
use Rattle.stair_member.specs.Fencing.{IsBegun}
use Rattle.stair_member.specs.Membership.{IsHere, IsMembership, Membership, place_of}
use Rattle.stair_member.specs.Seeing.{Sees}
use Rattle.stair_member.specs.Superblocks.{HoldsSuper}
use Rattle.stair_member.specs.declared.why.Why.{Why}
use Rattle.stair_member.proofs.CountingLemmas.{at_most_fewer}
use Rattle.stair_member.proofs.SeeingLemmas.{saw}
use Rattle.stair_state.specs.Blocks.{Codewords}
use Rattle.stair_invariant.specs.Returning.{HasOwnNewest}
use Rattle.stair_invariant.specs.Session.{ArrayState, HasOwn, IsOpenWith, IsOwnSector, own_super}

abbrev pub with_member : ArrayState → Membership → ArrayState
with_member a m = record a { member = m }

-- a member of these parts
abbrev pub of_parts : Configuration → ℕ → List Why → List ℕ → Membership
of_parts array drawn whys places = record { array = array; drawn = drawn; whys = whys; places = places }

module _ (before : List Happening) (a : ArrayState) (slot : ℕ) (first second : Option Superblock) (s : Membership) (words : Codewords)
    (h : List Happening) (is : IsOpenWith before a words h) (looks : Sees slot first second a.member s) (rules : IsMembership s)
    (out : ¬ IsHere a.member slot) where
  abbrev m : Membership
  m = a.member

  -- with what it saw, and all else as it was
  abbrev pub then : Membership
  then = of_parts m.array s.drawn m.whys s.places

  rules_then : IsMembership then
  rules_then =
      subst (λ (array : Configuration). IsMembership (of_parts array s.drawn m.whys s.places)) looks.array
      (subst (λ (whys : List Why). IsMembership (of_parts s.array s.drawn whys s.places)) looks.whys rules)

  was_here : (j : ℕ) → IsHere then j → IsHere m j
  was_here j here = record { below = here.below; why = here.why }

  same_place : (j : ℕ) → IsHere m j → place_of m j ≡ place_of s j
  same_place j here = sym (looks.others j (λ same. out (subst (IsHere m) same here)))

  own_then : (j : ℕ) → IsHere m j → HasOwn m h j → HasOwn then h j
  own_then j here own = record {
    draw = own.draw;
    reached = own.reached;
    seen = let seen = own.seen in let more = looks.drawn in omega (arith, seen, more);
    own =
        subst (λ (k : ℕ). ((slot_state h j).sector (1 - k) ≡ damaged) ⊎ IsOwnSector m own.draw j ((slot_state h j).sector (1 - k)))
        (same_place j here) own.own;
    newest =
        subst
        (λ (k : ℕ). (other : Superblock) → HoldsSuper (content ((slot_state h j).sector k)) other → ¬ IsOlder (own_super m own.draw j) other)
        (same_place j here) own.newest;
    settled_both = own.settled_both;
  }

  pub newest_then : (j : ℕ) → IsHere m j → HasOwnNewest m h j → HasOwnNewest then h j
  unfolding own_then
  newest_then j here newest = record {
    own = own_then j here newest.own;
    newest =
        subst
        (λ (k : ℕ). (other : Superblock) → HoldsSuper (content ((slot_state h j).sector k)) other
        → (other ≡ own_super m newest.own.draw j) ⊎ IsOlder other (own_super m newest.own.draw j))
        (same_place j here) newest.newest;
  }

  open_then : IsOpenWith before (with_member a then) words h
  open_then = record {
    array = record {
      member = rules_then;
      marks = is.array.marks;
      enough = at_most_fewer (λ j missing. record { below = missing.below; why = missing.why }) is.array.enough;
      rebuilds = λ rebuild of.
          let was = is.array.rebuilds rebuild of in (record { below = was.0.below; why = was.0.why }, was.1);
    };
    ran = is.ran;
    held = λ j here. is.held j (was_here j here);
    own = λ j here on. own_then j (was_here j here) (is.own j (was_here j here) on);
    live = λ j at. is.live j (record { below = at.below; why = at.why });
    shut = λ j at. is.shut j (record { below = at.below; why = at.why });
    rebuilt = is.rebuilt;
  }

  -- So the record is that with what the member saw.
  pub open_more : IsOpenWith before (with_member a s) words h
  open_more =
      subst (λ (whys : List Why). IsOpenWith before (with_member a (of_parts s.array s.drawn whys s.places)) words h) (sym looks.whys)
      (subst (λ (array : Configuration). IsOpenWith before (with_member a (of_parts array s.drawn m.whys s.places)) words h) (sym looks.array) open_then)

  pub saw_more : IsBegun None m h → IsOpenWith before (with_member a s) words h × IsBegun None s h
  saw_more begun = (open_more, saw None slot first second m s looks out h rules begun)
