-- A call begins likewise with a member that looked at a slot which doesn't take part.
use Rattle.std.proofs.Common.{◌≡◌, ◌⊎◌, ℕ, ◌<◌, List, sym, ap, ◌∙◌, subst, arith, length, Option}
use Rattle.std.specs.Prelude.{max, slice_index, slice_index_or, slice_set}
use Rattle.std.proofs.lemmas.List.{get_or-set_other, get_or-set_same}
use Rattle.stair_rack.specs.History.{Happening}
use Rattle.stair_rack.specs.Sector.{Cell}
use Rattle.stair_super.specs.Superblock.{Superblock}
use Rattle.stair_super.specs.declared.configuration.Configuration.{Configuration}
use Rattle.stair_member.specs.Fencing.{IsBegun}
use Rattle.stair_member.specs.Membership.{Membership, IsHere, IsMembership, place_of}
use Rattle.stair_member.specs.Seeing.{Sees, draw_in}
use Rattle.stair_member.specs.Superblocks.{HoldsThis}
use Rattle.stair_member.specs.Survey.{IsNextPlace}
use Rattle.stair_member.specs.declared.why.Why.{Why}
use Rattle.stair_member.specs.declared.why.Why.TheVariants as why
use Rattle.stair_member.proofs.LikewiseLemmas.{begun_likewise}

-- ---- the draws of both places, and then the next place

pub sees_by : (j : ℕ) (first second : Option Superblock) (m one two seen : Membership) (place : ℕ) → j < 32 → length two.places ≡ 32
    → one ≡ record m { drawn = max m.drawn (draw_in first) } → two ≡ record one { drawn = max one.drawn (draw_in second) }
    → seen ≡ record two { places = slice_set two.places j place }
    → ((cell : ℕ → Cell) → HoldsThis (cell 0) first → HoldsThis (cell 1) second → IsNextPlace cell place) → Sees j first second m seen
sees_by j first second m one two seen place small fits is_one is_two is_seen next =
    let places : two.places ≡ m.places = ap (λ (x : Membership). x.places) is_two ∙ ap (λ (x : Membership). x.places) is_one in
    record {
      array =
          ap (λ (x : Membership). x.array) is_seen ∙ ap (λ (x : Membership). x.array) is_two ∙ ap (λ (x : Membership). x.array) is_one;
      whys = ap (λ (x : Membership). x.whys) is_seen ∙ ap (λ (x : Membership). x.whys) is_two ∙ ap (λ (x : Membership). x.whys) is_one;
      drawn =
          ap (λ (x : Membership). x.drawn) is_seen
          ∙ ap (λ (x : Membership). x.drawn) is_two
          ∙ ap (λ (d : ℕ). max d (draw_in second)) (ap (λ (x : Membership). x.drawn) is_one);
      next = λ cell holds holds'.
          subst (λ (k : ℕ). IsNextPlace cell k)
          (sym (ap (λ (x : Membership). place_of x j) is_seen ∙ get_or-set_same two.places j place 0 (omega (arith, small, fits))))
          (next cell holds holds');
      others = λ i other.
          ap (λ (x : Membership). place_of x i) is_seen
          ∙ get_or-set_other two.places j i place 0 other
          ∙ ap (λ (l : List ℕ). slice_index l i) places;
    }

-- ---- what a call asks

module _ (joining : Option ℕ) (slot : ℕ) (first second : Option Superblock) (m seen : Membership) (sees : Sees slot first second m seen)
    (absent : ¬ IsHere m slot) where
  -- no slot comes to be here
  here_before : (j : ℕ) → IsHere seen j → IsHere m j
  here_before j here = record {
    below = subst (λ (a : Configuration). j < a.geometry.n) sees.array here.below;
    why = subst (λ (l : List Why). (slice_index_or l j why.Here ≡ why.Here) ⊎ (slice_index_or l j why.Here ≡ why.Rebuilding)) sees.whys here.why;
  }

  pub saw : (h : List Happening) → IsMembership seen → IsBegun joining m h → IsBegun joining seen h
  saw =
      begun_likewise joining m seen sees.array here_before (λ j here. sees.others j (λ same. absent (subst (IsHere m) same here)))
      (let drawn = sees.drawn in omega arith)
