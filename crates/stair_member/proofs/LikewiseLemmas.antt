-- A call begins likewise with a member that is like another one.
use Rattle.std.proofs.Common.{◌≡◌, ◌≤◌, ◌-◌, ℕ, List, inl, inr, sym, subst, arith, Option}
use Rattle.stair_rack.specs.History.{Happening}
use Rattle.stair_rack.specs.Media.{Image}
use Rattle.stair_rack.specs.Offline.{IsAttached}
use Rattle.stair_member.specs.Epochs.{IsTaken}
use Rattle.stair_member.specs.Fencing.{IsBegun, IsKnownTo}
use Rattle.stair_member.specs.Membership.{Membership, IsHere, IsMembership, member_of, place_of}
use Rattle.stair_member.specs.Superblocks.{HoldsSuper}

-- of the same array, with no slot more that is here, with the next places of those that are, and with no lower draw
module _ (joining : Option ℕ) (m other : Membership) (array : other.array ≡ m.array) (here : (j : ℕ) → IsHere other j → IsHere m j)
    (same_place : (j : ℕ) → IsHere m j → place_of other j ≡ place_of m j) (more_drawn : m.drawn ≤ other.drawn) where
  abbrev like : Membership
  like = member_of m.array other.drawn other.whys other.places

  is_like : other ≡ like
  is_like = λ i. record { array = array i; drawn = other.drawn; whys = other.whys; places = other.places }

  here_in : (j : ℕ) → IsHere like j → IsHere m j
  here_in = subst (λ (x : Membership). (j : ℕ) → IsHere x j → IsHere m j) is_like here

  taken_in : (j : ℕ) → IsTaken joining like j → IsTaken joining m j
  taken_in j (inl is) = inl (here_in j is)
  taken_in j (inr joins) = inr joins

  known_like : (attached : ℕ → Type 0) (image : Image) → IsKnownTo joining m attached image → IsKnownTo joining like attached image
  known_like attached image k = record {
    orderly = k.orderly;
    latest = k.latest;
    named = k.named;
    drawn = λ j place s taken on below holds.
        let most : s.draw ≤ m.drawn = k.drawn j place s (taken_in j taken) on below holds in
        let more : m.drawn ≤ other.drawn = more_drawn in
        omega arith;
    aside = λ j s is_here counts one two.
        subst (λ (p : ℕ). HoldsSuper ((image j).cell (1 - p)) s) (sym (same_place j (here_in j is_here))) (k.aside j s (here_in j is_here) counts one two);
    own = λ j s is_here on holds.
        k.own j s (here_in j is_here) on
        (subst (λ (p : ℕ). HoldsSuper ((image j).cell (1 - p)) s) (same_place j (here_in j is_here)) holds);
    reserved = k.reserved;
    reached = k.reached;
    joined = k.joined;
  }

  pub begun_likewise : (h : List Happening) → IsMembership other → IsBegun joining m h → IsBegun joining other h
  begun_likewise h rules begun =
      subst (λ (x : Membership). IsBegun joining x h) (sym is_like) (record {
        history = begun.history;
        member = subst IsMembership is_like rules;
        settled = begun.settled;
        down = begun.down;
        known = λ image may. known_like (IsAttached h) image (begun.known image may);
      })
