-- What all slots but m tell that bear the last draw.
use Rattle.std.proofs.Common.{◌≡◌, ℕ, ◌<◌, ◌≤◌, inl, inr, subst, arith}
use Rattle.std.proofs.lemmas.Bool.{cases_lt}
use Rattle.stair_model.specs.Geometry.{Geometry, IsWithinLimits}
use Rattle.stair_rack.specs.Media.{Image}
use Rattle.stair_rack.specs.Sector.{Cell}
use Rattle.stair_super.specs.Newer.{IsOlder}
use Rattle.stair_super.specs.Superblock.{Superblock}
use Rattle.stair_member.specs.Counting.{AtMost, AllBut}
use Rattle.stair_member.specs.Superblocks.{HoldsSuper, IsSuperOf, First, Second, Counts}
use Rattle.stair_member.specs.Current.{IsCurrent, IsLost, IsFailed, Serves}
use Rattle.stair_member.specs.Reserve.{NoEpochAbove, HasReserved, IsLastDrawn}
use Rattle.stair_member.proofs.CountingLemmas.{common, all_but_mapped}
use Rattle.stair_member.proofs.SuperLemmas.{holds_once, counts_bears}
use Rattle.stair_member.proofs.StandingLemmas.{others}

-- a superblock that isn't older than another one
pub record IsNoOlder (a b : Superblock) : Type 0 where
  pub draws : b.draw ≤ a.draw
  pub epochs : a.draw ≡ b.draw → b.array.epoch ≤ a.array.epoch

not_older : (a b : Superblock) → ¬ IsOlder a b → IsNoOlder a b
not_older a b not = record {
  draws = elim (cases_lt a.draw b.draw) [ inl less ↦ absurd (not (inl less)) | inr le ↦ le ];
  epochs = λ same. elim (cases_lt a.array.epoch b.array.epoch) [ inl less ↦ absurd (not (inr (same, less))) | inr le ↦ le ];
}

newer_is : (a b : Superblock) → IsOlder b a → IsNoOlder a b
newer_is a b (inl less) = record { draws = omega arith; epochs = λ same. omega arith }
newer_is a b (inr both) = let draws = both.0 in let epochs = both.1 in record { draws = omega arith; epochs = λ same. omega arith }

same_is : (a b : Superblock) → a ≡ b → IsNoOlder a b
same_is a b same = subst (λ (t : Superblock). IsNoOlder a t) same (record { draws = omega arith; epochs = λ e. omega arith })

-- a medium's superblock is no older than what either place holds
pub super_no_older : (cell : ℕ → Cell) (s t : Superblock) (place : ℕ) → place < 2 → IsSuperOf cell s → HoldsSuper (cell place) t → IsNoOlder s t
super_no_older cell s t place within super holds =
    elim (cases_lt place 1) [
      | inl first ↦ at_first cell s t super (subst (λ (k : ℕ). HoldsSuper (cell k) t) (omega arith) holds)
      | inr second ↦ at_second cell s t super (subst (λ (k : ℕ). HoldsSuper (cell k) t) (omega arith) holds)
    ]
  where
    at_first : (cell : ℕ → Cell) (s t : Superblock) → IsSuperOf cell s → HoldsSuper (cell 0) t → IsNoOlder s t
    at_first cell s t (First a rest) holds = same_is s t (holds_once (cell 0) s t a holds)
    at_first cell s t (Second a rest) holds = newer_is s t (rest t holds)

    at_second : (cell : ℕ → Cell) (s t : Superblock) → IsSuperOf cell s → HoldsSuper (cell 1) t → IsNoOlder s t
    at_second cell s t (First a rest) holds = not_older s t (rest t holds)
    at_second cell s t (Second a rest) holds = same_is s t (holds_once (cell 1) s t a holds)

-- ---- a slot with the last draw, none of whose places is lost

-- its superblock has that draw, and at least that epoch
record HasLast (draw epoch : ℕ) (s : Superblock) : Type 0 where
  drawn : s.draw ≡ draw
  from : epoch ≤ s.array.epoch

has_last : (g : Geometry) (image : Image) (draw epoch j : ℕ) (s : Superblock) → IsLastDrawn g image draw epoch j → Counts g image j s
    → ((k : ℕ) → k < 2 → ¬ IsLost ((image j).cell k)) → HasLast draw epoch s
has_last g image draw epoch j s last counts whole =
    elim last.last [
      | inl lost ↦ absurd (whole last.place last.place_in lost)
      | inr drawn ↦
          let t : Superblock = drawn.0 in
          let newer : IsNoOlder s t = super_no_older ((image j).cell) s t last.place last.place_in counts.super drawn.1 in
          let greatest : s.draw ≤ draw = last.greatest s (counts_bears g image j s counts) in
          let draw_is : t.draw ≡ draw = drawn.2 in
          let epoch_is : t.array.epoch ≡ epoch = drawn.3 in
          let least : t.draw ≤ s.draw = newer.draws in
          let epochs : t.array.epoch ≤ s.array.epoch = newer.epochs (omega arith) in
          record { drawn = omega arith; from = omega arith }
    ]

pub newest : {offline : ℕ → Type 0} (g : Geometry) (image : Image) (current : Superblock) (draw epoch : ℕ) → IsWithinLimits g → IsCurrent g image current
    → AtMost g.m (IsFailed offline g image current) → AllBut g.n g.m (IsLastDrawn g image draw epoch) → epoch ≤ current.array.epoch
newest {offline} g image current draw epoch limits is few last =
    let found =
    common {n = g.n} {m = g.m} {P = Serves offline g image current} {Q = IsLastDrawn g image draw epoch}
    limits.devices.1 limits.majority (others g image current few) last in
    let serves : Serves offline g image current found.0 = found.2 in
    let s : Superblock = serves.live.super in
    let from : epoch ≤ s.array.epoch = (has_last g image draw epoch found.0 s found.3 serves.live.counts serves.places).from in
    elim (is.newest found.0 s serves.live.counts) [
      | inl before ↦ omega arith
      | inr tie ↦ let same : s.array.epoch ≡ current.array.epoch = tie.0 in omega arith
    ]

pub places_whole : (cell : ℕ → Cell) → ¬ IsLost (cell 0) → ¬ IsLost (cell 1) → (k : ℕ) → k < 2 → ¬ IsLost (cell k)
places_whole cell first second k lt =
    elim (cases_lt k 1) [
      | inl below ↦ subst (λ (i : ℕ). ¬ IsLost (cell i)) (omega arith) first
      | inr above ↦ subst (λ (i : ℕ). ¬ IsLost (cell i)) (omega arith) second
    ]

pub reserved : (g : Geometry) (image : Image) (draw epoch : ℕ) → NoEpochAbove g image draw → AllBut g.n g.m (IsLastDrawn g image draw epoch)
    → AllBut g.n g.m (HasReserved g image)
reserved g image draw epoch above last =
    all_but_mapped {P = IsLastDrawn g image draw epoch} {Q = HasReserved g image}
    (λ j below drawn s counts first second i t bears.
    let of : HasLast draw epoch s = has_last g image draw epoch j s drawn counts (places_whole ((image j).cell) first second) in
    let is : s.draw ≡ draw = of.drawn in
    let most : t.array.epoch ≤ draw = above i t bears in
    omega arith)
    last
