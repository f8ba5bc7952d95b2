-- Where an array stands it has a current superblock, and each of its slots serves or has failed.
use Rattle.std.proofs.Common.{◌≡◌, ℕ, zero, suc, ◌<◌, ◌≤◌, inl, inr, sym, ap, subst, arith}
use Rattle.std.specs.Prelude.{◌⊎◌, ◌↔◌}
use Rattle.std.proofs.lemmas.Bool.{cases_lt}
use Rattle.stair_model.specs.Geometry.{Geometry, IsWithinLimits}
use Rattle.stair_model.proofs.SetLaws.{slot_count_member}
use Rattle.stair_rack.specs.Media.{Image}
use Rattle.stair_super.specs.Superblock.{Superblock}
use Rattle.stair_super.specs.declared.mark.Mark.TheVariants.{Live}
use Rattle.stair_member.specs.Counting.{AtMost, AllBut}
use Rattle.stair_member.specs.Superblocks.{Counts, CountsFor, Identifies}
use Rattle.stair_member.specs.Current.{IsCurrent, IsFailed, NotLive, LostPlace, Offline, Serves}
use Rattle.stair_member.specs.Reserve.{HasReserved, HasGreatestDraw, IsOrderly}
use Rattle.stair_member.proofs.CountingLemmas.{common}
use Rattle.stair_member.proofs.SuperLemmas.{one_super, slot_below}
use Rattle.stair_member.proofs.DecisionLemmas.{counts_decided, has_mark_decided}

-- ---- serving

pub serves_unless_failed : {offline : ℕ → Type 0} (g : Geometry) (image : Image) (current : Superblock) (j : ℕ) → j < g.n
    → ¬ IsFailed offline g image current j → Serves offline g image current j
serves_unless_failed g image current j below not_failed =
    elim (has_mark_decided g image current Live j) [
      | inl live ↦ record {
        live = live;
        places = λ k place lost. not_failed (LostPlace k below place lost);
        online = λ off. not_failed (Offline below off);
      }
      | inr not_live ↦ absurd (not_failed (NotLive below not_live))
    ]

pub serves_not_failed : {offline : ℕ → Type 0} (g : Geometry) (image : Image) (current : Superblock) (j : ℕ) → Serves offline g image current j
    → ¬ IsFailed offline g image current j
serves_not_failed g image current j serves (NotLive below not_live) = not_live serves.live
serves_not_failed g image current j serves (LostPlace k below place lost) = serves.places k place lost
serves_not_failed g image current j serves (Offline below off) = serves.online off

pub serve : {offline : ℕ → Type 0} (g : Geometry) (image : Image) (current : Superblock) (j : ℕ) → j < g.n
    → Serves offline g image current j ↔ (¬ IsFailed offline g image current j)
serve g image current j below = (serves_not_failed g image current j, serves_unless_failed g image current j below)

pub others : {offline : ℕ → Type 0} (g : Geometry) (image : Image) (current : Superblock) → AtMost g.m (IsFailed offline g image current)
    → AllBut g.n g.m (Serves offline g image current)
others g image current few = record {
  exceptions = few.slots;
  formed = few.formed;
  few = few.few;
  others = λ j below out. serves_unless_failed g image current j below (λ failed. out (few.within j failed));
}

pub draw : {offline : ℕ → Type 0} (g : Geometry) (image : Image) (current : Superblock) → IsWithinLimits g
    → AtMost g.m (IsFailed offline g image current) → IsOrderly g image → (j : ℕ) × HasGreatestDraw offline g image current j
draw {offline} g image current limits few orderly =
    let found =
    common {n = g.n} {m = g.m} {P = Serves offline g image current} {Q = HasReserved g image}
    limits.devices.1 limits.majority (others g image current few) orderly.reserved in
    let serves = found.2 in
    let live = serves.live in (
      found.0,
      record { serves = serves; above = found.3 live.super live.counts (serves.places 0 (omega arith)) (serves.places 1 (omega arith)) },
    )

-- ---- the current superblock

-- it is at least as new as what counts in slot j
abbrev pub IsAtLeast : Geometry → Image → Superblock → ℕ → Type 0
IsAtLeast g image b j = (s : Superblock) → Counts g image j s → (s.array.epoch < b.array.epoch) ⊎ ((s.array.epoch ≡ b.array.epoch) × (b.slot ≤ j))

-- of what counts in slots below k the newest
pub record IsBest (g : Geometry) (image : Image) (k : ℕ) (b : Superblock) : Type 0 where
  pub counts : Counts g image b.slot b
  pub below : b.slot < k
  pub newest : (j : ℕ) → j < k → IsAtLeast g image b j

one_more : (g : Geometry) (image : Image) (k : ℕ) (b : Superblock) → ((j : ℕ) → j < k → IsAtLeast g image b j) → IsAtLeast g image b k
    → (j : ℕ) → j < suc k → IsAtLeast g image b j
one_more g image k b before here j lt =
    elim (cases_lt j k) [
      | inl earlier ↦ before j earlier
      | inr last ↦ subst (λ (i : ℕ). IsAtLeast g image b i) (omega arith) here
    ]

-- it is at least as new as itself
itself : (g : Geometry) (image : Image) (k : ℕ) (b : Superblock) → Counts g image k b → IsAtLeast g image b k
itself g image k b counts s other =
    let same : s ≡ b = one_super ((image k).cell) s b other.super counts.super in
    let slot : b.slot ≡ k = counts.slot in
    inr (ap (λ (t : Superblock). t.array.epoch) same, omega arith)

at_least_on : (g : Geometry) (image : Image) (j : ℕ) (a b : Superblock) → a.array.epoch < b.array.epoch → IsAtLeast g image a j
    → IsAtLeast g image b j
at_least_on g image j a b less old s counts =
    elim (old s counts) [
      | inl before ↦ inl (omega arith)
      | inr tie ↦ let e = tie.0 in inl (omega arith)
    ]

-- slot k counts as well, by a superblock of a greater epoch
pub best_newer : (g : Geometry) (image : Image) (k : ℕ) (b s : Superblock) → IsBest g image k b → Counts g image k s → b.array.epoch < s.array.epoch
    → IsBest g image (suc k) s
best_newer g image k b s best counts newer =
    let slot : s.slot ≡ k = counts.slot in
    record {
      counts = subst (λ (j : ℕ). Counts g image j s) (sym slot) counts;
      below = omega arith;
      newest = one_more g image k s (λ j lt. at_least_on g image j b s newer (best.newest j lt)) (itself g image k s counts);
    }

-- by one of no greater epoch
pub best_kept : (g : Geometry) (image : Image) (k : ℕ) (b s : Superblock) → IsBest g image k b → Counts g image k s → s.array.epoch ≤ b.array.epoch
    → IsBest g image (suc k) b
best_kept g image k b s best counts not_newer =
    let earlier : b.slot < k = best.below in
    record {
      counts = best.counts;
      below = omega arith;
      newest = one_more g image k b best.newest (beside g image k b s best counts not_newer);
    }
  where
    beside : (g : Geometry) (image : Image) (k : ℕ) (b s : Superblock) → IsBest g image k b → Counts g image k s → s.array.epoch ≤ b.array.epoch
        → IsAtLeast g image b k
    beside g image k b s best counts le t other =
        let same : t.array.epoch ≡ s.array.epoch = ap (λ (u : Superblock). u.array.epoch) (one_super ((image k).cell) t s other.super counts.super) in
        let earlier : b.slot < k = best.below in
        elim (cases_lt t.array.epoch b.array.epoch) [
          | inl less ↦ inl less
          | inr more ↦ inr (omega arith, omega arith)
        ]

best_with : (g : Geometry) (image : Image) (k : ℕ) (b s : Superblock) → IsBest g image k b → Counts g image k s
    → (c : Superblock) × IsBest g image (suc k) c
best_with g image k b s best counts =
    elim (cases_lt b.array.epoch s.array.epoch) [
      | inl newer ↦ (s, best_newer g image k b s best counts newer)
      | inr not_newer ↦ (b, best_kept g image k b s best counts not_newer)
    ]

-- slot k doesn't count
pub best_without : (g : Geometry) (image : Image) (k : ℕ) (b : Superblock) → IsBest g image k b → ¬ CountsFor g image k → IsBest g image (suc k) b
best_without g image k b best none =
    let earlier : b.slot < k = best.below in
    record {
      counts = best.counts;
      below = omega arith;
      newest = one_more g image k b best.newest (λ s counts. absurd (none (record { super = s; counts = counts })));
    }

-- slot k is the first that counts
pub best_first : (g : Geometry) (image : Image) (k : ℕ) (s : Superblock) → Counts g image k s → ((j : ℕ) → j < k → ¬ CountsFor g image j)
    → IsBest g image (suc k) s
best_first g image k s counts before =
    let slot : s.slot ≡ k = counts.slot in
    record {
      counts = subst (λ (j : ℕ). Counts g image j s) (sym slot) counts;
      below = omega arith;
      newest =
          one_more g image k s
          (λ j lt t other. absurd (before j lt (record { super = t; counts = other })))
          (itself g image k s counts);
    }

pub none_more : (g : Geometry) (image : Image) (k : ℕ) → ((j : ℕ) → j < k → ¬ CountsFor g image j) → ¬ CountsFor g image k → (j : ℕ) → j < suc k
    → ¬ CountsFor g image j
none_more g image k before none j lt =
    elim (cases_lt j k) [
      | inl earlier ↦ before j earlier
      | inr last ↦ subst (λ (i : ℕ). ¬ CountsFor g image i) (omega arith) none
    ]

-- of the slots below k none counts, or one of those that count is the newest
best_below : (g : Geometry) (image : Image) (k : ℕ) → ((b : Superblock) × IsBest g image k b) ⊎ ((j : ℕ) → j < k → ¬ CountsFor g image j)
best_below g image zero = inr (λ j lt. absurd (omega arith))
best_below g image (suc k) =
    elim (best_below g image k) [
      | inl best ↦
          elim (counts_decided g image k) [
            | inl counts ↦ inl (best_with g image k best.0 counts.super best.1 counts.counts)
            | inr none ↦ inl (best.0, best_without g image k best.0 best.1 none)
          ]
      | inr before ↦
          elim (counts_decided g image k) [
            | inl counts ↦ inl (counts.super, best_first g image k counts.super counts.counts before)
            | inr none ↦ inr (none_more g image k before none)
          ]
    ]

pub has_current : (g : Geometry) (image : Image) → Identifies g image → (current : Superblock) × IsCurrent g image current
has_current g image stands =
    let many : g.m < _ = stands.many in
    let some = slot_count_member stands.slots (omega arith) in
    let counts : CountsFor g image some.0 = stands.each some.0 some.2 in
    elim (best_below g image g.n) [
      | inl best ↦ (
        best.0,
        record {
          counts = best.1.counts;
          newest = λ j s of. best.1.newest j (slot_below g image j s of) s of;
        },
      )
      | inr none ↦ absurd (none some.0 (slot_below g image some.0 counts.super counts.counts) counts)
    ]
