-- A medium has one superblock at most, and of those that count one is current at most.
use Rattle.std.proofs.Common.{◌≡◌, ℕ, ◌<◌, ◌≤◌, inl, inr, sym, ap, subst, ◌∙◌, List, arith}
use Rattle.std.specs.Prelude.{◌⊎◌}
use Rattle.stair_model.specs.Geometry.{Geometry, IsWithinLimits}
use Rattle.stair_rack.specs.Media.{Image}
use Rattle.stair_rack.specs.Sector.{Cell}
use Rattle.stair_super.specs.Spelling.{SpellsSuperblock}
use Rattle.stair_super.specs.Superblock.{Superblock, IsSuperblock}
use Rattle.stair_super.proofs.Once.{same_superblock}
use Rattle.stair_member.specs.Superblocks.{HoldsSuper, HasSuper, IsSuperOf, First, Second, Counts, CountsFor}
use Rattle.stair_member.specs.Current.{IsCurrent}
use Rattle.stair_member.specs.Reserve.{Bears}

pub holds_once : (cell : Cell) (s t : Superblock) → HoldsSuper cell s → HoldsSuper cell t → s ≡ t
holds_once cell s t a b =
    let good_a = a.good in
    let good_b = b.good in
    let same : b.bytes ≡ a.bytes = cc in
    same_superblock a.bytes s t a.spells (subst (λ (bytes : List ℕ). SpellsSuperblock bytes t) same b.spells)

pub one_super : (cell : ℕ → Cell) (s t : Superblock) → IsSuperOf cell s → IsSuperOf cell t → s ≡ t
one_super cell s t (First a _) (First b _) = holds_once (cell 0) s t a b
one_super cell s t (First a not_older) (Second b older) = absurd (not_older t b (older s a))
one_super cell s t (Second a older) (First b not_older) = absurd (not_older s a (older t b))
one_super cell s t (Second a _) (Second b _) = holds_once (cell 1) s t a b

-- it lies in one of the two places
pub super_held : (cell : ℕ → Cell) (s : Superblock) → IsSuperOf cell s → HasSuper cell
super_held cell s (First a _) = record { place = 0; place_in = omega arith; super = s; holds = a }
super_held cell s (Second a _) = record { place = 1; place_in = omega arith; super = s; holds = a }

-- in which of the two it lies
pub super_at : {cell : ℕ → Cell} {s : Superblock} → IsSuperOf cell s → HoldsSuper (cell 0) s ⊎ HoldsSuper (cell 1) s
super_at (First holds rest) = inl holds
super_at (Second holds rest) = inr holds

-- media that hold the same superblocks have the same one
pub super_by_holds : (a b : ℕ → Cell) (s : Superblock) → ((k : ℕ) (t : Superblock) → k < 2 → HoldsSuper (a k) t → HoldsSuper (b k) t)
    → ((k : ℕ) (t : Superblock) → k < 2 → HoldsSuper (b k) t → HoldsSuper (a k) t) → IsSuperOf a s → IsSuperOf b s
super_by_holds a b s to from (First holds rest) =
    First (to 0 s (omega arith) holds) (λ other there. rest other (from 1 other (omega arith) there))
super_by_holds a b s to from (Second holds rest) =
    Second (to 1 s (omega arith) holds) (λ other there. rest other (from 0 other (omega arith) there))

-- the cells of the two places alone tell it
pub super_cells : (a b : ℕ → Cell) (s : Superblock) → a 0 ≡ b 0 → a 1 ≡ b 1 → IsSuperOf a s → IsSuperOf b s
super_cells a b s first second (First holds rest) =
    First (subst (λ (c : Cell). HoldsSuper c s) first holds) (λ other h. rest other (subst (λ (c : Cell). HoldsSuper c other) (sym second) h))
super_cells a b s first second (Second holds rest) =
    Second (subst (λ (c : Cell). HoldsSuper c s) second holds) (λ other h. rest other (subst (λ (c : Cell). HoldsSuper c other) (sym first) h))

pub super_formed : (cell : ℕ → Cell) (s : Superblock) → IsSuperOf cell s → IsSuperblock s
super_formed cell s (First a _) = a.spells.block
super_formed cell s (Second a _) = a.spells.block

pub one_identity : (g other : Geometry) (image : Image) (j : ℕ) → CountsFor g image j → CountsFor other image j → g ≡ other
one_identity g other image j a b =
    sym a.counts.identity
    ∙ ap (λ (s : Superblock). s.array.geometry) (one_super ((image j).cell) a.super b.super a.counts.super b.counts.super)
    ∙ b.counts.identity

-- what counts names a slot of the array
pub slot_below : (g : Geometry) (image : Image) (j : ℕ) (s : Superblock) → Counts g image j s → j < g.n
slot_below g image j s counts =
    let block = super_formed ((image j).cell) s counts.super in
    let slot_in : s.slot < s.array.geometry.n = block.rules.slot_in in
    let slot : s.slot ≡ j = counts.slot in
    let n : s.array.geometry.n ≡ g.n = ap (λ (h : Geometry). h.n) counts.identity in
    omega arith

pub counts_limits : (g : Geometry) (image : Image) (j : ℕ) (s : Superblock) → Counts g image j s → IsWithinLimits g
counts_limits g image j s counts =
    let block = super_formed ((image j).cell) s counts.super in
    subst (λ (h : Geometry). IsWithinLimits h) counts.identity block.rules.array.limits

pub counts_bears : (g : Geometry) (image : Image) (j : ℕ) (s : Superblock) → Counts g image j s → Bears g j ((image j).cell) s
counts_bears g image j s counts =
    elim counts.super [
      | First a _ ↦ record { place = 0; place_in = omega arith; holds = a; slot = counts.slot; identity = counts.identity }
      | Second a _ ↦ record { place = 1; place_in = omega arith; holds = a; slot = counts.slot; identity = counts.identity }
    ]

-- what a medium bears is hidden by nothing where it is the medium's superblock: that one counts
pub hidden_same : (g : Geometry) (image : Image) (j : ℕ) (s newest : Superblock) → Bears g j ((image j).cell) s → IsSuperOf ((image j).cell) newest
    → newest ≡ s → Counts g image j newest × (s.array.epoch ≤ newest.array.epoch)
hidden_same g image j s newest bears super same =
    let epoch : newest.array.epoch ≡ s.array.epoch = ap (λ (t : Superblock). t.array.epoch) same in (
      record {
        super = super;
        slot = ap (λ (t : Superblock). t.slot) same ∙ bears.slot;
        identity = ap (λ (t : Superblock). t.array.geometry) same ∙ bears.identity;
      },
      omega arith,
    )

same_slot : (a b i j : ℕ) → (a < b) ⊎ ((a ≡ b) × (j ≤ i)) → (b < a) ⊎ ((b ≡ a) × (i ≤ j)) → i ≡ j
same_slot a b i j (inl less) (inl more) = absurd (omega arith)
same_slot a b i j (inl less) (inr more) = absurd (let e = more.0 in omega arith)
same_slot a b i j (inr less) (inl more) = absurd (let e = less.0 in omega arith)
same_slot a b i j (inr less) (inr more) = let p = less.1 in let q = more.1 in omega arith

pub one_current : (g : Geometry) (image : Image) (a b : Superblock) → IsCurrent g image a → IsCurrent g image b → a ≡ b
one_current g image a b of_a of_b =
    let slots : a.slot ≡ b.slot = same_slot a.array.epoch b.array.epoch a.slot b.slot (of_b.newest a.slot a of_a.counts) (of_a.newest b.slot b of_b.counts) in
    let counts : Counts g image b.slot a = subst (λ (j : ℕ). Counts g image j a) slots of_a.counts in
    one_super ((image b.slot).cell) a b counts.super of_b.counts.super
