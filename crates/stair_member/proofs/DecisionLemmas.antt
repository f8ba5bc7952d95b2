-- What superblocks say of a medium and of a slot is decided.
use Rattle.std.proofs.Common.{◌≡◌, ℕ, ◌<◌, false, inl, inr, refl, sym, ap, subst, ◌∙◌, List, arith, true≢false}
use Rattle.std.specs.Prelude.{◌⊎◌}
use Rattle.std.proofs.lemmas.Bool.{cases_eq, cases_lt}
use Rattle.stair_model.specs.Geometry.{Geometry}
use Rattle.stair_model.proofs.FirstLaws.{IsKnown, known_both}
use Rattle.stair_rack.specs.Answers.{is_good}
use Rattle.stair_rack.specs.Media.{Image}
use Rattle.stair_rack.specs.Sector.{Cell, Good, Damaged, Torn, TornOverDamage}
use Rattle.stair_super.specs.Newer.{IsOlder}
use Rattle.stair_super.specs.Spelling.{SpellsSuperblock}
use Rattle.stair_super.specs.Superblock.{Superblock, mark_at, joined_at}
use Rattle.stair_super.specs.declared.mark.Mark.{Mark}
use Rattle.stair_super.specs.declared.mark.Mark.TheVariants.{Live, Rebuilding, Down}
use Rattle.stair_super.proofs.Decided.{known_if, known_text, known_lt, superblock_or_none}
use Rattle.stair_member.specs.Superblocks.{HoldsSuper, HasSuper, IsSuperOf, First, Second, CountsFor}
use Rattle.stair_member.specs.Current.{HasMark, IsLost, ByOutside, Worn}
use Rattle.stair_member.proofs.SuperLemmas.{holds_once, one_super, super_held}

pub lost_decided : (cell : Cell) → IsLost cell ⊎ (¬ IsLost cell)
lost_decided (Good bytes) = inr (λ lost. elim lost [ ByOutside e ↦ cc | Worn e ↦ cc ])
lost_decided Damaged = inl (ByOutside refl)
lost_decided Torn = inr (λ lost. elim lost [ ByOutside e ↦ cc | Worn e ↦ cc ])
lost_decided TornOverDamage = inl (Worn refl)

-- the bytes of a good cell that holds a superblock are its bytes
pub spelled_here : (bytes : List ℕ) (s : Superblock) → HoldsSuper (Good bytes) s → SpellsSuperblock bytes s
spelled_here bytes s holds = let same : holds.bytes ≡ bytes = cc in subst (λ (b : List ℕ). SpellsSuperblock b s) same holds.spells

-- a cell that can't be read holds none
pub no_super : (cell : Cell) (s : Superblock) → is_good cell ≡ false → ¬ HoldsSuper cell s
no_super cell s bad holds = true≢false (sym (ap is_good holds.good) ∙ bad)

pub holds_decided : (cell : Cell) → ((s : Superblock) × HoldsSuper cell s) ⊎ ((s : Superblock) → ¬ HoldsSuper cell s)
holds_decided (Good bytes) =
    elim (superblock_or_none bytes) [
      | inl some ↦ inl (some.0, record { bytes = bytes; good = refl; spells = some.1 })
      | inr none ↦ inr (λ s holds. none s (spelled_here bytes s holds))
    ]
holds_decided Damaged = inr (λ s holds. let e = holds.good in cc)
holds_decided Torn = inr (λ s holds. let e = holds.good in cc)
holds_decided TornOverDamage = inr (λ s holds. let e = holds.good in cc)

known_older : (a b : Superblock) → IsKnown (IsOlder a b)
known_older a b =
    elim (known_lt a.draw b.draw) [
      | inl less ↦ inl (inl less)
      | inr not_less ↦
          known_if {P = (a.draw ≡ b.draw) × (a.array.epoch < b.array.epoch)} (λ both. inr both)
          (λ older. elim older [ inl less ↦ absurd (not_less less) | inr both ↦ both ])
          (known_both (cases_eq a.draw b.draw) (known_lt a.array.epoch b.array.epoch))
    ]

-- of two that are held, the medium has one
either_is : (cell : ℕ → Cell) (s t : Superblock) → HoldsSuper (cell 0) s → HoldsSuper (cell 1) t → (u : Superblock) × IsSuperOf cell u
either_is cell s t first second =
    elim (known_older s t) [
      | inl older ↦ (t, Second second (λ other holds. subst (λ (u : Superblock). IsOlder u t) (holds_once (cell 0) s other first holds) older))
      | inr not_older ↦ (s, First first (λ other holds older. not_older (subst (λ (u : Superblock). IsOlder s u) (holds_once (cell 1) other t holds second) older)))
    ]

pub none_held : (cell : ℕ → Cell) → ((s : Superblock) → ¬ HoldsSuper (cell 0) s) → ((s : Superblock) → ¬ HoldsSuper (cell 1) s) → ¬ HasSuper cell
none_held cell first second has =
    elim (cases_lt has.place 1) [
      | inl below ↦ first has.super (subst (λ (k : ℕ). HoldsSuper (cell k) has.super) (omega arith) has.holds)
      | inr above ↦ second has.super (subst (λ (k : ℕ). HoldsSuper (cell k) has.super) (omega (arith, has.place_in)) has.holds)
    ]

pub super_decided : (cell : ℕ → Cell) → ((s : Superblock) × IsSuperOf cell s) ⊎ (¬ HasSuper cell)
super_decided cell =
    elim (holds_decided (cell 0)) [
      | inl first ↦
          elim (holds_decided (cell 1)) [
            | inl second ↦ inl (either_is cell first.0 second.0 first.1 second.1)
            | inr no_second ↦ inl (first.0, First first.1 (λ other holds older. no_second other holds))
          ]
      | inr no_first ↦
          elim (holds_decided (cell 1)) [
            | inl second ↦ inl (second.0, Second second.1 (λ other holds. absurd (no_first other holds)))
            | inr no_second ↦ inr (none_held cell no_first no_second)
          ]
    ]

-- two geometries are the same or not
known_geometry : (a b : Geometry) → IsKnown (a ≡ b)
known_geometry a b =
    known_if {P = ((a.n ≡ b.n) × (a.m ≡ b.m)) × (((a.r ≡ b.r) × (a.e ≡ b.e)) × ((a.stripes ≡ b.stripes) × (a.id ≡ b.id)))}
    (λ p i. record { n = p.0.0 i; m = p.0.1 i; r = p.1.0.0 i; e = p.1.0.1 i; stripes = p.1.1.0 i; id = p.1.1.1 i })
    (λ same. (
      (ap (λ (g : Geometry). g.n) same, ap (λ (g : Geometry). g.m) same),
      (
        (ap (λ (g : Geometry). g.r) same, ap (λ (g : Geometry). g.e) same),
        (ap (λ (g : Geometry). g.stripes) same, ap (λ (g : Geometry). g.id) same),
      ),
    ))
    (known_both
    (known_both (cases_eq a.n b.n) (cases_eq a.m b.m))
    (known_both (known_both (cases_eq a.r b.r) (known_text a.e b.e)) (known_both (cases_eq a.stripes b.stripes) (known_text a.id b.id))))

counts_from : (g : Geometry) (image : Image) (j : ℕ) (s : Superblock) → IsSuperOf ((image j).cell) s → (s.slot ≡ j) × (s.array.geometry ≡ g) → CountsFor g image j
counts_from g image j s super both = record { super = s; counts = record { super = super; slot = both.0; identity = both.1 } }

pub counts_decided : (g : Geometry) (image : Image) (j : ℕ) → CountsFor g image j ⊎ (¬ CountsFor g image j)
counts_decided g image j =
    elim (super_decided ((image j).cell)) [
      | inl some ↦
          known_if {P = (some.0.slot ≡ j) × (some.0.array.geometry ≡ g)}
          (counts_from g image j some.0 some.1)
          (λ counts.
          let same : counts.super ≡ some.0 = one_super ((image j).cell) counts.super some.0 counts.counts.super some.1 in
          (sym (ap (λ (s : Superblock). s.slot) same) ∙ counts.counts.slot, sym (ap (λ (s : Superblock). s.array.geometry) same) ∙ counts.counts.identity))
          (known_both (cases_eq some.0.slot j) (known_geometry some.0.array.geometry g))
      | inr none ↦ inr (λ counts. none (super_held ((image j).cell) counts.super counts.counts.super))
    ]

known_mark : (a b : Mark) → IsKnown (a ≡ b)
known_mark Live Live = inl refl
known_mark Live Rebuilding = inr (λ e. cc)
known_mark Live Down = inr (λ e. cc)
known_mark Rebuilding Live = inr (λ e. cc)
known_mark Rebuilding Rebuilding = inl refl
known_mark Rebuilding Down = inr (λ e. cc)
known_mark Down Live = inr (λ e. cc)
known_mark Down Rebuilding = inr (λ e. cc)
known_mark Down Down = inl refl

pub has_mark_decided : (g : Geometry) (image : Image) (current : Superblock) (mark : Mark) (j : ℕ)
    → HasMark g image current mark j ⊎ (¬ HasMark g image current mark j)
has_mark_decided g image current mark j =
    elim (counts_decided g image j) [
      | inl counts ↦
          known_if {P = ((j < g.n) × (mark_at current j ≡ mark)) × (counts.super.joined ≡ joined_at current j)}
          (λ p. record { below = p.0.0; marked = p.0.1; super = counts.super; counts = counts.counts; joined = p.1 })
          (λ has.
          let same : has.super ≡ counts.super = one_super ((image j).cell) has.super counts.super has.counts.super counts.counts.super in
          ((has.below, has.marked), sym (ap (λ (s : Superblock). s.joined) same) ∙ has.joined))
          (known_both (known_both (known_lt j g.n) (known_mark (mark_at current j) mark)) (cases_eq counts.super.joined (joined_at current j)))
      | inr none ↦ inr (λ has. none (record { super = has.super; counts = has.counts }))
    ]
