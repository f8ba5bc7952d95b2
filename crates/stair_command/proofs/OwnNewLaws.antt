-- A slot that stays whole keeps its own superblock over calls that name it, and is live then by what is current.
use Rattle.std.proofs.Common.{refl, ◌≡◌, ◌∙◌, ◌⊎◌, ◌<◌, ◌≤◌, ℕ, List, inl, inr, sym, ap, subst, arith}
use Rattle.std.proofs.lemmas.Bool.{cases_lt}
use Rattle.stair_model.specs.Geometry.{Geometry}
use Rattle.stair_rack.specs.Answers.{Ran}
use Rattle.stair_rack.specs.Crash.{image_now}
use Rattle.stair_rack.specs.History.{Happening}
use Rattle.stair_rack.specs.Sector.{Cell}
use Rattle.stair_rack.specs.Stretch.{NothingReturned}
use Rattle.stair_super.specs.Superblock.{Superblock, joined_at, joined_in, mark_in}
use Rattle.stair_super.specs.declared.configuration.Configuration.{Configuration}
use Rattle.stair_member.specs.Current.{ByOutside, IsCurrent, IsLive, IsLost}
use Rattle.stair_member.specs.Reserve.{Bears, IsOrderly}
use Rattle.stair_member.specs.Superblocks.{Counts, First, HasSuper, HoldsSuper, IsSuperOf, Second}
use Rattle.stair_member.proofs.DecisionLemmas.{super_decided}
use Rattle.stair_member.proofs.SuperLemmas.{counts_bears, holds_once, one_super, super_at, super_cells}
use Rattle.stair_state.specs.Represents.{AreSteady}
use Rattle.stair_state.proofs.AgreeLemmas.{AgreeBelow, agree_back, borne_upto, counts_agree, own_joined}
use Rattle.stair_state.proofs.StillLemmas.{steady_cells}
use Rattle.stair_command.specs.LeftOut.{IsLiveUnlessOlder, NamesLive}
use Rattle.stair_command.proofs.NamedLaws.{Harmed, HasNew, IsNaming, IsNew, PlaceComes, Stayed, Wrote, place_comes}

-- ---- the superblock of a medium

-- where it lies
record IsAt (cell : ℕ → Cell) (s : Superblock) : Type 0 where
  place : ℕ
  place_in : place < 2
  holds : HoldsSuper (cell place) s

is_at : (cell : ℕ → Cell) (s : Superblock) → IsSuperOf cell s → IsAt cell s
is_at cell s is =
    elim (super_at is) [
      | inl holds ↦ record { place = 0; place_in = omega arith; holds = holds }
      | inr holds ↦ record { place = 1; place_in = omega arith; holds = holds }
    ]

-- none that the medium holds has a greater draw
greatest : (cell : ℕ → Cell) (s : Superblock) → IsSuperOf cell s → (k : ℕ) (t : Superblock) → k < 2 → HoldsSuper (cell k) t → t.draw ≤ s.draw
greatest cell s is k t place holds =
    elim (cases_lt k 1) [
      | inl first ↦ in_first is (subst (λ (i : ℕ). HoldsSuper (cell i) t) (omega (arith, first)) holds)
      | inr second ↦ in_second is (subst (λ (i : ℕ). HoldsSuper (cell i) t) (omega (arith, second, place)) holds)
    ]
  where
    same_draw : (k : ℕ) → HoldsSuper (cell k) s → HoldsSuper (cell k) t → t.draw ≤ s.draw
    same_draw k own other =
        let same : t.draw ≡ s.draw = ap (λ (u : Superblock). u.draw) (holds_once (cell k) t s other own) in omega (arith, same)

    in_first : IsSuperOf cell s → HoldsSuper (cell 0) t → t.draw ≤ s.draw
    in_first (First own rest) other = same_draw 0 own other
    in_first (Second own older) other =
        elim (older t other) [ inl less ↦ omega (arith, less) | inr tie ↦ let same : t.draw ≡ s.draw = tie.0 in omega (arith, same) ]

    in_second : IsSuperOf cell s → HoldsSuper (cell 1) t → t.draw ≤ s.draw
    in_second (First own rest) other =
        elim (cases_lt s.draw t.draw) [ inl less ↦ absurd (rest t other (inl less)) | inr least ↦ omega (arith, least) ]
    in_second (Second own older) other = same_draw 1 own other

-- ---- over calls that name slot j

module _ (g : Geometry) (j joined drawn : ℕ) (old new : List Happening) (ran : Ran (IsNaming g j joined drawn) old new)
    (none : NothingReturned old new) where
  comes : (i k : ℕ) → k < 2 → PlaceComes g j joined drawn i ((image_now old i).cell k) ((image_now new i).cell k)
  comes i k place = place_comes g j joined drawn i k place ran none

  -- the slot's own superblock, of this draw at first
  module _ (own : Superblock) (own_counts : Counts g (image_now old) j own) (joined_is : own.joined ≡ joined) (drawn_is : own.draw ≡ drawn)
      (whole : (k : ℕ) → k < 2 → ¬ IsLost ((image_now new j).cell k)) where
    abbrev was : ℕ → Cell
    was = (image_now old j).cell

    abbrev is : ℕ → Cell
    is = (image_now new j).cell

    -- a place holds what it held, or a new one
    holds : (k : ℕ) → k < 2 → (is k ≡ was k) ⊎ HasNew g j joined drawn j (is k)
    holds k place =
        elim (comes j k place) [
          | Stayed same ↦ inl same
          | Harmed harmed ↦ absurd (whole k place (ByOutside harmed))
          | Wrote has ↦ inr has
        ]

    first_at : IsAt was own
    first_at = is_at was own own_counts.super

    pub record IsOwn : Type 0 where
      pub super : Superblock
      pub counts : Counts g (image_now new) j super
      pub joined_so : super.joined ≡ joined

    has_one : HasSuper is
    has_one =
        elim (holds first_at.place first_at.place_in) [
          | inl same ↦ record {
            place = first_at.place;
            place_in = first_at.place_in;
            super = own;
            holds = subst (λ (cell : Cell). HoldsSuper cell own) (sym same) first_at.holds;
          }
          | inr has ↦ record { place = first_at.place; place_in = first_at.place_in; super = has.super; holds = has.holds }
        ]

    by_new : (newest : Superblock) → IsSuperOf is newest → IsNew g j joined drawn j newest → IsOwn
    by_new newest newest_is new_one =
        let counts_so : Counts g (image_now new) j newest =
        record { super = newest_is; slot = new_one.slot; identity = new_one.identity } in
        record {
          super = newest;
          counts = counts_so;
          joined_so = own_joined g (image_now new) j newest counts_so ∙ new_one.names.joined_is;
        }

    -- where both places are as they were
    by_both : (newest : Superblock) → IsSuperOf is newest → is 0 ≡ was 0 → is 1 ≡ was 1 → IsOwn
    by_both newest newest_is first second =
        let same : own ≡ newest = one_super was own newest own_counts.super (super_cells is was newest first second newest_is) in
        record {
          super = newest;
          counts = record {
            super = newest_is;
            slot = ap (λ (s : Superblock). s.slot) (sym same) ∙ own_counts.slot;
            identity = ap (λ (s : Superblock). s.array.geometry) (sym same) ∙ own_counts.identity;
          };
          joined_so = ap (λ (s : Superblock). s.joined) (sym same) ∙ joined_is;
        }

    -- one that the slot held at first is no newer than its own was, so that nothing new is there
    no_new : (newest : Superblock) → IsSuperOf is newest → (q : ℕ) → q < 2 → HoldsSuper (was q) newest → (k : ℕ) → k < 2
        → HasNew g j joined drawn j (is k) → ⊥
    no_new newest newest_is q q_in held k k_in has =
        let low = greatest was own own_counts.super q newest q_in held in
        let high = greatest is newest newest_is k has.super k_in has.holds in
        omega (arith, low, high, has.is_new.above, drawn_is)

    by_held : (newest : Superblock) → IsSuperOf is newest → (q : ℕ) → q < 2 → HoldsSuper (was q) newest → IsOwn
    by_held newest newest_is q q_in held =
        elim (holds 0 (omega arith)) [
          | inr has ↦ absurd (no_new newest newest_is q q_in held 0 (omega arith) has)
          | inl first ↦
              elim (holds 1 (omega arith)) [
                | inr has ↦ absurd (no_new newest newest_is q q_in held 1 (omega arith) has)
                | inl second ↦ by_both newest newest_is first second
              ]
        ]

    pub own_then : IsOwn
    own_then =
        elim (super_decided is) [
          | inr not ↦ absurd (not has_one)
          | inl some ↦ found some.0 some.1
        ]
      where
        found : (newest : Superblock) → IsSuperOf is newest → IsOwn
        found newest newest_is =
            let at = is_at is newest newest_is in
            elim (holds at.place at.place_in) [
              | inl same ↦ by_held newest newest_is at.place at.place_in (subst (λ (cell : Cell). HoldsSuper cell newest) same at.holds)
              | inr has ↦ by_new newest newest_is (subst (IsNew g j joined drawn j) (holds_once (is at.place) has.super newest has.holds at.holds) has.is_new)
            ]

    -- ---- so it is live by what is current

    module _ (current : Superblock) (is_current : IsCurrent g (image_now old) current) (live : IsLive g (image_now old) current j)
        (joined_current : joined_at current j ≡ joined) (orderly : IsOrderly g (image_now old)) (steady : AreSteady g new) where
      -- what was there at first, of no earlier epoch, is of this one
      named_old : (i : ℕ) (newest : Superblock) → Bears g i ((image_now old i).cell) newest
          → (newest.array.epoch < current.array.epoch) ⊎ NamesLive j joined newest
      named_old i newest bears =
          elim (cases_lt newest.array.epoch current.array.epoch) [
            | inl less ↦ inl less
            | inr least ↦
                let upto : newest.array.epoch ≤ current.array.epoch = borne_upto g (image_now old) current i newest orderly is_current bears in
                let same : newest.array ≡ current.array =
                orderly.one_list i current.slot newest current bears (counts_bears g (image_now old) current.slot current is_current.counts)
                (omega (arith, least, upto)) in
                inr (record {
                  marked = ap (λ (c : Configuration). mark_in c j) same ∙ live.marked;
                  joined_is = ap (λ (c : Configuration). joined_in c j) same ∙ joined_current;
                })
          ]

      named : (newest : Superblock) → Counts g (image_now new) newest.slot newest → (newest.array.epoch < current.array.epoch) ⊎ NamesLive j joined newest
      named newest has =
          by at (comes newest.slot at.place at.place_in)
        where
          at : IsAt ((image_now new newest.slot).cell) newest
          at = is_at ((image_now new newest.slot).cell) newest has.super

          by : (at : IsAt ((image_now new newest.slot).cell) newest)
              → PlaceComes g j joined drawn newest.slot ((image_now old newest.slot).cell at.place) ((image_now new newest.slot).cell at.place)
              → (newest.array.epoch < current.array.epoch) ⊎ NamesLive j joined newest
          by at (Stayed same) =
              named_old newest.slot newest (record {
                place = at.place;
                place_in = at.place_in;
                holds = subst (λ (cell : Cell). HoldsSuper cell newest) same at.holds;
                slot = refl;
                identity = has.identity;
              })
          by at (Harmed harmed) = absurd (let good = at.holds.good in cc)
          by at (Wrote one) =
              inr (subst (NamesLive j joined) (holds_once ((image_now new newest.slot).cell at.place) one.super newest one.holds at.holds) one.is_new.names)

      pub live_unless : IsLiveUnlessOlder g current.array.epoch j new
      live_unless image left newest newest_is =
          elim (named newest (counts_agree g g.n (omega arith) image (image_now new) newest.slot newest agree newest_is.counts)) [
            | inl less ↦ inl less
            | inr so ↦ inr (record {
              below = live.below;
              marked = so.marked;
              super = own_then.super;
              counts = counts_agree g g.n (omega arith) (image_now new) image j own_then.super (agree_back g.n image (image_now new) agree) own_then.counts;
              joined = own_then.joined_so ∙ sym so.joined_is;
            })
          ]
        where
          agree : AgreeBelow g.n image (image_now new)
          agree i k i_in k_in = steady_cells g new image steady left i k i_in k_in
