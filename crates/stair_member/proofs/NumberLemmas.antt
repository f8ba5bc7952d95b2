-- The joined numbers in the epochs that a call names.
use Rattle.std.proofs.Common.{◌≡◌, ◌≢◌, ℕ, ◌<◌, ◌≤◌, List, length, ◌⊎◌, inl, inr, refl, sym, ap, subst, arith, Some}
use Rattle.std.specs.Prelude.{Contains}
use Rattle.std.proofs.lemmas.Bool.{cases_eq, cases_lt}
use Rattle.std.proofs.lemmas.List.{get_or_past}
use Rattle.stair_model.specs.Geometry.{Geometry}
use Rattle.stair_model.specs.Slots.{Slots, HasSlot}
use Rattle.stair_rack.specs.History.{Happening}
use Rattle.stair_super.specs.Superblock.{Superblock, IsConfiguration, IsJoined, IsSuperblock, joined_in, mark_in}
use Rattle.stair_super.specs.declared.configuration.Configuration.{Configuration}
use Rattle.stair_super.specs.declared.mark.Mark.{Mark}
use Rattle.stair_super.specs.declared.mark.Mark.TheVariants.{Live, Rebuilding, Down}
use Rattle.stair_member.specs.Aims.{IsAimed, admitted}
use Rattle.stair_member.specs.Editions.{Edition}
use Rattle.stair_member.specs.Epochs.{Issued}
use Rattle.stair_member.specs.Membership.{Membership, IsMembership}
use Rattle.stair_member.specs.declared.aim.EpochChange.{EpochChange}
use Rattle.stair_member.specs.declared.aim.EpochChange.TheVariants as aims

-- ---- what an epoch may name

pub record IsNamed (array : Configuration) : Type 0 where
  pub rules : IsConfiguration array
  pub marks : length array.marks ≡ 32

pub block_named : (s : Superblock) → IsSuperblock s → IsNamed s.array
block_named s formed = record { rules = formed.rules.array; marks = formed.sizes.marks }

-- a slot that isn't Down is one of the array
up_below : (array : Configuration) (j : ℕ) → IsNamed array → mark_in array j ≢ Down → (j < array.geometry.n) × (j < 32)
up_below array j is up =
    let size : length array.marks ≡ 32 = is.marks in
    elim (cases_lt j 32) [
      | inl within ↦
          elim (cases_lt j array.geometry.n) [
            | inl below ↦ (below, within)
            | inr past ↦ absurd (up (is.rules.absent j past within))
          ]
      | inr past ↦ absurd (up (get_or_past array.marks j Down (omega arith)))
    ]

by_mark : (mark : Mark) (joined epoch : ℕ) → IsJoined mark joined epoch → mark ≢ Down → (1 ≤ joined) × (joined ≤ epoch)
by_mark Live joined epoch is up = is
by_mark Rebuilding joined epoch is up = is
by_mark Down joined epoch is up = absurd (up refl)

-- its joined number is no later than the epoch
up_joined : (array : Configuration) (j : ℕ) → IsNamed array → mark_in array j ≢ Down → (1 ≤ joined_in array j) × (joined_in array j ≤ array.epoch)
up_joined array j is up = by_mark (mark_in array j) (joined_in array j) array.epoch (is.rules.entries j (up_below array j is up).1) up

pub joined_most : (array : Configuration) (j : ℕ) → IsNamed array → mark_in array j ≢ Down → joined_in array j ≤ array.epoch
joined_most array j is up = (up_joined array j is up).1

-- a slot that is Down has none
down_joined : (array : Configuration) (j : ℕ) → IsNamed array → j < 32 → mark_in array j ≡ Down → joined_in array j ≡ 0
down_joined array j is within down =
    subst (λ (mark : Mark). IsJoined mark (joined_in array j) array.epoch) down (is.rules.entries j within)

-- ---- the slot that is admitted

admitted_or : (aim : EpochChange) (j : ℕ) → (admitted aim ≡ Some j) ⊎ (admitted aim ≢ Some j)
admitted_or aims.Fence j = inr (λ is. cc)
admitted_or (aims.Admit slot) j =
    elim (cases_eq j slot) [
      | inl same ↦ inl (ap (λ (k : ℕ). Some k) (sym same))
      | inr other ↦ inr (λ is. let same : slot ≡ j = cc in other (sym same))
    ]
admitted_or (aims.Promote slot) j = inr (λ is. cc)
admitted_or (aims.Stamp frozen label) j = inr (λ is. cc)

-- ---- the epochs of a call

module _ (aim : EpochChange) (gone : Slots) (m last : Membership) (old new : List Happening) (is : IsMembership m)
    (issued : Issued aim gone m last old new) where
  first_is : IsNamed m.array
  first_is = record { rules = is.array; marks = is.sizes.marks }

  -- a slot that isn't Down in a new epoch is admitted in it, or has the number that it had at first
  data HasNumber (array : Configuration) (j : ℕ) : Type 0 where
    Joins : joined_in array j ≡ array.epoch → admitted aim ≡ Some j → HasNumber array j
    Keeps : joined_in array j ≡ joined_in m.array j → mark_in m.array j ≢ Down → admitted aim ≢ Some j → HasNumber array j

  number_in : (array : Configuration) (j : ℕ) → IsNamed array → IsAimed aim (HasSlot gone) m array → mark_in array j ≢ Down → HasNumber array j
  number_in array j named aimed_at up =
      let both = up_below array j named up in
      let below : j < m.array.geometry.n = subst (λ (g : Geometry). j < g.n) aimed_at.geometry both.0 in
      elim (admitted_or aim j) [
        | inl joins ↦ Joins (aimed_at.joins j joins up) joins
        | inr other ↦
            let same : joined_in array j ≡ joined_in m.array j = aimed_at.joined j below up other in
            let least : 1 ≤ joined_in array j = (up_joined array j named up).0 in
            Keeps same (λ down. let none : joined_in m.array j ≡ 0 = down_joined m.array j first_is both.1 down in omega arith) other
      ]

  -- a slot that isn't Down wasn't at first, with no greater joined number, or joined in a new epoch
  abbrev pub IsFrom : Configuration → ℕ → Type 0
  IsFrom array j = ((mark_in m.array j ≢ Down) × (joined_in m.array j ≤ joined_in array j)) ⊎ (m.drawn < joined_in array j)

  from_number : (array : Configuration) (j : ℕ) → m.drawn < array.epoch → HasNumber array j → IsFrom array j
  from_number array j above (Joins number joins) = inr (omega arith)
  from_number array j above (Keeps same up other) = inl (up, omega arith)

  pub number_from : (e : Edition) → Contains issued.editions e → IsNamed e.array → (j : ℕ) → mark_in e.array j ≢ Down → IsFrom e.array j
  number_from e among named j up =
      elim (issued.each e among).epoch [
        | inl same ↦
            let number : joined_in e.array j ≡ joined_in m.array j = ap (λ (c : Configuration). joined_in c j) same in
            inl (subst (λ (c : Configuration). mark_in c j ≢ Down) same up, omega arith)
        | inr later ↦ from_number e.array j later.0 (number_in e.array j named later.1 up)
      ]

  -- of two new epochs
  rises : (a b : Configuration) (j : ℕ) → a.epoch ≤ b.epoch → HasNumber a j → HasNumber b j → joined_in a j ≤ joined_in b j
  rises a b j le (Joins number joins) (Joins number' joins') = omega arith
  rises a b j le (Joins number joins) (Keeps same' up' other') = absurd (other' joins)
  rises a b j le (Keeps same up other) (Joins number' joins') = absurd (other joins')
  rises a b j le (Keeps same up other) (Keeps same' up' other') = omega arith

  -- from an epoch to a later one the joined number of a slot that isn't Down never falls
  pub number_rises : (a b : Edition) → Contains issued.editions a → Contains issued.editions b → IsNamed a.array → IsNamed b.array
      → a.array.epoch ≤ b.array.epoch → (j : ℕ) → mark_in a.array j ≢ Down → mark_in b.array j ≢ Down
      → joined_in a.array j ≤ joined_in b.array j
  number_rises a b of_a of_b named named' le j up up' =
      let known : m.array.epoch ≤ m.drawn = is.known in
      elim (issued.each a of_a).epoch [
        | inl same ↦
            let number : joined_in a.array j ≡ joined_in m.array j = ap (λ (c : Configuration). joined_in c j) same in
            let most : joined_in a.array j ≤ a.array.epoch = joined_most a.array j named up in
            let epoch : a.array.epoch ≡ m.array.epoch = ap (λ (c : Configuration). c.epoch) same in
            elim (number_from b of_b named' j up') [
              | inl before ↦ let least : joined_in m.array j ≤ joined_in b.array j = before.1 in omega arith
              | inr above ↦ omega arith
            ]
        | inr later ↦
            let above : m.drawn < a.array.epoch = later.0 in
            elim (issued.each b of_b).epoch [
              | inl same ↦
                  let epoch : b.array.epoch ≡ m.array.epoch = ap (λ (c : Configuration). c.epoch) same in absurd (omega arith)
              | inr later' ↦ rises a.array b.array j le (number_in a.array j named later.1 up) (number_in b.array j named' later'.1 up')
            ]
      ]
