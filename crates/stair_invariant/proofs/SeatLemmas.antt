-- What an epoch does to the seats of an array's slots.
use Rattle.std.proofs.Common.{◌≡◌, ◌≢◌, ℕ, ◌<◌, ◌≤◌, List, length, ◌⊎◌, inl, inr, refl, sym, ap, ◌∙◌, subst, arith, Some}
use Rattle.std.specs.Prelude.{IsTrue}
use Rattle.std.proofs.lemmas.Bool.{cases_eq, cases_lt, cond-false, cond-true, eq-eqb, ne_eqb}
use Rattle.std.proofs.lemmas.List.{get_or_past}
use Rattle.stair_model.specs.Slots.{Slots, HasSlot}
use Rattle.stair_rack.specs.Crash.{CrashMayLeave}
use Rattle.stair_rack.specs.History.{Happening, stopped}
use Rattle.stair_rack.specs.Media.{Image}
use Rattle.stair_super.specs.Superblock.{IsConfiguration, IsJoined, IsSuperblock, Superblock, joined_in, mark_in}
use Rattle.stair_super.specs.declared.configuration.Configuration.{Configuration}
use Rattle.stair_super.specs.declared.mark.Mark.{Mark}
use Rattle.stair_super.specs.declared.mark.Mark.TheVariants.{Down, Live}
use Rattle.stair_super.specs.declared.mark.Mark.TheVariants as mark
use Rattle.stair_member.specs.Aims.{IsAimed, admitted, aimed, mark_for}
use Rattle.stair_member.specs.Current.{IsCurrent}
use Rattle.stair_member.specs.Establishing.{Did, HasBegun, NotYet}
use Rattle.stair_member.specs.Fencing.{HasStood, IsFencing}
use Rattle.stair_member.specs.Membership.{IsMembership, Membership, why_of}
use Rattle.stair_member.specs.Seats.{Seat}
use Rattle.stair_member.specs.declared.aim.EpochChange.{EpochChange}
use Rattle.stair_member.specs.declared.aim.EpochChange.TheVariants.{Admit, Fence, Promote, Stamp}
use Rattle.stair_member.proofs.SuperLemmas.{super_formed}
use Rattle.stair_state.specs.Blocks.{Codewords}
use Rattle.stair_state.specs.Tolerance.{IsToleratedAlone}
use Rattle.stair_invariant.specs.InSession.{IsReadyFor}
use Rattle.stair_invariant.specs.SeatSteps.{DropsOnly, EachMayDrop, MayDrop, SeatsMove}
use Rattle.stair_invariant.specs.Session.{IsRebuiltIn, seats_in}
use Rattle.stair_invariant.proofs.SessionLemmas.{names_meanwhile}

-- a configuration by its rules, with entries for 32 slots
pub record IsListed (c : Configuration) : Type 0 where
  pub rules : IsConfiguration c
  pub marks : length c.marks ≡ 32
  pub joins : length c.joins ≡ 32

pub listed_member : (m : Membership) → IsMembership m → IsListed m.array
listed_member m rules = record { rules = rules.array; marks = rules.sizes.marks; joins = rules.sizes.joins }

pub listed_super : (s : Superblock) → IsSuperblock s → IsListed s.array
listed_super s is = record { rules = is.rules.array; marks = is.sizes.marks; joins = is.sizes.joins }

pub down_or_not : (marked : Mark) → (marked ≡ Down) ⊎ (marked ≢ Down)
down_or_not Down = inl refl
down_or_not Live = inr (λ is. cc)
down_or_not mark.Rebuilding = inr (λ is. cc)

abbrev pub seat : Mark → ℕ → Seat
seat marked joined = record { mark = marked; joined = joined }

pub same_seat : (a b : Mark) (p q : ℕ) → a ≡ b → p ≡ q → seat a p ≡ seat b q
same_seat a b p q marks joins = ap (λ (x : Mark). seat x p) marks ∙ ap (seat b) joins

-- a slot that is Down has no joined number
down_joined : (c : Configuration) (j : ℕ) → IsListed c → mark_in c j ≡ Down → joined_in c j ≡ 0
down_joined c j listed is =
    elim (cases_lt j 32) [
      | inl below ↦ subst (λ (x : Mark). IsJoined x (joined_in c j) c.epoch) is (listed.rules.entries j below)
      | inr past ↦ get_or_past c.joins j 0 (omega (arith, listed.joins, past))
    ]

pub down_seat : (c : Configuration) (j : ℕ) → IsListed c → mark_in c j ≡ Down → seats_in c j ≡ seat Down 0
down_seat c j listed is = same_seat (mark_in c j) Down (joined_in c j) 0 is (down_joined c j listed is)

-- past the array's slots each is Down
pub past_down : (c : Configuration) (j : ℕ) → IsListed c → c.geometry.n ≤ j → mark_in c j ≡ Down
past_down c j listed past =
    elim (cases_lt j 32) [
      | inl below ↦ listed.rules.absent j past below
      | inr beyond ↦ get_or_past c.marks j Down (omega (arith, listed.marks, beyond))
    ]

module _ (aim : EpochChange) (gone : ℕ → Type 0) (m : Membership) (named : Configuration) (member : IsMembership m) (of_new : IsListed named)
    (marks : (j : ℕ) → j < m.array.geometry.n → mark_in m.array j ≡ mark_for (why_of m j)) (is : IsAimed aim gone m named) where
  of_old : IsListed m.array
  of_old = listed_member m member

  dropped : (j : ℕ) → mark_in named j ≡ Down → MayDrop (seats_in m.array j) (seats_in named j)
  dropped j down =
      elim (down_or_not (mark_in m.array j)) [
        | inl was ↦ inl (down_seat named j of_new down ∙ sym (down_seat m.array j of_old was))
        | inr was ↦ inr (was, down_seat named j of_new down)
      ]

  past_old : (j : ℕ) → m.array.geometry.n ≤ j → mark_in m.array j ≡ Down
  past_old j past = past_down m.array j of_old past

  past_new : (j : ℕ) → m.array.geometry.n ≤ j → mark_in named j ≡ Down
  past_new j past = past_down named j of_new (subst (λ (n : ℕ). n ≤ j) (sym (ap (λ g. g.n) is.geometry)) past)

  -- a slot at which the epoch isn't aimed keeps its mark, or was gone and is Down
  apart : (j : ℕ) → aimed aim j (why_of m j) ≡ why_of m j
      → (mark_in named j ≡ mark_in m.array j) ⊎ (gone j × (mark_in named j ≡ Down))
  apart j as_it_was =
      elim (cases_lt j m.array.geometry.n) [
        | inr past ↦ inl (past_new j past ∙ sym (past_old j past))
        | inl below ↦
            elim (is.marks j below) [
              | inl so ↦ inl (so ∙ ap mark_for as_it_was ∙ sym (marks j below))
              | inr out ↦ inr out
            ]
      ]

  pub apart_drops : (j : ℕ) → aimed aim j (why_of m j) ≡ why_of m j → admitted aim ≢ Some j
      → MayDrop (seats_in m.array j) (seats_in named j)
  apart_drops j as_it_was other =
      elim (apart j as_it_was) [
        | inr out ↦ dropped j out.1
        | inl same ↦
            elim (down_or_not (mark_in named j)) [
              | inl down ↦ dropped j down
              | inr up ↦
                  elim (cases_lt j m.array.geometry.n) [
                    | inr past ↦ absurd (up (past_new j past))
                    | inl below ↦
                        inl (same_seat (mark_in named j) (mark_in m.array j) (joined_in named j) (joined_in m.array j) same (is.joined j below up other))
                  ]
            ]
      ]

  pub apart_gone : (j : ℕ) → aimed aim j (why_of m j) ≡ why_of m j → mark_in m.array j ≢ Down → mark_in named j ≡ Down → gone j
  apart_gone j as_it_was up down =
      elim (apart j as_it_was) [
        | inr out ↦ out.0
        | inl same ↦ absurd (up (sym same ∙ down))
      ]

  -- the slot at which it is aimed becomes what it is aimed to be, or was gone and is Down
  pub aimed_marks : (j : ℕ) → j < m.array.geometry.n
      → (mark_in named j ≡ mark_for (aimed aim j (why_of m j))) ⊎ (gone j × (mark_in named j ≡ Down))
  aimed_marks = is.marks

  pub new_down : (j : ℕ) → mark_in named j ≡ Down → joined_in named j ≡ 0
  new_down j down = down_joined named j of_new down

  pub drops_of : (j : ℕ) → mark_in named j ≡ Down → MayDrop (seats_in m.array j) (seats_in named j)
  drops_of = dropped

-- what an epoch is aimed at
other_admit : (slot j : ℕ) → j ≢ slot → admitted (Admit slot) ≢ Some j
other_admit slot j other same = other (sym (let at : slot ≡ j = cc in at))

abbrev pub Begins : EpochChange → Membership → Type 0
Begins (Admit slot) m = (slot < m.array.geometry.n) × (mark_in m.array slot ≡ Down)
Begins (Promote slot) m = (slot < m.array.geometry.n) × (mark_in m.array slot ≡ mark.Rebuilding)
Begins Fence m = Unit {0}
Begins (Stamp frozen label) m = Unit {0}

module _ (gone : ℕ → Type 0) (m : Membership) (named : Configuration) (member : IsMembership m) (of_new : IsListed named)
    (marks : (j : ℕ) → j < m.array.geometry.n → mark_in m.array j ≡ mark_for (why_of m j)) where
  abbrev Moves : EpochChange → Type 0
  Moves aim = SeatsMove aim gone (seats_in m.array) (seats_in named)

  admits : (slot : ℕ) → Begins (Admit slot) m → IsAimed (Admit slot) gone m named → Moves (Admit slot)
  admits slot begins is = record {
    moves =
        elim (aimed_marks (Admit slot) gone m named member of_new marks is slot begins.0) [
          | inl so ↦
              inl
              record {
                was = begins.1;
                is = so ∙ ap mark_for (cond-true _ _ _ (eq-eqb slot slot refl));
                joined = λ up _. absurd (up refl);
                down = λ never. cc;
                others = others;
              }
          | inr out ↦ inr (out.0, each out.1)
        ];
    drops = drops;
  }
    where
      apart_why : (j : ℕ) → j ≢ slot → aimed (Admit slot) j (why_of m j) ≡ why_of m j
      apart_why j other = cond-false _ _ _ (ne_eqb j slot other)

      others : (j : ℕ) → j ≢ slot → MayDrop (seats_in m.array j) (seats_in named j)
      others j other = apart_drops (Admit slot) gone m named member of_new marks is j (apart_why j other) (other_admit slot j other)

      each : mark_in named slot ≡ Down → EachMayDrop (seats_in m.array) (seats_in named)
      each down j =
          elim (cases_eq j slot) [
            | inl same ↦
                drops_of (Admit slot) gone m named member of_new marks is j (subst (λ (i : ℕ). mark_in named i ≡ Down) (sym same) down)
            | inr other ↦ others j other
          ]

      drops : DropsOnly gone (seats_in m.array) (seats_in named)
      drops j up down =
          elim (cases_eq j slot) [
            | inl same ↦ absurd (up (subst (λ (i : ℕ). mark_in m.array i ≡ Down) (sym same) begins.1))
            | inr other ↦ apart_gone (Admit slot) gone m named member of_new marks is j (apart_why j other) up down
          ]

  promotes : (slot : ℕ) → Begins (Promote slot) m → IsAimed (Promote slot) gone m named → Moves (Promote slot)
  promotes slot begins is = record {
    moves =
        elim (at_slot) [
          | inl so ↦
              inl
              record {
                was = begins.1;
                is = so;
                joined = λ _ _. is.joined slot begins.0 (λ down. let never : Live ≡ Down = sym so ∙ down in cc) (λ never. cc);
                down = λ never. cc;
                others = others;
              }
          | inr out ↦
              inr (
                out.0,
                record {
                  was = begins.1;
                  is = out.1;
                  joined = λ _ up. absurd (up refl);
                  down = λ _. new_down (Promote slot) gone m named member of_new marks is slot out.1;
                  others = others;
                },
              )
        ];
    drops = drops;
  }
    where
      at_slot : (mark_in named slot ≡ Live) ⊎ (gone slot × (mark_in named slot ≡ Down))
      at_slot =
          elim (aimed_marks (Promote slot) gone m named member of_new marks is slot begins.0) [
            | inl so ↦ inl (so ∙ ap mark_for (cond-true _ _ _ (eq-eqb slot slot refl)))
            | inr out ↦ inr out
          ]

      apart_why : (j : ℕ) → j ≢ slot → aimed (Promote slot) j (why_of m j) ≡ why_of m j
      apart_why j other = cond-false _ _ _ (ne_eqb j slot other)

      others : (j : ℕ) → j ≢ slot → MayDrop (seats_in m.array j) (seats_in named j)
      others j other = apart_drops (Promote slot) gone m named member of_new marks is j (apart_why j other) (λ never. cc)

      drops : DropsOnly gone (seats_in m.array) (seats_in named)
      drops j up down =
          elim (cases_eq j slot) [
            | inl same ↦
                elim (at_slot) [
                  | inl so ↦ let never : Live ≡ Down = sym so ∙ subst (λ (i : ℕ). mark_in named i ≡ Down) same down in absurd (cc)
                  | inr out ↦ subst gone (sym same) out.0
                ]
            | inr other ↦ apart_gone (Promote slot) gone m named member of_new marks is j (apart_why j other) up down
          ]

  pub seats_move : (aim : EpochChange) → Begins aim m → IsAimed aim gone m named → Moves aim
  seats_move Fence begins is = record {
    moves = λ j. apart_drops Fence gone m named member of_new marks is j refl (λ never. cc);
    drops = λ j up down. apart_gone Fence gone m named member of_new marks is j refl up down;
  }
  seats_move (Stamp frozen label) begins is = record {
    moves = λ j. apart_drops (Stamp frozen label) gone m named member of_new marks is j refl (λ never. cc);
    drops = λ j up down. apart_gone (Stamp frozen label) gone m named member of_new marks is j refl up down;
  }
  seats_move (Admit slot) begins is = admits slot begins is
  seats_move (Promote slot) begins is = promotes slot begins is

-- IN A SESSION

module _ (aim : EpochChange) (gone : Slots) (m : Membership) (words : Codewords) (old : List Happening) (ready : IsReadyFor aim m words old)
    (rebuilt : (slot : ℕ) → aim ≡ Promote slot → IsRebuiltIn m slot) where
  begins_so : Begins aim m
  begins_so = by aim refl
    where
      by : (x : EpochChange) → aim ≡ x → Begins x m
      by Fence same = tt
      by (Stamp frozen label) same = tt
      by (Promote slot) same =
          let is = rebuilt slot same in
          (is.below, ready.session.marks slot is.below ∙ ap mark_for is.why)
      by (Admit slot) same =
          let at : admitted aim ≡ Some slot = ap admitted same in
          ((ready.absent slot at).0, ready.begun.down slot at (ready.absent slot at).0)

  moves_to : (named : Configuration) → IsListed named → IsAimed aim (HasSlot gone) m named
      → SeatsMove aim (HasSlot gone) (seats_in m.array) (seats_in named)
  moves_to named listed is =
      seats_move (HasSlot gone) m named ready.begun.member listed ready.session.marks aim begins_so is

  pub seats_stood : (last : Membership) (new : List Happening) → HasStood aim gone m last old new
      → SeatsMove aim (HasSlot gone) (seats_in m.array) (seats_in last.array)
  seats_stood last new stood = moves_to last.array (listed_member last stood.member) stood.established.aimed_at

  pub seats_begun : (last : Membership) → IsMembership last → HasBegun aim gone m last
      → (last.array ≡ m.array) ⊎ SeatsMove aim (HasSlot gone) (seats_in m.array) (seats_in last.array)
  seats_begun last is (NotYet same _) = inl same
  seats_begun last is (Did _ aimed_at _) = inr (moves_to last.array (listed_member last is) aimed_at)

  pub seats_meanwhile : (last : Membership) (h new : List Happening) (image : Image) (current : Superblock)
      → IsFencing aim gone m last old h new → ¬ IsTrue (stopped h) → CrashMayLeave h image
      → IsToleratedAlone m.array.geometry image → IsCurrent m.array.geometry image current
      → (current.array ≡ m.array) ⊎ SeatsMove aim (HasSlot gone) (seats_in m.array) (seats_in current.array)
  seats_meanwhile last h new image current f going left tolerated is_current =
      elim (names_meanwhile aim gone m last words old h new image ready f going left current tolerated is_current) [
        | inl same ↦ inl same
        | inr is ↦ inr (moves_to current.array (listed_super current (super_formed _ current is_current.counts.super)) is.1)
      ]
