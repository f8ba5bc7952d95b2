-- The parts of a recovery leave what the member's epoch says, but for slots that they drop.
use Rattle.std.proofs.Common.{◌≡◌, ◌≢◌, ℕ, ◌<◌, ◌≤◌, inl, inr, refl, sym, ap, ◌∙◌, subst, None, Some, Option}
use Rattle.std.specs.Prelude.{◌⊎◌, Result}
use Rattle.std.proofs.lemmas.Bool.{cases_lt}
use Rattle.stair_model.specs.Geometry.{Geometry}
use Rattle.stair_model.specs.Slots.{HasSlot, Slots}
use Rattle.stair_model.specs.Stripe.{Stripe}
use Rattle.stair_rack.specs.Placed.{Writes}
use Rattle.stair_super.specs.Superblock.{joined_in, mark_in}
use Rattle.stair_super.specs.declared.configuration.Configuration.{Configuration}
use Rattle.stair_super.specs.declared.mark.Mark.{Mark}
use Rattle.stair_super.specs.declared.mark.Mark.TheVariants.{Down}
use Rattle.stair_member.specs.Aims.{IsAimed, mark_for}
use Rattle.stair_member.specs.Establishing.{Did, Fences, HasBegun, Leaves, NotYet}
use Rattle.stair_member.specs.Membership.{IsMarkedFor, IsMembership, Membership, why_of}
use Rattle.stair_member.specs.Seats.{Seat, Seats}
use Rattle.stair_member.specs.declared.aim.EpochChange.TheVariants.{Fence}
use Rattle.stair_member.specs.declared.fault.FenceFault.{FenceFault}
use Rattle.stair_member.specs.declared.why.Why.{Why}
use Rattle.stair_member.specs.declared.why.Why.TheVariants as why
use Rattle.stair_member.proofs.CountingLemmas.{has_or_not}
use Rattle.stair_journal.specs.declared.body.Body.{Body}
use Rattle.stair_journal.specs.declared.redo.Redo.{Redo}
use Rattle.stair_state.specs.Redoing.{Placing, Stage, next}
use Rattle.stair_invariant.specs.Effects.{DoesStage, Fenced, FindsBody, FindsRedo, FencesGone, NoneWas, Snapshot, Redoes, Replays, snapshot}
use Rattle.stair_invariant.specs.Opening.{StaysArray}
use Rattle.stair_invariant.specs.SeatSteps.{EachMayDrop, MayDrop}
use Rattle.stair_invariant.specs.Session.{seats_in}
use Rattle.stair_invariant.proofs.SeatLemmas.{IsListed, down_or_not, down_seat, listed_member, past_down, same_seat}

-- SEATS

drop_again : (a b c : Seat) → MayDrop a b → MayDrop b c → MayDrop a c
drop_again a b c (inl same) (inl again) = inl (again ∙ same)
drop_again a b c (inl same) (inr fell) = inr (subst (λ (x : Seat). x.mark ≢ Down) same fell.0, fell.1)
drop_again a b c (inr fell) (inl again) = inr (fell.0, again ∙ fell.1)
drop_again a b c (inr fell) (inr twice) = absurd (twice.0 (ap (λ (x : Seat). x.mark) fell.1))

pub drops_twice : (a b c : Seats) → EachMayDrop a b → EachMayDrop b c → EachMayDrop a c
drops_twice a b c first second j = drop_again (a j) (b j) (c j) (first j) (second j)

-- An epoch that is for a fence gives a slot the seat that it had, or drops it.
module _ (gone : ℕ → Type 0) (m : Membership) (named : Configuration) (of_old : IsListed m.array) (of_new : IsListed named)
    (is : IsAimed Fence gone m named) (marked : (j : ℕ) → j < m.array.geometry.n → (IsMarkedFor (why_of m j) (mark_in m.array j)) ⊎ (why_of m j ≡ why.Gone)) where
  dropped : (j : ℕ) → mark_in named j ≡ Down → MayDrop (seats_in m.array j) (seats_in named j)
  dropped j down =
      elim (down_or_not (mark_in m.array j)) [
        | inl was ↦ inl (down_seat named j of_new down ∙ sym (down_seat m.array j of_old was))
        | inr was ↦ inr (was, down_seat named j of_new down)
      ]

  -- the mark that a slot has for its reason is the one that it had, or Down
  by_why : (w : Why) (mark : Mark) → IsMarkedFor w mark ⊎ (w ≡ why.Gone) → (mark_for w ≡ mark) ⊎ (mark_for w ≡ Down)
  by_why why.Here mark (inl same) = inl (sym same)
  by_why why.Rebuilding mark (inl same) = inl (sym same)
  by_why why.Here mark (inr never) = absurd (cc)
  by_why why.Rebuilding mark (inr never) = absurd (cc)
  by_why w mark so = inr refl

  kept : (j : ℕ) → j < m.array.geometry.n → mark_in named j ≡ mark_in m.array j → MayDrop (seats_in m.array j) (seats_in named j)
  kept j below same =
      elim (down_or_not (mark_in named j)) [
        | inl down ↦ dropped j down
        | inr up ↦
            inl
            (same_seat (mark_in named j) (mark_in m.array j) (joined_in named j) (joined_in m.array j) same (is.joined j below up (λ never. cc)))
      ]

  pub fence_seats : EachMayDrop (seats_in m.array) (seats_in named)
  fence_seats j =
      elim (cases_lt j m.array.geometry.n) [
        | inr past ↦ dropped j (past_down named j of_new (subst (λ (g : Geometry). g.n ≤ j) (sym is.geometry) past))
        | inl below ↦
            elim (is.marks j below) [
              | inr out ↦ dropped j out.1
              | inl so ↦
                  elim (by_why (why_of m j) (mark_in m.array j) (marked j below)) [
                    | inl same ↦ kept j below (so ∙ same)
                    | inr down ↦ dropped j (so ∙ down)
                  ]
            ]
      ]

-- MEMBERS

none_changes : (m : Membership) → IsMembership m → StaysArray m m
none_changes m rules = record { rules = rules; geometry = refl; frozen = refl; label = refl; seats = λ j. inl refl }

pub stays_again : (a b c : Membership) → StaysArray a b → StaysArray b c → StaysArray a c
stays_again a b c first second = record {
  rules = second.rules;
  geometry = second.geometry ∙ first.geometry;
  frozen = second.frozen ∙ first.frozen;
  label = second.label ∙ first.label;
  seats = drops_twice (seats_in a.array) (seats_in b.array) (seats_in c.array) first.seats second.seats;
}

-- an epoch that is for a fence by the member that some slots left drops slots at most
pub fence_drops : (leaving : Slots) (gone : ℕ → Type 0) (m start : Membership) (named : Configuration) → Leaves leaving m start → IsMembership m
    → IsListed named → IsAimed Fence gone start named → EachMayDrop (seats_in m.array) (seats_in named)
fence_drops leaving gone m start named leaves rules listed is =
    subst (λ (c : Configuration). EachMayDrop (seats_in c) (seats_in named)) leaves.array
    (fence_seats gone start named (subst IsListed (sym leaves.array) (listed_member m rules)) listed is marked)
  where
    marked : (j : ℕ) → j < start.array.geometry.n → (IsMarkedFor (why_of start j) (mark_in start.array j)) ⊎ (why_of start j ≡ why.Gone)
    marked j below =
        elim (has_or_not leaving j) [
          | inl has ↦ inr (leaves.left j has)
          | inr out ↦
              inl
              (subst (λ (c : Configuration). IsMarkedFor (why_of start j) (mark_in c j)) (sym leaves.array)
              (subst (λ (w : Why). IsMarkedFor w (mark_in m.array j)) (sym (leaves.others j out))
              (rules.marked j (subst (λ (c : Configuration). j < c.geometry.n) leaves.array below))))
        ]

-- whether the epoch stands or not
pub fence_stays : (leaving : Slots) (x y : Snapshot) (answer : Result Slots FenceFault) → Fences leaving x.member y.member answer x.told y.told
    → IsMembership x.member → StaysArray x.member y.member
fence_stays leaving x y answer e rules = by e.establishes.began
  where
    array : e.start.array ≡ x.member.array
    array = e.leaves.array

    by : HasBegun Fence e.establishes.gone e.start y.member → StaysArray x.member y.member
    by (NotYet same whys) =
        let all : y.member.array ≡ x.member.array = same ∙ array in
        record {
          rules = e.establishes.rules;
          geometry = ap (λ (c : Configuration). c.geometry) all;
          frozen = ap (λ (c : Configuration). c.frozen) all;
          label = ap (λ (c : Configuration). c.label) all;
          seats = λ j. inl (ap (λ (c : Configuration). seats_in c j) all);
        }
    by (Did above named whys) = record {
      rules = e.establishes.rules;
      geometry = named.geometry ∙ ap (λ (c : Configuration). c.geometry) array;
      frozen = named.frozen ∙ ap (λ (c : Configuration). c.frozen) array;
      label = named.label ∙ ap (λ (c : Configuration). c.label) array;
      seats =
          fence_drops leaving (HasSlot e.establishes.gone) x.member e.start y.member.array e.leaves rules
          (listed_member y.member e.establishes.rules) named;
    }

-- THE PARTS

pub left_stays : (gone : Slots) (refusal : Option FenceFault) (x y : Snapshot) → FencesGone gone refusal x y → IsMembership x.member
    → StaysArray x.member y.member
left_stays gone refusal x y (NoneWas none same fine) rules =
    subst (λ (p : Snapshot). StaysArray x.member p.member) (sym same) (none_changes x.member rules)
left_stays gone refusal x y (Fenced j has answer fine e) rules = fence_stays gone x y answer e rules

pub stage_stays : (what : Writes) (to : Slots) (refusal : Option FenceFault) (x y : Snapshot) → DoesStage what to refusal x y → IsMembership x.member
    → StaysArray x.member y.member
stage_stays what to refusal x y does rules = left_stays does.gone refusal (snapshot x.member does.mid) y does.leaves rules

pub redo_stays : (g : Geometry) (redo : Redo) (stripe : Stripe) (stage : Stage) (refusal : Option FenceFault) (x z : Snapshot)
    → Redoes g redo stripe stage refusal x z → IsMembership x.member → StaysArray x.member z.member
redo_stays g redo stripe _ _ _ _ (Redoes.Ends x) rules = none_changes x.member rules
redo_stays g redo stripe _ _ _ _ (Redoes.Goes stage to refusal x y z not_done over does more) rules =
    let first = stage_stays _ to None x y does rules in
    stays_again x.member y.member z.member first (redo_stays g redo stripe (next stage) refusal y z more first.rules)
redo_stays g redo stripe _ _ _ _ (Redoes.Stops stage to fault x y not_done over does) rules = stage_stays _ to (Some fault) x y does rules

pub found_stays : (redo : Option Redo) (opened : Slots) (refusal : Option FenceFault) (x z : Snapshot) → FindsRedo redo opened refusal x z
    → IsMembership x.member → StaysArray x.member z.member
found_stays _ _ _ _ _ (FindsRedo.Found gates live mid x are reads none) rules = none_changes x.member rules
found_stays _ _ _ _ _ (FindsRedo.Again gates live mid redo opened refusal j x y z are reads gone leaves rest) rules =
    let first = left_stays gates.gone None (snapshot x.member mid) y leaves rules in
    stays_again x.member y.member z.member first (found_stays redo opened refusal y z rest first.rules)
found_stays _ _ _ _ _ (FindsRedo.Stops gates live mid redo opened fault x y are reads leaves) rules =
    left_stays gates.gone (Some fault) (snapshot x.member mid) y leaves rules

pub body_stays : (redo : Redo) (body : Body) (was into : Stripe) (refusal : Option FenceFault) (x y : Snapshot)
    → FindsBody redo body was into refusal x y → IsMembership x.member → StaysArray x.member y.member
body_stays redo body was into refusal x y found rules = left_stays body.gone refusal (snapshot x.member found.mid) y found.leaves rules

pub replay_stays : (redo : Redo) (stripe : Stripe) (opened : Slots) (refusal : Option FenceFault) (x z : Snapshot)
    → Replays redo stripe opened refusal x z → IsMembership x.member → StaysArray x.member z.member
replay_stays redo stripe opened _ _ _ (Replays.Goes to refusal x y z are does rest) rules =
    let first = stage_stays _ to None x y does rules in
    stays_again x.member y.member z.member first (redo_stays _ redo stripe Placing refusal y z rest first.rules)
replay_stays redo stripe opened _ _ _ (Replays.Stops to fault x y are does) rules = stage_stays _ to (Some fault) x y does rules
