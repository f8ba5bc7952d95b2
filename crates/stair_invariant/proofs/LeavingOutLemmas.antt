-- Slots that were gone are left out: the epoch without them stands then.
use Rattle.std.proofs.Common.{◌≡◌, ℕ, ◌<◌, ◌⊎◌, inl, inr, refl, sym, ap, ◌∙◌, subst, arith}
use Rattle.std.specs.Prelude.{IsTrue, List, None, Result, Ok, Err, Some}
use Rattle.stair_model.specs.Slots.{Slots, HasSlot}
use Rattle.stair_rack.specs.History.{Happening, stopped}
use Rattle.stair_rack.specs.Moments.{IsMoment}
use Rattle.stair_rack.specs.Offline.{IsAttached}
use Rattle.stair_rack.specs.Stretch.{NothingReturned}
use Rattle.stair_rack.specs.RackState.{RackState}
use Rattle.stair_rack.proofs.MomentLemmas.{moment_last}
use Rattle.stair_super.specs.Superblock.{joined_in, mark_in}
use Rattle.stair_super.specs.declared.configuration.Configuration.{Configuration}
use Rattle.stair_member.specs.Aims.{IsAimed, admitted, mark_for}
use Rattle.stair_member.specs.Epochs.{IsTaken}
use Rattle.stair_member.specs.Establishing.{Fences}
use Rattle.stair_member.specs.Fencing.{HasStood, IsBegun, IsFencing}
use Rattle.stair_member.specs.Membership.{IsHere, IsMarkedFor, IsMembership, Membership, member_of, why_of}
use Rattle.stair_member.specs.declared.aim.EpochChange.TheVariants.{Fence}
use Rattle.stair_member.specs.declared.fault.FenceFault.{FenceFault}
use Rattle.stair_member.specs.declared.why.Why.{Why}
use Rattle.stair_member.specs.declared.why.Why.TheVariants as why
use Rattle.stair_member.proofs.CountingLemmas.{has_or_not}
use Rattle.stair_member.proofs.LeavingLemmas.{left}
use Rattle.stair_state.specs.Recovering.{IsShut}
use Rattle.stair_invariant.specs.Changing.{IsAttachedOrBare}
use Rattle.stair_invariant.specs.Effects.{Fenced, FencesGone, NoneWas, Snapshot}
use Rattle.stair_invariant.specs.InSession.{HasEpoch}
use Rattle.stair_invariant.proofs.AfterLemmas.{stood}

module _ (leaving : Slots) (m last : Membership) (answer : Result Slots FenceFault) (old new : RackState) (is : HasEpoch m old.history)
    (were_here : (j : ℕ) → HasSlot leaving j → IsHere m j) (e : Fences leaving m last answer old new) where
  -- the member without the slots that leave
  abbrev pub start : Membership
  start = e.start

  start_is : start ≡ member_of m.array m.drawn start.whys m.places
  start_is = λ i. record { array = e.leaves.array i; drawn = e.leaves.drawn i; whys = start.whys; places = e.leaves.places i }

  -- keeps its rules
  start_rules : IsMembership start
  start_rules =
      let rules = is.begun.member in
      subst IsMembership (sym start_is) (record {
        sizes = record {
          id = rules.sizes.id;
          drawn = rules.sizes.drawn;
          marks = rules.sizes.marks;
          joins = rules.sizes.joins;
          label = rules.sizes.label;
          whys = e.leaves.size ∙ rules.sizes.whys;
          places = rules.sizes.places;
        };
        array = rules.array;
        known = rules.known;
        absent = λ j past small.
            e.leaves.others j (λ has. let lt = (were_here j has).below in omega (arith, past, lt)) ∙ rules.absent j past small;
        marked = λ j lt.
            elim (has_or_not leaving j) [
              | inl has ↦ subst (λ (w : Why). IsMarkedFor w (mark_in m.array j)) (sym (e.leaves.left j has)) tt
              | inr stays ↦ subst (λ (w : Why). IsMarkedFor w (mark_in m.array j)) (sym (e.leaves.others j stays)) (rules.marked j lt)
            ];
        places = rules.places;
      })

  pub start_begun : IsBegun None start old.history
  start_begun = left None leaving m start e.leaves old.history start_rules is.begun

  -- a slot that isn't gone to it has the reason that it had
  pub why_before : (j : ℕ) (w : Why) → why_of start j ≡ w → (w ≡ why.Gone → ⊥) → why_of m j ≡ w
  why_before j w up other =
      elim (has_or_not leaving j) [
        | inl has ↦ absurd (other (sym up ∙ e.leaves.left j has))
        | inr stays ↦ sym (e.leaves.others j stays) ∙ up
      ]

  pub below_before : (j : ℕ) → j < start.array.geometry.n → j < m.array.geometry.n
  below_before j below = subst (λ (a : Configuration). j < a.geometry.n) e.leaves.array below

  pub here_before : (j : ℕ) → IsHere start j → IsHere m j
  here_before j here = record { below = below_before j here.below; why = by here.why }
    where
      by : (why_of start j ≡ why.Here) ⊎ (why_of start j ≡ why.Rebuilding) → (why_of m j ≡ why.Here) ⊎ (why_of m j ≡ why.Rebuilding)
      by (inl up) = inl (why_before j why.Here up (λ same. cc))
      by (inr up) = inr (why_before j why.Rebuilding up (λ same. cc))

  pub own_before : (j : ℕ) → IsTaken (admitted Fence) start j → IsAttachedOrBare old.history j
  own_before j (inl here) = is.own j (here_before j here)
  own_before j (inr joins) = let never : None ≡ Some j = joins.0 in absurd (cc)

  pub shut_before : (j : ℕ) → j < start.array.geometry.n → (why_of start j ≡ why.Rebuilding) ⊎ (admitted Fence ≡ Some j) → IsAttached old.history j
      → IsShut start.array.geometry old.history old.history j
  shut_before j below (inl up) on =
      subst (λ (a : Configuration). IsShut a.geometry old.history old.history j) (sym e.leaves.array)
      (is.shut j (below_before j below) (why_before j why.Rebuilding up (λ same. cc)) on)
  shut_before j below (inr never) on = let no : None ≡ Some j = never in absurd (cc)

  -- what a new epoch names for it is so for the member that it was, where those that leave are out besides
  pub aimed_from : (out : ℕ → Type 0) (array : Configuration) → IsAimed Fence out start array
      → IsAimed Fence (λ j. out j ⊎ HasSlot leaving j) m array
  aimed_from out array named = record {
    geometry = named.geometry ∙ ap (λ (x : Configuration). x.geometry) e.leaves.array;
    frozen = named.frozen ∙ ap (λ (x : Configuration). x.frozen) e.leaves.array;
    label = named.label ∙ ap (λ (x : Configuration). x.label) e.leaves.array;
    marks = λ j below.
        elim (named.marks j (subst (λ (x : Configuration). j < x.geometry.n) (sym e.leaves.array) below)) [
          | inr was ↦ inr (inl was.0, was.1)
          | inl as_aimed ↦
              elim (has_or_not leaving j) [
                | inl has ↦ inr (inr has, as_aimed ∙ ap mark_for (e.leaves.left j has))
                | inr stays ↦ inl (as_aimed ∙ ap mark_for (e.leaves.others j stays))
              ]
        ];
    joined = λ j below stays none.
        named.joined j (subst (λ (x : Configuration). j < x.geometry.n) (sym e.leaves.array) below) stays none
        ∙ ap (λ (x : Configuration). joined_in x j) e.leaves.array;
    joins = named.joins;
  }

  module _ (honest : IsTrue new.honest) (c : List Happening) (at : IsMoment old.history c new.history) (returned : NothingReturned old.history c) where
    abbrev pub fencing : IsFencing Fence e.establishes.gone start last old.history c new.history
    fencing = record { begun = start_begun; moment = at; issued = e.establishes.issued honest; returned = returned }

-- WHERE IT ISN'T REFUSED

module _ (leaving fallen : Slots) (m last : Membership) (old new : RackState) (is : HasEpoch m old.history)
    (were_here : (j : ℕ) → HasSlot leaving j → IsHere m j) (e : Fences leaving m last (Ok fallen) old new) (honest : IsTrue new.honest)
    (returned : NothingReturned old.history new.history) where
  pub fence_stood : HasStood Fence e.establishes.gone e.start last old.history new.history
  fence_stood = record {
    fencing =
        let ran = (e.establishes.issued honest).ran in
        fencing leaving m last (Ok fallen) old new is were_here e honest new.history (moment_last ran.more ran.is) returned;
    member = e.establishes.rules;
    established = e.establishes.done refl;
    dropped = e.establishes.were_gone.dropped;
    among = e.establishes.among honest refl;
    on_disk = e.establishes.on_disk honest refl;
    promoted = λ slot same. absurd (cc);
  }

  pub fence_epoch : ¬ IsTrue (stopped new.history) → HasEpoch last new.history
  fence_epoch going =
      stood Fence e.establishes.gone e.start last old.history new.history
      (own_before leaving m last (Ok fallen) old new is were_here e) fence_stood going
      (shut_before leaving m last (Ok fallen) old new is were_here e)

-- The epoch stands without the slots that were gone, or nothing was done where none was.
pub left_out : (gone : Slots) (x y : Snapshot) → FencesGone gone None x y → HasEpoch x.member x.told.history
    → ((j : ℕ) → HasSlot gone j → IsHere x.member j) → IsTrue y.told.honest → NothingReturned x.told.history y.told.history
    → ¬ IsTrue (stopped y.told.history) → HasEpoch y.member y.told.history
left_out gone x y (NoneWas none same fine) is were_here honest returned going =
    subst (λ (p : Snapshot). HasEpoch p.member p.told.history) (sym same) is
left_out gone x y (Fenced j has (Ok fallen) fine e) is were_here honest returned going =
    fence_epoch gone fallen x.member y.member x.told y.told is were_here e honest returned going
left_out gone x y (Fenced j has (Err fault) fine e) is were_here honest returned going = absurd (cc)
