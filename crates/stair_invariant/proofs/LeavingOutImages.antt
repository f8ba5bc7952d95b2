-- What a crash leaves of a redo while slots that were gone are left out.
use Rattle.std.proofs.Common.{◌≡◌, ◌≢◌, ℕ, ◌<◌, List, ◌⊎◌, inl, inr, refl, sym, ◌∙◌, subst, arith, Option, Some, false, ap}
use Rattle.std.specs.Prelude.{IsTrue, Result}
use Rattle.stair_model.specs.Geometry.{Geometry, IsWithinLimits, sectors_needed}
use Rattle.stair_model.specs.Slots.{Slots, HasSlot}
use Rattle.stair_rack.specs.Answers.{Ran}
use Rattle.stair_rack.specs.Crash.{CrashMayLeave, EachImage}
use Rattle.stair_rack.specs.History.{Happening, slot_state, stopped}
use Rattle.stair_rack.specs.Media.{Image}
use Rattle.stair_rack.specs.Moments.{IsMoment}
use Rattle.stair_rack.specs.Placed.{IsSlot}
use Rattle.stair_rack.specs.Sector.{Damaged, MayLeave, damaged}
use Rattle.stair_rack.specs.Stretch.{NothingReturned}
use Rattle.stair_rack.specs.RackState.{RackState}
use Rattle.stair_rack.proofs.CrashLemmas.{settled_left}
use Rattle.stair_rack.proofs.MomentLemmas.{at_last, ran_before, ran_weakened}
use Rattle.stair_rack.proofs.TidyLemmas.{history_on}
use Rattle.stair_super.specs.declared.configuration.Configuration.{Configuration}
use Rattle.stair_member.specs.Aims.{admitted, aimed}
use Rattle.stair_member.specs.Counting.{AllBut}
use Rattle.stair_member.specs.Editions.{Edition}
use Rattle.stair_member.specs.Epochs.{IsIssuing, IsTaken}
use Rattle.stair_member.specs.Establishing.{Fences}
use Rattle.stair_member.specs.Fencing.{IsFencing}
use Rattle.stair_member.specs.Membership.{IsHere, Membership, why_of}
use Rattle.stair_member.specs.Reserve.{Bears, BearsFor, HasReached, IsOrderly}
use Rattle.stair_member.specs.declared.aim.EpochChange.TheVariants.{Fence, Promote}
use Rattle.stair_member.specs.declared.fault.FenceFault.{FenceFault}
use Rattle.stair_member.specs.declared.why.Why.TheVariants as why
use Rattle.stair_member.proofs.CountingLemmas.{all_but_mapped, has_or_not}
use Rattle.stair_member.proofs.EditionLemmas.{none_held_there}
use Rattle.stair_rack.specs.Offline.{IsAttached}
use Rattle.stair_state.specs.Represents.{IsLargeEnough}
use Rattle.stair_state.specs.Redoing.{AtRest, AttachesNone, IsRedoing, Redoing, Stage, WritesNone}
use Rattle.stair_state.specs.State.{Change, Content}
use Rattle.stair_state.specs.Tolerance.{IsToleratedAlone}
use Rattle.stair_state.proofs.RedoPhaseLemmas.{slot_unwritten}
use Rattle.stair_state.proofs.StageLemmas.{SlotIn, is_in, slot_in}
use Rattle.stair_invariant.specs.Changing.{Coming, Earlier, IsAttachedOrBare, IsChanging, IsOneOfThese, Present}
use Rattle.stair_invariant.specs.UnderWay.{AreKept, IsBeforeOrAfter, IsInUse, IsOfRedo, IsUnderWay}
use Rattle.stair_invariant.proofs.BesideLemmas.{attached_on, large_on, medium_on_it, own_on}
use Rattle.stair_invariant.proofs.EstablishingLemmas.{issuing_attaches, issuing_writes, shut_on}
use Rattle.stair_invariant.proofs.InSessionLemmas.{IsLeftOut, IsPrepared, bare_on, changing}
use Rattle.stair_invariant.proofs.LeavingOutLemmas.{aimed_from, fencing, own_before, why_before}
use Rattle.stair_invariant.proofs.RebaseLemmas.{shut_now}
use Rattle.stair_invariant.proofs.UnderWayImages.{AreFound, image_keeps, image_stands}
use Rattle.stair_invariant.proofs.UnderWayLemmas.{not_twice}

-- both places lie on a medium that is large enough
has_places : (g : Geometry) → IsWithinLimits g → 1 < sectors_needed g
has_places g limits = let needed : sectors_needed g ≡ sectors_needed g = refl in omega arith

-- A live slot that is left out wasn't in use when that began, and bore nothing.
module _ (a : Redoing) (stage : Stage) (redoing : (stage ≡ AtRest) ⊎ IsRedoing a) (limits : IsWithinLimits a.geometry) (start : List Happening) (leaving : Slots) (m last : Membership)
    (answer : Result Slots FenceFault) (old new : RackState) (way : IsUnderWay a stage start m old.history)
    (were_here : (j : ℕ) → HasSlot leaving j → IsHere m j)
    (were_bare : (j : ℕ) → HasSlot leaving j → why_of m j ≡ why.Here
    → ((slot_state old.history j).attached ≡ false) × ((k : ℕ) → (slot_state old.history j).sector k ≡ damaged))
    (e : Fences leaving m last answer old new) (honest : IsTrue new.honest)
    (c : List Happening) (at : IsMoment old.history c new.history) (returned : NothingReturned old.history c) (going : ¬ IsTrue (stopped c)) where
  abbrev slots : Slots
  slots = (e.establishes.issued honest).slots

  abbrev editions : List Edition
  editions = (e.establishes.issued honest).editions

  so_far : Ran (IsIssuing (e.establishes.issued honest).slots (e.establishes.issued honest).editions) old.history c
  so_far =
      ran_before {allowed = IsIssuing (e.establishes.issued honest).slots (e.establishes.issued honest).editions} (e.establishes.issued honest).ran at

  free_of : (j : ℕ) → Ran (AttachesNone (λ i. i ≡ j)) old.history c
  free_of j =
      ran_weakened {allowed = IsIssuing (e.establishes.issued honest).slots (e.establishes.issued honest).editions} {more = AttachesNone (λ i. i ≡ j)}
      (λ i call may. issuing_attaches (e.establishes.issued honest).slots (e.establishes.issued honest).editions (λ x. x ≡ j) i call may) so_far

  unwritten_of : (j : ℕ) → Ran (WritesNone (IsSlot j)) old.history c
  unwritten_of j =
      ran_weakened {allowed = IsIssuing (e.establishes.issued honest).slots (e.establishes.issued honest).editions} {more = WritesNone (IsSlot j)}
      (λ i call may. issuing_writes (e.establishes.issued honest).slots (e.establishes.issued honest).editions (IsSlot j) i call may) so_far

  used_before : (j : ℕ) → IsInUse m c j → IsInUse m old.history j
  used_before j used = (used.0, attached_on old.history c j (free_of j) used.1)

  -- the slots are as they were
  pub found : AreFound a stage start m c
  found = record {
    own = λ j here. own_on old.history c j (free_of j) returned (way.epoch.own j here);
    cells =
        is_in a stage (IsInUse m c) start c
        (λ j used.
        at_last {P = λ h. SlotIn a stage start h j}
        (slot_unwritten a stage start j (IsSlot j) refl old.history c (unwritten_of j)
        (slot_in a stage (IsInUse m old.history) start old.history way.cells j (used_before j used))));
    same = λ j used. not_twice start old.history c j (way.same j (used_before j used)) (medium_on_it old.history c j (free_of j) used.1);
    large = λ j used. large_on a.geometry old.history c j (free_of j) (used_before j used).1 used.1 (way.large j (used_before j used));
    shut = λ j below up on.
        shut_now m.array.geometry j old.history c (medium_on_it old.history c j (free_of j) on)
        (shut_on (e.establishes.issued honest).slots (e.establishes.issued honest).editions old.history c j so_far m.array.geometry old.history
        (way.epoch.shut j below up (attached_on old.history c j (free_of j) on)));
  }

  -- THE SUPERBLOCKS

  abbrev pub f : IsFencing Fence e.establishes.gone e.start last old.history c new.history
  f = fencing leaving m last answer old new way.epoch were_here e honest c at returned

  promoted : (slot : ℕ) → Fence ≡ Promote slot → IsHere e.start slot
  promoted slot same = absurd (cc)

  in_use : (j : ℕ) → IsTaken (admitted Fence) e.start j → IsAttachedOrBare old.history j
  in_use = own_before leaving m last answer old new way.epoch were_here e

  large : (j : ℕ) → j < e.start.array.geometry.n → aimed Fence j (why_of e.start j) ≡ why.Here → IsAttached old.history j
      → IsLargeEnough e.start.array.geometry (slot_state old.history j).size
  large j below up on =
      let lives = why_before leaving m last answer old new way.epoch were_here e j why.Here up (λ same. cc) in
      let used : IsInUse m old.history j =
      (record { below = subst (λ (x : Configuration). j < x.geometry.n) e.leaves.array below; why = lives }, on) in
      subst (λ (g : Geometry). IsLargeEnough g (slot_state old.history j).size) (way.geometry ∙ sym (ap (λ (x : Configuration). x.geometry) e.leaves.array))
      (way.large j used)

  reached : EachImage (λ image. AllBut e.start.array.geometry.n e.start.array.geometry.m
      (λ j. (admitted Fence ≢ Some j) × HasReached e.start.array.geometry image e.start.array.epoch j)) old.history
  reached =
      subst
      (λ (x : Configuration). EachImage (λ image. AllBut x.geometry.n x.geometry.m (λ j. (admitted Fence ≢ Some j) × HasReached x.geometry image x.epoch j))
      old.history) (sym e.leaves.array)
      (λ image left.
      all_but_mapped {P = λ j. IsHere m j × HasReached m.array.geometry image m.array.epoch j}
      {Q = λ j. (admitted Fence ≢ Some j) × HasReached m.array.geometry image m.array.epoch j} (λ j below has. ((λ never. cc), has.1))
      (way.epoch.reached image left))

  pub prepared : IsPrepared Fence e.start old.history
  prepared = record { promoted = promoted; own = in_use; large = large; reached = reached }

  abbrev pub NewlyOut : ℕ → Type 0
  NewlyOut = IsLeftOut Fence e.establishes.gone e.start last old.history c new.history f prepared going

  -- slots that leave are out besides those that a new epoch has left out
  abbrev pub IsOut : ℕ → Type 0
  IsOut j = NewlyOut j ⊎ HasSlot leaving j

  module _ (image : Image) (left : CrashMayLeave c image) where
    without : IsChanging Fence NewlyOut e.start image
    without = changing Fence e.establishes.gone e.start last old.history c new.history f prepared going image left

    named : (array : Configuration) → IsOneOfThese Fence NewlyOut e.start array → IsOneOfThese Fence IsOut m array
    named array (Earlier before) = Earlier (subst (λ (x : Configuration). array.epoch < x.epoch) e.leaves.array before)
    named array (Present same) = Present (same ∙ e.leaves.array)
    named array (Coming later is) = Coming (subst (λ (x : Configuration). x.epoch < array.epoch) e.leaves.array later) (aimed_from leaving m last answer old new way.epoch were_here e NewlyOut array is)

    leaving_bare : (j : ℕ) → HasSlot leaving j → why_of m j ≡ why.Here → ¬ BearsFor m.array.geometry image j
    leaving_bare j has up for =
        let was = were_bare j has up in
        let none = (bare_on (e.establishes.issued honest).slots (e.establishes.issued honest).editions old.history c j so_far returned was.0 was.1).1 in
        let place : ℕ = for.bears.place in
        let is : (image j).cell place ≡ Damaged =
        settled_left Damaged ((image j).cell place) (subst (λ s. MayLeave s ((image j).cell place)) (none place) ((left j).each place)) in
        none_held_there ((image j).cell place) for.super is for.bears.holds

    bare : (j : ℕ) → IsOut j → why_of m j ≡ why.Here → ¬ BearsFor m.array.geometry image j
    bare j (inr has) up = leaving_bare j has up
    bare j (inl out) up =
        elim (has_or_not leaving j) [
          | inl has ↦ leaving_bare j has up
          | inr stays ↦
              subst (λ (x : Configuration). ¬ BearsFor x.geometry image j) e.leaves.array (without.bare j out (e.leaves.others j stays ∙ up))
        ]

    pub with_leaving : IsChanging Fence IsOut m image
    with_leaving = record {
      orderly = subst (λ (x : Configuration). IsOrderly x.geometry image) e.leaves.array without.orderly;
      names = λ j s bears.
          named s.array (without.names j s (subst (λ (x : Configuration). Bears x.geometry j ((image j).cell) s) (sym e.leaves.array) bears));
      reached =
          subst (λ (x : Configuration). AllBut x.geometry.n x.geometry.m (HasReached x.geometry image x.epoch)) e.leaves.array without.reached;
      bare = bare;
    }

    -- At every moment of it an image represents what goes with the stage.
    pub leaving_stands : (content : Content) (change : Option Change) → IsOfRedo a m content change → (tolerated : IsToleratedAlone m.array.geometry image)
        → IsBeforeOrAfter m.array.geometry content change tolerated.current.array image
    leaving_stands content change of tolerated =
        image_stands a stage redoing start m c way.geometry found
        (history_on {allowed = IsIssuing (e.establishes.issued honest).slots (e.establishes.issued honest).editions} way.epoch.begun.history so_far)
        way.epoch.marks IsOut image left with_leaving content change of tolerated

    pub leaving_keeps : (tolerated : IsToleratedAlone m.array.geometry image) → AreKept m.array.geometry m.array tolerated.current.array
    leaving_keeps tolerated = image_keeps m way.epoch.marks IsOut image with_leaving tolerated
