-- A redo of an open array that serves on, of a change or of none, whether media come back or not: what a crash leaves in the midst of it, and
-- how it ends.
use Rattle.std.proofs.Common.{◌≡◌, ℕ, List, sym, ◌∙◌, subst, None, Some, Option}
use Rattle.std.specs.Prelude.{IsTrue}
use Rattle.stair_model.specs.CellSet.{HasCell}
use Rattle.stair_model.specs.Geometry.{Geometry}
use Rattle.stair_model.specs.Stripe.{Stripe, cell}
use Rattle.stair_rack.specs.Crash.{CrashMayLeave}
use Rattle.stair_rack.specs.History.{Happening}
use Rattle.stair_rack.specs.Media.{Image}
use Rattle.stair_rack.specs.Moments.{IsMoment}
use Rattle.stair_journal.specs.declared.redo.Redo.{Redo}
use Rattle.stair_member.specs.Membership.{Membership}
use Rattle.stair_member.specs.declared.fault.FenceFault.{FenceFault}
use Rattle.stair_member.specs.declared.fault.FenceFault.TheVariants as fence
use Rattle.stair_member.specs.declared.why.Why.{Why}
use Rattle.stair_state.specs.Blocks.{Codewords}
use Rattle.stair_state.specs.Redoing.{AtRest, IsRedoing, Redoing}
use Rattle.stair_state.specs.State.{Change, Content, changed_if}
use Rattle.stair_invariant.specs.Effects.{Snapshot, Redoes}
use Rattle.stair_invariant.specs.Leading.{led_to}
use Rattle.stair_invariant.specs.Opening.{StaysArray}
use Rattle.stair_invariant.specs.Rebuilding.{Rebuild}
use Rattle.stair_invariant.specs.Returning.{Returning}
use Rattle.stair_invariant.specs.Session.{ArrayState, IsArray}
use Rattle.stair_invariant.specs.UnderWay.{IsOfRedo}
use Rattle.stair_invariant.proofs.Serving.{StaysWithinToleranceTo, IsGoing, IsServing, LeadsRedos, LeadsTo, StandsAs, StandsIn}
use Rattle.stair_invariant.proofs.StaysArrayLemmas.{redo_stays, stays_again}
use Rattle.stair_array.proofs.LoadingLemmas.{ServesOn, serves_twice, stands_in_over, stands_over}
use Rattle.stair_array.proofs.OpenStepLemmas.{calm_over, going_over}
use Rattle.stair_array.proofs.ReadPartLemmas.{array_with}

module _ (returning : Returning) (before : List Happening) (rebuild : Option Rebuild) (stopped_by : Option FenceFault) (words new : Codewords)
    (kept : Content) (change : Option Change) (redo : Redo) (stripe : Stripe) where
  -- from the stripes that the array serves to the new ones
  abbrev pub redoing_at : Geometry → Redoing
  redoing_at g = record { geometry = g; redo = redo; old = words; new = new }

  -- The array serves on, after what was read for the redo, which leads to the stripes of the content with the change made.
  pub record Begins (x y : Snapshot) : Type 0 where
    pub array : IsArray (array_with rebuild stopped_by x)
    pub serves : ServesOn returning before rebuild stopped_by words kept x y
    pub stays : StaysArray x.member y.member
    pub redoing : IsRedoing (redoing_at x.member.array.geometry)
    pub cells : (i c : ℕ) → HasCell redo.cells i c → cell stripe i c ≡ cell (new redo.stripe) i c
    pub becomes : IsOfRedo (redoing_at x.member.array.geometry) x.member kept change

  -- what later members say of the content is the same
  pub of_redo : (x y : Snapshot) → Begins x y → (m : Membership) → StaysArray x.member m → IsOfRedo (redoing_at x.member.array.geometry) m kept change
  of_redo x y is m stays = record {
    old_are = is.becomes.old_are;
    new_are = is.becomes.new_are;
    frozen = stays.frozen ∙ is.becomes.frozen;
    label = stays.label ∙ is.becomes.label;
    frozen_new = is.becomes.frozen_new;
    label_new = is.becomes.label_new;
  }

  module _ (redos : LeadsRedos returning) (x y : Snapshot) (is : Begins x y) where
    abbrev a : ArrayState
    a = led_to (array_with rebuild stopped_by x) y.member

    leads : LeadsTo a words new kept change redo stripe
    leads = record {
      redoing = subst (λ (g : Geometry). IsRedoing (redoing_at g)) (sym is.stays.geometry) is.redoing;
      cells = is.cells;
      becomes =
          subst (λ (g : Geometry). IsOfRedo (redoing_at g) y.member kept change) (sym is.stays.geometry)
          (of_redo x y is y.member is.stays);
    }

    run_on : (refusal : Option FenceFault) (z : Snapshot) → Redoes x.member.array.geometry redo stripe AtRest refusal y z
        → Redoes y.member.array.geometry redo stripe AtRest refusal y z
    run_on refusal z run = subst (λ (g : Geometry). Redoes g redo stripe AtRest refusal y z) (sym is.stays.geometry) run

    calm_on : (h : List Happening) → StaysWithinToleranceTo returning x.member.array.geometry before h → StaysWithinToleranceTo returning y.member.array.geometry before h
    calm_on h calm = calm_over returning y.member.array.geometry x.member.array.geometry before h is.stays.geometry calm

    -- done
    pub done : (z : Snapshot) → Redoes x.member.array.geometry redo stripe AtRest None y z → IsTrue z.told.honest
        → IsGoing returning x.member.array.geometry before z.told.history
        → IsServing returning before (led_to (array_with rebuild stopped_by x) z.member) new (changed_if change kept) z.told.history
        × StaysArray x.member z.member
    done z run honest on =
        let then : StaysArray y.member z.member = redo_stays x.member.array.geometry redo stripe AtRest None y z run is.stays.rules in
        let serves =
        redos.done before a words new kept change redo stripe y.told z is.serves leads (run_on None z run) honest
        (going_over returning y.member.array.geometry x.member.array.geometry before z.told.history is.stays.geometry on) in (
          serves_twice returning before (array_with rebuild stopped_by x) y.member z.member new (changed_if change kept) z.told.history is.array
              is.stays is.serves.is_open.array then serves,
          stays_again x.member y.member z.member is.stays then,
        )

    -- what a crash leaves at a moment of it has the change in doubt
    pub redo_stands : (refusal : Option FenceFault) (z : Snapshot) → Redoes x.member.array.geometry redo stripe AtRest refusal y z
        → IsTrue z.told.honest → (c : List Happening) → IsMoment y.told.history c z.told.history
        → StaysWithinToleranceTo returning x.member.array.geometry before c → (image : Image) → CrashMayLeave c image
        → StandsIn returning x.member kept change image
    redo_stands refusal z run honest c at calm image left =
        stands_in_over returning x.member y.member kept change image is.stays
        (redos.moments before a words new kept change redo stripe refusal y.told z is.serves leads (run_on refusal z run) honest c at
        (calm_on c calm) image
        left)

    -- refused
    pub stops : (fault : FenceFault) (z : Snapshot) → Redoes x.member.array.geometry redo stripe AtRest (Some fault) y z → IsTrue z.told.honest
        → StaysWithinToleranceTo returning x.member.array.geometry before z.told.history → StandsAs returning x.member kept change z.told.history
    stops fault z run honest calm =
        stands_over returning x.member y.member kept change z.told.history is.stays
        (redos.refused before a words new kept change redo stripe fault y.told z is.serves leads (run_on (Some fault) z run) honest
        (calm_on z.told.history calm))

    -- not for want of slots
    pub enough : (whys : List Why) (refusal : Option FenceFault) (z : Snapshot) → Redoes x.member.array.geometry redo stripe AtRest refusal y z
        → refusal ≡ Some (fence.TooFew whys) → IsTrue z.told.honest → StaysWithinToleranceTo returning x.member.array.geometry before z.told.history → ⊥
    enough whys refusal z run few honest calm =
        redos.enough before a words new kept change redo stripe whys y.told z is.serves leads
        (subst (λ (r : Option FenceFault). Redoes y.member.array.geometry redo stripe AtRest r y z) few (run_on refusal z run)) honest
        (calm_on z.told.history calm)
