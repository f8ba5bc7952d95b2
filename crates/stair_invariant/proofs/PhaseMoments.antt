-- At each moment of a phase of a redo, and of the epoch without the slots that were gone to it, whatever a crash leaves represents
-- the array before the redo or after it.
use Rattle.std.proofs.Common.{◌⊎◌, ◌≡◌, ℕ, ◌<◌, List, inl, inr, refl, sym, ap, ◌∙◌, subst, arith, Option, None, Some, true, false}
use Rattle.std.specs.Prelude.{IsTrue, Ok, Err}
use Rattle.std.proofs.lemmas.Bool.{false≢true}
use Rattle.stair_model.specs.Geometry.{Geometry, IsWithinLimits, sectors_needed}
use Rattle.stair_model.specs.Slots.{Slots, HasSlot}
use Rattle.stair_rack.specs.Answers.{Ran, any_call}
use Rattle.stair_rack.specs.Crash.{CrashMayLeave}
use Rattle.stair_rack.specs.History.{Happening, slot_state, stopped}
use Rattle.stair_rack.specs.Media.{Image}
use Rattle.stair_rack.specs.Moments.{AtEveryMoment, IsMoment}
use Rattle.stair_rack.specs.Offline.{IsHeld, IsOfflineUntilAttached}
use Rattle.stair_rack.specs.Placed.{Placed, Writes}
use Rattle.stair_rack.specs.RackState.{RackState}
use Rattle.stair_rack.specs.Sector.{damaged}
use Rattle.stair_rack.specs.Stretch.{NothingReturned}
use Rattle.stair_rack.proofs.KeepingLemmas.{phase_ran}
use Rattle.stair_rack.proofs.MomentLemmas.{at_every_from, at_every_join, at_every_none, moment_between, moment_last, ran_any, ran_before}
use Rattle.stair_rack.proofs.OfflineLemmas.{stopped_on}
use Rattle.stair_rack.proofs.StretchLemmas.{each_after, each_before}
use Rattle.stair_super.specs.Superblock.{joined_in, mark_in}
use Rattle.stair_super.specs.declared.configuration.Configuration.{Configuration}
use Rattle.stair_super.specs.declared.mark.Mark.TheVariants as mark
use Rattle.stair_member.specs.Membership.{IsHere, Membership, why_of}
use Rattle.stair_member.specs.declared.fault.FenceFault.{FenceFault}
use Rattle.stair_member.specs.declared.why.Why.TheVariants as why
use Rattle.stair_invariant.specs.InSession.{IsBesideEpochs}
use Rattle.stair_state.specs.Redoing.{IsRedoing, Redoing, Stage, AtRest}
use Rattle.stair_state.specs.State.{Change, Content}
use Rattle.stair_state.specs.Tolerance.{IsToleratedAlone}
use Rattle.stair_state.proofs.RedoPhaseLemmas.{large_some}
use Rattle.stair_invariant.specs.Effects.{Fenced, FencesGone, NoneWas, Snapshot, snapshot}
use Rattle.stair_invariant.specs.UnderWay.{AreKept, IsBeforeOrAfter, IsInUse, IsOfRedo, IsUnderWay}
use Rattle.stair_invariant.proofs.LeavingOutImages.{leaving_keeps, leaving_stands}
use Rattle.stair_invariant.proofs.LeavingOutLemmas.{aimed_from}
use Rattle.stair_invariant.proofs.RedoingLemmas.{out_ran}
use Rattle.stair_invariant.proofs.UnderWayImages.{kept_aimed, way_keeps, way_stands}
use Rattle.stair_invariant.proofs.UnderWayLemmas.{beside_used}

-- slots may be dropped twice
kept_again : (g : Geometry) (a b c : Configuration) → AreKept g a b → AreKept g b c → AreKept g a c
kept_again g a b c first second j below = by (first j below) (second j below)
  where
    by : ((mark_in b j ≡ mark_in a j) × (joined_in b j ≡ joined_in a j)) ⊎ (mark_in b j ≡ mark.Down)
        → ((mark_in c j ≡ mark_in b j) × (joined_in c j ≡ joined_in b j)) ⊎ (mark_in c j ≡ mark.Down)
        → ((mark_in c j ≡ mark_in a j) × (joined_in c j ≡ joined_in a j)) ⊎ (mark_in c j ≡ mark.Down)
    by was (inr down) = inr down
    by (inl same) (inl again) = inl (again.0 ∙ same.0, again.1 ∙ same.1)
    by (inr down) (inl again) = inr (again.0 ∙ down)

-- In these stages nothing is asked of a redo, or it is one.
abbrev pub MayBeIn : Redoing → Stage → Type 0
MayBeIn a stage = (stage ≡ AtRest) ⊎ IsRedoing a

module _ (a : Redoing) (limits : IsWithinLimits a.geometry) (start : List Happening) (content : Content) (change : Option Change)
    (first : Configuration) where
  -- what an image within tolerance is: it represents the array before or after the redo, and its current superblock has the marks
  -- of the first epoch, but for slots that are Down
  abbrev pub IsGood : Geometry → Image → Type 0
  IsGood g image = (tolerated : IsToleratedAlone g image)
      → IsBeforeOrAfter g content change tolerated.current.array image × AreKept g first tolerated.current.array

  abbrev pub Stands : List Happening → List Happening → Type 0
  Stands from h = NothingReturned from h → ¬ IsTrue (stopped h) → (image : Image) → CrashMayLeave h image → IsGood a.geometry image

  -- what the member says of the content, and of the first epoch's marks
  pub record Says (m : Membership) : Type 0 where
    pub of : IsOfRedo a m content change
    pub kept : AreKept m.array.geometry first m.array

  pub by_way : (stage : Stage) → MayBeIn a stage → (m : Membership) (h : List Happening) → IsUnderWay a stage start m h → Says m
      → ¬ IsTrue (stopped h) → (image : Image) → CrashMayLeave h image → IsGood a.geometry image
  by_way stage may m h way says going image left =
      subst (λ (g : Geometry). IsGood g image) (sym way.geometry)
      (λ tolerated. (
        way_stands a stage may start m h way image left content change says.of tolerated,
        kept_again m.array.geometry first m.array tolerated.current.array says.kept (way_keeps a stage start m h way image left tolerated),
      ))

  -- that is the same after an epoch without some slots
  pub of_left : (gone : Slots) (stage : Stage) (x y : Snapshot) → IsUnderWay a stage start x.member x.told.history
      → ((j : ℕ) → HasSlot gone j → IsHere x.member j) → FencesGone gone None x y → Says x.member → Says y.member
  of_left gone stage x y way here (NoneWas none same fine) says = subst (λ (p : Snapshot). Says p.member) (sym same) says
  of_left gone stage x y way here (Fenced j has (Err fault) fine e) says = absurd (cc)
  of_left gone stage x y way here (Fenced j has (Ok fallen) fine e) says =
      let named = (e.establishes.done refl).aimed_at in
      let geometry : y.member.array.geometry ≡ x.member.array.geometry = named.geometry ∙ ap (λ (c : Configuration). c.geometry) e.leaves.array in
      record {
        of = record {
          old_are = says.of.old_are;
          new_are = says.of.new_are;
          frozen = named.frozen ∙ ap (λ (c : Configuration). c.frozen) e.leaves.array ∙ says.of.frozen;
          label = named.label ∙ ap (λ (c : Configuration). c.label) e.leaves.array ∙ says.of.label;
          frozen_new = says.of.frozen_new;
          label_new = says.of.label_new;
        };
        kept =
            subst (λ (g : Geometry). AreKept g first y.member.array) (sym geometry)
            (kept_again x.member.array.geometry first x.member.array y.member.array says.kept
            (kept_aimed x.member way.epoch.marks (λ i. HasSlot e.establishes.gone i ⊎ HasSlot gone i) y.member.array
            (aimed_from gone x.member y.member (Ok fallen) x.told y.told way.epoch here e (HasSlot e.establishes.gone) y.member.array named)));
      }

  -- CALLS that lead from a stage to one, and what is left out after them

  module _ (stage then : Stage) (may : MayBeIn a stage) (may_then : MayBeIn a then) (gone : Slots) (refusal : Option FenceFault) (x y : Snapshot)
      (mid : RackState) (first_ran : Ran any_call x.told.history mid.history) (here : (j : ℕ) → HasSlot gone j → IsHere x.member j)
      (leaves : FencesGone gone refusal (snapshot x.member mid) y) (honest : IsTrue y.told.honest)
      (meanwhile : (c : List Happening) → IsMoment x.told.history c mid.history → NothingReturned x.told.history c → IsUnderWay a stage start x.member c)
      (after : NothingReturned x.told.history mid.history → ¬ IsTrue (stopped mid.history) → IsUnderWay a then start x.member mid.history)
      -- a live slot that was gone to them bears nothing
      (were_bare : NothingReturned x.told.history mid.history → ¬ IsTrue (stopped mid.history) → (j : ℕ) → HasSlot gone j
      → why_of x.member j ≡ why.Here → ((slot_state mid.history j).attached ≡ false) × ((k : ℕ) → (slot_state mid.history j).sector k ≡ damaged))
      (says : Says x.member) where
    second : Ran any_call mid.history y.told.history
    second = out_ran gone refusal (snapshot x.member mid) y leaves honest

    last : IsMoment x.told.history mid.history mid.history
    last = moment_last first_ran.more first_ran.is

    out_moments : FencesGone gone refusal (snapshot x.member mid) y → AtEveryMoment (Stands x.told.history) mid.history y.told.history
    out_moments (NoneWas none same fine) =
        subst (λ (p : Snapshot). AtEveryMoment (Stands x.told.history) mid.history p.told.history) (sym same)
        (at_every_none {P = Stands x.told.history} mid.history
        (λ none. by_way stage may x.member mid.history (meanwhile mid.history last none) says))
    out_moments (Fenced j has answer fine e) =
        at_every_from {P = Stands x.told.history} second.more second.is
        (λ c at none going image left.
        let at_end = moment_between {a = any_call} {b = any_call} first_ran (ran_before {allowed = any_call} second at) in
        let none_first = each_before none at_end in
        let mid_going : ¬ IsTrue (stopped mid.history) =
        λ stops. going (stopped_on {allowed = any_call} (ran_before {allowed = any_call} second at) stops) in
        let now = after none_first mid_going in
        subst (λ (g : Geometry). IsGood g image) (sym now.geometry)
        (λ tolerated. (
          leaving_stands a then may_then limits start gone x.member y.member answer mid y.told now here (were_bare none_first mid_going) e honest
              c at (each_after none at_end) going image left content change says.of tolerated,
          kept_again x.member.array.geometry first x.member.array tolerated.current.array says.kept
              (leaving_keeps a then may_then limits start gone x.member y.member answer mid y.told now here (were_bare none_first mid_going) e honest
              c at (each_after none at_end) going image left tolerated),
        )))

    pub led_moments : AtEveryMoment (Stands x.told.history) x.told.history y.told.history
    led_moments =
        at_every_join {P = Stands x.told.history}
        (at_every_from {P = Stands x.told.history} first_ran.more first_ran.is
        (λ c at none. by_way stage may x.member c (meanwhile c at none) says)) (out_moments leaves)

  -- A PHASE, from a stage to one, and what is left out after it

  module _ (stage then : Stage) (may : MayBeIn a stage) (may_then : MayBeIn a then) (what : Writes) (to gone : Slots) (refusal : Option FenceFault)
      (x y : Snapshot) (mid : RackState) (placed : Placed what (HasSlot to) (HasSlot gone) x.told.history mid.history)
      (in_range : (j k : ℕ) (bytes : List ℕ) → what j k ≡ Some bytes → k < sectors_needed a.geometry)
      (here : (j : ℕ) → HasSlot gone j → IsHere x.member j) (leaves : FencesGone gone refusal (snapshot x.member mid) y) (honest : IsTrue y.told.honest)
      (way : IsUnderWay a stage start x.member x.told.history) (besides : Ran (IsBesideEpochs x.member) x.told.history mid.history)
      (meanwhile : (c : List Happening) → IsMoment x.told.history c mid.history → NothingReturned x.told.history c → IsUnderWay a stage start x.member c)
      (after : NothingReturned x.told.history mid.history → ¬ IsTrue (stopped mid.history) → IsUnderWay a then start x.member mid.history)
      (says : Says x.member) where
    in_phase : Ran any_call x.told.history mid.history
    in_phase = ran_any (phase_ran placed)

    -- a live slot that was gone to the phase bears nothing
    were_bare : NothingReturned x.told.history mid.history → ¬ IsTrue (stopped mid.history) → (j : ℕ) → HasSlot gone j
        → why_of x.member j ≡ why.Here → ((slot_state mid.history j).attached ≡ false) × ((k : ℕ) → (slot_state mid.history j).sector k ≡ damaged)
    were_bare none going j has up =
        elim ((after none going).epoch.own j (here j has)) [
          | inr off ↦ off
          | inl on ↦ absurd (never (here j has).below on.0)
        ]
      where
        never : j < x.member.array.geometry.n → (slot_state mid.history j).attached ≡ true → ⊥
        never below on =
            by
            (placed.shut x.told.history j has
            (IsHeld.InUse used.1 (large_some a.geometry (slot_state x.told.history j).size (way.large j used)) (omega arith))
            (λ attached k bytes is. way.large j used k (in_range j k bytes is)))
          where
            used : IsInUse x.member x.told.history j
            used =
                beside_used a stage start x.member x.told.history mid.history way besides none j (record { below = below; why = up }, on)

            by : IsOfflineUntilAttached x.told.history mid.history j → ⊥
            by (IsOfflineUntilAttached.RackStopped is) = going is
            by (IsOfflineUntilAttached.Unattached off pulled) = false≢true (sym off ∙ on)

    pub phase_moments : AtEveryMoment (Stands x.told.history) x.told.history y.told.history
    phase_moments = led_moments stage then may may_then gone refusal x y mid in_phase here leaves honest meanwhile after were_bare says
