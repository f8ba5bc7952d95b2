-- A fence that was refused where more slots were cut off than is tolerated: while a live slot serves with a whole journal, and no other array
-- stands, the rack represents the array in the stage of its redo.
use Rattle.std.proofs.Common.{◌≡◌, ℕ, ◌≤◌, List, inl, inr, sym, ap, subst, arith, None, Option, false}
use Rattle.std.specs.Prelude.{◌⊎◌, IsTrue, Result}
use Rattle.stair_model.specs.Geometry.{Geometry, IsWithinLimits}
use Rattle.stair_model.specs.Slots.{HasSlot, Slots}
use Rattle.stair_rack.specs.Answers.{IsHistory, Ran}
use Rattle.stair_rack.specs.Crash.{CrashMayLeave, image_now}
use Rattle.stair_rack.specs.History.{Happening, slot_state, stopped}
use Rattle.stair_rack.specs.Media.{Image}
use Rattle.stair_rack.specs.Moments.{IsMoment}
use Rattle.stair_rack.specs.Offline.{IsAttached}
use Rattle.stair_rack.specs.Sector.{damaged}
use Rattle.stair_rack.specs.Stretch.{NothingReturned}
use Rattle.stair_rack.specs.RackState.{RackState}
use Rattle.stair_rack.proofs.CrashLemmas.{CrashMayLeave-now}
use Rattle.stair_rack.proofs.MomentLemmas.{moment_last}
use Rattle.stair_rack.proofs.TidyLemmas.{history_on}
use Rattle.stair_super.specs.Superblock.{Superblock}
use Rattle.stair_super.specs.declared.configuration.Configuration.{Configuration}
use Rattle.stair_member.specs.Counting.{AtMost}
use Rattle.stair_member.specs.Current.{IsCurrent, IsFailed, IsLive}
use Rattle.stair_member.specs.Epochs.{IsIssuing}
use Rattle.stair_member.specs.Establishing.{Fences}
use Rattle.stair_member.specs.Membership.{IsHere, Membership, why_of}
use Rattle.stair_member.specs.Reserve.{HasReached}
use Rattle.stair_member.specs.declared.aim.EpochChange.TheVariants.{Fence}
use Rattle.stair_member.specs.declared.fault.FenceFault.{FenceFault}
use Rattle.stair_member.specs.declared.why.Why.TheVariants as why
use Rattle.stair_member.proofs.OrderLemmas.{each_reached}
use Rattle.stair_member.proofs.SuperLemmas.{counts_bears, one_current}
use Rattle.stair_state.specs.Degraded.{IsDegraded}
use Rattle.stair_state.specs.Forms.{HasGate}
use Rattle.stair_state.specs.Redoing.{AtRest, IsRedoing, Redoing, Stage, new_in, old_in}
use Rattle.stair_state.specs.Represents.{Encodings, ImageRepresents, IsImageOf, Left, Lesser, Represents, Shrinks}
use Rattle.stair_state.specs.State.{Change, Content, State}
use Rattle.stair_state.proofs.AgreeLemmas.{current_upto}
use Rattle.stair_state.proofs.AloneLemmas.{image_without_seats}
use Rattle.stair_state.proofs.ToleranceLemmas.{journal_gate}
use Rattle.stair_invariant.specs.Changing.{Coming, Earlier, IsChanging, IsOneOfThese, IsSettled, Present}
use Rattle.stair_invariant.specs.CutOff.{IsStillThere}
use Rattle.stair_invariant.specs.InSession.{state_with}
use Rattle.stair_invariant.specs.Session.{HasOwn, IsLiveIn}
use Rattle.stair_invariant.specs.UnderWay.{AreKept, IsOfRedo, IsUnderWay, content_in, doubt_in}
use Rattle.stair_invariant.proofs.ChangingLemmas.{AsBefore, IsNow, New, changing_less, current_now, live_more}
use Rattle.stair_invariant.proofs.LeavingOutImages.{IsOut, f, found, with_leaving}
use Rattle.stair_invariant.proofs.MidwayLemmas.{AreInStage, IsOfStage, doing, image_midway, image_now_midway, in_stage_less}
use Rattle.stair_invariant.proofs.OwnLaws.{own_reached}
use Rattle.stair_invariant.proofs.SteadyEndLemmas.{fence_steady}
use Rattle.stair_invariant.proofs.UnderWayImages.{in_stage, now_keeps, of_stage}

module _ (a : Redoing) (stage : Stage) (redoing : (stage ≡ AtRest) ⊎ IsRedoing a) (limits : IsWithinLimits a.geometry) (start : List Happening)
    (leaving : Slots) (m last : Membership) (answer : Result Slots FenceFault) (old new : RackState) (way : IsUnderWay a stage start m old.history)
    (were_here : (j : ℕ) → HasSlot leaving j → IsHere m j)
    (were_bare : (j : ℕ) → HasSlot leaving j → why_of m j ≡ why.Here
    → ((slot_state old.history j).attached ≡ false) × ((k : ℕ) → (slot_state old.history j).sector k ≡ damaged))
    (e : Fences leaving m last answer old new) (honest : IsTrue new.honest) (returned : NothingReturned old.history new.history)
    (going : ¬ IsTrue (stopped new.history)) (own : (j : ℕ) → IsLiveIn m j → IsAttached old.history j → HasOwn m old.history j)
    (offline : ℕ → Type 0)
    (still : (image : Image) → CrashMayLeave new.history image → IsStillThere offline m.array.geometry (λ j. IsLiveIn m j × IsAttached old.history j) image)
  where
    ran : Ran (IsIssuing (e.establishes.issued honest).slots (e.establishes.issued honest).editions) old.history new.history
    ran = (e.establishes.issued honest).ran

    end : IsMoment old.history new.history new.history
    end = moment_last ran.more ran.is

    history : IsHistory new.history
    history = history_on {allowed = IsIssuing (e.establishes.issued honest).slots (e.establishes.issued honest).editions} way.epoch.begun.history ran

    abbrev Out : ℕ → Type 0
    Out = IsOut a stage redoing limits start leaving m last answer old new way were_here were_bare e honest new.history end returned going

    module _ (image : Image) (left : CrashMayLeave new.history image) where
      changing : IsChanging Fence Out m image
      changing =
          with_leaving a stage redoing limits start leaving m last answer old new way were_here were_bare e honest new.history end returned going image left

      -- a slot that has its own superblock has reached the member's epoch still
      reached : (j : ℕ) → IsLiveIn m j → IsAttached old.history j → HasReached m.array.geometry image m.array.epoch j
      reached j live on =
          subst (λ (g : Geometry). HasReached g image m.array.epoch j) (ap (λ (c : Configuration). c.geometry) e.leaves.array)
          (each_reached Fence e.establishes.gone e.start last old.history new.history new.history image j m.array.epoch
          (f a stage redoing limits start leaving m last answer old new way were_here were_bare e honest new.history end returned going) left
          (subst (λ (c : Configuration). m.array.epoch ≤ c.epoch) (sym e.leaves.array) (omega arith)) (λ never. cc)
          (subst (λ (g : Geometry). HasReached g (image_now old.history) m.array.epoch j) (sym (ap (λ (c : Configuration). c.geometry) e.leaves.array))
          (own_reached m old.history (image_now old.history) j way.epoch.begun.member (record { below = live.below; why = inl live.why }) (own j live on)
          (CrashMayLeave-now old.history))))

      -- so that what is current names it, or a new one
      now : (current : Superblock) → IsCurrent m.array.geometry image current → IsNow Fence Out m current.array
      now current is_current = by (changing.names current.slot current (counts_bears m.array.geometry image current.slot current is_current.counts))
        where
          is : IsStillThere offline m.array.geometry (λ j. IsLiveIn m j × IsAttached old.history j) image
          is = still image left

          least : m.array.epoch ≤ current.array.epoch
          least =
              let serves = is.journal.serves in
              let s : Superblock = serves.live.super in
              let first : m.array.epoch ≤ s.array.epoch =
              reached is.journal_slot is.among.0 is.among.1 s serves.live.counts (serves.places 0 (omega arith)) (serves.places 1 (omega arith)) in
              let second : s.array.epoch ≤ current.array.epoch =
              current_upto m.array.geometry image current is.journal_slot s is_current serves.live.counts in
              omega (arith, first, second)

          by : IsOneOfThese Fence Out m current.array → IsNow Fence Out m current.array
          by (Earlier less) = absurd (omega (arith, least, less))
          by (Present same) = AsBefore same
          by (Coming above aimed) = New above aimed

      there : AreInStage Fence m (doing m a.redo a.old a.new) stage image
      there =
          in_stage a stage redoing start m new.history way.geometry
          (found a stage redoing limits start leaving m last answer old new way were_here were_bare e honest new.history end returned going) history
          way.epoch.marks Out image left changing

      -- each slot has the mark and the joined number that it had, or is Down
      pub keeps : (current : Superblock) → IsCurrent m.array.geometry image current → AreKept m.array.geometry m.array current.array
      keeps current is_current = now_keeps m way.epoch.marks Out current.array (now current is_current)

    -- LESS OF IT

    settled : IsSettled Fence m
    settled = record { marks = way.epoch.marks; joining = λ j here. (λ same. cc) }

    changing_of : (image : Image) → IsImageOf m.array.geometry new.history image → IsChanging Fence Out m image
    changing_of image (Left left) = changing image left
    changing_of image (Lesser more left degraded also) = changing_less Fence Out m more image degraded (changing more left)

    now_of : (image : Image) → IsImageOf m.array.geometry new.history image → (current : Superblock) → IsCurrent m.array.geometry image current
        → IsNow Fence Out m current.array
    now_of image (Left left) current is_current = now image left current is_current
    now_of image (Lesser more left degraded also) current is_current =
        current_now Fence Out m {offline = λ i. (image i).size ≡ None} image current (changing_less Fence Out m more image degraded (changing more left))
        is_current
        (subst (λ (c : Superblock). AtMost m.array.geometry.m (IsFailed (λ i. (image i).size ≡ None) m.array.geometry image c))
        (one_current m.array.geometry image also.current current also.is_current is_current) also.few)

    shrink : (more less : Image) → IsImageOf m.array.geometry new.history more → IsImageOf m.array.geometry new.history less → IsDegraded more less
        → Shrinks m.array.geometry more less
    shrink more less of also degraded before after j is_before is_after live =
        live_more Fence Out m settled more less before after (changing_of more of) degraded is_before is_after (now_of more of before is_before)
        (now_of less also after is_after) j live

    -- WHAT THE RACK REPRESENTS

    module _ (content : Content) (change : Option Change) (of : IsOfRedo a m content change) where
      -- the state in this stage, without a word on marks
      abbrev pub staged : State
      staged = record {
        geometry = m.array.geometry;
        content = content_in stage content change;
        in_doubt = doubt_in stage change;
        seats = None;
      }

      abbrev seated : Configuration → State
      seated array = state_with m (content_in stage content change) (doubt_in stage change) array

      abbrev over : Geometry → Redoing
      over g = record { geometry = g; redo = a.redo; old = a.old; new = a.new }

      redoing_here : (stage ≡ AtRest) ⊎ IsRedoing (doing m a.redo a.old a.new)
      redoing_here = elim redoing [ inl rest ↦ inl rest | inr is ↦ inr (subst (λ (g : Geometry). IsRedoing (over g)) way.geometry is) ]

      -- of the stage
      of_here : (image : Image) (left : CrashMayLeave new.history image)
          → IsOfStage Fence m (doing m a.redo a.old a.new) stage (content_in stage content change) (doubt_in stage change)
      of_here image left =
          of_stage a stage redoing start m new.history way.geometry
          (found a stage redoing limits start leaving m last answer old new way were_here were_bare e honest new.history end returned going) history
          way.epoch.marks Out image left (changing image left) content change of

      first_image : CrashMayLeave new.history (image_now new.history)
      first_image = CrashMayLeave-now new.history

      abbrev of_first : IsOfStage Fence m (doing m a.redo a.old a.new) stage (content_in stage content change) (doubt_in stage change)
      of_first = of_here (image_now new.history) first_image

      abbrev encodings : Encodings staged
      encodings = record {
        old = old_in (doing m a.redo a.old a.new) stage;
        new = new_in (doing m a.redo a.old a.new) stage;
        old_are = of_first.old_are;
        new_are = of_first.new_are;
      }

      abbrev encodings_of : (array : Configuration) → Encodings (seated array)
      encodings_of array = record { old = encodings.old; new = encodings.new; old_are = encodings.old_are; new_are = encodings.new_are }

      each : (image : Image) → IsImageOf m.array.geometry new.history image → ImageRepresents staged encodings image
      each image (Left left) =
          let is = still image left in
          let gate : HasGate (IsLive m.array.geometry image is.current) image = record {
            slot = is.journal_slot;
            among = is.journal.serves.live;
            kept = journal_gate offline m.array.geometry image is.current is.journal_slot is.journal;
          } in
          image_without_seats (seated is.current.array) (encodings_of is.current.array) image
          (image_now_midway Fence Out m settled a.redo a.old a.new stage (content_in stage content change) (doubt_in stage change)
          redoing_here of_first is.current image is.current is.is_current (now image left is.current is.is_current) (there image left) is.identity
          (λ is_placing. gate))
      each image (Lesser more left degraded also) =
          image_without_seats (seated also.current.array) (encodings_of also.current.array) image
          (image_midway Fence Out m settled a.redo a.old a.new stage (content_in stage content change) (doubt_in stage change) redoing_here
          of_first also.current image (changing_less Fence Out m more image degraded (changing more left)) also
          (in_stage_less Fence m (doing m a.redo a.old a.new) stage more image degraded (there more left)))

      -- in the stage that it was in
      pub represents_still : Represents staged new.history
      represents_still = record {
        encodings = encodings;
        each = each;
        orderly = λ image left. (changing image left).orderly;
        shrinks = shrink;
        seats = tt;
        steady =
            fence_steady leaving m last answer old new e way.epoch.begun (λ j has. (were_here j has).below) honest returned going;
      }
