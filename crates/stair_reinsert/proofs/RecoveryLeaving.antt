-- In a recovery slots that were gone are left out: at each moment of that the rack represents the state, and the recovery goes on.
use Rattle.std.proofs.Common.{IsTrue, List, None, Option, Result, refl, subst, sym, ◌<◌, ◌∙◌, ◌∷◌, ◌≡◌, ℕ, []}
use Rattle.stair_model.specs.Geometry.{Geometry}
use Rattle.stair_model.specs.Slots.{HasSlot, Slots}
use Rattle.stair_rack.specs.Crash.{CrashMayLeave}
use Rattle.stair_rack.specs.History.{Happening, Made, stopped}
use Rattle.stair_rack.specs.Media.{Image}
use Rattle.stair_rack.specs.Moments.{IsMoment}
use Rattle.stair_rack.specs.RackState.{RackState}
use Rattle.stair_member.specs.Epochs.{Issued}
use Rattle.stair_member.specs.Establishing.{Establishes, Fences, refusal_of}
use Rattle.stair_member.specs.Membership.{Membership}
use Rattle.stair_member.specs.declared.aim.EpochChange.TheVariants.{Fence}
use Rattle.stair_member.specs.declared.fault.FenceFault.{FenceFault}
use Rattle.stair_state.specs.Holding.{IsConsistentUnderReassembly}
use Rattle.stair_state.specs.State.{Change, Content, State}
use Rattle.stair_state.specs.Tolerance.{IsTolerated}
use Rattle.stair_invariant.specs.Effects.{Fenced, FencesGone, NoneWas, Snapshot, snapshot}
use Rattle.stair_invariant.specs.Opening.{opened_with}
use Rattle.stair_invariant.specs.Returning.{current_media_of}
use Rattle.stair_invariant.proofs.FencesLemmas.{amid_fenced, establishes}
use Rattle.stair_invariant.proofs.LeftOutLemmas.{start_geometry}
use Rattle.stair_reinsert.specs.Beginning.{BeginsWherever, StandsWherever}
use Rattle.stair_reinsert.proofs.EpochLaws.{established}
use Rattle.stair_reinsert.proofs.LeavingBegins.{leaves_begins}
use Rattle.stair_reinsert.proofs.LeavingOut.{ended, throughout}
use Rattle.stair_reinsert.proofs.RecoveryFence.{AreSynced, IsUntouched, fence_ended, fence_left, stands_untouched, untouched_begins, untouched_left, untouched_stands, unseated, synced}

module _ (before : List Happening) (kept : Content) (change : Option Change) (leaving : Slots) (m last : Membership) (answer : Result Slots FenceFault)
    (old new : RackState) (is : IsUntouched before kept change m old.history) (does : Fences leaving m last answer old new) (honest : IsTrue new.honest)
    (below : (j : ℕ) → HasSlot leaving j → j < m.array.geometry.n) (tolerated : IsTolerated m.array.geometry before old.history) where
  abbrev s : State
  s = unseated m.array.geometry kept change

  abbrev issued : Issued Fence does.establishes.gone does.start last old.history new.history
  issued = does.establishes.issued honest

  pub leaving_begins : BeginsWherever (unseated m.array.geometry kept change) (current_media_of m) m.array.epoch Fence does.start old.history
  leaving_begins =
      leaves_begins (unseated m.array.geometry kept change) (current_media_of m) m.array.epoch leaving m does.start old.history
      (untouched_begins before kept change m old.history is tolerated) does.leaves below

  leaving_left : (c : List Happening) → IsMoment old.history c new.history → (image : Image) → CrashMayLeave c image
      → IsConsistentUnderReassembly (unseated m.array.geometry kept change) (Made image ∷ [])
  leaving_left =
      fence_left (unseated m.array.geometry kept change) refl (current_media_of m) m.array.epoch does.establishes.gone does.start last old.history new.history
      leaving_begins issued

  leaving_ended : ¬ IsTrue (stopped new.history) → IsConsistentUnderReassembly (unseated m.array.geometry kept change) new.history
  leaving_ended =
      fence_ended (unseated m.array.geometry kept change) refl (current_media_of m) m.array.epoch does.establishes.gone does.start last old.history new.history
      leaving_begins issued

  -- WHERE IT ISN'T REFUSED

  module _ (fine : refusal_of answer ≡ None) (going : ¬ IsTrue (stopped new.history)) where
    done : Establishes Fence does.start last None old new
    done = establishes leaving before (opened_with m) last answer old new does fine honest is.history

    stands : StandsWherever Fence done.gone does.start last old.history new.history
    stands = established Fence does.start last old new done honest (λ slot never. absurd (cc))

    own_begins : BeginsWherever (unseated does.start.array.geometry kept change) (current_media_of m) m.array.epoch Fence does.start old.history
    own_begins =
        subst (λ (y : Geometry). BeginsWherever (unseated y kept change) (current_media_of m) m.array.epoch Fence does.start old.history)
        (sym (start_geometry leaving m does.start does.leaves)) leaving_begins

    leaving_synced : AreSynced last new.history
    leaving_synced =
        synced kept change (current_media_of m) m.array.epoch done.gone does.start last before old.history new.history own_begins stands going

    leaving_untouched : IsUntouched before kept change last new.history
    leaving_untouched =
        stands_untouched kept change (current_media_of m) m.array.epoch done.gone does.start last before old.history new.history own_begins stands going
        (amid_fenced leaving before (opened_with m) last answer old new does fine honest is.history is.amid)

-- SLOTS THAT ARE LEFT OUT, if there are any

module _ (before : List Happening) (kept : Content) (change : Option Change) (gone : Slots) (refusal : Option FenceFault) (m : Membership) (old : RackState)
    (y : Snapshot) (is : IsUntouched before kept change m old.history) (leaves : FencesGone gone refusal (snapshot m old) y) (honest : IsTrue y.told.honest)
    (below : (j : ℕ) → HasSlot gone j → j < m.array.geometry.n) (tolerated : IsTolerated m.array.geometry before old.history) where
  -- at each moment what a crash leaves represents the state,
  pub out_left : (c : List Happening) → IsMoment old.history c y.told.history → (image : Image) → CrashMayLeave c image
      → IsConsistentUnderReassembly (unseated m.array.geometry kept change) (Made image ∷ [])
  out_left =
      throughout leaves
      (λ h. (image : Image) → CrashMayLeave h image → IsConsistentUnderReassembly (unseated m.array.geometry kept change) (Made image ∷ []))
      (untouched_left before kept change m old.history is)
      (λ answer does. leaving_left before kept change gone m y.member answer old y.told is does honest below tolerated)

  -- and so does the rack in the end,
  pub out_ended : ¬ IsTrue (stopped y.told.history) → IsConsistentUnderReassembly (unseated m.array.geometry kept change) y.told.history
  out_ended going =
      ended leaves (IsConsistentUnderReassembly (unseated m.array.geometry kept change)) (untouched_stands before kept change m old.history is)
      (λ answer does. leaving_ended before kept change gone m y.member answer old y.told is does honest below tolerated going)

  -- from where the recovery goes on, if it isn't refused
  module _ (fine : refusal ≡ None) (going : ¬ IsTrue (stopped y.told.history)) where
    pub out_untouched : IsUntouched before kept change y.member y.told.history
    out_untouched = by leaves
      where
        by : FencesGone gone refusal (snapshot m old) y → IsUntouched before kept change y.member y.told.history
        by (NoneWas out same none) = subst (λ (p : Snapshot). IsUntouched before kept change p.member p.told.history) (sym same) is
        by (Fenced j has answer refused does) =
            leaving_untouched before kept change gone m y.member answer old y.told is does honest below tolerated (sym refused ∙ fine) going

    pub out_synced : (j : ℕ) → HasSlot gone j → AreSynced y.member y.told.history
    out_synced j has = by leaves
      where
        by : FencesGone gone refusal (snapshot m old) y → AreSynced y.member y.told.history
        by (NoneWas out same none) = absurd (out j has)
        by (Fenced i other answer refused does) =
            leaving_synced before kept change gone m y.member answer old y.told is does honest below tolerated (sym refused ∙ fine) going
